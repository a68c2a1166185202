-- The table of the blocks of scripts, their attributes, and the kinds of their values.
use Rattle.std.specs.Prelude.{ℕ, true, false, List, [], ◌∷◌, codes, find, Option}
use Rattle.std.specs.Option.{option_map}
use Rattle.std.specs.Str.{str_eq_ignore_ascii_case}
use Rattle.script65.specs.declared.script.SegmentType.TheVariants.{ReadOnly, ReadWrite, Bss, ZeroPage}
pub use Rattle.script65.specs.declared.reading.keyword_tables.Block.{Block}
pub use Rattle.script65.specs.declared.reading.keyword_tables.Block.TheVariants.{Memory as memory, Segments as segments, Symbols as symbols}
-- the type of a symbol
pub use Rattle.script65.specs.declared.reading.keyword_tables.SymbolType.{SymbolType}
pub use Rattle.script65.specs.declared.reading.keyword_tables.SymbolType.TheVariants.{Export as exported, Weak as weak, Import as imported}
-- the value of a keyword
pub use Rattle.script65.specs.declared.reading.keyword_tables.KeywordValue.{KeywordValue}
pub use Rattle.script65.specs.declared.reading.keyword_tables.KeywordValue.TheVariants.{Flag as flag, Access as access, Role as role, Width as width}
-- The value of an attribute. A sum without names is a number; one with a name has a value only once areas are
-- placed.
pub use Rattle.script65.specs.declared.reading.entries.Value.{Value}
pub use Rattle.script65.specs.declared.reading.entries.Value.TheVariants.{Number as number, Byte as byte, Sum as unknown_sum, Keyword as keyword, Area as area, File as file, Output as output_file}
-- the kinds of values of attributes: a number from one to another, a byte, a sum, one of some keywords, the
-- name of an area, a file
pub use Rattle.script65.specs.declared.reading.keyword_tables.ValueKind.{ValueKind}
pub use Rattle.script65.specs.declared.reading.keyword_tables.ValueKind.TheVariants.{Number as number_from, Byte as a_byte, Sum as a_sum, OneOf as one_of, Area as an_area, File as a_file}
pub use Rattle.script65.specs.declared.reading.keyword_tables.KeywordSet.{KeywordSet}
pub use Rattle.script65.specs.declared.reading.keyword_tables.KeywordSet.TheVariants.{Flag as yes_or_no, AreaAccess as area_access, RowAccess as row_access, Role as symbol_role, Width as address_width}

-- words are compared without regard to case
abbrev pub find_keyword : {A : Type 0} → List ℕ → List (List ℕ × A) → Option (List ℕ × A)
find_keyword {A} text rows = find (λ (row : List ℕ × A). str_eq_ignore_ascii_case text row.0) rows

-- the value of a word in a list of keywords
abbrev pub value_of_keyword : {A : Type 0} → List ℕ → List (List ℕ × A) → Option A
value_of_keyword {A} text rows = option_map (λ (row : List ℕ × A). row.1) (find_keyword text rows)

abbrev pub blocks : List (List ℕ × Block)
blocks = (codes "memory", memory) ∷ (codes "segments", segments) ∷ (codes "symbols", symbols) ∷ []

-- the values of keywords: `yes` or `no`; the type of an area or of a segment; the type of a symbol; the size
-- of an address, which has no effect
abbrev pub keywords : KeywordSet → List (List ℕ × KeywordValue)
keywords yes_or_no = (codes "yes", flag true) ∷ (codes "no", flag false) ∷ []
keywords area_access = (codes "ro", access ReadOnly) ∷ (codes "rw", access ReadWrite) ∷ []
keywords row_access =
    (codes "ro", access ReadOnly)
    ∷ (codes "rw", access ReadWrite)
    ∷ (codes "bss", access Bss)
    ∷ (codes "zp", access ZeroPage)
    ∷ []
keywords symbol_role =
    (codes "export", role exported) ∷ (codes "weak", role weak) ∷ (codes "import", role imported) ∷ []
keywords address_width =
    (codes "zp", width)
    ∷ (codes "zeropage", width)
    ∷ (codes "abs", width)
    ∷ (codes "absolute", width)
    ∷ []

-- the attributes of a block, and the kinds of their values
abbrev pub attributes : Block → List (List ℕ × ValueKind)
attributes memory =
    (codes "start", a_sum)
    ∷ (codes "size", a_sum)
    ∷ (codes "type", one_of area_access)
    ∷ (codes "file", a_file)
    ∷ (codes "fill", one_of yes_or_no)
    ∷ (codes "fillval", a_byte)
    ∷ (codes "define", one_of yes_or_no)
    ∷ []
attributes segments =
    (codes "load", an_area)
    ∷ (codes "run", an_area)
    ∷ (codes "type", one_of row_access)
    ∷ (codes "align", number_from 1 65536)
    ∷ (codes "align_load", number_from 1 65536)
    ∷ (codes "start", number_from 0 0xffffffff)
    ∷ (codes "offset", number_from 0 0xffffffff)
    ∷ (codes "fillval", a_byte)
    ∷ (codes "define", one_of yes_or_no)
    ∷ (codes "optional", one_of yes_or_no)
    ∷ []
attributes symbols =
    (codes "type", one_of symbol_role)
    ∷ (codes "value", number_from 0 0xffffffff)
    ∷ (codes "addrsize", one_of address_width)
    ∷ []
