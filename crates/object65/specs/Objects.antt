-- Objects as values: the sizes of their parts, and which are well-formed.
use Rattle.std.specs.Prelude.{◌≡◌, ℕ, ◌<◌, ◌^◌, ℤ, pos, negsuc, List, [], ◌∷◌, length, map, sum_by, Option, Some, None, IfSome, Bool, true, false, nat_eq, nat_lt, nat_le, int_le, ◌==◌, ◌&&◌, not, if◌then◌else◌, FitsSigned, ⊤}
use Rattle.std.specs.List.{list_all, list_any, AllByRecursion}
use Rattle.std.specs.Int.{w64, cast_unsigned}
use Rattle.std.specs.Cmp.Lexicographic.{pointwise}
use Rattle.std.specs.Str.{is_utf8}
use Rattle.byteorder.specs.Endian.{little_bytes, big_bytes}
use Rattle.object65.specs.declared.object.Object.{Object}
use Rattle.object65.specs.declared.object.Section.{Section}
use Rattle.object65.specs.declared.object.Origin.{Origin}
use Rattle.object65.specs.declared.object.Assert.{Assert}
use Rattle.object65.specs.declared.object.Fragment.{Fragment}
use Rattle.object65.specs.declared.object.Fragment.TheVariants.{Literal, Fill, Value}
use Rattle.base65.specs.declared.width.Width.{Width}
use Rattle.base65.specs.declared.width.Width.TheVariants.{Byte, Word, BigEndianWord, Dword, Branch}
use Rattle.object65.specs.Form.{Form, lit, sec, imp, prefix, binary, nodes}
use Rattle.object65.specs.Folding.{is_normal, has_valid_indices, is_literal, node_limit}
use Rattle.object65.specs.Record.{is_version}

-- ---- Values.

-- the size of a value, in bytes
abbrev pub width_len : Width → ℕ
width_len Byte = 1
width_len Word = 2
width_len BigEndianWord = 2
width_len Dword = 4
width_len Branch = 1

abbrev pub is_between : ℤ → ℤ → ℤ → Bool
is_between low high v = int_le low v && int_le v high

-- whether a value fits
abbrev pub fits_width : Width → ℤ → Bool
fits_width Byte v = is_between (pos 0) (pos 255) v
fits_width Word v = is_between (pos 0) (pos 65535) v
fits_width BigEndianWord v = is_between (pos 0) (pos 65535) v
fits_width Dword v = is_between (pos 0) (pos 4294967295) v
fits_width Branch v = is_between (negsuc 127) (pos 127) v

-- the encoding of a value that fits
abbrev pub value_bytes : Width → ℤ → List ℕ
value_bytes BigEndianWord v = big_bytes 2 (cast_unsigned w64 v)
value_bytes width v = little_bytes (width_len width) (cast_unsigned w64 v)

-- ---- Sizes.

abbrev pub fragment_len : Fragment → ℕ
fragment_len (Literal bytes) = length bytes
fragment_len (Fill n) = n
fragment_len (Value width origin form) = width_len width

abbrev pub section_len : Section → ℕ
section_len s = sum_by fragment_len s.fragments

-- the largest size of a section, in bytes
abbrev pub section_limit : ℕ
section_limit = 16777216

-- ---- Names.

abbrev pub is_printed : ℕ → Bool
is_printed b = nat_lt 0x20 b && nat_lt b 0x7f

-- 1 to 255 printable bytes, none of which is a blank
abbrev pub is_name : List ℕ → Bool
is_name name = nat_lt 0 (length name) && nat_lt (length name) 256 && list_all is_printed name

abbrev pub is_among : List (List ℕ) → List ℕ → Bool
is_among names name = list_any (λ n. pointwise nat_eq name n) names

-- names that satisfy a condition, none twice
abbrev pub are_distinct : (List ℕ → Bool) → List (List ℕ) → Bool
are_distinct passes [] = true
are_distinct passes (name ∷ names) = passes name && not (is_among names name) && are_distinct passes names

-- valid names, none twice
abbrev pub are_names : List (List ℕ) → Bool
are_names names = are_distinct is_name names

-- ---- Files and origins.

-- the longest name of a source file, in bytes
abbrev pub file_name_limit : ℕ
file_name_limit = 4096

-- it may be empty; `ObjectFits` states that it is UTF-8
abbrev pub is_file_name : List ℕ → Bool
is_file_name name = nat_le (length name) file_name_limit

-- version 1 has no files, and no version has two with one name
abbrev pub are_files_of : ℕ → List (List ℕ) → Bool
are_files_of version files = if version == 1 then length files == 0 else are_distinct is_file_name files

-- the file index of an origin, if it has one, is below this count
abbrev pub has_file : ℕ → Option ℕ → Bool
has_file files None = true
has_file files (Some k) = nat_lt k files

-- an origin has a file, except in version 1
abbrev pub has_file_by : ℕ → Option ℕ → Bool
has_file_by version None = version == 1
has_file_by version (Some k) = not (version == 1)

-- an origin in an object of this version with this many files
abbrev pub is_well_formed_origin : ℕ → ℕ → Origin → Bool
is_well_formed_origin version files origin = has_file_by version origin.file && has_file files origin.file

-- likewise a fragment; only values have an origin
abbrev pub has_well_formed_origin : ℕ → ℕ → Fragment → Bool
has_well_formed_origin version files (Literal bytes) = true
has_well_formed_origin version files (Fill n) = true
has_well_formed_origin version files (Value width origin form) = is_well_formed_origin version files origin

-- ---- Forms.

-- a form of an object with this many sections and imports
abbrev pub is_well_formed_form : ℕ → ℕ → Form → Bool
is_well_formed_form sections imports f = has_valid_indices sections imports f && is_normal f && nat_le (nodes f) node_limit

-- its numbers fit their types of 32 and 64 bits
abbrev pub FitsBits : Form → Type 0
FitsBits (lit v) = FitsSigned w64 v
FitsBits (sec k a) = (k < 2 ^ 32) × FitsSigned w64 a
FitsBits (imp j) = j < 2 ^ 32
FitsBits (prefix op f) = FitsBits f
FitsBits (binary op f g) = FitsBits f × FitsBits g

-- ---- Well-formed objects.

-- a fragment of an object with this many sections and imports
abbrev pub is_well_formed_fragment : ℕ → ℕ → Fragment → Bool
is_well_formed_fragment sections imports (Literal bytes) = nat_lt 0 (length bytes)
is_well_formed_fragment sections imports (Fill n) = nat_lt 0 n
is_well_formed_fragment sections imports (Value width origin form) = is_well_formed_form sections imports form && not (is_literal form)

-- neighbours that have to be one fragment
abbrev pub can_merge : Fragment → Fragment → Bool
can_merge (Literal a) (Literal b) = true
can_merge (Fill m) (Fill n) = true
can_merge f g = false

abbrev pub are_all_merged : List Fragment → Bool
are_all_merged [] = true
are_all_merged (f ∷ []) = true
are_all_merged (f ∷ g ∷ fs) = not (can_merge f g) && are_all_merged (g ∷ fs)

abbrev pub is_well_formed_section : ℕ → ℕ → Section → Bool
is_well_formed_section sections imports s = nat_le s.align 15 && nat_le (section_len s) section_limit && list_all (is_well_formed_fragment sections imports) s.fragments && are_all_merged s.fragments

abbrev pub is_well_formed_assert : ℕ → ℕ → Assert → Bool
is_well_formed_assert sections imports a = nat_lt (length a.text) 256 && is_well_formed_form sections imports a.form && not (is_literal a.form)

-- the conditions that are the same in both versions
abbrev pub has_well_formed_parts : Object → Bool
has_well_formed_parts o =
    let sections = length o.sections in
    let imports = length o.imports in
    are_names o.imports && are_names (map (λ s. s.name) o.sections) && are_names (map (λ e. e.name) o.exports)
    && list_all (is_well_formed_section sections imports) o.sections
    && list_all (λ e. is_well_formed_form sections imports e.form) o.exports
    && list_all (is_well_formed_assert sections imports) o.asserts

abbrev pub has_well_formed_origins : Object → Bool
has_well_formed_origins o =
    let is_good = is_well_formed_origin o.version (length o.files) in
    list_all (λ s. list_all (has_well_formed_origin o.version (length o.files)) s.fragments) o.sections
    && list_all (λ e. is_good e.origin) o.exports
    && list_all (λ a. is_good a.origin) o.asserts

-- an object that has an encoding
abbrev pub is_well_formed_object : Object → Bool
is_well_formed_object o = is_version o.version && are_files_of o.version o.files && has_well_formed_origins o && has_well_formed_parts o

abbrev pub OriginFits : Origin → Type 0
OriginFits origin = IfSome origin.file (λ k. k < 2 ^ 32) × (origin.line < 2 ^ 32)

abbrev pub FragmentFits : Fragment → Type 0
FragmentFits (Literal bytes) = ⊤
FragmentFits (Fill n) = n < 2 ^ 32
FragmentFits (Value width origin form) = OriginFits origin × FitsBits form

-- the numbers and texts of an object fit their types
pub record ObjectFits (o : Object) : Type 0 where
  -- the names of files are UTF-8
  pub files : AllByRecursion (λ name. is_utf8 name ≡ true) o.files
  pub sections : AllByRecursion (λ s. AllByRecursion FragmentFits s.fragments) o.sections
  pub exports : AllByRecursion (λ e. OriginFits e.origin × FitsBits e.form) o.exports
  pub asserts : AllByRecursion (λ a. OriginFits a.origin × FitsBits a.form) o.asserts
