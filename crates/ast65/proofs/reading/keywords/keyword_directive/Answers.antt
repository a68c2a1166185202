use Rattle.std.proofs.Common.{rules, ◌≡◌, ◌∙◌, ℕ, suc, ◌+◌, ◌<◌, Bool, true, false, Bor, List, [], Option, Some, if◌then◌else◌, length, get_or, map, drop, drop-cons, ap, sym, add-one, arith}
use Rattle.std.specs.Str.{str_eq_ignore_ascii_case}
use Rattle.base65.specs.declared.width.Width.TheVariants.{Byte}
use Rattle.ast65.specs.declared.reading.keywords.Directive.{Directive}
use Rattle.ast65.specs.declared.reading.keywords.Directive.TheVariants.{List as ListOf}
use Rattle.ast65.specs.declared.reading.keywords.ElementKind.TheVariants.{Values}
use Rattle.ast65.specs.Parsing.{keyword_directive}
use Rattle.ast65.proofs.reading.keywords.keyword_directive.Goals as goal

abbrev Row : Type 0
Row = Bor (List ℕ) × Directive

abbrev said : List Row → List ℕ → Option Directive
said table keyword = keyword_directive (map (λ row. (row.0.now, row.1)) table) keyword

-- the default for an index outside the table
abbrev none : Row
none = (record { ref_ptr = (0, 0); now = [] }, ListOf Values Byte)

at_row : (table : List Row) (i : ℕ) (keyword : List ℕ) (found : Bool) → i < length table → str_eq_ignore_ascii_case keyword (get_or table i none).0.now ≡ found → said (drop i table) keyword ≡ (if found then Some (get_or table i none).1 else said (drop (i + 1) table) keyword)
at_row table i keyword found lt is =
    rw add-one (ap (λ rows. said rows keyword) (drop-cons table i none lt)
    ∙ ap (λ (b : Bool). if b then Some (get_or table i none).1 else said (drop (suc i) table) keyword) is)

pub returns-then-eq_ignore_ascii_case : goal.returns-then-eq_ignore_ascii_case
returns-then-eq_ignore_ascii_case c =
    let same : str_eq_ignore_ascii_case c.args.keyword.now (get_or c.args.table.now c.loop-row.row-index none).0.now ≡ true = search rules in
    sym (at_row c.args.table.now c.loop-row.row-index c.args.keyword.now true (omega arith) same) ∙ c.loop-row.invariant

pub loop-row-preserved : goal.loop-row-preserved
loop-row-preserved c =
    let other : str_eq_ignore_ascii_case c.args.keyword.now (get_or c.args.table.now c.loop-row.row-index none).0.now ≡ false = search rules in
    sym (at_row c.args.table.now c.loop-row.row-index c.args.keyword.now false (omega arith) other) ∙ c.loop-row.invariant
