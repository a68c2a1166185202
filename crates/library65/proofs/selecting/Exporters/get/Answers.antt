use Rattle.std.proofs.Common.{◌≡◌, ◌<◌, ℕ, List, length, Option, Some, None, sym, rules}
use Rattle.std.specs.Prelude.{IfSome}
use Rattle.library65.specs.declared.index.Entry.{Entry}
use Rattle.library65.specs.Selection.{first_exporter}
use Rattle.library65.proofs.Selections.{exporter_below}
use Rattle.library65.proofs.selecting.Exporters.get.Goals as goal

below : (es : List Entry) (name : List ℕ) (r : Option ℕ) → r ≡ first_exporter es name → IfSome r (λ i. i < length es)
below es name None e = tt
below es name (Some i) e = exporter_below es name i (sym e)

pub returns-clause-within : goal.returns-clause-within
returns-clause-within c = below c.args.self.now.entries.now c.args.name.now c.copied.result (search rules)
