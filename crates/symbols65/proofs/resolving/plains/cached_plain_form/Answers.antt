use Rattle.std.proofs.Common.{◌≡◌, ◌∙◌, length, nat_eq, Some, None, ap, arith}
use Rattle.std.proofs.lemmas.Grind.{common_steps}
use Rattle.indexmap.specs.IndexMap.{get}
use Rattle.semantics65.specs.Norms.{defined_form}
use Rattle.symbols65.specs.declared.table.symbols.SearchEntry.TheVariants.{KnownForm, NoForm}
use Rattle.symbols65.specs.Tables.{entry_at}
use Rattle.symbols65.specs.Views.{table_of}
use Rattle.symbols65.proofs.Entries.{mark_says}
use Rattle.symbols65.proofs.FormSearch.{plain_known}
use Rattle.symbols65.proofs.resolving.plains.cached_plain_form.Goals as goal

pub returns-in-Some-KnownForm : goal.returns-in-Some-KnownForm
returns-in-Some-KnownForm c =
    let t = c.args.symbols.now in
    let y = table_of t in
    let j = c.args.index in
    let f = c.in-Some-KnownForm.form in
    let at : get nat_eq t.searched j ≡ Some (KnownForm f) = grind (arith, common_steps) in
    let value = plain_known (defined_form y j) (Some f) (t.searches_hold j (Some f) (ap (entry_at (length y.definitions)) at)) in
    grind (arith, common_steps)

pub returns-in-Some-NoForm : goal.returns-in-Some-NoForm
returns-in-Some-NoForm c =
    let t = c.args.symbols.now in
    let y = table_of t in
    let j = c.args.index in
    let n = c.in-Some-NoForm.count in
    let at : get nat_eq t.searched j ≡ Some (NoForm n) = grind (arith, common_steps) in
    let same : n ≡ length y.definitions = grind (arith, common_steps) in
    plain_known (defined_form y j) None (t.searches_hold j None (ap (entry_at (length y.definitions)) at ∙ mark_says (length y.definitions) n same))
