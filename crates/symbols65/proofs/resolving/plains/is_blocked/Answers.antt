use Rattle.std.proofs.Common.{◌≡◌, ◌∙◌, Option, None, Some, Bool, true, ap, refl, sym}
use Rattle.std.specs.Prelude.{is_some, not}
use Rattle.object65.specs.Form.{Form}
use Rattle.symbols65.specs.Views.{table_of}
use Rattle.symbols65.proofs.ExpansionDepths.{extends_itself}
use Rattle.symbols65.proofs.resolving.plains.is_blocked.Goals as goal

no_form : (o : Option Form) (b : Bool) → is_some o ≡ not b → b ≡ true → o ≡ None
no_form None b h e = refl
no_form (Some f) b h e = (let never = h ∙ ap not e in absurd cc)

pub returns-in-Some-cached_plain_form : goal.returns-in-Some-cached_plain_form
returns-in-Some-cached_plain_form c = λ yes.
    (let y = table_of c.args.symbols.now in
    let none = no_form c.in-Some-cached_plain_form.form c.is_none.result c.is_none.ensures yes in
    c.in-Some.ensures y (extends_itself y) (sym c.in-Some-cached_plain_form.ensures ∙ none))
