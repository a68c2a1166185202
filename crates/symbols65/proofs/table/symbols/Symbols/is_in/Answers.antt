use Rattle.std.proofs.Common.{◌≡◌, ◌∙◌, ap, arith, option_map, sym}
use Rattle.std.proofs.lemmas.Bool.Decides.{nat_tests}
use Rattle.std.specs.Option.{unwrap_or}
use Rattle.semantics65.specs.Symbols.{named, unnamed_at}
use Rattle.symbols65.specs.Tables.{key_in, interned_name}
use Rattle.symbols65.specs.Views.{interned_names_of}
use Rattle.symbols65.proofs.table.symbols.Symbols.is_in.Goals as goal

pub returns-in-Some-Named-default : goal.returns-in-Some-Named-default
returns-in-Some-Named-default c = λ yes.
    (let ws = interned_names_of c.args.self.now in
    let e = c.in-Some-Named-default in
    let same : e.own ≡ c.args.scope = grind (arith, nat_tests) in (
      interned_name ws e.field-0-0-1,
      ap (λ o. unwrap_or (option_map (λ q. key_in ws q.0) o) (unnamed_at 0)) (sym e.ensures.entry) ∙ ap (key_in ws) e.field-0-0-is ∙ ap (λ q. named q (interned_name ws e.field-0-0-1)) same,
    ))
