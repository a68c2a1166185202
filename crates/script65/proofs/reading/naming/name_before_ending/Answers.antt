use Rattle.std.proofs.Common.{ℕ, List, ◌++◌, ap, ◌∙◌, sym}
use Rattle.std.specs.Prelude.{codes}
use Rattle.script65.proofs.Members.{before_ending, after_front, match_map, no_ending, same_rest}
use Rattle.script65.proofs.reading.naming.name_before_ending.Goals as goal

pub returns : goal.returns
returns c =
    let front = after_front c.args.name.now c.in_ok-strip_prefix.field-0.now c.in_ok-strip_prefix.ensures.cases.0 c.in_ok-strip_prefix.ensures.cases.1 in
    match_map c.strip_suffix.result _ _ _ _
    (λ none n is. no_ending _ n c.args.ending.now none (same_rest _ _ (sym front ∙ is)))
    (λ x some. front ∙ ap (λ (l : List ℕ). codes "__" ++ l) (before_ending _ x.now c.args.ending.now some.0 some.1))
    c.strip_suffix.ensures.cases
