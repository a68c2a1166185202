use Rattle.std.proofs.Common.{get_or, arith, refl, sym, ◌∙◌, inl, inr}
use Rattle.std.proofs.lemmas.List.{take_rest}
use Rattle.syntax65.proofs.FirstToken.{eqb_is}
use Rattle.syntax65.proofs.UniqueKind.{unnamed_here, IsSign}
use Rattle.syntax65.proofs.lexing.positions.colon_at.Goals as goal
use Rattle.syntax65.proofs.lexing.positions.colon_at.Goals.{then-here-eq43, else-here-eq43}

pub returns-then-here-eq45 : goal.returns-then-here-eq45
returns-then-here-eq45 c = λ first.
    let tail = take_rest c.args.here.now 2 in
    let sign : IsSign (get_or c.args.here.now 1 0) = elim c.if-here-eq43.branch [ then-here-eq43 w ↦ inl w.if-here-eq43.true | else-here-eq43 w ↦ inr (eqb_is _ _ (sym w.value-is ∙ c.if-here-eq45.true)) ] in
    record { longest = unnamed_here first c.args.here.now (get_or c.args.here.now 1 0) c.run_len.result c.requires c.if-here-gt1.true refl sign (rw tail at c.run_len.ensures.count); short = omega arith; value = tt }
