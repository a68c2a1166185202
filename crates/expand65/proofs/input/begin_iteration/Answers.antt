use Rattle.std.proofs.lemmas.Grind.{common_steps}
use Rattle.std.proofs.Common.{◌+◌, ◌∷◌, [], ◌++◌, map, ap, ◌∙◌, arith, refl, inl, inr, length}
use Rattle.expand65.specs.Replay.{tokens_in, substitution_of}
use Rattle.expand65.specs.Lines.{Substitution}
use Rattle.expand65.specs.declared.macro_replay.Replay.{Replay}
use Rattle.expand65.proofs.Iterations.{turns_over, next_turn, turn_begins}
use Rattle.expand65.proofs.input.begin_iteration.Goals as goal

pub returns-then-len-eq0-clause-next_item : goal.returns-then-len-eq0-clause-next_item
returns-then-len-eq0-clause-next_item c = turns_over c.args.replay.now c.args.next.now c.args.count (c.has_line.ensures.none c.if-has_line.false) (inl (omega (arith, c.len.ensures, c.if-len-eq0.true, ap (λ b. length b.lines) c.deref.ensures)))

pub returns-then-next-count-clause-next_item : goal.returns-then-next-count-clause-next_item
returns-then-next-count-clause-next_item c = turns_over c.args.replay.now c.args.next.now c.args.count (c.has_line.ensures.none c.if-has_line.false) (inr c.if-next-count.true)

pub returns-clause-same : goal.returns-clause-same
returns-clause-same c =
    let old = c.args.replay.now in
    let new : Replay = record { body = old.body; at = 0; arguments = c.push.new.self; count = old.count; locals = old.locals; number = old.number } in
    let one = ap (map tokens_in) (c.in_ok-push.ensures.ok ∙ ap (λ l. l ++ c.in_ok-number.number ∷ []) c.new-arguments.ensures) ∙ ap (λ t. t ∷ []) c.in_ok-number.ensures in
    let r = ap (λ a. let e : Substitution = record { params = (substitution_of old).params; arguments = a; count = (substitution_of old).count; locals = (substitution_of old).locals; number = old.number } in e) one in
    next_turn old new c.args.next.now c.args.count (c.has_line.ensures.none c.if-has_line.false) (omega (arith, c.if-next-count.false)) refl refl r

pub returns-then-has_line-clause-next_item : goal.returns-then-has_line-clause-next_item
returns-then-has_line-clause-next_item c = turn_begins c.args.replay.now c.args.next.now c.args.count (c.has_line.ensures.more c.if-has_line.true)

pub returns-clause-next_item : goal.returns-clause-next_item
returns-clause-next_item c =
    let old = c.args.replay.now in
    let new : Replay = record { body = old.body; at = 0; arguments = c.push.new.self; count = old.count; locals = old.locals; number = old.number } in
    turn_begins new (c.args.next.now + 1) c.args.count (omega (arith, c.len.ensures, c.if-len-eq0.false, ap (λ b. length b.lines) c.deref.ensures))

pub returns-clause-ready : goal.returns-clause-ready
returns-clause-ready c = grind (arith, common_steps)
