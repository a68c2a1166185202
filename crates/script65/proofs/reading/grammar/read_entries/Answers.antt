use Rattle.std.proofs.Common.{◌<◌, ◌-◌, length, arith, Err, Ok}
use Rattle.std.proofs.lemmas.Result.{err_from_is_err_and}
use Rattle.script65.specs.Faults.{is_system_error}
use Rattle.script65.specs.Scripts.{HasEntries}
use Rattle.script65.proofs.ListLemmas.{unless_map}
use Rattle.script65.proofs.Steps.{not_end, reads_end, reads_fault, reads_on, still_fresh}
use Rattle.script65.proofs.GrammarEquivalence.{has_of}
use Rattle.script65.proofs.reading.grammar.read_entries.Goals as goal

pub returns-in_err-next : goal.returns-in_err-next
returns-in_err-next c =
    let p = err_from_is_err_and c.from_residual.result c.from_residual.ensures.1 in
    let e = c.in_err-next.field-0.0 in
    rw (p.1, p.2) (unless_map _ (HasEntries c.args.bytes.now (Err e)) (is_system_error e) (λ h. has_of c.args.bytes.now (Err e) (c.tokens.invariant.so_far (Err e) h))
    (reads_fault c.args.bytes.now c.tokens.entries c.tokens.state c.tokens.at c.token_at-token.result c.token_at-token.ensures.value e c.in_err-next.ensures))

pub returns-in_default : goal.returns-in_default
returns-in_default c =
    has_of c.args.bytes.now (Ok c.step.new.entries)
    (c.tokens.invariant.so_far (Ok c.step.new.entries)
    (reads_end c.args.bytes.now c.tokens.entries c.tokens.state c.tokens.at c.token_at-token.result c.token_at-token.ensures.value c.step.new.entries c.in_ok-next.field-0 c.in_ok-next.ensures c.in_default.is))

pub tokens-smaller : goal.tokens-smaller
tokens-smaller c =
    let some = c.token_at-token.ensures.some
    (not_end c.args.bytes.now c.tokens.entries c.tokens.state c.tokens.at c.token_at-token.result c.token_at-token.ensures.value c.step.new.entries c.in_ok-next.field-0 c.in-Some.next c.in_ok-next.ensures c.in-Some.is) in
    let less : length c.args.bytes.now - c.token_at-token.result.following < length c.args.bytes.now - c.tokens.at = omega (arith, some, c.token_at-token.ensures.within) in
    less

pub tokens-preserved : goal.tokens-preserved
tokens-preserved c = record {
  inside = c.token_at-token.ensures.within;
  new = still_fresh c.args.bytes.now c.tokens.entries c.tokens.state c.tokens.at c.token_at-token.result c.token_at-token.ensures.value c.step.new.entries c.in_ok-next.field-0 c.in-Some.next c.in_ok-next.ensures c.in-Some.is c.tokens.invariant.new;
  so_far = λ r h. c.tokens.invariant.so_far r (reads_on c.args.bytes.now c.tokens.entries c.tokens.state c.tokens.at c.token_at-token.result c.token_at-token.ensures.value c.step.new.entries c.in_ok-next.field-0 c.in-Some.next c.in_ok-next.ensures c.in-Some.is r h);
}
