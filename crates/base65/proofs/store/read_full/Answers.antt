use Rattle.std.proofs.lemmas.Grind.{common_steps}
use Rattle.std.proofs.Common.{◌≡◌, ◌+◌, ◌-◌, ◌≤◌, ◌∙◌, length, arith, rules, length-drop}
use Rattle.base65.proofs.BufferFill.{told_more, told_full, length-put_mid}
use Rattle.base65.proofs.store.read_full.Goals as goal

pub fill-preserved : goal.fill-preserved
fill-preserved g c =
    let rest : c.fill.done + length c.read_at.new.buf ≡ length c.fill.buf = search (rules, length-drop) in
    let len : length c.fill.buf - c.fill.done ≡ length c.read_at.new.buf = omega arith in
    let same = length-put_mid _ _ c.fill.buf c.read_at.new.buf rest len in
    let within : c.in_ok-n.n ≤ length c.read_at.new.buf = c.in_ok-n.ensures.bound in
    record {
      bound = omega arith;
      files = c.in_ok-n.ensures.files ∙ c.fill.invariant.files;
      count = search rules;
      read = told_more _ _ _ _ _ _ _ _ _ c.fill.invariant.files rest len within c.fill.invariant.read c.in_ok-n.ensures.read;
    }

pub returns-then-done-buf-clause-read : goal.returns-then-done-buf-clause-read
returns-then-done-buf-clause-read g c =
    let rest : c.fill.done + length c.read_at.new.buf ≡ length c.fill.buf = search (rules, length-drop) in
    let len : length c.fill.buf - c.fill.done ≡ length c.read_at.new.buf = omega arith in
    let within : c.in_ok-n.n ≤ length c.read_at.new.buf = c.in_ok-n.ensures.bound in
    told_full _ _ _ _ _ _ _ _ _ c.fill.invariant.files rest len within c.if-done-buf.true c.fill.invariant.read c.in_ok-n.ensures.read

pub returns-in_err-n-clause-failure_offset : goal.returns-in_err-n-clause-failure_offset
returns-in_err-n-clause-failure_offset g c = grind (arith, common_steps)

pub returns-then-n-eq0-clause-read : goal.returns-then-n-eq0-clause-read
returns-then-n-eq0-clause-read g c = grind (arith, common_steps)
