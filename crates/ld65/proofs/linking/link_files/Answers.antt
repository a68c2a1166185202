use Rattle.std.proofs.Common.{ℕ, List, Ok, Err, subst}
use Rattle.std.proofs.lemmas.Result.{err_from_is_err_and}
use Rattle.base65.specs.Outcome.{Unless}
use Rattle.cli65.specs.Line.{link_view}
use Rattle.script65.specs.Faults.{is_script_system_error}
use Rattle.script65.specs.Scripts.{IsScript}
use Rattle.ld65.proofs.LineInputs.{named_line, script_ok, script_err, script_unread}
use Rattle.ld65.proofs.linking.link_files.Goals as goal

pub returns-in_err-text-clause-linked : goal.returns-in_err-text-clause-linked
returns-in_err-text-clause-linked g c =
    let p = err_from_is_err_and c.from_residual.result c.from_residual.ensures.1 in
    rw (p.1, p.2) (script_unread _ (link_view c.args.line.now) c.in_err-text.field-0.0 c.in_err-text.ensures.read)

pub returns-in_err-script-clause-linked : goal.returns-in_err-script-clause-linked
returns-in_err-script-clause-linked g c =
    let p = err_from_is_err_and c.from_residual-in_err-script.result c.from_residual-in_err-script.ensures.1 in
    let e = c.in_err-script.field-0.0 in
    let is = subst (λ (text : List ℕ). Unless (is_script_system_error e) (IsScript text (Err e))) c.as_slice.ensures c.in_err-script.ensures in
    rw (p.1, p.2) (script_err _ (link_view c.args.line.now) c.in_ok-text.text e c.in_ok-text.ensures.read is)

pub returns-clause-linked : goal.returns-clause-linked
returns-clause-linked g c =
    let is = subst (λ (text : List ℕ). IsScript text (Ok c.in_ok-script.script)) c.as_slice.ensures c.in_ok-script.ensures in
    script_ok _ _ (link_view c.args.line.now) c.in_ok-text.text c.in_ok-script.script _ c.in_ok-text.ensures.frame.files c.in_ok-text.ensures.read is c.link_inputs.ensures.linked

pub returns-clause-named : goal.returns-clause-named
returns-clause-named g c =
    let is = subst (λ (text : List ℕ). IsScript text (Ok c.in_ok-script.script)) c.as_slice.ensures c.in_ok-script.ensures in
    named_line _ _ (link_view c.args.line.now) c.in_ok-text.text c.in_ok-script.script _ c.link_inputs.result c.in_ok-text.ensures.frame.files c.in_ok-text.ensures.read is c.link_inputs.ensures.frame.named
