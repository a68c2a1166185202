use Rattle.std.proofs.Common.{[]}
use Rattle.base65.specs.declared.action.Action.TheVariants as action
use Rattle.semantics65.specs.Views.{location_in}
use Rattle.semantics65.specs.Module.{datum, expression_value}
use Rattle.asm65.proofs.PieceEmission.{emitted_at_once, tried_waits}
use Rattle.ast65.proofs.Lists.{on_ok}
use Rattle.asm65.proofs.emission.statements.emit_element.Goals as goal

pub returns-then-branch-clause-entered : goal.returns-then-branch-clause-entered
returns-then-branch-clause-entered c =
    emitted_at_once c.args.assembler.now c.emit_value.new.assembler (location_in c.args.site.at.file.now c.args.site.at.line) c.args.site.context (expression_value (datum c.args.width) c.args.value) _
    (c.in_ok-emit_value.ensures.emitted c.args.value action.Error [] c.requires) c.if-branch.true

pub returns-clause-entered : goal.returns-clause-entered
returns-clause-entered c =
    let location = location_in c.args.site.at.file.now c.args.site.at.line in
    on_ok c.defer.result (λ waits. tried_waits c.args.assembler.now c.emit_value.new.assembler c.defer.new.assembler location c.args.site.context (expression_value (datum c.args.width) c.args.value) _
    (c.in_ok-emit_value.ensures.emitted c.args.value action.Error [] c.requires) c.if-branch.false waits) c.defer.ensures.deferred
