use Rattle.std.proofs.Common.{Ok, subst, sym}
use Rattle.ast65.specs.declared.language.Statement.{Statement}
use Rattle.ast65.specs.declared.language.Statement.TheVariants as statement
use Rattle.semantics65.specs.Views.{location_in}
use Rattle.semantics65.specs.Module.{asserted, expression_value}
use Rattle.symbols65.specs.Evaluations.{HasFinal, first_tree}
use Rattle.symbols65.specs.Views.{table_of}
use Rattle.asm65.proofs.PieceEmission.{emitted_at_once, tried_waits}
use Rattle.asm65.proofs.SymbolUpdates.{adds_pieces, nothing_follows, puts_nothing, taken_as}
use Rattle.ast65.proofs.Lists.{on_ok}
use Rattle.asm65.proofs.assembler.Assembler.emit_statement.Goals as goal

pub returns-in-Instruction : goal.returns-in-Instruction
returns-in-Instruction c =
    let x : Statement = statement.Instruction c.in-Instruction.mnemonic c.in-Instruction.operand in
    taken_as _ _ c.args.analysis.measured _ _ c.emit_encoded.result x c.args.statement (sym c.in-Instruction.is) (λ h. adds_pieces _ _ c.args.analysis.measured _ _ x (λ y. nothing_follows y) h) c.emit_encoded.ensures

pub returns-in-Values : goal.returns-in-Values
returns-in-Values c =
    let x : Statement = statement.Values c.in-Values.width c.in-Values.items in
    taken_as _ _ c.args.analysis.measured _ _ c.emit_values.result x c.args.statement (sym c.in-Values.is) (λ h. adds_pieces _ _ c.args.analysis.measured _ _ x (λ y. nothing_follows y) h) c.emit_values.ensures

pub returns-in-Reserve : goal.returns-in-Reserve
returns-in-Reserve c =
    let location = location_in c.args.site.at.file.now c.args.site.at.line in
    let x : Statement = statement.Reserve c.in-Reserve.count c.in-Reserve.value in
    taken_as _ _ c.args.analysis.measured _ _ c.emit_reserve.result x c.args.statement (sym c.in-Reserve.is) (λ h. adds_pieces location c.args.site.context c.args.analysis.measured _ _ x (λ y. nothing_follows y) (h location)) c.emit_reserve.ensures

pub returns-in-Align : goal.returns-in-Align
returns-in-Align c =
    let location = location_in c.args.site.at.file.now c.args.site.at.line in
    let x : Statement = statement.Align c.in-Align.alignment c.in-Align.value in
    taken_as _ _ c.args.analysis.measured _ _ c.emit_reserve-in-Align.result x c.args.statement (sym c.in-Align.is) (λ h. adds_pieces location c.args.site.context c.args.analysis.measured _ _ x (λ y. nothing_follows y) (h location)) c.emit_reserve-in-Align.ensures

pub returns-in-Incbin : goal.returns-in-Incbin
returns-in-Incbin c =
    let location = location_in c.args.site.at.file.now c.args.site.at.line in
    let x : Statement = statement.Incbin c.in-Incbin.bytes c.in-Incbin.start c.in-Incbin.len in
    taken_as _ _ c.args.analysis.measured _ _ c.emit_incbin.result x c.args.statement (sym c.in-Incbin.is) (λ h. adds_pieces location c.args.site.context c.args.analysis.measured _ _ x (λ y. nothing_follows y) (h location)) c.emit_incbin.ensures

pub returns-then-branch : goal.returns-then-branch
returns-then-branch c =
    let location = location_in c.args.site.at.file.now c.args.site.at.line in
    let s = c.args.site.context in
    let m = c.args.analysis.measured in
    let old = c.args.self.now in
    let new = c.emit_value.new.assembler in
    let x : Statement = statement.Assert c.in-Assert.value c.in-Assert.action c.in-Assert.text in
    let final = subst (λ (z : Statement). HasFinal (table_of old.symbols) s (first_tree z) c.args.analysis.form) c.in-Assert.is c.requires.form in
    let put = c.in_ok-emit_value-in-Assert.ensures.emitted c.in-Assert.value c.in-Assert.action c.in-Assert.text final in
    let holds = emitted_at_once old new location s (expression_value (asserted c.in-Assert.action c.in-Assert.text) c.in-Assert.value) _ put c.if-branch.true in
    taken_as location s m old new (Ok tt) x c.args.statement (sym c.in-Assert.is) (λ h. adds_pieces location s m old new x (λ y. nothing_follows y) h) holds

pub returns-else-branch : goal.returns-else-branch
returns-else-branch c =
    let location = location_in c.args.site.at.file.now c.args.site.at.line in
    let s = c.args.site.context in
    let m = c.args.analysis.measured in
    let old = c.args.self.now in
    let mid = c.emit_value.new.assembler in
    let new = c.defer.new.assembler in
    let x : Statement = statement.Assert c.in-Assert.value c.in-Assert.action c.in-Assert.text in
    let final = subst (λ (z : Statement). HasFinal (table_of old.symbols) s (first_tree z) c.args.analysis.form) c.in-Assert.is c.requires.form in
    let put = c.in_ok-emit_value-in-Assert.ensures.emitted c.in-Assert.value c.in-Assert.action c.in-Assert.text final in
    let entered = on_ok c.defer.result (λ waits. tried_waits old mid new location s (expression_value (asserted c.in-Assert.action c.in-Assert.text) c.in-Assert.value) _ put c.if-branch.false waits) c.defer.ensures.deferred in
    taken_as location s m old new c.defer.result x c.args.statement (sym c.in-Assert.is) (λ h. adds_pieces location s m old new x (λ y. nothing_follows y) h) entered

pub define_names-requires-clause-named : goal.define_names-requires-clause-named
define_names-requires-clause-named c =
    let x = c.in_default in
    puts_nothing c.args.statement x.not-Instruction x.not-Values x.not-Reserve x.not-Align x.not-Incbin x.not-Assert
