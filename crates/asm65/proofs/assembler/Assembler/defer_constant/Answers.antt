use Rattle.std.proofs.Common.{◌≡◌, ◌∙◌, [], ◌∷◌, Option, None, Some, refl, subst, sym}
use Rattle.std.specs.Prelude.{OnOk, is_some, true}
use Rattle.syntax65.specs.Trees.{Tree}
use Rattle.syntax65.specs.declared.source_location.SourceLocation.{SourceLocation}
use Rattle.object65.specs.Form.{Form}
use Rattle.semantics65.specs.Contents.{declaration_content}
use Rattle.semantics65.specs.declared.contexts.Context.{Context}
use Rattle.semantics65.specs.Views.{location_in}
use Rattle.semantics65.specs.Module.{constant_definition, expression_value}
use Rattle.sources65.proofs.Resolving.{final_settles}
use Rattle.semantics65.specs.Norms.{IsFinal}
use Rattle.semantics65.specs.Symbols.{Symbols}
use Rattle.symbols65.specs.Evaluations.{HasFinal}
use Rattle.symbols65.proofs.Finals.{within_final}
use Rattle.symbols65.specs.Views.{table_of}
use Rattle.asm65.specs.declared.assembler.Assembler.{Assembler}
use Rattle.asm65.specs.Internal.AssemblerState.{EmitsPieces}
use Rattle.asm65.proofs.PieceEmission.{fed_enters, says_nothing}
use Rattle.asm65.proofs.DeferredPieces.{waits_enters}
use Rattle.ast65.proofs.Lists.{on_ok}
use Rattle.asm65.proofs.assembler.Assembler.defer_constant.Goals as goal

-- if a form was found, it is final
final_there : (y : Symbols) (s : Context) (e : Tree) (o : Option Form) → is_some o ≡ true → HasFinal y s (Some e) o → (f : Form) × IsFinal y s e f
final_there y s e None q h = absurd cc
final_there y s e (Some f) q h = (f, within_final y s e f h)

pub returns-then-is_some-clause-entered : goal.returns-then-is_some-clause-entered
returns-then-is_some-clause-entered c =
    let old : Assembler = c.args.self.now in
    let location : SourceLocation = location_in c.args.site.at.file.now c.args.site.at.line in
    let s : Context = c.args.site.context in
    let e : Tree = c.args.value.now in
    let found = final_there (table_of old.symbols) s e c.args.form.now (sym c.is_some.ensures ∙ c.if-is_some.true) c.requires in
    fed_enters old old.sections location s (expression_value constant_definition e) (declaration_content []) refl (says_nothing old.sections) (final_settles (table_of old.symbols) location s constant_definition e found.0 (declaration_content []) found.1 refl)

pub returns-clause-entered : goal.returns-clause-entered
returns-clause-entered c =
    let old : Assembler = c.args.self.now in
    let new : Assembler = c.defer.new.assembler in
    let location : SourceLocation = location_in c.args.site.at.file.now c.args.site.at.line in
    let s : Context = c.args.site.context in
    subst (λ (e : Tree). OnOk c.defer.result (EmitsPieces location s (expression_value constant_definition e ∷ []) old new)) c.in_ok-value.ensures
    (on_ok c.defer.result (λ kept. waits_enters old new location s (expression_value constant_definition c.in_ok-value.value) kept) c.defer.ensures.deferred)
