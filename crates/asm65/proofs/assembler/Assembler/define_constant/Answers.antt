use Rattle.std.proofs.Common.{◌≡◌, [], ◌∷◌, ℕ, IfSome, Option, None, Some, length, subst, sym, ap, refl}
use Rattle.syntax65.specs.declared.source_location.SourceLocation.{SourceLocation}
use Rattle.semantics65.specs.declared.contexts.Context.{Context}
use Rattle.object65.specs.Form.{Form}
use Rattle.syntax65.specs.Trees.{Tree}
use Rattle.semantics65.specs.Symbols.{Definition, Symbols, named}
use Rattle.semantics65.specs.Views.{location_in}
use Rattle.semantics65.specs.Module.{constant_definition, expression_value}
use Rattle.std.specs.Result.{result_ok}
use Rattle.symbols65.specs.Evaluations.{HasFinal}
use Rattle.symbols65.specs.Resolving.{IsBlocked, IsFinalWithin}
use Rattle.symbols65.specs.declared.table.symbols.Symbols as held
use Rattle.symbols65.specs.Views.{table_of, with_definition}
use Rattle.asm65.specs.declared.assembler.Assembler.{Assembler}
use Rattle.asm65.proofs.SymbolUpdates.{turns_after}
use Rattle.ast65.proofs.Lists.{on_ok}
use Rattle.asm65.proofs.assembler.Assembler.define_constant.Goals as goal

held_final : (y : Symbols) (s : Context) (e : Tree) (o : Option Form) (f : Form) → o ≡ Some f → HasFinal y s (Some e) o → IsFinalWithin (length y.definitions) y s e f
held_final y s e None f is h = absurd cc
held_final y s e (Some g) f is h = (let same : g ≡ f = cc in subst (IsFinalWithin (length y.definitions) y s e) same h)

blocks : (P : ℕ → Type 0) (o : Option ℕ) (r : ℕ) → o ≡ Some r → IfSome o P → P r
blocks P None r is h = absurd cc
blocks P (Some q) r is h = (let same : q ≡ r = cc in subst P same h)

pub define-requires-clause-form : goal.define-requires-clause-form
define-requires-clause-form c = (
  (λ f e z more.
      ap result_ok
      (subst (λ (y : held.Symbols). IsFinalWithin (length (table_of y).definitions) (table_of y) c.args.site.context c.args.value f) (sym c.in_ok-defer_constant.ensures.tables.symbols)
      (held_final (table_of c.args.self.now.symbols) c.args.site.context c.args.value c.args.form f e c.requires.form) z more)),
  (λ r is z more none. blocks (IsBlocked (table_of c.defer_constant.new.self.symbols) c.args.site.context c.args.value) c.blocker-blocker.result r is c.blocker-blocker.ensures z more none),
)

pub returns : goal.returns
returns c =
    let old : Assembler = c.args.self.now in
    let mid : Assembler = c.defer_constant.new.self in
    let location : SourceLocation = location_in c.args.site.at.file.now c.args.site.at.line in
    let s : Context = c.args.site.context in
    let d : Definition = record { key = named s.scope c.args.name.now; value = Some c.args.value; context = s; size = c.args.size } in
    on_ok c.define.result (λ table.
    turns_after location s (expression_value constant_definition c.args.value ∷ []) (λ y. with_definition y d) old mid (record mid { symbols = c.define.new.symbols }) c.in_ok-defer_constant.ensures.entered (record { cursor = refl; sections = refl; texts = refl }) table)
    c.define.ensures
