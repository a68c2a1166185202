use Rattle.std.proofs.Common.{◌≡◌, ◌∙◌, Some, refl, ap}
use Rattle.std.specs.Prelude.{true}
use Rattle.semantics65.specs.Symbols.{Definition, Scope, Symbols, named}
use Rattle.semantics65.specs.Layout.{opened_twice}
use Rattle.symbols65.specs.Views.{table_of, with_definition, with_scope}
use Rattle.asm65.specs.declared.assembler.Assembler.{Assembler}
use Rattle.asm65.specs.Internal.AssemblerState.{label_definition}
use Rattle.asm65.proofs.SymbolUpdates.{holds_grown}
use Rattle.ast65.proofs.Lists.{on_ok}
use Rattle.asm65.proofs.assembler.Assembler.open_proc.Goals as goal

pub returns : goal.returns
returns c =
    let old : Assembler = c.args.self.now in
    let mid : Assembler = record old { symbols = c.define.new.symbols } in
    let new : Assembler = record mid { symbols = c.open_scope.new.self } in
    let key = named c.args.context.scope c.args.name.now in
    let d : Definition = label_definition key c.args.context c.args.size in
    let b : Scope = record { within = c.args.context.scope; name = Some c.args.name.now; is_proc = true } in
    let first : table_of mid.symbols ≡ with_definition (table_of old.symbols) d = c.in_ok-define.ensures ∙ ap (with_definition (table_of old.symbols)) (c.label.ensures.seen key) in
    let once = ap (λ (y : Symbols). opened_twice y.scopes c.args.context.scope (Some c.args.name.now)) first ∙ c.requires.unopened in
    on_ok c.open_scope.result (λ opened location count t h inside unnamed.
    (let y : Symbols = with_definition t.symbols d in
    let here : table_of mid.symbols ≡ y = first ∙ ap (λ (z : Symbols). with_definition z d) h.symbols in
    let held = holds_grown count t old mid y h (record { cursor = refl; sections = refl; texts = refl }) here h.inside unnamed in
    (t, refl, holds_grown count (record t { symbols = y }) mid new (with_scope y b) held (record { cursor = refl; sections = refl; texts = refl }) (opened once ∙ ap (λ (z : Symbols). with_scope z b) here) inside unnamed)))
    c.open_scope.ensures
