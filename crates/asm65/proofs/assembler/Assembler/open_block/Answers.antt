use Rattle.std.proofs.Common.{[], refl}
use Rattle.std.specs.Prelude.{false}
use Rattle.std.specs.Option.{option_map}
use Rattle.semantics65.specs.Symbols.{Scope}
use Rattle.symbols65.specs.Views.{with_scope}
use Rattle.asm65.proofs.PieceEmission.{enters_none}
use Rattle.asm65.proofs.SymbolUpdates.{turns_after}
use Rattle.ast65.proofs.Lists.{on_ok}
use Rattle.asm65.proofs.assembler.Assembler.open_block.Goals as goal

pub returns : goal.returns
returns c =
    let old = c.args.self.now in
    let s = c.args.context in
    let b : Scope = record { within = c.args.context.scope; name = option_map (λ n. n.now) c.args.name; is_proc = false } in
    on_ok c.open_scope.result (λ opened location.
    turns_after location s [] (λ y. with_scope y b) old old (record old { symbols = c.open_scope.new.self }) (enters_none location s old) (record { cursor = refl; sections = refl; texts = refl }) (opened c.requires.new))
    c.open_scope.ensures
