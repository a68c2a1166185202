use Rattle.std.proofs.Common.{◌≡◌, [], length}
use Rattle.syntax65.specs.Tokens.{lexemes}
use Rattle.semantics65.specs.Views.{location_in}
use Rattle.sources65.proofs.AssembledStatements.{some_tokens}
use Rattle.asm65.proofs.PeekedLines.{no_tokens, none_after, taken_after}
use Rattle.asm65.proofs.Runs.{some_there}
use Rattle.asm65.proofs.driver.assemble_nonempty_rest.Goals as goal

pub returns-then-is_empty-clause-transitions : goal.returns-then-is_empty-clause-transitions
returns-then-is_empty-clause-transitions g c = none_after (g.S.Store.files c.args.store.now) (g.S.Store.last_failure c.args.store.now) (location_in c.args.at.file.now c.args.at.line) (lexemes c.args.tokens.now) c.args.assembler.now (no_tokens c.args.tokens.now c.if-is_empty.ensures)

pub returns-clause-transitions : goal.returns-clause-transitions
returns-clause-transitions g c =
    let some : lexemes c.args.tokens.now ≡ [] → ⊥ = some_tokens c.args.tokens.now (some_there (length c.args.tokens.now) c.if-is_empty.ensures) in
    taken_after (g.S.Store.files c.args.store.now) (g.S.Store.last_failure c.assemble_rest.new.store) (location_in c.args.at.file.now c.args.at.line) (lexemes c.args.tokens.now) c.args.assembler.now c.assemble_rest.new.assembler c.assemble_rest.result some c.assemble_rest.ensures.read.taken c.assemble_rest.ensures.read.stopped
