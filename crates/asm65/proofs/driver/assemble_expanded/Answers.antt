use Rattle.std.proofs.Common.{ap, refl, ◌∙◌}
use Rattle.syntax65.specs.Tokens.{lexemes}
use Rattle.semantics65.specs.Views.{location_in}
use Rattle.expand65.specs.Replay.{tokens_in}
use Rattle.asm65.proofs.Runs.{given_label, given_plain, label_given_stops, plain_given_stops}
use Rattle.asm65.proofs.driver.assemble_expanded.Goals as goal

pub returns-in_ok-tokens-in-Label-clause-read : goal.returns-in_ok-tokens-in-Label-clause-read
returns-in_ok-tokens-in-Label-clause-read g c = record {
  taken = (given_label (g.S.Store.files c.args.store.now) (location_in c.args.at.file.now c.args.at.line) c.args.given.now c.in-Label.line (lexemes c.deref.result.now) c.args.assembler.now c.assemble_label.new.assembler c.assemble_label.result c.in-Label.is (ap lexemes c.deref.ensures.value ∙ c.in_ok-tokens-in-Label.ensures) c.assemble_label.ensures.read.taken);
  stopped = (label_given_stops (g.S.Store.files c.args.store.now) (g.S.Store.last_failure c.assemble_label.new.store) (location_in c.args.at.file.now c.args.at.line) c.args.given.now c.in-Label.line (lexemes c.deref.result.now) c.args.assembler.now c.assemble_label.new.assembler c.assemble_label.result c.in-Label.is (ap lexemes c.deref.ensures.value ∙ c.in_ok-tokens-in-Label.ensures) c.assemble_label.ensures.read.stopped);
}

pub returns-in-Plain-clause-read : goal.returns-in-Plain-clause-read
returns-in-Plain-clause-read g c = record {
  taken = (given_plain (g.S.Store.files c.args.store.now) (location_in c.args.at.file.now c.args.at.line) c.args.given.now c.in-Plain.line (tokens_in c.in-Plain.line) c.args.assembler.now c.assemble_unlabelled_line.new.assembler c.assemble_unlabelled_line.result c.in-Plain.is refl c.assemble_unlabelled_line.ensures.read.taken);
  stopped = (plain_given_stops (g.S.Store.files c.args.store.now) (g.S.Store.last_failure c.assemble_unlabelled_line.new.store) (location_in c.args.at.file.now c.args.at.line) c.args.given.now c.in-Plain.line (tokens_in c.in-Plain.line) c.args.assembler.now c.assemble_unlabelled_line.new.assembler c.assemble_unlabelled_line.result c.in-Plain.is refl c.assemble_unlabelled_line.ensures.read.stopped);
}
