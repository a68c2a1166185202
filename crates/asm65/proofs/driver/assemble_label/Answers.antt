use Rattle.std.proofs.Common.{rules, arith, ◌≡◌, ap, ◌∙◌, Err, Ok}
use Rattle.std.proofs.lemmas.Grind.{common_steps}
use Rattle.std.proofs.lemmas.Result.{err_from_is_err_and}
use Rattle.syntax65.specs.Tokens.{lexemes}
use Rattle.semantics65.specs.Views.{location_in}
use Rattle.asm65.proofs.Runs.{front_absent, front_leaves, label_leaves, label_refused, label_room, label_stops}
use Rattle.asm65.proofs.driver.assemble_label.Goals as goal

pub returns-in_default-clause-read : goal.returns-in_default-clause-read
returns-in_default-clause-read g c =
    let location = location_in c.args.at.file.now c.args.at.line in
    let front = front_absent location c.in_ok-label.label c.args.assembler.now c.in_default.is in record {
      taken = label_leaves (g.S.Store.files c.args.store.now) location (lexemes c.args.tokens.now) (lexemes c.in_ok-label.rest.now) c.in_ok-label.label c.args.assembler.now c.args.assembler.now c.assemble_rest.new.assembler tt c.assemble_rest.result c.in_ok-label.ensures.value front c.assemble_rest.ensures.read.taken;
      stopped = label_stops (g.S.Store.files c.args.store.now) (g.S.Store.last_failure c.assemble_rest.new.store) location (lexemes c.args.tokens.now) (lexemes c.in_ok-label.rest.now) c.in_ok-label.label c.args.assembler.now c.args.assembler.now c.assemble_rest.new.assembler tt c.assemble_rest.result c.requires c.in_ok-label.ensures.value front c.assemble_rest.ensures.read.stopped;
    }

pub returns-in_err-assemble_well_formed-clause-read : goal.returns-in_err-assemble_well_formed-clause-read
returns-in_err-assemble_well_formed-clause-read g c =
    let location = location_in c.args.at.file.now c.args.at.line in
    let p = err_from_is_err_and c.from_residual-in_err-assemble_well_formed.result c.from_residual-in_err-assemble_well_formed.ensures.1 in
    let e = c.in_err-assemble_well_formed.field-0.0 in
    let fails : c.from_residual-in_err-assemble_well_formed.result ≡ Err e = p.1 ∙ ap Err p.2 in
    let front = front_leaves location c.in_ok-label.label c.in-Some.label c.args.assembler.now c.assemble_well_formed.new.assembler (Err e) c.in-Some.is c.in_err-assemble_well_formed.ensures.transitions in record {
      taken = label_refused (g.S.Store.files c.args.store.now) location (lexemes c.args.tokens.now) (lexemes c.in_ok-label.rest.now) c.in_ok-label.label c.args.assembler.now c.assemble_well_formed.new.assembler e c.from_residual-in_err-assemble_well_formed.result c.in_ok-label.ensures.value front fails;
      stopped = first_of (search rules, grind (arith, common_steps));
    }

pub assemble_rest-requires-2 : goal.assemble_rest-requires-2
assemble_rest-requires-2 g c =
    let location = location_in c.args.at.file.now c.args.at.line in
    let front = front_leaves location c.in_ok-label.label c.in-Some.label c.args.assembler.now c.assemble_well_formed.new.assembler (Ok tt) c.in-Some.is c.in_ok-assemble_well_formed.ensures.transitions in
    label_room location c.in_ok-label.label c.args.assembler.now c.assemble_well_formed.new.assembler tt c.requires front

pub returns-clause-read : goal.returns-clause-read
returns-clause-read g c =
    let location = location_in c.args.at.file.now c.args.at.line in
    let front = front_leaves location c.in_ok-label.label c.in-Some.label c.args.assembler.now c.assemble_well_formed.new.assembler (Ok tt) c.in-Some.is c.in_ok-assemble_well_formed.ensures.transitions in record {
      taken = label_leaves (g.S.Store.files c.args.store.now) location (lexemes c.args.tokens.now) (lexemes c.in_ok-label.rest.now) c.in_ok-label.label c.args.assembler.now c.assemble_well_formed.new.assembler c.assemble_rest-2.new.assembler tt c.assemble_rest-2.result c.in_ok-label.ensures.value front c.assemble_rest-2.ensures.read.taken;
      stopped = label_stops (g.S.Store.files c.args.store.now) (g.S.Store.last_failure c.assemble_rest-2.new.store) location (lexemes c.args.tokens.now) (lexemes c.in_ok-label.rest.now) c.in_ok-label.label c.args.assembler.now c.assemble_well_formed.new.assembler c.assemble_rest-2.new.assembler tt c.assemble_rest-2.result c.requires c.in_ok-label.ensures.value front c.assemble_rest-2.ensures.read.stopped;
    }
