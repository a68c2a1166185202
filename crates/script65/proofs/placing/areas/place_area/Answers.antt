use Rattle.std.proofs.Common.{◌+◌, ℕ, List, drop, subst, arith, slice_index_or, refl}
use Rattle.std.proofs.lemmas.List.{drop_all}
use Rattle.std.proofs.lemmas.Result.{err_from_is_err_and}
use Rattle.script65.specs.Faults.{is_place_system_error}
use Rattle.script65.specs.Placing.{rows_from}
use Rattle.script65.proofs.AreaLemmas.{Walk, drop_number, row_within, spot_within, walk_ends, walk_refuses, walk_step, whole_of}
use Rattle.script65.proofs.placing.areas.place_area.Goals as goal

pub loop-member-init : goal.loop-member-init
loop-member-init c = record {
  capacity = omega arith;
  walk = record {
    index = 0;
    rs = c.args.rows.now;
    ss = c.args.row_states.now;
    rows_there = refl;
    spots_there = refl;
    count = c.requires.count;
    rest = c.requires.members;
    same = whole_of (rows_from c.args.context.now.index c.args.context.now.area.now c.args.context.now.bounds c.args.rows.now c.args.row_states.now c.args.context.now.bounds.start);
  };
}

pub place_member-requires-clause-row : goal.place_member-requires-clause-row
place_member-requires-clause-row c =
    let P : List ℕ → Type 0 = λ l. Walk c.args.context.now.index c.args.context.now.area.now c.args.context.now.bounds c.args.rows.now (rows_from c.args.context.now.index c.args.context.now.area.now c.args.context.now.bounds c.args.rows.now c.args.row_states.now c.args.context.now.bounds.start) c.loop-member.row_states c.loop-member.cursor l in
    let walk = subst P (drop_number c.args.members.now c.loop-member.member-index c.loop-member-test.true) c.loop-member.invariant.walk in
    row_within c.args.context.now.index c.args.context.now.area.now c.args.context.now.bounds c.args.rows.now (rows_from c.args.context.now.index c.args.context.now.area.now c.args.context.now.bounds c.args.rows.now c.args.row_states.now c.args.context.now.bounds.start) c.loop-member.row_states c.loop-member.cursor (slice_index_or c.args.members.now c.loop-member.member-index 0) (drop (c.loop-member.member-index + 1) c.args.members.now) walk

pub place_member-requires-clause-spot : goal.place_member-requires-clause-spot
place_member-requires-clause-spot c =
    let P : List ℕ → Type 0 = λ l. Walk c.args.context.now.index c.args.context.now.area.now c.args.context.now.bounds c.args.rows.now (rows_from c.args.context.now.index c.args.context.now.area.now c.args.context.now.bounds c.args.rows.now c.args.row_states.now c.args.context.now.bounds.start) c.loop-member.row_states c.loop-member.cursor l in
    let walk = subst P (drop_number c.args.members.now c.loop-member.member-index c.loop-member-test.true) c.loop-member.invariant.walk in
    spot_within c.args.context.now.index c.args.context.now.area.now c.args.context.now.bounds c.args.rows.now (rows_from c.args.context.now.index c.args.context.now.area.now c.args.context.now.bounds c.args.rows.now c.args.row_states.now c.args.context.now.bounds.start) c.loop-member.row_states c.loop-member.cursor (slice_index_or c.args.members.now c.loop-member.member-index 0) (drop (c.loop-member.member-index + 1) c.args.members.now) walk

pub returns-in_err-cursor : goal.returns-in_err-cursor
returns-in_err-cursor c =
    let p = err_from_is_err_and c.from_residual.result c.from_residual.ensures.1 in
    let e = c.in_err-cursor.field-0.0 in
    let P : List ℕ → Type 0 = λ l. Walk c.args.context.now.index c.args.context.now.area.now c.args.context.now.bounds c.args.rows.now (rows_from c.args.context.now.index c.args.context.now.area.now c.args.context.now.bounds c.args.rows.now c.args.row_states.now c.args.context.now.bounds.start) c.loop-member.row_states c.loop-member.cursor l in
    let walk = subst P (drop_number c.args.members.now c.loop-member.member-index c.loop-member-test.true) c.loop-member.invariant.walk in
    rw (p.1, p.2) (walk_refuses c.args.context.now.index c.args.context.now.area.now c.args.context.now.bounds c.args.rows.now (rows_from c.args.context.now.index c.args.context.now.area.now c.args.context.now.bounds c.args.rows.now c.args.row_states.now c.args.context.now.bounds.start) c.loop-member.row_states c.loop-member.cursor (slice_index_or c.args.members.now c.loop-member.member-index 0) (drop (c.loop-member.member-index + 1) c.args.members.now) e (is_place_system_error e) walk c.in_err-cursor.ensures.value)

pub loop-member-preserved : goal.loop-member-preserved
loop-member-preserved c =
    let P : List ℕ → Type 0 = λ l. Walk c.args.context.now.index c.args.context.now.area.now c.args.context.now.bounds c.args.rows.now (rows_from c.args.context.now.index c.args.context.now.area.now c.args.context.now.bounds c.args.rows.now c.args.row_states.now c.args.context.now.bounds.start) c.loop-member.row_states c.loop-member.cursor l in
    let walk = subst P (drop_number c.args.members.now c.loop-member.member-index c.loop-member-test.true) c.loop-member.invariant.walk in
    record {
      capacity = c.in_ok-cursor.ensures.bound;
      walk = walk_step c.args.context.now.index c.args.context.now.area.now c.args.context.now.bounds c.args.rows.now (rows_from c.args.context.now.index c.args.context.now.area.now c.args.context.now.bounds c.args.rows.now c.args.row_states.now c.args.context.now.bounds.start) c.loop-member.row_states c.place_member.new.row_states c.loop-member.cursor c.in_ok-cursor.cursor (slice_index_or c.args.members.now c.loop-member.member-index 0) (drop (c.loop-member.member-index + 1) c.args.members.now) walk c.in_ok-cursor.ensures.value;
    }

pub returns : goal.returns
returns c =
    let P : List ℕ → Type 0 = λ l. Walk c.args.context.now.index c.args.context.now.area.now c.args.context.now.bounds c.args.rows.now (rows_from c.args.context.now.index c.args.context.now.area.now c.args.context.now.bounds c.args.rows.now c.args.row_states.now c.args.context.now.bounds.start) c.loop-member.row_states c.loop-member.cursor l in
    walk_ends c.args.context.now.index c.args.context.now.area.now c.args.context.now.bounds c.args.rows.now (rows_from c.args.context.now.index c.args.context.now.area.now c.args.context.now.bounds c.args.rows.now c.args.row_states.now c.args.context.now.bounds.start) c.loop-member.row_states c.loop-member.cursor (subst P (drop_all c.loop-member.member-index c.args.members.now c.loop-member-test.false) c.loop-member.invariant.walk)
