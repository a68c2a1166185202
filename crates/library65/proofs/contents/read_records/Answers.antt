use Rattle.std.proofs.Common.{◌∙◌, sym, arith}
use Rattle.std.proofs.lemmas.Result.{err_from_is_err_and}
use Rattle.object65.specs.Record.{raw_record}
use Rattle.library65.proofs.Members.{all_taken, good_taken, more_taken, nothing_taken, reading_refused, taking_refused}
use Rattle.library65.proofs.contents.read_records.Goals as goal

pub records-init : goal.records-init
records-init c = record {
  within = c.requires.within;
  taken = rw (c.seeded-scan.ensures, c.new.ensures, c.new-2.ensures) (nothing_taken c.args.version c.args.bytes.now c.args.at c.requires.version);
}

pub returns-in_err-next-clause-read : goal.returns-in_err-next-clause-read
returns-in_err-next-clause-read c =
    let p = err_from_is_err_and c.from_residual.result c.from_residual.ensures.1 in
    rw (p.1, p.2) (reading_refused c.args.version c.args.bytes.now c.args.at c.records.next c.records.scan c.records.contents c.records.invariant.taken c.in_err-next.field-0.0 c.in_err-next.ensures.read)

pub returns-in_err-item-clause-read : goal.returns-in_err-item-clause-read
returns-in_err-item-clause-read c =
    let p = err_from_is_err_and c.from_residual-in_err-item.result c.from_residual-in_err-item.ensures.1 in
    rw (p.1, p.2) (taking_refused c.args.version c.args.bytes.now c.args.at c.records.next c.records.scan c.records.contents c.records.invariant.taken (raw_record c.decode_record.new.target, c.in_ok-next.next) c.in_err-item.field-0.0 c.in_ok-next.ensures.read c.in_err-item.ensures.effect)

pub returns-then-is_ended-clause-read : goal.returns-then-is_ended-clause-read
returns-then-is_ended-clause-read c =
    all_taken c.args.version c.args.bytes.now c.args.at c.records.next c.records.scan c.records.contents c.records.invariant.taken (raw_record c.decode_record.new.target, c.in_ok-next.next) c.in_ok-item.item c.take.new.self c.add_item.new.contents c.in_ok-next.ensures.read c.in_ok-item.ensures.effect c.in_ok-item.ensures.kept c.in_ok-add_item.ensures.added (sym c.is_ended.ensures ∙ c.if-is_ended.true)

pub returns-then-is_ended-clause-symbols : goal.returns-then-is_ended-clause-symbols
returns-then-is_ended-clause-symbols c =
    good_taken c.args.version c.args.bytes.now c.args.at c.records.next c.records.scan c.records.contents c.records.invariant.taken (raw_record c.decode_record.new.target, c.in_ok-next.next) c.in_ok-item.item c.take.new.self c.add_item.new.contents c.in_ok-next.ensures.read c.in_ok-item.ensures.effect c.in_ok-item.ensures.kept c.in_ok-add_item.ensures.added

pub records-preserved : goal.records-preserved
records-preserved c = record {
  within = c.in_ok-next.ensures.bound.1;
  taken = more_taken c.args.version c.args.bytes.now c.args.at c.records.next c.records.scan c.records.contents c.records.invariant.taken (raw_record c.decode_record.new.target, c.in_ok-next.next) c.in_ok-item.item c.take.new.self c.add_item.new.contents c.in_ok-next.ensures.read c.in_ok-item.ensures.effect c.in_ok-item.ensures.kept c.in_ok-add_item.ensures.added (omega (arith, c.in_ok-next.ensures.bound.0)) (sym c.is_ended.ensures ∙ c.if-is_ended.false);
}
