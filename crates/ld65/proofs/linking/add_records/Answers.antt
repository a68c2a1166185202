use Rattle.std.proofs.Common.{◌∙◌, refl, arith}
use Rattle.std.proofs.lemmas.Result.{err_from_is_err_and}
use Rattle.std.specs.FinMap.{get}
use Rattle.object65.specs.Reading.{in_file, record_at}
use Rattle.object65.specs.Record.{raw_record}
use Rattle.object65.proofs.Records.{fresh, stays_ahead, where_ahead, kept_count}
use Rattle.ld65.specs.Internal.AddedModules.{input_of}
use Rattle.ld65.proofs.AddedRecords.{is_at_first, seen, unread, untaken, ends_there, goes_further, refused_free}
use Rattle.ld65.proofs.Frames.{err_is, keeps_on, unread_after, untouched}
use Rattle.ld65.proofs.FailureOrder.{read_within}
use Rattle.ld65.proofs.linking.add_records.Goals as goal

pub records-init : goal.records-init
records-init g c = record {
  files = refl;
  ahead = fresh _ c.args.object.now.file.now c.args.reader.now c.requires.fresh;
  count = refl;
  opened = c.requires.opened;
  config = record { script = refl; output = refl };
  stands = is_at_first (g.S.Store.files c.args.store.now) (input_of c.args.object.now) c.args.head c.args.linker.now;
  monotone = omega arith;
  fits = λ h. h;
}

pub returns-in_err-next-clause-added : goal.returns-in_err-next-clause-added
returns-in_err-next-clause-added g c =
    let p = err_from_is_err_and c.from_residual.result c.from_residual.ensures.1 in
    rw (p.1, p.2) (unread _ (input_of c.args.object.now) c.args.head c.records.next _ c.args.linker.now c.records.linker c.records.linker c.in_err-next.field-0.0 c.records.invariant.files c.records.invariant.stands (where_ahead _ c.args.object.now.file.now c.records.reader _ c.records.invariant.ahead c.in_err-next.ensures.read))

pub returns-in_err-record-clause-added : goal.returns-in_err-record-clause-added
returns-in_err-record-clause-added g c =
    let p = err_from_is_err_and c.from_residual-in_err-record.result c.from_residual-in_err-record.ensures.1 in
    let read = seen _ (λ m. in_file (get m c.args.object.now.file.now) (record_at c.args.head.0 c.records.next c.args.object.now.end)) _ _ c.in_ok-next.next c.record-record.ensures (where_ahead _ c.args.object.now.file.now c.records.reader _ c.records.invariant.ahead c.in_ok-next.ensures.read) in
    rw (p.1, p.2) (untaken _ (input_of c.args.object.now) c.args.head c.records.next _ c.args.linker.now c.records.linker c.record.new.self (raw_record c.record-record.result.now, c.in_ok-next.next) c.in_err-record.field-0.0 c.records.invariant.files c.records.invariant.stands read c.in_err-record.ensures.accepted)

pub returns-in_err-record-clause-frame : goal.returns-in_err-record-clause-frame
returns-in_err-record-clause-frame g c modules called entry stands =
    let p = err_from_is_err_and c.from_residual-in_err-record.result c.from_residual-in_err-record.ensures.1 in
    let read = c.in_ok-next.ensures.frame in
    let free = refused_free _ (input_of c.args.object.now) c.args.head c.records.next c.args.linker.now c.records.linker c.record.new.self (raw_record c.record-record.result.now) c.in_err-record.field-0.0 c.records.invariant.stands c.in_err-record.ensures.accepted modules called entry stands in
    rw (p.1, p.2) (untouched _ _ _ _ (read.files ∙ c.records.invariant.files) (kept_count _ _ _ read.count ∙ c.records.invariant.count) (λ h. free (err_is _ _ h)))

pub returns-then-record-eq-END-clause-added : goal.returns-then-record-eq-END-clause-added
returns-then-record-eq-END-clause-added g c =
    let read = seen _ (λ m. in_file (get m c.args.object.now.file.now) (record_at c.args.head.0 c.records.next c.args.object.now.end)) _ _ c.in_ok-next.next c.record-record.ensures (where_ahead _ c.args.object.now.file.now c.records.reader _ c.records.invariant.ahead c.in_ok-next.ensures.read) in
    ends_there _ (input_of c.args.object.now) c.args.head c.records.next _ c.args.linker.now c.records.linker c.record.new.self (raw_record c.record-record.result.now, c.in_ok-next.next) c.records.invariant.files c.records.invariant.stands read c.in_ok-record.ensures.accepted c.if-record-eq-END.true

pub records-preserved : goal.records-preserved
records-preserved g c =
    let read = seen _ (λ m. in_file (get m c.args.object.now.file.now) (record_at c.args.head.0 c.records.next c.args.object.now.end)) _ _ c.in_ok-next.next c.record-record.ensures (where_ahead _ c.args.object.now.file.now c.records.reader _ c.records.invariant.ahead c.in_ok-next.ensures.read) in
    record {
      files = c.in_ok-next.ensures.frame.files ∙ c.records.invariant.files;
      ahead = stays_ahead _ _ c.args.object.now.file.now c.records.reader c.read.new.self c.in_ok-next.ensures.frame.files c.records.invariant.ahead c.in_ok-next.ensures.ahead;
      count = kept_count _ _ _ c.in_ok-next.ensures.frame.count ∙ c.records.invariant.count;
      opened = c.in_ok-record.ensures.opened;
      config = keeps_on _ _ _ c.records.invariant.config c.in_ok-record.ensures.keeps;
      stands = goes_further _ (input_of c.args.object.now) c.args.head c.records.next _ c.args.linker.now c.records.linker c.record.new.self (raw_record c.record-record.result.now, c.in_ok-next.next) c.records.invariant.files c.records.invariant.stands read (omega (arith, c.in_ok-next.ensures.bound.0)) c.in_ok-record.ensures.accepted c.if-record-eq-END.false;
      monotone = omega (arith, c.in_ok-next.ensures.bound.0, c.records.invariant.monotone);
      fits = λ h. c.in_ok-next.ensures.bound.1;
    }

pub returns-in_err-next-clause-frame : goal.returns-in_err-next-clause-frame
returns-in_err-next-clause-frame g c modules called entry stands =
    let p = err_from_is_err_and c.from_residual.result c.from_residual.ensures.1 in
    rw (p.1, p.2) (unread_after _ _ _ _ c.in_err-next.field-0.0 c.records.invariant.files c.records.invariant.count c.in_err-next.ensures.frame)

pub returns-then-record-eq-END-clause-bound : goal.returns-then-record-eq-END-clause-bound
returns-then-record-eq-END-clause-bound g c = (omega (arith, c.in_ok-next.ensures.bound.0, c.records.invariant.monotone), c.in_ok-next.ensures.bound.1)

pub returns-in_err-next-clause-within : goal.returns-in_err-next-clause-within
returns-in_err-next-clause-within g c modules called entry stands failed fits =
    let p = err_from_is_err_and c.from_residual.result c.from_residual.ensures.1 in
    read_within _ _ _ _ _ c.in_err-next.field-0.0 c.records.invariant.monotone (c.records.invariant.fits fits) c.in_err-next.ensures.within (rw (p.1, p.2) at failed)

pub returns-in_err-record-clause-within : goal.returns-in_err-record-clause-within
returns-in_err-record-clause-within g c modules called entry stands failed fits =
    let p = err_from_is_err_and c.from_residual-in_err-record.result c.from_residual-in_err-record.ensures.1 in
    let free = refused_free _ (input_of c.args.object.now) c.args.head c.records.next c.args.linker.now c.records.linker c.record.new.self (raw_record c.record-record.result.now) c.in_err-record.field-0.0 c.records.invariant.stands c.in_err-record.ensures.accepted modules called entry stands in
    absurd (free (err_is _ _ (rw (p.1, p.2) at failed)))
