use Rattle.std.proofs.lemmas.Grind.{common_steps}
use Rattle.std.proofs.Common.{◌∙◌, ap, sym, take, arith}
use Rattle.object65.specs.Reading.{RecordReaderView}
use Rattle.object65.specs.Record.{raw_record}
use Rattle.object65.proofs.Records.{ahead_anew, kept, kept_so, read_anew, read_kept}
use Rattle.object65.proofs.record_reader.RecordReader.read.Goals as goal

pub returns-then-has_record-clause-read : goal.returns-then-has_record-clause-read
returns-then-has_record-clause-read g c =
    let inside : RecordReaderView = record { entry = raw_record c.self.inside.record; begin = c.self.inside.begin; ahead = take c.self.inside.buffered c.self.inside.buffer } in
    let is = kept_so _ _ _ _ c.args.at c.args.limit inside c.first_bytes-available.ensures c.saturating_sub.ensures c.bytes_from-available.ensures c.first_bytes.ensures in
    read_kept (g.S.Store.files c.args.store.now) c.args.name.now c.args.self.now c.args.version c.args.at c.args.limit c.first_bytes-available.result.now c.decode.result _ (is ∙ ap (λ r. kept r c.args.at c.args.limit) c.self.view_is) (sym c.has_record.ensures ∙ c.if-has_record.true) c.decode.ensures.read

pub returns-clause-read : goal.returns-clause-read
returns-clause-read g c =
    read_anew (g.S.Store.files c.args.store.now) c.args.name.now c.args.self.now c.args.version c.args.at c.args.limit c.refill.new.self.ahead c.first_bytes-2.result.now c.decode-2.result _ (c.first_bytes-2.ensures ∙ ap (λ r. r.ahead) c.self-2.view_is) c.in_ok-refill.ensures.read c.decode-2.ensures.read

pub returns-clause-ahead : goal.returns-clause-ahead
returns-clause-ahead g c =
    ahead_anew (g.S.Store.files c.args.store.now) c.args.name.now c.args.self.now (record { entry = raw_record c.decode-2.new.target; begin = c.self-2.inside.begin; ahead = take c.self-2.inside.buffered c.self-2.inside.buffer }) c.args.at c.args.limit c.refill.new.self.ahead (ap (λ r. r.begin) c.self-2.view_is ∙ c.in_ok-refill.ensures.begin) (ap (λ r. r.ahead) c.self-2.view_is) c.in_ok-refill.ensures.read

pub returns-clause-at_last_count : goal.returns-clause-at_last_count
returns-clause-at_last_count g c = grind (arith, common_steps)

pub returns-then-has_record-clause-bound : goal.returns-then-has_record-clause-bound
returns-then-has_record-clause-bound g c = grind (arith, common_steps)

pub returns-in_err-refill-clause-within : goal.returns-in_err-refill-clause-within
returns-in_err-refill-clause-within g c = grind (arith, common_steps)

pub decode-requires : goal.decode-requires
decode-requires g c = grind (arith, common_steps)

pub returns-clause-frame : goal.returns-clause-frame
returns-clause-frame g c = grind (arith, common_steps)

pub returns-then-has_record-clause-within : goal.returns-then-has_record-clause-within
returns-then-has_record-clause-within g c = grind (arith, common_steps)

pub returns-clause-within : goal.returns-clause-within
returns-clause-within g c = grind (arith, common_steps)

pub returns-then-has_record-clause-at_last_count : goal.returns-then-has_record-clause-at_last_count
returns-then-has_record-clause-at_last_count g c = grind (arith, common_steps)

pub returns-clause-bound : goal.returns-clause-bound
returns-clause-bound g c = grind (arith, common_steps)

pub returns-then-has_record-clause-frame : goal.returns-then-has_record-clause-frame
returns-then-has_record-clause-frame g c = grind (arith, common_steps)
