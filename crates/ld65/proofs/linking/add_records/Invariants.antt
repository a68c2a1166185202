use Rattle.std.proofs.Common.{◌≡◌, ◌-◌, ◌≤◌, true}
use Rattle.object65.proofs.Records.{StandsAhead}
use Rattle.link65.specs.Representation.{ConfigFrame, is_open}
use Rattle.ld65.specs.Internal.AddedModules.{input_of}
use Rattle.ld65.proofs.AddedRecords.{IsAt}
use Rattle.ld65.proofs.linking.add_records.Given as goal

abbrev pub invariant-records : goal.invariant-records
invariant-records g l = record {
  files : g.S.Store.files l.store ≡ g.S.Store.files l.fn.store;
  ahead : StandsAhead (g.S.Store.files l.store) l.object.file.now l.reader;
  count : g.S.Store.failures l.store ≡ g.S.Store.failures l.fn.store;
  opened : is_open l.linker ≡ true;
  config : ConfigFrame l.fn.linker l.linker;
  stands : IsAt (g.S.Store.files l.fn.store) (input_of l.object) l.fn.head l.next l.fn.linker l.linker;
  monotone : l.fn.head.1 ≤ l.next;
  fits : l.fn.head.1 ≤ l.object.end → l.next ≤ l.object.end;
}

abbrev pub decreases-records : goal.decreases-records
decreases-records g l = 18446744073709551615 - l.next
