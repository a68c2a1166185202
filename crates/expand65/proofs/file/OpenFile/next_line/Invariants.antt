use Rattle.std.proofs.Common.{◌≡◌, ◌<◌, ◌≤◌, ◌-◌, ◌++◌, length}
use Rattle.std.specs.Prelude.{IfSome}
use Rattle.std.specs.List.{prefix_len}
use Rattle.expand65.specs.Lines.{is_within_line, rest_of}
use Rattle.expand65.proofs.file.OpenFile.next_line.Given as goal

abbrev pub invariant-pieces : goal.invariant-pieces
invariant-pieces g l = record {
  more : l.self.at < length l.self.buffer.items;
  part : prefix_len is_within_line l.line.items ≡ length l.line.items;
  few : length l.line.items ≤ 4097;
  number : l.self.line ≡ l.fn.self.line;
  name : l.self.name ≡ l.fn.self.name;
  files : g.S.Store.files l.store ≡ g.S.Store.files l.fn.store;
  count : g.S.Store.failures l.store ≡ g.S.Store.failures l.fn.store;
  so_far : IfSome (g.S.Store.files l.fn.store) (λ m. l.line.items ++ rest_of m l.self ≡ rest_of m l.fn.self);
}

abbrev pub decreases-pieces : goal.decreases-pieces
decreases-pieces g l = 4097 - length l.line.items
