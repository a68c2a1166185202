use Rattle.std.proofs.Common.{◌+◌, ◌*◌, length, nat_eq}
use Rattle.indexmap.specs.IndexMap.{get}
use Rattle.symbols65.specs.Tables.{ArePast, entries_at}
use Rattle.symbols65.specs.Views.{table_of}
use Rattle.symbols65.proofs.Entries.{unmet}
use Rattle.symbols65.proofs.FormSearch.{IsPursuit}
use Rattle.symbols65.proofs.ExpansionDepths.{expression_course}
use Rattle.symbols65.proofs.resolving.search.run_search.Given as goal

abbrev pub invariant-find : goal.invariant-find
invariant-find l =
    IsPursuit l.symbols (entries_at (length (table_of l.symbols).definitions) (get nat_eq l.fn.known)) (entries_at (length (table_of l.symbols).definitions) (get nat_eq l.known))
    (expression_course (table_of l.symbols) l.context l.value) l.pending_constants.items
    × ArePast (length (table_of l.symbols).definitions) (get nat_eq l.known)

abbrev pub decreases-find : goal.decreases-find
decreases-find l = 2 * unmet (entries_at (length (table_of l.symbols).definitions) (get nat_eq l.known)) (length (table_of l.symbols).definitions) + length l.pending_constants.items
