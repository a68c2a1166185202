-- The names of a module: their meaning, the names that it exports, and those that it needs.
use Rattle.std.specs.Prelude.{ℕ, suc, Bool, List, [], ◌∷◌, ◌++◌, map, slice_get, is_some, Option, Some, None, Result, Ok, Err, filter, length}
use Rattle.std.specs.List.{flat_map}
use Rattle.syntax65.specs.Trees.{Tree}
use Rattle.ast65.specs.declared.fault.AsmFault.{AsmFault}
use Rattle.semantics65.specs.Symbols.{LaidOutStatement, Symbols, definitions_of, definition_index, named, symbols_of, value_defined, with_new_names}
use Rattle.semantics65.specs.declared.contexts.Context.{Context}
use Rattle.ast65.specs.declared.language.Statement.{Statement}
use Rattle.ast65.specs.declared.language.Statement.TheVariants.{Export, Global, ForceImport}
use Rattle.semantics65.specs.Layout.{Layout}
use Rattle.semantics65.specs.Symbols as names
use Rattle.whole65.specs.Values.{SymbolBinding, label_at, constant_at, import_of}

-- A module is given by its layout. A statement is referred to by its index in it.
abbrev pub table_of : Layout → Symbols
table_of y = symbols_of y.laid

-- ---- The statements of definitions.

-- For each definition of these statements, in order: the index of the statement that makes it. The first statement has the
-- index `index`.
abbrev pub definers_from : ℕ → List LaidOutStatement → List ℕ
definers_from index [] = []
definers_from index (l ∷ ls) = map (λ d. index) (definitions_of l) ++ definers_from (suc index) ls

-- ---- The binding of a name.

-- the binding to the definition that the statement with this index makes: a constant if it has a value, otherwise a label
abbrev pub definition_at : ℕ → Option LaidOutStatement → Option SymbolBinding
definition_at index None = None
definition_at index (Some l) = go (value_defined l.stated)
  where
    go : Option Tree → Option SymbolBinding
    go (Some e) = Some (constant_at index e)
    go None = Some (label_at index)

abbrev pub statement_binding : List LaidOutStatement → Option ℕ → Option SymbolBinding
statement_binding ls None = None
statement_binding ls (Some index) = definition_at index (slice_get ls index)

abbrev pub import_named : Option (List ℕ) → Option SymbolBinding
import_named None = None
import_named (Some n) = Some (import_of n)

abbrev pub binding_by : Layout → Result names.Binding AsmFault → Option SymbolBinding
binding_by y (Ok (names.defined_at d)) = statement_binding y.laid (slice_get (definers_from 0 y.laid) d)
binding_by y (Ok (names.imported_as k)) = import_named (slice_get (table_of y).imports k)
binding_by y (Err e) = None

-- the context after the last statement: in the global scope and in no segment
abbrev pub global_context : Layout → Context
global_context y = record {
  scope = 0;
  opened = y.cursor.opened;
  region = y.cursor.region;
  unnamed = y.cursor.unnamed;
  segment = length y.cursor.segments;
  offset = 0;
}

abbrev pub context_or : Context → Option LaidOutStatement → Context
context_or other None = other
context_or other (Some l) = l.context

abbrev pub context_at : Layout → ℕ → Context
context_at y index = context_or (global_context y) (slice_get y.laid index)

-- the binding of a name in an expression of a statement, by the symbol table of the whole module
abbrev pub binding_in : Layout → ℕ → Tree → Option SymbolBinding
binding_in y index e = binding_by y (names.binding_of (table_of y) (context_at y index) e)

-- ---- The exports and imports of a module.

abbrev pub exported_by : Statement → List (List ℕ)
exported_by (Export names) = names
exported_by (Global own names) = names
exported_by _ = []

-- whether the module defines the name in its global scope
abbrev pub is_defined : Layout → List ℕ → Bool
is_defined y n = is_some (definition_index (table_of y) (named 0 n))

-- The names that a module exports, each once: those that `.export` or `.global` lists and the module defines. A name that
-- `.global` lists and the module doesn't define is an import.
abbrev pub exports_of : Layout → List (List ℕ)
exports_of y = with_new_names [] (filter (is_defined y) (flat_map (λ l. exported_by l.stated) y.laid))

abbrev pub forced_imports_by : Statement → List (List ℕ)
forced_imports_by (ForceImport names) = names
forced_imports_by _ = []

-- the names that a module imports even if it doesn't use them
abbrev pub forced_imports_of : Layout → List (List ℕ)
forced_imports_of y = flat_map (λ l. forced_imports_by l.stated) y.laid
