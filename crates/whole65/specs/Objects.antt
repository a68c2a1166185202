-- Modules as the linker sees them: forms instead of expressions, and values from a placement and from exports of other modules.
use Rattle.std.specs.Prelude.{◌≡◌, ◌≢◌, ℕ, zero, suc, ℤ, pos, ◌+ℤ◌, false, List, [], ◌∷◌, slice_get, Option, Some, None, Result, Ok, Err}
use Rattle.syntax65.specs.Trees.{Tree, name}
use Rattle.base65.specs.Values.{wrap_signed}
use Rattle.object65.specs.Form.{Form}
use Rattle.object65.specs.FormValue.{value_in}
use Rattle.ast65.specs.declared.fault.AsmFault.{AsmFault}
use Rattle.semantics65.specs.declared.contexts.Context.{Context}
use Rattle.semantics65.specs.Symbols as names
use Rattle.semantics65.specs.Symbols.{binding_of, Definition, Symbols}
use Rattle.semantics65.specs.Norms.{norm}
use Rattle.whole65.specs.Values.{Provider, by_module, by_script, by_nobody, SymbolBinding, label_at, constant_at, import_of, Program}

-- For each module, by its index `owner`: its symbol table, the contexts of its statements, the addresses of its sections and
-- the values of its imports. `E` is the type of an import's error.
pub record LinkerView (E : Type 0) : Type 0 where
  -- the error of an operation without a value
  pub no_value_error : E
  pub symbols : (owner : ℕ) → Symbols
  pub contexts : (owner index : ℕ) → Context
  -- the index of the statement that makes the definition with this index
  pub definers : (owner definition : ℕ) → ℕ
  -- the address at which the module's section of a segment begins
  pub bases : (owner segment : ℕ) → ℤ
  -- the value of the import with this number, if a chain of at most this many exports leads to one; otherwise an error
  pub imports : (export_depth owner number : ℕ) → Result ℤ E

-- the value of a form of a module, if chains of at most this many exports lead to the values of its imports; otherwise an error
abbrev pub form_value : {E : Type 0} → LinkerView E → ℕ → ℕ → Form → Result ℤ E
form_value o export_depth owner f = value_in o.no_value_error (o.bases owner) (o.imports export_depth owner) f

-- ---- The bindings of names.

-- the binding to a definition with this optional value by the statement with this index: a constant, or without a value a label
abbrev pub value_binding : ℕ → Option Tree → Option SymbolBinding
value_binding index None = Some (label_at index)
value_binding index (Some e) = Some (constant_at index e)

-- the binding to a definition that the statement with this index makes
abbrev pub definition_binding : ℕ → Option Definition → Option SymbolBinding
definition_binding index None = None
definition_binding index (Some d) = value_binding index d.value

-- the binding to an import of this name
abbrev pub import_binding : Option (List ℕ) → Option SymbolBinding
import_binding None = None
import_binding (Some x) = Some (import_of x)

-- the program's binding for a binding of the module's symbol table
abbrev pub symbol_binding : {E : Type 0} → LinkerView E → ℕ → Result names.Binding AsmFault → Option SymbolBinding
symbol_binding o owner (Err e) = None
symbol_binding o owner (Ok (names.defined_at d)) = definition_binding (o.definers owner d) (slice_get (o.symbols owner).definitions d)
symbol_binding o owner (Ok (names.imported_as k)) = import_binding (slice_get (o.symbols owner).imports k)

-- ---- The values of imports.

-- the import `k` of a module has no value
abbrev pub HasNoValue : {E : Type 0} → LinkerView E → ℕ → ℕ → Type 0
HasNoValue o owner k = (export_depth : ℕ) (v : ℤ) → o.imports export_depth owner k ≢ Ok v

-- The import `k` of a module has the value of the export `x` of the providing module. The chain of exports that leads to the
-- import's value is one longer than that of the export's form. (`name false (x ∷ [])` is the plain name `x`, without a leading
-- `::`.)
pub record ImportHasExportValue {E : Type 0} (p : Program) (o : LinkerView E) (owner k : ℕ) (x : List ℕ) (provider : ℕ) : Type 0 where
  pub depth : ℕ
  pub form : Form
  pub normal : norm depth (o.symbols provider) (o.contexts provider (p.global_index provider)) (name false (x ∷ [])) ≡ Ok form
  pub at_zero : (v : ℤ) → o.imports zero owner k ≢ Ok v
  pub at_successor : (export_depth : ℕ) → o.imports (suc export_depth) owner k ≡ form_value o export_depth provider form

-- the import `k` of the name `x` has the value that the provider gives: that of an export, a number of the script, or none
abbrev pub HasProviderValue : {E : Type 0} → Program → LinkerView E → ℕ → ℕ → List ℕ → Provider → Type 0
HasProviderValue p o owner k x (by_module provider) = ImportHasExportValue p o owner k x provider
HasProviderValue p o owner k x (by_script v) = (export_depth : ℕ) → o.imports export_depth owner k ≡ Ok v
HasProviderValue p o owner k x by_nobody = HasNoValue o owner k

-- the same by the program's provider of the import's name; an import without a name has no value
abbrev pub ImportHasValue : {E : Type 0} → Program → LinkerView E → ℕ → ℕ → Option (List ℕ) → Type 0
ImportHasValue p o owner k None = HasNoValue o owner k
ImportHasValue p o owner k (Some x) = HasProviderValue p o owner k x (p.provider x)

-- ---- Objects that agree with a program.

-- The objects are those of the program's modules: operands have the same bindings, definitions the contexts of their
-- statements, statements the same addresses, and imports the values that their providers give.
pub record IsLinkerView {E : Type 0} (p : Program) (o : LinkerView E) : Type 0 where
  pub binding :
      (owner index : ℕ) (e : Tree) →
      p.binding owner index e ≡ symbol_binding o owner (binding_of (o.symbols owner) (o.contexts owner index) e)
  pub contexts :
      (owner definition : ℕ) (d : Definition) → slice_get (o.symbols owner).definitions definition ≡ Some d →
      o.contexts owner (o.definers owner definition) ≡ d.context
  pub addresses :
      (owner index : ℕ) →
      p.address owner index ≡ wrap_signed (o.bases owner (o.contexts owner index).segment +ℤ pos (o.contexts owner index).offset)
  pub imports_agree : (owner k : ℕ) → ImportHasValue p o owner k (slice_get (o.symbols owner).imports k)

-- a form of a module has a value, through chains of some number of exports
abbrev pub HasValue : {E : Type 0} → LinkerView E → ℕ → Form → ℤ → Type 0
HasValue o owner f v = (export_depth : ℕ) × (form_value o export_depth owner f ≡ Ok v)
