-- The program of all modules, placed by a script.
use Rattle.std.specs.Prelude.{ℕ, suc, ◌+◌, ℤ, pos, List, [], ◌∷◌, find, length, slice_get, Option, Some, None, if◌then◌else◌}
use Rattle.std.specs.Str.{bytes_eq}
use Rattle.syntax65.specs.Trees.{Tree}
use Rattle.base65.specs.Values.{wrap_signed}
use Rattle.script65.specs.declared.placement.Placement.{Placement}
use Rattle.script65.specs.declared.script.Script.{Script}
use Rattle.link65.specs.declared.parts.ScriptSymbol.{ScriptSymbol}
use Rattle.link65.specs.Names.{is_among, script_definitions, weak_symbols}
use Rattle.link65.specs.Values.{run_of}
use Rattle.semantics65.specs.Symbols.{LaidOutStatement}
use Rattle.semantics65.specs.Layout.{Layout}
use Rattle.whole65.specs.Modules.{exports_of, binding_in}
use Rattle.whole65.specs.Segments.{position_of, segment_name_at}
use Rattle.whole65.specs.Values.{Provider, by_module, by_script, by_nobody, SymbolBinding, Program}

-- ---- The providers of names.

-- the script, if it has a definition of the name; otherwise another provider
abbrev pub provider_or : Provider → Option ScriptSymbol → Provider
provider_or other None = other
provider_or other (Some d) = by_script d.value

abbrev pub definition_of : List ScriptSymbol → List ℕ → Option ScriptSymbol
definition_of ds name = find (λ d. bytes_eq d.name name) ds

-- the first of these modules that exports a name, the first module having the index `owner`; otherwise another provider
abbrev pub exporter_from : ℕ → List Layout → List ℕ → Provider → Provider
exporter_from owner [] name other = other
exporter_from owner (y ∷ ys) name other = if is_among (exports_of y) name then by_module owner else exporter_from (suc owner) ys name other

-- The provider of a name: the script, if it defines or exports the name; otherwise the first module that exports it; otherwise
-- the script, if it has a weak definition of the name; otherwise nobody.
abbrev pub provider_of : Script → Placement → List Layout → List ℕ → Provider
provider_of s p ys name =
    provider_or (exporter_from 0 ys name (provider_or by_nobody (definition_of (weak_symbols s.symbols) name)))
    (definition_of (script_definitions s p) name)

-- ---- The addresses of statements.

abbrev pub binding_at : Option Layout → ℕ → Tree → Option SymbolBinding
binding_at None index e = None
binding_at (Some y) index e = binding_in y index e

abbrev pub statement_count : Option Layout → ℕ
statement_count None = 0
statement_count (Some y) = length y.laid

-- the run address of the segment's row in the script plus the position in the segment
abbrev pub address_in : Script → Placement → List Layout → ℕ → ℕ → List ℕ → ℤ
address_in s p ys owner index name = wrap_signed (pos (run_of s.rows p.rows name + position_of ys name owner index))

-- the address of a statement; 0 if there is no such statement
abbrev pub statement_address : Script → Placement → List Layout → ℕ → ℕ → Option Layout → Option LaidOutStatement → ℤ
statement_address s p ys owner index (Some y) (Some l) = address_in s p ys owner index (segment_name_at y l.context.segment)
statement_address s p ys owner index _ _ = pos 0

abbrev pub laid_out_statement_at : Option Layout → ℕ → Option LaidOutStatement
laid_out_statement_at None index = None
laid_out_statement_at (Some y) index = slice_get y.laid index

-- ---- The program.

abbrev pub placed_program : Script → Placement → List Layout → Program
placed_program s p ys = record {
  binding = λ owner index. binding_at (slice_get ys owner) index;
  global_index = λ owner. statement_count (slice_get ys owner);
  provider = provider_of s p ys;
  address = λ owner index. statement_address s p ys owner index (slice_get ys owner) (laid_out_statement_at (slice_get ys owner) index);
}
