-- The error for an operand without a meaning.
use Rattle.std.specs.Prelude.{Bool, List, ℕ, Option, None, Some, take}
use Rattle.syntax65.specs.Trees.{Tree, name, cheap}
use Rattle.ast65.specs.declared.fault.AsmFault.{AsmFault}
use Rattle.ast65.specs.declared.fault.AsmFault.TheVariants.{NoSuchLabel, NoSuchScope, Undefined}
use Rattle.semantics65.specs.declared.contexts.Context.{Context}
use Rattle.semantics65.specs.Symbols.{Symbols, scope_from, scope_path, display_name}
use Rattle.symbols65.specs.Resolving.{plain_part}

-- the error for a name with `::` without a meaning, by the scope that it specifies, if
-- that exists
abbrev pub scoped_name_fault : Option ℕ → List ℕ → AsmFault
scoped_name_fault None n = NoSuchScope n
scoped_name_fault (Some scope) n = Undefined n

abbrev pub name_fault : Symbols → Context → Bool → List (List ℕ) → Option (List ℕ) → AsmFault
name_fault y s global parts (Some n) = Undefined n
name_fault y s global parts None = scoped_name_fault (scope_from (take s.opened y.scopes) s.scope global (scope_path parts)) (display_name global parts)

abbrev pub binding_fault : Symbols → Context → Tree → AsmFault
binding_fault y s (name global parts) = name_fault y s global parts (plain_part global parts)
binding_fault y s (cheap n) = Undefined n
binding_fault y s e = NoSuchLabel
