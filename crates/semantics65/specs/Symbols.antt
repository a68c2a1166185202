-- The symbol table of laid-out statements, and name resolution.
use Rattle.std.specs.Prelude.{ℕ, Bool, true, false, ◌||◌, List, [], ◌∷◌, ◌++◌, Option, Some, None, ◌==◌, ◌&&◌, if◌then◌else◌, zero, suc, slice_get, ◌+◌, ◌-◌, nat_le, take, Result, Ok, Err, codes}
use Rattle.semantics65.specs.Types.{SourceLocation, AddressSize, EncodingChoice, Context, Statement, Label, CheapLabel, UnnamedLabel, Constant, Instruction, Values, Reserve, Align, Incbin, OpenProc, Assert, OpenScope, Import, Global, ForceImport, AsmFault, Undefined, NoSuchScope, NoSuchLabel}
use Rattle.syntax65.specs.Trees.{Tree, here, unary, binary, name, cheap, forward, backward}
use Rattle.std.specs.List.{flat_map, list_any, position}
use Rattle.std.specs.Str.{bytes_eq}
use Rattle.syntax65.specs.declared.lexing.tokens.AddressSize.TheVariants as size

-- ---- Laid-out statements.

-- a statement with its location, its context (scope, region, segment and offset), its length and its encoding decisions
pub record LaidOutStatement : Type 0 where
  pub stated : Statement
  pub place : SourceLocation
  pub context : Context
  -- the number of its bytes in the section
  pub length : ℕ
  -- the address size of the name it defines: that of a constant's expression at its line, or of the segment
  pub size : AddressSize
  pub encoding : EncodingChoice

-- a name before a colon and that of a proc open a new region of cheap local labels
abbrev pub opens_region : Statement → Bool
opens_region (Label n) = true
opens_region (OpenProc n) = true
opens_region _ = false

abbrev pub is_unnamed : Statement → Bool
is_unnamed UnnamedLabel = true
is_unnamed _ = false

-- ---- A section is a module's part of a segment. Which segments have one.

-- whether the expression contains `*`
abbrev pub has_here : Tree → Bool
has_here here = true
has_here (unary op e) = has_here e
has_here (binary op e f) = has_here e || has_here f
has_here _ = false

-- whether a statement requests a section of its segment
abbrev pub needs_section : Statement → Bool
needs_section (Label n) = true
needs_section (CheapLabel n) = true
needs_section UnnamedLabel = true
needs_section (OpenProc n) = true
needs_section (Instruction m o) = true
needs_section (Values width items) = true
needs_section (Reserve n v) = true
needs_section (Align n v) = true
needs_section (Incbin bytes start len) = true
needs_section (Constant n e) = has_here e
needs_section (Assert e action words) = has_here e
needs_section _ = false

-- ---- The symbol table of statements: what they define, the scopes that they open, the names that they import.

-- the key of a definition
pub data Key : Type 0 where
  -- a name, directly in a scope
  named : (scope : ℕ) → List ℕ → Key
  -- a cheap local label, in a region
  cheap_in : (region : ℕ) → List ℕ → Key
  -- an unnamed label, by the number of unnamed labels before it
  unnamed_at : ℕ → Key

pub record Definition : Type 0 where
  pub key : Key
  -- the expression of a constant; the value of a definition without one is the address of its context
  pub value : Option Tree
  pub context : Context
  pub size : AddressSize

pub record Scope : Type 0 where
  -- the parent scope
  pub within : ℕ
  pub name : Option (List ℕ)
  -- whether `.proc` opened it, and not `.scope`
  pub is_proc : Bool

pub record Symbols : Type 0 where
  -- all definitions, in source order
  pub definitions : List Definition
  -- all scopes but the global one, in the order in which they were opened: scope number i + 1 has index i
  pub scopes : List Scope
  -- the names of imports, in order of first occurrence
  pub imports : List (List ℕ)
  -- the names imported for the zero page, in the same order
  pub zero_page : List (List ℕ)

-- ---- The definitions of a statement.

abbrev pub key_defined : Context → Statement → Option Key
key_defined s (Label n) = Some (named s.scope n)
key_defined s (Constant n e) = Some (named s.scope n)
key_defined s (OpenProc n) = Some (named s.scope n)
key_defined s (CheapLabel n) = Some (cheap_in s.region n)
key_defined s UnnamedLabel = Some (unnamed_at s.unnamed)
key_defined s _ = None

abbrev pub value_defined : Statement → Option Tree
value_defined (Constant n e) = Some e
value_defined _ = None

abbrev pub definition_with : Option Key → Option Tree → Context → AddressSize → List Definition
definition_with None value s own = []
definition_with (Some k) value s own = record { key = k; value = value; context = s; size = own } ∷ []

abbrev pub definitions_of : LaidOutStatement → List Definition
definitions_of l = definition_with (key_defined l.context l.stated) (value_defined l.stated) l.context l.size

abbrev pub scope_opened : ℕ → Statement → List Scope
scope_opened parent_scope (OpenScope n) = record { within = parent_scope; name = n; is_proc = false } ∷ []
scope_opened parent_scope (OpenProc n) = record { within = parent_scope; name = Some n; is_proc = true } ∷ []
scope_opened parent_scope _ = []

-- the names that a statement imports, to which it gives the address size `own`
abbrev pub imports_of : Statement → List (List ℕ)
imports_of (Import own names) = names
imports_of (Global own names) = names
imports_of (ForceImport names) = names
imports_of _ = []

-- the names that a statement imports for the zero page
abbrev pub zero_page_names : Statement → List (List ℕ)
zero_page_names (Import size.ZeroPage names) = names
zero_page_names (Global size.ZeroPage names) = names
zero_page_names _ = []

-- adds names that aren't there yet, in order of first occurrence
abbrev pub with_new_names : List (List ℕ) → List (List ℕ) → List (List ℕ)
with_new_names known [] = known
with_new_names known (n ∷ names) = with_new_names (if list_any (λ k. bytes_eq n k) known then known else known ++ n ∷ []) names

-- ---- The symbol table.
abbrev pub symbols_of : List LaidOutStatement → Symbols
symbols_of ls = record {
  definitions = flat_map definitions_of ls;
  scopes = flat_map (λ l. scope_opened l.context.scope l.stated) ls;
  imports = with_new_names [] (flat_map (λ l. imports_of l.stated) ls);
  zero_page = with_new_names [] (flat_map (λ l. zero_page_names l.stated) ls);
}

-- ---- Lookup.

abbrev pub same_key : Key → Key → Bool
same_key (named s n) (named t m) = s == t && bytes_eq n m
same_key (cheap_in r n) (cheap_in q m) = r == q && bytes_eq n m
same_key (unnamed_at j) (unnamed_at k) = j == k
same_key _ _ = false

-- the index of the first definition of a key
abbrev pub definition_index : Symbols → Key → Option ℕ
definition_index y k = position (λ d. same_key d.key k) y.definitions

-- the index of an import
abbrev pub import_index : Symbols → List ℕ → Option ℕ
import_index y n = position (λ k. bytes_eq n k) y.imports

-- ---- The bindings of names.

-- the binding of a name
pub data Binding : Type 0 where
  -- the definition at this index
  defined_at : ℕ → Binding
  -- the import at this index
  imported_as : ℕ → Binding

abbrev pub or_else : {A : Type 0} → Option A → Option A → Option A
or_else (Some x) other = Some x
or_else None other = other

abbrev pub is_named : List ℕ → Option (List ℕ) → Bool
is_named n None = false
is_named n (Some m) = bytes_eq m n

-- ---- Scopes.

abbrev pub parent_scope : Option Scope → ℕ
parent_scope None = zero
parent_scope (Some c) = c.within

-- the parent of a scope; the global scope is its own
abbrev pub enclosing : List Scope → ℕ → ℕ
enclosing cs zero = zero
enclosing cs (suc i) = parent_scope (slice_get cs i)

-- a scope and at most this many ancestors
abbrev pub outward_from : List Scope → ℕ → ℕ → List ℕ
outward_from cs n zero = zero ∷ []
outward_from cs zero (suc i) = suc i ∷ []
outward_from cs (suc n) (suc i) = suc i ∷ outward_from cs n (enclosing cs (suc i))

-- A scope and its ancestors, from the innermost on. The parent of a scope was opened before it, so their
-- number is at most that of the scope.
abbrev pub scopes_from : List Scope → ℕ → List ℕ
scopes_from cs s = outward_from cs s s

-- the result in the first of some scopes that has one
abbrev pub first_found : {A : Type 0} → (ℕ → Option A) → List ℕ → Option A
first_found find [] = None
first_found find (s ∷ ss) = or_else (find s) (first_found find ss)

abbrev pub one_based : Option ℕ → Option ℕ
one_based None = None
one_based (Some i) = Some (suc i)

-- the scope with this name that was opened directly in a scope
abbrev pub scope_in : List Scope → ℕ → List ℕ → Option ℕ
scope_in cs scope n = one_based (position (λ c. c.within == scope && is_named n c.name) cs)

-- the scope of a path of names
abbrev pub nested_scope : List Scope → List (List ℕ) → Option ℕ → Option ℕ
nested_scope cs names None = None
nested_scope cs [] (Some scope) = Some scope
nested_scope cs (n ∷ names) (Some scope) = nested_scope cs names (scope_in cs scope n)

-- ---- Names.

-- names joined by `::`, as they are printed
abbrev pub qualified_name : List (List ℕ) → List ℕ
qualified_name [] = []
qualified_name (n ∷ []) = n
qualified_name (n ∷ m ∷ names) = n ++ codes "::" ++ qualified_name (m ∷ names)

abbrev pub display_name : Bool → List (List ℕ) → List ℕ
display_name false parts = qualified_name parts
display_name true parts = codes "::" ++ qualified_name parts

abbrev pub binding_or_fault : AsmFault → Option ℕ → Option ℕ → Result Binding AsmFault
binding_or_fault e (Some i) other = Ok (defined_at i)
binding_or_fault e None (Some k) = Ok (imported_as k)
binding_or_fault e None None = Err e

-- the binding of a plain name: in the innermost scope around the use that defines it; otherwise an import
abbrev pub plain_binding : Symbols → ℕ → List ℕ → Result Binding AsmFault
plain_binding y scope n = binding_or_fault (Undefined n) (first_found (λ s. definition_index y (named s n)) (scopes_from y.scopes scope)) (import_index y n)

-- the binding of a name after `::`: in the scope itself; imports belong to the global scope
abbrev pub member_binding : Symbols → List ℕ → AsmFault → AsmFault → Option ℕ → Result Binding AsmFault
member_binding y n absent lost None = Err lost
member_binding y n absent lost (Some zero) = binding_or_fault absent (definition_index y (named zero n)) (import_index y n)
member_binding y n absent lost (Some (suc i)) = binding_or_fault absent (definition_index y (named (suc i) n)) None

-- The scope of a name with `::`, among the scopes opened before the use. The first part is searched from
-- the innermost scope outward, or in the global scope after a leading `::`.
abbrev pub scope_from : List Scope → ℕ → Bool → List (List ℕ) → Option ℕ
scope_from cs scope true scopes = nested_scope cs scopes (Some zero)
scope_from cs scope false [] = None
scope_from cs scope false (n ∷ scopes) = nested_scope cs scopes (first_found (λ s. scope_in cs s n) (scopes_from cs scope))

-- the parts of a name before the last, which are a path of scopes
abbrev pub scope_path : List (List ℕ) → List (List ℕ)
scope_path [] = []
scope_path (n ∷ []) = []
scope_path (n ∷ m ∷ parts) = n ∷ scope_path (m ∷ parts)

-- the last part of a name
abbrev pub last_of : List (List ℕ) → List ℕ
last_of [] = []
last_of (n ∷ []) = n
last_of (n ∷ m ∷ parts) = last_of (m ∷ parts)

abbrev pub scoped_binding : Symbols → Context → Bool → List (List ℕ) → Result Binding AsmFault
scoped_binding y s global parts =
    member_binding y (last_of parts) (Undefined (display_name global parts)) (NoSuchScope (display_name global parts)) (scope_from (take s.opened y.scopes) s.scope global (scope_path parts))

-- ---- Labels.

-- a cheap local label of the same region
abbrev pub cheap_binding : Symbols → ℕ → List ℕ → Result Binding AsmFault
cheap_binding y region n = binding_or_fault (Undefined n) (definition_index y (cheap_in region n)) None

-- the unnamed label with this number
abbrev pub unnamed_binding : Symbols → ℕ → Result Binding AsmFault
unnamed_binding y k = binding_or_fault NoSuchLabel (definition_index y (unnamed_at k)) None

abbrev pub backward_binding : Symbols → ℕ → ℕ → Result Binding AsmFault
backward_binding y k n = if nat_le n k then unnamed_binding y (k - n) else Err NoSuchLabel

-- ---- The binding of an operand.
abbrev pub binding_of : Symbols → Context → Tree → Result Binding AsmFault
binding_of y s (name false (n ∷ [])) = plain_binding y s.scope n
binding_of y s (name global parts) = scoped_binding y s global parts
binding_of y s (cheap n) = cheap_binding y s.region n
binding_of y s (forward n) = unnamed_binding y (s.unnamed + n - 1)
binding_of y s (backward n) = backward_binding y s.unnamed n
binding_of y s _ = Err NoSuchLabel
