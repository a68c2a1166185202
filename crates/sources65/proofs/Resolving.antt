-- Resolving pieces with a symbol table that later statements extend.
use Rattle.std.proofs.Common.{◌≡◌, ◌∙◌, ℕ, List, [], ◌∷◌, ◌++◌, refl, sym, ap, arith}
use Rattle.std.specs.Prelude.{if◌then◌else◌}
use Rattle.std.specs.List.{flat_map, list_any}
use Rattle.std.specs.Str.{bytes_eq}
use Rattle.std.proofs.lemmas.Grind.{common_steps, flat_map-append}
use Rattle.std.proofs.lemmas.List.{append-nil}
use Rattle.semantics65.specs.Symbols.{LaidOutStatement, Symbols, symbols_of, with_new_names}
use Rattle.semantics65.specs.Norms.{Extends}
use Rattle.sources65.specs.Machine.{symbols_after, HasFinalContent, FinalFormIsResolved}
use Rattle.base65.specs.Outcome.{◌>>=◌}
use Rattle.semantics65.specs.Module.{with_location, known_part, value_result}
use Rattle.semantics65.specs.Contents.{Part, section_part}
use Rattle.syntax65.specs.declared.source_location.SourceLocation.{SourceLocation}
use Rattle.semantics65.specs.declared.contexts.Context.{Context}

-- ---- Extended symbol tables.

pub flat_push : {A B : Type 0} (f : A → List B) (xs : List A) (x : A) → flat_map f (xs ++ x ∷ []) ≡ flat_map f xs ++ f x
flat_push f xs x = flat_map-append f xs (x ∷ []) ∙ ap (λ zs. flat_map f xs ++ zs) (append-nil (f x))

pub new_append : (known xs ys : List (List ℕ)) → with_new_names known (xs ++ ys) ≡ with_new_names (with_new_names known xs) ys
new_append known [] ys = refl
new_append known (x ∷ xs) ys = new_append (if list_any (λ k. bytes_eq x k) known then known else known ++ x ∷ []) xs ys

-- the symbol table after one further statement
pub symbols_push : (ls : List LaidOutStatement) (l : LaidOutStatement) → symbols_of (ls ++ l ∷ []) ≡ symbols_after (symbols_of ls) l
symbols_push ls l = grind (arith, common_steps, flat_push, new_append)

pub extends_same : (y : Symbols) → Extends y y
extends_same y = record {
  later_definitions = [];
  definitions = sym (append-nil y.definitions);
  later_scopes = [];
  scopes = sym (append-nil y.scopes);
}

pub extends_after : (y : Symbols) (l : LaidOutStatement) → Extends y (symbols_after y l)
extends_after y l = grind (arith, common_steps)

pub extends_then : (x y z : Symbols) → Extends x y → Extends y z → Extends x z
extends_then x y z a b = grind (arith, common_steps)

-- ---- Pieces that are resolved at their line.

-- a known part
pub settled_given : (y : Symbols) (location : SourceLocation) (s : Context) (p : Part) → HasFinalContent y location s (known_part p) (section_part s.segment p)
settled_given y location s p z names e = refl

-- a value with a final form
pub final_settles : FinalFormIsResolved
final_settles y location s why e f c final there z names more = ap (with_location location) (ap (λ r. r >>= value_result location s why) (final z more) ∙ there)
