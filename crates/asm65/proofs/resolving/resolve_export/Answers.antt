use Rattle.std.proofs.Common.{◌≡◌, ◌||◌, ℕ, Bool, true, false, List, [], ◌∷◌, ◌++◌, Err, None, Ok, Result, Some, refl, rules, subst, sym}
use Rattle.std.specs.Prelude.{OnOk}
use Rattle.std.specs.List.{list_any}
use Rattle.std.specs.Str.{bytes_eq}
use Rattle.std.proofs.lemmas.List.Folds.{list_any-append}
use Rattle.std.proofs.lemmas.Slice.Eq.{bytes_eq-Decides}
use Rattle.emit65.specs.SectionContents.{names_of}
use Rattle.semantics65.specs.Symbols.{Symbols, definition_index, named}
use Rattle.symbols65.specs.Views.{table_of}
use Rattle.asm65.specs.Internal.RunState.{AreDefinedNames}
use Rattle.asm65.proofs.resolving.resolve_export.Goals as goal

-- A defined name may be added to the exported names.
with_defined : (y : Symbols) (names : List (List ℕ)) (name : List ℕ) (index : ℕ) → definition_index y (named 0 name) ≡ Some index
    → AreDefinedNames y names → AreDefinedNames y (names ++ name ∷ [])
with_defined y names name index defined all n undefined =
    rw (list_any-append (bytes_eq n) names (name ∷ []), all n undefined) (by (bytes_eq n name) refl)
  where
    by : (b : Bool) → bytes_eq n name ≡ b → (b || false) ≡ false
    by true same = let is : n ≡ name = (bytes_eq-Decides n name).0 same in absurd cc
    by false other = refl

always : {A E P : Type 0} (r : Result A E) → P → OnOk r P
always (Ok x) h = h
always (Err e) h = tt

pub returns-clause-names : goal.returns-clause-names
returns-clause-names c =
    let y = table_of c.args.symbols.now in
    let names : names_of c.add_export.new.exported ≡ names_of c.args.exported.now ++ c.args.name ∷ [] = search rules in
    let all = with_defined y (names_of c.args.exported.now) c.args.name c.args.index c.requires.index c.requires.names in
    subst (λ (ns : List (List ℕ)). OnOk c.checked_declaration.result (AreDefinedNames y ns)) (sym names) (always _ all)
