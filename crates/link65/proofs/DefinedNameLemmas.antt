-- Names that are defined, none of them twice, and names that nothing defines.
use Rattle.std.proofs.lemmas.Grind.{common_steps}
use Rattle.std.proofs.Common.{arith, ◌≡◌, ◌∙◌, ℕ, Bool, true, false, not, List, [], ◌∷◌, ◌++◌, Result, Ok, Err, append_assoc, refl, sym, ap, map, length, drop, get_or, ◌+◌, ◌<◌, ◌||◌, filter, Option, if◌then◌else◌}
use Rattle.base65.specs.Outcome.{◌>>=◌}
use Rattle.link65.specs.declared.fault.LinkFault.{LinkFault}
use Rattle.link65.specs.declared.fault.LinkFault.TheVariants.{DuplicateExport, Unresolved}
use Rattle.link65.specs.Representation.{names_or_duplicate, with_new_names, with_new_name}
use Rattle.link65.specs.Names.{first_duplicate, is_among, strong_names, distinct_names, is_defined_name, open_names, references, unresolved_names, weak_definition, weak_symbols, symbol_imports}
use Rattle.link65.specs.Links.{none_duplicate, none_unresolved}
use Rattle.link65.specs.Programs.{Module, Program, with_module}
use Rattle.script65.specs.declared.script.Script.{Script}
use Rattle.script65.specs.declared.script.Symbol.{Symbol}
use Rattle.script65.specs.declared.script.SymbolKind.{SymbolKind}
use Rattle.script65.specs.declared.script.SymbolKind.TheVariants as kind
use Rattle.script65.proofs.ListLemmas.{drop_item}
use Rattle.link65.specs.declared.parts.ScriptSymbol.{ScriptSymbol}
use Rattle.std.proofs.lemmas.Cmp.{nat_list_eq_equiv}
use Rattle.std.proofs.lemmas.List.{map-append}
use Rattle.std.proofs.lemmas.List.Elements.{filter-append}
use Rattle.std.proofs.lemmas.List.Folds.{list_any-append}
use Rattle.std.proofs.lemmas.Slice.Eq.{bytes_eq-Decides}
use Rattle.std.specs.List.{list_any, flat_map}
use Rattle.std.specs.Str.{bytes_eq}
use Rattle.link65.specs.declared.parts.LinkedModule.{LinkedModule}
use Rattle.link65.specs.Internal.Fields.{missing_after}

-- ---- Names without duplicates.

abbrev Names : Type 0
Names = List (List ℕ)

nil : (ns : Names) → ns ++ [] ≡ ns
nil [] = refl
nil (n ∷ ns) = ap (λ l. n ∷ l) (nil ns)

each_step : (before : Names) (name : List ℕ) (names : Names) (b : Bool) → is_among before name ≡ b → with_new_names (before ++ name ∷ []) names ≡ names_or_duplicate (before ++ name ∷ []) names → with_new_names before (name ∷ names) ≡ names_or_duplicate before (name ∷ names)
each_step before name names true is rest = rw is refl
each_step before name names false is rest = grind (arith, common_steps, append_assoc)

-- adding names one at a time has the same result as adding all of them
pub each_once_all : (names before : Names) → with_new_names before names ≡ names_or_duplicate before names
each_once_all [] before = let made : Names → Result Names LinkFault = λ ns. Ok ns in ap made (sym (nil before))
each_once_all (name ∷ names) before = each_step before name names (is_among before name) refl (each_once_all names (before ++ name ∷ []))

-- ---- One name.

pub there : (b r : Bool) → r ≡ not b → r ≡ false → b ≡ true
there true r e f = refl
there false r e f = sym f ∙ e

pub fresh : (b r : Bool) → r ≡ not b → r ≡ true → b ≡ false
fresh true r e f = sym f ∙ e
fresh false r e f = refl

pub refused_again : (before : Names) (name copy : List ℕ) → is_among before name ≡ true → copy ≡ name → with_new_name before name ≡ Err (DuplicateExport copy)
refused_again before name copy is same = let made : List ℕ → Result Names LinkFault = λ n. Err (DuplicateExport n) in rw is (ap made (sym same))

pub taken_new : (before after : Names) (name : List ℕ) → is_among before name ≡ false → after ≡ before ++ name ∷ [] → with_new_name before name ≡ Ok after
taken_new before after name is same = let made : Names → Result Names LinkFault = λ ns. Ok ns in rw is (ap made (sym same))

-- ---- Names added after other names, without duplicates.

after_one : (r : Result Names LinkFault) (xs ys : Names) → ((all : Names) → with_new_names all (xs ++ ys) ≡ (with_new_names all xs >>= (λ more. with_new_names more ys))) → (r >>= (λ all. with_new_names all (xs ++ ys))) ≡ ((r >>= (λ all. with_new_names all xs)) >>= (λ more. with_new_names more ys))
after_one x xs ys h = grind (arith, common_steps)

each_after : (before xs ys : Names) → with_new_names before (xs ++ ys) ≡ (with_new_names before xs >>= (λ all. with_new_names all ys))
each_after before [] ys = refl
each_after before (x ∷ xs) ys = after_one (with_new_name before x) xs ys (λ all. each_after all xs ys)

-- if `xs` has no duplicate, checking `xs ++ ys` is checking `ys` after `xs`
pub once_after : (provided xs ys : Names) → names_or_duplicate [] xs ≡ Ok provided → names_or_duplicate [] (xs ++ ys) ≡ names_or_duplicate provided ys
once_after provided xs ys h =
    sym (each_once_all (xs ++ ys) []) ∙ each_after [] xs ys
    ∙ ap (λ r. r >>= (λ all. with_new_names all ys)) (each_once_all xs [] ∙ h)
    ∙ each_once_all ys provided

pub map_after : {A B C : Type 0} (f : B → C) (g : A → B) (old : List B) (xs : List A) → map f (old ++ map g xs) ≡ map f old ++ map (λ x. f (g x)) xs
map_after f g [] [] = refl
map_after f g [] (x ∷ xs) = ap (λ ys. f (g x) ∷ ys) (map_after f g [] xs)
map_after f g (y ∷ old) xs = ap (λ ys. f y ∷ ys) (map_after f g old xs)

-- the names defined after a module: those defined before it, and its exports
pub module_gives : (s : Script) (p : Program) (m : Module) → strong_names s (with_module p m) ≡ strong_names s p ++ map (λ e. e.name) m.object.exports
module_gives s p m = grind (arith, common_steps, map_after, append_assoc)

-- ---- A name is appended if it isn't in the list.

flipped : (name : List ℕ) (names : List (List ℕ)) → list_any (bytes_eq name) names ≡ is_among names name
flipped name [] = refl
flipped name (n ∷ names) = ap (λ b. b || list_any (bytes_eq name) names) (nat_list_eq_equiv.symm name n) ∙ ap (λ b. bytes_eq n name || b) (flipped name names)

any_map : {A B : Type 0} (p : B → Bool) (f : A → B) (xs : List A) → list_any (λ x. p (f x)) xs ≡ list_any p (map f xs)
any_map p f [] = refl
any_map p f (x ∷ xs) = ap (λ b. p (f x) || b) (any_map p f xs)

-- membership of a name in the list of the keys' names
pub among_keys : {A : Type 0} (f : A → List ℕ) (keys : List A) (name : List ℕ) → list_any (λ k. bytes_eq name (f k)) keys ≡ is_among (map f keys) name
among_keys f keys name = any_map (bytes_eq name) f keys ∙ flipped name (map f keys)

push_if : {A B : Type 0} (f : A → B) (b : Bool) (xs : List A) (x : A) → map f (if b then xs else xs ++ x ∷ []) ≡ (if b then map f xs else map f xs ++ f x ∷ [])
push_if f true xs x = refl
push_if f false xs x = map-append f xs (x ∷ [])

pub inserted : {A : Type 0} (f : A → List ℕ) (keys : List A) (key : A) → map f (if list_any (λ k. bytes_eq (f key) (f k)) keys then keys else keys ++ key ∷ []) ≡ (if is_among (map f keys) (f key) then map f keys else map f keys ++ f key ∷ [])
inserted f keys key =
    push_if f (list_any (λ k. bytes_eq (f key) (f k)) keys) keys key
    ∙ ap (λ b. if b then map f keys else map f keys ++ f key ∷ []) (among_keys f keys (f key))

again_none : (o : Option (List ℕ)) (names provided : Names) → (none_duplicate o >>= (λ u. Ok names)) ≡ Ok provided → provided ≡ names
again_none o names provided h = grind (arith, common_steps)

-- names without a duplicate are returned unchanged
pub given_all : (names provided : Names) → names_or_duplicate [] names ≡ Ok provided → provided ≡ names
given_all names provided h = again_none (first_duplicate [] names) names provided h

-- ---- Names that nothing defines, each once.

pub missing_append : (provided xs before ys : Names) → missing_after provided (missing_after provided before xs) ys ≡ missing_after provided before (xs ++ ys)
missing_append provided [] before ys = refl
missing_append provided (x ∷ xs) before ys = missing_append provided xs (if is_among provided x || is_among before x then before else before ++ x ∷ []) ys

same_name : (x y : List ℕ) → bytes_eq x y ≡ true → x ≡ y
same_name x y e = (bytes_eq-Decides x y).0 e

other_name : (q : List ℕ → Bool) (x y : List ℕ) (b : Bool) → q x ≡ true → q y ≡ false → bytes_eq y x ≡ b → b ≡ false
other_name q x y true passes stops e = sym passes ∙ ap q (sym (same_name y x e)) ∙ stops
other_name q x y false passes stops e = refl

kept_step : (q : List ℕ → Bool) (x y : List ℕ) (ys : List (List ℕ)) (b : Bool) → q x ≡ true → q y ≡ b → is_among (filter q ys) x ≡ is_among ys x → is_among (filter q (y ∷ ys)) x ≡ is_among (y ∷ ys) x
kept_step q x y ys true passes is rest = rw is (ap (λ b. bytes_eq y x || b) rest)
kept_step q x y ys false passes is rest = rw (is, other_name q x y (bytes_eq y x) passes is refl) rest

-- a filter that a name passes doesn't change whether the name is in a list
kept_among : (q : List ℕ → Bool) (x : List ℕ) (ys : List (List ℕ)) → q x ≡ true → is_among (filter q ys) x ≡ is_among ys x
kept_among q x [] passes = refl
kept_among q x (y ∷ ys) passes = kept_step q x y ys (q y) passes refl (kept_among q x ys passes)

filter_one : (q : List ℕ → Bool) (x : List ℕ) (b : Bool) → q x ≡ b → filter q (x ∷ []) ≡ (if b then x ∷ [] else [])
filter_one q x true e = rw e refl
filter_one q x false e = rw e refl

once_step : (gives : List ℕ → Bool) (before : List (List ℕ)) (x : List ℕ) (g a : Bool) → gives x ≡ g → is_among before x ≡ a → filter (λ n. not (gives n)) (if a then before else before ++ x ∷ []) ≡ (if g || is_among (filter (λ n. not (gives n)) before) x then filter (λ n. not (gives n)) before else filter (λ n. not (gives n)) before ++ x ∷ [])
once_step gives before x true true is there = refl
once_step gives before x true false is there = grind (arith, common_steps, there, filter-append, filter_one, nil)
once_step gives before x false a is there = grind (arith, common_steps, there, kept_among, filter-append, filter_one)

once_missing : (provided xs before : Names) → filter (λ n. not (is_among provided n)) (distinct_names before xs) ≡ missing_after provided (filter (λ n. not (is_among provided n)) before) xs
once_missing provided [] before = refl
once_missing provided (x ∷ xs) before =
    once_missing provided xs (if is_among before x then before else before ++ x ∷ [])
    ∙ ap (λ ns. missing_after provided ns xs) (once_step (is_among provided) before x (is_among provided x) (is_among before x) refl refl)

abbrev pub wanted : List Symbol → List LinkedModule → Names
wanted symbols members = symbol_imports symbols ++ flat_map (λ m. m.imports) members

-- the names that are imported and that neither the script nor a module defines
pub open_missing : (s : Script) (p : Program) (provided : Names) (members : List LinkedModule) → provided ≡ strong_names s p → p.members ≡ members → missing_after provided [] (wanted s.symbols members) ≡ open_names s p
open_missing s p provided members e f = rw (e, ← f) (sym (once_missing (strong_names s p) (wanted s.symbols p.members) []))

-- ---- Weak names after the names that are defined.

among_too : (before : Names) (x y : List ℕ) (b : Bool) → bytes_eq x y ≡ b → is_among before x ≡ true → is_among before y ≡ (is_among before y || b)
among_too before x y true same is = ap (is_among before) (sym (same_name x y same)) ∙ is ∙ sym (ap (λ b. b || true) (ap (is_among before) (sym (same_name x y same)) ∙ is))
among_too before x y false same is = grind (arith, common_steps)

or_assoc : (a b c : Bool) → ((a || b) || c) ≡ (a || (b || c))
or_assoc true b c = refl
or_assoc false b c = refl

one_among : (before : Names) (x y : List ℕ) (b : Bool) → is_among before x ≡ b → is_among (if b then before else before ++ x ∷ []) y ≡ (is_among before y || bytes_eq x y)
one_among before x y true is = among_too before x y (bytes_eq x y) refl is
one_among before x y false is = grind (arith, common_steps, list_any-append)

once_among : (xs before : Names) (y : List ℕ) → is_among (distinct_names before xs) y ≡ (is_among before y || is_among xs y)
once_among [] before y = grind (arith, common_steps)
once_among (x ∷ xs) before y =
    once_among xs (if is_among before x then before else before ++ x ∷ []) y
    ∙ ap (λ b. b || is_among xs y) (one_among before x y (is_among before x) refl)
    ∙ or_assoc (is_among before y) (bytes_eq x y) (is_among xs y)

filter_same : (f g : List ℕ → Bool) → ((x : List ℕ) → f x ≡ g x) → (xs : Names) → filter f xs ≡ filter g xs
filter_same f g same [] = refl
filter_same f g same (x ∷ xs) = rw (same x, filter_same f g same xs) refl

-- the names that are imported and that nothing defines, not even a weak name
pub none_gives : (s : Script) (p : Program) (provided : Names) (members : List LinkedModule) → provided ≡ strong_names s p → p.members ≡ members → missing_after (distinct_names provided (map (λ d. d.name) (weak_symbols s.symbols))) [] (wanted s.symbols members) ≡ unresolved_names s p
none_gives s p provided members e f =
    let weak = map (λ (d : ScriptSymbol). d.name) (weak_symbols s.symbols) in
    rw (e, ← f)
    (sym (once_missing (distinct_names (strong_names s p) weak) (wanted s.symbols p.members) [])
    ∙ filter_same (λ n. not (is_among (distinct_names (strong_names s p) weak) n)) (λ n. not (is_defined_name s p n)) (λ n. ap not (once_among weak (strong_names s p) n)) (references s p))

-- ---- Weak names, one at a time.

-- the names with one further name, if its symbol is weak and the name isn't in the list
abbrev pub with_weak : SymbolKind → Names → List ℕ → Names
with_weak (kind.Weak n) before name = if is_among before name then before else before ++ name ∷ []
with_weak (kind.Export n) before name = before
with_weak kind.Import before name = before

weak_step : (k : SymbolKind) (name : List ℕ) (before rest : Names) → distinct_names before (map (λ d. d.name) (weak_definition k name) ++ rest) ≡ distinct_names (with_weak k before name) rest
weak_step (kind.Weak n) name before rest = refl
weak_step (kind.Export n) name before rest = refl
weak_step kind.Import name before rest = refl

pub not_weak : (k : SymbolKind) (before : Names) (name : List ℕ) → ((n : ℕ) → k ≡ kind.Weak n → ⊥) → before ≡ with_weak k before name
not_weak (kind.Weak n) before name h = absurd (h n refl)
not_weak (kind.Export n) before name h = refl
not_weak kind.Import before name h = refl

pub weak_next : (symbols : List Symbol) (i : ℕ) (s : Symbol) (before after target : Names) → i < length symbols → s ≡ get_or symbols i s → after ≡ with_weak s.kind before s.name → distinct_names before (map (λ d. d.name) (weak_symbols (drop i symbols))) ≡ target → distinct_names after (map (λ d. d.name) (weak_symbols (drop (i + 1) symbols))) ≡ target
weak_next symbols i s before after target lt at new inv =
    let names = λ (ss : List Symbol). map (λ (d : ScriptSymbol). d.name) (weak_symbols ss) in
    let rest = drop (i + 1) symbols in
    ap (λ b. distinct_names b (names rest)) new
    ∙ sym (weak_step s.kind s.name before (names rest))
    ∙ sym (ap (distinct_names before) (map-append (λ (d : ScriptSymbol). d.name) (weak_definition s.kind s.name) (weak_symbols rest)))
    ∙ sym (ap (λ ss. distinct_names before (names ss)) (drop_item symbols i s lt at))
    ∙ inv

-- ---- The error of undefined names.

pub left_none : (names : Names) → length names ≡ 0 → none_unresolved names ≡ Ok tt
left_none [] h = refl
left_none (n ∷ names) h = absurd (omega arith)

pub left_some : (names : Names) → (length names ≡ 0 → ⊥) → none_unresolved names ≡ Err (Unresolved names)
left_some [] h = absurd (h refl)
left_some (n ∷ names) h = refl
