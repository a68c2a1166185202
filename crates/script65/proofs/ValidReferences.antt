-- The areas and rows that rows and sums refer to exist.
use Rattle.std.proofs.lemmas.Grind.{common_steps}
use Rattle.std.proofs.Common.{◌≡◌, ◌<◌, ℕ, suc, Bool, true, false, List, [], ◌∷◌, length, Option, Some, None, refl, sym, ap, ◌∙◌, subst, Ok, Err, arith}
use Rattle.std.specs.Prelude.{Result, if◌then◌else◌}
use Rattle.std.specs.List.{AllByRecursion}
use Rattle.base65.specs.Outcome.{try_map, ◌>>=◌}
use Rattle.script65.specs.declared.fault.FaultAt.{FaultAt}
use Rattle.script65.specs.Faults.{fault_at}
use Rattle.script65.specs.declared.fault.Fault.TheVariants.{Excluded}
use Rattle.script65.specs.declared.fault.Fault.{Fault}
use Rattle.script65.specs.declared.script.MemoryArea.{MemoryArea}
use Rattle.script65.specs.declared.script.Operand.{Operand}
use Rattle.script65.specs.declared.script.SegmentRow.{SegmentRow}
use Rattle.script65.specs.declared.script.Script.{Script}
use Rattle.script65.specs.declared.script.Term.{Term}
use Rattle.script65.specs.Entries.{Entries, ConfigEntry, ParsedTerm, terms_for}
use Rattle.script65.specs.Scripts.{area_for, area_from, area_operand, export_operand, row_operand, first_of_three, has_exclusive_attributes, one_of_three, operand_for, row_at, row_from, script_from, sum_for, sums_of, term_from, term_or_fault, with_line}
use Rattle.std.specs.Prelude.{codes}
use Rattle.script65.specs.declared.script.AreaAttribute.{AreaAttribute}
use Rattle.script65.specs.declared.script.RowAttribute.{RowAttribute}
use Rattle.script65.specs.declared.script.RowAttribute.TheVariants as row_part
use Rattle.script65.specs.declared.script.AreaAttribute.TheVariants as area_part
use Rattle.script65.specs.declared.script.Operand.TheVariants as operand
use Rattle.script65.specs.Laws.{ReferencesAreValid, AreValidTerms, IsValidOperand}

-- ---- Lists that are built element by element.

-- a success of `>>=` is a success of both calls
pub and_then : {E A B : Type 0} (r : Result A E) (f : A → Result B E) (y : B) → (r >>= f) ≡ Ok y → (x : A) × (r ≡ Ok x) × (f x ≡ Ok y)
and_then x f y h = grind (arith, common_steps)

pub ok_is : {E A : Type 0} (x y : A) → ◌≡◌ {A = Result A E} (Ok x) (Ok y) → x ≡ y
ok_is x y h = cc

pub each_length : {E A B : Type 0} (f : A → Result B E) (xs : List A) (ys : List B) → try_map f xs ≡ Ok ys → length ys ≡ length xs
each_length f [] ys h = let e : [] ≡ ys = cc in ap length (sym e)
each_length f (x ∷ xs) ys h =
    let first = and_then (f x) (λ y. try_map f xs >>= (λ ys. Ok (y ∷ ys))) ys h in
    let rest = and_then (try_map f xs) (λ ys. Ok (first.0 ∷ ys)) ys first.2 in
    let e : first.0 ∷ rest.0 ≡ ys = cc in
    ap length (sym e) ∙ ap suc (each_length f xs rest.0 rest.1)

-- if `f` maps `Q` to `P`, all results satisfy `P`
pub each_holds : {E A B : Type 0} (f : A → Result B E) (Q : A → Type 0) (P : B → Type 0) → ((x : A) (y : B) → Q x → f x ≡ Ok y → P y) → (xs : List A) (ys : List B) → AllByRecursion Q xs → try_map f xs ≡ Ok ys → AllByRecursion P ys
each_holds f Q P made [] ys q h = let e : [] ≡ ys = cc in subst (AllByRecursion P) e tt
each_holds f Q P made (x ∷ xs) ys q h =
    let first = and_then (f x) (λ y. try_map f xs >>= (λ ys. Ok (y ∷ ys))) ys h in
    let rest = and_then (try_map f xs) (λ ys. Ok (first.0 ∷ ys)) ys first.2 in
    let e : first.0 ∷ rest.0 ≡ ys = cc in
    subst (AllByRecursion P) e (made x first.0 q.0 first.1, each_holds f Q P made xs rest.0 q.1 rest.1)

pub always : {A : Type 0} (xs : List A) → AllByRecursion (λ (x : A). Unit {0}) xs
always [] = tt
always (x ∷ xs) = (tt, always xs)

-- ---- The operands of names.

abbrev Names : ℕ → ℕ → Option Operand → Type 0
Names areas rows found = (o : Operand) → found ≡ Some o → IsValidOperand areas rows o

export_is : (areas rows : ℕ) (symbols : List ConfigEntry) (name : List ℕ) → Names areas rows (export_operand symbols name)
export_is areas rows symbols name = grind (arith, common_steps)

area_part_is : (rows : ℕ) (areas : List ConfigEntry) (name : List ℕ) (part : AreaAttribute) → Names (length areas) rows (area_operand areas name part)
area_part_is rows areas name part = grind (arith, common_steps)

row_part_is : (areas : ℕ) (rows : List ConfigEntry) (name : List ℕ) (part : RowAttribute) → Names areas (length rows) (row_operand rows name part)
row_part_is areas rows name part = grind (arith, common_steps)

three_are : (areas rows : ℕ) (a b c : Option Operand) → Names areas rows a → Names areas rows b → Names areas rows c → Names areas rows (first_of_three a b c)
three_are areas rows (Some x) b c f g k o h = f o h
three_are areas rows None (Some x) c f g k o h = g o h
three_are areas rows None None c f g k o h = k o h

only_is : (areas rows : ℕ) (a b c : Option Operand) → Names areas rows a → Names areas rows b → Names areas rows c → (o : Operand) → one_of_three a b c ≡ Ok o → IsValidOperand areas rows o
only_is areas rows x y z f g k o h = grind (arith, common_steps)

abbrev Draws : Entries → Operand → Type 0
Draws es o = IsValidOperand (length es.areas) (length es.rows) o

operand_is : (es : Entries) (number : Option ℕ) (name : List ℕ) (o : Operand) → operand_for es number name ≡ Ok o → Draws es o
operand_is es (Some n) name o h = let e : operand.Number n ≡ o = ok_is {E = Fault} (operand.Number n) o h in subst (Draws es) e tt
operand_is es None name o h =
    only_is (length es.areas) (length es.rows) _ _ _ (export_is (length es.areas) (length es.rows) es.symbols name)
    (three_are (length es.areas) (length es.rows) _ _ _ (area_part_is (length es.rows) es.areas name area_part.Start) (area_part_is (length es.rows) es.areas name area_part.Size) (area_part_is (length es.rows) es.areas name area_part.Last))
    (three_are (length es.areas) (length es.rows) _ _ _ (row_part_is (length es.areas) es.rows name row_part.Load) (row_part_is (length es.areas) es.rows name row_part.Run) (row_part_is (length es.areas) es.rows name row_part.Size)) o h

term_is : (es : Entries) (p : ParsedTerm) (t : Term) → term_from es p ≡ Ok t → Draws es t.operand
term_is es p t h = by (operand_for es p.number p.name) refl h
  where
    by : (r : Result Operand Fault) → operand_for es p.number p.name ≡ r → term_or_fault p r ≡ Ok t → Draws es t.operand
    by (Ok o) e k =
        let made : Term = record { minus = p.minus; operand = o } in
        let same : made ≡ t = ok_is {E = FaultAt} made t k in
        subst (λ (t : Term). Draws es t.operand) same (operand_is es p.number p.name o e)
    by (Err f) e k = absurd cc

terms_are : (es : Entries) (a : List ℕ) (e : ConfigEntry) (ts : List Term) → sum_for es a e ≡ Ok ts → AreValidTerms (length es.areas) (length es.rows) ts
terms_are es a e ts h =
    let ps = terms_for a e in
    each_holds (term_from es) (λ p. Unit {0}) (λ (t : Term). Draws es t.operand) (λ p t q e. term_is es p t e) ps ts (always ps) h

-- the two sums of an area, as the script states them
pub record Extent (es : Entries) (e : ConfigEntry) (x : List Term × List Term) : Type 0 where
  pub start : sum_for es (codes "start") e ≡ Ok x.0
  pub size : sum_for es (codes "size") e ≡ Ok x.1

pub extent_is : (es : Entries) (e : ConfigEntry) (x : List Term × List Term) → sums_of es e ≡ Ok x → Extent es e x
extent_is es e x h = grind (arith, common_steps)

-- ---- Scripts.

-- the areas and rows of a script
pub record Made (es : Entries) (s : Script) : Type 0 where
  pub areas : try_map (area_from es) es.areas ≡ Ok s.areas
  pub rows : try_map (row_from es) es.rows ≡ Ok s.rows

pub made_of : (es : Entries) (s : Script) → script_from es ≡ Ok s → Made es s
made_of es s h = grind (arith, common_steps)

names_of : (es : Entries) (e : ConfigEntry) (a : MemoryArea) → area_from es e ≡ Ok a → AreValidTerms (length es.areas) (length es.rows) a.start × AreValidTerms (length es.areas) (length es.rows) a.size
names_of es e a h =
    let x = and_then (sums_of es e) _ a h in
    let g = extent_is es e x.0 x.1 in
    let made = ok_is {E = FaultAt} _ a x.2 in
    let start : x.0.0 ≡ a.start = ap (λ (b : MemoryArea). b.start) made in
    let size : x.0.1 ≡ a.size = ap (λ (b : MemoryArea). b.size) made in
    (subst (AreValidTerms (length es.areas) (length es.rows)) start (terms_are es (codes "start") e x.0.0 g.start), subst (AreValidTerms (length es.areas) (length es.rows)) size (terms_are es (codes "size") e x.0.1 g.size))

given_is : (es : Entries) (a : List ℕ) (other : Option ℕ) (e : ConfigEntry) (k : ℕ) → ((m : ℕ) → other ≡ Some m → m < length es.areas) → area_for es a other e ≡ Ok k → k < length es.areas
given_is es a other e k inside h = grind (arith, common_steps)

areas_of : (es : Entries) (e : ConfigEntry) (r : SegmentRow) → row_from es e ≡ Ok r → (r.load < length es.areas) × (r.run < length es.areas)
areas_of es e r h =
    let load = and_then (area_for es (codes "load") None e) _ r h in
    let run = and_then (area_for es (codes "run") (Some load.0) e) _ r load.2 in
    let loads : load.0 < length es.areas = given_is es (codes "load") None e load.0 (λ m none. absurd cc) load.1 in
    let runs : run.0 < length es.areas = given_is es (codes "run") (Some load.0) e run.0 (λ m some. let same : load.0 ≡ m = cc in subst (λ n. n < length es.areas) same loads) run.1 in
    let made : row_at es e load.0 run.0 ≡ r = kept (row_at es e load.0 run.0) (has_exclusive_attributes e load.0 run.0) run.2 in
    (subst (λ n. n < length es.areas) (ap (λ (r : SegmentRow). r.load) made) loads, subst (λ n. n < length es.areas) (ap (λ (r : SegmentRow). r.run) made) runs)
  where
    kept : (p : SegmentRow) (b : Bool) → if◌then◌else◌ {A = Result SegmentRow FaultAt} b (Err (fault_at Excluded e.at)) (Ok p) ≡ Ok r → p ≡ r
    kept p true h = absurd cc
    kept p false h = ok_is {E = FaultAt} p r h

pub all_there : ReferencesAreValid
all_there bytes s h =
    let read : (h.0 >>= script_from) ≡ Ok s = by (h.0 >>= script_from) h.2 in
    let es = and_then h.0 script_from s read in
    let made = made_of es.0 s es.2 in
    let areas : length s.areas ≡ length es.0.areas = each_length (area_from es.0) es.0.areas s.areas made.areas in
    let rows : length s.rows ≡ length es.0.rows = each_length (row_from es.0) es.0.rows s.rows made.rows in
    let N : ℕ → ℕ → Type 0 = λ m n. AllByRecursion (λ (a : MemoryArea). AreValidTerms m n a.start × AreValidTerms m n a.size) s.areas in
    let R : ℕ → Type 0 = λ m. AllByRecursion (λ (r : SegmentRow). (r.load < m) × (r.run < m)) s.rows in
    let named : N (length es.0.areas) (length es.0.rows) = each_holds (area_from es.0) (λ e. Unit {0}) _ (λ e a q g. names_of es.0 e a g) es.0.areas s.areas (always es.0.areas) made.areas in
    let placed : R (length es.0.areas) = each_holds (row_from es.0) (λ e. Unit {0}) _ (λ e r q g. areas_of es.0 e r g) es.0.rows s.rows (always es.0.rows) made.rows in
    (subst (λ n. N (length s.areas) n) (sym rows) (subst (λ m. N m (length es.0.rows)) (sym areas) named), subst R (sym areas) placed)
  where
    by : (q : Result Script FaultAt) → Ok s ≡ with_line bytes q → q ≡ Ok s
    by (Ok x) e = let same : x ≡ s = cc in ap Ok same
    by (Err f) e = absurd cc
