-- The invariant of the evaluation of exports, which follows needed exports depth first, and the steps that preserve it.
use Rattle.std.proofs.Common.{◌≡◌, ◌≢◌, ℕ, zero, suc, ◌+◌, ◌<◌, get_or, refl, sym, ◌∙◌, ap, subst, arith, List, [], ◌∷◌, ◌++◌, length, slice_get, Option, Some, None, Bool, true, false, nat_eq, Result, Ok, Err, ◌⊎◌, inl, inr, length-append}
use Rattle.std.specs.Prelude.{ℤ, slice_set, sum_by}
use Rattle.std.proofs.lemmas.Grind.{common_steps}
use Rattle.std.proofs.lemmas.List.Sums.{sum_by-set}
use Rattle.std.proofs.lemmas.Option.{gets}
use Rattle.std.proofs.lemmas.Bool.Decides.{nat_tests}
use Rattle.link65.specs.declared.evaluation.Attempt.TheVariants as attempt
use Rattle.link65.specs.declared.evaluation.ExportState.{ExportState}
use Rattle.link65.specs.declared.evaluation.ExportState.TheVariants.{Untouched, BeingEvaluated, Found}
use Rattle.link65.specs.declared.evaluation.EvalBlocked.{EvalBlocked}
use Rattle.link65.specs.declared.evaluation.EvalBlocked.TheVariants.{Fault, Needs}
use Rattle.link65.specs.declared.parts.ModuleExport.{ModuleExport}
use Rattle.link65.specs.declared.parts.ValueFault.{ValueFault}
use Rattle.link65.specs.declared.parts.ValueFault.TheVariants.{Circular, NoValue, Unresolved}
use Rattle.link65.specs.Placed.{ExportStatesInvariant, AreCorrect, IsFound, PreservesResults, attempt_of, export_attempt, form_attempt}
use Rattle.link65.specs.Values.{ExportEvaluatesTo, Linkage, exports_to_depth, value_of_form}
use Rattle.link65.proofs.Attempts.{Among, IsChain, Leads, chain_less, chain_more, leads_to, met_again, AreLong, Meets, Tells, form_tells, Reaches}

pub record IsWalk (l : Linkage) (old states : List ExportState) (waiting : List ℕ) (root top : ℕ) : Type 0 where
  pub long : length states ≡ length l.exports
  pub all_correct : AreCorrect l states
  pub top_inside : top < length states
  pub inside : (x : ℕ) → Among x waiting → x < length states
  pub chain : IsChain l root waiting top
  pub evaluated : (x : ℕ) → slice_get states x ≡ Some BeingEvaluated → Among x waiting ⊎ (x ≡ top)
  pub kept : PreservesResults old states

-- ---- Lists of export states.

get_set_same : (states : List ExportState) (x : ℕ) (m : ExportState) → x < length states → slice_get (slice_set states x m) x ≡ Some m
get_set_same states x m h = grind (arith, common_steps, gets)

get_set_other : (states : List ExportState) (x y : ℕ) (m : ExportState) → y ≢ x → slice_get (slice_set states x m) y ≡ slice_get states y
get_set_other states x y m h = grind (arith, common_steps, gets)

pub long_marks : (l : Linkage) (states : List ExportState) → length states ≡ length l.exports → AreLong l states
long_marks l states h x e = grind (arith, common_steps, gets)

found_true : (l : Linkage) (states : List ExportState) (top : ℕ) (r : Result ℤ ValueFault) → top < length states → AreCorrect l states → ExportEvaluatesTo l top r → AreCorrect l (slice_set states top (Found r))
found_true l states top r h t c x q e = grind (arith, common_steps, nat_tests, get_set_same, get_set_other)

begun_true : (l : Linkage) (states : List ExportState) (next : ℕ) → next < length states → AreCorrect l states → AreCorrect l (slice_set states next BeingEvaluated)
begun_true l states next h t x q e = grind (arith, common_steps, nat_tests, get_set_same, get_set_other)

found_kept : (old states : List ExportState) (top : ℕ) (r : Result ℤ ValueFault) → top < length states → PreservesResults old states → PreservesResults old (slice_set states top (Found r))
found_kept old states top r h k x f = go (nat_eq x top) refl (k x f)
  where
    go : (b : Bool) → nat_eq x top ≡ b → IsFound states x → IsFound (slice_set states top (Found r)) x
    go true b g =
        let one : x ≡ top = grind (arith, nat_tests) in
        (r, rw one (get_set_same states top (Found r) h))
    go false b (q, g) =
        let other : x ≢ top = grind (arith, nat_tests) in
        (q, get_set_other states top x (Found r) other ∙ g)

begun_kept : (old states : List ExportState) (next : ℕ) → slice_get states next ≡ Some Untouched → PreservesResults old states → PreservesResults old (slice_set states next BeingEvaluated)
begun_kept old states next u k x f = go (nat_eq x next) refl (k x f)
  where
    go : (b : Bool) → nat_eq x next ≡ b → IsFound states x → IsFound (slice_set states next BeingEvaluated) x
    go true b (q, g) =
        let one : x ≡ next = grind (arith, nat_tests) in
        let there : slice_get states x ≡ Some Untouched = rw one u in
        absurd cc
    go false b (q, g) =
        let other : x ≢ next = grind (arith, nat_tests) in
        (q, get_set_other states next x BeingEvaluated other ∙ g)

among_more : (x w : ℕ) (ws : List ℕ) → Among x ws → Among x (ws ++ w ∷ [])
among_more x w [] h = absurd h
among_more x w (v ∷ ws) (inl e) = inl e
among_more x w (v ∷ ws) (inr h) = inr (among_more x w ws h)

among_last : (x w : ℕ) (ws : List ℕ) → x ≡ w → Among x (ws ++ w ∷ [])
among_last x w [] e = inl e
among_last x w (v ∷ ws) e = inr (among_last x w ws e)

among_cases : (x w : ℕ) (ws : List ℕ) → Among x (ws ++ w ∷ []) → Among x ws ⊎ (x ≡ w)
among_cases x w [] (inl e) = inr e
among_cases x w [] (inr h) = absurd h
among_cases x w (v ∷ ws) (inl e) = inl (inl e)
among_cases x w (v ∷ ws) (inr h) = grind (arith, common_steps, (among_cases x w ws h))

-- ---- The attempt at the top export.

attempt_settled : (t : Result ℤ EvalBlocked) (r : Result ℤ ValueFault) → attempt_of t ≡ attempt.Completed r → ((v : ℤ) × (t ≡ Ok v) × (r ≡ Ok v)) ⊎ ((e : ValueFault) × (t ≡ Err (Fault e)) × (r ≡ Err e))
attempt_settled x r e = grind (arith, common_steps)

attempt_needs : (t : Result ℤ EvalBlocked) (x : ℕ) → attempt_of t ≡ attempt.Needs x → t ≡ Err (Needs x)
attempt_needs y x e = grind (arith, common_steps)

-- the result of an export's form at depth `n`
abbrev pub form_at : Linkage → ModuleExport → ℕ → Result ℤ ValueFault
form_at l e n = value_of_form l (exports_to_depth l n) e.owner e.form

later_value : (l : Linkage) (top : ℕ) (e : ModuleExport) (r : Result ℤ ValueFault) → slice_get l.exports top ≡ Some e → (h : Reaches (form_at l e) r) → exports_to_depth l (suc h.turns) top ≡ r
later_value l top e r is h = rw is h.found

circular_next : (l : Linkage) (top : ℕ) (e : ModuleExport) → slice_get l.exports top ≡ Some e → ((n : ℕ) → form_at l e n ≡ Err Circular) → (n : ℕ) → exports_to_depth l n top ≡ Err Circular
circular_next l top e is h zero = refl
circular_next l top e is h (suc n) = rw is (h n)

meets_circular : (l : Linkage) (old states : List ExportState) (waiting : List ℕ) (root top : ℕ) (e : ModuleExport) → IsWalk l old states waiting root top → slice_get l.exports top ≡ Some e → Meets l states (form_at l e) → (n : ℕ) → exports_to_depth l n top ≡ Err Circular
meets_circular l old states waiting root top e w is m =
    met_again l root waiting top m.export w.chain (leads_to l top m.export e is m.follows) (w.evaluated m.export m.is)

fault_comes : (l : Linkage) (old states : List ExportState) (waiting : List ℕ) (root top : ℕ) (e : ModuleExport) (f : ValueFault) → IsWalk l old states waiting root top → slice_get l.exports top ≡ Some e → Tells l states (form_at l e) (Err (Fault f)) → ExportEvaluatesTo l top (Err f)
fault_comes l old states waiting root top e NoValue w is t = (suc t.turns, later_value l top e (Err NoValue) is t)
fault_comes l old states waiting root top e Unresolved w is t = (suc t.turns, later_value l top e (Err Unresolved) is t)
fault_comes l old states waiting root top e Circular w is (inl t) = circular_next l top e is t
fault_comes l old states waiting root top e Circular w is (inr t) = meets_circular l old states waiting root top e w is t

-- the attempt at the top export satisfies `Tells`
top_tells : (l : Linkage) (old states : List ExportState) (waiting : List ℕ) (root top : ℕ) (e : ModuleExport) → IsWalk l old states waiting root top → Tells l states (form_at l e) (form_attempt (slice_get l.modules e.owner) states e.form)
top_tells l old states waiting root top e w = form_tells l states w.all_correct (long_marks l states w.long) e.owner e.form

export_there : (l : Linkage) (states : List ExportState) (top : ℕ) → length states ≡ length l.exports → top < length states → (e : ModuleExport) × (slice_get l.exports top ≡ Some e)
export_there l states top n h = go (slice_get l.exports top) refl
  where
    go : (o : Option ModuleExport) → slice_get l.exports top ≡ o → (e : ModuleExport) × (slice_get l.exports top ≡ Some e)
    go (Some e) q = (e, q)
    go None q = absurd (grind (arith, common_steps, gets))

settled_comes : (l : Linkage) (old states : List ExportState) (waiting : List ℕ) (root top : ℕ) (e : ModuleExport) (r : Result ℤ ValueFault) → IsWalk l old states waiting root top → slice_get l.exports top ≡ Some e → attempt_of (form_attempt (slice_get l.modules e.owner) states e.form) ≡ attempt.Completed r → ExportEvaluatesTo l top r
settled_comes l old states waiting root top e r w is a = go (attempt_settled (form_attempt (slice_get l.modules e.owner) states e.form) r a)
  where
    tells : Tells l states (form_at l e) (form_attempt (slice_get l.modules e.owner) states e.form)
    tells = top_tells l old states waiting root top e w

    go : (((v : ℤ) × (form_attempt (slice_get l.modules e.owner) states e.form ≡ Ok v) × (r ≡ Ok v)) ⊎ ((f : ValueFault) × (form_attempt (slice_get l.modules e.owner) states e.form ≡ Err (Fault f)) × (r ≡ Err f))) → ExportEvaluatesTo l top r
    go (inl (v, t, q)) =
        let P : Result ℤ EvalBlocked → Type 0 = λ z. Tells l states (form_at l e) z in
        let reached = subst P t tells in
        let Q : Result ℤ ValueFault → Type 0 = λ z. ExportEvaluatesTo l top z in
        subst Q (sym q) (suc reached.turns, later_value l top e (Ok v) is reached)
    go (inr (f, t, q)) =
        let P : Result ℤ EvalBlocked → Type 0 = λ z. Tells l states (form_at l e) z in
        let Q : Result ℤ ValueFault → Type 0 = λ z. ExportEvaluatesTo l top z in
        subst Q (sym q) (fault_comes l old states waiting root top e f w is (subst P t tells))

-- the result of a completed attempt is the result of the top export
pub top_comes : (l : Linkage) (old states : List ExportState) (waiting : List ℕ) (root top : ℕ) (r : Result ℤ ValueFault) → IsWalk l old states waiting root top → attempt.Completed r ≡ export_attempt l.modules states (slice_get l.exports top) → ExportEvaluatesTo l top r
top_comes l old states waiting root top r w a =
    let (e, is) = export_there l states top w.long w.top_inside in
    settled_comes l old states waiting root top e r w is (sym (rw is at a))

-- an export that the attempt needs is untouched, and the top export leads to it
pub top_needs : (l : Linkage) (old states : List ExportState) (waiting : List ℕ) (root top next : ℕ) → IsWalk l old states waiting root top → attempt.Needs next ≡ export_attempt l.modules states (slice_get l.exports top) → (slice_get states next ≡ Some Untouched) × Leads l top next
top_needs l old states waiting root top next w a =
    let (e, is) = export_there l states top w.long w.top_inside in
    let t = attempt_needs (form_attempt (slice_get l.modules e.owner) states e.form) next (sym (rw is at a)) in
    let P : Result ℤ EvalBlocked → Type 0 = λ z. Tells l states (form_at l e) z in
    let told = subst P t (top_tells l old states waiting root top e w) in
    (told.0, leads_to l top next e is told.1)

-- ---- Steps.

untouched_inside : (states : List ExportState) (x : ℕ) → slice_get states x ≡ Some Untouched → x < length states
untouched_inside states x e = grind (arith, common_steps, gets)

pub next_inside : (l : Linkage) (old states : List ExportState) (waiting : List ℕ) (root top next : ℕ) → IsWalk l old states waiting root top → attempt.Needs next ≡ export_attempt l.modules states (slice_get l.exports top) → next < length states
next_inside l old states waiting root top next w a = untouched_inside states next (top_needs l old states waiting root top next w a).0

pub walk_down : (l : Linkage) (old states : List ExportState) (waiting : List ℕ) (root top next : ℕ) → IsWalk l old states waiting root top → attempt.Needs next ≡ export_attempt l.modules states (slice_get l.exports top) → IsWalk l old (slice_set states next BeingEvaluated) (waiting ++ top ∷ []) root next
walk_down l old states waiting root top next w a = record {
  long = (let long = w.long in grind (arith, common_steps));
  all_correct = begun_true l states next there w.all_correct;
  top_inside = (let h : next < length states = there in grind (arith, common_steps));
  inside = λ x k. (let h : x < length states = inside_cases x (among_cases x top waiting k) in grind (arith, common_steps));
  chain = chain_more l root waiting top next w.chain needs.1;
  evaluated = λ x e. cases x e (nat_eq x next) refl;
  kept = begun_kept old states next needs.0 w.kept;
}
  where
    needs : (slice_get states next ≡ Some Untouched) × Leads l top next
    needs = top_needs l old states waiting root top next w a

    there : next < length states
    there = untouched_inside states next needs.0

    inside_cases : (x : ℕ) → (Among x waiting ⊎ (x ≡ top)) → x < length states
    inside_cases x (inl h) = w.inside x h
    inside_cases x (inr h) = rw h w.top_inside

    older : (x : ℕ) → (Among x waiting ⊎ (x ≡ top)) → Among x (waiting ++ top ∷ []) ⊎ (x ≡ next)
    older x (inl h) = inl (among_more x top waiting h)
    older x (inr h) = inl (among_last x top waiting h)

    cases : (x : ℕ) → slice_get (slice_set states next BeingEvaluated) x ≡ Some BeingEvaluated → (b : Bool) → nat_eq x next ≡ b → Among x (waiting ++ top ∷ []) ⊎ (x ≡ next)
    cases x e true b = inr (grind (arith, nat_tests))
    cases x e false b =
        let other : x ≢ next = grind (arith, nat_tests) in
        older x (w.evaluated x (sym (get_set_other states next x BeingEvaluated other) ∙ e))

pub walk_up : (l : Linkage) (old states : List ExportState) (waiting others : List ℕ) (root top below : ℕ) (r : Result ℤ ValueFault) → IsWalk l old states waiting root top → waiting ≡ others ++ below ∷ [] → attempt.Completed r ≡ export_attempt l.modules states (slice_get l.exports top) → IsWalk l old (slice_set states top (Found r)) others root below
walk_up l old states waiting others root top below r w q a = record {
  long = (let long = w.long in grind (arith, common_steps));
  all_correct = found_true l states top r w.top_inside w.all_correct (top_comes l old states waiting root top r w a);
  top_inside = (let h : below < length states = w.inside below (rw q (among_last below below others refl)) in grind (arith, common_steps));
  inside = λ x k. (let h : x < length states = w.inside x (rw q (among_more x below others k)) in grind (arith, common_steps));
  chain = chain_less l root others below top (let P : List ℕ → Type 0 = λ z. IsChain l root z top in subst P q w.chain);
  evaluated = λ x e. cases x e (nat_eq x top) refl;
  kept = found_kept old states top r w.top_inside w.kept;
}
  where
    spread : (x : ℕ) → (Among x waiting ⊎ (x ≡ top)) → x ≢ top → Among x others ⊎ (x ≡ below)
    spread x (inl h) n = among_cases x below others (let P : List ℕ → Type 0 = λ z. Among x z in subst P q h)
    spread x (inr h) n = absurd (n h)

    cases : (x : ℕ) → slice_get (slice_set states top (Found r)) x ≡ Some BeingEvaluated → (b : Bool) → nat_eq x top ≡ b → Among x others ⊎ (x ≡ below)
    cases x e true b =
        let one : x ≡ top = grind (arith, nat_tests) in
        let there : slice_get (slice_set states top (Found r)) x ≡ Some (Found r) = rw one (get_set_same states top (Found r) w.top_inside) in
        absurd cc
    cases x e false b =
        let other : x ≢ top = grind (arith, nat_tests) in
        spread x (w.evaluated x (sym (get_set_other states top x (Found r) other) ∙ e)) other

pub record Ends (l : Linkage) (old states : List ExportState) (root : ℕ) : Type 0 where
  pub settled : ExportStatesInvariant l states
  pub found : IsFound states root
  pub kept : PreservesResults old states

pub walk_ends : (l : Linkage) (old states : List ExportState) (waiting : List ℕ) (root top : ℕ) (r : Result ℤ ValueFault) → IsWalk l old states waiting root top → waiting ≡ [] → attempt.Completed r ≡ export_attempt l.modules states (slice_get l.exports top) → Ends l old (slice_set states top (Found r)) root
walk_ends l old states waiting root top r w q a = record {
  settled = record {
    long = (let long = w.long in grind (arith, common_steps));
    all_correct = found_true l states top r w.top_inside w.all_correct (top_comes l old states waiting root top r w a);
    at_rest = λ x e. cases x e (nat_eq x top) refl;
  };
  found = (r, rw one (get_set_same states top (Found r) w.top_inside));
  kept = found_kept old states top r w.top_inside w.kept;
}
  where
    one : root ≡ top
    one = let P : List ℕ → Type 0 = λ z. IsChain l root z top in subst P q w.chain

    none : (x : ℕ) → (Among x waiting ⊎ (x ≡ top)) → x ≢ top → ⊥
    none x (inl h) n = let P : List ℕ → Type 0 = λ z. Among x z in subst P q h
    none x (inr h) n = n h

    cases : (x : ℕ) → slice_get (slice_set states top (Found r)) x ≡ Some BeingEvaluated → (b : Bool) → nat_eq x top ≡ b → ⊥
    cases x e true b =
        let same : x ≡ top = grind (arith, nat_tests) in
        let there : slice_get (slice_set states top (Found r)) x ≡ Some (Found r) = rw same (get_set_same states top (Found r) w.top_inside) in
        cc
    cases x e false b =
        let other : x ≢ top = grind (arith, nat_tests) in
        none x (w.evaluated x (sym (get_set_other states top x (Found r) other) ∙ e)) other

-- ---- The termination measure.

abbrev pub weight : ExportState → ℕ
weight Untouched = 2
weight BeingEvaluated = 0
weight (Found r) = 0

abbrev pub work : List ExportState → List ℕ → ℕ
work states waiting = sum_by weight states + length waiting

pub get_or_some : (states : List ExportState) (x : ℕ) (m d : ExportState) → slice_get states x ≡ Some m → get_or states x d ≡ m
get_or_some states x m d e = grind (arith, common_steps, gets)

pub work_down : (l : Linkage) (old states : List ExportState) (waiting : List ℕ) (root top next : ℕ) → IsWalk l old states waiting root top → attempt.Needs next ≡ export_attempt l.modules states (slice_get l.exports top) → work (slice_set states next BeingEvaluated) (waiting ++ top ∷ []) < work states waiting
work_down l old states waiting root top next w a =
    let untouched = (top_needs l old states waiting root top next w a).0 in
    let inside : next < length states = untouched_inside states next untouched in
    let change = sum_by-set weight states next BeingEvaluated Untouched inside in
    let before : weight (get_or states next Untouched) ≡ 2 = ap weight (get_or_some states next Untouched Untouched untouched) in
    simp length-append (omega (arith, change, before))

pub work_up : (states : List ExportState) (waiting others : List ℕ) (top below : ℕ) (r : Result ℤ ValueFault) → top < length states → waiting ≡ others ++ below ∷ [] → work (slice_set states top (Found r)) others < work states waiting
work_up states waiting others top below r inside q =
    let change = sum_by-set weight states top (Found r) (Found r) inside in
    let more : length waiting ≡ length others + 1 = simp length-append at (ap length q) in
    omega (arith, change, more)
