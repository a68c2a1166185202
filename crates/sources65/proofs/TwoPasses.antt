-- One pass over the statements and then one over the deferred pieces results in the contents of the layout.
use Rattle.std.proofs.lemmas.Grind.{common_steps}
use Rattle.std.proofs.Common.{◌≡◌, ◌∙◌, ℕ, List, [], ◌∷◌, ◌++◌, map, Option, Some, None, refl, sym, ap, subst, append_assoc, arith}
use Rattle.std.specs.Prelude.{⊤, Bool, true, false, Result, Ok, Err, if◌then◌else◌}
use Rattle.std.specs.List.{flat_map}
use Rattle.std.proofs.lemmas.List.{append-nil}
use Rattle.base65.specs.Outcome.{◌>>=◌}
use Rattle.semantics65.specs.Contents.{section_request, exported_names}
use Rattle.ast65.specs.declared.fault.AsmFault.{AsmFault}
use Rattle.ast65.specs.declared.language.Statement.{Statement}
use Rattle.syntax65.specs.declared.source_location.SourceLocation.{SourceLocation}
use Rattle.semantics65.specs.Symbols.{LaidOutStatement, needs_section, Symbols, symbols_of}
use Rattle.semantics65.specs.declared.contexts.Context.{Context}
use Rattle.semantics65.specs.Layout.{Layout, Cursor, laid_out_statement, layout_after, empty_layout, line_fault, unless_fault}
use Rattle.semantics65.specs.Numbering.{object_with}
use Rattle.sources65.specs.Machine.{LayoutIsReachable, OnePassSuffices, MachineSimulatesLayout, SimulatesLayout, PieceStep, emitted_now, deferred_piece_step, PieceSteps, State, StepsWithoutError, StepsTo, UnlessFault, with_section_request, with_fixup, initial_state, outcome_of_state, with_content, with_symbols, machine_semantics}
use Rattle.semantics65.specs.Module.{LocatedFault, Outcome, outcome_of, stdout_text, warning_text, PieceResult, Piece, pieces_of, Resolution, Slot, resolved, deferred, slot_result, module_resolution, result_then, resolution_of, slots_of}
use Rattle.sources65.specs.Reading.{IsLaidOut, layout_semantics}
use Rattle.semantics65.specs.Norms.{Extends}
use Rattle.sources65.proofs.Resolving.{extends_after, extends_same, extends_then, flat_push, symbols_push}
use Rattle.sources65.proofs.LayoutUniqueness.{Matches, Simulates, StandIn, source_matches}

-- ---- Slots with equal results.

-- the slots have equal results, with any further statements and any earlier exports
abbrev pub IsSame : Symbols → Slot → Slot → Type 0
IsSame y a b = (z : Symbols) (names : List (List ℕ)) → Extends y z → slot_result z names a ≡ slot_result z names b

-- the lists have equal results element by element
abbrev pub AreSame : Symbols → List Slot → List Slot → Type 0
AreSame y [] [] = ⊤
AreSame y (a ∷ xs) (b ∷ ys) = IsSame y a b × AreSame y xs ys
AreSame y _ _ = ⊥

same_append : (y : Symbols) (xs ys more others : List Slot) → AreSame y xs ys → AreSame y more others → AreSame y (xs ++ more) (ys ++ others)
same_append y [] [] more others h k = k
same_append y [] (b ∷ ys) more others h k = absurd h
same_append y (a ∷ xs) [] more others h k = absurd h
same_append y (a ∷ xs) (b ∷ ys) more others (one, h) k = (one, same_append y xs ys more others h k)

same_later : (y z : Symbols) → Extends y z → (xs ys : List Slot) → AreSame y xs ys → AreSame z xs ys
same_later y z more [] [] h = tt
same_later y z more [] (b ∷ ys) h = absurd h
same_later y z more (a ∷ xs) [] h = absurd h
same_later y z more (a ∷ xs) (b ∷ ys) (one, h) = ((λ x names e. one x names (extends_then y z x more e)), same_later y z more xs ys h)

same_after : (r : Result PieceResult LocatedFault) (f g : PieceResult → Resolution) → ((m : PieceResult) → f m ≡ g m) → result_then r f ≡ result_then r g
same_after (Ok m) f g same = ap (λ (a : Resolution). record { found = a.found >>= (λ cs. Ok (m.content ∷ cs)); printed_warnings = m.warning ++ a.printed_warnings }) (same m)
same_after (Err e) f g same = refl

resolved_same : (y z : Symbols) → Extends y z → (names : List (List ℕ)) (xs ys : List Slot) → AreSame y xs ys → resolution_of z names xs ≡ resolution_of z names ys
resolved_same y z more names [] [] h = refl
resolved_same y z more names [] (b ∷ ys) h = absurd h
resolved_same y z more names (a ∷ xs) [] h = absurd h
resolved_same y z more names (a ∷ xs) (b ∷ ys) (one, h) =
    ap (λ r. result_then r (λ m. resolution_of z (names ++ exported_names m.content.said) xs)) (one z names more)
    ∙ same_after (slot_result z names b) (λ m. resolution_of z (names ++ exported_names m.content.said) xs) (λ m. resolution_of z (names ++ exported_names m.content.said) ys) (λ m. resolved_same y z more (names ++ exported_names m.content.said) xs ys h)

-- ---- Emitted and deferred pieces.

-- the state with other slots
abbrev holding : State → List Slot → State
holding t slots = record t { slots = slots }

-- the slot of a deferred piece
abbrev waiting : SourceLocation → Context → Piece → Slot
waiting location s p = deferred (record { place = location; context = s; piece = p })

-- a step appends only slots, and these have the same results as `xs`
record Adds (t u : State) (xs : List Slot) : Type 0 where
  slots : List Slot
  same : u ≡ holding t (t.slots ++ slots)
  comes : AreSame t.symbols slots xs

put_one : (location : SourceLocation) (s : Context) (t u : State) (p : Piece) → PieceStep location s t p u → Adds t u (waiting location s p ∷ [])
put_one location s t _ p (emitted_now c settled) = record { slots = resolved c ∷ []; same = refl; comes = ((λ z names e. sym (settled z names e)), tt) }
put_one location s t _ p deferred_piece_step = record { slots = waiting location s p ∷ []; same = refl; comes = ((λ z names e. refl), tt) }

put_all : (location : SourceLocation) (s : Context) (t u : State) (ps : List Piece) → PieceSteps location s t ps u → Adds t u (map (waiting location s) ps)
put_all location s t u [] h = record { slots = []; same = h ∙ ap (holding t) (sym (append-nil t.slots)); comes = tt }
put_all location s t u (p ∷ ps) h =
    let one = put_one location s t h.0 p h.1 in
    let v = holding t (t.slots ++ one.slots) in
    let rest = put_all location s v u ps (subst (λ w. PieceSteps location s w ps u) one.same h.2) in
    record {
      slots = one.slots ++ rest.slots;
      same = rest.same ∙ ap (holding t) (append_assoc t.slots one.slots rest.slots);
      comes = same_append t.symbols one.slots (waiting location s p ∷ []) rest.slots (map (waiting location s) ps) one.comes rest.comes;
    }

-- ---- Statements.

-- a state with the symbol table, cursor and texts of a layout
abbrev state_for : Layout → List Slot → State
state_for y slots = record { symbols = symbols_of y.laid; cursor = y.cursor; slots = slots; out = stdout_text y.laid; err = warning_text y.laid }

pub record Follows (y : Layout) (t : State) : Type 0 where
  pub slots : List Slot
  pub same : t ≡ state_for y slots
  pub comes : AreSame (symbols_of y.laid) slots (flat_map slots_of y.laid)

-- the state after a statement has the symbol table, cursor and texts of the layout after the statement
known_for : (y : Layout) (location : SourceLocation) (x : Statement) (slots : List Slot) → with_symbols (state_for y slots) (laid_out_statement (symbols_of y.laid) y.cursor location x) ≡ state_for (layout_after y location x) slots
known_for y location x slots = grind (arith, common_steps, symbols_push, flat_push)

-- the slot of a section request, if the statement needs its section
abbrev asking_slots : LaidOutStatement → List Slot
asking_slots l = if needs_section l.stated then resolved (section_request l.context.segment) ∷ [] else []

asked_is : (t : State) (l : LaidOutStatement) → with_section_request t l ≡ holding t (t.slots ++ asking_slots l)
asked_is t l = by (needs_section l.stated)
  where
    by : (b : Bool) → (if b then with_content t (section_request l.context.segment) else t) ≡ holding t (t.slots ++ (if b then resolved (section_request l.context.segment) ∷ [] else []))
    by true = refl
    by false = ap (holding t) (sym (append-nil t.slots))

itself : (y : Symbols) (xs : List Slot) → AreSame y xs xs
itself y [] = tt
itself y (x ∷ xs) = ((λ z names e. refl), itself y xs)

statement_follows : (y : Layout) (slots : List Slot) (location : SourceLocation) (x : Statement) (u : State) → AreSame (symbols_of y.laid) slots (flat_map slots_of y.laid) →
    (let l : LaidOutStatement = laid_out_statement (symbols_of y.laid) y.cursor location x in PieceSteps location l.context (with_section_request (state_for y slots) l) (pieces_of l.length l.encoding x) u → Follows (layout_after y location x) (with_symbols u l))
statement_follows y slots location x u comes puts =
    let z = symbols_of y.laid in
    let l = laid_out_statement z y.cursor location x in
    let ps = pieces_of l.length l.encoding x in
    let t = state_for y (slots ++ asking_slots l) in
    let put = put_all location l.context t u ps (subst (λ v. PieceSteps location l.context v ps u) (asked_is (state_for y slots) l) puts) in
    let own = same_append z (asking_slots l) (asking_slots l) put.slots (map (waiting location l.context) ps) (itself z (asking_slots l)) put.comes in
    let all = same_append z slots (flat_map slots_of y.laid) (asking_slots l ++ put.slots) (slots_of l) comes own in
    let grows = subst (Extends z) (sym (symbols_push y.laid l)) (extends_after z l) in
    record {
      slots = slots ++ (asking_slots l ++ put.slots);
      same = ap (λ v. with_symbols v l) put.same ∙ known_for y location x ((slots ++ asking_slots l) ++ put.slots) ∙ ap (state_for (layout_after y location x)) (append_assoc slots (asking_slots l) put.slots);
      comes = subst (AreSame (symbols_of (y.laid ++ l ∷ [])) (slots ++ (asking_slots l ++ put.slots))) (sym (flat_push slots_of y.laid l)) (same_later z (symbols_of (y.laid ++ l ∷ [])) grows (slots ++ (asking_slots l ++ put.slots)) (flat_map slots_of y.laid ++ slots_of l) all);
    }

step_follows : (y : Layout) (slots : List Slot) (location : SourceLocation) (x : Statement) (r : Result State AsmFault) → AreSame (symbols_of y.laid) slots (flat_map slots_of y.laid) → (o : Option AsmFault) → UnlessFault o (StepsWithoutError (state_for y slots) (laid_out_statement (symbols_of y.laid) y.cursor location x)) r → Matches Follows (λ q. q ≡ unless_fault o (layout_after y location x)) r
step_follows y slots location x r c (Some e) is = subst (Matches Follows (λ q. q ≡ Err e)) (sym is) refl
step_follows y slots location x r c None is = subst (Matches Follows (λ q. q ≡ unless_fault None (layout_after y location x))) (sym is.2) (layout_after y location x, refl, statement_follows y slots location x is.0 c is.1)

pub takes_follows : Simulates Follows IsLaidOut StepsTo
takes_follows y t location x r follows takes =
    let takes' : StepsTo (state_for y follows.slots) location x r = subst (λ v. StepsTo v location x r) follows.same takes in
    step_follows y follows.slots location x r follows.comes (line_fault (symbols_of y.laid) y.cursor x) takes'

-- ---- All statements.

pub begun_follows : Follows empty_layout initial_state
begun_follows = record { slots = []; same = refl; comes = tt }

same_scope : (y : Layout) (t : State) → Follows y t → y.cursor.scope ≡ t.cursor.scope
same_scope y t follows = ap (λ (v : State). v.cursor.scope) (sym follows.same)

same_meaning : (y : Layout) (t : State) → Follows y t → layout_semantics.environment y ≡ machine_semantics.environment t
same_meaning y t follows = ap machine_semantics.environment (sym follows.same)

pub laying_stands_in : StandIn Follows layout_semantics machine_semantics
laying_stands_in = record { step_relation = takes_follows; environment = same_meaning; scope = same_scope }

pub stands_for : (y : Layout) (slots : List Slot) → AreSame (symbols_of y.laid) slots (flat_map slots_of y.laid) → SimulatesLayout y (state_for y slots)
stands_for y slots comes = record {
  symbols = refl;
  cursor = refl;
  out = refl;
  err = refl;
  ending = resolved_same (symbols_of y.laid) (symbols_of y.laid) (extends_same (symbols_of y.laid)) [] slots (flat_map slots_of y.laid) comes;
}

pub runs_laid : MachineSimulatesLayout
runs_laid m job r runs =
    let all = source_matches Follows layout_semantics machine_semantics laying_stands_in m job empty_layout initial_state r begun_follows runs in
    let follows : Follows all.0 r.state = all.2 in
    (all.0, all.1, subst (SimulatesLayout all.0) (sym follows.same) (stands_for all.0 follows.slots follows.comes))

-- ---- The outcome.

-- the outcome by the state after the last line
abbrev answered : Symbols → Cursor → Resolution → (out err : List ℕ) → Outcome
answered z w f out err = record { result = f.found >>= (λ cs. Ok (object_with w.segments z.imports cs)); out = out; err = err ++ f.printed_warnings }

concluded_for : (y : Layout) (t : State) (fault : Option LocatedFault) → SimulatesLayout y t → outcome_of_state t fault ≡ outcome_of y fault
concluded_for y t None for =
    ap (λ f. answered t.symbols t.cursor f t.out t.err) for.ending
    ∙ ap (λ (z : Symbols). answered z t.cursor (module_resolution y.laid) t.out t.err) for.symbols
    ∙ ap (λ (w : Cursor). answered (symbols_of y.laid) w (module_resolution y.laid) t.out t.err) for.cursor
    ∙ ap (λ out. answered (symbols_of y.laid) y.cursor (module_resolution y.laid) out t.err) for.out
    ∙ ap (answered (symbols_of y.laid) y.cursor (module_resolution y.laid) (stdout_text y.laid)) for.err
concluded_for y t (Some e) for = grind (arith, common_steps)

pub one_pass : OnePassSuffices
one_pass m job r runs = grind (arith, common_steps, runs_laid, concluded_for)

-- ---- The machine reaches each layout.

-- each piece may be deferred
all_wait : (location : SourceLocation) (s : Context) (t : State) (ps : List Piece) → (u : State) × PieceSteps location s t ps u
all_wait location s t [] = (t, refl)
all_wait location s t (p ∷ ps) =
    let v = with_fixup t (record { place = location; context = s; piece = p }) in
    let rest = all_wait location s v ps in
    (rest.0, (v, deferred_piece_step, rest.1))

laid_steps : (y : Layout) (slots : List Slot) (location : SourceLocation) (x : Statement) → AreSame (symbols_of y.laid) slots (flat_map slots_of y.laid) → (o : Option AsmFault) → Matches (λ t z. Follows z t) (λ q. UnlessFault o (StepsWithoutError (state_for y slots) (laid_out_statement (symbols_of y.laid) y.cursor location x)) q) (unless_fault o (layout_after y location x))
laid_steps y slots location x c (Some e) = refl
laid_steps y slots location x c None =
    let l = laid_out_statement (symbols_of y.laid) y.cursor location x in
    let put = all_wait location l.context (with_section_request (state_for y slots) l) (pieces_of l.length l.encoding x) in
    (with_symbols put.0 l, (put.0, put.1, refl), statement_follows y slots location x put.0 c put.1)

laid_takes : Simulates (λ t z. Follows z t) StepsTo IsLaidOut
laid_takes t y location x r follows is =
    let o = line_fault (symbols_of y.laid) y.cursor x in
    let m = laid_steps y follows.slots location x follows.comes o in
    let there : Matches (λ t z. Follows z t) (StepsTo t location x) (unless_fault o (layout_after y location x)) = subst (λ v. Matches (λ t z. Follows z t) (StepsTo v location x) (unless_fault o (layout_after y location x))) (sym follows.same) m in
    subst (Matches (λ t z. Follows z t) (StepsTo t location x)) (sym is) there

running_stands_in : StandIn (λ t z. Follows z t) machine_semantics layout_semantics
running_stands_in = record {
  step_relation = laid_takes;
  environment = λ t y follows. sym (same_meaning y t follows);
  scope = λ t y follows. sym (same_scope y t follows);
}

pub laid_runs : LayoutIsReachable
laid_runs m job r laid_out_statement =
    let all = source_matches (λ t z. Follows z t) machine_semantics layout_semantics running_stands_in m job initial_state empty_layout r begun_follows laid_out_statement in
    (all.0, all.1)
