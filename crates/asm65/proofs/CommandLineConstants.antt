-- The constants of the command line, defined in order.
use Rattle.std.proofs.Common.{◌≡◌, ◌∙◌, ℕ, zero, suc, ◌+◌, ◌≤◌, ◌<◌, false, List, [], ◌∷◌, length, drop, get_or, map, refl, sym, ap, subst, arith}
use Rattle.std.specs.Prelude.{Ok, Err, IfErr, ⊤}
use Rattle.syntax65.specs.Trees.{number}
use Rattle.syntax65.specs.declared.source_location.SourceLocation.{SourceLocation}
use Rattle.ast65.specs.declared.fault.AsmFault.{AsmFault}
use Rattle.ast65.specs.Faults.{is_system_error}
use Rattle.ast65.specs.declared.language.Statement.TheVariants.{Constant}
use Rattle.sources65.specs.Reading.{RepresentsOrFails, DefinesConstants, Define}
use Rattle.sources65.specs.Machine.{State, StepsTo, initial_state}
use Rattle.sources65.proofs.AssembledStatements.{DefinesOn, faulty_constant, first_constant, next_constant}
use Rattle.asm65.specs.declared.assembler.Assembler.{Assembler}
use Rattle.asm65.specs.declared.assembling.Define as code
use Rattle.asm65.specs.Assembly.{define_of}
use Rattle.symbols65.specs.Measuring.{opening_limit}
use Rattle.asm65.specs.Internal.AssemblerState.{Represents}
use Rattle.asm65.specs.Internal.RunState.{IsReached, following, at_first, RefinesTransition}
use Rattle.asm65.proofs.Runs.{Answer, fault_first, fault_then, says_same, takes_quiet}

-- the transition for one constant, which opens nothing and may have any name
abbrev pub DefinesBy : SourceLocation → Define → Assembler → Assembler → Answer → Type 0
DefinesBy location d old new r =
    (count : ℕ) (t : State) → count + 1 ≤ opening_limit → Represents count t old →
    RefinesTransition ⊤ (StepsTo t location (Constant d.0 (number d.1))) count t new r

pub defines_by : (location : SourceLocation) (d : Define) (old new : Assembler) (r : Answer) → ((count : ℕ) (t : State) → Represents count t old → count < opening_limit → RepresentsOrFails (StepsTo t location (Constant d.0 (number d.1))) (λ u. Represents (count + 0) u new) r) → IfErr r (λ e. is_system_error e ≡ false → new.texts ≡ old.texts) → DefinesBy location d old new r
defines_by location d old new (Ok v) taken same = λ count t room h.
    (let a = taken count t h (omega (arith, room)) in
    (a.0, a.1, λ reached. following t a.0 location (Constant d.0 (number d.1)) reached tt a.1, (count + 0, omega arith, a.2)))
defines_by location d old new (Err e) taken same = λ count t room h.
    fault_first ⊤ (StepsTo t location (Constant d.0 (number d.1))) count t new e (taken count t h (omega (arith, room))) (λ inside. says_same count t old new h (same inside))

-- the loop invariant: the state after the constants so far, and the remaining constants
pub record SoFar (location : SourceLocation) (ds left : List Define) (a : Assembler) : Type 0 where
  pub state : State
  pub goes : DefinesOn StepsTo location (DefinesConstants StepsTo initial_state location ds) left state
  pub reached : IsReached state
  pub holds : Represents 0 state a
  pub out : state.out ≡ initial_state.out
  pub err : state.err ≡ initial_state.err

pub none_so_far : (location : SourceLocation) (ds : List Define) (a : Assembler) → Represents 0 initial_state a → SoFar location ds ds a
none_so_far location ds a h = record {
  state = initial_state;
  goes = first_constant StepsTo location ds initial_state;
  reached = at_first;
  holds = h;
  out = refl;
  err = refl;
}

zero_within : (count : ℕ) (t : State) (a : Assembler) → count ≤ 0 → Represents count t a → Represents 0 t a
zero_within count t a le h =
    let none : count ≡ 0 = omega (arith, le) in
    subst (λ n. Represents n t a) none h

pub one_more : (location : SourceLocation) (ds left : List Define) (d : Define) (old new : Assembler) (v : Unit {0}) → SoFar location ds (d ∷ left) old → DefinesBy location d old new (Ok v) → SoFar location ds left new
one_more location ds left d old new v s defines =
    let a = defines 0 s.state (omega arith) s.holds in
    let quiet = takes_quiet s.state a.0 location (Constant d.0 (number d.1)) (refl, refl) a.1 in
    record {
      state = a.0;
      goes = next_constant StepsTo location (DefinesConstants StepsTo initial_state location ds) d left s.state a.0 s.goes a.1;
      reached = a.2 s.reached;
      holds = zero_within a.3.0 a.0 new a.3.1 a.3.2;
      out = quiet.0 ∙ s.out;
      err = quiet.1 ∙ s.err;
    }

pub one_wrong : (location : SourceLocation) (ds left : List Define) (d : Define) (old new : Assembler) (e : AsmFault) (r : Answer) → r ≡ Err e → SoFar location ds (d ∷ left) old → DefinesBy location d old new (Err e) → RefinesTransition ⊤ (DefinesConstants StepsTo initial_state location ds) 0 initial_state new r
one_wrong location ds left d old new e r fails s defines =
    let P : Answer → Type 0 = λ q. RefinesTransition ⊤ (DefinesConstants StepsTo initial_state location ds) 0 initial_state new q in
    subst P (sym fails) (fault_then ⊤ ⊤ (StepsTo s.state location (Constant d.0 (number d.1))) (DefinesConstants StepsTo initial_state location ds) 0 0 initial_state s.state new e (λ x. x) (λ p. faulty_constant StepsTo location (DefinesConstants StepsTo initial_state location ds) d left s.state e s.goes p) (λ says. (says.0 ∙ s.out, says.1 ∙ s.err)) (defines 0 s.state (omega arith) s.holds))

-- ---- Lists.

dropped : (xs : List code.Define) (i : ℕ) (none : code.Define) → i < length xs → drop i xs ≡ get_or xs i none ∷ drop (suc i) xs
dropped [] i none lt = absurd (omega (arith, lt))
dropped (y ∷ xs) zero none lt = refl
dropped (y ∷ xs) (suc i) none lt = dropped xs i none (omega (arith, lt))

pub left_dropped : (xs : List code.Define) (i : ℕ) (none : code.Define) → i < length xs → map define_of (drop i xs) ≡ define_of (get_or xs i none) ∷ map define_of (drop (i + 1) xs)
left_dropped xs i none lt =
    let more : suc i ≡ i + 1 = omega arith in
    ap (map define_of) (dropped xs i none lt) ∙ ap (λ n. define_of (get_or xs i none) ∷ map define_of (drop n xs)) more
