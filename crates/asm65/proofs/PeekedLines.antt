-- The statements of a peeked line, which needs no expansion.
use Rattle.std.proofs.lemmas.Bool.Decides.{nat_tests}
use Rattle.std.proofs.Common.{◌≡◌, ◌∙◌, ℕ, Bool, true, false, ◌+◌, ◌<◌, ◌≤◌, List, [], ◌∷◌, length, take, drop, refl, subst, arith, Option}
use Rattle.std.specs.Prelude.{Ok, Err, ◌==◌}
use Rattle.base65.specs.Store.{Files, LastFailure}
use Rattle.syntax65.specs.Tokens.{Lexeme, lexemes}
use Rattle.syntax65.specs.declared.lexing.tokens.Token.{Token}
use Rattle.expand65.specs.Failures.{YieldsStatements, IsPeekedLine, rest_statements, line_statements}
use Rattle.expand65.specs.Representation.{IsPositioned, measure_of, location_of}
use Rattle.expand65.specs.declared.expander.Expander.{Expander}
use Rattle.expand65.specs.State.{label, plain}
use Rattle.expand65.specs.declared.skipping.Peeked.{Peeked}
use Rattle.syntax65.specs.declared.source_location.SourceLocation.{SourceLocation}
use Rattle.semantics65.specs.Numbering.{AreSymbolNames}
use Rattle.ast65.specs.declared.fault.AsmFault.{AsmFault}
use Rattle.sources65.specs.Machine.{State, StepsTo}
use Rattle.sources65.specs.Reading.{AssemblesLabelTokens, AssemblesTokens}
use Rattle.asm65.proofs.Runs.{Answer, LabelBy, RestBy, stops_wider, wider}
use Rattle.asm65.specs.Internal.RunState.{HasHeadroom, IsRunning, KeepsOutputAtFailure, AssemblesStatements, RefinesAllTransitions, AssemblesLine, AssemblesOptionalLine, none, one_more, rejected}
use Rattle.asm65.specs.Assembly.{AnswersWithoutFile}
use Rattle.asm65.specs.declared.assembler.Assembler.{Assembler}
use Rattle.asm65.specs.declared.driver.Run.{Run}

-- before a peeked line, there is headroom for four openings
pub roomy_ahead : (run : Run) (p : Peeked) (ts : List Lexeme) → IsPeekedLine run.expander p ts → IsRunning run → HasHeadroom 4 run.assembler
roomy_ahead run p ts (right, bare, next) (t, reached, h) = (h.count, t, omega (arith, h.room, left), h.holds)
  where
    left : 2 ≤ measure_of run.expander
    left = rw bare (omega (arith, next.1))

pub roomy_less : (less more : ℕ) (a : Assembler) → HasHeadroom (more + less) a → HasHeadroom more a
roomy_less less more a (count, t, room, holds) = (count, t, omega (arith, room), holds)

-- after the label of the line, there is headroom for one opening
pub roomy_after : (IsValid : Type 0) (Is : State → _ → Type 0) (old new : Assembler) → HasHeadroom 4 old → RefinesAllTransitions IsValid Is 2 old new (Ok tt) → HasHeadroom 1 new
roomy_after IsValid Is old new (count, t, room, holds) taken =
    let b = taken count t (omega (arith, room)) holds in
    (b.3.0, b.0, omega (arith, room, b.3.1), b.3.2)

pub no_tokens : (tokens : List Token) → true ≡ (length tokens == 0) → lexemes tokens ≡ []
no_tokens [] e = refl
no_tokens (t ∷ ts) e =
    let some : (length (t ∷ ts) == 0) ≡ false = grind (arith, nat_tests) in
    absurd (let bad : true ≡ false = e ∙ some in cc)

module _ (o : Option Files) (last_failure : LastFailure) (location : SourceLocation) where
  abbrev RestStops : List Lexeme → Assembler → Assembler → Answer → Type 0
  RestStops ts = KeepsOutputAtFailure (AnswersWithoutFile o last_failure (λ m t. AssemblesTokens m StepsTo t location ts)) 1

  abbrev LabelStops : List Lexeme → Assembler → Assembler → Answer → Type 0
  LabelStops ts = KeepsOutputAtFailure (AnswersWithoutFile o last_failure (λ m t. AssemblesLabelTokens m StepsTo t location ts)) 2

  pub none_after : (ts : List Lexeme) (a : Assembler) → ts ≡ [] → AssemblesStatements o last_failure location (rest_statements ts) a a (Ok tt)
  none_after ts a e = rw e (none a)

  pub taken_after : (ts : List Lexeme) (old new : Assembler) (r : Answer) → (ts ≡ [] → ⊥) → RefinesAllTransitions (AreSymbolNames ts) (RestBy o location ts) 1 old new r → RestStops ts old new r → AssemblesStatements o last_failure location (rest_statements ts) old new r
  taken_after [] old new r some taken stops = absurd (some refl)
  taken_after (t ∷ ts) old new (Ok v) some taken stops = one_more old new new (plain (t ∷ ts)) [] (Ok tt) (record { taken = wider (AreSymbolNames (t ∷ ts)) (RestBy o location (t ∷ ts)) old new (Ok v) taken; stopped = tt }) (none new)
  taken_after (t ∷ ts) old new (Err e) some taken stops = rejected old new (plain (t ∷ ts)) [] e (record { taken = wider (AreSymbolNames (t ∷ ts)) (RestBy o location (t ∷ ts)) old new (Err e) taken; stopped = stops_wider (AnswersWithoutFile o last_failure (λ m s. AssemblesTokens m StepsTo s location (t ∷ ts))) old new (Err e) stops })

  pub only_rest : (ls ts : List Lexeme) (old new : Assembler) (r : Answer) → ls ≡ [] → AssemblesStatements o last_failure location (rest_statements ts) old new r → AssemblesStatements o last_failure location (line_statements ls ts) old new r
  only_rest ls ts old new r e h = rw e h

  pub label_refused : (ls ts : List Lexeme) (old new : Assembler) (e : AsmFault) → (ls ≡ [] → ⊥) → RefinesAllTransitions (AreSymbolNames ls) (LabelBy o location ls) 2 old new (Err e) → LabelStops ls old new (Err e) → AssemblesStatements o last_failure location (line_statements ls ts) old new (Err e)
  label_refused [] ts old new e some taken stops = absurd (some refl)
  label_refused (l ∷ ls) ts old new e some taken stops = rejected old new (label (l ∷ ls)) (rest_statements ts) e (record { taken = taken; stopped = stops })

  pub label_taken : (ls ts : List Lexeme) (old mid new : Assembler) (v : Unit {0}) (r : Answer) → (ls ≡ [] → ⊥) → RefinesAllTransitions (AreSymbolNames ls) (LabelBy o location ls) 2 old mid (Ok v) → AssemblesStatements o last_failure location (rest_statements ts) mid new r → AssemblesStatements o last_failure location (line_statements ls ts) old new r
  label_taken [] ts old mid new v r some taken rest = absurd (some refl)
  label_taken (l ∷ ls) ts old mid new v r some taken rest = one_more old mid new (label (l ∷ ls)) (rest_statements ts) r (record { taken = taken; stopped = tt }) rest

-- ---- Whether a line was assembled.

pub line_taken : (o : Option Files) (last_failure : LastFailure) (old new : Run) (b : Bool) → b ≡ true → AssemblesOptionalLine o last_failure old new (Ok b) → AssemblesLine o last_failure old new (Ok tt)
line_taken o last_failure old new true e h = h
line_taken o last_failure old new false e h = absurd cc

pub no_line_taken : (o : Option Files) (last_failure : LastFailure) (old new : Run) (b : Bool) → b ≡ false → AssemblesOptionalLine o last_failure old new (Ok b) → new ≡ old
no_line_taken o last_failure old new true e h = absurd cc
no_line_taken o last_failure old new false e h = h

pub line_is : (o : Option Files) (last_failure : LastFailure) (old : Run) (expander : Expander) (assembler : Assembler) (n : ℕ) (ts ls us : List Lexeme) (location : SourceLocation) (r : Answer) → YieldsStatements old.expander (line_statements (take n ts) (drop n ts)) expander → measure_of expander < measure_of old.expander → ((m : Files) → IsPositioned m old.expander → IsPositioned m expander) → ls ≡ take n ts → us ≡ drop n ts → location ≡ location_of expander → AssemblesStatements o last_failure location (line_statements ls us) old.assembler assembler r → AssemblesLine o last_failure old (record { expander = expander; assembler = assembler }) r
line_is o last_failure old expander assembler n ts ls us location r given less placed front following at taken =
    let P : List Lexeme → Type 0 = λ l. AssemblesStatements o last_failure location (line_statements l us) old.assembler assembler r in
    let Q : List Lexeme → Type 0 = λ l. AssemblesStatements o last_failure location (line_statements (take n ts) l) old.assembler assembler r in
    let S : SourceLocation → Type 0 = λ p. AssemblesStatements o last_failure p (line_statements (take n ts) (drop n ts)) old.assembler assembler r in
    record { statements = line_statements (take n ts) (drop n ts); given = given; taken = subst S at (subst Q following (subst P front taken)); less = less; placed = placed }
