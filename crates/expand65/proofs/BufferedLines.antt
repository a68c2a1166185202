-- Lines of files that are returned without expansion.
use Rattle.std.proofs.lemmas.Grind.{common_steps}
use Rattle.std.proofs.Common.{◌≡◌, ◌-◌, ◌<◌, ◌++◌, arith, ℕ, zero, suc, length, take, drop, ap, ◌∙◌, List, [], ◌∷◌, Option, Some, None, Ok, Bool, true, false, refl, sym, subst}
use Rattle.std.specs.Prelude.{◌&&◌, nat_lt}
use Rattle.std.proofs.Math.Seq.{drop-append_seam, take-append_seam}
use Rattle.base65.specs.Store.{Files}
use Rattle.syntax65.specs.Tokens.{Lexeme}
use Rattle.expand65.specs.LineStart.{first_directive, is_mislabelled, label_len, line_directive}
use Rattle.expand65.specs.Representation.{remaining_of, state_of, RefinesNextStatement, with_pending, measure_of, location_of, state_in, statement_of}
use Rattle.expand65.specs.Lines.{label_rest, ReadsNextLine}
use Rattle.expand65.specs.Replay.{tokens_in}
use Rattle.expand65.specs.declared.line_start.Directive.{Directive}
use Rattle.expand65.specs.declared.line.StoredLine.{StoredLine}
use Rattle.expand65.specs.declared.line.StoredToken.{StoredToken}
use Rattle.expand65.specs.declared.input_stack.InputStack.{InputStack}
use Rattle.expand65.specs.Failures.{CallsNoMacro, YieldsStatements, NeedsNoExpansion, rest_statements, line_statements, none, one_more, SilentSteps, no_step, one_more as goes_once}
use Rattle.expand65.specs.Macros.{plain_line_result}
use Rattle.expand65.specs.Expansion.{StepReaches, Next, ReachesNext, line_step, unless_mislabelled, label_step, further, yielded, statement, IsStep}
use Rattle.expand65.specs.State.{EnvironmentView, State, finishes, ExpandedStatement, StepResult, label, plain, continues, yields, with_items}
use Rattle.expand65.specs.declared.expander.Expander.{Expander}
use Rattle.expand65.specs.declared.expander.PendingLine.{PendingLine}
use Rattle.expand65.specs.declared.expander.PendingLine.TheVariants.{Nothing, Rest}
use Rattle.expand65.specs.declared.expander.Statement.{Statement}
use Rattle.expand65.specs.declared.expander.Statement.TheVariants.{Label, Plain}
use Rattle.expand65.specs.declared.preprocessor.Preprocessor.{Preprocessor}
use Rattle.expand65.proofs.StepSequences.{no_call, step_rest, step_taken, unlabelled}

-- ---- A line of stored tokens.

abbrev words_of : List Lexeme → List StoredToken
words_of [] = []
words_of (t ∷ ts) = record { kind = t.0; blanks = 0; len = length t.1 } ∷ words_of ts

abbrev bytes_of : List Lexeme → List ℕ
bytes_of [] = []
bytes_of (t ∷ ts) = t.1 ++ bytes_of ts

abbrev line_of : List Lexeme → StoredLine
line_of ts = record { spans = words_of ts; bytes = bytes_of ts }

line_kept : (ts : List Lexeme) → tokens_in (line_of ts) ≡ ts
line_kept [] = refl
line_kept (t ∷ ts) =
    let own : take (length t.1) (t.1 ++ bytes_of ts) ≡ t.1 = take-append_seam t.1 (bytes_of ts) in
    let following : drop (length t.1) (t.1 ++ bytes_of ts) ≡ bytes_of ts = drop-append_seam t.1 (bytes_of ts) in
    rw (own, following) (ap (λ l. t ∷ l) (line_kept ts))

-- ---- The steps of a line without expansion.

-- a preprocessor or an expander after its input stack has changed
abbrev with_reader : Preprocessor → InputStack → Preprocessor
with_reader r reader = record { alloc = r.alloc; stack = reader; macros = r.macros; conditions = r.conditions; expansions = r.expansions; folders = r.folders }

abbrev pub following : Expander → InputStack → PendingLine → Expander
following e reader f = record { processor = with_reader e.processor reader; pending = f; failed = e.failed }

not_both : (b : Bool) → b && false ≡ false
not_both true = refl
not_both false = refl

module _ (m : Files) (k : EnvironmentView) (old : Preprocessor) (reader : InputStack) (ts : List Lexeme) (taken : ReadsNextLine (remaining_of m old.stack) (Ok (Some ts, remaining_of m reader))) where
  abbrev t : State
  t = state_of m (with_reader old reader)

  step_acted : (x : StepResult) → label_len ts ≡ 0 → first_directive ts ≡ None → x ≡ plain_line_result t ts → IsStep m k (state_of m old) x
  step_acted x e d is =
      let step : unless_mislabelled k t ts (is_mislabelled ts) ≡ finishes (plain_line_result t ts) = unlabelled k t ts e ∙ ap (line_step k t ts) d in
      step_taken m k old (Ok (Some ts, remaining_of m reader)) x taken (subst (λ z. StepReaches m z x) (sym step) is)

  step_labelled : (n : ℕ) → label_len ts ≡ suc n → first_directive (drop (suc n) ts) ≡ None → IsStep m k (state_of m old) (yields (label (take (suc n) ts)) (with_items t (label_rest (drop (suc n) ts) ∷ t.left.items)))
  step_labelled n e d =
      let x = yields (label (take (suc n) ts)) (with_items t (label_rest (drop (suc n) ts) ∷ t.left.items)) in
      let right : is_mislabelled ts ≡ false = rw e (rw d (not_both (nat_lt 0 (suc n)))) in
      let P : Bool → Type 0 = λ b. StepReaches m (unless_mislabelled k t ts b) x in
      let Q : ℕ → Type 0 = λ j. StepReaches m (label_step k t ts (line_directive ts) j) x in
      step_taken m k old (Ok (Some ts, remaining_of m reader)) x taken (subst P (sym right) (subst Q (sym e) refl))

step_nothing : (m : Files) (k : EnvironmentView) (s : State) → IsStep m k (with_pending (Rest (line_of [])) s) (continues (with_pending Nothing s))
unfolding IsStep
step_nothing m k s = refl

pub reaches_after : (m : Files) (k : EnvironmentView) (s t : State) (n : Next) → SilentSteps m k s t → ReachesNext m k t n → ReachesNext m k s n
reaches_after m k s _ n (no_step t) r = r
reaches_after m k s _ n (goes_once _ t u h step) r = reaches_after m k s t n h (further t u n step r)

-- ---- The statements of a line without expansion.

follows_given : (m : Files) (k : EnvironmentView) (old new : Expander) (x : Statement) (y : ExpandedStatement) → statement_of x ≡ y → old.failed ≡ false → new.failed ≡ old.failed → ReachesNext m k (state_in m old) (statement y (state_in m new)) → RefinesNextStatement m k old (Ok (Some x)) new
follows_given m k old new x y is right same h = grind (arith, common_steps)

-- one further statement
more : (old mid new : Expander) (x : Statement) (y : ExpandedStatement) (ys : List ExpandedStatement) → statement_of x ≡ y → old.failed ≡ false → mid.failed ≡ old.failed → ((m : Files) (k : EnvironmentView) → ReachesNext m k (state_in m old) (statement y (state_in m mid))) → measure_of mid < measure_of old → location_of mid ≡ location_of new → YieldsStatements mid ys new → YieldsStatements old (y ∷ ys) new
more old mid new x y ys is right same reaches less at rest =
    let P : ExpandedStatement → Type 0 = λ z. YieldsStatements old (z ∷ ys) new in
    subst P is (one_more old mid new x ys (record { next = λ m k. follows_given m k old mid x y is right same (reaches m k); less = less }) at rest)

none_more : (e : Expander) → YieldsStatements e [] e
none_more e = none e e (record { goes = λ m k. no_step (state_in m e); failed = refl; size = omega arith })

-- the rest of the line after a label
rest_given : (old : Expander) (reader : InputStack) (ts : List Lexeme) → old.failed ≡ false → first_directive ts ≡ None → CallsNoMacro old.processor ts → YieldsStatements (following old reader (Rest (line_of ts))) (rest_statements ts) (following old reader Nothing)
rest_given old reader [] right d calls =
    let mid = following old reader (Rest (line_of [])) in
    let new = following old reader Nothing in
    none mid new (record { goes = λ m k. goes_once (state_in m mid) (state_in m mid) (state_in m new) (no_step (state_in m mid)) (step_nothing m k (state_of m new.processor)); failed = refl; size = omega arith })
rest_given old reader (t ∷ ts) right d calls =
    let mid = following old reader (Rest (line_of (t ∷ ts))) in
    let new = following old reader Nothing in
    let kept = line_kept (t ∷ ts) in
    more mid new new (Plain (line_of (t ∷ ts))) (plain (t ∷ ts)) [] (ap plain kept) right refl (λ m k.
    let s = state_of m new.processor in
    let P : Option Directive → Type 0 = λ o. StepReaches m (line_step k s (t ∷ ts) o) (yields (plain (t ∷ ts)) s) in
    let Q : List Lexeme → Type 0 = λ l. StepReaches m (line_step k s l (first_directive l)) (yields (plain (t ∷ ts)) s) in
    yielded (state_in m mid) s (plain (t ∷ ts)) (step_rest m k mid (line_of (t ∷ ts)) (yields (plain (t ∷ ts)) s) refl (subst Q (sym kept) (subst P (sym d) (no_call m new.processor t ts calls))))) (omega arith) refl (none_more new)

module _ (old : Expander) (reader : InputStack) (right : old.failed ≡ false) (bare : old.pending ≡ Nothing) (some : 0 < old.processor.stack.budget) (fewer : reader.budget ≡ old.processor.stack.budget - 1) (outer : reader.outer ≡ old.processor.stack.outer) where
  as_many : length reader.outer.items ≡ length old.processor.stack.outer.items
  as_many = ap (λ x. length x.items) outer

  pub less_after : measure_of (following old reader Nothing) < measure_of old
  less_after = rw bare (omega (arith, some, fewer, as_many))

  less_labelled : (ts : List Lexeme) → measure_of (following old reader (Rest (line_of ts))) < measure_of old
  less_labelled ts = rw bare (omega (arith, some, fewer, as_many))

  from : (m : Files) (P : State → Type 0) → P (state_of m old.processor) → P (state_in m old)
  from m P h = rw bare h

  pub line_given : (n : ℕ) (ts : List Lexeme) → NeedsNoExpansion n old.processor ts → ((m : Files) → ReadsNextLine (remaining_of m old.processor.stack) (Ok (Some ts, remaining_of m reader))) → YieldsStatements old (line_statements (take n ts) (drop n ts)) (following old reader Nothing)
  line_given zero [] (e, d, calls) taken =
      let new = following old reader Nothing in
      none old new (record { goes = λ m k. goes_once (state_in m old) (state_in m old) (state_in m new) (no_step (state_in m old)) (from m (λ s. IsStep m k s (continues (state_in m new))) (step_acted m k old.processor reader [] (taken m) (continues (state_in m new)) e d refl)); failed = refl; size = omega (arith, less_after) })
  line_given zero (t ∷ ts) (e, d, calls) taken =
      let new = following old reader Nothing in
      more old new new (Plain (line_of (t ∷ ts))) (plain (t ∷ ts)) [] (ap plain (line_kept (t ∷ ts))) right refl (λ m k.
      let s = state_in m new in
      yielded (state_in m old) s (plain (t ∷ ts)) (from m (λ z. IsStep m k z (yields (plain (t ∷ ts)) s)) (step_acted m k old.processor reader (t ∷ ts) (taken m) (yields (plain (t ∷ ts)) s) e d (no_call m new.processor t ts calls)))) less_after refl (none_more new)
  line_given (suc n) [] (e, d, calls) taken = absurd cc
  line_given (suc n) (t ∷ us) (e, d, calls) taken =
      let ts = t ∷ us in
      let rest = drop (suc n) ts in
      let mid = following old reader (Rest (line_of rest)) in
      more old mid (following old reader Nothing) (Label (line_of (take (suc n) ts))) (label (take (suc n) ts)) (rest_statements rest) (ap label (line_kept (take (suc n) ts))) right refl (λ m k.
      let s = state_of m mid.processor in
      let P : List Lexeme → Type 0 = λ l. ReachesNext m k (state_in m old) (statement (label (take (suc n) ts)) (with_items s (label_rest l ∷ s.left.items))) in
      let to = with_items s (label_rest rest ∷ s.left.items) in
      subst P (sym (line_kept rest)) (yielded (state_in m old) to (label (take (suc n) ts)) (from m (λ z. IsStep m k z (yields (label (take (suc n) ts)) to)) (step_labelled m k old.processor reader ts (taken m) n e d)))) (less_labelled rest) refl (rest_given old reader rest right d calls)
