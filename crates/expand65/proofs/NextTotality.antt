-- Each state of a source has a next statement, end or error: each step has a result and shrinks the input.
use Rattle.std.proofs.Common.{◌≡◌, ℤ, pos, negsuc, ℕ, zero, suc, ◌+◌, ◌*◌, ◌<◌, ◌≤◌, Bool, true, false, not, List, [], ◌∷◌, ◌++◌, map, Option, Some, None, refl, sym, ap, subst, arith, if◌then◌else◌}
use Rattle.std.specs.Prelude.{Result, Ok, Err, ⊤, length, drop, nat_le, ◌==◌}
use Rattle.std.specs.Option.{option_map_or}
use Rattle.base65.specs.Outcome.{◌>>=◌}
use Rattle.base65.specs.Store.{Files}
use Rattle.base65.proofs.SystemErrors.{Own, bad, choice, good, next, Has}
use Rattle.syntax65.specs.Faults.{is_system_error}
use Rattle.syntax65.specs.Tokens.{Lexeme}
use Rattle.syntax65.specs.Trees.{Tree, name}
use Rattle.syntax65.specs.declared.fault.ExpandFault.TheVariants as faults
use Rattle.syntax65.specs.declared.source_location.SourceLocation.{SourceLocation}
use Rattle.syntax65.proofs.ParseTotality.{some_parse}
use Rattle.expand65.specs.Blocks.{Branch, at_elseif, at_else, at_end, CompleteBlock}
use Rattle.expand65.specs.declared.blocks.BlockKind.{BlockKind}
use Rattle.expand65.specs.declared.blocks.BlockKind.TheVariants as kind
use Rattle.expand65.specs.Expansion.{line_step, end_mark_step, bytes_in, directive_step, first_file, initial_input, found_or, file_named, include_file, IsStep, last_condition, StepReaches, Next, statement, nothing, fault, not_opened, ReachesNext, further, yielded, ended, stopped, label_step, step_after, step_from, unless_mislabelled}
use Rattle.expand65.specs.LineStart.{first_directive, is_mislabelled, label_len, line_directive, string_of, ok_or_not_understood, first_satisfies, opens_parenthesis}
use Rattle.expand65.specs.Laws.{AreLines, IsOrdered, DecreasesInput, input_measure, NextExists, HasPendingOnlyFirst, weight}
use Rattle.expand65.specs.Lines.{Definition, file_limit, Item, file_line, body_line, label_rest, elseif_rest, end_mark, innermost, in_iteration, RemainingInput, remaining_input, lines_of, with_local_names, InputEnd, end_mark_count, nesting_limit, file_lines_after, after_innermost_macro, restored_location, repeat_substitution, Substitution, LocatedError, LineAndRest, iterations}
use Rattle.expand65.specs.Macros.{arguments_of, call_result, call_or_statement, with_one_more_call, definition_step, with_input, exit_macro, exit_result, call_substitution, header_of, local_line, local_result, macro_at, macro_line, macro_of, new_end_mark, new_names, plain_line_result, outermost, repeat_header, repeat_line, repeat_of, iterations_step, iteration_limit, iterations_of, variable_of}
use Rattle.expand65.specs.State.{condition_step, defined_in, defined_tree, else_line, endif_result, after_false_condition, continues, yields, ends, raises, if_alone, if_line, IsCondition, finishes, parses, decides, reads_line, reads_block, searches, EnvironmentView, State, ExpandedStatement, plain, ExpansionStep, StepResult, truth, and_then_step, and_then_result, complete_expression, with_conditions, with_items, with_remaining}
use Rattle.expand65.specs.Types.{ExprFault, ExpandFault, Nested, NotClosed, NotUnderstood, Directive, Macro, EndMacro, ExitMacro, Local, Repeat, EndRepeat, If, ElseIf, Else, EndIf, Include, Error, End, ConditionKind, True, Defined, NotDefined, Blank, NotBlank}
use Rattle.expand65.proofs.BlockTotality.{AreFewer, IsBlockOf, IsTakenOf, some_block, some_taken}

-- ---- Pushed lines.

-- lines without an end mark
abbrev AreOpen : List Item → Type 0
AreOpen [] = ⊤
AreOpen (file_line n bytes ∷ is) = AreOpen is
AreOpen (body_line e ts ∷ is) = AreOpen is
AreOpen (_ ∷ is) = ⊥

numbered_open : (n : ℕ) (lines : List (List ℕ)) → AreOpen (file_lines_after n lines)
numbered_open n [] = tt
numbered_open n (line ∷ lines) = numbered_open (n + 1) lines

played_open : (e : Substitution) (body : List (List Lexeme)) → AreOpen (map (body_line e) body)
played_open e [] = tt
played_open e (ts ∷ body) = played_open e body

both_open : (is js : List Item) → AreOpen is → AreOpen js → AreOpen (is ++ js)
both_open [] js h j = j
both_open (file_line n bytes ∷ is) js h j = both_open is js h j
both_open (body_line e ts ∷ is) js h j = both_open is js h j
both_open (label_rest ts ∷ is) js h j = absurd h
both_open (elseif_rest ts ∷ is) js h j = absurd h
both_open (end_mark k ∷ is) js h j = absurd h

turns_open : (e : Substitution) (body : List (List Lexeme)) (t n : ℕ) → AreOpen (iterations e body t n)
turns_open e body t zero = tt
turns_open e body t (suc n) = both_open (map (body_line (in_iteration e t)) body) (iterations e body (t + 1) n) (played_open (in_iteration e t) body) (turns_open e body (t + 1) n)

in_front : (is js : List Item) → AreOpen is → AreLines js → AreLines (is ++ js)
in_front [] js h j = j
in_front (file_line n bytes ∷ is) js h j = in_front is js h j
in_front (body_line e ts ∷ is) js h j = in_front is js h j
in_front (label_rest ts ∷ is) js h j = absurd h
in_front (elseif_rest ts ∷ is) js h j = absurd h
in_front (end_mark k ∷ is) js h j = absurd h

no_weight : (is js : List Item) → AreOpen is → weight (is ++ js) ≡ weight js
no_weight [] js h = refl
no_weight (file_line n bytes ∷ is) js h = no_weight is js h
no_weight (body_line e ts ∷ is) js h = no_weight is js h
no_weight (label_rest ts ∷ is) js h = absurd h
no_weight (elseif_rest ts ∷ is) js h = absurd h
no_weight (end_mark k ∷ is) js h = absurd h

-- ---- The input after a macro call, and with local names.

localised_lines : (names : List (List ℕ)) (is : List Item) → AreLines is → AreLines (with_local_names names is)
localised_lines names [] h = tt
localised_lines names (file_line n bytes ∷ is) h = localised_lines names is h
localised_lines names (body_line e ts ∷ is) h = localised_lines names is h
localised_lines names (label_rest ts ∷ is) h = absurd h
localised_lines names (elseif_rest ts ∷ is) h = absurd h
localised_lines names (end_mark k ∷ is) h = h

localised_weight : (names : List (List ℕ)) (is : List Item) → weight (with_local_names names is) ≡ weight is
localised_weight names [] = refl
localised_weight names (file_line n bytes ∷ is) = localised_weight names is
localised_weight names (body_line e ts ∷ is) = localised_weight names is
localised_weight names (label_rest ts ∷ is) = ap (λ n. n + 2) (localised_weight names is)
localised_weight names (elseif_rest ts ∷ is) = ap (λ n. n + 2) (localised_weight names is)
localised_weight names (end_mark k ∷ is) = refl

abbrev IsOutside : List Item → Option (ℕ × List Item × SourceLocation) → Type 0
IsOutside is None = ⊤
IsOutside is (Some (n, js, p)) = AreLines js × (weight js ≤ weight is)

outside_more : (is js : List Item) (o : Option (ℕ × List Item × SourceLocation)) → weight is ≤ weight js → IsOutside is o → IsOutside js o
outside_more is js None le h = tt
outside_more is js (Some (n, ks, p)) le (lines, light) = (lines, omega arith)

outside_lines : (is : List Item) (p : SourceLocation) → AreLines is → IsOutside is (after_innermost_macro is p)
outside_lines [] p h = tt
outside_lines (file_line n bytes ∷ is) p h = outside_lines is p h
outside_lines (body_line e ts ∷ is) p h = outside_lines is p h
outside_lines (label_rest ts ∷ is) p h = absurd h
outside_lines (elseif_rest ts ∷ is) p h = absurd h
outside_lines (end_mark k ∷ is) p h = by k.is_macro (outside_lines is (restored_location p k.return_location) h)
  where
    by : (b : Bool) → IsOutside is (after_innermost_macro is (restored_location p k.return_location)) → IsOutside (end_mark k ∷ is) (if b then Some (k.conditions, is, restored_location p k.return_location) else after_innermost_macro is (restored_location p k.return_location))
    by true j = (h, omega arith)
    by false j = outside_more is (end_mark k ∷ is) (after_innermost_macro is (restored_location p k.return_location)) (omega arith) j

stands : (is : List Item) → AreLines is → HasPendingOnlyFirst is
stands [] h = tt
stands (file_line n bytes ∷ is) h = h
stands (body_line e ts ∷ is) h = h
stands (label_rest ts ∷ is) h = absurd h
stands (elseif_rest ts ∷ is) h = absurd h
stands (end_mark k ∷ is) h = h

-- ---- Results of reading.

understood_own : {A : Type 0} (o : Option A) → Own is_system_error (ok_or_not_understood o)
understood_own None = bad _ refl
understood_own (Some x) = good x

whole_own : (count : ℕ) (q : Result (Tree × ℕ) ExprFault) → Own is_system_error (complete_expression count q)
whole_own count (Ok (e, n)) = choice (n == count) _ _ (good e) (bad _ refl)
whole_own count (Err f) = bad _ refl

truth_own : (o : Option ℤ) → Own is_system_error (truth o)
truth_own None = bad _ refl
truth_own (Some v) = good _

defined_own : (k : EnvironmentView) (e : Tree) → Own is_system_error (defined_tree k e)
defined_own k (name is_global parts) = good _
defined_own k _ = bad _ refl

defined_in_own : (k : EnvironmentView) (ts : List Lexeme) (q : Result (Tree × ℕ) ExprFault) → Own is_system_error (defined_in k ts q)
defined_in_own k ts q = choice (first_satisfies opens_parenthesis ts) _ _ (bad _ refl) (next (complete_expression (length ts) q) _ (whole_own (length ts) q) (λ e. defined_own k e))

some_condition : (k : EnvironmentView) (test : ConditionKind) (ts : List Lexeme) → Has is_system_error (IsCondition k test ts)
some_condition k True ts =
    let q = some_parse ts in
    (complete_expression (length ts) q.0 >>= (λ e. truth (k.value e)), (q.0, q.1, refl), next (complete_expression (length ts) q.0) _ (whole_own (length ts) q.0) (λ e. truth_own (k.value e)))
some_condition k Defined ts = let q = some_parse ts in (defined_in k ts q.0, (q.0, q.1, refl), defined_in_own k ts q.0)
some_condition k NotDefined ts =
    let q = some_parse ts in
    (defined_in k ts q.0 >>= (λ b. Ok (not b)), (q.0, q.1, refl), next (defined_in k ts q.0) _ (defined_in_own k ts q.0) (λ b. good _))
some_condition k Blank ts = (Ok (length ts == 0), refl, good _)
some_condition k NotBlank ts = (Ok (not (length ts == 0)), refl, good _)

found_own : (n : List ℕ) (o : Option (List ℕ)) (others : Result (List ℕ × List ℕ) ExpandFault) → Own is_system_error others → Own is_system_error (found_or n o others)
found_own n None others h = h
found_own n (Some bytes) others h = choice (nat_le (length bytes) file_limit) _ _ (good _) (bad _ refl)

file_own : (m : Files) (names : List (List ℕ)) → Own is_system_error (first_file m names)
file_own m [] = bad _ refl
file_own m (n ∷ names) = found_own n (file_named m n) (first_file m names) (file_own m names)

bytes_own : (o : Option (List ℕ)) → Own is_system_error (bytes_in o)
bytes_own None = bad _ refl
bytes_own (Some bytes) = choice (nat_le (length bytes) file_limit) _ _ (good _) (bad _ refl)

turns_own : (o : Option ℤ) → Own is_system_error (iterations_of o)
turns_own None = bad _ refl
turns_own (Some (pos n)) = choice (nat_le n iteration_limit) _ _ (good _) (bad _ refl)
turns_own (Some (negsuc n)) = bad _ refl

header_own : (ts : List Lexeme) (q : Result (Tree × ℕ) ExprFault) → Own is_system_error (repeat_header ts q)
header_own ts (Err f) = bad _ refl
header_own ts (Ok (e, n)) = next (ok_or_not_understood (variable_of (drop n ts))) _ (understood_own (variable_of (drop n ts))) (λ v. good _)

repeat_own : (k : EnvironmentView) (ts : List Lexeme) (q : Result (Tree × ℕ) ExprFault) → Own is_system_error (repeat_of k ts q)
repeat_own k ts q = next (repeat_header ts q) _ (header_own ts q) (λ h. next (iterations_of (k.value h.0)) _ (turns_own (k.value h.0)) (λ n. good _))

-- ---- Steps that lead to a smaller measure, whatever they read.

abbrev IsLess : ℕ → StepResult → Type 0
IsLess n (continues t) = IsOrdered t × (input_measure t < n)
IsLess n (yields x t) = IsOrdered t × (input_measure t < n)
IsLess n (ends t) = ⊤
IsLess n (raises e) = is_system_error e.0 ≡ false

abbrev LeadsOn : ℕ → ExpansionStep → Type 0
LeadsOn n (finishes x) = IsLess n x
LeadsOn n (parses ts next) = (q : Result (Tree × ℕ) ExprFault) → LeadsOn n (next q)
LeadsOn n (decides k test ts next) = (c : Result Bool ExpandFault) → Own is_system_error c → LeadsOn n (next c)
LeadsOn n (reads_line l next) = AreLines l.items × ((t : LineAndRest) → IsTakenOf l.items l.room t → LeadsOn n (next t))
LeadsOn n (reads_block k l next) = AreLines l.items × ((q : Result (CompleteBlock × RemainingInput) LocatedError) → IsBlockOf l q → IsLess n (and_then_result q (λ b. next b.0 b.1)))
LeadsOn n (searches l names next) = (q : Result (List ℕ × List ℕ) ExpandFault) → Own is_system_error q → LeadsOn n (next q)

some_led : (m : Files) (n : ℕ) (step : ExpansionStep) → LeadsOn n step → (r : StepResult) × StepReaches m step r × IsLess n r
some_led m n (finishes x) h = (x, refl, h)
some_led m n (parses ts next) h = let q = some_parse ts in let r = some_led m n (next q.0) (h q.0) in (r.0, (q.0, q.1, r.1), r.2)
some_led m n (decides k test ts next) h = let c = some_condition k test ts in let r = some_led m n (next c.0) (h c.0 c.2) in (r.0, (c.0, c.1, r.1), r.2)
some_led m n (reads_line l next) h = let t = some_taken l.items l.room l.place h.0 in let r = some_led m n (next t.0) (h.1 t.0 t.2) in (r.0, (t.0, t.1, r.1), r.2)
some_led m n (reads_block k l next) h = let q = some_block k l h.0 in (and_then_result q.0 (λ b. next b.0 b.1), (q.0, q.1, refl), h.1 q.0 q.2)
some_led m n (searches l names next) h = some_led m n (next (first_file m names)) (h (first_file m names) (file_own m names))

-- ---- Each step leads to a smaller measure.

module _ (n : ℕ) where
  goes_on : (t : State) → AreLines t.left.items → input_measure t < n → IsLess n (continues t)
  goes_on t lines lt = (stands t.left.items lines, lt)

  gives_on : (x : ExpandedStatement) (t : State) → AreLines t.left.items → input_measure t < n → IsLess n (yields x t)
  gives_on x t lines lt = (stands t.left.items lines, lt)

  enters : (s : State) (is : List Item) (k : InputEnd) (p : SourceLocation) → AreOpen is → AreLines s.left.items → input_measure s + 2 ≤ n → IsLess n (with_input s is k p)
  enters s is k p open_lines lines le = by (nat_le (end_mark_count s.left.items) nesting_limit)
    where
      by : (b : Bool) → IsLess n (and_then_result (if b then Ok (remaining_input (is ++ end_mark k ∷ s.left.items) s.left.room s.left.place) else Err (Nested, s.left.place)) (λ l. continues (with_remaining s (remaining_input l.items l.room p))))
      by true = let same = no_weight is (end_mark k ∷ s.left.items) open_lines in (stands (is ++ end_mark k ∷ s.left.items) (in_front is (end_mark k ∷ s.left.items) open_lines lines), omega (arith, same))
      by false = refl

  unless : {A : Type 0} (s : State) (q : Result A ExpandFault) (after : A → ExpansionStep) → Own is_system_error q → ((x : A) → LeadsOn n (after x)) → LeadsOn n (and_then_step s q after)
  unless s (Ok x) after own h = h x
  unless s (Err f) after own h = own.own

  alone : (s : State) (ts : List Lexeme) (after : ExpansionStep) → LeadsOn n after → LeadsOn n (if_alone s ts after)
  alone s [] after h = h
  alone s (t ∷ ts) after h = refl

  read_block : (k : BlockKind) (l : RemainingInput) (after : CompleteBlock → RemainingInput → StepResult) → AreLines l.items → ((b : CompleteBlock) (x : RemainingInput) → AreFewer l.items l.room x → IsLess n (after b x)) → LeadsOn n (reads_block k l after)
  read_block k l after lines h = (lines, by)
    where
      by : (q : Result (CompleteBlock × RemainingInput) LocatedError) → IsBlockOf l q → IsLess n (and_then_result q (λ b. after b.0 b.1))
      by (Ok (b, x)) j = h b x j
      by (Err e) j = j

  module _ (s : State) (lines : AreLines s.left.items) (le : input_measure s + 2 ≤ n) where
    -- with a smaller budget the measure is at most `n - 5`, which suffices for a pushed line
    fewer : (x : RemainingInput) → AreFewer s.left.items s.left.room x → 3 * x.room + weight x.items + 5 ≤ n
    fewer x h = let less = h.room in let light = h.light in omega arith

    finds : (b : Branch) (x : RemainingInput) → AreFewer s.left.items s.left.room x → IsLess n (after_false_condition s b x)
    finds at_end x h = goes_on (with_remaining s x) h.lines (let few = fewer x h in omega arith)
    finds at_else x h = goes_on (with_conditions s (true ∷ s.conditions) x) h.lines (let few = fewer x h in omega arith)
    finds (at_elseif ts) x h = (h.lines, (let few = fewer x h in omega arith))

    decides_on : (b : Bool) → LeadsOn n (condition_step s b)
    decides_on true = goes_on (with_conditions s (false ∷ s.conditions) s.left) lines (omega arith)
    decides_on false = read_block kind.Skipped s.left (λ b l. after_false_condition s b.1 l) lines (λ b x h. finds b.1 x h)

    if_on : (k : EnvironmentView) (test : ConditionKind) (ts : List Lexeme) → LeadsOn n (if_line k s test ts)
    if_on k test ts = λ c own. unless s c (condition_step s) own decides_on

    else_on : (o : Option (Bool × List Bool)) → LeadsOn n (else_line s o)
    else_on (Some (false, bs)) = read_block kind.RemainingBranches s.left (λ b l. continues (with_conditions s bs l)) lines (λ b x h. goes_on (with_conditions s bs x) h.lines (let few = fewer x h in omega arith))
    else_on (Some (true, bs)) = refl
    else_on None = refl

    end_if_on : (o : Option (Bool × List Bool)) → LeadsOn n (finishes (endif_result s o))
    end_if_on None = refl
    end_if_on (Some (b, bs)) = goes_on (with_conditions s bs s.left) lines (omega arith)

    defines_on : (title : List ℕ) (params : List (List ℕ)) (o : Option Definition) → LeadsOn n (definition_step s title params o)
    defines_on title params (Some d) = refl
    defines_on title params None = read_block kind.Macro s.left _ lines (λ b x h. (stands x.items h.lines, (let few = fewer x h in omega arith)))

    macro_on : (ts : List Lexeme) → LeadsOn n (macro_line s ts)
    macro_on ts = unless s (ok_or_not_understood (header_of ts)) _ (understood_own (header_of ts)) (λ h. defines_on h.0 h.1 (macro_of s.macros h.0))

    exits_on : (o : Option (ℕ × List Item × SourceLocation)) → IsOutside s.left.items o → IsLess n (exit_result s o)
    exits_on None h = refl
    exits_on (Some (c, is, p)) (some, light) = goes_on (with_conditions s (outermost c s.conditions) (remaining_input is s.left.room p)) some (omega arith)

    names_on : (o : Option (List (List ℕ))) → IsLess n (local_result s o)
    names_on None = refl
    names_on (Some names) = goes_on (with_items s (with_local_names names s.left.items)) (localised_lines names s.left.items lines) (let same = localised_weight names s.left.items in omega (arith, same))

    local_on : (ts : List Lexeme) → IsLess n (local_line s ts)
    local_on ts = by (option_map_or (λ k. k.is_macro) (innermost s.left.items) false)
      where
        by : (b : Bool) → IsLess n (if b then local_result s (new_names ts) else raises (NotUnderstood, s.left.place))
        by true = names_on (new_names ts)
        by false = refl

    repeats_on : (count : ℕ) (variable : List (List ℕ)) → LeadsOn n (iterations_step s count variable)
    repeats_on count variable = read_block kind.Repeat s.left _ lines (λ b x h. enters (with_remaining s x) (iterations (repeat_substitution variable) b.0 0 count) (new_end_mark s false None) x.place (turns_open (repeat_substitution variable) b.0 0 count) h.lines (let few = fewer x h in omega arith))

    repeat_on : (k : EnvironmentView) (ts : List Lexeme) → LeadsOn n (repeat_line k s ts)
    repeat_on k ts = λ q. unless s (repeat_of k ts q) _ (repeat_own k ts q) (λ h. repeats_on h.0 h.1)

    include_on : (file : List ℕ) → LeadsOn n (include_file s file)
    include_on file = λ q own. unless s q _ own (λ f. enters s (file_lines_after 0 (lines_of f.1)) (new_end_mark s false (Some s.left.place)) (record { file = f.0; line = 0 }) (numbered_open 0 (lines_of f.1)) lines le)

    calls_on : (d : Definition) (arguments : List (List Lexeme)) → IsLess n (call_result s d arguments)
    calls_on d arguments = by (nat_le (length arguments) (length d.params))
      where
        by : (b : Bool) → IsLess n (if b then with_input (with_one_more_call s) (map (body_line (call_substitution d arguments (s.expansions + 1))) d.body) (new_end_mark s true None) s.left.place else raises (faults.TooManyArguments, s.left.place))
        by true = enters (with_one_more_call s) (map (body_line (call_substitution d arguments (s.expansions + 1))) d.body) (new_end_mark s true None) s.left.place (played_open (call_substitution d arguments (s.expansions + 1)) d.body) lines le
        by false = refl

    ordinary_on : (ts : List Lexeme) → IsLess n (plain_line_result s ts)
    ordinary_on [] = goes_on s lines (omega arith)
    ordinary_on (t ∷ ts) = by (macro_at s.macros t)
      where
        by : (o : Option Definition) → IsLess n (call_or_statement s t ts o)
        by None = gives_on (plain (t ∷ ts)) s lines (omega arith)
        by (Some d) = calls_on d (arguments_of ts)

    directed_on : (k : EnvironmentView) (d : Directive) (ts : List Lexeme) → LeadsOn n (directive_step k s d ts)
    directed_on k Macro ts = macro_on ts
    directed_on k EndMacro ts = alone s ts (finishes (not_opened s)) refl
    directed_on k ExitMacro ts = alone s ts (finishes (exit_macro s)) (exits_on (after_innermost_macro s.left.items s.left.place) (outside_lines s.left.items s.left.place lines))
    directed_on k Local ts = local_on ts
    directed_on k Repeat ts = repeat_on k ts
    directed_on k EndRepeat ts = alone s ts (finishes (not_opened s)) refl
    directed_on k (If test) ts = if_on k test ts
    directed_on k ElseIf ts = else_on (last_condition s)
    directed_on k Else ts = alone s ts (else_line s (last_condition s)) (else_on (last_condition s))
    directed_on k EndIf ts = alone s ts (finishes (endif_result s (last_condition s))) (end_if_on (last_condition s))
    directed_on k Include ts = unless s (ok_or_not_understood (string_of ts)) (include_file s) (understood_own (string_of ts)) include_on
    directed_on k Error ts = unless s (ok_or_not_understood (string_of ts)) (λ text. finishes (raises (faults.Error text, s.left.place))) (understood_own (string_of ts)) (λ text. refl)
    directed_on k End ts = alone s ts (finishes (continues (with_items s []))) (tt, omega arith)

    acted_on : (k : EnvironmentView) (ts : List Lexeme) (o : Option Directive) → LeadsOn n (line_step k s ts o)
    acted_on k ts (Some d) = directed_on k d (drop 1 ts)
    acted_on k ts None = ordinary_on ts

  -- ---- A line or an end mark.

  split_on : (k : EnvironmentView) (s : State) (ts : List Lexeme) (d : Option Directive) (len : ℕ) → AreLines s.left.items → input_measure s + 3 ≤ n → LeadsOn n (label_step k s ts d len)
  split_on k s ts d zero lines le = acted_on s lines (omega arith) k ts d
  split_on k s ts d (suc len) lines le = (lines, omega arith)

  line_on : (k : EnvironmentView) (s : State) (ts : List Lexeme) (b : Bool) → AreLines s.left.items → input_measure s + 3 ≤ n → LeadsOn n (unless_mislabelled k s ts b)
  line_on k s ts true lines le = refl
  line_on k s ts false lines le = split_on k s ts (line_directive ts) (label_len ts) lines le

  mark_on : (s : State) (is : List Item) → AreLines is → 3 * s.left.room + weight is ≤ n → IsLess n (end_mark_step s is)
  mark_on s [] lines le = tt
  mark_on s (file_line i bytes ∷ is) lines le = tt
  mark_on s (body_line e ts ∷ is) lines le = tt
  mark_on s (label_rest ts ∷ is) lines le = tt
  mark_on s (elseif_rest ts ∷ is) lines le = tt
  mark_on s (end_mark k ∷ is) lines le = by (k.conditions == length s.conditions)
    where
      by : (b : Bool) → IsLess n (if b then continues (with_remaining s (remaining_input is s.left.room (restored_location s.left.place k.return_location))) else raises (NotClosed, s.left.place))
      by true = goes_on (with_remaining s (remaining_input is s.left.room (restored_location s.left.place k.return_location))) lines (omega arith)
      by false = refl

  after_on : (k : EnvironmentView) (s : State) → AreLines s.left.items → input_measure s ≤ n → (t : LineAndRest) → IsTakenOf s.left.items s.left.room t → LeadsOn n (step_after k s t)
  after_on k s lines le (Ok (Some ts, x)) h = line_on k (with_remaining s x) ts (is_mislabelled ts) h.lines (let less = h.room in let light = h.light in omega arith)
  after_on k s lines le (Ok (None, x)) (items, budget) = mark_on (with_remaining s x) x.items (subst AreLines (sym items) lines) (let same = ap weight items in omega (arith, same, budget))
  after_on k s lines le (Err e) h = h

  taken_on : (k : EnvironmentView) (s : State) → AreLines s.left.items → input_measure s ≤ n → LeadsOn n (reads_line s.left (step_after k s))
  taken_on k s lines le = (lines, λ t h. after_on k s lines le t h)

from_on : (k : EnvironmentView) (s : State) (is : List Item) → s.left.items ≡ is → HasPendingOnlyFirst is → LeadsOn (3 * s.left.room + weight is) (step_from k s is)
from_on k s (label_rest ts ∷ is) e h = acted_on _ (with_items s is) h (omega arith) k ts (first_directive ts)
from_on k s (elseif_rest ts ∷ is) e h = if_on _ (with_items s is) h (omega arith) k True ts
from_on k s [] e h = taken_on _ k s (subst AreLines (sym e) h) (let same = ap weight e in omega (arith, same))
from_on k s (file_line i bytes ∷ is) e h = taken_on _ k s (subst AreLines (sym e) h) (let same = ap weight e in omega (arith, same))
from_on k s (body_line r ts ∷ is) e h = taken_on _ k s (subst AreLines (sym e) h) (let same = ap weight e in omega (arith, same))
from_on k s (end_mark i ∷ is) e h = taken_on _ k s (subst AreLines (sym e) h) (let same = ap weight e in omega (arith, same))

some_step : (m : Files) (k : EnvironmentView) (s : State) → IsOrdered s → (r : StepResult) × IsStep m k s r × IsLess (input_measure s) r
unfolding IsStep
some_step m k s h = some_led m (input_measure s) (step_from k s s.left.items) (from_on k s s.left.items refl h)

-- ---- The next statement, end or error.

abbrev HasNext : Files → EnvironmentView → State → Type 0
HasNext m k s = (n : Next) × ReachesNext m k s n × DecreasesInput s n

less_still : (s t : State) (n : Next) → input_measure t < input_measure s → DecreasesInput t n → DecreasesInput s n
less_still s t (statement x u) lt h = (h.0, (let less = h.1 in omega arith))
less_still s t (nothing u) lt h = tt
less_still s t (fault e) lt h = h

next_within : (n : ℕ) (m : Files) (k : EnvironmentView) (s : State) → input_measure s < n → IsOrdered s → HasNext m k s
next_within zero m k s lt h = absurd (omega arith)
next_within (suc n) m k s lt h = let r = some_step m k s h in led r.0 r.1 r.2 (λ t less j. next_within n m k t less j)
  where
    on : (t : State) → IsStep m k s (continues t) → input_measure t < input_measure s → HasNext m k t → HasNext m k s
    on t step less r = (r.0, further s t r.0 step r.1, less_still s t r.0 less r.2)

    led : (r : StepResult) → IsStep m k s r → IsLess (input_measure s) r → ((t : State) → input_measure t < n → IsOrdered t → HasNext m k t) → HasNext m k s
    led (continues t) step j more = on t step j.1 (more t (let less = j.1 in omega arith) j.0)
    led (yields x t) step j more = (statement x t, yielded s t x step, j)
    led (ends t) step j more = (nothing t, ended s t step, tt)
    led (raises e) step j more = (fault e, stopped s e step, j)

-- ---- The first state of a source.

abbrev last : InputEnd
last = record { is_macro = false; conditions = 0; return_location = None }

lines_marked : (lines : List (List ℕ)) → AreLines (file_lines_after 0 lines ++ end_mark last ∷ [])
lines_marked lines = in_front (file_lines_after 0 lines) (end_mark last ∷ []) (numbered_open 0 lines) tt

pub some_next : NextExists
some_next = record {
  opened = λ m file folders. (next (bytes_in (file_named m file)) _ (bytes_own (file_named m file)) (λ bytes. good _)).own;
  first = λ file folders bytes. stands (initial_input file bytes).items (lines_marked (lines_of bytes));
  next = λ m k s h. next_within (suc (input_measure s)) m k s (omega arith) h;
}
