use Rattle.std.proofs.lemmas.Grind.{common_steps}
use Rattle.std.proofs.Common.{◌≡◌, ◌∙◌, ◌+◌, ◌-◌, ◌++◌, ◌∷◌, [], ℕ, List, Err, arith, refl, rules, true, false, if◌then◌else◌}
use Rattle.library65.specs.Spelling.{is_name}
use Rattle.library65.specs.declared.fault.LibraryFault.TheVariants.{BadIndex}
use Rattle.std.proofs.lemmas.Result.{err_from_is_err_and}
use Rattle.library65.specs.Reading.{counted_names_at, name_at, number_at, symbols_at}
use Rattle.library65.proofs.FailedRequests.{count_failed, fault_of, symbol_failed}
use Rattle.library65.proofs.Steps.{Reading, begins, counted_begins, fails, goes_on, kept_count, stops, symbols_more}
use Rattle.library65.proofs.indexing.read_symbols.Goals as goal

-- the names after a name that was read, which is rejected if it isn't valid for a symbol
abbrev go_on : ℕ → ℕ → List (List ℕ) → List ℕ × ℕ → Reading (List (List ℕ) × ℕ)
go_on n i names s bytes = if is_name s.0 then symbols_at (n - (i + 1)) (names ++ s.0 ∷ []) s.1 bytes else Err BadIndex

pub returns-in_err-count-clause-read : goal.returns-in_err-count-clause-read
returns-in_err-count-clause-read g c =
    let p = err_from_is_err_and c.from_residual.result c.from_residual.ensures.1 in
    let all = counted_names_at c.args.at in
    rw (p.1, p.2) (stops c.args.file.now all all (number_at c.args.at) (λ n. symbols_at (n - 0) [] (c.args.at + 4)) (counted_begins c.args.at) _ _ c.in_err-count.field-0.0 refl (begins _ c.args.file.now all) c.in_err-count.ensures.read)

pub loop-init : goal.loop-init
loop-init g c =
    let all = counted_names_at c.args.at in
    record {
      files = c.in_ok-count.ensures.frame.files;
      count = kept_count _ _ _ c.in_ok-count.ensures.frame.count;
      limit = c.in_ok-count.ensures.limit;
      later = omega arith;
      read = rw c.new-names.ensures (goes_on c.args.file.now all all (number_at c.args.at) (λ n. symbols_at (n - 0) [] (c.args.at + 4)) (counted_begins c.args.at) _ _ c.in_ok-count.count refl (begins _ c.args.file.now all) c.in_ok-count.ensures.read);
    }

pub returns-in_err-name-clause-read : goal.returns-in_err-name-clause-read
returns-in_err-name-clause-read g c =
    let p = err_from_is_err_and c.from_residual-in_err-name.result c.from_residual-in_err-name.ensures.1 in
    let n = c.in_ok-count.count in
    let i = c.loop.counter in
    rw (p.1, p.2) (stops c.args.file.now (counted_names_at c.args.at) (symbols_at (n - i) c.loop.names c.loop.end) (name_at c.loop.end) (go_on n i c.loop.names) (symbols_more n i c.loop.names c.loop.end c.loop-test.true) _ _ c.in_err-name.field-0.0 c.loop.invariant.files c.loop.invariant.read c.in_err-name.ensures.read)

pub returns-then-not-is_name-clause-read : goal.returns-then-not-is_name-clause-read
returns-then-not-is_name-clause-read g c =
    let n = c.in_ok-count.count in
    let i = c.loop.counter in
    let bad : is_name c.in_ok-name.name ≡ false = search rules in
    fails c.args.file.now (counted_names_at c.args.at) (symbols_at (n - i) c.loop.names c.loop.end) (name_at c.loop.end) (go_on n i c.loop.names) (symbols_more n i c.loop.names c.loop.end c.loop-test.true) _ _ (c.in_ok-name.name, c.in_ok-name.next) BadIndex c.loop.invariant.files c.loop.invariant.read c.in_ok-name.ensures.read (λ bytes. rw bad refl)

pub loop-preserved : goal.loop-preserved
loop-preserved g c =
    let n = c.in_ok-count.count in
    let i = c.loop.counter in
    let good : is_name c.in_ok-name.name ≡ true = search rules in
    let read = goes_on c.args.file.now (counted_names_at c.args.at) (symbols_at (n - i) c.loop.names c.loop.end) (name_at c.loop.end) (go_on n i c.loop.names) (symbols_more n i c.loop.names c.loop.end c.loop-test.true) _ _ (c.in_ok-name.name, c.in_ok-name.next) c.loop.invariant.files c.loop.invariant.read c.in_ok-name.ensures.read in
    record {
      files = c.in_ok-name.ensures.frame.files ∙ c.loop.invariant.files;
      count = kept_count _ _ _ c.in_ok-name.ensures.frame.count ∙ c.loop.invariant.count;
      limit = c.in_ok-name.ensures.end.1;
      later = omega (arith, c.loop.invariant.later, c.in_ok-name.ensures.end.0);
      read = rw (c.in_ok-push.ensures.ok) (rw good at read);
    }

pub returns-then-not-is_name-clause-frame : goal.returns-then-not-is_name-clause-frame
returns-then-not-is_name-clause-frame g c = grind (arith, common_steps)

pub returns-in_err-count-clause-before : goal.returns-in_err-count-clause-before
returns-in_err-count-clause-before g c =
    let p = err_from_is_err_and c.from_residual.result c.from_residual.ensures.1 in
    rw (p.1, p.2) (λ h. count_failed _ _ _ c.args.file.now refl c.args.at (c.in_err-count.ensures.within (fault_of c.in_err-count.field-0.0 h)))

pub returns-in_err-name-clause-before : goal.returns-in_err-name-clause-before
returns-in_err-name-clause-before g c =
    let p = err_from_is_err_and c.from_residual-in_err-name.result c.from_residual-in_err-name.ensures.1 in
    rw (p.1, p.2) (λ h. symbol_failed _ _ _ c.args.file.now c.loop.invariant.files c.in_ok-count.count c.loop.counter c.args.at c.loop.end c.loop.names c.loop-test.true c.loop.invariant.read (c.in_err-name.ensures.before (fault_of c.in_err-name.field-0.0 h)))
