-- Properties of a result that follow from its error.
use Rattle.std.proofs.lemmas.Grind.{common_steps}
use Rattle.std.proofs.Common.{◌≡◌, ◌∙◌, ℕ, Bool, true, false, refl, sym, ap, arith}
use Rattle.std.specs.Prelude.{Ok, Err, IfOk, IfErr, IsErrAnd, ◌||◌}
use Rattle.base65.specs.Store.{FailsAtLastCount, PropagatesIoError, PropagatesIoErrors}
use Rattle.syntax65.specs.Faults.{is_system_error as is_expand_system_error}
use Rattle.syntax65.specs.declared.fault.ExpandFault.{ExpandFault}
use Rattle.syntax65.specs.declared.fault.ExpandFault.TheVariants.{FileError, OutOfMemory}
use Rattle.expand65.specs.declared.expander.Expander.{Expander}
use Rattle.ast65.specs.declared.fault.AsmFault.{AsmFault}
use Rattle.ast65.specs.declared.fault.AsmFault.TheVariants.{Expansion}
use Rattle.ast65.specs.Faults.{is_failure, is_out_of_memory, is_system_error}
use Rattle.asm65.specs.Assembly.{is_store_failure, is_system_error_result, is_diagnostic_system_error, located_fault}
use Rattle.asm65.specs.Failing.{no_location}
use Rattle.asm65.proofs.Outcomes.{Found, only_error}

-- ---- The result has this error.

pub outside_as : (e : AsmFault) (r : Found) → IfOk r (λ o. ⊥) → IfErr r (λ x. x.fault ≡ e) → is_system_error e ≡ true → is_system_error_result r ≡ true
outside_as e (Ok o) none h outside = absurd none
outside_as e (Err x) none h outside = ap is_system_error h ∙ outside

pub failed_as : (e : AsmFault) (r : Found) → IfErr r (λ x. x.fault ≡ e) → IfErr r (λ x. is_store_failure x ≡ is_failure e)
failed_as e (Ok o) h = tt
failed_as e (Err x) h = ap is_failure h

pub first_as : (e : AsmFault) (r : Found) → IfErr r (λ x. x.fault ≡ e) → IfErr r (λ x. (located_fault x).place ≡ no_location) → IfErr r (λ x. (x.fault ≡ e) × ((located_fault x).place ≡ no_location))
first_as e (Ok o) h k = tt
first_as e (Err x) h k = (h, k)

-- ---- The error is no system error.

no_failure : (b c : Bool) → (b || c) ≡ false → c ≡ false
no_failure b c h = grind (arith, common_steps)

pub inside_as : (e : AsmFault) (r : Found) → is_system_error e ≡ false → IfErr r (λ x. is_store_failure x ≡ false) → IfErr r (λ x. is_store_failure x ≡ is_failure e)
inside_as e (Ok o) inside h = tt
inside_as e (Err x) inside h = h ∙ sym (no_failure (is_out_of_memory e) (is_failure e) inside)

-- ---- The source can't be opened.

expansion_outside : (e : ExpandFault) → is_expand_system_error e ≡ true → is_system_error (Expansion e) ≡ true
expansion_outside OutOfMemory h = refl
expansion_outside FileError h = refl
expansion_outside _ h = absurd cc

pub refused_passed : (old new : ℕ) (e : ExpandFault) (r : Found) → PropagatesIoError {T = Expander} {E = ExpandFault} FileError old new (Err e) → IfOk r (λ o. ⊥) → IfErr r (λ x. is_store_failure x ≡ is_failure (Expansion e)) → PropagatesIoErrors is_store_failure old new r
refused_passed old new e (Ok o) p none h = absurd none
refused_passed old new e (Err x) p none h = record {
  monotone = p.monotone;
  reported = λ lt. h ∙ (let told = p.reported lt in let same : e ≡ FileError = cc in ap (λ (f : ExpandFault). is_failure (Expansion f)) same);
  caused = λ yes. p.caused (ap Err (only_error e (sym h ∙ yes)));
}

pub refused_asked : (old : ℕ) (e : ExpandFault) (r : Found) → FailsAtLastCount {T = Expander} {E = ExpandFault} is_expand_system_error old (Err e) → (is_system_error (Expansion e) ≡ true → is_system_error_result r ≡ true) → FailsAtLastCount is_diagnostic_system_error old r
refused_asked old e r asks outside last = by r (outside (expansion_outside e (asks last)))
  where
    by : (q : Found) → is_system_error_result q ≡ true → IsErrAnd q (λ x. is_diagnostic_system_error x ≡ true)
    by (Ok o) h = absurd cc
    by (Err x) h = h
