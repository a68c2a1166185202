-- For all arguments and files there is exactly one outcome; and sources have an image, or provably have none.
use Rattle.std.proofs.Common.{◌≡◌, ◌⊎◌, ◌<◌, ◌≤◌, inl, inr, ℕ, zero, suc, ◌++◌, Bool, true, false, List, length, take, Option, Some, None, Result, Ok, Err, refl, sym, ap, subst, arith, get_or, nat_eq, ◌-◌}
use Rattle.std.specs.Prelude.{codes}
use Rattle.std.proofs.Math.Nat.{eq-or-lt_of_le}
use Rattle.std.proofs.lemmas.Bool.Decides.{nat_tests}
use Rattle.base65.specs.Store.{Files}
use Rattle.base65.specs.declared.output.OutputFile.{OutputFile}
use Rattle.object65.specs.Spelling.{object_bytes}
use Rattle.object65.specs.declared.object.Object.{Object}
use Rattle.semantics65.specs.Module as asm
use Rattle.sources65.specs.Reading.{IsOutcome}
use Rattle.semantics65.specs.Module.{LocatedFault}
use Rattle.sources65.proofs.LayoutExistence.{some_answer}
use Rattle.cli65.specs.Line.{AssembleView, CommandView, archive, assemble, line_of, link}
use Rattle.cli65.specs.declared.fault.LineFault.{LineFault}
use Rattle.link65.proofs.OutcomeLemmas.{link_once}
use Rattle.link65.proofs.OutcomeExistence.{some_outcome}
use Rattle.link65.specs.Links.{LinkOf}
use Rattle.link65.specs.declared.fault.LinkFault.{LinkFault}
use Rattle.link65.specs.declared.linking.Linked.{Linked}
use Rattle.ld65.proofs.LinkExistence.{some_link}
use Rattle.ar65.specs.Librarian.{archive_result}
use Rattle.output65.specs.Outputs.{error_outcome, outputs_of}
use Rattle.output65.specs.declared.outcome.Outcome.{Outcome}
use Rattle.output65.specs.declared.outcome.Status.TheVariants.{Success}
use Rattle.cli65.specs.Messages.{arguments_error_message}
use Rattle.tools65.specs.Archives.{archive_outcome}
use Rattle.tools65.specs.Assembling.{IsOutputName, job_in}
use Rattle.tools65.specs.Command.{IsOutcomeOfAssemble, IsOutcomeOfCommand, IsOutcomeOfArgs, link_outcome, failed_assembly_outcome}
use Rattle.tools65.specs.Naming.{HasNoExtension, IsExtension, IsObjectName, IsPlain}
use Rattle.tools65.specs.OutcomeLaws.{OutcomeExists}
use Rattle.tools65.specs.OneProgram.{ImageIsDecidable, HasImage}
use Rattle.tools65.proofs.UniqueOutcome.{one_outcome}
use Rattle.tools65.proofs.SelectedModules.{ok_err}
use Rattle.tools65.proofs.WholePrograms.{one_program}

-- ---- The object's name.

compare : (k n : ℕ) → (k < n) ⊎ ((k ≡ n) ⊎ (n < k))
compare zero zero = inr (inl refl)
compare zero (suc n) = inl (omega arith)
compare (suc k) zero = inr (inr (omega arith))
compare (suc k) (suc n) = up (compare k n)
  where
    up : (k < n) ⊎ ((k ≡ n) ⊎ (n < k)) → (suc k < suc n) ⊎ ((suc k ≡ suc n) ⊎ (suc n < suc k))
    up (inl h) = inl (omega (arith, h))
    up (inr (inl e)) = inr (inl (ap suc e))
    up (inr (inr h)) = inr (inr (omega (arith, h)))

equal : (a b : ℕ) → nat_eq a b ≡ true → a ≡ b
equal a b h = grind (arith, nat_tests)

unequal : (a b : ℕ) → nat_eq a b ≡ false → a ≡ b → ⊥
unequal a b h e = absurd (let yes : nat_eq a b ≡ true = grind (arith, nat_tests) in cc)

before_next : (p : ℕ) → suc p - 1 ≡ p
before_next p = omega arith

module _ (name : List ℕ) where
  abbrev Has : Type 0
  Has = ((k : ℕ) × IsExtension name k) ⊎ HasNoExtension name

  -- all bytes from index `n` on are plain
  abbrev ArePlain : ℕ → Type 0
  ArePlain n = (i : ℕ) → n ≤ i → i < length name → IsPlain (get_or name i 0)

  wider : (n : ℕ) → IsPlain (get_or name n 0) → ArePlain (suc n) → ArePlain n
  wider n h plain i le inside = by (eq-or-lt_of_le le)
    where
      by : (n ≡ i) ⊎ (n < i) → IsPlain (get_or name i 0)
      by (inl e) = subst (λ j. IsPlain (get_or name j 0)) e h
      by (inr lt) = plain i (omega (arith, lt)) inside

  -- if all bytes after index `n` are plain and no extension begins at `n` or before, the name has no extension
  none_there : (n : ℕ) → ArePlain (suc n) → (IsExtension name n → ⊥) → ((k : ℕ) → k < n → IsExtension name k → ⊥) → HasNoExtension name
  none_there n plain here before k x = by (compare k n)
    where
      by : (k < n) ⊎ ((k ≡ n) ⊎ (n < k)) → ⊥
      by (inl lt) = before k lt x
      by (inr (inl e)) = here (subst (IsExtension name) e x)
      by (inr (inr above)) = (plain k (omega (arith, above)) x.inside).dot x.dot

  -- the case of a dot at `n`, the last byte that isn't plain
  at_dot : (n : ℕ) → n < length name → ArePlain (suc n) → get_or name n 0 ≡ 46 → Has
  at_dot zero inside plain is =
      inr (none_there zero plain (λ x. (let before = x.before in absurd (omega (arith, before)))) (λ k lt x. absurd (omega (arith, lt))))
  at_dot (suc p) inside plain is = by (nat_eq (get_or name p 0) 47) refl
    where
      by : (b : Bool) → nat_eq (get_or name p 0) 47 ≡ b → Has
      by true e = inr (none_there (suc p) plain (λ x. x.part (subst (λ k. get_or name k 0 ≡ 47) (sym (before_next p)) (equal (get_or name p 0) 47 e))) (λ k lt x. (x.following (suc p) lt inside).dot is))
      by false e = inl (
        suc p,
        record {
          inside = inside;
          dot = is;
          before = omega arith;
          part = subst (λ k. get_or name k 0 ≡ 47 → ⊥) (sym (before_next p)) (unequal (get_or name p 0) 47 e);
          following = λ i lt there. plain i (omega (arith, lt)) there;
        },
      )

  search_from : (n : ℕ) → n ≤ length name → ArePlain n → Has
  search_from zero le plain = inr (λ k x. (plain k (omega arith) x.inside).dot x.dot)
  search_from (suc n) le plain =
      by (nat_eq (get_or name n 0) 46) (nat_eq (get_or name n 0) 47) refl refl (λ fine. search_from n (omega (arith, le)) (wider n fine plain))
    where
      inside : n < length name
      inside = omega (arith, le)

      by : (a b : Bool) → nat_eq (get_or name n 0) 46 ≡ a → nat_eq (get_or name n 0) 47 ≡ b → (IsPlain (get_or name n 0) → Has) → Has
      by true b is other further = at_dot n inside plain (equal (get_or name n 0) 46 is)
      by false true isnt is further =
          inr (none_there n plain (λ x. unequal (get_or name n 0) 46 isnt x.dot) (λ k lt x. (x.following n lt inside).slash (equal (get_or name n 0) 47 is)))
      by false false isnt other further =
          further (record { dot = unequal (get_or name n 0) 46 isnt; slash = unequal (get_or name n 0) 47 other })

  has_or_not : Has
  has_or_not = search_from (length name) (omega arith) (λ i le inside. absurd (omega (arith, le, inside)))

object_name_there : (source : List ℕ) → (name : List ℕ) × IsObjectName source name
object_name_there source = by (has_or_not source)
  where
    by : ((k : ℕ) × IsExtension source k) ⊎ HasNoExtension source → (name : List ℕ) × IsObjectName source name
    by (inl (k, x)) = (take k source ++ codes ".o", inl (k, x, refl))
    by (inr none) = (source ++ codes ".o", inr (none, refl))

output_name_there : (output : Option (List ℕ)) (source : List ℕ) → (name : List ℕ) × IsOutputName output source name
output_name_there None source = object_name_there source
output_name_there (Some given) source = (given, refl)

-- ---- Assembling.

assembles_there : (a : AssembleView) (m : Files) → (o : Outcome) × IsOutcomeOfAssemble a m o
assembles_there a m = let found = some_answer m (job_in a) in by found.0 found.1 found.0.result refl
  where
    by : (x : asm.Outcome) → IsOutcome m (job_in a) x → (r : Result Object LocatedFault) → x.result ≡ r → (o : Outcome) × IsOutcomeOfAssemble a m o
    by x is (Ok object) e =
        let name = output_name_there a.output a.source in
        let o : Outcome = record { out = x.out; err = x.err; outputs = outputs_of name.0 (object_bytes object); status = Success } in
        (o, (x, is, rw e (name.0, name.1, refl)))
    by x is (Err fault) e = (failed_assembly_outcome a.source x.out x.err fault, (x, is, rw e refl))

-- ---- Commands.

line_there : (line : CommandView) (m : Files) → (o : Outcome) × IsOutcomeOfCommand line m o
line_there (assemble a) m = assembles_there a m
line_there (link l) m = let r = some_link m l in (link_outcome l r.0, (r.0, r.1, refl))
line_there (archive a) m = (archive_outcome a (archive_result m a), refl)

words_there : (parsed : Result CommandView LineFault) (m : Files) → (o : Outcome) × IsOutcomeOfArgs parsed m o
words_there (Ok line) m = line_there line m
words_there (Err e) m = (error_outcome (arguments_error_message e), refl)

pub an_outcome_exists : OutcomeExists
an_outcome_exists args m =
    let there = words_there (line_of args) m in
    (there.0, there.1, λ other IsOutcomeOf. one_outcome (line_of args) m other there.0 IsOutcomeOf there.1)

-- ---- Images.

pub image_is_decidable : ImageIsDecidable
image_is_decidable output s xs ms objects = let found = some_outcome output s ms in by found.0 found.1
  where
    by : (r : Result Linked LinkFault) → LinkOf output s ms r → ((files : List OutputFile) × HasImage output s xs files) ⊎ ((files : List OutputFile) → HasImage output s xs files → ⊥)
    by (Ok linked) is = inl (linked.files, (one_program output s xs ms linked.files objects).1 (record { linked = linked; link = is; same = refl }))
    by (Err e) is = inr (λ files whole. (let there = (one_program output s xs ms files objects).0 whole in absurd (ok_err there.linked e (link_once output s ms (Ok there.linked) (Err e) there.link is))))
