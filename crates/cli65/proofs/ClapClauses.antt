-- The result of parsing arguments as the command `bin65`, from clap's contracts.
use Rattle.std.proofs.Common.{◌≡◌, ◌∙◌, ◌⊎◌, arith, List, [], ◌∷◌, Ok, true, refl, sym, ap, subst, inl, inr}
use Rattle.clap.specs.Words.{App, HasMatchesOf, HasKind, IsAmong, Kinds, Text, fault_of, is_simple, is_simple_and_free, kind_of, subcommand_of, subcommand_rows_of}
use Rattle.clap.specs.declared.error.Error.{Error}
use Rattle.clap.specs.declared.error.kind.ErrorKind.{ErrorKind}
use Rattle.clap.specs.declared.error.kind.ErrorKind.TheVariants as kind
use Rattle.clap.specs.declared.parser.matches.ArgMatches.{ArgMatches}
use Rattle.clap.proofs.OnLiterals.{clap_on_literals}
use Rattle.cli65.specs.CommandLine.{bin65}
use Rattle.cli65.specs.LineFaults.{of_kind, is_system_error}
use Rattle.base65.specs.Outcome.{RefinesErr}
use Rattle.cli65.specs.Line.{line_of, clap_matches, unless_errors}
use Rattle.cli65.specs.declared.fault.LineFault.{LineFault}
use Rattle.std.proofs.lemmas.Grind.{common_steps}

bin65_simple : is_simple bin65 ≡ true
unfolding clap_on_literals
bin65_simple = refl

bin65_free : is_simple_and_free bin65 ≡ true
unfolding clap_on_literals
bin65_free = refl

takes_all : {A : Type 0} (ks : Kinds) (x y : A) → ks ≡ [] → y ≡ x → unless_errors ks x ≡ Ok y
takes_all ks x y none same = rw (none, same) refl

refuses : {A : Type 0} (ks : Kinds) (x : A) (k : ErrorKind) → (k ≡ kind.OutOfMemory) ⊎ IsAmong k ks → RefinesErr is_system_error (of_kind k) (unless_errors ks x)
refuses ks x k (inl e) = rw e tt
refuses [] x k (inr h) = absurd h
refuses (y ∷ ks) x kind.OutOfMemory (inr h) = tt
refuses (y ∷ ks) x k (inr h) = refl

module _ (a : App) (is : a ≡ bin65) (args : List Text) where
  -- if clap returns matches, they are the result
  pub takes_words : (m : ArgMatches) → (is_simple_and_free a ≡ true → fault_of a args ≡ []) → HasMatchesOf a args m → clap_matches args ≡ Ok (subcommand_rows_of m)
  unfolding clap_matches
  takes_words m none has =
      let free : is_simple_and_free a ≡ true = ap is_simple_and_free is ∙ bin65_free in
      let simple : is_simple a ≡ true = ap is_simple is ∙ bin65_simple in
      takes_all (fault_of bin65 args) (subcommand_of bin65 args) (subcommand_rows_of m)
      (ap (λ (b : App). fault_of b args) (sym is) ∙ none free)
      ((has simple).1 ∙ ap (λ (b : App). subcommand_of b args) is)

  -- if clap returns an error, it is the result, unless memory ran out
  pub refuses_words : (e : Error) → (is_simple_and_free a ≡ true → HasKind (fault_of a args) e) → RefinesErr is_system_error (of_kind (kind_of e)) (clap_matches args)
  unfolding clap_matches
  refuses_words e has =
      let free : is_simple_and_free a ≡ true = ap is_simple_and_free is ∙ bin65_free in
      let at : HasKind (fault_of bin65 args) e = subst (λ (b : App). HasKind (fault_of b args) e) is (has free) in
      refuses (fault_of bin65 args) (subcommand_of bin65 args) (kind_of e) at

-- an error of the arguments is an error of their command line
pub refused_line : (args : List Text) (e : LineFault) → RefinesErr is_system_error e (clap_matches args) → RefinesErr is_system_error e (line_of args)
unfolding line_of
refused_line args e refused = grind (arith, common_steps)
