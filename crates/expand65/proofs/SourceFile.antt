-- A source is the file with its name, if the name is UTF-8.
use Rattle.std.proofs.Common.{◌≡◌, ℕ, true, List, Option, Some, None, Result, Ok, refl, sym, subst, IfSome}
use Rattle.std.specs.FinMap as fmap
use Rattle.std.specs.Str.{IsUtf8, is_utf8}
use Rattle.std.proofs.lemmas.Str.{is_utf8-from_IsUtf8}
use Rattle.base65.specs.Outcome.{◌>>=◌}
use Rattle.base65.specs.Store.{Files}
use Rattle.syntax65.specs.declared.fault.ExpandFault.{ExpandFault}
use Rattle.expand65.specs.declared.expander.Expander.{Expander}
use Rattle.expand65.specs.Expansion.{bytes_in, file_named, first_state, first_state_in}
use Rattle.expand65.specs.Representation.{RepresentsFirstState}

named_text : (m : Files) (name : List ℕ) → IsUtf8 name → file_named m name ≡ fmap.get m name
named_text m name text = let yes : is_utf8 name ≡ true = is_utf8-from_IsUtf8 name text in rw yes refl

pub opened_text : (o : Option Files) (name : List ℕ) (folders : List (List ℕ)) (r : Result Expander ExpandFault) → IsUtf8 name → IfSome o (λ m. RepresentsFirstState m r (bytes_in (fmap.get m name) >>= (λ bytes. Ok (first_state name folders bytes)))) → IfSome o (λ m. RepresentsFirstState m r (first_state_in m name folders))
opened_text None name folders r text h = tt
opened_text (Some m) name folders r text h =
    subst (λ (b : Option (List ℕ)). RepresentsFirstState m r (bytes_in b >>= (λ bytes. Ok (first_state name folders bytes)))) (sym (named_text m name text)) h
