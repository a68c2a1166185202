use Rattle.std.proofs.Common.{refl, ◌≡◌, Bool, true, false, List, ℕ}
use Rattle.std.proofs.lemmas.Str.{IsUtf8-from_is_utf8, is_utf8-from_IsUtf8}
use Rattle.std.proofs.Output.{has_written_of_eq}
use Rattle.std.specs.Prelude.{encode_utf8_all}
use Rattle.std.specs.Str.{is_utf8}
use Rattle.library65.specs.Fault.{name_text}
use Rattle.library65.proofs.fault.NameDisplayDisplay.fmt.Goals as goal

is_text : (name text : List ℕ) → text ≡ name → is_utf8 name ≡ true → text ≡ name_text name
is_text name text same is = rw is same

no_text : (name : List ℕ) (b : Bool) → is_utf8 name ≡ b → (b ≡ true → ⊥) → encode_utf8_all name ≡ name_text name
no_text name true is never = absurd (never refl)
no_text name false is never = rw is refl

pub returns-in-Ok-clause-writes : goal.returns-in-Ok-clause-writes
returns-in-Ok-clause-writes g c = λ p ok. has_written_of_eq _ _ _ _ _ (is_text c.args.self.now.0.now c.in-Ok.text.now c.in-Ok.ensures.cases.0 (is_utf8-from_IsUtf8 _ c.in-Ok.ensures.cases.1)) (c.write_str.ensures.writes p ok)

pub returns-in-Err-clause-writes : goal.returns-in-Err-clause-writes
returns-in-Err-clause-writes g c = λ p ok. has_written_of_eq _ _ _ _ _ (no_text c.args.self.now.0.now (is_utf8 c.args.self.now.0.now) refl (λ is. c.in-Err.ensures.cases.0 (IsUtf8-from_is_utf8 _ is))) (c.write.ensures.writes p ok)
