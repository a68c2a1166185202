-- Names as they are printed.
use Rattle.std.proofs.lemmas.Grind.{common_steps}
use Rattle.std.proofs.Common.{arith, ◌≡◌, ◌∙◌, ◌<◌, ℕ, ◌+◌, List, [], ◌∷◌, ◌++◌, length, take, get_or, sym, ap, append_assoc}
use Rattle.std.proofs.Math.Seq.{take-suc}
use Rattle.std.specs.Prelude.{encode_utf8, encode_utf8_all}
use Rattle.std.proofs.lemmas.List.{append-nil}

encode-push : (xs : List ℕ) (c : ℕ) → encode_utf8_all xs ++ encode_utf8 c ≡ encode_utf8_all (xs ++ c ∷ [])
encode-push [] c = sym (append-nil (encode_utf8 c))
encode-push (x ∷ xs) c = append_assoc (encode_utf8 x) (encode_utf8_all xs) (encode_utf8 c) ∙ ap (λ l. encode_utf8 x ++ l) (encode-push xs c)

-- one further byte
pub encode-more : (name : List ℕ) (i c : ℕ) → i < length name → c ≡ get_or name i 0 → encode_utf8_all (take i name) ++ encode_utf8 c ≡ encode_utf8_all (take (i + 1) name)
encode-more name i c lt e = grind (arith, common_steps, encode-push, take-suc)
