-- Names as they are printed.
use Rattle.std.proofs.Common.{◌≡◌, ◌<◌, ℕ, ◌+◌, List, [], ◌∷◌, ◌++◌, length, take, get_or, sym, ap, ◌∙◌, add-one, append_assoc}
use Rattle.std.specs.Prelude.{encode_utf8, encode_utf8_all}
use Rattle.std.proofs.lemmas.List.{append-nil}
use Rattle.std.proofs.Math.Seq.{take-suc}

encode-push : (xs : List ℕ) (c : ℕ) → encode_utf8_all xs ++ encode_utf8 c ≡ encode_utf8_all (xs ++ c ∷ [])
encode-push [] c = sym (append-nil (encode_utf8 c))
encode-push (x ∷ xs) c = append_assoc (encode_utf8 x) (encode_utf8_all xs) (encode_utf8 c) ∙ ap (λ l. encode_utf8 x ++ l) (encode-push xs c)

-- appending the encoding of the next byte
pub encode-more : (name : List ℕ) (i c : ℕ) → i < length name → c ≡ get_or name i 0 → encode_utf8_all (take i name) ++ encode_utf8 c ≡ encode_utf8_all (take (i + 1) name)
encode-more name i c lt e =
    ap (λ d. encode_utf8_all (take i name) ++ encode_utf8 d) e
    ∙ encode-push (take i name) (get_or name i 0)
    ∙ ap encode_utf8_all (sym (rw add-one (take-suc name i 0 lt)))
