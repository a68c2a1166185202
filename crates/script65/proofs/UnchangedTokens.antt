-- Tokens of a text are unchanged if it is cut after them and continues on a new line.
use Rattle.std.proofs.Common.{arith, ◌≡◌, ◌≤◌, ◌<◌, ◌-◌, ℕ, zero, suc, ◌+◌, Bool, true, false, List, [], ◌∷◌, ◌++◌, cond, length, length-drop, take, drop, refl, sym, ap, ◌∙◌, subst}
use Rattle.std.specs.Prelude.{◌==◌, ◌&&◌, not, if◌then◌else◌, ⊤}
use Rattle.std.specs.List.{list_any, prefix_len, take_while}
use Rattle.std.specs.Str.{is_utf8}
use Rattle.std.specs.Char.{is_ascii_digit, is_ascii_hexdigit}
use Rattle.script65.proofs.LongestTokens.{longest_tokens}
use Rattle.script65.proofs.ReadingUniqueness.{some_bytes}
use Rattle.script65.specs.Tokens.{IsLeadingToken, Lexeme, Token, leading_token, gap, begins_with, decimal_after, hex_after, is_blank, is_letter, is_string_byte, is_identifier_byte, punctuator, none, output, string, string_after, the_end, token, token_from, identifier_after}

-- the second text equals the first one up to `n` bytes, and then continues on a new line
pub data Cut : ℕ → List ℕ → List ℕ → Type 0 where
  ends : (xs rest : List ℕ) → Cut 0 xs (10 ∷ rest)
  goes : (n x : ℕ) (xs ys : List ℕ) → Cut n xs ys → Cut (suc n) (x ∷ xs) (x ∷ ys)

pub cut : (n : ℕ) (xs rest : List ℕ) → n ≤ length xs → Cut n xs (take n xs ++ 10 ∷ rest)
cut zero xs rest le = ends xs rest
cut (suc n) [] rest le = absurd (omega arith)
cut (suc n) (x ∷ xs) rest le = goes n x xs (take n xs ++ 10 ∷ rest) (cut n xs rest (omega arith))

pub cut_rest : (n : ℕ) (xs rest : List ℕ) → n ≤ length xs → drop n (take n xs ++ 10 ∷ rest) ≡ 10 ∷ rest
cut_rest zero xs rest le = refl
cut_rest (suc n) [] rest le = absurd (omega arith)
cut_rest (suc n) (x ∷ xs) rest le = cut_rest n xs rest (omega arith)

cut_drop : (k m n : ℕ) (xs ys : List ℕ) → k + m ≡ n → Cut n xs ys → Cut m (drop k xs) (drop k ys)
cut_drop zero m n xs ys e h = let same : n ≡ m = omega arith in subst (λ n. Cut n xs ys) same h
cut_drop (suc k) m _ _ _ e (ends xs rest) = absurd (omega arith)
cut_drop (suc k) m _ _ _ e (goes n x xs ys h) = cut_drop k m n xs ys (omega arith) h

-- ---- Blanks and comments.

gap_kept : (c : Bool) (n : ℕ) (xs ys : List ℕ) → Cut n xs ys → gap c xs < n → gap c ys ≡ gap c xs
gap_kept c _ _ _ (ends xs rest) lt = absurd (omega arith)
gap_kept true _ _ _ (goes n x xs ys h) lt = ap (λ k. 1 + k) (gap_kept (not (x == 10)) n xs ys h (omega arith))
gap_kept false _ _ _ (goes n x xs ys h) lt = by (x == 35) (is_blank x) (λ lt. gap_kept true n xs ys h lt) (λ lt. gap_kept false n xs ys h lt) lt
  where
    by : (u v : Bool) → (gap true xs < n → gap true ys ≡ gap true xs) → (gap false xs < n → gap false ys ≡ gap false xs) → (if u then 1 + gap true xs else if v then 1 + gap false xs else 0) < suc n → (if u then 1 + gap true ys else if v then 1 + gap false ys else 0) ≡ (if u then 1 + gap true xs else if v then 1 + gap false xs else 0)
    by true v in_comment in_gap lt = ap (λ k. 1 + k) (in_comment (omega arith))
    by false true in_comment in_gap lt = ap (λ k. 1 + k) (in_gap (omega arith))
    by false false in_comment in_gap lt = refl

-- ---- Bytes at the beginning.

while_on : (p : ℕ → Bool) (x : ℕ) (xs : List ℕ) → p x ≡ true → take_while p (x ∷ xs) ≡ x ∷ take_while p xs
while_on p x xs h =
    let s : 1 + prefix_len p xs ≡ suc (prefix_len p xs) = omega arith in
    ap (λ b. take (cond b (1 + prefix_len p xs) 0) (x ∷ xs)) h ∙ ap (λ n. take n (x ∷ xs)) s

while_off : (p : ℕ → Bool) (x : ℕ) (xs : List ℕ) → p x ≡ false → take_while p (x ∷ xs) ≡ []
while_off p x xs h = ap (λ b. take (cond b (1 + prefix_len p xs) 0) (x ∷ xs)) h

nothing : (xs : List ℕ) → length xs ≤ 0 → xs ≡ []
nothing [] le = refl
nothing (x ∷ xs) le = absurd (omega arith)

while_kept : (p : ℕ → Bool) → p 10 ≡ false → (n : ℕ) (xs ys : List ℕ) → Cut n xs ys → length (take_while p xs) ≤ n → take_while p ys ≡ take_while p xs
while_kept p line _ _ _ (ends xs rest) le = while_off p 10 rest line ∙ sym (nothing (take_while p xs) le)
while_kept p line _ _ _ (goes n x xs ys h) le = by (p x) refl (λ le. while_kept p line n xs ys h le)
  where
    by : (b : Bool) → p x ≡ b → (length (take_while p xs) ≤ n → take_while p ys ≡ take_while p xs) → take_while p (x ∷ ys) ≡ take_while p (x ∷ xs)
    by true e rest =
        let shorter : length (take_while p xs) ≤ n = omega (arith, ap length (while_on p x xs e)) in
        while_on p x ys e ∙ ap (λ l. x ∷ l) (rest shorter) ∙ sym (while_on p x xs e)
    by false e rest = while_off p x ys e ∙ sym (while_off p x xs e)

begins_kept : (c k n : ℕ) (xs ys : List ℕ) → Cut n xs ys → k < n → begins_with c (drop k ys) ≡ begins_with c (drop k xs)
begins_kept c k _ _ _ (ends xs rest) lt = absurd (omega arith)
begins_kept c zero _ _ _ (goes n x xs ys h) lt = refl
begins_kept c (suc k) _ _ _ (goes n x xs ys h) lt = begins_kept c k n xs ys h (omega arith)

-- ---- Tokens.

-- a token that is neither the end nor a byte with which no token begins
abbrev pub IsSolid : Lexeme → Type 0
IsSolid the_end = ⊥
IsSolid none = ⊥
IsSolid _ = ⊤

front_kept : (n : ℕ) (xs ys : List ℕ) → Cut n xs ys → (leading_token xs).1 ≤ n → IsSolid (leading_token xs).0 → leading_token ys ≡ leading_token xs
front_kept _ _ _ (ends [] rest) le solid = absurd solid
front_kept _ _ _ (ends (x ∷ xs) rest) le solid = absurd (omega (arith, some_bytes x xs))
front_kept _ _ _ (goes n x xs ys h) le solid = by (is_letter x) (is_ascii_digit x) (x == 36) (x == 34) (x == 37) le solid
  where
    hexes : (ds : List ℕ) → take_while is_ascii_hexdigit xs ≡ ds → (hex_after ds).1 ≤ suc n → IsSolid (hex_after ds).0 → hex_after (take_while is_ascii_hexdigit ys) ≡ hex_after ds
    hexes [] e le solid = absurd solid
    hexes (d ∷ ds) e le solid = ap hex_after (while_kept is_ascii_hexdigit refl n xs ys h (omega (arith, ap length e)) ∙ e)

    closed : List ℕ → List ℕ → Bool
    closed text bs = begins_with 34 (drop (length text) bs) && is_utf8 text && not (list_any (λ b. b == 37) text)

    strings : (c : Bool) → closed (take_while is_string_byte xs) xs ≡ c → (if◌then◌else◌ {A = Lexeme × ℕ} c (string (take_while is_string_byte xs), 2 + length (take_while is_string_byte xs)) (none, 1)).1 ≤ suc n → IsSolid (if◌then◌else◌ {A = Lexeme × ℕ} c (string (take_while is_string_byte xs), 2 + length (take_while is_string_byte xs)) (none, 1)).0 → string_after (take_while is_string_byte ys) ys ≡ (if c then (string (take_while is_string_byte xs), 2 + length (take_while is_string_byte xs)) else (none, 1))
    strings false e le solid = absurd solid
    strings true e le solid =
        let same = while_kept is_string_byte refl n xs ys h (omega arith) in
        let closes : begins_with 34 (drop (length (take_while is_string_byte xs)) ys) ≡ begins_with 34 (drop (length (take_while is_string_byte xs)) xs) = begins_kept 34 (length (take_while is_string_byte xs)) n xs ys h (omega arith) in
        ap (λ text. string_after text ys) same
        ∙ ap (λ b. if b && is_utf8 (take_while is_string_byte xs) && not (list_any (λ b. b == 37) (take_while is_string_byte xs)) then (string (take_while is_string_byte xs), 2 + length (take_while is_string_byte xs)) else (none, 1)) closes
        ∙ ap (λ b. if b then (string (take_while is_string_byte xs), 2 + length (take_while is_string_byte xs)) else (none, 1)) e

    outputs : (c : Bool) → begins_with 79 xs ≡ c → (if◌then◌else◌ {A = Lexeme × ℕ} c (output, 2) (none, 1)).1 ≤ suc n → IsSolid (if◌then◌else◌ {A = Lexeme × ℕ} c (output, 2) (none, 1)).0 → (if◌then◌else◌ {A = Lexeme × ℕ} (begins_with 79 ys) (output, 2) (none, 1)) ≡ (if c then (output, 2) else (none, 1))
    outputs false e le solid = absurd solid
    outputs true e le solid = ap (λ b. if◌then◌else◌ {A = Lexeme × ℕ} b (output, 2) (none, 1)) (begins_kept 79 0 n xs ys h (omega arith) ∙ e)

    answer : List ℕ → Bool → Bool → Bool → Bool → Bool → Lexeme × ℕ
    answer bs a b c d e =
        if a then identifier_after x (take_while is_identifier_byte bs)
        else if b then decimal_after x (take_while is_ascii_digit bs)
        else if c then hex_after (take_while is_ascii_hexdigit bs)
        else if d then string_after (take_while is_string_byte bs) bs
        else if e then (if begins_with 79 bs then (output, 2) else (none, 1))
        else (punctuator x, 1)

    by : (a b c d e : Bool) → (answer xs a b c d e).1 ≤ suc n → IsSolid (answer xs a b c d e).0 → answer ys a b c d e ≡ answer xs a b c d e
    by true b c d e le solid = ap (identifier_after x) (while_kept is_identifier_byte refl n xs ys h (omega arith))
    by false true c d e le solid = ap (decimal_after x) (while_kept is_ascii_digit refl n xs ys h (omega arith))
    by false false true d e le solid = hexes (take_while is_ascii_hexdigit xs) refl le solid
    by false false false true e le solid = strings (closed (take_while is_string_byte xs) xs) refl le solid
    by false false false false true le solid = outputs (begins_with 79 xs) refl le solid
    by false false false false false le solid = refl

-- such a token has at least one byte, and ends within the text
solid_some : (here : List ℕ) → IsSolid (leading_token here).0 → 0 < (leading_token here).1
solid_some [] solid = absurd solid
solid_some (b ∷ bs) solid = some_bytes b bs

solid_within : (here : List ℕ) → IsSolid (leading_token here).0 → (leading_token here).1 ≤ length here
solid_within here = by (leading_token here).0 (leading_token here).1 (longest_tokens here)
  where
    by : (l : Lexeme) (n : ℕ) → IsLeadingToken here l n → IsSolid l → n ≤ length here
    by the_end n h solid = absurd solid
    by none n h solid = absurd solid
    by _ n h solid = h.within

pub token_within : (bytes : List ℕ) (at : ℕ) → at ≤ length bytes → IsSolid (token bytes at).lexeme → ((token bytes at).following ≤ length bytes) × (at < (token bytes at).following)
unfolding token
token_within bytes at le solid =
    let p = at + gap false (drop at bytes) in
    let long = solid_within (drop p bytes) solid in
    let some = solid_some (drop p bytes) solid in
    (omega (arith, length-drop p bytes), omega arith)

pub token_kept : (bytes other : List ℕ) (at n : ℕ) → Cut n bytes other → (token bytes at).following ≤ n → IsSolid (token bytes at).lexeme → token other at ≡ token bytes at
unfolding token
token_kept bytes other at n h le solid =
    let g = gap false (drop at bytes) in
    let p = at + g in
    let some = solid_some (drop p bytes) solid in
    let left : at + (n - at) ≡ n = omega arith in
    let left_there : p + (n - p) ≡ n = omega arith in
    let same_gap : gap false (drop at other) ≡ g = gap_kept false (n - at) (drop at bytes) (drop at other) (cut_drop at (n - at) n bytes other left h) (omega arith) in
    let same_front : leading_token (drop p other) ≡ leading_token (drop p bytes) = front_kept (n - p) (drop p bytes) (drop p other) (cut_drop p (n - p) n bytes other left_there h) (omega arith) solid in
    ap (λ k. token_from other (at + k)) same_gap ∙ ap (λ (f : Lexeme × ℕ). let t : Token = record { lexeme = f.0; at = p; following = p + f.1 } in t) same_front
