-- The list of all mnemonics, and the mnemonic that bytes spell.
use Rattle.std.proofs.Common.{◌≡◌, ℕ, ◌<◌, get_or, refl, lit<, ◌≢◌, ◌∙◌, zero, suc, Bool, true, false, cond, List, [], ◌∷◌, length, map, find, Option, Some, None, MatchOption, sym, ap, subst, arith}
use Rattle.syntax65.specs.declared.instructions.names.Mnemonic.{Mnemonic}
use Rattle.syntax65.specs.declared.instructions.names.Mnemonic.TheVariants.{Adc, And, Asl, Bcc, Bcs, Beq, Bit, Bmi, Bne, Bpl, Brk, Bvc, Bvs, Clc, Cld, Cli, Clv, Cmp, Cpx, Cpy, Dec, Dex, Dey, Eor, Inc, Inx, Iny, Jmp, Jsr, Lda, Ldx, Ldy, Lsr, Nop, Ora, Pha, Php, Pla, Plp, Rol, Ror, Rti, Rts, Sbc, Sec, Sed, Sei, Sta, Stx, Sty, Tax, Tay, Tsx, Txa, Txs, Tya}
use Rattle.syntax65.specs.declared.instructions.names.TheConstants.Mnemonic.{ALL}
use Rattle.std.proofs.lemmas.Grind.{common_steps}
use Rattle.std.specs.Prelude.{nat_eq}
use Rattle.std.specs.Char.{to_ascii_lowercase}
use Rattle.std.specs.Str.{str_eq_ignore_ascii_case}
use Rattle.std.proofs.lemmas.List.{length-map}
use Rattle.std.specs.Cmp.Lexicographic.{pointwise, same_text, other_text}
use Rattle.syntax65.specs.Mnemonics.{SpellsMnemonic, name_of, mnemonic_of}
use Rattle.syntax65.specs.Forms.{IsFound}

-- ---- The list of all mnemonics is complete.

-- each mnemonic is in the list of all mnemonics
pub place_of : (m : Mnemonic) → (i : ℕ) × (i < 56) × ((d : Mnemonic) → get_or ALL i d ≡ m)
place_of Adc = (0, lit< tt, λ d. refl)
place_of And = (1, lit< tt, λ d. refl)
place_of Asl = (2, lit< tt, λ d. refl)
place_of Bcc = (3, lit< tt, λ d. refl)
place_of Bcs = (4, lit< tt, λ d. refl)
place_of Beq = (5, lit< tt, λ d. refl)
place_of Bit = (6, lit< tt, λ d. refl)
place_of Bmi = (7, lit< tt, λ d. refl)
place_of Bne = (8, lit< tt, λ d. refl)
place_of Bpl = (9, lit< tt, λ d. refl)
place_of Brk = (10, lit< tt, λ d. refl)
place_of Bvc = (11, lit< tt, λ d. refl)
place_of Bvs = (12, lit< tt, λ d. refl)
place_of Clc = (13, lit< tt, λ d. refl)
place_of Cld = (14, lit< tt, λ d. refl)
place_of Cli = (15, lit< tt, λ d. refl)
place_of Clv = (16, lit< tt, λ d. refl)
place_of Cmp = (17, lit< tt, λ d. refl)
place_of Cpx = (18, lit< tt, λ d. refl)
place_of Cpy = (19, lit< tt, λ d. refl)
place_of Dec = (20, lit< tt, λ d. refl)
place_of Dex = (21, lit< tt, λ d. refl)
place_of Dey = (22, lit< tt, λ d. refl)
place_of Eor = (23, lit< tt, λ d. refl)
place_of Inc = (24, lit< tt, λ d. refl)
place_of Inx = (25, lit< tt, λ d. refl)
place_of Iny = (26, lit< tt, λ d. refl)
place_of Jmp = (27, lit< tt, λ d. refl)
place_of Jsr = (28, lit< tt, λ d. refl)
place_of Lda = (29, lit< tt, λ d. refl)
place_of Ldx = (30, lit< tt, λ d. refl)
place_of Ldy = (31, lit< tt, λ d. refl)
place_of Lsr = (32, lit< tt, λ d. refl)
place_of Nop = (33, lit< tt, λ d. refl)
place_of Ora = (34, lit< tt, λ d. refl)
place_of Pha = (35, lit< tt, λ d. refl)
place_of Php = (36, lit< tt, λ d. refl)
place_of Pla = (37, lit< tt, λ d. refl)
place_of Plp = (38, lit< tt, λ d. refl)
place_of Rol = (39, lit< tt, λ d. refl)
place_of Ror = (40, lit< tt, λ d. refl)
place_of Rti = (41, lit< tt, λ d. refl)
place_of Rts = (42, lit< tt, λ d. refl)
place_of Sbc = (43, lit< tt, λ d. refl)
place_of Sec = (44, lit< tt, λ d. refl)
place_of Sed = (45, lit< tt, λ d. refl)
place_of Sei = (46, lit< tt, λ d. refl)
place_of Sta = (47, lit< tt, λ d. refl)
place_of Stx = (48, lit< tt, λ d. refl)
place_of Sty = (49, lit< tt, λ d. refl)
place_of Tax = (50, lit< tt, λ d. refl)
place_of Tay = (51, lit< tt, λ d. refl)
place_of Tsx = (52, lit< tt, λ d. refl)
place_of Txa = (53, lit< tt, λ d. refl)
place_of Txs = (54, lit< tt, λ d. refl)
place_of Tya = (55, lit< tt, λ d. refl)

-- ---- A mnemonic is found if and only if the bytes spell it.

-- the names are in lower case
lower_name : (m : Mnemonic) → map to_ascii_lowercase (name_of m) ≡ name_of m
lower_name x = grind (arith, common_steps)

test_of_same : (b : Bool) (xs ys : List ℕ) → b ≡ pointwise nat_eq xs ys → xs ≡ ys → b ≡ true
test_of_same true xs ys e h = refl
test_of_same false xs ys e h = absurd (other_text xs ys e h)

abbrev is_spelled : List ℕ → Mnemonic → Bool
is_spelled bytes m = str_eq_ignore_ascii_case bytes (name_of m)

spells_from_test : (bytes : List ℕ) (m : Mnemonic) → is_spelled bytes m ≡ true → SpellsMnemonic bytes m
spells_from_test bytes m e = same_text _ _ (sym e) ∙ lower_name m

test_from_spells : (bytes : List ℕ) (m : Mnemonic) → SpellsMnemonic bytes m → is_spelled bytes m ≡ true
test_from_spells bytes m h = test_of_same _ _ _ refl (h ∙ sym (lower_name m))

first_step : (p : Mnemonic → Bool) (m : Mnemonic) (rest : Option Mnemonic) (b : Bool) → p m ≡ b → MatchOption rest (Unit {0}) (λ n. p n ≡ true) → MatchOption (cond b (Some m) rest) (Unit {0}) (λ n. p n ≡ true)
first_step p m rest true e h = e
first_step p m rest false e h = h

-- a mnemonic that is found satisfies the predicate
found_passes : (p : Mnemonic → Bool) (xs : List Mnemonic) → MatchOption (find p xs) (Unit {0}) (λ n. p n ≡ true)
found_passes p [] = tt
found_passes p (x ∷ xs) = first_step p x (find p xs) (p x) refl (found_passes p xs)

none_step : (p : Mnemonic → Bool) (x : Mnemonic) (xs : List Mnemonic) (b : Bool) → p x ≡ b → cond b (Some x) (find p xs) ≡ None → (p x ≡ false) × (find p xs ≡ None)
none_step p x xs true e h = absurd (cc)
none_step p x xs false e h = (e, h)

-- if no mnemonic is found, none satisfies the predicate
none_passes : (p : Mnemonic → Bool) (xs : List Mnemonic) (i : ℕ) (d : Mnemonic) → find p xs ≡ None → i < length xs → p (get_or xs i d) ≡ false
none_passes p [] i d e lt = absurd (omega arith)
none_passes p (x ∷ xs) zero d e lt = (none_step p x xs (p x) refl e).0
none_passes p (x ∷ xs) (suc i) d e lt = none_passes p xs i d (none_step p x xs (p x) refl e).1 (omega arith)

both : (r : Option Mnemonic) (bytes : List ℕ) → r ≡ find (is_spelled bytes) ALL → IsFound (SpellsMnemonic bytes) r
both None bytes e = grind (arith, common_steps, place_of, none_passes, test_from_spells)
both (Some m) bytes e = spells_from_test bytes m (subst (λ (r : Option Mnemonic). MatchOption r (Unit {0}) (λ n. is_spelled bytes n ≡ true)) (sym e) (found_passes (is_spelled bytes) ALL))

-- a mnemonic is found if and only if the bytes spell it
pub spelled_both_ways : (bytes : List ℕ) → IsFound (SpellsMnemonic bytes) (mnemonic_of bytes)
unfolding mnemonic_of
spelled_both_ways bytes = both (mnemonic_of bytes) bytes refl

one_spelled : (r q : Option Mnemonic) (bytes : List ℕ) → IsFound (SpellsMnemonic bytes) r → IsFound (SpellsMnemonic bytes) q → r ≡ q
one_spelled x y bytes h k = grind (arith, common_steps)

-- the mnemonic that the bytes spell is found
pub is_found : (r : Option Mnemonic) (bytes : List ℕ) → IsFound (SpellsMnemonic bytes) r → r ≡ mnemonic_of bytes
is_found r bytes h = one_spelled r (mnemonic_of bytes) bytes h (spelled_both_ways bytes)

spelled_by_name : (r : Option Mnemonic) (bytes : List ℕ) → IsFound (λ m. map to_ascii_lowercase bytes ≡ name_of m) r → IsFound (SpellsMnemonic bytes) r
spelled_by_name x bytes h = grind (arith, common_steps)

-- the case of three letters
pub of_three : (r : Option Mnemonic) (bytes : List ℕ) (a b c : ℕ) → length bytes ≡ 3 → a ≡ to_ascii_lowercase (get_or bytes 0 0) → b ≡ to_ascii_lowercase (get_or bytes 1 0) → c ≡ to_ascii_lowercase (get_or bytes 2 0) → IsFound (λ m. a ∷ b ∷ c ∷ [] ≡ name_of m) r → r ≡ mnemonic_of bytes
of_three r [] a b c len ea eb ec h = absurd (omega (arith, len))
of_three r (x ∷ []) a b c len ea eb ec h = absurd (omega (arith, len))
of_three r (x ∷ y ∷ []) a b c len ea eb ec h = absurd (omega (arith, len))
of_three r (x ∷ y ∷ z ∷ []) a b c len ea eb ec h =
    let same : a ∷ b ∷ c ∷ [] ≡ map to_ascii_lowercase (x ∷ y ∷ z ∷ []) = cc in
    is_found r _ (spelled_by_name r (x ∷ y ∷ z ∷ []) (subst (λ l. IsFound (λ m. l ≡ name_of m) r) same h))
of_three r (x ∷ y ∷ z ∷ w ∷ l) a b c len ea eb ec h = absurd (omega (arith, len))

three_letters : (m : Mnemonic) → length (name_of m) ≡ 3
three_letters x = grind (arith, common_steps)

-- bytes of any other length spell no mnemonic
pub of_others : (bytes : List ℕ) → length bytes ≢ 3 → None ≡ mnemonic_of bytes
of_others bytes len = is_found None bytes (λ m h. len (sym (length-map bytes to_ascii_lowercase) ∙ ap length h ∙ three_letters m))
