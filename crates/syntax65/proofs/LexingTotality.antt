-- Each line has a result: at each position there is an end, a token or an error.
use Rattle.std.proofs.lemmas.Grind.{common_steps}
use Rattle.std.proofs.Common.{◌≡◌, ◌⊎◌, inl, inr, ℕ, zero, suc, ◌<◌, ◌≤◌, Bool, true, false, List, [], ◌∷◌, length, take, drop, Option, Some, None, refl, sym, ap, subst, ◌∙◌, arith, IsTrue, eqb, eq-eqb, nat_le}
use Rattle.std.specs.Prelude.{Result, Ok, Err}
use Rattle.std.specs.List.{list_all, prefix_len}
use Rattle.std.specs.Str.{bytes_eq}
use Rattle.std.proofs.lemmas.Bool.Decides.{nat_tests}
use Rattle.std.proofs.lemmas.List.{length-take-le, length-drop}
use Rattle.std.proofs.lemmas.Slice.Eq.{bytes_eq-Decides}
use Rattle.syntax65.specs.Forms.{class_of, is_blank, is_identifier_byte, AreIdentifierBytes, IsName, IsRunOf, ClosesString, IsSizeLetter, spelling, IsForm, HasNoColonOrEqual, IsAllowedInContext, TokenMatchesAt, IsLongest, HasNoMatch, name_in, number_of, IsToken, BeginsWithClass, HasFaultAt}
use Rattle.syntax65.specs.Tokens.{Lexeme, without_leading_blanks, IsEnd, IsNextToken, HasTokens, IsRead}
use Rattle.base65.specs.SystemErrors.{IsNoSystemError}
use Rattle.syntax65.specs.Faults.{is_lex_system_error}
use Rattle.syntax65.specs.Laws.{NextTokenExists, LexingExists}
use Rattle.syntax65.specs.declared.lexing.positions.Class.{Class}
use Rattle.syntax65.specs.declared.lexing.positions.Class.TheVariants.{Letter, Digit, Radix, At, Dot, Apostrophe, Quote, Colon, Semicolon, Blank, Other}
use Rattle.syntax65.specs.declared.lexing.tokens.AddressSize.{AddressSize}
use Rattle.syntax65.specs.declared.lexing.tokens.AddressSize.TheVariants.{ZeroPage, Absolute}
use Rattle.syntax65.specs.declared.lexing.tokens.Punctuation.{Punctuation}
use Rattle.syntax65.specs.declared.lexing.tokens.Token.{Token}
use Rattle.syntax65.specs.declared.lexing.tokens.TokenKind.{TokenKind}
use Rattle.syntax65.specs.declared.lexing.tokens.TokenKind.TheVariants.{Identifier, CheapName, Directive, Number, Character, StringLiteral, Unnamed, SizePrefix, Symbol}
use Rattle.syntax65.specs.declared.lexing.tokens.LexFault.{LexFault}
use Rattle.syntax65.specs.declared.lexing.tokens.LexFault.TheVariants.{OutOfMemory, BadCharacter, BadNumber, StringNotClosed, LineTooLong, NameTooLong}
use Rattle.syntax65.proofs.FirstToken.{Following, following, empty, eqb_is}
use Rattle.syntax65.proofs.UniqueKind.{bare, mark_of, one_form, spelled_back}

-- ---- Decidable properties.

abbrev pub Decided : Type 0 → Type 0
Decided P = P ⊎ (P → ⊥)

pub either : {A : Type 0} (b : Bool) → (b ≡ true → A) → (b ≡ false → A) → A
either true f g = f refl
either false f g = g refl

is_true : (b : Bool) → Decided (IsTrue b)
is_true b = either b (λ e. inl e) (λ e. inr (λ h. cc))

pub is_same : (a b : ℕ) → Decided (a ≡ b)
is_same a b = either (eqb a b) (λ e. inl (eqb_is a b e)) (λ e. inr (λ h. (let same : eqb a b ≡ true = eq-eqb a b h in cc)))

pub same_class : (c d : Class) → Decided (c ≡ d)
same_class Letter Letter = inl refl
same_class Digit Digit = inl refl
same_class Radix Radix = inl refl
same_class At At = inl refl
same_class Dot Dot = inl refl
same_class Apostrophe Apostrophe = inl refl
same_class Quote Quote = inl refl
same_class Colon Colon = inl refl
same_class Semicolon Semicolon = inl refl
same_class Blank Blank = inl refl
same_class Other Other = inl refl
same_class _ _ = inr (λ e. cc)

same_bytes : (xs ys : List ℕ) → Decided (xs ≡ ys)
same_bytes xs ys = either (bytes_eq xs ys) (λ e. inl ((bytes_eq-Decides xs ys).0 e)) (λ e. inr (λ h. (let same : bytes_eq xs ys ≡ true = (bytes_eq-Decides xs ys).1 h in cc)))

both : {P Q : Type 0} → Decided P → Decided Q → Decided (P × Q)
both (inl p) (inl q) = inl (p, q)
both (inl p) (inr n) = inr (λ h. n h.1)
both (inr n) q = inr (λ h. n h.0)

one_of : {P Q : Type 0} → Decided P → Decided Q → Decided (P ⊎ Q)
one_of (inl p) q = inl (inl p)
one_of (inr n) (inl q) = inl (inr q)
one_of (inr n) (inr m) = inr (elim [ inl p ↦ n p | inr q ↦ m q ])

opposite : {P : Type 0} → Decided P → Decided (P → ⊥)
opposite (inl p) = inr (λ n. n p)
opposite (inr n) = inl n

-- ---- A text has a form or none.

is_name : (bs : List ℕ) → Decided (IsName bs)
is_name [] = inr (λ h. h)
is_name (b ∷ bs) = both (same_class (class_of b) Letter) (is_true (list_all is_identifier_byte bs))

is_run : (c : ℕ) (bs : List ℕ) → Decided (IsRunOf c bs)
is_run c bs = both (opposite (same_bytes bs [])) (is_true (list_all (λ b. eqb b c) bs))

closes : (bs : List ℕ) → Decided (ClosesString bs)
closes [] = inr (λ h. h)
closes (b ∷ []) = is_same b 34
closes (b ∷ c ∷ bs) = both (opposite (is_same b 34)) (closes (c ∷ bs))

size_letter_of : (b : ℕ) → ((s : AddressSize) × IsSizeLetter s b) ⊎ ((s : AddressSize) → IsSizeLetter s b → ⊥)
size_letter_of b = by (one_of (is_same b 122) (is_same b 90)) (one_of (is_same b 97) (is_same b 65))
  where
    by : Decided (IsSizeLetter ZeroPage b) → Decided (IsSizeLetter Absolute b) → ((s : AddressSize) × IsSizeLetter s b) ⊎ ((s : AddressSize) → IsSizeLetter s b → ⊥)
    by (inl z) a = inl (ZeroPage, z)
    by (inr n) (inl a) = inl (Absolute, a)
    by (inr n) (inr m) = inr (elim [ ZeroPage ↦ n | Absolute ↦ m ])

abbrev HasForm : List ℕ → Type 0
HasForm text = ((k : TokenKind) × IsForm k text) ⊎ ((k : TokenKind) → IsForm k text → ⊥)

mark_form : (text : List ℕ) → ((m : Punctuation) × (text ≡ spelling m)) ⊎ ((m : Punctuation) → text ≡ spelling m → ⊥)
mark_form text = by (same_bytes text (spelling (mark_of text)))
  where
    by : Decided (text ≡ spelling (mark_of text)) → ((m : Punctuation) × (text ≡ spelling m)) ⊎ ((m : Punctuation) → text ≡ spelling m → ⊥)
    by (inl e) = inl (mark_of text, e)
    by (inr n) = inr (λ m e. n (e ∙ ap spelling (sym (ap mark_of e ∙ spelled_back m))))

module _ (b : ℕ) (bs : List ℕ) where
  -- a first byte whose class allows no form with the bytes after it
  none_after : (c : Class) → class_of b ≡ c → ((k : TokenKind) → IsForm k (b ∷ bs) → Following c k bs → ⊥) → HasForm (b ∷ bs)
  none_after c e none = inr (λ k h. none k h (subst (λ (d : Class). Following d k bs) e (following k b bs h)))

  of_letter : class_of b ≡ Letter → HasForm (b ∷ bs)
  of_letter e = by (is_true (list_all is_identifier_byte bs)) (same_bytes bs (58 ∷ [])) (size_letter_of b)
    where
      never : (AreIdentifierBytes bs → ⊥) → (((s : AddressSize) → IsSizeLetter s b → ⊥) ⊎ (bs ≡ 58 ∷ [] → ⊥)) → (k : TokenKind) → IsForm k (b ∷ bs) → Following Letter k bs → ⊥
      never no_word no_prefix Identifier h w = no_word w
      never no_word (inl none) (SizePrefix s) h w = none s h.0
      never no_word (inr none) (SizePrefix s) h w = none w
      never no_word no_prefix _ h w = w

      by : Decided (AreIdentifierBytes bs) → Decided (bs ≡ 58 ∷ []) → (((s : AddressSize) × IsSizeLetter s b) ⊎ ((s : AddressSize) → IsSizeLetter s b → ⊥)) → HasForm (b ∷ bs)
      by (inl w) p s = inl (Identifier, (e, w))
      by (inr n) (inl p) (inl s) = inl (SizePrefix s.0, (s.1, p))
      by (inr n) (inl p) (inr m) = none_after Letter e (never n (inl m))
      by (inr n) (inr m) s = none_after Letter e (never n (inr m))

  of_digit : class_of b ≡ Digit → HasForm (b ∷ bs)
  of_digit e = by (is_true (list_all is_identifier_byte bs))
    where
      never : (AreIdentifierBytes bs → ⊥) → (k : TokenKind) → IsForm k (b ∷ bs) → Following Digit k bs → ⊥
      never none (Number v) h w = none w
      never none _ h w = w

      by : Decided (AreIdentifierBytes bs) → HasForm (b ∷ bs)
      by (inl w) = inl (Number 0, (rw e tt, w))
      by (inr n) = none_after Digit e (never n)

  of_radix : class_of b ≡ Radix → HasForm (b ∷ bs)
  of_radix e = by (is_true (list_all is_identifier_byte bs))
    where
      never : (AreIdentifierBytes bs → ⊥) → (k : TokenKind) → IsForm k (b ∷ bs) → Following Radix k bs → ⊥
      never none (Number v) h w = none w
      never none _ h w = w

      by : Decided (AreIdentifierBytes bs) → HasForm (b ∷ bs)
      by (inl w) = inl (Number 0, (rw e tt, w))
      by (inr n) = none_after Radix e (never n)

  of_at : class_of b ≡ At → HasForm (b ∷ bs)
  of_at e = by (is_name bs)
    where
      never : (IsName bs → ⊥) → (k : TokenKind) → IsForm k (b ∷ bs) → Following At k bs → ⊥
      never none CheapName h w = none w
      never none _ h w = w

      by : Decided (IsName bs) → HasForm (b ∷ bs)
      by (inl w) = inl (CheapName, (e, w))
      by (inr n) = none_after At e (never n)

  of_dot : class_of b ≡ Dot → HasForm (b ∷ bs)
  of_dot e = by (is_name bs)
    where
      never : (IsName bs → ⊥) → (k : TokenKind) → IsForm k (b ∷ bs) → Following Dot k bs → ⊥
      never none Directive h w = none w
      never none _ h w = w

      by : Decided (IsName bs) → HasForm (b ∷ bs)
      by (inl w) = inl (Directive, (e, w))
      by (inr n) = none_after Dot e (never n)

  of_quote : class_of b ≡ Quote → HasForm (b ∷ bs)
  of_quote e = by (closes bs)
    where
      never : (ClosesString bs → ⊥) → (k : TokenKind) → IsForm k (b ∷ bs) → Following Quote k bs → ⊥
      never none StringLiteral h w = none w
      never none _ h w = w

      by : Decided (ClosesString bs) → HasForm (b ∷ bs)
      by (inl w) = inl (StringLiteral, (e, w))
      by (inr n) = none_after Quote e (never n)

  of_apostrophe : class_of b ≡ Apostrophe → HasForm (b ∷ bs)
  of_apostrophe e = by (character bs)
    where
      character : (xs : List ℕ) → ((c : ℕ) × (xs ≡ c ∷ 39 ∷ [])) ⊎ ((c : ℕ) → xs ≡ c ∷ 39 ∷ [] → ⊥)
      character [] = inr (λ c h. cc)
      character (c ∷ xs) = then (same_bytes xs (39 ∷ []))
        where
          then : Decided (xs ≡ 39 ∷ []) → ((d : ℕ) × (c ∷ xs ≡ d ∷ 39 ∷ [])) ⊎ ((d : ℕ) → c ∷ xs ≡ d ∷ 39 ∷ [] → ⊥)
          then (inl h) = inl (c, ap (λ ys. c ∷ ys) h)
          then (inr n) = inr (λ d h. n (cc))

      never : ((c : ℕ) → bs ≡ c ∷ 39 ∷ [] → ⊥) → (k : TokenKind) → IsForm k (b ∷ bs) → Following Apostrophe k bs → ⊥
      never none (Character c) h w = none c w
      never none _ h w = w

      by : (((c : ℕ) × (bs ≡ c ∷ 39 ∷ [])) ⊎ ((c : ℕ) → bs ≡ c ∷ 39 ∷ [] → ⊥)) → HasForm (b ∷ bs)
      by (inl w) = inl (Character w.0, (e, w.1))
      by (inr n) = none_after Apostrophe e (never n)

  of_colon : class_of b ≡ Colon → HasForm (b ∷ bs)
  of_colon e = by (one_of (is_run 43 bs) (is_run 45 bs)) (mark_form (b ∷ bs))
    where
      never : (IsRunOf 43 bs ⊎ IsRunOf 45 bs → ⊥) → ((m : Punctuation) → b ∷ bs ≡ spelling m → ⊥) → (k : TokenKind) → IsForm k (b ∷ bs) → Following Colon k bs → ⊥
      never no_run no_mark Unnamed h w = no_run w
      never no_run no_mark (Symbol m) h w = no_mark m h
      never no_run no_mark _ h w = w

      by : Decided (IsRunOf 43 bs ⊎ IsRunOf 45 bs) → (((m : Punctuation) × (b ∷ bs ≡ spelling m)) ⊎ ((m : Punctuation) → b ∷ bs ≡ spelling m → ⊥)) → HasForm (b ∷ bs)
      by (inl w) m = inl (Unnamed, (e, w))
      by (inr n) (inl m) = inl (Symbol m.0, m.1)
      by (inr n) (inr m) = none_after Colon e (never n m)

  of_other : class_of b ≡ Other → HasForm (b ∷ bs)
  of_other e = by (mark_form (b ∷ bs))
    where
      never : ((m : Punctuation) → b ∷ bs ≡ spelling m → ⊥) → (k : TokenKind) → IsForm k (b ∷ bs) → Following Other k bs → ⊥
      never no_mark (Symbol m) h w = no_mark m h
      never no_mark _ h w = w

      by : (((m : Punctuation) × (b ∷ bs ≡ spelling m)) ⊎ ((m : Punctuation) → b ∷ bs ≡ spelling m → ⊥)) → HasForm (b ∷ bs)
      by (inl m) = inl (Symbol m.0, m.1)
      by (inr m) = none_after Other e (never m)

  of_class : (c : Class) → class_of b ≡ c → HasForm (b ∷ bs)
  of_class Letter e = of_letter e
  of_class Digit e = of_digit e
  of_class Radix e = of_radix e
  of_class At e = of_at e
  of_class Dot e = of_dot e
  of_class Apostrophe e = of_apostrophe e
  of_class Quote e = of_quote e
  of_class Colon e = of_colon e
  of_class Semicolon e = none_after Semicolon e (λ k h w. w)
  of_class Blank e = none_after Blank e (λ k h w. w)
  of_class Other e = of_other e

form_of : (text : List ℕ) → HasForm text
form_of [] = inr (λ k h. h)
form_of (b ∷ bs) = of_class b bs (class_of b) refl

-- ---- The longest text of a form at a position.

not_colon_or_equal : (bs : List ℕ) → Decided (HasNoColonOrEqual bs)
not_colon_or_equal [] = inl tt
not_colon_or_equal (b ∷ bs) = both (opposite (is_same b 58)) (opposite (is_same b 61))

is_false : (b : Bool) → Decided (b ≡ false)
is_false true = inr (λ h. cc)
is_false false = inl refl

may_stand : (first : Bool) (k : TokenKind) (bs : List ℕ) → Decided (IsAllowedInContext first k bs)
may_stand first (SizePrefix s) bs = both (is_false first) (not_colon_or_equal bs)
may_stand first _ bs = inl tt

-- whether a token is allowed doesn't depend on the value of its kind
same_stand : (first : Bool) (j k : TokenKind) (bs : List ℕ) → bare j ≡ bare k → IsAllowedInContext first j bs → IsAllowedInContext first k bs
same_stand first j k bs e h = grind (arith, common_steps)

abbrev StandsAny : Bool → ℕ → List ℕ → Type 0
StandsAny first n here = ((k : TokenKind) × TokenMatchesAt first k n here) ⊎ ((k : TokenKind) → TokenMatchesAt first k n here → ⊥)

stands_any : (first : Bool) (n : ℕ) (here : List ℕ) → n ≤ length here → StandsAny first n here
stands_any first n here le = by (form_of (take n here))
  where
    allowed : (k : TokenKind) → IsForm k (take n here) → Decided (IsAllowedInContext first k (drop n here)) → StandsAny first n here
    allowed k f (inl h) = inl (k, record { fits = le; form = f; allowed = h })
    allowed k f (inr never) = inr (λ j s. never (same_stand first j k (drop n here) (one_form j k (take n here) s.form f) s.allowed))

    by : HasForm (take n here) → StandsAny first n here
    by (inl f) = allowed f.0 f.1 (may_stand first f.0 (drop n here))
    by (inr never) = inr (λ k s. never k s.form)

abbrev Longest : Bool → List ℕ → Type 0
Longest first here = ((k : TokenKind) × (n : ℕ) × IsLongest first k n here) ⊎ HasNoMatch first here

abbrev NoneAbove : Bool → ℕ → List ℕ → Type 0
NoneAbove first n here = (j : TokenKind) (m : ℕ) → n < m → TokenMatchesAt first j m here → ⊥

search_down : (first : Bool) (here : List ℕ) (n : ℕ) → n ≤ length here → NoneAbove first n here → Longest first here
search_down first here zero le above = inr (elim_size)
  where
    elim_size : (k : TokenKind) (n : ℕ) → TokenMatchesAt first k n here → ⊥
    elim_size k zero s = empty first k here s
    elim_size k (suc n) s = above k (suc n) (omega arith) s
search_down first here (suc n) le above = by (stands_any first (suc n) here le) (search_down first here n (omega arith))
  where
    below : ((k : TokenKind) → TokenMatchesAt first k (suc n) here → ⊥) → NoneAbove first n here
    below none j m lt s =
        either (eqb m (suc n))
        (λ e. none j (subst (λ (i : ℕ). TokenMatchesAt first j i here) (eqb_is m (suc n) e) s))
        (λ e. above j m (grind (arith, nat_tests)) s)

    by : StandsAny first (suc n) here → (NoneAbove first n here → Longest first here) → Longest first here
    by (inl s) more = inl (s.0, suc n, record { form_matches = s.1; longest = above })
    by (inr none) more = more (below none)

longest_at : (first : Bool) (here : List ℕ) → Longest first here
longest_at first here = search_down first here (length here) (omega arith) (λ j m lt s. (let le = s.fits in absurd (omega arith)))

-- ---- A token, or the error at a position without a token.

abbrev TokenOrFault : Bool → List ℕ → Type 0
TokenOrFault first here = ((k : TokenKind) × (n : ℕ) × IsToken first k n here) ⊎ ((fault : LexFault) × HasFaultAt first here fault)

begins_quote : (here : List ℕ) → Decided (BeginsWithClass Quote here)
begins_quote [] = inr (λ h. h)
begins_quote (b ∷ bs) = same_class (class_of b) Quote

named : (first : Bool) (here : List ℕ) (k : TokenKind) (n : ℕ) → IsLongest first k n here → (length (name_in k (take n here)) ≤ 200 → IsToken first k n here) → TokenOrFault first here
named first here k n l short =
    either (nat_le (length (name_in k (take n here))) 200)
    (λ e. inl (k, n, short (grind (arith, nat_tests))))
    (λ e. (let long : 200 < length (name_in k (take n here)) = grind (arith, nat_tests) in inr (NameTooLong, (k, n, l, long))))

of_number : (first : Bool) (here : List ℕ) (v n : ℕ) → IsLongest first (Number v) n here → (o : Option ℕ) → number_of (take n here) ≡ o → TokenOrFault first here
of_number first here v n l None e = inr (BadNumber, (v, n, l, e))
of_number first here v n l (Some w) e = inl (
  Number w,
  n,
  record {
    longest = record { form_matches = record { fits = l.form_matches.fits; form = same_form (take n here) l.form_matches.form; allowed = tt }; longest = l.longest };
    short = omega arith;
    value = e;
  },
)
  where
    same_form : (text : List ℕ) → IsForm (Number v) text → IsForm (Number w) text
    same_form [] f = f
    same_form (b ∷ bs) f = f

of_longest : (first : Bool) (here : List ℕ) (k : TokenKind) (n : ℕ) → IsLongest first k n here → TokenOrFault first here
of_longest first here (Number v) n l = of_number first here v n l (number_of (take n here)) refl
of_longest first here Identifier n l = named first here Identifier n l (λ short. record { longest = l; short = short; value = tt })
of_longest first here CheapName n l = named first here CheapName n l (λ short. record { longest = l; short = short; value = tt })
of_longest first here Directive n l = named first here Directive n l (λ short. record { longest = l; short = short; value = tt })
of_longest first here (Character c) n l = named first here (Character c) n l (λ short. record { longest = l; short = short; value = tt })
of_longest first here StringLiteral n l = named first here StringLiteral n l (λ short. record { longest = l; short = short; value = tt })
of_longest first here Unnamed n l = named first here Unnamed n l (λ short. record { longest = l; short = short; value = tt })
of_longest first here (SizePrefix s) n l = named first here (SizePrefix s) n l (λ short. record { longest = l; short = short; value = tt })
of_longest first here (Symbol m) n l = named first here (Symbol m) n l (λ short. record { longest = l; short = short; value = tt })

token_or_fault : (first : Bool) (here : List ℕ) → TokenOrFault first here
token_or_fault first here = by (longest_at first here) (begins_quote here)
  where
    by : Longest first here → Decided (BeginsWithClass Quote here) → TokenOrFault first here
    by (inl l) q = of_longest first here l.0 l.1 l.2
    by (inr none) (inl q) = inr (StringNotClosed, (none, q))
    by (inr none) (inr no_quote) = inr (BadCharacter, (none, no_quote))

-- ---- A line.

is_end : (here : List ℕ) → Decided (IsEnd here)
is_end [] = inl tt
is_end (b ∷ bs) = same_class (class_of b) Semicolon

abbrev IsReadFrom : Bool → List ℕ → Type 0
IsReadFrom first line = (ts : List Lexeme) × (end : Option LexFault) × HasTokens first line ts end

token_size : (first : Bool) (k : TokenKind) (n : ℕ) (here : List ℕ) → IsToken first k n here → 0 < n
token_size first k zero here t = absurd (empty first k here t.longest.form_matches)
token_size first k (suc n) here t = omega arith

token_after : (first : Bool) (line : List ℕ) (k : TokenKind) (n : ℕ) → IsToken first k n (without_leading_blanks line) → IsReadFrom false (drop n (without_leading_blanks line)) → IsReadFrom first line
token_after first line k n t rest =
    let here : List ℕ = without_leading_blanks line in
    let within = t.longest.form_matches.fits in
    let size : n ≡ length (take n here) = sym (length-take-le n here within) in (
      (k, take n here) ∷ rest.0,
      rest.1,
      (
        ap (λ m. take m here) size,
        subst (λ (m : ℕ). IsToken first k m here) size t,
        subst (λ (m : ℕ). HasTokens false (drop m here) rest.0 rest.1) size rest.2,
      ),
    )

shorter : (first : Bool) (line : List ℕ) (k : TokenKind) (n size : ℕ) → length line ≤ suc size → IsToken first k n (without_leading_blanks line) → length (drop n (without_leading_blanks line)) ≤ size
shorter first line k n size le t =
    let some = token_size first k n (without_leading_blanks line) t in
    let within = t.longest.form_matches.fits in
    omega (arith, length-drop n (without_leading_blanks line), length-drop (prefix_len is_blank line) line, within)

read_from : (size : ℕ) (first : Bool) (line : List ℕ) → length line ≤ size → IsReadFrom first line
read_from zero first [] le = ([], None, tt)
read_from zero first (b ∷ bs) le = absurd (omega arith)
read_from (suc size) first line le = by (is_end (without_leading_blanks line)) (token_or_fault first (without_leading_blanks line)) (λ n less. read_from size false (drop n (without_leading_blanks line)) less)
  where
    by : Decided (IsEnd (without_leading_blanks line)) → TokenOrFault first (without_leading_blanks line) → ((n : ℕ) → length (drop n (without_leading_blanks line)) ≤ size → IsReadFrom false (drop n (without_leading_blanks line))) → IsReadFrom first line
    by (inl e) t more = ([], None, e)
    by (inr never) (inr f) more = ([], Some f.0, (never, f.1))
    by (inr never) (inl t) more = token_after first line t.0 t.1 t.2 (more t.1 (shorter first line t.0 t.1 size le t.2))

-- no error at a position is `OutOfMemory` or `LineTooLong`
fault_stands : (first : Bool) (line : List ℕ) (ts : List Lexeme) (fault : LexFault) → HasTokens first line ts (Some fault) → (fault ≡ OutOfMemory) ⊎ (fault ≡ LineTooLong) → ⊥
fault_stands first line [] OutOfMemory h e = h.1
fault_stands first line [] LineTooLong h e = h.1
fault_stands first line [] fault h (inl e) = cc
fault_stands first line [] fault h (inr e) = cc
fault_stands first line (t ∷ ts) fault h e = fault_stands false (drop (length t.1) (without_leading_blanks line)) ts fault h.2 e

abbrev HasReading : List ℕ → Type 0
HasReading line = (r : Result (List Lexeme) LexFault) × IsRead line r × IsNoSystemError is_lex_system_error r

lost : (line : List ℕ) → length line ≤ 4096 → (ts : List Lexeme) (fault : LexFault) → HasTokens true line ts (Some fault) → HasReading line
lost line le ts OutOfMemory h = absurd (fault_stands true line ts OutOfMemory h (inl refl))
lost line le ts LineTooLong h = absurd (fault_stands true line ts LineTooLong h (inr refl))
lost line le ts BadCharacter h = (Err BadCharacter, (le, (ts, h)), refl)
lost line le ts BadNumber h = (Err BadNumber, (le, (ts, h)), refl)
lost line le ts StringNotClosed h = (Err StringNotClosed, (le, (ts, h)), refl)
lost line le ts NameTooLong h = (Err NameTooLong, (le, (ts, h)), refl)

read_whole : (line : List ℕ) → length line ≤ 4096 → (ts : List Lexeme) (end : Option LexFault) → HasTokens true line ts end → HasReading line
read_whole line le ts None h = (Ok ts, (le, h), tt)
read_whole line le ts (Some fault) h = lost line le ts fault h

pub some_reading : LexingExists
some_reading line =
    either (nat_le (length line) 4096)
    (λ e. (let r = read_from (length line) true line (omega arith) in read_whole line (grind (arith, nat_tests)) r.0 r.1 r.2))
    (λ e. (Err LineTooLong, grind (arith, nat_tests), refl))

-- ---- The next token of the rest of a line.

abbrev HasNext : Bool → List ℕ → Type 0
HasNext first rest = (r : Result (Option Token) LexFault) × (after : Bool) × (left : List ℕ) × IsNextToken first rest r after left × IsNoSystemError is_lex_system_error r

token_of : TokenKind → List ℕ → Token
token_of k text = record { kind = k; text = record { ref_ptr = (0, 0); now = text } }

next_token : (first : Bool) (rest : List ℕ) (k : TokenKind) (n : ℕ) → IsToken first k n (without_leading_blanks rest) → HasNext first rest
unfolding token_of
next_token first rest k n t =
    let here : List ℕ = without_leading_blanks rest in
    let within = t.longest.form_matches.fits in
    let size : n ≡ length (take n here) = sym (length-take-le n here within) in (
      Ok (Some (token_of k (take n here))),
      false,
      drop n here,
      λ us end more. (
        ap (λ m. take m here) size,
        subst (λ (m : ℕ). IsToken first k m here) size t,
        subst (λ (m : ℕ). HasTokens false (drop m here) us end) size more,
      ),
      tt,
    )

fault_own : (first : Bool) (here : List ℕ) (fault : LexFault) → HasFaultAt first here fault → is_lex_system_error fault ≡ false
fault_own first here OutOfMemory h = absurd h
fault_own first here _ h = refl

pub some_next : NextTokenExists
some_next first rest = by (is_end (without_leading_blanks rest)) (token_or_fault first (without_leading_blanks rest))
  where
    by : Decided (IsEnd (without_leading_blanks rest)) → TokenOrFault first (without_leading_blanks rest) → HasNext first rest
    by (inl e) t = (Ok None, first, rest, e, tt)
    by (inr never) (inr f) = (Err f.0, first, rest, (never, f.1), fault_own first (without_leading_blanks rest) f.0 f.1)
    by (inr never) (inl t) = next_token first rest t.0 t.1 t.2
