-- The token at the beginning of some bytes is the longest text of a form there.
use Rattle.std.proofs.Common.{◌≡◌, ◌∙◌, ℕ, ◌<◌, false, map, get_or, refl, ap, arith, ◌≢◌, ◌⊎◌, zero, suc, ◌+◌, ◌≤◌, Bool, true, cond, List, [], ◌∷◌, length, take, drop, sym, subst, eqb}
use Rattle.std.proofs.lemmas.List.FromFn.{get_or-map-range_with_len}
use Rattle.std.specs.List.{range_with_len, prefix_len, list_all}
use Rattle.syntax65.specs.Forms.{is_identifier_byte, class_of, is_no_quote, AreIdentifierBytes, IsName, IsRunOf, ClosesString, StartsNumber, IsSizeLetter, spelling, IsForm, TokenMatchesAt, IsLongest, HasNoMatch, BeginsWithClass, HasFaultAt, name_in, HasValue}
use Rattle.syntax65.specs.declared.lexing.positions.TheConstants.{IDENTIFIER_BYTES}
use Rattle.std.proofs.lemmas.Grind.{common_steps}
use Rattle.std.specs.Prelude.{◌&&◌, ⊤}
use Rattle.std.proofs.lemmas.Bool.Decides.{nat_tests}
use Rattle.std.proofs.lemmas.List.{length-take-le, length-drop}
use Rattle.std.proofs.lemmas.List.Sums.{prefix_len-le-length}
use Rattle.syntax65.specs.Internal.Positions.{BeginsNumber, BeginsWithPrefix, HasNoSign}
use Rattle.syntax65.specs.declared.lexing.positions.Class.{Class}
use Rattle.syntax65.specs.declared.lexing.positions.Class.TheVariants.{Letter, Digit, Radix, At, Dot, Apostrophe, Quote, Colon, Other}
use Rattle.syntax65.specs.declared.lexing.tokens.AddressSize.{AddressSize}
use Rattle.syntax65.specs.declared.lexing.tokens.Punctuation.{Punctuation}
use Rattle.syntax65.specs.declared.lexing.tokens.Punctuation.TheVariants.{Scope, Define}
use Rattle.syntax65.specs.declared.lexing.tokens.TokenKind.{TokenKind}
use Rattle.syntax65.specs.declared.lexing.tokens.TokenKind.TheVariants.{Identifier, CheapName, Directive, Number, Character, StringLiteral, Unnamed, SizePrefix, Symbol}
use Rattle.syntax65.specs.declared.lexing.tokens.LexFault.TheVariants.{BadCharacter, StringNotClosed}

-- ---- The table of identifier bytes.

table_is_rule : IDENTIFIER_BYTES ≡ map is_identifier_byte (range_with_len 0 256)
table_is_rule = refl

pub of_table : (b : ℕ) → b < 256 → get_or IDENTIFIER_BYTES b false ≡ is_identifier_byte b
of_table b h = ap (λ l. get_or l b false) table_is_rule ∙ get_or-map-range_with_len is_identifier_byte 0 256 b b false h (omega arith)

-- ---- Prefixes that satisfy a predicate.

pub and_both : (a b : Bool) → (a && b) ≡ true → (a ≡ true) × (b ≡ true)
and_both true b h = (refl, h)
and_both false b h = absurd (cc)

front_step : (p : ℕ → Bool) (x : ℕ) (xs : List ℕ) (b : Bool) → p x ≡ b → list_all p (take (prefix_len p xs) xs) ≡ true → list_all p (take (cond b (1 + prefix_len p xs) 0) (x ∷ xs)) ≡ true
front_step p x xs true e h = grind (arith, common_steps)
front_step p x xs false e h = refl

-- the longest prefix whose bytes satisfy `p`
pub all_front : (p : ℕ → Bool) (xs : List ℕ) → list_all p (take (prefix_len p xs) xs) ≡ true
all_front p [] = refl
all_front p (x ∷ xs) = front_step p x xs (p x) refl (all_front p xs)

-- no longer prefix satisfies `p`
pub not_all : (p : ℕ → Bool) (xs : List ℕ) (n : ℕ) → prefix_len p xs < n → n ≤ length xs → list_all p (take n xs) ≡ true → ⊥
not_all p [] n lt le h = absurd (omega arith)
not_all p (x ∷ xs) zero lt le h = absurd (omega arith)
not_all p (x ∷ xs) (suc n) lt le h =
    let both : (p x ≡ true) × (list_all p (take n xs) ≡ true) = and_both (p x) (list_all p (take n xs)) h in
    let e : p x ≡ true = both.0 in
    let lt2 : 1 + prefix_len p xs < suc n = rw e at lt in
    not_all p xs n (omega arith) (omega arith) both.1

pub eqb_is : (x y : ℕ) → eqb x y ≡ true → x ≡ y
eqb_is x y h = grind (arith, nat_tests)

take_size : (n k : ℕ) (xs ys : List ℕ) → n ≤ length xs → take n xs ≡ ys → length ys ≡ k → n ≡ k
take_size n k xs ys le e s = sym (length-take-le n xs le) ∙ ap length e ∙ s

-- the bytes after a first byte of this class in a text of this form
abbrev pub Following : Class → TokenKind → List ℕ → Type 0
Following Letter Identifier bs = AreIdentifierBytes bs
Following Letter (SizePrefix s) bs = bs ≡ 58 ∷ []
Following At CheapName bs = IsName bs
Following Dot Directive bs = IsName bs
Following Digit (Number v) bs = AreIdentifierBytes bs
Following Radix (Number v) bs = AreIdentifierBytes bs
Following Apostrophe (Character c) bs = bs ≡ c ∷ 39 ∷ []
Following Quote StringLiteral bs = ClosesString bs
Following Colon Unnamed bs = IsRunOf 43 bs ⊎ IsRunOf 45 bs
Following Colon (Symbol m) bs = HasNoSign bs
Following Other (Symbol m) bs = ⊤
Following _ _ bs = ⊥

number_after : (c : Class) (v : ℕ) (bs : List ℕ) → StartsNumber c → AreIdentifierBytes bs → Following c (Number v) bs
number_after x v bs s w = grind (arith, common_steps)

pub size_letter : (s : AddressSize) (b : ℕ) → IsSizeLetter s b → class_of b ≡ Letter
size_letter x b y = grind (arith, common_steps)

mark_after : (m : Punctuation) → Following (class_of (get_or (spelling m) 0 0)) (Symbol m) (drop 1 (spelling m))
mark_after Scope = (λ e. absurd (omega arith), λ e. absurd (omega arith))
mark_after Define = (λ e. absurd (omega arith), λ e. absurd (omega arith))
mark_after _ = tt

pub mark_size : (m : Punctuation) → length (spelling m) ≤ 2
mark_size x = grind (arith, common_steps)

pub following : (j : TokenKind) (b : ℕ) (bs : List ℕ) → IsForm j (b ∷ bs) → Following (class_of b) j bs
following Identifier b bs h = subst (λ (c : Class). Following c Identifier bs) (sym h.0) h.1
following CheapName b bs h = subst (λ (c : Class). Following c CheapName bs) (sym h.0) h.1
following Directive b bs h = subst (λ (c : Class). Following c Directive bs) (sym h.0) h.1
following (Number v) b bs h = number_after (class_of b) v bs h.0 h.1
following (Character x) b bs h = subst (λ (c : Class). Following c (Character x) bs) (sym h.0) h.1
following StringLiteral b bs h = subst (λ (c : Class). Following c StringLiteral bs) (sym h.0) h.1
following Unnamed b bs h = subst (λ (c : Class). Following c Unnamed bs) (sym h.0) h.1
following (SizePrefix s) b bs h = subst (λ (c : Class). Following c (SizePrefix s) bs) (sym (size_letter s b h.0)) h.1
following (Symbol m) b bs h = subst (λ (c : Class). Following c (Symbol m) bs) (sym (ap (λ l. class_of (get_or l 0 0)) h)) (subst (λ (xs : List ℕ). Following (class_of (get_or (spelling m) 0 0)) (Symbol m) xs) (sym (ap (drop 1) h)) (mark_after m))

-- the same for the bytes at a position
pub at_class : (c : Class) (first : Bool) (j : TokenKind) (m b : ℕ) (rest : List ℕ) → class_of b ≡ c → TokenMatchesAt first j (suc m) (b ∷ rest) → Following c j (take m rest)
at_class c first j m b rest e h = subst (λ (d : Class). Following d j (take m rest)) e (following j b (take m rest) h.form)

pub empty : (first : Bool) (j : TokenKind) (here : List ℕ) → TokenMatchesAt first j 0 here → ⊥
empty first j here h = h.form

-- ---- Identifiers and size prefixes.

after_letter : (first : Bool) (j : TokenKind) (m b : ℕ) (rest : List ℕ) → prefix_len is_identifier_byte rest < m → ((s : AddressSize) → TokenMatchesAt first (SizePrefix s) 2 (b ∷ rest) → ⊥) → TokenMatchesAt first j (suc m) (b ∷ rest) → Following Letter j (take m rest) → ⊥
after_letter first Identifier m b rest lt never h w =
    let le : suc m ≤ length (b ∷ rest) = h.fits in
    not_all is_identifier_byte rest m lt (omega arith) w
after_letter first (SizePrefix s) m b rest lt never h e =
    let le : suc m ≤ length (b ∷ rest) = h.fits in
    let one : m ≡ 1 = take_size m 1 rest (58 ∷ []) (omega arith) e refl in
    never s (subst (λ (n : ℕ). TokenMatchesAt first (SizePrefix s) n (b ∷ rest)) (ap suc one) h)
after_letter first _ m b rest lt never h e = e

identifier_longest : (first : Bool) (b : ℕ) (rest : List ℕ) → class_of b ≡ Letter → ((s : AddressSize) → TokenMatchesAt first (SizePrefix s) 2 (b ∷ rest) → ⊥) → (j : TokenKind) (m : ℕ) → suc (prefix_len is_identifier_byte rest) < m → TokenMatchesAt first j m (b ∷ rest) → ⊥
identifier_longest first b rest e never j zero lt h = absurd (omega arith)
identifier_longest first b rest e never j (suc m) lt h = after_letter first j m b rest (omega arith) never h (at_class Letter first j m b rest e h)

pub identifier_here : (first : Bool) (here : List ℕ) (n : ℕ) → BeginsWithClass Letter here → ((s : AddressSize) → TokenMatchesAt first (SizePrefix s) 2 here → ⊥) → n ≡ 1 + prefix_len is_identifier_byte (drop 1 here) → IsLongest first Identifier n here
identifier_here first [] n h never e = absurd h
identifier_here first (b ∷ rest) n h never e =
    let size : n ≡ suc (prefix_len is_identifier_byte rest) = omega arith in
    subst (λ (m : ℕ). IsLongest first Identifier m (b ∷ rest)) (sym size) (record {
      form_matches = record { fits = omega (arith, prefix_len-le-length is_identifier_byte rest); form = (h, all_front is_identifier_byte rest); allowed = tt };
      longest = identifier_longest first b rest h never;
    })

after_prefix : (j : TokenKind) (m x : ℕ) (rest : List ℕ) → x ≡ 58 → 0 < m → m ≤ length rest → Following Letter j (x ∷ take m rest) → ⊥
after_prefix y m x rest e lt le w = grind (arith, common_steps)

prefix_longest : (first : Bool) (b x : ℕ) (rest : List ℕ) → class_of b ≡ Letter → x ≡ 58 → (j : TokenKind) (m : ℕ) → 2 < m → TokenMatchesAt first j m (b ∷ x ∷ rest) → ⊥
prefix_longest first b x rest s e j zero lt h = absurd (omega arith)
prefix_longest first b x rest s e j (suc zero) lt h = absurd (omega arith)
prefix_longest first b x rest s e j (suc (suc m)) lt h =
    let le : suc (suc m) ≤ length (b ∷ x ∷ rest) = h.fits in
    after_prefix j m x rest e (omega arith) (omega arith) (at_class Letter first j (suc m) b (x ∷ rest) s h)

pub prefix_here : (first : Bool) (s : AddressSize) (here : List ℕ) → TokenMatchesAt first (SizePrefix s) 2 here → IsLongest first (SizePrefix s) 2 here
prefix_here first s x h = grind (arith, common_steps, prefix_longest, size_letter)

-- ---- Cheap names and directives.

letter_is_word : (x : ℕ) → class_of x ≡ Letter → is_identifier_byte x ≡ true
letter_is_word x e = rw e refl

name_words : (bs : List ℕ) → IsName bs → AreIdentifierBytes bs
name_words x h = grind (arith, common_steps)

name_front : (xs : List ℕ) → BeginsWithClass Letter xs → IsName (take (prefix_len is_identifier_byte xs) xs)
name_front [] h = h
name_front (x ∷ xs) h =
    let yes : is_identifier_byte x ≡ true = letter_is_word x h in
    let size : prefix_len is_identifier_byte (x ∷ xs) ≡ suc (prefix_len is_identifier_byte xs) = rw yes (omega arith) in
    subst (λ (n : ℕ). IsName (take n (x ∷ xs))) (sym size) (h, all_front is_identifier_byte xs)

begins_name : (m : ℕ) (xs : List ℕ) → IsName (take m xs) → BeginsWithClass Letter xs
begins_name zero xs h = absurd h
begins_name (suc m) [] h = absurd h
begins_name (suc m) (x ∷ xs) h = h.0

signed_longest : (c : Class) (first : Bool) (b : ℕ) (rest : List ℕ) → class_of b ≡ c → ((j : TokenKind) (bs : List ℕ) → Following c j bs → IsName bs) → (j : TokenKind) (m : ℕ) → 1 + prefix_len is_identifier_byte rest < m → TokenMatchesAt first j m (b ∷ rest) → ⊥
signed_longest c first b rest e only j zero lt h = absurd (omega arith)
signed_longest c first b rest e only j (suc m) lt h =
    let le : suc m ≤ length (b ∷ rest) = h.fits in
    not_all is_identifier_byte rest m (omega arith) (omega arith) (name_words (take m rest) (only j (take m rest) (at_class c first j m b rest e h)))

only_cheap : (j : TokenKind) (bs : List ℕ) → Following At j bs → IsName bs
only_cheap x bs h = grind (arith, common_steps)

only_directive : (j : TokenKind) (bs : List ℕ) → Following Dot j bs → IsName bs
only_directive x bs h = grind (arith, common_steps)

pub name_here : (first : Bool) (k : TokenKind) (here : List ℕ) (n : ℕ) → BeginsWithPrefix k here → BeginsWithClass Letter (drop 1 here) → n ≡ prefix_len is_identifier_byte (drop 1 here) → IsLongest first k (1 + n) here
name_here first CheapName [] n s h e = absurd s
name_here first CheapName (b ∷ rest) n s h e =
    let size : 1 + n ≡ suc (prefix_len is_identifier_byte rest) = omega arith in
    subst (λ (m : ℕ). IsLongest first CheapName m (b ∷ rest)) (sym size) (record {
      form_matches = record { fits = omega (arith, prefix_len-le-length is_identifier_byte rest); form = (s, name_front rest h); allowed = tt };
      longest = λ j m lt h. signed_longest At first b rest s only_cheap j m (omega arith) h;
    })
name_here first Directive [] n s h e = absurd s
name_here first Directive (b ∷ rest) n s h e =
    let size : 1 + n ≡ suc (prefix_len is_identifier_byte rest) = omega arith in
    subst (λ (m : ℕ). IsLongest first Directive m (b ∷ rest)) (sym size) (record {
      form_matches = record { fits = omega (arith, prefix_len-le-length is_identifier_byte rest); form = (s, name_front rest h); allowed = tt };
      longest = λ j m lt h. signed_longest Dot first b rest s only_directive j m (omega arith) h;
    })
name_here first _ here n s h e = absurd s

no_signed : (c : Class) (first : Bool) (b : ℕ) (rest : List ℕ) → class_of b ≡ c → ((j : TokenKind) (bs : List ℕ) → Following c j bs → IsName bs) → (BeginsWithClass Letter rest → ⊥) → HasNoMatch first (b ∷ rest)
no_signed c first b rest e only never j zero h = empty first j (b ∷ rest) h
no_signed c first b rest e only never j (suc m) h = never (begins_name m rest (only j (take m rest) (at_class c first j m b rest e h)))

pub no_name_here : (first : Bool) (k : TokenKind) (here : List ℕ) → BeginsWithPrefix k here → (BeginsWithClass Letter (drop 1 here) → ⊥) → HasFaultAt first here BadCharacter
no_name_here first CheapName [] s never = absurd s
no_name_here first CheapName (b ∷ rest) s never = (no_signed At first b rest s only_cheap never, λ e. cc)
no_name_here first Directive [] s never = absurd s
no_name_here first Directive (b ∷ rest) s never = (no_signed Dot first b rest s only_directive never, λ e. cc)
no_name_here first _ here s never = absurd s

-- ---- Numbers.

number_words : (c : Class) (j : TokenKind) (bs : List ℕ) → StartsNumber c → Following c j bs → AreIdentifierBytes bs
number_words x y bs s h = grind (arith, common_steps)

number_longest : (first : Bool) (b : ℕ) (rest : List ℕ) → StartsNumber (class_of b) → (j : TokenKind) (m : ℕ) → suc (prefix_len is_identifier_byte rest) < m → TokenMatchesAt first j m (b ∷ rest) → ⊥
number_longest first b rest s j zero lt h = absurd (omega arith)
number_longest first b rest s j (suc m) lt h = grind (arith, common_steps, not_all, number_words, at_class)

pub number_here : (first : Bool) (here : List ℕ) (v n : ℕ) → BeginsNumber here → n ≡ 1 + prefix_len is_identifier_byte (drop 1 here) → IsLongest first (Number v) n here
number_here first [] v n h e = absurd h
number_here first (b ∷ rest) v n h e =
    let size : n ≡ suc (prefix_len is_identifier_byte rest) = omega arith in
    subst (λ (m : ℕ). IsLongest first (Number v) m (b ∷ rest)) (sym size) (record {
      form_matches = record { fits = omega (arith, prefix_len-le-length is_identifier_byte rest); form = (h, all_front is_identifier_byte rest); allowed = tt };
      longest = number_longest first b rest h;
    })

-- ---- Characters.

only_character : (j : TokenKind) (bs : List ℕ) → Following Apostrophe j bs → (c : ℕ) × (bs ≡ c ∷ 39 ∷ [])
only_character x bs h = grind (arith, common_steps)

character_longest : (first : Bool) (b : ℕ) (rest : List ℕ) → class_of b ≡ Apostrophe → (j : TokenKind) (m : ℕ) → 3 < m → TokenMatchesAt first j m (b ∷ rest) → ⊥
character_longest first b rest e j zero lt h = absurd (omega arith)
character_longest first b rest e j (suc m) lt h =
    let le : suc m ≤ length (b ∷ rest) = h.fits in
    let at = only_character j (take m rest) (at_class Apostrophe first j m b rest e h) in
    let two : m ≡ 2 = take_size m 2 rest (at.0 ∷ 39 ∷ []) (omega arith) at.1 refl in
    omega arith

pub character_here : (first : Bool) (here : List ℕ) → BeginsWithClass Apostrophe here → 2 < length here → get_or here 2 0 ≡ 39 → IsLongest first (Character (get_or here 1 0)) 3 here
character_here first x h lt e = grind (arith, common_steps, character_longest)

third_byte : (m b c : ℕ) (rest : List ℕ) → take m rest ≡ c ∷ 39 ∷ [] → (2 < length (b ∷ rest)) × (get_or (b ∷ rest) 2 0 ≡ 39)
third_byte zero b c rest e = absurd (cc)
third_byte (suc m) b c [] e = absurd (cc)
third_byte (suc zero) b c (x ∷ rest) e = absurd (cc)
third_byte (suc (suc m)) b c (x ∷ []) e = absurd (cc)
third_byte (suc (suc m)) b c (x ∷ y ∷ rest) e = (omega arith, cc)

no_character : (first : Bool) (b : ℕ) (rest : List ℕ) → class_of b ≡ Apostrophe → (2 < length (b ∷ rest) → get_or (b ∷ rest) 2 0 ≡ 39 → ⊥) → HasNoMatch first (b ∷ rest)
no_character first b rest e never j zero h = empty first j (b ∷ rest) h
no_character first b rest e never j (suc m) h =
    let at = only_character j (take m rest) (at_class Apostrophe first j m b rest e h) in
    let third = third_byte m b at.0 rest at.1 in
    never third.0 third.1

pub no_character_here : (first : Bool) (here : List ℕ) → BeginsWithClass Apostrophe here → (2 < length here → get_or here 2 0 ≡ 39 → ⊥) → HasFaultAt first here BadCharacter
no_character_here first x h never = grind (arith, common_steps, no_character)

-- ---- Strings.

no_quote : (x : ℕ) → x ≢ 34 → is_no_quote x ≡ true
no_quote x h = grind (arith, nat_tests)

quote : (x : ℕ) → x ≡ 34 → is_no_quote x ≡ false
quote x h = grind (arith, nat_tests)

quote_is : (x : ℕ) → is_no_quote x ≡ false → x ≡ 34
quote_is x h = grind (arith, nat_tests)

no_quote_is : (x : ℕ) → is_no_quote x ≡ true → x ≢ 34
no_quote_is x h = grind (arith, nat_tests)

-- a string ends at the first `"`
closes_at : (rest : List ℕ) (m : ℕ) → m ≤ length rest → ClosesString (take m rest) → m ≡ suc (prefix_len is_no_quote rest)
closes_at rest zero le h = absurd h
closes_at [] (suc m) le h = absurd (omega arith)
closes_at (x ∷ []) (suc zero) le h = let e : is_no_quote x ≡ false = quote x h in rw e refl
closes_at (x ∷ []) (suc (suc m)) le h = absurd (omega arith)
closes_at (x ∷ y ∷ ys) (suc zero) le h = let e : is_no_quote x ≡ false = quote x h in rw e refl
closes_at (x ∷ y ∷ ys) (suc (suc m)) le h =
    let e : is_no_quote x ≡ true = no_quote x h.0 in
    let ih : suc m ≡ suc (prefix_len is_no_quote (y ∷ ys)) = closes_at (y ∷ ys) (suc m) (omega arith) h.1 in
    rw e (omega (arith, ih))

closes_step : (x : ℕ) (xs : List ℕ) (b : Bool) → is_no_quote x ≡ b → (prefix_len is_no_quote xs < length xs → ClosesString (take (suc (prefix_len is_no_quote xs)) xs)) → cond b (1 + prefix_len is_no_quote xs) 0 < suc (length xs) → ClosesString (take (suc (cond b (1 + prefix_len is_no_quote xs) 0)) (x ∷ xs))
closes_step x xs false e ih lt = quote_is x e
closes_step x [] true e ih lt = absurd (omega arith)
closes_step x (y ∷ ys) true e ih lt = grind (arith, common_steps, no_quote_is)

closes : (rest : List ℕ) → prefix_len is_no_quote rest < length rest → ClosesString (take (suc (prefix_len is_no_quote rest)) rest)
closes [] lt = absurd (omega arith)
closes (x ∷ xs) lt = closes_step x xs (is_no_quote x) refl (closes xs) lt

only_text : (j : TokenKind) (bs : List ℕ) → Following Quote j bs → ClosesString bs
only_text x bs h = grind (arith, common_steps)

text_size : (first : Bool) (j : TokenKind) (m b : ℕ) (rest : List ℕ) → class_of b ≡ Quote → TokenMatchesAt first j (suc m) (b ∷ rest) → m ≡ suc (prefix_len is_no_quote rest)
text_size first j m b rest e h = grind (arith, common_steps, closes_at, only_text, at_class)

text_longest : (first : Bool) (b : ℕ) (rest : List ℕ) → class_of b ≡ Quote → (j : TokenKind) (m : ℕ) → suc (suc (prefix_len is_no_quote rest)) < m → TokenMatchesAt first j m (b ∷ rest) → ⊥
text_longest first b rest e j zero lt h = absurd (omega arith)
text_longest first b rest e j (suc m) lt h = let size = text_size first j m b rest e h in omega arith

pub text_here : (first : Bool) (here : List ℕ) (n : ℕ) → BeginsWithClass Quote here → n ≡ prefix_len is_no_quote (drop 1 here) → n < length (drop 1 here) → IsLongest first StringLiteral (n + 2) here
text_here first [] n h e lt = absurd h
text_here first (b ∷ rest) n h e lt =
    let size : n + 2 ≡ suc (suc (prefix_len is_no_quote rest)) = omega arith in
    subst (λ (m : ℕ). IsLongest first StringLiteral m (b ∷ rest)) (sym size) (record {
      form_matches = record { fits = omega arith; form = (h, closes rest (omega arith)); allowed = tt };
      longest = text_longest first b rest h;
    })

no_text : (first : Bool) (b : ℕ) (rest : List ℕ) → class_of b ≡ Quote → length rest ≤ prefix_len is_no_quote rest → HasNoMatch first (b ∷ rest)
no_text first b rest e le j zero h = empty first j (b ∷ rest) h
no_text first b rest e le j (suc m) h = grind (arith, common_steps, text_size)

pub open_text_here : (first : Bool) (here : List ℕ) → BeginsWithClass Quote here → length (drop 1 here) ≤ prefix_len is_no_quote (drop 1 here) → HasFaultAt first here StringNotClosed
open_text_here first x h le = grind (arith, common_steps, no_text)

-- ---- Tokens.

pub identifier_size : (first : Bool) (n : ℕ) (here : List ℕ) → IsLongest first Identifier n here → length (take n here) ≡ n
identifier_size first n here h = length-take-le n here h.form_matches.fits

after_first : (n : ℕ) (here : List ℕ) → 1 + n ≤ length here → length (drop 1 (take (1 + n) here)) ≡ n
after_first n here le = omega (arith, length-drop 1 (take (1 + n) here), length-take-le (1 + n) here le)

pub name_size : (first : Bool) (k : TokenKind) (n : ℕ) (here : List ℕ) → BeginsWithPrefix k here → IsLongest first k (1 + n) here → length (name_in k (take (1 + n) here)) ≡ n
name_size first x n here s h = grind (arith, common_steps, after_first)

pub name_value : (k : TokenKind) (here text : List ℕ) → BeginsWithPrefix k here → HasValue k text
name_value x here text s = grind (arith, common_steps)
