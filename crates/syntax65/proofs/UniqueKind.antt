-- A text has at most one kind.
use Rattle.std.proofs.lemmas.Grind.{common_steps}
use Rattle.std.proofs.Common.{◌≡◌, ◌⊎◌, inl, inr, ℕ, zero, suc, ◌+◌, ◌<◌, ◌≤◌, Bool, true, List, [], ◌∷◌, length, take, drop, get_or, refl, sym, ap, subst, ◌∙◌, arith, IsTrue, eqb, eq-eqb, false}
use Rattle.std.specs.Prelude.{⊤, ◌==◌, if◌then◌else◌}
use Rattle.std.specs.List.{prefix_len, list_all}
use Rattle.std.proofs.lemmas.List.{length-take-le}
use Rattle.std.proofs.lemmas.List.Sums.{prefix_len-le-length}
use Rattle.syntax65.specs.Forms.{class_of, is_identifier_byte, IsRunOf, spelling, TokenMatchesAt, IsLongest, BeginsWithClass, HasFaultAt, IsSizeLetter, IsForm, HasValue}
use Rattle.syntax65.specs.Internal.Positions.{BeginsPunctuator, HasNoSign}
use Rattle.syntax65.specs.declared.lexing.positions.Class.TheVariants.{Quote, Colon, Other, Letter, Digit, Radix, At, Dot, Apostrophe}
use Rattle.syntax65.specs.declared.lexing.tokens.Punctuation.{Punctuation}
use Rattle.syntax65.specs.declared.lexing.tokens.TokenKind.{TokenKind}
use Rattle.syntax65.specs.declared.lexing.tokens.TokenKind.TheVariants.{Unnamed, Symbol, Identifier, CheapName, Directive, Number, Character, StringLiteral, SizePrefix}
use Rattle.syntax65.specs.declared.lexing.tokens.LexFault.TheVariants.{BadCharacter}
use Rattle.syntax65.proofs.FirstToken.{and_both, all_front, not_all, eqb_is, Following, mark_size, at_class, empty, following}
use Rattle.syntax65.specs.declared.lexing.positions.Class.{Class}
use Rattle.syntax65.specs.declared.lexing.tokens.AddressSize.{AddressSize}
use Rattle.syntax65.specs.declared.lexing.tokens.AddressSize.TheVariants.{ZeroPage}
use Rattle.syntax65.specs.declared.lexing.tokens.Punctuation.TheVariants.{Scope, Define, NotEqual, LessOrEqual, GreaterOrEqual, ShiftLeft, ShiftRight, AndAnd, OrOr, Colon as ColonMark, Plus, Minus, Star, Slash, Ampersand, Bar, Caret, Tilde, Less, Greater, Equal, Exclamation, OpenParenthesis, CloseParenthesis, Hash, Comma, OpenBrace, CloseBrace}

-- ---- The tokens at a `:` or at a byte with which only punctuation begins.

-- a run of the byte `c` begins with `c`
run_begins : (c x : ℕ) (bs : List ℕ) → IsRunOf c (x ∷ bs) → x ≡ c
run_begins c x bs h = eqb_is x c (and_both (eqb x c) _ h.1).0

-- punctuation is at most two bytes long
pub long_mark : (first : Bool) (m : Punctuation) (n : ℕ) (here : List ℕ) → 2 < n → TokenMatchesAt first (Symbol m) n here → ⊥
long_mark first m zero here lt h = absurd (omega arith)
long_mark first m (suc n) [] lt h = let le : suc n ≤ length {A = ℕ} [] = h.fits in absurd (omega arith)
long_mark first m (suc n) (b ∷ rest) lt h =
    let le : suc n ≤ length (b ∷ rest) = h.fits in
    let same : b ∷ take n rest ≡ spelling m = h.form in
    let size : length (b ∷ take n rest) ≡ length (spelling m) = ap length same in
    omega (arith, size, mark_size m, length-take-le n rest (omega arith))

-- ---- Unnamed references.

abbrev pub IsSign : ℕ → Type 0
IsSign c = (c ≡ 43) ⊎ (c ≡ 45)

run_size : (c : ℕ) (rest : List ℕ) → list_all (λ b. eqb b c) (c ∷ take (prefix_len (λ b. eqb b c) rest) rest) ≡ true
run_size c rest = rw (eq-eqb c c refl) (all_front (λ b. eqb b c) rest)

sign_run : (c : ℕ) (rest : List ℕ) → IsSign c → IsRunOf 43 (c ∷ take (prefix_len (λ b. eqb b c) rest) rest) ⊎ IsRunOf 45 (c ∷ take (prefix_len (λ b. eqb b c) rest) rest)
sign_run c rest (inl e) = inl (λ same. cc, subst (λ (d : ℕ). IsTrue (list_all (λ b. eqb b d) (c ∷ take (prefix_len (λ b. eqb b c) rest) rest))) e (run_size c rest))
sign_run c rest (inr e) = inr (λ same. cc, subst (λ (d : ℕ). IsTrue (list_all (λ b. eqb b d) (c ∷ take (prefix_len (λ b. eqb b c) rest) rest))) e (run_size c rest))

no_more : (c d : ℕ) (rest : List ℕ) (m : ℕ) → prefix_len (λ b. eqb b c) rest < m → m ≤ length rest → IsRunOf d (c ∷ take m rest) → ⊥
no_more c d rest m lt le h = grind (arith, common_steps, run_begins, not_all, and_both)

after_sign : (first : Bool) (j : TokenKind) (m b c : ℕ) (rest : List ℕ) → prefix_len (λ x. eqb x c) rest < m → m ≤ length rest → TokenMatchesAt first j (suc (suc m)) (b ∷ c ∷ rest) → Following Colon j (c ∷ take m rest) → ⊥
after_sign first Unnamed m b c rest lt le h (inl r) = no_more c 43 rest m lt le r
after_sign first Unnamed m b c rest lt le h (inr r) = no_more c 45 rest m lt le r
after_sign first (Symbol k) m b c rest lt le h r = long_mark first k (suc (suc m)) (b ∷ c ∷ rest) (omega arith) h
after_sign first _ m b c rest lt le h r = r

unnamed_longest : (first : Bool) (b c : ℕ) (rest : List ℕ) → class_of b ≡ Colon → (j : TokenKind) (m : ℕ) → suc (suc (prefix_len (λ x. eqb x c) rest)) < m → TokenMatchesAt first j m (b ∷ c ∷ rest) → ⊥
unnamed_longest first b c rest e j zero lt h = absurd (omega arith)
unnamed_longest first b c rest e j (suc zero) lt h = absurd (omega arith)
unnamed_longest first b c rest e j (suc (suc m)) lt h = grind (arith, common_steps, after_sign, at_class)

pub unnamed_here : (first : Bool) (here : List ℕ) (c n : ℕ) → BeginsWithClass Colon here → 1 < length here → get_or here 1 0 ≡ c → IsSign c → n ≡ prefix_len (λ b. eqb b c) (drop 2 here) → IsLongest first Unnamed (2 + n) here
unnamed_here first [] c n h lt e s size = absurd h
unnamed_here first (b ∷ []) c n h lt e s size = absurd (omega arith)
unnamed_here first (b ∷ x ∷ rest) c n h lt e s size =
    let two : 2 + n ≡ suc (suc (prefix_len (λ b. eqb b c) rest)) = omega arith in
    subst (λ (m : ℕ). IsLongest first Unnamed m (b ∷ x ∷ rest)) (sym two) (
    subst (λ (y : ℕ). IsLongest first Unnamed (suc (suc (prefix_len (λ b. eqb b c) rest))) (b ∷ y ∷ rest)) (sym e) (record {
      form_matches = record { fits = omega (arith, prefix_len-le-length (λ b. eqb b c) rest); form = (h, sign_run c rest s); allowed = tt };
      longest = unnamed_longest first b c rest h;
    }))

-- ---- Punctuation.

abbrev IsMark : TokenKind → Type 0
IsMark (Symbol m) = ⊤
IsMark _ = ⊥

only_other : (j : TokenKind) (bs : List ℕ) → Following Other j bs → IsMark j
only_other x bs h = grind (arith, common_steps)

only_colon : (j : TokenKind) (m : ℕ) (xs : List ℕ) → HasNoSign xs → Following Colon j (take m xs) → IsMark j
only_colon x n xs never h = grind (arith, common_steps)

-- only punctuation matches here
only_mark : (first : Bool) (j : TokenKind) (n : ℕ) (here : List ℕ) → BeginsPunctuator here → TokenMatchesAt first j n here → IsMark j
only_mark first j zero here b h = absurd (empty first j here h)
only_mark first j (suc n) [] b h = let le : suc n ≤ length {A = ℕ} [] = h.fits in absurd (omega arith)
only_mark first j (suc n) (x ∷ xs) (inl e) h = only_other j (take n xs) (at_class Other first j n x xs e h)
only_mark first j (suc n) (x ∷ xs) (inr e) h = only_colon j n xs e.1 (at_class Colon first j n x xs e.0 h)

long_longest : (first : Bool) (j : TokenKind) (n : ℕ) (here : List ℕ) → IsMark j → 2 < n → TokenMatchesAt first j n here → ⊥
long_longest first (Symbol m) n here k lt h = long_mark first m n here lt h
long_longest first _ n here k lt h = k

pub long_here : (first : Bool) (here : List ℕ) (m : Punctuation) → BeginsPunctuator here → TokenMatchesAt first (Symbol m) 2 here → IsLongest first (Symbol m) 2 here
long_here first here m b h = record { form_matches = h; longest = λ j n lt s. long_longest first j n here (only_mark first j n here b s) lt s }

short_longest : (first : Bool) (j : TokenKind) (n : ℕ) (here : List ℕ) → IsMark j → ((m : Punctuation) (f : Bool) → TokenMatchesAt f (Symbol m) 2 here → ⊥) → 1 < n → TokenMatchesAt first j n here → ⊥
short_longest first (Symbol m) zero here k never lt h = absurd (omega arith)
short_longest first (Symbol m) (suc zero) here k never lt h = absurd (omega arith)
short_longest first (Symbol m) (suc (suc zero)) here k never lt h = never m first h
short_longest first (Symbol m) (suc (suc (suc n))) here k never lt h = long_mark first m (suc (suc (suc n))) here (omega arith) h
short_longest first _ n here k never lt h = k

pub short_here : (first : Bool) (here : List ℕ) (m : Punctuation) → BeginsPunctuator here → spelling m ≡ get_or here 0 0 ∷ [] → ((m : Punctuation) (f : Bool) → TokenMatchesAt f (Symbol m) 2 here → ⊥) → IsLongest first (Symbol m) 1 here
short_here first [] m (inl b) e never = absurd b
short_here first [] m (inr b) e never = absurd b.0
short_here first (x ∷ xs) m b e never = grind (arith, common_steps, short_longest, only_mark)

no_mark : (first : Bool) (j : TokenKind) (n : ℕ) (here : List ℕ) → IsMark j → ((m : Punctuation) → spelling m ≡ get_or here 0 0 ∷ [] → ⊥) → ((m : Punctuation) (f : Bool) → TokenMatchesAt f (Symbol m) 2 here → ⊥) → TokenMatchesAt first j n here → ⊥
no_mark first (Symbol m) zero here k one two h = empty first (Symbol m) here h
no_mark first (Symbol m) (suc zero) [] k one two h = let le : 1 ≤ length {A = ℕ} [] = h.fits in omega arith
no_mark first (Symbol m) (suc zero) (x ∷ xs) k one two h = one m (sym h.form)
no_mark first (Symbol m) (suc (suc n)) here k one two h = short_longest first (Symbol m) (suc (suc n)) here tt two (omega arith) h
no_mark first _ n here k one two h = k

mark_is_no_quote : (here : List ℕ) → BeginsPunctuator here → BeginsWithClass Quote here → ⊥
mark_is_no_quote x y q = grind (arith, common_steps)

pub no_mark_here : (first : Bool) (here : List ℕ) → BeginsPunctuator here → ((m : Punctuation) → spelling m ≡ get_or here 0 0 ∷ [] → ⊥) → ((m : Punctuation) (f : Bool) → TokenMatchesAt f (Symbol m) 2 here → ⊥) → HasFaultAt first here BadCharacter
no_mark_here first here b one two = (λ j n s. no_mark first j n here (only_mark first j n here b s) one two s, mark_is_no_quote here b)

-- ---- A text has at most one kind.

-- a kind without its value
abbrev pub bare : TokenKind → TokenKind
bare (Number v) = Number 0
bare (Character c) = Character 0
bare (SizePrefix s) = SizePrefix ZeroPage
bare (Symbol m) = Symbol Scope
bare k = k

abbrev begins_sign : List ℕ → Bool
begins_sign [] = false
begins_sign (b ∷ bs) = if b == 43 then true else b == 45

-- the only possible kind, without its value, for the class of the first byte and the bytes after it
abbrev kind_after : Class → List ℕ → TokenKind
kind_after Letter bs = if list_all is_identifier_byte bs then Identifier else SizePrefix ZeroPage
kind_after At bs = CheapName
kind_after Dot bs = Directive
kind_after Digit bs = Number 0
kind_after Radix bs = Number 0
kind_after Apostrophe bs = Character 0
kind_after Quote bs = StringLiteral
kind_after Colon bs = if begins_sign bs then Unnamed else Symbol Scope
kind_after _ bs = Symbol Scope

kind_of_class : (c : Class) (j : TokenKind) (bs : List ℕ) → Following c j bs → bare j ≡ kind_after c bs
kind_of_class x j bs h = grind (arith, common_steps)

-- a text has at most one form
pub one_form : (j k : TokenKind) (text : List ℕ) → IsForm j text → IsForm k text → bare j ≡ bare k
one_form j k [] h g = absurd h
one_form j k (b ∷ bs) h g = kind_of_class (class_of b) j bs (following j b bs h) ∙ sym (kind_of_class (class_of b) k bs (following k b bs g))

-- ---- The bytes of punctuation determine it.

abbrev pub mark_of_pair : ℕ → ℕ → Punctuation
mark_of_pair b c =
    if b == 58 then (if c == 58 then Scope else Define)
    else (if b == 60 then (if c == 62 then NotEqual else (if c == 61 then LessOrEqual else ShiftLeft))
    else (if b == 62 then (if c == 61 then GreaterOrEqual else ShiftRight)
    else (if b == 38 then AndAnd else OrOr)))

abbrev pub mark_of_byte : ℕ → Punctuation
mark_of_byte b =
    if b == 58 then ColonMark
    else (if b == 43 then Plus
    else (if b == 45 then Minus
    else (if b == 42 then Star
    else (if b == 47 then Slash
    else (if b == 38 then Ampersand
    else (if b == 124 then Bar
    else (if b == 94 then Caret
    else (if b == 126 then Tilde
    else (if b == 60 then Less
    else (if b == 62 then Greater
    else (if b == 61 then Equal
    else (if b == 33 then Exclamation
    else (if b == 40 then OpenParenthesis
    else (if b == 41 then CloseParenthesis
    else (if b == 35 then Hash
    else (if b == 44 then Comma
    else (if b == 123 then OpenBrace else CloseBrace)))))))))))))))))

abbrev pub mark_of : List ℕ → Punctuation
mark_of [] = Scope
mark_of (b ∷ []) = mark_of_byte b
mark_of (b ∷ c ∷ bs) = mark_of_pair b c

pub spelled_back : (m : Punctuation) → mark_of (spelling m) ≡ m
spelled_back x = grind (arith, common_steps)

one_mark : (m n : Punctuation) → spelling m ≡ spelling n → m ≡ n
one_mark m n e = sym (spelled_back m) ∙ ap mark_of e ∙ spelled_back n

one_size : (s t : AddressSize) (b : ℕ) → IsSizeLetter s b → IsSizeLetter t b → s ≡ t
one_size x y b h g = grind (arith, common_steps)

same_kind : (j k : TokenKind) (text : List ℕ) → IsForm j text → HasValue j text → IsForm k text → HasValue k text → bare j ≡ bare k → j ≡ k
same_kind j k [] h v g w e = absurd h
same_kind Identifier Identifier (b ∷ bs) h v g w e = refl
same_kind CheapName CheapName (b ∷ bs) h v g w e = refl
same_kind Directive Directive (b ∷ bs) h v g w e = refl
same_kind (Number x) (Number y) (b ∷ bs) h v g w e = let same : x ≡ y = cc in ap Number same
same_kind (Character x) (Character y) (b ∷ bs) h v g w e = let same : x ≡ y = cc (h.1, g.1) in ap Character same
same_kind StringLiteral StringLiteral (b ∷ bs) h v g w e = refl
same_kind Unnamed Unnamed (b ∷ bs) h v g w e = refl
same_kind (SizePrefix s) (SizePrefix t) (b ∷ bs) h v g w e = ap SizePrefix (one_size s t b h.0 g.0)
same_kind (Symbol m) (Symbol n) (b ∷ bs) h v g w e = ap Symbol (one_mark m n (sym h ∙ g))
same_kind _ _ (b ∷ bs) h v g w e = absurd (cc)

-- a text has at most one kind
pub one_kind : (j k : TokenKind) (text : List ℕ) → IsForm j text → HasValue j text → IsForm k text → HasValue k text → j ≡ k
one_kind j k text h v g w = same_kind j k text h v g w (one_form j k text h g)

-- at most one length is the longest at a position
pub one_length : (first : Bool) (j k : TokenKind) (m n : ℕ) (here : List ℕ) → IsLongest first j m here → IsLongest first k n here → m ≡ n
one_length first j k m n here h g = grind (arith, common_steps)
