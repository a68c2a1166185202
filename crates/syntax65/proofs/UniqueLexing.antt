-- A line has at most one result.
use Rattle.std.proofs.lemmas.Grind.{common_steps}
use Rattle.std.proofs.Common.{◌≡◌, ◌⊎◌, ℕ, zero, suc, ◌<◌, ◌≤◌, Bool, true, false, List, [], ◌∷◌, length, take, drop, Option, Some, None, refl, sym, ap, subst, ◌∙◌, arith}
use Rattle.std.specs.Prelude.{Result, Ok, Err}
use Rattle.syntax65.specs.Forms.{number_of, IsForm, TokenMatchesAt, IsLongest, IsToken, name_in, HasValue, HasFaultAt}
use Rattle.syntax65.specs.Tokens.{Lexeme, without_leading_blanks, IsEnd, EndsTokens, HasTokens, IsRead}
use Rattle.syntax65.specs.declared.lexing.positions.Class.{Class}
use Rattle.syntax65.specs.declared.lexing.tokens.TokenKind.{TokenKind}
use Rattle.syntax65.specs.declared.lexing.tokens.TokenKind.TheVariants.{Number}
use Rattle.syntax65.specs.declared.lexing.tokens.LexFault.{LexFault}
use Rattle.syntax65.specs.declared.lexing.tokens.LexFault.TheVariants.{OutOfMemory, BadCharacter, BadNumber, StringNotClosed, LineTooLong, NameTooLong}
use Rattle.syntax65.proofs.FirstToken.{Following, following}
use Rattle.syntax65.proofs.UniqueKind.{bare, one_form, one_kind, one_length}

-- the name in a text doesn't depend on the value of its kind
bare_name : (j k : TokenKind) (text : List ℕ) → bare j ≡ bare k → name_in j text ≡ name_in k text
bare_name j k text e = grind (arith, common_steps)

bare_number : (j : TokenKind) (v : ℕ) (text : List ℕ) → bare j ≡ bare (Number v) → HasValue j text → number_of text ≡ None → ⊥
bare_number x v text e h none = grind (arith, common_steps)

-- the kind of the longest text at a position is unique, up to its value
same_text : (first : Bool) (j k : TokenKind) (m n : ℕ) (here : List ℕ) → IsLongest first j m here → IsLongest first k n here → bare j ≡ bare k
same_text first j k m n here h g = grind (arith, common_steps, one_length, one_form)

name_clash : (first : Bool) (j k : TokenKind) (m n : ℕ) (here : List ℕ) → IsLongest first j m here → IsLongest first k n here → length (name_in j (take m here)) ≤ 200 → 200 < length (name_in k (take n here)) → ⊥
name_clash first j k m n here h g short long = grind (arith, common_steps, one_length, bare_name, same_text)

value_clash : (first : Bool) (j : TokenKind) (v m n : ℕ) (here : List ℕ) → IsLongest first j m here → IsLongest first (Number v) n here → HasValue j (take m here) → number_of (take n here) ≡ None → ⊥
value_clash first j v m n here h g value none =
    let e = one_length first j (Number v) m n here h g in
    bare_number j v (take n here) (same_text first j (Number v) m n here h g) (subst (λ (i : ℕ). HasValue j (take i here)) e value) none

at_end : (first : Bool) (k : TokenKind) (n : ℕ) (here : List ℕ) → TokenMatchesAt first k n here → IsEnd here → ⊥
at_end first k zero here h e = h.form
at_end first k (suc n) [] h e = let le : suc n ≤ length {A = ℕ} [] = h.fits in omega arith
at_end first k (suc n) (b ∷ bs) h e = subst (λ (c : Class). Following c k (take n bs)) e (following k b (take n bs) h.form)

-- a token excludes an error at its position
token_fault : (first : Bool) (k : TokenKind) (n : ℕ) (here : List ℕ) (fault : LexFault) → IsToken first k n here → HasFaultAt first here fault → ⊥
token_fault first k n here OutOfMemory t f = f
token_fault first k n here BadCharacter t f = f.0 k n t.longest.form_matches
token_fault first k n here BadNumber t f = value_clash first k f.0 n f.1 here t.longest f.2 t.value f.3
token_fault first k n here StringNotClosed t f = f.0 k n t.longest.form_matches
token_fault first k n here LineTooLong t f = f
token_fault first k n here NameTooLong t f = name_clash first k f.0 n f.1 here t.longest f.2 t.short f.3

token_end : (first : Bool) (k : TokenKind) (n : ℕ) (here : List ℕ) (end : Option LexFault) → IsToken first k n here → EndsTokens first end here → ⊥
token_end first k n here x t e = grind (arith, common_steps, at_end, token_fault)

number_is_no_name : (v : ℕ) (k : TokenKind) (text : List ℕ) → bare (Number v) ≡ bare k → 200 < length (name_in k text) → ⊥
number_is_no_name v k text e long = grind (arith, common_steps)

one_fault : (first : Bool) (here : List ℕ) (e f : LexFault) → HasFaultAt first here e → HasFaultAt first here f → e ≡ f
one_fault first here OutOfMemory f h g = absurd h
one_fault first here LineTooLong f h g = absurd h
one_fault first here e OutOfMemory h g = absurd g
one_fault first here e LineTooLong h g = absurd g
one_fault first here BadCharacter BadCharacter h g = refl
one_fault first here BadCharacter BadNumber h g = absurd (h.0 (Number g.0) g.1 g.2.form_matches)
one_fault first here BadCharacter StringNotClosed h g = absurd (h.1 g.1)
one_fault first here BadCharacter NameTooLong h g = absurd (h.0 g.0 g.1 g.2.form_matches)
one_fault first here BadNumber BadCharacter h g = absurd (g.0 (Number h.0) h.1 h.2.form_matches)
one_fault first here BadNumber BadNumber h g = refl
one_fault first here BadNumber StringNotClosed h g = absurd (g.0 (Number h.0) h.1 h.2.form_matches)
one_fault first here BadNumber NameTooLong h g = absurd (number_is_no_name h.0 g.0 (take g.1 here) (same_text first (Number h.0) g.0 h.1 g.1 here h.2 g.2) g.3)
one_fault first here StringNotClosed BadCharacter h g = absurd (g.1 h.1)
one_fault first here StringNotClosed BadNumber h g = absurd (h.0 (Number g.0) g.1 g.2.form_matches)
one_fault first here StringNotClosed StringNotClosed h g = refl
one_fault first here StringNotClosed NameTooLong h g = absurd (h.0 g.0 g.1 g.2.form_matches)
one_fault first here NameTooLong BadCharacter h g = absurd (g.0 h.0 h.1 h.2.form_matches)
one_fault first here NameTooLong BadNumber h g = absurd (number_is_no_name g.0 h.0 (take h.1 here) (same_text first (Number g.0) h.0 g.1 h.1 here g.2 h.2) h.3)
one_fault first here NameTooLong StringNotClosed h g = absurd (g.0 h.0 h.1 h.2.form_matches)
one_fault first here NameTooLong NameTooLong h g = refl

one_end : (first : Bool) (here : List ℕ) (e f : Option LexFault) → EndsTokens first e here → EndsTokens first f here → e ≡ f
one_end first here None None h g = refl
one_end first here None (Some f) h g = absurd (g.0 h)
one_end first here (Some e) None h g = absurd (h.0 g)
one_end first here (Some e) (Some f) h g = ap Some (one_fault first here e f h.1 g.1)

same_lexeme : (t u : Lexeme) → t.0 ≡ u.0 → t.1 ≡ u.1 → t ≡ u
same_lexeme t u p q = λ i. (p i, q i)

abbrev AtMostOne : Bool → List ℕ → List Lexeme → List Lexeme → Option LexFault → Option LexFault → Type 0
AtMostOne first line ts us e f = HasTokens first line ts e → HasTokens first line us f → (ts ≡ us) × (e ≡ f)

pub one_list : (first : Bool) (line : List ℕ) (ts us : List Lexeme) (e f : Option LexFault) → AtMostOne first line ts us e f
one_list first line [] [] e f h g = (refl, one_end first (without_leading_blanks line) e f h g)
one_list first line [] (u ∷ us) e f h g = absurd (token_end first u.0 (length u.1) (without_leading_blanks line) e g.1 h)
one_list first line (t ∷ ts) [] e f h g = absurd (token_end first t.0 (length t.1) (without_leading_blanks line) f h.1 g)
one_list first line (t ∷ ts) (u ∷ us) e f h g =
    let here : List ℕ = without_leading_blanks line in
    let size : length t.1 ≡ length u.1 = one_length first t.0 u.0 (length t.1) (length u.1) here h.1.longest g.1.longest in
    let text : t.1 ≡ u.1 = h.0 ∙ ap (λ n. take n here) size ∙ sym g.0 in
    let kind : t.0 ≡ u.0 = one_kind t.0 u.0 (take (length u.1) here) (subst (λ (n : ℕ). IsForm t.0 (take n here)) size h.1.longest.form_matches.form) (subst (λ (n : ℕ). HasValue t.0 (take n here)) size h.1.value) g.1.longest.form_matches.form g.1.value in
    let rest : HasTokens false (drop (length u.1) here) ts e = subst (λ (n : ℕ). HasTokens false (drop n here) ts e) size h.2 in
    let more = one_list false (drop (length u.1) here) ts us e f rest g.2 in
    let head : t ≡ u = same_lexeme t u kind text in
    (cc (more.0, head), more.1)

abbrev Failed : List ℕ → LexFault → Type 0
Failed line fault = (length line ≤ 4096) × ((ts : List Lexeme) × HasTokens true line ts (Some fault))

-- the error of a line is `LineTooLong`, or an error at a position
failed : (line : List ℕ) (fault : LexFault) → IsRead line (Err fault) → ((fault ≡ LineTooLong) × (4096 < length line)) ⊎ Failed line fault
failed line x h = grind (arith, common_steps)

ok_err : (line : List ℕ) (ts : List Lexeme) (fault : LexFault) → IsRead line (Ok ts) → ((fault ≡ LineTooLong) × (4096 < length line)) ⊎ Failed line fault → ⊥
ok_err line ts fault h x = grind (arith, common_steps, one_list)

err_err : (line : List ℕ) (e f : LexFault) → ((e ≡ LineTooLong) × (4096 < length line)) ⊎ Failed line e → ((f ≡ LineTooLong) × (4096 < length line)) ⊎ Failed line f → e ≡ f
err_err line e f x y = grind (arith, common_steps, one_list)

pub one_reading : (line : List ℕ) (r s : Result (List Lexeme) LexFault) → IsRead line r → IsRead line s → r ≡ s
one_reading line x y h g = grind (arith, common_steps, one_list, ok_err, failed, err_err)
