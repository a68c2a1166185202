-- Lists that are parsed part by part.
use Rattle.std.proofs.Common.{◌≡◌, ◌≢◌, ℕ, suc, Bool, true, false, List, [], ◌∷◌, ◌++◌, length, Option, Some, None, Result, Ok, Err, refl, ap, sym, ◌∙◌, subst, append_assoc, append-nil, option_map, Bor}
use Rattle.std.specs.Result.{IsErrAnd}
use Rattle.base65.specs.Outcome.{◌>>=◌, Unless}
use Rattle.base65.specs.Relations.{RefinesRel}
use Rattle.syntax65.specs.Tokens.{Lexeme, lexemes}
use Rattle.syntax65.specs.declared.lexing.tokens.Token.{Token}
use Rattle.syntax65.specs.Trees.{Tree}
use Rattle.ast65.specs.Faults.{is_system_error}
use Rattle.ast65.specs.Parsing.{elements_after_comma, list_elements, not_understood, assertion_text, MapsEach, IsOneOrTwo, IsRange, RefinesParse, AndThenReturn}
use Rattle.ast65.proofs.CommaLists.{some_part, too_many, too_many_words}
use Rattle.ast65.specs.declared.fault.AsmFault.{AsmFault}

-- the results so far, followed by those of the rest
abbrev pub before : {B : Type 0} → List B → Result (List B) AsmFault → Result (List B) AsmFault
before found r = r >>= (λ more. Ok (found ++ more))

abbrev pub parts_left : Option (Bor (List Token)) → List (List Lexeme)
parts_left rest = elements_after_comma (option_map (λ r. lexemes r.now) rest)

abbrev pub count_left : Option (Bor (List Token)) → ℕ
count_left None = 0
count_left (Some ts) = suc (length ts.now)

-- the loop invariant: the result of all parts is the results so far, followed by the result of the remaining parts
abbrev pub GoesOn : {B : Type 0} → (List Lexeme → Result B AsmFault → Type 0) → List (List Lexeme) → List B → List (List Lexeme) → Type 0
GoesOn Is all found left = (r : Result (List _) AsmFault) → MapsEach Is left r → MapsEach Is all (before found r)

further : {B : Type 0} (found : List B) (y : B) (r : Result (List B) AsmFault) → before (found ++ y ∷ []) r ≡ before found (r >>= (λ ys. Ok (y ∷ ys)))
further found y (Ok ys) = ap Ok (append_assoc found (y ∷ []) ys)
further found y (Err e) = refl

pub one_more : {B : Type 0} (Is : List Lexeme → Result B AsmFault → Type 0) (all : List (List Lexeme)) (found : List B) (part : List Lexeme) (left : List (List Lexeme)) (y : B) → Is part (Ok y) → GoesOn Is all found (part ∷ left) → GoesOn Is all (found ++ y ∷ []) left
one_more Is all found part left y h goes r more = rw (further found y r) (goes (r >>= (λ ys. Ok (y ∷ ys))) (Ok y, h, (r, more, refl)))

-- splitting off the next part preserves the invariant
pub taken : {B : Type 0} (Is : List Lexeme → Result B AsmFault → Type 0) (all : List (List Lexeme)) (found : List B) (rest : Option (Bor (List Token))) (left : Bor (List Token)) (part : List Lexeme) (following : List (List Lexeme)) → rest ≡ Some left → list_elements (lexemes left.now) ≡ part ∷ following → GoesOn Is all found (parts_left rest) → GoesOn Is all found (part ∷ following)
taken Is all found rest left part following e f goes =
    let P : List (List Lexeme) → Type 0 = λ ps. GoesOn Is all found ps in
    let Q : Option (Bor (List Token)) → Type 0 = λ o. GoesOn Is all found (parts_left o) in
    subst P f (subst Q e goes)

at_end : {B : Type 0} (Is : List Lexeme → Result B AsmFault → Type 0) (all : List (List Lexeme)) (found : List B) → GoesOn Is all found [] → MapsEach Is all (Ok found)
at_end Is all found goes = let P : List _ → Type 0 = λ xs. MapsEach Is all (Ok xs) in subst P (append-nil found) (goes (Ok []) refl)

pub stops : {B X : Type 0} (Is : List Lexeme → Result B AsmFault → Type 0) (all : List (List Lexeme)) (found : List B) (part : List Lexeme) (left : List (List Lexeme)) (view : X → List B) (result : Result X AsmFault) (e : AsmFault) → IsErrAnd result (λ f. f ≡ e) → Unless (is_system_error e) (Is part (Err e)) → GoesOn Is all found (part ∷ left) → RefinesRel is_system_error view result (MapsEach Is all)
stops Is all found part left view (Ok x) e h i goes = absurd h
stops Is all found part left view (Err f) e h i goes = rw h (go (is_system_error e) i)
  where
    go : (t : Bool) → Unless t (Is part (Err e)) → Unless t (MapsEach Is all (Err e))
    go true j = tt
    go false j = goes (Err e) (Err e, j, refl)

pub ended : {B : Type 0} (Is : List Lexeme → Result B AsmFault → Type 0) (all : List (List Lexeme)) (found : List B) (rest : Option (Bor (List Token))) → ((left : Bor (List Token)) → rest ≡ Some left → ⊥) → GoesOn Is all found (parts_left rest) → MapsEach Is all (Ok found)
ended Is all found None none goes = at_end Is all found goes
ended Is all found (Some left) none goes = absurd (none left refl)

-- ---- Too many parts.

pub three_parts : (ts n v : List Lexeme) (rest more : Option (Bor (List Token))) (b c : Bor (List Token)) → list_elements ts ≡ n ∷ parts_left rest → rest ≡ Some b → list_elements (lexemes b.now) ≡ v ∷ parts_left more → more ≡ Some c → IsOneOrTwo (list_elements ts) not_understood
three_parts ts n v rest more b c e f g h =
    let P : List (List Lexeme) → Type 0 = λ ps. IsOneOrTwo ps not_understood in
    let Q : List (List Lexeme) → Type 0 = λ ps. IsOneOrTwo (n ∷ ps) not_understood in
    let all = e ∙ ap (λ o. n ∷ parts_left o) f in
    let next = g ∙ ap (λ o. v ∷ parts_left o) h in
    subst P (sym all) (subst Q (sym next) (too_many n v (lexemes c.now)))

-- the tokens after a comma have at least one part, so the range has a start
pub some_range : (rest : Option (Bor (List Token))) (b : Bor (List Token)) (result : Result (Option Tree × Option Tree) AsmFault) → rest ≡ Some b → RefinesParse result (AndThenReturn (IsOneOrTwo (list_elements (lexemes b.now))) (λ x. Ok (Some x.0, x.1))) → RefinesParse result (IsRange (parts_left rest))
some_range rest b result e h =
    let P : Option (Bor (List Token)) → Type 0 = λ o. RefinesParse result (IsRange (parts_left o)) in
    subst P (sym e) (go (list_elements (lexemes b.now)) (some_part (lexemes b.now)) h)
  where
    go : (ps : List (List Lexeme)) → ps ≢ [] → RefinesParse result (AndThenReturn (IsOneOrTwo ps) (λ x. Ok (Some x.0, x.1))) → RefinesParse result (IsRange ps)
    go [] n h = absurd (n refl)
    go (p ∷ ps) n h = h

pub two_texts : (ts part : List Lexeme) (rest : Option (Bor (List Token))) (b : Bor (List Token)) → list_elements ts ≡ part ∷ parts_left rest → rest ≡ Some b → not_understood ≡ assertion_text (list_elements ts)
two_texts ts part rest b e f =
    let all = e ∙ ap (λ o. part ∷ parts_left o) f in
    sym (ap assertion_text all ∙ too_many_words part (lexemes b.now))
