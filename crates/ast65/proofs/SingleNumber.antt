-- Expressions that are a single number.
use Rattle.std.proofs.Common.{◌≡◌, ℕ, List, [], ◌∷◌, Option, Some, None, Ok, IfSome, ap, refl, sym, subst, take}
use Rattle.syntax65.specs.Expressions.{IsParsed, HasNoOperator, Phrase, a_leaf, binary_at, leaf_of, of_level, operand_start_at, operand_start_of, text_at}
use Rattle.syntax65.specs.Tokens.{Lexeme, lexeme_of, lexemes}
use Rattle.syntax65.specs.Trees.{Tree, number}
use Rattle.syntax65.specs.declared.expressions.operators.OperandStart.TheVariants.{Number}
use Rattle.syntax65.specs.declared.lexing.tokens.Token.{Token}
use Rattle.ast65.specs.Items.{literal_item}
use Rattle.ast65.specs.declared.reading.keywords.ElementKind.{ElementKind}
use Rattle.ast65.specs.Parsing.{quoted_in, IsItem}
use Rattle.ast65.proofs.CommaLists.{is_item, is_whole}

no_operator : (ts : List Lexeme) → binary_at ts 1 ≡ None → HasNoOperator ts 6 1
no_operator ts e op h = absurd cc

phrase : (ts : List Lexeme) (t : Tree) → leaf_of (operand_start_at ts 0) (text_at ts 0) ≡ Some t → Phrase ts 64 6 0 1 t
phrase ts t h =
    let one = of_level 64 0 0 1 t (a_leaf 64 0 t h) in
    let two = of_level 64 1 0 1 t one in
    let three = of_level 64 2 0 1 t two in
    let four = of_level 64 3 0 1 t three in
    let five = of_level 64 4 0 1 t four in
    of_level 64 5 0 1 t five

-- a number without an operator after it is an expression
pub alone : (ts : List Lexeme) (v : ℕ) → operand_start_at ts 0 ≡ Number v → binary_at ts 1 ≡ None → IsParsed ts (Ok (number v, 1))
alone ts v o e = record { phrase = phrase ts (number v) (ap (λ x. leaf_of x (text_at ts 0)) o); ends = no_operator ts e }

pub alone_if : (o : Option ℕ) (all following : List Token) (first : Token) → all ≡ first ∷ following → IfSome o (λ v. operand_start_of first.kind first.text.now ≡ Number v) → binary_at (lexemes following) 0 ≡ None → IfSome o (λ v. IsParsed (lexemes all) (Ok (number v, 1)))
alone_if None all following first e n b = tt
alone_if (Some v) all following first e n b =
    let P : List Token → Type 0 = λ ts. IsParsed (lexemes ts) (Ok (number v, 1)) in
    subst P (sym e) (alone (lexemes (first ∷ following)) v n b)

-- a single number is an element of a list
pub number_item : (all following : List Token) (first : Token) (v : ℕ) → all ≡ first ∷ following → operand_start_of first.kind first.text.now ≡ Number v → quoted_in (lexeme_of first) ≡ None → (e : ElementKind) → IsItem e (lexemes (take 1 all)) (Ok (literal_item v))
number_item all following first v is n q e =
    let P : List Token → Type 0 = λ ts. IsItem e (lexemes (take 1 ts)) (Ok (literal_item v)) in
    subst P (sym is) (is_item e (lexemes (first ∷ [])) v (is_whole (first ∷ []) (number v) 1 (alone (lexemes (first ∷ [])) v n refl) refl) q)
