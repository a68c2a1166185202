-- Substitution preserves that the tokens of body lines fit into an object: arguments and generated local names fit.
use Rattle.std.proofs.lemmas.Grind.{common_steps}
use Rattle.std.proofs.Common.{◌≡◌, ℕ, ◌+◌, ◌≤◌, Bool, true, false, List, [], ◌∷◌, ◌++◌, length, Option, None, refl, sym, subst, arith, append_assoc, map, Some}
use Rattle.std.specs.Prelude.{codes, decimal, ◌==◌, ⊤, slice_get, unwrap_or}
use Rattle.std.specs.Char.{is_ascii_digit}
use Rattle.std.specs.List.{AllByRecursion, list_all, list_any}
use Rattle.std.specs.Map.{lookup}
use Rattle.std.specs.Str.{all_ascii_digits}
use Rattle.std.proofs.lemmas.Bool.Decides.{nat_tests}
use Rattle.std.proofs.lemmas.Fmt.{digits_decimal, length-decimal-le}
use Rattle.std.proofs.lemmas.List.{length-append, length-map}
use Rattle.std.proofs.lemmas.List.Folds.{list_all-append, list_any-append}
use Rattle.std.proofs.lemmas.Str.Parse.{numerals_by_value, tells_all_ascii_digits}
use Rattle.base65.specs.Store.{Files}
use Rattle.syntax65.specs.Tokens.{Lexeme}
use Rattle.syntax65.specs.declared.lexing.tokens.TokenKind.{TokenKind}
use Rattle.syntax65.specs.declared.lexing.tokens.TokenKind.TheVariants as token
use Rattle.object65.specs.Objects.{is_name, is_printed}
use Rattle.expand65.specs.LineStart.{name_in, names_from}
use Rattle.expand65.specs.Lines.{local_name_token, all_local, with_local, with_locals, Substitution, argument_at, substituted_line, replacement_for}
use Rattle.expand65.specs.Macros.{is_generated_name, new_names, arguments_of, braces_after, arguments_within, prepend_to_first, without_braces}
use Rattle.sources65.proofs.FitTokens.{all_drop, all_take, AreFit, IsFit, IsTokenFit}
use Rattle.sources65.proofs.SoundForms.{all_append}

-- ---- Generated names.

-- a bound for the number of tokens of a source
abbrev pub most : ℕ
most = 4294967296

digit_printed : (b : ℕ) → is_ascii_digit b ≡ true → is_printed b ≡ true
digit_printed b h = Prim.grind (arith, nat_tests)

digits_printed : (ds : List ℕ) → all_ascii_digits ds ≡ true → list_all is_printed ds ≡ true
digits_printed [] h = refl
digits_printed (d ∷ ds) h = grind (arith, common_steps, (digit_printed d), (digits_printed ds))

decimal_printed : (n : ℕ) → n ≤ most → list_all is_printed (decimal n) ≡ true
decimal_printed n small = digits_printed (decimal n) (digits_decimal (numerals_by_value (λ ds. all_ascii_digits ds ≡ true) tells_all_ascii_digits) n (omega (arith, small)))

decimal_short : (n : ℕ) → n ≤ most → length (decimal n) ≤ 10
decimal_short n small = length-decimal-le 10 n (omega arith) (omega (arith, small)) (omega (arith, small))

-- `?` and the number after it
abbrev tail_of : ℕ → List ℕ
tail_of number = codes "?" ++ decimal number

-- a name of which a local name may be generated
abbrev pub IsBase : List ℕ → Type 0
IsBase name = (is_name name ≡ true) × (length name ≤ 200)

abbrev pub AreBases : List (List ℕ) → Type 0
AreBases names = AllByRecursion IsBase names

own_fit : (m : Files) (name : List ℕ) (number : ℕ) → IsBase name → number ≤ most → AreFit m (local_name_token number name ∷ [])
own_fit m name number base small = (subst (IsFit m token.Identifier) (sym (append_assoc name (codes "?") (decimal number))) (named, λ h. absurd (made h)), tt)
  where
    made : is_generated_name (name ++ tail_of number) ≡ false → ⊥
    made h = let all = list_any-append (λ b. b == 63) name (tail_of number) in grind (arith, common_steps)

    named : is_name (name ++ tail_of number) ≡ true
    named =
        let long = length-append name (tail_of number) in
        let short = decimal_short number small in
        let printed = list_all-append is_printed name (tail_of number) in
        let digits = decimal_printed number small in
        grind (arith, common_steps, nat_tests)

-- ---- Elements of lists that may be absent.

abbrev pub Each : {A : Type 0} → (A → Type 0) → Option A → Type 0
Each P None = ⊤
Each P (Some x) = P x

pub lookup_each : {K X : Type 0} (P : X → Type 0) (test : K → Bool) (es : List (K × X)) → AllByRecursion (λ e. P e.1) es → Each P (lookup test es)
lookup_each P test [] h = tt
lookup_each P test (e ∷ es) h = grind (arith, common_steps, (lookup_each P test es h.1))

-- ---- The number of arguments.

first_few : (t : Lexeme) (parts : List (List Lexeme)) → length (prepend_to_first t parts) ≤ length parts + 1
first_few t x1 = grind arith

parts_few : (d : ℕ) (ts : List Lexeme) → length (arguments_within d ts) ≤ length ts + 1
parts_few d [] = omega arith
parts_few d (t ∷ ts) = grind (arith, common_steps, (parts_few 0 ts), (parts_few (braces_after d t) ts), (first_few t (arguments_within (braces_after d t) ts)))

pub arguments_few : (ts : List Lexeme) → length (arguments_of ts) ≤ length ts + 1
arguments_few [] = omega arith
arguments_few (t ∷ ts) = let same = length-map (arguments_within 0 (t ∷ ts)) without_braces in let few = parts_few 0 (t ∷ ts) in omega (arith, same, few)

-- ---- Substitutions.

-- if none of the names is generated, local names may be generated of all
bases : (m : Files) (names : List (List ℕ)) → list_any is_generated_name names ≡ false → AllByRecursion (IsFit m token.Identifier) names → AreBases names
bases m [] none h = tt
bases m (n ∷ names) none h = grind (arith, common_steps, (bases m names))

module _ (m : Files) where
  abbrev IsNameFit : List ℕ → Type 0
  IsNameFit name = IsFit m token.Identifier name

  -- the arguments of a substitution, or the lines of a body, fit
  abbrev pub AreAllFit : List (List Lexeme) → Type 0
  AreAllFit tss = AllByRecursion (AreFit m) tss

  abbrev AreLocalsFit : List (List ℕ × List Lexeme) → Type 0
  AreLocalsFit es = AllByRecursion (λ e. AreFit m e.1) es

  pub record IsReplacingFit (r : Substitution) : Type 0 where
    pub arguments : AreAllFit r.arguments
    pub count : Each (AreFit m) r.count
    pub locals : AreLocalsFit r.locals
    pub number : r.number ≤ most

  at_fit : (tss : List (List Lexeme)) (i : ℕ) → AreAllFit tss → AreFit m (unwrap_or (slice_get tss i) [])
  at_fit [] x1 h = grind (arith, common_steps)
  at_fit (ts ∷ tss) x1 h = grind (arith, common_steps, (at_fit tss))

  argument_fit : (tss : List (List Lexeme)) (o : Option ℕ) → AreAllFit tss → Each (AreFit m) (argument_at tss o)
  argument_fit tss x1 h = grind (arith, common_steps, at_fit)

  stand_in_fit : (r : Substitution) (k : TokenKind) (t : List ℕ) → IsReplacingFit r → Each (AreFit m) (replacement_for r (k, t))
  stand_in_fit r x1 t fit = grind (arith, common_steps, argument_fit, lookup_each)

  or_itself : (o : Option (List Lexeme)) (t : Lexeme) → Each (AreFit m) o → IsFit m t.0 t.1 → AreFit m (unwrap_or o (t ∷ []))
  or_itself x1 t h fit = grind (arith, common_steps)

  pub replaced_fit : (r : Substitution) (ts : List Lexeme) → IsReplacingFit r → AreFit m ts → AreFit m (substituted_line r ts)
  replaced_fit r [] fit h = tt
  replaced_fit r (t ∷ ts) fit h = all_append (IsTokenFit m) (unwrap_or (replacement_for r t) (t ∷ [])) (substituted_line r ts) (or_itself (replacement_for r t) t (stand_in_fit r t.0 t.1 fit) h.0) (replaced_fit r ts fit h.1)

  -- ---- Arguments.

  first_fit : (t : Lexeme) (parts : List (List Lexeme)) → IsFit m t.0 t.1 → AreAllFit parts → AreAllFit (prepend_to_first t parts)
  first_fit t x1 fit h = grind (arith, common_steps)

  parts_fit : (d : ℕ) (ts : List Lexeme) → AreFit m ts → AreAllFit (arguments_within d ts)
  parts_fit d [] h = (tt, tt)
  parts_fit d (t ∷ ts) h = grind (arith, common_steps, (parts_fit 0 ts h.1), (parts_fit (braces_after d t) ts h.1), first_fit)

  all_unbraced : (tss : List (List Lexeme)) → AreAllFit tss → AreAllFit (map without_braces tss)
  all_unbraced [] h = tt
  all_unbraced (ts ∷ tss) h = grind (arith, common_steps, all_take, all_drop, (all_unbraced tss h.1))

  pub arguments_fit : (ts : List Lexeme) → AreFit m ts → AreAllFit (arguments_of ts)
  arguments_fit x1 h = grind (arith, common_steps, all_unbraced, parts_fit)

  -- ---- Local names.

  name_fit : (k : TokenKind) (t : List ℕ) → IsFit m k t → Each IsNameFit (name_in (k, t))
  name_fit x1 t h = grind (arith, common_steps)

  names_fit : (b : Bool) (ts : List Lexeme) → AreFit m ts → Each (AllByRecursion IsNameFit) (names_from b ts)
  names_fit true [] h = tt
  names_fit false [] h = tt
  names_fit true (t ∷ ts) h = grind (arith, common_steps, (name_fit t.0 t.1 h.0), (names_fit false ts h.1))
  names_fit false (c ∷ ts) h = grind (arith, common_steps, (names_fit true ts h.1))

  pub new_names_fit : (ts : List Lexeme) → AreFit m ts → Each AreBases (new_names ts)
  new_names_fit ts h = grind (arith, common_steps, (names_fit true ts h), (bases m))

  local_fit : (es : List (List ℕ × List Lexeme)) (name : List ℕ) (ts : List Lexeme) → AreLocalsFit es → AreFit m ts → AreLocalsFit (with_local es name ts)
  local_fit [] name ts h fit = (fit, tt)
  local_fit (e ∷ es) name ts h fit = grind (arith, common_steps, (local_fit es name ts h.1 fit))

  locals_fit : (number : ℕ) (names : List (List ℕ)) (es : List (List ℕ × List Lexeme)) → number ≤ most → AreBases names → AreLocalsFit es → AreLocalsFit (all_local number names es)
  locals_fit number [] es small bases h = h
  locals_fit number (name ∷ names) es small bases h = locals_fit number names (with_local es name (local_name_token number name ∷ [])) small bases.1 (local_fit es name (local_name_token number name ∷ []) h (own_fit m name number bases.0 small))

  pub with_locals_fit : (names : List (List ℕ)) (r : Substitution) → AreBases names → IsReplacingFit r → IsReplacingFit (with_locals names r)
  with_locals_fit names r bases fit = grind (arith, common_steps, locals_fit)
