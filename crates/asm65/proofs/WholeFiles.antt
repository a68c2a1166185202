-- Assembling a statement with the bytes that are read of its file has the same result as with the whole file.
use Rattle.std.proofs.Common.{◌≡◌, ◌∙◌, ℕ, Bool, true, false, List, Option, Some, None, take, refl, sym, ap, option_map, Ok, Err, ◌≤◌, nat_le, not, ◌∷◌, length, subst, arith}
use Rattle.std.specs.FinMap as fmap
use Rattle.std.specs.Prelude.{if◌then◌else◌, ◌&&◌, IfSome, Result}
use Rattle.std.specs.Str.{is_utf8}
use Rattle.base65.specs.Reading.{file_prefix}
use Rattle.base65.specs.Store.{LastFailure, Files, FailedWithin, bytes_in}
use Rattle.base65.specs.declared.store.StoreFault.TheVariants.{FileNotFound}
use Rattle.syntax65.specs.Trees.{Tree}
use Rattle.expand65.specs.Expansion.{as_text, sibling_path, file_named}
use Rattle.ast65.specs.declared.language.Statement.{Statement}
use Rattle.ast65.specs.declared.language.Statement.TheVariants.{Incbin, IncbinPath}
use Rattle.semantics65.specs.Views.{location_in}
use Rattle.asm65.specs.Internal.RunState.{read_bytes}
use Rattle.std.proofs.lemmas.Bool.Decides.{nat_tests}
use Rattle.std.proofs.lemmas.List.{length-take-le, take_all}
use Rattle.syntax65.specs.declared.source_location.SourceLocation.{SourceLocation}
use Rattle.ast65.specs.declared.fault.AsmFault.{AsmFault}
use Rattle.ast65.specs.declared.fault.AsmFault.TheVariants.{BadPart}
use Rattle.semantics65.specs.Layout.{Cursor, laid_out_statement, context_of, file_limit, first_fault, is_part, remaining_from, line_fault, missing_scopes_fault, operand_fault, or_then, part_fault, trees_of, fault_if}
use Rattle.semantics65.specs.Norms.{optional_value}
use Rattle.semantics65.specs.Numbering.{IsWellFormedStatement}
use Rattle.semantics65.specs.Symbols.{Symbols}
use Rattle.sources65.specs.Machine.{State, StepsWithoutError, StepsTo, UnlessFault}
use Rattle.sources65.specs.Reading.{bytes_for, with_bytes}

-- ---- The file of a name.

named : (m : Files) (name text : List ℕ) → Some text ≡ as_text name → file_named m name ≡ fmap.get m text
named m name text e = by (is_utf8 name) e
  where
    by : (b : Bool) → Some text ≡ (if b then Some name else None) → (if b then fmap.get m name else None) ≡ fmap.get m text
    by true h = let same : text ≡ name = cc in ap (fmap.get m) (sym same)
    by false h = absurd cc

same_text : (name text : List ℕ) → Some text ≡ as_text name → text ≡ name
same_text name text e = by (is_utf8 name) e
  where
    by : (b : Bool) → Some text ≡ (if b then Some name else None) → text ≡ name
    by true h = cc
    by false h = absurd cc

-- a failed read of the file of a name
pub read_failed : (o : Option Files) (last_failure : LastFailure) (name text : List ℕ) → Some text ≡ as_text name → IfSome o (λ m. FailedWithin last_failure text 0 (length (bytes_in (fmap.get m text)))) → IfSome o (λ m. FailedWithin last_failure name 0 (length (bytes_in (fmap.get m name))))
read_failed o last_failure name text e h = subst (λ n. IfSome o (λ m. FailedWithin last_failure n 0 (length (bytes_in (fmap.get m n))))) (same_text name text e) h

-- a name that isn't UTF-8 has no file
pub unnamed : (m : Files) (name : List ℕ) (most : ℕ) → None ≡ as_text name → None ≡ option_map (take most) (file_named m name)
unnamed m name most e = by (is_utf8 name) e
  where
    by : (b : Bool) → None ≡ (if b then Some name else None) → None ≡ option_map (take most) (if b then fmap.get m name else None)
    by true h = absurd cc
    by false h = refl

front_some : (o : Option (List ℕ)) (most : ℕ) (bytes : List ℕ) → file_prefix o most ≡ Ok bytes → Some bytes ≡ option_map (take most) o
front_some None most bytes e = absurd cc
front_some (Some all) most bytes e = let same : take most all ≡ bytes = cc in ap Some (sym same)

front_none : (o : Option (List ℕ)) (most : ℕ) → file_prefix o most ≡ Err FileNotFound → None ≡ option_map (take most) o
front_none None most e = refl
front_none (Some all) most e = absurd cc

pub read_some : (m : Files) (name text : List ℕ) (most : ℕ) (bytes : List ℕ) → Some text ≡ as_text name → file_prefix (fmap.get m text) most ≡ Ok bytes → Some bytes ≡ option_map (take most) (file_named m name)
read_some m name text most bytes e h = front_some (fmap.get m text) most bytes h ∙ ap (option_map (take most)) (sym (named m name text e))

pub read_none : (m : Files) (name text : List ℕ) (most : ℕ) → Some text ≡ as_text name → file_prefix (fmap.get m text) most ≡ Err FileNotFound → None ≡ option_map (take most) (file_named m name)
read_none m name text most e h = front_none (fmap.get m text) most h ∙ ap (option_map (take most)) (sym (named m name text e))

-- the statement with the bytes that were read of its file
pub part_read : (m : Files) (file name slice : List ℕ) (line : ℕ) (bytes : Option (List ℕ)) (start len : Option Tree) (x : Statement) → x ≡ IncbinPath name start len → slice ≡ name → bytes ≡ option_map (take 16777217) (file_named m (sibling_path file slice)) → Incbin bytes start len ≡ read_bytes m (location_in file line) x
part_read m file name slice line bytes start len x is same read =
    ap (λ b. Incbin b start len) (read ∙ ap (λ n. option_map (take 16777217) (file_named m (sibling_path file n))) same)
    ∙ sym (ap (read_bytes m (location_in file line)) is)

-- ---- Well-formed statements.

pub read_sound : (m : Files) (location : SourceLocation) (x : Statement) → IsWellFormedStatement x → IsWellFormedStatement (read_bytes m location x)
read_sound m location (IncbinPath name start len) sound = tt
read_sound m location _ sound = sound

-- ---- Files that are too long.

abbrev or_bad : Option AsmFault → AsmFault
or_bad None = BadPart
or_bad (Some e) = e

first_of : (a b : Option AsmFault) (rest : List (Option AsmFault)) → first_fault (None ∷ a ∷ None ∷ None ∷ None ∷ b ∷ None ∷ None ∷ Some BadPart ∷ rest) ≡ Some (or_bad (or_then a b))
first_of (Some e) b rest = refl
first_of None (Some e) rest = refl
first_of None None rest = refl

-- the error of a statement with such a file
abbrev long_fault : Symbols → Cursor → Option Tree → Option Tree → AsmFault
long_fault y w start len =
    or_bad (or_then (missing_scopes_fault y.scopes w.scope (trees_of (Incbin None start len))) (operand_fault y (context_of w) (Incbin None start len)))

too_long : (y : Symbols) (w : Cursor) (bytes : List ℕ) (start len : Option Tree) → nat_le (length bytes) file_limit ≡ false → line_fault y w (Incbin (Some bytes) start len) ≡ Some (long_fault y w start len)
too_long y w bytes start len long =
    let a : Option AsmFault = missing_scopes_fault y.scopes w.scope (trees_of (Incbin None start len)) in
    let b : Option AsmFault = operand_fault y (context_of w) (Incbin None start len) in
    let P : Option AsmFault → Type 0 = λ f. (rest : List (Option AsmFault)) → first_fault (None ∷ a ∷ None ∷ None ∷ None ∷ b ∷ None ∷ None ∷ f ∷ rest) ≡ Some (long_fault y w start len) in
    let bad : part_fault y (context_of w) (Incbin (Some bytes) start len) ≡ Some BadPart = part_bad (is_part (length bytes) (optional_value y (context_of w) start _) (optional_value y (context_of w) len (remaining_from (length bytes) (optional_value y (context_of w) start _)))) (nat_le (length bytes) file_limit) long in
    subst P (sym bad) (first_of a b) _
  where
    part_bad : (p within : Bool) → within ≡ false → fault_if (not (within && p)) BadPart ≡ Some BadPart
    part_bad p within e = subst (λ b. fault_if (not (b && p)) BadPart ≡ Some BadPart) (sym e) refl

takes_same : (t : State) (location : SourceLocation) (x z : Statement) (r : Result State AsmFault) (e : AsmFault) → line_fault t.symbols t.cursor x ≡ Some e → line_fault t.symbols t.cursor z ≡ Some e → StepsTo t location x r → StepsTo t location z r
takes_same t location x z r e p q h =
    let fails : r ≡ Err e = subst (λ (f : Option AsmFault). UnlessFault f (StepsWithoutError t (laid_out_statement t.symbols t.cursor location x)) r) p h in
    subst (λ (f : Option AsmFault). UnlessFault f (StepsWithoutError t (laid_out_statement t.symbols t.cursor location z)) r) (sym q) fails

-- ---- Whole files.

whole : (t : State) (location : SourceLocation) (bytes : Option (List ℕ)) (start len : Option Tree) (r : Result State AsmFault) → StepsTo t location (Incbin (option_map (take 16777217) bytes) start len) r → StepsTo t location (Incbin bytes start len) r
whole t location None start len r h = h
whole t location (Some bytes) start len r h = by (nat_le (length bytes) file_limit) refl
  where
    by : (b : Bool) → nat_le (length bytes) file_limit ≡ b → StepsTo t location (Incbin (Some bytes) start len) r
    by true few =
        let most : length bytes ≤ 16777217 = grind (arith, nat_tests) in
        subst (λ (all : List ℕ). StepsTo t location (Incbin (Some all) start len) r) (take_all 16777217 bytes most) h
    by false many =
        let most : 16777217 ≤ length bytes = grind (arith, nat_tests) in
        let front : length (take 16777217 bytes) ≡ 16777217 = length-take-le 16777217 bytes most in
        let cut : nat_le (length (take 16777217 bytes)) file_limit ≡ false = subst (λ n. nat_le n file_limit ≡ false) (sym front) refl in
        takes_same t location (Incbin (Some (take 16777217 bytes)) start len) (Incbin (Some bytes) start len) r (long_fault t.symbols t.cursor start len)
        (too_long t.symbols t.cursor (take 16777217 bytes) start len cut) (too_long t.symbols t.cursor bytes start len many) h

-- a step with the bytes that were read of the file is a step with the whole file
pub takes_whole : (m : Files) (location : SourceLocation) (x : Statement) (t : State) (r : Result State AsmFault) → StepsTo t location (read_bytes m location x) r → StepsTo t location (with_bytes m location x) r
takes_whole m location (IncbinPath name start len) t r h = whole t location (bytes_for m location name) start len r h
takes_whole m location _ t r h = h
