-- Sums without names are checked while they are read: areas with only such sums are fixed.
use Rattle.std.proofs.lemmas.Grind.{common_steps}
use Rattle.std.proofs.Common.{◌≡◌, ◌≤◌, ℕ, ◌+◌, ◌^◌, Bool, false, not, List, [], ◌∷◌, ◌++◌, find, Some, None, is_some, refl, sym, ap, ◌∙◌, Ok, Err, arith, nat_lt, true, Option, unwrap_or, subst}
use Rattle.std.specs.Prelude.{Result, if◌then◌else◌, ◌||◌}
use Rattle.std.specs.List.{AllByRecursion, list_any}
use Rattle.std.proofs.lemmas.Bool.Decides.{nat_tests}
use Rattle.base65.specs.Outcome.{◌>>=◌, try_map}
use Rattle.script65.specs.declared.fault.FaultAt.{FaultAt}
use Rattle.script65.specs.AreaSums.{sum_where, difference, SumContextView, bounds_in, is_known, number_or_fault, is_operand_known, known_placements, area_bounds, sum_by, sum_in, sum_of, sum_or_unknown, term_value, with_start}
use Rattle.script65.specs.declared.script.MemoryArea.{MemoryArea}
use Rattle.script65.specs.declared.script.Operand.TheVariants as operand
use Rattle.script65.specs.declared.script.SegmentRow.{SegmentRow}
use Rattle.script65.specs.declared.script.Term.{Term}
use Rattle.script65.specs.PlacingLaws.{AreFixed, AreNumbers, IsFixed, ConstantSumsDetermineAreas, fixed_from, HasNoNames, SumsWithoutNamesAreConstant}
use Rattle.script65.specs.Placing.{area_placement, areas_from, rows_from, sum_context_at}
use Rattle.script65.specs.declared.placement.AreaPlacement.{AreaPlacement}
use Rattle.script65.specs.declared.placement.PlaceFault.{PlaceFault}
use Rattle.script65.specs.declared.placement.PlaceFault.TheVariants.{AreaOutOfRange}
use Rattle.script65.specs.declared.placement.RowPlacement.{RowPlacement}
use Rattle.script65.specs.declared.placing.row_placing.Bounds.{Bounds}
use Rattle.script65.specs.declared.placing.row_placing.RowState.{RowState}
use Rattle.std.specs.Option.{option_map, option_map_or, option_and_then}
use Rattle.std.specs.Prelude.{⊤}
use Rattle.std.proofs.Common.{cond}
use Rattle.script65.specs.declared.fault.Fault.{Fault}
use Rattle.script65.specs.declared.fault.Fault.TheVariants.{AttributeTwice, NameTwice, SyntaxError}
use Rattle.std.specs.Prelude.{codes}
use Rattle.std.specs.Str.{bytes_eq, str_eq_ignore_ascii_case}
use Rattle.script65.specs.Attributes.{Block, memory, segments, symbols, ValueKind, a_sum, a_byte, number_from, one_of, an_area, a_file, Value, number, unknown_sum, attributes, blocks, find_keyword, value_of_keyword}
use Rattle.script65.specs.Entries.{Entries, ConfigEntry, AttributeValue, ParsedTerm, area_entry_fault, as_number, entry_fault, attribute_for, has_attribute, no_entries, number_for, of_kind, parsed_term, terms_for, sum_of_terms, value_for, value_of, with_attribute}
use Rattle.script65.specs.SyntaxErrors.{ParseState, Move, accepted, finished, rejected, between_blocks, after_block_keyword, between_entries, after_name, between_attributes, after_keyword, before_value, before_term, after_term, after_value}
use Rattle.script65.proofs.TokenByToken.{Reads, next, ends, stops, ReadsText}
use Rattle.script65.proofs.GrammarEquivalence.{reads_of}
use Rattle.script65.specs.Entries as entries
use Rattle.script65.specs.SyntaxErrors as breaks
use Rattle.script65.specs.Scripts.{UnlessTooLong, area_from, is_too_long, sum_for, sums_of, term_from}
use Rattle.script65.specs.Tokens.{Lexeme, token, identifier, semicolon, comma, colon, equals, plus, minus, brace, end_brace, the_end}
use Rattle.script65.proofs.ValidReferences.{and_then, each_holds, extent_is, made_of, ok_is}

-- ---- Areas whose sums are numbers only.

abbrev AllNumbers : List Term → Type 0
AllNumbers ts = AllByRecursion (λ (t : Term). (m : ℕ) × (t.operand ≡ operand.Number m)) ts

-- sums of numbers don't depend on the placements of areas and rows
come_fixed : (is : Term → Bool) (ps qs : List AreaPlacement) (rs us : List RowPlacement) (ts : List Term) → AllNumbers ts → sum_where is (term_value ps rs) ts ≡ sum_where is (term_value qs us) ts
come_fixed is ps qs rs us [] h = refl
come_fixed is ps qs rs us (t ∷ ts) h = grind (arith, common_steps, (come_fixed is ps qs rs us ts h.1))

sum_fixed : (ps : List AreaPlacement) (rs : List RowPlacement) (ts : List Term) (n : ℕ) → AreNumbers ts n → sum_by ps rs ts ≡ Some n
sum_fixed ps rs ts n h = grind (arith, common_steps, come_fixed)

none_unknown : (k : ℕ) (begun : Bool) (rows : List SegmentRow) (ts : List Term) → AllNumbers ts → find (λ t. not (is_known k begun rows t)) ts ≡ None
none_unknown k begun rows [] h = refl
none_unknown k begun rows (t ∷ ts) h =
    ap (λ o. if not (is_operand_known k begun rows o) then Some t else find (λ t. not (is_known k begun rows t)) ts) h.0.1
    ∙ none_unknown k begun rows ts h.1

in_fixed : (s : SumContextView) (ts : List Term) (n : ℕ) → AreNumbers ts n → sum_in s ts ≡ Ok n
in_fixed s ts n h =
    ap (sum_or_unknown s ts) (none_unknown s.k (is_some s.start) s.rows ts h.numbers)
    ∙ ap (number_or_fault s.own.name) (sum_fixed (known_placements s) s.row_placements ts n h)

pub not_over : (x : ℕ) → x ≤ 2 ^ 32 → nat_lt (2 ^ 32) x ≡ false
not_over x h = grind (arith, nat_tests)

bounds_fixed : (s : SumContextView) (b : Bounds) → IsFixed s.own b → bounds_in s ≡ Ok b
bounds_fixed s b h =
    let ends : b.end ≡ b.start + h.size = h.ends in
    let small : b.start + h.size ≤ 2 ^ 32 = omega (arith, h.inside) in
    let made : Bounds = record { start = b.start; end = b.start + h.size } in
    ap (λ r. r >>= λ start. sum_in (with_start s start) s.own.size >>= λ size. area_bounds s.own.name start size) (in_fixed s s.own.start b.start h.starts)
    ∙ ap (λ r. r >>= λ size. area_bounds s.own.name b.start size) (in_fixed (with_start s b.start) s.own.size h.size h.spans)
    ∙ ap (λ t. if t then Err (AreaOutOfRange s.own.name) else Ok made) (not_over (b.start + h.size) small)
    ∙ ap (λ n. let c : Bounds = record { start = b.start; end = n } in let r : Result Bounds PlaceFault = Ok c in r) (sym ends)

areas_fixed : (all : List MemoryArea) (rows : List SegmentRow) (areas : List MemoryArea) (bs : List Bounds) (k : ℕ) (placed : List AreaPlacement) (ss : List RowState) → AreFixed areas bs → areas_from k all rows areas placed ss ≡ fixed_from k rows areas bs placed ss
areas_fixed all rows [] [] k placed ss h = refl
areas_fixed all rows [] (b ∷ bs) k placed ss h = absurd h
areas_fixed all rows (a ∷ rest) [] k placed ss h = absurd h
areas_fixed all rows (a ∷ rest) (b ∷ bs) k placed ss h =
    ap (λ r. r >>= λ b. rows_from k a b rows ss b.start >>= λ x. areas_from (k + 1) all rows rest (placed ++ area_placement b x.1 ∷ []) x.0) (bounds_fixed (sum_context_at k all rows a placed ss) b h.0)
    ∙ by (rows_from k a b rows ss b.start) (λ x. areas_fixed all rows rest bs (k + 1) (placed ++ area_placement b x.1 ∷ []) x.0 h.1)
  where
    by : (r : Result (List RowState × ℕ) PlaceFault) → ((x : List RowState × ℕ) → areas_from (k + 1) all rows rest (placed ++ area_placement b x.1 ∷ []) x.0 ≡ fixed_from (k + 1) rows rest bs (placed ++ area_placement b x.1 ∷ []) x.0) → (r >>= λ x. areas_from (k + 1) all rows rest (placed ++ area_placement b x.1 ∷ []) x.0) ≡ (r >>= λ x. fixed_from (k + 1) rows rest bs (placed ++ area_placement b x.1 ∷ []) x.0)
    by (Ok x) again = again x
    by (Err e) again = refl

pub only_numbers : ConstantSumsDetermineAreas
only_numbers script needs bounds h = grind (arith, common_steps, areas_fixed)

-- ---- The invariant of reading a script.

put_after : {A : Type 0} (P : A → Type 0) (xs : List A) (x : A) → AllByRecursion P xs → P x → AllByRecursion P (xs ++ x ∷ [])
put_after P [] x h p = (p, tt)
put_after P (y ∷ ys) x h p = (h.0, put_after P ys x h.1 p)

pub find_all : {A : Type 0} (P : A → Type 0) (p : A → Bool) (xs : List A) (x : A) → AllByRecursion P xs → find p xs ≡ Some x → P x
find_all P p [] x h e = absurd cc
find_all P p (y ∷ ys) x h e = by (p y) e (λ f. find_all P p ys x h.1 f)
  where
    by : (b : Bool) → cond b (Some y) (find p ys) ≡ Some x → (find p ys ≡ Some x → P x) → P x
    by true e again = let same : y ≡ x = cc in subst P same h.0
    by false e again = again e

abbrev takes_sum : List ℕ → Bool
takes_sum a = bytes_eq (codes "start") a || bytes_eq (codes "size") a

-- the value of a sum is the sum of its terms
abbrev pub IsSummed : AttributeValue → Type 0
IsSummed g = (takes_sum g.identifier ≡ true) → sum_of_terms g.parsed_terms ≡ Some g.value

abbrev pub AreSummed : List AttributeValue → Type 0
AreSummed given = AllByRecursion IsSummed given

-- an area whose sums have their values and whose entry has no error
pub record IsGood (e : ConfigEntry) : Type 0 where
  pub summed : AreSummed e.assignments
  pub ends : area_entry_fault e ≡ None

abbrev pub AreGood : Entries → Type 0
AreGood es = AllByRecursion IsGood es.areas

-- a condition only for entries of areas
abbrev InMemory : Block → Type 0 → Type 0
InMemory memory P = P
InMemory _ P = ⊤

abbrev TakesSum : List ℕ × ValueKind → Type 0
TakesSum row = takes_sum row.0 ≡ true → row.1 ≡ a_sum

abbrev Keeps : ParseState → Type 0
Keeps between_blocks = ⊤
Keeps (after_block_keyword b) = ⊤
Keeps (between_entries b) = ⊤
Keeps (after_name b e) = InMemory b (AreSummed e.assignments)
Keeps (between_attributes b e) = InMemory b (AreSummed e.assignments)
Keeps (after_keyword b e row) = InMemory b (AreSummed e.assignments) × InMemory b (TakesSum row)
Keeps (before_value b e row) = InMemory b (AreSummed e.assignments) × InMemory b (TakesSum row)
Keeps (before_term b e a ps subtracted) = InMemory b (AreSummed e.assignments)
Keeps (after_term b e a ps) = InMemory b (AreSummed e.assignments)
Keeps (after_value b e) = InMemory b (AreSummed e.assignments)

-- the move of a token preserves the invariant
abbrev Holds : Move → Type 0
Holds (accepted es p) = AreGood es × Keeps p
Holds (finished es) = AreGood es
Holds (rejected f at) = ⊤

memory_rows : AllByRecursion TakesSum (attributes memory)
memory_rows = (λ h. refl, (λ h. refl, (λ h. absurd cc, (λ h. absurd cc, (λ h. absurd cc, (λ h. absurd cc, (λ h. absurd cc, tt)))))))

row_takes : (b : Block) (w : List ℕ) (row : List ℕ × ValueKind) → find_keyword w (attributes b) ≡ Some row → InMemory b (TakesSum row)
row_takes memory w row h = find_all TakesSum (λ (row : List ℕ × ValueKind). str_eq_ignore_ascii_case w row.0) (attributes memory) row memory_rows h
row_takes segments w row h = tt
row_takes symbols w row h = tt

block_holds : (es : Entries) (l : Lexeme) (at : ℕ) → AreGood es → Holds (breaks.block_keyword es l at)
block_holds es (identifier w) at good = by (value_of_keyword w blocks)
  where
    by : (o : Option Block) → Holds (option_map_or (λ b. accepted es (after_block_keyword b)) o (rejected SyntaxError at))
    by (Some b) = (good, tt)
    by None = tt
block_holds es the_end at good = good
block_holds es _ at good = tt

brace_holds : (es : Entries) (b : Block) (l : Lexeme) (at : ℕ) → AreGood es → Holds (breaks.block_brace es b l at)
brace_holds es b brace at good = (good, tt)
brace_holds es b _ at good = tt

none_given : (b : Block) → InMemory b (AreSummed [])
none_given memory = tt
none_given segments = tt
none_given symbols = tt

name_holds : (es : Entries) (b : Block) (l : Lexeme) (at : ℕ) → AreGood es → Holds (breaks.entry_name es b l at)
name_holds es b (identifier w) at good = by (list_any (λ (e : ConfigEntry). bytes_eq w e.name) (of_kind b es))
  where
    by : (x : Bool) → Holds (if x then rejected NameTwice at else accepted es (after_name b (record { name = w; at = at; assignments = [] })))
    by true = tt
    by false = (good, none_given b)
name_holds es b end_brace at good = (good, tt)
name_holds es b _ at good = tt

colon_holds : (es : Entries) (b : Block) (e : ConfigEntry) (l : Lexeme) (at : ℕ) → AreGood es → InMemory b (AreSummed e.assignments) → Holds (breaks.entry_colon es b e l at)
colon_holds es b e colon at good kept = (good, kept)
colon_holds es b e _ at good kept = tt

closed : (es : Entries) (b : Block) (e : ConfigEntry) → AreGood es → InMemory b (AreSummed e.assignments) → entry_fault b e ≡ None → AreGood (entries.with_entry b e es)
closed es memory e good kept h = put_after IsGood es.areas e good (record { summed = kept; ends = h })
closed es segments e good kept h = good
closed es symbols e good kept h = good

attribute_holds : (es : Entries) (b : Block) (e : ConfigEntry) (l : Lexeme) (at : ℕ) → AreGood es → InMemory b (AreSummed e.assignments) → Holds (breaks.attribute_or_end es b e l at)
attribute_holds es b e (identifier w) at good kept = by (find_keyword w (attributes b)) refl
  where
    once : (row : List ℕ × ValueKind) (x : Bool) → InMemory b (TakesSum row) → Holds (if x then rejected AttributeTwice at else accepted es (after_keyword b e row))
    once row true value_kind = tt
    once row false value_kind = (good, (kept, value_kind))

    by : (o : Option (List ℕ × ValueKind)) → find_keyword w (attributes b) ≡ o → Holds (breaks.known_attribute es b e o at)
    by (Some row) h = once row (has_attribute row.0 e) (row_takes b w row h)
    by None h = tt
attribute_holds es b e semicolon at good kept = by (entry_fault b e) refl
  where
    by : (o : Option Fault) → entry_fault b e ≡ o → Holds (breaks.entry_end es b e o at)
    by (Some f) h = tt
    by None h = (closed es b e good kept h, tt)
attribute_holds es b e _ at good kept = tt

comma_holds : (es : Entries) (b : Block) (e : ConfigEntry) (l : Lexeme) (at : ℕ) → AreGood es → InMemory b (AreSummed e.assignments) → Holds (breaks.comma_or_next es b e l at)
comma_holds es b e comma at good kept = (good, kept)
comma_holds es b e l at good kept = attribute_holds es b e l at good kept

with_more : (b : Block) (e : ConfigEntry) (g : AttributeValue) → InMemory b (AreSummed e.assignments) → InMemory b (IsSummed g) → InMemory b (AreSummed (with_attribute g e).assignments)
with_more memory e g kept h = put_after IsSummed e.assignments g kept h
with_more segments e g kept h = tt
with_more symbols e g kept h = tt

part_holds : (es : Entries) (b : Block) (e : ConfigEntry) (a : List ℕ) (ps : List ParsedTerm) (at : ℕ) (r : Result ParsedTerm Fault) → AreGood es → InMemory b (AreSummed e.assignments) → Holds (breaks.add_term es b e a ps at r)
part_holds es b e a ps at (Ok p) good kept = (good, kept)
part_holds es b e a ps at (Err f) good kept = tt

-- a value that is no sum
give_holds : (es : Entries) (b : Block) (e : ConfigEntry) (a : List ℕ) (at : ℕ) (r : Result Value Fault) → AreGood es → InMemory b (AreSummed e.assignments) → InMemory b (takes_sum a ≡ true → ⊥) → Holds (breaks.attribute_move es b e a at r)
give_holds es b e a at (Ok v) good kept other = (good, with_more b e (record { identifier = a; value = v; parsed_terms = [] }) kept (never b other))
  where
    never : (b : Block) → InMemory b (takes_sum a ≡ true → ⊥) → InMemory b (IsSummed (record { identifier = a; value = v; parsed_terms = [] }))
    never memory other = λ h. absurd (other h)
    never segments other = tt
    never symbols other = tt
give_holds es b e a at (Err f) good kept other = tt

no_sum : (b : Block) (a : List ℕ) (value_kind : ValueKind) → (value_kind ≡ a_sum → ⊥) → InMemory b (TakesSum (a, value_kind)) → InMemory b (takes_sum a ≡ true → ⊥)
no_sum memory a value_kind other h = λ t. other (h t)
no_sum segments a value_kind other h = tt
no_sum symbols a value_kind other h = tt

value_holds : (es : Entries) (b : Block) (e : ConfigEntry) (a : List ℕ) (value_kind : ValueKind) (l : Lexeme) (at : ℕ) → AreGood es → InMemory b (AreSummed e.assignments) → InMemory b (TakesSum (a, value_kind)) → Holds (breaks.attribute_value es b e a value_kind l at)
value_holds es b e a a_sum l at good kept row = part_holds es b e a [] at (parsed_term false at l) good kept
value_holds es b e a (number_from low high) l at good kept row = give_holds es b e a at (value_of (number_from low high) l) good kept (no_sum b a (number_from low high) (λ h. cc) row)
value_holds es b e a a_byte l at good kept row = give_holds es b e a at (value_of a_byte l) good kept (no_sum b a a_byte (λ h. cc) row)
value_holds es b e a (one_of keyword_set) l at good kept row = give_holds es b e a at (value_of (one_of keyword_set) l) good kept (no_sum b a (one_of keyword_set) (λ h. cc) row)
value_holds es b e a an_area l at good kept row = give_holds es b e a at (value_of an_area l) good kept (no_sum b a an_area (λ h. cc) row)
value_holds es b e a a_file l at good kept row = give_holds es b e a at (value_of a_file l) good kept (no_sum b a a_file (λ h. cc) row)

equals_holds : (es : Entries) (b : Block) (e : ConfigEntry) (row : List ℕ × ValueKind) (l : Lexeme) (at : ℕ) → AreGood es → InMemory b (AreSummed e.assignments) → InMemory b (TakesSum row) → Holds (breaks.equals_or_value es b e row l at)
equals_holds es b e row equals at good kept value_kind = (good, (kept, value_kind))
equals_holds es b e row l at good kept value_kind = value_holds es b e row.0 row.1 l at good kept value_kind

end_holds : (es : Entries) (b : Block) (e : ConfigEntry) (a : List ℕ) (ps : List ParsedTerm) (o : Option Value) (l : Lexeme) (at : ℕ) → AreGood es → InMemory b (AreSummed e.assignments) → sum_of_terms ps ≡ o → Holds (breaks.sum_end es b e a ps o l at)
end_holds es b e a ps (Some v) l at good kept h = comma_holds es b (with_attribute (record { identifier = a; value = v; parsed_terms = ps }) e) l at good (with_more b e (record { identifier = a; value = v; parsed_terms = ps }) kept (summed b))
  where
    summed : (b : Block) → InMemory b (IsSummed (record { identifier = a; value = v; parsed_terms = ps }))
    summed memory = λ t. h
    summed segments = tt
    summed symbols = tt
end_holds es b e a ps None l at good kept h = tt

sign_holds : (es : Entries) (b : Block) (e : ConfigEntry) (a : List ℕ) (ps : List ParsedTerm) (l : Lexeme) (at : ℕ) → AreGood es → InMemory b (AreSummed e.assignments) → Holds (breaks.sign_or_end es b e a ps l at)
sign_holds es b e a ps plus at good kept = (good, kept)
sign_holds es b e a ps minus at good kept = (good, kept)
sign_holds es b e a ps l at good kept = end_holds es b e a ps (sum_of_terms ps) l at good kept refl

move_holds : (es : Entries) (p : ParseState) (l : Lexeme) (at : ℕ) → AreGood es → Keeps p → Holds (breaks.token_move es p l at)
move_holds es between_blocks l at good kept = block_holds es l at good
move_holds es (after_block_keyword b) l at good kept = brace_holds es b l at good
move_holds es (between_entries b) l at good kept = name_holds es b l at good
move_holds es (after_name b e) l at good kept = colon_holds es b e l at good kept
move_holds es (between_attributes b e) l at good kept = attribute_holds es b e l at good kept
move_holds es (after_keyword b e row) l at good kept = equals_holds es b e row l at good kept.0 kept.1
move_holds es (before_value b e row) l at good kept = value_holds es b e row.0 row.1 l at good kept.0 kept.1
move_holds es (before_term b e a ps subtracted) l at good kept = part_holds es b e a ps at (parsed_term subtracted at l) good kept
move_holds es (after_term b e a ps) l at good kept = sign_holds es b e a ps l at good kept
move_holds es (after_value b e) l at good kept = comma_holds es b e l at good kept

reads_good : (bytes : List ℕ) (es : Entries) (p : ParseState) (at : ℕ) (r : Result Entries FaultAt) → Reads bytes es p at r → AreGood es → Keeps p → (fs : Entries) → r ≡ Ok fs → AreGood fs
reads_good bytes _ _ _ _ (next es fs p q at r e k) good kept gs h =
    let held = subst Holds e (move_holds es p (token bytes at).lexeme (token bytes at).at good kept) in
    reads_good bytes fs q (token bytes at).following r k held.0 held.1 gs h
reads_good bytes _ _ _ _ (ends es fs p at e) good kept gs h = subst AreGood (ok_is fs gs h) (subst Holds e (move_holds es p (token bytes at).lexeme (token bytes at).at good kept))
reads_good bytes _ _ _ _ (stops es p at f offset e) good kept gs h = absurd cc

entries_good : (bytes : List ℕ) (es : Entries) → ReadsText bytes (Ok es) → AreGood es
entries_good bytes es = by (is_too_long bytes)
  where
    by : (x : Bool) → UnlessTooLong x (Ok es) (Reads bytes no_entries between_blocks 0 (Ok es)) → AreGood es
    by true h = absurd cc
    by false h = reads_good bytes no_entries between_blocks 0 (Ok es) h tt tt es refl

-- ---- Sums of numbers.

abbrev NoNames : List ParsedTerm → Type 0
NoNames ps = AllByRecursion (λ (p : ParsedTerm). is_some p.number ≡ true) ps

-- if no parsed term has a name, the terms are their numbers
record SameSums (ps : List ParsedTerm) (ts : List Term) : Type 0 where
  pub numbers : AllByRecursion (λ (t : Term). (m : ℕ) × (t.operand ≡ operand.Number m)) ts
  pub added : sum_where (λ (t : Term). not t.minus) (term_value [] []) ts ≡ sum_where (λ (p : ParsedTerm). not p.minus) (λ (p : ParsedTerm). unwrap_or p.number 0) ps
  pub subtracted : sum_where (λ (t : Term). t.minus) (term_value [] []) ts ≡ sum_where (λ (p : ParsedTerm). p.minus) (λ (p : ParsedTerm). unwrap_or p.number 0) ps

same_sums : (es : Entries) (ps : List ParsedTerm) (ts : List Term) → NoNames ps → try_map (term_from es) ps ≡ Ok ts → SameSums ps ts
same_sums es [] ts n h = subst (SameSums []) (ok_is {E = FaultAt} [] ts h) (record { numbers = tt; added = refl; subtracted = refl })
same_sums es (p ∷ ps) ts n h = by p.number refl (λ us k. same_sums es ps us n.1 k)
  where
    by : (o : Option ℕ) → p.number ≡ o → ((us : List Term) → try_map (term_from es) ps ≡ Ok us → SameSums ps us) → SameSums (p ∷ ps) ts
    by None e again = let never : false ≡ true = ap is_some (sym e) ∙ n.0 in absurd cc
    by (Some m) e again =
        let t : Term = record { minus = p.minus; operand = operand.Number m } in
        let first : term_from es p ≡ Ok t = rw e refl in
        let x = and_then (term_from es p) (λ y. try_map (term_from es) ps >>= (λ ys. Ok (y ∷ ys))) ts h in
        let same : t ≡ x.0 = ok_is {E = FaultAt} t x.0 (sym first ∙ x.1) in
        let rest = and_then (try_map (term_from es) ps) (λ ys. Ok (x.0 ∷ ys)) ts x.2 in
        let more = again rest.0 rest.1 in
        let all : t ∷ rest.0 ≡ ts = ap (λ t. t ∷ rest.0) same ∙ ok_is {E = FaultAt} (x.0 ∷ rest.0) ts rest.2 in
        let number : m ≡ unwrap_or p.number 0 = ap (λ o. unwrap_or o 0) (sym e) in
        let good : SameSums (p ∷ ps) (t ∷ rest.0) = record {
          numbers = ((m, refl), more.numbers);
          added = ap (λ n. (if not p.minus then n else 0) + sum_where (λ (t : Term). not t.minus) (term_value [] []) rest.0) number ∙ ap (λ n. (if not p.minus then unwrap_or p.number 0 else 0) + n) more.added;
          subtracted = ap (λ n. (if p.minus then n else 0) + sum_where (λ (t : Term). t.minus) (term_value [] []) rest.0) number ∙ ap (λ n. (if p.minus then unwrap_or p.number 0 else 0) + n) more.subtracted;
        } in
        subst (SameSums (p ∷ ps)) all good

no_name : (ps : List ParsedTerm) → NoNames ps → list_any (λ (p : ParsedTerm). not (is_some p.number)) ps ≡ false
no_name [] n = refl
no_name (p ∷ ps) n = ap (λ b. not b || list_any (λ (p : ParsedTerm). not (is_some p.number)) ps) n.0 ∙ no_name ps n.1

-- the value of an attribute whose sum has no names
record IsNumber (es : Entries) (a : List ℕ) (e : ConfigEntry) (ts : List Term) : Type 0 where
  pub number : ℕ
  pub given_is : number_for a e ≡ Some number
  pub terms : AreNumbers ts number

find_good : (a : List ℕ) (given : List AttributeValue) → AreSummed given → is_some (find (λ (g : AttributeValue). bytes_eq a g.identifier) given) ≡ true → (g : AttributeValue) × (find (λ (g : AttributeValue). bytes_eq a g.identifier) given ≡ Some g) × IsSummed g × (bytes_eq a g.identifier ≡ true)
find_good a [] s h = absurd cc
find_good a (g ∷ gs) s h = by (bytes_eq a g.identifier) refl h (find_good a gs s.1)
  where
    by : (b : Bool) → bytes_eq a g.identifier ≡ b → is_some (cond b (Some g) (find (λ (g : AttributeValue). bytes_eq a g.identifier) gs)) ≡ true → (is_some (find (λ (g : AttributeValue). bytes_eq a g.identifier) gs) ≡ true → (x : AttributeValue) × (find (λ (g : AttributeValue). bytes_eq a g.identifier) gs ≡ Some x) × IsSummed x × (bytes_eq a x.identifier ≡ true)) → (x : AttributeValue) × (cond b (Some g) (find (λ (g : AttributeValue). bytes_eq a g.identifier) gs) ≡ Some x) × IsSummed x × (bytes_eq a x.identifier ≡ true)
    by true e h again = (g, refl, s.0, e)
    by false e h again = again h

number_of : (es : Entries) (a : List ℕ) (e : ConfigEntry) (ts : List Term) → ((g : AttributeValue) → bytes_eq a g.identifier ≡ true → takes_sum g.identifier ≡ true) → AreSummed e.assignments → has_attribute a e ≡ true → NoNames (terms_for a e) → sum_for es a e ≡ Ok ts → IsNumber es a e ts
number_of es a e ts value_kind summed has_a none h =
    let g = find_good a e.assignments summed has_a in
    let parsed_terms : terms_for a e ≡ g.0.parsed_terms = ap (λ o. option_map_or (λ (g : AttributeValue). g.parsed_terms) o []) g.1 in
    let had : value_for a e ≡ Some g.0.value = ap (option_map (λ (g : AttributeValue). g.value)) g.1 in
    let sum : sum_of_terms g.0.parsed_terms ≡ Some g.0.value = g.2 (value_kind g.0 g.3) in
    let unnamed : NoNames g.0.parsed_terms = subst NoNames parsed_terms none in
    let whole : option_map number (sum_of (λ (p : ParsedTerm). p.minus) (λ (p : ParsedTerm). unwrap_or p.number 0) g.0.parsed_terms) ≡ Some g.0.value = ap (λ b. if b then Some unknown_sum else option_map number (sum_of (λ (p : ParsedTerm). p.minus) (λ (p : ParsedTerm). unwrap_or p.number 0) g.0.parsed_terms)) (sym (no_name g.0.parsed_terms unnamed)) ∙ sum in
    let same = same_sums es g.0.parsed_terms ts unnamed (ap (try_map (term_from es)) (sym parsed_terms) ∙ h) in
    by g.0.parsed_terms g.0.value had (sum_of (λ (p : ParsedTerm). p.minus) (λ (p : ParsedTerm). unwrap_or p.number 0) g.0.parsed_terms) refl whole same
  where
    by : (ps : List ParsedTerm) (v : Value) → value_for a e ≡ Some v → (o : Option ℕ) → sum_of (λ (p : ParsedTerm). p.minus) (λ (p : ParsedTerm). unwrap_or p.number 0) ps ≡ o → option_map number o ≡ Some v → SameSums ps ts → IsNumber es a e ts
    by ps v f (Some n) g k same =
        let is : number n ≡ v = cc in
        record {
          number = n;
          given_is = ap (option_and_then as_number) f ∙ ap (λ v. as_number v) (sym is);
          terms = record {
            numbers = same.numbers;
            sum = ap (λ m. difference m (sum_where (λ (t : Term). t.minus) (term_value [] []) ts)) same.added ∙ ap (difference (sum_where (λ (p : ParsedTerm). not p.minus) (λ (p : ParsedTerm). unwrap_or p.number 0) ps)) same.subtracted ∙ g;
          };
        }
    by ps v f None g k same = absurd cc

starts_in : (g : AttributeValue) → bytes_eq (codes "start") g.identifier ≡ true → takes_sum g.identifier ≡ true
starts_in g h = ap (λ b. b || bytes_eq (codes "size") g.identifier) h

sizes_in : (g : AttributeValue) → bytes_eq (codes "size") g.identifier ≡ true → takes_sum g.identifier ≡ true
sizes_in g h = by (bytes_eq (codes "start") g.identifier)
  where
    by : (b : Bool) → (b || bytes_eq (codes "size") g.identifier) ≡ true
    by true = refl
    by false = h

-- ---- Areas.

-- the properties of an area at its `;`
record Ends (e : ConfigEntry) : Type 0 where
  pub start : has_attribute (codes "start") e ≡ true
  pub size : has_attribute (codes "size") e ≡ true
  pub inside : unwrap_or (number_for (codes "start") e) 0 + unwrap_or (number_for (codes "size") e) 0 ≤ 2 ^ 32

ends_of : (e : ConfigEntry) → area_entry_fault e ≡ None → Ends e
ends_of e h = grind (arith, common_steps)

fixed_of : (es : Entries) (e : ConfigEntry) (a : MemoryArea) → IsGood e × HasNoNames e → area_from es e ≡ Ok a → (b : Bounds) × IsFixed a b
fixed_of es e a q h =
    let x = and_then (sums_of es e) _ a h in
    let g = extent_is es e x.0 x.1 in
    let made = ok_is {E = FaultAt} _ a x.2 in
    let ends = ends_of e q.0.ends in
    let start = number_of es (codes "start") e x.0.0 starts_in q.0.summed ends.start q.1.0 g.start in
    let size = number_of es (codes "size") e x.0.1 sizes_in q.0.summed ends.size q.1.1 g.size in
    let first : unwrap_or (number_for (codes "start") e) 0 ≡ start.number = ap (λ o. unwrap_or o 0) start.given_is in
    let second : unwrap_or (number_for (codes "size") e) 0 ≡ size.number = ap (λ o. unwrap_or o 0) size.given_is in
    let inside : start.number + size.number ≤ 2 ^ 32 = omega (arith, ends.inside) in
    let b : Bounds = record { start = start.number; end = start.number + size.number } in
    (b, subst (λ a. IsFixed a b) made (record { size = size.number; starts = start.terms; spans = size.terms; ends = refl; inside = inside }))

all_fixed : (areas : List MemoryArea) → AllByRecursion (λ a. (b : Bounds) × IsFixed a b) areas → (bounds : List Bounds) × AreFixed areas bounds
all_fixed [] h = ([], tt)
all_fixed (a ∷ as') h = let rest = all_fixed as' h.1 in (h.0.0 ∷ rest.0, (h.0.1, rest.1))

both : (es : List ConfigEntry) → AllByRecursion IsGood es → AllByRecursion HasNoNames es → AllByRecursion (λ e. IsGood e × HasNoNames e) es
both [] g n = tt
both (e ∷ es) g n = ((g.0, n.0), both es g.1 n.1)

pub no_names_fixed : SumsWithoutNamesAreConstant
no_names_fixed bytes es script h made without =
    let m = made_of es script made in
    all_fixed script.areas (each_holds (area_from es) (λ e. IsGood e × HasNoNames e) (λ a. (b : Bounds) × IsFixed a b) (λ e a q k. fixed_of es e a q k) es.areas script.areas (both es.areas (entries_good bytes es (reads_of bytes (Ok es) h)) without) m.areas)
