-- Checks in order, and the layout of lists, instructions, `.res` and `.align`.
use Rattle.std.proofs.Common.{arith, ◌≡◌, ℕ, zero, suc, ◌+◌, ◌*◌, ◌<◌, ◌≤◌, nat_lt, drop, get_or, add-one, Bool, true, false, List, [], ◌∷◌, length, map, Option, Some, None, refl, sym, subst, ap, ◌∙◌}
use Rattle.std.proofs.lemmas.Grind.{common_steps}
use Rattle.std.specs.Prelude.{IfOk, is_some, Result, Ok, Err, ◌&&◌, sum_by, ℤ, pos, negsuc, not, ◌-◌, MatchOption, SomeIff}
use Rattle.base65.specs.Outcome.{Unless, ◌>>=◌, Refines}
use Rattle.std.proofs.lemmas.List.{drop_all}
use Rattle.std.proofs.lemmas.List.Sums.{sum_by-cons}
use Rattle.base65.specs.declared.width.Width.{Width}
use Rattle.semantics65.specs.Norms.{nat_or_zero, fill_encoding, gap, item_len, optional_value, constant_in}
use Rattle.syntax65.specs.Trees.{Tree}
use Rattle.ast65.specs.declared.fault.AsmFault.{AsmFault}
use Rattle.ast65.specs.Faults.{is_out_of_memory}
use Rattle.ast65.specs.declared.fault.AsmFault.TheVariants.{BadOperand, NotUnderstood, SectionTooLarge}
use Rattle.ast65.specs.declared.language.Item.{Item}
use Rattle.semantics65.specs.declared.contexts.EncodingChoice.{EncodingChoice}
use Rattle.semantics65.specs.Symbols.{Scope, Symbols, key_defined}
use Rattle.ast65.specs.declared.language.Statement.{Statement}
use Rattle.ast65.specs.declared.language.Statement.TheVariants as statement
use Rattle.object65.specs.Objects.{width_len, section_limit}
use Rattle.ast65.specs.Items.{literal_item}
use Rattle.std.proofs.Math.Nat.{suc-mul, zero-mul}
use Rattle.ast65.proofs.Lists.{drop_item}
use Rattle.syntax65.specs.declared.lexing.tokens.AddressSize.TheVariants.{Absolute}
use Rattle.syntax65.specs.declared.lexing.tokens.AddressSize.{AddressSize}
use Rattle.semantics65.specs.declared.contents.Segment.{Segment}
use Rattle.semantics65.specs.Layout.{Cursor, own_size, segment_at, context_of, first_fault, defined_twice, is_not_global, line_fault, opened_twice, layout_faults, scope_name, is_global_only, trees_of, is_byte_value, is_count, has_value, alignment_value_fault, item_trees, missing_scopes_fault, or_then, fault_if, unless_fault}
use Rattle.symbols65.specs.declared.measuring.StatementLayout as code
use Rattle.symbols65.specs.declared.measuring.StatementLayout.{StatementLayout}
use Rattle.symbols65.specs.Measuring.{ChecksStatement, count_if_it_fits, layout_of_statement, layout_result, naming_fault, layout_or_error}

-- ---- Steps that many proofs use.

pub unless_then : {P Q : Type 0} (b : Bool) → (P → Q) → Unless b P → Unless b Q
unless_then true f h = tt
unless_then false f h = f h

pub ok_with : {A E : Type 0} (P Q : A → Type 0) (r : Result A E) → ((x : A) → P x → Q x) → IfOk r P → IfOk r Q
ok_with x y z f h = grind (arith, common_steps)

-- ---- Checks in order.

-- the second check is made if the first one finds no error
pub two_faults : {A : Type 0} (f g : Option AsmFault) (x : A) → unless_fault (or_then f g) x ≡ (unless_fault {A = Unit {0}} f tt >>= λ u. unless_fault g x)
two_faults y g x = grind (arith, common_steps)

-- an error of the first check is that of both checks
pub refused_first : {A : Type 0} (e : AsmFault) (f g : Option AsmFault) (x : A) → Unless (is_out_of_memory e) (unless_fault {A = Unit {0}} f tt ≡ Err e) → Unless (is_out_of_memory e) (unless_fault (or_then f g) x ≡ Err e)
refused_first e f g x h = unless_then (is_out_of_memory e) (λ p. two_faults f g x ∙ ap (λ r. r >>= λ u. unless_fault g x) p) h

-- an error of a result is one of each equal result
pub refused_same : {A : Type 0} (e : AsmFault) (r s : Result A AsmFault) → s ≡ r → Unless (is_out_of_memory e) (r ≡ Err e) → Unless (is_out_of_memory e) (s ≡ Err e)
refused_same e r s q h = unless_then (is_out_of_memory e) (λ p. q ∙ p) h

-- without a first error, the error of two checks is that of the second
pub left_after : {A : Type 0} (f g : Option AsmFault) (x y : A) → unless_fault f x ≡ Ok y → or_then f g ≡ g
left_after z g x y h = grind (arith, common_steps)

-- if the first check succeeds, the result of the second is that of both
pub checked_next : (f g : Option AsmFault) (r : Result (Unit {0}) AsmFault) → ChecksStatement (Ok tt) f → ChecksStatement r g → ChecksStatement r (or_then f g)
checked_next f g r h k = subst (ChecksStatement r) (sym (left_after f g tt tt h)) k

-- ---- Lists of values.

first_item : (cs : List Scope) (scope : ℕ) (item : Item) (items : List Item) → missing_scopes_fault cs scope (item_trees (item ∷ items)) ≡ or_then (missing_scopes_fault cs scope (item_trees (item ∷ []))) (missing_scopes_fault cs scope (item_trees items))
first_item cs scope x items = grind (arith, common_steps)

-- the first missing scope of the items from an index on is that of the first item, or else that of the rest
pub items_lost : (cs : List Scope) (scope : ℕ) (items : List Item) (i : ℕ) (item : Item) → i < length items → item ≡ get_or items i item → missing_scopes_fault cs scope (item_trees (drop i items)) ≡ or_then (missing_scopes_fault cs scope (item_trees (item ∷ []))) (missing_scopes_fault cs scope (item_trees (drop (i + 1) items)))
items_lost cs scope items i item lt e = rw add-one (ap (λ is. missing_scopes_fault cs scope (item_trees is)) (drop_item items i item lt e) ∙ first_item cs scope item (drop (suc i) items))

-- ---- The remaining bytes of a section.

pub same_test : (offset remaining len : ℕ) → offset + remaining ≡ section_limit → nat_lt section_limit (offset + len) ≡ nat_lt remaining len
same_test offset remaining len e = grind (arith, common_steps)

-- ---- Segments and blocks.

pub no_segment : (gs : List Segment) (i : ℕ) → length gs ≤ i → (segment_at gs i).size ≡ Absolute
no_segment [] i h = refl
no_segment (f ∷ gs) zero h = absurd (omega arith)
no_segment (f ∷ gs) (suc i) h = no_segment gs i (omega arith)

-- ---- Lengths of lists.

-- the length of the items from an index on is that of the first item plus that of the rest
pub items_left : (width : Width) (items : List Item) (i : ℕ) (item : Item) → i < length items → item ≡ get_or items i item → sum_by (item_len width) (drop i items) ≡ item_len width item + sum_by (item_len width) (drop (i + 1) items)
items_left width items i item lt e = rw add-one (ap (sum_by (item_len width)) (drop_item items i item lt e) ∙ sum_by-cons (item_len width) item (drop (suc i) items))

pub none_left : (width : Width) (items : List Item) (i : ℕ) → length items ≤ i → sum_by (item_len width) (drop i items) ≡ 0
none_left width items i le = ap (sum_by (item_len width)) (drop_all i items le)

-- the length of a list of n numbers is n times the width of one
pub numbers_len : (width : Width) (ns : List ℕ) → sum_by (item_len width) (map literal_item ns) ≡ length ns * width_len width
numbers_len width [] = sym (zero-mul (width_len width))
numbers_len width (n ∷ ns) =
    let e = numbers_len width ns in
    let f = suc-mul (length ns) (width_len width) in
    let g : sum_by (item_len width) (map literal_item (n ∷ ns)) ≡ width_len width + sum_by (item_len width) (map literal_item ns) = sum_by-cons (item_len width) (literal_item n) (map literal_item ns) in
    g ∙ omega (arith, e, f)

-- the remaining bytes after `n` bytes, if these fit
pub what_is_left : (o : Option ℕ) (remaining len n : ℕ) → len ≡ n → SomeIff o (len ≤ remaining) (remaining - len) → MatchOption o (remaining < n) (λ left. left + n ≡ remaining)
what_is_left x remaining len n e h = grind (arith, common_steps)

-- numbers contain no names, so no scope is missing
pub numbers_keep : (cs : List Scope) (scope : ℕ) (ns : List ℕ) → missing_scopes_fault cs scope (item_trees (map literal_item ns)) ≡ None
numbers_keep cs scope [] = refl
numbers_keep cs scope (n ∷ ns) = numbers_keep cs scope ns

-- ---- Instructions.

pub last_of_two : (f : Option AsmFault) → or_then f None ≡ f
last_of_two x = grind (arith, common_steps)

-- ---- Reserved bytes.

-- the layout of `.res`, given its count and whether its fill value is a byte
abbrev pub reserved : Cursor → Bool → EncodingChoice → Option ℤ → Result StatementLayout AsmFault
reserved w b st k =
    unless_fault (first_fault (
    None
    ∷ fault_if (not (is_count k && b)) BadOperand
    ∷ None ∷ None ∷ None ∷ None ∷ None ∷ None
    ∷ fault_if (nat_lt section_limit ((context_of w).offset + nat_or_zero k)) SectionTooLarge
    ∷ []))
    (record { length = nat_or_zero k; size = own_size w; alignment = 1; encoding = st })

pub reserved_as : (y : Symbols) (w : Cursor) (n : Tree) (v : Option Tree) (k : Option ℤ) → constant_in y (context_of w) n ≡ k → layout_or_error y w (statement.Reserve n v) ≡ reserved w (is_byte_value (optional_value y (context_of w) v (pos 0))) (fill_encoding y (context_of w) v) k
reserved_as y w n v k e = ap (reserved w (is_byte_value (optional_value y (context_of w) v (pos 0))) (fill_encoding y (context_of w) v)) e

-- the case of a valid count and an invalid fill value
pub bad_fill : (w : Cursor) (b : Bool) (st : EncodingChoice) (k : Option ℤ) (m : ℕ) (e : AsmFault) → unless_fault (fault_if (not (is_count k)) BadOperand) (nat_or_zero k) ≡ Ok m → Unless (is_out_of_memory e) (unless_fault {A = Unit {0}} (fault_if (not b) BadOperand) tt ≡ Err e) → Unless (is_out_of_memory e) (reserved w b st k ≡ Err e)
bad_fill w b st x m e t h = grind (arith, common_steps)

-- the case of an invalid count
pub bad_count : (w : Cursor) (b : Bool) (st : EncodingChoice) (k : Option ℤ) (e : AsmFault) → Unless (is_out_of_memory e) (unless_fault (fault_if (not (is_count k)) BadOperand) (nat_or_zero k) ≡ Err e) → Unless (is_out_of_memory e) (reserved w b st k ≡ Err e)
bad_count w b st x e h = grind (arith, common_steps)

-- the case of valid operands and too many bytes for the section
pub reserved_full : (w : Cursor) (b : Bool) (st : EncodingChoice) (k : Option ℤ) (m : ℕ) (e : AsmFault) → unless_fault (fault_if (not (is_count k)) BadOperand) (nat_or_zero k) ≡ Ok m → unless_fault {A = Unit {0}} (fault_if (not b) BadOperand) tt ≡ Ok tt → count_if_it_fits w m ≡ Err e → Unless (is_out_of_memory e) (reserved w b st k ≡ Err e)
reserved_full w b st x m e h k f = grind (arith, common_steps)

pub reserved_well : (w : Cursor) (b : Bool) (st : EncodingChoice) (k : Option ℤ) (m len : ℕ) → unless_fault (fault_if (not (is_count k)) BadOperand) (nat_or_zero k) ≡ Ok m → unless_fault {A = Unit {0}} (fault_if (not b) BadOperand) tt ≡ Ok tt → count_if_it_fits w m ≡ Ok len → reserved w b st k ≡ Ok (record { length = len; size = own_size w; alignment = 1; encoding = st })
reserved_well w b st x m len h k f = grind (arith, common_steps)

-- ---- Fill values.

-- the error of a check doesn't depend on the value that is checked
pub fill_refused : {A B : Type 0} (e : AsmFault) (f : Option AsmFault) (x : A) (y : B) → Unless (is_out_of_memory e) (unless_fault f x ≡ Err e) → Unless (is_out_of_memory e) (unless_fault f y ≡ Err e)
fill_refused e f x y h = unless_then (is_out_of_memory e) (λ p. other f p) h
  where
    other : (f : Option AsmFault) → unless_fault f x ≡ Err e → unless_fault f y ≡ Err e
    other None p = absurd cc
    other (Some z) p = (let same : z ≡ e = cc in ap (λ k. Err k) same)

pub fill_there : (f : Option AsmFault) (st other : EncodingChoice) → unless_fault f st ≡ Ok other → (unless_fault {A = Unit {0}} f tt ≡ Ok tt) × (st ≡ other)
fill_there f st other h = grind (arith, common_steps)

-- ---- Alignment.

pub no_fault : {A : Type 0} (f : Option AsmFault) (x y : A) → unless_fault f x ≡ Ok y → (f ≡ None) × (x ≡ y)
no_fault z x y h = grind (arith, common_steps)

-- the layout of `.align`, given its alignment and whether its fill value is a byte
abbrev pub aligned : Cursor → Bool → EncodingChoice → Option ℤ → Result StatementLayout AsmFault
aligned w b st k =
    unless_fault (first_fault (
    None
    ∷ fault_if (not (has_value k && b)) BadOperand
    ∷ alignment_value_fault k
    ∷ None ∷ None ∷ None ∷ None ∷ None
    ∷ fault_if (nat_lt section_limit ((context_of w).offset + gap (context_of w).offset k)) SectionTooLarge
    ∷ []))
    (record { length = gap (context_of w).offset k; size = own_size w; alignment = nat_or_zero k; encoding = st })

pub aligned_as : (y : Symbols) (w : Cursor) (n : Tree) (v : Option Tree) (k : Option ℤ) → constant_in y (context_of w) n ≡ k → layout_or_error y w (statement.Align n v) ≡ aligned w (is_byte_value (optional_value y (context_of w) v (pos 0))) (fill_encoding y (context_of w) v) k
aligned_as y w n v k e = ap (aligned w (is_byte_value (optional_value y (context_of w) v (pos 0))) (fill_encoding y (context_of w) v)) e

pub none_there : (k : Option ℤ) → is_some k ≡ false → has_value k ≡ false
none_there None e = refl
none_there (Some v) e = absurd cc

pub is_multiple : (k : Option ℤ) → is_some k ≡ true → unless_fault {A = Unit {0}} (fault_if (not (has_value k)) BadOperand) tt ≡ Ok tt
is_multiple None e = absurd cc
is_multiple (Some v) e = refl

-- the case of an alignment that isn't constant
pub no_multiple : (w : Cursor) (b : Bool) (st : EncodingChoice) (k : Option ℤ) → has_value k ≡ false → aligned w b st k ≡ Err BadOperand
no_multiple w b st x e = grind (arith, common_steps)

-- the case of an invalid alignment, if it is constant and the fill value is a byte
refused_third : {A : Type 0} (a b : Bool) (f r : Option AsmFault) (x : A) (m : ℕ) (e : AsmFault) → unless_fault {A = Unit {0}} (fault_if (not a) BadOperand) tt ≡ Ok tt → unless_fault {A = Unit {0}} (fault_if (not b) BadOperand) tt ≡ Ok tt → Unless (is_out_of_memory e) (unless_fault f m ≡ Err e) → Unless (is_out_of_memory e) (unless_fault (first_fault (None ∷ fault_if (not (a && b)) BadOperand ∷ f ∷ None ∷ None ∷ None ∷ None ∷ None ∷ r ∷ [])) x ≡ Err e)
refused_third false b f r x m e t h g = absurd cc
refused_third true false f r x m e t h g = absurd cc
refused_third true true None r x m e t h g = unless_then (is_out_of_memory e) (λ p. absurd cc) g
refused_third true true (Some d) r x m e t h g = unless_then (is_out_of_memory e) (λ p. let same : d ≡ e = cc in ap (λ k. Err k) same) g

pub bad_multiple : (w : Cursor) (b : Bool) (st : EncodingChoice) (k : Option ℤ) (e : AsmFault) → unless_fault {A = Unit {0}} (fault_if (not (has_value k)) BadOperand) tt ≡ Ok tt → unless_fault {A = Unit {0}} (fault_if (not b) BadOperand) tt ≡ Ok tt → Unless (is_out_of_memory e) (unless_fault (alignment_value_fault k) (nat_or_zero k) ≡ Err e) → Unless (is_out_of_memory e) (aligned w b st k ≡ Err e)
bad_multiple w b st k e t h g = refused_third (has_value k) b (alignment_value_fault k) _ _ (nat_or_zero k) e t h g

-- the case of a constant alignment and an invalid fill value
pub bad_byte : (w : Cursor) (b : Bool) (st : EncodingChoice) (k : Option ℤ) (e : AsmFault) → unless_fault {A = Unit {0}} (fault_if (not (has_value k)) BadOperand) tt ≡ Ok tt → Unless (is_out_of_memory e) (unless_fault {A = Unit {0}} (fault_if (not b) BadOperand) tt ≡ Err e) → Unless (is_out_of_memory e) (aligned w b st k ≡ Err e)
bad_byte w b st x e t h = grind (arith, common_steps)

all_well : {A : Type 0} (f r : Option AsmFault) (x : A) → f ≡ None → r ≡ None → unless_fault (first_fault (None ∷ None ∷ f ∷ None ∷ None ∷ None ∷ None ∷ None ∷ r ∷ [])) x ≡ Ok x
all_well y z x p q = grind (arith, common_steps)

abbrev pub as_ok : ℕ → AddressSize → ℕ → EncodingChoice → Result StatementLayout AsmFault
as_ok len own alignment st = Ok (record { length = len; size = own; alignment = alignment; encoding = st })

pub aligned_well : (w : Cursor) (b : Bool) (st : EncodingChoice) (k : Option ℤ) (m g len : ℕ) → unless_fault {A = Unit {0}} (fault_if (not b) BadOperand) tt ≡ Ok tt → unless_fault (alignment_value_fault k) (nat_or_zero k) ≡ Ok m → g ≡ gap (context_of w).offset (Some (pos m)) → count_if_it_fits w g ≡ Ok len → aligned w b st k ≡ as_ok len (own_size w) m st
aligned_well w true st (Some (pos j)) m g len h hm hg hf = grind (arith, common_steps, no_fault, all_well)
aligned_well w _ st _ m g len h hm hg hf = absurd cc

no_room : {A : Type 0} (f r : Option AsmFault) (x : A) (e : AsmFault) → f ≡ None → r ≡ Some e → unless_fault (first_fault (None ∷ None ∷ f ∷ None ∷ None ∷ None ∷ None ∷ None ∷ r ∷ [])) x ≡ Err e
no_room f r x e p q = grind (arith, common_steps)

fault_there : {A : Type 0} (f : Option AsmFault) (x : A) (e : AsmFault) → unless_fault f x ≡ Err e → f ≡ Some e
fault_there f x e h = grind (arith, common_steps)

always : {P : Type 0} (b : Bool) → P → Unless b P
always true h = tt
always false h = h

-- the case of valid operands and too many bytes for the section
pub aligned_full : (w : Cursor) (b : Bool) (st : EncodingChoice) (k : Option ℤ) (m g : ℕ) (e : AsmFault) → unless_fault {A = Unit {0}} (fault_if (not b) BadOperand) tt ≡ Ok tt → unless_fault (alignment_value_fault k) (nat_or_zero k) ≡ Ok m → g ≡ gap (context_of w).offset (Some (pos m)) → count_if_it_fits w g ≡ Err e → Unless (is_out_of_memory e) (aligned w b st k ≡ Err e)
aligned_full w false st k m g e h hm hg hf = absurd cc
aligned_full w true st None m g e h hm hg hf = absurd cc
aligned_full w true st (Some (negsuc j)) m g e h hm hg hf = absurd cc
aligned_full w true st (Some (pos j)) m g e h hm hg hf =
    let same : aligned w true st (Some (pos j)) ≡ Err e = grind (arith, common_steps, no_fault, no_room, fault_there) in
    always (is_out_of_memory e) same

-- ---- All errors of a statement.

four_first : (a b c d : Option AsmFault) (rest : List (Option AsmFault)) → first_fault (a ∷ b ∷ c ∷ d ∷ rest) ≡ or_then (or_then a (or_then b (or_then c d))) (first_fault rest)
four_first x b c d rest = grind (arith, common_steps)

module _ (y : Symbols) (w : Cursor) (x : Statement) where
  pub faults_are : line_fault y w x ≡ or_then (naming_fault y (context_of w) x) (first_fault (layout_faults y w x))
  faults_are = four_first (fault_if (is_global_only x && is_not_global w.scope) NotUnderstood) (missing_scopes_fault y.scopes w.scope (trees_of x)) (opened_twice y.scopes w.scope (scope_name x)) (defined_twice y (key_defined (context_of w) x)) (layout_faults y w x)

  -- the case of an error in the names of the statement
  pub measured_refused : (e : AsmFault) → Unless (is_out_of_memory e) (unless_fault {A = Unit {0}} (naming_fault y (context_of w) x) tt ≡ Err e) → Unless (is_out_of_memory e) (layout_result y w x ≡ Err e)
  measured_refused e h = refused_same e _ _ (ap (λ f. unless_fault f (layout_of_statement y w x)) faults_are) (refused_first e (naming_fault y (context_of w) x) (first_fault (layout_faults y w x)) (layout_of_statement y w x) h)

  -- the case without such an error
  pub measured_named : unless_fault {A = Unit {0}} (naming_fault y (context_of w) x) tt ≡ Ok tt → layout_result y w x ≡ layout_or_error y w x
  measured_named h = ap (λ f. unless_fault f (layout_of_statement y w x)) (faults_are ∙ left_after (naming_fault y (context_of w) x) (first_fault (layout_faults y w x)) tt tt h)

-- ---- The size limit.

-- the bytes of a statement that is laid out fit into the section
pub room_of : (y : Symbols) (w : Cursor) (x : Statement) (r : Result code.StatementLayout AsmFault) → Refines is_out_of_memory (λ m. m) r (layout_or_error y w x) → IfOk r (λ m. (context_of w).offset + m.length ≤ section_limit)
room_of y w x z h = grind (arith, common_steps)
