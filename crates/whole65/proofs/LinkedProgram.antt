-- The linker's view of the modules agrees with the placed program.
use Rattle.std.proofs.lemmas.Grind.{common_steps}
use Rattle.std.proofs.Common.{◌≡◌, ℕ, zero, suc, ◌+◌, List, [], ◌∷◌, ◌++◌, map, slice_get, Option, Some, None, Result, Ok, Err, refl, sym, ◌∙◌, ap, arith, ◌≢◌, ◌<◌, Bool, true, false, cond, take, subst}
use Rattle.std.specs.List.{flat_map, AllByRecursion, list_any}
use Rattle.syntax65.specs.Trees.{Tree}
use Rattle.ast65.specs.declared.fault.AsmFault.{AsmFault}
use Rattle.semantics65.specs.Symbols.{LaidOutStatement, needs_section, Definition, Key, definition_with, definitions_of, key_defined, value_defined, Symbols, symbols_of, binding_of}
use Rattle.semantics65.specs.Layout.{Layout}
use Rattle.semantics65.specs.Symbols as names
use Rattle.whole65.proofs.LinkedObjects.{definer_in, symbols_at, base_in, begin_in, objects_of, context_in}
use Rattle.whole65.specs.Modules.{definers_from, import_named, binding_by, context_at, statement_binding, table_of, global_context, context_or}
use Rattle.whole65.specs.Objects.{definition_binding, import_binding, symbol_binding, IsLinkerView, ImportHasValue, LinkerView}
use Rattle.whole65.specs.Values.{SymbolBinding, Program}
use Rattle.std.specs.Prelude.{◌&&◌, ℤ, pos, ◌+ℤ◌, nat_lt}
use Rattle.syntax65.specs.declared.lexing.tokens.AddressSize.{AddressSize}
use Rattle.semantics65.specs.declared.contexts.Context.{Context}
use Rattle.ast65.specs.declared.language.Statement.{Statement}
use Rattle.semantics65.specs.Norms.{length_of}
use Rattle.semantics65.proofs.Segments.{all_more}
use Rattle.whole65.proofs.Positions.{IsAbsent, other_part, all_front, itself, all_get, position_law, named}
use Rattle.whole65.proofs.Multiples.{equal}
use Rattle.whole65.proofs.Offsets.{placed}
use Rattle.whole65.specs.Offsets.{HasNoLineErrors, no_statement, following, statements_with_segment, section_start}
use Rattle.whole65.specs.Segments.{SegmentItem, end_of, has_section, preceding_items, segment_items_from, segment_items, largest_multiple, statement_item, statement_end, module_statements_after, statements_in_segment, module_items, rounding, segment_name_at, is_in_segment, position_of}
use Rattle.std.specs.Int.{int_wrap}
use Rattle.std.proofs.lemmas.Bool.Decides.{nat_tests}
use Rattle.std.proofs.lemmas.Int.{ints, int_wrap-add_left}
use Rattle.base65.specs.Values.{wrap_signed}
use Rattle.script65.specs.declared.placement.Placement.{Placement}
use Rattle.script65.specs.declared.script.Script.{Script}
use Rattle.whole65.specs.Programs.{laid_out_statement_at, binding_at, statement_address, placed_program}

-- ---- The statements that contain definitions.

-- the definition with this number and its statement
pub record Made (i : ℕ) (ls : List LaidOutStatement) (d : ℕ) : Type 0 where
  pub index : ℕ
  pub laid : LaidOutStatement
  pub definition : Definition
  pub there : slice_get ls index ≡ Some laid
  pub defining : slice_get (definers_from i ls) d ≡ Some (i + index)
  pub defined : slice_get (flat_map definitions_of ls) d ≡ Some definition
  pub value : definition.value ≡ value_defined laid.stated
  pub context : definition.context ≡ laid.context

pub record Missing (i : ℕ) (ls : List LaidOutStatement) (d : ℕ) : Type 0 where
  pub defining : slice_get (definers_from i ls) d ≡ None
  pub defined : slice_get (flat_map definitions_of ls) d ≡ None

pub data Looked (i : ℕ) (ls : List LaidOutStatement) (d : ℕ) : Type 0 where
  made : Made i ls d → Looked i ls d
  missing : Missing i ls d → Looked i ls d

pub look : (i : ℕ) (ls : List LaidOutStatement) (d : ℕ) → Looked i ls d
look i [] d = missing (record { defining = refl; defined = refl })
look i (l ∷ ls) d = go (key_defined l.context l.stated) refl d (λ e. look (suc i) ls e)
  where
    later : (e d : ℕ) → slice_get (map (λ z. i) (definitions_of l) ++ definers_from (suc i) ls) d ≡ slice_get (definers_from (suc i) ls) e → slice_get (definitions_of l ++ flat_map definitions_of ls) d ≡ slice_get (flat_map definitions_of ls) e → Looked (suc i) ls e → Looked i (l ∷ ls) d
    later e d p q (made m) =
        let moved : suc i + m.index ≡ i + suc m.index = omega arith in
        made (record {
          index = suc m.index;
          laid = m.laid;
          definition = m.definition;
          there = m.there;
          defining = p ∙ m.defining ∙ ap Some moved;
          defined = q ∙ m.defined;
          value = m.value;
          context = m.context;
        })
    later e d p q (missing m) = missing (record { defining = p ∙ m.defining; defined = q ∙ m.defined })

    go : (k : Option Key) → key_defined l.context l.stated ≡ k → (d : ℕ) → ((e : ℕ) → Looked (suc i) ls e) → Looked i (l ∷ ls) d
    go None e d next =
        let none : definitions_of l ≡ [] = ap (λ z. definition_with z (value_defined l.stated) l.context l.size) e in
        later d d (ap (λ xs. slice_get (map (λ z. i) xs ++ definers_from (suc i) ls) d) none) (ap (λ xs. slice_get (xs ++ flat_map definitions_of ls) d) none) (next d)
    go (Some k) e zero next =
        let x : Definition = record { key = k; value = value_defined l.stated; context = l.context; size = l.size } in
        let one : definitions_of l ≡ x ∷ [] = ap (λ z. definition_with z (value_defined l.stated) l.context l.size) e in
        let here : i ≡ i + 0 = omega arith in
        made (record {
          index = 0;
          laid = l;
          definition = x;
          there = refl;
          defining = ap (λ xs. slice_get (map (λ z. i) xs ++ definers_from (suc i) ls) 0) one ∙ ap Some here;
          defined = ap (λ xs. slice_get (xs ++ flat_map definitions_of ls) 0) one;
          value = refl;
          context = refl;
        })
    go (Some k) e (suc d) next =
        let x : Definition = record { key = k; value = value_defined l.stated; context = l.context; size = l.size } in
        let one : definitions_of l ≡ x ∷ [] = ap (λ z. definition_with z (value_defined l.stated) l.context l.size) e in
        later d (suc d) (ap (λ xs. slice_get (map (λ z. i) xs ++ definers_from (suc i) ls) (suc d)) one) (ap (λ xs. slice_get (xs ++ flat_map definitions_of ls) (suc d)) one) (next d)

-- ---- The bindings of names.

abbrev pub shown_by : Option Layout → Result names.Binding AsmFault → Option SymbolBinding
shown_by r (Err e) = None
shown_by r (Ok (names.defined_at d)) = definition_binding (definer_in r d) (slice_get (symbols_at r).definitions d)
shown_by r (Ok (names.imported_as k)) = import_binding (slice_get (symbols_at r).imports k)

same_definition : (y : Layout) (d : ℕ) → Looked 0 y.laid d → statement_binding y.laid (slice_get (definers_from 0 y.laid) d) ≡ definition_binding (definer_in (Some y) d) (slice_get (table_of y).definitions d)
same_definition y d x = grind (arith, common_steps)

same_import : (r : Option (List ℕ)) → import_named r ≡ import_binding r
same_import x = grind (arith, common_steps)

pub same_meaning : (y : Layout) (r : Result names.Binding AsmFault) → binding_by y r ≡ shown_by (Some y) r
same_meaning y x = grind (arith, common_steps, same_definition, look, same_import)

pub none_shown : (r : Result names.Binding AsmFault) → None ≡ shown_by None r
none_shown x = grind (arith, common_steps)

-- a definition has the context of its statement
pub same_context : (y : Layout) (d : ℕ) (x : Definition) → slice_get (table_of y).definitions d ≡ Some x → context_at y (definer_in (Some y) d) ≡ x.context
same_context y d x e = go (look 0 y.laid d)
  where
    go : Looked 0 y.laid d → context_at y (definer_in (Some y) d) ≡ x.context
    go (missing m) = let none : Some x ≡ None = sym e ∙ m.defined in absurd cc
    go (made m) = grind (arith, common_steps)

-- ---- In a segment without a section, all statements are empty.

abbrev IsQuiet : LaidOutStatement → Type 0
IsQuiet l = needs_section l.stated ≡ false → l.length ≡ 0

places_nothing : (y : Symbols) (s : Context) (own : AddressSize) (x : Statement) → needs_section x ≡ false → length_of y s own x ≡ 0
places_nothing y s own x h = grind (arith, common_steps)

pub quiet : {y : Layout} → HasNoLineErrors y → AllByRecursion IsQuiet y.laid
quiet no_statement = tt
quiet (following y place x d none) = grind (arith, common_steps, (quiet d), all_more, places_nothing)

-- a statement in the segment `name` needs no section
abbrev AsksNot : Layout → List ℕ → LaidOutStatement → Type 0
AsksNot y name l = is_in_segment y name l ≡ true → needs_section l.stated ≡ false

none_asks : (y : Layout) (name : List ℕ) (ls : List LaidOutStatement) → list_any (λ l. is_in_segment y name l && needs_section l.stated) ls ≡ false → AllByRecursion (AsksNot y name) ls
none_asks y name [] h = tt
none_asks y name (l ∷ ls) h = grind (arith, common_steps, (none_asks y name ls))

quiet_lines : (position owner : ℕ) (y : Layout) (g : ℕ) (before ls : List LaidOutStatement) → AllByRecursion IsQuiet ls → AllByRecursion (AsksNot y (segment_name_at y g)) ls → end_of position (map statement_item (statements_with_segment g (module_statements_after owner before ls))) ≡ position
quiet_lines position owner y g before [] q a = refl
quiet_lines position owner y g before (l ∷ ls) q a = grind (arith, common_steps, itself, (λ (z : ℕ). quiet_lines z owner y g (before ++ l ∷ []) ls q.1 a.1))

-- if the module has no section for the segment, the statement's offset is 0
pub no_offset : (y : Layout) (index : ℕ) (l : LaidOutStatement) → HasNoLineErrors y → slice_get y.laid index ≡ Some l → has_section y (segment_name_at y l.context.segment) ≡ false → l.context.offset ≡ 0
no_offset y index l d there asked =
    (placed 0 d).offsets index l there
    ∙ quiet_lines 0 0 y l.context.segment [] (take index y.laid) (all_front IsQuiet y.laid index (quiet d)) (all_front (AsksNot y (segment_name_at y l.context.segment)) y.laid index (none_asks y (segment_name_at y l.context.segment) y.laid asked))

-- ---- If the module has no section for a segment, the segment's list contains no statement of the module.

all_absent : (owner index : ℕ) (xs : List SegmentItem) → IsAbsent owner index xs → preceding_items owner index xs ≡ xs
all_absent owner index [] h = refl
all_absent owner index (x ∷ xs) h = grind (arith, common_steps, (all_absent owner index xs h.1))

both_absent : (owner index : ℕ) (xs ys : List SegmentItem) → IsAbsent owner index xs → IsAbsent owner index ys → IsAbsent owner index (xs ++ ys)
both_absent owner index [] ys h k = k
both_absent owner index (x ∷ xs) ys h k = (h.0, both_absent owner index xs ys h.1 k)

after_absent : (first owner index : ℕ) (ys : List Layout) (name : List ℕ) → owner < first → IsAbsent owner index (segment_items_from first ys name)
after_absent first owner index [] name lt = tt
after_absent first owner index (y ∷ ys) name lt =
    let other : first ≢ owner = omega (arith, lt) in
    let next : owner < suc first = omega (arith, lt) in
    both_absent owner index (module_items first y name) (segment_items_from (suc first) ys name) (other_part first owner index other y name) (after_absent (suc first) owner index ys name next)

absent_from : (first count owner index : ℕ) (ys : List Layout) (y : Layout) (name : List ℕ) → owner ≡ first + count → slice_get ys count ≡ Some y → has_section y name ≡ false → IsAbsent owner index (segment_items_from first ys name)
absent_from first count owner index [] y name o e h = cc
absent_from first zero owner index (z ∷ ys) y name o e h =
    let same : z ≡ y = cc in
    let none : has_section z name ≡ false = ap (λ k. has_section k name) same ∙ h in
    let lt : owner < suc first = omega (arith, o) in
    let empty : module_items first z name ≡ [] = ap (λ b. cond b (rounding (largest_multiple (statements_in_segment first z name)) ∷ map statement_item (statements_in_segment first z name)) []) none in
    subst (λ xs. IsAbsent owner index (xs ++ segment_items_from (suc first) ys name)) (sym empty) (after_absent (suc first) owner index ys name lt)
absent_from first (suc count) owner index (z ∷ ys) y name o e h =
    let other : first ≢ owner = omega (arith, o) in
    let next : owner ≡ suc first + count = omega (arith, o) in
    both_absent owner index (module_items first z name) (segment_items_from (suc first) ys name) (other_part first owner index other z name) (absent_from (suc first) count owner index ys y name next e h)

-- the position of such a statement is the end of the list
pub at_end : (ys : List Layout) (owner index : ℕ) (y : Layout) (name : List ℕ) → slice_get ys owner ≡ Some y → has_section y name ≡ false → end_of 0 (preceding_items owner index (segment_items ys name)) ≡ end_of 0 (segment_items ys name)
at_end ys owner index y name e h =
    ap (end_of 0) (all_absent owner index (segment_items ys name) (absent_from 0 owner owner index ys y name (omega arith) e h))

-- ---- Names.

shown_is : {E : Type 0} (none : E) (imports : ℕ → ℕ → ℕ → Result ℤ E) (s : Script) (p : Placement) (ys : List Layout) (owner : ℕ) (r : Result names.Binding AsmFault) → symbol_binding (objects_of none imports s p ys) owner r ≡ shown_by (slice_get ys owner) r
shown_is none imports s p ys owner x = grind (arith, common_steps)

means_by : (r : Option Layout) (index : ℕ) (e : Tree) → binding_at r index e ≡ shown_by r (binding_of (symbols_at r) (context_in r index) e)
means_by x index e = grind (arith, common_steps, none_shown, symbols_at, context_in, same_meaning)

context_by : (r : Option Layout) (d : ℕ) (x : Definition) → slice_get (symbols_at r).definitions d ≡ Some x → context_in r (definer_in r d) ≡ x.context
context_by x1 d x e = grind (arith, common_steps, same_context)

-- ---- Addresses.

-- wrapping a partial sum first doesn't change the wrapped sum
moved : (run begin offset : ℕ) → wrap_signed (pos (run + (begin + offset))) ≡ wrap_signed (wrap_signed (pos (run + begin)) +ℤ pos offset)
moved run begin offset = grind (arith, common_steps, ints, int_wrap-add_left)

zero_wraps : pos 0 ≡ wrap_signed (pos 0)
unfolding int_wrap
zero_wraps = refl

less : (n m : ℕ) → n < m → nat_lt n m ≡ true
less n m h = grind (arith, nat_tests)

not_less : (n : ℕ) → nat_lt n n ≡ false
not_less n = grind (arith, nat_tests)

module _ (s : Script) (p : Placement) (ys : List Layout) (laid_out : AllByRecursion HasNoLineErrors ys) where
  position_is : (owner index : ℕ) (y : Layout) (l : LaidOutStatement) → slice_get ys owner ≡ Some y → slice_get y.laid index ≡ Some l → (b : Bool) → has_section y (segment_name_at y l.context.segment) ≡ b → position_of ys (segment_name_at y l.context.segment) owner index ≡ cond b (section_start ys (segment_name_at y l.context.segment) owner) (end_of 0 (segment_items ys (segment_name_at y l.context.segment))) + l.context.offset
  position_is owner index y l e there x1 h = grind (arith, common_steps, position_law, all_get, no_offset, at_end)

  of_line : (owner index : ℕ) (y : Layout) → slice_get ys owner ≡ Some y → (r : Option LaidOutStatement) → slice_get y.laid index ≡ r → statement_address s p ys owner index (Some y) r ≡ wrap_signed (base_in s p ys owner (context_or (global_context y) r).segment (Some y) +ℤ pos (context_or (global_context y) r).offset)
  of_line owner index y e x1 there = grind (arith, common_steps, all_get, named, position_is, moved)

  of_module : (owner index : ℕ) (r : Option Layout) → slice_get ys owner ≡ r → statement_address s p ys owner index r (laid_out_statement_at r index) ≡ wrap_signed (base_in s p ys owner (context_in r index).segment r +ℤ pos (context_in r index).offset)
  of_module owner index x e = grind (arith, common_steps, zero_wraps, of_line)

-- The linker's view agrees with the placed program: names have the same bindings, and the address of a statement is the base
-- of its section plus its offset. The premise is that imports have the values of their providers.
pub linked_law : (E : Type 0) → (none : E) (imports : ℕ → ℕ → ℕ → Result ℤ E) (s : Script) (placement : Placement) (ys : List Layout) → AllByRecursion HasNoLineErrors ys → let p : Program = placed_program s placement ys in let o : LinkerView E = objects_of none imports s placement ys in ((owner k : ℕ) → ImportHasValue p o owner k (slice_get (o.symbols owner).imports k)) → IsLinkerView p o
linked_law x none imports s p ys laid_out given = grind (arith, common_steps, means_by, shown_is, symbols_at, context_in, context_by, of_module)
