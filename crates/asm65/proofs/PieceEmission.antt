-- The emission of pieces in order: at once, if their content is final, or deferred.
use Rattle.std.proofs.Common.{◌≡◌, ℕ, zero, List, [], ◌∷◌, ◌++◌, map, refl, sym, ap, subst, append-nil, append_assoc}
use Rattle.std.specs.Prelude.{ℤ, pos, Bool, true, false, Option, Some, None, Result, Ok, Err}
use Rattle.std.specs.List.{list_all}
use Rattle.base65.specs.Outcome.{◌>>=◌}
use Rattle.syntax65.specs.Trees.{Tree, number}
use Rattle.syntax65.specs.declared.source_location.SourceLocation.{SourceLocation}
use Rattle.object65.specs.Form.{Form, lit}
use Rattle.object65.specs.Objects.{fits_width, value_bytes}
use Rattle.object65.proofs.SmallParts.{left, right}
use Rattle.base65.specs.declared.action.Action.{Action}
use Rattle.base65.specs.declared.action.Action.TheVariants as action
use Rattle.base65.specs.declared.width.Width.{Width}
use Rattle.ast65.specs.Items.{literal_item}
use Rattle.ast65.specs.declared.language.Item.{Item}
use Rattle.symbols65.specs.Evaluations.{HasFinal, HaveFinals, item_tree}
use Rattle.symbols65.proofs.Evaluations.{finals_rest}
use Rattle.semantics65.specs.Contents.{Content, Known, Part, section_part, value_part, declaration_content}
use Rattle.ast65.specs.declared.fault.AsmFault.{AsmFault}
use Rattle.semantics65.specs.Norms.{IsFinal, literal_in}
use Rattle.semantics65.specs.declared.contexts.Context.{Context}
use Rattle.sources65.specs.Machine.{HasFinalContent, PieceSteps, State, emitted_now, with_content}
use Rattle.semantics65.specs.Module.{Piece, Purpose, part_result, asserted, datum, known_part, operand, without_warning, value_result, expression_value, item_piece, Slot, resolved}
use Rattle.sources65.proofs.Resolving.{final_settles, settled_given}
use Rattle.semantics65.specs.Numbering.{all_declarations}
use Rattle.semantics65.specs.Symbols.{Symbols}
use Rattle.emit65.specs.declared.sections.Sections.{Sections}
use Rattle.emit65.specs.SectionContents.{AppendsSlot, RepresentsSlots}
use Rattle.emit65.proofs.EquivalentContents.{alike_sym, empty_alike}
use Rattle.emit65.proofs.Pieces.{held_stand, runs, runs_stand}
use Rattle.symbols65.specs.Views.{table_of}
use Rattle.asm65.specs.declared.assembler.Assembler.{Assembler}
use Rattle.asm65.specs.Internal.AssemblerState.{EmitsPieces, AreEncodedNumbers, IsNextForm, AppendsPart, EmitsIfResolved, DefersPiece, operand_part}
use Rattle.asm65.proofs.AppendedParts.{literal_is, stored_is}
use Rattle.asm65.proofs.DeferredPieces.{all_entered, holds_all, holds_entered, waits_enters}

-- ---- Pieces in order.

puts_append : (location : SourceLocation) (s : Context) (t u v : State) (ps qs : List Piece) → PieceSteps location s t ps u → PieceSteps location s u qs v → PieceSteps location s t (ps ++ qs) v
puts_append location s t u v [] qs h k = subst (λ w. PieceSteps location s w qs v) h k
puts_append location s t u v (p ∷ ps) qs h k = (h.0, h.1, puts_append location s h.0 u v ps qs h.2 k)

pub enters_none : (location : SourceLocation) (s : Context) (a : Assembler) → EmitsPieces location s [] a a
enters_none location s a count t h = (t, refl, h)

pub enters_both : (location : SourceLocation) (s : Context) (ps qs : List Piece) (old mid new : Assembler) → EmitsPieces location s ps old mid → EmitsPieces location s qs mid new → EmitsPieces location s (ps ++ qs) old new
enters_both location s ps qs old mid new first second count t h =
    let x = first count t h in
    let y = second count x.0 x.2 in
    (y.0, puts_append location s t x.0 y.0 ps qs x.1 y.1, y.2)

-- ---- Emission at once.

abbrev fed : Assembler → Sections → Assembler
fed a x = record a { sections = x }

pub fed_enters : (old : Assembler) (x : Sections) (location : SourceLocation) (s : Context) (p : Piece) (c : Content) → c.said ≡ [] → AppendsSlot old.sections x (resolved c) → HasFinalContent (table_of old.symbols) location s p c → EmitsPieces location s (p ∷ []) old (fed old x)
fed_enters old x location s p c quiet feeds encoding count t h =
    let there : HasFinalContent t.symbols location s p c = subst (λ y. HasFinalContent y location s p c) h.symbols encoding in
    (with_content t c, (with_content t c, emitted_now c there, refl), holds_entered count t old (fed old x) h (record { symbols = refl; cursor = refl; texts = refl }) c quiet feeds)

-- a part that needs no value
pub given_enters : (old : Assembler) (x : Sections) (location : SourceLocation) (s : Context) (p : Part) → AppendsSlot old.sections x (resolved (section_part s.segment p)) → EmitsPieces location s (known_part p ∷ []) old (fed old x)
given_enters old x location s p feeds = fed_enters old x location s (known_part p) (section_part s.segment p) refl feeds (settled_given (table_of old.symbols) location s p)

-- a value with a final form, which appends a part
module _ (old : Assembler) (x : Sections) (location : SourceLocation) (s : Context) (why : Purpose) (e : Tree) (f : Form) (final : IsFinal (table_of old.symbols) s e f) where
  value_entered : (r : Result Part AsmFault) → value_result location s why f ≡ (r >>= part_result s.segment) → AppendsPart old.sections x s.segment r true → EmitsPieces location s (expression_value why e ∷ []) old (fed old x)
  value_entered (Ok p) is feeds = fed_enters old x location s (expression_value why e) (section_part s.segment p) refl feeds (final_settles (table_of old.symbols) location s why e f (section_part s.segment p) final is)
  value_entered (Err e) is feeds = absurd feeds

  value_tried : (r : Result Part AsmFault) (b : Bool) → value_result location s why f ≡ (r >>= part_result s.segment) → AppendsPart old.sections x s.segment r b → EmitsIfResolved location s (expression_value why e) old (fed old x) b
  value_tried r true is h = value_entered r is h
  value_tried r false is h = ap (fed old) h

pub datum_tried : (old : Assembler) (x : Sections) (location : SourceLocation) (s : Context) (width : Width) (e : Tree) (f : Form) (b : Bool) → IsFinal (table_of old.symbols) s e f → AppendsPart old.sections x s.segment (value_part width location f) b → EmitsIfResolved location s (expression_value (datum width) e) old (fed old x) b
datum_tried old x location s width e f b final h = value_tried old x location s (datum width) e f final (value_part width location f) b refl h

pub operand_tried : (old : Assembler) (x : Sections) (location : SourceLocation) (s : Context) (width : Width) (e : Tree) (f : Form) (b : Bool) → IsFinal (table_of old.symbols) s e f → AppendsPart old.sections x s.segment (operand_part width s location f) b → EmitsIfResolved location s (expression_value (operand width) e) old (fed old x) b
operand_tried old x location s width e f b final h = value_tried old x location s (operand width) e f final (operand_part width s location f) b refl h

-- ---- The elements of lists, and their final forms.

pub next_finals : (y : Symbols) (s : Context) (x : Item) (items : List Item) (forms : List (Option Form)) (o : Option Form) (rest : List (Option Form)) → HaveFinals y s (x ∷ items) forms → IsNextForm forms o rest → HasFinal y s (item_tree x) o × HaveFinals y s items rest
next_finals y s x items [] o rest h n = (subst (HasFinal y s (item_tree x)) (sym n.0) (none_final (item_tree x)), subst (HaveFinals y s items) (sym n.1) (λ i z p at held. absurd cc))
  where
    none_final : (e : Option Tree) → HasFinal y s e None
    none_final None = tt
    none_final (Some e) = tt
next_finals y s x items (f ∷ fs) o rest h n =
    let both = finals_rest y s x items f fs h in
    (subst (HasFinal y s (item_tree x)) (sym n.0) both.0, subst (HaveFinals y s items) (sym n.1) both.1)

-- ---- Numbers in one call.

-- the content of a number in range is final
number_settled : (y : Symbols) (location : SourceLocation) (s : Context) (width : Width) (n : ℕ) → fits_width width (pos n) ≡ true → HasFinalContent y location s (expression_value (datum width) (number n)) (section_part s.segment (Known (value_bytes width (pos n))))
number_settled y location s width n fits =
    final_settles y location s (datum width) (number n) (lit (pos n)) (section_part s.segment (Known (value_bytes width (pos n)))) (λ z more. refl)
    (ap (λ (r : Result Part AsmFault). r >>= part_result s.segment) (stored_is width location (pos n) fits))

numbers_put : (location : SourceLocation) (s : Context) (t : State) (width : Width) (ns : List ℕ) → list_all (λ (n : ℕ). fits_width width (pos n)) ns ≡ true → PieceSteps location s t (map (item_piece width) (map literal_item ns)) (all_entered t (runs s.segment (λ (n : ℕ). value_bytes width (pos n)) ns))
numbers_put location s t width [] fit = ap (λ (slots : List Slot). record t { slots = slots }) (append-nil t.slots)
numbers_put location s t width (n ∷ ns) fit =
    let c : Content = section_part s.segment (Known (value_bytes width (pos n))) in
    let cs : List Content = runs s.segment (λ (n : ℕ). value_bytes width (pos n)) ns in
    let first = left (fits_width width (pos n)) (list_all (λ (n : ℕ). fits_width width (pos n)) ns) fit in
    let others = right (fits_width width (pos n)) (list_all (λ (n : ℕ). fits_width width (pos n)) ns) fit in (
      with_content t c,
      emitted_now c (number_settled t.symbols location s width n first),
      subst (λ (slots : List Slot). PieceSteps location s (with_content t c) (map (item_piece width) (map literal_item ns)) (record t { slots = slots }))
          (append_assoc t.slots (resolved c ∷ []) (map resolved cs)) (numbers_put location s (with_content t c) width ns others),
    )

runs_say : {A : Type 0} (g : ℕ) (f : A → List ℕ) (xs : List A) → all_declarations (runs g f xs) ≡ []
runs_say g f [] = refl
runs_say g f (x ∷ xs) = runs_say g f xs

pub numbers_enter : (old : Assembler) (x : Sections) (location : SourceLocation) (s : Context) (width : Width) (ns bytes : List ℕ) → AreEncodedNumbers width ns bytes → AppendsSlot old.sections x (resolved (section_part s.segment (Known bytes))) → EmitsPieces location s (map (item_piece width) (map literal_item ns)) old (fed old x)
numbers_enter old x location s width ns bytes value_part feeds count t h =
    let f : ℕ → List ℕ = λ (n : ℕ). value_bytes width (pos n) in
    let known = subst (λ (b : List ℕ). AppendsSlot old.sections x (resolved (section_part s.segment (Known b)))) value_part.bytes feeds in (
      all_entered t (runs s.segment f ns),
      numbers_put location s t width ns value_part.fit,
      holds_all count t old (fed old x) h (record { symbols = refl; cursor = refl; texts = refl }) (runs s.segment f ns) (runs_say s.segment f ns) (runs_stand s.segment f ns old.sections x known),
    )

-- ---- Assertions.

-- appending no declarations changes nothing
pub says_nothing : (x : Sections) → AppendsSlot x x (resolved (declaration_content []))
says_nothing x xs h = held_stand xs [] (declaration_content [] ∷ []) x (alike_sym (declaration_content [] ∷ []) [] (empty_alike 0 false)) refl (subst (λ (ys : List Slot). RepresentsSlots ys x) (sym (append-nil xs)) h)

so_used : (location : SourceLocation) (s : Context) (act : Action) (text : List ℕ) (v : ℤ) → (v ≡ pos 0 → ⊥) → value_result location s (asserted act text) (lit v) ≡ Ok (without_warning (declaration_content []))
so_used location s action.Error text (pos zero) h = absurd (h refl)
so_used location s action.Warning text (pos zero) h = absurd (h refl)
so_used location s _ text _ h = refl

-- an assertion that is true whatever statements follow
pub so_enters : (old : Assembler) (location : SourceLocation) (s : Context) (act : Action) (text : List ℕ) (e : Tree) (v : ℤ) → (v ≡ pos 0 → ⊥) → IsFinal (table_of old.symbols) s e (lit v) → EmitsPieces location s (expression_value (asserted act text) e ∷ []) old old
so_enters old location s act text e v h final = fed_enters old old.sections location s (expression_value (asserted act text) e) (declaration_content []) refl (says_nothing old.sections) (final_settles (table_of old.symbols) location s (asserted act text) e (lit v) (declaration_content []) final (so_used location s act text v h))

-- an assertion whose value is a final number is emitted only if the number isn't 0
pub assertion_tried : (old : Assembler) (location : SourceLocation) (s : Context) (act : Action) (text : List ℕ) (e : Tree) (f : Form) (v : ℤ) → IsFinal (table_of old.symbols) s e f → literal_in (Ok f) ≡ Some v → (b : Bool) → (b ≡ true → v ≡ pos 0 → ⊥) → EmitsIfResolved location s (expression_value (asserted act text) e) old old b
assertion_tried old location s act text e f v final is true other = so_enters old location s act text e v (other refl) (subst (IsFinal (table_of old.symbols) s e) (literal_is f v is) final)
assertion_tried old location s act text e f v final is false other = refl

-- ---- Emission at once, or later.

-- the case of a piece that is emitted at once
pub emitted_at_once : (old new : Assembler) (location : SourceLocation) (s : Context) (p : Piece) (b : Bool) → EmitsIfResolved location s p old new b → b ≡ true → EmitsPieces location s (p ∷ []) old new
emitted_at_once old new location s p true h e = h
emitted_at_once old new location s p false h e = absurd cc

-- the case of a piece that is deferred
pub tried_waits : (old mid new : Assembler) (location : SourceLocation) (s : Context) (p : Piece) (b : Bool) → EmitsIfResolved location s p old mid b → b ≡ false → DefersPiece location s p mid new → EmitsPieces location s (p ∷ []) old new
tried_waits old mid new location s p true h e waits = absurd cc
tried_waits old mid new location s p false h e waits = subst (λ (a : Assembler). EmitsPieces location s (p ∷ []) a new) h (waits_enters mid new location s p waits)
