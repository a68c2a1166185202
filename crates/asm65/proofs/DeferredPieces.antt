-- The state that an assembler represents after a further piece is deferred or emitted at once.
use Rattle.std.proofs.Common.{◌≡◌, ◌∙◌, ℕ, List, [], ◌∷◌, ◌++◌, map, ap, refl}
use Rattle.std.proofs.lemmas.Grind.{flat_map-append}
use Rattle.std.proofs.lemmas.List.{map-append}
use Rattle.semantics65.specs.Contents.{Content}
use Rattle.syntax65.specs.declared.source_location.SourceLocation.{SourceLocation}
use Rattle.semantics65.specs.declared.contexts.Context.{Context}
use Rattle.sources65.specs.Machine.{State, with_fixup, with_content, deferred_piece_step}
use Rattle.semantics65.specs.Module.{Piece, Fixup, Slot, resolved, deferred}
use Rattle.emit65.specs.declared.sections.Sections.{Sections}
use Rattle.semantics65.specs.Numbering.{all_declarations}
use Rattle.emit65.specs.SectionContents.{AppendsSlot, RepresentsSlots, contents_so_far, content_so_far}
use Rattle.emit65.proofs.Slots.{held_contents}
use Rattle.symbols65.specs.Views.{table_of}
use Rattle.asm65.specs.declared.assembler.Assembler.{Assembler}
use Rattle.asm65.specs.Internal.AssemblerState.{EmitsPieces, Represents, ChangesOnlySections, DefersPiece}

-- a state with further slots
abbrev pub with_slots : State → List Slot → State
with_slots t xs = record t { slots = t.slots ++ xs }

-- a state with further contents, in order
abbrev pub all_entered : State → List Content → State
all_entered t cs = with_slots t (map resolved cs)

-- the new sections represent these slots after those of the old ones
abbrev pub FeedsAll : Sections → Sections → List Slot → Type 0
FeedsAll old new xs = (ys : List Slot) → RepresentsSlots ys old → RepresentsSlots (ys ++ xs) new

said_more : (xs ys : List Slot) → all_declarations (contents_so_far (xs ++ ys)) ≡ all_declarations (contents_so_far xs) ++ all_declarations (contents_so_far ys)
said_more xs ys = ap all_declarations (map-append content_so_far xs ys) ∙ flat_map-append (λ (c : Content). c.said) (contents_so_far xs) (contents_so_far ys)

module _ (count : ℕ) (t : State) (old new : Assembler) (h : Represents count t old) (keeps : ChangesOnlySections old new) where
  -- appending slots without declarations
  pub holds_slots : (xs : List Slot) → all_declarations (contents_so_far xs) ≡ [] → FeedsAll old.sections new.sections xs → Represents count (with_slots t xs) new
  holds_slots xs quiet feeds = record {
    symbols = ap table_of keeps.symbols ∙ h.symbols;
    cursor = keeps.cursor ∙ h.cursor;
    counted = h.counted;
    inside = h.inside;
    unnamed = h.unnamed;
    sections = feeds t.slots h.sections;
    no_declarations = said_more t.slots xs ∙ (λ n. h.no_declarations n ++ quiet n);
    out = ap (λ x. x.out) keeps.texts ∙ h.out;
    err = ap (λ x. x.err) keeps.texts ∙ h.err;
  }

  -- deferring a piece
  pub holds_awaiting : (w : Fixup) → AppendsSlot old.sections new.sections (deferred w) → Represents count (with_fixup t w) new
  holds_awaiting w feeds = holds_slots (deferred w ∷ []) refl feeds

  -- appending contents at once
  pub holds_all : (cs : List Content) → all_declarations cs ≡ [] → FeedsAll old.sections new.sections (map resolved cs) → Represents count (all_entered t cs) new
  holds_all cs quiet feeds = holds_slots (map resolved cs) (ap all_declarations (held_contents cs) ∙ quiet) feeds

  -- appending one content at once
  pub holds_entered : (c : Content) → c.said ≡ [] → AppendsSlot old.sections new.sections (resolved c) → Represents count (with_content t c) new
  holds_entered c quiet feeds = holds_slots (resolved c ∷ []) (ap (λ ss. ss ++ []) quiet) feeds

-- deferring a piece is one way to emit the piece
pub waits_enters : (old new : Assembler) (location : SourceLocation) (s : Context) (p : Piece) → DefersPiece location s p old new → EmitsPieces location s (p ∷ []) old new
waits_enters old new location s p kept count t h = (with_fixup t (record { place = location; context = s; piece = p }), (with_fixup t (record { place = location; context = s; piece = p }), deferred_piece_step, refl), kept count t h)
