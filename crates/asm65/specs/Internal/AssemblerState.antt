-- What the assembler holds between two statements, and what taking one leaves.
use Rattle.std.specs.Prelude.{◌≡◌, ℕ, ◌<◌, ⊤, false, List, [], ◌∷◌, Option, Some, Bool, true, pos, None, Result, Ok, Err, ◌++◌, if◌then◌else◌}
use Rattle.std.specs.List.{AllByRecursion, flat_map, list_all}
use Rattle.syntax65.specs.Trees.{name}
use Rattle.syntax65.specs.declared.source_location.SourceLocation.{SourceLocation}
use Rattle.semantics65.specs.Contents.{Part, operand_form, section_part, value_part, section_request}
use Rattle.semantics65.specs.declared.contexts.Context.{Context}
use Rattle.semantics65.specs.Symbols.{Definition, Key, Symbols, unnamed_at, binding_of, LaidOutStatement, needs_section, definition_index, key_defined}
use Rattle.sources65.specs.Machine.{PieceSteps, State, with_fixup, with_content}
use Rattle.semantics65.specs.Module as piece
use Rattle.semantics65.specs.Numbering.{all_declarations}
use Rattle.emit65.specs.SectionContents.{RepresentsSlots, AppendsSlot, contents_so_far}
use Rattle.symbols65.specs.Views.{table_of}
use Rattle.asm65.specs.declared.assembler.Assembler.{Assembler}
use Rattle.symbols65.specs.Measuring.{HaveBoundedParents, HasBoundedCounts, layout_of_statement, opening_limit}
use Rattle.expand65.specs.State.{EnvironmentView}
use Rattle.semantics65.specs.Norms.{constant_in}
use Rattle.sources65.specs.Reading.{is_definition}
use Rattle.base65.specs.Outcome.{◌>>=◌, Unless}
use Rattle.object65.specs.Form.{Form}
use Rattle.object65.specs.Objects.{fits_width, value_bytes}
use Rattle.base65.specs.declared.width.Width.{Width}
use Rattle.ast65.specs.declared.fault.AsmFault.{AsmFault}
use Rattle.base65.specs.declared.action.Action.{Action}
use Rattle.asm65.specs.declared.emission.values.ValueUse.{ValueUse}
use Rattle.asm65.specs.declared.emission.values.ValueUse.TheVariants as use_of
use Rattle.emit65.specs.declared.sections.Sections.{Sections}
use Rattle.syntax65.specs.declared.lexing.tokens.AddressSize.{AddressSize}
use Rattle.syntax65.specs.declared.lexing.tokens.AddressSize.TheVariants as size
use Rattle.ast65.specs.declared.language.Statement.{Statement}
use Rattle.ast65.specs.declared.language.Statement.TheVariants.{Align, Assert, Incbin, Instruction, Reserve, Values}
use Rattle.semantics65.specs.Layout.{context_of, cursor_after, line_fault, opened_twice, scope_name}
use Rattle.ast65.specs.Faults.{is_system_error}
use Rattle.semantics65.specs.Module.{statement_stdout, statement_warning, resolved}
use Rattle.symbols65.specs.declared.measuring.StatementLayout.{StatementLayout}
use Rattle.asm65.specs.declared.naming.NameUse.{NameUse}
use Rattle.asm65.specs.declared.naming.NameUse.TheVariants as mention

-- ---- What is counted.

-- an unnamed label has one of the numbers that are given out
abbrev pub IsNumberedBelow : ℕ → Key → Type 0
IsNumberedBelow next (unnamed_at k) = k < next
IsNumberedBelow next _ = ⊤

abbrev pub AreNumberedBelow : ℕ → List Definition → Type 0
AreNumberedBelow next ds = AllByRecursion (λ d. IsNumberedBelow next d.key) ds

-- ---- An assembler.

-- An assembler represents a state, after statements with at most this many openings (of scopes, regions, segments and
-- unnamed labels).
pub record Represents (count : ℕ) (t : State) (a : Assembler) : Type 0 where
  pub symbols : table_of a.symbols ≡ t.symbols
  pub cursor : a.cursor ≡ t.cursor
  pub counted : HasBoundedCounts count t.cursor
  pub inside : HaveBoundedParents count t.symbols.scopes
  pub unnamed : AreNumberedBelow t.cursor.unnamed t.symbols.definitions
  pub sections : RepresentsSlots t.slots a.sections
  -- nothing is said yet to other modules and to the linker
  pub no_declarations : all_declarations (contents_so_far t.slots) ≡ []
  pub out : a.texts.out ≡ t.out
  pub err : a.texts.err ≡ t.err

-- ---- What calls do.

-- Pieces of a statement in this context are emitted or deferred, in order; all else is unchanged.
abbrev pub EmitsPieces : SourceLocation → Context → List piece.Piece → Assembler → Assembler → Type 0
EmitsPieces location s ps old new =
    (count : ℕ) (t : State) → Represents count t old →
    (u : State) × PieceSteps location s t ps u × Represents count u new

-- ---- What names and expressions mean at a context.

-- the environment of a context, by this symbol table
abbrev pub environment_in : Symbols → Context → EnvironmentView
environment_in y s = record {
  value = constant_in y s;
  defined = λ global parts. is_definition (binding_of y s (name global parts));
}

-- ---- A piece that is left waiting.

-- the same except for section contents and pending pieces
pub record ChangesOnlySections (old new : Assembler) : Type 0 where
  pub symbols : new.symbols ≡ old.symbols
  pub cursor : new.cursor ≡ old.cursor
  pub texts : new.texts ≡ old.texts

-- A piece of a statement in this context is deferred.
abbrev pub DefersPiece : SourceLocation → Context → piece.Piece → Assembler → Assembler → Type 0
DefersPiece location s p old new =
    (count : ℕ) (t : State) → Represents count t old →
    Represents count (with_fixup t (record { place = location; context = s; piece = p })) new

-- ---- Parts.

-- a part is put into the section of a segment, if there is one; else the sections stay
abbrev pub AppendsPart : Sections → Sections → ℕ → Result Part AsmFault → Bool → Type 0
AppendsPart old new segment r false = new ≡ old
AppendsPart old new segment (Ok p) true = AppendsSlot old new (resolved (section_part segment p))
AppendsPart old new segment (Err e) true = ⊥

-- what is stored of an operand's form
abbrev pub operand_part : Width → Context → SourceLocation → Form → Result Part AsmFault
operand_part width s location f = operand_form width s f >>= value_part width location

-- numbers that are in range, and their bytes
pub record AreEncodedNumbers (width : Width) (ns encoded : List ℕ) : Type 0 where
  pub fit : list_all (λ (n : ℕ). fits_width width (pos n)) ns ≡ true
  pub bytes : encoded ≡ flat_map (λ (n : ℕ). value_bytes width (pos n)) ns

-- ---- Pieces.

-- a piece of a statement in this context is emitted, or nothing changes
abbrev pub EmitsIfResolved : SourceLocation → Context → piece.Piece → Assembler → Assembler → Bool → Type 0
EmitsIfResolved location s p old new false = new ≡ old
EmitsIfResolved location s p old new true = EmitsPieces location s (p ∷ []) old new

-- the purpose of a value with this use; an assertion has this action and text
abbrev pub purpose_of : ValueUse → Action → List ℕ → piece.Purpose
purpose_of (use_of.Datum width) action text = piece.datum width
purpose_of (use_of.Operand width) action text = piece.operand width
purpose_of use_of.Assertion action text = piece.asserted action text

-- the form of the next element, if the list has one, and the rest of the list
abbrev pub IsNextForm : List (Option Form) → Option Form → List (Option Form) → Type 0
IsNextForm [] o rest = (o ≡ None) × (rest ≡ [])
IsNextForm (f ∷ fs) o rest = (o ≡ f) × (rest ≡ fs)

-- ---- What a statement adds to what an assembler holds.

-- a statement with its location, context and layout
abbrev pub statement_with_layout : SourceLocation → Context → StatementLayout → Statement → LaidOutStatement
statement_with_layout location s m x = record {
  stated = x;
  place = location;
  context = s;
  length = m.length;
  size = m.size;
  encoding = m.encoding;
}

-- a statement that puts something into a section, or is an assertion
abbrev pub has_content : Statement → Bool
has_content (Instruction m o) = true
has_content (Values width items) = true
has_content (Reserve n v) = true
has_content (Align n v) = true
has_content (Incbin bytes start len) = true
has_content (Assert e action text) = true
has_content _ = false

-- what a statement here defines and opens is not there yet
pub record IsNew (y : Symbols) (s : Context) (x : Statement) : Type 0 where
  pub opened : opened_twice y.scopes s.scope (scope_name x) ≡ None
  pub defined : (k : Key) → key_defined s x ≡ Some k → definition_index y k ≡ None

-- only the symbol table changes
pub record ChangesOnlySymbols (old new : Assembler) : Type 0 where
  pub cursor : new.cursor ≡ old.cursor
  pub sections : new.sections ≡ old.sections
  pub texts : new.texts ≡ old.texts

-- Pieces of a statement in this context are emitted, and then the symbol table is updated.
abbrev pub EmitsThenDefines : SourceLocation → Context → List piece.Piece → (Symbols → Symbols) → Assembler → Assembler → Type 0
EmitsThenDefines location s ps becomes old new =
    (count : ℕ) (t : State) → Represents count t old → HaveBoundedParents count (becomes t.symbols).scopes →
    AreNumberedBelow t.cursor.unnamed (becomes t.symbols).definitions →
    (u : State) × PieceSteps location s t ps u × Represents count (record u { symbols = becomes t.symbols }) new

-- some state is represented, after statements that one more may follow
abbrev pub IsRepresentable : Assembler → Type 0
IsRepresentable a = (count : ℕ) × (t : State) × Represents count t a × (count < opening_limit)

-- what a statement asks for, of the section of a segment
abbrev pub with_requested_section : ℕ → Statement → State → State
with_requested_section segment x t = if needs_section x then with_content t (section_request segment) else t

abbrev pub RequestsSection : ℕ → Statement → Assembler → Assembler → Type 0
RequestsSection segment x old new =
    (count : ℕ) (t : State) → Represents count t old → Represents count (with_requested_section segment x t) new

-- ---- The context of a statement.

-- a statement here has no fault at its line, and places so much
pub record HasLayout (t : State) (x : Statement) (s : Context) (m : StatementLayout) : Type 0 where
  pub faultless : line_fault t.symbols t.cursor x ≡ None
  pub context : s ≡ context_of t.cursor
  pub measured : m ≡ layout_of_statement t.symbols t.cursor x

-- it has this error there, unless that is a system error
abbrev pub IsRejected : State → Statement → AsmFault → Type 0
IsRejected t x e = Unless (is_system_error e) (line_fault t.symbols t.cursor x ≡ Some e)

-- the state in which a statement's pieces are entered
abbrev pub state_after_layout : State → SourceLocation → Statement → State
state_after_layout t location x =
    let u : State = with_requested_section (context_of t.cursor).segment x t in
    record u {
      cursor = cursor_after t.symbols t.cursor x;
      out = u.out ++ statement_stdout x;
      err = u.err ++ statement_warning location x;
    }

-- ---- Names.

-- a label stands for its address
abbrev pub label_definition : Key → Context → AddressSize → Definition
label_definition k s size = record { key = k; value = None; context = s; size = size }

abbrev pub is_for_zero_page : AddressSize → Bool
is_for_zero_page size.ZeroPage = true
is_for_zero_page size.Absolute = false

abbrev pub name_use_piece : NameUse → List ℕ → piece.Piece
name_use_piece mention.Imported n = piece.imported n
name_use_piece mention.ForcedImport n = piece.forced_import n
name_use_piece (mention.Exported must) n = piece.exported must n

-- pending pieces, in order
abbrev pub with_fixups : SourceLocation → Context → State → List piece.Piece → State
with_fixups location s t [] = t
with_fixups location s t (p ∷ ps) =
    with_fixups location s (with_fixup t (record { place = location; context = s; piece = p })) ps

-- the names that a statement mentions here are deferred
abbrev pub DefersMentions : SourceLocation → Context → List piece.Piece → Assembler → Assembler → Type 0
DefersMentions location s ps old new =
    (count : ℕ) (t : State) → Represents count t old → Represents count (with_fixups location s t ps) new
