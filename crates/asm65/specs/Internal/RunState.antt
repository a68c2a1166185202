-- The effects of calls, the states that are represented, the lines of a source, and the pending pieces after
-- them.
use Rattle.std.specs.Prelude.{◌≡◌, ℕ, ◌+◌, ◌*◌, ◌≤◌, ◌<◌, List, [], ◌∷◌, Option, None, IfErr, IfSome, Bool, true, false, Result, Ok, Err, take, ◌++◌, map, length, string_bytes, ⊤}
use Rattle.std.specs.List.{list_any}
use Rattle.std.specs.Str.{bytes_eq}
use Rattle.base65.specs.Outcome.{Unless, ◌>>=◌}
use Rattle.base65.specs.Store.{Files, PropagatesIoErrors, LastFailure}
use Rattle.syntax65.specs.Tokens.{Lexeme}
use Rattle.expand65.specs.Failures.{YieldsStatements}
use Rattle.expand65.specs.State as expand
use Rattle.expand65.specs.Representation.{IsPositioned, measure_of, location_of}
use Rattle.syntax65.specs.declared.source_location.SourceLocation.{SourceLocation}
use Rattle.ast65.specs.declared.fault.AsmFault.{AsmFault}
use Rattle.ast65.specs.declared.fault.AsmFault.TheVariants.{FileError, FileNotFound}
use Rattle.ast65.specs.Faults.{is_failure, is_system_error}
use Rattle.ast65.specs.declared.language.Statement.{Statement}
use Rattle.ast65.specs.declared.language.Statement.TheVariants.{Incbin, IncbinPath}
use Rattle.semantics65.specs.Numbering.{AreSymbolNames, IsWellFormedStatement, AreWellFormedContents, all_declarations, object_with}
use Rattle.sources65.specs.Machine.{RunsStatements, State, StepsTo, initial_state}
use Rattle.sources65.specs.Reading.{AssemblesExpanded, Job, stopped_at, bytes_for, with_bytes}
use Rattle.asm65.specs.declared.assembler.Assembler.{Assembler}
use Rattle.asm65.specs.declared.driver.Run.{Run}
use Rattle.symbols65.specs.Measuring.{opening_limit}
use Rattle.symbols65.specs.Tables.{IsFormCache}
use Rattle.asm65.specs.Internal.AssemblerState.{Represents}
use Rattle.asm65.specs.Assembly.{AnswersWithoutFile, is_diagnostic_system_error, located_fault}
use Rattle.std.specs.Option.{option_map, unwrap_or}
use Rattle.semantics65.specs.Contents.{Content, declaration_content, with_file_name_check, exported_names}
use Rattle.semantics65.specs.declared.contents.Declaration.{Declaration}
use Rattle.semantics65.specs.Symbols.{Symbols, definition_index, named}
use Rattle.semantics65.specs.Views.{declaration_at}
use Rattle.semantics65.specs.Module.{warning_at, PieceResult, declarations_result, Slot, slot_result, resolved, resolution_of}
use Rattle.object65.specs.declared.object.Object.{Object}
use Rattle.semantics65.specs.declared.contents.Segment.{Segment}
use Rattle.object65.specs.Objects.{is_well_formed_object}
use Rattle.emit65.specs.SectionContents.{AreEquivalentSlots, HaveFilesBelow, content_of, contents_so_far, names_of, location_of_pos, slot_of, has_file_below}
use Rattle.emit65.specs.declared.entries.SectionEntry.{SectionEntry}
use Rattle.emit65.specs.declared.entries.SectionEntry.TheVariants as entry
use Rattle.emit65.specs.declared.entries.SourcePos.{SourcePos}
use Rattle.asm65.specs.declared.finish.ResolveState.{ResolveState}
use Rattle.asm65.specs.declared.texts.Diagnostic.{Diagnostic}
use Rattle.asm65.specs.declared.resolving.FixupLocation.{FixupLocation}
use Rattle.asm65.specs.declared.resolving.ResolvedPiece as code

-- ---- The frame of a call that assembles statements.

-- the store's files are unchanged, and its count of failures rises as the result says
pub record AsmStoreFrame {X T : Type 0} (files_of : X → Option Files) (failures_of : X → ℕ) (old new : X) (result : Result T AsmFault) : Type 0 where
  pub files : files_of new ≡ files_of old
  pub count : PropagatesIoErrors is_failure (failures_of old) (failures_of new) result

-- a state is represented, after statements that opened at most this much
abbrev pub RepresentsWithin : ℕ → State → Assembler → Type 0
RepresentsWithin most t a = (count : ℕ) × (count ≤ most) × Represents count t a

-- some state is represented, and this much more may be opened
abbrev pub HasHeadroom : ℕ → Assembler → Type 0
HasHeadroom more a = (count : ℕ) × (t : State) × (count + more ≤ opening_limit) × Represents count t a

-- the assembler has printed what the state has printed
abbrev pub HasSameOutput : State → Assembler → Type 0
HasSameOutput t a = (a.texts.out ≡ t.out) × (a.texts.err ≡ t.err)

-- ---- States that statements lead to.

-- the states after statements whose names objects can hold, in any context
pub data IsReached : State → Type 0 where
  at_first : IsReached initial_state
  following :
      (t u : State) (location : SourceLocation) (x : Statement) →
      IsReached t → IsWellFormedStatement x → StepsTo t location x (Ok u) → IsReached u

-- After a state, a result: the assembler represents the next state; or it has the error without further output, if the
-- names are valid, unless that is a system error.
abbrev pub RefinesTransition :
    Type 0 → (Result State AsmFault → Type 0) → ℕ → State → Assembler →
    Result (Unit {0}) AsmFault → Type 0
RefinesTransition IsValid IsAnswer most t new (Ok x) =
    (u : State) × IsAnswer (Ok u) × (IsReached t → IsReached u) × RepresentsWithin most u new
RefinesTransition IsValid IsAnswer most t new (Err e) =
    Unless (is_system_error e) ((IsValid → IsAnswer (Err e)) × HasSameOutput t new)

-- the answer for the files of the store, if it tells them
abbrev pub ForKnownFiles :
    Option Files → (Files → State → Result State AsmFault → Type 0) → State →
    Result State AsmFault → Type 0
ForKnownFiles o IsAnswer t r = IfSome o (λ m. IsAnswer m t r)

-- the call refines a transition from each represented state in which this much more may be opened
abbrev pub RefinesAllTransitions :
    Type 0 → (State → Result State AsmFault → Type 0) → ℕ → Assembler → Assembler →
    Result (Unit {0}) AsmFault → Type 0
RefinesAllTransitions IsValid IsAnswer more old new r =
    (count : ℕ) (t : State) → count + more ≤ opening_limit → Represents count t old →
    RefinesTransition IsValid (IsAnswer t) (count + more) t new r

-- If the store failed, that is the error, and nothing more was printed. If the file weren't there, the error
-- would say so, for each represented state in which this much more may be opened.
pub record FailsWithoutOutput (IsAnswer : State → Result State AsmFault → Type 0) (more : ℕ) (old new : Assembler) (e : AsmFault) : Type 0 where
  pub fault : e ≡ FileError
  pub out : new.texts.out ≡ old.texts.out
  pub err : new.texts.err ≡ old.texts.err
  pub unread :
      (count : ℕ) (t : State) → count + more ≤ opening_limit → Represents count t old →
      IsAnswer t (Err FileNotFound)

abbrev pub KeepsOutputAtFailure :
    (State → Result State AsmFault → Type 0) → ℕ → Assembler → Assembler →
    Result (Unit {0}) AsmFault → Type 0
KeepsOutputAtFailure IsAnswer more old new r =
    IfErr r (λ e. is_failure e ≡ true → FailsWithoutOutput IsAnswer more old new e)

-- A call that may read a file: if the store tells its files, it refines the transitions; if the store failed, it stops
-- without output.
pub record RefinesRead (o : Option Files) (last_failure : LastFailure) (IsValid : Type 0)
    (IsAnswer : Files → State → Result State AsmFault → Type 0) (more : ℕ) (old new : Assembler)
    (r : Result (Unit {0}) AsmFault) : Type 0 where
  pub taken : RefinesAllTransitions IsValid (ForKnownFiles o IsAnswer) more old new r
  pub stopped : KeepsOutputAtFailure (AnswersWithoutFile o last_failure IsAnswer) more old new r

-- ---- A source.

-- twice the greatest measure of a new expander (3145729): each of its statements opens two at most
abbrev pub running_limit : ℕ
running_limit = 6291458

-- a run represents a state, in which the remaining statements may open as much as they can
pub record RunRepresents (t : State) (run : Run) : Type 0 where
  pub count : ℕ
  pub room : count + 2 * measure_of run.expander ≤ running_limit
  pub holds : Represents count t run.assembler

-- a run represents a state that statements lead to
abbrev pub IsRunning : Run → Type 0
IsRunning run = (t : State) × IsReached t × RunRepresents t run

-- an assembler represents a state, after any number of openings
abbrev pub RepresentsSome : State → Assembler → Type 0
RepresentsSome t a = (count : ℕ) × Represents count t a

-- the result of the statements of a source, or their first error, unless it is a system error
abbrev pub RefinesRun : Files → Job → Run → Result (Unit {0}) AsmFault → Type 0
RefinesRun m job new (Ok x) =
    (u : State) × RunsStatements m job (record { state = u; fault = None }) × RepresentsSome u new.assembler
RefinesRun m job new (Err e) = Unless (is_system_error e)
    ((u : State) × RunsStatements m job (stopped_at u (location_of new.expander) e) × HasSameOutput u new.assembler)

abbrev pub tokens_of : expand.ExpandedStatement → List Lexeme
tokens_of (expand.label ts) = ts
tokens_of (expand.plain ts) = ts

-- A statement that expansion gives at a place is taken.
abbrev pub AssemblesStatement :
    Option Files → LastFailure → SourceLocation → expand.ExpandedStatement → Assembler → Assembler →
    Result (Unit {0}) AsmFault → Type 0
AssemblesStatement o last_failure location x = RefinesRead o last_failure (AreSymbolNames (tokens_of x)) (λ m t. AssemblesExpanded m StepsTo t location x) 2

-- statements are taken in order, up to the first that has an error
pub data AssemblesStatements (o : Option Files) (last_failure : LastFailure) (location : SourceLocation) :
    List expand.ExpandedStatement → Assembler → Assembler → Result (Unit {0}) AsmFault → Type 0 where
  none : (a : Assembler) → AssemblesStatements o last_failure location [] a a (Ok tt)
  rejected :
      (old new : Assembler) (x : expand.ExpandedStatement) (xs : List expand.ExpandedStatement) (e : AsmFault) →
      AssemblesStatement o last_failure location x old new (Err e) → AssemblesStatements o last_failure location (x ∷ xs) old new (Err e)
  one_more :
      (old mid new : Assembler) (x : expand.ExpandedStatement) (xs : List expand.ExpandedStatement)
      (r : Result (Unit {0}) AsmFault) →
      AssemblesStatement o last_failure location x old mid (Ok tt) → AssemblesStatements o last_failure location xs mid new r →
      AssemblesStatements o last_failure location (x ∷ xs) old new r

-- The statements of the next line of a run are taken.
pub record AssemblesLine (o : Option Files) (last_failure : LastFailure) (old new : Run) (r : Result (Unit {0}) AsmFault) : Type 0 where
  pub statements : List expand.ExpandedStatement
  pub given : YieldsStatements old.expander statements new.expander
  pub taken : AssemblesStatements o last_failure (location_of new.expander) statements old.assembler new.assembler r
  pub less : measure_of new.expander < measure_of old.expander
  pub placed : (m : Files) → IsPositioned m old.expander → IsPositioned m new.expander

-- the statements of the next line are assembled, or (for `Ok false`) nothing changes
abbrev pub AssemblesOptionalLine : Option Files → LastFailure → Run → Run → Result Bool AsmFault → Type 0
AssemblesOptionalLine o last_failure old new (Ok true) = AssemblesLine o last_failure old new (Ok tt)
AssemblesOptionalLine o last_failure old new (Ok false) = new ≡ old
AssemblesOptionalLine o last_failure old new (Err e) = AssemblesLine o last_failure old new (Err e)

-- ---- What is read of the files whose bytes statements take.

-- a statement with the bytes of its file up to the limit, or up to one more, where there are more
abbrev pub read_bytes : Files → SourceLocation → Statement → Statement
read_bytes m location (IncbinPath name start len) =
    Incbin (option_map (take 16777217) (bytes_for m location name)) start len
read_bytes m location x = x

-- An error from reading a statement's file. Unless it is a system error, the statement has it whatever its file holds. If
-- the store failed, the statement has no such error: without its file, its error would be that the file isn't there.
pub record IsRejectedUnread (o : Option Files) (last_failure : LastFailure) (t : State) (location : SourceLocation) (x : Statement) (e : AsmFault) : Type 0 where
  pub inside : Unless (is_system_error e) ((m : Files) → StepsTo t location (with_bytes m location x) (Err e))
  pub failed : is_failure e ≡ true → AnswersWithoutFile o last_failure (λ m t. StepsTo t location (with_bytes m location x)) t (Err FileNotFound)

-- ---- The result of a piece.

-- the files of a pending piece, and its location
abbrev pub fixup_files : FixupLocation → List (List ℕ)
fixup_files t = map string_bytes t.files.now

abbrev pub location_of_fixup : FixupLocation → SourceLocation
location_of_fixup t = location_of_pos (fixup_files t) t.pos

-- an entry of it
abbrev pub entry_content : FixupLocation → SectionEntry → Content
entry_content t e = content_of (fixup_files t) e

-- what is put or said, and the warning of an assertion that failed
abbrev pub result_of_piece : FixupLocation → code.ResolvedPiece → PieceResult
result_of_piece t m = record {
  content = unwrap_or (option_map (entry_content t) m.entry) (declaration_content []);
  warning = unwrap_or (option_map (warning_at (location_of_fixup t)) m.warning) [];
}

-- an entry isn't pending, and its location, if it has one, is this
abbrev pub HasLocation : SourcePos → SectionEntry → Type 0
HasLocation pos (entry.Value width g o f) = o ≡ pos
HasLocation pos (entry.DeclarationEntry t) = t.value.pos ≡ pos
HasLocation pos (entry.FixupEntry w) = ⊥
HasLocation pos _ = ⊤

abbrev pub PieceHasLocation : SourcePos → code.ResolvedPiece → Type 0
PieceHasLocation pos m = IfSome m.entry (HasLocation pos)

-- an entry may replace a content
abbrev pub CanReplace : List (List ℕ) → Content → SectionEntry → Type 0
CanReplace files c e = AreEquivalentSlots (resolved c ∷ []) (slot_of files e ∷ [])

-- the result of a declaration that is written with its location
abbrev pub declaration_result : SourceLocation → Declaration → Result PieceResult AsmFault
declaration_result location s = with_file_name_check location (declaration_at location s ∷ []) >>= declarations_result

-- a name that isn't defined is none of these
abbrev pub AreDefinedNames : Symbols → List (List ℕ) → Type 0
AreDefinedNames y names = (n : List ℕ) → definition_index y (named 0 n) ≡ None → list_any (bytes_eq n) names ≡ false

-- ---- Behind the last line.

-- what was found is so by a symbol table: forms of constants, and that names which were exported are defined
pub record IsResolveState (y : Symbols) (e : ResolveState) : Type 0 where
  pub forms : IsFormCache y e.known
  pub names : AreDefinedNames y (names_of e.exported)

-- entries that refer to these files, and declare nothing yet
pub record AreInitialEntries (files : List (List ℕ)) (es : List SectionEntry) : Type 0 where
  pub standing : HaveFilesBelow (length files) es
  pub no_declarations : all_declarations (contents_so_far (map (slot_of files) es)) ≡ []

-- a slot is resolved to its content, which an entry represents, and its warning is printed
pub record IsResolvedSlot (y : Symbols) (files : List (List ℕ)) (x : Slot) (e : SectionEntry) (old new : ResolveState) : Type 0 where
  pub made : PieceResult
  pub found : slot_result y (names_of old.exported) x ≡ Ok made
  pub entry : CanReplace files made.content e
  pub standing : has_file_below (length files) e ≡ true
  pub names : names_of new.exported ≡ names_of old.exported ++ exported_names made.content.said
  pub err : new.err ≡ old.err ++ made.warning

-- it has a fault instead, and nothing is said
pub record IsFaultySlot (y : Symbols) (x : Slot) (e : Diagnostic) (old new : ResolveState) : Type 0 where
  pub found : slot_result y (names_of old.exported) x ≡ Err (located_fault e)
  pub err : new.err ≡ old.err

-- what a call leaves that isn't refused
abbrev pub result_with : {A : Type 0} → A → Result Unit Diagnostic → Result A Diagnostic
result_with a (Ok u) = Ok a
result_with a (Err e) = Err e

abbrev pub ResolvesSlot : Symbols → List (List ℕ) → Slot → ResolveState → ResolveState → Result SectionEntry Diagnostic → Type 0
ResolvesSlot y files x old new (Ok e) = IsResolvedSlot y files x e old new
ResolvesSlot y files x old new (Err e) = Unless (is_diagnostic_system_error e) (IsFaultySlot y x e old new)

-- all slots are resolved to contents, which the entries represent
pub record AreResolvedSlots (y : Symbols) (files : List (List ℕ)) (xs : List Slot) (es : List SectionEntry) (old new : ResolveState) :
    Type 0 where
  pub contents : List Content
  pub said : List ℕ
  pub found : resolution_of y (names_of old.exported) xs ≡ record { found = Ok contents; printed_warnings = said }
  pub entries : AreEquivalentSlots (map resolved contents) (map (slot_of files) es)
  pub standing : HaveFilesBelow (length files) es
  pub err : new.err ≡ old.err ++ said

-- there is a first error, after the warnings of the slots before it
pub record AreFaultySlots (y : Symbols) (names : List (List ℕ)) (xs : List Slot) (e : Diagnostic) (old new : List ℕ) :
    Type 0 where
  pub said : List ℕ
  pub found : resolution_of y names xs ≡ record { found = Err (located_fault e); printed_warnings = said }
  pub err : new ≡ old ++ said

abbrev pub ResolvesSlots :
    Symbols → List (List ℕ) → List Slot → ResolveState → ResolveState → Result (List SectionEntry) Diagnostic → Type 0
ResolvesSlots y files xs old new (Ok es) = AreResolvedSlots y files xs es old new
ResolvesSlots y files xs old new (Err e) =
    Unless (is_diagnostic_system_error e) (AreFaultySlots y (names_of old.exported) xs e old.err new.err)

-- slots are resolved to contents, and this is their object; it can be written if the conditions on the
-- contents hold
pub record IsObjectOf (y : Symbols) (segments : List Segment) (xs : List Slot) (o : Object) (old new : List ℕ) :
    Type 0 where
  pub contents : List Content
  pub said : List ℕ
  pub found : resolution_of y [] xs ≡ record { found = Ok contents; printed_warnings = said }
  pub object : o ≡ object_with segments y.imports contents
  pub good : AreWellFormedContents segments y.imports contents → is_well_formed_object o ≡ true
  pub err : new ≡ old ++ said

-- the object of slots, or their first error, and the output before and after
abbrev pub RefinesObject :
    Symbols → List Segment → List Slot → (old new : List ℕ) → Result Object Diagnostic → Type 0
RefinesObject y segments xs old new (Ok o) = IsObjectOf y segments xs o old new
RefinesObject y segments xs old new (Err e) = Unless (is_diagnostic_system_error e) (AreFaultySlots y [] xs e old new)
