-- The step of an assembler for one statement.
use Rattle.std.proofs.Common.{◌≡◌, ◌∙◌, ℕ, zero, suc, ◌+◌, ◌≤◌, List, [], ◌∷◌, ◌++◌, refl, sym, ap, subst, append-nil, arith, true, false, Option, Some, None}
use Rattle.std.specs.Prelude.{Bool, ◌&&◌, ◌||◌, IfSome, length, Ok, Err, slice_get, if◌then◌else◌}
use Rattle.std.proofs.lemmas.Bool.Decides.{nat_tests}
use Rattle.base65.specs.Outcome.{Unless}
use Rattle.syntax65.specs.declared.source_location.SourceLocation.{SourceLocation}
use Rattle.syntax65.specs.declared.lexing.tokens.AddressSize.{AddressSize}
use Rattle.ast65.specs.declared.fault.AsmFault.{AsmFault}
use Rattle.ast65.specs.declared.fault.AsmFault.TheVariants.{DefinedTwice, NotUnderstood, FileNotFound}
use Rattle.semantics65.specs.Contents.{section_request}
use Rattle.semantics65.specs.Symbols.{LaidOutStatement, needs_section, is_unnamed, Definition, Key, Scope, Symbols, cheap_in, definition_index, definition_with, definitions_of, key_defined, named, same_key, scope_opened, unnamed_at, value_defined}
use Rattle.semantics65.specs.declared.contexts.Context.{Context}
use Rattle.ast65.specs.declared.language.Statement.{Statement}
use Rattle.ast65.specs.declared.language.Statement.TheVariants as statement
use Rattle.semantics65.specs.Layout.{Cursor, laid_out_statement, context_of, cursor_after, defined_twice, first_fault, is_not_global, line_fault, missing_scopes_fault, opened_twice, or_then, layout_faults, scope_name, is_global_only, trees_of, fault_if, fault_if_some, operand_fault, unless_fault}
use Rattle.symbols65.specs.Measuring.{HaveBoundedParents, opening_count, layout_of_statement, naming_fault, unread_fault, HasBoundedCounts}
use Rattle.symbols65.specs.declared.measuring.StatementLayout.{StatementLayout}
use Rattle.symbols65.proofs.NextCursors.{inside_after}
use Rattle.symbols65.proofs.StatementLayouts.{faults_are, unless_then}
use Rattle.semantics65.proofs.Segments.{all_more, all_same}
use Rattle.sources65.specs.Machine.{PieceStep, PieceSteps, State, StepsWithoutError, StepsTo, UnlessFault, emitted_now, with_content, with_symbols, deferred_piece_step, symbols_after}
use Rattle.semantics65.specs.Module.{statement_stdout, statement_warning, Piece, pieces_of}
use Rattle.symbols65.specs.Views.{table_of}
use Rattle.symbols65.proofs.InternedNames.{position_none}
use Rattle.symbols65.specs.declared.table.symbols.Symbols.{Symbols as SymbolTable}
use Rattle.asm65.specs.declared.assembler.Assembler.{Assembler}
use Rattle.asm65.specs.declared.texts.ConsoleOutput.{ConsoleOutput}
use Rattle.asm65.specs.Internal.AssemblerState.{AreNumberedBelow, Represents, IsNumberedBelow, IsNew, HasLayout, EmitsThenDefines, with_requested_section, statement_with_layout, state_after_layout}
use Rattle.asm65.proofs.SymbolUpdates.{IsBeside, puts_beside}
use Rattle.std.specs.FinMap.{get}
use Rattle.base65.specs.Store.{Files, FailedOn, FailedWithin, LastFailure, bytes_in}
use Rattle.syntax65.specs.Trees.{Tree}
use Rattle.expand65.specs.Expansion.{sibling_path, file_named}
use Rattle.ast65.specs.Faults.{is_failure, is_out_of_memory, is_system_error}
use Rattle.ast65.specs.declared.language.Statement.TheVariants.{Incbin, IncbinPath}
use Rattle.sources65.specs.Reading.{bytes_for, with_bytes}
use Rattle.asm65.specs.Internal.RunState.{IsRejectedUnread}

-- entries of searches in a symbol table don't change the state that an assembler represents
pub represents_searched : (count : ℕ) (t : State) (old : Assembler) (symbols : SymbolTable) → table_of symbols ≡ table_of old.symbols → Represents count t old → Represents count t (record old { symbols = symbols })
represents_searched count t old symbols same h = record {
  symbols = same ∙ h.symbols;
  cursor = h.cursor;
  counted = h.counted;
  inside = h.inside;
  unnamed = h.unnamed;
  sections = h.sections;
  no_declarations = h.no_declarations;
  out = h.out;
  err = h.err;
}

-- ---- Unnamed labels.

key_later : (n : ℕ) (k : Key) → IsNumberedBelow n k → IsNumberedBelow (n + 1) k
key_later n (named s m) h = tt
key_later n (cheap_in r m) h = tt
key_later n (unnamed_at j) h = omega (arith, h)

all_later : (n : ℕ) (ds : List Definition) → AreNumberedBelow n ds → AreNumberedBelow (n + 1) ds
all_later n ds h = all_same (λ (d : Definition). IsNumberedBelow n d.key) (λ (d : Definition). IsNumberedBelow (n + 1) d.key) (λ d p. key_later n d.key p) ds h

still_before : (x : Statement) (n : ℕ) (ds : List Definition) → AreNumberedBelow n ds → AreNumberedBelow (if is_unnamed x then n + 1 else n) ds
still_before statement.UnnamedLabel n ds h = all_later n ds h
still_before _ n ds h = h

before_after : (x : Statement) (s : Context) (own : AddressSize) (ds : List Definition) → AreNumberedBelow s.unnamed ds → AreNumberedBelow (if is_unnamed x then s.unnamed + 1 else s.unnamed) (ds ++ definition_with (key_defined s x) (value_defined x) s own)
before_after x s own ds h = by x
  where
    more : (n : ℕ) (d : Definition) → AreNumberedBelow n ds → IsNumberedBelow n d.key → AreNumberedBelow n (ds ++ d ∷ [])
    more n d k p = all_more (λ (e : Definition). IsNumberedBelow n e.key) ds d k p

    by : (x : Statement) → AreNumberedBelow (if is_unnamed x then s.unnamed + 1 else s.unnamed) (ds ++ definition_with (key_defined s x) (value_defined x) s own)
    by (statement.Label n) = more s.unnamed (record { key = named s.scope n; value = None; context = s; size = own }) h tt
    by (statement.Constant n e) = more s.unnamed (record { key = named s.scope n; value = Some e; context = s; size = own }) h tt
    by (statement.OpenProc n) = more s.unnamed (record { key = named s.scope n; value = None; context = s; size = own }) h tt
    by (statement.CheapLabel n) = more s.unnamed (record { key = cheap_in s.region n; value = None; context = s; size = own }) h tt
    by statement.UnnamedLabel = more (s.unnamed + 1) (record { key = unnamed_at s.unnamed; value = None; context = s; size = own }) (all_later s.unnamed ds h) (omega arith)
    by _ = subst (λ (es : List Definition). AreNumberedBelow s.unnamed es) (sym (append-nil ds)) h

before_at : (n : ℕ) (ds : List Definition) (i : ℕ) (d : Definition) → AreNumberedBelow n ds → slice_get ds i ≡ Some d → IsNumberedBelow n d.key
before_at n [] i d h e = absurd cc
before_at n (c ∷ ds) zero d h e = let same : c ≡ d = cc in subst (λ (b : Definition). IsNumberedBelow n b.key) same h.0
before_at n (c ∷ ds) (suc i) d h e = before_at n ds i d h.1 e

other_key : (n : ℕ) (k : Key) → IsNumberedBelow n k → same_key k (unnamed_at n) ≡ false
other_key n (named s m) h = refl
other_key n (cheap_in r m) h = refl
other_key n (unnamed_at j) h = grind (arith, nat_tests)

next_free : (y : Symbols) (n : ℕ) → AreNumberedBelow n y.definitions → definition_index y (unnamed_at n) ≡ None
next_free y n h = position_none (λ (d : Definition). same_key d.key (unnamed_at n)) y.definitions (λ i d e. other_key n d.key (before_at n y.definitions i d h e))

-- ---- New names and scopes.

or_none : (f g : Option AsmFault) → or_then f g ≡ None → (f ≡ None) × (g ≡ None)
or_none None g h = (refl, h)
or_none (Some e) g h = absurd cc

there_none : (o : Option ℕ) (e : AsmFault) → fault_if_some o e ≡ None → o ≡ None
there_none None e h = refl
there_none (Some i) e h = absurd cc

unnamed_is : (x : Statement) (s : Context) (j : ℕ) → key_defined s x ≡ Some (unnamed_at j) → s.unnamed ≡ j
unnamed_is statement.UnnamedLabel s j e = cc
unnamed_is _ s j e = absurd cc

key_free : (y : Symbols) (x : Statement) (s : Context) (k : Key) → defined_twice y (Some k) ≡ None → key_defined s x ≡ Some k → AreNumberedBelow s.unnamed y.definitions → definition_index y k ≡ None
key_free y x s (named scope n) h e before = there_none (definition_index y (named scope n)) (DefinedTwice n) h
key_free y x s (cheap_in region n) h e before = there_none (definition_index y (cheap_in region n)) (DefinedTwice n) h
key_free y x s (unnamed_at j) h e before = subst (λ n. definition_index y (unnamed_at n) ≡ None) (unnamed_is x s j e) (next_free y s.unnamed before)

-- a statement without an error at its line defines a new name and opens a new scope, if any
pub is_new : (y : Symbols) (w : Cursor) (x : Statement) → line_fault y w x ≡ None → AreNumberedBelow w.unnamed y.definitions → IsNew y (context_of w) x
is_new y w x h before =
    let opened = opened_twice y.scopes w.scope (scope_name x) in
    let twice = defined_twice y (key_defined (context_of w) x) in
    let lost = missing_scopes_fault y.scopes w.scope (trees_of x) in
    let naming = (or_none (naming_fault y (context_of w) x) (first_fault (layout_faults y w x)) (sym (faults_are y w x) ∙ h)).0 in
    let first = (or_none (fault_if (is_global_only x && is_not_global w.scope) NotUnderstood) (or_then lost (or_then opened twice)) naming).1 in
    let second = (or_none lost (or_then opened twice) first).1 in
    let both = or_none opened twice second in
    record {
      opened = both.0;
      defined = λ k e. key_free y x (context_of w) k (ap (defined_twice y) (sym e) ∙ both.1) e before;
    }

-- ---- After a statement.

asked_beside : (segment : ℕ) (x : Statement) (t : State) → IsBeside t (with_requested_section segment x t)
asked_beside segment x t = by (needs_section x)
  where
    by : (b : Bool) → IsBeside t (if b then with_content t (section_request segment) else t)
    by true = record { symbols = refl; cursor = refl; out = refl; err = refl }
    by false = record { symbols = refl; cursor = refl; out = refl; err = refl }

wider : (count more : ℕ) (cs : List Scope) → HaveBoundedParents count cs → HaveBoundedParents (count + more) cs
wider count more cs h = all_same (λ (c : Scope). c.within ≤ count) (λ (c : Scope). c.within ≤ count + more) (λ c le. omega (arith, le)) cs h

pub holds_stepped : (count : ℕ) (t : State) (location : SourceLocation) (x : Statement) (a : Assembler) (v : Cursor) (said : ConsoleOutput) → Represents count (with_requested_section (context_of t.cursor).segment x t) a → v ≡ cursor_after t.symbols t.cursor x → HasBoundedCounts (count + opening_count x) (cursor_after t.symbols t.cursor x) → said.out ≡ a.texts.out ++ statement_stdout x → said.err ≡ a.texts.err ++ statement_warning location x → Represents (count + opening_count x) (state_after_layout t location x) (record a { cursor = v; texts = said })
holds_stepped count t location x a v said h cursor counted out err =
    let u : State = with_requested_section (context_of t.cursor).segment x t in
    let same : u.cursor ≡ t.cursor = (asked_beside (context_of t.cursor).segment x t).cursor in
    record {
      symbols = h.symbols;
      cursor = cursor;
      counted = counted;
      inside = wider count (opening_count x) u.symbols.scopes h.inside;
      unnamed = still_before x t.cursor.unnamed u.symbols.definitions (subst (λ (w : Cursor). AreNumberedBelow w.unnamed u.symbols.definitions) same h.unnamed);
      sections = h.sections;
      no_declarations = h.no_declarations;
      out = out ∙ ap (λ (o : List ℕ). o ++ statement_stdout x) h.out;
      err = err ∙ ap (λ (o : List ℕ). o ++ statement_warning location x) h.err;
    }

-- ---- Assembling a statement.

pub unless_either : (P : Type 0) (a b : Bool) → Unless a P → Unless (a || b) P
unless_either P true b h = tt
unless_either P false true h = tt
unless_either P false false h = h

pub takes_refused : (t : State) (location : SourceLocation) (x : Statement) (e : AsmFault) → line_fault t.symbols t.cursor x ≡ Some e → StepsTo t location x (Err e)
takes_refused t location x e h = subst (λ (f : Option AsmFault). UnlessFault f (StepsWithoutError t (laid_out_statement t.symbols t.cursor location x)) (Err e)) (sym h) refl

abbrev aside : State → Cursor → List ℕ → List ℕ → State
aside t w o e = record t { cursor = w; out = o; err = e }

one_aside : (location : SourceLocation) (s : Context) (u v : State) (w : Cursor) (o e : List ℕ) (p : Piece) → PieceStep location s (aside u w o e) p v → PieceStep location s u p (aside v u.cursor u.out u.err)
one_aside location s u _ w o e p (emitted_now c encoding) = emitted_now c encoding
one_aside location s u _ w o e p deferred_piece_step = deferred_piece_step

-- the emission of pieces doesn't depend on the cursor and the output
puts_aside : (location : SourceLocation) (s : Context) (u v : State) (w : Cursor) (o e : List ℕ) (ps : List Piece) → PieceSteps location s (aside u w o e) ps v → PieceSteps location s u ps (aside v u.cursor u.out u.err)
puts_aside location s u v w o e [] h = ap (λ (x : State). aside x u.cursor u.out u.err) h
puts_aside location s u v w o e (p ∷ ps) h =
    let x : State = h.0 in
    (aside x u.cursor u.out u.err, one_aside location s u x w o e p h.1, puts_aside location s (aside x u.cursor u.out u.err) v x.cursor x.out x.err ps h.2)

abbrev with_all : State → Symbols → Cursor → List ℕ → List ℕ → State
with_all v y w o e = record { symbols = y; cursor = w; slots = v.slots; out = o; err = e }

all_same_state : (v : State) (y z : Symbols) (w x : Cursor) (o p e f : List ℕ) → y ≡ z → w ≡ x → o ≡ p → e ≡ f → with_all v y w o e ≡ with_all v z x p f
all_same_state v y z w x o p e f a b c d =
    ap (λ (r : Symbols). with_all v r w o e) a
    ∙ ap (λ (r : Cursor). with_all v z r o e) b
    ∙ ap (λ (r : List ℕ). with_all v z x r e) c
    ∙ ap (λ (r : List ℕ). with_all v z x p r) d

pub takes_entered : (count : ℕ) (t : State) (location : SourceLocation) (x : Statement) (s : Context) (m : StatementLayout) (old mid new : Assembler) → Represents count t old → HasLayout t x s m → Represents (count + opening_count x) (state_after_layout t location x) mid → EmitsThenDefines location s (pieces_of m.length m.encoding x) (λ y. symbols_after y (statement_with_layout location s m x)) mid new → (z : State) × StepsTo t location x (Ok z) × Represents (count + opening_count x) z new
takes_entered count t location x s m old mid new h placed held turns =
    let r : LaidOutStatement = laid_out_statement t.symbols t.cursor location x in
    let u : State = with_requested_section (context_of t.cursor).segment x t in
    let sibling_path = asked_beside (context_of t.cursor).segment x t in
    let ps : List Piece = pieces_of r.length r.encoding x in
    let measured : EmitsThenDefines location s ps (λ y. symbols_after y (statement_with_layout location s (layout_of_statement t.symbols t.cursor x) x)) mid new = subst (λ (n : StatementLayout). EmitsThenDefines location s (pieces_of n.length n.encoding x) (λ y. symbols_after y (statement_with_layout location s n x)) mid new) placed.measured turns in
    let here : EmitsThenDefines location (context_of t.cursor) ps (λ y. symbols_after y r) mid new = subst (λ (q : Context). EmitsThenDefines location q ps (λ y. symbols_after y (statement_with_layout location q (layout_of_statement t.symbols t.cursor x) x)) mid new) placed.context measured in
    let low : t.cursor.scope ≤ count = h.counted.scope in
    let inside : HaveBoundedParents (count + opening_count x) (symbols_after u.symbols r).scopes = subst (λ (y : Symbols). HaveBoundedParents (count + opening_count x) (y.scopes ++ scope_opened t.cursor.scope x)) (sym sibling_path.symbols) (inside_after count t.cursor.scope t.symbols.scopes x low h.inside) in
    let unnamed : AreNumberedBelow (cursor_after t.symbols t.cursor x).unnamed (symbols_after u.symbols r).definitions = subst (λ (y : Symbols). AreNumberedBelow (cursor_after t.symbols t.cursor x).unnamed (y.definitions ++ definitions_of r)) (sym sibling_path.symbols) (before_after x (context_of t.cursor) r.size t.symbols.definitions h.unnamed) in
    let done = here (count + opening_count x) (state_after_layout t location x) held inside unnamed in
    let v : State = done.0 in
    let w : State = aside v u.cursor u.out u.err in
    let along = puts_beside location (context_of t.cursor) (state_after_layout t location x) v ps done.1 in
    let puts : PieceSteps location (context_of t.cursor) u ps w = puts_aside location (context_of t.cursor) u v (cursor_after t.symbols t.cursor x) (u.out ++ statement_stdout x) (u.err ++ statement_warning location x) ps done.1 in
    let same : record v { symbols = symbols_after u.symbols r } ≡ with_symbols w r =
    all_same_state v (symbols_after u.symbols r) (symbols_after v.symbols r) v.cursor (cursor_after v.symbols u.cursor x) v.out (u.out ++ statement_stdout x) v.err (u.err ++ statement_warning location x)
    (ap (λ (y : Symbols). symbols_after y r) (sym along.symbols))
    (along.cursor ∙ ap (λ (y : Symbols). cursor_after y t.cursor x) (sym sibling_path.symbols ∙ sym along.symbols) ∙ ap (λ (z : Cursor). cursor_after v.symbols z x) (sym sibling_path.cursor))
    along.out along.err in
    (with_symbols w r, subst (λ (f : Option AsmFault). UnlessFault f (StepsWithoutError t r) (Ok (with_symbols w r))) (sym placed.faultless) (w, puts, refl), subst (λ (z : State). Represents (count + opening_count x) z new) same done.2)

-- ---- The first error.

first_two : (a b : Option AsmFault) (rest : List (Option AsmFault)) (e : AsmFault) → or_then a b ≡ Some e → first_fault (None ∷ a ∷ None ∷ None ∷ None ∷ b ∷ None ∷ rest) ≡ Some e
first_two (Some f) b rest e h = h
first_two None (Some f) rest e h = h
first_two None None rest e h = absurd cc

first_missing : (a b : Option AsmFault) (rest : List (Option AsmFault)) → or_then a b ≡ None → first_fault (None ∷ a ∷ None ∷ None ∷ None ∷ b ∷ None ∷ Some FileNotFound ∷ rest) ≡ Some FileNotFound
first_missing (Some f) b rest h = absurd cc
first_missing None (Some f) rest h = absurd cc
first_missing None None rest h = refl

module _ (y : Symbols) (w : Cursor) (start len : Option Tree) where
  abbrev lost : Option AsmFault
  lost = missing_scopes_fault y.scopes w.scope (trees_of (Incbin None start len))

  abbrev bad : Option AsmFault
  bad = operand_fault y (context_of w) (Incbin None start len)

  -- an error that doesn't depend on the file is the error of the statement
  unread_refused : (bytes : Option (List ℕ)) (e : AsmFault) → unread_fault y w start len ≡ Some e → line_fault y w (Incbin bytes start len) ≡ Some e
  unread_refused bytes e h = first_two lost bad _ e h

  unread_missing : unread_fault y w start len ≡ None → line_fault y w (Incbin None start len) ≡ Some FileNotFound
  unread_missing h = first_missing lost bad _ h

-- ---- A statement.

fault_there : (f : Option AsmFault) (e : AsmFault) → unless_fault {A = Unit {0}} f tt ≡ Err e → f ≡ Some e
fault_there None e h = absurd cc
fault_there (Some d) e h = let same : d ≡ e = cc in subst (λ k. Some d ≡ Some k) same refl

fault_none : (f : Option AsmFault) (u : Unit {0}) → unless_fault {A = Unit {0}} f tt ≡ Ok u → f ≡ None
fault_none None u h = refl
fault_none (Some d) u h = absurd cc

module _ (t : State) (location : SourceLocation) (name : List ℕ) (start len : Option Tree) (x : Statement) (is : x ≡ IncbinPath name start len) (e : AsmFault) where
  abbrev found : Option AsmFault
  found = unread_fault t.symbols t.cursor start len

  whatever : found ≡ Some e → (m : Files) → StepsTo t location (with_bytes m location x) (Err e)
  whatever h m =
      subst (λ z. StepsTo t location (with_bytes m location z) (Err e)) (sym is)
      (takes_refused t location (Incbin (bytes_for m location name) start len) e (unread_refused t.symbols t.cursor start len (bytes_for m location name) e h))

  without : found ≡ None → (m : Files) → file_named m (sibling_path location.file name) ≡ None → StepsTo t location (with_bytes m location x) (Err FileNotFound)
  without h m none =
      subst (λ z. StepsTo t location (with_bytes m location z) (Err FileNotFound)) (sym is)
      (subst (λ b. StepsTo t location (Incbin b start len) (Err FileNotFound)) (sym none)
      (takes_refused t location (Incbin None start len) FileNotFound (unread_missing t.symbols t.cursor start len h)))

  -- the case of an error that doesn't depend on the file
  pub refused_unread : (f : Option Files) (last_failure : LastFailure) → is_failure e ≡ false → Unless (is_out_of_memory e) (unless_fault {A = Unit {0}} found tt ≡ Err e) → IsRejectedUnread f last_failure t location x e
  refused_unread f last_failure inside h = record {
    inside = unless_then (is_system_error e) (λ p. whatever (fault_there found e p)) (unless_either _ (is_out_of_memory e) (is_failure e) h);
    failed = λ so. absurd cc;
  }

  -- the case that the file can't be read
  pub failed_unread : (f : Option Files) (last_failure : LastFailure) (u : Unit {0}) → is_system_error e ≡ true → (is_failure e ≡ true → FailedOn last_failure (sibling_path location.file name)) → (is_failure e ≡ true → IfSome f (λ m. FailedWithin last_failure (sibling_path location.file name) 0 (length (bytes_in (get m (sibling_path location.file name)))))) → unless_fault {A = Unit {0}} found tt ≡ Ok u → IsRejectedUnread f last_failure t location x e
  failed_unread f last_failure u outside requested within h = record {
    inside = subst (λ b. Unless b ((m : Files) → StepsTo t location (with_bytes m location x) (Err e))) (sym outside) tt;
    failed = λ so. record { name = sibling_path location.file name; requested = requested so; inside = within so; answered = without (fault_none found u h) };
  }
