-- Updates of the symbol table, and the pieces and names that each kind of statement adds.
use Rattle.std.proofs.Common.{◌≡◌, ◌∙◌, ℕ, ap, zero, suc, ◌+◌, ◌<◌, ◌≤◌, add-one, get_or, List, [], ◌∷◌, ◌++◌, length, map, take, refl, sym, subst, append-nil, arith}
use Rattle.semantics65.specs.declared.contexts.Context.{Context}
use Rattle.semantics65.specs.Layout.{context_of}
use Rattle.sources65.specs.Reading.{environment_at}
use Rattle.sources65.specs.Machine.{State, PieceStep, PieceSteps, with_fixup, emitted_now, deferred_piece_step, symbols_after}
use Rattle.symbols65.specs.Views.{table_of, with_definition, with_names, with_scope}
use Rattle.symbols65.specs.Measuring.{HaveBoundedParents}
use Rattle.asm65.specs.declared.assembler.Assembler.{Assembler}
use Rattle.asm65.specs.Internal.AssemblerState.{Represents, has_content, AreNumberedBelow, EmitsPieces, environment_in, ChangesOnlySections, ChangesOnlySymbols, DefersMentions, EmitsThenDefines, with_fixups, is_for_zero_page, label_definition, statement_with_layout}
use Rattle.std.specs.Prelude.{Some, OnOk, Result, true, false, Option}
use Rattle.std.proofs.lemmas.List.{take_all}
use Rattle.ast65.proofs.Lists.{map_length, on_ok}
use Rattle.syntax65.specs.declared.source_location.SourceLocation.{SourceLocation}
use Rattle.semantics65.specs.Layout as layout
use Rattle.semantics65.specs.Symbols.{Definition, Scope, Symbols, cheap_in, named, unnamed_at, with_new_names}
use Rattle.semantics65.specs.Module as piece
use Rattle.std.specs.declared.alloc.AllocError.{AllocError}
use Rattle.syntax65.specs.declared.lexing.tokens.AddressSize.{AddressSize}
use Rattle.syntax65.specs.declared.lexing.tokens.AddressSize.TheVariants as size
use Rattle.syntax65.specs.Trees.{Tree}
use Rattle.ast65.specs.declared.language.Statement.{Statement}
use Rattle.ast65.specs.declared.language.Statement.TheVariants.{Align, Assert, CheapLabel, Constant, Export, Incbin, ForceImport, Global, Import, Instruction, Label, OpenProc, OpenScope, Reserve, UnnamedLabel, Values}
use Rattle.semantics65.specs.Types.{Action, Item, Mnemonic, Operand, Width}
use Rattle.asm65.proofs.PieceEmission.{enters_none}
use Rattle.symbols65.specs.declared.measuring.StatementLayout.{StatementLayout}
use Rattle.semantics65.specs.Module.{forced_import, constant_definition, exported, imported, pieces_of, expression_value}

-- ---- The environment at a statement.

-- the environment by the assembler's symbol table is that of the state
pub known_held : (count : ℕ) (t : State) (a : Assembler) (s : Context) → Represents count t a → s ≡ context_of a.cursor → environment_in (table_of a.symbols) s ≡ environment_at t.symbols t.cursor
known_held count t a s h at =
    let here : s ≡ context_of t.cursor = at ∙ ap context_of h.cursor in
    let first : environment_in (table_of a.symbols) s ≡ environment_in t.symbols s = ap (λ y. environment_in y s) h.symbols in
    let then_ : environment_in t.symbols s ≡ environment_in t.symbols (context_of t.cursor) = ap (environment_in t.symbols) here in
    first ∙ then_

-- ---- Further names.

-- a state with further names is represented, if the assembler's symbol table contains them
pub holds_grown : (count : ℕ) (t : State) (old new : Assembler) (y : Symbols) → Represents count t old → ChangesOnlySymbols old new → table_of new.symbols ≡ y → HaveBoundedParents count y.scopes → AreNumberedBelow t.cursor.unnamed y.definitions → Represents count (record t { symbols = y }) new
holds_grown count t old new y h keeps symbols inside unnamed = record {
  symbols = symbols;
  cursor = keeps.cursor ∙ h.cursor;
  counted = h.counted;
  inside = inside;
  unnamed = unnamed;
  sections = rw keeps.sections h.sections;
  no_declarations = h.no_declarations;
  out = ap (λ x. x.out) keeps.texts ∙ h.out;
  err = ap (λ x. x.err) keeps.texts ∙ h.err;
}

-- ---- Deferred pieces in order.

pub taken_more : {A B : Type 0} (f : A → B) (xs : List A) (i : ℕ) (x : A) → i < length xs → x ≡ get_or xs i x → take i (map f xs) ++ f x ∷ [] ≡ take (i + 1) (map f xs)
taken_more {A = A} f xs i x lt is = rw add-one (go xs i lt is)
  where
    go : (ys : List A) (j : ℕ) → j < length ys → x ≡ get_or ys j x → take j (map f ys) ++ f x ∷ [] ≡ take (suc j) (map f ys)
    go [] j less e = absurd (omega arith)
    go (y ∷ ys) zero less e = ap (λ z. f z ∷ []) e
    go (y ∷ ys) (suc j) less e = ap (λ zs. f y ∷ zs) (go ys j (omega arith) e)

pub all_taken : {A B : Type 0} (f : A → B) (xs : List A) (i : ℕ) → length xs ≤ i → take i (map f xs) ≡ map f xs
all_taken f xs i le = take_all i (map f xs) (rw (map_length f xs) le)

pub keeps_both : (a b c : Assembler) → ChangesOnlySections a b → ChangesOnlySections b c → ChangesOnlySections a c
keeps_both a b c h k = record {
  symbols = k.symbols ∙ h.symbols;
  cursor = k.cursor ∙ h.cursor;
  texts = k.texts ∙ h.texts;
}

pub one_more_awaiting : (location : SourceLocation) (s : Context) (t : State) (ps : List piece.Piece) (p : piece.Piece) → with_fixups location s t (ps ++ p ∷ []) ≡ with_fixup (with_fixups location s t ps) (record { place = location; context = s; piece = p })
one_more_awaiting location s t [] p = refl
one_more_awaiting location s t (q ∷ ps) p = one_more_awaiting location s (with_fixup t (record { place = location; context = s; piece = q })) ps p

pub all_wait : (location : SourceLocation) (s : Context) (t : State) (ps : List piece.Piece) → PieceSteps location s t ps (with_fixups location s t ps)
all_wait location s t [] = refl
all_wait location s t (p ∷ ps) = (with_fixup t (record { place = location; context = s; piece = p }), deferred_piece_step, all_wait location s (with_fixup t (record { place = location; context = s; piece = p })) ps)

pub mentions_enter : (location : SourceLocation) (s : Context) (ps : List piece.Piece) (old new : Assembler) → DefersMentions location s ps old new → EmitsPieces location s ps old new
mentions_enter location s ps old new m count t h = (with_fixups location s t ps, all_wait location s t ps, m count t h)

-- ---- Pieces, and then names.

-- the symbol table, the cursor and the output are unchanged
pub record IsBeside (t u : State) : Type 0 where
  pub symbols : u.symbols ≡ t.symbols
  pub cursor : u.cursor ≡ t.cursor
  pub out : u.out ≡ t.out
  pub err : u.err ≡ t.err

one_beside : (location : SourceLocation) (s : Context) (t u : State) (p : piece.Piece) → PieceStep location s t p u → IsBeside t u
one_beside location s t _ p (emitted_now c encoding) = record { symbols = refl; cursor = refl; out = refl; err = refl }
one_beside location s t _ p deferred_piece_step = record { symbols = refl; cursor = refl; out = refl; err = refl }

pub puts_beside : (location : SourceLocation) (s : Context) (t u : State) (ps : List piece.Piece) → PieceSteps location s t ps u → IsBeside t u
puts_beside location s t u [] e = record { symbols = ap (λ (x : State). x.symbols) e; cursor = ap (λ (x : State). x.cursor) e; out = ap (λ (x : State). x.out) e; err = ap (λ (x : State). x.err) e }
puts_beside location s t u (p ∷ ps) h =
    let one = one_beside location s t h.0 p h.1 in
    let rest = puts_beside location s h.0 u ps h.2 in
    record { symbols = rest.symbols ∙ one.symbols; cursor = rest.cursor ∙ one.cursor; out = rest.out ∙ one.out; err = rest.err ∙ one.err }

pub turns_after : (location : SourceLocation) (s : Context) (ps : List piece.Piece) (becomes : Symbols → Symbols) (old mid new : Assembler) → EmitsPieces location s ps old mid → ChangesOnlySymbols mid new → table_of new.symbols ≡ becomes (table_of mid.symbols) → EmitsThenDefines location s ps becomes old new
turns_after location s ps becomes old mid new enters keeps table count t h inside unnamed =
    let x = enters count t h in
    let u : State = x.0 in
    let held : Represents count u mid = x.2 in
    let beside = puts_beside location s t u ps x.1 in (
      u,
      x.1,
      holds_grown count u mid new (becomes t.symbols) held keeps (table ∙ ap becomes (held.symbols ∙ beside.symbols))
          inside
          (subst (λ (w : layout.Cursor). AreNumberedBelow w.unnamed (becomes t.symbols).definitions) (sym beside.cursor) unnamed),
    )

-- a statement that defines no names
pub turns_same : (location : SourceLocation) (s : Context) (ps : List piece.Piece) (old new : Assembler) → EmitsPieces location s ps old new → EmitsThenDefines location s ps (λ y. y) old new
turns_same location s ps old new enters count t h inside unnamed =
    let x = enters count t h in
    (x.0, x.1, subst (λ (y : Symbols). Represents count (record x.0 { symbols = y }) new) (puts_beside location s t x.0 ps x.1).symbols x.2)

pub turns_as : (location : SourceLocation) (s : Context) (ps : List piece.Piece) (f g : Symbols → Symbols) (old new : Assembler) → ((y : Symbols) → f y ≡ g y) → EmitsThenDefines location s ps f old new → EmitsThenDefines location s ps g old new
turns_as location s ps f g old new same turns count t h inside unnamed =
    let e = same t.symbols in
    let x = turns count t h (subst (λ (y : Symbols). HaveBoundedParents count y.scopes) (sym e) inside) (subst (λ (y : Symbols). AreNumberedBelow t.cursor.unnamed y.definitions) (sym e) unnamed) in
    (x.0, x.1, subst (λ (y : Symbols). Represents count (record x.0 { symbols = y }) new) e x.2)

-- ---- The names of a statement.

abbrev pub same_as : List Definition → List Scope → List (List ℕ) → List (List ℕ) → Symbols
same_as ds cs is zs = record { definitions = ds; scopes = cs; imports = is; zero_page = zs }

pub table_with : (ds es : List Definition) (cs bs : List Scope) (is zs : List (List ℕ)) → ds ≡ es → cs ≡ bs → same_as ds cs is zs ≡ same_as es bs is zs
table_with ds es cs bs is zs p q = ap (λ (xs : List Definition). same_as xs cs is zs) p ∙ ap (λ (xs : List Scope). same_as es xs is zs) q

-- ---- The pieces and names of each kind of statement.

-- the symbol table without an addition
pub nothing_follows : (y : Symbols) → y ≡ same_as (y.definitions ++ []) (y.scopes ++ []) y.imports y.zero_page
nothing_follows y = table_with y.definitions (y.definitions ++ []) y.scopes (y.scopes ++ []) y.imports y.zero_page (sym (append-nil y.definitions)) (sym (append-nil y.scopes))

-- the symbol table with a definition, a scope or imports added
defined_after : (y : Symbols) (d : Definition) → with_definition y d ≡ same_as (y.definitions ++ d ∷ []) (y.scopes ++ []) y.imports y.zero_page
defined_after y d = table_with (y.definitions ++ d ∷ []) (y.definitions ++ d ∷ []) y.scopes (y.scopes ++ []) y.imports y.zero_page refl (sym (append-nil y.scopes))

opened_after : (y : Symbols) (b : Scope) → with_scope y b ≡ same_as (y.definitions ++ []) (y.scopes ++ b ∷ []) y.imports y.zero_page
opened_after y b = table_with y.definitions (y.definitions ++ []) (y.scopes ++ b ∷ []) (y.scopes ++ b ∷ []) y.imports y.zero_page (sym (append-nil y.definitions)) refl

named_after : (y : Symbols) (is zs : List (List ℕ)) → same_as y.definitions y.scopes is zs ≡ same_as (y.definitions ++ []) (y.scopes ++ []) is zs
named_after y is zs = table_with y.definitions (y.definitions ++ []) y.scopes (y.scopes ++ []) is zs (sym (append-nil y.definitions)) (sym (append-nil y.scopes))

module _ (location : SourceLocation) (s : Context) (m : StatementLayout) (old new : Assembler) where
  abbrev pub Adds : Statement → Type 0
  Adds x = EmitsThenDefines location s (pieces_of m.length m.encoding x) (λ y. symbols_after y (statement_with_layout location s m x)) old new

  pub adds_pieces : (x : Statement) → ((y : Symbols) → y ≡ symbols_after y (statement_with_layout location s m x)) → EmitsPieces location s (pieces_of m.length m.encoding x) old new → Adds x
  adds_pieces x none h = turns_as location s (pieces_of m.length m.encoding x) (λ y. y) (λ y. symbols_after y (statement_with_layout location s m x)) old new none (turns_same location s (pieces_of m.length m.encoding x) old new h)

  adds_names : (x : Statement) (f : Symbols → Symbols) → ((y : Symbols) → f y ≡ symbols_after y (statement_with_layout location s m x)) → EmitsThenDefines location s (pieces_of m.length m.encoding x) f old new → Adds x
  adds_names x f same h = turns_as location s (pieces_of m.length m.encoding x) f (λ y. symbols_after y (statement_with_layout location s m x)) old new same h

  pub adds_label : (n : List ℕ) → EmitsThenDefines location s [] (λ y. with_definition y (label_definition (named s.scope n) s m.size)) old new → Adds (Label n)
  adds_label n h = adds_names (Label n) (λ y. with_definition y (label_definition (named s.scope n) s m.size)) (λ y. defined_after y (label_definition (named s.scope n) s m.size)) h

  pub adds_cheap : (n : List ℕ) → EmitsThenDefines location s [] (λ y. with_definition y (label_definition (cheap_in s.region n) s m.size)) old new → Adds (CheapLabel n)
  adds_cheap n h = adds_names (CheapLabel n) (λ y. with_definition y (label_definition (cheap_in s.region n) s m.size)) (λ y. defined_after y (label_definition (cheap_in s.region n) s m.size)) h

  pub adds_unnamed : EmitsThenDefines location s [] (λ y. with_definition y (label_definition (unnamed_at s.unnamed) s m.size)) old new → Adds UnnamedLabel
  adds_unnamed h = adds_names UnnamedLabel (λ y. with_definition y (label_definition (unnamed_at s.unnamed) s m.size)) (λ y. defined_after y (label_definition (unnamed_at s.unnamed) s m.size)) h

  pub adds_constant : (n : List ℕ) (e : Tree) → EmitsThenDefines location s (expression_value constant_definition e ∷ []) (λ y. with_definition y (record { key = named s.scope n; value = Some e; context = s; size = m.size })) old new → Adds (Constant n e)
  adds_constant n e h = adds_names (Constant n e) (λ y. with_definition y (record { key = named s.scope n; value = Some e; context = s; size = m.size })) (λ y. defined_after y (record { key = named s.scope n; value = Some e; context = s; size = m.size })) h

  pub adds_scope : (n : Option (List ℕ)) → EmitsThenDefines location s [] (λ y. with_scope y (record { within = s.scope; name = n; is_proc = false })) old new → Adds (OpenScope n)
  adds_scope n h = adds_names (OpenScope n) (λ y. with_scope y (record { within = s.scope; name = n; is_proc = false })) (λ y. opened_after y (record { within = s.scope; name = n; is_proc = false })) h

  pub adds_proc : (n : List ℕ) → EmitsThenDefines location s [] (λ y. with_scope (with_definition y (label_definition (named s.scope n) s m.size)) (record { within = s.scope; name = Some n; is_proc = true })) old new → Adds (OpenProc n)
  adds_proc n h = adds_names (OpenProc n) (λ y. with_scope (with_definition y (label_definition (named s.scope n) s m.size)) (record { within = s.scope; name = Some n; is_proc = true })) (λ y. refl) h

  pub adds_imports : (own : AddressSize) (names : List (List ℕ)) → EmitsThenDefines location s (map imported names) (λ y. with_names y (is_for_zero_page own) names) old new → Adds (Import own names)
  adds_imports size.ZeroPage names h = adds_names (Import size.ZeroPage names) (λ y. with_names y true names) (λ y. named_after y (with_new_names y.imports names) (with_new_names y.zero_page names)) h
  adds_imports size.Absolute names h = adds_names (Import size.Absolute names) (λ y. with_names y false names) (λ y. named_after y (with_new_names y.imports names) y.zero_page) h

  pub adds_globals : (own : AddressSize) (names : List (List ℕ)) → EmitsThenDefines location s (map (exported false) names) (λ y. with_names y (is_for_zero_page own) names) old new → Adds (Global own names)
  adds_globals size.ZeroPage names h = adds_names (Global size.ZeroPage names) (λ y. with_names y true names) (λ y. named_after y (with_new_names y.imports names) (with_new_names y.zero_page names)) h
  adds_globals size.Absolute names h = adds_names (Global size.Absolute names) (λ y. with_names y false names) (λ y. named_after y (with_new_names y.imports names) y.zero_page) h

  pub adds_forced : (names : List (List ℕ)) → EmitsThenDefines location s (map imported names ++ map forced_import names) (λ y. with_names y false names) old new → Adds (ForceImport names)
  adds_forced names h = adds_names (ForceImport names) (λ y. with_names y false names) (λ y. named_after y (with_new_names y.imports names) y.zero_page) h

  -- the effect of a successful call, for the statement itself
  pub taken_as : {P : Type 0} (r : Result (Unit {0}) AllocError) (x z : Statement) → x ≡ z → (P → Adds x) → OnOk r P → OnOk r (Adds z)
  taken_as r x z e f h = subst (λ (w : Statement). OnOk r (Adds w)) e (on_ok r f h)

-- ---- Statements of other kinds.

-- a statement of any other kind has no content
pub puts_nothing : (x : Statement) → ((m : Mnemonic) (o : Operand) → x ≡ Instruction m o → ⊥) → ((w : Width) (items : List Item) → x ≡ Values w items → ⊥) → ((n : Tree) (v : Option Tree) → x ≡ Reserve n v → ⊥) → ((n : Tree) (v : Option Tree) → x ≡ Align n v → ⊥) → ((bytes : Option (List ℕ)) (start len : Option Tree) → x ≡ Incbin bytes start len → ⊥) → ((e : Tree) (action : Action) (text : List ℕ) → x ≡ Assert e action text → ⊥) → has_content x ≡ false
puts_nothing (Instruction m o) i v r a f s = absurd (i m o refl)
puts_nothing (Values w items) i v r a f s = absurd (v w items refl)
puts_nothing (Reserve n e) i v r a f s = absurd (r n e refl)
puts_nothing (Align n e) i v r a f s = absurd (a n e refl)
puts_nothing (Incbin bytes start len) i v r a f s = absurd (f bytes start len refl)
puts_nothing (Assert e action text) i v r a f s = absurd (s e action text refl)
puts_nothing x i v r a f s = refl

-- a statement without content and names adds nothing
pub adds_nothing : (location : SourceLocation) (s : Context) (m : StatementLayout) (a : Assembler) (x : Statement) → has_content x ≡ false → ((n : List ℕ) → x ≡ Label n → ⊥) → ((n : List ℕ) → x ≡ CheapLabel n → ⊥) → (x ≡ UnnamedLabel → ⊥) → ((n : List ℕ) (e : Tree) → x ≡ Constant n e → ⊥) → ((n : Option (List ℕ)) → x ≡ OpenScope n → ⊥) → ((n : List ℕ) → x ≡ OpenProc n → ⊥) → ((own : AddressSize) (names : List (List ℕ)) → x ≡ Import own names → ⊥) → ((own : AddressSize) (names : List (List ℕ)) → x ≡ Global own names → ⊥) → ((names : List (List ℕ)) → x ≡ ForceImport names → ⊥) → ((names : List (List ℕ)) → x ≡ Export names → ⊥) → Adds location s m a a x
adds_nothing location s m a (Instruction n o) put l c u e b p i g f x = absurd cc
adds_nothing location s m a (Values w items) put l c u e b p i g f x = absurd cc
adds_nothing location s m a (Reserve n v) put l c u e b p i g f x = absurd cc
adds_nothing location s m a (Align n v) put l c u e b p i g f x = absurd cc
adds_nothing location s m a (Incbin bytes start len) put l c u e b p i g f x = absurd cc
adds_nothing location s m a (Assert v action text) put l c u e b p i g f x = absurd cc
adds_nothing location s m a (Label n) put l c u e b p i g f x = absurd (l n refl)
adds_nothing location s m a (CheapLabel n) put l c u e b p i g f x = absurd (c n refl)
adds_nothing location s m a UnnamedLabel put l c u e b p i g f x = absurd (u refl)
adds_nothing location s m a (Constant n v) put l c u e b p i g f x = absurd (e n v refl)
adds_nothing location s m a (OpenScope n) put l c u e b p i g f x = absurd (b n refl)
adds_nothing location s m a (OpenProc n) put l c u e b p i g f x = absurd (p n refl)
adds_nothing location s m a (Import own names) put l c u e b p i g f x = absurd (i own names refl)
adds_nothing location s m a (Global own names) put l c u e b p i g f x = absurd (g own names refl)
adds_nothing location s m a (ForceImport names) put l c u e b p i g f x = absurd (f names refl)
adds_nothing location s m a (Export names) put l c u e b p i g f x = absurd (x names refl)
adds_nothing location s m a other put l c u e b p i g f x = adds_pieces location s m a a other (λ y. nothing_follows y) (enters_none location s a)
