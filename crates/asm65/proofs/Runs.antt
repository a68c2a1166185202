-- The effect of calls that assemble statements, from the effects of the calls inside them.
use Rattle.std.proofs.Common.{◌≡◌, ◌∙◌, ℕ, zero, suc, ◌+◌, ◌≤◌, ◌<◌, Bool, true, false, List, [], ◌∷◌, ◌++◌, Option, Some, None, refl, sym, ap, subst, arith}
use Rattle.std.specs.Prelude.{Result, Ok, Err, IfErr, IfSome, ◌==◌, if◌then◌else◌}
use Rattle.std.proofs.lemmas.List.{append-nil}
use Rattle.base65.specs.Outcome.{AndThen, Unless}
use Rattle.base65.specs.Store.{Files, LastFailure}
use Rattle.syntax65.specs.Tokens.{Lexeme}
use Rattle.expand65.specs.Replay.{tokens_in}
use Rattle.expand65.specs.Representation.{statement_of}
use Rattle.expand65.specs.State as expand
use Rattle.expand65.specs.declared.expander.Statement as given
use Rattle.expand65.specs.declared.expander.Statement.TheVariants.{Label, Plain}
use Rattle.expand65.specs.declared.line.StoredLine.{StoredLine}
use Rattle.syntax65.specs.declared.source_location.SourceLocation.{SourceLocation}
use Rattle.ast65.specs.declared.fault.AsmFault.{AsmFault}
use Rattle.ast65.specs.declared.fault.AsmFault.TheVariants.{FileError, FileNotFound}
use Rattle.ast65.specs.Faults.{is_failure, is_system_error}
use Rattle.semantics65.specs.Symbols.{LaidOutStatement, needs_section}
use Rattle.semantics65.specs.declared.contexts.Context.{Context}
use Rattle.ast65.specs.declared.language.Statement.{Statement}
use Rattle.ast65.specs.declared.language.Statement.TheVariants as statement
use Rattle.semantics65.specs.Layout.{laid_out_statement, line_fault}
use Rattle.semantics65.specs.Numbering.{AreSymbolNames, IsWellFormedStatement}
use Rattle.ast65.specs.Parsing.{IsStatement, label_of}
use Rattle.sources65.proofs.WellFormedLines.{statement_sound}
use Rattle.sources65.specs.Machine.{PieceStep, emitted_now, deferred_piece_step, PieceSteps, State, StepsWithoutError, StepsTo, UnlessFault, with_section_request, with_content, with_symbols}
use Rattle.semantics65.specs.Module.{statement_stdout, statement_warning, Piece, pieces_of}
use Rattle.sources65.specs.Reading.{RepresentsOrFails, AssemblesExpanded, AssemblesLabelTokens, AssemblesLabel, AssemblesTokens, with_bytes}
use Rattle.semantics65.specs.Contents.{section_request}
use Rattle.sources65.proofs.AssembledStatements.{label_quiet}
use Rattle.sources65.proofs.SoundSources.{label_sound}
use Rattle.asm65.specs.declared.assembler.Assembler.{Assembler}
use Rattle.asm65.specs.declared.texts.ConsoleOutput.{ConsoleOutput}
use Rattle.symbols65.proofs.StatementLayouts.{unless_then}
use Rattle.symbols65.specs.Measuring.{opening_count, opening_limit}
use Rattle.asm65.specs.Internal.AssemblerState.{Represents}
use Rattle.asm65.specs.Internal.RunState.{IsRejectedUnread, read_bytes, following, HasHeadroom, RefinesTransition, HasSameOutput, KeepsOutputAtFailure, RefinesAllTransitions, ForKnownFiles, tokens_of}
use Rattle.asm65.specs.Assembly.{AnswersWithoutFile}
use Rattle.asm65.proofs.WholeFiles.{read_sound, takes_whole}

abbrev pub Answer : Type 0
Answer = Result (Unit {0}) AsmFault

-- ---- An error of a part is the error of the whole.

pub fault_first : (IsValid : Type 0) (Is : Result State AsmFault → Type 0) (most : ℕ) (t : State) (new : Assembler) (e : AsmFault) → Unless (is_system_error e) (Is (Err e)) → (is_system_error e ≡ false → HasSameOutput t new) → RefinesTransition IsValid Is most t new (Err e)
fault_first IsValid Is most t new e is says = by (is_system_error e) is says
  where
    by : (b : Bool) → Unless b (Is (Err e)) → (b ≡ false → HasSameOutput t new) → Unless b ((IsValid → Is (Err e)) × HasSameOutput t new)
    by true h s = tt
    by false h s = (λ so. h, s refl)

pub fault_then : (IsValid AreTo : Type 0) (Is Then : Result State AsmFault → Type 0) (most more : ℕ) (t u : State) (new : Assembler) (e : AsmFault) → (AreTo → IsValid) → (Is (Err e) → Then (Err e)) → (HasSameOutput u new → HasSameOutput t new) → RefinesTransition IsValid Is most u new (Err e) → RefinesTransition AreTo Then more t new (Err e)
fault_then IsValid AreTo Is Then most more t u new e f g s h = by (is_system_error e) h
  where
    by : (b : Bool) → Unless b ((IsValid → Is (Err e)) × HasSameOutput u new) → Unless b ((AreTo → Then (Err e)) × HasSameOutput t new)
    by true h = tt
    by false h = (λ so. g (h.0 (f so)), s h.1)

-- ---- A statement.

opened_few : (x : Statement) → opening_count x ≤ 1
opened_few (statement.Label n) = omega arith
opened_few _ = omega arith

pub says_same : (count : ℕ) (t : State) (old new : Assembler) → Represents count t old → new.texts ≡ old.texts → HasSameOutput t new
says_same count t old new h e = (ap (λ (s : ConsoleOutput). s.out) e ∙ h.out, ap (λ (s : ConsoleOutput). s.err) e ∙ h.err)

abbrev Taken : SourceLocation → Statement → Assembler → Assembler → Answer → Type 0
Taken location x old new r = (count : ℕ) (t : State) → Represents count t old → count < opening_limit → RepresentsOrFails (StepsTo t location x) (λ u. Represents (count + opening_count x) u new) r

pub sound_leaves : (location : SourceLocation) (x : Statement) (old new : Assembler) (r : Answer) → IsWellFormedStatement x → Taken location x old new r → IfErr r (λ e. is_system_error e ≡ false → new.texts ≡ old.texts) → RefinesAllTransitions (IsWellFormedStatement x) (λ t. StepsTo t location x) 1 old new r
sound_leaves location x old new (Ok v) sound taken same = λ count t room h.
    (let few = opened_few x in
    let a = taken count t h (omega (arith, room)) in
    (a.0, a.1, λ reached. following t a.0 location x reached sound a.1, (count + opening_count x, omega (arith, few), a.2)))
sound_leaves location x old new (Err e) sound taken same = λ count t room h.
    fault_first (IsWellFormedStatement x) (StepsTo t location x) (count + 1) t new e (taken count t h (omega (arith, room))) (λ inside. says_same count t old new h (same inside))

-- ---- Files that are known.

pub some_then : (P Q : Files → Type 0) (o : Option Files) → ((m : Files) → P m → Q m) → IfSome o P → IfSome o Q
some_then P Q None f h = tt
some_then P Q (Some m) f h = f m h

pub some_all : (P : Files → Type 0) (o : Option Files) → ((m : Files) → P m) → IfSome o P
some_all P None f = tt
some_all P (Some m) f = f m

-- ---- The rest after a label.

abbrev pub RestBy : Option Files → SourceLocation → List Lexeme → State → Result State AsmFault → Type 0
RestBy o location ts = ForKnownFiles o (λ m t. AssemblesTokens m StepsTo t location ts)

pub rest_wrong : (o : Option Files) (location : SourceLocation) (ts : List Lexeme) (a : Assembler) (e : AsmFault) → (ts ≡ [] → ⊥) → Unless (is_system_error e) (IsStatement ts (Err e)) → RefinesAllTransitions (AreSymbolNames ts) (RestBy o location ts) 1 a a (Err e)
rest_wrong o location [] a e some is = absurd (some refl)
rest_wrong o location (k ∷ ts) a e some is = λ count t room h.
    fault_first (AreSymbolNames (k ∷ ts)) (RestBy o location (k ∷ ts) t) (count + 1) t a e (by t (is_system_error e) is) (λ inside. (h.out, h.err))
  where
    by : (t : State) (b : Bool) → Unless b (IsStatement (k ∷ ts) (Err e)) → Unless b (RestBy o location (k ∷ ts) t (Err e))
    by t true g = tt
    by t false g = some_all (λ m. AssemblesTokens m StepsTo t location (k ∷ ts) (Err e)) o (λ m. (Err e, g, refl))

-- a parsed statement, and the same statement with the bytes that were read of its file
module _ (location : SourceLocation) (k : Lexeme) (ts : List Lexeme) (x y : Statement) (is : IsStatement (k ∷ ts) (Ok x)) where
  taken_rest : (m : Files) (t : State) (r : Result State AsmFault) → y ≡ read_bytes m location x → StepsTo t location y r → AssemblesTokens m StepsTo t location (k ∷ ts) r
  taken_rest m t r e h = (Ok x, is, takes_whole m location x t r (subst (λ z. StepsTo t location z r) e h))

  sound_rest : (m : Files) → y ≡ read_bytes m location x → AreSymbolNames (k ∷ ts) → IsWellFormedStatement y
  sound_rest m e named = subst IsWellFormedStatement (sym e) (read_sound m location x (statement_sound (k ∷ ts) x named is))

  wrong_rest : (o : Option Files) (most : ℕ) (t : State) (new : Assembler) (e : AsmFault) → IfSome o (λ m. y ≡ read_bytes m location x) → RefinesTransition (IsWellFormedStatement y) (StepsTo t location y) most t new (Err e) → RefinesTransition (AreSymbolNames (k ∷ ts)) (RestBy o location (k ∷ ts) t) most t new (Err e)
  wrong_rest (Some m) most t new e read h = fault_then (IsWellFormedStatement y) (AreSymbolNames (k ∷ ts)) (StepsTo t location y) (RestBy (Some m) location (k ∷ ts) t) most most t t new e (sound_rest m read) (taken_rest m t (Err e) read) (λ s. s) h
  wrong_rest None most t new e read h = by (is_system_error e) h
    where
      by : (b : Bool) → Unless b ((IsWellFormedStatement y → StepsTo t location y (Err e)) × HasSameOutput t new) → Unless b ((AreSymbolNames (k ∷ ts) → RestBy None location (k ∷ ts) t (Err e)) × HasSameOutput t new)
      by true g = tt
      by false g = (λ so. tt, g.1)

pub rest_leaves : (o : Option Files) (location : SourceLocation) (ts : List Lexeme) (x y : Statement) (old new : Assembler) (r : Answer) → (ts ≡ [] → ⊥) → IsStatement ts (Ok x) → IfSome o (λ m. y ≡ read_bytes m location x) → RefinesAllTransitions (IsWellFormedStatement y) (λ t. StepsTo t location y) 1 old new r → RefinesAllTransitions (AreSymbolNames ts) (RestBy o location ts) 1 old new r
rest_leaves o location [] x y old new r some is read taken = absurd (some refl)
rest_leaves o location (k ∷ ts) x y old new (Ok v) some is read taken = λ count t room h.
    (let a = taken count t room h in
    (a.0, some_then (λ m. y ≡ read_bytes m location x) (λ m. AssemblesTokens m StepsTo t location (k ∷ ts) (Ok a.0)) o (λ m e. taken_rest location k ts x y is m t (Ok a.0) e a.1) read, a.2, a.3))
rest_leaves o location (k ∷ ts) x y old new (Err e) some is read taken = λ count t room h.
    wrong_rest location k ts x y is o (count + 1) t new e read (taken count t room h)

-- a statement that is rejected before its file is read
module _ (f : Option Files) (last_failure : LastFailure) (location : SourceLocation) (x : Statement) (a : Assembler) (e : AsmFault) (refused : (count : ℕ) (t : State) → Represents count t a → IsRejectedUnread f last_failure t location x e) where
  pub rest_unread : (ts : List Lexeme) → (ts ≡ [] → ⊥) → IsStatement ts (Ok x) → RefinesAllTransitions (AreSymbolNames ts) (RestBy f location ts) 1 a a (Err e)
  rest_unread [] some is = absurd (some refl)
  rest_unread (k ∷ ts) some is = λ count t room h.
      fault_first (AreSymbolNames (k ∷ ts)) (RestBy f location (k ∷ ts) t) (count + 1) t a e
      (unless_then (is_system_error e) (λ (all : (m : Files) → StepsTo t location (with_bytes m location x) (Err e)). some_all (λ m. AssemblesTokens m StepsTo t location (k ∷ ts) (Err e)) f (λ m. (Ok x, is, all m))) (refused count t h).inside)
      (λ inside. says_same count t a a h refl)

  pub rest_stops : (ts : List Lexeme) (r : Answer) → (ts ≡ [] → ⊥) → IsStatement ts (Ok x) → (is_failure e ≡ true → e ≡ FileError) → r ≡ Err e → KeepsOutputAtFailure (AnswersWithoutFile f last_failure (λ m t. AssemblesTokens m StepsTo t location ts)) 1 a a r
  rest_stops [] r some is only fails = absurd (some refl)
  rest_stops (k ∷ ts) r some is only fails = subst (KeepsOutputAtFailure (AnswersWithoutFile f last_failure (λ m t. AssemblesTokens m StepsTo t location (k ∷ ts))) 1 a a) (sym fails)
      (λ failed. record {
        fault = only failed;
        out = refl;
        err = refl;
        unread = λ count t room h. (let w = (refused count t h).failed failed in record { name = w.name; requested = w.requested; inside = w.inside; answered = λ m none. (Ok x, is, w.answered m none) });
      })

-- the case that the result is no failure of the store
pub never_stops : (Is : State → Result State AsmFault → Type 0) (more : ℕ) (old new : Assembler) (r : Answer) → IfErr r (λ e. is_failure e ≡ false) → KeepsOutputAtFailure Is more old new r
never_stops Is more old new (Ok v) h = tt
never_stops Is more old new (Err e) h = λ failed. absurd cc

pub some_there : (n : ℕ) → false ≡ (n == 0) → n ≡ 0 → ⊥
some_there zero h e = absurd cc
some_there (suc n) h e = absurd cc

-- ---- A label.

abbrev FrontBy : SourceLocation → Option Statement → Assembler → Assembler → Answer → Type 0
FrontBy location o old new r = RefinesAllTransitions (IfSome o IsWellFormedStatement) (λ t. AssemblesLabel StepsTo t location o) 1 old new r

pub front_leaves : (location : SourceLocation) (o : Option Statement) (x : Statement) (old new : Assembler) (r : Answer) → o ≡ Some x → RefinesAllTransitions (IsWellFormedStatement x) (λ t. StepsTo t location x) 1 old new r → FrontBy location o old new r
front_leaves location o x old new r e h = subst (λ p. FrontBy location p old new r) (sym e) h

pub front_absent : (location : SourceLocation) (o : Option Statement) (old : Assembler) → o ≡ None → FrontBy location o old old (Ok tt)
front_absent location o old e = subst (λ p. FrontBy location p old old (Ok tt)) (sym e) (λ count t room h. (t, refl, (λ reached. reached), (count, omega arith, h)))

-- emitting pieces prints nothing
puts_quiet : (location : SourceLocation) (s : Context) (t u : State) (p : Piece) → PieceStep location s t p u → (u.out ≡ t.out) × (u.err ≡ t.err)
puts_quiet location s t _ p (emitted_now c encoding) = (refl, refl)
puts_quiet location s t _ p deferred_piece_step = (refl, refl)

all_quiet : (location : SourceLocation) (s : Context) (t u : State) (ps : List Piece) → PieceSteps location s t ps u → (u.out ≡ t.out) × (u.err ≡ t.err)
all_quiet location s t u [] h = (ap (λ (v : State). v.out) h, ap (λ (v : State). v.err) h)
all_quiet location s t u (p ∷ ps) h =
    let one = puts_quiet location s t h.0 p h.1 in
    let rest = all_quiet location s h.0 u ps h.2 in
    (rest.0 ∙ one.0, rest.1 ∙ one.1)

asked_quiet : (t : State) (l : LaidOutStatement) → ((with_section_request t l).out ≡ t.out) × ((with_section_request t l).err ≡ t.err)
asked_quiet t l = by (needs_section l.stated)
  where
    by : (b : Bool) → ((if b then with_content t (section_request l.context.segment) else t).out ≡ t.out) × ((if b then with_content t (section_request l.context.segment) else t).err ≡ t.err)
    by true = (refl, refl)
    by false = (refl, refl)

pub takes_quiet : (t u : State) (location : SourceLocation) (x : Statement) → (statement_stdout x ≡ []) × (statement_warning location x ≡ []) → StepsTo t location x (Ok u) → (u.out ≡ t.out) × (u.err ≡ t.err)
takes_quiet t u location x quiet takes = by (line_fault t.symbols t.cursor x) takes
  where
    l : LaidOutStatement
    l = laid_out_statement t.symbols t.cursor location x

    step : (v : State) → PieceSteps location (laid_out_statement t.symbols t.cursor location x).context (with_section_request t (laid_out_statement t.symbols t.cursor location x)) (pieces_of (laid_out_statement t.symbols t.cursor location x).length (laid_out_statement t.symbols t.cursor location x).encoding x) v → u ≡ with_symbols v (laid_out_statement t.symbols t.cursor location x) → (u.out ≡ t.out) × (u.err ≡ t.err)
    step v puts same =
        let m = laid_out_statement t.symbols t.cursor location x in
        let a = asked_quiet t m in
        let b = all_quiet location m.context (with_section_request t m) v (pieces_of m.length m.encoding x) puts in
        (ap (λ (w : State). w.out) same ∙ ap (λ said. v.out ++ said) quiet.0 ∙ append-nil v.out ∙ b.0 ∙ a.0, ap (λ (w : State). w.err) same ∙ ap (λ said. v.err ++ said) quiet.1 ∙ append-nil v.err ∙ b.1 ∙ a.1)

    by : (o : Option AsmFault) → UnlessFault o (StepsWithoutError t (laid_out_statement t.symbols t.cursor location x)) (Ok u) → (u.out ≡ t.out) × (u.err ≡ t.err)
    by None h = (let same : u ≡ with_symbols h.0 (laid_out_statement t.symbols t.cursor location x) = cc in step h.0 h.1 same)
    by (Some e) h = absurd cc

abbrev AreQuiet : Option Statement → Type 0
AreQuiet o = (location : SourceLocation) (x : Statement) → o ≡ Some x → (statement_stdout x ≡ []) × (statement_warning location x ≡ [])

quiet_labelled : (t u : State) (location : SourceLocation) (o : Option Statement) → AreQuiet o → AssemblesLabel StepsTo t location o (Ok u) → (u.out ≡ t.out) × (u.err ≡ t.err)
quiet_labelled t u location None quiet h = (let same : u ≡ t = cc in (ap (λ (v : State). v.out) same, ap (λ (v : State). v.err) same))
quiet_labelled t u location (Some x) quiet h = takes_quiet t u location x (quiet location x refl) h

abbrev LabelAt : Files → State → SourceLocation → (Option Statement × List Lexeme) → Result State AsmFault → Type 0
LabelAt m t location p r = (q : Result State AsmFault) × AssemblesLabel StepsTo t location p.0 q × AndThen q (λ z. AssemblesTokens m StepsTo z location p.1) r

sound_if : (o : Option Statement) → ((x : Statement) → o ≡ Some x → IsWellFormedStatement x) → IfSome o IsWellFormedStatement
sound_if None f = tt
sound_if (Some x) f = f x refl

-- the tokens are a label and the rest after it
abbrev Says : List Lexeme → List Lexeme → Option Statement → Type 0
Says ts rest o = let p : Result (Option Statement × List Lexeme) AsmFault = Ok (o, rest) in p ≡ Ok (label_of ts)

parted : (ts rest : List Lexeme) (o : Option Statement) → Says ts rest o → label_of ts ≡ (o, rest)
parted ts rest o e = cc

pub label_room : (location : SourceLocation) (o : Option Statement) (old mid : Assembler) (v : Unit {0}) → HasHeadroom 2 old → FrontBy location o old mid (Ok v) → HasHeadroom 1 mid
label_room location o old mid v held front =
    let room = held.2 in
    let a = front held.0 held.1 (omega (arith, room)) held.3 in
    let few = a.3.1 in
    (a.3.0, a.0, omega (arith, room, few), a.3.2)

-- a label prints nothing, so a failure after the label leaves the output unchanged
pub label_stops : (f : Option Files) (last_failure : LastFailure) (location : SourceLocation) (ts rest : List Lexeme) (o : Option Statement) (old mid new : Assembler) (v : Unit {0}) (r : Answer) → HasHeadroom 2 old → Says ts rest o → FrontBy location o old mid (Ok v) → KeepsOutputAtFailure (AnswersWithoutFile f last_failure (λ m t. AssemblesTokens m StepsTo t location rest)) 1 mid new r → KeepsOutputAtFailure (AnswersWithoutFile f last_failure (λ m t. AssemblesLabelTokens m StepsTo t location ts)) 2 old new r
label_stops f last_failure location ts rest o old mid new v (Ok w) held says front quiet = tt
label_stops f last_failure location ts rest o old mid new v (Err e) held says front quiet = λ failed.
    (let room = held.2 in
    let a = front held.0 held.1 (omega (arith, room)) held.3 in
    let is = parted ts rest o says in
    let silent : AreQuiet o = subst (λ (p : Option Statement × List Lexeme). AreQuiet p.0) is (label_quiet ts) in
    let same = quiet_labelled held.1 a.0 location o silent a.1 in
    let before = held.3 in
    let following = a.3.2 in
    let q = quiet failed in
    record {
      fault = q.fault;
      out = q.out ∙ following.out ∙ same.0 ∙ sym before.out;
      err = q.err ∙ following.err ∙ same.1 ∙ sym before.err;
      unread = λ count t space h.
          (let b = front count t (omega (arith, space)) h in
          let few = b.3.1 in
          let w = q.unread b.3.0 b.0 (omega (arith, space, few)) b.3.2 in
          record { name = w.name; requested = w.requested; inside = w.inside; answered = λ m none. subst (λ p. LabelAt m t location p (Err FileNotFound)) (sym is) (Ok b.0, b.1, w.answered m none) });
    })

abbrev pub LabelBy : Option Files → SourceLocation → List Lexeme → State → Result State AsmFault → Type 0
LabelBy f location ts = ForKnownFiles f (λ m t. AssemblesLabelTokens m StepsTo t location ts)

pub label_refused : (f : Option Files) (location : SourceLocation) (ts rest : List Lexeme) (o : Option Statement) (old new : Assembler) (e : AsmFault) (r : Answer) → Says ts rest o → FrontBy location o old new (Err e) → r ≡ Err e → RefinesAllTransitions (AreSymbolNames ts) (LabelBy f location ts) 2 old new r
label_refused f location ts rest o old new e r says front fails =
    subst (λ (q : Answer). RefinesAllTransitions (AreSymbolNames ts) (LabelBy f location ts) 2 old new q) (sym fails) (λ count t room h. refused count t room h)
  where
    refused : (count : ℕ) (t : State) → count + 2 ≤ opening_limit → Represents count t old → RefinesTransition (AreSymbolNames ts) (LabelBy f location ts t) (count + 2) t new (Err e)
    refused count t room h =
        fault_then (IfSome o IsWellFormedStatement) (AreSymbolNames ts) (AssemblesLabel StepsTo t location o) (LabelBy f location ts t) (count + 1) (count + 2) t t new e
        (λ named. sound_if o (subst (λ (p : Option Statement × List Lexeme). (x : Statement) → p.0 ≡ Some x → IsWellFormedStatement x) (parted ts rest o says) (label_sound ts named).label))
        (λ p. some_all (λ m. AssemblesLabelTokens m StepsTo t location ts (Err e)) f (λ m. subst (λ q. LabelAt m t location q (Err e)) (sym (parted ts rest o says)) (Err e, p, refl)))
        (λ s. s) (front count t (omega (arith, room)) h)

pub label_leaves : (f : Option Files) (location : SourceLocation) (ts rest : List Lexeme) (o : Option Statement) (old mid new : Assembler) (v : Unit {0}) (r : Answer) → Says ts rest o → FrontBy location o old mid (Ok v) → RefinesAllTransitions (AreSymbolNames rest) (RestBy f location rest) 1 mid new r → RefinesAllTransitions (AreSymbolNames ts) (LabelBy f location ts) 2 old new r
label_leaves f location ts rest o old mid new v (Ok w) says front taken = λ count t room h.
    (let a = front count t (omega (arith, room)) h in
    let few = a.3.1 in
    let b = taken a.3.0 a.0 (omega (arith, room, few)) a.3.2 in
    let least = b.3.1 in
    let given : LabelBy f location ts t (Ok b.0) = some_then (λ m. AssemblesTokens m StepsTo a.0 location rest (Ok b.0)) (λ m. AssemblesLabelTokens m StepsTo t location ts (Ok b.0)) f (λ m g. subst (λ q. LabelAt m t location q (Ok b.0)) (sym (parted ts rest o says)) (Ok a.0, a.1, g)) b.1 in
    (b.0, given, λ reached. b.2 (a.2 reached), (b.3.0, omega (arith, few, least), b.3.2)))
label_leaves f location ts rest o old mid new v (Err e) says front taken = λ count t room h.
    (let a = front count t (omega (arith, room)) h in
    let few = a.3.1 in
    let b = taken a.3.0 a.0 (omega (arith, room, few)) a.3.2 in
    let is = parted ts rest o says in
    let quiet : AreQuiet o = subst (λ (p : Option Statement × List Lexeme). AreQuiet p.0) is (label_quiet ts) in
    let same = quiet_labelled t a.0 location o quiet a.1 in
    fault_then (AreSymbolNames rest) (AreSymbolNames ts) (RestBy f location rest a.0) (LabelBy f location ts t) (a.3.0 + 1) (count + 2) t a.0 new e
    (λ named. subst (λ (p : Option Statement × List Lexeme). AreSymbolNames p.1) is (label_sound ts named).rest)
    (some_then (λ m. AssemblesTokens m StepsTo a.0 location rest (Err e)) (λ m. AssemblesLabelTokens m StepsTo t location ts (Err e)) f (λ m g. subst (λ q. LabelAt m t location q (Err e)) (sym is) (Ok a.0, a.1, g)))
    (λ s. (s.0 ∙ same.0, s.1 ∙ same.1)) b)

-- ---- An expanded statement.

abbrev pub GivenBy : Option Files → SourceLocation → expand.ExpandedStatement → State → Result State AsmFault → Type 0
GivenBy f location g = ForKnownFiles f (λ m t. AssemblesExpanded m StepsTo t location g)

pub given_label : (f : Option Files) (location : SourceLocation) (g : given.Statement) (line : StoredLine) (ts : List Lexeme) (old new : Assembler) (r : Answer) → g ≡ Label line → ts ≡ tokens_in line → RefinesAllTransitions (AreSymbolNames ts) (LabelBy f location ts) 2 old new r → RefinesAllTransitions (AreSymbolNames (tokens_of (statement_of g))) (GivenBy f location (statement_of g)) 2 old new r
given_label f location g line ts old new r is same h =
    let P : given.Statement → Type 0 = λ g. RefinesAllTransitions (AreSymbolNames (tokens_of (statement_of g))) (GivenBy f location (statement_of g)) 2 old new r in
    let Q : List Lexeme → Type 0 = λ ts. RefinesAllTransitions (AreSymbolNames ts) (LabelBy f location ts) 2 old new r in
    subst P (sym is) (subst Q same h)

pub wider : (IsValid : Type 0) (Is : State → Result State AsmFault → Type 0) (old new : Assembler) (r : Answer) → RefinesAllTransitions IsValid Is 1 old new r → RefinesAllTransitions IsValid Is 2 old new r
wider IsValid Is old new (Ok v) taken = λ count t room h.
    (let a = taken count t (omega (arith, room)) h in
    let few = a.3.1 in
    (a.0, a.1, a.2, (a.3.0, omega (arith, few), a.3.2)))
wider IsValid Is old new (Err e) taken = λ count t room h. taken count t (omega (arith, room)) h

pub given_plain : (f : Option Files) (location : SourceLocation) (g : given.Statement) (line : StoredLine) (ts : List Lexeme) (old new : Assembler) (r : Answer) → g ≡ Plain line → ts ≡ tokens_in line → RefinesAllTransitions (AreSymbolNames ts) (RestBy f location ts) 1 old new r → RefinesAllTransitions (AreSymbolNames (tokens_of (statement_of g))) (GivenBy f location (statement_of g)) 2 old new r
given_plain f location g line ts old new r is same h =
    let P : given.Statement → Type 0 = λ g. RefinesAllTransitions (AreSymbolNames (tokens_of (statement_of g))) (GivenBy f location (statement_of g)) 2 old new r in
    let Q : List Lexeme → Type 0 = λ ts. RefinesAllTransitions (AreSymbolNames ts) (RestBy f location ts) 2 old new r in
    subst P (sym is) (subst Q same (wider (AreSymbolNames ts) (RestBy f location ts) old new r h))

-- ---- Failures of the store.

abbrev pub GivenStops : Option Files → LastFailure → SourceLocation → given.Statement → Assembler → Assembler → Answer → Type 0
GivenStops f last_failure location g old new r = KeepsOutputAtFailure (AnswersWithoutFile f last_failure (λ m t. AssemblesExpanded m StepsTo t location (statement_of g))) 2 old new r

pub label_given_stops : (f : Option Files) (last_failure : LastFailure) (location : SourceLocation) (g : given.Statement) (line : StoredLine) (ts : List Lexeme) (old new : Assembler) (r : Answer) → g ≡ Label line → ts ≡ tokens_in line → KeepsOutputAtFailure (AnswersWithoutFile f last_failure (λ m t. AssemblesLabelTokens m StepsTo t location ts)) 2 old new r → GivenStops f last_failure location g old new r
label_given_stops f last_failure location g line ts old new r is same h =
    let Q : List Lexeme → Type 0 = λ ts. KeepsOutputAtFailure (AnswersWithoutFile f last_failure (λ m t. AssemblesLabelTokens m StepsTo t location ts)) 2 old new r in
    subst (λ g. GivenStops f last_failure location g old new r) (sym is) (subst Q same h)

pub stops_wider : (Is : State → Result State AsmFault → Type 0) (old new : Assembler) (r : Answer) → KeepsOutputAtFailure Is 1 old new r → KeepsOutputAtFailure Is 2 old new r
stops_wider Is old new (Ok v) h = tt
stops_wider Is old new (Err e) h = λ failed.
    (let q = h failed in
    record { fault = q.fault; out = q.out; err = q.err; unread = λ count t room held. q.unread count t (omega (arith, room)) held })

pub plain_given_stops : (f : Option Files) (last_failure : LastFailure) (location : SourceLocation) (g : given.Statement) (line : StoredLine) (ts : List Lexeme) (old new : Assembler) (r : Answer) → g ≡ Plain line → ts ≡ tokens_in line → KeepsOutputAtFailure (AnswersWithoutFile f last_failure (λ m t. AssemblesTokens m StepsTo t location ts)) 1 old new r → GivenStops f last_failure location g old new r
plain_given_stops f last_failure location g line ts old new r is same h =
    let Q : List Lexeme → Type 0 = λ ts. KeepsOutputAtFailure (AnswersWithoutFile f last_failure (λ m t. AssemblesTokens m StepsTo t location ts)) 2 old new r in
    subst (λ g. GivenStops f last_failure location g old new r) (sym is) (subst Q same (stops_wider _ old new r h))
