-- The layout of a source is well-formed: the names in its statements fit into an object.
use Rattle.std.proofs.lemmas.Grind.{common_steps}
use Rattle.std.proofs.Common.{arith, ◌≡◌, ℕ, ◌+◌, List, [], ◌∷◌, length, Option, Some, None, refl, sym, subst}
use Rattle.std.specs.Prelude.{Result, Ok, Err}
use Rattle.std.specs.Option.{option_map_or}
use Rattle.base65.specs.Outcome.{AndThen}
use Rattle.base65.specs.Store.{Files}
use Rattle.syntax65.specs.Tokens.{Lexeme}
use Rattle.syntax65.specs.Trees.{number}
use Rattle.syntax65.specs.declared.fault.ExpandFault.{ExpandFault}
use Rattle.syntax65.specs.declared.source_location.SourceLocation.{SourceLocation}
use Rattle.expand65.specs.Expansion.{statement, first_state_in}
use Rattle.expand65.specs.State as expand
use Rattle.ast65.specs.declared.fault.AsmFault.{AsmFault}
use Rattle.ast65.specs.declared.language.Statement.{Statement}
use Rattle.ast65.specs.declared.language.Statement.TheVariants.{Constant}
use Rattle.semantics65.specs.Layout.{Layout, empty_layout}
use Rattle.semantics65.specs.Numbering.{AreSymbolNames, IsWellFormedStatement}
use Rattle.ast65.specs.Parsing.{IsStatement, label_with_colon, label_of}
use Rattle.sources65.proofs.WellFormedLines.{statement_sound}
use Rattle.sources65.specs.Machine.{LayoutIsWellFormed}
use Rattle.sources65.specs.Reading.{IsLaidOut, layout_semantics, DefinesConstants, AssemblesRest, statement_assembled, statement_rejected, expansion_rejected, source_ended, Define, AssemblesOpeningResult, AssemblesExpanded, AssemblesLabelTokens, AssemblesLabel, AssemblesTokens, Job, ReachedState, with_bytes}
use Rattle.sources65.proofs.FitSteps.{IsStateFit, opened_fit, next_fit, tokens_of}
use Rattle.sources65.proofs.FitTokens.{are_named}
use Rattle.sources65.proofs.SoundLayouts.{IsGood, good_statement, nothing_good, sound_from}

-- ---- A label and the rest of its line.

-- a label is well-formed, and the identifiers after it are valid names
pub record IsLabelSound (p : Option Statement × List Lexeme) : Type 0 where
  pub label : (x : Statement) → p.0 ≡ Some x → IsWellFormedStatement x
  pub rest : AreSymbolNames p.1

no_label : (ts : List Lexeme) → AreSymbolNames ts → IsLabelSound (None, ts)
no_label ts named = record { label = λ x e. absurd cc; rest = named }

one_label : (x : Statement) (ts : List Lexeme) → IsWellFormedStatement x → AreSymbolNames ts → IsLabelSound (Some x, ts)
one_label x ts sound named = record { label = λ y e. (let same : x ≡ y = cc in subst IsWellFormedStatement same sound); rest = named }

before_sound : (t : Lexeme) (ts : List Lexeme) → AreSymbolNames (t ∷ ts) → IsLabelSound (option_map_or (λ x. (Some x.0, x.1)) (label_with_colon t ts) (None, t ∷ ts))
before_sound t x1 named = grind (arith, common_steps)

pub label_sound : (ts : List Lexeme) → AreSymbolNames ts → IsLabelSound (label_of ts)
label_sound x1 named = grind (arith, common_steps, no_label, one_label, before_sound)

-- ---- A statement.

good_labelled : (y z : Layout) (location : SourceLocation) (o : Option Statement) → IsGood y → ((x : Statement) → o ≡ Some x → IsWellFormedStatement x) → AssemblesLabel IsLaidOut y location o (Ok z) → IsGood z
good_labelled y z location None good sound h = let same : y ≡ z = cc in subst IsGood same good
good_labelled y z location (Some x) good sound h = good_statement y z location x good (sound x refl) h

-- the bytes of a file preserve well-formedness
pub bytes_sound : (m : Files) (location : SourceLocation) (x : Statement) → IsWellFormedStatement x → IsWellFormedStatement (with_bytes m location x)
bytes_sound m location x1 sound = grind (arith, common_steps)

good_rest : (m : Files) (y z : Layout) (location : SourceLocation) (ts : List Lexeme) → IsGood y → AreSymbolNames ts → AssemblesTokens m IsLaidOut y location ts (Ok z) → IsGood z
good_rest m y z location [] good named h = let same : y ≡ z = cc in subst IsGood same good
good_rest m y z location (t ∷ ts) good named h = by h.0 h.1 h.2
  where
    by : (q : Result Statement AsmFault) → IsStatement (t ∷ ts) q → AndThen q (λ x. IsLaidOut y location (with_bytes m location x)) (Ok z) → IsGood z
    by (Ok x) is e = good_statement y z location (with_bytes m location x) good (bytes_sound m location x (statement_sound (t ∷ ts) x named is)) e
    by (Err f) is e = absurd cc

good_label : (m : Files) (y z : Layout) (location : SourceLocation) (ts : List Lexeme) → IsGood y → AreSymbolNames ts → AssemblesLabelTokens m IsLaidOut y location ts (Ok z) → IsGood z
good_label m y z location ts good named h = by h.0 h.1 h.2
  where
    sound : IsLabelSound (label_of ts)
    sound = label_sound ts named

    by : (q : Result Layout AsmFault) → AssemblesLabel IsLaidOut y location (label_of ts).0 q → AndThen q (λ w. AssemblesTokens m IsLaidOut w location (label_of ts).1) (Ok z) → IsGood z
    by (Ok w) is e = good_rest m w z location (label_of ts).1 (good_labelled y w location (label_of ts).0 good sound.label is) sound.rest e
    by (Err f) is e = absurd cc

good_given : (m : Files) (y z : Layout) (location : SourceLocation) (x : expand.ExpandedStatement) → IsGood y → AreSymbolNames (tokens_of x) → AssemblesExpanded m IsLaidOut y location x (Ok z) → IsGood z
good_given m y z location (expand.label ts) good named h = good_label m y z location ts good named h
good_given m y z location (expand.plain ts) good named h = good_rest m y z location ts good named h

-- ---- All statements.

good_taken : (m : Files) (n : ℕ) (s : expand.State) (y : Layout) (r : ReachedState Layout) → IsStateFit m n s → IsGood y → AssemblesRest m layout_semantics s y r → IsGood r.state
good_taken m n s y r fit good (statement_assembled _ t x _ z _ reaches is more) =
    let next = next_fit m n (layout_semantics.environment y) s (statement x t) fit reaches in
    good_taken m (n + length (tokens_of x)) t z r next.1 (good_given m y z t.left.place x good (are_named m (tokens_of x) next.0) is) more
good_taken m n s y r fit good (statement_rejected _ t x _ e reaches is) = good
good_taken m n s y r fit good (expansion_rejected _ _ e location reaches) = good
good_taken m n s y r fit good (source_ended _ t _ reaches) = good

-- `-D` constants preserve the invariant: their names aren't part of the object
good_defined : (y z : Layout) (location : SourceLocation) (ds : List Define) → IsGood y → DefinesConstants IsLaidOut y location ds (Ok z) → IsGood z
good_defined y z location [] good h = let same : y ≡ z = cc in subst IsGood same good
good_defined y z location (d ∷ ds) good h = by h.0 h.1 h.2 (λ w. good_defined w z location ds)
  where
    by : (q : Result Layout AsmFault) → IsLaidOut y location (Constant d.0 (number d.1)) q → AndThen q (λ w. DefinesConstants IsLaidOut w location ds) (Ok z) → ((w : Layout) → IsGood w → DefinesConstants IsLaidOut w location ds (Ok z) → IsGood z) → IsGood z
    by (Ok w) is e more = more w (good_statement y w location (Constant d.0 (number d.1)) good tt is) e
    by (Err f) is e more = absurd cc

-- ---- A source.

good_after : (q r : ReachedState Layout) → r ≡ q → IsGood q.state → IsGood r.state
good_after q r e good = subst (λ (x : ReachedState Layout). IsGood x.state) (sym e) good

good_begun : (m : Files) (job : Job) (o : Result expand.State ExpandFault) (r : ReachedState Layout) → ((s : expand.State) → o ≡ Ok s → IsStateFit m 0 s) → AssemblesOpeningResult m layout_semantics job empty_layout o r → IsGood r.state
good_begun m job x1 r fit h = grind (arith, common_steps, good_after, nothing_good, (good_taken m 0), good_defined)

pub sound_layout : LayoutIsWellFormed
sound_layout m job r h = sound_from r.state (good_begun m job (first_state_in m job.source job.include) r (opened_fit m job.source job.include) h)
