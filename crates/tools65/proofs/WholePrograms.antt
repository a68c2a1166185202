-- The link of the objects that ca65 writes from sources is the image of the sources as one program.
use Rattle.std.proofs.Common.{◌≡◌, ◌∙◌, List, [], ◌∷◌, Option, Some, None, Ok, refl, sym, ap, subst}
use Rattle.object65.specs.declared.object.Object.{Object}
use Rattle.semantics65.specs.Layout.{Layout}
use Rattle.sources65.proofs.LayoutUniqueness.{one_layout}
use Rattle.sources65.proofs.SoundSources.{sound_layout}
use Rattle.semantics65.specs.Module.{LocatedFault, object_of, outcome_of}
use Rattle.sources65.specs.Reading.{AreLaidOut, ReachedState}
use Rattle.link65.specs.Programs.{Module}
use Rattle.whole65.proofs.Equality.{equality_law}
use Rattle.whole65.proofs.Links.{laid_out_law}
use Rattle.whole65.specs.Sources.{AreObjectsOfLayouts}
use Rattle.whole65.specs.Sources as whole
use Rattle.whole65.specs.Whole.{IsWholeProgramImage}
use Rattle.tools65.specs.OneProgram.{AreLayoutsOf, AreObjectsOf, IsLayoutOf, IsObjectOf, OneProgramLaw, Source}

-- a source with an object has no error at a line
no_fault : (y : Layout) (f : Option LocatedFault) (o : Object) → (outcome_of y f).result ≡ Ok o → (f ≡ None) × (object_of y ≡ Ok o)
no_fault y None o e = (refl, e)
no_fault y (Some f) o e = absurd cc

laid_of : (x : Source) (m : Module) → IsObjectOf x m → (y : Layout) × IsLayoutOf x y × whole.IsObjectOfLayout y m
laid_of x m (a, p, (r, laid, is), found, version) =
    let sound = no_fault r.state r.fault p (sym (ap (λ z. z.result) is) ∙ found) in
    let there : IsLayoutOf x r.state = subst (λ f. AreLaidOut x.files x.job (record { state = r.state; fault = f })) sound.0 laid in
    (r.state, there, record { no_line_errors = laid_out_law x.files x.job r laid; well_formed_layout = sound_layout x.files x.job r laid; written = p; object = sound.1; version = version })

all_laid : (xs : List Source) (ms : List Module) → AreObjectsOf xs ms → (ys : List Layout) × AreLayoutsOf xs ys × AreObjectsOfLayouts ys ms
all_laid [] [] h = ([], tt, tt)
all_laid [] (m ∷ ms) h = absurd h
all_laid (x ∷ xs) [] h = absurd h
all_laid (x ∷ xs) (m ∷ ms) h =
    let (y, laid, source) = laid_of x m h.0 in
    let (ys, more, sources) = all_laid xs ms h.1 in
    (y ∷ ys, (laid, more), (source, sources))

-- sources have at most one layout each
laid_once : (xs : List Source) (ys zs : List Layout) → AreLayoutsOf xs ys → AreLayoutsOf xs zs → ys ≡ zs
laid_once [] [] [] h k = refl
laid_once [] (y ∷ ys) zs h k = absurd h
laid_once [] [] (z ∷ zs) h k = absurd k
laid_once (x ∷ xs) [] zs h k = absurd h
laid_once (x ∷ xs) (y ∷ ys) [] h k = absurd k
laid_once (x ∷ xs) (y ∷ ys) (z ∷ zs) h k =
    let one : Layout → ReachedState Layout = λ l. record { state = l; fault = None } in
    let same : y ≡ z = ap (λ (r : ReachedState Layout). r.state) (one_layout x.files x.job (one y) (one z) h.0 k.0) in
    ap (λ l. l ∷ ys) same ∙ ap (λ ls. z ∷ ls) (laid_once xs ys zs h.1 k.1)

pub one_program : OneProgramLaw
one_program output s xs ms files h =
    let (ys, laid, sources) = all_laid xs ms h in
    let both = equality_law output s ys ms files sources in (
      λ w. both.0 (subst (λ zs. IsWholeProgramImage output s zs files) (laid_once xs w.0 ys w.1 laid) w.2),
      λ k. (ys, laid, both.1 k),
    )
