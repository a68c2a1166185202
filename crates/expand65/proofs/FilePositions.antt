-- The positions at which open files are read.
use Rattle.std.proofs.lemmas.Grind.{common_steps}
use Rattle.std.proofs.Common.{arith, ◌≡◌, ◌+◌, ◌∙◌, Bool, List, [], ◌∷◌, ◌++◌, Option, Some, None, IfSome, OnOk, Result, Ok, Err, ap, refl, reverse, sym, subst, true}
use Rattle.std.specs.Prelude.{if◌then◌else◌}
use Rattle.base65.specs.Store.{LastFailure, Files}
use Rattle.syntax65.specs.Faults.{is_failure}
use Rattle.syntax65.specs.declared.fault.ExpandFault.{ExpandFault}
use Rattle.syntax65.specs.declared.source_location.SourceLocation.{SourceLocation}
use Rattle.expand65.specs.Representation.{is_call, is_file, AreInputsAt, HasReturnLocation, IsSourceAt, IsStackPositioned, IsLineOf, IsStackPositionedIfKnown, next_location, open_inputs}
use Rattle.expand65.specs.Lines.{restored_location, IsFileAt, IsFileAfterLines, IsReadingAt, location_at}
use Rattle.expand65.specs.declared.file.OpenFile.{OpenFile}
use Rattle.expand65.specs.declared.input.LineSource.{LineSource}
use Rattle.expand65.specs.declared.input.LineSource.TheVariants as source
use Rattle.syntax65.specs.Tokens.{Lexeme}
use Rattle.expand65.specs.Replay.{IsBufferedLine}
use Rattle.expand65.specs.declared.skipping.Peeked.{Peeked}
use Rattle.expand65.specs.declared.input_stack.Input.{Input}
use Rattle.expand65.specs.declared.input_stack.InputStack.{InputStack}

pub line_of : (m : Files) (s : LineSource) (p : SourceLocation) → IsSourceAt m s p → IsLineOf s p
line_of m (source.File f) p h = h.line
line_of m (source.Call r) p h = tt
line_of m (source.Repeat r next count) p h = tt

-- reading a line of an included file doesn't change the location that is restored after the file
onward_back : (s : LineSource) (p : SourceLocation) (b : Option SourceLocation) → HasReturnLocation s b → restored_location (next_location s p) b ≡ restored_location p b
onward_back s p (Some q) h = refl
onward_back s p None h = rw h refl

same_kind : (s t : LineSource) (b : Option SourceLocation) → is_file t ≡ is_file s → HasReturnLocation s b → HasReturnLocation t b
same_kind s t (Some q) e h = tt
same_kind s t None e h = e ∙ h

first_of : (m : Files) (i : Input) (is : List Input) (p : SourceLocation) → AreInputsAt m (i ∷ is) p → IsSourceAt m i.source p
first_of m i [] p h = h.0
first_of m i (j ∷ is) p h = h.0

-- replacing the line source and the location of the innermost input preserves the positions
with_first : (m : Files) (i k : Input) (is : List Input) (p q : SourceLocation) → k.return_location ≡ i.return_location → is_file k.source ≡ is_file i.source → (HasReturnLocation i.source i.return_location → restored_location q i.return_location ≡ restored_location p i.return_location) → IsSourceAt m k.source q → AreInputsAt m (i ∷ is) p → AreInputsAt m (k ∷ is) q
with_first m i k [] p q b t s at h = (at, b ∙ h.1)
with_first m i k (j ∷ is) p q b t s at h =
    let return_location : restored_location p i.return_location ≡ restored_location q k.return_location = sym (s h.1) ∙ ap (restored_location q) (sym b) in
    (at, subst (HasReturnLocation k.source) (sym b) (same_kind i.source k.source i.return_location t h.1), subst (AreInputsAt m (j ∷ is)) return_location h.2)

pub innermost_at : (m : Files) (r : InputStack) → IsStackPositioned m r → IsSourceAt m r.top.source r.location
unfolding IsStackPositioned
innermost_at m r h = first_of m r.top (reverse r.outer.items) r.location h

reads_so : (m : Files) (old new : InputStack) → new.top.return_location ≡ old.top.return_location → new.outer ≡ old.outer → is_file new.top.source ≡ is_file old.top.source → (HasReturnLocation old.top.source old.top.return_location → restored_location new.location old.top.return_location ≡ restored_location old.location old.top.return_location) → IsSourceAt m new.top.source new.location → IsStackPositioned m old → IsStackPositioned m new
unfolding IsStackPositioned
reads_so m old new b o t s at h =
    let there : AreInputsAt m (new.top ∷ reverse old.outer.items) new.location = with_first m old.top new.top (reverse old.outer.items) old.location new.location b t s at h in
    subst (λ x. AreInputsAt m (new.top ∷ reverse x.items) new.location) (sym o) there

-- the innermost input is read further, and the location is unchanged
pub reads_on : (m : Files) (old new : InputStack) → new.top.return_location ≡ old.top.return_location → new.outer ≡ old.outer → is_file new.top.source ≡ is_file old.top.source → new.location ≡ old.location → IsSourceAt m new.top.source old.location → IsStackPositioned m old → IsStackPositioned m new
reads_on m old new b o t p at h = reads_so m old new b o t (λ x. ap (λ q. restored_location q old.top.return_location) p) (subst (IsSourceAt m new.top.source) (sym p) at) h

-- the innermost input is read by one line
pub reads_onward : (m : Files) (old new : InputStack) → new.top.return_location ≡ old.top.return_location → new.outer ≡ old.outer → is_file new.top.source ≡ is_file old.top.source → new.location ≡ next_location old.top.source old.location → IsSourceAt m new.top.source (next_location old.top.source old.location) → IsStackPositioned m old → IsStackPositioned m new
reads_onward m old new b o t p at h =
    reads_so m old new b o t (λ return_location. ap (λ q. restored_location q old.top.return_location) p ∙ onward_back old.top.source old.location old.top.return_location return_location) (subst (IsSourceAt m new.top.source) (sym p) at) h

-- a buffered line of a file is read
pub takes_on : (m : Files) (old new : InputStack) (p : Peeked) (ts : List Lexeme) → new.top.return_location ≡ old.top.return_location → new.outer ≡ old.outer → is_file new.top.source ≡ is_file old.top.source → new.location ≡ location_at old.location p.number → IsBufferedLine old.top.source p ts → (IsSourceAt m old.top.source old.location → IsSourceAt m new.top.source (location_at old.location p.number)) → IsStackPositioned m old → IsStackPositioned m new
takes_on m old new p ts b o t e there at h =
    reads_so m old new b o t (λ return_location. ap (λ q. restored_location q old.top.return_location) e ∙ following old.top.source old.top.return_location there return_location) (subst (IsSourceAt m new.top.source) (sym e) (at (innermost_at m old h))) h
  where
    following : (s : LineSource) (b : Option SourceLocation) → IsBufferedLine s p ts → HasReturnLocation s b → restored_location (location_at old.location p.number) b ≡ restored_location old.location b
    following s (Some q) there return_location = refl
    following (source.File f) None there return_location = absurd cc
    following (source.Call r) None there return_location = absurd there
    following (source.Repeat r next count) None there return_location = absurd there

-- ---- Opened and closed inputs.

pub enters : (m : Files) (old : InputStack) (new : List Input) (i : Input) (p : SourceLocation) → new ≡ old.outer.items ++ old.top ∷ [] → IsSourceAt m i.source p → HasReturnLocation i.source i.return_location → restored_location p i.return_location ≡ old.location → IsStackPositioned m old → AreInputsAt m (i ∷ reverse new) p
unfolding IsStackPositioned
enters m old new i p o s k b h = grind (arith, common_steps)

-- the next outer input becomes the innermost one
pub drops : (m : Files) (old : Input) (outer rest : List Input) (top : Input) (p q : SourceLocation) → outer ≡ rest ++ top ∷ [] → q ≡ restored_location p old.return_location → AreInputsAt m (old ∷ reverse outer) p → AreInputsAt m (top ∷ reverse rest) q
drops m old outer rest top p q o e h = grind (arith, common_steps)

-- there is no outer input: the source remains, without a location to restore
pub stays : (m : Files) (old new : Input) (outer rest : List Input) (p q : SourceLocation) → outer ≡ [] → rest ≡ [] → new.source ≡ old.source → new.return_location ≡ None → q ≡ restored_location p old.return_location → AreInputsAt m (old ∷ reverse outer) p → AreInputsAt m (new ∷ reverse rest) q
stays m old new outer rest p q o l s n e h = grind (arith, common_steps)

-- the input stack has returned to a location
pub goes_back : (m : Files) (mid new : InputStack) (p : SourceLocation) → new.top ≡ mid.top → new.outer ≡ mid.outer → new.location ≡ p → AreInputsAt m (open_inputs mid) p → IsStackPositioned m new
unfolding IsStackPositioned
goes_back m mid new p t o e h = grind (arith, common_steps)

pub placed_in : (m : Files) (r : InputStack) → IsStackPositioned m r → AreInputsAt m (open_inputs r) r.location
unfolding IsStackPositioned
placed_in m r h = h

pub call_at : (m : Files) (s : LineSource) (p : SourceLocation) → is_call s ≡ true → IsSourceAt m s p
call_at m (source.File f) p h = absurd cc
call_at m (source.Call r) p h = tt
call_at m (source.Repeat r next count) p h = tt

pub call_kind : (s t : LineSource) → is_call s ≡ true → is_call t ≡ true → is_file t ≡ is_file s
call_kind (source.Call r) (source.Call q) h k = refl
call_kind (source.File f) t h k = absurd cc
call_kind (source.Repeat r next count) t h k = absurd cc
call_kind (source.Call r) (source.File f) h k = absurd cc
call_kind (source.Call r) (source.Repeat q next count) h k = absurd cc

-- a file before its first line
pub opened_at : (m : Files) (f : OpenFile) (p : SourceLocation) → f.name ≡ p.file → f.line ≡ 0 → p.line ≡ 0 → IsFileAfterLines m f 0 → IsFileAt m f p
opened_at m f p e l z h = record { name = e; line = z ∙ sym l; following = subst (IsFileAfterLines m f) (sym l) h }

-- a source that was opened
pub source_placed : (m : Files) (r : InputStack) (f : OpenFile) → r.top.source ≡ source.File f → r.top.return_location ≡ None → r.outer.items ≡ [] → IsFileAt m f r.location → IsStackPositioned m r
unfolding IsStackPositioned
source_placed m r f s b o at =
    let P : List Input → Type 0 = λ l. AreInputsAt m (r.top ∷ reverse l) r.location in
    subst P (sym o) (subst (λ (x : LineSource). IsSourceAt m x r.location) (sym s) at, b)

-- ---- If the store's files are known.

pub stands_so : (o : Option Files) (old new : InputStack) → ((m : Files) → IsStackPositioned m old → IsStackPositioned m new) → IsStackPositionedIfKnown o old → IsStackPositionedIfKnown o new
stands_so None old new f h = tt
stands_so (Some m) old new f h = f m h

-- by a property of the files that a call ensures
pub stands_by : (o : Option Files) (P : Files → Type 0) (old new : InputStack) → ((m : Files) → P m → IsStackPositioned m old → IsStackPositioned m new) → IfSome o P → IsStackPositionedIfKnown o old → IsStackPositionedIfKnown o new
stands_by None P old new f h k = tt
stands_by (Some m) P old new f h k = f m h k

pub stands_where : (o p : Option Files) (r : InputStack) → p ≡ o → IsStackPositionedIfKnown o r → IsStackPositionedIfKnown p r
stands_where o p r e h = subst (λ q. IsStackPositionedIfKnown q r) (sym e) h

-- if the call doesn't change the store's files
pub stands_back : (o p : Option Files) (old new : InputStack) → p ≡ o → (IsStackPositionedIfKnown p old → IsStackPositionedIfKnown p new) → IsStackPositionedIfKnown o old → IsStackPositionedIfKnown o new
stands_back o p old new e f h = let P : Option Files → Type 0 = λ x. IsStackPositionedIfKnown x old → IsStackPositionedIfKnown x new in subst P e f h

pub stands_on_ok : {A : Type 0} (o p : Option Files) (r : Result A ExpandFault) (old new : InputStack) → p ≡ o → (IsStackPositionedIfKnown p old → OnOk r (IsStackPositionedIfKnown p new)) → IsStackPositionedIfKnown o old → OnOk r (IsStackPositionedIfKnown o new)
stands_on_ok o p r old new e f h = let P : Option Files → Type 0 = λ x. IsStackPositionedIfKnown x old → OnOk r (IsStackPositionedIfKnown x new) in subst P e f h

-- ---- The next line.

-- reading the next line preserves the positions
pub line_stands : (o : Option Files) (old new : InputStack) (mid : LineSource) → new.top.return_location ≡ old.top.return_location → new.outer ≡ old.outer → is_file new.top.source ≡ is_file old.top.source → is_file mid ≡ is_file old.top.source → (IsLineOf old.top.source old.location → new.location ≡ next_location mid old.location) → IfSome o (λ m. (q : SourceLocation) → IsSourceAt m old.top.source q → IsSourceAt m mid q) → IfSome o (λ m. (q : SourceLocation) → IsSourceAt m mid q → IsSourceAt m new.top.source (next_location mid q)) → IsStackPositionedIfKnown o old → IsStackPositionedIfKnown o new
line_stands None old new mid b k t u moves begins takes h = tt
line_stands (Some m) old new mid b k t u moves begins takes h =
    let at = innermost_at m old h in
    let same : next_location mid old.location ≡ next_location old.top.source old.location = ap (λ (x : Bool). if x then location_at old.location (old.location.line + 1) else old.location) u in
    let location : new.location ≡ next_location old.top.source old.location = moves (line_of m old.top.source old.location at) ∙ same in
    reads_onward m old new b k t location (subst (IsSourceAt m new.top.source) same (takes old.location (begins old.location at))) h

-- the store fails before the line's first byte
pub reading_before : (o : Option Files) (old : InputStack) (last_failure : LastFailure) (f : ExpandFault) → is_failure f ≡ true → IfSome o (λ m. (q : SourceLocation) → IsSourceAt m old.top.source q → is_failure f ≡ true → IsReadingAt m last_failure q) → IsStackPositionedIfKnown o old → IfSome o (λ m. IsReadingAt m last_failure old.location)
reading_before None old last_failure f failed stops h = tt
reading_before (Some m) old last_failure f failed stops h = stops old.location (innermost_at m old h) failed

-- the store fails within the line
pub reading_within : (o : Option Files) (old : InputStack) (mid : LineSource) (location : SourceLocation) (last_failure : LastFailure) (f : ExpandFault) → is_failure f ≡ true → IfSome o (λ m. (q : SourceLocation) → IsSourceAt m old.top.source q → IsSourceAt m mid q) → IfSome o (λ m. (q : SourceLocation) → IsSourceAt m mid q → is_failure f ≡ true → IsReadingAt m last_failure (next_location mid q)) → (IsLineOf old.top.source old.location → location ≡ next_location mid old.location) → IsStackPositionedIfKnown o old → IfSome o (λ m. IsReadingAt m last_failure location)
reading_within None old mid location last_failure f failed begins stops moves h = tt
reading_within (Some m) old mid location last_failure f failed begins stops moves h =
    let at = innermost_at m old h in
    subst (IsReadingAt m last_failure) (sym (moves (line_of m old.top.source old.location at))) (stops old.location (begins old.location at) failed)
