-- The records of an object are read and added to the linker one at a time, after other modules.
use Rattle.std.proofs.Common.{◌≡◌, ◌∙◌, ◌<◌, ℕ, List, [], ◌∷◌, ◌++◌, Bool, true, false, Option, Some, None, Result, Ok, Err, refl, ap, arith, ◌==◌, sym}
use Rattle.std.specs.Prelude.{IfSome}
use Rattle.base65.specs.Outcome.{RefinesErr, Unless}
use Rattle.base65.specs.Store.{Files}
use Rattle.object65.specs.declared.fault.ObjectFault.{ObjectFault}
use Rattle.object65.specs.declared.fault.ObjectFault.TheVariants as object
use Rattle.object65.specs.declared.object.Object.{Object}
use Rattle.script65.specs.declared.script.Script.{Script}
use Rattle.link65.specs.declared.fault.LinkFault.{LinkFault}
use Rattle.link65.specs.declared.fault.LinkFault.TheVariants as link
use Rattle.link65.specs.Programs.{Module}
use Rattle.link65.specs.Representation.{LinkerView, module_of, AddsRecord, RepresentsWithOpenModule, as_link}
use Rattle.ld65.specs.declared.fault.LinkCommandFault.{LinkCommandFault}
use Rattle.ld65.specs.Internal.AddedModules.{is_input_system_error, AddsRecords, records_in}
use Rattle.ld65.specs.Linkage.{Input, added_object, modules_after}
use Rattle.ld65.specs.Faults.{is_system_error, input_fault, member_fault}
use Rattle.std.specs.FinMap.{get}
use Rattle.std.proofs.lemmas.Bool.Decides.{nat_tests}
use Rattle.object65.specs.Record.{is_system_error as is_object_system_error, is_memory as is_object_memory, RawRecord}
use Rattle.object65.specs.Reading.{in_file, record_at}
use Rattle.object65.specs.Scanning.{State, state_after_record, start}
use Rattle.object65.proofs.Records.{GoesIn, all_in, reading_stops, taking_stops, ends_in, goes_on_in, begins_in}
use Rattle.object65.proofs.ItemLimits.{after_free, ended_by}
use Rattle.link65.specs.Faults.{is_memory, of_object as as_fault}
use Rattle.library65.specs.declared.index.Entry.{Entry as Listing}

-- ---- The system errors of an input are the system errors of the command.

object_outside : (f : ObjectFault) (k : ℕ) → is_system_error (input_fault k (link.Malformed f)) ≡ is_input_system_error (link.Malformed f)
object_outside object.OutOfMemory k = refl
object_outside object.FileError k = refl
object_outside f k = cc

pub at_outside : (k : ℕ) (e : LinkFault) → is_system_error (input_fault k e) ≡ is_input_system_error e
at_outside k (link.Malformed f) = object_outside f k
at_outside k link.OutOfMemory = refl
at_outside k e = cc

member_outside : (f : ObjectFault) (name : List ℕ) → is_system_error (member_fault name (link.Malformed f)) ≡ is_input_system_error (link.Malformed f)
member_outside object.OutOfMemory name = refl
member_outside object.FileError name = refl
member_outside f name = cc

pub in_outside : (name : List ℕ) (e : LinkFault) → is_system_error (member_fault name e) ≡ is_input_system_error e
in_outside name (link.Malformed f) = member_outside f name
in_outside name link.OutOfMemory = refl
in_outside name link.IndexDisagrees = refl
in_outside name e = cc

-- ---- The module of an object after other modules.

pub fed_after : (known : Option Files) (s : Script) (before : List Module) (i : Input) (named : LinkFault → LinkCommandFault) (o : Object) → IfSome known (λ m. added_object s before m i ≡ Ok o) → IfSome known (λ m. modules_after named before i.name (added_object s before m i) ≡ Ok (before ++ module_of i.name o ∷ []))
fed_after None s before i named o h = tt
fed_after (Some m) s before i named o h = ap (modules_after named before i.name) h

pub refused_after : (known : Option Files) (s : Script) (before : List Module) (i : Input) (named : LinkFault → LinkCommandFault) (e : LinkFault) → is_system_error (named e) ≡ is_input_system_error e → IfSome known (λ m. RefinesErr is_input_system_error e (added_object s before m i)) → IfSome known (λ m. RefinesErr is_system_error (named e) (modules_after named before i.name (added_object s before m i)))
refused_after None s before i named e same h = tt
refused_after (Some m) s before i named e same h = rw same (go (is_input_system_error e) h)
  where
    go : (b : Bool) → Unless b (added_object s before m i ≡ Err e) → Unless b (modules_after named before i.name (added_object s before m i) ≡ Err (named e))
    go true h = tt
    go false h = ap (modules_after named before i.name) h

-- ---- Errors.

pub unless : (b : Bool) {P Q : Type 0} → (P → Q) → Unless b P → Unless b Q
unless true h p = tt
unless false h p = h p

-- an error `f` of an object is the error `Malformed f` of the link
pub of_malformed : {A : Type 0} (f : ObjectFault) (r : Result A ObjectFault) → RefinesErr is_object_system_error f r → RefinesErr is_input_system_error (link.Malformed f) (as_link r)
of_malformed f r h = unless (is_object_system_error f) (λ e. ap as_link e) h

of_malformed_in : {A : Type 0} (known : Option Files) (f : ObjectFault) (r : Files → Result A ObjectFault) → IfSome known (λ m. RefinesErr is_object_system_error f (r m)) → IfSome known (λ m. RefinesErr is_input_system_error (link.Malformed f) (as_link (r m)))
of_malformed_in None f r h = tt
of_malformed_in (Some m) f r h = of_malformed f (r m) h

-- an error `f` of an object is the error `as_fault f` of the link
pub of_object : {A : Type 0} (f : ObjectFault) (r : Result A ObjectFault) → RefinesErr is_object_system_error f r → RefinesErr is_input_system_error (as_fault f) (as_link r)
of_object f r h = go (is_object_memory f) refl
  where
    go : (b : Bool) → is_object_memory f ≡ b → RefinesErr is_input_system_error (as_fault f) (as_link r)
    go true is = rw is tt
    go false is = rw is (of_malformed f r h)

pub of_object_in : {A : Type 0} (known : Option Files) (f : ObjectFault) (r : Files → Result A ObjectFault) → IfSome known (λ m. RefinesErr is_object_system_error f (r m)) → IfSome known (λ m. RefinesErr is_input_system_error (as_fault f) (as_link (r m)))
of_object_in None f r h = tt
of_object_in (Some m) f r h = of_object f (r m) h

memory_is_outside : (f : LinkFault) → is_memory f ≡ true → is_input_system_error f ≡ true
memory_is_outside link.OutOfMemory h = refl
memory_is_outside f h = absurd cc

-- if memory ran out, nothing is required of the result
pub by_memory : {A : Type 0} (known : Option Files) (e : LinkFault) (r : Files → Result A LinkFault) → is_memory e ≡ true → IfSome known (λ m. RefinesErr is_input_system_error e (r m))
by_memory None e r h = tt
by_memory (Some m) e r h = rw (memory_is_outside e h) tt

-- refinement up to memory errors implies refinement up to system errors
pub memory_outside : {A : Type 0} (e : LinkFault) (r : Result A LinkFault) → RefinesErr is_memory e r → RefinesErr is_input_system_error e r
memory_outside e r h = go (is_memory e) refl h
  where
    go : (b : Bool) → is_memory e ≡ b → Unless b (r ≡ Err e) → RefinesErr is_input_system_error e r
    go true k u = rw (memory_is_outside e k) tt
    go false k u = unlessed (is_input_system_error e) u
      where
        unlessed : (b : Bool) → r ≡ Err e → Unless b (r ≡ Err e)
        unlessed true u = tt
        unlessed false u = u

-- an error of `as_link r` comes from an error of `r`
from_object : {A : Type 0} (r : Result A ObjectFault) (e : LinkFault) → as_link r ≡ Err e → (f : ObjectFault) × (e ≡ link.Malformed f) × (r ≡ Err f)
from_object (Ok x) e h = absurd cc
from_object (Err f) e h = (f, (let same : link.Malformed f ≡ e = cc in sym same), refl)

pub accepted : {A : Type 0} (r : Result A ObjectFault) (x : A) → as_link r ≡ Ok x → r ≡ Ok x
accepted (Ok y) x h = let same : y ≡ x = cc in ap Ok same
accepted (Err f) x h = absurd cc

-- ---- A record that was read, as the linker represents it.

pub seen : (known : Option Files) (read : Files → Result (RawRecord × ℕ) ObjectFault) (shown of_reader : RawRecord) (next : ℕ) → shown ≡ of_reader → IfSome known (λ m. read m ≡ Ok (of_reader, next)) → IfSome known (λ m. read m ≡ Ok (shown, next))
seen known read shown of_reader next same h = rw same h

-- ---- A record that the linker rejects.

-- the error isn't a failure of the store
pub not_stored : (s : State) (x : RawRecord) (e : LinkFault) → RefinesErr is_memory e (as_link (state_after_record s x)) → e ≡ link.Malformed object.FileError → ⊥
not_stored s x e h is = absurd (after_free s x (refused_so (rw is at h)))
  where
    refused_so : as_link (state_after_record s x) ≡ Err (link.Malformed object.FileError) → state_after_record s x ≡ Err object.FileError
    refused_so u = let p = from_object (state_after_record s x) _ u in let same : object.FileError ≡ p.0 = cc p.1 in p.2 ∙ ap Err (sym same)

pub taking_refused : (v limit at next : ℕ) (known now : Option Files) (name : List ℕ) (s : State) (r : RawRecord × ℕ) (e : LinkFault) → now ≡ known → GoesIn v known name limit at next s → IfSome now (λ m. in_file (get m name) (record_at v next limit) ≡ Ok r) → RefinesErr is_memory e (as_link (state_after_record s r.0)) → IfSome known (λ m. RefinesErr is_input_system_error e (as_link (all_in v (get m name) at limit)))
taking_refused v limit at next known now name s r e same goes read refused = go (is_memory e) refl refused
  where
    go : (b : Bool) → is_memory e ≡ b → Unless b (as_link (state_after_record s r.0) ≡ Err e) → IfSome known (λ m. RefinesErr is_input_system_error e (as_link (all_in v (get m name) at limit)))
    go true h u = by_memory known e (λ m. as_link (all_in v (get m name) at limit)) h
    go false h u =
        let p = from_object (state_after_record s r.0) e u in
        let free : RefinesErr is_object_system_error p.0 (state_after_record s r.0) = unless_any (is_object_system_error p.0) p.2 in
        rw p.1 (of_malformed_in known p.0 (λ m. all_in v (get m name) at limit) (taking_stops v limit at next known now name s r p.0 same goes read free))
      where
        unless_any : (b : Bool) {P : Type 0} → P → Unless b P
        unless_any true x = tt
        unless_any false x = x

not_at : (n : ℕ) → (n ≡ 8 → ⊥) → (n == 8) ≡ false
not_at n h = grind (arith, nat_tests)

-- ---- The loop, for all modules that the linker represents.

-- reading the records from `next` on, after those that the linker consumed, has the same result as reading all records
abbrev pub IsAt : Option Files → Input → ℕ × ℕ → ℕ → LinkerView → LinkerView → Type 0
IsAt known i at next old now =
    (modules : List Module) (called : List ℕ) (entry : Option Listing) → RepresentsWithOpenModule old modules called entry (start at.0)
    → (s : State) × RepresentsWithOpenModule now modules called entry s × GoesIn at.0 known i.file i.end at.1 next s

module _ (known : Option Files) (i : Input) (at : ℕ × ℕ) where
  pub is_at_first : (old : LinkerView) → IsAt known i at at.1 old old
  is_at_first old modules called entry h = (start at.0, h, begins_in at.0 i.end at.1 at.1 known i.file)

  pub unread : (next : ℕ) (now : Option Files) (old mid new : LinkerView) (f : ObjectFault) → now ≡ known → IsAt known i at next old mid → IfSome now (λ m. RefinesErr is_object_system_error f (in_file (get m i.file) (record_at at.0 next i.end))) → AddsRecords known i at old new (Err (as_fault f))
  unread next now old mid new f same is h modules called entry stands =
      let p = is modules called entry stands in
      of_object_in known f (λ m. records_in m i at) (reading_stops at.0 i.end at.1 next known now i.file p.0 f same p.2 h)

  pub untaken : (next : ℕ) (now : Option Files) (old mid new : LinkerView) (r : RawRecord × ℕ) (e : LinkFault) → now ≡ known → IsAt known i at next old mid → IfSome now (λ m. in_file (get m i.file) (record_at at.0 next i.end) ≡ Ok r) → AddsRecord r.0 mid new (Err e) → AddsRecords known i at old new (Err e)
  untaken next now old mid new r e same is read refused modules called entry stands =
      let p = is modules called entry stands in
      taking_refused at.0 i.end at.1 next known now i.file p.0 r e same p.2 read (refused modules called entry p.0 p.1)

  pub ends_there : (next : ℕ) (now : Option Files) (old mid new : LinkerView) (r : RawRecord × ℕ) → now ≡ known → IsAt known i at next old mid → IfSome now (λ m. in_file (get m i.file) (record_at at.0 next i.end) ≡ Ok r) → AddsRecord r.0 mid new (Ok tt) → r.0.kind ≡ 8 → AddsRecords known i at old new (Ok r.1)
  ends_there next now old mid new r same is read taken end modules called entry stands =
      let p = is modules called entry stands in
      let q = taken modules called entry p.0 p.1 in
      let step = accepted (state_after_record p.0 r.0) q.0 q.1 in
      ((q.0, r.1), linked known (λ m. records_in m i at) (q.0, r.1) (ends_in at.0 i.end at.1 next known now i.file p.0 q.0 r same p.2 read step (ended_by p.0 q.0 r.0 step ∙ ap (λ n. n == 8) end)), (refl, q.2))
    where
      linked : (k : Option Files) (f : Files → Result (State × ℕ) ObjectFault) (x : State × ℕ) → IfSome k (λ m. f m ≡ Ok x) → IfSome k (λ m. as_link (f m) ≡ Ok x)
      linked None f x h = tt
      linked (Some m) f x h = ap as_link h

  pub goes_further : (next : ℕ) (now : Option Files) (old mid new : LinkerView) (r : RawRecord × ℕ) → now ≡ known → IsAt known i at next old mid → IfSome now (λ m. in_file (get m i.file) (record_at at.0 next i.end) ≡ Ok r) → next < r.1 → AddsRecord r.0 mid new (Ok tt) → (r.0.kind ≡ 8 → ⊥) → IsAt known i at r.1 old new
  goes_further next now old mid new r same is read later taken end modules called entry stands =
      let p = is modules called entry stands in
      let q = taken modules called entry p.0 p.1 in
      let step = accepted (state_after_record p.0 r.0) q.0 q.1 in
      (q.0, q.2, goes_on_in at.0 i.end at.1 next known now i.file p.0 q.0 r same p.2 read later step (ended_by p.0 q.0 r.0 step ∙ not_at r.0.kind end))

  -- the error of a record that the linker rejects isn't a failure of the store
  pub refused_free : (next : ℕ) (old mid new : LinkerView) (x : RawRecord) (e : LinkFault) → IsAt known i at next old mid → AddsRecord x mid new (Err e) → (modules : List Module) (called : List ℕ) (entry : Option Listing) → RepresentsWithOpenModule old modules called entry (start at.0) → e ≡ link.Malformed object.FileError → ⊥
  refused_free next old mid new x e is refused modules called entry stands same =
      let p = is modules called entry stands in
      not_stored p.0 x e (refused modules called entry p.0 p.1) same
