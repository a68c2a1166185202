-- The result of a command line, from its script and its inputs.
use Rattle.std.proofs.Common.{◌≡◌, inr, ◌∙◌, ℕ, ◌+◌, ◌≤◌, ◌<◌, List, length, take, Bool, true, false, nat_lt, Option, Some, None, Result, Ok, Err, refl, ap, subst, arith, zero, suc, [], ◌∷◌, ◌++◌, Bor, drop, get_or, map, slice_get, add-one}
use Rattle.std.specs.Prelude.{IfErr, IfSome, ◌||◌, min}
use Rattle.std.specs.FinMap.{get}
use Rattle.std.proofs.lemmas.Bool.Decides.{nat_tests}
use Rattle.std.proofs.lemmas.List.{take_all, length-take}
use Rattle.base65.specs.Outcome.{AndThen, RefinesProp, Unless}
use Rattle.base65.specs.Store.{LastFailure, Files}
use Rattle.base65.specs.declared.store.StoreFault.TheVariants.{FileNotFound}
use Rattle.script65.specs.declared.script.Script.{Script}
use Rattle.script65.specs.declared.fault.ScriptFault.{ScriptFault}
use Rattle.script65.specs.Faults.{is_script_system_error}
use Rattle.script65.specs.Scripts.{IsScript}
use Rattle.script65.proofs.ReadingUniqueness.{long_texts}
use Rattle.link65.specs.declared.linking.Linked.{Linked}
use Rattle.cli65.specs.Line.{LinkView}
use Rattle.ld65.specs.declared.fault.LinkCommandFault.{LinkCommandFault}
use Rattle.ld65.specs.declared.fault.LinkCommandFault.TheVariants as error
use Rattle.ld65.specs.Linkage.{IsScriptedLink, IsCommandLink, as_script, text_of, AreInputs, IsInput, file_input, as_command_fault, output_of}
use Rattle.ld65.specs.Naming.{IsInputListFailure, IsCommandFailure, IsScriptIn, NamesFailure}
use Rattle.ld65.specs.Faults.{is_system_error, input_fault}
use Rattle.ld65.specs.Internal.Texts.{limited_bytes, script_limit, script_text}
use Rattle.link65.specs.declared.fault.LinkFault.{LinkFault}
use Rattle.link65.specs.Programs.{Module, program_of}
use Rattle.link65.specs.Representation.{LinkerView, RepresentsModules, module_of, LinksModules}
use Rattle.ld65.specs.Internal.AddedModules.{AddsFile, AddsInput, AddsInputs, AddsObject}
use Rattle.ld65.proofs.AddedRecords.{at_outside, fed_after, refused_after}
use Rattle.link65.specs.Faults.{is_memory}
use Rattle.link65.specs.Links.{LinkOf, check_unique_names}

-- ---- From the script to the link.

is_long : (n : ℕ) (bytes : List ℕ) → nat_lt n (length bytes) ≡ true → nat_lt n (length (take (n + 1) bytes)) ≡ true
is_long n bytes h =
    let long : n < length bytes = grind (arith, nat_tests) in
    let len : length (take (n + 1) bytes) ≡ min (n + 1) (length bytes) = length-take (n + 1) bytes in
    let it : n < length (take (n + 1) bytes) = omega arith in
    grind (arith, nat_tests)

is_short : (n : ℕ) (bytes : List ℕ) → nat_lt n (length bytes) ≡ false → take (n + 1) bytes ≡ bytes
is_short n bytes h =
    let short : length bytes ≤ n = grind (arith, nat_tests) in
    take_all (n + 1) bytes (omega arith)

-- the first `script_limit + 1` bytes of a script determine the result of parsing it
whole_script : (b : Bool) (bytes : List ℕ) (q : Result Script ScriptFault) → nat_lt script_limit (length bytes) ≡ b → IsScript (take (script_limit + 1) bytes) q → IsScript bytes q
whole_script true bytes q h s = long_texts (take (script_limit + 1) bytes) bytes q (is_long script_limit bytes h) h s
whole_script false bytes q h s = subst (λ (x : List ℕ). IsScript x q) (is_short script_limit bytes h) s

-- the script that was read is the script of its file
script_in : (m : Files) (name text : List ℕ) (s : Script) → Ok text ≡ script_text m name → IsScript text (Ok s) → IsScriptIn m name s
script_in m name text s read is = go (get m name) refl read
  where
    go : (file : Option (List ℕ)) → get m name ≡ file → Ok text ≡ limited_bytes (text_of file) → IsScriptIn m name s
    go None e h = absurd cc
    go (Some bytes) e h =
        let front : text ≡ take (script_limit + 1) bytes = cc in
        (bytes, e, whole_script (nat_lt script_limit (length bytes)) bytes (Ok s) refl (subst (λ (x : List ℕ). IsScript x (Ok s)) front is))

-- a failure of the list of inputs is a failure of the command line
pub named_line : (known next : Option Files) (l : LinkView) (text : List ℕ) (s : Script) (b : LastFailure) (r : Result Linked LinkCommandFault) → next ≡ known → IfSome known (λ m. Ok text ≡ script_text m l.script) → IsScript text (Ok s) → IfErr r (NamesFailure (IsInputListFailure next s [] b l.inputs)) → IfErr r (NamesFailure (IsCommandFailure known b l))
named_line known next l text s b (Ok x) same read is named = tt
named_line known next l text s b (Err e) same read is named = λ failed.
    inr (s, told known read, subst (λ (f : Option Files). IsInputListFailure f s [] b l.inputs e) same (named failed))
  where
    told : (f : Option Files) → IfSome f (λ m. Ok text ≡ script_text m l.script) → IfSome f (λ m. IsScriptIn m l.script s)
    told None h = tt
    told (Some m) h = script_in m l.script text s h is

-- the result after the script is parsed
abbrev pub Rest : Files → LinkView → Result Script ScriptFault → Result Linked LinkCommandFault → Type 0
Rest m l q r = AndThen (as_script q) (IsScriptedLink m l) r

read_script : (m : Files) (l : LinkView) (file : Option (List ℕ)) (text : List ℕ) (q : Result Script ScriptFault) (r : Result Linked LinkCommandFault) → Ok text ≡ limited_bytes (text_of file) → IsScript text q → Rest m l q r → AndThen (text_of file) (λ text u. (q : Result Script ScriptFault) × IsScript text q × AndThen (as_script q) (IsScriptedLink m l) u) r
read_script m l None text q r e s rest = absurd cc
read_script m l (Some bytes) text q r e s rest =
    let is : text ≡ take (script_limit + 1) bytes = cc in
    (q, whole_script (nat_lt script_limit (length bytes)) bytes q refl (subst (λ (x : List ℕ). IsScript x q) is s), rest)

-- the case of an accepted script
pub script_ok : (known next : Option Files) (l : LinkView) (text : List ℕ) (s : Script) (r : Result Linked LinkCommandFault) → next ≡ known → IfSome known (λ m. Ok text ≡ script_text m l.script) → IsScript text (Ok s) → IfSome next (λ m. RefinesProp is_system_error (IsScriptedLink m l s) r) → IfSome known (λ m. RefinesProp is_system_error (IsCommandLink m l) r)
script_ok None next l text s r same read is rest = tt
script_ok (Some m) next l text s r same read is rest = go r (rw same at rest)
  where
    outside : (b : Bool) (e : LinkCommandFault) → Unless b (IsScriptedLink m l s (Err e)) → Unless b (IsCommandLink m l (Err e))
    outside true e h = tt
    outside false e h = read_script m l (get m l.script) text (Ok s) (Err e) read is h

    go : (r : Result Linked LinkCommandFault) → RefinesProp is_system_error (IsScriptedLink m l s) r → RefinesProp is_system_error (IsCommandLink m l) r
    go (Ok linked) h = read_script m l (get m l.script) text (Ok s) (Ok linked) read is h
    go (Err e) h = outside (is_system_error e) e h

-- the case of a rejected script
pub script_err : (known : Option Files) (l : LinkView) (text : List ℕ) (e : ScriptFault) → IfSome known (λ m. Ok text ≡ script_text m l.script) → Unless (is_script_system_error e) (IsScript text (Err e)) → IfSome known (λ m. RefinesProp is_system_error (IsCommandLink m l) (Err (error.Script e)))
script_err None l text e read is = tt
script_err (Some m) l text e read is = outside (is_script_system_error e) is
  where
    outside : (b : Bool) → Unless b (IsScript text (Err e)) → Unless (b || false) (IsCommandLink m l (Err (error.Script e)))
    outside true h = tt
    outside false h = read_script m l (get m l.script) text (Err e) (Err (error.Script e)) read h refl

-- the case of a script that couldn't be read
pub script_unread : (known : Option Files) (l : LinkView) (e : LinkCommandFault) → IfSome known (λ m. RefinesProp is_system_error (λ r. r ≡ script_text m l.script) (Err e)) → IfSome known (λ m. RefinesProp is_system_error (IsCommandLink m l) (Err e))
script_unread None l e read = tt
script_unread (Some m) l e read = outside (is_system_error e) read
  where
    unread : (file : Option (List ℕ)) → Err e ≡ limited_bytes (text_of file) → AndThen (text_of file) (λ text u. (q : Result Script ScriptFault) × IsScript text q × AndThen (as_script q) (IsScriptedLink m l) u) (Err e)
    unread None h = let same : e ≡ error.ScriptFile FileNotFound = cc in ap (λ z. Err z) same
    unread (Some bytes) h = absurd cc

    outside : (b : Bool) → Unless b (Err e ≡ script_text m l.script) → Unless b (IsCommandLink m l (Err e))
    outside true h = tt
    outside false h = unread (get m l.script) h

-- ---- One input.

-- an object that is a whole file
pub file_fed : (known : Option Files) (k : ℕ) (name called : List ℕ) (old new : LinkerView) → called ≡ name → AddsObject known (record { file = name; begin = 0; end = 18446744073709551615; name = called; entry = None }) old new (Ok tt) → AddsFile known k name old new (Ok tt)
file_fed known k name called old new same fed before stands =
    let q = subst (λ n. AddsObject known (record { file = name; begin = 0; end = 18446744073709551615; name = n; entry = None }) old new (Ok tt)) same fed before stands in
    (before ++ module_of name q.0 ∷ [], fed_after known old.script before (file_input name) (input_fault k) q.0 q.1, q.2)

pub file_refused : (known : Option Files) (k : ℕ) (name called : List ℕ) (old new : LinkerView) (e : LinkFault) → called ≡ name → AddsObject known (record { file = name; begin = 0; end = 18446744073709551615; name = called; entry = None }) old new (Err e) → AddsFile known k name old new (Err (input_fault k e))
file_refused known k name called old new e same fed before stands =
    let q = subst (λ n. AddsObject known (record { file = name; begin = 0; end = 18446744073709551615; name = n; entry = None }) old new (Err e)) same fed before stands in
    refused_after known old.script before (file_input name) (input_fault k) e (at_outside k e) q

-- ---- The names of inputs.

-- the names from index `k` on begin with the name at `k`
name_here : (inputs : List (Bor (List ℕ))) (k : ℕ) (x : Bor (List ℕ)) → k < length inputs → drop k (map (λ s. s.now) inputs) ≡ (get_or inputs k x).now ∷ drop (suc k) (map (λ s. s.now) inputs)
name_here [] k x h = absurd (omega (arith, h))
name_here (y ∷ ys) zero x h = refl
name_here (y ∷ ys) (suc k) x h = name_here ys k x (omega (arith, h))

pub name_at : (inputs : List (Bor (List ℕ))) (k : ℕ) (x : Bor (List ℕ)) → k < length inputs → drop k (map (λ s. s.now) inputs) ≡ (get_or inputs k x).now ∷ drop (k + 1) (map (λ s. s.now) inputs)
name_at inputs k x h = rw add-one (name_here inputs k x h)

-- ---- The loop, for all modules that the linker represents.

-- the name at index `k`
pub name_there : (inputs : List (Bor (List ℕ))) (k : ℕ) (x : Bor (List ℕ)) → k < length inputs → slice_get (map (λ s. s.now) inputs) k ≡ Some (get_or inputs k x).now
name_there [] k x h = absurd (omega arith)
name_there (y ∷ ys) zero x h = refl
name_there (y ∷ ys) (suc k) x h = name_there ys k x (omega (arith, h))

-- adding the inputs from `k` on, after the modules that the linker represents, has the same result as adding all inputs
abbrev pub ComesAfter : Option Files → List (List ℕ) → ℕ → LinkerView → LinkerView → Type 0
ComesAfter known names k old now =
    (before : List Module) → RepresentsModules old before
    → (modules : List Module) × RepresentsModules now modules
    × IfSome known (λ m. (r : Result (List Module) LinkCommandFault) → AreInputs old.script m k modules (drop k names) r → AreInputs old.script m 0 before names r)

module _ (known : Option Files) (names : List (List ℕ)) where
  -- the result of the inputs from index `k` on
  from_here : (s : Script) (m : Files) (k : ℕ) (modules : List Module) (name : List ℕ) (q r : Result (List Module) LinkCommandFault) → drop k names ≡ name ∷ drop (k + 1) names → IsInput s m k modules name q → AndThen q (λ ms. AreInputs s m (k + 1) ms (drop (k + 1) names)) r → AreInputs s m k modules (drop k names) r
  from_here s m k modules name q r here is next = rw here (q, is, next)

  pub following_more : (k : ℕ) (now : Option Files) (name : List ℕ) (old mid new : LinkerView) → now ≡ known → drop k names ≡ name ∷ drop (k + 1) names → mid.script ≡ old.script → ComesAfter known names k old mid → AddsInput now k name mid new (Ok tt) → ComesAfter known names (k + 1) old new
  following_more k now name old mid new same here script is fed before stands =
      let p = is before stands in
      let q = fed p.0 p.1 in
      (q.0, q.2, go p.0 q.0 known p.2 (rw same at q.1))
    where
      go : (modules more : List Module) (f : Option Files) → IfSome f (λ m. (r : Result (List Module) LinkCommandFault) → AreInputs old.script m k modules (drop k names) r → AreInputs old.script m 0 before names r) → IfSome f (λ m. IsInput mid.script m k modules name (Ok more)) → IfSome f (λ m. (r : Result (List Module) LinkCommandFault) → AreInputs old.script m (k + 1) more (drop (k + 1) names) r → AreInputs old.script m 0 before names r)
      go modules more None h added = tt
      go modules more (Some m) h added = λ r next. h r (from_here old.script m k modules name (Ok more) r here (subst (λ (s : Script). IsInput s m k modules name (Ok more)) script added) next)

  pub refused_input : (k : ℕ) (now : Option Files) (name : List ℕ) (old mid new : LinkerView) (e : LinkCommandFault) → now ≡ known → drop k names ≡ name ∷ drop (k + 1) names → mid.script ≡ old.script → ComesAfter known names k old mid → AddsInput now k name mid new (Err e) → AddsInputs known names old new (Err e)
  refused_input k now name old mid new e same here script is fed before stands =
      let p = is before stands in
      go p.0 known (is_system_error e) p.2 (rw same at fed p.0 p.1)
    where
      go : (modules : List Module) (f : Option Files) (b : Bool) → IfSome f (λ m. (r : Result (List Module) LinkCommandFault) → AreInputs old.script m k modules (drop k names) r → AreInputs old.script m 0 before names r) → IfSome f (λ m. Unless b (IsInput mid.script m k modules name (Err e))) → IfSome f (λ m. Unless b (AreInputs old.script m 0 before names (Err e)))
      go modules None b h refused = tt
      go modules (Some m) true h refused = tt
      go modules (Some m) false h refused = h (Err e) (from_here old.script m k modules name (Err e) (Err e) here (subst (λ (s : Script). IsInput s m k modules name (Err e)) script refused) refl)

-- ---- From the inputs of a command line to the link.

-- the case of a rejected input
pub inputs_refused : (known : Option Files) (l : LinkView) (names : List (List ℕ)) (s : Script) (fresh fed : LinkerView) (e : LinkCommandFault) → names ≡ l.inputs → check_unique_names s (program_of []) ≡ Ok tt → fresh.script ≡ s → RepresentsModules fresh [] → AddsInputs known names fresh fed (Err e) → IfSome known (λ m. RefinesProp is_system_error (IsScriptedLink m l s) (Err e))
inputs_refused known l names s fresh fed e same once script stands feeds =
    let x = feeds [] stands in
    go known (is_system_error e) (rw (script, same) at x)
  where
    go : (k : Option Files) (b : Bool) → IfSome k (λ m. Unless b (AreInputs s m 0 [] l.inputs (Err e))) → IfSome k (λ m. Unless b (IsScriptedLink m l s (Err e)))
    go None b h = tt
    go (Some m) true h = tt
    go (Some m) false h = rw once (Err e, h, refl)

-- the case of accepted inputs
pub inputs_linked : (known : Option Files) (l : LinkView) (names : List (List ℕ)) (output : List ℕ) (s : Script) (fresh fed : LinkerView) (r : Result Linked LinkFault) → names ≡ l.inputs → output ≡ output_of l → check_unique_names s (program_of []) ≡ Ok tt → fresh.script ≡ s → fed.script ≡ s → fed.output ≡ output → RepresentsModules fresh [] → AddsInputs known names fresh fed (Ok tt) → LinksModules fed r → IfSome known (λ m. RefinesProp is_system_error (IsScriptedLink m l s) (as_command_fault r))
inputs_linked known l names output s fresh fed r same named once script kept kept_output stands feeds links =
    let p = feeds [] stands in
    let given = p.1 in
    let found = links p.0 p.2 in
    go p.0 known (rw (script, same) at given) (rw (kept, kept_output ∙ named) at found)
  where
    go : (modules : List Module) (k : Option Files) → IfSome k (λ m. AreInputs s m 0 [] l.inputs (Ok modules)) → RefinesProp is_memory (LinkOf (output_of l) s modules) r → IfSome k (λ m. RefinesProp is_system_error (IsScriptedLink m l s) (as_command_fault r))
    go modules None h is = tt
    go modules (Some m) h is = by r is
      where
        by : (r : Result Linked LinkFault) → RefinesProp is_memory (LinkOf (output_of l) s modules) r → RefinesProp is_system_error (IsScriptedLink m l s) (as_command_fault r)
        by (Ok x) is = rw once (Ok modules, h, (Ok x, is, refl))
        by (Err e) is = unless (is_memory e) is
          where
            unless : (b : Bool) → Unless b (LinkOf (output_of l) s modules (Err e)) → Unless (b || false) (IsScriptedLink m l s (Err (error.Link e)))
            unless true is = tt
            unless false is = rw once (Ok modules, h, (Err e, is, refl))
