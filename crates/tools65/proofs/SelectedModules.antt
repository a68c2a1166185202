-- The modules that a command line selects are those that the linker adds.
use Rattle.std.proofs.Common.{◌≡◌, ◌∙◌, ℕ, suc, ◌+◌, List, [], ◌∷◌, ◌++◌, map, Bool, true, false, cond, Some, None, Result, Ok, Err, append-nil, append_assoc, refl, sym, ap, subst}
use Rattle.std.proofs.lemmas.List.{map-append}
use Rattle.base65.specs.Outcome.{◌>>=◌, AndThen}
use Rattle.base65.specs.Store.{Files}
use Rattle.object65.specs.declared.fault.ObjectFault.{ObjectFault}
use Rattle.object65.specs.declared.object.Object.{Object}
use Rattle.library65.proofs.Selections.{one_selection}
use Rattle.library65.specs.Selection.{IsSelection}
use Rattle.library65.specs.declared.index.Entry.{Entry}
use Rattle.library65.specs.declared.fault.LibraryFault.{LibraryFault}
use Rattle.script65.specs.declared.script.Script.{Script}
use Rattle.link65.specs.Names.{first_duplicate, strong_names, is_among, open_names, script_names}
use Rattle.link65.specs.Links.{check_unique_names}
use Rattle.link65.specs.Programs.{Module, linked_export, program_of}
use Rattle.link65.specs.declared.fault.LinkFault.{LinkFault}
use Rattle.link65.specs.declared.fault.LinkFault.TheVariants.{IndexDisagrees, Malformed}
use Rattle.link65.specs.declared.parts.ModuleExport.{ModuleExport}
use Rattle.link65.specs.Representation.{agreeing_object, agrees_with, as_link, module_without_duplicates as joined_to, module_of}
use Rattle.whole65.proofs.Links.{none_again}
use Rattle.whole65.proofs.Providers.{exports_are, linked_exports}
use Rattle.whole65.proofs.SameValues.{bind_ok}
use Rattle.ld65.specs.declared.fault.LinkCommandFault.{LinkCommandFault}
use Rattle.ld65.specs.declared.fault.LinkCommandFault.TheVariants as refusal
use Rattle.ld65.specs.Linkage.{AreInputs, AreNeeded, IfLibraryElse, Input, IsLibraryInput, added_object, as_library, modules_after, selected_entries, file_input, index_in, is_library_in, member_input, member_module, object_in, with_file, with_member, with_members}
use Rattle.ld65.specs.Faults.{input_fault, member_fault}
use Rattle.tools65.specs.OneProgram.{AreModulesOfEntries, AreModulesOfInputs, AreModulesOfLibrary, IsModuleOf}

-- ---- Results and errors.

pub ok_same : {A E : Type 0} (x y : A) → ◌≡◌ {A = Result A E} (Ok x) (Ok y) → x ≡ y
ok_same x y e = cc

pub ok_err : {A E : Type 0} (x : A) (e : E) → ◌≡◌ {A = Result A E} (Ok x) (Err e) → ⊥
ok_err x e h = cc

-- ---- Names of the first modules.

front_once : (before xs zs : List (List ℕ)) → first_duplicate before (xs ++ zs) ≡ None → first_duplicate before xs ≡ None
front_once before [] zs e = refl
front_once before (x ∷ xs) zs e = go (is_among before x) (front_once (before ++ x ∷ []) xs zs) e
  where
    go : (b : Bool) → (first_duplicate (before ++ x ∷ []) (xs ++ zs) ≡ None → first_duplicate (before ++ x ∷ []) xs ≡ None) → cond b (Some x) (first_duplicate (before ++ x ∷ []) (xs ++ zs)) ≡ None → cond b (Some x) (first_duplicate (before ++ x ∷ []) xs) ≡ None
    go true rest e = e
    go false rest e = rest e

exports_front : (owner : ℕ) (a b : List Module) → (zs : List ModuleExport) × (linked_exports owner (a ++ b) ≡ linked_exports owner a ++ zs)
exports_front owner [] b = (linked_exports owner b, refl)
exports_front owner (m ∷ a) b =
    let more = exports_front (suc owner) a b in
    (more.0, ap (λ z. map (linked_export owner) m.object.exports ++ z) more.1 ∙ sym (append_assoc (map (linked_export owner) m.object.exports) (linked_exports (suc owner) a) more.0))

-- if the modules `a ++ b` define no name twice, neither do the modules `a`
pub names_front : (s : Script) (a b : List Module) → check_unique_names s (program_of (a ++ b)) ≡ Ok tt → check_unique_names s (program_of a) ≡ Ok tt
names_front s a b e =
    let front = exports_front 0 a b in
    let named : List ModuleExport → List (List ℕ) = λ es. script_names s ++ map (λ (x : ModuleExport). x.name) es in
    let split : named (linked_exports 0 a ++ front.0) ≡ named (linked_exports 0 a) ++ map (λ (x : ModuleExport). x.name) front.0 =
    ap (λ z. script_names s ++ z) (map-append (λ (x : ModuleExport). x.name) (linked_exports 0 a) front.0)
    ∙ sym (append_assoc (script_names s) (map (λ (x : ModuleExport). x.name) (linked_exports 0 a)) (map (λ (x : ModuleExport). x.name) front.0)) in
    let all : first_duplicate [] (named (program_of (a ++ b)).exports) ≡ None = (none_again (first_duplicate [] (strong_names s (program_of (a ++ b))))).0 e in
    let same : named (program_of (a ++ b)).exports ≡ named (linked_exports 0 a) ++ map (λ (x : ModuleExport). x.name) front.0 =
    ap named (exports_are (a ++ b) ∙ front.1) ∙ split in
    let first : first_duplicate [] (named (linked_exports 0 a)) ≡ None =
    front_once [] (named (linked_exports 0 a)) (map (λ (x : ModuleExport). x.name) front.0) (subst (λ names. first_duplicate [] names ≡ None) same all) in
    (none_again (first_duplicate [] (strong_names s (program_of a)))).1 (subst (λ es. first_duplicate [] (named es) ≡ None) (sym (exports_are a)) first)

-- ---- One object.

linked_object : (q : Result Object ObjectFault) (o : Object) → as_link q ≡ Ok o → q ≡ Ok o
linked_object (Ok x) o e = ap (λ z. Ok z) (ok_same x o e)
linked_object (Err f) o e = absurd (ok_err o (Malformed f) (sym e))

agreeing : (b : Bool) (x o : Object) (e : LinkFault) → cond b (Ok x) (Err e) ≡ Ok o → (b ≡ true) × (x ≡ o)
agreeing true x o e h = (refl, ok_same x o h)
agreeing false x o e h = absurd (ok_err o e (sym h))

chain : (q : Result Object ObjectFault) (f g : Object → Result Object LinkFault) (o : Object) → q ≡ Ok o → f o ≡ Ok o → g o ≡ Ok o → (as_link q >>= f >>= g) ≡ Ok o
chain q f g o a b c = rw (a, b) c

abbrev either : Bool → Object → Result Object LinkFault
either b o = cond b (Ok o) (Err IndexDisagrees)

abbrev after_names : Result (Unit {0}) LinkFault → Object → Result Object LinkFault
after_names q o = q >>= (λ u. Ok o)

abbrev modules : List Module → Result (List Module) LinkCommandFault
modules ms = Ok ms

module _ (s : Script) (m : Files) where
  -- an object that is added is the object of a module of the input
  added_module : (before : List Module) (i : Input) (o : Object) → added_object s before m i ≡ Ok o → IsModuleOf m i (module_of i.name o)
  added_module before i o e =
      let (x, front, joined) = bind_ok (as_link (object_in m i) >>= agreeing_object i.entry) (joined_to s before i.name) o e in
      let (y, found, agreed_to) = bind_ok (as_link (object_in m i)) (agreeing_object i.entry) x front in
      let (u, once, same) = bind_ok (check_unique_names s (program_of (before ++ module_of i.name x ∷ []))) (λ u. Ok x) o joined in
      let both = agreeing (agrees_with i.entry y) y x _ agreed_to in
      let equal : y ≡ o = both.1 ∙ ok_same x o same in
      (o, subst (λ z. object_in m i ≡ Ok z) equal (linked_object (object_in m i) y found), subst (λ z. agrees_with i.entry z ≡ true) equal both.0, refl)

  -- the module of an input is added if no name is defined twice
  module_added : (before : List Module) (i : Input) (x : Module) → IsModuleOf m i x → check_unique_names s (program_of (before ++ x ∷ [])) ≡ Ok tt → (named : LinkFault → LinkCommandFault) → modules_after named before i.name (added_object s before m i) ≡ Ok (before ++ x ∷ [])
  module_added before i x (o, found, agrees, same) once named =
      let agreed_to : agreeing_object i.entry o ≡ Ok o = ap (λ (b : Bool). either b o) agrees in
      let there : check_unique_names s (program_of (before ++ module_of i.name o ∷ [])) ≡ Ok tt = subst (λ z. check_unique_names s (program_of (before ++ z ∷ [])) ≡ Ok tt) same once in
      let joined : joined_to s before i.name o ≡ Ok o = ap (λ (q : Result (Unit {0}) LinkFault). after_names q o) there in
      ap (modules_after named before i.name) (chain (object_in m i) (agreeing_object i.entry) (joined_to s before i.name) o found agreed_to joined)
      ∙ ap (λ (z : Module). modules (before ++ z ∷ [])) (sym same)

  after_ok : (named : LinkFault → LinkCommandFault) (before after : List Module) (name : List ℕ) (q : Result Object LinkFault) → modules_after named before name q ≡ Ok after → (o : Object) × (q ≡ Ok o) × (after ≡ before ++ module_of name o ∷ [])
  after_ok named before after name (Ok o) e = (o, refl, sym (ok_same (before ++ module_of name o ∷ []) after e))
  after_ok named before after name (Err f) e = absurd (ok_err after (named f) (sym e))

  -- ---- Members of a library.

  members_added : (library : List ℕ) (before : List Module) (es : List Entry) (ms : List Module) → AreModulesOfEntries m library es ms → check_unique_names s (program_of (before ++ ms)) ≡ Ok tt → with_members s m library before es ≡ Ok (before ++ ms)
  members_added library before [] [] h once = ap modules (sym (append-nil before))
  members_added library before [] (x ∷ ms) h once = absurd h
  members_added library before (e ∷ es) [] h once = absurd h
  members_added library before (e ∷ es) (x ∷ ms) h once =
      let assoc : (before ++ x ∷ []) ++ ms ≡ before ++ x ∷ ms = append_assoc before (x ∷ []) ms in
      let all : check_unique_names s (program_of ((before ++ x ∷ []) ++ ms)) ≡ Ok tt = subst (λ z. check_unique_names s (program_of z) ≡ Ok tt) (sym assoc) once in
      let first : with_member s m library before e ≡ Ok (before ++ x ∷ []) =
      module_added before (member_input library e) x h.0 (names_front s (before ++ x ∷ []) ms all) (member_fault (member_module library e.name)) in
      ap (λ q. q >>= (λ zs. with_members s m library zs es)) first
      ∙ members_added library (before ++ x ∷ []) es ms h.1 all
      ∙ ap modules assoc

  members_there : (library : List ℕ) (before : List Module) (es : List Entry) (after : List Module) → with_members s m library before es ≡ Ok after → (ms : List Module) × AreModulesOfEntries m library es ms × (after ≡ before ++ ms)
  members_there library before [] after e = ([], tt, sym (ok_same before after e) ∙ sym (append-nil before))
  members_there library before (e ∷ es) after h =
      let (zs, first, rest) = bind_ok (with_member s m library before e) (λ zs. with_members s m library zs es) after h in
      let (o, added, same) = after_ok (member_fault (member_module library e.name)) before zs (member_module library e.name) (added_object s before m (member_input library e)) first in
      let x : Module = module_of (member_module library e.name) o in
      let more = members_there library zs es after rest in
      (x ∷ more.0, (added_module before (member_input library e) o added, more.1), more.2 ∙ ap (λ z. z ++ more.0) same ∙ append_assoc before (x ∷ []) more.0)

  -- ---- Inputs.

  index_there : (k : ℕ) (q : Result (List Entry) LibraryFault) (before after : List Module) (Next : List Entry → Result (List Module) LinkCommandFault → Type 0) → AndThen (as_library k q) Next (Ok after) → (es : List Entry) × (q ≡ Ok es) × Next es (Ok after)
  index_there k (Ok es) before after Next h = (es, refl, h)
  index_there k (Err e) before after Next h = absurd (ok_err after (refusal.Library k e) h)

  kind_there : (b : Bool) (k : ℕ) (before after : List Module) (name : List ℕ) → IfLibraryElse b (IsLibraryInput s m k before name (Ok after)) (◌≡◌ {A = Result (List Module) LinkCommandFault} (Ok after) (with_file s m k before name)) → (ms : List Module) × IfLibraryElse b (AreModulesOfLibrary s m before name ms) ((x : Module) × IsModuleOf m (file_input name) x × (ms ≡ x ∷ [])) × (after ≡ before ++ ms)
  kind_there true k before after name h =
      let (es, index, needed) = index_there k (index_in m name) before after (AreNeeded s m name before) h in
      let more = members_there name before (selected_entries es needed.0) after (sym needed.2) in
      (more.0, (es, needed.0, index, needed.1, more.1), more.2)
  kind_there false k before after name h =
      let (o, added, same) = after_ok (input_fault k) before after name (added_object s before m (file_input name)) (sym h) in
      (module_of name o ∷ [], (module_of name o, added_module before (file_input name) o added, refl), same)

  kind_added : (b : Bool) (k : ℕ) (before ms : List Module) (name : List ℕ) → IfLibraryElse b (AreModulesOfLibrary s m before name ms) ((x : Module) × IsModuleOf m (file_input name) x × (ms ≡ x ∷ [])) → check_unique_names s (program_of (before ++ ms)) ≡ Ok tt → IfLibraryElse b (IsLibraryInput s m k before name (Ok (before ++ ms))) (◌≡◌ {A = Result (List Module) LinkCommandFault} (Ok (before ++ ms)) (with_file s m k before name))
  kind_added true k before ms name (es, indices, index, selection, members) once =
      let needed : AreNeeded s m name before es (Ok (before ++ ms)) = (indices, selection, sym (members_added name before (selected_entries es indices) ms members once)) in
      subst (λ q. AndThen (as_library k q) (AreNeeded s m name before) (Ok (before ++ ms))) (sym index) needed
  kind_added false k before ms name (x, of, same) once =
      let there : check_unique_names s (program_of (before ++ x ∷ [])) ≡ Ok tt = subst (λ z. check_unique_names s (program_of (before ++ z)) ≡ Ok tt) same once in
      ap (λ z. modules (before ++ z)) same ∙ sym (module_added before (file_input name) x of there (input_fault k))

  -- the modules that the linker adds are those that the command line selects
  pub inputs_selected : (k : ℕ) (before : List Module) (names : List (List ℕ)) (after : List Module) → AreInputs s m k before names (Ok after) → (ms : List Module) × AreModulesOfInputs s m before names ms × (after ≡ before ++ ms)
  inputs_selected k before [] after h = ([], refl, ok_same after before h ∙ sym (append-nil before))
  inputs_selected k before (name ∷ names) after (Err e, is, next) = absurd (ok_err after e next)
  inputs_selected k before (name ∷ names) after (Ok zs, is, next) =
      let own = kind_there (is_library_in m name) k before zs name is in
      let more = inputs_selected (k + 1) zs names after next in
      let there : AreModulesOfInputs s m (before ++ own.0) names more.0 = subst (λ z. AreModulesOfInputs s m z names more.0) own.2 more.1 in
      (own.0 ++ more.0, (own.0, more.0, own.1, there, refl), more.2 ∙ ap (λ z. z ++ more.0) own.2 ∙ append_assoc before own.0 more.0)

  -- if no name is defined twice, the linker adds the modules that the command line selects
  pub selected_inputs : (k : ℕ) (before : List Module) (names : List (List ℕ)) (ms : List Module) → AreModulesOfInputs s m before names ms → check_unique_names s (program_of (before ++ ms)) ≡ Ok tt → AreInputs s m k before names (Ok (before ++ ms))
  selected_inputs k before [] ms h once = ap modules (ap (λ z. before ++ z) h ∙ append-nil before)
  selected_inputs k before (name ∷ names) ms (own, rest, of, more, same) once =
      let assoc : before ++ ms ≡ (before ++ own) ++ rest = ap (λ z. before ++ z) same ∙ sym (append_assoc before own rest) in
      let all : check_unique_names s (program_of ((before ++ own) ++ rest)) ≡ Ok tt = subst (λ z. check_unique_names s (program_of z) ≡ Ok tt) assoc once in
      let next : AreInputs s m (k + 1) (before ++ own) names (Ok ((before ++ own) ++ rest)) = selected_inputs (k + 1) (before ++ own) names rest more all in
      (Ok (before ++ own), kind_added (is_library_in m name) k before own name of (names_front s (before ++ own) rest all), subst (λ z. AreInputs s m (k + 1) (before ++ own) names (Ok z)) (sym assoc) next)

  -- ---- The selected modules are unique.

  module_once : (i : Input) (x y : Module) → IsModuleOf m i x → IsModuleOf m i y → x ≡ y
  module_once i x y (o, found, agrees, same) (p, there, other, equal) =
      let objects : o ≡ p = ok_same o p (sym found ∙ there) in
      same ∙ ap (module_of i.name) objects ∙ sym equal

  members_once : (library : List ℕ) (es : List Entry) (xs ys : List Module) → AreModulesOfEntries m library es xs → AreModulesOfEntries m library es ys → xs ≡ ys
  members_once library [] [] [] h k = refl
  members_once library [] (x ∷ xs) ys h k = absurd h
  members_once library [] [] (y ∷ ys) h k = absurd k
  members_once library (e ∷ es) [] ys h k = absurd h
  members_once library (e ∷ es) (x ∷ xs) [] h k = absurd k
  members_once library (e ∷ es) (x ∷ xs) (y ∷ ys) h k =
      ap (λ z. z ∷ xs) (module_once (member_input library e) x y h.0 k.0) ∙ ap (λ z. y ∷ z) (members_once library es xs ys h.1 k.1)

  taken_once : (before : List Module) (library : List ℕ) (xs ys : List Module) → AreModulesOfLibrary s m before library xs → AreModulesOfLibrary s m before library ys → xs ≡ ys
  taken_once before library xs ys (es, indices, index, selection, members) (fs, others, there, other, further) =
      let same : fs ≡ es = ok_same fs es (sym there ∙ index) in
      let selected : IsSelection es (open_names s (program_of before)) (strong_names s (program_of before)) others = subst (λ z. IsSelection z (open_names s (program_of before)) (strong_names s (program_of before)) others) same other in
      let equal : others ≡ indices = one_selection es (open_names s (program_of before)) (strong_names s (program_of before)) others indices selected selection in
      let moved : AreModulesOfEntries m library (selected_entries es indices) ys = subst (λ z. AreModulesOfEntries m library (selected_entries es z) ys) equal (subst (λ z. AreModulesOfEntries m library (selected_entries z others) ys) same further) in
      members_once library (selected_entries es indices) xs ys members moved

  input_of_once : (b : Bool) (before : List Module) (name : List ℕ) (xs ys : List Module) → IfLibraryElse b (AreModulesOfLibrary s m before name xs) ((x : Module) × IsModuleOf m (file_input name) x × (xs ≡ x ∷ [])) → IfLibraryElse b (AreModulesOfLibrary s m before name ys) ((x : Module) × IsModuleOf m (file_input name) x × (ys ≡ x ∷ [])) → xs ≡ ys
  input_of_once true before name xs ys h k = taken_once before name xs ys h k
  input_of_once false before name xs ys h k = h.2 ∙ ap (λ (z : Module). z ∷ []) (module_once (file_input name) h.0 k.0 h.1 k.1) ∙ sym k.2

  pub selected_once : (before : List Module) (names : List (List ℕ)) (xs ys : List Module) → AreModulesOfInputs s m before names xs → AreModulesOfInputs s m before names ys → xs ≡ ys
  selected_once before [] xs ys h k = h ∙ sym k
  selected_once before (name ∷ names) xs ys (own, rest, of, more, same) (other, further, be, next, equal) =
      let first : other ≡ own = input_of_once (is_library_in m name) before name other own be of in
      let there : AreModulesOfInputs s m (before ++ own) names further = subst (λ z. AreModulesOfInputs s m (before ++ z) names further) first next in
      let others : further ≡ rest = selected_once (before ++ own) names further rest there more in
      same ∙ sym (equal ∙ ap (λ z. z ++ further) first ∙ ap (λ z. own ++ z) others)
