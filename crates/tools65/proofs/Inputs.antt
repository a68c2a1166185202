-- Inputs that ca65 wrote from sources select objects of these sources.
use Rattle.std.proofs.Common.{◌≡◌, ◌∙◌, inl, inr, ℕ, zero, suc, ◌+◌, ◌-◌, ◌<◌, ◌≤◌, Bool, true, false, ◌&&◌, List, [], ◌∷◌, ◌++◌, length, take, drop, map, Option, Some, None, Ok, refl, sym, ap, subst, arith}
use Rattle.std.specs.FinMap.{get}
use Rattle.std.specs.List.{AllByRecursion}
use Rattle.std.specs.Option.{option_map_or}
use Rattle.std.specs.Str.{bytes_eq}
use Rattle.std.proofs.lemmas.List.{append-nil, length-drop, length-take, take_all}
use Rattle.std.proofs.lemmas.Slice.Eq.{bytes_eq-Decides}
use Rattle.base65.specs.Store.{Files}
use Rattle.object65.specs.declared.object.Export.{Export}
use Rattle.object65.specs.declared.object.Object.{Object}
use Rattle.object65.specs.Objects.{is_well_formed_object}
use Rattle.object65.specs.Reading.{file_limit, in_file, bytes_between, object_at}
use Rattle.object65.specs.Spelling.{IsObject, object_bytes}
use Rattle.object65.specs.Versions.{IsEitherVersion}
use Rattle.object65.proofs.Encodings.{no_prefix, object_is_read}
use Rattle.object65.proofs.Versions.{version_law}
use Rattle.library65.specs.declared.index.Entry.{Entry}
use Rattle.library65.specs.Libraries.{has_index_names, are_same, contents_from}
use Rattle.library65.specs.Reading.{index_at, in_file as in_library}
use Rattle.library65.specs.Spelling.{AreMembers as AreStored, IsLibrary, Member, index_bytes}
use Rattle.library65.proofs.IndexEncodings.{index_again}
use Rattle.script65.specs.declared.script.Script.{Script}
use Rattle.semantics65.specs.Contents.{Content}
use Rattle.semantics65.specs.Layout.{Layout}
use Rattle.semantics65.specs.Numbering.{object_with}
use Rattle.semantics65.specs.Symbols.{symbols_of}
use Rattle.semantics65.specs.Module as asm
use Rattle.semantics65.specs.Module.{LocatedFault}
use Rattle.sources65.specs.Reading.{Job, IsOutcome}
use Rattle.sources65.proofs.SoundContents.{sound_contents}
use Rattle.sources65.proofs.SoundSources.{sound_layout}
use Rattle.emit65.proofs.GoodObjects.{good_object}
use Rattle.link65.specs.Names.{strong_names, open_names}
use Rattle.link65.specs.Programs.{Module, program_of}
use Rattle.link65.specs.Representation.{module_of}
use Rattle.whole65.proofs.SameValues.{bind_ok}
use Rattle.ld65.specs.Linkage.{IfLibraryElse, selected_entries, entry_if_any, file_input, is_library, is_library_in, member_input, member_module, no_limit}
use Rattle.tools65.specs.Inputs.{SourcesSelectedLaw, WrittenInputLaw, WrittenMemberLaw, WrittenObjectLaw}
use Rattle.tools65.specs.OneProgram.{AreModulesOfInput, AreModulesOfEntries, AreObjectsOf, AreModulesOfInputs, AreModulesOfLibrary, IsModuleOf, IsObjectOf, Source}
use Rattle.tools65.specs.ObjectFiles.{IsOneOf, IsSourceInput, IsSourceObject, IsObjectFileOf}
use Rattle.tools65.proofs.SelectedModules.{ok_err, ok_same}
use Rattle.library65.proofs.SelectionExistence.{some_selection}

-- ---- The object of a source is well-formed.

answered : (y : Layout) (f : Option LocatedFault) (o : Object) → (asm.outcome_of y f).result ≡ Ok o → asm.object_of y ≡ Ok o
answered y None o h = h
answered y (Some e) o h = absurd (ok_err o e (sym h))

good_source : (m : Files) (job : Job) (a : asm.Outcome) (o : Object) → IsOutcome m job a → a.result ≡ Ok o → is_well_formed_object o ≡ true
good_source m job a o (r, laid, same) is =
    let y : Layout = r.state in
    let found : asm.object_of y ≡ Ok o = answered y r.fault o (sym (ap (λ (z : asm.Outcome). z.result) same) ∙ is) in
    let z = symbols_of y.laid in
    let (cs, there, made) = bind_ok (asm.module_resolution y.laid).found (λ (cs : List Content). Ok (object_with y.cursor.segments z.imports cs)) o found in
    let good = good_object y.cursor.segments z.imports cs (sound_contents y cs (sound_layout m job r laid) there) in
    subst (λ (k : Object). is_well_formed_object k ≡ true) (ok_same (object_with y.cursor.segments z.imports cs) o made) good

-- so is the same object in version 1
either_good : (o p : Object) → is_well_formed_object o ≡ true → IsEitherVersion o p → is_well_formed_object p ≡ true
either_good o p good (inl same) = subst (λ (k : Object). is_well_formed_object k ≡ true) (sym same) good
either_good o p good (inr same) = subst (λ (k : Object). is_well_formed_object k ≡ true) (sym same) ((version_law o).0 good)

pub written_object : WrittenObjectLaw
written_object x bytes w = record {
  well_formed = either_good w.assembled_object w.object (good_source x.files x.job w.outcome w.assembled_object w.assembled w.result) w.version;
  numbers = w.numbers;
  spelled = w.spelled;
}

some_bytes : (o : Object) → 0 < length (object_bytes o)
some_bytes o = omega arith

source_module : (x : Source) (bytes name : List ℕ) (w : IsObjectFileOf x bytes) → IsObjectOf x (module_of name w.object)
source_module x bytes name w = (w.outcome, w.assembled_object, w.assembled, w.result, w.version)

-- ---- A file.

whole_room : (bytes : List ℕ) → length bytes ≤ file_limit → bytes_between bytes 0 no_limit ≡ bytes
whole_room bytes short = take_all (no_limit - 0) bytes (omega arith)

file_read : (bytes : List ℕ) (o : Object) → length bytes ≤ file_limit → IsObject bytes o → object_at 0 no_limit bytes ≡ Ok o
file_read bytes o short is =
    let all : bytes_between bytes 0 no_limit ≡ bytes = whole_room bytes short in
    let fits : 0 + length (bytes_between bytes 0 no_limit) ≤ file_limit = omega (arith, short, ap (length {A = ℕ}) all) in
    object_is_read bytes 0 no_limit o fits (subst (λ (bs : List ℕ). IsObject bs o) (sym all) is)

no_library : (o : Object) → is_library (object_bytes o) ≡ false
no_library o = refl

kind_in : (m : Files) (name bytes : List ℕ) (b : Bool) → get m name ≡ Some bytes → is_library bytes ≡ b → is_library_in m name ≡ b
kind_in m name bytes b there is = ap (λ (f : Option (List ℕ)). option_map_or is_library f false) there ∙ is

pub written_input : WrittenInputLaw
written_input s m before name bytes x there w =
    let k : Module = module_of name w.object in
    let kind : is_library_in m name ≡ false = kind_in m name bytes false there (ap is_library w.spelled ∙ no_library w.object) in
    let read = ap (λ (f : Option (List ℕ)). in_file f (object_at 0 no_limit)) there ∙ file_read bytes w.object w.limit (written_object x bytes w) in
    let is : IsModuleOf m (file_input name) k = (w.object, read, refl, refl) in
    let own : (y : Module) × IsModuleOf m (file_input name) y × (k ∷ [] ≡ y ∷ []) = (k, is, refl) in
    (k, source_module x bytes name w, subst (λ (b : Bool). IfLibraryElse b (AreModulesOfLibrary s m before name (k ∷ [])) ((y : Module) × IsModuleOf m (file_input name) y × (k ∷ [] ≡ y ∷ []))) (sym kind) own)

-- ---- A member.

and : (a b : Bool) → a ≡ true → b ≡ true → (a && b) ≡ true
and true b e f = f
and false b e f = cc

same_names : (names : List (List ℕ)) → are_same names names ≡ true
same_names [] = refl
same_names (n ∷ ns) = and (bytes_eq n n) (are_same ns ns) ((bytes_eq-Decides n n).1 refl) (same_names ns)

abbrev exported : Object → List (List ℕ)
exported o = map (λ (x : Export). x.name) o.exports

agreeing : (e : Entry) (o : Object) → e.exports ≡ exported o → e.imports ≡ o.imports → has_index_names e (contents_from o) ≡ true
agreeing e o exports imports =
    and (are_same e.exports (exported o)) (are_same e.imports o.imports)
    (ap (λ (ns : List (List ℕ)). are_same ns (exported o)) exports ∙ same_names (exported o))
    (ap (λ (ns : List (List ℕ)). are_same ns o.imports) imports ∙ same_names o.imports)

member_room : (bytes : List ℕ) (at size : ℕ) → bytes_between bytes at (at + size) ≡ take size (drop at bytes)
member_room bytes at size = let n : at + size - at ≡ size = omega arith in ap (λ k. take k (drop at bytes)) n

piece_within : (bytes : List ℕ) (at size : ℕ) → 0 < length (take size (drop at bytes)) → at + length (take size (drop at bytes)) ≤ length bytes
piece_within bytes at size some = omega (arith, some, length-take size (drop at bytes), length-drop at bytes)

member_read : (bytes piece : List ℕ) (at size : ℕ) (o : Object) → length bytes ≤ file_limit → piece ≡ take size (drop at bytes) → IsObject piece o → object_at at (at + size) bytes ≡ Ok o
member_read bytes piece at size o short same is =
    let all : piece ≡ bytes_between bytes at (at + size) = same ∙ sym (member_room bytes at size) in
    let some : 0 < length (take size (drop at bytes)) = subst (λ (bs : List ℕ). 0 < length bs) (sym is.spelled ∙ same) (some_bytes o) in
    let within = piece_within bytes at size some in
    let fits : at + length (bytes_between bytes at (at + size)) ≤ file_limit = omega (arith, within, short, ap (length {A = ℕ}) (member_room bytes at size)) in
    object_is_read bytes at (at + size) o fits (subst (λ (bs : List ℕ). IsObject bs o) all is)

pub written_member : WrittenMemberLaw
written_member m library bytes e p x there short is w =
    let o : Object = w.object in
    let spelled : IsObject p.1 o = written_object x p.1 w in
    let again : IsObject (p.1 ++ []) o = subst (λ (bs : List ℕ). IsObject bs o) (sym (append-nil p.1)) spelled in
    let same : is.object ≡ o = (no_prefix p.1 [] is.object o is.is_object again).1 in
    let read = ap (λ (f : Option (List ℕ)). in_file f (object_at e.place (e.place + e.size))) there ∙ member_read bytes p.1 e.place e.size o short is.bytes spelled in
    let exports : e.exports ≡ exported o = is.exports ∙ ap exported same in
    let imports : e.imports ≡ o.imports = is.imports ∙ ap (λ (z : Object). z.imports) same in (
      module_of (member_module library e.name) o,
      source_module x p.1 (member_module library e.name) w,
      (o, read, agreeing e o exports imports, refl),
    )

-- ---- A library.

append_all : {X : Type 0} (P : X → Type 0) (xs ys : List X) → AllByRecursion P xs → AllByRecursion P ys → AllByRecursion P (xs ++ ys)
append_all P [] ys f g = g
append_all P (x ∷ xs) ys f g = (f.0, append_all P xs ys f.1 g)

one_chosen : (P : Entry → Type 0) (es : List Entry) (index : ℕ) → AllByRecursion P es → AllByRecursion P (entry_if_any es index)
one_chosen P [] index all = tt
one_chosen P (e ∷ es) zero all = (all.0, tt)
one_chosen P (e ∷ es) (suc index) all = one_chosen P es index all.1

all_chosen : (P : Entry → Type 0) (es : List Entry) (indices : List ℕ) → AllByRecursion P es → AllByRecursion P (selected_entries es indices)
all_chosen P es [] all = tt
all_chosen P es (index ∷ indices) all = append_all P (entry_if_any es index) (selected_entries es indices) (one_chosen P es index all) (all_chosen P es indices all)

objects_append : (xs ys : List Source) (ms ns : List Module) → AreObjectsOf xs ms → AreObjectsOf ys ns → AreObjectsOf (xs ++ ys) (ms ++ ns)
objects_append [] ys [] ns f g = g
objects_append [] ys (m ∷ ms) ns f g = absurd f
objects_append (x ∷ xs) ys [] ns f g = absurd f
objects_append (x ∷ xs) ys (m ∷ ms) ns f g = (f.0, objects_append xs ys ms ns f.1 g)

mark_bytes : (es : List Entry) (members : List ℕ) → is_library (index_bytes es ++ members) ≡ true
mark_bytes es members = refl

module _ (sources : List Source) (m : Files) where
  -- modules that satisfy `Are`, and the sources of which they are the objects
  record Given (Are : List Module → Type 0) : Type 0 where
    modules : List Module
    are : Are modules
    xs : List Source
    given : AllByRecursion (IsOneOf sources) xs
    objects : AreObjectsOf xs modules

  abbrev HasSource : List ℕ → Entry → Type 0
  HasSource library e = (x : Source) × IsOneOf sources x × (k : Module) × IsObjectOf x k × IsModuleOf m (member_input library e) k

  all_stored : (library bytes : List ℕ) (es : List Entry) (ps : List Member) → get m library ≡ Some bytes → length bytes ≤ file_limit → AreStored bytes es ps → AllByRecursion (λ p. IsSourceObject sources p.1) ps → AllByRecursion (HasSource library) es
  all_stored library bytes [] [] there short are all = tt
  all_stored library bytes [] (p ∷ ps) there short are all = absurd are
  all_stored library bytes (e ∷ es) [] there short are all = absurd are
  all_stored library bytes (e ∷ es) (p ∷ ps) there short are all =
      let (x, one, w) = all.0 in
      let (k, object, is) = written_member m library bytes e p x there short are.0 w in
      ((x, one, k, object, is), all_stored library bytes es ps there short are.1 all.1)

  members_given : (library : List ℕ) (es : List Entry) → AllByRecursion (HasSource library) es → Given (AreModulesOfEntries m library es)
  members_given library [] all = record { modules = []; are = tt; xs = []; given = tt; objects = tt }
  members_given library (e ∷ es) all =
      let (x, one, k, object, is) = all.0 in
      let rest = members_given library es all.1 in
      record { modules = k ∷ rest.modules; are = (is, rest.are); xs = x ∷ rest.xs; given = (one, rest.given); objects = (object, rest.objects) }

  module _ (s : Script) where
    library_given : (before : List Module) (library bytes : List ℕ) (ps : List Member) → get m library ≡ Some bytes → IsLibrary bytes ps → AllByRecursion (λ p. IsSourceObject sources p.1) ps → Given (AreModulesOfInput s m before library)
    library_given before library bytes ps there is all =
        let es : List Entry = is.index in
        let wanted : List (List ℕ) = open_names s (program_of before) in
        let defined : List (List ℕ) = strong_names s (program_of before) in
        let kind : is_library_in m library ≡ true = kind_in m library bytes true there (ap is_library is.is_index.spelled ∙ mark_bytes es is.is_index.members) in
        let index = ap (λ (f : Option (List ℕ)). in_library f index_at) there ∙ index_again bytes es is.is_index in
        let selected = some_selection es wanted defined in
        let stored = all_stored library bytes es ps there is.is_index.limit is.members all in
        let own = members_given library (selected_entries es selected.0) (all_chosen (HasSource library) es selected.0 stored) in
        let taken : AreModulesOfLibrary s m before library own.modules = (es, selected.0, index, selected.1, own.are) in
        record {
          modules = own.modules;
          are = subst (λ (b : Bool). IfLibraryElse b (AreModulesOfLibrary s m before library own.modules) ((y : Module) × IsModuleOf m (file_input library) y × (own.modules ≡ y ∷ []))) (sym kind) taken;
          xs = own.xs;
          given = own.given;
          objects = own.objects;
        }

    input_given : (before : List Module) (name : List ℕ) → IsSourceInput sources m name → Given (AreModulesOfInput s m before name)
    input_given before name (bytes, there, inl (x, one, w)) =
        let (k, object, is) = written_input s m before name bytes x there w in
        record { modules = k ∷ []; are = is; xs = x ∷ []; given = (one, tt); objects = (object, tt) }
    input_given before name (bytes, there, inr (ps, is, all)) = library_given before name bytes ps there is all

    inputs_given : (before : List Module) (names : List (List ℕ)) → AllByRecursion (IsSourceInput sources m) names → Given (AreModulesOfInputs s m before names)
    inputs_given before [] all = record { modules = []; are = refl; xs = []; given = tt; objects = tt }
    inputs_given before (name ∷ names) all =
        let own = input_given before name all.0 in
        let rest = inputs_given (before ++ own.modules) names all.1 in
        record {
          modules = own.modules ++ rest.modules;
          are = (own.modules, rest.modules, own.are, rest.are, refl);
          xs = own.xs ++ rest.xs;
          given = append_all (IsOneOf sources) own.xs rest.xs own.given rest.given;
          objects = objects_append own.xs rest.xs own.modules rest.modules own.objects rest.objects;
        }

pub sources_selected : SourcesSelectedLaw
sources_selected sources l m text s file script all =
    let found = inputs_given sources m s [] l.inputs all in (
      found.xs,
      found.given,
      record { text = text; file = file; script = script; modules = found.modules; selected = found.are; objects = found.objects },
    )
