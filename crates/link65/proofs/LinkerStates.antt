-- The states of a linker after its calls, and the modules that they represent.
use Rattle.std.proofs.lemmas.Grind.{common_steps}
use Rattle.std.proofs.Common.{arith, ◌≡◌, ◌∙◌, List, length, map, inl, Option, sym, ap, ◌<◌, ℕ, false, ◌∷◌, drop, get_or, [], ◌++◌, Some, None, Bool, true, Result, Ok, Err, if◌then◌else◌, refl, subst}
use Rattle.std.proofs.Math.Seq.{drop-append_seam}
use Rattle.link65.specs.Names.{strong_names, first_duplicate}
use Rattle.link65.specs.Growing.{PartialProgram, without_open_module, closed_program, program_with_item}
use Rattle.link65.specs.Programs.{Module, program_of, Program, with_module, with_modules}
use Rattle.link65.specs.Internal.Fields.{RepresentsOpenModule, are_listed, exports_from, matching_object}
use Rattle.link65.specs.Representation.{LinkerView, HasClosedModules, OpenModuleView, RepresentsModules, RepresentsWithOpenModule, RefinesThen, agreeing_object, agrees_with, as_link, module_without_duplicates, indexed_names, module_of, closed_module, names_or_duplicate}
use Rattle.link65.proofs.DefinedNameLemmas.{given_all, map_after, module_gives, once_after}
use Rattle.std.specs.Str.{bytes_eq}
use Rattle.library65.specs.Libraries.{are_same}
use Rattle.link65.specs.declared.parts.ModuleExport.{ModuleExport}
use Rattle.std.specs.Option.{option_map}
use Rattle.library65.specs.declared.index.Entry.{Entry as IndexEntry}
use Rattle.object65.specs.declared.fault.ObjectFault.{ObjectFault}
use Rattle.object65.specs.declared.record.Item.{Item}
use Rattle.object65.specs.declared.object.Object.{Object}
use Rattle.object65.specs.declared.fault.ObjectFault.TheVariants as object
use Rattle.base65.specs.Outcome.{◌>>=◌, RefinesProp, RefinesErr, Unless}
use Rattle.link65.specs.declared.linking.Linked.{Linked}
use Rattle.link65.specs.Links.{IsProgramLink, LinkOf, none_duplicate}
use Rattle.script65.specs.declared.script.Script.{Script}
use Rattle.std.specs.Prelude.{IfErr, OnOk}
use Rattle.object65.specs.Items.{with_item}
use Rattle.object65.specs.Record.{RawRecord}
use Rattle.object65.specs.Scanning.{IsWithinLimits, Outline, scan_step}
use Rattle.object65.specs.Scanning
use Rattle.object65.proofs.ItemLimits.{reached_next, reached_parts, led}
use Rattle.link65.specs.declared.fault.LinkFault.{LinkFault}
use Rattle.link65.specs.declared.fault.LinkFault.TheVariants as fault
use Rattle.link65.specs.Faults.{is_memory}
use Rattle.link65.proofs.GrowingLaw.{growth_law}
use Rattle.link65.specs.declared.module_reader.IndexedNames.{IndexedNames}

-- ---- The modules that have ended, whether or not another one is open.

-- the members of the program of these modules
pub their_members : (f : LinkerView) (modules : List Module) → HasClosedModules f modules → (program_of modules).members ≡ f.partial.program.members
their_members f modules x = grind (arith, common_steps)

-- the names that the script and these modules define
pub their_names : (f : LinkerView) (modules : List Module) → HasClosedModules f modules → f.provided ≡ strong_names f.script (program_of modules)
their_names f modules x = grind (arith, common_steps, given_all)

-- ---- The names of exports, compared with those listed.

-- if a name and an export's name at the same index differ, so do the lists
pub differ : (names : List (List ℕ)) (exports : List ModuleExport) (i : ℕ) (x : List ℕ) (y : ModuleExport) → i < length names → i < length exports → x ≡ get_or names i x → y ≡ get_or exports i y → bytes_eq x y.name ≡ false → are_same (drop i names) (map (λ e. e.name) (drop i exports)) ≡ false
differ names exports i x y lt lt2 at at2 e = grind (arith, common_steps)

-- ---- A state that is reached hasn't failed.

pub reached_runs : (s : Scanning.State) → Scanning.IsReached s → s.failed ≡ false
reached_runs s r = (reached_parts s r).failed

-- ---- Modules.

with_last : (p : Program) (ms : List Module) (m : Module) → with_modules p (ms ++ m ∷ []) ≡ with_module (with_modules p ms) m
with_last p [] m = refl
with_last p (x ∷ ms) m = with_last (with_module p x) ms m

-- the program of modules with one further module at the end
pub one_more : (ms : List Module) (m : Module) → program_of (ms ++ m ∷ []) ≡ with_module (program_of ms) m
one_more ms m = with_last _ ms m

-- ---- Calls.

out_of_memory : {A : Type 0} (f : LinkFault) (read : Result A LinkFault) → is_memory f ≡ true → RefinesErr is_memory f read
out_of_memory f read m = subst (λ b. Unless b (read ≡ Err f)) (sym m) tt

-- adding the item of a record to the program represents the state after the record
pub took : (p : Program) (s : Scanning.State) (e : RawRecord) (old new : PartialProgram) (o n : Outline) (i : Item) → RepresentsOpenModule p s old o → scan_step o e ≡ Ok (n, i) → new ≡ program_with_item old i → (t : Scanning.State) × (as_link (Scanning.state_after_record s e) ≡ Ok t) × RepresentsOpenModule p t new n
took p s e old new o n i h scan grown =
    let t = with_item s i in
    let l = led s o e (n, i) h.scan scan in
    let law = growth_law.0 p s e (n, i) h.reached (ap (λ q. scan_step q e) (sym h.scan) ∙ scan) in (
      t,
      ap as_link l.0,
      record {
        partial = grown ∙ ap (λ g. program_with_item g i) h.partial ∙ sym law;
        scan = l.1;
        reached = reached_next s t e h.reached l.0;
      },
    )

finishes : (s : Scanning.State) (b : Bool) → s.failed ≡ false → s.ended ≡ b → Scanning.object_of_state s ≡ (if b then Ok (Scanning.object_from s) else Err object.CutShort)
finishes s b runs e = grind (arith, common_steps)

ends_whole : (p : Program) (s : Scanning.State) (old : PartialProgram) (o : Outline) → RepresentsOpenModule p s old o → o.ended ≡ true → Scanning.object_of_state s ≡ Ok (Scanning.object_from s)
ends_whole p s old o h end = finishes s true (reached_runs s h.reached) (ap (λ (q : Outline). q.ended) (sym h.scan) ∙ end)

passed : {A B : Type 0} (b : Bool) (f : LinkFault) (read : Result A LinkFault) (k : A → Result B LinkFault) → Unless b (read ≡ Err f) → Unless b ((read >>= k) ≡ Err f)
passed true f read k h = tt
passed false f read k h = ap (λ r. r >>= k) h

-- parameters: the names listed for a module, if any; its imports; the names defined before; the names of its exports
module _ (listed : Option IndexedNames) (imports before names : List (List ℕ)) where
  abbrev given_whole : Object → Result Object LinkFault
  given_whole object = names_or_duplicate before names >>= (λ u. Ok object)

  -- the object of a module, if its names are those listed and none is defined again
  abbrev admitted : Result Object ObjectFault → Result Object LinkFault
  admitted r = as_link r >>= matching_object listed names imports >>= given_whole

  module _ (p : Program) (s : Scanning.State) (old : PartialProgram) (o : Outline) (h : RepresentsOpenModule p s old o) where
    -- the case of an object with its END
    by_names : (b : Bool) → o.ended ≡ true → are_listed listed names imports ≡ b → admitted (Scanning.object_of_state s) ≡ ((if b then Ok (Scanning.object_from s) else Err fault.IndexDisagrees) >>= given_whole)
    by_names b end e = grind (arith, common_steps, ends_whole)

    -- a module with its END is added after the others
    pub closed_whole : (new : PartialProgram) (name : List ℕ) (provided : List (List ℕ)) (r : Result (Unit {0}) LinkFault) → o.ended ≡ true → are_listed listed names imports ≡ true → names_or_duplicate before names ≡ Ok provided → OnOk r (new ≡ without_open_module (closed_program old name)) → IfErr r (λ f. is_memory f ≡ true) → RefinesThen (λ object. (new ≡ without_open_module (with_module p (module_of name object))) × (names_or_duplicate before names ≡ Ok provided)) r (admitted (Scanning.object_of_state s))
    closed_whole new name provided (Ok u) end is once grown memory =
        let object = Scanning.object_from s in
        (object, by_names true end is ∙ ap (λ q. q >>= (λ v. Ok object)) once, (grown ∙ ap (λ g. without_open_module (closed_program g name)) h.partial ∙ ap without_open_module (growth_law.2 p name s), once))
    closed_whole new name provided (Err f) end is once grown memory = out_of_memory f _ memory

    -- a module whose names aren't those listed is rejected
    pub disagrees : (f : LinkFault) → o.ended ≡ true → are_listed listed names imports ≡ false → f ≡ fault.IndexDisagrees → RefinesErr is_memory f (admitted (Scanning.object_of_state s))
    disagrees f end differ is = subst (λ g. RefinesErr is_memory g (admitted (Scanning.object_of_state s))) (sym is) (by_names false end differ)

    -- a module that defines a name again is rejected
    pub given_twice : (f : LinkFault) → o.ended ≡ true → are_listed listed names imports ≡ true → RefinesErr is_memory f (names_or_duplicate before names) → RefinesErr is_memory f (admitted (Scanning.object_of_state s))
    given_twice f end is refused = subst (λ r. RefinesErr is_memory f r) (sym (by_names true end is)) (passed (is_memory f) f (names_or_duplicate before names) (λ u. Ok (Scanning.object_from s)) refused)

    -- a module without its END is cut short
    pub cut_short : (f : LinkFault) → o.ended ≡ false → f ≡ fault.Malformed object.CutShort → RefinesErr is_memory f (admitted (Scanning.object_of_state s))
    cut_short f going is =
        let cut = finishes s false (reached_runs s h.reached) (ap (λ (q : Outline). q.ended) (sym h.scan) ∙ going) in
        subst (λ g. RefinesErr is_memory g (admitted (Scanning.object_of_state s))) (sym is) (ap admitted cut)

-- ---- The end of the open module.

-- the exports after those of the modules before it are the open module's exports
own_exports : (p : Program) (s : Scanning.State) (g : PartialProgram) (o : Outline) → RepresentsOpenModule p s g o → exports_from (length p.exports) g ≡ map (λ e. e.name) s.exports
own_exports p s g o h = grind (arith, common_steps, drop-append_seam, map_after)

-- the names defined after a module: those defined before it, and its exports
given_after : (script : Script) (modules : List Module) (name : List ℕ) (object : Object) (provided : List (List ℕ)) → names_or_duplicate [] (strong_names script (program_of modules)) ≡ Ok provided → names_or_duplicate [] (strong_names script (program_of (modules ++ module_of name object ∷ []))) ≡ names_or_duplicate provided (map (λ e. e.name) object.exports)
given_after script modules name object provided h =
    ap (λ p. names_or_duplicate [] (strong_names script p)) (one_more modules (module_of name object))
    ∙ ap (names_or_duplicate []) (module_gives script (program_of modules) (module_of name object))
    ∙ once_after provided (strong_names script (program_of modules)) (map (λ e. e.name) object.exports) h

with_names : {A : Type 0} (r : Result (Unit {0}) LinkFault) (all : List (List ℕ)) (x : A) → (r >>= (λ u. Ok x)) ≡ ((r >>= (λ u. Ok all)) >>= (λ u. Ok x))
with_names y all x = grind (arith, common_steps)

-- two functions that agree on both possible results of reading an object agree on the result
at_object : (r : Result Object ObjectFault) (b : Bool) (o : Object) (f g : Result Object LinkFault → Result Object LinkFault) → r ≡ (if b then Ok o else Err object.CutShort) → f (Ok o) ≡ g (Ok o) → f (Err (fault.Malformed object.CutShort)) ≡ g (Err (fault.Malformed object.CutShort)) → f (as_link r) ≡ g (as_link r)
at_object r true o f g is same cut = subst (λ (q : Result Object ObjectFault). f (as_link q) ≡ g (as_link q)) (sym is) same
at_object r false o f g is same cut = subst (λ (q : Result Object ObjectFault). f (as_link q) ≡ g (as_link q)) (sym is) cut

abbrev made_from : Scanning.State → Bool → Type 0
made_from s b = Scanning.object_of_state s ≡ (if b then Ok (Scanning.object_from s) else Err object.CutShort)

-- an entry agrees with an object if and only if the names that it lists do
listed_so : (entry : Option IndexEntry) (o : Object) → agrees_with entry o ≡ are_listed (option_map indexed_names entry) (map (λ e. e.name) o.exports) o.imports
listed_so x o = grind (arith, common_steps)

agreeing : (b c : Bool) (o : Object) (f g : Object → Result Object LinkFault) → b ≡ c → f o ≡ g o → ((if b then Ok o else Err fault.IndexDisagrees) >>= f) ≡ ((if c then Ok o else Err fault.IndexDisagrees) >>= g)
agreeing b c o f g e same = grind (arith, common_steps)

-- `closed_module` is `admitted`, with the names of the index entry and the names that are defined before
whole_admits : (script : Script) (modules : List Module) (name : List ℕ) (entry : Option IndexEntry) (s : Scanning.State) (provided : List (List ℕ)) (b : Bool) → made_from s b → names_or_duplicate [] (strong_names script (program_of modules)) ≡ Ok provided → closed_module script modules name entry s ≡ admitted (option_map indexed_names entry) s.imports provided (map (λ e. e.name) s.exports) (Scanning.object_of_state s)
whole_admits script modules name entry s provided b is h =
    let object = Scanning.object_from s in
    let exports = map (λ e. e.name) s.exports in
    let all = strong_names script (program_of (modules ++ module_of name object ∷ [])) in
    let following = with_names (none_duplicate (first_duplicate [] all)) all object ∙ ap (λ r. r >>= (λ u. Ok object)) (given_after script modules name object provided h) in
    at_object (Scanning.object_of_state s) b object
    (λ r. r >>= agreeing_object entry >>= module_without_duplicates script modules name)
    (λ r. r >>= matching_object (option_map indexed_names entry) exports s.imports >>= given_whole (option_map indexed_names entry) s.imports provided exports)
    is
    (agreeing (agrees_with entry object) _ object (module_without_duplicates script modules name) (given_whole (option_map indexed_names entry) s.imports provided exports) (listed_so entry object) following)
    refl

kept_whole : {A : Type 0} (q : Result A LinkFault) (o x : Object) → (q >>= (λ u. Ok o)) ≡ Ok x → x ≡ o
kept_whole y o x h = grind (arith, common_steps)

-- the object that is admitted is the object of the module
admits : (r : Result Object ObjectFault) (b : Bool) (o x : Object) (listed : Option IndexedNames) (imports before names : List (List ℕ)) → r ≡ (if b then Ok o else Err object.CutShort) → admitted listed imports before names r ≡ Ok x → x ≡ o
admits r true o x listed imports before names is h = grind (arith, common_steps, imports, names, kept_whole)
admits r false o x listed imports before names is h = let k : admitted listed imports before names (Err object.CutShort) ≡ Ok x = ap (admitted listed imports before names) (sym is) ∙ h in absurd cc

-- the linker represents the part of the open module that was read
record Coming (p : Program) (name : List ℕ) (entry : Option IndexEntry) (s : Scanning.State) (g : PartialProgram) (o : OpenModuleView) : Type 0 where
  pub comes : RepresentsOpenModule p s g o.scan
  pub called : o.name ≡ name
  pub first : o.first_export ≡ length p.exports
  pub names : o.listed ≡ option_map indexed_names entry

coming : (f : LinkerView) (modules : List Module) (name : List ℕ) (entry : Option IndexEntry) (s : Scanning.State) (g : PartialProgram) (o : OpenModuleView) → f.partial ≡ g → f.opened ≡ Some o → RepresentsWithOpenModule f modules name entry s → Coming (program_of modules) name entry s g o
coming f modules name entry s g o grown there h = grind (arith, common_steps)

-- the end of the open module, as the linker represents it
module _ (old : LinkerView) (modules : List Module) (name : List ℕ) (entry : Option IndexEntry) (s : Scanning.State) (g : PartialProgram) (o : OpenModuleView) (before : List (List ℕ)) (grown : old.partial ≡ g) (there : old.opened ≡ Some o) (gave : old.provided ≡ before) (h : RepresentsWithOpenModule old modules name entry s) where
  come : Coming (program_of modules) name entry s g o
  come = coming old modules name entry s g o grown there h

  made : made_from s s.ended
  made = finishes s s.ended (reached_runs s h.reached) refl

  names : exports_from o.first_export g ≡ map (λ e. e.name) s.exports
  names = ap (λ k. exports_from k g) come.first ∙ own_exports (program_of modules) s g o.scan come.comes

  imports : g.imports ≡ s.imports
  imports = ap (λ (q : PartialProgram). q.imports) come.comes.partial

  all : names_or_duplicate [] (strong_names old.script (program_of modules)) ≡ Ok before
  all = h.provided ∙ ap (λ ns. let provided : Result (List (List ℕ)) LinkFault = Ok ns in provided) gave

  kept : closed_module old.script modules name entry s ≡ admitted o.listed g.imports before (exports_from o.first_export g) (Scanning.object_of_state s)
  kept =
      whole_admits old.script modules name entry s before s.ended made all
      ∙ ap (λ ns. admitted (option_map indexed_names entry) s.imports before ns (Scanning.object_of_state s)) (sym names)
      ∙ ap (λ ns. admitted (option_map indexed_names entry) ns before (exports_from o.first_export g) (Scanning.object_of_state s)) (sym imports)
      ∙ ap (λ l. admitted l g.imports before (exports_from o.first_export g) (Scanning.object_of_state s)) (sym come.names)

  -- the module that ends is added after the others
  pub ended_next : (new : LinkerView) → new.opened ≡ None → new.failed ≡ false → new.script ≡ old.script
      → ((p : Program) (t : Scanning.State) → RepresentsOpenModule p t g o.scan → (x : Object) × (admitted o.listed g.imports before (exports_from o.first_export g) (Scanning.object_of_state t) ≡ Ok x) × ((new.partial ≡ without_open_module (with_module p (module_of o.name x))) × (names_or_duplicate before (exports_from o.first_export g) ≡ Ok new.provided)))
      → (x : Object) × (closed_module old.script modules name entry s ≡ Ok x) × RepresentsModules new (modules ++ module_of name x ∷ [])
  ended_next new none runs script ends =
      let end = ends (program_of modules) s come.comes in
      let x = end.0 in
      let is : x ≡ Scanning.object_from s = admits (Scanning.object_of_state s) s.ended (Scanning.object_from s) x o.listed g.imports before (exports_from o.first_export g) made end.1 in
      let exports = ap (λ (y : Object). map (λ e. e.name) y.exports) is ∙ sym names in
      let following = ap (λ n. without_open_module (with_module (program_of modules) (module_of n x))) come.called ∙ ap without_open_module (sym (one_more modules (module_of name x))) in
      let provided = given_after old.script modules name x before all ∙ ap (names_or_duplicate before) exports ∙ end.2.1 in (
        x,
        kept ∙ end.1,
        record {
          partial = end.2.0 ∙ following;
          provided = subst (λ (q : Script). names_or_duplicate [] (strong_names q (program_of (modules ++ module_of name x ∷ []))) ≡ Ok new.provided) (sym script) provided;
          opened = none;
          failed = runs;
        },
      )

  -- an error of `admitted` is an error of `closed_module`
  pub ended_refused : (e : LinkFault) → ((p : Program) (t : Scanning.State) → RepresentsOpenModule p t g o.scan → RefinesErr is_memory e (admitted o.listed g.imports before (exports_from o.first_export g) (Scanning.object_of_state t))) → RefinesErr is_memory e (closed_module old.script modules name entry s)
  ended_refused e ends = subst (λ (r : Result Object LinkFault). RefinesErr is_memory e r) (sym kept) (ends (program_of modules) s come.comes)

-- ---- The link.

-- the link of the program that the linker represents is the link of the modules
pub linked : (f : LinkerView) (modules : List Module) (kept : Program) (r : Result Linked LinkFault) → kept ≡ f.partial.program → (f.provided ≡ strong_names f.script kept → RefinesProp is_memory (IsProgramLink f.output f.script kept) r) → RepresentsModules f modules → RefinesProp is_memory (LinkOf f.output f.script modules) r
linked f modules p r is found h =
    let named : f.provided ≡ strong_names f.script p = their_names f modules (inl h) ∙ ap (strong_names f.script) (sym (is ∙ ap (λ (g : PartialProgram). g.program) h.partial)) in
    grind (arith, common_steps, found named)
