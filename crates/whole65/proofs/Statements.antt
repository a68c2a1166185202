-- The contents of laid-out statements, in order: their section requests, parts and declarations.
use Rattle.std.proofs.lemmas.Grind.{common_steps, flat_map-append}
use Rattle.std.proofs.lemmas.List.{append-nil}
use Rattle.std.proofs.Common.{◌≡◌, ◌∙◌, ℕ, Bool, true, false, cond, nat_eq, List, [], ◌∷◌, ◌++◌, map, Option, Some, None, Result, Ok, refl, sym, ap, subst, ◌⊎◌, inl, inr, arith, if◌then◌else◌}
use Rattle.std.specs.List.{AllByRecursion, flat_map, list_any}
use Rattle.std.specs.Str.{bytes_eq}
use Rattle.base65.specs.Outcome.{◌>>=◌}
use Rattle.object65.specs.Form.{Form}
use Rattle.syntax65.specs.Trees.{Tree}
use Rattle.semantics65.proofs.SlotResolution.{AreFound, found_each, found_split}
use Rattle.sources65.proofs.SoundForms.{all_append}
use Rattle.sources65.proofs.SoundParts.{content_is}
use Rattle.semantics65.specs.Contents.{Content, Declaration, ExportedSymbol, ForcedImport, Part, section_request, decided_assertion, export_declarations, import_fault, operand_form, section_part, value_part, declaration_content, with_file_name_check, exported_names}
use Rattle.semantics65.specs.Layout.{Layout}
use Rattle.semantics65.specs.Module.{PieceResult, Piece, Purpose, undefined_export_result, part_result, declarations_result, asserted, slot_result, datum, forced_import, module_resolution, constant_definition, exported, failed_assertion_text, known_part, resolved, imported, item_piece, unrepeated_result, operand, operand_pieces, pieces_of, without_warning, slots_of, value_result, expression_value, deferred_piece, with_location}
use Rattle.semantics65.specs.Norms.{defined_form, norm_of}
use Rattle.semantics65.specs.Numbering.{all_declarations, parts_in, segment_requests}
use Rattle.semantics65.specs.Symbols.{LaidOutStatement, Symbols, needs_section, definition_index, named}
use Rattle.semantics65.specs.declared.contexts.EncodingChoice.{EncodingChoice}
use Rattle.semantics65.specs.Types.{Action, AsmFault, Item, SourceLocation, Statement, Align, Assert, Constant, Export, Incbin, ForceImport, Global, Import, Instruction, Reserve, Values, Width}
use Rattle.whole65.proofs.SameValues.{bind_ok, written_ok}
use Rattle.whole65.specs.Modules.{table_of}

-- ---- The content of a piece.

-- an export has no declaration: its name was exported before, or the module doesn't define it
abbrev pub IsLeftOut : Symbols → List (List ℕ) → List ℕ → Type 0
IsLeftOut y names n = (list_any (bytes_eq n) names ≡ true) ⊎ (definition_index y (named 0 n) ≡ None)

-- the content of a piece of a laid-out statement, after exports of `names`
pub data Comes (y : Symbols) (names : List (List ℕ)) (l : LaidOutStatement) : Piece → Content → Type 0 where
  a_part : (q : Part) → Comes y names l (known_part q) (section_part l.context.segment q)
  a_datum :
      (width : Width) (e : Tree) (f : Form) (q : Part) → norm_of y l.context e ≡ Ok f → value_part width l.place f ≡ Ok q →
      Comes y names l (expression_value (datum width) e) (section_part l.context.segment q)
  an_operand :
      (width : Width) (e : Tree) (f g : Form) (q : Part) → norm_of y l.context e ≡ Ok f → operand_form width l.context f ≡ Ok g →
      value_part width l.place g ≡ Ok q → Comes y names l (expression_value (operand width) e) (section_part l.context.segment q)
  a_constant : (e : Tree) → Comes y names l (expression_value constant_definition e) (declaration_content [])
  an_assertion :
      (act : Action) (words : List ℕ) (e : Tree) (f : Form) (ss : List Declaration) → norm_of y l.context e ≡ Ok f →
      decided_assertion act l.place words f ≡ Ok ss → Comes y names l (expression_value (asserted act words) e) (declaration_content ss)
  an_import : (n : List ℕ) → Comes y names l (imported n) (declaration_content [])
  a_demand : (n : List ℕ) → Comes y names l (forced_import n) (declaration_content (ForcedImport n ∷ []))
  no_export : (must : Bool) (n : List ℕ) → IsLeftOut y names n → Comes y names l (exported must n) (declaration_content [])
  an_export :
      (must : Bool) (n : List ℕ) (j : ℕ) (f : Form) → list_any (bytes_eq n) names ≡ false → definition_index y (named 0 n) ≡ Some j →
      defined_form y j ≡ Ok f → Comes y names l (exported must n) (declaration_content (ExportedSymbol n l.place f ∷ []))

placed_ok : {A : Type 0} (place : SourceLocation) (r : Result A AsmFault) (a : A) → with_location place r ≡ Ok a → r ≡ Ok a
placed_ok {A = A} place x a e = grind (arith, common_steps)

same_content : (a b : PieceResult) → ◌≡◌ {A = Result PieceResult AsmFault} (Ok a) (Ok b) → a.content ≡ b.content
same_content a b e = grind (arith, common_steps)

import_none : (y : Symbols) (n : List ℕ) (ss : List Declaration) → import_fault y n ≡ Ok ss → [] ≡ ss
import_none y n ss e = grind (arith, common_steps)

absent_none : (must : Bool) (n : List ℕ) (ss : List Declaration) → undefined_export_result must n ≡ Ok ss → [] ≡ ss
absent_none x1 n ss e = grind (arith, common_steps)

comes : (y : Symbols) (names : List (List ℕ)) (l : LaidOutStatement) (p : Piece) (m : PieceResult) → slot_result y names (deferred_piece l p) ≡ Ok m → Comes y names l p m.content
comes y names l (known_part q) m h = subst (Comes y names l (known_part q)) (same_content (without_warning (section_part l.context.segment q)) m (placed_ok l.place (part_result l.context.segment q) m h)) (a_part q)
comes y names l (expression_value why e) m h =
    let (f, normal, uses) = bind_ok (norm_of y l.context e) (value_result l.place l.context why) m (placed_ok l.place (unrepeated_result y l.place l.context (expression_value why e)) m h) in
    by why f normal uses
  where
    by : (why : Purpose) (f : Form) → norm_of y l.context e ≡ Ok f → value_result l.place l.context why f ≡ Ok m → Comes y names l (expression_value why e) m.content
    by (datum width) f normal uses =
        let (q, kept, last) = bind_ok (value_part width l.place f) (part_result l.context.segment) m uses in
        subst (Comes y names l (expression_value (datum width) e)) (same_content (without_warning (section_part l.context.segment q)) m last) (a_datum width e f q normal kept)
    by (operand width) f normal uses =
        let (q, both, last) = bind_ok (operand_form width l.context f >>= value_part width l.place) (part_result l.context.segment) m uses in
        let (g, counted, kept) = bind_ok (operand_form width l.context f) (value_part width l.place) q both in
        subst (Comes y names l (expression_value (operand width) e)) (same_content (without_warning (section_part l.context.segment q)) m last) (an_operand width e f g q normal counted kept)
    by constant_definition f normal uses = subst (Comes y names l (expression_value constant_definition e)) (same_content (without_warning (declaration_content [])) m uses) (a_constant e)
    by (asserted act words) f normal uses =
        let told : List Declaration → PieceResult = λ ss. record { content = declaration_content ss; warning = failed_assertion_text l.place act words (Ok f) } in
        let (ss, said, last) = bind_ok (decided_assertion act l.place words f) (λ ss. Ok (told ss)) m uses in
        subst (Comes y names l (expression_value (asserted act words) e)) (same_content (told ss) m last) (an_assertion act words e f ss normal said)
comes y names l (imported n) m h =
    let (ss, first, last) = bind_ok (import_fault y n) declarations_result m (placed_ok l.place (unrepeated_result y l.place l.context (imported n)) m h) in
    subst (Comes y names l (imported n)) (ap declaration_content (import_none y n ss first) ∙ same_content (without_warning (declaration_content ss)) m last) (an_import n)
comes y names l (forced_import n) m h = subst (Comes y names l (forced_import n)) (same_content (without_warning (declaration_content (ForcedImport n ∷ []))) m (placed_ok l.place (declarations_result (ForcedImport n ∷ [])) m h)) (a_demand n)
comes y names l (exported must n) m h = by (list_any (bytes_eq n) names) refl (placed_ok l.place (if list_any (bytes_eq n) names then declarations_result [] else unrepeated_result y l.place l.context (exported must n)) m h)
  where
    defining : (o : Option ℕ) → list_any (bytes_eq n) names ≡ false → definition_index y (named 0 n) ≡ o → (ss : List Declaration) → export_declarations y l.place n (undefined_export_result must n) o ≡ Ok ss → Comes y names l (exported must n) (declaration_content ss)
    defining None new e ss said = subst (λ ss. Comes y names l (exported must n) (declaration_content ss)) (absent_none must n ss said) (no_export must n (inr e))
    defining (Some j) new e ss said =
        let (f, form, kept) = bind_ok (defined_form y j) (λ f. with_file_name_check l.place (ExportedSymbol n l.place f ∷ [])) ss said in
        subst (λ ss. Comes y names l (exported must n) (declaration_content ss)) (written_ok l.place (ExportedSymbol n l.place f ∷ []) ss kept) (an_export must n j f new e form)

    by : (b : Bool) → list_any (bytes_eq n) names ≡ b → (if b then declarations_result [] else unrepeated_result y l.place l.context (exported must n)) ≡ Ok m → Comes y names l (exported must n) m.content
    by true e made = subst (Comes y names l (exported must n)) (same_content (without_warning (declaration_content [])) m made) (no_export must n (inl e))
    by false e made =
        let (ss, said, last) = bind_ok (export_declarations y l.place n (undefined_export_result must n) (definition_index y (named 0 n))) declarations_result m made in
        subst (Comes y names l (exported must n)) (same_content (without_warning (declaration_content ss)) m last) (defining (definition_index y (named 0 n)) e refl ss said)

-- the contents of consecutive pieces
pub data AllCome (y : Symbols) (l : LaidOutStatement) : List (List ℕ) → List Piece → List Content → Type 0 where
  no_piece : {names : List (List ℕ)} → AllCome y l names [] []
  a_piece :
      {names : List (List ℕ)} {p : Piece} {ps : List Piece} {c : Content} {cs : List Content} →
      Comes y names l p c → AllCome y l (names ++ exported_names c.said) ps cs → AllCome y l names (p ∷ ps) (c ∷ cs)

all_come : (y : Symbols) (l : LaidOutStatement) (names : List (List ℕ)) (ps : List Piece) (cs : List Content) → AreFound y names (map (deferred_piece l) ps) cs → AllCome y l names ps cs
all_come y l names [] [] h = no_piece
all_come y l names [] (c ∷ cs) h = absurd h
all_come y l names (p ∷ ps) [] h = absurd h
all_come y l names (p ∷ ps) (c ∷ cs) (w, made, h) = a_piece (comes y names l p (record { content = c; warning = w }) made) (all_come y l (names ++ exported_names c.said) ps cs h)

-- ---- Parts and declarations.

-- the parts of contents
abbrev pub all_put : List Content → List Part
all_put cs = flat_map (λ c. c.parts) cs

-- whether a piece results in a part, without declarations; other pieces have no part
abbrev pub is_part : Piece → Bool
is_part (known_part q) = true
is_part (expression_value (datum width) e) = true
is_part (expression_value (operand width) e) = true
is_part _ = false

-- whether all pieces of a statement result in parts; otherwise none does
abbrev pub has_parts : Statement → Bool
has_parts (Instruction m o) = true
has_parts (Values width items) = true
has_parts (Reserve n v) = true
has_parts (Align n v) = true
has_parts (Incbin bytes start len) = true
has_parts _ = false

of_items : (width : Width) (items : List Item) → AllByRecursion (λ p. is_part p ≡ true) (map (item_piece width) items)
of_items width [] = tt
of_items width (item ∷ items) = grind (arith, common_steps, (of_items width items))

of_operand : (width : Option Width) (e : Option Tree) → AllByRecursion (λ p. is_part p ≡ true) (operand_pieces width e)
of_operand x1 x2 = grind (arith, common_steps)

of_names : (f : List ℕ → Piece) → ((n : List ℕ) → is_part (f n) ≡ false) → (names : List (List ℕ)) → AllByRecursion (λ p. is_part p ≡ false) (map f names)
of_names f h [] = tt
of_names f h (n ∷ names) = (h n, of_names f h names)

pub pieces_alike : (count : ℕ) (s : EncodingChoice) (x : Statement) → AllByRecursion (λ p. is_part p ≡ has_parts x) (pieces_of count s x)
pieces_alike count s (Instruction m o) = grind (arith, common_steps)
pieces_alike count s (Values width items) = of_items width items
pieces_alike count s (Reserve n v) = (refl, tt)
pieces_alike count s (Align n v) = (refl, tt)
pieces_alike count s (Incbin bytes start len) = (refl, tt)
pieces_alike count s (Constant n e) = (refl, tt)
pieces_alike count s (Import own names) = of_names imported (λ n. refl) names
pieces_alike count s (Export names) = of_names (exported true) (λ n. refl) names
pieces_alike count s (Global own names) = of_names (exported false) (λ n. refl) names
pieces_alike count s (ForceImport names) = all_append (λ p. is_part p ≡ false) (map imported names) (map forced_import names) (of_names imported (λ n. refl) names) (of_names forced_import (λ n. refl) names)
pieces_alike count s (Assert e act words) = (refl, tt)
pieces_alike count s _ = tt

says_none : {y : Symbols} {names : List (List ℕ)} {l : LaidOutStatement} {p : Piece} {c : Content} → Comes y names l p c → is_part p ≡ true → c.said ≡ []
says_none x1 e = grind (arith, common_steps)

puts_none : {y : Symbols} {names : List (List ℕ)} {l : LaidOutStatement} {p : Piece} {c : Content} → Comes y names l p c → is_part p ≡ false → c.parts ≡ []
puts_none x1 e = grind (arith, common_steps)

none_said : {y : Symbols} {l : LaidOutStatement} {names : List (List ℕ)} {ps : List Piece} {cs : List Content} → AllCome y l names ps cs → AllByRecursion (λ p. is_part p ≡ true) ps → all_declarations cs ≡ []
none_said no_piece all = refl
none_said (a_piece first more) (own, all) = grind (arith, common_steps, (says_none first own), (none_said more all))

pub none_put : {y : Symbols} {l : LaidOutStatement} {names : List (List ℕ)} {ps : List Piece} {cs : List Content} → AllCome y l names ps cs → AllByRecursion (λ p. is_part p ≡ false) ps → all_put cs ≡ []
none_put no_piece all = refl
none_put (a_piece first more) (own, all) = grind (arith, common_steps, (puts_none first own), (none_put more all))

no_parts : (x : Statement) → needs_section x ≡ false → has_parts x ≡ false
no_parts x1 e = grind (arith, common_steps)

-- a statement that needs no section has no parts
pub quiet_parts : {y : Symbols} {l : LaidOutStatement} {names : List (List ℕ)} {cs : List Content} (count : ℕ) (s : EncodingChoice) (x : Statement) → AllCome y l names (pieces_of count s x) cs → needs_section x ≡ false → all_put cs ≡ []
quiet_parts count s x all e = none_put all (subst (λ b. AllByRecursion (λ p. is_part p ≡ b) (pieces_of count s x)) (no_parts x e) (pieces_alike count s x))

-- ---- The segment of a piece's content.

-- the content requests no section, and any parts are in this segment
abbrev StandsIn : ℕ → Content → Type 0
StandsIn g c = (c.requests_section ≡ false) × ((c.segment ≡ g) ⊎ (c.parts ≡ []))

stands_in : {y : Symbols} {names : List (List ℕ)} {l : LaidOutStatement} {p : Piece} {c : Content} → Comes y names l p c → StandsIn l.context.segment c
stands_in x1 = grind (arith, common_steps)

none_asked : {y : Symbols} {l : LaidOutStatement} {names : List (List ℕ)} {ps : List Piece} {cs : List Content} → AllCome y l names ps cs → segment_requests cs ≡ []
none_asked no_piece = refl
none_asked (a_piece first more) = grind (arith, common_steps, (stands_in first), (none_asked more))

parts_own : {y : Symbols} {l : LaidOutStatement} {names : List (List ℕ)} {ps : List Piece} {cs : List Content} (g : ℕ) → AllCome y l names ps cs → parts_in cs g ≡ cond (nat_eq l.context.segment g) (all_put cs) []
parts_own g no_piece = grind (arith, common_steps)
parts_own g (a_piece first more) = grind (arith, common_steps, (stands_in first), (parts_own g more))

-- ---- The declarations of a statement.

-- the declarations of exports after exports of other names: one for each name that is defined and wasn't exported before
pub data SaidOnce (y : Symbols) (place : SourceLocation) : List (List ℕ) → List (List ℕ) → List Declaration → Type 0 where
  no_name : {names : List (List ℕ)} → SaidOnce y place names [] []
  left_out :
      {names : List (List ℕ)} {n : List ℕ} {ns : List (List ℕ)} {ss : List Declaration} →
      IsLeftOut y names n → SaidOnce y place names ns ss → SaidOnce y place names (n ∷ ns) ss
  said_first :
      {names : List (List ℕ)} {n : List ℕ} {ns : List (List ℕ)} {ss : List Declaration} (j : ℕ) (f : Form) →
      list_any (bytes_eq n) names ≡ false → definition_index y (named 0 n) ≡ Some j → defined_form y j ≡ Ok f →
      SaidOnce y place (names ++ n ∷ []) ns ss → SaidOnce y place names (n ∷ ns) (ExportedSymbol n place f ∷ ss)

-- the declarations of a statement
abbrev pub IsSaidBy : Symbols → List (List ℕ) → LaidOutStatement → Statement → List Declaration → Type 0
IsSaidBy y names l (Export ns) ss = SaidOnce y l.place names ns ss
IsSaidBy y names l (Global own ns) ss = SaidOnce y l.place names ns ss
IsSaidBy y names l (ForceImport ns) ss = ss ≡ map ForcedImport ns
IsSaidBy y names l (Assert e act words) ss = (f : Form) × (norm_of y l.context e ≡ Ok f) × (decided_assertion act l.place words f ≡ Ok ss)
IsSaidBy y names l _ ss = ss ≡ []

said_once : {y : Symbols} {l : LaidOutStatement} (must : Bool) (names ns : List (List ℕ)) (cs : List Content) → AllCome y l names (map (exported must) ns) cs → SaidOnce y l.place names ns (all_declarations cs)
said_once must names [] _ no_piece = no_name
said_once {y = y} {l = l} must names (n ∷ ns) _ (a_piece {cs = cs} (no_export _ _ why) more) = left_out why (subst (λ names. SaidOnce y l.place names ns (all_declarations cs)) (append-nil names) (said_once must (names ++ []) ns cs more))
said_once must names (n ∷ ns) _ (a_piece {cs = cs} (an_export _ _ j f new e form) more) = said_first j f new e form (said_once must (names ++ n ∷ []) ns cs more)

said_demanded : {y : Symbols} {l : LaidOutStatement} {names : List (List ℕ)} (ns : List (List ℕ)) (cs : List Content) → AllCome y l names (map forced_import ns) cs → all_declarations cs ≡ map ForcedImport ns
said_demanded [] _ no_piece = refl
said_demanded (n ∷ ns) _ (a_piece (a_demand _) more) = grind (arith, common_steps, (said_demanded ns _ more))

said_forced : {y : Symbols} {l : LaidOutStatement} {names : List (List ℕ)} (ms ns : List (List ℕ)) (cs : List Content) → AllCome y l names (map imported ms ++ map forced_import ns) cs → all_declarations cs ≡ map ForcedImport ns
said_forced [] ns cs all = said_demanded ns cs all
said_forced (m ∷ ms) ns _ (a_piece {cs = cs} (an_import _) more) = said_forced ms ns cs more

nothing_said : {y : Symbols} {l : LaidOutStatement} {names : List (List ℕ)} (cs : List Content) → AllCome y l names [] cs → all_declarations cs ≡ []
nothing_said cs x1 = grind (arith, common_steps)

said_by : {y : Symbols} {l : LaidOutStatement} {names : List (List ℕ)} (count : ℕ) (s : EncodingChoice) (x : Statement) (cs : List Content) → AllCome y l names (pieces_of count s x) cs → IsSaidBy y names l x (all_declarations cs)
said_by count s (Export ns) cs all = said_once true _ ns cs all
said_by count s (Global own ns) cs all = said_once false _ ns cs all
said_by count s (ForceImport ns) cs all = said_forced ns ns cs all
said_by {y = y} {l = l} count s (Assert e act words) _ (a_piece (an_assertion _ _ _ f ss normal said) no_piece) = (f, normal, subst (λ ss. decided_assertion act l.place words f ≡ Ok ss) (sym (append-nil ss)) said)
said_by count s (Constant n e) _ (a_piece (a_constant _) no_piece) = refl
said_by {y = y} {l = l} {names = names} count s (Import own ns) cs all = said_forced ns [] cs (subst (λ ps. AllCome y l names ps cs) (sym (append-nil (map imported ns))) all)
said_by count s (Instruction m o) cs all = none_said all (pieces_alike count s (Instruction m o))
said_by count s (Values width items) cs all = none_said all (pieces_alike count s (Values width items))
said_by count s (Reserve n v) cs all = none_said all (pieces_alike count s (Reserve n v))
said_by count s (Align n v) cs all = none_said all (pieces_alike count s (Align n v))
said_by count s (Incbin bytes start len) cs all = none_said all (pieces_alike count s (Incbin bytes start len))
said_by count s _ cs all = nothing_said cs all

-- ---- Statements.

-- The contents of a statement after exports of `names`: a request of its section if it needs one, then the contents of its
-- pieces.
pub record Stated (y : Symbols) (names : List (List ℕ)) (l : LaidOutStatement) (ds : List Content) : Type 0 where
  pub own : List Content
  pub pieces : AllCome y l names (pieces_of l.length l.encoding l.stated) own
  pub asked : segment_requests ds ≡ cond (needs_section l.stated) (l.context.segment ∷ []) []
  pub put : all_put ds ≡ all_put own
  pub parts : (g : ℕ) → parts_in ds g ≡ cond (nat_eq l.context.segment g) (all_put own) []
  pub said : IsSaidBy y names l l.stated (all_declarations ds)

pub stated : (y : Symbols) (names : List (List ℕ)) (l : LaidOutStatement) (ds : List Content) → AreFound y names (slots_of l) ds → Stated y names l ds
stated y names l ds h = by (needs_section l.stated) refl ds h
  where
    ps : List Piece
    ps = pieces_of l.length l.encoding l.stated

    g : ℕ
    g = l.context.segment

    by : (b : Bool) → needs_section l.stated ≡ b → (ds : List Content) → AreFound y names ((if b then resolved (section_request g) ∷ [] else []) ++ map (deferred_piece l) ps) ds → Stated y names l ds
    by false e ds h =
        let all : AllCome y l names ps ds = all_come y l names ps ds h in
        record {
          own = ds;
          pieces = all;
          asked = none_asked all ∙ ap (λ b. cond b (g ∷ []) []) (sym e);
          put = refl;
          parts = λ k. parts_own k all;
          said = said_by l.length l.encoding l.stated ds all;
        }
    by true e [] h = absurd h
    by true e (c ∷ ds) (w, made, h) =
        let same : section_request g ≡ c = content_is (without_warning (section_request g)) (record { content = c; warning = w }) made in
        let before : names ++ exported_names c.said ≡ names = ap (λ (d : Content). names ++ exported_names d.said) (sym same) ∙ append-nil names in
        let all : AllCome y l names ps ds = all_come y l names ps ds (subst (λ ns. AreFound y ns (map (deferred_piece l) ps) ds) before h) in
        subst (λ (d : Content). Stated y names l (d ∷ ds)) same
        (record {
          own = ds;
          pieces = all;
          asked = ap (λ gs. g ∷ gs) (none_asked all) ∙ ap (λ b. cond b (g ∷ []) []) (sym e);
          put = refl;
          parts = λ k. (let own = parts_own k all in grind (arith, common_steps));
          said = said_by l.length l.encoding l.stated ds all;
        })

-- the contents of consecutive statements, after exports of `names`
pub data AreStated (y : Symbols) : List (List ℕ) → List LaidOutStatement → List Content → Type 0 where
  no_line : {names : List (List ℕ)} → AreStated y names [] []
  a_line :
      {names : List (List ℕ)} {l : LaidOutStatement} {ls : List LaidOutStatement} (ds cs : List Content) →
      AreFound y names (slots_of l) ds → AreStated y (names ++ exported_names (all_declarations ds)) ls cs → AreStated y names (l ∷ ls) (ds ++ cs)

all_stated : (y : Symbols) (names : List (List ℕ)) (ls : List LaidOutStatement) (cs : List Content) → AreFound y names (flat_map slots_of ls) cs → AreStated y names ls cs
all_stated y names [] [] h = no_line
all_stated y names [] (c ∷ cs) h = absurd h
all_stated y names (l ∷ ls) cs h =
    let split = found_split y names (slots_of l) (flat_map slots_of ls) cs h in
    subst (AreStated y names (l ∷ ls)) split.all (a_line split.first split.last split.before (all_stated y (names ++ exported_names (all_declarations split.first)) ls split.last split.following))

-- the contents of a module are those of its statements
pub are_stated : (y : Layout) (cs : List Content) → (module_resolution y.laid).found ≡ Ok cs → AreStated (table_of y) [] y.laid cs
are_stated y cs e = all_stated (table_of y) [] y.laid cs (found_each (table_of y) [] (flat_map slots_of y.laid) cs e)

-- ---- Concatenated contents.

pub said_append : (ds cs : List Content) → all_declarations (ds ++ cs) ≡ all_declarations ds ++ all_declarations cs
said_append ds cs = flat_map-append (λ (c : Content). c.said) ds cs

pub put_append : (ds cs : List Content) → all_put (ds ++ cs) ≡ all_put ds ++ all_put cs
put_append ds cs = flat_map-append (λ (c : Content). c.parts) ds cs

pub parts_append : (g : ℕ) (ds cs : List Content) → parts_in (ds ++ cs) g ≡ parts_in ds g ++ parts_in cs g
parts_append g ds cs = grind (arith, common_steps)
