-- The set of exported names, and pieces that export none.
use Rattle.std.proofs.Common.{◌≡◌, ◌∙◌, ◌||◌, ℕ, Bool, true, false, List, [], ◌∷◌, ◌++◌, map, refl, sym, ap, append-nil, arith}
use Rattle.std.specs.Prelude.{Result, Ok, Err, IfOk, not}
use Rattle.std.specs.Global.{Vec}
use Rattle.std.specs.List.{list_any}
use Rattle.std.specs.Str.{bytes_eq}
use Rattle.base65.specs.Outcome.{Refines}
use Rattle.syntax65.specs.declared.source_location.SourceLocation.{SourceLocation}
use Rattle.object65.specs.Form.{Form}
use Rattle.base65.specs.declared.action.Action.{Action}
use Rattle.ast65.specs.declared.fault.AsmFault.{AsmFault}
use Rattle.semantics65.specs.Contents.{exported_names}
use Rattle.semantics65.specs.declared.contexts.Context.{Context}
use Rattle.semantics65.specs.Module.{PieceResult, asserted, value_result}

-- ---- A further name.

any_held : (n : List ℕ) (ks : List (Vec ℕ)) → list_any (λ k. bytes_eq n k.items) ks ≡ list_any (bytes_eq n) (map (λ k. k.items) ks)
any_held n [] = refl
any_held n (k ∷ ks) = ap (λ b. bytes_eq n k.items || b) (any_held n ks)

not_back : (x b : Bool) → b ≡ not x → x ≡ not b
not_back true b e = sym (ap not e)
not_back false b e = sym (ap not e)

-- an insertion reports a new name if and only if the set doesn't contain the name
pub entered_new : (ks : List (Vec ℕ)) (key : Vec ℕ) (n : List ℕ) (b : Bool) → key.items ≡ n → b ≡ not (list_any (λ k. bytes_eq key.items k.items) ks) → list_any (bytes_eq n) (map (λ k. k.items) ks) ≡ not b
entered_new ks key n b same added =
    sym (any_held n ks) ∙ ap (λ m. list_any (λ k. bytes_eq m k.items) ks) (sym same)
    ∙ not_back (list_any (λ k. bytes_eq key.items k.items) ks) b added

-- ---- Pieces without exports.

abbrev ExportsNone : Result PieceResult AsmFault → Type 0
ExportsNone r = IfOk r (λ m. exported_names m.content.said ≡ [])

pub none_asserted : (location : SourceLocation) (s : Context) (action : Action) (text : List ℕ) (f : Form) → ExportsNone (value_result location s (asserted action text) f)
none_asserted location s x1 text x2 = grind (arith)

-- the exported names are unchanged
pub names_stay : {X : Type 0} (outside : AsmFault → Bool) (view : X → PieceResult) (names : List (List ℕ)) (r : Result X AsmFault) (read : Result PieceResult AsmFault) → ExportsNone read → Refines outside view r read → IfOk r (λ x. names ≡ names ++ exported_names (view x).content.said)
names_stay outside view names (Err e) read none gives = tt
names_stay outside view names (Ok x) (Err e) none gives = absurd cc
names_stay outside view names (Ok x) (Ok m) none gives =
    let made : m ≡ view x = cc in
    sym (append-nil names) ∙ ap (λ ns. names ++ ns) (sym none ∙ ap (λ k. exported_names k.content.said) made)
