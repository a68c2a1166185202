-- An expression has the value of its normal form.
use Rattle.std.proofs.lemmas.Grind.{common_steps}
use Rattle.std.proofs.Common.{◌≡◌, ℕ, zero, suc, ◌+◌, false, refl, sym, ◌∙◌, subst, arith, List, Option, Some, None, Result, Ok, ap, [], ◌∷◌}
use Rattle.std.specs.Prelude.{ℤ, slice_get, pos}
use Rattle.base65.specs.Outcome.{◌>>=◌}
use Rattle.base65.specs.Values.{value1, value2}
use Rattle.object65.specs.Form.{Form, lit, sec, imp, prefix, binary}
use Rattle.object65.specs.FormValue.{or_none, value_in}
use Rattle.object65.specs.declared.folding.FormFault.{FormFault}
use Rattle.syntax65.specs.declared.source_location.SourceLocation.{SourceLocation}
use Rattle.semantics65.specs.Contents.{with_file_name_check}
use Rattle.semantics65.specs.Norms.{fold_result, address_of, form_of_binding, norm}
use Rattle.whole65.specs.Objects.{IsLinkerView, ImportHasValue, HasProviderValue, LinkerView, form_value, HasValue, ImportHasExportValue}
use Rattle.whole65.specs.Values.{Provider, by_module, by_script, by_nobody, Program, SymbolBinding, label_at, constant_at, import_of, operand_binding, Value, number, here, label, constant, exported, scripted, prefixed, joined}
use Rattle.syntax65.specs.Trees.{Tree, name}
use Rattle.syntax65.specs.Trees as tree
use Rattle.whole65.specs.Laws.{ValueIsUnique, NormalFormPreservesValue}
use Rattle.semantics65.specs.Symbols.{binding_of}
use Rattle.base65.specs.declared.values.Op1.{Op1}
use Rattle.base65.specs.declared.values.Op2.{Op2}
use Rattle.object65.proofs.Foldings.{binary_fold_law, prefix_fold_law}
use Rattle.object65.specs.Folding.{fold1, fold2}

-- ---- Values are preserved if imports are resolved through more exports.

pub bind_ok : {E A B : Type 0} (r : Result A E) (f : A → Result B E) (y : B) → (r >>= f) ≡ Ok y → (x : A) × (r ≡ Ok x) × (f x ≡ Ok y)
bind_ok x f y e = grind (arith, common_steps)

pub folded_ok : (r : Result Form FormFault) (f : Form) → fold_result r ≡ Ok f → r ≡ Ok f
folded_ok x f e = grind (arith, common_steps)

-- the check of the file name doesn't change the result
pub written_ok : {A : Type 0} (place : SourceLocation) (a b : A) → with_file_name_check place a ≡ Ok b → a ≡ b
written_ok {A = A} place a b e = grind (arith, common_steps)

-- each value of `few` is a value of `more`
abbrev pub Covers : {E : Type 0} → (ℕ → Result ℤ E) → (ℕ → Result ℤ E) → Type 0
Covers few more = (k : ℕ) (v : ℤ) → few k ≡ Ok v → more k ≡ Ok v

pub value_covered : {E : Type 0} (none : E) (bases : ℕ → ℤ) (few more : ℕ → Result ℤ E) → Covers few more → (f : Form) (v : ℤ) → value_in none bases few f ≡ Ok v → value_in none bases more f ≡ Ok v
value_covered none bases few more h (lit n) v q = q
value_covered none bases few more h (sec k a) v q = q
value_covered none bases few more h (imp k) v q = h k v q
value_covered none bases few more h (prefix op f) v q = grind (arith, common_steps, (value_covered none bases few more h f))
value_covered none bases few more h (binary op f g) v q = grind (arith, common_steps, (value_covered none bases few more h f), (value_covered none bases few more h g))

module _ {E : Type 0} (p : Program) (o : LinkerView E) (h : IsLinkerView p o) where
  -- imports keep their values if the chains of exports may be one longer
  Reaches : ℕ → Type 0
  Reaches export_depth = (owner : ℕ) → Covers (o.imports export_depth owner) (o.imports (suc export_depth) owner)

  by_provider : (export_depth owner k : ℕ) (v : ℤ) → ((before : ℕ) → export_depth ≡ suc before → Reaches before) → (x : List ℕ) (g : Provider) → HasProviderValue p o owner k x g → o.imports export_depth owner k ≡ Ok v → o.imports (suc export_depth) owner k ≡ Ok v
  unfolding Reaches
  by_provider zero owner k v deeper x (by_module provider) given q = absurd (given.at_zero v q)
  by_provider (suc export_depth) owner k v deeper x (by_module provider) given q = grind (arith, common_steps, value_covered)
  by_provider export_depth owner k v deeper x (by_script u) given q = given (suc export_depth) ∙ sym (given export_depth) ∙ q
  by_provider export_depth owner k v deeper x by_nobody given q = absurd (given export_depth v q)

  by_name : (export_depth owner k : ℕ) (v : ℤ) → ((before : ℕ) → export_depth ≡ suc before → Reaches before) → (x : Option (List ℕ)) → ImportHasValue p o owner k x → o.imports export_depth owner k ≡ Ok v → o.imports (suc export_depth) owner k ≡ Ok v
  by_name export_depth owner k v deeper x1 given q = grind (arith, common_steps, by_provider)

  reaches : (export_depth : ℕ) → Reaches export_depth
  unfolding Reaches
  reaches zero owner k v q = by_name zero owner k v (λ before e. cc) (slice_get (o.symbols owner).imports k) (h.imports_agree owner k) q
  reaches (suc export_depth) owner k v q =
      let at_hand : Reaches export_depth = reaches export_depth in
      by_name (suc export_depth) owner k v (λ before e. let same : export_depth ≡ before = omega (arith, e) in subst Reaches same at_hand) (slice_get (o.symbols owner).imports k) (h.imports_agree owner k) q

  pub value_next : (export_depth owner : ℕ) (f : Form) (v : ℤ) → form_value o export_depth owner f ≡ Ok v → form_value o (suc export_depth) owner f ≡ Ok v
  unfolding Reaches
  value_next export_depth owner f v q = value_covered o.no_value_error (o.bases owner) (o.imports export_depth owner) (o.imports (suc export_depth) owner) (reaches export_depth owner) f v q

  pub value_later : (more export_depth owner : ℕ) (f : Form) (v : ℤ) → form_value o export_depth owner f ≡ Ok v → form_value o (more + export_depth) owner f ≡ Ok v
  value_later zero export_depth owner f v q = let same : zero + export_depth ≡ export_depth = omega arith in rw same q
  value_later (suc more) export_depth owner f v q = grind (arith, common_steps, (value_later more export_depth owner f v q), value_next)

-- ---- An expression has at most one value.

-- the derivation of an import's value, by the provider
abbrev pub FromProvider : Program → List ℕ → Provider → ℤ → Type 0
FromProvider p x (by_module provider) v = Value p provider (p.global_index provider) (name false (x ∷ [])) v
FromProvider p x (by_script u) v = u ≡ v
FromProvider p x by_nobody v = ⊥

abbrev pub FromMeaning : Program → ℕ → Option SymbolBinding → ℤ → Type 0
FromMeaning p owner None v = ⊥
FromMeaning p owner (Some (label_at definer)) v = p.address owner definer ≡ v
FromMeaning p owner (Some (constant_at definer f)) v = Value p owner definer f v
FromMeaning p owner (Some (import_of x)) v = FromProvider p x (p.provider x) v

abbrev pub From : Program → ℕ → ℕ → Tree → ℤ → Type 0
From p owner index (tree.number n) v = pos n ≡ v
From p owner index tree.here v = p.address owner index ≡ v
From p owner index (tree.unary op e) v = (a : ℤ) × Value p owner index e a × (value1 op a ≡ v)
From p owner index (tree.binary op e f) v = (a : ℤ) × (b : ℤ) × Value p owner index e a × Value p owner index f b × (value2 op a b ≡ Some v)
From p owner index e v = FromMeaning p owner (p.binding owner index e) v

-- if an expression has a binding, the binding's value is the expression's
by_meaning : (p : Program) (owner index : ℕ) (e : Tree) (v : ℤ) (m : SymbolBinding) → operand_binding p owner index e ≡ Some m → FromMeaning p owner (Some m) v → From p owner index e v
by_meaning p owner index x v m q h = grind (arith, common_steps)

pub inverse : (p : Program) {owner index : ℕ} {e : Tree} {v : ℤ} → Value p owner index e v → From p owner index e v
inverse p x1 = grind (arith, common_steps)

-- conversely, the expression's value is the value of its binding
pub of_meaning : (p : Program) (owner index : ℕ) (e : Tree) (v : ℤ) (m : SymbolBinding) → operand_binding p owner index e ≡ Some m → From p owner index e v → FromMeaning p owner (Some m) v
of_meaning p owner index x v m q h = grind (arith, common_steps)

unique : (p : Program) {owner index : ℕ} {e : Tree} {v : ℤ} → Value p owner index e v → (w : ℤ) → Value p owner index e w → v ≡ w
unique p number w h = inverse p h
unique p here w h = inverse p h
unique p (label {owner = owner} {index = index} {definer = definer} {e = e} m) w h = of_meaning p owner index e w (label_at definer) m (inverse p h)
unique p (constant {owner = owner} {index = index} {definer = definer} {e = e} {f = f} m d) w h = unique p d w (of_meaning p owner index e w (constant_at definer f) m (inverse p h))
unique p (exported {owner = owner} {index = index} {e = e} {x = x} m g d) w h = unique p d w (rw g at (of_meaning p owner index e w (import_of x) m (inverse p h)))
unique p (scripted {owner = owner} {index = index} {e = e} {x = x} m g) w h = rw g at (of_meaning p owner index e w (import_of x) m (inverse p h))
unique p (prefixed {op = op} d) w h = let (a, k, r) = inverse p h in ap (value1 op) (unique p d a k) ∙ r
unique p (joined {op = op} {a = a} {b = b} {v = v} d₁ d₂ q) w h =
    let (a', b', k₁, k₂, r) = inverse p h in
    let one : a ≡ a' = unique p d₁ a' k₁ in
    let two : b ≡ b' = unique p d₂ b' k₂ in
    let both : Some v ≡ Some w = sym q ∙ ap (λ z. value2 op z b) one ∙ ap (λ z. value2 op a' z) two ∙ r in
    cc both

pub one_value_law : ValueIsUnique
one_value_law p owner index e v w d h = unique p d w h

-- ---- The form of a name.

-- the form of a binding; constants are expanded to at most this depth
abbrev pub IsFormOf : {E : Type 0} → LinkerView E → ℕ → ℕ → Form → SymbolBinding → Type 0
IsFormOf o depth owner f (label_at index) = f ≡ address_of (o.contexts owner index)
IsFormOf o depth owner f (constant_at index e) = norm depth (o.symbols owner) (o.contexts owner index) e ≡ Ok f
IsFormOf o depth owner f (import_of x) = (k : ℕ) × (slice_get (o.symbols owner).imports k ≡ Some x) × (f ≡ imp k)

abbrev pub IsForm : {E : Type 0} → LinkerView E → ℕ → ℕ → Form → Option SymbolBinding → Type 0
IsForm o depth owner f (Some m) = IsFormOf o depth owner f m
IsForm o depth owner f None = (k : ℕ) × (slice_get (o.symbols owner).imports k ≡ None) × (f ≡ imp k)

module _ {E : Type 0} (p : Program) (o : LinkerView E) (h : IsLinkerView p o) where
  -- the form of an operand is the form of its binding
  pub operand : (depth owner index : ℕ) (e : Tree) (f : Form) → (binding_of (o.symbols owner) (o.contexts owner index) e >>= form_of_binding (norm depth (o.symbols owner)) (o.symbols owner)) ≡ Ok f → IsForm o depth owner f (p.binding owner index e)
  operand depth owner index e f q = grind (arith, common_steps)

  -- the form of an expression with a binding is the form of the binding
  pub meant : (depth owner index : ℕ) (e : Tree) (m : SymbolBinding) (f : Form) → operand_binding p owner index e ≡ Some m → norm (suc depth) (o.symbols owner) (o.contexts owner index) e ≡ Ok f → IsFormOf o depth owner f m
  meant depth owner index x m f w q = grind (arith, common_steps)

-- ---- An expression has the value of its normal form.

or_none_is : {E : Type 0} (none : E) (r : Option ℤ) (v : ℤ) → r ≡ Some v → or_none none r ≡ Ok v
or_none_is none x v q = grind (arith, common_steps)

or_none_from : {E : Type 0} (none : E) (r : Option ℤ) (v : ℤ) → or_none none r ≡ Ok v → r ≡ Some v
or_none_from none x v q = grind (arith, common_steps)

module _ {E : Type 0} (p : Program) (o : LinkerView E) (h : IsLinkerView p o) where
  -- the forms of an operation's operands
  one_part : (depth owner index : ℕ) (op : Op1) (e : Tree) (f : Form) → norm (suc depth) (o.symbols owner) (o.contexts owner index) (tree.unary op e) ≡ Ok f → (g : Form) × (norm (suc depth) (o.symbols owner) (o.contexts owner index) e ≡ Ok g) × (fold1 op g ≡ Ok f)
  one_part depth owner index op e f q = grind (arith, common_steps)

  two_parts : (depth owner index : ℕ) (op : Op2) (d e : Tree) (f : Form) → norm (suc depth) (o.symbols owner) (o.contexts owner index) (tree.binary op d e) ≡ Ok f → (g : Form) × (k : Form) × (norm (suc depth) (o.symbols owner) (o.contexts owner index) d ≡ Ok g) × (norm (suc depth) (o.symbols owner) (o.contexts owner index) e ≡ Ok k) × (fold2 op g k ≡ Ok f)
  two_parts depth owner index op d e f q =
      let (g, r, t) = bind_ok (norm (suc depth) (o.symbols owner) (o.contexts owner index) d) (λ g. norm (suc depth) (o.symbols owner) (o.contexts owner index) e >>= (λ k. fold_result (fold2 op g k))) f q in
      let (k, s, u) = bind_ok (norm (suc depth) (o.symbols owner) (o.contexts owner index) e) (λ k. fold_result (fold2 op g k)) f t in
      (g, k, r, s, folded_ok (fold2 op g k) f u)

  at_place : (export_depth owner index : ℕ) → form_value o export_depth owner (address_of (o.contexts owner index)) ≡ Ok (p.address owner index)
  at_place export_depth owner index = ap Ok (sym (h.addresses owner index))

  -- ---- From the whole program to the objects.
  export_of : (owner k : ℕ) (x : List ℕ) (provider : ℕ) → slice_get (o.symbols owner).imports k ≡ Some x → p.provider x ≡ by_module provider → ImportHasExportValue p o owner k x provider
  export_of owner k x provider there g = grind (arith, common_steps)

  value_of : (owner k : ℕ) (x : List ℕ) (provider : ℕ) (f : Form) (v : ℤ) (export : ImportHasExportValue p o owner k x provider) → f ≡ imp k → HasValue o provider export.form v → HasValue o owner f v
  value_of owner k x provider f v export same (export_depth, got) =
      let one : form_value o (suc export_depth) owner f ≡ o.imports (suc export_depth) owner k = ap (form_value o (suc export_depth) owner) same in
      (suc export_depth, one ∙ export.at_successor export_depth ∙ got)

  of_script : (owner k : ℕ) (x : List ℕ) (v : ℤ) → slice_get (o.symbols owner).imports k ≡ Some x → p.provider x ≡ by_script v → o.imports zero owner k ≡ Ok v
  of_script owner k x v there g = grind (arith, common_steps)

  linked : {owner index : ℕ} {e : Tree} {v : ℤ} → Value p owner index e v → (depth : ℕ) (f : Form) → norm depth (o.symbols owner) (o.contexts owner index) e ≡ Ok f → HasValue o owner f v
  linked d zero f q = cc
  linked (number {n = n}) (suc depth) f q = let same : lit (pos n) ≡ f = cc in (0, rw (← same) refl)
  linked (here {owner = owner} {index = index}) (suc depth) f q = grind (arith, common_steps, at_place)
  linked (label {owner = owner} {index = index} {definer = definer} {e = e} w) (suc depth) f q = grind (arith, common_steps, meant, at_place)
  linked (constant {owner = owner} {index = index} {definer = definer} {e = e} {f = g} w d) (suc depth) f q = linked d depth f (meant p o h depth owner index e (constant_at definer g) f w q)
  linked (exported {owner = owner} {index = index} {provider = provider} {e = e} {x = x} {v = v} w g d) (suc depth) f q =
      let (k, there, same) = meant p o h depth owner index e (import_of x) f w q in
      let export : ImportHasExportValue p o owner k x provider = export_of owner k x provider there g in
      value_of owner k x provider f v export same (linked d export.depth export.form export.normal)
  linked (scripted {owner = owner} {index = index} {e = e} {x = x} {v = v} w g) (suc depth) f q = grind (arith, common_steps, meant, of_script)
  linked (prefixed {owner = owner} {index = index} {op = op} {e = e} {a = a} d) (suc depth) f q = grind (arith, common_steps, (linked d (suc depth)))
  linked (joined {owner = owner} {index = index} {op = op} {e = d} {f = e} {a = a} {b = b} {v = v} d₁ d₂ w) (suc depth) f q =
      let (g, k, r, s, t) = two_parts depth owner index op d e f q in
      let (n₁, e₁) = linked d₁ (suc depth) g r in
      let (n₂, e₂) = linked d₂ (suc depth) k s in
      let turned : n₂ + n₁ ≡ n₁ + n₂ = omega arith in
      let u₁ : form_value o (n₁ + n₂) owner g ≡ Ok a = rw turned at (value_later p o h n₂ n₁ owner g a e₁) in
      let u₂ : form_value o (n₁ + n₂) owner k ≡ Ok b = value_later p o h n₁ n₂ owner k b e₂ in
      (n₁ + n₂, binary_fold_law E o.no_value_error (o.bases owner) (o.imports (n₁ + n₂) owner) op g k f t ∙ rw (u₁, u₂) (or_none_is o.no_value_error (value2 op a b) v w))

  -- ---- From the objects to the whole program.
  -- the induction hypothesis on `export_depth`: the value of a form is the value of its expression
  abbrev Below : ℕ → Type 0
  Below export_depth = (depth owner index : ℕ) (e : Tree) (f : Form) (v : ℤ) → norm depth (o.symbols owner) (o.contexts owner index) e ≡ Ok f → form_value o export_depth owner f ≡ Ok v → Value p owner index e v

  abbrev BelowExport : ℕ → Type 0
  BelowExport export_depth = (before : ℕ) → export_depth ≡ suc before → Below before

  -- the induction hypothesis on `depth`
  abbrev Through : ℕ → ℕ → Type 0
  Through export_depth depth = (owner index : ℕ) (e : Tree) (f : Form) (v : ℤ) → norm depth (o.symbols owner) (o.contexts owner index) e ≡ Ok f → form_value o export_depth owner f ≡ Ok v → Value p owner index e v

  import_back : (export_depth : ℕ) → BelowExport export_depth → (owner index k : ℕ) (e : Tree) (x : List ℕ) (v : ℤ) → operand_binding p owner index e ≡ Some (import_of x) → (g : Provider) → p.provider x ≡ g → HasProviderValue p o owner k x g → o.imports export_depth owner k ≡ Ok v → Value p owner index e v
  import_back zero below owner index k e x v w (by_module provider) g given d = absurd (given.at_zero v d)
  import_back (suc export_depth) below owner index k e x v w (by_module provider) g given d =
      exported w g (below export_depth refl given.depth provider (p.global_index provider) (tree.name false (x ∷ [])) given.form v given.normal (sym (given.at_successor export_depth) ∙ d))
  import_back export_depth below owner index k e x v w (by_script u) g given d =
      let both : Ok u ≡ Ok v = sym (given export_depth) ∙ d in
      let same : u ≡ v = cc both in
      scripted w (g ∙ ap by_script same)
  import_back export_depth below owner index k e x v w by_nobody g given d = absurd (given export_depth v d)

  meaning_back : (export_depth : ℕ) → BelowExport export_depth → (depth : ℕ) → Through export_depth depth → (owner index : ℕ) (e : Tree) (f : Form) (v : ℤ) (m : Option SymbolBinding) → operand_binding p owner index e ≡ m → IsForm o depth owner f m → form_value o export_depth owner f ≡ Ok v → Value p owner index e v
  meaning_back export_depth below depth through owner index e f v None w (k, there, same) d = grind (arith, common_steps)
  meaning_back export_depth below depth through owner index e f v (Some (label_at definer)) w same d =
      let there : Ok (p.address owner definer) ≡ Ok v = sym (at_place export_depth owner definer) ∙ (rw same at d) in
      let one : p.address owner definer ≡ v = cc there in
      subst (λ z. Value p owner index e z) one (label w)
  meaning_back export_depth below depth through owner index e f v (Some (constant_at definer g)) w q d = constant w (through owner definer g f v q d)
  meaning_back export_depth below depth through owner index e f v (Some (import_of x)) w (k, there, same) d = grind (arith, common_steps, import_back)

  expression_back : (export_depth : ℕ) → BelowExport export_depth → (depth : ℕ) → Through export_depth depth → (owner index : ℕ) (e : Tree) (f : Form) (v : ℤ) → norm (suc depth) (o.symbols owner) (o.contexts owner index) e ≡ Ok f → form_value o export_depth owner f ≡ Ok v → Value p owner index e v
  expression_back export_depth below depth through owner index (tree.number n) f v q d = let one : pos n ≡ v = grind (arith, common_steps) in subst (λ z. Value p owner index (tree.number n) z) one number
  expression_back export_depth below depth through owner index tree.here f v q d = let one : p.address owner index ≡ v = grind (arith, common_steps) in subst (λ z. Value p owner index tree.here z) one here
  expression_back export_depth below depth through owner index (tree.unary op e) f v q d =
      let (g, r, t) = one_part depth owner index op e f q in
      let whole : (form_value o export_depth owner g >>= (λ a. Ok (value1 op a))) ≡ Ok v = sym (prefix_fold_law E o.no_value_error (o.bases owner) (o.imports export_depth owner) op g f t) ∙ d in
      let (a, u, w) = bind_ok (form_value o export_depth owner g) (λ a. Ok (value1 op a)) v whole in
      let one : value1 op a ≡ v = cc w in
      subst (λ z. Value p owner index (tree.unary op e) z) one (prefixed (expression_back export_depth below depth through owner index e g a r u))
  expression_back export_depth below depth through owner index (tree.binary op c e) f v q d =
      let (g, k, r, s, t) = two_parts depth owner index op c e f q in
      let whole : (form_value o export_depth owner g >>= (λ a. form_value o export_depth owner k >>= (λ b. or_none o.no_value_error (value2 op a b)))) ≡ Ok v = sym (binary_fold_law E o.no_value_error (o.bases owner) (o.imports export_depth owner) op g k f t) ∙ d in
      let (a, u, rest) = bind_ok (form_value o export_depth owner g) (λ a. form_value o export_depth owner k >>= (λ b. or_none o.no_value_error (value2 op a b))) v whole in
      let (b, w, last) = bind_ok (form_value o export_depth owner k) (λ b. or_none o.no_value_error (value2 op a b)) v rest in
      joined (expression_back export_depth below depth through owner index c g a r u) (expression_back export_depth below depth through owner index e k b s w) (or_none_from o.no_value_error (value2 op a b) v last)
  expression_back export_depth below depth through owner index e f v q d = meaning_back export_depth below depth through owner index e f v (p.binding owner index e) refl (operand p o h depth owner index e f q) d

  through_back : (export_depth : ℕ) → BelowExport export_depth → (depth : ℕ) → Through export_depth depth
  through_back export_depth below zero owner index e f v q d = cc
  through_back export_depth below (suc depth) owner index e f v q d = expression_back export_depth below depth (through_back export_depth below depth) owner index e f v q d

  linked_back : (export_depth : ℕ) → Below export_depth
  linked_back zero depth owner index e f v q d = through_back zero (λ before e. cc) depth owner index e f v q d
  linked_back (suc export_depth) depth owner index e f v q d = grind (arith, common_steps, through_back, (linked_back export_depth))

pub same_values_law : (E : Type 0) → NormalFormPreservesValue E
same_values_law E p o h depth owner index e f v q = (λ d. linked p o h d depth f q, λ found. linked_back p o h found.0 depth owner index e f v q found.1)
