-- Forms that are numbers or addresses.
use Rattle.std.proofs.Common.{ℕ, suc, ◌≡◌, ◌∙◌, ◌⊎◌, inl, inr, Option, Some, None, refl, sym, ap, arith, Bool, true, false, Result, Ok, Err}
use Rattle.std.specs.Prelude.{nat_le, if◌then◌else◌}
use Rattle.syntax65.specs.Trees.{Tree, number, here, unary, binary}
use Rattle.semantics65.specs.declared.contexts.Context.{Context}
use Rattle.semantics65.specs.Symbols.{Binding, binding_of, Symbols}
use Rattle.semantics65.specs.Norms.{form_of_binding, literal_in, fold_result, norm}
use Rattle.symbols65.specs.Resolving.{binary_form, plain_form, plain_result, prefix_form}
use Rattle.std.proofs.lemmas.Grind.{common_steps}
use Rattle.std.specs.Option.{option_and_then}
use Rattle.std.specs.Result.{result_ok}
use Rattle.base65.specs.Outcome.{◌>>=◌}
use Rattle.base65.specs.declared.values.Op1.{Op1}
use Rattle.base65.specs.declared.values.Op2.{Op2}
use Rattle.base65.specs.declared.values.Op2.TheVariants.{Add, Subtract}
use Rattle.object65.specs.Form as form
use Rattle.object65.specs.Form.{Form, lit, sec, imp, prefix, nodes}
use Rattle.object65.specs.Folding.{fold1, fold2, fold_numbers, fold_difference, fold_sum, within_node_limit, node_limit}
use Rattle.object65.specs.declared.folding.FormFault.{FormFault}
use Rattle.object65.specs.declared.folding.FormFault.TheVariants as fault
use Rattle.ast65.specs.declared.fault.AsmFault.{AsmFault}

-- ---- The number or address of an operation depends only on those of its operands.

pub folded_plain : (x : Result Form FormFault) → option_and_then plain_form (result_ok x) ≡ plain_result (fold_result x)
folded_plain (Ok f) = refl
folded_plain (Err fault.OutOfMemory) = refl
folded_plain (Err fault.NoValue) = refl
folded_plain (Err fault.TooLarge) = refl

-- if a form is no number and no address, neither is the result of the check of its size
limited_plain : (f : Form) → plain_form f ≡ None → plain_result (fold_result (within_node_limit f)) ≡ None
limited_plain f none = by (nat_le (nodes f) node_limit)
  where
    by : (b : Bool) → plain_result (fold_result (if b then Ok f else Err fault.TooLarge)) ≡ None
    by true = none
    by false = refl

any_mixed : (op : Op2) (f g : Form) → (plain_form f ≡ None) ⊎ (plain_form g ≡ None) → plain_result (fold_result (fold_numbers op f g)) ≡ None
any_mixed op (imp k) g h = limited_plain (form.binary op (imp k) g) refl
any_mixed op (prefix o f) g h = limited_plain (form.binary op (prefix o f) g) refl
any_mixed op (form.binary o f k) g h = limited_plain (form.binary op (form.binary o f k) g) refl
any_mixed op (sec k a) g h = limited_plain (form.binary op (sec k a) g) refl
any_mixed op (lit v) (imp k) h = limited_plain (form.binary op (lit v) (imp k)) refl
any_mixed op (lit v) (prefix o f) h = limited_plain (form.binary op (lit v) (prefix o f)) refl
any_mixed op (lit v) (form.binary o f k) h = limited_plain (form.binary op (lit v) (form.binary o f k)) refl
any_mixed op (lit v) (sec k a) h = limited_plain (form.binary op (lit v) (sec k a)) refl
any_mixed op (lit v) (lit w) (inl e) = absurd cc
any_mixed op (lit v) (lit w) (inr e) = absurd cc

sum_mixed : (f g : Form) → (plain_form f ≡ None) ⊎ (plain_form g ≡ None) → plain_result (fold_result (fold_sum f g)) ≡ None
sum_mixed (lit v) (sec k a) (inl e) = absurd cc
sum_mixed (lit v) (sec k a) (inr e) = absurd cc
sum_mixed (sec k a) (lit v) (inl e) = absurd cc
sum_mixed (sec k a) (lit v) (inr e) = absurd cc
sum_mixed (lit v) (lit w) h = any_mixed Add (lit v) (lit w) h
sum_mixed (lit v) (imp k) h = any_mixed Add (lit v) (imp k) h
sum_mixed (lit v) (prefix o f) h = any_mixed Add (lit v) (prefix o f) h
sum_mixed (lit v) (form.binary o f g) h = any_mixed Add (lit v) (form.binary o f g) h
sum_mixed (sec k a) (sec m b) h = any_mixed Add (sec k a) (sec m b) h
sum_mixed (sec k a) (imp m) h = any_mixed Add (sec k a) (imp m) h
sum_mixed (sec k a) (prefix o f) h = any_mixed Add (sec k a) (prefix o f) h
sum_mixed (sec k a) (form.binary o f g) h = any_mixed Add (sec k a) (form.binary o f g) h
sum_mixed (imp k) g h = any_mixed Add (imp k) g h
sum_mixed (prefix o f) g h = any_mixed Add (prefix o f) g h
sum_mixed (form.binary o f k) g h = any_mixed Add (form.binary o f k) g h

difference_mixed : (f g : Form) → (plain_form f ≡ None) ⊎ (plain_form g ≡ None) → plain_result (fold_result (fold_difference f g)) ≡ None
difference_mixed (sec k a) (sec m b) (inl e) = absurd cc
difference_mixed (sec k a) (sec m b) (inr e) = absurd cc
difference_mixed (sec k a) (lit v) (inl e) = absurd cc
difference_mixed (sec k a) (lit v) (inr e) = absurd cc
difference_mixed (sec k a) (imp m) h = any_mixed Subtract (sec k a) (imp m) h
difference_mixed (sec k a) (prefix o f) h = any_mixed Subtract (sec k a) (prefix o f) h
difference_mixed (sec k a) (form.binary o f g) h = any_mixed Subtract (sec k a) (form.binary o f g) h
difference_mixed (lit v) g h = any_mixed Subtract (lit v) g h
difference_mixed (imp k) g h = any_mixed Subtract (imp k) g h
difference_mixed (prefix o f) g h = any_mixed Subtract (prefix o f) g h
difference_mixed (form.binary o f k) g h = any_mixed Subtract (form.binary o f k) g h

both_mixed : (op : Op2) (f g : Form) → (plain_form f ≡ None) ⊎ (plain_form g ≡ None) → plain_result (fold_result (fold2 op f g)) ≡ None
both_mixed x f g h = grind (arith, common_steps, sum_mixed, difference_mixed, any_mixed)

plain_is : (f p : Form) → plain_form f ≡ Some p → f ≡ p
plain_is (lit v) p e = cc
plain_is (sec k a) p e = cc
plain_is _ p e = absurd cc

pub prefix_plain : (op : Op1) (r : Result Form AsmFault) → option_and_then plain_form (prefix_form op (plain_result r)) ≡ plain_result (r >>= (λ f. fold_result (fold1 op f)))
prefix_plain op (Err e) = refl
prefix_plain op (Ok (lit v)) = folded_plain (fold1 op (lit v))
prefix_plain op (Ok (sec k a)) = folded_plain (fold1 op (sec k a))
prefix_plain op (Ok (imp k)) = grind (arith, common_steps, limited_plain)
prefix_plain op (Ok (prefix o f)) = grind (arith, common_steps, limited_plain)
prefix_plain op (Ok (form.binary o f g)) = grind (arith, common_steps, limited_plain)

pub left_alone : (op : Op2) (o : Option Form) → binary_form op o None ≡ None
left_alone op None = refl
left_alone op (Some f) = refl

pub binary_plain : (op : Op2) (r s : Result Form AsmFault) → option_and_then plain_form (binary_form op (plain_result r) (plain_result s)) ≡ plain_result (r >>= (λ f. s >>= (λ g. fold_result (fold2 op f g))))
binary_plain op (Err e) s = refl
binary_plain op (Ok f) (Err e) = ap (option_and_then plain_form) (left_alone op (plain_form f))
binary_plain op (Ok f) (Ok g) = by (plain_form f) (plain_form g) refl refl
  where
    by : (o p : Option Form) → plain_form f ≡ o → plain_form g ≡ p → option_and_then plain_form (binary_form op o p) ≡ plain_result (fold_result (fold2 op f g))
    by None p is at = sym (both_mixed op f g (inl is))
    by (Some q) None is at = sym (both_mixed op f g (inr at))
    by (Some q) (Some w) is at =
        folded_plain (fold2 op q w)
        ∙ ap (λ (x : Form). plain_result (fold_result (fold2 op x w))) (sym (plain_is f q is))
        ∙ ap (λ (x : Form). plain_result (fold_result (fold2 op f x))) (sym (plain_is g w at))

-- ---- The values of forms that are numbers or addresses.

literal_plain : (f : Form) → option_and_then (λ g. literal_in (Ok g)) (plain_form f) ≡ literal_in (Ok f)
literal_plain (lit v) = refl
literal_plain _ = refl

pub plain_known : (r : Result Form AsmFault) → option_and_then (λ f. literal_in (Ok f)) (plain_result r) ≡ literal_in r
plain_known (Ok f) = literal_plain f
plain_known (Err e) = refl

-- the constant value of a form depends only on its number or address
pub plain_value : (o : Option Form) → option_and_then (λ f. literal_in (Ok f)) o ≡ option_and_then (λ f. literal_in (Ok f)) (option_and_then plain_form o)
plain_value None = refl
plain_value (Some f) = sym (literal_plain f)

pub plain_twice : (f : Form) → option_and_then plain_form (plain_form f) ≡ plain_form f
plain_twice (lit v) = refl
plain_twice _ = refl

pub plain_again : (r : Result Form AsmFault) → option_and_then plain_form (plain_result r) ≡ plain_result r
plain_again (Ok f) = plain_twice f
plain_again (Err e) = refl

-- ---- Operands.

-- the normal form of an operand with a binding is the form of the binding
pub operand_norm : (n : ℕ) (y : Symbols) (s : Context) (e : Tree) (m : Binding) → binding_of y s e ≡ Ok m → norm (suc n) y s e ≡ form_of_binding (norm n y) y m
operand_norm n y s (number v) m h = absurd cc
operand_norm n y s here m h = absurd cc
operand_norm n y s (unary op e) m h = absurd cc
operand_norm n y s (binary op e g) m h = absurd cc
operand_norm n y s _ m h = ap (λ r. r >>= form_of_binding (norm n y) y) h
