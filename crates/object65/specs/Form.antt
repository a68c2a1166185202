-- Normal forms as trees, without boxes.
use Rattle.std.specs.Prelude.{◌≡◌, ℕ, ◌+◌, ℤ}
use Rattle.std.proofs.Common.{ap, ◌∙◌, sym}
use Rattle.std.specs.Coded.{Coded, coded_ℤ}
use base.Stored.{Gv, gnum, gcons}
use Rattle.base65.specs.declared.values.Op1.{Op1}
use Rattle.base65.specs.declared.values.Op2.{Op2}
use Rattle.object65.specs.Operators.{number1, op1_of, op1_of-number1, number2, op2_of, op2_of-number2}

pub data Form : Type 0 where
  lit : ℤ → Form
  sec : ℕ → ℤ → Form
  imp : ℕ → Form
  prefix : Op1 → Form → Form
  binary : Op2 → Form → Form → Form

abbrev pub nodes : Form → ℕ
nodes (lit v) = 1
nodes (sec k a) = 1
nodes (imp j) = 1
nodes (prefix op f) = nodes f + 1
nodes (binary op f g) = nodes f + nodes g + 1

-- a form as a tree of numbers; the map is injective
abbrev pub form_encoding : Form → Gv
form_encoding (lit v) = gcons (gnum 0) (coded_ℤ.code v)
form_encoding (sec k a) = gcons (gnum 1) (gcons (gnum k) (coded_ℤ.code a))
form_encoding (imp j) = gcons (gnum 2) (gnum j)
form_encoding (prefix op f) = gcons (gnum 3) (gcons (gnum (number1 op)) (form_encoding f))
form_encoding (binary op f g) = gcons (gnum 4) (gcons (gnum (number2 op)) (gcons (form_encoding f) (form_encoding g)))

same1 : (p q : Op1) → number1 p ≡ number1 q → p ≡ q
same1 p q e = sym (op1_of-number1 p) ∙ ap op1_of e ∙ op1_of-number1 q

same2 : (p q : Op2) → number2 p ≡ number2 q → p ≡ q
same2 p q e = sym (op2_of-number2 p) ∙ ap op2_of e ∙ op2_of-number2 q

pub same_form : (f g : Form) → form_encoding f ≡ form_encoding g → f ≡ g
same_form (lit v) (lit w) e = let same : coded_ℤ.code v ≡ coded_ℤ.code w = cc in ap lit (coded_ℤ.inj v w same)
same_form (lit v) (sec m b) e = cc
same_form (lit v) (imp i) e = cc
same_form (lit v) (prefix oq g) e = cc
same_form (lit v) (binary oq h i) e = cc
same_form (sec k a) (lit w) e = cc
same_form (sec k a) (sec m b) e = let same : coded_ℤ.code a ≡ coded_ℤ.code b = cc in let at : k ≡ m = cc in let off = coded_ℤ.inj a b same in λ n. sec (at n) (off n)
same_form (sec k a) (imp i) e = cc
same_form (sec k a) (prefix oq g) e = cc
same_form (sec k a) (binary oq h i) e = cc
same_form (imp j) (lit w) e = cc
same_form (imp j) (sec m b) e = cc
same_form (imp j) (imp i) e = cc
same_form (imp j) (prefix oq g) e = cc
same_form (imp j) (binary oq h i) e = cc
same_form (prefix op f) (lit w) e = cc
same_form (prefix op f) (sec m b) e = cc
same_form (prefix op f) (imp i) e = cc
same_form (prefix op f) (prefix oq g) e = let same : form_encoding f ≡ form_encoding g = cc in let o : number1 op ≡ number1 oq = cc in λ n. prefix (same1 op oq o n) (same_form f g same n)
same_form (prefix op f) (binary oq h i) e = cc
same_form (binary op f g) (lit w) e = cc
same_form (binary op f g) (sec m b) e = cc
same_form (binary op f g) (imp i) e = cc
same_form (binary op f g) (prefix oq h) e = cc
same_form (binary op f g) (binary oq h i) e = let left : form_encoding f ≡ form_encoding h = cc in let right : form_encoding g ≡ form_encoding i = cc in let o : number2 op ≡ number2 oq = cc in λ n. binary (same2 op oq o n) (same_form f h left n) (same_form g i right n)

abbrev pub form_code : Coded Form
form_code = record { code = form_encoding; inj = same_form }
