use Rattle.std.proofs.Common.{◌≡◌, ◌∙◌, ◌≤◌, ℕ, Bool, true, false, List, [], ◌∷◌, None, Some, Ok, option_map, sym, ap, subst, arith}
use Rattle.std.proofs.lemmas.Bool.Decides.{nat_tests}
use Rattle.syntax65.specs.Kinds.{tree_of}
use Rattle.syntax65.specs.Trees.{Tree, name}
use Rattle.semantics65.specs.Symbols.{Symbols, binding_of, defined_at}
use Rattle.semantics65.specs.declared.contexts.Context.{Context}
use Rattle.symbols65.specs.Resolving.{HasFinalBinding, plain_part}
use Rattle.symbols65.specs.Views.{table_of}
use Rattle.symbols65.proofs.Finals.{backward_final, cheap_final, own_final, scoped_final}
use Rattle.symbols65.proofs.resolving.finals.is_final.Goals as goal

plain_name : (global : Bool) (parts : List (List ℕ)) (n : List ℕ) → plain_part global parts ≡ Some n → name false (n ∷ []) ≡ name global parts
plain_name true parts n e = absurd cc
plain_name false [] n e = absurd cc
plain_name false (m ∷ []) n e = (let same : m ≡ n = cc in ap (λ (k : List ℕ). name false (k ∷ [])) (sym same))
plain_name false (m ∷ k ∷ parts) n e = absurd cc

-- an equal operand has a final binding, too
transferred : (y : Symbols) (s : Context) (e f : Tree) (j : ℕ) → e ≡ f → (binding_of y s e ≡ Ok (defined_at j) → HasFinalBinding y s e j) → binding_of y s f ≡ Ok (defined_at j) → HasFinalBinding y s f j
transferred y s e f j same h = subst (λ (e : Tree). binding_of y s e ≡ Ok (defined_at j) → HasFinalBinding y s e j) same h

pub returns-in-Plain : goal.returns-in-Plain
returns-in-Plain c = λ yes means.
    (let (m, key) = c.is_in.ensures yes in
    transferred _ c.args.context _ _ _ (sym (ap tree_of c.in-Plain.is) ∙ c.kind.ensures) (own_final c.args.symbols.now c.args.context c.in-Plain.field-0 m c.args.index key) means)

pub returns-in-Some : goal.returns-in-Some
returns-in-Some c = λ yes means.
    (let written = c.in-Scoped.name in
    let (m, key) = c.is_in-in-Some.ensures yes in
    let plain : plain_part written.is_global written.parts ≡ Some c.in-Some.field-0.now = sym c.plain_part.ensures ∙ ap (option_map (λ n. n.now)) c.in-Some.is in
    transferred _ c.args.context _ _ _ (plain_name written.is_global written.parts c.in-Some.field-0.now plain ∙ sym (ap tree_of c.in-Scoped.is) ∙ c.kind.ensures) (own_final c.args.symbols.now c.args.context c.in-Some.field-0.now m c.args.index key) means)

pub returns-in-None : goal.returns-in-None
returns-in-None c = λ yes means.
    (let s = c.args.context in
    let written = c.in-Scoped.name in
    let plain : plain_part written.is_global written.parts ≡ None = sym c.plain_part.ensures ∙ ap (option_map (λ n. n.now)) c.in-None.is in
    let count = c.scope_count.ensures in
    let few : s.opened ≤ c.scope_count.result = grind (arith, nat_tests) in
    transferred _ c.args.context _ _ _ (sym (ap tree_of c.in-Scoped.is) ∙ c.kind.ensures) (scoped_final (table_of c.args.symbols.now) s written.is_global written.parts c.args.index plain (omega (arith, few, count))) means)

pub returns-in-Cheap : goal.returns-in-Cheap
returns-in-Cheap c = λ yes means.
    transferred _ c.args.context _ _ _ (sym (ap tree_of c.in-Cheap.is) ∙ c.kind.ensures) (cheap_final (table_of c.args.symbols.now) c.args.context c.in-Cheap.field-0 c.args.index) means

pub returns-in-Backward : goal.returns-in-Backward
returns-in-Backward c = λ yes means.
    transferred _ c.args.context _ _ _ (sym (ap tree_of c.in-Backward.is) ∙ c.kind.ensures) (backward_final (table_of c.args.symbols.now) c.args.context c.in-Backward.field-0 c.args.index) means
