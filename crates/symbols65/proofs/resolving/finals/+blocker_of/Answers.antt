use Rattle.std.proofs.Common.{◌≡◌, ◌∙◌, IfSome, Ok, ap, subst, sym}
use Rattle.syntax65.specs.Kinds.{tree_of}
use Rattle.syntax65.specs.Trees.{Tree, binary}
use Rattle.std.specs.Option.{ok_or, option_map}
use Rattle.semantics65.specs.Symbols.{binding_of, defined_at}
use Rattle.symbols65.specs.Internal.BindingFaults.{binding_fault}
use Rattle.symbols65.specs.Resolving.{IsBlocked, IsBlockedAt, binding_in}
use Rattle.symbols65.specs.Views.{table_of}
use Rattle.symbols65.proofs.Blockers.{either_blocks, if_some, operand_blocked, right_blocked}
use Rattle.symbols65.proofs.resolving.finals.+blocker_of.Goals as goal

pub returns-in-None : goal.returns-in-None
returns-in-None t c =
    let y = table_of c.args.symbols.now in
    let s = c.args.context in
    let e = c.in-Binary.operands.value.left in
    let g = c.in-Binary.operands.value.right in
    let whole : binary c.in-Binary.field-0 e g ≡ c.args.value.now = sym (ap tree_of c.in-Binary.is) ∙ c.kind.ensures in
    let right : IfSome c.blocker_of-in-None.result (IsBlocked y s g) = subst (λ (v : Tree). IfSome c.blocker_of-in-None.result (IsBlocked y s v)) (ap (λ v. v.right) c.deref-in-None.ensures) c.blocker_of-in-None.ensures in
    subst (λ (v : Tree). IfSome c.blocker_of-in-None.result (IsBlocked y s v)) whole
    (if_some c.blocker_of-in-None.result (λ r h. right_blocked y s c.in-Binary.field-0 e g r h) right)

pub returns-in-Some-None : goal.returns-in-Some-None
returns-in-Some-None t c =
    let y = table_of c.args.symbols.now in
    let s = c.args.context in
    let e = c.args.value.now in
    let j = c.in-Defined.index in
    let means : binding_of y s e ≡ Ok (defined_at j) =
    c.binding_at.ensures
    ∙ ap (λ o. ok_or (option_map binding_in o) (binding_fault y s e)) c.in_ok-index-in-Plain.was
    ∙ ap (λ m. Ok (binding_in m)) c.in-Defined.is in
    operand_blocked y s e j _ (c.is_final.ensures c.if-not-is_final.false means)
    (subst (IsBlockedAt y j) (sym c.unwrap_or.ensures) (either_blocks y j _ _ c.in_ok-definition-in-Plain.ensures.definition c.in_ok-definition-in-Plain.ensures.forms.1))
