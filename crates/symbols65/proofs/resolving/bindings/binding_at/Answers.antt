use Rattle.std.proofs.Common.{◌≡◌, None, Some, ap, ◌∙◌, sym}
use Rattle.std.specs.Option.{ok_or, option_map}
use Rattle.syntax65.specs.Kinds.{tree_of}
use Rattle.syntax65.specs.Trees.{name}
use Rattle.semantics65.specs.Symbols.{binding_of}
use Rattle.symbols65.specs.Internal.BindingFaults.{binding_fault, name_fault}
use Rattle.symbols65.specs.Resolving.{binding_in, plain_part}
use Rattle.symbols65.specs.Views.{table_of}
use Rattle.symbols65.proofs.Scopes.{name_is, name_meaning}
use Rattle.symbols65.proofs.resolving.bindings.binding_at.Goals as goal

pub returns-in-Some : goal.returns-in-Some
returns-in-Some c =
    let y = table_of c.args.symbols.now in
    let s = c.args.context in
    let n = c.in-Scoped.name in
    let tree : c.args.operand.now ≡ name n.is_global n.parts = sym c.kind.ensures ∙ ap tree_of c.in-Scoped.is in
    let plain : plain_part n.is_global n.parts ≡ Some c.in-Some.part.now = sym c.plain_part.ensures ∙ ap (option_map (λ n. n.now)) c.in-Some.is in
    ap (binding_of y s) tree
    ∙ name_is y s n.is_global n.parts
    ∙ ap (name_meaning y s n.is_global n.parts) plain
    ∙ c.plain_binding-in-Some.ensures
    ∙ sym (ap (ok_or (option_map binding_in c.plain_binding-in-Some.result)) (ap (binding_fault y s) tree ∙ ap (name_fault y s n.is_global n.parts) plain))

pub returns-in-None : goal.returns-in-None
returns-in-None c =
    let y = table_of c.args.symbols.now in
    let s = c.args.context in
    let n = c.in-Scoped.name in
    let tree : c.args.operand.now ≡ name n.is_global n.parts = sym c.kind.ensures ∙ ap tree_of c.in-Scoped.is in
    let scoped : plain_part n.is_global n.parts ≡ None = sym c.plain_part.ensures ∙ ap (option_map (λ n. n.now)) c.in-None.is in
    ap (binding_of y s) tree
    ∙ name_is y s n.is_global n.parts
    ∙ ap (name_meaning y s n.is_global n.parts) scoped
    ∙ c.scoped_binding.ensures
    ∙ sym (ap (ok_or (option_map binding_in c.scoped_binding.result)) (ap (binding_fault y s) tree ∙ ap (name_fault y s n.is_global n.parts) scoped))
