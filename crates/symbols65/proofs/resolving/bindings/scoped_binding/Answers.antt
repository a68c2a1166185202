use Rattle.std.proofs.Common.{◌≡◌, None, Some, Err, take, ap, ◌∙◌, sym}
use Rattle.std.specs.Option.{ok_or, option_map}
use Rattle.ast65.specs.declared.fault.AsmFault.TheVariants.{NoSuchScope, Undefined}
use Rattle.semantics65.specs.Symbols.{last_of, member_binding, scope_from, scope_path, display_name}
use Rattle.symbols65.specs.Internal.BindingFaults.{scoped_name_fault}
use Rattle.symbols65.specs.Resolving.{binding_in}
use Rattle.symbols65.specs.Views.{table_of}
use Rattle.symbols65.proofs.resolving.bindings.scoped_binding.Goals as goal

pub returns-in_err-inner : goal.returns-in_err-inner
returns-in_err-inner c =
    let y = table_of c.args.symbols.now in
    let name = c.args.name.now in
    let text = display_name name.is_global name.parts in
    let before = take c.args.context.opened y.scopes in
    let nowhere : scope_from before c.args.context.scope name.is_global (scope_path name.parts) ≡ None = ap (scope_from before c.args.context.scope name.is_global) (ap scope_path (sym c.as_slice-parts.ensures) ∙ sym c.scopes_in.ensures) ∙ sym c.in_err-inner.ensures in
    ap (member_binding y (last_of name.parts) (Undefined text) (NoSuchScope text)) nowhere ∙ sym (ap (λ o. Err (scoped_name_fault o text)) nowhere) ∙ sym (ap (λ b. ok_or (option_map binding_in b) (scoped_name_fault (scope_from before c.args.context.scope name.is_global (scope_path name.parts)) text)) c.from_residual.ensures)

pub returns : goal.returns
returns c =
    let y = table_of c.args.symbols.now in
    let name = c.args.name.now in
    let text = display_name name.is_global name.parts in
    let before = take c.args.context.opened y.scopes in
    let there : scope_from before c.args.context.scope name.is_global (scope_path name.parts) ≡ Some c.in_ok-inner.inner = ap (scope_from before c.args.context.scope name.is_global) (ap scope_path (sym c.as_slice-parts.ensures) ∙ sym c.scopes_in.ensures) ∙ sym c.in_ok-inner.ensures in
    ap (member_binding y (last_of name.parts) (Undefined text) (NoSuchScope text)) there
    ∙ ap (λ n. member_binding y n (Undefined text) (NoSuchScope text) (Some c.in_ok-inner.inner)) (ap last_of (sym c.as_slice-parts.ensures) ∙ sym c.last_in.ensures)
    ∙ c.member_binding.ensures (Undefined text) (NoSuchScope text)
    ∙ sym (ap (λ o. ok_or (option_map binding_in c.member_binding.result) (scoped_name_fault o text)) there)
