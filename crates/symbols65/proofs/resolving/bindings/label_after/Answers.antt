use Rattle.std.proofs.Common.{rules, arith, ◌≡◌, ◌+◌, ◌-◌, ◌^◌, ◌≤◌, None, ap}
use Rattle.ast65.specs.declared.fault.AsmFault.TheVariants.{NoSuchLabel}
use Rattle.semantics65.specs.Symbols.{binding_or_fault}
use Rattle.symbols65.specs.Views.{interned_names_of}
use Rattle.symbols65.proofs.InternedNames.{never_counted}
use Rattle.symbols65.proofs.resolving.bindings.label_after.Goals as goal

pub returns-in_err-count-in-Some : goal.returns-in_err-count-in-Some
returns-in_err-count-in-Some c =
    let t = c.args.symbols.now in
    let count = c.args.before + c.args.steps - 1 in
    let following : 1 ≤ c.args.steps = search (rules, c.in-Some.ensures) in
    let more : c.in-Some.more ≡ c.args.steps - 1 = search (rules, c.in-Some.ensures) in
    let past : 2 ^ 64 ≤ c.args.before + c.in-Some.more = search (rules, c.in_err-count-in-Some.ensures) in
    let never : 2 ^ 64 ≤ count = omega (arith, following, more, past) in
    rw c.from_residual.ensures (ap (λ o. binding_or_fault NoSuchLabel o None) (never_counted (interned_names_of t) t.definitions.entries count t.entries_numbered t.counts_fit never))
