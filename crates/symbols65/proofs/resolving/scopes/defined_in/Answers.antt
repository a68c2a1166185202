use Rattle.std.proofs.Common.{rules, ◌≡◌, ◌≢◌, ℕ, zero, suc, List, None, arith, refl, sym, false}
use Rattle.std.proofs.lemmas.Bool.Decides.{nat_tests}
use Rattle.semantics65.specs.Symbols.{Symbols, definition_index, named}
use Rattle.symbols65.specs.Views.{table_of}
use Rattle.symbols65.proofs.resolving.scopes.defined_in.Goals as goal

only_global : (y : Symbols) (n : List ℕ) (scope : ℕ) → (scope ≡ 0 → ⊥) → ((inner : ℕ) → definition_index y (named (suc inner) n) ≡ None) → None ≡ definition_index y (named scope n)
only_global y n zero h none = absurd (h refl)
only_global y n (suc i) h none = sym (none i)

pub returns-then-scope-ne-GLOBAL : goal.returns-then-scope-ne-GLOBAL
returns-then-scope-ne-GLOBAL c = λ n at.
    (let inner : c.args.is_inner ≡ false = search rules in
    only_global (table_of c.args.symbols.now) n c.args.scope (let other = c.if-scope-ne-GLOBAL.true in let isnt : c.args.scope ≢ 0 = grind (arith, nat_tests) in isnt) (λ i. c.requires inner i n at))
