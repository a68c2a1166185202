use Rattle.std.proofs.Common.{◌≡◌, ◌∙◌, refl}
use Rattle.symbols65.specs.contracts.table.symbols.ScopeKeyPartialEq.TheImpl.{eq-value}
use Rattle.symbols65.specs.declared.table.symbols.ScopeKey.{ScopeKey}
use Rattle.symbols65.specs.declared.table.symbols.ScopeKey.TheVariants as opening
use Rattle.symbols65.specs.Tables.{same_scope_key}
use Rattle.symbols65.proofs.TableGrowth.{inserted_by}
use Rattle.symbols65.proofs.table.push_scope.Goals as goal

agree : (x y : ScopeKey) → eq-value.it x y ≡ same_scope_key x y
agree (opening.Named s w) (opening.Named t v) = refl
agree (opening.Named s w) (opening.Nameless t v) = refl
agree (opening.Nameless s w) (opening.Named t v) = refl
agree (opening.Nameless s w) (opening.Nameless t v) = refl

pub returns-in-Ok-clause-pushed : goal.returns-in-Ok-clause-pushed
returns-in-Ok-clause-pushed c = c.in-Ok.ensures.entries ∙ inserted_by eq-value.it same_scope_key agree c.args.scopes.now.entries c.args.scope_key c.args.is_proc c.requires
