use Rattle.std.proofs.Common.{◌≡◌, ◌∙◌, refl}
use Rattle.symbols65.specs.contracts.table.symbols.InternedKeyPartialEq.TheImpl.{eq-value}
use Rattle.symbols65.specs.declared.table.symbols.InternedKey.{InternedKey}
use Rattle.symbols65.specs.declared.table.symbols.InternedKey.TheVariants as entry
use Rattle.symbols65.specs.Tables.{same_interned_key}
use Rattle.symbols65.proofs.TableGrowth.{inserted_by}
use Rattle.symbols65.proofs.table.defining.push.Goals as goal

agree : (x y : InternedKey) → eq-value.it x y ≡ same_interned_key x y
agree (entry.Named s w) (entry.Named t v) = refl
agree (entry.Named s w) (entry.Cheap t v) = refl
agree (entry.Named s w) (entry.Unnamed d) = refl
agree (entry.Cheap s w) (entry.Named t v) = refl
agree (entry.Cheap s w) (entry.Cheap t v) = refl
agree (entry.Cheap s w) (entry.Unnamed d) = refl
agree (entry.Unnamed c) (entry.Named t v) = refl
agree (entry.Unnamed c) (entry.Cheap t v) = refl
agree (entry.Unnamed c) (entry.Unnamed d) = refl

pub returns-in-Ok-clause-pushed : goal.returns-in-Ok-clause-pushed
returns-in-Ok-clause-pushed c = c.in-Ok.ensures.entries ∙ inserted_by eq-value.it same_interned_key agree c.args.definitions.now.entries c.args.entry c.args.definition c.requires
