use Rattle.std.proofs.Common.{◌≡◌, ◌∙◌, Bor, Global, Option, None, Some, refl, ap, sym}
use Rattle.std.specs.Option.{option_map}
use Rattle.std.specs.Prelude.{is_some, option_copied}
use Rattle.std.specs.declared.rc.Rc.{Rc}
use Rattle.expand65.specs.declared.macro_replay.Body.{Body}
use Rattle.expand65.proofs.Definitions.{named, shared}
use Rattle.expand65.proofs.preprocessor.Preprocessor.has_macro.Goals as goal

some_shared : (o : Option (Bor (Rc Body Global))) → is_some o ≡ is_some (option_map shared (option_copied o))
some_shared None = refl
some_shared (Some b) = refl

pub returns : goal.returns
returns c = c.is_some.ensures ∙ some_shared c.get.result ∙ ap (λ o. is_some (option_map shared o)) c.get.ensures.value ∙ ap is_some (sym (named c.args.self.now.macros.entries c.args.name.now))
