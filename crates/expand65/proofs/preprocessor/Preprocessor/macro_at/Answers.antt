use Rattle.std.proofs.Common.{◌∙◌, Some, ap, sym}
use Rattle.std.specs.Option.{option_map}
use Rattle.std.specs.Prelude.{option_copied}
use Rattle.expand65.specs.Macros.{macro_at}
use Rattle.expand65.specs.Replay.{definition_of}
use Rattle.expand65.specs.Representation.{macros_of}
use Rattle.expand65.specs.declared.macro_replay.Body.{Body}
use Rattle.expand65.proofs.Definitions.{named, shared}
use Rattle.expand65.proofs.preprocessor.Preprocessor.macro_at.Goals as goal

pub returns-in_ok-clone-in-Some : goal.returns-in_ok-clone-in-Some
returns-in_ok-clone-in-Some c =
    let text = c.args.token.now.text.now in
    let ms = macros_of c.args.self.now in
    ap (λ k. macro_at ms (k, text)) c.in-Identifier.is ∙ named c.args.self.now.macros.entries text ∙ sym (ap (option_map shared) c.get.ensures.value) ∙ ap (λ o. option_map shared (option_copied o)) c.in-Some.is ∙ ap (λ (b : Body). Some (definition_of b)) (sym c.in_ok-clone-in-Some.ensures.cases)

pub returns-in-None : goal.returns-in-None
returns-in-None c =
    let text = c.args.token.now.text.now in
    let ms = macros_of c.args.self.now in
    ap (λ k. macro_at ms (k, text)) c.in-Identifier.is ∙ named c.args.self.now.macros.entries text ∙ sym (ap (option_map shared) c.get.ensures.value) ∙ ap (λ o. option_map shared (option_copied o)) c.in-None.is
