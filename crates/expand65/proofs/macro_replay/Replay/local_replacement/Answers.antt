use Rattle.std.proofs.Common.{ap, sym, ◌∙◌}
use Rattle.std.specs.Option.{option_map}
use Rattle.std.specs.Prelude.{option_copied}
use Rattle.std.specs.Str.{bytes_eq}
use Rattle.expand65.specs.Replay.{tokens_in}
use Rattle.expand65.proofs.Tables.{lookup_mapped}
use Rattle.expand65.proofs.macro_replay.Replay.local_replacement.Goals as goal

pub returns-in-Some : goal.returns-in-Some
returns-in-Some c = ap (λ o. option_map tokens_in (option_copied o)) (sym c.in-Some.is) ∙ ap (option_map tokens_in) c.get.ensures.value ∙ sym (lookup_mapped (bytes_eq c.args.name.now) (λ k. k.items) tokens_in c.args.self.now.locals.entries)

pub returns-in-None : goal.returns-in-None
returns-in-None c = ap (λ o. option_map tokens_in (option_copied o)) (sym c.in-None.is) ∙ ap (option_map tokens_in) c.get.ensures.value ∙ sym (lookup_mapped (bytes_eq c.args.name.now) (λ k. k.items) tokens_in c.args.self.now.locals.entries)
