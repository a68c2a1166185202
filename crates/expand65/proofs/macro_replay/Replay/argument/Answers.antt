use Rattle.std.proofs.Common.{map, ap, sym, ◌∙◌}
use Rattle.std.specs.Str.{bytes_eq}
use Rattle.expand65.specs.Replay.{tokens_in}
use Rattle.expand65.specs.Lines.{argument_at}
use Rattle.expand65.proofs.Tables.{position_mapped}
use Rattle.expand65.proofs.macro_replay.Replay.argument.Goals as goal

pub returns-in-Some : goal.returns-in-Some
returns-in-Some c =
    let e = rw c.deref.ensures at c.get_index_of.ensures.index in
    c.argument_at.ensures ∙ ap (argument_at (map tokens_in c.args.self.now.arguments)) (sym c.in-Some.is ∙ e ∙ sym (position_mapped (bytes_eq c.args.name.now) (λ k. k.items) c.args.self.now.body.value.params.keys))

pub returns-in-None : goal.returns-in-None
returns-in-None c =
    let e = rw c.deref.ensures at c.get_index_of.ensures.index in
    ap (argument_at (map tokens_in c.args.self.now.arguments)) (sym c.in-None.is ∙ e ∙ sym (position_mapped (bytes_eq c.args.name.now) (λ k. k.items) c.args.self.now.body.value.params.keys))
