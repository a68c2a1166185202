use Rattle.std.proofs.Common.{◌∙◌, ap, sym}
use Rattle.syntax65.specs.Tokens.{lexemes}
use Rattle.expand65.specs.Replay.{tokens_in}
use Rattle.expand65.proofs.Labels.{parts}
use Rattle.expand65.proofs.line.StoredLine.split_label.Goals as goal

pub returns-clause-parts : goal.returns-clause-parts
returns-clause-parts c =
    let ts = c.as_slice-tokens.result.now in
    parts ts (tokens_in c.args.self.now) c.label_len-len.result c.in_ok-label.label c.in_ok-rest.rest (ap lexemes c.as_slice-tokens.ensures.value ∙ c.in_ok-tokens.ensures) c.label_len-len.ensures.count c.if-len-eq0.false (sym c.is_mislabelled.ensures ∙ c.if-is_mislabelled.false) (c.in_ok-label.ensures ∙ ap lexemes c.split_at.ensures.front) (c.in_ok-rest.ensures ∙ ap lexemes c.split_at.ensures.back)
