use Rattle.std.proofs.Common.{rules, ◌≡◌, ◌-◌, ◌∙◌, length, slice_get}
use Rattle.std.specs.Option.{option_map_or}
use Rattle.script65.specs.Entries.{ParsedTerm}
use Rattle.script65.proofs.LeadingTokens.{last_is}
use Rattle.script65.proofs.reading.values.last_term_offset.Goals as goal

pub returns : goal.returns
returns c =
    let last : c.map_or.result ≡ option_map_or (λ (p : ParsedTerm). p.at) (slice_get c.args.parsed_terms.now (length c.args.parsed_terms.now - 1)) 0 = search rules in
    last ∙ last_is c.args.parsed_terms.now
