use Rattle.std.proofs.Common.{subst, sym}
use Rattle.syntax65.specs.Internal.Positions.{IsTokenAt}
use Rattle.syntax65.proofs.lexing.positions.token_at.Goals as goal

pub returns-in-At : goal.returns-in-At
returns-in-At c = subst (IsTokenAt c.args.first c.args.here.now) (sym c.by_value.ensures) (c.name_at.ensures c.args.first)

pub returns-in-Dot : goal.returns-in-Dot
returns-in-Dot c = subst (IsTokenAt c.args.first c.args.here.now) (sym c.by_value-in-Dot.ensures) (c.name_at-in-Dot.ensures c.args.first)

pub returns-in-Digit : goal.returns-in-Digit
returns-in-Digit c = subst (IsTokenAt c.args.first c.args.here.now) (sym c.by_value-in-Digit.ensures) (c.number_at.ensures c.args.first)

pub returns-in-Apostrophe : goal.returns-in-Apostrophe
returns-in-Apostrophe c = subst (IsTokenAt c.args.first c.args.here.now) (sym c.by_value-in-Apostrophe.ensures) (c.character_at.ensures c.args.first)

pub returns-in-Quote : goal.returns-in-Quote
returns-in-Quote c = subst (IsTokenAt c.args.first c.args.here.now) (sym c.by_value-in-Quote.ensures) (c.string_at.ensures c.args.first)

pub returns-in-Colon : goal.returns-in-Colon
returns-in-Colon c = subst (IsTokenAt c.args.first c.args.here.now) (sym c.by_value-in-Colon.ensures) (c.colon_at.ensures c.args.first)

pub returns-in-Semicolon : goal.returns-in-Semicolon
returns-in-Semicolon c = c.punctuator_at.ensures c.args.first
