use Rattle.std.proofs.Common.{Some, sym, ◌∙◌}
use Rattle.syntax65.specs.Tokens.{lexemes}
use Rattle.expand65.specs.declared.blocks.BlockKind.TheVariants.{Macro, Repeat, Skipped, RemainingBranches}
use Rattle.expand65.proofs.PlainLines.{judged_by, judged_none, judged_wrong}
use Rattle.expand65.proofs.blocks.BlockKind.token_step.Goals as goal

pub returns-then-is_mislabelled-clause-step : goal.returns-then-is_mislabelled-clause-step
returns-then-is_mislabelled-clause-step c = judged_wrong c.args.self c.args.depth (lexemes c.args.tokens.now) (sym c.is_mislabelled.ensures ∙ c.if-is_mislabelled.true)

pub returns-in_default-clause-step : goal.returns-in_default-clause-step
returns-in_default-clause-step c = judged_none c.args.self c.args.depth (lexemes c.args.tokens.now) (sym c.is_mislabelled.ensures ∙ c.if-is_mislabelled.false) (sym c.line_directive.ensures ∙ c.in_default.is)

pub returns-in-Macro-clause-step : goal.returns-in-Macro-clause-step
returns-in-Macro-clause-step c = judged_by Macro c.args.self c.args.depth (lexemes c.args.tokens.now) (Some c.in-Some.directive) c.macro_step.result c.in-Macro.is (sym c.is_mislabelled.ensures ∙ c.if-is_mislabelled.false) (sym c.line_directive.ensures ∙ c.in-Some.is) c.macro_step.ensures.step

pub returns-in-Repeat-clause-step : goal.returns-in-Repeat-clause-step
returns-in-Repeat-clause-step c = judged_by Repeat c.args.self c.args.depth (lexemes c.args.tokens.now) (Some c.in-Some.directive) c.repeat_step.result c.in-Repeat.is (sym c.is_mislabelled.ensures ∙ c.if-is_mislabelled.false) (sym c.line_directive.ensures ∙ c.in-Some.is) c.repeat_step.ensures.step

pub returns-in-Skipped-clause-step : goal.returns-in-Skipped-clause-step
returns-in-Skipped-clause-step c = judged_by Skipped c.args.self c.args.depth (lexemes c.args.tokens.now) (Some c.in-Some.directive) c.skipped_step.result c.in-Skipped.is (sym c.is_mislabelled.ensures ∙ c.if-is_mislabelled.false) (sym c.line_directive.ensures ∙ c.in-Some.is) c.skipped_step.ensures.step

pub returns-in-RemainingBranches-clause-step : goal.returns-in-RemainingBranches-clause-step
returns-in-RemainingBranches-clause-step c = judged_by RemainingBranches c.args.self c.args.depth (lexemes c.args.tokens.now) (Some c.in-Some.directive) c.remaining_branches_step.result c.in-RemainingBranches.is (sym c.is_mislabelled.ensures ∙ c.if-is_mislabelled.false) (sym c.line_directive.ensures ∙ c.in-Some.is) (c.remaining_branches_step.ensures.step (lexemes c.args.tokens.now))
