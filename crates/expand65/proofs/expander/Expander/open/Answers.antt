use Rattle.std.proofs.lemmas.Grind.{common_steps}
use Rattle.std.proofs.Common.{false, Ok, rules, arith}
use Rattle.expand65.specs.declared.expander.Expander.{Expander}
use Rattle.expand65.specs.declared.expander.PendingLine.TheVariants.{Nothing}
use Rattle.expand65.specs.declared.preprocessor.Preprocessor.{Preprocessor}
use Rattle.expand65.proofs.SourceFile.{opened_text}
use Rattle.expand65.proofs.expander.Expander.open.Goals as goal

pub returns-in_err-file_exists-clause-opened : goal.returns-in_err-file_exists-clause-opened
returns-in_err-file_exists-clause-opened g c =
    opened_text _ c.args.file.now c.args.options.now.include _ c.utf8.file (search rules)

pub returns-clause-opened : goal.returns-clause-opened
returns-clause-opened g c =
    let processor : Preprocessor = record { alloc = c.args.alloc; stack = c.in_ok-stack.stack; macros = c.with_hasher.result; conditions = c.new.result; expansions = 0; folders = c.in_ok-folders.folders } in
    let opened : Expander = record { processor = processor; pending = Nothing; failed = false } in
    opened_text _ c.args.file.now c.args.options.now.include (Ok opened) c.utf8.file (search rules)

pub returns-in_err-file_exists-clause-positioned : goal.returns-in_err-file_exists-clause-positioned
returns-in_err-file_exists-clause-positioned g c = grind (arith, common_steps)
