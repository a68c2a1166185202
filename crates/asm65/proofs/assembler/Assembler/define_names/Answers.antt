use Rattle.std.proofs.Common.{◌∙◌, map, sym, ap}
use Rattle.std.specs.Prelude.{Some, None, true}
use Rattle.ast65.specs.declared.language.Statement.{Statement}
use Rattle.ast65.specs.declared.language.Statement.TheVariants as statement
use Rattle.semantics65.specs.Views.{location_in}
use Rattle.semantics65.specs.Module.{exported}
use Rattle.asm65.proofs.SymbolUpdates.{mentions_enter, adds_nothing, adds_cheap, adds_constant, adds_forced, adds_globals, adds_imports, adds_label, adds_pieces, adds_proc, adds_scope, adds_unnamed, nothing_follows, taken_as}
use Rattle.asm65.proofs.assembler.Assembler.define_names.Goals as goal

pub returns-in-Label : goal.returns-in-Label
returns-in-Label c =
    let location = location_in c.args.site.at.file.now c.args.site.at.line in
    let x : Statement = statement.Label c.as_slice-name.result.now in
    taken_as _ _ c.args.measured _ _ c.define_label.result x c.args.statement (ap statement.Label c.as_slice-name.ensures ∙ sym c.in-Label.is) (λ h. adds_label location c.args.site.context c.args.measured _ _ c.as_slice-name.result.now (h location)) c.define_label.ensures

pub returns-in-CheapLabel : goal.returns-in-CheapLabel
returns-in-CheapLabel c =
    let location = location_in c.args.site.at.file.now c.args.site.at.line in
    let x : Statement = statement.CheapLabel c.as_slice-name-in-CheapLabel.result.now in
    taken_as _ _ c.args.measured _ _ c.define_label-in-CheapLabel.result x c.args.statement (ap statement.CheapLabel c.as_slice-name-in-CheapLabel.ensures ∙ sym c.in-CheapLabel.is) (λ h. adds_cheap location c.args.site.context c.args.measured _ _ c.as_slice-name-in-CheapLabel.result.now (h location)) c.define_label-in-CheapLabel.ensures

pub returns-in-UnnamedLabel : goal.returns-in-UnnamedLabel
returns-in-UnnamedLabel c =
    let location = location_in c.args.site.at.file.now c.args.site.at.line in
    let x : Statement = statement.UnnamedLabel in
    taken_as _ _ c.args.measured _ _ c.define_label-in-UnnamedLabel.result x c.args.statement (sym c.in-UnnamedLabel.is) (λ h. adds_unnamed location c.args.site.context c.args.measured _ _ (h location)) c.define_label-in-UnnamedLabel.ensures

pub returns-in-Constant : goal.returns-in-Constant
returns-in-Constant c =
    let x : Statement = statement.Constant c.as_slice.result.now c.in-Constant.value in
    taken_as _ _ c.args.measured _ _ c.define_constant.result x c.args.statement (ap (λ n. statement.Constant n c.in-Constant.value) c.as_slice.ensures ∙ sym c.in-Constant.is) (λ h. adds_constant _ _ c.args.measured _ _ c.as_slice.result.now c.in-Constant.value h) c.define_constant.ensures

pub returns-in-Some : goal.returns-in-Some
returns-in-Some c =
    let location = location_in c.args.site.at.file.now c.args.site.at.line in
    let x : Statement = statement.OpenScope (Some c.as_slice-in-Some.result.now) in
    taken_as _ _ c.args.measured _ _ c.open_block.result x c.args.statement (ap (λ n. statement.OpenScope (Some n)) c.as_slice-in-Some.ensures ∙ ap statement.OpenScope (sym c.in-Some.is) ∙ sym c.in-OpenScope.is) (λ h. adds_scope location c.args.site.context c.args.measured _ _ (Some c.as_slice-in-Some.result.now) (h location)) c.open_block.ensures

pub returns-in-OpenScope : goal.returns-in-OpenScope
returns-in-OpenScope c =
    let location = location_in c.args.site.at.file.now c.args.site.at.line in
    let x : Statement = statement.OpenScope None in
    taken_as _ _ c.args.measured _ _ c.open_block-in-None.result x c.args.statement (ap statement.OpenScope (sym c.in-None.is) ∙ sym c.in-OpenScope.is) (λ h. adds_scope location c.args.site.context c.args.measured _ _ None (h location)) c.open_block-in-None.ensures

pub returns-in-OpenProc : goal.returns-in-OpenProc
returns-in-OpenProc c =
    let location = location_in c.args.site.at.file.now c.args.site.at.line in
    let x : Statement = statement.OpenProc c.as_slice-in-OpenProc.result.now in
    taken_as _ _ c.args.measured _ _ c.open_proc.result x c.args.statement (ap statement.OpenProc c.as_slice-in-OpenProc.ensures ∙ sym c.in-OpenProc.is) (λ h. adds_proc location c.args.site.context c.args.measured _ _ c.as_slice-in-OpenProc.result.now (h location)) c.open_proc.ensures

pub returns-in-Import : goal.returns-in-Import
returns-in-Import c =
    let x : Statement = statement.Import c.in-Import.size c.as_slice-in-Import.result.now in
    taken_as _ _ c.args.measured _ _ c.import_names.result x c.args.statement (ap (statement.Import c.in-Import.size) c.as_slice-in-Import.ensures ∙ sym c.in-Import.is) (λ h. adds_imports _ _ c.args.measured _ _ c.in-Import.size c.as_slice-in-Import.result.now h) c.import_names.ensures

pub returns-in-Global : goal.returns-in-Global
returns-in-Global c =
    let x : Statement = statement.Global c.in-Global.size c.as_slice-in-Global.result.now in
    taken_as _ _ c.args.measured _ _ c.import_names-in-Global.result x c.args.statement (ap (statement.Global c.in-Global.size) c.as_slice-in-Global.ensures ∙ sym c.in-Global.is) (λ h. adds_globals _ _ c.args.measured _ _ c.in-Global.size c.as_slice-in-Global.result.now h) c.import_names-in-Global.ensures

pub returns-in-ForceImport : goal.returns-in-ForceImport
returns-in-ForceImport c =
    let x : Statement = statement.ForceImport c.as_slice-in-ForceImport.result.now in
    taken_as _ _ c.args.measured _ _ c.force_import_names.result x c.args.statement (ap statement.ForceImport c.as_slice-in-ForceImport.ensures ∙ sym c.in-ForceImport.is) (λ h. adds_forced _ _ c.args.measured _ _ c.as_slice-in-ForceImport.result.now h) c.force_import_names.ensures

pub returns-in-Export : goal.returns-in-Export
returns-in-Export c =
    let x : Statement = statement.Export c.as_slice-in-Export.result.now in
    taken_as _ _ c.args.measured _ _ c.defer_names.result x c.args.statement (ap statement.Export c.as_slice-in-Export.ensures ∙ sym c.in-Export.is) (λ h. adds_pieces _ _ c.args.measured _ _ x (λ y. nothing_follows y) (mentions_enter _ _ (map (exported true) c.as_slice-in-Export.result.now) _ _ h)) c.defer_names.ensures.mentioned

pub returns : goal.returns
returns c =
    let location = location_in c.args.site.at.file.now c.args.site.at.line in
    let x = c.in_default in
    adds_nothing location c.args.site.context c.args.measured c.args.self.now c.args.statement c.requires.named x.not-Label x.not-CheapLabel x.not-UnnamedLabel x.not-Constant x.not-OpenScope x.not-OpenProc x.not-Import x.not-Global x.not-ForceImport x.not-Export
