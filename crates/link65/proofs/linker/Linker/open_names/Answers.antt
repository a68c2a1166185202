use Rattle.std.proofs.Common.{◌∙◌, [], List, Ok, ap, sym}
use Rattle.script65.specs.declared.script.Symbol.{Symbol}
use Rattle.link65.specs.Internal.Fields.{missing_after}
use Rattle.script65.specs.declared.script.Script.{Script}
use Rattle.link65.specs.Names.{strong_names, open_names}
use Rattle.link65.specs.Programs.{program_of}
use Rattle.link65.specs.Representation.{LinkerView, names_in}
use Rattle.link65.proofs.LinkerStates.{their_members, their_names}
use Rattle.link65.proofs.DefinedNameLemmas.{open_missing, wanted}
use Rattle.link65.proofs.linker.Linker.open_names.Goals as goal

pub returns-clause-open : goal.returns-clause-open
returns-clause-open c modules ended =
    let f = c.args.self.now in
    let script = ap (λ (g : LinkerView). g.script) c.self.view_is in
    let provided = ap (λ (g : LinkerView). g.provided) c.self.view_is in
    let members = ap (λ (g : LinkerView). g.partial.program.members) c.self.view_is in
    let p = program_of modules in
    let l = c.self.inside in
    let names =
    c.in_ok-missing_names.ensures
    ∙ ap (λ (ss : List Symbol). missing_after (names_in l.provided) [] (wanted ss c.as_slice-members.result.now)) c.as_slice-symbols.ensures
    ∙ open_missing l.script p (names_in l.provided) c.as_slice-members.result.now (provided ∙ their_names f modules ended ∙ ap (λ (s : Script). strong_names s p) (sym script)) (their_members f modules ended ∙ sym members ∙ sym c.as_slice-members.ensures) in
    ap Ok (sym (names ∙ ap (λ (s : Script). open_names s p) script))
