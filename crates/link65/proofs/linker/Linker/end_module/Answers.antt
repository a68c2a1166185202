use Rattle.std.proofs.Common.{◌∙◌, ap, sym, refl}
use Rattle.link65.specs.Representation.{names_in, LinkerView}
use Rattle.link65.specs.CodeInvariants.{partial_program_in}
use Rattle.link65.specs.Internal.Fields.{opened_in}
use Rattle.link65.proofs.LinkerStates.{ended_next, ended_refused}
use Rattle.link65.proofs.linker.Linker.end_module.Goals as goal

pub returns-in-Ok-clause-ended : goal.returns-in-Ok-clause-ended
returns-in-Ok-clause-ended c = λ modules name entry s feeding.
    let l = c.self.inside in
    let o = c.in-Some.opened in
    ended_next c.args.self.now modules name entry s (partial_program_in l.program_builder) (record { name = o.name; scan = o.scan; first_export = o.first_export; listed = o.listed }) (names_in l.provided)
    (ap (λ (f : LinkerView). f.partial) (sym c.self.view_is))
    (ap (λ (f : LinkerView). f.opened) (sym c.self.view_is) ∙ ap opened_in c.in-Some.is)
    (ap (λ (f : LinkerView). f.provided) (sym c.self.view_is))
    feeding _ refl c.if-self.false (ap (λ (f : LinkerView). f.script) c.self.view_is) c.in-Ok.ensures.ended

pub returns-in-Err-clause-ended : goal.returns-in-Err-clause-ended
returns-in-Err-clause-ended c = λ modules name entry s feeding.
    let l = c.self.inside in
    let o = c.in-Some.opened in
    ended_refused c.args.self.now modules name entry s (partial_program_in l.program_builder) (record { name = o.name; scan = o.scan; first_export = o.first_export; listed = o.listed }) (names_in l.provided)
    (ap (λ (f : LinkerView). f.partial) (sym c.self.view_is))
    (ap (λ (f : LinkerView). f.opened) (sym c.self.view_is) ∙ ap opened_in c.in-Some.is)
    (ap (λ (f : LinkerView). f.provided) (sym c.self.view_is))
    feeding _ c.in-Err.ensures.ended
