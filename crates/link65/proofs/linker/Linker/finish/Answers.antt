use Rattle.std.proofs.Common.{◌≡◌, ◌∙◌, ℕ, List, ap, subst}
use Rattle.script65.specs.declared.script.Script.{Script}
use Rattle.base65.specs.Outcome.{RefinesProp}
use Rattle.link65.specs.Faults.{is_memory}
use Rattle.link65.specs.CodeInvariants.{program_in}
use Rattle.link65.specs.Links.{IsProgramLink}
use Rattle.link65.specs.Names.{strong_names}
use Rattle.link65.specs.Representation.{LinkerView, names_in}
use Rattle.link65.proofs.LinkerStates.{linked}
use Rattle.link65.proofs.linker.Linker.finish.Goals as goal

pub returns-clause-linked : goal.returns-clause-linked
returns-clause-linked c = λ modules fed.
    let kept = program_in c.self.inside.program_builder in
    let output = c.as_str.ensures ∙ ap (λ (f : LinkerView). f.output) c.self.view_is in
    let script = ap (λ (f : LinkerView). f.script) c.self.view_is in
    let provided = ap (λ (f : LinkerView). f.provided) c.self.view_is in
    let by = subst (λ (o : List ℕ). names_in c.self.inside.provided ≡ strong_names c.self.inside.script kept → RefinesProp is_memory (IsProgramLink o c.self.inside.script kept) c.link.result) output c.link.ensures.linked in
    linked c.args.self modules kept c.link.result
    (ap (λ (f : LinkerView). f.partial.program) c.self.view_is)
    (subst (λ (g : List (List ℕ)). g ≡ strong_names c.args.self.script kept → RefinesProp is_memory (IsProgramLink c.args.self.output c.args.self.script kept) c.link.result) provided
    (subst (λ (s : Script). names_in c.self.inside.provided ≡ strong_names s kept → RefinesProp is_memory (IsProgramLink c.args.self.output s kept) c.link.result) script by))
    fed
