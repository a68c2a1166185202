use Rattle.std.proofs.lemmas.Grind.{common_steps}
use Rattle.std.proofs.Common.{◌≡◌, ℕ, List, [], subst, arith}
use Rattle.std.specs.Prelude.{None}
use Rattle.semantics65.specs.declared.contents.Segment.{Segment}
use Rattle.sources65.specs.Machine.{State, outcome_of_state}
use Rattle.semantics65.specs.Module.{Slot}
use Rattle.semantics65.specs.Numbering.{all_declarations}
use Rattle.emit65.specs.SectionContents.{RepresentsSlots, contents_so_far}
use Rattle.symbols65.specs.Views.{table_of}
use Rattle.asm65.specs.Internal.AssemblerState.{Represents}
use Rattle.asm65.specs.Internal.RunState.{RefinesObject}
use Rattle.asm65.specs.declared.assembler.Assembler.{Assembler}
use Rattle.asm65.proofs.SlotResolution.{comes_concluded, comes_good}
use Rattle.asm65.proofs.finish.finish_assembly.Goals as goal

pub returns-clause-concluded : goal.returns-clause-concluded
returns-clause-concluded c =
    let a : Assembler = c.args.assembler in
    let r = c.object_of-found.result in
    let new = c.object_of-found.new.resolve_state.err in
    λ (count : ℕ) (t : State).
    λ (h : Represents count t a).
    let k : RefinesObject (table_of a.symbols) a.cursor.segments t.slots a.texts.err new r = subst (λ (gs : List Segment). RefinesObject (table_of a.symbols) gs t.slots a.texts.err new r) c.segments.ensures (c.object_of-found.ensures.found t.slots h.sections h.no_declarations) in
    c.assembly_of.ensures.concluded (outcome_of_state t None) (comes_concluded count t a new r h k)

pub returns-clause-good : goal.returns-clause-good
returns-clause-good c =
    let a : Assembler = c.args.assembler in
    let r = c.object_of-found.result in
    let new = c.object_of-found.new.resolve_state.err in
    comes_good a new r c.assembly_of.result.result c.assembly_of.ensures.answer
    (λ (xs : List Slot). λ (s : RepresentsSlots xs a.sections). λ (unsaid : all_declarations (contents_so_far xs) ≡ []). subst (λ (gs : List Segment). RefinesObject (table_of a.symbols) gs xs a.texts.err new r) c.segments.ensures (c.object_of-found.ensures.found xs s unsaid))

pub returns-clause-no_failure : goal.returns-clause-no_failure
returns-clause-no_failure c = grind (arith, common_steps)

pub returns-clause-numbers : goal.returns-clause-numbers
returns-clause-numbers c = grind (arith, common_steps)
