use Rattle.std.proofs.Common.{◌≡◌, ◌∙◌, Bool, refl, sym, subst}
use Rattle.std.specs.Prelude.{true, if◌then◌else◌}
use Rattle.semantics65.specs.Contents.{section_request}
use Rattle.semantics65.specs.Symbols.{needs_section}
use Rattle.sources65.specs.Machine.{with_content}
use Rattle.asm65.specs.declared.assembler.Assembler.{Assembler}
use Rattle.asm65.specs.Internal.AssemblerState.{Represents}
use Rattle.asm65.proofs.DeferredPieces.{holds_entered}
use Rattle.asm65.proofs.assembler.Assembler.request_section.Goals as goal

pub returns-in_ok-request_section-clause-requested : goal.returns-in_ok-request_section-clause-requested
returns-in_ok-request_section-clause-requested c = λ count t h.
    (let old : Assembler = c.args.self.now in
    let new : Assembler = record old { sections = c.request_section.new.self } in
    let asks : needs_section c.args.statement.now ≡ true = sym c.needs_section.ensures ∙ c.if-needs_section.true in
    subst (λ (b : Bool). Represents count (if b then with_content t (section_request c.args.segment) else t) new) (sym asks)
    (holds_entered count t old new h (record { symbols = refl; cursor = refl; texts = refl }) (section_request c.args.segment) refl c.in_ok-request_section.ensures))
