use Rattle.std.proofs.Common.{◌≡◌, ◌∙◌, ap, sym, refl, length, map, true, false, string_bytes, Global, List, ℕ}
use Rattle.std.specs.Prelude.{Result, Err, nat_lt}
use Rattle.syntax65.specs.declared.source_location.SourceLocation.{SourceLocation}
use Rattle.ast65.specs.declared.fault.AsmFault.{AsmFault}
use Rattle.ast65.specs.Faults.{is_system_error}
use Rattle.semantics65.specs.Module.{Fixup, PieceResult, deferred, LocatedFault, with_location}
use Rattle.semantics65.specs.Views.{location_in}
use Rattle.symbols65.specs.Views.{table_of}
use Rattle.emit65.specs.SectionContents.{fixup_of, names_of}
use Rattle.asm65.specs.Assembly.{is_diagnostic_system_error}
use Rattle.asm65.specs.Internal.RunState.{IsFaultySlot, result_of_piece}
use Rattle.asm65.specs.declared.resolving.ResolvedPiece.{ResolvedPiece as CodeMade}
use Rattle.asm65.specs.declared.resolving.FixupLocation.{FixupLocation}
use Rattle.asm65.proofs.NoStoreFailures.{resolved_inside}
use Rattle.asm65.proofs.SlotResolution.{found_inside, no_more, stands_there, unless}
use Rattle.asm65.proofs.finish.resolve_fixup.Goals as goal

pub returns-in_ok-apply_resolved-in-Ok-clause-resolved : goal.returns-in_ok-apply_resolved-in-Ok-clause-resolved
returns-in_ok-apply_resolved-in-Ok-clause-resolved c =
    let files : List (List ℕ) = map (string_bytes {Z = Global}) c.args.tables.files.now in
    let w : Fixup = fixup_of files c.args.fixup in
    let fixup_location : FixupLocation = record { files = c.args.tables.files; pos = c.args.fixup.pos } in
    λ (h : nat_lt c.args.fixup.pos.file (length files) ≡ true).
    record {
      made = result_of_piece fixup_location c.in-Ok.made;
      found = ap (with_location w.place) c.in-Ok.ensures.piece;
      entry = c.in_ok-apply_resolved-in-Ok.ensures.entry;
      standing = stands_there (length files) c.args.fixup.pos c.in_ok-apply_resolved-in-Ok.field-0 h c.in_ok-apply_resolved-in-Ok.ensures.located;
      names = c.in-Ok.ensures.more;
      err = c.in_ok-apply_resolved-in-Ok.ensures.err;
    }

pub returns-in-Err-clause-resolved : goal.returns-in-Err-clause-resolved
returns-in-Err-clause-resolved c =
    let files : List (List ℕ) = map (string_bytes {Z = Global}) c.args.tables.files.now in
    let w : Fixup = fixup_of files c.args.fixup in
    let here : SourceLocation = location_in c.file.result.now c.args.fixup.pos.line in
    let location : here ≡ w.place = ap (λ (n : List ℕ). location_in n c.args.fixup.pos.line) c.file.ensures in
    λ (h : nat_lt c.args.fixup.pos.file (length files) ≡ true).
    unless (is_diagnostic_system_error c.of_fault.result) (IsFaultySlot (table_of c.args.tables.symbols.now) (deferred w) c.of_fault.result c.args.resolve_state.now (record { known = c.resolve.new.known; exported = c.resolve.new.exported; err = c.args.resolve_state.now.err }))
    (λ (e : is_diagnostic_system_error c.of_fault.result ≡ false).
    let inside : is_system_error c.in-Err.fault ≡ false = no_more (is_system_error c.in-Err.fault) (is_diagnostic_system_error c.of_fault.result) c.of_fault.ensures.outside e in
    let lost : LocatedFault → Result PieceResult LocatedFault = λ p. Err p in
    record {
      found =
          ap (with_location w.place) (found_inside c.in-Err.fault _ c.in-Err.ensures.piece inside)
          ∙ ap (λ (p : SourceLocation). lost (record { place = p; fault = c.in-Err.fault })) (sym location)
          ∙ ap lost (sym (c.of_fault.ensures.placed e));
      err = refl;
    })

pub returns-in-Err-clause-no_failure : goal.returns-in-Err-clause-no_failure
returns-in-Err-clause-no_failure c =
    let files : List (List ℕ) = map (string_bytes {Z = Global}) c.args.tables.files.now in
    let w : Fixup = fixup_of files c.args.fixup in
    let fixup_location : FixupLocation = record { files = c.args.tables.files; pos = c.args.fixup.pos } in
    let answer : Result CodeMade AsmFault = Err c.in-Err.fault in
    c.of_fault.ensures.no_failure (resolved_inside answer (result_of_piece fixup_location) (table_of c.args.tables.symbols.now) (names_of c.args.resolve_state.now.exported) w.place w.context w.piece c.in-Err.ensures.piece)
