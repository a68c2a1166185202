-- Parts that are appended to sections at once.
use Rattle.std.proofs.Common.{◌≡◌, ℕ, List, refl, sym, ap, subst}
use Rattle.std.specs.Prelude.{ℤ, Bool, true, Some, None, Result, Ok, Err, if◌then◌else◌}
use Rattle.semantics65.specs.Norms.{literal_in}
use Rattle.object65.specs.Form.{Form, lit}
use Rattle.object65.specs.Objects.{fits_width, is_file_name, value_bytes}
use Rattle.base65.specs.declared.width.Width.{Width}
use Rattle.syntax65.specs.declared.source_location.SourceLocation.{SourceLocation}
use Rattle.semantics65.specs.Contents.{Part, Known, ReservedBytes, LinkTimeValue, section_part, reserve_part, value_part, with_file_name_check}
use Rattle.ast65.specs.declared.fault.AsmFault.{AsmFault}
use Rattle.ast65.specs.declared.fault.AsmFault.TheVariants.{FileNameTooLong, OutOfRange}
use Rattle.semantics65.specs.Module.{resolved}
use Rattle.emit65.specs.declared.sections.Sections.{Sections}
use Rattle.emit65.specs.SectionContents.{AppendsSlot}
use Rattle.semantics65.specs.declared.contexts.EncodingChoice as held
use Rattle.semantics65.specs.declared.contexts.EncodingChoice.TheVariants as settled
use Rattle.asm65.specs.Internal.AssemblerState.{AppendsPart}

-- ---- The part of a form.

abbrev in_range : (known : List ℕ) → Result Part AsmFault
in_range known = Ok (Known known)

-- the part of a literal in range is its bytes
pub stored_is : (width : Width) (location : SourceLocation) (v : ℤ) → fits_width width v ≡ true → value_part width location (lit v) ≡ in_range (value_bytes width v)
stored_is width location v fits = ap (λ (b : Bool). if b then in_range (value_bytes width v) else Err OutOfRange) fits

pub literal_put : (old new : Sections) (g : ℕ) (width : Width) (location : SourceLocation) (v : ℤ) (bytes : List ℕ) → fits_width width v ≡ true → bytes ≡ value_bytes width v → AppendsSlot old new (resolved (section_part g (Known bytes))) → AppendsPart old new g (value_part width location (lit v)) true
literal_put old new g width location v bytes fits same feeds =
    subst (λ (r : Result Part AsmFault). AppendsPart old new g r true) (sym (stored_is width location v fits))
    (subst (λ (known : List ℕ). AppendsSlot old new (resolved (section_part g (Known known)))) same feeds)

pub literal_is : (f : Form) (v : ℤ) → literal_in (Ok f) ≡ Some v → f ≡ lit v
literal_is (lit w) v e = let same : w ≡ v = cc in ap lit same
literal_is _ v e = absurd cc

-- the part of any other form is a deferred value with its location, or the error of its file name
pub other_stored : (width : Width) (location : SourceLocation) (f : Form) → literal_in (Ok f) ≡ None → value_part width location f ≡ with_file_name_check location (LinkTimeValue width location f)
other_stored width location (lit w) e = absurd cc
other_stored width location _ e = refl

-- this part is appended if an object can contain the name of the file
pub other_put : (old new : Sections) (g : ℕ) (width : Width) (location : SourceLocation) (f : Form) → literal_in (Ok f) ≡ None → is_file_name location.file ≡ true → AppendsSlot old new (resolved (section_part g (LinkTimeValue width location f))) → AppendsPart old new g (value_part width location f) true
other_put old new g width location f e fits feeds =
    subst (λ r. AppendsPart old new g r true) (sym (other_stored width location f e))
    (subst (λ b. AppendsPart old new g (if b then Ok (LinkTimeValue width location f) else Err FileNameTooLong) true) (sym fits) feeds)

pub other_room : (count : ℕ) (s : held.EncodingChoice) → ((byte : ℕ) → s ≡ settled.FillByte byte → ⊥) → reserve_part count s ≡ ReservedBytes count
other_room count settled.Undecided h = refl
other_room count (settled.InMode mode) h = refl
other_room count (settled.FillByte byte) h = absurd (h byte refl)
other_room count (settled.FileOffset start) h = refl
