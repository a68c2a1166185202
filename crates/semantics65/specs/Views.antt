-- The contract view of declarations, with their locations.
use Rattle.std.specs.Prelude.{ℕ, List}
use Rattle.semantics65.specs.Types.{SourceLocation}
use Rattle.semantics65.specs.declared.contents.Declaration.{Declaration}
use Rattle.semantics65.specs.declared.contents.Declaration.TheVariants as said
use Rattle.semantics65.specs.declared.contexts.LocationRef.{LocationRef}
use Rattle.semantics65.specs.Contents as parts

abbrev pub location_in : List ℕ → ℕ → SourceLocation
location_in file line = record { file = file; line = line }

abbrev pub location_of_ref : LocationRef → SourceLocation
location_of_ref at = location_in at.file.now at.line

-- a declaration of a statement at this location
abbrev pub declaration_at : SourceLocation → Declaration → parts.Declaration
declaration_at location (said.ExportedSymbol name form) = parts.ExportedSymbol name location form
declaration_at location (said.ForcedImport name) = parts.ForcedImport name
declaration_at location (said.LinkAssertion action text form) = parts.LinkAssertion action location text form
