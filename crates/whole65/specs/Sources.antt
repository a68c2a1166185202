-- Objects of sources.
use Rattle.std.specs.Prelude.{◌≡◌, List, [], ◌∷◌, Ok, ⊤}
use Rattle.object65.specs.Versions.{IsEitherVersion}
use Rattle.object65.specs.declared.object.Object.{Object}
use Rattle.semantics65.specs.Layout.{Layout}
use Rattle.semantics65.specs.Numbering.{IsWellFormedLayout}
use Rattle.link65.specs.Programs.{Module}
use Rattle.semantics65.specs.Module.{object_of}
use Rattle.whole65.specs.Offsets.{HasNoLineErrors}

-- A module's object is the object of these laid-out statements, or version 1 of it, which names no files: its locations have
-- only lines. No line has an error, and the names and sizes fit into an object.
pub record IsObjectOfLayout (y : Layout) (m : Module) : Type 0 where
  pub no_line_errors : HasNoLineErrors y
  pub well_formed_layout : IsWellFormedLayout y
  pub written : Object
  pub object : object_of y ≡ Ok written
  pub version : IsEitherVersion written m.object

abbrev pub AreObjectsOfLayouts : List Layout → List Module → Type 0
AreObjectsOfLayouts [] [] = ⊤
AreObjectsOfLayouts (y ∷ ys) (m ∷ ms) = IsObjectOfLayout y m × AreObjectsOfLayouts ys ms
AreObjectsOfLayouts [] (m ∷ ms) = ⊥
AreObjectsOfLayouts (y ∷ ys) [] = ⊥
