-- The object of version 1 with the same contents except the files.
use Rattle.std.specs.Prelude.{◌≡◌, ◌⊎◌, [], map, None}
use Rattle.object65.specs.declared.object.Assert.{Assert}
use Rattle.object65.specs.declared.object.Export.{Export}
use Rattle.object65.specs.declared.object.Fragment.{Fragment}
use Rattle.object65.specs.declared.object.Fragment.TheVariants.{Literal, Fill, Value}
use Rattle.object65.specs.declared.object.Object.{Object}
use Rattle.object65.specs.declared.object.Origin.{Origin}
use Rattle.object65.specs.declared.object.Section.{Section}

abbrev pub line_origin : Origin → Origin
line_origin origin = record { file = None; line = origin.line }

abbrev pub version_one_fragment : Fragment → Fragment
version_one_fragment (Literal bytes) = Literal bytes
version_one_fragment (Fill n) = Fill n
version_one_fragment (Value width origin form) = Value width (line_origin origin) form

abbrev pub version_one_section : Section → Section
version_one_section s = record s { fragments = map version_one_fragment s.fragments }

abbrev pub version_one_export : Export → Export
version_one_export e = record e { origin = line_origin e.origin }

abbrev pub version_one_assert : Assert → Assert
version_one_assert a = record a { origin = line_origin a.origin }

abbrev pub version_one_object : Object → Object
version_one_object o = record {
  version = 1;
  files = [];
  imports = o.imports;
  sections = map version_one_section o.sections;
  exports = map version_one_export o.exports;
  asserts = map version_one_assert o.asserts;
}

-- the second object is the first, or the first in version 1
abbrev pub IsEitherVersion : Object → Object → Type 0
IsEitherVersion o p = (p ≡ o) ⊎ (p ≡ version_one_object o)
