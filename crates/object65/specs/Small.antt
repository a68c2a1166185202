-- The conditions under which the bodies of an object's records are within their limit.
use Rattle.std.specs.Prelude.{ℕ, List, length, Bool, true, nat_lt, nat_le, ◌&&◌}
use Rattle.std.specs.List.{list_all}
use Rattle.object65.specs.declared.object.Section.{Section}
use Rattle.object65.specs.declared.object.Export.{Export}
use Rattle.object65.specs.declared.object.Assert.{Assert}
use Rattle.object65.specs.declared.object.Fragment.{Fragment}
use Rattle.object65.specs.declared.object.Fragment.TheVariants.{Literal, Fill, Value}
use Rattle.object65.specs.Folding.{node_limit}
use Rattle.object65.specs.Form.{Form, nodes}
use Rattle.object65.specs.Objects.{section_len, section_limit}

abbrev pub is_small_text : List ℕ → Bool
is_small_text text = nat_lt (length text) 256

abbrev pub is_small_form : Form → Bool
is_small_form f = nat_le (nodes f) node_limit

abbrev pub is_small_fragment : Fragment → Bool
is_small_fragment (Value width origin form) = is_small_form form
is_small_fragment (Literal bytes) = true
is_small_fragment (Fill n) = true

abbrev pub is_small_section : Section → Bool
is_small_section s = is_small_text s.name && nat_le (section_len s) section_limit && list_all is_small_fragment s.fragments

abbrev pub is_small_export : Export → Bool
is_small_export e = is_small_text e.name && is_small_form e.form

abbrev pub is_small_assert : Assert → Bool
is_small_assert a = is_small_text a.text && is_small_form a.form
