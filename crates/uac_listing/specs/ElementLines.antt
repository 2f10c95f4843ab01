-- The lines for the elements of a function, as a fresh device has them (profile): name, whether a host may set it, value.
use Rattle.std.specs.Prelude.{ℕ, Bool, true, false, pos, List, ◌++◌, flat_map, codes, unwrap_or}
use Rattle.uac_edges.specs.Numerals.{numeral}
use Rattle.uac_mixer.specs.MixerElements.{name_of}
use Rattle.uac_mixer.specs.declared.element.Element.{Element}

abbrev pub access_text : Bool → List ℕ
access_text true = codes " rw "
access_text false = codes " ro "

-- the line of an element, whose value is known
unfoldable pub element_line : Element → List ℕ
element_line x = name_of x ++ access_text x.writable ++ numeral (unwrap_or x.value (pos 0)) ++ codes "\n"

abbrev pub element_lines : List Element → List ℕ
element_lines xs = flat_map element_line xs
