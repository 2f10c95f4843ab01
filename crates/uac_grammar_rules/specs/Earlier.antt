-- What the roles of the blocks before it say of a block: what the rules G7 to G9 name. USB 2.0, 9.6.5; Audio Class 2.0, 4.
use Rattle.std.specs.Prelude.{Bool, false, ◌&&◌, ◌||◌, not, ◌==◌, List, [], ◌∷◌}
use Rattle.std.specs.List.{list_any, list_all}
use Rattle.uac_grammar_rules.specs.declared.roles.BlockRole.{BlockRole}
use Rattle.uac_grammar_rules.specs.declared.roles.BlockRole.TheVariants as role
use Rattle.uac_grammar_rules.specs.BlockRole.{is_listed}
use Rattle.uac_grammar_rules.specs.BlockOrder.{number}

abbrev pub is_same : BlockRole → BlockRole → Bool
is_same j k = number j == number k

-- one of the blocks has the role j
abbrev pub has : BlockRole → List BlockRole → Bool
has j ks = list_any (is_same j) ks

-- the latest of them has it
abbrev pub latest_is : BlockRole → List BlockRole → Bool
latest_is j [] = false
latest_is j (k ∷ []) = is_same j k
latest_is j (k ∷ next ∷ ks) = latest_is j (next ∷ ks)

-- ---- the rules, of a block of the role k after blocks of the roles ks

-- G7: a control or streaming interface with no audio association before it, or another block than a control interface
-- right after the audio association
abbrev pub stands_without_association : List BlockRole → BlockRole → Bool
stands_without_association ks k =
    not (has role.AudioAssociation ks) && (is_same role.ControlInterface k || is_same role.StreamingInterface k)
    || latest_is role.AudioAssociation ks && not (is_same role.ControlInterface k)

-- a header, and after it blocks of its list alone
abbrev pub is_header_list : List BlockRole → Bool
is_header_list [] = false
is_header_list (k ∷ ks) = is_same role.Header k && list_all is_listed ks

-- the roles end with the control interface, its header and blocks of its list
abbrev pub is_in_list : List BlockRole → Bool
is_in_list [] = false
is_in_list (k ∷ ks) = is_same role.ControlInterface k && is_header_list ks || is_in_list ks

-- G8: in the list of entities, a class block of an unknown subtype
abbrev pub is_unknown_in_list : List BlockRole → BlockRole → Bool
is_unknown_in_list ks k = is_in_list ks && is_same role.UnknownSubtype k

-- G9: an audio association or a control interface, where one stands before it
abbrev pub is_second : List BlockRole → BlockRole → Bool
is_second ks k =
    has role.AudioAssociation ks && is_same role.AudioAssociation k
    || has role.ControlInterface ks && is_same role.ControlInterface k

-- one of the three
abbrev pub is_named : List BlockRole → BlockRole → Bool
is_named ks k = stands_without_association ks k || is_unknown_in_list ks k || is_second ks k
