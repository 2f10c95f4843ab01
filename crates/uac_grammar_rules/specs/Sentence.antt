-- The sentence: which blocks the bytes of a descriptor are. USB 2.0, 9.4.3, 9.6.3 and 9.6.5; Audio Class 2.0, 4.
use Rattle.std.specs.Prelude.{true, false, ◌≡◌, ℕ, Bool, List, [], ◌∷◌, length, flat_map, filter_map, take_while, Option, Some, None}
use Rattle.uac_descriptor.specs.declared.context.Context.{Context}
use Rattle.uac_descriptor.specs.declared.context.Context.TheVariants as context
use Rattle.uac_descriptor.specs.declared.block.Block as block
use Rattle.uac_descriptor.specs.BlockParsing.{AreBytes}
use Rattle.uac_descriptor.specs.Kinds.{as_configuration, as_header}
use Rattle.uac_descriptor.specs.LayoutRows.{Spells}
use Rattle.uac_descriptor.specs.Spelling.{spelling}
use Rattle.uac_grammar_rules.specs.declared.roles.BlockRole.{BlockRole}
use Rattle.uac_grammar_rules.specs.declared.roles.BlockRole.TheVariants as role
use Rattle.uac_grammar_rules.specs.Production.{Allows}
pub use Rattle.uac_descriptor.specs.Contexts.{EachIn}
pub use Rattle.uac_descriptor.specs.BlockTurns.{is_of_function, Begins, Continues, InTurn, interface_of}
use Rattle.uac_grammar_rules.specs.BlockRole.{role_of}
use Rattle.uac_grammar_rules.specs.BlockOrder.{input}
use Rattle.uac_grammar_rules.specs.Values.{HasValues}

-- the block may stand in this context: there its row reads its bytes
abbrev pub SpellsItself : Context → block.Block → Type 0
SpellsItself context b = Spells context b (spelling b)

-- the bytes of blocks, and how many they are
abbrev pub spellings : List block.Block → List ℕ
spellings blocks = flat_map spelling blocks

abbrev pub size : List block.Block → ℕ
size blocks = length (spellings blocks)

-- it is so of what a block is, where it is that, and else of the blocks after it
abbrev pub IsSoOf : {A : Type 0} → Option A → (A → Type 0) → Type 0 → Type 0
IsSoOf (Some a) IsSo ForeignAfter = IsSo a
IsSoOf None IsSo ForeignAfter = ForeignAfter

-- the first configuration's total is the number of its bytes and of all bytes after it
abbrev pub HasWholeTotal : List block.Block → Type 0
HasWholeTotal [] = Unit {0}
HasWholeTotal (b ∷ blocks) = IsSoOf (as_configuration b) (λ c. size (b ∷ blocks) ≡ c.total) (HasWholeTotal blocks)

-- a terminal, a unit or a clock entity
abbrev pub is_entity : BlockRole → Bool
is_entity role.Device = false
is_entity role.Configuration = false
is_entity role.AudioAssociation = false
is_entity role.ForeignAssociation = false
is_entity role.ControlInterface = false
is_entity role.StreamingInterface = false
is_entity role.ForeignInterface = false
is_entity role.Endpoint = false
is_entity role.Header = false
is_entity role.Entity = true
is_entity role.General = false
is_entity role.TypeOne = false
is_entity role.Extra = false
is_entity role.ClassEndpoint = false
is_entity role.Other = false
is_entity role.UnknownSubtype = false
is_entity role.Stray = false

-- the first header's total is the number of its bytes and of those of the entities after it
abbrev pub HasListTotal : List block.Block → Type 0
HasListTotal [] = Unit {0}
HasListTotal (b ∷ blocks) =
    IsSoOf (as_header b) (λ h. size (b ∷ take_while (λ b. is_entity (role_of b)) blocks) ≡ h.total) (HasListTotal blocks)

-- each number of the input is a byte, and these blocks are what the bytes say, in the standard's order, with the totals and the values that
-- they must have
pub record IsSentence (bytes : List ℕ) (blocks : List block.Block) : Type 0 where
  pub are_bytes : AreBytes bytes
  pub spelt : bytes ≡ spellings blocks
  pub stand : EachIn SpellsItself context.DeviceFront blocks
  pub order : Allows role_of input blocks
  pub in_turn : InTurn [] (filter_map interface_of blocks)
  pub whole_total : HasWholeTotal blocks
  pub list_total : HasListTotal blocks
  pub values : EachIn HasValues context.DeviceFront blocks
