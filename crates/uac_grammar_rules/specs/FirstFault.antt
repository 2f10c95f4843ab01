-- The first fault of a descriptor, told by its blocks: what each of the rules G1 to G9 asks of the blocks in front of a place and of
-- the bytes after it. USB 2.0, 9.4.3, 9.5, 9.6.3, 9.6.5 and 9.6.6; Audio Class 2.0, 4 and 4.7.2.
use Rattle.std.specs.Prelude.{◌≡◌, ℕ, ◌<◌, ◌≤◌, ◌⊎◌, false, List, [], ◌∷◌, ◌++◌, length, map, filter_map, slice_index, IsTrue}
use Rattle.std.specs.List.{AllByRecursion}
use Rattle.uac_descriptor.specs.declared.context.Context.{Context}
use Rattle.uac_descriptor.specs.declared.context.Context.TheVariants as context
use Rattle.uac_descriptor.specs.declared.block.Block as block
use Rattle.uac_descriptor.specs.Kinds.{as_configuration, as_header}
use Rattle.uac_descriptor.specs.LayoutRows.{Spells}
use Rattle.uac_descriptor.specs.Spelling.{spelling}
use Rattle.uac_grammar_rules.specs.declared.faults.GrammarFault.{GrammarFault}
use Rattle.uac_grammar_rules.specs.declared.roles.BlockRole.TheVariants as role
use Rattle.uac_grammar_rules.specs.Cutting.{IsPiece}
use Rattle.uac_grammar_rules.specs.BlockRole.{role_of, context_after, is_listed}
use Rattle.uac_grammar_rules.specs.BlockOrder.{input}
use Rattle.uac_grammar_rules.specs.Production.{Allows}
use Rattle.uac_grammar_rules.specs.Values.{HasValues}
use Rattle.uac_grammar_rules.specs.Sentence.{EachIn, IsSoOf, SpellsItself, InTurn, interface_of, size, spellings}
use Rattle.uac_grammar_rules.specs.Earlier.{has, latest_is, is_named, is_second, is_unknown_in_list, stands_without_association}

-- ---- where a block stands

-- the context after blocks, the first of which stands in this one
abbrev pub context_following : Context → List block.Block → Context
context_following context [] = context
context_following context (b ∷ blocks) = context_following (context_after context b) blocks

-- the context of what follows the first blocks of a descriptor
abbrev pub context_of : List block.Block → Context
context_of before = context_following context.DeviceFront before

-- the bytes after these blocks begin with a block that may stand there, and this is so of it
pub record NextBlock (before : List block.Block) (bytes : List ℕ) (IsSo : block.Block → Type 0) : Type 0 where
  pub next : block.Block
  pub rest : List ℕ
  pub spelt : bytes ≡ spelling next ++ rest
  pub stands : SpellsItself (context_of before) next
  pub is_so : IsSo next

-- ---- G1, G2, G3: the bytes

-- one byte alone is left, or a block of length 2 or more runs past the end
abbrev pub IsCutOff : List ℕ → Type 0
IsCutOff bytes = (length bytes ≡ 1) ⊎ ((2 ≤ slice_index bytes 0) × (length bytes < slice_index bytes 0))

-- the configuration's own place: the first one, or that after a device descriptor
abbrev pub IsAtConfiguration : List block.Block → Type 0
IsAtConfiguration before = (before ≡ []) ⊎ (map role_of before ≡ role.Device ∷ [])

-- G1: a block is cut off, or nothing is left where the configuration has its place
abbrev pub EndsTooSoon : List block.Block → List ℕ → Type 0
EndsTooSoon before bytes = IsCutOff bytes ⊎ ((bytes ≡ []) × IsAtConfiguration before)

-- G2: at least two bytes are left, and the length is below 2
abbrev pub HasNoLength : List ℕ → Type 0
HasNoLength bytes = (2 ≤ length bytes) × (slice_index bytes 0 < 2)

-- G3: a block of its length is there, and no layout of its context has these bytes
pub record HasNoLayout (before : List block.Block) (bytes : List ℕ) : Type 0 where
  pub piece : List ℕ
  pub rest : List ℕ
  pub cut : bytes ≡ piece ++ rest
  pub is_piece : IsPiece piece
  pub spells_none : (b : block.Block) → Spells (context_of before) b piece → ⊥

-- ---- G4: the values of fields

-- G4: a block is there whose fields have a value that is not allowed
abbrev pub HasWrongValue : List block.Block → List ℕ → Type 0
HasWrongValue before bytes = NextBlock before bytes (λ b. HasValues (context_of before) b → ⊥)

-- ---- G5: the two totals

-- n bytes pass a total, or are short of it
abbrev pub IsPast : ℕ → ℕ → Type 0
IsPast n total = total < n

abbrev pub IsShort : ℕ → ℕ → Type 0
IsShort n total = n < total

-- a relation holds of the number of bytes from the first configuration on, and of its total
abbrev pub ConfigurationTotal : (ℕ → ℕ → Type 0) → List block.Block → Type 0
ConfigurationTotal IsSo [] = ⊥
ConfigurationTotal IsSo (b ∷ blocks) =
    IsSoOf (as_configuration b) (λ c. IsSo (size (b ∷ blocks)) c.total) (ConfigurationTotal IsSo blocks)

-- the blocks end with the list of the first header, and it is so of the number of its bytes and of the header's total
abbrev pub HeaderTotal : (ℕ → ℕ → Type 0) → List block.Block → Type 0
HeaderTotal IsSo [] = ⊥
HeaderTotal IsSo (b ∷ blocks) =
    IsSoOf (as_header b) (λ h. AllByRecursion (λ b. IsTrue (is_listed (role_of b))) blocks × IsSo (size (b ∷ blocks)) h.total)
    (HeaderTotal IsSo blocks)

-- the block ends past the configuration's total, or in the header's list past the header's, or the list ends before it, short of that
abbrev pub MissesTotal : List block.Block → block.Block → Type 0
MissesTotal before b =
    ConfigurationTotal IsPast (before ++ b ∷ [])
    ⊎ HeaderTotal IsPast (before ++ b ∷ [])
    ⊎ ((is_listed (role_of b) ≡ false) × HeaderTotal IsShort before)

-- where the bytes end: all blocks are short of the configuration's total, or the list of the header's
abbrev pub FallsShort : List block.Block → Type 0
FallsShort before = ConfigurationTotal IsShort before ⊎ HeaderTotal IsShort before

-- G5: at a block, or where the bytes end
abbrev pub HasWrongTotal : List block.Block → List ℕ → Type 0
HasWrongTotal before bytes = NextBlock before bytes (MissesTotal before) ⊎ ((bytes ≡ []) × FallsShort before)

-- ---- G6 to G9: the order

-- some blocks after these make what the order and the turn of interface numbers and settings allow
pub record MayBegin (blocks : List block.Block) : Type 0 where
  pub more : List block.Block
  pub order : Allows role_of input (blocks ++ more)
  pub in_turn : InTurn [] (filter_map interface_of (blocks ++ more))

-- the sentence does not allow the block, and G7, G8 and G9 do not name it
pub record IsMisplaced (before : List block.Block) (b : block.Block) : Type 0 where
  pub refused : MayBegin (before ++ b ∷ []) → ⊥
  pub unnamed : is_named (map role_of before) (role_of b) ≡ false

-- G6: such a block, or the bytes end after the control interface, with its header still missing
abbrev pub IsOutOfOrder : List block.Block → List ℕ → Type 0
IsOutOfOrder before bytes =
    NextBlock before bytes (IsMisplaced before) ⊎ ((bytes ≡ []) × IsTrue (latest_is role.ControlInterface (map role_of before)))

-- the audio association is missing, or the control interface
abbrev pub LacksPart : List block.Block → Type 0
LacksPart before =
    (has role.AudioAssociation (map role_of before) ≡ false) ⊎ (has role.ControlInterface (map role_of before) ≡ false)

-- G7: an audio interface before the audio association, or another block than the control interface after it; or at the end one is missing
abbrev pub LacksAssociation : List block.Block → List ℕ → Type 0
LacksAssociation before bytes =
    NextBlock before bytes (λ b. IsTrue (stands_without_association (map role_of before) (role_of b)))
    ⊎ ((bytes ≡ []) × LacksPart before)

-- G8: in the list of entities a class block of an unknown subtype
abbrev pub HasUnknownSubtype : List block.Block → List ℕ → Type 0
HasUnknownSubtype before bytes = NextBlock before bytes (λ b. IsTrue (is_unknown_in_list (map role_of before) (role_of b)))

-- G9: a second audio association or a second control interface
abbrev pub ComesAgain : List block.Block → List ℕ → Type 0
ComesAgain before bytes = NextBlock before bytes (λ b. IsTrue (is_second (map role_of before) (role_of b)))

-- ---- the first fault

-- the rule that is broken after these blocks, at these bytes
pub data Breaks (rule : ℕ) (before : List block.Block) (bytes : List ℕ) : Type 0 where
  g1 : rule ≡ 1 → EndsTooSoon before bytes → Breaks rule before bytes
  g2 : rule ≡ 2 → HasNoLength bytes → Breaks rule before bytes
  g3 : rule ≡ 3 → HasNoLayout before bytes → Breaks rule before bytes
  g4 : rule ≡ 4 → HasWrongValue before bytes → Breaks rule before bytes
  g5 : rule ≡ 5 → HasWrongTotal before bytes → Breaks rule before bytes
  g6 : rule ≡ 6 → IsOutOfOrder before bytes → Breaks rule before bytes
  g7 : rule ≡ 7 → LacksAssociation before bytes → Breaks rule before bytes
  g8 : rule ≡ 8 → HasUnknownSubtype before bytes → Breaks rule before bytes
  g9 : rule ≡ 9 → ComesAgain before bytes → Breaks rule before bytes

-- a fault of bytes: blocks stand in front of its place, each in its context, and after them the rule is broken
pub record IsFault (bytes : List ℕ) (rule place : ℕ) : Type 0 where
  pub before : List block.Block
  pub following : List ℕ
  pub cut : bytes ≡ spellings before ++ following
  pub stand : EachIn SpellsItself context.DeviceFront before
  pub at : place ≡ size before
  pub breaks : Breaks rule before following

-- the first one: each other lies after it, or is of no lesser rule at its place
pub record IsFirstFault (bytes : List ℕ) (fault : GrammarFault) : Type 0 where
  pub is_fault : IsFault bytes fault.rule fault.at
  pub first : (rule place : ℕ) → IsFault bytes rule place → (fault.at < place) ⊎ ((fault.at ≡ place) × (fault.rule ≤ rule))
