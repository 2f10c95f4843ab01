-- The fields of the blocks whose length varies, and what their type keeps: that the block has a spelling
-- (Audio Class 2.0, 4.7.2 and 4.9.3; USB 2.0, 9.5 for a block that is kept whole).
use Rattle.std.specs.Prelude.{◌≡◌, ℕ, ◌+◌, ◌*◌, ◌≤◌, Bool, ◌==◌, ◌||◌, ◌&&◌, not, IsTrue, List, length, slice_index}
use Rattle.uac_descriptor.specs.Standard.{CONFIGURATION, INTERFACE, INTERFACE_ASSOCIATION, AS_GENERAL, FORMAT_TYPE, FORMAT_TYPE_I}

-- a selector unit or a clock selector (Audio Class 2.0, 4.7.2.7 and 4.7.2.2)
pub record SelectorFields : Type 0 where
  pub id : ℕ
  pub sources : List ℕ
  pub controls : ℕ
  pub name : ℕ

-- a selector's length fits a byte
abbrev pub IsSelector : List ℕ → Type 0
IsSelector sources = 7 + length sources ≤ 255

-- a mixer unit (Audio Class 2.0, 4.7.2.6)
pub record MixerFields : Type 0 where
  pub id : ℕ
  pub sources : List ℕ
  pub channels : ℕ
  pub locations : ℕ
  pub names : ℕ
  pub mix_bits : List ℕ
  pub controls : ℕ
  pub name : ℕ

abbrev pub IsMixer : List ℕ → List ℕ → Type 0
IsMixer sources mix_bits = 13 + length sources + length mix_bits ≤ 255

-- a feature unit (Audio Class 2.0, 4.7.2.8)
pub record FeatureFields : Type 0 where
  pub id : ℕ
  pub source : ℕ
  pub words : List ℕ
  pub name : ℕ

-- a feature has the master's word, and its length fits a byte
abbrev pub IsFeature : List ℕ → Type 0
IsFeature words = (1 ≤ length words) × (6 + 4 * length words ≤ 255)

-- an effect unit (Audio Class 2.0, 4.7.2.10; profile: its control words and its length)
pub record EffectFields : Type 0 where
  pub id : ℕ
  pub effect_type : ℕ
  pub source : ℕ
  pub words : List ℕ
  pub name : ℕ

abbrev pub IsEffect : List ℕ → Type 0
IsEffect words = (1 ≤ length words) × (8 + 4 * length words ≤ 255)

-- another class block of a streaming interface (Audio Class 2.0, 4.9.3)
pub record ExtraFields : Type 0 where
  pub subtype : ℕ
  pub rest : List ℕ

-- these bytes after a subtype 2 begin with format type 1
abbrev pub is_type_one : List ℕ → Bool
is_type_one rest = slice_index rest 0 == FORMAT_TYPE_I

-- no other row of a streaming interface reads this subtype with these bytes after it
abbrev pub is_extra : ℕ → List ℕ → Bool
is_extra subtype rest = not (subtype == AS_GENERAL || (subtype == FORMAT_TYPE && is_type_one rest))

abbrev pub IsExtra : ℕ → List ℕ → Type 0
IsExtra subtype rest = IsTrue (is_extra subtype rest) × (3 + length rest ≤ 255)

-- these bytes are one block: the first says how many they are, at least 2
abbrev pub IsWhole : List ℕ → Type 0
IsWhole bytes = (2 ≤ length bytes) × (slice_index bytes 0 ≡ length bytes)

-- a block of this type is read by its row in every context
abbrev pub is_parting : ℕ → Bool
is_parting kind = kind == CONFIGURATION || (kind == INTERFACE_ASSOCIATION || kind == INTERFACE)

-- a whole block that stands somewhere as it is
abbrev pub IsForeign : List ℕ → Type 0
IsForeign bytes = IsWhole bytes × IsTrue (not (is_parting (slice_index bytes 1))) × (length bytes ≤ 255)
