-- The values of single fields: Audio Class 2.0, 4.7.2 and the descriptors after it (bmControls, bcdADC, bNrInPins); and
-- those of formats and endpoints.
use Rattle.std.specs.Prelude.{◌≡◌, ◌≢◌, ℕ, zero, suc, ◌/◌, ◌%◌, Bool, false, ◌&&◌, ◌||◌, not, ◌==◌, length, IsTrue}
use Rattle.std.specs.List.{AllByRecursion, list_any}
use Rattle.uac_descriptor.specs.declared.context.Context.{Context}
use Rattle.uac_descriptor.specs.declared.block.Block as block
use Rattle.uac_descriptor.specs.declared.block.Block.TheVariants as variant
use Rattle.uac_descriptor.specs.Standard.{VERSION_02_00}
pub use Rattle.uac_descriptor.specs.Contexts.{is_audio}
pub use Rattle.uac_descriptor.specs.BlockFields.{is_isochronous, IsHighSpeed, IsTypeOneFormat}
unfoldable pub use Rattle.uac_descriptor.specs.BlockFields.{is_no_high_speed, is_no_format}

-- the two bits of control n in bmControls, the lowest two being control 0: 00 absent, 01 read-only, 11 host-programmable
abbrev pub control_bits : ℕ → ℕ → ℕ
control_bits zero controls = controls % 4
control_bits (suc n) controls = control_bits n (controls / 4)

-- 10 is not allowed
abbrev pub IsAllowed : ℕ → ℕ → Type 0
IsAllowed n controls = control_bits n controls ≢ 2

-- the fields of a block have values that the standard allows: of its controls, those that are played
abbrev pub HasValues : Context → block.Block → Type 0
HasValues context (variant.Endpoint e) = IsTrue (is_audio context) → IsTrue (is_isochronous e) → IsHighSpeed e
HasValues context (variant.Header h) = h.version ≡ VERSION_02_00
HasValues context (variant.InputTerminal t) = IsAllowed 1 t.controls
HasValues context (variant.OutputTerminal t) = IsAllowed 1 t.controls
HasValues context (variant.Mixer m) = length m.sources ≢ 0
HasValues context (variant.Selector s) = (length s.sources ≢ 0) × IsAllowed 0 s.controls
HasValues context (variant.Feature f) = AllByRecursion (λ word. IsAllowed 0 word × IsAllowed 1 word) f.words
HasValues context (variant.Effect e) = AllByRecursion (IsAllowed 0) e.words
HasValues context (variant.ClockSource c) = IsAllowed 0 c.controls × IsAllowed 1 c.controls
HasValues context (variant.ClockSelector c) = (length c.sources ≢ 0) × IsAllowed 0 c.controls
HasValues context (variant.ClockMultiplier c) = IsAllowed 0 c.controls × IsAllowed 1 c.controls
HasValues context (variant.General g) = IsAllowed 0 g.controls × IsAllowed 1 g.controls
HasValues context (variant.TypeOne t) = IsTypeOneFormat t
HasValues context (variant.Configuration _) = Unit {0}
HasValues context (variant.Association _) = Unit {0}
HasValues context (variant.Interface _) = Unit {0}
HasValues context (variant.Extra _) = Unit {0}
HasValues context (variant.ClassEndpoint _) = Unit {0}
HasValues context (variant.Foreign _) = Unit {0}

-- which values are wrong, as tests
abbrev pub is_barred : ℕ → ℕ → Bool
is_barred n controls = control_bits n controls == 2

-- rule G4: a field has a value that is not allowed
unfoldable pub has_wrong_value : Context → block.Block → Bool
has_wrong_value context (variant.Endpoint e) = is_audio context && is_isochronous e && is_no_high_speed e
has_wrong_value context (variant.Header h) = not (h.version == VERSION_02_00)
has_wrong_value context (variant.InputTerminal t) = is_barred 1 t.controls
has_wrong_value context (variant.OutputTerminal t) = is_barred 1 t.controls
has_wrong_value context (variant.Mixer m) = length m.sources == 0
has_wrong_value context (variant.Selector s) = length s.sources == 0 || is_barred 0 s.controls
has_wrong_value context (variant.Feature f) = list_any (λ word. is_barred 0 word || is_barred 1 word) f.words
has_wrong_value context (variant.Effect e) = list_any (is_barred 0) e.words
has_wrong_value context (variant.ClockSource c) = is_barred 0 c.controls || is_barred 1 c.controls
has_wrong_value context (variant.ClockSelector c) = length c.sources == 0 || is_barred 0 c.controls
has_wrong_value context (variant.ClockMultiplier c) = is_barred 0 c.controls || is_barred 1 c.controls
has_wrong_value context (variant.General g) = is_barred 0 g.controls || is_barred 1 g.controls
has_wrong_value context (variant.TypeOne t) = is_no_format t
has_wrong_value context (variant.Configuration _) = false
has_wrong_value context (variant.Association _) = false
has_wrong_value context (variant.Interface _) = false
has_wrong_value context (variant.Extra _) = false
has_wrong_value context (variant.ClassEndpoint _) = false
has_wrong_value context (variant.Foreign _) = false
