-- The controls of an audio function's entities in one table: which control a selector names, and what is so of it (Audio Class 2.0, A.17
-- and 5.2.5). Every other word on a kind's controls is read from here.
use Rattle.std.specs.Prelude.{ℕ, ◌+◌, ◌*◌, ◌%◌, ◌≤◌, ◌==◌, ◌&&◌, nat_le, nat_lt, Bool, true, false, if◌then◌else◌, ℤ, pos, negsuc}
use Rattle.std.specs.Prelude.{List, [], ◌∷◌, map, Option, Some, None, is_some}
use Rattle.std.specs.Map.{lookup}
use Rattle.std.specs.Option.{option_map, option_map_or, option_and_then}
use Rattle.uac_clock.specs.Nominal.{is_listed, twelve_rates}
use Rattle.uac_gain.specs.Gain.{gain_of}
use Rattle.uac_entities.specs.declared.entity.EntityKind.{EntityKind}
use Rattle.uac_entities.specs.declared.entity.EntityKind.TheVariants as kind
use Rattle.uac_store.specs.declared.controls.Control.{Control}
use Rattle.uac_store.specs.declared.controls.Control.TheVariants as control
use Rattle.uac_store.specs.declared.controls.Facts.{Facts}
use Rattle.uac_store.specs.declared.controls.Start.{Start}
use Rattle.uac_store.specs.declared.controls.Start.TheVariants as start
use Rattle.uac_store.specs.declared.controls.ValueSet.{ValueSet}
use Rattle.uac_store.specs.declared.controls.ValueSet.TheVariants as set
use Rattle.uac_store.specs.declared.controls.Spread.{Spread}
use Rattle.uac_store.specs.declared.controls.Spread.TheVariants as spread
use Rattle.uac_store.specs.declared.keys.Range.{Range}
use Rattle.uac_store.specs.Selectors.{CS_SAM_FREQ_CONTROL, CS_CLOCK_VALID_CONTROL, CX_CLOCK_SELECTOR_CONTROL, CM_NUMERATOR_CONTROL}
use Rattle.uac_store.specs.Selectors.{CM_DENOMINATOR_CONTROL, TE_CONNECTOR_CONTROL, MU_MIXER_CONTROL, SU_SELECTOR_CONTROL, FU_MUTE_CONTROL}
use Rattle.uac_store.specs.Selectors.{FU_VOLUME_CONTROL, EU_ENABLE_CONTROL}

-- ---- the table

-- the controls of a kind by their selectors (A.17.1 to A.17.8), of those that this profile has
abbrev pub controls_by : EntityKind → List (ℕ × Control)
controls_by kind.ClockSource = (CS_SAM_FREQ_CONTROL, control.SamplingFrequency) ∷ (CS_CLOCK_VALID_CONTROL, control.ClockValid) ∷ []
controls_by kind.ClockSelector = (CX_CLOCK_SELECTOR_CONTROL, control.ClockSelector) ∷ []
controls_by kind.ClockMultiplier = (CM_NUMERATOR_CONTROL, control.Numerator) ∷ (CM_DENOMINATOR_CONTROL, control.Denominator) ∷ []
controls_by kind.InputTerminal = (TE_CONNECTOR_CONTROL, control.Connector) ∷ []
controls_by kind.OutputTerminal = (TE_CONNECTOR_CONTROL, control.Connector) ∷ []
controls_by kind.Mixer = (MU_MIXER_CONTROL, control.MixerNode) ∷ []
controls_by kind.Selector = (SU_SELECTOR_CONTROL, control.Selector) ∷ []
controls_by kind.Feature = (FU_MUTE_CONTROL, control.Mute) ∷ (FU_VOLUME_CONTROL, control.Volume) ∷ []
controls_by kind.Effect = (EU_ENABLE_CONTROL, control.Enable) ∷ []

-- what stands at a selector; none where nothing does
abbrev pub at_selector : {A : Type 0} → List (ℕ × A) → ℕ → Option A
at_selector row selector = lookup (λ s. s == selector) row

-- the control that a selector names
abbrev pub control_of : EntityKind → ℕ → Option Control
control_of k selector = at_selector (controls_by k) selector

-- of each control the bytes of its value (5.2.5.1 to 5.2.5.8; profile: those of pins, numerators, denominators and connectors) and whether
-- that is signed; whether a value is kept, or the control only read; whether it answers RANGE (5.2.1); whether a host may ever set it; its
-- value at the start, in its own units, where 0 stands if none is kept (profile); and the values that it takes
abbrev pub facts_of : Control → Facts
facts_of control.SamplingFrequency =
    record { width = 4; signed = false; kept = true; ranged = true; settable = true; start = start.At (pos 48000); values = set.Rates }
facts_of control.ClockValid =
    record { width = 1; signed = false; kept = false; ranged = false; settable = false; start = start.At (pos 0); values = set.ReadOnly }
facts_of control.ClockSelector =
    record { width = 1; signed = false; kept = true; ranged = true; settable = true; start = start.At (pos 1); values = set.Pins }
facts_of control.Numerator =
    record { width = 2; signed = false; kept = true; ranged = true; settable = true; start = start.At (pos 1); values = set.Factors }
facts_of control.Denominator =
    record { width = 2; signed = false; kept = true; ranged = true; settable = true; start = start.At (pos 1); values = set.Factors }
facts_of control.Connector =
    record { width = 6; signed = false; kept = false; ranged = false; settable = false; start = start.At (pos 0); values = set.ReadOnly }
facts_of control.MixerNode =
    record { width = 2; signed = true; kept = true; ranged = true; settable = true; start = start.ByNode; values = set.Volumes }
facts_of control.Selector =
    record { width = 1; signed = false; kept = true; ranged = true; settable = true; start = start.At (pos 1); values = set.Pins }
facts_of control.Mute =
    record { width = 1; signed = false; kept = true; ranged = false; settable = true; start = start.At (pos 0); values = set.Switch }
facts_of control.Volume =
    record { width = 2; signed = true; kept = true; ranged = true; settable = true; start = start.At (pos 0); values = set.Volumes }
facts_of control.Enable =
    record { width = 1; signed = false; kept = true; ranged = false; settable = true; start = start.At (pos 0); values = set.Switch }

-- what the controls of a kind are on: the entity as a whole, the master and each channel (4.7.2.8, 4.7.2.10), or each node of a mixer
abbrev pub spread_of : EntityKind → Spread
spread_of kind.ClockSource = spread.Whole
spread_of kind.ClockSelector = spread.Whole
spread_of kind.ClockMultiplier = spread.Whole
spread_of kind.InputTerminal = spread.Whole
spread_of kind.OutputTerminal = spread.Whole
spread_of kind.Mixer = spread.Nodes
spread_of kind.Selector = spread.Whole
spread_of kind.Feature = spread.Channels
spread_of kind.Effect = spread.Channels

-- ---- what is so of a kind's control

-- what is so of the control that a selector names
abbrev pub facts_at : EntityKind → ℕ → Option Facts
facts_at k selector = option_map facts_of (control_of k selector)

-- there is one, and it stores a value
abbrev pub stores_value : EntityKind → ℕ → Bool
stores_value k selector = option_map_or (λ f. f.kept) (facts_at k selector) false

-- there is one, and a host may ever set it
abbrev pub is_settable : EntityKind → ℕ → Bool
is_settable k selector = option_map_or (λ f. f.settable) (facts_at k selector) false

-- how many controls of an entity store a value: their selectors are 1 to this
abbrev pub selectors_of : EntityKind → ℕ
selectors_of k = if stores_value k 2 then 2 else if stores_value k 1 then 1 else 0

-- ---- how many there are of each

abbrev pub count_on : Spread → ℕ → ℕ → ℕ
count_on spread.Whole nodes channels = 1
count_on spread.Channels nodes channels = channels + 1
count_on spread.Nodes nodes channels = nodes

-- the nodes of a mixer; the master, channel 0, and the channels of a feature or an effect; else channel 0 alone
abbrev pub count_by : EntityKind → ℕ → ℕ → ℕ
count_by k nodes channels = count_on (spread_of k) nodes channels

abbrev pub IsSmallOn : Spread → ℕ → ℕ → Type 0
IsSmallOn spread.Whole inputs outputs = Unit {0}
IsSmallOn spread.Channels inputs outputs = Unit {0}
IsSmallOn spread.Nodes inputs outputs = (inputs ≤ 256) × (inputs * outputs ≤ 256)

-- profile: a mixer has at most 256 input channels and at most 256 nodes
abbrev pub IsSmall : EntityKind → ℕ → ℕ → Type 0
IsSmall k inputs outputs = IsSmallOn (spread_of k) inputs outputs

-- ---- their values

-- the value at the start that a row tells, a node's as given
abbrev pub start_in : Start → ℤ → ℤ
start_in (start.At value) node = value
start_in start.ByNode node = node

-- the value at the start of the control with a selector; 0 where there is none
abbrev pub start_by : EntityKind → ℕ → ℤ → ℤ
start_by k selector node = option_map_or (λ f. start_in f.start node) (facts_at k selector) (pos 0)

-- a whole number from 1 to this
abbrev pub is_one_to : ℕ → ℤ → Bool
is_one_to most (pos n) = nat_lt 0 n && nat_le n most
is_one_to most _ = false

-- the number of a pin, from 1 (4.7.2.2, 4.7.2.7; 5.2.5.2.1, 5.2.5.6.1); profile: it has one byte
abbrev pub is_pin : ℕ → ℤ → Bool
is_pin pins v = is_one_to 255 v && is_one_to pins v

abbrev pub is_switch : ℤ → Bool
is_switch (pos n) = nat_lt n 2
is_switch _ = false

-- profile: a clock source of fixed or external frequency has 48000 Hz alone, another each of the twelve rates
-- (attributes: 4.7.2.1)
abbrev pub is_frequency : ℕ → ℤ → Bool
is_frequency attributes (pos n) = if nat_lt (attributes % 4) 2 then n == 48000 else is_listed n
is_frequency attributes _ = false

-- the value is one of a set, of an entity with so many pins and these attributes
abbrev pub is_among : ValueSet → ℕ → ℕ → ℤ → Bool
is_among set.Rates pins attributes v = is_frequency attributes v
is_among set.Pins pins attributes v = is_pin pins v
is_among set.Factors pins attributes v = is_one_to 8 v
is_among set.Volumes pins attributes v = is_some (gain_of v)
is_among set.Switch pins attributes v = is_switch v
is_among set.ReadOnly pins attributes v = false

-- a value of the control with a selector is one that it can take
abbrev pub takes_by : EntityKind → ℕ → ℕ → ℕ → ℤ → Bool
takes_by k pins attributes selector v = option_map_or (λ f. is_among f.values pins attributes v) (facts_at k selector) false

-- one subrange
abbrev pub one_range : ℤ → ℤ → ℤ → Option (List Range)
one_range min max res = Some (record { min = min; max = max; res = res } ∷ [])

-- one frequency by itself
abbrev pub alone : ℕ → Range
alone hertz = record { min = pos hertz; max = pos hertz; res = pos 0 }

-- the frequencies of a clock source by its attributes: 48000 Hz where it is external or fixed, else each of the twelve rates
abbrev pub frequencies : ℕ → List ℕ
frequencies attributes = if nat_lt (attributes % 4) 2 then 48000 ∷ [] else twelve_rates

-- the volumes but for silence, in 1/256 decibel: whole decibels from -96 to -33, and halves from -32 to 12
abbrev pub volumes : List Range
volumes = record { min = negsuc 24575; max = negsuc 8447; res = pos 256 } ∷ record { min = negsuc 8191; max = pos 3072; res = pos 128 } ∷ []

-- the subranges of a set of values, in the control's own units, if it is told by subranges
abbrev pub ranges_in : ValueSet → ℕ → ℕ → Option (List Range)
ranges_in set.Rates pins attributes = Some (map alone (frequencies attributes))
ranges_in set.Pins pins attributes = one_range (pos 1) (pos pins) (pos 1)
ranges_in set.Factors pins attributes = one_range (pos 1) (pos 8) (pos 1)
ranges_in set.Volumes pins attributes = Some volumes
ranges_in set.Switch pins attributes = None
ranges_in set.ReadOnly pins attributes = None

-- the subranges of the control with a selector; none where there is no such control, or it has none
abbrev pub ranges_by : EntityKind → ℕ → ℕ → ℕ → Option (List Range)
ranges_by k pins attributes selector = option_and_then (λ f. ranges_in f.values pins attributes) (facts_at k selector)
