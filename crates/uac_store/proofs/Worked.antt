-- Worked values of the definitions, on the entities of a headset with a mixer, and on a tree of clocks.
use Rattle.std.proofs.Common.{◌≡◌, ℕ, nat_le, is_some, ℤ, pos, negsuc, List, [], ◌∷◌, true, false, Option, Some, None, refl}
use Rattle.uac_entities.specs.Entities as entity
use Rattle.uac_entities.specs.EntityInterfaces.{channels_of, entity_by_id}
use Rattle.uac_entities.specs.declared.entity.Cluster.{Cluster}
use Rattle.uac_entities.specs.declared.entity.Entity.{Entity}
use Rattle.uac_entities.specs.declared.entity.EntityKind.{EntityKind}
use Rattle.uac_entities.specs.declared.entity.EntityKind.TheVariants as kind
use Rattle.uac_topology_rules.specs.Table.{with_cluster}
use Rattle.uac_store.specs.declared.controls.Control.{Control}
use Rattle.uac_store.specs.declared.controls.Control.TheVariants as control
use Rattle.uac_store.specs.declared.keys.Key.{Key}
use Rattle.uac_store.specs.declared.keys.Range.{Range}
use Rattle.uac_store.specs.ControlTable.{facts_of, stores_value, ranges_in, selectors_of}
use Rattle.uac_store.specs.Keyed.{key_of, value_of, with_value}
use Rattle.uac_store.specs.StoreControls.{pins_of, count_of, node_start, start_of, first_channels, channel_controls, controls_of, initial_controls, has_on, has_control, takes_on, takes}
use Rattle.uac_store.specs.Rates.{source_rate, chosen_source, multiplier_rate, rate_step, rate_within, rate_of}
use Rattle.uac_store.specs.StoreValues.{ranges_of, are_clocked, is_legal}

-- ---- the table

-- a control answers RANGE exactly where it has subranges
ranged_where_ranges : (c : Control) (pins attributes : ℕ) → (facts_of c).ranged ≡ is_some (ranges_in (facts_of c).values pins attributes)
ranged_where_ranges control.SamplingFrequency pins attributes = refl
ranged_where_ranges control.ClockValid pins attributes = refl
ranged_where_ranges control.ClockSelector pins attributes = refl
ranged_where_ranges control.Numerator pins attributes = refl
ranged_where_ranges control.Denominator pins attributes = refl
ranged_where_ranges control.Connector pins attributes = refl
ranged_where_ranges control.MixerNode pins attributes = refl
ranged_where_ranges control.Selector pins attributes = refl
ranged_where_ranges control.Mute pins attributes = refl
ranged_where_ranges control.Volume pins attributes = refl
ranged_where_ranges control.Enable pins attributes = refl

-- the controls that keep a value have the selectors 1 to the count of them
kept_from_one : (k : EntityKind) → (stores_value k 1 ≡ nat_le 1 (selectors_of k)) × (stores_value k 2 ≡ nat_le 2 (selectors_of k))
kept_from_one kind.ClockSource = (refl, refl)
kept_from_one kind.ClockSelector = (refl, refl)
kept_from_one kind.ClockMultiplier = (refl, refl)
kept_from_one kind.InputTerminal = (refl, refl)
kept_from_one kind.OutputTerminal = (refl, refl)
kept_from_one kind.Mixer = (refl, refl)
kept_from_one kind.Selector = (refl, refl)
kept_from_one kind.Feature = (refl, refl)
kept_from_one kind.Effect = (refl, refl)

-- ---- a headset

abbrev stereo : Cluster
stereo = record { channels = 2; locations = 3; names = 0 }

abbrev mono : Cluster
mono = record { channels = 1; locations = 0; names = 0 }

-- the first five entities of the headset, its second feature, and a mixer of three outputs on the USB terminal and that feature
headset : List Entity
headset =
    entity.clock_source (record { id = 1; attributes = 3; controls = 7; assoc = 0; name = 0 })
    ∷ entity.input_terminal (record { id = 2; terminal_type = 257; assoc = 0; clock = 1; channels = 2; locations = 3; names = 0; controls = 0; name = 0 })
    ∷ with_cluster (entity.feature (record { id = 3; source = 2; words = 3 ∷ 12 ∷ 12 ∷ []; name = 0 })) stereo
    ∷ with_cluster (entity.output_terminal (record { id = 4; terminal_type = 770; assoc = 0; source = 3; clock = 1; controls = 0; name = 0 })) stereo
    ∷ entity.input_terminal (record { id = 5; terminal_type = 513; assoc = 0; clock = 1; channels = 1; locations = 0; names = 0; controls = 0; name = 0 })
    ∷ with_cluster (entity.feature (record { id = 6; source = 5; words = 3 ∷ 12 ∷ []; name = 0 })) mono
    ∷ entity.mixer (record { id = 8; sources = 2 ∷ 6 ∷ []; channels = 3; locations = 0; names = 0; mix_bits = 255 ∷ 128 ∷ []; controls = 0; name = 0 })
    ∷ []

abbrev closed : ℤ
closed = negsuc 32767

-- each control that is kept, with its start value
kept : initial_controls headset
    ≡ (key_of 1 1 0, pos 48000)
    ∷ (key_of 3 1 0, pos 0) ∷ (key_of 3 1 1, pos 0) ∷ (key_of 3 1 2, pos 0) ∷ (key_of 3 2 0, pos 0) ∷ (key_of 3 2 1, pos 0) ∷ (key_of 3 2 2, pos 0)
    ∷ (key_of 6 1 0, pos 0) ∷ (key_of 6 1 1, pos 0) ∷ (key_of 6 2 0, pos 0) ∷ (key_of 6 2 1, pos 0)
    ∷ (key_of 8 1 0, pos 0) ∷ (key_of 8 1 1, closed) ∷ (key_of 8 1 2, closed)
    ∷ (key_of 8 1 3, closed) ∷ (key_of 8 1 4, pos 0) ∷ (key_of 8 1 5, closed)
    ∷ (key_of 8 1 6, pos 0) ∷ (key_of 8 1 7, closed) ∷ (key_of 8 1 8, closed)
    ∷ []
unfolding headset initial_controls controls_of channel_controls first_channels count_of start_of node_start pins_of channels_of entity_by_id
kept = refl

-- there is a volume of the second channel, and none of a third; it takes a half decibel and 12 decibels, and no quarter
second_volume : has_control headset (key_of 3 2 2) ≡ true
unfolding headset has_control has_on count_of entity_by_id
second_volume = refl

third_volume : has_control headset (key_of 3 2 3) ≡ false
unfolding headset has_control has_on count_of entity_by_id
third_volume = refl

one_down : takes headset (key_of 3 2 2) (negsuc 255) ≡ true
unfolding headset takes takes_on entity_by_id
one_down = refl

half_down : takes headset (key_of 3 2 2) (negsuc 127) ≡ true
unfolding headset takes takes_on entity_by_id
half_down = refl

quarter_down : takes headset (key_of 3 2 2) (negsuc 63) ≡ false
unfolding headset takes takes_on entity_by_id
quarter_down = refl

half_below_32 : takes headset (key_of 3 2 2) (negsuc 8319) ≡ false
unfolding headset takes takes_on entity_by_id
half_below_32 = refl

twelve_up : takes headset (key_of 3 2 2) (pos 3072) ≡ true
unfolding headset takes takes_on entity_by_id
twelve_up = refl

-- two sources, a selector over them, and a multiplier of what it chooses
clocks : List Entity
clocks =
    entity.clock_source (record { id = 1; attributes = 3; controls = 7; assoc = 0; name = 0 })
    ∷ entity.clock_source (record { id = 2; attributes = 3; controls = 7; assoc = 0; name = 0 })
    ∷ entity.clock_selector (record { id = 3; sources = 1 ∷ 2 ∷ []; controls = 3; name = 0 })
    ∷ entity.clock_multiplier (record { id = 4; source = 3; controls = 15; name = 0 })
    ∷ []

-- the controls of the clocks: the second source's frequency, the pin that is chosen, numerator and denominator
abbrev held : ℤ → ℤ → ℤ → ℤ → List (Key × ℤ)
held frequency pin numerator denominator =
    (key_of 1 1 0, pos 48000) ∷ (key_of 2 1 0, frequency) ∷ (key_of 3 1 0, pin) ∷ (key_of 4 1 0, numerator) ∷ (key_of 4 2 0, denominator) ∷ []

first_pin : rate_of clocks (held (pos 44100) (pos 1) (pos 2) (pos 1)) 4 ≡ Some 96000
unfolding clocks rate_of rate_within rate_step source_rate chosen_source multiplier_rate entity_by_id value_of
first_pin = refl

second_pin : rate_of clocks (held (pos 44100) (pos 2) (pos 2) (pos 8)) 4 ≡ Some 11025
unfolding clocks rate_of rate_within rate_step source_rate chosen_source multiplier_rate entity_by_id value_of
second_pin = refl

-- 12000 is none of the twelve, and 44100 / 8 is no whole number
not_listed : rate_of clocks (held (pos 44100) (pos 1) (pos 2) (pos 8)) 4 ≡ None
unfolding clocks rate_of rate_within rate_step source_rate chosen_source multiplier_rate entity_by_id value_of
not_listed = refl

not_whole : rate_of clocks (held (pos 44100) (pos 2) (pos 1) (pos 8)) 4 ≡ None
unfolding clocks rate_of rate_within rate_step source_rate chosen_source multiplier_rate entity_by_id value_of
not_whole = refl

-- a pin that is not there, a denominator of 0, and a frequency off the list
no_pin : rate_of clocks (held (pos 44100) (pos 3) (pos 1) (pos 1)) 3 ≡ None
unfolding clocks rate_of rate_within rate_step source_rate chosen_source entity_by_id value_of
no_pin = refl

no_denominator : rate_of clocks (held (pos 44100) (pos 1) (pos 1) (pos 0)) 4 ≡ None
unfolding clocks rate_of rate_within rate_step source_rate chosen_source multiplier_rate entity_by_id value_of
no_denominator = refl

off_the_list : rate_of clocks (held (pos 44000) (pos 2) (pos 1) (pos 1)) 2 ≡ None
unfolding clocks rate_of rate_within rate_step source_rate entity_by_id value_of
off_the_list = refl

-- the second volume's range; its mute has none, and neither has a third volume or what is no control
abbrev told : Option (List Range)
told = Some (record { min = negsuc 24575; max = negsuc 8447; res = pos 256 } ∷ record { min = negsuc 8191; max = pos 3072; res = pos 128 } ∷ [])

volume_range : ranges_of headset (key_of 3 2 2) ≡ told
unfolding headset ranges_of has_on count_of entity_by_id
volume_range = refl

node_range : ranges_of headset (key_of 8 1 8) ≡ told
unfolding headset ranges_of has_on count_of pins_of channels_of entity_by_id
node_range = refl

mute_range : ranges_of headset (key_of 3 1 2) ≡ None
unfolding headset ranges_of has_on count_of entity_by_id
mute_range = refl

no_range : ranges_of headset (key_of 3 2 3) ≡ None
unfolding headset ranges_of has_on count_of entity_by_id
no_range = refl

-- twice 96000 is a rate, and twice 192000 is none: the frequency is legal only where the multiplier doesn't follow it
doubled : is_legal clocks (held (pos 48000) (pos 1) (pos 2) (pos 1)) (key_of 1 1 0) (pos 96000) ≡ true
unfolding clocks is_legal takes takes_on are_clocked rate_of rate_within rate_step source_rate chosen_source multiplier_rate entity_by_id value_of with_value
doubled = refl

too_fast : is_legal clocks (held (pos 48000) (pos 1) (pos 2) (pos 1)) (key_of 1 1 0) (pos 192000) ≡ false
unfolding clocks is_legal takes takes_on are_clocked rate_of rate_within rate_step source_rate chosen_source multiplier_rate entity_by_id value_of with_value
too_fast = refl

not_followed : is_legal clocks (held (pos 48000) (pos 2) (pos 2) (pos 1)) (key_of 1 1 0) (pos 192000) ≡ true
unfolding clocks is_legal takes takes_on are_clocked rate_of rate_within rate_step source_rate chosen_source multiplier_rate entity_by_id value_of with_value
not_followed = refl
