-- The rate of a clock entity (Audio Class 2.0, 3.13.10 to 3.13.12 and 4.7.2.1 to 4.7.2.3), found along its clock sources.
use Rattle.std.specs.Prelude.{◌≡◌, ℕ, ◌-◌, ◌*◌, ◌/◌, ◌%◌, ◌<◌, false, ◌==◌, ◌&&◌, nat_lt, zero, suc, ℤ, pos, if◌then◌else◌, List, length}
use Rattle.std.specs.Prelude.{slice_get, Option, Some, None}
use Rattle.std.specs.Option.{option_and_then}
use Rattle.uac_clock.specs.Nominal.{is_listed}
use Rattle.uac_entities.specs.EntityInterfaces.{entity_by_id}
use Rattle.uac_entities.specs.declared.entity.Entity.{Entity}
use Rattle.uac_entities.specs.declared.entity.EntityKind.{EntityKind}
use Rattle.uac_entities.specs.declared.entity.EntityKind.TheVariants as kind
use Rattle.uac_topology_rules.specs.Walk.{has_walk}
use Rattle.uac_topology_rules.specs.Table.{index_of}
use Rattle.uac_topology_rules.specs.Links.{clock_links}
use Rattle.uac_store.specs.declared.keys.Key.{Key}
use Rattle.uac_store.specs.Keyed.{key_of, value_of}
use Rattle.uac_store.specs.Selectors.{CS_SAM_FREQ_CONTROL, CX_CLOCK_SELECTOR_CONTROL, CM_NUMERATOR_CONTROL, CM_DENOMINATOR_CONTROL}

-- a number of hertz that is one of the twelve rates
abbrev pub listed_rate : ℕ → Option ℕ
listed_rate hertz = if is_listed hertz then Some hertz else None

-- profile: a source has the rate that its frequency is, where that is one of the twelve
abbrev pub of_frequency : ℤ → Option ℕ
of_frequency (pos hertz) = listed_rate hertz
of_frequency _ = None

-- the pin that a selector's value chooses, where it is there; pins count from 1
abbrev pub source_on_pin : List ℕ → ℤ → Option ℕ
source_on_pin sources (pos pin) = if nat_lt 0 pin then slice_get sources (pin - 1) else None
source_on_pin sources _ = None

-- profile: a multiplier has a rate where numerator and denominator are positive and the quotient is a whole number and one
-- of the twelve
abbrev pub rate_times : ℕ → ℤ → ℤ → Option ℕ
rate_times rate (pos n) (pos d) =
    if nat_lt 0 n && nat_lt 0 d && (rate * n % d == 0) then listed_rate (rate * n / d) else None
rate_times rate _ _ = None

-- the value of a control that has no channel but 0
abbrev pub value_at : List (Key × ℤ) → ℕ → ℕ → Option ℤ
value_at controls entity selector = value_of controls (key_of entity selector 0)

-- the rate of a source by the controls: that of its frequency
unfoldable pub source_rate : List (Key × ℤ) → ℕ → Option ℕ
source_rate controls id = option_and_then of_frequency (value_at controls id CS_SAM_FREQ_CONTROL)

-- the clock source that a clock selector chooses
unfoldable pub chosen_source : List (Key × ℤ) → Entity → Option ℕ
chosen_source controls e = option_and_then (source_on_pin e.sources) (value_at controls e.id CX_CLOCK_SELECTOR_CONTROL)

-- the rate of a multiplier by the rate of its source
unfoldable pub multiplier_rate : List (Key × ℤ) → ℕ → ℕ → Option ℕ
multiplier_rate controls id rate =
    option_and_then (λ n. option_and_then (rate_times rate n) (value_at controls id CM_DENOMINATOR_CONTROL))
    (value_at controls id CM_NUMERATOR_CONTROL)

-- one step: from the rates of its sources to that of an entity
abbrev pub rate_by : List (Key × ℤ) → (ℕ → Option ℕ) → Entity → EntityKind → Option ℕ
rate_by controls below e kind.ClockSource = source_rate controls e.id
rate_by controls below e kind.ClockSelector = option_and_then below (chosen_source controls e)
rate_by controls below e kind.ClockMultiplier =
    option_and_then (multiplier_rate controls e.id) (option_and_then below (slice_get e.sources 0))
rate_by controls below e kind.InputTerminal = None
rate_by controls below e kind.OutputTerminal = None
rate_by controls below e kind.Mixer = None
rate_by controls below e kind.Selector = None
rate_by controls below e kind.Feature = None
rate_by controls below e kind.Effect = None

-- the rate that an entity gives, from its id
unfoldable pub rate_step : List Entity → List (Key × ℤ) → (ℕ → Option ℕ) → ℕ → Option ℕ
rate_step entities controls below id = option_and_then (λ e. rate_by controls below e e.kind) (entity_by_id entities id)

-- the rate, along at most n entities
unfoldable pub rate_within : ℕ → List Entity → List (Key × ℤ) → ℕ → Option ℕ
rate_within zero entities controls id = None
rate_within (suc n) entities controls id = rate_step entities controls (rate_within n entities controls) id

-- the rate of the clock entity with an id, if it has one
unfoldable pub rate_of : List Entity → List (Key × ℤ) → ℕ → Option ℕ
rate_of entities controls id = rate_within (length entities) entities controls id

-- no walk of so many clock source links leads on from the entity with an id
abbrev pub EndsWithin : ℕ → List Entity → ℕ → Type 0
EndsWithin n entities id = has_walk (clock_links entities) n (index_of entities id) ≡ false

-- no walk of as many clock source links as there are entities leads on from any entity
abbrev pub IsClockTree : List Entity → Type 0
IsClockTree entities = (index : ℕ) → index < length entities → has_walk (clock_links entities) (length entities) index ≡ false
