-- What the held controls make of a signal (Audio Class 2.0, 5.2.5.5 to 5.2.5.7: mixer, selector and feature unit controls).
-- Profile: the gain of a volume, and that a mixer's controls are numbered by its nodes.
use Rattle.std.specs.Prelude.{ℕ, ◌-◌, Bool, ◌&&◌, not, nat_le, if◌then◌else◌, ℤ, pos, negsuc, List, Option, unwrap_or}
use Rattle.std.specs.Ordering.{int_eq}
use Rattle.uac_gain.specs.Gain.{gain_of, unity}
use Rattle.uac_store.specs.declared.keys.Key.{Key}
use Rattle.uac_store.specs.Keyed.{key_of, value_of}
use Rattle.uac_store.specs.Selectors.{FU_MUTE_CONTROL, FU_VOLUME_CONTROL, MU_MIXER_CONTROL, SU_SELECTOR_CONTROL}

-- the values of the controls that are held, by entity, selector and channel
abbrev pub Controls : Type 0
Controls = ℕ → ℕ → ℕ → Option ℤ

-- the values that a store keeps
abbrev pub controls_in : List (Key × ℤ) → Controls
controls_in store entity selector channel = value_of store (key_of entity selector channel)

-- the value of a control. Each control of a function is held, at first with its start value, whether the descriptor declares
-- it or not
abbrev pub control_value : Controls → ℕ → ℕ → ℕ → ℤ
control_value controls id selector channel = unwrap_or (controls id selector channel) (pos 0)

-- the gain of a volume that is held; one that has no gain counts as 0 decibels
abbrev pub volume_gain : Controls → ℕ → ℕ → ℕ → ℕ
volume_gain controls id selector channel = unwrap_or (gain_of (control_value controls id selector channel)) unity

-- the mute control (5.2.5.7.1)
abbrev pub is_muted : Controls → ℕ → ℕ → Bool
is_muted controls id channel = not (int_eq (control_value controls id FU_MUTE_CONTROL channel) (pos 0))

-- the gain of a feature unit's channel, 0 being the master: that of its volume (5.2.5.7.2), and 0 where it is muted
abbrev pub feature_gain : Controls → ℕ → ℕ → ℕ
feature_gain controls id channel = if is_muted controls id channel then 0 else volume_gain controls id FU_VOLUME_CONTROL channel

-- the gain of a mixer's node: that of its control (5.2.5.5)
abbrev pub node_gain : Controls → ℕ → ℕ → ℕ
node_gain controls id node = volume_gain controls id MU_MIXER_CONTROL node

-- the pin, from 0, that a selector's value names, which counts from 1; a pin that isn't there counts as the first
abbrev pub pin_of : ℤ → ℕ → ℕ
pin_of (pos n) pins = if nat_le 1 n && nat_le n pins then n - 1 else 0
pin_of (negsuc n) pins = 0

-- the pin that a selector of so many pins has chosen (5.2.5.6)
abbrev pub chosen_pin : Controls → ℕ → ℕ → ℕ
chosen_pin controls id pins = pin_of (control_value controls id SU_SELECTOR_CONTROL 0) pins
