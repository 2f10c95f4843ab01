-- What a unit makes of its inputs, by its kind (Audio Class 2.0, 3.13.3 to 3.13.5 and 3.13.7: mixer, selector, feature and
-- effect unit). Profile: the arithmetic, and that an effect is always bypassed.
use Rattle.std.specs.Prelude.{◌≡◌, ℕ, ◌+◌, ◌*◌, ◌≤◌, ℤ, pos, ◌+ℤ◌, List, [], ◌∷◌, ◌++◌, map, length, slice_index, slice_index_or}
use Rattle.std.specs.List.{fold, range_with_len}
use Rattle.uac_gain.specs.Gain.{scaled_sample, nearest_in_32_bits}
use Rattle.uac_units.specs.declared.jobs.Job.{Job}
use Rattle.uac_units.specs.declared.jobs.UnitKind.{UnitKind}
use Rattle.uac_units.specs.declared.jobs.UnitKind.TheVariants.{Mixer, Selector, Feature, Effect}

-- a mixer has a gain for each input and output; a selector's chosen pin is among its inputs; a feature has two gains for
-- each channel; a feature and an effect put out as many channels as come in
abbrev pub FitsNumbers : UnitKind → ℕ → ℕ → ℕ → ℕ → Type 0
FitsNumbers Mixer outputs pin gains inputs = gains ≡ inputs * outputs
FitsNumbers Selector outputs pin gains inputs = (pin + 1) * outputs ≤ inputs
FitsNumbers Feature outputs pin gains inputs = (inputs ≡ outputs) × (gains ≡ 2 * outputs)
FitsNumbers Effect outputs pin gains inputs = inputs ≡ outputs

-- the job can be rendered by a unit of the kind, over these inputs
pub record FitsKind (kind : UnitKind) (job : Job) (pins : List ℤ) : Type 0 where
  pub some : 1 ≤ job.outputs
  pub most : job.outputs ≤ 32
  pub numbers : FitsNumbers kind job.outputs job.pin (length job.gains.items) (length pins)

-- the input channel of that number
abbrev pub input : List ℤ → ℕ → ℤ
input pins at = slice_index_or pins at (pos 0)

-- how a unit is set, whichever of these its kind has: the gain of a mixer's node, by input and output, a selector's pin, from 0,
-- and the two gains of a feature's channel, its own and the master's
pub record UnitControls : Type 0 where
  pub node : ℕ → ℕ → ℕ
  pub chosen : ℕ
  pub own : ℕ → ℕ
  pub master : ℕ → ℕ

-- what comes in at a unit: all channels of its pins, one after the other, those of each pin, and those of the only pin where it
-- has one
pub record Inputs : Type 0 where
  pub all : List ℤ
  pub of_pin : ℕ → ℕ → ℤ
  pub of_only : ℕ → ℤ

-- all inputs together, each scaled by the gain of its node with this output
abbrev pub job_sum : (ℕ → ℕ → ℕ) → List ℤ → ℕ → ℤ
job_sum node inputs channel =
    fold (λ sum sample. sum +ℤ sample) (pos 0)
    (map (λ at. scaled_sample (input inputs at) (node at channel)) (range_with_len 0 (length inputs)))

-- the sample of an output channel: a mixer's is the saturated sum, a selector's its chosen pin's, a feature's its one source's,
-- scaled by the channel's gain and then by the master's, an effect's its one source's
abbrev pub unit_sample : UnitKind → UnitControls → Inputs → ℕ → ℤ
unit_sample Mixer setting inputs channel = nearest_in_32_bits (job_sum setting.node inputs.all channel)
unit_sample Selector setting inputs channel = inputs.of_pin setting.chosen channel
unit_sample Feature setting inputs channel = scaled_sample (scaled_sample (inputs.of_only channel) (setting.own channel))
    (setting.master channel)
unit_sample Effect setting inputs channel = inputs.of_only channel

-- how a job sets its unit: a mixer's gains stand by inputs, a feature's in turn
abbrev pub set_by : Job → UnitControls
set_by job = record {
  node = λ at channel. slice_index job.gains.items (at * job.outputs + channel);
  chosen = job.pin;
  own = λ channel. slice_index job.gains.items (2 * channel);
  master = λ channel. slice_index job.gains.items (2 * channel + 1);
}

-- the channels of all frames, one after the other
abbrev pub in_a_row : List (List ℤ) → List ℤ
in_a_row [] = []
in_a_row (frame ∷ frames) = frame ++ in_a_row frames

-- the frame of a pin, counted from 0
abbrev pub pin_frame : List (List ℤ) → ℕ → List ℤ
pin_frame frames pin = slice_index_or frames pin []

-- the inputs that are the frames of the unit's sources, pin by pin
abbrev pub by_frames : List (List ℤ) → Inputs
by_frames frames = record {
  all = in_a_row frames;
  of_pin = λ pin. input (pin_frame frames pin);
  of_only = input (pin_frame frames 0);
}

-- the inputs that stand in a row, where each of several pins has so many
abbrev pub by_row : ℕ → List ℤ → Inputs
by_row channels pins = record {
  all = pins;
  of_pin = λ pin channel. input pins (pin * channels + channel);
  of_only = input pins;
}

-- the sample of one output channel of a job, over all pins in a row
abbrev pub pins_sample : UnitKind → Job → List ℤ → ℕ → ℤ
pins_sample kind job pins channel = unit_sample kind (set_by job) (by_row job.outputs pins) channel

-- the samples of all output channels
unfoldable pub job_samples : UnitKind → Job → List ℤ → List ℤ
job_samples kind job pins = map (pins_sample kind job pins) (range_with_len 0 job.outputs)
