use Rattle.std.proofs.Common.{◌≡◌, ◌∙◌, sym, ap, add-one, ℕ, suc, ◌+◌, List, ℤ}
use Rattle.uac_units.specs.Hearing.{Reading}
use Rattle.uac_device.specs.DeviceWorld.{DeviceWorld, after_frames, heard_of}
use Rattle.uac_device.specs.DeviceTicks.{Tones, after_tick_times, heard_at, readings_after}
use Rattle.uac_device.proofs.DeviceTicksLemmas.{heard_by_tick, met_by_levels, renders_same, world_by_parts}
use Rattle.uac_device.proofs.laws.ticks_go_part_by_part.Goals as goal

pub returns-clause-world : goal.returns-clause-world
returns-clause-world c = world_by_parts

pub returns-clause-met : goal.returns-clause-met
returns-clause-met c = met_by_levels

pub returns-clause-renders : goal.returns-clause-renders
returns-clause-renders c = renders_same

pub returns-clause-heard : goal.returns-clause-heard
returns-clause-heard c = λ domain tones t w. ap (λ (n : ℕ). heard_of domain (after_tick_times domain tones n w)) (add-one t) ∙ heard_by_tick domain tones t w

read_more : (domain : ℕ) (tones : Tones) (t : ℕ) (w : DeviceWorld) (readings : List Reading)
    → readings_after domain tones w (suc t) readings
    ≡ after_frames (heard_of domain (after_tick_times domain tones (suc t) w)) (readings_after domain tones w t readings)
unfolding readings_after
read_more domain tones t w readings =
    ap (λ (frames : List (List ℤ)). after_frames frames (readings_after domain tones w t readings)) (sym (heard_by_tick domain tones t w))

pub returns-clause-readings : goal.returns-clause-readings
returns-clause-readings c = λ domain tones t w readings.
    rw (add-one t) (read_more domain tones t w readings)
