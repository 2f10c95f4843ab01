-- profile: the sample of a test tone at a place, which counts frames from 0, and a channel, which counts from 0
use Rattle.std.specs.Prelude.{ℕ, ◌+◌, ◌*◌, ℤ, pos, ◌+ℤ◌, ◌*ℤ◌, List, map}
use Rattle.std.specs.List.{range_with_len}
use Rattle.uac_pcm.specs.Subslots.{wrap}
use Rattle.uac_pcm.specs.declared.tones.Tone.{Tone}
use Rattle.uac_pcm.specs.declared.tones.Tone.TheVariants.{Silent, Ramp, Noise}

-- silence, a straight line that wraps, and numbers without a pattern to the ear
abbrev pub tone_sample : Tone → ℕ → ℕ → ℤ
tone_sample Silent place channel = pos 0
tone_sample (Ramp start rise) place channel = wrap (start +ℤ (rise *ℤ pos (place + channel)))
tone_sample (Noise origin) place channel = wrap (pos ((origin + 32 * place + channel) * 2654435761))

-- the frame of a tone at a place: a sample for each channel
abbrev pub tone_frame : ℕ → Tone → ℕ → List ℤ
tone_frame channels tone place = map (tone_sample tone place) (range_with_len 0 channels)
