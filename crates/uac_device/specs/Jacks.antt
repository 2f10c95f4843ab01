-- Input jacks and the frames that their tones give, tick by tick (profile). A tick has the number of those before it.
use Rattle.std.specs.Prelude.{ℕ, zero, suc, ◌+◌, ◌==◌, ◌&&◌, if◌then◌else◌, ℤ, List, Option, Some, None}
use Rattle.std.specs.List.{fold}
use Rattle.uac_pcm.specs.Tones.{tone_frame}
use Rattle.uac_units.specs.Hearing.{at_most_u64}
use Rattle.uac_device.specs.declared.jacks.Jack.{Jack}
use Rattle.uac_device.specs.DeviceTicks.{Tones}

-- the frame that a jack's tone gives next
unfoldable pub next_frame : Jack → List ℤ
next_frame j = tone_frame j.channels j.tone j.place

-- a jack, and after one frame more where it is of the domain
abbrev pub after_one : ℕ → Jack → Jack
after_one domain j = if j.domain == domain then record j { place = at_most_u64 (j.place + 1) } else j

-- a jack after so many ticks of a domain
unfoldable pub jack_after : ℕ → ℕ → Jack → Jack
jack_after domain zero j = j
jack_after domain (suc t) j = after_one domain (jack_after domain t j)

-- what the jacks of a domain give, tick by tick: where several have one terminal, the last of them gives
abbrev pub tone_with : ℕ → ℕ → Option (ℕ → List ℤ) → Jack → Option (ℕ → List ℤ)
tone_with domain id tone j = if j.domain == domain && id == j.terminal then Some (λ t. next_frame (jack_after domain t j)) else tone

abbrev pub tones_of : ℕ → List Jack → Tones
tones_of domain jacks id = fold (tone_with domain id) None jacks
