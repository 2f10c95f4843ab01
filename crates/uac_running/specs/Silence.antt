-- Input jacks that are silent, and the packets that there are where a stream runs (profile).
use Rattle.std.specs.Prelude.{◌≡◌, ℕ, ◌==◌, ◌&&◌, Bool, true, false, List}
use Rattle.std.specs.List.{All, list_any}
use Rattle.uac_pcm.specs.declared.tones.Tone.{Tone}
use Rattle.uac_pcm.specs.declared.tones.Tone.TheVariants as tones
use Rattle.uac_graph.specs.Wiring.{silence}
use Rattle.uac_device.specs.DeviceWorld.{DeviceWorld}
use Rattle.uac_script.specs.Phrase.{PhraseMark}
use Rattle.uac_streaming.specs.StreamingWorld.{in_packets, out_packets}
use Rattle.uac_device.specs.declared.jacks.Jack.{Jack}
use Rattle.uac_running.specs.RunningWorld.{RunningWorld}
use Rattle.uac_streaming.specs.Telling.{Telling}
use Rattle.uac_running.specs.Events.{followed_by, of_streams}

-- a tone is more than silence
abbrev pub is_audible : Tone → Bool
is_audible tones.Silent = false
is_audible (tones.Ramp start step) = true
is_audible (tones.Noise seed) = true

-- of these jacks one of a domain sounds
abbrev pub one_is_audible : ℕ → List Jack → Bool
one_is_audible domain jacks = list_any (λ j. j.domain == domain && is_audible j.tone) jacks

-- a jack gave silence last, if it is of a domain
abbrev pub GaveSilence : ℕ → DeviceWorld → Jack → Type 0
GaveSilence domain w j = j.domain ≡ domain → w.given j.terminal ≡ silence j.channels

-- each of a domain is silent, and gave silence last
pub record AreAtRest (domain : ℕ) (jacks : List Jack) (w : DeviceWorld) : Type 0 where
  pub silent : one_is_audible domain jacks ≡ false
  pub gave : All (GaveSilence domain w) jacks

-- the packets of a microframe: those to the device, and those from it
abbrev pub packets : List PhraseMark → RunningWorld → Telling RunningWorld
packets marks r = followed_by (of_streams (out_packets r.detail marks)) (of_streams (in_packets r.detail marks)) r
