-- What the parts of a host are seen as.
use Rattle.std.specs.Prelude.{◌≡◌, ℕ, ℤ, ◌*◌, ◌<◌, ◌≤◌, List, []}
use Rattle.uac_clock.specs.Nominal.{IsNominal}
use Rattle.uac_pcm.specs.declared.tones.Tone.{Tone}
use Rattle.uac_pcm.specs.declared.tones.Tone.TheVariants as tones
use Rattle.uac_alt.specs.AltStreams.{StreamFields}

-- a running stream: what the pace is past its last whole frame, in 65,536ths of one, and the rate value in force
pub record PaceFields : Type 0 where
  pub stream : StreamFields
  pub remainder : ℕ
  pub value : ℕ

-- a track: the samples of the frames that wait, one after the other, and its tone with the place of its next frame
pub record TrackFields : Type 0 where
  pub samples : List ℤ
  pub tone : Tone
  pub place : ℕ

-- all its next frames are silent: none waits, and the tone is silence
pub record GivesSilence (t : TrackFields) : Type 0 where
  pub samples : t.samples ≡ []
  pub tone : t.tone ≡ tones.Silent

-- what every stream has that a setting runs: a rate's nominal values, and service intervals whose packets aren't too long
pub record IsRunnable (stream : StreamFields) : Type 0 where
  pub nominal : IsNominal stream.nominal
  pub service : stream.service ≤ 8
  pub fits : stream.service * stream.nominal.hi * (stream.channels * stream.subslot) ≤ 3072

-- what every pace keeps
pub record IsPace (p : PaceFields) : Type 0 where
  pub stream : IsRunnable p.stream
  pub remainder : p.remainder < 65536
  pub least : p.stream.nominal.lo * 65536 ≤ p.value
  pub most : p.value ≤ p.stream.nominal.hi * 65536
