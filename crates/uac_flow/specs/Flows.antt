-- How the device keeps a running stream: the frames that came and are not gone lie in a ring, and counts are kept as far as they matter.
use Rattle.std.specs.Prelude.{◌≡◌, ℕ, zero, suc, ◌+◌, ◌*◌, ◌%◌, ◌≤◌, true, min, ℤ, List, length, Some}
use Rattle.std.specs.List.{All}
use Rattle.uac_alt.specs.AltStreams.{StreamFields, stream_fields}
use Rattle.uac_clock.specs.Nominal.{IsNominal}
use Rattle.uac_rate.specs.Levels.{IsInterval}
use Rattle.uac_ring.specs.Rings.{Holds, ring_frames}
use Rattle.uac_flow.specs.FlowStreams.{InStream, OutStream, is_due, out_level, zeros_due}
use Rattle.uac_flow.specs.declared.inward.InFlow.{InFlow}
use Rattle.uac_flow.specs.declared.outward.OutFlow.{OutFlow}

-- what the device needs of a stream that it runs: nominal values of a rate, service intervals and periods of 1, 2, 4 or 8 microframes, and
-- packets whose frames a packet holds
pub record CanRun (s : StreamFields) : Type 0 where
  pub rate : IsNominal s.nominal
  pub serves : IsInterval s.service
  pub reports : s.out ≡ true → IsInterval s.period
  pub fits : s.most * (s.channels * s.subslot) ≤ 3072

-- every interval divides 8: as the count of microframes rises, 8 is followed by 1
abbrev pub kept_count : ℕ → ℕ
kept_count zero = 0
kept_count (suc n) = n % 8 + 1

-- each frame has a sample for each channel
abbrev pub AreFrames : ℕ → List (List ℤ) → Type 0
AreFrames channels frames = All (λ frame. length frame ≡ channels) frames

-- what is always so of a stream to the device and its ring
pub record IsOutFlow (ring : List (List ℤ)) (f : OutFlow) : Type 0 where
  pub runs : CanRun (stream_fields f.stream)
  pub out : f.stream.out ≡ true
  pub counted : f.microframes ≤ 8
  pub target : (level : ℕ) → f.target ≡ Some level → level ≤ ring_frames
  pub frames : AreFrames f.stream.format.channels ring

-- a ring and a flow stand for this stream to the device
pub record OutStands (ring : List (List ℤ)) (f : OutFlow) (o : OutStream) : Type 0 where
  pub stream : stream_fields f.stream ≡ o.stream
  pub microframes : f.microframes ≡ kept_count o.microframes
  pub held : Holds o.arrived o.taken ring
  pub target : f.target ≡ o.target
  pub lost : f.lost ≡ o.lost
  pub ticks : f.ticks ≡ min o.ticks 4294967295

-- what is always so of a stream from the device and its ring
pub record IsInFlow (ring : List (List ℤ)) (f : InFlow) : Type 0 where
  pub runs : CanRun (stream_fields f.stream)
  pub counted : f.microframes ≤ 8
  pub frames : AreFrames f.stream.format.channels ring

-- a ring and a flow stand for this stream from the device
pub record InStands (ring : List (List ℤ)) (f : InFlow) (i : InStream) : Type 0 where
  pub stream : stream_fields f.stream ≡ i.stream
  pub microframes : f.microframes ≡ kept_count i.microframes
  pub held : Holds i.made i.gone ring

-- the zeros for a lost packet fit the ring
abbrev pub ZerosFit : OutStream → Type 0
ZerosFit o = is_due o.stream o.microframes ≡ true → out_level o + length (zeros_due o) ≤ ring_frames
