-- Ticks of a domain that wait while counts of streams run ahead: so many came, and what they make of a stream is settled later. What an
-- event makes of the stream before them, it makes of it behind them. Profile.
use Rattle.std.specs.Prelude.{◌≡◌, ℕ, ◌+◌, ◌≤◌, ◌&&◌, not, nat_le, Bool, true, false, if◌then◌else◌, Option, Some, None, is_some}
use Rattle.std.specs.Option.{option_map_or}
use Rattle.uac_rate.specs.Reports.{report_of}
use Rattle.uac_ring.specs.Rings.{ring_frames}
use Rattle.uac_flow.specs.FlowStreams.{InStream, OutStream, out_level, reports_now}

-- ---- to the device

-- so many ticks may wait: the stream is primed, its packet wasn't lost, and each of them finds a frame
pub record Lasts (t : ℕ) (o : OutStream) : Type 0 where
  pub primed : is_some o.target ≡ true
  pub kept : o.lost ≡ false
  pub level : t ≤ out_level o
  pub within : out_level o ≤ ring_frames

-- so it is, by what is known of it
abbrev pub may_wait : ℕ → OutStream → Bool
may_wait t o = is_some o.target && (not o.lost && (nat_le t (out_level o) && nat_le (out_level o) ring_frames))

-- the report that is due, at a level that is given
abbrev pub feedback_at : ℕ → OutStream → Option ℕ
feedback_at level o =
    if reports_now o then Some (option_map_or (λ target. report_of o.stream.nominal target level) o.target o.stream.nominal.f) else None

-- ---- from the device

-- so many frames more are gone
abbrev pub sent_more : ℕ → InStream → InStream
sent_more n i = record i { gone = i.gone + n }
