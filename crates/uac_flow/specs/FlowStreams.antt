-- A stream that a device runs: what it keeps, and what packets, ticks and the ends of microframes make of it. Profile: the ring, its
-- priming and the zeros for a lost packet. The report is that of USB 2.0, 5.12.4.2; packets are those of Audio Data Formats 2.0, 2.3.1.
use Rattle.std.specs.Prelude.{ℕ, ◌+◌, ◌-◌, ◌%◌, ◌==◌, ◌&&◌, not, nat_le, nat_lt, Bool, false, true, if◌then◌else◌, min}
use Rattle.std.specs.Prelude.{ℤ, pos, List, [], ◌∷◌, ◌++◌, length, take, drop, replicate, get_or, Option, Some, None, is_some}
use Rattle.std.specs.Option.{option_map_or}
use Rattle.uac_alt.specs.AltStreams.{StreamFields}
use Rattle.uac_pcm.specs.Packets.{bytes_of_frames, frames_of_bytes}
use Rattle.uac_rate.specs.Reports.{report_of}
use Rattle.uac_ring.specs.Rings.{ring_frames}
use Rattle.uac_ring.specs.declared.arrival.Arrival.{Arrival}
use Rattle.uac_ring.specs.declared.arrival.Arrival.TheVariants as arrival

-- a running stream to the device
pub record OutStream : Type 0 where
  pub stream : StreamFields
  -- the microframes since its start
  pub microframes : ℕ
  -- all frames that arrived since it last began to prime, and how many of them its terminal took
  pub arrived : List (List ℤ)
  pub taken : ℕ
  -- the level at which it was primed; none while it is priming
  pub target : Option ℕ
  -- since the end of the last microframe in which it was due: whether its packet was lost, and the ticks of its domain
  pub lost : Bool
  pub ticks : ℕ

-- a running stream from the device
pub record InStream : Type 0 where
  pub stream : StreamFields
  -- the microframes since its start
  pub microframes : ℕ
  -- all frames that its terminal made since its start, and how many of them are gone
  pub made : List (List ℤ)
  pub gone : ℕ

-- how many frames lie in the ring of a stream to the device, and of one from it
abbrev pub out_level : OutStream → ℕ
out_level o = length o.arrived - o.taken

abbrev pub in_level : InStream → ℕ
in_level i = length i.made - i.gone

-- ---- the start

abbrev pub started_out : StreamFields → OutStream
started_out s = record { stream = s; microframes = 0; arrived = []; taken = 0; target = None; lost = false; ticks = 0 }

abbrev pub started_in : StreamFields → InStream
started_in s = record { stream = s; microframes = 0; made = []; gone = 0 }

-- ---- packets

-- after so many microframes the next one has a packet: the last of a service interval does
abbrev pub is_due : StreamFields → ℕ → Bool
is_due s microframes = (microframes + 1) % s.service == 0

-- the frames of a packet
abbrev pub frames_of : StreamFields → List ℕ → List (List ℤ)
frames_of s packet = frames_of_bytes s.channels s.subslot s.bits packet

-- the ring has room for all frames of the packet
abbrev pub takes_all : OutStream → List ℕ → Bool
takes_all o packet = nat_le (out_level o + length (frames_of o.stream packet)) ring_frames

-- what becomes of a packet to the device; none is a lost one
unfoldable pub arrival_of : Option (List ℕ) → OutStream → Arrival
arrival_of None o = arrival.Lost
arrival_of (Some packet) o = if takes_all o packet then arrival.Taken else arrival.Over

-- the stream with that packet: of one that is over it keeps no frame
unfoldable pub after_packet : Option (List ℕ) → OutStream → OutStream
after_packet None o = record o { lost = true }
after_packet (Some packet) o =
    record o { lost = false; arrived = if takes_all o packet then o.arrived ++ frames_of o.stream packet else o.arrived }

-- a packet from the device has the frames of the ring, but at most so many as fit
abbrev pub sent_in_frames : InStream → ℕ
sent_in_frames i = min (in_level i) i.stream.most

unfoldable pub sent_in_packet : InStream → List ℕ
sent_in_packet i = bytes_of_frames i.stream.subslot i.stream.bits (take (sent_in_frames i) (drop i.gone i.made))

unfoldable pub after_sending_in : InStream → InStream
after_sending_in i = record i { gone = i.gone + sent_in_frames i }

-- ---- ticks

-- the stream is primed, and its ring is empty
abbrev pub is_dry : OutStream → Bool
is_dry o = is_some o.target && out_level o == 0

-- the stream's ring is full
abbrev pub is_full : InStream → Bool
is_full i = in_level i == ring_frames

-- the frame that a stream to the device plays next; none while it is priming, or where its ring is empty
abbrev pub next_taken : OutStream → Option (List ℤ)
next_taken o = if is_some o.target && not (is_dry o) then Some (get_or o.arrived o.taken []) else None

-- a stream to the device after a tick: a primed one gave a frame, and one that was found empty primes again
unfoldable pub after_taking : OutStream → OutStream
after_taking o =
    if is_dry o then record o { arrived = []; taken = 0; target = None }
    else if is_some o.target then record o { taken = o.taken + 1 }
    else o

-- a stream from the device after a tick: it has this frame, too, where its ring isn't full
unfoldable pub after_putting : List ℤ → InStream → InStream
after_putting frame i = if is_full i then i else record i { made = i.made ++ frame ∷ [] }

-- so many ticks of its domain came
abbrev pub after_ticks : ℕ → OutStream → OutStream
after_ticks ticks o = record o { ticks = o.ticks + ticks }

-- ---- the end of a microframe

-- where its packet was lost, a zero frame for each tick of its domain
abbrev pub zeros_due : OutStream → List (List ℤ)
zeros_due o = if o.lost then replicate o.ticks (replicate o.stream.channels (pos 0)) else []

abbrev pub with_zeros : OutStream → OutStream
with_zeros o = record o { arrived = o.arrived ++ zeros_due o }

-- the level from which on a stream is primed
abbrev pub priming_level : StreamFields → ℕ
priming_level s = if nat_lt 1 s.service then 512 else 256

-- a priming stream of that level is primed now
abbrev pub target_after : Option ℕ → ℕ → StreamFields → Option ℕ
target_after (Some target) level s = Some target
target_after None level s = if nat_lt level (priming_level s) then None else Some level

abbrev pub after_priming : OutStream → OutStream
after_priming o = record o { target = target_after o.target (out_level o) o.stream }

-- what the end of a microframe in which it was due makes of a stream
abbrev pub after_due_end : OutStream → OutStream
after_due_end o = record (after_priming (with_zeros o)) { lost = false; ticks = 0 }

-- a stream to the device, and one from it, at the end of a microframe
unfoldable pub out_after_end : OutStream → OutStream
out_after_end o = record (if is_due o.stream o.microframes then after_due_end o else o) { microframes = o.microframes + 1 }

unfoldable pub in_after_end : InStream → InStream
in_after_end i = record i { microframes = i.microframes + 1 }

-- ---- feedback

-- a report falls due at the end of each microframe whose number is a multiple of the period
abbrev pub reports_now : OutStream → Bool
reports_now o = nat_lt 0 o.microframes && o.microframes % o.stream.period == 0

-- the report that is due: the nominal value while the stream is priming
unfoldable pub feedback_of : OutStream → Option ℕ
feedback_of o =
    if reports_now o then Some (option_map_or (λ target. report_of o.stream.nominal target (out_level o)) o.target o.stream.nominal.f)
    else None
