-- Worked values of streams: a stream to a device and one from it, event by event.
use Rattle.std.proofs.Common.{◌≡◌, ℕ, pos, negsuc, List, [], ◌∷◌, ◌++◌, Some, None, Bool, true, false, map, refl, ℤ}
use Rattle.std.specs.List.{range_with_len}
use Rattle.std.specs.Int.{int_wrap}
use Rattle.uac_alt.specs.AltStreams.{StreamFields}
use Rattle.uac_pcm.specs.Subslots.{cut_to, sample_of_subslot, subslot_of}
use Rattle.uac_flow.specs.Flows.{kept_count}
use Rattle.uac_flow.specs.FlowStreams.{InStream, OutStream, after_packet, after_putting, after_sending_in, after_taking, after_ticks, arrival_of, feedback_of, is_dry, is_due, is_full, next_taken, sent_in_frames, sent_in_packet, out_after_end, started_in, started_out}
use Rattle.uac_ring.specs.declared.arrival.Arrival.TheVariants as arrival

-- mono at 48,000 Hz, in samples of two bytes: 6 frames in a microframe, at most 12 in a packet, a report every second microframe
mono : ℕ → Bool → StreamFields
mono service out =
    record { channels = 1; subslot = 2; bits = 16; nominal = record { f = 393216; e = 393; lo = 5; hi = 7 }; out = out; most = 12; period = 2; service = service }

-- so many frames of a sample
frames : ℕ → List (List ℤ)
frames count = map (λ n. pos n ∷ []) (range_with_len 0 count)

-- a stream that primes, with a packet every so many microframes, before the end of its eighth microframe
holding : ℕ → ℕ → OutStream
holding service level = record (started_out (mono service true)) { microframes = 7; arrived = frames level }

-- a primed stream with a packet every second microframe: of the two frames that arrived one was played
half : OutStream
half =
    record { stream = mono 2 true; microframes = 3; arrived = (pos 5 ∷ []) ∷ (pos 6 ∷ []) ∷ []; taken = 1; target = Some 2; lost = false; ticks = 0 }

-- the same with a full ring
crowded : OutStream
crowded = record half { arrived = frames 2049; lost = true }

-- a stream from the device, whose terminal made so many frames
made : ℕ → InStream
made count = record (started_in (mono 1 false)) { made = frames count }

-- ---- when a packet is due

-- every microframe, every second, every fourth, every eighth
due : (map (is_due (mono 1 true)) (0 ∷ 1 ∷ 2 ∷ 3 ∷ []) ≡ true ∷ true ∷ true ∷ true ∷ [])
    × (map (is_due (mono 2 true)) (0 ∷ 1 ∷ 2 ∷ 3 ∷ []) ≡ false ∷ true ∷ false ∷ true ∷ [])
    × (map (is_due (mono 4 true)) (0 ∷ 2 ∷ 3 ∷ 4 ∷ 7 ∷ []) ≡ false ∷ false ∷ true ∷ false ∷ true ∷ [])
    × (map (is_due (mono 8 true)) (3 ∷ 6 ∷ 7 ∷ 8 ∷ 15 ∷ []) ≡ false ∷ false ∷ true ∷ false ∷ true ∷ [])
unfolding mono
due = (refl, refl, refl, refl)

counts : map kept_count (0 ∷ 1 ∷ 7 ∷ 8 ∷ 9 ∷ 16 ∷ 17 ∷ []) ≡ 0 ∷ 1 ∷ 7 ∷ 8 ∷ 1 ∷ 8 ∷ 1 ∷ []
counts = refl

-- ---- packets to the device

-- the samples 1 and -2, and a byte that makes none
packet : List ℕ
packet = 1 ∷ 0 ∷ 254 ∷ 255 ∷ 7 ∷ []

arrives : (arrival_of (Some packet) half ≡ arrival.Taken)
    × (after_packet (Some packet) half ≡ record half { arrived = half.arrived ++ (pos 65536 ∷ []) ∷ (negsuc 131071 ∷ []) ∷ [] })
unfolding arrival_of after_packet half mono packet cut_to sample_of_subslot int_wrap
arrives = (refl, refl)

is_lost : (arrival_of None half ≡ arrival.Lost) × (after_packet None half ≡ record half { lost = true })
unfolding arrival_of after_packet
is_lost = (refl, refl)

-- a packet for which the ring has no room isn't lost: it leaves the ring as it is
is_over : (arrival_of (Some packet) crowded ≡ arrival.Over) × (after_packet (Some packet) crowded ≡ record crowded { lost = false })
unfolding arrival_of after_packet crowded half mono packet frames
is_over = (refl, refl)

-- one frame still fits into a ring of 2,047, two don't
last_room : (arrival_of (Some (1 ∷ 0 ∷ [])) (record half { arrived = frames 2048 }) ≡ arrival.Taken)
    × (arrival_of (Some packet) (record half { arrived = frames 2048 }) ≡ arrival.Over)
unfolding arrival_of half mono packet frames
last_room = (refl, refl)

-- ---- zeros for a lost packet

-- as many zero frames as there were ticks, once the microframe is due
replaced : (out_after_end (record half { lost = true; ticks = 2 })
    ≡ record half { microframes = 4; arrived = (pos 5 ∷ []) ∷ (pos 6 ∷ []) ∷ (pos 0 ∷ []) ∷ (pos 0 ∷ []) ∷ []; lost = false; ticks = 0 })
    × (out_after_end (record half { microframes = 4; lost = true; ticks = 2 }) ≡ record half { microframes = 5; lost = true; ticks = 2 })
unfolding out_after_end half mono
replaced = (refl, refl)

-- the ticks of two microframes add up
ticks : (after_ticks 7 (after_ticks 6 half)).ticks ≡ 13
unfolding half
ticks = refl

-- none where a packet came, and none where it was over
not_replaced : (out_after_end (record half { ticks = 2 }) ≡ record half { microframes = 4 })
    × ((out_after_end (after_packet (Some packet) (record crowded { ticks = 12 }))).arrived ≡ crowded.arrived)
unfolding out_after_end after_packet crowded half mono packet frames
not_replaced = (refl, refl)

-- ---- priming

-- at 256 frames where a packet comes in each microframe, and else at 512
primes : ((out_after_end (holding 1 255)).target ≡ None) × ((out_after_end (holding 1 256)).target ≡ Some 256) × ((out_after_end (holding 4 511)).target ≡ None)
    × ((out_after_end (holding 4 512)).target ≡ Some 512) × ((out_after_end (holding 4 517)).target ≡ Some 517)
unfolding out_after_end holding mono frames
primes = (refl, refl, refl, refl, refl)

-- only where the microframe is due; and a target stays
primes_when_due : ((out_after_end (record (holding 4 512) { microframes = 6 })).target ≡ None) × ((out_after_end (record (holding 1 300) { target = Some 256 })).target ≡ Some 256)
unfolding out_after_end holding mono frames
primes_when_due = (refl, refl)

-- the zeros for a lost packet count
primes_by_zeros : (out_after_end (record (holding 1 250) { lost = true; ticks = 6 })).target ≡ Some 256
unfolding out_after_end holding mono frames
primes_by_zeros = refl

-- ---- ticks

-- a primed stream plays its oldest frame, and a priming one plays none
plays : (next_taken half ≡ Some (pos 6 ∷ [])) × (after_taking half ≡ record half { taken = 2 }) × (next_taken (holding 1 4) ≡ None)
    × (after_taking (holding 1 4) ≡ holding 1 4)
unfolding after_taking half holding mono frames
plays = (refl, refl, refl, refl)

-- then its ring is empty, which the next tick finds: it plays none, and the stream primes anew
runs_dry : (is_dry half ≡ false) × (is_dry (after_taking half) ≡ true) × (next_taken (after_taking half) ≡ None)
    × (after_taking (after_taking half) ≡ record half { arrived = []; taken = 0; target = None })
unfolding after_taking half
runs_dry = (refl, refl, refl, refl)

-- a priming stream is never dry
starts : (is_dry (started_out (mono 1 true)) ≡ false) × (after_taking (started_out (mono 1 true)) ≡ started_out (mono 1 true))
unfolding after_taking
starts = (refl, refl)

-- a stream from the device has each frame that its terminal made, where its ring has room
puts : ((after_putting (pos 9 ∷ []) (record (made 2047) { gone = 0 })).made ≡ frames 2047 ++ (pos 9 ∷ []) ∷ [])
    × (after_putting (pos 9 ∷ []) (made 2048) ≡ made 2048) × (is_full (made 2048) ≡ true)
    × (is_full (record (made 2048) { gone = 1 }) ≡ false)
unfolding after_putting made mono frames
puts = (refl, refl, refl, refl)

-- ---- packets from the device

-- all that lies in the ring, here 6 frames, but at most 12
sends : (sent_in_frames (made 6) ≡ 6) × ((after_sending_in (made 6)).gone ≡ 6) × (sent_in_frames (made 14) ≡ 12) × ((after_sending_in (made 14)).gone ≡ 12)
    × (sent_in_frames (after_sending_in (made 14)) ≡ 2)
unfolding after_sending_in made mono frames
sends = (refl, refl, refl, refl, refl)

-- the oldest first
sent_bytes : (sent_in_packet (record (started_in (mono 1 false)) { made = (pos 65536 ∷ []) ∷ (negsuc 131071 ∷ []) ∷ [] }) ≡ 1 ∷ 0 ∷ 254 ∷ 255 ∷ [])
    × (sent_in_packet (started_in (mono 1 false)) ≡ [])
unfolding sent_in_packet mono cut_to subslot_of
sent_bytes = (refl, refl)

-- ---- feedback

-- no report falls due before the second microframe has ended: 6 frames while the stream is priming, then 1,024 parts more for each frame
-- that is missing
reports : (feedback_of (started_out (mono 1 true)) ≡ None) × (feedback_of (record (holding 1 4) { microframes = 2 }) ≡ Some 393216) × (feedback_of half ≡ None)
    × (feedback_of (record half { microframes = 4 }) ≡ Some 394240) × (feedback_of (record half { microframes = 4; taken = 2 }) ≡ Some 395264)
    × (feedback_of (record half { microframes = 4; taken = 0 }) ≡ Some 393216)
unfolding feedback_of half holding mono frames
reports = (refl, refl, refl, refl, refl, refl)
