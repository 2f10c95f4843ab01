-- Ticks that wait: what events make of a stream before them, they make of it behind them.
use Rattle.std.proofs.Common.{◌≡◌, ◌∙◌, sym, refl, ap, subst, add-suc, add-zero, arith, ℕ, zero, suc, ◌+◌, ◌-◌, ◌<◌, ◌≤◌, ◌==◌, ◌&&◌, Bool, true, false, if◌then◌else◌, ℤ, List, [], ◌∷◌, ◌++◌, Option, Some, None, length, get_or, map, min, nat_le, nat_lt, pos, replicate, is_some}
use Rattle.std.specs.List.{range_with_len}
use Rattle.std.specs.Prelude.{unwrap_or}
use Rattle.std.proofs.lemmas.Bool.{le-leb, ne_eqb}
use Rattle.std.proofs.lemmas.Bool.Decides.{nat_tests}
use Rattle.std.proofs.lemmas.List.FromFn.{length-map-range_with_len}
use Rattle.std.proofs.lemmas.List.{length-append, append-nil, get_or_append_left}
use Rattle.uac_alt.specs.AltStreams.{StreamFields}
use Rattle.uac_ring.specs.Rings.{ring_frames}
use Rattle.uac_ring.specs.declared.arrival.Arrival.TheVariants as arrival
use Rattle.uac_flow.specs.FlowStreams.{InStream, OutStream, after_due_end, after_packet, after_putting, after_sending_in, after_ticks, arrival_of, feedback_of, frames_of, in_after_end, in_level, is_due, is_full, out_after_end, out_level, sent_in_frames, target_after, zeros_due}
use Rattle.uac_flow.specs.FlowTicks.{IsHeld, given_at, in_after_ticks, in_room, lasts, next_taken_at, out_after_ticks, with_frames}
use Rattle.uac_flow.specs.FlowWaits.{Lasts, feedback_at, sent_more}
use Rattle.uac_flow.proofs.FlowTicksLemmas.{in_kept}

-- ---- to the device

-- so many frames more are taken
abbrev pub taken_more : ℕ → OutStream → OutStream
taken_more t o = record o { taken = o.taken + t }

pub ticks_taken : (t : ℕ) (o : OutStream) → Lasts t o → out_after_ticks t o ≡ taken_more t o
unfolding out_after_ticks
ticks_taken t o lasts = rw (lasts.primed, le-leb t (length o.arrived - o.taken) lasts.level) refl

pub never_dry : (t : ℕ) (o : OutStream) → Lasts t o → lasts t o ≡ true
never_dry t o all = rw (all.primed, le-leb t (length o.arrived - o.taken) all.level) refl

-- fewer ticks may wait, too
pub lasts_less : (t u : ℕ) (o : OutStream) → u ≤ t → Lasts t o → Lasts u o
lasts_less t u o less lasts =
    record { primed = lasts.primed; kept = lasts.kept; level = omega (arith, less, lasts.level); within = lasts.within }

-- a packet
abbrev with_packet : List ℕ → OutStream → OutStream
with_packet packet o = record o { lost = false; arrived = o.arrived ++ frames_of o.stream packet }

packet_kept : (packet : List ℕ) (o : OutStream) → out_level o + length (frames_of o.stream packet) ≤ ring_frames
    → after_packet (Some packet) o ≡ with_packet packet o
unfolding after_packet
packet_kept packet o fits =
    ap (λ (b : Bool). record o { lost = false; arrived = if b then o.arrived ++ frames_of o.stream packet else o.arrived })
    (le-leb (out_level o + length (frames_of o.stream packet)) ring_frames fits)

with_packet_lasts : (t : ℕ) (packet : List ℕ) (o : OutStream) → Lasts t o → out_level o + length (frames_of o.stream packet) ≤ ring_frames
    → Lasts t (with_packet packet o)
with_packet_lasts t packet o lasts fits = record {
  primed = lasts.primed;
  kept = refl;
  level = omega (arith, lasts.level, length-append o.arrived (frames_of o.stream packet));
  within = omega (arith, fits, length-append o.arrived (frames_of o.stream packet));
}

fits_later : (t : ℕ) (packet : List ℕ) (o : OutStream) → out_level o + length (frames_of o.stream packet) ≤ ring_frames
    → out_level (taken_more t o) + length (frames_of o.stream packet) ≤ ring_frames
fits_later t packet o fits = omega (arith, fits)

pub packet_waits : (t : ℕ) (packet : List ℕ) (o : OutStream) → Lasts t o → out_level o + length (frames_of o.stream packet) ≤ ring_frames
    → out_after_ticks t (after_packet (Some packet) o) ≡ after_packet (Some packet) (out_after_ticks t o)
packet_waits t packet o lasts fits =
    ap (out_after_ticks t) (packet_kept packet o fits)
    ∙ ticks_taken t (with_packet packet o) (with_packet_lasts t packet o lasts fits)
    ∙ sym (ap (after_packet (Some packet)) (ticks_taken t o lasts) ∙ packet_kept packet (taken_more t o) (fits_later t packet o fits))

pub packet_arrives : (packet : List ℕ) (o : OutStream) → out_level o + length (frames_of o.stream packet) ≤ ring_frames
    → arrival_of (Some packet) o ≡ arrival.Taken
unfolding arrival_of
packet_arrives packet o fits =
    ap (λ (b : Bool). if b then arrival.Taken else arrival.Over) (le-leb (out_level o + length (frames_of o.stream packet)) ring_frames fits)

pub packet_arrives_later : (t : ℕ) (packet : List ℕ) (o : OutStream) → Lasts t o → out_level o + length (frames_of o.stream packet) ≤ ring_frames
    → arrival_of (Some packet) (out_after_ticks t o) ≡ arrival.Taken
packet_arrives_later t packet o lasts fits =
    ap (arrival_of (Some packet)) (ticks_taken t o lasts) ∙ packet_arrives packet (taken_more t o) (fits_later t packet o fits)

pub packet_lasts : (t : ℕ) (packet : List ℕ) (o : OutStream) → Lasts t o → out_level o + length (frames_of o.stream packet) ≤ ring_frames
    → Lasts t (after_packet (Some packet) o)
packet_lasts t packet o lasts fits = subst (Lasts t) (sym (packet_kept packet o fits)) (with_packet_lasts t packet o lasts fits)

next_with_packet : (t u : ℕ) (packet : List ℕ) (o : OutStream) → Lasts t o → u < t → next_taken_at u (with_packet packet o) ≡ next_taken_at u o
next_with_packet t u packet o lasts less =
    rw (lasts.primed)
    (rw
    (le-leb (suc u) (length (o.arrived ++ frames_of o.stream packet) - o.taken)
    (omega (arith, lasts.level, less, length-append o.arrived (frames_of o.stream packet))))
    (rw (le-leb (suc u) (length o.arrived - o.taken) (omega (arith, lasts.level, less)))
    (ap Some (get_or_append_left o.arrived (frames_of o.stream packet) [] (o.taken + u) (omega (arith, lasts.level, less))))))

pub packet_next : (t u : ℕ) (packet : List ℕ) (o : OutStream) → Lasts t o → out_level o + length (frames_of o.stream packet) ≤ ring_frames → u < t
    → next_taken_at u (after_packet (Some packet) o) ≡ next_taken_at u o
packet_next t u packet o lasts fits less = ap (next_taken_at u) (packet_kept packet o fits) ∙ next_with_packet t u packet o lasts less

pub packet_given : (t u : ℕ) (packet : List ℕ) (o : OutStream) → Lasts t o → out_level o + length (frames_of o.stream packet) ≤ ring_frames → u < t
    → given_at u (after_packet (Some packet) o) ≡ given_at u o
packet_given t u packet o lasts fits less =
    ap (given_at u) (packet_kept packet o fits)
    ∙ ap (λ (x : Option (List ℤ)). unwrap_or x (replicate o.stream.channels (pos 0))) (next_with_packet t u packet o lasts less)

-- a count of ticks
pub count_lasts : (t n : ℕ) (o : OutStream) → Lasts t o → Lasts t (after_ticks n o)
count_lasts t n o lasts = record { primed = lasts.primed; kept = lasts.kept; level = lasts.level; within = lasts.within }

pub count_waits : (t n : ℕ) (o : OutStream) → Lasts t o → out_after_ticks t (after_ticks n o) ≡ after_ticks n (out_after_ticks t o)
count_waits t n o lasts = ticks_taken t (after_ticks n o) (count_lasts t n o lasts) ∙ sym (ap (after_ticks n) (ticks_taken t o lasts))

pub count_next : (u n : ℕ) (o : OutStream) → next_taken_at u (after_ticks n o) ≡ next_taken_at u o
count_next u n o = refl

pub count_given : (u n : ℕ) (o : OutStream) → given_at u (after_ticks n o) ≡ given_at u o
count_given u n o = refl

-- the end of a microframe: of a stream that keeps its packets it is a matter of counts
abbrev ended : Bool → OutStream → OutStream
ended true o = record o { lost = false; ticks = 0; microframes = o.microframes + 1 }
ended false o = record o { microframes = o.microframes + 1 }

target_kept : (target : Option ℕ) (level : ℕ) (s : StreamFields) → is_some target ≡ true → target_after target level s ≡ target
target_kept None level s primed = cc
target_kept (Some x) level s primed = refl

due_kept : (t : ℕ) (o : OutStream) → Lasts t o → after_due_end o ≡ record o { lost = false; ticks = 0 }
due_kept t o lasts =
    ap (λ (target : Option ℕ). record o { arrived = o.arrived ++ zeros_due o; target = target; lost = false; ticks = 0 })
    (target_kept o.target (length (o.arrived ++ zeros_due o) - o.taken) o.stream lasts.primed)
    ∙ ap (λ (arrived : List (List ℤ)). record o { arrived = arrived; lost = false; ticks = 0 })
    (ap (λ (b : Bool). o.arrived ++ (if b then replicate o.ticks (replicate o.stream.channels (pos 0)) else [])) lasts.kept ∙ append-nil o.arrived)

ended_by : (t : ℕ) (o : OutStream) (due : Bool) → Lasts t o → is_due o.stream o.microframes ≡ due → out_after_end o ≡ ended due o
unfolding out_after_end
ended_by t o true lasts is =
    ap (λ (b : Bool). record (if b then after_due_end o else o) { microframes = o.microframes + 1 }) is
    ∙ ap (λ (x : OutStream). record x { microframes = o.microframes + 1 }) (due_kept t o lasts)
ended_by t o false lasts is = ap (λ (b : Bool). record (if b then after_due_end o else o) { microframes = o.microframes + 1 }) is

end_kept : (t : ℕ) (o : OutStream) → Lasts t o → out_after_end o ≡ ended (is_due o.stream o.microframes) o
end_kept t o lasts = ended_by t o (is_due o.stream o.microframes) lasts refl

ended_lasts : (t : ℕ) (o : OutStream) (due : Bool) → Lasts t o → Lasts t (ended due o)
ended_lasts t o true lasts = record { primed = lasts.primed; kept = refl; level = lasts.level; within = lasts.within }
ended_lasts t o false lasts = record { primed = lasts.primed; kept = lasts.kept; level = lasts.level; within = lasts.within }

ended_next : (u : ℕ) (o : OutStream) (due : Bool) → next_taken_at u (ended due o) ≡ next_taken_at u o
ended_next u o true = refl
ended_next u o false = refl

ended_given : (u : ℕ) (o : OutStream) (due : Bool) → given_at u (ended due o) ≡ given_at u o
ended_given u o true = refl
ended_given u o false = refl

ended_taken : (t : ℕ) (o : OutStream) (due : Bool) → taken_more t (ended due o) ≡ ended due (taken_more t o)
ended_taken t o true = refl
ended_taken t o false = refl

pub end_lasts : (t : ℕ) (o : OutStream) → Lasts t o → Lasts t (out_after_end o)
end_lasts t o lasts = subst (Lasts t) (sym (end_kept t o lasts)) (ended_lasts t o (is_due o.stream o.microframes) lasts)

taken_lasts : (t : ℕ) (o : OutStream) → Lasts t o → Lasts 0 (taken_more t o)
taken_lasts t o lasts = record { primed = lasts.primed; kept = lasts.kept; level = omega arith; within = omega (arith, lasts.within) }

pub end_waits : (t : ℕ) (o : OutStream) → Lasts t o → out_after_ticks t (out_after_end o) ≡ out_after_end (out_after_ticks t o)
end_waits t o lasts =
    ticks_taken t (out_after_end o) (end_lasts t o lasts)
    ∙ ap (taken_more t) (end_kept t o lasts)
    ∙ ended_taken t o (is_due o.stream o.microframes)
    ∙ sym (ap out_after_end (ticks_taken t o lasts) ∙ end_kept 0 (taken_more t o) (taken_lasts t o lasts))

-- so it is at each tick, also behind those that wait
pub end_next : (t u : ℕ) (o : OutStream) → Lasts t o → next_taken_at u (out_after_end o) ≡ next_taken_at u o
end_next t u o lasts = ap (next_taken_at u) (end_kept t o lasts) ∙ ended_next u o (is_due o.stream o.microframes)

pub end_given : (t u : ℕ) (o : OutStream) → Lasts t o → given_at u (out_after_end o) ≡ given_at u o
end_given t u o lasts = ap (given_at u) (end_kept t o lasts) ∙ ended_given u o (is_due o.stream o.microframes)

-- feedback, and what is due
pub level_later : (t : ℕ) (o : OutStream) → Lasts t o → out_level (out_after_ticks t o) ≡ out_level o - t
level_later t o lasts = ap out_level (ticks_taken t o lasts) ∙ omega arith

pub feedback_waits : (t : ℕ) (o : OutStream) → Lasts t o → feedback_of (out_after_ticks t o) ≡ feedback_at (out_level o - t) o
unfolding feedback_of
feedback_waits t o lasts =
    ap feedback_of (ticks_taken t o lasts)
    ∙ ap (λ (level : ℕ). feedback_at level o) (let less : length o.arrived - (o.taken + t) ≡ (length o.arrived - o.taken) - t = omega arith in less)

pub feedback_now : (o : OutStream) → feedback_of o ≡ feedback_at (out_level o) o
unfolding feedback_of
feedback_now o = refl

due_by : (t : ℕ) (o : OutStream) (primed within : Bool)
    → is_due
    (if primed then (if within then record o { taken = o.taken + t } else record o { arrived = []; taken = 0; target = None }) else o).stream
    (if primed then (if within then record o { taken = o.taken + t } else record o { arrived = []; taken = 0; target = None }) else o).microframes
    ≡ is_due o.stream o.microframes
due_by t o true true = refl
due_by t o true false = refl
due_by t o false within = refl

pub due_waits : (t : ℕ) (o : OutStream) → is_due (out_after_ticks t o).stream (out_after_ticks t o).microframes ≡ is_due o.stream o.microframes
unfolding out_after_ticks
due_waits t o = due_by t o (is_some o.target) (nat_le t (out_level o))

-- the ticks themselves
pub ticks_last : (n t : ℕ) (o : OutStream) → Lasts (n + t) o → Lasts t (out_after_ticks n o)
ticks_last n t o lasts =
    subst (Lasts t) (sym (ticks_taken n o (lasts_less (n + t) n o (omega arith) lasts)))
    (record { primed = lasts.primed; kept = lasts.kept; level = omega (arith, lasts.level); within = omega (arith, lasts.within) })

pub ticks_wait : (n t : ℕ) (o : OutStream) → Lasts (n + t) o → out_after_ticks t (out_after_ticks n o) ≡ out_after_ticks (n + t) o
ticks_wait n t o lasts =
    ticks_taken t (out_after_ticks n o) (ticks_last n t o lasts)
    ∙ ap (taken_more t) (ticks_taken n o (lasts_less (n + t) n o (omega arith) lasts))
    ∙ ap (λ (x : ℕ). record o { taken = x }) (let moved : (o.taken + n) + t ≡ o.taken + (n + t) = omega arith in moved)
    ∙ sym (ticks_taken (n + t) o lasts)

next_later : (n u arrived taken : ℕ) → nat_lt u (arrived - (taken + n)) ≡ nat_lt (n + u) (arrived - taken)
next_later n u arrived taken = grind (arith, nat_tests)

next_taken_more : (n u : ℕ) (o : OutStream) → next_taken_at u (taken_more n o) ≡ next_taken_at (n + u) o
next_taken_more n u o =
    rw (next_later n u (length o.arrived) o.taken)
    (ap (λ (x : ℕ). if is_some o.target && nat_lt (n + u) (length o.arrived - o.taken) then Some (get_or o.arrived x []) else None)
    (let moved : (o.taken + n) + u ≡ o.taken + (n + u) = omega arith in moved))

pub next_waits : (n u : ℕ) (o : OutStream) → Lasts n o → next_taken_at u (out_after_ticks n o) ≡ next_taken_at (n + u) o
next_waits n u o lasts = ap (next_taken_at u) (ticks_taken n o lasts) ∙ next_taken_more n u o

pub given_waits : (n u : ℕ) (o : OutStream) → Lasts n o → given_at u (out_after_ticks n o) ≡ given_at (n + u) o
given_waits n u o lasts =
    ap (given_at u) (ticks_taken n o lasts)
    ∙ ap (λ (x : Option (List ℤ)). unwrap_or x (replicate o.stream.channels (pos 0))) (next_taken_more n u o)

-- ---- from the device

level_with : (frames : ℕ → List ℤ) (t : ℕ) (i : InStream) → i.gone ≤ length i.made → t ≤ in_room i
    → length (with_frames frames t i).made ≡ length i.made + t
level_with frames t i gone room =
    omega
    (arith, gone, room, length-append i.made (map frames (range_with_len 0 (min t (in_room i)))), length-map-range_with_len frames 0 (min t (in_room i)))

pub level_waits : (frames : ℕ → List ℤ) (t n : ℕ) (i : InStream) → IsHeld i → t ≤ in_room i
    → in_level (sent_more n (in_after_ticks frames t i)) ≡ (in_level i + t) - n
level_waits frames t n i held room =
    ap (λ (x : InStream). in_level (sent_more n x)) (in_kept frames t i held)
    ∙ omega (arith, room, held.0, held.1, level_with frames t i held.0 room)

stream_by : (frame : List ℤ) (i : InStream) (full : Bool) → (if full then i else record i { made = i.made ++ frame ∷ [] }).stream ≡ i.stream
stream_by frame i true = refl
stream_by frame i false = refl

stream_kept : (frames : ℕ → List ℤ) (t : ℕ) (i : InStream) → (in_after_ticks frames t i).stream ≡ i.stream
unfolding in_after_ticks after_putting
stream_kept frames zero i = refl
stream_kept frames (suc t) i = stream_by (frames t) (in_after_ticks frames t i) (is_full (in_after_ticks frames t i)) ∙ stream_kept frames t i

pub sent_waits : (frames : ℕ → List ℤ) (t n : ℕ) (i : InStream) → IsHeld i → t ≤ in_room i
    → sent_in_frames (sent_more n (in_after_ticks frames t i)) ≡ min ((in_level i + t) - n) i.stream.most
sent_waits frames t n i held room =
    ap (λ (level : ℕ). min level (in_after_ticks frames t i).stream.most) (level_waits frames t n i held room)
    ∙ ap (λ (s : StreamFields). min ((in_level i + t) - n) s.most) (stream_kept frames t i)

pub sending_waits : (frames : ℕ → List ℤ) (t n : ℕ) (i : InStream) → IsHeld i → t ≤ in_room i
    → after_sending_in (sent_more n (in_after_ticks frames t i)) ≡ sent_more (n + min ((in_level i + t) - n) i.stream.most) (in_after_ticks frames t i)
unfolding after_sending_in
sending_waits frames t n i held room =
    ap (λ (m : ℕ). sent_more m (sent_more n (in_after_ticks frames t i))) (sent_waits frames t n i held room)
    ∙ ap (λ (x : ℕ). record (in_after_ticks frames t i) { gone = x })
    (let moved : ((in_after_ticks frames t i).gone + n) + min ((in_level i + t) - n) i.stream.most
    ≡ (in_after_ticks frames t i).gone + (n + min ((in_level i + t) - n) i.stream.most) = omega arith in moved)

-- the end of a microframe
end_put_by : (frame : List ℤ) (i : InStream) (full : Bool)
    → (if full then record i { microframes = i.microframes + 1 } else record i { made = i.made ++ frame ∷ []; microframes = i.microframes + 1 })
    ≡ record (if full then i else record i { made = i.made ++ frame ∷ [] }) {
      microframes = (if full then i else record i { made = i.made ++ frame ∷ [] }).microframes + 1;
    }
end_put_by frame i true = refl
end_put_by frame i false = refl

end_put : (frame : List ℤ) (i : InStream) → after_putting frame (in_after_end i) ≡ in_after_end (after_putting frame i)
unfolding after_putting in_after_end
end_put frame i = end_put_by frame i (is_full i)

in_end_ticks : (frames : ℕ → List ℤ) (t : ℕ) (i : InStream) → in_after_ticks frames t (in_after_end i) ≡ in_after_end (in_after_ticks frames t i)
unfolding in_after_ticks
in_end_ticks frames zero i = refl
in_end_ticks frames (suc t) i = ap (after_putting (frames t)) (in_end_ticks frames t i) ∙ end_put (frames t) (in_after_ticks frames t i)

end_sent : (n : ℕ) (i : InStream) → in_after_end (sent_more n i) ≡ sent_more n (in_after_end i)
unfolding in_after_end
end_sent n i = refl

pub in_end_waits : (frames : ℕ → List ℤ) (t n : ℕ) (i : InStream)
    → in_after_end (sent_more n (in_after_ticks frames t i)) ≡ sent_more n (in_after_ticks frames t (in_after_end i))
in_end_waits frames t n i = end_sent n (in_after_ticks frames t i) ∙ ap (sent_more n) (sym (in_end_ticks frames t i))

-- more ticks
pub not_full : (frames : ℕ → List ℤ) (t n : ℕ) (i : InStream) → IsHeld i → t < in_room i → is_full (sent_more n (in_after_ticks frames t i)) ≡ false
not_full frames t n i held room =
    ne_eqb (in_level (sent_more n (in_after_ticks frames t i))) ring_frames
    (λ e. omega (arith, e, room, held.1, level_waits frames t n i held (omega (arith, room))))

put_sent : (frame : List ℤ) (n : ℕ) (i : InStream) → is_full (sent_more n i) ≡ false → is_full (sent_more 0 i) ≡ false
    → after_putting frame (sent_more n i) ≡ sent_more n (after_putting frame i)
unfolding after_putting
put_sent frame n i sent here =
    let same : i.gone + 0 ≡ i.gone = omega arith in
    let room : is_full i ≡ false = ap (λ (x : ℕ). length i.made - x == ring_frames) (sym same) ∙ here in
    ap (λ (b : Bool). if b then sent_more n i else record (sent_more n i) { made = i.made ++ frame ∷ [] }) sent
    ∙ sym (ap (λ (b : Bool). sent_more n (if b then i else record i { made = i.made ++ frame ∷ [] })) room)

pub more_waits : (frames : ℕ → List ℤ) (t u n : ℕ) (i : InStream) → IsHeld i → t + u ≤ in_room i
    → in_after_ticks (λ k. frames (t + k)) u (sent_more n (in_after_ticks frames t i)) ≡ sent_more n (in_after_ticks frames (t + u) i)
unfolding in_after_ticks
more_waits frames t zero n i held room = rw add-zero refl
more_waits frames t (suc u) n i held room =
    ap (after_putting (frames (t + u))) (more_waits frames t u n i held (omega (arith, room)))
    ∙ put_sent (frames (t + u)) n (in_after_ticks frames (t + u) i) (not_full frames (t + u) n i held (omega (arith, room)))
    (not_full frames (t + u) 0 i held (omega (arith, room)))
    ∙ sym (ap (λ (x : ℕ). sent_more n (in_after_ticks frames x i)) (add-suc t u))

pub more_not_full : (frames : ℕ → List ℤ) (t u k n : ℕ) (i : InStream) → IsHeld i → t + u ≤ in_room i → k < u
    → is_full (in_after_ticks (λ k. frames (t + k)) k (sent_more n (in_after_ticks frames t i))) ≡ false
more_not_full frames t u k n i held room less =
    ap is_full (more_waits frames t k n i held (omega (arith, room, less))) ∙ not_full frames (t + k) n i held (omega (arith, room, less))

-- its ring holds its frames still
pub held_waits : (frames : ℕ → List ℤ) (t n : ℕ) (i : InStream) → IsHeld i → t ≤ in_room i → n ≤ in_level i + t
    → IsHeld (sent_more n (in_after_ticks frames t i))
held_waits frames t n i held room sent =
    subst (λ (x : InStream). IsHeld (sent_more n x)) (sym (in_kept frames t i held))
    (omega (arith, room, sent, held.0, held.1, level_with frames t i held.0 room), omega (arith, room, sent, held.0, held.1, level_with frames t i held.0 room))
