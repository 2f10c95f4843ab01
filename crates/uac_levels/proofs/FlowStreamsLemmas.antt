-- A stream to the device through a packet, ticks and the end of a microframe, where it isn't found empty.
use Rattle.std.proofs.Common.{arith, ◌≡◌, ◌∙◌, refl, ap, ℕ, zero, suc, ◌+◌, ◌-◌, ◌<◌, ◌≤◌, ◌==◌, ◌&&◌, append-nil, Bool, true, false, if◌then◌else◌, ℤ, pos, List, [], ◌++◌, length, replicate, Option, Some, None, is_some}
use Rattle.uac_flow.specs.FlowStreams.{OutStream, after_packet, after_taking, after_ticks, frames_of, is_dry, is_due, out_level, out_after_end, after_due_end, takes_all, target_after}
use Rattle.uac_levels.specs.Life.{ticks_taken}

pub not_zero : (n : ℕ) → 0 < n → (n == 0) ≡ false
not_zero n some = grind arith

-- ---- ticks

pub not_dry : (o : OutStream) → o.taken < length o.arrived → is_dry o ≡ false
not_dry o holds = by (is_some o.target) (not_zero (out_level o) (omega arith))
  where
    by : (b : Bool) → (out_level o == 0) ≡ false → (b && out_level o == 0) ≡ false
    by false e = refl
    by true e = e

taking_by : (o : OutStream) (dry primed : Bool) → is_dry o ≡ dry → is_some o.target ≡ primed
    → after_taking o ≡ (if dry then record o { arrived = []; taken = 0; target = None }
    else if primed then record o { taken = o.taken + 1 } else o)
unfolding after_taking
taking_by o dry primed d p =
    ap (λ (b : Bool). if b then record o { arrived = []; taken = 0; target = None }
    else if is_some o.target then record o { taken = o.taken + 1 } else o) d
    ∙ ap (λ (b : Bool). if dry then record o { arrived = []; taken = 0; target = None }
    else if b then record o { taken = o.taken + 1 } else o) p

pub ticks_of_primed : (n : ℕ) (o : OutStream) (target : ℕ) → o.target ≡ Some target → o.taken + n ≤ length o.arrived
    → ticks_taken n o ≡ record o { taken = o.taken + n }
unfolding ticks_taken
ticks_of_primed zero o target primed holds = ap (λ (k : ℕ). record o { taken = k }) (let same : o.taken ≡ o.taken + 0 = omega arith in same)
ticks_of_primed (suc n) o target primed holds =
    let first : after_taking o ≡ record o { taken = o.taken + 1 } = taking_by o false true (not_dry o (omega arith)) (ap is_some primed) in
    ap (ticks_taken n) first ∙ ticks_of_primed n (record o { taken = o.taken + 1 }) target primed (omega arith)
    ∙ ap (λ (k : ℕ). record o { taken = k }) (let same : o.taken + 1 + n ≡ o.taken + suc n = omega arith in same)

pub ticks_of_priming : (n : ℕ) (o : OutStream) → o.target ≡ None → ticks_taken n o ≡ o
unfolding ticks_taken
ticks_of_priming zero o priming = refl
ticks_of_priming (suc n) o priming =
    let first : after_taking o ≡ o = taking_by o false false (ap (λ (t : Option ℕ). is_some t && out_level o == 0) priming)
    (ap is_some priming) in
    ap (ticks_taken n) first ∙ ticks_of_priming n o priming

-- how many frames so many ticks take
abbrev pub taken_by : Option ℕ → ℕ → ℕ
taken_by None n = 0
taken_by (Some target) n = n

-- ---- the packet

-- the frames that come for a service interval: those of its packet, or a zero frame for each of its ticks
abbrev pub came_for : Option (List ℕ) → ℕ → OutStream → List (List ℤ)
came_for None ticks o = replicate ticks (replicate o.stream.channels (pos 0))
came_for (Some bytes) ticks o = frames_of o.stream bytes

pub fits_ring : (o : OutStream) (bytes : List ℕ) → out_level o + length (frames_of o.stream bytes) ≤ 2048 → takes_all o bytes ≡ true
fits_ring o bytes fits = grind arith

-- with its packet
abbrev pub got : Option (List ℕ) → OutStream → OutStream
got None o = record o { lost = true }
got (Some bytes) o = record o { lost = false; arrived = o.arrived ++ frames_of o.stream bytes }

pub got_is : (packet : Option (List ℕ)) (o : OutStream)
    → ((bytes : List ℕ) → packet ≡ Some bytes → out_level o + length (frames_of o.stream bytes) ≤ 2048)
    → after_packet packet o ≡ got packet o
unfolding after_packet
got_is None o fits = refl
got_is (Some bytes) o fits =
    ap (λ (b : Bool). record o { lost = false; arrived = if b then o.arrived ++ frames_of o.stream bytes else o.arrived })
    (fits_ring o bytes (fits bytes refl))

-- ---- all ticks

pub ticks_played : (n : ℕ) (o : OutStream) (t : Option ℕ) → o.target ≡ t → (is_some t ≡ true → o.taken + n ≤ length o.arrived)
    → ticks_taken n o ≡ record o { taken = o.taken + taken_by t n }
ticks_played n o None at holds =
    ticks_of_priming n o at ∙ ap (λ (k : ℕ). record o { taken = k }) (let same : o.taken ≡ o.taken + 0 = omega arith in same)
ticks_played n o (Some target) at holds = ticks_of_primed n o target at (holds refl)

-- ---- the end

ended_by : (o : OutStream) (due : Bool) → is_due o.stream o.microframes ≡ due
    → out_after_end o ≡ record (if due then after_due_end o else o) { microframes = o.microframes + 1 }
unfolding out_after_end
ended_by o due is = ap (λ (b : Bool). record (if b then after_due_end o else o) { microframes = o.microframes + 1 }) is

-- a microframe in which it wasn't due
abbrev pub waited_out : ℕ → ℕ → OutStream → OutStream
waited_out taken n o = record o { microframes = o.microframes + 1; taken = o.taken + taken; ticks = o.ticks + n }

pub out_not_due : (n : ℕ) (o : OutStream) (t : Option ℕ) → is_due o.stream o.microframes ≡ false → o.target ≡ t
    → (is_some t ≡ true → o.taken + n ≤ length o.arrived)
    → out_after_end (ticks_taken n (after_ticks n o)) ≡ waited_out (taken_by t n) n o
out_not_due n o t due at holds =
    ap out_after_end (ticks_played n (after_ticks n o) t at holds)
    ∙ ended_by (record (after_ticks n o) { taken = o.taken + taken_by t n }) false due

-- a microframe in which it was due
abbrev pub ended_out : Option (List ℕ) → ℕ → ℕ → OutStream → OutStream
ended_out packet taken n o =
    let arrived = o.arrived ++ came_for packet (o.ticks + n) o in
    record {
      stream = o.stream;
      microframes = o.microframes + 1;
      arrived = arrived;
      taken = o.taken + taken;
      target = target_after o.target (length arrived - (o.taken + taken)) o.stream;
      lost = false;
      ticks = 0;
    }

ended_due : (packet : Option (List ℕ)) (taken n : ℕ) (o : OutStream) → is_due o.stream o.microframes ≡ true
    → out_after_end (record (after_ticks n (got packet o)) { taken = o.taken + taken }) ≡ ended_out packet taken n o
ended_due None taken n o due = ended_by (record (after_ticks n (got None o)) { taken = o.taken + taken }) true due
ended_due (Some bytes) taken n o due =
    ended_by (record (after_ticks n (got (Some bytes) o)) { taken = o.taken + taken }) true due
    ∙ ap (λ (frames : List (List ℤ)). with_all frames) (append-nil (o.arrived ++ frames_of o.stream bytes))
  where
    with_all : List (List ℤ) → OutStream
    with_all arrived = record {
      stream = o.stream;
      microframes = o.microframes + 1;
      arrived = arrived;
      taken = o.taken + taken;
      target = target_after o.target (length arrived - (o.taken + taken)) o.stream;
      lost = false;
      ticks = 0;
    }

pub got_stays : (packet : Option (List ℕ)) (o : OutStream) (n : ℕ) (t : Option ℕ) → o.target ≡ t
    → (is_some t ≡ true → o.taken + n ≤ length (got packet o).arrived)
    → (ticks : ℕ)
    → ticks_taken n (after_ticks ticks (got packet o)) ≡ record (after_ticks ticks (got packet o)) { taken = o.taken + taken_by t n }
got_stays None o n t at holds ticks = ticks_played n (after_ticks ticks (got None o)) t at holds
got_stays (Some bytes) o n t at holds ticks = ticks_played n (after_ticks ticks (got (Some bytes) o)) t at holds

pub out_due : (packet : Option (List ℕ)) (n : ℕ) (o : OutStream) (t : Option ℕ) → is_due o.stream o.microframes ≡ true → o.target ≡ t
    → ((bytes : List ℕ) → packet ≡ Some bytes → out_level o + length (frames_of o.stream bytes) ≤ 2048)
    → (is_some t ≡ true → o.taken + n ≤ length (got packet o).arrived)
    → out_after_end (ticks_taken n (after_ticks n (after_packet packet o))) ≡ ended_out packet (taken_by t n) n o
out_due packet n o t due at fits holds =
    ap (λ (x : OutStream). out_after_end (ticks_taken n (after_ticks n x))) (got_is packet o fits)
    ∙ ap out_after_end (got_stays packet o n t at holds n)
    ∙ ended_due packet (taken_by t n) n o due
