-- A steady microframe keeps a stream in its band.
use Rattle.std.proofs.Common.{arith, ◌≡◌, ◌∙◌, sym, refl, ap, subst, ℕ, ◌+◌, ◌-◌, ◌*◌, ◌/◌, ◌%◌, ◌<◌, ◌≤◌, ◌⊎◌, inl, inr, ◌==◌, ◌&&◌, Bool, true, false, if◌then◌else◌, nat_lt, pos, List, [], ◌∷◌, ◌++◌, length, sum, replicate, Option, Some, None, is_some, length-append}
use Rattle.std.proofs.lemmas.Bool.{cases_lt}
use Rattle.std.proofs.lemmas.List.{length-replicate}
use Rattle.std.proofs.lemmas.Nat.{mul-le}
use Rattle.uac_clock.specs.declared.values.Nominal.{Nominal}
use Rattle.uac_clock.specs.Nominal.{StaysBetweenWholes}
use Rattle.uac_clock.proofs.NominalLemmas.{has_room}
use Rattle.uac_rate.specs.Levels.{FallsDue, Fills, Interval, IsSafeLevel, IsInterval, IsJustPrimed, IsPriming, Point, Within, frames_came}
use Rattle.uac_rate.specs.Steadiness.{latest_run}
use Rattle.uac_rate.proofs.LevelsLemmas.{falls_due, filled, interval_robust, interval_size, primed_robust, rates_band, robust_near, whole_packets}
use Rattle.uac_alt.specs.AltStreams.{StreamFields}
use Rattle.uac_flow.specs.FlowStreams.{OutStream, after_packet, after_ticks, arrival_of, frames_of, is_dry, is_due, out_level, priming_level, target_after, takes_all}
use Rattle.uac_ring.specs.declared.arrival.Arrival.TheVariants as arrival
use Rattle.uac_host.specs.HostCalls.{next_size, pace_after_packet}
use Rattle.uac_levels.specs.Life.{Life, life_after, ticks_taken, with_end, with_feedback, with_step}
use Rattle.uac_levels.specs.Bands.{EndsNear, HasTicked, HoldsBetween, HoldsEnough, InBand, IsAt, IsFollowing, IsFilling, IsSteadyMicroframe, NeverDry, NeverOver, StartsInBand, StaysInBand, microframes_since_due, stream_at_tick, ticks_then}
use Rattle.uac_levels.proofs.LevelsMicroframeLemmas.{IsPlacedAt, clock_goes, no_report, packet_frames, placed_at, slight_goes}
use Rattle.uac_levels.proofs.FlowStreamsLemmas.{came_for, ended_out, fits_ring, got, got_is, got_stays, not_dry, not_zero, out_due, out_not_due, taken_by, ticks_played, waited_out}
use Rattle.uac_levels.proofs.LifeSteadyLemmas.{HasEnded, HasEndedAt, enough, held_range, is_some_more, is_zero, no_feedback, primed_reported, priming_reported, reports_by, times_none}
use Rattle.uac_streaming.proofs.RoomLemmas.{few_frames, some_frames}

-- what the packet itself brings
abbrev frames_in : Option (List ℕ) → OutStream → ℕ
frames_in None o = 0
frames_in (Some bytes) o = length (frames_of o.stream bytes)

-- whether it is lost
abbrev pub is_lost : Option (List ℕ) → Bool
is_lost None = true
is_lost (Some bytes) = false

got_size : (packet : Option (List ℕ)) (o : OutStream) → length (got packet o).arrived ≡ length o.arrived + frames_in packet o
got_size None o = omega arith
got_size (Some bytes) o = length-append o.arrived (frames_of o.stream bytes)

got_target : (packet : Option (List ℕ)) (o : OutStream) → (got packet o).target ≡ o.target
got_target None o = refl
got_target (Some bytes) o = refl

lost_not_over : (o : OutStream) → arrival_of None o ≡ arrival.Over → ⊥
unfolding arrival_of
lost_not_over o over = cc

taken_not_over : (o : OutStream) (bytes : List ℕ) → takes_all o bytes ≡ true → arrival_of (Some bytes) o ≡ arrival.Over → ⊥
unfolding arrival_of
taken_not_over o bytes fits over =
    let taken : (if takes_all o bytes then arrival.Taken else arrival.Over) ≡ arrival.Taken =
    ap (λ (b : Bool). if b then arrival.Taken else arrival.Over) fits in
    apart (sym taken ∙ over)
  where
    apart : arrival.Taken ≡ arrival.Over → ⊥
    apart same = cc

pub is_below : (a b : ℕ) → a < b → nat_lt a b ≡ true
is_below a b h = grind arith

not_below : (a b : ℕ) → b ≤ a → nat_lt a b ≡ false
not_below a b h = grind arith

priming_least : (s : StreamFields) → IsPriming s.service (priming_level s)
priming_least s = record { single = λ h. grind arith; longer = λ h. grind arith }

module _ (l : Life) (packet : Option (List ℕ)) (step : ℕ) (band : InBand l) (given : IsSteadyMicroframe packet step l) where
  abbrev s : ℕ
  s = l.out.stream.service

  abbrev period : ℕ
  period = l.out.stream.period

  abbrev values : Nominal
  values = l.out.stream.nominal

  abbrev pub n : ℕ
  n = ticks_then step l

  abbrev start : ℕ
  start = l.out.microframes - microframes_since_due l.out

  room : StaysBetweenWholes values
  room = has_room values band.nominal

  at : IsPlacedAt s l.out.microframes
  at = placed_at s l.out.microframes band.intervals.serves

  -- ---- its clock

  clock_after : ℕ → ℕ → ℕ
  clock_after clock steps = (clock + (steps + step)) % 65536

  so_many : (clock : ℕ) (t : HasTicked l clock) → l.out.ticks + n ≡ (clock + (t.steps + step)) / 65536
  so_many clock t = let goes = clock_goes l.steps step clock t.steps t.phase in omega (arith, goes.0, t.ticks)

  phase_after : (clock : ℕ) (t : HasTicked l clock) → sum (l.steps ++ step ∷ []) % 65536 ≡ (clock + (t.steps + step)) % 65536
  phase_after clock t = (clock_goes l.steps step clock t.steps t.phase).1

  slight_after : (clock : ℕ) (t : HasTicked l clock)
      → Within ((microframes_since_due l.out + 1) * values.e) (t.steps + step) ((microframes_since_due l.out + 1) * values.f)
  slight_after clock t = slight_goes (microframes_since_due l.out) values.e values.f t.steps step t.slight given.slight

  -- ---- its host

  size_is : next_size l.pace ≡ (sum l.pace.used % 65536 + s * l.pace.value) / 65536
  size_is =
      (packet_frames l.pace.stream.service l.pace.value l.pace.used).0
      ∙ ap (λ (of : StreamFields). (sum l.pace.used % 65536 + of.service * l.pace.value) / 65536) band.same

  host_after : sum (pace_after_packet l.pace).used % 65536 ≡ (sum l.pace.used % 65536 + s * l.pace.value) % 65536
  host_after =
      (packet_frames l.pace.stream.service l.pace.value l.pace.used).1
      ∙ ap (λ (of : StreamFields). (sum l.pace.used % 65536 + of.service * l.pace.value) % 65536) band.same

  frames_fit : is_due l.out.stream l.out.microframes ≡ true → frames_in packet l.out ≤ (sum l.pace.used % 65536 + s * l.pace.value) / 65536
  frames_fit due = by packet refl
    where
      by : (o : Option (List ℕ)) → packet ≡ o → frames_in o l.out ≤ (sum l.pace.used % 65536 + s * l.pace.value) / 65536
      by None is = omega arith
      by (Some bytes) is = let same = given.frames bytes is due in omega (arith, same, size_is)

  -- ---- a primed ring

  module _ (target : ℕ) (p : Point) (b : IsFollowing l target p) where
    -- after so many of its ticks, and with so many frames of its packet
    plays : (came i : ℕ) → came ≤ (sum l.pace.used % 65536 + s * l.pace.value) / 65536 → i ≤ n
        → (l.out.taken + i ≤ length l.out.arrived + came) × IsSafeLevel s (length l.out.arrived + came - (l.out.taken + i))
    plays came i some few =
        let all = so_many p.clock b.ticked in
        let whole = band.taken in
        let frames : came ≤ (p.host + s * p.value) / 65536 =
        subst (λ (k : ℕ). came ≤ (k + s * p.value) / 65536) (sym b.host)
        (subst (λ (k : ℕ). came ≤ (sum l.pace.used % 65536 + s * k) / 65536) (sym b.value) some) in
        let holds = enough values s period p (microframes_since_due l.out + 1) (b.ticked.steps + step) came
        (l.out.ticks + i) room band.intervals b.robust at.next
        (slight_after p.clock b.ticked) (omega arith) (inl frames) in
        let level = b.level in (
          omega (arith, holds.fits),
          subst (IsSafeLevel s)
              (let same : p.level + came - (l.out.ticks + i) ≡ length l.out.arrived + came - (l.out.taken + i) = omega (arith, holds.fits) in same)
              holds.held,
        )

  -- a packet that is due fits its ring
  fits_at : (o : Option ℕ) → l.out.target ≡ o → IsAt o l → is_due l.out.stream l.out.microframes ≡ true
      → out_level l.out + frames_in packet l.out ≤ 2048
  fits_at None is filling due =
      let low = few_frames l.out.stream in
      let frames = frames_fit due in
      let few = whole_packets values s (sum l.pace.used % 65536) values.f (omega arith) (omega (arith, room.below))
      (omega (arith, room.above)) in
      let size = interval_size s band.intervals.serves in
      let most : s * values.hi ≤ 8 * 25 = mul-le s values.hi 8 25 size.1 room.most in
      let same : s * l.pace.value ≡ s * values.f = ap (λ (k : ℕ). s * k) filling.value in
      omega (arith, filling.level, few.1)
  fits_at (Some target) is following due =
      let holds = plays target following.0 following.1 (frames_in packet l.out) 0 (frames_fit due) (omega arith) in
      let whole = band.taken in
      let range = held_range s _ band.intervals.serves holds.1 in
      omega (arith, range.1)

  fits : is_due l.out.stream l.out.microframes ≡ true → out_level l.out + frames_in packet l.out ≤ 2048
  fits due = fits_at l.out.target refl band.at due

  bytes_fit : is_due l.out.stream l.out.microframes ≡ true → (bytes : List ℕ) → packet ≡ Some bytes
      → out_level l.out + length (frames_of l.out.stream bytes) ≤ 2048
  bytes_fit due bytes is = subst (λ (o : Option (List ℕ)). out_level l.out + frames_in o l.out ≤ 2048) is (fits due)

  -- so many frames are there for ticks
  holds_at : (o : Option ℕ) → IsAt o l → (came i : ℕ) → came ≤ (sum l.pace.used % 65536 + s * l.pace.value) / 65536 → i ≤ n
      → is_some o ≡ true → l.out.taken + i ≤ length l.out.arrived + came
  holds_at None filling came i some few primed = absurd (cc)
  holds_at (Some target) following came i some few primed = (plays target following.0 following.1 came i some few).0

  -- ---- the life after it

  -- where no packet was due
  abbrev pub waited_life : ℕ → Life
  waited_life taken = record l { out = waited_out taken n l.out; steps = l.steps ++ step ∷ [] }

  pub lived_not_due : (o : Option ℕ) → l.out.target ≡ o → IsAt o l → is_due l.out.stream l.out.microframes ≡ false
      → (lost : Bool) → life_after packet step lost l ≡ waited_life (taken_by o n)
  unfolding life_after
  lived_not_due o is place due lost =
      ap (λ (b : Bool). with_feedback lost (with_end
      (with_step step (if b then record l { out = after_packet packet l.out; pace = pace_after_packet l.pace } else l)))) due
      ∙ ap (λ (out : OutStream). with_feedback lost (record l { out = out; steps = l.steps ++ step ∷ [] }))
      (out_not_due n l.out o due is (λ primed. let holds = holds_at o place 0 n (omega arith) (omega arith) primed in omega (arith, holds)))
      ∙ no_feedback (waited_life (taken_by o n)) lost
      (reports_by (waited_life (taken_by o n)) false (omega arith)
      (not_zero ((l.out.microframes + 1) % period)
      (no_report s period l.out.microframes band.intervals (is_some_more ((l.out.microframes + 1) % s) due))))

  -- where one was
  abbrev pub ended_life : ℕ → Life
  ended_life taken = record l { out = ended_out packet taken n l.out; pace = pace_after_packet l.pace; steps = l.steps ++ step ∷ [] }

  pub lived_due : (o : Option ℕ) → l.out.target ≡ o → IsAt o l → is_due l.out.stream l.out.microframes ≡ true
      → (lost : Bool) → life_after packet step lost l ≡ with_feedback lost (ended_life (taken_by o n))
  unfolding life_after
  lived_due o is place due lost =
      ap (λ (b : Bool). with_feedback lost (with_end
      (with_step step (if b then record l { out = after_packet packet l.out; pace = pace_after_packet l.pace } else l)))) due
      ∙ ap (λ (out : OutStream). with_feedback lost (record l { out = out; pace = pace_after_packet l.pace; steps = l.steps ++ step ∷ [] }))
      (out_due packet n l.out o due is (bytes_fit due) (λ primed.
      (let holds = holds_at o place (frames_in packet l.out) n (frames_fit due) (omega arith) primed in
      let size = got_size packet l.out in
      omega (arith, holds))))

  -- ---- its band, where no packet was due

  taken_at : (o : Option ℕ) → IsAt o l → (came : ℕ) → came ≤ (sum l.pace.used % 65536 + s * l.pace.value) / 65536
      → l.out.taken + taken_by o n ≤ length l.out.arrived + came
  taken_at None filling came some = let whole = band.taken in omega arith
  taken_at (Some target) following came some = (plays target following.0 following.1 came n some (omega arith)).0

  abbrev ticked_on : is_due l.out.stream l.out.microframes ≡ false → (clock : ℕ) → HasTicked l clock → (taken : ℕ)
      → HasTicked (waited_life taken) clock
  ticked_on due clock t taken = record {
    steps = t.steps + step;
    slight = subst (λ (k : ℕ). Within (k * values.e) (t.steps + step) (k * values.f))
        (sym (at.within (is_some_more ((l.out.microframes + 1) % s) due))) (slight_after clock t);
    ticks = so_many clock t;
    phase = phase_after clock t;
  }

  -- a primed stream is after the same point, with one step more
  pub after_not_due : is_due l.out.stream l.out.microframes ≡ false → (target : ℕ) (p : Point) (b : IsFollowing l target p)
      → (on : IsFollowing (waited_life n) target p) × (on.ticked.steps ≡ b.ticked.steps + step)
  after_not_due due target p b =
      let holds = (plays target p b 0 n (omega arith) (omega arith)).0 in
      let whole = band.taken in (
        record {
          robust = b.robust;
          target_is = b.target_is;
          level = omega (arith, b.level);
          host = b.host;
          value = b.value;
          lost = b.lost;
          waited = b.waited ∙ sym (ap (λ (k : ℕ). k % period) (at.start (is_some_more ((l.out.microframes + 1) % s) due)));
          ticked = ticked_on due p.clock b.ticked n;
        },
        refl,
      )

  place_not_due : (o : Option ℕ) → IsAt o l → is_due l.out.stream l.out.microframes ≡ false → IsAt o (waited_life (taken_by o n))
  place_not_due None filling due = record {
    level = omega (arith, filling.level);
    value = filling.value;
    clock = filling.clock;
    below = filling.below;
    ticked = ticked_on due filling.clock filling.ticked 0;
  }
  place_not_due (Some target) following due =
      (following.0, (after_not_due due target following.0 following.1).0)

  stays_not_due : is_due l.out.stream l.out.microframes ≡ false → (lost : Bool) → InBand (life_after packet step lost l)
  stays_not_due due lost = subst InBand (sym (lived_not_due l.out.target refl band.at due lost)) (record {
    same = band.same;
    nominal = band.nominal;
    intervals = band.intervals;
    taken = (let fits = taken_at l.out.target band.at 0 (omega arith) in omega arith);
    waits = band.waits;
    few = band.few;
    at = place_not_due l.out.target band.at due;
  })

  -- ---- its band, where one was

  module _ (due : is_due l.out.stream l.out.microframes ≡ true) where
    abbrev all : ℕ
    all = l.out.ticks + n

    ends : (l.out.microframes + 1) % s ≡ 0
    ends = is_zero ((l.out.microframes + 1) % s) due

    came : length (came_for packet all l.out) ≡ frames_came (is_lost packet) (next_size l.pace) all
    came = by packet refl
      where
        by : (o : Option (List ℕ)) → packet ≡ o → length (came_for o all l.out) ≡ frames_came (is_lost o) (next_size l.pace) all
        by None is = length-replicate all (replicate l.out.stream.channels (pos 0))
        by (Some bytes) is = given.frames bytes is due

    all_came : length (l.out.arrived ++ came_for packet all l.out) ≡ length l.out.arrived + frames_came (is_lost packet) (next_size l.pace) all
    all_came = length-append l.out.arrived (came_for packet all l.out) ∙ ap (λ (k : ℕ). length l.out.arrived + k) came

    came_more : frames_in packet l.out ≤ frames_came (is_lost packet) (next_size l.pace) all
    came_more = by packet refl
      where
        by : (o : Option (List ℕ)) → packet ≡ o → frames_in o l.out ≤ frames_came (is_lost o) (next_size l.pace) all
        by None is = omega arith
        by (Some bytes) is = let same = given.frames bytes is due in omega arith

    taken_due : (o : Option ℕ) → IsAt o l → l.out.taken + taken_by o n ≤ length (l.out.arrived ++ came_for packet all l.out)
    taken_due o place =
        let some = taken_at o place (frames_in packet l.out) (frames_fit due) in
        let more = came_more in
        let size = all_came in
        omega arith

    slight_due : (clock : ℕ) (t : HasTicked l clock) → Within (s * values.e) (t.steps + step) (s * values.f)
    slight_due clock t =
        subst (λ (k : ℕ). Within (k * values.e) (t.steps + step) (k * values.f)) (at.ends ends) (slight_after clock t)

    falls : FallsDue s period start
    falls = falls_due s period start band.intervals at.whole

    has_ended : (o : Option ℕ) → IsAt o l → (clock : ℕ) (t : HasTicked l clock)
        → HasEnded (ended_life (taken_by o n)) (start % period + s) ((clock + (t.steps + step)) % 65536)
    has_ended o place clock t = record {
      same = band.same;
      nominal = band.nominal;
      intervals = band.intervals;
      taken = taken_due o place;
      waits = refl;
      few = band.few;
      begun = omega arith;
      passed_is = ends;
      ticks = refl;
      below = omega arith;
      phase = sym (phase_after clock t);
      later = (let some = at.some in omega arith);
      in_time = falls.in_time;
      due = λ h. subst (λ (k : ℕ). k % period ≡ 0) (at.count ends) (falls.due h);
      before = λ h. subst (λ (k : ℕ). k % period ≡ start % period + s) (at.count ends) (falls.before h);
    }

    -- ---- of a primed one

    module _ (target : ℕ) (is : l.out.target ≡ Some target) (p : Point) (b : IsFollowing l target p) where
      abbrev pub end_point : Point
      end_point = record {
        level = length (l.out.arrived ++ came_for packet all l.out) - (l.out.taken + n);
        target = p.target;
        host = (p.host + s * p.value) % 65536;
        clock = (p.clock + (b.ticked.steps + step)) % 65536;
        value = p.value;
        waited = start % period + s;
        lost = p.lost;
      }

      paced : p.host + s * p.value ≡ sum l.pace.used % 65536 + s * l.pace.value
      paced = ap (λ (k : ℕ). k + s * p.value) b.host ∙ ap (λ (k : ℕ). sum l.pace.used % 65536 + s * k) b.value

      level_ends : end_point.level + all ≡ p.level + frames_came (is_lost packet) (next_size l.pace) all
      level_ends =
          let size = all_came in
          let some = taken_due (Some target) (p, b) in
          let whole = band.taken in
          omega (arith, b.level)

      pub interval : (i : Interval values s period (is_lost packet) p end_point) × (i.steps ≡ b.ticked.steps + step)
      interval = (
        record {
          steps = b.ticked.steps + step;
          slight = slight_due p.clock b.ticked;
          sent = next_size l.pace;
          sent_is = size_is ∙ sym (ap (λ (k : ℕ). k / 65536) paced);
          host_is = refl;
          ticks = all;
          ticks_is = so_many p.clock b.ticked;
          clock_is = refl;
          level_is = level_ends;
          target_is = refl;
          value_is = refl;
          waited_is = ap (λ (k : ℕ). k + s) (sym b.waited);
          in_time = falls.in_time;
          lost_is = refl;
        },
        refl,
      )

      pub ended_primed : HasEndedAt (ended_life n) target end_point
      ended_primed = record {
        primed = ap (λ (o : Option ℕ). target_after o
            (length (l.out.arrived ++ came_for packet all l.out) - (l.out.taken + n)) l.out.stream) is;
        ended = has_ended (Some target) (p, b) p.clock b.ticked;
        robust = interval_robust values 65 s period (is_lost packet) p end_point (rates_band values band.nominal room) interval.0 b.robust;
        target_is = b.target_is;
        level = refl;
        host = ap (λ (k : ℕ). k % 65536) paced ∙ sym host_after;
        value = b.value;
        lost = b.lost;
      }

    -- ---- of a priming one

    module _ (is : l.out.target ≡ None) (filling : IsFilling l) where
      abbrev pub level_now : ℕ
      level_now = length (l.out.arrived ++ came_for packet all l.out) - (l.out.taken + 0)

      steps_now : ℕ
      steps_now = filling.ticked.steps + step

      fills : Fills values s (out_level l.out) level_now
      fills = record {
        host = sum l.pace.used % 65536;
        host_below = omega arith;
        clock = filling.clock;
        clock_below = filling.below;
        steps = filling.ticked.steps + step;
        slight = slight_due filling.clock filling.ticked;
        level_is = by (is_lost packet) all_came;
      }
        where
          by : (lost : Bool) → length (l.out.arrived ++ came_for packet all l.out)
              ≡ length l.out.arrived + frames_came lost (next_size l.pace) all
              → (level_now ≡ out_level l.out + (sum l.pace.used % 65536 + s * values.f) / 65536)
              ⊎ (level_now ≡ out_level l.out + (filling.clock + (filling.ticked.steps + step)) / 65536)
          by true size =
              let ticks = so_many filling.clock filling.ticked in
              let whole = band.taken in
              inr (omega arith)
          by false size =
              let size_now = size_is in
              let same : s * l.pace.value ≡ s * values.f = ap (λ (k : ℕ). s * k) filling.value in
              let whole = band.taken in
              inl (omega arith)

      -- whether it is primed now
      pub target_by : (b : Bool) → nat_lt level_now (priming_level l.out.stream) ≡ b
          → (ended_life 0).out.target ≡ (if b then None else Some level_now)
      target_by b test =
          ap (λ (o : Option ℕ). target_after o level_now l.out.stream) is
          ∙ ap (λ (c : Bool). if c then None else Some level_now) test

      abbrev pub first_point : Point
      first_point = record {
        level = level_now;
        target = level_now;
        host = sum (pace_after_packet l.pace).used % 65536;
        clock = (filling.clock + (filling.ticked.steps + step)) % 65536;
        value = l.pace.value;
        waited = start % period + s;
        lost = latest_run l.reports;
      }

      pub just_primed : priming_level l.out.stream ≤ level_now → IsJustPrimed values s period first_point
      just_primed reached = record {
        counted = record { host = omega arith; clock = omega arith; lost = band.few; waited = falls.in_time };
        level = refl;
        value = filling.value;
        target = filled values s (priming_level l.out.stream) (out_level l.out) level_now room band.intervals.serves
            (priming_least l.out.stream)
            filling.level reached fills;
      }

      pub ended_first : priming_level l.out.stream ≤ level_now → HasEndedAt (ended_life 0) level_now first_point
      ended_first reached = record {
        primed = target_by false (not_below level_now (priming_level l.out.stream) reached);
        ended = has_ended None filling filling.clock filling.ticked;
        robust = primed_robust values 65 s period first_point (rates_band values band.nominal room) (just_primed reached);
        target_is = refl;
        level = refl;
        host = refl;
        value = refl;
        lost = refl;
      }

      stays_priming : (lost : Bool) → latest_run (with_feedback lost (ended_life 0)).reports ≤ 3
          → InBand (with_feedback lost (ended_life 0))
      stays_priming lost few = elim (cases_lt level_now (priming_level l.out.stream)) [
        | inl low ↦ priming_reported (ended_life 0) lost (start % period + s) ((filling.clock + (filling.ticked.steps + step)) % 65536)
            (has_ended None filling filling.clock filling.ticked)
            (target_by true (is_below level_now (priming_level l.out.stream) low)) low filling.value few
        | inr reached ↦ primed_reported (ended_life 0) lost level_now first_point (ended_first reached) few
      ]

    stays_due : (lost : Bool) → latest_run (life_after packet step lost l).reports ≤ 3 → InBand (life_after packet step lost l)
    stays_due lost few = by l.out.target refl band.at
      where
        by : (o : Option ℕ) → l.out.target ≡ o → IsAt o l → InBand (life_after packet step lost l)
        by None is filling =
            let lived = lived_due None is filling due lost in
            subst InBand (sym lived) (stays_priming is filling lost (subst (λ (m : Life). latest_run m.reports ≤ 3) lived few))
        by (Some target) is following =
            let lived = lived_due (Some target) is following due lost in
            subst InBand (sym lived)
            (primed_reported (ended_life n) lost target (end_point target is following.0 following.1) (ended_primed target is following.0 following.1)
            (subst (λ (m : Life). latest_run m.reports ≤ 3) lived few))

  stays : (lost : Bool) → latest_run (life_after packet step lost l).reports ≤ 3 → InBand (life_after packet step lost l)
  stays lost few = by (is_due l.out.stream l.out.microframes) refl
    where
      by : (b : Bool) → is_due l.out.stream l.out.microframes ≡ b → InBand (life_after packet step lost l)
      by true due = stays_due due lost few
      by false due = stays_not_due due lost

  -- ---- its ticks

  -- the stream after some of its ticks
  played_due : (o : Option ℕ) → l.out.target ≡ o → IsAt o l → is_due l.out.stream l.out.microframes ≡ true → (i : ℕ) → i ≤ n
      → stream_at_tick i packet step l ≡ record (after_ticks n (got packet l.out)) { taken = l.out.taken + taken_by o i }
  played_due o is place due i few =
      ap (λ (b : Bool). ticks_taken i (after_ticks n
      (if b then record l { out = after_packet packet l.out; pace = pace_after_packet l.pace } else l).out)) due
      ∙ ap (λ (x : OutStream). ticks_taken i (after_ticks n x)) (got_is packet l.out (bytes_fit due))
      ∙ got_stays packet l.out i o is (λ primed.
      (let holds = holds_at o place (frames_in packet l.out) i (frames_fit due) few primed in
      let size = got_size packet l.out in
      omega (arith, holds))) n

  played_not_due : (o : Option ℕ) → l.out.target ≡ o → IsAt o l → is_due l.out.stream l.out.microframes ≡ false → (i : ℕ) → i ≤ n
      → stream_at_tick i packet step l ≡ record (after_ticks n l.out) { taken = l.out.taken + taken_by o i }
  played_not_due o is place due i few =
      ap (λ (b : Bool). ticks_taken i (after_ticks n
      (if b then record l { out = after_packet packet l.out; pace = pace_after_packet l.pace } else l).out)) due
      ∙ ticks_played i (after_ticks n l.out) o is
      (λ primed. let holds = holds_at o place 0 i (omega arith) few primed in omega (arith, holds))

  holds : (target : ℕ) → l.out.target ≡ Some target → (i : ℕ) → i ≤ n → IsSafeLevel s (out_level (stream_at_tick i packet step l))
  holds target is i few = by (is_due l.out.stream l.out.microframes) refl
    where
      following : IsAt (Some target) l
      following = subst (λ (o : Option ℕ). IsAt o l) is band.at

      by : (b : Bool) → is_due l.out.stream l.out.microframes ≡ b → IsSafeLevel s (out_level (stream_at_tick i packet step l))
      by true due =
          let there = plays target following.0 following.1 (frames_in packet l.out) i (frames_fit due) few in
          subst (λ (x : OutStream). IsSafeLevel s (out_level x)) (sym (played_due (Some target) is following due i few))
          (subst (λ (k : ℕ). IsSafeLevel s (k - (l.out.taken + i))) (sym (got_size packet l.out)) there.1)
      by false due =
          let there = plays target following.0 following.1 0 i (omega arith) few in
          subst (λ (x : OutStream). IsSafeLevel s (out_level x)) (sym (played_not_due (Some target) is following due i few))
          (subst (λ (k : ℕ). IsSafeLevel s (k - (l.out.taken + i)))
          (let same : length l.out.arrived + 0 ≡ length l.out.arrived = omega arith in same) there.1)

  not_dry_held : (x : OutStream) → IsSafeLevel s (out_level x) → is_dry x ≡ false
  not_dry_held x there = let range = held_range s (out_level x) band.intervals.serves there in not_dry x (omega (arith, range.0))

  stays_priming_none : (i : ℕ) → i ≤ n → l.out.target ≡ None → (b : Bool) → is_due l.out.stream l.out.microframes ≡ b
      → (stream_at_tick i packet step l).target ≡ None
  stays_priming_none i few is true due =
      ap (λ (x : OutStream). x.target) (played_due None is (subst (λ (o : Option ℕ). IsAt o l) is band.at) due i few)
      ∙ got_target packet l.out ∙ is
  stays_priming_none i few is false due =
      ap (λ (x : OutStream). x.target) (played_not_due None is (subst (λ (o : Option ℕ). IsAt o l) is band.at) due i few) ∙ is

  never : (i : ℕ) → i ≤ n → is_dry (stream_at_tick i packet step l) ≡ false
  never i few = by l.out.target refl
    where
      by : (o : Option ℕ) → l.out.target ≡ o → is_dry (stream_at_tick i packet step l) ≡ false
      by None is =
          ap (λ (o : Option ℕ). is_some o && out_level (stream_at_tick i packet step l) == 0)
          (stays_priming_none i few is (is_due l.out.stream l.out.microframes) refl)
      by (Some target) is = not_dry_held (stream_at_tick i packet step l) (holds target is i few)

  never_over : is_due l.out.stream l.out.microframes ≡ true → arrival_of packet l.out ≡ arrival.Over → ⊥
  never_over due = by packet refl
    where
      by : (o : Option (List ℕ)) → packet ≡ o → arrival_of packet l.out ≡ arrival.Over → ⊥
      by None is over = lost_not_over l.out (ap (λ (q : Option (List ℕ)). arrival_of q l.out) (sym is) ∙ over)
      by (Some bytes) is over =
          taken_not_over l.out bytes (fits_ring l.out bytes (bytes_fit due bytes is))
          (ap (λ (q : Option (List ℕ)). arrival_of q l.out) (sym is) ∙ over)

-- ---- the start

starts_at : (s : ℕ) → IsInterval s → 0 % s ≡ 0
starts_at s serves = let size = interval_size s serves in omega arith

pub starts_in_band : StartsInBand
starts_in_band stream steps reports nominal intervals =
    let start = starts_at stream.service intervals.serves in
    let e = times_none (0 % stream.service) stream.nominal.e start in
    let f = times_none (0 % stream.service) stream.nominal.f start in
    record {
      same = refl;
      nominal = nominal;
      intervals = intervals;
      taken = omega arith;
      waits = refl;
      few = omega arith;
      at = record {
        level = some_frames stream;
        value = refl;
        clock = sum steps % 65536;
        below = omega arith;
        ticked = record { steps = 0; slight = (omega arith, omega arith); ticks = omega arith; phase = omega arith };
      };
    }

pub stays_in_band : StaysInBand
stays_in_band l packet step lost band given few = stays l packet step band given lost few

pub holds_enough : HoldsEnough
holds_enough l packet step target band given is i few = holds l packet step band given target is i few

pub never_dry : NeverDry
never_dry l packet step band given i few = never l packet step band given i (omega arith)

pub never_over_full : NeverOver
never_over_full l packet step band given due over = never_over l packet step band given due over

-- ---- between two microframes

-- where a primed stream is
after_of : (l : Life) (target : ℕ) → InBand l → l.out.target ≡ Some target → (p : Point) × IsFollowing l target p
after_of l target band is = subst (λ (o : Option ℕ). IsAt o l) is band.at

pub holds_between : HoldsBetween
holds_between l target band is =
    let following = after_of l target band is in
    let p : Point = following.0 in
    let b = following.1 in
    let at = placed_at l.out.stream.service l.out.microframes band.intervals.serves in
    let next = at.next in
    let there = enough l.out.stream.nominal l.out.stream.service l.out.stream.period p (microframes_since_due l.out) b.ticked.steps 0 l.out.ticks
    (has_room l.out.stream.nominal band.nominal) band.intervals b.robust (omega arith) b.ticked.slight
    (omega (arith, b.ticked.ticks)) (inl (omega arith)) in
    subst (IsSafeLevel l.out.stream.service) (let same : p.level + 0 - l.out.ticks ≡ out_level l.out = omega (arith, b.level) in same) there.held

pub ends_near : EndsNear
ends_near l target band is ended =
    let following = after_of l target band is in
    let p : Point = following.0 in
    let b = following.1 in
    let e = times_none (microframes_since_due l.out) l.out.stream.nominal.e ended in
    let f = times_none (microframes_since_due l.out) l.out.stream.nominal.f ended in
    let slight = b.ticked.slight in
    let below = b.robust.counted.clock in
    let none : b.ticked.steps ≡ 0 = omega (arith, slight.0) in
    let no_ticks : l.out.ticks ≡ 0 = omega (arith, b.ticked.ticks) in
    let near = robust_near l.out.stream.nominal 65 l.out.stream.service l.out.stream.period p band.intervals.reports b.robust in
    (omega (arith, near.0, b.level, b.target_is), omega (arith, near.1, b.level, b.target_is))
