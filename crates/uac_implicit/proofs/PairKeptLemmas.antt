-- What each part of a line leaves of what a pair keeps.
use Rattle.std.proofs.Common.{arith, ◌≡◌, ◌∙◌, refl, ap, sym, subst, ℕ, zero, suc, ◌+◌, ◌-◌, ◌*◌, ◌/◌, ◌%◌, ◌<◌, ◌≤◌, ◌≤ℤ◌, ◌⊎◌, inl, inr, Bool, true, false, nat_le, if◌then◌else◌, ℤ, pos, negsuc, List, [], ◌∷◌, ◌++◌, length, drop, sum, Option, Some, None, Result, Ok, Err, IsErr, OnOk, ◌↔◌, length-drop, length-append}
use Rattle.std.proofs.lemmas.Bool.{leb-false}
use Rattle.std.proofs.lemmas.Int.{ints}
use Rattle.std.proofs.Math.Nat.{mul-le-mul_left}
use Rattle.uac_clock.specs.declared.values.Nominal.{Nominal}
use Rattle.uac_clock.specs.Nominal.{nominal_of, values_of, step_of, is_listed}
use Rattle.uac_units.specs.Hearing.{at_most_u64}
use Rattle.uac_ring.specs.Rings.{ring_frames}
use Rattle.uac_bench.specs.BenchStreams.{StreamWorld, stream_start, level_of, after_packet, ticked_by, after_tick, played_in, with_zeros, target_by, after_priming}
use Rattle.uac_bench.specs.BenchKept.{BenchStreamFields, BenchStreamStands, BenchClockFields, BenchClockStands}
use Rattle.uac_implicit.specs.declared.marks.Losses.{Losses}
use Rattle.uac_implicit.specs.Followers.{FollowerFields, FollowerStands}
use Rattle.uac_implicit.specs.Following.{PairWorld, pair_start, step_next, ticks_next, hears, sent_in, sent_out, at_ticks, tick, times, ticks, ended, microframe}
use Rattle.uac_implicit.specs.PairKept.{PairRunFields, PairStandsIn, PairRunStands, PairFields, PairStands, IsShort, KeepsSettings}

-- ---- the clock's step

-- a step is below 33 frames
pub step_few : (values : Nominal) (ppm : ℤ) (result : ℕ) → values.f ≤ 1638400 → ppm ≤ℤ pos 100000 → result ≡ step_of values ppm → result ≤ 2097152
step_few values (pos n) result few high is =
    let most : n ≤ 100000 = omega (arith, ints) in
    let part : values.f * n ≤ values.f * 100000 = mul-le-mul_left values.f most in
    omega arith
step_few values (negsuc n) result few high is = omega arith

-- the rate comes back from its nominal value
pub rate_back : (values : Nominal) (hertz : ℕ) → nominal_of hertz ≡ Some values → (values.f * 8000 + 65535) / 65536 ≡ hertz
unfolding nominal_of values_of
rate_back values hertz h = from (is_listed hertz) h where
  from : (b : Bool) → (if b then Some (values_of hertz) else None) ≡ Some values → (values.f * 8000 + 65535) / 65536 ≡ hertz
  from false e = absurd (cc)
  from true e =
      let same : values_of hertz ≡ values = cc in
      let f : hertz * 65536 / 8000 ≡ values.f = ap (λ (v : Nominal). v.f) same in
      omega arith

-- another step
pub deviated_stands : (kept : PairRunFields) (w : PairWorld) (ppm : ℤ) (step : ℕ) → PairRunStands kept w → step ≡ step_of kept.nominal ppm
    → PairRunStands (record kept { step = step }) (record w { deviation = ppm })
unfolding step_next
deviated_stands kept w ppm step s is =
    let t = s.in_it in
    record {
      in_it = record {
        listed = t.listed;
        nominal = t.nominal;
        step = is ∙ ap (λ (v : Nominal). step_of v ppm) t.nominal;
        clock = t.clock;
        follower = t.follower;
        out = t.out;
        waiting = t.waiting;
        time = t.time;
        detail = t.detail;
        in_lost = t.in_lost;
      };
      short = s.short;
    }

-- another detail
pub detailed_stands : (kept : PairRunFields) (w : PairWorld) (detail : ℕ) → PairRunStands kept w
    → PairRunStands (record kept { detail = detail }) (record w { detail = detail })
unfolding step_next
detailed_stands kept w detail s =
    let t = s.in_it in
    record {
      in_it = record {
        listed = t.listed;
        nominal = t.nominal;
        step = t.step;
        clock = t.clock;
        follower = t.follower;
        out = t.out;
        waiting = t.waiting;
        time = t.time;
        detail = refl;
        in_lost = t.in_lost;
      };
      short = s.short;
    }

listed_values : (hertz : ℕ) (v : Nominal) → nominal_of hertz ≡ Some v → v ≡ values_of hertz
unfolding nominal_of
listed_values hertz v h = from (is_listed hertz) h where
  from : (b : Bool) → (if b then Some (values_of hertz) else None) ≡ Some v → v ≡ values_of hertz
  from false e = absurd (cc)
  from true e = cc

-- a pair at its start
pub new_stands : (values : Nominal) (rate step : ℕ) (clock : BenchClockFields) (follower : FollowerFields) (out : BenchStreamFields) (waiting : List (List ℤ))
    → nominal_of rate ≡ Some values → step ≡ step_of values (pos 0) → BenchClockStands clock [] → FollowerStands values 0 [] follower
    → BenchStreamStands out stream_start → waiting ≡ []
    → PairStands (record {
      run = record { nominal = values; step = step; clock = clock; follower = follower; out = out; waiting = waiting; time = 0; detail = 0; in_lost = 0 };
      failed = false;
    }) (pair_start rate)
unfolding pair_start step_next
new_stands values rate step clock follower out waiting listed is c f o empty =
    let same : values ≡ values_of rate = listed_values rate values listed in
    record {
      run = record {
        in_it = record {
          listed = listed ∙ ap Some same;
          nominal = same;
          step = is ∙ ap (λ (v : Nominal). step_of v (pos 0)) same;
          clock = c;
          follower = subst (λ (v : Nominal). FollowerStands v 0 [] follower) same f;
          out = o;
          waiting = empty;
          time = refl;
          detail = refl;
          in_lost = refl;
        };
        short = λ priming. omega arith;
      };
      going = refl;
    }

-- ---- the packets

-- another host, and another stream to the device
pub sent_stands : (lost : Bool) (kept : PairRunFields) (w : PairWorld) (follower : FollowerFields) (out : BenchStreamFields) → PairRunStands kept w
    → FollowerStands (values_of w.rate) (suc w.time) w.heard follower → BenchStreamStands out (sent_out lost w).out
    → PairStandsIn (suc w.time) w.steps (record kept { follower = follower; out = out }) (sent_out lost w)
unfolding sent_out step_next
sent_stands lost kept w follower out s f o =
    let t = s.in_it in
    record {
      listed = t.listed;
      nominal = t.nominal;
      step = t.step;
      clock = t.clock;
      follower = f;
      out = o;
      waiting = t.waiting;
      time = t.time;
      detail = t.detail;
      in_lost = t.in_lost;
    }

module _ (sent : ℕ) (steps : List ℕ) (kept : PairRunFields) (w : PairWorld) (s : PairStandsIn sent steps kept w) where
  -- a lost packet from the device
  pub lost_stands : (count : ℕ) → count ≡ at_most_u64 (kept.in_lost + 1)
      → PairStandsIn sent steps (record kept { in_lost = count }) (record (sent_in true w) { waiting = w.waiting })
  unfolding sent_in step_next
  lost_stands count is = record {
    listed = s.listed;
    nominal = s.nominal;
    step = s.step;
    clock = s.clock;
    follower = s.follower;
    out = s.out;
    waiting = s.waiting;
    time = s.time;
    detail = s.detail;
    in_lost = is ∙ ap (λ (n : ℕ). at_most_u64 (n + 1)) s.in_lost;
  }

  -- one that is heard
  pub heard_stands : (follower : FollowerFields) → 0 < kept.time → FollowerStands (values_of w.rate) sent (length kept.waiting ∷ w.heard) follower
      → PairStandsIn sent steps (record kept { follower = follower }) (record (sent_in false w) { waiting = w.waiting })
  unfolding sent_in step_next
  heard_stands follower late f = record {
    listed = s.listed;
    nominal = s.nominal;
    step = s.step;
    clock = s.clock;
    follower = subst (λ (hs : List ℕ). FollowerStands (values_of w.rate) sent hs follower) (by w.time (omega (arith, s.time))) f;
    out = s.out;
    waiting = s.waiting;
    time = s.time;
    detail = s.detail;
    in_lost = s.in_lost;
  } where
    by : (time : ℕ) → 0 < time → length kept.waiting ∷ w.heard ≡ hears false time (length w.waiting) w.heard
    by zero h = absurd (no h) where
      no : 0 < 0 → ⊥
      no h = omega arith
    by (suc time) h = ap (λ (xs : List (List ℤ)). length xs ∷ w.heard) s.waiting

  -- the first, which isn't
  pub first_stands : kept.time ≡ 0 → PairStandsIn sent steps kept (record (sent_in false w) { waiting = w.waiting })
  unfolding sent_in step_next
  first_stands first = record {
    listed = s.listed;
    nominal = s.nominal;
    step = s.step;
    clock = s.clock;
    follower = subst (λ (hs : List ℕ). FollowerStands (values_of w.rate) sent hs kept.follower) (by w.time (omega (arith, s.time))) s.follower;
    out = s.out;
    waiting = s.waiting;
    time = s.time;
    detail = s.detail;
    in_lost = s.in_lost;
  } where
    by : (time : ℕ) → time ≡ 0 → w.heard ≡ hears false time (length w.waiting) w.heard
    by zero h = refl
    by (suc time) h = absurd (no h) where
      no : suc time ≡ 0 → ⊥
      no h = cc

  -- ---- the ticks

  pub tick_stands : (out : BenchStreamFields) (waiting : List (List ℤ)) → BenchStreamStands out (tick w).out → waiting ≡ (tick w).waiting
      → PairStandsIn sent steps (record kept { out = out; waiting = waiting }) (tick w)
  unfolding tick step_next
  tick_stands out waiting o put = record {
    listed = s.listed;
    nominal = s.nominal;
    step = s.step;
    clock = s.clock;
    follower = s.follower;
    out = o;
    waiting = put;
    time = s.time;
    detail = s.detail;
    in_lost = s.in_lost;
  }

-- the ring of the stream from the device is emptied
pub emptied_stands : (sent : ℕ) (steps : List ℕ) (kept : PairRunFields) (w : PairWorld) (lost : Bool) (waiting : List (List ℤ)) → waiting ≡ []
    → PairStandsIn sent steps kept (record (sent_in lost w) { waiting = w.waiting })
    → PairStandsIn sent steps (record kept { waiting = waiting }) (sent_in lost w)
unfolding sent_in step_next
emptied_stands sent steps kept w lost waiting empty t = record {
  listed = t.listed;
  nominal = t.nominal;
  step = t.step;
  clock = t.clock;
  follower = t.follower;
  out = t.out;
  waiting = empty;
  time = t.time;
  detail = t.detail;
  in_lost = t.in_lost;
}

-- the frames that wait, after so many ticks
pub ticks_waiting : (count : ℕ) (w : PairWorld) → length (ticks count w).waiting ≡ length w.waiting + count
unfolding times tick
ticks_waiting zero w = omega arith
ticks_waiting (suc count) w =
    let one = length-append w.waiting (played_in w.out ∷ []) in
    let more = ticks_waiting count (tick w) in omega arith

-- a frame that is put into a ring that isn't full is there
pub put_there : {T E : Type 0} (r : Result T E) (P : Type 0) (level : ℕ) → IsErr r ↔ (level ≡ ring_frames) → level < ring_frames → OnOk r P → P
put_there (Ok u) P level full room put = put
put_there (Err e) P level full room put = absurd (let same : level ≡ ring_frames = full.0 refl in omega arith)

-- the clock went on
pub advanced_stands : (sent : ℕ) (kept : PairRunFields) (w : PairWorld) (clock : BenchClockFields) → PairStandsIn sent w.steps kept w
    → BenchClockStands clock (w.steps ++ kept.step ∷ []) → PairStandsIn sent (w.steps ++ step_next w ∷ []) (record kept { clock = clock }) w
advanced_stands sent kept w clock s c = record {
  listed = s.listed;
  nominal = s.nominal;
  step = s.step;
  clock = subst (λ (n : ℕ). BenchClockStands clock (w.steps ++ n ∷ [])) s.step c;
  follower = s.follower;
  out = s.out;
  waiting = s.waiting;
  time = s.time;
  detail = s.detail;
  in_lost = s.in_lost;
}

-- ---- the end of a microframe

short_by : (o : Option ℕ) (s : StreamWorld) → target_by o (nat_le 256 (level_of s)) (level_of s) ≡ None → level_of s ≤ 255
short_by (Some t) s e = absurd (cc)
short_by None s e = by (nat_le 256 (level_of s)) refl e where
  by : (b : Bool) → b ≡ nat_le 256 (level_of s) → target_by None b (level_of s) ≡ None → level_of s ≤ 255
  by true test e = absurd (cc)
  by false test e = omega (arith, leb-false 256 (level_of s) (sym test))

short_after : (s : StreamWorld) → (after_priming s).target ≡ None → level_of (after_priming s) ≤ 255
unfolding after_priming
short_after s e = short_by s.target s e

pub ended_stands : (losses : Losses) (before w : PairWorld) (kept : PairRunFields) (out : BenchStreamFields) (time : ℕ)
    → PairStandsIn (suc before.time) (before.steps ++ step_next before ∷ []) kept w → KeepsSettings before w
    → BenchStreamStands out (after_priming (if losses.loses_out then with_zeros (ticks_next before) w.out else w.out))
    → time ≡ at_most_u64 (kept.time + 1) → PairRunStands (record kept { out = out; time = time }) (ended losses before w)
unfolding ended step_next
ended_stands losses before w kept out time s keeps o is = record {
  in_it = record {
    listed = subst (λ (r : ℕ). nominal_of r ≡ Some (values_of r)) keeps.rate s.listed;
    nominal = s.nominal ∙ ap values_of keeps.rate;
    step = s.step ∙ ap (λ (r : ℕ). step_of (values_of r) w.deviation) keeps.rate ∙ ap (step_of (values_of before.rate)) keeps.deviation;
    clock = s.clock;
    follower = subst (λ (r : ℕ). FollowerStands (values_of r) (suc before.time) w.heard kept.follower) keeps.rate s.follower;
    out = o;
    waiting = s.waiting;
    time = omega (arith, s.time, keeps.time);
    detail = s.detail ∙ keeps.detail;
    in_lost = s.in_lost;
  };
  short = λ priming. short_after (if losses.loses_out then with_zeros (ticks_next before) w.out else w.out) priming;
}

-- ticks keep what a microframe doesn't change
pub ticks_keep : (count : ℕ) (before w : PairWorld) → KeepsSettings before w → KeepsSettings before (ticks count w)
unfolding times tick
ticks_keep zero before w k = k
ticks_keep (suc count) before w k =
    ticks_keep count before (tick w) (record { rate = k.rate; deviation = k.deviation; time = k.time; detail = k.detail })

pub packets_keep : (losses : Losses) (w : PairWorld) → KeepsSettings w (at_ticks losses w)
unfolding at_ticks sent_in sent_out
packets_keep losses w = record { rate = refl; deviation = refl; time = refl; detail = refl }

-- ---- zeros in place of a lost packet have room

-- a tick takes a frame from the ring, or leaves it with few
record TickRoom (s t : StreamWorld) : Type 0 where
  pub less : (level_of t + 1 ≤ level_of s) ⊎ (level_of t ≤ 255)
  pub short : t.target ≡ None → level_of t ≤ 255

room_by : (s : StreamWorld) (o : Option ℕ) (rest : List (List ℤ)) → s.target ≡ o → rest ≡ drop s.played s.arrived → (o ≡ None → level_of s ≤ 255)
    → TickRoom s (ticked_by o rest s)
room_by s None rest is left short = record { less = inr (short refl); short = λ e. short refl }
room_by s (Some t) [] is left short = record { less = inr (omega arith); short = λ e. omega arith }
room_by s (Some t) (frame ∷ more) is left short =
    let long = ap length left in
    let all = length-drop s.played s.arrived in
    record { less = inl (omega arith); short = λ e. absurd (let none : Some t ≡ None = sym is ∙ e in cc) }

tick_room : (s : StreamWorld) → (s.target ≡ None → level_of s ≤ 255) → TickRoom s (after_tick s)
unfolding after_tick
tick_room s short = room_by s s.target (drop s.played s.arrived) refl refl short

ticks_room : (count : ℕ) (w : PairWorld) → IsShort w → (level_of (ticks count w).out + count ≤ level_of w.out) ⊎ (level_of (ticks count w).out ≤ 255)
unfolding times tick
ticks_room zero w short = inl (omega arith)
ticks_room (suc count) w short =
    let r = tick_room w.out short in
    by r.less (ticks_room count (tick w) r.short) where
      by : (level_of (after_tick w.out) + 1 ≤ level_of w.out) ⊎ (level_of (after_tick w.out) ≤ 255)
          → (level_of (ticks count (tick w)).out + count ≤ level_of (after_tick w.out)) ⊎ (level_of (ticks count (tick w)).out ≤ 255)
          → (level_of (ticks count (tick w)).out + suc count ≤ level_of w.out) ⊎ (level_of (ticks count (tick w)).out ≤ 255)
      by (inl a) (inl b) = inl (omega arith)
      by (inr a) (inl b) = inr (omega arith)
      by (inl a) (inr b) = inr b
      by (inr a) (inr b) = inr b

-- a lost packet leaves the stream short
lost_short : (w : PairWorld) (losses : Losses) → losses.loses_out ≡ true → IsShort w → IsShort (at_ticks losses w)
unfolding at_ticks sent_in sent_out after_packet
lost_short w losses lost short = by losses.loses_out lost short where
  by : (lost : Bool) → lost ≡ true → IsShort w → (sent_out lost w).out.target ≡ None → level_of (sent_out lost w).out ≤ 255
  by true e short priming = short priming
  by false e short priming = absurd (cc)

pub zeros_fit : (w : PairWorld) (losses : Losses) (count : ℕ) → IsShort w → losses.loses_out ≡ true → level_of (at_ticks losses w).out ≤ 2048 → count ≤ 32
    → level_of (ticks count (at_ticks losses w)).out + count ≤ 2048
zeros_fit w losses count short lost held few = by (ticks_room count (at_ticks losses w) (lost_short w losses lost short)) where
  by : (level_of (ticks count (at_ticks losses w)).out + count ≤ level_of (at_ticks losses w).out) ⊎ (level_of (ticks count (at_ticks losses w)).out ≤ 255)
      → level_of (ticks count (at_ticks losses w)).out + count ≤ 2048
  by (inl h) = omega arith
  by (inr h) = omega arith

-- packets change nothing of the clock, and leave no frame waiting
pub record IsAtTicks (w v : PairWorld) : Type 0 where
  pub steps : v.steps ≡ w.steps
  pub step : step_next v ≡ step_next w
  pub ticks : ticks_next v ≡ ticks_next w
  pub waiting : v.waiting ≡ []

pub at_ticks_same : (losses : Losses) (w : PairWorld) → IsAtTicks w (at_ticks losses w)
unfolding at_ticks sent_in sent_out step_next ticks_next
at_ticks_same losses w = record { steps = refl; step = refl; ticks = refl; waiting = refl }

pub microframe_is : (losses : Losses) (w : PairWorld) (count : ℕ) → count ≡ ticks_next w → ended losses w (ticks count (at_ticks losses w)) ≡ microframe losses w
unfolding microframe
microframe_is losses w count is = ap (λ (n : ℕ). ended losses w (ticks n (at_ticks losses w))) is
