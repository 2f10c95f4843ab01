-- A bus frame of the world is one of the numbers.
use Rattle.std.proofs.Common.{arith, ◌≡◌, ℕ, zero, suc, ◌+◌, ◌-◌, ◌*◌, ◌/◌, ◌%◌, ◌<◌, ◌≤◌, ◌==◌, ◌&&◌, Bool, true, false, nat_le, leb, ℤ, pos, List, [], ◌∷◌, ◌++◌, length, drop, sum, replicate, Option, Some, None, refl, ap, sym, subst, ◌∙◌, length-append, length-drop}
use Rattle.std.proofs.lemmas.Bool.{le-leb, leb-true, leb-false, eqb-true, eqb-false}
use Rattle.std.proofs.lemmas.List.{length-replicate}
use Rattle.uac_rate.specs.Levels.{Within, Anchor, anchor_of, anchor_after, anchor_after_interval, frames_came}
use Rattle.uac_rate.specs.Steadiness.{is_slight, latest_run, one_more}
use Rattle.uac_bench.specs.BenchStreams.{StreamWorld, stream_start, level_of, arrives_by, received_by, numbered, after_packet, ticked_by, after_tick, after_ticks, silent_frame, with_zeros, target_by, after_priming}
use Rattle.uac_bench.proofs.FramesLemmas.{length-numbered}
use Rattle.uac_fullspeed.specs.declared.values.FsNominal.{FsNominal}
use Rattle.uac_fullspeed.specs.FullSpeedNominal.{IsFsNominal, fs_report_of}
use Rattle.uac_fullspeed.specs.FullSpeedBands.{FsLeavesRoom, FsPoint, point_of, BusFrame, TakesFsReport, IsFsRobust, IsFsTight}
use Rattle.uac_fullspeed.specs.FullSpeedWorld.{FullSpeedWorld, full_speed_start, size_next, step_next, ticks_next, at_ticks, ticked, replaced_by, after_frame, whole_by, passed, before_feedback, is_feedback_due, feedback_by, feedback_in, feedback_given, feedback_if, after_feedback, bus_frame}
use Rattle.uac_fullspeed.proofs.BandsLemmas.{leaves_room, fs_slight_step, fs_near, fs_bounds, frame_robust, fs_report_robust, frame_tight, fs_report_tight, fs_tight_near, fs_primed, fs_moment}
use Rattle.uac_fullspeed.proofs.SumsLemmas.{last_by_remainder}

-- ---- what the parts of a bus frame do to lengths

pub record Moved (s v : StreamWorld) (came gone : ℕ) : Type 0 where
  pub arrived : length v.arrived ≡ length s.arrived + came
  pub played : v.played ≡ s.played + gone
  pub target : v.target ≡ s.target
  pub under : v.met.under ≡ s.met.under
  pub over : v.met.over ≡ s.met.over

abbrev pub at_first : Bool → ℕ → ℕ
at_first false size = size
at_first true size = 0

abbrev pub at_last : Bool → ℕ → ℕ
at_last false ticks = 0
at_last true ticks = ticks

same_stream : (s : StreamWorld) → Moved s s 0 0
same_stream s = record { arrived = omega arith; played = omega arith; target = refl; under = refl; over = refl }

pub packet_moves : (lost : Bool) (size : ℕ) (s : StreamWorld) → level_of s + size ≤ 1024 → Moved s (at_ticks lost size s) (at_first lost size) 0
unfolding after_packet
packet_moves true size s fits = record { arrived = omega arith; played = omega arith; target = refl; under = refl; over = refl }
packet_moves false size s fits = from (nat_le (level_of s + size) 1024) (le-leb (level_of s + size) 1024 fits) where
  from : (b : Bool) → b ≡ true → Moved s (record (received_by (arrives_by false b) (numbered s.formed size) s) { formed = s.formed + size }) size 0
  from true e = record {
    arrived = length-append s.arrived (numbered s.formed size) ∙ ap (λ (n : ℕ). length s.arrived + n) (length-numbered s.formed size);
    played = omega arith;
    target = refl;
    under = refl;
    over = refl;
  }
  from false e = absurd (cc)

pub zeros_move : (count : ℕ) (s : StreamWorld) → Moved s (with_zeros count s) count 0
unfolding with_zeros
zeros_move count s = record {
  arrived = length-append s.arrived (replicate count silent_frame) ∙ ap (λ (n : ℕ). length s.arrived + n) (length-replicate count silent_frame);
  played = omega arith;
  target = refl;
  under = refl;
  over = refl;
}

replaced_moves : (lost : Bool) (ticks : ℕ) (s : StreamWorld) → Moved s (replaced_by lost ticks s) (at_last lost ticks) 0
replaced_moves true ticks s = zeros_move ticks s
replaced_moves false ticks s = same_stream s

pub primed_ticks : (count : ℕ) (s : StreamWorld) (target : ℕ) → s.target ≡ Some target → s.played + count ≤ length s.arrived → Moved s (after_ticks count s) 0 count
unfolding after_ticks after_tick
primed_ticks zero s target is enough = same_stream s
primed_ticks (suc count) s target is enough =
    by s.target (drop s.played s.arrived) is (let left = length-drop s.played s.arrived in omega arith)
    (primed_ticks count (record s { played = suc s.played }) target is (omega arith)) where
      by : (o : Option ℕ) (waiting : List (List ℤ)) → o ≡ Some target → 1 ≤ length waiting
          → Moved (record s { played = suc s.played }) (after_ticks count (record s { played = suc s.played })) 0 count
          → Moved s (after_ticks count (ticked_by o waiting s)) 0 (suc count)
      by None waiting e some r = absurd (cc)
      by (Some t) [] e some r = absurd (none some) where
        none : 1 ≤ 0 → ⊥
        none h = omega arith
      by (Some t) (frame ∷ more) e some r =
          record { arrived = r.arrived; played = omega (arith, r.played); target = r.target; under = r.under; over = r.over }

priming_ticks : (count : ℕ) (s : StreamWorld) → s.target ≡ None → Moved s (after_ticks count s) 0 0
unfolding after_ticks after_tick
priming_ticks zero s is = same_stream s
priming_ticks (suc count) s is = by s.target (drop s.played s.arrived) is (priming_ticks count s is) where
  by : (o : Option ℕ) (waiting : List (List ℤ)) → o ≡ None → Moved s (after_ticks count s) 0 0 → Moved s (after_ticks count (ticked_by o waiting s)) 0 0
  by (Some t) waiting e r = absurd (cc)
  by None waiting e r = r

joined : (a b c d : StreamWorld) (n m k : ℕ) → Moved a b n 0 → Moved b c 0 m → Moved c d k 0 → Moved a d (n + k) m
joined a b c d n m k x y z = record {
  arrived = omega (arith, x.arrived, y.arrived, z.arrived);
  played = omega (arith, x.played, y.played, z.played);
  target = z.target ∙ y.target ∙ x.target;
  under = z.under ∙ y.under ∙ x.under;
  over = z.over ∙ y.over ∙ x.over;
}

-- the stream up to its priming
abbrev pub moved : Bool → ℕ → ℕ → StreamWorld → StreamWorld
moved lost size ticks s = replaced_by lost ticks (ticked lost size ticks s)

abbrev pub came_in : Bool → ℕ → ℕ → ℕ
came_in lost size ticks = at_first lost size + at_last lost ticks

primed_moves : (lost : Bool) (size ticks : ℕ) (s : StreamWorld) (target : ℕ) → s.target ≡ Some target → s.played ≤ length s.arrived
    → level_of s + size ≤ 1024 → ticks ≤ level_of s → Moved s (moved lost size ticks s) (came_in lost size ticks) ticks
primed_moves lost size ticks s target is below fits enough =
    let sent = packet_moves lost size s fits in
    let t = primed_ticks ticks (at_ticks lost size s) target (sent.target ∙ is) (omega (arith, sent.arrived, sent.played)) in
    joined s (at_ticks lost size s) (ticked lost size ticks s) (moved lost size ticks s) (at_first lost size) ticks (at_last lost ticks) sent t
    (replaced_moves lost ticks (ticked lost size ticks s))

priming_moves : (lost : Bool) (size ticks : ℕ) (s : StreamWorld) → s.target ≡ None → level_of s + size ≤ 1024 → Moved s (moved lost size ticks s) (came_in lost size ticks) 0
priming_moves lost size ticks s is fits =
    let sent = packet_moves lost size s fits in
    let t = priming_ticks ticks (at_ticks lost size s) (sent.target ∙ is) in
    joined s (at_ticks lost size s) (ticked lost size ticks s) (moved lost size ticks s) (at_first lost size) 0 (at_last lost ticks) sent t
    (replaced_moves lost ticks (ticked lost size ticks s))

-- ---- what is kept

-- how many reports were lost since one came
abbrev pub lost_run : FullSpeedWorld → ℕ
lost_run w = latest_run (w.history.feedback 0)

-- the numbers of a primed stream's world: `waited` bus frames since a report last fell due
abbrev pub numbers : FullSpeedWorld → ℕ → ℕ → FsPoint
numbers w target waited = record {
  level = level_of w.stream;
  target = target;
  host = sum w.values % 16384;
  clock = sum w.steps % 16384;
  value = w.value;
  waited = waited;
  lost = lost_run w;
}

pub record IsTightSomewhere (nominal : FsNominal) (p : FsPoint) : Type 0 where
  pub anchor : Anchor
  pub tight : IsFsTight nominal anchor p

pub record IsPrimed (w : FullSpeedWorld) (target waited : ℕ) : Type 0 where
  pub robust : IsFsRobust w.nominal (numbers w target waited)
  pub tight : w.whole ≡ true → IsTightSomewhere w.nominal (numbers w target waited)

pub record IsPriming (w : FullSpeedWorld) : Type 0 where
  pub few : level_of w.stream ≤ 255
  pub value : w.value ≡ w.nominal.f

abbrev pub KeptBy : Option ℕ → FullSpeedWorld → ℕ → Type 0
KeptBy None w waited = IsPriming w
KeptBy (Some target) w waited = IsPrimed w target waited

pub record Good (w : FullSpeedWorld) (waited : ℕ) : Type 0 where
  pub nominal : IsFsNominal w.nominal
  pub slight : is_slight w.deviation ≡ true
  pub below : w.stream.played ≤ length w.stream.arrived
  pub under : w.stream.met.under ≡ 0
  pub over : w.stream.met.over ≡ 0
  pub lost : lost_run w ≤ 3
  pub waited_few : waited ≤ 8
  pub kept : KeptBy w.stream.target w waited

-- the clock's next step is off by at most a thousandth
pub slight_next : (w : FullSpeedWorld) (waited : ℕ) → Good w waited → Within w.nominal.e (step_next w) w.nominal.f
slight_next w waited good = fs_slight_step w.nominal w.deviation good.nominal good.slight

-- ---- a bus frame up to the report

abbrev after_by : Option ℕ → Bool → Bool → FullSpeedWorld → FullSpeedWorld
after_by target enough lost w =
    let m = moved lost (size_next w) (ticks_next w) w.stream in
    record w {
      steps = w.steps ++ step_next w ∷ [];
      values = w.values ++ w.value ∷ [];
      whole = whole_by w.stream.target lost w.whole;
      stream = record m { target = target_by target enough (level_of m) };
    }

came_is : (lost : Bool) (size ticks : ℕ) → at_first lost size + at_last lost ticks ≡ frames_came lost size ticks
came_is true size ticks = omega arith
came_is false size ticks = omega arith

-- the bus frame of a primed stream, as numbers
as_frame : (w v : FullSpeedWorld) (lost : Bool) (target waited : ℕ) → Within w.nominal.e (step_next w) w.nominal.f
    → Moved w.stream v.stream (came_in lost (size_next w) (ticks_next w)) (ticks_next w) → w.stream.played ≤ length w.stream.arrived
    → ticks_next w ≤ level_of w.stream → waited ≤ 7
    → v.steps ≡ w.steps ++ step_next w ∷ [] → v.values ≡ w.values ++ w.value ∷ [] → v.value ≡ w.value → lost_run v ≡ lost_run w
    → BusFrame w.nominal lost (numbers w target waited) (numbers v target (suc waited))
as_frame w v lost target waited slight m below enough short steps values value same =
    let s = last_by_remainder w.steps (step_next w) in
    let h = last_by_remainder w.values w.value in
    let c = came_is lost (size_next w) (ticks_next w) in
    record {
      step = step_next w;
      slight = slight;
      sent = size_next w;
      sent_is = h.0;
      host_is = ap (λ (xs : List ℕ). sum xs % 16384) values ∙ h.1;
      ticks = ticks_next w;
      ticks_is = s.0;
      clock_is = ap (λ (xs : List ℕ). sum xs % 16384) steps ∙ s.1;
      level_is = omega (arith, m.arrived, m.played, c);
      target_is = refl;
      value_is = value;
      waited_is = refl;
      in_time = omega arith;
      lost_is = same;
    }

whole_before : (o : Option ℕ) (t : ℕ) (lost whole : Bool) → o ≡ Some t → whole_by o lost whole ≡ true → (lost ≡ false) × (whole ≡ true)
whole_before None t lost whole e h = absurd (cc)
whole_before (Some x) t true whole e h = absurd (cc)
whole_before (Some x) t false whole e h = (refl, h)

pub priming_few : (w : FullSpeedWorld) → FsLeavesRoom w.nominal → Within w.nominal.e (step_next w) w.nominal.f
    → w.value ≡ w.nominal.f → (size_next w ≤ 97) × (ticks_next w ≤ 97)
priming_few w room slight value =
    let s = last_by_remainder w.steps (step_next w) in
    let h = last_by_remainder w.values w.value in
    let above = room.band.above in
    let most = room.most in
    (omega (arith, h.0), omega (arith, s.0, slight))

came_few : (lost : Bool) (size ticks : ℕ) → size ≤ 97 → ticks ≤ 97 → came_in lost size ticks ≤ 97
came_few true size ticks a b = omega arith
came_few false size ticks a b = omega arith

-- what a primed stream's next bus frame brings, in numbers
pub record PrimedNext (w : FullSpeedWorld) (t : ℕ) : Type 0 where
  pub near : Within 129 (level_of w.stream) t
  pub target : (256 ≤ t) × (t ≤ 352)
  pub sent : size_next w ≤ 97
  pub ticks : ticks_next w ≤ 97

pub primed_next : (w : FullSpeedWorld) (waited t : ℕ) → FsLeavesRoom w.nominal → Within w.nominal.e (step_next w) w.nominal.f → IsFsRobust w.nominal (numbers w t waited) → PrimedNext w t
primed_next w waited t room slight robust =
    let few = fs_bounds w.nominal (numbers w t waited) (step_next w) room robust slight.0 in
    let s = last_by_remainder w.steps (step_next w) in
    let h = last_by_remainder w.values w.value in
    record { near = fs_near w.nominal (numbers w t waited) robust; target = robust.target; sent = omega (arith, few.sent, h.0); ticks = omega (arith, few.ticks, s.0) }

before_by : (w : FullSpeedWorld) (waited : ℕ) (lost : Bool) (was target : Option ℕ) (enough : Bool) → waited ≤ 7 → Good w waited → w.stream.target ≡ was → KeptBy was w waited
    → target ≡ (moved lost (size_next w) (ticks_next w) w.stream).target → enough ≡ nat_le 256 (level_of (moved lost (size_next w) (ticks_next w) w.stream))
    → Good (after_by target enough lost w) (suc waited)
before_by w waited lost (Some t) (Some u) enough short good is kept same test =
    let room = leaves_room w.nominal good.nominal in
    let slight = slight_next w waited good in
    let next = primed_next w waited t room slight kept.robust in
    let near = next.near in
    let at = next.target in
    let fits : level_of w.stream + size_next w ≤ 1024 = omega (arith, next.sent) in
    let holds : ticks_next w ≤ level_of w.stream = omega (arith, next.ticks) in
    let m = primed_moves lost (size_next w) (ticks_next w) w.stream t is good.below fits holds in
    let stays : Some u ≡ Some t = same ∙ m.target ∙ is in
    let v : FullSpeedWorld = after_by (Some u) enough lost w in
    let n : Moved w.stream v.stream (came_in lost (size_next w) (ticks_next w)) (ticks_next w) =
    record { arrived = m.arrived; played = m.played; target = same ∙ m.target; under = m.under; over = m.over } in
    let frame = as_frame w v lost t waited slight n good.below holds short refl refl refl refl in
    record {
      nominal = good.nominal;
      slight = good.slight;
      below = omega (arith, m.arrived, m.played, good.below);
      under = m.under ∙ good.under;
      over = m.over ∙ good.over;
      lost = good.lost;
      waited_few = omega arith;
      kept = subst (λ (o : Option ℕ). KeptBy o v (suc waited)) (sym stays) (record {
        robust = frame_robust w.nominal lost (numbers w t waited) (numbers v t (suc waited)) room frame kept.robust;
        tight = λ whole. tight_on room (whole_before w.stream.target t lost w.whole is whole) frame;
      });
    } where
      tight_on : FsLeavesRoom w.nominal → (lost ≡ false) × (w.whole ≡ true)
          → BusFrame w.nominal lost (numbers w t waited) (numbers (after_by (Some u) enough lost w) t (suc waited))
          → IsTightSomewhere w.nominal (numbers (after_by (Some u) enough lost w) t (suc waited))
      tight_on room came frame =
          let before = kept.tight came.1 in
          record {
            anchor = anchor_after_interval 1 before.anchor;
            tight = frame_tight w.nominal before.anchor (numbers w t waited) (numbers (after_by (Some u) enough lost w) t (suc waited)) room
                (subst (λ (b : Bool). BusFrame w.nominal b (numbers w t waited) (numbers (after_by (Some u) enough lost w) t (suc waited))) came.0 frame) kept.robust before.tight;
          }
before_by w waited lost None None true short good is kept same test =
    let room = leaves_room w.nominal good.nominal in
    let slight = slight_next w waited good in
    let few = priming_few w room slight kept.value in
    let level = kept.few in
    let came = came_few lost (size_next w) (ticks_next w) few.0 few.1 in
    let below = good.below in
    let m = priming_moves lost (size_next w) (ticks_next w) w.stream is (omega (arith, few.0)) in
    let reached = leb-true 256 (level_of (moved lost (size_next w) (ticks_next w) w.stream)) (sym test) in
    let v : FullSpeedWorld = after_by None true lost w in
    let grown : level_of (moved lost (size_next w) (ticks_next w) w.stream) ≡ level_of w.stream + came_in lost (size_next w) (ticks_next w) = omega (arith, m.arrived, m.played) in
    let bands = fs_primed w.nominal (numbers v (level_of (moved lost (size_next w) (ticks_next w) w.stream)) (suc waited)) room (record {
      host = omega arith;
      clock = omega arith;
      lost = good.lost;
      waited = omega arith;
      level = refl;
      value = kept.value;
      target = (omega arith, omega arith);
    }) in
    record {
      nominal = good.nominal;
      slight = good.slight;
      below = omega (arith, m.arrived, m.played);
      under = m.under ∙ good.under;
      over = m.over ∙ good.over;
      lost = good.lost;
      waited_few = omega arith;
      kept = record { robust = bands.0; tight = λ whole. record { anchor = anchor_of (point_of (numbers v (level_of (moved lost (size_next w) (ticks_next w) w.stream)) (suc waited))); tight = bands.1 } };
    }
before_by w waited lost None None false short good is kept same test =
    let room = leaves_room w.nominal good.nominal in
    let slight = slight_next w waited good in
    let few = priming_few w room slight kept.value in
    let level = kept.few in
    let below = good.below in
    let m = priming_moves lost (size_next w) (ticks_next w) w.stream is (omega (arith, few.0)) in
    let unreached = leb-false 256 (level_of (moved lost (size_next w) (ticks_next w) w.stream)) (sym test) in
    record {
      nominal = good.nominal;
      slight = good.slight;
      below = omega (arith, m.arrived, m.played);
      under = m.under ∙ good.under;
      over = m.over ∙ good.over;
      lost = good.lost;
      waited_few = omega arith;
      kept = record { few = omega arith; value = kept.value };
    }
before_by w waited lost (Some t) None enough short good is kept same test =
    let room = leaves_room w.nominal good.nominal in
    let next = primed_next w waited t room (slight_next w waited good) kept.robust in
    let near = next.near in
    let at = next.target in
    let m = primed_moves lost (size_next w) (ticks_next w) w.stream t is good.below (omega (arith, next.sent)) (omega (arith, next.ticks)) in
    absurd (let none : Some t ≡ None = sym is ∙ sym m.target ∙ sym same in cc)
before_by w waited lost None (Some u) enough short good is kept same test =
    let few = priming_few w (leaves_room w.nominal good.nominal) (slight_next w waited good) kept.value in
    let level = kept.few in
    let m = priming_moves lost (size_next w) (ticks_next w) w.stream is (omega (arith, few.0)) in
    absurd (let none : Some u ≡ None = same ∙ m.target ∙ is in cc)

pub before_good : (w : FullSpeedWorld) (waited : ℕ) (lost : Bool) → waited ≤ 7 → Good w waited → Good (before_feedback lost w) (suc waited)
unfolding before_feedback passed after_frame after_priming
before_good w waited lost short good =
    before_by w waited lost w.stream.target (moved lost (size_next w) (ticks_next w) w.stream).target (nat_le 256 (level_of (moved lost (size_next w) (ticks_next w) w.stream))) short good refl good.kept refl refl

-- ---- the report

as_report : (lost : Bool) (w : FullSpeedWorld) (target : ℕ) → lost_run (feedback_given lost (fs_report_of w.nominal target (level_of w.stream)) w) ≤ 3
    → TakesFsReport w.nominal lost (numbers w target 8) (numbers (feedback_given lost (fs_report_of w.nominal target (level_of w.stream)) w) target 0)
as_report true w target few = record { due = refl; waited_is = refl; lost_is = one_lost (w.history.feedback 0); few = few; value_is = refl; level_is = refl; target_is = refl; host_is = refl; clock_is = refl } where
  one_lost : (lists : List (List Bool)) → latest_run (one_more true lists) ≡ suc (latest_run lists)
  one_lost [] = refl
  one_lost (latest ∷ earlier) = refl
as_report false w target few = record { due = refl; waited_is = refl; lost_is = one_came (w.history.feedback 0); few = few; value_is = refl; level_is = refl; target_is = refl; host_is = refl; clock_is = refl } where
  one_came : (lists : List (List Bool)) → latest_run (one_more false lists) ≡ 0
  one_came [] = refl
  one_came (latest ∷ earlier) = refl

feedback_kept : (lost : Bool) (w : FullSpeedWorld) (o : Option ℕ) → FsLeavesRoom w.nominal → lost_run (feedback_given lost (feedback_by w.nominal o (level_of w.stream)) w) ≤ 3
    → KeptBy o w 8 → KeptBy o (feedback_given lost (feedback_by w.nominal o (level_of w.stream)) w) 0
feedback_kept true w None room few kept = record { few = kept.few; value = kept.value }
feedback_kept false w None room few kept = record { few = kept.few; value = refl }
feedback_kept true w (Some target) room few kept =
    let r = as_report true w target few in
    let v : FullSpeedWorld = feedback_given true (fs_report_of w.nominal target (level_of w.stream)) w in
    record {
      robust = fs_report_robust w.nominal true (numbers w target 8) (numbers v target 0) room r kept.robust;
      tight = λ whole.
          let before = kept.tight whole in
          record {
            anchor = anchor_after true before.anchor (point_of (numbers w target 8));
            tight = fs_report_tight w.nominal true before.anchor (numbers w target 8) (numbers v target 0) room r kept.robust before.tight;
          };
    }
feedback_kept false w (Some target) room few kept =
    let r = as_report false w target few in
    let v : FullSpeedWorld = feedback_given false (fs_report_of w.nominal target (level_of w.stream)) w in
    record {
      robust = fs_report_robust w.nominal false (numbers w target 8) (numbers v target 0) room r kept.robust;
      tight = λ whole.
          let before = kept.tight whole in
          record {
            anchor = anchor_after false before.anchor (point_of (numbers w target 8));
            tight = fs_report_tight w.nominal false before.anchor (numbers w target 8) (numbers v target 0) room r kept.robust before.tight;
          };
    }

given_good : (lost : Bool) (w : FullSpeedWorld) → lost_run (feedback_given lost (feedback_in w) w) ≤ 3 → Good w 8 → Good (feedback_given lost (feedback_in w) w) 0
given_good true w few good = record {
  nominal = good.nominal;
  slight = good.slight;
  below = good.below;
  under = good.under;
  over = good.over;
  lost = few;
  waited_few = omega arith;
  kept = feedback_kept true w w.stream.target (leaves_room w.nominal good.nominal) few good.kept;
}
given_good false w few good = record {
  nominal = good.nominal;
  slight = good.slight;
  below = good.below;
  under = good.under;
  over = good.over;
  lost = few;
  waited_few = omega arith;
  kept = feedback_kept false w w.stream.target (leaves_room w.nominal good.nominal) few good.kept;
}

steps_kept : (due lost : Bool) (value : ℕ) (w : FullSpeedWorld) → (feedback_if due lost value w).steps ≡ w.steps
steps_kept false lost value w = refl
steps_kept true true value w = refl
steps_kept true false value w = refl

feedback_good : (due lost : Bool) (w : FullSpeedWorld) (waited : ℕ) → (length w.steps % 8 == 0) ≡ due → length w.steps % 8 ≡ suc waited % 8 → waited ≤ 7
    → lost_run (feedback_if due lost (feedback_in w) w) ≤ 3 → Good w (suc waited) → Good (feedback_if due lost (feedback_in w) w) (length w.steps % 8)
feedback_good true lost w waited due counts short few good =
    let none = eqb-true (length w.steps % 8) 0 due in
    let eight : suc waited ≡ 8 = omega arith in
    subst (λ (n : ℕ). Good (feedback_given lost (feedback_in w) w) n) (sym none) (given_good lost w few (subst (λ (n : ℕ). Good w n) eight good))
feedback_good false lost w waited due counts short few good =
    let some = eqb-false (length w.steps % 8) 0 due in
    subst (λ (n : ℕ). Good w n) (let same : suc waited ≡ length w.steps % 8 = omega arith in same) good

counted : (lost : Bool) (w : FullSpeedWorld) → length (before_feedback lost w).steps ≡ length w.steps + 1
unfolding before_feedback passed
counted lost w = length-append w.steps (step_next w ∷ [])

-- between two bus frames
abbrev pub IsGood : FullSpeedWorld → Type 0
IsGood w = Good w (length w.steps % 8)

pub frame_good : (packet_lost report_lost : Bool) (w : FullSpeedWorld) → lost_run (bus_frame packet_lost report_lost w) ≤ 3 → IsGood w → IsGood (bus_frame packet_lost report_lost w)
unfolding bus_frame after_feedback
frame_good packet_lost report_lost w few good =
    let v : FullSpeedWorld = before_feedback packet_lost w in
    let more = counted packet_lost w in
    let short : length w.steps % 8 ≤ 7 = omega arith in
    let at = before_good w (length w.steps % 8) packet_lost short good in
    subst (λ (n : ℕ). Good (feedback_if (is_feedback_due v) report_lost (feedback_in v) v) (n % 8)) (ap length (sym (steps_kept (is_feedback_due v) report_lost (feedback_in v) v)))
    (feedback_good (is_feedback_due v) report_lost v (length w.steps % 8) refl (omega arith) short few at)
