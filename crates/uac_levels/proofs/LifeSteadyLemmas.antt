-- A steady stream through one microframe, between its parts: what its ring holds, and the points at which its service intervals end.
use Rattle.std.proofs.Common.{arith, ◌≡◌, ◌∙◌, sym, refl, ap, subst, ℕ, ◌+◌, ◌-◌, ◌*◌, ◌/◌, ◌%◌, ◌<◌, ◌≤◌, ◌⊎◌, inl, inr, ◌==◌, ◌&&◌, Bool, true, false, if◌then◌else◌, nat_lt, List, [], ◌∷◌, length, sum, Option, Some, None}
use Rattle.std.specs.Option.{option_map_or}
use Rattle.std.proofs.lemmas.Bool.{cases_lt}
use Rattle.uac_clock.specs.declared.values.Nominal.{Nominal}
use Rattle.uac_clock.specs.Nominal.{StaysBetweenWholes, IsNominal}
use Rattle.uac_clock.proofs.NominalLemmas.{has_room}
use Rattle.uac_rate.specs.Levels.{AreIntervals, IsSafeLevel, IsInterval, IsRobust, Point, TakesReport, Within, lost_after, value_after}
use Rattle.uac_rate.specs.Reports.{report_of}
use Rattle.uac_rate.specs.Steadiness.{latest_run, one_more}
use Rattle.uac_rate.proofs.LevelsLemmas.{interval_size, moment_level, rates_band, report_clamped, report_robust}
use Rattle.uac_alt.specs.AltStreams.{StreamFields}
use Rattle.uac_flow.specs.FlowStreams.{feedback_of, out_level, priming_level, reports_now}
use Rattle.uac_host.specs.HostCalls.{within_nominal, pace_after_report}
use Rattle.uac_levels.specs.Life.{Life, with_feedback}
use Rattle.uac_levels.specs.Bands.{HasTicked, InBand, IsAt, IsFollowing, microframes_since_due}

-- ---- what a primed ring holds

not_empty : (s : ℕ) → IsInterval s → IsSafeLevel s 0 → ⊥
not_empty s serves h = elim (cases_lt 1 s) [
  | inl more ↦ absurd (let few = h.longer more in omega arith)
  | inr less ↦ absurd (let size = interval_size s serves in let few = h.single (omega arith) in omega arith)
]

pub held_range : (s n : ℕ) → IsInterval s → IsSafeLevel s n → (101 ≤ n) × (n ≤ 1041)
held_range s n serves h = elim (cases_lt 1 s) [
  | inl more ↦ (let few = h.longer more in (omega arith, omega arith))
  | inr less ↦ (let size = interval_size s serves in let few = h.single (omega arith) in (omega arith, omega arith))
]

-- of a level and what came so many ticks may be played, and the rest is enough
pub record IsEnough (s level came played : ℕ) : Type 0 where
  pub fits : played ≤ level + came
  pub held : IsSafeLevel s (level + came - played)

pub enough : (values : Nominal) (s period : ℕ) (p : Point) (gone steps came played : ℕ) → StaysBetweenWholes values → AreIntervals s period
    → IsRobust values 65 s period p → gone ≤ s → Within (gone * values.e) steps (gone * values.f) → played ≤ (p.clock + steps) / 65536
    → (came ≤ (p.host + s * p.value) / 65536) ⊎ (came ≤ (p.clock + steps) / 65536) → IsEnough s p.level came played
enough values s period p gone steps came played room intervals robust within slight some_ticks some_frames =
    elim (cases_lt (p.level + came) played) [
      | inl dry ↦ absurd (not_empty s intervals.serves (held_by 0 (p.level + came) (omega arith) (omega arith)))
      | inr fits ↦ record {
        fits = fits;
        held = held_by (p.level + came - played) played some_ticks (omega arith);
      }
    ]
  where
    held_by : (n some : ℕ) → some ≤ (p.clock + steps) / 65536 → n + some ≡ p.level + came → IsSafeLevel s n
    held_by n some few is = moment_level values s period p n room intervals robust
        (record { passed = gone; within = within; steps = steps; slight = slight; played = some; some_ticks = few; came = came; some_frames = some_frames; level_is = is })

-- ---- feedback

pub is_zero : (n : ℕ) → (n == 0) ≡ true → n ≡ 0
is_zero n h = grind arith

pub is_some_more : (n : ℕ) → (n == 0) ≡ false → 0 < n
is_some_more n h = grind arith

-- at the end of a service interval, before its report: the stream's place and its clock's
pub record HasEnded (m : Life) (waited clock : ℕ) : Type 0 where
  pub same : m.pace.stream ≡ m.out.stream
  pub nominal : IsNominal m.out.stream.nominal
  pub intervals : AreIntervals m.out.stream.service m.out.stream.period
  pub taken : m.out.taken ≤ length m.out.arrived
  pub waits : m.out.lost ≡ false
  pub few : latest_run m.reports ≤ 3
  pub begun : 0 < m.out.microframes
  pub passed_is : microframes_since_due m.out ≡ 0
  pub ticks : m.out.ticks ≡ 0
  pub below : clock < 65536
  pub phase : clock ≡ sum m.steps % 65536
  pub later : 0 < waited
  pub in_time : waited ≤ m.out.stream.period
  pub due : waited ≡ m.out.stream.period → m.out.microframes % m.out.stream.period ≡ 0
  pub before : waited < m.out.stream.period → m.out.microframes % m.out.stream.period ≡ waited

-- and of a primed stream
pub record HasEndedAt (m : Life) (target : ℕ) (q : Point) : Type 0 where
  pub primed : m.out.target ≡ Some target
  pub ended : HasEnded m q.waited q.clock
  pub robust : IsRobust m.out.stream.nominal 65 m.out.stream.service m.out.stream.period q
  pub target_is : q.target ≡ target
  pub level : q.level ≡ out_level m.out
  pub host : q.host ≡ sum m.pace.used % 65536
  pub value : q.value ≡ m.pace.value
  pub lost : q.lost ≡ latest_run m.reports

pub times_none : (n x : ℕ) → n ≡ 0 → n * x ≡ 0
times_none n x none = ap (λ (k : ℕ). k * x) none ∙ (let zero_times : 0 * x ≡ 0 = omega arith in zero_times)

ticked_at_end : (m : Life) (waited clock : ℕ) → HasEnded m waited clock → HasTicked m clock
ticked_at_end m waited clock ended =
    let e = times_none (microframes_since_due m.out) m.out.stream.nominal.e ended.passed_is in
    let f = times_none (microframes_since_due m.out) m.out.stream.nominal.f ended.passed_is in
    record {
      steps = 0;
      slight = (omega arith, omega arith);
      ticks = omega (arith, ended.ticks, ended.below);
      phase = omega (arith, ended.phase, ended.below);
    }

runs_on : (lost : Bool) (lists : List (List Bool)) → latest_run (one_more lost lists) ≡ lost_after lost (latest_run lists)
runs_on true [] = refl
runs_on false [] = refl
runs_on true (latest ∷ earlier) = refl
runs_on false (latest ∷ earlier) = refl

held_stays : (stream : StreamFields) (value : ℕ) → stream.nominal.lo * 65536 ≤ value → value ≤ stream.nominal.hi * 65536
    → within_nominal stream value ≡ value
held_stays stream value least most = omega arith

-- with its report
abbrev with_report : Bool → ℕ → Life → Life
with_report lost value m = record m { pace = if lost then m.pace else pace_after_report value m.pace; reports = one_more lost m.reports }

pub no_feedback : (m : Life) (lost : Bool) → reports_now m.out ≡ false → with_feedback lost m ≡ m
unfolding feedback_of
no_feedback m lost none =
    ap (λ (b : Bool). option_map_or (λ value. with_report lost value m)
    (if b then Some (option_map_or (λ target. report_of m.out.stream.nominal target
    (out_level m.out)) m.out.target m.out.stream.nominal.f) else None) m) none

some_feedback : (m : Life) (lost : Bool) (t : Option ℕ) → reports_now m.out ≡ true → m.out.target ≡ t
    → with_feedback lost m ≡ with_report lost
    (option_map_or (λ target. report_of m.out.stream.nominal target (out_level m.out)) t m.out.stream.nominal.f) m
unfolding feedback_of
some_feedback m lost t some at =
    ap (λ (b : Bool). option_map_or (λ value. with_report lost value m)
    (if b then Some (option_map_or (λ target. report_of m.out.stream.nominal target
    (out_level m.out)) m.out.target m.out.stream.nominal.f) else None) m) some
    ∙ ap (λ (o : Option ℕ). with_report lost (option_map_or
    (λ target. report_of m.out.stream.nominal target (out_level m.out)) o m.out.stream.nominal.f) m) at

pub reports_by : (m : Life) (b : Bool) → 0 < m.out.microframes → (m.out.microframes % m.out.stream.period == 0) ≡ b → reports_now m.out ≡ b
reports_by m b begun is = ap (λ (c : Bool). c && m.out.microframes % m.out.stream.period == 0) (begins m.out.microframes begun) ∙ is
  where
    begins : (n : ℕ) → 0 < n → nat_lt 0 n ≡ true
    begins n some = grind arith

-- the point after a report
abbrev point_after : Bool → Nominal → Point → Point
point_after lost values q = record q { waited = 0; lost = lost_after lost q.lost; value = value_after lost values q }

-- when its report falls due, and when not
not_yet : (m : Life) (waited clock : ℕ) → HasEnded m waited clock → (m.out.microframes % m.out.stream.period == 0) ≡ false
    → (waited < m.out.stream.period) × (waited ≡ (m.out.microframes - microframes_since_due m.out) % m.out.stream.period)
not_yet m waited clock ended none =
    let some = is_some_more (m.out.microframes % m.out.stream.period) none in
    let all : m.out.microframes - microframes_since_due m.out ≡ m.out.microframes = omega (arith, ended.passed_is) in
    elim (cases_lt waited m.out.stream.period) [
      | inl less ↦ (less, sym (ended.before less) ∙ sym (ap (λ (k : ℕ). k % m.out.stream.period) all))
      | inr more ↦ absurd (let now = ended.due (omega (arith, ended.in_time)) in omega arith)
    ]

now_due : (m : Life) (waited clock : ℕ) → HasEnded m waited clock → (m.out.microframes % m.out.stream.period == 0) ≡ true
    → (waited ≡ m.out.stream.period) × (0 ≡ (m.out.microframes - microframes_since_due m.out) % m.out.stream.period)
now_due m waited clock ended now =
    let none = is_zero (m.out.microframes % m.out.stream.period) now in
    let all : m.out.microframes - microframes_since_due m.out ≡ m.out.microframes = omega (arith, ended.passed_is) in (
      elim (cases_lt waited m.out.stream.period) [
        | inl less ↦ absurd (let at = ended.before less in omega (arith, ended.later))
        | inr more ↦ omega (arith, ended.in_time)
      ],
      sym none ∙ sym (ap (λ (k : ℕ). k % m.out.stream.period) all),
    )

paced_same : (lost : Bool) (value : ℕ) (m : Life) → (with_report lost value m).pace.stream ≡ m.pace.stream
paced_same true value m = refl
paced_same false value m = refl

-- its clock is nothing to reports
ticked_with : (lost : Bool) (value : ℕ) (m : Life) (clock : ℕ) → HasTicked m clock → HasTicked (with_report lost value m) clock
ticked_with lost value m clock t = record { steps = t.steps; slight = t.slight; ticks = t.ticks; phase = t.phase }

-- a stream that has ended an interval is in its band after its report, where it is at its place there
in_band : (lost : Bool) (value : ℕ) (m : Life) (waited clock : ℕ) → HasEnded m waited clock → latest_run (one_more lost m.reports) ≤ 3
    → IsAt m.out.target (with_report lost value m) → InBand (with_report lost value m)
in_band lost value m waited clock ended few at = record {
  same = paced_same lost value m ∙ ended.same;
  nominal = ended.nominal;
  intervals = ended.intervals;
  taken = ended.taken;
  waits = ended.waits;
  few = few;
  at = at;
}

in_band_still : (m : Life) (waited clock : ℕ) → HasEnded m waited clock → IsAt m.out.target m → InBand m
in_band_still m waited clock ended at = record {
  same = ended.same;
  nominal = ended.nominal;
  intervals = ended.intervals;
  taken = ended.taken;
  waits = ended.waits;
  few = ended.few;
  at = at;
}

-- a priming one goes on at the nominal value
pub priming_reported : (m : Life) (lost : Bool) (waited clock : ℕ) → HasEnded m waited clock → m.out.target ≡ None
    → out_level m.out < priming_level m.out.stream → m.pace.value ≡ m.out.stream.nominal.f
    → latest_run (with_feedback lost m).reports ≤ 3 → InBand (with_feedback lost m)
priming_reported m lost waited clock ended priming low value few = by (m.out.microframes % m.out.stream.period == 0) refl
  where
    f : ℕ
    f = m.out.stream.nominal.f

    ticked : HasTicked m clock
    ticked = ticked_at_end m waited clock ended

    still : (b : Bool) → (with_report b f m).pace.value ≡ f
    still true = value
    still false =
        let room = has_room m.out.stream.nominal ended.nominal in
        ap (λ (s : StreamFields). within_nominal s f) ended.same ∙ held_stays m.out.stream f (omega (arith, room.below)) (omega (arith, room.above))

    by : (b : Bool) → (m.out.microframes % m.out.stream.period == 0) ≡ b → InBand (with_feedback lost m)
    by false none =
        subst InBand (sym (no_feedback m lost (reports_by m false ended.begun none)))
        (in_band_still m waited clock ended (subst (λ (t : Option ℕ). IsAt t m) (sym priming) (record {
          level = low;
          value = value;
          clock = clock;
          below = ended.below;
          ticked = ticked;
        })))
    by true now =
        let is : with_feedback lost m ≡ with_report lost f m = some_feedback m lost None (reports_by m true ended.begun now) priming in
        subst InBand (sym is)
        (in_band lost f m waited clock ended (subst (λ (l : Life). latest_run l.reports ≤ 3) is few)
        (subst (λ (t : Option ℕ). IsAt t (with_report lost f m)) (sym priming) (record {
          level = low;
          value = still lost;
          clock = clock;
          below = ended.below;
          ticked = ticked_with lost f m clock ticked;
        })))

-- the value after a report
value_there : (m : Life) (lost : Bool) (target : ℕ) (q : Point) → HasEndedAt m target q
    → value_after lost m.out.stream.nominal q ≡ (with_report lost (report_of m.out.stream.nominal target (out_level m.out)) m).pace.value
value_there m true target q at = at.value
value_there m false target q at =
    let values : Nominal = m.out.stream.nominal in
    let room = has_room values at.ended.nominal in
    let here = report_clamped values target (out_level m.out) (omega (arith, room.below, room.above)) in
    ap (λ (t : ℕ). report_of values t q.level) at.target_is ∙ ap (report_of values target) at.level
    ∙ sym (held_stays m.out.stream (report_of values target (out_level m.out)) here.least here.most)
    ∙ sym (ap (λ (s : StreamFields). within_nominal s (report_of values target (out_level m.out))) at.ended.same)

-- a primed stream after the end of an interval: the point there is that of the end, or that after the report which fell due
pub record Goes (m : Life) (lost : Bool) (target : ℕ) (q : Point) (after_it : Life) : Type 0 where
  pub band : InBand after_it
  pub point : Point
  pub following : IsFollowing after_it target point
  pub ends : ((q.waited < m.out.stream.period) × (point ≡ q)) ⊎ TakesReport m.out.stream.nominal m.out.stream.period lost q point

-- a primed one goes on by the report of its level
pub primed_goes : (m : Life) (lost : Bool) (target : ℕ) (q : Point) → HasEndedAt m target q
    → latest_run (with_feedback lost m).reports ≤ 3 → Goes m lost target q (with_feedback lost m)
primed_goes m lost target q at few = by (m.out.microframes % m.out.stream.period == 0) refl
  where
    values : Nominal
    values = m.out.stream.nominal

    room : StaysBetweenWholes values
    room = has_room values at.ended.nominal

    value : ℕ
    value = report_of values target (out_level m.out)

    ticked : HasTicked m q.clock
    ticked = ticked_at_end m q.waited q.clock at.ended

    by : (b : Bool) → (m.out.microframes % m.out.stream.period == 0) ≡ b → Goes m lost target q (with_feedback lost m)
    by false none =
        let yet = not_yet m q.waited q.clock at.ended none in
        let following : IsFollowing m target q = record {
          robust = at.robust;
          target_is = at.target_is;
          level = omega (arith, at.level, at.ended.ticks);
          host = at.host;
          value = at.value;
          lost = at.lost;
          waited = yet.1;
          ticked = ticked;
        } in
        subst (Goes m lost target q) (sym (no_feedback m lost (reports_by m false at.ended.begun none))) (record {
          band = in_band_still m q.waited q.clock at.ended (subst (λ (t : Option ℕ). IsAt t m) (sym at.primed) (q, following));
          point = q;
          following = following;
          ends = inl (yet.0, refl);
        })
    by true now =
        let is : with_feedback lost m ≡ with_report lost value m = some_feedback m lost (Some target)
        (reports_by m true at.ended.begun now) at.primed in
        let few_now : latest_run (one_more lost m.reports) ≤ 3 = subst (λ (l : Life). latest_run l.reports ≤ 3) is few in
        let due = now_due m q.waited q.clock at.ended now in
        let runs : lost_after lost q.lost ≡ latest_run (one_more lost m.reports) = ap (lost_after lost) at.lost
        ∙ sym (runs_on lost m.reports) in
        let after : Point = point_after lost values q in
        let report : TakesReport values m.out.stream.period lost q after = record {
          due = due.0;
          waited_is = refl;
          lost_is = refl;
          few = subst (λ (k : ℕ). k ≤ 3) (sym runs) few_now;
          value_is = refl;
          level_is = refl;
          target_is = refl;
          host_is = refl;
          clock_is = refl;
        } in
        let following : IsFollowing (with_report lost value m) target after = record {
          robust = report_robust values 65 m.out.stream.service m.out.stream.period lost q after (rates_band values at.ended.nominal room)
              at.ended.intervals report at.robust;
          target_is = at.target_is;
          level = omega (arith, at.level, at.ended.ticks);
          host = host_there lost;
          value = value_there m lost target q at;
          lost = runs;
          waited = due.1;
          ticked = ticked_with lost value m q.clock ticked;
        } in
        subst (Goes m lost target q) (sym is) (record {
          band = in_band lost value m q.waited q.clock at.ended few_now
              (subst (λ (t : Option ℕ). IsAt t (with_report lost value m)) (sym at.primed) (after, following));
          point = after;
          following = following;
          ends = inr report;
        })
      where
        host_there : (b : Bool) → q.host ≡ sum (with_report b value m).pace.used % 65536
        host_there true = at.host
        host_there false = at.host

pub primed_reported : (m : Life) (lost : Bool) (target : ℕ) (q : Point) → HasEndedAt m target q
    → latest_run (with_feedback lost m).reports ≤ 3 → InBand (with_feedback lost m)
primed_reported m lost target q at few = (primed_goes m lost target q at few).band
