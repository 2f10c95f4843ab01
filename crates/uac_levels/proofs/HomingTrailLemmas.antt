-- What a primed stream came through goes on with a steady microframe, or begins in it.
use Rattle.std.proofs.Common.{arith, ◌≡◌, ◌∙◌, sym, refl, ap, subst, ℕ, ◌+◌, ◌-◌, ◌*◌, ◌%◌, ◌<◌, ◌≤◌, ◌⊎◌, inl, inr, ◌==◌, ◌&&◌, not, if◌then◌else◌, Bool, true, false, List, [], ◌∷◌, ◌++◌, length, sum, Option, Some, None, is_some}
use Rattle.std.specs.Option.{option_map_or}
use Rattle.std.proofs.lemmas.Bool.{cases_lt}
use Rattle.uac_clock.specs.declared.values.Nominal.{Nominal}
use Rattle.uac_clock.specs.Nominal.{StaysBetweenWholes}
use Rattle.uac_clock.proofs.NominalLemmas.{has_room}
use Rattle.uac_rate.specs.Levels.{Anchor, HasBand, IsRobust, Point, Within, anchor_after, anchor_after_interval, anchor_of}
use Rattle.uac_rate.specs.Steadiness.{latest_run, one_more}
use Rattle.uac_rate.specs.Reports.{report_of}
use Rattle.uac_rate.proofs.LevelsLemmas.{rates_band, tight_within}
use Rattle.uac_settle.specs.Settling.{Ends, IsIntervalEnd, settle_of}
use Rattle.uac_settle.proofs.SettlingStretchLemmas.{stretch_settles}
use Rattle.uac_settle.proofs.SettlingTurnLemmas.{ends_by_count}
use Rattle.uac_flow.specs.FlowStreams.{OutStream, feedback_of, is_due, out_level, priming_level, reports_now}
use Rattle.uac_host.specs.HostCalls.{pace_after_report}
use Rattle.uac_levels.specs.Life.{Life, life_after, with_feedback}
use Rattle.uac_levels.specs.Bands.{InBand, IsAt, IsFollowing, IsFilling, IsSlightStep, IsSteadyMicroframe, microframes_since_due}
use Rattle.uac_levels.proofs.LevelsMicroframeLemmas.{IsPlacedAt, placed_at}
use Rattle.uac_levels.proofs.LifeSteadyLemmas.{Goes, HasEndedAt, is_some_more, is_zero, primed_goes, reports_by, times_none}
use Rattle.uac_levels.proofs.BandsLemmas.{after_not_due, end_point, ended_first, ended_life, ended_primed, first_point, interval, is_below, is_lost, just_primed, level_now, lived_due, lived_not_due, n, target_by}
use Rattle.uac_levels.proofs.BandRunLevelLemmas.{feedback_out}
use Rattle.uac_levels.specs.Past.{Past, anchor_at_end, anchor_then, one_later, past_from, standing}
use Rattle.uac_levels.specs.Homing.{HasTrail}
use Rattle.uac_levels.proofs.PastLemmas.{HasCome, IsNext, come_on, each_more, length_more, primed_come, sum_more}

-- ---- at the end of an interval

-- no step of its clock is after the point
no_steps : (l : Life) (target : ℕ) (p : Point) (b : IsFollowing l target p) → microframes_since_due l.out ≡ 0 → b.ticked.steps ≡ 0
no_steps l target p b ended =
    let e = times_none (microframes_since_due l.out) l.out.stream.nominal.e ended in
    let f = times_none (microframes_since_due l.out) l.out.stream.nominal.f ended in
    let slight = b.ticked.slight in
    omega (arith, slight.0)

trail_at_end : (l : Life) (target : ℕ) (p : Point) (past : Past)
    → HasCome l.out.stream.nominal l.out.stream.service l.out.stream.period past p → IsFollowing l target p → microframes_since_due l.out ≡ 0
    → HasTrail l target past
trail_at_end l target p past come b ended = record {
  all = come.all;
  start = come.start;
  point = p;
  stretch = come.stretch;
  keeps = come.keeps;
  following = b;
  recent = [];
  slight = tt;
  as_many = sym ended;
  steps = no_steps l target p b ended;
  since = omega (arith, come.since, ended);
  earlier = come.earlier;
  tight = come.tight;
}

-- and after the report that falls due there
trail_following : (m : Life) (lost : Bool) (target : ℕ) (q : Point) (past : Past) → Goes m lost target q (with_feedback lost m)
    → microframes_since_due m.out ≡ 0
    → ((next : Point) → IsRobust m.out.stream.nominal 65 m.out.stream.service m.out.stream.period next
    → IsIntervalEnd m.out.stream.service m.out.stream.period next → Ends m.out.stream.nominal m.out.stream.period lost q next
    → HasCome m.out.stream.nominal m.out.stream.service m.out.stream.period past next)
    → HasTrail (with_feedback lost m) target past
trail_following m lost target q past goes ended come =
    trail_at_end after target goes.point past
    (subst (λ (o : OutStream). HasCome o.stream.nominal o.stream.service o.stream.period past goes.point) (sym same) (come goes.point
    (subst (λ (o : OutStream). IsRobust o.stream.nominal 65 o.stream.service o.stream.period goes.point) same goes.following.robust)
    (subst (λ (o : OutStream). IsIntervalEnd o.stream.service o.stream.period goes.point) same at_end) goes.ends))
    goes.following now
  where
    after : Life
    after = with_feedback lost m

    same : after.out ≡ m.out
    same = feedback_out lost m

    now : microframes_since_due after.out ≡ 0
    now = ap (λ (o : OutStream). microframes_since_due o) same ∙ ended

    counted : after.out.microframes - microframes_since_due after.out ≡ after.out.microframes
    counted = omega (arith, now)

    at_end : IsIntervalEnd after.out.stream.service after.out.stream.period goes.point
    at_end =
        ends_by_count after.out.stream.service after.out.stream.period after.out.microframes goes.point goes.band.intervals now
        (goes.following.waited ∙ ap (λ (k : ℕ). k % after.out.stream.period) counted)

-- ---- the anchor there

-- a report falls due, and is told of
feedback_shows : (o : OutStream) (b : Bool) → reports_now o ≡ b → is_some (feedback_of o) ≡ b
unfolding feedback_of
feedback_shows o b is =
    ap (λ (c : Bool). is_some (if c then Some (option_map_or (λ target. report_of o.stream.nominal target (out_level o)) o.target o.stream.nominal.f) else None)) is
    ∙ by b
  where
    by : (c : Bool) → is_some (if c then Some (option_map_or (λ target. report_of o.stream.nominal target (out_level o)) o.target o.stream.nominal.f) else None) ≡ c
    by true = refl
    by false = refl

-- an anchor where nothing has passed since
abbrev new_anchor : ℕ → ℕ → ℕ → Anchor
new_anchor level host clock = record { level = level; host = host; clock = clock; age = 0 }

-- a report leaves all that an anchor tells
stands_there : (m : Life) (lost : Bool) (target : ℕ) (q : Point) → HasEndedAt m target q → standing (with_feedback lost m) ≡ anchor_of q
stands_there m lost target q at =
    by (feedback_of m.out)
    ∙ ap (λ (n : ℕ). new_anchor n (sum m.pace.used % 65536) (sum m.steps % 65536)) (sym at.level)
    ∙ ap (λ (n : ℕ). new_anchor q.level n (sum m.steps % 65536)) (sym at.host)
    ∙ ap (λ (n : ℕ). new_anchor q.level q.host n) (sym at.ended.phase)
  where
    reported_life : Option ℕ → Life
    reported_life o =
        option_map_or (λ value. record m { pace = if lost then m.pace else pace_after_report value m.pace; reports = one_more lost m.reports }) o m

    kept : (b : Bool) (value : ℕ) → sum (if b then m.pace else pace_after_report value m.pace).used % 65536 ≡ sum m.pace.used % 65536
    kept true value = refl
    kept false value = refl

    by : (o : Option ℕ) → standing (reported_life o) ≡ standing m
    by None = refl
    by (Some value) = ap (λ (n : ℕ). new_anchor (out_level m.out) n (sum m.steps % 65536)) (kept lost value)

-- the anchor after the end of an interval of a primed stream is that of the report which came, or is older by the interval
next_anchor : (m : Life) (lost : Bool) (target : ℕ) (q : Point) (at : HasEndedAt m target q) (anchor : Anchor)
    → (q.waited < m.out.stream.period → anchor_at_end lost (with_feedback lost m) anchor ≡ anchor_after_interval m.out.stream.service anchor)
    × (q.waited ≡ m.out.stream.period
    → anchor_at_end lost (with_feedback lost m) anchor ≡ anchor_after lost (anchor_after_interval m.out.stream.service anchor) q)
next_anchor m lost target q at anchor = (
  λ less. by_due false (shows false (some (m.out.microframes % m.out.stream.period) (let before = at.ended.before less in let later = at.ended.later in omega (arith, before, later))))
      ∙ older,
  λ due. by_due true (shows true (none (m.out.microframes % m.out.stream.period) (at.ended.due due))) ∙ reported lost,
)
  where
    after : Life
    after = with_feedback lost m

    some : (n : ℕ) → 0 < n → (n == 0) ≡ false
    some n h = grind arith

    none : (n : ℕ) → n ≡ 0 → (n == 0) ≡ true
    none n h = grind arith

    shows : (b : Bool) → (m.out.microframes % m.out.stream.period == 0) ≡ b → is_some (feedback_of after.out) ≡ b
    shows b is =
        ap (λ (o : OutStream). is_some (feedback_of o)) (feedback_out lost m) ∙ feedback_shows m.out b (reports_by m b at.ended.begun is)

    by_due : (b : Bool) → is_some (feedback_of after.out) ≡ b
        → anchor_at_end lost after anchor ≡ (if b && not lost then standing after else anchor_after_interval after.out.stream.service anchor)
    by_due b is = ap (λ (c : Bool). if c && not lost then standing after else anchor_after_interval after.out.stream.service anchor) is

    older : anchor_after_interval after.out.stream.service anchor ≡ anchor_after_interval m.out.stream.service anchor
    older = ap (λ (o : OutStream). anchor_after_interval o.stream.service anchor) (feedback_out lost m)

    reported : (b : Bool) → (if not b then standing after else anchor_after_interval after.out.stream.service anchor)
        ≡ anchor_after b (anchor_after_interval m.out.stream.service anchor) q
    reported true = older
    reported false = stands_there m lost target q at

-- ---- a steady microframe

module _ (l : Life) (packet : Option (List ℕ)) (step : ℕ) (band : InBand l) (given : IsSteadyMicroframe packet step l) (report_lost : Bool)
    (few : latest_run (life_after packet step report_lost l).reports ≤ 3) where
  abbrev s : ℕ
  s = l.out.stream.service

  abbrev period : ℕ
  period = l.out.stream.period

  abbrev values : Nominal
  values = l.out.stream.nominal

  abbrev after : Life
  after = life_after packet step report_lost l

  room : StaysBetweenWholes values
  room = has_room values band.nominal

  facts : HasBand values 65
  facts = rates_band values band.nominal room

  at : IsPlacedAt s l.out.microframes
  at = placed_at s l.out.microframes band.intervals.serves

  -- where no packet is due, the interval goes on
  waits : is_due l.out.stream l.out.microframes ≡ false → (target : ℕ) → l.out.target ≡ Some target → (past : Past)
      → HasTrail l target past → HasTrail after target (one_later false past.anchor past)
  waits due target is past t =
      let on = after_not_due l packet step band given due target t.point t.following in
      let within : (l.out.microframes + 1) % s ≡ microframes_since_due l.out + 1 = at.within (is_some_more ((l.out.microframes + 1) % s) due) in
      subst (λ (m : Life). HasTrail m target (one_later false past.anchor past))
      (sym (lived_not_due l packet step band given (Some target) is (t.point, t.following) due report_lost)) (record {
        all = t.all;
        start = t.start;
        point = t.point;
        stretch = t.stretch;
        keeps = t.keeps;
        following = on.0;
        recent = t.recent ++ step ∷ [];
        slight = each_more (IsSlightStep values) t.recent step t.slight given.slight;
        as_many = length_more t.recent step ∙ ap (λ (k : ℕ). k + 1) t.as_many ∙ sym within;
        steps = on.1 ∙ ap (λ (k : ℕ). k + step) t.steps ∙ sym (sum_more t.recent step);
        since = (let before = t.since in omega (arith, before, within));
        earlier = omega (arith, t.earlier);
        tight = λ same. t.tight (omega arith);
      })

  module _ (due : is_due l.out.stream l.out.microframes ≡ true) where
    -- where one is, the interval ends
    ends : microframes_since_due l.out + 1 ≡ s
    ends = at.ends (is_zero ((l.out.microframes + 1) % s) due)

    passes : (target : ℕ) → l.out.target ≡ Some target → (past : Past) → HasTrail l target past
        → HasTrail after target (one_later (is_lost packet) (anchor_at_end report_lost after past.anchor) past)
    passes target is past t =
        let lived = lived_due l packet step band given (Some target) is (t.point, t.following) due report_lost in
        let m : Life = ended_life l packet step band given (n l packet step band given) in
        let q : Point = end_point l packet step band given due target is t.point t.following in
        let at_end = ended_primed l packet step band given due target is t.point t.following in
        let i = interval l packet step band given due target is t.point t.following in
        let newer : Anchor = anchor_at_end report_lost (with_feedback report_lost m) past.anchor in
        subst (λ (x : Life). HasTrail x target (one_later (is_lost packet) (anchor_at_end report_lost x past.anchor) past)) (sym lived)
        (trail_following m report_lost target q (one_later (is_lost packet) newer past)
        (primed_goes m report_lost target q at_end (subst (λ (m : Life). latest_run m.reports ≤ 3) lived few)) at_end.ended.passed_is
        (λ next robust whole end.
        come_on values s period report_lost facts band.intervals (is_lost packet) past newer t.all (t.recent ++ step ∷ []) t.start t.point q next
        t.stretch t.keeps (let since = t.since in omega (arith, since, ends)) t.earlier t.tight (next_anchor m report_lost target q at_end past.anchor)
        (record {
          whole = length_more t.recent step ∙ ap (λ (k : ℕ). k + 1) t.as_many ∙ ends;
          slight = each_more (IsSlightStep values) t.recent step t.slight given.slight;
        })
        i.0 (i.1 ∙ ap (λ (k : ℕ). k + step) t.steps ∙ sym (sum_more t.recent step)) robust whole end))

    -- and a priming stream may be primed
    primes : (is : l.out.target ≡ None) → IsFilling l → (target : ℕ) → after.out.target ≡ Some target → HasTrail after target (past_from (standing after))
    primes is filling target primed = from (cases_lt level (priming_level l.out.stream))
      where
        level : ℕ
        level = level_now l packet step band given due is filling

        m : Life
        m = ended_life l packet step band given 0

        q : Point
        q = first_point l packet step band given due is filling

        lived : after ≡ with_feedback report_lost m
        lived = lived_due l packet step band given None is filling due report_lost

        there : m.out.target ≡ Some target
        there = ap (λ (o : OutStream). o.target) (sym (feedback_out report_lost m)) ∙ ap (λ (x : Life). x.out.target) (sym lived) ∙ primed

        from : (level < priming_level l.out.stream) ⊎ (priming_level l.out.stream ≤ level) → HasTrail after target (past_from (standing after))
        from (inl low) =
            absurd (let none : m.out.target ≡ None = target_by l packet step band given due is filling true (is_below level (priming_level l.out.stream) low) in
            let both : None ≡ Some target = sym none ∙ there in cc)
        from (inr reached) =
            let at_end = ended_first l packet step band given due is filling reached in
            let same : level ≡ target = (let both : Some level ≡ Some target = sym at_end.primed ∙ there in cc) in
            subst (λ (k : ℕ). HasTrail after k (past_from (standing after))) same
            (subst (λ (x : Life). HasTrail x level (past_from (standing x))) (sym lived)
            (subst (λ (a : Anchor). HasTrail (with_feedback report_lost m) level (past_from a)) (sym (stands_there m report_lost level q at_end))
            (trail_following m report_lost level q (past_from (anchor_of q))
            (primed_goes m report_lost level q at_end (subst (λ (m : Life). latest_run m.reports ≤ 3) lived few)) at_end.ended.passed_is
            (λ next robust whole end.
            primed_come values s period report_lost facts band.intervals q next (just_primed l packet step band given due is filling reached) robust whole end))))

  -- a primed stream stays so
  stays_primed : (target : ℕ) (p : Point) → l.out.target ≡ Some target → IsFollowing l target p → after.out.target ≡ Some target
  stays_primed target p is b = by (is_due l.out.stream l.out.microframes) refl
    where
      by : (c : Bool) → is_due l.out.stream l.out.microframes ≡ c → after.out.target ≡ Some target
      by false due = ap (λ (x : Life). x.out.target) (lived_not_due l packet step band given (Some target) is (p, b) due report_lost) ∙ is
      by true due =
          ap (λ (x : Life). x.out.target) (lived_due l packet step band given (Some target) is (p, b) due report_lost)
          ∙ ap (λ (o : OutStream). o.target) (feedback_out report_lost (ended_life l packet step band given (n l packet step band given)))
          ∙ (ended_primed l packet step band given due target is p b).primed

  -- ---- both

  abbrev loses : Bool
  loses = is_due l.out.stream l.out.microframes && is_lost packet

  -- the past that follows
  abbrev then_past : Past → Past
  then_past past = one_later loses (anchor_then (is_due l.out.stream l.out.microframes) report_lost after past.anchor) past

  pub trail_goes : (target : ℕ) → l.out.target ≡ Some target → (past : Past) → HasTrail l target past → (t : ℕ) → after.out.target ≡ Some t
      → HasTrail after t (then_past past)
  trail_goes target is past trail t primed =
      subst (λ (k : ℕ). HasTrail after k (then_past past)) same (by (is_due l.out.stream l.out.microframes) refl)
    where
      same : target ≡ t
      same = let both : Some target ≡ Some t = sym (stays_primed target trail.point is trail.following) ∙ primed in cc

      by : (b : Bool) → is_due l.out.stream l.out.microframes ≡ b → HasTrail after target (then_past past)
      by false due =
          subst (λ (b : Bool). HasTrail after target (one_later (b && is_lost packet) (anchor_then b report_lost after past.anchor) past)) (sym due)
          (waits due target is past trail)
      by true due =
          subst (λ (b : Bool). HasTrail after target (one_later (b && is_lost packet) (anchor_then b report_lost after past.anchor) past)) (sym due)
          (passes due target is past trail)

  pub trail_begins : l.out.target ≡ None → (t : ℕ) → after.out.target ≡ Some t → HasTrail after t (past_from (standing after))
  trail_begins is t primed = by (is_due l.out.stream l.out.microframes) refl
    where
      filling : IsFilling l
      filling = subst (λ (o : Option ℕ). IsAt o l) is band.at

      by : (b : Bool) → is_due l.out.stream l.out.microframes ≡ b → HasTrail after t (past_from (standing after))
      by false due =
          absurd (let none : after.out.target ≡ None =
          ap (λ (x : Life). x.out.target) (lived_not_due l packet step band given None is filling due report_lost) ∙ is in
          let both : None ≡ Some t = sym none ∙ primed in cc)
      by true due = primes due is filling t primed

-- ---- how close its level is

-- a level told at the end of an interval
pub record IsHome (l : Life) (past : Past) (level target : ℕ) : Type 0 where
  pub settled : settle_of l.out.stream.nominal ≤ past.quiet → Within 4 level target
  pub tight : past.primed ≡ past.quiet → Within 3 level target

pub trail_home : (l : Life) (target : ℕ) (past : Past) → InBand l → HasTrail l target past → microframes_since_due l.out ≡ 0
    → IsHome l past (out_level l.out) target
trail_home l target past band t ended = record {
  settled = λ long. close 4
      (stretch_settles values room facts l.out.stream.service l.out.stream.period t.all t.start t.point t.stretch t.keeps
      (subst (λ (k : ℕ). settle_of values ≤ k) quiet long));
  tight = λ same.
      close 3 (tight_within values 65 l.out.stream.period past.anchor t.point facts room.slight band.intervals.reports (t.tight same));
}
  where
    values : Nominal
    values = l.out.stream.nominal

    room : StaysBetweenWholes values
    room = has_room values band.nominal

    facts : HasBand values 65
    facts = rates_band values band.nominal room

    quiet : past.quiet ≡ length t.all * l.out.stream.service
    quiet = let since = t.since in omega (arith, since, ended)

    level : t.point.level ≡ out_level l.out
    level =
        let none = no_steps l target t.point t.following ended in
        let below = t.following.robust.counted.clock in
        let no_ticks : l.out.ticks ≡ 0 = omega (arith, t.following.ticked.ticks) in
        omega (arith, t.following.level)

    close : (most : ℕ) → Within most t.point.level t.point.target → Within most (out_level l.out) target
    close most near =
        subst (λ (k : ℕ). Within most k target) level (subst (λ (k : ℕ). Within most t.point.level k) t.following.target_is near)
