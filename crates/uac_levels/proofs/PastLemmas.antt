-- What a stream came through up to the end of an interval, and what one interval more makes of it.
use Rattle.std.proofs.Common.{arith, ◌≡◌, ◌∙◌, sym, refl, ap, subst, ℕ, ◌+◌, ◌*◌, ◌<◌, ◌≤◌, inl, inr, Bool, true, false, List, [], ◌∷◌, ◌++◌, length, sum, length-append}
use Rattle.std.specs.List.{AllByRecursion}
use Rattle.std.proofs.lemmas.List.Sums.{sum_by-append}
use Rattle.uac_clock.specs.declared.values.Nominal.{Nominal}
use Rattle.uac_rate.specs.Levels.{AreIntervals, HasBand, Interval, IsJustPrimed, IsRobust, IsTight, Anchor, Point, anchor_after_interval, anchor_after, anchor_of}
use Rattle.uac_rate.proofs.LevelsLemmas.{interval_tight, primed_tight, report_tight}
use Rattle.uac_settle.specs.Settling.{Ends, IsIntervalEnd, IsServed, LosesNoPacket, Served, Stretch}
use Rattle.uac_settle.proofs.SettlingTurnLemmas.{turns_and}
use Rattle.uac_levels.proofs.LevelsMicroframeLemmas.{times_more}
use Rattle.uac_levels.specs.Past.{Past, one_later, past_from}

-- ---- rows

pub each_more : {X : Type 0} (P : X → Type 0) (xs : List X) (x : X) → AllByRecursion P xs → P x → AllByRecursion P (xs ++ x ∷ [])
each_more P [] x all is = (is, tt)
each_more P (y ∷ ys) x all is = (all.0, each_more P ys x all.1 is)

pub sum_more : (xs : List ℕ) (x : ℕ) → sum (xs ++ x ∷ []) ≡ sum xs + x
sum_more xs x =
    let both = sum_by-append (λ (n : ℕ). n) xs (x ∷ []) in
    let one : sum (x ∷ []) ≡ x = omega arith in
    omega (arith, both)

pub length_more : {X : Type 0} (xs : List X) (x : X) → length (xs ++ x ∷ []) ≡ length xs + 1
length_more xs x = length-append xs (x ∷ [])

-- ---- up to the end of an interval

pub record HasCome (values : Nominal) (service period : ℕ) (past : Past) (point : Point) : Type 0 where
  pub all : List Served
  pub start : Point
  pub stretch : Stretch values service period all start point
  pub keeps : LosesNoPacket all
  pub since : past.quiet ≡ length all * service
  pub earlier : past.quiet ≤ past.primed
  pub tight : past.primed ≡ past.quiet → IsTight values period past.anchor point

module _ (values : Nominal) (service period : ℕ) (report_lost : Bool) (facts : HasBand values 65) (intervals : AreIntervals service period) where
  -- the anchor after the end of an interval, by whether a report fell due there
  abbrev pub IsNext : Anchor → Point → Anchor → Type 0
  IsNext anchor q newer = (q.waited < period → newer ≡ anchor) × (q.waited ≡ period → newer ≡ anchor_after report_lost anchor q)

  -- the end of an interval keeps it tight
  ends_tight : (anchor newer : Anchor) (q next : Point) → IsTight values period anchor q → IsNext anchor q newer → Ends values period report_lost q next
      → IsTight values period newer next
  ends_tight anchor newer q next tight is (inl none) =
      subst (λ (m : Anchor). IsTight values period m next) (sym (is.0 none.0)) (subst (λ (x : Point). IsTight values period anchor x) (sym none.1) tight)
  ends_tight anchor newer q next tight is (inr report) =
      subst (λ (m : Anchor). IsTight values period m next) (sym (is.1 report.due))
      (report_tight values 65 service period report_lost anchor q next facts intervals report tight)

  -- where its packet was lost, and where it was primed at that end, it begins there
  abbrev none_yet : (next : Point) → IsRobust values 65 service period next → IsIntervalEnd service period next
      → Stretch values service period [] next next
  none_yet next robust at_end = record { intervals = intervals; robust = robust; begins = at_end; turns = refl }

  pub primed_come : (q next : Point) → IsJustPrimed values service period q → IsRobust values 65 service period next
      → IsIntervalEnd service period next → Ends values period report_lost q next → HasCome values service period (past_from (anchor_of q)) next
  primed_come q next just robust at_end ends = record {
    all = [];
    start = next;
    stretch = none_yet next robust at_end;
    keeps = tt;
    since = omega arith;
    earlier = omega arith;
    tight = λ same.
        ends_tight (anchor_of q) (anchor_of q) q next (primed_tight values 65 service period q facts just) (λ less. refl, λ due. stands report_lost) ends;
  }
    where
      stands : (lost : Bool) → anchor_of q ≡ anchor_after lost (anchor_of q) q
      stands true = refl
      stands false = refl

  -- an interval that goes from p to q, where its end leads to the next point
  pub come_on : (packet_lost : Bool) (past : Past) (newer : Anchor) (all : List Served) (steps : List ℕ) (start p q next : Point)
      → Stretch values service period all start p → LosesNoPacket all → past.quiet + 1 ≡ length all * service + service
      → past.quiet ≤ past.primed → (past.primed ≡ past.quiet → IsTight values period past.anchor p)
      → IsNext (anchor_after_interval service past.anchor) q newer
      → IsServed values service (record { steps = steps; packet_lost = packet_lost; report_lost = report_lost })
      → (i : Interval values service period packet_lost p q) → i.steps ≡ sum steps → IsRobust values 65 service period next
      → IsIntervalEnd service period next → Ends values period report_lost q next
      → HasCome values service period (one_later packet_lost newer past) next
  come_on true past newer all steps start p q next stretch keeps since earlier tight is served i sums robust at_end ends = record {
    all = [];
    start = next;
    stretch = none_yet next robust at_end;
    keeps = tt;
    since = omega arith;
    earlier = omega arith;
    tight = λ same. absurd (omega arith);
  }
  come_on false past newer all steps start p q next stretch keeps since earlier tight is served i sums robust at_end ends =
      let one : Served = record { steps = steps; packet_lost = false; report_lost = report_lost } in
      let many : length (all ++ one ∷ []) * service ≡ length all * service + service =
      ap (λ (n : ℕ). n * service) (length_more all one) ∙ times_more (length all) service in
      record {
        all = all ++ one ∷ [];
        start = start;
        stretch = record {
          intervals = stretch.intervals;
          robust = stretch.robust;
          begins = stretch.begins;
          turns = turns_and values service period all one start p next stretch.turns
              (record { is_served = served; following = q; interval = i; steps_are = sums; ends = ends });
        };
        keeps = each_more (λ (s : Served). s.packet_lost ≡ false) all one keeps refl;
        since = since ∙ sym many;
        earlier = omega (arith, earlier);
        tight = λ same.
            ends_tight (anchor_after_interval service past.anchor) newer q next
            (interval_tight values service period past.anchor p q i (tight (omega arith))) is ends;
      }
