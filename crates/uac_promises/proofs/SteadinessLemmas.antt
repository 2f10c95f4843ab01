-- What was given stays steady where a stream whose latest reports were lost at most three times in a row has a report more.
use Rattle.std.proofs.Common.{◌≡◌, ◌∙◌, sym, refl, ap, subst, ℕ, suc, ◌≤◌, ◌==◌, ◌||◌, not, if◌then◌else◌, Bool, true, false, ℤ, List, [], ◌∷◌, arith}
use Rattle.std.specs.Prelude.{nat_lt}
use Rattle.std.specs.List.{list_all}
use Rattle.std.proofs.lemmas.Bool.{and_from, and_parts, eqb-true, le-ltb}
use Rattle.uac_levels.proofs.BandRunEarlierLemmas.{keeps}
use Rattle.uac_levels.proofs.TellingTurnLemmas.{own_number}
use Rattle.uac_rate.specs.Steadiness.{SteadyHistory, with_deviation_given, eight_streams, has_four_lost, is_slight, is_steady, latest_run, nothing_given, one_more, with_report_given, with_restart_given, run}

-- what was given is steady, and the stream at this index lost no more than so many reports since one came
pub record KeepsFeedback (index most : ℕ) (g : SteadyHistory) : Type 0 where
  pub slight : list_all is_slight g.deviations ≡ true
  pub kept : (n : ℕ) → keeps (g.feedback n) ≡ true
  pub few : latest_run (g.feedback index) ≤ most

all_of : (test : ℕ → Bool) → ((n : ℕ) → test n ≡ true) → (ns : List ℕ) → list_all test ns ≡ true
all_of test each [] = refl
all_of test each (n ∷ ns) = and_from (test n) (list_all test ns) (each n) (all_of test each ns)

pub steady_of : (index most : ℕ) (g : SteadyHistory) → KeepsFeedback index most g → is_steady g ≡ true
steady_of index most g is =
    and_from (list_all is_slight g.deviations) (list_all (λ n. keeps (g.feedback n)) eight_streams) is.slight
    (all_of (λ n. keeps (g.feedback n)) is.kept eight_streams)

pub none_kept : (index most : ℕ) → KeepsFeedback index most nothing_given
none_kept index most = record { slight = refl; kept = λ n. refl; few = omega arith }

pub at_most : (index most more : ℕ) (g : SteadyHistory) → most ≤ more → KeepsFeedback index most g → KeepsFeedback index more g
at_most index most more g less is = let few = is.few in record { slight = is.slight; kept = is.kept; few = omega arith }

pub off_kept : (index most : ℕ) (ppm : ℤ) (g : SteadyHistory) → is_slight ppm ≡ true → KeepsFeedback index most g
    → KeepsFeedback index most (with_deviation_given ppm g)
off_kept index most ppm g slight is = record {
  slight = and_from (is_slight ppm) (list_all is_slight g.deviations) slight is.slight;
  kept = is.kept;
  few = is.few;
}

-- ---- a stream starts anew

pub anew_kept : (index most : ℕ) (g : SteadyHistory) → KeepsFeedback index most g → KeepsFeedback index 0 (with_restart_given index g)
anew_kept index most g is = record {
  slight = is.slight;
  kept = λ n. by n (n == index);
  few = subst (λ b. latest_run (if b then [] ∷ g.feedback index else g.feedback index) ≤ 0) (sym (own_number index)) (omega arith);
}
  where
    by : (n : ℕ) (b : Bool) → keeps (if b then [] ∷ g.feedback n else g.feedback n) ≡ true
    by n true = is.kept n
    by n false = is.kept n

-- ---- a report comes, or is lost

came_kept : (lists : List (List Bool)) → keeps lists ≡ true → keeps (one_more false lists) ≡ true
came_kept [] h = refl
came_kept (latest ∷ earlier) h = h

came_run : (lists : List (List Bool)) → latest_run (one_more false lists) ≤ 0
came_run [] = omega arith
came_run (latest ∷ earlier) = omega arith

lost_kept : (lists : List (List Bool)) → latest_run lists ≤ 2 → keeps lists ≡ true → keeps (one_more true lists) ≡ true
lost_kept [] few h = refl
lost_kept (latest ∷ earlier) few h =
    let parts = and_parts (not (has_four_lost latest)) (keeps earlier) h in
    let three : nat_lt 3 (suc (run latest)) ≡ false = le-ltb 3 (suc (run latest)) (omega arith) in
    and_from (not (has_four_lost (true ∷ latest))) (keeps earlier)
    (ap (λ b. not (b || has_four_lost latest)) three ∙ parts.0) parts.1

lost_run : (lists : List (List Bool)) (most : ℕ) → latest_run lists ≤ most → latest_run (one_more true lists) ≤ suc most
lost_run [] most few = omega arith
lost_run (latest ∷ earlier) most few = omega arith

pub feedback_came : (index most : ℕ) (g : SteadyHistory) → KeepsFeedback index most g → KeepsFeedback index 0 (with_report_given index false g)
feedback_came index most g is = record {
  slight = is.slight;
  kept = λ n. by n (n == index);
  few = subst (λ b. latest_run (if b then one_more false (g.feedback index) else g.feedback index) ≤ 0) (sym (own_number index)) (came_run (g.feedback index));
}
  where
    by : (n : ℕ) (b : Bool) → keeps (if b then one_more false (g.feedback n) else g.feedback n) ≡ true
    by n true = came_kept (g.feedback n) (is.kept n)
    by n false = is.kept n

pub feedback_lost : (index most : ℕ) (g : SteadyHistory) → most ≤ 2 → KeepsFeedback index most g → KeepsFeedback index (suc most) (with_report_given index true g)
feedback_lost index most g two is = record {
  slight = is.slight;
  kept = λ n. by n (n == index) refl;
  few = subst (λ b. latest_run (if b then one_more true (g.feedback index) else g.feedback index) ≤ suc most) (sym (own_number index)) (lost_run (g.feedback index) most is.few);
}
  where
    by : (n : ℕ) (b : Bool) → (n == index) ≡ b → keeps (if b then one_more true (g.feedback n) else g.feedback n) ≡ true
    by n true same =
        lost_kept (g.feedback n)
        (let few = is.few in let here : n ≡ index = eqb-true n index same in subst (λ (m : ℕ). latest_run (g.feedback m) ≤ 2) (sym here) (omega arith)) (is.kept n)
    by n false other = is.kept n
