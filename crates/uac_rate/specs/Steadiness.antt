-- profile: clocks that keep within a thousandth, and feedback of which at most three reports are lost in succession.
use Rattle.std.specs.Prelude.{◌≡◌, ◌↔◌, ℕ, suc, ◌<◌, ◌==◌, ◌&&◌, ◌||◌, not, Bool, true, false, if◌then◌else◌, nat_lt, min, ℤ, pos, negsuc}
use Rattle.std.specs.Prelude.{int_le, List, [], ◌∷◌, ◌++◌, length, get_or}
use Rattle.std.specs.List.{list_all}

-- what was given: the deviations, in ppm, the latest first; and by stream a list for each start, the latest first, of whether
-- each feedback report since then was lost, the latest first
pub record SteadyHistory : Type 0 where
  pub deviations : List ℤ
  pub feedback : ℕ → List (List Bool)

abbrev pub nothing_given : SteadyHistory
nothing_given = record { deviations = []; feedback = λ stream. [] }

-- the reports of each start with one more in the latest start
abbrev pub one_more : Bool → List (List Bool) → List (List Bool)
one_more lost [] = (lost ∷ []) ∷ []
one_more lost (latest ∷ earlier) = (lost ∷ latest) ∷ earlier

abbrev pub with_deviation_given : ℤ → SteadyHistory → SteadyHistory
with_deviation_given ppm given = record given { deviations = ppm ∷ given.deviations }

abbrev pub with_report_given : ℕ → Bool → SteadyHistory → SteadyHistory
with_report_given stream lost given =
    record given { feedback = λ k. if k == stream then one_more lost (given.feedback k) else given.feedback k }

abbrev pub with_restart_given : ℕ → SteadyHistory → SteadyHistory
with_restart_given stream given = record given { feedback = λ k. if k == stream then [] ∷ given.feedback k else given.feedback k }

-- a clock is off by at most a thousandth
abbrev pub is_slight : ℤ → Bool
is_slight ppm = int_le (negsuc 999) ppm && int_le ppm (pos 1000)

-- how many reports were lost since one came
abbrev pub run : List Bool → ℕ
run [] = 0
run (false ∷ older) = 0
run (true ∷ older) = suc (run older)

-- four in succession of these feedback reports were lost
abbrev pub has_four_lost : List Bool → Bool
has_four_lost [] = false
has_four_lost (lost ∷ older) = nat_lt 3 (run (lost ∷ older)) || has_four_lost older

-- four reports in a row of the list were lost
pub record HasFourInARow (reports : List Bool) : Type 0 where
  pub newer : List Bool
  pub older : List Bool
  pub are : reports ≡ newer ++ true ∷ true ∷ true ∷ true ∷ older

abbrev pub FourLostAreInARow : Type 0
FourLostAreInARow = (reports : List Bool) → (has_four_lost reports ≡ true) ↔ HasFourInARow reports

-- no stream of these lost four feedback reports in succession
abbrev pub loses_few_reports : (ℕ → List (List Bool)) → List ℕ → Bool
loses_few_reports feedback streams = list_all (λ stream. list_all (λ reports. not (has_four_lost reports)) (feedback stream)) streams

abbrev pub eight_streams : List ℕ
eight_streams = 0 ∷ 1 ∷ 2 ∷ 3 ∷ 4 ∷ 5 ∷ 6 ∷ 7 ∷ []

-- no deviation passed a thousandth, and no stream lost four feedback reports in succession
abbrev pub is_steady : SteadyHistory → Bool
is_steady given = list_all is_slight given.deviations && loses_few_reports given.feedback eight_streams

-- all that was given is steady, as a fact
abbrev pub IsSteady : SteadyHistory → Type 0
IsSteady given = is_steady given ≡ true

-- what `Steady` is seen as: whether all that was given is steady, and how many reports of each stream were lost since one came, at most 4
pub record SteadyFields : Type 0 where
  pub holds : Bool
  pub runs : List ℕ

-- how many reports of the latest start were lost since one came
abbrev pub latest_run : List (List Bool) → ℕ
latest_run [] = 0
latest_run (latest ∷ earlier) = run latest

-- what `Steady` keeps of all that was given
pub record SteadyStands (kept : SteadyFields) (given : SteadyHistory) : Type 0 where
  pub holds : kept.holds ≡ is_steady given
  pub eight : length kept.runs ≡ 8
  pub runs : (stream : ℕ) → stream < 8 → get_or kept.runs stream 0 ≡ min (latest_run (given.feedback stream)) 4
