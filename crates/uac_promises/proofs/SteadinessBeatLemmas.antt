-- When a stream has its reports, and that a script which marks as many of them lost as the generated ones do stays steady.
use Rattle.std.proofs.Common.{◌≡◌, sym, subst, ℕ, suc, ◌+◌, ◌/◌, ◌%◌, ◌<◌, ◌==◌, ◌&&◌, if◌then◌else◌, Bool, true, false, Option, None, Some, arith, inl, inr}
use Rattle.std.specs.Prelude.{nat_lt}
use Rattle.std.specs.Option.{option_map, option_map_or}
use Rattle.std.proofs.lemmas.Bool.{and_from, and_right, cases_eq, eq-eqb, lt-ltb, ne_eqb}
use Rattle.uac_rate.specs.Steadiness.{SteadyHistory, with_report_given}
use Rattle.uac_flow.specs.FlowStreams.{OutStream}
use Rattle.uac_streaming.specs.StreamingWorld.{given_at}
use Rattle.uac_promises.proofs.SteadinessLemmas.{KeepsFeedback, at_most, feedback_came, feedback_lost}

-- the microframes between two reports of a stream, and those since its start
pub record Beat : Type 0 where
  pub period : ℕ
  pub microframes : ℕ

abbrev pub beat_of : OutStream → Beat
beat_of o = record { period = o.stream.period; microframes = o.microframes }

abbrev pub next_beat : Beat → Beat
next_beat b = record b { microframes = b.microframes + 1 }

-- a report falls due
abbrev pub is_told : Beat → Bool
is_told b = nat_lt 0 b.microframes && b.microframes % b.period == 0

-- what is given after a report of the stream of an interface, if one falls due
abbrev pub told_at : Bool → Option ℕ → Bool → SteadyHistory → SteadyHistory
told_at lost index told given = if told then given_at index (λ p. with_report_given p lost) given else given

abbrev pub given_following : Bool → Option ℕ → Option Beat → SteadyHistory → SteadyHistory
given_following lost index beat given = told_at lost index (option_map_or is_told beat false) given

-- a stream has its reports each eight microframes, and so many, but for multiples of eight, have passed
abbrev pub IsTimely : ℕ → Option Beat → Type 0
IsTimely passed None = Unit {0}
IsTimely passed (Some b) = (b.period ≡ 8) × (b.microframes % 8 ≡ passed % 8)

-- how many reports it may have lost since one came; where none runs, none
abbrev pub bound : ℕ → Option Beat → ℕ
bound most None = 0
bound most (Some b) = most

-- both, of the stream whose interface stands at an index
pub record IsWell (index passed most : ℕ) (beat : Option Beat) (given : SteadyHistory) : Type 0 where
  pub timely : IsTimely passed beat
  pub kept : KeepsFeedback index (bound most beat) given

-- ---- whether a report falls due

told_on : (passed : ℕ) (b : Beat) → b.period ≡ 8 → b.microframes % 8 ≡ passed % 8 → (passed + 1) % 8 ≡ 0 → is_told (next_beat b) ≡ true
told_on passed b eight timely due =
    rw eight (and_from (nat_lt 0 (b.microframes + 1)) ((b.microframes + 1) % 8 == 0) (lt-ltb 0 (b.microframes + 1) (omega arith))
    (eq-eqb ((b.microframes + 1) % 8) 0 (omega arith)))

untold_on : (passed : ℕ) (b : Beat) → b.period ≡ 8 → b.microframes % 8 ≡ passed % 8 → ((passed + 1) % 8 ≡ 0 → ⊥) → is_told (next_beat b) ≡ false
untold_on passed b eight timely quiet =
    rw eight (and_right (nat_lt 0 (b.microframes + 1)) ((b.microframes + 1) % 8 == 0) (ne_eqb ((b.microframes + 1) % 8) 0 (λ same. quiet (omega arith))))

timely_on : (passed : ℕ) (b : Beat) → b.period ≡ 8 → b.microframes % 8 ≡ passed % 8 → IsTimely (passed + 1) (Some (next_beat b))
timely_on passed b eight count = (eight, omega arith)

module _ (index : ℕ) where
  -- ---- a microframe whose report, if one falls due, comes

  pub well_on : (passed most : ℕ) (beat : Option Beat) (given : SteadyHistory) → IsWell index passed most beat given
      → IsWell index (passed + 1) most (option_map next_beat beat) (given_following false (Some index) (option_map next_beat beat) given)
  well_on passed most None given is = record { timely = tt; kept = is.kept }
  well_on passed most (Some b) given is = record { timely = timely_on passed b is.timely.0 is.timely.1; kept = by (is_told (next_beat b)) }
    where
      by : (told : Bool) → KeepsFeedback index most (told_at false (Some index) told given)
      by true = at_most index 0 most (with_report_given index false given) (omega arith) (feedback_came index most given is.kept)
      by false = is.kept

  -- and one after which it comes
  pub well_in : (passed most : ℕ) (beat : Option Beat) (given : SteadyHistory) → (passed + 1) % 8 ≡ 0 → IsWell index passed most beat given
      → IsWell index 0 0 (option_map next_beat beat) (given_following false (Some index) (option_map next_beat beat) given)
  well_in passed most None given due is = record { timely = tt; kept = is.kept }
  well_in passed most (Some b) given due is =
      let told : is_told (next_beat b) ≡ true = told_on passed b is.timely.0 is.timely.1 due in
      let count = is.timely.1 in
      record {
        timely = (is.timely.0, omega arith);
        kept = subst (λ (t : Bool). KeepsFeedback index 0 (told_at false (Some index) t given)) (sym told) (feedback_came index most given is.kept);
      }

  -- ---- a microframe whose report, if one falls due, is lost; so it is only in the first of 32

  pub well_lost : (passed : ℕ) (beat : Option Beat) (given : SteadyHistory) → passed + 1 < 32 → IsWell index passed (passed / 8) beat given
      → IsWell index (passed + 1) ((passed + 1) / 8) (option_map next_beat beat) (given_following true (Some index) (option_map next_beat beat) given)
  well_lost passed None given few is = record { timely = tt; kept = is.kept }
  well_lost passed (Some b) given few is = record {
    timely = timely_on passed b is.timely.0 is.timely.1;
    kept = elim (cases_eq ((passed + 1) % 8) 0) [
      | inl due ↦
          subst (λ (t : Bool). KeepsFeedback index ((passed + 1) / 8) (told_at true (Some index) t given)) (sym (told_on passed b is.timely.0 is.timely.1 due))
          (at_most index (suc (passed / 8)) ((passed + 1) / 8) (with_report_given index true given) (omega arith)
          (feedback_lost index (passed / 8) given (omega arith) is.kept))
      | inr quiet ↦
          subst (λ (t : Bool). KeepsFeedback index ((passed + 1) / 8) (told_at true (Some index) t given)) (sym (untold_on passed b is.timely.0 is.timely.1 quiet))
          (at_most index (passed / 8) ((passed + 1) / 8) given (omega arith) is.kept)
    ];
  }
