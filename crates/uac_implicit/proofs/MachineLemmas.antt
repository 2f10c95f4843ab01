-- What a pair is answered, as what a machine is; and its lines come to what they say does.
use Rattle.std.proofs.Common.{◌≡◌, ◌≢◌, ◌∙◌, ap, refl, sym, subst, ℕ, ◌⊎◌, inl, inr, Bool, true, false, List, [], ◌∷◌, ◌++◌, map, Option, None, Some, Result, Ok, Err}
use Rattle.std.specs.Prelude.{⊤}
use Rattle.std.proofs.lemmas.Bool.{cond-true}
use Rattle.uac_clock.specs.Nominal.{is_listed, nominal_of, values_of}
use Rattle.uac_edges.specs.Faults.{Rose}
use Rattle.uac_script.specs.LineParsing.{answer}
use Rattle.uac_script.specs.Phrase.{Phrase}
use Rattle.uac_script.proofs.LineParsingLemmas.{says_only}
use Rattle.uac_ends.specs.declared.fault.LineFault.{LineFault}
use Rattle.uac_ends.specs.declared.fault.LineFault.TheVariants as faults
use Rattle.uac_runner.specs.Machine.{After, Step, after, and_then}
use Rattle.uac_runner.specs.LineOutcomes.{IsSilent, IsWriteCut, Prevents, Reaches}
use Rattle.uac_runner.proofs.ScriptLemmas.{after_said, transcript_same}
use Rattle.uac_implicit.specs.declared.fault.PairFault.{PairFault}
use Rattle.uac_implicit.specs.declared.fault.PairFault.TheVariants as told
use Rattle.uac_implicit.specs.Following.{PairWorld}
use Rattle.uac_implicit.specs.PairLines.{PairSaid, PairStep, PairAfter, pair_done, pair_refused, pair_said_step, pair_step, pair_after, pair_and_then}
use Rattle.uac_implicit.specs.PairKept.{IsPairCut, PairPrevents, PairReaches}
use Rattle.uac_implicit.specs.FollowingBands.{PairsKeepPromises, PairsStayNear}
use Rattle.uac_implicit.specs.PairMachine.{AreLifted, PairFrontsKeepPromises, PairHasOneTranscript, PairLinesAreSayings, pair_lifted, pair_machine, line_fault, PairFrontsStayNear}

-- ---- a line

module _ (says : List ℕ → Result Phrase ℕ) (written written' : Option (List ℕ)) (writes writes' : ℕ) where
  reaches : (Holds : PairWorld → Type 0) (s : PairStep) → PairReaches s Holds written written' → writes' ≡ writes
      → Reaches (pair_machine says) (pair_lifted s) Holds written written' writes writes'
  reaches Holds (pair_done next lines) r still = (r.0, r.1, still)
  reaches Holds (pair_refused rule) r still = absurd r

  cut : (s : PairStep) → IsPairCut s written written' → IsWriteCut (pair_machine says) (pair_lifted s) written written'
  cut (pair_done next lines) c = c
  cut (pair_refused rule) c = absurd c

  -- a line that says this was done
  pub line_done : (Holds : PairWorld → Type 0) (text : List ℕ) (phrase : Phrase) (w : PairWorld) → says text ≡ Ok phrase
      → PairReaches (pair_step phrase w) Holds written written' → writes' ≡ writes
      → Reaches (pair_machine says) ((pair_machine says).step text w) Holds written written' writes writes'
  line_done Holds text phrase w is r still =
      subst (λ (said : Result Phrase ℕ). Reaches (pair_machine says) (pair_lifted (pair_said_step said w)) Holds written written' writes writes') (sym is)
      (reaches Holds (pair_step phrase w) r still)

  prevented : (fault : PairFault) (s : PairStep) → PairPrevents fault s written written'
      → (fault ≢ told.WriteFault → IsSilent ⊤ written written' writes writes') → (fault ≡ told.WriteFault → Rose writes writes')
      → Prevents (line_fault fault) (pair_machine says) false (pair_lifted s) ⊤ written written' writes writes'
  prevented (told.Script rule) s p silent rose = (ap pair_lifted p, silent (λ e. cc))
  prevented told.WriteFault s p silent rose = (cut s p, rose refl)

  -- it wasn't, and for any cause but a failed write nothing was printed
  pub line_prevented : (fault : PairFault) (answered : LineFault) (text : List ℕ) (phrase : Phrase) (w : PairWorld) → answered ≡ line_fault fault
      → says text ≡ Ok phrase → PairPrevents fault (pair_step phrase w) written written'
      → (fault ≢ told.WriteFault → IsSilent ⊤ written written' writes writes') → (fault ≡ told.WriteFault → Rose writes writes')
      → Prevents answered (pair_machine says) false ((pair_machine says).step text w) ⊤ written written' writes writes'
  line_prevented fault answered text phrase w same is p silent rose =
      subst (λ (f : LineFault). Prevents f (pair_machine says) false (pair_lifted (pair_said_step (says text) w)) ⊤ written written' writes writes') (sym same)
      (subst (λ (said : Result Phrase ℕ). Prevents (line_fault fault) (pair_machine says) false (pair_lifted (pair_said_step said w)) ⊤ written written' writes writes') (sym is)
      (prevented fault (pair_step phrase w) p silent rose))

-- a text that breaks a rule of spelling does nothing
pub line_misread : (says : List ℕ → Result Phrase ℕ) (written : Option (List ℕ)) (writes : ℕ) (text : List ℕ) (rule : ℕ) (w : PairWorld) → says text ≡ Err rule
    → Prevents (faults.Script rule) (pair_machine says) false ((pair_machine says).step text w) ⊤ written written writes writes
line_misread says written writes text rule w is =
    (ap (λ (said : Result Phrase ℕ). pair_lifted (pair_said_step said w)) is, record { shown = tt; kept = refl; faultless = refl })

-- where a failed write wasn't kept, it has its cause here
pub cause_now : (failed : Bool) (writes writes' : ℕ) → failed ≡ false → (failed ≡ true) ⊎ Rose writes writes' → Rose writes writes'
cause_now failed writes writes' going (inl again) = absurd (cc)
cause_now failed writes writes' going (inr rose) = rose

-- ---- lines are what they say

then_lifted : (saids : List (Result Phrase ℕ)) (s : PairStep) (w : PairWorld)
    → ((v : PairWorld) → AreLifted (pair_after saids v) (after (λ said u. pair_lifted (pair_said_step said u)) saids v))
    → AreLifted (pair_and_then s w (pair_after saids)) (and_then (pair_lifted s) w (after (λ said u. pair_lifted (pair_said_step said u)) saids))
then_lifted saids (pair_done next lines) w rest = record {
  lines = ap (λ (ls : List PairSaid). lines ++ ls) (rest next).lines;
  world = (rest next).world;
  refusal = (rest next).refusal;
}
then_lifted saids (pair_refused rule) w rest = record { lines = refl; world = refl; refusal = refl }

after_lifted : (saids : List (Result Phrase ℕ)) (w : PairWorld) → AreLifted (pair_after saids w) (after (λ said v. pair_lifted (pair_said_step said v)) saids w)
unfolding after pair_after
after_lifted [] w = record { lines = refl; world = refl; refusal = refl }
after_lifted (said ∷ saids) w = then_lifted saids (pair_said_step said w) w (after_lifted saids)

pub lines_are_sayings : PairLinesAreSayings
lines_are_sayings says texts w =
    subst (λ (a : After PairWorld PairSaid). AreLifted (pair_after (map says texts) w) a)
    (sym (after_said says (λ said v. pair_lifted (pair_said_step said v)) texts w)) (after_lifted (map says texts) w)

pub one_transcript : PairHasOneTranscript
one_transcript says says' table table' w taken end =
    transcript_same (pair_machine says) (pair_machine says')
    (λ text v. ap (λ (said : Result Phrase ℕ). pair_lifted (pair_said_step said v)) (says_only text (says text) (table text) ∙ sym (says_only text (says' text) (table' text))))
    (λ v. refl) w taken end

-- ---- what is promised

pub nominal_listed : (rate : ℕ) → is_listed rate ≡ true → nominal_of rate ≡ Some (values_of rate)
unfolding nominal_of
nominal_listed rate listed = cond-true _ _ _ listed

pub fronts_keep_promises : PairsKeepPromises → PairFrontsKeepPromises
fronts_keep_promises keep says rate texts listed front rest parts slight few = keep rate (map says front) (nominal_listed rate listed) slight few

pub fronts_stay_near : PairsStayNear → PairFrontsStayNear
fronts_stay_near near says rate texts listed front rest parts slight = near rate (map says front) (nominal_listed rate listed) slight
