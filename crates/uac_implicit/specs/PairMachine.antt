-- A pair as a machine that does a script's lines: what a text makes of its world, by what the text says (profile).
use Rattle.std.specs.Prelude.{◌≡◌, ℕ, true, false, List, ◌++◌, map, Option, None, Some, Result}
use Rattle.std.specs.List.{All}
use Rattle.uac_clock.specs.Nominal.{is_listed}
use Rattle.uac_script.specs.Line.{Says}
use Rattle.uac_script.specs.Phrase.{Phrase}
use Rattle.uac_ends.specs.declared.fault.LineFault.{LineFault}
use Rattle.uac_ends.specs.declared.fault.LineFault.TheVariants as faults
use Rattle.uac_ends.specs.Outcome.{End}
use Rattle.uac_runner.specs.Machine.{Machine, Step, After, after, done, refused}
use Rattle.uac_runner.specs.Transcript.{transcript}
use Rattle.uac_implicit.specs.declared.fault.PairFault.{PairFault}
use Rattle.uac_implicit.specs.declared.fault.PairFault.TheVariants as told
use Rattle.uac_implicit.specs.Following.{PairWorld, pair_start}
use Rattle.uac_implicit.specs.PairLines.{PairSaid, PairStep, PairAfter, pair_done, pair_refused, pair_said_step, pair_spelling, pair_finish, pair_after}
use Rattle.uac_implicit.specs.FollowingBands.{FewStray, IsPromisedPair, SaysSlight, StaysNear, moments_after}

-- a fault of the pair is that of a line
abbrev pub line_fault : PairFault → LineFault
line_fault (told.Script rule) = faults.Script rule
line_fault told.WriteFault = faults.WriteFault

-- a step of the pair is one of a machine
abbrev pub pair_lifted : PairStep → Step PairWorld PairSaid
pair_lifted (pair_done next lines) = done next lines
pair_lifted (pair_refused rule) = refused (faults.Script rule)

-- the machine, by what each text says: it never wants memory
abbrev pub pair_machine : (List ℕ → Result Phrase ℕ) → Machine PairWorld PairSaid
pair_machine says = record {
  step = λ text w. pair_lifted (pair_said_step (says text) w);
  finish = pair_finish;
  wants = λ text w. false;
  spell = pair_spelling;
}

-- Of every front of these lines in which each deviation is slight, and few microframes strayed at every moment, what is promised holds.
abbrev pub EachSlightFront : (List ℕ → Result Phrase ℕ) → ℕ → List (List ℕ) → Type 0
EachSlightFront says rate texts =
    (front rest : List (List ℕ)) → texts ≡ front ++ rest → All SaysSlight (map says front)
    → All FewStray (moments_after (map says front) (pair_start rate)) → IsPromisedPair rate (map says front)

-- Of every front of these lines in which each deviation is slight: the pair is near at the end of each microframe, up to the first at which
-- more than 100 strayed.
abbrev pub EachFrontStaysNear : (List ℕ → Result Phrase ℕ) → ℕ → List (List ℕ) → Type 0
EachFrontStaysNear says rate texts =
    (front rest : List (List ℕ)) → texts ≡ front ++ rest → All SaysSlight (map says front)
    → StaysNear (moments_after (map says front) (pair_start rate))

-- ---- what the laws say of it

abbrev pub pair_lifted_refusal : Option ℕ → Option LineFault
pair_lifted_refusal None = None
pair_lifted_refusal (Some rule) = Some (faults.Script rule)

-- the machine's lines come to this
pub record AreLifted (of_pair : PairAfter) (of_machine : After PairWorld PairSaid) : Type 0 where
  pub lines : of_machine.lines ≡ of_pair.lines
  pub world : of_machine.world ≡ of_pair.world
  pub refusal : of_machine.refusal ≡ pair_lifted_refusal of_pair.refusal

-- lines come to what they say does
abbrev pub PairLinesAreSayings : Type 0
PairLinesAreSayings =
    (says : List ℕ → Result Phrase ℕ) (texts : List (List ℕ)) (w : PairWorld)
    → AreLifted (pair_after (map says texts) w) (after (pair_machine says).step texts w)

-- the table of spellings gives a script one transcript
abbrev pub PairHasOneTranscript : Type 0
PairHasOneTranscript =
    (says says' : List ℕ → Result Phrase ℕ) → ((text : List ℕ) → Says text (says text)) → ((text : List ℕ) → Says text (says' text))
    → (w : PairWorld) (taken : List ℕ) (end : End) → transcript (pair_machine says) w taken end ≡ transcript (pair_machine says') w taken end

-- of every such front of lines what is promised holds, at each of the twelve rates
abbrev pub PairFrontsKeepPromises : Type 0
PairFrontsKeepPromises =
    (says : List ℕ → Result Phrase ℕ) (rate : ℕ) (texts : List (List ℕ)) → is_listed rate ≡ true → EachSlightFront says rate texts

-- and as long as few strayed, it is near
abbrev pub PairFrontsStayNear : Type 0
PairFrontsStayNear =
    (says : List ℕ → Result Phrase ℕ) (rate : ℕ) (texts : List (List ℕ)) → is_listed rate ≡ true → EachFrontStaysNear says rate texts
