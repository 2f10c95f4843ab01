-- What a line of a pair is answered.
use Rattle.std.proofs.Common.{◌≡◌, ◌∙◌, refl, ap, sym, subst, ℕ, ◌==◌, Bool, true, false, List, [], ◌∷◌, ◌++◌, map, flat_map, Option, Some, None, Result, Ok, Err, ℤ, pos}
use Rattle.std.specs.Io.KnownBytes.{Appends}
use Rattle.uac_edges.specs.Writing.{AppendsFront, Writes}
use Rattle.uac_edges.proofs.WritingLemmas.{Appends-twice, AppendsFront-after, AppendsFront-longer}
use Rattle.uac_script.specs.Phrase.{Phrase, deviate_line}
use Rattle.uac_transcript.specs.Transcript.{Said, spelling_of}
use Rattle.uac_transcript.specs.Printing.{text_of}
use Rattle.uac_implicit.specs.declared.fault.PairFault.{PairFault}
use Rattle.uac_implicit.specs.declared.fault.PairFault.TheVariants as faults
use Rattle.uac_implicit.specs.Following.{PairWorld}
use Rattle.uac_script.specs.Losses.{is_at}
use Rattle.uac_transcript.proofs.PrintingLemmas.{spelt-mapped}
use Rattle.uac_implicit.specs.PairLines.{PairSaid, printed, pair_spelling, pair_text, PairStep, pair_done, pair_refused, pair_unless, pair_step}
use Rattle.uac_implicit.specs.PairKept.{PairRunFields, PairRunStands, PairFields, PairStands, PairReaches, IsPairCut, PairDoes, PairAnswers}

-- the rule holds, and the step was made, or a write failed in its midst; or the rule is broken
pub reached_by : (b : Bool) (rule : ℕ) (s : PairStep) (Holds : PairWorld → Type 0) (written written' : Option (List ℕ)) → b ≡ true
    → PairReaches s Holds written written' → PairReaches (pair_unless b rule s) Holds written written'
reached_by true rule s Holds written written' e r = r
reached_by false rule s Holds written written' e r = absurd (cc)

pub cut_by : (b : Bool) (rule : ℕ) (s : PairStep) (written written' : Option (List ℕ)) → b ≡ true → IsPairCut s written written'
    → IsPairCut (pair_unless b rule s) written written'
cut_by true rule s written written' e cut = cut
cut_by false rule s written written' e cut = absurd (cc)

pub broken_by : (b : Bool) (rule : ℕ) (s : PairStep) → b ≡ false → pair_unless b rule s ≡ pair_refused rule
broken_by true rule s e = absurd (cc)
broken_by false rule s e = refl

pub number_by : (domain : ℕ) → domain ≡ 1 → is_at (pos domain) 1 ≡ true
number_by domain is = ap (λ (n : ℕ). n == 1) is

-- lines that a run prints, too, have the same text
pub printed_text : (lines : List Said) → pair_text (map printed lines) ≡ text_of lines
unfolding pair_spelling
printed_text lines = spelt-mapped pair_spelling printed lines

pub answers_same : (p q : Phrase) (w : PairWorld) (pair : PairFields) (written written' : Option (List ℕ)) (result : Result (Unit {0}) PairFault)
    → p ≡ q → PairAnswers p w pair written written' result → PairAnswers q w pair written written' result
answers_same p q w pair written written' result same answers =
    subst (λ (said : Phrase). PairAnswers said w pair written written' result) same answers

-- a deviation that was passed on is the line's
pub deviates_said : (domain : ℕ) (passed ppm : ℤ) (p p' : PairRunFields) (result : Result (Unit {0}) PairFault) → passed ≡ ppm
    → ((w : PairWorld) (written : Option (List ℕ)) → PairRunStands p w
    → PairDoes (pair_step (deviate_line (pos domain) passed) w) (PairRunStands p') written written result)
    → (w : PairWorld) (written : Option (List ℕ)) → PairRunStands p w
    → PairDoes (pair_step (deviate_line (pos domain) ppm) w) (PairRunStands p') written written result
deviates_said domain passed ppm p p' result same does w written s =
    subst (λ (z : ℤ). PairDoes (pair_step (deviate_line (pos domain) z) w) (PairRunStands p') written written result) same (does w written s)
