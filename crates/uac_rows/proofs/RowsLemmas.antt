-- The rows of the running device.
use Rattle.std.proofs.Common.{◌≡◌, ℕ, ℤ, pos, Result, Bool, true, false, List, [], ◌∷◌, map, refl, ap, subst, ◌∙◌, Option, ◌&&◌}
use Rattle.std.specs.Io.KnownBytes.{Appends}
use Rattle.std.specs.List.{list_all}
use Rattle.uac_transcript.specs.Printing.{text_of}
use Rattle.uac_units.specs.Hearing.{Reading}
use Rattle.uac_script.specs.declared.line.Mark.{Mark}
use Rattle.uac_script.specs.Line.{phrase_mark}
use Rattle.uac_script.specs.Phrase.{deviate_line, set_line}
use Rattle.uac_topology.specs.Function.{FunctionFields}
use Rattle.uac_running.specs.RunningWorld.{RunningWorld}
use Rattle.uac_running.specs.RunningNames.{are_frames, has_out, names_stream}
use Rattle.uac_streaming.specs.Telling.{Telling}
use Rattle.uac_running.specs.RunningKept.{RunningFields, RunningStandsBetween}
use Rattle.uac_fault.specs.declared.fault.BusFault.{BusFault}
use Rattle.uac_rows.specs.BusWorld.{BusWorld, Step, step_telling, step_running, unless, breaks_rule}
use Rattle.uac_rows.specs.Rows.{RunsAs}
use Rattle.uac_rows.specs.BusSteps.{Reaches, IsWriteCut, Does}
use Rattle.uac_rows.proofs.BusStepsLemmas.{unless_holds, unless_fails}

-- the rule holds, and the step was made
pub unless_reached : (b : Bool) (rule : ℕ) (s : Step) (Holds : BusWorld → Type 0) (written written' : Option (List ℕ)) → b ≡ true
    → Reaches s Holds written written' → Reaches (unless b rule s) Holds written written'
unless_reached true rule s Holds written written' e r = r
unless_reached false rule s Holds written written' e r = absurd (cc)

-- the rule holds, and a write failed in the middle of the step's lines
pub unless_cut : (b : Bool) (rule : ℕ) (s : Step) (written written' : Option (List ℕ)) → b ≡ true → IsWriteCut s written written'
    → IsWriteCut (unless b rule s) written written'
unless_cut true rule s written written' e cut = cut
unless_cut false rule s written written' e cut = absurd (cc)

-- the rule holds, and what was told was printed
pub told_reached : (b : Bool) (rule : ℕ) (t : Telling RunningWorld) (p : RunningFields) (shown : List Reading) (written written' : Option (List ℕ)) → b ≡ true
    → Appends written written' (text_of t.lines) → RunningStandsBetween p shown t.world
    → Reaches (unless b rule (step_telling t)) (RunsAs p shown) written written'
told_reached true rule t p shown written written' e printed stands = (stands, printed)
told_reached false rule t p shown written written' e printed stands = absurd (cc)

-- a deviation that was passed on is the line's
pub deviates_said : (domain : ℕ) (passed ppm : ℤ) (p p' : RunningFields) (result : Result (Unit {0}) BusFault) → passed ≡ ppm
    → ((shown : List Reading) (r : RunningWorld) (written : Option (List ℕ)) → RunningStandsBetween p shown r
    → Does (step_running r (deviate_line (pos domain) passed)) false (RunsAs p' shown) written written result)
    → (shown : List Reading) (r : RunningWorld) (written : Option (List ℕ)) → RunningStandsBetween p shown r
    → Does (step_running r (deviate_line (pos domain) ppm)) false (RunsAs p' shown) written written result
deviates_said domain passed ppm p p' result same does shown r written s =
    subst (λ (z : ℤ). Does (step_running r (deviate_line (pos domain) z)) false (RunsAs p' shown) written written result) same (does shown r written s)

-- the value that was passed on is the line's
pub sets_said : (name : List ℕ) (kept value : ℤ) (p p' : RunningFields) (written written' : Option (List ℕ)) (result : Result (Unit {0}) BusFault) → kept ≡ value
    → ((shown : List Reading) (r : RunningWorld) → RunningStandsBetween p shown r
    → Does (step_running r (set_line name kept)) false (RunsAs p' shown) written written' result)
    → (shown : List Reading) (r : RunningWorld) → RunningStandsBetween p shown r
    → Does (step_running r (set_line name value)) false (RunsAs p' shown) written written' result
sets_said name kept value p p' written written' result exact does shown r s =
    subst (λ (z : ℤ). Does (step_running r (set_line name z)) false (RunsAs p' shown) written written' result) exact (does shown r s)

-- the second rule is broken
pub append_broken : (b c : Bool) (s : Step) → b ≡ true → c ≡ false → unless b 6 (unless c 7 s) ≡ breaks_rule 7
append_broken b c s h k = unless_holds b 6 (unless c 7 s) h ∙ unless_fails c 7 s k

-- ---- what is said of the kept function holds in the world

placed : (function : FunctionFields) (marks : List Mark)
    → list_all (λ mark. names_stream function (phrase_mark mark)) marks ≡ list_all (names_stream function) (map phrase_mark marks)
placed function [] = refl
placed function (mark ∷ marks) = ap (λ (b : Bool). names_stream function (phrase_mark mark) && b) (placed function marks)

pub has_out_in : (function function' : FunctionFields) (number : ℕ) (b : Bool) → function ≡ function' → b ≡ has_out function number
    → b ≡ has_out function' number
has_out_in function function' number b same e = e ∙ ap (λ (f : FunctionFields). has_out f number) same

pub are_placed_in : (function function' : FunctionFields) (marks : List Mark) (b : Bool) → function ≡ function'
    → b ≡ list_all (λ mark. names_stream function (phrase_mark mark)) marks → b ≡ list_all (names_stream function') (map phrase_mark marks)
are_placed_in function function' marks b same e =
    e ∙ placed function marks ∙ ap (λ (f : FunctionFields). list_all (names_stream f) (map phrase_mark marks)) same

pub are_frames_in : (function function' : FunctionFields) (number count : ℕ) (b : Bool) → function ≡ function' → b ≡ are_frames function number count
    → b ≡ are_frames function' number count
are_frames_in function function' number count b same e = e ∙ ap (λ (f : FunctionFields). are_frames f number count) same
