-- The report of a running device.
use Rattle.std.proofs.Common.{◌≡◌, ◌∙◌, ap, subst, ℕ, Bool, List, [], ◌∷◌, ◌++◌, map, Option, Result}
use Rattle.std.specs.Io.KnownBytes.{Appends}
use Rattle.uac_rate.specs.Steadiness as steadiness
use Rattle.uac_units.specs.Hearing.{Reading}
use Rattle.uac_edges.specs.Writing.{AppendsFront}
use Rattle.uac_transcript.specs.Transcript.{Said, says_meter, says_time, says_renders, says_steady}
use Rattle.uac_transcript.specs.Printing.{Prints, text_of}
use Rattle.uac_transcript.proofs.PrintingLemmas.{Prints-after, front_of_more}
use Rattle.uac_running.specs.RunningWorld.{RunningWorld, is_steady}
use Rattle.uac_running.specs.RunningLines.{report_lines}
use Rattle.uac_running.specs.ReportLines.{domain_line, stream_line}
use Rattle.uac_running.specs.RunningKept.{RunningFields, RunningStands}

-- the first two lines
abbrev pub head_lines : ℕ → Bool → List Said
head_lines time steady = says_time time ∷ says_steady steady ∷ []

-- the other lines
abbrev rest_lines : RunningWorld → List Reading → ℕ → List Said
rest_lines r meters renders =
    map (domain_line r.device) r.device.domains
    ++ (map (stream_line r.device r.met) r.device.function.streams ++ (map says_meter meters ++ says_renders renders ∷ []))

module _ (p : RunningFields) (meters : List Reading) (r : RunningWorld) (stands : RunningStands p meters r) (steady : Bool) (is : steady ≡ steadiness.is_steady r.history) where
  head_is : head_lines p.time steady ≡ head_lines r.time (is_steady r)
  unfolding is_steady
  head_is = ap (λ t. head_lines t steady) stands.time ∙ ap (λ b. head_lines r.time b) is

  pub head_front : (old new : Option (List ℕ)) → AppendsFront old new (text_of (head_lines p.time steady)) → AppendsFront old new (text_of (report_lines r))
  unfolding report_lines
  head_front old new front =
      front_of_more old new (head_lines r.time (is_steady r)) (rest_lines r r.meters r.renders) (subst (λ (lines : List Said). AppendsFront old new (text_of lines)) head_is front)

  pub report_whole : {E : Type 0} (old mid new : Option (List ℕ)) (result : Result (Unit {0}) E) → Appends old mid (text_of (head_lines p.time steady))
      → Prints mid new result (rest_lines r meters p.renders) → Prints old new result (report_lines r)
  unfolding report_lines
  report_whole {E = E} old mid new result head rest =
      Prints-after old mid new result (head_lines r.time (is_steady r)) (rest_lines r r.meters r.renders) (subst (λ (lines : List Said). Appends old mid (text_of lines)) head_is head)
      (subst (λ (n : ℕ). Prints mid new result (rest_lines r r.meters n)) stands.renders
      (subst (λ (ms : List Reading). Prints mid new result (rest_lines r ms p.renders)) stands.meters rest))
