-- A generated script from its first line to its last: no line is refused, and what it gave is steady.
use Rattle.std.proofs.Common.{◌≡◌, ◌∙◌, sym, refl, ap, subst, ℕ, zero, suc, ◌+◌, ◌*◌, ◌-◌, ◌/◌, ◌%◌, ◌^◌, ◌<◌, ◌≤◌, ◌==◌, ◌≢◌, if◌then◌else◌, Bool, true, false, ℤ, pos, List, [], ◌∷◌, ◌++◌, codes, Ok, arith}
use Rattle.std.specs.Prelude.{slice_index}
use Rattle.std.specs.List.{AllByRecursion, list_all, list_any}
use Rattle.std.proofs.lemmas.Bool.{eqb-true, eqb-false}
use Rattle.uac_clock.specs.Nominal.{twelve_rates}
use Rattle.uac_pcm.specs.declared.tones.Tone.TheVariants.{Noise}
use Rattle.uac_units.specs.Hearing.{Reading}
use Rattle.uac_topology.specs.Function.{FunctionFields}
use Rattle.uac_request.specs.Requests.{setup_of}
use Rattle.uac_script.specs.Phrase.{PhraseMark, Phrase, control_line, deviate_line, go_line, noise_tone, report_line, microframes_line, track_line}
use Rattle.uac_script.specs.LineParsing.{answer}
use Rattle.uac_transcript.specs.Transcript.{Said}
use Rattle.uac_running.specs.RunningWorld.{RunningWorld, at_start, with_deviation, with_track}
use Rattle.uac_running.specs.RunningNames.{has_domain, has_out, names_stream}
use Rattle.uac_running.specs.Events.{microframes}
use Rattle.uac_running.specs.RunningLines.{ready_line, report_lines}
use Rattle.uac_running.specs.RunningTransfers.{transfer, after_transfer}
use Rattle.uac_rows.specs.BusWorld.{BusWorld, describing, done, finish_of, running, silently, start, step, step_telling}
use Rattle.uac_rows.proofs.BusStepsLemmas.{unless_holds}
use Rattle.uac_promises.specs.Scripts.{after_texts, is_steady_in}
use Rattle.uac_gen.specs.GeneratedDescriptor.{descriptor_of}
use Rattle.uac_gen.specs.Generator.{lines_after_descriptor, deviation_line, draw, feed_lines, generated_lines, group_lines, groups, next_x, rate_line, rest_line, run_line, setting_script_line, tone_line, unpacked_lines, feedback_loss_lines}
use Rattle.uac_gen.specs.GeneratedScript.{script_of}
use Rattle.uac_promises.specs.Generated.{GeneratedScriptsAreDone, GeneratedScriptsAreScripts, GeneratedScriptsAreSteady, IsLineOfScript}
use Rattle.uac_promises.proofs.GeneratedDescriptorLemmas.{all_fed, function_at, gone_is}
use Rattle.uac_promises.proofs.GrammarLemmas.{all_bytes, none_faulty}
use Rattle.uac_promises.proofs.BusWorldLineLemmas.{Reaches, nothing, then_line, then_lines}
use Rattle.uac_promises.proofs.GeneratorLineLemmas.{IsNarrow, IsPrinted, all_few, size_of_few}
use Rattle.uac_promises.proofs.DescriptorStreamLemmas.{the_stream, domains_are, has_its_out, has_one, streams_are, unpacked_placed, feedback_losses_placed}
use Rattle.uac_promises.proofs.GeneratedStreamLemmas.{IsPlaying, all_come, all_lost, goes_off, rate_set, setting_set, some_come, starts, steady_now, tracks_on}
use Rattle.uac_promises.proofs.PhraseLemmas.{at_each, deviation_said, drawn_off, drawn_slight, go_said, no_packet, no_feedback, rate_bytes, rate_said, rate_setup, report_said, setting_said, setting_setup, tone_said, unmarked_said, unpacked_said, feedback_losses_said}

-- a running device of which this holds
abbrev Is : (RunningWorld → Type 0) → BusWorld → Type 0
Is P (describing bytes meters) = ⊥
Is P (running r) = P r

on_running : (P : RunningWorld → Type 0) (ys : List (List ℕ)) (Q : BusWorld → Type 0) → ((r : RunningWorld) → P r → Reaches ys (running r) Q)
    → (v : BusWorld) → Is P v → Reaches ys v Q
on_running P ys Q go (describing bytes meters) is = absurd is
on_running P ys Q go (running r) is = go r is

-- one line, after which this holds
one_line : (text : List ℕ) (phrase : Phrase) (r next : RunningWorld) (lines : List Said) (Q : RunningWorld → Type 0) → answer text ≡ Ok phrase
    → step phrase (running r) ≡ done (running next) lines → Q next → Reaches (text ∷ []) (running r) (Is Q)
one_line text phrase r next lines Q said is holds =
    then_line text [] phrase (running r) (running next) lines (Is Q) said is (nothing (running next) (Is Q) holds)

module _ (function : FunctionFields) (streams : function.streams ≡ the_stream ∷ []) (domains : function.domains ≡ 1 ∷ []) where
  abbrev Plays : ℕ → ℕ → RunningWorld → Type 0
  Plays passed most = IsPlaying function 0 passed most

  -- between two groups
  abbrev Between : BusWorld → Type 0
  Between = Is (Plays 0 0)

  -- after so many times eight microframes without reports
  abbrev AfterEights : ℕ → RunningWorld → Type 0
  AfterEights eights = Plays (0 + 8 * eights) ((0 + 8 * eights) / 8)

  module _ (r : RunningWorld) (same : r.device.function ≡ function) where
    runs_is : (count : ℕ) (marks : List PhraseMark) → list_all (names_stream function) marks ≡ true
        → step (microframes_line (pos count) marks) (running r) ≡ done (running (microframes marks count r).world) (microframes marks count r).lines
    unfolding step
    runs_is count marks placed =
        unless_holds (list_all (names_stream r.device.function) marks) 6 (step_telling (microframes marks count r))
        (ap (λ (f : FunctionFields). list_all (names_stream f) marks) same ∙ placed)

    deviates_is : (ppm : ℤ) → step (deviate_line (pos 1) ppm) (running r) ≡ done (running (with_deviation 1 ppm r)) []
    unfolding step
    deviates_is ppm =
        unless_holds (has_domain r 1) 6 (silently (running (with_deviation 1 ppm r)))
        (ap (λ (f : FunctionFields). list_any (λ d. d == 1) f.domains) same ∙ ap (list_any (λ d. d == 1)) domains)

    tracks_is : (number : ℕ) → step (track_line (pos 1) (noise_tone (pos number))) (running r) ≡ done (running (with_track 1 (Noise number) r)) []
    unfolding step
    tracks_is number =
        unless_holds (has_out r.device.function 1) 6 (silently (running (with_track 1 (Noise number) r)))
        (ap (λ (f : FunctionFields). has_out f 1) same ∙ has_its_out function streams)

  of_playing : (passed most : ℕ) (r : RunningWorld) → Plays passed most r → r.device.function ≡ function
  of_playing passed most r is = is.beats.plays.function_is

  -- ---- a group

  feedback_losses : (eights : ℕ) (r : RunningWorld) → eights < 4 → Plays 0 0 r → Reaches (feedback_loss_lines eights) (running r) (Is (AfterEights eights))
  feedback_losses eights r few is = by (eights == 0) refl
    where
      by : (b : Bool) → (eights == 0) ≡ b
          → Reaches (if b then [] else run_line (8 * eights) (codes " f1") ∷ []) (running r) (Is (AfterEights eights))
      by true none =
          nothing (running r) (Is (AfterEights eights)) (subst (λ (n : ℕ). AfterEights n r) (sym (eqb-true eights 0 none)) is)
      by false some =
          let positive : (eights ≡ 0 → ⊥) = eqb-false eights 0 some in
          one_line (run_line (8 * eights) (codes " f1")) (microframes_line (pos (8 * eights)) (no_feedback ∷ [])) r
          (microframes (no_feedback ∷ []) (8 * eights) r).world (microframes (no_feedback ∷ []) (8 * eights) r).lines (AfterEights eights)
          (feedback_losses_said (8 * eights) (omega arith) (omega arith))
          (runs_is r (of_playing 0 0 r is) (8 * eights) (no_feedback ∷ []) (feedback_losses_placed function streams))
          (all_lost function 0 (has_one function streams) (no_feedback ∷ []) (8 * eights) 0 r refl (omega arith) is)

  -- what is left of 32
  last : (count passed most : ℕ) (r : RunningWorld) → 1 ≤ count → count ≤ 32 → (passed + count) % 8 ≡ 0 → Plays passed most r
      → Reaches (run_line count [] ∷ []) (running r) Between
  last zero passed most r some few due is = absurd (omega arith)
  last (suc count) passed most r some few due is =
      one_line (run_line (suc count) []) (microframes_line (pos (suc count)) []) r (microframes [] (suc count) r).world (microframes [] (suc count) r).lines (Plays 0 0)
      (unmarked_said (suc count) some (omega arith)) (runs_is r (of_playing passed most r is) (suc count) [] refl)
      (all_come function 0 (has_one function streams) [] count passed most r refl due is)

  left : (eights : ℕ) (lost : Bool) (r : RunningWorld) → eights < 4 → AfterEights eights r
      → Reaches (unpacked_lines lost ++ rest_line eights lost ∷ []) (running r) Between
  left eights false r few is = last (32 - 8 * eights) (0 + 8 * eights) ((0 + 8 * eights) / 8) r (omega arith) (omega arith) (omega arith) is
  left eights true r few is =
      let next : RunningWorld = (microframes (no_packet ∷ []) 1 r).world in
      then_line (run_line 1 (codes " o1")) (rest_line eights true ∷ []) (microframes_line (pos 1) (no_packet ∷ [])) (running r) (running next)
      (microframes (no_packet ∷ []) 1 r).lines Between (unpacked_said 1 (omega arith) (omega arith))
      (runs_is r (of_playing (0 + 8 * eights) ((0 + 8 * eights) / 8) r is) 1 (no_packet ∷ []) (unpacked_placed function streams))
      (last (31 - 8 * eights) (0 + 8 * eights + 1) ((0 + 8 * eights) / 8) next (omega arith) (omega arith) (omega arith)
      (some_come function 0 (has_one function streams) (no_packet ∷ []) 1 (0 + 8 * eights) ((0 + 8 * eights) / 8) r refl is))

  group : (drawn eights : ℕ) (lost : Bool) (r : RunningWorld) → drawn < 2001 → eights < 4 → Plays 0 0 r
      → Reaches (group_lines drawn eights lost) (running r) Between
  group drawn eights lost r drawn_is few is =
      let off : ℤ = drawn_off drawn in
      let next : RunningWorld = with_deviation 1 off r in
      let rest : List (List ℕ) = unpacked_lines lost ++ rest_line eights lost ∷ [] in
      then_line (deviation_line drawn) (feedback_loss_lines eights ++ rest) (deviate_line (pos 1) off) (running r) (running next) [] Between
      (deviation_said drawn drawn_is) (deviates_is r (of_playing 0 0 r is) off)
      (then_lines rest (Is (AfterEights eights)) Between
      (on_running (AfterEights eights) rest Between (λ v following. left eights lost v few following)) (feedback_loss_lines eights) (running next)
      (feedback_losses eights next few (goes_off function 0 0 0 1 off r (drawn_slight drawn drawn_is) is)))

  all_groups : (count x : ℕ) (r : RunningWorld) → Plays 0 0 r → Reaches (groups count x) (running r) Between
  unfolding groups
  all_groups zero x r is = nothing (running r) Between is
  all_groups (suc count) x r is =
      let first : ℕ = next_x x in
      let second : ℕ = next_x first in
      let third : ℕ = next_x second in
      let lines : List (List ℕ) = group_lines (draw 2001 first) (draw 4 second) (draw 2 third == 1) in
      then_lines (groups count third) Between Between
      (on_running (Plays 0 0) (groups count third) Between (λ v between. all_groups count third v between)) lines (running r)
      (group (draw 2001 first) (draw 4 second) (draw 2 third == 1) r (omega arith) (omega arith) is)

  -- ---- the lines after the descriptor's end

  report : (r : RunningWorld) → Plays 0 0 r → Reaches (codes "q" ∷ []) (running r) Between
  unfolding step
  report r is = one_line (codes "q") report_line r r (report_lines r) (Plays 0 0) report_said refl is

  transfer_is : (setup sent : List ℕ) (r : RunningWorld)
      → step (control_line setup sent) (running r) ≡ done (running (after_transfer (setup_of setup) sent r)) (transfer (setup_of setup) sent r).lines
  unfolding step transfer
  transfer_is setup sent r = refl

  after_end : (number index x : ℕ) (r : RunningWorld) → number < 2 ^ 32 → index < 12 → Plays 0 0 r
      → Reaches (rate_line (slice_index twelve_rates index) ∷ setting_script_line ∷ tone_line number ∷ (groups 250 x ++ codes "q" ∷ [])) (running r) Between
  after_end number index x r below placed is =
      let rated : RunningWorld = after_transfer (setup_of rate_setup) (rate_bytes index) r in
      let set : RunningWorld = after_transfer (setup_of setting_setup) [] rated in
      let toned : RunningWorld = with_track 1 (Noise number) set in
      let rated_is = rate_set function 0 (rate_bytes index) r is in
      let set_is = setting_set function 0 (has_one function streams) rated rated_is in
      let lines : List (List ℕ) = groups 250 x ++ codes "q" ∷ [] in
      then_line (rate_line (slice_index twelve_rates index)) (setting_script_line ∷ tone_line number ∷ lines) (control_line rate_setup (rate_bytes index)) (running r)
      (running rated) (transfer (setup_of rate_setup) (rate_bytes index) r).lines Between (rate_said index placed) (transfer_is rate_setup (rate_bytes index) r)
      (then_line setting_script_line (tone_line number ∷ lines) (control_line setting_setup []) (running rated) (running set)
      (transfer (setup_of setting_setup) [] rated).lines Between setting_said (transfer_is setting_setup [] rated)
      (then_line (tone_line number) lines (track_line (pos 1) (noise_tone (pos number))) (running set) (running toned) [] Between (tone_said number below)
      (tracks_is set (of_playing 0 0 set set_is) number)
      (then_lines (codes "q" ∷ []) Between Between (on_running (Plays 0 0) (codes "q" ∷ []) Between report) (groups 250 x) (running toned)
      (all_groups 250 x toned (tracks_on function 0 0 0 1 (Noise number) set set_is)))))

-- ---- the whole script

-- after it
abbrev Ends : ℕ → BusWorld → Type 0
Ends d = Is (IsPlaying (function_at d) 0 0 0)

whole : (number d index x : ℕ) (shown : List Reading) → number < 2 ^ 32 → d < 30 → index < 12
    → Reaches (feed_lines (descriptor_of (1 + d)) ++ lines_after_descriptor number (slice_index twelve_rates index) x) (start shown) (Ends d)
whole number d index x shown below units placed =
    let bytes : List ℕ = descriptor_of (1 + d) in
    let described : BusWorld = describing bytes shown in
    let lines : List (List ℕ) = lines_after_descriptor number (slice_index twelve_rates index) x in
    let begun : RunningWorld = at_start bytes (function_at d) shown in
    let following : Reaches lines described (Ends d) =
    then_line (codes "g") (rate_line (slice_index twelve_rates index) ∷ setting_script_line ∷ tone_line number ∷ (groups 250 x ++ codes "q" ∷ [])) go_line described (running begun) (ready_line (function_at d) ∷ []) (Ends d) go_said (gone_is d shown units)
    (after_end (function_at d) (streams_are d units) (domains_are d units) number index x begun below placed (starts (function_at d) 0 bytes shown)) in
    then_lines lines (λ w. w ≡ described) (Ends d) (λ v same. subst (λ (w : BusWorld). Reaches lines w (Ends d)) (sym same) following) (feed_lines bytes)
    (describing [] shown) (all_fed bytes shown (none_faulty d units) (all_bytes d units) (λ w. w ≡ described) refl)

-- how many units a number draws, less one
abbrev units_of : ℕ → ℕ
units_of number = draw 30 (next_x (next_x number))

pub runs_whole : (number : ℕ) (shown : List Reading) → number < 2 ^ 32 → Reaches (generated_lines number) (start shown) (Ends (units_of number))
unfolding generated_lines
runs_whole number shown below =
    whole number (units_of number) (draw 12 (next_x number)) (next_x (next_x number)) shown below (omega arith) (omega arith)

-- ---- the laws

line_of_script : (text : List ℕ) → IsNarrow text → IsLineOfScript text
line_of_script text is = record {
  short = (let size = is.short in omega arith);
  whole = at_each IsPrinted (λ b. b ≢ 10) text (λ b more same. omega arith) is.printed;
}

lines_of_script : (lines : List (List ℕ)) → AllByRecursion IsNarrow lines → AllByRecursion IsLineOfScript lines
lines_of_script [] narrow = tt
lines_of_script (text ∷ lines) narrow = (line_of_script text narrow.0, lines_of_script lines narrow.1)

pub generated_scripts_are_scripts : GeneratedScriptsAreScripts
unfolding script_of
generated_scripts_are_scripts number below =
    let few = all_few number below in
    record {
      lines = lines_of_script (generated_lines number) few.narrow;
      fits = let size = size_of_few 1021 (generated_lines number) few in omega (arith, size);
    }

done_at : (P : RunningWorld → Type 0) (w : BusWorld) → Is P w → finish_of w ≡ Ok tt
done_at P (describing bytes meters) is = absurd is
done_at P (running r) is = refl

pub generated_scripts_are_done : GeneratedScriptsAreDone
generated_scripts_are_done number shown below =
    let reaches = runs_whole number shown below in
    record {
      none_refused = reaches.none_refused;
      ends = done_at (IsPlaying (function_at (units_of number)) 0 0 0) (after_texts (generated_lines number) shown).world reaches.holds;
    }

steady_at : (function : FunctionFields) (w : BusWorld) → Is (IsPlaying function 0 0 0) w → is_steady_in w ≡ true
steady_at function (describing bytes meters) is = absurd is
steady_at function (running r) is = steady_now function 0 0 0 r is

pub generated_scripts_are_steady : GeneratedScriptsAreSteady
generated_scripts_are_steady number shown below =
    steady_at (function_at (units_of number)) (after_texts (generated_lines number) shown).world (runs_whole number shown below).holds
