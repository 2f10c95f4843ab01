-- A running device under a generated script: what the lines leave of its stream, between groups of microframes and within one.
use Rattle.std.proofs.Common.{◌≡◌, ◌∙◌, sym, refl, ap, subst, ℕ, zero, suc, ◌+◌, ◌/◌, ◌%◌, ◌≤◌, ◌<◌, ◌==◌, ◌&&◌, not, if◌then◌else◌, Bool, true, false, ℤ, List, [], Option, None, Some, arith}
use Rattle.std.specs.Option.{option_and_then, option_map}
use Rattle.uac_rate.specs.Steadiness.{SteadyHistory, is_slight, is_steady, nothing_given, with_restart_given}
use Rattle.uac_rate.specs.Steadiness as steadiness
use Rattle.uac_pcm.specs.declared.tones.Tone.{Tone}
use Rattle.uac_topology.specs.Function.{FunctionFields}
use Rattle.uac_store.specs.declared.keys.Key.{Key}
use Rattle.uac_alt.specs.AltStreams.{StreamFields}
use Rattle.uac_units.specs.Hearing.{Reading}
use Rattle.uac_request.specs.Requests.{after_request, request_state, reply_of, setup_of, is_done_answer}
use Rattle.uac_device.specs.InterfaceStreams.{out_from}
use Rattle.uac_device.specs.DeviceWorld.{DeviceWorld, after_control, after_deviation, fresh, stream_in_setting}
use Rattle.uac_device.specs.DeviceWorld as device
use Rattle.uac_flow.specs.FlowStreams.{OutStream, started_out}
use Rattle.uac_mixer.specs.declared.link.When.{When}
use Rattle.uac_mixer.specs.declared.link.When.TheVariants as when
use Rattle.uac_script.specs.Phrase.{PhraseMark}
use Rattle.uac_streaming.specs.StreamingWorld.{StreamingWorld, after_following, given_at, loses_feedback, numbers, stream_index}
use Rattle.uac_running.specs.RunningWorld.{RunningWorld, at_start, streaming_of, with_deviation, with_track}
use Rattle.uac_running.specs.RunningTransfers.{acts, breaks_before, after_transfer}
use Rattle.uac_running.specs.Events.{microframe, microframes}
use Rattle.uac_streaming.proofs.AmongLemmas.{Among}
use Rattle.uac_promises.proofs.GeneratedBeatLemmas.{Beats, Plays, microframe_beats}
use Rattle.uac_promises.proofs.SteadinessLemmas.{KeepsFeedback, anew_kept, at_most, none_kept, off_kept, steady_of}
use Rattle.uac_promises.proofs.PhraseLemmas.{rate_setup, setting_setup}
use Rattle.uac_promises.proofs.SteadinessBeatLemmas.{Beat, IsWell, beat_of, bound, given_following, next_beat, well_in, well_lost, well_on}

-- of a function: interface 1 is one of those, at this index among them, and a stream that it starts in setting 1 has its reports each
-- eight microframes
pub record HasOne (function : FunctionFields) (index : ℕ) : Type 0 where
  pub among : Among 1 (numbers function)
  pub placed : stream_index function 1 ≡ Some index
  pub eight : (controls : List (Key × ℤ)) (stream : StreamFields) → stream_in_setting function controls 1 1 ≡ Some stream
      → stream.out ≡ true → stream.period ≡ 8

module _ (function : FunctionFields) (index : ℕ) where
  -- a running device of it: interface 1 alone may run a stream to the device, of which so many microframes have passed, but for multiples
  -- of eight, and which lost so many reports at most since one came
  pub record IsPlaying (passed most : ℕ) (r : RunningWorld) : Type 0 where
    pub beat : Option Beat
    pub given : SteadyHistory
    pub beats : Beats function 1 beat given (streaming_of r)
    pub well : IsWell index passed most beat given

  pub steady_now : (passed most : ℕ) (r : RunningWorld) → IsPlaying passed most r → is_steady r.history ≡ true
  steady_now passed most r is =
      subst (λ (g : SteadyHistory). is_steady g ≡ true) (sym is.beats.given_is) (steady_of index (bound most is.beat) is.given is.well.kept)

  -- ---- microframes

  module _ (has : HasOne function index) where
    following : (marks : List PhraseMark) (lost : Bool) (r : RunningWorld) (beat : Option Beat) (given : SteadyHistory) → loses_feedback marks 1 ≡ lost
        → Beats function 1 beat given (streaming_of r)
        → Beats function 1 (option_map next_beat beat) (given_following lost (Some index) (option_map next_beat beat) given) (streaming_of (microframe marks r).world)
    following marks lost r beat given is beats =
        subst (λ (b : Bool). Beats function 1 (option_map next_beat beat) (given_following b (Some index) (option_map next_beat beat) given) (streaming_of (microframe marks r).world)) is
        (subst (λ (o : Option ℕ). Beats function 1 (option_map next_beat beat) (given_following (loses_feedback marks 1) o (option_map next_beat beat) given) (streaming_of (microframe marks r).world)) has.placed
        (microframe_beats function 1 has.among marks r beat given beats))

    -- so many microframes that lose no report, the last of which ends eight, so that a report came
    pub all_come : (marks : List PhraseMark) (count passed most : ℕ) (r : RunningWorld) → loses_feedback marks 1 ≡ false
        → (passed + suc count) % 8 ≡ 0 → IsPlaying passed most r → IsPlaying 0 0 (microframes marks (suc count) r).world
    unfolding microframes
    all_come marks zero passed most r comes due is = record {
      beat = option_map next_beat is.beat;
      given = given_following false (Some index) (option_map next_beat is.beat) is.given;
      beats = following marks false r is.beat is.given comes is.beats;
      well = well_in index passed most is.beat is.given due is.well;
    }
    all_come marks (suc count) passed most r comes due is =
        all_come marks count (passed + 1) most (microframe marks r).world comes (omega arith) (record {
          beat = option_map next_beat is.beat;
          given = given_following false (Some index) (option_map next_beat is.beat) is.given;
          beats = following marks false r is.beat is.given comes is.beats;
          well = well_on index passed most is.beat is.given is.well;
        })

    -- so many that lose no report
    pub some_come : (marks : List PhraseMark) (count passed most : ℕ) (r : RunningWorld) → loses_feedback marks 1 ≡ false
        → IsPlaying passed most r → IsPlaying (passed + count) most (microframes marks count r).world
    unfolding microframes
    some_come marks zero passed most r comes is =
        subst (λ (n : ℕ). IsPlaying n most r) (let same : passed ≡ passed + 0 = omega arith in same) is
    some_come marks (suc count) passed most r comes is =
        subst (λ (n : ℕ). IsPlaying n most (microframes marks (suc count) r).world) (let same : passed + 1 + count ≡ passed + suc count = omega arith in same)
        (some_come marks count (passed + 1) most (microframe marks r).world comes (record {
          beat = option_map next_beat is.beat;
          given = given_following false (Some index) (option_map next_beat is.beat) is.given;
          beats = following marks false r is.beat is.given comes is.beats;
          well = well_on index passed most is.beat is.given is.well;
        }))

    -- so many that lose their reports, of the first 32
    pub all_lost : (marks : List PhraseMark) (count passed : ℕ) (r : RunningWorld) → loses_feedback marks 1 ≡ true → passed + count < 32
        → IsPlaying passed (passed / 8) r → IsPlaying (passed + count) ((passed + count) / 8) (microframes marks count r).world
    unfolding microframes
    all_lost marks zero passed r lost few is =
        subst (λ (n : ℕ). IsPlaying n (n / 8) r) (let same : passed ≡ passed + 0 = omega arith in same) is
    all_lost marks (suc count) passed r lost few is =
        subst (λ (n : ℕ). IsPlaying n (n / 8) (microframes marks (suc count) r).world) (let same : passed + 1 + count ≡ passed + suc count = omega arith in same)
        (all_lost marks count (passed + 1) (microframe marks r).world lost (omega arith) (record {
          beat = option_map next_beat is.beat;
          given = given_following true (Some index) (option_map next_beat is.beat) is.given;
          beats = following marks true r is.beat is.given lost is.beats;
          well = well_lost index passed is.beat is.given (omega arith) is.well;
        }))

  -- ---- between them

  pub starts : (bytes : List ℕ) (shown : List Reading) → IsPlaying 0 0 (at_start bytes function shown)
  unfolding at_start fresh
  starts bytes shown = record {
    beat = None;
    given = nothing_given;
    beats = record { plays = record { function_is = refl; own = refl; others = λ n other. refl }; given_is = refl };
    well = record { timely = tt; kept = none_kept index 0 };
  }

  pub goes_off : (passed most clock : ℕ) (ppm : ℤ) (r : RunningWorld) → is_slight ppm ≡ true → IsPlaying passed most r
      → IsPlaying passed most (with_deviation clock ppm r)
  unfolding with_deviation after_deviation
  goes_off passed most clock ppm r slight is = record {
    beat = is.beat;
    given = steadiness.with_deviation_given ppm is.given;
    beats = record {
      plays = record { function_is = is.beats.plays.function_is; own = is.beats.plays.own; others = is.beats.plays.others };
      given_is = ap (steadiness.with_deviation_given ppm) is.beats.given_is;
    };
    well = record { timely = is.well.timely; kept = off_kept index (bound most is.beat) ppm is.given slight is.well.kept };
  }

  pub tracks_on : (passed most interface : ℕ) (tone : Tone) (r : RunningWorld) → IsPlaying passed most r
      → IsPlaying passed most (with_track interface tone r)
  unfolding with_track
  tracks_on passed most interface tone r is = record {
    beat = is.beat;
    given = is.given;
    beats = record {
      plays = record { function_is = is.beats.plays.function_is; own = is.beats.plays.own; others = is.beats.plays.others };
      given_is = is.beats.given_is;
    };
    well = is.well;
  }

  -- ---- transfers

  -- the rate is set
  pub rate_set : (bytes : List ℕ) (r : RunningWorld) → IsPlaying 0 0 r → IsPlaying 0 0 (after_transfer (setup_of rate_setup) bytes r)
  unfolding after_transfer after_control
  rate_set bytes r is = record {
    beat = is.beat;
    given = is.given;
    beats = record { plays = by r.breaks; given_is = is.beats.given_is };
    well = is.well;
  }
    where
      by : (breaks : Option When) → Plays function 1 is.beat (acts breaks r.device (after_control (setup_of rate_setup) bytes r.device))
      by None = record { function_is = is.beats.plays.function_is; own = is.beats.plays.own; others = is.beats.plays.others }
      by (Some when.Before) = is.beats.plays
      by (Some when.After) = record { function_is = is.beats.plays.function_is; own = is.beats.plays.own; others = is.beats.plays.others }

  -- the setting is set: the device runs a stream from now on, or none
  module _ (has : HasOne function index) (r : RunningWorld) (is : IsPlaying 0 0 r) where
    abbrev begun : Option StreamFields
    begun = stream_in_setting r.device.function r.device.controls 1 1

    -- after the setting the device is this, where it was done, and the streams follow
    abbrev After : StreamingWorld → Type 0
    After w = (beat : Option Beat) × (given : SteadyHistory) × Beats function 1 beat given w × IsWell index 0 0 beat given

    resting : (w : DeviceWorld) → Plays function 1 is.beat w → After (record (streaming_of r) { device = w })
    resting w plays = (is.beat, is.given, record { plays = plays; given_is = is.beats.given_is }, is.well)

    eight_of : (stream : StreamFields) → begun ≡ Some stream → stream.out ≡ true → stream.period ≡ 8
    eight_of stream asked out =
        has.eight r.device.controls stream
        (subst (λ (f : FunctionFields). stream_in_setting f r.device.controls 1 1 ≡ Some stream) is.beats.plays.function_is asked) out

    started : (w : DeviceWorld) → Plays function 1 is.beat w → After (after_following 1 begun (record (streaming_of r) { device = device.after_restart 1 begun w }))
    unfolding device.after_restart after_following
    started w plays = by begun refl
      where
        fresh_given : given_at (stream_index w.function 1) with_restart_given r.history ≡ with_restart_given index is.given
        fresh_given =
            ap (λ (f : FunctionFields). given_at (stream_index f 1) with_restart_given r.history) plays.function_is
            ∙ ap (λ (o : Option ℕ). given_at o with_restart_given r.history) has.placed ∙ ap (with_restart_given index) is.beats.given_is

        anew : KeepsFeedback index 0 (with_restart_given index is.given)
        anew = anew_kept index (bound 0 is.beat) is.given is.well.kept

        kept_now : KeepsFeedback index 0 is.given
        kept_now = at_most index (bound 0 is.beat) 0 is.given (none_bound is.beat) is.well.kept
          where
            none_bound : (b : Option Beat) → bound 0 b ≤ 0
            none_bound None = omega arith
            none_bound (Some b) = omega arith

        others : (o : Option OutStream) (n : ℕ) → (1 == n) ≡ false → (if n == 1 then o else w.outs n) ≡ None
        others o n apart = off (n == 1) refl
          where
            off : (b : Bool) → (n == 1) ≡ b → (if b then o else w.outs n) ≡ None
            off true same = absurd (clash n same apart)
              where
                clash : (n : ℕ) → (n == 1) ≡ true → (1 == n) ≡ false → ⊥
                clash n same apart = grind arith
            off false other = plays.others n apart

        -- the stream goes to the device, or none runs to it
        runs : (stream : StreamFields) → begun ≡ Some stream → (b : Bool) → stream.out ≡ b
            → (beat : Option Beat) × (option_map beat_of (option_and_then out_from (Some stream)) ≡ beat) × IsWell index 0 0 beat (with_restart_given index is.given)
        runs stream asked true out =
            let period : stream.period ≡ 8 = eight_of stream asked out in
            let beat : Beat = record { period = stream.period; microframes = 0 } in
            let begins : option_and_then out_from (Some stream) ≡ Some (started_out stream) = ap (λ (b : Bool). if b then Some (started_out stream) else None) out in
            (Some beat, ap (option_map beat_of) begins, record { timely = (period, refl); kept = anew })
        runs stream asked false out =
            let begins : option_and_then out_from (Some stream) ≡ None = ap (λ (b : Bool). if b then Some (started_out stream) else None) out in
            (None, ap (option_map beat_of) begins, record { timely = tt; kept = anew })

        by : (o : Option StreamFields) → begun ≡ o → After (after_following 1 o (record (streaming_of r) { device = device.after_restart 1 o w }))
        by None asked = (
          None,
          is.given,
          record {
            plays = record { function_is = plays.function_is; own = refl; others = others None };
            given_is = is.beats.given_is;
          },
          record { timely = tt; kept = kept_now },
        )
        by (Some stream) asked =
            let running = runs stream asked stream.out refl in (
              running.0,
              with_restart_given index is.given,
              record {
                plays = record { function_is = plays.function_is; own = running.1; others = others (option_and_then out_from (Some stream)) };
                given_is = fresh_given;
              },
              running.2,
            )

  pub setting_set : (has : HasOne function index) (r : RunningWorld) → IsPlaying 0 0 r → IsPlaying 0 0 (after_transfer (setup_of setting_setup) [] r)
  unfolding after_transfer after_control
  setting_set has r is = of_after _ (by (is_done_answer (reply_of r.device.function (request_state r.device.controls r.device.settings) (setup_of setting_setup) [])) r.breaks) (after_transfer (setup_of setting_setup) [] r) refl
    where
      asked : DeviceWorld
      asked =
          let after = after_request r.device.function (request_state r.device.controls r.device.settings) (setup_of setting_setup) [] in
          record r.device { controls = after.controls; settings = after.settings }

      asked_plays : Plays function 1 is.beat asked
      asked_plays = record { function_is = is.beats.plays.function_is; own = is.beats.plays.own; others = is.beats.plays.others }

      of_after : (w : StreamingWorld) → After has r is w → (v : RunningWorld) → streaming_of v ≡ w → IsPlaying 0 0 v
      of_after w after v same = record {
        beat = after.0;
        given = after.1;
        beats = subst (Beats function 1 after.0 after.1) (sym same) after.2;
        well = after.3;
      }

      by : (done : Bool) (breaks : Option When)
          → (let acted : DeviceWorld = if done then device.after_restart 1 (begun has r is) asked else asked in
          let w : StreamingWorld = record (streaming_of r) { device = acts breaks r.device acted } in
          After has r is (if not (breaks_before breaks) && done then after_following 1 (begun has r is) w else w))
      by true None = started has r is asked asked_plays
      by true (Some when.Before) = resting has r is r.device is.beats.plays
      by true (Some when.After) = started has r is asked asked_plays
      by false None = resting has r is asked asked_plays
      by false (Some when.Before) = resting has r is r.device is.beats.plays
      by false (Some when.After) = resting has r is asked asked_plays
