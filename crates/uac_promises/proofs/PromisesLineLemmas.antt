-- A line done by a good running device, where what was given is steady after it: the device is good after it, and all that the line
-- printed is as promised.
use Rattle.std.proofs.Common.{◌≡◌, refl, ℕ, ℤ, Bool, true, List, [], ◌∷◌, Option, None}
use Rattle.std.specs.List.{All}
use Rattle.std.proofs.lemmas.List.Elements.{All-nil}
use Rattle.uac_pcm.specs.declared.tones.Tone.{Tone}
use Rattle.uac_rate.specs.Steadiness.{is_slight}
use Rattle.uac_request.specs.Requests.{setup_of}
use Rattle.uac_request.specs.declared.setup.Setup.{Setup}
use Rattle.uac_mixer.specs.MixerElements.{fits_element}
use Rattle.uac_script.specs.Phrase.{Phrase, nothing_line, bytes_line, go_line, control_line, get_line, set_line, show_line, break_line, append_line, track_line, jack_line, deviate_line, microframes_line, detail_line, report_line}
use Rattle.uac_transcript.specs.Transcript.{Said, says_answer, says_view}
use Rattle.uac_running.specs.RunningWorld.{RunningWorld, with_detail, with_deviation, with_samples_on, with_jack_tone, with_track}
use Rattle.uac_running.specs.RunningNames.{natural_of_int}
use Rattle.uac_running.specs.RunningLines.{report_lines}
use Rattle.uac_running.specs.RunningTransfers.{element_named, read_element, set_element, show_element, transfer, after_transfer, with_break}
use Rattle.uac_fault.specs.declared.fault.BusFault.{BusFault}
use Rattle.uac_rows.specs.BusWorld.{Step, BusWorld, done, refused, running, step_running, step_telling, tone_of}
use Rattle.uac_levels.proofs.BeginningsLemmas.{calls_keep_bands}
use Rattle.uac_levels.proofs.BandRunEarlierLemmas.{calls_look_back}
use Rattle.uac_levels.proofs.BandTransfersBandLemmas.{transfers_keep_bands}
use Rattle.uac_levels.proofs.BandTransfersRunLemmas.{calls_keep_sound}
use Rattle.uac_levels.proofs.BandTransfersLemmas.{transfers_keep_sound}
use Rattle.uac_levels.specs.Past.{Pasts}
use Rattle.uac_promises.specs.Scripts.{is_steady_in}
use Rattle.uac_promises.proofs.ScriptsEarlierLemmas.{appended, framed, gone_on, off, on_element_is, reads, set_to, shown, toned, tracked, unless_is}
use Rattle.uac_promises.specs.Watches.{Microframes, line_watches, microframes_of}
use Rattle.uac_promises.proofs.PromisesPlainLemmas.{IsPlain, one_plain, plain_lines_kept, report_plain}
use Rattle.uac_promises.proofs.PromisesRunLemmas.{IsGoodIn, IsGoodRun, LawsOfSteps, LeavesKept, microframes_keep}

-- a line that was done leaves a good world and kept all promises, where what was given is steady after it
abbrev pub KeepsAll : Option Microframes → BusWorld → Pasts → Step → Type 0
KeepsAll m w pasts (done next lines) = is_steady_in next ≡ true → LeavesKept next (line_watches m w next lines pasts)
KeepsAll m w pasts (refused fault) = Unit {0}

pub leaves_plain : (w next : BusWorld) (pasts : Pasts) (lines : List Said) → IsGoodIn next pasts → All IsPlain lines
    → LeavesKept next (line_watches None w next lines pasts)
unfolding line_watches
leaves_plain w next pasts lines good plain = record { good = good; kept = plain_lines_kept next pasts lines plain }

module _ (laws : LawsOfSteps) (r : RunningWorld) (pasts : Pasts) (good : IsGoodRun r pasts) where
  -- a line that asks for no microframes
  abbrev Keeps : Step → Type 0
  Keeps = KeepsAll None (running r) pasts

  no_step : (fault : BusFault) → Keeps (refused fault)
  no_step fault = tt

  printing : (lines : List Said) → (next : RunningWorld) → IsGoodRun next pasts → All IsPlain lines
      → LeavesKept (running next) (line_watches None (running r) (running next) lines pasts)
  printing lines next = leaves_plain (running r) (running next) pasts lines

  silent : (next : RunningWorld) → IsGoodRun next pasts → LeavesKept (running next) (line_watches None (running r) (running next) [] pasts)
  silent next goes_on = printing [] next goes_on (All-nil IsPlain)

  transfer_following : (p : Setup) (bytes : List ℕ) → IsGoodRun (after_transfer p bytes r) pasts
  transfer_following p bytes = record {
    band = transfers_keep_bands p bytes r good.band good.sound;
    sound = transfers_keep_sound p bytes r good.sound;
    recorded = laws.transfers_recorded p bytes r good.band good.sound good.recorded;
    trails = laws.transfers_trailed p bytes r pasts good.band good.sound good.trails;
  }

  after_tone : (terminal : ℕ) (tone : Tone) → IsGoodRun (with_jack_tone terminal tone r) pasts
  after_tone terminal tone = record {
    band = (calls_keep_bands r good.band).tone terminal tone;
    sound = (calls_keep_sound r good.sound).tone terminal tone;
    recorded = (laws.calls_recorded r good.recorded).tone terminal tone;
    trails = (laws.calls_trailed r pasts good.trails).tone terminal tone;
  }

  after_detail : (level : ℕ) → IsGoodRun (with_detail level r) pasts
  after_detail level = record {
    band = (calls_keep_bands r good.band).detail level;
    sound = (calls_keep_sound r good.sound).detail level;
    recorded = (laws.calls_recorded r good.recorded).detail level;
    trails = (laws.calls_trailed r pasts good.trails).detail level;
  }

  after_break : (after : Bool) → IsGoodRun (with_break after r) pasts
  after_break after = record {
    band = (calls_keep_bands r good.band).breaks after;
    sound = (calls_keep_sound r good.sound).breaks after;
    recorded = (laws.calls_recorded r good.recorded).breaks after;
    trails = (laws.calls_trailed r pasts good.trails).breaks after;
  }

  after_samples : (interface : ℕ) (samples : List ℤ) → IsGoodRun (with_samples_on interface samples r) pasts
  after_samples interface samples = record {
    band = (calls_keep_bands r good.band).samples interface samples;
    sound = (calls_keep_sound r good.sound).samples interface samples;
    recorded = (laws.calls_recorded r good.recorded).samples interface samples;
    trails = (laws.calls_trailed r pasts good.trails).samples interface samples;
  }

  after_track : (interface : ℕ) (tone : Tone) → IsGoodRun (with_track interface tone r) pasts
  after_track interface tone = record {
    band = (calls_keep_bands r good.band).track interface tone;
    sound = (calls_keep_sound r good.sound).track interface tone;
    recorded = (laws.calls_recorded r good.recorded).track interface tone;
    trails = (laws.calls_trailed r pasts good.trails).track interface tone;
  }

  deviation_following : (clock : ℕ) (ppm : ℤ) → is_slight ppm ≡ true → IsGoodRun (with_deviation clock ppm r) pasts
  deviation_following clock ppm slight = record {
    band = (calls_keep_bands r good.band).deviation clock ppm slight;
    sound = (calls_keep_sound r good.sound).deviation clock ppm slight;
    recorded = (laws.calls_recorded r good.recorded).deviation clock ppm slight;
    trails = (laws.calls_trailed r pasts good.trails).deviation clock ppm;
  }

  pub running_keeps_all : (phrase : Phrase) → KeepsAll (microframes_of phrase) (running r) pasts (step_running r phrase)
  unfolding line_watches transfer read_element set_element show_element
  running_keeps_all nothing_line = λ h. silent r good
  running_keeps_all (bytes_line more) = tt
  running_keeps_all go_line = tt
  running_keeps_all (control_line setup sent) =
      λ h. printing (says_answer _ ∷ []) _ (transfer_following (setup_of setup) sent) (one_plain (says_answer _) refl)
  running_keeps_all (get_line name) =
      on_element_is Keeps no_step (element_named r name) (reads r)
      (λ x h. printing (says_view _ ∷ []) _ (transfer_following _ _) (one_plain (says_view _) refl))
  running_keeps_all (set_line name value) =
      on_element_is Keeps no_step (element_named r name) (set_to r value)
      (λ x. unless_is Keeps no_step (fits_element x.kind value) 7 (step_telling (set_element x value r))
      (λ h. printing (says_view _ ∷ []) _ (transfer_following _ _) (one_plain (says_view _) refl)))
  running_keeps_all (show_line name) =
      on_element_is Keeps no_step (element_named r name) (shown r)
      (λ x h. printing (says_view _ ∷ []) r good (one_plain (says_view _) refl))
  running_keeps_all (break_line after) = λ h. silent _ (after_break after)
  running_keeps_all (append_line number samples) =
      unless_is Keeps no_step _ 6 (framed r number samples)
      (unless_is Keeps no_step _ 7 (appended r number samples) (λ h. silent _ (after_samples (natural_of_int number) samples)))
  running_keeps_all (track_line number tone) =
      unless_is Keeps no_step _ 6 (tracked r number tone) (λ h. silent _ (after_track (natural_of_int number) (tone_of tone)))
  running_keeps_all (jack_line terminal tone) =
      unless_is Keeps no_step _ 6 (toned r terminal tone) (λ h. silent _ (after_tone (natural_of_int terminal) (tone_of tone)))
  running_keeps_all (deviate_line clock ppm) =
      unless_is Keeps no_step _ 6 (off r clock ppm)
      (λ h. silent _ (deviation_following (natural_of_int clock) ppm ((calls_look_back r).deviation (natural_of_int clock) ppm h).0))
  running_keeps_all (microframes_line count marks) =
      unless_is (KeepsAll (microframes_of (microframes_line count marks)) (running r) pasts) (λ fault. tt) _ 6 (gone_on r count marks)
      (microframes_keep laws marks (natural_of_int count) r pasts good)
  running_keeps_all (detail_line level) = λ h. silent _ (after_detail (natural_of_int level))
  running_keeps_all report_line = λ h. printing (report_lines r) r good (report_plain r)
