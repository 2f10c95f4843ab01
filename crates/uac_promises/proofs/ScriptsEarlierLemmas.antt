-- A line done where what was given is steady after it: it was so before.
use Rattle.std.proofs.Common.{◌≡◌, refl, ℕ, zero, suc, ℤ, length, Bool, true, false, List, Option, None, Some}
use Rattle.uac_rate.specs.Steadiness.{is_steady}
use Rattle.uac_request.specs.Requests.{setup_of}
use Rattle.uac_mixer.specs.MixerElements.{fits_element}
use Rattle.uac_mixer.specs.declared.element.Element.{Element}
use Rattle.uac_script.specs.Phrase.{PhraseMark, Phrase, PhraseTone, nothing_line, bytes_line, go_line, control_line, get_line, set_line, show_line, break_line, append_line, track_line, jack_line, deviate_line, microframes_line, detail_line, report_line}
use Rattle.uac_units.specs.Hearing.{Reading}
use Rattle.uac_running.specs.RunningWorld.{RunningWorld, with_detail, with_deviation, with_samples_on, with_jack_tone, with_track}
use Rattle.uac_running.specs.RunningNames.{are_frames, natural_of_int}
use Rattle.uac_running.specs.Events.{microframe, microframes}
use Rattle.uac_running.specs.RunningTransfers.{element_named, read_element, set_element, show_element, transfer, with_break}
use Rattle.uac_fault.specs.declared.fault.BusFault.{BusFault}
use Rattle.uac_rows.specs.BusWorld.{silently, tone_of, Step, BusWorld, describing, done, on_element, refused, running, step_running, step_telling, unless}
use Rattle.uac_levels.proofs.BandRunEarlierLemmas.{calls_look_back, looks_back}
use Rattle.uac_promises.specs.Scripts.{is_steady_in}

-- ---- a rule that doesn't hold refuses

pub unless_is : (P : Step → Type 0) → ((fault : BusFault) → P (refused fault)) → (b : Bool) (rule : ℕ) (s : Step)
    → P s → P (unless b rule s)
unless_is P fails true rule s is = is
unless_is P fails false rule s is = fails _

pub on_element_is : (P : Step → Type 0) → ((fault : BusFault) → P (refused fault)) → (o : Option Element) (step : Element → Step)
    → ((x : Element) → P (step x)) → P (on_element o step)
on_element_is P fails None step is = fails _
on_element_is P fails (Some x) step is = is x

-- ---- what a running device makes of lines that name something

module _ (r : RunningWorld) where
  abbrev pub reads : Element → Step
  reads x = step_telling (read_element x r)

  abbrev pub set_to : ℤ → Element → Step
  set_to value x = unless (fits_element x.kind value) 7 (step_telling (set_element x value r))

  abbrev pub shown : Element → Step
  shown x = step_telling (show_element x r)

  abbrev pub appended : ℤ → List ℤ → Step
  appended number samples = silently (running (with_samples_on (natural_of_int number) samples r))

  abbrev pub framed : ℤ → List ℤ → Step
  framed number samples = unless (are_frames r.device.function (natural_of_int number) (length samples)) 7 (appended number samples)

  abbrev pub tracked : ℤ → PhraseTone → Step
  tracked number tone = silently (running (with_track (natural_of_int number) (tone_of tone) r))

  abbrev pub toned : ℤ → PhraseTone → Step
  toned terminal tone = silently (running (with_jack_tone (natural_of_int terminal) (tone_of tone) r))

  abbrev pub off : ℤ → ℤ → Step
  off clock ppm = silently (running (with_deviation (natural_of_int clock) ppm r))

  abbrev pub gone_on : ℤ → List PhraseMark → Step
  gone_on count marks = step_telling (microframes marks (natural_of_int count) r)

-- ---- looking back

-- what is steady after a line was so before it
abbrev pub WasSteady : BusWorld → Step → Type 0
WasSteady w (done next lines) = is_steady_in next ≡ true → is_steady_in w ≡ true
WasSteady w (refused fault) = Unit {0}

pub microframes_before : (marks : List PhraseMark) (count : ℕ) (r : RunningWorld) → is_steady (microframes marks count r).world.history ≡ true
    → is_steady r.history ≡ true
unfolding microframes
microframes_before marks zero r h = h
microframes_before marks (suc count) r h = looks_back marks r (microframes_before marks count (microframe marks r).world h)

module _ (r : RunningWorld) where
  abbrev Back : Step → Type 0
  Back = WasSteady (running r)

  no_step : (fault : BusFault) → Back (refused fault)
  no_step fault = tt

  pub running_looks_back : (phrase : Phrase) → Back (step_running r phrase)
  unfolding transfer read_element set_element show_element with_break with_samples_on with_track with_jack_tone with_detail
  running_looks_back nothing_line = λ h. h
  running_looks_back (bytes_line more) = tt
  running_looks_back go_line = tt
  running_looks_back (control_line setup sent) = (calls_look_back r).transfer (setup_of setup) sent
  running_looks_back (get_line name) =
      on_element_is Back no_step (element_named r name) (reads r) (λ x. (calls_look_back r).transfer _ _)
  running_looks_back (set_line name value) =
      on_element_is Back no_step (element_named r name) (set_to r value)
      (λ x. unless_is Back no_step (fits_element x.kind value) 7 (step_telling (set_element x value r))
      ((calls_look_back r).transfer _ _))
  running_looks_back (show_line name) = on_element_is Back no_step (element_named r name) (shown r) (λ x h. h)
  running_looks_back (break_line after) = λ h. h
  running_looks_back (append_line number samples) =
      unless_is Back no_step _ 6 (framed r number samples)
      (unless_is Back no_step _ 7 (appended r number samples) (λ h. h))
  running_looks_back (track_line number tone) = unless_is Back no_step _ 6 (tracked r number tone) (λ h. h)
  running_looks_back (jack_line terminal tone) = unless_is Back no_step _ 6 (toned r terminal tone) (λ h. h)
  running_looks_back (deviate_line clock ppm) =
      unless_is Back no_step _ 6 (off r clock ppm) (λ h. ((calls_look_back r).deviation (natural_of_int clock) ppm h).1)
  running_looks_back (microframes_line count marks) = unless_is Back no_step _ 6 (gone_on r count marks) (microframes_before marks _ r)
  running_looks_back (detail_line level) = λ h. h
  running_looks_back report_line = λ h. h

pub describing_looks_back : (bytes : List ℕ) (meters : List Reading) (s : Step) → WasSteady (describing bytes meters) s
describing_looks_back bytes meters (done next lines) = λ h. refl
describing_looks_back bytes meters (refused fault) = tt
