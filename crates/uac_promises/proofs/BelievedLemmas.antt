-- Line by line: what the host knows is so after each, and so after all of them.
use Rattle.std.proofs.Common.{◌≡◌, refl, ℕ, List, [], ◌∷◌, length, map, rules, Result, Ok, Err}
use Rattle.uac_descriptor.specs.BlockParsing.{AreBytes}
use Rattle.uac_request.specs.Requests.{setup_of}
use Rattle.uac_device.specs.DeviceWorld.{after_deviation}
use Rattle.uac_mixer.specs.MixerElements.{fits_element}
use Rattle.uac_script.specs.Phrase.{Phrase, nothing_line, bytes_line, go_line, control_line, get_line, set_line, show_line, break_line, append_line, track_line, jack_line, deviate_line, microframes_line, detail_line, report_line}
use Rattle.uac_script.specs.LineParsing.{answer}
use Rattle.uac_running.specs.RunningWorld.{RunningWorld, with_detail, with_deviation, with_samples_on, with_jack_tone, with_track}
use Rattle.uac_running.specs.RunningNames.{are_frames, natural_of_int}
use Rattle.uac_running.specs.Events.{microframes}
use Rattle.uac_running.specs.RunningTransfers.{element_named, read_element, set_element, show_element, transfer, with_break}
use Rattle.uac_fault.specs.declared.fault.BusFault.{BusFault}
use Rattle.uac_rows.specs.BusWorld.{Step, BusWorld, describing, done, refused, running, silently, start, step, step_describing, step_running, step_telling, tone_of, unless}
use Rattle.uac_rows.specs.After.{after, and_then, said_step}
use Rattle.uac_promises.specs.Believed.{KnownValuesAreSo}
use Rattle.uac_promises.proofs.BelievedWorldLemmas.{IsBelieved, IsGood, Keeps, begins_good, is_so}
use Rattle.uac_promises.proofs.BelievedMicroframeLemmas.{microframes_believed}
use Rattle.uac_promises.proofs.BelievedTransferLemmas.{transfers_believed}
use Rattle.uac_promises.proofs.ScriptsStartLemmas.{feeds_bytes}
use Rattle.uac_promises.proofs.ScriptsEarlierLemmas.{on_element_is, unless_is}
use Rattle.uac_promises.proofs.BelievedStartLemmas.{describing_begins}

-- ---- a line of a running device

refused_keeps : (fault : BusFault) → Keeps (refused fault)
refused_keeps fault = tt

running_keeps : (r : RunningWorld) → IsBelieved r → (phrase : Phrase) → Keeps (step_running r phrase)
unfolding transfer read_element set_element show_element with_break with_samples_on with_track with_jack_tone with_detail with_deviation after_deviation
running_keeps r agree nothing_line = agree
running_keeps r agree (bytes_line more) = tt
running_keeps r agree go_line = tt
running_keeps r agree (control_line setup sent) = transfers_believed (setup_of setup) sent r agree
running_keeps r agree (get_line name) =
    on_element_is Keeps refused_keeps (element_named r name) (λ x. step_telling (read_element x r)) (λ x. transfers_believed _ _ r agree)
running_keeps r agree (set_line name value) =
    on_element_is Keeps refused_keeps (element_named r name) (λ x. unless (fits_element x.kind value) 7 (step_telling (set_element x value r)))
    (λ x. unless_is Keeps refused_keeps (fits_element x.kind value) 7 (step_telling (set_element x value r)) (transfers_believed _ _ r agree))
running_keeps r agree (show_line name) = on_element_is Keeps refused_keeps (element_named r name) (λ x. step_telling (show_element x r)) (λ x. agree)
running_keeps r agree (break_line later) = agree
running_keeps r agree (append_line number samples) =
    unless_is Keeps refused_keeps _ 6
    (unless (are_frames r.device.function (natural_of_int number) (length samples)) 7
    (silently (running (with_samples_on (natural_of_int number) samples r))))
    (unless_is Keeps refused_keeps _ 7 (silently (running (with_samples_on (natural_of_int number) samples r))) agree)
running_keeps r agree (track_line number tone) =
    unless_is Keeps refused_keeps _ 6 (silently (running (with_track (natural_of_int number) (tone_of tone) r))) agree
running_keeps r agree (jack_line terminal tone) =
    unless_is Keeps refused_keeps _ 6 (silently (running (with_jack_tone (natural_of_int terminal) (tone_of tone) r))) agree
running_keeps r agree (deviate_line clock ppm) =
    unless_is Keeps refused_keeps _ 6 (silently (running (with_deviation (natural_of_int clock) ppm r))) agree
running_keeps r agree (microframes_line count marks) =
    unless_is Keeps refused_keeps _ 6 (step_telling (microframes marks (natural_of_int count) r)) (microframes_believed marks (natural_of_int count) r agree)
running_keeps r agree (detail_line level) = agree
running_keeps r agree report_line = agree

-- ---- one line

step_keeps : (phrase : Phrase) (w : BusWorld) → IsGood w → ((more : List ℕ) → phrase ≡ bytes_line more → AreBytes more) → Keeps (step phrase w)
unfolding step
step_keeps phrase (describing bytes meters) good feed =
    begins_good (step_describing bytes meters phrase) (describing_begins bytes meters phrase good feed)
step_keeps phrase (running r) good feed = running_keeps r good phrase

said_keeps : (text : List ℕ) (w : BusWorld) → IsGood w → Keeps (said_step (answer text) w)
said_keeps text w good = by (answer text) refl
  where
    by : (said : Result Phrase ℕ) → answer text ≡ said → Keeps (said_step said w)
    by (Ok phrase) is = step_keeps phrase w good (λ more same. feeds_bytes text more (let all : answer text ≡ Ok (bytes_line more) = cc in all))
    by (Err rule) is = tt

-- ---- lines in a row

lines_keep : (texts : List (List ℕ)) (w : BusWorld) → IsGood w → IsGood (after (map answer texts) w).world
unfolding after
lines_keep [] w good = good
lines_keep (text ∷ texts) w good = by (said_step (answer text) w) (said_keeps text w good) (lines_keep texts)
  where
    by : (s : Step) → Keeps s → ((next : BusWorld) → IsGood next → IsGood (after (map answer texts) next).world)
        → IsGood (and_then s w (after (map answer texts))).world
    by (done next lines) keeps rest = rest next keeps
    by (refused fault) keeps rest = good

pub known_values_are_so : KnownValuesAreSo
known_values_are_so texts shown = is_so (after (map answer texts) (start shown)).world (lines_keep texts (start shown) (λ i. no_bytes i))
  where
    no_bytes : AreBytes []
    no_bytes i = search rules
