-- Line by line: packets bring what was sent, cut, after each, and so after all of them.
use Rattle.std.proofs.Common.{◌≡◌, refl, subst, arith, ℕ, ◌≤◌, true, ℤ, pos, negsuc, w32, FitsSigned, List, [], ◌∷◌, length, map, rules, Result, Ok, Err}
use Rattle.std.specs.Prelude.{int_le}
use Rattle.std.specs.List.{list_all}
use Rattle.std.proofs.lemmas.Bool.{and_parts, leb-true}
use Rattle.std.proofs.lemmas.List.Sums.{AllPass-from_list_all}
use Rattle.uac_descriptor.specs.BlockParsing.{AreBytes}
use Rattle.uac_lines.specs.Ranges.{is_id, is_in_32_bits}
use Rattle.uac_request.specs.Requests.{setup_of}
use Rattle.uac_device.specs.DeviceWorld.{after_deviation}
use Rattle.uac_mixer.specs.MixerElements.{fits_element}
use Rattle.uac_script.specs.Line.{Says}
use Rattle.uac_script.specs.Phrase.{Phrase, nothing_line, bytes_line, go_line, control_line, get_line, set_line, show_line, break_line, append_line, track_line, jack_line, deviate_line, microframes_line, detail_line, report_line, is_in_range}
use Rattle.uac_script.specs.LineParsing.{answer}
use Rattle.uac_script.proofs.LineParsingLemmas.{answer_says}
use Rattle.uac_running.specs.RunningWorld.{RunningWorld, with_detail, with_deviation, with_samples_on, with_jack_tone, with_track}
use Rattle.uac_running.specs.RunningNames.{are_frames, natural_of_int}
use Rattle.uac_running.specs.Events.{microframes}
use Rattle.uac_running.specs.RunningTransfers.{element_named, read_element, set_element, show_element, transfer, with_break}
use Rattle.uac_fault.specs.declared.fault.BusFault.{BusFault}
use Rattle.uac_rows.specs.BusWorld.{Step, BusWorld, describing, done, refused, running, silently, start, step, step_running, step_telling, tone_of, unless}
use Rattle.uac_rows.specs.After.{after, and_then, said_step}
use Rattle.uac_promises.proofs.ScriptsStartLemmas.{describing_is, feeds_bytes}
use Rattle.uac_promises.proofs.ScriptsEarlierLemmas.{on_element_is, unless_is}
use Rattle.uac_promises.specs.CutSamples.{IsCutIn, SamplesAreCut}
use Rattle.uac_promises.proofs.CutGraphLemmas.{Fit}
use Rattle.uac_promises.proofs.CutMicroframeLemmas.{RunIsSampled, microframe_is_cut, microframes_keep}
use Rattle.uac_promises.proofs.CutCallLemmas.{samples_sampled, starts_sampled, track_sampled, transfers_sampled}

-- a descriptor's bytes are bytes, until the device runs
abbrev IsGood : BusWorld → Type 0
IsGood (describing bytes meters) = AreBytes bytes
IsGood (running r) = RunIsSampled r

-- a line keeps a world good
abbrev Keeps : Step → Type 0
Keeps (done next lines) = IsGood next
Keeps (refused fault) = Unit {0}

refused_keeps : (fault : BusFault) → Keeps (refused fault)
refused_keeps fault = tt

-- ---- a line's samples

has_32_bits : (z : ℤ) → is_in_32_bits z ≡ true → FitsSigned w32 z
has_32_bits (pos n) h =
    let less : n ≤ 2147483647 = leb-true n 2147483647 (and_parts (int_le (negsuc 2147483647) (pos n)) (int_le (pos n) (pos 2147483647)) h).1 in
    record { sfits = omega arith }
has_32_bits (negsuc n) h =
    let less : n ≤ 2147483647 = leb-true n 2147483647 (and_parts (int_le (negsuc 2147483647) (negsuc n)) (int_le (negsuc n) (pos 2147483647)) h).0 in
    record { sfits = omega arith }

samples_have : (number : ℤ) (samples : List ℤ) → is_in_range (append_line number samples) ≡ true → Fit samples
samples_have number samples h k d inside =
    let each = AllPass-from_list_all is_in_32_bits samples (and_parts (is_id number) (list_all is_in_32_bits samples) h).1 in
    has_32_bits _ (each k d inside)

-- ---- a line of a running device

running_keeps : (r : RunningWorld) → RunIsSampled r → (phrase : Phrase) → is_in_range phrase ≡ true → Keeps (step_running r phrase)
unfolding transfer read_element set_element show_element with_break with_jack_tone with_detail with_deviation after_deviation
running_keeps r is nothing_line in_range = is
running_keeps r is (bytes_line more) in_range = tt
running_keeps r is go_line in_range = tt
running_keeps r is (control_line setup sent) in_range = transfers_sampled (setup_of setup) sent r is
running_keeps r is (get_line name) in_range =
    on_element_is Keeps refused_keeps (element_named r name) (λ x. step_telling (read_element x r)) (λ x. transfers_sampled _ _ r is)
running_keeps r is (set_line name value) in_range =
    on_element_is Keeps refused_keeps (element_named r name) (λ x. unless (fits_element x.kind value) 7 (step_telling (set_element x value r)))
    (λ x. unless_is Keeps refused_keeps (fits_element x.kind value) 7 (step_telling (set_element x value r)) (transfers_sampled _ _ r is))
running_keeps r is (show_line name) in_range = on_element_is Keeps refused_keeps (element_named r name) (λ x. step_telling (show_element x r)) (λ x. is)
running_keeps r is (break_line later) in_range = is
running_keeps r is (append_line number samples) in_range =
    unless_is Keeps refused_keeps _ 6
    (unless (are_frames r.device.function (natural_of_int number) (length samples)) 7
    (silently (running (with_samples_on (natural_of_int number) samples r))))
    (unless_is Keeps refused_keeps _ 7 (silently (running (with_samples_on (natural_of_int number) samples r)))
    (samples_sampled (natural_of_int number) samples r (samples_have number samples in_range) is))
running_keeps r is (track_line number tone) in_range =
    unless_is Keeps refused_keeps _ 6 (silently (running (with_track (natural_of_int number) (tone_of tone) r)))
    (track_sampled (natural_of_int number) (tone_of tone) r is)
running_keeps r is (jack_line terminal tone) in_range =
    unless_is Keeps refused_keeps _ 6 (silently (running (with_jack_tone (natural_of_int terminal) (tone_of tone) r))) is
running_keeps r is (deviate_line clock ppm) in_range =
    unless_is Keeps refused_keeps _ 6 (silently (running (with_deviation (natural_of_int clock) ppm r)))
    (record {
      host = is.host;
      function = is.function;
      device = record { outs = is.device.outs; ins = is.device.ins; given = is.device.given; played = is.device.played };
    })
running_keeps r is (microframes_line count marks) in_range =
    unless_is Keeps refused_keeps _ 6 (step_telling (microframes marks (natural_of_int count) r)) (microframes_keep marks (natural_of_int count) r is)
running_keeps r is (detail_line level) in_range = is
running_keeps r is report_line in_range = is

-- ---- one line

step_keeps : (phrase : Phrase) (w : BusWorld) → IsGood w → ((more : List ℕ) → phrase ≡ bytes_line more → AreBytes more) → is_in_range phrase ≡ true
    → Keeps (step phrase w)
unfolding step
step_keeps phrase (describing bytes meters) good feed in_range =
    describing_is (λ phrase s. Keeps s) (λ phrase fault. tt) bytes meters (λ are. are) (λ more now are. are)
    (λ function described. starts_sampled bytes function meters described.sound) phrase good feed
step_keeps phrase (running r) good feed in_range = running_keeps r good phrase in_range

said_keeps : (text : List ℕ) (w : BusWorld) → IsGood w → Keeps (said_step (answer text) w)
said_keeps text w good = by (answer text) refl
  where
    by : (said : Result Phrase ℕ) → answer text ≡ said → Keeps (said_step said w)
    by (Ok phrase) is =
        step_keeps phrase w good (λ more same. feeds_bytes text more (let all : answer text ≡ Ok (bytes_line more) = cc in all))
        (subst (Says text) is (answer_says text)).1
    by (Err rule) is = tt

-- ---- lines in a row

lines_keep : (texts : List (List ℕ)) (w : BusWorld) → IsGood w → IsGood (after (map answer texts) w).world
unfolding after
lines_keep [] w good = good
lines_keep (text ∷ texts) w good = by (said_step (answer text) w) (said_keeps text w good) (lines_keep texts)
  where
    by : (s : Step) → Keeps s → ((next : BusWorld) → IsGood next → IsGood (after (map answer texts) next).world)
        → IsGood (and_then s w (after (map answer texts))).world
    by (done next lines) keeps rest = rest next keeps
    by (refused fault) keeps rest = good

is_cut : (w : BusWorld) → IsGood w → IsCutIn w
is_cut (describing bytes meters) good = tt
is_cut (running r) good = λ marks count. microframe_is_cut marks (microframes marks count r).world (microframes_keep marks count r good)

pub samples_are_cut : SamplesAreCut
samples_are_cut texts shown = is_cut (after (map answer texts) (start shown)).world (lines_keep texts (start shown) (λ i. no_bytes i))
  where
    no_bytes : AreBytes []
    no_bytes i = search rules
