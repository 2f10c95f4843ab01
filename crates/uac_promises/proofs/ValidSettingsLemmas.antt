-- Event by event, and line by line: every setting in force stays valid.
use Rattle.std.proofs.Common.{◌≡◌, refl, ℕ, zero, suc, ◌&&◌, Bool, true, false, if◌then◌else◌, List, [], ◌∷◌, length, map, rules, Option, None, Some, Result, Ok, Err}
use Rattle.uac_descriptor.specs.BlockParsing.{AreBytes}
use Rattle.uac_topology.specs.Function.{FunctionFields}
use Rattle.uac_topology.specs.Topology.{IsSoundFunction}
use Rattle.uac_store.specs.StoreControls.{IsStoreOf}
use Rattle.uac_alt.specs.AltStreams.{StreamFields}
use Rattle.uac_request.specs.Requests.{AreSettingsOf, AreValidSettings, RequestState, after_request, is_done_answer, reply_of, request_state, setup_of, sets_interface}
use Rattle.uac_request.specs.declared.setup.Setup.{Setup}
use Rattle.uac_request.proofs.RequestsLemmas.{settings_stay, store_stays, valid_at_start, valid_stays}
use Rattle.uac_device.specs.DeviceWorld.{DeviceWorld, after_advance, after_control, after_deviation, after_receiving, after_restart, after_end, after_tick, fresh, set_jack, stream_in_setting}
use Rattle.uac_device.specs.DeviceWorld.{after_sending_in_packet as device_sends}
use Rattle.uac_mixer.specs.MixerElements.{fits_element}
use Rattle.uac_mixer.specs.declared.link.When.{When}
use Rattle.uac_mixer.specs.declared.link.When.TheVariants as when
use Rattle.uac_script.specs.Phrase.{PhraseMark, Phrase, nothing_line, bytes_line, go_line, control_line, get_line, set_line, show_line, break_line, append_line, track_line, jack_line, deviate_line, microframes_line, detail_line, report_line}
use Rattle.uac_script.specs.LineParsing.{answer}
use Rattle.uac_units.specs.Hearing.{Reading}
use Rattle.uac_streaming.specs.StreamingWorld.{StreamingWorld, after_following, packet_fetched, packet_sent_out, feedback_made}
use Rattle.uac_running.specs.RunningWorld.{RunningWorld, at_start, streaming_of, with_detail, with_deviation, with_samples_on, with_jack_tone, with_track}
use Rattle.uac_running.specs.RunningNames.{are_frames, natural_of_int}
use Rattle.uac_running.specs.Events.{microframe, microframes}
use Rattle.uac_running.specs.RunningTransfers.{acts, after_transfer, element_named, holds_setting, read_element, set_element, show_element, transfer, with_break}
use Rattle.uac_fault.specs.declared.fault.BusFault.{BusFault}
use Rattle.uac_rows.specs.BusWorld.{Step, BusWorld, describing, done, refused, running, silently, start, step, step_running, step_telling, tone_of, unless}
use Rattle.uac_rows.specs.After.{after, and_then, said_step}
use Rattle.uac_levels.proofs.BandTransfersStartLemmas.{runs_start_sound}
use Rattle.uac_levels.proofs.RunningWorldKeptLemmas.{IsKeptByEach, microframe_keeps}
use Rattle.uac_promises.proofs.ScriptsStartLemmas.{describing_is, feeds_bytes}
use Rattle.uac_promises.proofs.ScriptsEarlierLemmas.{on_element_is, unless_is}
use Rattle.uac_promises.specs.ValidSettings.{AreValidIn, SettingsStayValid}

-- what a device holds is of its function: a value for each control, and a setting for each interface, each of them valid
record IsHeld (function : FunctionFields) (held : RequestState) : Type 0 where
  store : IsStoreOf function.entities held.controls
  settings : AreSettingsOf function held.settings
  valid : AreValidSettings function held

abbrev HoldsValid : DeviceWorld → Type 0
HoldsValid w = IsHeld w.function (request_state w.controls w.settings)

-- ---- a control transfer

-- streams that start or stop change nothing of it
follows : (b : Bool) (interface : ℕ) (begun : Option StreamFields) (s : StreamingWorld) → HoldsValid s.device
    → HoldsValid (if b then after_following interface begun s else s).device
unfolding after_following
follows true interface begun s is = is
follows false interface begun s is = is

restarts : (b : Bool) (interface : ℕ) (begun : Option StreamFields) (w : DeviceWorld) → HoldsValid w
    → HoldsValid (if b then after_restart interface begun w else w)
unfolding after_restart
restarts true interface begun w is = is
restarts false interface begun w is = is

module _ (p : Setup) (bytes : List ℕ) (r : RunningWorld) (is : HoldsValid r.device) where
  abbrev holds : RequestState
  holds = request_state r.device.controls r.device.settings

  abbrev asked : DeviceWorld
  asked =
      let after = after_request r.device.function holds p bytes in
      record r.device { controls = after.controls; settings = after.settings }

  acted : HoldsValid (after_control p bytes r.device)
  unfolding after_control
  acted =
      restarts (sets_interface p && is_done_answer (reply_of r.device.function holds p bytes)) p.index
      (stream_in_setting r.device.function r.device.controls p.index p.value) asked (record {
        store = store_stays r.device.function holds p bytes is.store;
        settings = settings_stay r.device.function holds p bytes is.settings;
        valid = valid_stays r.device.function holds p bytes is.store is.settings is.valid;
      })

  by_break : (o : Option When) → HoldsValid (acts o r.device (after_control p bytes r.device))
  by_break None = acted
  by_break (Some when.Before) = is
  by_break (Some when.After) = acted

  transfers_hold : HoldsValid (after_transfer p bytes r).device
  unfolding after_transfer
  transfers_hold =
      follows (holds_setting p bytes r) p.index (stream_in_setting r.device.function r.device.controls p.index p.value)
      (record (streaming_of r) { device = acts r.breaks r.device (after_control p bytes r.device) }) (by_break r.breaks)

-- ---- microframes

each_holds : IsKeptByEach (λ w. HoldsValid w.device)
unfolding packet_sent_out after_receiving packet_fetched device_sends after_end feedback_made set_jack after_tick after_advance
each_holds = record {
  sends = λ lost n w is. is;
  fetches = λ lost n w is. is;
  ends = λ n w is. is;
  reports = λ lost value n w is. is;
  jacks = λ terminal frame w is. is;
  ticks = λ c met w is. is;
  goes_on = λ c w is. is;
}

microframes_hold : (marks : List PhraseMark) (count : ℕ) (r : RunningWorld) → HoldsValid r.device
    → HoldsValid (microframes marks count r).world.device
unfolding microframes
microframes_hold marks zero r is = is
microframes_hold marks (suc count) r is =
    microframes_hold marks count (microframe marks r).world (microframe_keeps (λ w. HoldsValid w.device) each_holds marks r is)

-- ---- the start

starts_hold : (bytes : List ℕ) (function : FunctionFields) (meters : List Reading) → IsSoundFunction function
    → HoldsValid (at_start bytes function meters).device
unfolding at_start fresh
starts_hold bytes function meters sound =
    let starts = runs_start_sound bytes function meters sound in
    record { store = starts.store; settings = starts.settings; valid = valid_at_start function (fresh function).controls }

-- ---- one line

-- a descriptor's bytes are bytes, until the device runs
abbrev IsGood : BusWorld → Type 0
IsGood (describing bytes meters) = AreBytes bytes
IsGood (running r) = HoldsValid r.device

-- a line keeps a world good
abbrev Keeps : Step → Type 0
Keeps (done next lines) = IsGood next
Keeps (refused fault) = Unit {0}

refused_keeps : (fault : BusFault) → Keeps (refused fault)
refused_keeps fault = tt

running_keeps : (r : RunningWorld) → HoldsValid r.device → (phrase : Phrase) → Keeps (step_running r phrase)
unfolding transfer read_element set_element show_element with_break with_samples_on with_track with_jack_tone with_detail with_deviation after_deviation
running_keeps r is nothing_line = is
running_keeps r is (bytes_line more) = tt
running_keeps r is go_line = tt
running_keeps r is (control_line setup sent) = transfers_hold (setup_of setup) sent r is
running_keeps r is (get_line name) =
    on_element_is Keeps refused_keeps (element_named r name) (λ x. step_telling (read_element x r)) (λ x. transfers_hold _ _ r is)
running_keeps r is (set_line name value) =
    on_element_is Keeps refused_keeps (element_named r name) (λ x. unless (fits_element x.kind value) 7 (step_telling (set_element x value r)))
    (λ x. unless_is Keeps refused_keeps (fits_element x.kind value) 7 (step_telling (set_element x value r)) (transfers_hold _ _ r is))
running_keeps r is (show_line name) = on_element_is Keeps refused_keeps (element_named r name) (λ x. step_telling (show_element x r)) (λ x. is)
running_keeps r is (break_line later) = is
running_keeps r is (append_line number samples) =
    unless_is Keeps refused_keeps _ 6
    (unless (are_frames r.device.function (natural_of_int number) (length samples)) 7
    (silently (running (with_samples_on (natural_of_int number) samples r))))
    (unless_is Keeps refused_keeps _ 7 (silently (running (with_samples_on (natural_of_int number) samples r))) is)
running_keeps r is (track_line number tone) =
    unless_is Keeps refused_keeps _ 6 (silently (running (with_track (natural_of_int number) (tone_of tone) r))) is
running_keeps r is (jack_line terminal tone) =
    unless_is Keeps refused_keeps _ 6 (silently (running (with_jack_tone (natural_of_int terminal) (tone_of tone) r))) is
running_keeps r is (deviate_line clock ppm) =
    unless_is Keeps refused_keeps _ 6 (silently (running (with_deviation (natural_of_int clock) ppm r))) is
running_keeps r is (microframes_line count marks) =
    unless_is Keeps refused_keeps _ 6 (step_telling (microframes marks (natural_of_int count) r)) (microframes_hold marks (natural_of_int count) r is)
running_keeps r is (detail_line level) = is
running_keeps r is report_line = is

step_keeps : (phrase : Phrase) (w : BusWorld) → IsGood w → ((more : List ℕ) → phrase ≡ bytes_line more → AreBytes more) → Keeps (step phrase w)
unfolding step
step_keeps phrase (describing bytes meters) good feed =
    describing_is (λ phrase s. Keeps s) (λ phrase fault. tt) bytes meters (λ are. are) (λ more now are. are)
    (λ function described. starts_hold bytes function meters described.sound) phrase good feed
step_keeps phrase (running r) good feed = running_keeps r good phrase

said_keeps : (text : List ℕ) (w : BusWorld) → IsGood w → Keeps (said_step (answer text) w)
said_keeps text w good = by (answer text) refl
  where
    by : (said : Result Phrase ℕ) → answer text ≡ said → Keeps (said_step said w)
    by (Ok phrase) is = step_keeps phrase w good (λ more same. feeds_bytes text more (let all : answer text ≡ Ok (bytes_line more) = cc in all))
    by (Err rule) is = tt

-- ---- lines in a row

lines_keep : (texts : List (List ℕ)) (w : BusWorld) → IsGood w → IsGood (after (map answer texts) w).world
unfolding after
lines_keep [] w good = good
lines_keep (text ∷ texts) w good = by (said_step (answer text) w) (said_keeps text w good) (lines_keep texts)
  where
    by : (s : Step) → Keeps s → ((next : BusWorld) → IsGood next → IsGood (after (map answer texts) next).world)
        → IsGood (and_then s w (after (map answer texts))).world
    by (done next lines) keeps rest = rest next keeps
    by (refused fault) keeps rest = good

are_valid : (w : BusWorld) → IsGood w → AreValidIn w
are_valid (describing bytes meters) good = tt
are_valid (running r) good = good.valid

pub settings_stay_valid : SettingsStayValid
settings_stay_valid texts shown = are_valid (after (map answer texts) (start shown)).world (lines_keep texts (start shown) (λ i. no_bytes i))
  where
    no_bytes : AreBytes []
    no_bytes i = search rules
