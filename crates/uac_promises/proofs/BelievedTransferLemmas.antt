-- What the host knows is so after a control transfer, whatever came back of it.
use Rattle.std.proofs.Common.{ℕ, ◌&&◌, Bool, true, false, if◌then◌else◌, List, Option, None, Some, is_some}
use Rattle.uac_alt.specs.AltStreams.{StreamFields}
use Rattle.uac_request.specs.Requests.{RequestState, AnswerFields, after_request, request_state, reply_of, sets_interface, is_done_answer}
use Rattle.uac_request.specs.declared.setup.Setup.{Setup}
use Rattle.uac_device.specs.DeviceWorld.{DeviceWorld, after_control, after_restart, stream_in_setting}
use Rattle.uac_mixer.specs.Agreement.{IsAgreed, StaysAgreed}
use Rattle.uac_mixer.specs.ViewTransfers.{view_after}
use Rattle.uac_mixer.specs.ViewWorld.{ViewWorld}
use Rattle.uac_mixer.specs.declared.link.When.{When}
use Rattle.uac_mixer.specs.declared.link.When.TheVariants as when
use Rattle.uac_mixer.proofs.AgreementLemmas.{stays_known}
use Rattle.uac_mixer.proofs.ViewLinksLemmas.{viewed}
use Rattle.uac_mixer.proofs.AgreementStartLemmas.{stays}
use Rattle.uac_streaming.specs.StreamingWorld.{StreamingWorld, after_following}
use Rattle.uac_running.specs.RunningWorld.{RunningWorld, streaming_of}
use Rattle.uac_running.specs.RunningTransfers.{acts, comes_back, holds_setting, reply_in, after_transfer}
use Rattle.uac_promises.proofs.BelievedWorldLemmas.{Agree, IsBelieved}

-- ---- streams that start or stop change neither

abbrev Of : DeviceWorld → ViewWorld → Type 0
Of w view = Agree w.function w.controls view

follows : (b : Bool) (interface : ℕ) (begun : Option StreamFields) (s : StreamingWorld) (view : ViewWorld) → Of s.device view
    → Of (if b then after_following interface begun s else s).device view
unfolding after_following
follows true interface begun s view agree = agree
follows false interface begun s view agree = agree

restarts : (b : Bool) (interface : ℕ) (begun : Option StreamFields) (w : DeviceWorld) (view : ViewWorld) → Of w view
    → Of (if b then after_restart interface begun w else w) view
unfolding after_restart
restarts true interface begun w view agree = agree
restarts false interface begun w view agree = agree

-- ---- a transfer

module _ (p : Setup) (bytes : List ℕ) (r : RunningWorld) (agree : IsBelieved r) where
  abbrev holds : RequestState
  holds = request_state r.device.controls r.device.settings

  abbrev asked : DeviceWorld
  asked =
      let after = after_request r.device.function holds p bytes in
      record r.device { controls = after.controls; settings = after.settings }

  known : StaysAgreed r.device.function holds p bytes r.view
  known =
      stays_known r.device.function holds p bytes r.view agree.sound agree.store agree.of_function agree.agreed

  abbrev seen : Option AnswerFields → ViewWorld
  seen came = view_after r.device.function.control_interface p bytes came r.view

  rests : (came : Option AnswerFields) → IsAgreed r.device.controls (seen came) → Of r.device (seen came)
  rests came agreed = record {
    sound = agree.sound;
    store = agree.store;
    of_function = viewed r.device.function.control_interface p bytes came r.device.function.entities r.view agree.of_function;
    agreed = agreed;
  }

  acted : (came : Option AnswerFields)
      → IsAgreed (after_request r.device.function holds p bytes).controls (seen came)
      → Of (after_control p bytes r.device) (seen came)
  unfolding after_control
  acted came agreed =
      restarts (sets_interface p && is_done_answer (reply_of r.device.function holds p bytes)) p.index
      (stream_in_setting r.device.function r.device.controls p.index p.value) asked (seen came) (record {
        sound = agree.sound;
        store = stays r.device.function holds p bytes agree.store;
        of_function = viewed r.device.function.control_interface p bytes came r.device.function.entities r.view agree.of_function;
        agreed = agreed;
      })

  by_break : (o : Option When)
      → Of (acts o r.device (after_control p bytes r.device)) (seen (if is_some o then None else Some (reply_in p bytes r)))
  by_break None = acted (Some (reply_in p bytes r)) known.answered
  by_break (Some when.Before) = rests None known.broken_before
  by_break (Some when.After) = acted None known.broken_after

  pub transfers_believed : IsBelieved (after_transfer p bytes r)
  unfolding after_transfer comes_back
  transfers_believed =
      follows (holds_setting p bytes r) p.index (stream_in_setting r.device.function r.device.controls p.index p.value)
      (record (streaming_of r) { device = acts r.breaks r.device (after_control p bytes r.device) }) (seen (comes_back p bytes r))
      (by_break r.breaks)
