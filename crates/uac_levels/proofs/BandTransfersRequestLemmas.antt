-- What a control transfer makes of a run: its request acts alone, or a stream starts anew or stops, or it breaks before the device acts.
use Rattle.std.proofs.Common.{◌≡◌, refl, ℕ, ◌&&◌, not, Bool, true, false, if◌then◌else◌, List, Option, Some, None, is_some}
use Rattle.uac_rate.specs.Steadiness.{SteadyHistory}
use Rattle.uac_rate.specs.Steadiness as steadiness
use Rattle.uac_alt.specs.AltStreams.{StreamFields}
use Rattle.uac_request.specs.Requests.{RequestState, after_request, request_state, reply_of, sets_interface, is_done_answer}
use Rattle.uac_request.specs.declared.setup.Setup.{Setup}
use Rattle.uac_host.specs.HostCalls.{with_stream}
use Rattle.uac_device.specs.DeviceWorld.{DeviceWorld, after_control, after_restart, stream_in_setting}
use Rattle.uac_mixer.specs.declared.link.When.{When}
use Rattle.uac_mixer.specs.declared.link.When.TheVariants as when
use Rattle.uac_mixer.specs.ViewTransfers.{view_after}
use Rattle.uac_mixer.specs.ViewWorld.{ViewWorld}
use Rattle.uac_streaming.specs.StreamingWorld.{after_following, given_at, stream_index}
use Rattle.uac_running.specs.RunningWorld.{RunningWorld, streaming_of, with_streaming}
use Rattle.uac_running.specs.RunningTransfers.{acts, breaks_before, comes_back, after_transfer}

module _ (p : Setup) (bytes : List ℕ) (r : RunningWorld) where
  abbrev pub held : RequestState
  held = request_state r.device.controls r.device.settings

  -- what is held after the request
  abbrev pub after : RequestState
  after = after_request r.device.function held p bytes

  abbrev pub done : Bool
  done = is_done_answer (reply_of r.device.function held p bytes)

  -- the device after a request that acts alone
  abbrev pub asked_device : DeviceWorld
  asked_device = record r.device { controls = after.controls; settings = after.settings }

  -- the stream that begins in the setting that is set, if one does, and what is given after it
  abbrev pub begun : Option StreamFields
  begun = stream_in_setting r.device.function r.device.controls p.index p.value

  abbrev pub given_then : SteadyHistory
  given_then = if is_some begun then given_at (stream_index r.device.function p.index) steadiness.with_restart_given r.history else r.history

  abbrev pub view_then : ViewWorld
  view_then = view_after r.device.function.control_interface p bytes (comes_back p bytes r) r.view

  -- the run where nothing acts, but for what the host sees
  abbrev pub seen : RunningWorld
  seen = record r { view = view_then; breaks = None }

  -- what holds in each case holds after the transfer
  pub transferred_so : (P : RunningWorld → Type 0)
      → ((sets_interface p && done) ≡ true
      → P (record seen { device = after_restart p.index begun asked_device; host = with_stream p.index begun r.host; history = given_then }))
      → ((sets_interface p && done) ≡ false → P (record seen { device = asked_device })) → P seen → P (after_transfer p bytes r)
  unfolding after_transfer after_following after_control after_restart
  transferred_so P restarts alone rests = by r.breaks
    where
      world : Bool → DeviceWorld → RunningWorld
      world b device =
          let s = record (streaming_of r) { device = device } in
          record (with_streaming r (if b then after_following p.index begun s else s)) { view = view_then; breaks = None }

      acted : (b : Bool) → (sets_interface p && done) ≡ b → P (world b (if b then after_restart p.index begun asked_device else asked_device))
      acted true is = restarts is
      acted false is = alone is

      stays : (b : Bool) → P (world (b && false) r.device)
      stays true = rests
      stays false = rests

      by : (o : Option When) → P (world (sets_interface p && (not (breaks_before o) && done)) (acts o r.device (after_control p bytes r.device)))
      by None = acted (sets_interface p && done) refl
      by (Some when.Before) = stays (sets_interface p)
      by (Some when.After) = acted (sets_interface p && done) refl
