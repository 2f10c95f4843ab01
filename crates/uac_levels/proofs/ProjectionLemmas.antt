-- Devices are ordered at the start, and stay so.
use Rattle.std.proofs.Common.{◌≡◌, ◌∙◌, refl, ap, ℕ, ◌==◌, ◌&&◌, Bool, true, false, if◌then◌else◌, ℤ, List, [], ◌∷◌, map, Option, Some, None}
use Rattle.uac_topology.proofs.FunctionKeptNumberLemmas.{are_numbered}
use Rattle.uac_alt.specs.AltStreams.{StreamFields}
use Rattle.uac_request.specs.Requests.{after_request, request_state, reply_of, sets_interface, is_done_answer}
use Rattle.uac_device.specs.DeviceWorld.{DeviceWorld, Domain, resting_domain, after_control, after_deviation, fresh, after_restart, stream_in_setting}
use Rattle.uac_mixer.specs.declared.link.When.{When}
use Rattle.uac_mixer.specs.declared.link.When.TheVariants as when
use Rattle.uac_streaming.specs.StreamingWorld.{after_following}
use Rattle.uac_streaming.proofs.RoomStartLemmas.{domains_apart}
use Rattle.uac_running.specs.RunningWorld.{streaming_of}
use Rattle.uac_running.specs.RunningTransfers.{acts, holds_setting, after_transfer}
use Rattle.uac_levels.specs.Projection.{DeviationsKeepOrder, IsOrdered, RequestsKeepOrder, StartsAreOrdered, TransfersKeepOrder}

pub resting_clocks : (clocks : List ℕ) → map (λ d. d.id) (map resting_domain clocks) ≡ clocks
resting_clocks [] = refl
resting_clocks (c ∷ cs) = ap (λ (ns : List ℕ). c ∷ ns) (resting_clocks cs)

pub starts_are_ordered : StartsAreOrdered
unfolding fresh
starts_are_ordered function sound = record {
  apart = domains_apart function sound;
  domains = resting_clocks function.domains;
  numbers = (are_numbered function sound).bytes;
}

abbrev pub clocks_of : List Domain → List ℕ
clocks_of ds = map (λ d. d.id) ds

off_clocks : (clock : ℕ) (ppm : ℤ) (ds : List Domain)
    → clocks_of (map {A = Domain} (λ d. if d.id == clock then record d { deviation = ppm } else d) ds) ≡ map (λ d. d.id) ds
off_clocks clock ppm [] = refl
off_clocks clock ppm (d ∷ ds) = by (d.id == clock) (off_clocks clock ppm ds)
  where
    rest : List ℕ
    rest = clocks_of (map {A = Domain} (λ d. if d.id == clock then record d { deviation = ppm } else d) ds)

    by : (b : Bool) → rest ≡ map (λ d. d.id) ds
        → (let d' : Domain = if b then record d { deviation = ppm } else d in d'.id ∷ rest) ≡ d.id ∷ map (λ d. d.id) ds
    by true same = ap (λ (ns : List ℕ). d.id ∷ ns) same
    by false same = ap (λ (ns : List ℕ). d.id ∷ ns) same

pub deviations_keep_order : DeviationsKeepOrder
unfolding after_deviation
deviations_keep_order clock ppm w ordered = record {
  apart = ordered.apart;
  domains = off_clocks clock ppm w.domains ∙ ordered.domains;
  numbers = ordered.numbers;
}

pub requests_keep_order : RequestsKeepOrder
unfolding after_control after_restart
requests_keep_order p bytes w ordered = by (sets_interface p && is_done_answer (reply_of w.function (request_state w.controls w.settings) p bytes))
  where
    begun : Option StreamFields
    begun = stream_in_setting w.function w.controls p.index p.value

    by : (b : Bool)
        → (let after = after_request w.function (request_state w.controls w.settings) p bytes in
        let asked : DeviceWorld = record w { controls = after.controls; settings = after.settings } in
        IsOrdered (if b then after_restart p.index begun asked else asked))
    by true = record { apart = ordered.apart; domains = ordered.domains; numbers = ordered.numbers }
    by false = record { apart = ordered.apart; domains = ordered.domains; numbers = ordered.numbers }

pub transfers_keep_order : TransfersKeepOrder
unfolding after_transfer after_following
transfers_keep_order p bytes r ordered = by (holds_setting p bytes r) r.breaks
  where
    by : (b : Bool) (breaks : Option When)
        → IsOrdered (let s = record (streaming_of r) { device = acts breaks r.device (after_control p bytes r.device) } in
        if b then after_following p.index (stream_in_setting r.device.function r.device.controls p.index p.value) s else s).device
    by true None = requests_keep_order p bytes r.device ordered
    by true (Some when.Before) = ordered
    by true (Some when.After) = requests_keep_order p bytes r.device ordered
    by false None = requests_keep_order p bytes r.device ordered
    by false (Some when.Before) = ordered
    by false (Some when.After) = requests_keep_order p bytes r.device ordered
