-- Microframes leave the host's view as it is, and the device's function and controls.
use Rattle.std.proofs.Common.{◌≡◌, ◌∙◌, refl, ℕ, zero, suc, ◌+◌, List, [], ◌∷◌}
use Rattle.uac_units.specs.Hearing.{at_most_u64}
use Rattle.uac_device.specs.DeviceWorld.{after_advance, next_ticks}
use Rattle.uac_script.specs.Phrase.{PhraseMark}
use Rattle.uac_streaming.specs.StreamingWorld.{in_packets, out_packets}
use Rattle.uac_running.specs.RunningWorld.{RunningWorld, streaming_of, with_streaming}
use Rattle.uac_running.specs.Events.{domain_microframe, domain_microframes, ends_and_feedback, microframe, microframes, packets_and_ticks, tick, tick_times}
use Rattle.uac_levels.proofs.ProjectionKeptLemmas.{microframes_keep_the_rest}
use Rattle.uac_promises.proofs.BelievedWorldLemmas.{IsBelieved, carried}

tick_view : (c : ℕ) (v : RunningWorld) → (tick c v).world.view ≡ v.view
unfolding tick
tick_view c v = refl

ticks_view : (count c : ℕ) (v : RunningWorld) → (tick_times count c v).world.view ≡ v.view
unfolding tick_times
ticks_view zero c v = refl
ticks_view (suc count) c v = ticks_view count c (tick c v).world ∙ tick_view c v

domain_view : (c : ℕ) (v : RunningWorld) → (domain_microframe c v).world.view ≡ v.view
unfolding domain_microframe
domain_view c v = ticks_view (next_ticks c v.device) c (record v { device = after_advance c v.device })

domains_view : (clocks : List ℕ) (v : RunningWorld) → (domain_microframes clocks v).world.view ≡ v.view
unfolding domain_microframes
domains_view [] v = refl
domains_view (c ∷ cs) v = domains_view cs (domain_microframe c v).world ∙ domain_view c v

microframe_view : (marks : List PhraseMark) (r : RunningWorld) → (microframe marks r).world.view ≡ r.view
unfolding microframe packets_and_ticks ends_and_feedback
microframe_view marks r =
    let v : RunningWorld = record r { time = at_most_u64 (r.time + 1) } in
    let sent = with_streaming v (out_packets v.detail marks (streaming_of v)).world in
    let fetched = with_streaming sent (in_packets v.detail marks (streaming_of sent)).world in
    domains_view fetched.device.function.domains fetched

pub microframes_view : (marks : List PhraseMark) (count : ℕ) (r : RunningWorld) → (microframes marks count r).world.view ≡ r.view
unfolding microframes
microframes_view marks zero r = refl
microframes_view marks (suc count) r = microframes_view marks count (microframe marks r).world ∙ microframe_view marks r

pub microframes_believed : (marks : List PhraseMark) (count : ℕ) (r : RunningWorld) → IsBelieved r
    → IsBelieved (microframes marks count r).world
unfolding microframes
microframes_believed marks zero r agree = agree
microframes_believed marks (suc count) r agree =
    let next : RunningWorld = (microframe marks r).world in
    let stays = microframes_keep_the_rest marks r in
    microframes_believed marks count next
    (carried r.device.function next.device.function r.device.controls next.device.controls r.view next.view stays.function stays.controls
    (microframe_view marks r) agree)
