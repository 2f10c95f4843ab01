-- What a running device stands for where counts run ahead: no tick at all, frames that are gone, and its only domain.
use Rattle.std.proofs.Common.{◌≡◌, sym, subst, arith, refl, ℕ, ◌≤◌, ◌<◌, List, [], ◌∷◌, length, slice_index_or}
use Rattle.uac_units.specs.Hearing.{Reading}
use Rattle.uac_device.specs.DeviceKept as device
use Rattle.uac_device.specs.DeviceTicks.{after_tick_times, readings_after}
use Rattle.uac_device.specs.DeviceWaits.{after_sent}
use Rattle.uac_streaming.specs.StreamingKept as streaming
use Rattle.uac_streaming.specs.StreamingKept.{StreamingFields}
use Rattle.uac_running.specs.RunningWorld.{RunningWorld, streaming_of}
use Rattle.uac_running.specs.RunningKept.{RunningFields, RunningStands}
use Rattle.uac_running.specs.EventTicks.{jacks_after, met_after, renders_after, running_after}
use Rattle.uac_running.proofs.EventsLemmas.{IsBeside, stands_beside, streamed}

-- after no tick the world is as it was
pub no_ticks : (domain count : ℕ) (p : RunningFields) (shown : List Reading) (r : RunningWorld) → count ≡ 0 → RunningStands p shown r
    → RunningStands p shown (running_after domain count r)
unfolding running_after after_tick_times jacks_after met_after readings_after renders_after
no_ticks domain count p shown r zeroth stands =
    subst (λ (n : ℕ). RunningStands p shown (running_after domain n r)) (sym zeroth) stands

-- the device's streams alone are others: frames that were sent are gone
pub sent_gone : (meters : List Reading) (r : RunningWorld) (p q : RunningFields) → RunningStands p meters r → (sent : ℕ → ℕ)
    → device.DeviceStands q.device (after_sent sent r.device) → q.streaming ≡ p.streaming → q.jacks ≡ p.jacks → q.counts ≡ p.counts
    → q.time ≡ p.time → q.detail ≡ p.detail → q.renders ≡ p.renders → IsBeside p q
    → RunningStands q meters (record r { device = after_sent sent r.device })
unfolding after_sent
sent_gone meters r p q stands sent kept same jacks counts time detail renders beside =
    streamed meters r p q stands (record (streaming_of r) { device = after_sent sent r.device })
    (subst (λ (s : StreamingFields). streaming.StreamingStands s q.device (record (streaming_of r) { device = after_sent sent r.device })) (sym same)
    (stands_beside p.streaming p.device q.device (streaming_of r) (after_sent sent r.device) stands.streaming kept refl))
    refl jacks counts time detail renders beside

-- a list of one is its first alone
pub only_one : (ns : List ℕ) → 1 ≤ length ns → length ns < 2 → ns ≡ slice_index_or ns 0 0 ∷ []
only_one [] least below = absurd (omega (arith, least))
only_one (n ∷ []) least below = refl
only_one (n ∷ m ∷ ns) least below = absurd (omega (arith, below))
