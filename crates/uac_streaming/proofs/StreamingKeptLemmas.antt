-- What is kept after each event stands for the world after it.
use Rattle.std.proofs.Common.{◌≡◌, ◌∙◌, sym, refl, ap, subst, ℕ, Bool, true, false, if◌then◌else◌, List, filter, Option, Some, None, Result, Ok, Err, OnOk}
use Rattle.uac_topology.specs.Function.{FunctionFields}
use Rattle.uac_rate.specs.Steadiness as steadiness
use Rattle.uac_device.specs.DeviceKept as devices
use Rattle.uac_device.specs.DeviceWorld.{DeviceWorld, fresh}
use Rattle.uac_host.specs.HostKept as hosts
use Rattle.uac_host.specs.HostWorld.{HostWorld, fresh_host}
use Rattle.uac_host.specs.HostCalls.{packet_of}
use Rattle.uac_host.specs.declared.host_streams.HostStream.{HostStream}
use Rattle.uac_ring.specs.declared.counts.StreamCounts.{StreamCounts}
use Rattle.uac_streaming.specs.StreamingWorld.{StreamingWorld, comes_in, counted_at, given_at, goes_out, met_in, nothing_met, numbers, numbers_in, numbers_out, packet_to, stream_index, streaming_start}
use Rattle.uac_streaming.specs.StreamingKept.{StreamingFields, StreamingStands}
use Rattle.uac_streaming.proofs.StreamingWorldCountLemmas.{counts_changed, counts_kept}

-- at the start
pub stands_start : (function : FunctionFields) (d : devices.DeviceFields) (host_streams : List HostStream) (order outs ins to_device from_device : List ℕ) (met : List StreamCounts) (steady : steadiness.SteadyFields)
    → devices.DeviceStands d (fresh function) → hosts.HostStands host_streams (fresh_host function) → order ≡ numbers function → outs ≡ filter (goes_out function) order → ins ≡ filter (comes_in function) order
    → met ≡ met_in (λ interface. nothing_met) function
    → steadiness.SteadyStands steady steadiness.nothing_given
    → StreamingStands (record { host = host_streams; order = order; outs = outs; ins = ins; met = met; steady = steady; sent_out_packet = to_device; fetched_packet = from_device }) d (streaming_start function)
unfolding streaming_start fresh fresh_host
stands_start function d host_streams order outs ins to_device from_device met steady of_device of_host ordered to from counts given = record {
  device = of_device;
  host = of_host;
  same = refl;
  order = ordered;
  outs = to ∙ ap (filter (goes_out function)) ordered;
  ins = from ∙ ap (filter (comes_in function)) ordered;
  met = counts;
  steady = given;
}

-- the packet that comes to the device
pub packet_is : (lost : Bool) (interface : ℕ) (w : StreamingWorld) (items : List ℕ) → items ≡ packet_of w.host interface
    → (if lost then None else Some items) ≡ packet_to lost interface w
packet_is true interface w items is = refl
packet_is false interface w items is = ap (λ (b : List ℕ). Some b) is

module _ (p : StreamingFields) (d : devices.DeviceFields) (w : StreamingWorld) (stands : StreamingStands p d w) where
  -- the host alone changes
  pub hosted : (host_streams : List HostStream) (after : HostWorld) → hosts.HostStands host_streams after → after.function ≡ w.host.function
      → StreamingStands (record p { host = host_streams }) d (record w { host = after })
  hosted host_streams after of_host same = record {
    device = stands.device;
    host = of_host;
    same = same ∙ stands.same;
    order = stands.order;
    outs = stands.outs;
    ins = stands.ins;
    met = stands.met;
    steady = stands.steady;
  }

  -- the device and the host change, and the last packets
  pub carried : (after : devices.DeviceFields) (host_streams : List HostStream) (to_device from_device : List ℕ) (device : DeviceWorld) (host : HostWorld) → devices.DeviceStands after device
      → hosts.HostStands host_streams host → device.function ≡ w.device.function → host.function ≡ w.host.function
      → StreamingStands (record p { host = host_streams; sent_out_packet = to_device; fetched_packet = from_device }) after (record w { device = device; host = host })
  carried after host_streams to_device from_device device host of_device of_host device_same host_same = record {
    device = of_device;
    host = of_host;
    same = host_same ∙ stands.same ∙ sym device_same;
    order = stands.order ∙ ap numbers (sym device_same);
    outs = stands.outs ∙ ap numbers_out (sym device_same);
    ins = stands.ins ∙ ap numbers_in (sym device_same);
    met = stands.met ∙ ap (met_in w.met) (sym device_same);
    steady = stands.steady;
  }

  -- what was given alone changes
  pub steadied : (steady : steadiness.SteadyFields) (given : steadiness.SteadyHistory) → steadiness.SteadyStands steady given
      → StreamingStands (record p { steady = steady }) d (record w { history = given })
  steadied steady given kept = record {
    device = stands.device;
    host = stands.host;
    same = stands.same;
    order = stands.order;
    outs = stands.outs;
    ins = stands.ins;
    met = stands.met;
    steady = kept;
  }

  -- what was met alone changes
  pub met_so : (met : ℕ → StreamCounts) (counts : List StreamCounts) → counts ≡ met_in met w.device.function
      → StreamingStands (record p { met = counts }) d (record w { met = met })
  met_so met counts is = record {
    device = stands.device;
    host = stands.host;
    same = stands.same;
    order = stands.order;
    outs = stands.outs;
    ins = stands.ins;
    met = is;
    steady = stands.steady;
  }

-- the counts of an interface change by nothing
pub met_still : (p : StreamingFields) (d : devices.DeviceFields) (w : StreamingWorld) (interface : ℕ) (change : StreamCounts → StreamCounts) → ((c : StreamCounts) → change c ≡ c)
    → StreamingStands p d w → StreamingStands p d (record w { met = counted_at interface change w.met })
met_still p d w interface change same stands =
    met_so p d w stands (counted_at interface change w.met) p.met (stands.met ∙ sym (counts_kept interface w.met change same w.device.function.streams))

-- the counts of an interface change
pub set_so : (p q : StreamingFields) (d : devices.DeviceFields) (w : StreamingWorld) (asked told : FunctionFields) (interface : ℕ) (change : StreamCounts → StreamCounts)
    (was counts : StreamCounts) → StreamingStands p d w → asked ≡ w.device.function → told ≡ w.device.function
    → ((met : ℕ → StreamCounts) (index : ℕ) → p.met ≡ met_in met asked → stream_index asked interface ≡ Some index → was ≡ met interface)
    → ((met : ℕ → StreamCounts) → p.met ≡ met_in met told → q.met ≡ met_in (counted_at interface (λ c. counts) met) told)
    → counts ≡ change was → q ≡ record p { met = q.met }
    → StreamingStands q d (record w { met = counted_at interface change w.met })
set_so p q d w asked told interface change was counts stands of_asked of_told read puts is others =
    let function = w.device.function in
    let own : (index : ℕ) → stream_index function interface ≡ Some index → was ≡ w.met interface = λ index there.
    subst (λ (f : FunctionFields). p.met ≡ met_in w.met f → stream_index f interface ≡ Some index → was ≡ w.met interface) of_asked (read w.met index) stands.met there in
    let put : q.met ≡ met_in (counted_at interface (λ c. counts) w.met) function =
    subst (λ (f : FunctionFields). p.met ≡ met_in w.met f → q.met ≡ met_in (counted_at interface (λ c. counts) w.met) f) of_told (puts w.met) stands.met in
    subst (λ (r : StreamingFields). StreamingStands r d (record w { met = counted_at interface change w.met })) (sym others)
    (met_so p d w stands (counted_at interface change w.met) q.met
    (put ∙ counts_changed function interface w.met change counts (λ index there. is ∙ ap change (own index there))))

-- an event of the reports of an interface, at its index, and of one that there isn't
pub given_there : (f function : FunctionFields) (interface index : ℕ) (event : ℕ → steadiness.SteadyHistory → steadiness.SteadyHistory) (steady : steadiness.SteadyFields)
    (given : steadiness.SteadyHistory) → f ≡ function → Some index ≡ stream_index function interface → steadiness.SteadyStands steady (event index given)
    → steadiness.SteadyStands steady (given_at (stream_index f interface) event given)
given_there f function interface index event steady given same there =
    subst (λ (o : Option ℕ). steadiness.SteadyStands steady (given_at o event given)) (there ∙ ap (λ (g : FunctionFields). stream_index g interface) (sym same))

pub given_nowhere : (f function : FunctionFields) (interface : ℕ) (event : ℕ → steadiness.SteadyHistory → steadiness.SteadyHistory) (steady : steadiness.SteadyFields)
    (given : steadiness.SteadyHistory) → f ≡ function → None ≡ stream_index function interface → steadiness.SteadyStands steady given
    → steadiness.SteadyStands steady (given_at (stream_index f interface) event given)
given_nowhere f function interface event steady given same none =
    subst (λ (o : Option ℕ). steadiness.SteadyStands steady (given_at o event given)) (none ∙ ap (λ (g : FunctionFields). stream_index g interface) (sym same))

-- what follows where a call went well
pub where_ok : {T E P Q : Type 0} (r : Result T E) → (P → Q) → OnOk r P → OnOk r Q
where_ok (Ok x) f holds = f holds
where_ok (Err e) f holds = holds
