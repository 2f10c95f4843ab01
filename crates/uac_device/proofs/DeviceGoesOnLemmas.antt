-- Ticks of a domain that find no ring empty and none full meet nothing.
use Rattle.std.proofs.Common.{◌≡◌, ◌∙◌, sym, refl, ap, subst, arith, ℕ, suc, ◌-◌, ◌<◌, ◌≤◌, ◌&&◌, ◌||◌, ◌==◌, not, Bool, true, false, if◌then◌else◌, ℤ, List, [], ◌∷◌, get_or, length, map, Option, Some, None, inl, inr}
use Rattle.std.specs.Prelude.{IfSome}
use Rattle.std.specs.List.{list_all}
use Rattle.std.specs.Option.{option_map, option_map_or}
use Rattle.std.proofs.lemmas.Bool.{and_parts, ne_eqb}
use Rattle.std.proofs.lemmas.Bool.Decides.{leb_tells}
use Rattle.uac_entities.specs.declared.entity.Entity.{Entity}
use Rattle.uac_entities.specs.declared.stream.StreamInterface.{StreamInterface}
use Rattle.uac_topology.specs.Function.{FunctionFields}
use Rattle.uac_topology.specs.FunctionKept.{AreNumbered}
use Rattle.uac_graph.specs.Meaning.{entity}
use Rattle.uac_flow.specs.FlowStreams.{InStream, OutStream, is_dry, is_full}
use Rattle.uac_flow.specs.FlowTicks.{has_room, in_after_ticks, in_room, is_dry_at, lasts, out_after_ticks}
use Rattle.uac_flow.proofs.FlowTicksLemmas.{in_full, out_dry}
use Rattle.uac_device.specs.declared.device_stream.DeviceStream.{DeviceStream}
use Rattle.uac_device.specs.declared.device_stream.Flow.{Flow}
use Rattle.uac_device.specs.declared.device_stream.Flow.TheVariants as flow
use Rattle.uac_device.specs.declared.device_stream.Port.{Port}
use Rattle.uac_device.specs.declared.ticking.Ticked.{Ticked}
use Rattle.uac_device.specs.InterfaceStreams.{set_of_streams}
use Rattle.uac_device.specs.DeviceWorld.{DeviceWorld, is_on, met_of, played_to}
use Rattle.uac_device.specs.DeviceKept.{DeviceFields, DeviceStands, IsDevice}
use Rattle.uac_device.specs.DeviceStreams.{DeviceStreamsStand, FlowStands, device_stream_index, port_of, ports}
use Rattle.uac_device.specs.DeviceStreamTicks as stream
use Rattle.uac_device.specs.DeviceTicks.{MeetsNothing, after_tones, goes_on, ins_after, outs_after, played_in, world_after}
use Rattle.uac_device.proofs.DeviceKeptStreamLemmas.{own_interface}
use Rattle.uac_device.proofs.DeviceStreamsLemmas.{stream_keeps}
use Rattle.uac_device.proofs.DeviceTicksLemmas.{world_by_parts}

-- ---- by ports

same_all : (entities : List Entity) (f : Port → Bool) (g : StreamInterface → Bool) (streams : List StreamInterface)
    → ((k : ℕ) (d : StreamInterface) → k < length streams → f (port_of entities (get_or streams k d)) ≡ g (get_or streams k d))
    → list_all f (map (port_of entities) streams) ≡ list_all g streams
same_all entities f g [] same = refl
same_all entities f g (s ∷ ss) same =
    ap (λ (b : Bool). b && list_all f (map (port_of entities) ss)) (same 0 s (omega arith))
    ∙ ap (λ (b : Bool). g s && b) (same_all entities f g ss (λ k d below. same (suc k) d (omega (arith, below))))

-- the ports tell whether the ticks go on
pub goes_by_ports : (device : DeviceFields) (w : DeviceWorld) (domain ticks : ℕ) → AreNumbered device.function → IsDevice device → DeviceStands device w
    → list_all (λ p. stream.goes_on domain ticks (w.outs p.interface) (w.ins p.interface) p) (ports device.device_streams) ≡ goes_on domain ticks w
unfolding goes_on
goes_by_ports device w domain ticks numbered is stands =
    ap (list_all (λ (p : Port). stream.goes_on domain ticks (w.outs p.interface) (w.ins p.interface) p))
    (is.ports ∙ ap (λ (f : FunctionFields). map (port_of f.entities) f.streams) stands.function)
    ∙ same_all w.function.entities (λ p. stream.goes_on domain ticks (w.outs p.interface) (w.ins p.interface) p) here w.function.streams
    (λ k d below.
    ap (λ (b : Bool). not b || either (get_or w.function.streams k d)) (on k d below))
  where
    either : StreamInterface → Bool
    either s = option_map_or (lasts ticks) (w.outs s.number) true && option_map_or (has_room ticks) (w.ins s.number) true

    here : StreamInterface → Bool
    here s = not (is_on w domain s.number) || either s

    on : (k : ℕ) (d : StreamInterface) → k < length w.function.streams
        → ((entity w.function.entities (get_or w.function.streams k d).terminal).clock == domain) ≡ is_on w domain (get_or w.function.streams k d).number
    on k d below =
        sym (ap (λ (o : Option StreamInterface). option_map_or (λ s. (entity w.function.entities s.terminal).clock == domain) o false)
        (own_interface w.function k d (subst AreNumbered stands.function numbered) below))

-- ---- one interface

-- of a stream from the device no more frames are gone than were made
abbrev IsMade : Option InStream → Type 0
IsMade in_ = IfSome in_ (λ i. i.gone ≤ length i.made)

made_by : (ring : List (List ℤ)) (f : Flow) (out : Option OutStream) (in_ : Option InStream) → FlowStands ring f out in_ → IsMade in_
made_by ring flow.Idle out in_ keeps = subst IsMade (sym keeps.1) tt
made_by ring (flow.Out f) out in_ keeps = subst IsMade (sym keeps.2) tt
made_by ring (flow.In f) out in_ keeps = subst IsMade (sym keeps.1) keeps.3.held.0

made_in : (device_streams : List DeviceStream) (outs : ℕ → Option OutStream) (ins : ℕ → Option InStream) → DeviceStreamsStand device_streams outs ins
    → (interface : ℕ) → IsMade (ins interface)
made_in device_streams outs ins keeps interface = by (device_stream_index device_streams interface) refl
  where
    idle : DeviceStream
    idle = record { port = record { interface = 0; terminal = 0; domain = 0; channels = 0; out = false }; ring = []; flow = flow.Idle }

    by : (index : Option ℕ) → device_stream_index device_streams interface ≡ index → IsMade (ins interface)
    by None is = subst IsMade (sym (keeps.none interface is).1) tt
    by (Some index) is =
        let l = get_or device_streams index idle in
        made_by l.ring l.flow (outs interface) (ins interface) (stream_keeps device_streams outs ins interface index idle l keeps is refl)

-- where a ring lasts, a tick before its end doesn't find it dry
not_dry : (t ticks : ℕ) (o : OutStream) (target : Option ℕ) → t < ticks → lasts ticks (record o { target = target }) ≡ true
    → is_dry_at t (record o { target = target }) ≡ false
not_dry t ticks o None less lasting = refl
not_dry t ticks o (Some x) less lasting = elim (leb_tells ticks (length o.arrived - o.taken)) [
  | inl within ↦ ne_eqb (length o.arrived - o.taken) t (λ e. omega (arith, within.1, less, e))
  | inr beyond ↦ absurd (let clash : true ≡ false = sym lasting ∙ beyond.0 in cc)
]

out_bit : (on : Bool) (t ticks : ℕ) (out : Option OutStream) (rest : Bool) → t < ticks → (not on || (option_map_or (lasts ticks) out true && rest)) ≡ true
    → (on && option_map_or is_dry (option_map (λ o. if on then out_after_ticks t o else o) out) false) ≡ false
out_bit false t ticks out rest less goes = refl
out_bit true t ticks None rest less goes = refl
out_bit true t ticks (Some o) rest less goes = out_dry t o ∙ not_dry t ticks o o.target less (and_parts (lasts ticks o) rest goes).0

-- and where a ring has room, a tick before its end doesn't find it full
not_full : (frames : ℕ → List ℤ) (t ticks : ℕ) (i : InStream) → t < ticks → i.gone ≤ length i.made → has_room ticks i ≡ true → is_full (in_after_ticks frames t i) ≡ false
not_full frames t ticks i less made room = elim (leb_tells ticks (in_room i)) [
  | inl within ↦
      in_full frames t i (made, omega (arith, within.1, less))
      ∙ elim (leb_tells (in_room i) t) [ inl past ↦ absurd (omega (arith, within.1, less, past.1)) | inr before ↦ before.0 ]
  | inr beyond ↦ absurd (let clash : true ≡ false = sym room ∙ beyond.0 in cc)
]

in_bit : (on : Bool) (frames : ℕ → List ℤ) (t ticks : ℕ) (in_ : Option InStream) (rest : Bool) → t < ticks → IsMade in_
    → (not on || (rest && option_map_or (has_room ticks) in_ true)) ≡ true
    → (on && option_map_or is_full (option_map (λ i. if on then in_after_ticks frames t i else i) in_) false) ≡ false
in_bit false frames t ticks in_ rest less made goes = refl
in_bit true frames t ticks None rest less made goes = refl
in_bit true frames t ticks (Some i) rest less made goes = not_full frames t ticks i less made (and_parts rest (has_room ticks i) goes).1

-- ---- all of them

-- where a test follows for none of them, the set is empty
none_set : (test bit : StreamInterface → Bool) (streams : List StreamInterface) → ((s : StreamInterface) → test s ≡ true → bit s ≡ false) → list_all test streams ≡ true
    → set_of_streams (map bit streams) ≡ 0
unfolding set_of_streams
none_set test bit [] none goes = refl
none_set test bit (s ∷ ss) none goes =
    let parts = and_parts (test s) (list_all test ss) goes in
    let here : bit s ≡ false = none s parts.0 in
    let rest : set_of_streams (map bit ss) ≡ 0 = none_set test bit ss none parts.1 in
    rw here (rw rest refl)

pub meets_nothing : (device : DeviceFields) (w : DeviceWorld) (domain ticks : ℕ) → DeviceStands device w → goes_on domain ticks w ≡ true → MeetsNothing domain ticks w
unfolding goes_on met_of after_tones world_after
meets_nothing device w domain ticks stands goes tones t less =
    ap (λ (v : DeviceWorld). met_of domain (after_tones tones t v)) (world_by_parts domain tones t w)
    ∙ ap (λ (n : ℕ). met n (set_of_streams (map full w.function.streams)))
    (none_set test dry w.function.streams
    (λ s goes.
    out_bit (is_on w domain s.number) t ticks (w.outs s.number) (option_map_or (has_room ticks) (w.ins s.number) true) less goes) goes)
    ∙ ap (λ (n : ℕ). met 0 n)
    (none_set test full w.function.streams
    (λ s goes.
    in_bit (is_on w domain s.number) (λ u. played_to w (played_in domain tones w u) s.number) t ticks (w.ins s.number)
    (option_map_or (lasts ticks) (w.outs s.number) true) less (made_in device.device_streams w.outs w.ins stands.streams s.number) goes)
    goes)
  where
    met : ℕ → ℕ → Ticked
    met under over = record { under = under; over = over }

    test : StreamInterface → Bool
    test s =
        not (is_on w domain s.number) || (option_map_or (lasts ticks) (w.outs s.number) true && option_map_or (has_room ticks) (w.ins s.number) true)

    dry : StreamInterface → Bool
    dry s = is_on w domain s.number && option_map_or is_dry (outs_after domain w t s.number) false

    full : StreamInterface → Bool
    full s = is_on w domain s.number && option_map_or is_full (ins_after domain tones w t s.number) false
