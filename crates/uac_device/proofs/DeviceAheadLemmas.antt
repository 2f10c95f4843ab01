-- Whether ticks may wait, interface by interface, and what is so of all streams while they do.
use Rattle.std.proofs.Common.{◌≡◌, ◌∙◌, sym, refl, ap, subst, arith, ℕ, suc, ◌<◌, ◌≤◌, ◌==◌, ◌+◌, ◌&&◌, not, nat_le, if◌then◌else◌, Bool, true, false, pos, replicate, List, [], ◌∷◌, Option, Some, None, get_or, is_some, length, take, inl, inr}
use Rattle.std.specs.Prelude.{IfSome}
use Rattle.std.specs.List.{All, list_all}
use Rattle.std.specs.Option.{option_map_or}
use Rattle.std.proofs.lemmas.Bool.{and_parts}
use Rattle.std.proofs.lemmas.Bool.Decides.{leb_tells}
use Rattle.std.proofs.lemmas.List.{get_or_default, take_all}
use Rattle.std.proofs.lemmas.List.Folds.{list_all-map, list_all_at}
use Rattle.uac_entities.specs.declared.stream.StreamInterface.{StreamInterface}
use Rattle.uac_topology.specs.FunctionKept.{AreNumbered}
use Rattle.uac_ring.specs.Rings.{ring_frames}
use Rattle.uac_flow.specs.FlowStreams.{InStream, OutStream, out_level}
use Rattle.uac_flow.specs.Flows.{ZerosFit}
use Rattle.uac_flow.specs.FlowTicks.{IsHeld, has_room, in_room}
use Rattle.uac_flow.specs.FlowWaits.{Lasts, may_wait}
use Rattle.uac_device.specs.declared.device_stream.DeviceStream.{DeviceStream}
use Rattle.uac_device.specs.declared.device_stream.Flow.TheVariants as flow
use Rattle.uac_device.specs.declared.device_stream.Port.{Port}
use Rattle.uac_device.specs.DeviceWorld.{DeviceWorld, ZerosFitIn, is_on}
use Rattle.uac_device.specs.DeviceTicks.{AreHeld}
use Rattle.uac_device.specs.DeviceWaits.{AreSteady, may_wait_in}
use Rattle.uac_device.specs.DeviceKept.{DeviceFields, DeviceStands, IsDevice}
use Rattle.uac_device.specs.DeviceStreams.{DeviceStreamsStand, device_stream_index, port_of, ports}
use Rattle.uac_device.proofs.DeviceKeptStreamLemmas.{ports_on}
use Rattle.uac_device.proofs.DeviceStreamsChangeLemmas.{port_holds}
use Rattle.uac_device.proofs.DeviceStreamsLemmas.{stream_found}

-- ticks may wait for the streams of an interface, which is on their domain or not
abbrev pub waits : ℕ → Bool → Option OutStream → Option InStream → Bool
waits ticks on out in_ = option_map_or (λ o. on && may_wait ticks o) out true && option_map_or (λ i. on && has_room ticks i) in_ true

-- so it is at a port
abbrev pub waits_at : ℕ → ℕ → (ℕ → Option OutStream) → (ℕ → Option InStream) → Port → Bool
waits_at domain ticks outs ins p = waits ticks (p.domain == domain) (outs p.interface) (ins p.interface)

-- ---- one after the other

-- one port that fails is enough
pub one_fails : (test : Port → Bool) (device_streams : List DeviceStream) (at : ℕ) (l : DeviceStream) → at < length device_streams → l ≡ get_or device_streams at l
    → false ≡ test l.port → false ≡ list_all test (ports device_streams)
one_fails test device_streams at l below read here =
    sym (list_all-map test (λ (m : DeviceStream). m.port) device_streams
    ∙ list_all_at (λ (m : DeviceStream). test m.port) device_streams at l below (ap (λ (m : DeviceStream). test m.port) (sym read) ∙ sym here))

pub all_pass : (test : Port → Bool) (device_streams : List DeviceStream) (at : ℕ) → length device_streams ≤ at
    → list_all (λ (l : DeviceStream). test l.port) (take at device_streams) ≡ true → true ≡ list_all test (ports device_streams)
all_pass test device_streams at past so_far =
    sym (list_all-map test (λ (m : DeviceStream). m.port) device_streams
    ∙ ap (list_all (λ (m : DeviceStream). test m.port)) (sym (take_all at device_streams past))
    ∙ so_far)

-- the ring of a stream from the device holds its frames
abbrev pub HoldsFrames : (ℕ → Option InStream) → DeviceStream → Type 0
HoldsFrames ins l = IfSome (ins l.port.interface) IsHeld

-- so it is for each interface
pub hold_all : (outs : ℕ → Option OutStream) (ins : ℕ → Option InStream) (device_streams : List DeviceStream) (at : ℕ) → length device_streams ≤ at
    → DeviceStreamsStand device_streams outs ins → All (HoldsFrames ins) (take at device_streams) → (interface : ℕ) → IfSome (ins interface) IsHeld
hold_all outs ins device_streams at past keeps so_far interface = by (device_stream_index device_streams interface) refl
  where
    idle : DeviceStream
    idle = record { port = record { interface = 0; terminal = 0; domain = 0; channels = 0; out = false }; ring = []; flow = flow.Idle }

    by : (index : Option ℕ) → device_stream_index device_streams interface ≡ index → IfSome (ins interface) IsHeld
    by None nowhere = subst (λ (i : Option InStream). IfSome i IsHeld) (sym (keeps.none interface nowhere).1) tt
    by (Some index) there =
        let found = stream_found device_streams interface index idle there in
        let all : All (HoldsFrames ins) device_streams = subst (All (HoldsFrames ins)) (take_all at device_streams past) so_far in
        subst (λ (n : ℕ). IfSome (ins n) IsHeld) found.1 (all index idle found.0)

-- ---- by ports

same_all : (f g : Port → Bool) (ps : List Port) → All (λ p. g p ≡ f p) ps → list_all f ps ≡ list_all g ps
same_all f g [] same = refl
same_all f g (p ∷ ps) same =
    ap (λ (b : Bool). b && list_all f ps) (sym (same 0 p (omega arith)))
    ∙ ap (λ (b : Bool). g p && b) (same_all f g ps (λ k d below. same (suc k) d (omega (arith, below))))

-- the ports tell whether the ticks may wait
pub waits_by_ports : (device : DeviceFields) (w : DeviceWorld) (domain ticks : ℕ) → AreNumbered device.function → IsDevice device → DeviceStands device w
    → list_all (waits_at domain ticks w.outs w.ins) (ports device.device_streams) ≡ may_wait_in domain ticks w
unfolding may_wait_in
waits_by_ports device w domain ticks numbered is stands =
    same_all (waits_at domain ticks w.outs w.ins) here (ports device.device_streams)
    (λ k d below.
    (let p = get_or (ports device.device_streams) k d in
    ap (λ (b : Bool). waits ticks b (w.outs p.interface) (w.ins p.interface)) (ports_on device w domain numbered is stands k d below)))
    ∙ ap (list_all here) is.ports
    ∙ list_all-map here (port_of device.function.entities) device.function.streams
    ∙ ap (list_all of_stream) (ap (λ f. f.streams) stands.function)
  where
    here : Port → Bool
    here p = waits ticks (is_on w domain p.interface) (w.outs p.interface) (w.ins p.interface)

    of_stream : StreamInterface → Bool
    of_stream s = waits ticks (is_on w domain s.number) (w.outs s.number) (w.ins s.number)

-- ---- what is so of all streams

within_level : (n level : ℕ) → nat_le n level ≡ true → n ≤ level
within_level n level is = elim (leb_tells n level) [ inl within ↦ within.1 | inr beyond ↦ absurd (let clash : true ≡ false = sym is ∙ beyond.0 in cc) ]

is_kept : (lost : Bool) → not lost ≡ true → lost ≡ false
is_kept false is = refl
is_kept true is = sym is

out_steady : (ticks : ℕ) (on : Bool) (out : Option OutStream) (rest : Bool) → (option_map_or (λ o. on && may_wait ticks o) out true && rest) ≡ true
    → IfSome out (λ o. (on ≡ true) × Lasts ticks o)
out_steady ticks on None rest is = tt
out_steady ticks on (Some o) rest is =
    let parts = and_parts on (may_wait ticks o) (and_parts (on && may_wait ticks o) rest is).0 in
    let more = and_parts (is_some o.target) (not o.lost && (nat_le ticks (out_level o) && nat_le (out_level o) ring_frames)) parts.1 in
    let last = and_parts (not o.lost) (nat_le ticks (out_level o) && nat_le (out_level o) ring_frames) more.1 in
    let levels = and_parts (nat_le ticks (out_level o)) (nat_le (out_level o) ring_frames) last.1 in (
      parts.0,
      record {
        primed = more.0;
        kept = is_kept o.lost last.0;
        level = within_level ticks (out_level o) levels.0;
        within = within_level (out_level o) ring_frames levels.1;
      },
    )

in_steady : (ticks : ℕ) (on : Bool) (in_ : Option InStream) (rest : Bool) → IfSome in_ IsHeld → (rest && option_map_or (λ i. on && has_room ticks i) in_ true) ≡ true
    → IfSome in_ (λ i. (on ≡ true) × IsHeld i × (ticks ≤ in_room i))
in_steady ticks on None rest held is = tt
in_steady ticks on (Some i) rest held is =
    let parts = and_parts on (has_room ticks i) (and_parts rest (on && has_room ticks i) is).1 in
    (parts.0, held, within_level ticks (in_room i) parts.1)

-- where all ports pass, so do the streams of each interface
each_waits : (device : DeviceFields) (w : DeviceWorld) (domain ticks : ℕ) → AreNumbered device.function → IsDevice device → DeviceStands device w
    → list_all (waits_at domain ticks w.outs w.ins) (ports device.device_streams) ≡ true
    → (interface : ℕ) → waits ticks (is_on w domain interface) (w.outs interface) (w.ins interface) ≡ true
each_waits device w domain ticks numbered is stands all interface = by (device_stream_index device.device_streams interface) refl
  where
    idle : DeviceStream
    idle = record { port = record { interface = 0; terminal = 0; domain = 0; channels = 0; out = false }; ring = []; flow = flow.Idle }

    test : DeviceStream → Bool
    test l = waits_at domain ticks w.outs w.ins l.port

    passes : (index : ℕ) → index < length device.device_streams → (b : Bool) → test (get_or device.device_streams index idle) ≡ b
        → test (get_or device.device_streams index idle) ≡ true
    passes index below true is = is
    passes index below false is =
        absurd (let clash : true ≡ false =
        sym all ∙ list_all-map (waits_at domain ticks w.outs w.ins) (λ (m : DeviceStream). m.port) device.device_streams
        ∙ list_all_at test device.device_streams index idle below is in cc)

    by : (index : Option ℕ) → device_stream_index device.device_streams interface ≡ index
        → waits ticks (is_on w domain interface) (w.outs interface) (w.ins interface) ≡ true
    by None nowhere =
        let none = stands.streams.none interface nowhere in
        ap (λ (o : Option OutStream). waits ticks (is_on w domain interface) o (w.ins interface)) none.0
        ∙ ap (λ (i : Option InStream). waits ticks (is_on w domain interface) None i) none.1
    by (Some index) there =
        let found = stream_found device.device_streams interface index idle there in
        let l = get_or device.device_streams index idle in
        let same : is_on w domain l.port.interface ≡ (l.port.domain == domain) =
        port_holds (λ p. is_on w domain p.interface ≡ (p.domain == domain)) device.device_streams l index (ports_on device w domain numbered is stands) found.0
        (get_or_default device.device_streams index idle l found.0) in
        subst (λ (n : ℕ). waits ticks (is_on w domain n) (w.outs n) (w.ins n) ≡ true) found.1
        (ap (λ (b : Bool). waits ticks b (w.outs l.port.interface) (w.ins l.port.interface)) same ∙ passes index found.0 (test l) refl)

pub are_steady : (device : DeviceFields) (w : DeviceWorld) (domain ticks : ℕ) → AreNumbered device.function → IsDevice device → DeviceStands device w → AreHeld w
    → list_all (waits_at domain ticks w.outs w.ins) (ports device.device_streams) ≡ true → AreSteady domain ticks w
are_steady device w domain ticks numbered is stands held all = record {
  outs = λ interface.
      out_steady ticks (is_on w domain interface) (w.outs interface) (option_map_or (λ i. is_on w domain interface && has_room ticks i) (w.ins interface) true)
      (each_waits device w domain ticks numbered is stands all interface);
  ins = λ interface.
      in_steady ticks (is_on w domain interface) (w.ins interface) (option_map_or (λ o. is_on w domain interface && may_wait ticks o) (w.outs interface) true)
      (held interface) (each_waits device w domain ticks numbered is stands all interface);
}

-- ---- zeros for a lost packet

out_fits : (ticks : ℕ) (on : Bool) (out : Option OutStream) → IfSome out (λ o. (on ≡ true) × Lasts ticks o) → IfSome out ZerosFit
out_fits ticks on None steady = tt
out_fits ticks on (Some o) steady = λ due.
    subst (λ (lost : Bool). out_level o + length (if lost then replicate o.ticks (replicate o.stream.channels (pos 0)) else []) ≤ ring_frames) (sym steady.1.kept)
    (omega (arith, steady.1.within))

-- where ticks may wait, none is due
pub steady_zeros : (domain ticks : ℕ) (w : DeviceWorld) → AreSteady domain ticks w → (interface : ℕ) → ZerosFitIn w interface
unfolding ZerosFitIn
steady_zeros domain ticks w steady interface = out_fits ticks (is_on w domain interface) (w.outs interface) (steady.outs interface)
