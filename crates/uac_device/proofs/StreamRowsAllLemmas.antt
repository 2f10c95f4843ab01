-- Several ticks at once, interface by interface: what all of them do with rows.
use Rattle.std.proofs.Common.{◌≡◌, ◌∙◌, sym, refl, ap, subst, ℕ, ◌+◌, ◌<◌, ◌≤◌, ◌==◌, ◌&&◌, Bool, true, false, if◌then◌else◌, ℤ, List, [], Option, Some, None, length, get_or, take, unwrap_or}
use Rattle.std.specs.List.{All, list_all}
use Rattle.std.specs.Option.{option_map}
use Rattle.std.proofs.lemmas.List.{get_or_default, take_all}
use Rattle.std.proofs.lemmas.List.Folds.{list_all-map, list_all_at, list_all_more}
use Rattle.uac_graph.specs.Wiring.{Frames, frame_on, samples_on}
use Rattle.uac_flow.specs.FlowStreams.{InStream, OutStream}
use Rattle.uac_flow.specs.FlowTicks.{in_after_ticks, out_after_ticks}
use Rattle.uac_device.specs.declared.device_stream.Flow.{Flow}
use Rattle.uac_device.specs.declared.device_stream.Flow.TheVariants as flow
use Rattle.uac_device.specs.declared.device_stream.Port.{Port}
use Rattle.uac_device.specs.declared.device_stream.DeviceStream.{DeviceStream}
use Rattle.uac_device.specs.InterfaceStreams.{changed_where}
use Rattle.uac_device.specs.DeviceStreams.{IsFlow, IsDeviceStream, FlowStands, DeviceStreamStands, DeviceStreamsStand, frame_given, frame_given_by, gives_to, ports}
use Rattle.uac_device.specs.DeviceStreamTicks.{goes_on, stream_after_on, stream_with_on}
use Rattle.uac_device.proofs.DeviceStreamsChangeLemmas.{IsTurnedTo, changed_as, changed_none, keeps_turned, port_holds}
use Rattle.uac_device.proofs.DeviceStreamsFrameLemmas.{given_more}
use Rattle.uac_device.proofs.StreamRowsLemmas.{ticks_same}

-- ---- whether they go on

-- a device stream with the streams of its interface goes on
abbrev pub goes_on_with : ℕ → ℕ → (ℕ → Option OutStream) → (ℕ → Option InStream) → DeviceStream → Bool
goes_on_with domain ticks outs ins l = goes_on domain ticks (outs l.port.interface) (ins l.port.interface) l.port

pub all_more : (test : DeviceStream → Bool) (device_streams : List DeviceStream) (at : ℕ) (d l : DeviceStream) → at < length device_streams → l ≡ get_or device_streams at d
    → true ≡ test l → list_all test (take at device_streams) ≡ true → list_all test (take (at + 1) device_streams) ≡ true
all_more test device_streams at d l below read here so_far =
    list_all_more test device_streams at d below
    ∙ ap (λ (b : Bool). b && test (get_or device_streams at d)) so_far
    ∙ ap test (sym read)
    ∙ sym here

-- one that doesn't go on is enough
pub not_all : (domain ticks : ℕ) (outs : ℕ → Option OutStream) (ins : ℕ → Option InStream) (device_streams : List DeviceStream) (at : ℕ) (d l : DeviceStream) → at < length device_streams
    → l ≡ get_or device_streams at d → false ≡ goes_on_with domain ticks outs ins l
    → false ≡ list_all (λ p. goes_on domain ticks (outs p.interface) (ins p.interface) p) (ports device_streams)
not_all domain ticks outs ins device_streams at d l below read here =
    sym (list_all-map (λ (p : Port). goes_on domain ticks (outs p.interface) (ins p.interface) p) (λ (m : DeviceStream). m.port) device_streams
    ∙ list_all_at (goes_on_with domain ticks outs ins) device_streams at d below (ap (goes_on_with domain ticks outs ins) (sym read) ∙ sym here))

pub each_one : (domain ticks : ℕ) (outs : ℕ → Option OutStream) (ins : ℕ → Option InStream) (device_streams : List DeviceStream) (at : ℕ) → length device_streams ≤ at
    → list_all (goes_on_with domain ticks outs ins) (take at device_streams) ≡ true
    → true ≡ list_all (λ p. goes_on domain ticks (outs p.interface) (ins p.interface) p) (ports device_streams)
each_one domain ticks outs ins device_streams at past so_far =
    sym (list_all-map (λ (p : Port). goes_on domain ticks (outs p.interface) (ins p.interface) p) (λ (m : DeviceStream). m.port) device_streams
    ∙ ap (list_all (goes_on_with domain ticks outs ins)) (sym (take_all at device_streams past))
    ∙ so_far)

-- ---- the frames that they give

-- where a stream's domain is named by its interface
given_where : (t domain id : ℕ) (on : Bool) (p : Port) (out : Option OutStream) (before : Option (List ℤ)) → on ≡ (p.domain == domain)
    → (if gives_to domain id p then Some (frame_given (option_map (out_after_ticks t) out) p) else before)
    ≡ (if gives_to domain id p then Some (frame_given (option_map (λ o. if on then out_after_ticks t o else o) out) p) else before)
given_where t domain id on p out before same = by p.out (p.domain == domain) (p.terminal == id) same
  where
    by : (a b c : Bool) → on ≡ b
        → (if a && (b && c) then Some (frame_given (option_map (out_after_ticks t) out) p) else before)
        ≡ (if a && (b && c) then Some (frame_given (option_map (λ o. if on then out_after_ticks t o else o) out) p) else before)
    by false b c is = refl
    by true false c is = refl
    by true true false is = refl
    by true true true is = ap (λ (b : Bool). Some (frame_given (option_map (λ (o : OutStream). if b then out_after_ticks t o else o) out) p)) (sym is)

-- the frames on the wires at a tick, after one device stream more
pub rows_more : (t domain : ℕ) (device_streams : List DeviceStream) (at : ℕ) (d l : DeviceStream) (first before after : Frames) (on : ℕ → Bool) (outs : ℕ → Option OutStream)
    (ins : ℕ → Option InStream) (id : ℕ) → at < length device_streams → l ≡ get_or device_streams at d → All (λ p. on p.interface ≡ (p.domain == domain)) (ports device_streams)
    → DeviceStreamsStand device_streams outs ins
    → ((out : Option OutStream) (in_ : Option InStream) → DeviceStreamStands l out in_
    → (id : ℕ) → frame_on after id ≡ (if gives_to domain id l.port then Some (frame_given (option_map (out_after_ticks t) out) l.port) else frame_on before id))
    → frame_on before id ≡ frame_given_by domain id (changed_where on (λ interface. out_after_ticks t) outs) (ports (take at device_streams)) (frame_on first id)
    → frame_on after id ≡ frame_given_by domain id (changed_where on (λ interface. out_after_ticks t) outs) (ports (take (at + 1) device_streams)) (frame_on first id)
rows_more t domain device_streams at d l first before after on outs ins id below read all keeps gives so_far =
    let n = l.port.interface in
    let os : ℕ → Option OutStream = changed_where on (λ interface. out_after_ticks t) outs in
    let far : Option (List ℤ) = frame_given_by domain id os (ports (take at device_streams)) (frame_on first id) in
    let kept : DeviceStreamStands l (outs n) (ins n) =
    subst (λ (m : DeviceStream). DeviceStreamStands m (outs m.port.interface) (ins m.port.interface)) (sym read) (keeps.each at d below) in
    let same : on n ≡ (l.port.domain == domain) =
    port_holds (λ p. on p.interface ≡ (p.domain == domain)) device_streams l at all below (read ∙ get_or_default device_streams at d l below) in
    gives (outs n) (ins n) kept id
    ∙ ap (λ (o : Option (List ℤ)). if gives_to domain id l.port then Some (frame_given (option_map (out_after_ticks t) (outs n)) l.port) else o) so_far
    ∙ given_where t domain id (on n) l.port (outs n) far same
    ∙ ap (λ (m : DeviceStream). if gives_to domain id m.port then Some (frame_given (os m.port.interface) m.port) else far) read
    ∙ sym (given_more domain id os device_streams at d (frame_on first id) below)

-- ---- what they stand for

pub take_rows_keeps : (domain ticks : ℕ) (now old : List DeviceStream) (at : ℕ) → IsTurnedTo (stream_after_on domain ticks) (λ p in_. in_) now old at → length now ≤ at → All IsDeviceStream old
    → (on : ℕ → Bool) (outs : ℕ → Option OutStream) (ins : ℕ → Option InStream) → All (λ p. on p.interface ≡ (p.domain == domain)) (ports old) → DeviceStreamsStand old outs ins
    → DeviceStreamsStand now (changed_where on (λ interface. out_after_ticks ticks) outs) ins
take_rows_keeps domain ticks now old at turned past sound on outs ins all keeps =
    keeps_turned (stream_after_on domain ticks) (λ p in_. in_) now old at outs (changed_where on (λ interface. out_after_ticks ticks) outs) ins ins turned past sound keeps
    (λ l k below is right kept. (
      changed_as (on l.port.interface) (l.port.domain == domain) (out_after_ticks ticks) (outs l.port.interface)
          (port_holds (λ p. on p.interface ≡ (p.domain == domain)) old l k all below is),
      refl,
    ))
    (λ n none. changed_none (on n) (out_after_ticks ticks) (outs n) none) (λ n none. none)

-- the frames on a terminal's wire are those that it played
put_rows_same : (domain ticks : ℕ) (wires : ℕ → Frames) (on : Bool) (frames : ℕ → List ℤ) (l : DeviceStream) (out : Option OutStream) (in_ : Option InStream) → IsDeviceStream l
    → DeviceStreamStands l out in_ → on ≡ (l.port.domain == domain)
    → (l.port.out ≡ false → 1 ≤ l.port.channels → (l.port.domain == domain) ≡ true → (t : ℕ) → t < ticks → frame_on (wires t) l.port.terminal ≡ Some (frames t))
    → option_map (λ i. if on then in_after_ticks frames ticks i else i) in_ ≡ stream_with_on domain ticks (λ t. samples_on (wires t) l.port.terminal) l.port in_
put_rows_same domain ticks wires on frames l out in_ sound keeps same there = along l.flow sound keeps
  where
    nothing : in_ ≡ None
        → option_map (λ i. if on then in_after_ticks frames ticks i else i) in_ ≡ stream_with_on domain ticks (λ t. samples_on (wires t) l.port.terminal) l.port in_
    nothing none =
        ap (option_map (λ (i : InStream). if on then in_after_ticks frames ticks i else i)) none
        ∙ sym (ap (stream_with_on domain ticks (λ t. samples_on (wires t) l.port.terminal) l.port) none)

    along : (f : Flow) → IsFlow l.port l.ring f → FlowStands l.ring f out in_
        → option_map (λ i. if on then in_after_ticks frames ticks i else i) in_ ≡ stream_with_on domain ticks (λ t. samples_on (wires t) l.port.terminal) l.port in_
    along flow.Idle right kept = nothing kept.1
    along (flow.Out f) right kept = nothing kept.2
    along (flow.In f) right kept =
        changed_as on (l.port.domain == domain) (in_after_ticks frames ticks) in_ same
        ∙ ticks_same (l.port.domain == domain) ticks frames (λ t. samples_on (wires t) l.port.terminal) in_
        (λ here t early. sym (ap (λ (o : Option (List ℤ)). unwrap_or o []) (there right.1 right.3 here t early)))

pub put_rows_keeps : (domain ticks : ℕ) (wires : ℕ → Frames) (now old : List DeviceStream) (at : ℕ)
    → IsTurnedTo (λ p out. out) (λ p in_. stream_with_on domain ticks (λ t. samples_on (wires t) p.terminal) p in_) now old at → length now ≤ at → All IsDeviceStream old
    → (on : ℕ → Bool) (played : ℕ → ℕ → List ℤ) (outs : ℕ → Option OutStream) (ins : ℕ → Option InStream) → All (λ p. on p.interface ≡ (p.domain == domain)) (ports old)
    → All (λ p. p.out ≡ false → 1 ≤ p.channels → (p.domain == domain) ≡ true → (t : ℕ) → t < ticks → frame_on (wires t) p.terminal ≡ Some (played t p.interface)) (ports old)
    → DeviceStreamsStand old outs ins
    → DeviceStreamsStand now outs (changed_where on (λ interface. in_after_ticks (λ t. played t interface) ticks) ins)
put_rows_keeps domain ticks wires now old at turned past sound on played outs ins all there keeps =
    keeps_turned (λ p out. out) (λ p in_. stream_with_on domain ticks (λ t. samples_on (wires t) p.terminal) p in_) now old at outs outs ins
    (changed_where on (λ interface. in_after_ticks (λ t. played t interface) ticks) ins) turned past sound keeps
    (λ l k below is right kept. (
      refl,
      put_rows_same domain ticks wires (on l.port.interface) (λ t. played t l.port.interface) l (outs l.port.interface) (ins l.port.interface) right kept
          (port_holds (λ p. on p.interface ≡ (p.domain == domain)) old l k all below is)
          (port_holds (λ p. p.out ≡ false → 1 ≤ p.channels → (p.domain == domain) ≡ true → (t : ℕ) → t < ticks → frame_on (wires t) p.terminal ≡ Some (played t p.interface)) old l k there below is),
    ))
    (λ n none. none) (λ n none. changed_none (on n) (in_after_ticks (λ t. played t n) ticks) (ins n) none)
