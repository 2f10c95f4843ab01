-- Device streams that change one after the other.
use Rattle.std.proofs.Common.{◌≡◌, ◌∙◌, sym, refl, ap, subst, arith, ℕ, suc, ◌+◌, ◌<◌, ◌≤◌, ◌==◌, Bool, false, if◌then◌else◌, ℤ, List, [], ◌∷◌, Option, Some, None, length, get_or, map, set, unwrap_or, inl, inr}
use Rattle.std.specs.List.{All}
use Rattle.std.specs.Option.{option_map}
use Rattle.std.proofs.lemmas.Bool.{cases_eq}
use Rattle.std.proofs.lemmas.List.{get_or_default, get_or-map, get_or-set_other, get_or-set_same, length-map, length-set}
use Rattle.uac_graph.specs.Wiring.{Frames, frame_on, samples_on}
use Rattle.uac_flow.specs.FlowStreams.{InStream, OutStream, after_putting, after_taking, after_ticks}
use Rattle.uac_device.specs.declared.device_stream.Flow.{Flow}
use Rattle.uac_device.specs.declared.device_stream.Flow.TheVariants as flow
use Rattle.uac_device.specs.InterfaceStreams.{changed_where}
use Rattle.uac_device.specs.declared.device_stream.Port.{Port}
use Rattle.uac_device.specs.declared.device_stream.DeviceStream.{DeviceStream}
use Rattle.uac_device.specs.DeviceStreams.{IsFlow, IsDeviceStream, FlowStands, DeviceStreamStands, DeviceStreamsStand, Changes, stream_counted_on, device_stream_index, ports, stream_put_on, stream_taken_on}
use Rattle.uac_device.proofs.DeviceStreamsLemmas.{same_indices}

-- what an event makes of streams, by the interface's port
abbrev pub Change : Type 0 → Type 0
Change S = Port → Option S → Option S

-- the device streams below an index have changed, and the others are as they were
pub record IsTurnedTo (outs : Port → Option OutStream → Option OutStream) (ins : Port → Option InStream → Option InStream) (now old : List DeviceStream) (at : ℕ) : Type 0 where
  pub below : (k : ℕ) (d : DeviceStream) → k < at → k < length old → Changes (outs (get_or old k d).port) (ins (get_or old k d).port) (get_or old k d) (get_or now k d)
  pub sound : (k : ℕ) (d : DeviceStream) → k < at → k < length old → IsDeviceStream (get_or now k d)
  pub rest : (k : ℕ) (d : DeviceStream) → at ≤ k → get_or now k d ≡ get_or old k d
  pub same : length now ≡ length old

pub turned_none : (outs : Port → Option OutStream → Option OutStream) (ins : Port → Option InStream → Option InStream) (device_streams : List DeviceStream) → IsTurnedTo outs ins device_streams device_streams 0
turned_none outs ins device_streams = record {
  below = λ k d less inside. absurd (omega (arith, less));
  sound = λ k d less inside. absurd (omega (arith, less));
  rest = λ k d past. refl;
  same = refl;
}

-- the device stream that comes next is as it was
pub untouched : (outs : Port → Option OutStream → Option OutStream) (ins : Port → Option InStream → Option InStream) (now old : List DeviceStream) (at : ℕ) (d : DeviceStream)
    → IsTurnedTo outs ins now old at → get_or now at d ≡ get_or old at d
untouched outs ins now old at d turned = turned.rest at d (omega arith)

pub untouched_sound : (outs : Port → Option OutStream → Option OutStream) (ins : Port → Option InStream → Option InStream) (now old : List DeviceStream) (at : ℕ) (d l : DeviceStream)
    → IsTurnedTo outs ins now old at → All IsDeviceStream old → at < length now → l ≡ get_or now at d → IsDeviceStream l
untouched_sound outs ins now old at d l turned sound below read =
    subst IsDeviceStream (sym (read ∙ untouched outs ins now old at d turned)) (sound at d (omega (arith, turned.same)))

-- what holds of the ports holds of its port
pub untouched_port : (P : Port → Type 0) (outs : Port → Option OutStream → Option OutStream) (ins : Port → Option InStream → Option InStream) (now old : List DeviceStream) (at : ℕ)
    (d l : DeviceStream) → IsTurnedTo outs ins now old at → All P (ports old) → at < length now → l ≡ get_or now at d → P l.port
untouched_port P outs ins now old at d l turned all below read =
    let inside : at < length old = omega (arith, turned.same) in
    let own : get_or (ports old) at d.port ≡ (get_or old at d).port = get_or-map (λ (m : DeviceStream). m.port) old at d d.port inside in
    subst P (own ∙ sym (ap (λ (m : DeviceStream). m.port) (read ∙ untouched outs ins now old at d turned)))
    (all at d.port (omega (arith, length-map old (λ (m : DeviceStream). m.port))))

-- one more has changed
pub turned_more : (outs : Port → Option OutStream → Option OutStream) (ins : Port → Option InStream → Option InStream) (now old : List DeviceStream) (at : ℕ) (x l d : DeviceStream)
    → at < length now → IsTurnedTo outs ins now old at → l ≡ get_or now at d → Changes (outs l.port) (ins l.port) l x → IsDeviceStream x
    → IsTurnedTo outs ins (set now at x) old (at + 1)
turned_more outs ins now old at x l d inside turned read turns sound = record {
  below = below;
  sound = right;
  rest = λ k e past. get_or-set_other now at k x e (λ same. omega (arith, past, same)) ∙ turned.rest k e (omega (arith, past));
  same = length-set now at x ∙ turned.same;
}
  where
    here : (e : DeviceStream) → get_or old at e ≡ l
    here e = sym (turned.rest at e (omega arith)) ∙ get_or_default now at e d inside ∙ sym read

    below : (k : ℕ) (e : DeviceStream) → k < at + 1 → k < length old
        → Changes (outs (get_or old k e).port) (ins (get_or old k e).port) (get_or old k e) (get_or (set now at x) k e)
    below k e less within = elim (cases_eq k at) [
      | inl same ↦
          (let was : get_or old k e ≡ l = ap (λ (n : ℕ). get_or old n e) same ∙ here e in
          let is : get_or (set now at x) k e ≡ x = ap (λ (n : ℕ). get_or (set now at x) n e) same ∙ get_or-set_same now at x e inside in
          subst (λ (m : DeviceStream). Changes (outs m.port) (ins m.port) m (get_or (set now at x) k e)) (sym was)
          (subst (λ (m : DeviceStream). Changes (outs l.port) (ins l.port) l m) (sym is) turns))
      | inr other ↦
          subst (λ (m : DeviceStream). Changes (outs (get_or old k e).port) (ins (get_or old k e).port) (get_or old k e) m) (sym (get_or-set_other now at k x e other))
          (turned.below k e (omega (arith, less, other)) within)
    ]

    right : (k : ℕ) (e : DeviceStream) → k < at + 1 → k < length old → IsDeviceStream (get_or (set now at x) k e)
    right k e less within = elim (cases_eq k at) [
      | inl same ↦
          subst IsDeviceStream (sym (ap (λ (n : ℕ). get_or (set now at x) n e) same ∙ get_or-set_same now at x e inside)) sound
      | inr other ↦ subst IsDeviceStream (sym (get_or-set_other now at k x e other)) (turned.sound k e (omega (arith, less, other)) within)
    ]

-- lists that give the same at each index
map_same_at : {X Y : Type 0} (f : X → Y) (xs ys : List X) → length xs ≡ length ys → ((k : ℕ) (d : X) → k < length ys → f (get_or xs k d) ≡ f (get_or ys k d)) → map f xs ≡ map f ys
map_same_at f [] [] sized same = refl
map_same_at f [] (y ∷ ys) sized same = absurd (omega (arith, sized))
map_same_at f (x ∷ xs) [] sized same = absurd (omega (arith, sized))
map_same_at f (x ∷ xs) (y ∷ ys) sized same =
    ap (λ a. a ∷ map f xs) (same 0 x (omega arith))
    ∙ ap (λ rest. f y ∷ rest) (map_same_at f xs ys (omega (arith, sized)) (λ k d below. same (suc k) d (omega (arith, below))))

-- all have
pub ports_turned : (outs : Port → Option OutStream → Option OutStream) (ins : Port → Option InStream → Option InStream) (now old : List DeviceStream) (at : ℕ)
    → IsTurnedTo outs ins now old at → length now ≤ at → ports now ≡ ports old
ports_turned outs ins now old at turned past =
    map_same_at (λ (l : DeviceStream). l.port) now old turned.same (λ k d below. (turned.below k d (omega (arith, past, below, turned.same)) below).port)

pub sound_turned : (outs : Port → Option OutStream → Option OutStream) (ins : Port → Option InStream → Option InStream) (now old : List DeviceStream) (at : ℕ)
    → IsTurnedTo outs ins now old at → length now ≤ at → All IsDeviceStream now
sound_turned outs ins now old at turned past k d below = turned.sound k d (omega (arith, past, below)) (omega (arith, below, turned.same))

pub keeps_turned : (outs : Port → Option OutStream → Option OutStream) (ins : Port → Option InStream → Option InStream) (now old : List DeviceStream) (at : ℕ)
    (os os' : ℕ → Option OutStream) (is is' : ℕ → Option InStream)
    → IsTurnedTo outs ins now old at → length now ≤ at → All IsDeviceStream old → DeviceStreamsStand old os is
    → ((l : DeviceStream) (k : ℕ) → k < length old → l ≡ get_or old k l → IsDeviceStream l → DeviceStreamStands l (os l.port.interface) (is l.port.interface)
    → (os' l.port.interface ≡ outs l.port (os l.port.interface)) × (is' l.port.interface ≡ ins l.port (is l.port.interface)))
    → ((n : ℕ) → os n ≡ None → os' n ≡ None) → ((n : ℕ) → is n ≡ None → is' n ≡ None)
    → DeviceStreamsStand now os' is'
keeps_turned outs ins now old at os os' is is' turned past sound keeps changes none_out none_in = record { each = each; none = none }
  where
    each : All (λ l. DeviceStreamStands l (os' l.port.interface) (is' l.port.interface)) now
    each k d below =
        let inside : k < length old = omega (arith, below, turned.same) in
        let l = get_or old k d in
        let turns = turned.below k d (omega (arith, past, below)) inside in
        let kept : DeviceStreamStands l (os l.port.interface) (is l.port.interface) = keeps.each k d inside in
        let change = changes l k inside (get_or_default old k d l inside) (sound k d inside) kept in
        let new : DeviceStreamStands (get_or now k d) (outs l.port (os l.port.interface)) (ins l.port (is l.port.interface)) = turns.stands (os l.port.interface) (is l.port.interface) kept in
        subst (λ (p : Port). DeviceStreamStands (get_or now k d) (os' p.interface) (is' p.interface)) (sym turns.port)
        (subst (λ (o : Option OutStream). DeviceStreamStands (get_or now k d) o (is' l.port.interface)) (sym change.0)
        (subst (λ (i : Option InStream). DeviceStreamStands (get_or now k d) (outs l.port (os l.port.interface)) i) (sym change.1) new))

    none : (n : ℕ) → device_stream_index now n ≡ None → (os' n ≡ None) × (is' n ≡ None)
    none n gone =
        let was = keeps.none n (sym (same_indices old now n (ports_turned outs ins now old at turned past)) ∙ gone) in
        (none_out n was.0, none_in n was.1)

-- the port of a device stream is among the ports
pub port_holds : (P : Port → Type 0) (device_streams : List DeviceStream) (l : DeviceStream) (k : ℕ) → All P (ports device_streams) → k < length device_streams → l ≡ get_or device_streams k l → P l.port
port_holds P device_streams l k all below is =
    let own : get_or (ports device_streams) k l.port ≡ (get_or device_streams k l).port = get_or-map (λ (m : DeviceStream). m.port) device_streams k l l.port below in
    subst P (own ∙ sym (ap (λ (m : DeviceStream). m.port) is)) (all k l.port (omega (arith, below, length-map device_streams (λ (m : DeviceStream). m.port))))

-- streams of which some change: those on a domain
pub changed_none : {S : Type 0} (b : Bool) (change : S → S) (o : Option S) → o ≡ None → option_map (λ s. if b then change s else s) o ≡ None
changed_none b change o is = ap (option_map (λ s. if b then change s else s)) is

pub changed_as : {S : Type 0} (a b : Bool) (change : S → S) (o : Option S) → a ≡ b
    → option_map (λ s. if a then change s else s) o ≡ option_map (λ s. if b then change s else s) o
changed_as a b change o same = ap (λ (t : Bool). option_map (λ s. if t then change s else s) o) same

-- ---- the three events of ticks

pub counted_keeps : (domain ticks : ℕ) (now old : List DeviceStream) (at : ℕ) → IsTurnedTo (stream_counted_on domain ticks) (λ p in_. in_) now old at → length now ≤ at → All IsDeviceStream old
    → (on : ℕ → Bool) (outs : ℕ → Option OutStream) (ins : ℕ → Option InStream) → All (λ p. on p.interface ≡ (p.domain == domain)) (ports old) → DeviceStreamsStand old outs ins
    → DeviceStreamsStand now (changed_where on (λ interface. after_ticks ticks) outs) ins
counted_keeps domain ticks now old at turned past sound on outs ins all keeps =
    keeps_turned (stream_counted_on domain ticks) (λ p in_. in_) now old at outs (changed_where on (λ interface. after_ticks ticks) outs) ins ins turned past sound keeps
    (λ l k below is right kept. (
      changed_as (on l.port.interface) (l.port.domain == domain) (after_ticks ticks) (outs l.port.interface)
          (port_holds (λ p. on p.interface ≡ (p.domain == domain)) old l k all below is),
      refl,
    ))
    (λ n none. changed_none (on n) (after_ticks ticks) (outs n) none) (λ n none. none)

pub taken_keeps : (domain : ℕ) (now old : List DeviceStream) (at : ℕ) → IsTurnedTo (stream_taken_on domain) (λ p in_. in_) now old at → length now ≤ at → All IsDeviceStream old
    → (on : ℕ → Bool) (outs : ℕ → Option OutStream) (ins : ℕ → Option InStream) → All (λ p. on p.interface ≡ (p.domain == domain)) (ports old) → DeviceStreamsStand old outs ins
    → DeviceStreamsStand now (changed_where on (λ interface. after_taking) outs) ins
taken_keeps domain now old at turned past sound on outs ins all keeps =
    keeps_turned (stream_taken_on domain) (λ p in_. in_) now old at outs (changed_where on (λ interface. after_taking) outs) ins ins turned past sound keeps
    (λ l k below is right kept. (
      changed_as (on l.port.interface) (l.port.domain == domain) after_taking (outs l.port.interface)
          (port_holds (λ p. on p.interface ≡ (p.domain == domain)) old l k all below is),
      refl,
    ))
    (λ n none. changed_none (on n) after_taking (outs n) none) (λ n none. none)

-- the frame on a terminal's wire is the one that it played
put_same : (domain : ℕ) (wires : Frames) (on : Bool) (frame : List ℤ) (l : DeviceStream) (out : Option OutStream) (in_ : Option InStream) → IsDeviceStream l → DeviceStreamStands l out in_
    → on ≡ (l.port.domain == domain) → (l.port.out ≡ false → 1 ≤ l.port.channels → frame_on wires l.port.terminal ≡ Some frame)
    → option_map (λ i. if on then after_putting frame i else i) in_ ≡ stream_put_on domain (samples_on wires l.port.terminal) l.port in_
put_same domain wires on frame l out in_ sound keeps same there = along l.flow sound keeps
  where
    nothing : in_ ≡ None → option_map (λ i. if on then after_putting frame i else i) in_ ≡ stream_put_on domain (samples_on wires l.port.terminal) l.port in_
    nothing none =
        ap (option_map (λ (i : InStream). if on then after_putting frame i else i)) none
        ∙ sym (ap (stream_put_on domain (samples_on wires l.port.terminal) l.port) none)

    along : (f : Flow) → IsFlow l.port l.ring f → FlowStands l.ring f out in_
        → option_map (λ i. if on then after_putting frame i else i) in_ ≡ stream_put_on domain (samples_on wires l.port.terminal) l.port in_
    along flow.Idle right kept = nothing kept.1
    along (flow.Out f) right kept = nothing kept.2
    along (flow.In f) right kept =
        let on_wire : samples_on wires l.port.terminal ≡ frame = ap (λ (o : Option (List ℤ)). unwrap_or o []) (there right.1 right.3) in
        changed_as on (l.port.domain == domain) (after_putting frame) in_ same
        ∙ ap (λ (x : List ℤ). stream_put_on domain x l.port in_) (sym on_wire)

pub put_keeps : (domain : ℕ) (wires : Frames) (now old : List DeviceStream) (at : ℕ)
    → IsTurnedTo (λ p out. out) (λ p in_. stream_put_on domain (samples_on wires p.terminal) p in_) now old at → length now ≤ at → All IsDeviceStream old
    → (on : ℕ → Bool) (played : ℕ → List ℤ) (outs : ℕ → Option OutStream) (ins : ℕ → Option InStream) → All (λ p. on p.interface ≡ (p.domain == domain)) (ports old)
    → All (λ p. p.out ≡ false → 1 ≤ p.channels → frame_on wires p.terminal ≡ Some (played p.interface)) (ports old) → DeviceStreamsStand old outs ins
    → DeviceStreamsStand now outs (changed_where on (λ interface. after_putting (played interface)) ins)
put_keeps domain wires now old at turned past sound on played outs ins all there keeps =
    keeps_turned (λ p out. out) (λ p in_. stream_put_on domain (samples_on wires p.terminal) p in_) now old at outs outs ins
    (changed_where on (λ interface. after_putting (played interface)) ins) turned past sound keeps
    (λ l k below is right kept. (
      refl,
      put_same domain wires (on l.port.interface) (played l.port.interface) l (outs l.port.interface) (ins l.port.interface) right kept
          (port_holds (λ p. on p.interface ≡ (p.domain == domain)) old l k all below is)
          (port_holds (λ p. p.out ≡ false → 1 ≤ p.channels → frame_on wires p.terminal ≡ Some (played p.interface)) old l k there below is),
    ))
    (λ n none. none) (λ n none. changed_none (on n) (after_putting (played n)) (ins n) none)
