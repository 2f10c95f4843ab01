-- The device streams of all interfaces, of which one is asked or changed.
use Rattle.std.proofs.Common.{◌≡◌, ◌≢◌, ◌∙◌, sym, refl, ap, subst, arith, ℕ, zero, suc, ◌+◌, ◌<◌, ◌≤◌, ◌==◌, Bool, true, false, cond, not, if◌then◌else◌, nat_eq, List, [], ◌∷◌, Option, Some, None, IfSome, length, get_or, map, set, position, slice_get, inl, inr, eq-eqb, ne_eqb}
use Rattle.std.specs.List.{All, IsDistinct, find, position_or_len}
use Rattle.std.specs.Option.{option_map}
use Rattle.std.proofs.lemmas.Bool.{cases_eq, cases_lt, eqb-true}
use Rattle.std.proofs.lemmas.List.{get_or_past, get_or-map, get_or-set_other, get_or-set_same, length-map, length-set, map-set, set-get_or}
use Rattle.std.proofs.lemmas.List.Elements.{All-map, All-set}
use Rattle.std.proofs.lemmas.List.Folds.{find_at}
use Rattle.std.proofs.lemmas.List.{get_or_default}
use Rattle.std.proofs.lemmas.List.Quantifiers.{position-Some}
use Rattle.std.proofs.lemmas.Map.Keys.{IsDistinct-tail, apart_from_distinct}
use Rattle.std.proofs.lemmas.Option.{same_Some, slice_get-get_or, slice_get_past}
use Rattle.uac_entities.specs.EntityInterfaces.{entity_by_id}
use Rattle.uac_entities.specs.declared.entity.Entity.{Entity}
use Rattle.uac_entities.specs.declared.stream.StreamInterface.{StreamInterface}
use Rattle.uac_topology_rules.specs.Table.{at, nothing, index_of}
use Rattle.uac_topology.specs.Function.{FunctionFields}
use Rattle.uac_topology.specs.FunctionKept.{AreNumbered}
use Rattle.uac_graph.specs.Meaning.{entity}
use Rattle.uac_topology_rules.proofs.ListFindLemmas.{position_is, position_none}
use Rattle.uac_alt.specs.AltStreams.{stream_fields}
use Rattle.uac_alt.specs.declared.values.Stream.{Stream}
use Rattle.uac_flow.specs.FlowStreams.{InStream, OutStream}
use Rattle.uac_device.specs.declared.device_stream.Port.{Port}
use Rattle.uac_device.specs.declared.device_stream.DeviceStream.{DeviceStream}
use Rattle.uac_device.specs.InterfaceStreams.{streams_changed_at, streams_replaced_at}
use Rattle.uac_device.specs.DeviceStreams.{AreDeviceStreams, FitsPort, IsDeviceStream, DeviceStreamStands, DeviceStreamsStand, idle_stream, device_stream_index, port_of, port_with, ports}

-- the device stream at the index of an interface
pub stream_found : (device_streams : List DeviceStream) (interface index : ℕ) (d : DeviceStream) → device_stream_index device_streams interface ≡ Some index
    → (index < length device_streams) × ((get_or device_streams index d).port.interface ≡ interface)
stream_found device_streams interface index d is =
    let at = position-Some (λ (l : DeviceStream). l.port.interface == interface) device_streams index d is in
    (at.0, eqb-true (get_or device_streams index d).port.interface interface at.1)

-- what it keeps
pub stream_keeps : (device_streams : List DeviceStream) (outs : ℕ → Option OutStream) (ins : ℕ → Option InStream) (interface index : ℕ) (d l : DeviceStream) → DeviceStreamsStand device_streams outs ins
    → device_stream_index device_streams interface ≡ Some index → l ≡ get_or device_streams index d → DeviceStreamStands l (outs interface) (ins interface)
stream_keeps device_streams outs ins interface index d l keeps is read =
    let found = stream_found device_streams interface index d is in
    subst (λ (m : DeviceStream). DeviceStreamStands m (outs interface) (ins interface)) (sym read)
    (subst (λ (n : ℕ). DeviceStreamStands (get_or device_streams index d) (outs n) (ins n)) found.1 (keeps.each index d found.0))

pub stream_sound : (device_streams : List DeviceStream) (interface index : ℕ) (d l : DeviceStream) → AreDeviceStreams device_streams → device_stream_index device_streams interface ≡ Some index → l ≡ get_or device_streams index d → IsDeviceStream l
stream_sound device_streams interface index d l are is read =
    subst IsDeviceStream (sym read) (are.each index d (stream_found device_streams interface index d is).0)

-- ---- one device stream is written

pub ports_written : (device_streams : List DeviceStream) (index : ℕ) (l d : DeviceStream) → l.port ≡ (get_or device_streams index d).port → ports (set device_streams index l) ≡ ports device_streams
ports_written device_streams index l d same =
    map-set (λ (m : DeviceStream). m.port) device_streams index l
    ∙ elim (cases_lt index (length device_streams)) [
      | inl below ↦
          (let own : get_or (ports device_streams) index l.port ≡ (get_or device_streams index d).port = get_or-map (λ (m : DeviceStream). m.port) device_streams index d l.port below in
          ap (set (ports device_streams) index) (same ∙ sym own) ∙ set-get_or (ports device_streams) index l.port)
      | inr past ↦ set_nothing (ports device_streams) index l.port (omega (arith, length-map device_streams (λ (m : DeviceStream). m.port)))
    ]
  where
    set_nothing : (ps : List Port) (n : ℕ) (p : Port) → length ps ≤ n → set ps n p ≡ ps
    set_nothing [] n p past = refl
    set_nothing (q ∷ qs) zero p past = absurd (omega arith)
    set_nothing (q ∷ qs) (suc n) p past = ap (λ rest. q ∷ rest) (set_nothing qs n p (omega arith))

-- the numbers of ports
numbers_of : (device_streams : List DeviceStream) → map (λ (l : DeviceStream). l.port.interface) device_streams ≡ map (λ (p : Port). p.interface) (ports device_streams)
numbers_of [] = refl
numbers_of (l ∷ ls) = ap (λ ns. l.port.interface ∷ ns) (numbers_of ls)

-- device streams with the same ports are of different interfaces
pub still_apart : (device_streams others : List DeviceStream) → ports others ≡ ports device_streams → IsDistinct nat_eq (map (λ (l : DeviceStream). l.port.interface) device_streams)
    → IsDistinct nat_eq (map (λ (l : DeviceStream). l.port.interface) others)
still_apart device_streams others same apart =
    subst (IsDistinct nat_eq) (numbers_of device_streams ∙ sym (ap (map (λ (p : Port). p.interface)) same) ∙ sym (numbers_of others)) apart

pub are_written : (device_streams : List DeviceStream) (index : ℕ) (l d : DeviceStream) → AreDeviceStreams device_streams → IsDeviceStream l → l.port ≡ (get_or device_streams index d).port → AreDeviceStreams (set device_streams index l)
are_written device_streams index l d are sound same = record {
  each = All-set IsDeviceStream device_streams index l sound are.each;
  apart = still_apart device_streams (set device_streams index l) (ports_written device_streams index l d same) are.apart;
}

-- device streams at other indices are of other interfaces
other_streams : (device_streams : List DeviceStream) (index k : ℕ) (d : DeviceStream) → IsDistinct nat_eq (map (λ (l : DeviceStream). l.port.interface) device_streams) → index < length device_streams → k < length device_streams
    → k ≢ index → (get_or device_streams k d).port.interface ≢ (get_or device_streams index d).port.interface
other_streams device_streams index k d apart inside below other same =
    elim (cases_lt k index) [
      | inl less ↦
          (let e : nat_eq (get_or numbers k 0) (get_or numbers index 0) ≡ false = apart_from_distinct nat_eq numbers k index 0 apart less (omega (arith, sized)) in
          let f : nat_eq (get_or numbers k 0) (get_or numbers index 0) ≡ true = eq-eqb (get_or numbers k 0) (get_or numbers index 0) (number k below ∙ same ∙ sym (number index inside)) in
          cc)
      | inr more ↦
          (let e : nat_eq (get_or numbers index 0) (get_or numbers k 0) ≡ false = apart_from_distinct nat_eq numbers index k 0 apart (omega (arith, other)) (omega (arith, sized)) in
          let f : nat_eq (get_or numbers index 0) (get_or numbers k 0) ≡ true = eq-eqb (get_or numbers index 0) (get_or numbers k 0) (number index inside ∙ sym same ∙ sym (number k below)) in
          cc)
    ]
  where
    numbers : List ℕ
    numbers = map (λ (l : DeviceStream). l.port.interface) device_streams

    sized : length numbers ≡ length device_streams
    sized = length-map device_streams (λ (l : DeviceStream). l.port.interface)

    number : (n : ℕ) → n < length device_streams → get_or numbers n 0 ≡ (get_or device_streams n d).port.interface
    number n h = get_or-map (λ (l : DeviceStream). l.port.interface) device_streams n d 0 h

-- an index is that of one of the ports
index_by_ports : (device_streams : List DeviceStream) (interface : ℕ) → device_stream_index device_streams interface ≡ position (λ (p : Port). p.interface == interface) (ports device_streams)
index_by_ports device_streams interface = along device_streams
  where
    step : (ls : List DeviceStream) → position_or_len (λ (l : DeviceStream). l.port.interface == interface) ls ≡ position_or_len (λ (p : Port). p.interface == interface) (ports ls)
    step [] = refl
    step (l ∷ ls) = ap (λ (n : ℕ). cond (not (l.port.interface == interface)) (1 + n) 0) (step ls)

    along : (ls : List DeviceStream) → device_stream_index ls interface ≡ position (λ (p : Port). p.interface == interface) (ports ls)
    along ls = rw (step ls, length-map ls (λ (l : DeviceStream). l.port)) refl

-- device streams with the same ports have the same indices
pub same_indices : (device_streams others : List DeviceStream) (interface : ℕ) → ports others ≡ ports device_streams → device_stream_index others interface ≡ device_stream_index device_streams interface
same_indices device_streams others interface same =
    index_by_ports others interface ∙ ap (position (λ (p : Port). p.interface == interface)) same ∙ sym (index_by_ports device_streams interface)

-- the streams of one interface change, and what is kept of it stands for them
pub keeps_written : (device_streams : List DeviceStream) (outs outs' : ℕ → Option OutStream) (ins ins' : ℕ → Option InStream) (interface index : ℕ) (l d : DeviceStream) → AreDeviceStreams device_streams
    → device_stream_index device_streams interface ≡ Some index → l.port ≡ (get_or device_streams index d).port → DeviceStreamsStand device_streams outs ins
    → DeviceStreamStands l (outs' interface) (ins' interface)
    → ((k : ℕ) → k ≢ interface → (outs' k ≡ outs k) × (ins' k ≡ ins k))
    → DeviceStreamsStand (set device_streams index l) outs' ins'
keeps_written device_streams outs outs' ins ins' interface index l d are is same keeps here others = record {
  each = each;
  none = none;
}
  where
    found : (index < length device_streams) × ((get_or device_streams index d).port.interface ≡ interface)
    found = stream_found device_streams interface index d is

    own : l.port.interface ≡ interface
    own = ap (λ (p : Port). p.interface) same ∙ found.1

    each : All (λ m. DeviceStreamStands m (outs' m.port.interface) (ins' m.port.interface)) (set device_streams index l)
    each k e below = elim (cases_eq k index) [
      | inl at ↦
          (let read : get_or (set device_streams index l) k e ≡ l = ap (λ (n : ℕ). get_or (set device_streams index l) n e) at ∙ get_or-set_same device_streams index l e found.0 in
          subst (λ (m : DeviceStream). DeviceStreamStands m (outs' m.port.interface) (ins' m.port.interface)) (sym read)
          (subst (λ (n : ℕ). DeviceStreamStands l (outs' n) (ins' n)) (sym own) here))
      | inr other ↦
          (let inside : k < length device_streams = omega (arith, length-set device_streams index l) in
          let m = get_or device_streams k d in
          let read : get_or (set device_streams index l) k e ≡ m = get_or-set_other device_streams index k l e other ∙ again k e inside in
          let apart : m.port.interface ≢ interface = λ at. other_streams device_streams index k d are.apart found.0 inside other (at ∙ sym found.1) in
          let stay = others m.port.interface apart in
          subst (λ (m : DeviceStream). DeviceStreamStands m (outs' m.port.interface) (ins' m.port.interface)) (sym read)
          (subst (λ (o : Option OutStream). DeviceStreamStands m o (ins' m.port.interface)) (sym stay.0)
          (subst (λ (i : Option InStream). DeviceStreamStands m (outs m.port.interface) i) (sym stay.1) (keeps.each k d inside))))
    ] where
      again : (n : ℕ) (e : DeviceStream) → n < length device_streams → get_or device_streams n e ≡ get_or device_streams n d
      again n e h = get_or_default device_streams n e d h

    none : (k : ℕ) → device_stream_index (set device_streams index l) k ≡ None → (outs' k ≡ None) × (ins' k ≡ None)
    none k nowhere =
        let before : device_stream_index device_streams k ≡ None = sym (same_indices device_streams (set device_streams index l) k (ports_written device_streams index l d same)) ∙ nowhere in
        let apart : k ≢ interface = λ at. (let e : None ≡ Some index = sym before ∙ ap (device_stream_index device_streams) at ∙ is in cc) in
        let was = keeps.none k before in
        let stay = others k apart in
        (stay.0 ∙ was.0, stay.1 ∙ was.1)

-- the same for a change, and for another stream
pub changed_others : {S : Type 0} (interface : ℕ) (change : S → S) (streams : ℕ → Option S) (k : ℕ) → k ≢ interface → streams_changed_at interface change streams k ≡ streams k
changed_others interface change streams k other = ap (λ (b : Bool). if b then option_map change (streams k) else streams k) (ne_eqb k interface other)

pub changed_here : {S : Type 0} (interface : ℕ) (change : S → S) (streams : ℕ → Option S) → streams_changed_at interface change streams interface ≡ option_map change (streams interface)
changed_here interface change streams =
    ap (λ (b : Bool). if b then option_map change (streams interface) else streams interface) (eq-eqb interface interface refl)

pub replaced_others : {S : Type 0} (interface : ℕ) (stream : Option S) (streams : ℕ → Option S) (k : ℕ) → k ≢ interface → streams_replaced_at interface stream streams k ≡ streams k
replaced_others interface stream streams k other = ap (λ (b : Bool). if b then stream else streams k) (ne_eqb k interface other)

pub replaced_here : {S : Type 0} (interface : ℕ) (stream : Option S) (streams : ℕ → Option S) → streams_replaced_at interface stream streams interface ≡ stream
replaced_here interface stream streams = ap (λ (b : Bool). if b then stream else streams interface) (eq-eqb interface interface refl)

-- an interface of which nothing is kept runs no stream: nothing changes
pub keeps_nowhere : (device_streams : List DeviceStream) (outs outs' : ℕ → Option OutStream) (ins ins' : ℕ → Option InStream) (interface : ℕ) → device_stream_index device_streams interface ≡ None
    → DeviceStreamsStand device_streams outs ins → (outs' interface ≡ outs interface) × (ins' interface ≡ ins interface)
    → ((k : ℕ) → k ≢ interface → (outs' k ≡ outs k) × (ins' k ≡ ins k))
    → DeviceStreamsStand device_streams outs' ins'
keeps_nowhere device_streams outs outs' ins ins' interface nowhere keeps here others = record {
  each = λ k d below.
      (let n = (get_or device_streams k d).port.interface in
      subst (λ (o : Option OutStream). DeviceStreamStands (get_or device_streams k d) o (ins' n)) (sym (at n).0)
      (subst (λ (i : Option InStream). DeviceStreamStands (get_or device_streams k d) (outs n) i) (sym (at n).1) (keeps.each k d below)));
  none = λ k gone. (let was = keeps.none k gone in ((at k).0 ∙ was.0, (at k).1 ∙ was.1));
}
  where
    at : (k : ℕ) → (outs' k ≡ outs k) × (ins' k ≡ ins k)
    at k = elim (cases_eq k interface) [
      | inl same ↦ subst (λ (n : ℕ). (outs' n ≡ outs n) × (ins' n ≡ ins n)) (sym same) here
      | inr other ↦ others k other
    ]

-- ---- as the calls have it: device streams as they are kept, and as they are seen

pub asked_at : (now inside : List DeviceStream) (outs : ℕ → Option OutStream) (ins : ℕ → Option InStream) (interface index : ℕ) (l : DeviceStream) → inside ≡ now → DeviceStreamsStand now outs ins
    → Some index ≡ device_stream_index inside interface → l ≡ get_or inside index l → DeviceStreamStands l (outs interface) (ins interface)
asked_at now inside outs ins interface index l same keeps is read =
    stream_keeps inside outs ins interface index l l (subst (λ (ls : List DeviceStream). DeviceStreamsStand ls outs ins) (sym same) keeps) (sym is) read

pub sound_at : (inside : List DeviceStream) (interface index : ℕ) (l : DeviceStream) → AreDeviceStreams inside → Some index ≡ device_stream_index inside interface → l ≡ get_or inside index l → IsDeviceStream l
sound_at inside interface index l are is read = stream_sound inside interface index l l are (sym is) read

pub written_at : (now inside : List DeviceStream) (outs outs' : ℕ → Option OutStream) (ins ins' : ℕ → Option InStream) (interface index : ℕ) (old new : DeviceStream) → inside ≡ now → AreDeviceStreams inside
    → DeviceStreamsStand now outs ins → Some index ≡ device_stream_index inside interface → old ≡ get_or inside index old → new.port ≡ old.port
    → (DeviceStreamStands old (outs interface) (ins interface) → DeviceStreamStands new (outs' interface) (ins' interface))
    → ((k : ℕ) → k ≢ interface → (outs' k ≡ outs k) × (ins' k ≡ ins k))
    → DeviceStreamsStand (set inside index new) outs' ins'
written_at now inside outs outs' ins ins' interface index old new same are keeps is read port here others =
    keeps_written inside outs outs' ins ins' interface index new old are (sym is) (port ∙ ap (λ (l : DeviceStream). l.port) read)
    (subst (λ (ls : List DeviceStream). DeviceStreamsStand ls outs ins) (sym same) keeps) (here (asked_at now inside outs ins interface index old same keeps is read)) others

pub ports_at : (now inside : List DeviceStream) (index : ℕ) (old new : DeviceStream) → inside ≡ now → old ≡ get_or inside index old → new.port ≡ old.port → ports (set inside index new) ≡ ports now
ports_at now inside index old new same read port = ports_written inside index new old (port ∙ ap (λ (l : DeviceStream). l.port) read) ∙ ap ports same

pub are_at : (inside : List DeviceStream) (index : ℕ) (old new : DeviceStream) → AreDeviceStreams inside → IsDeviceStream new → old ≡ get_or inside index old → new.port ≡ old.port → AreDeviceStreams (set inside index new)
are_at inside index old new are sound read port = are_written inside index new old are sound (port ∙ ap (λ (l : DeviceStream). l.port) read)

-- ---- a stream starts

-- the port with an interface's number is that of its device stream
port_found : (device_streams : List DeviceStream) (interface index : ℕ) (l : DeviceStream) (port : Port) → Some index ≡ device_stream_index device_streams interface → l ≡ get_or device_streams index l
    → find (λ p. p.interface == interface) (ports device_streams) ≡ Some port → port ≡ l.port
port_found device_streams interface index l port is read found =
    let at : position (λ (p : Port). p.interface == interface) (ports device_streams) ≡ Some index = sym (index_by_ports device_streams interface) ∙ sym is in
    let inside = (position-Some (λ (p : Port). p.interface == interface) (ports device_streams) index port at).0 in
    let here : find (λ p. p.interface == interface) (ports device_streams) ≡ Some (get_or (ports device_streams) index port) =
    find_at (λ (p : Port). p.interface == interface) (ports device_streams) ∙ ap (slice_get (ports device_streams)) (position_is (λ (p : Port). p.interface == interface) (ports device_streams) index at).1
    ∙ slice_get-get_or (ports device_streams) index port inside in
    same_Some port (get_or (ports device_streams) index port) (sym found ∙ here)
    ∙ get_or-map (λ (m : DeviceStream). m.port) device_streams index l port (omega (arith, inside, length-map device_streams (λ (m : DeviceStream). m.port)))
    ∙ sym (ap (λ (m : DeviceStream). m.port) read)

port_missing : (device_streams : List DeviceStream) (interface : ℕ) → None ≡ device_stream_index device_streams interface → find (λ p. p.interface == interface) (ports device_streams) ≡ None
port_missing device_streams interface is =
    let past = position_none (λ (p : Port). p.interface == interface) (ports device_streams) (sym (index_by_ports device_streams interface) ∙ sym is) in
    find_at (λ (p : Port). p.interface == interface) (ports device_streams)
    ∙ slice_get_past (ports device_streams) (position_or_len (λ (p : Port). p.interface == interface) (ports device_streams)) (omega (arith, past))

-- a stream that is given fits the port with a number
abbrev pub FitsAt : List DeviceStream → ℕ → Option Stream → Type 0
FitsAt device_streams interface begun = IfSome begun (λ s. (port : Port) × (find (λ p. p.interface == interface) (ports device_streams) ≡ Some port) × FitsPort port (stream_fields s))

pub fits_stream : (now inside : List DeviceStream) (interface index : ℕ) (l : DeviceStream) (begun : Option Stream) → inside ≡ now → Some index ≡ device_stream_index inside interface → l ≡ get_or inside index l
    → FitsAt now interface begun → IfSome begun (λ s. FitsPort l.port (stream_fields s))
fits_stream now inside interface index l begun same is read fits =
    along begun (subst (λ (ls : List DeviceStream). FitsAt ls interface begun) (sym same) fits)
  where
    along : (o : Option Stream) → FitsAt inside interface o → IfSome o (λ s. FitsPort l.port (stream_fields s))
    along None f = tt
    along (Some s) f = subst (λ (p : Port). FitsPort p (stream_fields s)) (port_found inside interface index l f.0 is read f.1) f.2

pub begins_nowhere : (now inside : List DeviceStream) (interface : ℕ) (begun : Option Stream) → inside ≡ now → None ≡ device_stream_index inside interface → FitsAt now interface begun → begun ≡ None
begins_nowhere now inside interface begun same is fits = along begun (subst (λ (ls : List DeviceStream). FitsAt ls interface begun) (sym same) fits)
  where
    along : (o : Option Stream) → FitsAt inside interface o → o ≡ None
    along None f = refl
    along (Some s) f = absurd (let e : None ≡ Some f.0 = sym (port_missing inside interface is) ∙ f.1 in cc)

-- ---- the device streams of a function

idle_numbers : (entities : List Entity) (streams : List StreamInterface)
    → map (λ (l : DeviceStream). l.port.interface) (map (λ s. idle_stream (port_of entities s)) streams) ≡ map (λ s. s.number) streams
idle_numbers entities [] = refl
idle_numbers entities (s ∷ ss) = ap (λ ns. s.number ∷ ns) (idle_numbers entities ss)

pub are_idle : (function : FunctionFields) → AreNumbered function → AreDeviceStreams (map (λ s. idle_stream (port_of function.entities s)) function.streams)
are_idle function numbered = record {
  each = All-map IsDeviceStream (λ s. idle_stream (port_of function.entities s)) function.streams (λ k d below. tt);
  apart =
      subst (IsDistinct nat_eq) (sym (idle_numbers function.entities function.streams))
      (IsDistinct-tail nat_eq function.control_interface (map (λ (s : StreamInterface). s.number) function.streams) numbered.different);
}

-- the terminal to which an interface links, found by its id
entity_named : (entities : List Entity) (id : ℕ) (e : Entity) → entity_by_id entities id ≡ Some e → entity entities id ≡ e
unfolding entity_by_id entity at index_of
entity_named entities id e found =
    let p : Entity → Bool = λ (f : Entity). f.id == id in
    elim (cases_lt (position_or_len p entities) (length entities)) [
      | inl below ↦ sym (same_Some e (get_or entities (position_or_len p entities) nothing) (sym found ∙ find_at p entities ∙ slice_get-get_or entities (position_or_len p entities) nothing below))
      | inr past ↦ absurd (let e : None ≡ Some e = sym (slice_get_past entities (position_or_len p entities) past) ∙ sym (find_at p entities) ∙ found in cc)
    ]

entity_unnamed : (entities : List Entity) (id : ℕ) → entity_by_id entities id ≡ None → entity entities id ≡ nothing
unfolding entity_by_id entity at index_of
entity_unnamed entities id missing =
    let p : Entity → Bool = λ (f : Entity). f.id == id in
    elim (cases_lt (position_or_len p entities) (length entities)) [
      | inl below ↦ absurd (let e : None ≡ Some (get_or entities (position_or_len p entities) nothing) = sym missing ∙ find_at p entities ∙ slice_get-get_or entities (position_or_len p entities) nothing below in cc)
      | inr past ↦ get_or_past entities (position_or_len p entities) nothing past
    ]

pub port_named : (entities : List Entity) (s : StreamInterface) (e : Entity) → entity_by_id entities s.terminal ≡ Some e
    → port_with s e.clock e.cluster.channels ≡ port_of entities s
port_named entities s e found = ap (λ (f : Entity). port_with s f.clock f.cluster.channels) (sym (entity_named entities s.terminal e found))

pub port_unnamed : (entities : List Entity) (s : StreamInterface) → entity_by_id entities s.terminal ≡ None → port_with s 0 0 ≡ port_of entities s
port_unnamed entities s missing = ap (λ (f : Entity). port_with s f.clock f.cluster.channels) (sym (entity_unnamed entities s.terminal missing))
