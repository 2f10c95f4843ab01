-- What a tick puts on the wires, interface by interface.
use Rattle.std.proofs.Common.{◌≡◌, ◌∙◌, sym, refl, ap, subst, ℕ, ◌+◌, ◌<◌, ◌≤◌, ◌==◌, ◌&&◌, not, Bool, true, false, is_some, if◌then◌else◌, ℤ, pos, List, [], ◌∷◌, ◌++◌, Option, Some, None, length, get_or, replicate, take}
use Rattle.std.specs.Option.{option_map}
use Rattle.std.proofs.lemmas.List.{take_all, take_more, map-append}
use Rattle.std.proofs.lemmas.List.Sums.{fold-append}
use Rattle.uac_graph.specs.Wiring.{Frames, frame_on, silence}
use Rattle.uac_flow.specs.FlowStreams.{InStream, OutStream, is_dry, next_taken, out_level}
use Rattle.uac_device.specs.declared.device_stream.Port.{Port}
use Rattle.uac_device.specs.declared.device_stream.DeviceStream.{DeviceStream}
use Rattle.uac_device.specs.DeviceStreams.{DeviceStreamStands, DeviceStreamsStand, frame_given, frame_given_by, gives_to, ports}

-- one device stream more
pub given_more : (domain id : ℕ) (outs : ℕ → Option OutStream) (device_streams : List DeviceStream) (at : ℕ) (d : DeviceStream) (before : Option (List ℤ)) → at < length device_streams
    → frame_given_by domain id outs (ports (take (at + 1) device_streams)) before
    ≡ (if gives_to domain id (get_or device_streams at d).port then Some (frame_given (outs (get_or device_streams at d).port.interface) (get_or device_streams at d).port)
    else frame_given_by domain id outs (ports (take at device_streams)) before)
given_more domain id outs device_streams at d before below =
    let longer : ports (take (at + 1) device_streams) ≡ ports (take at device_streams) ++ (get_or device_streams at d).port ∷ [] =
    ap ports (take_more device_streams at d below) ∙ map-append (λ (l : DeviceStream). l.port) (take at device_streams) (get_or device_streams at d ∷ []) in
    ap (λ (ps : List Port). frame_given_by domain id outs ps before) longer
    ∙ fold-append (λ frame p. if gives_to domain id p then Some (frame_given (outs p.interface) p) else frame) before (ports (take at device_streams)) ((get_or device_streams at d).port ∷ [])

-- the frames on the wires after one device stream more
pub frames_more : (domain : ℕ) (device_streams : List DeviceStream) (at : ℕ) (d l : DeviceStream) (first before after : Frames) (outs : ℕ → Option OutStream) (ins : ℕ → Option InStream) (id : ℕ)
    → at < length device_streams → l ≡ get_or device_streams at d → DeviceStreamsStand device_streams outs ins
    → ((out : Option OutStream) (in_ : Option InStream) → DeviceStreamStands l out in_
    → (id : ℕ) → frame_on after id ≡ (if gives_to domain id l.port then Some (frame_given out l.port) else frame_on before id))
    → frame_on before id ≡ frame_given_by domain id outs (ports (take at device_streams)) (frame_on first id)
    → frame_on after id ≡ frame_given_by domain id outs (ports (take (at + 1) device_streams)) (frame_on first id)
frames_more domain device_streams at d l first before after outs ins id below read keeps gives so_far =
    let n = l.port.interface in
    let kept : DeviceStreamStands l (outs n) (ins n) =
    subst (λ (m : DeviceStream). DeviceStreamStands m (outs m.port.interface) (ins m.port.interface)) (sym read) (keeps.each at d below) in
    gives (outs n) (ins n) kept id
    ∙ ap (λ (o : Option (List ℤ)). if gives_to domain id l.port then Some (frame_given (outs n) l.port) else o) so_far
    ∙ ap (λ (m : DeviceStream). if gives_to domain id m.port then Some (frame_given (outs m.port.interface) m.port)
    else frame_given_by domain id outs (ports (take at device_streams)) (frame_on first id)) read
    ∙ sym (given_more domain id outs device_streams at d (frame_on first id) below)

pub frames_all : (domain id : ℕ) (outs : ℕ → Option OutStream) (device_streams : List DeviceStream) (at : ℕ) (before : Option (List ℤ)) → length device_streams ≤ at
    → frame_given_by domain id outs (ports (take at device_streams)) before ≡ frame_given_by domain id outs (ports device_streams) before
frames_all domain id outs device_streams at before past = ap (λ (ls : List DeviceStream). frame_given_by domain id outs (ports ls) before) (take_all at device_streams past)

-- a wire that is hushed has silence on its channels
pub hushed : (frame : Option (List ℤ)) (channels : ℕ) → option_map length frame ≡ Some channels
    → option_map (λ samples. replicate (length samples) (pos 0)) frame ≡ Some (silence channels)
hushed None channels fits = cc
hushed (Some samples) channels fits =
    let as_many : length samples ≡ channels = cc in
    ap (λ (n : ℕ). Some (silence n)) as_many

-- a stream that gives a frame isn't dry
pub frame_not_dry : (o : OutStream) (frame : List ℤ) → next_taken o ≡ Some frame → is_dry o ≡ false
frame_not_dry o frame is = by (is_some o.target) (out_level o == 0) (get_or o.arrived o.taken []) is
  where
    by : (a b : Bool) (next : List ℤ) → (if a && not (a && b) then Some next else None) ≡ Some frame → (a && b) ≡ false
    by true true next is = cc
    by true false next is = refl
    by false b next is = refl
