-- Whether interfaces run streams.
use Rattle.std.proofs.Common.{◌≡◌, ◌∙◌, sym, refl, ap, ℕ, ◌||◌, Bool, true, false, ℤ, List, [], ◌∷◌, Option, Some, None, get_or}
use Rattle.std.specs.List.{All, list_any}
use Rattle.std.proofs.lemmas.Bool.{or_parts, true≢false}
use Rattle.std.proofs.lemmas.List.Elements.{All-cons, All-head, All-nil, All-tail}
use Rattle.uac_flow.specs.FlowStreams.{InStream, OutStream}
use Rattle.uac_device.specs.InterfaceStreams.{NoneRuns, runs_either}
use Rattle.uac_device.specs.declared.device_stream.Flow.{Flow}
use Rattle.uac_device.specs.declared.device_stream.Flow.TheVariants as flow
use Rattle.uac_device.specs.declared.device_stream.DeviceStream.{DeviceStream}
use Rattle.uac_device.specs.DeviceStreams.{FlowStands, DeviceStreamStands, DeviceStreamsStand, is_running, device_stream_index, ports}
use Rattle.uac_device.proofs.DeviceStreamsLemmas.{stream_found, stream_keeps}

-- a device stream is running where its interface runs a stream
flow_runs : (ring : List (List ℤ)) (f : Flow) (out : Option OutStream) (in_ : Option InStream) → FlowStands ring f out in_ → is_running f ≡ runs_either out in_
flow_runs ring flow.Idle out in_ keeps = sym (ap (λ (o : Option OutStream). runs_either o in_) keeps.0 ∙ ap (λ (i : Option InStream). runs_either None i) keeps.1)
flow_runs ring (flow.Out f) out in_ keeps = sym (ap (λ (o : Option OutStream). runs_either o in_) keeps.1)
flow_runs ring (flow.In f) out in_ keeps =
    sym (ap (λ (o : Option OutStream). runs_either o in_) keeps.2 ∙ ap (λ (i : Option InStream). runs_either None i) keeps.1)

idle_flow : (ring : List (List ℤ)) (f : Flow) (out : Option OutStream) (in_ : Option InStream) → FlowStands ring f out in_ → is_running f ≡ false → (out ≡ None) × (in_ ≡ None)
idle_flow ring flow.Idle out in_ keeps idle = keeps
idle_flow ring (flow.Out f) out in_ keeps idle = absurd (true≢false idle)
idle_flow ring (flow.In f) out in_ keeps idle = absurd (true≢false idle)

abbrev pub run_one : List DeviceStream → Bool
run_one device_streams = list_any (λ (l : DeviceStream). is_running l.flow) device_streams

module _ (outs : ℕ → Option OutStream) (ins : ℕ → Option InStream) where
  abbrev Keeps : DeviceStream → Type 0
  Keeps l = DeviceStreamStands l (outs l.port.interface) (ins l.port.interface)

  one_runs_in : (device_streams : List DeviceStream) → All Keeps device_streams → run_one device_streams ≡ list_any (λ p. runs_either (outs p.interface) (ins p.interface)) (ports device_streams)
  one_runs_in [] each = refl
  one_runs_in (l ∷ ls) each =
      let here = flow_runs l.ring l.flow (outs l.port.interface) (ins l.port.interface) (All-head Keeps l ls each) in
      ap (λ (b : Bool). b || run_one ls) here
      ∙ ap (λ (b : Bool). runs_either (outs l.port.interface) (ins l.port.interface) || b) (one_runs_in ls (All-tail Keeps l ls each))

-- one of the device streams runs where one of the interfaces does
pub one_runs : (device_streams : List DeviceStream) (outs : ℕ → Option OutStream) (ins : ℕ → Option InStream) → DeviceStreamsStand device_streams outs ins
    → run_one device_streams ≡ list_any (λ p. runs_either (outs p.interface) (ins p.interface)) (ports device_streams)
one_runs device_streams outs ins keeps = one_runs_in outs ins device_streams keeps.each

all_idle : (device_streams : List DeviceStream) → run_one device_streams ≡ false → All (λ l. is_running l.flow ≡ false) device_streams
all_idle [] none = All-nil (λ l. is_running l.flow ≡ false)
all_idle (l ∷ ls) none =
    let parts = or_parts (is_running l.flow) (run_one ls) none in
    All-cons (λ m. is_running m.flow ≡ false) l ls parts.0 (all_idle ls parts.1)

-- where none of the device streams runs no interface does
pub none_runs : (device_streams : List DeviceStream) (outs : ℕ → Option OutStream) (ins : ℕ → Option InStream) → DeviceStreamsStand device_streams outs ins → run_one device_streams ≡ false → NoneRuns outs ins
none_runs device_streams outs ins keeps none interface = by_index (device_stream_index device_streams interface) refl
  where
    of_stream : (l : DeviceStream) → DeviceStreamStands l (outs interface) (ins interface) → is_running l.flow ≡ false → (outs interface ≡ None) × (ins interface ≡ None)
    of_stream l own idle = idle_flow l.ring l.flow (outs interface) (ins interface) own idle

    by_index : (o : Option ℕ) → device_stream_index device_streams interface ≡ o → (outs interface ≡ None) × (ins interface ≡ None)
    by_index None is = keeps.none interface is
    by_index (Some index) is = in_list device_streams refl
      where
        in_list : (ls : List DeviceStream) → device_streams ≡ ls → (outs interface ≡ None) × (ins interface ≡ None)
        in_list [] same = keeps.none interface (ap (λ (ms : List DeviceStream). device_stream_index ms interface) same)
        in_list (d ∷ ls) same =
            of_stream (get_or device_streams index d) (stream_keeps device_streams outs ins interface index d (get_or device_streams index d) keeps is refl)
            (all_idle device_streams none index d (stream_found device_streams interface index d is).0)
