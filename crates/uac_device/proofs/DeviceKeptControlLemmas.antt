-- What a control request makes of a device.
use Rattle.std.proofs.Common.{◌≡◌, ◌∙◌, sym, refl, ap, subst, ℕ, ◌≤◌, ◌==◌, ◌&&◌, Bool, true, false, cond, if◌then◌else◌, ℤ, List, [], ◌∷◌, Option, Some, None, map}
use Rattle.std.specs.List.{find}
use Rattle.std.specs.Option.{option_and_then, option_map}
use Rattle.uac_entities.specs.declared.entity.Entity.{Entity}
use Rattle.uac_entities.specs.declared.stream.StreamInterface.{StreamInterface}
use Rattle.uac_topology.specs.Function.{FunctionFields}
use Rattle.uac_topology.specs.Topology.{IsSoundFunction}
use Rattle.uac_store.specs.declared.keys.Key.{Key}
use Rattle.uac_alt.specs.AltStreams.{StreamFields, stream_fields, stream_of}
use Rattle.uac_alt.specs.declared.settings.InterfaceSetting.{InterfaceSetting}
use Rattle.uac_alt.specs.declared.values.Stream.{Stream}
use Rattle.uac_request.specs.Requests.{RequestState, AnswerFields, after_request, request_state, rate_at, reply_of, sets_interface, is_done_answer}
use Rattle.uac_request.specs.declared.setup.Setup.{Setup}
use Rattle.uac_flow.specs.FlowStreams.{InStream, OutStream}
use Rattle.uac_device.specs.declared.device_stream.DeviceStream.{DeviceStream}
use Rattle.uac_device.specs.declared.device_stream.Port.{Port}
use Rattle.uac_device.specs.InterfaceStreams.{in_from, out_from, streams_replaced_at}
use Rattle.uac_device.specs.DeviceWorld.{BegunFields, DeviceWorld, after_control, after_restart, begun_by, stream_in_setting}
use Rattle.uac_device.specs.DeviceKept.{DeviceFields, IsControlled, IsDevice, DeviceStands}
use Rattle.uac_device.specs.DeviceStreams.{DeviceStreamsStand, port_of, ports}
use Rattle.uac_device.specs.Linked.{FitsInterface}
use Rattle.uac_device.proofs.DeviceStreamsLemmas.{FitsAt}
use Rattle.uac_device.proofs.AltStreamsLemmas.{stream_fits}

-- ---- the stream that is asked for

asked_fits : (function : FunctionFields) → IsSoundFunction function → (controls : List (Key × ℤ)) (interface setting : ℕ) (s : StreamFields)
    → stream_in_setting function controls interface setting ≡ Some s → FitsInterface function interface s
unfolding stream_in_setting
asked_fits function sound controls interface setting s asked = by_carrier (find (λ t. t.number == interface) function.streams) asked
  where
    by_rate : (o : Option ℕ) → option_and_then (λ rate. stream_of function rate interface setting) o ≡ Some s → FitsInterface function interface s
    by_rate None e = absurd (cc)
    by_rate (Some rate) e = stream_fits function sound rate interface setting s e

    by_carrier : (o : Option StreamInterface)
        → option_and_then (λ t. option_and_then (λ rate. stream_of function rate interface setting) (rate_at function controls t)) o ≡ Some s
        → FitsInterface function interface s
    by_carrier None e = absurd (cc)
    by_carrier (Some t) e = by_rate (rate_at function controls t) e

find_port : (entities : List Entity) (interface : ℕ) (streams : List StreamInterface)
    → find (λ p. p.interface == interface) (map (port_of entities) streams) ≡ option_map (port_of entities) (find (λ s. s.number == interface) streams)
find_port entities interface [] = refl
find_port entities interface (s ∷ ss) = by (s.number == interface) (find_port entities interface ss)
  where
    by : (b : Bool) → find (λ p. p.interface == interface) (map (port_of entities) ss) ≡ option_map (port_of entities) (find (λ s. s.number == interface) ss)
        → cond b (Some (port_of entities s)) (find (λ p. p.interface == interface) (map (port_of entities) ss))
        ≡ option_map (port_of entities) (cond b (Some s) (find (λ s. s.number == interface) ss))
    by true e = refl
    by false e = e

-- it fits its interface
pub begun_fits : (device : DeviceFields) (begun : Option Stream) (interface setting : ℕ) → IsSoundFunction device.function → IsDevice device
    → option_map stream_fields begun ≡ stream_in_setting device.function device.controls interface setting → FitsAt device.device_streams interface begun
begun_fits device None interface setting sound is asked = tt
begun_fits device (Some s) interface setting sound is asked =
    let fits = asked_fits device.function sound device.controls interface setting (stream_fields s) (sym asked) in
    let port = port_of device.function.entities fits.streaming_interface in
    let there : find (λ p. p.interface == interface) (ports device.device_streams) ≡ Some port =
    ap (find (λ (p : Port). p.interface == interface)) is.ports
    ∙ find_port device.function.entities interface device.function.streams
    ∙ ap (option_map (port_of device.function.entities)) fits.there in
    (port, there, record { runs = fits.runs; out = fits.out; channels = fits.channels; some = subst (λ (n : ℕ). 1 ≤ n) fits.channels fits.some })

-- ---- the request

-- what is held after it, and what is told, of the world
module _ (device : DeviceFields) (controls : List (Key × ℤ)) (settings : List InterfaceSetting) (p : Setup) (bytes : List ℕ) (told : AnswerFields)
    (answer : told ≡ reply_of device.function (request_state device.controls device.settings) p bytes)
    (held : request_state controls settings ≡ after_request device.function (request_state device.controls device.settings) p bytes) where
  held_in : (w : DeviceWorld) → DeviceStands device w → request_state controls settings ≡ after_request w.function (request_state w.controls w.settings) p bytes
  held_in w stands =
      held
      ∙ ap (λ (f : FunctionFields). after_request f (request_state device.controls device.settings) p bytes) stands.function
      ∙ ap (λ (cs : List (Key × ℤ)). after_request w.function (request_state cs device.settings) p bytes) stands.controls
      ∙ ap (λ (ss : List InterfaceSetting). after_request w.function (request_state w.controls ss) p bytes) stands.settings

  told_in : (w : DeviceWorld) → DeviceStands device w → told ≡ reply_of w.function (request_state w.controls w.settings) p bytes
  told_in w stands =
      answer
      ∙ ap (λ (f : FunctionFields). reply_of f (request_state device.controls device.settings) p bytes) stands.function
      ∙ ap (λ (cs : List (Key × ℤ)). reply_of w.function (request_state cs device.settings) p bytes) stands.controls
      ∙ ap (λ (ss : List InterfaceSetting). reply_of w.function (request_state w.controls ss) p bytes) stands.settings

  -- the world with these controls and settings, and with streams
  with_held : DeviceWorld → (ℕ → Option OutStream) → (ℕ → Option InStream) → DeviceWorld
  with_held w outs ins =
      let after = after_request w.function (request_state w.controls w.settings) p bytes in
      record w { controls = after.controls; settings = after.settings; outs = outs; ins = ins }

  held_stands : (device_streams : List DeviceStream) (w : DeviceWorld) (outs : ℕ → Option OutStream) (ins : ℕ → Option InStream) → DeviceStreamsStand device_streams outs ins → DeviceStands device w
      → DeviceStands (record device { controls = controls; settings = settings; device_streams = device_streams }) (with_held w outs ins)
  unfolding with_held
  held_stands device_streams w outs ins keeps stands = record {
    function = stands.function;
    controls = ap (λ (h : RequestState). h.controls) (held_in w stands);
    settings = ap (λ (h : RequestState). h.settings) (held_in w stands);
    clocks = stands.clocks;
    streams = keeps;
    unlinked = stands.unlinked;
    inputs = stands.inputs;
    outputs = stands.outputs;
  }

  tested : (w : DeviceWorld) → DeviceStands device w → (b : Bool) → (sets_interface p && is_done_answer told) ≡ b
      → (sets_interface p && is_done_answer (reply_of w.function (request_state w.controls w.settings) p bytes)) ≡ b
  tested w stands b test = sym (ap (λ (t : AnswerFields). sets_interface p && is_done_answer t) (told_in w stands)) ∙ test

  -- no setting was set
  stands_else : (sets_interface p && is_done_answer told) ≡ false → (w : DeviceWorld) → DeviceStands device w
      → DeviceStands (record device { controls = controls; settings = settings }) (after_control p bytes w)
  unfolding after_control with_held
  stands_else test w stands =
      let after = after_request w.function (request_state w.controls w.settings) p bytes in
      let asked : DeviceWorld = record w { controls = after.controls; settings = after.settings } in
      subst (DeviceStands (record device { controls = controls; settings = settings }))
      (sym (ap (λ (b : Bool). if b then after_restart p.index (stream_in_setting w.function w.controls p.index p.value) asked else asked) (tested w stands false test)))
      (held_stands device.device_streams w w.outs w.ins stands.streams stands)

  pub control_else : (sets_interface p && is_done_answer told) ≡ false → IsControlled p bytes told device (record device { controls = controls; settings = settings })
  control_else test = record { answer = answer; held = held; function = refl; stands = stands_else test }

  -- one was
  stands_then : (device_streams : List DeviceStream) (begun : Option StreamFields) → (sets_interface p && is_done_answer told) ≡ true
      → begun ≡ stream_in_setting device.function device.controls p.index p.value
      → ((outs : ℕ → Option OutStream) (ins : ℕ → Option InStream) → DeviceStreamsStand device.device_streams outs ins
      → DeviceStreamsStand device_streams (streams_replaced_at p.index (option_and_then out_from begun) outs) (streams_replaced_at p.index (option_and_then in_from begun) ins))
      → (w : DeviceWorld) → DeviceStands device w → DeviceStands (record device { controls = controls; settings = settings; device_streams = device_streams }) (after_control p bytes w)
  unfolding after_control after_restart with_held
  stands_then device_streams begun test asked restarts w stands =
      let after = after_request w.function (request_state w.controls w.settings) p bytes in
      let left : DeviceWorld = record w { controls = after.controls; settings = after.settings } in
      let new : Option StreamFields = stream_in_setting w.function w.controls p.index p.value in
      let same : begun ≡ new =
      asked
      ∙ ap (λ (f : FunctionFields). stream_in_setting f device.controls p.index p.value) stands.function
      ∙ ap (λ (cs : List (Key × ℤ)). stream_in_setting w.function cs p.index p.value) stands.controls in
      subst (DeviceStands (record device { controls = controls; settings = settings; device_streams = device_streams }))
      (sym (ap (λ (b : Bool). if b then after_restart p.index new left else left) (tested w stands true test)))
      (held_stands device_streams w (streams_replaced_at p.index (option_and_then out_from new) w.outs) (streams_replaced_at p.index (option_and_then in_from new) w.ins)
      (subst (λ (o : Option StreamFields). DeviceStreamsStand device_streams (streams_replaced_at p.index (option_and_then out_from o) w.outs) (streams_replaced_at p.index (option_and_then in_from o) w.ins)) same
      (restarts w.outs w.ins stands.streams))
      stands)

  pub control_then : (device_streams : List DeviceStream) (begun : Option StreamFields) → (sets_interface p && is_done_answer told) ≡ true
      → begun ≡ stream_in_setting device.function device.controls p.index p.value
      → ((outs : ℕ → Option OutStream) (ins : ℕ → Option InStream) → DeviceStreamsStand device.device_streams outs ins
      → DeviceStreamsStand device_streams (streams_replaced_at p.index (option_and_then out_from begun) outs) (streams_replaced_at p.index (option_and_then in_from begun) ins))
      → IsControlled p bytes told device (record device { controls = controls; settings = settings; device_streams = device_streams })
  control_then device_streams begun test asked restarts = record { answer = answer; held = held; function = refl; stands = stands_then device_streams begun test asked restarts }

-- ---- what a request begins

-- an interface, in a stream or in none
abbrev begun_with : ℕ → Option StreamFields → BegunFields
begun_with interface stream = record { interface = interface; stream = stream }

-- a setting that is held begins its interface, in the stream that was asked for
pub begun_then : (f : FunctionFields) (controls : List (Key × ℤ)) (p : Setup) (told : AnswerFields) (stream : Option StreamFields)
    → (sets_interface p && is_done_answer told) ≡ true → stream ≡ stream_in_setting f controls p.index p.value
    → Some (record { interface = p.index; stream = stream }) ≡ begun_by f controls p told
unfolding begun_by
begun_then f controls p told stream test asked =
    ap (λ (s : Option StreamFields). Some (begun_with p.index s)) asked
    ∙ ap (λ (b : Bool). if b then Some (begun_with p.index (stream_in_setting f controls p.index p.value)) else None) (sym test)

-- and nothing else begins
pub begun_else : (f : FunctionFields) (controls : List (Key × ℤ)) (p : Setup) (told : AnswerFields)
    → (sets_interface p && is_done_answer told) ≡ false → None ≡ begun_by f controls p told
unfolding begun_by
begun_else f controls p told test =
    ap (λ (b : Bool). if b then Some (begun_with p.index (stream_in_setting f controls p.index p.value)) else None) (sym test)
