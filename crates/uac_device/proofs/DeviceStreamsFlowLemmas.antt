-- What a device stream stands for, by the stream that its interface runs.
use Rattle.std.proofs.Common.{◌≡◌, ◌∙◌, ap, subst, ◌≤◌, true, false, ℤ, List, Option}
use Rattle.uac_alt.specs.declared.values.Stream.{Stream}
use Rattle.uac_flow.specs.Flows.{IsInFlow, IsOutFlow}
use Rattle.uac_flow.specs.FlowStreams.{InStream, OutStream}
use Rattle.uac_flow.specs.declared.inward.InFlow.{InFlow}
use Rattle.uac_flow.specs.declared.outward.OutFlow.{OutFlow}
use Rattle.uac_device.specs.declared.device_stream.Flow.{Flow}
use Rattle.uac_device.specs.declared.device_stream.Flow.TheVariants as flow
use Rattle.uac_device.specs.declared.device_stream.Port.{Port}
use Rattle.uac_device.specs.DeviceStreams.{IsFlow, FlowStands}

-- a ring and a flow, where the flow is known
pub known : (ring : List (List ℤ)) (f g : Flow) (out : Option OutStream) (in_ : Option InStream) → f ≡ g → FlowStands ring f out in_ → FlowStands ring g out in_
known ring f g out in_ is keeps = subst (λ (h : Flow). FlowStands ring h out in_) is keeps

-- ---- what is always so of an interface

pub out_sound : (port : Port) (ring : List (List ℤ)) (f : Flow) (g : OutFlow) → f ≡ flow.Out g → IsFlow port ring f
    → IsOutFlow ring g × (port.out ≡ true) × (g.stream.format.channels ≡ port.channels)
out_sound port ring f g is sound = subst (IsFlow port ring) is sound

pub in_sound : (port : Port) (ring : List (List ℤ)) (f : Flow) (g : InFlow) → f ≡ flow.In g → IsFlow port ring f
    → IsInFlow ring g × (port.out ≡ false) × (g.stream.format.channels ≡ port.channels) × (1 ≤ port.channels)
in_sound port ring f g is sound = subst (IsFlow port ring) is sound

-- a stream that goes on in its format
pub out_goes_on : (port : Port) (before after : List (List ℤ)) (f : Flow) (old new : OutFlow) → f ≡ flow.Out old → IsFlow port before f → IsOutFlow after new
    → new.stream ≡ old.stream → IsFlow port after (flow.Out new)
out_goes_on port before after f old new is sound right same =
    let was = out_sound port before f old is sound in (right, was.1, ap (λ (s : Stream). s.format.channels) same ∙ was.2)

pub in_goes_on : (port : Port) (before after : List (List ℤ)) (f : Flow) (old new : InFlow) → f ≡ flow.In old → IsFlow port before f → IsInFlow after new
    → new.stream ≡ old.stream → IsFlow port after (flow.In new)
in_goes_on port before after f old new is sound right same =
    let was = in_sound port before f old is sound in (right, was.1, ap (λ (s : Stream). s.format.channels) same ∙ was.2, was.3)
