use Rattle.std.proofs.Common.{ap}
use Rattle.std.specs.Option.{option_map}
use Rattle.uac_flow.specs.FlowStreams.{in_after_end, out_after_end}
use Rattle.uac_device.specs.declared.device_stream.Flow.TheVariants as flow
use Rattle.uac_device.proofs.DeviceStreamsFlowLemmas.{in_goes_on, in_sound, known}
use Rattle.uac_device.proofs.device_stream.DeviceStream.end_microframe.Goals as goal

pub returns-in-In-clause-stands : goal.returns-in-In-clause-stands
returns-in-In-clause-stands c out in_ keeps fits =
    let l = c.args.self.now in
    let k = known l.ring l.flow (flow.In c.in-In.flow) out in_ c.in-In.is keeps in
    (in_after_end k.0, ap (option_map in_after_end) k.1, ap (option_map out_after_end) k.2, c.end_microframe-in-In.ensures.stands l.ring k.0 k.3)

pub returns-in-In-clause-sound : goal.returns-in-In-clause-sound
returns-in-In-clause-sound c =
    let l = c.args.self.now in
    in_goes_on l.port l.ring l.ring l.flow c.in-In.flow c.end_microframe-in-In.new.self c.in-In.is c.requires
    (c.end_microframe-in-In.ensures.sound l.ring (in_sound l.port l.ring l.flow c.in-In.flow c.in-In.is c.requires).0) c.end_microframe-in-In.ensures.stream
