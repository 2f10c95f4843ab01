use Rattle.uac_device.proofs.DeviceStreamsFlowLemmas.{out_goes_on, out_sound}
use Rattle.uac_device.proofs.device_stream.DeviceStream.count.Goals as goal

pub returns-else-self-domain-clause-sound : goal.returns-else-self-domain-clause-sound
returns-else-self-domain-clause-sound c =
    let l = c.args.self.now in
    out_goes_on l.port l.ring l.ring l.flow c.in-Out.flow c.count.new.self c.in-Out.is c.requires
    (c.count.ensures.sound l.ring (out_sound l.port l.ring l.flow c.in-Out.flow c.in-Out.is c.requires).0) c.count.ensures.stream
