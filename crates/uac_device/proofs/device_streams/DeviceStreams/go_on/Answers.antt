use Rattle.std.proofs.Common.{◌∙◌, ap, subst, sym, List}
use Rattle.std.specs.List.{list_all}
use Rattle.uac_device.specs.declared.device_stream.DeviceStream.{DeviceStream}
use Rattle.uac_device.specs.DeviceStreams.{DeviceStreamsStand, ports}
use Rattle.uac_device.specs.DeviceStreamTicks.{goes_on}
use Rattle.uac_device.proofs.device_streams.DeviceStreams.go_on.Goals as goal

pub returns : goal.returns
returns c outs ins keeps =
    let same = sym (c.deref.ensures.value ∙ c.self.view_is) in
    c.go_on.ensures outs ins (subst (λ (ls : List DeviceStream). DeviceStreamsStand ls outs ins) same keeps)
    ∙ ap (λ (ls : List DeviceStream). list_all (λ p. goes_on c.args.domain c.args.ticks (outs p.interface) (ins p.interface) p) (ports ls)) (sym same)
