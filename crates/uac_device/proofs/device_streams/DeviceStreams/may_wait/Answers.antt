use Rattle.std.proofs.Common.{◌∙◌, ap, subst, sym, List}
use Rattle.std.specs.List.{list_all}
use Rattle.uac_device.specs.declared.device_stream.DeviceStream.{DeviceStream}
use Rattle.uac_device.specs.DeviceStreams.{DeviceStreamsStand, ports}
use Rattle.uac_device.proofs.DeviceAheadLemmas.{waits_at}
use Rattle.uac_device.proofs.device_streams.DeviceStreams.may_wait.Goals as goal

pub returns-clause-held : goal.returns-clause-held
returns-clause-held c outs ins keeps =
    c.may_wait.ensures.held outs ins (subst (λ (ls : List DeviceStream). DeviceStreamsStand ls outs ins) (sym (c.deref.ensures.value ∙ c.self.view_is)) keeps)

pub returns-clause-value : goal.returns-clause-value
returns-clause-value c outs ins keeps =
    let same = sym (c.deref.ensures.value ∙ c.self.view_is) in
    c.may_wait.ensures.value outs ins (subst (λ (ls : List DeviceStream). DeviceStreamsStand ls outs ins) same keeps)
    ∙ ap (λ (ls : List DeviceStream). list_all (waits_at c.args.domain c.args.ticks outs ins) (ports ls)) (sym same)
