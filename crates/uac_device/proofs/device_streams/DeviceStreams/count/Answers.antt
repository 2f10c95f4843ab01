use Rattle.std.proofs.Common.{◌≡◌, ◌∙◌, ◌==◌, arith, ap, subst, sym, List}
use Rattle.std.specs.List.{All}
use Rattle.uac_flow.specs.FlowStreams.{after_ticks}
use Rattle.uac_device.specs.declared.device_stream.DeviceStream.{DeviceStream}
use Rattle.uac_device.specs.InterfaceStreams.{changed_where}
use Rattle.uac_device.specs.DeviceStreams.{AreDeviceStreams, DeviceStreamsStand, ports}
use Rattle.uac_device.proofs.DeviceStreamsLemmas.{still_apart}
use Rattle.uac_device.proofs.ListChangeLemmas.{put_back}
use Rattle.uac_device.proofs.device_streams.DeviceStreams.count.Goals as goal

pub invariant_of-self : goal.invariant_of-self
invariant_of-self c =
    subst AreDeviceStreams (sym (put_back c.self.inside.list.len c.count.new.device_streams c.self.inside.list.items (omega arith)))
    (record {
      each = c.count.ensures.sound;
      apart = still_apart c.self.inside.list.items c.count.new.device_streams (c.count.ensures.ports ∙ ap ports c.deref_mut.ensures.value) c.self.invariant.apart;
    })

pub returns-clause-stands : goal.returns-clause-stands
returns-clause-stands c on outs ins all keeps =
    let same = sym (c.deref_mut.ensures.value ∙ c.self.view_is) in
    subst (λ (ls : List DeviceStream). DeviceStreamsStand ls (changed_where on (λ interface. after_ticks c.args.ticks) outs) ins)
    (sym (put_back c.self.inside.list.len c.count.new.device_streams c.self.inside.list.items (omega arith)))
    (c.count.ensures.stands on outs ins (subst (λ (ls : List DeviceStream). All (λ p. on p.interface ≡ (p.domain == c.args.domain)) (ports ls)) same all) (subst (λ (ls : List DeviceStream). DeviceStreamsStand ls outs ins) same keeps))
