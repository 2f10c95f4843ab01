use Rattle.std.proofs.Common.{◌≡◌, ◌∙◌, ◌==◌, arith, ap, subst, sym, List}
use Rattle.std.specs.List.{All}
use Rattle.uac_graph.specs.TickRows.{frames_at}
use Rattle.uac_graph.specs.Wiring.{frame_on}
use Rattle.uac_flow.specs.FlowTicks.{out_after_ticks}
use Rattle.uac_device.specs.declared.device_stream.DeviceStream.{DeviceStream}
use Rattle.uac_device.specs.InterfaceStreams.{changed_where}
use Rattle.uac_device.specs.DeviceStreams.{AreDeviceStreams, DeviceStreamsStand, frame_given_by, ports}
use Rattle.uac_device.proofs.DeviceStreamsLemmas.{still_apart}
use Rattle.uac_device.proofs.ListChangeLemmas.{put_back}
use Rattle.uac_device.proofs.device_streams.DeviceStreams.take_rows.Goals as goal

pub invariant_of-self : goal.invariant_of-self
invariant_of-self c =
    subst AreDeviceStreams (sym (put_back c.self.inside.list.len c.take_all.new.device_streams c.self.inside.list.items (omega arith)))
    (record {
      each = c.take_all.ensures.sound;
      apart = still_apart c.self.inside.list.items c.take_all.new.device_streams (c.take_all.ensures.ports ∙ ap ports c.deref_mut.ensures.value) c.self.invariant.apart;
    })

pub returns-clause-stands : goal.returns-clause-stands
returns-clause-stands c on outs ins all keeps =
    let same = sym (c.deref_mut.ensures.value ∙ c.self.view_is) in
    subst (λ (ls : List DeviceStream). DeviceStreamsStand ls (changed_where on (λ interface. out_after_ticks c.args.ticks) outs) ins)
    (sym (put_back c.self.inside.list.len c.take_all.new.device_streams c.self.inside.list.items (omega arith)))
    (c.take_all.ensures.stands on outs ins (subst (λ (ls : List DeviceStream). All (λ p. on p.interface ≡ (p.domain == c.args.domain)) (ports ls)) same all) (subst (λ (ls : List DeviceStream). DeviceStreamsStand ls outs ins) same keeps))

pub returns-clause-frames : goal.returns-clause-frames
returns-clause-frames c on outs ins all keeps t early id =
    let same = sym (c.deref_mut.ensures.value ∙ c.self.view_is) in
    c.take_all.ensures.frames on outs ins (subst (λ (ls : List DeviceStream). All (λ p. on p.interface ≡ (p.domain == c.args.domain)) (ports ls)) same all)
    (subst (λ (ls : List DeviceStream). DeviceStreamsStand ls outs ins) same keeps) t early id
    ∙ ap (λ (ls : List DeviceStream). frame_given_by c.args.domain id (changed_where on (λ interface. out_after_ticks t) outs) (ports ls) (frame_on (frames_at t c.args.rows.now) id)) (sym same)
