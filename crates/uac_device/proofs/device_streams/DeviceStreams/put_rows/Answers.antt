use Rattle.std.proofs.Common.{◌≡◌, ◌∙◌, ◌==◌, ◌<◌, ◌≤◌, ℕ, arith, ap, subst, sym, List, false, true, Some}
use Rattle.std.specs.List.{All}
use Rattle.uac_graph.specs.TickRows.{frames_at}
use Rattle.uac_graph.specs.Wiring.{frame_on}
use Rattle.uac_flow.specs.FlowTicks.{in_after_ticks}
use Rattle.uac_device.specs.declared.device_stream.DeviceStream.{DeviceStream}
use Rattle.uac_device.specs.InterfaceStreams.{changed_where}
use Rattle.uac_device.specs.DeviceStreams.{AreDeviceStreams, DeviceStreamsStand, ports}
use Rattle.uac_device.proofs.DeviceStreamsLemmas.{still_apart}
use Rattle.uac_device.proofs.ListChangeLemmas.{put_back}
use Rattle.uac_device.proofs.device_streams.DeviceStreams.put_rows.Goals as goal

pub invariant_of-self : goal.invariant_of-self
invariant_of-self c =
    subst AreDeviceStreams (sym (put_back c.self.inside.list.len c.put_all.new.device_streams c.self.inside.list.items (omega arith)))
    (record {
      each = c.put_all.ensures.sound;
      apart = still_apart c.self.inside.list.items c.put_all.new.device_streams (c.put_all.ensures.ports ∙ ap ports c.deref_mut.ensures.value) c.self.invariant.apart;
    })

pub returns-clause-stands : goal.returns-clause-stands
returns-clause-stands c on played outs ins all there keeps =
    let same = sym (c.deref_mut.ensures.value ∙ c.self.view_is) in
    subst (λ (ls : List DeviceStream). DeviceStreamsStand ls outs (changed_where on (λ interface. in_after_ticks (λ t. played t interface) c.args.ticks) ins))
    (sym (put_back c.self.inside.list.len c.put_all.new.device_streams c.self.inside.list.items (omega arith)))
    (c.put_all.ensures.stands on played outs ins (subst (λ (ls : List DeviceStream). All (λ p. on p.interface ≡ (p.domain == c.args.domain)) (ports ls)) same all)
    (subst (λ (ls : List DeviceStream). All (λ p. p.out ≡ false → 1 ≤ p.channels → (p.domain == c.args.domain) ≡ true → (t : ℕ) → t < c.args.ticks → frame_on (frames_at t c.args.rows.now) p.terminal ≡ Some (played t p.interface)) (ports ls)) same there)
    (subst (λ (ls : List DeviceStream). DeviceStreamsStand ls outs ins) same keeps))
