use Rattle.std.proofs.Common.{◌∙◌, ◌<◌, ap, map, subst, sym, List}
use Rattle.std.specs.List.{All}
use Rattle.uac_request.specs.Requests.{AreSettingsOf}
use Rattle.uac_device.specs.declared.clocks.DomainClock.{DomainClock}
use Rattle.uac_device.specs.DeviceKept.{IsDeviationInRange}
use Rattle.uac_device.proofs.DeviceKeptLemmas.{resting_domains, resting_phases, resting_range}
use Rattle.uac_device.specs.DeviceStreams.{ports}
use Rattle.uac_device.proofs.DeviceWorldLemmas.{fresh_stands}
use Rattle.uac_device.proofs.DeviceKeptStreamLemmas.{ports_idle}
use Rattle.uac_device.proofs.device.Device.new.Goals as goal

pub invariant_of-result : goal.invariant_of-result
invariant_of-result c =
    let resting = c.in_ok-parts.ensures.clocks in (
      record {
        store = c.in_ok-parts.ensures.of_function;
        interfaces =
            subst (AreSettingsOf c.args.function) (sym c.new-2.ensures) (c.each_interface_starts_with_a_setting.ensures c.args.function);
        wires = c.in_ok-parts.ensures.fitting;
        domains = ap (map (λ k. k.domain)) resting ∙ resting_domains c.args.function.domains;
        clocks = subst (λ (clocks : List DomainClock). All (λ k. IsDeviationInRange k.deviation) clocks) (sym resting) (resting_range c.args.function.domains);
        phases = subst (λ (clocks : List DomainClock). All (λ k. k.phase < 65536) clocks) (sym resting) (resting_phases c.args.function.domains);
        ports = ap ports c.in_ok-parts.ensures.device_streams ∙ ports_idle c.args.function.entities c.args.function.streams;
      },
      c.in_ok-parts.ensures.graph,
      c.in_ok-parts.ensures.derived,
      c.in_ok-parts.ensures.rows,
      c.in_ok-parts.ensures.room,
    )

pub returns : goal.returns
returns c =
    fresh_stands c.args.function c.in_ok-parts.parts.store c.new-2.result c.in_ok-parts.parts.moving.clocks.items c.in_ok-parts.parts.moving.wires c.in_ok-parts.parts.moving.device_streams c.in_ok-parts.parts.moving.rows c.in_ok-parts.ensures.store
    c.new-2.ensures c.in_ok-parts.ensures.clocks c.in_ok-parts.ensures.silent c.in_ok-parts.ensures.device_streams
