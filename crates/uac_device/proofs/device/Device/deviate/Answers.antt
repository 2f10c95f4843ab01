use Rattle.std.proofs.Common.{◌≡◌, ◌∙◌, ◌++◌, ◌<◌, ap, arith, drop, length, map, subst, sym, take, w32, ℤ, List}
use Rattle.std.proofs.lemmas.Int.{to_z-of_z}
use Rattle.std.specs.List.{All}
use Rattle.uac_device.specs.declared.clocks.DomainClock.{DomainClock}
use Rattle.uac_device.specs.DeviceKept.{DeviceFields, IsDeviationInRange, DeviceStands}
use Rattle.uac_device.specs.DeviceTurns.{clock_after_deviation}
use Rattle.uac_device.specs.contracts.device.Device.{the_view}
use Rattle.uac_device.proofs.DeviceKeptLemmas.{deviated_domains, deviated_phases, deviated_range, deviated_stands}
use Rattle.uac_device.proofs.ListChangeLemmas.{put_back}
use Rattle.uac_device.proofs.device.Device.deviate.Goals as goal

pub invariant_of-self : goal.invariant_of-self
invariant_of-self c =
    let turned : take c.self.inside.clocks.len (c.deviate.new.clocks ++ drop (length c.deviate.new.clocks) c.self.inside.clocks.items)
    ≡ map (clock_after_deviation c.args.domain c.args.ppm) c.self.inside.clocks.items =
    put_back c.self.inside.clocks.len c.deviate.new.clocks c.self.inside.clocks.items (omega arith)
    ∙ c.deviate.ensures
    ∙ ap (λ (ppm : ℤ). map (clock_after_deviation c.args.domain ppm) c.deref_mut.result.now) (to_z-of_z w32 c.args.ppm c.ranges.ppm)
    ∙ ap (map (clock_after_deviation c.args.domain c.args.ppm)) c.deref_mut.ensures.value in (
      record {
        store = c.self.invariant.0.store;
        interfaces = c.self.invariant.0.interfaces;
        wires = c.self.invariant.0.wires;
        domains =
            ap (map (λ k. k.domain)) turned
            ∙ deviated_domains c.args.domain c.args.ppm c.self.inside.clocks.items
            ∙ c.self.invariant.0.domains;
        clocks =
            subst (λ (clocks : List DomainClock). All (λ k. IsDeviationInRange k.deviation) clocks) (sym turned)
            (deviated_range c.args.domain c.args.ppm c.self.inside.clocks.items (c.requires.low, c.requires.high) c.self.invariant.0.clocks);
        phases =
            subst (λ (clocks : List DomainClock). All (λ k. k.phase < 65536) clocks) (sym turned)
            (deviated_phases c.args.domain c.args.ppm c.self.inside.clocks.items c.self.invariant.0.phases);
        ports = c.self.invariant.0.ports;
      },
      c.self.invariant.1,
      c.self.invariant.2,
      c.self.invariant.3,
      c.self.invariant.4,
    )

pub returns-clause-stands : goal.returns-clause-stands
returns-clause-stands c w stands =
    deviated_stands (the_view c.self.inside) _ c.args.domain c.args.ppm w
    (put_back c.self.inside.clocks.len c.deviate.new.clocks c.self.inside.clocks.items (omega arith)
    ∙ c.deviate.ensures
    ∙ ap (λ (ppm : ℤ). map (clock_after_deviation c.args.domain ppm) c.deref_mut.result.now) (to_z-of_z w32 c.args.ppm c.ranges.ppm)
    ∙ ap (map (clock_after_deviation c.args.domain c.args.ppm)) c.deref_mut.ensures.value)
    (subst (λ (device : DeviceFields). DeviceStands device w) (sym c.self.view_is) stands)
