use Rattle.std.proofs.Common.{◌≡◌, ◌∙◌, ◌++◌, ◌<◌, ap, arith, drop, length, map, subst, sym, take, ℕ, List}
use Rattle.std.specs.List.{All}
use Rattle.uac_store.specs.Rates.{rate_of}
use Rattle.uac_device.specs.declared.clocks.DomainClock.{DomainClock}
use Rattle.uac_device.specs.DeviceKept.{DeviceFields, IsDeviationInRange, DeviceStands}
use Rattle.uac_device.specs.DeviceTurns.{clock_after_advances, first_ticks}
use Rattle.uac_device.specs.contracts.device.Device.{the_view}
use Rattle.uac_device.proofs.DeviceTurnsTickLemmas.{few_ticks, rated_nominal}
use Rattle.uac_device.proofs.DeviceKeptLemmas.{advanced_domains, advanced_phases, advanced_range}
use Rattle.uac_device.proofs.DeviceSumsLemmas.{over_stands, ticks_same}
use Rattle.uac_flow.specs.FlowStreams.{after_ticks}
use Rattle.uac_device.specs.InterfaceStreams.{changed_where}
use Rattle.uac_device.specs.DeviceWorld.{is_on}
use Rattle.uac_device.specs.DeviceSums.{ticks_over}
use Rattle.uac_device.specs.DeviceStreams.{DeviceStreamsStand}
use Rattle.uac_device.proofs.DeviceKeptStreamLemmas.{ports_on}
use Rattle.uac_device.proofs.ListChangeLemmas.{put_back}
use Rattle.uac_device.proofs.device.Device.ticks_over.Goals as goal

pub invariant_of-self : goal.invariant_of-self
invariant_of-self c =
    let turned : take c.self.inside.clocks.len (c.advance_over-ticks.new.clocks ++ drop (length c.advance_over-ticks.new.clocks) c.self.inside.clocks.items)
    ≡ map (clock_after_advances c.args.domain c.values-values.result c.args.microframes) c.self.inside.clocks.items =
    put_back c.self.inside.clocks.len c.advance_over-ticks.new.clocks c.self.inside.clocks.items (omega arith)
    ∙ c.advance_over-ticks.ensures.clocks ∙ ap (map (clock_after_advances c.args.domain c.values-values.result c.args.microframes)) c.deref_mut.ensures.value in (
      record {
        store = c.self.invariant.0.store;
        interfaces = c.self.invariant.0.interfaces;
        wires = c.self.invariant.0.wires;
        domains =
            ap (map (λ k. k.domain)) turned
            ∙ advanced_domains c.args.domain c.values-values.result c.args.microframes c.self.inside.clocks.items
            ∙ c.self.invariant.0.domains;
        clocks =
            subst (λ (clocks : List DomainClock). All (λ k. IsDeviationInRange k.deviation) clocks) (sym turned)
            (advanced_range c.args.domain c.values-values.result c.args.microframes c.self.inside.clocks.items c.self.invariant.0.clocks);
        phases =
            subst (λ (clocks : List DomainClock). All (λ k. k.phase < 65536) clocks) (sym turned)
            (advanced_phases c.args.domain c.values-values.result c.args.microframes c.self.inside.clocks.items c.self.invariant.0.phases);
        ports = c.count.ensures.ports ∙ c.self.invariant.0.ports;
      },
      c.self.invariant.1,
      c.self.invariant.2,
      c.self.invariant.3,
      c.self.invariant.4,
    )

pub returns-clause-stands : goal.returns-clause-stands
returns-clause-stands c w stands =
    let rated = c.values-values.ensures in
    let here = subst (λ (device : DeviceFields). DeviceStands device w) (sym c.self.view_is) stands in
    let numbered = c.interfaces_are_numbered.ensures c.self.inside.function c.functions_are_sound.ensures in
    let ticks : c.advance_over-ticks.result ≡ ticks_over c.args.domain c.args.microframes w =
    c.advance_over-ticks.ensures.ticks
    ∙ ap (first_ticks c.args.domain c.values-values.result c.args.microframes) c.deref_mut.ensures.value
    ∙ ticks_same (the_view c.self.inside) c.args.domain c.values-values.result c.args.microframes w rated here in
    over_stands (the_view c.self.inside) _ c.count.new.self c.args.domain c.values-values.result c.args.microframes w rated
    (put_back c.self.inside.clocks.len c.advance_over-ticks.new.clocks c.self.inside.clocks.items (omega arith)
    ∙ c.advance_over-ticks.ensures.clocks ∙ ap (map (clock_after_advances c.args.domain c.values-values.result c.args.microframes)) c.deref_mut.ensures.value)
    (subst (λ (n : ℕ). DeviceStreamsStand c.count.new.self (changed_where (is_on w c.args.domain) (λ interface. after_ticks n) w.outs) w.ins) ticks
    (c.count.ensures.stands (is_on w c.args.domain) w.outs w.ins (ports_on (the_view c.self.inside) w c.args.domain numbered c.self.invariant.0 here) here.streams))
    here

pub returns-clause-ticks : goal.returns-clause-ticks
returns-clause-ticks c w stands =
    let rated = c.values-values.ensures in
    c.advance_over-ticks.ensures.ticks
    ∙ ap (first_ticks c.args.domain c.values-values.result c.args.microframes) c.deref_mut.ensures.value
    ∙ ticks_same (the_view c.self.inside) c.args.domain c.values-values.result c.args.microframes w rated (subst (λ (device : DeviceFields). DeviceStands device w) (sym c.self.view_is) stands)

pub returns-clause-few : goal.returns-clause-few
returns-clause-few c =
    let rated = c.values-values.ensures in
    let few =
    few_ticks c.args.domain c.values-values.result c.args.microframes c.self.inside.clocks.items
    (λ nominal is. rated_nominal (rate_of c.self.inside.function.entities c.self.inside.store c.args.domain) nominal (sym rated ∙ is))
    c.self.invariant.0.clocks c.self.invariant.0.phases in
    let told = c.advance_over-ticks.ensures.ticks ∙ ap (first_ticks c.args.domain c.values-values.result c.args.microframes) c.deref_mut.ensures.value in
    omega (arith, few, told)
