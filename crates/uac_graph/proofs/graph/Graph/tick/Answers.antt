use Rattle.std.proofs.Common.{◌+◌, ap, arith, subst, ℕ}
use Rattle.uac_graph.specs.GraphControls.{controls_in}
use Rattle.uac_graph.specs.Fitness.{IsSignalGraph}
use Rattle.uac_graph.specs.Wiring.{samples_on}
use Rattle.uac_graph.proofs.WiringOrderLemmas.{all_rendered, none_rendered, order_for, step_rendered}
use Rattle.uac_graph.proofs.NeedsLemmas.{all_units, units_end, units_next}
use Rattle.uac_graph.proofs.WiringTerminalLemmas.{given_held}
use Rattle.uac_graph.proofs.graph.Graph.tick.Goals as goal

pub loop-index-init : goal.loop-index-init
loop-index-init g c =
    let order = c.indices_for-index-items.ensures c.args.self.now (order_for c.args.self.now c.self.inside.table c.self.inside.orders.items c.deref.result.now c.self.view_is c.deref.ensures.value c.self.invariant.1) in
    record {
      rendered = none_rendered c.args.self.now (controls_in c.args.store.now) (samples_on c.args.wires.now) c.indices_for-index-items.result.now c.args.wires.now;
      fitting = c.requires.wires;
      counted =
          ap (λ (n : ℕ). c.args.steps.now + n)
          (all_units c.args.self.now c.args.domain c.indices_for-index-items.result.now (subst IsSignalGraph c.self.view_is c.self.invariant.0) order);
    }

pub render-requires-clause-inside : goal.render-requires-clause-inside
render-requires-clause-inside g c =
    let order = c.indices_for-index-items.ensures c.args.self.now (order_for c.args.self.now c.self.inside.table c.self.inside.orders.items c.deref.result.now c.self.view_is c.deref.ensures.value c.self.invariant.1) in
    order.order.inside c.loop-index.index-index 0 c.loop-index-test.true

pub render-requires-clause-signal : goal.render-requires-clause-signal
render-requires-clause-signal g c =
    let order = c.indices_for-index-items.ensures c.args.self.now (order_for c.args.self.now c.self.inside.table c.self.inside.orders.items c.deref.result.now c.self.view_is c.deref.ensures.value c.self.invariant.1) in
    order.order.signal c.loop-index.index-index 0 c.loop-index-test.true

pub render-requires-clause-wires : goal.render-requires-clause-wires
render-requires-clause-wires g c = c.loop-index.invariant.fitting

pub render-requires-clause-room : goal.render-requires-clause-room
render-requires-clause-room g c =
    omega (
      arith,
      c.requires.room,
      c.loop-index.invariant.counted,
      units_next c.args.self.now c.indices_for-index-items.result.now c.loop-index.index-index c.loop-index-test.true,
    )

pub loop-index-preserved : goal.loop-index-preserved
loop-index-preserved g c =
    let order = c.indices_for-index-items.ensures c.args.self.now (order_for c.args.self.now c.self.inside.table c.self.inside.orders.items c.deref.result.now c.self.view_is c.deref.ensures.value c.self.invariant.1) in
    record {
      rendered =
          step_rendered c.args.self.now (controls_in c.args.store.now) (samples_on c.args.wires.now) c.indices_for-index-items.result.now c.loop-index.index-index
          c.args.wires.now c.loop-index.wires c.render.new.wires (subst IsSignalGraph c.self.view_is c.self.invariant.0) order.order c.loop-index-test.true
          (given_held c.args.self.now c.args.wires.now c.requires.wires) c.loop-index.invariant.rendered c.render.ensures.rendered;
      fitting = c.render.ensures.fitting;
      counted =
          omega (
            arith,
            c.render.ensures.counted,
            c.loop-index.invariant.counted,
            units_next c.args.self.now c.indices_for-index-items.result.now c.loop-index.index-index c.loop-index-test.true,
          );
    }

pub returns-clause-rendered : goal.returns-clause-rendered
returns-clause-rendered g c =
    let order = c.indices_for-index-items.ensures c.args.self.now (order_for c.args.self.now c.self.inside.table c.self.inside.orders.items c.deref.result.now c.self.view_is c.deref.ensures.value c.self.invariant.1) in
    all_rendered c.args.self.now (controls_in c.args.store.now) (samples_on c.args.wires.now) c.args.domain c.loop-index.index-index c.indices_for-index-items.result.now
    c.args.wires.now c.loop-index.wires order c.loop-index-test.false c.loop-index.invariant.rendered

pub returns-clause-fitting : goal.returns-clause-fitting
returns-clause-fitting g c = c.loop-index.invariant.fitting

pub returns-clause-once : goal.returns-clause-once
returns-clause-once g c =
    omega (
      arith,
      c.loop-index.invariant.counted,
      units_end c.args.self.now c.indices_for-index-items.result.now c.loop-index.index-index c.loop-index-test.false,
    )
