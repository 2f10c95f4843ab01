use Rattle.std.proofs.Common.{◌∙◌, ◌+◌, [], ap, arith, subst, length, ℕ}
use Rattle.uac_graph.specs.Fitness.{IsSignalGraph}
use Rattle.uac_graph.specs.Needs.{depends_on, needed_units}
use Rattle.uac_graph.specs.Wiring.{AreRendered, samples_on}
use Rattle.uac_graph.proofs.WiringOrderLemmas.{all_rendered, none_rendered, order_for}
use Rattle.uac_graph.proofs.NeedsLemmas.{all_units}
use Rattle.uac_graph.proofs.graph.Graph.tick_by.Goals as goal

pub follow-requires-clause-order : goal.follow-requires-clause-order
follow-requires-clause-order g c =
    (c.in-Some.ensures.found c.args.self.now (order_for c.args.self.now c.self.inside.table c.self.inside.orders.items c.deref.result.now c.self.view_is c.deref.ensures.value c.self.invariant.1)).1

pub follow-requires-clause-room : goal.follow-requires-clause-room
follow-requires-clause-room g c =
    let found = c.in-Some.ensures.found c.args.self.now (order_for c.args.self.now c.self.inside.table c.self.inside.orders.items c.deref.result.now c.self.view_is c.deref.ensures.value c.self.invariant.1) in
    omega (arith, c.requires.room, ap (λ (d : ℕ). length (needed_units c.args.self.now d)) found.0)

pub returns-in-Some-clause-rendered : goal.returns-in-Some-clause-rendered
returns-in-Some-clause-rendered g c controls are =
    let found = c.in-Some.ensures.found c.args.self.now (order_for c.args.self.now c.self.inside.table c.self.inside.orders.items c.deref.result.now c.self.view_is c.deref.ensures.value c.self.invariant.1) in
    subst (λ (d : ℕ). AreRendered c.args.self.now controls (samples_on c.args.wires.now) (depends_on c.args.self.now d) c.args.wires.now c.follow.new.wires) found.0
    (c.follow.ensures.rendered controls are)

pub returns-in-Some-clause-once : goal.returns-in-Some-clause-once
returns-in-Some-clause-once g c =
    let found = c.in-Some.ensures.found c.args.self.now (order_for c.args.self.now c.self.inside.table c.self.inside.orders.items c.deref.result.now c.self.view_is c.deref.ensures.value c.self.invariant.1) in
    c.follow.ensures.once ∙ ap (λ (d : ℕ). c.args.steps.now + length (needed_units c.args.self.now d)) found.0

pub returns-in-None-clause-rendered : goal.returns-in-None-clause-rendered
returns-in-None-clause-rendered g c controls are =
    let none = c.in-None.ensures.none c.args.self.now (order_for c.args.self.now c.self.inside.table c.self.inside.orders.items c.deref.result.now c.self.view_is c.deref.ensures.value c.self.invariant.1) in
    all_rendered c.args.self.now controls (samples_on c.args.wires.now) c.args.domain 0 [] c.args.wires.now c.args.wires.now none (omega arith)
    (none_rendered c.args.self.now controls (samples_on c.args.wires.now) [] c.args.wires.now)

pub returns-in-None-clause-once : goal.returns-in-None-clause-once
returns-in-None-clause-once g c =
    let none = c.in-None.ensures.none c.args.self.now (order_for c.args.self.now c.self.inside.table c.self.inside.orders.items c.deref.result.now c.self.view_is c.deref.ensures.value c.self.invariant.1) in
    omega (arith, all_units c.args.self.now c.args.domain [] (subst IsSignalGraph c.self.view_is c.self.invariant.0) none)

pub follow-requires-clause-sound : goal.follow-requires-clause-sound
follow-requires-clause-sound g c = subst IsSignalGraph c.self.view_is c.self.invariant.0
