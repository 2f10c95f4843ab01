use Rattle.std.proofs.Common.{◌∙◌, ◌+◌, ◌*◌, [], ap, arith, subst, length, ℕ}
use Rattle.uac_graph.specs.Fitness.{IsSignalGraph}
use Rattle.uac_graph.specs.Needs.{depends_on, needed_units}
use Rattle.uac_graph.specs.TickRows.{frames_at}
use Rattle.uac_graph.specs.Wiring.{AreRendered, samples_on}
use Rattle.uac_graph.proofs.TickRowsLemmas.{wires_kept}
use Rattle.uac_graph.proofs.WiringOrderLemmas.{all_rendered, none_rendered, order_for}
use Rattle.uac_graph.proofs.NeedsLemmas.{all_units}
use Rattle.uac_graph.proofs.graph.Graph.ticks_by.Goals as goal

pub follow_ticks-requires-clause-order : goal.follow_ticks-requires-clause-order
follow_ticks-requires-clause-order g c =
    (c.in-Some.ensures.found c.args.self.now (order_for c.args.self.now c.self.inside.table c.self.inside.orders.items c.deref.result.now c.self.view_is c.deref.ensures.value c.self.invariant.1)).1

pub follow_ticks-requires-clause-room : goal.follow_ticks-requires-clause-room
follow_ticks-requires-clause-room g c =
    let found = c.in-Some.ensures.found c.args.self.now (order_for c.args.self.now c.self.inside.table c.self.inside.orders.items c.deref.result.now c.self.view_is c.deref.ensures.value c.self.invariant.1) in
    omega (arith, c.requires.room, ap (λ (d : ℕ). c.args.ticks * length (needed_units c.args.self.now d)) found.0)

pub follow_ticks-requires-clause-sound : goal.follow_ticks-requires-clause-sound
follow_ticks-requires-clause-sound g c = subst IsSignalGraph c.self.view_is c.self.invariant.0

pub returns-in-Some-clause-rendered : goal.returns-in-Some-clause-rendered
returns-in-Some-clause-rendered g c controls are tick early =
    let found = c.in-Some.ensures.found c.args.self.now (order_for c.args.self.now c.self.inside.table c.self.inside.orders.items c.deref.result.now c.self.view_is c.deref.ensures.value c.self.invariant.1) in
    let old = frames_at tick c.args.wires.now in
    subst (λ (d : ℕ). AreRendered c.args.self.now controls (samples_on old) (depends_on c.args.self.now d) old (frames_at tick c.follow_ticks.new.wires)) found.0
    (c.follow_ticks.ensures.rendered controls are tick early)

pub returns-in-Some-clause-fitting : goal.returns-in-Some-clause-fitting
returns-in-Some-clause-fitting g c = λ tick.
    wires_kept c.args.self.now c.args.wires.now.slots c.follow_ticks.new.wires.slots tick tick c.follow_ticks.ensures.lengths (c.requires.wires tick)

pub returns-in-Some-clause-once : goal.returns-in-Some-clause-once
returns-in-Some-clause-once g c =
    let found = c.in-Some.ensures.found c.args.self.now (order_for c.args.self.now c.self.inside.table c.self.inside.orders.items c.deref.result.now c.self.view_is c.deref.ensures.value c.self.invariant.1) in
    c.follow_ticks.ensures.once ∙ ap (λ (d : ℕ). c.args.steps.now + c.args.ticks * length (needed_units c.args.self.now d)) found.0

pub returns-in-None-clause-rendered : goal.returns-in-None-clause-rendered
returns-in-None-clause-rendered g c controls are tick early =
    let none = c.in-None.ensures.none c.args.self.now (order_for c.args.self.now c.self.inside.table c.self.inside.orders.items c.deref.result.now c.self.view_is c.deref.ensures.value c.self.invariant.1) in
    let old = frames_at tick c.args.wires.now in
    all_rendered c.args.self.now controls (samples_on old) c.args.domain 0 [] old old none (omega arith)
    (none_rendered c.args.self.now controls (samples_on old) [] old)

pub returns-in-None-clause-once : goal.returns-in-None-clause-once
returns-in-None-clause-once g c =
    let none = c.in-None.ensures.none c.args.self.now (order_for c.args.self.now c.self.inside.table c.self.inside.orders.items c.deref.result.now c.self.view_is c.deref.ensures.value c.self.invariant.1) in
    omega (arith, ap (λ (n : ℕ). c.args.ticks * n) (all_units c.args.self.now c.args.domain [] (subst IsSignalGraph c.self.view_is c.self.invariant.0) none))
