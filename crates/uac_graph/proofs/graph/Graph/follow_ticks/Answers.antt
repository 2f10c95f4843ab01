use Rattle.std.proofs.Common.{◌≡◌, ◌∙◌, ◌+◌, ◌*◌, ◌<◌, ap, sym, refl, arith, subst, false, ℕ, length}
use Rattle.uac_topology_rules.specs.Table.{at}
use Rattle.uac_topology_rules.specs.Links.{is_clock}
use Rattle.uac_graph.specs.Orders.{frame_after}
use Rattle.uac_graph.specs.TickRows.{frames_at}
use Rattle.uac_graph.specs.Wiring.{samples_on}
use Rattle.uac_graph.proofs.TickRowsLemmas.{wires_kept}
use Rattle.uac_graph.proofs.TickTasksLemmas.{next_at, next_counted_at, skips_last_at}
use Rattle.uac_graph.proofs.WiringOrderLemmas.{all_rendered, none_rendered, step_rendered}
use Rattle.uac_graph.proofs.NeedsLemmas.{all_units, units_end}
use Rattle.uac_graph.proofs.WiringTerminalLemmas.{given_held}
use Rattle.uac_graph.proofs.graph.Graph.follow_ticks.Goals as goal

pub loop-task-init : goal.loop-task-init
loop-task-init g c = record {
  done = record {
    upto = 0;
    inside = omega arith;
    left = c.as_slice-task-items.ensures.value ∙ c.requires.order.tasks_of;
    rendered = λ controls are tick early.
        none_rendered c.args.self.now controls (samples_on (frames_at tick c.args.wires.now)) c.args.order.now.indices.items (frames_at tick c.args.wires.now);
    counted =
        ap (λ (n : ℕ). c.args.steps.now + c.args.ticks * n)
        (all_units c.args.self.now c.args.order.now.domain c.args.order.now.indices.items c.requires.sound c.requires.order.order_of);
  };
  lengths = refl;
  room = refl;
}

pub carry_out_ticks-requires-clause-task : goal.carry_out_ticks-requires-clause-task
carry_out_ticks-requires-clause-task g c =
    (next_at c.requires.sound c.requires.order.order_of.order c.loop-task.invariant.done c.loop-task-test.true).works

pub carry_out_ticks-requires-clause-inside : goal.carry_out_ticks-requires-clause-inside
carry_out_ticks-requires-clause-inside g c =
    let next = next_at c.requires.sound c.requires.order.order_of.order c.loop-task.invariant.done c.loop-task-test.true in
    subst (λ (n : ℕ). n < length c.args.self.now) (sym next.named) (c.requires.order.order_of.order.inside next.next 0 next.below)

pub carry_out_ticks-requires-clause-signal : goal.carry_out_ticks-requires-clause-signal
carry_out_ticks-requires-clause-signal g c =
    let next = next_at c.requires.sound c.requires.order.order_of.order c.loop-task.invariant.done c.loop-task-test.true in
    subst (λ (n : ℕ). is_clock (at c.args.self.now n).kind ≡ false) (sym next.named) (c.requires.order.order_of.order.signal next.next 0 next.below)

pub carry_out_ticks-requires-clause-worked : goal.carry_out_ticks-requires-clause-worked
carry_out_ticks-requires-clause-worked g c =
    (next_at c.requires.sound c.requires.order.order_of.order c.loop-task.invariant.done c.loop-task-test.true).worked

pub carry_out_ticks-requires-clause-wires : goal.carry_out_ticks-requires-clause-wires
carry_out_ticks-requires-clause-wires g c = λ tick.
    wires_kept c.args.self.now c.args.wires.now.slots c.loop-task.wires.slots tick tick c.loop-task.invariant.lengths (c.requires.wires tick)

pub carry_out_ticks-requires-clause-ticks : goal.carry_out_ticks-requires-clause-ticks
carry_out_ticks-requires-clause-ticks g c = omega (arith, c.loop-task.invariant.room, c.requires.ticks)

pub carry_out_ticks-requires-clause-room : goal.carry_out_ticks-requires-clause-room
carry_out_ticks-requires-clause-room g c =
    omega (
      arith,
      c.requires.room,
      next_counted_at c.requires.sound c.requires.order.order_of.order c.loop-task.invariant.done c.loop-task-test.true,
    )

pub loop-task-preserved : goal.loop-task-preserved
loop-task-preserved g c =
    let done = c.loop-task.invariant.done in
    let next = next_at c.requires.sound c.requires.order.order_of.order done c.loop-task-test.true in
    let below = next.below in
    record {
      done = record {
        upto = next.next + 1;
        inside = omega (arith, below);
        left = next.left;
        rendered = λ controls jobs_are tick early.
            let old = frames_at tick c.args.wires.now in
            let given = given_held c.args.self.now old (c.requires.wires tick) in
            step_rendered c.args.self.now controls (samples_on old) c.args.order.now.indices.items next.next
            old (frames_at tick c.loop-task.wires) (frames_at tick c.carry_out_ticks.new.wires) c.requires.sound c.requires.order.order_of.order next.below given
            (next.skips.rendered controls (samples_on old) old (frames_at tick c.loop-task.wires) given (done.rendered controls jobs_are tick early))
            (λ id.
            c.carry_out_ticks.ensures.rendered controls jobs_are tick early id
            ∙ ap (λ (n : ℕ). frame_after c.args.self.now controls n (frames_at tick c.loop-task.wires) id) next.named);
        counted =
            omega (
              arith,
              c.carry_out_ticks.ensures.counted,
              next_counted_at c.requires.sound c.requires.order.order_of.order done c.loop-task-test.true,
            );
      };
      lengths = c.carry_out_ticks.ensures.lengths ∙ c.loop-task.invariant.lengths;
      room = c.carry_out_ticks.ensures.room ∙ c.loop-task.invariant.room;
    }

pub returns-clause-rendered : goal.returns-clause-rendered
returns-clause-rendered g c controls jobs_are tick early =
    let done = c.loop-task.invariant.done in
    let last = skips_last_at c.requires.sound c.requires.order.order_of.order done c.loop-task-test.false in
    let old = frames_at tick c.args.wires.now in
    all_rendered c.args.self.now controls (samples_on old) c.args.order.now.domain (length c.args.order.now.indices.items) c.args.order.now.indices.items
    old (frames_at tick c.loop-task.wires) c.requires.order.order_of (omega arith)
    (last.rendered controls (samples_on old) old (frames_at tick c.loop-task.wires)
    (given_held c.args.self.now old (c.requires.wires tick)) (done.rendered controls jobs_are tick early))

pub returns-clause-once : goal.returns-clause-once
returns-clause-once g c =
    let done = c.loop-task.invariant.done in
    let last = skips_last_at c.requires.sound c.requires.order.order_of.order done c.loop-task-test.false in
    let counted = done.counted in
    omega (
      arith,
      counted,
      ap (λ (n : ℕ). c.args.ticks * n)
          (last.units ∙ units_end c.args.self.now c.args.order.now.indices.items (length c.args.order.now.indices.items) (omega arith)),
    )
