use Rattle.std.proofs.Common.{◌≡◌, ◌∙◌, ◌+◌, ◌<◌, ap, sym, arith, subst, false, ℕ, length}
use Rattle.uac_topology_rules.specs.Table.{at}
use Rattle.uac_topology_rules.specs.Links.{is_clock}
use Rattle.uac_graph.specs.Orders.{frame_after}
use Rattle.uac_graph.specs.Wiring.{samples_on}
use Rattle.uac_graph.proofs.TasksOrderLemmas.{next_counted, next_of, skips_last}
use Rattle.uac_graph.proofs.WiringOrderLemmas.{all_rendered, none_rendered, step_rendered}
use Rattle.uac_graph.proofs.NeedsLemmas.{all_units, units_end}
use Rattle.uac_graph.proofs.WiringTerminalLemmas.{given_held}
use Rattle.uac_graph.proofs.graph.Graph.follow.Goals as goal

pub loop-task-init : goal.loop-task-init
loop-task-init g c = record {
  done = record {
    upto = 0;
    inside = omega arith;
    left = c.as_slice-task-items.ensures.value ∙ c.requires.order.tasks_of;
    rendered = λ controls are. none_rendered c.args.self.now controls (samples_on c.args.wires.now) c.args.order.now.indices.items c.args.wires.now;
    counted =
        ap (λ (n : ℕ). c.args.steps.now + n)
        (all_units c.args.self.now c.args.order.now.domain c.args.order.now.indices.items c.requires.sound c.requires.order.order_of);
  };
  fitting = c.requires.wires;
}

pub carry_out-requires-clause-task : goal.carry_out-requires-clause-task
carry_out-requires-clause-task g c =
    (next_of c.requires.sound c.requires.order.order_of.order c.loop-task.invariant.done c.loop-task-test.true).works

pub carry_out-requires-clause-inside : goal.carry_out-requires-clause-inside
carry_out-requires-clause-inside g c =
    let next = next_of c.requires.sound c.requires.order.order_of.order c.loop-task.invariant.done c.loop-task-test.true in
    subst (λ (n : ℕ). n < length c.args.self.now) (sym next.named) (c.requires.order.order_of.order.inside next.next 0 next.below)

pub carry_out-requires-clause-signal : goal.carry_out-requires-clause-signal
carry_out-requires-clause-signal g c =
    let next = next_of c.requires.sound c.requires.order.order_of.order c.loop-task.invariant.done c.loop-task-test.true in
    subst (λ (n : ℕ). is_clock (at c.args.self.now n).kind ≡ false) (sym next.named) (c.requires.order.order_of.order.signal next.next 0 next.below)

pub carry_out-requires-clause-worked : goal.carry_out-requires-clause-worked
carry_out-requires-clause-worked g c =
    (next_of c.requires.sound c.requires.order.order_of.order c.loop-task.invariant.done c.loop-task-test.true).worked

pub carry_out-requires-clause-wires : goal.carry_out-requires-clause-wires
carry_out-requires-clause-wires g c = c.loop-task.invariant.fitting

pub carry_out-requires-clause-room : goal.carry_out-requires-clause-room
carry_out-requires-clause-room g c =
    omega (
      arith,
      c.requires.room,
      next_counted c.requires.sound c.requires.order.order_of.order c.loop-task.invariant.done c.loop-task-test.true,
    )

pub loop-task-preserved : goal.loop-task-preserved
loop-task-preserved g c =
    let done = c.loop-task.invariant.done in
    let next = next_of c.requires.sound c.requires.order.order_of.order done c.loop-task-test.true in
    let below = next.below in
    record {
      done = record {
        upto = next.next + 1;
        inside = omega (arith, below);
        left = next.left;
        rendered = λ controls jobs_are.
            step_rendered c.args.self.now controls (samples_on c.args.wires.now) c.args.order.now.indices.items next.next
            c.args.wires.now c.loop-task.wires c.carry_out.new.wires c.requires.sound c.requires.order.order_of.order next.below
            (given_held c.args.self.now c.args.wires.now c.requires.wires)
            (next.skips.rendered controls (samples_on c.args.wires.now) c.args.wires.now c.loop-task.wires
            (given_held c.args.self.now c.args.wires.now c.requires.wires) (done.rendered controls jobs_are))
            (λ id.
            c.carry_out.ensures.rendered controls jobs_are id
            ∙ ap (λ (n : ℕ). frame_after c.args.self.now controls n c.loop-task.wires id) next.named);
        counted =
            omega (
              arith,
              c.carry_out.ensures.counted,
              next_counted c.requires.sound c.requires.order.order_of.order done c.loop-task-test.true,
            );
      };
      fitting = c.carry_out.ensures.fitting;
    }

pub returns-clause-rendered : goal.returns-clause-rendered
returns-clause-rendered g c controls jobs_are =
    let done = c.loop-task.invariant.done in
    let last = skips_last c.requires.sound c.requires.order.order_of.order done c.loop-task-test.false in
    all_rendered c.args.self.now controls (samples_on c.args.wires.now) c.args.order.now.domain (length c.args.order.now.indices.items) c.args.order.now.indices.items
    c.args.wires.now c.loop-task.wires c.requires.order.order_of (omega arith)
    (last.rendered controls (samples_on c.args.wires.now) c.args.wires.now c.loop-task.wires
    (given_held c.args.self.now c.args.wires.now c.requires.wires) (done.rendered controls jobs_are))

pub returns-clause-fitting : goal.returns-clause-fitting
returns-clause-fitting g c = c.loop-task.invariant.fitting

pub returns-clause-once : goal.returns-clause-once
returns-clause-once g c =
    let done = c.loop-task.invariant.done in
    let last = skips_last c.requires.sound c.requires.order.order_of.order done c.loop-task-test.false in
    let counted = done.counted in
    let units = last.units in
    omega (
      arith,
      counted,
      units,
      units_end c.args.self.now c.args.order.now.indices.items (length c.args.order.now.indices.items) (omega arith),
    )
