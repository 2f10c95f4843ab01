use Rattle.std.proofs.Common.{◌≡◌, ℕ, List, sym, ◌∙◌, subst}
use Rattle.uac_topology_rules.specs.Order.{IsClosed, IsOrder}
use Rattle.uac_topology_rules.specs.Links.{signal_links, clock_links}
use Rattle.uac_topology_rules.proofs.LinksLemmas.{signal_closed, clock_closed}
use Rattle.uac_topology_rules.proofs.WalkRulesLemmas.{walks_are}
use Rattle.uac_topology_rules.proofs.walks.walk.Goals as goal

pub sources_first_order-requires : goal.sources_first_order-requires
sources_first_order-requires c =
    let e : c.deref.result.now ≡ signal_links c.args.table.now = c.deref.ensures.value ∙ c.in_ok-links.ensures in
    subst IsClosed (sym e) (signal_closed c.args.table.now c.requires)

pub sources_first_order-requires-2 : goal.sources_first_order-requires-2
sources_first_order-requires-2 c =
    let e : c.deref-2.result.now ≡ clock_links c.args.table.now = c.deref-2.ensures.value ∙ c.in_ok-clock_links.ensures in
    subst IsClosed (sym e) (clock_closed c.args.table.now c.requires)

pub returns : goal.returns
returns c =
    let es = c.args.table.now in
    let e : c.deref-3.result.now ≡ signal_links es = c.deref-3.ensures.value ∙ c.in_ok-links.ensures in
    let f : c.deref-5.result.now ≡ clock_links es = c.deref-5.ensures.value ∙ c.in_ok-clock_links.ensures in
    record {
      linked = c.in_ok-links.ensures;
      ordered = subst (λ (g : List (List ℕ)). IsOrder g c.in_ok-order.order.items) c.deref.ensures.value c.in_ok-order.ensures;
      judged =
          c.or-fault.ensures
          ∙ walks_are es c.deref-3.result.now c.deref-5.result.now e f c.judge-signal_fault.result c.judge-clock_fault.result
          c.judge-signal_fault.ensures c.judge-clock_fault.ensures;
    }

pub judge-signal_fault-requires-clause-closed : goal.judge-signal_fault-requires-clause-closed
judge-signal_fault-requires-clause-closed c =
    let e : c.deref-3.result.now ≡ signal_links c.args.table.now = c.deref-3.ensures.value ∙ c.in_ok-links.ensures in
    subst IsClosed (sym e) (signal_closed c.args.table.now c.requires)

pub judge-clock_fault-requires-clause-closed : goal.judge-clock_fault-requires-clause-closed
judge-clock_fault-requires-clause-closed c =
    let e : c.deref-5.result.now ≡ clock_links c.args.table.now = c.deref-5.ensures.value ∙ c.in_ok-clock_links.ensures in
    subst IsClosed (sym e) (clock_closed c.args.table.now c.requires)
