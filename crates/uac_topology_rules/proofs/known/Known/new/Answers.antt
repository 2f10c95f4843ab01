use Rattle.std.proofs.Common.{ℕ, List, sym, subst}
use Rattle.uac_topology_rules.specs.Signals.{IsWalkable}
use Rattle.uac_topology_rules.proofs.SignalsLemmas.{walkable_is, known_is}
use Rattle.uac_topology_rules.proofs.known.Known.new.Goals as goal

pub clusters_of-requires : goal.clusters_of-requires
clusters_of-requires c =
    let w = c.args.walked in
    let r = walkable_is c.args.table w.links.items w.order.items w.fault c.requires.walked c.requires.ends in
    subst (λ (g : List (List ℕ)). IsWalkable c.args.table g c.deref-2.result.now) (sym c.deref.ensures.value)
    (subst (λ (o : List ℕ). IsWalkable c.args.table w.links.items o) (sym c.deref-2.ensures.value) r)

pub clocks_of-requires : goal.clocks_of-requires
clocks_of-requires c =
    let w = c.args.walked in
    let r = walkable_is c.args.table w.links.items w.order.items w.fault c.requires.walked c.requires.ends in
    subst (λ (g : List (List ℕ)). IsWalkable c.args.table g c.deref-4.result.now) (sym c.deref-3.ensures.value)
    (subst (λ (o : List ℕ). IsWalkable c.args.table w.links.items o) (sym c.deref-4.ensures.value) r)

pub invariant_of-result : goal.invariant_of-result
invariant_of-result c =
    let w = c.args.walked in
    known_is c.args.table w.links.items w.order.items w.fault c.in_ok-clusters.clusters.items c.in_ok-clocks.clocks.items
    c.requires.named c.requires.walked c.in_ok-clusters.ensures c.in_ok-clocks.ensures
