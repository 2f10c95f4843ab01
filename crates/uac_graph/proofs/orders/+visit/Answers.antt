use Rattle.std.proofs.Common.{◌≡◌, ◌∙◌, sym, refl, ap, subst, arith, ℕ, List, false, ◌-◌, ◌<◌, length, get_or}
use Rattle.std.proofs.Math.Bool.{or-false}
use Rattle.uac_topology_rules.specs.Walk.{has_walk}
use Rattle.uac_entities.specs.declared.entity.Entity.{Entity}
use Rattle.uac_topology_rules.specs.Links.{is_clock, signal_links}
use Rattle.uac_topology_rules.specs.Table.{index_of}
use Rattle.uac_graph.specs.Meaning.{entity}
use Rattle.uac_graph.specs.Orders.{has_id}
use Rattle.uac_graph.proofs.OrdersOnceLemmas.{not_held_yet}
use Rattle.uac_graph.proofs.OrdersLemmas.{held_already, held_done, held_itself, held_more, order_more}
use Rattle.uac_graph.proofs.MeaningReachLemmas.{entity_read, links_some, source_signal, source_stops}
use Rattle.uac_graph.proofs.WiringWireLemmas.{signal_below}
use Rattle.uac_graph.proofs.orders.+visit.Goals as goal

pub returns-then-contains-clause-all : goal.returns-then-contains-clause-all
returns-then-contains-clause-all t c =
    held_already c.args.table.now c.args.indices.now.items c.as_slice.result.now c.args.links c.args.id c.index_of-index.result c.requires.sound c.requires.signal c.requires.order
    c.index_of-index.ensures c.as_slice.ensures.value (sym c.contains.ensures.value ∙ c.if-contains.true)

pub at-requires : goal.at-requires
at-requires t c = subst (λ (n : ℕ). n < length c.args.table.now) (sym c.index_of-index.ensures) (signal_below c.args.table.now c.args.id c.requires.signal)

pub loop-source-init : goal.loop-source-init
loop-source-init t c = record {
  order = c.requires.order;
  all = λ k. sym (or-false (has_id c.args.table.now c.args.indices.now.items k));
}

pub overflow_sub-links : goal.overflow_sub-links
overflow_sub-links t c = links_some (signal_links c.args.table.now) c.args.links (index_of c.args.table.now c.args.id) c.requires.ends

pub visit-requires : goal.visit-requires
visit-requires t c =
    let entities = c.args.table.now in
    let id = c.args.id in
    let i = c.loop-source.source-index in
    let here = entity_read entities entities id c.index_of-index.result c.at.result.now refl c.index_of-index.ensures c.at.ensures in
    let own = c.as_slice-source-items.ensures ∙ ap (λ (e : Entity). e.sources) here in
    let below = subst (λ (xs : List ℕ). i < length xs) own c.loop-source-test.true in
    let some = links_some (signal_links entities) c.args.links (index_of entities id) c.requires.ends in (
      omega (arith, some),
      (
        c.requires.sound,
        (
          subst (λ (xs : List ℕ). is_clock (entity entities (get_or xs i 0)).kind ≡ false) (sym own) (source_signal entities id i c.requires.sound c.requires.signal below),
          (
            subst (λ (xs : List ℕ). has_walk (signal_links entities) (c.args.links - 1) (index_of entities (get_or xs i 0)) ≡ false) (sym own)
                (source_stops entities c.args.links id i c.requires.signal below c.requires.ends),
            c.loop-source.invariant.order,
          ),
        ),
      ),
    )

pub loop-source-preserved : goal.loop-source-preserved
loop-source-preserved t c = record {
  order = c.in_ok-visit.ensures.order;
  all =
      held_more c.args.table.now (c.args.links - 1) c.loop-source.source-index c.as_slice-source-items.result.now c.args.indices.now.items c.loop-source.indices.items c.visit.new.indices.items
      c.loop-source-test.true c.loop-source.invariant.all c.in_ok-visit.ensures.all;
}

pub returns-clause-order : goal.returns-clause-order
returns-clause-order t c =
    let entities = c.args.table.now in
    let id = c.args.id in
    let index = c.index_of-index.result in
    let old = c.args.indices.now.items in
    let mid = c.loop-source.indices.items in
    let here = entity_read entities entities id index c.at.result.now refl c.index_of-index.ensures c.at.ensures in
    let done =
    held_done entities (c.args.links - 1) c.loop-source.source-index id c.at.result.now c.as_slice-source-items.result.now old mid
    c.requires.signal here c.as_slice-source-items.ensures c.loop-source-test.false c.loop-source.invariant.all in
    order_more entities (c.args.links - 1) id index old mid c.push.new.self.items c.requires.sound c.requires.signal
    c.index_of-index.ensures c.in_ok-push.ensures.items
    (not_held_yet entities (c.args.links - 1) id index old mid c.as_slice.result.now c.requires.sound c.requires.signal c.requires.order
    c.index_of-index.ensures c.as_slice.ensures.value (sym c.contains.ensures.value ∙ c.if-contains.false) done)
    c.loop-source.invariant.order done

pub returns-clause-all : goal.returns-clause-all
returns-clause-all t c =
    let entities = c.args.table.now in
    let id = c.args.id in
    let here = entity_read entities entities id c.index_of-index.result c.at.result.now refl c.index_of-index.ensures c.at.ensures in
    held_itself entities c.args.links id c.index_of-index.result c.args.indices.now.items c.loop-source.indices.items c.push.new.self.items c.requires.signal
    (links_some (signal_links entities) c.args.links (index_of entities id) c.requires.ends) c.index_of-index.ensures c.in_ok-push.ensures.items
    (held_done entities (c.args.links - 1) c.loop-source.source-index id c.at.result.now c.as_slice-source-items.result.now c.args.indices.now.items c.loop-source.indices.items
    c.requires.signal here c.as_slice-source-items.ensures c.loop-source-test.false c.loop-source.invariant.all)
