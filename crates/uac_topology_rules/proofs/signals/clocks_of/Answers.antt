use Rattle.std.proofs.Common.{◌≡◌, ◌<◌, ℕ, List, [], length, get_or, arith, ap, ◌∙◌, subst}
use Rattle.std.proofs.lemmas.List.{get_or_read}
use Rattle.uac_topology_rules.specs.Walk.{links}
use Rattle.uac_entities.specs.declared.entity.Entity.{Entity}
use Rattle.uac_topology_rules.specs.declared.signals.Behind.{Behind}
use Rattle.uac_topology_rules.specs.declared.signals.Behind.TheVariants as clocks
use Rattle.uac_topology_rules.specs.Clusters.{clocks_by}
use Rattle.uac_topology_rules.specs.Behind.{Summarizes}
use Rattle.uac_topology_rules.proofs.SignalsOrderLemmas.{source_below, clocks_more, clocks_all}
use Rattle.uac_topology_rules.proofs.signals.clocks_of.Goals as goal

pub clocks_by-behind-requires : goal.clocks_by-behind-requires
clocks_by-behind-requires c =
    λ m s.
    let l = c.loop-index in
    let graph = c.args.links.now in
    let k = get_or c.args.order.now l.index-index 0 in
    let sources : c.as_slice.result.now ≡ links graph k =
    c.as_slice.ensures ∙ get_or_read graph k c.index-links-index.result (c.requires.ordered.nodes l.index-index c.loop-index-test.true) c.index-links-index.is [] in
    let in' : m < length (links graph k) = subst (λ (xs : List ℕ). m < length xs) sources s in
    omega (
      arith,
      source_below c.args.table.now graph c.args.order.now c.requires l.index-index m c.loop-index-test.true in',
      ap (λ (xs : List ℕ). get_or xs m 0) sources,
      l.invariant.sized,
      ap (λ (xs : List Behind). length xs) c.as_slice-in-loop-index.ensures.value,
    )

pub loop-index-preserved : goal.loop-index-preserved
loop-index-preserved c =
    let l = c.loop-index in
    let es = c.args.table.now in
    let graph = c.args.links.now in
    let order = c.args.order.now in
    let k = get_or order l.index-index 0 in
    let sources : c.as_slice.result.now ≡ links graph k =
    c.as_slice.ensures ∙ get_or_read graph k c.index-links-index.result (c.requires.ordered.nodes l.index-index c.loop-index-test.true) c.index-links-index.is [] in
    let list : c.as_slice-in-loop-index.result.now ≡ l.list.items = c.as_slice-in-loop-index.ensures.value in
    let P : List Behind → List ℕ → Entity → Type 0 =
    λ bs xs e. (below : ℕ → List ℕ) → ((m : ℕ) → m < length xs → Summarizes (get_or bs (get_or xs m 0) clocks.Nothing) (below (get_or xs m 0))) →
    Summarizes c.clocks_by-behind.result (clocks_by e xs below) in
    let told : P c.as_slice-in-loop-index.result.now c.as_slice.result.now c.at.result.now = c.clocks_by-behind.ensures in
    clocks_more es graph order c.requires l.index-index l.list.items c.clocks_by-behind.result c.loop-index-test.true l.invariant
    (subst (λ (e : Entity). P l.list.items (links graph k) e) c.at.ensures
    (subst (λ (xs : List ℕ). P l.list.items xs c.at.result.now) sources
    (subst (λ (bs : List Behind). P bs c.as_slice.result.now c.at.result.now) list told)))

pub returns : goal.returns
returns c =
    let l = c.loop-index in
    clocks_all c.args.table.now c.args.links.now c.args.order.now c.requires l.index-index l.list.items c.loop-index-test.false l.invariant
