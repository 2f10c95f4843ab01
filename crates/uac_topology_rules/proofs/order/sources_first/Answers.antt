use Rattle.std.proofs.Common.{◌≡◌, ℕ, List, [], ◌<◌, get_or, length, arith, sym, ap, ◌∙◌, subst}
use Rattle.std.proofs.lemmas.List.{get_or_read}
use Rattle.uac_topology_rules.specs.Walk.{links}
use Rattle.uac_topology_rules.specs.NodeReleasing.{IsReleased}
use Rattle.uac_topology_rules.proofs.NodeReleasingLemmas.{settled_none, settled_more, enough_wait, order_of_all, length-le}
use Rattle.uac_topology_rules.proofs.order.sources_first.Goals as goal

pub loop-done-init : goal.loop-done-init
loop-done-init c =
    let e : c.as_slice.result.now ≡ c.in_ok-waiting.waiting.items = c.as_slice.ensures.value in
    subst (λ (w : List ℕ). IsReleased c.args.graph.now 0 w c.in_ok-order.order.items) e
    (settled_none c.args.graph.now c.as_slice.result.now c.in_ok-order.order.items (e ∙ c.in_ok-waiting.ensures)
    c.in_ok-order.ensures.nodes c.in_ok-order.ensures.once c.in_ok-order.ensures.none_wait)

pub returns-then-done-len : goal.returns-then-done-len
returns-then-done-len c =
    let l = c.loop-done in
    order_of_all c.args.graph.now l.done l.waiting.items l.order.items c.requires (omega (arith, l.order.ok.0)) l.invariant

pub release-requires : goal.release-requires
release-requires c =
    let l = c.loop-done in
    let below : l.done < length l.order.items = omega (arith, l.order.ok.0) in
    let node : c.index-node.result.now ≡ get_or l.order.items l.done 0 = get_or_read l.order.items l.done c.index-node.result.now below c.index-node.ensures 0 in
    let in' : c.index-node.result.now < length c.in_ok-namers.namers.items = omega (arith, node, l.invariant.nodes l.done below, c.in_ok-namers.ensures.sized) in
    let named : links c.in_ok-namers.namers.items (get_or l.order.items l.done 0) ≡ c.as_slice-in-loop-done.result.now =
    ap (links c.in_ok-namers.namers.items) (sym node)
    ∙ sym (get_or_read c.in_ok-namers.namers.items c.index-node.result.now c.index.result.now in' c.index.ensures [])
    ∙ sym c.as_slice-in-loop-done.ensures in
    enough_wait c.args.graph.now c.in_ok-namers.namers.items l.done l.waiting.items l.order.items c.as_slice-in-loop-done.result.now below
    c.in_ok-namers.ensures l.invariant named

pub loop-done-preserved : goal.loop-done-preserved
loop-done-preserved c =
    let l = c.loop-done in
    let below : l.done < length l.order.items = omega (arith, l.order.ok.0) in
    let node : c.index-node.result.now ≡ get_or l.order.items l.done 0 = get_or_read l.order.items l.done c.index-node.result.now below c.index-node.ensures 0 in
    let in' : c.index-node.result.now < length c.in_ok-namers.namers.items = omega (arith, node, l.invariant.nodes l.done below, c.in_ok-namers.ensures.sized) in
    let named : links c.in_ok-namers.namers.items (get_or l.order.items l.done 0) ≡ c.as_slice-in-loop-done.result.now =
    ap (links c.in_ok-namers.namers.items) (sym node)
    ∙ sym (get_or_read c.in_ok-namers.namers.items c.index-node.result.now c.index.result.now in' c.index.ensures [])
    ∙ sym c.as_slice-in-loop-done.ensures in
    settled_more c.args.graph.now c.in_ok-namers.namers.items l.done l.waiting.items l.order.items c.as_slice-in-loop-done.result.now
    c.release.new.waiting.items c.release.new.order.items below c.in_ok-namers.ensures named l.invariant c.in_ok-release.ensures

pub returns : goal.returns
returns c =
    let l = c.loop-done in
    let short = length-le c.args.graph.now l.done l.waiting.items l.order.items l.invariant in
    order_of_all c.args.graph.now l.done l.waiting.items l.order.items c.requires (omega (arith, short, c.loop-done-test.false)) l.invariant
