use Rattle.std.proofs.Common.{◌≡◌, ℕ, List, [], get_or, length, arith, sym, ap, ◌∙◌, ◌<◌, subst}
use Rattle.std.proofs.lemmas.List.{get_or_read}
use Rattle.uac_topology_rules.proofs.NotingLemmas.{named_none, named_more}
use Rattle.uac_topology_rules.proofs.order.namers_of.Goals as goal

pub loop-node-init : goal.loop-node-init
loop-node-init c = named_none c.args.graph.now c.in_ok-namers.namers.items c.in_ok-namers.ensures

pub note-requires : goal.note-requires
note-requires c =
    λ k below.
    let l = c.loop-node in
    let named : c.as_slice.result.now ≡ get_or c.args.graph.now l.node [] =
    c.as_slice.ensures ∙ get_or_read c.args.graph.now l.node c.index-graph-node.result (omega arith) c.index-graph-node.is [] in
    let in' : k < length (get_or c.args.graph.now l.node []) = subst (λ (xs : List ℕ). k < length xs) named below in
    omega (arith, ap (λ (xs : List ℕ). get_or xs k 0) named, c.requires l.node (omega arith) k 0 in', l.invariant.sized)

pub loop-node-preserved : goal.loop-node-preserved
loop-node-preserved c =
    let l = c.loop-node in
    let named : c.as_slice.result.now ≡ get_or c.args.graph.now l.node [] =
    c.as_slice.ensures ∙ get_or_read c.args.graph.now l.node c.index-graph-node.result (omega arith) c.index-graph-node.is [] in
    named_more c.args.graph.now l.namers.items c.note.new.namers.items l.node c.as_slice.result.now (sym named) (c.in_ok-note.ensures) l.invariant
