use Rattle.std.proofs.Common.{◌≡◌, ◌-◌, ℕ, ◌++◌, ◌∷◌, [], List, Vec, Global, refl, ◌+◌, get_or, take, set, arith, sym, ap, ◌∙◌, subst}
use Rattle.std.proofs.lemmas.List.{get_or_read}
use Rattle.uac_topology_rules.specs.NodeReleasing.{Releases}
use Rattle.uac_topology_rules.proofs.NodeReleasingStepLemmas.{waits_below, still_waits, settles_next, settles_later}
use Rattle.uac_topology_rules.proofs.order.release.Goals as goal
use Rattle.uac_topology_rules.proofs.order.release.Goals.{then-left-eq0+in_ok-push, else-left-eq0}

pub index-requires : goal.index-requires
index-requires c =
    let l = c.loop-node in
    let more = still_waits c.args.namers.now c.args.waiting.now.items c.args.order.now.items l.waiting.items l.order.items l.node-index c.loop-node-test.true c.requires l.invariant in
    omega (arith, waits_below l.waiting.items (get_or c.args.namers.now l.node-index 0) more, l.waiting.ok.0)

pub overflow_sub-left : goal.overflow_sub-left
overflow_sub-left c =
    let l = c.loop-node in
    let v = get_or c.args.namers.now l.node-index 0 in
    let more = still_waits c.args.namers.now c.args.waiting.now.items c.args.order.now.items l.waiting.items l.order.items l.node-index c.loop-node-test.true c.requires l.invariant in
    omega (arith, more, get_or_read l.waiting.items v c.index.result.now (waits_below l.waiting.items v more) c.index.ensures 0)

pub index_mut-requires : goal.index_mut-requires
index_mut-requires c =
    let l = c.loop-node in
    let more = still_waits c.args.namers.now c.args.waiting.now.items c.args.order.now.items l.waiting.items l.order.items l.node-index c.loop-node-test.true c.requires l.invariant in
    omega (arith, waits_below l.waiting.items (get_or c.args.namers.now l.node-index 0) more, l.waiting.ok.0)

pub loop-node-preserved : goal.loop-node-preserved
loop-node-preserved c =
    let l = c.loop-node in
    let v = get_or c.args.namers.now l.node-index 0 in
    let more = still_waits c.args.namers.now c.args.waiting.now.items c.args.order.now.items l.waiting.items l.order.items l.node-index c.loop-node-test.true c.requires l.invariant in
    let read : c.index.result.now ≡ get_or l.waiting.items v 0 = get_or_read l.waiting.items v c.index.result.now (waits_below l.waiting.items v more) c.index.ensures 0 in
    let P : ℕ → List ℕ → Type 0 = λ n order. Releases (take (l.node-index + 1) c.args.namers.now) c.args.waiting.now.items c.args.order.now.items (set l.waiting.items v (n - 1)) order in
    elim c.if-left-eq0.branch [
      | then-left-eq0+in_ok-push w ↦
          (let pushed : c.if-left-eq0.order.items ≡ l.order.items ++ v ∷ [] = ap (λ (o : Vec ℕ Global). o.items) w.order-is ∙ w.in_ok-push.ensures.items in
          let r : P (get_or l.waiting.items v 0) (l.order.items ++ v ∷ []) =
          settles_next c.args.namers.now c.args.waiting.now.items c.args.order.now.items l.waiting.items l.order.items l.node-index v
          c.loop-node-test.true refl more (omega (arith, read, w.if-left-eq0.true)) l.invariant in
          subst (λ (n : ℕ). P n c.if-left-eq0.order.items) (sym read)
          (subst (λ (o : List ℕ). P (get_or l.waiting.items v 0) o) (sym pushed) r))
      | else-left-eq0 w ↦
          (let r : P (get_or l.waiting.items v 0) l.order.items =
          settles_later c.args.namers.now c.args.waiting.now.items c.args.order.now.items l.waiting.items l.order.items l.node-index v
          c.loop-node-test.true refl more (λ e. w.if-left-eq0.false (omega (arith, read, e))) l.invariant in
          subst (λ (n : ℕ). P n c.if-left-eq0.order.items) (sym read)
          (subst (λ (o : List ℕ). P (get_or l.waiting.items v 0) o) (sym (ap (λ (o : Vec ℕ Global). o.items) w.order-is)) r))
    ]
