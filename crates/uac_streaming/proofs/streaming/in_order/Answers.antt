use Rattle.std.proofs.Common.{◌≡◌, ◌∙◌, ap, sym, arith, ℕ, filter, is_some}
use Rattle.std.specs.List.{range_with_len}
use Rattle.std.proofs.Common.{Vec, Global}
use Rattle.uac_topology.specs.Function.{interface_in}
use Rattle.uac_streaming.specs.StreamingWorld.{numbers}
use Rattle.uac_streaming.proofs.InOrderLemmas.{number_nowhere, number_there}
use Rattle.uac_streaming.proofs.streaming.in_order.Goals as goal
use Rattle.uac_streaming.proofs.streaming.in_order.Goals.{then-is_some+in_ok-push, else-is_some}

pub loop-at-preserved : goal.loop-at-preserved
loop-at-preserved c =
    elim c.if-is_some.branch [
      | then-is_some+in_ok-push w ↦
          number_there c.args.function.now c.loop-at.at c.loop-at.order.items c.if-is_some.order.items c.interface.result (λ s. s.now) c.loop-at.invariant c.interface.ensures
          (sym c.is_some.ensures ∙ w.if-is_some.true) (ap (λ (v : Vec ℕ Global). v.items) w.order-is ∙ w.in_ok-push.ensures.items)
      | else-is_some w ↦
          ap (λ (v : Vec ℕ Global). v.items) w.order-is
          ∙ number_nowhere c.args.function.now c.loop-at.at c.loop-at.order.items c.interface.result (λ s. s.now) c.loop-at.invariant c.interface.ensures
          (sym c.is_some.ensures ∙ w.if-is_some.false)
    ]

pub returns : goal.returns
unfolding numbers
returns c =
    let all : c.loop-at.at ≡ 256 = omega (arith, c.loop-at-test.false, c.loop-at.auto.at-end) in
    c.loop-at.invariant ∙ ap (λ (n : ℕ). filter (λ n. is_some (interface_in c.args.function.now n)) (range_with_len 0 n)) all
