use Rattle.std.proofs.Common.{◌≡◌, ◌+◌, length, List, drop, sym, ap, ◌∙◌, arith}
use Rattle.std.specs.Option.{is_some}
use Rattle.uac_descriptor.specs.declared.standard.Endpoint.{Endpoint}
use Rattle.uac_entities.proofs.EntitySettingsLemmas.{own_at_stop, own_at_next, own_at_end, length-some, length-none}
use Rattle.uac_entities.specs.EntitySettings.{own, endpoint_of}
use Rattle.uac_entities.proofs.settings.endpoints_following.Goals as goal
use Rattle.uac_entities.proofs.settings.endpoints_following.Goals.{then-is_some, else-is_some}

pub returns-then-ends_setting : goal.returns-then-ends_setting
returns-then-ends_setting c =
    let here = own_at_stop endpoint_of c.args.blocks.now c.loop-block.block-index c.block-item.result c.loop-block-test.true c.block-item.is c.if-ends_setting.ensures in
    omega (arith, c.loop-block.invariant.0, ap (λ (xs : List Endpoint). length xs) here)

pub loop-block-preserved : goal.loop-block-preserved
loop-block-preserved c =
    let rest = own endpoint_of (drop (c.loop-block.block-index + 1) c.args.blocks.now) in
    let here = own_at_next endpoint_of c.args.blocks.now c.loop-block.block-index c.block-item.result c.loop-block-test.true c.block-item.is c.if-ends_setting.ensures in
    let more = ap (λ (xs : List Endpoint). length xs) here in
    let known : c.is_some.result ≡ is_some (endpoint_of c.block-item.result) = c.is_some.ensures ∙ ap is_some c.endpoint_of.ensures in
    elim c.if-is_some.branch [
      | then-is_some w ↦
          (let one = length-some (endpoint_of c.block-item.result) rest (sym known ∙ w.if-is_some.true) in
          (omega (arith, c.loop-block.invariant.0, more, one, w.count-is), omega (arith, c.loop-block.invariant.1, w.count-is)))
      | else-is_some w ↦
          (let none = length-none (endpoint_of c.block-item.result) rest (sym known ∙ w.if-is_some.false) in
          (omega (arith, c.loop-block.invariant.0, more, none, w.count-is), omega (arith, c.loop-block.invariant.1, w.count-is)))
    ]

pub returns : goal.returns
returns c =
    omega (arith, c.loop-block.invariant.0, ap (λ (xs : List Endpoint). length xs) (own_at_end endpoint_of c.args.blocks.now c.loop-block.block-index c.loop-block-test.false))
