use Rattle.std.proofs.Common.{◌≡◌, ◌+◌, ℕ, List, Option, drop, sym, ap, ◌∙◌}
use Rattle.std.specs.Prelude.{slice_get}
use Rattle.std.specs.List.{cons_option}
use Rattle.uac_descriptor.specs.declared.standard.Endpoint.{Endpoint}
use Rattle.uac_entities.proofs.EntitySettingsLemmas.{own_at_stop, own_at_next, own_at_end, get_first, get_later}
use Rattle.uac_entities.specs.EntitySettings.{own, endpoint_of}
use Rattle.uac_entities.proofs.settings.endpoint_following.Goals as goal
use Rattle.uac_entities.proofs.settings.endpoint_following.Goals.{in-Some+else-left-eq0, in_default}

pub returns-then-ends_setting : goal.returns-then-ends_setting
returns-then-ends_setting c =
    let here = own_at_stop endpoint_of c.args.blocks.now c.loop-block.block-index c.block-item.result c.loop-block-test.true c.block-item.is c.if-ends_setting.ensures in
    ap (λ (xs : List Endpoint). slice_get xs c.loop-block.left) (sym here) ∙ c.loop-block.invariant

pub returns-then-left-eq0 : goal.returns-then-left-eq0
returns-then-left-eq0 c =
    let rest = own endpoint_of (drop (c.loop-block.block-index + 1) c.args.blocks.now) in
    let here = own_at_next endpoint_of c.args.blocks.now c.loop-block.block-index c.block-item.result c.loop-block-test.true c.block-item.is c.if-ends_setting.ensures in
    get_first (endpoint_of c.block-item.result) c.in-Some.endpoint c.loop-block.left rest c.in-Some.ensures c.if-left-eq0.true
    ∙ ap (λ (xs : List Endpoint). slice_get xs c.loop-block.left) (sym here) ∙ c.loop-block.invariant

pub loop-block-preserved : goal.loop-block-preserved
loop-block-preserved c =
    let rest = own endpoint_of (drop (c.loop-block.block-index + 1) c.args.blocks.now) in
    let here = own_at_next endpoint_of c.args.blocks.now c.loop-block.block-index c.block-item.result c.loop-block-test.true c.block-item.is c.if-ends_setting.ensures in
    let was : slice_get (cons_option (endpoint_of c.block-item.result) rest) c.loop-block.left ≡ slice_get (own endpoint_of c.args.blocks.now) c.args.others =
    ap (λ (xs : List Endpoint). slice_get xs c.loop-block.left) (sym here) ∙ c.loop-block.invariant in
    elim c.match-endpoint_of.branch [
      | in-Some+else-left-eq0 w ↦
          ap (λ (n : ℕ). slice_get rest n) w.left-is
          ∙ get_later (endpoint_of c.block-item.result) w.in-Some.endpoint c.loop-block.left rest w.in-Some.ensures w.if-left-eq0.false ∙ was
      | in_default w ↦
          ap (λ (n : ℕ). slice_get rest n) w.left-is ∙ ap (λ (o : Option Endpoint). slice_get (cons_option o rest) c.loop-block.left) w.in_default.ensures ∙ was
    ]

pub returns : goal.returns
returns c =
    ap (λ (xs : List Endpoint). slice_get xs c.loop-block.left)
    (sym (own_at_end endpoint_of c.args.blocks.now c.loop-block.block-index c.loop-block-test.false))
    ∙ c.loop-block.invariant
