use Rattle.std.proofs.Common.{◌≡◌, ◌∙◌, ap, sym, rules, List, [], ◌∷◌, ◌++◌, w32, to_z, of_z}
use Rattle.std.proofs.lemmas.Int.{to_z-of_z}
use Rattle.uac_store.specs.declared.keys.Key.{Key}
use Rattle.uac_request.specs.Requests.{request_state}
use Rattle.uac_status.specs.declared.panel.Turned.TheVariants as came
use Rattle.uac_status.specs.Knobs.{knob_outcome}
use Rattle.uac_status.specs.PanelCalls.{outcome_of}
use Rattle.uac_status.proofs.PendingLemmas.{waits_last, waits_once}
use Rattle.uac_status.proofs.panel.Panel.turn.Goals as goal

pub returns-then-waits-clause-pending : goal.returns-then-waits-clause-pending
returns-then-waits-clause-pending c = waits_once _ _ _ (sym c.waits.ensures ∙ c.if-waits.true)

pub returns-else-ne-clause-pending : goal.returns-else-ne-clause-pending
returns-else-ne-clause-pending c =
    let exact : to_z w32 (of_z w32 c.args.value) ≡ c.args.value = to_z-of_z w32 c.args.value c.ranges.value in
    let done : c.turn_knob-turned.result ≡ came.Done = search rules in
    let outcome = knob_outcome c.args.device.now.function (request_state c.args.device.now.controls c.args.device.now.settings) c.args.key in
    c.in_ok-push.ensures.items ∙ ap (λ (ks : List Key). ks ++ c.args.key ∷ []) c.self.view_is
    ∙ waits_last (outcome c.args.value) c.args.key c.args.self.now (sym c.waits.ensures ∙ c.if-waits.false)
    (sym (c.turn_knob-turned.ensures.turned ∙ ap outcome exact) ∙ ap outcome_of done)
