use Rattle.std.proofs.Common.{◌≡◌, ◌∙◌, ap, subst, ℤ, List, w32, to_z, of_z}
use Rattle.std.proofs.lemmas.Int.{to_z-of_z}
use Rattle.uac_topology.specs.Topology.{IsSoundFunction}
use Rattle.uac_store.specs.declared.keys.Key.{Key}
use Rattle.uac_request.specs.Requests.{answer_fields, has_value}
use Rattle.uac_status.specs.Knobs.{knob_bytes}
use Rattle.uac_status.proofs.KnobDeviceLemmas.{bytes_sent, device_turned, setup_made, turned_told}
use Rattle.uac_status.proofs.panel.turn_knob.Goals as goal

pub returns-clause-turned : goal.returns-clause-turned
returns-clause-turned c =
    let exact : to_z w32 (of_z w32 c.args.value) ≡ c.args.value = to_z-of_z w32 c.args.value c.ranges.value in
    turned_told c.args.device.now c.control-answer.new.self c.args.key c.args.value c.knob_setup-setup.result c.as_slice.result.now
    (answer_fields c.control-answer.result) _ c.has_value-has.result
    (setup_made _ _ _ _ c.function-2.ensures c.knob_setup-setup.ensures)
    (bytes_sent c.args.device.now.function _ c.args.key _ _ _ _ c.function-3.ensures c.width_at.ensures.value c.value_bytes-bytes.ensures.bytes c.as_slice.ensures.value
    ∙ ap (knob_bytes c.args.device.now.function c.args.key) exact)
    c.control-answer.ensures
    (c.has_value-has.ensures ∙ ap (has_value c.store.result.now c.args.key) exact ∙ ap (λ (s : List (Key × ℤ)). has_value s c.args.key c.args.value) c.store.ensures)
    c.what_came.ensures

pub returns-clause-device : goal.returns-clause-device
returns-clause-device c =
    let exact : to_z w32 (of_z w32 c.args.value) ≡ c.args.value = to_z-of_z w32 c.args.value c.ranges.value in
    device_turned c.args.device.now c.control-answer.new.self c.args.key c.args.value c.knob_setup-setup.result c.as_slice.result.now
    (answer_fields c.control-answer.result)
    (subst IsSoundFunction c.function.ensures c.functions_are_sound.ensures)
    c.controls_are_stored.ensures
    c.requires
    (setup_made _ _ _ _ c.function-2.ensures c.knob_setup-setup.ensures)
    (bytes_sent c.args.device.now.function _ c.args.key _ _ _ _ c.function-3.ensures c.width_at.ensures.value c.value_bytes-bytes.ensures.bytes c.as_slice.ensures.value
    ∙ ap (knob_bytes c.args.device.now.function c.args.key) exact)
    c.control-answer.ensures
