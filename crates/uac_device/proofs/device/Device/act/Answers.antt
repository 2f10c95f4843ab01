use Rattle.std.proofs.Common.{◌≡◌, ◌∙◌, ◌&&◌, ap, subst, sym, true, false, Some, None}
use Rattle.std.specs.Option.{option_map}
use Rattle.uac_alt.specs.AltStreams as alt
use Rattle.uac_request.specs.Requests.{AnswerFields, answer_fields, sets_interface, is_done_answer}
use Rattle.uac_device.specs.DeviceKept.{DeviceFields, IsControlled}
use Rattle.uac_device.specs.DeviceWorld.{BegunFields, begun_by}
use Rattle.uac_device.specs.contracts.device.Device.{the_view}
use Rattle.uac_device.proofs.DeviceKeptControlLemmas.{begun_else, begun_fits, begun_then, control_else, control_then}
use Rattle.uac_device.proofs.FollowingLemmas.{follows}
use Rattle.uac_device.proofs.device.Device.act.Goals as goal

pub restart-requires : goal.restart-requires
restart-requires c = record {
  fits =
      begun_fits (the_view c.self.inside) c.stream_asked-begun.result c.args.setup.now.index c.args.setup.now.value c.functions_are_sound.ensures c.self.invariant.0
      c.stream_asked-begun.ensures;
}

pub returns-then-holds_setting-clause-controlled : goal.returns-then-holds_setting-clause-controlled
returns-then-holds_setting-clause-controlled c =
    let p = c.args.setup.now in
    let told : AnswerFields = answer_fields c.answer-answer.result in
    let new : DeviceFields = record (the_view c.self.inside) { controls = c.answer-answer.new.store; settings = c.answer-answer.new.settings; device_streams = c.restart.new.self } in
    subst (λ (device : DeviceFields). IsControlled p c.args.sent.now told device new) c.self.view_is
    (control_then (the_view c.self.inside) c.answer-answer.new.store c.answer-answer.new.settings p c.args.sent.now told c.answer-answer.ensures.answer
    c.answer-answer.ensures.held c.restart.new.self (option_map alt.stream_fields c.stream_asked-begun.result)
    (sym c.holds_setting.ensures ∙ c.if-holds_setting.true) c.stream_asked-begun.ensures c.restart.ensures.stands)

pub returns-then-holds_setting-clause-began : goal.returns-then-holds_setting-clause-began
returns-then-holds_setting-clause-began c =
    let p = c.args.setup.now in
    let told : AnswerFields = answer_fields c.answer-answer.result in
    let stream = option_map alt.stream_fields c.stream_asked-begun.result in
    let begun : BegunFields = record { interface = p.index; stream = stream } in
    subst (λ (device : DeviceFields). Some begun ≡ begun_by device.function device.controls p told) c.self.view_is
    (begun_then c.self.inside.function c.self.inside.store p told stream (sym c.holds_setting.ensures ∙ c.if-holds_setting.true)
    c.stream_asked-begun.ensures)

pub returns-clause-controlled : goal.returns-clause-controlled
returns-clause-controlled c =
    let p = c.args.setup.now in
    let told : AnswerFields = answer_fields c.answer-answer.result in
    let new : DeviceFields = record (the_view c.self.inside) { controls = c.answer-answer.new.store; settings = c.answer-answer.new.settings } in
    subst (λ (device : DeviceFields). IsControlled p c.args.sent.now told device new) c.self.view_is
    (control_else (the_view c.self.inside) c.answer-answer.new.store c.answer-answer.new.settings p c.args.sent.now told c.answer-answer.ensures.answer
    c.answer-answer.ensures.held (sym c.holds_setting.ensures ∙ c.if-holds_setting.false))

pub returns-clause-began : goal.returns-clause-began
returns-clause-began c =
    let p = c.args.setup.now in
    let told : AnswerFields = answer_fields c.answer-answer.result in
    subst (λ (device : DeviceFields). None ≡ begun_by device.function device.controls p told) c.self.view_is
    (begun_else c.self.inside.function c.self.inside.store p told (sym c.holds_setting.ensures ∙ c.if-holds_setting.false))

pub invariant_of-self : goal.invariant_of-self
invariant_of-self c = (
  record {
    store = c.answer-answer.ensures.of_function;
    interfaces = c.answer-answer.ensures.still;
    wires = c.self.invariant.0.wires;
    domains = c.self.invariant.0.domains;
    clocks = c.self.invariant.0.clocks;
    phases = c.self.invariant.0.phases;
    ports = c.restart.ensures.ports ∙ c.self.invariant.0.ports;
  },
  c.self.invariant.1,
  follows c.self.inside.function c.self.inside.store c.answer-answer.new.store c.self.inside.settings c.answer-answer.new.settings c.args.setup.now c.args.sent.now
      c.self.inside.derived c.follow.new.self c.answer-answer.ensures.held c.self.invariant.2 c.follow.ensures,
  c.self.invariant.3,
  c.self.invariant.4,
)

pub invariant_of-self-else-holds_setting : goal.invariant_of-self-else-holds_setting
invariant_of-self-else-holds_setting c = (
  record {
    store = c.answer-answer.ensures.of_function;
    interfaces = c.answer-answer.ensures.still;
    wires = c.self.invariant.0.wires;
    domains = c.self.invariant.0.domains;
    clocks = c.self.invariant.0.clocks;
    phases = c.self.invariant.0.phases;
    ports = c.self.invariant.0.ports;
  },
  c.self.invariant.1,
  follows c.self.inside.function c.self.inside.store c.answer-answer.new.store c.self.inside.settings c.answer-answer.new.settings c.args.setup.now c.args.sent.now
      c.self.inside.derived c.follow.new.self c.answer-answer.ensures.held c.self.invariant.2 c.follow.ensures,
  c.self.invariant.3,
  c.self.invariant.4,
)
