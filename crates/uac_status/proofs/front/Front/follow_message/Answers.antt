use Rattle.std.proofs.Common.{◌≡◌, ◌∙◌, refl, rules, Ok, true, false, w32, to_z, of_z}
use Rattle.uac_status.proofs.FrontFollowLemmas.{tells_broken, tells_broken_cut, tells_none, tells_value, tells_value_cut}
use Rattle.uac_status.proofs.front.Front.follow_message.Goals as goal

pub returns-in_err-write_message-clause-tells : goal.returns-in_err-write_message-clause-tells
returns-in_err-write_message-clause-tells g c = λ w s.
    tells_none w c.args.self.now c.hear_message-heard.new.self c.args.message (g.K.Sink.written c.args.sink.now) (g.K.Sink.written c.args.sink.now) (g.K.Sink.written c.write_message.new.sink) s c.requires
    _ _ (c.hear_message-heard.ensures.hears w s) c.from_residual.result c.from_residual.ensures.1 c.in_err-write_message.ensures.written

pub returns-in_err-write_value-in-Ok-clause-tells : goal.returns-in_err-write_value-in-Ok-clause-tells
returns-in_err-write_value-in-Ok-clause-tells g c = λ w s.
    let exact : to_z w32 (of_z w32 c.in-Ok.heard.value) ≡ c.in-Ok.heard.value = search rules in
    tells_value_cut w c.args.self.now c.hear_message-heard.new.self c.args.message (g.K.Sink.written c.args.sink.now) (g.K.Sink.written c.write_message.new.sink) (g.K.Sink.written c.write_value.new.sink) s c.requires
    _ c.in-Ok.heard (c.in-Ok.ensures.hears w s) _ _ (c.as_bytes.ensures.text ∙ c.name.ensures) exact
    c.from_residual-in_err-write_value-in-Ok.result c.from_residual-in_err-write_value-in-Ok.ensures.1 c.in_ok-write_message.ensures.written c.in_err-write_value-in-Ok.ensures.written

pub returns-in_err-write_view_broken-in-Err-clause-tells : goal.returns-in_err-write_view_broken-in-Err-clause-tells
returns-in_err-write_view_broken-in-Err-clause-tells g c = λ w s.
    tells_broken_cut w c.args.self.now c.hear_message-heard.new.self c.args.message (g.K.Sink.written c.args.sink.now) (g.K.Sink.written c.write_message.new.sink) (g.K.Sink.written c.write_view_broken.new.sink) s c.requires
    _ _ (c.in-Err.ensures.hears w s)
    c.from_residual-in_err-write_view_broken-in-Err.result c.from_residual-in_err-write_view_broken-in-Err.ensures.1 c.in_ok-write_message.ensures.written
    c.in_err-write_view_broken-in-Err.ensures.written

pub returns-in_ok-write_value-in-Ok-clause-tells : goal.returns-in_ok-write_value-in-Ok-clause-tells
returns-in_ok-write_value-in-Ok-clause-tells g c = λ w s.
    let exact : to_z w32 (of_z w32 c.in-Ok.heard.value) ≡ c.in-Ok.heard.value = search rules in
    tells_value w c.args.self.now c.hear_message-heard.new.self c.args.message (g.K.Sink.written c.args.sink.now) (g.K.Sink.written c.write_message.new.sink) (g.K.Sink.written c.write_value.new.sink) s c.requires
    c.in-Ok.heard (c.in-Ok.ensures.hears w s) _ _ (c.as_bytes.ensures.text ∙ c.name.ensures) exact
    (Ok true) refl c.in_ok-write_message.ensures.written c.in_ok-write_value-in-Ok.ensures.written

pub returns-in_ok-write_view_broken-in-Err-clause-tells : goal.returns-in_ok-write_view_broken-in-Err-clause-tells
returns-in_ok-write_view_broken-in-Err-clause-tells g c = λ w s.
    tells_broken w c.args.self.now c.hear_message-heard.new.self c.args.message (g.K.Sink.written c.args.sink.now) (g.K.Sink.written c.write_message.new.sink) (g.K.Sink.written c.write_view_broken.new.sink) s c.requires
    _ (c.in-Err.ensures.hears w s) (Ok false) refl c.in_ok-write_message.ensures.written c.in_ok-write_view_broken-in-Err.ensures.written
