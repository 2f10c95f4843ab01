use Rattle.std.proofs.Common.{◌≡◌, ◌∙◌, ◌==◌, ℕ, ap, subst, sym, Some}
use Rattle.std.specs.List.{find}
use Rattle.std.specs.Option.{option_and_then}
use Rattle.uac_entities.specs.declared.stream.StreamInterface.{StreamInterface}
use Rattle.uac_alt.specs.AltStreams.{stream_of}
use Rattle.uac_request.specs.Requests.{rate_at}
use Rattle.uac_device.specs.DeviceWorld.{stream_in_setting}
use Rattle.uac_request.proofs.FunctionInterfaceLemmas.{has_number}
use Rattle.uac_device.proofs.streams.stream_asked.Goals as goal

pub returns-in-Some : goal.returns-in-Some
unfolding stream_in_setting
returns-in-Some c =
    let f = c.args.function.now in
    let s = c.in-Some.streaming.now in
    let found : find (λ t. t.number == c.args.interface) f.streams ≡ Some s = sym c.in-Some.ensures in
    let number = has_number f.streams c.args.interface s found in
    let there : find (λ t. t.number == s.number) f.streams ≡ Some s = subst (λ (n : ℕ). find (λ t. t.number == n) f.streams ≡ Some s) (sym number) found in
    c.stream_now.ensures there
    ∙ ap (λ (n : ℕ). option_and_then (λ (rate : ℕ). stream_of f rate n c.args.setting) (rate_at f c.args.store.now s)) number
    ∙ ap (option_and_then (λ (t : StreamInterface). option_and_then (λ (rate : ℕ). stream_of f rate c.args.interface c.args.setting) (rate_at f c.args.store.now t))) (sym found)

pub returns-in-None : goal.returns-in-None
unfolding stream_in_setting
returns-in-None c =
    ap (option_and_then (λ (t : StreamInterface). option_and_then (λ (rate : ℕ). stream_of c.args.function.now rate c.args.interface c.args.setting) (rate_at c.args.function.now c.args.store.now t)))
    c.in-None.ensures
