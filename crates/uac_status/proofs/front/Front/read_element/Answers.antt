use Rattle.std.proofs.Common.{◌≡◌, ◌∙◌, ap, sym, subst, rules, true, ℕ, List, Some, Ok, slice_get, to_z, of_z, w32, is_some}
use Rattle.uac_edges.specs.Writing.{Writes}
use Rattle.uac_transcript.specs.Transcript.{element_has_value, says_view, spelling_of, was_broken}
use Rattle.uac_mixer.specs.MixerElements.{name_of}
use Rattle.uac_mixer.specs.ViewWorld.{ViewWorld}
use Rattle.uac_status.specs.Panels.{panel_got}
use Rattle.uac_status.specs.PanelLines.{got_sight}
use Rattle.uac_status.specs.FrontKept.{FrontStands, IsGot}
use Rattle.uac_status.proofs.FrontLinkLemmas.{at_ok, got_broken, got_value, one_at}
use Rattle.uac_status.proofs.PanelTextLemmas.{sight_written}
use Rattle.uac_status.proofs.front.Front.read_element.Goals as goal

pub returns-in-Ok-clause-tells : goal.returns-in-Ok-clause-tells
returns-in-Ok-clause-tells g c w x stands at =
    let here : slice_get c.args.self.now.view.elements c.args.at ≡ Some x = ap (λ (v : ViewWorld). slice_get v.elements c.args.at) stands.view ∙ at in
    let same : c.element_at.result ≡ x = one_at _ c.args.at c.element_at.result x c.element_at.ensures here in
    let exact : to_z w32 (of_z w32 c.in-Ok.value) ≡ c.in-Ok.value = search rules in
    let is : IsGot x w (Ok c.in-Ok.value) = c.in-Ok.ensures.value w x stands at in (
      sight_written (g.K.Sink.written c.args.sink.now) (g.K.Sink.written c.write_value.new.sink) c.write_value.result (got_sight x w)
          (element_has_value (name_of x) (to_z w32 (of_z w32 c.in-Ok.value))) (got_value x w c.in-Ok.value is ∙ ap (element_has_value (name_of x)) (sym exact))
          (subst (λ (name : List ℕ). Writes (g.K.Sink.written c.args.sink.now) (g.K.Sink.written c.write_value.new.sink) c.write_value.result (spelling_of (says_view (element_has_value name (to_z w32 (of_z w32 c.in-Ok.value))))))
          (c.as_bytes.ensures.text ∙ c.name-name.ensures ∙ ap name_of same) c.write_value.ensures.written),
      at_ok (FrontStands c.read.new.self (panel_got x w)) c.write_value.result (c.in-Ok.ensures.stands w x stands at),
    )

pub returns-in-Err-clause-tells : goal.returns-in-Err-clause-tells
returns-in-Err-clause-tells g c w x stands at =
    let is : is_some w.breaks ≡ true = c.in-Err.ensures.value w x stands at in (
      sight_written (g.K.Sink.written c.args.sink.now) (g.K.Sink.written c.write_view_broken.new.sink) c.write_view_broken.result (got_sight x w) was_broken
          (got_broken x w is) c.write_view_broken.ensures.written,
      at_ok (FrontStands c.read.new.self (panel_got x w)) c.write_view_broken.result (c.in-Err.ensures.stands w x stands at),
    )
