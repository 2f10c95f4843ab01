use Rattle.std.proofs.Common.{◌≡◌, ◌∙◌, ap, sym, subst, rules, ℕ, List, Some, slice_get, to_z, of_z, w32}
use Rattle.uac_edges.specs.Writing.{Writes}
use Rattle.uac_transcript.specs.Transcript.{element_has_value, is_unknown, says_view, spelling_of}
use Rattle.uac_mixer.specs.declared.element.Element.{Element}
use Rattle.uac_mixer.specs.MixerElements.{name_of}
use Rattle.uac_mixer.specs.ViewWorld.{ViewWorld}
use Rattle.uac_status.specs.PanelLines.{shown_sight}
use Rattle.uac_status.specs.FrontKept.{FrontStands}
use Rattle.uac_status.proofs.FrontLinkLemmas.{at_ok, one_at}
use Rattle.uac_status.proofs.PanelTextLemmas.{sight_written}
use Rattle.uac_status.proofs.front.Front.show_element.Goals as goal

pub returns-in-Some-clause-tells : goal.returns-in-Some-clause-tells
returns-in-Some-clause-tells g c w x stands at =
    let here : slice_get c.args.self.now.view.elements c.args.at ≡ Some x = ap (λ (v : ViewWorld). slice_get v.elements c.args.at) stands.view ∙ at in
    let same : c.element_at-element.result ≡ x = one_at _ c.args.at c.element_at-element.result x c.element_at-element.ensures here in
    let exact : to_z w32 (of_z w32 c.in-Some.value) ≡ c.in-Some.value = search rules in (
      sight_written (g.K.Sink.written c.args.sink.now) (g.K.Sink.written c.write_value.new.sink) c.write_value.result (shown_sight x x.value)
          (element_has_value (name_of x) (to_z w32 (of_z w32 c.in-Some.value)))
          (ap (shown_sight x) (ap (λ (e : Element). e.value) (sym same) ∙ c.in-Some.is) ∙ ap (element_has_value (name_of x)) (sym exact))
          (subst (λ (name : List ℕ). Writes (g.K.Sink.written c.args.sink.now) (g.K.Sink.written c.write_value.new.sink) c.write_value.result (spelling_of (says_view (element_has_value name (to_z w32 (of_z w32 c.in-Some.value))))))
          (c.as_bytes.ensures.text ∙ c.name-name.ensures ∙ ap name_of same) c.write_value.ensures.written),
      at_ok (FrontStands c.args.self.now w) c.write_value.result stands,
    )

pub returns-in-None-clause-tells : goal.returns-in-None-clause-tells
returns-in-None-clause-tells g c w x stands at =
    let here : slice_get c.args.self.now.view.elements c.args.at ≡ Some x = ap (λ (v : ViewWorld). slice_get v.elements c.args.at) stands.view ∙ at in
    let same : c.element_at-element.result ≡ x = one_at _ c.args.at c.element_at-element.result x c.element_at-element.ensures here in (
      sight_written (g.K.Sink.written c.args.sink.now) (g.K.Sink.written c.write_unknown.new.sink) c.write_unknown.result (shown_sight x x.value) (is_unknown (name_of x))
          (ap (shown_sight x) (ap (λ (e : Element). e.value) (sym same) ∙ c.in-None.is))
          (subst (λ (name : List ℕ). Writes (g.K.Sink.written c.args.sink.now) (g.K.Sink.written c.write_unknown.new.sink) c.write_unknown.result (spelling_of (says_view (is_unknown name))))
          (c.as_bytes-in-None.ensures.text ∙ c.name-name.ensures ∙ ap name_of same) c.write_unknown.ensures.written),
      at_ok (FrontStands c.args.self.now w) c.write_unknown.result stands,
    )
