use Rattle.std.proofs.Common.{◌≡◌, ◌∙◌, ap, sym, subst, rules, ℤ, Result, Err, to_z, of_z, w32}
use Rattle.uac_request.specs.Requests.{value_bytes}
use Rattle.uac_transcript.specs.Transcript.{was_broken, was_set, element_was_stalled}
use Rattle.uac_mixer.specs.declared.faults.SetFault.{SetFault}
use Rattle.uac_mixer.specs.MixerElements.{width_of}
use Rattle.uac_mixer.specs.ViewTransfers.{came_of_set, set_of}
use Rattle.uac_status.specs.Panels.{panel_comes_back, panel_set}
use Rattle.uac_status.specs.PanelLines.{set_sight, was_set_sight}
use Rattle.uac_status.specs.FrontKept.{FrontStands}
use Rattle.uac_status.proofs.FrontLinkLemmas.{at_ok}
use Rattle.uac_status.proofs.PanelTextLemmas.{sight_written}
use Rattle.uac_status.proofs.front.Front.set_element.Goals as goal

pub returns-in-Ok-clause-tells : goal.returns-in-Ok-clause-tells
returns-in-Ok-clause-tells g c w x stands at =
    let exact : to_z w32 (of_z w32 c.args.value) ≡ c.args.value = search rules in
    let came : came_of_set c.set.result ≡ panel_comes_back (set_of w.function.control_interface x) (value_bytes (width_of x.kind) c.args.value) w =
    subst (λ (z : ℤ). came_of_set c.set.result ≡ panel_comes_back (set_of w.function.control_interface x) (value_bytes (width_of x.kind) z) w) exact
    (c.set.ensures.came w x stands at) in
    let told = sym (ap set_sight came) ∙ ap (λ (s : Result (Unit {0}) SetFault). set_sight (came_of_set s)) c.in-Ok.is in (
      sight_written (g.K.Sink.written c.args.sink.now) (g.K.Sink.written c.write_set.new.sink) c.write_set.result
          (was_set_sight x c.args.value w) was_set told c.write_set.ensures.written,
      at_ok (FrontStands c.set.new.self (panel_set x c.args.value w)) c.write_set.result
          (subst (λ (z : ℤ). FrontStands c.set.new.self (panel_set x z w)) exact (c.set.ensures.stands w x stands at)),
    )

pub returns-in-Err-Stalled-clause-tells : goal.returns-in-Err-Stalled-clause-tells
returns-in-Err-Stalled-clause-tells g c w x stands at =
    let exact : to_z w32 (of_z w32 c.args.value) ≡ c.args.value = search rules in
    let came : came_of_set c.set.result ≡ panel_comes_back (set_of w.function.control_interface x) (value_bytes (width_of x.kind) c.args.value) w =
    subst (λ (z : ℤ). came_of_set c.set.result ≡ panel_comes_back (set_of w.function.control_interface x) (value_bytes (width_of x.kind) z) w) exact
    (c.set.ensures.came w x stands at) in
    let told = sym (ap set_sight came) ∙ ap (λ (s : Result (Unit {0}) SetFault). set_sight (came_of_set s)) (c.in-Err-Stalled.is ∙ ap Err c.in-Err-Stalled.field-0-is) in (
      sight_written (g.K.Sink.written c.args.sink.now) (g.K.Sink.written c.write_set_stalled.new.sink) c.write_set_stalled.result
          (was_set_sight x c.args.value w) (element_was_stalled c.in-Err-Stalled.rule) told c.write_set_stalled.ensures.written,
      at_ok (FrontStands c.set.new.self (panel_set x c.args.value w)) c.write_set_stalled.result
          (subst (λ (z : ℤ). FrontStands c.set.new.self (panel_set x z w)) exact (c.set.ensures.stands w x stands at)),
    )

pub returns-in-Err-Broken-clause-tells : goal.returns-in-Err-Broken-clause-tells
returns-in-Err-Broken-clause-tells g c w x stands at =
    let exact : to_z w32 (of_z w32 c.args.value) ≡ c.args.value = search rules in
    let came : came_of_set c.set.result ≡ panel_comes_back (set_of w.function.control_interface x) (value_bytes (width_of x.kind) c.args.value) w =
    subst (λ (z : ℤ). came_of_set c.set.result ≡ panel_comes_back (set_of w.function.control_interface x) (value_bytes (width_of x.kind) z) w) exact
    (c.set.ensures.came w x stands at) in
    let told = sym (ap set_sight came) ∙ ap (λ (s : Result (Unit {0}) SetFault). set_sight (came_of_set s)) (c.in-Err-Broken.is ∙ ap Err c.in-Err-Broken.field-0-is) in (
      sight_written (g.K.Sink.written c.args.sink.now) (g.K.Sink.written c.write_view_broken.new.sink) c.write_view_broken.result
          (was_set_sight x c.args.value w) was_broken told c.write_view_broken.ensures.written,
      at_ok (FrontStands c.set.new.self (panel_set x c.args.value w)) c.write_view_broken.result
          (subst (λ (z : ℤ). FrontStands c.set.new.self (panel_set x z w)) exact (c.set.ensures.stands w x stands at)),
    )
