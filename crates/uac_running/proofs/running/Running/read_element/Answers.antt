use Rattle.std.proofs.Common.{◌≡◌, ◌∙◌, ap, sym, subst, rules, true, [], ℕ, List, Some, Ok, slice_get, to_z, of_z, w32, is_some}
use Rattle.uac_edges.specs.Writing.{Writes}
use Rattle.uac_transcript.specs.Transcript.{element_has_value, says_view, spelling_of, was_broken}
use Rattle.uac_mixer.specs.MixerElements.{name_of}
use Rattle.uac_mixer.specs.ViewTransfers.{get_of}
use Rattle.uac_mixer.specs.ViewWorld.{ViewWorld}
use Rattle.uac_running.specs.RunningKept.{RunningStandsBetween}
use Rattle.uac_running.specs.RunningTransfers.{IsRead, read_element, read_sight, after_transfer}
use Rattle.uac_running.proofs.TellingLemmas.{at_ok}
use Rattle.uac_running.proofs.RoomLemmas.{transferred_room}
use Rattle.uac_running.proofs.RunningTransfersLineLemmas.{read_broken, read_value, same_element, sight_printed}
use Rattle.uac_running.proofs.running.Running.read_element.Goals as goal

pub returns-in-Ok-clause-tells : goal.returns-in-Ok-clause-tells
unfolding read_element
returns-in-Ok-clause-tells g c meters r x stands at =
    let here : slice_get c.args.self.now.view.elements c.args.at ≡ Some x = ap (λ (v : ViewWorld). slice_get v.elements c.args.at) stands.now.view ∙ at in
    let same : c.element_at.result ≡ x = same_element _ c.args.at c.element_at.result x c.element_at.ensures here in
    let exact : to_z w32 (of_z w32 c.in-Ok.value) ≡ c.in-Ok.value = search rules in
    let is : IsRead x r (Ok c.in-Ok.value) = c.in-Ok.ensures.value meters r x stands.now at in (
      sight_printed (g.K.Sink.written c.args.sink.now) (g.K.Sink.written c.write_value.new.sink) c.write_value.result (read_sight x r)
          (element_has_value (name_of x) (to_z w32 (of_z w32 c.in-Ok.value))) (read_value x r c.in-Ok.value is ∙ ap (element_has_value (name_of x)) (sym exact))
          (subst (λ (name : List ℕ). Writes (g.K.Sink.written c.args.sink.now) (g.K.Sink.written c.write_value.new.sink) c.write_value.result (spelling_of (says_view (element_has_value name (to_z w32 (of_z w32 c.in-Ok.value))))))
          (c.as_bytes.ensures.text ∙ c.name-name.ensures ∙ ap name_of same) c.write_value.ensures.written),
      at_ok (RunningStandsBetween c.read.new.self meters (after_transfer (get_of r.device.function.control_interface x) [] r)) c.write_value.result
          (record { now = c.in-Ok.ensures.stands meters r x stands.now at; room = transferred_room (get_of r.device.function.control_interface x) [] r stands.room }),
    )

pub returns-in-Err-clause-tells : goal.returns-in-Err-clause-tells
unfolding read_element
returns-in-Err-clause-tells g c meters r x stands at =
    let is : is_some r.breaks ≡ true = c.in-Err.ensures.value meters r x stands.now at in (
      sight_printed (g.K.Sink.written c.args.sink.now) (g.K.Sink.written c.write_view_broken.new.sink) c.write_view_broken.result (read_sight x r) was_broken
          (read_broken x r is) c.write_view_broken.ensures.written,
      at_ok (RunningStandsBetween c.read.new.self meters (after_transfer (get_of r.device.function.control_interface x) [] r)) c.write_view_broken.result
          (record { now = c.in-Err.ensures.stands meters r x stands.now at; room = transferred_room (get_of r.device.function.control_interface x) [] r stands.room }),
    )
