use Rattle.std.proofs.Common.{◌≡◌, ◌∙◌, ap, sym, subst, rules, ℤ, Result, Err, to_z, of_z, w32}
use Rattle.uac_request.specs.Requests.{value_bytes}
use Rattle.uac_transcript.specs.Transcript.{was_broken, was_set, element_was_stalled}
use Rattle.uac_mixer.specs.declared.faults.SetFault.{SetFault}
use Rattle.uac_mixer.specs.MixerElements.{width_of}
use Rattle.uac_mixer.specs.ViewTransfers.{came_of_set, set_of}
use Rattle.uac_running.specs.RunningKept.{RunningStands, RunningStandsBetween}
use Rattle.uac_running.specs.RunningTransfers.{comes_back, set_element, set_sight, after_transfer}
use Rattle.uac_running.proofs.TellingLemmas.{at_ok}
use Rattle.uac_running.proofs.RoomLemmas.{transferred_room}
use Rattle.uac_running.proofs.RunningTransfersLineLemmas.{sight_printed}
use Rattle.uac_running.proofs.running.Running.set_element.Goals as goal

pub returns-in-Ok-clause-tells : goal.returns-in-Ok-clause-tells
unfolding set_element
returns-in-Ok-clause-tells g c meters r x stands at =
    let exact : to_z w32 (of_z w32 c.args.value) ≡ c.args.value = search rules in
    let came : came_of_set c.set.result ≡ comes_back (set_of r.device.function.control_interface x) (value_bytes (width_of x.kind) c.args.value) r =
    subst (λ (z : ℤ). came_of_set c.set.result ≡ comes_back (set_of r.device.function.control_interface x) (value_bytes (width_of x.kind) z) r) exact
    (c.set.ensures.came meters r x stands.now at) in
    let told = sym (ap set_sight came) ∙ ap (λ (s : Result (Unit {0}) SetFault). set_sight (came_of_set s)) c.in-Ok.is in (
      sight_printed (g.K.Sink.written c.args.sink.now) (g.K.Sink.written c.write_set.new.sink) c.write_set.result
          (set_sight (comes_back (set_of r.device.function.control_interface x) (value_bytes (width_of x.kind) c.args.value) r)) was_set told c.write_set.ensures.written,
      at_ok (RunningStandsBetween c.set.new.self meters (after_transfer (set_of r.device.function.control_interface x) (value_bytes (width_of x.kind) c.args.value) r)) c.write_set.result
          (record {
            now =
                subst (λ (z : ℤ). RunningStands c.set.new.self meters (after_transfer (set_of r.device.function.control_interface x) (value_bytes (width_of x.kind) z) r)) exact
                (c.set.ensures.stands meters r x stands.now at);
            room = transferred_room (set_of r.device.function.control_interface x) (value_bytes (width_of x.kind) c.args.value) r stands.room;
          }),
    )

pub returns-in-Err-Stalled-clause-tells : goal.returns-in-Err-Stalled-clause-tells
unfolding set_element
returns-in-Err-Stalled-clause-tells g c meters r x stands at =
    let exact : to_z w32 (of_z w32 c.args.value) ≡ c.args.value = search rules in
    let came : came_of_set c.set.result ≡ comes_back (set_of r.device.function.control_interface x) (value_bytes (width_of x.kind) c.args.value) r =
    subst (λ (z : ℤ). came_of_set c.set.result ≡ comes_back (set_of r.device.function.control_interface x) (value_bytes (width_of x.kind) z) r) exact
    (c.set.ensures.came meters r x stands.now at) in
    let told = sym (ap set_sight came) ∙ ap (λ (s : Result (Unit {0}) SetFault). set_sight (came_of_set s)) (c.in-Err-Stalled.is ∙ ap Err c.in-Err-Stalled.field-0-is) in (
      sight_printed (g.K.Sink.written c.args.sink.now) (g.K.Sink.written c.write_set_stalled.new.sink) c.write_set_stalled.result
          (set_sight (comes_back (set_of r.device.function.control_interface x) (value_bytes (width_of x.kind) c.args.value) r)) (element_was_stalled c.in-Err-Stalled.rule) told c.write_set_stalled.ensures.written,
      at_ok (RunningStandsBetween c.set.new.self meters (after_transfer (set_of r.device.function.control_interface x) (value_bytes (width_of x.kind) c.args.value) r)) c.write_set_stalled.result
          (record {
            now =
                subst (λ (z : ℤ). RunningStands c.set.new.self meters (after_transfer (set_of r.device.function.control_interface x) (value_bytes (width_of x.kind) z) r)) exact
                (c.set.ensures.stands meters r x stands.now at);
            room = transferred_room (set_of r.device.function.control_interface x) (value_bytes (width_of x.kind) c.args.value) r stands.room;
          }),
    )

pub returns-in-Err-Broken-clause-tells : goal.returns-in-Err-Broken-clause-tells
unfolding set_element
returns-in-Err-Broken-clause-tells g c meters r x stands at =
    let exact : to_z w32 (of_z w32 c.args.value) ≡ c.args.value = search rules in
    let came : came_of_set c.set.result ≡ comes_back (set_of r.device.function.control_interface x) (value_bytes (width_of x.kind) c.args.value) r =
    subst (λ (z : ℤ). came_of_set c.set.result ≡ comes_back (set_of r.device.function.control_interface x) (value_bytes (width_of x.kind) z) r) exact
    (c.set.ensures.came meters r x stands.now at) in
    let told = sym (ap set_sight came) ∙ ap (λ (s : Result (Unit {0}) SetFault). set_sight (came_of_set s)) (c.in-Err-Broken.is ∙ ap Err c.in-Err-Broken.field-0-is) in (
      sight_printed (g.K.Sink.written c.args.sink.now) (g.K.Sink.written c.write_view_broken.new.sink) c.write_view_broken.result
          (set_sight (comes_back (set_of r.device.function.control_interface x) (value_bytes (width_of x.kind) c.args.value) r)) was_broken told c.write_view_broken.ensures.written,
      at_ok (RunningStandsBetween c.set.new.self meters (after_transfer (set_of r.device.function.control_interface x) (value_bytes (width_of x.kind) c.args.value) r)) c.write_view_broken.result
          (record {
            now =
                subst (λ (z : ℤ). RunningStands c.set.new.self meters (after_transfer (set_of r.device.function.control_interface x) (value_bytes (width_of x.kind) z) r)) exact
                (c.set.ensures.stands meters r x stands.now at);
            room = transferred_room (set_of r.device.function.control_interface x) (value_bytes (width_of x.kind) c.args.value) r stands.room;
          }),
    )
