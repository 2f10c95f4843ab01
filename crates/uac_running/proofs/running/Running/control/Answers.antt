use Rattle.std.proofs.Common.{◌≡◌, ◌∙◌, ap, ℕ, List, [], ◌∷◌, subst}
use Rattle.uac_mixer.specs.ViewTransfers.{came_of}
use Rattle.uac_transcript.specs.Transcript.{TransferOutcome, says_answer}
use Rattle.uac_transcript.specs.Printing.{Prints}
use Rattle.uac_running.specs.RunningKept.{RunningStandsBetween}
use Rattle.uac_topology.specs.Configuration.{configuration_of}
use Rattle.uac_running.specs.RunningTransfers.{comes_back, outcome_of, transfer, after_transfer}
use Rattle.uac_running.proofs.TellingLemmas.{at_ok}
use Rattle.uac_running.proofs.RoomLemmas.{transferred_room}
use Rattle.uac_running.proofs.running.Running.control.Goals as goal

pub returns-clause-tells : goal.returns-clause-tells
unfolding transfer after_transfer
returns-clause-tells g c meters r stands =
    let next = c.transfer-came.ensures.stands meters r stands.now in
    let same : outcome_of c.transfer-came.new.self.configuration (came_of c.transfer-came.result)
    ≡ outcome_of (configuration_of r.descriptor) (comes_back c.args.setup.now c.args.sent.now r) =
    ap (λ (bytes : List ℕ). outcome_of bytes (came_of c.transfer-came.result)) next.configuration
    ∙ ap (outcome_of (configuration_of r.descriptor)) (c.transfer-came.ensures.came meters r stands.now) in (
      subst (λ (o : TransferOutcome). Prints (g.K.Sink.written c.args.sink.now) (g.K.Sink.written c.write_outcome.new.sink) c.write_outcome.result (says_answer o ∷ []))
          same c.write_outcome.ensures.printed,
      at_ok (RunningStandsBetween c.transfer-came.new.self meters (after_transfer c.args.setup.now c.args.sent.now r)) c.write_outcome.result
          (record { now = next; room = transferred_room c.args.setup.now c.args.sent.now r stands.room }),
    )
