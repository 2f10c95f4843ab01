use Rattle.std.proofs.Common.{ap, subst, ℕ, List, Some}
use Rattle.uac_request.specs.Requests.{answer_fields}
use Rattle.uac_request.specs.declared.reply.Answer.{Answer}
use Rattle.uac_edges.specs.Writing.{Writes}
use Rattle.uac_transcript.specs.Transcript.{gave, says_answer, spelling_of, transfer_was_stalled, was_done}
use Rattle.uac_running.specs.RunningTransfers.{outcome_of, piece}
use Rattle.uac_running.proofs.RunningTransfersLineLemmas.{outcome_printed}
use Rattle.uac_running.proofs.running.Running.write_answer.Goals as goal

pub returns-in-Bytes-clause-printed : goal.returns-in-Bytes-clause-printed
unfolding outcome_of
returns-in-Bytes-clause-printed g c =
    outcome_printed (g.K.Sink.written c.args.sink.now) (g.K.Sink.written c.write_given.new.sink) c.write_given.result
    (outcome_of c.args.self.now.configuration (Some (answer_fields c.args.answer.now))) (gave c.in-Bytes.bytes.items)
    (ap (λ (answer : Answer). outcome_of c.args.self.now.configuration (Some (answer_fields answer))) c.in-Bytes.is)
    (subst (λ (bytes : List ℕ). Writes (g.K.Sink.written c.args.sink.now) (g.K.Sink.written c.write_given.new.sink) c.write_given.result (spelling_of (says_answer (gave bytes)))) c.as_slice.ensures.value c.write_given.ensures.written)

pub returns-in-Descriptor-clause-printed : goal.returns-in-Descriptor-clause-printed
unfolding outcome_of
returns-in-Descriptor-clause-printed g c =
    outcome_printed (g.K.Sink.written c.args.sink.now) (g.K.Sink.written c.write_given-in-Descriptor.new.sink) c.write_given-in-Descriptor.result
    (outcome_of c.args.self.now.configuration (Some (answer_fields c.args.answer.now))) (gave (piece c.in-Descriptor.from c.in-Descriptor.to c.args.self.now.configuration))
    (ap (λ (answer : Answer). outcome_of c.args.self.now.configuration (Some (answer_fields answer))) c.in-Descriptor.is)
    (subst (λ (bytes : List ℕ). Writes (g.K.Sink.written c.args.sink.now) (g.K.Sink.written c.write_given-in-Descriptor.new.sink) c.write_given-in-Descriptor.result (spelling_of (says_answer (gave bytes)))) c.piece.ensures c.write_given-in-Descriptor.ensures.written)

pub returns-in-Done-clause-printed : goal.returns-in-Done-clause-printed
unfolding outcome_of
returns-in-Done-clause-printed g c =
    outcome_printed (g.K.Sink.written c.args.sink.now) (g.K.Sink.written c.write_done.new.sink) c.write_done.result
    (outcome_of c.args.self.now.configuration (Some (answer_fields c.args.answer.now))) was_done
    (ap (λ (answer : Answer). outcome_of c.args.self.now.configuration (Some (answer_fields answer))) c.in-Done.is)
    c.write_done.ensures.written

pub returns-in-Stall-clause-printed : goal.returns-in-Stall-clause-printed
unfolding outcome_of
returns-in-Stall-clause-printed g c =
    outcome_printed (g.K.Sink.written c.args.sink.now) (g.K.Sink.written c.write_stalled.new.sink) c.write_stalled.result
    (outcome_of c.args.self.now.configuration (Some (answer_fields c.args.answer.now))) (transfer_was_stalled c.in-Stall.rule)
    (ap (λ (answer : Answer). outcome_of c.args.self.now.configuration (Some (answer_fields answer))) c.in-Stall.is)
    c.write_stalled.ensures.written
