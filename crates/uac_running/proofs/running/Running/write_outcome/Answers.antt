use Rattle.std.proofs.Common.{ap, sym, Result}
use Rattle.uac_request.specs.declared.reply.Answer.{Answer}
use Rattle.uac_mixer.specs.declared.link.Broken.{Broken}
use Rattle.uac_mixer.specs.ViewTransfers.{came_of}
use Rattle.uac_transcript.specs.Transcript.{broke}
use Rattle.uac_running.specs.RunningTransfers.{outcome_of}
use Rattle.uac_running.proofs.RunningTransfersLineLemmas.{outcome_printed, outcome_seen}
use Rattle.uac_running.proofs.running.Running.write_outcome.Goals as goal

pub returns-in-Ok-clause-printed : goal.returns-in-Ok-clause-printed
returns-in-Ok-clause-printed g c =
    outcome_seen (g.K.Sink.written c.args.sink.now) (g.K.Sink.written c.write_answer.new.sink) c.write_answer.result
    (ap (λ (came : Result Answer Broken). outcome_of c.args.self.now.configuration (came_of came)) (sym c.in-Ok.is)) c.write_answer.ensures.printed

pub returns-in-Err-clause-printed : goal.returns-in-Err-clause-printed
unfolding outcome_of
returns-in-Err-clause-printed g c =
    outcome_printed (g.K.Sink.written c.args.sink.now) (g.K.Sink.written c.write_broken.new.sink) c.write_broken.result
    (outcome_of c.args.self.now.configuration (came_of c.args.came.now)) broke
    (ap (λ (came : Result Answer Broken). outcome_of c.args.self.now.configuration (came_of came)) c.in-Err.is) c.write_broken.ensures.written
