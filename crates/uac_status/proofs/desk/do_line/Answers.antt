use Rattle.std.proofs.Common.{◌∙◌, subst, sym}
use Rattle.uac_status.specs.DeskPhrases.{DeskPhrase}
use Rattle.uac_status.specs.DeskLines.{desk_phrase}
use Rattle.uac_status.specs.Desks.{desk_step, wants_memory}
use Rattle.uac_status.specs.DeskKept.{StageStands}
use Rattle.uac_status.specs.FrontKept.{Does}
use Rattle.uac_status.proofs.DeskStepLemmas.{described_in, phrase_is_end, played_in}
use Rattle.uac_status.proofs.desk.do_line.Goals as goal

pub returns-then-is_end-clause-does : goal.returns-then-is_end-clause-does
returns-then-is_end-clause-does g c = λ w s.
    subst (λ (p : DeskPhrase). Does (desk_step p w) (wants_memory p w) (StageStands c.go.new.stage) (g.K.Sink.written c.args.sink.now) (g.K.Sink.written c.go.new.sink) c.go.result)
    (sym (phrase_is_end (desk_phrase c.args.line) (sym c.is_end.ensures ∙ c.if-is_end.true))) (c.go.ensures.does w s)

pub returns-in-Describing-clause-does : goal.returns-in-Describing-clause-does
returns-in-Describing-clause-does g c = λ w s.
    described_in _ c.describe.new.reader (desk_phrase c.args.line) w _ c.describe.result (rw c.in-Describing.is at s) c.describe.ensures.does

pub returns-in-Running-clause-does : goal.returns-in-Running-clause-does
returns-in-Running-clause-does g c = λ w s.
    played_in c.in-Running.front c.play.new.front (desk_phrase c.args.line) w _ _ c.play.result (rw c.in-Running.is at s) c.play.ensures.does
