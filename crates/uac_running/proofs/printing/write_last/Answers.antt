use Rattle.std.proofs.Common.{ap, subst, ℤ, List, [], ◌∷◌}
use Rattle.uac_transcript.specs.Transcript.{Said, says_played}
use Rattle.uac_transcript.specs.Printing.{Prints}
use Rattle.uac_transcript.proofs.PrintingLemmas.{Prints-line}
use Rattle.uac_running.proofs.ReportLinesLemmas.{none_played, said-played}
use Rattle.uac_running.proofs.printing.write_last.Goals as goal

pub returns-in-Some-clause-printed : goal.returns-in-Some-clause-printed
returns-in-Some-clause-printed g c = λ w stands.
    let heard = said-played w c.args.device.now c.args.terminal c.in-Some.frame.now.items stands c.requires (c.in-Some.ensures w stands) in
    subst (λ (lines : List Said). Prints (g.K.Sink.written c.args.sink.now) (g.K.Sink.written c.write_played.new.sink) c.write_played.result lines)
    (ap (λ (samples : List ℤ). says_played c.args.terminal samples ∷ []) heard)
    (Prints-line (g.K.Sink.written c.args.sink.now) (g.K.Sink.written c.write_played.new.sink) c.write_played.result (says_played c.args.terminal c.in-Some.frame.now.items)
    c.write_played.ensures.written)

pub returns-in-None-clause-printed : goal.returns-in-None-clause-printed
returns-in-None-clause-printed g c = λ w stands.
    absurd (none_played w c.args.device.now c.args.terminal stands c.requires (c.in-None.ensures w stands))
