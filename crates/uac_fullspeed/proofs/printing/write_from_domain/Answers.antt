use Rattle.std.proofs.Common.{◌∷◌, [], Some}
use Rattle.uac_transcript.specs.Transcript.{says_time, says_steady, says_domain}
use Rattle.uac_transcript.proofs.PrintingLemmas.{spelt-after, spelt-stopped}
use Rattle.uac_fullspeed.specs.FullSpeedLines.{fs_spelling_of, says_as_run, says_stream}
use Rattle.uac_fullspeed.proofs.FsPrintingLemmas.{FsAppends-said, fs_front_of_said}
use Rattle.uac_fullspeed.proofs.printing.write_from_domain.Goals as goal

pub returns-in_err-write_domain-clause-printed : goal.returns-in_err-write_domain-clause-printed
returns-in_err-write_domain-clause-printed g c =
    spelt-stopped fs_spelling_of _ (g.K.Sink.written c.args.sink.now) (g.K.Sink.written c.write_domain.new.sink) c.from_residual.result (says_as_run (says_domain 1 (Some c.args.shown.rate) c.args.shown.ticks) ∷ []) (says_stream c.args.shown.level c.args.shown.target c.args.shown.met ∷ []) c.from_residual.ensures.1
    (fs_front_of_said (g.K.Sink.written c.args.sink.now) (g.K.Sink.written c.write_domain.new.sink) (says_domain 1 (Some c.args.shown.rate) c.args.shown.ticks) c.in_err-write_domain.ensures.written)

pub returns-clause-printed : goal.returns-clause-printed
returns-clause-printed g c =
    spelt-after fs_spelling_of (g.K.Sink.written c.args.sink.now) (g.K.Sink.written c.write_domain.new.sink) (g.K.Sink.written c.write_stream.new.sink) c.write_stream.result (says_as_run (says_domain 1 (Some c.args.shown.rate) c.args.shown.ticks) ∷ []) (says_stream c.args.shown.level c.args.shown.target c.args.shown.met ∷ [])
    (FsAppends-said (g.K.Sink.written c.args.sink.now) (g.K.Sink.written c.write_domain.new.sink) (says_domain 1 (Some c.args.shown.rate) c.args.shown.ticks) c.in_ok-write_domain.ensures.written) c.write_stream.ensures.printed
