use Rattle.std.proofs.Common.{◌∷◌, [], Some}
use Rattle.uac_transcript.specs.Transcript.{says_time, says_steady, says_domain}
use Rattle.uac_transcript.proofs.PrintingLemmas.{spelt-after, spelt-stopped}
use Rattle.uac_fullspeed.specs.FullSpeedLines.{fs_spelling_of, says_as_run, says_stream}
use Rattle.uac_fullspeed.proofs.FsPrintingLemmas.{FsAppends-said, fs_front_of_said}
use Rattle.uac_fullspeed.proofs.printing.write_shown.Goals as goal

pub returns-in_err-write_time-clause-printed : goal.returns-in_err-write_time-clause-printed
returns-in_err-write_time-clause-printed g c =
    spelt-stopped fs_spelling_of _ (g.K.Sink.written c.args.sink.now) (g.K.Sink.written c.write_time.new.sink) c.from_residual.result (says_as_run (says_time c.args.shown.time) ∷ []) (says_as_run (says_steady c.args.shown.steady) ∷ says_as_run (says_domain 1 (Some c.args.shown.rate) c.args.shown.ticks) ∷ says_stream c.args.shown.level c.args.shown.target c.args.shown.met ∷ []) c.from_residual.ensures.1
    (fs_front_of_said (g.K.Sink.written c.args.sink.now) (g.K.Sink.written c.write_time.new.sink) (says_time c.args.shown.time) c.in_err-write_time.ensures.written)

pub returns-clause-printed : goal.returns-clause-printed
returns-clause-printed g c =
    spelt-after fs_spelling_of (g.K.Sink.written c.args.sink.now) (g.K.Sink.written c.write_time.new.sink) (g.K.Sink.written c.write_from_steady.new.sink) c.write_from_steady.result (says_as_run (says_time c.args.shown.time) ∷ []) (says_as_run (says_steady c.args.shown.steady) ∷ says_as_run (says_domain 1 (Some c.args.shown.rate) c.args.shown.ticks) ∷ says_stream c.args.shown.level c.args.shown.target c.args.shown.met ∷ [])
    (FsAppends-said (g.K.Sink.written c.args.sink.now) (g.K.Sink.written c.write_time.new.sink) (says_time c.args.shown.time) c.in_ok-write_time.ensures.written) c.write_from_steady.ensures.printed
