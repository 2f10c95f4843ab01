use Rattle.std.proofs.Common.{ℕ, subst}
use Rattle.std.specs.Io.KnownBytes.{Appends}
use Rattle.uac_edges.specs.Writing.{AppendsFront}
use Rattle.uac_edges.proofs.WritingLemmas.{Writes-handed_on}
use Rattle.uac_transcript.specs.Printing.{text_of}
use Rattle.uac_transcript.proofs.PrintingLemmas.{Prints-after, front_of_more}
use Rattle.uac_running.specs.Events.{number_said}
use Rattle.uac_running.specs.EventTicks.{shown_from}
use Rattle.uac_running.proofs.running.Running.show_microframe.Goals as goal

pub returns-in_err-write_number-clause-printed : goal.returns-in_err-write_number-clause-printed
returns-in_err-write_number-clause-printed g c = λ done r within detail function hold.
    let old = g.K.Sink.written c.args.sink.now in
    let new = g.K.Sink.written c.write_number.new.sink in
    Writes-handed_on _ old new c.from_residual.result _ c.from_residual.ensures.1
    (front_of_more old new (number_said r.detail c.args.time) (shown_from c.args.domain c.args.from c.args.count r)
    (subst (λ (n : ℕ). AppendsFront old new (text_of (number_said n c.args.time))) detail c.in_err-write_number.ensures.printed))

pub returns-clause-printed : goal.returns-clause-printed
returns-clause-printed g c = λ done r within detail function hold.
    let old = g.K.Sink.written c.args.sink.now in
    let mid = g.K.Sink.written c.write_number.new.sink in
    Prints-after old mid (g.K.Sink.written c.show_rows.new.sink) c.show_rows.result (number_said r.detail c.args.time)
    (shown_from c.args.domain c.args.from c.args.count r)
    (subst (λ (n : ℕ). Appends old mid (text_of (number_said n c.args.time))) detail c.in_ok-write_number.ensures.printed)
    (c.show_rows.ensures.printed done r within detail function hold)
