use Rattle.std.proofs.Common.{◌∙◌, ap, subst, ℤ, List, [], ◌∷◌, ◌++◌}
use Rattle.std.specs.Io.KnownBytes.{Appends}
use Rattle.uac_edges.specs.Writing.{AppendsFront}
use Rattle.uac_graph.specs.TickRows.{frames_at}
use Rattle.uac_graph.specs.Wiring.{samples_on}
use Rattle.uac_transcript.specs.Transcript.{Said, says_played, spelling_of}
use Rattle.uac_running.specs.ReportLines.{Gathers}
use Rattle.uac_running.proofs.GatheringLemmas.{front_of_gathered, gathered_given, gathered_there, gathers_handed_on, line_gathered}
use Rattle.uac_running.proofs.printing.gather_jack.Goals as goal
use Rattle.uac_running.proofs.printing.gather_jack.Goals.{then-as_bytes-gt297+in_ok-give_all, else-as_bytes-gt297}

pub returns-in_err-give_all-clause-gathered : goal.returns-in_err-give_all-clause-gathered
returns-in_err-give_all-clause-gathered g c = λ start lines gathered.
    let old = g.K.Sink.written c.args.sink.now in
    let new = g.K.Sink.written c.give_all.new.sink in
    let line : List Said = says_played c.args.terminal (samples_on (frames_at c.args.tick c.args.device.now.rows) c.args.terminal) ∷ [] in
    gathers_handed_on _ start new c.args.text.now c.from_residual.result (lines ++ line) c.from_residual.ensures.1
    (front_of_gathered start old new c.args.text.now lines line (subst (AppendsFront old new) c.as_bytes-then-as_bytes-gt297.ensures.text c.in_err-give_all.ensures.written) gathered)

pub returns-clause-gathered : goal.returns-clause-gathered
returns-clause-gathered g c = λ start lines gathered.
    let now = g.K.Sink.written c.if-as_bytes-gt297.sink in
    let samples : List ℤ = samples_on (frames_at c.args.tick c.args.device.now.rows) c.args.terminal in
    let waits : Gathers start now c.if-as_bytes-gt297.text lines =
    elim c.if-as_bytes-gt297.branch [
      | then-as_bytes-gt297+in_ok-give_all w ↦
          (let given = w.give_all.new.sink in
          gathered_there start (g.K.Sink.written given) now [] c.if-as_bytes-gt297.text lines (ap g.K.Sink.written w.sink-is) (w.text-is ∙ w.new.ensures)
          (gathered_given start (g.K.Sink.written c.args.sink.now) (g.K.Sink.written given) c.args.text.now lines
          (subst (Appends (g.K.Sink.written c.args.sink.now) (g.K.Sink.written given)) w.as_bytes-then-as_bytes-gt297.ensures.text w.in_ok-give_all.ensures.written) gathered))
      | else-as_bytes-gt297 w ↦ gathered_there start (g.K.Sink.written c.args.sink.now) now c.args.text.now c.if-as_bytes-gt297.text lines (ap g.K.Sink.written w.sink-is) w.text-is gathered
    ] in
    line_gathered start now c.if-as_bytes-gt297.text c.push_played.new.text lines (says_played c.args.terminal samples)
    (c.push_played.ensures.text ∙ ap (λ (frame : List ℤ). c.if-as_bytes-gt297.text ++ spelling_of (says_played c.args.terminal frame)) c.read_played.ensures) waits
