use Rattle.std.proofs.Common.{◌∙◌, Ok, Err, refl, ap, arith}
use Rattle.uac_edges.specs.Memory.{raised_count}
use Rattle.uac_runner.proofs.RunLemmas.{far_at_first, not_ended, has_line, far_on, failed_line, finished_run, stopped_run, done_still, moves, stopped_read}
use Rattle.uac_runner.proofs.run.run_lines.Goals as goal

pub loop-machine-init : goal.loop-machine-init
loop-machine-init g c = record {
  far = (λ w s. far_at_first g.M.LineMachine.machine w _ _ (g.M.LineMachine.stands c.args.machine.now c.args.beside.now) _ s c.requires.unread);
  going = rw c.requires.unread refl;
  few = rw c.requires.unread (omega arith);
  fits = c.requires.fits;
  counts = rw c.requires.fresh (omega arith);
  reads = refl;
  writes = (λ w s. refl);
}

pub do_line-requires-clause-few : goal.do_line-requires-clause-few
do_line-requires-clause-few g c =
    let i = c.loop-machine.invariant in
    let before_end = not_ended c.loop-machine.lines.ended (Ok c.in-Ok-Line.field-0) (c.in-Ok-Line.ensures.ended i.going) (λ e. cc (c.in-Ok-Line.field-0-is)) in
    let go = moves _ _ _ _ _ _ c.in-Ok-Line.field-0 c.in-Ok-Line.field-0-is i.few (c.in-Ok-Line.ensures.splits i.going before_end) in
    let s = go.smaller in let n = i.counts in let f = i.few in omega arith

pub loop-machine-smaller : goal.loop-machine-smaller
loop-machine-smaller g c =
    let i = c.loop-machine.invariant in
    let before_end = not_ended c.loop-machine.lines.ended (Ok c.in-Ok-Line.field-0) (c.in-Ok-Line.ensures.ended i.going) (λ e. cc (c.in-Ok-Line.field-0-is)) in
    let go = moves _ _ _ _ _ _ c.in-Ok-Line.field-0 c.in-Ok-Line.field-0-is i.few (c.in-Ok-Line.ensures.splits i.going before_end) in
    let s = go.smaller in omega arith

pub loop-machine-preserved : goal.loop-machine-preserved
loop-machine-preserved g c =
    let i = c.loop-machine.invariant in
    let before_end = not_ended c.loop-machine.lines.ended (Ok c.in-Ok-Line.field-0) (c.in-Ok-Line.ensures.ended i.going) (λ e. cc (c.in-Ok-Line.field-0-is)) in
    let splits = c.in-Ok-Line.ensures.splits i.going before_end in
    let go = moves _ _ _ _ _ _ c.in-Ok-Line.field-0 c.in-Ok-Line.field-0-is i.few splits in
    let still = c.in-Ok-Line.ensures.faultless (λ e. cc) in
    let m = g.M.LineMachine.machine in
    let holds = g.M.LineMachine.stands c.loop-machine.machine c.loop-machine.beside in
    let holds' = g.M.LineMachine.stands c.do_line.new.machine c.do_line.new.beside in
    record {
      far = (λ w s.
          let f = i.far w s in
          let has = has_line m w _ _ _ _ _ holds _ _ _ _ f c.in-Ok-Line.field-0 c.in-Ok-Line.field-0-is before_end splits still in
          far_on m w _ _ _ _ _ _ holds holds' _ _ _ _ _ _ f has _ c.text.ensures.0 (c.in-Ok.ensures.does f.world f.stands));
      going = go.going;
      few = go.few;
      fits = c.in-Ok.ensures.still_fits;
      counts = (let n = i.counts in let k = c.in-Ok.ensures.counts in let o = go.number in omega arith);
      reads = still ∙ i.reads;
      writes = (λ w s.
          let f = i.far w s in
          done_still m (m.step c.text.result.now f.world) holds' _ _ _ _ (c.in-Ok.ensures.does f.world f.stands) ∙ i.writes w s);
    }

pub returns-in-Err-do_line-clause-run : goal.returns-in-Err-do_line-clause-run
returns-in-Err-do_line-clause-run g c = λ w s.
    let i = c.loop-machine.invariant in
    let f = i.far w s in
    let m = g.M.LineMachine.machine in
    let holds = g.M.LineMachine.stands c.loop-machine.machine c.loop-machine.beside in
    let before_end = not_ended c.loop-machine.lines.ended (Ok c.in-Ok-Line.field-0) (c.in-Ok-Line.ensures.ended i.going) (λ e. cc (c.in-Ok-Line.field-0-is)) in
    let has = has_line m w _ _ _ _ _ holds _ _ _ _ f c.in-Ok-Line.field-0 c.in-Ok-Line.field-0-is before_end (c.in-Ok-Line.ensures.splits i.going before_end) (c.in-Ok-Line.ensures.faultless (λ e. cc)) in
    failed_line m g.met.M.LineMachine.free w (g.M.LineMachine.shows c.do_line.new.beside) _ _ _ _ _ _ _ _ _ _ _ _ _ _ _ _ _ _ has f.appended c.next.ensures.within i.reads (i.writes w s)
    _ _ _ c.text.ensures.0 c.number.ensures (c.in-Err-do_line.ensures.does f.world f.stands) c.refuse_line.ensures.closed
    (λ e. let q = c.refuse_line.ensures.silent e in (q.0, ap g.K.Sink.written q.1, ap g.K.Sink.faults q.1))

pub returns-in-Ok-End-clause-run : goal.returns-in-Ok-End-clause-run
returns-in-Ok-End-clause-run g c = λ w s.
    let i = c.loop-machine.invariant in
    let f = i.far w s in
    (finished_run g.M.LineMachine.machine g.met.M.LineMachine.free w (g.M.LineMachine.stands c.loop-machine.machine c.loop-machine.beside) (g.M.LineMachine.shows c.loop-machine.beside) _ _ _ _ _ _ _ _ _ _ _ _ _ _ _
    f (c.in-Ok-End.ensures.faultless (λ e. cc) ∙ i.reads) (i.writes w s) (g.met.M.LineMachine.shown _ _ f.world f.stands) _ c.in-Ok-End.field-0-is (c.in-Ok-End.ensures.splits i.going)
    (λ e. let q = c.in-Ok-End.ensures.ended i.going e in (q.1, ap g.S.Source.left q.2)) c.next.ensures.within
    _ (c.saturating_add.ensures ∙ ap raised_count c.number-in-Ok-End.ensures) (c.finish.ensures.closed f.world f.stands)).0

pub returns-in-Ok-End-clause-ok : goal.returns-in-Ok-End-clause-ok
returns-in-Ok-End-clause-ok g c = λ w s _.
    let i = c.loop-machine.invariant in
    let f = i.far w s in
    (finished_run g.M.LineMachine.machine g.met.M.LineMachine.free w (g.M.LineMachine.stands c.loop-machine.machine c.loop-machine.beside) (g.M.LineMachine.shows c.loop-machine.beside) _ _ _ _ _ _ _ _ _ _ _ _ _ _ _
    f (c.in-Ok-End.ensures.faultless (λ e. cc) ∙ i.reads) (i.writes w s) (g.met.M.LineMachine.shown _ _ f.world f.stands) _ c.in-Ok-End.field-0-is (c.in-Ok-End.ensures.splits i.going)
    (λ e. let q = c.in-Ok-End.ensures.ended i.going e in (q.1, ap g.S.Source.left q.2)) c.next.ensures.within
    _ (c.saturating_add.ensures ∙ ap raised_count c.number-in-Ok-End.ensures) (c.finish.ensures.closed f.world f.stands)).1

pub returns-in-Err-clause-run : goal.returns-in-Err-clause-run
returns-in-Err-clause-run g c = λ w s.
    let i = c.loop-machine.invariant in
    let f = i.far w s in
    let before_end = not_ended c.loop-machine.lines.ended (Err c.in-Err.stop) (c.in-Err.ensures.ended i.going) (λ e. cc) in
    stopped_run g.M.LineMachine.machine g.met.M.LineMachine.free w (g.M.LineMachine.stands c.loop-machine.machine c.loop-machine.beside) (g.M.LineMachine.shows c.loop-machine.beside) _ _ _ _ _ _ _ _ _ _ _ _ _ _ _
    f c.next.ensures.within i.reads (i.writes w s) (g.met.M.LineMachine.shown _ _ f.world f.stands) _ _ c.number-in-Err.ensures before_end
    (c.in-Err.ensures.splits i.going before_end) (Err c.in-Err.stop) refl c.in-Err.ensures.faultless c.stop_lines.ensures.closed

pub returns-in-Err-clause-read_fault : goal.returns-in-Err-clause-read_fault
returns-in-Err-clause-read_fault g c = λ e.
    let i = c.loop-machine.invariant in
    let before_end = not_ended c.loop-machine.lines.ended (Err c.in-Err.stop) (c.in-Err.ensures.ended i.going) (λ e. cc) in
    rw (← i.reads) (stopped_read _ _ _ _ _ _ _ (c.stop_lines.ensures.read e) (c.in-Err.ensures.splits i.going before_end))
