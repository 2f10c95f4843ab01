use Rattle.std.proofs.Common.{◌≡◌, ◌∙◌, ◌+◌, ◌++◌, arith, drop, get_or, refl, subst, sym, zero-add, ℕ}
use Rattle.std.specs.List.{sum}
use Rattle.std.specs.Io.KnownBytes.{Appends}
use Rattle.uac_edges.specs.Writing.{AppendsFront}
use Rattle.uac_edges.proofs.WritingLemmas.{Writes-handed_on}
use Rattle.uac_transcript.specs.Printing.{text_of}
use Rattle.uac_running.specs.Events.{number_said}
use Rattle.uac_running.specs.EventTicks.{shown_from}
use Rattle.uac_running.specs.Quiet.{said_of_each}
use Rattle.uac_running.proofs.IdleLemmas.{SaidSoFar, said_begun, said_more, said_stopped, said_whole, sum_left}
use Rattle.uac_running.proofs.running.Running.show_each.Goals as goal

pub loop-count-init : goal.loop-count-init
loop-count-init g c = record {
  said = λ r detail function hold. said_begun (said_of_each c.args.domain c.args.ticks.now c.args.time 0 r) (g.K.Sink.written c.args.sink.now);
  left = zero-add (sum c.args.ticks.now);
  faultless = refl;
}

pub loop-count-preserved : goal.loop-count-preserved
loop-count-preserved g c =
    let domain = c.args.domain in
    let ts = c.args.ticks.now in
    let at = c.loop-count.count-index in
    let from = c.loop-count.from in
    let time = c.loop-count.time in
    let ticks = get_or ts at 0 in
    let old = g.K.Sink.written c.args.sink.now in
    let mid = g.K.Sink.written c.loop-count.sink in
    let new = g.K.Sink.written c.show_microframe.new.sink in
    let left : from + ticks + sum (drop (at + 1) ts) ≡ sum ts = sum_left at from ticks (sum ts) ts c.loop-count.invariant.left c.loop-count-test.true refl in
    record {
      said = λ r detail function hold.
          let whole = said_of_each domain ts c.args.time 0 r in
          subst (λ (n : ℕ). SaidSoFar whole (said_of_each domain (drop (at + 1) ts) n (from + ticks) r) old new) (sym c.saturating_add-time.ensures)
          (said_more domain ticks time at from ts r old mid new c.loop-count-test.true refl whole (c.loop-count.invariant.said r detail function hold)
          (subst (λ (n : ℕ). Appends mid new (text_of (number_said r.detail n ++ shown_from domain from ticks r))) c.saturating_add-time.ensures
          (c.in_ok-show_microframe.ensures.printed (sum ts) r (omega (arith, left)) detail function hold)));
      left = left;
      faultless = c.in_ok-show_microframe.ensures.cause.faultless ∙ c.loop-count.invariant.faultless;
    }

pub show_microframe-requires : goal.show_microframe-requires
show_microframe-requires g c =
    let ts = c.args.ticks.now in
    let at = c.loop-count.count-index in
    let left : c.loop-count.from + get_or ts at 0 + sum (drop (at + 1) ts) ≡ sum ts =
    sum_left at c.loop-count.from (get_or ts at 0) (sum ts) ts c.loop-count.invariant.left c.loop-count-test.true refl in
    omega (arith, left, c.requires)

pub returns-in_err-show_microframe-clause-printed : goal.returns-in_err-show_microframe-clause-printed
returns-in_err-show_microframe-clause-printed g c = λ r detail function hold.
    let domain = c.args.domain in
    let ts = c.args.ticks.now in
    let at = c.loop-count.count-index in
    let from = c.loop-count.from in
    let time = c.loop-count.time in
    let ticks = get_or ts at 0 in
    let old = g.K.Sink.written c.args.sink.now in
    let mid = g.K.Sink.written c.loop-count.sink in
    let new = g.K.Sink.written c.show_microframe.new.sink in
    let left : from + ticks + sum (drop (at + 1) ts) ≡ sum ts = sum_left at from ticks (sum ts) ts c.loop-count.invariant.left c.loop-count-test.true refl in
    Writes-handed_on _ old new c.from_residual.result _ c.from_residual.ensures.1
    (said_stopped domain ticks time at from ts r old mid new c.loop-count-test.true refl (said_of_each domain ts c.args.time 0 r)
    (c.loop-count.invariant.said r detail function hold)
    (subst (λ (n : ℕ). AppendsFront mid new (text_of (number_said r.detail n ++ shown_from domain from ticks r))) c.saturating_add-time.ensures
    (c.in_err-show_microframe.ensures.printed (sum ts) r (omega (arith, left)) detail function hold)))

pub returns-clause-printed : goal.returns-clause-printed
returns-clause-printed g c = λ r detail function hold.
    said_whole c.args.domain c.loop-count.time c.loop-count.count-index c.loop-count.from c.args.ticks.now r (g.K.Sink.written c.args.sink.now)
    (g.K.Sink.written c.loop-count.sink) (said_of_each c.args.domain c.args.ticks.now c.args.time 0 r) c.loop-count-test.false
    (c.loop-count.invariant.said r detail function hold)
