use Rattle.std.proofs.Common.{◌≡◌, ◌≤◌, ◌+◌, ◌∙◌, ap, subst, sym, suc, ℕ, ◌++◌, ◌∷◌, [], List, length, arith, refl}
use Rattle.std.specs.Io.KnownBytes.{Appends}
use Rattle.uac_edges.specs.Writing.{AppendsFront}
use Rattle.uac_transcript.specs.Printing.{text_of}
use Rattle.uac_bench.specs.BenchStreams.{level_of}
use Rattle.uac_transcript.proofs.PrintingLemmas.{Prints-after, front_of_more}
use Rattle.uac_implicit.specs.Following.{PairWorld, at_ticks, sent_in, sent_out, step_next, ticks_next, ticks, ticks_lines, ended, microframe, level_lines}
use Rattle.uac_implicit.specs.PairKept.{PairStandsIn, PairRunStands}
use Rattle.uac_implicit.proofs.PairKeptLemmas.{ticks_keep, packets_keep, zeros_fit, at_ticks_same, microframe_is}
use Rattle.uac_implicit.proofs.SaidLemmas.{always}
use Rattle.uac_implicit.proofs.pair.PairRun.ticks_and_end.Goals as goal

pub returns-in-Err-clause-tells : goal.returns-in-Err-clause-tells
returns-in-Err-clause-tells g c = λ w short s.
    let v = at_ticks c.args.losses w in
    let same = at_ticks_same c.args.losses w in
    let start : PairStandsIn (suc w.time) v.steps c.args.self.now v = subst (λ (steps : List ℕ). PairStandsIn (suc w.time) steps c.args.self.now v) (sym same.steps) s in
    let goes = c.advance-ticks.ensures.stands (suc w.time) v start in
    let few = c.advance-ticks.ensures.few (suc w.time) v start in
    let none = ap length same.waiting in
    let count = c.advance-ticks.ensures.ticks (suc w.time) v start ∙ same.ticks in
    let told = c.in-Err.ensures.tells (suc w.time) (v.steps ++ step_next v ∷ []) v goes (omega arith) in (
      front_of_more (g.K.Sink.written c.args.sink.now) (g.K.Sink.written c.ticks.new.sink) (ticks_lines (ticks_next w) v) (level_lines (microframe c.args.losses w))
          (subst (λ (n : ℕ). AppendsFront (g.K.Sink.written c.args.sink.now) (g.K.Sink.written c.ticks.new.sink) (text_of (ticks_lines n v))) count told.0),
      tt,
    )

pub returns-clause-tells : goal.returns-clause-tells
returns-clause-tells g c = λ w short s.
    let v = at_ticks c.args.losses w in
    let same = at_ticks_same c.args.losses w in
    let start : PairStandsIn (suc w.time) v.steps c.args.self.now v = subst (λ (steps : List ℕ). PairStandsIn (suc w.time) steps c.args.self.now v) (sym same.steps) s in
    let inside = rw (← c.self.view_is) at start in
    let held : level_of v.out ≤ 2048 = omega (arith, c.level-held.ensures.level v.out inside.out, c.level-held.ensures.bounded) in
    let goes = c.advance-ticks.ensures.stands (suc w.time) v start in
    let few = c.advance-ticks.ensures.few (suc w.time) v start in
    let none = ap length same.waiting in
    let count = c.advance-ticks.ensures.ticks (suc w.time) v start ∙ same.ticks in
    let told = c.in-Ok.ensures.tells (suc w.time) (v.steps ++ step_next v ∷ []) v goes (omega arith) in
    let turned : PairStandsIn (suc w.time) (w.steps ++ step_next w ∷ []) c.ticks.new.self (ticks c.advance-ticks.result v) =
    subst (λ (n : ℕ). PairStandsIn (suc w.time) (w.steps ++ n ∷ []) c.ticks.new.self (ticks c.advance-ticks.result v)) same.step
    (subst (λ (steps : List ℕ). PairStandsIn (suc w.time) (steps ++ step_next v ∷ []) c.ticks.new.self (ticks c.advance-ticks.result v)) same.steps told.1) in
    let ends = c.end.ensures w (ticks c.advance-ticks.result v) turned (ticks_keep c.advance-ticks.result w v (packets_keep c.args.losses w)) count
    (λ lost. zeros_fit w c.args.losses c.advance-ticks.result short lost held few) in
    let stands : PairRunStands c.end.new.self (microframe c.args.losses w) =
    subst (PairRunStands c.end.new.self) (microframe_is c.args.losses w c.advance-ticks.result count) ends in (
      Prints-after (g.K.Sink.written c.args.sink.now) (g.K.Sink.written c.ticks.new.sink) (g.K.Sink.written c.write_level.new.sink) c.write_level.result
          (ticks_lines (ticks_next w) v) (level_lines (microframe c.args.losses w))
          (subst (λ (n : ℕ). Appends (g.K.Sink.written c.args.sink.now) (g.K.Sink.written c.ticks.new.sink) (text_of (ticks_lines n v))) count told.0)
          (c.write_level.ensures.printed _ _ (microframe c.args.losses w) stands.in_it),
      always c.write_level.result _ stands,
    )
