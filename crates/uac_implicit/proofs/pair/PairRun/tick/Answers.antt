use Rattle.std.proofs.Common.{◌≡◌, ◌<◌, ◌∙◌, ap, subst, List, ℤ, ◌++◌, ◌∷◌, [], arith, length}
use Rattle.uac_transcript.specs.Transcript.{Said}
use Rattle.uac_transcript.specs.Printing.{Prints}
use Rattle.uac_implicit.specs.Following.{tick}
use Rattle.uac_implicit.proofs.PairKeptLemmas.{tick_stands, put_there}
use Rattle.uac_implicit.proofs.SaidLemmas.{always, tick_told}
use Rattle.uac_implicit.proofs.pair.PairRun.tick.Goals as goal

pub returns-clause-tells : goal.returns-clause-tells
unfolding tick
returns-clause-tells g c = λ sent steps w s room.
    let t = rw (← c.self.view_is) at s in
    let frame = c.tick-ticked.ensures.frame w.out t.out in
    let long = ap length t.waiting in
    let below : length c.self.inside.waiting < 2048 = omega arith in
    let put = put_there c.put.result _ (length c.self.inside.waiting) c.put.ensures.full below c.put.ensures.appended in (
      subst (λ (lines : List Said). Prints (g.K.Sink.written c.args.sink.now) (g.K.Sink.written c.write_tick.new.sink) c.write_tick.result lines)
          (tick_told c.self.inside.detail c.tick-ticked.result.under c.tick-ticked.result.frame.items w t.detail (c.tick-ticked.ensures.under w.out t.out) frame)
          c.write_tick.ensures.printed,
      always c.write_tick.result _
          (tick_stands sent steps _ w t c.tick-ticked.new.self c.put.new.self (c.tick-ticked.ensures.stands w.out t.out)
          (put ∙ ap (λ (xs : List (List ℤ)). xs ++ c.tick-ticked.result.frame.items ∷ []) t.waiting ∙ ap (λ (x : List ℤ). w.waiting ++ x ∷ []) frame)),
    )
