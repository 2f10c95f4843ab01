use Rattle.std.proofs.Common.{◌∙◌, ap, ℕ, ◌++◌, ◌∷◌, []}
use Rattle.uac_clock.specs.Ticks.{ticks_in}
use Rattle.uac_implicit.specs.Following.{ticks_next}
use Rattle.uac_implicit.proofs.PairKeptLemmas.{advanced_stands}
use Rattle.uac_implicit.proofs.pair.PairRun.advance.Goals as goal

pub returns-clause-stands : goal.returns-clause-stands
returns-clause-stands c = λ sent w s.
    let t = rw (← c.self.view_is) at s in
    advanced_stands sent _ w c.advance.new.self t (c.advance.ensures.stands w.steps t.clock)

pub returns-clause-ticks : goal.returns-clause-ticks
unfolding ticks_next
returns-clause-ticks c = λ sent w s.
    let t = rw (← c.self.view_is) at s in
    c.advance.ensures.ticks w.steps t.clock ∙ ap (λ (n : ℕ). ticks_in (w.steps ++ n ∷ [])) t.step
