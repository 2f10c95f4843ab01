use Rattle.std.proofs.Common.{◌≡◌, ◌<◌, ◌∙◌, ap, subst, sym, ℕ, ◌∷◌, List, arith, Bool, true, false, length}
use Rattle.uac_clock.specs.Nominal.{values_of}
use Rattle.uac_implicit.specs.Followers.{FollowerStands}
use Rattle.uac_implicit.specs.Following.{sent_in}
use Rattle.uac_implicit.proofs.PairKeptLemmas.{lost_stands, heard_stands, first_stands}
use Rattle.uac_implicit.proofs.pair.PairRun.hear.Goals as goal

pub returns-then-lost : goal.returns-then-lost
returns-then-lost c = λ sent steps w s.
    let t = rw (← c.self.view_is) at s in
    rw c.if-lost.true (lost_stands sent steps _ w t _ c.saturating_add-self-inside.ensures)

pub returns-then-self-gt0 : goal.returns-then-self-gt0
returns-then-self-gt0 c = λ sent steps w s.
    let t = rw (← c.self.view_is) at s in
    let f = c.heard.ensures.stands (values_of w.rate) sent w.heard t.follower in
    rw c.if-lost.false (heard_stands sent steps _ w t _ c.if-self-gt0.true
    (subst (λ (n : ℕ). FollowerStands (values_of w.rate) sent (n ∷ w.heard) c.heard.new.self) c.level.ensures.frames f))

pub returns-else-self-gt0 : goal.returns-else-self-gt0
returns-else-self-gt0 c = λ sent steps w s.
    let t = rw (← c.self.view_is) at s in
    let first : c.self.inside.time ≡ 0 = omega (arith, c.if-self-gt0.false) in
    rw c.if-lost.false (rw c.self.view_is at (first_stands sent steps _ w t first))
