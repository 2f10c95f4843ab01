use Rattle.std.proofs.Common.{◌∙◌, ap, subst, ℕ}
use Rattle.uac_implicit.proofs.PairKeptLemmas.{ended_stands}
use Rattle.uac_implicit.proofs.pair.PairRun.end.Goals as goal

pub returns : goal.returns
returns c = λ before w s keeps same room.
    let t = rw (← c.self.view_is) at s in
    ended_stands c.args.losses before w _ c.prime.new.self _ t keeps (rw (← same) (c.prime.ensures _ (c.fill.ensures w.out t.out room))) c.saturating_add-self-inside.ensures
