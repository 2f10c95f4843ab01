-- What is shown, part by part.
use Rattle.std.proofs.Common.{◌≡◌, ◌∙◌, ap, sym, subst, ℕ}
use Rattle.uac_fullspeed.specs.FullSpeedKept.{FsRunFields, FsRunStands, four_times}
use Rattle.uac_fullspeed.proofs.RunLemmas.{shows, time_ticks}
use Rattle.uac_fullspeed.proofs.run.FsRun.shown.Goals as goal

pub returns : goal.returns
returns c = λ w stands.
    let s = subst (λ (p : FsRunFields). FsRunStands p w) (sym c.self.view_is) stands in
    shows w _ s.time (c.holds.ensures w.history s.steady) (c.rate_of.ensures w.rate s.rate) (time_ticks c.ticks.result w.steps (c.ticks.ensures (four_times w.steps) s.clock))
    (c.level.ensures.level w.stream s.stream) (c.target.ensures.target w.stream s.stream) (c.met.ensures w.stream s.stream)
