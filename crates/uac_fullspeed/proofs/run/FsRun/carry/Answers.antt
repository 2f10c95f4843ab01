-- The stream's part of a bus frame is that of the run.
use Rattle.std.proofs.Common.{◌≡◌, sym, subst}
use Rattle.uac_fullspeed.specs.FullSpeedKept.{FsRunFields, FsRunStandsBetween}
use Rattle.uac_fullspeed.proofs.RunLemmas.{carried_between}
use Rattle.uac_fullspeed.proofs.run.FsRun.carry.Goals as goal

pub returns-clause-tells : goal.returns-clause-tells
returns-clause-tells g c = λ w stands short.
    let s = subst (λ (p : FsRunFields). FsRunStandsBetween p w) (sym c.self.view_is) stands in
    carried_between c.args.brought w _ c.carry.new.stream c.self.inside.detail (g.K.Sink.written c.args.sink.now) (g.K.Sink.written c.carry.new.sink) c.carry.result s s.now.detail short
    (c.carry.ensures.tells w.stream s.now.stream s.room short)
