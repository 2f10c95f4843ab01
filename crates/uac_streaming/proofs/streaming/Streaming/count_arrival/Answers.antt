use Rattle.std.proofs.Common.{sym, ap}
use Rattle.uac_ring.specs.declared.arrival.Arrival.{Arrival}
use Rattle.uac_ring.specs.declared.counts.StreamCounts.{StreamCounts}
use Rattle.uac_streaming.specs.StreamingWorld.{after_arrival}
use Rattle.uac_streaming.proofs.StreamingKeptLemmas.{met_still, set_so}
use Rattle.uac_streaming.proofs.streaming.Streaming.count_arrival.Goals as goal

pub returns-in-Taken-clause-stands : goal.returns-in-Taken-clause-stands
returns-in-Taken-clause-stands c d w stands same =
    met_still c.args.self.now d w c.args.interface (after_arrival c.args.arrival) (λ (k : StreamCounts). ap (λ (a : Arrival). after_arrival a k) c.in-Taken.is) stands

pub returns-clause-stands : goal.returns-clause-stands
returns-clause-stands c d w stands same =
    set_so c.args.self.now c.set_met.new.self d w c.args.function.now c.args.function.now c.args.interface (after_arrival c.args.arrival) c.met_on.result c.after_arrival-counts.result
    stands (sym same) (sym same) c.met_on.ensures.met c.set_met.ensures.met c.after_arrival-counts.ensures c.set_met.ensures.others
