use Rattle.std.proofs.Common.{sym, ap, Bool, if◌then◌else◌}
use Rattle.uac_ring.specs.declared.counts.StreamCounts.{StreamCounts}
use Rattle.uac_streaming.specs.StreamingWorld.{one_lost}
use Rattle.uac_streaming.proofs.StreamingKeptLemmas.{met_still, set_so}
use Rattle.uac_streaming.proofs.streaming.Streaming.count_fetched.Goals as goal

pub returns-then-not-lost-clause-stands : goal.returns-then-not-lost-clause-stands
returns-then-not-lost-clause-stands c d w stands same =
    met_still c.args.self.now d w c.args.interface (λ (k : StreamCounts). if c.args.lost then one_lost k else k) (λ (k : StreamCounts). ap (λ (b : Bool). if b then one_lost k else k) c.if-not-lost.true) stands

pub returns-clause-stands : goal.returns-clause-stands
returns-clause-stands c d w stands same =
    set_so c.args.self.now c.set_met.new.self d w c.args.function.now c.args.function.now c.args.interface (λ (k : StreamCounts). if c.args.lost then one_lost k else k) c.met_on.result c.one_lost-counts.result
    stands (sym same) (sym same) c.met_on.ensures.met c.set_met.ensures.met c.one_lost-counts.ensures c.set_met.ensures.others
