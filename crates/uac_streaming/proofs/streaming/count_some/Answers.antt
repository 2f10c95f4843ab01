use Rattle.std.proofs.Common.{◌≡◌, ◌∙◌, ap, sym, arith, ℕ, ◌%◌, ◌==◌, if◌then◌else◌}
use Rattle.uac_ring.specs.declared.counts.StreamCounts.{StreamCounts}
use Rattle.uac_streaming.specs.StreamingWorld.{nothing_met, one_over}
use Rattle.uac_streaming.proofs.StreamingWorldFoundLemmas.{found_all, found_in, found_more, found_of}
use Rattle.uac_streaming.proofs.streaming.count_some.Goals as goal

pub loop-counts-preserved : goal.loop-counts-preserved
loop-counts-preserved c =
    found_more c.loop-counts.empty c.loop-counts.full c.loop-counts.counts-index c.loop-counts.met c.one_over.result nothing_met (omega arith)
    (c.one_over.ensures ∙ ap (λ (k : StreamCounts). if c.loop-counts.full % 2 == 1 then one_over k else k) c.one_under.ensures)
    ∙ c.loop-counts.invariant

pub returns : goal.returns
returns c before w clock is found =
    sym (found_all c.loop-counts.empty c.loop-counts.full c.loop-counts.counts-index c.loop-counts.met (omega arith))
    ∙ c.loop-counts.invariant
    ∙ found_of before w clock c.args.found c.args.met.now is found
