use Rattle.std.proofs.Common.{◌∙◌, ap}
use Rattle.uac_streaming.specs.StreamingKept.{StreamingFields}
use Rattle.uac_streaming.proofs.StreamingWorldCountLemmas.{counts_met}
use Rattle.uac_streaming.proofs.streaming.Streaming.met_on.Goals as goal

pub returns-in-Some-clause-met : goal.returns-in-Some-clause-met
returns-in-Some-clause-met c met index is there =
    counts_met c.args.function.now c.args.interface index c.in-Some.index met c.deref.result.now c.counts_at.result
    (c.deref.ensures.value ∙ ap (λ (p : StreamingFields). p.met) c.self.view_is ∙ is) c.in-Some.ensures there c.counts_at.ensures.there
