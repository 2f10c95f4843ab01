use Rattle.std.proofs.Common.{◌≡◌, ◌∙◌, ap, sym, length}
use Rattle.std.proofs.lemmas.List.{length-set}
use Rattle.uac_ring.specs.declared.counts.StreamCounts.{StreamCounts}
use Rattle.uac_device.proofs.ListChangeLemmas.{put_back}
use Rattle.uac_streaming.specs.StreamingKept.{StreamingFields}
use Rattle.uac_streaming.specs.StreamingWorld.{met_in}
use Rattle.uac_streaming.proofs.StreamingWorldCountLemmas.{counts_put, counts_stay, index_below}
use Rattle.uac_streaming.proofs.streaming.Streaming.set_met.Goals as goal

pub returns-in-Some-clause-met : goal.returns-in-Some-clause-met
returns-in-Some-clause-met c met is =
    let function = c.args.function.now in
    let old : c.deref_mut.result.now ≡ met_in met function = c.deref_mut.ensures.value ∙ ap (λ (p : StreamingFields). p.met) c.self.view_is ∙ is in
    let put = c.put_at.ensures.put (index_below function c.args.interface c.in-Some.index met c.deref_mut.result.now old c.in-Some.ensures) in
    put_back c.self.inside.met.len c.put_at.new.met c.self.inside.met.items
    (ap length put ∙ length-set c.deref_mut.result.now c.in-Some.index c.args.counts ∙ c.deref_mut.ensures.len)
    ∙ put
    ∙ counts_put function c.args.interface c.in-Some.index met c.args.counts c.deref_mut.result.now (c.interfaces_are_numbered.ensures function c.functions_are_sound.ensures)
    (sym c.in-Some.ensures) old

pub returns-in-None-clause-met : goal.returns-in-None-clause-met
returns-in-None-clause-met c met is =
    is ∙ sym (counts_stay c.args.function.now c.args.interface met (λ (k : StreamCounts). c.args.counts) (sym c.in-None.ensures))
