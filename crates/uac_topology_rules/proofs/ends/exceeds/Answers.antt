use Rattle.std.proofs.Common.{arith, ◌||◌, Bool, false, ltb, length, ap, sym, ◌∙◌}
use Rattle.std.proofs.lemmas.Bool.{lt-ltb, le-ltb}
use Rattle.uac_entities.specs.declared.stream.StreamInterface.{StreamInterface}
use Rattle.uac_topology_rules.specs.Rules.{exceeds, at_stream}
use Rattle.uac_topology_rules.proofs.EndRulesLemmas.{at_stream_is}
use Rattle.uac_topology_rules.proofs.ends.exceeds.Goals as goal

pub returns-then-index-ge-MOST_STREAMS : goal.returns-then-index-ge-MOST_STREAMS
unfolding exceeds
returns-then-index-ge-MOST_STREAMS c =
    let t = lt-ltb 7 c.args.index (omega (arith, c.if-index-ge-MOST_STREAMS.true)) in
    t ∙ sym (ap (λ (b : Bool). b || at_stream (λ s. ltb 16 (length s.settings)) false c.args.streams.now c.args.index) t)

pub returns-else-index-ge-MOST_STREAMS : goal.returns-else-index-ge-MOST_STREAMS
unfolding exceeds
returns-else-index-ge-MOST_STREAMS c =
    let f = le-ltb 7 c.args.index (omega (arith, c.if-index-ge-MOST_STREAMS.false)) in
    let few : StreamInterface → Bool = λ s. ltb 16 (length s.settings) in
    c.has_too_many.ensures
    ∙ sym (at_stream_is few false c.args.streams.now c.args.index c.index-streams-index.result c.requires c.index-streams-index.is)
    ∙ sym (ap (λ (b : Bool). b || at_stream few false c.args.streams.now c.args.index) f)
