use Rattle.std.proofs.Common.{◌==◌, ◌&&◌, false, sym, ◌∙◌}
use Rattle.std.specs.List.{list_any}
use Rattle.uac_entities.specs.declared.stream.StreamInterface.{StreamInterface}
use Rattle.uac_topology_rules.specs.Rules.{breaks_u13, is_wrong}
use Rattle.uac_topology_rules.proofs.EndRulesLemmas.{at_stream_is}
use Rattle.uac_topology_rules.proofs.ends.breaks_u13.Goals as goal

pub returns : goal.returns
unfolding breaks_u13
returns c =
    c.has_wrong_endpoints.ensures
    ∙ sym (at_stream_is (λ (s : StreamInterface). list_any (λ a. a.interface == s.number && is_wrong s.out a) c.args.all.now) false c.args.streams.now c.args.index
    c.index-streams-index.result c.requires c.index-streams-index.is)
