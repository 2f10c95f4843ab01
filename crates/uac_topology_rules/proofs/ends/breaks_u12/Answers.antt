use Rattle.std.proofs.Common.{◌≡◌, ◌==◌, ◌&&◌, ◌||◌, Bool, false, not, List, take, sym, ◌∙◌}
use Rattle.std.specs.List.{list_any}
use Rattle.uac_entities.specs.EntityInterfaces.{links_of}
use Rattle.uac_entities.specs.declared.stream.StreamInterface.{StreamInterface}
use Rattle.uac_topology_rules.specs.Rules.{breaks_u12, is_usb}
use Rattle.uac_topology_rules.proofs.EndRulesLemmas.{at_stream_is}
use Rattle.uac_topology_rules.proofs.ends.breaks_u12.Goals as goal

pub returns : goal.returns
unfolding breaks_u12
returns c =
    let k = c.args.index in
    let wrong : List StreamInterface → StreamInterface → Bool =
    λ earlier s. list_any (λ l. not (is_usb c.args.table.now l && l == s.terminal)) (links_of s.settings)
    || (not (s.terminal == 0) && list_any (λ d. d.terminal == s.terminal) earlier) in
    let e : c.is_wrongly_linked.result ≡ wrong (take k c.args.streams.now) c.index-streams-index.result = c.is_wrongly_linked.ensures in
    e
    ∙ sym (at_stream_is (wrong (take k c.args.streams.now)) false c.args.streams.now k c.index-streams-index.result c.requires c.index-streams-index.is)
