use Rattle.std.proofs.Common.{◌≡◌, ◌==◌, ◌<◌, not, List, length, arith, ap, sym, ◌∙◌, subst}
use Rattle.std.specs.List.{list_any}
use Rattle.uac_entities.specs.declared.entity.Entity.{Entity}
use Rattle.uac_topology_rules.specs.declared.signals.Behind.{Behind}
use Rattle.uac_topology_rules.specs.declared.signals.Behind.TheVariants as clocks
use Rattle.uac_topology_rules.specs.Behind.{differs}
use Rattle.uac_topology_rules.specs.Clusters.{clocks_of}
use Rattle.std.proofs.lemmas.List.{get_or_read}
use Rattle.uac_topology_rules.proofs.known.Known.clocks_differ.Goals as goal

pub returns : goal.returns
returns c =
    let k = c.self.inside in
    let v : k.table ≡ c.args.self.now = c.self.view_is in
    let below : c.args.index < length k.table = subst (λ (xs : List Entity). c.args.index < length xs) (sym v) c.requires in
    c.differs.ensures
    ∙ ap (λ (b : Behind). differs b c.args.clock) (get_or_read k.clocks.items c.args.index c.index.result.now (omega (arith, below, c.self.invariant.ticking.sized)) c.index.ensures clocks.Nothing)
    ∙ sym (c.self.invariant.ticking.told c.args.index below c.args.clock)
    ∙ ap (λ (xs : List Entity). list_any (λ x. not (x == c.args.clock)) (clocks_of xs c.args.index)) v
