use Rattle.std.proofs.Common.{◌≡◌, ◌∷◌, ◌++◌, ◌+◌, [], ℕ, List, length, take, arith, sym, ap, ◌∙◌, subst}
use Rattle.uac_topology_rules.specs.Domains.{IsDomains}
use Rattle.uac_topology_rules.proofs.DomainsEntityLemmas.{domains_none, domains_more}
use Rattle.uac_topology_rules.proofs.domains.domains_of.Goals as goal

pub loop-entity-init : goal.loop-entity-init
loop-entity-init c = domains_none c.new-clocks.result.items c.new-counts.result.items c.new-clocks.ensures.items c.new-counts.ensures.items

pub loop-entity-preserved : goal.loop-entity-preserved
loop-entity-preserved c =
    let l = c.loop-entity in
    let es = c.args.entities.now in
    let clocks = c.note.new.clocks in
    let count : c.len.result ≡ length clocks.items = omega (arith, c.len.ensures, clocks.ok.0) in
    let pushed : c.push.new.self.items ≡ l.counts.items ++ length clocks.items ∷ [] =
    c.in_ok-push.ensures.items ∙ ap (λ (n : ℕ). l.counts.items ++ n ∷ []) count in
    subst (λ (ns : List ℕ). IsDomains (take (l.entity-index + 1) es) clocks.items ns) (sym pushed)
    (domains_more es l.entity-index c.entity-item.result l.clocks.items l.counts.items clocks.items c.loop-entity-test.true c.entity-item.is
    c.in_ok-note.ensures l.invariant)
