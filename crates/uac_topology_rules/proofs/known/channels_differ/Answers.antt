use Rattle.std.proofs.Common.{◌==◌, ℕ, not, get_or, map, arith, ap, sym, ◌∙◌}
use Rattle.std.proofs.lemmas.List.{get_or-map, length-map}
use Rattle.std.proofs.lemmas.List.Folds.{list_any_at}
use Rattle.std.proofs.lemmas.Bool.{ne_eqb}
use Rattle.uac_entities.specs.Entities.{no_cluster}
use Rattle.uac_topology_rules.proofs.known.channels_differ.Goals as goal

pub returns-then-clusters-index : goal.returns-then-clusters-index
returns-then-clusters-index c =
    let f : ℕ → ℕ = λ p. (get_or c.args.clusters.now p no_cluster).channels in
    let i = c.loop-index.index-index in
    sym (list_any_at (λ n. not (n == c.args.channels)) (map f c.args.sources.now) i 0
    (omega (arith, length-map c.args.sources.now f, c.loop-index-test.true))
    (ap (λ (n : ℕ). not (n == c.args.channels)) (get_or-map f c.args.sources.now i 0 0 c.loop-index-test.true)
    ∙ ap not (ne_eqb _ c.args.channels (λ e. c.if-clusters-index.true e))))
