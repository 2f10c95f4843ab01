use Rattle.std.proofs.Common.{ℕ, arith, ap, ◌∙◌, ltb}
use Rattle.uac_entities.specs.declared.entity.Entity.{Entity}
use Rattle.uac_topology_rules.specs.Table.{index_of}
use Rattle.uac_topology_rules.specs.Rules.{breaks_u2}
use Rattle.uac_topology_rules.proofs.TableIdLemmas.{any_before}
use Rattle.uac_topology_rules.proofs.names.breaks_u2.Goals as goal

pub returns : goal.returns
unfolding breaks_u2
returns c =
    let es = c.args.table.now in
    ap (λ (n : ℕ). ltb n c.args.index) (c.index_of.ensures ∙ ap (λ (e : Entity). index_of es e.id) c.at.ensures)
    ∙ any_before es _ c.args.index (omega arith)
