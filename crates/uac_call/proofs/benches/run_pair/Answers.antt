use Rattle.std.proofs.Common.{sym, ◌∙◌}
use Rattle.uac_ends.proofs.ClosingLemmas.{closes_memory}
use Rattle.uac_clock.specs.Nominal.{values_of}
use Rattle.uac_implicit.specs.Following.{pair_start}
use Rattle.uac_implicit.proofs.MachineLemmas.{nominal_listed}
use Rattle.uac_call.proofs.BenchLemmas.{pair_performs, pair_unmade}
use Rattle.uac_call.proofs.benches.run_pair.Goals as goal

pub unreachable-requires : goal.unreachable-requires
unreachable-requires g c = c.in_default.not-Some (values_of c.args.rate) (c.nominal.ensures ∙ nominal_listed c.args.rate c.requires)

pub returns-in-Ok : goal.returns-in-Ok
returns-in-Ok g c = λ shown.
    pair_performs c.args.rate shown _ _ _ c.pair_scripts_keep_promises.ensures.fronts c.pair_scripts_keep_promises.ensures.near c.requires
    (c.run_script.ensures (pair_start c.args.rate) (c.in-Ok.ensures c.args.rate (sym c.nominal.ensures ∙ c.in-Some.is)))

pub returns-in-Err : goal.returns-in-Err
returns-in-Err g c = λ shown. pair_unmade c.args.rate shown _ _ _ _ _ _ _ (closes_memory _ _ _ _ _ c.close.ensures)
