use Rattle.std.proofs.Common.{sym, ◌∙◌}
use Rattle.uac_ends.proofs.ClosingLemmas.{closes_memory}
use Rattle.uac_fullspeed.specs.FullSpeedNominal.{fs_values_of}
use Rattle.uac_fullspeed.specs.FullSpeedWorld.{full_speed_start}
use Rattle.uac_call.proofs.BenchLemmas.{full_listed, full_performs, full_unmade}
use Rattle.uac_call.proofs.benches.run_full.Goals as goal

pub unreachable-requires : goal.unreachable-requires
unreachable-requires g c = c.in_default.not-Some (fs_values_of c.args.rate) (c.fs_nominal.ensures ∙ full_listed c.args.rate c.requires)

pub returns-in-Ok : goal.returns-in-Ok
returns-in-Ok g c = λ shown.
    full_performs c.args.rate shown _ _ _ c.full_speed_scripts_keep_promises.ensures.fronts c.requires
    (c.run_script.ensures (full_speed_start c.args.rate) (c.in-Ok.ensures c.args.rate (sym c.fs_nominal.ensures ∙ c.in-Some.is)))

pub returns-in-Err : goal.returns-in-Err
returns-in-Err g c = λ shown. full_unmade c.args.rate shown _ _ _ _ _ _ _ (closes_memory _ _ _ _ _ c.close.ensures)
