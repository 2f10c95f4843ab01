use Rattle.uac_units.proofs.MetersLemmas.{shown_at}
use Rattle.uac_units.proofs.meter_list.Meters.kind.Goals as goal

pub returns : goal.returns
returns g c =
    shown_at (λ b. (goal.Meter-dyn g (b.vtable, b.value)).reading_of b.value) (λ r. r.kind) c.args.self.now.list.items c.args.at c.index.result.now c.kind_of.result
    c.requires c.index.ensures c.kind_of.ensures
