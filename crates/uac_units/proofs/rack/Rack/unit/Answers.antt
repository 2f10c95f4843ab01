use Rattle.std.proofs.Common.{ap}
use Rattle.uac_units.specs.Fitting.{slot}
use Rattle.uac_units.proofs.rack.Rack.unit.Goals as goal

pub returns-in-Feature-clause-slot : goal.returns-in-Feature-clause-slot
returns-in-Feature-clause-slot g c = let here = ap (slot c.args.self.now) c.in-Feature.is in cc

pub returns-in-Mixer-clause-slot : goal.returns-in-Mixer-clause-slot
returns-in-Mixer-clause-slot g c = let here = ap (slot c.args.self.now) c.in-Mixer.is in cc
