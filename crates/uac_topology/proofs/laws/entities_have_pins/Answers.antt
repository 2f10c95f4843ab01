use Rattle.uac_topology.proofs.FunctionKeptPinLemmas.{have_pins}
use Rattle.uac_topology.proofs.laws.entities_have_pins.Goals as goal

pub returns : goal.returns
returns c = have_pins
