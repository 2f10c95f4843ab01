use Rattle.uac_topology_rules.proofs.TableIdLemmas.{found_is}
use Rattle.uac_topology_rules.proofs.ends.is_usb.Goals as goal

pub is_usb_terminal-requires : goal.is_usb_terminal-requires
is_usb_terminal-requires c = (found_is c.args.table.now c.args.id c.in-Some.index c.in-Some.ensures).0
