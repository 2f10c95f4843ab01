-- The stream of the host stream is the world's.
use Rattle.uac_host.proofs.HostBytesLemmas.{no_bytes, packet_bytes}
use Rattle.uac_host.proofs.HostKeptCallLemmas.{rests_in}
use Rattle.uac_host.proofs.host_streams.HostStream.bytes.Goals as goal

pub returns-in-Some : goal.returns-in-Some
returns-in-Some c w kept = packet_bytes w c.args.self.now c.in-Some.pace c.bytes.result kept c.in-Some.is c.bytes.ensures

pub returns-in-None : goal.returns-in-None
returns-in-None c w kept = no_bytes w c.args.self.now.interface (rests_in w c.args.self.now kept c.in-None.is)
