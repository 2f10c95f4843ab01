-- The host stream of the interface is the world's.
use Rattle.std.proofs.Common.{◌≡◌, ◌∙◌, ℕ, None, Some, length, ap, refl}
use Rattle.uac_host.specs.HostCalls.{packet_of}
use Rattle.uac_host.proofs.HostBytesLemmas.{no_bytes}
use Rattle.uac_host.proofs.HostKeptCallLemmas.{kept_at, no_stream, host_stream_index}
use Rattle.uac_host.proofs.host.Host.bytes.Goals as goal

pub returns-in-Some : goal.returns-in-Some
returns-in-Some c w stands =
    let now = c.args.self.now in
    let old = c.index.result.now in
    let is : Some c.in-Some.index ≡ host_stream_index c.args.interface c.self.inside.host_streams.items = cc (c.in-Some.ensures, c.self.view_is) in
    let read = kept_at now c.self.inside.host_streams.items w c.args.interface c.in-Some.index old c.self.view_is stands is c.index.ensures in
    c.bytes.ensures w read.0 ∙ ap (λ (n : ℕ). length (packet_of w n)) read.1

pub returns-in-None : goal.returns-in-None
returns-in-None c w stands =
    let now = c.args.self.now in
    let is : None ≡ host_stream_index c.args.interface now = c.in-None.ensures in
    no_bytes w c.args.interface (no_stream now now w c.args.interface refl stands is)
