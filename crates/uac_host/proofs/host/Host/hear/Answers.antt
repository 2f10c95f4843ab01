-- The host stream of the interface is the world's.
use Rattle.std.proofs.Common.{◌≡◌, ◌<◌, ◌↔◌, ℕ, true, None, Some, length, slice_get, ap, refl, subst, arith}
use Rattle.std.specs.Bool.{OnTrue}
use Rattle.uac_host.specs.HostCalls.{heard_in}
use Rattle.uac_host.proofs.HostKeptCallLemmas.{heard_nothing, kept_at, no_stream, host_stream_index}
use Rattle.uac_host.proofs.host.Host.hear.Goals as goal

pub returns-in-Some-clause-there : goal.returns-in-Some-clause-there
returns-in-Some-clause-there c w stands =
    let now = c.args.self.now in
    let old = c.index.result.now in
    let is : Some c.in-Some.index ≡ host_stream_index c.args.interface c.self.inside.host_streams.items = cc (c.in-Some.ensures, c.self.view_is) in
    let read = kept_at now c.self.inside.host_streams.items w c.args.interface c.in-Some.index old c.self.view_is stands is c.index.ensures in
    subst (λ (n : ℕ). (c.hear.result ≡ true) ↔ (c.args.at < length (heard_in w n c.args.packet.now.items))) read.1 (c.hear.ensures.there w read.0)

pub returns-in-Some-clause-samples : goal.returns-in-Some-clause-samples
returns-in-Some-clause-samples c w stands =
    let now = c.args.self.now in
    let old = c.index.result.now in
    let is : Some c.in-Some.index ≡ host_stream_index c.args.interface c.self.inside.host_streams.items = cc (c.in-Some.ensures, c.self.view_is) in
    let read = kept_at now c.self.inside.host_streams.items w c.args.interface c.in-Some.index old c.self.view_is stands is c.index.ensures in
    subst (λ (n : ℕ). OnTrue c.hear.result (slice_get (heard_in w n c.args.packet.now.items) c.args.at ≡ Some c.hear.new.frame.items)) read.1 (c.hear.ensures.samples w read.0)

pub returns-in-None-clause-there : goal.returns-in-None-clause-there
returns-in-None-clause-there c w stands =
    let now = c.args.self.now in
    let is : None ≡ host_stream_index c.args.interface now = c.in-None.ensures in
    let size = ap length (heard_nothing w c.args.interface c.args.packet.now.items (no_stream now now w c.args.interface refl stands is)) in
    ((λ yes. absurd cc), (λ inside. absurd (omega (arith, inside, size))))
