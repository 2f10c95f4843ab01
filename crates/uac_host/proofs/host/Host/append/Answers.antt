-- The host stream of the interface is the world's, and no other changes.
use Rattle.std.proofs.Common.{◌≡◌, None, Some}
use Rattle.uac_host.specs.HostCalls.{with_samples}
use Rattle.uac_host.proofs.HostKeptCallLemmas.{append_stands, left_alone, host_stream_index, samples_turn}
use Rattle.uac_host.proofs.host.Host.append.Goals as goal

pub returns-in-Some-clause-stands : goal.returns-in-Some-clause-stands
returns-in-Some-clause-stands c w stands whole =
    let host_streams = c.self.inside.host_streams.items in
    let is : Some c.in-Some.index ≡ host_stream_index c.args.interface host_streams = cc (c.in-Some.ensures, c.self.view_is) in
    append_stands c.append.result c.args.self.now host_streams w c.args.interface c.in-Some.index c.args.samples.now c.index_mut.result.now c.append.new.self c.self.view_is stands whole is
    c.index_mut.ensures.value c.append.ensures.appended

pub returns-in-None-clause-stands : goal.returns-in-None-clause-stands
returns-in-None-clause-stands c w stands whole =
    let host_streams = c.self.inside.host_streams.items in
    let is : None ≡ host_stream_index c.args.interface host_streams = cc (c.in-None.ensures, c.self.view_is) in
    left_alone c.args.self.now host_streams w (with_samples c.args.interface c.args.samples.now w) c.args.interface c.self.view_is stands
    (samples_turn c.args.self.now w c.args.interface c.args.samples.now stands) is
