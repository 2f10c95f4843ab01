-- The host stream of the interface is the world's, and no other changes.
use Rattle.std.proofs.Common.{◌≡◌, None, Some}
use Rattle.std.specs.Option.{option_map}
use Rattle.uac_alt.specs.AltStreams.{stream_fields}
use Rattle.uac_host.specs.HostCalls.{with_stream}
use Rattle.uac_host.proofs.HostKeptCallLemmas.{each_runnable, given_of, kept_at, left_alone, host_stream_index, put_back, host_stream_with_stream, stream_turns}
use Rattle.uac_host.proofs.host.Host.set_stream.Goals as goal

pub run-requires : goal.run-requires
run-requires c = each_runnable c.settings_are_in_range.ensures c.args.interface c.args.stream c.requires

pub returns-in-Some : goal.returns-in-Some
returns-in-Some c = record {
  stands = λ w stands of.
      (let host_streams = c.self.inside.host_streams.items in
      let now = c.args.self.now in
      let old = c.index_mut.result.now in
      let is : Some c.in-Some.index ≡ host_stream_index c.args.interface host_streams = cc (c.in-Some.ensures, c.self.view_is) in
      let read = kept_at now host_streams w c.args.interface c.in-Some.index old c.self.view_is stands is c.index_mut.ensures.value in
      put_back now host_streams w (with_stream c.args.interface (option_map stream_fields c.args.stream) w) c.args.interface c.in-Some.index old c.run.new.self c.self.view_is stands
      (stream_turns now w c.args.interface (option_map stream_fields c.args.stream) stands (given_of w.function c.args.interface c.args.stream of)) is
      (host_stream_with_stream w c.args.interface c.args.stream old c.run.new.self read.0 read.1 c.run.ensures));
}

pub returns-in-None : goal.returns-in-None
returns-in-None c = record {
  stands = λ w stands of.
      (let host_streams = c.self.inside.host_streams.items in
      let is : None ≡ host_stream_index c.args.interface host_streams = cc (c.in-None.ensures, c.self.view_is) in
      left_alone c.args.self.now host_streams w (with_stream c.args.interface (option_map stream_fields c.args.stream) w) c.args.interface c.self.view_is stands
      (stream_turns c.args.self.now w c.args.interface (option_map stream_fields c.args.stream) stands (given_of w.function c.args.interface c.args.stream of)) is);
}
