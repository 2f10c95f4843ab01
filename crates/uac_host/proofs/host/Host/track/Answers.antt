-- The host stream of the interface is the world's, and no other changes.
use Rattle.std.proofs.Common.{◌≡◌, None, Some}
use Rattle.uac_host.specs.declared.host_streams.HostStream.{HostStream}
use Rattle.uac_host.specs.HostCalls.{with_track_tone}
use Rattle.uac_host.proofs.HostKeptCallLemmas.{kept_at, left_alone, host_stream_index, put_back, host_stream_with_tone, tone_turns}
use Rattle.uac_host.proofs.host.Host.track.Goals as goal

pub returns-in-Some : goal.returns-in-Some
returns-in-Some c = record {
  stands = λ w stands.
      (let host_streams = c.self.inside.host_streams.items in
      let now = c.args.self.now in
      let old = c.index_mut.result.now in
      let is : Some c.in-Some.index ≡ host_stream_index c.args.interface host_streams = cc (c.in-Some.ensures, c.self.view_is) in
      let read = kept_at now host_streams w c.args.interface c.in-Some.index old c.self.view_is stands is c.index_mut.ensures.value in
      let new : HostStream = record { interface = old.interface; pace = old.pace; track = c.play.new.self } in
      put_back now host_streams w (with_track_tone c.args.interface c.args.tone w) c.args.interface c.in-Some.index old new c.self.view_is stands
      (tone_turns now w c.args.interface c.args.tone stands) is
      (host_stream_with_tone w c.args.interface c.args.tone old c.play.new.self read.0 read.1 c.play.ensures));
}

pub returns-in-None : goal.returns-in-None
returns-in-None c = record {
  stands = λ w stands.
      (let host_streams = c.self.inside.host_streams.items in
      let is : None ≡ host_stream_index c.args.interface host_streams = cc (c.in-None.ensures, c.self.view_is) in
      left_alone c.args.self.now host_streams w (with_track_tone c.args.interface c.args.tone w) c.args.interface c.self.view_is stands
      (tone_turns c.args.self.now w c.args.interface c.args.tone stands) is);
}
