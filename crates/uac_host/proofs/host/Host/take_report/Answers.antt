-- The host stream of the interface is the world's, and no other changes.
use Rattle.std.proofs.Common.{◌≡◌, None, Some}
use Rattle.uac_host.specs.HostCalls.{with_report}
use Rattle.uac_host.proofs.HostKeptCallLemmas.{kept_at, left_alone, host_stream_index, put_back, report_kept, report_turns}
use Rattle.uac_host.proofs.host.Host.take_report.Goals as goal

pub returns-in-Some : goal.returns-in-Some
returns-in-Some c = record {
  stands = λ w stands.
      (let host_streams = c.self.inside.host_streams.items in
      let now = c.args.self.now in
      let old = c.index_mut.result.now in
      let is : Some c.in-Some.index ≡ host_stream_index c.args.interface host_streams = cc (c.in-Some.ensures, c.self.view_is) in
      let read = kept_at now host_streams w c.args.interface c.in-Some.index old c.self.view_is stands is c.index_mut.ensures.value in
      put_back now host_streams w (with_report c.args.interface c.args.value w) c.args.interface c.in-Some.index old c.take_report.new.self c.self.view_is stands
      (report_turns now w c.args.interface c.args.value stands) is
      (report_kept w c.args.interface c.args.value old c.take_report.new.self read.0 read.1 c.take_report.ensures));
}

pub returns-in-None : goal.returns-in-None
returns-in-None c = record {
  stands = λ w stands.
      (let host_streams = c.self.inside.host_streams.items in
      let is : None ≡ host_stream_index c.args.interface host_streams = cc (c.in-None.ensures, c.self.view_is) in
      left_alone c.args.self.now host_streams w (with_report c.args.interface c.args.value w) c.args.interface c.self.view_is stands
      (report_turns c.args.self.now w c.args.interface c.args.value stands) is);
}
