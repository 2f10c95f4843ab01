use Rattle.std.proofs.Common.{◌∙◌, ap, filter, subst, sym, List}
use Rattle.uac_host.specs.HostKept as hosts
use Rattle.uac_host.specs.HostWorld.{fresh_host}
use Rattle.uac_host.specs.declared.host_streams.HostStream.{HostStream}
use Rattle.uac_streaming.specs.StreamingWorld.{comes_in, goes_out}
use Rattle.uac_streaming.proofs.StreamingKeptLemmas.{stands_start}
use Rattle.uac_streaming.proofs.streaming.Streaming.new.Goals as goal

pub returns : goal.returns
returns c d of_device =
    stands_start c.args.function.now d c.host.inside.host_streams.items c.in_ok-order.order.items c.in_ok-outs.outs.items c.in_ok-ins.ins.items c.in_ok-new.field-0.value.items c.in_ok-new-2.field-0.value.items c.in_ok-met.met.items c.new-2.result of_device
    (subst (λ (host_streams : List HostStream). hosts.HostStands host_streams (fresh_host c.args.function.now)) (sym c.host.view_is) c.in_ok-host.ensures)
    c.in_ok-order.ensures (c.in_ok-outs.ensures ∙ ap (filter (goes_out c.args.function.now)) c.deref.ensures.value) (c.in_ok-ins.ensures ∙ ap (filter (comes_in c.args.function.now)) c.deref-2.ensures.value) c.in_ok-met.ensures c.new-2.ensures.stands
