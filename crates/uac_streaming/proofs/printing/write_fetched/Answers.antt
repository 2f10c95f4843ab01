use Rattle.uac_host.specs.HostCalls.{heard_in}
use Rattle.uac_streaming.proofs.StreamingWorldLemmas.{fetched_told}
use Rattle.uac_streaming.proofs.printing.write_fetched.Goals as goal

pub returns-clause-printed : goal.returns-clause-printed
returns-clause-printed g c = λ w stands.
    let f = c.args.fetched in
    fetched_told (g.K.Sink.written c.args.sink.now) (g.K.Sink.written c.write_arrived.new.sink) (g.K.Sink.written c.write_heard.new.sink) c.write_heard.result
    c.args.detail f.interface f.frames f.lost (heard_in w f.interface c.args.packet.now.items) c.if-detail-lt1.false c.if-fetched.false
    c.in_ok-write_arrived.ensures.printed (c.write_heard.ensures.printed w stands)
