use Rattle.uac_device.proofs.StreamRowsLemmas.{rested}
use Rattle.uac_device.proofs.stream_rows.rest_rows.Goals as goal

pub returns-then-port-domain-clause-frames : goal.returns-then-port-domain-clause-frames
returns-then-port-domain-clause-frames c t early id =
    rested t c.args.domain c.args.port id c.args.rows.now.slots c.silence.new.self.slots c.if-port.true c.if-port-domain.true (c.requires.wired c.if-port.true)
    (c.silence.ensures.frames t early id)
