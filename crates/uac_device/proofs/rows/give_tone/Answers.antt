use Rattle.std.proofs.Common.{◌∙◌, arith, refl}
use Rattle.uac_graph.specs.TickRows.{frames_at}
use Rattle.uac_graph.specs.Wiring.{frame_on}
use Rattle.uac_device.proofs.HeldRowsLemmas.{counted_at}
use Rattle.uac_device.proofs.JacksLemmas.{jack_gives}
use Rattle.uac_device.proofs.rows.give_tone.Goals as goal

pub returns-then-jack-domain-clause-frames : goal.returns-then-jack-domain-clause-frames
returns-then-jack-domain-clause-frames c = λ t less id.
    jack_gives c.args.domain t c.args.place id c.args.jack.now (frame_on (frames_at t c.args.rows.now) c.args.jack.now.terminal)
    (frame_on (frames_at t c.args.rows.now) id) (frame_on (frames_at t c.give_tone.new.self) id) c.if-jack-domain.true c.requires.place
    (omega (arith, c.ranges.place.fits))
    (counted_at 0 t c.args.rows.now c.args.rows.now c.args.jack.now.terminal refl ∙ c.requires.wired)
    (c.give_tone.ensures.frames t less id)
