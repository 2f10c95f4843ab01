use Rattle.std.proofs.Common.{◌∙◌}
use Rattle.uac_graph.specs.TickRows.{frames_at}
use Rattle.uac_graph.specs.Wiring.{frame_on}
use Rattle.uac_device.proofs.JacksLemmas.{given_more, wired_at}
use Rattle.uac_device.proofs.rows.give_tones.Goals as goal

pub give_tone-requires-clause-wired : goal.give_tone-requires-clause-wired
give_tone-requires-clause-wired c =
    wired_at c.args.rows.now c.loop-jack.rows c.args.jacks.now c.loop-jack.jack-index _ c.requires.wired c.loop-jack-test.true c.loop-jack.invariant.lengths

pub loop-jack-preserved : goal.loop-jack-preserved
loop-jack-preserved c = record {
  frames = λ t less id.
      given_more c.args.domain t id c.args.jacks.now c.loop-jack.jack-index _ (frame_on (frames_at t c.args.rows.now) id)
      (frame_on (frames_at t c.loop-jack.rows) id) (frame_on (frames_at t c.give_tone.new.rows) id) c.loop-jack-test.true
      (c.give_tone.ensures.frames t less id) (c.loop-jack.invariant.frames t less id);
  lengths = c.give_tone.ensures.lengths ∙ c.loop-jack.invariant.lengths;
  room = c.give_tone.ensures.room ∙ c.loop-jack.invariant.room;
}
