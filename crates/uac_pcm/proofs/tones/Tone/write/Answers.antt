use Rattle.std.proofs.Common.{◌∙◌, w32}
use Rattle.std.proofs.lemmas.Int.{to_z-of_z}
use Rattle.uac_pcm.specs.Tones.{tone_sample}
use Rattle.uac_pcm.proofs.TonesFrameLemmas.{one_sounded, two_sounded}
use Rattle.uac_pcm.proofs.tones.Tone.write.Goals as goal

pub returns-then-samples-eq1 : goal.returns-then-samples-eq1
returns-then-samples-eq1 c =
    one_sounded (tone_sample c.args.self.now c.args.place) c.args.samples.now _ c.if-samples-eq1.true
    (to_z-of_z w32 c.sample.result (record { sfits = c.sample.type_inv }) ∙ c.sample.ensures)

pub returns-then-samples-eq2 : goal.returns-then-samples-eq2
returns-then-samples-eq2 c =
    two_sounded (tone_sample c.args.self.now c.args.place) c.args.samples.now _ _ c.if-samples-eq2.true
    (to_z-of_z w32 c.sample-then-samples-eq2.result (record { sfits = c.sample-then-samples-eq2.type_inv }) ∙ c.sample-then-samples-eq2.ensures)
    (to_z-of_z w32 c.sample-then-samples-eq2-2.result (record { sfits = c.sample-then-samples-eq2-2.type_inv }) ∙ c.sample-then-samples-eq2-2.ensures)
