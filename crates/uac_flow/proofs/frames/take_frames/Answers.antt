-- Silent frames have zeros for their bytes.
use Rattle.std.proofs.Common.{◌∙◌, ◌*◌, ℕ, replicate, ap, sym}
use Rattle.arrayvec.specs.ArrayVec.{ArrayVec}
use Rattle.uac_flow.proofs.FlowsFrameLemmas.{silent_packed}
use Rattle.uac_flow.proofs.frames.take_frames.Goals as goal
use Rattle.uac_flow.proofs.frames.take_frames.Goals.{then-is_silent, else-is_silent}

pub returns-clause-packet : goal.returns-clause-packet
returns-clause-packet c =
    let format = c.args.format.now in
    elim c.if-is_silent.branch [
      | then-is_silent w ↦
          ap (λ (p : ArrayVec ℕ). p.items) w.packet-is
          ∙ w.fill_zeros.ensures
          ∙ ap (λ (n : ℕ). replicate (c.args.count * n) 0) w.frame_bytes.ensures
          ∙ sym (silent_packed format.channels format.subslot format.bits c.args.count c.args.ring.now
          (c.is_silent.ensures format.channels w.if-is_silent.true c.requires.frames) c.requires.there)
      | else-is_silent w ↦ ap (λ (p : ArrayVec ℕ). p.items) w.packet-is ∙ w.pack_frames.ensures
    ]
