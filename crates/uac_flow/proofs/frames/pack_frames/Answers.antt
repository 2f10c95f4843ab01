-- There is room for each frame, since there is for all.
use Rattle.std.proofs.Common.{◌≡◌, ◌≤◌, ◌∙◌, ◌+◌, ◌*◌, ℕ, length, take, ap, arith, refl}
use Rattle.std.proofs.Math.Nat.{mul-le-mul_right}
use Rattle.arrayvec.specs.ArrayVec.{ArrayVec}
use Rattle.uac_flow.proofs.FlowsFrameLemmas.{packed_further}
use Rattle.uac_flow.proofs.frames.pack_frames.Goals as goal
use Rattle.uac_flow.proofs.frames.pack_frames.Goals.{in-Some, in_default}

pub loop-number-preserved : goal.loop-number-preserved
loop-number-preserved c =
    let format = c.args.format.now in
    let width : ℕ = format.channels * format.subslot in
    let n : ℕ = c.loop-number.number in
    let start : n * c.frame_bytes-size.result ≡ n * width = ap (λ (m : ℕ). n * m) c.frame_bytes-size.ensures in
    let before : n * width ≤ c.args.count * width = mul-le-mul_right width (omega arith) in
    let inside : n * c.frame_bytes-size.result ≤ length c.loop-number.packet.items = omega (arith, c.loop-number.invariant.sized) in
    elim c.match-at.branch [
      | in-Some w ↦ record {
        sized = ap (λ (p : ArrayVec ℕ). length p.items) w.packet-is ∙ w.write_at.ensures.len ∙ c.loop-number.invariant.sized;
        written =
            ap (λ (p : ArrayVec ℕ). take ((n + 1) * width) p.items) w.packet-is
            ∙ packed_further format.channels format.subslot format.bits (n * c.frame_bytes-size.result) n c.args.ring.now w.in-Some.frame.now.items
            c.loop-number.packet.items w.write_at.new.packet.items _ c.requires.frames start inside
            w.in-Some.ensures.frame
            (ap (λ (m : ℕ). take m c.loop-number.packet.items) start ∙ c.loop-number.invariant.written) w.write_at.ensures.written;
      }
      | in_default w ↦ let short : length c.args.ring.now ≤ n = w.in_default.ensures.none.0 refl in absurd (omega arith)
    ]
