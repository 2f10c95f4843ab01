-- A service interval has at most as many frames as fit the packet.
use Rattle.std.proofs.Common.{◌*◌, ◌≤◌, ℕ, arith, subst, sym}
use Rattle.std.proofs.Math.Nat.{mul-le-mul_right}
use Rattle.uac_host.proofs.paces.Pace.bytes.Goals as goal

pub frames_of-frames-requires-clause-slow : goal.frames_of-frames-requires-clause-slow
frames_of-frames-requires-clause-slow c =
    let room = c.nominal_values_leave_room.ensures.room _ c.self.invariant.stream.nominal in
    let most = c.self.invariant.most in
    omega arith

pub overflow_mul-result : goal.overflow_mul-result
overflow_mul-result c =
    let s = c.self.inside.stream in
    let keeps = c.self.invariant in
    let whole = c.packets_and_ticks_are_whole.ensures.packets s.nominal s.service c.self.inside.pacer c.self.inside.value keeps.remainder keeps.least keeps.most in
    let few : c.frames_of-frames.result ≤ s.service * s.nominal.hi = omega (arith, c.frames_of-frames.ensures.frames, whole.1) in
    let bytes : c.frames_of-frames.result * (s.format.channels * s.format.subslot) ≤ 3072 =
    omega (arith, mul-le-mul_right (s.format.channels * s.format.subslot) few, keeps.stream.fits) in
    let small : c.frames_of-frames.result * c.frame_bytes.result ≤ 3072 =
    subst (λ (n : ℕ). c.frames_of-frames.result * n ≤ 3072) (sym c.frame_bytes.ensures) bytes in
    omega (arith, small)
