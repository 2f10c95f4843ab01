-- A service interval has at most as many frames as fit the packet.
use Rattle.std.proofs.Common.{◌*◌, ◌≤◌, arith, subst}
use Rattle.std.proofs.Math.Nat.{mul-le-mul_right}
use Rattle.uac_host.specs.HostFields.{PaceFields}
use Rattle.uac_host.proofs.paces.Pace.size.Goals as goal

pub frames_of-requires-clause-slow : goal.frames_of-requires-clause-slow
frames_of-requires-clause-slow c =
    let room = c.nominal_values_leave_room.ensures.room _ c.self.invariant.stream.nominal in
    let most = c.self.invariant.most in
    omega arith

pub returns-clause-fits : goal.returns-clause-fits
returns-clause-fits c =
    let s = c.self.inside.stream in
    let keeps = c.self.invariant in
    let whole = c.packets_and_ticks_are_whole.ensures.packets s.nominal s.service c.self.inside.pacer c.self.inside.value keeps.remainder keeps.least keeps.most in
    let few : c.frames_of.result ≤ s.service * s.nominal.hi = omega (arith, c.frames_of.ensures.frames, whole.1) in
    let bytes : c.frames_of.result * (s.format.channels * s.format.subslot) ≤ 3072 =
    omega (arith, mul-le-mul_right (s.format.channels * s.format.subslot) few, keeps.stream.fits) in
    subst (λ (p : PaceFields). c.frames_of.result * (p.stream.channels * p.stream.subslot) ≤ 3072) c.self.view_is bytes
