-- Silent frames are counted, as many as there is room for.
use Rattle.std.proofs.Common.{◌≡◌, ◌≤◌, ◌-◌, ◌∙◌, ◌++◌, ℕ, ℤ, List, length, min, replicate, pos, ap, arith}
use Rattle.uac_ring.specs.Rings.{ring_frames}
use Rattle.uac_flow.proofs.FlowTicksRowLemmas.{silence_put}
use Rattle.uac_flow.proofs.inward.InFlow.put_rows.Goals as goal

pub returns-then-are_silent-clause-stands : goal.returns-then-are_silent-clause-stands
returns-then-are_silent-clause-stands c = λ i stands.
    let ring : List (List ℤ) = c.args.ring.now in
    let few : length ring ≤ ring_frames = omega (arith, c.level-room.ensures.frames, c.level-room.ensures.bounded) in
    let put : c.put_silent.new.self ≡ ring ++ replicate (min c.args.ticks (ring_frames - length ring)) (replicate c.args.self.now.stream.format.channels (pos 0)) =
    c.put_silent.ensures
    ∙ ap (λ (n : ℕ). ring ++ replicate n (replicate c.args.self.now.stream.format.channels (pos 0))) (omega (arith, c.level-room.ensures.frames)) in
    silence_put ring c.put_silent.new.self c.args.self.now i c.args.rows.now c.args.ticks c.args.self.now.stream.format.channels stands few
    c.requires.channels (c.are_silent.ensures c.if-are_silent.true) put
