-- The stream of the host stream is the world's.
use Rattle.std.proofs.Common.{◌≡◌, ◌∙◌, ℕ, ℤ, List, length, slice_get, Some, sym, ap, subst, arith}
use Rattle.std.specs.Bool.{OnTrue}
use Rattle.uac_pcm.proofs.PacketsLemmas.{length-frames_of_bytes}
use Rattle.uac_host.proofs.HostKeptCallLemmas.{heard_nothing, heard_running, rests_in}
use Rattle.uac_host.proofs.host_streams.HostStream.hear.Goals as goal

pub returns-in-Some-clause-there : goal.returns-in-Some-clause-there
returns-in-Some-clause-there c w kept =
    let f = c.format.result in
    let bytes : List ℕ = c.args.packet.now.items in
    let heard = heard_running w c.args.self.now c.in-Some.pace f.channels f.subslot f.bits bytes kept c.in-Some.is c.format.ensures.channels c.format.ensures.subslot c.format.ensures.bits in
    let size = ap length heard ∙ length-frames_of_bytes f.channels f.subslot f.bits bytes in
    ((λ yes. omega (arith, c.frame_at.ensures.there.0 yes, size)), (λ inside. c.frame_at.ensures.there.1 (omega (arith, inside, size))))

pub returns-in-Some-clause-samples : goal.returns-in-Some-clause-samples
returns-in-Some-clause-samples c w kept =
    let f = c.format.result in
    let bytes : List ℕ = c.args.packet.now.items in
    let heard = heard_running w c.args.self.now c.in-Some.pace f.channels f.subslot f.bits bytes kept c.in-Some.is c.format.ensures.channels c.format.ensures.subslot c.format.ensures.bits in
    subst (λ (frames : List (List ℤ)). OnTrue c.frame_at.result (slice_get frames c.args.at ≡ Some c.frame_at.new.frame.items)) (sym heard) c.frame_at.ensures.samples

pub returns-in-None-clause-there : goal.returns-in-None-clause-there
returns-in-None-clause-there c w kept =
    let size = ap length (heard_nothing w c.args.self.now.interface c.args.packet.now.items (rests_in w c.args.self.now kept c.in-None.is)) in
    ((λ yes. absurd cc), (λ inside. absurd (omega (arith, inside, size))))
