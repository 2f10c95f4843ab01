use Rattle.std.proofs.Common.{◌≡◌, ◌*◌, replicate}
use Rattle.uac_pcm.proofs.blanks.fill_zeros.Given as goal

abbrev pub invariant-loop-each : goal.invariant-loop-each
invariant-loop-each l = l.packet.items ≡ replicate (l._each * 128) 0
