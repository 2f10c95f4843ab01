use Rattle.std.proofs.Common.{◌≡◌, ◌*◌, take, replicate}
use Rattle.uac_pcm.proofs.blanks.are_zeros.Given as goal

abbrev pub invariant-loop-number : goal.invariant-loop-number
invariant-loop-number l = take (l.number * 8) l.bytes ≡ replicate (l.number * 8) 0
