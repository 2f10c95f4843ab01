use Rattle.std.proofs.Common.{◌≡◌, ◌+◌, ◌*◌, length}
use Rattle.uac_pcm.proofs.blanks.resize.Given as goal

abbrev pub invariant-loop-each : goal.invariant-loop-each
invariant-loop-each l = length l.packet.items + l.missing ≡ l.len + l._each * 128
