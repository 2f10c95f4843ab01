use Rattle.std.proofs.Common.{◌≡◌, ◌≤◌, ◌*◌, unsigned_abs}
use Rattle.uac_units.proofs.RenderingMixLemmas.{mixed_front}
use Rattle.uac_units.proofs.plain.mix.Given as goal

abbrev pub invariant-loop-at : goal.invariant-loop-at
invariant-loop-at l =
    (l.sum ≡ mixed_front l.job l.inputs l.channel l.at) × (unsigned_abs l.sum ≤ 2147483648 * l.at)
