-- The shifts round down to a multiple of the unit, which divides 2^31.
use Rattle.std.proofs.Common.{◌-◌, ◌^◌, arith}
use Rattle.std.proofs.lemmas.Nat.{pow_pos}
use Rattle.uac_pcm.specs.Subslots.{cut_to}
use Rattle.uac_pcm.proofs.SubslotsLemmas.{pow-mul}
use Rattle.uac_pcm.proofs.SubslotsRoundingLemmas.{shifts_round}
use Rattle.uac_pcm.proofs.subslots.cut_to.Goals as goal

pub returns : goal.returns
unfolding cut_to
returns c =
    let unused = 32 - c.args.resolution in
    let used = c.args.resolution - 1 in
    shifts_round c.args.sample (2 ^ unused) (2 ^ used) (pow_pos unused) (pow-mul used unused 31 (omega arith)) c.ranges.sample
