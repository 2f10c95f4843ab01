use Rattle.std.proofs.Common.{arith, ◌/◌}
use Rattle.uac_gain.proofs.GainRiseLemmas.{half_above-fits}
use Rattle.uac_gain.proofs.above.Goals as goal

pub overflow_cast-result-then-parts-le-HIGHEST_HALF : goal.overflow_cast-result-then-parts-le-HIGHEST_HALF
overflow_cast-result-then-parts-le-HIGHEST_HALF c =
    let fits = half_above-fits (c.args.parts / 256) (omega arith) in
    record { fits = omega arith }
