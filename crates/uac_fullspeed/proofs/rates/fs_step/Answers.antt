-- No rate gives more than 97 frames in a bus frame, and a tenth more than that fits.
use Rattle.std.proofs.Common.{arith, ◌≡◌, ◌<◌, ◌≤◌, ◌*◌, ℤ, pos, negsuc, ◌≤ℤ◌, ap, ◌∙◌, w32}
use Rattle.std.specs.Prelude.{unsigned_abs}
use Rattle.std.proofs.lemmas.Int.{ints, to_z-of_z}
use Rattle.std.proofs.lemmas.Nat.{mul-le}
use Rattle.uac_fullspeed.proofs.rates.fs_step.Goals as goal

unsigned_abs-le : (z : ℤ) → negsuc 99999 ≤ℤ z → z ≤ℤ pos 100000 → unsigned_abs z ≤ 100000
unsigned_abs-le (pos a) low high = omega (arith, ints)
unsigned_abs-le (negsuc a) low high = omega (arith, ints)

pub overflow_add-result : goal.overflow_add-result
overflow_add-result c =
    let room = c.fs_rates_have_bands.ensures.bands c.args.nominal.now c.requires.of_a_rate in
    let below : c.args.nominal.now.f < 1589248 = omega (arith, room.band.above, room.most) in
    let deviation : unsigned_abs c.args.ppm ≤ 100000 = unsigned_abs-le c.args.ppm c.requires.low c.requires.high in
    let same : c.from-2.result ≡ unsigned_abs c.args.ppm =
    c.from-2.ensures ∙ c.unsigned_abs.ensures.value ∙ ap unsigned_abs (to_z-of_z w32 c.args.ppm c.ranges.ppm) in
    let product : c.from.result * c.from-2.result ≤ 1589248 * 100000 = mul-le c.from.result c.from-2.result 1589248 100000 (omega arith) (omega arith) in
    record { fits = omega arith }
