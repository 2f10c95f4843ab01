-- Each setting's number is its place, which is below 16.
use Rattle.std.proofs.Common.{◌^◌, ◌≤◌, ◌<◌, arith, subst, sym}
use Rattle.uac_request.specs.Requests.{valid_bit}
use Rattle.uac_request.proofs.RequestsValidLemmas.{next_below, next_fits, next_sum, number_at, place_below}
use Rattle.uac_request.proofs.valid.valid_map.Goals as goal

pub bit_of-bits-requires : goal.bit_of-bits-requires
bit_of-bits-requires c =
    let is = number_at c.args.function.now c.args.stream.now c.functions_are_sound.ensures c.requires c.as_slice-setting-items.result.now c.loop-setting.setting-index _ c.as_slice-setting-items.ensures c.loop-setting-test.true in
    subst (λ n. n < 16) (sym is)
    (place_below c.args.function.now c.args.stream.now c.functions_are_sound.ensures c.requires c.as_slice-setting-items.result.now c.loop-setting.setting-index c.as_slice-setting-items.ensures c.loop-setting-test.true)

pub overflow_add-bits : goal.overflow_add-bits
overflow_add-bits c =
    let is = number_at c.args.function.now c.args.stream.now c.functions_are_sound.ensures c.requires c.as_slice-setting-items.result.now c.loop-setting.setting-index _ c.as_slice-setting-items.ensures c.loop-setting-test.true in
    let low = place_below c.args.function.now c.args.stream.now c.functions_are_sound.ensures c.requires c.as_slice-setting-items.result.now c.loop-setting.setting-index c.as_slice-setting-items.ensures c.loop-setting-test.true in
    let fits = next_fits c.loop-setting.bits c.bit_of-bits.result c.loop-setting.setting-index low c.loop-setting.invariant.few (subst (λ n. c.bit_of-bits.result ≤ 2 ^ n) is c.bit_of-bits.ensures.few) in
    omega (arith, fits)

pub loop-setting-preserved : goal.loop-setting-preserved
loop-setting-preserved c =
    let is = number_at c.args.function.now c.args.stream.now c.functions_are_sound.ensures c.requires c.as_slice-setting-items.result.now c.loop-setting.setting-index _ c.as_slice-setting-items.ensures c.loop-setting-test.true in
    record {
      bits = next_sum (λ t. valid_bit c.args.function.now c.args.store.now c.args.stream.now t.number) c.as_slice-setting-items.result.now c.args.stream.now.settings c.loop-setting.setting-index _ c.loop-setting.bits c.bit_of-bits.result
          c.as_slice-setting-items.ensures c.loop-setting-test.true c.loop-setting.invariant.bits c.bit_of-bits.ensures.value;
      few = next_below c.loop-setting.bits c.bit_of-bits.result c.loop-setting.setting-index c.loop-setting.invariant.few (subst (λ n. c.bit_of-bits.result ≤ 2 ^ n) is c.bit_of-bits.ensures.few);
    }
