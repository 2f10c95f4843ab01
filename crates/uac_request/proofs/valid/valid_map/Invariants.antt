use Rattle.std.proofs.Common.{◌≡◌, ◌^◌, ◌<◌, take}
use Rattle.uac_request.specs.Requests.{valid_sum}
use Rattle.uac_request.proofs.valid.valid_map.Given as goal

abbrev pub invariant-loop-setting : goal.invariant-loop-setting
invariant-loop-setting l = record {
  bits : l.bits ≡ valid_sum l.function l.store l.stream (take l.setting-index l.stream.settings);
  few : l.bits < 2 ^ l.setting-index;
}
