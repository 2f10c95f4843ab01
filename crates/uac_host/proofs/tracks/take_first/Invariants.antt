use Rattle.std.proofs.Common.{◌≡◌, take, drop, length}
use Rattle.uac_host.proofs.tracks.take_first.Given as goal

abbrev pub invariant-loop-index : goal.invariant-loop-index
invariant-loop-index l = record {
  front : take l.index l.samples ≡ take l.index l.initial.waiting.items;
  rest : l.waiting.items ≡ drop l.index l.initial.waiting.items;
  len : length l.samples ≡ length l.initial.samples;
}
