use Rattle.std.proofs.Common.{◌≡◌, ◌+◌, ◌++◌, length, map, replicate}
use Rattle.uac_ring.proofs.ring.lay_down.Given as goal

abbrev pub invariant-loop-each : goal.invariant-loop-each
invariant-loop-each l = record {
  laid : map (λ f. f.items) l.frames.items ≡ map (λ f. f.items) l.initial.frames.items ++ replicate l._each l.frame.items;
  level : length l.frames.items ≡ length l.initial.frames.items + l._each;
  capacity : l.frames.capacity ≡ l.initial.frames.capacity;
}
