use Rattle.std.proofs.Common.{◌≡◌, ◌<◌, ◌^◌}
use Rattle.std.specs.Slice.Iter.{chunks_rest, chunks_size}
use Rattle.uac_units.specs.Hearing.{value_after_hearing}
use Rattle.uac_units.specs.declared.meter.MeterKind.TheVariants.{Clipped}
use Rattle.uac_units.proofs.meter_rows.add_clipped.Given as goal

abbrev pub invariant-loop-piece : goal.invariant-loop-piece
invariant-loop-piece l =
    goal.iterator-loop-piece.can_next l.piece-iterator
    × goal.iterator-loop-piece.is_finite l.piece-iterator
    × (chunks_size l.piece-iterator ≡ 65536)
    × (value_after_hearing Clipped l.sum (chunks_rest l.piece-iterator) ≡ value_after_hearing Clipped l.value l.samples)
    × (l.sum < 2 ^ 64)
