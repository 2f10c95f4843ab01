use Rattle.std.proofs.Common.{◌≡◌, ◌∙◌, sym, ap, List, [], ℤ}
use Rattle.std.proofs.lemmas.List.{nil_from_length}
use Rattle.std.specs.Slice.Iter.{chunks_rest}
use Rattle.uac_units.specs.Hearing.{value_after_hearing}
use Rattle.uac_units.specs.declared.meter.MeterKind.TheVariants.{Clipped}
use Rattle.uac_units.proofs.MeterRowsLemmas.{value-of_none}
use Rattle.uac_units.proofs.meter_rows.add_clipped.Goals as goal

pub returns : goal.returns
returns c =
    let rest = chunks_rest c.loop-piece.piece-iterator in
    let none : rest ≡ [] = nil_from_length rest c.in-None.ensures.steps.1.0 in
    sym (value-of_none Clipped c.loop-piece.sum c.loop-piece.invariant.4)
    ∙ ap (λ (xs : List ℤ). value_after_hearing Clipped c.loop-piece.sum xs) (sym none)
    ∙ c.loop-piece.invariant.3
