use Rattle.std.proofs.Common.{◌≡◌, ◌+◌}
use Rattle.uac_units.specs.SampleRows.{AreRenderedRows, row_lengths}
use Rattle.uac_units.proofs.unit.Unit.render_rows.Given as goal

abbrev pub invariant-loop-tick : goal.invariant-loop-tick
invariant-loop-tick g l = record {
  samples : AreRenderedRows (g.Self.Unit.kind_of l.self) l.job l.tick l.inputs l.out;
  lengths : row_lengths l.out ≡ row_lengths l.initial.out;
  counted : l.steps ≡ l.initial.steps + l.tick;
}
