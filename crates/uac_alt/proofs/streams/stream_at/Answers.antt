-- The first endpoint of a setting whose numbers are in range has an interval.
use Rattle.std.proofs.Common.{rules}
use Rattle.uac_alt.proofs.streams.stream_at.Goals as goal

pub can_run-requires : goal.can_run-requires
can_run-requires c = (c.requires.range.first c.in_ok-first.first.now (search rules)).has_period.0
