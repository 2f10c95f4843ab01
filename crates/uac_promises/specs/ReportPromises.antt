-- What the report of a steady run tells of its rings (profile; feedback is that of USB 2.0, 5.12.4.2).
use Rattle.std.specs.Prelude.{◌≡◌, ◌+◌, ◌*◌, ◌≤◌, ℕ, Option, Some}
use Rattle.uac_rate.specs.Levels.{IsSafeLevel, Within}
use Rattle.uac_flow.specs.FlowStreams.{InStream, OutStream}
use Rattle.uac_ring.specs.declared.counts.StreamCounts.{StreamCounts}
use Rattle.uac_transcript.specs.Transcript.{Said, says_in_stream, says_out_stream}
use Rattle.uac_running.specs.RunningWorld.{RunningWorld}
use Rattle.uac_rows.specs.BusWorld.{BusWorld, describing, running}
use Rattle.uac_levels.specs.Bands.{microframes_since_due}
use Rattle.uac_levels.specs.Past.{Pasts}
use Rattle.uac_levels.specs.Homing.{IsCloseLevel}
use Rattle.uac_promises.specs.Watches.{Watch}

-- no ring was found empty, and none had no room
pub record HasMetNone (met : StreamCounts) : Type 0 where
  pub never_empty : met.under ≡ 0
  pub never_full : met.over ≡ 0

-- so it is of the streams of every interface, to the device and from it
abbrev pub HaveMetNone : RunningWorld → Type 0
HaveMetNone r = (interface : ℕ) → HasMetNone (r.met interface)

abbrev pub HaveMetNoneIn : BusWorld → Type 0
HaveMetNoneIn (describing bytes meters) = Unit {0}
HaveMetNoneIn (running r) = HaveMetNone r

-- a level of a primed stream, wherever the report stands. At the end of a service interval it is as near to the target as a line that
-- tells the level there. Elsewhere it is the level of the last interval's end less the ticks of its domain since
pub record IsReportedLevel (r : RunningWorld) (pasts : Pasts) (interface level target : ℕ) (o : OutStream) : Type 0 where
  pub near : microframes_since_due o ≡ 0 → Within 130 level target
  pub close : microframes_since_due o ≡ 0 → IsCloseLevel r pasts interface level target o
  pub before_ticks : Within 130 (level + o.ticks) target
  pub held : IsSafeLevel o.stream.service level

-- what a line of the report tells: counts that are 0; of a primed stream such a level; and of a stream from the device at most what a
-- service interval can bring
pub record IsTrueReport (r : RunningWorld) (pasts : Pasts) (said : Said) : Type 0 where
  pub out_counts : (interface setting level : ℕ) (target : Option ℕ) (met : StreamCounts)
      → said ≡ says_out_stream interface setting level target met → HasMetNone met
  pub in_counts : (interface setting level over lost : ℕ) → said ≡ says_in_stream interface setting level over lost → over ≡ 0
  pub primed : (interface setting level target : ℕ) (met : StreamCounts)
      → said ≡ says_out_stream interface setting level (Some target) met
      → (o : OutStream) × (r.device.outs interface ≡ Some o) × IsReportedLevel r pasts interface level target o
  pub recording : (interface setting level over lost : ℕ) (i : InStream) → said ≡ says_in_stream interface setting level over lost
      → r.device.ins interface ≡ Some i → level ≤ i.stream.service * i.stream.nominal.hi

abbrev pub IsTrueIn : BusWorld → Pasts → Said → Type 0
IsTrueIn (describing bytes meters) pasts said = Unit {0}
IsTrueIn (running r) pasts said = IsTrueReport r pasts said

-- a printed line that is one of a report is so in its world
abbrev pub IsTrueLine : Watch → Type 0
IsTrueLine watch = IsTrueIn watch.world watch.pasts watch.said
