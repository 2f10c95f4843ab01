-- What is promised of the streams of a steady world (profile; feedback is that of USB 2.0, 5.12.4.2).
use Rattle.uac_rows.specs.BusWorld.{BusWorld, describing, running}
use Rattle.uac_levels.specs.Past.{Pasts}
use Rattle.uac_levels.specs.Homing.{HaveTrails}

-- each primed stream to the device is robust; since it was primed or lost its last packet it is a stretch of service intervals by which it
-- settles; and where it lost no packet since it was primed it is tight
abbrev pub HaveTrailsIn : BusWorld → Pasts → Type 0
HaveTrailsIn (describing bytes meters) pasts = Unit {0}
HaveTrailsIn (running r) pasts = HaveTrails r pasts
