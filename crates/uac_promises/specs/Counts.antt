-- No count of a run comes near the greatest number of 64 bits, at which it would stand still: no input has lines enough (profile). So no
-- sum was ever cut, and each count is the true number.
use Rattle.std.specs.Prelude.{ℕ, ◌^◌, ◌<◌, ◌≤◌, List, map, length}
use Rattle.std.specs.List.{All}
use Rattle.uac_units.specs.Hearing.{Reading}
use Rattle.uac_lines.specs.ScriptLines.{most_of_input}
use Rattle.uac_script.specs.LineParsing.{answer}
use Rattle.uac_ring.specs.declared.counts.StreamCounts.{StreamCounts}
use Rattle.uac_running.specs.RunningWorld.{RunningWorld}
use Rattle.uac_running.specs.ReportLines.{ticks_since}
use Rattle.uac_rows.specs.BusWorld.{BusWorld, describing, running, start}
use Rattle.uac_rows.specs.After.{after}

-- a count that is far from the greatest number of 64 bits
abbrev pub IsFar : ℕ → Type 0
IsFar count = count < 2 ^ 63

-- the counts of what the streams of an interface met are far from it
pub record AreFar (met : StreamCounts) : Type 0 where
  pub under : IsFar met.under
  pub over : IsFar met.over
  pub lost : IsFar met.lost
  pub missed : IsFar met.missed

-- the counts of a run are far from it: its microframes, the ticks of each domain, the renders, the frames that each jack's tone gave, and
-- what streams met
pub record IsFarFromTheEnd (r : RunningWorld) : Type 0 where
  pub time : IsFar r.time
  pub ticks : All (λ d. IsFar (ticks_since d)) r.device.domains
  pub renders : IsFar r.renders
  pub frames : All (λ j. IsFar j.place) r.jacks
  pub met : (interface : ℕ) → AreFar (r.met interface)

-- the counts in a world are far from it; before the descriptor's end nothing is counted
abbrev pub IsFarIn : BusWorld → Type 0
IsFarIn (describing bytes meters) = Unit {0}
IsFarIn (running r) = IsFarFromTheEnd r

-- the counts are far from it after every list of lines, by their texts, of no more lines than an input can have bytes: each line has one
-- at least
abbrev pub CountsStayFar : Type 0
CountsStayFar = (texts : List (List ℕ)) (shown : List Reading) → length texts ≤ most_of_input
    → IsFarIn (after (map answer texts) (start shown)).world
