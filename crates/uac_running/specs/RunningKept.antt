-- What is kept of a running device, and for which worlds it stands.
use Rattle.std.specs.Prelude.{◌≡◌, ℕ, ◌≤◌, nat_eq, true, List, map, Option, Result, OnOk}
use Rattle.std.specs.List.{All, IsDistinct}
use Rattle.uac_units.specs.Hearing.{Reading}
use Rattle.uac_device.specs.DeviceKept as device
use Rattle.uac_device.specs.DeviceWorld.{is_input_jack}
use Rattle.uac_graph.specs.Meaning.{entity}
use Rattle.uac_transcript.specs.Printing.{Prints}
use Rattle.uac_device.specs.declared.jacks.Jack.{Jack}
use Rattle.uac_running.specs.declared.counts.TickCount.{TickCount}
use Rattle.uac_streaming.specs.StreamingKept as streaming
use Rattle.uac_streaming.specs.StreamingKept.{StreamingFields}
use Rattle.uac_streaming.specs.Room.{HaveRoom}
use Rattle.uac_mixer.specs.ViewWorld.{IsViewOf, ViewWorld}
use Rattle.uac_mixer.specs.declared.link.When.{When}
use Rattle.uac_running.specs.RunningWorld.{RunningWorld, streaming_of}
use Rattle.uac_streaming.specs.Telling.{Telling}
use Rattle.uac_running.specs.TickCounts.{tick_count_of}
use Rattle.uac_topology.specs.Configuration.{configuration_of}

-- what a running device is seen as: of a domain's steps it keeps how many ticks they are
pub record RunningFields : Type 0 where
  pub device : device.DeviceFields
  pub streaming : StreamingFields
  pub view : ViewWorld
  pub configuration : List ℕ
  pub breaks : Option When
  pub jacks : List Jack
  pub counts : List TickCount
  pub time : ℕ
  pub detail : ℕ
  pub renders : ℕ

-- a running device stands for this world, with meters that show these readings
pub record RunningStands (running : RunningFields) (shown : List Reading) (r : RunningWorld) : Type 0 where
  pub streaming : streaming.StreamingStands running.streaming running.device (streaming_of r)
  pub view : running.view ≡ r.view
  pub configuration : running.configuration ≡ configuration_of r.descriptor
  pub breaks : running.breaks ≡ r.breaks
  pub jacks : running.jacks ≡ r.jacks
  pub counts : running.counts ≡ map tick_count_of r.device.domains
  pub time : running.time ≡ r.time
  pub detail : running.detail ≡ r.detail
  pub meters : shown ≡ r.meters
  pub renders : running.renders ≡ r.renders

-- between two microframes it stands for a world whose rings have room for the zeros of lost packets
pub record RunningStandsBetween (running : RunningFields) (shown : List Reading) (r : RunningWorld) : Type 0 where
  pub now : RunningStands running shown r
  pub room : HaveRoom r.device

-- a running device's jacks are input jacks of its function, each with its channels
pub record HasItsJacks (running : RunningFields) : Type 0 where
  pub kinds : All (λ j. is_input_jack (entity running.device.function.entities j.terminal) ≡ true) running.jacks
  pub channels : All (λ j. (entity running.device.function.entities j.terminal).cluster.channels ≡ j.channels) running.jacks
  pub most : All (λ j. j.channels ≤ 32) running.jacks

-- each of its domains is counted, once
pub record HasItsDomains (running : RunningFields) : Type 0 where
  pub counted : map (λ c. c.domain) running.counts ≡ running.device.function.domains
  pub once : IsDistinct nat_eq (map (λ c. c.domain) running.counts)

-- what holds of every running device: its jacks and its domains are its own, and its view is one of its function
abbrev pub HasItsOwn : RunningFields → Type 0
HasItsOwn running = HasItsJacks running × HasItsDomains running × IsViewOf running.device.function.entities running.view

-- what was told was printed: all of it, and what is kept stands for its world, within a microframe or between two; or at an error a front
-- of it
abbrev pub RunningTells : {E : Type 0} → Telling RunningWorld → RunningFields → List Reading → Option (List ℕ) → Option (List ℕ)
    → Result (Unit {0}) E → Type 0
RunningTells told running meters old new result = Prints old new result told.lines × OnOk result (RunningStands running meters told.world)

abbrev pub RunningTellsBetween : {E : Type 0} → Telling RunningWorld → RunningFields → List Reading → Option (List ℕ) → Option (List ℕ)
    → Result (Unit {0}) E → Type 0
RunningTellsBetween told running meters old new result = Prints old new result told.lines
    × OnOk result (RunningStandsBetween running meters told.world)
