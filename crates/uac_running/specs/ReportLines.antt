-- The lines that are said of a device's output jacks, and those of its domains and interfaces in the report (profile).
use Rattle.std.specs.Prelude.{◌≡◌, ℕ, ◌/◌, Bool, true, false, List, ◌++◌, map, filter, sum, Option, Some, unwrap_or, MatchResult, Result}
use Rattle.std.specs.Io.KnownBytes.{Appends}
use Rattle.uac_entities.specs.declared.entity.Entity.{Entity}
use Rattle.uac_entities.specs.declared.stream.StreamInterface.{StreamInterface}
use Rattle.uac_graph.specs.Needs.{is_end}
use Rattle.uac_graph.specs.TickRows.{frames_at}
use Rattle.uac_graph.specs.Wiring.{frame_on}
use Rattle.uac_store.specs.Rates.{rate_of}
use Rattle.uac_alt.specs.AltSettings.{setting_of}
use Rattle.uac_units.specs.Hearing.{at_most_u64}
use Rattle.uac_ring.specs.declared.counts.StreamCounts.{StreamCounts}
use Rattle.uac_edges.specs.Writing.{AppendsFront}
use Rattle.uac_transcript.specs.Printing.{text_of}
use Rattle.uac_transcript.specs.Transcript.{Said, says_played, says_domain, says_out_stream, says_in_stream}
use Rattle.uac_device.specs.DeviceKept.{DeviceFields}
use Rattle.uac_device.specs.DeviceWorld.{Domain, DeviceWorld, entity_in, is_output_jack_of, level_of, target_of}

-- the output jacks of a domain, in block order
abbrev pub output_jacks : ℕ → DeviceWorld → List Entity
output_jacks domain w = filter (is_output_jack_of domain) w.function.entities

-- what an output jack played
abbrev pub played_line : DeviceWorld → Entity → Said
played_line w e = says_played e.id (w.played e.id)

-- what a domain's output jacks played
unfoldable pub played_lines : ℕ → DeviceWorld → List Said
played_lines domain w = map (played_line w) (output_jacks domain w)

-- a device has what a world's output terminals of a domain played, in one of the ticks that it did at once last
pub record Shows (tick domain : ℕ) (device : DeviceFields) (w : DeviceWorld) : Type 0 where
  pub function : device.function ≡ w.function
  pub rows : (id : ℕ) → is_end domain (entity_in w id) ≡ true → frame_on (frames_at tick device.rows) id ≡ Some (w.played id)

-- these lines were said since the start: what was written of them, and after it a text that waits
pub record Gathers (start now : Option (List ℕ)) (text : List ℕ) (lines : List Said) : Type 0 where
  pub front : List ℕ
  pub written : Appends start now front
  pub parts : text_of lines ≡ front ++ text

-- at Ok these lines were said since the start, at Err a front of their text was written
abbrev pub GathersMore : {T E : Type 0} → Option (List ℕ) → Option (List ℕ) → List ℕ → Result T E → List Said → Type 0
GathersMore start now text result lines = MatchResult result (λ _. Gathers start now text lines) (λ _. AppendsFront start now (text_of lines))

-- ---- the report

-- the ticks of a domain since the start: the whole frames of its steps
abbrev pub ticks_since : Domain → ℕ
ticks_since d = at_most_u64 (sum d.steps / 65536)

unfoldable pub domain_line : DeviceWorld → Domain → Said
domain_line w d = says_domain d.id (rate_of w.function.entities w.controls d.id) (ticks_since d)

-- an interface's streams: whether they go to the device, the interface, its setting, the level of the one that runs, its target,
-- and what they met
abbrev pub says_stream : Bool → ℕ → ℕ → ℕ → Option ℕ → StreamCounts → Said
says_stream true number setting level target met = says_out_stream number setting level target met
says_stream false number setting level target met = says_in_stream number setting level met.over met.lost

unfoldable pub stream_line : DeviceWorld → (ℕ → StreamCounts) → StreamInterface → Said
stream_line w met s =
    says_stream s.out s.number (unwrap_or (setting_of w.settings s.number) 0) (level_of w s.number) (target_of w s.number) (met s.number)
