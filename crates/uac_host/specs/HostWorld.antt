-- The host's part of the world: the streams that it runs, how each is sent, and what waits to be sent (profile).
use Rattle.std.specs.Prelude.{◌≡◌, ℕ, ℤ, List, [], Option, None}
use Rattle.uac_pcm.specs.declared.tones.Tone.{Tone}
use Rattle.uac_pcm.specs.declared.tones.Tone.TheVariants.{Silent}
use Rattle.uac_topology.specs.Function.{FunctionFields}
use Rattle.uac_alt.specs.AltStreams.{StreamFields}

-- a running stream. One to the device is sent by rate values, in 65,536ths of a frame; one from the device uses none
pub record Pace : Type 0 where
  pub stream : StreamFields
  -- the rate value that was used in each microframe since its start
  pub used : List ℕ
  -- the rate value in force
  pub value : ℕ

-- what waits to be sent on an interface
pub record Track : Type 0 where
  -- the frames that were appended and aren't sent yet
  pub waiting : List (List ℤ)
  -- the tone after them, and the place of its next frame
  pub tone : Tone
  pub place : ℕ

-- the host
pub record HostWorld : Type 0 where
  -- the function that it streams to and from
  pub function : FunctionFields
  -- by interface, the stream that it runs
  pub paces : ℕ → Option Pace
  -- by interface, its track
  pub tracks : ℕ → Track

-- a track to which nothing was given
abbrev pub silent_track : Track
silent_track = record { waiting = []; tone = Silent; place = 0 }

-- just after the descriptor was accepted: no stream runs, and nothing waits
unfoldable pub fresh_host : FunctionFields → HostWorld
fresh_host function = record { function = function; paces = λ interface. None; tracks = λ interface. silent_track }

-- the host is that of this function, runs no stream, and has silent tracks alone
pub record Rests (f : FunctionFields) (h : HostWorld) : Type 0 where
  pub function : h.function ≡ f
  pub paces : (interface : ℕ) → h.paces interface ≡ None
  pub tracks : (interface : ℕ) → h.tracks interface ≡ silent_track
