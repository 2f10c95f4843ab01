-- The streams that interfaces run: what is read of those of one interface, and what changes in those of all.
use Rattle.std.specs.Prelude.{◌≡◌, ℕ, ◌+◌, ◌*◌, ◌==◌, ◌||◌, Bool, false, if◌then◌else◌, List, [], ◌∷◌, Option, Some}
use Rattle.std.specs.Prelude.{None, is_some, unwrap_or}
use Rattle.std.specs.Option.{option_map, option_map_or, option_or}
use Rattle.uac_alt.specs.AltStreams.{StreamFields}
use Rattle.uac_flow.specs.FlowStreams.{InStream, OutStream, in_level, is_due, out_level, started_in, started_out}

-- ---- of one interface

-- how many frames lie in the ring of a stream to the device, or from it
abbrev pub level_in : Option OutStream → Option InStream → ℕ
level_in out in_ = unwrap_or (option_or (option_map out_level out) (option_map in_level in_)) 0

-- a stream to the device, or from it, has a packet in the next microframe
abbrev pub either_due : Option OutStream → Option InStream → Bool
either_due out in_ =
    option_map_or (λ o. is_due o.stream o.microframes) out (option_map_or (λ i. is_due i.stream i.microframes) in_ false)

-- an interface runs a stream, to the device or from it
abbrev pub runs_either : Option OutStream → Option InStream → Bool
runs_either out in_ = is_some out || is_some in_

-- a stream at its start, where it goes to the device, and where it comes from it
abbrev pub out_from : StreamFields → Option OutStream
out_from s = if s.out then Some (started_out s) else None

abbrev pub in_from : StreamFields → Option InStream
in_from s = if s.out then None else Some (started_in s)

-- ---- by interface

-- no interface runs a stream
abbrev pub NoneRuns : (ℕ → Option OutStream) → (ℕ → Option InStream) → Type 0
NoneRuns outs ins = (interface : ℕ) → (outs interface ≡ None) × (ins interface ≡ None)

-- streams of which that of one interface changes, or is another
abbrev pub streams_changed_at : {S : Type 0} → ℕ → (S → S) → (ℕ → Option S) → ℕ → Option S
streams_changed_at interface change streams k = if k == interface then option_map change (streams k) else streams k

abbrev pub streams_replaced_at : {S : Type 0} → ℕ → Option S → (ℕ → Option S) → ℕ → Option S
streams_replaced_at interface stream streams k = if k == interface then stream else streams k

-- the streams by interface, of which those of some interfaces change
abbrev pub changed_where : {S : Type 0} → (ℕ → Bool) → (ℕ → S → S) → (ℕ → Option S) → ℕ → Option S
changed_where test change streams k = option_map (λ s. if test k then change k s else s) (streams k)

-- of streams those for which it is so, as a number: a bit for each, the first being the lowest
unfoldable pub set_of_streams : List Bool → ℕ
set_of_streams [] = 0
set_of_streams (b ∷ bs) = (if b then 1 else 0) + 2 * set_of_streams bs
