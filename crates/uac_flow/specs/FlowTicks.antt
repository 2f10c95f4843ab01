-- Several ticks of a domain: what becomes of a stream, tick by tick, and what each tick gives it or takes from it. A tick has the number
-- of those before it. Profile.
use Rattle.std.specs.Prelude.{ℕ, zero, suc, ◌+◌, ◌-◌, ◌≤◌, ◌==◌, ◌&&◌, ◌||◌, not, nat_le, nat_lt, Bool, if◌then◌else◌, min}
use Rattle.std.specs.Prelude.{ℤ, pos, List, [], ◌++◌, map, length, replicate, get_or, Option, Some, None, is_some, unwrap_or}
use Rattle.std.specs.List.{range_with_len}
use Rattle.uac_ring.specs.Rings.{ring_frames}
use Rattle.uac_flow.specs.FlowStreams.{InStream, OutStream, after_putting, in_level, out_level}

-- ---- to the device

-- a stream to the device after so many ticks of its domain: each took a frame while there was one, and that which found none has it prime
unfoldable pub out_after_ticks : ℕ → OutStream → OutStream
out_after_ticks t o =
    if is_some o.target then (if nat_le t (out_level o) then record o { taken = o.taken + t } else record o { arrived = []; taken = 0; target = None })
    else o

-- the frame that it gives at a tick, and whether the tick finds it dry: by its level alone
abbrev pub next_taken_at : ℕ → OutStream → Option (List ℤ)
next_taken_at t o = if is_some o.target && nat_lt t (out_level o) then Some (get_or o.arrived (o.taken + t) []) else None

abbrev pub is_dry_at : ℕ → OutStream → Bool
is_dry_at t o = is_some o.target && out_level o == t

-- so many ticks find it never dry
abbrev pub lasts : ℕ → OutStream → Bool
lasts t o = not (is_some o.target) || nat_le t (out_level o)

-- how many frames it can give: none while it is priming
abbrev pub ready_of : OutStream → ℕ
ready_of o = if is_some o.target then out_level o else 0

-- so it gives that frame, or silence
abbrev pub given_at : ℕ → OutStream → List ℤ
given_at t o = unwrap_or (next_taken_at t o) (replicate o.stream.channels (pos 0))

-- ---- from the device

-- a stream from the device after so many ticks of its domain, at which it was to have these frames
unfoldable pub in_after_ticks : (ℕ → List ℤ) → ℕ → InStream → InStream
in_after_ticks frames zero i = i
in_after_ticks frames (suc t) i = after_putting (frames t) (in_after_ticks frames t i)

-- a ring holds its frames
abbrev pub IsHeld : InStream → Type 0
IsHeld i = (i.gone ≤ length i.made) × (in_level i ≤ ring_frames)

-- how many frames its ring has room for; it has those of so many ticks, and then it is full: by its level alone
abbrev pub in_room : InStream → ℕ
in_room i = ring_frames - in_level i

abbrev pub with_frames : (ℕ → List ℤ) → ℕ → InStream → InStream
with_frames frames t i = record i { made = i.made ++ map frames (range_with_len 0 (min t (in_room i))) }

abbrev pub is_full_at : ℕ → InStream → Bool
is_full_at t i = nat_le (in_room i) t

-- so many ticks find it never full
abbrev pub has_room : ℕ → InStream → Bool
has_room t i = nat_le t (in_room i)
