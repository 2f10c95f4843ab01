-- profile: how much a ring holds. A ring is its list of frames, the oldest first, and a frame is its list of samples.
use Rattle.std.specs.Prelude.{◌≡◌, ℕ, ◌≤◌, ℤ, List, length, drop}

-- the most frames of a ring
abbrev pub ring_frames : ℕ
ring_frames = 2048

-- of the frames that came, so many are gone, and the ring holds the others
abbrev pub Holds : List (List ℤ) → ℕ → List (List ℤ) → Type 0
Holds came gone ring = (gone ≤ length came) × (ring ≡ drop gone came)
