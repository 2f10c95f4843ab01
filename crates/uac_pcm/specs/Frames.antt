-- Audio Data Formats 2.0, 2.3.1 (Type I formats): an audio frame is one subslot for each channel, channel after channel.
use Rattle.std.specs.Prelude.{ℕ, ◌*◌, ◌≤◌, ℤ, List, map}
use Rattle.std.specs.List.{flat_map}
use Rattle.std.specs.Simd.{first_chunks}
use Rattle.uac_pcm.specs.Subslots.{subslot_of, sample_of_subslot}

-- 1 to 32 channels (profile), subslots of 1 to 4 bytes, and a resolution that a subslot holds
abbrev pub IsFormat : ℕ → ℕ → ℕ → Type 0
IsFormat count size resolution =
    (1 ≤ count) × (count ≤ 32) × (1 ≤ size) × (size ≤ 4) × (1 ≤ resolution) × (resolution ≤ 8 * size)

-- the subslots of the samples, one after the other
abbrev pub bytes_of_frame : ℕ → ℕ → List ℤ → List ℕ
bytes_of_frame size resolution samples = flat_map (subslot_of size resolution) samples

-- the samples of the first subslots of the bytes, as many as there are channels
abbrev pub frame_of_bytes : ℕ → ℕ → ℕ → List ℕ → List ℤ
frame_of_bytes count size resolution bytes = map (sample_of_subslot size resolution) (first_chunks size count bytes)
