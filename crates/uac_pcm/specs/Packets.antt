-- Audio Data Formats 2.0, 2.3.1 (Type I formats): the audio frames of a packet stand one after the other, nothing between them.
use Rattle.std.specs.Prelude.{◌≡◌, ℕ, ◌*◌, ◌/◌, ℤ, List, length, take, drop, map, FitsSigned}
use Rattle.std.specs.Int.{w32}
use Rattle.std.specs.List.{All, flat_map}
use Rattle.std.specs.Simd.{first_chunks}
use Rattle.uac_pcm.specs.Frames.{bytes_of_frame, frame_of_bytes}

-- a sample of 32 bits for each channel
abbrev pub IsFrame : ℕ → List ℤ → Type 0
IsFrame count samples = (length samples ≡ count) × All (FitsSigned w32) samples

-- the bytes of the frames
abbrev pub bytes_of_frames : ℕ → ℕ → List (List ℤ) → List ℕ
bytes_of_frames size resolution frames = flat_map (bytes_of_frame size resolution) frames

-- the bytes of the frame of a number, from 0
abbrev pub bytes_of_frame_at : ℕ → ℕ → ℕ → List ℕ → List ℕ
bytes_of_frame_at count size number bytes = take (count * size) (drop (number * (count * size)) bytes)

-- how many frames stand whole in the bytes
abbrev pub whole_frames : ℕ → ℕ → List ℕ → ℕ
whole_frames count size bytes = length bytes / (count * size)

-- the frames that stand whole in the bytes
abbrev pub frames_of_bytes : ℕ → ℕ → ℕ → List ℕ → List (List ℤ)
frames_of_bytes count size resolution bytes =
    map (frame_of_bytes count size resolution) (first_chunks (count * size) (whole_frames count size bytes) bytes)
