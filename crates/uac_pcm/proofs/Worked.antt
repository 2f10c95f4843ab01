-- Worked examples of the definitions.
use Rattle.std.proofs.Common.{◌≡◌, pos, negsuc, [], ◌∷◌, refl}
use Rattle.std.specs.Int.{int_wrap}
use Rattle.uac_pcm.specs.Subslots.{cut_to, subslot_of, sample_of_subslot}
use Rattle.uac_pcm.specs.Frames.{bytes_of_frame, frame_of_bytes}
use Rattle.uac_pcm.specs.Packets.{bytes_of_frames, frames_of_bytes}
use Rattle.uac_pcm.specs.Tones.{tone_sample}
use Rattle.uac_pcm.specs.declared.tones.Tone.TheVariants.{Ramp, Noise}

-- 24 bits in 4 bytes: the lowest byte is not used
read_24_of_32 : frame_of_bytes 1 4 24 (0xff ∷ 0x56 ∷ 0x34 ∷ 0x12 ∷ []) ≡ pos 0x12345600 ∷ []
unfolding cut_to sample_of_subslot int_wrap
read_24_of_32 = refl

written_24_of_32 : bytes_of_frame 4 24 (pos 0x12345600 ∷ []) ≡ 0x00 ∷ 0x56 ∷ 0x34 ∷ 0x12 ∷ []
unfolding cut_to subslot_of
written_24_of_32 = refl

-- two frames of two channels at 16 bits, cut, and a byte after them that makes no frame
packed_pair : bytes_of_frames 2 16 ((pos 0x12345678 ∷ negsuc 0 ∷ []) ∷ (pos 0x1ffff ∷ pos 0x7fff0000 ∷ []) ∷ [])
    ≡ 0x34 ∷ 0x12 ∷ 0xff ∷ 0xff ∷ 0x01 ∷ 0x00 ∷ 0xff ∷ 0x7f ∷ []
unfolding cut_to subslot_of
packed_pair = refl

unpacked_pair : frames_of_bytes 2 2 16 (0x34 ∷ 0x12 ∷ 0xff ∷ 0xff ∷ 0x01 ∷ 0x00 ∷ 0xff ∷ 0x7f ∷ 0x55 ∷ [])
    ≡ (pos 0x12340000 ∷ negsuc 65535 ∷ []) ∷ (pos 0x10000 ∷ pos 0x7fff0000 ∷ []) ∷ []
unfolding cut_to sample_of_subslot int_wrap
unpacked_pair = refl

-- a subslot of 3 bytes has a sign
read_negative : sample_of_subslot 3 24 (0xff ∷ 0xff ∷ 0xff ∷ []) ≡ negsuc 255
unfolding cut_to sample_of_subslot int_wrap
read_negative = refl

-- a floor goes towards minus infinity
cut_negative : cut_to 20 (negsuc 0) ≡ negsuc 4095
unfolding cut_to
cut_negative = refl

-- a ramp that wraps, and the first number of a noise
ramp_wraps : tone_sample (Ramp (pos 2147483647) (pos 1)) 0 1 ≡ negsuc 2147483647
unfolding int_wrap
ramp_wraps = refl

first_noise : tone_sample (Noise 1) 0 0 ≡ negsuc 1640531534
unfolding int_wrap
first_noise = refl
