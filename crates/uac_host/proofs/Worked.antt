-- Worked values of packets and tracks. The numbers were worked out by hand.
use Rattle.std.proofs.Common.{◌≡◌, ℕ, true, pos, [], ◌∷◌, refl}
use Rattle.std.specs.Int.{int_wrap}
use Rattle.uac_clock.specs.Nominal.{values_of}
use Rattle.uac_pcm.specs.declared.tones.Tone.TheVariants.{Ramp}
use Rattle.uac_alt.specs.AltStreams.{StreamFields}
use Rattle.uac_host.specs.HostWorld.{Track}
use Rattle.uac_host.specs.HostCalls.{track_after_frames, within_nominal, next_frames, next_size, pace_after_packet, fresh_pace}

-- one channel of 16 bits to the device, at 44,100 Hz and at 48,000 Hz
mono : ℕ → ℕ → StreamFields
mono hertz service = record { channels = 1; subslot = 2; bits = 16; nominal = values_of hertz; out = true; most = 100; period = 8; service = service }

-- half a frame is kept from packet to packet
five : next_size (fresh_pace (mono 44100 1)) ≡ 5
unfolding mono values_of
five = refl

six : next_size (pace_after_packet (fresh_pace (mono 44100 1))) ≡ 6
unfolding mono values_of
six = refl

-- a packet every eight microframes
eight_times_six : next_size (fresh_pace (mono 48000 8)) ≡ 48
unfolding mono values_of
eight_times_six = refl

-- a report of ten frames is held at seven
seven_at_most : within_nominal (mono 48000 1) 655360 ≡ 458752
unfolding mono values_of
seven_at_most = refl

-- a frame waits before a ramp
joined : Track
joined = record { waiting = (pos 7 ∷ []) ∷ []; tone = Ramp (pos 100) (pos 10); place = 5 }

frames_at_the_join : next_frames 1 3 joined ≡ (pos 7 ∷ []) ∷ (pos 150 ∷ []) ∷ (pos 160 ∷ []) ∷ []
unfolding next_frames joined int_wrap
frames_at_the_join = refl

after_the_join : track_after_frames 3 joined ≡ record joined { waiting = []; place = 7 }
unfolding track_after_frames joined
after_the_join = refl
