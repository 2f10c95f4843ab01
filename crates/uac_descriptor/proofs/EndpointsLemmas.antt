-- The two bits of each part of an endpoint's attributes, as the number of that part.
use Rattle.std.proofs.Common.{◌≡◌, ℕ, ◌<◌, ◌&&◌, refl, bit_and}
use Rattle.std.specs.Prelude.{◌==◌, not}
use Rattle.std.proofs.lemmas.Bool.{agree_below_at}
use Rattle.uac_descriptor.specs.Endpoints.{transfer_type, synchronization_type, usage_type}

pub isochronous : (bits : ℕ) → bits < 256 → ((bit_and bits 1 == 1) && not (bit_and bits 2 == 2)) ≡ (transfer_type bits == 1)
isochronous bits fits = agree_below_at (λ bits. (bit_and bits 1 == 1) && not (bit_and bits 2 == 2)) (λ bits. transfer_type bits == 1) 256 bits refl fits

pub asynchronous : (bits : ℕ) → bits < 256 → ((bit_and bits 4 == 4) && not (bit_and bits 8 == 8)) ≡ (synchronization_type bits == 1)
asynchronous bits fits = agree_below_at (λ bits. (bit_and bits 4 == 4) && not (bit_and bits 8 == 8)) (λ bits. synchronization_type bits == 1) 256 bits refl fits

pub data_alone : (bits : ℕ) → bits < 256 → (not (bit_and bits 16 == 16) && not (bit_and bits 32 == 32)) ≡ (usage_type bits == 0)
data_alone bits fits = agree_below_at (λ bits. not (bit_and bits 16 == 16) && not (bit_and bits 32 == 32)) (λ bits. usage_type bits == 0) 256 bits refl fits

pub feedback_alone : (bits : ℕ) → bits < 256 → ((bit_and bits 16 == 16) && not (bit_and bits 32 == 32)) ≡ (usage_type bits == 1)
feedback_alone bits fits = agree_below_at (λ bits. (bit_and bits 16 == 16) && not (bit_and bits 32 == 32)) (λ bits. usage_type bits == 1) 256 bits refl fits

pub implicit_feedback : (bits : ℕ) → bits < 256 → ((bit_and bits 32 == 32) && not (bit_and bits 16 == 16)) ≡ (usage_type bits == 2)
implicit_feedback bits fits = agree_below_at (λ bits. (bit_and bits 32 == 32) && not (bit_and bits 16 == 16)) (λ bits. usage_type bits == 2) 256 bits refl fits
