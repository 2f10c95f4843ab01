-- The steps of a rate.
use Rattle.std.proofs.Common.{◌≡◌, ℕ, ◌-◌, ◌<◌, zero, suc, ℤ, List, None, refl, ap, arith}
use Rattle.uac_entities.specs.declared.entity.Entity.{Entity}
use Rattle.uac_store.specs.declared.keys.Key.{Key}
use Rattle.uac_store.specs.Rates.{rate_step, rate_within}

pub rate_within_none : (entities : List Entity) (controls : List (Key × ℤ)) (id : ℕ) → rate_within 0 entities controls id ≡ None
unfolding rate_within
rate_within_none entities controls id = refl

pub rate_within_more : (n : ℕ) (entities : List Entity) (controls : List (Key × ℤ)) (id : ℕ) → 0 < n
    → rate_within n entities controls id ≡ rate_step entities controls (rate_within (n - 1) entities controls) id
unfolding rate_within
rate_within_more zero entities controls id h = absurd (omega arith)
rate_within_more (suc n) entities controls id h =
    let e : n ≡ suc n - 1 = omega arith in ap (λ m. rate_step entities controls (rate_within m entities controls) id) e
