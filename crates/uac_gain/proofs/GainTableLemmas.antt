-- The tables of gains are the recurrences, at every index.
use Rattle.std.proofs.Common.{◌≡◌, ◌∙◌, refl, ap, arith, ℕ, zero, suc, ◌+◌, ◌*◌, ◌/◌, ◌^◌, ◌<◌, ◌≤◌, List, [], ◌∷◌, get_or}
use Rattle.uac_gain.specs.Gain.{unity, decibel_gain, raised_gain}
use Rattle.uac_gain.specs.declared.table.TheConstants.{GAINS_DOWN, GAINS_UP}

-- gains one after the other, from this one on, each scaled by one step
abbrev pub ladder : ℕ → ℕ → ℕ → List ℕ
ladder step gain zero = []
ladder step gain (suc n) = gain ∷ ladder step (gain * step / 2 ^ 30) n

rung-down : (k n i : ℕ) → i < n → get_or (ladder 956973408 (decibel_gain k) n) i 0 ≡ decibel_gain (k + i)
unfolding decibel_gain
rung-down k zero i h = absurd (omega arith)
rung-down k (suc n) zero h = ap decibel_gain (omega arith)
rung-down k (suc n) (suc i) h = rung-down (suc k) n i (omega arith) ∙ ap decibel_gain (omega arith)

down-is : GAINS_DOWN ≡ ladder 956973408 unity 97
down-is = refl

pub down-at : (decibels : ℕ) → decibels ≤ 96 → get_or GAINS_DOWN decibels 0 ≡ decibel_gain decibels
unfolding decibel_gain
down-at decibels h = ap (λ gains. get_or gains decibels 0) down-is ∙ rung-down 0 97 decibels (omega arith) ∙ ap decibel_gain (omega arith)

rung-up : (k n i : ℕ) → i < n → get_or (ladder 1204758141 (raised_gain k) n) i 0 ≡ raised_gain (k + i)
unfolding raised_gain
rung-up k zero i h = absurd (omega arith)
rung-up k (suc n) zero h = ap raised_gain (omega arith)
rung-up k (suc n) (suc i) h = rung-up (suc k) n i (omega arith) ∙ ap raised_gain (omega arith)

up-is : GAINS_UP ≡ ladder 1204758141 unity 13
up-is = refl

pub up-at : (decibels : ℕ) → decibels ≤ 12 → get_or GAINS_UP decibels 0 ≡ raised_gain decibels
unfolding raised_gain
up-at decibels h = ap (λ gains. get_or gains decibels 0) up-is ∙ rung-up 0 13 decibels (omega arith) ∙ ap raised_gain (omega arith)
