-- What holds at each moment of a row of events, and of the ticks of a domain.
use Rattle.std.proofs.Common.{◌≡◌, sym, refl, subst, ℕ, zero, suc, ◌==◌, nat_eq, Bool, true, false, List, [], ◌∷◌, ◌++◌, map}
use Rattle.std.specs.List.{All, AllByRecursion, IsDistinct, range_with_len}
use Rattle.std.proofs.lemmas.Bool.{eqb-true}
use Rattle.std.proofs.lemmas.List.Elements.{All-append, All-cons, All-map, All-nil}
use Rattle.std.proofs.lemmas.Map.Keys.{IsDistinct-head, IsDistinct-tail}
use Rattle.uac_device.specs.DeviceWorld.{DeviceWorld}
use Rattle.uac_running.specs.RunningWorld.{RunningWorld}
use Rattle.uac_running.specs.Events.{tick}
use Rattle.uac_promises.specs.Moments.{along, tick_moments}

-- ---- rows

module _ {W V : Type 0} (event : ℕ → W → W) (seen : ℕ → W → List V) (H : V → Type 0) where
  -- where each event leaves something so, by which what is seen of it is as it should be
  pub along_keeps : (P : W → Type 0) → ((n : ℕ) (w : W) → P w → P (event n w)) → ((n : ℕ) (w : W) → P w → All H (seen n w)) → (ns : List ℕ) (w : W)
      → P w → All H (along event seen ns w)
  unfolding along
  along_keeps P keeps held [] w is = All-nil H
  along_keeps P keeps held (n ∷ ns) w is =
      All-append H (seen n w) (along event seen ns (event n w)) (held n w is) (along_keeps P keeps held ns (event n w) (keeps n w is))

  module _ (k : ℕ) where
    along_apart : (P : W → Type 0) → ((n : ℕ) (w : W) → (k == n) ≡ false → P w → P (event n w))
        → ((n : ℕ) (w : W) → (k == n) ≡ false → P w → All H (seen n w)) → (ns : List ℕ) (w : W) → AllByRecursion (λ n. nat_eq k n ≡ false) ns
        → P w → All H (along event seen ns w)
    unfolding along
    along_apart P keeps held [] w apart is = All-nil H
    along_apart P keeps held (n ∷ ns) w apart is =
        All-append H (seen n w) (along event seen ns (event n w)) (held n w apart.0 is)
        (along_apart P keeps held ns (event n w) apart.1 (keeps n w apart.0 is))

    -- where one event makes something else of it, and stands in the row once
    pub along_once : (P Q : W → Type 0) → ((n : ℕ) (w : W) → (k == n) ≡ false → P w → P (event n w))
        → ((n : ℕ) (w : W) → (k == n) ≡ false → Q w → Q (event n w)) → ((w : W) → P w → Q (event k w))
        → ((n : ℕ) (w : W) → (k == n) ≡ false → P w → All H (seen n w)) → ((n : ℕ) (w : W) → (k == n) ≡ false → Q w → All H (seen n w))
        → ((w : W) → P w → All H (seen k w)) → (ns : List ℕ) (w : W) → IsDistinct nat_eq ns → P w → All H (along event seen ns w)
    unfolding along
    along_once P Q before following here held_before held_following held_here [] w once is = All-nil H
    along_once P Q before following here held_before held_following held_here (n ∷ ns) w once is =
        by (k == n) refl
        (λ other. along_once P Q before following here held_before held_following held_here ns (event n w) (IsDistinct-tail nat_eq n ns once) (before n w other is))
      where
        Rest : Type 0
        Rest = All H (along event seen ns (event n w))

        by : (b : Bool) → (k == n) ≡ b → ((k == n) ≡ false → Rest) → All H (seen n w ++ along event seen ns (event n w))
        by false other rest = All-append H (seen n w) (along event seen ns (event n w)) (held_before n w other is) (rest other)
        by true same rest =
            let it : k ≡ n = eqb-true k n same in
            All-append H (seen n w) (along event seen ns (event n w)) (subst (λ (m : ℕ). All H (seen m w)) it (held_here w is))
            (along_apart Q following held_following ns (event n w)
            (subst (λ (m : ℕ). AllByRecursion (λ y. nat_eq m y ≡ false) ns) (sym it) (IsDistinct-head nat_eq n ns once))
            (subst (λ (m : ℕ). Q (event m w)) it (here w is)))

-- frame by frame
pub each_frame : {V : Type 0} (H : V → Type 0) (so_far : ℕ → V) (frames : ℕ) → ((n : ℕ) → H (so_far n))
    → All H (map so_far (range_with_len 0 (suc frames)))
each_frame H so_far frames each = All-map H so_far (range_with_len 0 (suc frames)) (λ i d h. each _)

-- ---- ticks

-- what a tick leaves so
pub ticks_held : (H : DeviceWorld → Type 0) (P : RunningWorld → Type 0) (c : ℕ) → ((r : RunningWorld) → P r → P (tick c r).world)
    → ((r : RunningWorld) → P r → H r.device) → (count : ℕ) (r : RunningWorld) → P r → All H (tick_moments count c r)
unfolding tick_moments
ticks_held H P c keeps held zero r is = All-cons H r.device [] (held r is) (All-nil H)
ticks_held H P c keeps held (suc count) r is =
    All-cons H r.device (tick_moments count c (tick c r).world) (held r is) (ticks_held H P c keeps held count (tick c r).world (keeps r is))
