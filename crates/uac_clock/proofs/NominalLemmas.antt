-- What holds of each of the twelve rates holds of a rate.
use Rattle.std.proofs.Common.{◌≡◌, ℕ, ◌==◌, ◌||◌, if◌then◌else◌, Bool, true, false, List, [], ◌∷◌, Some, None, refl, ap, subst, rules}
use Rattle.std.proofs.lemmas.Bool.{eqb-true, false≢true}
use Rattle.std.specs.List.{list_any, AllByRecursion}
use Rattle.uac_clock.specs.declared.values.Nominal.{Nominal}
use Rattle.uac_clock.specs.Nominal.{twelve_rates, is_listed, values_of, nominal_of, IsNominal, StaysBetweenWholes}

-- what holds of each of a list holds of what the list has
pub each_listed : (P : ℕ → Type 0) (xs : List ℕ) (r : ℕ) → list_any (λ x. x == r) xs ≡ true → AllByRecursion P xs → P r
each_listed P [] r listed each = absurd (false≢true listed)
each_listed P (x ∷ xs) r listed each = from (x == r) refl listed (λ h. each_listed P xs r h each.1) where
  from : (b : Bool) → (x == r) ≡ b → (b || list_any (λ y. y == r) xs) ≡ true → (list_any (λ y. y == r) xs ≡ true → P r) → P r
  from true same h others = subst P (eqb-true x r same) each.0
  from false other h others = others h

-- each of the twelve leaves room
twelve_have_room : AllByRecursion (λ r. StaysBetweenWholes (values_of r)) twelve_rates
unfolding values_of
twelve_have_room = search rules

-- nominal values are those of a rate that is listed
nominal_is_listed : (hertz : ℕ) (values : Nominal) → nominal_of hertz ≡ Some values → (is_listed hertz ≡ true) × (values_of hertz ≡ values)
unfolding nominal_of
nominal_is_listed hertz values h = from (is_listed hertz) refl h where
  from : (b : Bool) → is_listed hertz ≡ b → (if b then Some (values_of hertz) else None) ≡ Some values → (is_listed hertz ≡ true) × (values_of hertz ≡ values)
  from true listed e = (listed, cc)
  from false other e = cc

-- the nominal values of a rate leave room
pub has_room : (values : Nominal) → IsNominal values → StaysBetweenWholes values
has_room values h =
    let listed = nominal_is_listed h.0 values h.1 in
    subst StaysBetweenWholes listed.1 (each_listed (λ r. StaysBetweenWholes (values_of r)) twelve_rates h.0 listed.0 twelve_have_room)

-- a rate that is not listed has none, and one that is has its values
pub nominal_of-unlisted : (hertz : ℕ) → is_listed hertz ≡ false → nominal_of hertz ≡ None
unfolding nominal_of
nominal_of-unlisted hertz h = ap (λ (b : Bool). if b then Some (values_of hertz) else None) h

pub nominal_of-listed : (hertz : ℕ) → is_listed hertz ≡ true → nominal_of hertz ≡ Some (values_of hertz)
unfolding nominal_of
nominal_of-listed hertz h = ap (λ (b : Bool). if b then Some (values_of hertz) else None) h
