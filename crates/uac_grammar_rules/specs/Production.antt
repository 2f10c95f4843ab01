-- Productions, as data over roles, and the lists that they allow.
use Rattle.std.specs.Prelude.{◌≡◌, Bool, ◌⊎◌, List, [], ◌∷◌, ◌++◌, IsTrue, flat_map}
use Rattle.std.specs.List.{AllByRecursion}

-- what may stand in a place: no list, the empty one, one role that passes, a then b, a or b, any number of a
pub data Production (K : Type 0) : Type 0 where
  nothing : Production K
  empty : Production K
  one : (K → Bool) → Production K
  then' : Production K → Production K → Production K
  either : Production K → Production K → Production K
  many : Production K → Production K

-- a, or nothing in its place
abbrev pub option : {K : Type 0} → Production K → Production K
option a = either empty a

-- the production allows this list, whose items have the roles that f gives
abbrev pub Allows : {A K : Type 0} → (A → K) → Production K → List A → Type 0
Allows f nothing xs = ⊥
Allows f empty xs = xs ≡ []
Allows {A} f (one passes) xs = (x : A) × (xs ≡ x ∷ []) × IsTrue (passes (f x))
Allows {A} f (then' a b) xs = (ys : List A) × (zs : List A) × (xs ≡ ys ++ zs) × Allows f a ys × Allows f b zs
Allows f (either a b) xs = Allows f a xs ⊎ Allows f b xs
Allows {A} f (many a) xs =
    (parts : List (List A)) × (xs ≡ flat_map (λ part. part) parts) × AllByRecursion (Allows f a) parts
