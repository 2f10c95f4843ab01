-- Something for each number of a row, one after the other: what happens at one of them, where the numbers differ.
use Rattle.std.proofs.Common.{◌≡◌, ◌∙◌, sym, refl, ap, subst, arith, ℕ, ◌⊎◌, ◌==◌, nat_eq, Bool, true, false, if◌then◌else◌, cond, List, [], ◌∷◌, map, Option, Some, None, is_some, inl, inr}
use Rattle.std.specs.List.{AllByRecursion, IsDistinct, find, fold, list_all, range_with_len}
use Rattle.std.specs.Option.{option_map}
use Rattle.std.proofs.lemmas.Bool.{and_parts, eqb-true}
use Rattle.std.proofs.lemmas.Map.Keys.{IsDistinct-head, IsDistinct-tail}
use Rattle.uac_topology.specs.Function.{FunctionFields, interface_in}
use Rattle.uac_device.specs.InterfaceStreams.{streams_changed_at, changed_where}
use Rattle.uac_device.specs.DeviceWorld.{Domain}
use Rattle.uac_mixer.proofs.MixerElementsKeyLemmas.{numbers_apart}
use Rattle.uac_streaming.specs.Telling.{Telling, in_turn}
use Rattle.uac_streaming.specs.StreamingWorld.{numbers}
use Rattle.uac_streaming.proofs.AmongLemmas.{Among, apart_from, kept_distinct}

pub other_number : (m n : ℕ) → nat_eq m n ≡ false → (n == m) ≡ false
other_number m n other = grind arith

pub own_number : (n : ℕ) → (n == n) ≡ true
own_number n = grind arith

-- ---- rows

module _ {W : Type 0} (step : ℕ → W → W) (k : ℕ) where
  -- what each of these leaves so is so after the last, where none is this one
  pub row_apart : (P : W → Type 0) → ((n : ℕ) (w : W) → (k == n) ≡ false → P w → P (step n w)) → (ns : List ℕ) (w : W)
      → AllByRecursion (λ n. nat_eq k n ≡ false) ns → P w → P (fold (λ v n. step n v) w ns)
  row_apart P keeps [] w apart is = is
  row_apart P keeps (n ∷ ns) w apart is = row_apart P keeps ns (step n w) apart.1 (keeps n w apart.0 is)

  -- and where one is, what that one makes of it
  pub row_once : (P Q : W → Type 0) → ((n : ℕ) (w : W) → (k == n) ≡ false → P w → P (step n w))
      → ((n : ℕ) (w : W) → (k == n) ≡ false → Q w → Q (step n w)) → ((w : W) → P w → Q (step k w)) → (ns : List ℕ) (w : W)
      → IsDistinct nat_eq ns → Among k ns → P w → Q (fold (λ v n. step n v) w ns)
  unfolding Among
  row_once P Q before following here [] w once there is = absurd there
  row_once P Q before following here (n ∷ ns) w once there is = elim there [
    | inl same ↦
        row_apart Q following ns (step n w) (subst (λ (m : ℕ). AllByRecursion (λ y. nat_eq m y ≡ false) ns) same (IsDistinct-head nat_eq n ns once))
        (subst (λ (m : ℕ). Q (step m w)) (sym same) (here w is))
    | inr later ↦
        row_once P Q before following here ns (step n w) (IsDistinct-tail nat_eq n ns once) later
        (before n w (other_number n k (apart_from n k ns (IsDistinct-head nat_eq n ns once) later)) is)
  ]

-- events in turn are a row
pub turns_are_a_row : {W : Type 0} (event : ℕ → W → Telling W) (ns : List ℕ) (w : W)
    → (in_turn event ns w).world ≡ fold (λ v n. (event n v).world) w ns
unfolding in_turn
turns_are_a_row event [] w = refl
turns_are_a_row event (n ∷ ns) w = turns_are_a_row event ns (event n w).world

pub turns_keep : {W : Type 0} (P : W → Type 0) (event : ℕ → W → Telling W) → ((n : ℕ) (w : W) → P w → P (event n w).world)
    → (ns : List ℕ) (w : W) → P w → P (in_turn event ns w).world
unfolding in_turn
turns_keep P event keeps [] w is = is
turns_keep P event keeps (n ∷ ns) w is = turns_keep P event keeps ns (event n w).world (keeps n w is)

pub turns_once : {W : Type 0} (event : ℕ → W → Telling W) (k : ℕ) (P Q : W → Type 0)
    → ((n : ℕ) (w : W) → (k == n) ≡ false → P w → P (event n w).world)
    → ((n : ℕ) (w : W) → (k == n) ≡ false → Q w → Q (event n w).world) → ((w : W) → P w → Q (event k w).world) → (ns : List ℕ) (w : W)
    → IsDistinct nat_eq ns → Among k ns → P w → Q (in_turn event ns w).world
turns_once event k P Q before following here ns w once there is =
    subst Q (sym (turns_are_a_row event ns w)) (row_once (λ n v. (event n v).world) k P Q before following here ns w once there is)

-- ---- streams by interface

pub where_true : {S : Type 0} (test : ℕ → Bool) (change : ℕ → S → S) (streams : ℕ → Option S) (k : ℕ) (s : S) → test k ≡ true
    → streams k ≡ Some s → changed_where test change streams k ≡ Some (change k s)
where_true test change streams k s passes there =
    ap (option_map (λ x. if test k then change k x else x)) there ∙ ap (λ (b : Bool). Some (if b then change k s else s)) passes

pub where_false : {S : Type 0} (test : ℕ → Bool) (change : ℕ → S → S) (streams : ℕ → Option S) (k : ℕ) (s : S) → test k ≡ false
    → streams k ≡ Some s → changed_where test change streams k ≡ Some s
where_false test change streams k s fails there =
    ap (option_map (λ x. if test k then change k x else x)) there ∙ ap (λ (b : Bool). Some (if b then change k s else s)) fails

-- where there is none, there is none after
pub none_where : {S : Type 0} (test : ℕ → Bool) (change : ℕ → S → S) (streams : ℕ → Option S) (k : ℕ) → streams k ≡ None
    → changed_where test change streams k ≡ None
none_where test change streams k none = ap (option_map (λ s. if test k then change k s else s)) none

pub none_at : {S : Type 0} (n k : ℕ) (change : S → S) (streams : ℕ → Option S) → streams k ≡ None → streams_changed_at n change streams k ≡ None
none_at {S = S} n k change streams none = by (k == n)
  where
    by : (b : Bool) → (if b then option_map change (streams k) else streams k) ≡ None
    by true = ap (option_map change) none
    by false = none

-- ---- the numbers of interfaces

pub numbers_differ : (function : FunctionFields) → IsDistinct nat_eq (numbers function)
unfolding numbers
numbers_differ function = kept_distinct (λ n. is_some (interface_in function n)) (range_with_len 0 256) (numbers_apart 0 256)

-- what all of these pass, one of them does
pub all_among : (test : ℕ → Bool) (n : ℕ) (ns : List ℕ) → Among n ns → list_all test ns ≡ true → test n ≡ true
unfolding Among
all_among test n [] there all = absurd there
all_among test n (m ∷ ms) there all =
    let both = and_parts (test m) (list_all test ms) all in
    elim there [
      | inl same ↦ subst (λ (x : ℕ). test x ≡ true) same both.0
      | inr later ↦ all_among test n ms later both.1
    ]

-- ---- domains

-- the clock of a domain that is there is one of theirs
pub clock_among : (clock : ℕ) (ds : List Domain) (d : Domain) → find (λ d. d.id == clock) ds ≡ Some d → Among clock (map (λ d. d.id) ds)
unfolding Among
clock_among clock [] d e = absurd (cc)
clock_among clock (x ∷ xs) d e = by (x.id == clock) refl e (clock_among clock xs d)
  where
    by : (b : Bool) → (x.id == clock) ≡ b → cond b (Some x) (find (λ d. d.id == clock) xs) ≡ Some d
        → (find (λ d. d.id == clock) xs ≡ Some d → Among clock (map (λ d. d.id) xs))
        → (x.id ≡ clock) ⊎ Among clock (map (λ d. d.id) xs)
    by true same _ _ = inl (eqb-true x.id clock same)
    by false _ later rest = inr (rest later)

pub not_this : (i j k : ℕ) → (i == j) ≡ true → (k == j) ≡ false → (i == k) ≡ false
not_this i j k same different = grind arith

module _ (more : Domain → List ℕ) where
  abbrev pub stepped : ℕ → Domain → Domain
  stepped c d = if d.id == c then record d { steps = more d } else d

  -- of the domain whose clock goes on
  pub domain_same : (c : ℕ) (ds : List Domain) (d : Domain) → find (λ d. d.id == c) ds ≡ Some d
      → find (λ d. d.id == c) (map (stepped c) ds) ≡ Some (record d { steps = more d })
  domain_same c [] d e = absurd (cc)
  domain_same c (x ∷ xs) d e = by (x.id == c) refl e (domain_same c xs d)
    where
      by : (b : Bool) → (x.id == c) ≡ b → cond b (Some x) (find (λ d. d.id == c) xs) ≡ Some d
          → (find (λ d. d.id == c) xs ≡ Some d → find (λ d. d.id == c) (map (stepped c) xs) ≡ Some (record d { steps = more d }))
          → (let x' : Domain = if b then record x { steps = more x } else x in
          cond (x'.id == c) (Some x') (find (λ d. d.id == c) (map (stepped c) xs)) ≡ Some (record d { steps = more d }))
      by true it found rest =
          let x' : Domain = record x { steps = more x } in
          let change : Domain → Domain = λ d. record d { steps = more d } in
          let same : Some x ≡ Some d = found in
          ap (λ (b : Bool). cond b (Some x') (find (λ d. d.id == c) (map (stepped c) xs))) it
          ∙ ap (λ (o : Option Domain). option_map change o) same
      by false not_it found rest = ap (λ (b : Bool). cond b (Some x) (find (λ d. d.id == c) (map (stepped c) xs))) not_it ∙ rest found

  -- of another
  pub domain_other : (c clock : ℕ) (ds : List Domain) → (clock == c) ≡ false
      → find (λ d. d.id == clock) (map (stepped c) ds) ≡ find (λ d. d.id == clock) ds
  domain_other c clock [] other = refl
  domain_other c clock (x ∷ xs) other = by (x.id == c) refl (domain_other c clock xs other)
    where
      by : (b : Bool) → (x.id == c) ≡ b
          → find (λ d. d.id == clock) (map (stepped c) xs) ≡ find (λ d. d.id == clock) xs
          → (let x' : Domain = if b then record x { steps = more x } else x in
          cond (x'.id == clock) (Some x') (find (λ d. d.id == clock) (map (stepped c) xs)) ≡ cond (x.id == clock) (Some x) (find (λ d. d.id == clock) xs))
      by true it rest =
          let x' : Domain = record x { steps = more x } in
          let not_it : (x.id == clock) ≡ false = not_this x.id c clock it other in
          ap (λ (b : Bool). cond b (Some x') (find (λ d. d.id == clock) (map (stepped c) xs))) not_it ∙ rest
          ∙ sym (ap (λ (b : Bool). cond b (Some x) (find (λ d. d.id == clock) xs)) not_it)
      by false _ rest = ap (λ (o : Option Domain). cond (x.id == clock) (Some x) o) rest
