-- The clocks that are kept: a deviation, the first clock of a domain, and what stays as they change.
use Rattle.std.proofs.Common.{◌≡◌, ◌∙◌, sym, refl, ap, subst, arith, ℕ, ◌+◌, ◌*◌, ◌%◌, ◌<◌, ◌≤◌, ◌==◌, Bool, true, false, if◌then◌else◌, cond, ℤ, List, [], ◌∷◌, Option, Some, None, length, get_or, map, sum, take, nat_eq, unwrap_or}
use Rattle.std.specs.List.{All, find}
use Rattle.std.specs.Option.{option_and_then, option_map_or, option_or}
use Rattle.std.proofs.lemmas.Int.{ints}
use Rattle.std.proofs.lemmas.List.{take_all, take_more}
use Rattle.std.proofs.lemmas.List.Elements.{All-map}
use Rattle.std.proofs.lemmas.List.Folds.{find-append}
use Rattle.uac_clock.specs.declared.values.Nominal.{Nominal}
use Rattle.uac_device.specs.declared.clocks.DomainClock.{DomainClock}
use Rattle.uac_device.specs.DeviceWorld.{DeviceWorld, Domain, after_deviation}
use Rattle.uac_device.specs.DeviceKept.{DeviceFields, IsDeviationInRange, DeviceStands, clock_of}
use Rattle.uac_device.specs.DeviceTurns.{clock_after_advances, clock_after_deviation, first_ticks, resting_clock, step_by, ticks_of, ticks_where}

pub map_turned : {A B : Type 0} (f : A → B) (g : A → A) (h : B → B) → ((a : A) → f (g a) ≡ h (f a)) → (xs : List A) → map f (map g xs) ≡ map h (map f xs)
map_turned f g h e [] = refl
map_turned f g h e (x ∷ xs) = ap (λ b. b ∷ map f (map g xs)) (e x) ∙ ap (λ bs. h (f x) ∷ bs) (map_turned f g h e xs)

-- ---- a deviation

abbrev off_by : ℕ → ℤ → Domain → Domain
off_by clock ppm d = if d.id == clock then record d { deviation = ppm } else d

deviated_kept : (clock : ℕ) (ppm : ℤ) (ds : List Domain) → map clock_of (map (off_by clock ppm) ds) ≡ map (clock_after_deviation clock ppm) (map clock_of ds)
deviated_kept clock ppm ds = map_turned clock_of (off_by clock ppm) (clock_after_deviation clock ppm) (λ d. one d (d.id == clock)) ds
  where
    one : (d : Domain) (b : Bool) → clock_of (if b then record d { deviation = ppm } else d) ≡ (if b then record { domain = d.id; deviation = ppm; phase = sum d.steps % 65536 } else clock_of d)
    one d true = refl
    one d false = refl

pub deviated_stands : (device : DeviceFields) (clocks : List DomainClock) (clock : ℕ) (ppm : ℤ) (w : DeviceWorld) → clocks ≡ map (clock_after_deviation clock ppm) device.clocks
    → DeviceStands device w → DeviceStands (record device { clocks = clocks }) (after_deviation clock ppm w)
unfolding after_deviation
deviated_stands device clocks clock ppm w turned stands = record {
  function = stands.function;
  controls = stands.controls;
  settings = stands.settings;
  clocks = turned ∙ ap (map (clock_after_deviation clock ppm)) stands.clocks ∙ sym (deviated_kept clock ppm w.domains);
  streams = stands.streams;
  unlinked = stands.unlinked;
  inputs = stands.inputs;
  outputs = stands.outputs;
}

-- ---- clock by clock

-- what is found passes the test
found_passes : (domain : ℕ) (xs : List DomainClock) (x : DomainClock) → find (λ c. c.domain == domain) xs ≡ Some x → (x.domain == domain) ≡ true
found_passes domain [] x e = absurd (cc)
found_passes domain (y ∷ ys) x e = from (y.domain == domain) refl e (found_passes domain ys x)
  where
    from : (b : Bool) → (y.domain == domain) ≡ b → cond b (Some y) (find (λ c. c.domain == domain) ys) ≡ Some x
        → (find (λ c. c.domain == domain) ys ≡ Some x → (x.domain == domain) ≡ true) → (x.domain == domain) ≡ true
    from true same e others = let is : y ≡ x = cc in subst (λ (z : DomainClock). (z.domain == domain) ≡ true) is same
    from false other e others = others e

-- the ticks of a clock that passes
passing_ticks : (domain : ℕ) (values : Option Nominal) (n : ℕ) (x : DomainClock) → (x.domain == domain) ≡ true → ticks_where domain values n x ≡ Some (ticks_of values n x)
passing_ticks domain values n x same = ap (λ (b : Bool). if b then Some (ticks_of values n x) else None) same

-- the ticks of the first clock up to an index
pub first_more : (domain : ℕ) (values : Option Nominal) (n : ℕ) (old : List DomainClock) (at : ℕ) (c : DomainClock) (first more one : Option ℕ) → at < length old
    → one ≡ ticks_where domain values n (get_or old at c)
    → first ≡ option_and_then (ticks_where domain values n) (find (λ c. c.domain == domain) (take at old)) → more ≡ option_or first one
    → more ≡ option_and_then (ticks_where domain values n) (find (λ c. c.domain == domain) (take (at + 1) old))
first_more domain values n old at c first more one below ticks so_far joined =
    joined
    ∙ ap (λ o. option_or o one) so_far
    ∙ ap (option_or (option_and_then (ticks_where domain values n) (find (λ c. c.domain == domain) (take at old)))) (ticks ∙ alone (get_or old at c) (nat_eq (get_or old at c).domain domain) refl)
    ∙ either (find (λ c. c.domain == domain) (take at old)) (found_passes domain (take at old)) (find (λ c. c.domain == domain) (get_or old at c ∷ []))
    ∙ ap (option_and_then (ticks_where domain values n)) (sym longer)
  where
    longer : find (λ c. c.domain == domain) (take (at + 1) old) ≡ option_or (find (λ c. c.domain == domain) (take at old)) (find (λ c. c.domain == domain) (get_or old at c ∷ []))
    longer = ap (find (λ c. c.domain == domain)) (take_more old at c below) ∙ find-append (λ c. c.domain == domain) (take at old) (get_or old at c ∷ [])

    alone : (x : DomainClock) (b : Bool) → (x.domain == domain) ≡ b
        → (if b then Some (ticks_of values n x) else None) ≡ option_and_then (ticks_where domain values n) (cond b (Some x) None)
    alone x true same = sym (passing_ticks domain values n x same)
    alone x false other = refl

    either : (o : Option DomainClock) → ((x : DomainClock) → o ≡ Some x → (x.domain == domain) ≡ true) → (p : Option DomainClock)
        → option_or (option_and_then (ticks_where domain values n) o) (option_and_then (ticks_where domain values n) p) ≡ option_and_then (ticks_where domain values n) (option_or o p)
    either None there p = refl
    either (Some x) there p =
        ap (λ (o : Option ℕ). option_or o (option_and_then (ticks_where domain values n) p)) (passing_ticks domain values n x (there x refl))
        ∙ sym (passing_ticks domain values n x (there x refl))

-- that is the answer, or 0
read_first : (domain : ℕ) (values : Option Nominal) (n : ℕ) (xs : List DomainClock)
    → unwrap_or (option_and_then (ticks_where domain values n) (find (λ c. c.domain == domain) xs)) 0 ≡ first_ticks domain values n xs
read_first domain values n [] = refl
read_first domain values n (x ∷ xs) = from (x.domain == domain) refl (read_first domain values n xs)
  where
    from : (b : Bool) → (x.domain == domain) ≡ b
        → unwrap_or (option_and_then (ticks_where domain values n) (find (λ c. c.domain == domain) xs)) 0 ≡ first_ticks domain values n xs
        → unwrap_or (option_and_then (ticks_where domain values n) (cond b (Some x) (find (λ c. c.domain == domain) xs))) 0
        ≡ option_map_or (ticks_of values n) (cond b (Some x) (find (λ c. c.domain == domain) xs)) 0
    from true same others = ap (λ (o : Option ℕ). unwrap_or o 0) (passing_ticks domain values n x same)
    from false other others = others

pub first_read : (domain : ℕ) (values : Option Nominal) (n : ℕ) (old : List DomainClock) (at : ℕ) (first : Option ℕ) → length old ≤ at
    → first ≡ option_and_then (ticks_where domain values n) (find (λ c. c.domain == domain) (take at old)) → unwrap_or first 0 ≡ first_ticks domain values n old
first_read domain values n old at first past so_far =
    ap (λ o. unwrap_or o 0) (so_far ∙ ap (λ xs. option_and_then (ticks_where domain values n) (find (λ c. c.domain == domain) xs)) (take_all at old past))
    ∙ read_first domain values n old

-- ---- what every device keeps

-- what holds of each as it is changed holds of each that is changed
pub all_changed : {X Y : Type 0} (P : X → Type 0) (Q : Y → Type 0) (change : X → Y) → ((x : X) → P x → Q (change x)) → (xs : List X) → All P xs → All Q (map change xs)
all_changed P Q change keeps xs all = All-map Q change xs (λ k d below. keeps (get_or xs k d) (all k d below))

-- the clocks stay those of the domains
pub resting_domains : (ds : List ℕ) → map (λ c. c.domain) (map resting_clock ds) ≡ ds
resting_domains [] = refl
resting_domains (d ∷ ds) = ap (λ rest. d ∷ rest) (resting_domains ds)

domains_kept : (change : DomainClock → DomainClock) → ((c : DomainClock) → (change c).domain ≡ c.domain) → (clocks : List DomainClock)
    → map (λ c. c.domain) (map change clocks) ≡ map (λ c. c.domain) clocks
domains_kept change keeps [] = refl
domains_kept change keeps (c ∷ cs) =
    ap (λ n. n ∷ map (λ c. c.domain) (map change cs)) (keeps c) ∙ ap (λ rest. c.domain ∷ rest) (domains_kept change keeps cs)

pub deviated_domains : (domain : ℕ) (ppm : ℤ) (clocks : List DomainClock)
    → map (λ c. c.domain) (map (clock_after_deviation domain ppm) clocks) ≡ map (λ c. c.domain) clocks
deviated_domains domain ppm clocks = domains_kept (clock_after_deviation domain ppm) (λ c. one c (c.domain == domain)) clocks
  where
    one : (c : DomainClock) (b : Bool) → (if b then record c { deviation = ppm } else c).domain ≡ c.domain
    one c true = refl
    one c false = refl

pub advanced_domains : (domain : ℕ) (values : Option Nominal) (n : ℕ) (clocks : List DomainClock)
    → map (λ c. c.domain) (map (clock_after_advances domain values n) clocks) ≡ map (λ c. c.domain) clocks
advanced_domains domain values n clocks = domains_kept (clock_after_advances domain values n) (λ c. one c (c.domain == domain)) clocks
  where
    one : (c : DomainClock) (b : Bool) → (if b then record c { phase = (c.phase + step_by values c.deviation * n) % 65536 } else c).domain ≡ c.domain
    one c true = refl
    one c false = refl

pub resting_range : (ds : List ℕ) → All (λ c. IsDeviationInRange c.deviation) (map resting_clock ds)
resting_range ds = all_changed (λ _. Unit {0}) (λ c. IsDeviationInRange c.deviation) resting_clock (λ d _. (search (arith, ints), search (arith, ints))) ds (λ k d below. tt)

pub resting_phases : (ds : List ℕ) → All (λ c. c.phase < 65536) (map resting_clock ds)
resting_phases ds = all_changed (λ _. Unit {0}) (λ c. c.phase < 65536) resting_clock (λ d _. omega arith) ds (λ k d below. tt)

pub deviated_range : (domain : ℕ) (ppm : ℤ) (clocks : List DomainClock) → IsDeviationInRange ppm → All (λ c. IsDeviationInRange c.deviation) clocks
    → All (λ c. IsDeviationInRange c.deviation) (map (clock_after_deviation domain ppm) clocks)
deviated_range domain ppm clocks within all =
    all_changed (λ c. IsDeviationInRange c.deviation) (λ c. IsDeviationInRange c.deviation) (clock_after_deviation domain ppm) (λ c. one c (c.domain == domain)) clocks all
  where
    one : (c : DomainClock) (b : Bool) → IsDeviationInRange c.deviation → IsDeviationInRange (if b then record c { deviation = ppm } else c).deviation
    one c true range = within
    one c false range = range

pub deviated_phases : (domain : ℕ) (ppm : ℤ) (clocks : List DomainClock) → All (λ c. c.phase < 65536) clocks
    → All (λ c. c.phase < 65536) (map (clock_after_deviation domain ppm) clocks)
deviated_phases domain ppm clocks all =
    all_changed (λ c. c.phase < 65536) (λ c. c.phase < 65536) (clock_after_deviation domain ppm) (λ c. one c (c.domain == domain)) clocks all
  where
    one : (c : DomainClock) (b : Bool) → c.phase < 65536 → (if b then record c { deviation = ppm } else c).phase < 65536
    one c true past = past
    one c false past = past

pub advanced_range : (domain : ℕ) (values : Option Nominal) (n : ℕ) (clocks : List DomainClock) → All (λ c. IsDeviationInRange c.deviation) clocks
    → All (λ c. IsDeviationInRange c.deviation) (map (clock_after_advances domain values n) clocks)
advanced_range domain values n clocks all =
    all_changed (λ c. IsDeviationInRange c.deviation) (λ c. IsDeviationInRange c.deviation) (clock_after_advances domain values n) (λ c. one c (c.domain == domain)) clocks all
  where
    one : (c : DomainClock) (b : Bool) → IsDeviationInRange c.deviation → IsDeviationInRange (if b then record c { phase = (c.phase + step_by values c.deviation * n) % 65536 } else c).deviation
    one c true range = range
    one c false range = range

pub advanced_phases : (domain : ℕ) (values : Option Nominal) (n : ℕ) (clocks : List DomainClock) → All (λ c. c.phase < 65536) clocks
    → All (λ c. c.phase < 65536) (map (clock_after_advances domain values n) clocks)
advanced_phases domain values n clocks all =
    all_changed (λ c. c.phase < 65536) (λ c. c.phase < 65536) (clock_after_advances domain values n) (λ c. one c (c.domain == domain)) clocks all
  where
    one : (c : DomainClock) (b : Bool) → c.phase < 65536 → (if b then record c { phase = (c.phase + step_by values c.deviation * n) % 65536 } else c).phase < 65536
    one c true past = omega arith
    one c false past = past
