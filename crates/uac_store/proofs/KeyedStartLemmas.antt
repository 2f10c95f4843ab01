-- What a control's key finds among the controls at the start.
use Rattle.std.proofs.Common.{◌≡◌, ℕ, ◌+◌, ◌<◌, ◌≤◌, zero, suc, ◌==◌, ◌&&◌, ℤ, List, [], ◌∷◌, ◌++◌, map, None, Some, cond, Bool, true, false, refl, ap, sym, ◌∙◌, arith}
use Rattle.std.specs.Option.{option_or}
use Rattle.std.specs.List.{flat_map, range_with_len, AllByRecursion}
use Rattle.std.proofs.Math.Bool.{and-false}
use Rattle.std.proofs.lemmas.Bool.{eqb-true, eq-eqb, eqb-false, ne_eqb}
use Rattle.uac_entities.specs.declared.entity.Entity.{Entity}
use Rattle.uac_store.specs.declared.keys.Key.{Key}
use Rattle.uac_store.specs.Keyed.{key_of, same_key, value_of}
use Rattle.uac_store.specs.ControlTable.{selectors_of}
use Rattle.uac_store.specs.StoreControls.{start_of, count_of, first_channels, channel_controls, controls_of}

-- keys that differ in a part
other_entity : (k l : Key) → (k.entity ≡ l.entity → ⊥) → same_key k l ≡ false
other_entity k l h = ap (λ b. b && (k.selector == l.selector && k.channel == l.channel)) (ne_eqb k.entity l.entity h)

other_selector : (k l : Key) → (k.selector ≡ l.selector → ⊥) → same_key k l ≡ false
other_selector k l h = ap (λ b. k.entity == l.entity && (b && k.channel == l.channel)) (ne_eqb k.selector l.selector h) ∙ and-false (k.entity == l.entity)

other_channel : (k l : Key) → (k.channel ≡ l.channel → ⊥) → same_key k l ≡ false
other_channel k l h =
    ap (λ b. k.entity == l.entity && (k.selector == l.selector && b)) (ne_eqb k.channel l.channel h)
    ∙ ap (λ b. k.entity == l.entity && b) (and-false (k.selector == l.selector))
    ∙ and-false (k.entity == l.entity)

same_parts : (k l : Key) → k.entity ≡ l.entity → k.selector ≡ l.selector → k.channel ≡ l.channel → same_key k l ≡ true
same_parts k l e s c =
    ap (λ b. b && (k.selector == l.selector && k.channel == l.channel)) (eq-eqb k.entity l.entity e)
    ∙ (ap (λ b. b && k.channel == l.channel) (eq-eqb k.selector l.selector s) ∙ eq-eqb k.channel l.channel c)

-- the first of two parts that has the key answers
pub value_of-append : (xs ys : List (Key × ℤ)) (k : Key) → value_of (xs ++ ys) k ≡ option_or (value_of xs k) (value_of ys k)
unfolding value_of
value_of-append [] ys k = refl
value_of-append (x ∷ xs) ys k = from (same_key k x.0) (value_of-append xs ys k) where
  from : (b : Bool) → value_of (xs ++ ys) k ≡ option_or (value_of xs k) (value_of ys k)
      → cond b (Some x.1) (value_of (xs ++ ys) k) ≡ option_or (cond b (Some x.1) (value_of xs k)) (value_of ys k)
  from true h = refl
  from false h = h

-- the first entry answers, or the others do
first_answers : (k l : Key) (v : ℤ) (xs : List (Key × ℤ)) → same_key k l ≡ true → value_of ((l, v) ∷ xs) k ≡ Some v
unfolding value_of
first_answers k l v xs h = ap (λ b. cond b (Some v) (value_of xs k)) h

others_answer : (k l : Key) (v : ℤ) (xs : List (Key × ℤ)) → same_key k l ≡ false → value_of ((l, v) ∷ xs) k ≡ value_of xs k
unfolding value_of
others_answer k l v xs h = ap (λ b. cond b (Some v) (value_of xs k)) h

-- where no part has the key, all together have none
pub none_of_both : (xs ys : List (Key × ℤ)) (k : Key) → value_of xs k ≡ None → value_of ys k ≡ None → value_of (xs ++ ys) k ≡ None
none_of_both xs ys k h t = value_of-append xs ys k ∙ (ap (λ o. option_or o (value_of ys k)) h ∙ t)

none_of_each : {X : Type 0} (f : X → List (Key × ℤ)) (k : Key) (xs : List X) → ((x : X) → value_of (f x) k ≡ None) → value_of (flat_map f xs) k ≡ None
unfolding value_of
none_of_each f k [] h = refl
none_of_each f k (x ∷ xs) h = none_of_both (f x) (flat_map f xs) k (h x) (none_of_each f k xs h)

-- the channels of one control
module _ (k : Key) (id selector : ℕ) (f : ℕ → ℤ) where
  row : ℕ → ℕ → List (Key × ℤ)
  row a n = map (λ c. (key_of id selector c, f c)) (range_with_len a n)

  row_misses : (a n : ℕ) → ((c : ℕ) → a ≤ c → c < a + n → same_key k (key_of id selector c) ≡ false) → value_of (row a n) k ≡ None
  unfolding row value_of
  row_misses a zero h = refl
  row_misses a (suc n) h =
      others_answer k (key_of id selector a) (f a) (row (a + 1) n) (h a (omega arith) (omega arith))
      ∙ row_misses (a + 1) n (λ c lo hi. h c (omega arith) (omega arith))

  row_has : (a n : ℕ) → k.entity ≡ id → k.selector ≡ selector → a ≤ k.channel → k.channel < a + n → value_of (row a n) k ≡ Some (f k.channel)
  unfolding row value_of
  row_has a zero e s lo hi = absurd (omega arith)
  row_has a (suc n) e s lo hi = from (k.channel == a) refl (λ apart_from. row_has (a + 1) n e s (omega arith) (omega arith)) where
    from : (b : Bool) → (k.channel == a) ≡ b → ((k.channel ≡ a → ⊥) → value_of (row (a + 1) n) k ≡ Some (f k.channel)) → value_of (row a (suc n)) k ≡ Some (f k.channel)
    from true here rest =
        let at = eqb-true k.channel a here in
        first_answers k (key_of id selector a) (f a) (row (a + 1) n) (same_parts k (key_of id selector a) e s at) ∙ ap (λ c. Some (f c)) (sym at)
    from false other rest =
        let away = eqb-false k.channel a other in
        others_answer k (key_of id selector a) (f a) (row (a + 1) n) (other_channel k (key_of id selector a) away) ∙ rest away

module _ (all : List Entity) (e : Entity) (k : Key) where
  pub channels_miss_channel : (s n : ℕ) → n ≤ k.channel → value_of (first_channels all e s n) k ≡ None
  unfolding first_channels row
  channels_miss_channel s n h =
      row_misses k e.id s (start_of all e s) 0 n (λ c lo hi. other_channel k (key_of e.id s c) (λ i. omega arith))

  channels_miss_selector : (s n : ℕ) → (k.selector ≡ s → ⊥) → value_of (first_channels all e s n) k ≡ None
  unfolding first_channels row
  channels_miss_selector s n h = row_misses k e.id s (start_of all e s) 0 n (λ c lo hi. other_selector k (key_of e.id s c) h)

  channels_miss_entity : (s n : ℕ) → (k.entity ≡ e.id → ⊥) → value_of (first_channels all e s n) k ≡ None
  unfolding first_channels row
  channels_miss_entity s n h = row_misses k e.id s (start_of all e s) 0 n (λ c lo hi. other_entity k (key_of e.id s c) h)

  channels_have : (s n : ℕ) → k.entity ≡ e.id → k.selector ≡ s → k.channel < n → value_of (first_channels all e s n) k ≡ Some (start_of all e k.selector k.channel)
  unfolding first_channels row
  channels_have s n i j h = row_has k e.id s (start_of all e s) 0 n i j (omega arith) (omega arith) ∙ ap (λ t. Some (start_of all e t k.channel)) (sym j)

  -- the controls of one entity
  pub controls_miss_entity : (k.entity ≡ e.id → ⊥) → value_of (controls_of all e) k ≡ None
  unfolding controls_of channel_controls
  controls_miss_entity h = none_of_each (channel_controls all e) k (range_with_len 1 (selectors_of e.kind)) (λ s. channels_miss_entity s (count_of all e) h)

  pub controls_miss_channel : count_of all e ≤ k.channel → value_of (controls_of all e) k ≡ None
  unfolding controls_of channel_controls
  controls_miss_channel h = none_of_each (channel_controls all e) k (range_with_len 1 (selectors_of e.kind)) (λ s. channels_miss_channel s (count_of all e) h)

  pub selectors_miss : (a m : ℕ) → ((s : ℕ) → a ≤ s → s < a + m → k.selector ≡ s → ⊥) → value_of (flat_map (channel_controls all e) (range_with_len a m)) k ≡ None
  unfolding channel_controls value_of
  selectors_miss a zero h = refl
  selectors_miss a (suc m) h =
      none_of_both (channel_controls all e a) (flat_map (channel_controls all e) (range_with_len (a + 1) m)) k
      (channels_miss_selector a (count_of all e) (h a (omega arith) (omega arith)))
      (selectors_miss (a + 1) m (λ s lo hi. h s (omega arith) (omega arith)))

  pub selectors_have : (a m : ℕ) → k.entity ≡ e.id → a ≤ k.selector → k.selector < a + m → k.channel < count_of all e
      → value_of (flat_map (channel_controls all e) (range_with_len a m)) k ≡ Some (start_of all e k.selector k.channel)
  unfolding channel_controls
  selectors_have a zero i lo hi h = absurd (omega arith)
  selectors_have a (suc m) i lo hi h = value_of-append (channel_controls all e a) rest k ∙ from (k.selector == a) refl (λ away. selectors_have (a + 1) m i (omega arith) (omega arith) h) where
    rest : List (Key × ℤ)
    rest = flat_map (channel_controls all e) (range_with_len (a + 1) m)

    from : (b : Bool) → (k.selector == a) ≡ b → ((k.selector ≡ a → ⊥) → value_of rest k ≡ Some (start_of all e k.selector k.channel))
        → option_or (value_of (channel_controls all e a) k) (value_of rest k) ≡ Some (start_of all e k.selector k.channel)
    from true here others = ap (λ o. option_or o (value_of rest k)) (channels_have a (count_of all e) i (eqb-true k.selector a here) h)
    from false other others =
        let away = eqb-false k.selector a other in
        ap (λ o. option_or o (value_of rest k)) (channels_miss_selector a (count_of all e) away) ∙ others away

-- other entities have no control of this key
pub entities_miss : (all xs : List Entity) (k : Key) → AllByRecursion (λ e. k.entity ≡ e.id → ⊥) xs → value_of (flat_map (controls_of all) xs) k ≡ None
unfolding value_of
entities_miss all [] k h = refl
entities_miss all (x ∷ xs) k h =
    none_of_both (controls_of all x) (flat_map (controls_of all) xs) k (controls_miss_entity all x k h.0) (entities_miss all xs k h.1)
