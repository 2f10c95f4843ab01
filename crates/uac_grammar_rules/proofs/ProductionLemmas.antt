-- What is left of a production after a role, and that it allows what the production allows.
use Rattle.std.proofs.Common.{◌≡◌, Bool, true, false, ◌&&◌, ◌||◌, ◌⊎◌, List, [], ◌∷◌, ◌++◌, IsTrue, flat_map, refl, sym, ap, ◌∙◌, subst, inl, inr, append_assoc, ⊎_elim}
use Rattle.std.proofs.lemmas.Bool.{false≢true, and_parts, and_from, or_cases, or_left, or_right}
use Rattle.std.specs.List.{AllByRecursion}
use Rattle.uac_grammar_rules.specs.Production.{Production, nothing, empty, one, then', either, many, Allows}

-- the production allows the empty list
abbrev pub nullable : {K : Type 0} → Production K → Bool
nullable nothing = false
nullable empty = true
nullable (one passes) = false
nullable (then' a b) = nullable a && nullable b
nullable (either a b) = nullable a || nullable b
nullable (many a) = true

-- a then b, with no production that adds nothing
abbrev pub join : {K : Type 0} → Production K → Production K → Production K
join nothing c = nothing
join empty c = c
join (one passes) c = then' (one passes) c
join (then' a b) c = join a (join b c)
join (either a b) c = then' (either a b) c
join (many a) c = then' (many a) c

-- a or b, with no production that adds nothing
abbrev pub choose : {K : Type 0} → Production K → Production K → Production K
choose nothing b = b
choose empty nothing = empty
choose empty b = either empty b
choose (one passes) nothing = one passes
choose (one passes) b = either (one passes) b
choose (then' a c) nothing = then' a c
choose (then' a c) b = either (then' a c) b
choose (either a c) nothing = either a c
choose (either a c) b = either (either a c) b
choose (many a) nothing = many a
choose (many a) b = either (many a) b

abbrev pub when : {K : Type 0} → Bool → Production K → Production K
when true a = a
when false a = nothing

-- what is left of the production after a role
abbrev pub following : {K : Type 0} → K → Production K → Production K
following k nothing = nothing
following k empty = nothing
following k (one passes) = when (passes k) empty
following k (then' a b) = choose (join (following k a) b) (when (nullable a) (following k b))
following k (either a b) = choose (following k a) (following k b)
following k (many a) = join (following k a) (many a)

module _ {A K : Type 0} (f : A → K) where
  -- join allows what then' allows
  pub join_allows : (a b : Production K) (xs : List A) → Allows f (then' a b) xs → Allows f (join a b) xs
  join_allows nothing b xs (ys, zs, e, p, q) = absurd p
  join_allows empty b xs (ys, zs, e, p, q) = subst (Allows f b) (sym (e ∙ ap (λ y. y ++ zs) p)) q
  join_allows (one passes) b xs h = h
  join_allows (then' a c) b xs (ys, zs, e, (us, vs, e', p, p'), q) =
      join_allows a (join c b) xs (us, vs ++ zs, e ∙ ap (λ y. y ++ zs) e' ∙ append_assoc us vs zs, p, join_allows c b (vs ++ zs) (vs, zs, refl, p', q))
  join_allows (either a c) b xs h = h
  join_allows (many a) b xs h = h

  -- a front of two parts
  regroup : (a c b : Production K) (xs us ws : List A) → xs ≡ us ++ ws → Allows f a us → Allows f (then' c b) ws → Allows f (then' (then' a c) b) xs
  regroup a c b xs us ws e p (vs, zs, e', p', q) =
      (us ++ vs, zs, e ∙ ap (λ y. us ++ y) e' ∙ sym (append_assoc us vs zs), (us, vs, refl, p, p'), q)

  pub allows_join : (a b : Production K) (xs : List A) → Allows f (join a b) xs → Allows f (then' a b) xs
  allows_join nothing b xs h = absurd h
  allows_join empty b xs h = ([], xs, refl, refl, h)
  allows_join (one passes) b xs h = h
  allows_join (then' a c) b xs h =
      let (us, ws, e, p, q) = allows_join a (join c b) xs h in regroup a c b xs us ws e p (allows_join c b ws q)
  allows_join (either a c) b xs h = h
  allows_join (many a) b xs h = h

  -- choose allows what either allows
  pub choose_allows : (a b : Production K) (xs : List A) → Allows f (either a b) xs → Allows f (choose a b) xs
  choose_allows nothing b xs (inl h) = absurd h
  choose_allows nothing b xs (inr h) = h
  choose_allows empty nothing xs (inl h) = h
  choose_allows empty nothing xs (inr h) = absurd h
  choose_allows empty b xs h = h
  choose_allows (one passes) nothing xs (inl h) = h
  choose_allows (one passes) nothing xs (inr h) = absurd h
  choose_allows (one passes) b xs h = h
  choose_allows (then' a c) nothing xs (inl h) = h
  choose_allows (then' a c) nothing xs (inr h) = absurd h
  choose_allows (then' a c) b xs h = h
  choose_allows (either a c) nothing xs (inl h) = h
  choose_allows (either a c) nothing xs (inr h) = absurd h
  choose_allows (either a c) b xs h = h
  choose_allows (many a) nothing xs (inl h) = h
  choose_allows (many a) nothing xs (inr h) = absurd h
  choose_allows (many a) b xs h = h

  pub allows_choose : (a b : Production K) (xs : List A) → Allows f (choose a b) xs → Allows f (either a b) xs
  allows_choose nothing b xs h = inr h
  allows_choose empty nothing xs h = inl h
  allows_choose empty b xs h = h
  allows_choose (one passes) nothing xs h = inl h
  allows_choose (one passes) b xs h = h
  allows_choose (then' a c) nothing xs h = inl h
  allows_choose (then' a c) b xs h = h
  allows_choose (either a c) nothing xs h = inl h
  allows_choose (either a c) b xs h = h
  allows_choose (many a) nothing xs h = inl h
  allows_choose (many a) b xs h = h

  when_allows : (t : Bool) (a : Production K) (xs : List A) → IsTrue t → Allows f a xs → Allows f (when t a) xs
  when_allows true a xs p h = h
  when_allows false a xs p h = absurd (false≢true p)

  allows_when : (t : Bool) (a : Production K) (xs : List A) → Allows f (when t a) xs → IsTrue t × Allows f a xs
  allows_when true a xs h = (refl, h)
  allows_when false a xs h = absurd h

  -- two lists that are empty together
  empty_parts : (ys zs : List A) → [] ≡ ys ++ zs → (ys ≡ []) × (zs ≡ [])
  empty_parts [] zs e = (refl, sym e)
  empty_parts (y ∷ ys) zs e = cc

  -- what a nullable production allows, and the other way round
  pub allows_empty : (a : Production K) → IsTrue (nullable a) → Allows f a []
  allows_empty nothing h = absurd (false≢true h)
  allows_empty empty h = refl
  allows_empty (one passes) h = absurd (false≢true h)
  allows_empty (then' a b) h =
      let (p, q) = and_parts (nullable a) (nullable b) h in ([], [], refl, allows_empty a p, allows_empty b q)
  allows_empty (either a b) h =
      ⊎_elim (λ p. inl (allows_empty a p)) (λ q. inr (allows_empty b q)) (or_cases (nullable a) (nullable b) h)
  allows_empty (many a) h = ([], refl, tt)

  pub nullable_from : (a : Production K) → Allows f a [] → IsTrue (nullable a)
  nullable_from nothing h = absurd h
  nullable_from empty h = refl
  nullable_from (one passes) (x, e, p) = cc
  nullable_from (then' a b) (ys, zs, e, p, q) =
      let (ey, ez) = empty_parts ys zs e in
      and_from (nullable a) (nullable b) (nullable_from a (subst (Allows f a) ey p)) (nullable_from b (subst (Allows f b) ez q))
  nullable_from (either a b) (inl p) = or_left (nullable a) (nullable b) (nullable_from a p)
  nullable_from (either a b) (inr q) = or_right (nullable a) (nullable b) (nullable_from b q)
  nullable_from (many a) h = refl

  -- the first role of a list taken off, where the front is empty or not
  front_cases : (x : A) (xs ys zs : List A) → x ∷ xs ≡ ys ++ zs → ((ys ≡ []) × (zs ≡ x ∷ xs)) ⊎ ((vs : List A) × (ys ≡ x ∷ vs) × (xs ≡ vs ++ zs))
  front_cases x xs [] zs e = inl (refl, sym e)
  front_cases x xs (y ∷ ys) zs e = inr (ys, (let h : y ≡ x = cc in ap (λ w. w ∷ ys) h), cc)

  -- the first part that isn't empty has the role
  many_front : (a : Production K) (x : A) (xs : List A)
      → ((ys : List A) → Allows f a (x ∷ ys) → Allows f (following (f x) a) ys)
      → (parts : List (List A)) → x ∷ xs ≡ flat_map (λ part. part) parts → AllByRecursion (Allows f a) parts
      → Allows f (then' (following (f x) a) (many a)) xs
  many_front a x xs go [] e all = cc
  many_front a x xs go ([] ∷ parts) e all = many_front a x xs go parts e all.1
  many_front a x xs go ((y ∷ ys) ∷ parts) e all =
      let h : y ≡ x = cc in
      let e' : xs ≡ ys ++ flat_map (λ part. part) parts = cc in
      (ys, flat_map (λ part. part) parts, e', go ys (subst (λ w. Allows f a (w ∷ ys)) h all.0), (parts, refl, all.1))

  -- what follows a role is what its production leaves
  pub after_allows : (r : Production K) (x : A) (xs : List A) → Allows f r (x ∷ xs) → Allows f (following (f x) r) xs
  after_allows nothing x xs h = absurd h
  after_allows empty x xs h = cc
  after_allows (one passes) x xs (y, e, p) =
      let h : y ≡ x = cc in
      let e' : xs ≡ [] = cc in
      when_allows (passes (f x)) empty xs (subst (λ w. IsTrue (passes (f w))) h p) e'
  after_allows (then' a b) x xs (ys, zs, e, p, q) =
      choose_allows (join (following (f x) a) b) (when (nullable a) (following (f x) b)) xs
      (elim (front_cases x xs ys zs e) [
        | inl (ey, ez) ↦ inr (when_allows (nullable a) (following (f x) b) xs (nullable_from a (subst (Allows f a) ey p)) (after_allows b x xs (subst (Allows f b) ez q)))
        | inr (vs, ey, ex) ↦ inl (join_allows (following (f x) a) b xs (vs, zs, ex, after_allows a x vs (subst (Allows f a) ey p), q))
      ])
  after_allows (either a b) x xs (inl p) = choose_allows (following (f x) a) (following (f x) b) xs (inl (after_allows a x xs p))
  after_allows (either a b) x xs (inr q) = choose_allows (following (f x) a) (following (f x) b) xs (inr (after_allows b x xs q))
  after_allows (many a) x xs (parts, e, all) =
      join_allows (following (f x) a) (many a) xs (many_front a x xs (λ ys. after_allows a x ys) parts e all)

  pub allows_following : (r : Production K) (x : A) (xs : List A) → Allows f (following (f x) r) xs → Allows f r (x ∷ xs)
  allows_following nothing x xs h = absurd h
  allows_following empty x xs h = absurd h
  allows_following (one passes) x xs h =
      let (p, e) = allows_when (passes (f x)) empty xs h in (x, ap (λ w. x ∷ w) e, p)
  allows_following (then' a b) x xs h =
      elim (allows_choose (join (following (f x) a) b) (when (nullable a) (following (f x) b)) xs h) [
        | inl p ↦ (let (ys, zs, e, q, r) = allows_join (following (f x) a) b xs p in (x ∷ ys, zs, ap (λ w. x ∷ w) e, allows_following a x ys q, r))
        | inr p ↦ (let (t, q) = allows_when (nullable a) (following (f x) b) xs p in ([], x ∷ xs, refl, allows_empty a t, allows_following b x xs q))
      ]
  allows_following (either a b) x xs h =
      ⊎_elim (λ p. inl (allows_following a x xs p)) (λ q. inr (allows_following b x xs q)) (allows_choose (following (f x) a) (following (f x) b) xs h)
  allows_following (many a) x xs h =
      let (ys, zs, e, q, (parts, e', all)) = allows_join (following (f x) a) (many a) xs h in
      ((x ∷ ys) ∷ parts, ap (λ w. x ∷ w) (e ∙ ap (λ w. ys ++ w) e'), (allows_following a x ys q, all))
