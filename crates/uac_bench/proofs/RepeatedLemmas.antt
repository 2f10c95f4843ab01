-- What happens over and over, with lines of any kind: what was printed so far, and what is left of it.
use Rattle.std.proofs.Common.{arith, ◌≡◌, ◌∙◌, sym, ap, subst, ℕ, zero, suc, ◌+◌, ◌<◌, List, [], ◌∷◌, ◌++◌, flat_map, Option, append_assoc, refl, ◌-◌}
use Rattle.std.proofs.lemmas.List.{append-nil}
use Rattle.std.specs.Io.KnownBytes.{Appends}
use Rattle.uac_edges.specs.Writing.{AppendsFront}
use Rattle.uac_transcript.proofs.PrintingLemmas.{spelt-lines, spelt-front_after, spelt-front_of_more}

module _ {A W : Type 0} (spell : A → List ℕ) (f : W → W) (said : W → List A) (all : ℕ → W → List A) (after : ℕ → W → W)
    (all_none : (w : W) → all zero w ≡ []) (all_more : (n : ℕ) (w : W) → all (suc n) w ≡ said w ++ all n (f w))
    (after_none : (w : W) → after zero w ≡ w) (after_more : (n : ℕ) (w : W) → after (suc n) w ≡ after n (f w)) where
  -- the last step
  pub further : (i : ℕ) (w : W) → after (suc i) w ≡ f (after i w)
  further zero w = after_more zero w ∙ after_none (f w) ∙ ap f (sym (after_none w))
  further (suc i) w = after_more (suc i) w ∙ further i (f w) ∙ ap f (sym (after_more i w))

  pub one_further : (i : ℕ) (w : W) → after (i + 1) w ≡ f (after i w)
  one_further i w = (let e : i + 1 ≡ suc i = omega arith in ap (λ (n : ℕ). after n w) e ∙ further i w)

  -- the first steps, and the others
  pub split : (i n k : ℕ) (w : W) → n ≡ i + k → all n w ≡ all i w ++ all k (after i w)
  split zero n k w e =
      let same : n ≡ k = omega arith in
      ap (λ (m : ℕ). all m w) same
      ∙ sym (ap (λ (ls : List A). ls ++ all k (after zero w)) (all_none w) ∙ ap (all k) (after_none w))
  split (suc i) zero k w e = absurd (let none : ⊥ = omega arith in none)
  split (suc i) (suc n) k w e =
      let left : n ≡ i + k = omega arith in
      all_more n w
      ∙ ap (λ (ls : List A). said w ++ ls) (split i n k (f w) left)
      ∙ sym (append_assoc (said w) (all i (f w)) (all k (after i (f w))))
      ∙ ap (λ (ls : List A). ls ++ all k (after i (f w))) (sym (all_more i w))
      ∙ ap (λ (v : W). all (suc i) w ++ all k v) (sym (after_more i w))

  one_only : (w : W) → all 1 w ≡ said w
  one_only w = all_more zero w ∙ ap (λ (ls : List A). said w ++ ls) (all_none (f w)) ∙ append-nil (said w)

  -- one step more was printed
  pub told_more : (old mid new : Option (List ℕ)) (i : ℕ) (w : W) → Appends old mid (flat_map spell (all i w)) → Appends mid new (flat_map spell (said (after i w)))
      → Appends old new (flat_map spell (all (i + 1) w))
  told_more old mid new i w so_far next =
      let parts : all (i + 1) w ≡ all i w ++ said (after i w) =
      split i (i + 1) 1 w refl ∙ ap (λ (ls : List A). all i w ++ ls) (one_only (after i w)) in
      subst (λ (ls : List A). Appends old new (flat_map spell ls)) (sym parts) (spelt-lines spell old mid new (all i w) (said (after i w)) so_far next)

  -- a step that failed: a front of all was printed
  pub told_in_part : (old mid new : Option (List ℕ)) (i count : ℕ) (w : W) → i < count → Appends old mid (flat_map spell (all i w))
      → AppendsFront mid new (flat_map spell (said (after i w))) → AppendsFront old new (flat_map spell (all count w))
  told_in_part old mid new i count w inside so_far front =
      from count (left count i inside) where
        left : (count i : ℕ) → i < count → (k : ℕ) × (count ≡ i + suc k)
        left zero i h = absurd (let none : ⊥ = omega arith in none)
        left (suc count) i h = (let fits : count + 1 ≡ i + suc (count - i) = omega arith in (count - i, omega arith))

        from : (count : ℕ) → (k : ℕ) × (count ≡ i + suc k) → AppendsFront old new (flat_map spell (all count w))
        from count h =
            let parts : all count w ≡ all i w ++ (said (after i w) ++ all h.0 (f (after i w))) =
            split i count (suc h.0) w h.1 ∙ ap (λ (ls : List A). all i w ++ ls) (all_more h.0 (after i w)) in
            subst (λ (ls : List A). AppendsFront old new (flat_map spell ls)) (sym parts)
            (spelt-front_after spell old mid new (all i w) (said (after i w) ++ all h.0 (f (after i w))) so_far
            (spelt-front_of_more spell mid new (said (after i w)) (all h.0 (f (after i w))) front))
