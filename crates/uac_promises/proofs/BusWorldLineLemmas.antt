-- Lines in a row, none of them refused.
use Rattle.std.proofs.Common.{◌≡◌, ◌∙◌, sym, refl, ap, subst, ℕ, List, [], ◌∷◌, ◌++◌, map, None, Some, Result, Ok}
use Rattle.uac_script.specs.Phrase.{Phrase}
use Rattle.uac_script.specs.LineParsing.{answer}
use Rattle.uac_transcript.specs.Transcript.{Said}
use Rattle.uac_rows.specs.BusWorld.{Step, BusWorld, done, refused, step}
use Rattle.uac_rows.specs.After.{After, after, and_then, said_step}

-- none of these lines is refused in a world, and this holds after them
pub record Leaves (a : After) (P : BusWorld → Type 0) : Type 0 where
  pub none_refused : a.refusal ≡ None
  pub holds : P a.world

abbrev pub Reaches : List (List ℕ) → BusWorld → (BusWorld → Type 0) → Type 0
Reaches texts w P = Leaves (after (map answer texts) w) P

pub nothing : (w : BusWorld) (P : BusWorld → Type 0) → P w → Reaches [] w P
unfolding after
nothing w P is = record { none_refused = refl; holds = is }

pub then_line : (text : List ℕ) (texts : List (List ℕ)) (phrase : Phrase) (w next : BusWorld) (lines : List Said) (P : BusWorld → Type 0)
    → answer text ≡ Ok phrase → step phrase w ≡ done next lines → Reaches texts next P → Reaches (text ∷ texts) w P
unfolding after
then_line text texts phrase w next lines P said is rest =
    subst (λ (s : Step). Leaves (and_then s w (after (map answer texts))) P)
    (sym (ap (λ (r : Result Phrase ℕ). said_step r w) said ∙ is))
    (record { none_refused = rest.none_refused; holds = rest.holds })

-- and then others
module _ (ys : List (List ℕ)) (P Q : BusWorld → Type 0) (following : (v : BusWorld) → P v → Reaches ys v Q) where
  pub then_lines : (xs : List (List ℕ)) (w : BusWorld) → Reaches xs w P → Reaches (xs ++ ys) w Q
  unfolding after
  then_lines [] w reaches = following w reaches.holds
  then_lines (x ∷ xs) w reaches = by (said_step (answer x) w) (then_lines xs) reaches
    where
      by : (s : Step) → ((v : BusWorld) → Reaches xs v P → Reaches (xs ++ ys) v Q) → Leaves (and_then s w (after (map answer xs))) P
          → Leaves (and_then s w (after (map answer (xs ++ ys)))) Q
      by (done next lines) rest h =
          let later = rest next (record { none_refused = h.none_refused; holds = h.holds }) in
          record { none_refused = later.none_refused; holds = later.holds }
      by (refused fault) rest h = absurd (let none : Some fault ≡ None = h.none_refused in cc)
