-- A list changed element by element.
use Rattle.std.proofs.Common.{◌≡◌, ◌∙◌, sym, refl, ap, subst, arith, ℕ, ◌+◌, ◌<◌, ◌≤◌, List, [], ◌∷◌, ◌++◌, length, get_or, set, take, drop, map}
use Rattle.std.specs.List.{All}
use Rattle.std.proofs.lemmas.Grind.{common_steps}
use Rattle.std.proofs.lemmas.List.{get_or-drop, length-map, take_all, take_at, take_more, take_more_set, map-append}

-- the elements below an index are changed, and the others are as they were
pub record IsTurnedBelow {X : Type 0} (turn : X → X) (now old : List X) (at : ℕ) : Type 0 where
  pub below : take at now ≡ map turn (take at old)
  pub rest : drop at now ≡ drop at old
  pub same : length now ≡ length old

-- what stands at an index that isn't changed yet
pub untouched : {X : Type 0} (turn : X → X) (now old : List X) (at : ℕ) (d : X) → IsTurnedBelow turn now old at → get_or now at d ≡ get_or old at d
untouched {X = X} turn now old at d turned = sym (first now) ∙ ap (λ xs. get_or xs 0 d) turned.rest ∙ first old
  where
    first : (xs : List X) → get_or (drop at xs) 0 d ≡ get_or xs at d
    first xs = get_or-drop at xs 0 d ∙ ap (λ i. get_or xs i d) (omega arith)

-- what holds of each before holds of it
pub untouched_holds : {X : Type 0} (P : X → Type 0) (turn : X → X) (now old : List X) (at : ℕ) (d : X) → All P old → at < length now → IsTurnedBelow turn now old at
    → P (get_or now at d)
untouched_holds P turn now old at d all below turned =
    subst P (sym (untouched turn now old at d turned)) (all at d (omega (arith, turned.same)))

-- one index more
pub turned_more : {X : Type 0} (turn : X → X) (now old : List X) (at : ℕ) (x d : X) → at < length now → IsTurnedBelow turn now old at
    → x ≡ turn (get_or now at d) → IsTurnedBelow turn (set now at x) old (at + 1)
turned_more turn now old at x d h turned e =
    let longer : map turn (take (at + 1) old) ≡ map turn (take at old) ++ turn (get_or old at d) ∷ [] =
    ap (map turn) (take_more old at d (omega (arith, turned.same))) ∙ map-append turn (take at old) (get_or old at d ∷ []) in
    record {
      below =
          take_more_set now at x h ∙ ap (λ xs. xs ++ x ∷ []) turned.below
          ∙ ap (λ y. map turn (take at old) ++ y ∷ []) (e ∙ ap turn (untouched turn now old at d turned))
          ∙ sym longer;
      rest = grind (arith, common_steps);
      same = grind (arith, common_steps);
    }

-- at the start no element is changed
pub turned_none : {X : Type 0} (turn : X → X) (xs : List X) → IsTurnedBelow turn xs xs 0
turned_none turn xs = record { below = refl; rest = refl; same = refl }

-- at the end each is
pub turned_all : {X : Type 0} (turn : X → X) (now old : List X) (at : ℕ) → length now ≤ at → IsTurnedBelow turn now old at → now ≡ map turn old
turned_all turn now old at past turned =
    sym (take_all at now past) ∙ turned.below ∙ ap (map turn) (take_all at old (omega (arith, turned.same)))

-- a list that is lent and put back
pub put_back : {X : Type 0} (count : ℕ) (new old : List X) → length new ≡ count → take count (new ++ drop (length new) old) ≡ new
put_back count new old same = take_at new (drop (length new) old) count same

-- the same, where each element of the slice that is lent was changed
pub turned_back : {X : Type 0} (turn : X → X) (count : ℕ) (old slice new : List X) → new ≡ map turn slice → slice ≡ old → length slice ≡ count
    → take count (new ++ drop (length new) old) ≡ map turn old
turned_back turn count old slice new is same sized = put_back count new old (ap length is ∙ length-map slice turn ∙ sized) ∙ is ∙ ap (map turn) same
