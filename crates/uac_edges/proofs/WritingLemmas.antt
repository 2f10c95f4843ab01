-- Texts that are written one after the other, and counts of faults over calls in a row.
use Rattle.std.proofs.Common.{◌≡◌, ℕ, ◌+◌, ◌<◌, ◌≤◌, List, [], ◌∷◌, ◌++◌, length, take, drop, get_or, flat_map, Option, None, Some, Result, Ok, Err, IsErrAnd, refl, sym, ap, subst, ◌∙◌, inl, inr, arith, append_assoc}
use Rattle.std.proofs.lemmas.List.{append-nil, drop_more, take-append-drop}
use Rattle.std.proofs.lemmas.Grind.{flat_map-append}
use Rattle.std.specs.Io.KnownBytes.{Appends, Keeps}
use Rattle.uac_edges.specs.Faults.{Rose, HasCause}
use Rattle.uac_edges.specs.Writing.{AppendsFront, Writes}

-- Two texts one after the other are their sum.
pub Appends-twice : (old mid new : Option (List ℕ)) (first second : List ℕ) → Appends old mid first → Appends mid new second → Appends old new (first ++ second)
Appends-twice None mid new first second a b = tt
Appends-twice (Some xs) None new first second a b = absurd a
Appends-twice (Some xs) (Some ys) None first second a b = absurd b
Appends-twice (Some xs) (Some ys) (Some zs) first second a b =
    b ∙ ap (λ front. front ++ second) a ∙ append_assoc xs first second

-- Kept bytes grew by nothing.
pub Appends-none : (old new : Option (List ℕ)) → Keeps old new → Appends old new []
Appends-none None new k = tt
Appends-none (Some xs) None k = absurd k
Appends-none (Some xs) (Some ys) k = k ∙ sym (append-nil xs)

-- A whole text and then a front of the next are a front of both.
pub AppendsFront-after : (old mid new : Option (List ℕ)) (first second : List ℕ) → Appends old mid first → AppendsFront mid new second → AppendsFront old new (first ++ second)
AppendsFront-after old mid new first second a f = record {
  front = first ++ f.front;
  rest = f.rest;
  parts = ap (λ text. first ++ text) f.parts ∙ sym (append_assoc first f.front f.rest);
  appended = Appends-twice old mid new first f.front a f.appended;
}

-- A front of a text is a front of that text and the next.
pub AppendsFront-longer : (old new : Option (List ℕ)) (first second : List ℕ) → AppendsFront old new first → AppendsFront old new (first ++ second)
AppendsFront-longer old new first second f = record {
  front = f.front;
  rest = f.rest ++ second;
  parts = ap (λ text. text ++ second) f.parts ∙ append_assoc f.front f.rest second;
  appended = f.appended;
}

-- Bytes that were kept grew by a front of any text.
pub AppendsFront-none : (old new : Option (List ℕ)) (text : List ℕ) → Keeps old new → AppendsFront old new text
AppendsFront-none old new text k = record { front = []; rest = text; parts = refl; appended = Appends-none old new k }

-- A whole text is a front of itself.
pub AppendsFront-whole : (old new : Option (List ℕ)) (text : List ℕ) → Appends old new text → AppendsFront old new text
AppendsFront-whole old new text a = record { front = text; rest = []; parts = sym (append-nil text); appended = a }

-- Ok and then either: the second call's answer is that of both texts.
pub Writes-after : {T E : Type 0} (old mid new : Option (List ℕ)) (r : Result T E) (first second : List ℕ) → Appends old mid first → Writes mid new r second → Writes old new r (first ++ second)
Writes-after old mid new (Ok x) first second a w = Appends-twice old mid new first second a w
Writes-after old mid new (Err e) first second a w = AppendsFront-after old mid new first second a w

-- Err in the first call ends both texts.
pub Writes-stopped : {T E : Type 0} (old new : Option (List ℕ)) (r : Result T E) (e : E) (first second : List ℕ) → r ≡ Err e → AppendsFront old new first → Writes old new r (first ++ second)
Writes-stopped old new (Ok x) e first second is f = cc
Writes-stopped old new (Err d) e first second is f = AppendsFront-longer old new first second f

-- Err in the first call, handed on by `?`: a front of both texts was written.
pub Writes-handed_on : {T E : Type 0} (Q : E → Type 0) (old new : Option (List ℕ)) (r : Result T E) (text : List ℕ) → IsErrAnd r Q → AppendsFront old new text → Writes old new r text
Writes-handed_on Q old new (Ok x) text fails f = absurd fails
Writes-handed_on Q old new (Err e) text fails f = f

-- A rise since a later moment is a rise since an earlier one.
pub Rose-earlier : (old mid new : ℕ) → old ≤ mid → Rose mid new → Rose old new
Rose-earlier old mid new le (inl lt) = inl (omega arith)
Rose-earlier old mid new le (inr top) = inr top

-- What holds of the second of two calls holds over both, where the first met no fault.
pub HasCause-earlier : {T E : Type 0} (old mid new : ℕ) (r : Result T E) → mid ≡ old → HasCause mid new r → HasCause old new r
HasCause-earlier old mid new r still h = subst (λ (n : ℕ). HasCause n new r) still h

-- Items up to this one, this one and the rest.
split_at : {X : Type 0} (xs : List X) (i : ℕ) (d : X) → i < length xs → xs ≡ take i xs ++ (get_or xs i d ∷ drop (i + 1) xs)
split_at xs i d h = sym (ap (λ ys. take i xs ++ ys) (sym (drop_more xs i d h)) ∙ take-append-drop i xs)

-- A front of the text of each: the texts up to an item, and a front of its text.
pub front_of_each : {X : Type 0} (old mid new : Option (List ℕ)) (f : X → List ℕ) (xs : List X) (i : ℕ) (d : X) (text : List ℕ) → i < length xs
    → Appends old mid (flat_map f (take i xs)) → AppendsFront mid new text → text ≡ f (get_or xs i d) → AppendsFront old new (flat_map f xs)
front_of_each old mid new f xs i d text h before front is =
    let rest : List ℕ = flat_map f (drop (i + 1) xs) in
    let whole : (flat_map f (take i xs) ++ text) ++ rest ≡ flat_map f xs =
    append_assoc (flat_map f (take i xs)) text rest
    ∙ (ap (λ ys. flat_map f (take i xs) ++ (ys ++ rest)) is
    ∙ (sym (flat_map-append f (take i xs) (get_or xs i d ∷ drop (i + 1) xs)) ∙ ap (flat_map f) (sym (split_at xs i d h)))) in
    subst (λ (t : List ℕ). AppendsFront old new t) whole
    (AppendsFront-longer old new (flat_map f (take i xs) ++ text) rest (AppendsFront-after old mid new (flat_map f (take i xs)) text before front))

-- What joins two texts that are written one after the other.
pub ruleset writings = (Writes-after, Writes-stopped, Appends-twice, AppendsFront-after, AppendsFront-longer, HasCause-earlier, Rose-earlier)
