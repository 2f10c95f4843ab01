-- Bytes that a reader or a writer tells, over calls that leave them as they were.
use Rattle.std.proofs.Common.{◌≡◌, ℕ, ◌-◌, ◌≤◌, List, ◌++◌, length, take, Option, None, Some, Result, Ok, Err, refl, ap, sym, ◌∙◌, arith, length-append}
use Rattle.std.proofs.lemmas.List.{append-nil, take_all, take_at, length-take-le}
use Rattle.std.specs.Io.KnownBytes.{Keeps, Appends, Consumes, ReadConsumes, WriteAppends}
use Rattle.uac_edges.specs.StdEdges.{without_last}

pub Keeps-Keeps : (a b c : Option (List ℕ)) → Keeps a b → Keeps b c → Keeps a c
Keeps-Keeps None b c p q = tt
Keeps-Keeps (Some xs) None c p q = absurd p
Keeps-Keeps (Some xs) (Some ys) None p q = absurd q
Keeps-Keeps (Some xs) (Some ys) (Some zs) p q = q ∙ p

Consumes-following : (a b c : Option (List ℕ)) (bs : List ℕ) → Keeps a b → Consumes b c bs → Consumes a c bs
Consumes-following None b c bs p q = tt
Consumes-following (Some xs) None c bs p q = absurd p
Consumes-following (Some xs) (Some ys) None bs p q = absurd q
Consumes-following (Some xs) (Some ys) (Some zs) bs p q = sym p ∙ q

Appends-following : (a b c : Option (List ℕ)) (bs : List ℕ) → Keeps a b → Appends b c bs → Appends a c bs
Appends-following None b c bs p q = tt
Appends-following (Some xs) None c bs p q = absurd p
Appends-following (Some xs) (Some ys) None bs p q = absurd q
Appends-following (Some xs) (Some ys) (Some zs) bs p q = q ∙ ap (λ l. l ++ bs) p

-- a read after calls that kept the bytes
pub ReadConsumes-following : {E : Type 0} (a b c : Option (List ℕ)) (r : Result ℕ E) (into : List ℕ) → Keeps a b → ReadConsumes b c r into → ReadConsumes a c r into
ReadConsumes-following a b c (Ok n) into p q = (Consumes-following a b c (take n into) p q.0, q.1)
ReadConsumes-following a b c (Err e) into p q = Keeps-Keeps a b c p q

-- a write after calls that kept the bytes
pub WriteAppends-following : {E : Type 0} (a b c : Option (List ℕ)) (r : Result ℕ E) (piece : List ℕ) → Keeps a b → WriteAppends b c r piece → WriteAppends a c r piece
WriteAppends-following a b c (Ok n) piece p q = Appends-following a b c (take n piece) p q
WriteAppends-following a b c (Err e) piece p q = Keeps-Keeps a b c p q

-- a write that took nothing kept the bytes
pub Keeps-nothing : (a b : Option (List ℕ)) (n : ℕ) (piece : List ℕ) → n ≡ 0 → Appends a b (take n piece) → Keeps a b
Keeps-nothing None b n piece none q = tt
Keeps-nothing (Some xs) None n piece none q = absurd q
Keeps-nothing (Some xs) (Some ys) n piece none q = q ∙ ap (λ m. xs ++ take m piece) none ∙ append-nil xs

Appends-kept : (a b c : Option (List ℕ)) (bs : List ℕ) → Appends a b bs → Keeps b c → Appends a c bs
Appends-kept None b c bs p q = tt
Appends-kept (Some xs) None c bs p q = absurd p
Appends-kept (Some xs) (Some ys) None bs p q = absurd q
Appends-kept (Some xs) (Some ys) (Some zs) bs p q = q ∙ p

-- ---- what a sink over a writer tells, where nothing is unflushed

told : (known : Option (List ℕ)) (unflushed : ℕ) → unflushed ≡ 0 → without_last unflushed known ≡ known
told None unflushed none = refl
told (Some xs) unflushed none = ap (λ ys. Some ys) (take_all (length xs - unflushed) xs (omega arith))

-- nothing was done
pub Keeps-same : (a : Option (List ℕ)) → Keeps a a
Keeps-same None = tt
Keeps-same (Some xs) = refl

-- the write failed
pub Keeps-told : (a b : Option (List ℕ)) (unflushed : ℕ) → unflushed ≡ 0 → Keeps a b → Keeps (without_last unflushed a) (without_last unflushed b)
Keeps-told a b unflushed none p = rw (told a unflushed none, told b unflushed none) p

-- the write and the flush were done
pub Appends-flushed : (a b c : Option (List ℕ)) (bs : List ℕ) (unflushed : ℕ) → unflushed ≡ 0 → Appends a b bs → Keeps b c
    → Appends (without_last unflushed a) (without_last unflushed c) bs
Appends-flushed a b c bs unflushed none p q = rw (told a unflushed none, told c unflushed none) (Appends-kept a b c bs p q)

-- the write was done, and the flush failed
held_back : (xs ys piece : List ℕ) (n : ℕ) → n ≤ length piece → ys ≡ xs ++ take n piece → take (length ys - n) ys ≡ xs
held_back xs ys piece n fits grown =
    let size : length (take n piece) ≡ n = length-take-le n piece fits in
    let all : length ys ≡ length (xs ++ take n piece) = ap length grown in
    let front : length ys - n ≡ length xs = omega (arith, length-append xs (take n piece)) in
    ap (λ k. take k ys) front ∙ ap (take (length xs)) grown ∙ take_at xs (take n piece) (length xs) refl

pub Keeps-unflushed : (a b c : Option (List ℕ)) (piece : List ℕ) (n unflushed : ℕ) → unflushed ≡ 0 → n ≤ length piece → Appends a b (take n piece) → Keeps b c
    → Keeps (without_last unflushed a) (without_last n c)
Keeps-unflushed None b c piece n unflushed none fits p q = tt
Keeps-unflushed (Some xs) None c piece n unflushed none fits p q = absurd p
Keeps-unflushed (Some xs) (Some ys) None piece n unflushed none fits p q = absurd q
Keeps-unflushed (Some xs) (Some ys) (Some zs) piece n unflushed none fits p q =
    held_back xs zs piece n fits (q ∙ p) ∙ sym (take_all (length xs - unflushed) xs (omega arith))

pub ruleset keeping = (Keeps-Keeps, Keeps-same, ReadConsumes-following, WriteAppends-following, Keeps-nothing, Keeps-told, Appends-flushed, Keeps-unflushed)
