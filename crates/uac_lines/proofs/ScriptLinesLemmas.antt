-- What stands first in bytes: by where the first newline stands, and when more bytes come.
use Rattle.std.proofs.Common.{◌≡◌, ℕ, zero, suc, ◌+◌, ◌<◌, ◌≤◌, ◌==◌, Bool, true, false, not, cond, ltb, min, List, [], ◌∷◌, ◌++◌, length, take, drop, inl, inr, refl, sym, ap, ◌∙◌, arith, zero-add, length-append}
use Rattle.std.specs.List.{position, position_or_len}
use Rattle.std.proofs.Common.{Some, None}
use Rattle.std.proofs.lemmas.Bool.{lt-ltb, le-ltb, ltb-false, cases_lt}
use Rattle.std.proofs.lemmas.Option.{cond_some}
use Rattle.std.proofs.lemmas.List.{take-take, length-take, length-take-le, take_all, take-append-le, drop-append-le, take_min, take_at}
use Rattle.std.proofs.lemmas.List.Sums.{prefix_len-le-length}
use Rattle.uac_lines.specs.ScriptLines.{Head, head_of, IsDecided, line, long, past, unended, most_of_line}
use Rattle.uac_lines.specs.Looking.{line_end}
use Rattle.uac_lines.proofs.WordsLemmas.{none_then_false}

-- the end is within the bytes
pub line_end_within : (bytes : List ℕ) → line_end bytes ≤ length bytes
line_end_within bytes = prefix_len-le-length (λ b. not (b == 10)) bytes

after_at : (t : Bool) (rest n more : ℕ) → suc n ≤ cond t (1 + rest) 0 → (n ≤ rest → rest ≡ n + more) → cond t (1 + rest) 0 ≡ suc n + more
after_at true rest n more few h = let e : rest ≡ n + more = h (omega arith) in omega arith
after_at false rest n more few h = absurd (omega arith)

-- the end, looked for after bytes that have no newline
pub line_end_following : (bytes : List ℕ) (n : ℕ) → n ≤ line_end bytes → line_end bytes ≡ n + line_end (drop n bytes)
line_end_following bytes zero few = sym (zero-add (line_end bytes))
line_end_following [] (suc n) few = absurd (omega arith)
line_end_following (b ∷ bytes) (suc n) few = after_at (not (b == 10)) (line_end bytes) n (line_end (drop n bytes)) few (line_end_following bytes n)

in_at : (t : Bool) (a b n : ℕ) → a ≡ min n b → cond t (1 + a) 0 ≡ min (suc n) (cond t (1 + b) 0)
in_at true a b n e = omega arith
in_at false a b n e = omega arith

-- the end within the first bytes
pub line_end_in : (n : ℕ) (bytes : List ℕ) → line_end (take n bytes) ≡ min n (line_end bytes)
line_end_in zero bytes = omega arith
line_end_in (suc n) [] = omega arith
line_end_in (suc n) (b ∷ bytes) = in_at (not (b == 10)) (line_end (take n bytes)) (line_end bytes) n (line_end_in n bytes)

-- more bytes move the end no nearer, and leave it where a newline stands
pub line_end_more : (bytes more : List ℕ) → line_end bytes ≤ line_end (bytes ++ more)
line_end_more bytes more =
    let front : line_end (take (length bytes) (bytes ++ more)) ≡ line_end bytes = ap line_end (take_at bytes more (length bytes) refl) in
    omega (arith, line_end_in (length bytes) (bytes ++ more))

pub line_end_kept : (bytes more : List ℕ) → line_end bytes < length bytes → line_end (bytes ++ more) ≡ line_end bytes
line_end_kept bytes more some =
    let front : line_end (take (length bytes) (bytes ++ more)) ≡ line_end bytes = ap line_end (take_at bytes more (length bytes) refl) in
    omega (arith, line_end_in (length bytes) (bytes ++ more))

-- the end is where a search found it, or the length
pub line_end_found : (bytes : List ℕ) (i : ℕ) → position (λ b. b == 10) bytes ≡ Some i → line_end bytes ≡ i
line_end_found bytes i e =
    let parts = cond_some (ltb (position_or_len (λ b. b == 10) bytes) (length bytes)) _ i e in parts.1

pub line_end_missed : (bytes : List ℕ) → position (λ b. b == 10) bytes ≡ None → line_end bytes ≡ length bytes
line_end_missed bytes e =
    let none : length bytes ≤ line_end bytes = ltb-false _ _ (none_then_false (ltb (position_or_len (λ b. b == 10) bytes) (length bytes)) _ e) in
    omega (arith, line_end_within bytes)

-- the bytes that count, however they were cut out
pub counted_is : (bytes : List ℕ) (n spare : ℕ) → n ≡ min (length bytes) spare → take n bytes ≡ take spare bytes
counted_is bytes n spare is =
    let e : n ≡ min spare (length bytes) = omega arith in rw (e, take_min spare bytes) refl

-- a line of more bytes than a line may have
pub head_long : (spare : ℕ) (bytes : List ℕ) (size : ℕ) → size ≡ line_end (take spare bytes) → most_of_line < size → head_of spare bytes ≡ long
unfolding head_of
head_long spare bytes size is many =
    let all : length (take size (take spare bytes)) ≡ size = length-take-le size (take spare bytes) (let w = line_end_within (take spare bytes) in omega arith) in
    rw (← is, all, lt-ltb most_of_line size many) refl

-- a line that counts
pub head_line : (spare : ℕ) (bytes : List ℕ) (size : ℕ) → size ≡ line_end (take spare bytes) → size ≤ most_of_line → size < length (take spare bytes)
    → head_of spare bytes ≡ line (take size bytes) (drop (size + 1) bytes)
unfolding head_of
head_line spare bytes size is few some =
    let all : length (take size (take spare bytes)) ≡ size = length-take-le size (take spare bytes) (omega arith) in
    let fits : size ≤ spare = omega (arith, length-take spare bytes) in
    rw (← is, all, le-ltb most_of_line size few, lt-ltb size (length (take spare bytes)) some, take-take size spare bytes fits) refl

-- a line that goes past the bytes that count
pub head_past : (spare : ℕ) (bytes : List ℕ) (size : ℕ) → size ≡ line_end (take spare bytes) → size ≤ most_of_line → length (take spare bytes) ≤ size → spare < length bytes
    → head_of spare bytes ≡ past
unfolding head_of
head_past spare bytes size is few none more =
    let all : length (take size (take spare bytes)) ≡ size = length-take-le size (take spare bytes) (let w = line_end_within (take spare bytes) in omega arith) in
    rw (← is, all, le-ltb most_of_line size few, le-ltb size (length (take spare bytes)) none, lt-ltb spare (length bytes) more) refl

-- bytes that no newline ends yet
pub head_unended : (spare : ℕ) (bytes : List ℕ) (size : ℕ) → size ≡ line_end (take spare bytes) → size ≤ most_of_line → length (take spare bytes) ≤ size → length bytes ≤ spare
    → head_of spare bytes ≡ unended bytes
unfolding head_of
head_unended spare bytes size is few none within =
    let w : size ≤ length (take spare bytes) = rw is (line_end_within (take spare bytes)) in
    let all : length (take size (take spare bytes)) ≡ size = length-take-le size (take spare bytes) w in
    let whole : take size (take spare bytes) ≡ bytes = take_all size (take spare bytes) none ∙ take_all spare bytes within in
    rw (← is, all, le-ltb most_of_line size few, le-ltb size (length (take spare bytes)) none, le-ltb spare (length bytes) within, whole) refl

-- what is known of bytes by what stands first in them
pub data Cases (spare : ℕ) (bytes : List ℕ) : Type 0 where
  is_long : most_of_line < line_end (take spare bytes) → head_of spare bytes ≡ long → Cases spare bytes
  is_line : line_end (take spare bytes) ≤ most_of_line → line_end (take spare bytes) < length (take spare bytes)
      → head_of spare bytes ≡ line (take (line_end (take spare bytes)) bytes) (drop (line_end (take spare bytes) + 1) bytes) → Cases spare bytes
  is_past : line_end (take spare bytes) ≤ most_of_line → length (take spare bytes) ≤ line_end (take spare bytes) → spare < length bytes
      → head_of spare bytes ≡ past → Cases spare bytes
  is_unended : line_end (take spare bytes) ≤ most_of_line → length (take spare bytes) ≤ line_end (take spare bytes) → length bytes ≤ spare
      → head_of spare bytes ≡ unended bytes → Cases spare bytes

pub cases_of : (spare : ℕ) (bytes : List ℕ) → Cases spare bytes
cases_of spare bytes =
    let size = line_end (take spare bytes) in
    elim (cases_lt most_of_line size) [
      | inl many ↦ is_long many (head_long spare bytes size refl many)
      | inr few ↦ elim (cases_lt size (length (take spare bytes))) [
        | inl some ↦ is_line few some (head_line spare bytes size refl few some)
        | inr none ↦ elim (cases_lt spare (length bytes)) [
          | inl more ↦ is_past few none more (head_past spare bytes size refl few none more)
          | inr within ↦ is_unended few none within (head_unended spare bytes size refl few none within)
        ]
      ]
    ]

-- a line stays that line when more bytes come
pub head_line-more : (spare : ℕ) (bytes more text rest : List ℕ) → head_of spare bytes ≡ line text rest → head_of spare (bytes ++ more) ≡ line text (rest ++ more)
head_line-more spare bytes more text rest h = go (cases_of spare bytes)
  where
    go : Cases spare bytes → head_of spare (bytes ++ more) ≡ line text (rest ++ more)
    go (is_long many e) = cc
    go (is_past few none following e) = cc
    go (is_unended few none within e) = cc
    go (is_line few some e) =
        let size = line_end (take spare bytes) in
        let same : line text rest ≡ line (take size bytes) (drop (size + 1) bytes) = sym h ∙ e in
        let text-is : text ≡ take size bytes = cc in
        let rest-is : rest ≡ drop (size + 1) bytes = cc in
        let there : line_end bytes < length bytes = omega (arith, line_end_in spare bytes, length-take spare bytes) in
        let kept : line_end (bytes ++ more) ≡ line_end bytes = line_end_kept bytes more there in
        let size-is : size ≡ line_end (take spare (bytes ++ more)) = omega (arith, line_end_in spare bytes, line_end_in spare (bytes ++ more)) in
        let still : size < length (take spare (bytes ++ more)) = omega (arith, length-take spare bytes, length-take spare (bytes ++ more), length-append bytes more) in
        let within : size + 1 ≤ length bytes = omega (arith, length-take spare bytes) in
        let front : take size (bytes ++ more) ≡ take size bytes = take-append-le size bytes more (omega arith) in
        let back : drop (size + 1) (bytes ++ more) ≡ drop (size + 1) bytes ++ more = drop-append-le (size + 1) bytes more within in
        let all : head_of spare (bytes ++ more) ≡ line (take size (bytes ++ more)) (drop (size + 1) (bytes ++ more)) = head_line spare (bytes ++ more) size size-is few still in
        cc

-- a line that is too long stays too long
pub head_long-more : (spare : ℕ) (bytes more : List ℕ) → head_of spare bytes ≡ long → head_of spare (bytes ++ more) ≡ long
head_long-more spare bytes more h = go (cases_of spare bytes)
  where
    go : Cases spare bytes → head_of spare (bytes ++ more) ≡ long
    go (is_line few some e) = cc
    go (is_past few none following e) = cc
    go (is_unended few none within e) = cc
    go (is_long many e) =
        head_long spare (bytes ++ more) (line_end (take spare (bytes ++ more))) refl
        (omega (arith, line_end_in spare bytes, line_end_in spare (bytes ++ more), line_end_more bytes more))

-- a line that goes past the bytes that count stays past them
pub head_past-more : (spare : ℕ) (bytes more : List ℕ) → head_of spare bytes ≡ past → head_of spare (bytes ++ more) ≡ past
head_past-more spare bytes more h = go (cases_of spare bytes)
  where
    go : Cases spare bytes → head_of spare (bytes ++ more) ≡ past
    go (is_long many e) = cc
    go (is_line few some e) = cc
    go (is_unended few none within e) = cc
    go (is_past few none following e) =
        let same : take spare (bytes ++ more) ≡ take spare bytes = take-append-le spare bytes more (omega arith) in
        head_past spare (bytes ++ more) (line_end (take spare bytes)) (ap line_end (sym same)) few (rw same none) (omega (arith, length-append bytes more))

-- bytes that no newline ends are all the bytes, and they count
pub head_unended-all : (spare : ℕ) (bytes text : List ℕ) → head_of spare bytes ≡ unended text → (text ≡ bytes) × (length bytes ≤ most_of_line) × (length bytes ≤ spare)
head_unended-all spare bytes text h = go (cases_of spare bytes)
  where
    go : Cases spare bytes → (text ≡ bytes) × (length bytes ≤ most_of_line) × (length bytes ≤ spare)
    go (is_long many e) = absurd (cc)
    go (is_line few some e) = absurd (cc)
    go (is_past few none following e) = absurd (cc)
    go (is_unended few none within e) =
        let same : unended text ≡ unended bytes = sym h ∙ e in
        (cc, omega (arith, length-take spare bytes), within)

-- what bytes tell stays told when more bytes come
pub told_before : (spare : ℕ) (bytes more : List ℕ) → head_of spare (bytes ++ more) ≡ unended (bytes ++ more) → IsDecided (head_of spare bytes) → ⊥
told_before spare bytes more waits known = go (head_of spare bytes) refl known
  where
    go : (head : Head) → head_of spare bytes ≡ head → IsDecided head → ⊥
    go (line text rest) e h = let still = head_line-more spare bytes more text rest e in absurd (cc)
    go long e h = let still = head_long-more spare bytes more e in absurd (cc)
    go past e h = let still = head_past-more spare bytes more e in absurd (cc)
    go (unended text) e h = h
