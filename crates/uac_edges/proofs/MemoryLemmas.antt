-- What a call of a source in memory moves.
use Rattle.std.proofs.Common.{◌≡◌, ℕ, ◌<◌, ◌≤◌, List, [], ◌++◌, length, take, drop, min, ap, arith, length-append, length-drop}
use Rattle.std.proofs.lemmas.Grind.{common_steps}
use Rattle.std.proofs.lemmas.List.{nil_from_length, length-take}

-- The bytes that were left are those at the front of the buffer and those still left.
consumed : (left after into new : List ℕ) (n : ℕ) → new ≡ take n left ++ drop n into → n ≤ length left → after ≡ drop n left → left ≡ take n new ++ after
consumed left after into new n moved fits rest = grind (arith, common_steps)

-- No byte moves into a buffer only where none is left.
ended : (left after into new : List ℕ) (most n : ℕ) → new ≡ take n left ++ drop n into → n ≡ min most (min (length into) (length left)) → after ≡ drop n left → 0 < most → n ≡ 0 → 0 < length new → after ≡ []
ended left after into new most n moved count rest some none long =
    let size : length new ≡ length (take n left ++ drop n into) = ap length moved in
    let still : length after ≡ length (drop n left) = ap length rest in
    nil_from_length after (omega (arith, length-append (take n left) (drop n into), length-take n left, length-drop n into, length-drop n left))

-- Both, as `take` promises them.
pub consumes_front : (left after into new : List ℕ) (most n : ℕ) → new ≡ take n left ++ drop n into → n ≡ min most (min (length into) (length left)) → after ≡ drop n left → 0 < most → (left ≡ take n new ++ after) × (n ≡ 0 → 0 < length new → after ≡ [])
consumes_front left after into new most n moved count rest some =
    (consumed left after into new n moved (omega arith) rest, ended left after into new most n moved count rest some)
