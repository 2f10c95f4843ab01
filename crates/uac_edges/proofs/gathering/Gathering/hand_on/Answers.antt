use Rattle.std.proofs.Common.{◌≡◌, ℕ, List, [], ◌++◌, Result, Ok, Err, OnOk, length, take, drop, sym, ap, ◌∙◌, le_of_eq, drop_of_length-le, take-append-drop}
use Rattle.std.proofs.KnownBytes.{append_known-moved}
use Rattle.uac_edges.proofs.gathering.Gathering.hand_on.Goals as goal

-- where all was given, nothing is left
none_left : {X E : Type 0} (r : Result X E) (xs left : List ℕ) (n : ℕ) → left ≡ drop n xs → OnOk r (n ≡ length xs) → OnOk r (left ≡ [])
none_left (Ok x) xs left n is all = is ∙ ap (λ k. drop k xs) all ∙ drop_of_length-le xs (le_of_eq (sym all ∙ all))
none_left (Err e) xs left n is all = tt

pub returns-clause-all : goal.returns-clause-all
returns-clause-all g c =
    let n = c.give_front-count.result.0 in
    none_left c.give_front-count.result.1 c.as_slice.result.now _ n (c.remove_front.ensures ∙ ap (drop n) (sym c.as_slice.ensures.value)) c.give_front-count.ensures.all

pub returns-clause-kept : goal.returns-clause-kept
returns-clause-kept g c =
    let n = c.give_front-count.result.0 in
    let held = c.as_slice.result.now in
    let rest = c.remove_front.ensures ∙ ap (drop n) (sym c.as_slice.ensures.value) in
    append_known-moved _ _ _ _ _ c.give_front-count.ensures.given (sym c.as_slice.ensures.value ∙ sym (take-append-drop n held) ∙ ap (λ l. take n held ++ l) (sym rest))
