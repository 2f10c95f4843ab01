-- The lines of a script: what stands first in the bytes decides, and more fuel changes nothing.
use Rattle.std.proofs.Common.{◌≡◌, ◌≢◌, ℕ, zero, suc, ◌+◌, ◌-◌, ◌<◌, List, [], ◌∷◌, ◌++◌, length, take, drop, refl, sym, ap, ◌∙◌, arith, add-one, append_assoc}
use Rattle.std.proofs.lemmas.List.{length-take, length-drop}
use Rattle.uac_lines.specs.ScriptLines.{Head, line, long, past, unended, head_of}
use Rattle.uac_lines.specs.Looking.{line_end}
use Rattle.uac_lines.proofs.ScriptLinesLemmas.{Cases, is_long, is_line, is_past, is_unended, cases_of, line_end_within}
use Rattle.uac_runner.specs.Machine.{Machine, Step, done, refused}
use Rattle.uac_ends.specs.Outcome.{End, at_end, read_failed, stopped, at_failed_read, no_more_lines}
use Rattle.uac_runner.specs.Transcript.{Ending, ends, with_lines_first, after_step, ending_at, rest_done, by_head, goes_within, goes}

-- a line and its newline are some of the bytes, and the rest stands after them
pub line_size : (spare : ℕ) (bytes text rest : List ℕ) → head_of spare bytes ≡ line text rest → length text + 1 + length rest ≡ length bytes
line_size spare bytes text rest h = go (cases_of spare bytes)
  where
    go : Cases spare bytes → length text + 1 + length rest ≡ length bytes
    go (is_long many e) = absurd (cc)
    go (is_past few none more e) = absurd (cc)
    go (is_unended few none within e) = absurd (cc)
    go (is_line few some e) =
        let size = line_end (take spare bytes) in
        let same : line text rest ≡ line (take size bytes) (drop (size + 1) bytes) = sym h ∙ e in
        let text-is : text ≡ take size bytes = cc in
        let rest-is : rest ≡ drop (size + 1) bytes = cc in
        let front : length text ≡ length (take size bytes) = ap length text-is in
        let back : length rest ≡ length (drop (size + 1) bytes) = ap length rest-is in
        omega (arith, length-take spare bytes, length-take size bytes, length-drop (size + 1) bytes)

-- no bytes at all are a rest without any
pub head_nothing : (spare : ℕ) → head_of spare [] ≡ unended []
head_nothing spare = go (cases_of spare [])
  where
    go : Cases spare [] → head_of spare [] ≡ unended []
    go (is_long many e) = absurd (omega (arith, line_end_within (take spare []), length-take {A = ℕ} spare []))
    go (is_past few none more e) = absurd (omega arith)
    go (is_unended few none within e) = e
    go (is_line few some e) = absurd (omega (arith, length-take {A = ℕ} spare []))

-- lines and others after them
pub with_lines_first-twice : {W L : Type 0} (a b : List L) (ending : Ending W L) → with_lines_first a (with_lines_first b ending) ≡ with_lines_first (a ++ b) ending
with_lines_first-twice {W} {L} a b ending =
    ap (λ (lines : List L). let e : Ending W L = record { lines = lines; last = ending.last; world = ending.world } in e) (sym (append_assoc a b ending.lines))

pub after_step_same : {W L : Type 0} (s : Step W L) (number : ℕ) (w : W) (go go' : W → Ending W L) → ((next : W) → go next ≡ go' next) → after_step s number w go ≡ after_step s number w go'
after_step_same (done next lines) number w go go' same = ap (with_lines_first lines) (same next)
after_step_same (refused fault) number w go go' same = refl

module _ {W L : Type 0} (m : Machine W L) where
  -- ---- more fuel

  by_head_same : (h : Head) (end : End) (number : ℕ) (w : W) (go go' : List ℕ → List ℕ → W → Ending W L)
      → ((text rest : List ℕ) → h ≡ line text rest → (next : W) → go text rest next ≡ go' text rest next)
      → by_head m h end number w go ≡ by_head m h end number w go'
  by_head_same (line text rest) end number w go go' same = after_step_same (m.step text w) number w (go text rest) (go' text rest) (same text rest refl)
  by_head_same long end number w go go' same = refl
  by_head_same past end number w go go' same = refl
  by_head_same (unended text) end number w go go' same = refl

  goes_within_same : (i n spare : ℕ) (bytes : List ℕ) (end : End) (number : ℕ) (w : W) → length bytes < i → length bytes < n
      → goes_within m i spare bytes end number w ≡ goes_within m n spare bytes end number w
  unfolding goes_within
  goes_within_same zero n spare bytes end number w p q = absurd (omega arith)
  goes_within_same (suc i) zero spare bytes end number w p q = absurd (omega arith)
  goes_within_same (suc i) (suc n) spare bytes end number w p q =
      by_head_same (head_of spare bytes) end number w
      (λ text rest next. goes_within m i (spare - (length text + 1)) rest end (number + 1) next)
      (λ text rest next. goes_within m n (spare - (length text + 1)) rest end (number + 1) next)
      (λ text rest is next. let size = line_size spare bytes text rest is in
      goes_within_same i n (spare - (length text + 1)) rest end (number + 1) next (omega arith) (omega arith))

  -- what goes on after a line
  abbrev go_on : ℕ → End → ℕ → List ℕ → List ℕ → W → Ending W L
  go_on spare end number text rest next = goes m (spare - (length text + 1)) rest end (number + 1) next

  goes_by : (spare : ℕ) (bytes : List ℕ) (end : End) (number : ℕ) (w : W) → goes m spare bytes end number w ≡ by_head m (head_of spare bytes) end number w (go_on spare end number)
  unfolding goes goes_within
  goes_by spare bytes end number w =
      ap (λ (n : ℕ). goes_within m n spare bytes end number w) (add-one (length bytes))
      ∙ by_head_same (head_of spare bytes) end number w
      (λ text rest next. goes_within m (length bytes) (spare - (length text + 1)) rest end (number + 1) next)
      (λ text rest next. goes_within m (length rest + 1) (spare - (length text + 1)) rest end (number + 1) next)
      (λ text rest is next. let size = line_size spare bytes text rest is in
      goes_within_same (length bytes) (length rest + 1) (spare - (length text + 1)) rest end (number + 1) next (omega arith) (omega arith))

  -- ---- what stands first

  pub goes_at : (h : Head) (spare : ℕ) (bytes : List ℕ) (end : End) (number : ℕ) (w : W) → head_of spare bytes ≡ h
      → goes m spare bytes end number w ≡ by_head m h end number w (λ text rest next. goes m (spare - (length text + 1)) rest end (number + 1) next)
  goes_at h spare bytes end number w is = goes_by spare bytes end number w ∙ ap (λ (x : Head). by_head m x end number w (go_on spare end number)) is

  -- a rest that isn't empty is a line at the end
  pub rest_is_done : (rest : List ℕ) (number : ℕ) (w : W) → rest ≢ [] → rest_done m rest at_end number w ≡ after_step (m.step rest w) number w (λ next. ending_at m (number + 1) next)
  rest_is_done [] number w some = absurd (some refl)
  rest_is_done (b ∷ rest) number w some = refl

  pub rest_failed : (rest : List ℕ) (number : ℕ) (w : W) → rest_done m rest read_failed number w ≡ ends at_failed_read w
  rest_failed [] number w = refl
  rest_failed (b ∷ rest) number w = refl

  -- bytes that no newline ends wait for more
  pub waits_for_more : (rest : List ℕ) (number : ℕ) (w : W) → rest_done m rest stopped number w ≡ ends no_more_lines w
  waits_for_more [] number w = refl
  waits_for_more (b ∷ rest) number w = refl
