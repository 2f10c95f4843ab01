-- The lines of the script: those of the descriptor, and those of a group.
use Rattle.std.proofs.Common.{◌≡◌, ℕ, ◌+◌, ◌-◌, ◌<◌, ◌==◌, min, List, [], ◌∷◌, ◌++◌, map, length, take, drop, codes, refl, ap, ◌∙◌, arith, length-drop, add-one, append_assoc}
use Rattle.std.specs.Prelude.{slice_index}
use Rattle.std.specs.List.{range_with_len}
use Rattle.std.proofs.lemmas.List.{take_min}
use Rattle.uac_clock.specs.Nominal.{twelve_rates}
use Rattle.uac_gen.specs.GeneratedDescriptor.{descriptor_of}
use Rattle.uac_gen.specs.Generator.{next_x, draw, deviation_line, feedback_loss_lines, unpacked_lines, rest_line, groups, feed_line, feed_lines, feed_count, lines_after_descriptor, generated_lines}
use Rattle.uac_gen.specs.Left.{from_groups}

-- the next 64 bytes, or all that are left
pub piece : (bytes : List ℕ) (start size : ℕ) → size ≡ min (length bytes - start) 64 → take (start + size - start) (drop start bytes) ≡ take 64 (drop start bytes)
piece bytes start size is =
    let few : start + size - start ≡ min 64 (length (drop start bytes)) = omega (arith, length-drop start bytes) in
    rw (few, take_min 64 (drop start bytes)) refl

-- after the last group is the report
pub report : (count x : ℕ) → count ≡ 0 → from_groups count x ≡ codes "q" ∷ []
unfolding groups
report count x none = ap (λ n. from_groups n x) none

-- a group, and those after it
pub next_group : (following x : ℕ) → (let first = next_x x in let second = next_x first in let third = next_x second in
    from_groups (following + 1) x ≡ deviation_line (draw 2001 first) ∷ (feedback_loss_lines (draw 4 second) ++ (unpacked_lines (draw 2 third == 1) ++ rest_line (draw 4 second) (draw 2 third == 1) ∷ from_groups following third)))
unfolding groups
next_group following x =
    let first = next_x x in
    let second = next_x first in
    let third = next_x second in
    let eights = draw 4 second in
    let lost = draw 2 third == 1 in
    let rest = groups following third in
    ap (λ n. from_groups n x) (add-one following)
    ∙ ap (λ lines. deviation_line (draw 2001 first) ∷ lines)
    (ap (λ lines. lines ++ codes "q" ∷ []) (append_assoc (feedback_loss_lines eights) (unpacked_lines lost ++ rest_line eights lost ∷ []) rest)
    ∙ append_assoc (feedback_loss_lines eights) ((unpacked_lines lost ++ rest_line eights lost ∷ []) ++ rest) (codes "q" ∷ [])
    ∙ ap (λ lines. feedback_loss_lines eights ++ lines)
    (ap (λ lines. lines ++ codes "q" ∷ []) (append_assoc (unpacked_lines lost) (rest_line eights lost ∷ []) rest)
    ∙ append_assoc (unpacked_lines lost) (rest_line eights lost ∷ rest) (codes "q" ∷ [])))

-- the same, by what was drawn: its first line, and what stands after it
pub begun : (count x first second third drawn eights lost : ℕ) (line : List ℕ) (left : List (List ℕ))
    → 0 < count → first ≡ next_x x → second ≡ next_x first → third ≡ next_x second → drawn ≡ draw 2001 first → eights ≡ draw 4 second → lost ≡ draw 2 third
    → line ≡ deviation_line drawn
    → left ≡ feedback_loss_lines eights ++ (unpacked_lines (lost == 1) ++ rest_line eights (lost == 1) ∷ from_groups (count - 1) third)
    → from_groups count x ≡ line ∷ left
begun count x first second third drawn eights lost line left some e1 e2 e3 ed ee el line-is left-is =
    let one : count ≡ count - 1 + 1 = omega arith in
    ap (λ n. from_groups n x) one ∙ rw (left-is, line-is, el, ee, ed, e3, e2, e1) (next_group (count - 1) x)

-- the whole script, by what was drawn in front of it
pub begins : (number first second index more : ℕ) (bytes : List ℕ) → first ≡ next_x number → index ≡ draw 12 first → second ≡ next_x first → more ≡ draw 30 second
    → bytes ≡ descriptor_of (1 + more)
    → map (feed_line bytes) (range_with_len 0 (feed_count bytes - 0)) ++ lines_after_descriptor number (slice_index twelve_rates index) second ≡ generated_lines number
unfolding generated_lines
begins number first second index more bytes e1 ep e2 em eb =
    let all : feed_count bytes - 0 ≡ feed_count bytes = omega arith in
    let following = lines_after_descriptor number (slice_index twelve_rates index) second in
    let drawn : index ≡ draw 12 (next_x number) = ep ∙ ap (draw 12) e1 in
    let moved : second ≡ next_x (next_x number) = e2 ∙ ap next_x e1 in
    let fed : bytes ≡ descriptor_of (1 + draw 30 second) = eb ∙ ap (λ n. descriptor_of (1 + n)) em in
    ap (λ n. map (feed_line bytes) (range_with_len 0 n) ++ following) all
    ∙ ap (λ b. feed_lines b ++ following) fed
    ∙ ap (λ p. feed_lines (descriptor_of (1 + draw 30 second)) ++ lines_after_descriptor number (slice_index twelve_rates p) second) drawn
    ∙ ap (λ x. feed_lines (descriptor_of (1 + draw 30 x)) ++ lines_after_descriptor number (slice_index twelve_rates (draw 12 (next_x number))) x) moved
