-- The lines of a generated script are short, have no newline, and are few.
use Rattle.std.proofs.Common.{◌≡◌, ◌∙◌, sym, ap, refl, subst, ℕ, zero, suc, ◌+◌, ◌*◌, ◌-◌, ◌^◌, ◌≤◌, ◌<◌, ◌==◌, Bool, true, false, if◌then◌else◌, List, [], ◌∷◌, ◌++◌, map, length, take, drop, codes, decimal, length-append, arith}
use Rattle.std.specs.Prelude.{nat_le, nat_lt, slice_index}
use Rattle.std.specs.List.{All, AllByRecursion, list_all, range_with_len}
use Rattle.std.proofs.lemmas.Bool.{and_parts, leb-true}
use Rattle.std.proofs.lemmas.Fmt.{length-decimal-le}
use Rattle.std.proofs.lemmas.List.{length-take, take-append-drop}
use Rattle.std.proofs.lemmas.List.Folds.{list_all-append}
use Rattle.std.proofs.lemmas.List.FromFn.{length-map-range_with_len}
use Rattle.std.proofs.lemmas.List.Elements.{All-append}
use Rattle.hex.specs.Hex.{IsBytes, encode_lower, lower_digits}
use Rattle.hex.proofs.HexLemmas.{length-encode_with}
use Rattle.uac_clock.specs.Nominal.{twelve_rates}
use Rattle.uac_edges.specs.Numerals.{natural, numeral}
use Rattle.uac_gen.specs.GeneratedDescriptor.{descriptor_of}
use Rattle.uac_gen.specs.Generator.{lines_after_descriptor, deviation_line, draw, feed_count, feed_line, feed_lines, generated_lines, group_lines, groups, next_x, rate_line, rest_line, run_line, setting_script_line, tone_line, unpacked_lines, feedback_loss_lines}
use Rattle.uac_edges.specs.TextLines.{with_newlines}
use Rattle.uac_promises.proofs.GrammarLemmas.{all_bytes, all_short}
use Rattle.uac_promises.proofs.PhraseLemmas.{IsVisible, at_each, at_each_passed, bytes_are, decimal_visible, hex_visible, rate_bytes, rates_are, rates_long}
use Rattle.uac_promises.proofs.ListRangeLemmas.{in_each}

-- ---- bytes of a line

-- a byte of a line, which is no newline
abbrev pub IsPrinted : ℕ → Type 0
IsPrinted b = 32 ≤ b

printed : (bytes : List ℕ) → list_all (λ b. nat_le 32 b) bytes ≡ true → All IsPrinted bytes
printed bytes all = at_each_passed IsPrinted (λ b. nat_le 32 b) bytes (λ b passes. leb-true 32 b passes) all

word_printed : (word : List ℕ) → All IsVisible word → All IsPrinted word
word_printed word all = at_each IsVisible IsPrinted word (λ b more. omega arith) all

-- a line of at most 160 bytes
pub record IsNarrow (text : List ℕ) : Type 0 where
  pub short : length text ≤ 160
  pub printed : All IsPrinted text

-- bytes in front of a word
narrow : (front word : List ℕ) → list_all (λ b. nat_le 32 b) front ≡ true → All IsVisible word → length front + length word ≤ 160 → IsNarrow (front ++ word)
narrow front word front_printed word_visible size = record {
  short = omega (arith, length-append front word, size);
  printed = All-append IsPrinted front word (printed front front_printed) (word_printed word word_visible);
}

-- ---- pieces of the descriptor

in_both : (test : ℕ → Bool) (n : ℕ) (bytes : List ℕ) → list_all test bytes ≡ true
    → (list_all test (take n bytes) ≡ true) × (list_all test (drop n bytes) ≡ true)
in_both test n bytes all =
    and_parts (list_all test (take n bytes)) (list_all test (drop n bytes))
    (sym (list_all-append test (take n bytes) (drop n bytes)) ∙ ap (list_all test) (take-append-drop n bytes) ∙ all)

pub piece_are : (bytes : List ℕ) (index : ℕ) → list_all (λ b. nat_lt b 256) bytes ≡ true → IsBytes (take 64 (drop (64 * index) bytes))
piece_are bytes index all =
    let rest = in_both (λ b. nat_lt b 256) (64 * index) bytes all in
    bytes_are (take 64 (drop (64 * index) bytes)) (in_both (λ b. nat_lt b 256) 64 (drop (64 * index) bytes) rest.1).0

-- ---- each line

feed_narrow : (bytes : List ℕ) (index : ℕ) → list_all (λ b. nat_lt b 256) bytes ≡ true → IsNarrow (feed_line bytes index)
feed_narrow bytes index all =
    let piece : List ℕ = take 64 (drop (64 * index) bytes) in
    let size : length piece ≤ 64 = omega (arith, length-take 64 (drop (64 * index) bytes)) in
    narrow (codes "d ") (encode_lower piece) refl (hex_visible piece (piece_are bytes index all)) (omega (arith, size, length-encode_with lower_digits piece))

rate_narrow : (index : ℕ) → index < 12 → IsNarrow (rate_line (slice_index twelve_rates index))
rate_narrow index below =
    let bytes : List ℕ = rate_bytes index in
    narrow (codes "c 2101000100010400 ") (encode_lower bytes) refl (hex_visible bytes (bytes_are bytes (rates_are index below)))
    (omega (arith, rates_long index below, length-encode_with lower_digits bytes))

tone_narrow : (number : ℕ) → number < 2 ^ 32 → IsNarrow (tone_line number)
tone_narrow number below =
    narrow (codes "t 1 noise ") (decimal number) refl (decimal_visible number below)
    (omega (arith, length-decimal-le 10 number (omega arith) (omega arith) (omega arith)))

fixed_narrow : (text : List ℕ) → list_all (λ b. nat_le 32 b) text ≡ true → length text ≤ 160 → IsNarrow text
fixed_narrow text is size = record { short = size; printed = printed text is }

-- ---- the lines of a group

deviation_narrow : (drawn : ℕ) → drawn < 2001 → IsNarrow (deviation_line drawn)
unfolding numeral natural
deviation_narrow drawn below = record {
  short = leb-true (length (deviation_line drawn)) 160 (in_each (λ d. nat_le (length (deviation_line d)) 160) (λ d. true) 2001 refl drawn below);
  printed = printed (deviation_line drawn) (in_each (λ d. list_all (λ b. nat_le 32 b) (deviation_line d)) (λ d. true) 2001 refl drawn below);
}

run_narrow : (count : ℕ) (mark : List ℕ) → count ≤ 8000 → list_all (λ b. nat_le 32 b) mark ≡ true → length mark ≤ 10 → IsNarrow (run_line count mark)
run_narrow count mark most is size =
    let digits : length (decimal count) ≤ 10 = length-decimal-le 10 count (omega arith) (omega arith) (omega arith) in
    record {
      short = omega (arith, length-append (decimal count) mark, digits, size);
      printed =
          All-append IsPrinted (codes "m ") (decimal count ++ mark) (printed (codes "m ") refl)
          (All-append IsPrinted (decimal count) mark (word_printed (decimal count) (decimal_visible count (omega arith))) (printed mark is));
    }

-- ---- lines in a row

module _ (P : List ℕ → Type 0) where
  joined : (xs ys : List (List ℕ)) → AllByRecursion P xs → AllByRecursion P ys → AllByRecursion P (xs ++ ys)
  joined [] ys front back = back
  joined (x ∷ xs) ys front back = (front.0, joined xs ys front.1 back)

  mapped : (f : ℕ → List ℕ) → ((n : ℕ) → P (f n)) → (ns : List ℕ) → AllByRecursion P (map f ns)
  mapped f each [] = tt
  mapped f each (n ∷ ns) = (each n, mapped f each ns)

-- so many lines, each narrow
pub record AreFew (most : ℕ) (lines : List (List ℕ)) : Type 0 where
  pub narrow : AllByRecursion IsNarrow lines
  pub few : length lines ≤ most

both : (m n : ℕ) (xs ys : List (List ℕ)) → AreFew m xs → AreFew n ys → AreFew (m + n) (xs ++ ys)
both m n xs ys front back = record {
  narrow = joined IsNarrow xs ys front.narrow back.narrow;
  few = let a = front.few in let b = back.few in omega (arith, length-append xs ys, a, b);
}

one : (text : List ℕ) → IsNarrow text → AreFew 1 (text ∷ [])
one text is = record { narrow = (is, tt); few = omega arith }

feedback_losses_few : (eights : ℕ) → eights < 4 → AreFew 1 (feedback_loss_lines eights)
feedback_losses_few eights below = by (eights == 0)
  where
    by : (b : Bool) → AreFew 1 (if b then [] else run_line (8 * eights) (codes " f1") ∷ [])
    by true = record { narrow = tt; few = omega arith }
    by false = one (run_line (8 * eights) (codes " f1")) (run_narrow (8 * eights) (codes " f1") (omega arith) refl (omega arith))

unpacked_few : (lost : Bool) → AreFew 1 (unpacked_lines lost)
unpacked_few true = one (run_line 1 (codes " o1")) (run_narrow 1 (codes " o1") (omega arith) refl (omega arith))
unpacked_few false = record { narrow = tt; few = omega arith }

rest_few : (eights : ℕ) (lost : Bool) → AreFew 1 (rest_line eights lost ∷ [])
rest_few eights true = one (rest_line eights true) (run_narrow (31 - 8 * eights) [] (omega arith) refl (omega arith))
rest_few eights false = one (rest_line eights false) (run_narrow (32 - 8 * eights) [] (omega arith) refl (omega arith))

group_few : (drawn eights : ℕ) (lost : Bool) → drawn < 2001 → eights < 4 → AreFew 4 (group_lines drawn eights lost)
group_few drawn eights lost drawn_is eights_is =
    both 1 3 (deviation_line drawn ∷ []) (feedback_loss_lines eights ++ (unpacked_lines lost ++ rest_line eights lost ∷ []))
    (one (deviation_line drawn) (deviation_narrow drawn drawn_is))
    (both 1 2 (feedback_loss_lines eights) (unpacked_lines lost ++ rest_line eights lost ∷ []) (feedback_losses_few eights eights_is)
    (both 1 1 (unpacked_lines lost) (rest_line eights lost ∷ []) (unpacked_few lost) (rest_few eights lost)))

groups_few : (count x : ℕ) → AreFew (4 * count) (groups count x)
unfolding groups
groups_few zero x = record { narrow = tt; few = omega arith }
groups_few (suc count) x =
    let first : ℕ = next_x x in
    let second : ℕ = next_x first in
    let third : ℕ = next_x second in
    let same : 4 + 4 * count ≡ 4 * suc count = omega arith in
    subst (λ (n : ℕ). AreFew n (groups (suc count) x)) same
    (both 4 (4 * count) (group_lines (draw 2001 first) (draw 4 second) (draw 2 third == 1)) (groups count third)
    (group_few (draw 2001 first) (draw 4 second) (draw 2 third == 1) (omega arith) (omega arith)) (groups_few count third))

-- ---- the whole script

feeds_few : (d : ℕ) → d < 30 → AreFew 16 (feed_lines (descriptor_of (1 + d)))
feeds_few d below =
    let bytes : List ℕ = descriptor_of (1 + d) in
    record {
      narrow = mapped IsNarrow (feed_line bytes) (λ index. feed_narrow bytes index (all_bytes d below)) (range_with_len 0 (feed_count bytes));
      few = let size = all_short d below in omega (arith, length-map-range_with_len (feed_line bytes) 0 (feed_count bytes), size);
    }

after_few : (number index x : ℕ) → number < 2 ^ 32 → index < 12 → AreFew 1005 (lines_after_descriptor number (slice_index twelve_rates index) x)
after_few number index x below placed =
    both 1 1004 (codes "g" ∷ []) _ (one (codes "g") (fixed_narrow (codes "g") refl (omega arith)))
    (both 1 1003 (rate_line (slice_index twelve_rates index) ∷ []) _ (one _ (rate_narrow index placed))
    (both 1 1002 (setting_script_line ∷ []) _ (one setting_script_line (fixed_narrow setting_script_line refl (omega arith)))
    (both 1 1001 (tone_line number ∷ []) _ (one (tone_line number) (tone_narrow number below))
    (both 1000 1 (groups 250 x) (codes "q" ∷ []) (groups_few 250 x) (one (codes "q") (fixed_narrow (codes "q") refl (omega arith)))))))

pub all_few : (number : ℕ) → number < 2 ^ 32 → AreFew 1021 (generated_lines number)
unfolding generated_lines
all_few number below =
    let first : ℕ = next_x number in
    let second : ℕ = next_x first in
    both 16 1005 (feed_lines (descriptor_of (1 + draw 30 second))) (lines_after_descriptor number (slice_index twelve_rates (draw 12 first)) second)
    (feeds_few (draw 30 second) (omega arith)) (after_few number (draw 12 first) second below (omega arith))

-- its bytes
pub size_of_few : (most : ℕ) (lines : List (List ℕ)) → AreFew most lines → length (with_newlines lines) ≤ 161 * most
size_of_few most lines are = let few = are.few in let all = each lines are.narrow in omega (arith, few, all)
  where
    each : (lines : List (List ℕ)) → AllByRecursion IsNarrow lines → length (with_newlines lines) ≤ 161 * length lines
    each [] narrow = omega arith
    each (text ∷ lines) narrow =
        let here = narrow.0.short in
        let rest = each lines narrow.1 in
        omega (arith, here, rest, length-append (text ++ 10 ∷ []) (with_newlines lines), length-append text (10 ∷ []))
