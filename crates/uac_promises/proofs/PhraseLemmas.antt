-- What the lines of a generated script say.
use Rattle.std.proofs.Common.{◌≡◌, ◌∙◌, sym, refl, ap, subst, ℕ, zero, suc, ◌+◌, ◌^◌, ◌/◌, ◌%◌, ◌≤◌, ◌<◌, ◌==◌, Bool, true, false, if◌then◌else◌, ℤ, pos, negsuc, List, [], ◌∷◌, ◌++◌, map, length, get_or, codes, decimal, append-nil, Some, Ok, arith, inl, inr}
use Rattle.std.specs.Prelude.{◌-ℤ◌, nat_le, nat_lt, slice_index}
use Rattle.std.specs.List.{All, list_all}
use Rattle.std.specs.Result.{result_ok}
use Rattle.std.specs.Int.{to_le_bytes, w32}
use Rattle.std.specs.Int.Digits.{digits_of, AllBelowBase}
use Rattle.std.proofs.lemmas.Bool.{and_from, and_parts, le-leb, ltb-true, ne_eqb}
use Rattle.std.proofs.lemmas.Int.Digits.{all_below_base_digits_of}
use Rattle.std.proofs.lemmas.List.Elements.{All-cons, All-nil}
use Rattle.std.proofs.lemmas.List.Sums.{AllPass-from_list_all}
use Rattle.std.proofs.lemmas.List.Splits.{slice_split_at, slice_split_none}
use Rattle.hex.specs.Hex.{IsBytes, encode_lower, encode_with, lower_digits}
use Rattle.hex.proofs.HexLemmas.{decode_of-encode_lower}
use Rattle.hex.proofs.OnLiterals.{hex_on_literals}
use Rattle.uac_clock.specs.Nominal.{twelve_rates}
use Rattle.uac_rate.specs.Steadiness.{is_slight}
use Rattle.uac_edges.specs.Numerals.{natural, numeral}
use Rattle.uac_edges.proofs.NumeralsLemmas.{decimal-natural}
use Rattle.uac_script.specs.declared.line.MarkKind.TheVariants.{Out, Feedback}
use Rattle.uac_lines.specs.Words.{hex_of, words_of}
use Rattle.uac_script.specs.Phrase.{PhraseMark, Phrase, noise_tone, bytes_line, go_line, control_line, track_line, deviate_line, microframes_line, report_line, are_marks_in_range, is_in_range}
use Rattle.uac_lines.specs.Ranges.{is_within}
use Rattle.uac_script.specs.Line.{IsRow, mark_word}
use Rattle.uac_script.specs.LineParsing.{answer}
use Rattle.uac_script.proofs.LineParsingLemmas.{says_only}
use Rattle.uac_gen.specs.Generator.{deviation_line, rate_line, run_line, setting_script_line, tone_line}
use Rattle.uac_promises.proofs.ListRangeLemmas.{in_each}

-- ---- words

-- a byte of a word, which is neither a space nor a newline
abbrev pub IsVisible : ℕ → Type 0
IsVisible b = 32 < b

-- what follows from another fact, or from a test, at each byte
pub at_each : (P Q : ℕ → Type 0) (bytes : List ℕ) → ((b : ℕ) → P b → Q b) → All P bytes → All Q bytes
at_each P Q bytes follows all k d below = follows (get_or bytes k d) (all k d below)

pub at_each_passed : (P : ℕ → Type 0) (test : ℕ → Bool) (bytes : List ℕ) → ((b : ℕ) → test b ≡ true → P b) → list_all test bytes ≡ true → All P bytes
at_each_passed P test bytes follows all = at_each (λ b. test b ≡ true) P bytes follows (AllPass-from_list_all test bytes all)

visible : (bytes : List ℕ) → list_all (λ b. nat_lt 32 b) bytes ≡ true → All IsVisible bytes
visible bytes all = at_each_passed IsVisible (λ b. nat_lt 32 b) bytes (λ b passes. ltb-true 32 b passes) all

no_space : (word : List ℕ) → All IsVisible word → All (λ b. (b == 32) ≡ false) word
no_space word all = at_each IsVisible (λ b. (b == 32) ≡ false) word (λ b more. ne_eqb b 32 (λ same. omega arith)) all

-- a word, and a space, and what stands after it
then_words : (word rest : List ℕ) → All IsVisible word → words_of (word ++ 32 ∷ rest) ≡ word ∷ words_of rest
then_words word rest all = slice_split_at (λ b. b == 32) word 32 rest (no_space word all) refl

-- a word alone
one_word : (word : List ℕ) → All IsVisible word → words_of word ≡ word ∷ []
one_word word all = slice_split_none (λ b. b == 32) word (no_space word all)

-- what a row of words says is the answer
answers_row : (text : List ℕ) (phrase : Phrase) → IsRow (words_of text) phrase → is_in_range phrase ≡ true → answer text ≡ Ok phrase
answers_row text phrase row ranged = sym (says_only text (Ok phrase) (inr row, ranged))

-- ---- numerals

digits_visible : (ds : List ℕ) → AllBelowBase 10 ds → All IsVisible (map (λ d. 48 + d) ds)
digits_visible [] below = All-nil IsVisible
digits_visible (d ∷ ds) below = All-cons IsVisible (48 + d) (map (λ d. 48 + d) ds) (omega arith) (digits_visible ds below.1)

natural_visible : (n : ℕ) → All IsVisible (natural n)
unfolding natural
natural_visible n = by (n == 0)
  where
    by : (b : Bool) → All IsVisible (if b then codes "0" else map (λ d. 48 + d) (digits_of 10 n))
    by true = visible (codes "0") refl
    by false = digits_visible (digits_of 10 n) (all_below_base_digits_of 10 n (omega arith))

pub numeral_visible : (z : ℤ) → All IsVisible (numeral z)
unfolding numeral
numeral_visible (pos n) = natural_visible n
numeral_visible (negsuc n) = All-cons IsVisible 45 (natural (n + 1)) (omega arith) (natural_visible (n + 1))

decimal_numeral : (n : ℕ) → n < 2 ^ 32 → decimal n ≡ numeral (pos n)
unfolding numeral
decimal_numeral n below = decimal-natural n (omega arith)

pub decimal_visible : (n : ℕ) → n < 2 ^ 32 → All IsVisible (decimal n)
decimal_visible n below = subst (All IsVisible) (sym (decimal_numeral n below)) (numeral_visible (pos n))

one_is : codes "1" ≡ numeral (pos 1)
unfolding numeral natural
one_is = refl

-- ---- bytes as words of HEX

hex_digit : (k : ℕ) → k < 16 → IsVisible (slice_index lower_digits k)
hex_digit k below = visible lower_digits refl k 0 below

pub hex_visible : (bytes : List ℕ) → IsBytes bytes → All IsVisible (encode_lower bytes)
unfolding encode_with
hex_visible [] are = All-nil IsVisible
hex_visible (b ∷ bytes) are =
    let byte : b < 256 = are 0 in
    All-cons IsVisible (slice_index lower_digits (b / 16)) (slice_index lower_digits (b % 16) ∷ encode_lower bytes) (hex_digit (b / 16) (omega arith))
    (All-cons IsVisible (slice_index lower_digits (b % 16)) (encode_lower bytes) (hex_digit (b % 16) (omega arith)) (hex_visible bytes (λ k. are (suc k))))

hex_is : (bytes : List ℕ) → IsBytes bytes → 0 < length bytes → hex_of (encode_lower bytes) ≡ Some bytes
unfolding encode_with
hex_is [] are some = absurd (omega arith)
hex_is (b ∷ bytes) are some = ap result_ok (decode_of-encode_lower (b ∷ bytes) are)

-- ---- lines

pub feed_said : (bytes : List ℕ) → IsBytes bytes → 0 < length bytes → answer (codes "d " ++ encode_lower bytes) ≡ Ok (bytes_line bytes)
feed_said bytes are some =
    answers_row (codes "d " ++ encode_lower bytes) (bytes_line bytes)
    (encode_lower bytes, then_words (codes "d") (encode_lower bytes) (visible (codes "d") refl) ∙ ap (λ ws. codes "d" ∷ ws) (one_word (encode_lower bytes) (hex_visible bytes are)), hex_is bytes are some)
    refl

pub go_said : answer (codes "g") ≡ Ok go_line
go_said = answers_row (codes "g") go_line refl refl

pub report_said : answer (codes "q") ≡ Ok report_line
report_said = answers_row (codes "q") report_line refl refl

abbrev pub rate_setup : List ℕ
rate_setup = 33 ∷ 1 ∷ 0 ∷ 1 ∷ 0 ∷ 1 ∷ 4 ∷ 0 ∷ []

abbrev pub setting_setup : List ℕ
setting_setup = 1 ∷ 11 ∷ 1 ∷ 0 ∷ 1 ∷ 0 ∷ 0 ∷ 0 ∷ []

rate_said_by : (bytes : List ℕ) → IsBytes bytes → 0 < length bytes
    → answer (codes "c 2101000100010400 " ++ encode_lower bytes) ≡ Ok (control_line rate_setup bytes)
unfolding hex_on_literals
rate_said_by bytes are some =
    let head : List ℕ = codes "2101000100010400" in
    answers_row (codes "c 2101000100010400 " ++ encode_lower bytes) (control_line rate_setup bytes) (
      head,
      refl,
      refl,
      inr (
        encode_lower bytes,
        then_words (codes "c") (head ++ 32 ∷ encode_lower bytes) (visible (codes "c") refl)
            ∙ ap (λ ws. codes "c" ∷ ws) (then_words head (encode_lower bytes) (visible head refl) ∙ ap (λ ws. head ∷ ws) (one_word (encode_lower bytes) (hex_visible bytes are))),
        hex_is bytes are some,
      ),
    )
    refl

pub setting_said : answer setting_script_line ≡ Ok (control_line setting_setup [])
unfolding hex_on_literals
setting_said = answers_row setting_script_line (control_line setting_setup []) (codes "010b010001000000", refl, refl, inl (refl, refl)) refl

pub tone_said : (number : ℕ) → number < 2 ^ 32 → answer (tone_line number) ≡ Ok (track_line (pos 1) (noise_tone (pos number)))
tone_said number below =
    answers_row (tone_line number) (track_line (pos 1) (noise_tone (pos number)))
    (then_words (codes "t") (codes "1 noise " ++ decimal number) (visible (codes "t") refl)
    ∙ ap (λ ws. codes "t" ∷ ws) (then_words (codes "1") (codes "noise " ++ decimal number) (visible (codes "1") refl)
    ∙ ap (λ ws. codes "1" ∷ ws) (then_words (codes "noise") (decimal number) (visible (codes "noise") refl)
    ∙ ap (λ ws. codes "noise" ∷ ws) (one_word (decimal number) (decimal_visible number below))))
    ∙ ap (λ w. codes "t" ∷ w ∷ codes "noise" ∷ decimal number ∷ []) one_is
    ∙ ap (λ w. codes "t" ∷ numeral (pos 1) ∷ codes "noise" ∷ w ∷ []) (decimal_numeral number below))
    (and_from (nat_le 0 number) (nat_le number 4294967295) (le-leb 0 number (omega arith)) (le-leb number 4294967295 (omega arith)))

-- the deviation that was drawn
abbrev pub drawn_off : ℕ → ℤ
drawn_off drawn = pos drawn -ℤ pos 1000

-- it is of a thousandth at most
pub drawn_slight : (drawn : ℕ) → drawn < 2001 → is_slight (drawn_off drawn) ≡ true
drawn_slight drawn below = in_each (λ d. is_slight (drawn_off d)) (λ d. true) 2001 refl drawn below

drawn_in_range : (drawn : ℕ) → drawn < 2001 → is_in_range (deviate_line (pos 1) (drawn_off drawn)) ≡ true
drawn_in_range drawn below = in_each (λ d. is_in_range (deviate_line (pos 1) (drawn_off d))) (λ d. true) 2001 refl drawn below

pub deviation_said : (drawn : ℕ) → drawn < 2001 → answer (deviation_line drawn) ≡ Ok (deviate_line (pos 1) (drawn_off drawn))
deviation_said drawn below =
    let off : List ℕ = numeral (drawn_off drawn) in
    answers_row (deviation_line drawn) (deviate_line (pos 1) (drawn_off drawn))
    (then_words (codes "k") (codes "1 " ++ off) (visible (codes "k") refl)
    ∙ ap (λ ws. codes "k" ∷ ws) (then_words (codes "1") off (visible (codes "1") refl)
    ∙ ap (λ ws. codes "1" ∷ ws) (one_word off (numeral_visible (drawn_off drawn))))
    ∙ ap (λ w. codes "k" ∷ w ∷ off ∷ []) one_is)
    (drawn_in_range drawn below)

-- ---- microframes

abbrev pub no_feedback : PhraseMark
no_feedback = record { kind = Feedback; interface = pos 1 }

abbrev pub no_packet : PhraseMark
no_packet = record { kind = Out; interface = pos 1 }

mark_is : codes "f1" ∷ [] ≡ map mark_word (no_feedback ∷ [])
unfolding numeral natural
mark_is = refl

packet_mark_is : codes "o1" ∷ [] ≡ map mark_word (no_packet ∷ [])
unfolding numeral natural
packet_mark_is = refl

count_in_range : (count : ℕ) → 1 ≤ count → count ≤ 8000 → is_within (pos 1) (pos 8000) (pos count) ≡ true
count_in_range count least most = and_from (nat_le 1 count) (nat_le count 8000) (le-leb 1 count least) (le-leb count 8000 most)

counted : (count : ℕ) → count ≤ 8000 → decimal count ≡ numeral (pos count)
counted count most = decimal_numeral count (omega arith)

run_visible : (count : ℕ) → count ≤ 8000 → All IsVisible (decimal count)
run_visible count most = decimal_visible count (omega arith)

pub unmarked_said : (count : ℕ) → 1 ≤ count → count ≤ 8000 → answer (run_line count []) ≡ Ok (microframes_line (pos count) [])
unmarked_said count least most =
    subst (λ text. answer (codes "m " ++ text) ≡ Ok (microframes_line (pos count) [])) (sym (append-nil (decimal count)))
    (answers_row (codes "m " ++ decimal count) (microframes_line (pos count) [])
    (then_words (codes "m") (decimal count) (visible (codes "m") refl)
    ∙ ap (λ ws. codes "m" ∷ ws) (one_word (decimal count) (run_visible count most))
    ∙ ap (λ w. codes "m" ∷ w ∷ []) (counted count most))
    (and_from (is_within (pos 1) (pos 8000) (pos count)) (are_marks_in_range []) (count_in_range count least most) refl))

marked_words : (count : ℕ) (mark : List ℕ) → count ≤ 8000 → All IsVisible mark
    → words_of (run_line count (32 ∷ mark)) ≡ codes "m" ∷ numeral (pos count) ∷ mark ∷ []
marked_words count mark most marked =
    then_words (codes "m") (decimal count ++ 32 ∷ mark) (visible (codes "m") refl)
    ∙ ap (λ ws. codes "m" ∷ ws) (then_words (decimal count) mark (run_visible count most) ∙ ap (λ ws. decimal count ∷ ws) (one_word mark marked))
    ∙ ap (λ w. codes "m" ∷ w ∷ mark ∷ []) (counted count most)

pub feedback_losses_said : (count : ℕ) → 1 ≤ count → count ≤ 8000 → answer (run_line count (codes " f1")) ≡ Ok (microframes_line (pos count) (no_feedback ∷ []))
feedback_losses_said count least most =
    answers_row (run_line count (codes " f1")) (microframes_line (pos count) (no_feedback ∷ []))
    (marked_words count (codes "f1") most (visible (codes "f1") refl) ∙ ap (λ ws. codes "m" ∷ numeral (pos count) ∷ ws) mark_is)
    (and_from (is_within (pos 1) (pos 8000) (pos count)) (are_marks_in_range (no_feedback ∷ [])) (count_in_range count least most) refl)

pub unpacked_said : (count : ℕ) → 1 ≤ count → count ≤ 8000 → answer (run_line count (codes " o1")) ≡ Ok (microframes_line (pos count) (no_packet ∷ []))
unpacked_said count least most =
    answers_row (run_line count (codes " o1")) (microframes_line (pos count) (no_packet ∷ []))
    (marked_words count (codes "o1") most (visible (codes "o1") refl) ∙ ap (λ ws. codes "m" ∷ numeral (pos count) ∷ ws) packet_mark_is)
    (and_from (is_within (pos 1) (pos 8000) (pos count)) (are_marks_in_range (no_packet ∷ [])) (count_in_range count least most) refl)

-- ---- the rates

abbrev pub rate_bytes : ℕ → List ℕ
rate_bytes index = to_le_bytes w32 (slice_index twelve_rates index)

pub rates_are : (index : ℕ) → index < 12 → list_all (λ b. nat_lt b 256) (rate_bytes index) ≡ true
rates_are index below = in_each (λ index. list_all (λ b. nat_lt b 256) (rate_bytes index)) (λ index. true) 12 refl index below

pub rates_long : (index : ℕ) → index < 12 → length (rate_bytes index) ≡ 4
rates_long index below = in_each (λ index. length (rate_bytes index)) (λ index. 4) 12 refl index below

pub bytes_are : (bytes : List ℕ) → list_all (λ b. nat_lt b 256) bytes ≡ true → IsBytes bytes
bytes_are [] all k = omega arith
bytes_are (b ∷ bytes) all zero = ltb-true b 256 (and_parts (nat_lt b 256) (list_all (λ b. nat_lt b 256) bytes) all).0
bytes_are (b ∷ bytes) all (suc k) = bytes_are bytes (and_parts (nat_lt b 256) (list_all (λ b. nat_lt b 256) bytes) all).1 k

pub rate_said : (index : ℕ) → index < 12 → answer (rate_line (slice_index twelve_rates index)) ≡ Ok (control_line rate_setup (rate_bytes index))
rate_said index below =
    rate_said_by (rate_bytes index) (bytes_are (rate_bytes index) (rates_are index below)) (let size = rates_long index below in omega arith)
