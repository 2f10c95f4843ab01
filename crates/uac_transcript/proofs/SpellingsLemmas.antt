-- Where a newline stands in the spelling of a line.
use Rattle.std.proofs.Common.{◌≡◌, ◌≢◌, refl, sym, subst, arith, ℕ, zero, suc, ◌+◌, ◌/◌, ◌%◌, ◌<◌, ◌==◌, nat_lt, if◌then◌else◌, cond, Bool, true, false, not, inl, inr, List, [], ◌∷◌, ◌++◌, map, get_or, slice_index, append_assoc, codes, decimal, Option, None, Some, ℤ, pos, negsuc}
use Rattle.std.specs.List.{All, list_all}
use Rattle.std.specs.Fmt.{digit_glyph, digits, digits_onto}
use Rattle.std.specs.Int.{bytes_high_first}
use Rattle.std.specs.Int.Digits.{digits_of, AllBelowBase}
use Rattle.std.proofs.lemmas.Bool.{eqb-false, cases_lt}
use Rattle.std.proofs.lemmas.Int.Digits.{all_below_base_digits_of}
use Rattle.std.proofs.lemmas.List.{get_or_past}
use Rattle.std.proofs.lemmas.List.Elements.{All-nil, All-cons, All-head, All-tail, All-append}
use Rattle.std.proofs.lemmas.List.Sums.{AllPass-from_list_all}
use Rattle.hex.specs.Hex.{encode_lower, encode_with, lower_digits}
use Rattle.uac_edges.specs.Numerals.{natural, numeral}
use Rattle.uac_ring.specs.declared.arrival.Arrival.{Arrival}
use Rattle.uac_ring.specs.declared.arrival.Arrival.TheVariants as arrivals
use Rattle.uac_units.specs.declared.meter.MeterKind.{MeterKind}
use Rattle.uac_units.specs.declared.meter.MeterKind.TheVariants.{Peak, Clipped, Sum}
use Rattle.uac_transcript.specs.Spellings.{HasNoNewline, HasPlainName, IsOneLine}
use Rattle.uac_transcript.specs.Transcript.{Said, spelling_of, arrival_name, hex_or_dash, lost_or_ok, meter_name, number_or_dash, offender_text, samples_text, yes_or_no}
use Rattle.uac_transcript.specs.Transcript.{gave, was_done, transfer_was_stalled, broke, element_has_value, is_unknown, was_set, element_was_stalled, was_broken}
use Rattle.uac_transcript.specs.Transcript.{says_ready, says_microframe, says_out, says_in, says_frame, says_played, says_under, says_over, says_level, says_feedback, says_answer, says_view}
use Rattle.uac_transcript.specs.Transcript.{says_time, says_steady, says_domain, says_out_stream, says_in_stream, says_meter, says_renders, says_misread, says_refused, says_unsound}
use Rattle.uac_transcript.specs.Transcript.{says_no_memory, says_read_fault, says_too_long}

-- ---- bytes of which none is a given one

-- two texts before the first of them
pub same_before : (c : ℕ) (xs ys r s : List ℕ) → All (λ b. b ≢ c) xs → All (λ b. b ≢ c) ys → xs ++ c ∷ r ≡ ys ++ c ∷ s → (xs ≡ ys) × (r ≡ s)
same_before c [] [] r s p q e = (refl, cc)
same_before c [] (y ∷ ys) r s p q e = let head : c ≡ y = cc in absurd (All-head (λ b. b ≢ c) y ys q (sym head))
same_before c (x ∷ xs) [] r s p q e = let head : x ≡ c = cc in absurd (All-head (λ b. b ≢ c) x xs p head)
same_before c (x ∷ xs) (y ∷ ys) r s p q e =
    let head : x ≡ y = cc in
    let tail : xs ++ c ∷ r ≡ ys ++ c ∷ s = cc in
    let both = same_before c xs ys r s (All-tail (λ b. b ≢ c) x xs p) (All-tail (λ b. b ≢ c) y ys q) tail in
    let front : xs ≡ ys = both.0 in
    (cc, both.1)

-- a literal, by looking
no_from_not : (b : Bool) → not b ≡ true → b ≡ false
no_from_not true e = absurd (cc)
no_from_not false e = refl

pub without : (c : ℕ) (xs : List ℕ) → list_all (λ b. not (b == c)) xs ≡ true → All (λ b. b ≢ c) xs
without c xs e k d inside =
    eqb-false (get_or xs k d) c (no_from_not (get_or xs k d == c) (AllPass-from_list_all (λ b. not (b == c)) xs e k d inside))

-- numbers
glyph-without : (c d : ℕ) → c < 48 → digit_glyph false d ≢ c
glyph-without c d low = by (nat_lt d 10)
  where
    by : (b : Bool) → (if b then 48 + d else 87 + d) ≢ c
    by true e = omega arith
    by false e = omega arith

onto-without : (c k n : ℕ) (last : List ℕ) → c < 48 → All (λ b. b ≢ c) last → All (λ b. b ≢ c) (digits_onto k 10 false n last)
onto-without c zero n last low rest = rest
onto-without c (suc k) n last low rest =
    let more = All-cons (λ b. b ≢ c) (digit_glyph false (n % 10)) last (glyph-without c (n % 10) low) rest in
    by (n / 10 == 0) more (onto-without c k (n / 10) (digit_glyph false (n % 10) ∷ last) low more)
  where
    by : (b : Bool) → All (λ m. m ≢ c) (digit_glyph false (n % 10) ∷ last)
        → All (λ m. m ≢ c) (digits_onto k 10 false (n / 10) (digit_glyph false (n % 10) ∷ last))
        → All (λ m. m ≢ c) (if b then digit_glyph false (n % 10) ∷ last else digits_onto k 10 false (n / 10) (digit_glyph false (n % 10) ∷ last))
    by true one more = one
    by false one more = more

pub decimal-without : (c n : ℕ) → c < 48 → All (λ b. b ≢ c) (decimal n)
unfolding digits
decimal-without c n low = onto-without c 64 n [] low (All-nil (λ b. b ≢ c))

number_or_dash-without : (c : ℕ) (o : Option ℕ) → c < 45 → All (λ b. b ≢ c) (number_or_dash o)
number_or_dash-without c None low = All-cons (λ b. b ≢ c) 45 [] (λ e. omega arith) (All-nil (λ b. b ≢ c))
number_or_dash-without c (Some n) low = decimal-without c n (omega arith)

places_within : (ds : List ℕ) → AllBelowBase 10 ds → HasNoNewline (map (λ d. 48 + d) ds)
places_within [] h = All-nil (λ b. b ≢ 10)
places_within (d ∷ ds) h = All-cons (λ b. b ≢ 10) (48 + d) (map (λ d. 48 + d) ds) (λ e. omega arith) (places_within ds h.1)

either_within : (b : Bool) (xs ys : List ℕ) → HasNoNewline xs → HasNoNewline ys → HasNoNewline (cond b xs ys)
either_within true xs ys p q = p
either_within false xs ys p q = q

natural_within : (n : ℕ) → HasNoNewline (natural n)
unfolding natural
natural_within n =
    either_within (n == 0) (codes "0") (map (λ d. 48 + d) (digits_of 10 n)) (without 10 (codes "0") refl)
    (places_within (digits_of 10 n) (all_below_base_digits_of 10 n (omega arith)))

numeral_within : (z : ℤ) → HasNoNewline (numeral z)
unfolding numeral
numeral_within (pos n) = natural_within n
numeral_within (negsuc n) = All-cons (λ b. b ≢ 10) 45 (natural (n + 1)) (λ e. omega arith) (natural_within (n + 1))

samples_within : (zs : List ℤ) → HasNoNewline (samples_text zs)
samples_within [] = All-nil (λ b. b ≢ 10)
samples_within (z ∷ zs) =
    All-append (λ b. b ≢ 10) (codes " " ++ numeral z) (samples_text zs)
    (All-cons (λ b. b ≢ 10) 32 (numeral z) (λ e. omega arith) (numeral_within z)) (samples_within zs)

-- a place past the table has 0
table_within : (n : ℕ) → slice_index lower_digits n ≢ 10
table_within n e = elim (cases_lt n 16) [
  | inl inside ↦ without 10 lower_digits refl n 0 inside e
  | inr past ↦ let none : slice_index lower_digits n ≡ 0 = get_or_past lower_digits n 0 past in absurd (omega arith)
]

hex_within : (bytes : List ℕ) → HasNoNewline (encode_lower bytes)
unfolding encode_with
hex_within [] = All-nil (λ b. b ≢ 10)
hex_within (b ∷ bytes) =
    All-cons (λ b. b ≢ 10) (slice_index lower_digits (b / 16)) (slice_index lower_digits (b % 16) ∷ encode_lower bytes) (table_within (b / 16))
    (All-cons (λ b. b ≢ 10) (slice_index lower_digits (b % 16)) (encode_lower bytes) (table_within (b % 16)) (hex_within bytes))

hex_or_dash_within : (bytes : List ℕ) → HasNoNewline (hex_or_dash bytes)
hex_or_dash_within [] = without 10 (codes "-") refl
hex_or_dash_within (b ∷ bytes) = hex_within (b ∷ bytes)

lost_within : (b : Bool) → HasNoNewline (lost_or_ok b)
lost_within true = without 10 (codes "lost") refl
lost_within false = without 10 (codes "ok") refl

yes_within : (b : Bool) → HasNoNewline (yes_or_no b)
yes_within true = without 10 (codes "yes") refl
yes_within false = without 10 (codes "no") refl

offender_within : (b : Bool) → HasNoNewline (offender_text b)
offender_within true = without 10 (codes " interface ") refl
offender_within false = without 10 (codes " entity ") refl

arrival_within : (a : Arrival) → HasNoNewline (arrival_name a)
arrival_within arrivals.Taken = without 10 (codes "ok") refl
arrival_within arrivals.Lost = without 10 (codes "lost") refl
arrival_within arrivals.Over = without 10 (codes "over") refl

meter_within : (m : MeterKind) → HasNoNewline (meter_name m)
meter_within Peak = without 10 (codes "peak") refl
meter_within Clipped = without 10 (codes "clipped") refl
meter_within Sum = without 10 (codes "sum") refl

-- ---- a line, word by word

also : (xs ys : List ℕ) → HasNoNewline xs → HasNoNewline ys → HasNoNewline (xs ++ ys)
also xs ys p q = All-append (λ b. b ≢ 10) xs ys p q

word : (xs ys : List ℕ) → HasNoNewline xs → list_all (λ b. not (b == 10)) ys ≡ true → HasNoNewline (xs ++ ys)
word xs ys p e = also xs ys p (without 10 ys e)

number : (xs : List ℕ) (n : ℕ) → HasNoNewline xs → HasNoNewline (xs ++ decimal n)
number xs n p = also xs (decimal n) p (decimal-without 10 n (omega arith))

dash : (xs : List ℕ) (o : Option ℕ) → HasNoNewline xs → HasNoNewline (xs ++ number_or_dash o)
dash xs o p = also xs (number_or_dash o) p (number_or_dash-without 10 o (omega arith))

-- and its newline
line_of : (xs : List ℕ) → HasNoNewline xs → IsOneLine (xs ++ codes "\n")
line_of xs p = record { line = xs; ended = refl; within = p }

fixed : (xs : List ℕ) → list_all (λ b. not (b == 10)) xs ≡ true → IsOneLine (xs ++ codes "\n")
fixed xs e = line_of xs (without 10 xs e)

pub spelling-one : (said : Said) → HasPlainName said → IsOneLine (spelling_of said)
unfolding spelling_of HasPlainName
spelling-one (says_ready entities streams domains) h = line_of (codes "ready entities " ++ decimal entities ++ codes " streams " ++ decimal streams ++ codes " domains " ++ decimal domains) (number (codes "ready entities " ++ decimal entities ++ codes " streams " ++ decimal streams ++ codes " domains ") domains (word (codes "ready entities " ++ decimal entities ++ codes " streams " ++ decimal streams) (codes " domains ") (number (codes "ready entities " ++ decimal entities ++ codes " streams ") streams (word (codes "ready entities " ++ decimal entities) (codes " streams ") (number (codes "ready entities ") entities (without 10 (codes "ready entities ") refl)) refl)) refl))
spelling-one (says_microframe n) h = line_of (codes "u " ++ decimal n) (number (codes "u ") n (without 10 (codes "u ") refl))
spelling-one (says_out interface frames arrival) h = line_of (codes "o " ++ decimal interface ++ codes " " ++ decimal frames ++ codes " " ++ arrival_name arrival) (also (codes "o " ++ decimal interface ++ codes " " ++ decimal frames ++ codes " ") (arrival_name arrival) (word (codes "o " ++ decimal interface ++ codes " " ++ decimal frames) (codes " ") (number (codes "o " ++ decimal interface ++ codes " ") frames (word (codes "o " ++ decimal interface) (codes " ") (number (codes "o ") interface (without 10 (codes "o ") refl)) refl)) refl) (arrival_within arrival))
spelling-one (says_in interface frames lost) h = line_of (codes "i " ++ decimal interface ++ codes " " ++ decimal frames ++ codes " " ++ lost_or_ok lost) (also (codes "i " ++ decimal interface ++ codes " " ++ decimal frames ++ codes " ") (lost_or_ok lost) (word (codes "i " ++ decimal interface ++ codes " " ++ decimal frames) (codes " ") (number (codes "i " ++ decimal interface ++ codes " ") frames (word (codes "i " ++ decimal interface) (codes " ") (number (codes "i ") interface (without 10 (codes "i ") refl)) refl)) refl) (lost_within lost))
spelling-one (says_frame interface samples) h = line_of (codes "r " ++ decimal interface ++ samples_text samples) (also (codes "r " ++ decimal interface) (samples_text samples) (number (codes "r ") interface (without 10 (codes "r ") refl)) (samples_within samples))
spelling-one (says_played terminal samples) h = line_of (codes "p " ++ decimal terminal ++ samples_text samples) (also (codes "p " ++ decimal terminal) (samples_text samples) (number (codes "p ") terminal (without 10 (codes "p ") refl)) (samples_within samples))
spelling-one (says_under interface) h = line_of (codes "under " ++ decimal interface) (number (codes "under ") interface (without 10 (codes "under ") refl))
spelling-one (says_over interface) h = line_of (codes "over " ++ decimal interface) (number (codes "over ") interface (without 10 (codes "over ") refl))
spelling-one (says_level interface level target) h = line_of (codes "l " ++ decimal interface ++ codes " " ++ decimal level ++ codes " " ++ number_or_dash target) (dash (codes "l " ++ decimal interface ++ codes " " ++ decimal level ++ codes " ") target (word (codes "l " ++ decimal interface ++ codes " " ++ decimal level) (codes " ") (number (codes "l " ++ decimal interface ++ codes " ") level (word (codes "l " ++ decimal interface) (codes " ") (number (codes "l ") interface (without 10 (codes "l ") refl)) refl)) refl))
spelling-one (says_feedback interface value lost) h = line_of (codes "f " ++ decimal interface ++ codes " " ++ encode_lower (bytes_high_first 4 value) ++ codes " " ++ lost_or_ok lost) (also (codes "f " ++ decimal interface ++ codes " " ++ encode_lower (bytes_high_first 4 value) ++ codes " ") (lost_or_ok lost) (word (codes "f " ++ decimal interface ++ codes " " ++ encode_lower (bytes_high_first 4 value)) (codes " ") (also (codes "f " ++ decimal interface ++ codes " ") (encode_lower (bytes_high_first 4 value)) (word (codes "f " ++ decimal interface) (codes " ") (number (codes "f ") interface (without 10 (codes "f ") refl)) refl) (hex_within (bytes_high_first 4 value))) refl) (lost_within lost))
spelling-one (says_answer (gave bytes)) h = line_of (codes "c bytes " ++ hex_or_dash bytes) (also (codes "c bytes ") (hex_or_dash bytes) (without 10 (codes "c bytes ") refl) (hex_or_dash_within bytes))
spelling-one (says_answer was_done) h = fixed (codes "c done") refl
spelling-one (says_answer (transfer_was_stalled rule)) h = line_of (codes "c stall Q" ++ decimal rule) (number (codes "c stall Q") rule (without 10 (codes "c stall Q") refl))
spelling-one (says_answer broke) h = fixed (codes "c broken") refl
spelling-one (says_view (element_has_value name value)) h = line_of (codes "h " ++ name ++ codes " " ++ numeral value) (also (codes "h " ++ name ++ codes " ") (numeral value) (word (codes "h " ++ name) (codes " ") (also (codes "h ") (name) (without 10 (codes "h ") refl) (h)) refl) (numeral_within value))
spelling-one (says_view (is_unknown name)) h =
    subst IsOneLine (append_assoc (codes "h " ++ name) (codes " unknown") (codes "\n"))
    (line_of (codes "h " ++ name ++ codes " unknown") (word (codes "h " ++ name) (codes " unknown") (also (codes "h ") name (without 10 (codes "h ") refl) h) refl))
spelling-one (says_view was_set) h = fixed (codes "h done") refl
spelling-one (says_view (element_was_stalled rule)) h = line_of (codes "h stall Q" ++ decimal rule) (number (codes "h stall Q") rule (without 10 (codes "h stall Q") refl))
spelling-one (says_view was_broken) h = fixed (codes "h broken") refl
spelling-one (says_time n) h = line_of (codes "time " ++ decimal n) (number (codes "time ") n (without 10 (codes "time ") refl))
spelling-one (says_steady b) h = line_of (codes "steady " ++ yes_or_no b) (also (codes "steady ") (yes_or_no b) (without 10 (codes "steady ") refl) (yes_within b))
spelling-one (says_domain clock rate ticks) h = line_of (codes "domain " ++ decimal clock ++ codes " rate " ++ number_or_dash rate ++ codes " ticks " ++ decimal ticks) (number (codes "domain " ++ decimal clock ++ codes " rate " ++ number_or_dash rate ++ codes " ticks ") ticks (word (codes "domain " ++ decimal clock ++ codes " rate " ++ number_or_dash rate) (codes " ticks ") (dash (codes "domain " ++ decimal clock ++ codes " rate ") rate (word (codes "domain " ++ decimal clock) (codes " rate ") (number (codes "domain ") clock (without 10 (codes "domain ") refl)) refl)) refl))
spelling-one (says_out_stream interface setting level target met) h = line_of (codes "stream " ++ decimal interface ++ codes " out setting " ++ decimal setting ++ codes " level " ++ decimal level ++ codes " target " ++ number_or_dash target ++ codes " under " ++ decimal met.under ++ codes " over " ++ decimal met.over ++ codes " lost " ++ decimal met.lost ++ codes " missed " ++ decimal met.missed) (number (codes "stream " ++ decimal interface ++ codes " out setting " ++ decimal setting ++ codes " level " ++ decimal level ++ codes " target " ++ number_or_dash target ++ codes " under " ++ decimal met.under ++ codes " over " ++ decimal met.over ++ codes " lost " ++ decimal met.lost ++ codes " missed ") met.missed (word (codes "stream " ++ decimal interface ++ codes " out setting " ++ decimal setting ++ codes " level " ++ decimal level ++ codes " target " ++ number_or_dash target ++ codes " under " ++ decimal met.under ++ codes " over " ++ decimal met.over ++ codes " lost " ++ decimal met.lost) (codes " missed ") (number (codes "stream " ++ decimal interface ++ codes " out setting " ++ decimal setting ++ codes " level " ++ decimal level ++ codes " target " ++ number_or_dash target ++ codes " under " ++ decimal met.under ++ codes " over " ++ decimal met.over ++ codes " lost ") met.lost (word (codes "stream " ++ decimal interface ++ codes " out setting " ++ decimal setting ++ codes " level " ++ decimal level ++ codes " target " ++ number_or_dash target ++ codes " under " ++ decimal met.under ++ codes " over " ++ decimal met.over) (codes " lost ") (number (codes "stream " ++ decimal interface ++ codes " out setting " ++ decimal setting ++ codes " level " ++ decimal level ++ codes " target " ++ number_or_dash target ++ codes " under " ++ decimal met.under ++ codes " over ") met.over (word (codes "stream " ++ decimal interface ++ codes " out setting " ++ decimal setting ++ codes " level " ++ decimal level ++ codes " target " ++ number_or_dash target ++ codes " under " ++ decimal met.under) (codes " over ") (number (codes "stream " ++ decimal interface ++ codes " out setting " ++ decimal setting ++ codes " level " ++ decimal level ++ codes " target " ++ number_or_dash target ++ codes " under ") met.under (word (codes "stream " ++ decimal interface ++ codes " out setting " ++ decimal setting ++ codes " level " ++ decimal level ++ codes " target " ++ number_or_dash target) (codes " under ") (dash (codes "stream " ++ decimal interface ++ codes " out setting " ++ decimal setting ++ codes " level " ++ decimal level ++ codes " target ") target (word (codes "stream " ++ decimal interface ++ codes " out setting " ++ decimal setting ++ codes " level " ++ decimal level) (codes " target ") (number (codes "stream " ++ decimal interface ++ codes " out setting " ++ decimal setting ++ codes " level ") level (word (codes "stream " ++ decimal interface ++ codes " out setting " ++ decimal setting) (codes " level ") (number (codes "stream " ++ decimal interface ++ codes " out setting ") setting (word (codes "stream " ++ decimal interface) (codes " out setting ") (number (codes "stream ") interface (without 10 (codes "stream ") refl)) refl)) refl)) refl)) refl)) refl)) refl)) refl))
spelling-one (says_in_stream interface setting level over lost) h = line_of (codes "stream " ++ decimal interface ++ codes " in setting " ++ decimal setting ++ codes " level " ++ decimal level ++ codes " over " ++ decimal over ++ codes " lost " ++ decimal lost) (number (codes "stream " ++ decimal interface ++ codes " in setting " ++ decimal setting ++ codes " level " ++ decimal level ++ codes " over " ++ decimal over ++ codes " lost ") lost (word (codes "stream " ++ decimal interface ++ codes " in setting " ++ decimal setting ++ codes " level " ++ decimal level ++ codes " over " ++ decimal over) (codes " lost ") (number (codes "stream " ++ decimal interface ++ codes " in setting " ++ decimal setting ++ codes " level " ++ decimal level ++ codes " over ") over (word (codes "stream " ++ decimal interface ++ codes " in setting " ++ decimal setting ++ codes " level " ++ decimal level) (codes " over ") (number (codes "stream " ++ decimal interface ++ codes " in setting " ++ decimal setting ++ codes " level ") level (word (codes "stream " ++ decimal interface ++ codes " in setting " ++ decimal setting) (codes " level ") (number (codes "stream " ++ decimal interface ++ codes " in setting ") setting (word (codes "stream " ++ decimal interface) (codes " in setting ") (number (codes "stream ") interface (without 10 (codes "stream ") refl)) refl)) refl)) refl)) refl))
spelling-one (says_meter reading) h = line_of (codes "meter " ++ meter_name reading.kind ++ codes " " ++ decimal reading.value) (number (codes "meter " ++ meter_name reading.kind ++ codes " ") reading.value (word (codes "meter " ++ meter_name reading.kind) (codes " ") (also (codes "meter ") (meter_name reading.kind) (without 10 (codes "meter ") refl) (meter_within reading.kind)) refl))
spelling-one (says_renders n) h = line_of (codes "renders " ++ decimal n) (number (codes "renders ") n (without 10 (codes "renders ") refl))
spelling-one (says_misread rule n) h = line_of (codes "script S" ++ decimal rule ++ codes " line " ++ decimal n) (number (codes "script S" ++ decimal rule ++ codes " line ") n (word (codes "script S" ++ decimal rule) (codes " line ") (number (codes "script S") rule (without 10 (codes "script S") refl)) refl))
spelling-one (says_refused rule place) h = line_of (codes "descriptor G" ++ decimal rule ++ codes " at " ++ decimal place) (number (codes "descriptor G" ++ decimal rule ++ codes " at ") place (word (codes "descriptor G" ++ decimal rule) (codes " at ") (number (codes "descriptor G") rule (without 10 (codes "descriptor G") refl)) refl))
spelling-one (says_unsound rule b offender) h = line_of (codes "descriptor U" ++ decimal rule ++ offender_text b ++ decimal offender) (number (codes "descriptor U" ++ decimal rule ++ offender_text b) offender (also (codes "descriptor U" ++ decimal rule) (offender_text b) (number (codes "descriptor U") rule (without 10 (codes "descriptor U") refl)) (offender_within b)))
spelling-one says_no_memory h = fixed (codes "no memory") refl
spelling-one says_read_fault h = fixed (codes "read fault") refl
spelling-one says_too_long h = fixed (codes "input too long") refl
