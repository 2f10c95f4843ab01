-- What is read as a block spells it.
use Rattle.std.proofs.Common.{◌≡◌, ℕ, zero, suc, ◌+◌, ◌-◌, ◌*◌, ◌/◌, ◌%◌, ◌<◌, ◌≤◌, true, false, ◌&&◌, List, [], ◌∷◌, ◌++◌, length, take, drop, refl, sym, ◌∙◌, ap, subst, arith, append-nil}
use Rattle.std.specs.Prelude.{Some, flat_map, slice_index, ◌==◌, nat_le, if◌then◌else◌}
use Rattle.std.proofs.lemmas.Bool.{eqb-true, leb-true, and_parts, cond_both, false≢true}
use Rattle.std.proofs.lemmas.List.{take-append-drop, length-drop, length-take-le, get_or-drop, drop-drop, drop_more}
use Rattle.std.proofs.Math.ListN.{drop_of_length-le}
use Rattle.std.proofs.lemmas.Option.{cond_some}
use Rattle.uac_descriptor.specs.Layout.{IsWhole, is_type_one}
use Rattle.uac_descriptor.specs.Little.{four, two_at, four_at}
use Rattle.uac_descriptor.specs.Spelling.{spelling}
use Rattle.uac_descriptor.specs.LayoutRows as rows
use Rattle.uac_descriptor.specs.LayoutRows.{row, Row, Spells, HasAllParts, Context, row_in, row_of, rows_of, row_beside}
use Rattle.uac_descriptor.specs.BlockParsing.{AreBytes, has_length, fields, is_whole, block_of, words_in, last_of}
use Rattle.uac_descriptor.specs.Standard.{
  CONFIGURATION,
  INTERFACE,
  ENDPOINT,
  INTERFACE_ASSOCIATION,
  CS_INTERFACE,
  CS_ENDPOINT,
  HEADER,
  INPUT_TERMINAL,
  OUTPUT_TERMINAL,
  MIXER_UNIT,
  SELECTOR_UNIT,
  FEATURE_UNIT,
  EFFECT_UNIT,
  CLOCK_SOURCE,
  CLOCK_SELECTOR,
  CLOCK_MULTIPLIER,
  AS_GENERAL,
  FORMAT_TYPE,
  FORMAT_TYPE_I,
  EP_GENERAL,
}
use Rattle.uac_descriptor.specs.declared.block.Block.{Block}
use Rattle.uac_descriptor.specs.declared.context.Context.TheVariants as context

-- n bytes from place i, one by one
abbrev pub cells : ℕ → ℕ → List ℕ → List ℕ
cells i zero bytes = []
cells i (suc n) bytes = slice_index bytes i ∷ cells (i + 1) n bytes

pub cells-cons : (i n x : ℕ) (xs : List ℕ) → cells (suc i) n (x ∷ xs) ≡ cells i n xs
cells-cons i zero x xs = refl
cells-cons i (suc n) x xs =
    let next : suc i + 1 ≡ suc (i + 1) = omega arith in
    rw next (ap (λ more. slice_index xs i ∷ more) (cells-cons (i + 1) n x xs))

-- a list is its elements, one by one, and what is after them
pub cells-drop : (n : ℕ) (bytes : List ℕ) → n ≤ length bytes → cells 0 n bytes ++ drop n bytes ≡ bytes
cells-drop zero bytes fits = refl
cells-drop (suc n) [] fits = absurd (omega (arith, fits))
cells-drop (suc n) (x ∷ xs) fits =
    rw (cells-cons 0 n x xs) (ap (λ more. x ∷ more) (cells-drop n xs (omega (arith, fits))))

-- a field of two or four bytes is spelt as they are
pub low_of_two : (bytes : List ℕ) → AreBytes bytes → (i : ℕ) → two_at bytes i % 256 ≡ slice_index bytes i
low_of_two bytes are i = let a : slice_index bytes i < 256 = are i in omega (arith, a)

pub high_of_two : (bytes : List ℕ) → AreBytes bytes → (i : ℕ) → two_at bytes i / 256 ≡ slice_index bytes (i + 1)
high_of_two bytes are i = let a : slice_index bytes i < 256 = are i in omega (arith, a)

four_parts : (a b c d : ℕ) → a < 256 → b < 256 → c < 256 →
    let n : ℕ = a + 256 * b + 65536 * c + 16777216 * d in
    (n % 256 ≡ a) × (n / 256 % 256 ≡ b) × (n / 65536 % 256 ≡ c) × (n / 16777216 ≡ d)
four_parts a b c d ha hb hc = (omega (arith, ha, hb, hc), omega (arith, ha, hb, hc), omega (arith, ha, hb, hc), omega (arith, ha, hb, hc))

pub whole_cells : (n : ℕ) (bytes : List ℕ) → length bytes ≡ n → cells 0 n bytes ≡ bytes
whole_cells n bytes counted =
    let nothing : drop n bytes ≡ [] = drop_of_length-le bytes (omega (arith, counted)) in
    sym (append-nil (cells 0 n bytes)) ∙ ap (λ more. cells 0 n bytes ++ more) (sym nothing) ∙ cells-drop n bytes (omega (arith, counted))

-- the four bytes from place i
pub four_cells : (bytes : List ℕ) → AreBytes bytes → (i : ℕ) → four (four_at bytes i) ≡ cells i 4 bytes
four_cells bytes are i =
    let parts : _ = four_parts (slice_index bytes i) (slice_index bytes (i + 1)) (slice_index bytes (i + 2)) (slice_index bytes (i + 3)) (are i) (are (i + 1)) (are (i + 2)) in
    let third : i + 2 ≡ i + 1 + 1 = omega arith in
    let fourth : i + 3 ≡ i + 1 + 1 + 1 = omega arith in
    rw (parts.0, parts.1, parts.2, parts.3, third, fourth) refl

-- the type and the subtype that a row reads
abbrev pub IsHeaded : Row → ℕ → List ℕ → Type 0
IsHeaded rows.configuration kind rest = kind ≡ CONFIGURATION
IsHeaded rows.association kind rest = kind ≡ INTERFACE_ASSOCIATION
IsHeaded rows.interface kind rest = kind ≡ INTERFACE
IsHeaded rows.endpoint kind rest = kind ≡ ENDPOINT
IsHeaded rows.header kind rest = (kind ≡ CS_INTERFACE) × (slice_index rest 0 ≡ HEADER)
IsHeaded rows.input_terminal kind rest = (kind ≡ CS_INTERFACE) × (slice_index rest 0 ≡ INPUT_TERMINAL)
IsHeaded rows.output_terminal kind rest = (kind ≡ CS_INTERFACE) × (slice_index rest 0 ≡ OUTPUT_TERMINAL)
IsHeaded rows.mixer kind rest = (kind ≡ CS_INTERFACE) × (slice_index rest 0 ≡ MIXER_UNIT)
IsHeaded rows.selector kind rest = (kind ≡ CS_INTERFACE) × (slice_index rest 0 ≡ SELECTOR_UNIT)
IsHeaded rows.feature kind rest = (kind ≡ CS_INTERFACE) × (slice_index rest 0 ≡ FEATURE_UNIT)
IsHeaded rows.effect kind rest = (kind ≡ CS_INTERFACE) × (slice_index rest 0 ≡ EFFECT_UNIT)
IsHeaded rows.clock_source kind rest = (kind ≡ CS_INTERFACE) × (slice_index rest 0 ≡ CLOCK_SOURCE)
IsHeaded rows.clock_selector kind rest = (kind ≡ CS_INTERFACE) × (slice_index rest 0 ≡ CLOCK_SELECTOR)
IsHeaded rows.clock_multiplier kind rest = (kind ≡ CS_INTERFACE) × (slice_index rest 0 ≡ CLOCK_MULTIPLIER)
IsHeaded rows.general kind rest = (kind ≡ CS_INTERFACE) × (slice_index rest 0 ≡ AS_GENERAL)
IsHeaded rows.type_one kind rest = (kind ≡ CS_INTERFACE) × (slice_index rest 0 ≡ FORMAT_TYPE) × (slice_index rest 1 ≡ FORMAT_TYPE_I)
IsHeaded rows.extra kind rest = kind ≡ CS_INTERFACE
IsHeaded rows.class_endpoint kind rest = (kind ≡ CS_ENDPOINT) × (slice_index rest 0 ≡ EP_GENERAL)
IsHeaded rows.foreign kind rest = Unit {0}
IsHeaded rows.too_short kind rest = Unit {0}

-- what holds of each row of a table and of the other row holds of the row that is found
abbrev AllRows : (ℕ → Row → Type 0) → List (ℕ × Row) → Type 0
AllRows P [] = Unit {0}
AllRows P (entry ∷ table) = P entry.0 entry.1 × AllRows P table

of_row_beside : (P : ℕ → Row → Type 0) (table : List (ℕ × Row)) (n : ℕ) (other : Row) →
    AllRows P table → P n other → P n (row_beside n table other)
of_row_beside P [] n other all none = none
of_row_beside P (entry ∷ table) n other all none =
    cond_both (n == entry.0) entry.1 (row_beside n table other) (λ r. P n r)
    (λ same. subst (λ m. P m entry.1) (sym (eqb-true n entry.0 same)) all.0)
    (λ _. of_row_beside P table n other all.1 none)

control_headed : (rest : List ℕ) → IsHeaded (rows.control_row rest) CS_INTERFACE rest
control_headed [] = tt
control_headed (subtype ∷ rest) =
    of_row_beside (λ n r. IsHeaded r CS_INTERFACE (n ∷ rest)) rows.control_rows subtype rows.foreign
    ((refl, refl), ((refl, refl), ((refl, refl), ((refl, refl), ((refl, refl), ((refl, refl), ((refl, refl), ((refl, refl), ((refl, refl), ((refl, refl), tt))))))))))
    tt

format_headed : (rest : List ℕ) → IsHeaded (if is_type_one rest then rows.type_one else rows.extra) CS_INTERFACE (FORMAT_TYPE ∷ rest)
format_headed rest =
    cond_both (is_type_one rest) rows.type_one rows.extra (λ r. IsHeaded r CS_INTERFACE (FORMAT_TYPE ∷ rest))
    (λ one. (refl, refl, eqb-true (slice_index rest 0) FORMAT_TYPE_I one)) (λ _. refl)

streaming_headed : (rest : List ℕ) → IsHeaded (rows.streaming_row rest) CS_INTERFACE rest
streaming_headed [] = tt
streaming_headed (subtype ∷ rest) =
    of_row_beside (λ n r. IsHeaded r CS_INTERFACE (n ∷ rest))
    ((AS_GENERAL, rows.general) ∷ (FORMAT_TYPE, (if is_type_one rest then rows.type_one else rows.extra)) ∷ []) subtype rows.extra
    ((refl, refl), (format_headed rest, tt)) refl

class_endpoint_headed : (none : Row) (rest : List ℕ) → IsHeaded none CS_ENDPOINT [] → IsHeaded (rows.class_endpoint_row none rest) CS_ENDPOINT rest
class_endpoint_headed none [] headed = headed
class_endpoint_headed none (subtype ∷ rest) headed =
    of_row_beside (λ n r. IsHeaded r CS_ENDPOINT (n ∷ rest)) ((EP_GENERAL, rows.class_endpoint) ∷ []) subtype rows.foreign
    ((refl, refl), tt) tt

parting_headed : (rest : List ℕ) → AllRows (λ n r. IsHeaded r n rest) rows.parting_rows
parting_headed rest = (refl, (refl, (refl, tt)))

rows_headed : (context : Context) (rest : List ℕ) → AllRows (λ n r. IsHeaded r n rest) (rows_of context rest)
rows_headed context.DeviceFront rest = (refl, (class_endpoint_headed rows.foreign rest tt, parting_headed rest))
rows_headed context.ControlInterface rest =
    (control_headed rest, (refl, (class_endpoint_headed rows.too_short rest tt, parting_headed rest)))
rows_headed context.StreamingInterface rest =
    (streaming_headed rest, (refl, (class_endpoint_headed rows.too_short rest tt, parting_headed rest)))
rows_headed context.ForeignInterface rest = parting_headed rest

-- the row of a block reads its type and its subtype
pub IsHeaded-row_of : (context : Context) (kind : ℕ) (rest : List ℕ) → IsHeaded (row_of context kind rest) kind rest
unfolding row_of
IsHeaded-row_of context kind rest =
    of_row_beside (λ n r. IsHeaded r n rest) (rows_of context rest) kind rows.foreign (rows_headed context rest) tt

-- the parts of a field of four bytes
pub four_at_parts : (bytes : List ℕ) → AreBytes bytes → (i : ℕ) →
    (four_at bytes i % 256 ≡ slice_index bytes i) × (four_at bytes i / 256 % 256 ≡ slice_index bytes (i + 1))
    × (four_at bytes i / 65536 % 256 ≡ slice_index bytes (i + 2)) × (four_at bytes i / 16777216 ≡ slice_index bytes (i + 3))
four_at_parts bytes are i =
    four_parts (slice_index bytes i) (slice_index bytes (i + 1)) (slice_index bytes (i + 2)) (slice_index bytes (i + 3))
    (are i) (are (i + 1)) (are (i + 2))

pub AreBytes-drop : (n : ℕ) (bytes : List ℕ) → AreBytes bytes → AreBytes (drop n bytes)
AreBytes-drop n bytes are i = rw (get_or-drop n bytes i 0) (are (n + i))

-- what a row puts after the type makes the block, if it is what stands there
joined : (size kind k : ℕ) (rest content : List ℕ) → size ≡ length rest + 2 → kind ≡ k → content ≡ rest →
    (length content + 2) ∷ k ∷ content ≡ size ∷ kind ∷ rest
joined size kind k rest content fits same is = rw (is, fits, same) refl

-- the cells after a subtype
subtyped : (s n : ℕ) (rest : List ℕ) → slice_index rest 0 ≡ s → length rest ≡ suc n → s ∷ cells 1 n rest ≡ rest
subtyped s n rest same counted = ap (λ x. x ∷ cells 1 n rest) (sym same) ∙ whole_cells (suc n) rest counted

-- the number of bytes after the type, from the length of the whole block
after_type : (n size kind : ℕ) (rest : List ℕ) → (length (size ∷ kind ∷ rest) == n) ≡ true → length rest + 2 ≡ n
after_type n size kind rest test =
    let e : length (size ∷ kind ∷ rest) ≡ n = eqb-true (length (size ∷ kind ∷ rest)) n test in omega (arith, e)

-- the content of a row with pins
pins_spelt : (s p : ℕ) (rest : List ℕ) → slice_index rest 0 ≡ s → slice_index rest 2 ≡ p → length rest ≡ 5 + p →
    let more : List ℕ = drop 3 rest in
    let following : List ℕ = drop p more in
    s ∷ slice_index rest 1 ∷ length (take p more) ∷ (take p more ++ slice_index following 0 ∷ slice_index following 1 ∷ []) ≡ rest
pins_spelt s p rest same pins counted =
    let more : List ℕ = drop 3 rest in
    let long : length more ≡ 2 + p = omega (arith, length-drop 3 rest, counted) in
    let e1 : length (take p more) ≡ p = length-take-le p more (omega (arith, long)) in
    let e2 : cells 0 2 (drop p more) ≡ drop p more = whole_cells 2 (drop p more) (omega (arith, length-drop p more, long)) in
    let e3 : take p more ++ drop p more ≡ more = take-append-drop p more in
    rw (e1, e2, e3) (ap (λ x. x ∷ slice_index rest 1 ∷ p ∷ more) (sym same)
    ∙ ap (λ x. slice_index rest 0 ∷ slice_index rest 1 ∷ x ∷ more) (sym pins) ∙ cells-drop 3 rest (omega (arith, counted)))

-- the content of a mixer
mixer_spelt : (p n : ℕ) (rest : List ℕ) → AreBytes rest → slice_index rest 0 ≡ MIXER_UNIT → slice_index rest 2 ≡ p →
    length rest ≡ 11 + p + n →
    let following : List ℕ = drop p (drop 3 rest) in
    let tail : List ℕ = drop n (drop 6 following) in
    MIXER_UNIT ∷ slice_index rest 1 ∷ length (take p (drop 3 rest)) ∷ (take p (drop 3 rest) ++ (slice_index following 0
    ∷ four (four_at following 1) ++ slice_index following 5 ∷ (take n (drop 6 following) ++ slice_index tail 0 ∷ slice_index tail 1 ∷ []))) ≡ rest
mixer_spelt p n rest are same pins counted =
    let more : List ℕ = drop 3 rest in
    let following : List ℕ = drop p more in
    let tail : List ℕ = drop n (drop 6 following) in
    let long : length more ≡ 8 + p + n = omega (arith, length-drop 3 rest, counted) in
    let past : length following ≡ 8 + n = omega (arith, length-drop p more, long) in
    let last : length (drop 6 following) ≡ 2 + n = omega (arith, length-drop 6 following, past) in
    let e1 : length (take p more) ≡ p = length-take-le p more (omega (arith, long)) in
    let f : _ = four_at_parts following (AreBytes-drop p more (AreBytes-drop 3 rest are)) 1 in
    let e2 : cells 0 2 tail ≡ tail = whole_cells 2 tail (omega (arith, length-drop n (drop 6 following), last)) in
    let e3 : take n (drop 6 following) ++ tail ≡ drop 6 following = take-append-drop n (drop 6 following) in
    let e4 : cells 0 6 following ++ drop 6 following ≡ following = cells-drop 6 following (omega (arith, past)) in
    let e5 : take p more ++ following ≡ more = take-append-drop p more in
    rw (e1, f.0, f.1, f.2, f.3, e2, e3, e4, e5) (ap (λ x. x ∷ slice_index rest 1 ∷ p ∷ more) (sym same)
    ∙ ap (λ x. slice_index rest 0 ∷ slice_index rest 1 ∷ x ∷ more) (sym pins) ∙ cells-drop 3 rest (omega (arith, counted)))

-- the control words are spelt as they are
words_spelt : (k : ℕ) (bytes : List ℕ) → AreBytes bytes → 4 * k ≤ length bytes →
    flat_map four (words_in k bytes) ++ drop (4 * k) bytes ≡ bytes
words_spelt zero bytes are fits = refl
words_spelt (suc k) bytes are fits =
    let f : _ = four_at_parts bytes are 0 in
    let rest : List ℕ = drop 4 bytes in
    let onward : 4 * suc k ≡ 4 + 4 * k = omega arith in
    let e : flat_map four (words_in k rest) ++ drop (4 * k) rest ≡ rest =
    words_spelt k rest (AreBytes-drop 4 bytes are) (omega (arith, fits, length-drop 4 bytes))
    in
    rw (f.0, f.1, f.2, f.3, onward, ← drop-drop (4 * k) 4 bytes, e) (cells-drop 4 bytes (omega (arith, fits)))

-- as many words as are asked for
pub words_length : (k : ℕ) (bytes : List ℕ) → length (words_in k bytes) ≡ k
words_length zero bytes = refl
words_length (suc k) bytes = ap suc (words_length k (drop 4 bytes))

-- the last byte is what is after all others
last_cell : (i : ℕ) (bytes : List ℕ) → length bytes ≡ i + 1 → last_of bytes ∷ [] ≡ drop i bytes
last_cell i bytes counted =
    let at : length bytes - 1 ≡ i = omega (arith, counted) in
    rw (at, drop_more bytes i 0 (omega (arith, counted)), drop_of_length-le bytes {i = i + 1} (omega (arith, counted))) refl

-- the content of a row with control words: a bytes after the type, then k words, then the name
words_row_spelt : (a k : ℕ) (size kind : ℕ) (rest : List ℕ) → AreBytes rest → length rest ≡ a + 4 * k + 1 →
    cells 0 a rest ++ (flat_map four (words_in k (drop a rest)) ++ last_of (size ∷ kind ∷ rest) ∷ []) ≡ rest
words_row_spelt a k size kind rest are counted =
    let at : length (size ∷ kind ∷ rest) ≡ suc (suc (a + 4 * k)) + 1 = omega (arith, counted) in
    rw (
      last_cell (suc (suc (a + 4 * k))) (size ∷ kind ∷ rest) at,
      ← drop-drop (4 * k) a rest,
      words_spelt k (drop a rest) (AreBytes-drop a rest are) (omega (arith, length-drop a rest, counted)),
    )
    (cells-drop a rest (omega (arith, counted)))

-- what a row makes of bytes of its length is spelt by them
pub spelling-fields : (r : Row) (size kind : ℕ) (rest : List ℕ) → AreBytes rest → size ≡ length rest + 2 →
    has_length r (size ∷ kind ∷ rest) ≡ true → IsHeaded r kind rest → spelling (fields r (size ∷ kind ∷ rest)) ≡ size ∷ kind ∷ rest
unfolding spelling fields has_length
spelling-fields rows.configuration size kind rest are fits long head =
    let n : length rest + 2 ≡ 9 = after_type 9 size kind rest long in
    rw (low_of_two rest are 0, high_of_two rest are 0)
    (joined size kind CONFIGURATION rest (cells 0 7 rest) fits head (whole_cells 7 rest (omega (arith, n))))
spelling-fields rows.association size kind rest are fits long head =
    let n : length rest + 2 ≡ 8 = after_type 8 size kind rest long in
    joined size kind INTERFACE_ASSOCIATION rest (cells 0 6 rest) fits head (whole_cells 6 rest (omega (arith, n)))
spelling-fields rows.interface size kind rest are fits long head =
    let n : length rest + 2 ≡ 9 = after_type 9 size kind rest long in
    joined size kind INTERFACE rest (cells 0 7 rest) fits head (whole_cells 7 rest (omega (arith, n)))
spelling-fields rows.endpoint size kind rest are fits long head =
    let n : length rest + 2 ≡ 7 = after_type 7 size kind rest long in
    rw (low_of_two rest are 2, high_of_two rest are 2)
    (joined size kind ENDPOINT rest (cells 0 5 rest) fits head (whole_cells 5 rest (omega (arith, n))))
spelling-fields rows.header size kind rest are fits long head =
    let n : length rest + 2 ≡ 9 = after_type 9 size kind rest long in
    rw (low_of_two rest are 1, high_of_two rest are 1, low_of_two rest are 4, high_of_two rest are 4)
    (joined size kind CS_INTERFACE rest (HEADER ∷ cells 1 6 rest) fits head.0 (subtyped HEADER 6 rest head.1 (omega (arith, n))))
spelling-fields rows.input_terminal size kind rest are fits long head =
    let n : length rest + 2 ≡ 17 = after_type 17 size kind rest long in
    let f : _ = four_at_parts rest are 7 in
    rw (low_of_two rest are 2, high_of_two rest are 2, f.0, f.1, f.2, f.3, low_of_two rest are 12, high_of_two rest are 12)
    (joined size kind CS_INTERFACE rest (INPUT_TERMINAL ∷ cells 1 14 rest) fits head.0 (subtyped INPUT_TERMINAL 14 rest head.1 (omega (arith, n))))
spelling-fields rows.output_terminal size kind rest are fits long head =
    let n : length rest + 2 ≡ 12 = after_type 12 size kind rest long in
    rw (low_of_two rest are 2, high_of_two rest are 2, low_of_two rest are 7, high_of_two rest are 7)
    (joined size kind CS_INTERFACE rest (OUTPUT_TERMINAL ∷ cells 1 9 rest) fits head.0 (subtyped OUTPUT_TERMINAL 9 rest head.1 (omega (arith, n))))
spelling-fields rows.mixer size kind rest are fits long head =
    let p : ℕ = slice_index rest 2 in
    let n : ℕ = length (size ∷ kind ∷ rest) - 13 - p in
    let fit : 13 + p ≤ length (size ∷ kind ∷ rest) = leb-true (13 + p) (length (size ∷ kind ∷ rest)) long in
    joined size kind CS_INTERFACE rest _ fits head.0 (mixer_spelt p n rest are head.1 refl (omega (arith, fit)))
spelling-fields rows.selector size kind rest are fits long head =
    let n : length rest + 2 ≡ 7 + slice_index rest 2 = after_type (7 + slice_index rest 2) size kind rest long in
    joined size kind CS_INTERFACE rest _ fits head.0 (pins_spelt SELECTOR_UNIT (slice_index rest 2) rest head.1 refl (omega (arith, n)))
spelling-fields rows.feature size kind rest are fits long head =
    let all : ℕ = length (size ∷ kind ∷ rest) in
    let k : ℕ = (all - 6) / 4 in
    let parts : (nat_le 10 all ≡ true) × ((all % 4 == 2) ≡ true) = and_parts (nat_le 10 all) (all % 4 == 2) long in
    let least : 10 ≤ all = leb-true 10 all parts.0 in
    let left : all % 4 ≡ 2 = eqb-true (all % 4) 2 parts.1 in
    let words : List ℕ = flat_map four (words_in k (drop 3 rest)) ++ last_of (size ∷ kind ∷ rest) ∷ [] in
    joined size kind CS_INTERFACE rest (FEATURE_UNIT ∷ (cells 1 2 rest ++ words)) fits head.0
    (ap (λ x. x ∷ (cells 1 2 rest ++ words)) (sym head.1)
    ∙ words_row_spelt 3 k size kind rest are (omega (arith, least, left)))
spelling-fields rows.effect size kind rest are fits long head =
    let all : ℕ = length (size ∷ kind ∷ rest) in
    let k : ℕ = (all - 8) / 4 in
    let parts : (nat_le 12 all ≡ true) × ((all % 4 == 0) ≡ true) = and_parts (nat_le 12 all) (all % 4 == 0) long in
    let least : 12 ≤ all = leb-true 12 all parts.0 in
    let left : all % 4 ≡ 0 = eqb-true (all % 4) 0 parts.1 in
    let words : List ℕ = flat_map four (words_in k (drop 5 rest)) ++ last_of (size ∷ kind ∷ rest) ∷ [] in
    rw (low_of_two rest are 2, high_of_two rest are 2)
    (joined size kind CS_INTERFACE rest (EFFECT_UNIT ∷ (cells 1 4 rest ++ words)) fits head.0
    (ap (λ x. x ∷ (cells 1 4 rest ++ words)) (sym head.1)
    ∙ words_row_spelt 5 k size kind rest are (omega (arith, least, left))))
spelling-fields rows.clock_source size kind rest are fits long head =
    let n : length rest + 2 ≡ 8 = after_type 8 size kind rest long in
    joined size kind CS_INTERFACE rest (CLOCK_SOURCE ∷ cells 1 5 rest) fits head.0 (subtyped CLOCK_SOURCE 5 rest head.1 (omega (arith, n)))
spelling-fields rows.clock_selector size kind rest are fits long head =
    let n : length rest + 2 ≡ 7 + slice_index rest 2 = after_type (7 + slice_index rest 2) size kind rest long in
    joined size kind CS_INTERFACE rest _ fits head.0 (pins_spelt CLOCK_SELECTOR (slice_index rest 2) rest head.1 refl (omega (arith, n)))
spelling-fields rows.clock_multiplier size kind rest are fits long head =
    let n : length rest + 2 ≡ 7 = after_type 7 size kind rest long in
    joined size kind CS_INTERFACE rest (CLOCK_MULTIPLIER ∷ cells 1 4 rest) fits head.0 (subtyped CLOCK_MULTIPLIER 4 rest head.1 (omega (arith, n)))
spelling-fields rows.general size kind rest are fits long head =
    let n : length rest + 2 ≡ 16 = after_type 16 size kind rest long in
    let f : _ = four_at_parts rest are 4 in
    let l : _ = four_at_parts rest are 9 in
    rw (f.0, f.1, f.2, f.3, l.0, l.1, l.2, l.3)
    (joined size kind CS_INTERFACE rest (AS_GENERAL ∷ cells 1 13 rest) fits head.0 (subtyped AS_GENERAL 13 rest head.1 (omega (arith, n))))
spelling-fields rows.type_one size kind rest are fits long head =
    let n : length rest + 2 ≡ 6 = after_type 6 size kind rest long in
    joined size kind CS_INTERFACE rest (FORMAT_TYPE ∷ FORMAT_TYPE_I ∷ cells 2 2 rest) fits head.0
    (ap (λ x. FORMAT_TYPE ∷ x ∷ cells 2 2 rest) (sym head.2) ∙ subtyped FORMAT_TYPE 3 rest head.1 (omega (arith, n)))
spelling-fields rows.extra size kind rest are fits long head =
    let least : 3 ≤ length (size ∷ kind ∷ rest) = leb-true 3 (length (size ∷ kind ∷ rest)) long in
    joined size kind CS_INTERFACE rest (cells 0 1 rest ++ drop 1 rest) fits head (cells-drop 1 rest (omega (arith, least)))
spelling-fields rows.class_endpoint size kind rest are fits long head =
    let n : length rest + 2 ≡ 8 = after_type 8 size kind rest long in
    rw (low_of_two rest are 4, high_of_two rest are 4)
    (joined size kind CS_ENDPOINT rest (EP_GENERAL ∷ cells 1 5 rest) fits head.0 (subtyped EP_GENERAL 5 rest head.1 (omega (arith, n))))
spelling-fields rows.foreign size kind rest are fits long head = refl
spelling-fields rows.too_short size kind rest are fits long head = refl

-- the block that a row makes is of that row
pub row-fields : (r : Row) (bytes : List ℕ) → has_length r bytes ≡ true → row (fields r bytes) ≡ r
unfolding fields has_length
row-fields rows.configuration bytes long = refl
row-fields rows.association bytes long = refl
row-fields rows.interface bytes long = refl
row-fields rows.endpoint bytes long = refl
row-fields rows.header bytes long = refl
row-fields rows.input_terminal bytes long = refl
row-fields rows.output_terminal bytes long = refl
row-fields rows.mixer bytes long = refl
row-fields rows.selector bytes long = refl
row-fields rows.feature bytes long = refl
row-fields rows.effect bytes long = refl
row-fields rows.clock_source bytes long = refl
row-fields rows.clock_selector bytes long = refl
row-fields rows.clock_multiplier bytes long = refl
row-fields rows.general bytes long = refl
row-fields rows.type_one bytes long = refl
row-fields rows.extra bytes long = refl
row-fields rows.class_endpoint bytes long = refl
row-fields rows.foreign bytes long = refl
row-fields rows.too_short bytes long = absurd (false≢true long)

-- it has the parts that its row asks for
pub HasAllParts-fields : (r : Row) (bytes : List ℕ) → IsWhole bytes → has_length r bytes ≡ true → HasAllParts (fields r bytes)
unfolding fields has_length
HasAllParts-fields rows.feature bytes whole long =
    let k : ℕ = (length bytes - 6) / 4 in
    let least : 10 ≤ length bytes = leb-true 10 (length bytes) (and_parts (nat_le 10 (length bytes)) (length bytes % 4 == 2) long).0 in
    rw (words_length k (drop 5 bytes)) (omega (arith, least))
HasAllParts-fields rows.effect bytes whole long =
    let k : ℕ = (length bytes - 8) / 4 in
    let least : 12 ≤ length bytes = leb-true 12 (length bytes) (and_parts (nat_le 12 (length bytes)) (length bytes % 4 == 0) long).0 in
    rw (words_length k (drop 7 bytes)) (omega (arith, least))
HasAllParts-fields rows.foreign bytes whole long = whole
HasAllParts-fields rows.too_short bytes whole long = whole
HasAllParts-fields rows.configuration bytes whole long = tt
HasAllParts-fields rows.association bytes whole long = tt
HasAllParts-fields rows.interface bytes whole long = tt
HasAllParts-fields rows.endpoint bytes whole long = tt
HasAllParts-fields rows.header bytes whole long = tt
HasAllParts-fields rows.input_terminal bytes whole long = tt
HasAllParts-fields rows.output_terminal bytes whole long = tt
HasAllParts-fields rows.mixer bytes whole long = tt
HasAllParts-fields rows.selector bytes whole long = tt
HasAllParts-fields rows.clock_source bytes whole long = tt
HasAllParts-fields rows.clock_selector bytes whole long = tt
HasAllParts-fields rows.clock_multiplier bytes whole long = tt
HasAllParts-fields rows.general bytes whole long = tt
HasAllParts-fields rows.type_one bytes whole long = tt
HasAllParts-fields rows.extra bytes whole long = tt
HasAllParts-fields rows.class_endpoint bytes whole long = tt

-- where a block is read, the bytes are whole and of its row's length, and the block is what the row makes of them
read_parts : (context : Context) (bytes : List ℕ) (b : Block) → block_of context bytes ≡ Some b →
    (is_whole bytes ≡ true) × (has_length (row_in context bytes) bytes ≡ true) × (fields (row_in context bytes) bytes ≡ b)
unfolding block_of
read_parts context bytes b read =
    let r : Row = row_in context bytes in
    let both : ((is_whole bytes && has_length r bytes) ≡ true) × (fields r bytes ≡ b) =
    cond_some (is_whole bytes && has_length r bytes) (fields r bytes) b read
    in
    let tests : (is_whole bytes ≡ true) × (has_length r bytes ≡ true) = and_parts (is_whole bytes) (has_length r bytes) both.0 in
    (tests.0, tests.1, both.1)

-- the test of a whole block
pub IsWhole-is_whole : (bytes : List ℕ) → is_whole bytes ≡ true → IsWhole bytes
unfolding is_whole
IsWhole-is_whole bytes whole =
    let tests : _ = and_parts (nat_le 2 (length bytes)) (slice_index bytes 0 == length bytes) whole in
    (leb-true 2 (length bytes) tests.0, eqb-true (slice_index bytes 0) (length bytes) tests.1)

-- no block is read from fewer than two bytes
short_reads : (context : Context) (bytes : List ℕ) (b : Block) → is_whole bytes ≡ false → block_of context bytes ≡ Some b → ⊥
short_reads context bytes b short read = false≢true (sym short ∙ (read_parts context bytes b read).0)

headed_in : (context : Context) (size kind : ℕ) (rest : List ℕ) → IsHeaded (row_in context (size ∷ kind ∷ rest)) kind rest
unfolding row_in
headed_in context size kind rest = IsHeaded-row_of context kind rest

-- what is read as a block spells it
pub Spells-block_of : (context : Context) (bytes : List ℕ) (b : Block) → AreBytes bytes → block_of context bytes ≡ Some b → Spells context b bytes
unfolding is_whole
Spells-block_of context [] b are read = absurd (short_reads context [] b refl read)
Spells-block_of context (size ∷ []) b are read = absurd (short_reads context (size ∷ []) b refl read)
Spells-block_of context (size ∷ kind ∷ rest) b are read =
    let bytes : List ℕ = size ∷ kind ∷ rest in
    let r : Row = row_in context bytes in
    let parts : (is_whole bytes ≡ true) × (has_length r bytes ≡ true) × (fields r bytes ≡ b) = read_parts context bytes b read in
    let whole : IsWhole bytes = IsWhole-is_whole bytes parts.0 in
    let fits : size ≡ length rest + 2 = omega (arith, whole.1) in
    let head : IsHeaded r kind rest = headed_in context size kind rest in
    let P : Block → Type 0 = λ x. (spelling x ≡ bytes) × (row x ≡ r) × HasAllParts x in
    let facts : P b =
    subst P parts.2 (
      spelling-fields r size kind rest (λ i. are (suc (suc i))) fits parts.1 head,
      row-fields r bytes parts.1,
      HasAllParts-fields r bytes whole parts.1,
    )
    in
    record { spelt = sym facts.0; stands = sym facts.1; complete = facts.2 }
