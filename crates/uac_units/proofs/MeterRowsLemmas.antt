-- Rows heard one after the other show what the frames of their ticks show.
use Rattle.std.proofs.Common.{◌≡◌, ◌∙◌, refl, sym, ap, arith, ℕ, zero, suc, ◌+◌, ◌^◌, ◌<◌, ◌≤◌, max, ℤ, pos, negsuc, List, [], ◌∷◌, ◌++◌, cond, count_by, length, take, get_or, unsigned_abs}
use Rattle.std.specs.List.{fold, sum_by}
use Rattle.std.proofs.lemmas.List.{map-append, take_more}
use Rattle.std.proofs.lemmas.List.Sums.{fold-append, sum_by-append}
use Rattle.uac_units.specs.declared.meter.MeterKind.{MeterKind}
use Rattle.uac_units.specs.declared.meter.MeterKind.TheVariants.{Peak, Clipped, Sum}
use Rattle.uac_units.specs.Hearing.{Reading, after_hearing, value_after_hearing, is_clipped, peak_of}
use Rattle.uac_units.specs.SampleRows.{HaveTicks, after_hearing_all, frame_at, frames_of, sample_at}
use Rattle.uac_units.proofs.HearingLemmas.{after_hearing-commutes}
use Rattle.uac_units.proofs.SampleRowsLemmas.{heard_more, shows}

-- ---- one frame

-- the greatest sample, where something is heard already
peak_from : (before : ℕ) (xs : List ℤ) → fold (λ peak sample. max peak (unsigned_abs sample)) before xs ≡ max before (peak_of xs)
peak_from before [] = omega arith
peak_from before (x ∷ xs) =
    let all = peak_from (max before (unsigned_abs x)) xs in
    let own = peak_from (max 0 (unsigned_abs x)) xs in
    omega (arith, all, own)

peak_of-append : (front back : List ℤ) → peak_of (front ++ back) ≡ max (peak_of front) (peak_of back)
peak_of-append front back = fold-append (λ peak sample. max peak (unsigned_abs sample)) 0 front back ∙ peak_from (peak_of front) back

-- a frame in two parts
value-of_parts : (kind : MeterKind) (value : ℕ) (front back : List ℤ)
    → value_after_hearing kind value (front ++ back) ≡ value_after_hearing kind (value_after_hearing kind value front) back
value-of_parts Peak value front back = omega (arith, peak_of-append front back)
value-of_parts Clipped value front back = omega (arith, sum_by-append (λ sample. cond (is_clipped sample) 1 0) front back)
value-of_parts Sum value front back = omega (arith, sum_by-append unsigned_abs front back)

-- a frame of no samples
pub value-of_none : (kind : MeterKind) (value : ℕ) → value < 2 ^ 64 → value_after_hearing kind value [] ≡ value
value-of_none Peak value fits = omega (arith, fits)
value-of_none Clipped value fits = omega (arith, fits)
value-of_none Sum value fits = omega (arith, fits)

heard-parts : (front back : List ℤ) (reading : Reading) → after_hearing (front ++ back) reading ≡ after_hearing back (after_hearing front reading)
unfolding after_hearing
heard-parts front back reading =
    ap (λ (v : ℕ). record { kind = reading.kind; value = v }) (value-of_parts reading.kind reading.value front back)

heard-none : (reading : Reading) → reading.value < 2 ^ 64 → after_hearing [] reading ≡ reading
unfolding after_hearing
heard-none reading fits = ap (λ (v : ℕ). record { kind = reading.kind; value = v }) (value-of_none reading.kind reading.value fits)

-- ---- zeros

all_silent : (x : ℤ) (xs : List ℤ) → peak_of (x ∷ xs) ≡ 0 → (unsigned_abs x ≡ 0) × (peak_of xs ≡ 0)
all_silent x xs silent =
    let all = peak_from (max 0 (unsigned_abs x)) xs in
    (omega (arith, all, silent), omega (arith, all, silent))

pub none_clipped : (xs : List ℤ) → peak_of xs ≡ 0 → count_by is_clipped xs ≡ 0
none_clipped [] silent = refl
none_clipped (pos zero ∷ xs) silent = none_clipped xs (all_silent (pos zero) xs silent).1
none_clipped (pos (suc n) ∷ xs) silent = absurd (omega (arith, (all_silent (pos (suc n)) xs silent).0))
none_clipped (negsuc n ∷ xs) silent = absurd (omega (arith, (all_silent (negsuc n) xs silent).0))

pub nothing_added : (xs : List ℤ) → peak_of xs ≡ 0 → sum_by unsigned_abs xs ≡ 0
nothing_added [] silent = refl
nothing_added (pos zero ∷ xs) silent = nothing_added xs (all_silent (pos zero) xs silent).1
nothing_added (pos (suc n) ∷ xs) silent = absurd (omega (arith, (all_silent (pos (suc n)) xs silent).0))
nothing_added (negsuc n ∷ xs) silent = absurd (omega (arith, (all_silent (negsuc n) xs silent).0))

-- ---- all frames of some ticks

-- no rows
heard-no_rows : (ticks : ℕ) (reading : Reading) → reading.value < 2 ^ 64 → after_hearing_all (frames_of ticks []) reading ≡ reading
heard-no_rows zero reading fits = refl
heard-no_rows (suc ticks) reading fits =
    let on : suc ticks ≡ ticks + 1 = omega arith in
    ap (λ (n : ℕ). after_hearing_all (frames_of n []) reading) on
    ∙ heard_more ticks [] reading
    ∙ ap (after_hearing []) (heard-no_rows ticks reading fits)
    ∙ heard-none reading fits

-- one row more is heard as one frame of all its samples
heard-row : (ticks : ℕ) (rows : List (List ℤ)) (row : List ℤ) (reading : Reading) → ticks ≤ length row → reading.value < 2 ^ 64
    → after_hearing_all (frames_of ticks (rows ++ row ∷ [])) reading ≡ after_hearing (take ticks row) (after_hearing_all (frames_of ticks rows) reading)
heard-row zero rows row reading inside fits = sym (heard-none reading fits)
heard-row (suc ticks) rows row reading inside fits =
    let on : suc ticks ≡ ticks + 1 = omega arith in
    let more = rows ++ row ∷ [] in
    let frame = frame_at ticks rows in
    let front = take ticks row in
    let last = sample_at ticks row ∷ [] in
    let before = after_hearing_all (frames_of ticks rows) reading in
    ap (λ (n : ℕ). after_hearing_all (frames_of n more) reading) on
    ∙ heard_more ticks more reading
    ∙ ap (after_hearing (frame_at ticks more)) (heard-row ticks rows row reading (omega (arith, inside)) fits)
    ∙ ap (λ (xs : List ℤ). after_hearing xs (after_hearing front before)) (map-append (sample_at ticks) rows (row ∷ []))
    ∙ heard-parts frame last (after_hearing front before)
    ∙ ap (after_hearing last) (after_hearing-commutes frame front before)
    ∙ sym (heard-parts front last (after_hearing frame before))
    ∙ ap (λ (xs : List ℤ). after_hearing xs (after_hearing frame before)) (sym (take_more row ticks (pos 0) (omega (arith, inside))))
    ∙ ap (after_hearing (take (ticks + 1) row)) (sym (heard_more ticks rows reading))
    ∙ ap (λ (n : ℕ). after_hearing (take n row) (after_hearing_all (frames_of n rows) reading)) (sym on)

-- ---- the loop over rows

pub hears_no_row : (kind : MeterKind) (ticks : ℕ) (before : ℕ) → before < 2 ^ 64
    → shows kind before ≡ after_hearing_all (frames_of ticks []) (shows kind before)
hears_no_row kind ticks before fits = sym (heard-no_rows ticks (shows kind before) fits)

pub hears_row : (kind : MeterKind) (ticks : ℕ) (rows : List (List ℤ)) (channel : ℕ) (row : List ℤ) (value before more : ℕ)
    → HaveTicks ticks rows → channel < length rows → row ≡ get_or rows channel row → before < 2 ^ 64
    → shows kind value ≡ after_hearing_all (frames_of ticks (take channel rows)) (shows kind before)
    → more ≡ value_after_hearing kind value (take ticks row)
    → shows kind more ≡ after_hearing_all (frames_of ticks (take (channel + 1) rows)) (shows kind before)
unfolding after_hearing
hears_row kind ticks rows channel row value before more have below is fits heard e =
    let here = get_or rows channel row in
    ap (shows kind) e
    ∙ ap (after_hearing (take ticks row)) heard
    ∙ ap (λ (r : List ℤ). after_hearing (take ticks r) (after_hearing_all (frames_of ticks (take channel rows)) (shows kind before))) is
    ∙ sym (heard-row ticks (take channel rows) here (shows kind before) (have channel row below) fits)
    ∙ ap (λ (front : List (List ℤ)). after_hearing_all (frames_of ticks front) (shows kind before)) (sym (take_more rows channel row below))
