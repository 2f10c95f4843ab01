-- Lines in a row: what is steady after them was so before each, and each keeps the device in its bands.
use Rattle.std.proofs.Common.{◌≡◌, refl, ℕ, true, List, [], ◌∷◌, map, rules, Result, Ok, Err}
use Rattle.uac_descriptor.specs.BlockParsing.{AreBytes}
use Rattle.uac_script.specs.Phrase.{Phrase, bytes_line}
use Rattle.uac_script.specs.LineParsing.{answer}
use Rattle.uac_rows.specs.BusWorld.{Step, BusWorld, describing, done, refused, running, start, step, step_describing}
use Rattle.uac_rows.specs.After.{After, after, and_then, said_step}
use Rattle.uac_promises.specs.Scripts.{IsInBand, IsWithinBands, SteadyScriptsKeepBands, is_steady_in}
use Rattle.uac_promises.proofs.ScriptsEarlierLemmas.{WasSteady, describing_looks_back, running_looks_back}
use Rattle.uac_promises.proofs.ScriptsLineLemmas.{AreQuiet, IsGood, KeepsGood, none_quiet, running_keeps, with_more}
use Rattle.uac_promises.proofs.ScriptsStartLemmas.{describing_keeps, feeds_bytes}

-- ---- one line

pub step_looks_back : (phrase : Phrase) (w : BusWorld) → WasSteady w (step phrase w)
unfolding step
step_looks_back phrase (describing bytes meters) = describing_looks_back bytes meters (step_describing bytes meters phrase)
step_looks_back phrase (running r) = running_looks_back r phrase

pub said_looks_back : (said : Result Phrase ℕ) (w : BusWorld) → WasSteady w (said_step said w)
said_looks_back (Ok phrase) w = step_looks_back phrase w
said_looks_back (Err rule) w = tt

step_keeps : (phrase : Phrase) (w : BusWorld) → IsGood w → ((more : List ℕ) → phrase ≡ bytes_line more → AreBytes more) → KeepsGood (step phrase w)
unfolding step
step_keeps phrase (describing bytes meters) good feed = describing_keeps bytes meters phrase good feed
step_keeps phrase (running r) good feed = running_keeps r good.0 good.1 phrase

said_keeps : (text : List ℕ) (w : BusWorld) → IsGood w → KeepsGood (said_step (answer text) w)
said_keeps text w good = by (answer text) refl
  where
    by : (said : Result Phrase ℕ) → answer text ≡ said → KeepsGood (said_step said w)
    by (Ok phrase) is = step_keeps phrase w good (λ more same. feeds_bytes text more (let all : answer text ≡ Ok (bytes_line more) = cc in all))
    by (Err rule) is = tt

-- ---- lines in a row

pub lines_look_back : (saids : List (Result Phrase ℕ)) (w : BusWorld) → is_steady_in (after saids w).world ≡ true → is_steady_in w ≡ true
unfolding after
lines_look_back [] w h = h
lines_look_back (said ∷ saids) w h = by (said_step said w) (said_looks_back said w) (lines_look_back saids) h
  where
    by : (s : Step) → WasSteady w s → ((next : BusWorld) → is_steady_in (after saids next).world ≡ true → is_steady_in next ≡ true)
        → is_steady_in (and_then s w (after saids)).world ≡ true → is_steady_in w ≡ true
    by (done next lines) back rest steady = back (rest next steady)
    by (refused fault) back rest steady = steady

in_band : (w : BusWorld) → IsGood w → IsInBand w
in_band (describing bytes meters) good = tt
in_band (running r) good = good.0

quietly : (a : After) → IsInBand a.world → AreQuiet a.lines → IsWithinBands a
quietly a band quiet = record { band = band; no_under = quiet.no_under; near = quiet.near }

keep_bands_from : (texts : List (List ℕ)) (w : BusWorld) → IsGood w → is_steady_in (after (map answer texts) w).world ≡ true
    → IsWithinBands (after (map answer texts) w)
unfolding after
keep_bands_from [] w good steady = quietly _ (in_band w good) none_quiet
keep_bands_from (text ∷ texts) w good steady =
    by (said_step (answer text) w) (said_keeps text w good) (keep_bands_from texts) steady
  where
    by : (s : Step) → KeepsGood s
        → ((next : BusWorld) → IsGood next → is_steady_in (after (map answer texts) next).world ≡ true
        → IsWithinBands (after (map answer texts) next))
        → is_steady_in (and_then s w (after (map answer texts))).world ≡ true → IsWithinBands (and_then s w (after (map answer texts)))
    by (done next lines) keeps rest h =
        let leaves = keeps (lines_look_back (map answer texts) next h) in
        let later = rest next leaves.good h in
        quietly _ later.band
        (with_more lines (after (map answer texts) next).lines leaves.quiet (record { no_under = later.no_under; near = later.near }))
    by (refused fault) keeps rest h = quietly _ (in_band w good) none_quiet

pub steady_scripts_keep_bands : SteadyScriptsKeepBands
steady_scripts_keep_bands texts shown steady = keep_bands_from texts (start shown) (λ i. no_bytes i) steady
  where
    no_bytes : AreBytes []
    no_bytes i = search rules
