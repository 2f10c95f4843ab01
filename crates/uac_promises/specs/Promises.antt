-- What is promised of every line that a steady script prints (profile; feedback is that of USB 2.0, 5.12.4.2).
use Rattle.std.specs.Prelude.{◌≡◌, ◌≤◌, ℕ, true, ℤ, pos, List, [], ◌∷◌, ◌++◌, map, None, Result, Ok}
use Rattle.std.specs.List.{All, AllByRecursion}
use Rattle.uac_descriptor.specs.BlockParsing.{AreBytes}
use Rattle.uac_units.specs.Hearing.{Reading}
use Rattle.uac_script.specs.Phrase.{PhraseMark, Phrase, bytes_line, microframes_line}
use Rattle.uac_transcript.specs.Transcript.{Said}
use Rattle.uac_running.specs.RunningNames.{natural_of_int}
use Rattle.uac_rows.specs.BusWorld.{BusWorld, describing, done, running, start, step}
use Rattle.uac_rows.specs.After.{after}
use Rattle.uac_levels.specs.BandRun.{IsNearLevel, IsNoUnder}
use Rattle.uac_levels.specs.Recording.{AreRecorded, IsNoOver}
use Rattle.uac_levels.specs.Past.{Pasts, no_pasts}
use Rattle.uac_levels.specs.Homing.{IsClose}
use Rattle.uac_promises.specs.Scripts.{IsInBand, is_steady_in}
use Rattle.uac_promises.specs.Watches.{Watch, line_watches, microframes_of, watches_after}
use Rattle.uac_promises.specs.ReportPromises.{HaveMetNoneIn, IsTrueLine}
use Rattle.uac_promises.specs.Moments.{HoldsEnough, moments_after}
use Rattle.uac_promises.specs.StreamPromises.{HaveTrailsIn}

-- a level is close in a world
abbrev pub IsCloseIn : BusWorld → Pasts → Said → Type 0
IsCloseIn (describing bytes meters) pasts said = Unit {0}
IsCloseIn (running r) pasts said = IsClose r pasts said

-- a printed line tells of no ring that was found empty, and of none that had no room; and if it tells a level of a primed stream, that is
-- within 130 frames of its target, within 4 once the stream has settled after its last lost packet, and within 3 where it lost none since
-- it was primed
pub record IsKeptPromise (w : Watch) : Type 0 where
  pub no_under : IsNoUnder w.said
  pub no_over : IsNoOver w.said
  pub near : IsNearLevel w.said
  pub close : IsCloseIn w.world w.pasts w.said

-- rings of streams from the device hold no more than their interval can bring
abbrev pub IsRecordedIn : BusWorld → Type 0
IsRecordedIn (describing bytes meters) = Unit {0}
IsRecordedIn (running r) = AreRecorded r

-- the lines that are seen are those that are printed
abbrev pub LinesAreSeen : Type 0
LinesAreSeen =
    (saids : List (Result Phrase ℕ)) (w : BusWorld) (pasts : Pasts)
    → map (λ watch. watch.said) (watches_after saids w pasts).lines ≡ (after saids w).lines

-- what the lines of a script said, which leave a steady world: each stream is in its band there, no ring was found empty or without room,
-- and a stream that lost no packet is close to its target; every line that they printed is as promised, those of a report too; and at every
-- moment of them each ring holds enough
pub record IsAsPromised (saids : List (Result Phrase ℕ)) (shown : List Reading) : Type 0 where
  pub streams_are_in_their_bands : IsInBand (after saids (start shown)).world
  pub recordings_fit_their_interval : IsRecordedIn (after saids (start shown)).world
  -- the lines that are promised of are those that were printed
  pub promised_lines_are_those_printed :
      map (λ watch. watch.said) (watches_after saids (start shown) no_pasts).lines ≡ (after saids (start shown)).lines
  pub each_line_is_as_promised : All IsKeptPromise (watches_after saids (start shown) no_pasts).lines
  pub counts_are_zero : HaveMetNoneIn (after saids (start shown)).world
  pub report_is_near : All IsTrueLine (watches_after saids (start shown) no_pasts).lines
  pub at_every_moment : All HoldsEnough (moments_after saids (start shown))
  pub streams_come_home : HaveTrailsIn (after saids (start shown)).world (watches_after saids (start shown) no_pasts).pasts

-- what a line says is of bytes: those of a line `d`
abbrev pub IsOfBytes : Result Phrase ℕ → Type 0
IsOfBytes said = (bytes : List ℕ) → said ≡ Ok (bytes_line bytes) → AreBytes bytes

-- so it is for every list of lines, by what each says
abbrev pub SteadyScriptsKeepPromises : Type 0
SteadyScriptsKeepPromises =
    (saids : List (Result Phrase ℕ)) (shown : List Reading) → AllByRecursion IsOfBytes saids
    → is_steady_in (after saids (start shown)).world ≡ true → IsAsPromised saids shown

-- the lines that one line more prints, after lines of which none was refused, each with the world and the pasts in which it is printed
abbrev pub watches_of_line : List (Result Phrase ℕ) → Phrase → List Reading → BusWorld → List Said → List Watch
watches_of_line saids phrase shown next lines =
    (line_watches (microframes_of phrase) (after saids (start shown)).world next lines (watches_after saids (start shown) no_pasts).pasts).lines

-- What one line more prints, in a world that is steady after it: each line is as promised, and all is as promised of the lines before and
-- this one.
pub record PrintsKept (saids : List (Result Phrase ℕ)) (phrase : Phrase) (shown : List Reading) (next : BusWorld) (lines : List Said) : Type 0 where
  pub promised_lines_are_those_printed : map (λ watch. watch.said) (watches_of_line saids phrase shown next lines) ≡ lines
  pub each_line_is_as_promised : All IsKeptPromise (watches_of_line saids phrase shown next lines)
  pub report_is_near : All IsTrueLine (watches_of_line saids phrase shown next lines)
  pub promised : IsAsPromised (saids ++ Ok phrase ∷ []) shown

abbrev pub OneMoreLineIsKept : Type 0
OneMoreLineIsKept =
    (saids : List (Result Phrase ℕ)) (phrase : Phrase) (shown : List Reading) (next : BusWorld) (lines : List Said)
    → AllByRecursion IsOfBytes (saids ++ Ok phrase ∷ []) → (after saids (start shown)).refusal ≡ None
    → step phrase (after saids (start shown)).world ≡ done next lines → is_steady_in next ≡ true → PrintsKept saids phrase shown next lines

-- ---- within a line

-- lines, and the first so many microframes of those for which one line more asks
abbrev pub with_first_of : List (Result Phrase ℕ) → ℕ → List PhraseMark → List (Result Phrase ℕ)
with_first_of saids n marks = saids ++ Ok (microframes_line (pos n) marks) ∷ []

-- The microframes of a line `m`, up to any of them that leaves a steady world: what they print begins what the whole line prints, and all is
-- as promised of them.
pub record IsBegun (saids : List (Result Phrase ℕ)) (count : ℤ) (marks : List PhraseMark) (n : ℕ) (shown : List Reading) : Type 0 where
  pub more : List Said
  pub printed :
      (after (saids ++ Ok (microframes_line count marks) ∷ []) (start shown)).lines ≡ (after (with_first_of saids n marks) (start shown)).lines ++ more
  pub promised : is_steady_in (after (with_first_of saids n marks) (start shown)).world ≡ true → IsAsPromised (with_first_of saids n marks) shown

abbrev pub LinesBeginAsPromised : Type 0
LinesBeginAsPromised =
    (saids : List (Result Phrase ℕ)) (count : ℤ) (marks : List PhraseMark) (n : ℕ) (shown : List Reading) → AllByRecursion IsOfBytes saids
    → n ≤ natural_of_int count → IsBegun saids count marks n shown
