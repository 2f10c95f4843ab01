-- A run, line by line: the lines that were done, and where memory was wanted (profile).
use Rattle.std.specs.Prelude.{◌≡◌, ◌≢◌, ℕ, ◌+◌, ◌≤◌, ◌⊎◌, true, List, [], ◌∷◌, ◌++◌, length, Option, None, Some}
use Rattle.std.specs.List.{All, AllByRecursion}
use Rattle.uac_edges.specs.TextLines.{with_newlines}
use Rattle.uac_lines.specs.ScriptLines.{most_of_line}
use Rattle.uac_ends.specs.declared.fault.LineFault.{LineFault}
use Rattle.uac_runner.specs.Machine.{Machine, After, after}
use Rattle.uac_ends.specs.Outcome.{at_refusal, without_memory}
use Rattle.uac_runner.specs.Transcript.{Ending, ends, with_lines_first}

-- a line's bytes: at most 4,096, none of them a newline
pub record IsScriptLine (text : List ℕ) : Type 0 where
  pub short : length text ≤ most_of_line
  pub whole : All (λ b. b ≢ 10) text

-- the first lines of what was taken, each with its newline, but for the last line of all, which may end with the input
abbrev pub AreFirst : List (List ℕ) → List ℕ → Type 0
AreFirst texts taken =
    ((rest : List ℕ) × (taken ≡ with_newlines texts ++ rest))
    ⊎ ((front : List (List ℕ)) × (text : List ℕ) × (texts ≡ front ++ text ∷ []) × (taken ≡ with_newlines front ++ text))

-- the lines that were done, none of which was refused; what they printed is all, but for how the run ended
pub record IsDone {W L : Type 0} (m : Machine W L) (w : W) (taken : List ℕ) (ending : Ending W L) : Type 0 where
  pub texts : List (List ℕ)
  pub lines : AllByRecursion IsScriptLine texts
  pub first : AreFirst texts taken
  pub done : (after m.step texts w).refusal ≡ None
  pub printed : ending.lines ≡ (after m.step texts w).lines
  pub world : ending.world ≡ (after m.step texts w).world

-- after lines: the refusal of the next, which has this number; or what follows in the world that they leave
abbrev pub go_unless_refused : {W L : Type 0} → Option LineFault → ℕ → W → (W → Ending W L) → Ending W L
go_unless_refused None number w go = go w
go_unless_refused (Some fault) number w go = ends (at_refusal fault number) w

-- what lines come to of which the first has this number: what they print, and then what stands after them
abbrev pub come_to : {W L : Type 0} → After W L → ℕ → (W → Ending W L) → Ending W L
come_to a number go = with_lines_first a.lines (go_unless_refused a.refusal (number + a.count) a.world go)

-- the bytes after a line: none, or its newline and what follows
abbrev pub EndsLine : List ℕ → Type 0
EndsLine rest = (rest ≡ []) ⊎ ((more : List ℕ) × (rest ≡ 10 ∷ more))

-- Memory was wanted at a line: those in front of it were done, it takes memory in the world that they leave, and after what they printed
-- stands `no memory`.
pub record IsWanted {W L : Type 0} (m : Machine W L) (w : W) (taken : List ℕ) (ending : Ending W L) : Type 0 where
  pub texts : List (List ℕ)
  pub text : List ℕ
  pub rest : List ℕ
  pub cut : taken ≡ with_newlines texts ++ (text ++ rest)
  pub lines : AllByRecursion IsScriptLine texts
  pub line : IsScriptLine text
  pub whole : EndsLine rest
  pub done : (after m.step texts w).refusal ≡ None
  pub takes : m.wants text (after m.step texts w).world ≡ true
  pub is : ending ≡ record { lines = (after m.step texts w).lines; last = without_memory; world = (after m.step texts w).world }
