-- What a script comes to, from the bytes that were taken and from why no more were, for any machine (profile).
use Rattle.std.specs.Prelude.{ℕ, zero, suc, ◌+◌, ◌-◌, List, [], ◌∷◌, ◌++◌, length, Option, None, Some}
use Rattle.uac_lines.specs.ScriptLines.{Head, line, long, past, unended, head_of, most_of_input}
use Rattle.uac_ends.specs.declared.fault.LineFault.TheVariants as faults
use Rattle.uac_ends.specs.Outcome.{End, at_end, read_failed, stopped, Last, finished, at_refusal, at_long_line, past_limit, at_failed_read, no_more_lines, Outcome, told}
use Rattle.uac_runner.specs.Machine.{Machine, Step, done, refused, text_of}

-- the lines that lines print, how it ends after them, and the world then
pub record Ending (W L : Type 0) : Type 0 where
  pub lines : List L
  pub last : Last
  pub world : W

-- a run that ends so, in this world
abbrev pub ends : {W L : Type 0} → Last → W → Ending W L
ends last w = record { lines = []; last = last; world = w }

-- lines, and then what follows
abbrev pub with_lines_first : {W L : Type 0} → List L → Ending W L → Ending W L
with_lines_first lines ending = record { lines = lines ++ ending.lines; last = ending.last; world = ending.world }

-- a line is done and the script goes on; or its refusal ends it
abbrev pub after_step : {W L : Type 0} → Step W L → ℕ → W → (W → Ending W L) → Ending W L
after_step (done next lines) number w go = with_lines_first lines (go next)
after_step (refused fault) number w go = ends (at_refusal fault number) w

-- the script's end, where the next line would have this number
abbrev pub last_by : Option ℕ → ℕ → Last
last_by None number = finished
last_by (Some rule) number = at_refusal (faults.Script rule) number

abbrev pub ending_at : {W L : Type 0} → Machine W L → ℕ → W → Ending W L
ending_at m number w = ends (last_by (m.finish w) number) w

-- the bytes after the last newline: at the end they are the last line, if there are any
abbrev pub rest_done : {W L : Type 0} → Machine W L → List ℕ → End → ℕ → W → Ending W L
rest_done m [] at_end number w = ending_at m number w
rest_done m (b ∷ rest) at_end number w = after_step (m.step (b ∷ rest) w) number w (λ next. ending_at m (number + 1) next)
rest_done m rest read_failed number w = ends at_failed_read w
rest_done m rest stopped number w = ends no_more_lines w

-- by what stands first in the bytes; `go` goes on after a line
abbrev pub by_head : {W L : Type 0} → Machine W L → Head → End → ℕ → W → (List ℕ → List ℕ → W → Ending W L) → Ending W L
by_head m (line text rest) end number w go = after_step (m.step text w) number w (go text rest)
by_head m long end number w go = ends (at_long_line number) w
by_head m past end number w go = ends past_limit w
by_head m (unended text) end number w go = rest_done m text end number w

-- the lines of these bytes, of which so many count, from the line with this number on; at most n lines
unfoldable pub goes_within : {W L : Type 0} → Machine W L → ℕ → ℕ → List ℕ → End → ℕ → W → Ending W L
goes_within m zero spare bytes end number w = ends no_more_lines w
goes_within m (suc n) spare bytes end number w =
    by_head m (head_of spare bytes) end number w
    (λ text rest next. goes_within m n (spare - (length text + 1)) rest end (number + 1) next)

-- the lines of these bytes: each has a byte at least
unfoldable pub goes : {W L : Type 0} → Machine W L → ℕ → List ℕ → End → ℕ → W → Ending W L
goes m spare bytes end number w = goes_within m (length bytes + 1) spare bytes end number w

-- the lines of a script are done in order from this world on, up to the first that is refused
unfoldable pub transcript : {W L : Type 0} → Machine W L → W → List ℕ → End → Ending W L
transcript m w taken end = goes m most_of_input taken end 1 w

-- the text and the status of a run that ended so
abbrev pub outcome_of : {W L : Type 0} → Machine W L → Ending W L → Outcome
outcome_of m ending = record { text = text_of m ending.lines ++ (told ending.last).text; status = (told ending.last).status }
