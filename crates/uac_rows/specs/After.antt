-- The lines of a script, one after the other (profile).
use Rattle.std.specs.Prelude.{ℕ, ◌+◌, List, [], ◌∷◌, ◌++◌, Option, None, Some, Result, Ok, Err}
use Rattle.uac_script.specs.Phrase.{Phrase}
use Rattle.uac_transcript.specs.Transcript.{Said}
use Rattle.uac_fault.specs.declared.fault.BusFault.{BusFault}
use Rattle.uac_rows.specs.BusWorld.{BusWorld, Step, done, refused, breaks_rule, step}

-- what a line makes of a world, which says a phrase or breaks a rule of spelling
abbrev pub said_step : Result Phrase ℕ → BusWorld → Step
said_step (Ok phrase) w = step phrase w
said_step (Err rule) w = breaks_rule rule

-- what lines come to: the lines that they print, the world, how many were done, and the fault with which the one after those is
-- refused, if one is
pub record After : Type 0 where
  pub lines : List Said
  pub world : BusWorld
  pub count : ℕ
  pub refusal : Option BusFault

-- a line was done that printed these, and then what follows
abbrev pub one_done : List Said → After → After
one_done lines rest = record rest { lines = lines ++ rest.lines; count = rest.count + 1 }

-- nothing was done, and nothing is refused
abbrev pub no_line_done : BusWorld → After
no_line_done w = record { lines = []; world = w; count = 0; refusal = None }

-- a line's step, and then what follows in the next world; or its refusal, after which no line is done
abbrev pub and_then : Step → BusWorld → (BusWorld → After) → After
and_then (done next lines) w go = one_done lines (go next)
and_then (refused fault) w go = record { lines = []; world = w; count = 0; refusal = Some fault }

-- the lines in order, up to the first that is refused
unfoldable pub after : List (Result Phrase ℕ) → BusWorld → After
after [] w = no_line_done w
after (said ∷ saids) w = and_then (said_step said w) w (after saids)

-- one line more, after those that were done
abbrev pub step_added : Step → After → After
step_added (done next lines) so_far = record so_far { lines = so_far.lines ++ lines; world = next; count = so_far.count + 1 }
step_added (refused fault) so_far = record so_far { refusal = Some fault }

-- the first where a line was refused before, else the second
abbrev pub if_refused : Option BusFault → After → After → After
if_refused None so_far next = next
if_refused (Some fault) so_far next = so_far

-- what lines and one more come to: that one isn't done where one before it was refused
abbrev pub with_one_more : Result Phrase ℕ → After → After
with_one_more said so_far = if_refused so_far.refusal so_far (step_added (said_step said so_far.world) so_far)
