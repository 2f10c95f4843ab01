-- A machine that does the lines of a script: what a text makes of a world (profile).
use Rattle.std.specs.Prelude.{◌≢◌, ℕ, ◌+◌, Bool, List, [], ◌∷◌, ◌++◌, flat_map, Option, None, Some, Result, Ok, Err}
use Rattle.uac_ends.specs.declared.fault.LineFault.{LineFault}
use Rattle.uac_ends.specs.declared.fault.LineFault.TheVariants as faults

-- what a line makes of a world: the next world and the lines that it says, or the fault with which it is refused
pub data Step (W L : Type 0) : Type 0 where
  done : W → List L → Step W L
  refused : LineFault → Step W L

-- a machine, by its worlds and the lines that it prints
pub record Machine (W L : Type 0) : Type 0 where
  -- what a text makes of a world
  pub step : List ℕ → W → Step W L
  -- the rule that the script's end breaks in a world, if it breaks one
  pub finish : W → Option ℕ
  -- the text may want memory in a world
  pub wants : List ℕ → W → Bool
  -- the bytes of a line that is printed
  pub spell : L → List ℕ

-- no step is refused for want of memory
abbrev pub IsFree : {W L : Type 0} → Machine W L → Type 0
IsFree {W} m = (text : List ℕ) (w : W) → m.step text w ≢ refused faults.NoMemory

-- the script's end is answered so
abbrev pub ended_by : Option ℕ → Result (Unit {0}) LineFault
ended_by None = Ok tt
ended_by (Some rule) = Err (faults.Script rule)

-- lines, one after the other
abbrev pub text_of : {W L : Type 0} → Machine W L → List L → List ℕ
text_of m lines = flat_map m.spell lines

-- what lines come to: the lines that they print, the world, how many were done, and the fault with which the one after those is
-- refused, if one is
pub record After (W L : Type 0) : Type 0 where
  pub lines : List L
  pub world : W
  pub count : ℕ
  pub refusal : Option LineFault

-- a line was done that printed these, and then what follows
abbrev pub one_done : {W L : Type 0} → List L → After W L → After W L
one_done lines rest = record { lines = lines ++ rest.lines; world = rest.world; count = rest.count + 1; refusal = rest.refusal }

-- nothing was done, and nothing is refused
abbrev pub no_line_done : {W L : Type 0} → W → After W L
no_line_done w = record { lines = []; world = w; count = 0; refusal = None }

-- a line's step, and then what follows in the next world; or its refusal, after which no line is done
abbrev pub and_then : {W L : Type 0} → Step W L → W → (W → After W L) → After W L
and_then (done next lines) w go = one_done lines (go next)
and_then (refused fault) w go = record { lines = []; world = w; count = 0; refusal = Some fault }

-- the lines in order, up to the first that is refused, by what each makes of a world
unfoldable pub after : {T W L : Type 0} → (T → W → Step W L) → List T → W → After W L
after step [] w = no_line_done w
after step (said ∷ saids) w = and_then (step said w) w (after step saids)

-- one line more, after those that were done
abbrev pub step_added : {W L : Type 0} → Step W L → After W L → After W L
step_added (done next lines) so_far = record { lines = so_far.lines ++ lines; world = next; count = so_far.count + 1; refusal = so_far.refusal }
step_added (refused fault) so_far = record { lines = so_far.lines; world = so_far.world; count = so_far.count; refusal = Some fault }

-- the first where a line was refused before, else the second
abbrev pub if_refused : {W L : Type 0} → Option LineFault → After W L → After W L → After W L
if_refused None so_far next = next
if_refused (Some fault) so_far next = so_far

-- what lines and one more come to: that one isn't done where one before it was refused
abbrev pub with_one_more : {T W L : Type 0} → (T → W → Step W L) → T → After W L → After W L
with_one_more step said so_far = if_refused so_far.refusal so_far (step_added (step said so_far.world) so_far)
