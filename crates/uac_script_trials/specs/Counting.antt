-- What a counter makes of lines: it counts them and prints their count, and one that begins with `m` takes memory for that. Lines with
-- `!`, `g` and `t` are refused, and so is an end with nothing counted.
use Rattle.std.specs.Prelude.{◌≡◌, ◌≢◌, ℕ, ◌+◌, ◌==◌, Bool, true, false, if◌then◌else◌, List, [], ◌∷◌, ◌++◌, codes, decimal, Option, None, Some, refl}
use Rattle.uac_lines.specs.Words.{is_idle}
use Rattle.uac_ends.specs.declared.fault.LineFault.TheVariants as faults
use Rattle.uac_runner.specs.Machine.{Machine, Step, done, refused}

-- what a text says
pub data Counts : Type 0 where
  says_nothing : Counts
  says_count : Counts
  says_store : Counts
  says_misread : Counts
  says_ungrammatical : Counts
  says_unsound : Counts

abbrev pub counts_by : ℕ → Counts
counts_by c =
    if c == 35 then says_nothing else if c == 33 then says_misread else if c == 103 then says_ungrammatical
    else if c == 116 then says_unsound else if c == 109 then says_store else says_count

abbrev pub counts_of : List ℕ → Counts
counts_of [] = says_nothing
counts_of (c ∷ rest) = counts_by c

abbrev pub count_step : Counts → ℕ → Step ℕ ℕ
count_step says_nothing w = done w []
count_step says_count w = done (w + 1) ((w + 1) ∷ [])
count_step says_store w = done (w + 1) ((w + 1) ∷ [])
count_step says_misread w = refused (faults.Script 7)
count_step says_ungrammatical w = refused (faults.Grammar (record { rule = 3; at = 7 }))
count_step says_unsound w = refused (faults.Topology (record { rule = 5; id = 9; interface = false }))

abbrev pub count_wants : Counts → Bool
count_wants says_nothing = false
count_wants says_count = false
count_wants says_store = true
count_wants says_misread = false
count_wants says_ungrammatical = false
count_wants says_unsound = false

abbrev pub count_spell : ℕ → List ℕ
count_spell count = decimal count ++ codes "\n"

abbrev pub count_machine : Machine ℕ ℕ
count_machine = record {
  step = λ text w. count_step (counts_of text) w;
  finish = λ w. if w == 0 then Some 8 else None;
  wants = λ text w. count_wants (counts_of text);
  spell = count_spell;
}

-- ---- laws

pub count_free_by : (said : Counts) (w : ℕ) → count_step said w ≢ refused faults.NoMemory
count_free_by says_nothing w e = cc
count_free_by says_count w e = cc
count_free_by says_store w e = cc
count_free_by says_misread w e = cc
count_free_by says_ungrammatical w e = cc
count_free_by says_unsound w e = cc

pub count_free : (text : List ℕ) (w : ℕ) → count_machine.step text w ≢ refused faults.NoMemory
count_free text w = count_free_by (counts_of text) w

pub count_idle : (text : List ℕ) (w : ℕ) → is_idle text ≡ true → count_machine.step text w ≡ done w []
count_idle [] w e = refl
count_idle (c ∷ rest) w e = rw e refl
