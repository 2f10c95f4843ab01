-- What the driver asks of a machine, for a bench: that no step is refused for want of memory, and that a line without words does nothing.
use Rattle.std.specs.Prelude.{◌≡◌, ◌≢◌, ℕ, true, List, [], Result, Ok, refl}
use Rattle.uac_lines.specs.Words.{is_idle}
use Rattle.uac_script.specs.LineParsing.{answer}
use Rattle.uac_script.specs.Phrase.{Phrase, nothing_line}
use Rattle.uac_ends.specs.declared.fault.LineFault.TheVariants as faults
use Rattle.uac_runner.specs.Machine.{IsFree, done, refused}
use Rattle.uac_fullspeed.specs.FullSpeedWorld.{FullSpeedWorld}
use Rattle.uac_fullspeed.specs.FullSpeedSteps.{FsStep, fs_done, fs_refused, fs_said_step, fs_step}
use Rattle.uac_fullspeed.specs.FullSpeedMachine.{fs_machine, fs_lifted}

free_step : (s : FsStep) → fs_lifted s ≢ refused faults.NoMemory
free_step (fs_done next lines) = λ e. cc
free_step (fs_refused rule) = λ e. cc

pub fs_free : IsFree (fs_machine answer)
fs_free text w = free_step (fs_said_step (answer text) w)

said_idle : (text : List ℕ) → is_idle text ≡ true → answer text ≡ Ok nothing_line
unfolding answer
said_idle text e = rw e refl

nothing_done : (said : Result Phrase ℕ) (w : FullSpeedWorld) → said ≡ Ok nothing_line → fs_lifted (fs_said_step said w) ≡ done w []
unfolding fs_step
nothing_done said w e = rw e refl

pub fs_idle : (text : List ℕ) (w : FullSpeedWorld) → is_idle text ≡ true → (fs_machine answer).step text w ≡ done w []
fs_idle text w e = nothing_done (answer text) w (said_idle text e)
