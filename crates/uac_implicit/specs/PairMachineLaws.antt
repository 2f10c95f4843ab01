-- What the driver asks of a machine, for a pair: that no step is refused for want of memory, and that a line without words does nothing.
use Rattle.std.specs.Prelude.{◌≡◌, ◌≢◌, ℕ, true, List, [], Result, Ok, refl}
use Rattle.uac_lines.specs.Words.{is_idle}
use Rattle.uac_script.specs.LineParsing.{answer}
use Rattle.uac_script.specs.Phrase.{Phrase, nothing_line}
use Rattle.uac_ends.specs.declared.fault.LineFault.TheVariants as faults
use Rattle.uac_runner.specs.Machine.{IsFree, done, refused}
use Rattle.uac_implicit.specs.Following.{PairWorld}
use Rattle.uac_implicit.specs.PairLines.{PairStep, pair_done, pair_refused, pair_said_step}
use Rattle.uac_implicit.specs.PairMachine.{pair_machine, pair_lifted}

free_step : (s : PairStep) → pair_lifted s ≢ refused faults.NoMemory
free_step (pair_done next lines) = λ e. cc
free_step (pair_refused rule) = λ e. cc

pub pair_free : IsFree (pair_machine answer)
pair_free text w = free_step (pair_said_step (answer text) w)

said_idle : (text : List ℕ) → is_idle text ≡ true → answer text ≡ Ok nothing_line
unfolding answer
said_idle text e = rw e refl

nothing_done : (said : Result Phrase ℕ) (w : PairWorld) → said ≡ Ok nothing_line → pair_lifted (pair_said_step said w) ≡ done w []
nothing_done said w e = rw e refl

pub pair_idle : (text : List ℕ) (w : PairWorld) → is_idle text ≡ true → (pair_machine answer).step text w ≡ done w []
pair_idle text w e = nothing_done (answer text) w (said_idle text e)
