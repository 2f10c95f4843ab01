-- From what a run of lines came to, to what it comes to once all that waits in the sink was to be handed on.
use Rattle.std.proofs.Common.{◌≡◌, ◌≢◌, ℕ, List, Option, sym, ◌∙◌}
use Rattle.std.specs.Io.KnownBytes.{Keeps}
use Rattle.uac_ends.specs.declared.status.Status.{Status}
use Rattle.uac_ends.specs.declared.status.Status.TheVariants as statuses
use Rattle.uac_ends.specs.HandingOn.{HandsOn}
use Rattle.uac_ends.specs.Outside.{Outside, outside}
use Rattle.uac_ends.proofs.HandingOnLemmas.{closes_on, status_before}
use Rattle.uac_runner.specs.Machine.{Machine}
use Rattle.uac_runner.specs.Run.{IsRun}
use Rattle.uac_runner.specs.Transcript.{outcome_of}

pub memory_is_no_write : (status : Status) → status ≡ statuses.NoMemory → status ≢ statuses.WriteFault
memory_is_no_write status is other = absurd (cc (is, other))

unfoldable pub run_on : {W L : Type 0} (m : Machine W L) (w : W) (Shows : W → Type 0) (before : Outside) (left : Option (List ℕ)) (reads : ℕ) (written written' : Option (List ℕ)) (writes writes' : ℕ)
    (status status' : Status) → Keeps written written' → HandsOn status writes writes' status' → IsRun m w Shows before (outside left reads written writes) status
    → IsRun m w Shows before (outside left reads written' writes') status'
run_on m w Shows before left reads written written' writes writes' status status' kept ends run = record {
  taken = run.taken;
  end = run.end;
  ending = run.ending;
  consumed = run.consumed;
  ended = run.ended;
  prompt = run.prompt;
  meant = run.meant;
  lived = run.lived;
  closed = closes_on (outcome_of m run.ending) before.written written written' before.writes writes writes' status status' kept ends run.closed;
  wanted = (λ is. run.wanted (sym (status_before status status' writes writes' ends (memory_is_no_write status' is)) ∙ is));
  shows = (λ other. run.shows (λ is. other (status_before status status' writes writes' ends other ∙ is)));
}
