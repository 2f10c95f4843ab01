-- A generated script is done to its end.
use Rattle.std.proofs.Common.{◌≡◌, ◌∙◌, sym, ap, refl, ℕ, ◌+◌, ◌<◌, ◌≤◌, arith, List, [], ◌∷◌, ◌++◌, length, map, Option, None, Result, Ok}
use Rattle.std.specs.List.{AllByRecursion}
use Rattle.std.proofs.lemmas.List.{append-nil}
use Rattle.uac_edges.specs.TextLines.{with_newlines}
use Rattle.uac_gen.specs.Generator.{generated_lines}
use Rattle.uac_gen.specs.GeneratedScript.{script_of}
use Rattle.uac_lines.specs.ScriptLines.{most_of_input, unended}
use Rattle.uac_script.specs.LineParsing.{answer}
use Rattle.uac_fault.specs.declared.fault.BusFault.{BusFault}
use Rattle.uac_rows.specs.BusWorld.{BusWorld, describing, running, finish_of, start}
use Rattle.uac_transcript.specs.Transcript.{Said}
use Rattle.uac_promises.specs.Scripts.{after_texts}
use Rattle.uac_promises.specs.Generated.{IsLineOfScript}
use Rattle.uac_promises.proofs.GeneratedLemmas.{generated_scripts_are_done, generated_scripts_are_scripts, generated_scripts_are_steady}
use Rattle.uac_promises.proofs.PromisesLemmas.{all_scripts_keep_promises}
use Rattle.uac_ends.specs.declared.fault.LineFault.{LineFault}
use Rattle.uac_ends.specs.Outcome.{at_end, finished}
use Rattle.uac_runner.specs.Machine.{After, after}
use Rattle.uac_runner.specs.Done.{IsScriptLine, come_to, go_unless_refused}
use Rattle.uac_runner.specs.Transcript.{Ending, ends, goes, last_by, transcript, with_lines_first}
use Rattle.uac_runner.proofs.ScriptLemmas.{script_lines}
use Rattle.uac_runner.proofs.TranscriptLemmas.{goes_at, head_nothing}
use Rattle.uac_scripts.specs.BusMachine.{bus_machine, lifted_fault, rule_at_end}
use Rattle.uac_scripts.proofs.BusLemmas.{all_of_bytes, answers_by_table, lines_are_sayings}
use Rattle.uac_call.specs.GeneratedCall.{GeneratedScriptsRunWhole}

are_lines : (texts : List (List ℕ)) → AllByRecursion IsLineOfScript texts → AllByRecursion IsScriptLine texts
are_lines [] each = tt
are_lines (text ∷ texts) (one, each) = (record { short = one.short; whole = one.whole }, are_lines texts each)

-- the script may end
may_end : (w : BusWorld) → finish_of w ≡ Ok tt → rule_at_end w ≡ None
may_end (describing bytes meters) e = absurd (cc)
may_end (running r) e = refl

-- nothing stands after the last newline, and the script may end
ended : (spare number : ℕ) (w : BusWorld) → rule_at_end w ≡ None → goes (bus_machine answer) spare [] at_end number w ≡ ends finished w
ended spare number w is =
    goes_at (bus_machine answer) (unended []) spare [] at_end number w (head_nothing spare)
    ∙ ap (λ (o : Option ℕ). let e : Ending BusWorld Said = ends (last_by o number) w in e) is

-- no line was refused, so what follows them is reached
none_refused : (a : After BusWorld Said) (number : ℕ) (go : BusWorld → Ending BusWorld Said) (last : Ending BusWorld Said) → a.refusal ≡ None → go a.world ≡ last
    → come_to a number go ≡ with_lines_first a.lines last
none_refused a number go last none is =
    ap (λ (o : Option LineFault). with_lines_first a.lines (go_unless_refused o (number + a.count) a.world go)) none
    ∙ ap (with_lines_first a.lines) is

pub generated_scripts_run_whole : GeneratedScriptsRunWhole
unfolding script_of
generated_scripts_run_whole number shown small =
    let texts : List (List ℕ) = generated_lines number in
    let a : After BusWorld Said = after (bus_machine answer).step texts (start shown) in
    let is = generated_scripts_are_scripts number small in
    let done = generated_scripts_are_done number shown small in
    let same = lines_are_sayings answer texts (start shown) in
    let fits : length (with_newlines texts) ≤ most_of_input = (let less : length (script_of number) < most_of_input = is.fits in bounded number less) in
    let none : a.refusal ≡ None = ap (λ (b : After BusWorld Said). b.refusal) same ∙ ap lifted_fault done.none_refused in
    let end : rule_at_end a.world ≡ None = ap (λ (b : After BusWorld Said). rule_at_end b.world) same ∙ may_end (after_texts texts shown).world done.ends in
    record {
      says = answer;
      by_table = answers_by_table;
      transcript_is =
          ap (λ (bytes : List ℕ). transcript (bus_machine answer) (start shown) bytes at_end) (all_bytes number)
          ∙ script_lines (bus_machine answer) (start shown) texts [] at_end (are_lines texts is.lines) fits
          ∙ none_refused a 1 _ _ none (ended _ (length texts + 1) a.world end);
      promised = all_scripts_keep_promises (map answer texts) shown (all_of_bytes answer texts answers_by_table) (generated_scripts_are_steady number shown small);
    }
  where
    all_bytes : (n : ℕ) → script_of n ≡ with_newlines (generated_lines n) ++ []
    all_bytes n = sym (append-nil (with_newlines (generated_lines n)))

    bounded : (n : ℕ) → length (script_of n) < most_of_input → length (with_newlines (generated_lines n)) ≤ most_of_input
    bounded n h = omega arith
