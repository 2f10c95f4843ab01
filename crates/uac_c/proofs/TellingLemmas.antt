-- From what a call with a sink in memory comes to, to what stands in the caller's room.
use Rattle.std.proofs.Common.{◌≡◌, ◌≢◌, ℕ, ◌+◌, ◌<◌, ◌≤◌, inl, inr, Bool, List, [], ◌∷◌, ◌++◌, length, take, drop, Option, None, Some, refl, sym, ap, subst, ◌∙◌, arith}
use Rattle.uac_descriptor.specs.BlockParsing.{AreBytes}
use Rattle.uac_descriptor.specs.declared.block.Block.{Block}
use Rattle.uac_edges.specs.Faults.{Rose}
use Rattle.uac_grammar_rules.specs.declared.faults.GrammarFault.{GrammarFault}
use Rattle.uac_grammar_rules.specs.Grammar.{first_fault}
use Rattle.uac_grammar_rules.specs.Sentence.{IsSentence}
use Rattle.uac_grammar_rules.proofs.SentenceLemmas.{none_sentence}
use Rattle.uac_topology_rules.specs.declared.fault.TopologyFault.{TopologyFault}
use Rattle.uac_topology.specs.Function.{FunctionFields}
use Rattle.uac_topology.specs.Topology.{first_fault_of, IsFunctionOf}
use Rattle.uac_topology.specs.Description.{function_of}
use Rattle.uac_gen.specs.GeneratedScript.{script_of}
use Rattle.uac_script.specs.LineParsing.{answer}
use Rattle.uac_script.proofs.LineParsingLemmas.{answer_says}
use Rattle.uac_words.specs.declared.commands.Command.{Command}
use Rattle.uac_words.specs.declared.commands.Command.TheVariants as commands
use Rattle.uac_words.specs.declared.commands.Invocation.{Invocation}
use Rattle.uac_words.specs.Plain.{CommandWord, plainly}
use Rattle.uac_ends.specs.declared.status.Status.{Status}
use Rattle.uac_ends.specs.declared.status.Status.TheVariants as statuses
use Rattle.uac_ends.specs.Closing.{Closes, HasNoFault}
use Rattle.uac_ends.specs.Exit.{exit_number}
use Rattle.uac_ends.specs.Outcome.{Outcome, at_end, no_memory, refusal, unsound}
use Rattle.uac_ends.specs.Outside.{outside}
use Rattle.uac_listing.specs.declared.description.Description.{Description}
use Rattle.uac_listing.specs.declared.description.Description.TheVariants.{Check, Elements, Show}
use Rattle.uac_listing.specs.Outcome.{IsOutcomeOf, is_broken, is_read, is_sound, ends_in_fault, sound}
use Rattle.uac_listing.specs.SettleLines.{settle_outcome}
use Rattle.uac_runner.specs.Machine.{Machine}
use Rattle.uac_runner.specs.Transcript.{outcome_of, transcript}
use Rattle.uac_fullspeed.specs.FullSpeedWorld.{full_speed_start}
use Rattle.uac_fullspeed.specs.FullSpeedMachine.{fs_machine}
use Rattle.uac_implicit.specs.Following.{pair_start}
use Rattle.uac_implicit.specs.PairMachine.{pair_machine}
use Rattle.uac_status.specs.DeskPhrases.{desk_answer}
use Rattle.uac_status.specs.Desks.{desk_machine_by, desk_start}
use Rattle.uac_status.proofs.DeskPhraseLemmas.{desk_says_once}
use Rattle.uac_rows.specs.BusWorld.{start}
use Rattle.uac_scripts.specs.BusMachine.{Sayings, bus_machine}
use Rattle.uac_call.specs.Call.{usage}
use Rattle.uac_call.specs.Completeness.{InputComesTo, ScriptComesTo}
use Rattle.uac_boxes.specs.Boxes.{IsFreshRun, fresh_readings}
use Rattle.uac_c.specs.Telling.{CallComesTo, InvocationComesTo, IsTold, Tells}
use Rattle.uac_c.specs.Putting.{IsPut}

-- ---- every input comes to something

function_is : (blocks : List Block) → IsFunctionOf (function_of blocks) blocks
unfolding function_of
function_is blocks = record { entities = refl; domains = refl; streams = refl; control_interface = refl; total = refl }

module _ (description : Description) (input : List ℕ) where
  abbrev HasOutcome : Type 0
  HasOutcome = (outcome : Outcome) × IsOutcomeOf description input at_end outcome

  judged : (blocks : List Block) → IsSentence input blocks → (o : Option TopologyFault) → first_fault_of blocks ≡ o → HasOutcome
  judged blocks sentence None none =
      (sound description blocks (function_of blocks), is_read blocks _ sentence (is_sound (function_of blocks) none (function_is blocks)))
  judged blocks sentence (Some fault) found = (unsound fault, is_read blocks _ sentence (is_broken fault found))

  read : AreBytes input → (o : Option GrammarFault) → first_fault input ≡ o → HasOutcome
  read are None none = let s = none_sentence input are none in judged s.0 s.1 (first_fault_of s.0) refl
  read are (Some fault) found = (refusal fault, ends_in_fault fault found)

  described : AreBytes input → HasOutcome
  described are = read are (first_fault input) refl

scripted : {W L : Type 0} (machine : Sayings → Machine W L) (w : W) (bytes : List ℕ) → (outcome : Outcome) × ScriptComesTo machine w bytes outcome
scripted machine w bytes = (outcome_of (machine answer) (transcript (machine answer) w bytes at_end), (answer, answer_says, refl))

done : (command : Command) (input : List ℕ) → AreBytes input → (outcome : Outcome) × InputComesTo command fresh_readings input outcome
done commands.Check input are = described Check input are
done commands.Show input are = described Show input are
done commands.Elements input are = described Elements input are
done commands.Run input are = scripted bus_machine (start fresh_readings) input
done (commands.Gen number) input are = scripted bus_machine (start fresh_readings) (script_of number)
done (commands.Full rate) input are = scripted fs_machine (full_speed_start rate) input
done commands.Settle input are = (settle_outcome, refl)
done (commands.Pair rate) input are = scripted pair_machine (pair_start rate) input
done commands.Panel input are = (
  outcome_of (desk_machine_by desk_answer) (transcript (desk_machine_by desk_answer) desk_start input at_end),
  (desk_answer, (λ text. (desk_says_once text).says), refl),
)

invoked : (asked : Option Invocation) (input : List ℕ) → AreBytes input → (outcome : Outcome) × InvocationComesTo asked input outcome
invoked None input are = (usage, refl)
invoked (Some words) input are = done words.command input are

pub some_outcome : (words : List CommandWord) (input : List ℕ) → AreBytes input → (outcome : Outcome) × CallComesTo words input outcome
some_outcome words input are = invoked (plainly words) input are

-- ---- the answer

-- what never failed
never_failed : HasNoFault 0 0
never_failed (inl less) = omega arith
never_failed (inr last) = omega arith

module _ (input text : List ℕ) (left' : Option (List ℕ)) (faults' waiting' : ℕ) (status : Status)
    (written : status ≢ statuses.WriteFault) (found : status ≢ statuses.NoMemory) where
  -- a status of its own is told, with the whole text
  told_alone : (outcome : Outcome) → Closes outcome (Some []) (Some text) 0 faults' status → (status ≡ outcome.status) × (text ≡ outcome.text)
  told_alone outcome (inl all) = (all.0, all.1)
  told_alone outcome (inr cut) = absurd (written cut.0)

  -- a list in memory is always read
  read_whole : (status ≡ statuses.ReadFault → Rose 0 0) → status ≢ statuses.ReadFault
  read_whole cause is = never_failed (cause is)

  answered : (asked : Option Invocation) → IsFreshRun asked (outside (Some input) 0 (Some []) 0) (outside left' 0 (Some text) faults') waiting' status
      → (outcome : Outcome) → InvocationComesTo asked input outcome → (status ≡ outcome.status) × (text ≡ outcome.text)
  answered None run outcome is =
      elim run.call.call as (λ _. (status ≡ outcome.status) × (text ≡ outcome.text)) [
        | inl prints ↦ subst (λ (o : Outcome). (status ≡ o.status) × (text ≡ o.text)) is (told_alone usage prints.closed)
        | inr prints ↦ absurd (found (told_alone no_memory prints.closed).0)
      ]
  answered (Some words) run outcome is =
      let quiet : HasNoFault 0 faults' = subst (λ (n : ℕ). HasNoFault 0 n) (sym (run.faultless (read_whole run.read_fault) written).1) never_failed in
      elim (run.complete words input outcome refl (λ reads. (refl, never_failed)) quiet is) as (λ _. (status ≡ outcome.status) × (text ≡ outcome.text)) [
        | inl comes ↦ (comes.0, comes.1)
        | inr wanted ↦ absurd (found wanted)
      ]

-- the same where what was lent is the input, what the sink held is nothing, the words are these, and this status and this text are answered
pub answers : (words lent : List CommandWord) (input given held kept text : List ℕ) (left' : Option (List ℕ)) (faults faults' waiting' : ℕ) (ended status : Status)
    → lent ≡ words → given ≡ input → held ≡ [] → faults ≡ 0 → status ≡ ended → status ≢ statuses.WriteFault → status ≢ statuses.NoMemory
    → IsFreshRun (plainly lent) (outside (Some given) 0 (Some held) faults) (outside left' 0 (Some kept) faults') waiting' ended → text ≡ kept
    → (outcome : Outcome) → CallComesTo words input outcome → (status ≡ outcome.status) × (text ≡ outcome.text)
answers words lent input given held kept text left' faults faults' waiting' ended status spelled is empty faultless same written found run whole =
    answered input text left' faults' waiting' status written found (plainly words)
    (subst (λ (ws : List CommandWord). IsFreshRun (plainly ws) (outside (Some input) 0 (Some []) 0) (outside left' 0 (Some text) faults') waiting' status) spelled
    (subst (λ (xs : List ℕ). IsFreshRun (plainly lent) (outside (Some xs) 0 (Some []) 0) (outside left' 0 (Some text) faults') waiting' status) is
    (subst (λ (xs : List ℕ). IsFreshRun (plainly lent) (outside (Some given) 0 (Some xs) 0) (outside left' 0 (Some text) faults') waiting' status) empty
    (subst (λ (n : ℕ). IsFreshRun (plainly lent) (outside (Some given) 0 (Some held) n) (outside left' 0 (Some text) faults') waiting' status) faultless
    (subst (λ (xs : List ℕ). IsFreshRun (plainly lent) (outside (Some given) 0 (Some held) faults) (outside left' 0 (Some xs) faults') waiting' status) (sym whole)
    (subst (λ (s : Status). IsFreshRun (plainly lent) (outside (Some given) 0 (Some held) faults) (outside left' 0 (Some kept) faults') waiting' s) (sym same) run))))))

-- ---- the room

below_five : (n : ℕ) → n < 5 → n ≡ 5 → ⊥
below_five n less is = omega arith

above_five : (n : ℕ) → 5 < n → n ≡ 5 → ⊥
above_five n more is = omega arith

module _ (words : List CommandWord) (input old new text : List ℕ) (written number : ℕ) (status : Status) where
  put_tells : (outcome : Outcome) → (status ≡ outcome.status) × (text ≡ outcome.text) → IsPut text (exit_number status) old new written number → Tells outcome old new written number
  put_tells outcome same (inl whole) = inl (record {
    status = whole.0 ∙ ap (λ (s : Status). exit_number s) same.0;
    count = whole.1 ∙ ap (λ (xs : List ℕ). length xs) same.1;
    text = whole.2 ∙ ap (λ (xs : List ℕ). xs ++ drop written old) same.1;
  })
  put_tells outcome same (inr cut) = inr (inl (record {
    status = cut.0;
    longer = subst (λ (xs : List ℕ). length old < length xs) same.1 cut.1;
    count = cut.2;
    text = cut.3 ∙ ap (λ (xs : List ℕ). take written xs) same.1;
  }))

  -- only a status of a write fault has its number
  five_alone : (s : Status) → exit_number s ≡ exit_number statuses.WriteFault → s ≡ statuses.WriteFault
  five_alone statuses.Ok is = absurd (below_five 0 (omega arith) is)
  five_alone statuses.Descriptor is = absurd (below_five 1 (omega arith) is)
  five_alone statuses.Script is = absurd (below_five 2 (omega arith) is)
  five_alone statuses.Usage is = absurd (below_five 3 (omega arith) is)
  five_alone statuses.ReadFault is = absurd (below_five 4 (omega arith) is)
  five_alone statuses.WriteFault is = refl
  five_alone statuses.NoMemory is = absurd (above_five 6 (omega arith) is)
  five_alone statuses.TooLong is = absurd (above_five 7 (omega arith) is)

  put_cut : status ≢ statuses.WriteFault → (outcome : Outcome) → (status ≡ outcome.status) × (text ≡ outcome.text) → IsPut text (exit_number status) old new written number
      → number ≡ exit_number statuses.WriteFault → length old < length outcome.text
  put_cut whole outcome same (inl all) is = absurd (whole (five_alone status (sym all.0 ∙ is)))
  put_cut whole outcome same (inr cut) is = subst (λ (xs : List ℕ). length old < length xs) same.1 cut.1

  pub put_told : AreBytes input → status ≢ statuses.WriteFault
      → ((outcome : Outcome) → CallComesTo words input outcome → (status ≡ outcome.status) × (text ≡ outcome.text))
      → IsPut text (exit_number status) old new written number → IsTold words input old new written number
  put_told are whole each put = record {
    some = some_outcome words input are;
    told = λ outcome comes. put_tells outcome (each outcome comes) put;
    cut = λ outcome comes is. put_cut whole outcome (each outcome comes) put is;
  }

-- there was no memory
pub unwritten_told : (words : List CommandWord) (input old new : List ℕ) (written number : ℕ) → AreBytes input
    → number ≡ exit_number statuses.NoMemory → written ≡ 0 → new ≡ old → IsTold words input old new written number
unwritten_told words input old new written number are is none same = record {
  some = some_outcome words input are;
  told = λ outcome comes. inr (inr (record { status = is; count = none; text = same }));
  cut = λ outcome comes five. absurd (above_five 6 (omega arith) (sym is ∙ five));
}
