-- From what was done to what a command, and the words of a call, come to.
use Rattle.std.proofs.Common.{◌≡◌, ◌≢◌, ℕ, inl, inr, true, false, List, Option, None, Some, Err, codes, refl, sym, ap, subst, ◌∙◌}
use Rattle.std.specs.Io.KnownBytes.{IsAtEnd}
use Rattle.uac_edges.specs.Faults.{Rose}
use Rattle.uac_gen.specs.GeneratedScript.{script_of}
use Rattle.uac_units.specs.Hearing.{Reading}
use Rattle.uac_words.specs.declared.commands.Command.{Command}
use Rattle.uac_words.specs.declared.commands.Command.TheVariants as commands
use Rattle.uac_words.specs.declared.commands.Invocation.{Invocation}
use Rattle.uac_words.specs.declared.commands.WordsFault.{WordsFault}
use Rattle.uac_words.specs.declared.commands.WordsFault.TheVariants as faults
use Rattle.uac_words.specs.ByClap.{IsAnswer}
use Rattle.uac_ends.specs.declared.status.Status.{Status}
use Rattle.uac_ends.specs.declared.status.Status.TheVariants as statuses
use Rattle.uac_ends.specs.Closing.{Closes, IsClosed, IsFaultless, IsReadToEnd}
use Rattle.uac_ends.specs.Outcome.{Outcome, no_memory}
use Rattle.uac_ends.specs.Outside.{Outside, outside}
use Rattle.uac_ends.proofs.ClosingLemmas.{closes_faultless, told_status}
use Rattle.uac_listing.specs.declared.description.Description.{Description}
use Rattle.uac_listing.specs.declared.description.Description.TheVariants.{Check, Elements, Show}
use Rattle.uac_listing.specs.Answered.{IsDescribed}
use Rattle.uac_listing.specs.SettleLines.{settle_outcome}
use Rattle.uac_scripts.specs.BusRun.{IsBusRun}
use Rattle.uac_scripts.specs.Surroundings.{Surroundings, surroundings}
use Rattle.uac_call.specs.Call.{AreAnswered, Describes, IsCall, ComesOfCommand, IsGenerated, PrintsAlone, ask_to_read, reads_all, usage}

-- a text was printed, and nothing was taken or heard
pub printed : (outcome : Outcome) (shown : List Reading) (left : Option (List ℕ)) (reads : ℕ) (w w' : Option (List ℕ)) (f f' : ℕ) (status : Status)
    → Closes outcome w w' f f' status → PrintsAlone outcome (surroundings (outside left reads w f) shown) (surroundings (outside left reads w' f') shown) status
printed outcome shown left reads w w' f f' status closed = record { closed = closed; untouched = record { left = refl; reads = refl }; unheard = refl }

-- ---- commands

module _ (shown : List Reading) (before after : Outside) (status : Status) where
  describes : (description : Description) → IsDescribed description before after status → Describes description (surroundings before shown) (surroundings after shown) status
  describes description described = record { described = described; unheard = refl }

  pub done_check : (command : Command) → command ≡ commands.Check → IsDescribed Check before after status → ComesOfCommand command (surroundings before shown) (surroundings after shown) status
  done_check command is described =
      subst (λ (c : Command). ComesOfCommand c (surroundings before shown) (surroundings after shown) status) (sym is) (describes Check described)

  pub done_show : (command : Command) → command ≡ commands.Show → IsDescribed Show before after status → ComesOfCommand command (surroundings before shown) (surroundings after shown) status
  done_show command is described =
      subst (λ (c : Command). ComesOfCommand c (surroundings before shown) (surroundings after shown) status) (sym is) (describes Show described)

  pub done_elements : (command : Command) → command ≡ commands.Elements → IsDescribed Elements before after status → ComesOfCommand command (surroundings before shown) (surroundings after shown) status
  done_elements command is described =
      subst (λ (c : Command). ComesOfCommand c (surroundings before shown) (surroundings after shown) status) (sym is) (describes Elements described)

module _ (before after : Surroundings) (status : Status) where
  pub done_run : (command : Command) → command ≡ commands.Run → IsBusRun before after status → ComesOfCommand command before after status
  done_run command is run = subst (λ (c : Command). ComesOfCommand c before after status) (sym is) run

  pub done_gen : (command : Command) (number : ℕ) → command ≡ commands.Gen number → IsGenerated number before after status → ComesOfCommand command before after status
  done_gen command number is generated = subst (λ (c : Command). ComesOfCommand c before after status) (sym is) generated

pub done_settle : (shown : List Reading) (a : Option (List ℕ)) (r : ℕ) (w w' : Option (List ℕ)) (f f' : ℕ) (status : Status) (command : Command)
    → command ≡ commands.Settle → Closes settle_outcome w w' f f' status
    → ComesOfCommand command (surroundings (outside a r w f) shown) (surroundings (outside a r w' f') shown) status
done_settle shown a r w w' f f' status command is closed =
    subst (λ (c : Command). ComesOfCommand c (surroundings (outside a r w f) shown) (surroundings (outside a r w' f') shown) status) (sym is)
    (printed settle_outcome shown a r w w' f f' status closed)

-- a command that takes nothing of the source isn't one that reads it all
pub gen_unread : (command : Command) (number : ℕ) → command ≡ commands.Gen number → reads_all command ≡ true → ⊥
gen_unread command number is reads = let none : reads_all command ≡ false = ap reads_all is in absurd (cc (none, reads))

pub settle_unread : (command : Command) → command ≡ commands.Settle → reads_all command ≡ true → ⊥
settle_unread command is reads = let none : reads_all command ≡ false = ap reads_all is in absurd (cc (none, reads))

-- a status that tells of a read tells of no write, and Ok of neither
pub read_is_no_write : (status : Status) → status ≡ statuses.ReadFault → status ≢ statuses.WriteFault
read_is_no_write status is other = absurd (cc (is, other))

pub ok_is_no_write : (status : Status) → status ≡ statuses.Ok → status ≢ statuses.WriteFault
ok_is_no_write status is other = absurd (cc (is, other))

pub settled_unread : (status : Status) → (status ≢ statuses.WriteFault → status ≡ statuses.Ok) → status ≡ statuses.ReadFault → ⊥
settled_unread status else_ok is = let ok : status ≡ statuses.Ok = else_ok (read_is_no_write status is) in absurd (cc (is, ok))

-- the script of a number was run, over a source that has just its bytes and never fails
pub generated_run : (number : ℕ) (shown shown' : List Reading) (left : Option (List ℕ)) (reads : ℕ) (script unread : List ℕ) (w w' : Option (List ℕ)) (f f' : ℕ) (status : Status)
    → script ≡ script_of number → IsBusRun (surroundings (outside (Some script) 0 w f) shown) (surroundings (outside (Some unread) 0 w' f') shown') status
    → IsGenerated number (surroundings (outside left reads w f) shown) (surroundings (outside left reads w' f') shown') status
generated_run number shown shown' left reads script unread w w' f f' status is run = record {
  unread = Some unread;
  run = subst (λ (bytes : List ℕ). IsBusRun (surroundings (outside (Some bytes) 0 w f) shown) (surroundings (outside (Some unread) 0 w' f') shown') status) is run;
  untouched = record { left = refl; reads = refl };
}

-- ---- words

-- the words ask for a command, which was done
pub done_call : (asked : Option Invocation) (words : Invocation) (before after : Surroundings) (status : Status) → asked ≡ Some words
    → ComesOfCommand words.command before after status → IsCall asked before after status
done_call asked words before after status is done = inl (subst (λ (x : Option Invocation). AreAnswered x before after status) (sym is) done)

-- they ask for none
pub none_asked : (asked : Option Invocation) (fault : WordsFault) → fault ≡ faults.Usage → IsAnswer asked (Err fault) → asked ≡ None
none_asked asked fault is answer = subst (λ (x : WordsFault). IsAnswer asked (Err x)) is answer

-- the usage line is the text that is written
pub closes_usage : (w w' : Option (List ℕ)) (f f' : ℕ) (status : Status)
    → Closes (record { text = codes "usage: uac_cli check|show|elements|run|gen NUMBER|full RATE|settle|pair RATE|panel [--rack plain|lanes]\n"; status = statuses.Usage }) w w' f f' status
    → Closes usage w w' f f' status
closes_usage w w' f f' status closed = closed

pub usage_call : (asked : Option Invocation) (fault : WordsFault) (shown : List Reading) (a : Option (List ℕ)) (r : ℕ) (w w' : Option (List ℕ)) (f f' : ℕ) (status : Status)
    → fault ≡ faults.Usage → IsAnswer asked (Err fault) → Closes usage w w' f f' status
    → IsCall asked (surroundings (outside a r w f) shown) (surroundings (outside a r w' f') shown) status
usage_call asked fault shown a r w w' f f' status is answer closed =
    let none = none_asked asked fault is answer in
    inl (subst (λ (x : Option Invocation). AreAnswered x (surroundings (outside a r w f) shown) (surroundings (outside a r w' f') shown) status) (sym none)
    (printed usage shown a r w w' f f' status closed))

-- there was no memory to read them
pub unread_call : (asked : Option Invocation) (shown : List Reading) (a : Option (List ℕ)) (r : ℕ) (w w' : Option (List ℕ)) (f f' : ℕ) (status : Status)
    → Closes no_memory w w' f f' status → IsCall asked (surroundings (outside a r w f) shown) (surroundings (outside a r w' f') shown) status
unread_call asked shown a r w w' f f' status closed = inr (printed no_memory shown a r w w' f f' status closed)

-- the words ask for a command that reads the source to its end
pub read_to_end : (asked : Option Invocation) (words : Invocation) (after : Outside) (status : Status) → asked ≡ Some words
    → (reads_all words.command ≡ true → IsReadToEnd after status) → status ≡ statuses.Ok → ask_to_read asked ≡ true → IsAtEnd after.left
read_to_end asked words after status is at_end ok reads = at_end (ap ask_to_read (sym is) ∙ reads) ok

-- ---- where the text is all of a call

-- an outcome that tells neither of a whole run nor of a fault of the outside
pub record IsRefusal (outcome : Outcome) : Type 0 where
  pub unfinished : outcome.status ≢ statuses.Ok
  pub unread : outcome.status ≢ statuses.ReadFault
  pub unwritten : outcome.status ≢ statuses.WriteFault

pub usage_refuses : IsRefusal usage
usage_refuses = record { unfinished = (λ e. cc); unread = (λ e. cc); unwritten = (λ e. cc) }

pub memory_refuses : IsRefusal no_memory
memory_refuses = record { unfinished = (λ e. cc); unread = (λ e. cc); unwritten = (λ e. cc) }

pub refused_cause : (outcome : Outcome) → IsRefusal outcome → (w w' : Option (List ℕ)) (f f' : ℕ) (status : Status)
    → Closes outcome w w' f f' status → status ≡ statuses.WriteFault → Rose f f'
refused_cause outcome refuses w w' f f' status (inl all) is = absurd (refuses.unwritten (sym all.0 ∙ is))
refused_cause outcome refuses w w' f f' status (inr cut) is = cut.1

module _ (outcome : Outcome) (refuses : IsRefusal outcome) (w w' : Option (List ℕ)) (f f' : ℕ) (status : Status)
    (closed : Closes outcome w w' f f' status) where
  pub refused_unread : (reads : ℕ) → status ≡ statuses.ReadFault → Rose reads reads
  refused_unread reads is =
      absurd (told_status outcome w w' f f' status closed (λ e. refuses.unread (sym e ∙ is)) (read_is_no_write status is))

  pub refused_faultless : (left : Option (List ℕ)) (reads : ℕ) → IsFaultless (outside left reads w f) (outside left reads w' f') status
  refused_faultless left reads unread unwritten = (refl, closes_faultless outcome w w' f f' status closed unwritten)

  pub refused_end : (asked : Option Invocation) (left : Option (List ℕ)) → status ≡ statuses.Ok → ask_to_read asked ≡ true → IsAtEnd left
  refused_end asked left is reads =
      absurd (told_status outcome w w' f f' status closed (λ e. refuses.unfinished (sym e ∙ is)) (ok_is_no_write status is))
