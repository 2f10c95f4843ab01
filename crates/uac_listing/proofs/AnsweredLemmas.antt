-- From what reading came to, and the writing of its text, to what the call means.
use Rattle.std.proofs.Common.{◌≡◌, ◌≢◌, ℕ, ◌⊎◌, inl, inr, List, [], ◌∷◌, sym, refl, subst, ◌∙◌, Option, codes}
use Rattle.std.proofs.lemmas.List.{append-nil}
use Rattle.uac_descriptor.specs.declared.block.Block.{Block}
use Rattle.uac_grammar_rules.specs.Sentence.{IsSentence}
use Rattle.uac_grammar.specs.declared.fault.ReadStop.{ReadStop}
use Rattle.uac_grammar.specs.declared.fault.ReadStop.TheVariants.{Fault, NoMemory}
use Rattle.uac_topology_rules.specs.declared.fault.TopologyFault.{TopologyFault}
use Rattle.uac_topology.specs.declared.soundness.CheckStop.{CheckStop}
use Rattle.uac_topology.specs.declared.soundness.CheckStop.TheVariants as stops
use Rattle.uac_topology.specs.Function.{FunctionFields}
use Rattle.uac_topology.specs.Topology.{first_fault_of, IsSound, IsFunctionOf, IsStopAt}
use Rattle.uac_listing.specs.declared.description.Description.{Description}
use Rattle.uac_listing.specs.declared.description.Description.TheVariants.{Elements}
use Rattle.uac_listing.specs.declared.parsing.SourceEnd.TheVariants.{Whole, Stopped, Failed}
use Rattle.uac_ends.specs.declared.status.Status.{Status}
use Rattle.uac_ends.specs.declared.status.Status.TheVariants as statuses
use Rattle.uac_ends.specs.Outcome.{at_end, read_failed, stopped, Outcome, no_memory, read_fault, refusal, unsound}
use Rattle.uac_listing.specs.Outcome.{sound, shows_fault, fails, ends_in_fault, is_sound, is_broken, is_read}
use Rattle.uac_listing.specs.SourceParsing.{Reads}
use Rattle.uac_ends.specs.Closing.{Closes}
use Rattle.uac_ends.specs.Outside.{outside}
use Rattle.uac_ends.proofs.ClosingLemmas.{closes_as, closes_faultless}
use Rattle.uac_listing.specs.Answered.{Judges, PrintsRefusal, RefusesFunction, IsDescribed}

module _ (a b : Option (List ℕ)) (r r' : ℕ) (w w' : Option (List ℕ)) (f f' : ℕ) (status : Status) where
  -- the verdict on the blocks that were read was written
  pub judged_run : (description : Description) (blocks : _) (lent : List Block) → Reads a b r r' (Whole blocks) → r' ≡ r → lent ≡ blocks.items
      → Judges description lent w w' f f' status → IsDescribed description (outside a r w f) (outside b r' w' f') status
  judged_run description blocks lent reads still same judges = elim judges.meant as (λ _. IsDescribed description (outside a r w f) (outside b r' w' f') status) [
    | inl verdict ↦ record {
      taken = reads.taken;
      end = at_end;
      outcome = judges.outcome;
      consumed = reads.consumed;
      ended = (reads.comes.0, still);
      prompt = reads.prompt;
      meant = inl (is_read lent judges.outcome (subst (λ (bs : List Block). IsSentence reads.taken bs) (sym same) reads.comes.1) verdict);
      closed = judges.closed;
    }
    | inr none ↦ record {
      taken = reads.taken;
      end = at_end;
      outcome = judges.outcome;
      consumed = reads.consumed;
      ended = (reads.comes.0, still);
      prompt = reads.prompt;
      meant = inr none;
      closed = judges.closed;
    }
  ]

  -- a read failed
  pub failed_run : (description : Description) → Reads a b r r' Failed → Closes read_fault w w' f f' status → IsDescribed description (outside a r w f) (outside b r' w' f') status
  failed_run description reads closed = record {
    taken = reads.taken;
    end = read_failed;
    outcome = read_fault;
    consumed = reads.consumed;
    prompt = reads.prompt;
    ended = reads.comes.0;
    meant = inl (fails reads.comes.1);
    closed = closed;
  }

  -- a descriptor was refused
  pub refused_run : (description : Description) (stop : ReadStop) → Reads a b r r' (Stopped stop) → r' ≡ r → PrintsRefusal stop w w' f f' status
      → IsDescribed description (outside a r w f) (outside b r' w' f') status
  refused_run description NoMemory reads still closed = record {
    taken = reads.taken;
    end = stopped;
    outcome = no_memory;
    consumed = reads.consumed;
    prompt = reads.prompt;
    ended = still;
    meant = inr refl;
    closed = closed;
  }
  refused_run description (Fault fault) reads still closed = elim reads.comes as (λ _. IsDescribed description (outside a r w f) (outside b r' w' f') status) [
    | inl shown ↦ record {
      taken = reads.taken;
      end = stopped;
      outcome = refusal fault;
      consumed = reads.consumed;
      prompt = reads.prompt;
      ended = still;
      meant = inl (shows_fault stopped fault shown);
      closed = closed;
    }
    | inr last ↦ record {
      taken = reads.taken;
      end = at_end;
      outcome = refusal fault;
      consumed = reads.consumed;
      prompt = reads.prompt;
      ended = (last.0, still);
      meant = inl (ends_in_fault fault last.1);
      closed = closed;
    }
  ]

-- ---- a last line

-- a descriptor was refused by the grammar
pub refuses_fault : (stop : ReadStop) (fault : _) (text : List ℕ) (w w' : Option (List ℕ)) (f f' : ℕ) (status : Status) → stop ≡ Fault fault → text ≡ (refusal fault).text
    → Closes (record { text = text; status = statuses.Descriptor }) w w' f f' status → PrintsRefusal stop w w' f f' status
refuses_fault stop fault text w w' f f' status is line closed =
    subst (λ (s : ReadStop). PrintsRefusal s w w' f f' status) (sym is) (closes_as (refusal fault) text w w' f f' status line closed)

pub refuses_memory : (stop : ReadStop) (w w' : Option (List ℕ)) (f f' : ℕ) (status : Status) → stop ≡ NoMemory → Closes no_memory w w' f f' status → PrintsRefusal stop w w' f f' status
refuses_memory stop w w' f f' status is closed = subst (λ (s : ReadStop). PrintsRefusal s w w' f f' status) (sym is) closed

-- a function was refused by the topology
pub refuses_function : (stop : CheckStop) (fault : TopologyFault) (text : List ℕ) (w w' : Option (List ℕ)) (f f' : ℕ) (status : Status) → stop ≡ stops.Fault fault → text ≡ (unsound fault).text
    → Closes (record { text = text; status = statuses.Descriptor }) w w' f f' status → RefusesFunction stop w w' f f' status
refuses_function stop fault text w w' f f' status is line closed =
    subst (λ (s : CheckStop). RefusesFunction s w w' f f' status) (sym is) (closes_as (unsound fault) text w w' f f' status line closed)

pub refuses_function_memory : (stop : CheckStop) (w w' : Option (List ℕ)) (f f' : ℕ) (status : Status) → stop ≡ stops.NoMemory → Closes no_memory w w' f f' status → RefusesFunction stop w w' f f' status
refuses_function_memory stop w w' f f' status is closed = subst (λ (s : CheckStop). RefusesFunction s w w' f f' status) (sym is) closed

-- a sound function was printed
pub judges_sound : (description : Description) (blocks : List Block) (function : FunctionFields) (w w' : Option (List ℕ)) (f f' : ℕ) (status : Status)
    → IsSound blocks × IsFunctionOf function blocks
    → Closes (sound description blocks function) w w' f f' status ⊎ Closes no_memory w w' f f' status → Judges description blocks w w' f f' status
judges_sound description blocks function w w' f f' status holds (inl closed) =
    record { outcome = sound description blocks function; meant = inl (is_sound function holds.0 holds.1); closed = closed }
judges_sound description blocks function w w' f f' status holds (inr closed) = record { outcome = no_memory; meant = inr refl; closed = closed }

-- it was refused
pub judges_broken : (description : Description) (blocks : List Block) (stop : CheckStop) (w w' : Option (List ℕ)) (f f' : ℕ) (status : Status)
    → IsStopAt stop (first_fault_of blocks) → RefusesFunction stop w w' f f' status → Judges description blocks w w' f f' status
judges_broken description blocks (stops.Fault fault) w w' f f' status tells closed = record { outcome = unsound fault; meant = inl (is_broken fault tells); closed = closed }
judges_broken description blocks stops.NoMemory w w' f f' status tells closed = record { outcome = no_memory; meant = inr refl; closed = closed }

-- the elements were printed of a sound descriptor, where that was asked for
pub elements_said : (description : Description) (blocks : List Block) (function : FunctionFields) (w w' : Option (List ℕ)) (f f' : ℕ) (status : Status)
    → description ≡ Elements → Closes (sound Elements blocks function) w w' f f' status ⊎ Closes no_memory w w' f f' status
    → Closes (sound description blocks function) w w' f f' status ⊎ Closes no_memory w w' f f' status
elements_said description blocks function w w' f f' status is closed =
    subst (λ (d : Description). Closes (sound d blocks function) w w' f f' status ⊎ Closes no_memory w w' f f' status) (sym is) closed

-- ---- where no fault is told none was met

pub refuses_faultless : (stop : ReadStop) (w w' : Option (List ℕ)) (f f' : ℕ) (status : Status) → PrintsRefusal stop w w' f f' status → status ≢ statuses.WriteFault → f' ≡ f
refuses_faultless (Fault fault) w w' f f' status closed = closes_faultless (refusal fault) w w' f f' status closed
refuses_faultless NoMemory w w' f f' status closed = closes_faultless no_memory w w' f f' status closed
