-- From what was taken of an input to what is said of the whole of it.
use Rattle.std.proofs.Common.{◌≡◌, ℕ, List, ◌++◌, Option, None, Some, refl, sym, ap, subst, ◌∙◌}
use Rattle.std.proofs.lemmas.List.{append-nil}
use Rattle.std.specs.Io.KnownBytes.{Consumes, IsAtEnd}
use Rattle.uac_descriptor.specs.declared.block.Block.{Block}
use Rattle.uac_grammar_rules.specs.declared.faults.GrammarFault.{GrammarFault}
use Rattle.uac_grammar_rules.specs.Grammar.{first_fault}
use Rattle.uac_grammar_rules.specs.Sentence.{IsSentence}
use Rattle.uac_grammar_rules.proofs.SentenceLemmas.{sentence_none, sentence_unique}
use Rattle.uac_grammar.specs.declared.fault.ReadStop.TheVariants.{Fault}
use Rattle.uac_grammar.specs.Stop.{stop_at}
use Rattle.uac_grammar.proofs.ReaderKeptLemmas.{shown_stop_first, shown_stop_stays}
use Rattle.uac_grammar.proofs.StopLemmas.{stop_at-Fault}
use Rattle.uac_topology_rules.specs.declared.fault.TopologyFault.{TopologyFault}
use Rattle.uac_topology.proofs.DescriptionLemmas.{function_is}
use Rattle.uac_listing.specs.declared.description.Description.{Description}
use Rattle.uac_ends.specs.Closing.{ShowsEnd, HasNoFault}
use Rattle.uac_ends.specs.Outcome.{End, at_end, Outcome, refusal, unsound}
use Rattle.uac_listing.specs.Outcome.{sound, IsTopologyVerdict, is_sound, is_broken, IsOutcomeOf, shows_fault, fails, ends_in_fault, is_read}

-- ---- what was taken

-- what was taken is a front of all the bytes, and all of them where none is left
pub record IsFront (bytes taken : List ℕ) (left : Option (List ℕ)) : Type 0 where
  pub rest : List ℕ
  pub parts : bytes ≡ taken ++ rest
  pub whole : IsAtEnd left → taken ≡ bytes

pub front_of : (left left' : Option (List ℕ)) (bytes taken : List ℕ) → left ≡ Some bytes → Consumes left left' taken → IsFront bytes taken left'
front_of None left' bytes taken is consumed = absurd (cc)
front_of (Some all) None bytes taken is consumed = absurd consumed
front_of (Some all) (Some rest) bytes taken is consumed =
    let same : all ≡ bytes = cc in
    record {
      rest = rest;
      parts = sym same ∙ consumed;
      whole = (λ none. sym (append-nil taken) ∙ ap (λ (zs : List ℕ). taken ++ zs) (sym none) ∙ sym consumed ∙ same);
    }

-- ---- a descriptor

-- what is said of what was taken is said of all the bytes
said_of_all : (description : Description) (bytes taken : List ℕ) (left : Option (List ℕ)) (reads reads' : ℕ) (end : End) (outcome : Outcome)
    → IsFront bytes taken left → HasNoFault reads reads' → ShowsEnd end left reads reads' → IsOutcomeOf description taken end outcome → IsOutcomeOf description bytes at_end outcome
said_of_all description bytes taken left reads reads' end outcome front rests ended (shows_fault same fault shown) =
    let stop = shown_stop_first (taken ++ front.rest) (Fault fault) (shown_stop_stays taken front.rest (Fault fault) (ap stop_at shown)) in
    ends_in_fault fault (ap first_fault front.parts ∙ stop_at-Fault (first_fault (taken ++ front.rest)) fault stop)
said_of_all description bytes taken left reads reads' end outcome front rests ended (fails none) = absurd (rests ended)
said_of_all description bytes taken left reads reads' end outcome front rests ended (ends_in_fault fault first) =
    ends_in_fault fault (ap first_fault (sym (front.whole ended.0)) ∙ first)
said_of_all description bytes taken left reads reads' end outcome front rests ended (is_read blocks told sentence verdict) =
    is_read blocks told (subst (λ (bs : List ℕ). IsSentence bs blocks) (front.whole ended.0) sentence) verdict

-- by the first fault of all the bytes, or by their blocks
data IsSaid (description : Description) (bytes : List ℕ) (outcome : Outcome) : Type 0 where
  at_fault : (fault : GrammarFault) → first_fault bytes ≡ Some fault → outcome ≡ refusal fault → IsSaid description bytes outcome
  at_blocks : (blocks : List Block) → IsSentence bytes blocks → IsTopologyVerdict description blocks outcome → IsSaid description bytes outcome

said_by : (description : Description) (bytes : List ℕ) (end : End) (outcome : Outcome) → end ≡ at_end → IsOutcomeOf description bytes end outcome → IsSaid description bytes outcome
said_by description bytes end outcome last (shows_fault same fault shown) =
    at_fault fault (stop_at-Fault (first_fault bytes) fault (shown_stop_first bytes (Fault fault) (ap stop_at shown))) refl
said_by description bytes end outcome last (fails none) = absurd (cc)
said_by description bytes end outcome last (ends_in_fault fault first) = at_fault fault first refl
said_by description bytes end outcome last (is_read blocks told sentence verdict) = at_blocks blocks sentence verdict

-- one thing is said of blocks
one_verdict : (description : Description) (blocks : List Block) (one other : Outcome) → IsTopologyVerdict description blocks one → IsTopologyVerdict description blocks other → one ≡ other
one_verdict description blocks one other (is_sound f none is) (is_sound g none' is') =
    ap (sound description blocks) (function_is f blocks is ∙ sym (function_is g blocks is'))
one_verdict description blocks one other (is_sound f none is) (is_broken fault first) = absurd (let both : None ≡ Some fault = sym none ∙ first in cc)
one_verdict description blocks one other (is_broken fault first) (is_sound f none is) = absurd (let both : None ≡ Some fault = sym none ∙ first in cc)
one_verdict description blocks one other (is_broken fault first) (is_broken fault' first') =
    let both : Some fault ≡ Some fault' = sym first ∙ first' in let same : fault ≡ fault' = cc in ap unsound same

-- one thing is said of bytes
one_said : (description : Description) (bytes : List ℕ) (one other : Outcome) → IsSaid description bytes one → IsSaid description bytes other → one ≡ other
one_said description bytes one other (at_fault fault first is) (at_fault fault' first' is') =
    let both : Some fault ≡ Some fault' = sym first ∙ first' in let same : fault ≡ fault' = cc in is ∙ ap refusal same ∙ sym is'
one_said description bytes one other (at_fault fault first is) (at_blocks blocks sentence verdict) =
    absurd (let both : None ≡ Some fault = sym (sentence_none bytes blocks sentence) ∙ first in cc)
one_said description bytes one other (at_blocks blocks sentence verdict) (at_fault fault first is) =
    absurd (let both : None ≡ Some fault = sym (sentence_none bytes blocks sentence) ∙ first in cc)
one_said description bytes one other (at_blocks blocks sentence verdict) (at_blocks blocks' sentence' verdict') =
    one_verdict description blocks one other verdict
    (subst (λ (bs : List Block). IsTopologyVerdict description bs other) (sentence_unique bytes blocks' blocks sentence' sentence) verdict')

-- what is said of what was taken is what is said of all the bytes
pub said_once : (description : Description) (bytes taken : List ℕ) (left left' : Option (List ℕ)) (reads reads' : ℕ) (end : End) (outcome all : Outcome)
    → left ≡ Some bytes → Consumes left left' taken → HasNoFault reads reads' → ShowsEnd end left' reads reads' → IsOutcomeOf description taken end outcome
    → IsOutcomeOf description bytes at_end all → outcome ≡ all
said_once description bytes taken left left' reads reads' end outcome all is consumed rests ended answers whole =
    one_said description bytes outcome all
    (said_by description bytes at_end outcome refl
    (said_of_all description bytes taken left' reads reads' end outcome (front_of left left' bytes taken is consumed) rests ended answers))
    (said_by description bytes at_end all refl whole)
