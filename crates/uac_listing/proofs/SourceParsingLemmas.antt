-- What a reader that goes on or stops has shown.
use Rattle.std.proofs.Common.{◌≡◌, ◌≢◌, ◌<◌, ◌≤◌, length, take, subst, arith, ℕ, inl, inr, List, [], ◌++◌, ◌∙◌, ap, sym, Option, None, Some, refl}
use Rattle.std.proofs.lemmas.List.{append-nil}
use Rattle.std.specs.Io.KnownBytes.{Consumes, IsAtEnd}
use Rattle.uac_grammar.specs.declared.fault.ReadStop.{ReadStop}
use Rattle.uac_grammar.specs.declared.fault.ReadStop.TheVariants.{Fault, NoMemory}
use Rattle.uac_grammar.specs.Stop.{first_stop, shown_fault, shown_stop}
use Rattle.uac_grammar.proofs.ReaderKeptLemmas.{no_stop_no_fault}
use Rattle.uac_grammar.proofs.StopLemmas.{stop_at-Fault}
use Rattle.uac_listing.specs.declared.parsing.SourceEnd.{SourceEnd}
use Rattle.uac_listing.specs.declared.parsing.SourceEnd.TheVariants.{Whole, Stopped, Failed}
use Rattle.uac_grammar_rules.specs.Cutting.{chop, chop_within}
use Rattle.uac_grammar_rules.specs.Fault.{faults_from}
use Rattle.uac_grammar_rules.specs.Grammar.{first_fault, grammar, rule_at_end, start}
use Rattle.uac_listing.specs.SourceParsing.{descriptor_piece, StopsThere, ComesOfSource, Reads, Finishes}
use Rattle.uac_edges.proofs.KnownBytesLemmas.{Consumes-Consumes}

-- no bytes show nothing: their fault is that the configuration is missing
pub nothing_shown : shown_fault [] ≡ None
unfolding first_fault faults_from chop chop_within grammar rule_at_end start
nothing_shown = refl

-- nothing is shown so far
pub quiet_so_far : (taken : List ℕ) → shown_fault taken ≡ None → StopsThere taken
quiet_so_far taken quiet = record { front = taken; piece = []; parts = sym (append-nil taken); quiet = quiet; short = (omega arith) }

-- A reader that was going on stopped at a piece: its fault is that of the bytes, or there was no memory.
pub stopped_at : (a b c : Option (List ℕ)) (before after : ℕ) (taken piece : List ℕ) (stop : ReadStop) (told : Option ReadStop)
    → Consumes a b taken → Consumes b c piece → shown_fault taken ≡ None → length piece ≤ descriptor_piece → told ≡ Some stop
    → (told ≢ Some NoMemory → told ≡ shown_stop (taken ++ piece))
    → Reads a c before after (Stopped stop)
stopped_at a b c before after taken piece NoMemory told p q quiet short e shown = record {
  taken = taken ++ piece;
  consumed = Consumes-Consumes a b c taken piece p q;
  prompt = record { front = taken; piece = piece; parts = refl; quiet = quiet; short = short };
  comes = tt;
}
stopped_at a b c before after taken piece (Fault f) told p q quiet short e shown =
    let same : shown_stop (taken ++ piece) ≡ Some (Fault f) = sym (shown (λ n. cc)) ∙ e in
    record {
      taken = taken ++ piece;
      consumed = Consumes-Consumes a b c taken piece p q;
      prompt = record { front = taken; piece = piece; parts = refl; quiet = quiet; short = short };
      comes = inl (stop_at-Fault (shown_fault (taken ++ piece)) f same);
    }

-- A reader goes on after a piece: nothing is shown so far.
pub went_on : (taken piece taken' : List ℕ) (told : Option ReadStop) → told ≡ None → taken' ≡ taken ++ piece
    → (told ≢ Some NoMemory → told ≡ shown_stop (taken ++ piece)) → shown_fault taken' ≡ None
went_on taken piece taken' told none e shown =
    ap shown_fault e ∙ no_stop_no_fault (shown_fault (taken ++ piece)) (sym (shown (λ n. cc)) ∙ none)

-- The verdict on all bytes, by what stopped it.
pub finished_by : (taken : List ℕ) (stop : ReadStop) → (stop ≢ NoMemory → first_stop taken ≡ Some stop) → Finishes taken (Stopped stop)
finished_by taken NoMemory h = tt
finished_by taken (Fault f) h = stop_at-Fault (first_fault taken) f (h (λ n. cc))

-- Nothing was left: the verdict on all bytes is what reading came to.
pub ended_by : (a b c : Option (List ℕ)) (before after : ℕ) (taken into : List ℕ) (n : ℕ) (reading : SourceEnd)
    → Consumes a b taken → Consumes b c (take n into) × (n ≡ 0 → 0 < length into → IsAtEnd c) → n ≡ 0 → 0 < length into
    → shown_fault taken ≡ None → Finishes taken reading → Reads a c before after reading
ended_by a b c before after taken into n reading p q zero some quiet finishes =
    let none : take n into ≡ [] = ap (λ (k : ℕ). take k into) zero in
    let all : Consumes a c (taken ++ take n into) = Consumes-Consumes a b c taken (take n into) p q.0 in
    record {
      taken = taken;
      consumed = subst (λ (xs : List ℕ). Consumes a c xs) (ap (λ (xs : List ℕ). taken ++ xs) none ∙ append-nil taken) all;
      prompt = quiet_so_far taken quiet;
      comes = came taken c before after reading (q.1 zero some) finishes;
    }
  where
    came : (taken : List ℕ) (c : Option (List ℕ)) (before after : ℕ) (reading : SourceEnd) → IsAtEnd c → Finishes taken reading → ComesOfSource reading taken c before after
    came taken c before after (Whole blocks) end f = (end, f)
    came taken c before after (Stopped (Fault fault)) end f = inr (end, f)
    came taken c before after (Stopped NoMemory) end f = tt
    came taken c before after Failed end f = absurd f
