-- What parsing a descriptor from a source comes to (profile).
use Rattle.std.specs.Prelude.{◌≡◌, ◌≤◌, ℕ, ◌⊎◌, List, ◌++◌, length, Option, None, Some}
use Rattle.std.specs.Io.KnownBytes.{Consumes, IsAtEnd}
use Rattle.uac_grammar_rules.specs.Grammar.{first_fault}
use Rattle.uac_grammar_rules.specs.Sentence.{IsSentence}
use Rattle.uac_grammar.specs.declared.fault.ReadStop.TheVariants.{Fault, NoMemory}
use Rattle.uac_grammar.specs.Stop.{shown_fault}
use Rattle.uac_edges.specs.Faults.{Rose}
use Rattle.uac_listing.specs.declared.parsing.SourceEnd.{SourceEnd}
use Rattle.uac_listing.specs.declared.parsing.SourceEnd.TheVariants.{Whole, Stopped, Failed}

-- at the end of the bytes: the verdict on all of them
abbrev pub Finishes : List ℕ → SourceEnd → Type 0
Finishes taken (Whole blocks) = IsSentence taken blocks.items
Finishes taken (Stopped (Fault fault)) = first_fault taken ≡ Some fault
Finishes taken (Stopped NoMemory) = Unit {0}
Finishes taken Failed = ⊥

-- what is known of the bytes taken, by what came of them
abbrev pub ComesOfSource : SourceEnd → List ℕ → Option (List ℕ) → ℕ → ℕ → Type 0
ComesOfSource (Whole blocks) taken left before after = IsAtEnd left × IsSentence taken blocks.items
ComesOfSource (Stopped (Fault fault)) taken left before after =
    (shown_fault taken ≡ Some fault) ⊎ (IsAtEnd left × (first_fault taken ≡ Some fault))
ComesOfSource (Stopped NoMemory) taken left before after = Unit {0}
ComesOfSource Failed taken left before after = Rose before after × (shown_fault taken ≡ None)

-- the most bytes that one call of the source is asked for
abbrev pub descriptor_piece : ℕ
descriptor_piece = 4096

-- Taking stopped at the fault: nothing was shown before the last piece.
pub record StopsThere (taken : List ℕ) : Type 0 where
  pub front : List ℕ
  pub piece : List ℕ
  pub parts : taken ≡ front ++ piece
  pub quiet : shown_fault front ≡ None
  pub short : length piece ≤ descriptor_piece

-- These bytes were taken, and this came of them.
pub record Reads (old new : Option (List ℕ)) (before after : ℕ) (end : SourceEnd) : Type 0 where
  pub taken : List ℕ
  pub consumed : Consumes old new taken
  pub prompt : StopsThere taken
  pub comes : ComesOfSource end taken new before after
