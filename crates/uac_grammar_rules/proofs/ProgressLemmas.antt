-- What a reader may conclude from the blocks that it has read: of the bytes to come, and at the end.
use Rattle.std.proofs.Common.{◌≡◌, ℕ, ◌+◌, ◌≤◌, ◌<◌, false, leb, ltb, List, [], ◌∷◌, ◌++◌, length, Some, None, refl, sym, ap, ◌∙◌, subst, inl, inr, arith, append_assoc, append-nil, length-append, add-zero, add_assoc, lt-ltb, le-ltb}
use Rattle.std.specs.Option.{option_or}
use Rattle.std.proofs.lemmas.Bool.{and_left, and_right, lt-leb, cases_lt, cond-true, cond-false}
use Rattle.uac_descriptor.specs.declared.block.Block as block
use Rattle.uac_descriptor.specs.Spelling.{spelling}
use Rattle.uac_descriptor.specs.LayoutRows.{Spells}
use Rattle.uac_descriptor.specs.BlockParsing.{AreBytes, block_of}
use Rattle.uac_descriptor.proofs.SpellingLemmas.{block_of-Spells}
use Rattle.uac_descriptor.proofs.BlockParsingLemmas.{Spells-block_of}
use Rattle.uac_grammar_rules.specs.declared.states.State.{State}
use Rattle.uac_grammar_rules.specs.Cutting.{IsPiece, begins_whole}
use Rattle.uac_grammar_rules.specs.Fault.{at_place, faults_from}
use Rattle.uac_grammar_rules.specs.Grammar.{grammar, start, state_after, state_read, rule_read, rule_broken, rule_at_end, first_fault}
use Rattle.uac_grammar_rules.specs.Sentence.{EachIn, SpellsItself, spellings, size, IsSentence}
use Rattle.uac_grammar_rules.specs.Progress.{state_following, BreakNone, HasRead}
use Rattle.uac_grammar_rules.proofs.FaultLemmas.{faults_from_piece, faults_from_rest}
use Rattle.uac_grammar_rules.proofs.GrammarLemmas.{bytes_in, Clear}
use Rattle.uac_grammar_rules.proofs.SentenceTotalLemmas.{size-cons}
use Rattle.uac_grammar_rules.proofs.SentenceLemmas.{piece_of, sentence_of}

-- ---- blocks that break no rule

-- what comes after them is judged in the state that they leave
after_blocks : (s : State) (place : ℕ) (blocks : List block.Block) (rest : List ℕ) → EachIn SpellsItself s.context blocks → BreakNone s place blocks
    → faults_from grammar s place (spellings blocks ++ rest) ≡ faults_from grammar (state_following s place blocks) (place + size blocks) rest
unfolding grammar state_after
after_blocks s place [] rest stand unbroken = ap (λ n. faults_from grammar s n rest) (sym (add-zero place))
after_blocks s place (b ∷ blocks) rest (stands, stand) (here, unbroken) =
    let read : block_of s.context (spelling b) ≡ Some b = block_of-Spells s.context b (spelling b) stands in
    let next : State = state_after s place b in
    let at : ℕ = place + bytes_in b in
    let tail : List ℕ = spellings blocks ++ rest in
    ap (faults_from grammar s place) (append_assoc (spelling b) (spellings blocks) rest)
    ∙ faults_from_piece grammar s place (spelling b) tail (piece_of s.context b stands)
    ∙ ap (λ o. option_or (at_place place (rule_read s place (length (spelling b)) o)) (faults_from grammar (state_read s place o) at tail)) read
    ∙ ap (λ r. option_or (at_place place r) (faults_from grammar next at tail)) here
    ∙ after_blocks next at blocks rest stand unbroken
    ∙ ap (λ n. faults_from grammar (state_following next at blocks) n rest) (add_assoc place (bytes_in b) (size blocks) ∙ ap (λ n. place + n) (sym (size-cons b blocks)))

-- with no rule broken at the end, none is broken at all
clear_following : (s : State) (place : ℕ) (blocks : List block.Block) → BreakNone s place blocks
    → rule_at_end (state_following s place blocks) (place + size blocks) ≡ None → Clear s place blocks
clear_following s place [] unbroken e = subst (λ n. rule_at_end s n ≡ None) (add-zero place) e
clear_following s place (b ∷ blocks) (here, unbroken) e = (
  here,
  clear_following (state_after s place b) (place + bytes_in b) blocks unbroken
      (subst (λ n. rule_at_end (state_following (state_after s place b) (place + bytes_in b) blocks) n ≡ None)
      (ap (λ n. place + n) (size-cons b blocks) ∙ sym (add_assoc place (bytes_in b) (size blocks))) e),
)

-- one block more at the end
stand_more : (s : State) (place : ℕ) (blocks : List block.Block) (b : block.Block) → EachIn SpellsItself s.context blocks
    → SpellsItself (state_following s place blocks).context b → EachIn SpellsItself s.context (blocks ++ b ∷ [])
unfolding state_after
stand_more s place [] b stand h = (h, tt)
stand_more s place (a ∷ blocks) b (stands, stand) h =
    (stands, stand_more (state_after s place a) (place + bytes_in a) blocks b stand h)

unbroken_more : (s : State) (place : ℕ) (blocks : List block.Block) (b : block.Block) → BreakNone s place blocks
    → rule_broken (state_following s place blocks) (place + size blocks) (bytes_in b) b ≡ None → BreakNone s place (blocks ++ b ∷ [])
unbroken_more s place [] b unbroken e = (subst (λ n. rule_broken s n (bytes_in b) b ≡ None) (add-zero place) e, tt)
unbroken_more s place (a ∷ blocks) b (here, unbroken) e = (
  here,
  unbroken_more (state_after s place a) (place + bytes_in a) blocks b unbroken
      (subst (λ n. rule_broken (state_following (state_after s place a) (place + bytes_in a) blocks) n (bytes_in b) b ≡ None)
      (ap (λ n. place + n) (size-cons a blocks) ∙ sym (add_assoc place (bytes_in a) (size blocks))) e),
)

more_following : (s : State) (place : ℕ) (blocks : List block.Block) (b : block.Block)
    → state_following s place (blocks ++ b ∷ []) ≡ state_after (state_following s place blocks) (place + size blocks) b
more_following s place [] b = ap (λ n. state_after s n b) (sym (add-zero place))
more_following s place (a ∷ blocks) b =
    more_following (state_after s place a) (place + bytes_in a) blocks b
    ∙ ap (λ n. state_after (state_following (state_after s place a) (place + bytes_in a) blocks) n b)
    (add_assoc place (bytes_in a) (size blocks) ∙ ap (λ n. place + n) (sym (size-cons a blocks)))

pub spellings-push : (blocks : List block.Block) (b : block.Block) → spellings (blocks ++ b ∷ []) ≡ spellings blocks ++ spelling b
spellings-push [] b = append-nil (spelling b)
spellings-push (a ∷ blocks) b = ap (λ y. spelling a ++ y) (spellings-push blocks b) ∙ sym (append_assoc (spelling a) (spellings blocks) (spelling b))

-- ---- the reader's steps

-- nothing was read
pub nothing_read : HasRead [] start 0
nothing_read = record { stand = tt; unbroken = tt; state_is = refl; place_is = refl }

-- a whole block that is read and breaks no rule is one block more
pub block_read : (blocks : List block.Block) (s : State) (place : ℕ) (piece : List ℕ) (b : block.Block) → HasRead blocks s place
    → AreBytes piece → block_of s.context piece ≡ Some b → rule_broken s place (length piece) b ≡ None
    → HasRead (blocks ++ b ∷ []) (state_after s place b) (place + length piece) × (spellings (blocks ++ b ∷ []) ≡ spellings blocks ++ piece)
unfolding start
block_read blocks s place piece b h are read e =
    let spells : Spells s.context b piece = Spells-block_of s.context piece b are read in
    let at : place ≡ 0 + size blocks = h.place_is ∙ omega arith in
    let stands : SpellsItself (state_following start 0 blocks).context b =
    subst (λ t. SpellsItself t.context b) h.state_is (subst (Spells s.context b) spells.spelt spells) in
    let here : rule_broken (state_following start 0 blocks) (0 + size blocks) (bytes_in b) b ≡ None =
    subst (λ t. rule_broken t (0 + size blocks) (bytes_in b) b ≡ None) h.state_is
    (subst (λ n. rule_broken s n (bytes_in b) b ≡ None) at (subst (λ y. rule_broken s place (length y) b ≡ None) spells.spelt e)) in (
      record {
        stand = stand_more start 0 blocks b h.stand stands;
        unbroken = unbroken_more start 0 blocks b h.unbroken here;
        state_is = ap (λ t. state_after t place b) h.state_is ∙ ap (λ n. state_after (state_following start 0 blocks) n b) at ∙ sym (more_following start 0 blocks b);
        place_is =
            ap (λ n. n + length piece) h.place_is ∙ ap (λ y. size blocks + length y) spells.spelt
            ∙ sym (length-append (spellings blocks) (spelling b)) ∙ sym (ap length (spellings-push blocks b));
      },
      spellings-push blocks b ∙ ap (λ y. spellings blocks ++ y) (sym spells.spelt),
    )

-- what more bytes are judged by
pub read_faults : (blocks : List block.Block) (s : State) (place : ℕ) → HasRead blocks s place
    → (rest : List ℕ) → first_fault (spellings blocks ++ rest) ≡ faults_from grammar s place rest
unfolding first_fault start
read_faults blocks s place h rest =
    after_blocks start 0 blocks rest h.stand h.unbroken
    ∙ ap (λ t. faults_from grammar t (0 + size blocks) rest) (sym h.state_is)
    ∙ ap (λ n. faults_from grammar s n rest) (let e : 0 + size blocks ≡ place = omega (arith, h.place_is) in e)

-- where the input ends and breaks no rule, the blocks are a sentence
pub read_sentence : (blocks : List block.Block) (s : State) (place : ℕ) → HasRead blocks s place → AreBytes (spellings blocks)
    → rule_at_end s place ≡ None → IsSentence (spellings blocks) blocks
read_sentence blocks s place h are e =
    sentence_of blocks are h.stand
    (clear_following start 0 blocks h.unbroken
    (subst (λ n. rule_at_end (state_following start 0 blocks) n ≡ None) (let at : place ≡ 0 + size blocks = omega (arith, h.place_is) in at)
    (subst (λ t. rule_at_end t place ≡ None) h.state_is e)))

-- ---- faults

module _ (s : State) (place : ℕ) where
  -- G3: a whole block that is none of its row's
  pub fault_unread : (piece rest : List ℕ) → IsPiece piece → block_of s.context piece ≡ None
      → faults_from grammar s place (piece ++ rest) ≡ Some (record { rule = 3; at = place })
  unfolding grammar
  fault_unread piece rest is read =
      faults_from_piece grammar s place piece rest is
      ∙ ap (λ o. option_or (at_place place (rule_read s place (length piece) o)) (faults_from grammar (state_read s place o) (place + length piece) rest)) read

  -- G4 to G9: a whole block that breaks a rule
  pub fault_broken : (piece rest : List ℕ) (b : block.Block) (rule : ℕ) → IsPiece piece → block_of s.context piece ≡ Some b
      → rule_broken s place (length piece) b ≡ Some rule → faults_from grammar s place (piece ++ rest) ≡ Some (record { rule = rule; at = place })
  unfolding grammar
  fault_broken piece rest b rule is read e =
      faults_from_piece grammar s place piece rest is
      ∙ ap (λ o. option_or (at_place place (rule_read s place (length piece) o)) (faults_from grammar (state_read s place o) (place + length piece) rest)) read
      ∙ ap (λ r. option_or (at_place place r) (faults_from grammar (state_after s place b) (place + length piece) rest)) e

  -- G2: a length below 2, and at least two bytes
  pub fault_short : (size kind : ℕ) (rest : List ℕ) → size < 2 → faults_from grammar s place (size ∷ kind ∷ rest) ≡ Some (record { rule = 2; at = place })
  fault_short size kind rest below =
      faults_from_rest grammar s place (size ∷ kind ∷ rest) (and_left (leb 2 size) (leb size (length (size ∷ kind ∷ rest))) (lt-leb 2 size below))
      ∙ ap (at_place place) (cond-true (ltb size 2) (Some 2) (Some 1) (lt-ltb size 2 below))

  -- G1: one byte alone
  pub fault_lone : (byte : ℕ) → faults_from grammar s place (byte ∷ []) ≡ Some (record { rule = 1; at = place })
  fault_lone byte = faults_from_rest grammar s place (byte ∷ []) (lone byte)
    where
      lone : (byte : ℕ) → begins_whole (byte ∷ []) ≡ false
      lone byte = elim (cases_lt byte 2) [
        | inl below ↦ and_left (leb 2 byte) (leb byte 1) (lt-leb 2 byte below)
        | inr above ↦ and_right (leb 2 byte) (leb byte 1) (lt-leb byte 1 (omega arith))
      ]

  -- G1: a block that runs past the end
  pub fault_partial : (size kind : ℕ) (rest : List ℕ) → 2 ≤ size → length (size ∷ kind ∷ rest) < size
      → faults_from grammar s place (size ∷ kind ∷ rest) ≡ Some (record { rule = 1; at = place })
  fault_partial size kind rest two past =
      faults_from_rest grammar s place (size ∷ kind ∷ rest) (and_right (leb 2 size) (leb size (length (size ∷ kind ∷ rest))) (lt-leb size (length (size ∷ kind ∷ rest)) past))
      ∙ ap (at_place place) (cond-false (ltb size 2) (Some 2) (Some 1) (le-ltb size 2 two))

  -- the input ends here
  pub fault_at_end : faults_from grammar s place [] ≡ at_place place (rule_at_end s place)
  unfolding grammar
  fault_at_end = faults_from_rest grammar s place [] refl
