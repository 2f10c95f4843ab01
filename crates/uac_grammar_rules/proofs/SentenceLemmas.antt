-- There is no fault exactly where some blocks make a sentence of the bytes, and such blocks are unique.
use Rattle.std.proofs.Common.{◌≡◌, ℕ, ◌+◌, ◌≤◌, ◌<◌, Bool, true, false, leb, eqb, List, [], ◌∷◌, ◌++◌, length, get_or, take, drop, flat_map, ltb, if◌then◌else◌, Option, Some, None, refl, sym, ap, ◌∙◌, subst, inl, inr, arith, leb-true, eqb-true, append-nil, length-append, take_at, drop_at, get_or-append-add}
use Rattle.std.specs.Option.{option_or}
use Rattle.std.proofs.lemmas.Bool.{and_parts, cases_lt}
use Rattle.std.proofs.lemmas.List.{get_or_append_left, get_or_past}
use Rattle.uac_descriptor.specs.declared.context.Context.{Context}
use Rattle.uac_descriptor.specs.declared.context.Context.TheVariants as context
use Rattle.uac_descriptor.specs.declared.block.Block as block
use Rattle.uac_descriptor.specs.declared.block.Block.TheVariants as variant
use Rattle.uac_descriptor.specs.Spelling.{spelling}
use Rattle.uac_descriptor.specs.LayoutRows.{Spells}
use Rattle.uac_descriptor.specs.BlockParsing.{AreBytes, is_whole, block_of}
use Rattle.uac_descriptor.proofs.SpellingLemmas.{is_whole-spelling, block_of-Spells}
use Rattle.uac_descriptor.proofs.BlockParsingLemmas.{Spells-block_of}
use Rattle.uac_grammar_rules.specs.declared.stages.OrderStage.TheVariants as stage
use Rattle.uac_grammar_rules.specs.declared.states.State.{State}
use Rattle.uac_grammar_rules.specs.Cutting.{IsPiece, chop}
use Rattle.uac_grammar_rules.specs.Fault.{at_place, rest_rule, faults_over, faults_from}
use Rattle.uac_grammar_rules.specs.BlockRole.{role_of, context_after}
use Rattle.uac_grammar_rules.specs.Grammar.{grammar, start, state_after, state_read, rule_read, rule_broken, rule_at_end, first_fault}
use Rattle.uac_grammar_rules.specs.Values.{HasValues}
use Rattle.uac_grammar_rules.specs.Sentence.{EachIn, SpellsItself, spellings, IsSentence}
use Rattle.uac_grammar_rules.proofs.CuttingLemmas.{chop_is_cut}
use Rattle.uac_grammar_rules.proofs.FaultLemmas.{faults_from_piece, faults_from_rest}
use Rattle.uac_grammar_rules.proofs.OrderStagesLemmas.{goes_allows, allows_goes}
use Rattle.uac_grammar_rules.proofs.GrammarLemmas.{bytes_in, Clear, HasNoWrongValue, clear_parts, parts_clear}
use Rattle.uac_grammar_rules.proofs.ValuesLemmas.{EachIn-weaker, right_values, no_wrong_value}
use Rattle.uac_grammar_rules.proofs.SentenceListLemmas.{listed_entities}
use Rattle.uac_grammar_rules.proofs.SentenceTotalLemmas.{whole_total, total_whole, list_total, total_list}
use Rattle.uac_grammar_rules.proofs.SentenceTurnLemmas.{HasSmallNumbers, in_turn, turn_in}

-- ---- bytes

pub bytes_left : (xs ys : List ℕ) → AreBytes (xs ++ ys) → AreBytes xs
bytes_left xs ys are i =
    elim (cases_lt i (length xs)) [
      | inl below ↦ subst (λ n. n < 256) (get_or_append_left xs ys 0 i below) (are i)
      | inr past ↦ (let e : get_or xs i 0 ≡ 0 = get_or_past xs i 0 past in omega (arith, e))
    ]

pub bytes_right : (xs ys : List ℕ) → AreBytes (xs ++ ys) → AreBytes ys
bytes_right xs ys are i = subst (λ n. n < 256) (get_or-append-add xs ys i 0) (are (length xs + i))

-- a block that may stand somewhere is spelt by a whole piece
pub piece_of : (context : Context) (b : block.Block) → SpellsItself context b → IsPiece (spelling b)
unfolding is_whole
piece_of context b stands =
    let (two, fits) = and_parts (leb 2 (length (spelling b))) (eqb (get_or (spelling b) 0 0) (length (spelling b))) (is_whole-spelling b stands.complete) in
    let e : get_or (spelling b) 0 0 ≡ length (spelling b) = eqb-true (get_or (spelling b) 0 0) (length (spelling b)) fits in
    let low : 2 ≤ length (spelling b) = leb-true 2 (length (spelling b)) two in
    (omega arith, sym e)

-- the number of an interface is a byte
pub small_numbers : (blocks : List block.Block) → AreBytes (spellings blocks) → HasSmallNumbers blocks
unfolding spelling
small_numbers [] are = tt
small_numbers (variant.Interface i ∷ blocks) are =
    (are 2, small_numbers blocks (bytes_right (spelling (variant.Interface i)) (spellings blocks) are))
small_numbers (b ∷ blocks) are = small_numbers blocks (bytes_right (spelling b) (spellings blocks) are)

-- ---- from no fault to blocks

-- blocks that were read with no fault from a state on
record HasBlocks (s : State) (place : ℕ) (pieces : List (List ℕ)) (rest : List ℕ) : Type 0 where
  blocks : List block.Block
  spelt : flat_map (λ piece. piece) pieces ≡ spellings blocks
  stand : EachIn SpellsItself s.context blocks
  clear : Clear s place blocks
  nothing_left : rest ≡ []

pub at_place_none : (place : ℕ) (o : Option ℕ) → at_place place o ≡ None → o ≡ None
at_place_none place None e = refl
at_place_none place (Some rule) e = cc

option_or_none : {T : Type 0} (o p : Option T) → option_or o p ≡ None → (o ≡ None) × (p ≡ None)
option_or_none None p e = (refl, e)
option_or_none (Some x) p e = cc

rest_none : (ended : Option ℕ) (rest : List ℕ) → rest_rule ended rest ≡ None → (rest ≡ []) × (ended ≡ None)
rest_none ended [] e = (refl, e)
rest_none ended (x ∷ []) e = cc
rest_none ended (x ∷ y ∷ rest) e = absurd (one_or_two (ltb x 2) e)
  where
    one_or_two : (b : Bool) → if◌then◌else◌ {A = Option ℕ} b (Some 2) (Some 1) ≡ None → ⊥
    one_or_two true e = cc
    one_or_two false e = cc

-- one block in front
one_more : (s : State) (place : ℕ) (piece : List ℕ) (pieces : List (List ℕ)) (rest : List ℕ) (b : block.Block)
    → Spells s.context b piece → rule_broken s place (length piece) b ≡ None
    → HasBlocks (state_after s place b) (place + length piece) pieces rest → HasBlocks s place (piece ∷ pieces) rest
unfolding state_after
one_more s place piece pieces rest b spells e h =
    let at : length piece ≡ bytes_in b = ap length spells.spelt in
    record {
      blocks = b ∷ h.blocks;
      spelt = ap (λ y. piece ++ y) h.spelt ∙ ap (λ y. y ++ spellings h.blocks) spells.spelt;
      stand = (subst (Spells s.context b) spells.spelt spells, h.stand);
      clear = (subst (λ n. rule_broken s place n b ≡ None) at e, subst (λ n. Clear (state_after s place b) (place + n) h.blocks) at h.clear);
      nothing_left = h.nothing_left;
    }

blocks_from : (s : State) (place : ℕ) (pieces : List (List ℕ)) (rest : List ℕ) → AreBytes (flat_map (λ piece. piece) pieces)
    → faults_over grammar s place pieces rest ≡ None → HasBlocks s place pieces rest
unfolding grammar
blocks_from s place [] rest are e =
    let (nothing_left, ended) = rest_none (rule_at_end s place) rest (at_place_none place (rest_rule (rule_at_end s place) rest) e) in
    record { blocks = []; spelt = refl; stand = tt; clear = ended; nothing_left = nothing_left }
blocks_from s place (piece ∷ pieces) rest are e =
    read (block_of s.context piece) refl
    (λ s'. blocks_from s' (place + length piece) pieces rest (bytes_right piece (flat_map (λ y. y) pieces) are)) e
  where
    read : (o : Option block.Block) → block_of s.context piece ≡ o
        → ((s' : State) → faults_over grammar s' (place + length piece) pieces rest ≡ None → HasBlocks s' (place + length piece) pieces rest)
        → option_or (at_place place (rule_read s place (length piece) o)) (faults_over grammar (state_read s place o) (place + length piece) pieces rest) ≡ None
        → HasBlocks s place (piece ∷ pieces) rest
    read None is go e = cc
    read (Some b) is go e =
        let (here, there) = option_or_none (at_place place (rule_broken s place (length piece) b)) (faults_over grammar (state_after s place b) (place + length piece) pieces rest) e in
        one_more s place piece pieces rest b
        (Spells-block_of s.context piece b (bytes_left piece (flat_map (λ y. y) pieces) are) is)
        (at_place_none place (rule_broken s place (length piece) b) here)
        (go (state_after s place b) there)

-- ---- from blocks to no fault

none_from : (s : State) (place : ℕ) (blocks : List block.Block) → EachIn SpellsItself s.context blocks → Clear s place blocks
    → faults_from grammar s place (spellings blocks) ≡ None
unfolding grammar state_after
none_from s place [] stand clear = faults_from_rest grammar s place [] refl ∙ ap (at_place place) clear
none_from s place (b ∷ blocks) (stands, stand) (here, clear) =
    let read : block_of s.context (spelling b) ≡ Some b = block_of-Spells s.context b (spelling b) stands in
    faults_from_piece grammar s place (spelling b) (spellings blocks) (piece_of s.context b stands)
    ∙ ap (λ o. option_or (at_place place (rule_read s place (length (spelling b)) o)) (faults_from grammar (state_read s place o) (place + length (spelling b)) (spellings blocks))) read
    ∙ ap (λ r. option_or (at_place place r) (faults_from grammar (state_after s place b) (place + length (spelling b)) (spellings blocks))) here
    ∙ none_from (state_after s place b) (place + length (spelling b)) blocks stand clear

-- ---- the laws

pub sentence_of : (blocks : List block.Block) → AreBytes (spellings blocks) → EachIn SpellsItself context.DeviceFront blocks → Clear start 0 blocks
    → IsSentence (spellings blocks) blocks
unfolding start
sentence_of blocks are stand clear =
    let parts = clear_parts start 0 blocks clear in
    record {
      are_bytes = are;
      spelt = refl;
      stand = stand;
      order = goes_allows role_of stage.Start blocks parts.goes;
      in_turn = in_turn blocks (small_numbers blocks are) parts.turn;
      whole_total = whole_total 0 blocks parts.end;
      list_total = (listed_entities blocks stand parts.goes).0 (list_total 0 blocks parts.list);
      values = EachIn-weaker HasNoWrongValue HasValues right_values context.DeviceFront blocks parts.values;
    }

-- the bytes of the blocks of a sentence are bytes
pub spelt_bytes : (bytes : List ℕ) (blocks : List block.Block) → IsSentence bytes blocks → AreBytes (spellings blocks)
spelt_bytes bytes blocks sentence = subst AreBytes sentence.spelt sentence.are_bytes

clear_of : (bytes : List ℕ) (blocks : List block.Block) → IsSentence bytes blocks → Clear start 0 blocks
unfolding start
clear_of bytes blocks sentence =
    parts_clear start 0 blocks (record {
      values = EachIn-weaker HasValues HasNoWrongValue no_wrong_value context.DeviceFront blocks sentence.values;
      end = total_whole 0 blocks sentence.whole_total;
      list = total_list 0 blocks ((listed_entities blocks sentence.stand (allows_goes role_of stage.Start blocks sentence.order)).1 sentence.list_total);
      goes = allows_goes role_of stage.Start blocks sentence.order;
      turn = turn_in blocks (small_numbers blocks (spelt_bytes bytes blocks sentence)) sentence.in_turn;
    })

pub none_sentence : (bytes : List ℕ) → AreBytes bytes → first_fault bytes ≡ None → (blocks : List block.Block) × IsSentence bytes blocks
unfolding first_fault faults_from start
none_sentence bytes are e =
    let cut = chop_is_cut bytes in
    let all : AreBytes (flat_map (λ piece. piece) (chop bytes).pieces ++ (chop bytes).rest) = subst AreBytes cut.joined are in
    let h = blocks_from start 0 (chop bytes).pieces (chop bytes).rest (bytes_left (flat_map (λ piece. piece) (chop bytes).pieces) (chop bytes).rest all) e in
    let whole : bytes ≡ spellings h.blocks =
    cut.joined ∙ ap (λ y. flat_map (λ piece. piece) (chop bytes).pieces ++ y) h.nothing_left
    ∙ append-nil (flat_map (λ piece. piece) (chop bytes).pieces) ∙ h.spelt in
    (h.blocks, subst (λ y. IsSentence y h.blocks) (sym whole) (sentence_of h.blocks (subst AreBytes whole are) h.stand h.clear))

pub sentence_none : (bytes : List ℕ) (blocks : List block.Block) → IsSentence bytes blocks → first_fault bytes ≡ None
unfolding first_fault start
sentence_none bytes blocks sentence =
    ap (faults_from grammar start 0) sentence.spelt
    ∙ none_from start 0 blocks sentence.stand (clear_of bytes blocks sentence)

-- two lists of blocks with the same bytes are the same
same_blocks : (context : Context) (one other : List block.Block) → EachIn SpellsItself context one → EachIn SpellsItself context other
    → spellings one ≡ spellings other → one ≡ other
same_blocks context [] [] stand stand' e = refl
same_blocks context [] (b ∷ other) stand (stands, stand') e =
    absurd (let (two, fits) = piece_of context b stands in omega (arith, ap length e, length-append (spelling b) (spellings other)))
same_blocks context (a ∷ one) [] (stands, stand) stand' e =
    absurd (let (two, fits) = piece_of context a stands in omega (arith, ap length e, length-append (spelling a) (spellings one)))
same_blocks context (a ∷ one) (b ∷ other) (stands, stand) (stands', stand') e =
    let (two, fits) = piece_of context a stands in
    let (two', fits') = piece_of context b stands' in
    let first_a : get_or (spelling a ++ spellings one) 0 0 ≡ get_or (spelling a) 0 0 = get_or_append_left (spelling a) (spellings one) 0 0 (omega arith) in
    let first_b : get_or (spelling b ++ spellings other) 0 0 ≡ get_or (spelling b) 0 0 = get_or_append_left (spelling b) (spellings other) 0 0 (omega arith) in
    let n : length (spelling a) ≡ length (spelling b) = fits ∙ sym first_a ∙ ap (λ y. get_or y 0 0) e ∙ first_b ∙ sym fits' in
    let front : spelling a ≡ spelling b =
    sym (take_at (spelling a) (spellings one) (length (spelling b)) n) ∙ ap (take (length (spelling b))) e ∙ take_at (spelling b) (spellings other) (length (spelling b)) refl in
    let back : spellings one ≡ spellings other =
    sym (drop_at (spelling a) (spellings one) (length (spelling b)) n) ∙ ap (drop (length (spelling b))) e ∙ drop_at (spelling b) (spellings other) (length (spelling b)) refl in
    let same : a ≡ b = some_is a b (sym (block_of-Spells context a (spelling a) stands) ∙ ap (block_of context) front ∙ block_of-Spells context b (spelling b) stands') in
    ap (λ x. x ∷ one) same
    ∙ ap (λ xs. b ∷ xs) (same_blocks (context_after context b) one other (subst (λ x. EachIn SpellsItself (context_after context x) one) same stand) stand' back)
  where
    some_is : (a b : block.Block) → Some a ≡ Some b → a ≡ b
    some_is a b e = cc

pub sentence_unique : (bytes : List ℕ) (one other : List block.Block) → IsSentence bytes one → IsSentence bytes other → one ≡ other
sentence_unique bytes one other h h' = same_blocks context.DeviceFront one other h.stand h'.stand (sym h.spelt ∙ h'.spelt)
