-- A block's bytes begin with their number, and the blocks' bytes stand one after the other.
use Rattle.std.proofs.Common.{false, ◌==◌, decimal, ◌≡◌, ℕ, ◌+◌, ◌-◌, ◌<◌, ◌≤◌, List, [], ◌∷◌, ◌++◌, length, take, drop, get_or, flat_map, arith, refl, ap, sym, ◌∙◌, append_assoc, append-nil, length-append}
use Rattle.std.proofs.lemmas.List.{get_or_append_left, take_at, drop_at, drop_more, drop-drop, length-drop, take_rest}
use Rattle.std.proofs.Math.ListN.{drop_of_length-le}
use Rattle.uac_descriptor.specs.declared.block.Block.{Block}
use Rattle.uac_descriptor.specs.Laws.{HasSpelling}
use Rattle.uac_descriptor.specs.Layout.{IsWhole}
use Rattle.uac_descriptor.specs.Spelling.{spelling}
use Rattle.uac_descriptor.proofs.SpellingLemmas.{is_whole-spelling}
use Rattle.uac_descriptor.proofs.BlockParsingLemmas.{IsWhole-is_whole}
use Rattle.uac_listing.specs.EntityLines.{ids_text, more_ids}
use Rattle.uac_listing.specs.BlockLines.{block_name, line_of, block_line, block_lines}

whole_spelling : (b : Block) → HasSpelling b → IsWhole (spelling b)
whole_spelling b h = IsWhole-is_whole (spelling b) (is_whole-spelling b h.spells.complete)

-- what stands in front where bytes begin with a whole block
pub record StandsInFront (bytes block : List ℕ) : Type 0 where
  pub some : 0 < length bytes
  pub size : get_or bytes 0 0 ≡ length block
  pub fits : length block ≤ length bytes
  pub front : take (length block) bytes ≡ block

pub in_front : (b : Block) (bytes following : List ℕ) → HasSpelling b → bytes ≡ spelling b ++ following → StandsInFront bytes (spelling b)
in_front b bytes following h e =
    let w = whole_spelling b h in
    let two : 2 ≤ length (spelling b) = w.0 in
    let n : length bytes ≡ length (spelling b) + length following = ap length e ∙ length-append (spelling b) following in
    let zero_in : 0 < length (spelling b) = omega arith in
    record {
      some = omega arith;
      size = ap (λ (xs : List ℕ). get_or xs 0 0) e ∙ (get_or_append_left (spelling b) following 0 0 zero_in ∙ w.1);
      fits = omega arith;
      front = ap (take (length (spelling b))) e ∙ take_at (spelling b) following (length (spelling b)) refl;
    }

-- the line of the block's own bytes
pub line-spelling : (place : ℕ) (b : Block) (bytes text : List ℕ) → bytes ≡ spelling b → text ≡ line_of place (block_name b) bytes → text ≡ block_line place b
unfolding block_line
line-spelling place b bytes text e t = t ∙ ap (line_of place (block_name b)) e

-- the lines so far, this block's line and the rest are all lines
lines_more : (place i : ℕ) (blocks : List Block) (b : Block) (text : List ℕ) → i < length blocks → b ≡ get_or blocks i b
    → text ++ block_lines place (drop i blocks) ≡ block_lines 0 blocks
    → (text ++ block_line place b) ++ block_lines (place + length (spelling b)) (drop (i + 1) blocks) ≡ block_lines 0 blocks
lines_more place i blocks b text h is whole =
    let split : drop i blocks ≡ b ∷ drop (i + 1) blocks = drop_more blocks i b h ∙ ap (λ x. x ∷ drop (i + 1) blocks) (sym is) in
    append_assoc text (block_line place b) (block_lines (place + length (spelling b)) (drop (i + 1) blocks))
    ∙ (ap (λ xs. text ++ block_lines place xs) (sym split) ∙ whole)

-- the same where a front of the lines that waited was written, and this block's line waits after the others
pub lines_wait : (place size i : ℕ) (blocks : List Block) (b : Block) (text front before after now : List ℕ) → i < length blocks → b ≡ get_or blocks i b
    → before ≡ front ++ after → now ≡ after ++ block_line place b → size ≡ length (spelling b)
    → (text ++ before) ++ block_lines place (drop i blocks) ≡ block_lines 0 blocks
    → ((text ++ front) ++ now) ++ block_lines (place + size) (drop (i + 1) blocks) ≡ block_lines 0 blocks
lines_wait place size i blocks b text front before after now h is parts waits n whole =
    let line : List ℕ = block_line place b in
    let rest : List Block = drop (i + 1) blocks in
    let grouped : (text ++ front) ++ now ≡ (text ++ before) ++ line =
    ap (λ (xs : List ℕ). (text ++ front) ++ xs) waits
    ∙ (sym (append_assoc (text ++ front) after line)
    ∙ ap (λ (xs : List ℕ). xs ++ line) (append_assoc text front after ∙ ap (λ (xs : List ℕ). text ++ xs) (sym parts))) in
    ap (λ (k : ℕ). ((text ++ front) ++ now) ++ block_lines (place + k) rest) n
    ∙ (ap (λ (xs : List ℕ). xs ++ block_lines (place + length (spelling b)) rest) grouped ∙ lines_more place i blocks b (text ++ before) h is whole)

-- after the last block the lines are all lines
pub lines_end : (place i : ℕ) (blocks : List Block) (text : List ℕ) → length blocks ≤ i → text ++ block_lines place (drop i blocks) ≡ block_lines 0 blocks
    → text ≡ block_lines 0 blocks
lines_end place i blocks text past whole =
    sym (append-nil text) ∙ (ap (λ (bs : List Block). text ++ block_lines place bs) (sym (drop_of_length-le blocks past)) ∙ whole)

-- the bytes after this block are those of the rest
pub bytes_more : (bytes : List ℕ) (place size i : ℕ) (blocks : List Block) (b : Block) → i < length blocks → b ≡ get_or blocks i b
    → place ≤ length bytes → drop place bytes ≡ flat_map spelling (drop i blocks) → size ≡ length (spelling b)
    → (place + size ≤ length bytes) × (drop (place + size) bytes ≡ flat_map spelling (drop (i + 1) blocks))
bytes_more bytes place size i blocks b h is within rest n =
    let split : drop i blocks ≡ b ∷ drop (i + 1) blocks = drop_more blocks i b h ∙ ap (λ x. x ∷ drop (i + 1) blocks) (sym is) in
    let following : List ℕ = flat_map spelling (drop (i + 1) blocks) in
    let parts : drop place bytes ≡ spelling b ++ following = rest ∙ ap (flat_map spelling) split in
    let count : length (drop place bytes) ≡ length (spelling b) + length following = ap length parts ∙ length-append (spelling b) following in
    let left = length-drop place bytes in
    (omega arith, sym (drop-drop size place bytes) ∙ (ap (drop size) parts ∙ drop_at (spelling b) following size (sym n)))

-- the first id, and the others after it
pub ids_parts : (ids text : List ℕ) → false ≡ (length ids == 0) → text ≡ decimal (get_or ids 0 0) → text ++ more_ids (take (length ids - 1) (drop 1 ids)) ≡ ids_text ids
ids_parts [] text e t = absurd (cc)
ids_parts (x ∷ xs) text e t =
    ap (λ ys. ys ++ more_ids (take (length (x ∷ xs) - 1) (drop 1 (x ∷ xs)))) t ∙ ap (λ ys. decimal x ++ more_ids ys) (take_rest (x ∷ xs) 1)
