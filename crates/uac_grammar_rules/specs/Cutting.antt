-- How bytes are cut into blocks: USB 2.0, 9.5, each descriptor begins with its length in bytes.
use Rattle.std.specs.List.{AllByRecursion}
use Rattle.std.specs.Prelude.{◌++◌, flat_map, ◌≡◌, ◌≤◌, ℕ, zero, suc, Bool, true, false, ◌&&◌, List, [], ◌∷◌, length, take, drop, nat_le}
use Rattle.std.specs.Prelude.{slice_index}

-- a block: as many bytes as its first byte says, at least 2
abbrev pub IsPiece : List ℕ → Type 0
IsPiece piece = (2 ≤ slice_index piece 0) × (length piece ≡ slice_index piece 0)

-- the blocks that bytes begin with, and the bytes after them, which begin with no whole block
pub record Cut : Type 0 where
  pub pieces : List (List ℕ)
  pub rest : List ℕ

-- a whole block stands in front: its length, the first byte, is at least 2, and as many bytes are there
abbrev pub begins_whole : List ℕ → Bool
begins_whole bytes = nat_le 2 (slice_index bytes 0) && nat_le (slice_index bytes 0) (length bytes)

abbrev pub with_piece : List ℕ → Cut → Cut
with_piece piece cut = record { pieces = piece ∷ cut.pieces; rest = cut.rest }

-- cut off the block in front, if it is whole, and go on
abbrev pub cut_front : Bool → List ℕ → (List ℕ → Cut) → Cut
cut_front false bytes go = record { pieces = []; rest = bytes }
cut_front true bytes go = with_piece (take (slice_index bytes 0) bytes) (go (drop (slice_index bytes 0) bytes))

-- at most n blocks
unfoldable pub chop_within : ℕ → List ℕ → Cut
chop_within zero bytes = record { pieces = []; rest = bytes }
chop_within (suc n) bytes = cut_front (begins_whole bytes) bytes (chop_within n)

-- the blocks, one after the other, each with as many bytes as its first byte says
unfoldable pub chop : List ℕ → Cut
chop bytes = chop_within (length bytes) bytes

-- what cutting gives: blocks, and a rest that begins with none, which together are the bytes
pub record IsCut (bytes : List ℕ) (cut : Cut) : Type 0 where
  pub joined : bytes ≡ flat_map (λ piece. piece) cut.pieces ++ cut.rest
  pub pieces_are : AllByRecursion IsPiece cut.pieces
  pub rest_is : begins_whole cut.rest ≡ false
