-- Profile: the lines of a script, each ended by a newline; a last line without one counts if it isn't empty.
use Rattle.std.specs.Prelude.{◌≡◌, ◌≢◌, ℕ, ◌+◌, ◌≤◌, ◌==◌, Bool, true, false, not, nat_lt, if◌then◌else◌, List, [], ◌++◌, length, take}
use Rattle.std.specs.Prelude.{drop}
use Rattle.std.specs.Prelude.{take_while, Option, None, Some, ◌⊎◌, Result, Ok, Err}
use Rattle.std.specs.Io.KnownBytes.{Consumes, IsAtEnd}
use Rattle.uac_edges.specs.Faults.{Rose}
use Rattle.uac_edges.specs.Memory.{raised_count}
use Rattle.uac_lines.specs.declared.lines.Next.{Next}
use Rattle.uac_lines.specs.declared.lines.Next.TheVariants as next
use Rattle.uac_lines.specs.declared.lines.LineStop.{LineStop}
use Rattle.uac_lines.specs.declared.lines.LineStop.TheVariants as stop

-- the most bytes of a line, without its newline
abbrev pub most_of_line : ℕ
most_of_line = 4096

-- the most bytes of an input
abbrev pub most_of_input : ℕ
most_of_input = 268435456

-- what stands first in bytes of which no more than so many count
pub data Head : Type 0 where
  -- a line, and what stands after its newline
  line : List ℕ → List ℕ → Head
  -- a line of more than 4,096 bytes, each of them among those that count
  long : Head
  -- a line, of which a byte or the newline stands past those that count
  past : Head
  -- bytes that no newline ends yet
  unended : List ℕ → Head

unfoldable pub head_of : ℕ → List ℕ → Head
head_of most bytes =
    let counted = take most bytes in
    let text = take_while (λ b. not (b == 10)) counted in
    if nat_lt most_of_line (length text) then long
    else if nat_lt (length text) (length counted) then line text (drop (length text + 1) bytes)
    else if nat_lt most (length bytes) then past
    else unended text

-- no byte more is needed to tell what stands first
abbrev pub IsDecided : Head → Type 0
IsDecided (line text rest) = Unit {0}
IsDecided long = Unit {0}
IsDecided past = Unit {0}
IsDecided (unended text) = ⊥

-- a reader of lines: the last line, its number from 1, the bytes that were taken and aren't in a line yet, how many
-- bytes may still go into lines, what stopped it, and whether the last line stood at the end of the source with no newline after it
pub record Splitting : Type 0 where
  pub text : List ℕ
  pub number : ℕ
  pub unread : List ℕ
  pub spare : ℕ
  pub stop : Option LineStop
  pub ended : Bool

-- these bytes, and nothing else, are the next line: with their newline they are so many bytes; or no newline ends them, and they are the
-- last
pub record Goes (old new : Splitting) (bytes rest : List ℕ) (size : ℕ) (last : Bool) : Type 0 where
  pub text : new.text ≡ bytes
  pub number : new.number ≡ raised_count old.number
  pub unread : new.unread ≡ rest
  pub spare : old.spare ≡ new.spare + size
  pub going : new.stop ≡ None
  pub ended : new.ended ≡ last

-- the reader stopped, and keeps the last line and all bytes; after a line that is too long the number is that line's
pub record Stops (old new : Splitting) (bytes : List ℕ) (why : LineStop) (last : ℕ) : Type 0 where
  pub text : new.text ≡ old.text
  pub number : new.number ≡ last
  pub unread : new.unread ≡ bytes
  pub spare : new.spare ≡ old.spare
  pub stopped : new.stop ≡ Some why
  pub ended : new.ended ≡ old.ended

-- what a call comes to, where no stop was kept: by all bytes that were taken and aren't in a line yet, by whether the
-- source is at its end, and by whether its count of faults rose
abbrev pub ComesOfNextLine : Splitting → Splitting → List ℕ → Option (List ℕ) → ℕ → ℕ → Result Next LineStop → Type 0
ComesOfNextLine old new bytes left before after (Ok next.Line) =
    ((text rest : List ℕ) × (head_of old.spare bytes ≡ line text rest) × Goes old new text rest (length text + 1) false)
    ⊎ ((bytes ≢ []) × (head_of old.spare bytes ≡ unended bytes) × IsAtEnd left × Goes old new bytes [] (length bytes) true)
ComesOfNextLine old new bytes left before after (Ok next.End) = (bytes ≡ []) × IsAtEnd left × (new ≡ old)
ComesOfNextLine old new bytes left before after (Err stop.Long) = (head_of old.spare bytes ≡ long)
    × Stops old new bytes stop.Long (raised_count old.number)
ComesOfNextLine old new bytes left before after (Err stop.TooLong) = (head_of old.spare bytes ≡ past)
    × Stops old new bytes stop.TooLong old.number
ComesOfNextLine old new bytes left before after (Err stop.Failed) =
    (head_of old.spare bytes ≡ unended bytes) × Rose before after × Stops old new bytes stop.Failed old.number

-- the most bytes that one call of the source is asked for
abbrev pub script_piece : ℕ
script_piece = 8192

-- Taking stopped as soon as a line stood whole: what was unread and all that was taken but for the last piece have none.
pub record StopsAtLine (spare : ℕ) (unread taken : List ℕ) : Type 0 where
  pub front : List ℕ
  pub piece : List ℕ
  pub parts : taken ≡ front ++ piece
  pub open_yet : taken ≢ [] → head_of spare (unread ++ front) ≡ unended (unread ++ front)
  pub short : length piece ≤ script_piece

-- one call: the bytes that it took of the source, and what it comes to
pub record Splits (old new : Splitting) (left left' : Option (List ℕ)) (before after : ℕ) (result : Result Next LineStop) : Type 0 where
  pub taken : List ℕ
  pub consumed : Consumes left left' taken
  pub prompt : StopsAtLine old.spare old.unread taken
  pub comes : ComesOfNextLine old new (old.unread ++ taken) left' before after result
