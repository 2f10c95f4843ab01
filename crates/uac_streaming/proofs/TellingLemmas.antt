-- What is told in turn, step by step: how much of it was printed, and what is left of it.
use Rattle.std.proofs.Common.{◌≡◌, ◌∙◌, sym, ap, subst, refl, ℕ, ◌+◌, ◌<◌, ◌≤◌, List, [], ◌++◌, length, drop, get_or, Option, None, Some, append_assoc, drop-cons, add-one}
use Rattle.std.proofs.lemmas.List.{append-nil, drop_all, get_or_read}
use Rattle.std.specs.Io.KnownBytes.{Appends}
use Rattle.uac_edges.specs.Writing.{AppendsFront}
use Rattle.uac_transcript.specs.Transcript.{Said}
use Rattle.uac_transcript.specs.Printing.{text_of}
use Rattle.uac_transcript.proofs.PrintingLemmas.{Appends-lines, front_after, front_of_more}
use Rattle.uac_streaming.specs.Telling.{Telling, without_event, in_turn, telling_after}

-- so much of the whole was printed, what is left is what `rest` tells of the world that is kept now, and this holds of that world
pub record SoFar {W : Type 0} (whole : Telling W) (rest : W → Telling W) (Holds : W → Type 0) (old new : Option (List ℕ)) : Type 0 where
  pub lines : List Said
  pub now : W
  pub written : Appends old new (text_of lines)
  pub stands : Holds now
  pub left : telling_after lines (rest now) ≡ whole

pub following-following : {W : Type 0} (front back : List Said) (told : Telling W) → telling_after front (telling_after back told) ≡ telling_after (front ++ back) told
following-following {W = W} front back told = ap (λ (lines : List Said). let t : Telling W = record { lines = lines; world = told.world } in t) (sym (append_assoc front back told.lines))

pub Appends-nothing : (old : Option (List ℕ)) → Appends old old []
Appends-nothing None = tt
Appends-nothing (Some xs) = sym (append-nil xs)

-- nothing yet
pub begun : {W : Type 0} (whole : Telling W) (rest : W → Telling W) (Holds : W → Type 0) (old : Option (List ℕ)) (w : W) → Holds w → rest w ≡ whole → SoFar whole rest Holds old old
begun whole rest Holds old w stands is = record { lines = []; now = w; written = Appends-nothing old; stands = stands; left = is }

-- one step more
pub one_more : {W : Type 0} (whole : Telling W) (rest next step : W → Telling W) (Before After : W → Type 0) (old mid new : Option (List ℕ))
    → ((w : W) → rest w ≡ telling_after (step w).lines (next (step w).world)) → SoFar whole rest Before old mid
    → ((w : W) → Before w → Appends mid new (text_of (step w).lines) × After (step w).world) → SoFar whole next After old new
one_more whole rest next step Before After old mid new splits s tells =
    let t = tells s.now s.stands in
    record {
      lines = s.lines ++ (step s.now).lines;
      now = (step s.now).world;
      written = Appends-lines old mid new s.lines (step s.now).lines s.written t.0;
      stands = t.1;
      left = sym (following-following s.lines (step s.now).lines (next (step s.now).world)) ∙ ap (telling_after s.lines) (sym (splits s.now)) ∙ s.left;
    }

-- a step that failed: a front of the whole was written
pub stopped : {W : Type 0} (whole : Telling W) (rest next step : W → Telling W) (Before : W → Type 0) (old mid new : Option (List ℕ))
    → ((w : W) → rest w ≡ telling_after (step w).lines (next (step w).world)) → SoFar whole rest Before old mid
    → ((w : W) → Before w → AppendsFront mid new (text_of (step w).lines)) → AppendsFront old new (text_of whole.lines)
stopped {W = W} whole rest next step Before old mid new splits s tells =
    subst (λ (told : Telling W). AppendsFront old new (text_of told.lines)) (ap (telling_after s.lines) (sym (splits s.now)) ∙ s.left)
    (front_after old mid new s.lines ((step s.now).lines ++ (next (step s.now).world).lines) s.written
    (front_of_more mid new (step s.now).lines (next (step s.now).world).lines (tells s.now s.stands)))

-- nothing is left
pub finished : {W : Type 0} (whole : Telling W) (rest : W → Telling W) (Holds : W → Type 0) (old new : Option (List ℕ))
    → SoFar whole rest Holds old new → ((w : W) → rest w ≡ without_event w) → Appends old new (text_of whole.lines) × Holds whole.world
finished {W = W} whole rest Holds old new s ends =
    let is : telling_after s.lines (without_event s.now) ≡ whole = ap (telling_after s.lines) (sym (ends s.now)) ∙ s.left in (
      subst (λ (lines : List Said). Appends old new (text_of lines)) (sym (append-nil s.lines) ∙ ap (λ (told : Telling W). told.lines) is) s.written,
      subst Holds (ap (λ (told : Telling W). told.world) is) s.stands,
    )

-- ---- of each of these, one after the other

pub in_turn_split : {W : Type 0} (event : ℕ → W → Telling W) (ns : List ℕ) (i : ℕ) (w : W) → i < length ns
    → in_turn event (drop i ns) w ≡ telling_after (event (get_or ns i 0) w).lines (in_turn event (drop (i + 1) ns) (event (get_or ns i 0) w).world)
unfolding in_turn
in_turn_split event ns i w below = ap (λ (ms : List ℕ). in_turn event ms w) (drop-cons ns i 0 below) ∙ rw add-one refl

pub in_turn_end : {W : Type 0} (event : ℕ → W → Telling W) (ns : List ℕ) (i : ℕ) (w : W) → length ns ≤ i → in_turn event (drop i ns) w ≡ without_event w
unfolding in_turn
in_turn_end event ns i w past = ap (λ (ms : List ℕ). in_turn event ms w) (drop_all i ns past)

-- so much of what is told in turn was printed: that of the first ones
abbrev pub InTurn : {W : Type 0} (event : ℕ → W → Telling W) (ns : List ℕ) (i : ℕ) (w : W) (Holds : W → Type 0) (old new : Option (List ℕ)) → Type 0
InTurn event ns i w Holds old new = SoFar (in_turn event ns w) (in_turn event (drop i ns)) Holds old new

module _ {W : Type 0} (event : ℕ → W → Telling W) (ns : List ℕ) (w : W) (Before After : W → Type 0) (old mid new : Option (List ℕ)) (i n : ℕ) where
  pub turn_more : i < length ns → n ≡ get_or ns i 0 → InTurn event ns i w Before old mid
      → ((v : W) → Before v → Appends mid new (text_of (event n v).lines) × After (event n v).world) → InTurn event ns (i + 1) w After old new
  turn_more below is s tells =
      one_more (in_turn event ns w) (in_turn event (drop i ns)) (in_turn event (drop (i + 1) ns)) (event (get_or ns i 0)) Before After old mid new
      (λ v. in_turn_split event ns i v below) s
      (subst (λ (k : ℕ). (v : W) → Before v → Appends mid new (text_of (event k v).lines) × After (event k v).world) is tells)

  pub turn_stopped : i < length ns → n ≡ get_or ns i 0 → InTurn event ns i w Before old mid
      → ((v : W) → Before v → AppendsFront mid new (text_of (event n v).lines)) → AppendsFront old new (text_of (in_turn event ns w).lines)
  turn_stopped below is s tells =
      stopped (in_turn event ns w) (in_turn event (drop i ns)) (in_turn event (drop (i + 1) ns)) (event (get_or ns i 0)) Before old mid new
      (λ v. in_turn_split event ns i v below) s
      (subst (λ (k : ℕ). (v : W) → Before v → AppendsFront mid new (text_of (event k v).lines)) is tells)

pub turns_finished : {W : Type 0} (event : ℕ → W → Telling W) (ns : List ℕ) (w : W) (Holds : W → Type 0) (old new : Option (List ℕ)) (i : ℕ) → length ns ≤ i
    → InTurn event ns i w Holds old new → Appends old new (text_of (in_turn event ns w).lines) × Holds (in_turn event ns w).world
turns_finished event ns w Holds old new i past s =
    finished (in_turn event ns w) (in_turn event (drop i ns)) Holds old new s (λ v. in_turn_end event ns i v past)

-- which of these is read from a copy of them
pub at_place : (ns copy now : List ℕ) (i n : ℕ) → copy ≡ now → now ≡ ns → i < length ns → n ≡ get_or copy i n → n ≡ get_or ns i 0
at_place ns copy now i n same is below read =
    let of_ns : n ≡ get_or ns i n = read ∙ ap (λ (ms : List ℕ). get_or ms i n) (same ∙ is) in
    get_or_read ns i n below of_ns 0
