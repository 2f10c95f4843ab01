-- Lines and worlds that are told one after the other, step by step.
use Rattle.std.proofs.Common.{◌≡◌, ◌∙◌, sym, ap, subst, ℕ, List, [], ◌++◌, Option, None, Some, Result, Ok, Err, OnOk, append_assoc}
use Rattle.std.proofs.lemmas.List.{append-nil}
use Rattle.std.specs.Io.KnownBytes.{Appends}
use Rattle.uac_units.specs.Hearing.{Reading}
use Rattle.uac_edges.specs.Writing.{AppendsFront}
use Rattle.uac_transcript.specs.Transcript.{Said}
use Rattle.uac_transcript.specs.Printing.{text_of}
use Rattle.uac_transcript.proofs.PrintingLemmas.{Appends-lines, Prints-after, front_after, front_of_more}
use Rattle.uac_running.specs.RunningWorld.{RunningWorld}
use Rattle.uac_streaming.specs.Telling.{Telling, telling_after, without_event}
use Rattle.uac_running.specs.Events.{followed_by}
use Rattle.uac_running.specs.RunningKept.{RunningFields, RunningTells}

abbrev told_of : RunningWorld → List Said → Telling RunningWorld
told_of r lines = record { lines = lines; world = r }

-- so much of the whole was printed, and what is left is what `rest` tells of the world that is kept now, within a microframe or between two
pub record SoFar (Keeps : RunningFields → List Reading → RunningWorld → Type 0) (whole : Telling RunningWorld) (rest : RunningWorld → Telling RunningWorld) (running : RunningFields) (meters : List Reading) (old new : Option (List ℕ)) : Type 0 where
  pub lines : List Said
  pub now : RunningWorld
  pub written : Appends old new (text_of lines)
  pub stands : Keeps running meters now
  pub left : telling_after lines (rest now) ≡ whole

pub telling_after-telling_after : (front back : List Said) (told : Telling RunningWorld) → telling_after front (telling_after back told) ≡ telling_after (front ++ back) told
telling_after-telling_after front back told = ap (told_of told.world) (sym (append_assoc front back told.lines))

pub Appends-nothing : (old : Option (List ℕ)) → Appends old old []
Appends-nothing None = tt
Appends-nothing (Some xs) = sym (append-nil xs)

-- nothing yet
pub begun : (Keeps : RunningFields → List Reading → RunningWorld → Type 0) (whole : Telling RunningWorld) (rest : RunningWorld → Telling RunningWorld) (running : RunningFields) (meters : List Reading) (old : Option (List ℕ)) (r : RunningWorld) → Keeps running meters r → rest r ≡ whole
    → SoFar Keeps whole rest running meters old old
begun Keeps whole rest running meters old r stands is = record { lines = []; now = r; written = Appends-nothing old; stands = stands; left = is }

-- one step more, before and after which this is known
pub one_more_to : (Before After : RunningFields → List Reading → RunningWorld → Type 0) (whole : Telling RunningWorld) (rest next step : RunningWorld → Telling RunningWorld) (before after : RunningFields) (shown showing : List Reading) (old mid new : Option (List ℕ))
    → ((w : RunningWorld) → rest w ≡ telling_after (step w).lines (next (step w).world)) → SoFar Before whole rest before shown old mid
    → ((w : RunningWorld) → Before before shown w → Appends mid new (text_of (step w).lines) × After after showing (step w).world)
    → SoFar After whole next after showing old new
one_more_to Before After whole rest next step before after shown showing old mid new splits s tells =
    let t = tells s.now s.stands in
    record {
      lines = s.lines ++ (step s.now).lines;
      now = (step s.now).world;
      written = Appends-lines old mid new s.lines (step s.now).lines s.written t.0;
      stands = t.1;
      left = sym (telling_after-telling_after s.lines (step s.now).lines (next (step s.now).world)) ∙ ap (telling_after s.lines) (sym (splits s.now)) ∙ s.left;
    }

pub one_more : (Keeps : RunningFields → List Reading → RunningWorld → Type 0) (whole : Telling RunningWorld) (rest next step : RunningWorld → Telling RunningWorld) (before after : RunningFields) (shown showing : List Reading) (old mid new : Option (List ℕ))
    → ((w : RunningWorld) → rest w ≡ telling_after (step w).lines (next (step w).world)) → SoFar Keeps whole rest before shown old mid
    → ((w : RunningWorld) → Keeps before shown w → Appends mid new (text_of (step w).lines) × Keeps after showing (step w).world)
    → SoFar Keeps whole next after showing old new
one_more Keeps = one_more_to Keeps Keeps

-- a step that failed: a front of the whole was written
pub stopped : (Keeps : RunningFields → List Reading → RunningWorld → Type 0) (whole : Telling RunningWorld) (rest next step : RunningWorld → Telling RunningWorld) (before : RunningFields) (shown : List Reading) (old mid new : Option (List ℕ))
    → ((w : RunningWorld) → rest w ≡ telling_after (step w).lines (next (step w).world)) → SoFar Keeps whole rest before shown old mid
    → ((w : RunningWorld) → Keeps before shown w → AppendsFront mid new (text_of (step w).lines) × Unit {0})
    → AppendsFront old new (text_of whole.lines)
stopped Keeps whole rest next step before shown old mid new splits s tells =
    subst (λ (told : Telling RunningWorld). AppendsFront old new (text_of told.lines)) (ap (telling_after s.lines) (sym (splits s.now)) ∙ s.left)
    (front_after old mid new s.lines ((step s.now).lines ++ (next (step s.now).world).lines) s.written
    (front_of_more mid new (step s.now).lines (next (step s.now).world).lines (tells s.now s.stands).0))

-- nothing is left
pub finished : (Keeps : RunningFields → List Reading → RunningWorld → Type 0) (whole : Telling RunningWorld) (rest : RunningWorld → Telling RunningWorld) (running : RunningFields) (meters : List Reading) (old new : Option (List ℕ))
    → SoFar Keeps whole rest running meters old new → ((w : RunningWorld) → rest w ≡ without_event w) → Appends old new (text_of whole.lines) × Keeps running meters whole.world
finished Keeps whole rest running meters old new s ends =
    let is : telling_after s.lines (without_event s.now) ≡ whole = ap (telling_after s.lines) (sym (ends s.now)) ∙ s.left in (
      subst (λ (lines : List Said). Appends old new (text_of lines)) (sym (append-nil s.lines) ∙ ap (λ (told : Telling RunningWorld). told.lines) is) s.written,
      subst (λ (w : RunningWorld). Keeps running meters w) (ap (λ (told : Telling RunningWorld). told.world) is) s.stands,
    )

-- lines, and then what is told
pub tells_following : {E : Type 0} (lines : List Said) (told : Telling RunningWorld) (running : RunningFields) (meters : List Reading) (old mid new : Option (List ℕ)) (r : Result (Unit {0}) E)
    → Appends old mid (text_of lines) → RunningTells told running meters mid new r → RunningTells (telling_after lines told) running meters old new r
tells_following lines told running meters old mid new r a t = (Prints-after old mid new r lines told.lines a t.0, t.1)

-- something, and then something else
pub tells_then : {E : Type 0} (first next : RunningWorld → Telling RunningWorld) (r : RunningWorld) (running : RunningFields) (meters : List Reading) (old mid new : Option (List ℕ)) (result : Result (Unit {0}) E)
    → Appends old mid (text_of (first r).lines) → RunningTells (next (first r).world) running meters mid new result → RunningTells (followed_by first next r) running meters old new result
tells_then first next r running meters old mid new result a t = tells_following (first r).lines (next (first r).world) running meters old mid new result a t

-- the first of two failed
pub front_then : (first next : RunningWorld → Telling RunningWorld) (r : RunningWorld) (old new : Option (List ℕ)) → AppendsFront old new (text_of (first r).lines)
    → AppendsFront old new (text_of (followed_by first next r).lines)
front_then first next r old new front = front_of_more old new (first r).lines (next (first r).world).lines front

-- the second failed
pub front_of_next : (first next : RunningWorld → Telling RunningWorld) (r : RunningWorld) (old mid new : Option (List ℕ)) → Appends old mid (text_of (first r).lines)
    → AppendsFront mid new (text_of (next (first r).world).lines) → AppendsFront old new (text_of (followed_by first next r).lines)
front_of_next first next r old mid new a front = front_after old mid new (first r).lines (next (first r).world).lines a front

-- what holds in any case holds at Ok
pub at_ok : {E : Type 0} (P : Type 0) (r : Result (Unit {0}) E) → P → OnOk r P
at_ok P (Ok u) p = p
at_ok P (Err e) p = tt

-- what follows at Ok
pub ok_then : {T E : Type 0} (P Q : Type 0) (r : Result T E) → (P → Q) → OnOk r P → OnOk r Q
ok_then P Q (Ok u) f p = f p
ok_then P Q (Err e) f p = tt
