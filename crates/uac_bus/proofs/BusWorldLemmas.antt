-- Steps of the world, and what the bus answers them.
use Rattle.std.proofs.Common.{◌≡◌, ℕ, Bool, true, false, List, ◌++◌, refl, ap, subst, ◌∙◌, ◌⊎◌, inl, inr, Option, None, Result, Ok, Err}
use Rattle.std.proofs.lemmas.Bool.{false≢true}
use Rattle.std.specs.Prelude.{OnOk}
use Rattle.std.proofs.KnownBytes.{Appends-nil}
use Rattle.uac_grammar.specs.ReaderKept as reader
use Rattle.uac_script.specs.declared.lent.LentLine.{LentLine}
use Rattle.uac_script.specs.declared.lent.LentLine.TheVariants as lines
use Rattle.uac_running.specs.RunningKept as play
use Rattle.uac_running.specs.RunningKept.{RunningFields}
use Rattle.uac_running.specs.RunningWorld.{RunningWorld}
use Rattle.uac_bus.specs.declared.bus.BusStage.TheVariants as stages
use Rattle.uac_units.specs.Hearing.{Reading}
use Rattle.uac_script.specs.Lent.{lent_phrase}
use Rattle.uac_script.specs.Phrase.{Phrase, nothing_line, bytes_line, go_line}
use Rattle.uac_fault.specs.declared.fault.BusFault.{BusFault}
use Rattle.uac_rows.specs.BusWorld.{BusWorld, describing, running, Step, done, refused, breaks_rule, step_feed, step_go, step, step_running}
use Rattle.uac_bus.specs.BusKept.{BusFields, BusStands, BusStageStands, Answers}
use Rattle.uac_rows.specs.BusSteps.{Reaches, Prevents, Does, is_append, may_want}

-- a step that was done leaves a bus that stands for the next world, where it keeps no fault
pub answered : (s : Step) (memory : Bool) (bus : BusFields) (shown : List Reading) (written written' : Option (List ℕ)) (result : Result (Unit {0}) BusFault)
    → OnOk result (bus.fault ≡ None) → Does s memory (BusStageStands bus.stage shown) written written' result → Does s memory (BusStands bus shown) written written' result
answered (done next text) memory bus shown written written' (Ok _) none does = (record { going = none; stage = does.0 }, does.1)
answered (refused fault) memory bus shown written written' (Ok _) none does = absurd does
answered s memory bus shown written written' (Err fault) none does = does

-- two lines that say the same are answered the same
pub answers_same : (p q : Phrase) (w : BusWorld) (bus : BusFields) (shown : List Reading) (written written' : Option (List ℕ)) (result : Result (Unit {0}) BusFault)
    → p ≡ q → Answers p w bus shown written written' result → Answers q w bus shown written written' result
answers_same p q w bus shown written written' result same answers =
    subst (λ (said : Phrase). Answers said w bus shown written written' result) same answers

-- ---- a line in each stage

-- a line that does nothing
pub idle_in : (r : reader.ReaderFields) (shown : List Reading) (w : BusWorld) (written : Option (List ℕ)) → BusStageStands (stages.Describing r) shown w
    → Reaches (step nothing_line w) (BusStageStands (stages.Describing r) shown) written written
unfolding step
idle_in r shown (describing bytes heard) written s = (s, Appends-nil written)
idle_in r shown (running world) written s = absurd s

-- more bytes
pub fed_in : (r r' : reader.ReaderFields) (more : List ℕ) (shown : List Reading) (w : BusWorld) (written : Option (List ℕ)) (result : Result (Unit {0}) BusFault)
    → BusStageStands (stages.Describing r) shown w
    → (r.stop ≡ None → (heard : List Reading) (old : Option (List ℕ)) → Does (step_feed (r.taken ++ more) heard) true (BusStageStands (stages.Describing r') heard) old old result)
    → Does (step (bytes_line more) w) (may_want (bytes_line more) w) (BusStageStands (stages.Describing r') shown) written written result
unfolding step
fed_in r r' more shown (describing bytes heard) written result s does =
    let before : Does (step_feed (r.taken ++ more) shown) true (BusStageStands (stages.Describing r') shown) written written result = does s.1 shown written in
    subst (λ (bs : List ℕ). Does (step_feed (bs ++ more) heard) true (BusStageStands (stages.Describing r') shown) written written result) s.0
    (subst (λ (xs : List Reading). Does (step_feed (r.taken ++ more) xs) true (BusStageStands (stages.Describing r') shown) written written result) s.2 before)
fed_in r r' more shown (running world) written result s does = absurd s

-- the descriptor's end, of a reader that was taken out
pub begun_in : (r whole : reader.ReaderFields) (p : RunningFields) (shown : List Reading) (w : BusWorld) (written written' : Option (List ℕ))
    → whole ≡ r → BusStageStands (stages.Describing r) shown w → ((heard : List Reading) → Reaches (step_go whole.taken heard) (BusStageStands (stages.Running p) heard) written written')
    → Reaches (step go_line w) (BusStageStands (stages.Running p) shown) written written'
unfolding step
begun_in r whole p shown (describing bytes heard) written written' same s begins =
    subst (λ (bs : List ℕ). Reaches (step_go bs heard) (BusStageStands (stages.Running p) shown) written written') (ap (λ (x : reader.ReaderFields). x.taken) same ∙ s.0)
    (subst (λ (xs : List Reading). Reaches (step_go whole.taken xs) (BusStageStands (stages.Running p) shown) written written') s.2 (begins shown))
begun_in r whole p shown (running world) written written' same s begins = absurd s

pub unbegun_in : (r whole : reader.ReaderFields) (fault : BusFault) (shown : List Reading) (w : BusWorld) (written written' : Option (List ℕ))
    → whole ≡ r → BusStageStands (stages.Describing r) shown w → ((heard : List Reading) → Prevents fault true (step_go whole.taken heard) written written')
    → Prevents fault (may_want go_line w) (step go_line w) written written'
unfolding step
unbegun_in r whole fault shown (describing bytes heard) written written' same s prevents =
    subst (λ (bs : List ℕ). Prevents fault true (step_go bs heard) written written') (ap (λ (x : reader.ReaderFields). x.taken) same ∙ s.0)
    (subst (λ (xs : List Reading). Prevents fault true (step_go whole.taken xs) written written') s.2 (prevents shown))
unbegun_in r whole fault shown (running world) written written' same s prevents = absurd s

-- the descriptor's end once more
pub gone_before : (p : RunningFields) (shown : List Reading) (w : BusWorld) → BusStageStands (stages.Running p) shown w → step go_line w ≡ breaks_rule 5
unfolding step
gone_before p shown (describing bytes heard) s = absurd s
gone_before p shown (running r) s = refl

-- any other line
abbrev pub is_later : LentLine → Bool
is_later lines.Nothing = false
is_later (lines.Bytes b) = false
is_later lines.Go = false
is_later (lines.Control a b) = true
is_later (lines.Get a) = true
is_later (lines.Set a b) = true
is_later (lines.Show a) = true
is_later (lines.Break a) = true
is_later (lines.Append a b) = true
is_later (lines.Track a b) = true
is_later (lines.Jack a b) = true
is_later (lines.Deviate a b) = true
is_later (lines.Run a b) = true
is_later (lines.Detail a) = true
is_later lines.Report = true

pub later_as : {line other : LentLine} → line ≡ other → is_later other ≡ true → is_later line ≡ true
later_as same later = ap is_later same ∙ later

pub out_of : {A B P : Type 0} → A ⊎ B → (A → P) → (B → P) → P
out_of (inl a) f g = f a
out_of (inr b) f g = g b

pub early_in : (r : reader.ReaderFields) (line : LentLine) (shown : List Reading) (w : BusWorld) → BusStageStands (stages.Describing r) shown w
    → is_later line ≡ true → step (lent_phrase line) w ≡ breaks_rule 5
unfolding step
early_in r line shown (running world) s later = absurd s
early_in r lines.Nothing shown (describing bs heard) s later = absurd (false≢true later)
early_in r (lines.Bytes b) shown (describing bs heard) s later = absurd (false≢true later)
early_in r lines.Go shown (describing bs heard) s later = absurd (false≢true later)
early_in r (lines.Control a b) shown (describing bs heard) s later = refl
early_in r (lines.Get a) shown (describing bs heard) s later = refl
early_in r (lines.Set a b) shown (describing bs heard) s later = refl
early_in r (lines.Show a) shown (describing bs heard) s later = refl
early_in r (lines.Break a) shown (describing bs heard) s later = refl
early_in r (lines.Append a b) shown (describing bs heard) s later = refl
early_in r (lines.Track a b) shown (describing bs heard) s later = refl
early_in r (lines.Jack a b) shown (describing bs heard) s later = refl
early_in r (lines.Deviate a b) shown (describing bs heard) s later = refl
early_in r (lines.Run a b) shown (describing bs heard) s later = refl
early_in r (lines.Detail a) shown (describing bs heard) s later = refl
early_in r lines.Report shown (describing bs heard) s later = refl

-- a line of the running device
pub played_in : (p p' : RunningFields) (phrase : Phrase) (shown shown' : List Reading) (w : BusWorld) (written written' : Option (List ℕ)) (result : Result (Unit {0}) BusFault)
    → BusStageStands (stages.Running p) shown w
    → ((r : RunningWorld) → play.RunningStandsBetween p shown r → Does (step_running r phrase) (is_append phrase) (BusStageStands (stages.Running p') shown') written written' result)
    → Does (step phrase w) (may_want phrase w) (BusStageStands (stages.Running p') shown') written written' result
unfolding step
played_in p p' phrase shown shown' (describing bytes heard) written written' result s does = absurd s
played_in p p' phrase shown shown' (running r) written written' result s does = does r s
