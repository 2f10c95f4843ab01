-- The frames of several ticks in slots, by id.
use Rattle.std.proofs.Common.{◌≡◌, ◌≢◌, ◌∙◌, refl, sym, ap, subst, arith, ℕ, zero, suc, ◌+◌, ◌<◌, ◌≤◌, true, false, eqb, if◌then◌else◌, ℤ, List, [], ◌∷◌, ◌++◌, Option, Some, None, length, get_or, map, set, take, sum, unwrap_or, length-append}
use Rattle.std.specs.Option.{IfSome, option_map}
use Rattle.std.proofs.lemmas.Option.{same_Some}
use Rattle.std.proofs.lemmas.List.{get_or_default, get_or-set_other, length-map, map-append, map-set, set-set}
use Rattle.std.proofs.lemmas.Slice.{take-put_mid}
use borrow.Rule.Slice.PartMut.{mid_of, post_of, put_mid, put_same}
use Rattle.std.proofs.lemmas.List.Folds.{list_any_at}
use Rattle.std.proofs.Math.ListN.{get_or-map}
use Rattle.std.proofs.Math.Seq.{map-set_same}
use Rattle.uac_topology_rules.specs.Walk.{has_walk, links}
use Rattle.uac_topology_rules.specs.Links.{is_clock, signal_links}
use Rattle.uac_topology_rules.specs.Table.{at, index_of}
use Rattle.uac_entities.specs.declared.entity.Entity.{Entity}
use Rattle.uac_entities.specs.declared.entity.EntityKind.{EntityKind}
use Rattle.uac_units.specs.Rendering.{FitsKind, in_a_row, job_samples}
use Rattle.uac_units.specs.declared.jobs.Job.{Job}
use Rattle.uac_units.specs.declared.jobs.UnitKind.{UnitKind}
use Rattle.uac_units.specs.SampleRows.{HaveTicks, frame_at, row_lengths, sample_at}
use Rattle.uac_units.proofs.SampleRowsLemmas.{length-frame_at, ticks_kept}
use Rattle.uac_graph.specs.Fitness.{FitsPins, IsSignalGraph}
use Rattle.uac_graph.specs.Jobs.{FitsFrames}
use Rattle.uac_graph.specs.TickRows.{HaveRoom, RowSlots, SlotsHaveTicks, slot_frames, slot_lengths}
use Rattle.uac_graph.specs.Wiring.{AreWiresOf, frame_on, samples_on}
use Rattle.uac_graph.proofs.FrameRowsLemmas.{frame_seen, slot_written}
use Rattle.uac_graph.proofs.LinksLemmas.{links_at}
use Rattle.uac_graph.proofs.RenderingLemmas.{in_a_row_front, in_a_row_more, length-in_a_row}
use Rattle.uac_graph.proofs.WiringWireLemmas.{signal_sources_of}

-- ---- one tick

pub slot_seen : (tick : ℕ) (slots : RowSlots) (id : ℕ) → frame_on (slot_frames tick slots) id ≡ option_map (frame_at tick) (get_or slots id None)
slot_seen tick slots id = frame_seen (frame_at tick) slots id

pub samples_seen : (tick : ℕ) (slots : RowSlots) (id : ℕ) → samples_on (slot_frames tick slots) id ≡ frame_at tick (unwrap_or (get_or slots id None) [])
samples_seen tick slots id = ap (λ o. unwrap_or o []) (slot_seen tick slots id) ∙ by (get_or slots id None)
  where
    by : (o : Option (List (List ℤ))) → unwrap_or (option_map (frame_at tick) o) [] ≡ frame_at tick (unwrap_or o [])
    by None = refl
    by (Some rows) = refl

-- ---- how many channels there are, at whichever tick

count_of : (tick : ℕ) (o : Option (List (List ℤ))) → option_map length (option_map (frame_at tick) o) ≡ option_map length (option_map row_lengths o)
count_of tick None = refl
count_of tick (Some rows) = ap Some (length-frame_at tick rows ∙ sym (length-map rows length))

pub count_seen : (tick : ℕ) (slots : RowSlots) (id : ℕ)
    → option_map length (frame_on (slot_frames tick slots) id) ≡ option_map length (get_or (slot_lengths slots) id None)
count_seen tick slots id =
    ap (option_map length) (slot_seen tick slots id)
    ∙ count_of tick (get_or slots id None)
    ∙ ap (option_map length) (sym (get_or-map (option_map row_lengths) slots id None))

-- wires whose rows are as long as others'
pub wires_kept : (entities : List Entity) (old new : RowSlots) (before after : ℕ) → slot_lengths new ≡ slot_lengths old
    → AreWiresOf entities (slot_frames before old) → AreWiresOf entities (slot_frames after new)
wires_kept entities old new before after same fitting = record {
  channels = λ id.
      count_seen after new id
      ∙ ap (λ (ls : List (Option (List ℕ))). option_map length (get_or ls id None)) same
      ∙ sym (count_seen before old id)
      ∙ fitting.channels id;
}

pub slots_kept : (ticks : ℕ) (old new : RowSlots) → slot_lengths new ≡ slot_lengths old → SlotsHaveTicks ticks old → SlotsHaveTicks ticks new
slots_kept ticks old new same have id rows is = by (get_or old id None) refl
  where
    lengths : option_map row_lengths (get_or new id None) ≡ option_map row_lengths (get_or old id None)
    lengths =
        sym (get_or-map (option_map row_lengths) new id None)
        ∙ ap (λ (ls : List (Option (List ℕ))). get_or ls id None) same
        ∙ get_or-map (option_map row_lengths) old id None

    by : (o : Option (List (List ℤ))) → get_or old id None ≡ o → HaveTicks ticks rows
    by None there =
        absurd (let none : Some (row_lengths rows) ≡ None = sym (ap (option_map row_lengths) is) ∙ lengths ∙ ap (option_map row_lengths) there in cc)
    by (Some held) there =
        let e : Some (row_lengths rows) ≡ Some (row_lengths held) = sym (ap (option_map row_lengths) is) ∙ lengths ∙ ap (option_map row_lengths) there in
        ticks_kept ticks held rows (same_Some (row_lengths rows) (row_lengths held) e) (have id held there)

pub slots_less : (fewer ticks : ℕ) (slots : RowSlots) → fewer ≤ ticks → SlotsHaveTicks ticks slots → SlotsHaveTicks fewer slots
slots_less fewer ticks slots less have id rows is i d below = let had = have id rows is i d below in omega (arith, less, had)

-- the sources of an entity have as many channels at each tick
source_count : (before after : ℕ) (slots : RowSlots) (id : ℕ) → length (samples_on (slot_frames after slots) id) ≡ length (samples_on (slot_frames before slots) id)
source_count before after slots id =
    let rows = unwrap_or (get_or slots id None) [] in
    ap length (samples_seen after slots id) ∙ length-frame_at after rows ∙ sym (length-frame_at before rows) ∙ sym (ap length (samples_seen before slots id))

pub source_counts : (before after : ℕ) (slots : RowSlots) (sources : List ℕ)
    → map length (map (samples_on (slot_frames after slots)) sources) ≡ map length (map (samples_on (slot_frames before slots)) sources)
source_counts before after slots [] = refl
source_counts before after slots (s ∷ sources) =
    ap (λ (n : ℕ). n ∷ map length (map (samples_on (slot_frames after slots)) sources)) (source_count before after slots s)
    ∙ ap (λ (ns : List ℕ). length (samples_on (slot_frames before slots) s) ∷ ns) (source_counts before after slots sources)

pub row_count : (before after : ℕ) (slots : RowSlots) (sources : List ℕ)
    → length (in_a_row (map (samples_on (slot_frames after slots)) sources)) ≡ length (in_a_row (map (samples_on (slot_frames before slots)) sources))
row_count before after slots sources =
    length-in_a_row (map (samples_on (slot_frames after slots)) sources)
    ∙ ap sum (source_counts before after slots sources)
    ∙ sym (length-in_a_row (map (samples_on (slot_frames before slots)) sources))

pub frames_fit : (k : EntityKind) (channels before after : ℕ) (slots : RowSlots) (sources : List ℕ)
    → FitsFrames k channels (map (samples_on (slot_frames before slots)) sources) → FitsFrames k channels (map (samples_on (slot_frames after slots)) sources)
frames_fit k channels before after slots sources fits = record {
  signal = fits.signal;
  some = fits.some;
  most = fits.most;
  pins = subst (FitsPins k channels) (sym (source_counts before after slots sources)) fits.pins;
}

-- ---- one slot written

pub slot_set : (tick : ℕ) (slots new : RowSlots) (id : ℕ) (slot : Option (List (List ℤ))) (frame : List ℤ) → id < length slots → new ≡ set slots id slot
    → option_map (frame_at tick) slot ≡ Some frame
    → (k : ℕ) → frame_on (slot_frames tick new) k ≡ (if eqb id k then Some frame else frame_on (slot_frames tick slots) k)
slot_set tick slots new id slot frame below is e k =
    slot_written (frame_at tick) slots new id slot below is k
    ∙ ap (λ (o : Option (List ℤ)). if eqb id k then o else frame_on (slot_frames tick slots) k) e

pub lengths_set : (slots new : RowSlots) (id : ℕ) (slot : Option (List (List ℤ))) → new ≡ set slots id slot
    → option_map row_lengths slot ≡ option_map row_lengths (get_or slots id None) → slot_lengths new ≡ slot_lengths slots
lengths_set slots new id slot is e = ap slot_lengths is ∙ map-set_same (option_map row_lengths) slots id slot None e

-- rows of whatever kind, as they are read
module _ {V : Type 0} (items : V → List (List ℤ)) where
  -- a slot that was taken out and put back
  pub put_back : (list : List (Option V)) (id : ℕ) (v : Option V)
      → map (option_map items) (set (set list id None) id v) ≡ set (map (option_map items) list) id (option_map items v)
  put_back list id v = ap (map (option_map items)) (set-set list id None v) ∙ map-set (option_map items) list id v

  -- what stands in a slot
  pub seen_in : (list : List (Option V)) (id : ℕ) (o : Option V) → id < length list → o ≡ get_or list id o
      → option_map items o ≡ get_or (map (option_map items) list) id None
  seen_in list id o below is = ap (option_map items) (is ∙ get_or_default list id o None below) ∙ sym (get_or-map (option_map items) list id None)

  -- and in one beside that which was taken out
  pub seen_beside : (list : List (Option V)) (taken id : ℕ) (o : Option V) → id < length list → id ≢ taken → o ≡ get_or (set list taken None) id o
      → option_map items o ≡ get_or (map (option_map items) list) id None
  seen_beside list taken id o below apart is = seen_in list id o below (is ∙ get_or-set_other list taken id None o apart)

-- ---- slots as they are read and written

-- a slot as it is read by two functions, one after the other
pub option_maps : {A B C : Type 0} (f : B → C) (g : A → B) (o : Option A) → option_map (λ a. f (g a)) o ≡ option_map f (option_map g o)
option_maps f g None = refl
option_maps f g (Some a) = refl

-- how many rows stand in a slot, as any tick tells
pub rows_counted : (tick : ℕ) (slots : RowSlots) (id : ℕ) → option_map length (get_or slots id None) ≡ option_map length (frame_on (slot_frames tick slots) id)
rows_counted tick slots id = by (get_or slots id None) ∙ sym (ap (option_map length) (slot_seen tick slots id))
  where
    by : (o : Option (List (List ℤ))) → option_map length o ≡ option_map length (option_map (frame_at tick) o)
    by None = refl
    by (Some rows) = ap Some (sym (length-frame_at tick rows))

-- the rows in a slot have their ticks
pub slot_ticks : (ticks : ℕ) (slots : RowSlots) (id : ℕ) (rows : List (List ℤ)) → SlotsHaveTicks ticks slots → rows ≡ unwrap_or (get_or slots id None) []
    → HaveTicks ticks rows
slot_ticks ticks slots id rows have is = subst (HaveTicks ticks) (sym is) (by (get_or slots id None) refl)
  where
    by : (o : Option (List (List ℤ))) → get_or slots id None ≡ o → HaveTicks ticks (unwrap_or o [])
    by None there = λ i d below. absurd (omega (arith, below))
    by (Some held) there = have id held there

pub slot_has : {V : Type 0} (items : V → List (List ℤ)) (ticks : ℕ) (slots : RowSlots) (id : ℕ) (o : Option V) → SlotsHaveTicks ticks slots
    → option_map items o ≡ get_or slots id None → IfSome o (λ v. HaveTicks ticks (items v))
slot_has items ticks slots id None have held = tt
slot_has items ticks slots id (Some v) have held = have id (items v) (sym held)

-- a source's frame at a tick
pub source_frame : (tick : ℕ) (slots now : RowSlots) (id : ℕ) (rows : List (List ℤ)) → rows ≡ unwrap_or (get_or slots id None) [] → slots ≡ now
    → frame_at tick rows ≡ samples_on (slot_frames tick now) id
source_frame tick slots now id rows is same =
    ap (frame_at tick) is ∙ sym (samples_seen tick slots id) ∙ ap (λ (s : RowSlots). samples_on (slot_frames tick s) id) same

-- a slot that is rendered gets what its unit makes of the source's frame
pub slot_rendered : (tick : ℕ) (slots new now : RowSlots) (id source : ℕ) (slot : Option (List (List ℤ))) (kind : UnitKind) (job : Job) (given : List ℤ)
    → id < length slots → new ≡ set slots id slot → slots ≡ now → option_map (frame_at tick) slot ≡ Some (job_samples kind job given)
    → given ≡ samples_on (slot_frames tick now) source
    → (k : ℕ) → frame_on (slot_frames tick new) k
    ≡ (if eqb id k then Some (job_samples kind job (samples_on (slot_frames tick now) source)) else frame_on (slot_frames tick now) k)
slot_rendered tick slots new now id source slot kind job given below is same e own k =
    slot_set tick slots new id slot (job_samples kind job given) below is e k
    ∙ ap (λ (xs : List ℤ). if eqb id k then Some (job_samples kind job xs) else frame_on (slot_frames tick slots) k) own
    ∙ ap (λ (s : RowSlots). if eqb id k then Some (job_samples kind job (samples_on (slot_frames tick now) source)) else frame_on (slot_frames tick s) k) same

-- a slot that is passed to gets the source's frame
pub slot_passed : (tick : ℕ) (slots new now : RowSlots) (id source : ℕ) (slot : Option (List (List ℤ))) (given : List ℤ)
    → id < length slots → new ≡ set slots id slot → slots ≡ now → option_map (frame_at tick) slot ≡ Some given
    → given ≡ samples_on (slot_frames tick now) source
    → (k : ℕ) → frame_on (slot_frames tick new) k
    ≡ (if eqb id k then Some (samples_on (slot_frames tick now) source) else frame_on (slot_frames tick now) k)
slot_passed tick slots new now id source slot given below is same e own k =
    slot_set tick slots new id slot given below is e k
    ∙ ap (λ (xs : List ℤ). if eqb id k then Some xs else frame_on (slot_frames tick slots) k) own
    ∙ ap (λ (s : RowSlots). if eqb id k then Some (samples_on (slot_frames tick now) source) else frame_on (slot_frames tick s) k) same

-- a slot that is rendered gets what its unit makes of some frame
pub slot_made : (tick : ℕ) (slots new now : RowSlots) (id : ℕ) (slot : Option (List (List ℤ))) (kind : UnitKind) (job : Job) (given wanted : List ℤ)
    → id < length slots → new ≡ set slots id slot → slots ≡ now → option_map (frame_at tick) slot ≡ Some (job_samples kind job given) → given ≡ wanted
    → (k : ℕ) → frame_on (slot_frames tick new) k ≡ (if eqb id k then Some (job_samples kind job wanted) else frame_on (slot_frames tick now) k)
slot_made tick slots new now id slot kind job given wanted below is same e own k =
    slot_set tick slots new id slot (job_samples kind job given) below is e k
    ∙ ap (λ (xs : List ℤ). if eqb id k then Some (job_samples kind job xs) else frame_on (slot_frames tick slots) k) own
    ∙ ap (λ (s : RowSlots). if eqb id k then Some (job_samples kind job wanted) else frame_on (slot_frames tick s) k) same

-- a slot that is passed to gets some frame
pub slot_given : (tick : ℕ) (slots new now : RowSlots) (id : ℕ) (slot : Option (List (List ℤ))) (given wanted : List ℤ)
    → id < length slots → new ≡ set slots id slot → slots ≡ now → option_map (frame_at tick) slot ≡ Some given → given ≡ wanted
    → (k : ℕ) → frame_on (slot_frames tick new) k ≡ (if eqb id k then Some wanted else frame_on (slot_frames tick now) k)
slot_given tick slots new now id slot given wanted below is same e own k =
    slot_set tick slots new id slot given below is e k
    ∙ ap (λ (xs : List ℤ). if eqb id k then Some xs else frame_on (slot_frames tick slots) k) own
    ∙ ap (λ (s : RowSlots). if eqb id k then Some wanted else frame_on (slot_frames tick s) k) same

-- a job that fits a list fits an equal one
pub fits_moved : {kind : UnitKind} {job : Job} {given wanted : List ℤ} → FitsKind kind job given → given ≡ wanted → FitsKind kind job wanted
fits_moved {kind} {job} fits e = subst (FitsKind kind job) e fits

-- what stays where one slot is written
pub room_kept : (room : ℕ) (slots new : RowSlots) (pins : List (List ℤ)) → HaveRoom room slots pins → length new ≡ length slots → slot_lengths new ≡ slot_lengths slots
    → HaveRoom room new pins
room_kept room slots new pins have long same = record {
  ids = long ∙ have.ids;
  given = slots_kept room slots new same have.given;
  most = have.most;
  taken = have.taken;
}

-- ---- a part of rows written over

map-put : (a k : ℕ) (xs ys : List (List ℤ)) → row_lengths (put_mid a k xs ys) ≡ row_lengths (take a xs) ++ (row_lengths ys ++ row_lengths (post_of a k xs))
map-put a k xs ys =
    map-append length (take a xs) (ys ++ post_of a k xs) ∙ ap (λ (ls : List ℕ). row_lengths (take a xs) ++ ls) (map-append length ys (post_of a k xs))

pub put_lengths : (a k : ℕ) (xs ys : List (List ℤ)) → row_lengths ys ≡ row_lengths (mid_of a k xs) → row_lengths (put_mid a k xs ys) ≡ row_lengths xs
put_lengths a k xs ys same =
    map-put a k xs ys
    ∙ ap (λ (ls : List ℕ). row_lengths (take a xs) ++ (ls ++ row_lengths (post_of a k xs))) same
    ∙ sym (map-put a k xs (mid_of a k xs))
    ∙ ap row_lengths (put_same a k xs)

pub put_frame : (tick a k : ℕ) (xs ys rows : List (List ℤ)) (end : ℕ) → end ≡ a + length rows → a ≤ length xs → frame_at tick ys ≡ frame_at tick rows
    → frame_at tick (take end (put_mid a k xs ys)) ≡ frame_at tick (take a xs) ++ frame_at tick rows
put_frame tick a k xs ys rows end is inside e =
    let long : length ys ≡ length rows = sym (length-frame_at tick ys) ∙ ap length e ∙ length-frame_at tick rows in
    ap (frame_at tick) (take-put_mid a k xs ys end (is ∙ ap (λ (n : ℕ). a + n) (sym long)) inside)
    ∙ map-append (sample_at tick) (take a xs) ys
    ∙ ap (λ (f : List ℤ). frame_at tick (take a xs) ++ f) e

-- ---- rows gathered from several slots

-- one more source has room
pub gathered_fits : (slots : RowSlots) (sources : List ℕ) (i end room : ℕ) (rows : List (List ℤ)) → i < length sources
    → rows ≡ unwrap_or (get_or slots (get_or sources i 0) None) []
    → length (in_a_row (map (samples_on (slot_frames 0 slots)) sources)) ≤ room
    → end ≡ length (in_a_row (map (samples_on (slot_frames 0 slots)) (take i sources)))
    → (end + length rows ≡ length (in_a_row (map (samples_on (slot_frames 0 slots)) (take (i + 1) sources)))) × (end + length rows ≤ room)
gathered_fits slots sources i end room rows below is small count =
    let f = samples_on (slot_frames 0 slots) in
    let longer = in_a_row_more f sources i 0 below in
    let here : length rows ≡ length (f (get_or sources i 0)) =
    sym (length-frame_at 0 rows) ∙ ap length (source_frame 0 slots slots (get_or sources i 0) rows is refl) in
    let whole : end + length rows ≡ length (in_a_row (map f (take (i + 1) sources))) =
    omega (arith, count, here, ap length longer, length-append (in_a_row (map f (take i sources))) (f (get_or sources i 0))) in
    (whole, omega (arith, whole, in_a_row_front f sources (i + 1), small))

-- ---- no entity is its own source

turns : (graph : List (List ℕ)) (v k n : ℕ) → k < length (links graph v) → get_or (links graph v) k 0 ≡ v → has_walk graph n v ≡ true
unfolding has_walk
turns graph v k zero below here = refl
turns graph v k (suc n) below here = list_any_at (has_walk graph n) (links graph v) k 0 below (ap (has_walk graph n) here ∙ turns graph v k n below here)

pub source_apart : (entities : List Entity) (index source : ℕ) → IsSignalGraph entities → index < length entities → is_clock (at entities index).kind ≡ false
    → (at entities index).sources ≡ source ∷ [] → source ≢ (at entities index).id
source_apart entities index source sound inside signal one same =
    let row : links (signal_links entities) index ≡ index_of entities source ∷ [] =
    links_at entities index ∙ ap (map (index_of entities)) (signal_sources_of (at entities index) signal ∙ one) in
    let here : get_or (links (signal_links entities) index) 0 0 ≡ index =
    ap (λ (ks : List ℕ). get_or ks 0 0) row ∙ ap (index_of entities) same ∙ sound.distinct index inside in
    let some : 0 < length (links (signal_links entities) index) = subst (λ (ks : List ℕ). 0 < length ks) (sym row) (omega arith) in
    let clash : true ≡ false = sym (turns (signal_links entities) index 0 (length entities) some here) ∙ sound.acyclic index inside in
    cc
