-- Frames that are laid into rows, tick by tick.
use Rattle.std.proofs.Common.{◌≡◌, ◌≢◌, ◌∙◌, sym, refl, ap, subst, arith, ℕ, ◌+◌, ◌-◌, ◌<◌, ◌≤◌, ℤ, pos, List, [], ◌++◌, length, map, get_or, replicate, min, inl, inr}
use Rattle.std.specs.List.{range_with_len}
use Rattle.std.proofs.lemmas.Bool.{cases_lt}
use Rattle.std.proofs.lemmas.List.{ext_get_or, get_or-replicate, length-replicate}
use Rattle.std.proofs.lemmas.List.FromFn.{get_or-map-range_with_len, length-map-range_with_len}
use Rattle.uac_units.specs.SampleRows.{HasSamples, HaveTicks, frame_at, row_lengths}
use Rattle.uac_ring.specs.Rings.{Holds, ring_frames}
use Rattle.uac_flow.specs.Flows.{InStands}
use Rattle.uac_flow.specs.FlowStreams.{InStream, OutStream}
use Rattle.uac_flow.specs.declared.inward.InFlow.{InFlow}
use Rattle.uac_flow.specs.FlowTicks.{given_at, in_after_ticks, in_room, ready_of}
use Rattle.uac_flow.proofs.FlowTicksLemmas.{given_past, given_ready, in_kept}
use Rattle.uac_flow.proofs.FlowsFrameLemmas.{holds_more, level_kept}
use Rattle.uac_units.proofs.SampleRowsLemmas.{hushed, ticks_kept, ticks_less}

-- from a tick on, up to another, the rows have these frames; at the others they have what they had
pub record FramesAreLaid (from upto : ℕ) (frame : ℕ → List ℤ) (old new : List (List ℤ)) : Type 0 where
  pub here : (tick : ℕ) → from ≤ tick → tick < upto → frame_at tick new ≡ frame tick
  pub before : (tick : ℕ) → tick < from → frame_at tick new ≡ frame_at tick old
  pub behind : (tick : ℕ) → upto ≤ tick → frame_at tick new ≡ frame_at tick old
  pub lengths : row_lengths new ≡ row_lengths old

pub laid_none : (from : ℕ) (frame : ℕ → List ℤ) (rows : List (List ℤ)) → FramesAreLaid from from frame rows rows
laid_none from frame rows = record {
  here = λ tick least less. absurd (omega (arith, least, less));
  before = λ tick less. refl;
  behind = λ tick least. refl;
  lengths = refl;
}

pub laid_more : (from upto : ℕ) (frame : ℕ → List ℤ) (old now new : List (List ℤ)) → FramesAreLaid from upto frame old now → from ≤ upto
    → frame_at upto new ≡ frame upto → ((other : ℕ) → other ≢ upto → frame_at other new ≡ frame_at other now) → row_lengths new ≡ row_lengths now
    → FramesAreLaid from (upto + 1) frame old new
laid_more from upto frame old now new laid order at others lengths = record {
  here = here;
  before = λ tick less. others tick (λ e. omega (arith, e, less, order)) ∙ laid.before tick less;
  behind = λ tick least. others tick (λ e. omega (arith, e, least)) ∙ laid.behind tick (omega (arith, least));
  lengths = lengths ∙ laid.lengths;
}
  where
    here : (tick : ℕ) → from ≤ tick → tick < upto + 1 → frame_at tick new ≡ frame tick
    here tick least less = elim (cases_lt tick upto) [
      | inl below ↦ others tick (λ e. omega (arith, e, below)) ∙ laid.here tick least below
      | inr past ↦
          let e : tick ≡ upto = omega (arith, less, past) in
          ap (λ (n : ℕ). frame_at n new) e ∙ at ∙ ap frame (sym e)
    ]

-- the next tick is there
pub next_inside : (from upto ticks : ℕ) (frame : ℕ → List ℤ) (old now : List (List ℤ)) → FramesAreLaid from upto frame old now → upto < ticks
    → HaveTicks ticks old → HaveTicks (upto + 1) now
next_inside from upto ticks frame old now laid less inside =
    ticks_less (upto + 1) ticks now (omega (arith, less)) (ticks_kept ticks old now laid.lengths inside)

-- the frames of a stream and then silence are what it gives
pub rows_given : (o : OutStream) (ring mid new : List (List ℤ)) (ticks taken channels : ℕ) → Holds o.arrived o.taken ring → taken ≡ min (ready_of o) ticks
    → channels ≡ o.stream.channels → ((tick : ℕ) → tick < taken → frame_at tick mid ≡ get_or ring tick [])
    → ((tick : ℕ) → tick < taken → frame_at tick new ≡ frame_at tick mid)
    → ((tick : ℕ) → taken ≤ tick → tick < ticks → frame_at tick new ≡ replicate channels (pos 0)) → (tick : ℕ) → tick < ticks → frame_at tick new ≡ given_at tick o
rows_given o ring mid new ticks taken channels holds count same laid kept hushed tick less = elim (cases_lt tick taken) [
  | inl below ↦ kept tick below ∙ laid tick below ∙ sym (given_ready o ring tick holds (omega (arith, below, count)))
  | inr past ↦
      hushed tick past less ∙ ap (λ (n : ℕ). replicate n (pos 0)) same ∙ sym (given_past o tick (omega (arith, past, count, less)))
]

-- a stream whose ticks are silent has silent frames more, as many as there is room for
pub silence_put : (ring new : List (List ℤ)) (f : InFlow) (i : InStream) (rows : List (List ℤ)) (ticks channels : ℕ) → InStands ring f i
    → length ring ≤ ring_frames → length rows ≡ channels → ((channel : ℕ) → HasSamples ticks (λ tick. pos 0) (get_or rows channel []))
    → new ≡ ring ++ replicate (min ticks (ring_frames - length ring)) (replicate channels (pos 0))
    → InStands new f (in_after_ticks (λ tick. frame_at tick rows) ticks i)
silence_put ring new f i rows ticks channels stands few wide silent put =
    let frames : ℕ → List ℤ = λ tick. frame_at tick rows in
    let level = level_kept i.made ring i.gone stands.held in
    let count : ℕ = min ticks (in_room i) in
    let same : map frames (range_with_len 0 count) ≡ replicate count (replicate channels (pos 0)) =
    ext_get_or [] (map frames (range_with_len 0 count)) (replicate count (replicate channels (pos 0)))
    (length-map-range_with_len frames 0 count ∙ sym (length-replicate count (replicate channels (pos 0))))
    (λ tick below.
    let less : tick < count = omega (arith, below, length-map-range_with_len frames 0 count) in
    get_or-map-range_with_len frames 0 count tick tick [] less (omega arith)
    ∙ hushed ticks rows rows refl (λ channel inside. silent channel) tick (omega (arith, less))
    ∙ ap (λ (n : ℕ). replicate n (pos 0)) wide
    ∙ sym (get_or-replicate count tick (replicate channels (pos 0)) [] less)) in
    let came : new ≡ ring ++ map frames (range_with_len 0 count) =
    put
    ∙ ap (λ (n : ℕ). ring ++ replicate (min ticks (ring_frames - n)) (replicate channels (pos 0))) level
    ∙ ap (λ (fs : List (List ℤ)). ring ++ fs) (sym same) in
    subst (λ (x : InStream). InStands new f x) (sym (in_kept frames ticks i (stands.held.0, omega (arith, level, few))))
    (record {
      stream = stands.stream;
      microframes = stands.microframes;
      held =
          subst (λ (r : List (List ℤ)). Holds (i.made ++ map frames (range_with_len 0 count)) i.gone r) (sym came)
          (holds_more i.made (map frames (range_with_len 0 count)) ring i.gone stands.held);
    })
