-- What the meters hear of several ticks: jack by jack or tick by tick, they show the same.
use Rattle.std.proofs.Common.{◌≡◌, ◌∙◌, sym, refl, ap, subst, arith, ℕ, zero, suc, ◌+◌, ◌<◌, ◌≤◌, Bool, if◌then◌else◌, ℤ, List, [], ◌∷◌, ◌++◌, Option, Some, None, length, get_or, take, map, filter}
use Rattle.std.specs.List.{All, cons_option, range_with_len}
use Rattle.std.specs.Option.{option_map}
use Rattle.std.proofs.Math.Path.{fun_ext}
use Rattle.std.proofs.lemmas.Bool.{and_parts, eq-eqb, ne_eqb}
use Rattle.std.proofs.lemmas.List.{append-nil, get_or_default, map-id}
use Rattle.std.proofs.lemmas.List.Elements.{All-filter, All-map, filter_passes}
use Rattle.std.proofs.lemmas.List.FromFn.{map-range_with_len_more}
use Rattle.uac_entities.specs.declared.entity.Entity.{Entity}
use Rattle.uac_topology_rules.specs.Links.{is_clock}
use Rattle.uac_topology_rules.specs.Rules.{is_output}
use Rattle.uac_topology_rules.specs.Table.{at}
use Rattle.uac_topology_rules.proofs.TableIdLemmas.{at_read}
use Rattle.uac_graph.specs.Fitness.{IsSignalGraph}
use Rattle.uac_graph.specs.Meaning.{entity}
use Rattle.uac_graph.specs.TickRows.{AreRowsOf, RowsById, frames_at}
use Rattle.uac_graph.specs.Wiring.{frame_on, samples_on}
use Rattle.uac_graph.proofs.WiringTerminalLemmas.{entity_itself, output_signal}
use Rattle.uac_units.specs.Hearing.{Reading, after_hearing}
use Rattle.uac_units.specs.SampleRows.{after_hearing_all, frame_at, frames_of}
use Rattle.uac_units.proofs.HearingLemmas.{after_hearing-commutes}
use Rattle.uac_units.proofs.SampleRowsLemmas.{length-frame_at}
use Rattle.uac_device.specs.declared.hearing.OutputJack.{OutputJack}
use Rattle.uac_device.specs.DeviceWorld.{after_frames, is_output_jack}
use Rattle.uac_device.specs.DeviceTicks.{heard_by_ticks}
use Rattle.uac_device.specs.DeviceTurns.{frames_heard, heard_on, jack_of, jacks_of}
use Rattle.uac_device.proofs.DeviceTurnsMeterLemmas.{after_more, frames_more}
use Rattle.uac_device.proofs.HeldRowsLemmas.{counted_at, counted_there, row_there}

-- ---- frames in any order

one_past : (frame other : List ℤ) (shown : List Reading) → map (after_hearing frame) (map (after_hearing other) shown) ≡ map (after_hearing other) (map (after_hearing frame) shown)
one_past frame other [] = refl
one_past frame other (r ∷ shown) =
    ap (λ (x : Reading). x ∷ map (after_hearing frame) (map (after_hearing other) shown)) (after_hearing-commutes frame other r)
    ∙ ap (λ (xs : List Reading). after_hearing other (after_hearing frame r) ∷ xs) (one_past frame other shown)

frame_past : (frame : List ℤ) (frames : List (List ℤ)) (shown : List Reading) → map (after_hearing frame) (after_frames frames shown) ≡ after_frames frames (map (after_hearing frame) shown)
unfolding after_frames
frame_past frame [] shown = refl
frame_past frame (other ∷ frames) shown =
    frame_past frame frames (map (after_hearing other) shown) ∙ ap (after_frames frames) (one_past frame other shown)

frames_past : (first second : List (List ℤ)) (shown : List Reading) → after_frames first (after_frames second shown) ≡ after_frames second (after_frames first shown)
unfolding after_frames
frames_past [] second shown = refl
frames_past (frame ∷ first) second shown =
    ap (after_frames first) (frame_past frame second shown) ∙ frames_past first second (map (after_hearing frame) shown)

-- all meters hear these frames, meter by meter or frame by frame
all_as_frames : (frames : List (List ℤ)) (shown : List Reading) → map (after_hearing_all frames) shown ≡ after_frames frames shown
unfolding after_frames
all_as_frames [] shown = map-id shown
all_as_frames (frame ∷ frames) shown = each shown ∙ all_as_frames frames (map (after_hearing frame) shown)
  where
    each : (rs : List Reading) → map (after_hearing_all (frame ∷ frames)) rs ≡ map (after_hearing_all frames) (map (after_hearing frame) rs)
    each [] = refl
    each (r ∷ rs) = ap (λ (xs : List Reading). after_hearing_all frames (after_hearing frame r) ∷ xs) (each rs)

-- ---- ticks and jacks in either order

-- where one frame more is heard at each tick, they may as well be heard after all others
heard_last : (frames : ℕ → List (List ℤ)) (frame : ℕ → List ℤ) (ticks : ℕ) (shown : List Reading)
    → heard_by_ticks (λ t. frames t ++ frame t ∷ []) ticks shown ≡ after_frames (map frame (range_with_len 0 ticks)) (heard_by_ticks frames ticks shown)
unfolding heard_by_ticks after_frames
heard_last frames frame zero shown = refl
heard_last frames frame (suc t) shown =
    let so_far = heard_by_ticks frames t shown in
    let given = map frame (range_with_len 0 t) in
    let next : suc t ≡ t + 1 = omega arith in
    ap (after_frames (frames t ++ frame t ∷ [])) (heard_last frames frame t shown)
    ∙ after_more (frames t) (frame t ∷ []) (after_frames given so_far)
    ∙ ap (after_frames (frame t ∷ [])) (frames_past (frames t) given so_far)
    ∙ sym (after_more given (frame t ∷ []) (after_frames (frames t) so_far))
    ∙ ap (λ (all : List (List ℤ)). after_frames all (after_frames (frames t) so_far))
    (sym (ap (λ (n : ℕ). map frame (range_with_len 0 n)) next ∙ map-range_with_len_more frame 0 t t (omega arith)))

-- ---- jack by jack

-- no jack yet
pub rows_heard_none : (rows : RowsById) (domain : ℕ) (jacks : List OutputJack) (ticks : ℕ) (shown : List Reading)
    → shown ≡ heard_by_ticks (λ t. frames_heard (frames_at t rows) domain (take 0 jacks)) ticks shown
unfolding heard_by_ticks after_frames
rows_heard_none rows domain jacks zero shown = refl
rows_heard_none rows domain jacks (suc t) shown = rows_heard_none rows domain jacks t shown

-- a jack of the domain
pub rows_heard_more : (rows : RowsById) (domain : ℕ) (jacks : List OutputJack) (i : ℕ) (d : OutputJack) (ticks : ℕ) (held : List (List ℤ)) (old mid new : List Reading)
    → i < length jacks → (get_or jacks i d).domain ≡ domain
    → All (λ (j : OutputJack). frame_on (frames_at 0 rows) j.terminal ≡ Some (samples_on (frames_at 0 rows) j.terminal)) jacks
    → ((tick : ℕ) → frame_at tick held ≡ samples_on (frames_at tick rows) (get_or jacks i d).terminal)
    → mid ≡ heard_by_ticks (λ t. frames_heard (frames_at t rows) domain (take i jacks)) ticks old
    → new ≡ map (after_hearing_all (frames_of ticks held)) mid
    → new ≡ heard_by_ticks (λ t. frames_heard (frames_at t rows) domain (take (i + 1) jacks)) ticks old
rows_heard_more rows domain jacks i d ticks held old mid new below own wired seen so_far one =
    one
    ∙ all_as_frames (frames_of ticks held) mid
    ∙ ap (after_frames (frames_of ticks held)) so_far
    ∙ sym (heard_last (λ t. frames_heard (frames_at t rows) domain (take i jacks)) (λ t. frame_at t held) ticks old)
    ∙ ap (λ (frames : ℕ → List (List ℤ)). heard_by_ticks frames ticks old) (fun_ext each)
  where
    terminal : ℕ
    terminal = (get_or jacks i d).terminal

    heard : (t : ℕ) → heard_on (frames_at t rows) domain (get_or jacks i d) ≡ Some (frame_at t held)
    heard t =
        ap (λ (b : Bool). if b then frame_on (frames_at t rows) terminal else None) (eq-eqb (get_or jacks i d).domain domain own)
        ∙ counted_there (length (samples_on (frames_at 0 rows) terminal)) (frame_on (frames_at t rows) terminal)
        (counted_at 0 t rows rows terminal refl ∙ ap (option_map length) (wired i d below))
        ∙ ap Some (sym (seen t))

    each : (t : ℕ) → frames_heard (frames_at t rows) domain (take i jacks) ++ frame_at t held ∷ [] ≡ frames_heard (frames_at t rows) domain (take (i + 1) jacks)
    each t =
        sym (
        frames_more (frames_at t rows) domain jacks i d below
        ∙ ap (λ (o : Option (List ℤ)). frames_heard (frames_at t rows) domain (take i jacks) ++ cons_option o []) (heard t))

-- a jack of another
pub rows_heard_past : (rows : RowsById) (domain : ℕ) (jacks : List OutputJack) (i : ℕ) (d : OutputJack) (ticks : ℕ) (old new : List Reading)
    → i < length jacks → ((get_or jacks i d).domain ≡ domain → ⊥)
    → new ≡ heard_by_ticks (λ t. frames_heard (frames_at t rows) domain (take i jacks)) ticks old
    → new ≡ heard_by_ticks (λ t. frames_heard (frames_at t rows) domain (take (i + 1) jacks)) ticks old
rows_heard_past rows domain jacks i d ticks old new below other so_far =
    so_far ∙ ap (λ (frames : ℕ → List (List ℤ)). heard_by_ticks frames ticks old) (fun_ext each)
  where
    heard : (t : ℕ) → heard_on (frames_at t rows) domain (get_or jacks i d) ≡ None
    heard t =
        ap (λ (b : Bool). if b then frame_on (frames_at t rows) (get_or jacks i d).terminal else None) (ne_eqb (get_or jacks i d).domain domain other)

    each : (t : ℕ) → frames_heard (frames_at t rows) domain (take i jacks) ≡ frames_heard (frames_at t rows) domain (take (i + 1) jacks)
    each t =
        sym (
        frames_more (frames_at t rows) domain jacks i d below
        ∙ ap (λ (o : Option (List ℤ)). frames_heard (frames_at t rows) domain (take i jacks) ++ cons_option o []) (heard t)
        ∙ append-nil (frames_heard (frames_at t rows) domain (take i jacks)))

-- ---- how many rows there are

pub rows_few : (tick : ℕ) (held : List (List ℤ)) (samples : List ℤ) → frame_at tick held ≡ samples → length samples ≤ 32 → length held ≤ 32
rows_few tick held samples same few = subst (λ (n : ℕ). n ≤ 32) (sym (ap length same) ∙ length-frame_at tick held) few

-- ---- the output jacks among entities have their rows

pub jacks_wired : (entities : List Entity) (rows : RowsById) (jacks : List OutputJack) → IsSignalGraph entities → AreRowsOf entities rows → jacks ≡ jacks_of entities
    → All (λ (j : OutputJack). frame_on (frames_at 0 rows) j.terminal ≡ Some (samples_on (frames_at 0 rows) j.terminal)) jacks
jacks_wired entities rows jacks sound fitting same =
    subst (All wired) (sym same)
    (All-map wired jack_of (filter is_output_jack entities) (λ k d below.
    row_there entities rows 0 (get_or (filter is_output_jack entities) k d).id fitting
    (ap (λ (e : Entity). is_clock e.kind) (All-filter is_output_jack (λ (e : Entity). entity entities e.id ≡ e) entities own k d below)
    ∙ output_signal (get_or (filter is_output_jack entities) k d).kind
    (and_parts (is_output (get_or (filter is_output_jack entities) k d).kind) _ (filter_passes is_output_jack entities k d below)).0)))
  where
    wired : OutputJack → Type 0
    wired j = frame_on (frames_at 0 rows) j.terminal ≡ Some (samples_on (frames_at 0 rows) j.terminal)

    own : All (λ (e : Entity). entity entities e.id ≡ e) entities
    own k d below =
        let here : get_or entities k d ≡ at entities k = at_read entities k (get_or entities k d) below (get_or_default entities k d (get_or entities k d) below) in
        ap (λ (e : Entity). entity entities e.id) here ∙ entity_itself entities k sound below ∙ sym here
