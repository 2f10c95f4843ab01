-- What the meters hear, jack by jack.
use Rattle.std.proofs.Common.{◌≡◌, ◌∙◌, sym, refl, ap, arith, ℕ, suc, ◌+◌, ◌<◌, ◌≤◌, ◌&&◌, ◌==◌, Bool, true, false, cond, if◌then◌else◌, ℤ, List, [], ◌∷◌, ◌++◌, Option, Some, None, length, get_or, take, map, filter}
use Rattle.std.specs.List.{All, cons_option}
use Rattle.std.proofs.lemmas.List.{append-nil, take_all, take_more}
use Rattle.std.proofs.lemmas.List.Elements.{filter_map-append}
use Rattle.std.proofs.lemmas.List.Sums.{fold-append}
use Rattle.uac_entities.specs.declared.entity.Entity.{Entity}
use Rattle.uac_topology_rules.specs.Rules.{is_output}
use Rattle.uac_graph.specs.Needs.{is_end}
use Rattle.uac_graph.specs.Wiring.{Frames, frame_on}
use Rattle.uac_units.specs.Hearing.{Reading, after_hearing}
use Rattle.uac_device.specs.declared.hearing.OutputJack.{OutputJack}
use Rattle.uac_device.specs.DeviceWorld.{after_frames, is_jack, is_output_jack}
use Rattle.uac_device.specs.DeviceTurns.{frames_heard, heard_on, jack_of, jacks_of}

-- one jack more
pub frames_more : (wires : Frames) (domain : ℕ) (jacks : List OutputJack) (i : ℕ) (d : OutputJack) → i < length jacks
    → frames_heard wires domain (take (i + 1) jacks) ≡ frames_heard wires domain (take i jacks) ++ cons_option (heard_on wires domain (get_or jacks i d)) []
frames_more wires domain jacks i d below =
    ap (frames_heard wires domain) (take_more jacks i d below)
    ∙ filter_map-append (heard_on wires domain) (take i jacks) (get_or jacks i d ∷ [])

-- frames heard after frames
pub after_more : (first second : List (List ℤ)) (shown : List Reading) → after_frames (first ++ second) shown ≡ after_frames second (after_frames first shown)
unfolding after_frames
after_more first second shown = fold-append (λ shown frame. map (after_hearing frame) shown) shown first second

-- a jack of which a frame is heard
pub heard_more : (wires : Frames) (domain : ℕ) (jacks : List OutputJack) (i : ℕ) (d : OutputJack) (frame : List ℤ) (old mid new : List Reading) → i < length jacks
    → heard_on wires domain (get_or jacks i d) ≡ Some frame → mid ≡ after_frames (frames_heard wires domain (take i jacks)) old
    → new ≡ map (after_hearing frame) mid → new ≡ after_frames (frames_heard wires domain (take (i + 1) jacks)) old
unfolding after_frames
heard_more wires domain jacks i d frame old mid new below heard so_far one =
    one
    ∙ ap (map (after_hearing frame)) so_far
    ∙ sym (after_more (frames_heard wires domain (take i jacks)) (frame ∷ []) old)
    ∙ ap (λ (o : Option (List ℤ)). after_frames (frames_heard wires domain (take i jacks) ++ cons_option o []) old) (sym heard)
    ∙ ap (λ (frames : List (List ℤ)). after_frames frames old) (sym (frames_more wires domain jacks i d below))

-- a jack of which none is
pub heard_none : (wires : Frames) (domain : ℕ) (jacks : List OutputJack) (i : ℕ) (d : OutputJack) (old new : List Reading) → i < length jacks
    → heard_on wires domain (get_or jacks i d) ≡ None → new ≡ after_frames (frames_heard wires domain (take i jacks)) old
    → new ≡ after_frames (frames_heard wires domain (take (i + 1) jacks)) old
heard_none wires domain jacks i d old new below none so_far =
    so_far
    ∙ ap (λ (frames : List (List ℤ)). after_frames frames old) (sym (append-nil (frames_heard wires domain (take i jacks))))
    ∙ ap (λ (o : Option (List ℤ)). after_frames (frames_heard wires domain (take i jacks) ++ cons_option o []) old) (sym none)
    ∙ ap (λ (frames : List (List ℤ)). after_frames frames old) (sym (frames_more wires domain jacks i d below))

-- all jacks
pub heard_all : (wires : Frames) (domain : ℕ) (jacks : List OutputJack) (i : ℕ) (old new : List Reading) → length jacks ≤ i
    → new ≡ after_frames (frames_heard wires domain (take i jacks)) old → new ≡ after_frames (frames_heard wires domain jacks) old
heard_all wires domain jacks i old new past so_far =
    so_far ∙ ap (λ (xs : List OutputJack). after_frames (frames_heard wires domain xs) old) (take_all i jacks past)

-- the frames of the output jacks among entities, told otherwise
pub heard_told : (wires : Frames) (domain : ℕ) (played : ℕ → List ℤ) (entities : List Entity)
    → All (λ e. is_end domain e ≡ true → frame_on wires e.id ≡ Some (played e.id)) entities
    → frames_heard wires domain (jacks_of entities) ≡ map (λ e. played e.id) (filter (λ e. is_end domain e && is_jack e) entities)
heard_told wires domain played [] told = refl
heard_told wires domain played (e ∷ es) told =
    first (is_output_jack e)
    ∙ one (is_output e.kind) (e.clock == domain) (is_jack e) (told 0 e (omega arith)) (heard_told wires domain played es (λ k d below. told (suc k) d (omega arith)))
  where
    frames : List (List ℤ)
    frames = frames_heard wires domain (jacks_of es)

    rest : List Entity
    rest = filter (λ e. is_end domain e && is_jack e) es

    first : (b : Bool) → frames_heard wires domain (map jack_of (cond b (e ∷ filter is_output_jack es) (filter is_output_jack es)))
        ≡ cond b (cons_option (heard_on wires domain (jack_of e)) frames) frames
    first true = refl
    first false = refl

    one : (output own jack : Bool) → ((output && own) ≡ true → frame_on wires e.id ≡ Some (played e.id)) → frames ≡ map (λ e. played e.id) rest
        → cond (output && jack) (cons_option (if own then frame_on wires e.id else None) frames) frames
        ≡ map (λ e. played e.id) (cond ((output && own) && jack) (e ∷ rest) rest)
    one true true true there others = ap (λ (o : Option (List ℤ)). cons_option o frames) (there refl) ∙ ap (λ fs. played e.id ∷ fs) others
    one true false true there others = others
    one true true false there others = others
    one true false false there others = others
    one false own jack there others = others
