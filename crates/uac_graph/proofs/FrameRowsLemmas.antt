-- Frames in a row, read by id.
use Rattle.std.proofs.Common.{◌≡◌, ◌∙◌, sym, refl, ap, arith, ℕ, suc, zero, ◌+◌, ◌<◌, Bool, cond, eqb, if◌then◌else◌, ℤ, List, [], ◌∷◌, ◌++◌, Option, Some, None, length, length-append, get_or, map, set, replicate, inl, inr, unwrap_or}
use Rattle.std.specs.Option.{option_map}
use Rattle.std.proofs.lemmas.Bool.{cases_eq, eq-eqb, ne_eqb}
use Rattle.std.proofs.lemmas.List.{get_or_default, get_or-set_same, get_or-set_other}
use Rattle.std.proofs.lemmas.List.{set-append_left, set-append_right}
use Rattle.std.proofs.Math.ListN.{get_or-append}
use Rattle.std.proofs.Math.Seq.{get_or-append_right}
use Rattle.uac_graph.specs.FrameRows.{numbered_frames, row_frames, slot_after_passing}
use Rattle.uac_graph.specs.Wiring.{frame_on, samples_on}
use Rattle.uac_graph.proofs.RenderingLemmas.{no_samples}

-- a number before the first slot
numbered_before : (row : List (Option (List ℤ))) (n id : ℕ) → id < n → frame_on (row_frames n row) id ≡ None
unfolding row_frames
numbered_before [] n id below = refl
numbered_before (None ∷ row) n id below = numbered_before row (suc n) id (omega arith)
numbered_before (Some frame ∷ row) n id below =
    ap (λ (b : Bool). cond b (Some frame) (frame_on (row_frames (suc n) row) id)) (ne_eqb id n (λ e. omega arith))
    ∙ numbered_before row (suc n) id (omega arith)

-- the frame in a slot
numbered_at : (row : List (Option (List ℤ))) (n k : ℕ) → frame_on (row_frames n row) (n + k) ≡ get_or row k None
unfolding row_frames
numbered_at [] n k = refl
numbered_at (None ∷ row) n zero = numbered_before row (suc n) (n + 0) (omega arith)
numbered_at (None ∷ row) n (suc k) = ap (frame_on (row_frames (suc n) row)) (omega arith) ∙ numbered_at row (suc n) k
numbered_at (Some frame ∷ row) n zero = ap (λ (b : Bool). cond b (Some frame) (frame_on (row_frames (suc n) row) (n + 0))) (eq-eqb (n + 0) n (omega arith))
numbered_at (Some frame ∷ row) n (suc k) =
    ap (λ (b : Bool). cond b (Some frame) (frame_on (row_frames (suc n) row) (n + suc k))) (ne_eqb (n + suc k) n (λ e. omega arith))
    ∙ ap (frame_on (row_frames (suc n) row)) (omega arith) ∙ numbered_at row (suc n) k

pub frame_at : (row : List (Option (List ℤ))) (id : ℕ) → frame_on (numbered_frames row) id ≡ get_or row id None
frame_at row id = ap (frame_on (row_frames 0 row)) (omega arith) ∙ numbered_at row 0 id

-- a row of frames of whatever kind, as they are read
module _ {X : Type 0} (read : X → List ℤ) where
  get_or_seen : (row : List (Option X)) (id : ℕ) → get_or (map (option_map read) row) id None ≡ option_map read (get_or row id None)
  get_or_seen [] id = refl
  get_or_seen (o ∷ row) zero = refl
  get_or_seen (o ∷ row) (suc id) = get_or_seen row id

  pub frame_seen : (row : List (Option X)) (id : ℕ) → frame_on (numbered_frames (map (option_map read) row)) id ≡ option_map read (get_or row id None)
  frame_seen row id = frame_at (map (option_map read) row) id ∙ get_or_seen row id

  -- one slot written
  pub slot_written : (row new : List (Option X)) (key : ℕ) (slot : Option X) → key < length row → new ≡ set row key slot
      → (id : ℕ) → frame_on (numbered_frames (map (option_map read) new)) id
      ≡ (if eqb key id then option_map read slot else frame_on (numbered_frames (map (option_map read) row)) id)
  slot_written row new key slot below is id =
      frame_seen new id ∙ ap (λ (r : List (Option X)). option_map read (get_or r id None)) is
      ∙ elim (cases_eq key id) [
        | inl same ↦
            ap (λ (n : ℕ). option_map read (get_or (set row key slot) n None)) (sym same)
            ∙ ap (option_map read) (get_or-set_same row key slot None below)
            ∙ sym (ap (λ (b : Bool). if b then option_map read slot else frame_on (numbered_frames (map (option_map read) row)) id) (eq-eqb key id same))
        | inr other ↦
            ap (option_map read) (get_or-set_other row key id slot None (λ e. other (sym e)))
            ∙ sym (frame_seen row id)
            ∙ sym (ap (λ (b : Bool). if b then option_map read slot else frame_on (numbered_frames (map (option_map read) row)) id) (ne_eqb key id other))
      ]

  -- one frame written
  pub frame_written : (row new : List (Option X)) (key : ℕ) (value : X) → key < length row → new ≡ set row key (Some value)
      → (id : ℕ) → frame_on (numbered_frames (map (option_map read) new)) id
      ≡ (if eqb key id then Some (read value) else frame_on (numbered_frames (map (option_map read) row)) id)
  frame_written row new key value below is id = slot_written row new key (Some value) below is id

  -- an id in whose slot no frame stands has no wire
  pub none_there : (row : List (Option X)) (id count : ℕ) → get_or row id None ≡ None
      → option_map length (frame_on (numbered_frames (map (option_map read) row)) id) ≡ Some count → ⊥
  none_there row id count absent wire =
      let none : option_map length (frame_on (numbered_frames (map (option_map read) row)) id) ≡ None =
      ap (option_map length) (frame_seen row id ∙ ap (option_map read) absent) in cc

-- no frames
pub frames_none : {X : Type 0} (read : X → List ℤ) (n id : ℕ) → frame_on (numbered_frames (map (option_map read) (replicate n None))) id ≡ None
frames_none read n id = frame_seen read (replicate n None) id ∙ along n id
  where
    along : (n id : ℕ) → option_map read (get_or (replicate n None) id None) ≡ None
    along zero id = refl
    along (suc n) zero = refl
    along (suc n) (suc id) = along n id

-- what is read of a row, whatever stands in for what isn't there
pub stands_at : {X : Type 0} (row : List (Option X)) (id : ℕ) (o : Option X) (count : ℕ) → length row ≡ count → id < count → o ≡ get_or row id o
    → get_or row id None ≡ o
stands_at row id o count sized below is = get_or_default row id None o (omega (arith, sized)) ∙ sym is

-- a frame passed on to a later slot, in the parts of a row, whatever stands in for what isn't there
pub passed_back : {X : Type 0} (row front back : List (Option X)) (from to : ℕ) (c d slot : Option X) → row ≡ front ++ back → length front ≡ to → from < to
    → to < length row → slot ≡ slot_after_passing (get_or front from c) (get_or back 0 d)
    → front ++ set back 0 slot ≡ set row to (slot_after_passing (get_or row from None) (get_or row to None))
passed_back row front back from to c d slot parts sized before inside is =
    let own : get_or row from None ≡ get_or front from c =
    ap (λ r. get_or r from None) parts ∙ get_or-append front back None from (omega (arith, sized, before)) ∙ get_or_default front from None c (omega (arith, sized, before)) in
    let there : get_or row to None ≡ get_or back 0 d =
    ap (λ r. get_or r to None) parts ∙ get_or-append_right front back to None (omega (arith, sized)) ∙ ap (λ n. get_or back n None) (omega (arith, sized))
    ∙ get_or_default back 0 None d (omega (arith, sized, inside, ap length parts, length-append front back)) in
    ap (λ (n : ℕ). front ++ set back n slot) (omega arith)
    ∙ sym (set-append_right front back to to slot sized (omega arith))
    ∙ ap (λ r. set r to slot) (sym parts)
    ∙ ap (set row to) (is ∙ ap (λ o. slot_after_passing o (get_or back 0 d)) (sym own) ∙ ap (slot_after_passing (get_or row from None)) (sym there))

-- or to an earlier one
pub passed_front : {X : Type 0} (row front back : List (Option X)) (from to : ℕ) (c d slot : Option X) → row ≡ front ++ back → length front ≡ from → to < from
    → from < length row → slot ≡ slot_after_passing (get_or back 0 c) (get_or front to d)
    → set front to slot ++ back ≡ set row to (slot_after_passing (get_or row from None) (get_or row to None))
passed_front row front back from to c d slot parts sized before inside is =
    let own : get_or row from None ≡ get_or back 0 c =
    ap (λ r. get_or r from None) parts ∙ get_or-append_right front back from None (omega (arith, sized)) ∙ ap (λ n. get_or back n None) (omega (arith, sized))
    ∙ get_or_default back 0 None c (omega (arith, sized, inside, ap length parts, length-append front back)) in
    let there : get_or row to None ≡ get_or front to d =
    ap (λ r. get_or r to None) parts ∙ get_or-append front back None to (omega (arith, sized, before)) ∙ get_or_default front to None d (omega (arith, sized, before)) in
    sym (set-append_left front back to slot (omega (arith, sized, before)))
    ∙ ap (λ r. set r to slot) (sym parts)
    ∙ ap (set row to) (is ∙ ap (λ o. slot_after_passing o (get_or front to d)) (sym own) ∙ ap (slot_after_passing (get_or row from None)) (sym there))

-- what is read where a frame was passed on
pub passed_seen : {X : Type 0} (read : X → List ℤ) (row new : List (Option X)) (from to : ℕ) → to < length row
    → new ≡ set row to (slot_after_passing (get_or row from None) (get_or row to None))
    → option_map length (frame_on (numbered_frames (map (option_map read) row)) to) ≡ Some (length (samples_on (numbered_frames (map (option_map read) row)) from))
    → (k : ℕ) → frame_on (numbered_frames (map (option_map read) new)) k
    ≡ (if eqb to k then Some (samples_on (numbered_frames (map (option_map read) row)) from) else frame_on (numbered_frames (map (option_map read) row)) k)
passed_seen {X = X} read row new from to inside is there k =
    let frames = numbered_frames (map (option_map read) row) in
    slot_written read row new to (slot_after_passing (get_or row from None) (get_or row to None)) inside is k
    ∙ ap (λ (o : Option (List ℤ)). if eqb to k then o else frame_on frames k)
    (by (get_or row from None) (get_or row to None)
    (ap (option_map length) (sym (frame_seen read row to)) ∙ there ∙ ap (λ o. Some (length (unwrap_or o []))) (frame_seen read row from))
    ∙ ap (λ o. Some (unwrap_or o [])) (sym (frame_seen read row from)))
  where
    by : (source held : Option X) → option_map length (option_map read held) ≡ Some (length (unwrap_or (option_map read source) []))
        → option_map read (slot_after_passing source held) ≡ Some (unwrap_or (option_map read source) [])
    by (Some frame) (Some held) e = refl
    by (Some frame) None e = absurd (cc)
    by None (Some held) e = no_samples (Some (read held)) 0 e refl
    by None None e = absurd (cc)
