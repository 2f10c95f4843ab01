-- What is kept of a track and of a stream.
use Rattle.std.proofs.Common.{◌≡◌, ℕ, ◌+◌, ◌-◌, ◌*◌, ◌/◌, ◌%◌, ◌<◌, ◌≤◌, ◌==◌, Bool, true, false, if◌then◌else◌, ℤ, List, [], ◌∷◌, ◌++◌, map, pos, refl, length, take, drop, set, get_or, sum, replicate, position, slice_get, Some, None, sym, ap, ◌∙◌, arith, inl, inr, eq-eqb, ne_eqb, length-append}
use Rattle.std.proofs.Math.Seq.{drop-nil, take-nil}
use Rattle.std.specs.List.{All, flat_map, position_or_len, range_with_len}
use Rattle.std.proofs.lemmas.Bool.{cases_eq}
use Rattle.std.proofs.lemmas.List.{length-replicate}
use Rattle.std.proofs.lemmas.List.Elements.{All-drop}
use Rattle.std.proofs.lemmas.List.Folds.{find_at, find-set, find_past, sum_by-replicate}
use Rattle.std.proofs.lemmas.List.Quantifiers.{position-Some}
use Rattle.std.proofs.lemmas.List.Sums.{position_or_len_is}
use Rattle.std.proofs.lemmas.Option.{slice_get-get_or, slice_get_past}
use Rattle.uac_pcm.proofs.PacketsLemmas.{take_front, drop_front}
use Rattle.uac_topology_rules.proofs.ListFindLemmas.{position_none}
use Rattle.uac_rate.proofs.PacketSizesLemmas.{by_remainder}
use Rattle.uac_rate.specs.PacketSizes.{frames_in_packet}
use Rattle.uac_host.specs.declared.host_streams.HostStream.{HostStream}
use Rattle.uac_host.specs.HostWorld.{Pace, Track}
use Rattle.uac_host.specs.HostFields.{TrackFields}
use Rattle.uac_pcm.specs.Tones.{tone_sample, tone_frame}
use Rattle.uac_pcm.specs.declared.tones.Tone.{Tone}
use Rattle.uac_pcm.specs.declared.tones.Tone.TheVariants.{Silent}
use Rattle.uac_pcm.proofs.ZerosLemmas.{map_same}
use Rattle.uac_host.specs.HostCalls.{track_after_frames, next_frames, next_size, used_next}
use Rattle.uac_host.specs.HostKept.{kept_track, stream_on}
use Rattle.uac_host.proofs.HostCallsLemmas.{tone_frame_again}

-- the samples of frames
abbrev pub flat : List (List ℤ) → List ℤ
flat frames = flat_map (λ frame. frame) frames

-- ---- the next frame of a track

-- a frame waits
pub front_waits : (channels : ℕ) (t : Track) → 1 ≤ channels → All (λ frame. length frame ≡ channels) t.waiting → channels ≤ length (flat t.waiting)
    → (next_frames channels 1 t ≡ take channels (flat t.waiting) ∷ [])
    × (kept_track (track_after_frames 1 t) ≡ record { samples = drop channels (flat t.waiting); tone = t.tone; place = t.place % 4294967296 })
unfolding next_frames track_after_frames
front_waits channels t some even long = along t.waiting even long where
  along : (w : List (List ℤ)) → All (λ frame. length frame ≡ channels) w → channels ≤ length (flat w)
      → (next_frames channels 1 (record { waiting = w; tone = t.tone; place = t.place }) ≡ take channels (flat w) ∷ [])
      × (kept_track (track_after_frames 1 (record { waiting = w; tone = t.tone; place = t.place })) ≡ record { samples = drop channels (flat w); tone = t.tone; place = t.place % 4294967296 })
  along [] even long = absurd (omega arith)
  along (f ∷ fs) even long =
      let first : length f ≡ channels = even 0 f (omega arith) in
      let none : 1 - length (f ∷ fs) ≡ 0 = omega arith in
      let same : t.place + 0 ≡ t.place = omega arith in (
        rw none (ap (λ (frame : List ℤ). frame ∷ []) (sym (take_front channels f (flat fs) first))),
        rw (none, same) (ap (λ (xs : List ℤ). let k : TrackFields = record { samples = xs; tone = t.tone; place = t.place % 4294967296 } in k) (sym (drop_front channels f (flat fs) first))),
      )

-- none waits
pub tone_sounds : (channels : ℕ) (t : Track) → All (λ frame. length frame ≡ channels) t.waiting → length (flat t.waiting) < channels
    → (next_frames channels 1 t ≡ tone_frame channels t.tone (t.place % 4294967296) ∷ [])
    × (kept_track (track_after_frames 1 t) ≡ record { samples = flat t.waiting; tone = t.tone; place = (t.place % 4294967296 + 1) % 4294967296 })
unfolding next_frames track_after_frames
tone_sounds channels t even short = along t.waiting even short where
  along : (w : List (List ℤ)) → All (λ frame. length frame ≡ channels) w → length (flat w) < channels
      → (next_frames channels 1 (record { waiting = w; tone = t.tone; place = t.place }) ≡ tone_frame channels t.tone (t.place % 4294967296) ∷ [])
      × (kept_track (track_after_frames 1 (record { waiting = w; tone = t.tone; place = t.place })) ≡ record { samples = flat w; tone = t.tone; place = (t.place % 4294967296 + 1) % 4294967296 })
  along [] even short =
      let place : (t.place + 1) % 4294967296 ≡ (t.place % 4294967296 + 1) % 4294967296 = omega arith in (
        ap (λ (frame : List ℤ). frame ∷ []) (sym (tone_frame_again channels t.tone t.place)),
        ap (λ (n : ℕ). let k : TrackFields = record { samples = []; tone = t.tone; place = n } in k) place,
      )
  along (f ∷ fs) even short =
      let first : length f ≡ channels = even 0 f (omega arith) in
      absurd (omega (arith, length-append f (flat fs)))

-- the same by what a track holds
pub next_waits : (channels count : ℕ) (t : Track) (fields : TrackFields) (samples rest : List ℤ) → 1 ≤ channels → All (λ frame. length frame ≡ channels) t.waiting
    → fields ≡ kept_track t → count ≡ channels → count ≤ length fields.samples → samples ≡ take count fields.samples → rest ≡ drop count fields.samples
    → (next_frames channels 1 t ≡ samples ∷ []) × (record { samples = rest; tone = fields.tone; place = fields.place } ≡ kept_track (track_after_frames 1 t))
next_waits channels count t fields samples rest some even kept same long taken left =
    let flatly : fields.samples ≡ flat t.waiting = ap (λ (f : TrackFields). f.samples) kept in
    let enough : channels ≤ length (flat t.waiting) = omega (arith, ap length flatly) in
    let both = front_waits channels t some even enough in
    let front : samples ≡ take channels (flat t.waiting) = taken ∙ ap (λ (n : ℕ). take n fields.samples) same ∙ ap (take channels) flatly in
    let back : rest ≡ drop channels (flat t.waiting) = left ∙ ap (λ (n : ℕ). drop n fields.samples) same ∙ ap (drop channels) flatly in (
      both.0 ∙ ap (λ (frame : List ℤ). frame ∷ []) (sym front),
      ap (λ (xs : List ℤ). let k : TrackFields = record { samples = xs; tone = fields.tone; place = fields.place } in k) back
          ∙ ap (λ (f : TrackFields). let k : TrackFields = record { samples = drop channels (flat t.waiting); tone = f.tone; place = f.place } in k) kept
          ∙ sym both.1,
    )

pub next_sounds : (channels count : ℕ) (t : Track) (fields : TrackFields) (samples : List ℤ) → All (λ frame. length frame ≡ channels) t.waiting
    → fields ≡ kept_track t → count ≡ channels → length fields.samples < count → samples ≡ tone_frame count fields.tone fields.place
    → (next_frames channels 1 t ≡ samples ∷ []) × (record { samples = fields.samples; tone = fields.tone; place = (fields.place + 1) % 4294967296 } ≡ kept_track (track_after_frames 1 t))
next_sounds channels count t fields samples even kept same short sounds =
    let flatly : fields.samples ≡ flat t.waiting = ap (λ (f : TrackFields). f.samples) kept in
    let few : length (flat t.waiting) < channels = omega (arith, ap length flatly) in
    let both = tone_sounds channels t even few in
    let frame : samples ≡ tone_frame channels t.tone (t.place % 4294967296) =
    sounds ∙ ap (λ (n : ℕ). tone_frame n fields.tone fields.place) same ∙ ap (λ (f : TrackFields). tone_frame channels f.tone f.place) kept in (
      both.0 ∙ ap (λ (frame : List ℤ). frame ∷ []) (sym frame),
      ap (λ (f : TrackFields). let k : TrackFields = record { samples = f.samples; tone = f.tone; place = (f.place + 1) % 4294967296 } in k) kept ∙ sym both.1,
    )

-- none waits, and the tone is silence
pub silence_follows : (channels n : ℕ) (t : Track) (fields : TrackFields) → 1 ≤ channels → All (λ frame. length frame ≡ channels) t.waiting
    → fields ≡ kept_track t → fields.samples ≡ [] → fields.tone ≡ Silent
    → (next_frames channels n t ≡ replicate n (replicate channels (pos 0)))
    × (record { samples = fields.samples; tone = fields.tone; place = (fields.place + n) % 4294967296 } ≡ kept_track (track_after_frames n t))
unfolding next_frames track_after_frames
silence_follows channels n t fields some even kept none silent =
    let flatly : flat t.waiting ≡ [] = sym (ap (λ (f : TrackFields). f.samples) kept) ∙ none in
    let tone : t.tone ≡ Silent = sym (ap (λ (f : TrackFields). f.tone) kept) ∙ silent in
    let both = along t.waiting even flatly tone in (
      both.0,
      ap (λ (f : TrackFields). let k : TrackFields = record { samples = f.samples; tone = f.tone; place = (f.place + n) % 4294967296 } in k) kept ∙ both.1,
    ) where
      zero_frame : (place : ℕ) → t.tone ≡ Silent → tone_frame channels t.tone place ≡ replicate channels (pos 0)
      zero_frame place tone =
          ap (λ (x : Tone). tone_frame channels x place) tone ∙ map_same (tone_sample Silent place) (pos 0) 0 channels (λ channel. refl)

      along : (w : List (List ℤ)) → All (λ frame. length frame ≡ channels) w → flat w ≡ [] → t.tone ≡ Silent
          → (next_frames channels n (record { waiting = w; tone = t.tone; place = t.place }) ≡ replicate n (replicate channels (pos 0)))
          × (record { samples = flat w; tone = t.tone; place = (t.place % 4294967296 + n) % 4294967296 } ≡ kept_track (track_after_frames n (record { waiting = w; tone = t.tone; place = t.place })))
      along [] even flatly tone =
          let all : n - 0 ≡ n = omega arith in
          let place : (t.place % 4294967296 + n) % 4294967296 ≡ (t.place + (n - 0)) % 4294967296 = omega arith in (
            ap (λ (fs : List (List ℤ)). fs ++ map (tone_frame channels t.tone) (range_with_len t.place (n - 0))) (take-nil n)
                ∙ ap (λ (k : ℕ). map (tone_frame channels t.tone) (range_with_len t.place k)) all
                ∙ map_same (tone_frame channels t.tone) (replicate channels (pos 0)) t.place n (λ at. zero_frame at tone),
            ap (λ (k : ℕ). let s : TrackFields = record { samples = []; tone = t.tone; place = k } in s) place
                ∙ ap (λ (fs : List (List ℤ)). let s : TrackFields = record { samples = flat fs; tone = t.tone; place = (t.place + (n - 0)) % 4294967296 } in s) (sym (drop-nil n)),
          )
      along (f ∷ fs) even flatly tone =
          let first : length f ≡ channels = even 0 f (omega arith) in
          absurd (omega (arith, length-append f (flat fs), ap length flatly))

-- frames that are left have as many samples
pub even_after : (channels n : ℕ) (t : Track) → All (λ frame. length frame ≡ channels) t.waiting → All (λ frame. length frame ≡ channels) (track_after_frames n t).waiting
unfolding track_after_frames
even_after channels n t even = All-drop (λ frame. length frame ≡ channels) n t.waiting even

-- ---- the next packet of a stream

same_values : (p : Pace) → sum (replicate p.stream.service p.value) ≡ p.stream.service * p.value
same_values p = sum_by-replicate (λ (x : ℕ). x) p.stream.service p.value

pub size_kept : (p : Pace) → (sum p.used % 65536 + p.stream.service * p.value) / 65536 ≡ next_size p
size_kept p =
    let by = by_remainder p.used (replicate p.stream.service p.value) in
    ap (λ (n : ℕ). (sum p.used % 65536 + n) / 65536) (sym (same_values p))
    ∙ sym by.0
    ∙ ap (λ (n : ℕ). frames_in_packet n (used_next p)) (length-replicate p.stream.service p.value)

pub remainder_kept : (p : Pace) → (sum p.used % 65536 + p.stream.service * p.value) % 65536 ≡ sum (used_next p) % 65536
remainder_kept p =
    let by = by_remainder p.used (replicate p.stream.service p.value) in
    ap (λ (n : ℕ). (sum p.used % 65536 + n) % 65536) (sym (same_values p)) ∙ sym by.1

-- ---- host streams

pub eq_of : (m n : ℕ) → (m == n) ≡ true → m ≡ n
eq_of m n e = grind arith

first_index : (host : List HostStream) (interface index : ℕ) (d : HostStream) → position (λ l. l.interface == interface) host ≡ Some index → position_or_len (λ l. l.interface == interface) host ≡ index
first_index host interface index d is =
    let at = position-Some (λ (l : HostStream). l.interface == interface) host index d is in
    position_or_len_is (λ (l : HostStream). l.interface == interface) host index d (omega (arith, at.0)) at.2 (λ inside. at.1)

-- the host stream that was found is that of its interface
pub host_stream_found : (host : List HostStream) (interface index : ℕ) (d : HostStream) → position (λ l. l.interface == interface) host ≡ Some index
    → (stream_on host interface ≡ Some (get_or host index d)) × ((get_or host index d).interface ≡ interface)
host_stream_found host interface index d is =
    let at = position-Some (λ (l : HostStream). l.interface == interface) host index d is in (
      find_at (λ (l : HostStream). l.interface == interface) host ∙ ap (slice_get host) (first_index host interface index d is) ∙ slice_get-get_or host index d at.0,
      eq_of _ _ at.1,
    )

-- no host stream was found
pub host_stream_missing : (host : List HostStream) (interface : ℕ) → position (λ l. l.interface == interface) host ≡ None → stream_on host interface ≡ None
host_stream_missing host interface is =
    let p : HostStream → Bool = λ l. l.interface == interface in
    let past : position_or_len p host ≡ length host = position_none p host is in
    find_at p host ∙ slice_get_past host (position_or_len p host) (omega arith)

-- the host streams after one was written
pub host_stream_written : (host : List HostStream) (interface index : ℕ) (l d : HostStream) → position (λ l. l.interface == interface) host ≡ Some index → l.interface ≡ interface
    → (k : ℕ) → stream_on (set host index l) k ≡ (if k == interface then Some l else stream_on host k)
host_stream_written host interface index l d is own k =
    let found = position-Some (λ (l : HostStream). l.interface == interface) host index d is in
    elim (cases_eq k interface) [
      | inl same ↦
          (let mine : (l.interface == k) ≡ true = eq-eqb l.interface k (own ∙ sym same) in
          let is_first : index ≡ position_or_len (λ (l : HostStream). l.interface == k) host =
          sym (ap (λ (n : ℕ). position_or_len (λ (l : HostStream). l.interface == n) host) same ∙ first_index host interface index d is) in
          find-set (λ (l : HostStream). l.interface == k) host index l is_first found.0 mine ∙ sym (ap (λ (b : Bool). if b then Some l else stream_on host k) (eq-eqb k interface same)))
      | inr other ↦
          (let was : (get_or host index d).interface ≡ interface = eq_of _ _ found.1 in
          let before : ((get_or host index d).interface == k) ≡ false = ne_eqb _ _ (λ e. other (sym e ∙ was)) in
          let after : (l.interface == k) ≡ false = ne_eqb _ _ (λ e. other (sym e ∙ own)) in
          find_past (λ (l : HostStream). l.interface == k) host index l d before after ∙ sym (ap (λ (b : Bool). if b then Some l else stream_on host k) (ne_eqb k interface other)))
    ]
