-- Each event of a run leaves it so.
use Rattle.std.proofs.Common.{◌≡◌, ◌∙◌, refl, sym, ap, subst, arith, ℕ, ◌+◌, ◌*◌, ◌≤◌, ◌==◌, ◌&&◌, Bool, true, false, if◌then◌else◌, ℤ, List, [], ◌∷◌, ◌++◌, replicate, get_or, Option, None, Some, is_some, w32, FitsSigned, not, unwrap_or, pos}
use Rattle.std.specs.List.{All}
use Rattle.std.specs.Option.{option_map}
use Rattle.std.specs.Simd.{first_chunks}
use Rattle.std.proofs.lemmas.Bool.{eqb-true}
use Rattle.std.proofs.lemmas.List.Elements.{All-append, All-map, All-nil, All-push, All-replicate}
use Rattle.uac_pcm.specs.Subslots.{sample_of_subslot}
use Rattle.uac_pcm.specs.Packets.{IsFrame, whole_frames}
use Rattle.uac_pcm.specs.Frames.{IsFormat, frame_of_bytes}
use Rattle.uac_pcm.proofs.SubslotsLemmas.{fits-cut_to}
use Rattle.std.proofs.lemmas.Int.{SFits-int_wrap}
use Rattle.uac_entities.specs.declared.entity.EntityKind.{EntityKind}
use Rattle.uac_entities.specs.declared.entity.EntityKind.TheVariants as kind
use Rattle.uac_topology_rules.specs.Clusters.{is_input}
use Rattle.uac_topology_rules.specs.Rules.{is_output}
use Rattle.uac_alt.specs.AltStreams.{StreamFields}
use Rattle.uac_graph.specs.Wiring.{silence}
use Rattle.uac_flow.specs.FlowStreams.{InStream, OutStream, after_packet, after_putting, after_sending_in, after_taking, frames_of, is_dry, is_due, is_full, next_taken, in_after_end, out_after_end, after_due_end, takes_all, zeros_due}
use Rattle.uac_host.specs.HostWorld.{Pace}
use Rattle.uac_host.specs.HostCalls.{at_interface}
use Rattle.uac_device.specs.InterfaceStreams.{changed_where, streams_changed_at}
use Rattle.uac_device.specs.DeviceWorld.{DeviceWorld}
use Rattle.uac_promises.proofs.CutGraphLemmas.{Fit, IsFrame-silence, pin_fits, zero_fits}
use Rattle.uac_promises.proofs.CutPacketsLemmas.{DeviceIsSampled, InIsSampled, OutIsSampled, RunsOn}

-- ---- what is so by interface

mapped : {A B : Type 0} (f : A → B) (o : Option A) (b : B) → option_map f o ≡ Some b → (a : A) × (o ≡ Some a) × (f a ≡ b)
mapped f None b e = absurd (cc)
mapped f (Some a) b e = (a, refl, (let same : f a ≡ b = cc in same))

module _ {S : Type 0} (Q : ℕ → S → Type 0) (streams : ℕ → Option S) (are : (k : ℕ) (s : S) → streams k ≡ Some s → Q k s) where
  pub changed_keeps : (n : ℕ) (change : S → S) → ((k : ℕ) (s : S) → Q k s → Q k (change s)) → (k : ℕ) (s : S)
      → streams_changed_at n change streams k ≡ Some s → Q k s
  changed_keeps n change keeps k s there = by (k == n) there
    where
      by : (b : Bool) → (if b then option_map change (streams k) else streams k) ≡ Some s → Q k s
      by true e = let was = mapped change (streams k) s e in subst (Q k) was.2 (keeps k was.0 (are k was.0 was.1))
      by false e = are k s e

  pub where_keeps : (test : ℕ → Bool) (change : ℕ → S → S) → ((k : ℕ) (s : S) → Q k s → Q k (change k s)) → (k : ℕ) (s : S)
      → changed_where test change streams k ≡ Some s → Q k s
  where_keeps test change keeps k s there =
      let was = mapped (λ (t : S). if test k then change k t else t) (streams k) s there in
      subst (Q k) was.2 (by was.0 (test k) (are k was.0 was.1))
    where
      by : (t : S) (b : Bool) → Q k t → Q k (if b then change k t else t)
      by t true q = keeps k t q
      by t false q = q

-- ---- paces that run the same streams

abbrev pub GoOn : (ℕ → Option Pace) → (ℕ → Option Pace) → Type 0
GoOn old new = (k : ℕ) (s : StreamFields) → RunsOn old k s → RunsOn new k s

module _ (old new : ℕ → Option Pace) (on : GoOn old new) where
  pub out_goes_on : (k : ℕ) (o : OutStream) → OutIsSampled old k o → OutIsSampled new k o
  out_goes_on k o is = record { runs = on k o.stream is.runs; fits = is.fits }

  pub in_goes_on : (k : ℕ) (i : InStream) → InIsSampled old k i → InIsSampled new k i
  in_goes_on k i is = record { runs = on k i.stream is.runs; frames = is.frames }

  pub device_goes_on : (w : DeviceWorld) → DeviceIsSampled old w → DeviceIsSampled new w
  device_goes_on w is = record {
    outs = λ k o there. out_goes_on k o (is.outs k o there);
    ins = λ k i there. in_goes_on k i (is.ins k i there);
    given = is.given;
    played = is.played;
  }

-- the pace of one interface goes on, with the same stream
module _ (n : ℕ) (change : Pace → Pace) (same : (p : Pace) → (change p).stream ≡ p.stream) (paces : ℕ → Option Pace) where
  pub pace_goes_on : GoOn paces (at_interface n (option_map change (paces n)) paces)
  pace_goes_on k s runs = by (k == n) refl
    where
      by : (b : Bool) → (k == n) ≡ b → RunsOn (at_interface n (option_map change (paces n)) paces) k s
      by true here = record {
        pace = change runs.pace;
        there = ap (λ (b : Bool). if b then option_map change (paces n) else paces k) here
            ∙ ap (λ (m : ℕ). option_map change (paces m)) (sym (eqb-true k n here)) ∙ ap (option_map change) runs.there;
        same = same runs.pace ∙ runs.same;
      }
      by false other = record {
        pace = runs.pace;
        there = ap (λ (b : Bool). if b then option_map change (paces n) else paces k) other ∙ runs.there;
        same = runs.same;
      }

  pub pace_of : (Q : ℕ → StreamFields → Type 0) → ((k : ℕ) (p : Pace) → paces k ≡ Some p → Q k p.stream) → (k : ℕ) (p : Pace)
      → at_interface n (option_map change (paces n)) paces k ≡ Some p → Q k p.stream
  pace_of Q are k p there = by (k == n) refl there
    where
      by : (b : Bool) → (k == n) ≡ b → (if b then option_map change (paces n) else paces k) ≡ Some p → Q k p.stream
      by true here e =
          let was = mapped change (paces n) p e in
          let stream : was.0.stream ≡ p.stream = sym (same was.0) ∙ ap (λ (q : Pace). q.stream) was.2 in
          subst (Q k) stream (subst (λ (m : ℕ). Q m was.0.stream) (sym (eqb-true k n here)) (are n was.0 was.1))
      by false other e = are k p e

-- ---- packets

-- the frames of bytes have samples of 32 bits
sample_fits : (size bits : ℕ) → 1 ≤ bits → bits ≤ 32 → (bytes : List ℕ) → FitsSigned w32 (sample_of_subslot size bits bytes)
unfolding sample_of_subslot
sample_fits size bits some most bytes = fits-cut_to bits _ some most (SFits-int_wrap w32 _)

pub bytes_fit : (s : StreamFields) → IsFormat s.channels s.subslot s.bits → (packet : List ℕ) → All Fit (frames_of s packet)
bytes_fit s format packet =
    All-map Fit (frame_of_bytes s.channels s.subslot s.bits) (first_chunks (s.channels * s.subslot) (whole_frames s.channels s.subslot packet) packet)
    (λ k d inside.
    All-map (FitsSigned w32) (sample_of_subslot s.subslot s.bits) (first_chunks s.subslot s.channels _)
    (λ j e within. sample_fits s.subslot s.bits (omega (arith, format.4)) (omega (arith, format.3, format.5)) _))

pub out_with_packet : (packet : Option (List ℕ)) (paces : ℕ → Option Pace) (k : ℕ) (o : OutStream) → IsFormat o.stream.channels o.stream.subslot o.stream.bits
    → OutIsSampled paces k o → OutIsSampled paces k (after_packet packet o)
unfolding after_packet
out_with_packet None paces k o format is = record { runs = is.runs; fits = is.fits }
out_with_packet (Some packet) paces k o format is = record { runs = is.runs; fits = by (takes_all o packet) }
  where
    by : (b : Bool) → All Fit (if b then o.arrived ++ frames_of o.stream packet else o.arrived)
    by true = All-append Fit o.arrived (frames_of o.stream packet) is.fits (bytes_fit o.stream format packet)
    by false = is.fits

-- ---- ends of microframes

pub out_after_end_keeps : (paces : ℕ → Option Pace) (k : ℕ) (o : OutStream) → OutIsSampled paces k o → OutIsSampled paces k (out_after_end o)
unfolding out_after_end
out_after_end_keeps paces k o is = by (is_due o.stream o.microframes)
  where
    zeros : (b : Bool) → All Fit (if b then replicate o.ticks (replicate o.stream.channels (pos 0)) else [])
    zeros true = All-replicate Fit o.ticks (replicate o.stream.channels (pos 0)) (All-replicate (FitsSigned w32) o.stream.channels (pos 0) zero_fits)
    zeros false = All-nil Fit

    by : (b : Bool) → OutIsSampled paces k (record (if b then after_due_end o else o) { microframes = o.microframes + 1 })
    by true = record { runs = is.runs; fits = All-append Fit o.arrived (zeros_due o) is.fits (zeros o.lost) }
    by false = record { runs = is.runs; fits = is.fits }

pub in_after_end_keeps : (paces : ℕ → Option Pace) (k : ℕ) (i : InStream) → InIsSampled paces k i → InIsSampled paces k (in_after_end i)
unfolding in_after_end
in_after_end_keeps paces k i is = record { runs = is.runs; frames = is.frames }

pub sending_keeps : (paces : ℕ → Option Pace) (k : ℕ) (i : InStream) → InIsSampled paces k i → InIsSampled paces k (after_sending_in i)
unfolding after_sending_in
sending_keeps paces k i is = record { runs = is.runs; frames = is.frames }

-- ---- ticks

pub taking_keeps : (paces : ℕ → Option Pace) (k : ℕ) (o : OutStream) → OutIsSampled paces k o → OutIsSampled paces k (after_taking o)
unfolding after_taking
taking_keeps paces k o is = by (is_dry o) (is_some o.target)
  where
    by : (b c : Bool) → OutIsSampled paces k (if b then record o { arrived = []; taken = 0; target = None } else if c then record o { taken = o.taken + 1 } else o)
    by true c = record { runs = is.runs; fits = All-nil Fit }
    by false true = record { runs = is.runs; fits = is.fits }
    by false false = is

pub putting_keeps : (paces : ℕ → Option Pace) (k : ℕ) (frame : List ℤ) (i : InStream) → IsFrame i.stream.channels frame → InIsSampled paces k i
    → InIsSampled paces k (after_putting frame i)
unfolding after_putting
putting_keeps paces k frame i framed is = by (is_full i)
  where
    by : (b : Bool) → InIsSampled paces k (if b then i else record i { made = i.made ++ frame ∷ [] })
    by true = is
    by false = record { runs = is.runs; frames = All-push (IsFrame i.stream.channels) i.made frame is.frames framed }

pub next_fits : (paces : ℕ → Option Pace) (k : ℕ) (o : OutStream) → OutIsSampled paces k o → (channels : ℕ) → Fit (unwrap_or (next_taken o) (silence channels))
next_fits paces k o is channels = by (is_some o.target && not (is_dry o))
  where
    by : (b : Bool) → Fit (unwrap_or (if b then Some (get_or o.arrived o.taken []) else None) (silence channels))
    by true = pin_fits o.arrived o.taken is.fits
    by false = (IsFrame-silence channels).1

-- an output terminal is no input terminal
pub no_input : (k : EntityKind) → is_output k ≡ true → is_input k ≡ false
no_input kind.ClockSource is = refl
no_input kind.ClockSelector is = refl
no_input kind.ClockMultiplier is = refl
no_input kind.InputTerminal is = absurd (cc)
no_input kind.OutputTerminal is = refl
no_input kind.Mixer is = refl
no_input kind.Selector is = refl
no_input kind.Feature is = refl
no_input kind.Effect is = refl
