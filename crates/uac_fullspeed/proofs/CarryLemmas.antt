-- A bus frame of the stream, step by step.
use Rattle.std.proofs.Common.{arith, ◌≡◌, ◌∙◌, refl, sym, ap, subst, ℕ, zero, suc, ◌+◌, ◌<◌, ◌≤◌, List, [], ◌∷◌, ◌++◌, Option, Result, OnOk, Ok, Err, Bool}
use Rattle.std.specs.Io.KnownBytes.{Appends}
use Rattle.uac_edges.specs.Writing.{AppendsFront}
use Rattle.std.proofs.KnownBytes.{Appends-nil}
use Rattle.uac_transcript.specs.Transcript.{Said, spelling_of}
use Rattle.uac_transcript.specs.Printing.{Prints, text_of}
use Rattle.uac_transcript.proofs.PrintingLemmas.{Prints-after, front_of_more, front_after}
use Rattle.uac_bench.specs.BenchLines.{arrival_lines, told_level}
use Rattle.uac_bench.proofs.RepeatedLemmas.{one_further, told_more, told_in_part}
use Rattle.uac_bench.specs.BenchStreams.{StreamWorld, level_of, arrival_of, after_tick, after_ticks, after_priming}
use Rattle.uac_fullspeed.specs.FullSpeedWorld.{at_ticks, ticked, replaced_by, after_frame}
use Rattle.uac_bench.specs.BenchKept.{BenchStreamFields, BenchStreamStands}
use Rattle.uac_fullspeed.specs.FullSpeedLines.{tick_lines, ticks_lines, level_lines, stream_lines}

no_ticks : (s : StreamWorld) → after_ticks zero s ≡ s
unfolding after_ticks
no_ticks s = refl

more_ticks : (n : ℕ) (s : StreamWorld) → after_ticks (suc n) s ≡ after_ticks n (after_tick s)
unfolding after_ticks
more_ticks n s = refl

no_tick_lines : (detail : ℕ) (s : StreamWorld) → ticks_lines zero detail s ≡ []
unfolding ticks_lines
no_tick_lines detail s = refl

more_tick_lines : (detail n : ℕ) (s : StreamWorld) → ticks_lines (suc n) detail s ≡ tick_lines detail s ++ ticks_lines n detail (after_tick s)
unfolding ticks_lines
more_tick_lines detail n s = refl

-- ---- all of it

pub on_ok : {T E : Type 0} (r : Result T E) (P : Type 0) → P → OnOk r P
on_ok (Ok x) P p = p
on_ok (Err e) P p = tt

module _ (detail : ℕ) (lost : Bool) (size ticks : ℕ) (s : StreamWorld) where
  -- a front of the packet's lines, or these and a front of the ticks'
  pub packet_cut : (old new : Option (List ℕ)) → AppendsFront old new (text_of (arrival_lines detail size (arrival_of 1024 lost size s)))
      → AppendsFront old new (text_of (stream_lines detail lost size ticks s))
  unfolding stream_lines
  packet_cut old new f =
      front_of_more old new (arrival_lines detail size (arrival_of 1024 lost size s)) (ticks_lines ticks detail (at_ticks lost size s) ++ level_lines detail (after_frame lost size ticks s)) f

  pub ticks_cut : (old mid new : Option (List ℕ)) → Appends old mid (text_of (arrival_lines detail size (arrival_of 1024 lost size s)))
      → AppendsFront mid new (text_of (ticks_lines ticks detail (at_ticks lost size s))) → AppendsFront old new (text_of (stream_lines detail lost size ticks s))
  unfolding stream_lines
  ticks_cut old mid new a f =
      front_after old mid new (arrival_lines detail size (arrival_of 1024 lost size s)) (ticks_lines ticks detail (at_ticks lost size s) ++ level_lines detail (after_frame lost size ticks s)) a
      (front_of_more mid new (ticks_lines ticks detail (at_ticks lost size s)) (level_lines detail (after_frame lost size ticks s)) f)

  is_after_frame : after_priming (replaced_by lost ticks (ticked lost size ticks s)) ≡ after_frame lost size ticks s
  unfolding after_frame
  is_after_frame = refl

  pub carried : {T E : Type 0} (old a b new : Option (List ℕ)) (r : Result T E) (kept : BenchStreamFields) (level : ℕ) (target : Option ℕ)
      → Appends old a (text_of (arrival_lines detail size (arrival_of 1024 lost size s)))
      → Appends a b (text_of (ticks_lines ticks detail (at_ticks lost size s)))
      → BenchStreamStands kept (after_priming (replaced_by lost ticks (ticked lost size ticks s)))
      → ((v : StreamWorld) → BenchStreamStands kept v → level ≡ level_of v) → ((v : StreamWorld) → BenchStreamStands kept v → target ≡ v.target)
      → Prints b new r (told_level detail level target)
      → Prints old new r (stream_lines detail lost size ticks s) × OnOk r (BenchStreamStands kept (after_frame lost size ticks s))
  unfolding stream_lines
  carried old a b new r kept level target first second stands levels targets third =
      let now : BenchStreamStands kept (after_frame lost size ticks s) = subst (BenchStreamStands kept) is_after_frame stands in
      let at : Prints b new r (level_lines detail (after_frame lost size ticks s)) =
      subst (λ (t : Option ℕ). Prints b new r (told_level detail (level_of (after_frame lost size ticks s)) t)) (targets (after_frame lost size ticks s) now)
      (subst (λ (n : ℕ). Prints b new r (told_level detail n target)) (levels (after_frame lost size ticks s) now) third) in (
        Prints-after old a new r (arrival_lines detail size (arrival_of 1024 lost size s)) (ticks_lines ticks detail (at_ticks lost size s) ++ level_lines detail (after_frame lost size ticks s)) first
            (Prints-after a b new r (ticks_lines ticks detail (at_ticks lost size s)) (level_lines detail (after_frame lost size ticks s)) second at),
        on_ok r (BenchStreamStands kept (after_frame lost size ticks s)) now,
      )

module _ (detail : ℕ) where
  abbrev lines_of : ℕ → StreamWorld → List Said
  lines_of n s = ticks_lines n detail s

  pub ticks_further : (i : ℕ) (s : StreamWorld) → after_ticks (i + 1) s ≡ after_tick (after_ticks i s)
  ticks_further = one_further spelling_of after_tick (tick_lines detail) lines_of after_ticks (no_tick_lines detail) (more_tick_lines detail) no_ticks more_ticks

  pub ticks_told_more : (old mid new : Option (List ℕ)) (i : ℕ) (s : StreamWorld) → Appends old mid (text_of (ticks_lines i detail s))
      → Appends mid new (text_of (tick_lines detail (after_ticks i s))) → Appends old new (text_of (ticks_lines (i + 1) detail s))
  ticks_told_more = told_more spelling_of after_tick (tick_lines detail) lines_of after_ticks (no_tick_lines detail) (more_tick_lines detail) no_ticks more_ticks

  pub ticks_told_in_part : (old mid new : Option (List ℕ)) (i count : ℕ) (s : StreamWorld) → i < count → Appends old mid (text_of (ticks_lines i detail s))
      → AppendsFront mid new (text_of (tick_lines detail (after_ticks i s))) → AppendsFront old new (text_of (ticks_lines count detail s))
  ticks_told_in_part = told_in_part spelling_of after_tick (tick_lines detail) lines_of after_ticks (no_tick_lines detail) (more_tick_lines detail) no_ticks more_ticks

  -- before the first tick, and after the last
  pub no_ticks_told : (old : Option (List ℕ)) (kept : BenchStreamFields) (s : StreamWorld) → BenchStreamStands kept s
      → Appends old old (text_of (ticks_lines 0 detail s)) × BenchStreamStands kept (after_ticks 0 s)
  no_ticks_told old kept s stands = (
    subst (λ (ls : List Said). Appends old old (text_of ls)) (sym (no_tick_lines detail s)) (Appends-nil old),
    subst (BenchStreamStands kept) (sym (no_ticks s)) stands,
  )

  pub ticks_done : (old new : Option (List ℕ)) (kept : BenchStreamFields) (i count : ℕ) (s : StreamWorld) → count ≤ i → i ≤ count
      → Appends old new (text_of (ticks_lines i detail s)) × BenchStreamStands kept (after_ticks i s)
      → Appends old new (text_of (ticks_lines count detail s)) × BenchStreamStands kept (after_ticks count s)
  ticks_done old new kept i count s past within told =
      let same : i ≡ count = omega arith in
      subst (λ (n : ℕ). Appends old new (text_of (ticks_lines n detail s)) × BenchStreamStands kept (after_ticks n s)) same told
