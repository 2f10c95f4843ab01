use Rattle.std.proofs.Common.{◌≡◌, ◌∙◌, ◌∷◌, ◌+◌, ap, arith, map, refl, replicate, sym, length, List, ℕ, ℤ, inl, inr, pos, suc, zero}
use Rattle.std.proofs.lemmas.Bool.{cases_lt}
use Rattle.std.proofs.lemmas.Grind.{common_steps}
use Rattle.std.proofs.lemmas.List.FromFn.{length-map-range_with_len}
use Rattle.std.specs.List.{range_with_len, refill}
use Rattle.uac_pcm.specs.declared.tones.Tone.{Tone}
use Rattle.uac_pcm.specs.declared.tones.Tone.TheVariants.{Silent}
use Rattle.uac_pcm.specs.Tones.{tone_frame, tone_sample}
use Rattle.uac_units.specs.Hearing.{at_most_u64}
use Rattle.uac_units.specs.SampleRows.{frame_at}
use Rattle.uac_units.proofs.SampleRowsLemmas.{ticks_kept, ticks_less}
use Rattle.uac_graph.proofs.row_slots.write_tones.Goals as goal

refilled : (n : ℕ) (xs ws : List ℤ) → length ws ≡ n → refill n xs ws ≡ ws
refilled n xs ws same = grind (arith, common_steps)

-- a silent tone is zeros
zeros : (place first channels : ℕ) → map (tone_sample Silent place) (range_with_len first channels) ≡ replicate channels (pos 0)
zeros place first zero = refl
zeros place first (suc channels) = ap (λ (rest : List ℤ). pos 0 ∷ rest) (zeros place (first + 1) channels)

pub returns-in-Silent-clause-frames : goal.returns-in-Silent-clause-frames
returns-in-Silent-clause-frames c = λ tick early.
    let channels = length c.args.rows.now in
    let place = at_most_u64 (c.args.place + tick) in
    c.hush_rows.ensures.frames tick early
    ∙ sym (zeros place 0 channels)
    ∙ ap (λ (tone : Tone). tone_frame channels tone place) (sym c.in-Silent.is)

pub write_frame-requires-clause-inside : goal.write_frame-requires-clause-inside
write_frame-requires-clause-inside c =
    ticks_kept (c.loop-tick.tick + 1) c.args.rows.now c.loop-tick.rows c.loop-tick.invariant.lengths
    (ticks_less (c.loop-tick.tick + 1) c.args.ticks c.args.rows.now (omega arith) c.requires.inside)

pub loop-tick-preserved : goal.loop-tick-preserved
loop-tick-preserved c =
    let channels = length c.args.rows.now in
    let tone = c.args.tone in
    let tick = c.loop-tick.tick in
    let xs = c.loop-tick.frame.items in
    let size : length c.as_mut_slice.result.now ≡ channels = ap length c.as_mut_slice.ensures.value ∙ c.loop-tick.invariant.sized in
    let place : c.saturating_add.result ≡ at_most_u64 (c.args.place + tick) = c.saturating_add.ensures in
    let written : c.write.new.samples ≡ tone_frame channels tone (at_most_u64 (c.args.place + tick)) =
    c.write.ensures ∙ ap (λ (n : ℕ). tone_frame n tone c.saturating_add.result) size ∙ ap (tone_frame channels tone) place in
    let long : length c.write.new.samples ≡ length xs =
    ap length written ∙ length-map-range_with_len (tone_sample tone (at_most_u64 (c.args.place + tick))) 0 channels ∙ sym c.loop-tick.invariant.sized in
    let filled : refill (length xs) xs c.write.new.samples ≡ c.write.new.samples = refilled (length xs) xs c.write.new.samples long in
    record {
      sized = ap length filled ∙ long ∙ c.loop-tick.invariant.sized;
      frames = λ other early.
          elim (cases_lt other tick) [
            | inl less ↦ c.write_frame.ensures.others other (λ e. omega (arith, e, less)) ∙ c.loop-tick.invariant.frames other less
            | inr past ↦
                let same : other ≡ tick = omega (arith, early, past) in
                ap (λ (n : ℕ). frame_at n c.write_frame.new.rows) same
                ∙ c.write_frame.ensures.here ∙ c.as_slice.ensures.value ∙ filled ∙ written
                ∙ ap (λ (n : ℕ). tone_frame channels tone (at_most_u64 (c.args.place + n))) (sym same)
          ];
      lengths = c.write_frame.ensures.lengths ∙ c.loop-tick.invariant.lengths;
    }
