use Rattle.std.proofs.Common.{◌≡◌, ◌∙◌, ◌+◌, ◌-◌, ◌*◌, ap, arith, sym, inl, inr, ℕ}
use Rattle.std.proofs.lemmas.Bool.{cases_lt}
use Rattle.uac_units.specs.declared.jobs.UnitKind.TheVariants.{Mixer}
use Rattle.uac_units.specs.Rendering.{pins_sample}
use Rattle.uac_units.specs.SampleRows.{frame_at, sample_at}
use Rattle.uac_units.proofs.plain_rows.mix_row.Goals as goal

pub loop-piece-preserved : goal.loop-piece-preserved
loop-piece-preserved c =
    let from = 32 * c.loop-piece.piece in record {
      done = λ tick near early.
          elim (cases_lt tick from) [
            | inl less ↦ c.mix_piece.ensures.before tick less ∙ c.loop-piece.invariant.done tick less early
            | inr past ↦
                let here : from + (tick - from) ≡ tick = omega (arith, past) in
                ap (λ (n : ℕ). sample_at n c.mix_piece.new.row) (sym here)
                ∙ c.mix_piece.ensures.samples (tick - from) (omega (arith, near, early, past, c.min-count.ensures))
                ∙ ap (λ (n : ℕ). pins_sample Mixer c.args.job.now (frame_at n c.args.inputs.now) c.args.channel) here
          ];
      length = c.mix_piece.ensures.length ∙ c.loop-piece.invariant.length;
    }
