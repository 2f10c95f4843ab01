-- One stream to the device in a steady microframe: what its ring holds while its packet comes, between its ticks, and while zero frames come in
-- place of a lost packet.
use Rattle.std.proofs.Common.{arith, ◌≡◌, ◌∙◌, sym, refl, ap, subst, ℕ, zero, suc, ◌+◌, ◌-◌, ◌≤◌, Bool, true, false, if◌then◌else◌, ℤ, List, [], ◌∷◌, ◌++◌, length, take, Option, Some, None, is_some, length-append}
use Rattle.std.proofs.lemmas.List.{length-take}
use Rattle.std.proofs.Math.Nat.{min-le_right}
use Rattle.uac_clock.specs.Ticks.{ticks_in}
use Rattle.uac_alt.specs.AltStreams.{StreamFields}
use Rattle.uac_rate.specs.Levels.{IsSafeLevel}
use Rattle.uac_rate.specs.Steadiness.{latest_run}
use Rattle.uac_flow.specs.FlowStreams.{OutStream, after_packet, after_taking, after_ticks, frames_of, is_dry, is_due, out_level, out_after_end, after_due_end, takes_all, target_after, with_zeros, zeros_due}
use Rattle.uac_host.specs.HostCalls.{pace_after_packet}
use Rattle.uac_levels.specs.Life.{Life, life_after, ticks_taken, with_end, with_packet, with_step}
use Rattle.uac_levels.specs.Bands.{InBand, IsSteadyMicroframe, stream_at_tick, ticks_then}
use Rattle.uac_levels.proofs.BandsLemmas.{holds_between, holds_enough, stays_in_band}
use Rattle.uac_levels.proofs.BandRunLevelLemmas.{feedback_out}
use Rattle.uac_promises.specs.Moments.{while_received, while_ended}

-- where it is primed, its ring holds enough
abbrev pub IsSafe : OutStream → Type 0
IsSafe o = (target : ℕ) → o.target ≡ Some target → IsSafeLevel o.stream.service (out_level o)

-- a level between two that are safe
between : (s a b c : ℕ) → IsSafeLevel s a → IsSafeLevel s b → a ≤ c → c ≤ b → IsSafeLevel s c
between s a b c low high above below = record {
  single = λ h. (let first = low.single h in let last = high.single h in (omega (arith, first.0), omega (arith, last.1)));
  longer = λ h. (let first = low.longer h in let last = high.longer h in (omega (arith, first.0), omega (arith, last.1)));
}

some_of : {X : Type 0} (n : ℕ) (xs : List X) → length (take n xs) ≤ length xs
some_of n xs = subst (λ (m : ℕ). m ≤ length xs) (sym (length-take n xs)) (min-le_right n (length xs))

-- while frames come to a ring: it was safe, and it is safe with all of them
fills_safely : (o : OutStream) (frames : List (List ℤ)) (n : ℕ) → IsSafe o → IsSafe (record o { arrived = o.arrived ++ frames })
    → IsSafe (record o { arrived = o.arrived ++ take n frames })
fills_safely o frames n before after target is =
    let few = some_of n frames in
    let some = length-append o.arrived (take n frames) in
    let all = length-append o.arrived frames in
    between o.stream.service (out_level o) (length (o.arrived ++ frames) - o.taken) (length (o.arrived ++ take n frames) - o.taken)
    (before target is) (after target is) (omega (arith, some)) (omega (arith, some, all, few))

-- ---- what ticks leave

target_none : (o : OutStream) → o.target ≡ None → (after_taking o).target ≡ None
unfolding after_taking
target_none o none = by (is_dry o) (is_some o.target) (ap is_some none)
  where
    by : (dry primed : Bool) → primed ≡ false
        → (if dry then record o { arrived = []; taken = 0; target = None } else if primed then record o { taken = o.taken + 1 } else o).target ≡ None
    by true primed is = refl
    by false true is = absurd (cc)
    by false false is = none

ticks_none : (count : ℕ) (o : OutStream) → o.target ≡ None → (ticks_taken count o).target ≡ None
unfolding ticks_taken
ticks_none zero o none = none
ticks_none (suc count) o none = ticks_none count (after_taking o) (target_none o none)

tick_stream : (o : OutStream) → (after_taking o).stream ≡ o.stream
unfolding after_taking
tick_stream o = by (is_dry o) (is_some o.target)
  where
    by : (dry primed : Bool) → (if dry then record o { arrived = []; taken = 0; target = None } else if primed then record o { taken = o.taken + 1 } else o).stream ≡ o.stream
    by true primed = refl
    by false true = refl
    by false false = refl

ticks_stream : (count : ℕ) (o : OutStream) → (ticks_taken count o).stream ≡ o.stream
unfolding ticks_taken
ticks_stream zero o = refl
ticks_stream (suc count) o = ticks_stream count (after_taking o) ∙ tick_stream o

received : (packet : Option (List ℕ)) (o : OutStream) → ((after_packet packet o).stream ≡ o.stream) × ((after_packet packet o).target ≡ o.target)
unfolding after_packet
received None o = (refl, refl)
received (Some bytes) o = (refl, refl)

module _ (l : Life) (packet : Option (List ℕ)) where
  packet_kept : ((with_packet packet l).out.stream ≡ l.out.stream) × ((with_packet packet l).out.target ≡ l.out.target)
  packet_kept = by (is_due l.out.stream l.out.microframes)
    where
      by : (b : Bool)
          → ((if b then record l { out = after_packet packet l.out; pace = pace_after_packet l.pace } else l).out.stream ≡ l.out.stream)
          × ((if b then record l { out = after_packet packet l.out; pace = pace_after_packet l.pace } else l).out.target ≡ l.out.target)
      by true = received packet l.out
      by false = (refl, refl)

  pub packet_steps : (with_packet packet l).steps ≡ l.steps
  packet_steps = by (is_due l.out.stream l.out.microframes)
    where
      by : (b : Bool) → (if b then record l { out = after_packet packet l.out; pace = pace_after_packet l.pace } else l).steps ≡ l.steps
      by true = refl
      by false = refl

  module _ (step : ℕ) (band : InBand l) (given : IsSteadyMicroframe packet step l) where
    pub safe_now : IsSafe l.out
    safe_now target is = holds_between l target band is

    -- ---- between its ticks

    safe_at_tick : (i : ℕ) → i ≤ ticks_then step l → IsSafe (stream_at_tick i packet step l)
    safe_at_tick i few target is = by l.out.target refl
      where
        after : OutStream
        after = after_ticks (ticks_then step l) (with_packet packet l).out

        by : (o : Option ℕ) → l.out.target ≡ o → IsSafeLevel (stream_at_tick i packet step l).stream.service (out_level (stream_at_tick i packet step l))
        by None none =
            absurd (let nowhere : (stream_at_tick i packet step l).target ≡ None = ticks_none i after (packet_kept.1 ∙ none) in
            let both : None ≡ Some target = sym nowhere ∙ is in cc)
        by (Some t) primed =
            subst (λ (s : StreamFields). IsSafeLevel s.service (out_level (stream_at_tick i packet step l)))
            (sym (ticks_stream i after ∙ packet_kept.0)) (holds_enough l packet step t band given primed i few)

    pub safe_ticks : (i : ℕ) → i ≤ ticks_in ((with_packet packet l).steps ++ step ∷ [])
        → IsSafe (ticks_taken i (after_ticks (ticks_in ((with_packet packet l).steps ++ step ∷ [])) (with_packet packet l).out))
    safe_ticks =
        subst (λ (steps : List ℕ). (i : ℕ) → i ≤ ticks_in (steps ++ step ∷ []) → IsSafe (ticks_taken i (after_ticks (ticks_in (steps ++ step ∷ [])) (with_packet packet l).out)))
        (sym packet_steps) safe_at_tick

    -- ---- with its packet, and while that comes

    pub safe_packet : IsSafe (with_packet packet l).out
    unfolding ticks_taken
    safe_packet = safe_at_tick 0 (omega arith)

    pub safe_while : is_due l.out.stream l.out.microframes ≡ true → (came : ℕ) → IsSafe (while_received packet came l.out)
    unfolding while_received after_packet
    safe_while due came = by packet safe_after
      where
        safe_after : IsSafe (after_packet packet l.out)
        safe_after =
            subst (λ (b : Bool). IsSafe (if b then record l { out = after_packet packet l.out; pace = pace_after_packet l.pace } else l).out) due safe_packet

        by : (o : Option (List ℕ)) → IsSafe (after_packet o l.out) → IsSafe (while_received o came l.out)
        by None after = safe_now
        by (Some bytes) after = fits (takes_all l.out bytes) after
          where
            fits : (b : Bool)
                → IsSafe (record l.out { lost = false; arrived = if b then l.out.arrived ++ frames_of l.out.stream bytes else l.out.arrived })
                → IsSafe (if b then record l.out { arrived = l.out.arrived ++ take came (frames_of l.out.stream bytes) } else l.out)
            fits true then_all = fills_safely l.out (frames_of l.out.stream bytes) came safe_now (λ target is. then_all target is)
            fits false then_none = safe_now

    -- ---- at the end

    abbrev ticked : OutStream
    ticked = (with_step step (with_packet packet l)).out

    pub safe_ticked : IsSafe ticked
    safe_ticked = safe_ticks (ticks_in ((with_packet packet l).steps ++ step ∷ [])) (omega arith)

    module _ (lost : Bool) (few : latest_run (life_after packet step lost l).reports ≤ 3) where
      pub safe_next : IsSafe (life_after packet step lost l).out
      safe_next target is = holds_between (life_after packet step lost l) target (stays_in_band l packet step lost band given few) is

      pub safe_end : IsSafe (out_after_end ticked)
      unfolding life_after
      safe_end = subst IsSafe (feedback_out lost (with_end (with_step step (with_packet packet l)))) safe_next

      pub safe_ending : (zeros : ℕ) → IsSafe (while_ended zeros ticked)
      unfolding while_ended out_after_end
      safe_ending zeros = by (is_due ticked.stream ticked.microframes) safe_end
        where
          by : (b : Bool) → IsSafe (record (if b then after_due_end ticked else ticked) { microframes = ticked.microframes + 1 })
              → IsSafe (if b then record ticked { arrived = ticked.arrived ++ take zeros (zeros_due ticked) } else ticked)
          by true after = fills_safely ticked (zeros_due ticked) zeros safe_ticked (λ target is. after target (primed target is))
            where
              primed : (target : ℕ) → ticked.target ≡ Some target
                  → target_after ticked.target (out_level (with_zeros ticked)) ticked.stream ≡ Some target
              primed target is = ap (λ (o : Option ℕ). target_after o (out_level (with_zeros ticked)) ticked.stream) is
          by false after = safe_ticked
