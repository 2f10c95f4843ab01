-- Steps of the world, and what they are answered.
use Rattle.std.proofs.Common.{◌≡◌, ℕ, Bool, true, false, List, refl, subst, Option, Result, Ok, Err, IsErrAnd, sym}
use Rattle.uac_pcm.specs.declared.tones.Tone.{Tone}
use Rattle.uac_pcm.specs.declared.tones.Tone.TheVariants.{Silent, Ramp, Noise}
use Rattle.uac_script.specs.Line.{phrase_tone_of}
use Rattle.uac_fault.specs.declared.fault.BusFault.{BusFault}
use Rattle.uac_fault.specs.declared.fault.BusFault.TheVariants as faults
use Rattle.uac_rows.specs.BusWorld.{BusWorld, Step, unless, breaks_rule, tone_of}
use Rattle.uac_rows.specs.BusSteps.{IsWriteCut, Prevents, Does}

-- a tone is what its words spell
pub tone_back : (tone : Tone) → tone_of (phrase_tone_of tone) ≡ tone
tone_back Silent = refl
tone_back (Ramp first rise) = refl
tone_back (Noise seed) = refl

-- the rule holds, and the step is made; or it is broken
pub unless_holds : (b : Bool) (rule : ℕ) (s : Step) → b ≡ true → unless b rule s ≡ s
unless_holds true rule s e = refl
unless_holds false rule s e = absurd (cc)

pub unless_fails : (b : Bool) (rule : ℕ) (s : Step) → b ≡ false → unless b rule s ≡ breaks_rule rule
unless_fails true rule s e = absurd (cc)
unless_fails false rule s e = refl

-- a write failed, and `?` handed that on
pub cut_handed_on : (s : Step) (memory : Bool) (Holds : BusWorld → Type 0) (written written' : Option (List ℕ)) (result : Result (Unit {0}) BusFault)
    → IsErrAnd result (λ fault. fault ≡ faults.WriteFault) → IsWriteCut s written written' → Does s memory Holds written written' result
cut_handed_on s memory Holds written written' (Ok _) fails cut = absurd fails
cut_handed_on s memory Holds written written' (Err fault) fails cut = subst (λ (f : BusFault). Prevents f memory s written written') (sym fails) cut
