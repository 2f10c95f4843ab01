-- The lines of a descriptor: the device that its bytes describe starts good.
use Rattle.std.proofs.Common.{◌≡◌, refl, ℕ, List, [], ◌∷◌}
use Rattle.std.proofs.lemmas.List.Elements.{All-nil}
use Rattle.uac_descriptor.specs.BlockParsing.{AreBytes}
use Rattle.uac_script.specs.Phrase.{Phrase, bytes_line}
use Rattle.uac_units.specs.Hearing.{Reading}
use Rattle.uac_running.specs.RunningWorld.{at_start}
use Rattle.uac_running.specs.RunningLines.{ready_line}
use Rattle.uac_rows.specs.BusWorld.{BusWorld, describing, running, step_describing}
use Rattle.uac_levels.proofs.BeginningsLemmas.{runs_start_in_band}
use Rattle.uac_levels.proofs.BandTransfersStartLemmas.{runs_start_sound}
use Rattle.uac_levels.specs.Past.{Pasts}
use Rattle.uac_promises.proofs.ScriptsStartLemmas.{describing_is}
use Rattle.uac_promises.specs.Watches.{microframes_of}
use Rattle.uac_promises.proofs.PromisesPlainLemmas.{IsPlain, one_plain}
use Rattle.uac_promises.proofs.PromisesRunLemmas.{LawsOfSteps}
use Rattle.uac_promises.proofs.PromisesLineLemmas.{KeepsAll, leaves_plain}

module _ (laws : LawsOfSteps) (bytes : List ℕ) (meters : List Reading) (pasts : Pasts) where
  abbrev w : BusWorld
  w = describing bytes meters

  pub describing_keeps_all : (phrase : Phrase) → AreBytes bytes → ((more : List ℕ) → phrase ≡ bytes_line more → AreBytes more)
      → KeepsAll (microframes_of phrase) w pasts (step_describing bytes meters phrase)
  describing_keeps_all =
      describing_is (λ phrase s. KeepsAll (microframes_of phrase) w pasts s) (λ phrase fault. tt) bytes meters
      (λ are h. leaves_plain w w pasts [] are (All-nil IsPlain))
      (λ more now are h. leaves_plain w (describing now meters) pasts [] are (All-nil IsPlain))
      (λ function is h. leaves_plain w (running (at_start bytes function meters)) pasts (ready_line function ∷ [])
      (record {
        band = runs_start_in_band bytes function meters is.sound;
        sound = runs_start_sound bytes function meters is.sound;
        recorded = laws.start_recorded bytes function meters;
        trails = laws.start_trailed bytes function meters pasts;
      })
      (one_plain (ready_line function) refl))
