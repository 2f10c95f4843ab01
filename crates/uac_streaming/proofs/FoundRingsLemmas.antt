-- What a tick finds, from its bits.
use Rattle.std.proofs.Common.{◌≡◌, ◌∙◌, sym, ap, refl, arith, ℕ, Bool, List, [], ◌∷◌, ◌++◌, map, filter, inl, inr}
use Rattle.std.proofs.lemmas.Bool.{cases_Bool}
use Rattle.uac_entities.specs.declared.stream.StreamInterface.{StreamInterface}
use Rattle.uac_device.specs.InterfaceStreams.{set_of_streams}
use Rattle.uac_device.specs.DeviceWorld.{DeviceWorld, met_of}
use Rattle.uac_device.specs.declared.ticking.Ticked.{Ticked}
use Rattle.uac_transcript.specs.Transcript.{Said, says_over, says_under}
use Rattle.uac_streaming.specs.StreamingWorld.{finds_empty, finds_full, found_lines}

-- the ring of an interface is found empty, or full
abbrev pub is_empty_at : ℕ → DeviceWorld → StreamInterface → Bool
is_empty_at clock w s = finds_empty clock w s.number

abbrev pub is_full_at : ℕ → DeviceWorld → StreamInterface → Bool
is_full_at clock w s = finds_full clock w s.number

module _ (clock : ℕ) (w : DeviceWorld) (streams : List StreamInterface) (found : Ticked) (same : w.function.streams ≡ streams) (is : found ≡ met_of clock w) where
  pub bits_under : found.under ≡ set_of_streams (map (is_empty_at clock w) streams)
  unfolding met_of
  bits_under = ap (λ (t : Ticked). t.under) is ∙ ap (λ (ss : List StreamInterface). set_of_streams (map (is_empty_at clock w) ss)) same

  pub bits_over : found.over ≡ set_of_streams (map (is_full_at clock w) streams)
  unfolding met_of
  bits_over = ap (λ (t : Ticked). t.over) is ∙ ap (λ (ss : List StreamInterface). set_of_streams (map (is_full_at clock w) ss)) same

-- the lines of those found empty
abbrev pub empty_lines : ℕ → DeviceWorld → List StreamInterface → List Said
empty_lines clock w streams = map (λ s. says_under s.number) (filter (is_empty_at clock w) streams)

-- and of those found full
abbrev pub full_lines : ℕ → DeviceWorld → List StreamInterface → List Said
full_lines clock w streams = map (λ s. says_over s.number) (filter (is_full_at clock w) streams)

pub found_are : (clock : ℕ) (w : DeviceWorld) (streams : List StreamInterface) → w.function.streams ≡ streams → empty_lines clock w streams ++ full_lines clock w streams ≡ found_lines clock w
unfolding found_lines
found_are clock w streams same = ap (λ (ss : List StreamInterface). empty_lines clock w ss ++ full_lines clock w ss) (sym same)

-- where no bit is set, no test holds
none_kept : (test : StreamInterface → Bool) (streams : List StreamInterface) → set_of_streams (map test streams) ≡ 0 → filter test streams ≡ []
unfolding set_of_streams
none_kept test [] none = refl
none_kept test (s ∷ ss) none =
    elim (cases_Bool (test s)) [
      | inl here ↦ absurd (let bits = rw here at none in omega (arith, bits))
      | inr other ↦ (let bits = rw other at none in rw other (none_kept test ss (omega (arith, bits))))
    ]

-- a tick that finds nothing says nothing
pub found_none : (clock : ℕ) (w : DeviceWorld) (streams : List StreamInterface) (found : Ticked) → w.function.streams ≡ streams → found ≡ met_of clock w → found.under ≡ 0 → found.over ≡ 0
    → [] ≡ found_lines clock w
found_none clock w streams found same is under over =
    let empty = none_kept (is_empty_at clock w) streams (sym (bits_under clock w streams found same is) ∙ under) in
    let full = none_kept (is_full_at clock w) streams (sym (bits_over clock w streams found same is) ∙ over) in
    sym (ap (λ (ss : List StreamInterface). map (λ s. says_under s.number) ss ++ full_lines clock w streams) empty ∙ ap (λ (ss : List StreamInterface). map (λ s. says_over s.number) ss) full)
    ∙ found_are clock w streams same
