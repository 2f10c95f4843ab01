-- Worked values: which values fit each element.
use Rattle.std.proofs.Common.{◌≡◌, Bool, true, false, ℤ, pos, negsuc, List, [], ◌∷◌, map, refl}
use Rattle.uac_mixer.specs.declared.kinds.ElementKind.{ElementKind}
use Rattle.uac_mixer.specs.declared.kinds.ElementKind.TheVariants as shown
use Rattle.uac_mixer.specs.MixerElements.{fits_element}

-- the value below the least, the least, the greatest, and the one above that
abbrev fits_about : ElementKind → ℤ → ℤ → ℤ → ℤ → List Bool
fits_about x below least greatest above = map (fits_element x) (below ∷ least ∷ greatest ∷ above ∷ [])

abbrev inner : List Bool
inner = false ∷ true ∷ true ∷ false ∷ []

-- -1, 0, 2147483647 and 2147483648
rate : fits_about shown.Rate (negsuc 0) (pos 0) (pos 2147483647) (pos 2147483648) ≡ inner
rate = refl

-- the greatest number of four bytes is no frequency
rate_of_four_bytes : fits_element shown.Rate (pos 4294967295) ≡ false
rate_of_four_bytes = refl

-- -1, 0, 255 and 256
clock : fits_about shown.Clock (negsuc 0) (pos 0) (pos 255) (pos 256) ≡ inner
clock = refl

-- -1, 0, 65535 and 65536
times : fits_about shown.Times (negsuc 0) (pos 0) (pos 65535) (pos 65536) ≡ inner
times = refl

over : fits_about shown.Over (negsuc 0) (pos 0) (pos 65535) (pos 65536) ≡ inner
over = refl

-- -32769, -32768, 32767 and 32768
mix : fits_about shown.Mix (negsuc 32768) (negsuc 32767) (pos 32767) (pos 32768) ≡ inner
mix = refl

select : fits_about shown.Select (negsuc 0) (pos 0) (pos 255) (pos 256) ≡ inner
select = refl

mute : fits_about shown.Mute (negsuc 0) (pos 0) (pos 255) (pos 256) ≡ inner
mute = refl

volume : fits_about shown.Volume (negsuc 32768) (negsuc 32767) (pos 32767) (pos 32768) ≡ inner
volume = refl

enable : fits_about shown.Enable (negsuc 0) (pos 0) (pos 255) (pos 256) ≡ inner
enable = refl
