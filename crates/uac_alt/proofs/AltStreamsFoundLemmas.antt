-- A setting that was found.
use Rattle.std.proofs.Common.{◌≡◌, sym, ◌≢◌, ℕ, ◌==◌, false, List, Option, Some, arith}
use Rattle.std.specs.List.{find}
use Rattle.uac_clock.specs.Nominal.{nominal_of}
use Rattle.uac_clock.specs.declared.values.Nominal.{Nominal}
use Rattle.uac_entities.specs.declared.stream.Setting.{Setting}
use Rattle.uac_entities.specs.declared.stream.StreamInterface.{StreamInterface}
use Rattle.uac_topology.specs.Function.{FunctionFields}
use Rattle.uac_topology.specs.FunctionKept.{IsSettingInRange}
use Rattle.uac_topology.specs.Topology.{IsSoundFunction}
use Rattle.uac_topology.proofs.FunctionKeptRangeLemmas.{in_range}
use Rattle.uac_alt.specs.Formed.{HasFormat}
use Rattle.uac_alt.specs.AltStreams.{StreamFields, stream_at, stream_of}
use Rattle.uac_alt.proofs.AltStreamsLemmas.{range_at}
use Rattle.uac_alt.proofs.FormedLemmas.{has_format}

-- the stream of an interface in a setting above 0, where both, and the nominal values of the rate, were found
pub stream_of_found : (function : FunctionFields) (rate interface number : ℕ) {streaming_interface : StreamInterface} {setting : Setting} {nominal : Nominal} {streams : List StreamInterface} {settings : List Setting} {result : Option StreamFields} → number ≢ 0 → streams ≡ function.streams → Some streaming_interface ≡ find (λ s. s.number == interface) streams → settings ≡ streaming_interface.settings → Some setting ≡ find (λ t. t.number == number) settings → Some nominal ≡ nominal_of rate → result ≡ stream_at function streaming_interface setting nominal → result ≡ stream_of function rate interface number
unfolding stream_of
stream_of_found function rate interface number above streams streaming_interface settings setting nominal result =
    let is_above : (number == 0) ≡ false = grind arith in
    let of_function = rw streams at streaming_interface in
    let of_carrier = rw settings at setting in
    rw (is_above, ← of_function, ← of_carrier, ← nominal) result

-- a setting that was found has the numbers of a format
pub format_found : (function : FunctionFields) (interface number : ℕ) {streaming_interface : StreamInterface} {setting : Setting} {streams : List StreamInterface} {settings : List Setting} → IsSoundFunction function → streams ≡ function.streams → Some streaming_interface ≡ find (λ s. s.number == interface) streams → settings ≡ streaming_interface.settings → Some setting ≡ find (λ t. t.number == number) settings → HasFormat function streaming_interface setting
format_found function interface number {streaming_interface} {setting} sound streams carried settings set =
    let of_function = rw streams at carried in
    let of_carrier = rw settings at set in
    has_format function interface number streaming_interface setting sound (sym of_function) (sym of_carrier)

-- and its numbers are in range
pub range_found : (function : FunctionFields) (interface number : ℕ) {streaming_interface : StreamInterface} {setting : Setting} {streams : List StreamInterface} {settings : List Setting} → IsSoundFunction function → streams ≡ function.streams → Some streaming_interface ≡ find (λ s. s.number == interface) streams → settings ≡ streaming_interface.settings → Some setting ≡ find (λ t. t.number == number) settings → IsSettingInRange setting
range_found function interface number {streaming_interface} {setting} sound streams carried settings set =
    let of_function = rw streams at carried in
    let of_carrier = rw settings at set in
    range_at function interface number streaming_interface setting (in_range function sound) (sym of_function) (sym of_carrier)
