-- What a tick meets, interface by interface.
use Rattle.std.proofs.Common.{◌≡◌, ◌∙◌, sym, refl, ap, subst, arith, ℕ, zero, suc, ◌+◌, ◌*◌, ◌^◌, ◌<◌, ◌≤◌, Bool, true, false, if◌then◌else◌, List, [], ◌∷◌, ◌++◌, Option, length, get_or, map, take}
use Rattle.std.proofs.Math.Nat.{pow-suc}
use Rattle.std.proofs.lemmas.List.{length-map, length-take-le, map-append, take_all, take_more}
use Rattle.std.proofs.lemmas.Nat.{pow-add}
use Rattle.uac_flow.specs.FlowStreams.{InStream, OutStream}
use Rattle.uac_device.specs.InterfaceStreams.{set_of_streams}
use Rattle.uac_device.specs.declared.device_stream.Port.{Port}
use Rattle.uac_device.specs.declared.device_stream.DeviceStream.{DeviceStream}
use Rattle.uac_device.specs.DeviceStreams.{DeviceStreamStands, DeviceStreamsStand, ports}

-- one bit above the others
pub bits_more : (bits : List Bool) (b : Bool) → set_of_streams (bits ++ b ∷ []) ≡ set_of_streams bits + (if b then 2 ^ length bits else 0)
unfolding set_of_streams
bits_more [] true = refl
bits_more [] false = refl
bits_more (true ∷ bits) true = omega (arith, bits_more bits true, pow-suc 2 (length bits))
bits_more (false ∷ bits) true = omega (arith, bits_more bits true, pow-suc 2 (length bits))
bits_more (true ∷ bits) false = omega (arith, bits_more bits false)
bits_more (false ∷ bits) false = omega (arith, bits_more bits false)

-- before the first device stream
pub met_none : (test : Port → Bool) (device_streams : List DeviceStream) → 0 ≡ set_of_streams (map test (ports (take 0 device_streams)))
unfolding set_of_streams
met_none test device_streams = refl

-- one device stream more
pub met_more : (test : Port → Bool) (device_streams : List DeviceStream) (at : ℕ) (d l : DeviceStream) (found : Bool) (bits weight more : ℕ) → at < length device_streams → l ≡ get_or device_streams at d → found ≡ test l.port
    → weight ≡ 2 ^ at → bits ≡ set_of_streams (map test (ports (take at device_streams))) → more ≡ bits + (if found then weight else 0)
    → more ≡ set_of_streams (map test (ports (take (at + 1) device_streams)))
met_more test device_streams at d l found bits weight more below read is heavy so_far grown =
    let here : List Bool = map test (ports (take at device_streams)) in
    let longer : map test (ports (take (at + 1) device_streams)) ≡ here ++ test (get_or device_streams at d).port ∷ [] =
    ap (λ (ls : List DeviceStream). map test (ports ls)) (take_more device_streams at d below)
    ∙ ap (map test) (map-append (λ (m : DeviceStream). m.port) (take at device_streams) (get_or device_streams at d ∷ []))
    ∙ map-append test (ports (take at device_streams)) ((get_or device_streams at d).port ∷ []) in
    let sized : length here ≡ at =
    length-map (ports (take at device_streams)) test ∙ length-map (take at device_streams) (λ (m : DeviceStream). m.port) ∙ length-take-le at device_streams (omega (arith, below)) in
    grown
    ∙ ap (λ (n : ℕ). n + (if found then weight else 0)) so_far
    ∙ ap (λ (b : Bool). set_of_streams here + (if b then weight else 0)) (is ∙ ap (λ (m : DeviceStream). test m.port) read)
    ∙ ap (λ (n : ℕ). set_of_streams here + (if test (get_or device_streams at d).port then n else 0)) (heavy ∙ ap (λ (n : ℕ). 2 ^ n) (sym sized))
    ∙ sym (bits_more here (test (get_or device_streams at d).port))
    ∙ ap set_of_streams (sym longer)

-- all device streams
pub met_all : (test : Port → Bool) (device_streams : List DeviceStream) (at bits : ℕ) → length device_streams ≤ at → bits ≡ set_of_streams (map test (ports (take at device_streams))) → bits ≡ set_of_streams (map test (ports device_streams))
met_all test device_streams at bits past so_far = so_far ∙ ap (λ (ls : List DeviceStream). set_of_streams (map test (ports ls))) (take_all at device_streams past)

-- what a device stream at an index keeps
pub keeps_here : (device_streams : List DeviceStream) (outs : ℕ → Option OutStream) (ins : ℕ → Option InStream) (at : ℕ) (d l : DeviceStream) → DeviceStreamsStand device_streams outs ins → at < length device_streams
    → l ≡ get_or device_streams at d → DeviceStreamStands l (outs l.port.interface) (ins l.port.interface)
keeps_here device_streams outs ins at d l keeps below read =
    subst (λ (m : DeviceStream). DeviceStreamStands m (outs m.port.interface) (ins m.port.interface)) (sym read) (keeps.each at d below)

-- the bits stay below the next one
pub few_more : (bits weight more : ℕ) (found : Bool) → bits < weight → more ≡ bits + (if found then weight else 0) → more < 2 * weight
few_more bits weight more true few grown = omega (arith, few, grown)
few_more bits weight more false few grown = omega (arith, few, grown)

pub next_weight : (weight at : ℕ) → weight ≡ 2 ^ at → 2 * weight ≡ 2 ^ (at + 1)
next_weight weight at is = omega (arith, is, pow-add 2 at 1)

-- eight device streams have eight bits
pub light : (at : ℕ) → at ≤ 8 → 2 ^ at ≤ 256
light zero most = omega arith
light (suc zero) most = omega arith
light (suc (suc zero)) most = omega arith
light (suc (suc (suc zero))) most = omega arith
light (suc (suc (suc (suc zero)))) most = omega arith
light (suc (suc (suc (suc (suc zero))))) most = omega arith
light (suc (suc (suc (suc (suc (suc zero)))))) most = omega arith
light (suc (suc (suc (suc (suc (suc (suc zero))))))) most = omega arith
light (suc (suc (suc (suc (suc (suc (suc (suc zero)))))))) most = omega arith
light (suc (suc (suc (suc (suc (suc (suc (suc (suc at))))))))) most = absurd (omega (arith, most))
