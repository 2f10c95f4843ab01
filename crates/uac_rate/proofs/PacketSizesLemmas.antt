-- The frames of a packet are those of its microframes.
use Rattle.std.proofs.Common.{arith, ◌≡◌, ℕ, suc, ◌+◌, ◌-◌, ◌*◌, ◌/◌, ◌%◌, ◌≤◌, List, [], ◌∷◌, ◌++◌, length, take, sum, ap, ◌∙◌, length-append}
use Rattle.std.proofs.lemmas.List.{take-append-le}
use Rattle.std.proofs.lemmas.List.Sums.{sum_by_push, sum_by-take-le, sum_by-append, sum_by-cons}
use Rattle.std.proofs.Math.Seq.{take-append_seam}
use Rattle.std.specs.List.{AllByRecursion}
use Rattle.uac_clock.specs.declared.values.Nominal.{Nominal}
use Rattle.uac_rate.specs.Levels.{Within}
use Rattle.uac_rate.specs.PacketSizes.{frames_in_packet}

pub packets_add_up : (service : ℕ) (values : List ℕ) (v : ℕ) → service ≤ length values
    → frames_in_packet (suc service) (values ++ v ∷ []) ≡ frames_in_packet service values + frames_in_packet 1 (values ++ v ∷ [])
packets_add_up service values v long =
    let grown : length (values ++ v ∷ []) ≡ length values + 1 = length-append values (v ∷ []) in
    let all : sum (values ++ v ∷ []) ≡ sum values + v = sum_by_push (λ (x : ℕ). x) values v in
    let fewer : sum (take (length values - service) values) ≤ sum values = sum_by-take-le (λ (x : ℕ). x) values (length values - service) in
    let before : take (length (values ++ v ∷ []) - suc service) (values ++ v ∷ []) ≡ take (length values - service) values =
    ap (λ (n : ℕ). take n (values ++ v ∷ [])) (fewer_microframes (length (values ++ v ∷ [])) (length values) service grown)
    ∙ take-append-le (length values - service) values (v ∷ []) (omega arith) in
    let one : take (length (values ++ v ∷ []) - 1) (values ++ v ∷ []) ≡ values =
    ap (λ (n : ℕ). take n (values ++ v ∷ [])) (one_fewer (length (values ++ v ∷ [])) (length values) grown) ∙ take-append_seam values (v ∷ []) in
    added (sum values) v (sum (values ++ v ∷ [])) (sum (take (length values - service) values)) _ _ all fewer (ap sum before) (ap sum one) where
      fewer_microframes : (grown n service : ℕ) → grown ≡ n + 1 → grown - suc service ≡ n - service
      fewer_microframes grown n service h = omega arith

      one_fewer : (grown n : ℕ) → grown ≡ n + 1 → grown - 1 ≡ n
      one_fewer grown n h = omega arith

      added : (old v new some some_new old_new : ℕ) → new ≡ old + v → some ≤ old → some_new ≡ some → old_new ≡ old
          → new / 65536 - some_new / 65536 ≡ (old / 65536 - some / 65536) + (new / 65536 - old_new / 65536)
      added old v new some some_new old_new all fewer before one = omega arith

pub by_remainder : (values packet : List ℕ)
    → (frames_in_packet (length packet) (values ++ packet) ≡ (sum values % 65536 + sum packet) / 65536)
    × (sum (values ++ packet) % 65536 ≡ (sum values % 65536 + sum packet) % 65536)
by_remainder values packet =
    let grown : length (values ++ packet) ≡ length values + length packet = length-append values packet in
    let all : sum (values ++ packet) ≡ sum values + sum packet = sum_by-append (λ (x : ℕ). x) values packet in
    let before : take (length (values ++ packet) - length packet) (values ++ packet) ≡ values =
    ap (λ (n : ℕ). take n (values ++ packet)) (without (length (values ++ packet)) (length values) (length packet) grown)
    ∙ take-append_seam values packet in
    (whole (sum values) (sum packet) (sum (values ++ packet)) _ all (ap sum before), left (sum values) (sum packet) (sum (values ++ packet)) all) where
      without : (grown n m : ℕ) → grown ≡ n + m → grown - m ≡ n
      without grown n m h = omega arith

      whole : (old more new before : ℕ) → new ≡ old + more → before ≡ old → new / 65536 - before / 65536 ≡ (old % 65536 + more) / 65536
      whole old more new before h same = omega arith

      left : (old more new : ℕ) → new ≡ old + more → new % 65536 ≡ (old % 65536 + more) % 65536
      left old more new h = omega arith

pub slight_sum : (values : Nominal) (steps : List ℕ) → AllByRecursion (λ step. Within values.e step values.f) steps
    → Within (length steps * values.e) (sum steps) (length steps * values.f)
slight_sum values [] each = (omega arith, omega arith)
slight_sum values (step ∷ steps) each =
    let rest = slight_sum values steps each.1 in
    let grown = sum_by-cons (λ (x : ℕ). x) step steps in
    (omega (arith, each.0), omega (arith, each.0))
