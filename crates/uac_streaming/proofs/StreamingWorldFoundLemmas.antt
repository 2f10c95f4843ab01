-- Counts of rings that a tick found empty and full, in block order.
use Rattle.std.proofs.Common.{◌≡◌, ◌∙◌, refl, ap, arith, ℕ, ◌+◌, ◌*◌, ◌/◌, ◌%◌, ◌<◌, ◌≤◌, ◌==◌, Bool, true, false, if◌then◌else◌, List, [], ◌∷◌, ◌++◌, length, get_or, set, take, drop, map, append_assoc, append-nil, add-one, drop-cons}
use Rattle.std.proofs.lemmas.Grind.{common_steps}
use Rattle.std.proofs.lemmas.List.{drop_all, take_all, take_more_set}
use Rattle.uac_entities.specs.declared.stream.StreamInterface.{StreamInterface}
use Rattle.uac_ring.specs.declared.counts.StreamCounts.{StreamCounts}
use Rattle.uac_device.specs.InterfaceStreams.{set_of_streams}
use Rattle.uac_device.specs.DeviceWorld.{DeviceWorld, met_of}
use Rattle.uac_device.specs.declared.ticking.Ticked.{Ticked}
use Rattle.uac_streaming.specs.StreamingWorld.{finds_empty, finds_full, found_counts, met_in, one_over, one_under}

-- counts of a stream whose ring was found so
abbrev pub found_one : Bool → Bool → StreamCounts → StreamCounts
found_one empty full c = if full then one_over (if empty then one_under c else c) else (if empty then one_under c else c)

-- the same of each, by bits, the lowest for the first
pub found_in : ℕ → ℕ → List StreamCounts → List StreamCounts
found_in empty full [] = []
found_in empty full (c ∷ cs) = found_one (empty % 2 == 1) (full % 2 == 1) c ∷ found_in (empty / 2) (full / 2) cs

low_bit : (b : Bool) (n : ℕ) → (((if b then 1 else 0) + 2 * n) % 2 == 1) ≡ b
low_bit true n = let e : (1 + 2 * n) % 2 ≡ 1 = omega arith in rw e refl
low_bit false n = let e : (0 + 2 * n) % 2 ≡ 0 = omega arith in rw e refl

high_bits : (b : Bool) (n : ℕ) → ((if b then 1 else 0) + 2 * n) / 2 ≡ n
high_bits true n = omega arith
high_bits false n = omega arith

-- one more was counted
pub found_more : (empty full at : ℕ) (met : List StreamCounts) (x d : StreamCounts) → at < length met
    → x ≡ found_one (empty % 2 == 1) (full % 2 == 1) (get_or met at d)
    → take (at + 1) (set met at x) ++ found_in (empty / 2) (full / 2) (drop (at + 1) (set met at x)) ≡ take at met ++ found_in empty full (drop at met)
unfolding found_in
found_more empty full at met x d below is =
    let rest : drop (at + 1) (set met at x) ≡ drop (at + 1) met = grind (arith, common_steps) in
    let front : drop at met ≡ get_or met at d ∷ drop (at + 1) met = rw (drop-cons met at d below, add-one) refl in
    rw (take_more_set met at x below, rest, front, is)
    (append_assoc (take at met) (found_one (empty % 2 == 1) (full % 2 == 1) (get_or met at d) ∷ []) (found_in (empty / 2) (full / 2) (drop (at + 1) met)))

-- bits of tests
pub found_by : (empty full : StreamInterface → Bool) (counts : StreamInterface → StreamCounts) (streams : List StreamInterface)
    → found_in (set_of_streams (map empty streams)) (set_of_streams (map full streams)) (map counts streams) ≡ map (λ s. found_one (empty s) (full s) (counts s)) streams
unfolding set_of_streams found_in
found_by empty full counts [] = refl
found_by empty full counts (s ∷ ss) =
    let e = set_of_streams (map empty ss) in
    let f = set_of_streams (map full ss) in
    rw (low_bit (empty s) e, low_bit (full s) f, high_bits (empty s) e, high_bits (full s) f)
    (ap (λ cs. found_one (empty s) (full s) (counts s) ∷ cs) (found_by empty full counts ss))

-- what a tick found
pub found_of : (met : ℕ → StreamCounts) (w : DeviceWorld) (clock : ℕ) (found : Ticked) (old : List StreamCounts) → old ≡ met_in met w.function → found ≡ met_of clock w
    → found_in found.under found.over old ≡ met_in (found_counts clock w met) w.function
unfolding met_of found_counts
found_of met w clock found old is tick =
    ap (found_in found.under found.over) is
    ∙ ap (λ (t : Ticked). found_in t.under t.over (met_in met w.function)) tick
    ∙ found_by (λ s. finds_empty clock w s.number) (λ s. finds_full clock w s.number) (λ s. met s.number) w.function.streams

-- all were counted
pub found_all : (empty full at : ℕ) (now : List StreamCounts) → length now ≤ at → take at now ++ found_in empty full (drop at now) ≡ now
unfolding found_in
found_all empty full at now past = rw (take_all at now past, drop_all at now past) (append-nil now)

-- nothing was found
pub found_nothing : (met : List StreamCounts) → found_in 0 0 met ≡ met
unfolding found_in
found_nothing [] = refl
found_nothing (c ∷ cs) = ap (λ (cs : List StreamCounts). c ∷ cs) (found_nothing cs)
