-- Counts of what streams met, in block order, as those of one interface change.
use Rattle.std.proofs.Common.{◌≡◌, ◌∙◌, sym, refl, ap, arith, ℕ, suc, ◌+◌, ◌<◌, ◌==◌, true, false, if◌then◌else◌, nat_eq, List, [], ◌∷◌, length, get_or, set, map, Option, Some, None, inl, inr, slice_get}
use Rattle.std.specs.List.{AllByRecursion, IsDistinct, position_or_len}
use Rattle.std.proofs.lemmas.Bool.{cases_Bool}
use Rattle.std.proofs.lemmas.List.{get_or-map, length-map}
use Rattle.std.proofs.lemmas.List.Quantifiers.{position-Some}
use Rattle.std.proofs.lemmas.Map.Keys.{IsDistinct-head, IsDistinct-tail}
use Rattle.uac_entities.specs.declared.stream.StreamInterface.{StreamInterface}
use Rattle.uac_topology.specs.Function.{FunctionFields}
use Rattle.uac_topology.specs.FunctionKept.{AreNumbered}
use Rattle.uac_topology_rules.proofs.ListFindLemmas.{position_is, position_none}
use Rattle.std.proofs.lemmas.Option.{slice_get-get_or}
use Rattle.uac_ring.specs.declared.counts.StreamCounts.{StreamCounts}
use Rattle.uac_streaming.specs.StreamingWorld.{counted_at, met_in, nothing_met, stream_index}

some_same : {A : Type 0} (x y : A) → Some x ≡ Some y → x ≡ y
some_same x y e = cc

eq_of : (m n : ℕ) → (m == n) ≡ true → m ≡ n
eq_of m n e = grind arith

-- no other interface has the number of one
others_stay : (interface n : ℕ) (f g : StreamInterface → StreamCounts) → n ≡ interface → (streams : List StreamInterface)
    → AllByRecursion (λ y. nat_eq n y ≡ false) (map (λ s. s.number) streams) → map (λ s. if s.number == interface then g s else f s) streams ≡ map f streams
others_stay interface n f g same [] all = refl
others_stay interface n f g same (s ∷ ss) all =
    let other : (s.number == interface) ≡ false = grind (arith, all.0, same) in
    rw other (ap (λ cs. f s ∷ cs) (others_stay interface n f g same ss all.1))

one_plus : (n : ℕ) → 1 + n ≡ suc n
one_plus n = omega arith

-- counts put at the index of an interface are its own
pub put_there : (interface : ℕ) (f : StreamInterface → StreamCounts) (counts : StreamCounts) (streams : List StreamInterface)
    → IsDistinct nat_eq (map (λ s. s.number) streams)
    → set (map f streams) (position_or_len (λ s. s.number == interface) streams) counts ≡ map (λ s. if s.number == interface then counts else f s) streams
put_there interface f counts [] apart = refl
put_there interface f counts (s ∷ ss) apart =
    elim (cases_Bool (s.number == interface)) [
      | inl same ↦ rw same (ap (λ cs. counts ∷ cs) (sym (others_stay interface s.number f (λ t. counts) (eq_of s.number interface same) ss (IsDistinct-head nat_eq s.number (map (λ (t : StreamInterface). t.number) ss) apart))))
      | inr other ↦ rw (other, one_plus (position_or_len (λ (t : StreamInterface). t.number == interface) ss)) (ap (λ cs. f s ∷ cs) (put_there interface f counts ss (IsDistinct-tail nat_eq s.number (map (λ (t : StreamInterface). t.number) ss) apart)))
    ]

-- where no interface has the number, none changes
pub nowhere : (interface : ℕ) (f g : StreamInterface → StreamCounts) (streams : List StreamInterface)
    → position_or_len (λ s. s.number == interface) streams ≡ length streams → map (λ s. if s.number == interface then g s else f s) streams ≡ map f streams
nowhere interface f g [] none = refl
nowhere interface f g (s ∷ ss) none =
    elim (cases_Bool (s.number == interface)) [
      | inl same ↦ absurd (let first = rw same at none in omega (arith, first))
      | inr other ↦ (let rest = rw other at none in rw other (ap (λ cs. f s ∷ cs) (nowhere interface f g ss (omega (arith, rest)))))
    ]

-- a change is that of the counts of the interface
pub change_there : (interface : ℕ) (met : ℕ → StreamCounts) (change : StreamCounts → StreamCounts) (counts : StreamCounts) → counts ≡ change (met interface)
    → (streams : List StreamInterface)
    → map (λ s. counted_at interface (λ c. counts) met s.number) streams ≡ map (λ s. counted_at interface change met s.number) streams
change_there interface met change counts is [] = refl
change_there interface met change counts is (s ∷ ss) =
    elim (cases_Bool (s.number == interface)) [
      | inl same ↦
          rw same
          (ap (λ (c : StreamCounts). c ∷ map (λ s. counted_at interface (λ c. counts) met s.number) ss) (is ∙ ap (λ (n : ℕ). change (met n)) (sym (eq_of s.number interface same)))
          ∙ ap (λ cs. change (met s.number) ∷ cs) (change_there interface met change counts is ss))
      | inr other ↦ rw other (ap (λ cs. met s.number ∷ cs) (change_there interface met change counts is ss))
    ]

-- a change that changes nothing
pub counts_kept : (interface : ℕ) (met : ℕ → StreamCounts) (change : StreamCounts → StreamCounts) → ((c : StreamCounts) → change c ≡ c) → (streams : List StreamInterface)
    → map (λ s. counted_at interface change met s.number) streams ≡ map (λ s. met s.number) streams
counts_kept interface met change same [] = refl
counts_kept interface met change same (s ∷ ss) =
    elim (cases_Bool (s.number == interface)) [
      | inl here ↦
          rw here
          (ap (λ (c : StreamCounts). c ∷ map (λ s. counted_at interface change met s.number) ss) (same (met s.number))
          ∙ ap (λ cs. met s.number ∷ cs) (counts_kept interface met change same ss))
      | inr other ↦ rw other (ap (λ cs. met s.number ∷ cs) (counts_kept interface met change same ss))
    ]

-- the counts of an interface, put in block order
pub counts_put : (function : FunctionFields) (interface index : ℕ) (met : ℕ → StreamCounts) (counts : StreamCounts) (old : List StreamCounts) → AreNumbered function
    → stream_index function interface ≡ Some index → old ≡ met_in met function → set old index counts ≡ met_in (counted_at interface (λ c. counts) met) function
counts_put function interface index met counts old numbered there is =
    let at = (position_is (λ (s : StreamInterface). s.number == interface) function.streams index there).1 in
    ap (λ (cs : List StreamCounts). set cs index counts) is
    ∙ ap (λ (n : ℕ). set (met_in met function) n counts) (sym at)
    ∙ put_there interface (λ s. met s.number) counts function.streams
    (IsDistinct-tail nat_eq function.control_interface (map (λ (s : StreamInterface). s.number) function.streams) numbered.different)

-- what the counts of an interface are, at its index
pub counts_met : (function : FunctionFields) (interface index at : ℕ) (met : ℕ → StreamCounts) (counts : List StreamCounts) (c : StreamCounts)
    → counts ≡ met_in met function → Some at ≡ stream_index function interface → stream_index function interface ≡ Some index
    → (at < length counts → slice_get counts at ≡ Some c) → c ≡ met interface
counts_met function interface index at met counts c is here there read =
    let found = position-Some (λ (s : StreamInterface). s.number == interface) function.streams at no_stream (sym here) in
    let below : at < length counts = omega (arith, ap length is, length-map function.streams (λ (s : StreamInterface). met s.number), found.0) in
    let own : (get_or function.streams at no_stream).number ≡ interface = eq_of (get_or function.streams at no_stream).number interface found.1 in
    some_same c (met interface)
    (sym (read below) ∙ ap (λ (cs : List StreamCounts). slice_get cs at) is
    ∙ slice_get-get_or (met_in met function) at nothing_met (omega (arith, below, ap length is))
    ∙ ap (λ (d : StreamCounts). Some d)
    (get_or-map (λ (s : StreamInterface). met s.number) function.streams at no_stream nothing_met found.0 ∙ ap met own))
  where
    no_stream : StreamInterface
    no_stream = record { number = 0; terminal = 0; out = false; settings = [] }

-- the index of an interface is one of theirs
pub index_below : (function : FunctionFields) (interface index : ℕ) (met : ℕ → StreamCounts) (counts : List StreamCounts)
    → counts ≡ met_in met function → Some index ≡ stream_index function interface → index < length counts
index_below function interface index met counts is there =
    let found = position_is (λ (s : StreamInterface). s.number == interface) function.streams index (sym there) in
    omega (arith, ap length is, length-map function.streams (λ (s : StreamInterface). met s.number), found.0)

-- where there is no such interface, all stay
pub counts_stay : (function : FunctionFields) (interface : ℕ) (met : ℕ → StreamCounts) (change : StreamCounts → StreamCounts) → stream_index function interface ≡ None
    → met_in (counted_at interface change met) function ≡ met_in met function
counts_stay function interface met change none =
    nowhere interface (λ s. met s.number) (λ s. change (met s.number)) function.streams
    (position_none (λ (s : StreamInterface). s.number == interface) function.streams none)

-- counts that are the change of those of the interface, where there is one
pub counts_changed : (function : FunctionFields) (interface : ℕ) (met : ℕ → StreamCounts) (change : StreamCounts → StreamCounts) (counts : StreamCounts)
    → ((index : ℕ) → stream_index function interface ≡ Some index → counts ≡ change (met interface))
    → met_in (counted_at interface (λ c. counts) met) function ≡ met_in (counted_at interface change met) function
counts_changed function interface met change counts is = by (stream_index function interface) refl where
  by : (index : Option ℕ) → stream_index function interface ≡ index → met_in (counted_at interface (λ c. counts) met) function ≡ met_in (counted_at interface change met) function
  by None none = counts_stay function interface met (λ c. counts) none ∙ sym (counts_stay function interface met change none)
  by (Some index) there = change_there interface met change counts (is index there) function.streams
