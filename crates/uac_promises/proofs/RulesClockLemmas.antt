-- Where each terminal has clock 1, no other clock stands behind an output terminal.
use Rattle.std.proofs.Common.{◌≡◌, sym, refl, subst, ap, ℕ, zero, suc, ◌==◌, ◌&&◌, ◌||◌, not, if◌then◌else◌, Bool, true, false, List, [], ◌∷◌, ◌++◌, length, None, arith}
use Rattle.std.specs.List.{flat_map, list_all, list_any}
use Rattle.std.proofs.lemmas.Bool.{and_parts, true≢false}
use Rattle.uac_topology_rules.specs.Walk.{links}
use Rattle.uac_entities.specs.declared.entity.Entity.{Entity}
use Rattle.uac_entities.specs.EntityInterfaces.{is_input}
use Rattle.uac_topology_rules.specs.Table.{at}
use Rattle.uac_topology_rules.specs.Links.{signal_links}
use Rattle.uac_topology_rules.specs.Clusters.{clocks_by, clocks_of, clocks_step, clocks_within}
use Rattle.uac_topology_rules.specs.Rules.{breaks_u11, is_output}
use Rattle.uac_topology_rules.specs.RuleFaults.{of_entity}
use Rattle.uac_topology_rules.proofs.RuleFaultsLemmas.{no_entity_breaks}

-- a terminal has clock 1
abbrev pub has_clock_one : Entity → Bool
has_clock_one e = not (is_input e.kind || is_output e.kind) || e.clock == 1

at_each : (es : List Entity) (index : ℕ) → list_all has_clock_one es ≡ true → has_clock_one (at es index) ≡ true
unfolding at
at_each [] index all = refl
at_each (e ∷ es) zero all = (and_parts _ _ all).0
at_each (e ∷ es) (suc index) all = at_each es index (and_parts _ _ all).1

abbrev is_other : ℕ → Bool
is_other clock = not (clock == 1)

none_joined : (xs ys : List ℕ) → list_any is_other xs ≡ false → list_any is_other ys ≡ false → list_any is_other (xs ++ ys) ≡ false
none_joined [] ys front back = back
none_joined (x ∷ xs) ys front back = by (is_other x) front (none_joined xs ys)
  where
    by : (b : Bool) → (b || list_any is_other xs) ≡ false
        → (list_any is_other xs ≡ false → list_any is_other ys ≡ false → list_any is_other (xs ++ ys) ≡ false)
        → (b || list_any is_other (xs ++ ys)) ≡ false
    by true front rest = absurd (true≢false front)
    by false front rest = rest front back

none_mapped : (below : ℕ → List ℕ) → ((v : ℕ) → list_any is_other (below v) ≡ false) → (vs : List ℕ)
    → list_any is_other (flat_map below vs) ≡ false
none_mapped below none [] = refl
none_mapped below none (v ∷ vs) = none_joined (below v) (flat_map below vs) (none v) (none_mapped below none vs)

module _ (es : List Entity) (all : list_all has_clock_one es ≡ true) where
  -- no clock but 1 stands behind an entity
  none_behind : (n index : ℕ) → list_any is_other (clocks_within n es index) ≡ false
  unfolding clocks_within clocks_step
  none_behind zero index = refl
  none_behind (suc n) index = by (at es index) (at_each es index all) (none_behind n)
    where
      named : (b c t : Bool) (clock : ℕ) (sources : List ℕ) → (clock == 1) ≡ t → (not (b || c) || t) ≡ true
          → ((v : ℕ) → list_any is_other (clocks_within n es v) ≡ false)
          → list_any is_other (if b then clock ∷ [] else flat_map (clocks_within n es) sources) ≡ false
      named true c true clock sources is passes none = ap (λ (t : Bool). not t || false) is
      named true c false clock sources is passes none = absurd (true≢false (sym passes))
      named false c t clock sources is passes none = none_mapped (clocks_within n es) none sources

      by : (e : Entity) → has_clock_one e ≡ true → ((v : ℕ) → list_any is_other (clocks_within n es v) ≡ false)
          → list_any is_other (clocks_by e (links (signal_links es) index) (clocks_within n es)) ≡ false
      by e passes none =
          named (is_input e.kind) (is_output e.kind) (e.clock == 1) e.clock (links (signal_links es) index) refl passes none

  none_differs : (index : ℕ) → breaks_u11 es index ≡ false
  unfolding breaks_u11 clocks_of
  none_differs index = by (is_input (at es index).kind) (is_output (at es index).kind) (at es index).clock (at_each es index all)
    where
      behind : List ℕ
      behind = clocks_within (length es) es index

      one : (clock : ℕ) → (clock == 1) ≡ true → 1 ≡ clock
      one clock same = grind arith

      by : (b c : Bool) (clock : ℕ) → (not (b || c) || clock == 1) ≡ true → (c && list_any (λ d. not (d == clock)) behind) ≡ false
      by b false clock passes = refl
      by true true clock passes =
          subst (λ (n : ℕ). list_any (λ d. not (d == n)) behind ≡ false) (one clock passes) (none_behind (length es) index)
      by false true clock passes =
          subst (λ (n : ℕ). list_any (λ d. not (d == n)) behind ≡ false) (one clock passes) (none_behind (length es) index)

  pub keeps_u11 : of_entity 11 es breaks_u11 ≡ None
  keeps_u11 = no_entity_breaks 11 es breaks_u11 (λ index below. none_differs index)
