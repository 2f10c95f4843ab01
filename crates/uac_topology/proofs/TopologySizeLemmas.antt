-- A sound function has at most eight domains and at most eight streaming interfaces.
use Rattle.std.proofs.Common.{◌≡◌, ◌≢◌, ◌∙◌, sym, ap, subst, refl, arith, ℕ, zero, suc, ◌+◌, ◌<◌, ◌≤◌, ◌==◌, ◌&&◌, Bool, true, false, if◌then◌else◌, List, [], ◌∷◌, ◌++◌, None, length, take, inl, inr}
use Rattle.std.proofs.lemmas.Bool.{cases_lt, eqb-false, or_parts}
use Rattle.std.proofs.lemmas.List.{length_push, take_all, take_more}
use Rattle.uac_entities.specs.Entities.{entities_of}
use Rattle.uac_entities.specs.declared.entity.Entity.{Entity}
use Rattle.uac_entities.specs.declared.stream.StreamInterface.{StreamInterface}
use Rattle.uac_topology_rules.specs.Domains.{domains_of, each_once, names_new, with_named_clock}
use Rattle.uac_topology_rules.specs.RuleFaults.{of_interface}
use Rattle.uac_topology_rules.specs.Rules.{breaks_u14, exceeds, names_ninth}
use Rattle.uac_topology_rules.specs.Table.{at, nothing}
use Rattle.uac_topology_rules.proofs.DomainsEntityLemmas.{domains_of-push}
use Rattle.uac_topology.specs.Function.{FunctionFields}
use Rattle.uac_topology.specs.Topology.{IsSoundFunction, streams_in}
use Rattle.uac_topology.proofs.TopologyRuleLemmas.{no_interface, rules_hold, streams_within}

-- a clock more, where it is not the ninth
one_more : (new : Bool) (clocks : List ℕ) (clock : ℕ) → length clocks ≤ 8 → (new && length clocks == 8) ≡ false
    → length (if new then clocks ++ clock ∷ [] else clocks) ≤ 8
one_more true clocks clock few ninth =
    let fewer : length clocks ≢ 8 = eqb-false (length clocks) 8 ninth in
    let longer : length (clocks ++ clock ∷ []) ≡ length clocks + 1 = length_push clocks clock in
    omega arith
one_more false clocks clock few ninth = few

-- the first n entities have at most eight domains
few_domains : (es : List Entity) (n : ℕ) → ((k : ℕ) → k < length es → names_ninth es k ≡ false) → n ≤ length es → length (domains_of (take n es)) ≤ 8
unfolding domains_of each_once with_named_clock names_ninth at
few_domains es zero ninth within = let none : length (domains_of (take zero es)) ≡ 0 = refl in omega arith
few_domains es (suc k) ninth within =
    let below : k < length es = omega arith in
    let next : k + 1 ≡ suc k = omega arith in
    let before = domains_of (take k es) in
    let grown : domains_of (take (suc k) es) ≡ with_named_clock before (at es k) =
    ap (λ (m : ℕ). domains_of (take m es)) (sym next) ∙ ap domains_of (take_more es k nothing below) ∙ domains_of-push (take k es) (at es k) in
    subst (λ (clocks : List ℕ). length clocks ≤ 8) (sym grown)
    (one_more (names_new before (at es k)) before (at es k).clock (few_domains es k ninth (omega arith)) (ninth k below))

few_streams : (ss : List StreamInterface) → of_interface 14 ss exceeds ≡ None → length ss ≤ 8
unfolding exceeds
few_streams ss none =
    elim (cases_lt 8 (length ss)) [
      | inl ninth ↦ absurd (let e : true ≡ false = no_interface 14 ss exceeds none 8 ninth in cc)
      | inr few ↦ few
    ]

pub small : (function : FunctionFields) → IsSoundFunction function → (length function.domains ≤ 8) × (length function.streams ≤ 8)
unfolding breaks_u14
small function sound =
    let blocks = sound.0 in
    let es = entities_of blocks in
    let ninth : (k : ℕ) → k < length es → names_ninth es k ≡ false = λ k below. (or_parts _ _ ((rules_hold blocks sound.1).u14 k below)).1 in
    let few : length (domains_of es) ≤ 8 =
    subst (λ (xs : List Entity). length (domains_of xs) ≤ 8) (take_all (length es) es (omega arith)) (few_domains es (length es) ninth (omega arith)) in (
      subst (λ (clocks : List ℕ). length clocks ≤ 8) (sym sound.2.domains) few,
      subst (λ (ss : List StreamInterface). length ss ≤ 8) (sym sound.2.streams) (few_streams (streams_in blocks) (streams_within blocks sound.1)),
    )
