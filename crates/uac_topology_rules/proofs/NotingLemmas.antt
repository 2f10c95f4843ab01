-- The steps that note who names whom.
use Rattle.std.proofs.Common.{◌≡◌, ℕ, ◌+◌, ◌<◌, eqb, List, [], ◌∷◌, ◌++◌, length, get_or, map, take, set, inl, inr, sym, ap, ◌∙◌, arith}
use Rattle.std.proofs.lemmas.Bool.{cases_eq, eq-eqb, ne_eqb}
use Rattle.std.proofs.lemmas.List.{length-map, length-set, get_or-map, get_or-set_same, get_or-set_other, take_more}
use Rattle.uac_topology_rules.specs.Walk.{links}
use Rattle.uac_topology_rules.specs.Count.{times}
use Rattle.uac_topology_rules.specs.Noting.{IsNoted, IsNamedBy}
use Rattle.uac_topology_rules.proofs.CountLemmas.{times-push, one, one_same, one_other}

-- one more named node notes it
pub noted_more : (node : ℕ) (named : List ℕ) (old new : List (List ℕ)) (j : ℕ) (more : List ℕ) →
    j < length named → get_or named j 0 < length old → more ≡ get_or new (get_or named j 0) [] ++ node ∷ [] →
    IsNoted node (take j named) old new → IsNoted node (take (j + 1) named) old (set new (get_or named j 0) more)
noted_more node named old new j more below in' e h =
    let t = get_or named j 0 in
    record {
      sized = length-set new t more ∙ h.sized;
      noted = λ u v b.
          let taken : times u (take (j + 1) named) ≡ times u (take j named) + one (eqb t u) = rw (take_more named j 0 below) (times-push u (take j named) t) in
          let was = h.noted u v b in
          let pushed : times v more ≡ times v (get_or new t []) + one (eqb node v) = rw e (times-push v (get_or new t []) node) in
          elim (cases_eq u t) [
            | inl same ↦
                (let here : get_or (set new t more) u [] ≡ more = rw same (get_or-set_same new t more [] (omega (arith, h.sized))) in
                let there : get_or new u [] ≡ get_or new t [] = ap (λ i. get_or new i []) same in
                elim (cases_eq v node) [
                  | inl is ↦ rw (here, eq-eqb v node is) (omega (arith, pushed, taken, rw (there, eq-eqb v node is) at was, one_same t u (sym same), one_same node v (sym is)))
                  | inr not ↦ rw (here, ne_eqb v node not) (omega (arith, pushed, rw (there, ne_eqb v node not) at was, one_other node v (λ e. not (sym e))))
                ])
            | inr other ↦
                rw (get_or-set_other new t u more [] other)
                (elim (cases_eq v node) [
                  | inl is ↦ rw (eq-eqb v node is) (omega (arith, taken, rw (eq-eqb v node is) at was, one_other t u (λ e. other (sym e))))
                  | inr not ↦ rw (ne_eqb v node not) (omega (arith, rw (ne_eqb v node not) at was))
                ])
          ];
    }

-- before any node is asked, none is noted
pub named_none : (graph namers : List (List ℕ)) → namers ≡ map (λ (named : List ℕ). []) graph → IsNamedBy graph 0 namers
named_none graph namers is =
    let none_of : List ℕ → List ℕ = λ named. [] in
    record {
      sized = ap length is ∙ length-map graph none_of;
      named = λ u v b below. absurd (omega arith);
      none = λ u v b past. ap (times v) (ap (λ (all : List (List ℕ)). links all u) is ∙ get_or-map none_of graph u [] [] b);
    }

-- one more node has said whom it names
pub named_more : (graph namers namers' : List (List ℕ)) (i : ℕ) (named : List ℕ) → links graph i ≡ named →
    IsNoted i named namers namers' → IsNamedBy graph i namers → IsNamedBy graph (i + 1) namers'
named_more graph namers namers' i named e noted h =
    record {
      sized = noted.sized ∙ h.sized;
      named = λ u v b below.
          let now = noted.noted u v (omega (arith, h.sized)) in
          elim (cases_eq v i) [
            | inl is ↦
                (let here : times v (links namers' u) ≡ times v (links namers u) + times u named = rw (eq-eqb v i is) at now in
                let there : times u (links graph v) ≡ times u named = ap (times u) (ap (links graph) is ∙ e) in
                omega (arith, here, there, h.none u v b (omega arith)))
            | inr not ↦
                (let here : times v (links namers' u) ≡ times v (links namers u) + 0 = rw (ne_eqb v i not) at now in
                omega (arith, here, h.named u v b (omega arith)))
          ];
      none = λ u v b past.
          let now = noted.noted u v (omega (arith, h.sized)) in
          let here : times v (links namers' u) ≡ times v (links namers u) + 0 = rw (ne_eqb v i (λ e'. omega arith)) at now in
          omega (arith, here, h.none u v b (omega arith));
    }
