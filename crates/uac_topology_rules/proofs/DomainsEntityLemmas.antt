-- One more entity that may name a clock.
use Rattle.std.proofs.Common.{◌≡◌, ◌<◌, ◌==◌, ◌&&◌, ltb, ℕ, zero, suc, ◌+◌, ◌-◌, Bool, true, false, not, if◌then◌else◌, List, [], ◌∷◌, ◌++◌, length, get_or, slice_index, take, refl, sym, ap, ◌∙◌, arith, inl, inr}
use Rattle.std.specs.List.{list_any, filter_map}
use Rattle.std.proofs.lemmas.Bool.{cases_eq, cases_Bool, lt-ltb}
use Rattle.std.proofs.lemmas.List.{append-nil, take_more, take-take, length-take-le, length_push, get_or_append_left, get_or_push}
use Rattle.std.proofs.lemmas.List.Elements.{filter_map-append}
use Rattle.uac_entities.specs.declared.entity.Entity.{Entity}
use Rattle.std.proofs.lemmas.Bool.Decides.{nat_tests}
use Rattle.uac_topology_rules.specs.Table.{at, nothing}
use Rattle.uac_topology_rules.specs.Links.{is_terminal}
use Rattle.uac_topology_rules.specs.Rules.{names_ninth}
use Rattle.uac_topology_rules.specs.Domains.{clock_named, each_once, names_new, with_named_clock, domains_of, IsDomains}
use Rattle.uac_topology_rules.proofs.DomainsLemmas.{each_once-push}

-- one more entity
pub domains_of-push : (es : List Entity) (e : Entity) → domains_of (es ++ e ∷ []) ≡ with_named_clock (domains_of es) e
unfolding domains_of clock_named with_named_clock names_new
domains_of-push es e =
    ap each_once (filter_map-append clock_named es (e ∷ [])) ∙ elim (cases_Bool (is_terminal e.kind)) [
      | inl names ↦
          rw names
          (each_once-push (filter_map clock_named es) e.clock
          ∙ swapped (list_any (λ c. c == e.clock) (each_once (filter_map clock_named es))) (each_once (filter_map clock_named es)) (each_once (filter_map clock_named es) ++ e.clock ∷ []))
      | inr silent ↦ rw silent (ap each_once (append-nil (filter_map clock_named es)))
    ]
  where
    swapped : (b : Bool) (xs ys : List ℕ) → (if b then xs else ys) ≡ (if not b then ys else xs)
    swapped true xs ys = refl
    swapped false xs ys = refl

pub domains_none : (clocks counts : List ℕ) → clocks ≡ [] → counts ≡ [] → IsDomains [] clocks counts
unfolding domains_of each_once
domains_none clocks counts e f =
    record { clocked = e; sized = ap (λ (xs : List ℕ). length xs) f; counted = λ k below. absurd (omega arith) }

pub domains_more : (es : List Entity) (k : ℕ) (e : Entity) (clocks counts clocks' : List ℕ) → k < length es → e ≡ get_or es k e →
    clocks' ≡ with_named_clock clocks e → IsDomains (take k es) clocks counts → IsDomains (take (k + 1) es) clocks' (counts ++ length clocks' ∷ [])
domains_more es k e clocks counts clocks' below is new h =
    let short : length (take k es) ≡ k = length-take-le k es (omega arith) in
    let longer : length (take (k + 1) es) ≡ k + 1 = length-take-le (k + 1) es (omega arith) in
    let grown : take (k + 1) es ≡ take k es ++ e ∷ [] = take_more es k e below ∙ ap (λ (x : Entity). take k es ++ x ∷ []) (sym is) in
    let now : clocks' ≡ domains_of (take (k + 1) es) =
    new ∙ ap (λ (cs : List ℕ). with_named_clock cs e) h.clocked ∙ sym (domains_of-push (take k es) e) ∙ ap domains_of (sym grown) in
    let sized : length counts ≡ k = h.sized ∙ short in
    record {
      clocked = now;
      sized = length_push counts (length clocks') ∙ (let r : length counts + 1 ≡ length (take (k + 1) es) = omega arith in r);
      counted = λ p in'.
          elim (cases_eq p k) [
            | inl s ↦
                get_or_push counts (length clocks') 0 p (sized ∙ sym s)
                ∙ ap (λ (cs : List ℕ). length cs) now
                ∙ ap (λ (xs : List Entity). length (domains_of xs)) (sym (take-take (k + 1) (k + 1) es (omega arith)))
                ∙ ap (λ (n : ℕ). length (domains_of (take (n + 1) (take (k + 1) es)))) (sym s)
            | inr n ↦
                (let less : p < k = omega arith in
                get_or_append_left counts (length clocks' ∷ []) 0 p (omega arith)
                ∙ h.counted p (omega arith)
                ∙ ap (λ (xs : List Entity). length (domains_of xs)) (take-take (p + 1) k es (omega arith) ∙ sym (take-take (p + 1) (k + 1) es (omega arith))))
          ];
    }

-- one more entity raises the count past eight where it names a ninth clock
past_eight : (cs : List ℕ) (e : Entity) (n m : ℕ) → n ≡ length cs → m ≡ length (with_named_clock cs e) →
    (n == 8 && ltb 8 m) ≡ (names_new cs e && length cs == 8)
unfolding with_named_clock
past_eight cs e n m few more =
    elim (cases_Bool (names_new cs e)) [
      | inl new ↦
          (let longer : m ≡ length cs + 1 = more ∙ rw new (length_push cs e.clock) in
          rw new (grind (arith, nat_tests, few, longer)))
      | inr old ↦
          (let same : m ≡ length cs = more ∙ rw old refl in
          rw old (grind (arith, nat_tests, few, same)))
    ]

none_before : (es : List Entity) (b : Bool) → (b && length (domains_of (take 0 es)) == 8) ≡ false
unfolding domains_of each_once
none_before es true = refl
none_before es false = refl

-- the counts show where the ninth clock is named first
pub ninth_is : (es : List Entity) (clocks counts : List ℕ) (index : ℕ) → IsDomains es clocks counts → index < length es →
    (ltb 0 index && (slice_index counts (index - 1) == 8 && ltb 8 (slice_index counts index))) ≡ names_ninth es index
unfolding names_ninth at
ninth_is es clocks counts zero h below = sym (none_before es (names_new (domains_of (take 0 es)) (get_or es 0 nothing)))
ninth_is es clocks counts (suc k) h below =
    let e : Entity = get_or es (suc k) nothing in
    let here : k + 1 ≡ suc k = omega arith in
    let before : slice_index counts k ≡ length (domains_of (take (suc k) es)) =
    h.counted k (omega arith) ∙ ap (λ (n : ℕ). length (domains_of (take n es))) here in
    let with' : slice_index counts (suc k) ≡ length (with_named_clock (domains_of (take (suc k) es)) e) =
    h.counted (suc k) below
    ∙ ap (λ (xs : List Entity). length (domains_of xs)) (take_more es (suc k) nothing below)
    ∙ ap (λ (cs : List ℕ). length cs) (domains_of-push (take (suc k) es) e) in
    ap (λ (n : ℕ). ltb 0 (suc k) && (slice_index counts n == 8 && ltb 8 (slice_index counts (suc k)))) (let q : suc k - 1 ≡ k = omega arith in q)
    ∙ rw (lt-ltb 0 (suc k) (omega arith)) (past_eight (domains_of (take (suc k) es)) e (slice_index counts k) (slice_index counts (suc k)) before with')
