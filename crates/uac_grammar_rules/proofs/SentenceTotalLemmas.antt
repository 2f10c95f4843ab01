-- The two totals: a run that passes no end and does not stop short of it has the total's bytes.
use Rattle.std.proofs.Common.{◌≡◌, ℕ, ◌+◌, ◌≤◌, Bool, true, false, ◌&&◌, not, ltb, if◌then◌else◌, List, [], ◌∷◌, take, take_while, Some, None, refl, sym, ap, ◌∙◌, subst, inl, inr, arith, ltb-false, le-ltb, length-append, one-add}
use Rattle.std.specs.List.{prefix_len}
use Rattle.std.proofs.lemmas.Bool.{cases_Bool, cond-true, cond-false, and_right}
use Rattle.uac_descriptor.specs.declared.block.Block as block
use Rattle.uac_descriptor.specs.declared.block.Block.TheVariants as variant
use Rattle.uac_descriptor.specs.Spelling.{spelling}
use Rattle.uac_grammar_rules.specs.declared.states.Listing.TheVariants as state
use Rattle.uac_grammar_rules.specs.BlockRole.{role_of, is_listed}
use Rattle.uac_grammar_rules.specs.Grammar.{ends_before, list_end}
use Rattle.uac_grammar_rules.specs.Sentence.{spellings, size, HasWholeTotal}
use Rattle.uac_grammar_rules.proofs.SentenceListLemmas.{ListedTotal}
use Rattle.uac_grammar_rules.proofs.GrammarLemmas.{bytes_in, EndRun, ListRun}

-- the bytes of one block more
pub size-cons : (b : block.Block) (blocks : List block.Block) → size (b ∷ blocks) ≡ bytes_in b + size blocks
size-cons b blocks = length-append (spelling b) (spellings blocks)

-- once the end is known: the blocks reach it and do not pass it
end_exact : (end place : ℕ) (blocks : List block.Block) → place ≤ end → EndRun (Some end) place blocks → end ≡ place + size blocks
end_exact end place [] low run = let h : end ≤ place = ltb-false place end run in omega arith
end_exact end place (b ∷ blocks) low (passes, run) =
    let h : place + bytes_in b ≤ end = ltb-false end (place + bytes_in b) passes in
    let e : end ≡ place + bytes_in b + size blocks = end_exact end (place + bytes_in b) blocks h run in
    omega (arith, size-cons b blocks)

exact_end : (end place : ℕ) (blocks : List block.Block) → end ≡ place + size blocks → EndRun (Some end) place blocks
exact_end end place [] e = le-ltb place end (omega arith)
exact_end end place (b ∷ blocks) e =
    let h : end ≡ place + bytes_in b + size blocks = omega (arith, size-cons b blocks) in
    (le-ltb end (place + bytes_in b) (omega arith), exact_end end (place + bytes_in b) blocks h)

pub whole_total : (place : ℕ) (blocks : List block.Block) → EndRun None place blocks → HasWholeTotal blocks
whole_total place [] run = tt
whole_total place (variant.Configuration c ∷ blocks) (passes, run) =
    let b : block.Block = variant.Configuration c in
    let h : place + bytes_in b ≤ place + c.total = ltb-false (place + c.total) (place + bytes_in b) passes in
    let e : place + c.total ≡ place + bytes_in b + size blocks = end_exact (place + c.total) (place + bytes_in b) blocks h run in
    omega (arith, size-cons b blocks)
whole_total place (b ∷ blocks) (passes, run) = whole_total (place + bytes_in b) blocks run

pub total_whole : (place : ℕ) (blocks : List block.Block) → HasWholeTotal blocks → EndRun None place blocks
total_whole place [] h = refl
total_whole place (variant.Configuration c ∷ blocks) h =
    let b : block.Block = variant.Configuration c in
    let e : place + c.total ≡ place + bytes_in b + size blocks = omega (arith, size-cons b blocks) in
    (le-ltb (place + c.total) (place + bytes_in b) (omega arith), exact_end (place + c.total) (place + bytes_in b) blocks e)
total_whole place (b ∷ blocks) h = (refl, total_whole (place + bytes_in b) blocks h)

abbrev pub listed : block.Block → Bool
listed b = is_listed (role_of b)

-- the front of blocks that are listed, one step
front_listed : (b : block.Block) (blocks : List block.Block) → listed b ≡ true → take_while listed (b ∷ blocks) ≡ b ∷ take_while listed blocks
front_listed b blocks h =
    ap (λ n. take n (b ∷ blocks)) (cond-true (listed b) (1 + prefix_len listed blocks) 0 h ∙ one-add (prefix_len listed blocks))

front_unlisted : (b : block.Block) (blocks : List block.Block) → listed b ≡ false → take_while listed (b ∷ blocks) ≡ []
front_unlisted b blocks h = ap (λ n. take n (b ∷ blocks)) (cond-false (listed b) (1 + prefix_len listed blocks) 0 h)

-- after the list nothing is looked at
closed_run : (place : ℕ) (blocks : List block.Block) → ListRun state.Closed place blocks
closed_run place [] = refl
closed_run place (b ∷ blocks) = (refl, and_right (not (listed b)) false refl, closed_run (place + bytes_in b) blocks)

-- an open list, one block on: it goes on, or it ends here
abbrev OpenStep : ℕ → ℕ → block.Block → List block.Block → Bool → Type 0
OpenStep end place b blocks more =
    (ends_before (list_end (if more then state.Open end else state.Closed)) (place + bytes_in b) ≡ false)
    × ((not more && ltb place end) ≡ false)
    × ListRun (if more then state.Open end else state.Closed) (place + bytes_in b) blocks

list_exact : (end place : ℕ) (blocks : List block.Block) → place ≤ end → ListRun (state.Open end) place blocks → end ≡ place + size (take_while listed blocks)
list_exact end place [] low run = let h : end ≤ place = ltb-false place end run in omega arith
list_exact end place (b ∷ blocks) low run =
    elim (cases_Bool (listed b)) [
      | inl h ↦ (
          let (passes, early, rest) = subst (OpenStep end place b blocks) h run in
          let fits : place + bytes_in b ≤ end = ltb-false end (place + bytes_in b) passes in
          let e : end ≡ place + bytes_in b + size (take_while listed blocks) = list_exact end (place + bytes_in b) blocks fits rest in
          omega (arith, size-cons b (take_while listed blocks), ap size (front_listed b blocks h)))
      | inr h ↦ (
          let (passes, early, rest) = subst (OpenStep end place b blocks) h run in
          let there : end ≤ place = ltb-false place end early in
          omega (arith, ap size (front_unlisted b blocks h)))
    ]

exact_list : (end place : ℕ) (blocks : List block.Block) → end ≡ place + size (take_while listed blocks) → ListRun (state.Open end) place blocks
exact_list end place [] e = le-ltb place end (omega arith)
exact_list end place (b ∷ blocks) e =
    elim (cases_Bool (listed b)) [
      | inl h ↦ (
          let e' : end ≡ place + bytes_in b + size (take_while listed blocks) =
          omega (arith, size-cons b (take_while listed blocks), ap size (front_listed b blocks h)) in
          subst (OpenStep end place b blocks) (sym h)
          (le-ltb end (place + bytes_in b) (omega arith), refl, exact_list end (place + bytes_in b) blocks e'))
      | inr h ↦ (
          let e' : end ≡ place = omega (arith, ap size (front_unlisted b blocks h)) in
          subst (OpenStep end place b blocks) (sym h)
          (refl, le-ltb place end (omega arith), closed_run (place + bytes_in b) blocks))
    ]

pub list_total : (place : ℕ) (blocks : List block.Block) → ListRun state.Awaited place blocks → ListedTotal blocks
list_total place [] run = tt
list_total place (variant.Header h ∷ blocks) (passes, early, run) =
    let b : block.Block = variant.Header h in
    let fits : place + bytes_in b ≤ place + h.total = ltb-false (place + h.total) (place + bytes_in b) passes in
    let e : place + h.total ≡ place + bytes_in b + size (take_while listed blocks) = list_exact (place + h.total) (place + bytes_in b) blocks fits run in
    omega (arith, size-cons b (take_while listed blocks))
list_total place (b ∷ blocks) (passes, early, run) = list_total (place + bytes_in b) blocks run

pub total_list : (place : ℕ) (blocks : List block.Block) → ListedTotal blocks → ListRun state.Awaited place blocks
total_list place [] h = refl
total_list place (variant.Header h ∷ blocks) e =
    let b : block.Block = variant.Header h in
    let e' : place + h.total ≡ place + bytes_in b + size (take_while listed blocks) = omega (arith, size-cons b (take_while listed blocks)) in
    (le-ltb (place + h.total) (place + bytes_in b) (omega arith), refl, exact_list (place + h.total) (place + bytes_in b) blocks e')
total_list place (b ∷ blocks) h = (refl, and_right (not (listed b)) false refl, total_list (place + bytes_in b) blocks h)
