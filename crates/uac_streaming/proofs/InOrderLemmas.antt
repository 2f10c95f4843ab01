-- The numbers of streaming interfaces, one after the other.
use Rattle.std.proofs.Common.{◌≡◌, ◌∙◌, sym, refl, ap, arith, ℕ, ◌+◌, Bool, true, false, cond, List, [], ◌∷◌, ◌++◌, map, filter, Option, Some, None, is_some, append-nil}
use Rattle.std.specs.List.{range_with_len}
use Rattle.std.specs.Option.{option_map}
use Rattle.uac_entities.specs.declared.stream.StreamInterface.{StreamInterface}
use Rattle.std.proofs.lemmas.List.FromFn.{filter_of_map_range_with_len_more}
use Rattle.uac_topology.specs.Function.{FunctionFields, interface_in}

as_they_are : (ns : List ℕ) → map (λ n. n) ns ≡ ns
as_they_are [] = refl
as_they_are (n ∷ ns) = ap (λ ms. n ∷ ms) (as_they_are ns)

-- one number more
pub one_more : (test : ℕ → Bool) (at : ℕ)
    → filter test (range_with_len 0 (at + 1)) ≡ filter test (range_with_len 0 at) ++ cond (test at) (at ∷ []) []
one_more test at =
    ap (filter test) (sym (as_they_are (range_with_len 0 (at + 1))))
    ∙ filter_of_map_range_with_len_more test (λ n. n) 0 at at (omega arith)
    ∙ ap (λ ns. filter test ns ++ cond (test at) (at ∷ []) []) (as_they_are (range_with_len 0 at))

some_mapped : {X Y : Type 0} (f : X → Y) (o : Option X) → is_some (option_map f o) ≡ is_some o
some_mapped f None = refl
some_mapped f (Some x) = refl

-- a number that is one of an interface, and one that isn't
pub number_there : {X : Type 0} (function : FunctionFields) (at : ℕ) (before after : List ℕ) (o : Option X) (seen : X → StreamInterface)
    → before ≡ filter (λ n. is_some (interface_in function n)) (range_with_len 0 at) → option_map seen o ≡ interface_in function at → is_some o ≡ true
    → after ≡ before ++ at ∷ [] → after ≡ filter (λ n. is_some (interface_in function n)) (range_with_len 0 (at + 1))
number_there function at before after o seen is looked there pushed =
    let passes : is_some (interface_in function at) ≡ true = ap is_some (sym looked) ∙ some_mapped seen o ∙ there in
    pushed ∙ ap (λ ns. ns ++ at ∷ []) is
    ∙ sym (one_more (λ n. is_some (interface_in function n)) at
    ∙ ap (λ (b : Bool). filter (λ n. is_some (interface_in function n)) (range_with_len 0 at) ++ cond b (at ∷ []) []) passes)

pub number_nowhere : {X : Type 0} (function : FunctionFields) (at : ℕ) (before : List ℕ) (o : Option X) (seen : X → StreamInterface)
    → before ≡ filter (λ n. is_some (interface_in function n)) (range_with_len 0 at) → option_map seen o ≡ interface_in function at → is_some o ≡ false
    → before ≡ filter (λ n. is_some (interface_in function n)) (range_with_len 0 (at + 1))
number_nowhere function at before o seen is looked none =
    let fails : is_some (interface_in function at) ≡ false = ap is_some (sym looked) ∙ some_mapped seen o ∙ none in
    is ∙ sym (append-nil (filter (λ n. is_some (interface_in function n)) (range_with_len 0 at)))
    ∙ sym (one_more (λ n. is_some (interface_in function n)) at
    ∙ ap (λ (b : Bool). filter (λ n. is_some (interface_in function n)) (range_with_len 0 at) ++ cond b (at ∷ []) []) fails)
