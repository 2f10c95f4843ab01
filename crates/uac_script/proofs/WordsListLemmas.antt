-- A list that grows by what the next word spells.
use Rattle.std.proofs.Common.{◌≡◌, ◌++◌, Bool, true, refl, List, [], ◌∷◌, map, ap, sym, ◌∙◌, append_assoc}
use Rattle.std.specs.List.{list_all}
use Rattle.std.proofs.lemmas.List.Folds.{list_all-append}
use Rattle.std.proofs.lemmas.Bool.{and_from}
use Rattle.uac_lines.specs.Words.{Word}

pub next_taken : {A : Type 0} (f : Word → A) (all done new : List A) (left rest : List Word) (word : Word) (x : A)
    → all ≡ done ++ map f left → left ≡ word ∷ rest → x ≡ f word → new ≡ done ++ x ∷ [] → all ≡ new ++ map f rest
next_taken f all done new left rest word x so_far next value pushed =
    so_far ∙ ap (λ l. done ++ map f l) next ∙ ap (λ y. done ++ (y ∷ map f rest)) (sym value)
    ∙ sym (append_assoc done (x ∷ []) (map f rest)) ∙ ap (λ l. l ++ map f rest) (sym pushed)

pub all_taken : {A : Type 0} (p : A → Bool) (done new : List A) (x : A) → list_all p done ≡ true → p x ≡ true → new ≡ done ++ x ∷ [] → list_all p new ≡ true
all_taken p done new x so_far last pushed =
    ap (list_all p) pushed ∙ list_all-append p done (x ∷ []) ∙ and_from _ _ so_far (and_from _ _ last refl)
