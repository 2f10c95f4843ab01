-- From what words come to, to what the arguments of the process do.
use Rattle.std.proofs.Common.{◌≡◌, ℕ, inr, true, List, [], drop, map, Option, Result, Ok, Err, IfErr, IfOk, refl, ap, subst, ◌∙◌}
use Rattle.std.specs.Prelude.{string_bytes}
use Rattle.std.specs.Io.KnownBytes.{IsAtEnd}
use Rattle.std.specs.Vec.Iter.{into_iter_items}
use Rattle.std.specs.declared.string.String.{String}
use Rattle.std.specs.declared.vec.IntoIter.{IntoIter}
use Rattle.uac_words.specs.declared.commands.Invocation.{Invocation}
use Rattle.uac_words.specs.Plain.{plainly}
use Rattle.uac_ends.specs.declared.status.Status.{Status}
use Rattle.uac_ends.specs.declared.status.Status.TheVariants as statuses
use Rattle.uac_ends.specs.Closing.{Closes}
use Rattle.uac_ends.specs.Outcome.{no_memory}
use Rattle.uac_ends.specs.Outside.{Outside, outside}
use Rattle.uac_call.specs.Call.{ask_to_read}
use Rattle.uac_boxes.specs.Boxes.{IsCompleteFreshCall, IsFreshCall, fresh_readings}
use Rattle.uac_cli.specs.Program.{asked_by}

-- the words after the name ask for what the arguments ask for
pub asked_words : {X Z E : Type 0} (args : Result (IntoIter (String X) Z) E) (words lent : List (String X)) → lent ≡ words
    → IfOk args (λ all. words ≡ drop 1 (into_iter_items all)) → IfErr args (λ _. words ≡ []) → plainly (map (λ word. string_bytes word) lent) ≡ asked_by args
asked_words {X} (Ok all) words lent same given none = ap (λ (ws : List (String X)). plainly (map (λ word. string_bytes word) ws)) (same ∙ given)
asked_words {X} (Err error) words lent same given none = ap (λ (ws : List (String X)). plainly (map (λ word. string_bytes word) ws)) (same ∙ none)

pub call_asked : (asked asked' : Option Invocation) (before after : Outside) (status : Status) → asked ≡ asked' → IsFreshCall asked before after status → IsFreshCall asked' before after status
call_asked asked asked' before after status same call = subst (λ (x : Option Invocation). IsFreshCall x before after status) same call

pub whole_asked : (asked asked' : Option Invocation) (before after : Outside) (status : Status) → asked ≡ asked' → IsCompleteFreshCall asked before after status
    → IsCompleteFreshCall asked' before after status
whole_asked asked asked' before after status same whole = subst (λ (x : Option Invocation). IsCompleteFreshCall x before after status) same whole

-- the same of what is left at Ok
pub end_asked : (asked asked' : Option Invocation) (left : Option (List ℕ)) (status : Status) → asked ≡ asked' → (status ≡ statuses.Ok → ask_to_read asked ≡ true → IsAtEnd left)
    → status ≡ statuses.Ok → ask_to_read asked' ≡ true → IsAtEnd left
end_asked asked asked' left status same at_end = subst (λ (x : Option Invocation). status ≡ statuses.Ok → ask_to_read x ≡ true → IsAtEnd left) same at_end

-- nothing was taken and nothing written before `no memory` was
pub call_unread : (asked : Option Invocation) (left left' : Option (List ℕ)) (reads reads' : ℕ) (w mid w' : Option (List ℕ)) (f between f' : ℕ) (status : Status)
    → left' ≡ left → reads' ≡ reads → mid ≡ w → between ≡ f → Closes no_memory mid w' between f' status → IsFreshCall asked (outside left reads w f) (outside left' reads' w' f') status
call_unread asked left left' reads reads' w mid w' f between f' status taken read kept quiet closed = record {
  shown' = fresh_readings;
  call = inr (record {
    closed = subst (λ (x : Option (List ℕ)). Closes no_memory x w' f f' status) kept (subst (λ (n : ℕ). Closes no_memory mid w' n f' status) quiet closed);
    untouched = record { left = taken; reads = read };
    unheard = refl;
  });
}
