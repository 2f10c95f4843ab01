use denote.Param.Object.{read_made}
use Rattle.std.proofs.Common.{◌≡◌, ℕ, refl, ap, subst, ◌∙◌, map, List, [], ◌∷◌, ◌++◌, Option}
use Rattle.uac_units.specs.Hearing.{Reading}
use Rattle.uac_units.specs.declared.meter.MeterKind.TheVariants.{Peak, Clipped, Sum}
use Rattle.uac_words.specs.declared.commands.Invocation.{Invocation}
use Rattle.uac_ends.specs.declared.status.Status.{Status}
use Rattle.uac_ends.specs.Outside.{Outside, outside}
use Rattle.uac_scripts.specs.Surroundings.{surroundings}
use Rattle.uac_call.specs.Call.{IsCall}
use Rattle.uac_call.specs.Completeness.{IsCompleteCall}
use Rattle.uac_boxes.specs.Boxes.{IsCompleteFreshCall, IsFreshCall, fresh_readings}
use Rattle.uac_boxes.proofs.boxes.run_with_racks.OwnLists as lists
use Rattle.uac_boxes.proofs.boxes.run_with_racks.Goals as goal

-- three boxes were pushed one after the other, each with its reading
pushed : {B : Type 0} (read : B → Reading) (l0 l1 l2 l3 : List B) (a b c : B) (ra rb rc : Reading) → l0 ≡ [] → l1 ≡ l0 ++ (a ∷ []) → l2 ≡ l1 ++ (b ∷ []) → l3 ≡ l2 ++ (c ∷ [])
    → read a ≡ ra → read b ≡ rb → read c ≡ rc → map read l3 ≡ ra ∷ rb ∷ rc ∷ []
pushed {B} read l0 l1 l2 l3 a b c ra rb rc e0 e1 e2 e3 pa pb pc =
    ap (λ (xs : List B). map read xs) (e3 ∙ ap (λ (xs : List B). xs ++ (c ∷ [])) (e2 ∙ ap (λ (xs : List B). xs ++ (b ∷ [])) (e1 ∙ ap (λ (xs : List B). xs ++ (a ∷ [])) e0)))
    ∙ ap (λ (x : Reading). x ∷ read b ∷ read c ∷ []) pa
    ∙ ap (λ (x : Reading). ra ∷ x ∷ read c ∷ []) pb
    ∙ ap (λ (x : Reading). ra ∷ rb ∷ x ∷ []) pc

-- the meters had heard nothing
from_fresh : (words : Option Invocation) (shown shown' : List Reading) (before after : Outside) (status : Status) → shown ≡ fresh_readings
    → IsCall words (surroundings before shown) (surroundings after shown') status → IsFreshCall words before after status
from_fresh words shown shown' before after status same call = record {
  shown' = shown';
  call = subst (λ (s : List Reading). IsCall words (surroundings before s) (surroundings after shown') status) same call;
}

-- the same of what the whole input comes to
whole_fresh : (words : Option Invocation) (shown shown' : List Reading) (before after : Outside) (status : Status) → shown ≡ fresh_readings
    → IsCompleteCall words (surroundings before shown) (surroundings after shown') status → IsCompleteFreshCall words before after status
whole_fresh words shown shown' before after status same complete =
    subst (λ (s : List Reading). IsCompleteCall words (surroundings before s) (surroundings after shown') status) same complete

pub returns-clause-run : goal.returns-clause-run
returns-clause-run g c =
    let peak : (lists.own-2.entry c.into_dyn_box.result.vtable).1.reading_of c.into_dyn_box.result.value ≡ record { kind = Peak; value = 0 } =
    read_made lists.own-2 (lists.own-2.entry lists.at-2-1) lists.at-2-1 refl Reading (λ j. j.1.reading_of) _ _ _ c.into_dyn_box.ensures.1
    ∙ ap (λ m. (lists.own-2.entry lists.at-2-1).1.reading_of m) c.in_ok-new.ensures.ok ∙ c.new.ensures in
    let second = c.into_dyn_box-in_ok-new-2 in
    let clipped : (lists.own-2.entry second.result.vtable).1.reading_of second.result.value ≡ record { kind = Clipped; value = 0 } =
    read_made lists.own-2 (lists.own-2.entry lists.at-2-2) lists.at-2-2 refl Reading (λ j. j.1.reading_of) _ _ _ second.ensures.1
    ∙ ap (λ m. (lists.own-2.entry lists.at-2-2).1.reading_of m) c.in_ok-new-2.ensures.ok ∙ c.new-3.ensures in
    let third = c.into_dyn_box-in_ok-new-3 in
    let sum : (lists.own-2.entry third.result.vtable).1.reading_of third.result.value ≡ record { kind = Sum; value = 0 } =
    read_made lists.own-2 (lists.own-2.entry lists.at-2-3) lists.at-2-3 refl Reading (λ j. j.1.reading_of) _ _ _ third.ensures.1
    ∙ ap (λ m. (lists.own-2.entry lists.at-2-3).1.reading_of m) c.in_ok-new-3.ensures.ok ∙ c.new-5.ensures in
    let fresh = c.new-meters.ensures ∙ pushed (λ b. (lists.own-2.entry b.vtable).1.reading_of b.value) c.new-list.result.items c.push.new.self.items c.push-2.new.self.items c.push-3.new.self.items c.into_dyn_box.result c.into_dyn_box-in_ok-new-2.result c.into_dyn_box-in_ok-new-3.result _ _ _
    c.new-list.ensures.items c.in_ok-push.ensures.items c.in_ok-push-2.ensures.items c.in_ok-push-3.ensures.items peak clipped sum in
    record {
      call = from_fresh _ _ _ _ _ _ fresh c.uac_main.ensures.call;
      read_fault = c.uac_main.ensures.read_fault;
      write_fault = c.uac_main.ensures.write_fault;
      faultless = c.uac_main.ensures.faultless;
      ok = c.uac_main.ensures.ok;
      complete =
          whole_fresh _ _ fresh_readings _
          (outside (g.S.Source.left c.uac_main.new.source) (g.S.Source.faults c.uac_main.new.source)
          (g.K.Sink.written c.uac_main.new.sink) (g.K.Sink.faults c.uac_main.new.sink))
          _ fresh c.uac_main.ensures.complete;
      handed_on = c.uac_main.ensures.handed_on;
    }
