-- After lines, the value of each element is known or unknown as was told of it last.
use Rattle.std.proofs.Common.{◌≡◌, ◌∙◌, refl, sym, ap, subst, ℕ, Bool, true, List, [], ◌∷◌, length, map, rules, Option, None, Some, is_some, unwrap_or, option_map, option_and_then, Result, Ok, Err}
use Rattle.std.specs.List.{AllByRecursion, AllZip, cons_option}
use Rattle.std.proofs.lemmas.List.Elements.{All-from_recursion}
use Rattle.uac_descriptor.specs.BlockParsing.{AreBytes}
use Rattle.uac_mixer.specs.MixerElements.{fits_element, with_no_value}
use Rattle.uac_mixer.specs.ViewTransfers.{is_for}
use Rattle.uac_mixer.specs.declared.element.Element.{Element}
use Rattle.uac_script.specs.Phrase.{Phrase, nothing_line, bytes_line, go_line, control_line, get_line, set_line, show_line, break_line, append_line, track_line, jack_line, deviate_line, microframes_line, detail_line, report_line}
use Rattle.uac_script.specs.LineParsing.{answer}
use Rattle.uac_request.specs.Requests.{setup_of}
use Rattle.uac_running.specs.RunningWorld.{RunningWorld, with_detail, with_deviation, with_samples_on, with_jack_tone, with_track}
use Rattle.uac_running.specs.RunningNames.{are_frames, natural_of_int}
use Rattle.uac_running.specs.Events.{microframes}
use Rattle.uac_running.specs.RunningTransfers.{element_named, read_element, set_element, show_element, transfer, with_break}
use Rattle.uac_fault.specs.declared.fault.BusFault.{BusFault}
use Rattle.uac_rows.specs.BusWorld.{Step, BusWorld, describing, done, on_element, refused, running, silently, start, step, step_running, step_telling, tone_of, unless}
use Rattle.uac_rows.specs.After.{after, and_then, said_step}
use Rattle.uac_promises.specs.Unknown.{ElementsStay, Transfer, ValuesAreKnownAsTold, elements_in, get_by, if_done, last_or, set_by, reveals, reveals_in, knowledge_after, transfer_of}
use Rattle.uac_promises.proofs.ScriptsStartLemmas.{feeds_bytes}
use Rattle.uac_promises.proofs.ScriptsEarlierLemmas.{on_element_is, unless_is}
use Rattle.uac_units.specs.Hearing.{Reading}
use Rattle.uac_promises.proofs.BelievedWorldLemmas.{Begins}
use Rattle.uac_promises.proofs.BelievedStartLemmas.{describing_begins}
use Rattle.uac_promises.proofs.BelievedMicroframeLemmas.{microframes_view}
use Rattle.uac_promises.proofs.UnknownTransferLemmas.{IsToldOf, none_told, transfer_told}

-- ---- a line of a running device

-- what a line reveals of each of these elements is what becomes of it; and the device runs on
abbrev Reveals : (Element → Option Bool) → List Element → Step → Type 0
Reveals step_telling xs (done (running r) lines) = AllZip (λ x y. IsToldOf (step_telling x) x y) xs r.view.elements
Reveals step_telling xs (done (describing bytes meters) lines) = ⊥
Reveals step_telling xs (refused fault) = Unit {0}

abbrev RevealsNone : List Element → Step → Type 0
RevealsNone xs s = Reveals (λ x. None) xs s

refused_reveals : (step_telling : Element → Option Bool) (xs : List Element) (fault : BusFault) → Reveals step_telling xs (refused fault)
refused_reveals step_telling xs fault = tt

reveals_unless : (step_telling : Element → Option Bool) (xs : List Element) (b : Bool) (rule : ℕ) (s : Step) → Reveals step_telling xs s
    → Reveals step_telling xs (unless b rule s)
reveals_unless step_telling xs = unless_is (Reveals step_telling xs) (refused_reveals step_telling xs)

-- a line that names an element
reveals_on : (r : RunningWorld) (o : Option Element) (made : Element → Transfer) (of : Element → Step)
    → ((x : Element) → Reveals (λ y. reveals r y (made x)) r.view.elements (of x))
    → Reveals (λ y. option_and_then (reveals r y) (option_map made o)) r.view.elements (on_element o of)
reveals_on r None made of each = tt
reveals_on r (Some x) made of each = each x

running_reveals : (r : RunningWorld) (phrase : Phrase) → Reveals (reveals_in (running r) (Ok phrase)) r.view.elements (step_running r phrase)
unfolding transfer read_element set_element show_element with_break with_samples_on with_track with_jack_tone with_detail with_deviation
running_reveals r nothing_line = none_told r.view.elements
running_reveals r (bytes_line more) = tt
running_reveals r go_line = tt
running_reveals r (control_line setup sent) = transfer_told r (record { setup = setup_of setup; sent = sent })
running_reveals r (get_line name) =
    reveals_on r (element_named r name) (get_by r) (λ x. step_telling (read_element x r)) (λ x. transfer_told r (get_by r x))
running_reveals r (set_line name value) =
    reveals_on r (element_named r name) (set_by value r) (λ x. unless (fits_element x.kind value) 7 (step_telling (set_element x value r)))
    (λ x. reveals_unless (λ y. reveals r y (set_by value r x)) r.view.elements (fits_element x.kind value) 7 (step_telling (set_element x value r))
    (transfer_told r (set_by value r x)))
running_reveals r (show_line name) =
    on_element_is (RevealsNone r.view.elements) (refused_reveals (λ x. None) r.view.elements) (element_named r name)
    (λ x. step_telling (show_element x r)) (λ x. none_told r.view.elements)
running_reveals r (break_line later) = none_told r.view.elements
running_reveals r (append_line number samples) =
    reveals_unless (λ x. None) r.view.elements _ 6
    (unless (are_frames r.device.function (natural_of_int number) (length samples)) 7
    (silently (running (with_samples_on (natural_of_int number) samples r))))
    (reveals_unless (λ x. None) r.view.elements _ 7 (silently (running (with_samples_on (natural_of_int number) samples r)))
    (none_told r.view.elements))
running_reveals r (track_line number tone) =
    reveals_unless (λ x. None) r.view.elements _ 6 (silently (running (with_track (natural_of_int number) (tone_of tone) r)))
    (none_told r.view.elements)
running_reveals r (jack_line terminal tone) =
    reveals_unless (λ x. None) r.view.elements _ 6 (silently (running (with_jack_tone (natural_of_int terminal) (tone_of tone) r)))
    (none_told r.view.elements)
running_reveals r (deviate_line clock ppm) =
    reveals_unless (λ x. None) r.view.elements _ 6 (silently (running (with_deviation (natural_of_int clock) ppm r)))
    (none_told r.view.elements)
running_reveals r (microframes_line count marks) =
    reveals_unless (λ x. None) r.view.elements _ 6 (step_telling (microframes marks (natural_of_int count) r))
    (subst (λ v. AllZip (λ x y. IsToldOf None x y) r.view.elements v.elements) (sym (microframes_view marks (natural_of_int count) r))
    (none_told r.view.elements))
running_reveals r (detail_line level) = none_told r.view.elements
running_reveals r report_line = none_told r.view.elements

said_reveals : (r : RunningWorld) (said : Result Phrase ℕ) → Reveals (reveals_in (running r) said) r.view.elements (said_step said (running r))
unfolding step
said_reveals r (Ok phrase) = running_reveals r phrase
said_reveals r (Err rule) = tt

-- ---- what is told of an element is told of its key and kind

reveals_over : (r : RunningWorld) (x : Element) (o : Option Transfer) → option_and_then (reveals r (with_no_value x)) o ≡ option_and_then (reveals r x) o
unfolding reveals is_for
reveals_over r x None = refl
reveals_over r x (Some t) = refl

reveals_unread : (w : BusWorld) (said : Result Phrase ℕ) (x : Element) → reveals_in w said (with_no_value x) ≡ reveals_in w said x
reveals_unread (describing bytes meters) said x = refl
reveals_unread (running r) (Ok phrase) x = reveals_over r x (transfer_of phrase r)
reveals_unread (running r) (Err rule) x = refl

told_unread : (saids : List (Result Phrase ℕ)) (w : BusWorld) (x : Element) → knowledge_after saids w (with_no_value x) ≡ knowledge_after saids w x
unfolding knowledge_after
told_unread [] w x = refl
told_unread (said ∷ saids) w x = by (said_step said w) (told_unread saids)
  where
    by : (s : Step) → ((next : BusWorld) (y : Element) → knowledge_after saids next (with_no_value y) ≡ knowledge_after saids next y)
        → if_done s (λ next. cons_option (reveals_in w said (with_no_value x)) (knowledge_after saids next (with_no_value x)))
        ≡ if_done s (λ next. cons_option (reveals_in w said x) (knowledge_after saids next x))
    by (done next lines) rest = (λ j. cons_option (reveals_unread w said x j) (rest next x j))
    by (refused fault) rest = refl

told_same : (saids : List (Result Phrase ℕ)) (w : BusWorld) (x y : Element) → with_no_value y ≡ with_no_value x → knowledge_after saids w y ≡ knowledge_after saids w x
told_same saids w x y same = sym (told_unread saids w y) ∙ ap (knowledge_after saids w) same ∙ told_unread saids w x

-- ---- lines in a row

-- what becomes of an element after lines
record IsLeft (saids : List (Result Phrase ℕ)) (r : RunningWorld) (x y : Element) : Type 0 where
  pub same : with_no_value y ≡ with_no_value x
  pub known : is_some y.value ≡ last_or (is_some x.value) (knowledge_after saids (running r) x)

-- the elements after lines are those before them, each left as was told of it
abbrev AreLeft : List (Result Phrase ℕ) → RunningWorld → BusWorld → Type 0
AreLeft saids r (running last) = AllZip (IsLeft saids r) r.view.elements last.view.elements
AreLeft saids r (describing bytes meters) = ⊥

zip_itself : {X : Type 0} (R : X → X → Type 0) (xs : List X) → ((x : X) → R x x) → AllZip R xs xs
zip_itself R [] each = tt
zip_itself R (x ∷ xs) each = (each x, zip_itself R xs each)

zip_both : {X : Type 0} (R S T : X → X → Type 0) → ((x y z : X) → R x y → S y z → T x z) → (xs ys zs : List X)
    → AllZip R xs ys → AllZip S ys zs → AllZip T xs zs
zip_both R S T both [] [] [] one next = tt
zip_both R S T both [] [] (z ∷ zs) one next = absurd next
zip_both R S T both [] (y ∷ ys) zs one next = absurd one
zip_both R S T both (x ∷ xs) [] zs one next = absurd one
zip_both R S T both (x ∷ xs) (y ∷ ys) [] one next = absurd next
zip_both R S T both (x ∷ xs) (y ∷ ys) (z ∷ zs) one next = (both x y z one.0 next.0, zip_both R S T both xs ys zs one.1 next.1)

pub last_cons : (o : Option Bool) (known : Bool) (rest : List Bool) → last_or known (cons_option o rest) ≡ last_or (unwrap_or o known) rest
unfolding last_or
last_cons None known rest = refl
last_cons (Some step_telling) known rest = refl

left_following : (saids : List (Result Phrase ℕ)) (r : RunningWorld) → AreLeft saids r (after saids (running r)).world
unfolding after knowledge_after last_or
left_following [] r = zip_itself (IsLeft [] r) r.view.elements (λ x. record { same = refl; known = refl })
left_following (said ∷ saids) r = by (said_step said (running r)) refl (said_reveals r said) (left_following saids)
  where
    -- the last that this line, which makes this step, and those after it tell of an element
    last_in : Element → Step → Bool
    last_in x s = last_or (is_some x.value) (if_done s (λ w. cons_option (reveals_in (running r) said x) (knowledge_after saids w x)))

    by : (s : Step) → said_step said (running r) ≡ s → Reveals (reveals_in (running r) said) r.view.elements s
        → ((next : RunningWorld) → AreLeft saids next (after saids (running next)).world)
        → AreLeft (said ∷ saids) r (and_then s (running r) (after saids)).world
    by (done (describing bytes meters) lines) is reveals rest = absurd reveals
    by (refused fault) is reveals rest =
        zip_itself (IsLeft (said ∷ saids) r) r.view.elements
        (λ x. record {
          same = refl;
          known = sym (ap (last_in x) is);
        })
    by (done (running next) lines) is reveals rest = onward (after saids (running next)).world (rest next)
      where
        both : (x y z : Element) → IsToldOf (reveals_in (running r) said x) x y → IsLeft saids next y z → IsLeft (said ∷ saids) r x z
        both x y z one left = record {
          same = left.same ∙ one.same;
          known =
              left.known
              ∙ ap (λ (known : Bool). last_or known (knowledge_after saids (running next) y)) one.known
              ∙ ap (last_or (unwrap_or (reveals_in (running r) said x) (is_some x.value))) (told_same saids (running next) x y one.same)
              ∙ sym (last_cons (reveals_in (running r) said x) (is_some x.value) (knowledge_after saids (running next) x))
              ∙ sym (ap (last_in x) is);
        }

        onward : (last : BusWorld) → AreLeft saids next last → AreLeft (said ∷ saids) r last
        onward (describing bytes meters) left = absurd left
        onward (running last) left =
            zip_both (λ x y. IsToldOf (reveals_in (running r) said x) x y) (IsLeft saids next) (IsLeft (said ∷ saids) r) both r.view.elements
            next.view.elements last.view.elements reveals left

-- ---- the elements stay

zip_maps : {X Y : Type 0} (f : X → Y) (R : X → X → Type 0) → ((x y : X) → R x y → f y ≡ f x) → (xs ys : List X) → AllZip R xs ys
    → map f ys ≡ map f xs
zip_maps f R each [] [] all = refl
zip_maps f R each [] (y ∷ ys) all = absurd all
zip_maps f R each (x ∷ xs) [] all = absurd all
zip_maps f R each (x ∷ xs) (y ∷ ys) all = (λ j. each x y all.0 j ∷ zip_maps f R each xs ys all.1 j)

pub elements_stay : ElementsStay
elements_stay saids r = by (after saids (running r)).world (left_following saids r)
  where
    by : (last : BusWorld) → AreLeft saids r last → map with_no_value (elements_in last) ≡ map with_no_value r.view.elements
    by (describing bytes meters) left = absurd left
    by (running last) left = zip_maps with_no_value (IsLeft saids r) (λ x y is. is.same) r.view.elements last.view.elements left

-- ---- from the start on

-- each element is known or unknown as was told of it last, and known where nothing was
abbrev AreKnown : List (Result Phrase ℕ) → BusWorld → BusWorld → Type 0
AreKnown saids w last = AllByRecursion (λ (x : Element). is_some x.value ≡ last_or true (knowledge_after saids w x)) (elements_in last)

zip_known : (saids : List (Result Phrase ℕ)) (r : RunningWorld) (xs ys : List Element)
    → AllByRecursion (λ (x : Element). is_some x.value ≡ true) xs
    → AllZip (IsLeft saids r) xs ys → AllByRecursion (λ (y : Element). is_some y.value ≡ last_or true (knowledge_after saids (running r) y)) ys
zip_known saids r [] [] known left = tt
zip_known saids r [] (y ∷ ys) known left = absurd left
zip_known saids r (x ∷ xs) [] known left = absurd left
zip_known saids r (x ∷ xs) (y ∷ ys) known left = (
  left.0.known ∙ ap (λ (b : Bool). last_or b (knowledge_after saids (running r) x)) known.0
      ∙ ap (last_or true) (sym (told_same saids (running r) x y left.0.same)),
  zip_known saids r xs ys known.1 left.1,
)

begun_known : (saids : List (Result Phrase ℕ)) (r : RunningWorld) → AllByRecursion (λ (x : Element). is_some x.value ≡ true) r.view.elements
    → AreKnown saids (running r) (after saids (running r)).world
begun_known saids r known = by (after saids (running r)).world (left_following saids r)
  where
    by : (last : BusWorld) → AreLeft saids r last → AreKnown saids (running r) last
    by (describing bytes meters) left = absurd left
    by (running last) left = zip_known saids r r.view.elements last.view.elements known left

said_begins : (text bytes : List ℕ) (meters : List Reading) → AreBytes bytes → Begins (said_step (answer text) (describing bytes meters))
unfolding step
said_begins text bytes meters are = by (answer text) refl
  where
    by : (said : Result Phrase ℕ) → answer text ≡ said → Begins (said_step said (describing bytes meters))
    by (Ok phrase) is =
        describing_begins bytes meters phrase are
        (λ more same. feeds_bytes text more (let all : answer text ≡ Ok (bytes_line more) = cc in all))
    by (Err rule) is = tt

known_following : (texts : List (List ℕ)) (bytes : List ℕ) (meters : List Reading) → AreBytes bytes
    → AreKnown (map answer texts) (describing bytes meters) (after (map answer texts) (describing bytes meters)).world
unfolding after knowledge_after
known_following [] bytes meters are = tt
known_following (text ∷ texts) bytes meters are =
    by (said_step (answer text) (describing bytes meters)) (said_begins text bytes meters are) (known_following texts)
  where
    saids : List (Result Phrase ℕ)
    saids = map answer texts

    by : (s : Step) → Begins s
        → ((next : List ℕ) (shown : List Reading) → AreBytes next
        → AreKnown saids (describing next shown) (after saids (describing next shown)).world)
        → AllByRecursion (λ (x : Element). is_some x.value ≡ last_or true (if_done s (λ next. knowledge_after saids next x)))
        (elements_in (and_then s (describing bytes meters) (after saids)).world)
    by (done (describing next shown) lines) begins rest = rest next shown begins
    by (done (running r) lines) begins rest = begun_known saids r begins.known
    by (refused fault) begins rest = tt

pub values_are_known_as_told : ValuesAreKnownAsTold
values_are_known_as_told texts shown =
    All-from_recursion (λ (x : Element). is_some x.value ≡ last_or true (knowledge_after (map answer texts) (start shown) x))
    (elements_in (after (map answer texts) (start shown)).world) (known_following texts [] shown no_bytes)
  where
    no_bytes : AreBytes []
    no_bytes i = search rules
