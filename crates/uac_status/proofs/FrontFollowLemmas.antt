-- Messages that are followed one after the other.
use Rattle.std.proofs.Common.{◌≡◌, ◌∙◌, refl, ap, sym, subst, ℕ, ◌<◌, Bool, true, false, if◌then◌else◌, not, ℤ, List, [], ◌∷◌, ◌++◌, drop, length, Option, Some, None, is_some, Result, Ok, Err, IfOk, IsErrAnd, append_assoc, arith}
use Rattle.std.specs.Io.KnownBytes.{Appends}
use Rattle.std.specs.List.{AllByRecursion}
use Rattle.std.specs.Option.{option_map_or}
use Rattle.std.proofs.KnownBytes.{Appends-nil}
use Rattle.std.proofs.lemmas.List.{append-nil}
use Rattle.uac_edges.specs.Writing.{AppendsFront, Writes}
use Rattle.uac_topology.specs.Function.{FunctionFields}
use Rattle.uac_store.specs.declared.keys.Key.{Key}
use Rattle.uac_store.specs.Keyed.{value_of}
use Rattle.uac_request.specs.Requests.{AnswerFields, reply_of}
use Rattle.uac_device.specs.DeviceKept.{DeviceFields}
use Rattle.uac_mixer.specs.ViewLinks.{LinkFields}
use Rattle.uac_mixer.specs.ViewTransfers.{get_of}
use Rattle.uac_mixer.specs.ViewWorld.{ViewWorld}
use Rattle.uac_mixer.specs.declared.element.Element.{Element}
use Rattle.uac_mixer.specs.MixerElements.{name_of}
use Rattle.uac_mixer.specs.declared.link.Broken.{Broken}
use Rattle.uac_transcript.specs.Transcript.{says_view, spelling_of, was_broken, element_has_value}
use Rattle.uac_status.specs.declared.following.Heard.{Heard}
use Rattle.uac_status.specs.Messages.{element_keyed, first_message, is_foreign, key_told, message_of}
use Rattle.uac_status.specs.Panels.{PanelWorld, panel_state, panel_got, panel_transfer, followed, followed_by, all_followed, goes_on}
use Rattle.uac_status.specs.PanelCalls.{IsFollowed}
use Rattle.uac_status.specs.PanelLaws.{IsKeyShown}
use Rattle.uac_status.specs.PanelLines.{PanelLine, all_told, following_told, got_sight, panel_spelling, panel_text, says_line, says_message, says_none}
use Rattle.uac_status.specs.FrontKept.{FrontFields, FrontStands, FrontTells, IsFront, HearsMessage, TellsMessage, message_lines}
use Rattle.uac_status.proofs.FrontLinkLemmas.{at_ok, came_back, front_over, got_broken, got_value, transfer_stands}
use Rattle.uac_status.proofs.MessageLemmas.{own_message}
use Rattle.uac_status.proofs.PanelTextLemmas.{front_after_lines, front_of_first, front_of_lines, lines_appended, sight_written, written_after}

-- ---- the first key that waits

-- the first key, those after it and the element with it
pub record First (pending : List Key) (elements : List Element) (control : ℕ) (message : List ℕ) : Type 0 where
  pub k : Key
  pub later : List Key
  pub x : Element
  pub waits : pending ≡ k ∷ later
  pub keyed : element_keyed elements k ≡ Some x
  pub told : message ≡ message_of control k

some_one : (o : Option Element) → is_some o ≡ true → (x : Element) × (o ≡ Some x)
some_one None is = absurd (cc)
some_one (Some x) is = (x, refl)

pub first_there : (control : ℕ) (pending : List Key) (elements : List Element) (message : List ℕ) → AllByRecursion (IsKeyShown elements) pending
    → first_message control pending ≡ Some message → First pending elements control message
first_there control [] elements message shown is = absurd (cc)
first_there control (k ∷ later) elements message shown is =
    let one = some_one (element_keyed elements k) shown.0 in
    let same : message ≡ message_of control k = cc in
    record { k = k; later = later; x = one.0; waits = refl; keyed = one.1; told = same }

-- it isn't foreign
pub not_foreign : (control : ℕ) (pending : List Key) (elements : List Element) (message : List ℕ) → First pending elements control message → is_foreign control elements message ≡ false
not_foreign control pending elements message f =
    ap (is_foreign control elements) f.told ∙ own_message control elements f.k (ap is_some f.keyed)

-- and something waits
pub some_wait : (control : ℕ) (pending : List Key) (message : List ℕ) → first_message control pending ≡ Some message → 0 < length pending
some_wait control [] message is = absurd (cc)
some_wait control (k ∷ later) message is = omega arith

-- ---- one message

module _ (w : PanelWorld) (p q : FrontFields) (message : List ℕ) (old new : LinkFields) (control : ℕ)
    (stands : FrontStands p w) (lent : old.device ≡ p.device) (fault : old.fault ≡ Some p.breaks) (kept : q.device ≡ new.device) (used : q.breaks ≡ None)
    (own : control ≡ p.device.function.control_interface) (k : Key) (later : List Key) (x : Element)
    (waits : w.pending ≡ k ∷ later) (keyed : element_keyed w.view.elements k ≡ Some x) (told : message ≡ message_of control k) where
  here : element_keyed p.view.elements k ≡ Some x
  here = ap (λ (v : ViewWorld). element_keyed v.elements k) stands.view ∙ keyed

  there : element_keyed p.view.elements (key_told message) ≡ Some x
  there = ap (λ (m : List ℕ). element_keyed p.view.elements (key_told m)) told ∙ here

  control_is : old.device.function.control_interface ≡ w.function.control_interface
  control_is = ap (λ (d : DeviceFields). d.function.control_interface) lent ∙ ap (λ (f : FunctionFields). f.control_interface) stands.function

  ours : is_foreign old.device.function.control_interface p.view.elements message ≡ false
  ours =
      ap (λ (m : List ℕ). is_foreign old.device.function.control_interface p.view.elements m) told
      ∙ ap (λ (i : ℕ). is_foreign i p.view.elements (message_of control k)) (ap (λ (d : DeviceFields). d.function.control_interface) lent ∙ sym own)
      ∙ own_message control p.view.elements k (ap is_some here)

  breaks_by : (b : Bool) (came : Option AnswerFields) (answered : Bool) → is_some w.breaks ≡ b → came ≡ (if is_some w.breaks then None else Some (reply_of w.function (panel_state w) (get_of old.device.function.control_interface x) []))
      → is_some came ≡ answered → b ≡ not answered
  breaks_by true came true is back some = absurd (let no : false ≡ true = sym (ap is_some (back ∙ ap (λ (c : Bool). if c then None else Some (reply_of w.function (panel_state w) (get_of old.device.function.control_interface x) [])) is)) ∙ some in cc)
  breaks_by true came false is back some = refl
  breaks_by false came true is back some = refl
  breaks_by false came false is back some = absurd (let no : true ≡ false = sym (ap is_some (back ∙ ap (λ (c : Bool). if c then None else Some (reply_of w.function (panel_state w) (get_of old.device.function.control_interface x) [])) is)) ∙ some in cc)

  broke_by : (answered : Bool) → ((y : Element) → is_foreign old.device.function.control_interface p.view.elements message ≡ false
      → element_keyed p.view.elements (key_told message) ≡ Some y → IsFollowed answered y p.view q.view old new) → is_some w.breaks ≡ not answered
  broke_by answered follows =
      let f = follows x ours there in
      breaks_by (is_some w.breaks) f.came answered refl
      (came_back w p q (get_of old.device.function.control_interface x) [] f.came old new stands lent fault f.made) f.is_answered

  moved : (pending : List Key) (answered : Bool) → ((y : Element) → is_foreign old.device.function.control_interface p.view.elements message ≡ false
      → element_keyed p.view.elements (key_told message) ≡ Some y → IsFollowed answered y p.view q.view old new) → q.pending ≡ pending
      → FrontStands q (record (panel_got x w) { pending = pending })
  moved pending answered follows same =
      let f = follows x ours there in
      subst (λ (i : ℕ). FrontStands q (record (panel_transfer (get_of i x) [] w) { pending = pending })) control_is
      (transfer_stands w p q (get_of old.device.function.control_interface x) [] f.came old new stands lent fault f.made pending kept used same refl)

  pub heard_ok : (heard : Heard) → ((y : Element) → is_foreign old.device.function.control_interface p.view.elements message ≡ false
      → element_keyed p.view.elements (key_told message) ≡ Some y → IsFollowed true y p.view q.view old new)
      → element_keyed p.view.elements (key_told message) ≡ Some heard.element → value_of old.device.controls heard.element.key ≡ Some heard.value
      → q.pending ≡ drop 1 p.pending → HearsMessage w q (Ok heard)
  unfolding followed
  heard_ok heard follows found value fewer =
      let broke : is_some w.breaks ≡ false = broke_by true follows in
      let same : heard.element ≡ x = (let e : Some heard.element ≡ Some x = sym found ∙ there in cc) in
      let left : q.pending ≡ later = fewer ∙ ap (drop 1) (stands.pending ∙ waits) in
      let controls : old.device.controls ≡ w.controls = ap (λ (d : DeviceFields). d.controls) lent ∙ stands.controls in
      record {
        k = k;
        later = later;
        x = x;
        waits = waits;
        keyed = keyed;
        stands = subst (λ (b : Bool). FrontStands q (followed_by b later (panel_got x w))) (sym broke) (moved later true follows left);
        heard = (broke, same, subst (λ (y : Element). value_of w.controls y.key ≡ Some heard.value) same (ap (λ (c : List (Key × ℤ)). value_of c heard.element.key) (sym controls) ∙ value));
      }

  pub heard_broken : ((y : Element) → is_foreign old.device.function.control_interface p.view.elements message ≡ false
      → element_keyed p.view.elements (key_told message) ≡ Some y → IsFollowed false y p.view q.view old new)
      → q.pending ≡ p.pending → HearsMessage w q (Err (record {}))
  unfolding followed panel_transfer
  heard_broken follows same =
      let broke : is_some w.breaks ≡ true = broke_by false follows in
      record {
        k = k;
        later = later;
        x = x;
        waits = waits;
        keyed = keyed;
        stands = subst (λ (b : Bool). FrontStands q (followed_by b later (panel_got x w))) (sym broke) (moved w.pending false follows (same ∙ stands.pending));
        heard = broke;
      }

-- what the first message leaves is kept
pub heard_front : (p q : FrontFields) (message : List ℕ) (old new : LinkFields) → IsFront p → first_message p.device.function.control_interface p.pending ≡ Some message
    → old.device ≡ p.device
    → ((y : Element) → is_foreign old.device.function.control_interface p.view.elements message ≡ false
    → element_keyed p.view.elements (key_told message) ≡ Some y → IsFollowed true y p.view q.view old new)
    → q.pending ≡ drop 1 p.pending → q.device ≡ new.device → IsFront q
heard_front p q message old new front is lent follows fewer kept =
    let control = p.device.function.control_interface in
    let f : First p.pending p.view.elements control message = first_there control p.pending p.view.elements message front.shown is in
    let ours : is_foreign old.device.function.control_interface p.view.elements message ≡ false =
    ap (λ (d : DeviceFields). is_foreign d.function.control_interface p.view.elements message) lent ∙ not_foreign control p.pending p.view.elements message f in
    let keyed : element_keyed p.view.elements (key_told message) ≡ Some f.x = ap (λ (m : List ℕ). element_keyed p.view.elements (key_told m)) f.told ∙ f.keyed in
    let later : AllByRecursion (IsKeyShown p.view.elements) f.later = (subst (AllByRecursion (IsKeyShown p.view.elements)) f.waits front.shown).1 in
    front_over p q (get_of old.device.function.control_interface f.x) [] (follows f.x ours keyed).came old new
    (subst (AllByRecursion (IsKeyShown p.view.elements)) (sym (fewer ∙ ap (drop 1) f.waits)) later) (follows f.x ours keyed).made kept

-- and what it is answered
pub hears_ok : (w : PanelWorld) (p q : FrontFields) (message : List ℕ) (old new : LinkFields) → IsFront p → FrontStands p w
    → first_message p.device.function.control_interface p.pending ≡ Some message → old.device ≡ p.device → old.fault ≡ Some p.breaks → q.device ≡ new.device → q.breaks ≡ None
    → (heard : Heard)
    → ((y : Element) → is_foreign old.device.function.control_interface p.view.elements message ≡ false
    → element_keyed p.view.elements (key_told message) ≡ Some y → IsFollowed true y p.view q.view old new)
    → element_keyed p.view.elements (key_told message) ≡ Some heard.element → value_of old.device.controls heard.element.key ≡ Some heard.value
    → q.pending ≡ drop 1 p.pending → HearsMessage w q (Ok heard)
hears_ok w p q message old new front stands is lent fault kept used heard follows found value fewer =
    let control = p.device.function.control_interface in
    let f : First p.pending p.view.elements control message = first_there control p.pending p.view.elements message front.shown is in
    heard_ok w p q message old new control stands lent fault kept used refl f.k f.later f.x (sym stands.pending ∙ f.waits)
    (ap (λ (v : ViewWorld). element_keyed v.elements f.k) (sym stands.view) ∙ f.keyed) f.told heard follows found value fewer

pub hears_broken : (w : PanelWorld) (p q : FrontFields) (message : List ℕ) (old new : LinkFields) → IsFront p → FrontStands p w
    → first_message p.device.function.control_interface p.pending ≡ Some message → old.device ≡ p.device → old.fault ≡ Some p.breaks → q.device ≡ new.device → q.breaks ≡ None
    → ((y : Element) → is_foreign old.device.function.control_interface p.view.elements message ≡ false
    → element_keyed p.view.elements (key_told message) ≡ Some y → IsFollowed false y p.view q.view old new)
    → q.pending ≡ p.pending → HearsMessage w q (Err (record {}))
hears_broken w p q message old new front stands is lent fault kept used follows same =
    let control = p.device.function.control_interface in
    let f : First p.pending p.view.elements control message = first_there control p.pending p.view.elements message front.shown is in
    heard_broken w p q message old new control stands lent fault kept used refl f.k f.later f.x (sym stands.pending ∙ f.waits)
    (ap (λ (v : ViewWorld). element_keyed v.elements f.k) (sym stands.view) ∙ f.keyed) f.told follows same

-- ---- what is printed of one message

-- what wasn't answered was written in part, as far as it was
cut_writes : {T E : Type 0} (P : E → Type 0) (old new : Option (List ℕ)) (text : List ℕ) (result : Result T E) → IsErrAnd result P → AppendsFront old new text → Writes old new result text
cut_writes P old new text (Ok t) fails cut = absurd fails
cut_writes P old new text (Err e) fails cut = cut

not_ok : {E : Type 0} (P : E → Type 0) (answered : Bool) (result : Result Bool E) → IsErrAnd result P → IfOk result (λ b. b ≡ answered)
not_ok P answered (Ok b) fails = absurd fails
not_ok P answered (Err e) fails = tt

-- the message of the first key that waits
told_first : (w : PanelWorld) (p : FrontFields) (message : List ℕ) (k : Key) (later : List Key) → FrontStands p w → first_message p.device.function.control_interface p.pending ≡ Some message
    → w.pending ≡ k ∷ later → message ≡ message_of w.function.control_interface k
told_first w p message k later stands is waits =
    let first : Some (message_of w.function.control_interface k) ≡ Some message =
    sym (ap (λ (f : FunctionFields). first_message f.control_interface p.pending) stands.function ∙ ap (first_message w.function.control_interface) (stands.pending ∙ waits)) ∙ is in
    cc

if_answered : {E : Type 0} (answered broke : Bool) (result : Result Bool E) → answered ≡ not broke → IfOk result (λ b. b ≡ answered) → IfOk result (λ b. b ≡ not broke)
if_answered answered broke (Ok b) is same = same ∙ is
if_answered answered broke (Err e) is same = tt

-- what is said of the value that came
value_sight : (w : PanelWorld) (front : FrontFields) (heard : Heard) (h : HearsMessage w front (Ok heard)) (name : List ℕ) (value : ℤ) → name ≡ name_of heard.element → value ≡ heard.value
    → got_sight h.x w ≡ element_has_value name value
value_sight w front heard h name value named is =
    got_value h.x w heard.value (h.heard.0, h.heard.2) ∙ ap (λ (v : ℤ). element_has_value (name_of h.x) v) (sym is)
    ∙ ap (λ (n : List ℕ). element_has_value n value) (sym (named ∙ ap name_of h.heard.1))

not_broken : (b : Bool) → b ≡ false → true ≡ not b
not_broken true e = absurd (cc)
not_broken false e = refl

so_broken : (b : Bool) → b ≡ true → false ≡ not b
so_broken true e = refl
so_broken false e = absurd (cc)

module _ {E : Type 0} (w : PanelWorld) (p front : FrontFields) (message : List ℕ) (old mid new : Option (List ℕ)) (stands : FrontStands p w)
    (first : first_message p.device.function.control_interface p.pending ≡ Some message) where
  -- its line, and then another
  tells_by : (r : Result Heard Broken) (h : HearsMessage w front r) (result : Result Bool E) (answered : Bool) → IfOk result (λ b. b ≡ answered)
      → answered ≡ not (is_some w.breaks) → Appends old mid (panel_spelling (says_message message))
      → Writes mid new result (panel_text (says_line (says_view (got_sight h.x w)) ∷ [])) → TellsMessage w front old new result
  tells_by r h result answered same broke line rest =
      let told : message ≡ message_of w.function.control_interface h.k = told_first w p message h.k h.later stands first h.waits in
      record {
        k = h.k;
        later = h.later;
        x = h.x;
        waits = h.waits;
        keyed = h.keyed;
        written =
            written_after old mid new result (says_message (message_of w.function.control_interface h.k)) (says_line (says_view (got_sight h.x w)) ∷ [])
            (subst (λ (m : List ℕ). Appends old mid (panel_spelling (says_message m))) told line) rest;
        stands = at_ok (FrontStands front (followed h.x h.later w)) result h.stands;
        answered = if_answered answered (is_some w.breaks) result broke same;
      }

  -- its line wasn't written
  pub tells_none : (P : E → Type 0) (r : Result Heard Broken) → HearsMessage w front r → (result : Result Bool E) → IsErrAnd result P
      → AppendsFront old new (panel_spelling (says_message message)) → TellsMessage w front old new result
  tells_none P r h result fails cut =
      let told : message ≡ message_of w.function.control_interface h.k = told_first w p message h.k h.later stands first h.waits in
      record {
        k = h.k;
        later = h.later;
        x = h.x;
        waits = h.waits;
        keyed = h.keyed;
        written =
            cut_writes P old new (panel_text (message_lines w h.k h.x)) result fails
            (front_of_first old new (says_message (message_of w.function.control_interface h.k)) (says_line (says_view (got_sight h.x w)) ∷ [])
            (subst (λ (m : List ℕ). AppendsFront old new (panel_spelling (says_message m))) told cut));
        stands = at_ok (FrontStands front (followed h.x h.later w)) result h.stands;
        answered = if_answered (not (is_some w.breaks)) (is_some w.breaks) result refl (not_ok P (not (is_some w.breaks)) result fails);
      }

  -- the value that came
  pub tells_value : (heard : Heard) → HearsMessage w front (Ok heard) → (name : List ℕ) (value : ℤ) → name ≡ name_of heard.element → value ≡ heard.value
      → (result : Result Bool E) → IfOk result (λ b. b ≡ true) → Appends old mid (panel_spelling (says_message message))
      → Writes mid new result (spelling_of (says_view (element_has_value name value))) → TellsMessage w front old new result
  tells_value heard h name value named is result same line rest =
      tells_by (Ok heard) h result true same (not_broken (is_some w.breaks) h.heard.0) line
      (sight_written mid new result (got_sight h.x w) (element_has_value name value) (value_sight w front heard h name value named is) rest)

  pub tells_value_cut : (P : E → Type 0) (heard : Heard) → HearsMessage w front (Ok heard) → (name : List ℕ) (value : ℤ) → name ≡ name_of heard.element → value ≡ heard.value
      → (result : Result Bool E) → IsErrAnd result P → Appends old mid (panel_spelling (says_message message))
      → AppendsFront mid new (spelling_of (says_view (element_has_value name value))) → TellsMessage w front old new result
  tells_value_cut P heard h name value named is result fails line rest =
      tells_value heard h name value named is result (not_ok P true result fails) line
      (cut_writes P mid new (spelling_of (says_view (element_has_value name value))) result fails rest)

  -- a transfer that broke
  pub tells_broken : (broken : Broken) → HearsMessage w front (Err broken) → (result : Result Bool E) → IfOk result (λ b. b ≡ false)
      → Appends old mid (panel_spelling (says_message message)) → Writes mid new result (spelling_of (says_view was_broken)) → TellsMessage w front old new result
  tells_broken broken h result same line rest =
      tells_by (Err broken) h result false same (so_broken (is_some w.breaks) h.heard) line
      (sight_written mid new result (got_sight h.x w) was_broken (got_broken h.x w h.heard) rest)

  pub tells_broken_cut : (P : E → Type 0) (broken : Broken) → HearsMessage w front (Err broken) → (result : Result Bool E) → IsErrAnd result P
      → Appends old mid (panel_spelling (says_message message)) → AppendsFront mid new (spelling_of (says_view was_broken)) → TellsMessage w front old new result
  tells_broken_cut P broken h result fails line rest =
      tells_broken broken h result (not_ok P false result fails) line (cut_writes P mid new (spelling_of (says_view was_broken)) result fails rest)

-- a failed write that is handed on
pub cut_told : {E : Type 0} (P : E → Type 0) (old new : Option (List ℕ)) (lines : List PanelLine) (w : PanelWorld) (front : FrontFields) (result : Result (Unit {0}) E) → IsErrAnd result P
    → AppendsFront old new (panel_text lines) → FrontTells lines w front old new result
cut_told P old new lines w front (Ok t) fails cut = absurd fails
cut_told P old new lines w front (Err e) fails cut = (cut, tt)

-- ---- all of them

-- so much was printed and followed, and what is left is that of the world now
pub record SoFar (w : PanelWorld) (front : FrontFields) (old new : Option (List ℕ)) : Type 0 where
  pub lines : List PanelLine
  pub now : PanelWorld
  pub written : Appends old new (panel_text lines)
  pub stands : FrontStands front now
  pub told : lines ++ all_told now.pending now ≡ all_told w.pending w
  pub left : all_followed now.pending now ≡ all_followed w.pending w

pub begun : (w : PanelWorld) (front : FrontFields) (old : Option (List ℕ)) → FrontStands front w → SoFar w front old old
begun w front old stands = record { lines = []; now = w; written = Appends-nil old; stands = stands; told = refl; left = refl }

-- the lines and the world, split at the first message
told_split : (w : PanelWorld) (k : Key) (later : List Key) (x : Element) → w.pending ≡ k ∷ later → element_keyed w.view.elements k ≡ Some x
    → all_told w.pending w ≡ message_lines w k x ++ goes_on (is_some w.breaks) [] (all_told later (followed x later w))
unfolding all_told
told_split w k later x waits keyed =
    ap (λ (ks : List Key). all_told ks w) waits
    ∙ ap (λ (o : Option Element). option_map_or
    (λ y. says_message (message_of w.function.control_interface k) ∷ says_line (says_view (got_sight y w))
    ∷ goes_on (is_some w.breaks) [] (all_told later (followed y later w))) o []) keyed

left_split : (w : PanelWorld) (k : Key) (later : List Key) (x : Element) → w.pending ≡ k ∷ later → element_keyed w.view.elements k ≡ Some x
    → all_followed w.pending w ≡ goes_on (is_some w.breaks) (followed x later w) (all_followed later (followed x later w))
unfolding all_followed
left_split w k later x waits keyed =
    ap (λ (ks : List Key). all_followed ks w) waits
    ∙ ap (λ (o : Option Element). option_map_or (λ y. goes_on (is_some w.breaks) (followed y later w) (all_followed later (followed y later w))) o w) keyed

later_wait : (w : PanelWorld) (later : List Key) (x : Element) → is_some w.breaks ≡ false → (followed x later w).pending ≡ later
unfolding followed
later_wait w later x came = ap (λ (b : Bool). (followed_by b later (panel_got x w)).pending) came

module _ (w : PanelWorld) (front next : FrontFields) (old mid new : Option (List ℕ)) (s : SoFar w front old mid) where
  whole_at : (k : Key) (later : List Key) (x : Element) → s.now.pending ≡ k ∷ later → element_keyed s.now.view.elements k ≡ Some x
      → s.lines ++ (message_lines s.now k x ++ goes_on (is_some s.now.breaks) [] (all_told later (followed x later s.now))) ≡ all_told w.pending w
  whole_at k later x waits keyed = ap (λ (ls : List PanelLine). s.lines ++ ls) (sym (told_split s.now k later x waits keyed)) ∙ s.told

  world_at : (k : Key) (later : List Key) (x : Element) → s.now.pending ≡ k ∷ later → element_keyed s.now.view.elements k ≡ Some x
      → goes_on (is_some s.now.breaks) (followed x later s.now) (all_followed later (followed x later s.now)) ≡ all_followed w.pending w
  world_at k later x waits keyed = sym (left_split s.now k later x waits keyed) ∙ s.left

  not_true : (b : Bool) → true ≡ not b → b ≡ false
  not_true true e = absurd (cc)
  not_true false e = refl

  not_false : (b : Bool) → false ≡ not b → b ≡ true
  not_false true e = refl
  not_false false e = absurd (cc)

  -- one that was answered
  pub one_more : {E : Type 0} → ((now : PanelWorld) → FrontStands front now → TellsMessage {E = E} now next mid new (Ok true)) → SoFar w next old new
  one_more tells =
      let t = tells s.now s.stands in
      let came : is_some s.now.breaks ≡ false = not_true (is_some s.now.breaks) t.answered in
      let after : PanelWorld = followed t.x t.later s.now in
      let same : after.pending ≡ t.later = later_wait s.now t.later t.x came in
      record {
        lines = s.lines ++ message_lines s.now t.k t.x;
        now = after;
        written = lines_appended old mid new s.lines (message_lines s.now t.k t.x) s.written t.written;
        stands = t.stands;
        told =
            append_assoc s.lines (message_lines s.now t.k t.x) (all_told after.pending after)
            ∙ ap (λ (ks : List Key). s.lines ++ (message_lines s.now t.k t.x ++ all_told ks after)) same
            ∙ ap (λ (b : Bool). s.lines ++ (message_lines s.now t.k t.x ++ goes_on b [] (all_told t.later after))) (sym came)
            ∙ whole_at t.k t.later t.x t.waits t.keyed;
        left =
            ap (λ (ks : List Key). all_followed ks after) same
            ∙ ap (λ (b : Bool). goes_on b after (all_followed t.later after)) (sym came) ∙ world_at t.k t.later t.x t.waits t.keyed;
      }

  -- one that broke: nothing follows it
  pub broken_off : {E : Type 0} → ((now : PanelWorld) → FrontStands front now → TellsMessage {E = E} now next mid new (Ok false))
      → FrontTells {E = E} (all_told w.pending w) (all_followed w.pending w) next old new (Ok tt)
  broken_off tells =
      let t = tells s.now s.stands in
      let broke : is_some s.now.breaks ≡ true = not_false (is_some s.now.breaks) t.answered in
      let after : PanelWorld = followed t.x t.later s.now in
      let whole : s.lines ++ message_lines s.now t.k t.x ≡ all_told w.pending w =
      ap (λ (ls : List PanelLine). s.lines ++ ls) (sym (append-nil (message_lines s.now t.k t.x)))
      ∙ ap (λ (b : Bool). s.lines ++ (message_lines s.now t.k t.x ++ goes_on b [] (all_told t.later after))) (sym broke) ∙ whole_at t.k t.later t.x t.waits t.keyed in
      let world : after ≡ all_followed w.pending w = ap (λ (b : Bool). goes_on b after (all_followed t.later after)) (sym broke) ∙ world_at t.k t.later t.x t.waits t.keyed in (
        subst (λ (ls : List PanelLine). Appends old new (panel_text ls)) whole (lines_appended old mid new s.lines (message_lines s.now t.k t.x) s.written t.written),
        subst (λ (v : PanelWorld). FrontStands next v) world t.stands,
      )

  -- one whose lines weren't written
  pub cut_off : {E : Type 0} (e : E) → ((now : PanelWorld) → FrontStands front now → TellsMessage now next mid new (Err e)) → AppendsFront old new (panel_text (all_told w.pending w))
  cut_off e tells =
      let t = tells s.now s.stands in
      subst (λ (ls : List PanelLine). AppendsFront old new (panel_text ls)) (whole_at t.k t.later t.x t.waits t.keyed)
      (front_after_lines old mid new s.lines (message_lines s.now t.k t.x ++ goes_on (is_some s.now.breaks) [] (all_told t.later (followed t.x t.later s.now))) s.written
      (front_of_lines mid new (message_lines s.now t.k t.x) (goes_on (is_some s.now.breaks) [] (all_told t.later (followed t.x t.later s.now))) t.written))

-- none is left
none_wait : (control : ℕ) (pending : List Key) → first_message control pending ≡ None → pending ≡ []
none_wait control [] is = refl
none_wait control (k ∷ later) is = absurd (cc)

pub finished : (E : Type 0) (w : PanelWorld) (front : FrontFields) (old new : Option (List ℕ)) (control : ℕ) → SoFar w front old new → first_message control front.pending ≡ None
    → FrontTells {E = E} (all_told w.pending w) (all_followed w.pending w) front old new (Ok tt)
unfolding all_told all_followed
finished E w front old new control s is =
    let none : s.now.pending ≡ [] = sym s.stands.pending ∙ none_wait control front.pending is in
    let whole : s.lines ≡ all_told w.pending w = sym (append-nil s.lines) ∙ ap (λ (ks : List Key). s.lines ++ all_told ks s.now) (sym none) ∙ s.told in
    let world : s.now ≡ all_followed w.pending w = ap (λ (ks : List Key). all_followed ks s.now) (sym none) ∙ s.left in (
      subst (λ (ls : List PanelLine). Appends old new (panel_text ls)) whole s.written,
      subst (λ (v : PanelWorld). FrontStands front v) world s.stands,
    )

-- where none waits from the start
pub none_told : (control : ℕ) (w : PanelWorld) (front : FrontFields) → FrontStands front w → first_message control front.pending ≡ None → following_told w.pending w ≡ says_none ∷ []
none_told control w front stands is = ap (λ (ks : List Key). following_told ks w) (sym stands.pending ∙ none_wait control front.pending is)

pub none_followed : (control : ℕ) (w : PanelWorld) (front : FrontFields) → FrontStands front w → first_message control front.pending ≡ None → all_followed w.pending w ≡ w
unfolding all_followed
none_followed control w front stands is = ap (λ (ks : List Key). all_followed ks w) (sym stands.pending ∙ none_wait control front.pending is)

-- where some wait
some_told_of : (ks : List Key) (w : PanelWorld) (control : ℕ) (message : List ℕ) → first_message control ks ≡ Some message → following_told ks w ≡ all_told ks w
some_told_of [] w control message is = absurd (cc)
some_told_of (k ∷ later) w control message is = refl

pub some_told : (control : ℕ) (message : List ℕ) (w : PanelWorld) (front : FrontFields) → FrontStands front w → first_message control front.pending ≡ Some message
    → following_told w.pending w ≡ all_told w.pending w
some_told control message w front stands is =
    some_told_of w.pending w control message (ap (first_message control) (sym stands.pending) ∙ is)
