-- The formats and the endpoints of settings have numbers in range.
use Rattle.std.proofs.Common.{◌≡◌, ◌∙◌, sym, ap, subst, refl, arith, ℕ, zero, suc, ◌<◌, ◌==◌, ◌&&◌, not, Bool, true, false, cond, if◌then◌else◌, List, [], ◌∷◌, Option, Some, None, length, get_or, slice_get, IsTrue}
use Rattle.std.specs.List.{All, filter_map, cons_option, list_any}
use Rattle.std.specs.Option.{option_map_or}
use Rattle.std.proofs.lemmas.Bool.{or_parts}
use Rattle.std.proofs.lemmas.List.Elements.{All-nil, All-cons}
use Rattle.uac_topology_rules.proofs.WalkLemmas.{none_at}
use Rattle.uac_descriptor.specs.Contexts.{EachIn, context_after, interface_context}
use Rattle.uac_descriptor.specs.Classes.{is_control_interface, is_streaming_interface}
use Rattle.uac_descriptor.specs.BlockFields.{is_isochronous, IsTypeOneFormat, IsHighSpeed}
use Rattle.uac_descriptor.specs.WellFormed.{IsWellFormed}
use Rattle.uac_descriptor.specs.declared.context.Context.{Context}
use Rattle.uac_descriptor.specs.declared.context.Context.TheVariants as contexts
use Rattle.uac_descriptor.specs.declared.standard.Endpoint.{Endpoint}
use Rattle.uac_descriptor.specs.declared.standard.Interface.{Interface}
use Rattle.uac_descriptor.specs.declared.streaming.TypeOne.{TypeOne}
use Rattle.uac_descriptor.specs.declared.block.Block as block
use Rattle.uac_descriptor.specs.declared.block.Block.TheVariants as row
use Rattle.uac_entities.specs.Entities.{entities_of}
use Rattle.uac_entities.specs.EntitySettings.{ends_setting, format_of, endpoint_of, own_blocks, own, declared_setting_of, declared_setting_at, declared_settings}
use Rattle.uac_entities.specs.EntityInterfaces.{setting_on_interface, settings_of, streaming_interface_of, streaming_interface_at, streaming_interfaces_of}
use Rattle.uac_entities.specs.declared.settings.DeclaredSetting.{DeclaredSetting}
use Rattle.uac_entities.specs.declared.entity.Entity.{Entity}
use Rattle.uac_entities.specs.declared.stream.Setting.{Setting}
use Rattle.uac_entities.specs.declared.stream.StreamInterface.{StreamInterface}
use Rattle.uac_topology_rules.specs.Rules as rules
use Rattle.uac_topology_rules.specs.Rules.{at_stream, breaks_u13, is_wrong}
use Rattle.uac_topology.specs.Function.{FunctionFields}
use Rattle.uac_topology.specs.FunctionKept.{AreInRange, IsSettingInRange}
use Rattle.uac_topology.specs.Topology.{IsSoundFunction, IsSound, streams_in}
use Rattle.uac_topology.proofs.TopologyRuleLemmas.{endpoints_within, no_interface}

-- ---- what holds of all that some items give

pub All-filter_map : {X Y : Type 0} (h : X → Option Y) (P : X → Type 0) (Q : Y → Type 0) → ((x : X) (y : Y) → P x → h x ≡ Some y → Q y)
    → (xs : List X) → All P xs → All Q (filter_map h xs)
All-filter_map h P Q gives [] each = All-nil Q
All-filter_map h P Q gives (x ∷ xs) each =
    more (h x) refl (All-filter_map h P Q gives xs (λ k d below. each (suc k) d (omega (arith, below))))
  where
    more : (o : Option _) → h x ≡ o → All Q (filter_map h xs) → All Q (cons_option o (filter_map h xs))
    more None e rest = rest
    more (Some y) e rest = All-cons Q y (filter_map h xs) (gives x y (each 0 x (omega arith)) e) rest

All-cons_option : {X : Type 0} (P : X → Type 0) (o : Option X) (xs : List X) → ((x : X) → o ≡ Some x → P x) → All P xs → All P (cons_option o xs)
All-cons_option P None xs first others = others
All-cons_option P (Some x) xs first others = All-cons P x xs (first x refl) others

got : {X : Type 0} (P : X → Type 0) (xs : List X) (n : ℕ) (x : X) → All P xs → slice_get xs n ≡ Some x → P x
got P [] n x each is = absurd (cc)
got P (y ∷ ys) zero x each is = let e : y ≡ x = cc in subst P e (each 0 y (omega arith))
got P (y ∷ ys) (suc n) x each is = got P ys n x (λ k d below. each (suc k) d (omega (arith, below))) is

-- ---- the blocks of a setting stand in its streaming interface

abbrev IsFast : Endpoint → Type 0
IsFast e = IsTrue (is_isochronous e) → IsHighSpeed e

same_context : (context : Context) (b : block.Block) → ends_setting b ≡ false → context_after context b ≡ context
unfolding ends_setting
same_context context (row.Interface i) e = absurd (cc)
same_context context (row.Association a) e = absurd (cc)
same_context context b e = refl

fast_of : (b : block.Block) (e : Endpoint) → IsWellFormed contexts.StreamingInterface b → endpoint_of b ≡ Some e → IsFast e
unfolding endpoint_of
fast_of (row.Endpoint x) e well is = let same : x ≡ e = cc in subst IsFast same (well refl)
fast_of b e well is = absurd (cc)

sized_of : (b : block.Block) (f : TypeOne) → IsWellFormed contexts.StreamingInterface b → format_of b ≡ Some f → IsTypeOneFormat f
unfolding format_of
sized_of (row.TypeOne x) f well is = let same : x ≡ f = cc in subst IsTypeOneFormat same well
sized_of b f well is = absurd (cc)

own_hold : {X : Type 0} (row_of : block.Block → Option X) (P : X → Type 0)
    → ((b : block.Block) (x : X) → IsWellFormed contexts.StreamingInterface b → row_of b ≡ Some x → P x)
    → (following : List block.Block) → EachIn IsWellFormed contexts.StreamingInterface following → All P (own row_of following)
unfolding own_blocks
own_hold row_of P gives [] each = All-nil P
own_hold row_of P gives (b ∷ following) (well, each) = by (ends_setting b) refl (own_hold row_of P gives following)
  where
    by : (t : Bool) → ends_setting b ≡ t → (EachIn IsWellFormed contexts.StreamingInterface following → All P (own row_of following))
        → All P (filter_map row_of (cond t [] (b ∷ own_blocks following)))
    by true e rest = All-nil P
    by false e rest =
        All-cons_option P (row_of b) (own row_of following) (λ x is. gives b x well is)
        (rest (subst (λ (context : Context). EachIn IsWellFormed context following) (same_context contexts.StreamingInterface b e) each))

-- ---- the settings

-- a setting whose format is in range, and its endpoints where they are isochronous
record IsReady (s : Setting) : Type 0 where
  pub format : (f : TypeOne) → s.format ≡ Some f → IsTypeOneFormat f
  pub first : (e : Endpoint) → s.first ≡ Some e → IsFast e
  pub second : (e : Endpoint) → s.second ≡ Some e → IsFast e

streaming_context : (c s : Bool) → s ≡ true → c ≡ false
    → (if c then contexts.ControlInterface else if s then contexts.StreamingInterface else contexts.ForeignInterface) ≡ contexts.StreamingInterface
streaming_context c s e f = rw (f, e) refl

-- an interface does not have both subclasses
pub no_both : (i : Interface) → is_streaming_interface i ≡ true → is_control_interface i ≡ false
unfolding is_streaming_interface is_control_interface
no_both i e = by (i.class == 1) (i.subclass == 1) refl (i.subclass == 2) refl (i.protocol == 32) e
  where
    by : (a b : Bool) → (i.subclass == 1) ≡ b → (c : Bool) → (i.subclass == 2) ≡ c → (d : Bool) → (a && c && d) ≡ true → (a && b && d) ≡ false
    by false b p c q d e = refl
    by true false p c q d e = refl
    by true true p true q d e =
        absurd (let one = Rattle.std.proofs.Common.eqb-true i.subclass 1 p in let two = Rattle.std.proofs.Common.eqb-true i.subclass 2 q in omega (arith, one, two))
    by true true p false q d e = absurd (cc)

context_is : (i : Interface) → is_streaming_interface i ≡ true → interface_context i ≡ contexts.StreamingInterface
unfolding interface_context
context_is i e = streaming_context (is_control_interface i) (is_streaming_interface i) e (no_both i e)

setting_ready : (i : Interface) (following : List block.Block) → EachIn IsWellFormed contexts.StreamingInterface following
    → IsReady (declared_setting_of i following).setting
setting_ready i following each =
    record {
      format = λ f is. got IsTypeOneFormat (own format_of following) 0 f (own_hold format_of IsTypeOneFormat sized_of following each) is;
      first = λ e is. got IsFast (own endpoint_of following) 0 e (own_hold endpoint_of IsFast fast_of following each) is;
      second = λ e is. got IsFast (own endpoint_of following) 1 e (own_hold endpoint_of IsFast fast_of following each) is;
    }

at_ready : (context : Context) (b : block.Block) (following : List block.Block) (a : DeclaredSetting) → EachIn IsWellFormed (context_after context b) following
    → declared_setting_at b following ≡ Some a → IsReady a.setting
unfolding declared_setting_at
at_ready context (row.Interface i) following a each is = by (is_streaming_interface i) refl is
  where
    by : (t : Bool) → is_streaming_interface i ≡ t → cond t (Some (declared_setting_of i following)) None ≡ Some a → IsReady a.setting
    by true e is =
        let same : declared_setting_of i following ≡ a = cc in
        subst (λ (x : DeclaredSetting). IsReady x.setting) same
        (setting_ready i following (subst (λ (c : Context). EachIn IsWellFormed c following) (context_is i e) each))
    by false e is = absurd (cc)
at_ready context b following a each is = absurd (cc)

all_ready : (context : Context) (blocks : List block.Block) → EachIn IsWellFormed context blocks → All (λ a. IsReady a.setting) (declared_settings blocks)
unfolding declared_settings
all_ready context [] each = All-nil _
all_ready context (b ∷ blocks) (well, each) =
    All-cons_option (λ a. IsReady a.setting) (declared_setting_at b blocks) (declared_settings blocks) (λ a is. at_ready context b blocks a each is)
    (all_ready (context_after context b) blocks each)

-- ---- the endpoints that carry data or feedback are isochronous

pub not_false : (b : Bool) → not b ≡ false → b ≡ true
not_false true e = refl
not_false false e = absurd (cc)

and_first : (a b : Bool) → (a && b) ≡ true → a ≡ true
and_first true b e = refl
and_first false b e = absurd (cc)

some_of : (P : Endpoint → Bool) (o : Option Endpoint) (e : Endpoint) → option_map_or (λ x. not (P x)) o false ≡ false → o ≡ Some e → P e ≡ true
some_of P None e h is = absurd (cc)
some_of P (Some x) e h is = let same : x ≡ e = cc in subst (λ (y : Endpoint). P y ≡ true) same (not_false (P x) h)

right_setting : (out : Bool) (a : DeclaredSetting) → is_wrong out a ≡ false → IsReady a.setting → IsSettingInRange a.setting
unfolding is_wrong
right_setting out a right ready =
    let ends = or_parts _ _ (or_parts _ _ (or_parts _ _ right).1).1 in
    record {
      format = ready.format;
      first = λ e is. ready.first e is (and_first _ _ (and_first _ _ (some_of (rules.carries_data out) a.setting.first e ends.0 is)));
      second = λ e is. ready.second e is (and_first _ _ (and_first _ _ (some_of (rules.carries_feedback (not out)) a.setting.second e ends.1 is)));
    }

-- ---- a setting of a streaming interface

setting_right : (out : Bool) (number : ℕ) (a : DeclaredSetting) (t : Setting) → (a.interface == number && is_wrong out a) ≡ false → IsReady a.setting
    → setting_on_interface number a ≡ Some t → IsSettingInRange t
unfolding setting_on_interface
setting_right out number a t right ready is = by (a.interface == number) right is
  where
    by : (b : Bool) → (b && is_wrong out a) ≡ false → (if b then Some a.setting else None) ≡ Some t → IsSettingInRange t
    by true right is = let same : a.setting ≡ t = cc in subst IsSettingInRange same (right_setting out a right ready)
    by false right is = absurd (cc)

settings_right : (out : Bool) (number : ℕ) (all : List DeclaredSetting) → All (λ a. IsReady a.setting) all
    → list_any (λ a. a.interface == number && is_wrong out a) all ≡ false → All IsSettingInRange (settings_of all number)
settings_right out number all ready right =
    All-filter_map (setting_on_interface number) (λ a. ((a.interface == number && is_wrong out a) ≡ false) × IsReady a.setting) IsSettingInRange
    (λ a t both is. setting_right out number a t both.0 both.1 is) all
    (λ k d below. (none_at (λ a. a.interface == number && is_wrong out a) all k d below right, ready k d below))

-- a streaming interface has the settings of its number
its_settings : (es : List Entity) (all : List DeclaredSetting) (s : StreamInterface) (a : DeclaredSetting) → streaming_interface_at es all a ≡ Some s → s.settings ≡ settings_of all s.number
unfolding streaming_interface_at streaming_interface_of
its_settings es all s a is = by (a.setting.number == 0) is
  where
    by : (b : Bool) → (if b then Some (streaming_interface_of es all a.interface) else None) ≡ Some s → s.settings ≡ settings_of all s.number
    by true is = let same : streaming_interface_of es all a.interface ≡ s = cc in subst (λ (x : StreamInterface). x.settings ≡ settings_of all x.number) same refl
    by false is = absurd (cc)

pub each_has_its_settings : (es : List Entity) (all : List DeclaredSetting) → All (λ s. s.settings ≡ settings_of all s.number) (streaming_interfaces_of es all)
each_has_its_settings es all =
    All-filter_map (streaming_interface_at es all) (λ a. Unit {0}) (λ s. s.settings ≡ settings_of all s.number) (λ a s _ is. its_settings es all s a is) all (λ k d below. tt)

pub got_at : {X : Type 0} (xs : List X) (k : ℕ) (d : X) → k < length xs → slice_get xs k ≡ Some (get_or xs k d)
got_at [] k d below = absurd (omega arith)
got_at (x ∷ xs) zero d below = refl
got_at (x ∷ xs) (suc k) d below = got_at xs k d (omega arith)

streams_right : (blocks : List block.Block) → EachIn IsWellFormed contexts.DeviceFront blocks → IsSound blocks → AreInRange (streams_in blocks)
unfolding breaks_u13 declared_settings at_stream
streams_right blocks each sound k d below =
    let all = declared_settings blocks in
    let ss = streams_in blocks in
    let s = get_or ss k d in
    let right : list_any (λ a. a.interface == s.number && is_wrong s.out a) all ≡ false =
    ap (λ o. option_map_or (λ (x : StreamInterface). list_any (λ a. a.interface == x.number && is_wrong x.out a) all) o false) (sym (got_at ss k d below))
    ∙ no_interface 13 ss (breaks_u13 all) (endpoints_within blocks sound) k below in
    subst (All IsSettingInRange) (sym (each_has_its_settings (entities_of blocks) all k d below))
    (settings_right s.out s.number all (all_ready contexts.DeviceFront blocks each) right)

pub in_range : (function : FunctionFields) → IsSoundFunction function → AreInRange function.streams
in_range function sound = subst AreInRange (sym sound.2.streams) (streams_right sound.0 sound.3.fields sound.1)
