-- The rules of persistence as tests that compute: from what is known, what the thread's request does next, which objects are
-- wanted, and the act.
use Rattle.std.specs.Prelude.{◌≡◌, ◌↔◌, ℕ, nat_eq, nat_lt, Bool, true, false, not, ◌&&◌, ◌||◌, List, [], ◌∷◌, Option, Some, None, if◌then◌else◌}
use Rattle.ap_base.specs.declared.place.Place.{Place}
use Rattle.ap_base.specs.declared.place.Place.TheVariants.{Static, Slot}
use Rattle.graph_model.specs.declared.types.Value.{Value}
use Rattle.graph_model.specs.declared.types.Value.TheVariants.{Obj as Object}
use Rattle.graph_model.specs.Heaps.{has_number, is_kept_slot, place_is}
use Rattle.run_history.specs.declared.act.Op.{Op}
use Rattle.run_history.specs.declared.act.Op.TheVariants as op
use Rattle.run_history.specs.Recorded.{Recorded}
use Rattle.run_history.specs.Worlds.{depth_of, fits}
use Rattle.run_history.specs.Knowing.{Knowledge, known_after, Pending, durable_at, pending_of, guard_of, has_guards, owes_fence, is_outermost}
use Rattle.run_history.specs.Wanted.{Wishes, NoWish, WantsAfter, IsClosed}
use Rattle.plain_model.specs.Facts.{SetFacts}
use Rattle.plain_model.specs.Requests.{PlainRequest}
use Rattle.plain_model.specs.Codes.{is_persistent}
use Rattle.plain_model.specs.Runs.{op_given, IsAbout, MayAct, MayGuard, MayClose, MayStore, MayEnd, MayAsk, MayJoin, is_volatile, is_fenced}
use Rattle.audit_rules.specs.Closing.{AreThere, stays_closed}

-- the value that the operation stores at the place, if it does
abbrev pub stored_there : Op → Place → Option Value
stored_there (op.Stored p value) place = if place_is p place then Some value else None
stored_there o place = None

abbrev pub stored_next : Option Op → Place → Option Value
stored_next None place = None
stored_next (Some o) place = stored_there o place

abbrev pub is_end : Op → Bool
is_end op.End = true
is_end o = false

abbrev pub ends_next : Option Op → Bool
ends_next None = false
ends_next (Some o) = is_end o

-- there is a value, and it is no volatile object
abbrev pub is_durable_value : List ℕ → Option Value → Bool
is_durable_value durable None = false
is_durable_value durable (Some value) = not (is_volatile durable value)

abbrev pub is_nobody : Option ℕ → Bool
is_nobody None = true
is_nobody (Some u) = false

abbrev pub none_pending : Option Pending → Bool
none_pending None = true
none_pending (Some p) = false

abbrev pub guard_test : Knowledge → Option Op → ℕ → Place → Bool
guard_test known ahead t place =
    is_durable_value known.durable (stored_next ahead place)
    && (not (nat_eq (depth_of known.world t) 0)
    && (not (has_number known.closing t)
    && (durable_at known place && is_nobody (guard_of known.guards place))))

abbrev pub close_test : Knowledge → Option Op → ℕ → Bool
close_test known ahead t =
    ends_next ahead && (is_outermost known t && (has_guards known.guards t && not (has_number known.closing t)))

-- who may store at a durable place: outside regions anybody where nobody guards it, and always who guards it
abbrev pub may_store_by : Bool → ℕ → Option ℕ → Bool
may_store_by outside t None = outside
may_store_by outside t (Some u) = nat_eq u t

abbrev pub store_test : Knowledge → ℕ → Place → Bool
store_test known t place =
    not (durable_at known place) || may_store_by (nat_eq (depth_of known.world t) 0) t (guard_of known.guards place)

abbrev pub end_test : Knowledge → ℕ → Bool
end_test known t = not (is_outermost known t && has_guards known.guards t) || has_number known.closing t

-- the value is this object
abbrev pub is_object : ℕ → Option Value → Bool
is_object n (Some (Object m)) = nat_eq m n
is_object n value = false

-- the value is a volatile object, and what stands there is the same
abbrev pub asks_volatile : List ℕ → Value → Option Value → Bool
asks_volatile durable (Object n) next = not (has_number durable n) && is_object n next
asks_volatile durable value next = false

abbrev pub wanted_slot : Knowledge → (ℕ → Bool) → Place → Bool
wanted_slot known wanted (Static n) = false
wanted_slot known wanted (Slot n i) = is_kept_slot known.world.heap n i && wanted n

abbrev pub ask_test : Knowledge → Option Op → (ℕ → Bool) → ℕ → Place → Value → Bool
ask_test known ahead wanted t place value =
    none_pending (pending_of known.asked t)
    && (asks_volatile known.durable value (stored_next ahead place)
    && (durable_at known place || wanted_slot known wanted place))

-- each is volatile and wanted, and no two are the same
abbrev pub may_join_each : List ℕ → (ℕ → Bool) → List ℕ → Bool
may_join_each durable wanted [] = true
may_join_each durable wanted (n ∷ ns) =
    not (has_number durable n) && (wanted n && (not (has_number ns n) && may_join_each durable wanted ns))

abbrev pub is_some : List ℕ → Bool
is_some [] = false
is_some (n ∷ ns) = true

abbrev pub join_test : Knowledge → (ℕ → Bool) → List ℕ → Bool
join_test known wanted named = is_some named && may_join_each known.durable wanted named

-- The rule of an operation. `about` says of a visible operation whether its thread's request does it.
abbrev pub rule_test : Knowledge → Option Op → (ℕ → Bool) → Bool → ℕ → List ℕ → Op → Bool
rule_test known ahead wanted about t named (op.Asked place value) = ask_test known ahead wanted t place value
rule_test known ahead wanted about t named op.Joined = join_test known wanted named
rule_test known ahead wanted about t named (op.Guarded place) = guard_test known ahead t place
rule_test known ahead wanted about t named op.Closing = close_test known ahead t
rule_test known ahead wanted about t named op.Fenced = true
rule_test known ahead wanted about t named (op.Stored place value) = about && store_test known t place
rule_test known ahead wanted about t named op.End = about && end_test known t
rule_test known ahead wanted about t named o = about

abbrev pub same_bool : Bool → Bool → Bool
same_bool true b = b
same_bool false b = not b

abbrev pub names_test : Op → List ℕ → Bool
names_test op.Joined named = true
names_test o named = not (is_some named)

-- Whether the act may come next.
abbrev pub act_test : Knowledge → Option Op → (ℕ → Bool) → Bool → Recorded → Bool
act_test known ahead wanted about a =
    not (nat_lt a.act.at known.at)
    && (same_bool (is_fenced a.act.op) (owes_fence known.unfenced a.act.thread)
    && (names_test a.act.op a.named
    && (rule_test known ahead wanted about a.act.thread a.named a.act.op
    && stays_closed known a.named a.act.op)))

-- Of the objects that aren't durable, these are the ones that some thread wants. Of durable ones nothing is said: no rule asks.
abbrev pub AreWanted : List ℕ → (ℕ → Bool) → Wishes → Type 0
AreWanted durable wanted Now = (n : ℕ) → has_number durable n ≡ false → (wanted n ≡ true) ↔ ((u : ℕ) × Now u n)

-- The tests of the rules are exact.
module _ (set : SetFacts) (known : Knowledge) (request : Option PlainRequest) (t : ℕ) where
  abbrev pub ahead : Option Op
  ahead = op_given set known.world t 1 request

  pub record RegionsAreTested : Type 0 where
    pub guarded : (place : Place) → (guard_test known ahead t place ≡ true) ↔ MayGuard set known request t place
    pub closing : (close_test known ahead t ≡ true) ↔ MayClose set known request t
    pub stored : (place : Place) (value : Value) → IsAbout set known request t (op.Stored place value)
        → (store_test known t place ≡ true) ↔ MayStore set known request t place value
    pub ended : IsAbout set known request t op.End → (end_test known t ≡ true) ↔ MayEnd set known request t

  pub record WishesAreTested (wanted : ℕ → Bool) (Now : Wishes) : Type 0 where
    pub asked : (place : Place) (value : Value) → (ask_test known ahead wanted t place value ≡ true) ↔ MayAsk set known Now request t place value
    pub joined : (named : List ℕ) → (join_test known wanted named ≡ true) ↔ MayJoin known Now named

abbrev pub RegionsAreExact : Type 0
RegionsAreExact = (set : SetFacts) (known : Knowledge) (request : Option PlainRequest) (t : ℕ) → RegionsAreTested set known request t

-- Where these are the objects that are wanted after some acts.
abbrev pub WishesAreExact : Type 0
WishesAreExact = (set : SetFacts) (first : Knowledge) (acts : List Recorded) (request : Option PlainRequest) (t : ℕ) (wanted : ℕ → Bool)
    → AreWanted (known_after first acts).durable wanted (WantsAfter first NoWish acts) → WishesAreTested set (known_after first acts) request t wanted (WantsAfter first NoWish acts)

-- The test of an act is exact, where its operation's step is known.
abbrev pub ActsAreExact : Type 0
ActsAreExact = (set : SetFacts) (first : Knowledge) (acts : List Recorded) (request : Option PlainRequest) (wanted : ℕ → Bool) (about : Bool) (a : Recorded)
    → let known = known_after first acts in AreWanted known.durable wanted (WantsAfter first NoWish acts) → IsClosed known → AreThere known
    → (is_persistent a.act.op ≡ false → (about ≡ true) ↔ IsAbout set known request a.act.thread a.act.op)
    → (is_persistent a.act.op ≡ false → about ≡ true → fits known.world.heap a.act.op ≡ true)
    → (act_test known (op_given set known.world a.act.thread 1 request) wanted about a ≡ true)
    ↔ MayAct set known (WantsAfter first NoWish acts) request a
