-- What code keeps of persistence, and the tests of the rules by it.
use Rattle.std.specs.Prelude.{◌≡◌, ℕ, nat_eq, Bool, true, false, not, ◌&&◌, ◌||◌, ◌≤◌, length, All, slice_set, filter, if◌then◌else◌, List, [], ◌∷◌, ◌++◌, map, slice_index_or, Option, Some, None}
use Rattle.ap_base.specs.declared.place.Place.{Place}
use Rattle.ap_base.specs.declared.place.Place.TheVariants.{Static, Slot}
use Rattle.graph_model.specs.declared.types.Value.{Value}
use Rattle.graph_model.specs.declared.types.Value.TheVariants.{Int, Long, Null, Obj as Object}
use Rattle.graph_model.specs.Heaps.{has_number, kept_values_of}
use Rattle.graph_model.specs.declared.types.Heap.{Heap}
use Rattle.audit_rules.specs.Closing.{stays_closed}
use Rattle.run_history.specs.declared.act.Op.{Op}
use Rattle.run_history.specs.declared.act.Op.TheVariants as op
use Rattle.run_history.specs.Worlds.{depth_of}
use Rattle.run_history.specs.Knowing.{Knowledge, known_after_op, Pending, Guard, Unfenced, pending_of, guard_of, has_guards, owes_fence, is_root}
use Rattle.audit_rules.specs.Rules.{stored_next, ends_next, is_nobody, is_object, none_pending, may_join_each, may_store_by, is_some, join_test, same_bool, act_test, ask_test, guard_test, close_test, store_test, end_test}
use Rattle.plain_model.specs.Runs.{is_fenced}
use Rattle.audit_keeping.specs.declared.keeping.Asked.{Asked}
use Rattle.audit_keeping.specs.declared.keeping.Guarded.{Guarded}
use Rattle.audit_keeping.specs.declared.keeping.Owed.{Owed}
use Rattle.audit_keeping.specs.declared.keeping.Keeping.{Keeping}

abbrev pub pending_in : Asked → Pending
pending_in p = record { thread = p.thread; place = p.place; value = p.value }

abbrev pub guard_in : Guarded → Guard
guard_in g = record { thread = g.thread; place = g.place }

abbrev pub owed_in : Owed → Unfenced
owed_in u = record { thread = u.thread; place = u.place }

abbrev pub is_marked : List Bool → ℕ → Bool
is_marked marks n = slice_index_or marks n false

abbrev pub volatile_in : List Bool → Value → Bool
volatile_in marks (Object n) = not (is_marked marks n)
volatile_in marks (Int i) = false
volatile_in marks (Long i) = false
volatile_in marks Null = false

abbrev pub durable_in : List Bool → List Bool → Place → Bool
durable_in roots marks (Static n) = is_marked roots n
durable_in roots marks (Slot n i) = is_marked marks n

abbrev pub durable_value_in : List Bool → Option Value → Bool
durable_value_in marks None = false
durable_value_in marks (Some value) = not (volatile_in marks value)

abbrev pub guard_test_in : Keeping → Option Op → ℕ → ℕ → Place → Bool
guard_test_in k ahead t depth place =
    durable_value_in k.durable.items (stored_next ahead place)
    && (not (nat_eq depth 0)
    && (not (has_number k.closing.items t)
    && (durable_in k.roots.items k.durable.items place && is_nobody (guard_of (map guard_in k.guards.items) place))))

abbrev pub close_test_in : Keeping → Option Op → ℕ → ℕ → Bool
close_test_in k ahead t depth =
    ends_next ahead && (nat_eq depth 1 && (has_guards (map guard_in k.guards.items) t && not (has_number k.closing.items t)))

abbrev pub store_test_in : Keeping → ℕ → ℕ → Place → Bool
store_test_in k t depth place =
    not (durable_in k.roots.items k.durable.items place) || may_store_by (nat_eq depth 0) t (guard_of (map guard_in k.guards.items) place)

abbrev pub end_test_in : Keeping → ℕ → ℕ → Bool
end_test_in k t depth = not (nat_eq depth 1 && has_guards (map guard_in k.guards.items) t) || has_number k.closing.items t

-- some thread has marked the object, which it wants where it isn't durable
abbrev pub wanted_in : List Asked → ℕ → Bool
wanted_in [] n = false
wanted_in (p ∷ ps) n = is_marked p.marks n || wanted_in ps n

-- no thread has marked more than so many objects
abbrev pub AreShort : ℕ → List Asked → Type 0
AreShort count asked = All (λ (p : Asked). length p.marks ≤ count) asked

abbrev pub asks_volatile_in : List Bool → Value → Option Value → Bool
asks_volatile_in marks (Object n) next = not (is_marked marks n) && is_object n next
asks_volatile_in marks (Int i) next = false
asks_volatile_in marks (Long i) next = false
asks_volatile_in marks Null next = false

abbrev pub wanted_slot_in : List Asked → Place → Bool
wanted_slot_in asked (Static n) = false
wanted_slot_in asked (Slot n i) = wanted_in asked n

abbrev pub ask_test_in : Keeping → Option Op → ℕ → Place → Value → Bool
ask_test_in k ahead t place value =
    none_pending (pending_of (map pending_in k.asked.items) t)
    && (asks_volatile_in k.durable.items value (stored_next ahead place)
    && (durable_in k.roots.items k.durable.items place || wanted_slot_in k.asked.items place))

-- each object in turn is volatile and wanted, and is marked then
abbrev pub mark_test : List Bool → List Asked → List ℕ → Bool
mark_test marks asked [] = true
mark_test marks asked (n ∷ ns) = not (is_marked marks n) && (wanted_in asked n && mark_test (slice_set marks n true) asked ns)

abbrev pub marked_with : List Bool → List ℕ → List Bool
marked_with marks [] = marks
marked_with marks (n ∷ ns) = marked_with (slice_set marks n true) ns

-- each mark tells whether its object is durable
abbrev pub AreMarks : List ℕ → List Bool → Type 0
AreMarks durable marks = (n : ℕ) → has_number durable n ≡ is_marked marks n

-- Marking objects one by one tells whether they may become durable, and marks them then.
pub record IsMarkedWith (durable : List ℕ) (marks : List Bool) (asked : List Asked) (named : List ℕ) : Type 0 where
  pub tests : mark_test marks asked named ≡ may_join_each durable (wanted_in asked) named
  pub marks_now : mark_test marks asked named ≡ true → AreMarks (durable ++ named) (marked_with marks named)

abbrev pub MarkingIsJoining : Type 0
MarkingIsJoining = (durable : List ℕ) (marks : List Bool) (asked : List Asked) (named : List ℕ) → AreMarks durable marks
    → AreShort (length marks) asked → IsMarkedWith durable marks asked named

-- The rule of an operation that isn't Joined, by what is kept.
abbrev pub rule_test_in : Keeping → Option Op → Bool → ℕ → ℕ → Op → Bool
rule_test_in k ahead about t depth (op.Asked place value) = ask_test_in k ahead t place value
rule_test_in k ahead about t depth (op.Guarded place) = guard_test_in k ahead t depth place
rule_test_in k ahead about t depth op.Closing = close_test_in k ahead t depth
rule_test_in k ahead about t depth op.Fenced = true
rule_test_in k ahead about t depth (op.Stored place value) =
    about && (store_test_in k t depth place && not (durable_in k.roots.items k.durable.items place && volatile_in k.durable.items value))
rule_test_in k ahead about t depth op.End = about && end_test_in k t depth
rule_test_in k ahead about t depth op.Joined = false
rule_test_in k ahead about t depth o = about

-- whether an act that isn't Joined may come next, its time and names aside
abbrev pub act_test_in : Keeping → Option Op → Bool → ℕ → ℕ → Op → Bool
act_test_in k ahead about t depth o =
    same_bool (is_fenced o) (owes_fence (map owed_in k.unfenced.items) t) && rule_test_in k ahead about t depth o

-- none of the values is a volatile object, by the marks
abbrev pub are_durable_in : List Bool → List Value → Bool
are_durable_in marks [] = true
are_durable_in marks (v ∷ vs) = not (volatile_in marks v) && are_durable_in marks vs

abbrev pub refer_durably_in : Heap → List Bool → List ℕ → Bool
refer_durably_in heap marks [] = true
refer_durably_in heap marks (n ∷ ns) = are_durable_in marks (kept_values_of heap n) && refer_durably_in heap marks ns

-- Whether the objects that a Joined act names may become durable: the test of the marks as they were, then that of the new ones.
abbrev pub join_test_in : Heap → Keeping → List ℕ → Bool
join_test_in heap k named =
    is_some named && (mark_test k.durable.items k.asked.items named && refer_durably_in heap (marked_with k.durable.items named) named)

-- what is kept, as lists
pub record Lists : Type 0 where
  pub roots : List Bool
  pub durable : List Bool
  pub asked : List Asked
  pub guards : List Guarded
  pub closing : List ℕ
  pub unfenced : List Owed

abbrev pub lists_of : Keeping → Lists
lists_of k = record {
  roots = k.roots.items;
  durable = k.durable.items;
  asked = k.asked.items;
  guards = k.guards.items;
  closing = k.closing.items;
  unfenced = k.unfenced.items;
}

abbrev pub is_other_asked : ℕ → Asked → Bool
is_other_asked t p = not (nat_eq p.thread t)

abbrev pub is_other_guarded : ℕ → Guarded → Bool
is_other_guarded t g = not (nat_eq g.thread t)

abbrev pub is_other_owed : ℕ → Owed → Bool
is_other_owed t u = not (nat_eq u.thread t)

abbrev pub is_other : ℕ → ℕ → Bool
is_other t u = not (nat_eq u t)

abbrev pub lists_after_store : Lists → ℕ → Place → Bool → Lists
lists_after_store l t place is_single = record l {
  asked = filter (is_other_asked t) l.asked;
  unfenced = (if is_single then l.unfenced ++ record { thread = t; place = place } ∷ [] else l.unfenced);
}

abbrev pub lists_after_end : Lists → ℕ → Bool → Lists
lists_after_end l t true = record l { guards = filter (is_other_guarded t) l.guards; closing = filter (is_other t) l.closing }
lists_after_end l t false = l

abbrev pub with_object : Lists → Lists
with_object l = record l { durable = l.durable ++ false ∷ [] }

-- with one more asked value
abbrev pub with_asked : Lists → Asked → Lists
with_asked l p = record l { asked = l.asked ++ p ∷ [] }

-- an operation that isn't Asked
abbrev pub IsNoAsk : Op → Type 0
IsNoAsk (op.Asked place value) = ⊥
IsNoAsk o = Unit {0}

-- an operation that is neither Asked nor Joined
abbrev pub IsTold : Op → Type 0
IsTold op.Joined = ⊥
IsTold (op.Asked place value) = ⊥
IsTold o = Unit {0}

-- what is kept after an operation of thread t that isn't Asked, where its region was so deep
abbrev pub next_lists : Lists → ℕ → ℕ → List ℕ → Op → Lists
next_lists l t depth named op.Joined = record l { durable = marked_with l.durable named }
next_lists l t depth named (op.Guarded place) = record l { guards = l.guards ++ record { thread = t; place = place } ∷ [] }
next_lists l t depth named op.Closing = record l { closing = l.closing ++ t ∷ [] }
next_lists l t depth named op.Fenced = record l { unfenced = filter (is_other_owed t) l.unfenced }
next_lists l t depth named (op.Stored place value) = lists_after_store l t place (durable_in l.roots l.durable place && nat_eq depth 0)
next_lists l t depth named op.End = lists_after_end l t (nat_eq depth 1)
next_lists l t depth named (op.Alloc n shape count) = with_object l
next_lists l t depth named (op.Throw n class) = with_object l
next_lists l t depth named o = l

-- a Joined act's objects pass the test
abbrev pub IsMarkable : Lists → List ℕ → Op → Type 0
IsMarkable l named op.Joined = mark_test l.durable l.asked named ≡ true
IsMarkable l named o = Unit {0}

-- It keeps what is known.
pub record Keeps (known : Knowledge) (k : Lists) : Type 0 where
  pub short : AreShort (length k.durable) k.asked
  pub roots : (n : ℕ) → is_root known.world.heap.roots n ≡ is_marked k.roots n
  pub durable : (n : ℕ) → has_number known.durable n ≡ is_marked k.durable n
  pub asked : known.asked ≡ map pending_in k.asked
  pub guards : known.guards ≡ map guard_in k.guards
  pub closing : known.closing ≡ k.closing
  pub unfenced : known.unfenced ≡ map owed_in k.unfenced

pub record AreTheRules (known : Knowledge) (k : Keeping) (ahead : Option Op) (t : ℕ) : Type 0 where
  pub guarded : (place : Place) → guard_test_in k ahead t (depth_of known.world t) place ≡ guard_test known ahead t place
  pub closing : close_test_in k ahead t (depth_of known.world t) ≡ close_test known ahead t
  pub stored : (place : Place) → store_test_in k t (depth_of known.world t) place ≡ store_test known t place
  pub asked : (place : Place) (value : Value) → ask_test_in k ahead t place value ≡ ask_test known ahead (wanted_in k.asked.items) t place value
  pub ended : end_test_in k t (depth_of known.world t) ≡ end_test known t

-- The tests by what is kept are the tests by what is known, where the region is as deep as its thread's.
abbrev pub KeptTestsAreRules : Type 0
KeptTestsAreRules = (known : Knowledge) (k : Keeping) (ahead : Option Op) (t : ℕ) → Keeps known (lists_of k) → AreTheRules known k ahead t

-- What is kept is what is known, act by act.
abbrev pub KeptIsKnown : Type 0
KeptIsKnown = (known : Knowledge) (l : Lists) (t : ℕ) (named : List ℕ) (o : Op) → Keeps known l → IsNoAsk o → IsMarkable l named o
    → Keeps (known_after_op known t named o) (next_lists l t (depth_of known.world t) named o)

-- So it is where a thread has asked a value, whatever marks come with it that aren't too long.
abbrev pub AskedIsKnown : Type 0
AskedIsKnown = (known : Knowledge) (l : Lists) (p : Asked) (named : List ℕ) → Keeps known l → length p.marks ≤ length l.durable
    → Keeps (known_after_op known p.thread named (op.Asked p.place p.value)) (with_asked l p)

-- The test of an act by what is kept is that by what is known, for each act but Joined.
abbrev pub IsOther : Op → Type 0
IsOther op.Joined = ⊥
IsOther o = Unit {0}

abbrev pub ActsAreTested : Type 0
ActsAreTested = (known : Knowledge) (k : Keeping) (ahead : Option Op) (about : Bool) (t at : ℕ) (o : Op) → Keeps known (lists_of k) → IsOther o → known.at ≤ at
    → act_test_in k ahead about t (depth_of known.world t) o
    ≡ act_test known ahead (wanted_in k.asked.items) about (record { act = record { thread = t; at = at; op = o }; named = [] })

-- The test of a Joined act by what is kept is its rule, with what stays closed.
abbrev pub JoinedIsTested : Type 0
JoinedIsTested = (known : Knowledge) (k : Keeping) (named : List ℕ) → Keeps known (lists_of k)
    → join_test_in known.world.heap k named ≡ (join_test known (wanted_in k.asked.items) named && stays_closed known named op.Joined)
