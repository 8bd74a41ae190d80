-- Which operations the plain steps of requests do: which are stores, whatever the durable roots are, and
-- that none
-- names objects.
use Rattle.std.proofs.Common.{◌≡◌, ℕ, zero, suc, ℤ, pos, negsuc, Bool, true, false, nat_lt, nat_le, nat_eq, List, length}
use Rattle.std.proofs.Common.{Option, Some, None, ◌&&◌, if◌then◌else◌, refl, sym, ◌∙◌, subst}
use Rattle.std.specs.Prelude.{slice_get, []}
use Rattle.ap_base.specs.declared.reference.Ref.{Ref}
use Rattle.ap_base.specs.declared.reference.Item.{Item}
use Rattle.ap_base.specs.declared.place.Place.{Place}
use Rattle.run_types.specs.declared.key.Key.TheVariants as key
use Rattle.run_types.specs.declared.wait.On.{On}
use Rattle.run_types.specs.declared.fault.StepFault.{StepFault}
use Rattle.graph_model.specs.declared.types.Root.{Root}
use Rattle.graph_model.specs.declared.types.Value.{Value}
use Rattle.graph_model.specs.declared.types.Value.TheVariants.{Int, Long, Null, Obj as Object}
use Rattle.natives.specs.declared.requests.Request.{Request}
use Rattle.natives.specs.declared.requests.Reply.{Reply}
use Rattle.natives.specs.declared.requests.Request.TheVariants as ask
use Rattle.run_history.specs.declared.act.Op.{Op}
use Rattle.run_history.specs.declared.act.Op.TheVariants as op
use Rattle.run_history.specs.Recorded.{names_for}
use Rattle.run_history.specs.declared.act.PlainKey.{PlainKey}
use Rattle.run_history.specs.declared.act.PlainKey.TheVariants.{Object as ObjectKey, Class as ClassKey}
use Rattle.run_history.specs.declared.plain.Monitor.{Monitor}
use Rattle.run_history.specs.declared.plain.Progress.{Progress}
use Rattle.run_history.specs.declared.plain.Progress.TheVariants.{Untouched, BegunBy, Finished}
use Rattle.run_history.specs.Worlds.{Thread, World, depth_of, held}
use Rattle.graph_model.specs.Heaps.{object_at}
use Rattle.plain_model.specs.declared.throws.Throws.{Throws}
use Rattle.plain_model.specs.declared.throws.Throws.TheVariants as exception
use Rattle.plain_model.specs.Requests.{PlainReply}
use Rattle.plain_model.specs.Facts.{SetFacts, string_number}
use Rattle.plain_model.specs.Limits.{most_threads}
use Rattle.plain_model.specs.Codes.{taken_by}
use Rattle.plain_model.specs.Steps.{Does, IsOver, Step, Waits, WrongOperand, compares, ends_region, enters_held, exits_held}
use Rattle.plain_model.specs.Steps.{is_of, is_same, joins_thread, may_store, new_array, next_number, past_end, starts_thread}
use Rattle.plain_model.specs.Steps.{step, thread_of, throws, with_index, with_object, with_progress, with_reference}
use Rattle.shared_objects.specs.declared.rest.Rest.{Rest}
use Rattle.shared_objects.specs.Shown.{Numbers, Shown, item_value, ref_value}
use Rattle.shared_objects.specs.Plain.{plain_request}
use Rattle.shared_objects.specs.Worlds.{world_of}
use Rattle.step_forms.specs.declared.stepped.Stepped.{Stepped}
use Rattle.step_forms.specs.declared.stepped.Stepped.TheVariants as stepped
use Rattle.step_forms.specs.Becomes.{AsksStore, IsNoStore, given}
use Rattle.step_forms.specs.Follows.{IsStep, stored_as}

-- an operation that a request does, and that is no store
abbrev pub IsOwn : Op → Type 0
IsOwn (op.Stored place value) = ⊥
IsOwn (op.Asked place value) = ⊥
IsOwn op.Joined = ⊥
IsOwn (op.Guarded place) = ⊥
IsOwn op.Closing = ⊥
IsOwn op.Fenced = ⊥
IsOwn o = Unit {0}

-- It holds of steps that do such operations, and of those that do none.
record HoldsOfOwn (P : Step → Type 0) : Type 0 where
  does : (o : Op) (r : PlainReply) → IsOwn o → P (Does o r)
  waits : (on : On) → P (Waits on)
  wrong : P WrongOperand
  over : (f : StepFault) → P (IsOver f)

-- ---- what goes on with a step of which it holds

module _ (P : Step → Type 0) (own : HoldsOfOwn P) where
  either : (b : Bool) (x y : Step) → P x → P y → P (if b then x else y)
  either true x y at_true at_false = at_true
  either false x y at_true at_false = at_false

  module _ (set : SetFacts) (world : World) where
    thrown : (which : Throws) → P (throws set world which)
    thrown which = own.does _ _ tt

    progress : (t class : ℕ) (at : Option Progress) (go : Step) → P go
        → P (with_progress set world t class at go)
    progress t class None go holds = own.wrong
    progress t class (Some Untouched) go holds = own.does _ _ tt
    progress t class (Some (BegunBy u)) go holds = either (nat_eq u t) go _ holds (own.waits _)
    progress t class (Some Finished) go holds = holds

    new_one : (shape : ℕ) (count : ℤ) → P (new_array set world shape count)
    new_one shape (pos count) = own.does _ _ tt
    new_one shape (negsuc n) = own.does _ _ tt

    object : (v : Value) (test : ℕ → Bool) (go : ℕ → Step) → ((n : ℕ) → P (go n))
        → P (with_object set world v test go)
    object Null test go holds = own.does _ _ tt
    object (Object n) test go holds =
        either (nat_lt n (next_number set world) && test n) (go n) _ (holds n) own.wrong
    object (Int i) test go holds = own.wrong
    object (Long i) test go holds = own.wrong

    reference : (v : Value) (null : Step) (go : ℕ → Step) → P null → ((n : ℕ) → P (go n))
        → P (with_reference set world v null go)
    reference Null null go at_null holds = at_null
    reference (Object n) null go at_null holds =
        either (nat_lt n (next_number set world)) (go n) _ (holds n) own.wrong
    reference (Int i) null go at_null holds = own.wrong
    reference (Long i) null go at_null holds = own.wrong

    index : (n : ℕ) (at : ℤ) (past : Throws) (go : ℕ → Step) → ((i : ℕ) → P (go i))
        → P (with_index set world n at past go)
    index n (pos i) past go holds =
        either (nat_lt i (length (object_at world.heap n).values)) (go i) _ (holds i) (thrown past)
    index n (negsuc i) past go holds = thrown past

    entering : (t : ℕ) (k : PlainKey) (m : Option Monitor) → P (enters_held set world t k m)
    entering t k None = own.does _ _ tt
    entering t k (Some m) = either (nat_eq m.owner t) _ _ (own.does _ _ tt) (own.waits _)

    exiting : (t : ℕ) (k : PlainKey) (m : Option Monitor) → P (exits_held set world t k m)
    exiting t k None = own.does _ _ tt
    exiting t k (Some m) = either (nat_eq m.owner t) _ _ (own.does _ _ tt) (own.does _ _ tt)

    starting : (n : ℕ) (found : Option (ℕ × Thread)) → P (starts_thread set world n found)
    starting n (Some started) = own.does _ _ tt
    starting n None = either (nat_lt (length world.threads) most_threads) _ _ (own.does _ _ tt) (own.over _)

    joining : (n : ℕ) (found : Option (ℕ × Thread)) → P (joins_thread set world n found)
    joining n None = own.does _ _ tt
    joining n (Some started) = either started.1.ended _ _ (own.does _ _ tt) (own.waits _)

    comparing : (same : Option Bool) → P (compares set world same)
    comparing None = own.wrong
    comparing (Some same) = own.does _ _ tt

    ending : (depth : ℕ) → P (ends_region set world depth)
    ending zero = own.does _ _ tt
    ending (suc depth) = own.does _ _ tt

    -- It holds of the step of each request, if it holds of the stores of one that gives an item.
    all_steps : (number : Numbers) (t taken : ℕ) (request : Request Ref Item)
        → ((item : Item) → given request ≡ Some item → (p : Place) (v : Value) → P (stored_as p v))
        → P (step set world t taken (plain_request number request))
    unfolding step
    all_steps number t taken ask.Pause stored = own.does _ _ tt
    all_steps number t taken (ask.Broken f) stored = own.over f
    all_steps number t taken (ask.New from class) stored =
        progress t class (slice_get world.classes class) _ (own.does _ _ tt)
    all_steps number t taken (ask.NewArray from shape count) stored = new_one shape count
    all_steps number t taken (ask.NewText from count) stored = new_one (string_number set) count
    all_steps number t taken (ask.GetStatic from field) stored =
        progress t field.class (slice_get world.classes field.class) _ (own.does _ _ tt)
    all_steps number t taken (ask.PutStatic from field value) stored =
        progress t field.class (slice_get world.classes field.class) _ (stored value refl _ _)
    all_steps number t taken (ask.GetField from holder field) stored =
        object (ref_value number holder) _ _ (λ n. own.does _ _ tt)
    all_steps number t taken (ask.PutField from holder field value) stored =
        object (ref_value number holder) _ _ (λ n. stored value refl _ _)
    all_steps number t taken (ask.GetElement from holder at kind) stored =
        object (ref_value number holder) _ _
        (λ n. index n at (past_end set world kind) _ (λ i. own.does _ _ tt))
    all_steps number t taken (ask.PutElement from holder at kind value) stored =
        object (ref_value number holder) _ _ (λ n. index n at exception.ArrayIndexOutOfBounds _
        (λ i. either (may_store set world kind n (item_value number value)) _ _ (stored value refl _ _)
        (thrown exception.ArrayStore)))
    all_steps number t taken (ask.Length from holder) stored =
        object (ref_value number holder) _ _ (λ n. own.does _ _ tt)
    all_steps number t taken (ask.ClassOf from asked within) stored =
        object (ref_value number asked) _ _ (λ n. own.does _ _ tt)
    all_steps number t taken (ask.Cast from asked target) stored =
        reference (ref_value number asked) _ _ (own.does _ _ tt)
        (λ n. either (is_of set world target n) _ _ (own.does _ _ tt) (thrown exception.ClassCast))
    all_steps number t taken (ask.IsA from asked target) stored =
        reference (ref_value number asked) _ _ (own.does _ _ tt) (λ n. own.does _ _ tt)
    all_steps number t taken (ask.Same from left right) stored =
        comparing (is_same (ref_value number left) (ref_value number right))
    all_steps number t taken (ask.Enter from (key.Object r)) stored =
        object (ref_value number r) _ _ (λ n. entering t (ObjectKey n) (held world.monitors (ObjectKey n)))
    all_steps number t taken (ask.Enter from (key.Class class)) stored =
        entering t (ClassKey class) (held world.monitors (ClassKey class))
    all_steps number t taken (ask.Exit from (key.Object r)) stored =
        object (ref_value number r) _ _ (λ n. exiting t (ObjectKey n) (held world.monitors (ObjectKey n)))
    all_steps number t taken (ask.Exit from (key.Class class)) stored =
        exiting t (ClassKey class) (held world.monitors (ClassKey class))
    all_steps number t taken (ask.Start from thread) stored =
        object (ref_value number thread) _ _ (λ n. starting n (thread_of world n))
    all_steps number t taken (ask.Join from thread) stored =
        object (ref_value number thread) _ _ (λ n. joining n (thread_of world n))
    all_steps number t taken (ask.Init from class) stored =
        progress t class (slice_get world.classes class) _ (own.does _ _ tt)
    all_steps number t taken (ask.InitDone from class) stored = own.does _ _ tt
    all_steps number t taken (ask.Print from piece) stored =
        either (nat_lt 0 taken && nat_le taken (length piece)) _ _ (own.does _ _ tt) own.wrong
    all_steps number t taken (ask.Raise from class) stored = own.does _ _ tt
    all_steps number t taken (ask.Begin from) stored = own.does _ _ tt
    all_steps number t taken (ask.End from) stored = ending (depth_of world t)
    all_steps number t taken (ask.Leave uncaught) stored = own.does _ _ tt

-- ---- stores

abbrev IsOther : Step → Type 0
IsOther (Does o r) = IsOwn o
IsOther other = Unit {0}

other_own : HoldsOfOwn IsOther
other_own = record { does = λ o r is. is; waits = λ on. tt; wrong = tt; over = λ f. tt }

nothing_given : (item : Item) → None ≡ Some item → ⊥
nothing_given item e = cc

-- The step of a request that gives nothing is no store.
other_step : (set : SetFacts) (world : World) (number : Numbers) (t taken : ℕ) (request : Request Ref Item)
    → given request ≡ None → IsOther (step set world t taken (plain_request number request))
other_step set world number t taken request none = all_steps IsOther other_own set world number t taken
    request
    (λ item is. absurd (nothing_given item (sym none ∙ is)))

pub is_no_store : (set : SetFacts) (t : ℕ) (request : Request Ref Item) (before : Shown) (rest : Rest)
    (result : Stepped) (now : Shown) (rest_now : Rest) → IsStep set t request before rest result now rest_now
    → given request ≡ None → IsNoStore result
is_no_store set t request before rest (stepped.Did (op.Stored place value) r) now rest_now goes none =
    subst IsOther (goes.follows []).0 (other_step set (world_of [] before rest) before.number t
    (taken_by (op.Stored place value)) request none)
is_no_store set t request before rest result now rest_now goes none = tt

-- A request that stores by the plain step does so whatever the durable roots are.
pub stores_so : (set : SetFacts) (shown : Shown) (rest : Rest) (t : ℕ) (request : Request Ref Item)
    (place : Place)
    (kept : Item) → AsksStore set shown rest t request place kept → (roots : List Root) (taken : ℕ)
    → step set (world_of roots shown rest) t taken (plain_request shown.number request)
    ≡ stored_as place (item_value shown.number kept)
unfolding step
stores_so set shown rest t (ask.PutStatic from field value) place kept asks roots taken = asks
stores_so set shown rest t (ask.PutField from holder field value) place kept asks roots taken = asks
stores_so set shown rest t (ask.PutElement from holder at kind value) place kept asks roots taken = asks
stores_so set shown rest t request place kept asks roots taken =
    absurd (subst IsOther asks (other_step set (world_of [] shown rest) shown.number t 0 request refl))

-- ---- acts

-- an act of the operation names nothing
abbrev NamesNothing : Op → Type 0
NamesNothing op.Joined = ⊥
NamesNothing o = Unit {0}

abbrev DoesUnnamed : Step → Type 0
DoesUnnamed (Does o r) = NamesNothing o
DoesUnnamed other = Unit {0}

own_unnamed : (o : Op) (r : PlainReply) → IsOwn o → DoesUnnamed (Does o r)
own_unnamed op.Joined r is = is
own_unnamed o r is = tt

unnamed_own : HoldsOfOwn DoesUnnamed
unnamed_own = record { does = own_unnamed; waits = λ on. tt; wrong = tt; over = λ f. tt }

pub unnamed : (o : Op) (named : List ℕ) → NamesNothing o → names_for o named ≡ []
unnamed op.Joined named is = absurd is
unnamed o named is = refl

-- The act of a request's step names nothing.
pub names_nothing : (set : SetFacts) (t : ℕ) (request : Request Ref Item) (before : Shown) (rest : Rest)
    (o : Op)
    (r : Reply Ref Item) (now : Shown) (rest_now : Rest)
    → IsStep set t request before rest (stepped.Did o r) now
    rest_now
    → (named : List ℕ) → names_for o named ≡ []
names_nothing set t request before rest o r now rest_now goes named = unnamed o named
    (subst DoesUnnamed (goes.follows []).0 (all_steps DoesUnnamed unnamed_own set (world_of [] before rest)
    before.number t (taken_by o) request (λ item is p v. tt)))
