-- A step that stores an object stores it at the same place in each later world.
use Rattle.std.proofs.Common.{◌≡◌, ℕ, ◌+◌, ◌<◌, ℤ, pos, negsuc, Bool, true, false, length, arith, refl, sym, ◌∙◌, ap, subst}
use Rattle.std.proofs.Common.{if◌then◌else◌, ◌&&◌, nat_eq, nat_lt}
use Rattle.std.specs.Prelude.{Option, Some, None, slice_get, not, unwrap_or}
use Rattle.std.proofs.lemmas.Bool.{eq-eqb}
use Rattle.ap_base.specs.declared.kind.Kind.{Kind}
use Rattle.ap_base.specs.declared.kind.Kind.TheVariants.{Z, B, C, S, I, J, L, Text}
use Rattle.ap_base.specs.declared.place.Place.{Place}
use Rattle.ap_base.specs.declared.place.Place.TheVariants.{Static, Slot}
use Rattle.graph_model.specs.declared.types.Value.{Value}
use Rattle.graph_model.specs.declared.types.Value.TheVariants.{Int, Long, Null, Obj as Object}
use Rattle.natives.specs.declared.requests.Request.TheVariants as ask
use Rattle.natives.specs.declared.requests.Reply.TheVariants as reply
use Rattle.run_history.specs.declared.act.Op.{Op}
use Rattle.run_history.specs.declared.act.Op.TheVariants as op
use Rattle.run_history.specs.declared.plain.Progress.{Progress}
use Rattle.run_history.specs.declared.plain.Progress.TheVariants.{Untouched, BegunBy, Finished}
use Rattle.run_history.specs.Knowing.{next_known}
use Rattle.run_history.specs.Worlds.{World}
use Rattle.plain_model.specs.declared.throws.Throws.{Throws}
use Rattle.plain_model.specs.declared.throws.Throws.TheVariants as exception
use Rattle.plain_model.specs.Facts.{SetFacts, string_number}
use Rattle.plain_model.specs.Requests.{PlainRequest, PlainReply}
use Rattle.plain_model.specs.Steps.{Step, Does, WrongOperand, step, throws, stores, own_kind, with_object, with_index}
use Rattle.plain_model.specs.Steps.{with_progress, puts_element, may_store, has_elements, is_of}
use Rattle.plain_model.specs.Runs.{known_of}
use Rattle.std.proofs.lemmas.List.{length_push}
use Rattle.std.proofs.lemmas.Bool.{ltb-true, lt-ltb, and_parts}
use Rattle.run_types.specs.declared.resolved.At.{At}
use Rattle.graph_model.specs.declared.types.Heap.{Heap}
use Rattle.graph_model.specs.declared.types.Obj.{Obj}
use Rattle.graph_model.specs.Heaps.{values_of, stored, with_fresh}
use Rattle.run_history.specs.Worlds.{after, heap_after_op}
use Rattle.run_history.proofs.Sizes.{stored-sizes, fresh_low}
use Rattle.plain_model.specs.Kinds.{narrowed}
use Rattle.plain_model.specs.Facts.{element_of, is_sub, may_hold}
use Rattle.plain_model.specs.Codes.{is_persistent}
use Rattle.plain_model.specs.Steps.{is_array_of, shape_of}
use Rattle.plain_model.proofs.Durable.{world-known_after_op}
use Rattle.lasting_steps.specs.Passing.{HasPassed, PassesIn}
use Rattle.lasting_steps.specs.Staying.{Grows, StoresObject, StoresOfObjectsStay, AskedStoresStay}
use Rattle.lasting_steps.proofs.Storing.{IsStore, NoStore, is-store, no-store, either, object, index, passed-progress}
use Rattle.lasting_steps.proofs.Storing.{stays-passed, stores_have_passed}

-- ---- heaps grow

pub grows_refl : (heap : Heap) → Grows heap heap
grows_refl heap = record { more = omega arith; shape = λ n below. refl; slots = λ n below. refl }

grows-fresh : (heap : Heap) (shape count : ℕ) → Grows heap (with_fresh heap shape count)
grows-fresh heap shape count = record {
  more = (let long : length (with_fresh heap shape count).objects ≡ length heap.objects + 1 =
      length_push heap.objects _ in omega (arith, long));
  shape = λ n below. ap (λ (o : Obj). o.shape) (fresh_low heap shape count n below);
  slots = λ n below. ap (λ (o : Obj). length o.values) (fresh_low heap shape count n below);
}

grows-stored : (heap : Heap) (place : Place) (value : Value) → Grows heap (stored heap place value)
grows-stored heap place value =
    let sizes = stored-sizes heap place value in
    let long = sizes.objects in record {
      more = omega (arith, long);
      shape = λ n below. sizes.shape n;
      slots = λ n below. sizes.slots n;
    }

pub grows : (heap : Heap) (o : Op) → Grows heap (heap_after_op heap o)
grows heap (op.Alloc n shape count) = grows-fresh heap shape count
grows heap (op.Throw n class) = grows-fresh heap class 0
grows heap (op.Stored place value) = grows-stored heap place value
grows heap o = grows_refl heap

-- ---- one step in two worlds

-- where the first stores, so does the second
kept-if : (b b' : Bool) (x x' y y' : Step) → (b ≡ true → b' ≡ true) → (b ≡ true → IsStore x → x' ≡ x) → NoStore y
    → IsStore (if b then x else y) → (if b' then x' else y') ≡ (if b then x else y)
kept-if true b' x x' y y' kept same none is = rw (kept refl) (same refl is)
kept-if false b' x x' y y' kept same none is = absurd (none is)

module _ (set : SetFacts) (w w' : World) (t : ℕ) (grown : Grows w.heap w'.heap) where
  below-still : (n : ℕ) (b b' : Bool) → (n < length w.heap.objects → b ≡ true → b' ≡ true)
      → (nat_lt n (length w.heap.objects) && b) ≡ true → (nat_lt n (length w'.heap.objects) && b') ≡ true
  below-still n b b' kept is =
      let parts = and_parts (nat_lt n (length w.heap.objects)) b is in
      let below = ltb-true n (length w.heap.objects) parts.0 in
      let more = grown.more in
      rw (lt-ltb n (length w'.heap.objects) (omega (arith, below, more)), kept below parts.1) refl

  same-object : (value : Value) (test test' : ℕ → Bool) (go go' : ℕ → Step)
      → ((n : ℕ) → n < length w.heap.objects → test n ≡ true → test' n ≡ true)
      → ((n : ℕ) → n < length w.heap.objects → IsStore (go n) → go' n ≡ go n) → IsStore (with_object set w value test go)
      → with_object set w' value test' go' ≡ with_object set w value test go
  same-object Null test test' go go' kept same is = absurd is
  same-object (Object n) test test' go go' kept same is =
      kept-if (nat_lt n (length w.heap.objects) && test n) (nat_lt n (length w'.heap.objects) && test' n) (go n) (go' n)
      WrongOperand WrongOperand
      (below-still n (test n) (test' n) (kept n))
      (λ both. same n (ltb-true n (length w.heap.objects) (and_parts (nat_lt n (length w.heap.objects)) (test n) both).0))
      (λ x. x) is
  same-object (Int i) test test' go go' kept same is = absurd is
  same-object (Long i) test test' go go' kept same is = absurd is

  same-index : (n : ℕ) (at : ℤ) (past : Throws) (go go' : ℕ → Step) → n < length w.heap.objects
      → ((i : ℕ) → IsStore (go i) → go' i ≡ go i)
      → IsStore (with_index set w n at past go) → with_index set w' n at past go' ≡ with_index set w n at past go
  same-index n (pos i) past go go' below same is =
      kept-if (nat_lt i (length (values_of w.heap n))) (nat_lt i (length (values_of w'.heap n))) (go i) (go' i) _ _
      (λ inside. ap (nat_lt i) (grown.slots n below) ∙ inside) (λ inside. same i) (λ x. x) is
  same-index n (negsuc i) past go go' below same is = absurd is

  same-progress : (class : ℕ) (progress progress' : Option Progress) (go : Step) → HasPassed t progress'
      → IsStore (with_progress set w t class progress go)
      → with_progress set w' t class progress' go ≡ with_progress set w t class progress go
  same-progress class progress progress' go passed is =
      through' progress' passed ∙ sym (through progress (passed-progress set w t class progress go is))
    where
      through : (at : Option Progress) → HasPassed t at → with_progress set w t class at go ≡ go
      through None own = absurd own
      through (Some Untouched) own = absurd own
      through (Some (BegunBy u)) own = let same : nat_eq u t ≡ true = eq-eqb u t own in rw same refl
      through (Some Finished) own = refl

      through' : (at : Option Progress) → HasPassed t at → with_progress set w' t class at go ≡ go
      through' None own = absurd own
      through' (Some Untouched) own = absurd own
      through' (Some (BegunBy u)) own = let same : nat_eq u t ≡ true = eq-eqb u t own in rw same refl
      through' (Some Finished) own = refl

  same-test : (f : ℕ → Bool) (n : ℕ) → n < length w.heap.objects → f (shape_of set w n) ≡ true → f (shape_of set w' n) ≡ true
  same-test f n below is = ap f (grown.shape n below) ∙ is

  -- the object that an element is given is there
  abbrev Given : Value → Type 0
  Given (Object m) = m < length w.heap.objects
  Given value = Unit {0}

  abbrev GivenIn : PlainRequest → Type 0
  GivenIn (ask.PutElement from array at kind value) = Given value
  GivenIn request = Unit {0}

  same-elements : (kind : Kind) (n : ℕ) → n < length w.heap.objects → has_elements set w' kind n ≡ has_elements set w kind n
  same-elements Text n below = ap (λ (s : ℕ). nat_eq s (string_number set)) (grown.shape n below)
  same-elements kind n below =
      ap (λ (s : ℕ). not (nat_eq s (string_number set)) && is_array_of set w kind (element_of set s)) (grown.shape n below)

  same-may : (kind : Kind) (n : ℕ) (value : Value) → n < length w.heap.objects → Given value
      → may_store set w' kind n value ≡ may_store set w kind n value
  same-may L n (Object m) below given =
      ap (λ s. may_hold set s (shape_of set w' m)) (grown.shape n below)
      ∙ ap (λ s. may_hold set (shape_of set w n) s) (grown.shape m given)
  same-may kind n value below given = refl

  same-puts : (n i : ℕ) (kind : Kind) (value : Value) → n < length w.heap.objects → Given value
      → IsStore (puts_element set w n kind i value)
      → puts_element set w' n kind i value ≡ puts_element set w n kind i value
  same-puts n i kind value below given is =
      kept-if (may_store set w kind n value) (may_store set w' kind n value) _ _ _ _
      (λ may. same-may kind n value below given ∙ may)
      (λ may stores_it. ap (λ (k : Kind). stores set w k (Slot n i) value)
      (ap (λ (s : ℕ). unwrap_or (element_of set s) kind) (grown.shape n below))) (λ x. x) is

  same-step : (request : PlainRequest) → GivenIn request → PassesIn w' t request → IsStore (step set w t 1 request)
      → step set w' t 1 request ≡ step set w t 1 request
  unfolding step
  same-step (ask.PutStatic from field value) given passes is =
      same-progress field.class (slice_get w.classes field.class) (slice_get w'.classes field.class)
      (stores set w field.kind (Static field.at) value) passes is
  same-step (ask.PutField from holder field value) given passes is =
      same-object holder (is_of set w field.class) (is_of set w' field.class) _ _
      (λ n below of. ap (λ s. is_sub set s field.class) (grown.shape n below) ∙ of) (λ n below stores_it. refl) is
  same-step (ask.PutElement from array at kind value) given passes is =
      same-object array (has_elements set w kind) (has_elements set w' kind) _ _
      (λ n below has. same-elements kind n below ∙ has)
      (λ n below. same-index n at exception.ArrayIndexOutOfBounds _ _ below (λ i. same-puts n i kind value below given)) is
  same-step request given passes is = absurd (no-store set w t 1 request tt is)

-- ---- what is stored was given

narrowed-object : (kind : Kind) (m : ℕ) → narrowed kind (Object m) ≡ Object m
narrowed-object Z m = refl
narrowed-object B m = refl
narrowed-object C m = refl
narrowed-object S m = refl
narrowed-object I m = refl
narrowed-object J m = refl
narrowed-object L m = refl
narrowed-object Text m = refl

abbrev StoresIt : ℕ → Step → Type 0
StoresIt m s = (place : Place) (n : ℕ) (r : PlainReply) → s ≡ Does (op.Stored place (Object n)) r → m ≡ n

it-stored : (set : SetFacts) (w : World) (kind : Kind) (place : Place) (m : ℕ) → StoresIt m (stores set w kind place (Object m))
it-stored set w kind place m place' n r is =
    let same : narrowed kind (Object m) ≡ Object n =
    (let e : ◌≡◌ {A = Step} (Does (op.Stored place (narrowed kind (Object m))) reply.Done)
    (Does (op.Stored place' (Object n)) r) = is in cc) in
    let it : ◌≡◌ {A = Value} (Object m) (Object n) = sym (narrowed-object kind m) ∙ same in cc

it-thrown : (set : SetFacts) (w : World) (m : ℕ) (which : Throws) → StoresIt m (throws set w which)
it-thrown set w m which place n r is = absurd (is-store (throws set w which) place (Object n) r is)

it-wrong : (m : ℕ) → StoresIt m WrongOperand
it-wrong m place n r is = absurd (is-store WrongOperand place (Object n) r is)

element-given : (set : SetFacts) (w : World) (t n : ℕ) (request : PlainRequest) (place : Place) (r : PlainReply)
    → step set w t 1 request ≡ Does (op.Stored place (Object n)) r → (m : ℕ) (from : At) (array : Value) (at : ℤ) (kind : Kind)
    → request ≡ ask.PutElement from array at kind (Object m) → m ≡ n
unfolding step
element-given set w t n request place r does m from array at kind is =
    object (StoresIt m) set w (it-thrown set w m) (it-wrong m) array (has_elements set w kind) _ (λ k.
    index (StoresIt m) set w (it-thrown set w m) (it-wrong m) k at exception.ArrayIndexOutOfBounds _ (λ i.
    either (StoresIt m) (may_store set w kind k (Object m)) _ _ (it-stored set w (own_kind set w kind k) (Slot k i) m)
    (it-thrown set w m exception.ArrayStore))) place n r (ap (step set w t 1) (sym is) ∙ does)

module _ (set : SetFacts) (w w' : World) (t : ℕ) (grown : Grows w.heap w'.heap) (place : Place) (n : ℕ) where
  is-given : (request : PlainRequest) → StoresObject set w t request place n → GivenIn set w w' t grown request
  is-given (ask.PutElement from array at kind (Object m)) stores_it =
      let same = element-given set w t n (ask.PutElement from array at kind (Object m)) place reply.Done stores_it.does m from
      array at kind refl in
      let there = stores_it.there in omega (arith, same, there)
  is-given (ask.PutElement from array at kind (Int i)) stores_it = tt
  is-given (ask.PutElement from array at kind (Long i)) stores_it = tt
  is-given (ask.PutElement from array at kind Null) stores_it = tt
  is-given request stores_it = tt

pub stores_of_objects_stay : StoresOfObjectsStay
stores_of_objects_stay set w w' t request place n stores_it grown passes =
    let is = is-store (step set w t 1 request) place (Object n) reply.Done stores_it.does in
    let there = stores_it.there in
    let more = grown.more in record {
      does = same-step set w w' t grown request (is-given set w w' t grown place n request stores_it) passes is
          ∙ stores_it.does;
      there = omega (arith, there, more);
    }

-- ---- act by act

grows-by : (world : World) (u : ℕ) (o : Op) (b : Bool) → Grows world.heap (if b then world else after world u o).heap
grows-by world u o true = grows_refl world.heap
grows-by world u o false = grows world.heap o

pub asked_stores_stay : {Frames : Type 0} → AskedStoresStay Frames
asked_stores_stay set main opening code acts a t request place n may stores_it =
    let known = known_of set main opening code acts in
    let next = next_known known a in
    let u = a.act.thread in
    let grown : Grows known.world.heap next.world.heap =
    subst (λ (x : World). Grows known.world.heap x.heap) (sym (world-known_after_op known u a.named a.act.op))
    (grows-by known.world u a.act.op (is_persistent a.act.op)) in
    stores_of_objects_stay set known.world next.world t request place n stores_it grown
    (stays-passed set main opening code acts a may t request
    (stores_have_passed set known.world t 1 request place (Object n) reply.Done stores_it.does))
