-- Acts leave the request of a thread that has asked a value, but its store, after which nothing is pending.
use Rattle.std.proofs.Common.{◌≡◌, inl, inr, ℕ, zero, suc, Bool, true, false, List, [], ◌++◌, ◌∷◌, refl, sym, ◌∙◌, ap, subst}
use Rattle.std.proofs.Common.{if◌then◌else◌, nat_eq}
use Rattle.std.specs.Prelude.{Option, Some, None, slice_get}
use Rattle.std.proofs.lemmas.Bool.{cases_Bool}
use Rattle.std.proofs.lemmas.Bool.Decides.{eqb_tells}
use Rattle.ap_base.specs.declared.kind.Kind.{Kind}
use Rattle.ap_base.specs.declared.place.Place.{Place}
use Rattle.ap_base.specs.declared.place.Place.TheVariants.{Static, Slot}
use Rattle.run_types.specs.declared.wait.On.TheVariants as on
use Rattle.graph_model.specs.declared.types.Value.{Value}
use Rattle.graph_model.specs.declared.types.Value.TheVariants.{Obj as Object}
use Rattle.graph_model.specs.declared.types.Graph.{Graph}
use Rattle.natives.specs.declared.requests.Request.TheVariants as ask
use Rattle.natives.specs.declared.requests.Reply.TheVariants as reply
use Rattle.run_history.specs.declared.act.Op.{Op}
use Rattle.run_history.specs.declared.act.Op.TheVariants as op
use Rattle.run_history.specs.declared.act.Stage.TheVariants as stage
use Rattle.run_history.specs.declared.plain.Progress.{Progress}
use Rattle.run_history.specs.declared.plain.Progress.TheVariants.{Untouched, BegunBy, Finished}
use Rattle.run_history.specs.Recorded.{Recorded}
use Rattle.run_history.specs.Knowing.{Knowledge, Pending, next_known, owes_fence}
use Rattle.run_history.specs.Worlds.{World, Thread}
use Rattle.plain_model.specs.declared.throws.Throws.{Throws}
use Rattle.plain_model.specs.declared.throws.Throws.TheVariants as exception
use Rattle.plain_model.specs.Facts.{SetFacts}
use Rattle.plain_model.specs.Requests.{PlainRequest, PlainReply}
use Rattle.plain_model.specs.Steps.{Step, Does, Waits, WrongOperand, op_of, step, throws, stores, own_kind, with_progress}
use Rattle.plain_model.specs.Steps.{may_store, has_elements, is_of}
use Rattle.plain_model.specs.Codes.{Code}
use Rattle.plain_model.specs.Runs.{MayAct, Rule, known_of, wants_of, request_after, op_given}
use Rattle.plain_model.specs.Ends.{wait_of, wait_at}
use Rattle.run_history.specs.Worlds.{after}
use Rattle.plain_model.specs.Kinds.{narrowed}
use Rattle.plain_model.specs.Codes.{is_persistent}
use Rattle.plain_model.proofs.Durable.{world-known_after_op}
use Rattle.std.proofs.lemmas.List.Elements.{All-head}
use Rattle.std.specs.Prelude.{◌≢◌, IsSome}
use Rattle.run_history.specs.Worlds.{at_thread, threads_after_op, new_thread}
use Rattle.run_history.specs.Knowing.{pending_of}
use Rattle.run_history.proofs.Grown.{known_after-append}
use Rattle.plain_model.specs.First.{first_known}
use Rattle.plain_model.specs.Laws.{IsStored}
use Rattle.plain_model.specs.Runs.{first_frames, frames_of}
use Rattle.plain_model.specs.Codes.{frames_after_op, answered_at, begun_by, asks, asks_live, request_of, taken_by}
use Rattle.plain_model.proofs.Appended.{frames_after-push}
use Rattle.plain_model.proofs.Pending.{pending_was_asked}
use Rattle.plain_model.proofs.Visible.{about_from_rule}
use Rattle.lasting_steps.specs.Staying.{StoresObject}
use Rattle.lasting_steps.specs.Asking.{AsksItsStore, AsksThere, ActsKeepAsking, AskersLive, OtherActsKeepAsking}
use Rattle.lasting_steps.proofs.Storing.{IsStore, NoStore, is-store, no-store, either, object, index, asked-step, unless-owed}
use Rattle.lasting_steps.proofs.Staying.{asked_stores_stay}

-- ---- a list of which another place changes, or which grows

pub get-append : {X : Type 0} (xs ys : List X) (i : ℕ) (x : X) → slice_get xs i ≡ Some x → slice_get (xs ++ ys) i ≡ Some x
get-append [] ys i x is = absurd (let e : None ≡ Some x = is in cc)
get-append (y ∷ xs) ys zero x is = is
get-append (y ∷ xs) ys (suc i) x is = get-append xs ys i x is

at-other : (f : Thread → Thread) (threads : List Thread) (u t : ℕ) → u ≢ t
    → slice_get (at_thread f threads u) t ≡ slice_get threads t
at-other f [] u t other = refl
at-other f (thread ∷ threads) zero zero other = absurd (other refl)
at-other f (thread ∷ threads) zero (suc t) other = refl
at-other f (thread ∷ threads) (suc u) zero other = refl
at-other f (thread ∷ threads) (suc u) (suc t) other = at-other f threads u t (λ e. other (ap suc e))

pub threads-other : (threads : List Thread) (u t : ℕ) (o : Op) (it : Thread) → u ≢ t → slice_get threads t ≡ Some it
    → slice_get (threads_after_op threads u o) t ≡ Some it
threads-other threads u t (op.Start n child) it other is = get-append threads (new_thread (Some n) ∷ []) t it is
threads-other threads u t op.Begin it other is = at-other _ threads u t other ∙ is
threads-other threads u t op.End it other is = at-other _ threads u t other ∙ is
threads-other threads u t (op.Ended uncaught) it other is = at-other _ threads u t other ∙ is
threads-other threads u t o it other is = is

-- ---- requests

module _ (set : SetFacts) (main : ℕ) (opening : Graph) {Frames : Type 0} (code : Code set main opening Frames) where
  answered-other : (world : World) (u taken : ℕ) (fs : List Frames) (k t : ℕ) → k ≢ t
      → slice_get (answered_at set main opening code world u taken fs k) t ≡ slice_get fs t
  answered-other world u taken [] k t other = refl
  answered-other world u taken (f ∷ fs) zero zero other = absurd (other refl)
  answered-other world u taken (f ∷ fs) zero (suc t) other = refl
  answered-other world u taken (f ∷ fs) (suc k) zero other = refl
  answered-other world u taken (f ∷ fs) (suc k) (suc t) other = answered-other world u taken fs k t (λ e. other (ap suc e))

  frames-other : (world : World) (frames : List Frames) (u t : ℕ) (o : Op) (f : Frames) → u ≢ t → slice_get frames t ≡ Some f
      → slice_get (frames_after_op set main opening code world frames u o) t ≡ Some f
  unfolding frames_after_op
  frames-other world frames u t o f other is = elim (is_persistent o) as (λ b.
      slice_get (if b then frames else answered_at set main opening code world u (taken_by o) frames u ++ begun_by set main
      opening code o) t ≡ Some f) [
        | true ↦ is
        | false ↦ get-append _ (begun_by set main opening code o) t f
            (answered-other world u (taken_by o) frames u t other ∙ is)
      ]

  frames-same : (world : World) (frames : List Frames) (u : ℕ) (o : Op) → is_persistent o ≡ true
      → frames_after_op set main opening code world frames u o ≡ frames
  unfolding frames_after_op
  frames-same world frames u o persistent = rw persistent refl

  -- who asks something is there, and has frames
  has-frames : (ended : Bool) (frames : Option Frames) (q : PlainRequest)
      → (if ended then None else asks set main opening code frames) ≡ Some q
      → (f : Frames) × (frames ≡ Some f)
  has-frames true frames q is = absurd (let e : ◌≡◌ {A = Option PlainRequest} None (Some q) = is in cc)
  has-frames false None q is = absurd (let e : ◌≡◌ {A = Option PlainRequest} None (Some q) = is in cc)
  has-frames false (Some f) q is = (f, refl)

  has-parts : (thread : Option Thread) (frames : Option Frames) (q : PlainRequest)
      → asks_live set main opening code thread frames ≡ Some q
      → (it : Thread) × (f : Frames) × (thread ≡ Some it) × (frames ≡ Some f)
  has-parts None frames q is = absurd (let e : ◌≡◌ {A = Option PlainRequest} None (Some q) = is in cc)
  has-parts (Some it) frames q is = let f = has-frames it.ended frames q is in (it, f.0, refl, f.1)

  request-by : (world world' : World) (frames frames' : List Frames) (t : ℕ) (q : PlainRequest)
      → request_of set main opening code world frames t ≡ Some q
      → ((it : Thread) → slice_get world.threads t ≡ Some it → slice_get world'.threads t ≡ Some it)
      → ((f : Frames) → slice_get frames t ≡ Some f → slice_get frames' t ≡ Some f)
      → request_of set main opening code world' frames' t ≡ Some q
  request-by world world' frames frames' t q is threads there =
      let parts = has-parts (slice_get world.threads t) (slice_get frames t) q is in
      let it = parts.0 in
      let f = parts.1 in
      let one : slice_get world'.threads t ≡ slice_get world.threads t = threads it parts.2 ∙ sym parts.2 in
      let two : slice_get frames' t ≡ slice_get frames t = there f parts.3 ∙ sym parts.3 in
      ap (λ x. asks_live set main opening code x (slice_get frames' t)) one
      ∙ ap (λ x. asks_live set main opening code (slice_get world.threads t) x) two ∙ is

  other-threads : (world : World) (u t : ℕ) (o : Op) (it : Thread) (b : Bool) → u ≢ t → slice_get world.threads t ≡ Some it
      → slice_get (if b then world else after world u o).threads t ≡ Some it
  other-threads world u t o it true other is = is
  other-threads world u t o it false other is = threads-other world.threads u t o it other is

-- ---- the step of a store

module _ (set : SetFacts) (w : World) (t : ℕ) where
  same-taken : (taken : ℕ) (request : PlainRequest) → IsStore (step set w t 1 request)
      → step set w t taken request ≡ step set w t 1 request
  unfolding step
  same-taken taken (ask.PutStatic from field value) is = refl
  same-taken taken (ask.PutField from holder field value) is = refl
  same-taken taken (ask.PutElement from array at kind value) is = refl
  same-taken taken request is = absurd (no-store set w t 1 request tt is)

  abbrev RepliesDone : Step → Type 0
  RepliesDone s = (place : Place) (value : Value) (r : PlainReply) → s ≡ Does (op.Stored place value) r → r ≡ reply.Done

  done-stored : (kind : Kind) (place : Place) (value : Value) → RepliesDone (stores set w kind place value)
  done-stored kind place value place' value' r is =
      let e : ◌≡◌ {A = Step} (Does (op.Stored place (narrowed kind value)) reply.Done) (Does (op.Stored place' value') r) =
      is in cc

  done-no : (s : Step) → NoStore s → RepliesDone s
  done-no s none place value r is = absurd (none (is-store s place value r is))

  done-progress : (class : ℕ) (progress : Option Progress) (go : Step) → RepliesDone go
      → RepliesDone (with_progress set w t class progress go)
  done-progress class None go done = done-no WrongOperand (λ x. x)
  done-progress class (Some Untouched) go done = done-no (Does (op.Init class stage.Begun) (reply.Init class)) (λ x. x)
  done-progress class (Some (BegunBy u)) go done =
      either RepliesDone (nat_eq u t) go (Waits (on.Init u)) done (done-no (Waits (on.Init u)) (λ x. x))
  done-progress class (Some Finished) go done = done

  done-thrown : (which : Throws) → RepliesDone (throws set w which)
  done-thrown which = done-no (throws set w which) (λ x. x)

  pub done-step : (request : PlainRequest) → RepliesDone (step set w t 1 request)
  unfolding step
  done-step (ask.PutStatic from field value) =
      done-progress field.class (slice_get w.classes field.class) _ (done-stored field.kind (Static field.at) value)
  done-step (ask.PutField from holder field value) =
      object RepliesDone set w done-thrown (done-no WrongOperand (λ x. x)) holder (is_of set w field.class) _
      (λ n. done-stored field.kind (Slot n field.at) value)
  done-step (ask.PutElement from array at kind value) =
      object RepliesDone set w done-thrown (done-no WrongOperand (λ x. x)) array (has_elements set w kind) _ (λ n.
      index RepliesDone set w done-thrown (done-no WrongOperand (λ x. x)) n at exception.ArrayIndexOutOfBounds _ (λ i.
      either RepliesDone (may_store set w kind n value) _ _ (done-stored (own_kind set w kind n) (Slot n i) value)
      (done-thrown exception.ArrayStore)))
  done-step request = done-no (step set w t 1 request) (no-store set w t 1 request tt)

-- ---- act by act

-- a list of one element
empty-not : {X : Type 0} (xs : List X) (y : X) (ys : List X) → [] ≡ xs ++ y ∷ ys → ⊥
empty-not [] y ys is = cc
empty-not (x ∷ xs) y ys is = cc

the-one : {X : Type 0} (x : X) (xs : List X) (y : X) (ys : List X) → x ∷ [] ≡ xs ++ y ∷ ys → x ≡ y
the-one x [] y ys is = cc
the-one x (z ∷ xs) y ys is = absurd (empty-not xs y ys cc)

module _ (set : SetFacts) (main : ℕ) (opening : Graph) {Frames : Type 0} (code : Code set main opening Frames)
    (acts : List Recorded) (a : Recorded) (t : ℕ)
    (may : MayAct set (known_of set main opening code acts) (wants_of set main opening code acts)
    (request_after set main opening code acts a.act.thread) a) where
  abbrev known : Knowledge
  known = known_of set main opening code acts

  abbrev next : Knowledge
  next = next_known known a

  abbrev frames : List Frames
  frames = frames_of set main opening code acts

  abbrev frames' : List Frames
  frames' = frames_after_op set main opening code known.world frames a.act.thread a.act.op

  world-is : next.world ≡ (if is_persistent a.act.op then known.world else after known.world a.act.thread a.act.op)
  world-is = world-known_after_op known a.act.thread a.named a.act.op

  -- another thread's act
  request-other : (q : PlainRequest) → a.act.thread ≢ t → request_of set main opening code known.world frames t ≡ Some q
      → request_of set main opening code next.world frames' t ≡ Some q
  request-other q other is = request-by set main opening code known.world next.world frames frames' t q is
      (λ it there. subst (λ (x : World). slice_get x.threads t ≡ Some it) (sym world-is)
      (other-threads set main opening code known.world a.act.thread t a.act.op it (is_persistent a.act.op) other there))
      (λ f there. frames-other set main opening code known.world frames a.act.thread t a.act.op f other there)

  request-same : (q : PlainRequest) → is_persistent a.act.op ≡ true
      → request_of set main opening code known.world frames t ≡ Some q
      → request_of set main opening code next.world frames' t ≡ Some q
  request-same q persistent is = request-by set main opening code known.world next.world frames frames' t q is
      (λ it there. subst (λ (x : World). slice_get x.threads t ≡ Some it)
      (sym (world-is ∙ ap (λ b. if b then known.world else after known.world a.act.thread a.act.op) persistent)) there)
      (λ f there. ap (λ (fs : List Frames). slice_get fs t)
      (frames-same set main opening code known.world frames a.act.thread a.act.op persistent) ∙ there)

  -- its own visible act is the store
  own-stores : (q : PlainRequest) (place : Place) (n : ℕ) → a.act.thread ≡ t → is_persistent a.act.op ≡ false
      → request_of set main opening code known.world frames t ≡ Some q → StoresObject set known.world t q place n
      → IsStored a.act.op
  own-stores q place n own visible is stores_it =
      let about = about_from_rule set known (wants_of set main opening code acts)
      (request_after set main opening code acts a.act.thread) a.act.thread a.named a.act.op may.rule visible in
      let about' : op_of (step set known.world t (taken_by a.act.op) q) ≡ Some a.act.op =
      subst (λ (r : Option PlainRequest). op_given set known.world t (taken_by a.act.op) r ≡ Some a.act.op) is
      (subst (λ u. op_given set known.world u (taken_by a.act.op) (request_after set main opening code acts u) ≡ Some a.act.op)
      own about) in
      let stores_step : step set known.world t (taken_by a.act.op) q ≡ Does (op.Stored place (Object n)) reply.Done =
      same-taken set known.world t (taken_by a.act.op) q
      (is-store (step set known.world t 1 q) place (Object n) reply.Done stores_it.does) ∙ stores_it.does in
      let same : ◌≡◌ {A = Option Op} (Some (op.Stored place (Object n))) (Some a.act.op) = sym (ap op_of stores_step)
      ∙ about' in
      let it : op.Stored place (Object n) ≡ a.act.op = cc in
      subst IsStored it tt

  abbrev Kept : Pending → Type 0
  Kept p =
      (q : PlainRequest) × (n : ℕ) × (request_of set main opening code next.world frames' t ≡ Some q) × (p.value ≡ Object n)
      × StoresObject set next.world t q p.place n

  -- what was pending before
  kept-before : (p : Pending) (q : PlainRequest) (n : ℕ) → request_of set main opening code known.world frames t ≡ Some q
      → p.value ≡ Object n
      → StoresObject set known.world t q p.place n → (a.act.thread ≡ t → IsStored a.act.op → ⊥) → Kept p
  kept-before p q n is value stores_it none =
      let stays = asked_stores_stay set main opening code acts a t q p.place n may stores_it in
      elim (cases_Bool (is_persistent a.act.op)) [
        | inl persistent ↦ (q, n, request-same q persistent is, value, stays)
        | inr visible ↦ elim (eqb_tells a.act.thread t) [
          | inl own ↦ absurd (none own.1 (own-stores q p.place n own.1 visible is stores_it))
          | inr other ↦ (q, n, request-other q other.1 is, value, stays)
        ]
      ]

  -- what this act asks
  kept-asked : (p : Pending) (at : Option PlainRequest) → AsksThere known a → a.act.thread ≡ t
      → a.act.op ≡ op.Asked p.place p.value
      → request_after set main opening code acts a.act.thread ≡ at → Kept p
  kept-asked p None there own asked is =
      let rule = subst (λ (x : Op). Rule set known (wants_of set main opening code acts)
      (request_after set main opening code acts a.act.thread) a.act.thread a.named x) asked may.rule in
      let about : op_given set known.world a.act.thread 1 None ≡ Some (op.Stored p.place p.value) =
      subst (λ (r : Option PlainRequest). op_given set known.world a.act.thread 1 r ≡ Some (op.Stored p.place p.value)) is
      rule.is_about in
      absurd (let no : ◌≡◌ {A = Option Op} None (Some (op.Stored p.place p.value)) = about in cc)
  kept-asked p (Some q) there own asked is =
      let rule = subst (λ (x : Op). Rule set known (wants_of set main opening code acts)
      (request_after set main opening code acts a.act.thread) a.act.thread a.named x) asked may.rule in
      let n = rule.volatile.0 in
      let value : p.value ≡ Object n = rule.volatile.1 in
      let step_is = asked-step set known (wants_of set main opening code acts)
      (request_after set main opening code acts a.act.thread) a p.place p.value q may asked is in
      let done = done-step set known.world a.act.thread q p.place p.value step_is.0 step_is.1 in
      let does : step set known.world a.act.thread 1 q ≡ Does (op.Stored p.place (Object n)) reply.Done =
      step_is.1 ∙ ap (λ (v : Value). Does (op.Stored p.place v) step_is.0) value
      ∙ ap (λ (r : PlainReply). Does (op.Stored p.place (Object n)) r) done in
      let stores_it : StoresObject set known.world t q p.place n =
      subst (λ u. StoresObject set known.world u q p.place n) own
      (record { does = does; there = there p.place n (asked ∙ ap (λ (v : Value). op.Asked p.place v) value) }) in
      let at_t : request_after set main opening code acts t ≡ Some q =
      subst (λ u. request_after set main opening code acts u ≡ Some q) own is in
      let persistent : is_persistent a.act.op ≡ true = ap is_persistent asked in
      (q, n, request-same q persistent at_t, value, asked_stores_stay set main opening code acts a t q p.place n may stores_it)

  keeps-before : AsksItsStore set known (request_after set main opening code acts t) t → (p : Pending)
      → (before : pending_of known.asked t ≡ Some p) → (a.act.thread ≡ t → IsStored a.act.op → ⊥) → Kept p
  keeps-before old p before none = let o = old p before in kept-before p o.0 o.1 o.2 o.3 o.4 none

  keeps : AsksThere known a → AsksItsStore set known (request_after set main opening code acts t) t
      → (p : Pending) → pending_of next.asked t ≡ Some p → Kept p
  keeps there old p is = elim (pending_was_asked known (a ∷ []) t p is) [
    | inl before ↦ keeps-before old p before.0
        (All-head (λ (b : Recorded). b.act.thread ≡ t → IsStored b.act.op → ⊥) a [] before.1)
    | inr was ↦
        (let same : a ≡ was.asked = the-one a was.front was.asked was.rest was.is_here in
        kept-asked p (request_after set main opening code acts a.act.thread) there
        (ap (λ (b : Recorded). b.act.thread) same ∙ was.by_thread) (ap (λ (b : Recorded). b.act.op) same ∙ was.is_asked) refl)
  ]

  -- what another thread asks isn't this one's
  keeps-other : a.act.thread ≢ t → AsksItsStore set known (request_after set main opening code acts t) t
      → (p : Pending) → pending_of next.asked t ≡ Some p → Kept p
  keeps-other other old p is = elim (pending_was_asked known (a ∷ []) t p is) [
    | inl before ↦ keeps-before old p before.0
        (All-head (λ (b : Recorded). b.act.thread ≡ t → IsStored b.act.op → ⊥) a [] before.1)
    | inr was ↦ absurd
        (let same : a ≡ was.asked = the-one a was.front was.asked was.rest was.is_here in
        other (ap (λ (b : Recorded). b.act.thread) same ∙ was.by_thread))
  ]

  pub kept : ((p : Pending) → pending_of next.asked t ≡ Some p → Kept p)
      → AsksItsStore set (known_of set main opening code (acts ++ a ∷ []))
      (request_after set main opening code (acts ++ a ∷ []) t) t
  kept all =
      let known-is : known_of set main opening code (acts ++ a ∷ []) ≡ next =
      known_after-append (first_known set opening) acts a in
      let frames-is : frames_of set main opening code (acts ++ a ∷ []) ≡ frames' =
      frames_after-push set main opening code (first_known set opening) (first_frames set main opening code) acts a in
      subst (λ (k : Knowledge). AsksItsStore set k
      (request_of set main opening code k.world (frames_of set main opening code (acts ++ a ∷ [])) t) t) (sym known-is)
      (subst (λ (fs : List Frames). AsksItsStore set next (request_of set main opening code next.world fs t) t) (sym frames-is)
      all)

pub acts_keep_asking : {Frames : Type 0} → ActsKeepAsking Frames
acts_keep_asking set main opening code acts a t may there old =
    kept set main opening code acts a t may (keeps set main opening code acts a t may there old)

pub other_acts_keep_asking : {Frames : Type 0} → OtherActsKeepAsking Frames
other_acts_keep_asking set main opening code acts a t may other old =
    kept set main opening code acts a t may (keeps-other set main opening code acts a t may other old)

quiet-store : (set : SetFacts) (w : World) (t n : ℕ) (q : PlainRequest) (place : Place) → StoresObject set w t q place n
    → (at : Option PlainRequest)
    → at ≡ Some q → IsSome at × (wait_at set w t at ≡ None)
quiet-store set w t n q place stores_it at is =
    subst (λ (x : Option PlainRequest). IsSome x × (wait_at set w t x ≡ None)) (sym is) (refl, ap wait_of stores_it.does)

pub askers_live : AskersLive
askers_live set known requests t p asks_it pending =
    let o = asks_it p pending in
    let quiet = quiet-store set known.world t o.1 o.0 p.place o.4 (requests t) o.2 in
    (quiet.0, unless-owed (owes_fence known.unfenced t) (wait_at set known.world t (requests t)) quiet.1)
