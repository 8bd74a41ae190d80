-- Plain runs: each visible act is the act of the plain step for its thread, and the operations of persistence keep their rules
-- (Shull, Huang and Torrellas, "AutoPersist", PLDI 2019, in the form that docs/MODEL.md gives).
use Rattle.std.specs.Prelude.{◌≡◌, ◌≢◌, ◌⊎◌, ℕ, ◌≤◌, Bool, true, false, not, List, [], ◌∷◌, ◌++◌, Option, Some, None, All}
use Rattle.std.specs.Prelude.{AllPairs}
use Rattle.ap_base.specs.declared.place.Place.{Place}
use Rattle.ap_base.specs.declared.place.Place.TheVariants.{Slot}
use Rattle.graph_model.specs.declared.types.Value.{Value}
use Rattle.graph_model.specs.declared.types.Value.TheVariants.{Int, Long, Null, Obj as Object}
use Rattle.graph_model.specs.declared.types.Graph.{Graph}
use Rattle.graph_model.specs.Heaps.{has_number, is_kept_slot}
use Rattle.run_history.specs.declared.act.Op.{Op}
use Rattle.run_history.specs.declared.act.Op.TheVariants as op
use Rattle.run_history.specs.Recorded.{Recorded, NamesRightly}
use Rattle.run_history.specs.Worlds.{World, depth_of}
use Rattle.run_history.specs.Knowing.{Knowledge, next_known, known_after, durable_at, pending_of, guard_of, has_guards}
use Rattle.run_history.specs.Knowing.{owes_fence, is_outermost}
use Rattle.run_history.specs.Wanted.{Wishes, NoWish, WantsNow, WantsAfter, IsClosed}
use Rattle.run_history.specs.Kept.{IsAllowedFrom}
use Rattle.plain_model.specs.Facts.{SetFacts}
use Rattle.plain_model.specs.First.{first_known}
use Rattle.plain_model.specs.Requests.{PlainRequest}
use Rattle.plain_model.specs.Steps.{step, op_of}
use Rattle.plain_model.specs.Codes.{Code, request_of, frames_after_op, frames_after, taken_by}

-- the operation that the step of this request does, if there is a request and its step does one
abbrev pub op_given : SetFacts → World → ℕ → ℕ → Option PlainRequest → Option Op
op_given set world t taken None = None
op_given set world t taken (Some request) = op_of (step set world t taken request)

-- the request of thread t is one whose step does this
abbrev pub IsAbout : SetFacts → Knowledge → Option PlainRequest → ℕ → Op → Type 0
IsAbout set known request t o = op_given set known.world t (taken_by o) request ≡ Some o

abbrev pub is_guarded_by : ℕ → Option ℕ → Bool
is_guarded_by t None = false
is_guarded_by t (Some u) = has_number (u ∷ []) t

-- whether thread t's own open region has guarded the place
abbrev pub has_guarded : Knowledge → ℕ → Place → Bool
has_guarded known t place = is_guarded_by t (guard_of known.guards place)

-- the place is a kept slot of an object that some thread wants
pub record IsKeptSlotOfWanted (known : Knowledge) (Now : Wishes) (place : Place) : Type 0 where
  pub thread : ℕ
  pub object : ℕ
  pub slot : ℕ
  pub is_slot : place ≡ Slot object slot
  pub is_kept : is_kept_slot known.world.heap object slot ≡ true
  pub wanted : Now thread object

-- Asked: none of the thread's Asked acts is pending, its request is one whose step stores this value there, the value is an
-- object that isn't durable, and the place is durable or a kept slot of a wanted object.
pub record MayAsk (set : SetFacts) (known : Knowledge) (Now : Wishes) (request : Option PlainRequest) (t : ℕ) (place : Place) (value : Value) : Type 0 where
  pub none_pending : pending_of known.asked t ≡ None
  pub is_about : IsAbout set known request t (op.Stored place value)
  pub volatile : (n : ℕ) × (value ≡ Object n) × (has_number known.durable n ≡ false)
  pub holder : (durable_at known place ≡ true) ⊎ IsKeptSlotOfWanted known Now place

-- Joined: it names at least one object, each once; each is wanted and wasn't durable.
pub record MayJoin (known : Knowledge) (Now : Wishes) (named : List ℕ) : Type 0 where
  pub some : named ≢ []
  pub once : AllPairs (λ m n. m ≢ n) named
  pub volatile : All (λ n. has_number known.durable n ≡ false) named
  pub wanted : All (λ n. (u : ℕ) × Now u n) named

-- the value is an object that isn't durable
abbrev pub is_volatile : List ℕ → Value → Bool
is_volatile durable (Object n) = not (has_number durable n)
is_volatile durable (Int i) = false
is_volatile durable (Long i) = false
is_volatile durable Null = false

-- Guarded: the thread's request is one whose step stores no volatile object at this durable place, its region is open and isn't
-- closing, and no open region has guarded the place.
pub record MayGuard (set : SetFacts) (known : Knowledge) (request : Option PlainRequest) (t : ℕ) (place : Place) : Type 0 where
  pub is_about : (value : Value) × IsAbout set known request t (op.Stored place value)
      × (is_volatile known.durable value ≡ false)
  pub is_open : depth_of known.world t ≢ 0
  pub not_closing : has_number known.closing t ≡ false
  pub durable : durable_at known place ≡ true
  pub unguarded : guard_of known.guards place ≡ None

-- Closing: the thread's request is the End that matches its outermost Begin, and its region has guarded a place and isn't closing.
pub record MayClose (set : SetFacts) (known : Knowledge) (request : Option PlainRequest) (t : ℕ) : Type 0 where
  pub is_about : IsAbout set known request t op.End
  pub outermost : is_outermost known t ≡ true
  pub guards : has_guards known.guards t ≡ true
  pub not_closing : has_number known.closing t ≡ false

-- Stored: a durable store is at no place that another thread's open region has guarded, and within a region at one that this
-- region has guarded.
pub record MayStore (set : SetFacts) (known : Knowledge) (request : Option PlainRequest) (t : ℕ) (place : Place) (value : Value) : Type 0 where
  pub is_about : IsAbout set known request t (op.Stored place value)
  pub no_race : durable_at known place ≡ true → (guard_of known.guards place ≡ None) ⊎ (has_guarded known t place ≡ true)
  pub guarded : durable_at known place ≡ true → depth_of known.world t ≢ 0 → has_guarded known t place ≡ true

-- End: where it ends a region that has guarded a place, that region is closing.
pub record MayEnd (set : SetFacts) (known : Knowledge) (request : Option PlainRequest) (t : ℕ) : Type 0 where
  pub is_about : IsAbout set known request t op.End
  pub closing : is_outermost known t ≡ true → has_guards known.guards t ≡ true → has_number known.closing t ≡ true

-- the rule of each operation, at the request of its thread
abbrev pub Rule : SetFacts → Knowledge → Wishes → Option PlainRequest → ℕ → List ℕ → Op → Type 0
Rule set known Now request t named (op.Asked place value) = MayAsk set known Now request t place value
Rule set known Now request t named op.Joined = MayJoin known Now named
Rule set known Now request t named (op.Guarded place) = MayGuard set known request t place
Rule set known Now request t named op.Closing = MayClose set known request t
Rule set known Now request t named op.Fenced = Unit {0}
Rule set known Now request t named (op.Stored place value) = MayStore set known request t place value
Rule set known Now request t named op.End = MayEnd set known request t
Rule set known Now request t named o = IsAbout set known request t o

abbrev pub is_fenced : Op → Bool
is_fenced op.Fenced = true
is_fenced o = false

-- What may come next, where the act's thread asks this request.
pub record MayAct (set : SetFacts) (known : Knowledge) (Now : Wishes) (request : Option PlainRequest) (a : Recorded) : Type 0 where
  -- the count of image calls never falls
  pub later : known.at ≤ a.act.at
  pub rule : Rule set known Now request a.act.thread a.named a.act.op
  pub named : NamesRightly a.act.op a.named
  -- a thread's next act after its durable store outside regions is Fenced, and Fenced comes nowhere else
  pub fence : is_fenced a.act.op ≡ owes_fence known.unfenced a.act.thread
  -- what a durable place refers to is durable
  pub is_closed : IsClosed (next_known known a)

module _ (set : SetFacts) (main : ℕ) (opening : Graph) {Frames : Type 0} (code : Code set main opening Frames) where
  -- these acts go on from what is known, from these frames and wishes
  abbrev pub GoesOn : Knowledge → List Frames → Wishes → List Recorded → Type 0
  GoesOn known frames Now [] = Unit {0}
  GoesOn known frames Now (a ∷ acts) =
      MayAct set known Now (request_of set main opening code known.world frames a.act.thread) a
      × GoesOn (next_known known a) (frames_after_op set main opening code known.world frames a.act.thread a.act.op) (WantsNow (next_known known a) Now) acts

  abbrev pub first_frames : List Frames
  first_frames = code.main_frames ∷ []

  -- A plain run of the class set, from the opening graph.
  abbrev pub IsPlainRun : List Recorded → Type 0
  IsPlainRun acts = GoesOn (first_known set opening) first_frames NoWish acts

  -- what is known, what is wanted and what each thread asks after these acts
  abbrev pub known_of : List Recorded → Knowledge
  known_of acts = known_after (first_known set opening) acts

  abbrev pub wants_of : List Recorded → Wishes
  wants_of acts = WantsAfter (first_known set opening) NoWish acts

  abbrev pub frames_of : List Recorded → List Frames
  frames_of acts = frames_after set main opening code (first_known set opening) first_frames acts

  abbrev pub request_after : List Recorded → ℕ → Option PlainRequest
  request_after acts t = request_of set main opening code (known_of acts).world (frames_of acts) t

-- A graph that a stop after these acts may leave.
abbrev pub IsAllowed : SetFacts → Graph → List Recorded → Graph → Type 0
IsAllowed set opening acts g = IsAllowedFrom (first_known set opening) acts g

-- The output of a history: the bytes of its Print acts, in order.
abbrev pub printed_by : Op → List ℕ
printed_by (op.Print bytes) = bytes
printed_by o = []

abbrev pub output_of : List Recorded → List ℕ
output_of [] = []
output_of (a ∷ acts) = printed_by a.act.op ++ output_of acts
