-- As many threads have frames as were started.
use Rattle.std.proofs.Common.{◌≡◌, ℕ, zero, suc, ◌+◌, List, [], ◌∷◌, ◌++◌, length, map, refl, sym, ◌∙◌, ap, subst, arith}
use Rattle.std.specs.Prelude.{slice_set}
use Rattle.std.proofs.lemmas.List.{length-append, length-map, length-set}
use Rattle.ap_base.specs.declared.reference.Ref.{Ref}
use Rattle.ap_base.specs.declared.reference.Item.{Item}
use Rattle.natives.specs.declared.requests.Request.{Request}
use Rattle.natives.specs.declared.requests.Reply.{Reply}
use Rattle.run_history.specs.declared.act.Op.{Op}
use Rattle.run_history.specs.declared.act.Op.TheVariants as op
use Rattle.run_history.specs.Worlds.{Thread, World, at_thread, threads_after_op}
use Rattle.plain_model.specs.Codes.{begun_by}
use Rattle.shared_objects.specs.Worlds.{plain_thread}
use Rattle.run_forms.specs.Views.{ThreadFrames, plain_frames}
use Rattle.run_forms.specs.Standing.{plain_code}
use Rattle.twin_forms.specs.Table.{Entry}
use Rattle.machine_threads.specs.Passed.{Opening, Machine, shown_in}
use Rattle.machine_threads.specs.Passed.{DoesRequest}
use Rattle.machine_threads.specs.Passed.{Begins}

at-length : (f : Thread → Thread) (ths : List Thread) (t : ℕ) → length (at_thread f ths t) ≡ length ths
at-length f [] t = refl
at-length f (th ∷ ths) zero = refl
at-length f (th ∷ ths) (suc t) = ap suc (at-length f ths t)

-- how many threads an operation starts
abbrev pub starts_of : Op → ℕ
starts_of (op.Start n child) = 1
starts_of o = 0

threads-length : (ths : List Thread) (t : ℕ) (o : Op) → length (threads_after_op ths t o) ≡ length ths + starts_of o
threads-length ths t (op.Start n child) = length-append ths _
threads-length ths t op.Begin = at-length _ ths t ∙ omega arith
threads-length ths t op.End = at-length _ ths t ∙ omega arith
threads-length ths t (op.Ended uncaught) = at-length _ ths t ∙ omega arith
threads-length ths t o = omega arith

module _ (o : Opening) (m m' : Machine) (operation : Op) (begun : List ThreadFrames)
    (begins : Begins o m' operation begun) where
  begun-many : length begun ≡ starts_of operation
  begun-many = sym (length-map begun (plain_frames (shown_in m'))) ∙ ap length begins ∙ started operation
    where
      started : (x : Op)
          → length (begun_by o.launch.set o.launch.main o.launch.opening (plain_code o.launch) x) ≡ starts_of x
      started (op.Start n child) = refl
      started x = refl

-- an act that starts a thread begins frames
pub no-start : (o : Opening) (m' : Machine) (operation : Op) (n child : ℕ) → operation ≡ op.Start n child
    → Begins o m' operation [] → ⊥
no-start o m' operation n child is begins =
    let none : Begins o m' (op.Start n child) [] = subst (λ (x : Op). Begins o m' x []) is begins in
    let count : 0 ≡ 1 = ap length none in omega (arith, count)

-- With the frames of the threads that an act starts there are as many as threads.
pub as-many : (o : Opening) (m m' : Machine) (operation : Op) (r : Reply Ref Item) (es : List Entry) (t : ℕ)
    (request : Request Ref Item) → DoesRequest o m m' es t request operation r → (threads : List ThreadFrames)
    (x : ThreadFrames) (begun : List ThreadFrames) → length threads ≡ length m.rest.threads
    → Begins o m' operation begun → length (slice_set threads t x ++ begun) ≡ length m'.rest.threads
as-many o m m' operation r es t request does threads x begun many begins =
    let set = length-set threads t x in
    let all = length-append (slice_set threads t x) begun in
    let own = begun-many o m m' operation begun begins in
    let now : length m'.rest.threads ≡ length m.rest.threads + starts_of operation
    = sym (length-map m'.rest.threads plain_thread)
    ∙ ap (λ (w : World). length w.threads) (does.step.follows []).2
    ∙ threads-length (map plain_thread m.rest.threads) t operation
    ∙ ap (λ n. n + starts_of operation) (length-map m.rest.threads plain_thread) in
    omega (arith, set, all, own, now, many)

-- An act that starts none leaves as many as there were.
pub as-many-threads : (o : Opening) (m m' : Machine) (operation : Op) (r : Reply Ref Item) (es : List Entry) (t : ℕ)
    (request : Request Ref Item) → DoesRequest o m m' es t request operation r → starts_of operation ≡ 0
    → length m'.rest.threads ≡ length m.rest.threads
as-many-threads o m m' operation r es t request does none =
    let more = threads-length (map plain_thread m.rest.threads) t operation in
    let old = length-map m.rest.threads plain_thread in
    let now = sym (length-map m'.rest.threads plain_thread)
    ∙ ap (λ (w : World). length w.threads) (does.step.follows []).2 in
    omega (arith, more, old, now, none)
