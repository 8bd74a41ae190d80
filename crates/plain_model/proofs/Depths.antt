-- How deep regions are, and that a thread outside regions guards nothing.
use Rattle.std.proofs.Common.{◌≡◌, ℕ, zero, suc, pred, ◌+◌, Bool, true, false, List, [], ◌∷◌, ◌++◌, refl, ap, sym, ◌∙◌, subst}
use Rattle.std.proofs.Common.{arith, nat_eq, ◌&&◌, if◌then◌else◌}
use Rattle.std.specs.Prelude.{◌≢◌, Option, Some, None, slice_get}
use Rattle.std.proofs.lemmas.Bool.{eqb-true, eqb-false, ne_eqb}
use Rattle.graph_model.specs.declared.types.Graph.{Graph}
use Rattle.run_history.specs.declared.act.Op.{Op}
use Rattle.run_history.specs.declared.act.Op.TheVariants as op
use Rattle.run_history.specs.Recorded.{Recorded}
use Rattle.run_history.specs.Worlds.{Thread, new_thread, after, at_thread, depth_in, depth_of}
use Rattle.run_history.specs.Knowing.{Knowledge, next_known, known_after_op, after_end, is_outermost}
use Rattle.run_history.specs.Wanted.{Wishes}
use Rattle.plain_model.specs.Facts.{SetFacts}
use Rattle.plain_model.specs.First.{first_known, first_world}
use Rattle.plain_model.specs.Requests.{PlainRequest}
use Rattle.plain_model.specs.Codes.{Code, request_of}
use Rattle.plain_model.specs.Runs.{Rule, MayAct, IsPlainRun, known_of}
use Rattle.plain_model.specs.RunLaws.{is_begin, is_end, is_by, begins, ends}
use Rattle.plain_model.proofs.RunKeeps.{run_keeps, asking_is_there, how_many-push}
use Rattle.plain_model.proofs.Sanctioned.{sanctioned}

at_other : (f : Thread → Thread) (threads : List Thread) (u t : ℕ) → nat_eq u t ≡ false
    → slice_get (at_thread f threads u) t ≡ slice_get threads t
at_other f [] u t other = refl
at_other f (thread ∷ threads) zero zero other = absurd (let no : true ≡ false = other in cc)
at_other f (thread ∷ threads) zero (suc t) other = refl
at_other f (thread ∷ threads) (suc u) zero other = refl
at_other f (thread ∷ threads) (suc u) (suc t) other =
    at_other f threads u t (ne_eqb u t (λ e. eqb-false (suc u) (suc t) other (ap suc e)))

at_own : (f : Thread → Thread) (threads : List Thread) (t : ℕ) (it : Thread) → slice_get threads t ≡ Some it
    → slice_get (at_thread f threads t) t ≡ Some (f it)
at_own f [] t it there = absurd (let no : ◌≡◌ {A = Option Thread} None (Some it) = there in cc)
at_own f (thread ∷ threads) zero it there = let same : Some thread ≡ Some it = there in let is : thread
    ≡ it = cc in ap (λ x. Some (f x)) is
at_own f (thread ∷ threads) (suc t) it there = at_own f threads t it there

-- a change that keeps each thread's depth
at_depth : (f : Thread → Thread) → ((thread : Thread) → (f thread).depth ≡ thread.depth)
    → (threads : List Thread)
    (u t : ℕ) → depth_in (slice_get (at_thread f threads u) t) ≡ depth_in (slice_get threads t)
at_depth f same [] u t = refl
at_depth f same (thread ∷ threads) zero zero = same thread
at_depth f same (thread ∷ threads) zero (suc t) = refl
at_depth f same (thread ∷ threads) (suc u) zero = refl
at_depth f same (thread ∷ threads) (suc u) (suc t) = at_depth f same threads u t

-- a thread that was just started is outside regions
pushed_depth : (threads : List Thread) (object : Option ℕ) (t : ℕ)
    → depth_in (slice_get (threads ++ new_thread object ∷ []) t) ≡ depth_in (slice_get threads t)
pushed_depth [] object zero = refl
pushed_depth [] object (suc t) = refl
pushed_depth (thread ∷ threads) object zero = refl
pushed_depth (thread ∷ threads) object (suc t) = pushed_depth threads object t

abbrev pub one_if : Bool → ℕ
one_if b = if b then 1 else 0

abbrev pub DepthAfter : Knowledge → ℕ → List ℕ → Op → ℕ → Type 0
DepthAfter known u named o t =
    depth_of (known_after_op known u named o).world t + one_if (nat_eq u t && is_end o)
    ≡ depth_of known.world t + one_if (nat_eq u t && is_begin o)

abbrev deeper : Thread → Thread
deeper thread = record thread { depth = suc thread.depth }

abbrev less_deep : Thread → Thread
less_deep thread = record thread { depth = pred thread.depth }

pred_back : (d : ℕ) → d ≢ 0 → pred d + 1 ≡ d + 0
pred_back zero some = absurd (some refl)
pred_back (suc d) some = omega arith

module _ (threads : List Thread) (u t : ℕ) where
  begun_depth : (it : Thread) → slice_get threads u ≡ Some it
      → depth_in (slice_get (at_thread deeper threads u) t) + one_if (nat_eq u t && false)
      ≡ depth_in (slice_get threads t) + one_if (nat_eq u t && true)
  begun_depth it there = elim (nat_eq u t) as (λ b. nat_eq u t ≡ b
      → depth_in (slice_get (at_thread deeper threads u) t) + one_if (b && false)
      ≡ depth_in (slice_get threads t) + one_if (b && true)) [
        | true ↦ λ same.
            let here : slice_get threads t ≡ Some it = subst (λ n. slice_get threads n ≡ Some it)
            (eqb-true u t same) there in
            let now : slice_get (at_thread deeper threads u) t ≡ Some (deeper it) =
            subst (λ n. slice_get (at_thread deeper threads n) t ≡ Some (deeper it)) (sym (eqb-true u t same))
            (at_own deeper threads t it here) in
            rw (now, here) (omega arith)
        | false ↦ λ other. rw (at_other deeper threads u t other) refl
      ] refl

  ended_depth : depth_in (slice_get threads u) ≢ 0
      → depth_in (slice_get (at_thread less_deep threads u) t) + one_if (nat_eq u t && true)
      ≡ depth_in (slice_get threads t) + one_if (nat_eq u t && false)
  ended_depth deep = elim (nat_eq u t) as (λ b. nat_eq u t ≡ b
      → depth_in (slice_get (at_thread less_deep threads u) t) + one_if (b && true)
      ≡ depth_in (slice_get threads t) + one_if (b && false)) [
        | true ↦ λ same. own_ended (slice_get threads t) refl
            (subst (λ n. depth_in (slice_get threads n) ≢ 0) (eqb-true u t same) deep)
            (subst (λ n. depth_in (slice_get (at_thread less_deep threads n) t) + 1
            ≡ depth_in (slice_get threads t) + 0
            → depth_in (slice_get (at_thread less_deep threads u) t) + 1 ≡ depth_in (slice_get threads t) + 0)
            (eqb-true u t same) (λ e. e))
        | false ↦ λ other. rw (at_other less_deep threads u t other) refl
      ] refl
    where
      own_ended : (found : Option Thread) → slice_get threads t ≡ found → depth_in (slice_get threads t) ≢ 0
          → (depth_in (slice_get (at_thread less_deep threads t) t) + 1 ≡ depth_in (slice_get threads t) + 0
          → depth_in (slice_get (at_thread less_deep threads u) t) + 1 ≡ depth_in (slice_get threads t) + 0)
          → depth_in (slice_get (at_thread less_deep threads u) t) + 1 ≡ depth_in (slice_get threads t) + 0
      own_ended None is some goes = absurd (some (ap depth_in is))
      own_ended (Some it) is some goes =
          let now = at_own less_deep threads t it is in
          let deep_it : it.depth ≢ 0 = λ none. some (ap depth_in is ∙ none) in
          goes (rw (now, is) (pred_back it.depth deep_it))

pub end_world : (known : Knowledge) (t : ℕ) (outermost : Bool) → (after_end known t outermost).world
    ≡ after known.world t op.End
end_world known t true = refl
end_world known t false = refl

-- what an act does to the depth of each thread
pub depth_after : (set : SetFacts) (known : Knowledge) (Now : Wishes) (request : Option PlainRequest) (u : ℕ)
    (named : List ℕ) (o : Op) → Rule set known Now request u named o
    → ((r : PlainRequest) → request ≡ Some r → (it : Thread) × (slice_get known.world.threads u ≡ Some it))
    → (t : ℕ) → DepthAfter known u named o t
unfolding known_after_op
depth_after set known Now request u named op.Begin rule there t =
    let (r, is, holds) = sanctioned set known request u op.Begin rule in
    let (it, here) = there r is in
    begun_depth known.world.threads u t it here
depth_after set known Now request u named op.End rule there t =
    let (r, is, deep) = sanctioned set known request u op.End rule.is_about in
    rw (end_world known u (is_outermost known u)) (ended_depth known.world.threads u t deep)
depth_after set known Now request u named (op.Start n child) rule there t =
    ap (λ d. d + one_if (nat_eq u t && false)) (pushed_depth known.world.threads (Some n) t)
depth_after set known Now request u named (op.Ended uncaught) rule there t =
    ap (λ d. d + one_if (nat_eq u t && false))
    (at_depth (λ thread. record thread { ended = true; uncaught = uncaught })
    (λ thread. refl) known.world.threads u t)
depth_after set known Now request u named o rule there t = refl

module _ (set : SetFacts) (main : ℕ) (opening : Graph) {Frames : Type 0}
    (code : Code set main opening Frames) where
  abbrev pub IsDeep : Knowledge → List Recorded → Type 0
  IsDeep known before = (t : ℕ) → depth_of known.world t + ends t before ≡ begins t before

  pub act_depth : (known : Knowledge) (frames : List Frames) (Now : Wishes) (a : Recorded)
      → MayAct set known Now (request_of set main opening code known.world frames a.act.thread) a
      → (t : ℕ) → DepthAfter known a.act.thread a.named a.act.op t
  act_depth known frames Now a may t =
      depth_after set known Now (request_of set main opening code known.world frames a.act.thread)
      a.act.thread a.named a.act.op may.rule
      (λ r is. asking_is_there set main opening code known.world frames a.act.thread r is) t

  pub first_depth : IsDeep (first_known set opening) []
  unfolding first_world
  first_depth zero = refl
  first_depth (suc t) = refl

  pub deep_keeps : (known : Knowledge) (frames : List Frames) (Now : Wishes) (before : List Recorded)
      (a : Recorded)
      → MayAct set known Now (request_of set main opening code known.world frames a.act.thread) a
      → IsDeep known before → IsDeep (next_known known a) (before ++ a ∷ [])
  deep_keeps known frames Now before a may deep u =
      let now = act_depth known frames Now a may u in
      let earlier = deep u in
      let more = how_many-push (is_by u is_begin) before a in
      let less = how_many-push (is_by u is_end) before a in
      omega (arith, now, earlier, more, less)

  pub depth_is_begins_less_ends : (acts : List Recorded) (t : ℕ) → IsPlainRun set main opening code acts
      → depth_of (known_of set main opening code acts).world t + ends t acts ≡ begins t acts
  depth_is_begins_less_ends acts t run =
      run_keeps set main opening code IsDeep deep_keeps first_depth acts run t
