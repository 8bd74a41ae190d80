-- Plain runs keep their marks in order.
use Rattle.std.proofs.Common.{◌≡◌, ℕ, Bool, true, false, ◌||◌, List, [], ◌∷◌, Option, Some, None, refl, sym, ap, nat_eq}
use Rattle.std.proofs.lemmas.Bool.{true≢false, eqb-true}
use Rattle.graph_model.specs.declared.types.Heap.{Heap}
use Rattle.graph_model.specs.declared.types.Graph.{Graph}
use Rattle.run_history.specs.declared.act.Op.{Op}
use Rattle.run_history.specs.declared.act.Op.TheVariants as op
use Rattle.run_history.specs.Recorded.{Recorded}
use Rattle.run_history.specs.Knowing.{Knowledge, guard_of, next_known, known_after, owes_fence}
use Rattle.run_history.specs.Wanted.{Wishes, WantsNow}
use Rattle.plain_model.specs.Facts.{SetFacts}
use Rattle.plain_model.specs.Requests.{PlainRequest}
use Rattle.plain_model.specs.Codes.{Code, request_of, frames_after_op}
use Rattle.plain_model.specs.Runs.{MayAct, Rule, GoesOn, is_fenced, is_guarded_by}
use Rattle.stop_theorem.specs.Orderly.{IsOrderly, KeepsRule}
use Rattle.stop_theorem.proofs.Ordered.{orderly_next}

guard_is : (t : ℕ) (guard : Option ℕ) → is_guarded_by t guard ≡ true → guard ≡ Some t
guard_is t None is = absurd (true≢false (sym is))
guard_is t (Some u) is = ap (λ k. Some k) (eqb-true u t (bare (nat_eq u t) is))
  where
    bare : (b : Bool) → (b || false) ≡ true → b ≡ true
    bare true h = refl
    bare false h = h

rule_kept : (set : SetFacts) (known : Knowledge) (Now : Wishes) (request : Option PlainRequest) (t : ℕ)
    (named : List ℕ) (o : Op)
    → Rule set known Now request t named o → is_fenced o ≡ owes_fence known.unfenced t → KeepsRule known t o
rule_kept set known Now request t named (op.Stored place value) rule fence =
    (sym fence, λ durable depth. guard_is t (guard_of known.guards place) (rule.guarded durable depth))
rule_kept set known Now request t named o rule fence = tt

pub rule_of : (set : SetFacts) (known : Knowledge) (Now : Wishes) (request : Option PlainRequest)
    (a : Recorded) → MayAct set known Now request a → KeepsRule known a.act.thread a.act.op
rule_of set known Now request a may =
    rule_kept set known Now request a.act.thread a.named a.act.op may.rule may.fence

pub orderly_run : (set : SetFacts) (main : ℕ)
    (opening : Graph) {Frames : Type 0} (code : Code set main opening Frames) (first : Heap)
    (known : Knowledge) (frames : List Frames) (Now : Wishes) (acts : List Recorded)
    → IsOrderly first known → GoesOn set main opening code known frames Now acts
    → IsOrderly first (known_after known acts)
orderly_run set main opening code first known frames Now [] s run = s
orderly_run set main opening code first known frames Now (a ∷ acts) s run =
    orderly_run set main opening code first (next_known known a)
    (frames_after_op set main opening code known.world frames a.act.thread a.act.op)
    (WantsNow (next_known known a) Now) acts
    (orderly_next first known a s (rule_of set known Now
    (request_of set main opening code known.world frames a.act.thread) a run.0)) run.1

pub orderly_first : (known : Knowledge) → known.marks ≡ [] → IsOrderly known.world.heap known
orderly_first known none = record {
  heap = rw none refl;
  lost = rw none tt;
  singles = rw none tt;
  owed = λ t h. rw none tt;
  placed = λ t p h. rw none tt;
  guarded = rw none tt;
  elsewhere = rw none tt;
  closing = λ t h. rw none tt;
  opened = λ t h. rw none tt;
}
