-- Lists of acts with one more.
use Rattle.std.proofs.Common.{◌≡◌, ℕ, Bool, true, false, List, [], ◌∷◌, ◌++◌, length, refl, sym, ◌∙◌, ap, subst, arith, suc, if◌then◌else◌}
use Rattle.graph_model.specs.declared.types.Heap.{Heap}
use Rattle.run_history.specs.declared.act.Op.{Op}
use Rattle.run_history.specs.declared.act.Op.TheVariants as op
use Rattle.run_history.specs.Recorded.{Recorded}
use Rattle.run_history.specs.Worlds.{World, fits, heap_after, heap_after_op}
use Rattle.run_history.specs.Knowing.{Knowledge, known_after, next_known}
use Rattle.plain_model.specs.Codes.{is_persistent}
use Rattle.plain_model.proofs.Appended.{known_after-append}
use Rattle.plain_model.proofs.RunSound.{world_next, world_of_next}
use Rattle.kept_lists.specs.declared.doubts.Doubt.{Doubt}
use Rattle.kept_lists.specs.Fitting.{AreOfStores, FitEach, IsOfStore, ops_of}

pub fit-push : (h : Heap) (os : List Op) (o : Op) → FitEach h os → fits (heap_after h os) o ≡ true → FitEach h (os ++ o ∷ [])
fit-push h [] o all is = (is, tt)
fit-push h (p ∷ os) o all is = (all.0, fit-push (heap_after_op h p) os o all.1 is)

pub done-push : (h : Heap) (os : List Op) (o : Op) → heap_after h (os ++ o ∷ []) ≡ heap_after_op (heap_after h os) o
done-push h [] o = refl
done-push h (p ∷ os) o = done-push (heap_after_op h p) os o

pub ops-push : (acts : List Recorded) (a : Recorded) → ops_of (acts ++ a ∷ []) ≡ ops_of acts ++ a.act.op ∷ []
ops-push [] a = refl
ops-push (b ∷ acts) a = ap (λ os. b.act.op ∷ os) (ops-push acts a)

pub stores-push : (acts : List Recorded) (a : Recorded) (ds : List Doubt) (d : Doubt) → length ds ≡ length acts
    → AreOfStores acts ds → IsOfStore a.act.op d → AreOfStores (acts ++ a ∷ []) (ds ++ d ∷ [])
stores-push [] a [] d long all is = (is, tt)
stores-push [] a (x ∷ ds) d long all is = absurd (omega (arith, long))
stores-push (b ∷ acts) a [] d long all is = absurd all
stores-push (b ∷ acts) a (x ∷ ds) d long all is = (all.0, stores-push acts a ds d (omega (arith, long)) all.1 is)

persistent-heap : (h : Heap) (o : Op) → is_persistent o ≡ true → heap_after_op h o ≡ h
persistent-heap h (op.Alloc n shape count) e = absurd (let no : false ≡ true = e in cc)
persistent-heap h (op.Throw n class) e = absurd (let no : false ≡ true = e in cc)
persistent-heap h (op.Stored place value) e = absurd (let no : false ≡ true = e in cc)
persistent-heap h o e = refl

pub known-push : (first : Knowledge) (acts : List Recorded) (a : Recorded)
    → known_after first (acts ++ a ∷ []) ≡ next_known (known_after first acts) a
known-push first acts a = known_after-append first acts (a ∷ [])

pub heap-next : (known : Knowledge) (a : Recorded) → (next_known known a).world.heap ≡ heap_after_op known.world.heap a.act.op
heap-next known a = ap (λ (w : World). w.heap) (world_of_next known a)
    ∙ (elim (is_persistent a.act.op) as (λ b. is_persistent a.act.op ≡ b
    → (world_next known.world a b).heap ≡ heap_after_op known.world.heap a.act.op) [
      | true ↦ λ e. sym (persistent-heap known.world.heap a.act.op e)
      | false ↦ λ e. refl
    ] refl)

pub persistent-fits : (h : Heap) (o : Op) → is_persistent o ≡ true → fits h o ≡ true
persistent-fits h (op.Alloc n shape count) e = absurd (let no : false ≡ true = e in cc)
persistent-fits h (op.Throw n class) e = absurd (let no : false ≡ true = e in cc)
persistent-fits h (op.Stored place value) e = absurd (let no : false ≡ true = e in cc)
persistent-fits h o e = refl
