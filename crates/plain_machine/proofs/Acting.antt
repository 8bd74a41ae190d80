-- What an act comes to.
use Rattle.std.proofs.Common.{◌≡◌, ◌≢◌, ℕ, suc, ◌<◌, ◌+◌, Bool, true, false, List, [], Option, Some, None, ap, sym, subst, ◌∙◌}
use Rattle.std.proofs.Common.{inl, inr, arith}
use Rattle.ap_base.specs.declared.reference.Ref.{Ref}
use Rattle.ap_base.specs.declared.reference.Item.{Item}
use Rattle.graph_model.specs.declared.types.Root.{Root}
use Rattle.natives.specs.declared.requests.Request.{Request}
use Rattle.run_history.specs.declared.act.Op.{Op}
use Rattle.plain_model.specs.Codes.{taken_by}
use Rattle.plain_model.specs.Facts.{SetFacts}
use Rattle.plain_model.specs.Steps.{op_of}
use Rattle.shared_objects.specs.declared.rest.Rest.{Rest}
use Rattle.shared_objects.specs.Shown.{Shown}
use Rattle.shared_objects.specs.Plain.{plain_reply, plain_request}
use Rattle.shared_objects.specs.Worlds.{KnowsMonitors, world_of}
use Rattle.step_forms.specs.declared.stepped.Stepped.TheVariants as stepped
use Rattle.step_forms.specs.Follows.{IsStep}
use Rattle.step_forms.specs.Needs.{IsAskable}
use Rattle.shared_steps.specs.Lasting.{AtMost, IsFitStep, StepsCountOne, StepsLeaveWhatAgrees}
use Rattle.run_forms.proofs.Visible.{step-silent}
use Rattle.plain_heap.specs.declared.heap.PlainHeap.{PlainHeap}
use Rattle.plain_heap.specs.Heaps.{shown_back, shown_of}
use Rattle.plain_machine.specs.declared.trying.Did.{Did}
use Rattle.plain_machine.specs.Foreseeing.{step_in}
use Rattle.plain_machine.specs.Ops.{asks_print, changes_heap, changes_rest, is_print}
use Rattle.plain_machine.specs.Trying.{DoesOr, IsBack, IsBackIf, IsKept, IsNoStep, IsReady, MakesTo, MayBe, with_left}
use Rattle.plain_machine.proofs.Keeping.{kept-agrees, kept-self}
use Rattle.plain_machine.proofs.Prints.{step-of}
use Rattle.plain_machine.proofs.Trials.{plain-prints}
use Rattle.plain_machine.proofs.Undoing.{still-entered, undone}

none-some : {X P : Type 0} (v : X) → ◌≡◌ {A = Option X} None (Some v) → P
none-some v e = absurd (let no = e in cc)

some-same : (o p : Op) → ◌≡◌ {A = Option Op} (Some o) (Some p) → o ≡ p
some-same o p e = cc

pub no-step-refuses : (set : SetFacts) (t : ℕ) (q : Request Ref Item) (before : Shown) (rest : Rest) (o : Op)
    → IsNoStep set t q before rest
    → (roots : List Root) → op_of (step_in set roots before rest t (taken_by o) q) ≢ Some o
no-step-refuses set t q before rest o none roots e = none-some o (sym (none roots (taken_by o)) ∙ e)

module _ (set : SetFacts) (t : ℕ) (q : Request Ref Item) (old new : PlainHeap) (rest rest_now : Rest) (did
    : Did)
    (silent : asks_print q ≡ false)
    (asks : IsAskable set (λ n i. Unit {0}) (λ n. Unit {0}) (shown_of old) rest t q)
    (made : MakesTo set t q (shown_of old) rest (Some did) (shown_of new) (shown_back new) rest_now) where
  abbrev left : ℕ
  left = made.0

  is : IsStep set t q (with_left (shown_of old) left) rest (stepped.Did did.op did.reply) (shown_of new)
      rest_now
  is = made.1

  op-at : (roots : List Root) (taken : ℕ)
      → op_of (step_in set roots (shown_of old) rest t taken q) ≡ Some did.op
  op-at roots taken =
      ap op_of (step-of set (world_of roots (shown_of old) rest) t taken (taken_by did.op) (shown_of
      old).number q
      silent)
      ∙ ap op_of (is.follows roots).0

  pub did-silent : is_print did.op ≡ false
  did-silent = (step-silent set (world_of [] (shown_of old) rest) t (taken_by did.op)
      (plain_request (shown_of old).number q) did.op (plain_reply (shown_of new).number did.reply) asks.fit
      (plain-prints (shown_of old).number q silent) (is.follows []).0).1

  pub did-ready : StepsLeaveWhatAgrees → StepsCountOne → (steps now : ℕ) → now ≡ steps + 1
      → steps < 18446744073709551613 → IsReady set (shown_of old) rest steps
      → IsReady set (shown_of new) rest_now now
  did-ready agrees counts steps now more few h =
      let begun = kept-agrees set (shown_of old) rest (with_left (shown_of old) left) rest
      (kept-self (shown_of old) rest left h.agrees.monitors) h.agrees in
      let fit_step : IsFitStep set t q (with_left (shown_of old) left) rest (stepped.Did did.op did.reply)
      (shown_of new) rest_now = record { fit = asks.fit; is = is } in
      let one : now ≡ suc steps = omega (arith, more) in
      record {
        agrees = agrees set t q (with_left (shown_of old) left) rest (stepped.Did did.op did.reply)
            (shown_of new)
            rest_now steps fit_step begun h.most (omega (arith, few));
        entered = still-entered set t q did.op did.reply (with_left (shown_of old) left) rest (shown_of new)
            rest_now is h.entered;
        most = subst (λ n. AtMost n rest_now) (sym one)
            (counts set t q (with_left (shown_of old) left) rest (stepped.Did did.op did.reply) (shown_of new)
            rest_now steps fit_step h.most);
        few = omega (arith, few, more);
      }

  pub did-so : (o : Op) → did.op ≡ o
      → DoesOr set t q o (shown_of old) rest (Some did.reply) (shown_of new) rest_now
  did-so o same = (
    left,
    subst (λ p. IsStep set t q (with_left (shown_of old) left) rest
        (stepped.Did p did.reply) (shown_of new) rest_now) same is,
  )

  -- another operation than the act's
  module _ (o : Op) (other : did.op ≡ o → ⊥)
      (may : MayBe set t q o (shown_of old) rest true) where
    calm : changes_rest did.op ≡ false
    calm = elim (may [] 0 did.op (op-at [] 0)) [ inl same ↦ absurd (other same) | inr mild ↦ mild ]

    pub refuses : (roots : List Root) → op_of (step_in set roots (shown_of old) rest t (taken_by o) q) ≢
        Some o
    refuses roots e = other (some-same did.op o (sym (op-at roots (taken_by o)) ∙ e))

    pub back-kept : (now : Shown) → KnowsMonitors (shown_of old) rest → now ≡ with_left (shown_of old) left
        → IsKept (shown_of old) rest now rest_now
    back-kept now monitors e = undone set t q did.op did.reply old new left rest rest_now monitors calm is
        now e

-- the heap once the change is taken back, if there was one
pub back-changed : (o : Op) (before now back : Shown) → changes_heap o ≡ true → IsBack o before now back
    → back ≡ before
back-changed o before now back e h = subst (λ (b : Bool). IsBackIf b before now back) e h

pub back-unchanged : (o : Op) (before now back : Shown) → changes_heap o ≡ false → IsBack o before now back
    → now ≡ before
back-unchanged o before now back e h =
    subst (λ (b : Bool). IsBackIf b before now back) e h
