-- Events, put together from how a place goes on and what is done there.
use Rattle.std.proofs.Common.{◌≡◌, ◌≢◌, ℕ, List, refl, sym, ◌∙◌, ap, subst, arith}
use Rattle.std.specs.Prelude.{Result, Ok, Err, IfOk, OnErr}
use Rattle.ap_base.specs.declared.reference.Ref.TheVariants.{Persistent, Volatile}
use Rattle.run_types.specs.declared.key.Key.TheVariants.{Object}
use Rattle.monitors.specs.declared.monitor.Monitor.{Monitor}
use Rattle.monitors.specs.Held.{rekeyed}
use Rattle.twin_forms.specs.Table.{Entry, entry}
use Rattle.twin_forms.specs.Sights.{view_of}
use Rattle.convert_queue.specs.Queues.{place_of}
use Rattle.convert_words.specs.declared.step.ConvertStep.{ConvertStep}
use Rattle.convert_words.specs.declared.step.ConvertStep.TheVariants as step
use Rattle.convert_words.specs.Scenes.{Scene}
use Rattle.convert_words.specs.Converting.{GoesOn, Converts, Fails}
use Rattle.convert_words.proofs.Basics.{is_one}
use Rattle.converter.specs.Stepping.{Rekeys, IsOther, Event, FailedEvent, old_key}
use Rattle.converter.specs.Working.{IsToForward}
use Rattle.converter.proofs.Calling.{rekeys_same}

pub ok_both : {T E : Type 0} (r : Result T E) (P Q R : T → Type 0) → IfOk r P → IfOk r Q → ((x : T) → P x → Q x → R x) → IfOk r R
ok_both (Ok x) P Q R p q f = f x p q
ok_both (Err e) P Q R p q f = p

pub err_on : {T E : Type 0} (r : Result T E) (P Q : Type 0) → OnErr r P → (P → Q) → OnErr r Q
err_on (Ok x) P Q p f = p
err_on (Err e) P Q p f = f p

pub event_of : (t : ℕ) (answer : ConvertStep) (s at s' : Scene) (es es' : List Entry) (ms ms' : List Monitor) → GoesOn t s
    at es → Converts t answer at s' es es' → IsOther answer → ms' ≡ ms → Event t answer s s' es ms ms'
event_of t answer s at s' es es' ms ms' goes done other same = record {
  at = at;
  after = es';
  goes_on = goes;
  converts = done;
  monitors = rekeys_same answer t at es ms ms' other same;
  full = λ need left eq. absurd (subst IsOther eq other);
}

pub fails_of : (t : ℕ) (s at s' : Scene) (es : List Entry) (ms ms' : List Monitor) → GoesOn t s at es → Fails at s' es → ms' ≡ ms → FailedEvent t s s' es ms ms'
fails_of t s at s' es ms ms' goes fails same = record { at = at; goes_on = goes; fails = fails; monitors = same }

rekeys_claim : (answer : ConvertStep) (t : ℕ) (s : Scene) (es : List Entry) (ms : List Monitor) → answer ≢ step.Forwarded → Rekeys answer t s es ms ms
rekeys_claim step.Claimed t s es ms o = refl
rekeys_claim step.CopiedLine t s es ms o = refl
rekeys_claim step.Forwarded t s es ms o = absurd (o refl)
rekeys_claim step.Repaired t s es ms o = refl
rekeys_claim step.WroteBack t s es ms o = refl
rekeys_claim step.Fenced t s es ms o = refl
rekeys_claim step.Touched t s es ms o = refl
rekeys_claim (step.Sealed set) t s es ms o = refl
rekeys_claim (step.Wait u) t s es ms o = refl
rekeys_claim (step.Full need left) t s es ms o = refl

-- A claim or a refusal, before which the place doesn't go on.
pub event_claim : (t : ℕ) (answer : ConvertStep) (s at s' : Scene) (es es' : List Entry) (ms : List Monitor) → GoesOn t s
    at es → at ≡ s → Converts t answer at s' es es' → answer ≢ step.Forwarded → Event t answer s s' es ms ms
event_claim t answer s at s' es es' ms goes same done other = record {
  at = at;
  after = es';
  goes_on = goes;
  converts = done;
  monitors = rekeys_claim answer t at es ms other;
  full = λ need left eq. same;
}

abbrev kind : ConvertStep → ℕ
kind step.Forwarded = 1
kind step.Claimed = 0
kind step.CopiedLine = 0
kind step.Repaired = 0
kind step.WroteBack = 0
kind step.Fenced = 0
kind step.Touched = 0
kind (step.Sealed set) = 0
kind (step.Wait u) = 0
kind (step.Full need left) = 0

pub event_forward : (t object line : ℕ) (s at s' : Scene) (es es' : List Entry) (ms ms' : List Monitor) → GoesOn t s at es → IsToForward at es t object line → Converts t step.Forwarded at s' es es' →
    ms' ≡ rekeyed ms (Object (Volatile object)) (Object (Persistent line)) → Event t step.Forwarded s s' es ms ms'
event_forward t object line s at s' es es' ms ms' goes w done keys = record {
  at = at;
  after = es';
  goes_on = goes;
  converts = done;
  monitors = λ n is.
      let same = is_one (view_of at.heap) at.queue es t (place_of at.queue t).0 n w.n goes.agrees.lies is w.copying.is in
      keys ∙ ap (λ o. rekeyed ms (Object (Volatile o)) (Object (Persistent line))) (sym w.copying.at ∙ ap (λ x. (entry es x).at) (sym same))
      ∙ ap (λ l. rekeyed ms (old_key (entry es n)) (Object (Persistent l))) (sym w.copying.first ∙ ap (λ x. (entry es x).line) (sym same));
  full = λ need left eq. absurd (let x : 1 ≡ 0 = ap kind eq in omega (arith, x));
}

pub ok_on : {T E : Type 0} (r : Result T E) (P Q : T → Type 0) → IfOk r P → ((x : T) → P x → Q x) → IfOk r Q
ok_on (Ok x) P Q p f = f x p
ok_on (Err e) P Q p f = p

pub either : {T E : Type 0} (r : Result T E) (Q : Type 0) → IfOk r (λ _. Q) → OnErr r Q → Q
either (Ok x) Q p q = p
either (Err e) Q p q = q

pub on_err : {T E : Type 0} (r : Result T E) (P : Type 0) → P → OnErr r P
on_err (Ok x) P p = tt
on_err (Err e) P p = p
