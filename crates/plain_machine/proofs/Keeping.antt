-- What stays where the world does.
use Rattle.std.proofs.Common.{◌≡◌, ◌⊎◌, ℕ, ◌<◌, ◌≤◌, ◌^◌, ◌-◌, List, [], ◌∷◌, map, length, Some, refl, ap, sym, subst, ◌∙◌}
use Rattle.std.specs.Prelude.{All}
use Rattle.std.proofs.lemmas.List.{length-map}
use Rattle.std.proofs.lemmas.List.Elements.{All-cons, All-head, All-map, All-nil, All-tail}
use Rattle.ap_base.specs.declared.reference.Ref.{Ref}
use Rattle.ap_base.specs.declared.reference.Item.{Item}
use Rattle.run_types.specs.declared.fault.Full.{Full}
use Rattle.run_types.specs.declared.key.Key.TheVariants as key
use Rattle.graph_model.specs.declared.types.Root.{Root}
use Rattle.natives.specs.declared.requests.Request.{Request}
use Rattle.natives.specs.declared.requests.Request.TheVariants as ask
use Rattle.monitors.specs.declared.monitor.Monitor.{Monitor}
use Rattle.run_history.specs.declared.act.Op.{Op}
use Rattle.run_history.specs.declared.plain.Monitor.{Monitor as PlainMonitor}
use Rattle.run_history.specs.declared.plain.Progress.{Progress}
use Rattle.run_history.specs.Worlds.{Thread, World}
use Rattle.plain_model.specs.Duties.{IsFit}
use Rattle.plain_model.specs.Facts.{SetFacts}
use Rattle.plain_model.specs.Steps.{Step, op_of, step}
use Rattle.shared_objects.specs.declared.rest.Rest.{Rest}
use Rattle.shared_objects.specs.declared.threads.ThreadState.{ThreadState}
use Rattle.shared_objects.specs.Shown.{Shown}
use Rattle.shared_objects.specs.Plain.{KnowsRequest, plain_request}
use Rattle.shared_objects.specs.Worlds.{KnowsMonitors, plain_monitor, plain_thread, world_of}
use Rattle.step_forms.specs.declared.stepped.Stepped.{Stepped}
use Rattle.step_forms.specs.Follows.{FindsMonitor, Agrees, Follows, IsHeapOf, IsOutOfMonitors, IsStep}
use Rattle.step_forms.specs.Needs.{IsAskable, IsHere}
use Rattle.plain_machine.specs.Trying.{IsKept, IsNoStep, IsReady, IsShort, MakesObject, with_left}

abbrev IsShortStep : World → Step → Type 0
IsShortStep world plain = ((o : Op) × (op_of plain ≡ Some o) × MakesObject o)
    ⊎ ((full : Full) × IsOutOfMonitors world plain full)

-- all that a request may read or store to is at hand
pub here-all : (here : ℕ → ℕ → Type 0) (statics : ℕ → Type 0) → ((n i : ℕ) → here n i)
    → ((n : ℕ) → statics n) → (shown : Shown) (q : Request Ref Item) → IsHere here statics shown q
here-all here statics all each shown (ask.GetStatic from field) = (each field.at, λ n e. all n 0)
here-all here statics all each shown (ask.PutStatic from field value) = (each field.at, λ n e. all n 0)
here-all here statics all each shown (ask.GetField from holder field) =
    (λ n e. all n 0, λ n e below. all n field.at, λ n e m is. all m 0)
here-all here statics all each shown (ask.PutField from holder field value) =
    (λ n e. all n 0, λ n e below. all n field.at, λ n e. all n 0)
here-all here statics all each shown (ask.GetElement from array index kind) =
    (λ n e. all n 0, λ i is n e below. all n i, λ i is n e m at. all m 0)
here-all here statics all each shown (ask.PutElement from array index kind value) =
    (λ n e. all n 0, λ i is n e below. all n i, λ n e. all n 0)
here-all here statics all each shown (ask.Length from array) = λ n e. all n 0
here-all here statics all each shown (ask.ClassOf from object within) = λ n e. all n 0
here-all here statics all each shown (ask.Cast from object target) = λ n e. all n 0
here-all here statics all each shown (ask.IsA from object target) = λ n e. all n 0
here-all here statics all each shown (ask.Same from left right) = (λ n e. all n 0, λ n e. all n 0)
here-all here statics all each shown (ask.Enter from (key.Object r)) = λ n e. all n 0
here-all here statics all each shown (ask.Enter from (key.Class c)) = tt
here-all here statics all each shown (ask.Exit from (key.Object r)) = λ n e. all n 0
here-all here statics all each shown (ask.Exit from (key.Class c)) = tt
here-all here statics all each shown (ask.Start from thread) = λ n e. all n 0
here-all here statics all each shown (ask.Join from thread) = λ n e. all n 0
here-all here statics all each shown q = tt

-- ---- elements of lists that are seen alike

pub unmapped : {X Z : Type 0} (f : X → Z) (P : Z → Type 0) (xs : List X) → All P (map f xs)
    → All (λ x. P (f x)) xs
unmapped f P [] all = All-nil (λ x. P (f x))
unmapped f P (x ∷ xs) all = All-cons (λ x. P (f x)) x xs (All-head P (f x) (map f xs) all)
    (unmapped f P xs (All-tail P (f x) (map f xs) all))

pub all-through : {X Y Z : Type 0} (f : X → Z) (g : Y → Z) (P : Z → Type 0) (xs : List X) (ys : List Y)
    → map f xs ≡ map g ys → All (λ y. P (g y)) ys → All (λ x. P (f x)) xs
all-through f g P xs ys e all = unmapped f P xs (subst (All P) (sym e) (All-map P g ys all))

-- ---- the same world

module _ (before : Shown) (rest : Rest) (now : Shown) (rest_now : Rest)
    (same : world_of [] now rest_now ≡ world_of [] before rest) where
  monitors-same : map (plain_monitor now.number) rest_now.monitors
      ≡ map (plain_monitor before.number) rest.monitors
  monitors-same = ap (λ (w : World). w.monitors) same

  threads-same : map plain_thread rest_now.threads ≡ map plain_thread rest.threads
  threads-same = ap (λ (w : World). w.threads) same

  pub classes-same : rest_now.classes.items ≡ rest.classes.items
  classes-same = ap (λ (w : World). w.classes) same

  pub monitors-all : (P : ℕ → Type 0) → All (λ (m : Monitor). P m.count) rest.monitors
      → All (λ (m : Monitor). P m.count) rest_now.monitors
  monitors-all P all = all-through (plain_monitor now.number) (plain_monitor before.number)
      (λ (m : PlainMonitor). P m.count) rest_now.monitors rest.monitors monitors-same all

  pub threads-all : (P : ℕ → Type 0) → All (λ (s : ThreadState). P s.depth) rest.threads
      → All (λ (s : ThreadState). P s.depth) rest_now.threads
  threads-all P all = all-through plain_thread plain_thread (λ (s : Thread). P s.depth) rest_now.threads
      rest.threads threads-same all

  pub threads-counted : length rest_now.threads ≡ length rest.threads
  threads-counted = sym (length-map rest_now.threads plain_thread) ∙ ap length threads-same
      ∙ length-map rest.threads plain_thread

-- ---- what is kept

module _ (set : SetFacts) (before : Shown) (rest : Rest) (now : Shown) (rest_now : Rest)
    (kept : IsKept before rest now rest_now) where
  pub kept-agrees : Agrees set before rest → Agrees set now rest_now
  kept-agrees h = record {
    heap = subst (λ (s : Shown). IsHeapOf set s) (sym kept.shown) (record {
      consistent = h.heap.consistent;
      of_set = h.heap.of_set;
      typed = h.heap.typed;
    });
    classes = ap (λ (ps : List Progress). length ps) (classes-same before rest now rest_now (kept.world []))
        ∙ h.classes;
    monitors = kept.monitors;
    counts = record {
      monitors = monitors-all before rest now rest_now (kept.world []) (λ n. n < 2 ^ 64 - 1)
          h.counts.monitors;
      threads = threads-all before rest now rest_now (kept.world []) (λ n. n < 2 ^ 64 - 1) h.counts.threads;
    };
  }

  pub kept-ready : (steps : ℕ) → IsReady set before rest steps → IsReady set now rest_now steps
  kept-ready steps h = record {
    agrees = kept-agrees h.agrees;
    entered = monitors-all before rest now rest_now (kept.world []) (λ n. 0 < n) h.entered;
    most = record {
      monitors = monitors-all before rest now rest_now (kept.world []) (λ n. n ≤ steps) h.most.monitors;
      threads = threads-all before rest now rest_now (kept.world []) (λ n. n ≤ steps) h.most.threads;
    };
    few = h.few;
  }

  pub kept-askable : (t : ℕ) (q : Request Ref Item)
      → IsAskable set (λ n i. Unit {0}) (λ n. Unit {0}) before rest t q
      → IsAskable set (λ n i. Unit {0}) (λ n. Unit {0}) now rest_now t q
  kept-askable t q h = record {
    thread = subst (λ n. t < n) (sym (threads-counted before rest now rest_now (kept.world []))) h.thread;
    fit = subst (λ (w : World). IsFit set w t (plain_request now.number q)) (sym (kept.world []))
        (subst (λ (s : Shown). IsFit set (world_of [] before rest) t (plain_request s.number q))
        (sym kept.shown) h.fit);
    known = subst (λ (s : Shown). KnowsRequest s.number q) (sym kept.shown) h.known;
    here = here-all (λ n i. Unit {0}) (λ n. Unit {0}) (λ n i. tt) (λ n. tt) now q;
  }

  -- a step from there is a step from here
  pub kept-step : (t : ℕ) (q : Request Ref Item) (result : Stepped) (then : Shown) (rest_then : Rest)
      → IsStep set t q now rest_now result then rest_then
      → IsStep set t q (with_left before now.left) rest result then rest_then
  kept-step t q result then rest_then h =
      let moved = subst (λ (s : Shown). IsStep set t q s rest_now result then rest_then) kept.shown h in
      let same : (roots : List Root) → world_of roots (with_left before now.left) rest_now
      ≡ world_of roots before rest =
      λ roots. ap (λ (s : Shown). world_of roots s rest_now) (sym kept.shown) ∙ kept.world roots in
      record {
        follows = λ roots. subst (λ (w : World). Follows
            (λ taken. step set w t taken (plain_request before.number q)) t now.left w result then.number
            (world_of roots then rest_then)) (same roots) (moved.follows roots);
        words = moved.words;
        monitor = subst (λ (w : World). FindsMonitor w result) (same []) moved.monitor;
        goes_on = moved.goes_on;
        monitors = moved.monitors;
      }

  pub kept-none : (t : ℕ) (q : Request Ref Item) → IsNoStep set t q now rest_now
      → IsNoStep set t q before rest
  kept-none t q h roots taken =
      ap (λ (w : World). op_of (step set w t taken (plain_request before.number q))) (sym (kept.world roots))
      ∙ ap (λ (s : Shown). op_of (step set (world_of roots now rest_now) t taken (plain_request s.number q)))
      (sym kept.shown) ∙ h roots taken

  pub kept-short : (t : ℕ) (q : Request Ref Item) → IsShort set t q now rest_now → IsShort set t q before rest
  kept-short t q h roots =
      subst (λ (w : World). IsShortStep w (step set w t 1 (plain_request before.number q))) (kept.world roots)
      (subst (λ (s : Shown). IsShortStep (world_of roots now rest_now)
      (step set (world_of roots now rest_now) t 1 (plain_request s.number q))) kept.shown (h roots))

pub kept-self : (before : Shown) (rest : Rest) (left : ℕ) → KnowsMonitors before rest
    → IsKept before rest (with_left before left) rest
kept-self before rest left monitors = record { shown = refl; world = λ roots. refl; monitors = monitors }

pub kept-both : (a : Shown) (ra : Rest) (b : Shown) (rb : Rest) (c : Shown) (rc : Rest) → IsKept a ra b rb
    → IsKept b rb c rc → IsKept a ra c rc
kept-both a ra b rb c rc first second = record {
  shown = second.shown ∙ ap (λ (s : Shown). with_left s c.left) first.shown;
  world = λ roots. second.world roots ∙ first.world roots;
  monitors = second.monitors;
}
