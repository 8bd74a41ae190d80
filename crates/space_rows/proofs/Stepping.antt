-- What a step leaves of a world.
use Rattle.std.proofs.Common.{◌≡◌, ℕ, suc, pred, ◌+◌, ◌<◌, ◌≤◌, Bool, true, false, nat_eq, List, [], ◌∷◌, ◌++◌, length, IsSome}
use Rattle.std.proofs.Common.{sym, ◌∙◌, ap, subst, arith, if◌then◌else◌}
use Rattle.std.specs.Prelude.{All, slice_index_or}
use Rattle.std.proofs.lemmas.List.{length-map}
use Rattle.std.proofs.lemmas.List.Elements.{All-weaker}
use Rattle.ap_base.specs.declared.reference.Ref.{Ref}
use Rattle.ap_base.specs.declared.reference.Ref.TheVariants.{Null as NoRef, Persistent, Volatile}
use Rattle.ap_base.specs.declared.reference.Item.{Item}
use Rattle.ap_base.specs.declared.place.Place.{Place}
use Rattle.ap_base.specs.declared.place.Place.TheVariants as place
use Rattle.natives.specs.declared.requests.Request.{Request}
use Rattle.natives.specs.declared.requests.Reply.{Reply}
use Rattle.run_history.specs.declared.act.Op.{Op}
use Rattle.run_history.specs.declared.act.Op.TheVariants as op
use Rattle.run_history.specs.declared.act.PlainKey.{PlainKey}
use Rattle.run_history.specs.declared.plain.Monitor.{Monitor}
use Rattle.run_history.specs.Worlds.{World as PlainWorld, entered, exited, key_is, monitors_after_op, one_less}
use Rattle.plain_model.specs.Facts.{SetFacts}
use Rattle.plain_model.specs.Steps.{Step, step}
use Rattle.shared_steps.specs.Lasting.{AtMost, IsFitStep}
use Rattle.shared_steps.proofs.Lasting.{agrees_kept, counts_kept}
use Rattle.shared_objects.specs.declared.rest.Rest.{Rest}
use Rattle.shared_objects.specs.Plain.{plain_request}
use Rattle.shared_objects.specs.Shown.{IsKnown, Keeps, Numbers, Shown}
use Rattle.shared_objects.specs.Worlds.{plain_monitor, world_of}
use Rattle.step_forms.specs.declared.stepped.Stepped.{Stepped}
use Rattle.step_forms.specs.declared.stepped.Stepped.TheVariants as stepped
use Rattle.step_forms.specs.Becomes.{Becomes}
use Rattle.step_forms.specs.Follows.{Follows, IsStep}
use Rattle.step_forms.proofs.Kept.{kept_number}
use Rattle.twin_forms.specs.Table.{Entry, lines_of}
use Rattle.twin_forms.specs.Moves.{fresh}
use Rattle.twin_heap.proofs.Adding.{by_new}
use Rattle.two_spaces.specs.declared.spaces.Static.{Static}
use Rattle.two_spaces.specs.declared.spaces.Static.TheVariants.{Beside, Root as RootSlot}
use Rattle.two_spaces.specs.Seen.{Spaces, shown_of}
use Rattle.two_spaces.specs.Whole.{Made, MakesIn, Stands, StaticStored, StoredTo, StoresIn, no_static}
use Rattle.space_rows.specs.Worlds.{HasTable, HoldsOf, KnowsStepped, MayBeAsked, entries_of}

-- ---- the heap

-- a heap that is whole by a table over as many lines
pub record Left (s : Spaces) (next : ℕ) (now : Spaces) : Type 0 where
  pub table : List Entry
  pub whole : HasTable now next table

module _ (s now : Spaces) (es : List Entry) (next : ℕ) (h : HasTable s next es) where
  same_size : length now.twin.marks.numbers ≡ length s.twin.marks.numbers → (es' : List Entry) → Stands now es'
      → now.twin.memory.size ≡ s.twin.memory.size
  same_size same es' stands = sym stands.lies.marked ∙ same ∙ h.stands.lies.marked

  by_same : length now.twin.marks.numbers ≡ length s.twin.marks.numbers → Stands now es → Left s next now
  by_same same stands = record {
    table = es;
    whole = record {
      stands = stands;
      below = h.below;
      long = subst (λ n. 33 ≤ n) (sym (same_size same es stands)) h.long;
      behind = h.behind;
    };
  }

  static_left : (f : ℕ) (st : Static) (item : Item) → StaticStored s es f st item now → Left s next now
  static_left f (Beside old) item x =
      by_same (ap (λ (t : Spaces). length t.twin.marks.numbers) x.is) x.stands
  static_left f (RootSlot slot) item x =
      by_same (ap (λ m. length m.numbers) x.2.marks) x.2.stands

  stored_left : (p : Place) (item : Item) → StoredTo s es p item now → Left s next now
  stored_left (place.Slot n i) item x = by_same (ap (λ m. length m.numbers) x.2.marks) x.2.stands
  stored_left (place.Static f) item x = static_left f (slice_index_or s.statics f no_static) item x

  made_left : Made s es now → Left s next now
  made_left m = record {
    table = es ++ fresh m.shape m.slots (length s.twin.space.words) ∷ [];
    whole = record {
      stands = m.stands;
      below = by_new (λ n e. 0 < e.stage → e.line + lines_of e ≤ next) es
          (fresh m.shape m.slots (length s.twin.space.words)) (λ placed. absurd (omega (arith, placed))) h.below;
      long = subst (λ x. 33 ≤ x) (sym (ap (λ x. x.size) m.memory)) h.long;
      behind = h.behind;
    };
  }

module _ {Heap : Type 0} (to : Heap → Spaces) (shown : Heap → Shown) (next : ℕ) where
  pub heap_left : (before now : Heap) (es : List Entry) (result : Stepped) → HasTable (to before) next es
      → Becomes shown (λ h p i n. StoresIn (to h) p i (to n)) (λ h n. MakesIn (to h) (to n)) before result now
      → Left (to before) next (to now)
  heap_left before now es (stepped.Did (op.Stored p value) r) h b =
      stored_left (to before) (to now) es next h p b.0 (b.2 es h.stands)
  heap_left before now es (stepped.Did (op.Alloc n shape count) r) h b =
      made_left (to before) (to now) es next h (b es h.stands)
  heap_left before now es (stepped.Did (op.Throw n class) r) h b =
      made_left (to before) (to now) es next h (b es h.stands)
  heap_left before now es result h b =
      subst (λ n. Left (to before) next (to n)) (sym b) (record { table = es; whole = h })

-- ---- references

known_kept : (before now : Numbers) → Keeps before now → (r : Ref) → IsKnown before r → IsKnown now r
known_kept before now keeps NoRef known = tt
known_kept before now keeps (Persistent line) known =
    subst IsSome (sym (kept_number before now (Persistent line) keeps known)) known
known_kept before now keeps (Volatile at) known =
    subst IsSome (sym (kept_number before now (Volatile at) keeps known)) known

pub all_kept : (before now : Numbers) (refs : List Ref) → Keeps before now → All (IsKnown before) refs
    → All (IsKnown now) refs
all_kept before now refs keeps all = All-weaker (IsKnown before) (IsKnown now) (known_kept before now keeps) refs all

-- ---- monitors

module _ (m : Monitor) (ms : List Monitor) where
  push_long : (b : Bool) (m' : Monitor) (xs : List Monitor) → length xs ≤ suc (length ms)
      → length (if b then m' ∷ ms else m ∷ xs) ≤ suc (suc (length ms))
  push_long true m' xs le = omega (arith, le)
  push_long false m' xs le = omega (arith, le)

  less_long : (b : Bool) (m' : Monitor) → length (if b then ms else m' ∷ ms) ≤ suc (length ms)
  less_long true m' = omega arith
  less_long false m' = omega arith

  left_long : (b : Bool) (xs : List Monitor) → length xs ≤ length ms
      → length (if b then one_less m ms else m ∷ xs) ≤ suc (length ms)
  left_long true xs le = less_long (nat_eq m.count 1) (record m { count = pred m.count })
  left_long false xs le = omega (arith, le)

entered_long : (ms : List Monitor) (k : PlainKey) (t : ℕ) → length (entered ms k t) ≤ suc (length ms)
entered_long [] k t = omega arith
entered_long (m ∷ ms) k t = push_long m ms (key_is m.key k) (record m { count = suc m.count }) (entered ms k t) (entered_long ms k t)

exited_long : (ms : List Monitor) (k : PlainKey) → length (exited ms k) ≤ length ms
exited_long [] k = omega arith
exited_long (m ∷ ms) k = left_long m ms (key_is m.key k) (exited ms k) (exited_long ms k)

op_long : (ms : List Monitor) (t : ℕ) (o : Op) (r : Reply Ref Item)
    → length (monitors_after_op ms t o) ≤ length ms + entries_of (stepped.Did o r)
op_long ms t (op.Enter k) r = let e = entered_long ms k t in omega (arith, e)
op_long ms t (op.Exit k) r = let e = exited_long ms k in omega (arith, e)
op_long ms t o r = omega arith

module _ (plain : ℕ → Step) (t left : ℕ) (before : PlainWorld) (number : Numbers) (now : PlainWorld) where
  world_long : (result : Stepped) → Follows plain t left before result number now
      → length now.monitors ≤ length before.monitors + entries_of result
  world_long (stepped.Did o r) f =
      subst (λ (w : PlainWorld). length w.monitors ≤ length before.monitors + entries_of (stepped.Did o r)) (sym f.2)
      (op_long before.monitors t o r)
  world_long (stepped.Waits on) f =
      subst (λ (w : PlainWorld). length w.monitors ≤ length before.monitors + 0) (sym f.1) (omega arith)
  world_long stepped.Wrong f =
      subst (λ (w : PlainWorld). length w.monitors ≤ length before.monitors + 0) (sym f.1) (omega arith)
  world_long (stepped.Over x) f =
      subst (λ (w : PlainWorld). length w.monitors ≤ length before.monitors + 0) (sym f.1) (omega arith)

  knows : (result : Stepped) → Follows plain t left before result number now → KnowsStepped number result
  knows (stepped.Did o r) f = f.1
  knows (stepped.Waits on) f = tt
  knows stepped.Wrong f = tt
  knows (stepped.Over x) f = tt

-- ---- the world

module _ (set : SetFacts) (s now : Spaces) (rest rest_now : Rest) (refs refs_now : List Ref)
    (next acts entered_so_far t : ℕ) (request : Request Ref Item) (result : Stepped)
    (h : HoldsOf set s rest refs next acts entered_so_far) (may : MayBeAsked set s rest t request)
    (is : IsStep set t request (shown_of s) rest result (shown_of now) rest_now) where
  long_after : length rest_now.monitors ≤ entered_so_far + entries_of result
  long_after =
      let f = is.follows [] in
      let long = world_long (λ taken. step set (world_of [] (shown_of s) rest) t taken
      (plain_request (shown_of s).number request)) t (shown_of s).left (world_of [] (shown_of s) rest)
      (shown_of now).number (world_of [] (shown_of now) rest_now) result f in
      let a = length-map rest.monitors (plain_monitor (shown_of s).number) in
      let b = length-map rest_now.monitors (plain_monitor (shown_of now).number) in
      let few = h.few in
      omega (arith, long, a, b, few)

  fit_step : IsFitStep set t request (shown_of s) rest result (shown_of now) rest_now
  fit_step = record { fit = may.fit; is = is }

  pub after_step : Left s next now → acts < 1000000
      → (KnowsStepped (shown_of now).number result → All (IsKnown (shown_of now).number) refs
      → All (IsKnown (shown_of now).number) refs_now)
      → HoldsOf set now rest_now refs_now next (acts + 1) (entered_so_far + entries_of result)
  after_step left lt keeps = record {
    table = left.table;
    whole = left.whole;
    agrees = agrees_kept set t request (shown_of s) rest (shown_of now) rest_now result may.fit is acts h.agrees
        h.counted (omega (arith, lt));
    counted =
        (let more : suc acts ≡ acts + 1 = omega arith in
        subst (λ n. AtMost n rest_now) more
        (counts_kept set t request (shown_of s) rest (shown_of now) rest_now result may.fit is acts h.counted));
    few = long_after;
    known = keeps
        (knows (λ taken. step set (world_of [] (shown_of s) rest) t taken
        (plain_request (shown_of s).number request)) t (shown_of s).left (world_of [] (shown_of s) rest)
        (shown_of now).number (world_of [] (shown_of now) rest_now) result (is.follows []))
        (all_kept (shown_of s).number (shown_of now).number refs is.goes_on.keeps h.known);
  }
