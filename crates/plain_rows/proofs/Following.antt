-- Calm acts of plain runs.
use Rattle.std.proofs.Common.{◌≡◌, ◌≢◌, inl, inr, ◌↔◌, ℕ, ◌≤◌, Bool, true, false, ◌&&◌, not, List, [], ◌∷◌, ◌++◌, length}
use Rattle.std.proofs.Common.{nat_eq, Option, refl, sym, ◌∙◌, ap, subst, arith, append-nil, if◌then◌else◌}
use Rattle.std.specs.Prelude.{IsTrue, filter}
use Rattle.std.proofs.lemmas.Bool.{true≢false}
use Rattle.std.proofs.lemmas.List.{length-append, length-set}
use Rattle.ap_base.specs.declared.place.Place.TheVariants.{Static, Slot}
use Rattle.graph_model.specs.declared.types.Heap.{Heap}
use Rattle.graph_model.specs.Heaps.{has_number, is_kept_slot, object_at, shape_at, with_slot, fresh_values}
use Rattle.run_history.specs.declared.act.Op.{Op}
use Rattle.run_history.specs.declared.act.Op.TheVariants as op
use Rattle.run_history.specs.declared.act.Act.{Act}
use Rattle.run_history.specs.Recorded.{Recorded, NamesRightly}
use Rattle.run_history.specs.Worlds.{heap_after_op}
use Rattle.run_history.specs.Knowing.{Knowledge, durable_at, owes_fence, has_guards, is_single, is_outermost, store_fate}
use Rattle.run_history.specs.Knowing.{after_end, known_after_op, next_known}
use Rattle.run_history.specs.Wanted.{Wishes, NoWish, IsClosed}
use Rattle.plain_model.specs.Facts.{SetFacts}
use Rattle.plain_model.specs.First.{first_known, numbers_to}
use Rattle.plain_model.specs.Requests.{PlainRequest}
use Rattle.plain_model.specs.Codes.{is_persistent}
use Rattle.plain_model.specs.Runs.{IsAbout, MayAct, Rule, first_frames, is_fenced, request_after, wants_of}
use Rattle.plain_model.proofs.Appended.{known_after-append, GoesOn-push}
use Rattle.plain_model.proofs.Closed.{closed_after, closed_at_first}
use Rattle.plain_model.proofs.Durable.{below_from_has_number}
use Rattle.plain_heap.specs.Heaps.{shown_of}
use Rattle.machine_laws.proofs.Coming.{AreThere, LeavesClosed, closed-next, durable-same, heap-next}
use Rattle.run_forms.specs.Standing.{IsLaunch, IsRun, Launch, known_at, plain_code}
use Rattle.plain_machine.specs.declared.plain.Plain.{Plain}
use Rattle.plain_machine.specs.Standing.{IsNext, Stands, recorded}
use Rattle.program_host.specs.declared.host.ProgramHost.{ProgramHost}
use Rattle.program_host.specs.Hosts.{setting_in}
use Rattle.plain_rows.specs.Playing.{IsCalm, IsCalmOp, IsPlaying}

-- ---- what a calm operation leaves

beyond : (count n : ℕ) → count ≤ n → has_number (numbers_to count) n ≡ false
beyond count n past =
    elim (has_number (numbers_to count) n) as (λ b. has_number (numbers_to count) n ≡ b → b ≡ false) [
      | true ↦ λ e. let below = below_from_has_number count n e in absurd (omega (arith, below, past))
      | false ↦ λ e. refl
    ] refl

and_false : (b c : Bool) → c ≡ false → (b && c) ≡ false
and_false true c e = e
and_false false c e = refl

calm_visible : (o : Op) → IsCalmOp o → is_persistent o ≡ false
calm_visible (op.Asked place value) is = absurd is
calm_visible op.Joined is = absurd is
calm_visible (op.Guarded place) is = absurd is
calm_visible op.Closing is = absurd is
calm_visible op.Fenced is = absurd is
calm_visible o is = refl

calm_unfenced : (o : Op) → IsCalmOp o → is_fenced o ≡ false
calm_unfenced op.Fenced is = absurd is
calm_unfenced o is = refl

names_nothing : (o : Op) → NamesRightly o []
names_nothing op.Joined = tt
names_nothing o = refl

objects_stay : (heap : Heap) (o : Op) → length heap.objects ≤ length (heap_after_op heap o).objects
objects_stay heap (op.Alloc n shape count) =
    omega (arith, length-append heap.objects (record { shape = shape; values = fresh_values (shape_at heap shape) count } ∷ []))
objects_stay heap (op.Throw n class) =
    omega (arith, length-append heap.objects (record { shape = class; values = fresh_values (shape_at heap class) 0 } ∷ []))
objects_stay heap (op.Stored (Static n) value) = omega arith
objects_stay heap (op.Stored (Slot n i) value) =
    omega (arith, length-set heap.objects n (with_slot (object_at heap n) i value))
objects_stay heap o = omega arith

not_single : (t : ℕ) (durable : Bool) (depth : ℕ) (closing : Bool) → durable ≡ false
    → is_single (store_fate t durable depth closing) ≡ false
not_single t true depth closing e = absurd (true≢false e)
not_single t false depth closing e = refl

unless : {X : Type 0} (b : Bool) (xs ys : List X) → b ≡ false → (if b then xs else ys) ≡ ys
unless true xs ys e = absurd (true≢false e)
unless false xs ys e = refl

module _ (known : Knowledge) (calm : IsCalm known) where
  slot_free : (n i : ℕ) → 1 ≤ n → durable_at known (Slot n i) ≡ false
  slot_free n i past =
      let few = calm.few in
      and_false (is_kept_slot known.world.heap n i) (has_number known.durable n)
      (ap (λ ns. has_number ns n) calm.durable ∙ beyond calm.count n (omega (arith, few, past)))

  leaves : (o : Op) → IsCalmOp o → LeavesClosed known o
  leaves op.Joined is = absurd is
  leaves (op.Stored (Static n) value) is = absurd is
  leaves (op.Stored (Slot n i) value) is = λ durable. absurd (true≢false (sym durable ∙ slot_free n i is))
  leaves o is = tt

  are_there : AreThere known
  are_there n durable =
      let below = below_from_has_number calm.count n (sym (ap (λ ns. has_number ns n) calm.durable) ∙ durable) in
      let there = calm.there in
      omega (arith, below, there)

  rule : (set : SetFacts) (Now : Wishes) (q : Option PlainRequest) (t : ℕ) (o : Op) → IsCalmOp o
      → IsAbout set known q t o → Rule set known Now q t [] o
  rule set Now q t (op.Asked place value) is about = absurd is
  rule set Now q t op.Joined is about = absurd is
  rule set Now q t (op.Guarded place) is about = absurd is
  rule set Now q t op.Closing is about = absurd is
  rule set Now q t op.Fenced is about = absurd is
  rule set Now q t (op.Stored (Static n) value) is about = absurd is
  rule set Now q t (op.Stored (Slot n i) value) is about = record {
    is_about = about;
    no_race = λ durable. absurd (true≢false (sym durable ∙ slot_free n i is));
    guarded = λ durable inside. absurd (true≢false (sym durable ∙ slot_free n i is));
  }
  rule set Now q t op.End is about = record {
    is_about = about;
    closing = λ outer has. absurd (true≢false (sym has ∙ ap (λ gs. has_guards gs t) calm.guards));
  }
  rule set Now q t o is about = about

  ended_guards : (t : ℕ) (outermost : Bool) → (after_end known t outermost).guards ≡ []
  ended_guards t true = ap (filter (λ g. not (nat_eq g.thread t))) calm.guards
  ended_guards t false = calm.guards

  ended_unfenced : (t : ℕ) (outermost : Bool) → (after_end known t outermost).unfenced ≡ []
  ended_unfenced t true = calm.unfenced
  ended_unfenced t false = calm.unfenced

  guards_after : (t : ℕ) (o : Op) → IsCalmOp o → (known_after_op known t [] o).guards ≡ []
  unfolding known_after_op
  guards_after t (op.Guarded place) is = absurd is
  guards_after t op.End is = ended_guards t (is_outermost known t)
  guards_after t o is = calm.guards

  unfenced_after : (t : ℕ) (o : Op) → IsCalmOp o → (known_after_op known t [] o).unfenced ≡ []
  unfolding known_after_op
  unfenced_after t op.Fenced is = absurd is
  unfenced_after t (op.Stored (Static n) value) is = absurd is
  unfenced_after t (op.Stored (Slot n i) value) is =
      unless _ _ _ (not_single t (durable_at known (Slot n i)) _ _ (slot_free n i is)) ∙ calm.unfenced
  unfenced_after t op.End is = ended_unfenced t (is_outermost known t)
  unfenced_after t o is = calm.unfenced

  abbrev pub by : ℕ → Op → Recorded
  by t o = recorded (record { thread = t; at = 0; op = o }) []

  calm_next : (t : ℕ) (o : Op) → IsCalmOp o → IsCalm (next_known known (by t o))
  calm_next t o is = record {
    count = calm.count;
    durable = durable-same known (by t o) (leaves o is) ∙ calm.durable;
    few = calm.few;
    there =
        let there = calm.there in
        let stay = objects_stay known.world.heap o in
        let same = ap (λ (h : Heap). length h.objects) (heap-next known (by t o)) in
        omega (arith, there, stay, same);
    guards = guards_after t o is;
    unfenced = unfenced_after t o is;
    early = refl;
  }

  may_act : (set : SetFacts) (Now : Wishes) (q : Option PlainRequest) (t : ℕ) (o : Op) → IsClosed known
      → IsCalmOp o → IsAbout set known q t o → MayAct set known Now q (by t o)
  may_act set Now q t o closed is about = record {
    later = let early = calm.early in omega (arith, early);
    rule = rule set Now q t o is about;
    named = names_nothing o;
    fence = calm_unfenced o is ∙ sym (ap (λ us. owes_fence us t) calm.unfenced);
    is_closed = closed-next known (by t o) (leaves o is) are_there closed;
  }

-- ---- a calm act that comes next

module _ (launch : Launch) (acts : List Recorded) (is : IsLaunch launch) (run : IsRun launch acts)
    (calm : IsCalm (known_at launch acts)) (t : ℕ) (o : Op) (calm_op : IsCalmOp o) where
  abbrev act : Act
  act = record { thread = t; at = 0; op = o }

  closed : IsClosed (known_at launch acts)
  closed = closed_after launch.set launch.main launch.opening (plain_code launch)
      (first_known launch.set launch.opening)
      (first_frames launch.set launch.main launch.opening (plain_code launch)) NoWish acts []
      (closed_at_first launch.set launch.opening is.opening)
      (subst (IsRun launch) (sym (append-nil acts)) run)

  is_about : IsNext launch acts act → IsAbout launch.set (known_at launch acts)
      (request_after launch.set launch.main launch.opening (plain_code launch) acts t) t o
  is_about (inl persistent) = absurd (true≢false (sym persistent ∙ calm_visible o calm_op))
  is_about (inr about) = about

  pub run_goes : IsNext launch acts act → IsRun launch (acts ++ recorded act [] ∷ [])
  run_goes next = GoesOn-push launch.set launch.main launch.opening (plain_code launch)
      (first_known launch.set launch.opening)
      (first_frames launch.set launch.main launch.opening (plain_code launch)) NoWish acts (recorded act []) (
        run,
        may_act (known_at launch acts) calm launch.set
            (wants_of launch.set launch.main launch.opening (plain_code launch) acts)
            (request_after launch.set launch.main launch.opening (plain_code launch) acts t) t o closed calm_op
            (is_about next),
      )

  pub stays_calm : IsCalm (known_at launch (acts ++ recorded act [] ∷ []))
  stays_calm = subst IsCalm
      (sym (known_after-append (first_known launch.set launch.opening) acts (recorded act [] ∷ [])))
      (calm_next (known_at launch acts) calm t o calm_op)

-- ---- the machine

abbrev StandsAt : Launch → List Recorded → SetFacts → ProgramHost → Plain → Type 0
StandsAt launch acts set host plain = Stands launch acts set (setting_in host) (shown_of plain.world.heap)
    plain.world.rest plain.world.steps plain.lanes.items

pub followed : (set : SetFacts) (host : ProgramHost) (old new : Plain) (t : ℕ) (o : Op) (yes : Bool)
    → IsPlaying set (record { plain = old; host = host }) → IsCalmOp o
    → ((launch : Launch) (acts : List Recorded) → StandsAt launch acts set host old
    → IsTrue yes ↔ IsNext launch acts (record { thread = t; at = 0; op = o }))
    → ((launch : Launch) (acts : List Recorded) (named : List ℕ) → StandsAt launch acts set host old
    → yes ≡ true → IsRun launch (acts ++ recorded (record { thread = t; at = 0; op = o }) named ∷ [])
    → StandsAt launch (acts ++ recorded (record { thread = t; at = 0; op = o }) named ∷ []) set host new)
    → ((launch : Launch) (acts : List Recorded) → StandsAt launch acts set host old → yes ≢ true
    → StandsAt launch acts set host new)
    → IsPlaying set (record { plain = new; host = host })
followed set host old new t o true playing calm_op exact goes same =
    let launch = playing.launch in
    let acts = playing.acts in
    let stands = playing.stands in
    let next = (exact launch acts stands).0 refl in
    record {
      launch = launch;
      acts = acts ++ recorded (record { thread = t; at = 0; op = o }) [] ∷ [];
      stands = goes launch acts [] stands refl
          (run_goes launch acts stands.launched stands.stands.run playing.calm t o calm_op next);
      calm = stays_calm launch acts stands.launched stands.stands.run playing.calm t o calm_op;
    }
followed set host old new t o false playing calm_op exact goes same = record {
  launch = playing.launch;
  acts = playing.acts;
  stands = same playing.launch playing.acts playing.stands (λ e. true≢false (sym e));
  calm = playing.calm;
}
