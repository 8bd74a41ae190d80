-- A first machine is one of which an event of the first thread may come.
use Rattle.std.proofs.Common.{◌≡◌, ℕ, zero, suc, ◌<◌, true, false, List, [], ◌∷◌, length, replicate, Option, Some, None, refl, ap}
use Rattle.std.proofs.Common.{sym, subst, ◌∙◌, arith, inl, inr}
use Rattle.std.specs.Prelude.{nat_lt, slice_get, slice_index_or}
use Rattle.std.proofs.Math.ListN.{get_or-eq_default}
use Rattle.std.proofs.lemmas.Bool.{cases_lt, lt-ltb}
use Rattle.ap_base.specs.declared.reference.Ref.{Ref}
use Rattle.ap_base.specs.declared.reference.Item.{Item}
use Rattle.run_types.specs.declared.wait.On.TheVariants as on
use Rattle.natives.specs.declared.methods.Native.{Native}
use Rattle.natives.specs.declared.states.NativeState.{NativeState}
use Rattle.workers.specs.Passed.{Setting}
use Rattle.workers.specs.Passed.{AreOf}
use Rattle.run_history.specs.Recorded.{Recorded}
use Rattle.plain_model.specs.Facts.{class_at, class_count}
use Rattle.class_set.specs.Linked.{Linked, class_count as linked_count}
use Rattle.class_set.proofs.Supertypes.{program_counted}
use Rattle.class_set.specs.Facts.{facts_of}
use Rattle.set_spaces.specs.Passed.{is_written}
use Rattle.workers.specs.Passed.{ThreadFrames}
use Rattle.workers.specs.Passed.{Launch}
use Rattle.twin_forms.specs.Table.{Entry, IsClaimed}
use Rattle.convert_queue.specs.Queues.{Queues, total}
use Rattle.region_log.specs.Log.{Log}
use Rattle.workers.specs.Passed.{Opening, empty_log, log_of, memory_of}
use Rattle.workers.specs.Passed.{AllKeep, BeginnersKeepTheirs, IsUnbegun, KeepsRun}
use Rattle.workers.specs.Passed.{RunsAsPlain}
use Rattle.launch_laws.specs.First.{IsFirstMachine}
use Rattle.launch_laws.proofs.Nodes.{nobody_owns, table_of_lines}
use Rattle.launch_laws.proofs.Stops.{all_idle}
use Rattle.workers.specs.Passed.{TakesLines}
use Rattle.workers.specs.Passed.{StartsTakeNoLines}
use Rattle.workers.specs.Passed.{StartsHaveUnwritten}
use Rattle.workers.specs.Passed.{Shared}
use Rattle.workers.specs.Passed.{ThreadNotes, asked_by, no_notes, waits_on}
use Rattle.workers.specs.Passed.{IsRunning, HadNoFault, ListsClasses, Runs}
use Rattle.workers.specs.Passed.{HasFrames, HaveTurned}

-- ---- no act

nothing_met : (launch : Launch) (acts : List Recorded) → acts ≡ [] → HadNoFault launch acts
nothing_met launch acts empty lines [] a rest is = absurd (let both : [] ≡ a ∷ rest = sym empty ∙ is in cc)
nothing_met launch acts empty lines (b ∷ front) a rest is =
    absurd (let both = sym empty ∙ is in cc)

-- ---- classes

-- a class that isn't an interface has a shape in a directory
pub written_class : (set : Linked) (n : ℕ) → n < class_count (facts_of set)
    → (class_at (facts_of set) n).is_interface ≡ false → is_written set n ≡ true
written_class set n below plain =
    let many = program_counted set.files set.files in
    let inside : nat_lt n (linked_count set) ≡ true = lt-ltb n (linked_count set) (omega (arith, below, many)) in
    rw (inside, plain) refl

-- ---- nothing is noted

abbrev nones : {X : Type 0} → ℕ → List (Option X)
nones n = replicate n None

none-at : {X : Type 0} (n t : ℕ) → slice_index_or (nones {X = X} n) t None ≡ None
none-at zero t = refl
none-at (suc n) zero = refl
none-at (suc n) (suc t) = none-at n t

no-some : {X P : Type 0} (at : Option X) (x : X) → at ≡ None → at ≡ Some x → P
no-some {X} at x none some = absurd (let no : ◌≡◌ {A = Option X} None (Some x) = sym none ∙ some in cc)

-- ---- nothing is queued

none-queued : (n : ℕ) → total (replicate n []) ≡ 0
none-queued zero = refl
none-queued (suc n) = none-queued n

-- ---- the machine

module _ (o : Opening) (lines : List ℕ) (s : Shared) (es : List Entry) (fs : ThreadFrames)
    (first : IsFirstMachine o lines s.machine es) (keeps : KeepsRun o s.machine es) where
  no_claim : (t n : ℕ) → IsClaimed es t n → ⊥
  no_claim t n claimed =
      let nobody = nobody_owns o lines s.machine es first n claimed.0 in
      let somebody = claimed.1 in
      omega (arith, nobody, somebody)

  log_is : (t : ℕ) → log_of s.machine t ≡ empty_log t
  log_is t = elim (cases_lt t 64) [
    | inl below ↦ first.empty t below
    | inr past ↦ get_or-eq_default s.machine.logs (empty_log t) (let many = first.logs in omega (arith, many, past))
  ]

  unbegun : (t : ℕ) → IsUnbegun s.machine t
  unbegun t = record {
    doing = all_idle o lines s.machine es first t;
    log = ap (λ (log : Log). log.underway) (log_is t);
  }

  all_keep : BeginnersKeepTheirs → AllKeep o s.machine es (fs ∷ [])
  all_keep begin = record {
    each = λ t gs there. begin o t s.machine es gs keeps (unbegun t);
    unbegun = λ t past. unbegun t;
  }

  taken : StartsTakeNoLines → TakesLines o s.machine.free s.machine es
  taken law = law o s.machine es keeps
      (λ n.
      let table = (table_of_lines o lines s.machine es first).durable n in
      let many = first.image.opened.nodes in (
        (λ p. let below = table.0 p in omega (arith, below, many)),
        (λ below. table.1 (omega (arith, below, many))),
      ))
      no_claim

  queued : total s.machine.queue.queues ≡ 0
  queued = ap (λ (q : Queues). total q.queues) first.queue ∙ none-queued 64

  pub runs : BeginnersKeepTheirs → StartsTakeNoLines → StartsHaveUnwritten → RunsAsPlain o s.machine (fs ∷ [])
      → s.history.named ≡ [] → s.lines ≡ (memory_of s.machine).size
      → s.history.acts ≡ s.machine.acts → s.history.limit ≡ o.launch.limits.acts
      → s.history.room ≡ (memory_of s.machine).size
      → length s.machine.rest.threads ≡ 1 → ListsClasses o s.machine
      → Runs o s.machine.free s es (fs ∷ [])
  runs begin lines_law unwritten_law plain none lines_are acts limit room alone listed = record {
    keeps = keeps;
    plain = plain;
    taken = taken lines_law;
    from = keeps.heap.within;
    unwritten = unwritten_law s.machine es no_claim;
    all = all_keep begin;
    many = sym alone;
    few = omega arith;
    lines = lines_are;
    acts = acts;
    limit = limit;
    unnamed = none;
    room =
        (let behind = keeps.heap.behind in let within = keeps.heap.within in let empty = queued in
        omega (arith, room, behind, within, empty));
    listed = listed;
    unfaulted = nothing_met o.launch s.machine.acts first.acts;
  }

  asked : s.notes ≡ no_notes → (t : ℕ) → asked_by s.notes t ≡ None
  asked is t = ap (λ (n : ThreadNotes). asked_by n t) is ∙ none-at 64 t

  waits : s.notes ≡ no_notes → (t : ℕ) → waits_on s.notes t ≡ None
  waits is t = ap (λ (n : ThreadNotes). waits_on n t) is ∙ none-at 64 t

  pub running : Runs o s.machine.free s es (fs ∷ []) → s.notes ≡ no_notes → IsRunning o s.machine.free s es (fs ∷ [])
  running run is = record {
    runs = run;
    asked = record {
      asks = λ t q noted. no-some (asked_by s.notes t) q (asked is t) noted;
      beside = λ t on noted. no-some (waits_on s.notes t) on (waits is t) noted;
      ready = λ t on noted. no-some (waits_on s.notes t) on (waits is t) noted;
      recorded = record {
        forwarded = λ t on noted. no-some (waits_on s.notes t) on (waits is t) noted;
        below = λ t u noted. no-some (waits_on s.notes t) (on.Conversion u) (waits is t) noted;
      };
    };
  }

  -- thread 0 has its frames, and no other has begun
  pub own : (x : Setting Native Ref (NativeState Ref) Item) (frames : List ThreadFrames) → s.notes ≡ no_notes
      → slice_get frames 0 ≡ Some fs → AreOf x.program fs.frames → (t : ℕ) (before : ThreadFrames)
      → slice_get (fs ∷ []) t ≡ Some before → HasFrames x (asked_by s.notes t) frames t before
  own x frames is there of zero before at =
      let same : fs ≡ before = cc in
      subst (λ gs. HasFrames x (asked_by s.notes 0) frames 0 gs) same (record {
        now = fs;
        there = there;
        of = of;
        turned = subst (λ q. HaveTurned x q fs fs) (sym (asked is 0)) refl;
      })
  own x frames is there of (suc t) before at =
      absurd (let no : ◌≡◌ {A = Option ThreadFrames} None (Some before) = at in cc)
