-- What a call of the image, or a fence with its act, makes of a shared heap.
use Rattle.std.proofs.Common.{◌≡◌, inl, inr, ℕ, ◌<◌, ◌≤◌, ◌^◌, List, [], ◌∷◌, ◌++◌, refl, sym, ◌∙◌, ap, subst, arith}
use Rattle.std.specs.Prelude.{Result, Ok, Err, OnErr}
use Rattle.ap_base.specs.Causes.{next_count}
use Rattle.line_memory.specs.Memory.{Memory, IsResident, IsWritten, IsDurable, OneCall, MadeFence}
use Rattle.line_memory.specs.Moments.{KeepsShown}
use Rattle.run_history.specs.declared.act.Act.{Act}
use Rattle.run_history.specs.declared.act.Op.TheVariants as op
use Rattle.run_history.specs.Recorded.{Recorded, History, with_act}
use Rattle.twin_forms.specs.Sights.{Twin}
use Rattle.convert_queue.specs.Queues.{Queues}
use Rattle.convert_words.specs.Steps.{told_fenced}
use Rattle.store_barrier.specs.Passed.{Nothing, Fencing, Writing}
use Rattle.store_barrier.specs.Passed.{Machine, memory_of, doing_of}
use Rattle.store_barrier.specs.Passed.{CallsImage, with_twin, with_doing}
use Rattle.shared_heap.specs.Shared.{Shared, Failed, Writes, TellsFence}

-- each line of each memory is resident
abbrev pub AreResident : Type 0
AreResident = (m : Memory) (l : ℕ) → l < m.size → IsResident m l

-- the machine's heap over another memory
abbrev pub over : Machine → Memory → Twin
over m after = record m.spaces.twin { memory = after }

pub later_count : (n : ℕ) → n < 2 ^ 64 → n ≤ next_count n
later_count n few = omega (arith, few)

-- A call of the image that keeps what is shown.
pub record Called (old : Shared) (after : Memory) : Type 0 where
  pub resident : AreResident
  pub keeps : KeepsShown (memory_of old.machine) after
  pub one : OneCall (memory_of old.machine) after
  pub few : (memory_of old.machine).calls < 2 ^ 64
  pub long : 33 ≤ (memory_of old.machine).size

pub calls_image : (old : Shared) (after : Memory) → Called old after
    → CallsImage old.machine (over old.machine after)
calls_image old after c = record {
  call = record {
    keeps = c.keeps;
    space = refl;
    marks = refl;
    known = λ l lt. inl (c.resident (memory_of old.machine) l lt);
    known_after = λ l lt. inl (c.resident after l lt);
    long = c.long;
  };
  count = inr c.one;
  later = let counts = c.one.calls in let more = later_count (memory_of old.machine).calls c.few in
      omega (arith, counts, more);
}

pub failed_call : (old : Shared) (after : Memory) → Called old after
    → Failed old (record old { machine = with_twin old.machine (over old.machine after) })
failed_call old after c = record {
  twin = over old.machine after;
  calls = calls_image old after c;
  machine = refl;
  history = refl;
  lines =
      refl;
  notes = refl;
}

pub written_call : (old : Shared) (after : Memory) (t n line : ℕ) → Called old after → n ≡ t
    → doing_of old.machine t ≡ Writing line
    → line < (memory_of old.machine).size → ((w : ℕ) → IsWritten after line w)
    → Writes t old (record old
    { machine = with_doing (with_twin old.machine (over old.machine after)) n Fencing })
written_call old after t n line c number doing inside written = record {
  twin = over old.machine after;
  wrote = record {
    calls = calls_image old after c;
    line = line;
    doing = doing;
    inside = inside;
    written =
        written;
  };
  machine = ap (λ k. with_doing (with_twin old.machine (over old.machine after)) k Fencing) number;
  history = refl;
  lines = refl;
  notes = refl;
}

-- what is told after a fence
abbrev pub fence_act : ℕ → Memory → Act
fence_act t after = record { thread = t; at = after.calls; op = op.Fenced }

-- The act was added, and nothing else changed.
pub record Told (before after : Shared) (act : Act) : Type 0 where
  pub told : after.history ≡ with_act before.history act
  pub machine : after.machine ≡ record before.machine { acts = after.history.acts }
  pub lines : after.lines ≡ before.lines
  pub notes : after.notes ≡ before.notes

-- the shared heap after its fence, of which the queue was told
abbrev pub fenced_in : Shared → Memory → Queues → Shared
fenced_in old after q = record old
    { machine = record (with_twin old.machine (over old.machine after)) { queue = q } }

pub fenced_call : (old then : Shared) (after : Memory) (q : Queues) (t n : ℕ) → Called old after → n ≡ t
    → doing_of old.machine t ≡ Fencing
    → MadeFence (memory_of old.machine) after
    → ((l w : ℕ) → IsWritten (memory_of old.machine) l w → IsDurable after l w)
    → old.machine.acts ≡ old.history.acts → q ≡ told_fenced old.machine.queue
    → Told (fenced_in old after q) then (fence_act t after)
    → TellsFence t old (record then { machine = with_doing then.machine n Nothing })
fenced_call old then after q t n c number doing made durable same noted x = record {
  twin = over old.machine after;
  made = record {
    calls = calls_image old after c;
    doing = doing;
    one = c.one;
    made = made;
    durable = durable;
  };
  machine =
      let acts : then.history.acts ≡ old.machine.acts ++ record { act = fence_act t after; named = [] } ∷ [] =
      ap (λ (h : History). h.acts) x.told
      ∙ ap (λ (a : List Recorded). a ++ record { act = fence_act t after; named = [] } ∷ []) (sym same) in
      ap (λ k. with_doing then.machine k Nothing) number
      ∙ ap (λ m. with_doing m t Nothing) x.machine
      ∙ ap (λ a. with_doing (record (with_twin old.machine (over old.machine after)) { acts = a; queue = q })
      t Nothing) acts
      ∙ ap (λ (y : Queues). with_doing (record (with_twin old.machine (over old.machine after)) {
        acts = old.machine.acts ++ record { act = fence_act t after; named = [] } ∷ [];
        queue = y;
      }) t Nothing) noted;
  history = x.told;
  lines = x.lines;
  notes = x.notes;
}

pub on_err : {T E : Type 0} (r : Result T E) (P : Type 0) → P → OnErr r P
on_err (Ok x) P p = tt
on_err (Err e) P p = p

-- ---- from the value that a call began with

pub failed_from : (old now new : Shared) → old ≡ now → Failed old new → Failed now new
failed_from old now new e x = subst (λ (s : Shared). Failed s new) e x

pub writes_from : (t : ℕ) (old now new : Shared) → old ≡ now → Writes t old new → Writes t now new
writes_from t old now new e x = subst (λ (s : Shared). Writes t s new) e x

pub fences_from : (t : ℕ) (old now new : Shared) → old ≡ now → TellsFence t old new → TellsFence t now new
fences_from t old now new e x = subst (λ (s : Shared). TellsFence t s new) e x

pub told_by : (before told then : Shared) (act : Act) → then ≡ told → Told before told act
    → Told before then act
told_by before told then act e x = subst (λ (s : Shared). Told before s act) (sym e) x
