-- The write-back and the fence of a durable store, and calls of the image that fail.
use Rattle.std.proofs.Common.{
  ◌≡◌,
  inl,
  inr,
  ℕ,
  ◌-◌,
  ◌<◌,
  List,
  [],
  ◌∷◌,
  ◌++◌,
  length,
  refl,
  sym,
  ◌∙◌,
  ap,
  subst,
  arith,
}
use Rattle.std.specs.Prelude.{IsSome, slice_set}
use Rattle.std.proofs.lemmas.List.{append-nil, length-set}
use Rattle.ap_base.specs.Causes.{next_count}
use Rattle.ap_base.specs.declared.reference.Ref.{Ref}
use Rattle.ap_base.specs.declared.reference.Item.{Item}
use Rattle.run_types.specs.declared.fault.StepFault.TheVariants as met
use Rattle.natives.specs.declared.requests.Request.{Request}
use Rattle.natives.specs.declared.requests.Reply.TheVariants as reply
use Rattle.run_history.specs.declared.act.Act.{Act}
use Rattle.run_history.specs.declared.act.Op.TheVariants as op
use Rattle.run_history.specs.Recorded.{History, Recorded, with_act}
use Rattle.plain_model.specs.Facts.{SetFacts}
use Rattle.step_forms.specs.Becomes.{given}
use Rattle.run_forms.specs.Laws.{answered_threads}
use Rattle.run_forms.specs.Views.{ThreadFrames}
use Rattle.machine_threads.specs.Passed.{Begins, stored_frames}
use Rattle.twin_forms.specs.Table.{Entry}
use Rattle.machine_threads.specs.Passed.{Nothing, Writing, Fencing}
use Rattle.machine_threads.specs.Passed.{Opening, doing_of, memory_of}
use Rattle.machine_threads.specs.Passed.{with_twin, with_write, with_fence}
use Rattle.shared_heap.specs.Shared.{Shared, Failed, TellsFence, Writes}
use Rattle.machine.specs.declared.events.Event.TheVariants.{Did, Micro, Over}
use Rattle.machine.specs.declared.events.Halt.TheVariants.{Met}
use Rattle.machine.specs.Ended.{ComesTo}
use Rattle.machine.specs.Events.{Comes, IsBroken, SparesOthers}
use Rattle.machine.specs.Laws.{Laws}
use Rattle.machine_threads.specs.Keeping.{AsksSomeStore, KeepsThread, LagsByItsStore}
use Rattle.machine_threads.proofs.Owing.{fencing-idle}
use Rattle.machine.specs.Running.{IsDue, Runs}
use Rattle.machine.proofs.Awaiting.{awaits-fencing, awaits-writing}
use Rattle.machine.proofs.Basics.{doing-set, shared-is, some-same}
use Rattle.machine.proofs.Bound.{act-bound, quiet-bound}
use Rattle.machine.proofs.Faults.{none-more}
use Rattle.machine.proofs.Leaving.{AsksStill, Kept, as-set, as-they-were, few, goes-on, happened, lives, logs-idle, same-room}
use Rattle.machine.proofs.Steps.{given-whole}
use Rattle.machine_threads.specs.Happening as event

module _ (laws : Laws) (o : Opening) (first : ℕ) (set : SetFacts) (s : Shared) (es : List Entry)
    (threads : List ThreadFrames) (t : ℕ) (fs : ThreadFrames) (request : Request Ref Item) (due : IsDue o first set s es threads t fs request) where
  -- ---- what the thread's own frames ask

  own : KeepsThread o s.machine es t fs
  own = due.running.all.each t fs due.asks.frames

  lag-writing : (line : ℕ) → doing_of s.machine t ≡ Writing line → AsksSomeStore o.launch fs
  lag-writing line is = subst (λ d. LagsByItsStore o.launch d fs) is own.lags

  lag-fencing : doing_of s.machine t ≡ Fencing → AsksSomeStore o.launch fs
  lag-fencing is = subst (λ d. LagsByItsStore o.launch d fs) is own.lags

  -- a turn that asks a store isn't one that broke
  whole : AsksSomeStore o.launch fs → IsBroken request → ⊥
  whole store = given-whole request (subst (λ (q : Request Ref Item). IsSome (given q))
      (some-same store.0 request (sym store.1 ∙ due.asks.asks)) store.2)

  -- ---- the write-back

  module _ (new : Shared) (w : Writes t s new)
      (cause : (memory_of new.machine).faults ≡ (memory_of s.machine).faults) where
    abbrev written : Shared
    written = record {
      machine = with_write s.machine w.twin t;
      history = s.history;
      lines = s.lines;
      notes = s.notes;
    }

    wrote-is : new ≡ written
    wrote-is = shared-is new _ _ _ _ w.machine w.history w.lines w.notes

    wrote-now : w.twin.memory.faults ≡ (memory_of s.machine).faults
        → Comes o first es threads t fs request Micro s written
    wrote-now cause_now =
        let still : AsksStill o written.machine t fs = record {
          lags = subst (λ d. LagsByItsStore o.launch d fs)
              (sym (doing-set s.machine.doing t Fencing due.thread due.running.keeps.asked.threads))
              (lag-writing w.wrote.line w.wrote.doing);
          logs = own.logs;
        } in
        let now = happened laws o first set s es threads t fs request due (event.written w.twin w.wrote) [] due.asks.frames
        tt tt (as-they-were laws o first set s es threads t fs request due written.machine still) in record {
          goes = record {
            after = es;
            runs = goes-on laws o first set s es threads t fs request due written es threads (record {
              kept = now;
              many = due.running.many;
              lines = refl;
              acts = due.running.acts;
              limit = refl;
              unnamed = due.running.unnamed;
              room = same-room laws o first set s es threads t fs request due written es now.keeps refl refl refl;
              numbers = refl;
              unfaulted = due.running.unfaulted;
            });
            own = λ gs q asks. asks;
            others = now.others;
          };
          acts = inl refl;
          calls = w.wrote.calls.count;
          cause = cause_now;
          answers = tt;
          finds = λ logs. laws.threads.fences o s.machine es threads due.running.keeps due.running.plain t
              (inl (w.wrote.line, w.wrote.doing));
          awaits = awaits-writing o s.machine t w.wrote.line w.wrote.doing Micro;
          numbers = refl;
          quiet = λ micro same. (let less = laws.measure.writes o s.machine es due.running.keeps
              due.running.unwritten w.twin t w.wrote in omega (arith, less));
          waits = λ on no. absurd (let e = no in cc);
          work = quiet-bound s written (let one = laws.work.writes o s.machine es due.running.keeps
              due.running.unwritten w.twin t w.wrote in omega (arith, one));
          asks = refl;
          noted = refl;
        }

    pub wrote : Comes o first es threads t fs request Micro s new
    wrote = subst (Comes o first es threads t fs request Micro s) (sym wrote-is)
        (wrote-now (subst (λ (x : Shared). (memory_of x.machine).faults ≡ (memory_of s.machine).faults)
        wrote-is
        cause))

  -- ---- the fence

  module _ (new : Shared) (f : TellsFence t s new) (room : length s.history.acts < s.history.limit)
      (cause : (memory_of new.machine).faults ≡ (memory_of s.machine).faults) where
    abbrev fence_act : Act
    fence_act = record { thread = t; at = f.twin.memory.calls; op = op.Fenced }

    abbrev fence_recorded : Recorded
    fence_recorded = record { act = fence_act; named = [] }

    abbrev fenced_now : Shared
    fenced_now = record {
      machine = with_fence s.machine f.twin t;
      history = with_act s.history fence_act;
      lines = s.lines;
      notes = s.notes;
    }

    fenced-is : new ≡ fenced_now
    fenced-is = shared-is new _ _ _ _ f.machine f.history f.lines f.notes

    idle-now : doing_of fenced_now.machine t ≡ Nothing
    idle-now = doing-set s.machine.doing t Nothing due.thread due.running.keeps.asked.threads

    abbrev answer_now : ThreadFrames
    answer_now = stored_frames o.launch fs

    fence-keeps : Kept o first t s.machine fenced_now.machine es es threads (slice_set threads t answer_now)
    fence-keeps = happened laws o first set s es threads t fs request due (event.fenced f.twin f.made) [] due.asks.frames
        tt tt (as-set laws o first set s es threads t fs request due fenced_now.machine answer_now (record {
          lags = subst (λ d. LagsByItsStore o.launch d answer_now) (sym idle-now) tt;
          logs = logs-idle o.launch fenced_now.machine t answer_now (fencing-idle o t s.machine es due.running.keeps
              (laws.runs o s.machine es threads due.running.keeps due.running.plain) due.thread f.made.doing);
        }))

    fence-runs : Runs o first fenced_now es (slice_set threads t answer_now)
    fence-runs = goes-on laws o first set s es threads t fs request due fenced_now es (slice_set threads t answer_now)
        (record {
          kept = fence-keeps;
          many = length-set threads t answer_now ∙ due.running.many;
          lines = refl;
          acts = ap (λ (xs : List Recorded). xs ++ fence_recorded ∷ []) due.running.acts;
          limit = refl;
          unnamed = due.running.unnamed;
          room = same-room laws o first set s es threads t fs request due fenced_now es fence-keeps.keeps refl refl refl;
          numbers = refl;
          unfaulted = none-more o.launch s.machine.acts fence_recorded due.running.unfaulted (λ lines.
              laws.ends.fences_meet o s.machine es threads due.running.keeps due.running.plain lines t
              (inr f.made.doing) (few laws o first set s es threads t fs request due room));
        })

    -- a fence starts no thread
    fence-begins : (begun : List ThreadFrames) → Begins o fenced_now.machine op.Fenced begun
        → slice_set threads t answer_now ≡ answered_threads o.launch threads t fs reply.Done begun
    fence-begins [] begins = sym (append-nil (slice_set threads t answer_now))
    fence-begins (x ∷ xs) begins = absurd (let no = begins in cc)

    fenced-comes : f.twin.memory.faults ≡ (memory_of s.machine).faults
        → Comes o first es threads t fs request (Did reply.Done) s fenced_now
    fenced-comes cause_now = record {
      goes = record {
        after = es;
        act = fence_recorded;
        acts = refl;
        runs = λ begun begins. subst (Runs o first fenced_now es) (fence-begins begun begins) fence-runs;
        others = λ begun begins. subst (SparesOthers o t s.machine fenced_now.machine es es threads)
            (fence-begins begun begins) fence-keeps.others;
        starts = λ none. refl;
        started = λ n child is. absurd (let no : op.Fenced ≡ op.Start n child = is in cc);
        idle = idle-now;
      };
      acts = record { act = fence_recorded; thread = refl; acts = refl };
      calls = f.made.calls.count;
      cause = cause_now;
      answers = whole (lag-fencing f.made.doing);
      finds = laws.threads.fences o s.machine es threads due.running.keeps due.running.plain t (inr f.made.doing);
      awaits = awaits-fencing o s.machine t f.made.doing (Did reply.Done);
      numbers = refl;
      quiet = λ micro same. absurd (let no = micro in cc);
      waits = λ on no. absurd (let e = no in cc);
      work = act-bound s fenced_now (Did reply.Done) fence_recorded refl
          (let less = laws.work.fences o s.machine es due.running.keeps due.running.unwritten f.twin t f.made in
          omega (arith, less));
      asks = refl;
      noted = refl;
    }

    pub fenced : Comes o first es threads t fs request (Did reply.Done) s new
    fenced = subst (Comes o first es threads t fs request (Did reply.Done) s) (sym fenced-is)
        (fenced-comes (subst (λ (x : Shared). (memory_of x.machine).faults ≡ (memory_of s.machine).faults)
        fenced-is cause))

  -- ---- a call that failed

  module _ (new : Shared) (f : Failed s new) (room : length s.history.acts < s.history.limit)
      (cause : (memory_of new.machine).faults ≡ next_count (memory_of s.machine).faults) where
    abbrev failed_now : Shared
    failed_now = record {
      machine = with_twin s.machine f.twin;
      history = s.history;
      lines = s.lines;
      notes = s.notes;
    }

    failed-is : new ≡ failed_now
    failed-is = shared-is new _ _ _ _ f.machine f.history f.lines f.notes

    failed-comes : f.twin.memory.faults ≡ next_count (memory_of s.machine).faults
        → Comes o first es threads t fs request (Over (Met met.ImageFault)) s failed_now
    failed-comes cause_now =
        let now = happened laws o first set s es threads t fs request due (event.called f.twin f.calls) [] due.asks.frames
        tt tt (as-they-were laws o first set s es threads t fs request due failed_now.machine
        (record { lags = own.lags; logs = own.logs })) in record {
          goes = record {
            after = es;
            keeps = now.keeps;
            plain = now.plain;
            history = refl;
            acts = refl;
            ends = laws.ends.image o s.machine es threads due.running.keeps due.running.plain
                (f.twin.memory.size - first) t fs (lives laws o first set s es threads t fs request due)
                (few laws o first set s es threads t fs request due room);
          };
          acts = refl;
          calls = f.calls.count;
          cause = cause_now;
          answers = tt;
          finds = tt;
          awaits = λ u w. tt;
          numbers = refl;
          quiet = λ micro same. absurd (let no = micro in cc);
          waits = λ on no. absurd (let e = no in cc);
          work = tt;
          asks = refl;
          noted = refl;
        }

    pub call-failed : Comes o first es threads t fs request (Over (Met met.ImageFault)) s new
    call-failed = subst (Comes o first es threads t fs request (Over (Met met.ImageFault)) s) (sym failed-is)
        (failed-comes (subst (λ (x : Shared). (memory_of x.machine).faults ≡ next_count (memory_of s.machine).faults)
        failed-is cause))

-- ---- of each run

pub wrote-comes : Laws → (s new : Shared) (t : ℕ) → Writes t s new
    → (memory_of new.machine).faults ≡ (memory_of s.machine).faults → ComesTo t Micro s new
wrote-comes laws s new t w cause = record {
  comes = λ o first set es threads fs request due.
      wrote laws o first set s es threads t fs request due new w cause;
  sink = record { acts = inl (ap (λ (h : History). h.acts) w.history); fault = tt };
}

pub fenced-comes-to : Laws → (s new : Shared) (t : ℕ) → TellsFence t s new
    → length s.history.acts < s.history.limit
    → (memory_of new.machine).faults ≡ (memory_of s.machine).faults → ComesTo t (Did reply.Done) s new
fenced-comes-to laws s new t f room cause = record {
  comes = λ o first set es threads fs request due.
      fenced laws o first set s es threads t fs request due new f room cause;
  sink = record { acts = inr (_, ap (λ (h : History). h.acts) f.history, tt); fault = tt };
}

pub failed-comes-to : Laws → (s new : Shared) (t : ℕ) → Failed s new → length s.history.acts < s.history.limit
    → (memory_of new.machine).faults ≡ next_count (memory_of s.machine).faults
    → ComesTo t (Over (Met met.ImageFault)) s new
failed-comes-to laws s new t f room cause = record {
  comes = λ o first set es threads fs request due.
      call-failed laws o first set s es threads t fs request due new f room cause;
  sink = record { acts = inl (ap (λ (h : History). h.acts) f.history); fault = tt };
}
