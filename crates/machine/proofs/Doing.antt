-- An act of a request that changes no durable place: the request is answered.
use Rattle.std.proofs.Common.{◌≡◌, inl, ℕ, List, [], ◌∷◌, ◌++◌, length, None, refl, sym, ◌∙◌, ap, subst, arith}
use Rattle.std.specs.Prelude.{slice_index_or}
use Rattle.ap_base.specs.declared.reference.Ref.{Ref}
use Rattle.ap_base.specs.declared.reference.Item.{Item}
use Rattle.natives.specs.declared.requests.Request.{Request}
use Rattle.natives.specs.declared.requests.Reply.{Reply}
use Rattle.run_history.specs.declared.act.Op.{Op}
use Rattle.run_history.specs.declared.act.Op.TheVariants as op
use Rattle.run_history.specs.Recorded.{Recorded}
use Rattle.plain_model.specs.Facts.{SetFacts}
use Rattle.frames.specs.Turns.{answer, turn}
use Rattle.run_forms.specs.Views.{ThreadFrames}
use Rattle.run_forms.specs.Standing.{setting_of}
use Rattle.run_forms.specs.Laws.{answered_threads}
use Rattle.run_forms.specs.Ends.{MeetsNoFault}
use Rattle.convert_queue.specs.Queues.{total}
use Rattle.twin_forms.specs.Table.{Entry}
use Rattle.machine_threads.specs.Passed.{Doing}
use Rattle.machine_threads.specs.Passed.{Nothing}
use Rattle.region_log.specs.declared.entry.Underway.TheVariants.{Nothing as Idle}
use Rattle.region_log.specs.Log.{Log}
use Rattle.machine_threads.specs.Passed.{Opening, doing_of, empty_log, log_of}
use Rattle.machine_threads.specs.Passed.{ActsBeside, act_in, left_by}
use Rattle.machine_threads.specs.Happening as event
use Rattle.machine_threads.proofs.Passed.{table-is}
use Rattle.machine_threads.specs.Passed.{table_after}
use Rattle.machine_threads.specs.Stuck.{plain_waits}
use Rattle.machine_threads.specs.Passed.{Begins}
use Rattle.machine_threads.specs.Keeping.{LagsByItsStore}
use Rattle.shared_heap.specs.Shared.{Shared}
use Rattle.machine.specs.declared.events.Event.TheVariants.{Did}
use Rattle.machine.specs.Events.{Comes, IsBroken, NotesStart, StartsNone}
use Rattle.machine.specs.Laws.{Laws}
use Rattle.machine.specs.Running.{HadNoFault, IsDue, Runs}
use Rattle.machine.proofs.Awaiting.{awaits-free}
use Rattle.machine.proofs.Basics.{doing-set}
use Rattle.machine.proofs.Bound.{act-bound}
use Rattle.machine.proofs.Faults.{none-more}
use Rattle.machine.proofs.Leaving.{AsksStill, Kept, as-answered, logs-idle, goes-on, happened, same-room}
use Rattle.machine.proofs.Memory.{StaysPut, does-stay}
use Rattle.machine.proofs.Threads.{as-many}

module _ (laws : Laws) (o : Opening) (first : ℕ) (set : SetFacts) (s : Shared) (es : List Entry)
    (threads : List ThreadFrames) (t : ℕ) (fs : ThreadFrames) (request : Request Ref Item) (due : IsDue o first set s es threads t fs request) (new : Shared)
    (operation : Op) (r : Reply Ref Item)
    (acts : ActsBeside o s.machine new.machine es t request operation r) where
  abbrev act : Recorded
  act = act_in s.machine t operation []

  -- What an act of a request that changes no durable place leaves: its thread is about nothing.
  pub record Answers : Type 0 where
    pub idle : (log_of s.machine t).underway ≡ Idle
    pub left : left_by operation (doing_of s.machine t) ≡ Nothing
    pub starts : StartsNone request → Begins o new.machine operation []
    pub started : (n child : ℕ) → operation ≡ op.Start n child → NotesStart o operation child s new
    pub meets : (lines : ℕ) → MeetsNoFault o.launch lines s.machine.acts t
    pub lines : new.lines ≡ s.lines
    pub history : new.history.acts ≡ new.machine.acts
    pub named : new.history.named ≡ s.history.named
    pub limit : new.history.limit ≡ s.history.limit
    pub room : new.history.room ≡ s.history.room
    pub queued : total new.machine.queue.queues ≡ total s.machine.queue.queues
    pub asks : new.notes.asks ≡ s.notes.asks
    pub noted : new.notes.waits ≡ s.notes.waits
    pub whole : IsBroken request → ⊥
    pub free : plain_waits o s.machine t ≡ None

  module _ (a : Answers) where
    abbrev es' : List Entry
    es' = table_after s.machine operation es

    abbrev answer_now : ThreadFrames
    answer_now = answer (setting_of o.launch) (turn (setting_of o.launch) fs).frames r

    idle-now : doing_of new.machine t ≡ Nothing
    idle-now = ap (λ (ds : List Doing). slice_index_or ds t Nothing) acts.doing
        ∙ doing-set s.machine.doing t _ due.thread due.running.keeps.asked.threads ∙ a.left

    still : AsksStill o new.machine t answer_now
    still = record {
      lags = subst (λ d. LagsByItsStore o.launch d answer_now) (sym idle-now) tt;
      logs = logs-idle o.launch new.machine t answer_now
          (ap (λ (logs : List Log). (slice_index_or logs t (empty_log t)).underway) acts.logs ∙ a.idle);
    }

    stays : StaysPut s.machine.spaces new.machine.spaces
    stays = does-stay s.machine.spaces new.machine.spaces es operation r due.running.keeps.heap.whole acts.does.heap

    module _ (begun : List ThreadFrames) (begins : Begins o new.machine operation begun) where
      answer-keeps : Kept o first t s.machine new.machine es es' threads
          (answered_threads o.launch threads t fs r begun)
      answer-keeps = happened laws o first set s es threads t fs request due
          (event.acted new.machine request operation r acts) begun due.asks begins tt
          (as-answered laws o first set s es threads t fs request due new.machine answer_now begun still)

      many-now : length (answered_threads o.launch threads t fs r begun) ≡ length new.machine.rest.threads
      many-now = as-many o s.machine new.machine operation r es t request acts.does threads answer_now begun
          due.running.many begins

      answer-runs : Runs o first new es' (answered_threads o.launch threads t fs r begun)
      answer-runs = goes-on laws o first set s es threads t fs request due new es'
          (answered_threads o.launch threads t fs r begun) (record {
            kept = answer-keeps;
            many = many-now;
            lines = a.lines;
            acts = a.history;
            limit = a.limit;
            unnamed = a.named ∙ due.running.unnamed;
            room = same-room laws o first set s es threads t fs request due new es' answer-keeps.keeps acts.does.free
                a.queued a.room;
            numbers = stays.numbers;
            unfaulted = subst (HadNoFault o.launch) (sym acts.does.acts)
                (none-more o.launch s.machine.acts act due.running.unfaulted a.meets);
          })

    new-acts : new.history.acts ≡ s.history.acts ++ act ∷ []
    new-acts = a.history ∙ acts.does.acts ∙ ap (λ (xs : List Recorded). xs ++ act ∷ []) (sym due.running.acts)

    pub answers : Comes o first es threads t fs request (Did r) s new
    answers = record {
      goes = record {
        after = es';
        act = act;
        acts = acts.does.acts;
        runs = answer-runs;
        others = λ begun begins. (answer-keeps begun begins).others;
        starts = a.starts;
        started = a.started;
        idle = idle-now;
      };
      acts = record {
        act = act;
        thread = refl;
        acts = new-acts;
      };
      calls = inl stays.image;
      cause = stays.image.faults;
      answers = a.whole;
      finds = a.free;
      awaits = awaits-free o s.machine t es due.running.keeps.heap.agrees acts.does.doing (Did r);
      numbers = stays.numbers;
      quiet = λ micro same. absurd (let no = micro in cc);
      waits = λ on no. absurd (let e = no in cc);
      work = act-bound s new (Did r) act new-acts (let two = laws.work.beside o s.machine es due.running.keeps
          due.running.unwritten new.machine es' t request operation r acts (table-is s.machine operation es)
          (laws.keep o t s.machine new.machine es es' due.running.keeps
          (event.acted new.machine request operation r acts)) in omega (arith, two));
      asks = a.asks;
      noted = a.noted;
    }
