-- What an event leaves is what the next one needs.
use Rattle.std.proofs.Common.{◌≡◌, ℕ, zero, suc, ◌+◌, ◌-◌, ◌<◌, ◌≤◌, List, [], ◌∷◌, ◌++◌, length, Option, Some, None, sym, ◌∙◌, ap, subst, arith}
use Rattle.std.specs.Prelude.{slice_get, slice_index, slice_index_or, slice_set}
use Rattle.std.proofs.lemmas.List.{length-append, length-map, length-set}
use Rattle.ap_base.specs.declared.reference.Ref.{Ref}
use Rattle.ap_base.specs.declared.reference.Item.{Item}
use Rattle.natives.specs.declared.requests.Request.{Request}
use Rattle.natives.specs.declared.requests.Reply.{Reply}
use Rattle.run_history.specs.Recorded.{Recorded}
use Rattle.run_history.specs.Worlds.{World}
use Rattle.frames.specs.Turns.{answer, turn}
use Rattle.plain_model.specs.Facts.{SetFacts}
use Rattle.run_forms.specs.Views.{ThreadFrames}
use Rattle.run_forms.specs.Standing.{IsAsked, Launch, plain_code, setting_of}
use Rattle.run_forms.specs.Laws.{answered_threads}
use Rattle.convert_queue.specs.Queues.{total}
use Rattle.twin_forms.specs.Table.{Entry}
use Rattle.region_log.specs.declared.entry.Underway.TheVariants.{Nothing as Idle}
use Rattle.region_log.specs.Log.{Log}
use Rattle.machine_threads.specs.Passed.{Nothing}
use Rattle.machine_threads.specs.Passed.{Opening, Machine, doing_of, empty_log, log_of, memory_of, shown_in}
use Rattle.machine_threads.specs.Passed.{KeepsRun}
use Rattle.machine_threads.specs.Passed.{IsFitRequest}
use Rattle.shared_objects.specs.declared.threads.ThreadState.{ThreadState}
use Rattle.shared_objects.specs.Worlds.{plain_thread}
use Rattle.machine_threads.specs.Passed.{Asks, AsksIts, Begins, BeginsBy, IsReady, RunsAsPlain, frames_by}
use Rattle.machine_threads.specs.Passed.{Happens, request_of}
use Rattle.machine_threads.specs.Passed.{TakesLines}
use Rattle.machine_threads.specs.Passed.{HasUnwritten}
use Rattle.machine_threads.specs.Passed.{Lives}
use Rattle.machine_threads.proofs.Parts.{doing-kept}
use Rattle.machine_threads.specs.Keeping.{AllKeep, AsksToHold, LagsByItsLog, LagsByItsStore}
use Rattle.shared_heap.specs.Shared.{Shared}
use Rattle.shared_heap.specs.Conversions.{Converts}
use Rattle.machine.specs.Events.{AsksOn, GoesOn, SparesOthers}
use Rattle.machine.specs.Laws.{Laws}
use Rattle.machine.proofs.Threads.{no-start}
use Rattle.machine.specs.Running.{HadNoFault, IsDue, Runs}

-- ---- what is kept

-- These frames of the thread ask the durable store that isn't fenced yet, the store whose word is being logged, and the end of
-- the region that is being ended.
pub record AsksStill (o : Opening) (m : Machine) (t : ℕ) (fs : ThreadFrames) : Type 0 where
  pub lags : LagsByItsStore o.launch (doing_of m t) fs
  pub logs : LagsByItsLog o.launch (log_of m t).underway fs

-- what an event of thread t leaves of all that laws of events speak of
pub record Kept (o : Opening) (first t : ℕ) (m m' : Machine) (es es' : List Entry)
    (threads threads' : List ThreadFrames) : Type 0 where
  pub keeps : KeepsRun o m' es'
  pub plain : RunsAsPlain o m' threads'
  pub taken : TakesLines o first m' es'
  pub unwritten : HasUnwritten m' es'
  pub all : AllKeep o m' es' threads'
  pub others : SparesOthers o t m m' es es' threads threads'

-- where the same threads live a thread asks what it asked
pub asks-by : (o : Opening) (m m' : Machine) (threads : List ThreadFrames) (t : ℕ)
    → m'.rest.threads ≡ m.rest.threads → (gs : ThreadFrames) (request : Request Ref Item) → Asks o m threads t gs request
    → Asks o m' threads t gs request
asks-by o m m' threads t same gs request asks = record {
  state = asks.state;
  thread = ap (λ (states : List ThreadState). slice_get states t) same ∙ asks.thread;
  lives = asks.lives;
  frames = asks.frames;
  asks = asks.asks;
}

module _ (laws : Laws) (o : Opening) (first : ℕ) (set : SetFacts) (s : Shared) (es : List Entry)
    (threads : List ThreadFrames) (t : ℕ) (fs : ThreadFrames) (request : Request Ref Item)
    (due : IsDue o first set s es threads t fs request) where
  pub happened : {m' : Machine} {es' : List Entry} (e : Happens o t s.machine es m' es') (begun : List ThreadFrames)
      → AsksIts o s.machine threads t fs (request_of e) → BeginsBy e begun → AsksToHold e
      → ((gs : ThreadFrames) → slice_get (frames_by e threads fs begun) t ≡ Some gs → AsksStill o m' t gs)
      → Kept o first t s.machine m' es es' threads (frames_by e threads fs begun)
  happened {m'} {es'} e begun asks begins hold still =
      let keeps = laws.keep o t s.machine m' es es' due.running.keeps e in
      let plain = laws.frames o t s.machine m' es es' threads due.running.keeps due.running.plain e fs begun asks begins in
      let run = laws.runs o m' es' (frames_by e threads fs begun) keeps plain in record {
        keeps = keeps;
        plain = plain;
        taken = laws.lines o t s.machine m' es es' due.running.keeps e first due.running.taken;
        unwritten = laws.unwritten o t s.machine m' es es' due.running.keeps e due.running.unwritten;
        all = laws.threads.all o t s.machine m' es es' threads fs begun due.running.keeps keeps run e due.asks.frames
            due.running.all
            (λ gs is. laws.threads.own o t s.machine m' es es' fs gs due.running.keeps run e hold
            (due.running.all.each t fs due.asks.frames) (still gs is).lags (still gs is).logs);
        others = record {
          ask = λ u gs q other its. laws.threads.ask o t u s.machine m' es es' threads fs gs begun q due.running.keeps e
              other its;
          doing = λ u other. doing-kept o t u other s.machine m' es es' e;
          forwarded = λ u other old. laws.threads.forwarded o t u s.machine m' es es' due.running.keeps run e other old;
        };
      }

  -- ---- the thread's own frames

  some-frames : (gs hs : ThreadFrames) → ◌≡◌ {A = Option ThreadFrames} (Some gs) (Some hs) → gs ≡ hs
  some-frames gs hs e = cc

  -- frames that stay
  pub as-they-were : (m' : Machine) → AsksStill o m' t fs → (gs : ThreadFrames) → slice_get threads t ≡ Some gs
      → AsksStill o m' t gs
  as-they-were m' still gs is = subst (AsksStill o m' t) (some-frames fs gs (sym due.asks.frames ∙ is)) still

  -- frames that are answered
  get-set : (xs : List ThreadFrames) (n : ℕ) (x gs hs : ThreadFrames) → slice_get xs n ≡ Some gs
      → slice_get (slice_set xs n x) n ≡ Some hs → x ≡ hs
  get-set [] n x gs hs there is = absurd (let no : ◌≡◌ {A = Option ThreadFrames} None (Some gs) = there in cc)
  get-set (y ∷ xs) zero x gs hs there is = some-frames x hs is
  get-set (y ∷ xs) (suc n) x gs hs there is = get-set xs n x gs hs there is

  get-answered : (xs : List ThreadFrames) (n : ℕ) (x : ThreadFrames) (now : List ThreadFrames) (gs hs : ThreadFrames)
      → slice_get xs n ≡ Some gs → slice_get (slice_set xs n x ++ now) n ≡ Some hs → x ≡ hs
  get-answered [] n x now gs hs there is = absurd (let no : ◌≡◌ {A = Option ThreadFrames} None (Some gs) = there in cc)
  get-answered (y ∷ xs) zero x now gs hs there is = some-frames x hs is
  get-answered (y ∷ xs) (suc n) x now gs hs there is = get-answered xs n x now gs hs there is

  pub as-set : (m' : Machine) (x : ThreadFrames) → AsksStill o m' t x → (gs : ThreadFrames)
      → slice_get (slice_set threads t x) t ≡ Some gs → AsksStill o m' t gs
  as-set m' x still gs is = subst (AsksStill o m' t) (get-set threads t x fs gs due.asks.frames is) still

  pub as-answered : (m' : Machine) (x : ThreadFrames) (now : List ThreadFrames) → AsksStill o m' t x
      → (gs : ThreadFrames) → slice_get (slice_set threads t x ++ now) t ≡ Some gs → AsksStill o m' t gs
  as-answered m' x now still gs is =
      subst (AsksStill o m' t) (get-answered threads t x now fs gs due.asks.frames is) still

  -- ---- what is left

  -- What an event leaves, beside what never changes.
  pub record Leaves (new : Shared) (es' : List Entry) (threads' : List ThreadFrames) : Type 0 where
    pub kept : Kept o first t s.machine new.machine es es' threads threads'
    pub many : length threads' ≡ length new.machine.rest.threads
    pub lines : new.lines ≡ s.lines
    pub acts : new.history.acts ≡ new.machine.acts
    pub limit : new.history.limit ≡ s.history.limit
    pub unnamed : new.history.named ≡ []
    pub room : total new.machine.queue.queues + ((memory_of new.machine).size - new.machine.free) ≤ new.history.room
    pub numbers : new.machine.spaces.numbers ≡ s.machine.spaces.numbers
    pub unfaulted : HadNoFault o.launch new.machine.acts

  -- the image has as many lines as when it was opened
  pub same-size : (m' : Machine) (es' : List Entry) → KeepsRun o m' es'
      → (memory_of m').size ≡ (memory_of s.machine).size
  same-size m' es' k' = k'.heap.size ∙ sym due.running.keeps.heap.size

  -- a plain run has at most 64 threads
  few-of : (m' : Machine) (es' : List Entry) (threads' : List ThreadFrames) → KeepsRun o m' es'
      → RunsAsPlain o m' threads' → HadNoFault o.launch m'.acts → length m'.rest.threads ≤ 64
  few-of m' es' threads' keeps plain unfaulted =
      let run = laws.runs o m' es' threads' keeps plain in
      let within = (laws.within o.launch.set o.launch.main o.launch.opening (plain_code o.launch) o.launch.limits 0 m'.acts
      run (unfaulted 0)).0.threads in
      let same = ap (λ (w : World). length w.threads) keeps.world.world ∙ length-map m'.rest.threads plain_thread in
      omega (arith, within, same)

  pub goes-on : (new : Shared) (es' : List Entry) (threads' : List ThreadFrames) → Leaves new es' threads'
      → Runs o first new es' threads'
  goes-on new es' threads' l =
      let size = same-size new.machine es' l.kept.keeps in record {
        keeps = l.kept.keeps;
        plain = l.kept.plain;
        taken = l.kept.taken;
        from = subst (λ n. first ≤ n) (sym size) due.running.from;
        unwritten = l.kept.unwritten;
        all = l.kept.all;
        many = l.many;
        few = (let many = l.many in
            let few = few-of new.machine es' threads' l.kept.keeps l.kept.plain l.unfaulted in omega (arith, many, few));
        lines = l.lines ∙ due.running.lines ∙ sym size;
        acts = l.acts;
        limit = l.limit ∙ due.running.limit;
        unnamed = l.unnamed;
        room = l.room;
        listed = λ n below is. subst (λ (ns : List ℕ). slice_index ns n < length o.directory.shapes)
            (sym l.numbers) (due.running.listed n below is);
        unfaulted = l.unfaulted;
      }

  -- ---- parts that stay

  -- where the logs are as they were
  pub logs-same : (m' : Machine) → m'.logs ≡ s.machine.logs → LagsByItsLog o.launch (log_of m' t).underway fs
  logs-same m' same = subst (λ (logs : List Log). LagsByItsLog o.launch
      (slice_index_or logs t (empty_log t)).underway fs) (sym same) (due.running.all.each t fs due.asks.frames).logs

  pub lags-same : (m' : Machine) → doing_of m' t ≡ doing_of s.machine t → LagsByItsStore o.launch (doing_of m' t) fs
  lags-same m' same = subst (λ d. LagsByItsStore o.launch d fs) (sym same)
      (due.running.all.each t fs due.asks.frames).lags

  -- where no line is taken, and as many objects are queued as were
  pub same-room : (new : Shared) (es' : List Entry) → KeepsRun o new.machine es' → new.machine.free ≡ s.machine.free
      → total new.machine.queue.queues ≡ total s.machine.queue.queues → new.history.room ≡ s.history.room
      → total new.machine.queue.queues + ((memory_of new.machine).size - new.machine.free) ≤ new.history.room
  same-room new es' k' free queued room =
      let size = same-size new.machine es' k' in let before = due.running.room in
      omega (arith, size, free, queued, room, before)

  -- An event after which the thread asks the same, by which nothing is taken or queued.
  pub stays-on : (new : Shared) (es' : List Entry) → Kept o first t s.machine new.machine es es' threads threads
      → new.machine.rest.threads ≡ s.machine.rest.threads → new.machine.free ≡ s.machine.free
      → total new.machine.queue.queues ≡ total s.machine.queue.queues → new.history.acts ≡ new.machine.acts
      → new.history.limit ≡ s.history.limit → new.history.named ≡ [] → new.history.room ≡ s.history.room
      → new.lines ≡ s.lines → new.machine.spaces.numbers ≡ s.machine.spaces.numbers
      → HadNoFault o.launch new.machine.acts → AsksOn o first s new es threads t
  stays-on new es' kept same free queued acts limit unnamed room lines numbers unfaulted = record {
    after = es';
    runs = goes-on new es' threads (record {
      kept = kept;
      many = due.running.many ∙ sym (ap length same);
      lines = lines;
      acts = acts;
      limit = limit;
      unnamed = unnamed;
      room = same-room new es' kept.keeps free queued room;
      numbers = numbers;
      unfaulted = unfaulted;
    });
    own = asks-by o s.machine new.machine threads t same;
    others = kept.others;
  }

  -- An event by which the request is answered, that starts no thread and by which nothing is taken or queued.
  pub answered-on : (new : Shared) (es' : List Entry) (r : Reply Ref Item) (act : Recorded)
      → Kept o first t s.machine new.machine es es' threads (answered_threads o.launch threads t fs r [])
      → new.machine.acts ≡ s.machine.acts ++ act ∷ []
      → ((begun : List ThreadFrames) → Begins o new.machine act.act.op begun → begun ≡ [])
      → Begins o new.machine act.act.op []
      → length new.machine.rest.threads ≡ length s.machine.rest.threads → new.machine.free ≡ s.machine.free
      → total new.machine.queue.queues ≡ total s.machine.queue.queues → new.history.acts ≡ new.machine.acts
      → new.history.limit ≡ s.history.limit → new.history.named ≡ [] → new.history.room ≡ s.history.room
      → new.lines ≡ s.lines → new.machine.spaces.numbers ≡ s.machine.spaces.numbers
      → HadNoFault o.launch new.machine.acts → doing_of new.machine t ≡ Nothing
      → GoesOn o first r s new es threads t fs request
  answered-on new es' r act kept acts_are none begins_none same free queued acts limit unnamed room lines numbers
      unfaulted idle =
      let x : ThreadFrames = answer (setting_of o.launch) (turn (setting_of o.launch) fs).frames r in
      let set_long = length-set threads t x in
      let all_long = length-append (slice_set threads t x) [] in
      let many = due.running.many in
      let runs = goes-on new es' (answered_threads o.launch threads t fs r []) (record {
        kept = kept;
        many = omega (arith, set_long, all_long, many, same);
        lines = lines;
        acts = acts;
        limit = limit;
        unnamed = unnamed;
        room = same-room new es' kept.keeps free queued room;
        numbers = numbers;
        unfaulted = unfaulted;
      }) in record {
        after = es';
        act = act;
        acts = acts_are;
        runs = λ begun begins. subst (λ bs. Runs o first new es' (answered_threads o.launch threads t fs r bs))
            (sym (none begun begins)) runs;
        others = λ begun begins. subst (λ bs. SparesOthers o t s.machine new.machine es es' threads
            (answered_threads o.launch threads t fs r bs)) (sym (none begun begins)) kept.others;
        starts = λ it. begins_none;
        started = λ n child is. absurd (no-start o new.machine act.act.op n child is begins_none);
        idle = idle;
      }

  -- ---- what an event is given

  pub lives : Lives s.machine threads t fs
  lives = record {
    state = due.asks.state;
    thread = due.asks.thread;
    lives = due.asks.lives;
    frames = due.asks.frames;
  }

  -- there is room for an act
  pub few : length s.history.acts < s.history.limit → length s.machine.acts < o.launch.limits.acts
  few room =
      let same = ap length due.running.acts in
      let limit = due.running.limit in omega (arith, room, same, limit)

  pub asked : IsReady (doing_of s.machine t)
      → IsAsked o.launch s.machine.acts (shown_in s.machine) s.machine.rest t request
  asked ready = laws.alike o s.machine es threads due.running.keeps due.running.plain t fs request
      ready due.asks

  pub fits : IsReady (doing_of s.machine t) → IsFitRequest o s.machine t request
  fits ready =
      let q = asked ready in
      let many = due.running.many in
      let most = due.running.few in
      record {
        thread = q.thread;
        few = omega (arith, many, most);
        fit = q.fit;
        known = q.known;
      }

  pub converts-now : Converts s es
  converts-now = record {
    agrees = due.running.keeps.heap.agrees;
    unwritten = due.running.unwritten;
    unnamed = due.running.unnamed;
    lines = due.running.lines;
    within = (let within = due.running.keeps.heap.within in let lines = due.running.lines in
        omega (arith, within, lines));
    sound = due.running.keeps.heap.sound;
  }

-- where nothing is under way in the thread's log
pub logs-idle : (launch : Launch) (m' : Machine) (t : ℕ) (fs' : ThreadFrames) → (log_of m' t).underway ≡ Idle
    → LagsByItsLog launch (log_of m' t).underway fs'
logs-idle launch m' t fs' idle = subst (λ u. LagsByItsLog launch u fs') (sym idle) tt
