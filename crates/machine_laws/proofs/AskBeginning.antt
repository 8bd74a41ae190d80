-- A conversion begins with what was asked: it is wanted, and stands first in the thread's queue.
use Rattle.std.proofs.Common.{◌≡◌, ℕ, ◌<◌, List, [], ◌∷◌, ◌++◌, length, refl, ◌∙◌, ap, subst, arith}
use Rattle.std.proofs.lemmas.List.{get_or-set_same}
use Rattle.line_memory.specs.Memory.{Memory}
use Rattle.run_history.specs.Wanted.{NoWish}
use Rattle.twin_forms.specs.Table.{Entry, entry, View, Lies, IsClaimed}
use Rattle.twin_forms.specs.Sights.{view_of}
use Rattle.convert_queue.specs.Queues.{Queues, Queued, queue_of}
use Rattle.convert_words.specs.Agreeing.{Is}
use Rattle.convert_words.specs.Scenes.{Scene}
use Rattle.converter.specs.declared.begin.Begun.{Begun}
use Rattle.converter.specs.declared.begin.Begun.TheVariants as begun
use Rattle.converter.specs.Beginning.{BeginsAs, BeginsByClaim}
use Rattle.machine_forms.specs.Machines.{Opening, Machine, first_of, known_in, wants_in, memory_of, scene_of}
use Rattle.machine_forms.specs.Keeping.{QueuesFirst, KeepsAsked, KeepsRun}
use Rattle.machine_forms.specs.Events.{BeginsOn}
use Rattle.machine_laws.proofs.Wishes.{wants-asked}
use Rattle.machine_laws.proofs.AskTables.{durable-line}
use Rattle.machine_laws.proofs.Changes.{whole-same}
use Rattle.machine_laws.proofs.Quiet.{quiet-keeps, quiet-regions}
use Rattle.machine_laws.proofs.Converted.{Claims, queued-same, wanted-same, queued-claim, wanted-claim}

module _ (o : Opening) (m : Machine) (es : List Entry) (k : KeepsRun o m es) (m' : Machine) (es' : List Entry)
    (t n word : ℕ) (answer : Begun) (b : BeginsOn t n word answer o m m' es es') where
  abbrev v : View
  v = view_of m.spaces.twin

  abbrev v' : View
  v' = view_of m'.spaces.twin

  same-memory : memory_of m' ≡ memory_of m
  same-memory = b.begins.memory

  lies' : Lies v' es'
  lies' = b.begins.agrees.lies

  quiet-by : ((u i x : ℕ) → Is m'.queue es' u i x → QueuesFirst (known_in o m) m' es' u)
      → ((u x : ℕ) → IsClaimed es' u x → wants_in o m u x) → KeepsAsked o m' es'
  quiet-by queued wanted = quiet-keeps o m m' es es' k (record {
    acts = ap (λ (x : Machine). x.acts) b.same;
    about = ap (λ (x : Machine). x.doing) b.same;
    durable = b.begins.durable;
    lines = durable-line v v' es es' k.heap.agrees.lies lies' b.begins.shows;
    queued = queued;
    wanted = wanted;
    later = (let same = ap (λ (x : Memory). x.calls) same-memory in omega (arith, same));
    few = (let same = ap (λ (x : Memory). x.calls) same-memory in let few = k.asked.few in omega
        (arith, same, few));
    regions = quiet-regions o m m' es es' k (ap (λ (x : Machine). x.acts) b.same)
        (ap (λ (x : Machine). x.logs) b.same) (λ n p. (b.begins.durable n).1 p)
        (durable-line v v' es es' k.heap.agrees.lies lies' b.begins.shows)
        (λ u lt. whole-same o m es k (memory_of m') u lt same-memory);
  })

  queues-keep : m'.queue.queues ≡ m.queue.queues → KeepsAsked o m' es'
  queues-keep queues = quiet-by
      (queued-same o m m' es es' k v v' m.queue k.heap.agrees.lies lies' b.begins.shows k.heap.agrees.queued
      b.begins.agrees.queued refl queues)
      (wanted-same o m m' es es' k v v' m.queue k.heap.agrees.lies lies' b.begins.shows k.heap.agrees.queued
      b.begins.agrees.queued refl queues)

  -- what was asked is wanted
  wants : wants_in o m t n
  wants = wants-asked (first_of o) NoWish m.acts (λ u x p is value. let no = is in cc) t n b.pending.0
      b.pending.1
      b.pending.2

  claim-keeps : BeginsByClaim (scene_of m) (scene_of m') es es' t n → KeepsAsked o m' es'
  claim-keeps by =
      quiet-by
      (queued-claim o m m' es es' k v v' m.queue k.heap.agrees.lies lies' b.begins.shows k.heap.agrees.queued
      b.begins.agrees.queued refl t n m.free claims own)
      (wanted-claim o m m' es es' k v v' m.queue k.heap.agrees.lies lies' b.begins.shows k.heap.agrees.queued
      b.begins.agrees.queued refl t n m.free claims wants)
    where
      inside : t < length m.queue.queues
      inside = let all = k.heap.agrees.sizes.queues in let lt = b.thread in omega (arith, all, lt)

      claims : Claims m.queue m'.queue es es' t n m.free
      claims = record {
        thread = inside;
        becomes = by.becomes;
        queues = ap (λ (q : Queues). q.queues) by.queue;
      }

      claimed : IsClaimed es' t n
      claimed = (
        (let lt = b.asked.there in omega (arith, lt, by.becomes.long)),
        ap (λ (e : Entry). e.owner) by.becomes.here,
      )

      -- the queue is this object alone
      alone : queue_of m'.queue t ≡ ((entry es n).at, m.free) ∷ []
      alone = ap (λ (q : Queues). queue_of q t) by.queue
          ∙ get_or-set_same m.queue.queues t (queue_of m.queue t ++ ((entry es n).at, m.free) ∷ []) [] inside
          ∙ ap (λ (xs : List Queued). xs ++ ((entry es n).at, m.free) ∷ []) b.idle

      first : Is m'.queue es' t 0 n
      first =
          let there = b.begins.agrees.queued.all t n claimed in
          let lt = there.1.within in
          let one = ap length alone in
          let none : there.0 ≡ 0 = omega (arith, lt, one) in
          subst (λ i. Is m'.queue es' t i n) none there.1

      own : (i x : ℕ) → Is m'.queue es' t i x → QueuesFirst (known_in o m) m' es' t
      own i x is = record {
        pending = b.pending.0;
        is_pending = b.pending.1;
        object = n;
        value = b.pending.2;
        first = first;
      }

by-answer : (o : Opening) (m : Machine) (es : List Entry) (k : KeepsRun o m es) (m' : Machine)
    (es' : List Entry)
    (t n word : ℕ) (answer : Begun) (b : BeginsOn t n word answer o m m' es es')
    → BeginsAs answer (scene_of m) (scene_of m') es es' t n → KeepsAsked o m' es'
by-answer o m es k m' es' t n word begun.Claimed b says = claim-keeps o m es k m' es' t n word begun.Claimed
    b says
by-answer o m es k m' es' t n word (begun.Needs u) b says =
    queues-keep o m es k m' es' t n word (begun.Needs u) b (ap (λ (q : Queues). q.queues) says.queue)
by-answer o m es k m' es' t n word (begun.Full need left) b says =
    queues-keep o m es k m' es' t n word (begun.Full need left) b
    (ap (λ (x : Scene). x.queue.queues) says.same)

pub beginnings-keep : (o : Opening) (m : Machine) (es : List Entry) (k : KeepsRun o m es) (m' : Machine) (es' : List Entry)
    (t n word : ℕ) (answer : Begun) → BeginsOn t n word answer o m m' es es' → KeepsAsked o m' es'
beginnings-keep o m es k m' es' t n word answer b = by-answer o m es k m' es' t n word answer b b.begins.says
