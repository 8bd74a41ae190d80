-- What keeps a world.
use Rattle.std.proofs.Common.{◌≡◌, ◌⊎◌, inl, inr, ℕ, ◌+◌, ◌*◌, ◌<◌, ◌≤◌, ◌++◌, true, false, List, [], ◌∷◌, length, refl, sym}
use Rattle.std.proofs.Common.{◌∙◌, ap, subst, arith}
use Rattle.std.specs.Prelude.{slice_index, slice_index_or, replicate, zero, suc, ◌==◌}
use Rattle.ap_base.specs.declared.reference.Ref.{Ref}
use Rattle.ap_base.specs.declared.reference.Ref.TheVariants.{Null, Persistent, Volatile}
use Rattle.std.proofs.lemmas.Bool.{false≢true}
use Rattle.std.proofs.lemmas.List.{get_or-append-add, get_or_append_left, get_or-replicate, get_or_past, length-append}
use Rattle.std.proofs.lemmas.List.{length-replicate}
use Rattle.std.proofs.lemmas.Nat.Bits.{bit_at-zero}
use Rattle.line_memory.specs.Memory.{Memory}
use Rattle.volatile_space.specs.Spaces.{Space}
use Rattle.persist_space.specs.Lines.{Lines}
use Rattle.monitors.specs.declared.monitor.Monitor.{Monitor}
use Rattle.monitors.specs.Indexed.{AreSound}
use Rattle.twin_forms.specs.Table.{Entry, no_entry, entry, View, Names, Lies, IsRef, IsClaimed, InP, HasCopied, refers, line_of}
use Rattle.twin_forms.specs.Table.{lines_of}
use Rattle.twin_forms.specs.Moves.{LiesAt, SameHeap, Added, MayStore, Stored, ChangesLine, fresh}
use Rattle.twin_forms.specs.Sights.{Twin, Marks, AllKnown, view_of, held_of, written_of}
use Rattle.twin_forms.proofs.Led.{odd_old, below_or_not}
use Rattle.convert_queue.specs.Marks.{MayNote, clean, mark_at, with_store}
use Rattle.convert_queue.specs.Threads.{has}
use Rattle.convert_queue.specs.declared.phase.Phase.TheVariants.{Copy}
use Rattle.convert_queue.specs.Queues.{Queued, Queues}
use Rattle.convert_words.specs.declared.step.ConvertStep.{ConvertStep}
use Rattle.convert_words.specs.Agreeing.{Is}
use Rattle.convert_words.specs.Scenes.{Scene, scene, IsKey, AgreesAt}
use Rattle.convert_words.proofs.Basics.{room_of}
use Rattle.convert_words.proofs.Noting.{may_note_line}
use Rattle.convert_words.proofs.StepLaws.{starts_agree, new_objects_keep, copied_stores_keep, old_stores_keep}
use Rattle.converter.specs.declared.begin.Begun.{Begun}
use Rattle.converter.specs.Beginning.{Begins}
use Rattle.converter.specs.Stepping.{keys_of, Event, FailedEvent}
use Rattle.converter.proofs.Calling.{known_same, known_stored}
use Rattle.convert_rows.specs.Worlds.{IsWorld}

-- a heap with its queues, its lines and its monitors
abbrev pub World : Twin → Queues → Lines → List Monitor → List ℕ → Type 0
World h q l ms objects = IsWorld h.space h.memory h.marks q l ms objects

abbrev pub scene_of : Twin → Queues → Lines → List Monitor → Scene
scene_of h q l ms = scene h.space h.memory h.marks q l.free (keys_of ms)

-- an object's first reference leads to it
pub named : (e : Entry) (at : ℕ) → LiesAt at e → Names e (2 * at + 1)
named e at x = inl (x.0, (let eq = x.1 in omega (arith, eq)))

made_on : (v v' : View) (es es' : List Entry) (objects : List ℕ) → SameHeap v es v' es' → ((n : ℕ) → n < length es → LiesAt (slice_index objects n) (entry es n)) →
    (n : ℕ) → n < length es' → LiesAt (slice_index objects n) (entry es' n)
made_on v v' es es' objects same made n ln =
    let long = same.long in
    let old : n < length es = omega (arith, ln, long) in
    odd_old (entry es' n) (slice_index objects n) (same.led n (2 * slice_index objects n + 1) old (named (entry es n) (slice_index objects n) (made n old)))

pub event_world : (t : ℕ) (answer : ConvertStep) (h h' : Twin) (q q' : Queues) (l l' : Lines) (ms ms' : List Monitor) (objects : List ℕ) → (w : World h q l ms objects) →
    Event t answer (scene_of h q l ms) (scene_of h' q' l' ms') w.table ms ms' → l'.lines ≡ h'.memory.size → l'.free ≤ l'.lines → AreSound ms' → AllKnown h'.memory → World h' q' l' ms' objects
event_world t answer h h' q q' l l' ms ms' objects w e lines within sound known =
    let c = e.converts in record {
      table = e.after;
      agrees = c.agrees;
      long = c.shows.long ∙ w.long;
      made = made_on (view_of e.at.heap) (view_of h') w.table e.after objects c.shows w.made;
      lines_are = lines;
      within = within;
      sound = sound;
      known = known;
      shapes = ap length c.kinds ∙ ap (λ (x : Twin). length x.marks.kinds) e.goes_on.heap ∙ w.shapes;
    }

pub failed_world : (t : ℕ) (h h' : Twin) (q q' : Queues) (l l' : Lines) (ms ms' : List Monitor) (objects : List ℕ) → (w : World h q l ms objects) →
    FailedEvent t (scene_of h q l ms) (scene_of h' q' l' ms') w.table ms ms' → l'.lines ≡ h'.memory.size → l'.free ≤ l'.lines → AreSound ms' → AllKnown h'.memory → World h' q' l' ms' objects
failed_world t h h' q q' l l' ms ms' objects w e lines within sound known =
    let f = e.fails in record {
      table = w.table;
      agrees = f.agrees;
      long = w.long;
      made = w.made;
      lines_are = lines;
      within = within;
      sound = sound;
      known = known;
      shapes = ap (λ (x : Twin). length x.marks.kinds) f.heap ∙ ap (λ (x : Twin). length x.marks.kinds) e.goes_on.heap ∙ w.shapes;
    }

pub begun_world : (t m : ℕ) (answer : Begun) (h h' : Twin) (q q' : Queues) (l l' : Lines) (ms : List Monitor) (objects : List ℕ) → (w : World h q l ms objects) → (es' : List Entry) →
    Begins t m answer (scene_of h q l ms) (scene_of h' q' l' ms) w.table es' → l'.lines ≡ l.lines → l'.free ≤ l'.lines → h'.memory ≡ h.memory → World h' q' l' ms objects
begun_world t m answer h h' q q' l l' ms objects w es' b lines within memory = record {
  table = es';
  agrees = b.agrees;
  long = b.shows.long ∙ w.long;
  made = made_on (view_of h) (view_of h') w.table es' objects b.shows w.made;
  lines_are = lines ∙ w.lines_are ∙ ap (λ (m : Memory). m.size) (sym memory);
  within = within;
  sound = w.sound;
  known = subst AllKnown (sym memory) w.known;
  shapes = ap length b.kinds ∙ w.shapes;
}

-- a new object
pub made_world : (h h' : Twin) (q : Queues) (l : Lines) (ms : List Monitor) (objects : List ℕ) (shape slots : ℕ) → (w : World h q l ms objects) →
    Added shape slots (view_of h) w.table (view_of h') → h'.memory ≡ h.memory → h'.marks.kinds ≡ h.marks.kinds → World h' q l ms (objects ++ length h.space.words ∷ [])
made_world h h' q l ms objects shape slots w added memory kinds =
    let at = length h.space.words in
    let new = fresh shape slots at in
    let s : Scene = scene_of h q l ms in
    let es = w.table in
    let long : length (es ++ new ∷ []) ≡ length es + 1 = length-append es (new ∷ []) in
    record {
      table = es ++ new ∷ [];
      agrees = new_objects_keep s h' es shape slots added memory w.agrees;
      long = long ∙ ap (λ x. x + 1) w.long ∙ sym (length-append objects (at ∷ []));
      made = λ n ln. elim (below_or_last n (length es) (omega (arith, ln, long))) [
        | inl lt ↦ (
            let same : entry (es ++ new ∷ []) n ≡ entry es n = get_or_append_left es (new ∷ []) no_entry n lt in
            let here : slice_index (objects ++ at ∷ []) n ≡ slice_index objects n = get_or_append_left objects (at ∷ []) 0 n (let e = w.long in omega (arith, lt, e)) in
            subst (λ (e : Entry). LiesAt (slice_index (objects ++ at ∷ []) n) e) (sym same) (subst (λ x. LiesAt x (entry es n)) (sym here) (w.made n lt)))
        | inr eq ↦ (
            let same : entry (es ++ new ∷ []) n ≡ new = ap (λ x. entry (es ++ new ∷ []) x) eq ∙ last_of es new in
            let here : slice_index (objects ++ at ∷ []) n ≡ at = ap (λ x. slice_index (objects ++ at ∷ []) x) (eq ∙ w.long) ∙ last_number objects at in
            subst (λ (e : Entry). LiesAt (slice_index (objects ++ at ∷ []) n) e) (sym same) (omega arith, sym here))
      ];
      lines_are = w.lines_are ∙ ap (λ (m : Memory). m.size) (sym memory);
      within = w.within;
      sound = w.sound;
      known = subst AllKnown (sym memory) w.known;
      shapes = ap length kinds ∙ w.shapes;
    }
  where
    below_or_last : (m n : ℕ) → m < n + 1 → (m < n) ⊎ (m ≡ n)
    below_or_last m n lt = grind arith

    last_of : (es : List Entry) (e : Entry) → entry (es ++ e ∷ []) (length es) ≡ e
    last_of es e = subst (λ x. entry (es ++ e ∷ []) x ≡ e) (let x : length es + 0 ≡ length es = omega arith in x) (get_or-append-add es (e ∷ []) 0 no_entry)

    last_number : (xs : List ℕ) (x : ℕ) → slice_index (xs ++ x ∷ []) (length xs) ≡ x
    last_number xs x = subst (λ y. slice_index (xs ++ x ∷ []) y ≡ x) (let y : length xs + 0 ≡ length xs = omega arith in y) (get_or-append-add xs (x ∷ []) 0 0)

-- a store, by the same table
pub stored_world : (h h' : Twin) (q q' : Queues) (l : Lines) (ms : List Monitor) (objects : List ℕ) → (w : World h q l ms objects) →
    AgreesAt (scene_of h' q' l ms) w.table → h'.memory.size ≡ h.memory.size → AllKnown h'.memory → h'.marks ≡ h.marks → World h' q' l ms objects
stored_world h h' q q' l ms objects w agrees size known marks = record {
  table = w.table;
  agrees = agrees;
  long = w.long;
  made = w.made;
  lines_are = w.lines_are ∙ sym size;
  within = w.within;
  sound = w.sound;
  known = known;
  shapes = ap (λ (m : Marks). length m.kinds) marks ∙ w.shapes;
}

-- ---- parts

pub volatile_one : (a b : ℕ) → Volatile a ≡ Volatile b → a ≡ b
volatile_one a b same = ap index same
  where
    index : Ref → ℕ
    index Null = 0
    index (Volatile x) = x
    index (Persistent x) = x

pub none_at : {X : Type 0} (xs : List X) → length xs ≤ 0 → xs ≡ []
none_at [] le = refl
none_at (x ∷ xs) le = absurd (omega (arith, le))

-- An object that no thread has claimed and that isn't durable is ordinary.
pub ordinary_of : (v : View) (es : List Entry) (n : ℕ) → Lies v es → n < length es → ((t : ℕ) → IsClaimed es t n → ⊥) → (InP es n → ⊥) → ((entry es n).stage ≡ 0) × ((entry es n).owner ≡ 0)
ordinary_of v es n lies ln unclaimed outside =
    let nobody : (entry es n).owner ≡ 0 = elim (zero_or_more (entry es n).owner) [ inl none ↦ none | inr k ↦ absurd (unclaimed k.0 (ln, k.1)) ] in
    let copying = lies.table.copying n ln in (
      elim (below_or_not 0 (entry es n).stage) [
        | inr le ↦ omega (arith, le)
        | inl some ↦ elim (below_or_not 1 (entry es n).stage) [
          | inl moved ↦ absurd (outside (ln, moved, nobody))
          | inr one ↦ absurd (let owned = copying (omega (arith, some, one)) in omega (arith, owned, nobody))
        ]
      ],
      nobody,
    )
  where
    zero_or_more : (n : ℕ) → (n ≡ 0) ⊎ ((k : ℕ) × (n ≡ k + 1))
    zero_or_more zero = inl refl
    zero_or_more (suc n) = inr (n, omega arith)

pub may_store : (h : Twin) (es : List Entry) (n at slot word : ℕ) → Lies (view_of h) es → n < length es → LiesAt at (entry es n) → slot < (entry es n).slots → (entry es n).stage ≡ 0 →
    (refers (view_of h) (entry es n) slot ≡ true → IsRef es word) → MayStore (view_of h) (2 * at + 1) slot word es n
may_store h es n at slot word lies ln here lt young ref = record {
  lies = lies;
  there = ln;
  names = named (entry es n) at here;
  slot = lt;
  reference = ref;
  line_word = λ _ has. absurd (elim has [ inl x ↦ omega (arith, x, young) | inr x ↦ (let y = x.0 in omega (arith, y, young)) ]);
}

-- the same parts, the same heap
pub twin_same : (h h' : Twin) → h'.space ≡ h.space → h'.memory ≡ h.memory → h'.marks ≡ h.marks → h' ≡ h
twin_same h h' space memory marks =
    ap (λ (x : Space). record { space = x; memory = h'.memory; marks = h'.marks }) space ∙ ap (λ (x : Memory). record { space = h.space; memory = x; marks = h'.marks }) memory
    ∙ ap (λ (x : Marks). record { space = h.space; memory = h.memory; marks = x }) marks

-- a store to a copied line of a queued object may be noted
pub line_noted : (s : Scene) (es : List Entry) (t i n k line : ℕ) → AgreesAt s es → Is s.queue es t i n → k < (entry es n).slots → line ≡ (entry es n).line + line_of k →
    (line < length s.queue.marks) × MayNote t (mark_at s.queue.marks line)
line_noted s es t i n k line a is lk here =
    let room = room_of (view_of s.heap) es n a.lies is.claimed.0 is.placed in
    let long = a.sizes.marks in
    let within : line_of k < lines_of (entry es n) = omega (arith, lk) in (
      omega (arith, here, room, long, within),
      subst (λ x. MayNote t (mark_at s.queue.marks x)) (sym here)
          (may_note_line (view_of s.heap) (held_of s.heap.memory) (written_of s.heap.memory) s.queue s.free (IsKey s.keys) es t i n (line_of k) a is within),
    )

-- a store of an int to a slot of a queued object whose line is copied, and of which the queue is told
pub copied_world : (h h1 h' : Twin) (q q' : Queues) (l : Lines) (ms : List Monitor) (objects : List ℕ)
    (t n k word line : ℕ) → (w : World h q l ms objects) → h1 ≡ h → IsClaimed w.table t n → k < (entry w.table n).slots →
    HasCopied (entry w.table n) (line_of k) → line ≡ (entry w.table n).line + line_of k → refers (view_of h)
    (entry w.table n) k ≡ false → Stored (view_of h1) (view_of h') w.table n k word → h'.marks ≡ h1.marks →
    ChangesLine ((entry w.table n).line + line_of k) h1.memory h'.memory → q' ≡ record q { marks = with_store q.marks t line } → World h' q' l ms objects
copied_world h h1 h' q q' l ms objects t n k word line w same owner lk has here plain stored marks changes noted =
    let s : Scene = scene_of h q l ms in
    let i = w.agrees.queued.all t n owner in
    let stored0 = subst (λ (x : Twin). Stored (view_of x) (view_of h') w.table n k word) same stored in
    let marks0 : h'.marks ≡ h.marks = marks ∙ ap (λ (x : Twin). x.marks) same in
    let changes0 = subst (λ (x : Twin). ChangesLine ((entry w.table n).line + line_of k) x.memory h'.memory) same changes in
    let agrees = copied_stores_keep s h' w.table t i.0 n k word i.1 lk has stored0 marks0 changes0 (λ ref. absurd (false≢true (sym plain ∙ ref))) w.agrees in
    let told : q' ≡ record q { marks = with_store q.marks t ((entry w.table n).line + line_of k) } = noted ∙ ap (λ x. record q { marks = with_store q.marks t x }) here in
    stored_world h h' q q' l ms objects w (subst (λ (x : Queues). AgreesAt (scene_of h' x l ms) w.table) (sym told) agrees) changes0.size
    (known_stored h.memory h'.memory ((entry w.table n).line + line_of k) changes0 w.known) marks0

-- a store to a slot whose line isn't copied
pub uncopied_world : (h h1 h' : Twin) (q : Queues) (l : Lines) (ms : List Monitor) (objects : List ℕ) (t n k word : ℕ) → (w : World h q l ms objects) → h1 ≡ h → IsClaimed w.table t n →
    (HasCopied (entry w.table n) (line_of k) → ⊥) → Stored (view_of h1) (view_of h') w.table n k word → h'.marks ≡ h1.marks → h'.memory ≡ h1.memory → World h' q l ms objects
uncopied_world h h1 h' q l ms objects t n k word w same owner fresh stored marks memory =
    let i = w.agrees.queued.all t n owner in
    let stored0 = subst (λ (x : Twin). Stored (view_of x) (view_of h') w.table n k word) same stored in
    let marks0 : h'.marks ≡ h.marks = marks ∙ ap (λ (x : Twin). x.marks) same in
    let memory0 : h'.memory ≡ h.memory = memory ∙ ap (λ (x : Twin). x.memory) same in
    stored_world h h' q q l ms objects w (old_stores_keep (scene_of h q l ms) h' w.table t i.0 n k word i.1 fresh stored0 marks0 memory0 w.agrees)
    (ap (λ (m : Memory). m.size) memory0) (known_same h.memory h'.memory memory0 w.known) marks0

-- what a call that finds lines resident leaves
pub agrees_there : (h h1 : Twin) (q : Queues) (l : Lines) (ms : List Monitor) (objects : List ℕ) → (w : World h q l ms objects) → h1 ≡ h → AgreesAt (scene_of h1 q l ms) w.table
agrees_there h h1 q l ms objects w same = subst (λ (x : Twin). AgreesAt (scene_of x q l ms) w.table) (sym same) w.agrees

pub may_put : (h h1 : Twin) (es : List Entry) (n at slot word : ℕ) → Lies (view_of h1) es → h1 ≡ h → n < length es → LiesAt at (entry es n) → slot < (entry es n).slots →
    refers (view_of h) (entry es n) slot ≡ false → MayStore (view_of h1) (2 * at + 1) slot word es n
may_put h h1 es n at slot word lies same ln here lt plain =
    let none : refers (view_of h1) (entry es n) slot ≡ true → ⊥ = λ ref. false≢true (sym plain ∙ subst (λ (x : Twin). refers (view_of x) (entry es n) slot ≡ true) same ref) in
    record {
      lies = lies;
      there = ln;
      names = named (entry es n) at here;
      slot = lt;
      reference = λ ref. absurd (none ref);
      line_word = λ ref. absurd (none ref);
    }

-- ---- the start

get_replicate : {X : Type 0} (n i : ℕ) (x : X) → slice_index_or (replicate n x) i x ≡ x
get_replicate n i x = elim (below_or_not i n) [
  | inl lt ↦ get_or-replicate n i x x lt
  | inr le ↦ get_or_past (replicate n x) i x (let long = length-replicate n x in omega (arith, long, le))
]

-- with nothing queued, nothing held, and lines that are all clean
pub opened_world : (h : Twin) (q : Queues) (l : Lines) (ms : List Monitor) (objects : List ℕ) (free : ℕ) → Lies (view_of h) [] →
    q ≡ record { queues = replicate 64 []; places = replicate 64 (0, 0); phases = replicate 64 Copy; needs = replicate 64 0; marks = replicate 32768 clean } →
    l ≡ record { free = free; lines = 32768 } → ms ≡ [] → objects ≡ [] → h.memory.size ≡ 32768 → 0 < free → free ≤ 32768 → AllKnown h.memory → length h.marks.kinds ≡ 2 → World h q l ms objects
opened_world h q l ms objects free lies queues lines none empty size some within known shapes =
    let q0 : Queues = record { queues = replicate 64 []; places = replicate 64 (0, 0); phases = replicate 64 Copy; needs = replicate 64 0; marks = replicate 32768 clean } in
    let l0 : Lines = record { free = free; lines = 32768 } in
    let first : ℕ × ℕ = (0, 0) in
    let nobody : ℕ = 0 in
    let nothing : List Queued = [] in
    subst (λ (x : Queues). World h x l ms objects) (sym queues) (subst (λ (x : Lines). World h q0 x ms objects) (sym lines) (subst (λ (x : List Monitor). World h q0 l0 x objects) (sym none)
    (subst (World h q0 l0 []) (sym empty) (record {
      table = [];
      agrees = starts_agree (scene_of h q0 l0 []) [] lies (record {
        queues = length-replicate 64 nothing;
        places = length-replicate 64 first;
        phases = length-replicate 64 Copy;
        needs = length-replicate 64 nobody;
        marks = length-replicate 32768 clean ∙ sym size;
      }) (λ t. get_replicate 64 t []) (λ t u. ap (λ x. has x u) (get_replicate 64 t 0) ∙ ap (λ x. x == 1) (bit_at-zero u)) (λ k. get_replicate 32768 k clean) refl some
          (λ n ln. absurd (omega (arith, ln))) (λ n ln. absurd (omega (arith, ln))) refl;
      long = refl;
      made = λ n ln. absurd (omega (arith, ln));
      lines_are = sym size;
      within = within;
      sound = tt;
      known = known;
      shapes = shapes;
    }))))
