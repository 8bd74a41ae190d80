-- Calls that append entries, one after another: what each stop leaves stands for the same graph, new null roots aside.
use Rattle.std.proofs.Common.{◌≢◌, ◌≡◌, inl, inr, ◌⊎◌, ⊎_elim, ◌<◌, ◌≤◌, ◌+◌, ℕ, List, [], ◌∷◌, ◌++◌, length, take, drop, refl}
use Rattle.std.proofs.Common.{sym, ◌∙◌, ap, subst, append_assoc, arith, slice_index_or}
use Rattle.std.proofs.lemmas.List.{append-nil, length-append, take-append-drop}
use Rattle.std.proofs.Math.Seq.{take-append-add}
use Rattle.graph_model.specs.declared.types.Graph.{Graph}
use Rattle.line_image.specs.Trace.{Outcome}
use Rattle.line_memory.specs.Memory.{Memory, shown, CanLeave, CanLeaveAll, IsDurable}
use Rattle.line_memory.proofs.Chain.{goes_nowhere}
use Rattle.image_layout.specs.Places.{min_lines, max_lines, directory_words, directory_line, directory_word}
use Rattle.image_meaning.specs.Entries.{DirectoryEntry, spelled}
use Rattle.image_meaning.specs.Directories.{Directory, no_entries, with_entry, spelled_all, AreEntries, Spells}
use Rattle.image_meaning.specs.Meaning.{StandsFor}
use Rattle.image_meaning.proofs.Standings.{stands-within}
use Rattle.word_changes.specs.Changes.{IsFixed, OldOrGiven, ChangesTo, StopsLeave}
use Rattle.word_changes.proofs.Changing.{changes_nothing, changes_more, changes_weaker, changes_stops, stops_then, stops_weaker}
use Rattle.directories.specs.declared.stepping.Progress.{Progress}
use Rattle.directories.specs.declared.stepping.Progress.TheVariants.{Words, Fenced, Raised}
use Rattle.directories.specs.Appending.{OfEntry, HasCome}
use Rattle.directories.specs.Kept.{Kept, next_words, Continues, Stands, NextStands, HasSome}
use Rattle.directories.specs.Growing.{OfDirectory, HasDurable, HasAppended, LeavesGraph, StandsWith, StandsWithSome}
use Rattle.directories.specs.Growing.{IsAppendCall, LeavesDirectory}
use Rattle.directories.specs.Planning.{IsPlanned}
use Rattle.directories.proofs.Appends.{next_within}
use Rattle.directories.proofs.Grows.{SameBesides, spelled_both, grown}

-- ---- it begins

next_stands : (left : List DirectoryEntry) (used : ℕ) (m : Memory) → IsFixed m 0 3 used → NextStands left (Words 0) used m
next_stands [] used m fixed = (refl, fixed)
next_stands (entry ∷ later) used m fixed = (omega arith, fixed, λ i below. absurd (omega (arith, below)))

count_fixed : (had : List DirectoryEntry) (start : Kept) (m : Memory) → HasDurable had start m → IsFixed m 0 3 start.used
count_fixed had start m has x left = has.count x left ∙ has.spells.used ∙ sym has.used

words_fixed : (had : List DirectoryEntry) (start : Kept) (m : Memory) → HasDurable had start m → (i : ℕ) → i < length (spelled_all had)
    → IsFixed m (directory_line i) (directory_word i) (slice_index_or (spelled_all had) i 0)
words_fixed had start m has i below x left = has.words i (omega (arith, below, has.used)) x left ∙ has.spells.spelled i below

pub durable_stands : (had : List DirectoryEntry) (start : Kept) (m : Memory) → HasDurable had start m → Stands had start m
durable_stands had start m has = record {
  known = has.known;
  used = has.used;
  words = words_fixed had start m has;
  next = subst (λ (p : Progress). NextStands start.left p start.used m) (sym has.begins)
      (next_stands start.left start.used m (count_fixed had start m has));
}

-- the words of the entries so far and their number are fixed at first
pub begins_spelled : (had : List DirectoryEntry) (start : Kept) (m : Memory) (c : Outcome) → HasDurable had start m → CanLeaveAll m c
    → Spells c had
begins_spelled had start m c has all = record {
  used = count_fixed had start m has (c 0 3) (all 0 3) ∙ has.used;
  spelled = λ i below. words_fixed had start m has i below (c (directory_line i) (directory_word i)) (all (directory_line i) (directory_word i));
}

start_stops : (had : List DirectoryEntry) (start : Kept) (m : Memory) (c : Outcome) → HasDurable had start m → CanLeaveAll m c
    → HasSome had start.left c
start_stops had start m c has all = (
  0,
  omega arith,
  subst (λ (entries : List DirectoryEntry). Spells c entries) (sym (append-nil had)) (begins_spelled had start m c has all),
)

pub begun_appended : (had : List DirectoryEntry) (start : Kept) (m : Memory) → HasDurable had start m
    → length (spelled_all (had ++ start.left)) ≤ directory_words → HasAppended had start start m m
begun_appended had start m has room = record {
  begun = has;
  room = room;
  changes = changes_nothing OfDirectory m;
  on = record {
    added = [];
    left = refl;
    stands = subst (λ (entries : List DirectoryEntry). Stands entries start m) (sym (append-nil had)) (durable_stands had start m has);
  };
  stops = record {
    within = goes_nowhere m.image (HasSome had start.left);
    after = λ c all. start_stops had start m c has all;
  };
}

-- ---- it goes on

-- some of the later entries are some of all
some_more : (had added left : List DirectoryEntry) (c : Outcome) → HasSome (had ++ added) left c → HasSome had (added ++ left) c
some_more had added left c has = (
  length added + has.0,
  omega (arith, has.1, length-append added left),
  subst (λ (entries : List DirectoryEntry). Spells c entries)
      (append_assoc had added (take has.0 left) ∙ ap (λ (l : List DirectoryEntry). had ++ l) (sym (take-append-add added left has.0))) has.2,
)

-- an entry's words lie in the directory
entry_of_directory : (used : ℕ) (words : List ℕ) (a b : Memory) → used + length words ≤ directory_words
    → ChangesTo (OfEntry used words) a b → ChangesTo OfDirectory a b
entry_of_directory used words a b room changes =
    changes_weaker (OfEntry used words) OfDirectory a b
    (λ l w v given. ⊎_elim
    (λ word. inr (omega (arith, word.3), omega (arith, word.2, word.3, room)))
    (λ count. inl (count.0, count.1))
    given) changes

-- how many words all the entries take
all_words : (had added left all : List DirectoryEntry) → all ≡ added ++ left
    → length (spelled_all (had ++ all)) ≡ length (spelled_all (had ++ added)) + length (spelled_all left)
all_words had added left all is =
    ap (λ (l : List DirectoryEntry). length (spelled_all (had ++ l))) is
    ∙ ap (λ (l : List DirectoryEntry). length (spelled_all l)) (sym (append_assoc had added left))
    ∙ ap length (spelled_both (had ++ added) left) ∙ length-append (spelled_all (had ++ added)) (spelled_all left)

pub further_appended : (had : List DirectoryEntry) (start old new : Kept) (first before after : Memory)
    → HasAppended had start old first before → IsAppendCall old new before after → HasAppended had start new first after
further_appended had start old new first before after so_far call =
    let added = so_far.on.added in
    let on = call.stands (had ++ added) so_far.on.stands in
    let many = all_words had added old.left start.left so_far.on.left in
    record {
      begun = so_far.begun;
      room = so_far.room;
      changes = changes_more OfDirectory first before after so_far.changes
          (entry_of_directory old.used (next_words old.left) before after
          (omega (arith, so_far.room, many, next_within old.left, so_far.on.stands.used)) call.changes);
      on = record {
        added = added ++ on.added;
        left = so_far.on.left ∙ ap (λ (l : List DirectoryEntry). added ++ l) on.left ∙ sym (append_assoc added on.added new.left);
        stands = subst (λ (l : List DirectoryEntry). Stands l new after) (append_assoc had added on.added) on.stands;
      };
      stops = stops_then first before after (HasSome had start.left) so_far.stops
          (stops_weaker before after (HasSome (had ++ added) old.left) (HasSome had start.left) (call.stops (had ++ added) so_far.on.stands)
          (λ c has. subst (λ (l : List DirectoryEntry). HasSome had l c) (sym so_far.on.left) (some_more had added old.left c has)));
    }

-- ---- what stops leave

stops_both : (a b : Memory) (P Q : Outcome → Type 0) → StopsLeave a b P → StopsLeave a b Q → StopsLeave a b (λ c. P c × Q c)
stops_both a b P Q first second = record {
  within = record {
    later = first.within.later;
    before = first.within.before;
    during = λ n gt le lt c was. (first.within.during n gt le lt c was, second.within.during n gt le lt c was);
  };
  after = λ c all. (first.after c all, second.after c all);
}

are_first : (directory : Directory) (entries later : List DirectoryEntry) → AreEntries directory (entries ++ later) → AreEntries directory entries
are_first directory [] later are = tt
are_first directory (e ∷ entries) later are = (are.0, are.1, are_first (with_entry directory e) entries later are.2)

entries_before : (had added left : List DirectoryEntry) → AreEntries no_entries (had ++ (added ++ left)) → AreEntries no_entries (had ++ added)
entries_before had added left are =
    are_first no_entries (had ++ added) left (subst (λ (l : List DirectoryEntry). AreEntries no_entries l) (sym (append_assoc had added left)) are)

module _ (first : Memory) (c : Outcome) (all : OldOrGiven OfDirectory first c) where
  pick : (l w : ℕ) → CanLeave first l w (c l w) ⊎ OfDirectory l w (c l w) → ℕ
  pick l w (inl was) = c l w
  pick l w (inr given) = shown first l w

  -- what the first memory might have left: the words of c, and in the directory those that it shows
  before : Outcome
  before l w = pick l w (all l w)

  picked_can : (l w : ℕ) (either : CanLeave first l w (c l w) ⊎ OfDirectory l w (c l w)) → CanLeave first l w (pick l w either)
  unfolding pick
  picked_can l w (inl was) = was
  picked_can l w (inr given) = inl refl

  before_can : CanLeaveAll first before
  unfolding before
  before_can l w = picked_can l w (all l w)

  picked_same : (l w : ℕ) (either : CanLeave first l w (c l w) ⊎ OfDirectory l w (c l w)) → (OfDirectory l w 0 → ⊥) → c l w ≡ pick l w either
  unfolding pick
  picked_same l w (inl was) outside = refl
  picked_same l w (inr given) outside = absurd (outside given)

  before_same : SameBesides before c
  unfolding before
  before_same l w outside = picked_same l w (all l w) outside

  pub graph_at : (had : List DirectoryEntry) (start : Kept) (graph : Graph) (added left : List DirectoryEntry) → HasDurable had start first
      → length (spelled_all (had ++ start.left)) ≤ directory_words → Continues had start → LeavesGraph graph first
      → start.left ≡ added ++ left → Spells c (had ++ added) → StandsWith first.size graph had added c
  graph_at had start graph added left has room may leaves is spells =
      let are : AreEntries no_entries (had ++ added) =
      entries_before had added left (subst (λ (l : List DirectoryEntry). AreEntries no_entries (had ++ l)) is may.are) in
      let few : length (spelled_all (had ++ added)) ≤ directory_words = omega (arith, room, all_words had added left start.left is) in
      let is_grown = grown first.size before c graph had added (leaves.in_use before before_can) (leaves.stands before before_can) are
      (begins_spelled had start first before has before_can) before_same spells few in
      record {
        opens = is_grown.opens;
        stands = is_grown.stands;
        well_formed = (is_grown.opens.used, _, is_grown.stands);
      }

module _ (had : List DirectoryEntry) (start kept : Kept) (graph : Graph) (first m : Memory) (h : HasAppended had start kept first m)
    (may : Continues had start) (leaves : LeavesGraph graph first) where
  pub growing_stops : StopsLeave first m (StandsWithSome first.size graph had start.left)
  growing_stops =
      let moments = changes_stops OfDirectory first m (OldOrGiven OfDirectory first) h.changes (λ c all. all) in
      let both = stops_both first m (OldOrGiven OfDirectory first) (HasSome had start.left) moments h.stops in
      stops_weaker first m (λ c. OldOrGiven OfDirectory first c × HasSome had start.left c) (StandsWithSome first.size graph had start.left) both
      (λ c at. (
        at.1.0,
        at.1.1,
        graph_at first c at.0 had start graph (take at.1.0 start.left) (drop at.1.0 start.left) h.begun h.room may leaves
            (sym (take-append-drop at.1.0 start.left)) at.1.2,
      ))

  pub whole_stands : kept.left ≡ [] → (c : Outcome) → CanLeaveAll m c → StandsWith first.size graph had start.left c
  whole_stands none c all =
      let added = h.on.added in
      let is : start.left ≡ added = h.on.left ∙ ap (λ (l : List DirectoryEntry). added ++ l) none ∙ append-nil added in
      let stands = h.on.stands in
      let fixed : IsFixed m 0 3 kept.used = (subst (λ (l : List DirectoryEntry). NextStands l kept.progress kept.used m) none stands.next).1 in
      let spells : Spells c (had ++ added) = record {
        used = fixed (c 0 3) (all 0 3) ∙ stands.used;
        spelled = λ i below. stands.words i below (c (directory_line i) (directory_word i)) (all (directory_line i) (directory_word i));
      } in
      subst (λ (l : List DirectoryEntry). StandsWith first.size graph had l c) (sym is)
      (graph_at first c (λ l w. h.changes.leaves l w (c l w) (all l w)) had start graph added kept.left h.begun h.room may leaves h.on.left spells)

-- ---- steps of others

module _ (old new : Memory) (leave : LeavesDirectory old new) where
  fixed_left : (l w v : ℕ) → OfDirectory l w v → IsFixed old l w v → IsFixed new l w v
  fixed_left l w v of fixed x left = fixed x (leave.leaves l w x of left)

  of_word : (i v : ℕ) → i < directory_words → OfDirectory (directory_line i) (directory_word i) v
  of_word i v below = inr (omega arith, omega (arith, below))

  come_left : (used : ℕ) (words : List ℕ) (p : Progress) → used + length words ≤ directory_words → HasCome p used words old
      → HasCome p used words new
  come_left used words (Words n) room come = (
    come.0,
    fixed_left 0 3 used (inl (refl, refl)) come.1,
    λ i below. leave.written (directory_line (used + i)) (directory_word (used + i)) (slice_index_or words i 0)
        (of_word (used + i) (slice_index_or words i 0) (omega (arith, below, come.0, room))) (come.2 i below),
  )
  come_left used words Fenced room come = (
    λ x left. come.0 x (leave.leaves 0 3 x (inl (refl, refl)) left),
    λ i below. fixed_left (directory_line (used + i)) (directory_word (used + i)) (slice_index_or words i 0)
        (of_word (used + i) (slice_index_or words i 0) (omega (arith, below, room))) (come.1 i below),
  )
  come_left used words Raised room come = (
    λ x left. come.0 x (leave.leaves 0 3 x (inl (refl, refl)) left),
    λ i below. fixed_left (directory_line (used + i)) (directory_word (used + i)) (slice_index_or words i 0)
        (of_word (used + i) (slice_index_or words i 0) (omega (arith, below, room))) (come.1 i below),
    leave.written 0 3 (used + length words) (inl (refl, refl)) come.2,
  )

  next_left : (left : List DirectoryEntry) (p : Progress) (used : ℕ) → used + length (next_words left) ≤ directory_words
      → NextStands left p used old → NextStands left p used new
  next_left [] p used room begins = (begins.0, fixed_left 0 3 used (inl (refl, refl)) begins.1)
  next_left (entry ∷ later) p used room come = come_left used (spelled entry) p room come

  pub others_leave : (had : List DirectoryEntry) (kept : Kept) → kept.used + length (next_words kept.left) ≤ directory_words
      → Stands had kept old → Stands had kept new
  others_leave had kept room stands = record {
    known = leave.known stands.known;
    used = stands.used;
    words = λ i below. fixed_left (directory_line i) (directory_word i) (slice_index_or (spelled_all had) i 0)
        (of_word i (slice_index_or (spelled_all had) i 0) (omega (arith, below, room, stands.used))) (stands.words i below);
    next = next_left kept.left kept.progress kept.used room stands.next;
  }

-- ---- entries are planned

planned_next : (left entries : List DirectoryEntry) (p : Progress) (used : ℕ) (m : Memory) → NextStands left p used m
    → NextStands (left ++ entries) p used m
planned_next [] entries p used m begins =
    subst (λ (q : Progress). NextStands entries q used m) (sym begins.0) (next_stands entries used m begins.1)
planned_next (entry ∷ later) entries p used m come = come

pub plans_leave : (had entries : List DirectoryEntry) (old new : Kept) (m : Memory) → IsPlanned entries old new
    → Stands had old m → Stands had new m
plans_leave had entries old new m plan stands = record {
  known = stands.known;
  used = plan.used ∙ stands.used;
  words = stands.words;
  next = subst (λ (l : List DirectoryEntry). NextStands l new.progress new.used m) (sym plan.left)
      (subst (λ (p : Progress). NextStands (old.left ++ entries) p new.used m) (sym plan.progress)
      (subst (λ (n : ℕ). NextStands (old.left ++ entries) old.progress n m) (sym plan.used)
      (planned_next old.left entries old.progress old.used m stands.next)));
}

-- ---- what is durable is what stops leave

pub durable_leaves : (graph : Graph) (m : Memory) → min_lines ≤ m.size → m.size ≤ max_lines
    → ((l w : ℕ) → l < m.size → IsDurable m l w) → shown m 0 0 ≢ 0 → StandsFor m.size (shown m) graph → LeavesGraph graph m
durable_leaves graph m enough most durable used stands = record {
  in_use = λ c all zero. used (sym (durable 0 0 (omega (arith, enough)) (c 0 0) (all 0 0)) ∙ zero);
  stands = λ c all. stands-within m.size (shown m) c graph enough most stands (λ l w below. durable l w below (c l w) (all l w));
}
