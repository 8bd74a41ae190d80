-- The table of guards through what one thread does.
use Rattle.std.proofs.Common.{◌≡◌, ◌≢◌, ◌⊎◌, inl, inr, ⊎_elim, ◌<◌, ◌≤◌, ◌+◌, ◌*◌, ℕ, List, [], Option, Some, None, length}
use Rattle.std.proofs.Common.{slice_index_or, refl, sym, ◌∙◌, ap, subst, arith, rules}
use Rattle.std.specs.Prelude.{slice_set, slice_index, ◌↔◌, IfSome, IsNone}
use Rattle.std.proofs.lemmas.Bool.{cases_eq, cases_lt}
use Rattle.std.proofs.lemmas.List.{length-set, get_or-set_same, get_or-set_other, get_or_past, get_or_default}
use Rattle.ap_base.specs.declared.place.Spot.{Spot}
use Rattle.region_log.specs.declared.entry.Entry.{Entry}
use Rattle.region_log.specs.declared.entry.EndStage.TheVariants.{Cleared}
use Rattle.region_log.specs.declared.entry.EntryStage.TheVariants.{Begun}
use Rattle.region_log.specs.declared.entry.Underway.{Underway}
use Rattle.region_log.specs.declared.entry.Underway.TheVariants.{Nothing, Adding, Ending}
use Rattle.region_log.specs.Guarding.{IsGuarded, IsAdded}
use Rattle.region_log.specs.Log.{Log, SameWord, IsLogged, entry_of}
use Rattle.region_logs.specs.Logs.{AllLogs, AreApart, OthersStay, empty_log, log_at}
use Rattle.region_logs.specs.Table.{word_of, owner_of, Names, IsTable, NamesOthers, IsAmong, SetsOwners, GuardsStay}

-- ---- words by their numbers

pub word_below : (spot : Spot) (lines : ℕ) → spot.line < lines → word_of spot < 8 * lines
word_below spot lines below = omega (arith, spot.in_line)

pub same_word : (a b : Spot) → word_of a ≡ word_of b → SameWord a b
same_word a b is = (omega (arith, a.in_line, b.in_line, is), omega (arith, a.in_line, b.in_line, is))

number_of_same : (a b : Spot) → SameWord a b → word_of b ≡ word_of a
number_of_same a b same = omega (arith, same.0, same.1)

-- ---- a list of logs

pub log-same : (logs : List Log) (t s : ℕ) (log d : Log) → t < length logs → s ≡ t
    → slice_index_or (slice_set logs t log) s d ≡ log
log-same logs t s log d below is =
    ap (λ (i : ℕ). slice_index_or (slice_set logs t log) i d) is ∙ get_or-set_same logs t log d below

pub log-other : (logs : List Log) (t s : ℕ) (log d : Log) → s ≢ t
    → slice_index_or (slice_set logs t log) s d ≡ slice_index_or logs s d
log-other logs t s log d other = get_or-set_other logs t s log d other

pub others-stay : (logs : List Log) (lines t : ℕ) (log : Log)
    → OthersStay t (record { logs = logs; lines = lines }) (record { logs = slice_set logs t log; lines = lines })
others-stay logs lines t log = record {
  lines = refl;
  logs = λ s other. log-other logs t s log (empty_log s) other;
}

-- a log that was taken out of the list
log-there : (logs : List Log) (n : ℕ) (was : Log) → n < length logs → was ≡ slice_index_or logs n was
    → was ≡ slice_index_or logs n (empty_log n)
log-there logs n was below is = is ∙ get_or_default logs n was (empty_log n) below

pub log-is : (logs : List Log) (lines : ℕ) (all : AllLogs) (n t : ℕ) (was : Log)
    → record { logs = logs; lines = lines } ≡ all → n ≡ t → n < length logs → was ≡ slice_index_or logs n was
    → was ≡ log_at all t
log-is logs lines all n t was view same below is =
    log-there logs n was below is ∙ ap (λ (l : AllLogs). log_at l n) view ∙ ap (λ (i : ℕ). log_at all i) same

pub log-now : (logs : List Log) (lines n t : ℕ) (new : Log) → n ≡ t → n < length logs
    → new ≡ log_at (record { logs = slice_set logs n new; lines = lines }) t
log-now logs lines n t new same below = sym (log-same logs n t new (empty_log t) below (sym same))

-- the log keeps its thread and its guards
pub record Stays (before after : Log) : Type 0 where
  pub thread : after.thread ≡ before.thread
  pub guards : GuardsStay before after

pub same-guards : (before after : Log) → after.thread ≡ before.thread → after.entries ≡ before.entries
    → after.underway ≡ before.underway → Stays before after
same-guards before after thread entries underway = record {
  thread = thread;
  guards = λ spot. (
    λ guarded. ⊎_elim
        (λ (logged : IsLogged after.entries spot). inl (subst (λ (es : List Entry). IsLogged es spot) entries logged))
        (λ (added : IsAdded after.underway spot). inr (subst (λ (u : Underway). IsAdded u spot) underway added))
        guarded,
    λ guarded. ⊎_elim
        (λ (logged : IsLogged before.entries spot). inl (subst (λ (es : List Entry). IsLogged es spot) (sym entries) logged))
        (λ (added : IsAdded before.underway spot). inr (subst (λ (u : Underway). IsAdded u spot) (sym underway) added))
        guarded,
  );
}

-- ---- a log is changed, and the words of its thread in the table

pub table-set : (logs : List Log) (lines t : ℕ) (old new : List ℕ) (log : Log) → IsTable logs lines old → t < 64
    → log.thread ≡ t → Names new t log → NamesOthers t old new
    → IsTable (slice_set logs t log) lines new
table-set logs lines t old new log is below thread names others =
    let there : t < length logs = omega (arith, is.count) in
    record {
      count = length-set logs t log ∙ is.count;
      thread = λ s. ⊎_elim
          (λ (same : s ≡ t). ap (λ (l : Log). l.thread) (log-same logs t s log (empty_log s) there same) ∙ thread ∙ sym same)
          (λ (other : s ≢ t). ap (λ (l : Log). l.thread) (log-other logs t s log (empty_log s) other) ∙ is.thread s)
          (cases_eq s t);
      size = others.size ∙ is.size;
      names = λ s. ⊎_elim
          (λ (same : s ≡ t). subst (λ (l : Log). Names new s l) (sym (log-same logs t s log (empty_log s) there same))
          (subst (λ (n : ℕ). Names new n log) (sym same) names))
          (λ (other : s ≢ t). subst (λ (l : Log). Names new s l) (sym (log-other logs t s log (empty_log s) other))
          (λ spot within. let inside : word_of spot < length old = omega (arith, within, others.size) in (
            λ owned. (is.names s spot inside).0 ((others.others spot s inside other).0 owned),
            λ guarded. (others.others spot s inside other).1 ((is.names s spot inside).1 guarded),
          )))
          (cases_eq s t);
    }

pub names-itself : (t : ℕ) (table : List ℕ) → NamesOthers t table table
names-itself t table = record { size = refl; others = λ spot s within other. (λ owned. owned, λ owned. owned) }

pub names-stay : (t : ℕ) (table : List ℕ) (before after : Log) → GuardsStay before after → Names table t before
    → Names table t after
names-stay t table before after stay names = λ spot within. (
  λ owned. (stay spot).1 ((names spot within).0 owned),
  λ guarded. (names spot within).1 ((stay spot).0 guarded),
)

pub table-stays : (logs : List Log) (lines t : ℕ) (table : List ℕ) (log : Log) → IsTable logs lines table → t < 64
    → log.thread ≡ t → GuardsStay (slice_index_or logs t (empty_log t)) log
    → IsTable (slice_set logs t log) lines table
table-stays logs lines t table log is below thread stay =
    table-set logs lines t table table log is below thread
    (names-stay t table (slice_index_or logs t (empty_log t)) log stay (is.names t)) (names-itself t table)

pub table-goes : (logs : List Log) (lines n : ℕ) (table : List ℕ) (was log : Log) → IsTable logs lines table → n < 64
    → was ≡ slice_index_or logs n was → Stays was log
    → IsTable (slice_set logs n log) lines table
table-goes logs lines n table was log is below at stays =
    let there : was ≡ slice_index_or logs n (empty_log n) = log-there logs n was (omega (arith, below, is.count)) at in
    table-stays logs lines n table log is below
    (stays.thread ∙ ap (λ (l : Log). l.thread) there ∙ is.thread n)
    (subst (λ (l : Log). GuardsStay l log) there stays.guards)

pub table-moves : (logs : List Log) (lines n t : ℕ) (old new : List ℕ) (was log : Log) → IsTable logs lines old → n < 64
    → n ≡ t → was ≡ slice_index_or logs n was → log.thread ≡ was.thread → Names new t log → NamesOthers t old new
    → IsTable (slice_set logs n log) lines new
table-moves logs lines n t old new was log is below same at thread names others =
    let there : was ≡ slice_index_or logs n (empty_log n) = log-there logs n was (omega (arith, below, is.count)) at in
    table-set logs lines n old new log is below
    (thread ∙ ap (λ (l : Log). l.thread) there ∙ is.thread n)
    (subst (λ (i : ℕ). Names new i log) (sym same) names)
    (subst (λ (i : ℕ). NamesOthers i old new) (sym same) others)

-- ---- a word is guarded

not-added : (u : Underway) (spot : Spot) → u ≡ Nothing → IsAdded u spot → ⊥
not-added Nothing spot is added = added
not-added (Adding e stage) spot is added = cc
not-added (Ending stage) spot is added = added

abbrev guarding : Log → Spot → ℕ → Log
guarding log spot old = record log { underway = Adding (entry_of spot old) Begun }

names-guarding : (table : List ℕ) (t old : ℕ) (log : Log) (spot : Spot) → Names table t log → log.underway ≡ Nothing
    → word_of spot < length table → Names (slice_set table (word_of spot) (t + 1)) t (guarding log spot old)
names-guarding table t old log spot names idle there =
    let new : List ℕ = slice_set table (word_of spot) (t + 1) in
    λ other within.
    let inside : word_of other < length table = omega (arith, within, length-set table (word_of spot) (t + 1)) in
    ⊎_elim
    (λ (same : word_of other ≡ word_of spot).
    let here : owner_of new other ≡ t + 1 = ap (λ (i : ℕ). slice_index new i) same
    ∙ get_or-set_same table (word_of spot) (t + 1) 0 there in (
      λ owned. inr (same_word spot other (sym same)),
      λ guarded. here,
    ))
    (λ (apart : word_of other ≢ word_of spot).
    let stays : owner_of new other ≡ owner_of table other =
    get_or-set_other table (word_of spot) (word_of other) (t + 1) 0 apart in (
      λ owned. ⊎_elim
          (λ (logged : IsLogged log.entries other). inl logged)
          (λ (added : IsAdded log.underway other). absurd (not-added log.underway other idle added))
          ((names other inside).0 (sym stays ∙ owned)),
      λ guarded. ⊎_elim
          (λ (logged : IsLogged log.entries other). stays ∙ (names other inside).1 (inl logged))
          (λ (added : SameWord spot other). absurd (apart (number_of_same spot other added)))
          guarded,
    ))
    (cases_eq (word_of other) (word_of spot))

names-others-guarding : (table : List ℕ) (t : ℕ) (spot : Spot) → word_of spot < length table
    → ((s : ℕ) → owner_of table spot ≡ s + 1 → ⊥)
    → NamesOthers t table (slice_set table (word_of spot) (t + 1))
names-others-guarding table t spot there free =
    let new : List ℕ = slice_set table (word_of spot) (t + 1) in
    record {
      size = length-set table (word_of spot) (t + 1);
      others = λ other s within apart. ⊎_elim
          (λ (same : word_of other ≡ word_of spot).
          let here : owner_of new other ≡ t + 1 = ap (λ (i : ℕ). slice_index new i) same
          ∙ get_or-set_same table (word_of spot) (t + 1) 0 there in
          let was : owner_of table other ≡ owner_of table spot = ap (λ (i : ℕ). slice_index table i) same in (
            λ owned. let no : s ≡ t = omega (arith, owned, here) in absurd (apart no),
            λ owned. absurd (free s (sym was ∙ owned)),
          ))
          (λ (away : word_of other ≢ word_of spot).
          let stays : owner_of new other ≡ owner_of table other =
          get_or-set_other table (word_of spot) (word_of other) (t + 1) 0 away in (
            λ owned. sym stays ∙ owned,
            λ owned. stays ∙ owned,
          ))
          (cases_eq (word_of other) (word_of spot));
    }

pub table-guards : (logs : List Log) (lines t old : ℕ) (table : List ℕ) (spot : Spot) → IsTable logs lines table
    → t < 64 → spot.line < lines
    → (slice_index_or logs t (empty_log t)).underway ≡ Nothing
    → ((s : ℕ) → IsGuarded (slice_index_or logs s (empty_log s)) spot → ⊥)
    → IsTable (slice_set logs t (guarding (slice_index_or logs t (empty_log t)) spot old)) lines
    (slice_set table (word_of spot) (t + 1))
table-guards logs lines t old table spot is below line idle free =
    let there : word_of spot < length table = omega (arith, word_below spot lines line, is.size) in
    table-set logs lines t table (slice_set table (word_of spot) (t + 1))
    (guarding (slice_index_or logs t (empty_log t)) spot old) is below (is.thread t)
    (names-guarding table t old (slice_index_or logs t (empty_log t)) spot (is.names t) idle there)
    (names-others-guarding table t spot there (λ s owned. free s ((is.names s spot there).0 owned)))

pub table-guards-at : (logs : List Log) (lines n m word old : ℕ) (table : List ℕ) (spot : Spot) (was new : Log)
    → IsTable logs lines table → n < 64 → spot.line < lines → was ≡ slice_index_or logs n was
    → was.underway ≡ Nothing → new ≡ guarding was spot old → m ≡ n → word ≡ word_of spot
    → ((s : ℕ) → IsGuarded (slice_index_or logs s (empty_log s)) spot → ⊥)
    → IsTable (slice_set logs n new) lines (slice_set table word (m + 1))
table-guards-at logs lines n m word old table spot was new is below line at idle named same number free =
    let there : was ≡ slice_index_or logs n (empty_log n) = log-there logs n was (omega (arith, below, is.count)) at in
    let guards : IsTable (slice_set logs n (guarding (slice_index_or logs n (empty_log n)) spot old)) lines
    (slice_set table (word_of spot) (n + 1)) =
    table-guards logs lines n old table spot is below line (subst (λ (l : Log). l.underway ≡ Nothing) there idle) free in
    let log : new ≡ guarding (slice_index_or logs n (empty_log n)) spot old =
    named ∙ ap (λ (l : Log). guarding l spot old) there in
    subst (λ (l : Log). IsTable (slice_set logs n l) lines (slice_set table word (m + 1))) (sym log)
    (subst (λ (w : ℕ). IsTable (slice_set logs n (guarding (slice_index_or logs n (empty_log n)) spot old)) lines
    (slice_set table w (m + 1))) (sym number)
    (subst (λ (i : ℕ). IsTable (slice_set logs n (guarding (slice_index_or logs n (empty_log n)) spot old)) lines
    (slice_set table (word_of spot) (i + 1))) (sym same) guards))

-- ---- the words of entries get an owner

-- the entry that comes next is of another word
among-before : (entries : List Entry) (i : ℕ) (e : Entry) (spot : Spot) → i < length entries
    → e ≡ slice_index_or entries i e → word_of spot ≢ word_of e.spot → IsAmong entries (i + 1) spot
    → IsAmong entries i spot
among-before entries i e spot there is apart (k, x, below, at, same) = ⊎_elim
    (λ (last : k ≡ i).
    let it : x ≡ e = sym at ∙ ap (λ (j : ℕ). slice_index_or entries j x) last
    ∙ get_or_default entries i x e there ∙ sym is in
    absurd (apart (number_of_same e.spot spot (subst (λ (y : Entry). SameWord y.spot spot) it same))))
    (λ (early : k ≢ i). (k, x, omega (arith, below, early), at, same))
    (cases_eq k i)

among-more : (entries : List Entry) (i : ℕ) (spot : Spot) → IsAmong entries i spot → IsAmong entries (i + 1) spot
among-more entries i spot (k, x, below, at, same) = (k, x, omega (arith, below), at, same)

-- a word other than the next entry's
sets-other : (entries : List Entry) (i owner : ℕ) (old between new : List ℕ) (e : Entry) (spot : Spot)
    → i < length entries → e ≡ slice_index_or entries i e → SetsOwners entries i owner old between
    → word_of spot < length old → word_of spot ≢ word_of e.spot → owner_of new spot ≡ owner_of between spot
    → (IsAmong entries (i + 1) spot × (owner_of new spot ≡ owner))
    ⊎ ((IsAmong entries (i + 1) spot → ⊥) × (owner_of new spot ≡ owner_of old spot))
sets-other entries i owner old between new e spot there is sets within apart stays = ⊎_elim
    (λ (named : IsAmong entries i spot × (owner_of between spot ≡ owner)).
    inl (among-more entries i spot named.0, stays ∙ named.1))
    (λ (not : (IsAmong entries i spot → ⊥) × (owner_of between spot ≡ owner_of old spot)).
    inr (λ among. not.0 (among-before entries i e spot there is apart among), stays ∙ not.1))
    (sets.each spot within)

pub sets-here : (entries : List Entry) (i owner word : ℕ) (old between : List ℕ) (e : Entry) → i < length entries
    → e ≡ slice_index_or entries i e → word ≡ word_of e.spot → word < length between
    → SetsOwners entries i owner old between
    → SetsOwners entries (i + 1) owner old (slice_set between word owner)
sets-here entries i owner word old between e there is number room sets =
    let new : List ℕ = slice_set between word owner in
    record {
      size = length-set between word owner ∙ sets.size;
      each = λ spot within. ⊎_elim
          (λ (same : word_of spot ≡ word).
          let here : owner_of new spot ≡ owner = ap (λ (j : ℕ). slice_index new j) same
          ∙ get_or-set_same between word owner 0 room in
          inl ((i, e, omega arith, sym is, same_word e.spot spot (sym number ∙ sym same)), here))
          (λ (apart : word_of spot ≢ word).
          sets-other entries i owner old between new e spot there is sets within (λ it. apart (it ∙ sym number))
          (get_or-set_other between word (word_of spot) owner 0 apart))
          (cases_eq (word_of spot) word);
    }

pub sets-past : (entries : List Entry) (i owner word : ℕ) (old between : List ℕ) (e : Entry) → i < length entries
    → e ≡ slice_index_or entries i e → word ≡ word_of e.spot → length between ≤ word
    → SetsOwners entries i owner old between
    → SetsOwners entries (i + 1) owner old between
sets-past entries i owner word old between e there is number past sets = record {
  size = sets.size;
  each = λ spot within.
      let apart : word_of spot ≢ word_of e.spot = λ it. omega (arith, it, within, past, number, sets.size) in
      sets-other entries i owner old between between e spot there is sets within apart refl;
}

-- ---- the guards of a region are given up, and taken back

not-ending : (u : Underway) (spot : Spot) → u ≡ Ending Cleared → IsAdded u spot → ⊥
not-ending Nothing spot is added = added
not-ending (Adding e stage) spot is added = cc
not-ending (Ending stage) spot is added = added

none-logged : (entries : List Entry) (spot : Spot) → entries ≡ [] → IsLogged entries spot → ⊥
none-logged entries spot none logged =
    let few : length entries ≡ 0 = ap length none in omega (arith, few, logged.2)

pub gives-up : (old new : List ℕ) (t : ℕ) (log after : Log) → Names old t log → log.underway ≡ Ending Cleared
    → SetsOwners log.entries (length log.entries) 0 old new → after.entries ≡ [] → after.underway ≡ Nothing
    → Names new t after × NamesOthers t old new
gives-up old new t log after names ending sets none idle = (
  λ spot within.
      let inside : word_of spot < length old = omega (arith, within, sets.size) in (
        λ owned. absurd (⊎_elim
            (λ (logged : IsAmong log.entries (length log.entries) spot × (owner_of new spot ≡ 0)).
            let no : ⊥ = omega (arith, owned, logged.1) in no)
            (λ (not : (IsAmong log.entries (length log.entries) spot → ⊥) × (owner_of new spot ≡ owner_of old spot)).
            ⊎_elim
            (λ (logged : IsLogged log.entries spot). not.0 logged)
            (λ (added : IsAdded log.underway spot). not-ending log.underway spot ending added)
            ((names spot inside).0 (sym not.1 ∙ owned)))
            (sets.each spot inside)),
        λ guarded. absurd (⊎_elim
            (λ (logged : IsLogged after.entries spot). none-logged after.entries spot none logged)
            (λ (added : IsAdded after.underway spot). not-added after.underway spot idle added)
            guarded),
      ),
  record {
    size = sets.size;
    others = λ spot s within other. ⊎_elim
        (λ (logged : IsAmong log.entries (length log.entries) spot × (owner_of new spot ≡ 0)).
        let mine : owner_of old spot ≡ t + 1 = (names spot within).1 (inl logged.0) in (
          λ owned. let no : ⊥ = omega (arith, owned, logged.1) in absurd no,
          λ owned. let no : s ≡ t = omega (arith, owned, mine) in absurd (other no),
        ))
        (λ (not : (IsAmong log.entries (length log.entries) spot → ⊥) × (owner_of new spot ≡ owner_of old spot)). (
          λ owned. sym not.1 ∙ owned,
          λ owned. not.1 ∙ owned,
        ))
        (sets.each spot within);
  },
)

-- what is given up and taken back is as it was
taken-back : (old between new : List ℕ) (t : ℕ) (log : Log) → Names old t log
    → SetsOwners log.entries (length log.entries) 0 old between
    → SetsOwners log.entries (length log.entries) (t + 1) between new
    → (spot : Spot) → word_of spot < length old → owner_of new spot ≡ owner_of old spot
taken-back old between new t log names gives takes spot within =
    let inside : word_of spot < length between = omega (arith, within, gives.size) in
    ⊎_elim
    (λ (logged : IsAmong log.entries (length log.entries) spot × (owner_of new spot ≡ t + 1)).
    logged.1 ∙ sym ((names spot within).1 (inl logged.0)))
    (λ (not : (IsAmong log.entries (length log.entries) spot → ⊥) × (owner_of new spot ≡ owner_of between spot)).
    ⊎_elim
    (λ (logged : IsAmong log.entries (length log.entries) spot × (owner_of between spot ≡ 0)). absurd (not.0 logged.0))
    (λ (same : (IsAmong log.entries (length log.entries) spot → ⊥) × (owner_of between spot ≡ owner_of old spot)).
    not.1 ∙ same.1)
    (gives.each spot within))
    (takes.each spot inside)

pub takes-back : (old between new : List ℕ) (t : ℕ) (log after : Log) → Names old t log → GuardsStay log after
    → SetsOwners log.entries (length log.entries) 0 old between
    → SetsOwners log.entries (length log.entries) (t + 1) between new
    → Names new t after × NamesOthers t old new
takes-back old between new t log after names stay gives takes =
    let size : length new ≡ length old = takes.size ∙ gives.size in (
      names-stay t new log after stay (λ spot within.
          let inside : word_of spot < length old = omega (arith, within, size) in
          let same : owner_of new spot ≡ owner_of old spot = taken-back old between new t log names gives takes spot inside in (
            λ owned. (names spot inside).0 (sym same ∙ owned),
            λ guarded. same ∙ (names spot inside).1 guarded,
          )),
      record {
        size = size;
        others = λ spot s within other.
            let same : owner_of new spot ≡ owner_of old spot = taken-back old between new t log names gives takes spot within in (
              λ owned. sym same ∙ owned,
              λ owned. same ∙ owned,
            );
      },
    )

-- ---- what always holds

pub stands-apart : (logs : List Log) (lines : ℕ) (table : List ℕ) → IsTable logs lines table
    → AreApart (record { logs = logs; lines = lines })
stands-apart logs lines table is = record {
  count = is.count;
  thread = is.thread;
  one_guard = λ spot s t line first second.
      let there : word_of spot < length table = omega (arith, word_below spot lines line, is.size) in
      let a : owner_of table spot ≡ s + 1 = (is.names s spot there).1 first in
      let b : owner_of table spot ≡ t + 1 = (is.names t spot there).1 second in
      omega (arith, a, b);
}

-- ---- who has guarded a word

-- a thread that the table can't name has guarded nothing
names-below : (logs : List Log) (t : ℕ) (spot : Spot) → length logs ≤ t
    → IsGuarded (slice_index_or logs t (empty_log t)) spot → ⊥
names-below logs t spot past guarded =
    let empty : IsGuarded (empty_log t) spot =
    subst (λ (l : Log). IsGuarded l spot) (get_or_past logs t (empty_log t) past) guarded in
    ⊎_elim
    (λ (logged : IsLogged [] spot). none-logged [] spot refl logged)
    (λ (added : IsAdded Nothing spot). added)
    empty

pub guarded-by : (logs : List Log) (lines owner : ℕ) (table : List ℕ) (spot : Spot) (found : Option ℕ)
    → IsTable logs lines table → spot.line < lines → owner ≡ owner_of table spot
    → IfSome found (λ t. owner ≡ t + 1)
    → IfSome found (λ t. IsGuarded (slice_index_or logs t (empty_log t)) spot)
guarded-by logs lines owner table spot None is line at some = tt
guarded-by logs lines owner table spot (Some t) is line at some =
    (is.names t spot (omega (arith, word_below spot lines line, is.size))).0 (sym at ∙ some)

not-guarded : (logs : List Log) (lines owner t : ℕ) (table : List ℕ) (spot : Spot)
    → IsTable logs lines table → spot.line < lines → owner ≡ owner_of table spot → (owner ≡ 0) ⊎ (64 < owner)
    → IsGuarded (slice_index_or logs t (empty_log t)) spot → ⊥
not-guarded logs lines owner t table spot is line at none guarded =
    let named : owner_of table spot ≡ t + 1 =
    (is.names t spot (omega (arith, word_below spot lines line, is.size))).1 guarded in
    ⊎_elim
    (λ (zero : owner ≡ 0). omega (arith, zero, named, at))
    (λ (past : 64 < owner). names-below logs t spot (omega (arith, past, named, at, is.count)) guarded)
    none

some-found : (logs : List Log) (spot : Spot) (found : Option ℕ)
    → IfSome found (λ t. IsGuarded (slice_index_or logs t (empty_log t)) spot)
    → ((t : ℕ) → IsGuarded (slice_index_or logs t (empty_log t)) spot → ⊥) → IsNone found
some-found logs spot None some none = search rules
some-found logs spot (Some t) some none = absurd (none t some)

pub guarded-by-none : (logs : List Log) (lines owner : ℕ) (table : List ℕ) (spot : Spot) (found : Option ℕ)
    → IsTable logs lines table → spot.line < lines → owner ≡ owner_of table spot
    → IfSome found (λ t. owner ≡ t + 1) → (IsNone found → (owner ≡ 0) ⊎ (64 < owner))
    → IsNone found ↔ ((t : ℕ) → IsGuarded (slice_index_or logs t (empty_log t)) spot → ⊥)
guarded-by-none logs lines owner table spot found is line at some none = (
  λ isnt t guarded. not-guarded logs lines owner t table spot is line at (none isnt) guarded,
  λ free. some-found logs spot found (guarded-by logs lines owner table spot found is line at some) free,
)
