-- What each call of an image does to what a stop may leave.
use Rattle.std.proofs.Common.{◌≡◌, ◌⊎◌, inl, inr, ⊎_elim, ℕ, List, [], Option, Some, None, Result, Ok, Err, OnOk, OnErr, true}
use Rattle.std.proofs.Common.{false, nat_eq, get_or, slice_index, refl, sym, ◌∙◌, ap, subst, arith}
use Rattle.std.proofs.lemmas.Bool.{cases_eq}
use Rattle.std.proofs.lemmas.Bool.Decides.{nat_tests}
use Rattle.line_image.specs.Trace.{Trace, MayLeave, OneHas, newest, versions, versions_after, did, Reads, IsAllFenced}
use Rattle.line_image.specs.declared.effect.Done.TheVariants.{Wrote, Fenced}
use Rattle.line_image.proofs.Versions.{newest_left}
use Rattle.line_memory.specs.Memory.{Memory, line_shown, shown, ReadsWord, CanLeave, IsWritten, IsDurable, Narrows}
use Rattle.line_memory.specs.Memory.{ReadsOrShows, LeavesNoMore, SameReads, WroteLine, MadeFence, DidNothing}

-- What a write did: the line's words came in front of its versions.
wrote_has : (line l w v : ℕ) (words : List ℕ) (rest : List (List ℕ)) → OneHas (versions_after (Wrote line words) l rest) w v
    → ((l ≡ line) × (v ≡ slice_index words w)) ⊎ OneHas rest w v
wrote_has line l w v words rest has = elim (cases_eq line l) [
  | inl same ↦
      let test : nat_eq line l ≡ true = grind (arith, nat_tests) in
      let both : (v ≡ slice_index words w) ⊎ OneHas rest w v = rw test at has in
      ⊎_elim (λ new. inl (sym same, new)) (λ old. inr old) both
  | inr other ↦ let test : nat_eq line l ≡ false = grind (arith, nat_tests) in inr (rw test at has)
]

pub may_leave-wrote : (o : Option Trace) (line at : ℕ) (words : List ℕ) (l w v : ℕ) → MayLeave (did (Wrote line words) at o) l w v
    → ((l ≡ line) × (v ≡ slice_index words w)) ⊎ MayLeave o l w v
may_leave-wrote None line at words l w v left = absurd left
may_leave-wrote (Some h) line at words l w v left = wrote_has line l w v words (versions h l) left

-- A fence keeps what a read gives alone.
pub may_leave-fenced : (o : Option Trace) (at l w v : ℕ) → MayLeave (did Fenced at o) l w v → ReadsWord o l w v × MayLeave o l w v
may_leave-fenced None at l w v left = absurd left
may_leave-fenced (Some h) at l w v (inl is) = (is, subst (λ (x : ℕ). MayLeave (Some h) l w x) (sym is) (newest_left (get_or h.first l []) h.done l w))
may_leave-fenced (Some h) at l w v (inr none) = absurd none

wrote_reads : (line l w : ℕ) (words : List ℕ) (rest : List (List ℕ))
    → ((l ≡ line) × (slice_index (newest (versions_after (Wrote line words) l rest)) w ≡ slice_index words w))
    ⊎ (slice_index (newest (versions_after (Wrote line words) l rest)) w ≡ slice_index (newest rest) w)
wrote_reads line l w words rest = elim (cases_eq line l) [
  | inl same ↦ let test : nat_eq line l ≡ true = grind (arith, nat_tests) in inl (sym same, rw test refl)
  | inr other ↦ let test : nat_eq line l ≡ false = grind (arith, nat_tests) in inr (rw test refl)
]

pub reads-wrote : (o : Option Trace) (line at : ℕ) (words : List ℕ) (l w v : ℕ) → ReadsWord (did (Wrote line words) at o) l w v
    → ((l ≡ line) × (v ≡ slice_index words w)) ⊎ ReadsWord o l w v
reads-wrote None line at words l w v reads = inr tt
reads-wrote (Some h) line at words l w v reads =
    ⊎_elim (λ here. inl (here.0, reads ∙ here.1)) (λ other. inr (reads ∙ other)) (wrote_reads line l w words (versions h l))

kept_has : (line l w v : ℕ) (words : List ℕ) (rest : List (List ℕ)) → OneHas rest w v → OneHas (versions_after (Wrote line words) l rest) w v
kept_has line l w v words rest has = elim (cases_eq line l) [
  | inl same ↦ let test : nat_eq line l ≡ true = grind (arith, nat_tests) in rw test (inr has)
  | inr other ↦ let test : nat_eq line l ≡ false = grind (arith, nat_tests) in rw test has
]

-- a write takes away nothing that a stop may leave
pub may_leave-kept : (o : Option Trace) (line at : ℕ) (words : List ℕ) (l w v : ℕ) → MayLeave o l w v → MayLeave (did (Wrote line words) at o) l w v
may_leave-kept None line at words l w v left = absurd left
may_leave-kept (Some h) line at words l w v left = kept_has line l w v words (versions h l) left

-- a value that a read gave and that was written again, if at all, is read
pub reads-kept : (o : Option Trace) (line at : ℕ) (words : List ℕ) (l w v : ℕ) → (l ≡ line → v ≡ slice_index words w) → ReadsWord o l w v
    → ReadsWord (did (Wrote line words) at o) l w v
reads-kept None line at words l w v again reads = tt
reads-kept (Some h) line at words l w v again reads =
    ⊎_elim (λ here. again here.0 ∙ sym here.1) (λ other. reads ∙ sym other) (wrote_reads line l w words (versions h l))

-- the word that was written is read
pub reads-written : (o : Option Trace) (line at : ℕ) (words : List ℕ) (w : ℕ) → ReadsWord (did (Wrote line words) at o) line w (slice_index words w)
reads-written None line at words w = tt
reads-written (Some h) line at words w = let test : nat_eq line line ≡ true = grind (arith, nat_tests) in rw test refl

pub reads-fenced : (o : Option Trace) (at l w v : ℕ) → ReadsWord (did Fenced at o) l w v → ReadsWord o l w v
reads-fenced None at l w v reads = tt
reads-fenced (Some h) at l w v reads = reads

-- a read of the line gives each word
pub reads-line : (o : Option Trace) (l w : ℕ) (words : List ℕ) → Reads o l words → ReadsWord o l w (slice_index words w)
reads-line None l w words reads = tt
reads-line (Some h) l w words reads = ap (λ (line : List ℕ). slice_index line w) reads

pub settled_leaves : (o : Option Trace) (l w v u : ℕ) → IsAllFenced o → ReadsWord o l w u → MayLeave o l w v → v ≡ u
settled_leaves None l w v u settled reads left = absurd left
settled_leaves (Some h) l w v u settled reads left = settled l w v left ∙ sym reads

-- a word that a read gives in two ways is one
pub reads_once : (o : Option Trace) (l w v u x : ℕ) → MayLeave o l w x → ReadsWord o l w v → ReadsWord o l w u → v ≡ u
reads_once None l w v u x left one two = absurd left
reads_once (Some h) l w v u x left one two = one ∙ sym two

pub either_write : {T E : Type 0} {A B : Type 0} (r : Result T E) → OnOk r A → OnErr r (A ⊎ B) → A ⊎ B
either_write (Ok x) ok err = inl ok
either_write (Err e) ok err = err

pub either_fence : {T E : Type 0} {A B : Type 0} (r : Result T E) → OnOk r A → OnErr r B → A ⊎ B
either_fence (Ok x) ok err = inl ok
either_fence (Err e) ok err = inr err

pub on_ok : {T E : Type 0} {A B : Type 0} (r : Result T E) → (A → B) → OnOk r A → OnOk r B
on_ok (Ok x) f ok = f ok
on_ok (Err e) f ok = tt

module _ (old new : Memory) (same : (l : ℕ) → line_shown new l ≡ line_shown old l) where
  same_word : (l w : ℕ) → shown new l w ≡ shown old l w
  same_word l w = ap (λ (words : List ℕ). slice_index words w) (same l)

  still_shown : (l w v : ℕ) → v ≡ shown new l w → CanLeave old l w v
  still_shown l w v is = inl (is ∙ same_word l w)

  pub write_narrows : (line : ℕ) → WroteLine line old new ⊎ DidNothing old new → Narrows old new
  write_narrows line did_it l w v (inl is) = still_shown l w v is
  write_narrows line (inl wrote) l w v (inr left) = ⊎_elim
      (λ here. inl (here.1 ∙ ap (λ (k : ℕ). shown old k w) (sym here.0)))
      (λ before. inr before)
      (may_leave-wrote old.image.trace line new.image.calls (line_shown old line) l w v (subst (λ (o : Option Trace). MayLeave o l w v) wrote left))
  write_narrows line (inr nothing) l w v (inr left) = inr (subst (λ (o : Option Trace). MayLeave o l w v) nothing left)

  pub fence_narrows : MadeFence old new ⊎ DidNothing old new → Narrows old new
  fence_narrows did_it l w v (inl is) = still_shown l w v is
  fence_narrows (inl fenced) l w v (inr left) = inr (may_leave-fenced old.image.trace new.image.calls l w v (subst (λ (o : Option Trace). MayLeave o l w v) fenced left)).1
  fence_narrows (inr nothing) l w v (inr left) = inr (subst (λ (o : Option Trace). MayLeave o l w v) nothing left)

  pub written : (line w : ℕ) → WroteLine line old new → IsWritten new line w
  written line w wrote =
      subst (λ (o : Option Trace). ReadsWord o line w (shown new line w)) (sym wrote)
      (subst (λ (v : ℕ). ReadsWord (did (Wrote line (line_shown old line)) new.image.calls old.image.trace) line w v) (sym (same_word line w))
      (reads-written old.image.trace line new.image.calls (line_shown old line) w))

  pub durable : (l w : ℕ) → MadeFence old new → IsWritten old l w → IsDurable new l w
  durable l w fenced is_written v (inl is) = is
  durable l w fenced is_written v (inr left) =
      let both = may_leave-fenced old.image.trace new.image.calls l w v (subst (λ (o : Option Trace). MayLeave o l w v) fenced left) in
      reads_once old.image.trace l w v (shown old l w) v both.1 both.0 is_written ∙ sym (same_word l w)

module _ (old new : Memory) where
  pub write_reads : (line : ℕ) → WroteLine line old new ⊎ DidNothing old new → ReadsOrShows old new
  write_reads line (inl wrote) l w v reads = ⊎_elim
      (λ here. inr (here.1 ∙ ap (λ (k : ℕ). shown old k w) (sym here.0)))
      (λ before. inl before)
      (reads-wrote old.image.trace line new.image.calls (line_shown old line) l w v (subst (λ (o : Option Trace). ReadsWord o l w v) wrote reads))
  write_reads line (inr nothing) l w v reads = inl (subst (λ (o : Option Trace). ReadsWord o l w v) nothing reads)

  pub fence_leaves : MadeFence old new ⊎ DidNothing old new → LeavesNoMore old new
  fence_leaves (inl fenced) l w v left = (may_leave-fenced old.image.trace new.image.calls l w v (subst (λ (o : Option Trace). MayLeave o l w v) fenced left)).1
  fence_leaves (inr nothing) l w v left = subst (λ (o : Option Trace). MayLeave o l w v) nothing left

  pub fence_same_reads : MadeFence old new ⊎ DidNothing old new → SameReads old new
  fence_same_reads (inl fenced) l w v reads = reads-fenced old.image.trace new.image.calls l w v (subst (λ (o : Option Trace). ReadsWord o l w v) fenced reads)
  fence_same_reads (inr nothing) l w v reads = subst (λ (o : Option Trace). ReadsWord o l w v) nothing reads

  pub fence_reads : MadeFence old new ⊎ DidNothing old new → ReadsOrShows old new
  fence_reads (inl fenced) l w v reads = inl (reads-fenced old.image.trace new.image.calls l w v (subst (λ (o : Option Trace). ReadsWord o l w v) fenced reads))
  fence_reads (inr nothing) l w v reads = inl (subst (λ (o : Option Trace). ReadsWord o l w v) nothing reads)
