-- The first heap and its queues agree.
use Rattle.std.proofs.Common.{◌≡◌, inl, inr, ℕ, zero, suc, ◌+◌, ◌<◌, ◌≤◌, ◌==◌, false, List, [], ◌∷◌, length, get_or, replicate}
use Rattle.std.proofs.Common.{refl, sym, ◌∙◌, ap, subst, arith}
use Rattle.std.proofs.lemmas.Bool.{cases_lt}
use Rattle.std.proofs.lemmas.Nat.Bits.{bit_at-zero}
use Rattle.std.proofs.lemmas.List.{length-replicate}
use Rattle.line_memory.specs.Memory.{shown}
use Rattle.image_meaning.specs.Checks.{Words}
use Rattle.image_meaning.specs.Opening.{free_line}
use Rattle.convert_queue.specs.Marks.{clean, mark_at}
use Rattle.convert_queue.specs.Queues.{Queues, queue_of, total}
use Rattle.convert_queue.specs.Threads.{has, needs_of}
use Rattle.convert_words.specs.Agreeing.{HaveSizes}
use Rattle.convert_words.specs.Laws.{StartsAgree}
use Rattle.twin_forms.specs.Sights.{view_of}
use Rattle.twin_forms.specs.Table.{Lies, entry, lines_of}
use Rattle.first_spaces.specs.Laws.{FirstScenesAgree, first_queues}

-- a list of the same throughout
same_at : {A : Type 0} (n i : ℕ) (x : A) → get_or (replicate n x) i x ≡ x
same_at zero i x = refl
same_at (suc n) zero x = refl
same_at (suc n) (suc i) x = same_at n i x

none_has : (t : ℕ) → has 0 t ≡ false
none_has t = ap (λ x. x == 1) (bit_at-zero t)

free_there : (words : Words) (lines : List ℕ) → 0 < free_line words lines
free_there words [] = omega arith
free_there words (l ∷ ls) = let more = free_there words ls in omega (arith, more)

pub scenes_agree : StartsAgree → FirstScenesAgree
scenes_agree start directory lines s scene es w is =
    let size = s.twin.memory.size in
    let queues = is.queue_is in
    start scene es (subst (λ t. Lies (view_of t) es) (sym is.heap_is) w.stands.lies)
    (subst (λ q. HaveSizes q scene.heap.memory.size) (sym queues)
    (subst (λ t. HaveSizes (first_queues size) t.memory.size) (sym is.heap_is) (record {
      queues = refl;
      places = refl;
      phases = refl;
      needs = refl;
      marks = length-replicate size clean;
    })))
    (λ t. ap (λ q. queue_of q t) queues ∙ same_at 64 t [])
    (λ t u. ap (λ (q : Queues). needs_of q.needs t u) queues ∙ ap (λ n. has n u) (same_at 64 t 0) ∙
    none_has u)
    (λ l. ap (λ (q : Queues). mark_at q.marks l) queues ∙ same_at size l clean)
    (ap (λ (q : Queues). total q.queues) queues)
    (subst (λ n. 0 < n) (sym is.free_is) (free_there (shown s.twin.memory) lines))
    (λ n lt placed. subst (λ n'. (entry es n).line + lines_of (entry es n) ≤ n') (sym is.free_is)
    (w.high n lt placed))
    (λ n lt. elim (cases_lt n (length lines)) [
      | inl below ↦ (w.nodes n below).owner
      | inr past ↦ (w.others n past lt).owner
    ])
    (ap (λ (ks : List ℕ). length ks) is.keys_are)
