-- What is kept before the first act.
use Rattle.std.proofs.Common.{◌≡◌, ℕ, zero, suc, ◌<◌, ◌≤◌, List, [], ◌∷◌, length, refl, ap, sym, ◌∙◌, subst, arith}
use Rattle.std.specs.Prelude.{replicate}
use Rattle.std.proofs.lemmas.List.{length-replicate}
use Rattle.graph_model.specs.declared.types.Graph.{Graph}
use Rattle.graph_model.specs.declared.types.Heap.{Heap}
use Rattle.graph_model.specs.Heaps.{IsSound}
use Rattle.run_history.specs.Worlds.{World}
use Rattle.run_history.specs.Knowing.{Knowledge}
use Rattle.plain_model.specs.Facts.{SetFacts}
use Rattle.plain_model.specs.First.{IsOpening, first_heap, first_known, first_world}
use Rattle.plain_model.proofs.Closed.{closed_at_first}
use Rattle.first_heap.proofs.Reaching.{first_counted}
use Rattle.audit_keeping.specs.declared.keeping.Keeping.{Keeping}
use Rattle.audit_keeping.specs.Beginning.{HaveStatics, KeepingBegins, first_lists}
use Rattle.audit_keeping.specs.Keeping.{lists_of}
use Rattle.kept_lists.specs.declared.doubts.Doubts.{Doubts}
use Rattle.kept_lists.specs.declared.doubts.Last.{Last}
use Rattle.kept_lists.specs.Doubts.{StandsFor, last_of, no_last}
use Rattle.audit_acts.specs.declared.kept.Kept.{Kept}
use Rattle.audit_acts.specs.Keeps.{HasKept}

pub world-heap : (set : SetFacts) (opening : Graph) → (first_known set opening).world.heap ≡ first_heap set opening
unfolding first_world
world-heap set opening = refl

-- as many objects as nodes, and more
pub nodes-there : (set : SetFacts) (opening : Graph) → length opening.nodes ≤ length (first_heap set opening).objects
unfolding first_heap
nodes-there set opening =
    let counted = first_counted set opening in omega (arith, counted)

no-lasts : (count t : ℕ) → last_of (replicate count no_last) t ≡ no_last
no-lasts zero t = refl
no-lasts (suc count) zero = refl
no-lasts (suc count) (suc t) = no-lasts count t

begun-doubts : (first : Knowledge) (d : Doubts) → first.marks ≡ [] → d.doubts.items ≡ [] → d.lasts.items ≡ replicate 64 no_last
    → StandsFor first [] d
begun-doubts first d marks doubts lasts = record {
  count = ap length doubts;
  threads = ap length lasts ∙ length-replicate 64 no_last;
  marks = marks;
  fenced = λ t. let e = ap (λ (ls : List Last). (last_of ls t).fenced) lasts ∙ ap (λ (l : Last). l.fenced) (no-lasts 64 t) in omega (arith, e);
  closed = λ t. let e = ap (λ (ls : List Last). (last_of ls t).closed) lasts ∙ ap (λ (l : Last). l.closed) (no-lasts 64 t) in omega (arith, e);
  ended = λ t. let e = ap (λ (ls : List Last). (last_of ls t).ended) lasts ∙ ap (λ (l : Last). l.ended) (no-lasts 64 t) in omega (arith, e);
}

module _ (set : SetFacts) (opening : Graph) (is : IsOpening set opening) (begins : KeepingBegins) where
  pub first-kept : (k : Kept) → k.heap ≡ first_heap set opening → IsSound k.heap
      → lists_of k.keeping ≡ first_lists k.heap (length opening.nodes) → k.doubts.doubts.items ≡ []
      → k.doubts.lasts.items ≡ replicate 64 no_last → k.at ≡ 0 → HasKept (first_known set opening) [] k
  first-kept k heap sound lists doubts lasts at =
      let here : k.heap ≡ (first_known set opening).world.heap = heap ∙ sym (world-heap set opening) in
      let there : length opening.nodes ≤ length (first_known set opening).world.heap.objects =
      subst (λ (h : Heap). length opening.nodes ≤ length h.objects) (sym (world-heap set opening)) (nodes-there set opening) in record {
        heap = here;
        sound = sound;
        at = at;
        keeping = begins (first_known set opening).world (length opening.nodes) k.keeping
            (subst HaveStatics here sound.roots) there (closed_at_first set opening is)
            (lists ∙ ap (λ (h : Heap). first_lists h (length opening.nodes)) here);
        doubts = begun-doubts (first_known set opening) k.doubts refl doubts lasts;
        stores = tt;
        fit = tt;
        done = here;
      }
