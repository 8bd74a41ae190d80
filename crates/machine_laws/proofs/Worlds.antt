-- The world of a machine's acts, while what its heap shows stays, and after acts of persistence.
use Rattle.std.proofs.Common.{◌≡◌, ◌≤◌, ℕ, suc, true, List, [], ◌∷◌, ◌++◌, length, sym, ◌∙◌, ap, subst, arith, length-append}
use Rattle.std.specs.Prelude.{slice_index_or}
use Rattle.std.proofs.lemmas.List.Elements.{All-weaker}
use Rattle.graph_model.specs.declared.types.Heap.{Heap}
use Rattle.graph_model.specs.declared.types.Obj.{Obj}
use Rattle.graph_model.specs.declared.types.Root.{Root}
use Rattle.image_meaning.specs.Corresponds.{root_static}
use Rattle.monitors.specs.declared.monitor.Monitor.{Monitor}
use Rattle.run_history.specs.declared.act.Op.{Op}
use Rattle.run_history.specs.Recorded.{Recorded}
use Rattle.run_history.specs.Knowing.{Knowledge}
use Rattle.run_history.specs.Worlds.{World}
use Rattle.run_history.proofs.Grown.{known_after-append}
use Rattle.plain_model.specs.Codes.{is_persistent}
use Rattle.plain_model.specs.Limits.{words_left}
use Rattle.plain_model.specs.Typed.{IsTyped}
use Rattle.plain_model.specs.TypeLaws.{IsOfSet}
use Rattle.plain_model.proofs.Durable.{persistence_leaves_the_world}
use Rattle.shared_objects.specs.declared.rest.Rest.{Rest}
use Rattle.shared_objects.specs.declared.threads.ThreadState.{ThreadState}
use Rattle.shared_objects.specs.Shown.{Shown}
use Rattle.shared_objects.specs.Worlds.{world_of, heap_of, KnowsMonitors}
use Rattle.machine_forms.specs.Passed.{AtMost}
use Rattle.two_spaces.specs.declared.spaces.Static.{Static}
use Rattle.two_spaces.specs.Seen.{Spaces}
use Rattle.two_spaces.specs.Whole.{no_static}
use Rattle.two_spaces.specs.Moving.{ShowsSame}
use Rattle.machine_forms.specs.Machines.{Opening, Machine, first_of, known_in, roots_in, shown_in}
use Rattle.machine_forms.specs.Keeping.{KeepsWorld, HasSlotsOfRoots}
use Rattle.machine_forms.specs.Events.{act_in, with_act}

-- ---- counts

pub at_most_more : (k n : ℕ) (rest : Rest) → k ≤ n → AtMost k rest → AtMost n rest
at_most_more k n rest le most = record {
  monitors = All-weaker (λ (m : Monitor). m.count ≤ k) (λ (m : Monitor). m.count ≤ n)
      (λ m few. omega (arith, few, le)) rest.monitors most.monitors;
  threads = All-weaker (λ (t : ThreadState). t.depth ≤ k) (λ (t : ThreadState). t.depth ≤ n)
      (λ t few. omega (arith, few, le)) rest.threads most.threads;
}

pub one_act_more : (acts : List Recorded) (a : Recorded) → length (acts ++ a ∷ []) ≡ suc (length acts)
one_act_more acts a = let long = length-append acts (a ∷ []) in omega (arith, long)

-- ---- an act of persistence

-- leaves the world
pub same_known_world : (o : Opening) (m : Machine) (t : ℕ) (op : Op) (named : List ℕ)
    → is_persistent op ≡ true
    → (known_in o (with_act m t op named)).world ≡ (known_in o m).world
same_known_world o m t op named is =
    ap (λ (k : Knowledge). k.world) (known_after-append (first_of o) m.acts (act_in m t op named))
    ∙ persistence_leaves_the_world (known_in o m) t named op is

-- ---- the slots of the durable roots

pub roots_on : (h : Heap) (s s' : Spaces) → s'.statics ≡ s.statics → HasSlotsOfRoots h s
    → HasSlotsOfRoots h s'
roots_on h s s' same r = record {
  sized = r.sized;
  there = λ k lt.
      ap (λ (ss : List Static). slice_index_or ss (root_static h k) no_static) same ∙ r.there k lt;
  others = λ f k is. r.others f k (sym (ap (λ (ss : List Static). slice_index_or ss f no_static) same) ∙ is);
}

-- ---- what is shown stays

-- What an event leaves of the world: what is shown, the world of the acts, and which counts stand at most.
pub record LeavesWorld (o : Opening) (m m' : Machine) : Type 0 where
  pub same : ShowsSame (shown_in m) (shown_in m')
  pub known : (known_in o m').world ≡ (known_in o m).world
  pub world : (roots : List Root)
      → world_of roots (shown_in m') m'.rest ≡ world_of roots (shown_in m) m.rest
  pub monitors : KnowsMonitors (shown_in m') m'.rest
  pub classes : m'.rest.classes ≡ m.rest.classes
  pub counts : AtMost (length m'.acts) m'.rest
  pub statics : m'.spaces.statics ≡ m.spaces.statics

heap_same : (before now : Shown) → ShowsSame before now → heap_of [] now ≡ heap_of [] before
heap_same before now same =
    let shapes = same.shapes in
    let objects = same.objects in
    let statics = same.statics in
    λ i. record { shapes = shapes i; objects = objects i; statics = statics i; roots = [] }

module _ (o : Opening) (m m' : Machine) (w : KeepsWorld o m) (l : LeavesWorld o m m') where
  pub heap_stays : heap_of [] (shown_in m') ≡ heap_of [] (shown_in m)
  heap_stays = heap_same (shown_in m) (shown_in m') l.same

  pub world_stays : KeepsWorld o m'
  world_stays = record {
    launched = w.launched;
    world = l.known ∙ w.world ∙ sym (l.world (roots_in o m))
        ∙ ap (λ (x : World). world_of x.heap.roots (shown_in m') m'.rest) (sym l.known);
    heap = record {
      consistent = w.heap.consistent;
      of_set = subst (IsOfSet o.launch.set) (sym heap_stays) w.heap.of_set;
      typed = subst (IsTyped o.launch.set) (sym heap_stays) w.heap.typed;
    };
    monitors = l.monitors;
    classes = ap (λ classes. length classes.items) l.classes ∙ w.classes;
    counts = l.counts;
    nodes = subst (λ (os : List Obj). length o.launch.opening.nodes ≤ length os) (sym l.same.objects) w.nodes;
    words = l.same.left ∙ w.words
        ∙ ap (λ (h : Heap). words_left o.launch.limits o.launch.opening h) (sym heap_stays);
    roots = subst (λ (x : World). HasSlotsOfRoots x.heap m'.spaces) (sym l.known)
        (roots_on (known_in o m).world.heap m.spaces m'.spaces l.statics w.roots);
  }
