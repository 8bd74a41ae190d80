-- The first heap over an opened image.
use Rattle.std.proofs.Common.{◌≡◌, ℕ, List, ◌∷◌, [], map, ap, sym, subst, ◌∙◌}
use Rattle.graph_model.specs.declared.types.Graph.{Graph}
use Rattle.graph_model.specs.declared.types.Obj.{Obj}
use Rattle.line_image.specs.Told.{Told}
use Rattle.line_memory.specs.Memory.{Memory}
use Rattle.image_meaning.specs.Directories.{Directory}
use Rattle.image_meaning.specs.Meaning.{empty_graph}
use Rattle.image_recovery.specs.Recovered.{entries_in}
use Rattle.plain_model.specs.Facts.{SetFacts, arguments_class, stream_class}
use Rattle.plain_model.specs.First.{first_objects, literal_object}
use Rattle.class_set.specs.Linked.{Linked}
use Rattle.class_set.specs.Facts.{facts_of}
use Rattle.directories.specs.Kept.{Kept}
use Rattle.directories.specs.Planning.{directory_of_kept}
use Rattle.one_space.specs.declared.failing.NoFirstHeap.{NoFirstHeap}
use Rattle.one_space.specs.declared.failing.NoFirstHeap.TheVariants as no_heap
use Rattle.one_space.specs.First.{IfFull as IfNoWords, LacksWords, text_object}
use Rattle.set_opening.specs.Passed.{FirstObjects}
use Rattle.set_opening.specs.Passed.{SpacesParts}
use Rattle.set_opening.specs.Passed.{IsOpened}
use Rattle.set_opening.specs.Passed.{AreObjects, IsBeginning, volatile_objects}
use Rattle.program_launch.specs.declared.refusals.NoLaunch.{NoLaunch}
use Rattle.program_launch.specs.Refusals.{IfFull, refusal_of}
use Rattle.set_opening.specs.Opened.{IsOpenedFor}
use Rattle.set_spaces.specs.Over.{ArePartsOver}

-- ---- what the heap is made of

module _ (start : Told) (old set : Linked) (m : Memory) (directory : Kept) (lines : List ℕ) (graph : Graph) (free : ℕ)
    (is : IsOpenedFor start old set m directory lines graph free) (parts : SpacesParts)
    (over : ArePartsOver set (directory_of_kept directory) parts) where
  pub beginning : (slice : List ℕ) → slice ≡ lines → IsBeginning (facts_of set) graph (entries_in directory) parts slice m
  beginning slice same = record {
    is_opening = is.suits.opening;
    is_opened = subst (λ (ls : List ℕ). IsOpened m (entries_in directory) ls graph) (sym same) is.ready.opened;
    are_parts = over graph is.suits.roots;
  }

-- ---- refusals

-- the volatile objects are the first ones of the set, but for the nodes
objects_are : (set : SetFacts) (directory : Directory) (numbers : List ℕ) (objects : FirstObjects)
    → AreObjects set directory numbers objects → volatile_objects objects ≡ first_objects set empty_graph
objects_are set directory numbers objects is =
    let empty : ℕ → Obj = λ n. record { shape = n; values = [] } in
    let texts = map (text_object objects.string) objects.literals in
    ap (λ n. empty n ∷ empty objects.arguments ∷ texts) is.stream_is
    ∙ ap (λ n. empty (stream_class set) ∷ empty n ∷ texts) is.arguments_is
    ∙ ap (λ n. empty (stream_class set) ∷ empty (arguments_class set) ∷ map (text_object n) objects.literals)
    is.string_is
    ∙ ap (λ ts. empty (stream_class set) ∷ empty (arguments_class set) ∷ map (literal_object set empty_graph) ts)
    is.literals_are

refused_by : (words : ℕ) (objects : List Obj) (e : NoFirstHeap) → IfNoWords e (LacksWords words objects)
    → IfFull (refusal_of e) (LacksWords words objects)
refused_by words objects (no_heap.Full answer) lacks = lacks
refused_by words objects no_heap.OutOfMemory lacks = tt

pub refused : (set : SetFacts) (directory : Directory) (parts : SpacesParts) (words : ℕ) (e : NoFirstHeap) (why : NoLaunch)
    → AreObjects set directory parts.tables.numbers.items parts.objects → why ≡ refusal_of e
    → IfNoWords e (LacksWords words (volatile_objects parts.objects))
    → IfFull why (LacksWords words (first_objects set empty_graph))
refused set directory parts words e why are same lacks =
    let numbers = parts.tables.numbers.items in
    subst (λ (w : NoLaunch). IfFull w (LacksWords words (first_objects set empty_graph))) (sym same)
    (subst (λ (os : List Obj). IfFull (refusal_of e) (LacksWords words os))
    (objects_are set directory numbers parts.objects are)
    (refused_by words (volatile_objects parts.objects) e lacks))
