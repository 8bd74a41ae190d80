-- Small class sets, code that follows a script, and what it may and may not do.
use Rattle.std.specs.Prelude.{◌≡◌, ◌⊎◌, ◌↔◌, ℕ, suc, ℤ, true, false, List, [], ◌∷◌, ◌++◌, length, slice_index_or, slice_get}
use Rattle.std.specs.Prelude.{Some, None, codes}
use Rattle.run_types.specs.declared.resolved.At.{At}
use Rattle.run_types.specs.declared.resolved.FieldAt.{FieldAt}
use Rattle.ap_base.specs.declared.kind.Kind.{Kind}
use Rattle.ap_base.specs.declared.kind.Kind.TheVariants.{L}
use Rattle.ap_base.specs.declared.place.Place.TheVariants.{Static, Slot}
use Rattle.graph_model.specs.declared.types.Value.{Value}
use Rattle.graph_model.specs.declared.types.Value.TheVariants.{Int, Null, Obj as Object}
use Rattle.graph_model.specs.declared.types.Field.{Field}
use Rattle.graph_model.specs.declared.types.Graph.{Graph}
use Rattle.graph_model.specs.Heaps.{value_at}
use Rattle.natives.specs.declared.requests.Request.TheVariants as ask
use Rattle.natives.specs.declared.requests.Reply.TheVariants as reply
use Rattle.run_history.specs.declared.act.Stage.TheVariants as stage
use Rattle.run_history.specs.declared.act.Op.{Op}
use Rattle.run_history.specs.declared.act.Op.TheVariants as op
use Rattle.run_history.specs.declared.plain.Progress.TheVariants.{Finished}
use Rattle.run_history.specs.Recorded.{Recorded}
use Rattle.run_history.specs.Worlds.{World}
use Rattle.plain_model.specs.Classes.{ClassFacts}
use Rattle.plain_model.specs.Facts.{SetFacts}
use Rattle.plain_model.specs.BuiltIn.{class_under, chars_array, arguments_array, object_place}
use Rattle.plain_model.specs.Requests.{PlainRequest}
use Rattle.plain_model.specs.Steps.{Does, step}
use Rattle.plain_model.specs.Codes.{Code}
use Rattle.plain_model.specs.Runs.{IsPlainRun, IsAllowed}

-- Code that asks these requests one after the other, whatever the replies are, and then leaves. Its frames count
-- the requests that were answered.
abbrev pub scripted : (set : SetFacts) (main : ℕ) (opening : Graph) → List PlainRequest → Code set main opening ℕ
scripted set main opening requests = record {
  turn = λ k. (k, slice_index_or requests k (ask.Leave None));
  answer = λ k reply. suc k;
  main_frames = 0;
  thread_frames = λ n. length requests;
}

abbrev pub class_of : List ℕ → List Field → ClassFacts
class_of name fields = record (class_under 2 name object_place) { shape = record { name = name; fields = fields; element = None } }

abbrev pub next_field : Field
next_field = record { name = codes "next"; kind = L; kept = true }

-- A program with `class Main { @DurableRoot static Node head; }` and `class Node { Node next; }`.
abbrev pub nodes : SetFacts
nodes = record {
  program = class_of (codes "Main") [] ∷ class_of (codes "Node") (next_field ∷ []) ∷ [];
  arrays = chars_array ∷ arguments_array 2 ∷ [];
  statics = record { name = codes "Main.head"; class = 0; kind = L; constant = None; is_root = true } ∷ [];
  literals = [];
}

abbrev pub in_main : At
in_main = record { class = 0; method = 0; pc = 0 }

abbrev pub head : FieldAt
head = record { class = 0; is_static = true; at = 1; kind = L }

abbrev pub next : FieldAt
next = record { class = 1; is_static = false; at = 0; kind = L }

-- an act of thread 0, when so many image calls were finished, that names these objects
abbrev pub naming : ℕ → Op → List ℕ → Recorded
naming at o named = record { act = record { thread = 0; at = at; op = o }; named = named }

abbrev pub by_main : ℕ → Op → Recorded
by_main at o = naming at o []

-- `head = new Node();` on a graph whose root is null. The stream and the argument array are objects 0 and 1, so the
-- node is 2.
abbrev pub null_root : Graph
null_root = record { roots = record { name = codes "Main.head"; value = Null } ∷ []; nodes = [] }

abbrev pub publishing : Code nodes 0 null_root ℕ
publishing = scripted nodes 0 null_root (
    ask.Init in_main 0
    ∷ ask.InitDone in_main 0
    ∷ ask.New in_main 1
    ∷ ask.InitDone in_main 1
    ∷ ask.New in_main 1
    ∷ ask.PutStatic in_main head (Object 2)
    ∷ []
    )

abbrev pub made_node : List Recorded
made_node =
    by_main 0 (op.Init 0 stage.Begun)
    ∷ by_main 0 (op.Init 0 stage.Done)
    ∷ by_main 0 (op.Init 1 stage.Begun)
    ∷ by_main 0 (op.Init 1 stage.Done)
    ∷ by_main 0 (op.Alloc 2 1 1)
    ∷ []

abbrev pub asked : Recorded
asked = by_main 0 (op.Asked (Static 1) (Object 2))

abbrev pub joined : List ℕ → Recorded
joined named = naming 2 op.Joined named

abbrev pub stored : Recorded
stored = by_main 2 (op.Stored (Static 1) (Object 2))

abbrev pub fenced : Recorded
fenced = by_main 4 op.Fenced

abbrev pub left : Recorded
left = by_main 4 (op.Ended None)

-- main has made the node and done these acts
abbrev pub Publishes : List Recorded → Type 0
Publishes acts = IsPlainRun nodes 0 null_root publishing (made_node ++ acts)

-- `Region.begin(); head.next = head; Region.end();` on a graph whose root is a node, which is object 0.
abbrev pub one_node : Value → Graph
one_node after = record {
  roots = record { name = codes "Main.head"; value = Object 0 } ∷ [];
  nodes = record {
    shape = record { name = codes "Node"; fields = next_field ∷ []; element = None };
    values = after ∷ [];
  } ∷ [];
}

abbrev pub in_region : Code nodes 0 (one_node Null) ℕ
in_region = scripted nodes 0 (one_node Null) (
    ask.Init in_main 0
    ∷ ask.InitDone in_main 0
    ∷ ask.Begin in_main
    ∷ ask.PutField in_main (Object 0) next (Object 0)
    ∷ ask.End in_main
    ∷ []
    )

abbrev pub begun_region : List Recorded
begun_region = by_main 0 (op.Init 0 stage.Begun) ∷ by_main 0 (op.Init 0 stage.Done) ∷ by_main 0 op.Begin ∷ []

abbrev pub guarded : Recorded
guarded = by_main 4 (op.Guarded (Slot 0 0))

abbrev pub linked : Recorded
linked = by_main 4 (op.Stored (Slot 0 0) (Object 0))

abbrev pub closing : Recorded
closing = by_main 6 op.Closing

abbrev pub ended : List Recorded
ended = by_main 8 op.End ∷ by_main 8 (op.Ended None) ∷ []

-- main has begun its region and done these acts
abbrev pub DoesInRegion : List Recorded → Type 0
DoesInRegion acts = IsPlainRun nodes 0 (one_node Null) in_region (begun_region ++ acts)

-- A store of the first int into a static field of this kind, whose class is initialised, keeps the second.
abbrev pub Narrows : Kind → ℤ → ℤ → Type 0
Narrows kind given kept = (set : SetFacts) (world : World) (t class at : ℕ) (from : At)
    → slice_get world.classes class ≡ Some Finished
    → let field : FieldAt = record { class = class; is_static = true; at = at; kind = kind } in
    step set world t 1 (ask.PutStatic from field (Int given)) ≡ Does (op.Stored (Static at) (Int kept)) reply.Done

-- A load of a static field of any kind, whose class is initialised, gives the value that is there.
abbrev pub LoadsGiveWhatIsThere : Type 0
LoadsGiveWhatIsThere = (set : SetFacts) (world : World) (t class at : ℕ) (kind : Kind) (from : At)
    → slice_get world.classes class ≡ Some Finished
    → let field : FieldAt = record { class = class; is_static = true; at = at; kind = kind } in
    let value = value_at world.heap (Static at) in
    step set world t 1 (ask.GetStatic from field) ≡ Does (op.Read (Static at) value) (reply.Item value)

-- What a stop may leave once main has made the node and done these acts.
abbrev pub MayLeave : List Recorded → Graph → Type 0
MayLeave acts g = IsAllowed nodes null_root (made_node ++ acts) g

-- before the fence the root is null, or has the node
abbrev pub LeavesEither : List Recorded → Type 0
LeavesEither acts = (g : Graph) → MayLeave acts g ↔ ((g ≡ null_root) ⊎ (g ≡ one_node Null))

-- after it the root has the node
abbrev pub LeavesTheNode : List Recorded → Type 0
LeavesTheNode acts = (g : Graph) → MayLeave acts g ↔ (g ≡ one_node Null)
