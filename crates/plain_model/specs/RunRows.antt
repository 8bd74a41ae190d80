-- Programs of two threads over two boxes, of which one holds the other, and what they may and may not do.
use Rattle.std.specs.Prelude.{ℕ, List, [], ◌∷◌, ◌++◌, slice_get, drop, unwrap_or, None, codes}
use Rattle.ap_base.specs.declared.place.Place.{Place}
use Rattle.ap_base.specs.declared.place.Place.TheVariants.{Slot}
use Rattle.ap_base.specs.declared.kind.Kind.TheVariants.{L}
use Rattle.run_types.specs.declared.key.Key.TheVariants as key
use Rattle.run_types.specs.declared.resolved.FieldAt.{FieldAt}
use Rattle.graph_model.specs.declared.types.Value.{Value}
use Rattle.graph_model.specs.declared.types.Value.TheVariants.{Null, Obj as Object}
use Rattle.graph_model.specs.declared.types.Graph.{Graph}
use Rattle.natives.specs.declared.requests.Request.TheVariants as ask
use Rattle.run_history.specs.declared.act.PlainKey.TheVariants.{Object as ObjectKey}
use Rattle.run_history.specs.declared.act.Stage.TheVariants as stage
use Rattle.run_history.specs.declared.act.Op.{Op}
use Rattle.run_history.specs.declared.act.Op.TheVariants as op
use Rattle.run_history.specs.Recorded.{Recorded}
use Rattle.plain_model.specs.Requests.{PlainRequest}
use Rattle.plain_model.specs.Codes.{Code}
use Rattle.plain_model.specs.Runs.{IsPlainRun}
use Rattle.plain_model.specs.StepWorld.{boxes, worker_class, main_class, thread_class, late_class, box_fields, here, int}
use Rattle.plain_model.specs.StepWorld.{amount, content, instance_field, illegal_thread_state}

-- The root holds box 0, which holds box 1. The stream and the argument array are objects 2 and 3.
abbrev pub box_graph : Value → Graph
box_graph first_amount = record {
  roots = record { name = codes "Main.kept"; value = Object 0 } ∷ [];
  nodes =
      record {
        shape = record { name = codes "Box"; fields = box_fields; element = None };
        values = first_amount ∷ Object 1 ∷ int 0 ∷ [];
      }
      ∷ record {
        shape = record { name = codes "Box"; fields = box_fields; element = None };
        values = int 6 ∷ Null ∷ int 0 ∷ [];
      }
      ∷ [];
}

abbrev pub two_boxes : Graph
two_boxes = box_graph (int 5)

-- The first thread asks the requests of one list, and then leaves; a thread that it starts those of the
-- other. The frames of a thread are the requests that it still has.
abbrev pub scripts : List PlainRequest → List PlainRequest → Code boxes main_class two_boxes
    (List PlainRequest)
scripts mains workers = record {
  turn = λ rest. (rest, unwrap_or (slice_get rest 0) (ask.Leave None));
  answer = λ rest reply. drop 1 rest;
  main_frames = mains;
  thread_frames = λ n. workers;
}

-- `worker`, which main makes
abbrev pub worker : Value
worker = Object 4

-- Main and Worker are initialised, and `new Worker().start()`
abbrev pub starting : List PlainRequest
starting =
    ask.Init here main_class
    ∷ ask.InitDone here main_class
    ∷ ask.New here worker_class
    ∷ ask.InitDone here worker_class
    ∷ ask.New here worker_class
    ∷ ask.Start here worker
    ∷ []

abbrev pub both : List PlainRequest → List PlainRequest → Code boxes main_class two_boxes (List PlainRequest)
both mains workers = scripts (starting ++ mains) workers

-- an act of a thread, when so many image calls were finished
abbrev pub by : ℕ → ℕ → Op → Recorded
by t at o = record { act = record { thread = t; at = at; op = o }; named = [] }

abbrev pub joining : ℕ → ℕ → List ℕ → Recorded
joining t at named = record { act = record { thread = t; at = at; op = op.Joined }; named = named }

abbrev pub started : List Recorded
started =
    by 0 0 (op.Init main_class stage.Begun)
    ∷ by 0 0 (op.Init main_class stage.Done)
    ∷ by 0 0 (op.Init worker_class stage.Begun)
    ∷ by 0 0 (op.Init worker_class stage.Done)
    ∷ by 0 0 (op.Alloc 4 worker_class 1)
    ∷ by 0 0 (op.Start 4 1)
    ∷ []

-- the two threads may do these acts once the second has started
abbrev pub Do : List PlainRequest → List PlainRequest → List Recorded → Type 0
Do mains workers acts = IsPlainRun boxes main_class two_boxes (both mains workers) (started ++ acts)

abbrev pub RefuseToDo : List PlainRequest → List PlainRequest → List Recorded → Type 0
RefuseToDo mains workers acts = Do mains workers acts → ⊥

abbrev pub puts_amount : ℕ → ℕ → PlainRequest
puts_amount n amount_put = ask.PutField here (Object n) amount (int amount_put)

abbrev pub amount_of : ℕ → Place
amount_of n = Slot n 0

abbrev pub puts : ℕ → ℕ → ℕ → Recorded
puts t n amount_put = by t 2 (op.Stored (amount_of n) (int amount_put))

abbrev pub guards : ℕ → ℕ → Recorded
guards t n = by t 2 (op.Guarded (amount_of n))

abbrev pub begins : ℕ → Recorded
begins t = by t 2 op.Begin

abbrev pub ends : ℕ → Recorded
ends t = by t 2 op.End

abbrev pub closes : ℕ → Recorded
closes t = by t 2 op.Closing

abbrev pub fences : ℕ → Recorded
fences t = by t 2 op.Fenced

abbrev pub leaves : ℕ → Recorded
leaves t = by t 2 (op.Ended None)

abbrev pub begin : PlainRequest
begin = ask.Begin here

abbrev pub end : PlainRequest
end = ask.End here

-- `Region.begin(); box.amount = n; Region.end();`
abbrev pub in_region : ℕ → List PlainRequest
in_region n = begin ∷ puts_amount 0 n ∷ end ∷ []

abbrev pub region_of : ℕ → ℕ → List Recorded
region_of t n = begins t ∷ guards t 0 ∷ puts t 0 n ∷ closes t ∷ ends t ∷ []

-- One region after the other guards, stores and ends; a place that an open region has guarded is neither
-- guarded nor stored by another thread; and a second region of one thread guards again.
pub record RegionsGuard : Type 0 where
  pub one_after_the_other : Do (in_region 7) (in_region 8) (region_of 0 7 ++ region_of 1 8 ++ leaves 0
      ∷ leaves 1 ∷ [])
  pub both_guard : RefuseToDo (in_region 7) (in_region 8) (begins 0 ∷ begins 1 ∷ guards 0 0 ∷ guards 1 0 ∷ [])
  pub another_stores : RefuseToDo (in_region 7) (puts_amount 0 8 ∷ []) (begins 0 ∷ guards 0 0 ∷ puts 1 0 8
      ∷ [])
  pub in_turn : Do (in_region 7 ++ in_region 9) [] (region_of 0 7 ++ region_of 0 9)
  pub not_again : RefuseToDo (in_region 7 ++ in_region 9) [] (region_of 0 7 ++ begins 0 ∷ puts 0 0 9 ∷ [])
  pub guards_twice : RefuseToDo (in_region 7) [] (begins 0 ∷ guards 0 0 ∷ guards 0 0 ∷ [])
  pub guards_outside : RefuseToDo (puts_amount 0 7 ∷ []) [] (guards 0 0 ∷ [])
  pub guards_another_place : RefuseToDo (in_region 7) [] (begins 0 ∷ guards 0 1 ∷ [])
  pub closes_twice : RefuseToDo (in_region 7) [] (begins 0 ∷ guards 0 0 ∷ puts 0 0 7 ∷ closes 0 ∷ closes 0
      ∷ [])
  pub closes_unguarded : RefuseToDo (begin ∷ end ∷ []) [] (begins 0 ∷ closes 0 ∷ [])
  pub closes_early : RefuseToDo (in_region 7) [] (begins 0 ∷ guards 0 0 ∷ closes 0 ∷ [])

-- `Region.begin(); Region.begin(); box.amount = 7; Region.end(); Region.end();`
abbrev pub nested : List PlainRequest
nested = begin ∷ in_region 7 ++ end ∷ []

abbrev pub inner_ended : List Recorded
inner_ended = begins 0 ∷ begins 0 ∷ guards 0 0 ∷ puts 0 0 7 ∷ ends 0 ∷ []

-- The End of an inner region needs no Closing and gives no guard up: the region goes on to its outermost
-- End.
pub record RegionsNest : Type 0 where
  pub run : Do nested [] (inner_ended ++ closes 0 ∷ ends 0 ∷ leaves 0 ∷ [])
  pub closes_inner : RefuseToDo nested [] (begins 0 ∷ begins 0 ∷ guards 0 0 ∷ puts 0 0 7 ∷ closes 0 ∷ [])
  pub unclosed : RefuseToDo nested [] (inner_ended ++ ends 0 ∷ [])
  pub another_stores : RefuseToDo nested (puts_amount 0 8 ∷ []) (inner_ended ++ puts 1 0 8 ∷ [])

-- A durable store outside regions is fenced next, by its own thread, and nothing else is fenced.
pub record StoresAreFenced : Type 0 where
  pub run : Do (puts_amount 0 7 ∷ []) (puts_amount 1 8 ∷ [])
      (puts 0 0 7 ∷ puts 1 1 8 ∷ fences 0 ∷ fences 1 ∷ leaves 1 ∷ leaves 0 ∷ [])
  pub by_another : RefuseToDo (puts_amount 0 7 ∷ []) (puts_amount 1 8 ∷ []) (puts 0 0 7 ∷ fences 1 ∷ [])
  pub twice : RefuseToDo (puts_amount 0 7 ∷ []) [] (puts 0 0 7 ∷ fences 0 ∷ fences 0 ∷ [])
  pub not_at_all : RefuseToDo (puts_amount 0 7 ∷ []) [] (puts 0 0 7 ∷ leaves 0 ∷ [])
  pub before : RefuseToDo (puts_amount 0 7 ∷ []) [] (fences 0 ∷ puts 0 0 7 ∷ [])

-- the `target` of a Thread object
abbrev pub target : FieldAt
target = instance_field thread_class 0 L

-- `worker.target = worker;`, where the worker isn't durable
abbrev pub puts_target : PlainRequest
puts_target = ask.PutField here worker target worker

-- `box.content = worker;`
abbrev pub puts_worker : PlainRequest
puts_worker = ask.PutField here (Object 0) content worker

abbrev pub asks_worker : Recorded
asks_worker = by 0 2 (op.Asked (Slot 0 1) (Object 4))

abbrev pub puts_in_box : Recorded
puts_in_box = by 0 3 (op.Stored (Slot 0 1) (Object 4))

-- Only a value that isn't durable is asked, once, for a durable place, by the thread that is about to store
-- it there.
pub record OnlyDurablePlacesAreAsked : Type 0 where
  pub run : Do (puts_worker ∷ []) []
      (asks_worker ∷ joining 0 3 (4 ∷ []) ∷ puts_in_box ∷ by 0 4 op.Fenced ∷ [])
  pub volatile_place : RefuseToDo (puts_target ∷ []) [] (by 0 2 (op.Asked (Slot 4 0) (Object 4)) ∷ [])
  pub asked_twice : RefuseToDo (puts_worker ∷ []) [] (asks_worker ∷ asks_worker ∷ [])
  pub durable_value : RefuseToDo (ask.PutField here (Object 0) content (Object 1) ∷ []) []
      (by 0 2 (op.Asked (Slot 0 1) (Object 1)) ∷ [])
  pub by_another : RefuseToDo (puts_worker ∷ []) [] (by 1 2 (op.Asked (Slot 0 1) (Object 4)) ∷ [])
  pub joined_again : RefuseToDo (puts_worker ∷ []) []
      (asks_worker ∷ joining 0 3 (4 ∷ []) ∷ joining 0 3 (4 ∷ []) ∷ [])
  pub joined_doubly : RefuseToDo (puts_worker ∷ []) [] (asks_worker ∷ joining 0 3 (4 ∷ 4 ∷ []) ∷ [])
  pub joined_unasked : RefuseToDo (puts_worker ∷ []) [] (joining 0 3 (4 ∷ []) ∷ [])

-- The number of image calls doesn't fall, and only a Joined act names objects.
pub record ActsAreInOrder : Type 0 where
  pub falls : RefuseToDo (begin ∷ end ∷ []) [] (by 0 5 op.Begin ∷ by 0 4 op.End ∷ [])
  pub of_another_thread : RefuseToDo (begin ∷ []) (begin ∷ []) (by 0 5 op.Begin ∷ by 1 4 op.Begin ∷ [])
  pub names : RefuseToDo (begin ∷ []) []
      (record { act = record { thread = 0; at = 2; op = op.Begin }; named = 0 ∷ [] } ∷ [])

abbrev pub awaits : PlainRequest
awaits = ask.Join here worker

abbrev pub starts : PlainRequest
starts = ask.Start here worker

abbrev pub makes_late : PlainRequest
makes_late = ask.New here late_class

abbrev pub begins_late : ℕ → Recorded
begins_late t = by t 2 (op.Init late_class stage.Begun)

abbrev pub late_done : ℕ → Recorded
late_done t = by t 2 (op.Init late_class stage.Done)

abbrev pub allocates_late : ℕ → ℕ → Recorded
allocates_late t n = by t 2 (op.Alloc n late_class 0)

-- main initialises Late
abbrev pub late_makers : List PlainRequest
late_makers = makes_late ∷ ask.InitDone here late_class ∷ makes_late ∷ []

-- A join waits for the end of its thread, a class for its initialiser, a monitor for its owner. A thread is
-- started once, begins with its own frames, and does nothing before its start and after its end.
pub record ThreadsWait : Type 0 where
  pub joins : Do (awaits ∷ []) (ask.Pause ∷ [])
      (by 1 2 op.Pause ∷ leaves 1 ∷ by 0 2 (op.Join 4) ∷ leaves 0 ∷ [])
  pub joins_early : RefuseToDo (awaits ∷ []) (ask.Pause ∷ []) (by 1 2 op.Pause ∷ by 0 2 (op.Join 4) ∷ [])
  pub initialises : Do late_makers (makes_late ∷ [])
      (begins_late 0 ∷ late_done 0 ∷ allocates_late 1 5 ∷ allocates_late 0 6 ∷ [])
  pub begun_twice : RefuseToDo late_makers (makes_late ∷ []) (begins_late 0 ∷ begins_late 1 ∷ [])
  pub made_early : RefuseToDo late_makers (makes_late ∷ []) (begins_late 0 ∷ allocates_late 1 5 ∷ [])
  pub starts_again : Do (starts ∷ []) [] (by 0 2 (op.Throw 5 illegal_thread_state) ∷ leaves 0 ∷ [])
  pub started_twice : RefuseToDo (starts ∷ []) [] (by 0 2 (op.Start 4 2) ∷ [])
  pub after_its_end : RefuseToDo [] (ask.Pause ∷ ask.Pause ∷ [])
      (by 1 2 op.Pause ∷ by 1 2 op.Pause ∷ leaves 1 ∷ leaves 1 ∷ [])
  pub not_started : RefuseToDo [] [] (leaves 2 ∷ [])
  pub of_main : RefuseToDo [] (ask.Pause ∷ []) (by 1 2 (op.Init main_class stage.Ready) ∷ [])

abbrev pub enters : ℕ → PlainRequest
enters n = ask.Enter here (key.Object (Object n))

abbrev pub exits : ℕ → PlainRequest
exits n = ask.Exit here (key.Object (Object n))

abbrev pub entered : ℕ → ℕ → Recorded
entered t n = by t 2 (op.Enter (ObjectKey n))

abbrev pub exited : ℕ → ℕ → Recorded
exited t n = by t 2 (op.Exit (ObjectKey n))

abbrev pub enter_twice : List PlainRequest
enter_twice = enters 0 ∷ enters 0 ∷ exits 0 ∷ exits 0 ∷ []

-- A monitor is its owner's until it has left as often as it entered.
pub record MonitorsExclude : Type 0 where
  pub run : Do enter_twice (enters 0 ∷ [])
      (entered 0 0 ∷ entered 0 0 ∷ exited 0 0 ∷ exited 0 0 ∷ entered 1 0 ∷ [])
  pub both : RefuseToDo enter_twice (enters 0 ∷ []) (entered 0 0 ∷ entered 1 0 ∷ [])
  pub once_left : RefuseToDo enter_twice (enters 0 ∷ [])
      (entered 0 0 ∷ entered 0 0 ∷ exited 0 0 ∷ entered 1 0 ∷ [])
  pub not_owned : RefuseToDo enter_twice (exits 0 ∷ []) (entered 0 0 ∷ exited 1 0 ∷ [])
