-- A program that prints, worked act by act; what a stop may leave of nested regions; and how runs of two
-- threads end.
use Rattle.std.specs.Prelude.{◌≡◌, ◌⊎◌, ◌↔◌, ℕ, List, [], ◌∷◌, ◌++◌, map, replicate, Option, Some, None}
use Rattle.run_types.specs.declared.key.Key.TheVariants as key
use Rattle.run_types.specs.declared.limits.Limits.{Limits}
use Rattle.run_types.specs.declared.wait.On.{On}
use Rattle.run_types.specs.declared.wait.On.TheVariants as on
use Rattle.run_types.specs.declared.fault.RunFault.{RunFault}
use Rattle.run_types.specs.declared.fault.RunFault.TheVariants as fault
use Rattle.run_types.specs.declared.fault.StepFault.TheVariants as met
use Rattle.run_types.specs.declared.fault.Which.TheVariants as which
use Rattle.run_types.specs.declared.fault.LinkKind.TheVariants.{NoCode}
use Rattle.ap_base.specs.declared.place.Place.TheVariants.{Static, Slot}
use Rattle.graph_model.specs.declared.types.Value.{Value}
use Rattle.graph_model.specs.declared.types.Value.TheVariants.{Obj as Object}
use Rattle.graph_model.specs.declared.types.Heap.{Heap}
use Rattle.graph_model.specs.declared.types.Graph.{Graph}
use Rattle.natives.specs.declared.requests.Request.TheVariants as ask
use Rattle.run_history.specs.declared.act.PlainKey.TheVariants.{Object as ObjectKey}
use Rattle.run_history.specs.declared.act.Stage.TheVariants as stage
use Rattle.run_history.specs.declared.act.Op.TheVariants as op
use Rattle.run_history.specs.Recorded.{Recorded}
use Rattle.run_history.specs.Knowing.{Knowledge}
use Rattle.plain_model.specs.Requests.{PlainRequest}
use Rattle.plain_model.specs.Codes.{Code}
use Rattle.plain_model.specs.Runs.{IsPlainRun, IsAllowed, known_of, output_of}
use Rattle.plain_model.specs.Limits.{object_lines}
use Rattle.plain_model.specs.Ends.{Uncaught, Finished, full, fault_of_store, fault_after, FaultComes, EndsAs}
use Rattle.plain_model.specs.StepWorld.{boxes, main_class, print_stream, runtime_exception, here, int, system_out, amount}
use Rattle.plain_model.specs.RunRows.{two_boxes, box_graph, scripts, both, by, started, in_region, puts_amount, amount_of}
use Rattle.plain_model.specs.RunRows.{begins, guards, puts, fences}
use Rattle.plain_model.specs.RunRows.{ends, closes, leaves, inner_ended, enters, entered, awaits, puts_worker, asks_worker}

-- System.out
abbrev pub stream : ℕ
stream = 2

-- `System.out.println(7);` in a class Main without initialiser
abbrev pub printing : Code boxes main_class two_boxes (List PlainRequest)
printing = scripts (
    ask.Init here main_class
    ∷ ask.InitDone here main_class
    ∷ ask.GetStatic here system_out
    ∷ ask.ClassOf here (Object stream) print_stream
    ∷ ask.Enter here (key.Object (Object stream))
    ∷ ask.Print here (55 ∷ 10 ∷ [])
    ∷ ask.Exit here (key.Object (Object stream))
    ∷ []
    ) []

-- up to the print
abbrev pub before_print : List Recorded
before_print =
    by 0 0 (op.Init main_class stage.Begun)
    ∷ by 0 0 (op.Init main_class stage.Done)
    ∷ by 0 0 (op.Read (Static 0) (Object stream))
    ∷ by 0 0 (op.Class (Some stream) (Some print_stream))
    ∷ by 0 0 (op.Enter (ObjectKey stream))
    ∷ []

abbrev pub printed : List ℕ → List Recorded
printed bytes =
    before_print ++ by 0 0 (op.Print bytes) ∷ by 0 0 (op.Exit (ObjectKey stream)) ∷ by 0 0 (op.Ended None)
    ∷ []

abbrev pub no_limits : Limits
no_limits = record { heap_words = 1000; acts = 1000 }

-- It prints 7 and a new line, and has ended.
pub record Prints7 : Type 0 where
  pub run : IsPlainRun boxes main_class two_boxes printing (printed (55 ∷ 10 ∷ []))
  pub output : output_of (printed (55 ∷ 10 ∷ [])) ≡ 55 ∷ 10 ∷ []
  pub ends : EndsAs boxes main_class two_boxes printing no_limits 100 (printed (55 ∷ 10 ∷ [])) Finished
  pub unended : EndsAs boxes main_class two_boxes printing no_limits 100 before_print Finished → ⊥
  pub nothing : IsPlainRun boxes main_class two_boxes printing (printed []) → ⊥
  pub another_digit : IsPlainRun boxes main_class two_boxes printing (printed (56 ∷ 10 ∷ [])) → ⊥

-- what a stop may leave of the nested regions after these acts
abbrev pub MayLeave : List Recorded → Graph → Type 0
MayLeave acts g = IsAllowed boxes two_boxes (started ++ acts) g

-- The inner End commits nothing. The whole region is there or not once it is closing, and is there after
-- its outermost End.
pub record RegionsCommitAtTheirEnd : Type 0 where
  pub inner : (g : Graph) → MayLeave inner_ended g ↔ (g ≡ two_boxes)
  pub closing : (g : Graph) → MayLeave (inner_ended ++ closes 0 ∷ []) g
      ↔ ((g ≡ two_boxes) ⊎ (g ≡ box_graph (int 7)))
  pub ended : (g : Graph) → MayLeave (inner_ended ++ closes 0 ∷ ends 0 ∷ []) g ↔ (g ≡ box_graph (int 7))

-- the event of thread t after the start and these acts ends the run by this fault
abbrev pub Ends : List PlainRequest → List PlainRequest → Limits → List Recorded → ℕ → RunFault → Type 0
Ends mains workers limits acts t f =
    FaultComes boxes main_class two_boxes (both mains workers) limits 100 (started ++ acts) t f

-- the event of thread t after the start and these acts ends the run by no fault that acts tell
abbrev pub HasNoFault : List PlainRequest → List PlainRequest → Limits → List Recorded → ℕ → Type 0
HasNoFault mains workers limits acts t =
    fault_after boxes main_class two_boxes (both mains workers) limits 100 (started ++ acts) t ≡ None

-- A store to a place that another thread's open region has guarded is a race, and one of the region's own
-- thread isn't.
pub record RegionsRace : Type 0 where
  pub races : Ends (in_region 7) (puts_amount 0 8 ∷ []) no_limits (begins 0 ∷ guards 0 0 ∷ []) 1
      (fault.RegionRace 1 0 (amount_of 0))
  pub in_own_region : Ends (in_region 7) (in_region 8) no_limits (begins 0 ∷ guards 0 0 ∷ begins 1 ∷ []) 1
      (fault.RegionRace 1 0 (amount_of 0))
  pub own_place : HasNoFault (in_region 7) [] no_limits (begins 0 ∷ guards 0 0 ∷ []) 0

abbrev pub waits : On → On → List (Option On)
waits first second = Some first ∷ Some second ∷ replicate 62 None

abbrev pub first_two : List PlainRequest
first_two = enters 0 ∷ enters 1 ∷ []

abbrev pub second_two : List PlainRequest
second_two = enters 1 ∷ enters 0 ∷ []

-- Two threads that wait for each other are stuck, and one that waits alone isn't.
pub record ThreadsAreStuck : Type 0 where
  pub crosswise : Ends first_two second_two no_limits (entered 0 0 ∷ entered 1 1 ∷ []) 1
      (fault.Stuck (waits (on.Monitor 1) (on.Monitor 0)))
  pub one_waits : HasNoFault first_two first_two no_limits (entered 0 0 ∷ []) 1
  pub none_waits : HasNoFault first_two second_two no_limits (entered 0 0 ∷ []) 1
  pub joining : Ends (enters 0 ∷ awaits ∷ []) (enters 0 ∷ []) no_limits (entered 0 0 ∷ []) 0
      (fault.Stuck (waits (on.Join 1) (on.Monitor 0)))

abbrev pub six_acts : Limits
six_acts = record no_limits { acts = 6 }

-- A history of six acts that may have six is full. The stream, the arguments and the worker take ten words,
-- and a further worker four.
pub record RunsFill : Type 0 where
  pub history : Ends [] [] six_acts [] 1 (full which.Acts 1 0)
  pub one_act_left : HasNoFault [] [] (record no_limits { acts = 7 }) [] 1
  pub heap : Ends (ask.New here 5 ∷ []) [] (record no_limits { heap_words = 13 }) [] 0
      (full which.VolatileWords 4 3)
  pub enough_words : HasNoFault (ask.New here 5 ∷ []) [] (record no_limits { heap_words = 14 }) [] 0

-- the worker's Thread object, which needs a line
abbrev pub LinesEnd : ℕ → Type 0
LinesEnd t = FaultComes boxes main_class two_boxes (both (puts_worker ∷ []) []) no_limits 0
    (started ++ asks_worker ∷ []) t (full which.ImageLines 1 0)

-- The thread that makes an object durable ends for want of lines, and no other.
pub record LinesAreWanted : Type 0 where
  pub converts : LinesEnd 0
  pub another : LinesEnd 1 → ⊥

-- a heap of one object with so many slots
abbrev pub one_object : ℕ → Heap
one_object slots = record {
  shapes = [];
  objects = record { shape = 0; values = replicate slots (int 0) } ∷ [];
  statics = [];
  roots = [];
}

-- An object's head word and its slots fill whole lines of eight words: 7 slots one line, 8 and 15 two, 16 three.
pub record LinesHoldEightWords : Type 0 where
  pub lines : map (λ slots. object_lines (one_object slots) 0) (0 ∷ 7 ∷ 8 ∷ 15 ∷ 16 ∷ []) ≡ 1 ∷ 1 ∷ 2 ∷ 2 ∷ 3 ∷ []

-- a region of thread 0 that has guarded so many places, after the start
abbrev pub guarding : ℕ → Knowledge
guarding places = record (known_of boxes main_class two_boxes (both [] []) (started ++ begins 0 ∷ [])) {
  guards = replicate places (record { thread = 0; place = Slot 1 2 });
}

-- how a store of this value to the first box's durable content ends the run then, if it does
abbrev pub fault_of_content : (places : ℕ) → Value → Option RunFault
fault_of_content places value = fault_of_store boxes two_boxes no_limits (guarding places) 0 (Slot 0 1) value

-- A full log ends a run where a further place is to be guarded: once the stored object is durable, and not while it is
-- volatile.
pub record LogsFill : Type 0 where
  pub volatile : fault_of_content 1024 (Object 4) ≡ None
  pub durable : fault_of_content 1024 (Object 1) ≡ Some (full which.LogEntries 1 0)
  pub one_left : fault_of_content 1023 (Object 1) ≡ None

-- A full history ends a run before all else, and a race before the stored object is made durable.
pub record CausesAreInOrder : Type 0 where
  pub operand : Ends [] (ask.GetField here (Object stream) amount ∷ []) six_acts [] 1 (full which.Acts 1 0)
  pub turn : Ends (ask.Broken (met.LinkFault NoCode 1 2) ∷ []) [] six_acts [] 0 (full which.Acts 1 0)
  pub sink : Ends [] (ask.Print here (55 ∷ []) ∷ []) six_acts [] 1 fault.SinkFault → ⊥
  pub image : Ends [] [] six_acts [] 1 fault.ImageFault → ⊥
  pub race : Ends (ask.Begin here ∷ puts_worker ∷ []) (puts_worker ∷ []) no_limits
      (begins 0 ∷ by 0 2 (op.Guarded (Slot 0 1)) ∷ []) 1 (fault.RegionRace 1 0 (Slot 0 1))

-- the box's durable place is stored outside regions, and a fence is owed
abbrev pub stored_8 : List Recorded
stored_8 = puts 0 0 8 ∷ []

abbrev pub then_wrong : List PlainRequest
then_wrong = puts_amount 0 8 ∷ ask.GetField here (Object stream) amount ∷ []

-- A thread that owes a fence makes it before its next request ends the run, and isn't stuck. A full history
-- comes first.
pub record FencesComeFirst : Type 0 where
  pub owed : HasNoFault then_wrong [] no_limits stored_8 0
  pub fenced : Ends then_wrong [] no_limits (stored_8 ++ fences 0 ∷ []) 0 (fault.BadCode here)
  pub full : Ends then_wrong [] (record no_limits { acts = 7 }) stored_8 0 (full which.Acts 1 0)
  pub sink : Ends (puts_amount 0 8 ∷ ask.Print here (55 ∷ []) ∷ []) [] no_limits stored_8 0
      fault.SinkFault → ⊥
  pub not_stuck : HasNoFault (puts_amount 0 8 ∷ enters 0 ∷ []) (enters 0 ∷ awaits ∷ []) no_limits
      (entered 1 0 ∷ stored_8) 1
  pub stuck : Ends (puts_amount 0 8 ∷ enters 0 ∷ []) (enters 0 ∷ awaits ∷ []) no_limits
      (entered 1 0 ∷ stored_8 ++ fences 0 ∷ []) 1 (fault.Stuck (waits (on.Monitor 1) (on.Join 1)))

-- A wrong operand, a fault of the turn, and the sink where a thread prints.
pub record FaultsCome : Type 0 where
  pub wrong : Ends [] (ask.GetField here (Object stream) amount ∷ []) no_limits [] 1 (fault.BadCode here)
  pub broken : Ends (ask.Broken (met.LinkFault NoCode 1 2) ∷ []) [] no_limits [] 0
      (fault.LinkFault NoCode 1 2)
  pub sink : Ends [] (ask.Print here (55 ∷ []) ∷ []) no_limits [] 1 fault.SinkFault
  pub no_print : Ends [] (ask.Print here (55 ∷ []) ∷ []) no_limits [] 0 fault.SinkFault → ⊥
  pub image : Ends [] [] no_limits [] 1 fault.ImageFault
  pub no_thread : Ends [] [] no_limits [] 2 fault.ImageFault → ⊥

abbrev pub throws_out : ℕ → ℕ → Recorded
throws_out t class = by t 2 (op.Ended (Some class))

-- All threads have ended, and the least that a throwable ended is told.
pub record ThreadsEnd : Type 0 where
  pub uncaught : EndsAs boxes main_class two_boxes (both [] []) no_limits 100
      (started ++ throws_out 1 runtime_exception ∷ leaves 0 ∷ []) (Uncaught 1 runtime_exception)
  pub least : EndsAs boxes main_class two_boxes (both [] []) no_limits 100
      (started ++ throws_out 1 runtime_exception ∷ throws_out 0 main_class ∷ []) (Uncaught 0 main_class)
  pub one_lives : EndsAs boxes main_class two_boxes (both [] []) no_limits 100 (started ++ leaves 1
      ∷ []) Finished → ⊥
