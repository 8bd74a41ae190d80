-- A machine whose heap has moved objects, or none: it keeps its heap and its world.
use Rattle.std.proofs.Common.{◌≡◌, ℕ, ◌<◌, ◌≤◌, true, List, length, refl, sym, subst, arith}
use Rattle.image_layout.specs.Places.{first_object_line}
use Rattle.line_memory.specs.Memory.{IsTelling}
use Rattle.monitors.specs.declared.monitor.Monitor.{Monitor}
use Rattle.monitors.specs.Indexed.{AreSound}
use Rattle.run_history.specs.declared.act.Op.{Op}
use Rattle.run_history.specs.Recorded.{Recorded}
use Rattle.plain_model.specs.Codes.{is_persistent}
use Rattle.shared_objects.specs.Shown.{Shown}
use Rattle.twin_forms.specs.Table.{Entry, entry}
use Rattle.twin_forms.specs.Sights.{Twin, AllKnown, view_of}
use Rattle.region_log.specs.Log.{Log}
use Rattle.two_spaces.specs.Seen.{Spaces, shown_of}
use Rattle.two_spaces.specs.Moving.{IsMove, SameCurrent, ShowsSame}
use Rattle.two_spaces.proofs.Keeping.{kinds_same}
use Rattle.two_spaces.proofs.Moved.{keys, monitors_stay, same_world, shows, whole}
use Rattle.convert_queue.specs.Queues.{Queues}
use Rattle.convert_words.specs.Scenes.{AgreesAt}
use Rattle.machine_forms.specs.declared.doing.Doing.{Doing}
use Rattle.machine_forms.specs.Machines.{Opening, Machine, known_in, memory_of, scene_of, shown_in}
use Rattle.machine_forms.specs.Keeping.{KeepsHeap, KeepsWorld}
use Rattle.machine_forms.specs.Events.{act_in, with_act}
use Rattle.machine_laws.specs.HeapLaws.{KeepsShared}
use Rattle.machine_laws.proofs.Numbers.{numbers_moved}
use Rattle.machine_laws.proofs.HeapTables.{AreLow}
use Rattle.machine_laws.proofs.Worlds.{LeavesWorld, world_stays, at_most_more, one_act_more, same_known_world}

-- with other words of the heap, queues, lines and monitors
abbrev pub moved_to : Machine → Twin → Queues → ℕ → List Monitor → Machine
moved_to m twin q free ms = record m {
  spaces = record m.spaces { twin = twin };
  queue = q;
  free = free;
  rest = record m.rest { monitors = ms };
}

-- what a machine's heap is given after a move
pub record Arrives (o : Opening) (m' : Machine) (es' : List Entry) : Type 0 where
  pub agrees : AgreesAt (scene_of m') es'
  pub sound : AreSound m'.rest.monitors
  pub low : AreLow es'
  pub behind : first_object_line ≤ m'.free
  pub within : m'.free ≤ (memory_of m').size
  pub size : (memory_of m').size ≡ o.start.size
  pub known : AllKnown (memory_of m')
  pub telling : IsTelling o.start.image.trace → IsTelling (memory_of m').image.trace

module _ (o : Opening) (m : Machine) (es es' : List Entry) (twin : Twin) (q : Queues) (free : ℕ)
    (ms : List Monitor) (k : KeepsHeap o m es) (move : IsMove m.spaces twin es es') where
  abbrev now : Machine
  now = moved_to m twin q free ms

  listed_still : (n : ℕ) → n < length es'
      → (entry es' n).shape < length o.directory.shapes
  listed_still n ln =
      let long = move.moved.same.long in
      let ln0 : n < length es = omega (arith, ln, long) in
      subst (λ s. s < length o.directory.shapes) (sym (move.moved.same.shapes n ln0)) (k.listed n ln0)

  pub heap_arrives : Arrives o now es' → KeepsHeap o now es'
  heap_arrives a = record {
    whole = whole m.spaces twin es es' move;
    agrees = a.agrees;
    sound = a.sound;
    directory = record {
      many = k.directory.many;
      shapes = k.directory.shapes;
    };
    listed = listed_still;
    numbers = numbers_moved (view_of m.spaces.twin) (view_of twin) es es'
        (kinds_same m.spaces.twin twin move.kinds) move.moved.same k.numbers;
    low = a.low;
    behind = a.behind;
    within = a.within;
    size = a.size;
    long = k.long;
    known = a.known;
    telling = a.telling;
  }

-- The world is shown as before, where no other copies are current and the monitors stay.
module _ (o : Opening) (m : Machine) (es es' : List Entry) (twin : Twin) (q : Queues) (free : ℕ)
    (w : KeepsWorld o m) (move : IsMove m.spaces twin es es') (current : SameCurrent es es') where
  abbrev after : Spaces
  after = record m.spaces { twin = twin }

  shows_same : ShowsSame (shown_of m.spaces) (shown_of after)
  shows_same = shows m.spaces twin es es' move

  leaves : LeavesWorld o m (moved_to m twin q free m.rest.monitors)
  leaves = record {
    same = shows_same;
    known = refl;
    world = λ roots. same_world (shown_of m.spaces) (shown_of after) m.rest roots shows_same w.monitors;
    monitors = monitors_stay (shown_of m.spaces) (shown_of after) m.rest shows_same.keeps
        (keys m.spaces twin es es' move current) w.monitors;
    classes = refl;
    counts = w.counts;
    statics = refl;
  }

  pub world_arrives : KeepsWorld o (moved_to m twin q free m.rest.monitors)
  world_arrives = world_stays o m (moved_to m twin q free m.rest.monitors) w leaves

-- ---- what threads are about, and acts of persistence

abbrev pub about : Machine → List Recorded → List Doing → List Log → Machine
about m acts doing logs = record m { acts = acts; doing = doing; logs = logs }

pub heap_about : (o : Opening) (m : Machine) (es : List Entry) (acts : List Recorded) (doing : List Doing)
    (logs : List Log) → KeepsHeap o m es → KeepsHeap o (about m acts doing logs) es
heap_about o m es acts doing logs k = record {
  whole = k.whole;
  agrees = k.agrees;
  sound = k.sound;
  directory = k.directory;
  listed = k.listed;
  numbers = k.numbers;
  low = k.low;
  behind = k.behind;
  within = k.within;
  size = k.size;
  long = k.long;
  known = k.known;
  telling = k.telling;
}

same_shown : (shown : Shown) → ShowsSame shown shown
same_shown shown = record { shapes = refl; objects = refl; statics = refl; keeps = λ r n is. is; left = refl }

pub world_about : (o : Opening) (m : Machine) (acts : List Recorded) (doing : List Doing) (logs : List Log)
    → (known_in o (about m acts doing logs)).world ≡ (known_in o m).world → length m.acts ≤ length acts
    → KeepsWorld o m → KeepsWorld o (about m acts doing logs)
world_about o m acts doing logs known more w = world_stays o m (about m acts doing logs) w (record {
  same = same_shown (shown_in m);
  known = known;
  world = λ roots. refl;
  monitors = w.monitors;
  classes = refl;
  counts = at_most_more (length m.acts) (length acts) m.rest more w.counts;
  statics = refl;
})

-- only what threads are about is otherwise
pub shared_doing : (o : Opening) (m : Machine) (es : List Entry) (doing : List Doing)
    → KeepsShared o m es → KeepsShared o (record m { doing = doing }) es
shared_doing o m es doing k =
    (heap_about o m es m.acts doing m.logs k.0, world_about o m m.acts doing m.logs refl (omega arith) k.1)

-- only what logs say is otherwise
pub shared_logs : (o : Opening) (m : Machine) (es : List Entry) (logs : List Log)
    → KeepsShared o m es → KeepsShared o (record m { logs = logs }) es
shared_logs o m es logs k =
    (heap_about o m es m.acts m.doing logs k.0, world_about o m m.acts m.doing logs refl (omega arith) k.1)

-- an act of persistence more
pub shared_act : (o : Opening) (m : Machine) (es : List Entry) (t : ℕ) (op : Op) (named : List ℕ)
    → is_persistent op ≡ true → KeepsShared o m es → KeepsShared o (with_act m t op named) es
shared_act o m es t op named is k =
    let next = with_act m t op named in
    let long = one_act_more m.acts (act_in m t op named) in (
      heap_about o m es next.acts m.doing m.logs k.0,
      world_about o m next.acts m.doing m.logs (same_known_world o m t op named is) (omega (arith, long)) k.1,
    )
