-- What is launched over an opened image.
use Rattle.std.proofs.Common.{◌≡◌, ℕ, ◌<◌, List, [], ◌∷◌, length, Some, refl, ap, sym, subst, arith, slice_index_or}
use Rattle.std.specs.Prelude.{slice_get, unwrap_or}
use Rattle.std.proofs.lemmas.Option.{slice_get-get_or}
use Rattle.ap_base.specs.declared.reference.Ref.{Ref}
use Rattle.ap_base.specs.declared.reference.Ref.TheVariants.{Null as NoRef}
use Rattle.ap_base.specs.declared.reference.Item.{Item}
use Rattle.natives.specs.declared.methods.Native.{Native}
use Rattle.natives.specs.declared.states.NativeState.{NativeState}
use Rattle.workers.specs.Passed.{Setting}
use Rattle.run_types.specs.declared.limits.Limits.{Limits}
use Rattle.line_image.specs.Told.{Told}
use Rattle.image_meaning.specs.Directories.{Directory}
use Rattle.image_recovery.specs.Recovered.{entries_in}
use Rattle.plain_model.specs.Consistent.{IsConsistent}
use Rattle.plain_model.specs.Duties.{IsClass}
use Rattle.plain_frames.specs.Tables.{NamesWhatIsThere}
use Rattle.workers.specs.Passed.{begun_main}
use Rattle.class_set.specs.Linked.{Linked}
use Rattle.class_set.specs.Facts.{facts_of}
use Rattle.class_set.specs.Sets.{IsLinked}
use Rattle.workers.specs.Passed.{Rest}
use Rattle.workers.specs.Passed.{ThreadState}
use Rattle.one_space.specs.Beside.{IsFirstRest}
use Rattle.program_host.specs.Literals.{literal_in, spare}
use Rattle.program_launch.specs.declared.mains.Main.{Main}
use Rattle.program_launch.specs.Launches.{set_program}
use Rattle.workers.specs.Passed.{ThreadFrames}
use Rattle.workers.specs.Passed.{IsLaunch, Launch, setting_of}
use Rattle.twin_forms.specs.Table.{Entry}
use Rattle.set_opening.specs.Passed.{spaces_of}
use Rattle.workers.specs.Passed.{Opening, empty_log}
use Rattle.launch_laws.specs.First.{IsFirstMachine, IsOpenedImage, BeginsMain}
use Rattle.launch_laws.specs.Laws.{FirstMachinesKeepRuns, FirstMachinesRunAsPlain}
use Rattle.launch_laws.specs.Shapes.{MadeHeapsHaveTheirDirectory}
use Rattle.workers.specs.Passed.{StartsTakeNoLines}
use Rattle.workers.specs.Passed.{StartsHaveUnwritten}
use Rattle.workers.specs.Passed.{BeginnersKeepTheirs, ListsClasses}
use Rattle.launch_laws.specs.Written.{ThreadsAskForWrittenArrays}
use Rattle.workers.specs.Passed.{Shared}
use Rattle.workers.proofs.Passed.{at_to, long_to}
use Rattle.workers.specs.Passed.{first_shared}
use Rattle.workers.specs.Passed.{IsReady, AsksListed}
use Rattle.durable_launch.specs.declared.heaps.OpenedHeap.{OpenedHeap}
use Rattle.durable_launch.specs.Launching.{CanLaunch, launch_over, opening_over}
use Rattle.durable_launch.proofs.Beginning.{own, running, runs as runs_of, written_class}

-- the reference of a literal's number is that of its place
given_at : (literals : List Ref) (k : ℕ) → k < length literals
    → literal_in literals k ≡ slice_index_or literals k NoRef
given_at literals k below = ap (λ o. unwrap_or o (spare k)) (slice_get-get_or literals k NoRef below)

-- the laws of the layers below
pub record Laws : Type 0 where
  pub keep : FirstMachinesKeepRuns
  pub plain : FirstMachinesRunAsPlain
  pub directories : MadeHeapsHaveTheirDirectory
  pub lines : StartsTakeNoLines
  pub unwritten : StartsHaveUnwritten
  pub arrays : ThreadsAskForWrittenArrays
  pub begin : BeginnersKeepTheirs

-- what is known of the set, of the main class and of what is beside the heap
pub record CanRun (set : Linked) (main : Main) (rest : Rest) : Type 0 where
  pub linked : IsLinked set
  pub consistent : IsConsistent (facts_of set)
  pub names : NamesWhatIsThere (facts_of set) (set_program set)
  pub class : IsClass (facts_of set) main.class
  pub beside : IsFirstRest (facts_of set) rest

module _ {I : Type 0} (start : Told) (old set : Linked) (main : Main) (limits : Limits) (heap : OpenedHeap I)
    (rest : Rest) (laws : Laws) (can : CanLaunch start old set limits.heap_words heap)
    (runs : CanRun set main rest) where
  abbrev directory : Directory
  directory = entries_in can.directory

  abbrev launch : Launch
  launch = launch_over set main limits heap.graph heap.literals.items

  abbrev o : Opening
  o = opening_over start heap.spaces.heap.memory directory launch

  abbrev s : Shared
  s = first_shared (spaces_of heap.spaces) heap.free rest limits.acts

  abbrev es : List Entry
  es = can.over.whole.0

  abbrev fs : ThreadFrames
  fs = begun_main main.class main.method heap.arguments

  launched : IsLaunch launch
  launched = record {
    consistent = runs.consistent;
    names = runs.names;
    opening = can.opened.suits.opening;
    main = runs.class;
  }

  image : IsOpenedImage o can.lines
  image =
      let ready = can.opened.ready in record {
        opens = ready.opens;
        unlogged = ready.unlogged;
        opened = ready.opened;
        durable = λ telling. let d = ready.durable telling in record {
          super = d.super;
          entries = d.entries;
          slots = d.slots;
          objects = d.objects;
          counts = d.counts;
        };
        size = ready.size;
        known = ready.known;
        counts = ready.counts;
        few = ready.few;
      }

  first : IsFirstMachine o can.lines s.machine es
  first = record {
    launched = launched;
    image = image;
    memory = refl;
    shows = can.over.shows;
    roots = can.over.roots;
    table = can.over.whole.1;
    directory = laws.directories (facts_of set) directory can.over.tables (spaces_of heap.spaces)
        can.over.are_tables can.over.has_tables can.opened.suits.classes;
    rest = runs.beside;
    queue = refl;
    free = can.opened.ready.free_is;
    doing = refl;
    logs = long_to 64;
    empty = λ t below. at_to 64 t (empty_log t) below;
    acts = refl;
  }

  begins : BeginsMain o s.machine fs
  begins = record {
    arguments = heap.arguments;
    literals = heap.literals.items;
    stand_for = can.over.stand_for;
    given = λ k below. given_at heap.literals.items k
        (let long = can.over.stand_for.long in omega (arith, below, long));
    begun = refl;
  }

  listed : ListsClasses o s.machine
  listed n below plain = (can.over.listed n (written_class set n below plain)).1

  asks_listed : AsksListed o s.machine
  asks_listed acts shown beside threads t frames from shape count stands asks =
      (can.over.listed shape (laws.arrays launch acts shown beside threads launched stands t frames from shape count asks
      set runs.linked (record { facts = refl; program = refl }))).1

  is_ready : (frames : List ThreadFrames) → length frames ≡ 64 → slice_get frames 0 ≡ Some fs
      → IsReady o heap.free (facts_of set) (setting_of launch) s frames
  is_ready frames many there =
      let keeps = laws.keep o can.lines s.machine es first in record {
        facts = refl;
        setting = refl;
        table = es;
        threads = fs ∷ [];
        running = running o can.lines s es fs first keeps
            (runs_of o can.lines s es fs first keeps laws.begin laws.lines laws.unwritten
            (laws.plain o can.lines s.machine es first fs begins) refl refl refl refl refl
            (ap (λ (ts : List ThreadState). length ts) runs.beside.threads) listed) refl;
        own = own o can.lines s es fs first keeps (setting_of launch) frames refl there (tt, tt);
        many = many;
        arrays = asks_listed;
      }

  pub ready_as : (x : Setting Native Ref (NativeState Ref) Item) (made : Shared) (frames : List ThreadFrames)
      → x ≡ setting_of launch → made ≡ s → length frames ≡ 64 → slice_get frames 0 ≡ Some fs
      → IsReady o heap.free (facts_of set) x made frames
  ready_as x made frames same_setting same_heap many there =
      subst (λ (y : Setting Native Ref (NativeState Ref) Item). IsReady o heap.free (facts_of set) y made frames)
      (sym same_setting)
      (subst (λ (t : Shared). IsReady o heap.free (facts_of set) (setting_of launch) t frames) (sym same_heap)
      (is_ready frames many there))
