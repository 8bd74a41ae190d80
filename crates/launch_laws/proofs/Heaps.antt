-- The heap of a first machine: whole, and in agreement with empty queues.
use Rattle.std.proofs.Common.{◌≡◌, ℕ, List, refl, ap, sym, ◌∙◌, subst, arith}
use Rattle.line_memory.specs.Memory.{Memory, IsTelling}
use Rattle.monitors.specs.declared.monitor.Monitor.{Monitor}
use Rattle.monitors.specs.Indexed.{AreSound}
use Rattle.twin_forms.specs.Table.{Entry}
use Rattle.twin_forms.specs.Sights.{AllKnown}
use Rattle.convert_words.specs.Scenes.{AgreesAt}
use Rattle.converter.specs.Stepping.{keys_of}
use Rattle.machine_laws.specs.Passed.{Opening, Machine, memory_of, scene_of}
use Rattle.machine_laws.specs.Passed.{KeepsHeap}
use Rattle.image_meaning.specs.Opening.{free_line}
use Rattle.line_memory.specs.Memory.{shown}
use Rattle.first_spaces.specs.Laws.{FirstScenesAgree, IsFirstScene, first_queues}
use Rattle.launch_laws.specs.First.{IsFirstMachine}
use Rattle.launch_laws.proofs.Nodes.{of_directory, numbers_held, free_front, free_inside}

module _ (agrees : FirstScenesAgree) (o : Opening) (lines : List ℕ) (m : Machine) (es : List Entry)
    (first : IsFirstMachine o lines m es) where
  size_is : (memory_of m).size ≡ o.start.size
  size_is = ap (λ (x : Memory). x.size) first.memory

  first_scene : IsFirstScene lines m.spaces (scene_of m)
  first_scene = record {
    heap_is = refl;
    queue_is = first.queue ∙ ap first_queues (sym size_is);
    free_is = first.free ∙ ap (λ (x : Memory). free_line (shown x) lines) (sym first.memory);
    keys_are = ap (λ (ms : List Monitor). keys_of ms) first.rest.monitors;
  }

  agree : AgreesAt (scene_of m) es
  agree = agrees o.directory lines m.spaces (scene_of m) es first.table first_scene

  pub heap_kept : KeepsHeap o m es
  heap_kept =
      let inside = free_inside o lines m es first in
      record {
        whole = first.table.stands;
        agrees = agree;
        sound = subst AreSound (sym first.rest.monitors) tt;
        directory = of_directory o lines m es first;
        listed = first.table.shapes;
        numbers = numbers_held o lines m es first;
        low = first.table.low;
        behind = free_front o lines m es first;
        within = omega (arith, inside, size_is);
        size = size_is;
        long = first.image.size;
        known = subst AllKnown (sym first.memory) first.image.known;
        telling = subst (λ (x : Memory). IsTelling o.start.image.trace → IsTelling x.image.trace)
            (sym first.memory) (λ told. told);
      }
