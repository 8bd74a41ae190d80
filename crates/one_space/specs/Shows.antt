-- What the heap of one space shows.
use Rattle.shared_objects.specs.Shown.{Shown}
use Rattle.one_space.specs.declared.space.OneSpace.{OneSpace}
use Rattle.one_space.specs.Layout.{full_shown}

abbrev pub shown_of : OneSpace → Shown
shown_of heap = full_shown heap.shapes heap.space.words heap.starts.items heap.statics.items heap.space.left
