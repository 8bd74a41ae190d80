-- An image file counts its calls, and tells nothing of what was done in them.
use Rattle.std.specs.Prelude.{None}
use Rattle.line_image.specs.Told.{Told, IsCounted}
use Rattle.host_edges.specs.declared.file_image.FileImage.{FileImage}

abbrev pub file_told : FileImage → Told
file_told image = record { size = image.lines; calls = image.calls; trace = None }

pub in_order_always : (image : FileImage) → IsCounted (file_told image)
in_order_always image = record { fits = image.calls_fit; order = tt }
