-- An image that couldn't be opened.
use Rattle.std.specs.Prelude.{ℕ, None}
use Rattle.line_image.specs.Told.{Told, IsCounted}
use Rattle.line_image.specs.declared.closed.ClosedImage.{ClosedImage}

-- how many calls it had, each of which failed
abbrev pub failures_of : ClosedImage → ℕ
failures_of image = image.failures

-- it tells how many lines it shows and how many calls it had, and nothing of what was done
abbrev pub closed_told : ClosedImage → Told
closed_told image = record { size = 32768; calls = failures_of image; trace = None }

abbrev pub closed_in_order : (image : ClosedImage) → IsCounted (closed_told image)
closed_in_order image = record { fits = image.fits; order = tt }
