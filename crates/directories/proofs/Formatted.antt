-- What an image stands for once it is formatted, and where that stops.
use Rattle.std.proofs.Common.{⊎_elim, ◌≤◌, ℕ, [], refl, arith}
use Rattle.std.proofs.lemmas.Bool.{le-leb}
use Rattle.image_layout.specs.Places.{min_lines, max_lines}
use Rattle.image_meaning.specs.Checks.{Words}
use Rattle.image_meaning.specs.Directories.{no_entries, Spells}
use Rattle.image_meaning.specs.Meaning.{empty_graph, StandsFor, IsWellFormed}
use Rattle.image_meaning.specs.Laws.{Opens}
use Rattle.image_meaning.specs.Arrays.{IsInUse}
use Rattle.image_meaning.proofs.Arrays.{null_roots-stand}
use Rattle.image_meaning.proofs.Opened.{opens-in_use}
use Rattle.image_meaning.proofs.Order.{blank-stands}
use Rattle.directories.specs.Formatting.{IsFormatted, IsBlankOrFormatted}

pub formatted_spells : (size : ℕ) (words : Words) → IsFormatted size words → Spells words []
formatted_spells size words formatted = record { used = formatted.used; spelled = λ i below. absurd (omega (arith, below)) }

module _ (size : ℕ) (words : Words) (enough : min_lines ≤ size) (most : size ≤ max_lines) where
  in_use : IsFormatted size words → IsInUse size words
  in_use formatted = record {
    enough = enough;
    most = most;
    magic = formatted.begins;
    version = formatted.layout;
    lines = formatted.lines;
    directory = omega (arith, formatted.used);
    logs = formatted.logs;
  }

  pub formatted_opens : IsFormatted size words → Opens size words no_entries
  formatted_opens formatted = opens-in_use size words [] (in_use formatted) tt (formatted_spells size words formatted)

  formatted_stands : IsFormatted size words → StandsFor size words empty_graph
  formatted_stands formatted = null_roots-stand size words [] (in_use formatted) tt (formatted_spells size words formatted) formatted.slots

  pub either_stands : IsBlankOrFormatted size words → StandsFor size words empty_graph
  either_stands either = ⊎_elim
      (λ blank. blank-stands size words (rw (le-leb 32768 size enough, le-leb size 4194304 most) refl, blank))
      (λ formatted. formatted_stands formatted)
      either

  pub formatted_well : IsFormatted size words → IsWellFormed size words
  formatted_well formatted = ((formatted_opens formatted).used, empty_graph, formatted_stands formatted)
