-- What was found in an image that was opened is what is printed of it.
use Rattle.std.proofs.Common.{◌≡◌, ◌≢◌, ℕ, List, length, sym, ◌∙◌, subst}
use Rattle.graph_model.specs.declared.types.Graph.{Graph}
use Rattle.line_image.specs.Told.{Told}
use Rattle.line_memory.specs.Memory.{Memory, shown}
use Rattle.image_layout.specs.Places.{version}
use Rattle.image_meaning.specs.Checks.{Words}
use Rattle.image_meaning.specs.Directories.{Directory}
use Rattle.image_meaning.specs.Laws.{Opens}
use Rattle.image_meaning.specs.Meaning.{StandsFor}
use Rattle.image_meaning.proofs.Standing.{version-within}
use Rattle.directories.specs.Kept.{Kept}
use Rattle.image_recovery.specs.Recovered.{entries_in}
use Rattle.image_opening.specs.Attached.{IsSettled}
use Rattle.image_opening.specs.Opened.{IsOpenImage}
use Rattle.image_opening.specs.Stops.{KeepsItsGraph}
use Rattle.image_report.specs.Texts.{check_line, dump_lines}
use Rattle.image_report.specs.Reports.{IsChecked, IsDumped, IsLeftOpen, IsNumbered}

pub left_open : (start left : Told) (before m : Memory) (version_now : ℕ) (directory : Kept) (graph : Graph) (lines : List ℕ)
    (free undone : ℕ) → IsOpenImage start before m version_now directory graph lines free undone → left ≡ m.image → IsLeftOpen start left
left_open start left before m version_now directory graph lines free undone opened told = record {
  before = before;
  memory = m;
  version_now = version_now;
  directory = directory;
  graph = graph;
  lines = lines;
  free = free;
  undone = undone;
  opened = opened;
  told = told;
}

module _ (start : Told) (before m : Memory) (version_now : ℕ) (directory : Kept) (graph : Graph) (lines : List ℕ)
    (free undone : ℕ) (is : IsOpenImage start before m version_now directory graph lines free undone) where
  -- the superblock of an image that opens has the one version that there is
  of_version : (size : ℕ) (words : Words) (entries : Directory) → Opens size words entries → words 0 1 ≡ version
  of_version size words entries opens = version-within size (words 0) opens.used opens.super

  numbered : IsNumbered before.size (shown before) version_now free undone
  numbered = record {
    blank = λ zero. (
      is.found.version_is ∙ of_version m.size (shown m) (entries_in directory) is.opens,
      (is.found.blank zero).free_is,
      (is.found.blank zero).undone_is,
    );
    used = λ not_zero. (
      is.found.version_is ∙ of_version m.size (shown m) (entries_in directory) is.opens
          ∙ sym (of_version before.size (shown before) (entries_in directory) (is.found.used not_zero).finds.opens),
      (is.found.used not_zero).undone_is,
    );
    behind = λ not_zero. (entries_in directory, lines, (is.found.used not_zero).finds, (is.found.used not_zero).free_is);
  }

  stands : StandsFor start.size (shown before) graph
  stands = subst (λ (n : ℕ). StandsFor n (shown before) graph) is.attached.size is.stands

  pub is_dumped : (text : List ℕ) → text ≡ dump_lines graph → IsDumped start.size (shown before) text
  is_dumped text is_text = (graph, stands, is_text)

  pub is_checked : (text : List ℕ)
      → text ≡ check_line version_now m.size free (length graph.roots) (length graph.nodes) undone
      → IsChecked start.size (shown before) text
  is_checked text is_text = record {
    graph = graph;
    stands = stands;
    version_now = version_now;
    free = free;
    undone = undone;
    numbers = subst (λ (n : ℕ). IsNumbered n (shown before) version_now free undone) is.attached.size numbered;
    text_is = subst (λ (n : ℕ). text ≡ check_line version_now n free (length graph.roots) (length graph.nodes) undone)
        (is.goes_on.size ∙ is.attached.size) is_text;
  }

-- the image that is given back is the one that was opened
pub still_kept : (start back kept : Told) → back ≡ kept → (IsSettled start → KeepsItsGraph start kept)
    → IsSettled start → KeepsItsGraph start back
still_kept start back kept told stops settled =
    subst (λ (t : Told). KeepsItsGraph start t) (sym told) (stops settled)
