-- What a stopped recovery leaves stands for the same graph.
use Rattle.std.proofs.Common.{◌≡◌, ◌≢◌, inl, inr, ℕ, ◌<◌, ◌≤◌, false, None, Ok, refl, ◌∙◌, arith}
use Rattle.std.proofs.lemmas.Bool.{ne_eqb, lt-leb, le-ltb, le-leb}
use Rattle.graph_model.specs.declared.types.Graph.{Graph}
use Rattle.image_layout.specs.Places.{logs, slot_line, root_slots, first_object_line, directory_line, directory_word}
use Rattle.image_layout.specs.Places.{directory_words}
use Rattle.image_meaning.specs.Checks.{Words}
use Rattle.image_meaning.specs.Directories.{Directory}
use Rattle.image_meaning.specs.Logs.{log_fault, logs_fault, may_be_logged, put_back}
use Rattle.image_meaning.specs.Meaning.{graph_from, meaning, StandsFor}
use Rattle.image_meaning.specs.Laws.{Opens}
use Rattle.image_meaning.specs.Recovering.{IsRecovering}
use Rattle.image_meaning.proofs.Faults.{first_fault-passes}
use Rattle.image_meaning.proofs.Directories.{directory-same}
use Rattle.image_meaning.proofs.Logs.{not_log_before}
use Rattle.image_meaning.proofs.Recovering.{put_back-again, logs_still, line_still, recovering-on}
use Rattle.image_meaning.proofs.Standing.{opens-standing, use-within}

pub logs_pass : (size : ℕ) (words : Words) → logs_fault size words ≡ None → (t : ℕ) → t < logs → log_fault size words t ≡ None
unfolding logs_fault
logs_pass size words h t below = first_fault-passes (log_fault size words) logs h t below

directory_unlogged : (size i : ℕ) → i < directory_words → may_be_logged size (directory_line i) ≡ false
directory_unlogged size i h =
    rw (
      le-ltb (directory_line i) (slot_line root_slots) (omega arith),
      lt-leb first_object_line (directory_line i) (omega (arith, h)),
      le-leb (slot_line 0) (directory_line i) (omega arith),
    ) refl

module _ (size : ℕ) (c d : Words) (directory : Directory) (opens : Opens size c directory) (r : IsRecovering c d) where
  front_still : (word : ℕ) → d 0 word ≡ c 0 word
  front_still word = line_still size c (logs_pass size c opens.logs) d r 0 word refl refl

  directory_still : (i : ℕ) → i < c 0 3 → d (directory_line i) (directory_word i) ≡ c (directory_line i) (directory_word i)
  directory_still i h =
      let most : c 0 3 ≤ directory_words = use-within size (c 0) opens.used opens.super in
      line_still size c (logs_pass size c opens.logs) d r (directory_line i) (directory_word i)
      (not_log_before (directory_line i) (omega (arith, h, most))) (directory_unlogged size i (omega (arith, h, most)))

  pub opens-still : Opens size d directory
  opens-still = record {
    super = rw (front_still 0, front_still 1, front_still 2, front_still 3) opens.super;
    used = rw (front_still 0) opens.used;
    entries = directory-same c d (front_still 3) directory_still ∙ opens.entries;
    logs = logs_still size c (logs_pass size c opens.logs) d (λ t h. elim (r.each t h) [ inl u ↦ inl u | inr u ↦ inr u.empty ]);
  }

  pub stands-still : (graph : Graph) → graph_from size directory (put_back c) ≡ Ok graph → StandsFor size d graph
  unfolding meaning
  stands-still graph found =
      let still = opens-still in
      let same : put_back d ≡ put_back c = put_back-again size c (logs_pass size c opens.logs) d r in
      rw (still.super, ne_eqb (d 0 0) 0 still.used, still.entries, still.logs, same) found

pub stopped-stands : (size : ℕ) (c d : Words) (graph : Graph) → c 0 0 ≢ 0 → StandsFor size c graph → IsRecovering c d
    → StandsFor size d graph
stopped-stands size c d graph used stands r =
    let o = opens-standing size c graph used stands in stands-still size c d o.0 o.1 r graph o.2

pub stopped-again : (size : ℕ) (c d e : Words) (graph : Graph) → c 0 0 ≢ 0 → StandsFor size c graph
    → IsRecovering c d → IsRecovering d e → IsRecovering c e
stopped-again size c d e graph used stands first second =
    let o = opens-standing size c graph used stands in
    recovering-on size c (logs_pass size c o.1.logs) d e first second
