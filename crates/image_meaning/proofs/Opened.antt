-- Images that open.
use Rattle.std.proofs.Common.{◌≡◌, ℕ, ◌<◌, List, refl, ◌∙◌, arith}
use Rattle.std.proofs.lemmas.Bool.{ne_eqb, eq-eqb, le-leb}
use Rattle.graph_model.specs.declared.types.Heap.{Heap}
use Rattle.graph_model.specs.Canon.{canon_of}
use Rattle.image_layout.specs.Places.{root_slots, slot_line, slot_word, object_line, object_word}
use Rattle.image_meaning.specs.Checks.{Words}
use Rattle.image_meaning.specs.Directories.{Directory, no_entries, with_all, AreEntries, Spells}
use Rattle.image_meaning.specs.Entries.{DirectoryEntry}
use Rattle.image_meaning.specs.Logs.{put_back, SameLogs, NoneLogged}
use Rattle.image_meaning.specs.Meaning.{root_word, meaning, StandsFor}
use Rattle.image_meaning.specs.Corresponds.{LiesAt, Corresponds, SameWords}
use Rattle.image_meaning.specs.Laws.{Opens, SameFront}
use Rattle.image_meaning.specs.Arrays.{IsInUse}
use Rattle.image_meaning.proofs.Directories.{directory-again, directory-same}
use Rattle.image_meaning.proofs.Logs.{logs_fault-none, put_back-none, not_log_before, not_log_after, logs_fault-same}
use Rattle.image_meaning.proofs.Logs.{put_back-same}
use Rattle.image_meaning.proofs.Changes.{corresponds-same}
use Rattle.image_meaning.proofs.Stands.{graph_from-corresponds}

-- where the words that were put back correspond to a heap, the image stands for the heap's graph
pub stands : (R : LiesAt) (size : ℕ) (words : Words) (directory : Directory) (heap : Heap) → Opens size words directory
    → Corresponds R directory size (put_back words) heap → StandsFor size words (canon_of heap)
unfolding meaning
stands R size words directory heap opens same =
    rw (opens.super, ne_eqb (words 0 0) 0 opens.used, opens.entries, opens.logs)
    (graph_from-corresponds R directory size (put_back words) heap same)

-- ---- root slots and objects lie outside the logs

root_outside : (words : Words) → NoneLogged words → (r : ℕ) → r < root_slots → root_word (put_back words) r ≡ root_word words r
root_outside words none r h = put_back-none words none (slot_line r) (slot_word r) (not_log_before (slot_line r) (omega (arith, h)))

-- where no entry counts, nothing is put back
pub put_back-same_words : (R : LiesAt) (directory : Directory) (size : ℕ) (words : Words) (heap : Heap) → NoneLogged words
    → Corresponds R directory size words heap → Corresponds R directory size (put_back words) heap
put_back-same_words R directory size words heap none same =
    corresponds-same R directory size words (put_back words) heap same record {
      heads = λ line n r. put_back-none words none line 0 (not_log_after line (same.objects line n r).low);
      slots = λ line n r i h kept.
          let low = (same.objects line n r).low in
          put_back-none words none (object_line line i) (object_word i) (not_log_after (object_line line i) (omega (arith, low)));
      at_roots = λ r h. root_outside words none r h;
    }

-- words that say the same where it counts are put back to words that do
pub put_back-agrees : (R : LiesAt) (directory : Directory) (size : ℕ) (c d : Words) (heap : Heap) → SameLogs c d
    → Corresponds R directory size (put_back c) heap → SameWords R heap c d → SameWords R heap (put_back c) (put_back d)
put_back-agrees R directory size c d heap logs k same = record {
  heads = λ line n r. put_back-same c d logs line 0 (same.heads line n r);
  slots = λ line n r i h kept. put_back-same c d logs (object_line line i) (object_word i) (same.slots line n r i h kept);
  at_roots = λ r h. put_back-same c d logs (slot_line r) (slot_word r) (same.at_roots r h);
}

pub opens-same : (size : ℕ) (c d : Words) (directory : Directory) → Opens size c directory → SameFront c d → SameLogs c d
    → Opens size d directory
opens-same size c d directory opens front logs = record {
  super = rw (front.super 0 (omega arith), front.super 1 (omega arith), front.super 2 (omega arith), front.super 3 (omega arith)) opens.super;
  used = rw (front.super 0 (omega arith)) opens.used;
  entries = directory-same c d (front.super 3 (omega arith)) front.directory ∙ opens.entries;
  logs = logs_fault-same c d logs size ∙ opens.logs;
}

pub stands-same : (R : LiesAt) (size : ℕ) (c d : Words) (directory : Directory) (heap : Heap) → Opens size c directory
    → Corresponds R directory size (put_back c) heap → SameFront c d → SameLogs c d → SameWords R heap c d
    → StandsFor size d (canon_of heap)
stands-same R size c d directory heap opens k front logs same =
    stands R size d directory heap (opens-same size c d directory opens front logs)
    (corresponds-same R directory size (put_back c) (put_back d) heap k (put_back-agrees R directory size c d heap logs k same))

-- an image in use without counted entries
pub opens-in_use : (size : ℕ) (words : Words) (entries : List DirectoryEntry) → IsInUse size words → AreEntries no_entries entries
    → Spells words entries → Opens size words (with_all no_entries entries)
opens-in_use size words entries is are spells = record {
  super = rw (le-leb 32768 size is.enough, le-leb size 4194304 is.most, is.magic, is.version, is.lines, eq-eqb size size refl, le-leb (words 0 3) 32768 is.directory) refl;
  used = λ e. absurd (omega (arith, e, is.magic));
  entries = directory-again words entries are spells;
  logs = logs_fault-none size words is.logs;
}
