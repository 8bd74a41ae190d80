-- Which command words ask for.
use Rattle.std.specs.Prelude.{ℕ, List, [], ◌∷◌, map, codes, String, Option, Some, None, if◌then◌else◌}
use Rattle.std.specs.Str.{bytes_eq}
use Rattle.std.specs.String.{string_bytes}
use Rattle.clap.specs.Words.{Row, Text, first_of, subcommand_of, fault_of, Kinds}
use Rattle.run_types.specs.declared.limits.Limits.{Limits}
use Rattle.command_words.specs.Clap.{autopersist}
use Rattle.command_words.specs.Numbers.{number_in, number_or, workers_range, lines_range, heap_range, acts_range, most_nodes}
use Rattle.command_words.specs.declared.command.Command.{Command}
use Rattle.command_words.specs.declared.command.Run.{Run as RunWords}
use Rattle.command_words.specs.declared.command.Command.TheVariants.{Run, Make, Check, Dump, Asm, Compact, Audit}

-- the words' bytes
abbrev pub texts : {A : Type 0} → List (String A) → List Text
texts words = map string_bytes words

infixl 10 ◌>>=◌
abbrev pub ◌>>=◌ : {A B : Type 0} → Option A → (A → Option B) → Option B
(Some x) >>= f = f x
None >>= f = None

abbrev pub workers_of : List Row → Option ℕ
workers_of rows = number_or workers_range (first_of (codes "workers") rows)

abbrev pub lines_of : List Row → Option ℕ
lines_of rows = number_or lines_range (first_of (codes "size") rows)

abbrev pub limits_of : List Row → Option Limits
limits_of rows = do
  heap ← number_or heap_range (first_of (codes "heap") rows)
  acts ← number_or acts_range (first_of (codes "acts") rows)
  Some (record { heap_words = heap; acts = acts })

-- without the files that need not be given
abbrev pub plain_run_of : List Row → Option RunWords
plain_run_of rows = do
  image ← first_of (codes "image") rows
  main ← first_of (codes "main") rows
  folder ← first_of (codes "DIR") rows
  workers ← workers_of rows
  lines ← lines_of rows
  limits ← limits_of rows
  Some (record {
    image = image;
    main = main;
    folder = folder;
    workers = workers;
    lines = lines;
    limits = limits;
    mirror = None;
    history = None;
  })

abbrev pub run_of : List Row → Option Command
run_of rows = do
  run ← plain_run_of rows
  Some (Run (record run { mirror = first_of (codes "mirror") rows; history = first_of (codes "history") rows }))

abbrev pub make_of : List Row → Option Command
make_of rows = do
  image ← first_of (codes "image") rows
  text ← first_of (codes "COUNT") rows
  count ← number_in 1 most_nodes text
  workers ← workers_of rows
  lines ← lines_of rows
  Some (Make (record {
    image = image;
    count = count;
    workers = workers;
    lines = lines;
    mirror = first_of (codes "mirror") rows;
  }))

abbrev pub check_of : List Row → Option Command
check_of rows = do
  image ← first_of (codes "FILE") rows
  Some (Check (record { image = image; mirror = first_of (codes "mirror") rows }))

abbrev pub dump_of : List Row → Option Command
dump_of rows = do
  image ← first_of (codes "FILE") rows
  Some (Dump (record { image = image; mirror = first_of (codes "mirror") rows }))

abbrev pub asm_of : List Row → Option Command
asm_of rows = do
  class ← first_of (codes "class") rows
  listing ← first_of (codes "FILE") rows
  Some (Asm (record { class = class; listing = listing }))

abbrev pub compact_of : List Row → Option Command
compact_of rows = do
  old ← first_of (codes "OLD") rows
  new ← first_of (codes "NEW") rows
  lines ← lines_of rows
  Some (Compact (record { old = old; new = new; lines = lines }))

abbrev pub audit_of : List Row → Option Command
audit_of rows = do
  before ← first_of (codes "before") rows
  after ← first_of (codes "after") rows
  history ← first_of (codes "history") rows
  output ← first_of (codes "output") rows
  main ← first_of (codes "main") rows
  folder ← first_of (codes "DIR") rows
  Some (Audit (record { before = before; after = after; history = history; output = output; main = main; folder = folder }))

-- what a subcommand's values ask for
abbrev pub subcommand_asks : Text → List Row → Option Command
subcommand_asks name rows =
    if bytes_eq name (codes "run") then run_of rows
    else (if bytes_eq name (codes "check") then check_of rows
    else (if bytes_eq name (codes "dump") then dump_of rows
    else (if bytes_eq name (codes "asm") then asm_of rows
    else (if bytes_eq name (codes "make") then make_of rows
    else (if bytes_eq name (codes "compact") then compact_of rows
    else (if bytes_eq name (codes "audit") then audit_of rows else None))))))

abbrev pub asked_in : Option (Text × List Row) → Option Command
asked_in None = None
asked_in (Some subcommand) = subcommand_asks subcommand.0 subcommand.1

-- what is asked for where `clap` refuses nothing
abbrev pub unless_refused : Kinds → Option Command → Option Command
unless_refused [] asked = asked
unless_refused (kind ∷ kinds) asked = None

-- The command that the words ask for, the program's name first among them: none where `clap` refuses them, or a number
-- isn't of its form and range.
abbrev pub command_of : List Text → Option Command
command_of words = unless_refused (fault_of autopersist words) (asked_in (subcommand_of autopersist words))
