-- Words and what they ask for, as rows. A row's words are written in one text, with a blank between two of them.
use Rattle.std.specs.Prelude.{◌≡◌, ◌==◌, ℕ, List, [], ◌∷◌, codes, Some, None, ⊤, if◌then◌else◌}
use Rattle.clap.specs.Words.{Text}
use Rattle.command_words.specs.Commands.{command_of}
use Rattle.command_words.specs.declared.command.Command.{Command}
use Rattle.command_words.specs.declared.command.Command.TheVariants.{Run, Make, Check, Dump, Asm, Compact, Audit}

-- a byte before the first of some words
abbrev pub before : ℕ → List Text → List Text
before byte [] = (byte ∷ []) ∷ []
before byte (word ∷ words) = (byte ∷ word) ∷ words

-- the words between blanks
unfoldable pub between : List ℕ → List Text
between [] = [] ∷ []
between (byte ∷ bytes) = if byte == 32 then [] ∷ between bytes else before byte (between bytes)

-- the program's name and the words of a text
abbrev pub words_of : List ℕ → List Text
words_of text = codes "autopersist" ∷ between text

-- of each row
unfoldable pub Each : {A : Type 0} → (A → Type 0) → List A → Type 0
Each holds [] = ⊤
Each holds (row ∷ rows) = holds row × Each holds rows

abbrev pub AsksFor : List ℕ × Command → Type 0
AsksFor row = command_of (words_of row.0) ≡ Some row.1

abbrev pub AsksNothing : List ℕ → Type 0
AsksNothing text = command_of (words_of text) ≡ None

-- `run`'s words with some image, class and folder, and the numbers that stand where none is given
abbrev pub run_with : List ℕ → List ℕ → List ℕ → Command
run_with image main folder = Run (record {
  image = image;
  main = main;
  folder = folder;
  mirror = None;
  history = None;
  workers = 4;
  lines = 262144;
  limits = record { heap_words = 8388608; acts = 1048576 };
})

-- of image F, class C and folder DIR
abbrev pub run_at : ℕ → ℕ → ℕ → ℕ → Command
run_at workers lines heap acts = Run (record {
  image = codes "F";
  main = codes "C";
  folder = codes "DIR";
  mirror = None;
  history = None;
  workers = workers;
  lines = lines;
  limits = record { heap_words = heap; acts = acts };
})

abbrev pub in_any_order : List (List ℕ × Command)
in_any_order =
    (codes "run --image F --main C DIR", run_with (codes "F") (codes "C") (codes "DIR"))
    ∷ (codes "run --main=C DIR --image=F", run_with (codes "F") (codes "C") (codes "DIR"))
    ∷ (codes "run DIR --image F --main C", run_with (codes "F") (codes "C") (codes "DIR"))
    ∷ (codes "run --image F --main C -- DIR", run_with (codes "F") (codes "C") (codes "DIR"))
    ∷ (codes "run --image F --main C -- -dir", run_with (codes "F") (codes "C") (codes "-dir"))
    ∷ []

abbrev pub with_numbers : List (List ℕ × Command)
with_numbers =
    (codes "run --image F --main C DIR --workers 64 --size 32768", run_at 64 32768 8388608 1048576)
    ∷ (codes "run --image F --main C DIR --workers 000000000001", run_at 1 262144 8388608 1048576)
    ∷ (codes "run --image F --main C DIR --heap 134217728 --acts 16777216", run_at 4 262144 134217728 16777216)
    ∷ (codes "run --heap=1024 --image F --main C --acts=1 DIR", run_at 4 262144 1024 1)
    ∷ []

abbrev pub with_odd_values : List (List ℕ × Command)
with_odd_values =
    (codes "run --image=-x --main C DIR", run_with (codes "-x") (codes "C") (codes "DIR"))
    ∷ (codes "run --image - --main C DIR", run_with (codes "-") (codes "C") (codes "DIR"))
    ∷ (codes "run --image= --main C DIR", run_with [] (codes "C") (codes "DIR"))
    ∷ (codes "run --image  --main C DIR", run_with [] (codes "C") (codes "DIR"))
    ∷ (codes "run --image F --main= DIR", run_with (codes "F") [] (codes "DIR"))
    ∷ (codes "run --image F --main a.B ", run_with (codes "F") (codes "a.B") [])
    ∷ []

abbrev pub of_others : List (List ℕ × Command)
of_others =
    (codes "check F", Check (record { image = codes "F"; mirror = None }))
    ∷ (codes "dump F", Dump (record { image = codes "F"; mirror = None }))
    ∷ (codes "dump -- -f", Dump (record { image = codes "-f"; mirror = None }))
    ∷ (codes "asm --class A a.lst", Asm (record { class = codes "A"; listing = codes "a.lst" }))
    ∷ (codes "asm a.lst --class=A", Asm (record { class = codes "A"; listing = codes "a.lst" }))
    ∷ (codes "make --image F 50", Make (record { image = codes "F"; count = 50; workers = 4; lines = 262144; mirror = None }))
    ∷ (
      codes "make 05000 --image F --size 4194304 --workers 1",
      Make (record { image = codes "F"; count = 5000; workers = 1; lines = 4194304; mirror = None }),
    )
    ∷ []

abbrev pub with_files : List (List ℕ × Command)
with_files = (
  codes "run --image F --main C DIR --mirror G --history H",
  Run (record {
    image = codes "F";
    main = codes "C";
    folder = codes "DIR";
    mirror = Some (codes "G");
    history = Some (codes "H");
    workers = 4;
    lines = 262144;
    limits = record { heap_words = 8388608; acts = 1048576 };
  }),
)
    ∷ (codes "check F --mirror G", Check (record { image = codes "F"; mirror = Some (codes "G") }))
    ∷ (codes "dump --mirror=G F", Dump (record { image = codes "F"; mirror = Some (codes "G") }))
    ∷ (
      codes "make --image F --mirror G 50",
      Make (record { image = codes "F"; count = 50; workers = 4; lines = 262144; mirror = Some (codes "G") }),
    )
    ∷ (codes "compact F G", Compact (record { old = codes "F"; new = codes "G"; lines = 262144 }))
    ∷ (codes "compact F --size 32768 G", Compact (record { old = codes "F"; new = codes "G"; lines = 32768 }))
    ∷ (
      codes "audit --before B --after F --history H --output O --main C DIR",
      Audit (record {
        before = codes "B";
        after = codes "F";
        history = codes "H";
        output = codes "O";
        main = codes "C";
        folder = codes "DIR";
      }),
    )
    ∷ []

abbrev pub wrong_files : List (List ℕ)
wrong_files =
    codes "compact F"
    ∷ codes "compact F G H"
    ∷ codes "compact F G --size 32767"
    ∷ codes "compact F G --mirror M"
    ∷ codes "audit --before B --after F --history H --main C DIR"
    ∷ codes "audit --before B --after F --history H --output O --main C"
    ∷ codes "make --image F --history H 50"
    ∷ codes "check F --history H"
    ∷ codes "asm --class A a.lst --mirror M"
    ∷ codes "run --image F --main C DIR --mirror G --mirror H"
    ∷ []

abbrev pub wrong_for_run : List (List ℕ)
wrong_for_run =
    codes "run --image F DIR"
    ∷ codes "run --image F --main C"
    ∷ codes "run --image F --image G --main C DIR"
    ∷ codes "run --image=F --image G --main C DIR"
    ∷ codes "run --image F --main C DIR E"
    ∷ codes "run --image F --main C DIR --lines 512"
    ∷ codes "run --imag F --main C DIR"
    ∷ codes "run --IMAGE F --main C DIR"
    ∷ codes "run -i F --main C DIR"
    ∷ []

abbrev pub wrong_for_others : List (List ℕ)
wrong_for_others =
    codes "make --image F 50 --heap 1024"
    ∷ codes "check F --size 40000"
    ∷ codes "dump F --size 40000"
    ∷ codes "asm a.lst"
    ∷ codes "check"
    ∷ codes "check F G"
    ∷ []

abbrev pub out_of_range : List (List ℕ)
out_of_range =
    codes "run --image F --main C DIR --workers 0"
    ∷ codes "run --image F --main C DIR --workers 65"
    ∷ codes "run --image F --main C DIR --size 32767"
    ∷ codes "run --image F --main C DIR --size 4194305"
    ∷ codes "run --image F --main C DIR --heap 1023"
    ∷ codes "run --image F --main C DIR --heap 134217729"
    ∷ codes "run --image F --main C DIR --acts 0"
    ∷ codes "run --image F --main C DIR --acts 16777217"
    ∷ codes "make --image F 0"
    ∷ codes "make --image F 5001"
    ∷ []

abbrev pub no_numbers : List (List ℕ)
no_numbers =
    codes "run --image F --main C DIR --workers=+4"
    ∷ codes "run --image F --main C DIR --workers=-4"
    ∷ codes "run --image F --main C DIR --workers 0x4"
    ∷ codes "run --image F --main C DIR --workers 4_0"
    ∷ codes "run --image F --main C DIR --workers="
    ∷ codes "run --image F --main C DIR --workers 0000000000004"
    ∷ []

abbrev pub wrong_values : List (List ℕ)
wrong_values =
    codes "run --image --main C DIR"
    ∷ codes "run --image -x --main C DIR"
    ∷ codes "run --image F --main C DIR --workers -4"
    ∷ codes "run -- DIR --image F --main C"
    ∷ codes "-- run --image F --main C DIR"
    ∷ codes "--image F run --main C DIR"
    ∷ []

abbrev pub no_commands : List (List ℕ)
no_commands =
    codes "help"
    ∷ codes "help run"
    ∷ codes "--help"
    ∷ codes "-h"
    ∷ codes "run --help"
    ∷ codes "run --image F --main C DIR -h"
    ∷ codes "--version"
    ∷ codes "-V"
    ∷ codes "frob"
    ∷ codes "Run --image F --main C DIR"
    ∷ codes ""
    ∷ []
