-- The command as `clap` has it: which subcommands, options and positional words there are.
use Rattle.std.specs.Prelude.{true, codes, Some}
use Rattle.clap.specs.Words.{App, Rule, Text, new_app, new_rule, with_rule, with_subcommand}

-- `--name VALUE`, at most once
abbrev pub option : Text → Rule
option name = record (new_rule name) { long = Some name }

abbrev pub required : Rule → Rule
required rule = record rule { required = true }

-- a word of its own
abbrev pub word : Text → Rule
word name = required (new_rule name)

abbrev pub run_on_image : App
run_on_image = with_rule (with_rule (with_rule (with_rule (new_app (codes "run"))
    (required (option (codes "image")))) (required (option (codes "main")))) (option (codes "workers")))
    (option (codes "size"))

abbrev pub with_limits : App → App
with_limits a = with_rule (with_rule (with_rule a (option (codes "heap"))) (option (codes "acts"))) (word (codes "DIR"))

abbrev pub with_files : App → App
with_files a = with_rule (with_rule a (option (codes "mirror"))) (option (codes "history"))

abbrev pub run : App
run = with_files (with_limits run_on_image)

abbrev pub check : App
check = with_rule (with_rule (new_app (codes "check")) (option (codes "mirror"))) (word (codes "FILE"))

abbrev pub dump : App
dump = with_rule (with_rule (new_app (codes "dump")) (option (codes "mirror"))) (word (codes "FILE"))

abbrev pub asm : App
asm = with_rule (with_rule (new_app (codes "asm")) (required (option (codes "class")))) (word (codes "FILE"))

abbrev pub plain_make : App
plain_make = with_rule (with_rule (with_rule (with_rule (new_app (codes "make")) (required (option (codes "image"))))
    (option (codes "workers"))) (option (codes "size"))) (word (codes "COUNT"))

abbrev pub make : App
make = with_rule plain_make (option (codes "mirror"))

abbrev pub compact : App
compact = with_rule (with_rule (with_rule (new_app (codes "compact")) (word (codes "OLD"))) (word (codes "NEW")))
    (option (codes "size"))

abbrev pub audit_of_images : App
audit_of_images = with_rule (with_rule (new_app (codes "audit")) (required (option (codes "before"))))
    (required (option (codes "after")))

abbrev pub with_records : App → App
with_records a = with_rule (with_rule a (required (option (codes "history")))) (required (option (codes "output")))

abbrev pub audit : App
audit = with_rule (with_rule (with_records audit_of_images) (required (option (codes "main")))) (word (codes "DIR"))

abbrev pub needs_subcommand : App → App
needs_subcommand a = record a { top = record a.top { subcommand_required = true } }

abbrev pub with_runs : App
with_runs = with_subcommand (with_subcommand (needs_subcommand (new_app (codes "autopersist"))) run.top) check.top

abbrev pub with_readers : App
with_readers = with_subcommand (with_subcommand with_runs dump.top) asm.top

abbrev pub with_makers : App
with_makers = with_subcommand (with_subcommand with_readers make.top) compact.top

abbrev pub autopersist : App
autopersist = with_subcommand with_makers audit.top
