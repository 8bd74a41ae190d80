-- The numbers of a command are in their ranges.
use Rattle.std.proofs.Common.{◌≡◌, ◌≤◌, ◌&&◌, ℕ, Bool, true, false, List, [], ◌∷◌, Option, Some, None, codes, refl}
use Rattle.std.proofs.Common.{subst, arith, rules, nat_le, if◌then◌else◌}
use Rattle.std.specs.Str.{bytes_eq}
use Rattle.clap.specs.Words.{Kinds, Row, Text, first_of, fault_of, subcommand_of}
use Rattle.command_words.specs.Asked.{IsIn, IsInRange, RunsInRange}
use Rattle.command_words.specs.Clap.{autopersist}
use Rattle.command_words.specs.Commands.{◌>>=◌, asked_in, asm_of, audit_of, check_of, command_of, compact_of, dump_of, limits_of, lines_of}
use Rattle.command_words.specs.Commands.{make_of, plain_run_of, run_of, unless_refused, workers_of}
use Rattle.command_words.specs.Numbers.{acts_range, heap_range, kept_in, lines_range, most_nodes, number_in, number_of}
use Rattle.command_words.specs.Numbers.{number_or, workers_range}
use Rattle.run_types.specs.declared.limits.Limits.{Limits}
use Rattle.command_words.specs.declared.command.Command.{Command}
use Rattle.command_words.specs.declared.command.Run.{Run as RunWords}
use Rattle.command_words.specs.declared.numbers.Range.{Range}

-- what is behind a step that gives something
some_of : {A B : Type 0} (found : Option A) (next : A → Option B) (b : B) → (found >>= next) ≡ Some b
    → (a : A) × (found ≡ Some a) × (next a ≡ Some b)
some_of (Some a) next b e = (a, refl, e)
some_of None next b e = absurd cc

inside : {A : Type 0} {a b : A} → Some a ≡ Some b → a ≡ b
inside e = cc

tested : (least most number n : ℕ) (low high : Bool) → nat_le least number ≡ low → nat_le number most ≡ high
    → (if low && high then Some number else None) ≡ Some n → (least ≤ n) × (n ≤ most)
tested least most number n true true l h e = search (rules, arith)
tested least most number n true false l h e = absurd cc
tested least most number n false high l h e = absurd cc

kept : (least most : ℕ) (found : Option ℕ) (n : ℕ) → kept_in least most found ≡ Some n → (least ≤ n) × (n ≤ most)
kept least most None n e = absurd cc
kept least most (Some number) n e = tested least most number n (nat_le least number) (nat_le number most) refl refl e

given : (range : Range) (text : Option (List ℕ)) (n : ℕ) → range.least ≤ range.default → range.default ≤ range.most
    → number_or range text ≡ Some n → IsIn range n
given range None n least most e =
    let same : range.default ≡ n = cc in
    (subst (λ m. range.least ≤ m) same least, subst (λ m. m ≤ range.most) same most)
given range (Some text) n least most e = kept range.least range.most (number_of text) n e

workers_hold : (rows : List Row) (n : ℕ) → workers_of rows ≡ Some n → IsIn workers_range n
workers_hold rows n e = given workers_range (first_of (codes "workers") rows) n (omega arith) (omega arith) e

lines_hold : (rows : List Row) (n : ℕ) → lines_of rows ≡ Some n → IsIn lines_range n
lines_hold rows n e = given lines_range (first_of (codes "size") rows) n (omega arith) (omega arith) e

limits_hold : (rows : List Row) (l : Limits) → limits_of rows ≡ Some l → IsIn heap_range l.heap_words × IsIn acts_range l.acts
limits_hold rows l e =
    let heap = some_of (number_or heap_range (first_of (codes "heap") rows)) _ l e in
    let acts = some_of (number_or acts_range (first_of (codes "acts") rows)) _ l heap.2 in
    let in_heap = given heap_range (first_of (codes "heap") rows) heap.0 (omega arith) (omega arith) heap.1 in
    let in_acts = given acts_range (first_of (codes "acts") rows) acts.0 (omega arith) (omega arith) acts.1 in (
      subst (λ (l : Limits). IsIn heap_range l.heap_words) (inside acts.2) in_heap,
      subst (λ (l : Limits). IsIn acts_range l.acts) (inside acts.2) in_acts,
    )

plain_run_holds : (rows : List Row) (r : RunWords) → plain_run_of rows ≡ Some r → RunsInRange r
plain_run_holds rows r e =
    let image = some_of (first_of (codes "image") rows) _ r e in
    let main = some_of (first_of (codes "main") rows) _ r image.2 in
    let folder = some_of (first_of (codes "DIR") rows) _ r main.2 in
    let workers = some_of (workers_of rows) _ r folder.2 in
    let lines = some_of (lines_of rows) _ r workers.2 in
    let limits = some_of (limits_of rows) _ r lines.2 in
    let within = limits_hold rows limits.0 limits.1 in
    subst RunsInRange (inside limits.2) (record {
      workers = workers_hold rows workers.0 workers.1;
      lines = lines_hold rows lines.0 lines.1;
      heap = within.0;
      acts = within.1;
    })

run_holds : (rows : List Row) (c : Command) → run_of rows ≡ Some c → IsInRange c
run_holds rows c e =
    let run = some_of (plain_run_of rows) _ c e in
    let held = plain_run_holds rows run.0 run.1 in
    subst IsInRange (inside run.2) (record {
      workers = held.workers;
      lines = held.lines;
      heap = held.heap;
      acts = held.acts;
    })

make_holds : (rows : List Row) (c : Command) → make_of rows ≡ Some c → IsInRange c
make_holds rows c e =
    let image = some_of (first_of (codes "image") rows) _ c e in
    let text = some_of (first_of (codes "COUNT") rows) _ c image.2 in
    let count = some_of (number_in 1 most_nodes text.0) _ c text.2 in
    let workers = some_of (workers_of rows) _ c count.2 in
    let lines = some_of (lines_of rows) _ c workers.2 in
    subst IsInRange (inside lines.2) (record {
      count = kept 1 most_nodes (number_of text.0) count.0 count.1;
      workers = workers_hold rows workers.0 workers.1;
      lines = lines_hold rows lines.0 lines.1;
    })

check_holds : (rows : List Row) (c : Command) → check_of rows ≡ Some c → IsInRange c
check_holds rows c e =
    let image = some_of (first_of (codes "FILE") rows) _ c e in
    subst IsInRange (inside image.2) tt

dump_holds : (rows : List Row) (c : Command) → dump_of rows ≡ Some c → IsInRange c
dump_holds rows c e =
    let image = some_of (first_of (codes "FILE") rows) _ c e in
    subst IsInRange (inside image.2) tt

asm_holds : (rows : List Row) (c : Command) → asm_of rows ≡ Some c → IsInRange c
asm_holds rows c e =
    let class = some_of (first_of (codes "class") rows) _ c e in
    let listing = some_of (first_of (codes "FILE") rows) _ c class.2 in
    subst IsInRange (inside listing.2) tt

compact_holds : (rows : List Row) (c : Command) → compact_of rows ≡ Some c → IsInRange c
compact_holds rows c e =
    let old = some_of (first_of (codes "OLD") rows) _ c e in
    let new = some_of (first_of (codes "NEW") rows) _ c old.2 in
    let lines = some_of (lines_of rows) _ c new.2 in
    subst IsInRange (inside lines.2) (lines_hold rows lines.0 lines.1)

audit_holds : (rows : List Row) (c : Command) → audit_of rows ≡ Some c → IsInRange c
audit_holds rows c e =
    let before = some_of (first_of (codes "before") rows) _ c e in
    let after = some_of (first_of (codes "after") rows) _ c before.2 in
    let history = some_of (first_of (codes "history") rows) _ c after.2 in
    let output = some_of (first_of (codes "output") rows) _ c history.2 in
    let main = some_of (first_of (codes "main") rows) _ c output.2 in
    let folder = some_of (first_of (codes "DIR") rows) _ c main.2 in
    subst IsInRange (inside folder.2) tt

one_holds : (run check dump asm make compact audit : Bool) (rows : List Row) (c : Command)
    → (if run then run_of rows else (if check then check_of rows else (if dump then dump_of rows
    else (if asm then asm_of rows else (if make then make_of rows else (if compact then compact_of rows
    else (if audit then audit_of rows else None))))))) ≡ Some c → IsInRange c
one_holds true check dump asm make compact audit rows c e = run_holds rows c e
one_holds false true dump asm make compact audit rows c e = check_holds rows c e
one_holds false false true asm make compact audit rows c e = dump_holds rows c e
one_holds false false false true make compact audit rows c e = asm_holds rows c e
one_holds false false false false true compact audit rows c e = make_holds rows c e
one_holds false false false false false true audit rows c e = compact_holds rows c e
one_holds false false false false false false true rows c e = audit_holds rows c e
one_holds false false false false false false false rows c e = absurd cc

asked_holds : (met : Option (Text × List Row)) (c : Command) → asked_in met ≡ Some c → IsInRange c
asked_holds None c e = absurd cc
asked_holds (Some met) c e =
    one_holds (bytes_eq met.0 (codes "run")) (bytes_eq met.0 (codes "check")) (bytes_eq met.0 (codes "dump"))
    (bytes_eq met.0 (codes "asm")) (bytes_eq met.0 (codes "make"))
    (bytes_eq met.0 (codes "compact")) (bytes_eq met.0 (codes "audit")) met.1 c e

taken_holds : (kinds : Kinds) (met : Option (Text × List Row)) (c : Command) → unless_refused kinds (asked_in met) ≡ Some c
    → IsInRange c
taken_holds [] met c e = asked_holds met c e
taken_holds (kind ∷ kinds) met c e = absurd cc

pub ranges_hold : (words : List Text) (c : Command) → command_of words ≡ Some c → IsInRange c
ranges_hold words c e = taken_holds (fault_of autopersist words) (subcommand_of autopersist words) c e
