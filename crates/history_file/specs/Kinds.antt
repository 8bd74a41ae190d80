-- The kinds of acts: the code of each, and how many words an act of the kind may have.
use Rattle.std.specs.Prelude.{ℕ, ◌-◌, ◌^◌, ◌==◌, Bool, ◌&&◌, nat_le, Option, Some, None, if◌then◌else◌}
use Rattle.run_history.specs.declared.act.Op.{Op}
use Rattle.run_history.specs.declared.act.Op.TheVariants as op
use Rattle.history_file.specs.declared.kind.Kind.{Kind}
use Rattle.history_file.specs.declared.kind.Kind.TheVariants as kind

-- the code of each kind
abbrev pub code_of : Kind → ℕ
code_of kind.Pause = 1
code_of kind.Alloc = 2
code_of kind.Read = 3
code_of kind.Stored = 4
code_of kind.Length = 5
code_of kind.Class = 6
code_of kind.Same = 7
code_of kind.Enter = 8
code_of kind.Exit = 9
code_of kind.Start = 10
code_of kind.Join = 11
code_of kind.Init = 12
code_of kind.Print = 13
code_of kind.Throw = 14
code_of kind.Begin = 15
code_of kind.End = 16
code_of kind.Ended = 17
code_of kind.Asked = 18
code_of kind.Joined = 19
code_of kind.Guarded = 20
code_of kind.Closing = 21
code_of kind.Fenced = 22

-- the kind with a code
abbrev pub kind_with : ℕ → Option Kind
kind_with code =
    if code == 1 then Some kind.Pause
    else (if code == 2 then Some kind.Alloc
    else (if code == 3 then Some kind.Read
    else (if code == 4 then Some kind.Stored
    else (if code == 5 then Some kind.Length
    else (if code == 6 then Some kind.Class
    else (if code == 7 then Some kind.Same
    else (if code == 8 then Some kind.Enter
    else (if code == 9 then Some kind.Exit
    else (if code == 10 then Some kind.Start
    else (if code == 11 then Some kind.Join
    else (if code == 12 then Some kind.Init
    else (if code == 13 then Some kind.Print
    else (if code == 14 then Some kind.Throw
    else (if code == 15 then Some kind.Begin
    else (if code == 16 then Some kind.End
    else (if code == 17 then Some kind.Ended
    else (if code == 18 then Some kind.Asked
    else (if code == 19 then Some kind.Joined
    else (if code == 20 then Some kind.Guarded
    else (if code == 21 then Some kind.Closing
    else (if code == 22 then Some kind.Fenced
    else None)))))))))))))))))))))

abbrev pub kind_of : Op → Kind
kind_of op.Pause = kind.Pause
kind_of (op.Alloc object shape slots) = kind.Alloc
kind_of (op.Read place value) = kind.Read
kind_of (op.Stored place value) = kind.Stored
kind_of (op.Length object slots) = kind.Length
kind_of (op.Class object shape) = kind.Class
kind_of (op.Same same) = kind.Same
kind_of (op.Enter key) = kind.Enter
kind_of (op.Exit key) = kind.Exit
kind_of (op.Start object child) = kind.Start
kind_of (op.Join object) = kind.Join
kind_of (op.Init class is) = kind.Init
kind_of (op.Print bytes) = kind.Print
kind_of (op.Throw object class) = kind.Throw
kind_of op.Begin = kind.Begin
kind_of op.End = kind.End
kind_of (op.Ended uncaught) = kind.Ended
kind_of (op.Asked place value) = kind.Asked
kind_of op.Joined = kind.Joined
kind_of (op.Guarded place) = kind.Guarded
kind_of op.Closing = kind.Closing
kind_of op.Fenced = kind.Fenced

-- the fewest words of an act of the kind: its head, its number of image calls, and its fields
abbrev pub fewest : Kind → ℕ
fewest kind.Pause = 2
fewest kind.Alloc = 5
fewest kind.Read = 6
fewest kind.Stored = 6
fewest kind.Length = 4
fewest kind.Class = 4
fewest kind.Same = 3
fewest kind.Enter = 4
fewest kind.Exit = 4
fewest kind.Start = 4
fewest kind.Join = 3
fewest kind.Init = 4
fewest kind.Print = 4
fewest kind.Throw = 4
fewest kind.Begin = 2
fewest kind.End = 2
fewest kind.Ended = 3
fewest kind.Asked = 6
fewest kind.Joined = 3
fewest kind.Guarded = 4
fewest kind.Closing = 2
fewest kind.Fenced = 2

-- The most: a slot takes a word more than a static field, a piece of 24 bytes takes three words, and a Joined act may
-- have as many objects as its count of words can tell.
abbrev pub most : Kind → ℕ
most kind.Read = 7
most kind.Stored = 7
most kind.Print = 6
most kind.Asked = 7
most kind.Joined = 2 ^ 32 - 1
most kind.Guarded = 5
most other = fewest other

abbrev pub may_have : Kind → ℕ → Bool
may_have kind words = nat_le (fewest kind) words && nat_le words (most kind)

-- how many objects stand behind an act's fields, where it has so many words
abbrev pub named_count : Kind → ℕ → ℕ
named_count kind.Joined words = words - 3
named_count other words = 0
