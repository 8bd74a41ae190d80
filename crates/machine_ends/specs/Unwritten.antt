-- Until its flush a thread writes none of its lines back, whatever the machine does.
use Rattle.std.specs.Prelude.{ℕ, List}
use Rattle.twin_forms.specs.Table.{Entry, IsClaimed}
use Rattle.converter.specs.Laws.{AreUnwritten}
use Rattle.machine_laws.specs.Passed.{Opening, Machine}
use Rattle.machine_laws.specs.Passed.{KeepsRun}
use Rattle.machine_laws.specs.Happening.{OfEvents}

-- To each copied line of its objects a thread before its flush has stored since it was last written.
abbrev pub HasUnwritten : Machine → List Entry → Type 0
HasUnwritten m es = AreUnwritten m.queue es

-- It is so where nobody has claimed an object.
abbrev pub StartsHaveUnwritten : Type 0
StartsHaveUnwritten = (m : Machine) (es : List Entry) → ((t n : ℕ) → IsClaimed es t n → ⊥)
    → HasUnwritten m es

-- of every machine that keeps its run, where it is so
abbrev pub OfUnwritten : (Opening → Machine → List Entry → Type 0) → Type 0
OfUnwritten P = (o : Opening) (m : Machine) (es : List Entry) → KeepsRun o m es → HasUnwritten m es → P o m es

abbrev pub EventsLeaveUnwritten : Type 0
EventsLeaveUnwritten = OfEvents (λ o m es m' es'. HasUnwritten m es → HasUnwritten m' es')
