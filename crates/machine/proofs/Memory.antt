-- What requests' steps leave of the image, and of the numbers of shapes.
use Rattle.std.proofs.Common.{◌≡◌, inl, inr, ℕ, List, ap}
use Rattle.std.specs.Prelude.{slice_index_or}
use Rattle.ap_base.specs.declared.place.Place.{Place}
use Rattle.ap_base.specs.declared.place.Place.TheVariants.{Static, Slot}
use Rattle.ap_base.specs.declared.reference.Ref.{Ref}
use Rattle.ap_base.specs.declared.reference.Item.{Item}
use Rattle.natives.specs.declared.requests.Reply.{Reply}
use Rattle.line_memory.specs.Memory.{Memory, SameImage}
use Rattle.run_history.specs.declared.act.Op.{Op}
use Rattle.run_history.specs.declared.act.Op.TheVariants as op
use Rattle.step_forms.specs.declared.stepped.Stepped.TheVariants as stepped
use Rattle.step_forms.specs.Becomes.{Becomes}
use Rattle.twin_forms.specs.Table.{Entry, entry, line_of}
use Rattle.two_spaces.specs.declared.spaces.Static.{Static as Field}
use Rattle.two_spaces.specs.declared.spaces.Static.TheVariants.{Beside, Root}
use Rattle.two_spaces.specs.Seen.{Spaces, shown_of}
use Rattle.two_spaces.specs.Whole.{Stands, StoresIn, MakesIn, StoredTo, StaticStored, SlotStored, no_static}
use Rattle.two_spaces.proofs.Keeping.{copied_or_not}

-- No call was made, and each class has the shape that it had.
pub record StaysPut (s now : Spaces) : Type 0 where
  pub image : SameImage s.twin.memory now.twin.memory
  pub numbers : now.numbers ≡ s.numbers

pub same-image : (old new : Memory) → new ≡ old → SameImage old new
same-image old new same = record {
  calls = ap (λ (m : Memory). m.calls) same;
  image = ap (λ (m : Memory). m.image) same;
  faults = ap (λ (m : Memory). m.faults) same;
}

pub stays : (s now : Spaces) → now ≡ s → StaysPut s now
stays s now same = record {
  image = same-image s.twin.memory now.twin.memory (ap (λ (x : Spaces). x.twin.memory) same);
  numbers = ap (λ (x : Spaces). x.numbers) same;
}

slot-stays : (s now : Spaces) (es : List Entry) (n i w : ℕ) → SlotStored s es n i w now → StaysPut s now
slot-stays s now es n i w st = record {
  image = elim (copied_or_not (entry es n) (line_of i)) [
    | inl copied ↦ (st.line copied).changes.same
    | inr not_copied ↦ same-image s.twin.memory now.twin.memory (st.same not_copied)
  ];
  numbers = st.classes.numbers;
}

static-stays : (s now : Spaces) (es : List Entry) (f : ℕ) (field : Field) (item : Item)
    → StaticStored s es f field item now → StaysPut s now
static-stays s now es f (Beside old) item st = record {
  image = same-image s.twin.memory now.twin.memory (ap (λ (x : Spaces). x.twin.memory) st.is);
  numbers = ap (λ (x : Spaces). x.numbers) st.is;
}
static-stays s now es f (Root slot) item st =
    record { image = st.2.line.changes.same; numbers = st.2.classes.numbers }

pub stored-stays : (s now : Spaces) (es : List Entry) (p : Place) (item : Item) → StoredTo s es p item now
    → StaysPut s now
stored-stays s now es (Slot n i) item st = slot-stays s now es n i st.0 st.2
stored-stays s now es (Static f) item st =
    static-stays s now es f (slice_index_or s.statics f no_static) item st

made-stays : (s now : Spaces) (es : List Entry) → Stands s es → MakesIn s now → StaysPut s now
made-stays s now es stands made = record {
  image = same-image s.twin.memory now.twin.memory (made es stands).memory;
  numbers = (made es stands).classes.numbers;
}

pub does-stay : (s now : Spaces) (es : List Entry) (o : Op) (r : Reply Ref Item) → Stands s es
    → Becomes shown_of StoresIn MakesIn s (stepped.Did o r) now → StaysPut s now
does-stay s now es (op.Stored place value) r stands becomes =
    stored-stays s now es place becomes.0 (becomes.2 es stands)
does-stay s now es (op.Alloc n shape count) r stands becomes = made-stays s now es stands becomes
does-stay s now es (op.Throw n class) r stands becomes = made-stays s now es stands becomes
does-stay s now es o r stands becomes = stays s now becomes
