-- What static fields hold, and what stores to them leave.
use Rattle.std.proofs.Common.{◌≡◌, ℕ, ◌<◌, List, length, sym, ◌∙◌, ap, subst}
use Rattle.std.specs.Prelude.{slice_index_or, slice_set}
use Rattle.ap_base.specs.declared.reference.Item.{Item}
use Rattle.graph_model.specs.declared.types.Value.TheVariants.{Null}
use Rattle.line_memory.specs.Memory.{Memory}
use Rattle.one_space.proofs.Laid.{get_or-map}
use Rattle.shared_objects.specs.Shown.{IsKnownItem, static_in}
use Rattle.twin_forms.specs.Sights.{view_of}
use Rattle.twin_forms.specs.Table.{Entry}
use Rattle.two_spaces.specs.declared.spaces.Static.{Static}
use Rattle.two_spaces.specs.declared.spaces.Static.TheVariants.{Beside, Root}
use Rattle.two_spaces.specs.Seen.{Spaces, shown_of, number_in, static_item, static_value}
use Rattle.two_spaces.specs.Whole.{Stands, IsItem, IsStatic, IsWordOf, StaticStored, RootStored, no_static}
use Rattle.two_spaces.proofs.Valuing.{item_from}
use Rattle.two_spaces.proofs.Keeping.{held_item, keeps_beside}

-- what the field holds is shown
pub static_is : (s : Spaces) (f : ℕ) → f < length s.statics → (st : Static)
    → slice_index_or s.statics f no_static ≡ st → static_in (shown_of s) f ≡ static_value (view_of s.twin) st
static_is s f lf st is =
    get_or-map (static_value (view_of s.twin)) s.statics f no_static Null lf ∙ ap (static_value (view_of s.twin)) is

pub held_known : (s : Spaces) (es : List Entry) (f : ℕ) → Stands s es → f < length s.statics → (st : Static)
    → slice_index_or s.statics f no_static ≡ st → IsKnownItem (number_in (view_of s.twin)) (static_item (view_of s.twin) st)
held_known s es f h lf st is =
    item_from (view_of s.twin) es (static_item (view_of s.twin) st) h.lies
    (held_item s es st h.lies (subst (IsStatic s es) is (h.statics f lf)))

pub beside_stored : (s : Spaces) (es : List Entry) (f : ℕ) (item : Item) → Stands s es → f < length s.statics
    → IsItem es item → (old : Item) → slice_index_or s.statics f no_static ≡ Beside old
    → StaticStored s es f (slice_index_or s.statics f no_static) item
    (record s { statics = slice_set s.statics f (Beside item) })
beside_stored s es f item h lf to old is =
    subst (λ st. StaticStored s es f st item (record s { statics = slice_set s.statics f (Beside item) })) (sym is)
    (keeps_beside s es f item h lf to).becomes

pub root_stored : (s : Spaces) (m' : Memory) (es : List Entry) (f slot w : ℕ) (item : Item)
    → slice_index_or s.statics f no_static ≡ Root slot → IsWordOf es item w
    → RootStored s es slot w (record s { twin = record s.twin { memory = m' } })
    → StaticStored s es f (slice_index_or s.statics f no_static) item
    (record s { twin = record s.twin { memory = m' } })
root_stored s m' es f slot w item is word stored =
    subst (λ st. StaticStored s es f st item (record s { twin = record s.twin { memory = m' } })) (sym is)
    (w, word, stored)
