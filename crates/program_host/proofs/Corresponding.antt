-- The machine of the references and the plain one correspond.
use Rattle.std.proofs.Common.{◌≡◌, ℕ, ◌+◌, ◌-◌, Bool, true, false, refl, sym, List, map, Option, Some, None, arith}
use Rattle.std.proofs.lemmas.Bool.{ltb-false}
use Rattle.std.specs.Prelude.{slice_get, unwrap_or, nat_lt}
use Rattle.ap_base.specs.declared.reference.Ref.{Ref}
use Rattle.ap_base.specs.declared.reference.Ref.TheVariants.{Null, Persistent, Volatile}
use Rattle.ap_base.specs.declared.reference.Item.{Item}
use Rattle.ap_base.specs.declared.reference.Item.TheVariants as item
use Rattle.graph_model.specs.declared.types.Graph.{Graph}
use Rattle.graph_model.specs.declared.types.Value.{Value}
use Rattle.graph_model.specs.declared.types.Value.TheVariants as value
use Rattle.natives.specs.Coded.{items}
use Rattle.frames.specs.Tables.{start_of}
use Rattle.frames.specs.Maps.{map_cell}
use Rattle.plain_model.specs.Facts.{SetFacts, known_classes}
use Rattle.plain_model.specs.First.{literal_number}
use Rattle.plain_frames.specs.Codes.{plain_cells}
use Rattle.plain_frames.specs.Methods.{plain_values, plain_given}
use Rattle.plain_frames.specs.Coded.{plain_reference, plain_item, item_given, ItemsAreAlike}
use Rattle.plain_frames.specs.Machines.{SettingsKeep}
use Rattle.program_host.specs.Literals.{spare, literal_in}
use Rattle.program_host.specs.Settings.{item_cells}
use Rattle.program_host.specs.Numbers.{MachinesCorrespond, MachinesCorrespondOverHeaps, AreOfHeap, whole, LeadsToObjects}

cells-alike : (number : Ref → ℕ) (v : Item)
    → plain_cells (plain_item number v) ≡ map (map_cell (plain_reference number)) (item_cells v)
cells-alike number (item.Int i) = refl
cells-alike number (item.Long i) = refl
cells-alike number (item.Ref Null) = refl
cells-alike number (item.Ref (Persistent line)) = refl
cells-alike number (item.Ref (Volatile index)) = refl

pub machines-correspond : ItemsAreAlike → ((f : Ref → Value) (h : Item → Value) → SettingsKeep f h)
    → MachinesCorrespond
machines-correspond alike keep set opening p method literals number stand =
    keep (plain_reference number) (plain_item number) items plain_values item_given plain_given
    (known_classes set) p (start_of p method) (literal_in literals)
    (λ k. value.Obj (literal_number set opening k)) item.Long value.Long item_cells plain_cells (alike number)
    (λ k. sym (stand k)) (λ i. refl) (cells-alike number)

module _ (set : SetFacts) (opening : Graph) (numbers : Ref → Option ℕ) where
  pub leads : LeadsToObjects set opening numbers
  leads Null n is e = absurd (is refl)
  leads (Persistent line) n is e = rw e refl
  leads (Volatile index) n is e = rw e refl

  module _ (literals : List Ref) (heap : AreOfHeap set opening numbers literals) where
    spare-leads : (k : ℕ) (is_line : Bool) → nat_lt k 2147483648 ≡ is_line
        → plain_reference (whole set opening numbers) (spare k) ≡ value.Obj (literal_number set opening k)
    spare-leads k true e =
        let same : (k + 2147483648) - 2147483648 ≡ k = omega arith in
        let none : numbers (Persistent (k + 2147483648)) ≡ None = heap.lines _ (omega arith) in
        rw (e, none, same) refl
    spare-leads k false e =
        let none : numbers (Volatile k) ≡ None = heap.words k (ltb-false k 2147483648 e) in
        rw (e, none) refl

    entry-leads : (k : ℕ) (entry : Option Ref) → slice_get literals k ≡ entry
        → plain_reference (whole set opening numbers) (unwrap_or entry (spare k))
        ≡ value.Obj (literal_number set opening k)
    entry-leads k None e = spare-leads k (nat_lt k 2147483648) refl
    entry-leads k (Some r) e =
        let found = heap.named k r e in
        leads r (literal_number set opening k) found.0 found.1

pub over-heaps : MachinesCorrespond → MachinesCorrespondOverHeaps
over-heaps correspond set opening p method literals numbers heap = (
  correspond set opening p method literals (whole set opening numbers)
      (λ k. entry-leads set opening numbers literals heap k (slice_get literals k) refl),
  leads set opening numbers,
)
