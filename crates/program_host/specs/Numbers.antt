-- The machine of the references against the plain one, whose references are numbers of objects.
use Rattle.std.specs.Prelude.{◌≡◌, ◌≢◌, ℕ, ◌-◌, ◌≤◌, List, slice_get, Option, Some, None, unwrap_or}
use Rattle.ap_base.specs.declared.reference.Ref.{Ref}
use Rattle.ap_base.specs.declared.reference.Ref.TheVariants.{Null, Persistent, Volatile}
use Rattle.graph_model.specs.declared.types.Graph.{Graph}
use Rattle.graph_model.specs.declared.types.Value.TheVariants.{Obj as Object}
use Rattle.natives.specs.declared.methods.Native.{Native}
use Rattle.frames.specs.declared.program.Program.{Program}
use Rattle.frames.specs.Maps.{Keeps}
use Rattle.plain_model.specs.Facts.{SetFacts, known_classes}
use Rattle.plain_model.specs.First.{literal_number}
use Rattle.plain_frames.specs.Codes.{plain_setting}
use Rattle.plain_frames.specs.Coded.{plain_reference, plain_item}
use Rattle.plain_frames.specs.Methods.{plain_natives}
use Rattle.plain_frames.specs.Moves.{map_state}
use Rattle.program_host.specs.Literals.{literal_in}
use Rattle.program_host.specs.Settings.{setting_of}

-- A class set, an opening graph, the tables with the number of `main`, and the references of the literals.
module _ (set : SetFacts) (opening : Graph) (p : Program Native) (method : ℕ) (literals : List Ref) where
  -- The machine of the references and the plain one correspond, where each object has this number.
  abbrev pub Correspond : (Ref → ℕ) → Type 0
  Correspond number = Keeps (plain_reference number) (map_state (plain_reference number)) (plain_item number)
      (setting_of p method (known_classes set) literals)
      (plain_setting set opening p (plain_natives set) method)

  -- Each literal's reference stands for its object.
  abbrev pub LiteralsStand : (Ref → ℕ) → Type 0
  LiteralsStand number =
      (k : ℕ) → plain_reference number (literal_in literals k) ≡ Object (literal_number set opening k)

-- They correspond by each map of references to numbers that leads each literal to its object: null is null by
-- `plain_reference`.
abbrev pub MachinesCorrespond : Type 0
MachinesCorrespond = (set : SetFacts) (opening : Graph) (p : Program Native) (method : ℕ) (literals : List Ref)
    (number : Ref → ℕ) → LiteralsStand set opening p method literals number
    → Correspond set opening p method literals number

-- The numbers of a heap: a reference that stands for no object has none.
module _ (set : SetFacts) (opening : Graph) (numbers : Ref → Option ℕ) where
  -- the number of a literal past the table
  abbrev pub spare_number : Ref → ℕ
  spare_number Null = 0
  spare_number (Persistent line) = literal_number set opening (line - 2147483648)
  spare_number (Volatile index) = literal_number set opening index

  abbrev pub whole : Ref → ℕ
  whole r = unwrap_or (numbers r) (spare_number r)

  pub record AreOfHeap (literals : List Ref) : Type 0 where
    pub named : (k : ℕ) (r : Ref) → slice_get literals k ≡ Some r
        → (r ≢ Null) × (numbers r ≡ Some (literal_number set opening k))
    -- no object lies so far behind
    pub lines : (line : ℕ) → 2147483648 ≤ line → numbers (Persistent line) ≡ None
    pub words : (index : ℕ) → 2147483648 ≤ index → numbers (Volatile index) ≡ None

  -- Each reference that stands for an object leads to it.
  abbrev pub LeadsToObjects : Type 0
  LeadsToObjects = (r : Ref) (n : ℕ) → r ≢ Null → numbers r ≡ Some n → plain_reference whole r ≡ Object n

-- So they correspond over each heap whose literals have their objects' numbers.
abbrev pub MachinesCorrespondOverHeaps : Type 0
MachinesCorrespondOverHeaps = (set : SetFacts) (opening : Graph) (p : Program Native) (method : ℕ)
    (literals : List Ref) (numbers : Ref → Option ℕ) → AreOfHeap set opening numbers literals
    → Correspond set opening p method literals (whole set opening numbers) × LeadsToObjects set opening numbers
