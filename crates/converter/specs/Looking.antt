-- What the references of a copied line ask of the thread that has claimed its object.
use Rattle.std.specs.Prelude.{◌≡◌, ◌≢◌, ◌⊎◌, ℕ, ◌+◌, ◌<◌, ◌≤◌, true, List, length}
use Rattle.twin_forms.specs.Table.{Entry, entry, View, Lies, Names, word_of, refers, line_of, IsClaimed, InP}
use Rattle.converter.specs.declared.looks.Asked.{Asked}
use Rattle.converter.specs.declared.looks.Asked.TheVariants.{Nothing, ToClaim, ToNeed}

-- Object n lies at this index of the space, isn't forwarded, and has so many slots at least.
pub record IsOld (v : View) (object slots : ℕ) (es : List Entry) (n : ℕ) : Type 0 where
  pub lies : Lies v es
  pub there : n < length es
  pub at : (entry es n).at ≡ object
  pub young : (entry es n).stage < 2
  pub long : slots ≤ (entry es n).slots

-- Slot k of object n has a reference to object m.
pub record Refers (v : View) (es : List Entry) (n k m : ℕ) : Type 0 where
  pub reference : refers v (entry es n) k ≡ true
  pub there : m < length es
  pub names : Names (entry es m) (word_of v (entry es n) k)

-- What a reference to object m asks of thread t: nothing, for the object is durable or the thread's own; to claim it,
-- for it is ordinary; to need the thread that has claimed it.
abbrev pub Asks : Asked → ℕ → List Entry → ℕ → Type 0
Asks Nothing t es m = InP es m ⊎ IsClaimed es t m
Asks (ToClaim at) t es m = ((entry es m).stage ≡ 0) × ((entry es m).owner ≡ 0) × ((entry es m).at ≡ at)
Asks (ToNeed u) t es m = (u ≢ t) × IsClaimed es u m

-- Object m is durable, or a thread has claimed it.
abbrev pub IsTaken : List Entry → ℕ → Type 0
IsTaken es m = InP es m ⊎ ((u : ℕ) × IsClaimed es u m)

-- Of these slots of object n, this is the first one that asks thread t to claim an object: the one at this index.
pub record AsksFirst (v : View) (t from to at : ℕ) (es : List Entry) (n : ℕ) : Type 0 where
  pub k : ℕ
  pub m : ℕ
  pub begin : from ≤ k
  pub below : k < to
  pub refers_to : Refers v es n k m
  pub asked : Asks (ToClaim at) t es m
  pub first : (j o : ℕ) → from ≤ j → j < k → Refers v es n j o → IsTaken es o

-- Object n lies at this index of the space, is forwarded and not sealed, and its copy has slot k in this line.
pub record IsMoved (v : View) (object line k : ℕ) (es : List Entry) (n : ℕ) : Type 0 where
  pub lies : Lies v es
  pub there : n < length es
  pub at : (entry es n).at ≡ object
  pub moved : (entry es n).stage ≡ 2
  pub slot : k < (entry es n).slots
  pub here : line ≡ (entry es n).line + line_of k

-- Line c of the object at this index refers to no object that is claimed and not forwarded.
abbrev pub LacksNone : View → ℕ → ℕ → List Entry → Type 0
LacksNone v object c es = (n k m : ℕ) → n < length es → (entry es n).at ≡ object → (entry es n).stage ≡ 2
    → k < (entry es n).slots → line_of k ≡ c → Refers v es n k m → (entry es m).stage ≢ 1
