-- Claims of volatile objects, and where references lead.
use Rattle.std.specs.Prelude.{◌≡◌, ◌<◌, ℕ, List, length, slice_index}
use Rattle.ap_base.specs.declared.reference.Ref.{Ref}
use Rattle.ap_base.specs.declared.reference.Ref.TheVariants.{Null, Persistent, Volatile}
use Rattle.object_header.specs.States.{IsState, header_word}
use Rattle.object_header.specs.declared.state.State.{State}
use Rattle.object_header.specs.declared.state.State.TheVariants.{Ordinary, Claimed, Copying, Converted, Durable}
use Rattle.forwarding.specs.declared.forward.Claimed.{Claimed as Answer}
use Rattle.forwarding.specs.declared.forward.Claimed.TheVariants.{Now, By, Already}

-- The object at this index is in a state: its first word is that of the state.
pub record HasState (words : List ℕ) (object : ℕ) (s : State) : Type 0 where
  pub taken : object < length words
  pub state : IsState s
  pub word : slice_index words object ≡ header_word s

-- It is in one of the states.
abbrev pub IsObject : List ℕ → ℕ → Type 0
IsObject words object = (s : State) × HasState words object s

-- A claim succeeds on an ordinary object alone. Else it tells the thread that holds the object, until that is sealed.
abbrev pub claim_answer : State → Answer
claim_answer Ordinary = Now
claim_answer (Claimed u) = By u
claim_answer (Copying u line) = By u
claim_answer (Converted u line) = By u
claim_answer (Durable line) = Already

-- A volatile reference is to an object.
abbrev pub LeadsTo : List ℕ → Ref → Type 0
LeadsTo words Null = Unit {0}
LeadsTo words (Persistent line) = Unit {0}
LeadsTo words (Volatile object) = IsObject words object

-- Where the words of an object in this state are read: at its index, or from the forward on at its copy's first line.
abbrev pub read_at : ℕ → State → Ref
read_at object Ordinary = Volatile object
read_at object (Claimed u) = Volatile object
read_at object (Copying u line) = Volatile object
read_at object (Converted u line) = Persistent line
read_at object (Durable line) = Persistent line

-- A reference that isn't volatile is resolved as it is.
abbrev pub Resolves : List ℕ → Ref → Ref → Type 0
Resolves words Null result = result ≡ Null
Resolves words (Persistent line) result = result ≡ Persistent line
Resolves words (Volatile object) result = (s : State) → HasState words object s → result ≡ read_at object s
