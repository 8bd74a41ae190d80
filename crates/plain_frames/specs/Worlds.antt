-- What a built-in method's position refers to and will print, and whether that is in a world.
use Rattle.std.specs.Prelude.{ℕ, nat_lt, nat_le, nat_eq, ◌&&◌, Bool, true, false, List, [], ◌∷◌, length, Option, Some, None}
use Rattle.run_types.specs.declared.known.Known.{Known}
use Rattle.graph_model.specs.declared.types.Value.{Value}
use Rattle.graph_model.specs.declared.types.Value.TheVariants as value
use Rattle.natives.specs.declared.texts.Text.{Text}
use Rattle.natives.specs.declared.texts.Text.TheVariants.{Spelled, String}
use Rattle.natives.specs.declared.positions.Pair.{Pair}
use Rattle.natives.specs.declared.positions.Single.{Single}
use Rattle.natives.specs.declared.positions.Single.TheVariants as single
use Rattle.natives.specs.declared.positions.Equality.{Equality}
use Rattle.natives.specs.declared.positions.Equality.TheVariants as equality
use Rattle.natives.specs.declared.positions.Purpose.{Purpose}
use Rattle.natives.specs.declared.positions.Purpose.TheVariants as purpose
use Rattle.natives.specs.declared.positions.ObjectText.{ObjectText}
use Rattle.natives.specs.declared.positions.ObjectText.TheVariants as object
use Rattle.natives.specs.declared.positions.NewBuilder.{NewBuilder}
use Rattle.natives.specs.declared.positions.NewBuilder.TheVariants as new
use Rattle.natives.specs.declared.positions.Appending.{Appending}
use Rattle.natives.specs.declared.positions.Append.{Append}
use Rattle.natives.specs.declared.positions.Append.TheVariants as append
use Rattle.natives.specs.declared.positions.Copied.{Copied}
use Rattle.natives.specs.declared.positions.Copied.TheVariants as copied
use Rattle.natives.specs.declared.positions.Copying.{Copying}
use Rattle.natives.specs.declared.positions.Copies.{Copies}
use Rattle.natives.specs.declared.positions.Copies.TheVariants as copies
use Rattle.natives.specs.declared.positions.BuiltText.{BuiltText}
use Rattle.natives.specs.declared.positions.BuiltText.TheVariants as built
use Rattle.natives.specs.declared.positions.Reading.{Reading}
use Rattle.natives.specs.declared.positions.Printing.{Printing}
use Rattle.natives.specs.declared.positions.Printing.TheVariants as printing
use Rattle.natives.specs.declared.positions.Running.{Running}
use Rattle.natives.specs.declared.positions.Running.TheVariants as running
use Rattle.natives.specs.declared.positions.Position.{Position}
use Rattle.natives.specs.declared.positions.Position.TheVariants as position
use Rattle.natives.specs.declared.states.NativeState.{NativeState}
use Rattle.natives.specs.Texts.{spelled_bytes}
use Rattle.plain_model.specs.Facts.{SetFacts, known_classes}

abbrev pub pieces_if : Option (List ℕ) → List (List ℕ)
pieces_if None = []
pieces_if (Some piece) = piece ∷ []

module _ {R : Type 0} where
  -- the references that a position has
  abbrev pub text_refs : Text R → List R
  text_refs (Spelled spelling) = []
  text_refs (String r) = r ∷ []

  abbrev pub texts_refs : Option (Text R) → List R
  texts_refs None = []
  texts_refs (Some text) = text_refs text

  abbrev pub purpose_ref : Purpose R → R
  purpose_ref (purpose.Append to) = to.builder
  purpose_ref (purpose.Print to) = to.stream

  abbrev pub single_refs : Single R → List R
  single_refs (single.Same pair) = pair.left ∷ pair.right ∷ []
  single_refs (single.Length r) = r ∷ []
  single_refs (single.CharAt r i) = r ∷ []
  single_refs (single.SetTarget r target) = r ∷ target ∷ []
  single_refs (single.Start r) = r ∷ []
  single_refs (single.Join r) = r ∷ []
  single_refs (single.SetMessage r message) = r ∷ message ∷ []
  single_refs (single.Message r) = r ∷ []
  single_refs single.Begin = []
  single_refs single.End = []

  abbrev pub compared : Equality R → Pair R
  compared (equality.Same pair) = pair
  compared (equality.IsString pair) = pair
  compared (equality.LeftLength pair) = pair
  compared (equality.RightLength pair m) = pair
  compared (equality.LeftChar pair n i) = pair
  compared (equality.RightChar pair n i c) = pair

  abbrev pub object_refs : ObjectText R → List R
  object_refs (object.IsString to o) = o ∷ purpose_ref to ∷ []
  object_refs (object.Class to o) = o ∷ purpose_ref to ∷ []
  object_refs (object.Result to) = purpose_ref to ∷ []

  abbrev pub new_refs : NewBuilder R → List R
  new_refs (new.Array builder text) = builder ∷ texts_refs text
  new_refs (new.Value builder text array) = builder ∷ array ∷ texts_refs text

  abbrev pub appending_refs : Appending R → List R
  appending_refs a = a.to.builder ∷ a.array ∷ text_refs a.text

  abbrev pub append_refs : Append R → List R
  append_refs (append.Count to text) = to.builder ∷ text_refs text
  append_refs (append.Array to text count) = to.builder ∷ text_refs text
  append_refs (append.Capacity a) = appending_refs a
  append_refs (append.Length a r c) = r ∷ appending_refs a
  append_refs (append.Larger a n c) = appending_refs a
  append_refs (append.Value a n) = appending_refs a
  append_refs (append.Char to array count spelling i) = to.builder ∷ array ∷ []
  append_refs (append.Total to total) = to.builder ∷ []

  abbrev pub copied_refs : Copied R → List R
  copied_refs (copied.Larger to text count n) = to.builder ∷ text_refs text
  copied_refs (copied.Appended to count) = to.builder ∷ []
  copied_refs copied.Built = []

  abbrev pub copying_refs : Copying R → List R
  copying_refs c = c.source ∷ c.target ∷ copied_refs c.after

  abbrev pub copies_refs : Copies R → List R
  copies_refs (copies.Read c) = copying_refs c
  copies_refs (copies.Put c char) = copying_refs c

  abbrev pub built_refs : BuiltText R → List R
  built_refs (built.Count r) = r ∷ []
  built_refs (built.Array r count) = r ∷ []
  built_refs (built.Text r count) = r ∷ []

  abbrev pub reading_refs : Option (Reading R) → List R
  reading_refs None = []
  reading_refs (Some reading) = reading.text ∷ []

  abbrev pub printing_refs : Printing R → List R
  printing_refs (printing.Enter to text) = to.stream ∷ text_refs text
  printing_refs (printing.Length to r) = to.stream ∷ r ∷ []
  printing_refs (printing.Char to reading piece) = to.stream ∷ reading.text ∷ []
  printing_refs (printing.Piece to piece rest reading) = to.stream ∷ reading_refs reading
  printing_refs (printing.Exit r) = r ∷ []

  abbrev pub running_refs : Running R → List R
  running_refs (running.Target r) = r ∷ []
  running_refs (running.Class r) = r ∷ []
  running_refs running.Result = []

  abbrev pub refs_of : Position R → List R
  refs_of (position.Single p) = single_refs p
  refs_of (position.Equality p) = (compared p).left ∷ (compared p).right ∷ []
  refs_of (position.ObjectText p) = object_refs p
  refs_of (position.NewBuilder p) = new_refs p
  refs_of (position.Append p) = append_refs p
  refs_of (position.Copies p) = copies_refs p
  refs_of (position.BuiltText p) = built_refs p
  refs_of (position.Printing p) = printing_refs p
  refs_of (position.Running p) = running_refs p

  -- the pieces that it has gathered
  abbrev pub text_pieces : Text R → List (List ℕ)
  text_pieces (Spelled spelling) = spelled_bytes spelling ∷ []
  text_pieces (String r) = []

  abbrev pub printing_pieces : Printing R → List (List ℕ)
  printing_pieces (printing.Enter to text) = text_pieces text
  printing_pieces (printing.Length to r) = []
  printing_pieces (printing.Char to reading piece) = pieces_if piece
  printing_pieces (printing.Piece to piece rest reading) = piece ∷ pieces_if rest
  printing_pieces (printing.Exit r) = []

  abbrev pub pieces_of : Position R → List (List ℕ)
  pieces_of (position.Single p) = []
  pieces_of (position.Equality p) = []
  pieces_of (position.ObjectText p) = []
  pieces_of (position.NewBuilder p) = []
  pieces_of (position.Append p) = []
  pieces_of (position.Copies p) = []
  pieces_of (position.BuiltText p) = []
  pieces_of (position.Printing p) = printing_pieces p
  pieces_of (position.Running p) = []

-- null, or one of the first n objects
abbrev pub is_below : ℕ → Value → Bool
is_below n value.Null = true
is_below n (value.Obj k) = nat_lt k n
is_below n v = false

abbrev pub all_below : ℕ → List Value → Bool
all_below n [] = true
all_below n (r ∷ rs) = is_below n r && all_below n rs

abbrev pub is_piece : List ℕ → Bool
is_piece bytes = nat_lt 0 (length bytes) && nat_le (length bytes) 24

abbrev pub all_pieces : List (List ℕ) → Bool
all_pieces [] = true
all_pieces (piece ∷ pieces) = is_piece piece && all_pieces pieces

-- the numbers of the classes are those of the set
abbrev pub is_known : Known → Known → Bool
is_known a b =
    nat_eq a.chars b.chars && (nat_eq a.string b.string && (nat_eq a.object b.object &&
    (nat_eq a.runnable b.runnable
    && (nat_eq a.builder b.builder && (nat_eq a.thread b.thread && nat_eq a.throwable b.throwable)))))

-- what a state refers to is among the first n objects, its pieces are pieces, and its classes are the set's
abbrev pub is_in : SetFacts → ℕ → NativeState Value → Bool
is_in set n s =
    is_known s.known (known_classes set) && (all_below n (refs_of s.position) && all_pieces
    (pieces_of s.position))
