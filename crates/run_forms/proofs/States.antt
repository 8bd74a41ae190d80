-- Built-in methods in progress, where what their references are seen as changes for none that is an object's.
use Rattle.std.proofs.Common.{◌≡◌, ℕ, ◌<◌, ◌&&◌, Bool, true, false, List, [], ◌∷◌, Option, Some, None, refl, arith}
use Rattle.std.proofs.lemmas.Bool.Decides.{nat_tests}
use Rattle.ap_base.specs.declared.reference.Ref.{Ref}
use Rattle.graph_model.specs.declared.types.Value.{Value}
use Rattle.graph_model.specs.declared.types.Value.TheVariants as value
use Rattle.natives.specs.declared.positions.Append.{Append}
use Rattle.natives.specs.declared.positions.Append.TheVariants as append
use Rattle.natives.specs.declared.positions.Appending.{Appending}
use Rattle.natives.specs.declared.positions.BuiltText.{BuiltText}
use Rattle.natives.specs.declared.positions.BuiltText.TheVariants as built
use Rattle.natives.specs.declared.positions.Copied.{Copied}
use Rattle.natives.specs.declared.positions.Copied.TheVariants as copied
use Rattle.natives.specs.declared.positions.Copies.{Copies}
use Rattle.natives.specs.declared.positions.Copies.TheVariants as copies
use Rattle.natives.specs.declared.positions.Copying.{Copying}
use Rattle.natives.specs.declared.positions.Equality.{Equality}
use Rattle.natives.specs.declared.positions.Equality.TheVariants as equality
use Rattle.natives.specs.declared.positions.NewBuilder.{NewBuilder}
use Rattle.natives.specs.declared.positions.NewBuilder.TheVariants as new
use Rattle.natives.specs.declared.positions.ObjectText.{ObjectText}
use Rattle.natives.specs.declared.positions.ObjectText.TheVariants as object
use Rattle.natives.specs.declared.positions.Pair.{Pair}
use Rattle.natives.specs.declared.positions.Position.{Position}
use Rattle.natives.specs.declared.positions.Position.TheVariants as position
use Rattle.natives.specs.declared.positions.Printing.{Printing}
use Rattle.natives.specs.declared.positions.Printing.TheVariants as printing
use Rattle.natives.specs.declared.positions.Purpose.{Purpose}
use Rattle.natives.specs.declared.positions.Purpose.TheVariants as purpose
use Rattle.natives.specs.declared.positions.Reading.{Reading}
use Rattle.natives.specs.declared.positions.Running.{Running}
use Rattle.natives.specs.declared.positions.Running.TheVariants as running
use Rattle.natives.specs.declared.positions.Single.{Single}
use Rattle.natives.specs.declared.positions.Single.TheVariants as single
use Rattle.natives.specs.declared.states.NativeState.{NativeState}
use Rattle.natives.specs.declared.texts.Text.{Text}
use Rattle.natives.specs.declared.texts.Text.TheVariants.{Spelled, String}
use Rattle.plain_model.specs.Facts.{SetFacts, known_classes}
use Rattle.plain_frames.specs.Moves.{map_text, map_texts, map_pair, map_single, map_equality, map_purpose, map_object, map_new}
use Rattle.plain_frames.specs.Moves.{map_appending, map_append, map_copied, map_copying, map_copies, map_built, map_readings}
use Rattle.plain_frames.specs.Moves.{map_printing, map_running, map_position, map_state}
use Rattle.plain_frames.specs.Worlds.{text_refs, texts_refs, purpose_ref, single_refs, compared, object_refs, new_refs}
use Rattle.plain_frames.specs.Worlds.{appending_refs, append_refs, copied_refs, copying_refs, copies_refs, built_refs}
use Rattle.plain_frames.specs.Worlds.{reading_refs, printing_refs, running_refs, refs_of, pieces_of, is_below, all_below}
use Rattle.plain_frames.specs.Worlds.{all_pieces, is_known, is_in}

-- null, or one of the first n objects
abbrev pub IsRefIn : ℕ → Value → Type 0
IsRefIn n value.Null = Unit {0}
IsRefIn n (value.Obj k) = k < n
IsRefIn n v = ⊥

abbrev AllIn : ℕ → List Value → Type 0
AllIn n [] = Unit {0}
AllIn n (r ∷ rs) = IsRefIn n r × AllIn n rs

and_parts : (a b : Bool) → (a && b) ≡ true → (a ≡ true) × (b ≡ true)
and_parts true b e = (refl, e)
and_parts false b e = absurd (let no : false ≡ true = e in cc)

ref_is : (n : ℕ) (v : Value) → is_below n v ≡ true → IsRefIn n v
ref_is n value.Null e = tt
ref_is n (value.Obj k) e = grind (arith, nat_tests)
ref_is n (value.Int i) e = absurd (let no : false ≡ true = e in cc)
ref_is n (value.Long i) e = absurd (let no : false ≡ true = e in cc)

all_are : (n : ℕ) (rs : List Value) → all_below n rs ≡ true → AllIn n rs
all_are n [] e = tt
all_are n (r ∷ rs) e = let parts = and_parts (is_below n r) (all_below n rs) e in
    (ref_is n r parts.0, all_are n rs parts.1)

-- f' is as f is where f gives one of the first n objects
module _ (f f' : Ref → Value) (n : ℕ) (same : (r : Ref) → IsRefIn n (f r) → f' r ≡ f r) where
  text-same : (t : Text Ref) → AllIn n (text_refs (map_text f t)) → map_text f' t ≡ map_text f t
  text-same (Spelled spelling) h = refl
  text-same (String r) h = λ i. String (same r h.0 i)

  texts-same : (t : Option (Text Ref)) → AllIn n (texts_refs (map_texts f t)) → map_texts f' t ≡ map_texts f t
  texts-same None h = refl
  texts-same (Some t) h = λ i. Some (text-same t h i)

  pair-same : (pair : Pair Ref) → IsRefIn n (f pair.left) → IsRefIn n (f pair.right)
      → map_pair f' pair ≡ map_pair f pair
  pair-same pair l r = λ i. record { left = same pair.left l i; right = same pair.right r i }

  single-same : (p : Single Ref) → AllIn n (single_refs (map_single f p)) → map_single f' p ≡ map_single f p
  single-same (single.Same pair) h = λ i. single.Same (pair-same pair h.0 h.1.0 i)
  single-same (single.Length r) h = λ i. single.Length (same r h.0 i)
  single-same (single.CharAt r k) h = λ i. single.CharAt (same r h.0 i) k
  single-same (single.SetTarget r s) h = λ i. single.SetTarget (same r h.0 i) (same s h.1.0 i)
  single-same (single.Start r) h = λ i. single.Start (same r h.0 i)
  single-same (single.Join r) h = λ i. single.Join (same r h.0 i)
  single-same (single.SetMessage r s) h = λ i. single.SetMessage (same r h.0 i) (same s h.1.0 i)
  single-same (single.Message r) h = λ i. single.Message (same r h.0 i)
  single-same single.Begin h = refl
  single-same single.End h = refl

  abbrev AreBoth : Pair Value → Type 0
  AreBoth pair = AllIn n (pair.left ∷ pair.right ∷ [])

  equality-same : (p : Equality Ref) → AreBoth (compared (map_equality f p))
      → map_equality f' p ≡ map_equality f p
  equality-same (equality.Same pair) h = λ i. equality.Same (pair-same pair h.0 h.1.0 i)
  equality-same (equality.IsString pair) h = λ i. equality.IsString (pair-same pair h.0 h.1.0 i)
  equality-same (equality.LeftLength pair) h = λ i. equality.LeftLength (pair-same pair h.0 h.1.0 i)
  equality-same (equality.RightLength pair m) h = λ i. equality.RightLength (pair-same pair h.0 h.1.0 i) m
  equality-same (equality.LeftChar pair m k) h = λ i. equality.LeftChar (pair-same pair h.0 h.1.0 i) m k
  equality-same (equality.RightChar pair m k c) h =
      λ i. equality.RightChar (pair-same pair h.0 h.1.0 i) m k c

  purpose-same : (to : Purpose Ref) → IsRefIn n (purpose_ref (map_purpose f to))
      → map_purpose f' to ≡ map_purpose f to
  purpose-same (purpose.Append to) h =
      λ i. purpose.Append (record { builder = same to.builder h i; is_new = to.is_new })
  purpose-same (purpose.Print to) h =
      λ i. purpose.Print (record { stream = same to.stream h i; is_line = to.is_line })

  object-same : (p : ObjectText Ref) → AllIn n (object_refs (map_object f p)) → map_object f' p ≡ map_object f p
  object-same (object.IsString to r) h = λ i. object.IsString (purpose-same to h.1.0 i) (same r h.0 i)
  object-same (object.Class to r) h = λ i. object.Class (purpose-same to h.1.0 i) (same r h.0 i)
  object-same (object.Result to) h = λ i. object.Result (purpose-same to h.0 i)

  new-same : (p : NewBuilder Ref) → AllIn n (new_refs (map_new f p)) → map_new f' p ≡ map_new f p
  new-same (new.Array r text) h = λ i. new.Array (same r h.0 i) (texts-same text h.1 i)
  new-same (new.Value r text array) h =
      λ i. new.Value (same r h.0 i) (texts-same text h.1.1 i) (same array h.1.0 i)

  appending-same : (a : Appending Ref) → AllIn n (appending_refs (map_appending f a))
      → map_appending f' a ≡ map_appending f a
  appending-same a h = λ i. record {
    to = record { builder = same a.to.builder h.0 i; is_new = a.to.is_new };
    text = text-same a.text h.1.1 i;
    count = a.count;
    array = same a.array h.1.0 i;
  }

  append-same : (p : Append Ref) → AllIn n (append_refs (map_append f p)) → map_append f' p ≡ map_append f p
  append-same (append.Count to text) h =
      λ i. append.Count (record { builder = same to.builder h.0 i; is_new = to.is_new }) (text-same text h.1 i)
  append-same (append.Array to text count) h =
      λ i. append.Array (record { builder = same to.builder h.0 i; is_new = to.is_new }) (text-same text h.1 i)
      count
  append-same (append.Capacity a) h = λ i. append.Capacity (appending-same a h i)
  append-same (append.Length a r c) h = λ i. append.Length (appending-same a h.1 i) (same r h.0 i) c
  append-same (append.Larger a m c) h = λ i. append.Larger (appending-same a h i) m c
  append-same (append.Value a m) h = λ i. append.Value (appending-same a h i) m
  append-same (append.Char to array count spelling k) h =
      λ i. append.Char (record { builder = same to.builder h.0 i; is_new = to.is_new }) (same array h.1.0 i)
      count spelling k
  append-same (append.Total to total) h =
      λ i. append.Total (record { builder = same to.builder h.0 i; is_new = to.is_new }) total

  copied-same : (c : Copied Ref) → AllIn n (copied_refs (map_copied f c)) → map_copied f' c ≡ map_copied f c
  copied-same (copied.Larger to text count m) h =
      λ i. copied.Larger (record { builder = same to.builder h.0 i; is_new = to.is_new })
      (text-same text h.1 i) count m
  copied-same (copied.Appended to count) h =
      λ i. copied.Appended (record { builder = same to.builder h.0 i; is_new = to.is_new }) count
  copied-same copied.Built h = refl

  copying-same : (c : Copying Ref) → AllIn n (copying_refs (map_copying f c))
      → map_copying f' c ≡ map_copying f c
  copying-same c h = λ i. record {
    source = same c.source h.0 i;
    target = same c.target h.1.0 i;
    at = c.at;
    end = c.end;
    after = copied-same c.after h.1.1 i;
  }

  copies-same : (p : Copies Ref) → AllIn n (copies_refs (map_copies f p)) → map_copies f' p ≡ map_copies f p
  copies-same (copies.Read c) h = λ i. copies.Read (copying-same c h i)
  copies-same (copies.Put c char) h = λ i. copies.Put (copying-same c h i) char

  built-same : (p : BuiltText Ref) → AllIn n (built_refs (map_built f p)) → map_built f' p ≡ map_built f p
  built-same (built.Count r) h = λ i. built.Count (same r h.0 i)
  built-same (built.Array r count) h = λ i. built.Array (same r h.0 i) count
  built-same (built.Text r count) h = λ i. built.Text (same r h.0 i) count

  readings-same : (r : Option (Reading Ref)) → AllIn n (reading_refs (map_readings f r))
      → map_readings f' r ≡ map_readings f r
  readings-same None h = refl
  readings-same (Some r) h =
      λ i. Some (record { text = same r.text h.0 i; at = r.at; length = r.length; held = r.held })

  printing-same : (p : Printing Ref) → AllIn n (printing_refs (map_printing f p))
      → map_printing f' p ≡ map_printing f p
  printing-same (printing.Enter to text) h =
      λ i. printing.Enter (record { stream = same to.stream h.0 i; is_line = to.is_line }) (text-same text h.1 i)
  printing-same (printing.Length to r) h =
      λ i. printing.Length (record { stream = same to.stream h.0 i; is_line = to.is_line }) (same r h.1.0 i)
  printing-same (printing.Char to r piece) h =
      λ i. printing.Char (record { stream = same to.stream h.0 i; is_line = to.is_line })
      (record { text = same r.text h.1.0 i; at = r.at; length = r.length; held = r.held }) piece
  printing-same (printing.Piece to piece rest reading) h =
      λ i. printing.Piece (record { stream = same to.stream h.0 i; is_line = to.is_line }) piece rest
      (readings-same reading h.1 i)
  printing-same (printing.Exit r) h = λ i. printing.Exit (same r h.0 i)

  running-same : (p : Running Ref) → AllIn n (running_refs (map_running f p))
      → map_running f' p ≡ map_running f p
  running-same (running.Target r) h = λ i. running.Target (same r h.0 i)
  running-same (running.Class r) h = λ i. running.Class (same r h.0 i)
  running-same running.Result h = refl

  position-same : (p : Position Ref) → AllIn n (refs_of (map_position f p))
      → map_position f' p ≡ map_position f p
  position-same (position.Single p) h = λ i. position.Single (single-same p h i)
  position-same (position.Equality p) h = λ i. position.Equality (equality-same p h i)
  position-same (position.ObjectText p) h = λ i. position.ObjectText (object-same p h i)
  position-same (position.NewBuilder p) h = λ i. position.NewBuilder (new-same p h i)
  position-same (position.Append p) h = λ i. position.Append (append-same p h i)
  position-same (position.Copies p) h = λ i. position.Copies (copies-same p h i)
  position-same (position.BuiltText p) h = λ i. position.BuiltText (built-same p h i)
  position-same (position.Printing p) h = λ i. position.Printing (printing-same p h i)
  position-same (position.Running p) h = λ i. position.Running (running-same p h i)

  pub state-same : (set : SetFacts) (s : NativeState Ref) → is_in set n (map_state f s) ≡ true
      → map_state f' s ≡ map_state f s
  state-same set s e =
      let q = map_position f s.position in
      let parts = and_parts (is_known s.known (known_classes set))
      (all_below n (refs_of q) && all_pieces (pieces_of q)) e in
      let both = and_parts (all_below n (refs_of q)) (all_pieces (pieces_of q)) parts.1 in
      λ i. record {
        known = s.known;
        from = s.from;
        is_begun = s.is_begun;
        position = position-same s.position (all_are n (refs_of q) both.0) i;
      }
