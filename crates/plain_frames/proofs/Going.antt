-- What built-in methods ask is fit, and they go on in the world.
use Rattle.std.proofs.Common.{◌≡◌, ℕ, ◌+◌, ◌<◌, ◌≤◌, max, true, List, [], ◌∷◌, ◌++◌, length, drop, ℤ, pos, ◌+ℤ◌, int_lt, nat_lt}
use Rattle.std.proofs.Common.{Option, Some, None, arith, length-append, length-drop}
use Rattle.std.specs.List.{concat}
use Rattle.std.specs.Ordering.{int_eq}
use Rattle.std.proofs.lemmas.Bool.Decides.{nat_tests}
use Rattle.ap_base.specs.Pieces.{IsPiece}
use Rattle.run_types.specs.declared.known.Known.{Known}
use Rattle.run_types.specs.declared.resolved.At.{At}
use Rattle.graph_model.specs.declared.types.Value.{Value}
use Rattle.graph_model.specs.declared.types.Value.TheVariants as value
use Rattle.graph_model.specs.Heaps.{IsBelow}
use Rattle.run_history.specs.Worlds.{World}
use Rattle.natives.specs.declared.requests.Reply.{Reply}
use Rattle.natives.specs.declared.texts.Spelling.{Spelling}
use Rattle.natives.specs.declared.texts.Text.{Text}
use Rattle.natives.specs.declared.texts.Text.TheVariants.{Spelled, String}
use Rattle.natives.specs.declared.positions.Pair.{Pair}
use Rattle.natives.specs.declared.positions.Single.TheVariants as single
use Rattle.natives.specs.declared.positions.Equality.{Equality}
use Rattle.natives.specs.declared.positions.Equality.TheVariants as equality
use Rattle.natives.specs.declared.positions.Builder.{Builder}
use Rattle.natives.specs.declared.positions.Stream.{Stream}
use Rattle.natives.specs.declared.positions.Purpose.{Purpose}
use Rattle.natives.specs.declared.positions.Purpose.TheVariants as purpose
use Rattle.natives.specs.declared.positions.ObjectText.{ObjectText}
use Rattle.natives.specs.declared.positions.ObjectText.TheVariants as object
use Rattle.natives.specs.declared.positions.NewBuilder.{NewBuilder}
use Rattle.natives.specs.declared.positions.NewBuilder.TheVariants as new
use Rattle.natives.specs.declared.positions.Appending.{Appending}
use Rattle.natives.specs.declared.positions.Append.{Append}
use Rattle.natives.specs.declared.positions.Append.TheVariants as append
use Rattle.natives.specs.declared.positions.Copied.{Copied}
use Rattle.natives.specs.declared.positions.Copied.TheVariants as copied
use Rattle.natives.specs.declared.positions.Copying.{Copying}
use Rattle.natives.specs.declared.positions.Copies.{Copies}
use Rattle.natives.specs.declared.positions.Copies.TheVariants as copies
use Rattle.natives.specs.declared.positions.BuiltText.{BuiltText}
use Rattle.natives.specs.declared.positions.BuiltText.TheVariants as built
use Rattle.natives.specs.declared.positions.Reading.{Reading}
use Rattle.natives.specs.declared.positions.Printing.{Printing}
use Rattle.natives.specs.declared.positions.Printing.TheVariants as printing
use Rattle.natives.specs.declared.positions.Running.{Running}
use Rattle.natives.specs.declared.positions.Running.TheVariants as running
use Rattle.natives.specs.declared.positions.Position.{Position}
use Rattle.natives.specs.declared.positions.Position.TheVariants as position
use Rattle.natives.specs.declared.positions.Moved.{Moved}
use Rattle.natives.specs.declared.positions.Moved.TheVariants.{Asks, Calls, Gives}
use Rattle.natives.specs.Values.{char_of, int_in, reference_in, is_yes, item_in, printed_in}
use Rattle.natives.specs.Texts.{chars_of, string_text, characters, last_characters, spelled_bytes}
use Rattle.natives.specs.Scripts.{sum, larger}
use Rattle.natives.specs.Positions as move
use Rattle.natives.specs.Positions.{pour, read_kind, put_kind, put_from}
use Rattle.natives.specs.Texts.{fits}
use Rattle.natives.proofs.Wholes.{by_bool, AreWhole, characters_whole, characters_few, last_whole, last_few, string_piece}
use Rattle.natives.proofs.Wholes.{IsPieceText, longer_too, longer, fewer}
use Rattle.natives.specs.Positions.{bytes_in, asks_at}
use Rattle.plain_model.specs.Facts.{SetFacts}
use Rattle.plain_model.specs.Duties.{IsReferenceIn, IsOfKind, IsFit}
use Rattle.plain_frames.specs.Codes.{is_null}
use Rattle.plain_frames.specs.Methods.{plain_values}
use Rattle.plain_frames.specs.Worlds.{text_refs, texts_refs, purpose_ref, appending_refs, copied_refs, copying_refs}
use Rattle.plain_frames.specs.Worlds.{reading_refs, refs_of, text_pieces, pieces_if, pieces_of}
use Rattle.plain_frames.proofs.Facts.{KnownFits}

-- null, or one of the first n objects
abbrev pub IsRefIn : ℕ → Value → Type 0
IsRefIn n value.Null = Unit {0}
IsRefIn n (value.Obj k) = k < n
IsRefIn n v = ⊥

abbrev pub AllIn : ℕ → List Value → Type 0
AllIn n [] = Unit {0}
AllIn n (r ∷ rs) = IsRefIn n r × AllIn n rs

abbrev pub ArePieces : List (List ℕ) → Type 0
ArePieces [] = Unit {0}
ArePieces (piece ∷ pieces) = IsPiece piece × ArePieces pieces

pub record IsAt (n : ℕ) (p : Position Value) : Type 0 where
  pub refs : AllIn n (refs_of p)
  pub pieces : ArePieces (pieces_of p)

abbrev pub IsGivenBack : ℕ → Option Value → Type 0
IsGivenBack n None = Unit {0}
IsGivenBack n (Some v) = IsBelow n v

abbrev pub IsMovedAt : ℕ → Moved Value Value → Type 0
IsMovedAt n (Asks p) = IsAt n p
IsMovedAt n (Calls p called class receiver) = IsAt n p × IsRefIn n receiver
IsMovedAt n (Gives v) = IsGivenBack n v

pub ref_below : (n : ℕ) (v : Value) → IsRefIn n v → IsBelow n v
ref_below n value.Null h = tt
ref_below n (value.Obj k) h = h
ref_below n (value.Int i) h = tt
ref_below n (value.Long i) h = tt

module _ (set : SetFacts) (world : World) (t : ℕ) (known : Known) (from : At)
    (fit : KnownFits set known) where
  abbrev pub there : ℕ
  there = length world.heap.objects

  pub in_world : (r : Value) → IsRefIn there r → IsReferenceIn world r
  in_world value.Null h = tt
  in_world (value.Obj k) h = h
  in_world (value.Int i) h = h
  in_world (value.Long i) h = h

  pub put_fit : (c : Copied Value) (char : ℤ) → IsOfKind world (put_kind c) (value.Int char)
  put_fit (copied.Larger to text count n) char = tt
  put_fit (copied.Appended to count) char = tt
  put_fit copied.Built char = tt

  abbrev pub IsFitAt : Position Value → Type 0
  IsFitAt p = IsFit set world t (asks_at plain_values known from p)

  pub fit_at : (p : Position Value) → IsAt there p → IsFitAt p
  fit_at (position.Single (single.Same pair)) h =
      (in_world pair.left h.refs.0, in_world pair.right h.refs.1.0)
  fit_at (position.Single (single.Length r)) h = in_world r h.refs.0
  fit_at (position.Single (single.CharAt r i)) h = in_world r h.refs.0
  fit_at (position.Single (single.SetTarget r target)) h =
      (fit.target, in_world r h.refs.0, in_world target h.refs.1.0)
  fit_at (position.Single (single.Start r)) h = in_world r h.refs.0
  fit_at (position.Single (single.Join r)) h = in_world r h.refs.0
  fit_at (position.Single (single.SetMessage r message)) h =
      (fit.message, in_world r h.refs.0, in_world message h.refs.1.0)
  fit_at (position.Single (single.Message r)) h = (fit.message, in_world r h.refs.0)
  fit_at (position.Single single.Begin) h = tt
  fit_at (position.Single single.End) h = tt
  fit_at (position.Equality (equality.Same pair)) h =
      (in_world pair.left h.refs.0, in_world pair.right h.refs.1.0)
  fit_at (position.Equality (equality.IsString pair)) h = (fit.string, in_world pair.right h.refs.1.0)
  fit_at (position.Equality (equality.LeftLength pair)) h = in_world pair.left h.refs.0
  fit_at (position.Equality (equality.RightLength pair m)) h = in_world pair.right h.refs.1.0
  fit_at (position.Equality (equality.LeftChar pair n i)) h = in_world pair.left h.refs.0
  fit_at (position.Equality (equality.RightChar pair n i c)) h = in_world pair.right h.refs.1.0
  fit_at (position.ObjectText (object.IsString to o)) h = (fit.string, in_world o h.refs.0)
  fit_at (position.ObjectText (object.Class to o)) h = (fit.object, in_world o h.refs.0)
  fit_at (position.ObjectText (object.Result to)) h = tt
  fit_at (position.NewBuilder (new.Array r text)) h = fit.chars
  fit_at (position.NewBuilder (new.Value r text array)) h =
      (fit.value, in_world r h.refs.0, in_world array h.refs.1.0)
  fit_at (position.Append (append.Count to text)) h = (fit.count, in_world to.builder h.refs.0)
  fit_at (position.Append (append.Array to text count)) h = (fit.value, in_world to.builder h.refs.0)
  fit_at (position.Append (append.Capacity b)) h = in_world b.array h.refs.1.0
  fit_at (position.Append (append.Length b r c)) h = in_world r h.refs.0
  fit_at (position.Append (append.Larger b n c)) h = fit.chars
  fit_at (position.Append (append.Value b n)) h =
      (fit.value, in_world b.to.builder h.refs.0, in_world b.array h.refs.1.0)
  fit_at (position.Append (append.Char to array count spelling i)) h = (in_world array h.refs.1.0, tt)
  fit_at (position.Append (append.Total to total)) h = (fit.count, in_world to.builder h.refs.0, tt)
  fit_at (position.Copies (copies.Read c)) h = in_world c.source h.refs.0
  fit_at (position.Copies (copies.Put c char)) h = (in_world c.target h.refs.1.0, put_fit c.after char)
  fit_at (position.BuiltText (built.Count r)) h = (fit.count, in_world r h.refs.0)
  fit_at (position.BuiltText (built.Array r count)) h = (fit.value, in_world r h.refs.0)
  fit_at (position.BuiltText (built.Text r count)) h = tt
  fit_at (position.Printing (printing.Enter to text)) h = in_world to.stream h.refs.0
  fit_at (position.Printing (printing.Length to r)) h = in_world r h.refs.1.0
  fit_at (position.Printing (printing.Char to reading piece)) h = in_world reading.text h.refs.1.0
  fit_at (position.Printing (printing.Piece to piece rest reading)) h = h.pieces.0
  fit_at (position.Printing (printing.Exit r)) h = in_world r h.refs.0
  fit_at (position.Running (running.Target r)) h = (fit.target, in_world r h.refs.0)
  fit_at (position.Running (running.Class r)) h = (fit.runnable, in_world r h.refs.0)
  fit_at (position.Running running.Result) h = tt

-- what a reply holds is among the first n objects
pub record IsReplyIn (n : ℕ) (r : Reply Value Value) : Type 0 where
  pub ref : IsRefIn n (reference_in plain_values r)
  pub item : IsGivenBack n (item_in r)

pub both_piece : (piece c : List ℕ) → 0 < length c → fits piece c ≡ true → IsPiece (piece ++ c)
both_piece piece c some is = let few : length piece + length c ≤ 24 = grind (arith, nat_tests) in
    (longer_too piece c some, omega (arith, few, length-append piece c))

pub left_few : (k : ℕ) (piece : List ℕ) → length piece ≤ 24 → length (drop (max 1 k) piece) ≤ 24
left_few k piece few = rw length-drop (omega arith)

module _ (n : ℕ) where
  pub asks_so : (p : Position Value) → AllIn n (refs_of p) → ArePieces (pieces_of p) → IsMovedAt n (Asks p)
  asks_so p h q = record { refs = h; pieces = q }

  pub chars_from_in : (pair : Pair Value) (m i : ℤ) → IsRefIn n pair.left → IsRefIn n pair.right
      → IsMovedAt n (move.chars_from plain_values pair m i)
  chars_from_in pair m i p q = by_bool (int_lt i m)
      (λ is. rw is (asks_so (position.Equality (equality.LeftChar pair m i)) (p, (q, tt)) tt))
      (λ is. rw is tt)

  pub equality_in : (p : Equality Value) (r : Reply Value Value) → IsAt n (position.Equality p)
      → IsMovedAt n (move.equality_next plain_values p r)
  equality_in (equality.Same pair) r h = by_bool (is_yes plain_values r) (λ is. rw is tt)
      (λ is. rw is (by_bool (is_null pair.right) (λ null. rw null tt)
      (λ null. rw null (asks_so (position.Equality (equality.IsString pair)) h.refs tt))))
  equality_in (equality.IsString pair) r h = by_bool (is_yes plain_values r)
      (λ is. rw is (asks_so (position.Equality (equality.LeftLength pair)) h.refs tt)) (λ is. rw is tt)
  equality_in (equality.LeftLength pair) r h =
      asks_so (position.Equality (equality.RightLength pair (int_in plain_values r))) h.refs tt
  equality_in (equality.RightLength pair m) r h = by_bool (int_eq m (int_in plain_values r))
      (λ is. rw is (chars_from_in pair m (pos 0) h.refs.0 h.refs.1.0)) (λ is. rw is tt)
  equality_in (equality.LeftChar pair m i) r h =
      asks_so (position.Equality (equality.RightChar pair m i (int_in plain_values r))) h.refs tt
  equality_in (equality.RightChar pair m i c) r h = by_bool (int_eq c (int_in plain_values r))
      (λ is. rw is (chars_from_in pair m (i +ℤ pos 1) h.refs.0 h.refs.1.0)) (λ is. rw is tt)

  pub pieces_of_text : (text : Text Value) → IsPieceText text → ArePieces (text_pieces text)
  pieces_of_text (Spelled spelling) h = (h, tt)
  pieces_of_text (String r) h = tt

  pub begins_in : (to : Purpose Value) (text : Text Value) → IsRefIn n (purpose_ref to) → AllIn n
      (text_refs text)
      → IsPieceText text → IsAt n (move.begins plain_values to text)
  begins_in (purpose.Append to) text r h q = record { refs = (r, h); pieces = tt }
  begins_in (purpose.Print to) text r h q = record { refs = (r, h); pieces = pieces_of_text text q }

  pub string_refs : (r : Value) → IsRefIn n r → AllIn n (text_refs (string_text plain_values r))
  string_refs value.Null h = tt
  string_refs (value.Obj k) h = (h, tt)
  string_refs (value.Int i) h = absurd h
  string_refs (value.Long i) h = absurd h

  pub object_in : (p : ObjectText Value) (r : Reply Value Value) → IsAt n (position.ObjectText p)
      → IsReplyIn n r
      → IsMovedAt n (move.object_next plain_values p r)
  object_in (object.IsString to o) r h q = by_bool (is_yes plain_values r)
      (λ is. rw is (begins_in to (String o) h.refs.1.0 (h.refs.0, tt) tt))
      (λ is. rw is (asks_so (position.ObjectText (object.Class to o)) h.refs tt))
  object_in (object.Class to o) r h q = (record { refs = h.refs.1; pieces = tt }, h.refs.0)
  object_in (object.Result to) r h q = begins_in to (string_text plain_values
      (reference_in plain_values r)) h.refs.0
      (string_refs (reference_in plain_values r) q.ref) (string_piece plain_values
      (reference_in plain_values r))

  pub appends_if_in : (b : Value) (text : Option (Text Value)) → IsRefIn n b → AllIn n (texts_refs text)
      → IsMovedAt n (move.appends_if plain_values b text)
  appends_if_in b None r h = tt
  appends_if_in b (Some text) r h = record { refs = (r, h); pieces = tt }

  pub new_in : (p : NewBuilder Value) (r : Reply Value Value) → IsAt n (position.NewBuilder p) → IsReplyIn n r
      → IsMovedAt n (move.new_next plain_values p r)
  new_in (new.Array b text) r h q = record { refs = (h.refs.0, (q.ref, h.refs.1)); pieces = tt }
  new_in (new.Value b text array) r h q = appends_if_in b text h.refs.0 h.refs.1.1

  pub copied_in : (target : Value) (m : ℤ) (c : Copied Value) → IsRefIn n target → AllIn n (copied_refs c)
      → IsMovedAt n (move.copied_to plain_values target m c)
  copied_in target m (copied.Larger to text count k) t h = record { refs = (h.0, (t, h.1)); pieces = tt }
  copied_in target m (copied.Appended to count) t h = record { refs = h; pieces = tt }
  copied_in target m copied.Built t h = ref_below n target t

  pub copies_from_in : (c : Copying Value) → AllIn n (copying_refs c) → IsMovedAt n
      (move.copies_from plain_values c)
  copies_from_in c h = by_bool (int_lt c.at c.end)
      (λ is. rw is (asks_so (position.Copies (copies.Read c)) h tt))
      (λ is. rw is (copied_in c.target c.end c.after h.1.0 h.1.1))

  pub copies_in : (p : Copies Value) (r : Reply Value Value) → IsAt n (position.Copies p)
      → IsMovedAt n (move.copies_next plain_values p r)
  copies_in (copies.Read c) r h = record { refs = h.refs; pieces = tt }
  copies_in (copies.Put c char) r h = copies_from_in (record c { at = c.at +ℤ pos 1 }) h.refs

  pub puts_from_in : (to : Builder Value) (array : Value) (count : ℤ) (spelling : Spelling) (i : ℕ)
      → IsRefIn n to.builder → IsRefIn n array → IsMovedAt n
      (move.puts_from plain_values to array count spelling i)
  puts_from_in to array count spelling i b h = by_bool (nat_lt i (length (chars_of spelling)))
      (λ is. rw is (asks_so (position.Append (append.Char to array count spelling i)) (b, (h, tt)) tt))
      (λ is. rw is (asks_so (position.Append (append.Total to (sum count (pos (length
      (chars_of spelling)))))) (b, tt) tt))

  pub writes_in : (a : Appending Value) (text : Text Value) (m : ℤ) → IsRefIn n a.to.builder
      → IsRefIn n a.array
      → AllIn n (text_refs text) → IsMovedAt n (move.writes plain_values a text m)
  writes_in a (Spelled spelling) m b h q = puts_from_in a.to a.array a.count spelling 0 b h
  writes_in a (String r) m b h q = copies_from_in (record {
    source = r;
    target = a.array;
    at = pos 0;
    end = m;
    after = copied.Appended a.to a.count;
  }) (q.0, (h, (b, tt)))

  pub makes_room_in : (a : Appending Value) (m c : ℤ) → AllIn n (appending_refs a)
      → IsMovedAt n (move.makes_room plain_values a m c)
  makes_room_in a m c h = by_bool (int_lt c (sum a.count m))
      (λ is. rw is (asks_so (position.Append (append.Larger a m (larger c (sum a.count m)))) h tt))
      (λ is. rw is (writes_in a a.text m h.0 h.1.0 h.1.1))

  pub measures_in : (a : Appending Value) (text : Text Value) (c : ℤ) → AllIn n (appending_refs a)
      → AllIn n (text_refs text) → IsMovedAt n (move.measures plain_values a text c)
  measures_in a (Spelled spelling) c h q = makes_room_in a (pos (length (chars_of spelling))) c h
  measures_in a (String r) c h q = record { refs = (q.0, h); pieces = tt }

  pub given_back_in : (to : Builder Value) → IsRefIn n to.builder → IsGivenBack n
      (move.given_back plain_values to)
  given_back_in to h = by_bool to.is_new (λ is. rw is tt) (λ is. rw is (ref_below n to.builder h))

  pub append_in : (p : Append Value) (r : Reply Value Value) → IsAt n (position.Append p) → IsReplyIn n r
      → IsMovedAt n (move.append_next plain_values p r)
  append_in (append.Count to text) r h q = record { refs = h.refs; pieces = tt }
  append_in (append.Array to text count) r h q = record { refs = (h.refs.0, (q.ref, h.refs.1)); pieces = tt }
  append_in (append.Capacity a) r h q = measures_in a a.text (int_in plain_values r) h.refs h.refs.1.1
  append_in (append.Length a text c) r h q = makes_room_in a (int_in plain_values r) c h.refs.1
  append_in (append.Larger a m c) r h q = copies_from_in (record {
    source = a.array;
    target = reference_in plain_values r;
    at = pos 0;
    end = a.count;
    after = copied.Larger a.to a.text a.count m;
  }) (h.refs.1.0, (q.ref, (h.refs.0, h.refs.1.1)))
  append_in (append.Value a m) r h q = writes_in a a.text m h.refs.0 h.refs.1.0 h.refs.1.1
  append_in (append.Char to array count spelling i) r h q =
      puts_from_in to array count spelling (i + 1) h.refs.0 h.refs.1.0
  append_in (append.Total to total) r h q = given_back_in to h.refs.0

  pub built_in : (p : BuiltText Value) (r : Reply Value Value) → IsAt n (position.BuiltText p) → IsReplyIn n r
      → IsMovedAt n (move.built_next plain_values p r)
  built_in (built.Count b) r h q = record { refs = h.refs; pieces = tt }
  built_in (built.Array b count) r h q = record { refs = (q.ref, tt); pieces = tt }
  built_in (built.Text array count) r h q = copies_from_in (record {
    source = array;
    target = reference_in plain_values r;
    at = pos 0;
    end = count;
    after = copied.Built;
  }) (h.refs.0, (q.ref, tt))

  -- pieces that are gathered are pieces
  pub poured_pieces : (cs : List (List ℕ)) → AreWhole cs → length (concat cs) ≤ 24 → (piece : Option (List ℕ))
      → ArePieces (pieces_if piece)
      → ArePieces (pieces_if (pour piece cs).full) × ArePieces (pieces_if (pour piece cs).rest)
  poured_pieces [] whole few piece h = (tt, h)
  poured_pieces (c ∷ cs) whole few piece h = by_bool (fits (bytes_in piece) c)
      (λ is. rw is (poured_pieces cs whole.1 (fewer c (concat cs) few) (Some (bytes_in piece ++ c))
      (both_piece (bytes_in piece) c whole.0 is, tt)))
      (λ is. rw is (h, ((longer c (concat cs) whole.0, few), tt)))

  pub finishes_in : (to : Stream Value) (piece : Option (List ℕ)) → IsRefIn n to.stream → ArePieces
      (pieces_if piece)
      → IsMovedAt n (move.finishes plain_values to piece)
  finishes_in to None s h = record { refs = (s, tt); pieces = tt }
  finishes_in to (Some piece) s h = record { refs = (s, tt); pieces = h }

  pub full_in : (to : Stream Value) (reading : Option (Reading Value)) (full rest : Option (List ℕ))
      (k : Option (List ℕ) → Moved Value Value)
      → IsRefIn n to.stream → AllIn n (reading_refs reading)
      → ArePieces (pieces_if full) → ArePieces (pieces_if rest)
      → ((piece : Option (List ℕ)) → ArePieces (pieces_if piece) → IsMovedAt n (k piece))
      → IsMovedAt n (move.prints_full plain_values to reading full rest k)
  full_in to reading None rest k s h p q f = f rest q
  full_in to reading (Some piece) rest k s h p q f = record { refs = (s, h); pieces = (p.0, q) }

  pub ends_in : (to : Stream Value) (held : Option ℕ) (piece : Option (List ℕ)) → IsRefIn n to.stream
      → ArePieces (pieces_if piece) → IsMovedAt n (move.ends plain_values to held piece)
  ends_in to held piece s h =
      let poured = poured_pieces (last_characters held to.is_line) (last_whole held to.is_line)
      (last_few held to.is_line) piece h in
      full_in to None _ _ (move.finishes plain_values to) s tt poured.0 poured.1
      (λ rest q. finishes_in to rest s q)

  pub reads_in : (to : Stream Value) (reading : Reading Value) (piece : Option (List ℕ)) → IsRefIn n to.stream
      → IsRefIn n reading.text → ArePieces (pieces_if piece) → IsMovedAt n
      (move.reads plain_values to reading piece)
  reads_in to reading piece s r h = by_bool (int_lt reading.at reading.length)
      (λ is. rw is (asks_so (position.Printing (printing.Char to reading piece)) (s, (r, tt)) h))
      (λ is. rw is (ends_in to reading.held piece s h))

  pub resumes_in : (to : Stream Value) (reading : Option (Reading Value)) (piece : Option (List ℕ))
      → IsRefIn n to.stream → AllIn n (reading_refs reading) → ArePieces (pieces_if piece)
      → IsMovedAt n (move.resumes plain_values to reading piece)
  resumes_in to None piece s r h = finishes_in to piece s h
  resumes_in to (Some reading) piece s r h = reads_in to
      (record reading { at = reading.at +ℤ pos 1 }) piece s r.0 h

  pub gathers_in : (to : Stream Value) (reading : Reading Value) (piece : Option (List ℕ)) (cs : List
      (List ℕ))
      → IsRefIn n to.stream → IsRefIn n reading.text → ArePieces (pieces_if piece) → AreWhole cs
      → length (concat cs) ≤ 24 → IsMovedAt n (move.gathers plain_values to reading piece cs)
  gathers_in to reading piece cs s r h whole few =
      let poured = poured_pieces cs whole few piece h in
      full_in to (Some reading) _ _ (move.reads_on plain_values to reading) s (r, tt) poured.0 poured.1
      (λ rest q. resumes_in to (Some reading) rest s (r, tt) q)

  pub prints_in : (to : Stream Value) (reading : Option (Reading Value)) (rest : Option (List ℕ))
      (left : List ℕ)
      → length left ≤ 24 → IsRefIn n to.stream → AllIn n (reading_refs reading) → ArePieces (pieces_if rest)
      → IsMovedAt n (move.prints plain_values to reading rest left)
  prints_in to reading rest [] few s r h = resumes_in to reading rest s r h
  prints_in to reading rest (b ∷ bytes) few s r h = record { refs = (s, r); pieces = ((omega arith, few), h) }

  pub entered_in : (to : Stream Value) (text : Text Value) → IsRefIn n to.stream → AllIn n (text_refs text)
      → ArePieces (text_pieces text) → IsMovedAt n (move.entered plain_values to text)
  entered_in to (Spelled spelling) s r h = ends_in to None (Some (spelled_bytes spelling)) s h
  entered_in to (String r') s r h = record { refs = (s, r); pieces = tt }

  pub printing_in : (p : Printing Value) (r : Reply Value Value) → IsAt n (position.Printing p)
      → IsMovedAt n (move.printing_next plain_values p r)
  printing_in (printing.Enter to text) r h = entered_in to text h.refs.0 h.refs.1 h.pieces
  printing_in (printing.Length to text) r h =
      reads_in to
      (record { text = text; at = pos 0; length = int_in plain_values r; held = None }) None h.refs.0
      h.refs.1.0 tt
  printing_in (printing.Char to reading piece) r h = let c = char_of (int_in plain_values r) in
      gathers_in to (move.with_held plain_values reading c) piece
      (characters reading.held c) h.refs.0 h.refs.1.0
      h.pieces (characters_whole reading.held c) (characters_few reading.held c)
  printing_in (printing.Piece to piece rest reading) r h = prints_in to reading rest
      (drop (max 1 (printed_in r)) piece) (left_few
      (printed_in r) piece h.pieces.0.1) h.refs.0 h.refs.1 h.pieces.1
  printing_in (printing.Exit stream) r h = tt

  pub runs_target_in : (target : Value) → IsRefIn n target → IsMovedAt n
      (move.runs_target plain_values target)
  runs_target_in target h = by_bool (is_null target) (λ is. rw is tt)
      (λ is. rw is (asks_so (position.Running (running.Class target)) (h, tt) tt))

  pub running_in : (p : Running Value) (r : Reply Value Value) → IsAt n (position.Running p) → IsReplyIn n r
      → IsMovedAt n (move.running_next plain_values p r)
  running_in (running.Target thread) r h q = runs_target_in (reference_in plain_values r) q.ref
  running_in (running.Class target) r h q = (record { refs = tt; pieces = tt }, h.refs.0)
  running_in running.Result r h q = tt

  pub next_in : (p : Position Value) (r : Reply Value Value) → IsAt n p → IsReplyIn n r
      → IsMovedAt n (move.next_at plain_values p r)
  next_in (position.Single p) r h q = q.item
  next_in (position.Equality p) r h q = equality_in p r h
  next_in (position.ObjectText p) r h q = object_in p r h q
  next_in (position.NewBuilder p) r h q = new_in p r h q
  next_in (position.Append p) r h q = append_in p r h q
  next_in (position.Copies p) r h q = copies_in p r h
  next_in (position.BuiltText p) r h q = built_in p r h q
  next_in (position.Printing p) r h q = printing_in p r h
  next_in (position.Running p) r h q = running_in p r h q
