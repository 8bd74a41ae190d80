-- The built-in methods of a consistent class set keep what frames want of native methods.
use Rattle.std.proofs.Common.{◌≡◌, refl, ℕ, ◌<◌, ◌≤◌, ◌&&◌, Bool, true, false, List, [], ◌∷◌, length, nat_lt, nat_le, Option}
use Rattle.std.proofs.Common.{Some, None, sym, subst, arith}
use Rattle.std.specs.Prelude.{slice_get, All}
use Rattle.std.proofs.lemmas.Bool.Decides.{nat_tests}
use Rattle.std.proofs.lemmas.Option.{get_or_from_slice_get, slice_get_within}
use Rattle.ap_base.specs.Pieces.{IsPiece}
use Rattle.run_types.specs.declared.known.Known.{Known}
use Rattle.graph_model.specs.declared.types.Value.{Value}
use Rattle.graph_model.specs.declared.types.Value.TheVariants as value
use Rattle.graph_model.specs.Heaps.{IsBelow}
use Rattle.natives.specs.declared.methods.Native.{Native}
use Rattle.natives.specs.declared.methods.Native.TheVariants as native
use Rattle.natives.specs.declared.requests.Request.TheVariants as ask
use Rattle.natives.specs.declared.requests.Reply.TheVariants as reply
use Rattle.natives.specs.declared.positions.Purpose.{Purpose}
use Rattle.natives.specs.declared.positions.Position.{Position}
use Rattle.natives.specs.declared.positions.Moved.{Moved}
use Rattle.natives.specs.declared.positions.Moved.TheVariants.{Asks, Calls, Gives}
use Rattle.natives.specs.declared.states.NativeState.{NativeState}
use Rattle.natives.specs.Values.{reference_at}
use Rattle.natives.specs.Texts.{number_text, boolean_text, char_text, null_text, line_feed, string_text}
use Rattle.natives.specs.States.{moved_of}
use Rattle.natives.specs.Positions as move
use Rattle.natives.proofs.Wholes.{by_bool, string_piece, number_piece, boolean_piece, char_piece}
use Rattle.run_history.specs.Worlds.{World}
use Rattle.plain_model.specs.Facts.{SetFacts, known_classes}
use Rattle.plain_model.specs.Requests.{PlainRequest, PlainReply}
use Rattle.plain_model.specs.Replies.{NamesBelow, IsObject, IsReplyTo}
use Rattle.plain_model.specs.Duties.{IsReferenceIn}
use Rattle.plain_model.specs.Consistent.{IsConsistent}
use Rattle.plain_frames.specs.Codes.{is_null}
use Rattle.plain_frames.specs.Sound.{IsGivenIn, IsNativeIn, IsStepIn, IsResult, KeepIn}
use Rattle.plain_frames.specs.Methods.{plain_values, plain_given, plain_natives, reference_of}
use Rattle.plain_frames.specs.Methods as method
use Rattle.plain_frames.specs.Worlds.{purpose_ref, refs_of, pieces_of, is_below, all_below, is_piece, all_pieces, is_known}
use Rattle.plain_frames.specs.Worlds.{is_in}
use Rattle.plain_frames.proofs.Facts.{KnownFits, and_parts, and_both, known_is, known_itself, known_fits}
use Rattle.plain_frames.proofs.Going.{IsRefIn, AllIn, ArePieces, IsAt, IsMovedAt, IsReplyIn, fit_at, begins_in, string_refs}
use Rattle.plain_frames.proofs.Going.{next_in}

-- Tests and facts.
pub ref_is : (n : ℕ) (v : Value) → is_below n v ≡ true → IsRefIn n v
ref_is n value.Null e = tt
ref_is n (value.Obj k) e = grind (arith, nat_tests)
ref_is n (value.Int i) e = absurd (let no : false ≡ true = e in cc)
ref_is n (value.Long i) e = absurd (let no : false ≡ true = e in cc)

pub is_ref : (n : ℕ) (v : Value) → IsRefIn n v → is_below n v ≡ true
is_ref n value.Null h = refl
is_ref n (value.Obj k) h = let less : k < n = h in grind (arith, nat_tests)
is_ref n (value.Int i) h = absurd h
is_ref n (value.Long i) h = absurd h

pub all_are : (n : ℕ) (rs : List Value) → all_below n rs ≡ true → AllIn n rs
all_are n [] e = tt
all_are n (r ∷ rs) e = let parts = and_parts (is_below n r) (all_below n rs) e in
    (ref_is n r parts.0, all_are n rs parts.1)

pub are_all : (n : ℕ) (rs : List Value) → AllIn n rs → all_below n rs ≡ true
are_all n [] h = refl
are_all n (r ∷ rs) h = and_both (is_below n r) (all_below n rs) (is_ref n r h.0) (are_all n rs h.1)

pub piece_is : (bytes : List ℕ) → is_piece bytes ≡ true → IsPiece bytes
piece_is bytes e = let parts = and_parts (nat_lt 0 (length bytes)) (nat_le (length bytes) 24) e in
    let some : nat_lt 0 (length bytes) ≡ true = parts.0 in
    let few : nat_le (length bytes) 24 ≡ true = parts.1 in
    (grind (arith, nat_tests), grind (arith, nat_tests))

pub is_piece_so : (bytes : List ℕ) → IsPiece bytes → is_piece bytes ≡ true
is_piece_so bytes h = let some : 0 < length bytes = h.0 in let few : length bytes ≤ 24 = h.1 in
    and_both (nat_lt 0 (length bytes)) (nat_le (length bytes) 24) (grind (arith, nat_tests)) (grind
    (arith, nat_tests))

pub pieces_are : (pieces : List (List ℕ)) → all_pieces pieces ≡ true → ArePieces pieces
pieces_are [] e = tt
pieces_are (piece ∷ pieces) e = let parts = and_parts (is_piece piece) (all_pieces pieces) e in
    (piece_is piece parts.0, pieces_are pieces parts.1)

pub are_pieces : (pieces : List (List ℕ)) → ArePieces pieces → all_pieces pieces ≡ true
are_pieces [] h = refl
are_pieces (piece ∷ pieces) h =
    and_both (is_piece piece) (all_pieces pieces) (is_piece_so piece h.0) (are_pieces pieces h.1)

-- more objects
pub ref_more : (m n : ℕ) (v : Value) → m ≤ n → IsRefIn m v → IsRefIn n v
ref_more m n value.Null e h = tt
ref_more m n (value.Obj k) e h = let less : k < m = h in omega arith
ref_more m n (value.Int i) e h = h
ref_more m n (value.Long i) e h = h

pub all_more : (m n : ℕ) (rs : List Value) → m ≤ n → AllIn m rs → AllIn n rs
all_more m n [] e h = tt
all_more m n (r ∷ rs) e h = (ref_more m n r e h.0, all_more m n rs e h.1)

-- a reference that is read of a value
pub read_ref : (n : ℕ) (v : Value) → IsBelow n v → IsRefIn n (reference_of v)
read_ref n value.Null h = tt
read_ref n (value.Obj k) h = h
read_ref n (value.Int i) h = tt
read_ref n (value.Long i) h = tt

pub in_a_world_of : (world : World) (r : Value) → IsRefIn (length world.heap.objects) r
    → IsReferenceIn world r
in_a_world_of world value.Null h = tt
in_a_world_of world (value.Obj k) h = h
in_a_world_of world (value.Int i) h = h
in_a_world_of world (value.Long i) h = h

module _ (set : SetFacts) where
  pub record IsStateAt (n : ℕ) (s : NativeState Value) : Type 0 where
    pub known : s.known ≡ known_classes set
    pub place : IsAt n s.position

  pub state_is : (n : ℕ) (s : NativeState Value) → is_in set n s ≡ true → IsStateAt n s
  state_is n s e =
      let parts = and_parts (is_known s.known (known_classes set))
      (all_below n (refs_of s.position) && all_pieces (pieces_of s.position)) e in
      let both = and_parts (all_below n (refs_of s.position)) (all_pieces (pieces_of s.position)) parts.1 in
      record {
        known = known_is s.known (known_classes set) parts.0;
        place = record {
          refs = all_are n (refs_of s.position) both.0;
          pieces = pieces_are (pieces_of s.position) both.1;
        };
      }

  pub is_state : (n : ℕ) (s : NativeState Value) → IsStateAt n s → is_in set n s ≡ true
  is_state n s h = and_both (is_known s.known (known_classes set))
      (all_below n (refs_of s.position) && all_pieces (pieces_of s.position))
      (let P : Known → Type 0 = λ k. is_known k (known_classes set) ≡ true in
      subst P (sym h.known) (known_itself (known_classes set)))
      (and_both (all_below n (refs_of s.position)) (all_pieces (pieces_of s.position))
      (are_all n (refs_of s.position) h.place.refs) (are_pieces (pieces_of s.position) h.place.pieces))

  -- a request whose reply is a new object gets one
  pub made_object : (q : PlainRequest) (o : Value) → IsReplyTo set q (reply.Made o) → IsObject o
  made_object ask.Pause o h = absurd h
  made_object (ask.Broken f) o h = absurd h
  made_object (ask.New from class) o h = h
  made_object (ask.NewArray from shape count) o h = h
  made_object (ask.NewText from count) o h = h
  made_object (ask.GetStatic from field) o h = absurd h
  made_object (ask.PutStatic from field v) o h = absurd h
  made_object (ask.GetField from holder field) o h = absurd h
  made_object (ask.PutField from holder field v) o h = absurd h
  made_object (ask.GetElement from array index kind) o h = absurd h
  made_object (ask.PutElement from array index kind v) o h = absurd h
  made_object (ask.Length from array) o h = absurd h
  made_object (ask.ClassOf from object within) o h = absurd h
  made_object (ask.Cast from object target) o h = absurd h
  made_object (ask.IsA from object target) o h = absurd h
  made_object (ask.Same from left right) o h = absurd h
  made_object (ask.Enter from key) o h = absurd h
  made_object (ask.Exit from key) o h = absurd h
  made_object (ask.Start from thread) o h = absurd h
  made_object (ask.Join from thread) o h = absurd h
  made_object (ask.Init from class) o h = absurd h
  made_object (ask.InitDone from class) o h = absurd h
  made_object (ask.Print from piece) o h = absurd h
  made_object (ask.Raise from class) o h = absurd h
  made_object (ask.Begin from) o h = absurd h
  made_object (ask.End from) o h = absurd h
  made_object (ask.Leave uncaught) o h = absurd h

  pub object_ref : (n : ℕ) (o : Value) → IsObject o → IsBelow n o → IsRefIn n o
  object_ref n value.Null h b = tt
  object_ref n (value.Obj k) h b = b
  object_ref n (value.Int i) h b = absurd h
  object_ref n (value.Long i) h b = absurd h

  pub reply_in : (n : ℕ) (q : PlainRequest) (r : PlainReply) → IsReplyTo set q r → NamesBelow n r
      → IsReplyIn n r
  reply_in n q reply.Done h b = record { ref = tt; item = tt }
  reply_in n q (reply.Item v) h b = record { ref = read_ref n v b; item = b }
  reply_in n q (reply.Made o) h b = record { ref = object_ref n o (made_object q o h) b; item = tt }
  reply_in n q (reply.Shape c) h b = record { ref = tt; item = tt }
  reply_in n q (reply.Init c) h b = record { ref = tt; item = tt }
  reply_in n q (reply.Printed k) h b = record { ref = tt; item = tt }
  reply_in n q (reply.Thrown o c) h b = record { ref = tt; item = tt }

  pub result_in : (n : ℕ) (r : PlainReply) → IsResult r → NamesBelow n r → IsReplyIn n r
  result_in n reply.Done h b = record { ref = tt; item = tt }
  result_in n (reply.Item v) h b = record { ref = read_ref n v b; item = b }
  result_in n (reply.Made o) h b = absurd h
  result_in n (reply.Shape c) h b = absurd h
  result_in n (reply.Init c) h b = absurd h
  result_in n (reply.Printed k) h b = absurd h
  result_in n (reply.Thrown o c) h b = absurd h

  module _ (world : World) where
    abbrev pub there : ℕ
    there = length world.heap.objects

    pub given_in : (v : Value) → IsBelow there v → IsGivenIn world (plain_given v)
    given_in value.Null h = tt
    given_in (value.Obj k) h = h
    given_in (value.Int i) h = tt
    given_in (value.Long i) h = tt

    pub at_state : (s : NativeState Value) (p : Position Value) → s.known ≡ known_classes set → IsAt there p
        → IsNativeIn set (is_in set) world (method.at plain_values plain_given s p)
    at_state s p known place =
        is_state there (method.at plain_values plain_given s p) (record { known = known; place = place })

    pub step_in : (s : NativeState Value) (m : Moved Value Value) → s.known ≡ known_classes set
        → IsMovedAt there m
        → IsStepIn set (is_in set) world (method.step plain_values plain_given s m)
    step_in s (Asks p) known h = at_state s p known h
    step_in s (Calls p called class receiver) known h =
        (at_state s p known h.0, in_a_world_of world receiver h.1)
    step_in s (Gives None) known h = tt
    step_in s (Gives (Some v)) known h = given_in v h

    pub moved_in : (s : NativeState Value) (r : PlainReply) → IsAt there s.position → IsReplyIn there r
        → IsMovedAt there (moved_of plain_values s r)
    moved_in s r h q = by_bool s.is_begun (λ is. rw is (next_in there s.position r h q)) (λ is. rw is h)

    pub goes_in : (s : NativeState Value) (r : PlainReply) → IsNativeIn set (is_in set) world s
        → IsReplyIn there r
        → IsStepIn set (is_in set) world (method.next plain_values plain_given s r)
    goes_in s r e q = let h = state_is there s e in
        step_in s (moved_of plain_values s r) h.known (moved_in s r h.place q)

  -- Where methods stand first.
  module _ (n : ℕ) (values : List Value) (below : All (IsBelow n) values) where
    pub argument_if : (k : ℕ) (o : Option Value) → slice_get values k ≡ o
        → IsRefIn n (elim o as (λ _. Value) [ None ↦ value.Null | Some v ↦ reference_of v ])
    argument_if k None e = tt
    argument_if k (Some v) e = read_ref n v (let P : Value → Type 0 = IsBelow n in
        subst P (get_or_from_slice_get values k v v e) (below k v (slice_get_within values k v e)))

    pub argument_in : (k : ℕ) → IsRefIn n (reference_at plain_values values k)
    argument_in k = argument_if k (slice_get values k) refl

    pub string_in : (to : Purpose Value) → IsRefIn n (purpose_ref to)
        → IsAt n (move.begins plain_values to (string_text plain_values (move.that plain_values values)))
    string_in to r = begins_in n to (string_text plain_values (move.that plain_values values)) r
        (string_refs n (move.that plain_values values) (argument_in 1))
        (string_piece plain_values (move.that plain_values values))

    pub object_in : (to : Purpose Value) → IsRefIn n (purpose_ref to) → IsAt n
        (move.begins_object plain_values values to)
    object_in to r = by_bool (is_null (move.that plain_values values))
        (λ is. rw is (begins_in n to null_text r tt (omega arith, omega arith)))
        (λ is. rw is (record { refs = (argument_in 1, (r, tt)); pieces = tt }))

    pub shows_number : (is_line : Bool) → IsAt n (move.begins plain_values
        (move.shows plain_values values is_line) (number_text (move.int plain_values values)))
    shows_number is_line = begins_in n (move.shows plain_values values is_line) (number_text
        (move.int plain_values values)) (argument_in 0) tt
        (number_piece Value (move.int plain_values values))

    pub shows_long : (is_line : Bool) → IsAt n (move.begins plain_values
        (move.shows plain_values values is_line) (number_text (move.long plain_values values)))
    shows_long is_line = begins_in n (move.shows plain_values values is_line) (number_text
        (move.long plain_values values)) (argument_in 0) tt
        (number_piece Value (move.long plain_values values))

    pub shows_char : (is_line : Bool) → IsAt n (move.begins plain_values
        (move.shows plain_values values is_line) (char_text (move.int plain_values values)))
    shows_char is_line = begins_in n (move.shows plain_values values is_line) (char_text
        (move.int plain_values values)) (argument_in 0) tt
        (char_piece Value (move.int plain_values values))

    pub shows_boolean : (is_line : Bool) → IsAt n (move.begins plain_values
        (move.shows plain_values values is_line) (boolean_text (move.int plain_values values)))
    shows_boolean is_line = begins_in n (move.shows plain_values values is_line) (boolean_text
        (move.int plain_values values)) (argument_in 0) tt
        (boolean_piece Value (move.int plain_values values))

    pub begins_at_in : (k : Native) → IsAt n (move.begins_at plain_values values k)
    begins_at_in native.ObjectEquals = record { refs = (argument_in 0, (argument_in 1, tt)); pieces = tt }
    begins_at_in native.StringLength = record { refs = (argument_in 0, tt); pieces = tt }
    begins_at_in native.StringCharAt = record { refs = (argument_in 0, tt); pieces = tt }
    begins_at_in native.StringEquals = record { refs = (argument_in 0, (argument_in 1, tt)); pieces = tt }
    begins_at_in native.BuilderInit = record { refs = (argument_in 0, tt); pieces = tt }
    begins_at_in native.BuilderInitString = record {
      refs = (argument_in 0, string_refs n (move.that plain_values values) (argument_in 1));
      pieces = tt;
    }
    begins_at_in native.AppendInt = begins_in n (move.adds plain_values values) (number_text
        (move.int plain_values values)) (argument_in 0) tt (number_piece Value (move.int plain_values values))
    begins_at_in native.AppendLong = begins_in n (move.adds plain_values values) (number_text
        (move.long plain_values values)) (argument_in 0) tt (number_piece Value
        (move.long plain_values values))
    begins_at_in native.AppendChar = begins_in n (move.adds plain_values values) (char_text
        (move.int plain_values values)) (argument_in 0) tt (char_piece Value (move.int plain_values values))
    begins_at_in native.AppendBoolean =
        begins_in n (move.adds plain_values values) (boolean_text (move.int plain_values values))
        (argument_in 0) tt (boolean_piece Value (move.int plain_values values))
    begins_at_in native.AppendString = string_in (move.adds plain_values values) (argument_in 0)
    begins_at_in native.AppendObject = object_in (move.adds plain_values values) (argument_in 0)
    begins_at_in native.BuilderToString = record { refs = (argument_in 0, tt); pieces = tt }
    begins_at_in native.PrintInt = shows_number false
    begins_at_in native.PrintLong = shows_long false
    begins_at_in native.PrintChar = shows_char false
    begins_at_in native.PrintBoolean = shows_boolean false
    begins_at_in native.PrintString = string_in (move.shows plain_values values false) (argument_in 0)
    begins_at_in native.PrintObject = object_in (move.shows plain_values values false) (argument_in 0)
    begins_at_in native.PrintLineInt = shows_number true
    begins_at_in native.PrintLineLong = shows_long true
    begins_at_in native.PrintLineChar = shows_char true
    begins_at_in native.PrintLineBoolean = shows_boolean true
    begins_at_in native.PrintLineString = string_in (move.shows plain_values values true) (argument_in 0)
    begins_at_in native.PrintLineObject = object_in (move.shows plain_values values true) (argument_in 0)
    begins_at_in native.PrintLine =
        begins_in n (move.shows plain_values values false) line_feed (argument_in 0) tt
        (omega arith, omega arith)
    begins_at_in native.ThreadInit = record { refs = (argument_in 0, (argument_in 1, tt)); pieces = tt }
    begins_at_in native.ThreadStart = record { refs = (argument_in 0, tt); pieces = tt }
    begins_at_in native.ThreadRun = record { refs = (argument_in 0, tt); pieces = tt }
    begins_at_in native.ThreadJoin = record { refs = (argument_in 0, tt); pieces = tt }
    begins_at_in native.ThrowableInit = record { refs = (argument_in 0, (argument_in 1, tt)); pieces = tt }
    begins_at_in native.ThrowableGetMessage = record { refs = (argument_in 0, tt); pieces = tt }
    begins_at_in native.RegionBegin = record { refs = tt; pieces = tt }
    begins_at_in native.RegionEnd = record { refs = tt; pieces = tt }

pub built_in_methods_keep_in : (set : SetFacts) → IsConsistent set → KeepIn set (plain_natives set)
    (is_in set)
built_in_methods_keep_in set consistent = record {
  asks = λ world t s e. let h = state_is set (length world.heap.objects) s e in
      let P : Known → Type 0 = KnownFits set in
      fit_at set world t s.known s.from (subst P (sym h.known)
      (known_fits set consistent)) s.position h.place;
  start = λ world k from values below. is_state set (length world.heap.objects)
      (method.start plain_values plain_given (known_classes set) k from values)
      (record { known = refl; place = begins_at_in set (length world.heap.objects) values below k });
  answered = λ world s r e h b. goes_in set world s r e
      (reply_in set (length world.heap.objects) (method.asks plain_values plain_given s) r h b);
  returned = λ world s r e h b. goes_in set world s r e (result_in set (length world.heap.objects) r h b);
  more = λ m n s e h. let h' = state_is set m s h in
      is_state set n s (record {
        known = h'.known;
        place = record { refs = all_more m n (refs_of s.position) e h'.place.refs; pieces = h'.place.pieces };
      });
}
