-- Which replies a request may get: of its kind, and such as a place of that kind may hold.
use Rattle.std.specs.Prelude.{◌≡◌, ℕ, ◌<◌, ◌≤◌, true, List, length}
use Rattle.ap_base.specs.declared.kind.Kind.{Kind}
use Rattle.ap_base.specs.declared.kind.Kind.TheVariants.{Z, C, I, Text}
use Rattle.graph_model.specs.declared.types.Value.{Value}
use Rattle.graph_model.specs.declared.types.Value.TheVariants.{Obj as Object}
use Rattle.graph_model.specs.Heaps.{IsBelow}
use Rattle.natives.specs.declared.requests.Request.TheVariants as ask
use Rattle.natives.specs.declared.requests.Reply.TheVariants as reply
use Rattle.plain_model.specs.Facts.{SetFacts, is_sub}
use Rattle.plain_model.specs.Kinds.{IsOf}
use Rattle.plain_model.specs.Requests.{PlainRequest, PlainReply}
use Rattle.plain_model.specs.Duties.{IsThrowable}

-- what the reply names, if it names an object, is among the first n
abbrev pub NamesBelow : ℕ → PlainReply → Type 0
NamesBelow n (reply.Item value) = IsBelow n value
NamesBelow n (reply.Made object) = IsBelow n object
NamesBelow n (reply.Thrown object class) = IsBelow n object
NamesBelow n r = Unit {0}

abbrev pub IsObject : Value → Type 0
IsObject (Object n) = Unit {0}
IsObject value = ⊥

abbrev pub IsDone : PlainReply → Type 0
IsDone reply.Done = Unit {0}
IsDone r = ⊥

-- a value of this kind
abbrev pub IsItem : Kind → PlainReply → Type 0
IsItem kind (reply.Item value) = IsOf kind value
IsItem kind r = ⊥

abbrev pub IsMade : PlainReply → Type 0
IsMade (reply.Made value) = IsObject value
IsMade r = ⊥

-- so many bytes of the piece, at least one
abbrev pub IsPrinted : List ℕ → PlainReply → Type 0
IsPrinted piece (reply.Printed n) = (0 < n) × (n ≤ length piece)
IsPrinted piece r = ⊥

-- the class has to be initialised first, or this
abbrev pub IsInitOr : ℕ → (PlainReply → Type 0) → PlainReply → Type 0
IsInitOr class Is (reply.Init n) = n ≡ class
IsInitOr class Is r = Is r

-- the kind of an element that is read: a String's is a char
abbrev pub read_kind : Kind → Kind
read_kind Text = C
read_kind kind = kind

module _ (set : SetFacts) where
  -- the class of the object, a subtype of this one
  abbrev pub IsShape : ℕ → PlainReply → Type 0
  IsShape within (reply.Shape n) = is_sub set n within ≡ true
  IsShape within r = ⊥

  -- a new throwable, or this
  abbrev pub IsThrownOr : (PlainReply → Type 0) → PlainReply → Type 0
  IsThrownOr Is (reply.Thrown object class) = IsObject object × IsThrowable set class
  IsThrownOr Is r = Is r

  abbrev pub IsNothing : PlainReply → Type 0
  IsNothing r = ⊥

  -- The request may get this reply.
  abbrev pub IsReplyTo : PlainRequest → PlainReply → Type 0
  IsReplyTo ask.Pause r = IsDone r
  IsReplyTo (ask.Broken f) r = IsNothing r
  IsReplyTo (ask.New from class) r = IsInitOr class IsMade r
  IsReplyTo (ask.NewArray from shape count) r = IsThrownOr IsMade r
  IsReplyTo (ask.NewText from count) r = IsThrownOr IsMade r
  IsReplyTo (ask.GetStatic from field) r = IsInitOr field.class (IsItem field.kind) r
  IsReplyTo (ask.PutStatic from field value) r = IsInitOr field.class IsDone r
  IsReplyTo (ask.GetField from holder field) r = IsThrownOr (IsItem field.kind) r
  IsReplyTo (ask.PutField from holder field value) r = IsThrownOr IsDone r
  IsReplyTo (ask.GetElement from array index kind) r = IsThrownOr (IsItem (read_kind kind)) r
  IsReplyTo (ask.PutElement from array index kind value) r = IsThrownOr IsDone r
  IsReplyTo (ask.Length from array) r = IsThrownOr (IsItem I) r
  IsReplyTo (ask.ClassOf from object within) r = IsThrownOr (IsShape within) r
  IsReplyTo (ask.Cast from object target) r = IsThrownOr IsDone r
  IsReplyTo (ask.IsA from object target) r = IsItem Z r
  IsReplyTo (ask.Same from left right) r = IsItem Z r
  IsReplyTo (ask.Enter from key) r = IsThrownOr IsDone r
  IsReplyTo (ask.Exit from key) r = IsThrownOr IsDone r
  IsReplyTo (ask.Start from thread) r = IsThrownOr IsDone r
  IsReplyTo (ask.Join from thread) r = IsThrownOr IsDone r
  IsReplyTo (ask.Init from class) r = IsInitOr class IsDone r
  IsReplyTo (ask.InitDone from class) r = IsDone r
  IsReplyTo (ask.Print from piece) r = IsPrinted piece r
  IsReplyTo (ask.Raise from class) r = IsThrownOr IsNothing r
  IsReplyTo (ask.Begin from) r = IsDone r
  IsReplyTo (ask.End from) r = IsThrownOr IsDone r
  IsReplyTo (ask.Leave uncaught) r = IsDone r
