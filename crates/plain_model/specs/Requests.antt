-- Requests and replies of the plain machine: plain values stand in place of references.
use Rattle.std.specs.Prelude.{Option, Some, None}
use Rattle.run_types.specs.declared.resolved.At.{At}
use Rattle.graph_model.specs.declared.types.Value.{Value}
use Rattle.natives.specs.declared.requests.Request.{Request}
use Rattle.natives.specs.declared.requests.Request.TheVariants as ask
use Rattle.natives.specs.declared.requests.Reply.{Reply}

abbrev pub PlainRequest : Type 0
PlainRequest = Request Value Value

abbrev pub PlainReply : Type 0
PlainReply = Reply Value Value

-- the instruction that asks; pauses, faults and leaves have none
abbrev pub from_of : PlainRequest → Option At
from_of ask.Pause = None
from_of (ask.Broken fault) = None
from_of (ask.New from class) = Some from
from_of (ask.NewArray from shape count) = Some from
from_of (ask.NewText from count) = Some from
from_of (ask.GetStatic from field) = Some from
from_of (ask.PutStatic from field value) = Some from
from_of (ask.GetField from holder field) = Some from
from_of (ask.PutField from holder field value) = Some from
from_of (ask.GetElement from array index kind) = Some from
from_of (ask.PutElement from array index kind value) = Some from
from_of (ask.Length from array) = Some from
from_of (ask.ClassOf from object within) = Some from
from_of (ask.Cast from object target) = Some from
from_of (ask.IsA from object target) = Some from
from_of (ask.Same from left right) = Some from
from_of (ask.Enter from key) = Some from
from_of (ask.Exit from key) = Some from
from_of (ask.Start from thread) = Some from
from_of (ask.Join from thread) = Some from
from_of (ask.Init from class) = Some from
from_of (ask.InitDone from class) = Some from
from_of (ask.Print from piece) = Some from
from_of (ask.Raise from class) = Some from
from_of (ask.Begin from) = Some from
from_of (ask.End from) = Some from
from_of (ask.Leave uncaught) = None
