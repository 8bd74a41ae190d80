-- Requests and replies of the plain machine: numbers of objects stand in place of references.
use Rattle.ap_base.specs.declared.reference.Ref.{Ref}
use Rattle.ap_base.specs.declared.reference.Item.{Item}
use Rattle.run_types.specs.declared.key.Key.{Key}
use Rattle.run_types.specs.declared.key.Key.TheVariants as key
use Rattle.natives.specs.declared.requests.Request.{Request}
use Rattle.natives.specs.declared.requests.Request.TheVariants as ask
use Rattle.natives.specs.declared.requests.Reply.{Reply}
use Rattle.natives.specs.declared.requests.Reply.TheVariants as reply
use Rattle.frames.specs.Maps.{map_request, map_reply}
use Rattle.plain_model.specs.Requests.{PlainRequest, PlainReply}
use Rattle.shared_objects.specs.Shown.{Numbers, ref_value, item_value, IsKnown, IsKnownItem}

-- the request, and the reply, that the plain machine sees
abbrev pub plain_request : Numbers → Request Ref Item → PlainRequest
plain_request number request = map_request (ref_value number) (item_value number) request

abbrev pub plain_reply : Numbers → Reply Ref Item → PlainReply
plain_reply number r = map_reply (ref_value number) (item_value number) r

abbrev pub IsKnownKey : Numbers → Key Ref → Type 0
IsKnownKey number (key.Object r) = IsKnown number r
IsKnownKey number (key.Class n) = Unit {0}

-- each reference of the request is null or an object's
abbrev pub KnowsRequest : Numbers → Request Ref Item → Type 0
KnowsRequest number (ask.PutStatic from field value) = IsKnownItem number value
KnowsRequest number (ask.GetField from holder field) = IsKnown number holder
KnowsRequest number (ask.PutField from holder field value) = IsKnown number holder × IsKnownItem number value
KnowsRequest number (ask.GetElement from array index kind) = IsKnown number array
KnowsRequest number (ask.PutElement from array index kind value) = IsKnown number array
    × IsKnownItem number value
KnowsRequest number (ask.Length from array) = IsKnown number array
KnowsRequest number (ask.ClassOf from object within) = IsKnown number object
KnowsRequest number (ask.Cast from object target) = IsKnown number object
KnowsRequest number (ask.IsA from object target) = IsKnown number object
KnowsRequest number (ask.Same from left right) = IsKnown number left × IsKnown number right
KnowsRequest number (ask.Enter from k) = IsKnownKey number k
KnowsRequest number (ask.Exit from k) = IsKnownKey number k
KnowsRequest number (ask.Start from thread) = IsKnown number thread
KnowsRequest number (ask.Join from thread) = IsKnown number thread
KnowsRequest number ask.Pause = Unit {0}
KnowsRequest number (ask.Broken f) = Unit {0}
KnowsRequest number (ask.New from class) = Unit {0}
KnowsRequest number (ask.NewArray from shape count) = Unit {0}
KnowsRequest number (ask.NewText from count) = Unit {0}
KnowsRequest number (ask.GetStatic from field) = Unit {0}
KnowsRequest number (ask.Init from class) = Unit {0}
KnowsRequest number (ask.InitDone from class) = Unit {0}
KnowsRequest number (ask.Print from piece) = Unit {0}
KnowsRequest number (ask.Raise from class) = Unit {0}
KnowsRequest number (ask.Begin from) = Unit {0}
KnowsRequest number (ask.End from) = Unit {0}
KnowsRequest number (ask.Leave uncaught) = Unit {0}

-- the same for a reply
abbrev pub KnowsReply : Numbers → Reply Ref Item → Type 0
KnowsReply number (reply.Item value) = IsKnownItem number value
KnowsReply number (reply.Made r) = IsKnown number r
KnowsReply number (reply.Thrown r class) = IsKnown number r
KnowsReply number reply.Done = Unit {0}
KnowsReply number (reply.Shape shape) = Unit {0}
KnowsReply number (reply.Init class) = Unit {0}
KnowsReply number (reply.Printed count) = Unit {0}
