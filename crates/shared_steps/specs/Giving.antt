-- What a store stores is what its request gives.
use Rattle.std.specs.Prelude.{IfSome}
use Rattle.ap_base.specs.declared.reference.Ref.{Ref}
use Rattle.ap_base.specs.declared.reference.Item.{Item}
use Rattle.ap_base.specs.declared.place.Place.{Place}
use Rattle.natives.specs.declared.requests.Request.{Request}
use Rattle.shared_objects.specs.Shown.{Shown}
use Rattle.step_forms.specs.declared.stepped.Stepped.{Stepped}
use Rattle.step_forms.specs.Becomes.{given}
use Rattle.object_steps.specs.Stores.{StoresOf}

-- A request that gives an item to a place stores what the place keeps of that very item.
abbrev pub StoresGiven : {Heap : Type 0} → (Heap → Shown) → (Heap → Place → Item → Heap → Type 0) → Heap
    → Request Ref Item → Stepped → Heap → Type 0
StoresGiven shown stores before request result now =
    IfSome (given request) (λ value. StoresOf shown stores before value result now)
