-- A heap without objects, and the references of objects.
use Rattle.std.proofs.Common.{◌≡◌, ℕ, zero, suc, ◌+◌, ◌<◌, List, [], ◌∷◌, ◌++◌, map, length, get_or, slice_get, Option, Some}
use Rattle.std.proofs.Common.{IsSome, refl, ap, ◌∙◌, sym, subst, arith}
use Rattle.std.proofs.lemmas.List.{length-append, length-map}
use Rattle.ap_base.specs.declared.reference.Ref.{Ref}
use Rattle.ap_base.specs.declared.reference.Ref.TheVariants.{Null as NoRef, Persistent, Volatile}
use Rattle.shared_objects.specs.Shown.{Numbers, IsKnown}
use Rattle.graph_model.specs.declared.types.Obj.{Obj}
use Rattle.graph_model.specs.declared.types.Shape.{Shape}
use Rattle.volatile_space.specs.Spaces.{Space}
use Rattle.one_space.specs.declared.space.OneSpace.{OneSpace}
use Rattle.one_space.specs.Layout.{IsLaid, number_in, object_from}
use Rattle.one_space.specs.Making.{HasMade}
use Rattle.one_space.specs.Shows.{shown_of}
use Rattle.one_space.proofs.Stores.{begins_back}

pub nothing_laid : (shapes : List Shape) (words starts : List ℕ) → starts ≡ [] → IsLaid shapes words starts
nothing_laid shapes words starts e = subst (IsLaid shapes words) (sym e) (record {
  inside = λ n below. absurd (omega (arith, below));
  apart = λ m n less below. absurd (omega (arith, below));
  numbered = λ n below. absurd (omega (arith, below));
  shaped = λ n below. absurd (omega (arith, below));
  small = λ n below. absurd (omega (arith, below));
  known = λ n i below. absurd (omega (arith, below));
})

pub nothing_made : (heap : OneSpace) (words : ℕ) → heap.space ≡ record { words = []; left = words }
    → heap.starts.items ≡ []
    → heap.statics.items ≡ [] → HasMade words heap.shapes [] heap
nothing_made heap words space starts statics = record {
  shapes = refl;
  objects = ap (map (object_from heap.shapes heap.space.words heap.starts.items)) starts;
  statics = statics;
  taken = ap (λ (s : Space). length s.words) space;
  left = let left : heap.space.left ≡ words = ap (λ (s : Space). s.left) space in omega (arith, left);
  places = λ n below. absurd (omega (arith, below));
}

slice_got : (xs : List ℕ) (n : ℕ) → n < length xs → slice_get xs n ≡ Some (get_or xs n 0)
slice_got [] n below = absurd (omega (arith, below))
slice_got (x ∷ xs) zero below = refl
slice_got (x ∷ xs) (suc n) below = slice_got xs n (omega (arith, below))

-- an object has the reference to its first index
pub object_number : (shapes : List Shape) (words starts : List ℕ) (n : ℕ) → IsLaid shapes words starts
    → n < length starts
    → number_in words starts (Volatile (get_or starts n 0)) ≡ Some n
object_number shapes words starts n laid below =
    begins_back words starts (get_or starts n 0) n (laid.numbered n below) (slice_got starts n below)

pub objects_counted : (heap : OneSpace) → length (shown_of heap).objects ≡ length heap.starts.items
objects_counted heap = length-map heap.starts.items (object_from heap.shapes heap.space.words
    heap.starts.items)

pub known_of_number : (number : Numbers) (r : Ref) (n : ℕ) → number r ≡ Some n → IsKnown number r
known_of_number number NoRef n e = tt
known_of_number number (Persistent line) n e = subst (λ (o : Option ℕ). IsSome o) (sym e) refl
known_of_number number (Volatile index) n e = subst (λ (o : Option ℕ). IsSome o) (sym e) refl

abbrev pub objects_in : OneSpace → List Obj
objects_in heap = (shown_of heap).objects

-- how many objects there are after texts
pub first_counted : (front : List Obj) (f : List ℕ → Obj) (texts : List (List ℕ)) (heap : OneSpace)
    (words : ℕ) (shapes : List Shape)
    → HasMade words shapes (front ++ map f texts) heap → length (objects_in heap)
    ≡ length front + length texts
first_counted front f texts heap words shapes made =
    ap (λ (os : List Obj). length os) made.objects ∙ length-append front (map f texts)
    ∙ ap (λ (n : ℕ). length front + n) (length-map texts f)
