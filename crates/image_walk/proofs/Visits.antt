-- One object that is looked at.
use Rattle.std.proofs.Common.{◌≡◌, ◌<◌, ◌+◌, ◌/◌, ◌%◌, ◌^◌, ◌++◌, ◌∷◌, ℕ, Bool, List, [], Option, None, length, map}
use Rattle.std.proofs.Common.{slice_index_or, refl, sym, ◌∙◌, ap, subst}
use Rattle.std.proofs.lemmas.List.{get_or_read}
use Rattle.graph_model.specs.declared.types.Value.{Value}
use Rattle.graph_model.specs.declared.types.Shape.{Shape}
use Rattle.graph_model.specs.declared.types.Node.{Node}
use Rattle.graph_model.specs.Heaps.{no_shape}
use Rattle.graph_model.specs.Canon.{with_new, renumbered}
use Rattle.image_layout.specs.Places.{lines_of}
use Rattle.image_meaning.specs.Checks.{Words, Bad, first_fault}
use Rattle.image_meaning.specs.Objects.{length_at, shape_of, values_at, line_fault, slot_fault, object_fault}
use Rattle.image_walk.specs.Walking.{IsFault, IsTaken, head_fault, slot_values}
use Rattle.image_walk.specs.Found.{IsVisit}
use Rattle.image_walk.specs.declared.fault.RecoverFault.{RecoverFault}
use Rattle.image_walk.specs.declared.visiting.Visited.{Visited}
use Rattle.image_walk.proofs.Checking.{object_checks}

-- what was read of an object's head, whose checks passed, and of its lines
pub record IsHead (shapes : List Shape) (size : ℕ) (words : Words) (earlier : List ℕ) (line : ℕ) (shape : Shape) (count lines : ℕ) : Type 0 where
  pub passes : head_fault shapes size line (words line 0) ≡ None
  pub shape_is : shape ≡ shape_of shapes words line
  pub count_is : count ≡ length_at words line
  pub lines_are : lines ≡ lines_of (length_at words line)
  pub free : first_fault (line_fault words earlier line) lines ≡ None

pub head_read : (shapes : List Shape) (size size_read : ℕ) (words : Words) (earlier : List ℕ) (line word n count lines : ℕ) (shape : Shape)
    → size_read ≡ size → word ≡ words line 0 → head_fault shapes size_read line word ≡ None → n ≡ word % 2 ^ 32 → count ≡ word / 2 ^ 32
    → n < length shapes → shape ≡ slice_index_or shapes n shape → lines ≡ lines_of count
    → first_fault (line_fault words earlier line) lines ≡ None
    → IsHead shapes size words earlier line shape count lines
head_read shapes size size_read words earlier line word n count lines shape same read passes number slots known is counted free =
    let total : count ≡ length_at words line = slots ∙ ap (λ (w : ℕ). w / 2 ^ 32) read in
    record {
      passes = rw (same, read) at passes;
      shape_is = get_or_read shapes n shape known is no_shape
          ∙ ap (λ (k : ℕ). slice_index_or shapes k no_shape) (number ∙ ap (λ (w : ℕ). w % 2 ^ 32) read);
      count_is = total;
      lines_are = counted ∙ ap (λ (k : ℕ). lines_of k) total;
      free = free;
    }

module _ (shapes : List Shape) (size : ℕ) (words : Words) (earlier : List ℕ) (line : ℕ) (shape : Shape) (count lines : ℕ)
    (head : IsHead shapes size words earlier line shape count lines) where
  checks_left : object_fault shapes size words earlier line ≡ first_fault (slot_fault size words shape line) count
  checks_left =
      let free : first_fault (line_fault words earlier line) (lines_of (length_at words line)) ≡ None =
      ap (λ (k : ℕ). first_fault (line_fault words earlier line) k) (sym head.lines_are) ∙ head.free in
      object_checks shapes size words earlier line
      ∙ rw (head.passes, free) (
      ap (λ (s : Shape). first_fault (slot_fault size words s line) (length_at words line)) (sym head.shape_is)
      ∙ ap (λ (k : ℕ). first_fault (slot_fault size words shape line) k) (sym head.count_is))

  pub slots_fail : (fault : RecoverFault) → IsFault (first_fault (slot_fault size words shape line) count) fault
      → IsFault (object_fault shapes size words earlier line) fault
  slots_fail fault fails = subst (λ (o : Option Bad). IsFault o fault) (sym checks_left) fails

  pub visit_of : (found more : List ℕ) (values : List Value) (taken : List Bool) (visited : Visited)
      → first_fault (slot_fault size words shape line) count ≡ None → values ≡ slot_values words shape line count
      → more ≡ with_new found values → IsTaken taken words (earlier ++ line ∷ []) → visited.node.shape ≡ shape
      → visited.node.values ≡ map (renumbered more) values → visited.end ≡ line + lines
      → IsVisit shapes size words earlier line found more taken visited
  visit_of found more values taken visited slots read finds takes copied numbered behind =
      let all : values ≡ values_at shapes words line =
      read ∙ ap (λ (s : Shape). slot_values words s line count) head.shape_is
      ∙ ap (λ (k : ℕ). slot_values words (shape_of shapes words line) line k) head.count_is in
      record {
        passes = checks_left ∙ slots;
        finds = finds ∙ ap (with_new found) all;
        takes = takes;
        node = same_node visited.node (shape_of shapes words line) (map (renumbered more) (values_at shapes words line))
            (copied ∙ head.shape_is) (numbered ∙ ap (map (renumbered more)) all);
        behind = behind ∙ ap (λ (k : ℕ). line + k) head.lines_are;
      }
    where
      same_node : (node : Node) (s : Shape) (vs : List Value) → node.shape ≡ s → node.values ≡ vs
          → let other : Node = record { shape = s; values = vs } in node ≡ other
      same_node node s vs a b = rw (← a, ← b) refl
