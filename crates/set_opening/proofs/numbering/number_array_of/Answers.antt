use Rattle.std.proofs.Common.{◌≡◌, ℕ, List, true, ap, sym, ◌∙◌, subst}
use Rattle.image_meaning.specs.Entries.{is_array_name}
use Rattle.class_set.specs.ArrayTypes.{is_array_type}
use Rattle.set_opening.proofs.Arrays.{shape_array}
use Rattle.set_opening.proofs.numbering.number_array_of.Goals as goal

pub number_array-requires : goal.number_array-requires
number_array-requires c =
    let same : c.as_slice-name.result.now ≡ c.args.shape.now.name = c.as_slice-name.ensures.same in
    record {
      array = subst (λ (t : List ℕ). is_array_type t ≡ true) (sym same)
          (shape_array c.args.shape.now c.requires (ap is_array_name (sym same)
          ∙ sym c.if-is_array_name.ensures));
    }
