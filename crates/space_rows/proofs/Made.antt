-- Whether `new` makes objects of a class is told by its class file.
use Rattle.std.proofs.Common.{◌≡◌, ℕ, zero, suc, List, [], ◌∷◌, ◌++◌, Some, map, length, ap, ◌∙◌, append_assoc, arith}
use Rattle.std.specs.Prelude.{slice_get, slice_index_or}
use Rattle.std.proofs.lemmas.Option.{slice_get_within}
use Rattle.class_file.specs.declared.class.ClassFile.{ClassFile}
use Rattle.plain_model.specs.Classes.{is_made, no_class}
use Rattle.plain_model.specs.BuiltIn.{array_class, built_in_classes}
use Rattle.plain_model.specs.Facts.{class_at}
use Rattle.class_set.specs.Linked.{Linked}
use Rattle.class_set.specs.ArrayTypes.{array_type}
use Rattle.class_set.specs.Facts.{class_facts, facts_of}

mapped : {X Y : Type 0} (f : X → Y) (xs : List X) (rest : List Y) (n : ℕ) (x : X) (d : Y) → slice_get xs n ≡ Some x
    → slice_index_or (map f xs ++ rest) n d ≡ f x
mapped f [] rest n x d h = absurd (omega (arith, slice_get_within [] n x h))
mapped f (y ∷ ys) rest zero x d h = let same : y ≡ x = cc in ap f same
mapped f (y ∷ ys) rest (suc n) x d h = mapped f ys rest n x d h

pub made_of_file : (set : Linked) (n : ℕ) (c : ClassFile) → slice_get set.files n ≡ Some c
    → is_made (class_at (facts_of set) n) ≡ is_made (class_facts set.files c)
made_of_file set n c h =
    let first = length (map (class_facts set.files) set.files) in
    ap is_made (ap (λ cs. slice_index_or cs n no_class) (append_assoc (map (class_facts set.files) set.files) (built_in_classes first)
    (map (array_class first) (map (array_type set.files) set.arrays)))
    ∙ mapped (class_facts set.files) set.files (built_in_classes first ++ map (array_class first) (map (array_type set.files) set.arrays)) n c no_class h)
