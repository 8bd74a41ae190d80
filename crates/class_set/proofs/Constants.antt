-- The constants and the kinds of static fields.
use Rattle.std.proofs.Common.{◌≡◌, ℕ, suc, true, false, List, [], ◌∷◌, Option, Some, None, length, refl, arith, if◌then◌else◌}
use Rattle.std.specs.Prelude.{All}
use Rattle.std.specs.Option.{option_map}
use Rattle.std.proofs.lemmas.List.{length-map}
use Rattle.std.proofs.lemmas.List.Elements.{All-append, All-cons, All-nil}
use Rattle.const_pool.specs.declared.entry.Entry.{Entry}
use Rattle.const_pool.specs.declared.entry.Entry.TheVariants as entry
use Rattle.const_pool.specs.Pool.{Slots, entry_at, string_at}
use Rattle.class_file.specs.declared.class.ClassFile.{ClassFile}
use Rattle.class_file.specs.declared.field.Field.{Field as FileField}
use Rattle.plain_model.specs.Facts.{LiteralConstant, StaticFacts}
use Rattle.plain_model.specs.Consistent.{IsConstantBelow, IsFieldKind}
use Rattle.text_table.specs.Texts.{place_of}
use Rattle.class_set.specs.Literals.{chars_of, literals_of, texts_of}
use Rattle.class_set.specs.Members.{is_static_member, text_at}
use Rattle.class_set.specs.Facts.{constant_in, constant_of, static_facts, statics_from, statics_of_fields}
use Rattle.class_set.proofs.Indices.{place_below}
use Rattle.class_set.proofs.Program.{field_kind}

below_place : (files : List ClassFile) (t : List ℕ) (o : Option ℕ) → place_of (texts_of files) t ≡ o
    → IsConstantBelow (length (literals_of files)) (option_map (λ place. LiteralConstant place) o)
below_place files t None e = tt
below_place files t (Some k) e = omega (arith, place_below 0 (texts_of files) t k e, length-map (texts_of files) chars_of)

abbrev place_in : List ClassFile → Option (List ℕ) → Option ℕ
place_in files None = None
place_in files (Some text) = place_of (texts_of files) text

below_text : (files : List ClassFile) (o : Option (List ℕ))
    → IsConstantBelow (length (literals_of files)) (option_map (λ place. LiteralConstant place) (place_in files o))
below_text files None = tt
below_text files (Some text) = below_place files text (place_of (texts_of files) text) refl

below_entry : (files : List ClassFile) (pool : Slots) (index : ℕ) (o : Option Entry)
    → IsConstantBelow (length (literals_of files)) (constant_in files pool index o)
below_entry files pool index (Some (entry.Integer i)) = tt
below_entry files pool index (Some (entry.Long i)) = tt
below_entry files pool index (Some (entry.String text)) = below_text files (string_at pool index)
below_entry files pool index other = tt

below_constant : (files : List ClassFile) (pool : Slots) (o : Option ℕ) → IsConstantBelow (length (literals_of files)) (constant_of files pool o)
below_constant files pool None = tt
below_constant files pool (Some index) = below_entry files pool index (entry_at pool index)

-- what holds of each static field
all_statics_of : (P : StaticFacts → Type 0) (files : List ClassFile) (n : ℕ) (c : ClassFile)
    → ((f : FileField) → P (static_facts files n c f)) → (fs : List FileField) → All P (statics_of_fields files n c fs)
all_statics_of P files n c h [] = All-nil P
all_statics_of P files n c h (f ∷ fs) =
    elim (is_static_member f.access) as (λ b. All P (if b then static_facts files n c f ∷ statics_of_fields files n c fs else statics_of_fields files n c fs)) [
      | true ↦ All-cons P (static_facts files n c f) (statics_of_fields files n c fs) (h f) (all_statics_of P files n c h fs)
      | false ↦ all_statics_of P files n c h fs
    ]

all_statics : (P : StaticFacts → Type 0) (files : List ClassFile) → ((n : ℕ) (c : ClassFile) (f : FileField) → P (static_facts files n c f))
    → (n : ℕ) (cs : List ClassFile) → All P (statics_from files n cs)
all_statics P files h n [] = All-nil P
all_statics P files h n (c ∷ cs) =
    All-append P (statics_of_fields files n c c.fields) (statics_from files (suc n) cs) (all_statics_of P files n c (h n c) c.fields)
    (all_statics P files h (suc n) cs)

pub constants_below : (files : List ClassFile)
    → All (λ (s : StaticFacts). IsConstantBelow (length (literals_of files)) s.constant) (statics_from files 0 files)
constants_below files =
    all_statics (λ (s : StaticFacts). IsConstantBelow (length (literals_of files)) s.constant) files
    (λ n c f. below_constant files c.pool f.constant) 0 files

pub kinds_of_statics : (files : List ClassFile) → All (λ (s : StaticFacts). IsFieldKind s.kind) (statics_from files 0 files)
kinds_of_statics files =
    all_statics (λ (s : StaticFacts). IsFieldKind s.kind) files (λ n c f. field_kind (text_at c.pool f.descriptor)) 0 files
