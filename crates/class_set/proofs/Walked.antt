-- Where no class is there is no field.
use Rattle.std.proofs.Common.{◌≡◌, ℕ, zero, suc, ◌+◌, ◌-◌, ◌≤◌, List, [], ◌∷◌, Option, Some, None, map, length, refl, ap, ◌∙◌}
use Rattle.std.proofs.Common.{arith}
use Rattle.std.specs.List.{flat_map}
use Rattle.std.proofs.lemmas.List.{get_or_past}
use Rattle.std.proofs.lemmas.Option.{slice_get_past}
use Rattle.class_file.specs.declared.class.ClassFile.{ClassFile}
use Rattle.graph_walks.specs.Order.{walk_from}
use Rattle.built_in_table.specs.Members.{BuiltInClass, MemberFacts, built_in_at, built_in_members, with_methods}
use Rattle.class_set.specs.Linked.{Linked}
use Rattle.class_set.specs.Members.{field_facts, own_fields}
use Rattle.class_set.specs.Lookups.{class_edges, field_at, find_field, find_member, first_some, own_field}
use Rattle.class_set.proofs.Circles.{edges_counted}
use Rattle.class_set.proofs.Declared.{members_counted}

walk_past : (edges : List (List ℕ)) (m v : ℕ) → length edges ≤ v → walk_from edges m v ≡ v ∷ []
walk_past edges zero v l = refl
walk_past edges (suc m) v l = ap (λ next. v ∷ flat_map (walk_from edges m) next) (get_or_past edges v [] l)

none_past : (files : List ClassFile) (n : ℕ) → length files + 28 ≤ n → own_fields files n ≡ []
none_past files n h =
    ap (λ (o : Option ClassFile). elim o as (λ x. List MemberFacts)
    [ None ↦ (built_in_at (n - length files)).fields | Some c ↦ map (field_facts c.pool) c.fields ]) (slice_get_past files n (omega (arith, h)))
    ∙ ap (λ (c : BuiltInClass). c.fields) (get_or_past built_in_members (n - length files) (with_methods []) (omega (arith, h, members_counted)))

alone : {B : Type 0} (f : ℕ → Option B) (n : ℕ) → f n ≡ None → first_some f (n ∷ []) ≡ None
alone f n e = rw (e, first_some) refl

pub no_field_past : (set : Linked) (n : ℕ) (name descriptor : List ℕ) → length set.files + 28 ≤ n → find_field set n name descriptor ≡ None
no_field_past set n name descriptor h =
    let edges = class_edges set.files in
    ap (first_some (own_field set.files name descriptor)) (walk_past edges (length edges) n (omega (arith, h, edges_counted set.files)))
    ∙ alone (own_field set.files name descriptor) n
    (ap (λ ms. field_at set.files n (find_member ms name descriptor)) (none_past set.files n h))
