-- The fields of a class begin with those of its superclass.
use Rattle.std.proofs.Common.{◌≡◌, ℕ, zero, suc, ◌+◌, ◌<◌, List, [], ◌∷◌, ◌++◌, Option, Some, None, map, length, slice_index_or}
use Rattle.std.proofs.Common.{refl, ap, sym, ◌∙◌, arith, subst, reverse}
use Rattle.std.specs.Prelude.{Contains}
use Rattle.std.specs.List.{flat_map}
use Rattle.std.proofs.lemmas.List.{reverse-append, length-map, append-nil}
use Rattle.std.proofs.lemmas.List.Concat.{flat_map-append}
use Rattle.class_file.specs.declared.class.ClassFile.{ClassFile}
use Rattle.graph_walks.specs.Paths.{next_of}
use Rattle.graph_walks.specs.Circles.{HasNoCircle}
use Rattle.graph_walks.specs.Order.{walk, walk_from}
use Rattle.graph_walks.proofs.Paths.{Leads-same}
use Rattle.graph_walks.proofs.Walks.{IsAcyclic, walk_step}
use Rattle.plain_model.specs.Consistent.{super_list}
use Rattle.class_set.specs.Members.{layout_above, layout_of, own_layout, supers_of, superclasses_in, superclasses_of}
use Rattle.class_set.specs.Lookups.{class_edges}
use Rattle.class_set.proofs.Above.{get_or-map_all, supers_counted}
use Rattle.class_set.proofs.Edges.{supers_within, supers_among}

-- ---- the chain of superclasses is a walk

abbrev pub super_rows : List (Option ℕ) → List (List ℕ)
super_rows supers = map super_list supers

row_at : (supers : List (Option ℕ)) (n : ℕ) → next_of (super_rows supers) n ≡ super_list (slice_index_or supers n None)
row_at supers n = get_or-map_all super_list None supers n

walk_row : (supers : List (Option ℕ)) (m : ℕ) (o : Option ℕ) → ((s : ℕ) → walk_from (super_rows supers) m s ≡ superclasses_in supers m s)
    → flat_map (walk_from (super_rows supers) m) (super_list o) ≡ (elim o [ None ↦ [] | Some super ↦ superclasses_in supers m super ])
walk_row supers m None h = refl
walk_row supers m (Some s) h = append-nil (walk_from (super_rows supers) m s) ∙ h s

chain_walk : (supers : List (Option ℕ)) (m n : ℕ) → walk_from (super_rows supers) m n ≡ superclasses_in supers m n
chain_walk supers zero n = refl
chain_walk supers (suc m) n =
    ap (λ next. n ∷ flat_map (walk_from (super_rows supers) m) next) (row_at supers n)
    ∙ ap (λ ns. n ∷ ns) (walk_row supers m (slice_index_or supers n None) (chain_walk supers m))

rows_counted : (files : List ClassFile) → length (super_rows (supers_of files)) ≡ length files + 28
rows_counted files = length-map (supers_of files) super_list ∙ supers_counted files

in_row : (o : Option ℕ) (w : ℕ) → Contains (super_list o) w → o ≡ Some w
in_row None w c = absurd (omega (arith, c.1))
in_row (Some s) w c =
    let first : c.0 ≡ 0 = omega (arith, c.1) in
    ap (λ m. Some m) (ap (λ k. slice_index_or (s ∷ []) k w) (sym first) ∙ c.2)

pub super_of_row : (supers : List (Option ℕ)) (n w : ℕ) → Contains (next_of (super_rows supers) n) w → slice_index_or supers n None ≡ Some w
super_of_row supers n w c = in_row (slice_index_or supers n None) w (subst (λ next. Contains next w) (row_at supers n) c)

acyclic : (files : List ClassFile) → HasNoCircle (class_edges files) → IsAcyclic (super_rows (supers_of files))
acyclic files none = record {
  there = λ u v c. omega (arith, supers_within files u v (super_of_row (supers_of files) u v c), rows_counted files);
  no_circle = λ v path. none v (Leads-same (super_rows (supers_of files)) (class_edges files) (λ from to c.
      supers_among files from to (super_of_row (supers_of files) from to c)) v v path);
}

pub chain_of : (files : List ClassFile) (n : ℕ) → superclasses_of files n ≡ walk (super_rows (supers_of files)) n
chain_of files n =
    sym (chain_walk (supers_of files) (length files + 28) n)
    ∙ ap (λ m. walk_from (super_rows (supers_of files)) m n) (sym (rows_counted files))

abbrev chain_above : List ClassFile → Option ℕ → List ℕ
chain_above files None = []
chain_above files (Some s) = superclasses_of files s

above_row : (files : List ClassFile) (o : Option ℕ) → flat_map (walk (super_rows (supers_of files))) (super_list o) ≡ chain_above files o
above_row files None = refl
above_row files (Some s) = append-nil (walk (super_rows (supers_of files)) s) ∙ sym (chain_of files s)

pub chain_step : (files : List ClassFile) (n : ℕ) → HasNoCircle (class_edges files) → n < length files + 28
    → superclasses_of files n ≡ n ∷ chain_above files (slice_index_or (supers_of files) n None)
chain_step files n none l =
    let rows = super_rows (supers_of files) in
    chain_of files n
    ∙ walk_step rows n (acyclic files none) (omega (arith, l, rows_counted files))
    ∙ ap (λ next. n ∷ flat_map (walk rows) next) (row_at (supers_of files) n)
    ∙ ap (λ ns. n ∷ ns) (above_row files (slice_index_or (supers_of files) n None))

reverse-cons : (n : ℕ) (ns : List ℕ) → reverse (n ∷ ns) ≡ reverse ns ++ n ∷ []
reverse-cons n ns = reverse-append (n ∷ []) ns

layout_row : (files : List ClassFile) (o : Option ℕ) → flat_map (own_layout files) (reverse (chain_above files o)) ≡ layout_above files o
layout_row files None = refl
layout_row files (Some s) = refl

-- The layout of a class is that of its superclass, and then its own fields.
pub layout_step : (files : List ClassFile) (n : ℕ) → HasNoCircle (class_edges files) → n < length files + 28
    → layout_of files n ≡ layout_above files (slice_index_or (supers_of files) n None) ++ own_layout files n
layout_step files n none l =
    let above = chain_above files (slice_index_or (supers_of files) n None) in
    ap (λ ns. flat_map (own_layout files) (reverse ns)) (chain_step files n none l)
    ∙ ap (flat_map (own_layout files)) (reverse-cons n above)
    ∙ flat_map-append (own_layout files) (reverse above) (n ∷ [])
    ∙ ap (λ fs. flat_map (own_layout files) (reverse above) ++ fs) (append-nil (own_layout files n))
    ∙ ap (λ fs. fs ++ own_layout files n) (layout_row files (slice_index_or (supers_of files) n None))
