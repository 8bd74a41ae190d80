-- Opening graphs of null roots.
use Rattle.std.proofs.Common.{◌≡◌, ℕ, ◌<◌, ◌≤◌, true, List, [], ◌∷◌, map, length, refl, ap, sym, ◌∙◌, subst, arith}
use Rattle.std.specs.Prelude.{All, Contains}
use Rattle.std.proofs.lemmas.List.{length-map}
use Rattle.std.proofs.lemmas.List.Elements.{All-cons, All-contains_itself, All-nil, All-weaker}
use Rattle.ap_base.specs.declared.kind.Kind.TheVariants.{L}
use Rattle.graph_model.specs.declared.types.Graph.{Graph}
use Rattle.graph_model.specs.declared.types.NamedValue.{NamedValue}
use Rattle.graph_model.specs.declared.types.Node.{Node}
use Rattle.graph_model.specs.declared.types.Root.{Root}
use Rattle.graph_model.specs.Heaps.{IsBelow}
use Rattle.plain_model.specs.Facts.{SetFacts, StaticFacts, class_at, classes_of}
use Rattle.plain_model.specs.First.{IsOpening, class_named, literal_object}
use Rattle.plain_model.specs.Kinds.{AreOf, HasKind}
use Rattle.class_set.specs.Facts.{roots_of}
use Rattle.set_directory.proofs.Roots.{root_there}
use Rattle.set_fixture.specs.Openings.{null_root}

each : (P : NamedValue → Type 0) (rs : List Root) → ((r : Root) → P (null_root r)) → All P (map null_root rs)
each P [] all = All-nil P
each P (r ∷ rs) all = All-cons P (null_root r) (map null_root rs) (all r) (each P rs all)

same-names : (rs : List Root) → map (λ (r : NamedValue). r.name) (map null_root rs) ≡ map (λ (r : Root). r.name) rs
same-names [] = refl
same-names (r ∷ rs) = ap (λ ns. r.name ∷ ns) (same-names rs)

abbrev HasRoot : List NamedValue → StaticFacts → Type 0
HasRoot roots s = s.is_root ≡ true → Contains (map (λ (r : NamedValue). r.name) roots) s.name

pub is-opening : (set : SetFacts) → length (roots_of set) ≤ 1 → length set.literals < 1000
    → IsOpening set (record { roots = map null_root (roots_of set); nodes = [] })
is-opening set one few =
    let opening : Graph = record { roots = map null_root (roots_of set); nodes = [] } in
    let counted : length (map null_root (roots_of set)) ≡ length (roots_of set) = length-map (roots_of set) null_root in record {
      shapes = All-nil (λ (n : Node). class_named (classes_of set) n.shape.name < length (classes_of set));
      agree = All-nil (λ (n : Node). (class_at set (class_named (classes_of set) n.shape.name)).shape ≡ n.shape);
      values = All-nil (λ (n : Node). let shape = (class_at set (class_named (classes_of set) n.shape.name)).shape in
          AreOf shape.element shape.fields n.values);
      has_roots = All-weaker (Contains set.statics) (HasRoot opening.roots)
          (λ s there root. subst (λ names. Contains names s.name) (sym (same-names (roots_of set))) (root_there set s.name (s, there, root, refl)))
          set.statics (All-contains_itself set.statics);
      names_differ = λ i j d before below. absurd (omega (arith, before, below, counted, one));
      references = each (λ (r : NamedValue). HasKind L r.value) (roots_of set) (λ r. tt);
      in_roots = each (λ (r : NamedValue). IsBelow 0 r.value) (roots_of set) (λ r. tt);
      in_nodes = All-nil (λ (n : Node). All (IsBelow 0) n.values);
      few =
          let all : length (map (literal_object set opening) set.literals) ≡ length set.literals =
          length-map set.literals (literal_object set opening) in
          omega (arith, all, few);
    }

-- what a graph is made of
pub made-opening : (set : SetFacts) (roots slice : List Root) (literals : List (List ℕ)) (values all : List NamedValue) (nodes : List Node)
    → roots ≡ roots_of set → literals ≡ set.literals → length roots ≤ 1 → length literals < 1000 → slice ≡ roots
    → values ≡ map null_root slice → all ≡ values → nodes ≡ [] → IsOpening set (record { roots = all; nodes = nodes })
made-opening set roots slice literals values all nodes is-roots is-literals one few is-slice is-values is-all none =
    let made : all ≡ map null_root (roots_of set) = is-all ∙ is-values ∙ ap (λ rs. map null_root rs) (is-slice ∙ is-roots) in
    subst (λ (rs : List NamedValue). IsOpening set (record { roots = rs; nodes = nodes })) (sym made)
    (subst (λ (ns : List Node). IsOpening set (record { roots = map null_root (roots_of set); nodes = ns })) (sym none)
    (is-opening set (subst (λ (rs : List Root). length rs ≤ 1) is-roots one)
    (subst (λ (ls : List (List ℕ)). length ls < 1000) is-literals few)))
