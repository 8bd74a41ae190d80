-- The shapes of nodes, each once.
use Rattle.std.proofs.Common.{◌≡◌, ◌⊎◌, inl, inr, ℕ, zero, suc, ◌+◌, ◌<◌, ◌≤◌, Bool, true, false, List, [], ◌∷◌, ◌++◌, length, map}
use Rattle.std.proofs.Common.{◌-◌, refl, sym, ◌∙◌, ap, subst, arith, slice_index_or, Option, Some, None, if◌then◌else◌, append_assoc}
use Rattle.std.specs.Prelude.{is_some}
use Rattle.std.specs.Str.{bytes_eq}
use Rattle.std.proofs.lemmas.Bool.{false≢true, cases_lt}
use Rattle.std.proofs.lemmas.List.{length-append, get_or_append_left, get_or-append_right, append-nil}
use Rattle.std.proofs.lemmas.Slice.Eq.{bytes_eq-Decides}
use Rattle.graph_model.specs.declared.types.Shape.{Shape}
use Rattle.graph_model.specs.declared.types.NamedValue.{NamedValue}
use Rattle.graph_model.specs.declared.types.Node.{Node}
use Rattle.graph_model.specs.Heaps.{no_shape}
use Rattle.text_table.specs.Texts.{place_from, place_of}
use Rattle.image_meaning.specs.Entries.{DirectoryEntry, ShapeEntry, IsShape, spelled}
use Rattle.image_meaning.specs.Directories.{Directory, no_entries, has_name, is_refused, with_entry, with_all, AreEntries, spelled_all}
use Rattle.image_meaning.specs.Opening.{no_node}
use Rattle.dense_image.specs.Graphs.{root_entry}
use Rattle.dense_image.specs.Written.{names_of, with_shape, with_shapes, shapes_of}

-- ---- names

pub same_bytes : (xs : List ℕ) → bytes_eq xs xs ≡ true
same_bytes xs = (bytes_eq-Decides xs xs).1 refl

pub equal_bytes : (xs ys : List ℕ) → bytes_eq xs ys ≡ true → xs ≡ ys
equal_bytes xs ys e = (bytes_eq-Decides xs ys).0 e

true_or : (b : Bool) → (b ≡ true) ⊎ (b ≡ false)
true_or true = inl refl
true_or false = inr refl

-- a name that is there has a place
pub name_placed : (from : ℕ) (names : List (List ℕ)) (name : List ℕ) → has_name names name ≡ true
    → (k : ℕ) × (k < length names) × (slice_index_or names k [] ≡ name) × (place_from from names name ≡ Some (from + k))
name_placed from [] name h = absurd (false≢true h)
name_placed from (first ∷ names) name h = elim (true_or (bytes_eq first name)) [
  | inl is ↦ (0, omega arith, equal_bytes first name is, rw is (ap (λ k. Some k) (omega arith)))
  | inr isnt ↦ (
      let other : bytes_eq name first ≡ false = elim (true_or (bytes_eq name first)) [
        | inl e ↦ absurd (false≢true (sym isnt ∙ rw (equal_bytes name first e) (same_bytes first)))
        | inr e ↦ e
      ] in
      let more = name_placed (from + 1) names name (rw other at h) in
      (suc more.0, omega (arith, more.1), more.2, rw isnt (more.3 ∙ ap (λ k. Some k) (omega arith))))
]

-- and a text that has no place isn't there
pub not_placed : (from : ℕ) (names : List (List ℕ)) (name : List ℕ) → has_name names name ≡ false → place_from from names name ≡ None
not_placed from [] name h = refl
not_placed from (first ∷ names) name h = elim (true_or (bytes_eq name first)) [
  | inl is ↦ absurd (false≢true (sym (rw is at h)))
  | inr isnt ↦ (
      let other : bytes_eq first name ≡ false = elim (true_or (bytes_eq first name)) [
        | inl e ↦ absurd (false≢true (sym isnt ∙ rw (equal_bytes first name e) (same_bytes name)))
        | inr e ↦ e
      ] in
      rw other (not_placed (from + 1) names name (rw isnt at h)))
]

pub is_placed : (names : List (List ℕ)) (name : List ℕ) → is_some (place_of names name) ≡ has_name names name
is_placed names name = elim (true_or (has_name names name)) [
  | inl has ↦ (let at = name_placed 0 names name has in ap (λ (o : Option ℕ). is_some o) at.3 ∙ sym has)
  | inr none ↦ ap (λ (o : Option ℕ). is_some o) (not_placed 0 names name none) ∙ sym none
]

-- a name among others
pub has_front : (names more : List (List ℕ)) (name : List ℕ) → has_name names name ≡ true → has_name (names ++ more) name ≡ true
has_front [] more name h = absurd (false≢true h)
has_front (first ∷ names) more name h = elim (true_or (bytes_eq name first)) [
  | inl is ↦ rw is refl
  | inr isnt ↦ rw isnt (has_front names more name (rw isnt at h))
]

pub has_last : (names : List (List ℕ)) (name : List ℕ) → has_name (names ++ name ∷ []) name ≡ true
has_last [] name = rw (same_bytes name) refl
has_last (first ∷ names) name = elim (true_or (bytes_eq name first)) [
  | inl is ↦ rw is refl
  | inr isnt ↦ rw isnt (has_last names name)
]

-- a name that stands at a place is there
pub has_at : (names : List (List ℕ)) (k : ℕ) (name : List ℕ) → k < length names → slice_index_or names k [] ≡ name → has_name names name ≡ true
has_at [] k name h e = absurd (omega (arith, h))
has_at (first ∷ names) zero name h e = rw (← e, same_bytes first) refl
has_at (first ∷ names) (suc k) name h e = elim (true_or (bytes_eq name first)) [
  | inl is ↦ rw is refl
  | inr isnt ↦ rw isnt (has_at names k name (omega (arith, h)) e)
]

pub names_append : (a b : List Shape) → names_of (a ++ b) ≡ names_of a ++ names_of b
names_append [] b = refl
names_append (s ∷ a) b = ap (λ rest. s.name ∷ rest) (names_append a b)

-- ---- the shapes

-- one more
pub shape_keeps : (shapes : List Shape) (shape : Shape) (name : List ℕ) → has_name (names_of shapes) name ≡ true
    → has_name (names_of (with_shape shapes shape)) name ≡ true
shape_keeps shapes shape name h =
    elim (has_name (names_of shapes) shape.name) as (λ b. has_name (names_of (if b then shapes else shapes ++ shape ∷ [])) name ≡ true) [
      | true ↦ h
      | false ↦ rw (names_append shapes (shape ∷ [])) (has_front (names_of shapes) (shape.name ∷ []) name h)
    ]

pub shape_has : (shapes : List Shape) (shape : Shape) → has_name (names_of (with_shape shapes shape)) shape.name ≡ true
shape_has shapes shape =
    elim (has_name (names_of shapes) shape.name) as (λ b. has_name (names_of shapes) shape.name ≡ b
    → has_name (names_of (if b then shapes else shapes ++ shape ∷ [])) shape.name ≡ true) [
      | true ↦ λ e. e
      | false ↦ λ e. rw (names_append shapes (shape ∷ [])) (has_last (names_of shapes) shape.name)
    ] refl

pub shapes_keep : (shapes : List Shape) (nodes : List Node) (name : List ℕ) → has_name (names_of shapes) name ≡ true
    → has_name (names_of (with_shapes shapes nodes)) name ≡ true
shapes_keep shapes [] name h = h
shapes_keep shapes (node ∷ nodes) name h = shapes_keep (with_shape shapes node.shape) nodes name (shape_keeps shapes node.shape name h)

-- each node's is there
pub shapes_have : (shapes : List Shape) (nodes : List Node) (n : ℕ) → n < length nodes
    → has_name (names_of (with_shapes shapes nodes)) (slice_index_or nodes n no_node).shape.name ≡ true
shapes_have shapes [] n h = absurd (omega (arith, h))
shapes_have shapes (node ∷ nodes) zero h = shapes_keep (with_shape shapes node.shape) nodes node.shape.name (shape_has shapes node.shape)
shapes_have shapes (node ∷ nodes) (suc n) h = shapes_have (with_shape shapes node.shape) nodes n (omega (arith, h))

-- what holds of the shapes of all nodes holds of each
module _ (P : Shape → Type 0) where
  abbrev Each : List Shape → Type 0
  Each shapes = (k : ℕ) → k < length shapes → P (slice_index_or shapes k no_shape)

  each_more : (shapes : List Shape) (shape : Shape) → Each shapes → P shape → Each (shapes ++ shape ∷ [])
  each_more shapes shape each one k h = elim (cases_lt k (length shapes)) [
    | inl below ↦ rw (get_or_append_left shapes (shape ∷ []) no_shape k below) (each k below)
    | inr from ↦ (
        let at : k ≡ length shapes + 0 = omega (arith, from, h, length-append shapes (shape ∷ [])) in
        rw at (rw (get_or-append_right shapes (shape ∷ []) (length shapes) (length shapes + 0) no_shape refl (omega arith)) (
        let zeroth : (length shapes + 0) - length shapes ≡ 0 = omega arith in rw zeroth one)))
  ]

  each_with : (shapes : List Shape) (shape : Shape) → Each shapes → P shape → Each (with_shape shapes shape)
  each_with shapes shape each one =
      elim (has_name (names_of shapes) shape.name) as (λ b. Each (if b then shapes else shapes ++ shape ∷ []))
      [ true ↦ each | false ↦ each_more shapes shape each one ]

  pub each_shape : (shapes : List Shape) (nodes : List Node) → Each shapes
      → ((n : ℕ) → n < length nodes → P (slice_index_or nodes n no_node).shape) → Each (with_shapes shapes nodes)
  each_shape shapes [] each all = each
  each_shape shapes (node ∷ nodes) each all =
      each_shape (with_shape shapes node.shape) nodes (each_with shapes node.shape each (all 0 (omega arith)))
      (λ n h. all (suc n) (omega (arith, h)))

-- ---- the entries

pub entries_append : (directory : Directory) (a b : List DirectoryEntry) → AreEntries directory a → AreEntries (with_all directory a) b
    → AreEntries directory (a ++ b)
entries_append directory [] b first second = second
entries_append directory (entry ∷ a) b first second = (first.0, first.1, entries_append (with_entry directory entry) a b first.2 second)

pub all_append : (directory : Directory) (a b : List DirectoryEntry) → with_all directory (a ++ b) ≡ with_all (with_all directory a) b
all_append directory [] b = refl
all_append directory (entry ∷ a) b = all_append (with_entry directory entry) a b

abbrev pub with_these : List Shape → List (List ℕ) → Directory
with_these shapes roots = record { shapes = shapes; roots = roots }

pub all_shapes : (had shapes : List Shape) (roots : List (List ℕ))
    → with_all (with_these had roots) (map ShapeEntry shapes) ≡ with_these (had ++ shapes) roots
all_shapes had [] roots = ap (λ (s : List Shape). with_these s roots) (sym (append-nil had))
all_shapes had (shape ∷ shapes) roots =
    all_shapes (had ++ shape ∷ []) shapes roots ∙ ap (λ (s : List Shape). with_these s roots) (append_assoc had (shape ∷ []) shapes)

pub all_roots : (shapes : List Shape) (had : List (List ℕ)) (roots : List NamedValue)
    → with_all (with_these shapes had) (map root_entry roots) ≡ with_these shapes (had ++ map (λ (root : NamedValue). root.name) roots)
all_roots shapes had [] = ap (λ (r : List (List ℕ)). with_these shapes r) (sym (append-nil had))
all_roots shapes had (root ∷ roots) =
    all_roots shapes (had ++ root.name ∷ []) roots
    ∙ ap (λ (r : List (List ℕ)). with_these shapes r) (append_assoc had (root.name ∷ []) (map (λ (root : NamedValue). root.name) roots))

-- the shapes and roots of a graph's directory
pub directory_is : (shapes : List Shape) (roots : List NamedValue)
    → with_all no_entries (map ShapeEntry shapes ++ map root_entry roots) ≡ with_these shapes (map (λ (root : NamedValue). root.name) roots)
directory_is shapes roots =
    all_append no_entries (map ShapeEntry shapes) (map root_entry roots)
    ∙ ap (λ d. with_all d (map root_entry roots)) (all_shapes [] shapes [])
    ∙ all_roots shapes [] roots

map_more : (a b : List Shape) → map ShapeEntry (a ++ b) ≡ map ShapeEntry a ++ map ShapeEntry b
map_more [] b = refl
map_more (s ∷ a) b = ap (λ rest. ShapeEntry s ∷ rest) (map_more a b)

-- shapes, each once, may stand
one_may_stand : (shapes : List Shape) (shape : Shape) → AreEntries no_entries (map ShapeEntry shapes) → IsShape shape
    → AreEntries no_entries (map ShapeEntry (with_shape shapes shape))
one_may_stand shapes shape are is =
    elim (has_name (names_of shapes) shape.name) as (λ b. has_name (names_of shapes) shape.name ≡ b
    → AreEntries no_entries (map ShapeEntry (if b then shapes else shapes ++ shape ∷ []))) [
      | true ↦ λ e. are
      | false ↦ λ e. rw (map_more shapes (shape ∷ []))
          (entries_append no_entries (map ShapeEntry shapes) (ShapeEntry shape ∷ []) are
          (is, ap (λ d. is_refused d (ShapeEntry shape)) (all_shapes [] shapes []) ∙ e, tt))
    ] refl

pub shapes_may_stand : (shapes : List Shape) (nodes : List Node) → AreEntries no_entries (map ShapeEntry shapes)
    → ((n : ℕ) → n < length nodes → IsShape (slice_index_or nodes n no_node).shape)
    → AreEntries no_entries (map ShapeEntry (with_shapes shapes nodes))
shapes_may_stand shapes [] are all = are
shapes_may_stand shapes (node ∷ nodes) are all =
    shapes_may_stand (with_shape shapes node.shape) nodes (one_may_stand shapes node.shape are (all 0 (omega arith)))
    (λ n h. all (suc n) (omega (arith, h)))

-- whether roots may stand, the shapes don't tell
pub roots_anywhere : (a b : List Shape) (had : List (List ℕ)) (roots : List NamedValue) → AreEntries (with_these a had) (map root_entry roots)
    → AreEntries (with_these b had) (map root_entry roots)
roots_anywhere a b had [] are = tt
roots_anywhere a b had (root ∷ roots) are = (are.0, are.1, roots_anywhere a b (had ++ root.name ∷ []) roots are.2)

-- the entries of a graph may stand
pub entries_may_stand : (nodes : List Node) (roots : List NamedValue)
    → ((n : ℕ) → n < length nodes → IsShape (slice_index_or nodes n no_node).shape) → AreEntries no_entries (map root_entry roots)
    → AreEntries no_entries (map ShapeEntry (shapes_of nodes) ++ map root_entry roots)
entries_may_stand nodes roots all are =
    let shapes = shapes_of nodes in
    entries_append no_entries (map ShapeEntry shapes) (map root_entry roots) (shapes_may_stand [] nodes tt all)
    (subst (λ d. AreEntries d (map root_entry roots)) (sym (all_shapes [] shapes [])) (roots_anywhere [] shapes [] roots are))

-- there are no more shapes than words
pub shapes_few : (shapes : List Shape) (rest : List DirectoryEntry) → length shapes ≤ length (spelled_all (map ShapeEntry shapes ++ rest))
shapes_few [] rest = omega arith
shapes_few (shape ∷ shapes) rest =
    omega (arith, shapes_few shapes rest, length-append (spelled (ShapeEntry shape)) (spelled_all (map ShapeEntry shapes ++ rest)))
