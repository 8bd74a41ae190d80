-- Directories with further entries: which shapes and names they have, and that no two are the same.
use Rattle.std.proofs.Common.{◌≡◌, ◌≢◌, ℕ, ◌<◌, ◌≤◌, Bool, true, false, not, cond, ◌||◌, List, [], ◌∷◌, ◌++◌, map, length}
use Rattle.std.proofs.Common.{slice_index_or, refl, sym, ap, ◌∙◌, subst, arith, append_assoc, drop, ⊎_elim}
use Rattle.std.specs.Prelude.{All, AllPairs, Contains}
use Rattle.std.specs.List.{list_any}
use Rattle.std.specs.Str.{bytes_eq}
use Rattle.std.proofs.lemmas.Bool.{cases_lt, false≢true}
use Rattle.std.proofs.lemmas.List.{append-nil, get_or_append_left, get_or_push, length-append, map-append}
use Rattle.std.proofs.Math.Seq.{drop-append_seam}
use Rattle.std.proofs.lemmas.List.Elements.{All-append, All-cons, All-filter, All-head, All-map, All-nil, All-push, All-tail}
use Rattle.std.proofs.lemmas.List.Elements.{Contains-append_left, Contains-push}
use Rattle.std.proofs.lemmas.Slice.Eq.{bytes_eq-Decides}
use Rattle.graph_walks.proofs.Lists.{Contains-cons_cases, Contains-head, Contains-nil, Contains-tail}
use Rattle.graph_model.specs.declared.types.Graph.{Graph}
use Rattle.graph_model.specs.declared.types.NamedValue.{NamedValue}
use Rattle.graph_model.specs.declared.types.Shape.{Shape}
use Rattle.image_meaning.specs.Appending.{with_all_too, with_null_root}
use Rattle.image_meaning.specs.Arrays.{null_root}
use Rattle.image_meaning.specs.Directories.{AreEntries, Directory, has_name, with_all, with_entry}
use Rattle.image_meaning.specs.Entries.{DirectoryEntry, IsShape, RootEntry, ShapeEntry}
use Rattle.directories.specs.Planning.{has_entry, lacking}
use Rattle.set_opening.specs.Fitted.{with_null_roots}
use Rattle.set_opening.specs.Opened.{shape_names}

-- ---- what holds of each shape

-- of an entry that is a shape's
abbrev pub OfShape : (Shape → Type 0) → DirectoryEntry → Type 0
OfShape P (ShapeEntry shape) = P shape
OfShape P (RootEntry name) = Unit {0}

pub shapes_with : (P : Shape → Type 0) (directory : Directory) (entries : List DirectoryEntry)
    → All P directory.shapes
    → All (OfShape P) entries → All P (with_all directory entries).shapes
shapes_with P directory [] all more = all
shapes_with P directory (ShapeEntry shape ∷ entries) all more =
    shapes_with P (with_entry directory (ShapeEntry shape)) entries
    (All-push P directory.shapes shape all (All-head (OfShape P) (ShapeEntry shape) entries more))
    (All-tail (OfShape P) (ShapeEntry shape) entries more)
shapes_with P directory (RootEntry name ∷ entries) all more =
    shapes_with P (with_entry directory (RootEntry name)) entries all (All-tail (OfShape P)
    (RootEntry name) entries more)

roots_all : (P : Shape → Type 0) (names : List (List ℕ)) → All (OfShape P) (map RootEntry names)
roots_all P names = All-map (OfShape P) RootEntry names (λ k d below. tt)

-- the shapes of a set's entries
pub entries_all : (P : Shape → Type 0) (shapes : List Shape) (names : List (List ℕ)) → All P shapes
    → All (OfShape P) (map ShapeEntry shapes ++ map RootEntry names)
entries_all P shapes names all =
    All-append (OfShape P) (map ShapeEntry shapes) (map RootEntry names)
    (All-map (OfShape P) ShapeEntry shapes all) (roots_all P names)

pub lacking_all : (Q : DirectoryEntry → Type 0) (directory : Directory) (entries : List DirectoryEntry)
    → All Q entries
    → All Q (lacking directory entries)
lacking_all Q directory entries all = All-filter (λ entry. not (has_entry directory entry)) Q entries all

-- a directory's entries have shapes that it can have
pub are_shapes : (directory : Directory) (entries : List DirectoryEntry) → AreEntries directory entries
    → All (OfShape IsShape) entries
are_shapes directory [] are = All-nil (OfShape IsShape)
are_shapes directory (ShapeEntry shape ∷ entries) are =
    All-cons (OfShape IsShape) (ShapeEntry shape) entries are.0
    (are_shapes (with_entry directory (ShapeEntry shape)) entries are.2)
are_shapes directory (RootEntry name ∷ entries) are =
    All-cons (OfShape IsShape) (RootEntry name) entries tt
    (are_shapes (with_entry directory (RootEntry name)) entries are.2)

-- ---- which names are there

-- an entry of this kind and name is there
abbrev pub HasEntry : Directory → DirectoryEntry → Type 0
HasEntry directory (ShapeEntry shape) = Contains (shape_names directory) shape.name
HasEntry directory (RootEntry name) = Contains directory.roots name

any_there : (names : List (List ℕ)) (name : List ℕ) → list_any (bytes_eq name) names ≡ true
    → Contains names name
any_there [] name is = absurd (false≢true is)
any_there (n ∷ names) name is =
    elim (bytes_eq name n) as (λ b. bytes_eq name n ≡ b → (b || list_any (bytes_eq name) names) ≡ true
    → Contains (n ∷ names) name) [
      | true ↦ λ same one. subst (λ x. Contains (x ∷ names) name) ((bytes_eq-Decides name n).0 same)
          (Contains-head name names)
      | false ↦ λ other one. Contains-tail n names name (any_there names name one)
    ] refl is

pub there_by : (directory : Directory) (entry : DirectoryEntry) → has_entry directory entry ≡ true
    → HasEntry directory entry
there_by directory (ShapeEntry shape) is = any_there (shape_names directory) shape.name is
there_by directory (RootEntry name) is = any_there directory.roots name is

-- an entry more leaves those that are there
still_there : (directory : Directory) (more entry : DirectoryEntry) → HasEntry directory entry
    → HasEntry (with_entry directory more) entry
still_there directory (ShapeEntry shape) (ShapeEntry other) there =
    subst (λ names. Contains names other.name)
    (sym (map-append (λ (s : Shape). s.name) directory.shapes (shape ∷ [])))
    (Contains-append_left (shape_names directory) (shape.name ∷ []) other.name there)
still_there directory (ShapeEntry shape) (RootEntry name) there = there
still_there directory (RootEntry name) (ShapeEntry other) there = there
still_there directory (RootEntry name) (RootEntry other) there =
    Contains-append_left directory.roots (name ∷ []) other there

pub own_there : (directory : Directory) (entry : DirectoryEntry) → HasEntry (with_entry directory entry) entry
own_there directory (ShapeEntry shape) =
    subst (λ names. Contains names shape.name)
    (sym (map-append (λ (s : Shape). s.name) directory.shapes (shape ∷ [])))
    (Contains-push (shape_names directory) shape.name)
own_there directory (RootEntry name) = Contains-push directory.roots name

pub all_there : (directory : Directory) (more : List DirectoryEntry) (entry : DirectoryEntry)
    → HasEntry directory entry
    → HasEntry (with_all directory more) entry
all_there directory [] entry there = there
all_there directory (m ∷ more) entry there =
    all_there (with_entry directory m) more entry (still_there directory m entry there)

-- with those of some entries that another one lacks: each of these is there, where the directory has those
-- of that one
grown : (found directory : Directory) (entries : List DirectoryEntry) (entry : DirectoryEntry)
    → (has_entry found entry ≡ true → HasEntry directory entry) → Contains entries entry
    → HasEntry (with_all directory (lacking found entries)) entry
grown found directory [] entry had is = absurd (Contains-nil entry is)
grown found directory (e ∷ entries) entry had is =
    elim (has_entry found e) as (λ b. has_entry found e ≡ b
    → HasEntry (with_all directory (cond (not b) (e ∷ lacking found entries)
    (lacking found entries))) entry) [
      | true ↦ λ old. ⊎_elim
          (λ (first : e ≡ entry). all_there directory (lacking found entries) entry (had (subst (λ x.
          has_entry found x ≡ true) first old)))
          (λ (later : Contains entries entry). grown found directory entries entry had later)
          (Contains-cons_cases e entries entry is)
      | false ↦ λ new. ⊎_elim
          (λ (first : e ≡ entry). all_there (with_entry directory e) (lacking found entries) entry
          (subst (λ x. HasEntry (with_entry directory e) x) first (own_there directory e)))
          (λ (later : Contains entries entry). grown found (with_entry directory e) entries entry
          (λ there. still_there directory e entry (had there)) later)
          (Contains-cons_cases e entries entry is)
    ] refl

pub each_there : (found : Directory) (entries : List DirectoryEntry) (entry : DirectoryEntry)
    → Contains entries entry
    → HasEntry (with_all found (lacking found entries)) entry
each_there found entries entry is = grown found found entries entry (there_by found entry) is

-- ---- that they differ

pairs-push : {A : Type 0} (R : A → A → Type 0) (xs : List A) (x : A) → AllPairs R xs → All (λ y. R y x) xs
    → AllPairs R (xs ++ x ∷ [])
pairs-push R xs x pairs all i j d lt below =
    let long = length-append xs (x ∷ []) in
    ⊎_elim
    (λ (low : j < length xs).
    subst (λ a. R a (slice_index_or (xs ++ x ∷ []) j d))
    (sym (get_or_append_left xs (x ∷ []) d i (omega (arith, lt, low))))
    (subst (λ b. R (slice_index_or xs i d) b) (sym (get_or_append_left xs (x ∷ []) d j low))
    (pairs i j d lt low)))
    (λ high.
    let at : j ≡ length xs = omega (arith, high, below, long) in
    subst (λ a. R a (slice_index_or (xs ++ x ∷ []) j d))
    (sym (get_or_append_left xs (x ∷ []) d i (omega (arith, lt, at))))
    (subst (λ b. R (slice_index_or xs i d) b) (sym (get_or_push xs x d j (sym at)))
    (all i d (omega (arith, lt, at)))))
    (cases_lt j (length xs))

none_named : (names : List (List ℕ)) (name : List ℕ) → list_any (bytes_eq name) names ≡ false
    → All (λ n. n ≢ name) names
none_named [] name is = All-nil (λ n. n ≢ name)
none_named (n ∷ names) name is =
    elim (bytes_eq name n) as (λ b. bytes_eq name n ≡ b → (b || list_any (bytes_eq name) names) ≡ false
    → All (λ m. m ≢ name) (n ∷ names)) [
      | true ↦ λ same one. absurd (false≢true (sym one))
      | false ↦ λ other one. All-cons (λ m. m ≢ name) n names
          (λ is. false≢true (sym other ∙ (bytes_eq-Decides name n).1 (sym is))) (none_named names name one)
    ] refl is

abbrev pub Differ : List (List ℕ) → Type 0
Differ names = AllPairs (λ (a b : List ℕ). a ≢ b) names

or_left : (a b : Bool) → (a || b) ≡ false → a ≡ false
or_left true b is = is
or_left false b is = refl

pub shapes_differ : (directory : Directory) (entries : List DirectoryEntry) → AreEntries directory entries
    → Differ (shape_names directory) → Differ (shape_names (with_all directory entries))
shapes_differ directory [] are differ = differ
shapes_differ directory (ShapeEntry shape ∷ entries) are differ =
    shapes_differ (with_entry directory (ShapeEntry shape)) entries are.2
    (subst Differ (sym (map-append (λ (s : Shape). s.name) directory.shapes (shape ∷ [])))
    (pairs-push (λ (a b : List ℕ). a ≢ b) (shape_names directory) shape.name differ
    (none_named (shape_names directory) shape.name are.1)))
shapes_differ directory (RootEntry name ∷ entries) are differ =
    shapes_differ (with_entry directory (RootEntry name)) entries are.2 differ

pub roots_differ : (directory : Directory) (entries : List DirectoryEntry) → AreEntries directory entries
    → Differ directory.roots → Differ (with_all directory entries).roots
roots_differ directory [] are differ = differ
roots_differ directory (ShapeEntry shape ∷ entries) are differ =
    roots_differ (with_entry directory (ShapeEntry shape)) entries are.2 differ
roots_differ directory (RootEntry name ∷ entries) are differ =
    roots_differ (with_entry directory (RootEntry name)) entries are.2
    (pairs-push (λ (a b : List ℕ). a ≢ b) directory.roots name differ
    (none_named directory.roots name (or_left (has_name directory.roots name) _ are.1)))

-- ---- the roots of the graph

root_names : List DirectoryEntry → List (List ℕ)
root_names [] = []
root_names (ShapeEntry shape ∷ entries) = root_names entries
root_names (RootEntry name ∷ entries) = name ∷ root_names entries

names_with : (directory : Directory) (entries : List DirectoryEntry)
    → (with_all directory entries).roots ≡ directory.roots ++ root_names entries
unfolding root_names
names_with directory [] = sym (append-nil directory.roots)
names_with directory (ShapeEntry shape ∷ entries) =
    names_with (with_entry directory (ShapeEntry shape)) entries
names_with directory (RootEntry name ∷ entries) =
    names_with (with_entry directory (RootEntry name)) entries
    ∙ append_assoc directory.roots (name ∷ []) (root_names entries)

with_roots : Graph → List NamedValue → Graph
with_roots graph roots = record graph { roots = roots }

graph_with : (graph : Graph) (entries : List DirectoryEntry)
    → with_all_too graph entries ≡ with_null_roots graph (root_names entries)
unfolding root_names with_roots
graph_with graph [] = ap (with_roots graph) (sym (append-nil graph.roots))
graph_with graph (ShapeEntry shape ∷ entries) = graph_with graph entries
graph_with graph (RootEntry name ∷ entries) =
    graph_with (with_null_root graph name) entries
    ∙ ap (with_roots graph) (append_assoc graph.roots (null_root name ∷ [])
    (map null_root (root_names entries)))

-- there are no fewer roots
pub roots_more : (directory : Directory) (entries : List DirectoryEntry)
    → length directory.roots ≤ length (with_all directory entries).roots
roots_more directory entries =
    let names = ap (λ (ns : List (List ℕ)). length ns) (names_with directory entries) in
    let both = length-append directory.roots (root_names entries) in
    omega (arith, names, both)

-- what it gets are the roots behind those that it has
pub roots_added : (graph : Graph) (directory : Directory) (entries : List DirectoryEntry)
    → length graph.roots ≡ length directory.roots
    → with_null_roots graph (drop (length graph.roots)
    (with_all directory entries).roots) ≡ with_all_too graph entries
roots_added graph directory entries long =
    ap (λ names. with_null_roots graph names)
    (ap (λ n. drop n (with_all directory entries).roots) long
    ∙ ap (drop (length directory.roots)) (names_with directory entries)
    ∙ drop-append_seam directory.roots (root_names entries))
    ∙ sym (graph_with graph entries)
