-- No class of a set is above itself.
use Rattle.std.proofs.Common.{◌≡◌, ℕ, zero, suc, ◌+◌, ◌-◌, ◌<◌, ◌≤◌, Bool, true, false, nat_lt, ◌&&◌, List, [], ◌∷◌, ◌++◌}
use Rattle.std.proofs.Common.{Option, Some, None, map, length, slice_index_or, refl, ap, sym, ◌∙◌, arith, subst, ◌⊎◌, inl, inr}
use Rattle.std.proofs.Common.{if◌then◌else◌}
use Rattle.std.specs.Prelude.{Contains}
use Rattle.std.specs.List.{flat_map, list_all}
use Rattle.std.specs.Option.{option_to_list}
use Rattle.std.specs.Str.{bytes_eq}
use Rattle.std.proofs.lemmas.Bool.{false≢true, cases_lt}
use Rattle.std.proofs.lemmas.Bool.Decides.{nat_tests}
use Rattle.std.proofs.lemmas.List.{length-map, length-append, map-append, get_or-map, get_or_append_left}
use Rattle.std.proofs.lemmas.List.Concat.{flat_map-append}
use Rattle.class_file.specs.declared.class.ClassFile.{ClassFile}
use Rattle.plain_model.specs.Classes.{no_class}
use Rattle.plain_model.specs.BuiltIn.{built_in_classes}
use Rattle.plain_model.specs.Consistent.{super_list}
use Rattle.graph_walks.specs.Paths.{next_of, Leads, Directly, Along}
use Rattle.graph_walks.specs.Circles.{HasNoCircle}
use Rattle.graph_walks.proofs.Paths.{Leads-within}
use Rattle.built_in_table.specs.Members.{built_in_names}
use Rattle.class_links.specs.Names.{name_of, super_of, interfaces_of, looked_through, file_from, super_files}
use Rattle.class_links.specs.Links.{super_edges}
use Rattle.text_table.specs.Texts.{place_from, place_of}
use Rattle.class_set.specs.Linked.{class_names}
use Rattle.class_set.specs.Members.{super_number, interface_numbers}
use Rattle.class_set.specs.Facts.{class_facts, named_classes}
use Rattle.class_set.specs.Lookups.{class_edges, supers_in_order}

-- ---- numbers

plus_none : (n : ℕ) → n + 0 ≡ n
plus_none n = omega arith

plus_suc : (n k : ℕ) → suc n + k ≡ n + suc k
plus_suc n k = omega arith

suc_first : (n k : ℕ) → suc n + k ≡ suc (n + k)
suc_first n k = omega arith

none_plus : (k : ℕ) → 0 + k ≡ k
none_plus k = omega arith

-- ---- the built-in classes

-- from each to its superinterfaces and its superclass, by place
unfoldable pub built_in_edges : List (List ℕ)
built_in_edges =
    (18 ∷ []) ∷ (18 ∷ []) ∷ (18 ∷ []) ∷ (20 ∷ []) ∷ (14 ∷ []) ∷ (20 ∷ []) ∷ (20 ∷ []) ∷ (18 ∷ []) ∷ (26 ∷ []) ∷ (26 ∷ []) ∷ (20 ∷ [])
    ∷ (20 ∷ []) ∷ (20 ∷ []) ∷ (10 ∷ []) ∷ (20 ∷ []) ∷ (9 ∷ []) ∷ (20 ∷ []) ∷ (20 ∷ []) ∷ [] ∷ (18 ∷ []) ∷ (9 ∷ []) ∷ (2 ∷ 18 ∷ [])
    ∷ (2 ∷ 18 ∷ []) ∷ (14 ∷ []) ∷ (18 ∷ []) ∷ (19 ∷ 18 ∷ []) ∷ (2 ∷ 18 ∷ []) ∷ (20 ∷ []) ∷ []

-- how far each stands below Object
ranks : List ℕ
ranks =
    1 ∷ 1 ∷ 1 ∷ 5 ∷ 6 ∷ 5 ∷ 5 ∷ 1 ∷ 3 ∷ 3 ∷ 5 ∷ 5 ∷ 5 ∷ 6 ∷ 5 ∷ 4 ∷ 5 ∷ 5 ∷ 0 ∷ 1 ∷ 4 ∷ 2 ∷ 2 ∷ 6 ∷ 1 ∷ 2 ∷ 2 ∷ 5 ∷ []

rank : ℕ → ℕ
unfolding ranks
rank n = slice_index_or ranks n 0

pub edges_of_built_ins : (first : ℕ) → map supers_in_order (built_in_classes first) ≡ map (map (λ w. first + w)) built_in_edges
unfolding built_in_edges
edges_of_built_ins first = refl

all_fall : ℕ → List (List ℕ) → Bool
all_fall n [] = true
all_fall n (row ∷ rows) = list_all (λ w. nat_lt (rank w) (rank n)) row && all_fall (suc n) rows

built_ins_fall : all_fall 0 built_in_edges ≡ true
unfolding all_fall built_in_edges rank ranks
built_ins_fall = refl

built_ins_counted : length built_in_edges ≡ 28
unfolding built_in_edges
built_ins_counted = refl

both_true : (a b : Bool) → (a && b) ≡ true → (a ≡ true) × (b ≡ true)
both_true true b h = (refl, h)
both_true false b h = absurd (false≢true h)

one_falls : (n : ℕ) (row : List ℕ) (i : ℕ) → list_all (λ w. nat_lt (rank w) (rank n)) row ≡ true → i < length row
    → rank (slice_index_or row i 0) < rank n
one_falls n [] i h l = absurd (omega (arith, l))
one_falls n (w ∷ ws) zero h l =
    let t : nat_lt (rank w) (rank n) ≡ true = (both_true (nat_lt (rank w) (rank n)) (list_all (λ x. nat_lt (rank x) (rank n)) ws) h).0 in
    grind (arith, nat_tests)
one_falls n (w ∷ ws) (suc i) h l =
    one_falls n ws i (both_true (nat_lt (rank w) (rank n)) (list_all (λ x. nat_lt (rank x) (rank n)) ws) h).1 (omega (arith, l))

fall_at : (n : ℕ) (rows : List (List ℕ)) (k i : ℕ) → all_fall n rows ≡ true → k < length rows → i < length (slice_index_or rows k [])
    → rank (slice_index_or (slice_index_or rows k []) i 0) < rank (n + k)
unfolding all_fall
fall_at n [] k i h l m = absurd (omega (arith, l))
fall_at n (row ∷ rows) zero i h l m =
    rw (plus_none n) (one_falls n row i (both_true (list_all (λ w. nat_lt (rank w) (rank n)) row) (all_fall (suc n) rows) h).0 m)
fall_at n (row ∷ rows) (suc k) i h l m =
    subst (λ j. rank (slice_index_or (slice_index_or rows k []) i 0) < rank j) (plus_suc n k)
    (fall_at (suc n) rows k i (both_true (list_all (λ w. nat_lt (rank w) (rank n)) row) (all_fall (suc n) rows) h).1 (omega (arith, l)) m)

-- ---- what follows a class

contains-map : (f : ℕ → ℕ) (xs : List ℕ) (y : ℕ) → Contains (map f xs) y → (i : ℕ) × (i < length xs) × (y ≡ f (slice_index_or xs i 0))
contains-map f xs y c =
    let l : c.0 < length xs = omega (arith, c.1, length-map xs f) in
    (c.0, l, sym c.2 ∙ get_or-map f xs c.0 0 y l)

of_file : (files : List ClassFile) (v : ℕ) (c : ClassFile) → v < length files
    → next_of (class_edges files) v ≡ supers_in_order (class_facts files (slice_index_or files v c))
of_file files v c l =
    let program = map (class_facts files) files in
    let size : length program ≡ length files = length-map files (class_facts files) in
    let front = map supers_in_order program in
    let m : v < length front = omega (arith, l, size, length-map program supers_in_order) in
    ap (λ es. slice_index_or es v []) (map-append supers_in_order program (built_in_classes (length files)))
    ∙ get_or_append_left front (map supers_in_order (built_in_classes (length files))) [] v m
    ∙ get_or-map supers_in_order program v no_class [] (omega (arith, l, size))
    ∙ ap supers_in_order (get_or-map (class_facts files) files v c no_class l)

get_or_behind : (xs ys : List (List ℕ)) (k : ℕ) → slice_index_or (xs ++ ys) (length xs + k) [] ≡ slice_index_or ys k []
get_or_behind [] ys k = ap (λ n. slice_index_or ys n []) (omega arith)
get_or_behind (x ∷ xs) ys k = ap (λ n. slice_index_or (x ∷ xs ++ ys) n []) (suc_first (length xs) k) ∙ get_or_behind xs ys k

shifted_row : (first : ℕ) (rows : List (List ℕ)) (k : ℕ)
    → slice_index_or (map (map (λ w. first + w)) rows) k [] ≡ map (λ w. first + w) (slice_index_or rows k [])
shifted_row first [] k = refl
shifted_row first (row ∷ rows) zero = refl
shifted_row first (row ∷ rows) (suc k) = shifted_row first rows k

of_built_in : (files : List ClassFile) (k : ℕ)
    → next_of (class_edges files) (length files + k) ≡ map (λ w. length files + w) (slice_index_or built_in_edges k [])
of_built_in files k =
    let program = map (class_facts files) files in
    let front = map supers_in_order program in
    let behind = map supers_in_order (built_in_classes (length files)) in
    let size : length front ≡ length files = length-map program supers_in_order ∙ length-map files (class_facts files) in
    ap (λ es. slice_index_or es (length files + k) []) (map-append supers_in_order program (built_in_classes (length files)))
    ∙ ap (λ n. slice_index_or (front ++ behind) (n + k) []) (sym size)
    ∙ get_or_behind front behind k
    ∙ ap (λ es. slice_index_or es k []) (edges_of_built_ins (length files))
    ∙ shifted_row (length files) built_in_edges k

pub edges_counted : (files : List ClassFile) → length (class_edges files) ≡ length files + 28
edges_counted files =
    length-map (named_classes files) supers_in_order
    ∙ length-append (map (class_facts files) files) (built_in_classes (length files))
    ∙ ap (λ n. n + 28) (length-map files (class_facts files))

-- from a built-in class an edge leads to one that is less far below Object
edge_high : (files : List ClassFile) (v w : ℕ) → Contains (next_of (class_edges files) v) w → length files ≤ v
    → (length files ≤ w) × (rank (w - length files) < rank (v - length files))
edge_high files v w c h =
    let first = length files in
    let k = v - first in
    let at : v ≡ first + k = omega (arith, h) in
    let row = slice_index_or built_in_edges k [] in
    let d : Contains (map (λ x. first + x) row) w =
    subst (λ xs. Contains xs w) (ap (next_of (class_edges files)) at ∙ of_built_in files k) c in
    let m = contains-map (λ x. first + x) row w d in
    let below : v < length (class_edges files) = Leads-within (class_edges files) v w (Directly v w c) in
    let there : k < length built_in_edges = omega (arith, below, edges_counted files, built_ins_counted, h) in
    let falls = fall_at 0 built_in_edges k m.0 built_ins_fall there m.1 in
    let same : w - first ≡ slice_index_or row m.0 0 = omega (arith, m.2) in
    (omega (arith, m.2), rw same (subst (λ j. rank (slice_index_or row m.0 0) < rank j) (none_plus k) falls))

-- ---- classes of files

at_least : (n : ℕ) (texts : List (List ℕ)) (text : List ℕ) (w : ℕ) → place_from n texts text ≡ Some w → n ≤ w
at_least n [] text w h = absurd (cc)
at_least n (t ∷ ts) text w h =
    elim (bytes_eq t text) as (λ b. (if b then Some n else place_from (n + 1) ts text) ≡ Some w → n ≤ w) [
      | true ↦ λ e. (let same : n ≡ w = cc in omega (arith, same))
      | false ↦ λ e. omega (arith, at_least (n + 1) ts text w e)
    ] h

place_low : (n : ℕ) (files : List ClassFile) (others : List (List ℕ)) (name : List ℕ) (w : ℕ)
    → place_from n (map name_of files ++ others) name ≡ Some w → w < n + length files → file_from n files name ≡ w ∷ []
place_low n [] others name w h l = absurd (omega (arith, l, at_least n others name w h))
place_low n (c ∷ cs) others name w h l =
    elim (bytes_eq (name_of c) name) as (λ b. (if b then Some n else place_from (n + 1) (map name_of cs ++ others) name) ≡ Some w
    → (if b then n ∷ [] else file_from (n + 1) cs name) ≡ w ∷ []) [
      | true ↦ λ e. (let same : n ≡ w = cc in ap (λ k. k ∷ []) same)
      | false ↦ λ e. place_low (n + 1) cs others name w e (omega (arith, l))
    ] h

Contains-left : (xs ys : List ℕ) (n : ℕ) → Contains xs n → Contains (xs ++ ys) n
Contains-left xs ys n c =
    (c.0, omega (arith, c.1, length-append xs ys), get_or_append_left xs ys n c.0 c.1 ∙ c.2)

behind_of : (xs ys : List ℕ) (k d : ℕ) → slice_index_or (xs ++ ys) (length xs + k) d ≡ slice_index_or ys k d
behind_of [] ys k d = ap (λ n. slice_index_or ys n d) (omega arith)
behind_of (x ∷ xs) ys k d = ap (λ n. slice_index_or (x ∷ xs ++ ys) n d) (suc_first (length xs) k) ∙ behind_of xs ys k d

Contains-right : (xs ys : List ℕ) (n : ℕ) → Contains ys n → Contains (xs ++ ys) n
Contains-right xs ys n c =
    (length xs + c.0, omega (arith, c.1, length-append xs ys), behind_of xs ys c.0 n ∙ c.2)

Contains-parts : (xs ys : List ℕ) (n : ℕ) → Contains (xs ++ ys) n → Contains xs n ⊎ Contains ys n
Contains-parts xs ys n c = elim (cases_lt c.0 (length xs)) [
  | inl l ↦ inl (c.0, l, sym (get_or_append_left xs ys n c.0 l) ∙ c.2)
  | inr h ↦ inr (
    c.0 - length xs,
    omega (arith, h, c.1, length-append xs ys),
    sym (behind_of xs ys (c.0 - length xs) n) ∙ ap (λ k. slice_index_or (xs ++ ys) k n) (omega (arith, h)) ∙ c.2,
  )
]

unfoldable pub number_of : List ClassFile → List ℕ → List ℕ
number_of files name = option_to_list (place_of (class_names files) name)

one_low : (files : List ClassFile) (o : Option ℕ) (name : List ℕ) (w : ℕ) → place_of (class_names files) name ≡ o
    → Contains (option_to_list o) w → w < length files → Contains (file_from 0 files name) w
one_low files None name w e c l = absurd (omega (arith, c.1))
one_low files (Some n) name w e c l =
    let first : c.0 ≡ 0 = omega (arith, c.1) in
    let same : n ≡ w = ap (λ k. slice_index_or (n ∷ []) k w) (sym first) ∙ c.2 in
    let there : file_from 0 files name ≡ w ∷ [] =
    place_low 0 files built_in_names name w (e ∙ ap (λ k. Some k) same) (omega (arith, l)) in
    subst (λ xs. Contains xs w) (sym there) (0, omega arith, refl)

names_low : (files : List ClassFile) (names : List (List ℕ)) (w : ℕ) → Contains (flat_map (number_of files) names) w → w < length files
    → Contains (flat_map (file_from 0 files) names) w
unfolding number_of
names_low files [] w c l = absurd (omega (arith, c.1))
names_low files (name ∷ names) w c l =
    elim (Contains-parts (option_to_list (place_of (class_names files) name)) (flat_map (number_of files) names) w c) [
      | inl d ↦ Contains-left (file_from 0 files name) (flat_map (file_from 0 files) names) w
          (one_low files (place_of (class_names files) name) name w refl d l)
      | inr d ↦ Contains-right (file_from 0 files name) (flat_map (file_from 0 files) names) w (names_low files names w d l)
    ]

pub as_names : (files : List ClassFile) (c : ClassFile) → supers_in_order (class_facts files c) ≡ flat_map (number_of files) (looked_through c)
unfolding number_of
as_names files c =
    sym (flat_map-append (λ (name : List ℕ). option_to_list (place_of (class_names files) name)) (interfaces_of c) (super_of c ∷ [])
    ∙ ap (λ xs. interface_numbers files c ++ xs) (last_one (super_number files c)))
  where
    last_one : (o : Option ℕ) → option_to_list o ++ [] ≡ super_list o
    last_one None = refl
    last_one (Some n) = refl

edge_of_files : (files : List ClassFile) (v w : ℕ) (d : ClassFile) → Contains (next_of (class_edges files) v) w → w < length files
    → v < length files → Contains (next_of (super_edges files) v) w
edge_of_files files v w d c l m =
    let file = slice_index_or files v d in
    let e : Contains (flat_map (number_of files) (looked_through file)) w =
    subst (λ xs. Contains xs w) (of_file files v d m ∙ as_names files file) c in
    subst (λ xs. Contains xs w) (sym (get_or-map (super_files files) files v d [] m)) (names_low files (looked_through file) w e l)

first_file : (files : List ClassFile) → 0 < length files → ClassFile
first_file [] l = absurd (omega (arith, l))
first_file (c ∷ cs) l = c

-- an edge to a class of a file is one of those between files
edge_low : (files : List ClassFile) (v w : ℕ) → Contains (next_of (class_edges files) v) w → w < length files
    → (v < length files) × Contains (next_of (super_edges files) v) w
edge_low files v w c l = elim (cases_lt v (length files)) [
  | inr h ↦ absurd (omega (arith, l, (edge_high files v w c h).0))
  | inl m ↦ (m, edge_of_files files v w (first_file files (omega (arith, m))) c l m)
]

-- ---- paths

stays_high : (files : List ClassFile) (v w : ℕ) → Leads (class_edges files) v w → length files ≤ v
    → (length files ≤ w) × (rank (w - length files) < rank (v - length files))
stays_high files v w (Directly from to c) h = edge_high files v w c h
stays_high files v w (Along from between to c path) h =
    let e = edge_high files v between c h in
    let r = stays_high files between w path e.0 in
    (r.0, omega (arith, e.1, r.1))

stays_low : (files : List ClassFile) (v w : ℕ) → Leads (class_edges files) v w → w < length files
    → (v < length files) × Leads (super_edges files) v w
stays_low files v w (Directly from to c) l = let e = edge_low files v w c l in (e.0, Directly v w e.1)
stays_low files v w (Along from between to c path) l =
    let r = stays_low files between w path l in
    let e = edge_low files v between c r.0 in
    (e.0, Along v between w e.1 r.1)

pub no_class_above_itself : (files : List ClassFile) → HasNoCircle (super_edges files) → HasNoCircle (class_edges files)
no_class_above_itself files none v path = elim (cases_lt v (length files)) [
  | inl l ↦ none v (stays_low files v v path l).1
  | inr h ↦ absurd (omega (arith, (stays_high files v v path h).1))
]
