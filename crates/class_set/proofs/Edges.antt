-- From each class to those right above it.
use Rattle.std.proofs.Common.{◌≡◌, ℕ, zero, suc, ◌+◌, ◌<◌, Bool, true, false, nat_lt, ◌&&◌, List, [], ◌∷◌, ◌++◌, Option, Some}
use Rattle.std.proofs.Common.{None, map, length, slice_index_or, refl, ap, sym, ◌∙◌, arith, subst}
use Rattle.std.specs.Prelude.{All, Contains}
use Rattle.std.specs.List.{flat_map, list_all}
use Rattle.std.specs.Option.{option_to_list}
use Rattle.std.proofs.lemmas.Bool.{false≢true}
use Rattle.std.proofs.lemmas.Bool.Decides.{nat_tests}
use Rattle.std.proofs.lemmas.List.{length-map, length-append, map-append}
use Rattle.std.proofs.lemmas.List.Elements.{Contains-append_left, Contains-append_right, All-append, All-cons, All-head}
use Rattle.std.proofs.lemmas.List.Elements.{All-nil, All-tail}
use Rattle.class_file.specs.declared.class.ClassFile.{ClassFile}
use Rattle.plain_model.specs.BuiltIn.{built_in_classes}
use Rattle.plain_model.specs.Consistent.{super_list}
use Rattle.graph_walks.specs.Paths.{next_of}
use Rattle.graph_walks.specs.Circles.{HasNoCircle}
use Rattle.graph_walks.proofs.Paths.{Leads-same}
use Rattle.built_in_table.specs.Members.{built_in_supers, built_in_interfaces}
use Rattle.text_table.specs.Texts.{place_of}
use Rattle.class_links.specs.Names.{looked_through}
use Rattle.class_set.specs.Linked.{class_names}
use Rattle.class_set.specs.Members.{super_number, interface_numbers, supers_of, interface_edges}
use Rattle.class_set.specs.Facts.{class_facts}
use Rattle.class_set.specs.Lookups.{class_edges, supers_in_order}
use Rattle.class_set.specs.Tables.{edges_with}
use Rattle.class_set.proofs.Above.{class_names_counted, supers_counted}
use Rattle.class_set.proofs.Indices.{place_below}
use Rattle.class_set.proofs.Circles.{as_names, built_in_edges, edges_counted, edges_of_built_ins, number_of}

-- ---- each edge leads to a class

abbrev IsOf : ℕ → ℕ → Type 0
IsOf count v = v < count

abbrev AreOf : ℕ → List ℕ → Type 0
AreOf count next = All (λ (v : ℕ). v < count) next

placed_below : (files : List ClassFile) (name : List ℕ) (o : Option ℕ) → place_of (class_names files) name ≡ o
    → AreOf (length files + 28) (option_to_list o)
placed_below files name None e = All-nil (λ (v : ℕ). v < length files + 28)
placed_below files name (Some n) e =
    All-cons (λ (v : ℕ). v < length files + 28) n []
    (omega (arith, place_below 0 (class_names files) name n e, class_names_counted files)) (All-nil (λ (v : ℕ). v < length files + 28))

names_below : (files : List ClassFile) (names : List (List ℕ)) → AreOf (length files + 28) (flat_map (number_of files) names)
unfolding number_of
names_below files [] = All-nil (λ (v : ℕ). v < length files + 28)
names_below files (name ∷ names) =
    All-append (λ (v : ℕ). v < length files + 28) (number_of files name) (flat_map (number_of files) names)
    (placed_below files name (place_of (class_names files) name) refl) (names_below files names)

file_below : (files : List ClassFile) (c : ClassFile) → AreOf (length files + 28) (supers_in_order (class_facts files c))
file_below files c = subst (AreOf (length files + 28)) (sym (as_names files c)) (names_below files (looked_through c))

all_files_below : (all files : List ClassFile) → All (AreOf (length all + 28)) (map supers_in_order (map (class_facts all) files))
all_files_below all [] = All-nil (AreOf (length all + 28))
all_files_below all (c ∷ cs) =
    All-cons (AreOf (length all + 28)) (supers_in_order (class_facts all c)) (map supers_in_order (map (class_facts all) cs))
    (file_below all c) (all_files_below all cs)

rows_below : List (List ℕ) → Bool
rows_below [] = true
rows_below (row ∷ rows) = list_all (λ w. nat_lt w 28) row && rows_below rows

built_ins_below : rows_below built_in_edges ≡ true
unfolding rows_below built_in_edges
built_ins_below = refl

both_true : (a b : Bool) → (a && b) ≡ true → (a ≡ true) × (b ≡ true)
both_true true b h = (refl, h)
both_true false b h = absurd (false≢true h)

row_shifted : (first : ℕ) (row : List ℕ) → list_all (λ w. nat_lt w 28) row ≡ true → AreOf (first + 28) (map (λ w. first + w) row)
row_shifted first [] h = All-nil (λ (v : ℕ). v < first + 28)
row_shifted first (w ∷ ws) h =
    let both = both_true (nat_lt w 28) (list_all (λ x. nat_lt x 28) ws) h in
    let t : nat_lt w 28 ≡ true = both.0 in
    let l : w < 28 = grind (arith, nat_tests) in
    All-cons (λ (v : ℕ). v < first + 28) (first + w) (map (λ x. first + x) ws) (omega (arith, l)) (row_shifted first ws both.1)

rows_shifted : (first : ℕ) (rows : List (List ℕ)) → rows_below rows ≡ true → All (AreOf (first + 28)) (map (map (λ w. first + w)) rows)
unfolding rows_below
rows_shifted first [] h = All-nil (AreOf (first + 28))
rows_shifted first (row ∷ rows) h =
    let both = both_true (list_all (λ w. nat_lt w 28) row) (rows_below rows) h in
    All-cons (AreOf (first + 28)) (map (λ w. first + w) row) (map (map (λ w. first + w)) rows) (row_shifted first row both.0)
    (rows_shifted first rows both.1)

edges_below : (files : List ClassFile) → All (AreOf (length files + 28)) (class_edges files)
edges_below files =
    subst (All (AreOf (length files + 28))) (sym (map-append supers_in_order (map (class_facts files) files) (built_in_classes (length files))))
    (All-append (AreOf (length files + 28)) (map supers_in_order (map (class_facts files) files))
    (map supers_in_order (built_in_classes (length files))) (all_files_below files files)
    (subst (All (AreOf (length files + 28))) (sym (edges_of_built_ins (length files)))
    (rows_shifted (length files) built_in_edges built_ins_below)))

-- ---- superinterfaces and superclasses apart

file_edges : (all files : List ClassFile) (is : List (List ℕ)) (ss : List (Option ℕ))
    → edges_with (map (interface_numbers all) files ++ is) (map (super_number all) files ++ ss)
    ≡ map supers_in_order (map (class_facts all) files) ++ edges_with is ss
file_edges all [] is ss = refl
file_edges all (c ∷ cs) is ss = ap (λ es. supers_in_order (class_facts all c) ∷ es) (file_edges all cs is ss)

built_in_edges_with : (first : ℕ) → edges_with (built_in_interfaces first) (built_in_supers first) ≡ map supers_in_order (built_in_classes first)
unfolding built_in_interfaces built_in_supers
built_in_edges_with first = refl

pub edges_apart : (files : List ClassFile) → edges_with (interface_edges files) (supers_of files) ≡ class_edges files
edges_apart files =
    file_edges files files (built_in_interfaces (length files)) (built_in_supers (length files))
    ∙ ap (λ es. map supers_in_order (map (class_facts files) files) ++ es) (built_in_edges_with (length files))
    ∙ sym (map-append supers_in_order (map (class_facts files) files) (built_in_classes (length files)))

built_in_interfaces_counted : (first : ℕ) → length (built_in_interfaces first) ≡ 28
unfolding built_in_interfaces
built_in_interfaces_counted first = refl

pub interfaces_counted : (files : List ClassFile) → length (interface_edges files) ≡ length files + 28
interfaces_counted files =
    length-append (map (interface_numbers files) files) (built_in_interfaces (length files))
    ∙ rw (length-map files (interface_numbers files), built_in_interfaces_counted (length files)) refl

left_part : (count : ℕ) (xs ys : List ℕ) → AreOf count (xs ++ ys) → AreOf count xs
left_part count [] ys h = All-nil (λ (v : ℕ). v < count)
left_part count (x ∷ xs) ys h =
    All-cons (λ (v : ℕ). v < count) x xs (All-head (λ (v : ℕ). v < count) x (xs ++ ys) h) (left_part count xs ys (All-tail (λ (v : ℕ). v < count) x (xs ++ ys) h))

last_part : (count : ℕ) (xs : List ℕ) (n : ℕ) → AreOf count (xs ++ n ∷ []) → n < count
last_part count [] n h = All-head (λ (v : ℕ). v < count) n [] h
last_part count (x ∷ xs) n h = last_part count xs n (All-tail (λ (v : ℕ). v < count) x (xs ++ n ∷ []) h)

interfaces_of_edges : (count : ℕ) (is : List (List ℕ)) (ss : List (Option ℕ)) → length is ≡ length ss → All (AreOf count) (edges_with is ss)
    → All (AreOf count) is
interfaces_of_edges count [] ss e h = All-nil (AreOf count)
interfaces_of_edges count (i ∷ is) [] e h = absurd (omega (arith, e))
interfaces_of_edges count (i ∷ is) (s ∷ ss) e h =
    All-cons (AreOf count) i is (left_part count i (super_list s) (All-head (AreOf count) (i ++ super_list s) (edges_with is ss) h))
    (interfaces_of_edges count is ss (omega (arith, e)) (All-tail (AreOf count) (i ++ super_list s) (edges_with is ss) h))

supers_of_edges : (count : ℕ) (is : List (List ℕ)) (ss : List (Option ℕ)) → length is ≡ length ss → All (AreOf count) (edges_with is ss)
    → (k n : ℕ) → slice_index_or ss k None ≡ Some n → n < count
supers_of_edges count [] [] e h k n at = absurd (cc)
supers_of_edges count [] (s ∷ ss) e h k n at = absurd (omega (arith, e))
supers_of_edges count (i ∷ is) [] e h k n at = absurd (omega (arith, e))
supers_of_edges count (i ∷ is) (s ∷ ss) e h zero n at =
    last_part count i n (subst (λ o. AreOf count (i ++ super_list o)) at (All-head (AreOf count) (i ++ super_list s) (edges_with is ss) h))
supers_of_edges count (i ∷ is) (s ∷ ss) e h (suc k) n at =
    supers_of_edges count is ss (omega (arith, e)) (All-tail (AreOf count) (i ++ super_list s) (edges_with is ss) h) k n at

same_count : (files : List ClassFile) → length (interface_edges files) ≡ length (supers_of files)
same_count files = interfaces_counted files ∙ sym (supers_counted files)

pub supers_within : (files : List ClassFile) (k n : ℕ) → slice_index_or (supers_of files) k None ≡ Some n → n < length files + 28
supers_within files =
    supers_of_edges (length files + 28) (interface_edges files) (supers_of files) (same_count files)
    (subst (All (AreOf (length files + 28))) (sym (edges_apart files)) (edges_below files))

pub interfaces_within : (files : List ClassFile) → All (λ next. All (λ (v : ℕ). v < length (interface_edges files)) next) (interface_edges files)
interfaces_within files =
    subst (λ n. All (λ next. All (λ (v : ℕ). v < n) next) (interface_edges files)) (sym (interfaces_counted files))
    (interfaces_of_edges (length files + 28) (interface_edges files) (supers_of files) (same_count files)
    (subst (All (AreOf (length files + 28))) (sym (edges_apart files)) (edges_below files)))

pub edges_within : (files : List ClassFile) → All (λ next. All (λ (v : ℕ). v < length (class_edges files)) next) (class_edges files)
edges_within files = subst (λ n. All (λ next. All (λ (v : ℕ). v < n) next) (class_edges files)) (sym (edges_counted files)) (edges_below files)

-- ---- no class is its own superinterface

nothing_in : (w : ℕ) → Contains [] w → ⊥
nothing_in w c = omega (arith, c.1)

interfaces_among : (is : List (List ℕ)) (ss : List (Option ℕ)) → length is ≡ length ss → (v w : ℕ) → Contains (next_of is v) w
    → Contains (next_of (edges_with is ss) v) w
interfaces_among [] ss e v w c = absurd (nothing_in w c)
interfaces_among (i ∷ is) [] e v w c = absurd (omega (arith, e))
interfaces_among (i ∷ is) (s ∷ ss) e zero w c = Contains-append_left i (super_list s) w c
interfaces_among (i ∷ is) (s ∷ ss) e (suc v) w c = interfaces_among is ss (omega (arith, e)) v w c

pub interfaces_to_edges : (files : List ClassFile) (from to : ℕ) → Contains (next_of (interface_edges files) from) to
    → Contains (next_of (class_edges files) from) to
interfaces_to_edges files from to c =
    subst (λ es. Contains (next_of es from) to) (edges_apart files)
    (interfaces_among (interface_edges files) (supers_of files) (same_count files) from to c)

pub interfaces_free : (files : List ClassFile) → HasNoCircle (class_edges files) → HasNoCircle (interface_edges files)
interfaces_free files none v path =
    none v (Leads-same (interface_edges files) (class_edges files) (interfaces_to_edges files) v v path)

-- ---- superclasses among the edges

supers_among_edges : (is : List (List ℕ)) (ss : List (Option ℕ)) → length is ≡ length ss → (v w : ℕ) → slice_index_or ss v None ≡ Some w
    → Contains (next_of (edges_with is ss) v) w
supers_among_edges [] [] e v w at = absurd (cc)
supers_among_edges [] (s ∷ ss) e v w at = absurd (omega (arith, e))
supers_among_edges (i ∷ is) [] e v w at = absurd (omega (arith, e))
supers_among_edges (i ∷ is) (s ∷ ss) e zero w at =
    Contains-append_right i (super_list s) w (subst (λ o. Contains (super_list o) w) (sym at) (0, omega arith, refl))
supers_among_edges (i ∷ is) (s ∷ ss) e (suc v) w at = supers_among_edges is ss (omega (arith, e)) v w at

pub supers_among : (files : List ClassFile) (v w : ℕ) → slice_index_or (supers_of files) v None ≡ Some w → Contains (next_of (class_edges files) v) w
supers_among files v w at =
    subst (λ es. Contains (next_of es v) w) (edges_apart files)
    (supers_among_edges (interface_edges files) (supers_of files) (same_count files) v w at)
