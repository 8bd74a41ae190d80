-- The superclass of each class by number.
use Rattle.std.proofs.Common.{true, false, ◌≡◌, ℕ, zero, suc, ◌+◌, ◌-◌, ◌<◌, ◌≤◌, List, [], ◌∷◌, ◌++◌, Option, Some, None, map}
use Rattle.std.proofs.Common.{length, drop, slice_index_or, refl, ap, sym, ◌∙◌, arith}
use Rattle.std.specs.Prelude.{is_some}
use Rattle.std.proofs.lemmas.Bool.{false≢true}
use Rattle.std.proofs.lemmas.List.{length-map, length-append, map-append, get_or_append_left, get_or_past}
use Rattle.class_file.specs.declared.class.ClassFile.{ClassFile}
use Rattle.plain_model.specs.Classes.{ClassFacts, no_class}
use Rattle.plain_model.specs.BuiltIn.{built_in_classes, array_class}
use Rattle.plain_model.specs.Facts.{classes_of, class_at, superclasses_from}
use Rattle.built_in_table.specs.Members.{built_in_supers, built_in_names}
use Rattle.class_links.specs.Names.{name_of}
use Rattle.class_set.specs.Linked.{Linked, class_names, names_of}
use Rattle.class_set.specs.Members.{super_number, supers_of}
use Rattle.class_set.specs.ArrayTypes.{array_type}
use Rattle.class_set.specs.Facts.{class_facts, facts_of}
use Rattle.class_set.specs.Lookups.{first_some}
use Rattle.class_set.specs.Tables.{linked_of}
use Rattle.class_set.proofs.Numbers.{built_in_size}

abbrev superclass : ClassFacts → Option ℕ
superclass c = c.superclass

pub get_or-map_all : {X Y : Type 0} (f : X → Y) (d : X) (xs : List X) (n : ℕ) → slice_index_or (map f xs) n (f d) ≡ f (slice_index_or xs n d)
get_or-map_all f d [] n = refl
get_or-map_all f d (x ∷ xs) zero = refl
get_or-map_all f d (x ∷ xs) (suc n) = get_or-map_all f d xs n

file_supers : (all files : List ClassFile) → map superclass (map (class_facts all) files) ≡ map (super_number all) files
file_supers all [] = refl
file_supers all (c ∷ cs) = ap (λ ns. super_number all c ∷ ns) (file_supers all cs)

array_supers : (first : ℕ) (files : List ClassFile) (arrays : List (List ℕ))
    → map superclass (map (array_class first) (map (array_type files) arrays)) ≡ map (λ (d : List ℕ). Some (first + 18)) arrays
array_supers first files [] = refl
array_supers first files (a ∷ ds) = ap (λ ns. Some (first + 18) ∷ ns) (array_supers first files ds)

built_ins : (first : ℕ) → map superclass (built_in_classes first) ≡ built_in_supers first
unfolding built_in_supers
built_ins first = refl

abbrev pub supers_with : Linked → List (Option ℕ)
supers_with set = supers_of set.files ++ map (λ (d : List ℕ). Some (length set.files + 18)) set.arrays

supers_listed : (set : Linked) → map superclass (classes_of (facts_of set)) ≡ supers_with set
supers_listed set =
    let program = map (class_facts set.files) set.files in
    let first = length program in
    let same : first ≡ length set.files = length-map set.files (class_facts set.files) in
    let arrays = map (array_class first) (map (array_type set.files) set.arrays) in
    map-append superclass (program ++ built_in_classes first) arrays
    ∙ ap (λ ns. ns ++ map superclass arrays) (map-append superclass program (built_in_classes first))
    ∙ ap (λ ns. ns ++ map superclass (built_in_classes first) ++ map superclass arrays) (file_supers set.files set.files)
    ∙ ap (λ ns. map (super_number set.files) set.files ++ ns ++ map superclass arrays) (built_ins first)
    ∙ ap (λ ns. map (super_number set.files) set.files ++ built_in_supers first ++ ns) (array_supers first set.files set.arrays)
    ∙ ap (λ n. map (super_number set.files) set.files ++ built_in_supers n ++ map (λ (d : List ℕ). Some (n + 18)) set.arrays) same

pub class_super : (set : Linked) (n : ℕ) → (class_at (facts_of set) n).superclass ≡ slice_index_or (supers_with set) n None
class_super set n =
    sym (get_or-map_all superclass no_class (classes_of (facts_of set)) n)
    ∙ ap (λ ns. slice_index_or ns n None) (supers_listed set)

built_in_supers_counted : (first : ℕ) → length (built_in_supers first) ≡ 28
unfolding built_in_supers
built_in_supers_counted first = refl

pub supers_counted : (files : List ClassFile) → length (supers_of files) ≡ length files + 28
supers_counted files =
    length-append (map (super_number files) files) (built_in_supers (length files))
    ∙ rw (length-map files (super_number files), built_in_supers_counted (length files)) refl

pub super_below : (set : Linked) (n : ℕ) → n < length (supers_of set.files)
    → (class_at (facts_of set) n).superclass ≡ slice_index_or (supers_of set.files) n None
super_below set n l = class_super set n ∙ get_or_append_left (supers_of set.files) (map (λ (d : List ℕ). Some (length set.files + 18)) set.arrays) None n l

same_there : {A X : Type 0} (x : X) (d : X) (ds : List A) (n : ℕ) → n < length ds → slice_index_or (map (λ (a : A). x) ds) n d ≡ x
same_there x d [] n l = absurd (omega (arith, l))
same_there x d (a ∷ ds) zero l = refl
same_there x d (a ∷ ds) (suc n) l = same_there x d ds n (omega (arith, l))

pub super_of_array : (set : Linked) (n : ℕ) → length set.files + 28 ≤ n → n < length set.files + 28 + length set.arrays
    → (class_at (facts_of set) n).superclass ≡ Some (length set.files + 18)
super_of_array set n behind l =
    let size = supers_counted set.files in
    let above = map (λ (d : List ℕ). Some (length set.files + 18)) set.arrays in
    class_super set n
    ∙ get_or_append_right' (supers_of set.files) above None n (omega (arith, size, behind))
    ∙ same_there (Some (length set.files + 18)) None set.arrays (n - length (supers_of set.files)) (omega (arith, size, behind, l))
  where
    get_or_append_right' : {X : Type 0} (xs ys : List X) (d : X) (n : ℕ) → length xs ≤ n
        → slice_index_or (xs ++ ys) n d ≡ slice_index_or ys (n - length xs) d
    get_or_append_right' [] ys d n l = ap (λ k. slice_index_or ys k d) (omega arith)
    get_or_append_right' (x ∷ xs) ys d zero l = absurd (omega (arith, l))
    get_or_append_right' (x ∷ xs) ys d (suc n) l =
        get_or_append_right' xs ys d n (omega (arith, l)) ∙ ap (λ k. slice_index_or ys k d) (omega arith)

pub super_past : (set : Linked) (n : ℕ) → length set.files + 28 + length set.arrays ≤ n → (class_at (facts_of set) n).superclass ≡ None
super_past set n l =
    let above = map (λ (d : List ℕ). Some (length set.files + 18)) set.arrays in
    class_super set n
    ∙ get_or_past (supers_with set) n None
    (omega (arith, l, supers_counted set.files, length-append (supers_of set.files) above, length-map set.arrays (λ (d : List ℕ). Some (length set.files + 18))))

-- ---- up the superclasses

pub next_super : {B : Type 0} (own : ℕ → Option B) (classes : List ClassFacts) (k m n above : ℕ) → m ≡ suc k → own n ≡ None
    → (slice_index_or classes n no_class).superclass ≡ Some above
    → first_some own (superclasses_from classes m n) ≡ first_some own (superclasses_from classes k above)
next_super own classes k m n above e none h = rw (e, none, h) refl

pub no_super : {B : Type 0} (own : ℕ → Option B) (classes : List ClassFacts) (k m n : ℕ) → m ≡ suc k → own n ≡ None
    → (slice_index_or classes n no_class).superclass ≡ None → first_some own (superclasses_from classes m n) ≡ None
no_super own classes k m n e none h = rw (e, none, h) refl

pub here_first : {B : Type 0} (own : ℕ → Option B) (classes : List ClassFacts) (k m n : ℕ) (b : B) → m ≡ suc k → own n ≡ Some b
    → first_some own (superclasses_from classes m n) ≡ Some b
here_first own classes k m n b e h = rw (e, h) refl

pub last_class : {B : Type 0} (own : ℕ → Option B) (classes : List ClassFacts) (m n : ℕ) → m ≡ 0
    → first_some own (superclasses_from classes m n) ≡ own n
last_class own classes m n e = rw e (elim (own n) as (λ o. (elim o [ None ↦ None | Some b ↦ Some b ]) ≡ o) [ None ↦ refl | Some b ↦ refl ])

pub here_some : {B : Type 0} (own : ℕ → Option B) (classes : List ClassFacts) (k m n : ℕ) (o : Option B) → m ≡ suc k → own n ≡ o
    → is_some o ≡ true → first_some own (superclasses_from classes m n) ≡ o
here_some own classes k m n None e h some = absurd (false≢true some)
here_some own classes k m n (Some b) e h some = here_first own classes k m n b e h

pub none_own : {B : Type 0} (o r : Option B) → o ≡ r → is_some r ≡ false → o ≡ None
none_own o None e h = e
none_own o (Some b) e h = absurd (false≢true (sym h))

-- ---- names by number

pub class_names_counted : (files : List ClassFile) → length (class_names files) ≡ length files + 28
class_names_counted files =
    length-append (map name_of files) built_in_names ∙ rw (length-map files name_of, built_in_size) refl

pub names_counted : (files : List ClassFile) (names : List (List ℕ)) → names ≡ names_of (linked_of files names)
    → length names ≡ length files + 28 + length (linked_of files names).arrays
names_counted files names e =
    ap length e ∙ length-append (class_names files) (linked_of files names).arrays ∙ rw (class_names_counted files) refl

-- behind the names of classes stand the array types
pub arrays_behind : (files : List ClassFile) (names arrays : List (List ℕ)) → names ≡ class_names files ++ arrays
    → drop (length files + 28) names ≡ arrays
arrays_behind files names arrays e =
    ap (drop (length files + 28)) e ∙ ap (λ n. drop n (class_names files ++ arrays)) (sym (class_names_counted files))
    ∙ drop_append (class_names files) arrays
  where
    drop_append : (xs ys : List (List ℕ)) → drop (length xs) (xs ++ ys) ≡ ys
    drop_append [] ys = refl
    drop_append (x ∷ xs) ys = drop_append xs ys
