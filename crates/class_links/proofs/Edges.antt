-- The edges from classes to their superinterfaces and superclasses.
use Rattle.std.proofs.Common.{◌≡◌, ◌↔◌, ℕ, ◌+◌, ◌<◌, true, false, List, [], ◌∷◌, ◌++◌, map, take, length, slice_index_or, arith}
use Rattle.std.proofs.Common.{ap, sym, ◌∙◌, subst, inl, inr, if◌then◌else◌}
use Rattle.std.specs.Prelude.{All, Contains}
use Rattle.std.specs.List.{flat_map}
use Rattle.std.specs.Str.{bytes_eq}
use Rattle.std.proofs.lemmas.Bool.{cases_lt}
use Rattle.std.proofs.lemmas.List.{get_or_append_left, get_or_at, get_or_past, get_or_default, length_push, length-map}
use Rattle.std.proofs.lemmas.List.{map_more}
use Rattle.std.proofs.lemmas.List.Elements.{All-nil, All-push, All-append, All-map, All-weaker, All-contains, Contains-get_or}
use Rattle.class_file.specs.declared.class.ClassFile.{ClassFile}
use Rattle.class_links.specs.Names.{name_of, looked_through, file_from, super_files}
use Rattle.class_links.specs.Links.{super_edges}
use Rattle.graph_walks.specs.Paths.{next_of, HaveSameEdges}

-- the edges from one vertex more
HaveSameEdges-push : (edges others : List (List ℕ)) (e o : List ℕ) → HaveSameEdges edges others
    → ((n : ℕ) → Contains e n ↔ Contains o n) → HaveSameEdges (edges ++ e ∷ []) (others ++ o ∷ [])
HaveSameEdges-push edges others e o h same =
    let size : length edges ≡ length others = h.count in
    record {
      count = omega (arith, length_push edges e, length_push others o, size);
      same = λ v n. elim (cases_lt v (length edges)) [
        | inl l ↦ (let m : v < length others = omega (arith, l, size) in
            rw (get_or_append_left edges (e ∷ []) [] v l, get_or_append_left others (o ∷ []) [] v m) (h.same v n))
        | inr p ↦ elim (cases_lt (length edges) v) [
          | inl q ↦ rw (
            get_or_past (edges ++ e ∷ []) v [] (omega (arith, length_push edges e, q)),
            get_or_past (others ++ o ∷ []) v [] (omega (arith, length_push others o, q, size)),
          ) (λ c. c, λ c. c)
          | inr q ↦ rw (get_or_at edges e [] [] v (omega (arith, p, q)), get_or_at others o [] [] v (omega (arith, p, q, size))) (same n)
        ]
      ];
    }

-- the edges from the file at the next place
pub super_edges-more : (files : List ClassFile) (i : ℕ) (file : ClassFile) (edges : List (List ℕ)) (e : List ℕ) → i < length files
    → file ≡ slice_index_or files i file → HaveSameEdges edges (map (super_files files) (take i files))
    → ((n : ℕ) → Contains e n ↔ Contains (super_files files file) n)
    → HaveSameEdges (edges ++ e ∷ []) (map (super_files files) (take (i + 1) files))
super_edges-more files i file edges e l at h same =
    let before = map (super_files files) (take i files) in
    let more : map (super_files files) (take (i + 1) files) ≡ before ++ super_files files file ∷ [] =
    map_more (super_files files) files i file l ∙ ap (λ c. before ++ super_files files c ∷ []) (sym at) in
    subst (λ others. HaveSameEdges (edges ++ e ∷ []) others) (sym more) (HaveSameEdges-push edges before e (super_files files file) h same)

pub same_edges_count : (files : List ClassFile) (edges : List (List ℕ)) → HaveSameEdges edges (super_edges files)
    → length edges ≡ length files
same_edges_count files edges h = h.count ∙ length-map files (super_files files)

-- ---- where edges lead
file_from-below : (files : List ClassFile) (m : ℕ) (name : List ℕ) → All (λ (n : ℕ). n < m + length files) (file_from m files name)
file_from-below [] m name = All-nil (λ (n : ℕ). n < m + 0)
file_from-below (c ∷ cs) m name =
    elim (bytes_eq (name_of c) name) as (λ b. All (λ (n : ℕ). n < m + length (c ∷ cs)) (if b then m ∷ [] else file_from (m + 1) cs name)) [
      | true ↦ All-push (λ (n : ℕ). n < m + length (c ∷ cs)) [] m (All-nil (λ (n : ℕ). n < m + length (c ∷ cs))) (omega arith)
      | false ↦ All-weaker (λ (n : ℕ). n < (m + 1) + length cs) (λ (n : ℕ). n < m + length (c ∷ cs)) (λ n l. omega (arith, l))
          (file_from (m + 1) cs name) (file_from-below cs (m + 1) name)
    ]

files_below : (files : List ClassFile) (names : List (List ℕ)) → All (λ (n : ℕ). n < length files) (flat_map (file_from 0 files) names)
files_below files [] = All-nil (λ (n : ℕ). n < length files)
files_below files (name ∷ names) =
    All-append (λ (n : ℕ). n < length files) (file_from 0 files name) (flat_map (file_from 0 files) names)
    (All-weaker (λ (n : ℕ). n < 0 + length files) (λ (n : ℕ). n < length files) (λ n l. omega (arith, l))
    (file_from 0 files name) (file_from-below files 0 name)) (files_below files names)

super_edges-below : (files : List ClassFile) → All (λ next. All (λ (n : ℕ). n < length files) next) (super_edges files)
super_edges-below files =
    All-map (λ next. All (λ (n : ℕ). n < length files) next) (super_files files) files
    (λ k d l. files_below files (looked_through (slice_index_or files k d)))

-- edges that are the same lead to no vertices but these
pub same_edges_below : (files : List ClassFile) (edges : List (List ℕ)) → HaveSameEdges edges (super_edges files)
    → All (λ next. All (λ (n : ℕ). n < length edges) next) edges
same_edges_below files edges h k d l i e m =
    let others = super_edges files in
    let next = slice_index_or edges k d in
    let n = slice_index_or next i e in
    let size = same_edges_count files edges h in
    let here : Contains (next_of edges k) n = subst (λ xs. Contains xs n) (get_or_default edges k d [] l) (Contains-get_or next i e m) in
    let there : Contains (next_of others k) n = (h.same k n).0 here in
    let within : k < length others = omega (arith, l, h.count) in
    let below : n < length files = All-contains (λ (j : ℕ). j < length files) (next_of others k) n (super_edges-below files k [] within) there in
    omega (arith, below, size)
