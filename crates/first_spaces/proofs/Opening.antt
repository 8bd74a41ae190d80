-- Images over which a run can begin.
use Rattle.std.proofs.Common.{◌≡◌, ℕ, ◌≤◌, List, [], ◌∷◌, ◌++◌, map, length, slice_index_or, refl, sym, ◌∙◌, ap, subst, arith}
use Rattle.std.proofs.Common.{length-append}
use Rattle.std.proofs.lemmas.List.{length-map, map-append}
use Rattle.graph_model.specs.declared.types.Graph.{Graph}
use Rattle.graph_model.specs.declared.types.Heap.{Heap}
use Rattle.graph_model.specs.declared.types.NamedValue.{NamedValue}
use Rattle.graph_model.specs.declared.types.Root.{Root}
use Rattle.graph_model.specs.declared.types.Value.{Value}
use Rattle.graph_model.specs.declared.types.Value.TheVariants.{Null}
use Rattle.line_memory.specs.Memory.{Memory, shown}
use Rattle.image_layout.specs.Places.{object_line, object_word, root_slots, slot_line, slot_word}
use Rattle.image_meaning.specs.Appending.{with_all_too, with_entry_too, with_null_root}
use Rattle.image_meaning.specs.Arrays.{null_root}
use Rattle.image_meaning.specs.Checks.{Words}
use Rattle.image_meaning.specs.Corresponds.{Corresponds, LiesAt, SameWords}
use Rattle.image_meaning.specs.Directories.{AreEntries, Directory, with_all, with_entry}
use Rattle.image_meaning.specs.Entries.{DirectoryEntry, RootEntry, ShapeEntry}
use Rattle.image_meaning.specs.Logs.{put_back}
use Rattle.image_meaning.specs.Meaning.{node_at, root_values_of}
use Rattle.image_meaning.specs.Opening.{HoldsGraph, found_at}
use Rattle.image_meaning.proofs.Appending.{corresponds-more_roots, corresponds-more_shapes}
use Rattle.image_meaning.proofs.Changes.{corresponds-same}
use Rattle.image_meaning.proofs.FoundImage.{corresponds-found, directory-few}
use Rattle.image_meaning.proofs.Logs.{not_log_after, not_log_before}
use Rattle.image_meaning.proofs.Opening.{roots_in_image, values_in_image}
use Rattle.image_meaning.proofs.Steps.{all_gone}
use Rattle.first_spaces.specs.Laws.{AppendedImagesAreOpened, EmptyImagesAreOpened, FoundImagesAreOpened, IsFoundIn}
use Rattle.first_spaces.specs.Opened.{IsOpened}

-- ---- one that was recovered

module _ (first memory : Memory) (directory : Directory) (lines : List ℕ) (graph : Graph)
    (is : IsFoundIn first memory directory lines graph) where
  abbrev size : ℕ
  size = first.size

  abbrev back : Words
  back = put_back (shown first)

  few_roots : length directory.roots ≤ root_slots
  few_roots = directory-few (shown first) directory is.finds.opens.entries

  of_found : (heap : Heap) → HoldsGraph heap graph → Corresponds (found_at lines) directory size back heap
  of_found heap holds =
      corresponds-found size back directory lines few_roots is.finds.roots is.finds.walk heap
      (subst (HoldsGraph heap) is.graph_is holds)

  same_words : (heap : Heap) → Corresponds (found_at lines) directory size back heap
      → SameWords (found_at lines) heap back (shown memory)
  same_words heap k = record {
    heads = λ line n r.
        let o = k.objects line n r in
        let low = o.low in
        let high = o.high in
        is.words line 0 (omega (arith, high)) (not_log_after line low);
    slots = λ line n r i below kept.
        let o = k.objects line n r in
        let low = o.low in
        let high = o.high in
        is.words (object_line line i) (object_word i) (omega (arith, high, below))
        (not_log_after (object_line line i) (omega (arith, low)));
    at_roots = λ r lt.
        let enough = is.enough in
        is.words (slot_line r) (slot_word r) (omega (arith, lt, enough)) (not_log_before (slot_line r) (omega
        (arith, lt)));
  }

  found_is : IsOpened memory directory lines graph
  found_is = record {
    most = let most = is.most in let same = is.size in omega (arith, most, same);
    few =
        let gone = all_gone directory.shapes size back (root_values_of back (length directory.roots))
        (roots_in_image size back (length directory.roots) is.finds.roots few_roots)
        (values_in_image directory.shapes size back) lines is.finds.walk in
        let few = gone.0 in let same = is.size in omega (arith, few, same);
    nodes = sym (ap (λ (g : Graph). length g.nodes) is.graph_is ∙ length-map lines (node_at directory.shapes
        back lines));
    corresponds = λ heap holds.
        let k = of_found heap holds in
        subst (λ n. Corresponds (found_at lines) directory n (shown memory) heap) (sym is.size)
        (corresponds-same (found_at lines) directory size back (shown memory) heap k (same_words heap k));
  }

pub found_opened : FoundImagesAreOpened
found_opened first memory directory lines graph is = found_is first memory directory lines graph is

-- ---- one that was formatted

nowhere : (line n : ℕ) → found_at [] line n → ⊥
nowhere line n at = let lt = at.0 in omega (arith, lt)

pub empty_opened : EmptyImagesAreOpened
empty_opened memory most zeros = record {
  most = most;
  few = omega arith;
  nodes = refl;
  corresponds = λ heap holds.
      let none : length heap.roots ≡ 0 =
      sym (length-map heap.roots (λ (root : Root). root.name)) ∙ ap (λ (ns : List (List ℕ)). length ns)
      holds.names in
      record {
        one_object = λ line m n x y. absurd (nowhere line m x);
        one_line = λ a b n x y. absurd (nowhere a n x);
        objects = λ line n x. absurd (nowhere line n x);
        apart = λ a b m n x y ne. absurd (nowhere a m x);
        few = omega (arith, none);
        names = holds.names;
        at_roots = λ r lt. absurd (omega (arith, lt, none));
        unused = λ r from lt. zeros r lt;
      };
}

-- ---- one to whose directory entries were appended

snoc_same : {A : Type 0} (xs ys : List A) (x y : A) → xs ++ x ∷ [] ≡ ys ++ y ∷ [] → (xs ≡ ys) × (x ≡ y)
snoc_same [] [] x y e = (refl, ap (λ zs. slice_index_or zs 0 x) e)
snoc_same [] (b ∷ ys) x y e =
    let long = ap length e in let more = length-append ys (y ∷ []) in absurd (omega (arith, long, more))
snoc_same (a ∷ xs) [] x y e =
    let long = ap length e in let more = length-append xs (x ∷ []) in absurd (omega (arith, long, more))
snoc_same (a ∷ xs) (b ∷ ys) x y e =
    let head : a ≡ b = ap (λ zs. slice_index_or zs 0 a) e in
    let rest = snoc_same xs ys x y (ap tail_of e) in
    (ap (λ z. z ∷ xs) head ∙ ap (λ zs. b ∷ zs) rest.0, rest.1)
  where
    tail_of : {A : Type 0} → List A → List A
    tail_of [] = []
    tail_of (z ∷ zs) = zs

-- the last of the roots with these names
record HasLast (roots : List Root) (names : List (List ℕ)) (name : List ℕ) : Type 0 where
  pub front : List Root
  pub at : ℕ
  pub is : roots ≡ front ++ record { name = name; at = at } ∷ []
  pub names_are : map (λ (root : Root). root.name) front ≡ names

abbrev names_of : List Root → List (List ℕ)
names_of roots = map (λ (root : Root). root.name) roots

one_root : (r : Root) (name : List ℕ) → r.name ≡ name → r ≡ record { name = name; at = r.at }
one_root r name e = ap (λ (n : List ℕ). let made : Root = record { name = n; at = r.at } in made) e

last_root : (roots : List Root) (names : List (List ℕ)) (name : List ℕ) → names_of roots ≡ names ++ name ∷ []
    → HasLast roots names name
last_root [] names name e =
    let long = ap length e in let more = length-append names (name ∷ []) in absurd (omega (arith, long, more))
last_root (r ∷ []) names name e =
    let both = snoc_same [] names r.name name e in
    record {
      front = [];
      at = r.at;
      is = ap (λ (x : Root). x ∷ []) (one_root r name both.1);
      names_are =
          both.0;
    }
last_root (r ∷ s ∷ rs) [] name e =
    let long = ap length e in let more = length-map rs (λ (root : Root). root.name) in absurd (omega (
      arith,
      long,
      more,
    ))
last_root (r ∷ s ∷ rs) (n ∷ ns) name e =
    let head : r.name ≡ n = ap (λ zs. slice_index_or zs 0 n) e in
    let more = last_root (s ∷ rs) ns name (ap rest_of e) in
    record {
      front = r ∷ more.front;
      at = more.at;
      is = ap (λ (xs : List Root). r ∷ xs) more.is;
      names_are = ap (λ x. x ∷ names_of more.front) head ∙ ap (λ xs. n ∷ xs) more.names_are;
    }
  where
    rest_of : List (List ℕ) → List (List ℕ)
    rest_of [] = []
    rest_of (z ∷ zs) = zs

module _ (R : LiesAt) (size : ℕ) (words : Words) where
  abbrev OfGraph : Directory → Graph → Type 0
  OfGraph directory graph = (heap : Heap) → HoldsGraph heap graph → Corresponds R directory size words heap

  one_root_more : (directory : Directory) (graph : Graph) (name : List ℕ) → OfGraph directory graph
      → AreEntries directory (RootEntry name ∷ []) → OfGraph (with_entry directory (RootEntry name))
      (with_null_root graph name)
  one_root_more directory graph name of entries heap holds =
      let last = last_root heap.roots (map (λ (r : NamedValue). r.name) graph.roots) name
      (holds.names ∙ map-append (λ (r : NamedValue). r.name) graph.roots (null_root name ∷ [])) in
      let held : Root → Value = λ r. slice_index_or heap.statics r.at Null in
      let one : Root = record { name = name; at = last.at } in
      let values = snoc_same (map held last.front) (map (λ (r : NamedValue). r.value) graph.roots)
      (held one) Null
      (sym (map-append held last.front (one ∷ [])) ∙ ap (map held) (sym last.is) ∙ holds.values
      ∙ map-append (λ (r : NamedValue). r.value) graph.roots (null_root name ∷ [])) in
      let front : Heap = record heap { roots = last.front } in
      let k = of front (record {
        names = last.names_are;
        values = values.0;
        many = holds.many;
        shapes = holds.shapes;
        slots = holds.slots;
      }) in
      subst (λ (roots : List Root). Corresponds R (with_entry directory (RootEntry name)) size words (record
      heap { roots = roots }))
      (sym last.is)
      (corresponds-more_roots R directory size words front name last.at k entries.1 values.1)

  one_more : (directory : Directory) (graph : Graph) (entry : DirectoryEntry) → OfGraph directory graph
      → AreEntries directory (entry ∷ []) → OfGraph (with_entry directory entry) (with_entry_too graph entry)
  one_more directory graph (ShapeEntry shape) of entries heap holds =
      corresponds-more_shapes R directory size words heap shape (of heap holds)
  one_more directory graph (RootEntry name) of entries heap holds = one_root_more directory graph name of
      entries heap holds

  all_more : (directory : Directory) (graph : Graph) (entries : List DirectoryEntry) → OfGraph directory graph
      → AreEntries directory entries → OfGraph (with_all directory entries) (with_all_too graph entries)
  all_more directory graph [] of are = of
  all_more directory graph (entry ∷ entries) of are =
      all_more (with_entry directory entry) (with_entry_too graph entry) entries
      (one_more directory graph entry of (are.0, are.1, tt)) are.2

same_nodes : (graph : Graph) (entries : List DirectoryEntry) → (with_all_too graph entries).nodes ≡
    graph.nodes
same_nodes graph [] = refl
same_nodes graph (ShapeEntry shape ∷ entries) = same_nodes graph entries
same_nodes graph (RootEntry name ∷ entries) = same_nodes (with_null_root graph name) entries

pub appended_opened : AppendedImagesAreOpened
appended_opened before memory directory entries lines graph is size behind are = record {
  most = let most = is.most in omega (arith, most, size);
  few = let few = is.few in omega (arith, few, size);
  nodes = is.nodes ∙ ap (λ ns. length ns) (sym (same_nodes graph entries));
  corresponds = λ heap holds.
      let R = found_at lines in
      let of = λ (h : Heap) (held : HoldsGraph h graph).
      (let k = is.corresponds h held in
      corresponds-same R directory before.size (shown before) (shown memory) h k (record {
        heads = λ line n r. behind.objects line 0 (k.objects line n r).low;
        slots = λ line n r i below kept.
            (let low = (k.objects line n r).low in behind.objects (object_line line i) (object_word i) (omega
            (arith, low)));
        at_roots = λ r lt. behind.roots r lt;
      })) in
      subst (λ n. Corresponds R (with_all directory entries) n (shown memory) heap) (sym size)
      (all_more R before.size (shown memory) directory graph entries of are heap holds);
}
