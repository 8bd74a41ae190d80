-- Names in order, and those of a directory.
use Rattle.std.proofs.Common.{◌≡◌, ◌<◌, ◌+◌, ℕ, Bool, true, false, ◌||◌, List, [], ◌∷◌, ◌++◌, length, map, take, get_or, refl}
use Rattle.std.proofs.Common.{sym, ◌∙◌, ap, subst, add-one, not, nat_le, Result, Ok, Err, Less, Equal, Greater}
use Rattle.std.proofs.Math.Seq.{take-suc}
use Rattle.std.specs.Prelude.{IfOk}
use Rattle.std.specs.Ordering.{is_eq, match_ordering, nat_cmp}
use Rattle.std.specs.Cmp.Lexicographic.{slice_cmp, nat_list_eq_equiv}
use Rattle.std.specs.Str.{bytes_eq}
use Rattle.std.proofs.lemmas.List.{map-append}
use Rattle.std.proofs.lemmas.Map.Text.{is_eq-slice_cmp}
use Rattle.std.proofs.lemmas.Slice.Eq.{bytes_eq-Decides}
use Rattle.graph_model.specs.declared.types.Shape.{Shape}
use Rattle.text_table.specs.Sorted.{insert_text, has_text}
use Rattle.image_layout.specs.Places.{root_slots}
use Rattle.image_meaning.specs.Entries.{DirectoryEntry, ShapeEntry, RootEntry}
use Rattle.image_meaning.specs.Directories.{Directory, has_name, is_refused, with_entry}
use Rattle.directories.specs.declared.names.Names.{Names}
use Rattle.directories.specs.Planning.{has_entry}
use Rattle.directories.specs.Names.{HaveNames, AreNamesOf}
use Rattle.directories.proofs.Plans.{taken_more}

-- ---- one text more

or_twice : (a b : Bool) → (a || b) ≡ (a || (a || b))
or_twice true b = refl
or_twice false b = refl

or_swap : (a b c : Bool) → (a || (b || c)) ≡ (b || (a || c))
or_swap true true c = refl
or_swap true false c = refl
or_swap false b c = refl

inserted : (texts : List (List ℕ)) (text name : List ℕ)
    → has_text (insert_text texts text) name ≡ (bytes_eq text name || has_text texts name)
inserted [] text name = refl
inserted (t ∷ ts) text name =
    elim (slice_cmp nat_cmp text t) as (λ o. slice_cmp nat_cmp text t ≡ o
    → has_text (match_ordering o (text ∷ t ∷ ts) (t ∷ ts) (t ∷ insert_text ts text)) name
    ≡ (bytes_eq text name || (bytes_eq t name || has_text ts name))) [
      | Less ↦ λ e. refl
      | Equal ↦ λ e. (let same : text ≡ t = (bytes_eq-Decides text t).0 (sym (is_eq-slice_cmp text t) ∙ ap is_eq e) in
          or_twice (bytes_eq t name) (has_text ts name)
          ∙ ap (λ (u : List ℕ). bytes_eq u name || (bytes_eq t name || has_text ts name)) (sym same))
      | Greater ↦ λ e. (ap (λ b. bytes_eq t name || b) (inserted ts text name)
          ∙ or_swap (bytes_eq t name) (bytes_eq text name) (has_text ts name))
    ] refl

-- ---- one name more

or_assoc : (a b c : Bool) → ((a || b) || c) ≡ (a || (b || c))
or_assoc true b c = refl
or_assoc false b c = refl

or_none : (a : Bool) → (a || false) ≡ a
or_none true = refl
or_none false = refl

or_comm : (a b : Bool) → (a || b) ≡ (b || a)
or_comm true true = refl
or_comm true false = refl
or_comm false true = refl
or_comm false false = refl

appended : (names : List (List ℕ)) (last name : List ℕ) → has_name (names ++ last ∷ []) name ≡ (has_name names name || bytes_eq name last)
appended [] last name = or_none (bytes_eq name last)
appended (n ∷ names) last name =
    ap (λ b. bytes_eq name n || b) (appended names last name) ∙ sym (or_assoc (bytes_eq name n) (has_name names name) (bytes_eq name last))

pub names_more : (texts names : List (List ℕ)) (last : List ℕ) → HaveNames texts names → HaveNames (insert_text texts last) (names ++ last ∷ [])
names_more texts names last have name =
    inserted texts last name
    ∙ ap (λ b. bytes_eq last name || b) (have name)
    ∙ ap (λ b. b || has_name names name) (nat_list_eq_equiv.symm last name)
    ∙ or_comm (bytes_eq name last) (has_name names name)
    ∙ sym (appended names last name)

-- ---- a directory with one entry more

shape_more : (shapes : List Shape) (shape : Shape) (texts : List (List ℕ)) → HaveNames texts (map (λ (s : Shape). s.name) shapes)
    → HaveNames (insert_text texts shape.name) (map (λ (s : Shape). s.name) (shapes ++ shape ∷ []))
shape_more shapes shape texts have =
    subst (λ (names : List (List ℕ)). HaveNames (insert_text texts shape.name) names)
    (sym (map-append (λ (s : Shape). s.name) shapes (shape ∷ [])))
    (names_more texts (map (λ (s : Shape). s.name) shapes) shape.name have)

pub with_shape : (directory : Directory) (shape : Shape) (old new : Names) → new.shapes ≡ insert_text old.shapes shape.name
    → new.roots ≡ old.roots → AreNamesOf directory old → AreNamesOf (with_entry directory (ShapeEntry shape)) new
with_shape directory shape old new added same are = record {
  shapes = subst (λ (texts : List (List ℕ)). HaveNames texts (map (λ (s : Shape). s.name) (directory.shapes ++ shape ∷ []))) (sym added)
      (shape_more directory.shapes shape old.shapes are.shapes);
  roots = subst (λ (texts : List (List ℕ)). HaveNames texts directory.roots) (sym same) are.roots;
}

pub with_root : (directory : Directory) (name : List ℕ) (old new : Names) → new.roots ≡ insert_text old.roots name
    → new.shapes ≡ old.shapes → AreNamesOf directory old → AreNamesOf (with_entry directory (RootEntry name)) new
with_root directory name old new added same are = record {
  shapes = subst (λ (texts : List (List ℕ)). HaveNames texts (map (λ (s : Shape). s.name) directory.shapes)) (sym same) are.shapes;
  roots = subst (λ (texts : List (List ℕ)). HaveNames texts (directory.roots ++ name ∷ [])) (sym added)
      (names_more old.roots directory.roots name are.roots);
}

-- ---- names one after another

taken_next : {A : Type 0} (xs : List A) (x : A) (i : ℕ) → i < length xs → x ≡ get_or xs i x → take (i + 1) xs ≡ take i xs ++ x ∷ []
taken_next xs x i below is =
    let next : take (i + 1) xs ≡ take i xs ++ get_or xs i x ∷ [] = rw add-one (take-suc xs i x below) in
    next ∙ ap (λ y. take i xs ++ y ∷ []) (sym is)

pub shapes_taken : (shapes : List Shape) (shape : Shape) (i : ℕ) (old new : List (List ℕ)) → i < length shapes
    → shape ≡ get_or shapes i shape → new ≡ insert_text old shape.name → HaveNames old (map (λ (s : Shape). s.name) (take i shapes))
    → HaveNames new (map (λ (s : Shape). s.name) (take (i + 1) shapes))
shapes_taken shapes shape i old new below is added have =
    subst (λ (names : List (List ℕ)). HaveNames new names) (sym (taken_more (λ (s : Shape). s.name) shapes shape i below is))
    (subst (λ (texts : List (List ℕ)). HaveNames texts (map (λ (s : Shape). s.name) (take i shapes) ++ shape.name ∷ [])) (sym added)
    (names_more old (map (λ (s : Shape). s.name) (take i shapes)) shape.name have))

pub roots_taken : (roots : List (List ℕ)) (root : List ℕ) (i : ℕ) (old new : List (List ℕ)) → i < length roots
    → root ≡ get_or roots i root → new ≡ insert_text old root → HaveNames old (take i roots) → HaveNames new (take (i + 1) roots)
roots_taken roots root i old new below is added have =
    subst (λ (names : List (List ℕ)). HaveNames new names) (sym (taken_next roots root i below is))
    (subst (λ (texts : List (List ℕ)). HaveNames texts (take i roots ++ root ∷ [])) (sym added) (names_more old (take i roots) root have))

-- ---- an entry that is there

there_or : (a b : Bool) → a ≡ true → false ≡ not (a || b)
there_or true b is = refl
there_or false b is = absurd (cc)

there_not : (a : Bool) → a ≡ true → false ≡ not a
there_not true is = refl
there_not false is = absurd (cc)

pub there_refused : (directory : Directory) (entry : DirectoryEntry) → has_entry directory entry ≡ true
    → false ≡ not (is_refused directory entry)
there_refused directory (ShapeEntry shape) is = there_not (has_name (map (λ (s : Shape). s.name) directory.shapes) shape.name) is
there_refused directory (RootEntry name) is = there_or (has_name directory.roots name) (nat_le root_slots (length directory.roots)) is

pub if_ok_then : {T E : Type 0} {P Q : T → Type 0} (r : Result T E) → ((x : T) → P x → Q x) → IfOk r P → IfOk r Q
if_ok_then (Ok x) then held = then x held
if_ok_then (Err e) then held = tt
