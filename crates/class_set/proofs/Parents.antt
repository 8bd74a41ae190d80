-- The superclass and the superinterfaces of a class are there, and of the right sort.
use Rattle.std.proofs.Common.{◌≡◌, ℕ, suc, ◌+◌, ◌<◌, Bool, true, false, not, List, [], ◌∷◌, ◌++◌, Option, Some, None, map}
use Rattle.std.proofs.Common.{length, slice_index_or, refl, ap, sym, ◌∙◌, arith, subst, if◌then◌else◌}
use Rattle.std.specs.Prelude.{All}
use Rattle.std.specs.List.{flat_map}
use Rattle.std.specs.Option.{option_to_list}
use Rattle.std.specs.Str.{bytes_eq}
use Rattle.std.proofs.lemmas.Bool.{false≢true}
use Rattle.std.proofs.lemmas.List.{get_or_append_left, length-map, length-append, map-append}
use Rattle.std.proofs.lemmas.List.Elements.{All-append, All-cons, All-head, All-nil, All-tail}
use Rattle.class_file.specs.declared.class.ClassFile.{ClassFile}
use Rattle.plain_model.specs.Classes.{no_class}
use Rattle.plain_model.specs.BuiltIn.{built_in_classes, array_class}
use Rattle.plain_model.specs.Facts.{class_at}
use Rattle.built_in_table.specs.Members.{built_in_names}
use Rattle.class_links.specs.Names.{NamedClass, name_of, super_of, interfaces_of, supers_of, known_of, known_built_in, built_in}
use Rattle.class_links.specs.Names.{known_classes, find_known}
use Rattle.class_links.specs.Links.{of_class, first_name, first_with, missing_of, misplaced_of, final_of}
use Rattle.text_table.specs.Texts.{place_from, place_of}
use Rattle.class_set.specs.Linked.{Linked, class_names}
use Rattle.class_set.specs.Members.{super_number, interface_numbers}
use Rattle.class_set.specs.ArrayTypes.{array_type}
use Rattle.class_set.specs.Facts.{class_facts, facts_of, named_classes}
use Rattle.class_set.proofs.Above.{get_or-map_all}
use Rattle.class_set.proofs.Supertypes.{classes_listed}

-- ---- known classes by number

abbrev known_name : NamedClass → List ℕ
known_name k = k.name

file_known : (all files : List ClassFile) → map known_built_in (map (class_facts all) files) ≡ map known_of files
file_known all [] = refl
file_known all (c ∷ cs) = ap (λ ks. known_of c ∷ ks) (file_known all cs)

built_ins_known : (first : ℕ) → map known_built_in (built_in_classes first) ≡ built_in
unfolding built_in
built_ins_known first = refl

named_known : (files : List ClassFile) → map known_built_in (named_classes files) ≡ known_classes files
named_known files =
    map-append known_built_in (map (class_facts files) files) (built_in_classes (length files))
    ∙ ap (λ ks. ks ++ map known_built_in (built_in_classes (length files))) (file_known files files)
    ∙ ap (λ ks. map known_of files ++ ks) (built_ins_known (length files))

file_names : (files : List ClassFile) → map known_name (map known_of files) ≡ map name_of files
file_names [] = refl
file_names (c ∷ cs) = ap (λ ns. name_of c ∷ ns) (file_names cs)

built_in_named : map known_name built_in ≡ built_in_names
unfolding built_in built_in_names
built_in_named = refl

known_named : (files : List ClassFile) → map known_name (known_classes files) ≡ class_names files
known_named files =
    map-append known_name (map known_of files) built_in
    ∙ ap (λ ns. ns ++ map known_name built_in) (file_names files)
    ∙ ap (λ ns. map name_of files ++ ns) built_in_named

-- a known class stands at the place of its name
pub record IsPlaced (ks : List NamedClass) (name : List ℕ) (n : ℕ) (k : NamedClass) : Type 0 where
  pub at : ℕ
  pub below : at < length ks
  pub place : place_from n (map known_name ks) name ≡ Some (n + at)
  pub is : (d : NamedClass) → slice_index_or ks at d ≡ k

found_placed : (ks : List NamedClass) (name : List ℕ) (n : ℕ) (k : NamedClass) → find_known ks name ≡ Some k → IsPlaced ks name n k
found_placed [] name n k h = absurd (cc)
found_placed (j ∷ js) name n k h =
    elim (bytes_eq j.name name) as (λ b. bytes_eq j.name name ≡ b → (if b then Some j else find_known js name) ≡ Some k → IsPlaced (j ∷ js) name n k) [
      | true ↦ λ e f. record {
        at = 0;
        below = omega arith;
        place = rw e (ap (λ m. Some m) (omega arith));
        is = λ d. (let same : j ≡ k = cc in same);
      }
      | false ↦ λ e f. (let rest = found_placed js name (n + 1) k f in record {
        at = suc rest.at;
        below = omega (arith, rest.below);
        place = rw e (rest.place ∙ ap (λ m. Some m) (omega arith));
        is = rest.is;
      })
    ] refl h

-- a class of the set with the name and the flags of a known one
pub record IsClassOf (set : Linked) (name : List ℕ) (k : NamedClass) : Type 0 where
  pub at : ℕ
  pub there : at < length set.files + 28
  pub place : place_of (class_names set.files) name ≡ Some at
  pub known : known_built_in (class_at (facts_of set) at) ≡ k

pub named_counted : (files : List ClassFile) → length (named_classes files) ≡ length files + 28
named_counted files =
    length-append (map (class_facts files) files) (built_in_classes (length files))
    ∙ ap (λ n. n + 28) (length-map files (class_facts files))

pub class_of_known : (set : Linked) (name : List ℕ) (k : NamedClass) → find_known (known_classes set.files) name ≡ Some k → IsClassOf set name k
class_of_known set name k h =
    let known = known_classes set.files in
    let named = named_classes set.files in
    let p = found_placed known name 0 k h in
    let size : length known ≡ length set.files + 28 =
    ap length (sym (named_known set.files)) ∙ length-map named known_built_in ∙ named_counted set.files in
    let arrays = map (array_class (length set.files)) (map (array_type set.files) set.arrays) in
    record {
      at = p.at;
      there = omega (arith, p.below, size);
      place = ap (λ ns. place_of ns name) (sym (known_named set.files)) ∙ p.place ∙ ap (λ m. Some m) (omega arith);
      known = ap (λ cs. known_built_in (slice_index_or cs p.at no_class)) (classes_listed set)
          ∙ ap known_built_in (get_or_append_left named arrays no_class p.at (omega (arith, p.below, size, named_counted set.files)))
          ∙ sym (get_or-map_all known_built_in no_class named p.at)
          ∙ ap (λ ks. slice_index_or ks p.at (known_built_in no_class)) (named_known set.files)
          ∙ p.is (known_built_in no_class);
    }

-- ---- what the conditions say of each file

abbrev IsNothing : Option (List ℕ × List ℕ) → Type 0
IsNothing o = o ≡ None

pub none_with : (broken : ClassFile → Option (List ℕ)) (files : List ClassFile) → first_with broken files ≡ None
    → All (λ c. broken c ≡ None) files
none_with broken [] h = All-nil (λ c. broken c ≡ None)
none_with broken (c ∷ cs) h =
    elim (broken c) as (λ o. broken c ≡ o → IsNothing (elim o [ None ↦ first_with broken cs | Some super ↦ Some (name_of c, super) ])
    → All (λ d. broken d ≡ None) (c ∷ cs)) [
      | None ↦ λ e f. All-cons (λ d. broken d ≡ None) c cs e (none_with broken cs f)
      | Some super ↦ λ e f. absurd (cc)
    ] refl h

none_named : (test : List ℕ → Bool) (names : List (List ℕ)) → first_name test names ≡ None → All (λ n. test n ≡ false) names
none_named test [] h = All-nil (λ n. test n ≡ false)
none_named test (n ∷ ns) h =
    elim (test n) as (λ b. test n ≡ b → (if b then Some n else first_name test ns) ≡ None → All (λ m. test m ≡ false) (n ∷ ns)) [
      | true ↦ λ e f. absurd (cc)
      | false ↦ λ e f. All-cons (λ m. test m ≡ false) n ns e (none_named test ns f)
    ] refl h

pub present : (known : List NamedClass) (name : List ℕ) → of_class known true (λ k. false) name ≡ false
    → (k : NamedClass) × (find_known known name ≡ Some k)
present known name h =
    elim (find_known known name) as (λ o. find_known known name ≡ o → (elim o [ None ↦ true | Some k ↦ false ]) ≡ false
    → (k : NamedClass) × (find_known known name ≡ Some k)) [
      | None ↦ λ e f. absurd (false≢true (sym f))
      | Some k ↦ λ e f. (k, e)
    ] refl h

-- the known superclass of a file that links
pub record HasSuper (set : Linked) (c : ClassFile) : Type 0 where
  pub at : ℕ
  pub there : at < length set.files + 28
  pub number : super_number set.files c ≡ Some at
  pub is_class : (class_at (facts_of set) at).is_interface ≡ false
  pub not_final : (class_at (facts_of set) at).is_final ≡ false

if_none : (b : Bool) (name : List ℕ) (o : Option (List ℕ)) → (if b then Some name else o) ≡ None → (b ≡ false) × (o ≡ None)
if_none true name o h = absurd (cc)
if_none false name o h = (refl, h)

pub has_super : (set : Linked) (c : ClassFile) → missing_of (known_classes set.files) c ≡ None → misplaced_of (known_classes set.files) c ≡ None
    → final_of (known_classes set.files) c ≡ None → HasSuper set c
has_super set c no_missing no_misplaced no_final =
    let known = known_classes set.files in
    let found = present known (super_of c) (All-head (λ n. of_class known true (λ k. false) n ≡ false) (super_of c) (interfaces_of c)
    (none_named (of_class known true (λ k. false)) (supers_of c) no_missing)) in
    let k = found.0 in
    let p = class_of_known set (super_of c) k found.1 in
    let right = (if_none (of_class known false (λ k. k.is_interface) (super_of c)) (super_of c)
    (first_name (of_class known false (λ k. not k.is_interface)) (interfaces_of c)) no_misplaced).0 in
    let open_to = (if_none (of_class known false (λ k. k.is_final) (super_of c)) (super_of c) None no_final).0 in
    record {
      at = p.at;
      there = p.there;
      number = p.place;
      is_class = ap (λ (j : NamedClass). j.is_interface) p.known
          ∙ subst (λ o. (elim o [ None ↦ false | Some j ↦ j.is_interface ]) ≡ false) found.1 right;
      not_final = ap (λ (j : NamedClass). j.is_final) p.known
          ∙ subst (λ o. (elim o [ None ↦ false | Some j ↦ j.is_final ]) ≡ false) found.1 open_to;
    }

-- ---- superinterfaces

abbrev IsInterfaceOf : Linked → ℕ → Type 0
IsInterfaceOf set n = (n < length set.files + 28) × ((class_at (facts_of set) n).is_interface ≡ true)

not_false : (b : Bool) → not b ≡ false → b ≡ true
not_false true h = refl
not_false false h = absurd (false≢true (sym h))

one_interface : (set : Linked) (name : List ℕ) → of_class (known_classes set.files) true (λ k. false) name ≡ false
    → of_class (known_classes set.files) false (λ k. not k.is_interface) name ≡ false
    → All (IsInterfaceOf set) (option_to_list (place_of (class_names set.files) name))
one_interface set name there right =
    let found = present (known_classes set.files) name there in
    let p = class_of_known set name found.0 found.1 in
    let is : (class_at (facts_of set) p.at).is_interface ≡ true =
    ap (λ (j : NamedClass). j.is_interface) p.known
    ∙ not_false found.0.is_interface (subst (λ o. (elim o [ None ↦ false | Some j ↦ not j.is_interface ]) ≡ false) found.1 right) in
    subst (λ o. All (IsInterfaceOf set) (option_to_list o)) (sym p.place)
    (All-cons (IsInterfaceOf set) p.at [] (p.there, is) (All-nil (IsInterfaceOf set)))

all_interfaces : (set : Linked) (names : List (List ℕ)) → All (λ n. of_class (known_classes set.files) true (λ k. false) n ≡ false) names
    → All (λ n. of_class (known_classes set.files) false (λ k. not k.is_interface) n ≡ false) names
    → All (IsInterfaceOf set) (flat_map (λ name. option_to_list (place_of (class_names set.files) name)) names)
all_interfaces set [] there right = All-nil (IsInterfaceOf set)
all_interfaces set (n ∷ ns) there right =
    All-append (IsInterfaceOf set) (option_to_list (place_of (class_names set.files) n))
    (flat_map (λ name. option_to_list (place_of (class_names set.files) name)) ns)
    (one_interface set n (All-head (λ m. of_class (known_classes set.files) true (λ k. false) m ≡ false) n ns there)
    (All-head (λ m. of_class (known_classes set.files) false (λ k. not k.is_interface) m ≡ false) n ns right))
    (all_interfaces set ns (All-tail (λ m. of_class (known_classes set.files) true (λ k. false) m ≡ false) n ns there)
    (All-tail (λ m. of_class (known_classes set.files) false (λ k. not k.is_interface) m ≡ false) n ns right))

pub has_interfaces : (set : Linked) (c : ClassFile) → missing_of (known_classes set.files) c ≡ None → misplaced_of (known_classes set.files) c ≡ None
    → All (IsInterfaceOf set) (interface_numbers set.files c)
has_interfaces set c no_missing no_misplaced =
    let known = known_classes set.files in
    let there = none_named (of_class known true (λ k. false)) (supers_of c) no_missing in
    let right = (if_none (of_class known false (λ k. k.is_interface) (super_of c)) (super_of c)
    (first_name (of_class known false (λ k. not k.is_interface)) (interfaces_of c)) no_misplaced).1 in
    all_interfaces set (interfaces_of c) (All-tail (λ n. of_class known true (λ k. false) n ≡ false) (super_of c) (interfaces_of c) there)
    (none_named (of_class known false (λ k. not k.is_interface)) (interfaces_of c) right)
