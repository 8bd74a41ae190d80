-- No name of a class or of a member is cut, but that of an array type or of a member that it lacks.
use Rattle.std.proofs.Common.{◌≡◌, inl, inr, ℕ, zero, suc, ◌+◌, ◌-◌, ◌<◌, Bool, true, false, ◌&&◌, nat_lt, List, [], ◌∷◌, ◌++◌}
use Rattle.std.proofs.Common.{Option, Some, None, map, length, slice_index_or, refl, ap, sym, ◌∙◌, subst, arith, ◌⊎◌}
use Rattle.std.specs.Prelude.{All, codes, slice_get, if◌then◌else◌}
use Rattle.std.specs.Option.{option_map}
use Rattle.std.proofs.lemmas.Bool.{false≢true}
use Rattle.std.proofs.lemmas.Bool.Decides.{nat_tests}
use Rattle.std.proofs.lemmas.List.{take_all, length-append, length-map}
use Rattle.std.proofs.lemmas.List.Elements.{All-append, All-cons, All-head, All-map, All-nil, All-tail}
use Rattle.std.proofs.lemmas.Option.{slice_get_cases}
use Rattle.run_types.specs.declared.fault.LinkKind.{LinkKind}
use Rattle.run_types.specs.declared.fault.LinkKind.TheVariants.{MissingClass, MissingField, MissingMethod, StaticMismatch}
use Rattle.run_types.specs.declared.fault.LinkKind.TheVariants.{NoCode, InitFailed}
use Rattle.graph_model.specs.declared.types.Shape.{Shape}
use Rattle.const_pool.specs.declared.entry.Member.{Member}
use Rattle.const_pool.specs.declared.entry.Entry.{Entry}
use Rattle.const_pool.specs.declared.entry.Entry.TheVariants as entry
use Rattle.const_pool.specs.Pool.{Slots, both, entry_at, member_at, name_and_type_at, name_and_type_of, utf8_at}
use Rattle.class_file.specs.declared.class.ClassFile.{ClassFile}
use Rattle.class_file.specs.Classes.{CanBeRead}
use Rattle.class_links.specs.Names.{class_name}
use Rattle.plain_model.specs.Classes.{ClassFacts}
use Rattle.plain_model.specs.BuiltIn.{built_in_classes, array_class}
use Rattle.built_in_table.specs.Members.{BuiltInClass, MemberFacts, built_in_members, with_methods}
use Rattle.class_set.specs.Linked.{Linked, OfFile, behind_files, class_count}
use Rattle.class_set.specs.Members.{method_facts, methods_of_sort, own_methods}
use Rattle.class_set.specs.Facts.{class_facts, facts_of}
use Rattle.class_set.specs.Sets.{IsLinked}
use Rattle.class_set.proofs.FieldsRead.{class_sound}
use Rattle.class_set.proofs.PoolTexts.{AreShort}
use Rattle.class_set.proofs.TextBytes.{class_at_has, class_has, text_has}
use Rattle.statuses.specs.Names.{class_text, described, entry_text, initialiser, is_lost, is_runnable, main, member_name}
use Rattle.statuses.specs.Names.{member_text, method_text, named_text, run, texts_of, to_string, shortened, unnamed}
use Rattle.statuses.specs.Names.{unnamed_text, LosesCalled}
use Rattle.statuses.proofs.Behind.{own_behind}

-- ---- lengths

abbrev IsShort : List ℕ → Type 0
IsShort t = length t < 65536

abbrev AreShortTexts : List ℕ × List ℕ → Type 0
AreShortTexts x = IsShort x.0 × IsShort x.1

nothing : IsShort []
nothing = omega arith

short_whole : (t : List ℕ) → IsShort t → shortened t ≡ t
short_whole t h = take_all 196606 t (omega (arith, h))

member_length : (c n d : List ℕ) → length (member_name c n d) ≡ length c + 1 + length n + length d
member_length c n d =
    length-append (c ++ codes "." ++ n) d
    ∙ ap (λ (k : ℕ). k + length d) (length-append (c ++ codes ".") n ∙ ap (λ (k : ℕ). k + length n) (length-append c (codes ".")))

member_whole : (c : List ℕ) (x : List ℕ × List ℕ) → IsShort c → AreShortTexts x → shortened (member_name c x.0 x.1) ≡ member_name c x.0 x.1
member_whole c x hc hx = take_all 196606 (member_name c x.0 x.1) (omega (arith, member_length c x.0 x.1, hc, hx.0, hx.1))

described_whole : (class : List ℕ) (o : Option (List ℕ × List ℕ)) → IsShort class → ((x : List ℕ × List ℕ) → o ≡ Some x → AreShortTexts x)
    → shortened (described class o) ≡ described class o
described_whole class None hc h = refl
described_whole class (Some x) hc h = member_whole class x hc (h x refl)

-- what holds of each element holds of the n-th
holds_at : {X : Type 0} (P : X → Type 0) (xs : List X) (n : ℕ) (x : X) → All P xs → slice_get xs n ≡ Some x → P x
holds_at P [] n x h e = absurd (cc)
holds_at P (y ∷ ys) zero x h e = (let same : y ≡ x = cc in subst P same (All-head P y ys h))
holds_at P (y ∷ ys) (suc n) x h e = holds_at P ys n x (All-tail P y ys h) e

-- ---- entries of pools

both_short : (a b : Option (List ℕ)) (x : List ℕ × List ℕ) → ((t : List ℕ) → a ≡ Some t → IsShort t) → ((t : List ℕ) → b ≡ Some t → IsShort t)
    → both a b ≡ Some x → AreShortTexts x
both_short (Some s) (Some t) x ha hb e = (let same : (s, t) ≡ x = cc in subst AreShortTexts same (ha s refl, hb t refl))
both_short (Some s) None x ha hb e = absurd (cc)
both_short None other x ha hb e = absurd (cc)

pair_short : (pool : Slots) → AreShort pool → (o : Option Entry) (x : List ℕ × List ℕ) → name_and_type_of pool o ≡ Some x → AreShortTexts x
pair_short pool h (Some (entry.NameAndType n d)) x e = both_short (utf8_at pool n) (utf8_at pool d) x (h n) (h d) e
pair_short pool h other x e = absurd (cc)

member_text_whole : (pool : Slots) → AreShort pool → (o : Option Member) → shortened (member_text pool o) ≡ member_text pool o
member_text_whole pool h None = refl
member_text_whole pool h (Some m) =
    described_whole (class_name pool m.class) (name_and_type_at pool m.name_and_type) (class_has IsShort pool nothing h m.class)
    (pair_short pool h (entry_at pool m.name_and_type))

entry_whole : (kind : LinkKind) (pool : Slots) (index : ℕ) → AreShort pool → shortened (entry_text kind pool index) ≡ entry_text kind pool index
entry_whole MissingClass pool index h = short_whole (entry_text MissingClass pool index) (class_at_has IsShort pool nothing h index)
entry_whole MissingField pool index h = member_text_whole pool h (member_at pool index)
entry_whole MissingMethod pool index h = member_text_whole pool h (member_at pool index)
entry_whole StaticMismatch pool index h = member_text_whole pool h (member_at pool index)
entry_whole NoCode pool index h = member_text_whole pool h (member_at pool index)
entry_whole InitFailed pool index h = member_text_whole pool h (member_at pool index)

file_short : (set : Linked) → IsLinked set → (n : ℕ) (file : ClassFile) → slice_get set.files n ≡ Some file → AreShort file.pool
file_short set h n file e = (class_sound file (holds_at CanBeRead set.files n file h.readable e)).short

named_of : (kind : LinkKind) (index : ℕ) (o : Option ClassFile) → ((file : ClassFile) → o ≡ Some file → AreShort file.pool)
    → shortened (elim o as (λ x. List ℕ) [ None ↦ [] | Some file ↦ entry_text kind file.pool index ])
    ≡ elim o as (λ x. List ℕ) [ None ↦ [] | Some file ↦ entry_text kind file.pool index ]
named_of kind index None h = refl
named_of kind index (Some file) h = entry_whole kind file.pool index (h file refl)

pub named_whole : (set : Linked) (kind : LinkKind) (class index : ℕ) → IsLinked set
    → shortened (named_text set kind class index) ≡ named_text set kind class index
named_whole set kind class index h = named_of kind index (slice_get set.files class) (file_short set h class)

-- ---- classes

both_true : (a b : Bool) → (a && b) ≡ true → (a ≡ true) × (b ≡ true)
both_true true b h = (refl, h)
both_true false b h = absurd (false≢true h)

abbrev IsShortClass : ClassFacts → Type 0
IsShortClass c = IsShort c.shape.name

names_short : List ClassFacts → Bool
names_short [] = true
names_short (c ∷ cs) = nat_lt (length c.shape.name) 256 && names_short cs

all_short : (cs : List ClassFacts) → names_short cs ≡ true → All IsShortClass cs
unfolding names_short
all_short [] h = All-nil IsShortClass
all_short (c ∷ cs) h =
    let parts = both_true (nat_lt (length c.shape.name) 256) (names_short cs) h in
    All-cons IsShortClass c cs (few parts.0) (all_short cs parts.1)
  where
    few : nat_lt (length c.shape.name) 256 ≡ true → length c.shape.name < 65536
    few test = grind (arith, nat_tests)

built_ins_short : (first : ℕ) → names_short (built_in_classes first) ≡ true
unfolding names_short
built_ins_short first = refl

program_short : (files : List ClassFile) → All CanBeRead files → All IsShortClass (map (class_facts files) files)
program_short files h =
    All-map IsShortClass (class_facts files) files
    (λ k d l. (let c = slice_index_or files k d in class_has IsShort c.pool nothing (class_sound c (h k d l)).short c.this_class))

abbrev shape : ClassFacts → Shape
shape c = c.shape

short_at : (cs ds : List ClassFacts) (n : ℕ) → All IsShortClass cs → n < length cs
    → IsShort (elim (slice_get (map shape (cs ++ ds)) n) as (λ x. List ℕ) [ None ↦ [] | Some s ↦ s.name ])
short_at [] ds n h l = absurd (omega (arith, l))
short_at (c ∷ cs) ds zero h l = All-head IsShortClass c cs h
short_at (c ∷ cs) ds (suc n) h l = short_at cs ds n (All-tail IsShortClass c cs h) (omega (arith, l))

class_short : (set : Linked) (class : ℕ) → IsLinked set → class < class_count set → IsShort (class_text set class)
class_short set class h l =
    let program = map (class_facts set.files) set.files in
    let built_in = built_in_classes (length program) in
    let counted : length (program ++ built_in) ≡ length set.files + 28 =
    length-append program built_in ∙ ap (λ (k : ℕ). k + 28) (length-map set.files (class_facts set.files)) in
    short_at (program ++ built_in) (map (array_class (length program)) (facts_of set).arrays) class
    (All-append IsShortClass program built_in (program_short set.files h.readable) (all_short built_in (built_ins_short (length program))))
    (omega (arith, counted, l))

pub class_whole : (set : Linked) (class : ℕ) → IsLinked set → class < class_count set → shortened (class_text set class) ≡ class_text set class
class_whole set class h l = short_whole (class_text set class) (class_short set class h l)

-- ---- methods by number

abbrev IsShortMember : MemberFacts → Type 0
IsShortMember m = IsShort m.name × IsShort m.descriptor

members_short : List MemberFacts → Bool
members_short [] = true
members_short (m ∷ ms) = (nat_lt (length m.name) 256 && nat_lt (length m.descriptor) 256) && members_short ms

member_short : (ms : List MemberFacts) (n : ℕ) (m : MemberFacts) → members_short ms ≡ true → slice_get ms n ≡ Some m → IsShortMember m
unfolding members_short
member_short [] n m h e = absurd (cc)
member_short (k ∷ ms) zero m h e =
    let tests = both_true (nat_lt (length k.name) 256) (nat_lt (length k.descriptor) 256)
    (both_true (nat_lt (length k.name) 256 && nat_lt (length k.descriptor) 256) (members_short ms) h).0 in
    let same : k ≡ m = cc in
    subst IsShortMember same (few k.name tests.0, few k.descriptor tests.1)
  where
    few : (t : List ℕ) → nat_lt (length t) 256 ≡ true → length t < 65536
    few t test = grind (arith, nat_tests)
member_short (k ∷ ms) (suc n) m h e =
    member_short ms n m (both_true (nat_lt (length k.name) 256 && nat_lt (length k.descriptor) 256) (members_short ms) h).1 e

table_short : List BuiltInClass → Bool
table_short [] = true
table_short (c ∷ cs) = members_short c.methods && table_short cs

row_short : (cs : List BuiltInClass) (k n : ℕ) (m : MemberFacts) → table_short cs ≡ true
    → slice_get (slice_index_or cs k (with_methods [])).methods n ≡ Some m → IsShortMember m × (k < length cs)
unfolding table_short
row_short [] k n m h e = absurd (cc)
row_short (c ∷ cs) zero n m h e = (member_short c.methods n m (both_true (members_short c.methods) (table_short cs) h).0 e, omega arith)
row_short (c ∷ cs) (suc k) n m h e =
    let r = row_short cs k n m (both_true (members_short c.methods) (table_short cs) h).1 e in
    (r.0, omega (arith, r.1))

built_in_methods_short : table_short built_in_members ≡ true
unfolding table_short members_short built_in_members
built_in_methods_short = refl

members_counted : length built_in_members ≡ 28
unfolding built_in_members
members_counted = refl

-- a method that is there is of a class, and both are short
parts : (set : Linked) (class method : ℕ) (m : MemberFacts) → IsLinked set → slice_get (own_methods set class) method ≡ Some m
    → (class < class_count set) × IsShortMember m
parts set class method m h e = elim (slice_get_cases set.files class).1 [
  | inl x ↦ (
      let file = x.0 in
      let own : own_methods set class ≡ map (method_facts file.pool) file.methods =
      ap (λ (o : Option ClassFile). methods_of_sort (elim o [ None ↦ behind_files set (class - length set.files) | Some c ↦ OfFile c ])) x.2 in
      let short = file_short set h class file x.2 in
      let all = All-map IsShortMember (method_facts file.pool) file.methods
      (λ k d l. (let n = slice_index_or file.methods k d in (text_has IsShort file.pool nothing short n.name, text_has IsShort file.pool nothing short n.descriptor))) in (
        omega (arith, x.1),
        holds_at IsShortMember (map (method_facts file.pool) file.methods) method m all
            (ap (λ (ms : List MemberFacts). slice_get ms method) (sym own) ∙ e),
      )
      )
  | inr past ↦ (
      let row = row_short built_in_members (class - length set.files) method m built_in_methods_short
      (ap (λ (ms : List MemberFacts). slice_get ms method) (sym (own_behind set class past.1)) ∙ e) in
      (omega (arith, past.0, row.1, members_counted), row.0)
      )
]

method_of : (class : List ℕ) (o : Option MemberFacts) → ((m : MemberFacts) → o ≡ Some m → IsShort class × IsShortMember m)
    → shortened (described class (option_map texts_of o)) ≡ described class (option_map texts_of o)
method_of class None h = refl
method_of class (Some m) h = member_whole class (texts_of m) (h m refl).0 (h m refl).1

pub method_whole : (set : Linked) (class method : ℕ) → IsLinked set → shortened (method_text set class method) ≡ method_text set class method
method_whole set class method h =
    method_of (class_text set class) (slice_get (own_methods set class) method)
    (λ m e. (let p = parts set class method m h e in (class_short set class h p.0, p.1)))

-- ---- methods that no entry names

one_short : (a b c : Bool) → AreShortTexts (if a then run else (if b then to_string else (if c then main else initialiser)))
one_short true b c = (omega arith, omega arith)
one_short false true c = (omega arith, omega arith)
one_short false false true = (omega arith, omega arith)
one_short false false false = (omega arith, omega arith)

pub unnamed_whole : (set : Linked) (kind : LinkKind) (class : ℕ) → IsLinked set → class < class_count set
    → shortened (unnamed_text set kind class) ≡ unnamed_text set kind class
unnamed_whole set kind class h l =
    member_whole (class_text set class) (unnamed set kind class) (class_short set class h l)
    (one_short (is_runnable set class && is_lost set kind class run) (is_lost set kind class to_string) (is_lost set kind class main))

-- one of the two is told, where the class lacks one of them
pub called_told : (set : Linked) (kind : LinkKind) (class : ℕ) → LosesCalled set kind class
    → (unnamed set kind class ≡ run) ⊎ (unnamed set kind class ≡ to_string)
called_told set kind class loses =
    by_cases (is_runnable set class) (is_lost set kind class run) (is_lost set kind class to_string) loses
  where
    by_cases : (a b d : Bool) → ((a ≡ true) × (b ≡ true)) ⊎ (d ≡ true)
        → ((if a && b then run else (if d then to_string
        else (if is_lost set kind class main then main else initialiser))) ≡ run)
        ⊎ ((if a && b then run else (if d then to_string
        else (if is_lost set kind class main then main else initialiser))) ≡ to_string)
    by_cases true true d either = inl refl
    by_cases true false true either = inr refl
    by_cases true false false (inl both) = absurd (false≢true both.1)
    by_cases true false false (inr wrong) = absurd (false≢true wrong)
    by_cases false b true either = inr refl
    by_cases false b false (inl both) = absurd (false≢true both.0)
    by_cases false b false (inr wrong) = absurd (false≢true wrong)

-- a method that the class lacks is told, where it lacks one of the two
pub lost_told : (set : Linked) (kind : LinkKind) (class : ℕ) → LosesCalled set kind class
    → is_lost set kind class (unnamed set kind class) ≡ true
lost_told set kind class loses =
    by_cases (is_runnable set class) (is_lost set kind class run) (is_lost set kind class to_string) refl refl loses
  where
    by_cases : (a b d : Bool) → is_lost set kind class run ≡ b → is_lost set kind class to_string ≡ d
        → ((a ≡ true) × (b ≡ true)) ⊎ (d ≡ true)
        → is_lost set kind class (if a && b then run else (if d then to_string
        else (if is_lost set kind class main then main else initialiser))) ≡ true
    by_cases true true d e f either = e
    by_cases true false true e f either = f
    by_cases true false false e f (inl both) = absurd (false≢true both.1)
    by_cases true false false e f (inr wrong) = absurd (false≢true wrong)
    by_cases false b true e f either = f
    by_cases false b false e f (inl both) = absurd (false≢true both.0)
    by_cases false b false e f (inr wrong) = absurd (false≢true wrong)
