-- Entries that are planned.
use Rattle.std.proofs.Common.{◌≡◌, ⊎_elim, ◌<◌, ◌≤◌, ◌+◌, ◌-◌, ◌^◌, min, Option, Some, None, ℕ, zero, suc, Bool, true, false}
use Rattle.std.proofs.Common.{not, List, [], ◌∷◌, ◌++◌, length, map, filter, take, drop, get_or, refl, sym, ◌∙◌, ap}
use Rattle.std.proofs.Common.{append_assoc, add-one, arith, if◌then◌else◌}
use Rattle.std.proofs.lemmas.List.{append-nil, length-append, length-drop, length-map, map-append, get_or-map, nil_from_length}
use Rattle.std.proofs.Math.Seq.{take-suc, drop-cons}
use Rattle.std.proofs.lemmas.Bool.{cases_lt, lt-ltb}
use Rattle.run_types.specs.declared.fault.Full.{Full}
use Rattle.run_types.specs.declared.fault.Which.{Which}
use Rattle.run_types.specs.declared.fault.Which.TheVariants.{DirectoryWords}
use Rattle.image_layout.specs.Places.{directory_words}
use Rattle.graph_model.specs.declared.types.Shape.{Shape}
use Rattle.image_meaning.specs.Entries.{DirectoryEntry, ShapeEntry, RootEntry, spelled}
use Rattle.image_meaning.specs.Directories.{Directory, no_entries, with_entry, with_all, spelled_all}
use Rattle.directories.specs.declared.entries.Entry.{Entry}
use Rattle.directories.specs.Read.{entry_of, the_directory}
use Rattle.directories.specs.Kept.{Kept}
use Rattle.directories.specs.Planning.{is_root, has_entry, lacking, root_count, directory_of_kept, unless_room, no_room}
use Rattle.directories.specs.Planning.{words_left}
use Rattle.directories.proofs.Appends.{spelled_more}
use Rattle.directories.proofs.Grows.{spelled_both}

-- one more of the mapped list
pub taken_more : {A B : Type 0} (f : A → B) (xs : List A) (x : A) (i : ℕ) → i < length xs → x ≡ get_or xs i x
    → map f (take (i + 1) xs) ≡ map f (take i xs) ++ f x ∷ []
taken_more f xs x i below is =
    ap (λ ys. map f ys) (rw add-one (take-suc xs i x below))
    ∙ map-append f (take i xs) (get_or xs i x ∷ [])
    ∙ ap (λ y. map f (take i xs) ++ f y ∷ []) (sym is)

filter_step : {A : Type 0} (b : Bool) (y : A) (left one more : List A) → left ≡ one ++ more
    → (if b then y ∷ left else left) ≡ (if b then y ∷ one else one) ++ more
filter_step true y left one more is = ap (λ rest. y ∷ rest) is
filter_step false y left one more is = is

filter_more : {A : Type 0} (p : A → Bool) (xs : List A) (x : A) → filter p (xs ++ x ∷ []) ≡ filter p xs ++ filter p (x ∷ [])
filter_more p [] x = refl
filter_more p (y ∷ xs) x = filter_step (p y) y (filter p (xs ++ x ∷ [])) (filter p xs) (filter p (x ∷ [])) (filter_more p xs x)

-- ---- what is lacking

pub lacking_more : (directory : Directory) (xs : List DirectoryEntry) (x : DirectoryEntry)
    → lacking directory (xs ++ x ∷ []) ≡ lacking directory xs ++ lacking directory (x ∷ [])
lacking_more directory xs x = filter_more (λ entry. not (has_entry directory entry)) xs x

pub lacking_new : (directory : Directory) (x : DirectoryEntry) → has_entry directory x ≡ false → lacking directory (x ∷ []) ≡ x ∷ []
lacking_new directory x new = rw new refl

pub lacking_old : (directory : Directory) (x : DirectoryEntry) → has_entry directory x ≡ true → lacking directory (x ∷ []) ≡ []
lacking_old directory x old = rw old refl

-- ---- roots are counted

pub roots_more : (xs : List DirectoryEntry) (x : DirectoryEntry) → root_count (xs ++ x ∷ []) ≡ root_count xs + root_count (x ∷ [])
roots_more xs x = ap length (filter_more is_root xs x) ∙ length-append (filter is_root xs) (filter is_root (x ∷ []))

-- ---- names

pub with_all_more : (directory : Directory) (xs : List DirectoryEntry) (x : DirectoryEntry)
    → with_all directory (xs ++ x ∷ []) ≡ with_entry (with_all directory xs) x
with_all_more directory [] x = refl
with_all_more directory (y ∷ xs) x = with_all_more (with_entry directory y) xs x

-- the directory's shapes and roots, and behind them those of another
abbrev pub joined : Directory → Directory → Directory
joined first second = record { shapes = first.shapes ++ second.shapes; roots = first.roots ++ second.roots }

entry_behind : (first second : Directory) (x : DirectoryEntry) → with_entry (joined first second) x ≡ joined first (with_entry second x)
entry_behind first second (ShapeEntry shape) =
    ap (λ (shapes : List Shape). record { shapes = shapes; roots = first.roots ++ second.roots }) (append_assoc first.shapes second.shapes (shape ∷ []))
entry_behind first second (RootEntry name) =
    ap (λ (roots : List (List ℕ)). record { shapes = first.shapes ++ second.shapes; roots = roots }) (append_assoc first.roots second.roots (name ∷ []))

all_behind : (first second : Directory) (xs : List DirectoryEntry) → with_all (joined first second) xs ≡ joined first (with_all second xs)
all_behind first second [] = refl
all_behind first second (x ∷ xs) =
    ap (λ (d : Directory). with_all d xs) (entry_behind first second x) ∙ all_behind first (with_entry second x) xs

nothing_joined : (directory : Directory) → directory ≡ joined directory no_entries
nothing_joined directory =
    ap (λ (shapes : List Shape). record { shapes = shapes; roots = directory.roots }) (sym (append-nil directory.shapes))
    ∙ ap (λ (roots : List (List ℕ)). record { shapes = directory.shapes ++ []; roots = roots }) (sym (append-nil directory.roots))

pub with_all_behind : (directory : Directory) (xs : List DirectoryEntry) → with_all directory xs ≡ joined directory (with_all no_entries xs)
with_all_behind directory xs =
    ap (λ (d : Directory). with_all d xs) (nothing_joined directory) ∙ all_behind directory no_entries xs

-- ---- entries one by one

pub spelled_taken : (entries : List Entry) (entry : Entry) (i : ℕ) → i < length entries → entry ≡ get_or entries i entry
    → spelled_all (map entry_of (take (i + 1) entries)) ≡ spelled_all (map entry_of (take i entries)) ++ spelled (entry_of entry)
spelled_taken entries entry i below is =
    ap spelled_all (taken_more entry_of entries entry i below is) ∙ spelled_more (map entry_of (take i entries)) (entry_of entry)

pub spelled_within : (entries : List Entry) (entry : Entry) (i : ℕ) → i < length entries → entry ≡ get_or entries i entry
    → length (spelled (entry_of entry)) ≤ length (spelled_all (map entry_of entries))
spelled_within [] entry i below is = absurd (omega (arith, below))
spelled_within (first ∷ entries) entry zero below is =
    omega (arith, length-append (spelled (entry_of first)) (spelled_all (map entry_of entries)), ap (λ (e : Entry). length (spelled (entry_of e))) is)
spelled_within (first ∷ entries) entry (suc i) below is =
    omega (arith, length-append (spelled (entry_of first)) (spelled_all (map entry_of entries)), spelled_within entries entry i (omega (arith, below)) is)

pub names_taken : (entries : List Entry) (entry : Entry) (i : ℕ) → i < length entries → entry ≡ get_or entries i entry
    → with_all no_entries (map entry_of (take (i + 1) entries)) ≡ with_entry (with_all no_entries (map entry_of (take i entries))) (entry_of entry)
names_taken entries entry i below is =
    ap (λ xs. with_all no_entries xs) (taken_more entry_of entries entry i below is)
    ∙ with_all_more no_entries (map entry_of (take i entries)) (entry_of entry)

pub roots_taken : (entries : List Entry) (entry : Entry) (i : ℕ) → i < length entries → entry ≡ get_or entries i entry
    → root_count (map entry_of (take (i + 1) entries)) ≡ root_count (map entry_of (take i entries)) + root_count (entry_of entry ∷ [])
roots_taken entries entry i below is =
    ap root_count (taken_more entry_of entries entry i below is) ∙ roots_more (map entry_of (take i entries)) (entry_of entry)

pub lacking_taken : (directory : Directory) (entries : List Entry) (entry : Entry) (i : ℕ) → i < length entries → entry ≡ get_or entries i entry
    → lacking directory (map entry_of (take (i + 1) entries))
    ≡ lacking directory (map entry_of (take i entries)) ++ lacking directory (entry_of entry ∷ [])
lacking_taken directory entries entry i below is =
    ap (λ xs. lacking directory xs) (taken_more entry_of entries entry i below is)
    ∙ lacking_more directory (map entry_of (take i entries)) (entry_of entry)

-- ---- the directory's lists

pub entries_few : (entries : List DirectoryEntry) → length entries ≤ length (spelled_all entries)
entries_few [] = omega arith
entries_few (entry ∷ entries) = omega (arith, length-append (spelled entry) (spelled_all entries), entries_few entries)

drop_past : {A : Type 0} (i : ℕ) (xs : List A) → length xs ≤ i → drop i xs ≡ []
drop_past i xs past = nil_from_length (drop i xs) (omega (arith, length-drop i xs, past))

-- one more of those that are left is copied
pub copied_more : (done planned : List Entry) (entry : Entry) (i : ℕ) (all : List DirectoryEntry) → i < length planned
    → entry ≡ get_or planned i entry → map entry_of done ++ drop i (map entry_of planned) ≡ all
    → map entry_of (done ++ entry ∷ []) ++ drop (i + 1) (map entry_of planned) ≡ all
copied_more done planned entry i all below is so_far =
    let xs = map entry_of planned in
    let e = entry_of entry in
    let here : get_or xs i e ≡ e = get_or-map entry_of planned i entry e below ∙ ap entry_of (sym is) in
    let next : drop i xs ≡ e ∷ drop (suc i) xs =
    drop-cons xs i e (omega (arith, below, length-map planned entry_of)) ∙ ap (λ x. x ∷ drop (suc i) xs) here in
    let one : i + 1 ≡ suc i = omega arith in
    ap (λ ys. ys ++ drop (i + 1) xs) (map-append entry_of done (entry ∷ []))
    ∙ append_assoc (map entry_of done) (e ∷ []) (drop (i + 1) xs)
    ∙ ap (λ n. map entry_of done ++ e ∷ drop n xs) one
    ∙ ap (λ ys. map entry_of done ++ ys) (sym next)
    ∙ so_far

pub copied_all : (done planned : List Entry) (i : ℕ) (all : List DirectoryEntry) → length planned ≤ i
    → map entry_of done ++ drop i (map entry_of planned) ≡ all → map entry_of done ≡ all
copied_all done planned i all past so_far =
    sym (append-nil (map entry_of done))
    ∙ ap (λ ys. map entry_of done ++ ys) (sym (drop_past i (map entry_of planned) (omega (arith, past, length-map planned entry_of))))
    ∙ so_far

pub some_left : (planned : List Entry) (i : ℕ) → i < length planned → drop i (map entry_of planned) ≡ [] → ⊥
some_left planned i below none =
    omega (arith, below, length-map planned entry_of, length-drop i (map entry_of planned), ap length none)

pub none_left : (planned : List Entry) (i : ℕ) → length planned ≤ i → drop i (map entry_of planned) ≡ []
none_left planned i past = drop_past i (map entry_of planned) (omega (arith, past, length-map planned entry_of))

-- ---- room

pub none_of_room : (which : Which) (left need : ℕ) (later : Option Full) → unless_room which left need later ≡ None → need ≤ left
none_of_room which left need later none = ⊎_elim
    (λ (over : left < need).
    absurd (let some : Option Full = Some (record { which = which; need = min need (2 ^ 64 - 1); left = left }) in
    let e : some ≡ None = rw (lt-ltb left need over) at none in cc))
    (λ (fits : need ≤ left). fits)
    (cases_lt left need)

pub room_within : (kept : Kept) (entries all : List DirectoryEntry) → no_room kept entries ≡ None
    → kept.used + length (spelled_all kept.left) ≤ directory_words → all ≡ kept.left ++ entries
    → kept.used + length (spelled_all all) ≤ directory_words
room_within kept entries all none within is =
    omega (
      arith,
      within,
      none_of_room DirectoryWords (words_left kept) (length (spelled_all entries)) _ none,
      ap (λ (l : List DirectoryEntry). length (spelled_all l)) is,
      ap length (spelled_both kept.left entries),
      length-append (spelled_all kept.left) (spelled_all entries),
    )

-- ---- the plan

pub planned_left : (entries missing : List Entry) (all : List Entry) (left lack : List DirectoryEntry) → all ≡ entries ++ missing
    → map entry_of entries ≡ left → map entry_of missing ≡ lack → map entry_of all ≡ left ++ lack
planned_left entries missing all left lack is before behind =
    ap (λ (l : List Entry). map entry_of l) is ∙ map-append entry_of entries missing
    ∙ ap (λ (l : List DirectoryEntry). l ++ map entry_of missing) before ∙ ap (λ (l : List DirectoryEntry). left ++ l) behind

pub planned_directory : (old new : Kept) (lack : List DirectoryEntry) (shapes : List Shape) (roots : List (List ℕ))
    → new.shapes ≡ old.shapes ++ shapes → new.roots ≡ old.roots ++ roots → the_directory shapes roots ≡ with_all no_entries lack
    → directory_of_kept new ≡ with_all (directory_of_kept old) lack
planned_directory old new lack shapes roots all_shapes all_roots names =
    ap (λ (s : List Shape). record { shapes = s; roots = new.roots }) all_shapes
    ∙ ap (λ (r : List (List ℕ)). record { shapes = old.shapes ++ shapes; roots = r }) all_roots
    ∙ ap (λ (d : Directory). joined (directory_of_kept old) d) names
    ∙ sym (with_all_behind (directory_of_kept old) lack)
