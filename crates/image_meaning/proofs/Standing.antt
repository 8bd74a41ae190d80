-- An image that stands for a graph, and isn't blank, opens.
use Rattle.std.proofs.Common.{◌≡◌, ◌≢◌, ℕ, ◌≤◌, ◌==◌, Bool, true, false, nat_le, Option, Some, None, Result, Ok, Err, refl}
use Rattle.std.proofs.Common.{if◌then◌else◌}
use Rattle.std.proofs.lemmas.Bool.{ne_eqb, eqb-true, leb-true, le-leb}
use Rattle.graph_model.specs.declared.types.Graph.{Graph}
use Rattle.image_layout.specs.declared.superblock.BadReason.{BadReason}
use Rattle.image_layout.specs.declared.superblock.BadReason.TheVariants.{Size, Magic, Version, LineCount, DirectoryUse}
use Rattle.image_layout.specs.Places.{magic, version, has_size, directory_words, checked, used_check, super_check}
use Rattle.image_meaning.specs.Checks.{Words, Bad, after_check, ◌>>=◌}
use Rattle.image_meaning.specs.Directories.{Directory, directory_of}
use Rattle.image_meaning.specs.Logs.{logs_fault, put_back}
use Rattle.image_meaning.specs.Meaning.{at_super, graph_from, graph_after_logs, graph_after_super, meaning, StandsFor}
use Rattle.image_meaning.specs.Laws.{Opens}

pub after_ok : {A : Type 0} (check : Option Bad) (given : Result A Bad) (x : A) → after_check check given ≡ Ok x
    → (check ≡ None) × (given ≡ Ok x)
after_ok None given x h = (refl, h)
after_ok {A} (Some bad) given x h = absurd (let wrong : Result A Bad = Err bad in let e : wrong ≡ Ok x = h in cc)

pub bind_ok : {A B : Type 0} (r : Result A Bad) (f : A → Result B Bad) (y : B) → (r >>= f) ≡ Ok y
    → (x : A) × (r ≡ Ok x) × (f x ≡ Ok y)
bind_ok (Ok x) f y h = (x, refl, h)
bind_ok {B = B} (Err bad) f y h = absurd (let wrong : Result B Bad = Err bad in let e : wrong ≡ Ok y = h in cc)

super_ok : (o : Option BadReason) → at_super o ≡ None → o ≡ None
super_ok None h = refl
super_ok (Some reason) h = absurd (let bad : Option Bad = Some (0, reason) in let e : bad ≡ None = h in cc)

pub opens-standing : (size : ℕ) (words : Words) (graph : Graph) → words 0 0 ≢ 0 → StandsFor size words graph
    → (directory : Directory) × Opens size words directory × (graph_from size directory (put_back words) ≡ Ok graph)
unfolding meaning
opens-standing size words graph used stands =
    let a = after_ok (at_super (super_check (words 0) size)) (graph_after_super size words) graph stands in
    let isnt : (words 0 0 == 0) ≡ false = ne_eqb (words 0 0) 0 used in
    let b = bind_ok (directory_of words) (graph_after_logs size words) graph (rw isnt at a.1) in
    let c = after_ok (logs_fault size words) (graph_from size b.0 (put_back words)) graph b.2 in (
      b.0,
      record { super = super_ok (super_check (words 0) size) a.0; used = used; entries = b.1; logs = c.0 },
      c.1,
    )

-- ---- the superblock

held : (b : Bool) (reason : BadReason) (later : Option BadReason) → checked b reason later ≡ None → (b ≡ true) × (later ≡ None)
held true reason later h = (refl, h)
held false reason later h = absurd (let bad : Option BadReason = Some reason in let e : bad ≡ None = h in cc)

-- the tests of a superblock in use hold
used_parts : (size : ℕ) (line : ℕ → ℕ) → line 0 ≢ 0 → super_check line size ≡ None
    → (has_size size ≡ true) × ((line 0 == magic) ≡ true) × ((line 1 == version) ≡ true) × ((line 2 == size) ≡ true)
    × (nat_le (line 3) directory_words ≡ true)
used_parts size line used h =
    let isnt : (line 0 == 0) ≡ false = ne_eqb (line 0) 0 used in
    let a = held (has_size size) Size (if line 0 == 0 then None else used_check line size) h in
    let b = held (line 0 == magic) Magic _ (rw isnt at a.1) in
    let c = held (line 1 == version) Version _ b.1 in
    let d = held (line 2 == size) LineCount _ c.1 in
    let e = held (nat_le (line 3) directory_words) DirectoryUse _ d.1 in
    (a.0, b.0, c.0, d.0, e.0)

-- it begins with the magic word
pub used-magic : (size : ℕ) (line : ℕ → ℕ) → line 0 ≢ 0 → super_check line size ≡ None → line 0 ≡ magic
used-magic size line used h = eqb-true (line 0) magic (used_parts size line used h).1

-- no more words are in use than there are
pub use-within : (size : ℕ) (line : ℕ → ℕ) → line 0 ≢ 0 → super_check line size ≡ None → line 3 ≤ directory_words
use-within size line used h = leb-true (line 3) directory_words (used_parts size line used h).4

-- and its version is the one that is known
pub version-within : (size : ℕ) (line : ℕ → ℕ) → line 0 ≢ 0 → super_check line size ≡ None → line 1 ≡ version
version-within size line used h = eqb-true (line 1) version (used_parts size line used h).2

-- with any number of words in use that there are
pub used-still : (size : ℕ) (line other : ℕ → ℕ) → line 0 ≢ 0 → super_check line size ≡ None → other 0 ≡ line 0 → other 1 ≡ line 1
    → other 2 ≡ line 2 → other 3 ≤ directory_words → super_check other size ≡ None
used-still size line other used h zeroth first second room =
    let isnt : (line 0 == 0) ≡ false = ne_eqb (line 0) 0 used in
    let parts = used_parts size line used h in
    rw (zeroth, first, second, parts.0, isnt, parts.1, parts.2, parts.3, le-leb (other 3) directory_words room) refl

-- an image that stands for a graph has a size in range
pub standing-sized : (size : ℕ) (words : Words) (graph : Graph) → StandsFor size words graph → has_size size ≡ true
unfolding meaning
standing-sized size words graph stands =
    let a = after_ok (at_super (super_check (words 0) size)) (graph_after_super size words) graph stands in
    (held (has_size size) Size (if words 0 0 == 0 then None else used_check (words 0) size) (super_ok (super_check (words 0) size) a.0)).0
