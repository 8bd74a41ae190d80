-- An entry that is read is spelled so, and an entry that is spelled is read again.
use Rattle.std.proofs.Common.{◌≡◌, ◌≢◌, ℕ, ◌+◌, ◌^◌, ◌<◌, true, false, cond, eqb, ◌&&◌, List, [], ◌∷◌, ◌++◌, length, Option}
use Rattle.std.proofs.Common.{Some, None, Result, Ok, Err, refl, sym, ap, subst, ◌∙◌, inl, inr, arith}
use Rattle.std.specs.Int.{w32, w64, cast_signed, cast_unsigned}
use Rattle.std.proofs.lemmas.Int.{of_z-to_z, to_z-of_z}
use Rattle.std.proofs.Math.Facts.{sfits_to_z, Fits-of_z}
use Rattle.std.proofs.lemmas.Bool.{cases_Bool, eqb-true, eq-eqb, ne_eqb, and_left, and_right, and_from}
use Rattle.byteorder.specs.Endian.{big_bytes}
use Rattle.parsing.specs.Results.{◌>>=◌}
use Rattle.parsing.specs.Places.{Place}
use Rattle.parsing.specs.Bytes.{IsBytes}
use Rattle.parsing.proofs.Steps.{done, bind_ok, ok_is}
use Rattle.parsing.proofs.Fields.{Takes, Takes-then, same_place}
use Rattle.const_pool.specs.declared.refusal.PoolRefusal.{PoolRefusal}
use Rattle.const_pool.specs.declared.refusal.PoolRefusal.TheVariants.{BadIndex}
use Rattle.const_pool.specs.declared.entry.Tag.{Tag}
use Rattle.const_pool.specs.declared.entry.Tag.TheVariants as tag
use Rattle.const_pool.specs.declared.entry.Entry.{Entry}
use Rattle.const_pool.specs.declared.entry.Entry.TheVariants as entry
use Rattle.const_pool.specs.Entry.{Fits, tag_byte, tag_with, is_wide, tag_of, index_bytes, body_bytes, entry_bytes}
use Rattle.const_pool.specs.Reading.{number_from, field_from, name_from, member_from, body_from, or_bad_tag, tag_from}
use Rattle.const_pool.specs.Reading.{entry_from}
use Rattle.const_pool.proofs.Fields.{guard_ok, field_takes, field_again, number_takes, number_from-again, name_takes}
use Rattle.const_pool.proofs.Fields.{name_again, member_takes, member_again}

-- ---- bodies

-- a body that was read from the front
pub record IsBody (file : Place) (x : Entry × Place) : Type 0 where
  pub takes : Takes file (body_bytes x.0) x.1
  pub fits : Fits x.0

-- a body of one field
one_field : {A : Type 0} (file : Place) (read : Result (A × Place) PoolRefusal) (make : A → Entry) (x : Entry × Place)
    → (read >>= λ a. Ok (make a.0, a.1)) ≡ Ok x
    → ((a : A × Place) → read ≡ Ok a → IsBody file (make a.0, a.1)) → IsBody file x
one_field {A} file read make x e is_body =
    let a = bind_ok read (λ a. Ok (make a.0, a.1)) x e in
    let made : Entry × Place = (make a.0.0, a.0.1) in
    subst (λ (y : Entry × Place). IsBody file y) (ok_is PoolRefusal made x a.2) (is_body a.0 a.1)

index_field : (file : Place) (make : ℕ → Entry) (x : Entry × Place) → IsBytes file.1
    → ((i : ℕ) → body_bytes (make i) ≡ index_bytes i) → ((i : ℕ) → i < 2 ^ 16 → Fits (make i))
    → (number_from 2 file >>= λ a. Ok (make a.0, a.1)) ≡ Ok x → IsBody file x
index_field file make x fits spelled fitting e = one_field file (number_from 2 file) make x e (λ a h.
    let n = number_takes 2 file a fits h in
    record { takes = subst (λ (text : List ℕ). Takes file text a.1) (sym (spelled a.0)) n.0; fits = fitting a.0 n.1 })

pub body_takes : (t : Tag) (file : Place) (x : Entry × Place) → IsBytes file.1 → body_from t file ≡ Ok x
    → IsBody file x
unfolding body_from
body_takes tag.Utf8 file x fits e = one_field file (name_from file) entry.Utf8 x e (λ a h.
    let n = name_takes file a fits h in record { takes = n.0; fits = (n.1, n.2) })
body_takes tag.Integer file x fits e = one_field file (number_from 4 file) (λ n. entry.Integer (cast_signed w32 n)) x e (λ a h.
    let n = number_takes 4 file a fits h in
    let back : cast_unsigned w32 (cast_signed w32 a.0) ≡ a.0 = of_z-to_z w32 a.0 n.1 in
    record { takes = subst (λ (k : ℕ). Takes file (big_bytes 4 k) a.1) (sym back) n.0; fits = sfits_to_z {w = w32} {n = a.0} (omega arith) })
body_takes tag.Float file x fits e = one_field file (number_from 4 file) entry.Float x e (λ a h.
    let n = number_takes 4 file a fits h in record { takes = n.0; fits = n.1 })
body_takes tag.Long file x fits e = one_field file (number_from 8 file) (λ n. entry.Long (cast_signed w64 n)) x e (λ a h.
    let n = number_takes 8 file a fits h in
    let back : cast_unsigned w64 (cast_signed w64 a.0) ≡ a.0 = of_z-to_z w64 a.0 n.1 in
    record { takes = subst (λ (k : ℕ). Takes file (big_bytes 8 k) a.1) (sym back) n.0; fits = sfits_to_z {w = w64} {n = a.0} (omega arith) })
body_takes tag.Double file x fits e = one_field file (number_from 8 file) entry.Double x e (λ a h.
    let n = number_takes 8 file a fits h in record { takes = n.0; fits = n.1 })
body_takes tag.Class file x fits e = index_field file entry.Class x fits (λ i. refl) (λ i p. p) e
body_takes tag.String file x fits e = index_field file entry.String x fits (λ i. refl) (λ i p. p) e
body_takes tag.Fieldref file x fits e = one_field file (member_from file) entry.Fieldref x e (λ a h.
    let m = member_takes file a fits h in record { takes = m.0; fits = m.1 })
body_takes tag.Methodref file x fits e = one_field file (member_from file) entry.Methodref x e (λ a h.
    let m = member_takes file a fits h in record { takes = m.0; fits = m.1 })
body_takes tag.InterfaceMethodref file x fits e = one_field file (member_from file) entry.InterfaceMethodref x e (λ a h.
    let m = member_takes file a fits h in record { takes = m.0; fits = m.1 })
body_takes tag.NameAndType file x fits e =
    let a = bind_ok (number_from 2 file) (λ name. number_from 2 name.1 >>= λ descriptor. Ok (entry.NameAndType name.0 descriptor.0, descriptor.1)) x e in
    let t = number_takes 2 file a.0 fits a.1 in
    one_field file (number_from 2 a.0.1) (λ descriptor. entry.NameAndType a.0.0 descriptor) x a.2 (λ b h.
    let u = number_takes 2 a.0.1 b t.0.rest_fits h in
    record { takes = Takes-then file (index_bytes a.0.0) a.0.1 (index_bytes b.0) b.1 t.0 u.0; fits = (t.1, u.1) })
body_takes tag.MethodHandle file x fits e = one_field file (field_from 3 file) entry.MethodHandle x e (λ a h.
    let f = field_takes 3 file a fits h in record { takes = f.0; fits = f.1 })
body_takes tag.MethodType file x fits e = one_field file (field_from 2 file) entry.MethodType x e (λ a h.
    let f = field_takes 2 file a fits h in record { takes = f.0; fits = f.1 })
body_takes tag.InvokeDynamic file x fits e = one_field file (field_from 4 file) entry.InvokeDynamic x e (λ a h.
    let f = field_takes 4 file a fits h in record { takes = f.0; fits = f.1 })

-- the entry has the kind that was asked for
one_tagged : {A : Type 0} (t : Tag) (read : Result (A × Place) PoolRefusal) (make : A → Entry) (x : Entry × Place) →
    ((a : A) → tag_of (make a) ≡ t) → (read >>= λ a. Ok (make a.0, a.1)) ≡ Ok x → tag_of x.0 ≡ t
one_tagged {A} t read make x tagged e =
    let a = bind_ok read (λ a. Ok (make a.0, a.1)) x e in
    let made : Entry × Place = (make a.0.0, a.0.1) in
    subst (λ (y : Entry × Place). tag_of y.0 ≡ t) (ok_is PoolRefusal made x a.2) (tagged a.0.0)

body_tagged : (t : Tag) (file : Place) (x : Entry × Place) → body_from t file ≡ Ok x → tag_of x.0 ≡ t
unfolding body_from
body_tagged tag.Utf8 file x e = one_tagged tag.Utf8 (name_from file) entry.Utf8 x (λ a. refl) e
body_tagged tag.Integer file x e = one_tagged tag.Integer (number_from 4 file) (λ n. entry.Integer (cast_signed w32 n)) x (λ a. refl) e
body_tagged tag.Float file x e = one_tagged tag.Float (number_from 4 file) entry.Float x (λ a. refl) e
body_tagged tag.Long file x e = one_tagged tag.Long (number_from 8 file) (λ n. entry.Long (cast_signed w64 n)) x (λ a. refl) e
body_tagged tag.Double file x e = one_tagged tag.Double (number_from 8 file) entry.Double x (λ a. refl) e
body_tagged tag.Class file x e = one_tagged tag.Class (number_from 2 file) entry.Class x (λ a. refl) e
body_tagged tag.String file x e = one_tagged tag.String (number_from 2 file) entry.String x (λ a. refl) e
body_tagged tag.Fieldref file x e = one_tagged tag.Fieldref (member_from file) entry.Fieldref x (λ a. refl) e
body_tagged tag.Methodref file x e = one_tagged tag.Methodref (member_from file) entry.Methodref x (λ a. refl) e
body_tagged tag.InterfaceMethodref file x e = one_tagged tag.InterfaceMethodref (member_from file) entry.InterfaceMethodref x (λ a. refl) e
body_tagged tag.NameAndType file x e =
    let a = bind_ok (number_from 2 file) (λ name. number_from 2 name.1 >>= λ descriptor. Ok (entry.NameAndType name.0 descriptor.0, descriptor.1)) x e in
    one_tagged tag.NameAndType (number_from 2 a.0.1) (λ descriptor. entry.NameAndType a.0.0 descriptor) x (λ b. refl) a.2
body_tagged tag.MethodHandle file x e = one_tagged tag.MethodHandle (field_from 3 file) entry.MethodHandle x (λ a. refl) e
body_tagged tag.MethodType file x e = one_tagged tag.MethodType (field_from 2 file) entry.MethodType x (λ a. refl) e
body_tagged tag.InvokeDynamic file x e = one_tagged tag.InvokeDynamic (field_from 4 file) entry.InvokeDynamic x (λ a. refl) e

-- a body that is spelled is read again, whatever follows
abbrev ReadsBody : Entry → Type 0
ReadsBody e = (at : ℕ) (rest : List ℕ) → body_from (tag_of e) (at, body_bytes e ++ rest) ≡ Ok (e, (at + length (body_bytes e), rest))

bytes_again : (e : Entry) (at n : ℕ) (bytes rest : List ℕ) → length bytes ≡ n → done {A = Entry × Place} PoolRefusal
    (e, (at + n, rest)) ≡ done {A = Entry × Place} PoolRefusal (e, (at + length bytes, rest))
bytes_again e at n bytes rest len = same_place PoolRefusal e (at + n) (at + length bytes) rest (omega arith)

pub body_again : (e : Entry) → Fits e → ReadsBody e
unfolding body_from
body_again (entry.Utf8 name) fits at rest = rw (name_again at name rest fits.0 fits.1) refl
body_again (entry.Integer z) fits at rest =
    rw (number_from-again 4 at (cast_unsigned w32 z) rest (omega (arith, Fits-of_z {w = w32} {z = z} fits)), to_z-of_z w32 z fits) refl
body_again (entry.Float bits) fits at rest = rw (number_from-again 4 at bits rest fits) refl
body_again (entry.Long z) fits at rest =
    rw (number_from-again 8 at (cast_unsigned w64 z) rest (omega (arith, Fits-of_z {w = w64} {z = z} fits)), to_z-of_z w64 z fits) refl
body_again (entry.Double bits) fits at rest = rw (number_from-again 8 at bits rest fits) refl
body_again (entry.Class name) fits at rest = rw (number_from-again 2 at name rest fits) refl
body_again (entry.String text) fits at rest = rw (number_from-again 2 at text rest fits) refl
body_again (entry.Fieldref m) fits at rest = rw (member_again at m rest fits) refl
body_again (entry.Methodref m) fits at rest = rw (member_again at m rest fits) refl
body_again (entry.InterfaceMethodref m) fits at rest = rw (member_again at m rest fits) refl
body_again (entry.NameAndType name descriptor) fits at rest =
    let ends : at + 2 + 2 ≡ at + 4 = omega arith in
    rw (
      number_from-again 2 at name (index_bytes descriptor ++ rest) fits.0,
      number_from-again 2 (at + 2) descriptor rest
          fits.1,
    ) (same_place PoolRefusal (entry.NameAndType name descriptor) _ _ rest ends)
body_again (entry.MethodHandle bytes) fits at rest = rw (field_again 3 at bytes rest fits.0) (bytes_again (entry.MethodHandle bytes) at 3 bytes rest fits.0)
body_again (entry.MethodType bytes) fits at rest = rw (field_again 2 at bytes rest fits.0) (bytes_again (entry.MethodType bytes) at 2 bytes rest fits.0)
body_again (entry.InvokeDynamic bytes) fits at rest = rw (field_again 4 at bytes rest fits.0) (bytes_again (entry.InvokeDynamic bytes) at 4 bytes rest fits.0)

-- ---- tags

same_tag : (b n : ℕ) (first t : Tag) (others : Option Tag) → cond (eqb b n) (Some first) others ≡ Some t
    → eqb b n ≡ true → first ≡ t
same_tag b n first t others e equal = let h = rw equal at e in cc

pick : (b n : ℕ) (first t : Tag) (others : Option Tag) → tag_byte first ≡ n
    → (others ≡ Some t → b ≡ tag_byte t) → cond (eqb b n) (Some first) others ≡ Some t → b ≡ tag_byte t
pick b n first t others is_n later e =
    elim (cases_Bool (eqb b n)) [
      | inl equal ↦ eqb-true b n equal ∙ sym is_n ∙ ap tag_byte (same_tag b n first t others e equal)
      | inr other ↦ later (rw other at e)
    ]

pub tag_known : (b : ℕ) (t : Tag) → tag_with b ≡ Some t → b ≡ tag_byte t
tag_known b t =
    pick b 1 tag.Utf8 t _ refl (pick b 3 tag.Integer t _ refl (pick b 4 tag.Float t _ refl (pick b 5 tag.Long t _ refl (pick b 6 tag.Double t _ refl
    (pick b 7 tag.Class t _ refl (pick b 8 tag.String t _ refl (pick b 9 tag.Fieldref t _ refl (pick b 10 tag.Methodref t _ refl (pick b 11 tag.InterfaceMethodref t _ refl
    (pick b 12 tag.NameAndType t _ refl (pick b 15 tag.MethodHandle t _ refl (pick b 16 tag.MethodType t _ refl (pick b 18 tag.InvokeDynamic t _ refl (λ e. absurd cc))))))))))))))

tag_found : (t : Tag) → tag_with (tag_byte t) ≡ Some t
tag_found tag.Utf8 = refl
tag_found tag.Integer = refl
tag_found tag.Float = refl
tag_found tag.Long = refl
tag_found tag.Double = refl
tag_found tag.Class = refl
tag_found tag.String = refl
tag_found tag.Fieldref = refl
tag_found tag.Methodref = refl
tag_found tag.InterfaceMethodref = refl
tag_found tag.NameAndType = refl
tag_found tag.MethodHandle = refl
tag_found tag.MethodType = refl
tag_found tag.InvokeDynamic = refl

tag_bytes : (t : Tag) → big_bytes 1 (tag_byte t) ≡ tag_byte t ∷ []
tag_bytes tag.Utf8 = refl
tag_bytes tag.Integer = refl
tag_bytes tag.Float = refl
tag_bytes tag.Long = refl
tag_bytes tag.Double = refl
tag_bytes tag.Class = refl
tag_bytes tag.String = refl
tag_bytes tag.Fieldref = refl
tag_bytes tag.Methodref = refl
tag_bytes tag.InterfaceMethodref = refl
tag_bytes tag.NameAndType = refl
tag_bytes tag.MethodHandle = refl
tag_bytes tag.MethodType = refl
tag_bytes tag.InvokeDynamic = refl

tag_byte-lt : (t : Tag) → tag_byte t < 256
tag_byte-lt tag.Utf8 = omega arith
tag_byte-lt tag.Integer = omega arith
tag_byte-lt tag.Float = omega arith
tag_byte-lt tag.Long = omega arith
tag_byte-lt tag.Double = omega arith
tag_byte-lt tag.Class = omega arith
tag_byte-lt tag.String = omega arith
tag_byte-lt tag.Fieldref = omega arith
tag_byte-lt tag.Methodref = omega arith
tag_byte-lt tag.InterfaceMethodref = omega arith
tag_byte-lt tag.NameAndType = omega arith
tag_byte-lt tag.MethodHandle = omega arith
tag_byte-lt tag.MethodType = omega arith
tag_byte-lt tag.InvokeDynamic = omega arith

bad_tag_ok : (at : ℕ) (o : Option Tag) (t : Tag) → or_bad_tag at o ≡ Ok t → o ≡ Some t
bad_tag_ok at None t e = absurd cc
bad_tag_ok at (Some u) t e = let same : u ≡ t = cc in ap (λ (v : Tag). Some v) same

-- an entry that takes two indices has room for the second
abbrev pub HasRoom : ℕ → ℕ → Tag → Type 0
HasRoom index count t = is_wide t ≡ true → index + 1 ≢ count

room_from : (index count : ℕ) (t : Tag) → (is_wide t && eqb (index + 1) count) ≡ false → HasRoom index count t
room_from index count t e = λ wide same.
    let both : (is_wide t && eqb (index + 1) count) ≡ true = and_from _ _ wide (eq-eqb _ _ same) in
    absurd cc

room_passes : (index count : ℕ) (t : Tag) → HasRoom index count t
    → (is_wide t && eqb (index + 1) count) ≡ false
room_passes index count t room =
    elim (cases_Bool (is_wide t)) [
      | inl wide ↦ and_right (is_wide t) _ (ne_eqb _ _ (room wide))
      | inr narrow ↦ and_left _ (eqb (index + 1) count) narrow
    ]

-- what a tag is read from
record IsTag (index count : ℕ) (file : Place) (x : Tag × Place) : Type 0 where
  byte : ℕ × Place
  read : number_from 1 file ≡ Ok byte
  known : byte.0 ≡ tag_byte x.0
  after : byte.1 ≡ x.1
  room : HasRoom index count x.0

tag_read : (index count : ℕ) (file : Place) (x : Tag × Place) → tag_from index count file ≡ Ok x
    → IsTag index count file x
unfolding tag_from
tag_read index count file x e =
    let a = bind_ok (number_from 1 file) (λ byte. or_bad_tag file.0 (tag_with byte.0) >>= λ t. cond (is_wide t && eqb (index + 1) count) (Err (BadIndex index (index + 1))) (Ok (t, byte.1))) x e in
    let b = bind_ok (or_bad_tag file.0 (tag_with a.0.0)) (λ t. cond (is_wide t && eqb (index + 1) count) (Err (BadIndex index (index + 1))) (Ok (t, a.0.1))) x a.2 in
    let g = guard_ok (is_wide b.0 && eqb (index + 1) count) (BadIndex index (index + 1)) (b.0, a.0.1) x b.2 in
    let byte = tag_known a.0.0 b.0 (bad_tag_ok file.0 (tag_with a.0.0) b.0 b.1) in
    subst (λ (y : Tag × Place). IsTag index count file y) g.1
    (record { byte = a.0; read = a.1; known = byte; after = refl; room = room_from index count b.0 g.0 })

tag_takes : (index count : ℕ) (file : Place) (x : Tag × Place) → IsBytes file.1 → IsTag index count file x
    → Takes file (tag_byte x.0 ∷ []) x.1
tag_takes index count file x fits t =
    let taken = (number_takes 1 file t.byte fits t.read).0 in
    let text : big_bytes 1 t.byte.0 ≡ tag_byte x.0 ∷ [] = ap (big_bytes 1) t.known ∙ tag_bytes x.0 in
    let named : Takes file (tag_byte x.0 ∷ []) t.byte.1 = subst (λ (y : List ℕ). Takes file y t.byte.1) text taken in
    subst (λ (after : Place). Takes file (tag_byte x.0 ∷ []) after) t.after named

pub tag_again : (index count at : ℕ) (t : Tag) (rest : List ℕ) → HasRoom index count t
    → tag_from index count (at, tag_byte t ∷ rest) ≡ Ok (t, (at + 1, rest))
unfolding tag_from
tag_again index count at t rest room =
    let read : number_from 1 (at, tag_byte t ∷ rest) ≡ Ok (tag_byte t, (at + 1, rest)) =
    ap (λ (text : List ℕ). number_from 1 (at, text ++ rest)) (sym (tag_bytes t)) ∙ number_from-again 1 at (tag_byte t) rest (tag_byte-lt t) in
    rw (read, tag_found t, room_passes index count t room) refl

-- ---- entries

pub entry_room : (index count : ℕ) (file : Place) (x : Entry × Place) → entry_from index count file ≡ Ok x
    → HasRoom index count (tag_of x.0)
unfolding entry_from
entry_room index count file x e =
    let a = bind_ok (tag_from index count file) (λ t. body_from t.0 t.1) x e in
    let t = tag_read index count file a.0 a.1 in
    subst (λ (u : Tag). HasRoom index count u) (sym (body_tagged a.0.0 a.0.1 x a.2)) t.room

-- an entry that was read from the front
pub record IsEntry (file : Place) (x : Entry × Place) : Type 0 where
  pub takes : Takes file (entry_bytes x.0) x.1
  pub fits : Fits x.0

pub entry_takes : (index count : ℕ) (file : Place) (x : Entry × Place) → IsBytes file.1
    → entry_from index count file ≡ Ok x → IsEntry file x
unfolding entry_from
entry_takes index count file x fits e =
    let a = bind_ok (tag_from index count file) (λ t. body_from t.0 t.1) x e in
    let t = tag_takes index count file a.0 fits (tag_read index count file a.0 a.1) in
    let b = body_takes a.0.0 a.0.1 x t.rest_fits a.2 in
    let both = Takes-then file (tag_byte a.0.0 ∷ []) a.0.1 (body_bytes x.0) x.1 t b.takes in
    record {
      takes = subst (λ (u : Tag). Takes file (tag_byte u ∷ body_bytes x.0) x.1) (sym (body_tagged a.0.0 a.0.1 x a.2)) both;
      fits = b.fits;
    }

pub entry_again : (index count at : ℕ) (e : Entry) (rest : List ℕ) → Fits e → HasRoom index count (tag_of e)
    → entry_from index count (at, entry_bytes e ++ rest) ≡ Ok (e, (at + length (entry_bytes e), rest))
unfolding entry_from
entry_again index count at e rest fits room =
    let ends : at + 1 + length (body_bytes e) ≡ at + length (entry_bytes e) = omega arith in
    rw (tag_again index count at (tag_of e) (body_bytes e ++ rest) room) (body_again e fits (at + 1) rest ∙ same_place PoolRefusal e _ _ rest ends)
