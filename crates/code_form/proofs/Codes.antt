-- The laws of a whole code: what is read is a code and is spelled so, and what is spelled so is read.
use Rattle.std.proofs.Common.{◌≡◌, ℕ, zero, suc, ◌+◌, ◌-◌, ◌<◌, ◌≤◌, Bool, true, false, not, cond, eqb, ltb, List, [], ◌∷◌}
use Rattle.std.proofs.Common.{◌++◌, length, replicate, All, Option, Some, None, Result, Ok, Err, refl, sym, ap, subst, ◌∙◌, inl}
use Rattle.std.proofs.Common.{inr, arith, length-append}
use Rattle.std.specs.Prelude.{IfOk, IsErr, IsTrue}
use Rattle.std.specs.Global.{Vec}
use Rattle.std.specs.List.{find, list_all, list_any, flat_map, AllByRecursion}
use Rattle.std.specs.Int.{w32}
use Rattle.std.proofs.lemmas.Bool.{and_parts, or_cases, eqb-true, ltb-false, le-ltb}
use Rattle.std.proofs.lemmas.List.Elements.{All-from_recursion}
use Rattle.std.proofs.lemmas.List.{take_all, length-replicate}
use Rattle.byteorder.specs.Endian.{big_bytes}
use Rattle.parsing.specs.Bytes.{IsBytes}
use Rattle.parsing.specs.Results.{Gives}
use Rattle.parsing.proofs.Steps.{bind_ok, ok_is}
use Rattle.code_form.specs.declared.refusal.CodeRefusal.{CodeRefusal}
use Rattle.code_form.specs.declared.refusal.CodeRefusal.TheVariants.{Truncated, OutOfMemory}
use Rattle.code_form.specs.declared.ins.Local.TheVariants as locals
use Rattle.code_form.specs.declared.ins.Ins.{Ins}
use Rattle.code_form.specs.declared.ins.Ins.TheVariants as ins
use Rattle.code_form.specs.declared.ins.Placed.{Placed}
use Rattle.code_form.specs.Spelling.{longest, signed, offset, case_bytes, bytes_of, idle_count, zeroed, written, Spells, Fits}
use Rattle.code_form.specs.Spelling.{FollowFrom, targets_of, Reached, IsWritable, is_start, jumps_to_starts, IsCode}
use Rattle.code_form.specs.Reading.{unsigned_at, ins_at, placed_at, first_astray, unless_astray, front_of, code_of}
use Rattle.code_form.proofs.Numbers.{guard_ok}
use Rattle.code_form.proofs.Shrinking.{ins_shorter}
use Rattle.code_form.proofs.Placing.{pcs_below, all_below}
use Rattle.code_form.proofs.Operands.{ins_found, ins_again}

-- ---- lengths

longer : (x y more : List ℕ) → length x ≡ length y → length (x ++ more) ≡ length (y ++ more)
longer x y more e = omega (arith, length-append x more, length-append y more, e)

-- how long an instruction is doesn't hang on the bytes that say nothing
pub same_length : (x y : List ℕ) (pc : ℕ) (i : Ins) → length x ≡ length y
    → length (bytes_of x pc i) ≡ length (bytes_of y pc i)
same_length x y pc (ins.InvokeInterface n k) e = ap (λ (m : ℕ). suc (suc (suc (suc m)))) e
same_length x y pc (ins.TableSwitch default low high targets) e =
    ap suc (longer _ _ (flat_map (λ t. signed w32 (offset pc t)) targets)
    (longer _ _ (signed w32 high)
    (longer _ _ (signed w32 low) (longer x y (signed w32 (offset pc default)) e))))
same_length x y pc (ins.LookupSwitch default cases) e =
    ap suc (longer _ _ (flat_map (case_bytes pc) cases)
    (longer _ _ (big_bytes 4 (length cases)) (longer x y (signed w32 (offset pc default)) e)))
same_length x y pc (ins.Variable access sort (locals.Byte n)) e = refl
same_length x y pc (ins.Variable access sort _) e = refl
same_length x y pc _ e = refl

-- ---- jumps

passed : (b : Bool) (x : Placed) (o : Option Placed) → cond (not b) (Some x) o ≡ None
    → (b ≡ true) × (o ≡ None)
passed true x o e = (refl, e)
passed false x o e = absurd cc

none_fails : (f : Placed → Bool) (xs : List Placed) → find (λ p. not (f p)) xs ≡ None
    → AllByRecursion (λ p. IsTrue (f p)) xs
none_fails f [] e = tt
none_fails f (x ∷ xs) e = let p = passed (f x) x (find (λ q. not (f q)) xs) e in (p.0, none_fails f xs p.1)

none_found : (f : Placed → Bool) (xs : List Placed) → AllByRecursion (λ p. IsTrue (f p)) xs
    → find (λ p. not (f p)) xs ≡ None
none_found f [] h = refl
none_found f (x ∷ xs) h = rw h.0 (none_found f xs h.1)

start_below : (n : ℕ) (code : List Placed) (t : ℕ) → AllByRecursion (λ p. p.pc < n) code
    → list_any (λ p. eqb p.pc t) code ≡ true → t < n
start_below n [] t below e = absurd cc
start_below n (p ∷ code) t below e =
    elim (or_cases (eqb p.pc t) (list_any (λ q. eqb q.pc t) code) e) [
      | inl here ↦ subst (λ (k : ℕ). k < n) (eqb-true p.pc t here) below.0
      | inr later ↦ start_below n code t below.1 later
    ]

targets_reached : (code : List Placed) (ts : List ℕ) → AllByRecursion (λ p. p.pc < 65536) code
    → list_all (is_start code) ts ≡ true → AllByRecursion (λ t. t ≤ 65535) ts
targets_reached code [] below e = tt
targets_reached code (t ∷ ts) below e =
    let p = and_parts (is_start code t) (list_all (is_start code) ts) e in
    let lt : t < 65536 = start_below 65536 code t below p.0 in
    (omega arith, targets_reached code ts below p.1)

all_reached : (code some : List Placed) → AllByRecursion (λ p. p.pc < 65536) code
    → AllByRecursion (λ p. IsTrue (jumps_to_starts code p)) some → AllByRecursion (λ p. Reached p.ins) some
all_reached code [] below jump = tt
all_reached code (p ∷ some) below jump =
    (targets_reached code (targets_of p.ins) below jump.0, all_reached code some below jump.1)

-- ---- reading

placed_take : (limit total : ℕ) (bytes : List ℕ) (code : List Placed) → IsBytes bytes → length bytes ≤ limit
    → length bytes ≤ total → total ≤ 65535 → placed_at limit total bytes ≡ Ok code
    → AllByRecursion (λ p. Reached p.ins) code
    → FollowFrom (total - length bytes) code × AllByRecursion (λ p. Fits p.pc p.ins) code × Spells code bytes
unfolding placed_at
placed_take limit total [] code fits few within short e reached =
    subst (λ (c : List Placed). FollowFrom (total - 0) c × AllByRecursion (λ p. Fits p.pc p.ins) c
    × Spells c []) (ok_is CodeRefusal [] code e) (omega arith, tt, refl)
placed_take zero total (b ∷ bytes) code fits few within short e reached = absurd (omega arith)
placed_take (suc limit) total (b ∷ bytes) code fits few within short e reached =
    let pc = total - length (b ∷ bytes) in
    let a = bind_ok (ins_at pc (b ∷ bytes)) _ code e in
    let o = bind_ok (placed_at limit total a.0.1) _ code a.2 in
    let p : Placed = record { pc = pc; ins = a.0.0 } in
    let rest = a.0.1 in
    subst (λ (c : List Placed). AllByRecursion (λ q. Reached q.ins) c
    → FollowFrom pc c × AllByRecursion (λ q. Fits q.pc q.ins) c × Spells c (b ∷ bytes))
    (ok_is CodeRefusal (p ∷ o.0) code o.2)
    (λ all.
    let s = ins_found pc (b ∷ bytes) a.0 fits (omega arith) a.1 all.0 in
    let shorter = ins_shorter pc (b ∷ bytes) a.0 (omega arith) a.1 in
    let parts : b ∷ bytes ≡ bytes_of s.idle pc a.0.0 ++ rest = s.taken.parts in
    let lengths : length (b ∷ bytes) ≡ length (bytes_of s.idle pc a.0.0) + length rest =
    ap length parts ∙ length-append (bytes_of s.idle pc a.0.0) rest in
    let size : length (zeroed p) ≡ length (bytes_of s.idle pc a.0.0) =
    same_length _ s.idle pc a.0.0 (length-replicate (idle_count pc a.0.0) 0 ∙ sym s.count) in
    let later = placed_take limit total rest o.0 s.taken.rest_fits (omega (arith, shorter))
    (omega (arith, shorter)) short o.1 all.1 in
    let next : total - length rest ≡ pc + length (zeroed p) = omega (arith, lengths, size, shorter) in (
      (refl, subst (λ (n : ℕ). FollowFrom n o.0) next later.0),
      (s.fits, later.1),
      (s.idle, rest, s.count, parts, later.2),
    ))
    reached

unless_ok : (code got : List Placed) (o : Option Placed) → unless_astray code o ≡ Ok got
    → (o ≡ None) × (code ≡ got)
unless_ok code got None e = (refl, ok_is CodeRefusal code got e)
unless_ok code got (Some p) e = absurd cc

below_more : (n : ℕ) (code : List Placed) → n ≤ 65536 → AllByRecursion (λ p. p.pc < n) code
    → AllByRecursion (λ p. p.pc < 65536) code
below_more n [] le h = tt
below_more n (p ∷ code) le h = (let lt : p.pc < n = h.0 in omega arith, below_more n code le h.1)

front_whole : (bytes : List ℕ) → length bytes ≤ 65535 → front_of bytes ≡ bytes
unfolding front_of
front_whole bytes short = take_all 65535 bytes short

-- what a code that was read came from
record Read (bytes : List ℕ) (code : List Placed) : Type 0 where
  short : length bytes ≤ 65535
  placed : placed_at (length bytes) (length bytes) bytes ≡ Ok code
  fine : first_astray code ≡ None

code_read : (bytes : List ℕ) (code : List Placed) → code_of bytes ≡ Ok code → Read bytes code
unfolding code_of
code_read bytes code e =
    let n = length (front_of bytes) in
    let a = bind_ok (placed_at n n (front_of bytes)) _ code e in
    let b = bind_ok (cond (ltb longest (length bytes)) (Err (Truncated longest)) (Ok a.0)) _ code a.2 in
    let g = guard_ok (ltb longest (length bytes)) (Truncated longest) (Ok a.0) b.0 b.1 in
    let short : length bytes ≤ 65535 = ltb-false longest (length bytes) g.0 in
    let u = unless_ok b.0 code (first_astray b.0) b.2 in
    let same : a.0 ≡ code = ok_is CodeRefusal a.0 b.0 g.1 ∙ u.1 in
    let whole : front_of bytes ≡ bytes = front_whole bytes short in
    record {
      short = short;
      placed = subst (λ (l : List ℕ). placed_at (length l) (length l) l ≡ Ok code) whole
          (a.1 ∙ ap (λ (c : List Placed). Ok c) same);
      fine = subst (λ (c : List Placed). first_astray c ≡ None) u.1 u.0;
    }

pub code_takes : (bytes : List ℕ) (code : List Placed) → IsBytes bytes → code_of bytes ≡ Ok code
    → IsCode code × Spells code bytes
code_takes bytes code fits e =
    let r = code_read bytes code e in
    let short : length bytes ≤ 65535 = r.short in
    let read = r.placed in
    let jump : AllByRecursion (λ p. IsTrue (jumps_to_starts code p)) code =
    none_fails (jumps_to_starts code) code r.fine in
    let below = below_more (length bytes) code (omega arith)
    (pcs_below (length bytes) (length bytes) bytes code (omega arith) read) in
    let t = placed_take (length bytes) (length bytes) bytes code fits (omega arith) (omega arith) short read
    (all_reached code code below jump) in
    let from : length bytes - length bytes ≡ 0 = omega arith in
    (record { follow = subst (λ (k : ℕ). FollowFrom k code) from t.0; fit = t.1; jump = jump }, t.2)

-- ---- reading again

placed_nil : (limit total : ℕ) → placed_at limit total [] ≡ Ok []
unfolding placed_at
placed_nil zero total = refl
placed_nil (suc limit) total = refl

nothing_read : (pc : ℕ) (x : Ins × List ℕ) → ins_at pc [] ≡ Ok x → ⊥
unfolding ins_at unsigned_at
nothing_read pc x e = cc

placed_again : (limit total pc : ℕ) (bytes : List ℕ) (code : List Placed) → length bytes ≤ limit
    → pc + length bytes ≡ total → total ≤ 65535 → FollowFrom pc code
    → AllByRecursion (λ p. Fits p.pc p.ins) code → AllByRecursion (λ p. Reached p.ins) code
    → Spells code bytes
    → placed_at limit total bytes ≡ Ok code
unfolding placed_at
placed_again limit total pc bytes [] few sum short follow fit reached spells =
    rw spells (placed_nil limit total)
placed_again limit total pc [] (p ∷ code) few sum short follow fit reached spells =
    let at : p.pc ≡ pc = follow.0 in
    absurd (nothing_read p.pc (p.ins, spells.1)
    (ap (ins_at p.pc) spells.3
    ∙ ins_again p.pc p.ins spells.0 spells.1 (omega arith) fit.0 reached.0 spells.2))
placed_again zero total pc (b ∷ bytes) (p ∷ code) few sum short follow fit reached spells =
    absurd (omega arith)
placed_again (suc limit) total pc (b ∷ bytes) (p ∷ code) few sum short follow fit reached spells =
    let idle = spells.0 in
    let rest = spells.1 in
    let at : p.pc ≡ pc = follow.0 in
    let here : p.pc ≡ total - length (b ∷ bytes) = omega arith in
    let again : ins_at p.pc (b ∷ bytes) ≡ Ok (p.ins, rest) =
    ap (ins_at p.pc) spells.3 ∙ ins_again p.pc p.ins idle rest (omega arith) fit.0 reached.0 spells.2 in
    let shorter = ins_shorter p.pc (b ∷ bytes) (p.ins, rest) (omega arith) again in
    let lengths : length (b ∷ bytes) ≡ length (bytes_of idle p.pc p.ins) + length rest =
    ap length spells.3 ∙ length-append (bytes_of idle p.pc p.ins) rest in
    let size : length (zeroed p) ≡ length (bytes_of idle p.pc p.ins) =
    same_length _ idle p.pc p.ins (length-replicate (idle_count p.pc p.ins) 0 ∙ sym spells.2) in
    let others : placed_at limit total rest ≡ Ok code =
    placed_again limit total (pc + length (zeroed p)) rest code (omega (arith, shorter))
    (omega (arith, lengths, size)) short follow.1 fit.1 reached.1 spells.4 in
    rw (← here, again, others) refl

follow_low : (pc : ℕ) (code : List Placed) → FollowFrom pc code → pc ≤ 65535
follow_low pc [] h = h
follow_low pc (p ∷ code) h = let later = follow_low (pc + length (zeroed p)) code h.1 in omega arith

follow_pcs : (pc : ℕ) (code : List Placed) → FollowFrom pc code → AllByRecursion (λ p. p.pc < 65536) code
follow_pcs pc [] h = tt
follow_pcs pc (p ∷ code) h = (
  let low = follow_low pc (p ∷ code) h in let at : p.pc ≡ pc =
      h.0 in omega arith,
  follow_pcs (pc + length (zeroed p)) code h.1,
)

-- a code ends within the longest one
follow_end : (pc : ℕ) (bytes : List ℕ) (code : List Placed) → FollowFrom pc code → Spells code bytes
    → pc + length bytes ≤ 65535
follow_end pc bytes [] h spells = rw spells (omega arith)
follow_end pc bytes (p ∷ code) h spells =
    let idle = spells.0 in
    let rest = spells.1 in
    let lengths : length bytes ≡ length (bytes_of idle p.pc p.ins) + length rest =
    ap length spells.3 ∙ length-append (bytes_of idle p.pc p.ins) rest in
    let size : length (zeroed p) ≡ length (bytes_of idle p.pc p.ins) =
    same_length _ idle p.pc p.ins (length-replicate (idle_count p.pc p.ins) 0 ∙ sym spells.2) in
    let later = follow_end (pc + length (zeroed p)) rest code h.1 spells.4 in
    omega (arith, lengths, size, later)

pub code_again : (bytes : List ℕ) (code : List Placed) → IsCode code → Spells code bytes
    → code_of bytes ≡ Ok code
unfolding code_of
code_again bytes code is spells =
    let short : length bytes ≤ 65535 =
    (let e = follow_end 0 bytes code is.follow spells in omega (arith, e)) in
    let reached = all_reached code code (follow_pcs 0 code is.follow) is.jump in
    let read : placed_at (length bytes) (length bytes) bytes ≡ Ok code =
    placed_again (length bytes) (length bytes) 0 bytes code (omega arith)
    (omega arith) short is.follow is.fit reached spells in
    let test : ltb longest (length bytes) ≡ false = le-ltb longest (length bytes) short in
    let fine : first_astray code ≡ None = none_found (jumps_to_starts code) code is.jump in
    rw (front_whole bytes short, read, test, fine) refl

-- ---- writing

pub written_spells : (code : List Placed) → Spells code (written code)
written_spells [] = refl
written_spells (p ∷ code) = (
  replicate (idle_count p.pc p.ins) 0,
  written code,
  length-replicate (idle_count p.pc p.ins) 0,
  refl,
  written_spells code,
)

writable : (code : List Placed) → AllByRecursion (λ p. Fits p.pc p.ins) code
    → AllByRecursion (λ p. Reached p.ins) code → AllByRecursion (λ p. p.pc < 65536) code
    → AllByRecursion IsWritable code
writable [] f r n = tt
writable (p ∷ code) f r n = (
  record { fits = f.0; reached = r.0; near = (let lt : p.pc < 65536 = n.0 in omega arith) },
  writable code f.1 r.1 n.1,
)

pub all_writable : (code : List Placed) → IsCode code → All IsWritable code
all_writable code is =
    let near = follow_pcs 0 code is.follow in
    All-from_recursion IsWritable code (writable code is.fit (all_reached code code near is.jump) near)

-- ---- what a call answered

pub is_found : (bytes : List ℕ) (r : Result (Vec Placed) CodeRefusal) → IsBytes bytes
    → Gives (Some OutOfMemory) (λ v. v.items) r (code_of bytes)
    → IfOk r (λ v. IsCode v.items × Spells v.items bytes)
is_found bytes (Ok v) fits given = code_takes bytes v.items fits given
is_found bytes (Err e) fits given = tt

pub is_only : (bytes : List ℕ) (r : Result (Vec Placed) CodeRefusal) (code : List Placed)
    → Gives (Some OutOfMemory) (λ v. v.items) r (code_of bytes) → IsCode code → Spells code bytes
    → Gives (Some OutOfMemory) (λ v. v.items) r (Ok code)
is_only bytes r code given is spells =
    subst (λ (read : Result (List Placed) CodeRefusal). Gives (Some OutOfMemory) (λ v. v.items) r read)
    (code_again bytes code is spells) given

pub is_long : (bytes : List ℕ) (r : Result (Vec Placed) CodeRefusal) → IsBytes bytes
    → Gives (Some OutOfMemory) (λ v. v.items) r (code_of bytes) → 65535 < length bytes → IsErr r
is_long bytes (Ok v) fits given long =
    let t = code_takes bytes v.items fits given in
    let e = follow_end 0 bytes v.items t.0.follow t.1 in
    absurd (omega (arith, e))
is_long bytes (Err e) fits given long = refl

-- each instruction begins within the bytes
code_within : (bytes : List ℕ) (code : List Placed) → code_of bytes ≡ Ok code
    → All (λ p. p.pc < length bytes) code
code_within bytes code e = all_below (length bytes) bytes code refl (code_read bytes code e).placed

pub is_within : (bytes : List ℕ) (r : Result (Vec Placed) CodeRefusal)
    → Gives (Some OutOfMemory) (λ v. v.items) r (code_of bytes)
    → IfOk r (λ v. All (λ (p : Placed). p.pc < length bytes) v.items)
is_within bytes (Ok v) given = code_within bytes v.items given
is_within bytes (Err e) given = tt
