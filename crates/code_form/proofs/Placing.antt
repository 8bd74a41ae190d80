-- Instructions that a loop reads one after the other, until no byte is left.
use Rattle.std.proofs.Common.{◌≡◌, ℕ, zero, suc, ◌-◌, ◌≤◌, ◌<◌, List, [], ◌∷◌, ◌++◌, length, take, min, Result, Ok, Err, All}
use Rattle.std.proofs.Common.{refl, sym, ap, subst, ◌∙◌, ◌⊎◌, inl, inr, append_assoc, arith}
use Rattle.std.specs.List.{AllByRecursion}
use Rattle.std.proofs.lemmas.List.{append-nil, take_min}
use Rattle.std.proofs.lemmas.List.Elements.{All-from_recursion}
use Rattle.parsing.specs.Results.{◌>>=◌}
use Rattle.parsing.proofs.Steps.{bind_ok, ok_is}
use Rattle.code_form.specs.declared.refusal.CodeRefusal.{CodeRefusal}
use Rattle.code_form.specs.declared.refusal.CodeRefusal.TheVariants.{OutOfMemory}
use Rattle.code_form.specs.declared.ins.Ins.{Ins}
use Rattle.code_form.specs.declared.ins.Placed.{Placed}
use Rattle.code_form.proofs.Shrinking.{ins_shorter}
use Rattle.code_form.specs.Reading.{ins_at, placed_at, front_of}

-- what was read before, and what is still read
abbrev pub with_placed : List Placed → Result (List Placed) CodeRefusal → Result (List Placed) CodeRefusal
with_placed front read = read >>= λ code. Ok (front ++ code)

abbrev at : ℕ → Ins → Placed
at pc ins = record { pc = pc; ins = ins }

regroup : (front : List Placed) (p : Placed) (read : Result (List Placed) CodeRefusal)
    → with_placed front (read >>= λ r. Ok (p ∷ r)) ≡ with_placed (front ++ p ∷ []) read
regroup front p (Ok r) = ap (λ (xs : List Placed). Ok xs) (simp append_assoc)
regroup front p (Err f) = refl

module _ (front : List Placed) (total : Result (List Placed) CodeRefusal) where
  pub goes_on : (left limit sum : ℕ) (bytes : List ℕ) (ins : Ins) (after : List ℕ) → left ≡ suc limit
      → 0 < length bytes → ins_at (sum - length bytes) bytes ≡ Ok (ins, after)
      → with_placed front (placed_at left sum bytes) ≡ total
      → with_placed (front ++ at (sum - length bytes) ins ∷ []) (placed_at limit sum after) ≡ total
  unfolding placed_at
  goes_on left limit sum [] ins after some more h so_far = absurd (omega arith)
  goes_on left limit sum (b ∷ bytes) ins after some more h so_far =
      let pc = sum - length (b ∷ bytes) in
      let one : with_placed front (placed_at left sum (b ∷ bytes)) ≡ with_placed (front ++ at pc ins ∷ [])
      (placed_at limit sum after) = rw (some, h) (regroup front (at pc ins) (placed_at limit sum after)) in
      sym one ∙ so_far

  pub ends : (left limit sum : ℕ) (bytes : List ℕ) (e : CodeRefusal) → left ≡ suc limit → 0 < length bytes
      → (e ≡ OutOfMemory) ⊎ (ins_at (sum - length bytes) bytes ≡ Err e)
      → with_placed front (placed_at left sum bytes) ≡ total → (e ≡ OutOfMemory) ⊎ (total ≡ Err e)
  unfolding placed_at
  ends left limit sum bytes e some more (inl memory) so_far = inl memory
  ends left limit sum [] e some more (inr h) so_far = absurd (omega arith)
  ends left limit sum (b ∷ bytes) e some more (inr h) so_far =
      let one : with_placed front (placed_at left sum (b ∷ bytes)) ≡ Err e = rw (some, h) refl in
      inr (sym so_far ∙ one)

  pub is_done : (left sum : ℕ) (bytes : List ℕ) → length bytes ≡ 0
      → with_placed front (placed_at left sum bytes) ≡ total → total ≡ Ok front
  unfolding placed_at
  is_done left sum (b ∷ bytes) none so_far = absurd (omega arith)
  is_done zero sum [] none so_far = sym so_far ∙ ap (λ (xs : List Placed). Ok xs) (append-nil front)
  is_done (suc left) sum [] none so_far = sym so_far ∙ ap (λ (xs : List Placed). Ok xs) (append-nil front)

-- each instruction begins within the code
pub pcs_below : (limit total : ℕ) (bytes : List ℕ) (code : List Placed) → length bytes ≤ total
    → placed_at limit total bytes ≡ Ok code → AllByRecursion (λ p. p.pc < total) code
unfolding placed_at
pcs_below limit total [] code short e = rw (← ok_is CodeRefusal [] code e) tt
pcs_below zero total (b ∷ bytes) code short e = rw (← ok_is CodeRefusal [] code e) tt
pcs_below (suc limit) total (b ∷ bytes) code short e =
    let pc = total - length (b ∷ bytes) in
    let a = bind_ok (ins_at pc (b ∷ bytes))
    (λ first. placed_at limit total first.1 >>= λ others. Ok (at pc first.0 ∷ others)) code e in
    let o = bind_ok (placed_at limit total a.0.1) (λ others. Ok (at pc a.0.0 ∷ others)) code a.2 in
    let shorter = ins_shorter pc (b ∷ bytes) a.0 (omega arith) a.1 in
    let others = pcs_below limit total a.0.1 o.0 (omega (arith, shorter)) o.1 in
    let below : pc < total = omega arith in
    subst (λ (ps : List Placed). AllByRecursion (λ p. p.pc < total) ps)
    (ok_is CodeRefusal (at pc a.0.0 ∷ o.0) code o.2) (below, others)

pub all_below : (total : ℕ) (bytes : List ℕ) (code : List Placed) → length bytes ≡ total
    → placed_at total total bytes ≡ Ok code → All (λ p. p.pc < total) code
all_below total bytes code same e =
    All-from_recursion (λ p. p.pc < total) code (pcs_below total total bytes code (omega arith) e)

-- ---- the longest code

pub front_is : (n : ℕ) (bytes : List ℕ) → n ≡ min 65535 (length bytes) → take n bytes ≡ front_of bytes
unfolding front_of
front_is n bytes e = ap (λ (k : ℕ). take k bytes) e ∙ take_min 65535 bytes
