-- Acts, and the whole file: what is read is spelled so, and what is spelled so is read again.
use Rattle.std.proofs.Common.{◌≡◌, ℕ, zero, suc, ◌+◌, ◌-◌, ◌/◌, ◌%◌, ◌^◌, ◌<◌, ◌≤◌, Bool, true, false, cond, eqb, leb, List}
use Rattle.std.proofs.Common.{[], ◌∷◌, ◌++◌}
use Rattle.std.proofs.Common.{length, Option, Some, None, Ok, Err, refl, sym, ap, subst, ◌∙◌, append_assoc, arith}
use Rattle.std.specs.List.{flat_map, AllByRecursion}
use Rattle.std.proofs.lemmas.Bool.{eqb-true, eq-eqb, le-leb, and_parts, and_from}
use Rattle.std.proofs.lemmas.List.{append-nil, nil_from_length}
use Rattle.std.proofs.lemmas.List.Elements.{All-from_recursion, recursion_from_All}
use Rattle.parsing.specs.Bytes.{IsBytes}
use Rattle.parsing.specs.Results.{◌>>=◌, placed, many_from}
use Rattle.parsing.proofs.Steps.{bind_ok, ok_is, where_ok, placed_ok}
use Rattle.ap_base.specs.declared.place.Place.{Place}
use Rattle.ap_base.specs.declared.place.Place.TheVariants.{Static, Slot}
use Rattle.run_history.specs.declared.act.Op.{Op}
use Rattle.run_history.specs.declared.act.Op.TheVariants as op
use Rattle.run_history.specs.Recorded.{Recorded, NamesRightly}
use Rattle.history_file.specs.declared.head.Head.{Head}
use Rattle.history_file.specs.declared.kind.Kind.{Kind}
use Rattle.history_file.specs.declared.kind.Kind.TheVariants as kind
use Rattle.history_file.specs.Kinds.{code_of, kind_with, kind_of, fewest, may_have, named_count}
use Rattle.history_file.specs.Spelling.{word, words, head_word, magic, place_extra, extra, count_of, fields, act_bytes}
use Rattle.history_file.specs.Spelling.{history_bytes, IsNumber, FitsOp, Fits, AreTold}
use Rattle.history_file.specs.Reading.{Read, both, word_at, number_at, exactly, head_with, is_head, head_of_kind, head_in}
use Rattle.history_file.specs.Reading.{or_left, head_at, op_at, act_at, header_at, file_in, history_in}
use Rattle.history_file.proofs.Codecs.{Takes, Takes-then, takes_none, IsCodec, word_codec}
use Rattle.history_file.proofs.Joined.{made_codec}
use Rattle.history_file.proofs.Parts.{number_codec, exactly_codec, both_codec, two_words}
use Rattle.history_file.proofs.Operations.{sized, IsCount, op_takes, op_again}

-- ---- many of a kind

-- so many that fit
abbrev pub AreMany : {A : Type 0} → (A → Type 0) → ℕ → List A → Type 0
AreMany F n xs = (length xs ≡ n) × AllByRecursion F xs

module _ {A : Type 0} (read : Read A) (spell : A → List ℕ) (F : A → Type 0) (codec : IsCodec read spell F) where
  many_takes : (n : ℕ) (bytes : List ℕ) (x : List A × List ℕ) → IsBytes bytes → many_from read n bytes ≡ Ok x
      → Takes bytes (flat_map spell x.0) x.1 × AreMany F n x.0
  unfolding many_from
  many_takes zero bytes x fits e =
      subst (λ (y : List A × List ℕ). Takes bytes (flat_map spell y.0) y.1 × AreMany F 0 y.0) (ok_is ℕ ([], bytes) x e)
      (takes_none bytes fits, (refl, tt))
  many_takes (suc n) bytes x fits e =
      let a = bind_ok (read bytes) (λ first. many_from read n first.1 >>= λ others. Ok (first.0 ∷ others.0, others.1)) x e in
      let b = bind_ok (many_from read n a.0.1) (λ others. Ok (a.0.0 ∷ others.0, others.1)) x a.2 in
      let s = codec.takes bytes a.0 fits a.1 in
      let t = many_takes n a.0.1 b.0 s.0.rest_fits b.1 in
      let made : List A × List ℕ = (a.0.0 ∷ b.0.0, b.0.1) in
      subst (λ (y : List A × List ℕ). Takes bytes (flat_map spell y.0) y.1 × AreMany F (suc n) y.0) (ok_is ℕ made x b.2)
      (Takes-then bytes (spell a.0.0) a.0.1 (flat_map spell b.0.0) b.0.1 s.0 t.0, (ap suc t.1.0, (s.1, t.1.1)))

  many_again : (xs : List A) (rest : List ℕ) → AllByRecursion F xs
      → many_from read (length xs) (flat_map spell xs ++ rest) ≡ Ok (xs, rest)
  unfolding many_from
  many_again [] rest fits = refl
  many_again (x ∷ xs) rest fits =
      ap (many_from read (suc (length xs))) (append_assoc (spell x) (flat_map spell xs) rest)
      ∙ rw (codec.again x (flat_map spell xs ++ rest) fits.0, many_again xs rest fits.1) refl

  pub many_codec : (n : ℕ) → IsCodec (many_from read n) (flat_map spell) (AreMany F n)
  many_codec n = record {
    takes = many_takes n;
    again = λ xs rest fits. ap (λ (k : ℕ). many_from read k (flat_map spell xs ++ rest)) (sym fits.0)
        ∙ many_again xs rest fits.1;
  }

-- ---- heads

or_left_ok : (left : ℕ) (o : Option Head) (h : Head) → or_left left o ≡ Ok h → o ≡ Some h
or_left_ok left None h e = absurd cc
or_left_ok left (Some g) h e = ap (λ (x : Head). Some x) (ok_is ℕ g h e)

abbrev IsHeadOf : ℕ → Head → Type 0
IsHeadOf w h = (head_word (code_of h.kind) h.thread h.words ≡ w) × (may_have h.kind h.words ≡ true) × (h.thread < 64)

chosen : (b : Bool) (x y : Head) → cond b (Some x) None ≡ Some y → (b ≡ true) × (x ≡ y)
chosen false x y e = absurd cc
chosen true x y e = let same : x ≡ y = cc in (refl, same)

head_found : (w : ℕ) (o : Option Kind) (h : Head) → head_of_kind w o ≡ Some h → IsHeadOf w h
head_found w None h e = absurd cc
head_found w (Some k) h e =
    let g = chosen (is_head (head_with k w) w) (head_with k w) h e in
    let p = and_parts (may_have k (w / 2 ^ 32)) (eqb (head_word (code_of k) (w / 256 % 64) (w / 2 ^ 32)) w) g.0 in
    subst (IsHeadOf w) g.1 (eqb-true _ w p.1, p.0, omega arith)

head_takes : (bytes : List ℕ) (x : Head × List ℕ) → IsBytes bytes → head_at bytes ≡ Ok x
    → Takes bytes (word (head_word (code_of x.0.kind) x.0.thread x.0.words)) x.1
    × ((may_have x.0.kind x.0.words ≡ true) × (x.0.thread < 64))
unfolding head_at
head_takes bytes x fits e =
    let a = bind_ok (word_at bytes) (λ w. or_left (length bytes) (head_in w.0) >>= λ head. Ok (head, w.1)) x e in
    let b = bind_ok (or_left (length bytes) (head_in a.0.0)) (λ head. Ok (head, a.0.1)) x a.2 in
    let t = word_codec.takes bytes a.0 fits a.1 in
    let f = head_found a.0.0 (kind_with (a.0.0 % 256)) b.0 (or_left_ok (length bytes) (head_in a.0.0) b.0 b.1) in
    let made : Head × List ℕ = (b.0, a.0.1) in
    subst (λ (y : Head × List ℕ). Takes bytes (word (head_word (code_of y.0.kind) y.0.thread y.0.words)) y.1
    × ((may_have y.0.kind y.0.words ≡ true) × (y.0.thread < 64))) (ok_is ℕ made x b.2)
    (subst (λ (k : ℕ). Takes bytes (word k) a.0.1) (sym f.0) t.0, (f.1, f.2))

kind_again : (k : Kind) → kind_with (code_of k) ≡ Some k
kind_again kind.Pause = refl
kind_again kind.Alloc = refl
kind_again kind.Read = refl
kind_again kind.Stored = refl
kind_again kind.Length = refl
kind_again kind.Class = refl
kind_again kind.Same = refl
kind_again kind.Enter = refl
kind_again kind.Exit = refl
kind_again kind.Start = refl
kind_again kind.Join = refl
kind_again kind.Init = refl
kind_again kind.Print = refl
kind_again kind.Throw = refl
kind_again kind.Begin = refl
kind_again kind.End = refl
kind_again kind.Ended = refl
kind_again kind.Asked = refl
kind_again kind.Joined = refl
kind_again kind.Guarded = refl
kind_again kind.Closing = refl
kind_again kind.Fenced = refl

code_small : (k : Kind) → code_of k < 256
code_small kind.Pause = omega arith
code_small kind.Alloc = omega arith
code_small kind.Read = omega arith
code_small kind.Stored = omega arith
code_small kind.Length = omega arith
code_small kind.Class = omega arith
code_small kind.Same = omega arith
code_small kind.Enter = omega arith
code_small kind.Exit = omega arith
code_small kind.Start = omega arith
code_small kind.Join = omega arith
code_small kind.Init = omega arith
code_small kind.Print = omega arith
code_small kind.Throw = omega arith
code_small kind.Begin = omega arith
code_small kind.End = omega arith
code_small kind.Ended = omega arith
code_small kind.Asked = omega arith
code_small kind.Joined = omega arith
code_small kind.Guarded = omega arith
code_small kind.Closing = omega arith
code_small kind.Fenced = omega arith

head_again : (k : Kind) (t c : ℕ) (rest : List ℕ) → t < 64 → c < 2 ^ 32 → may_have k c ≡ true
    → head_at (word (head_word (code_of k) t c) ++ rest) ≡ Ok (record { kind = k; thread = t; words = c }, rest)
unfolding head_at
head_again k t c rest small few may =
    let w = head_word (code_of k) t c in
    let h : Head = record { kind = k; thread = t; words = c } in
    let code = code_small k in
    let low : w % 256 ≡ code_of k = omega (arith, code, few, small) in
    let middle : w / 256 % 64 ≡ t = omega (arith, code, few, small) in
    let high : w / 2 ^ 32 ≡ c = omega (arith, code, few, small) in
    let big : w < 2 ^ 64 = omega (arith, code, few, small) in
    let same : head_with k w ≡ h = ap (λ (n : ℕ). record { kind = k; thread = n; words = w / 2 ^ 32 }) middle ∙ ap (λ
    (n : ℕ). record { kind = k; thread = t; words = n }) high in
    let is : is_head h w ≡ true = and_from (may_have k c) (eqb w w) may (eq-eqb w w refl) in
    let found : head_in w ≡ Some h =
    ap (head_of_kind w) (ap kind_with low ∙ kind_again k) ∙ ap (λ (g : Head). cond (is_head g w) (Some g) None) same
    ∙ rw is refl in
    rw (word_codec.again w rest big, found) refl

-- ---- acts

head_few : (k : Kind) (c : ℕ) → may_have k c ≡ true → c < 2 ^ 32
head_few kind.Pause c may = omega (arith, (sized kind.Pause c may).1)
head_few kind.Alloc c may = omega (arith, (sized kind.Alloc c may).1)
head_few kind.Read c may = omega (arith, (sized kind.Read c may).1)
head_few kind.Stored c may = omega (arith, (sized kind.Stored c may).1)
head_few kind.Length c may = omega (arith, (sized kind.Length c may).1)
head_few kind.Class c may = omega (arith, (sized kind.Class c may).1)
head_few kind.Same c may = omega (arith, (sized kind.Same c may).1)
head_few kind.Enter c may = omega (arith, (sized kind.Enter c may).1)
head_few kind.Exit c may = omega (arith, (sized kind.Exit c may).1)
head_few kind.Start c may = omega (arith, (sized kind.Start c may).1)
head_few kind.Join c may = omega (arith, (sized kind.Join c may).1)
head_few kind.Init c may = omega (arith, (sized kind.Init c may).1)
head_few kind.Print c may = omega (arith, (sized kind.Print c may).1)
head_few kind.Throw c may = omega (arith, (sized kind.Throw c may).1)
head_few kind.Begin c may = omega (arith, (sized kind.Begin c may).1)
head_few kind.End c may = omega (arith, (sized kind.End c may).1)
head_few kind.Ended c may = omega (arith, (sized kind.Ended c may).1)
head_few kind.Asked c may = omega (arith, (sized kind.Asked c may).1)
head_few kind.Joined c may = omega (arith, (sized kind.Joined c may).1)
head_few kind.Guarded c may = omega (arith, (sized kind.Guarded c may).1)
head_few kind.Closing c may = omega (arith, (sized kind.Closing c may).1)
head_few kind.Fenced c may = omega (arith, (sized kind.Fenced c may).1)

abbrev NamesFor : Kind → List ℕ → Type 0
NamesFor kind.Joined named = Unit {0}
NamesFor other named = named ≡ []

rightly : (o : Op) (named : List ℕ) → (nothing : NamesFor (kind_of o) named) → NamesRightly o named
rightly op.Pause named e = e
rightly (op.Alloc object shape slots) named e = e
rightly (op.Read place value) named e = e
rightly (op.Stored place value) named e = e
rightly (op.Length object slots) named e = e
rightly (op.Class object shape) named e = e
rightly (op.Same same) named e = e
rightly (op.Enter key) named e = e
rightly (op.Exit key) named e = e
rightly (op.Start object child) named e = e
rightly (op.Join object) named e = e
rightly (op.Init class is) named e = e
rightly (op.Print bytes) named e = e
rightly (op.Throw object class) named e = e
rightly op.Begin named e = e
rightly op.End named e = e
rightly (op.Ended uncaught) named e = e
rightly (op.Asked place value) named e = e
rightly op.Joined named e = tt
rightly (op.Guarded place) named e = e
rightly op.Closing named e = e
rightly op.Fenced named e = e

names_for : (k : Kind) (words : ℕ) (named : List ℕ) → length named ≡ named_count k words → NamesFor k named
names_for kind.Pause words named e = nil_from_length named e
names_for kind.Alloc words named e = nil_from_length named e
names_for kind.Read words named e = nil_from_length named e
names_for kind.Stored words named e = nil_from_length named e
names_for kind.Length words named e = nil_from_length named e
names_for kind.Class words named e = nil_from_length named e
names_for kind.Same words named e = nil_from_length named e
names_for kind.Enter words named e = nil_from_length named e
names_for kind.Exit words named e = nil_from_length named e
names_for kind.Start words named e = nil_from_length named e
names_for kind.Join words named e = nil_from_length named e
names_for kind.Init words named e = nil_from_length named e
names_for kind.Print words named e = nil_from_length named e
names_for kind.Throw words named e = nil_from_length named e
names_for kind.Begin words named e = nil_from_length named e
names_for kind.End words named e = nil_from_length named e
names_for kind.Ended words named e = nil_from_length named e
names_for kind.Asked words named e = nil_from_length named e
names_for kind.Joined words named e = tt
names_for kind.Guarded words named e = nil_from_length named e
names_for kind.Closing words named e = nil_from_length named e
names_for kind.Fenced words named e = nil_from_length named e

count_few : (k : Kind) (words : ℕ) → words < 2 ^ 32 → named_count k words ≤ 2 ^ 32 - 4
count_few kind.Pause words lt = omega (arith, lt)
count_few kind.Alloc words lt = omega (arith, lt)
count_few kind.Read words lt = omega (arith, lt)
count_few kind.Stored words lt = omega (arith, lt)
count_few kind.Length words lt = omega (arith, lt)
count_few kind.Class words lt = omega (arith, lt)
count_few kind.Same words lt = omega (arith, lt)
count_few kind.Enter words lt = omega (arith, lt)
count_few kind.Exit words lt = omega (arith, lt)
count_few kind.Start words lt = omega (arith, lt)
count_few kind.Join words lt = omega (arith, lt)
count_few kind.Init words lt = omega (arith, lt)
count_few kind.Print words lt = omega (arith, lt)
count_few kind.Throw words lt = omega (arith, lt)
count_few kind.Begin words lt = omega (arith, lt)
count_few kind.End words lt = omega (arith, lt)
count_few kind.Ended words lt = omega (arith, lt)
count_few kind.Asked words lt = omega (arith, lt)
count_few kind.Joined words lt = omega (arith, lt)
count_few kind.Guarded words lt = omega (arith, lt)
count_few kind.Closing words lt = omega (arith, lt)
count_few kind.Fenced words lt = omega (arith, lt)

is_count : (o : Op) (named : List ℕ) → NamesRightly o named → length named ≤ 2 ^ 32 - 4 → IsCount (kind_of o) (length named)
is_count op.Pause named e few = ap length e
is_count (op.Alloc object shape slots) named e few = ap length e
is_count (op.Read place value) named e few = ap length e
is_count (op.Stored place value) named e few = ap length e
is_count (op.Length object slots) named e few = ap length e
is_count (op.Class object shape) named e few = ap length e
is_count (op.Same same) named e few = ap length e
is_count (op.Enter key) named e few = ap length e
is_count (op.Exit key) named e few = ap length e
is_count (op.Start object child) named e few = ap length e
is_count (op.Join object) named e few = ap length e
is_count (op.Init class is) named e few = ap length e
is_count (op.Print bytes) named e few = ap length e
is_count (op.Throw object class) named e few = ap length e
is_count op.Begin named e few = ap length e
is_count op.End named e few = ap length e
is_count (op.Ended uncaught) named e few = ap length e
is_count (op.Asked place value) named e few = ap length e
is_count op.Joined named e few = few
is_count (op.Guarded place) named e few = ap length e
is_count op.Closing named e few = ap length e
is_count op.Fenced named e few = ap length e

numbers_many : (n : ℕ) → IsCodec (many_from number_at n) words (AreMany IsNumber n)
numbers_many n = many_codec number_at word IsNumber number_codec n

text_is : (w v at : ℕ) (f g rest : List ℕ) → w ≡ v → f ≡ g
    → words (w ∷ at ∷ []) ++ (f ++ rest) ≡ word v ++ (word at ++ (g ++ rest))
text_is w v at f g rest same other =
    ap (λ (l : List ℕ). l ++ (f ++ rest)) (two_words w at) ∙ append_assoc (word w) (word at) (f ++ rest)
    ∙ ap (λ (k : ℕ). word k ++ (word at ++ (f ++ rest))) same ∙ ap (λ (l : List ℕ). word v ++ (word at ++ (l ++ rest))) other

act_takes : (bytes : List ℕ) (x : Recorded × List ℕ) → IsBytes bytes → act_at bytes ≡ Ok x
    → Takes bytes (act_bytes x.0) x.1 × Fits x.0
unfolding act_at
act_takes bytes x fits e =
    let a = bind_ok (head_at bytes) (λ head. word_at head.1 >>= λ at. op_at head.0.kind head.0.words at.1 >>=
    λ o. many_from number_at (named_count head.0.kind head.0.words) o.1 >>= λ named. Ok
    (record { act = record { thread = head.0.thread; at = at.0; op = o.0 }; named = named.0 }, named.1)) x e in
    let h = a.0 in
    let b = bind_ok (word_at h.1) (λ at. op_at h.0.kind h.0.words at.1 >>= λ o. many_from number_at
    (named_count h.0.kind h.0.words) o.1 >>= λ named. Ok
    (record { act = record { thread = h.0.thread; at = at.0; op = o.0 }; named = named.0 }, named.1)) x a.2 in
    let at = b.0 in
    let c = bind_ok (op_at h.0.kind h.0.words at.1) (λ o. many_from number_at (named_count h.0.kind h.0.words) o.1 >>=
    λ named. Ok (record { act = record { thread = h.0.thread; at = at.0; op = o.0 }; named = named.0 }, named.1)) x b.2 in
    let o = c.0 in
    let d = bind_ok (many_from number_at (named_count h.0.kind h.0.words) o.1) (λ named. Ok
    (record { act = record { thread = h.0.thread; at = at.0; op = o.0 }; named = named.0 }, named.1)) x c.2 in
    let ns = d.0 in
    let th = head_takes bytes h fits a.1 in
    let tw = word_codec.takes h.1 at th.0.rest_fits b.1 in
    let to = op_takes h.0.kind h.0.words (sized h.0.kind h.0.words th.1.0) at.1 o tw.0.rest_fits c.1 in
    let tn = (numbers_many (named_count h.0.kind h.0.words)).takes o.1 ns to.takes.rest_fits d.1 in
    let r : Recorded = record { act = record { thread = h.0.thread; at = at.0; op = o.0 }; named = ns.0 } in
    let nc = named_count h.0.kind h.0.words in
    let w = head_word (code_of h.0.kind) h.0.thread h.0.words in
    let count : count_of r ≡ h.0.words =
    ap (λ (k : Kind). fewest k + extra o.0 + length ns.0) to.kind_is ∙ ap (λ
    (n : ℕ). fewest h.0.kind + extra o.0 + n) tn.1.0 ∙ to.size in
    let is_word : head_word (code_of (kind_of o.0)) h.0.thread (count_of r) ≡ w =
    ap (λ (k : Kind). head_word (code_of k) h.0.thread (count_of r)) to.kind_is ∙ ap (head_word
    (code_of h.0.kind) h.0.thread) count in
    let text = text_is (head_word (code_of (kind_of o.0)) h.0.thread (count_of r)) w at.0 (fields o.0 (length ns.0))
    (fields o.0 nc) (words ns.0) is_word (ap (fields o.0) tn.1.0) in
    let t3 = Takes-then at.1 (fields o.0 nc) o.1 (words ns.0) ns.1 to.takes tn.0 in
    let t2 = Takes-then h.1 (word at.0) at.1 (fields o.0 nc ++ words ns.0) ns.1 tw.0 t3 in
    let t1 = Takes-then bytes (word w) h.1 (word at.0 ++ (fields o.0 nc ++ words ns.0)) ns.1 th.0 t2 in
    let few = head_few h.0.kind h.0.words th.1.0 in
    let names : NamesFor (kind_of o.0) ns.0 = subst (λ (k : Kind). NamesFor k ns.0) (sym to.kind_is)
    (names_for h.0.kind h.0.words ns.0 tn.1.0) in
    let good : Fits r = record {
      thread = th.1.1;
      at = tw.1;
      op = to.fits;
      rightly = rightly o.0 ns.0 names;
      few = omega (arith, tn.1.0, count_few h.0.kind h.0.words few);
      named = All-from_recursion IsNumber ns.0 tn.1.1;
    } in
    subst (λ (y : Recorded × List ℕ). Takes bytes (act_bytes y.0) y.1 × Fits y.0) (ok_is ℕ (r, ns.1) x d.2)
    (subst (λ (t : List ℕ). Takes bytes t ns.1) (sym text) t1, good)

place_small : (p : Place) → place_extra p ≤ 1
place_small (Static n) = omega arith
place_small (Slot object index) = omega arith

may_count : (o : Op) (named : List ℕ) → FitsOp o → IsCount (kind_of o) (length named)
    → may_have (kind_of o) (fewest (kind_of o) + extra o + length named) ≡ true
may_count op.Pause named fits count = and_from (leb 2 (2 + 0 + length named)) (leb (2 + 0 + length named) 2) (le-leb 2
    (2 + 0 + length named) (omega (arith, count))) (le-leb (2 + 0 + length named) 2 (omega (arith, count)))
may_count (op.Alloc object shape slots) named fits count = and_from (leb 5 (5 + 0 + length named)) (leb
    (5 + 0 + length named) 5) (le-leb 5 (5 + 0 + length named) (omega (arith, count))) (le-leb (5 + 0 + length named) 5
    (omega (arith, count)))
may_count (op.Read place value) named fits count = and_from (leb 6 (6 + place_extra place + length named)) (leb
    (6 + place_extra place + length named) 7) (le-leb 6 (6 + place_extra place + length named) (omega
    (arith, count, place_small place))) (le-leb (6 + place_extra place + length named) 7 (omega
    (arith, count, place_small place)))
may_count (op.Stored place value) named fits count = and_from (leb 6 (6 + place_extra place + length named)) (leb
    (6 + place_extra place + length named) 7) (le-leb 6 (6 + place_extra place + length named) (omega
    (arith, count, place_small place))) (le-leb (6 + place_extra place + length named) 7 (omega
    (arith, count, place_small place)))
may_count (op.Length object slots) named fits count = and_from (leb 4 (4 + 0 + length named)) (leb
    (4 + 0 + length named) 4) (le-leb 4 (4 + 0 + length named) (omega (arith, count))) (le-leb (4 + 0 + length named) 4
    (omega (arith, count)))
may_count (op.Class object shape) named fits count = and_from (leb 4 (4 + 0 + length named)) (leb (4 + 0 + length named) 4)
    (le-leb 4 (4 + 0 + length named) (omega (arith, count))) (le-leb (4 + 0 + length named) 4 (omega (arith, count)))
may_count (op.Same same) named fits count = and_from (leb 3 (3 + 0 + length named)) (leb (3 + 0 + length named) 3)
    (le-leb 3 (3 + 0 + length named) (omega (arith, count))) (le-leb (3 + 0 + length named) 3 (omega (arith, count)))
may_count (op.Enter key) named fits count = and_from (leb 4 (4 + 0 + length named)) (leb (4 + 0 + length named) 4)
    (le-leb 4 (4 + 0 + length named) (omega (arith, count))) (le-leb (4 + 0 + length named) 4 (omega (arith, count)))
may_count (op.Exit key) named fits count = and_from (leb 4 (4 + 0 + length named)) (leb (4 + 0 + length named) 4) (le-leb 4
    (4 + 0 + length named) (omega (arith, count))) (le-leb (4 + 0 + length named) 4 (omega (arith, count)))
may_count (op.Start object child) named fits count = and_from (leb 4 (4 + 0 + length named)) (leb (4 + 0 + length named) 4)
    (le-leb 4 (4 + 0 + length named) (omega (arith, count))) (le-leb (4 + 0 + length named) 4 (omega (arith, count)))
may_count (op.Join object) named fits count = and_from (leb 3 (3 + 0 + length named)) (leb (3 + 0 + length named) 3)
    (le-leb 3 (3 + 0 + length named) (omega (arith, count))) (le-leb (3 + 0 + length named) 3 (omega (arith, count)))
may_count (op.Init class is) named fits count = and_from (leb 4 (4 + 0 + length named)) (leb (4 + 0 + length named) 4)
    (le-leb 4 (4 + 0 + length named) (omega (arith, count))) (le-leb (4 + 0 + length named) 4 (omega (arith, count)))
may_count (op.Print bytes) named fits count = and_from (leb 4 (4 + ((length bytes + 7) / 8 - 1) + length named)) (leb (4 +
    ((length bytes + 7) / 8 - 1) + length named) 6) (le-leb 4 (4 + ((length bytes + 7) / 8 - 1) + length named) (omega
    (arith, count, fits.0.0, fits.0.1))) (le-leb (4 + ((length bytes + 7) / 8 - 1) + length named) 6 (omega
    (arith, count, fits.0.0, fits.0.1)))
may_count (op.Throw object class) named fits count = and_from (leb 4 (4 + 0 + length named)) (leb (4 + 0 + length named) 4)
    (le-leb 4 (4 + 0 + length named) (omega (arith, count))) (le-leb (4 + 0 + length named) 4 (omega (arith, count)))
may_count op.Begin named fits count = and_from (leb 2 (2 + 0 + length named)) (leb (2 + 0 + length named) 2) (le-leb 2
    (2 + 0 + length named) (omega (arith, count))) (le-leb (2 + 0 + length named) 2 (omega (arith, count)))
may_count op.End named fits count = and_from (leb 2 (2 + 0 + length named)) (leb (2 + 0 + length named) 2) (le-leb 2
    (2 + 0 + length named) (omega (arith, count))) (le-leb (2 + 0 + length named) 2 (omega (arith, count)))
may_count (op.Ended uncaught) named fits count = and_from (leb 3 (3 + 0 + length named)) (leb (3 + 0 + length named) 3)
    (le-leb 3 (3 + 0 + length named) (omega (arith, count))) (le-leb (3 + 0 + length named) 3 (omega (arith, count)))
may_count (op.Asked place value) named fits count = and_from (leb 6 (6 + place_extra place + length named)) (leb
    (6 + place_extra place + length named) 7) (le-leb 6 (6 + place_extra place + length named) (omega
    (arith, count, place_small place))) (le-leb (6 + place_extra place + length named) 7 (omega
    (arith, count, place_small place)))
may_count op.Joined named fits count = and_from (leb 3 (3 + 0 + length named)) (leb (3 + 0 + length named) (2 ^ 32 - 1))
    (le-leb 3 (3 + 0 + length named) (omega (arith, count))) (le-leb (3 + 0 + length named) (2 ^ 32 - 1) (omega
    (arith, count)))
may_count (op.Guarded place) named fits count = and_from (leb 4 (4 + place_extra place + length named)) (leb
    (4 + place_extra place + length named) 5) (le-leb 4 (4 + place_extra place + length named) (omega
    (arith, count, place_small place))) (le-leb (4 + place_extra place + length named) 5 (omega
    (arith, count, place_small place)))
may_count op.Closing named fits count = and_from (leb 2 (2 + 0 + length named)) (leb (2 + 0 + length named) 2) (le-leb 2
    (2 + 0 + length named) (omega (arith, count))) (le-leb (2 + 0 + length named) 2 (omega (arith, count)))
may_count op.Fenced named fits count = and_from (leb 2 (2 + 0 + length named)) (leb (2 + 0 + length named) 2) (le-leb 2
    (2 + 0 + length named) (omega (arith, count))) (le-leb (2 + 0 + length named) 2 (omega (arith, count)))

count_named : (o : Op) (named : List ℕ) → NamesRightly o named
    → named_count (kind_of o) (fewest (kind_of o) + extra o + length named) ≡ length named
count_named op.Pause named e = sym (ap length e)
count_named (op.Alloc object shape slots) named e = sym (ap length e)
count_named (op.Read place value) named e = sym (ap length e)
count_named (op.Stored place value) named e = sym (ap length e)
count_named (op.Length object slots) named e = sym (ap length e)
count_named (op.Class object shape) named e = sym (ap length e)
count_named (op.Same same) named e = sym (ap length e)
count_named (op.Enter key) named e = sym (ap length e)
count_named (op.Exit key) named e = sym (ap length e)
count_named (op.Start object child) named e = sym (ap length e)
count_named (op.Join object) named e = sym (ap length e)
count_named (op.Init class is) named e = sym (ap length e)
count_named (op.Print bytes) named e = sym (ap length e)
count_named (op.Throw object class) named e = sym (ap length e)
count_named op.Begin named e = sym (ap length e)
count_named op.End named e = sym (ap length e)
count_named (op.Ended uncaught) named e = sym (ap length e)
count_named (op.Asked place value) named e = sym (ap length e)
count_named op.Joined named e = omega arith
count_named (op.Guarded place) named e = sym (ap length e)
count_named op.Closing named e = sym (ap length e)
count_named op.Fenced named e = sym (ap length e)

act_again : (r : Recorded) (rest : List ℕ) → Fits r → act_at (act_bytes r ++ rest) ≡ Ok (r, rest)
unfolding act_at
act_again r rest good =
    let o = r.act.op in
    let k = kind_of o in
    let n = length r.named in
    let c = count_of r in
    let counted = is_count o r.named good.rightly good.few in
    let may = may_count o r.named good.op counted in
    let w = head_word (code_of k) r.act.thread c in
    let tail = fields o n ++ words r.named in
    let text : act_bytes r ++ rest ≡ word w ++ (word r.act.at ++ (fields o n ++ (words r.named ++ rest))) =
    ap (λ (l : List ℕ). l ++ rest) (text_is w w r.act.at (fields o n) (fields o n) (words r.named) refl refl)
    ∙ append_assoc (word w) (word r.act.at ++ tail) rest ∙ ap (λ (l : List ℕ). word w ++ l) (append_assoc
    (word r.act.at) tail rest
    ∙ ap (λ (l : List ℕ). word r.act.at ++ l) (append_assoc (fields o n) (words r.named) rest)) in
    let head = head_again k r.act.thread c (word r.act.at ++ (fields o n ++ (words r.named ++ rest))) good.thread
    (head_few k c may) may in
    let at = word_codec.again r.act.at (fields o n ++ (words r.named ++ rest)) good.at in
    let body = op_again o n (words r.named ++ rest) good.op counted in
    let names : many_from number_at (named_count k c) (words r.named ++ rest) ≡ Ok (r.named, rest) =
    (numbers_many (named_count k c)).again r.named rest (
      sym
          (count_named o r.named good.rightly),
      recursion_from_All IsNumber r.named good.named,
    ) in
    ap act_at text ∙ rw (head, at, body, names) refl

act_codec : IsCodec act_at act_bytes Fits
act_codec = record { takes = act_takes; again = act_again }

-- ---- the file

abbrev header_text : ℕ × ℕ → List ℕ
header_text x = words (magic ∷ 1 ∷ x.0 ∷ x.1 ∷ [])

header_codec : IsCodec header_at header_text (λ x. IsNumber x.0 × (x.1 < 2 ^ 64))
unfolding header_at
header_codec =
    made_codec (both (exactly magic) (both (exactly 1) (both number_at word_at)))
    (λ x. word x.0 ++ (word x.1.0 ++ (word x.1.1.0 ++ word x.1.1.1)))
    (λ x. (x.0 ≡ magic) × ((x.1.0 ≡ 1) × (IsNumber x.1.1.0 × (x.1.1.1 < 2 ^ 64)))) header_text (λ x. IsNumber x.0 ×
    (x.1 < 2 ^ 64))
    (λ x. x.1.1) (λ x. (magic, (1, x)))
    (both_codec (exactly magic) (both (exactly 1) (both number_at word_at)) word (λ x. word x.0 ++ (word x.1.0 ++ word x.1.1))
    (λ n. n ≡ magic) (λ x. (x.0 ≡ 1) × (IsNumber x.1.0 × (x.1.1 < 2 ^ 64))) (exactly_codec magic (omega arith))
    (both_codec (exactly 1) (both number_at word_at) word (λ x. word x.0 ++ word x.1) (λ n. n ≡ 1) (λ x. IsNumber x.0 ×
    (x.1 < 2 ^ 64))
    (exactly_codec 1 (omega arith)) (both_codec number_at word_at word word IsNumber
    (λ n. n < 2 ^ 64) number_codec word_codec)))
    (λ x fits. (
      ap (λ (l : List ℕ). word magic ++ (word 1 ++ l)) (two_words x.1.1.0 x.1.1.1)
          ∙ ap (λ (k : ℕ). word k ++ (word 1 ++ (word x.1.1.0 ++ word x.1.1.1))) (sym fits.0)
          ∙ ap (λ (k : ℕ). word x.0 ++ (word k ++ (word x.1.1.0 ++ word x.1.1.1))) (sym fits.1.0),
      fits.1.1,
    ))
    (λ x good. ((refl, (refl, good)), refl))

file_takes : (bytes : List ℕ) (x : List Recorded × ℕ) → IsBytes bytes → file_in bytes ≡ Ok x
    → AreTold x.0 x.1 × (bytes ≡ history_bytes x.0 x.1)
unfolding file_in
file_takes bytes x fits e =
    let a = bind_ok (header_at bytes) (λ header. many_from act_at header.0.0 header.1 >>= λ acts. cond (eqb
    (length acts.1) 0) (Ok (acts.0, header.0.1)) (Err (length acts.1))) x e in
    let h = a.0 in
    let b = bind_ok (many_from act_at h.0.0 h.1) (λ acts. cond (eqb (length acts.1) 0) (Ok (acts.0, h.0.1)) (Err
    (length acts.1))) x a.2 in
    let found = b.0 in
    let g = where_ok (eqb (length found.1) 0) (length found.1) (found.0, h.0.1) x b.2 in
    let th = header_codec.takes bytes h fits a.1 in
    let ta = (many_codec act_at act_bytes Fits act_codec h.0.0).takes h.1 found th.0.rest_fits b.1 in
    let nothing : found.1 ≡ [] = nil_from_length found.1 (eqb-true (length found.1) 0 g.0) in
    let all = Takes-then bytes (header_text h.0) h.1 (flat_map act_bytes found.0) found.1 th.0 ta.0 in
    let whole : bytes ≡ history_bytes found.0 h.0.1 =
    all.parts ∙ ap (λ (l : List ℕ). (header_text h.0 ++ flat_map act_bytes found.0) ++ l) nothing
    ∙ append-nil (header_text h.0 ++ flat_map act_bytes found.0)
    ∙ ap (λ (n : ℕ). header_text (n, h.0.1) ++ flat_map act_bytes found.0) (sym ta.1.0) in
    let told : AreTold found.0 h.0.1 = record {
      few = omega (arith, ta.1.0, th.1.0);
      kept = th.1.1;
      each = All-from_recursion Fits found.0 ta.1.1;
    } in
    subst (λ (y : List Recorded × ℕ). AreTold y.0 y.1 × (bytes ≡ history_bytes y.0 y.1)) g.1 (told, whole)

file_again : (acts : List Recorded) (keep : ℕ) → AreTold acts keep → file_in (history_bytes acts keep) ≡ Ok (acts, keep)
unfolding file_in
file_again acts keep told =
    let body = flat_map act_bytes acts in
    let header = header_codec.again (length acts, keep) body (told.few, told.kept) in
    let all : many_from act_at (length acts) body ≡ Ok (acts, []) =
    ap (many_from act_at (length acts)) (sym (append-nil body))
    ∙ (many_codec act_at act_bytes Fits act_codec (length acts)).again acts [] (refl, recursion_from_All Fits acts told.each) in
    rw (header, all) refl

pub read_is_written : (bytes : List ℕ) (acts : List Recorded) (keep : ℕ) → IsBytes bytes → history_in bytes ≡ Ok (acts, keep)
    → AreTold acts keep × (history_bytes acts keep ≡ bytes)
read_is_written bytes acts keep fits e =
    let t = file_takes bytes (acts, keep) fits (placed_ok (λ left. (length bytes - left) / 8) (file_in bytes) (acts, keep) e) in
    (t.0, sym t.1)

pub written_is_read : (acts : List Recorded) (keep : ℕ) → AreTold acts keep → history_in (history_bytes acts keep) ≡ Ok
    (acts, keep)
written_is_read acts keep told =
    ap (placed (λ left. (length (history_bytes acts keep) - left) / 8)) (file_again acts keep told)
