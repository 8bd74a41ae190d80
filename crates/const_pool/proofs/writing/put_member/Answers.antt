use Rattle.std.proofs.Common.{◌≡◌, ℕ, List, ◌++◌, Result, OnOk, ap, ◌∙◌, append_assoc}
use Rattle.std.proofs.lemmas.Result.{on_ok_weaker}
use Rattle.const_pool.specs.Entry.{index_bytes}
use Rattle.const_pool.proofs.writing.put_member.Goals as goal

both_put : {T E : Type 0} (r : Result T E) (old mid new first second : List ℕ) → mid ≡ old ++ first
    → OnOk r (new ≡ mid ++ second) → OnOk r (new ≡ old ++ (first ++ second))
both_put r old mid new first second one two =
    on_ok_weaker r (λ e. e ∙ ap (λ (l : List ℕ). l ++ second) one ∙ append_assoc old first second) two

pub returns : goal.returns
returns c =
    both_put c.put_u16-2.result c.args.out.now.items c.put_u16.new.out.items c.put_u16-2.new.out.items
    (index_bytes c.args.member.now.class) (index_bytes c.args.member.now.name_and_type)
    c.in_ok-put_u16.ensures c.put_u16-2.ensures
