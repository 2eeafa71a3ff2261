-- All operators fill systemdict.
use Rattle.std.proofs.Common.{◌≡◌, ◌∙◌, ◌<◌, ◌+◌, ℕ, List, length, take, get_or, sym, ap, refl, subst}
use Rattle.std.proofs.lemmas.List.Sums.{fold_more}
use Rattle.ps_store.specs.declared.oper.Oper.{Oper}
use Rattle.ps_store.specs.Operators.{operators_built}
use Rattle.ps_store.specs.Store.{StoreValue}
use Rattle.ps_machine.specs.Opening.{opening_store}
use Rattle.ps_machine.specs.Code.Filling.{two_empty, with_operator, with_operators}

-- systemdict, with the operators defined one after the other, is the one that a program finds
pub filled : with_operators operators_built ≡ opening_store
unfolding opening_store
filled = refl

-- one operator more
pub one_more : (items : List Oper) (i : ℕ) (d : Oper) (before after : StoreValue) → items ≡ operators_built →
    i < length items → before ≡ with_operators (take i operators_built) →
    after ≡ with_operator before (get_or items i d) → after ≡ with_operators (take (i + 1) operators_built)
one_more items i d before after same lt is then =
    then ∙ (ap (λ s. with_operator s (get_or items i d)) is
    ∙ (ap (λ ops. with_operator (with_operators (take i operators_built)) (get_or ops i d)) same
    ∙ sym (fold_more with_operator two_empty operators_built i d
    (subst (λ (ops : List Oper). i < length ops) same lt))))
