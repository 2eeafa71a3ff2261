use Rattle.std.proofs.Common.{sym, ap, subst, ◌∙◌, ◌≡◌, get_or, is_some, position, slice_set}
use Rattle.cache_wait.proofs.Places.{takes_first}
use Rattle.cache_wait.proofs.seats.take_first.Goals as goal

pub returns-clause-first : goal.returns-clause-first
returns-clause-first g c = let old = c.args.places.now.items in let k = c.in-Some.k in
    let at = ap (position is_some) (sym c.deref.ensures.value) ∙ (sym c.first_full.ensures.first ∙ c.in-Some.is) in
    takes_first c.take.result old (slice_set old k c.take.new.self) k at
    (subst (λ o. o ≡ get_or old k o) (sym c.take.ensures.value) c.index_mut.ensures.value)
    (ap (slice_set old k) c.take.ensures.after)
