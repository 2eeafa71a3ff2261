use Rattle.std.proofs.Common.{◌≡◌, subst, rules}
use Rattle.std.specs.Prelude.{ℤ, ◌+ℤ◌}
use Rattle.img_map.specs.Code.Carried.{IsDivided}
use Rattle.img_map.proofs.carried.next_at.Goals as goal

pub returns : goal.returns
returns c =
    let same : c.map.inside.den ≡ c.args.image.now.map.den = search rules in
    subst (λ (d : ℤ). (n g : ℤ) → IsDivided n d c.args.at.now → IsDivided g d c.args.step.now →
    IsDivided (n +ℤ g) d c.carried.result) same c.carried.ensures
