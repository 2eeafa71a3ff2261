use Rattle.std.proofs.Common.{◌≡◌, ◌∙◌, ◌<◌, min, length, get_or, length-set, refl, arith}
use Rattle.ps_store.proofs.Heads.{whole, front_more, back_more}
use Rattle.ps_store.proofs.symbol.first_bytes.Goals as goal

pub loop-at-preserved : goal.loop-at-preserved
loop-at-preserved c =
    let bytes = c.args.bytes.now in
    let at = c.loop-at.at in
    let byte = get_or bytes at 0 in
    let held = c.loop-at.invariant in
    let within : at < min (length bytes) 8 = omega (arith, c.loop-at-test.true, c.min-at-end.ensures) in (
      front_more bytes c.loop-at.first at byte held.1.1 within refl held.0,
      (back_more c.loop-at.first at byte held.1.0, length-set c.loop-at.first at byte ∙ held.1.1),
    )

pub returns : goal.returns
returns c =
    let held = c.loop-at.invariant in
    let all : c.loop-at.at ≡ min (length c.args.bytes.now) 8 =
    omega (arith, c.loop-at-test.false, c.loop-at.auto.at-end, c.min-at-end.ensures) in
    whole c.args.bytes.now c.loop-at.first c.loop-at.at all held.0 held.1.0
