use Rattle.std.proofs.Common.{◌≡◌, true, false, sym}
use Rattle.std.specs.Map.{lookup}
use Rattle.ps_store.specs.declared.key.Key.TheVariants.{Named}
use Rattle.ps_store.specs.Keys.{same_key}
use Rattle.ps_store.specs.Code.Entering.{entries_in_table}
use Rattle.ps_store.proofs.Entered.{skipped, met}
use Rattle.ps_store.proofs.table.Table.look_up_bytes.Goals as goal

pub loop-place-preserved : goal.loop-place-preserved
loop-place-preserved c =
    let key = c.in-Some.key.now in
    let test = same_key (Named c.args.bytes.now) in
    let entries = entries_in_table c.args.self.now in
    let miss : test key ≡ false = cc in
    skipped test entries c.loop-place.place (key, c.in-Some.value.now) (lookup test entries)
    (sym c.in-Some.ensures) miss c.loop-place.invariant

pub returns-then-is_spelled : goal.returns-then-is_spelled
returns-then-is_spelled c =
    let key = c.in-Some.key.now in
    let test = same_key (Named c.args.bytes.now) in
    let entries = entries_in_table c.args.self.now in
    let hit : test key ≡ true = cc in
    met test entries c.loop-place.place (key, c.in-Some.value.now) (lookup test entries)
    (sym c.in-Some.ensures) hit c.loop-place.invariant
