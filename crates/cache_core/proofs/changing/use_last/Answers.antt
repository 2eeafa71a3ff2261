use Rattle.std.proofs.Common.{◌≡◌, Some, length, ap, arith}
use Rattle.cache_core.specs.Lookup.{entry_of}
use Rattle.cache_core.proofs.Entries.{shorter}
use Rattle.cache_core.proofs.changing.use_last.Goals as goal

-- what was found is gone, so one more entry has room
pub add-requires : goal.add-requires
add-requires c =
    let found : entry_of c.args.entries.now.items c.args.res ≡ Some c.in-Some.entry =
    (cc (c.in-Some.is, c.copied-last.ensures, c.entry_of.ensures, c.deref.ensures.value)) in
    let less = shorter c.args.res c.args.entries.now.items c.in-Some.entry found in
    let same = ap length c.remove.ensures.items in
    omega (
      arith,
      less,
      same,
      c.remove.new.entries.ok.0,
      c.args.entries.now.ok.0,
      c.args.entries.now.ok.1,
      c.remove.ensures.capacity,
    )
