use Rattle.std.proofs.Common.{ap, ◌∙◌, arith}
use Rattle.std.specs.Int.{w64, from_le_bytes}
use Rattle.ps_store.proofs.Heads.{read_back}
use Rattle.ps_store.proofs.symbol.head_of.Goals as goal

pub returns : goal.returns
returns c = record {
  value = c.from_le_bytes.ensures ∙ ap (from_le_bytes w64) c.first_bytes.ensures;
  bytes = read_back c.args.bytes.now c.first_bytes.result c.from_le_bytes.result
      (λ i. let fits = c.type_inv.bytes i in omega (arith, fits)) c.first_bytes.ensures c.from_le_bytes.ensures;
}
