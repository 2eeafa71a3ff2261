use Rattle.std.proofs.Common.{◌∙◌, ◌+◌, ap, List, ℕ, length}
use Rattle.icc_tables.specs.Stored.{nodes_of}
use Rattle.icc_tables.proofs.Stored.{nodes_count, same_nodes}
use Rattle.icc_tables.proofs.nodes.nodes_of_tag.Goals as goal

-- they are the same values wherever they are read from
pub returns-clause-items : goal.returns-clause-items
returns-clause-items c = c.new.ensures.value
    ∙ ap (λ (bytes : List ℕ). nodes_of c.args.size bytes (c.args.offset + c.args.at) c.args.count) c.in_ok-share.ensures
    ∙ same_nodes c.args.size c.args.bytes.now c.args.offset c.args.tag.now c.args.at c.args.count c.requires.place
    c.requires.inside

pub returns-clause-length : goal.returns-clause-length
returns-clause-length c = ap (λ (nodes : List ℕ). length nodes) c.new.ensures.value
    ∙ nodes_count c.args.size _ (c.args.offset + c.args.at) c.args.count
