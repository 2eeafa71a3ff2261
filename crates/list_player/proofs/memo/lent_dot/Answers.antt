use Rattle.list_player.proofs.memo.lent_dot.Goals as goal

pub returns-in-Some-clause-value : goal.returns-in-Some-clause-value
returns-in-Some-clause-value g c = c.in-Some.ensures _ c.requires.memo
