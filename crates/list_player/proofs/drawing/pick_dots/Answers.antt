use Rattle.list_player.proofs.drawing.pick_dots.Goals as goal

pub returns-clause-inside : goal.returns-clause-inside
returns-clause-inside c = λ k n less e. c.picks_are_of_the_image.ensures c.args.image.now c.args.row 0 k n
    c.row_samples.new.out c.row_samples.ensures less e
