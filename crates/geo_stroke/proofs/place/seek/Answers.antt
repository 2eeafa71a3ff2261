use Rattle.geo_stroke.proofs.PlaceLemmas.{ahead_through, cursor_through}
use Rattle.geo_stroke.proofs.place.seek.Goals as goal

pub returns-clause-cursor : goal.returns-clause-cursor
returns-clause-cursor c =
    cursor_through c.args.first c.args.all.now c.args.cursor.here c.args.cursor.rest.now c.args.cursor.passed
    c.advance-way.result.here c.advance-way.result.rest.now c.advance-way.result.passed c.requires.cursor
    c.advance-way.ensures.cursor

pub returns-clause-ahead : goal.returns-clause-ahead
returns-clause-ahead c =
    ahead_through c.args.first c.args.all.now c.args.cursor.here c.args.cursor.rest.now c.args.cursor.passed
    c.advance-way.result.here c.advance-way.result.rest.now c.advance-way.result.passed c.args.distance
    (c.requires.cursor.ahead c.args.distance c.if-distance-cursor.false) c.advance-way.ensures.ahead
