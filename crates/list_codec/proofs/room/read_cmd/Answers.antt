use Rattle.std.proofs.Common.{◌≡◌, ℕ, zero, suc, List, [], ◌∷◌, take, inr}
use Rattle.std.specs.Prelude.{Result, Ok, Err, OnErr}
use Rattle.page_model.specs.declared.shape.Shape.{Shape}
use Rattle.list_codec.specs.declared.cmd.Brief.{Brief}
use Rattle.list_codec.specs.declared.cmd.Brief.TheVariants.{Flat, Clip, Draw, Image, Mask}
use Rattle.list_codec.specs.Command.{brief_value}
use Rattle.list_codec.specs.Spelling.{cmd_bytes, rule_byte, shapes_bytes}
use Rattle.list_codec.specs.Lists.{IsFront, TellsParts}
use Rattle.list_codec.specs.Code.Reading.{IsDraw}
use Rattle.list_codec.proofs.room.read_cmd.Goals as goal

-- bytes that begin with 3 tell shapes
three : (bytes others : List ℕ) (count : ℕ) → take count bytes ≡ 3 ∷ others → TellsParts bytes
three [] others zero e = absurd cc
three [] others (suc count) e = absurd cc
three (b ∷ bytes) others zero e = absurd cc
three (b ∷ bytes) others (suc count) e = inr (cc)

-- the first byte of a command that paints shapes tells them
draw_tells : (bytes : List ℕ) (read : Brief) (shapes : List Shape) (count : ℕ) → IsDraw read
    → IsFront bytes (brief_value read shapes) count → TellsParts bytes
unfolding cmd_bytes
draw_tells bytes (Flat ink) shapes count draws front = absurd draws
draw_tells bytes (Clip clip) shapes count draws front = absurd draws
draw_tells bytes (Draw rule) shapes count draws front =
    three bytes (rule_byte rule ∷ shapes_bytes shapes) count front.spelled
draw_tells bytes (Image index) shapes count draws front = absurd draws
draw_tells bytes (Mask index) shapes count draws front = absurd draws

-- what holds at all holds where it failed
on_err_always : {T E P : Type 0} (r : Result T E) → P → OnErr r P
on_err_always (Ok done) holds = tt
on_err_always (Err e) holds = holds

pub returns-in_err-whole-clause-memory : goal.returns-in_err-whole-clause-memory
returns-in_err-whole-clause-memory c =
    on_err_always c.from_residual-in_err-whole.result
    (draw_tells c.args.bytes.now c.in-Some.brief _ c.in-Some.count c.in_err-whole.ensures.memory
    (rw c.in-Some.is at c.in_ok-brief.ensures.found))
