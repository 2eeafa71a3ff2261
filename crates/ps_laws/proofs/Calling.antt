-- The state in which the procedure of an image runs.
use Rattle.std.specs.Prelude.{List, ◌∷◌}
use Rattle.ps_store.specs.declared.obj.Obj.{Obj}
use Rattle.ps_store.specs.Parts.{PartValue}
use Rattle.ps_flow.specs.declared.level.Level.TheVariants.{Guarded}
use Rattle.ps_image_ops.specs.Reading.{ReadingValue}
use Rattle.ps_machine.specs.declared.frames.Frame.TheVariants.{Image}
use Rattle.ps_machine.specs.State.{BodyValue}

-- with a level and a frame more, and these operands
abbrev pub with_call : ReadingValue → PartValue → List Obj → BodyValue → BodyValue
with_call r p operands s = record s {
  operands = operands;
  levels = Guarded p ∷ s.levels;
  frames = Image p r ∷ s.frames;
}
