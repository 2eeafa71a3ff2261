-- How images are read (PostScript Language Reference, third edition, 4.10.5 Image Dictionaries: DataSource; 8.2
-- Operator Details: image). Own rules: a procedure is called with the operands removed, until enough bytes came or it
-- leaves an empty string; each call counts; what is refused once bytes have come leaves what was done until then.
use Rattle.std.specs.Prelude.{ℕ, ◌==◌, ◌||◌, List, [], ◌∷◌, length, drop, Option, Some, None, nat_lt, if◌then◌else◌}
use Rattle.press_fault.specs.declared.names.PsName.TheVariants.{TypeCheck, LimitCheck, ExecStackOverflow}
use Rattle.ps_store.specs.declared.obj.Obj.{Obj}
use Rattle.ps_store.specs.declared.obj.Obj.TheVariants.{Text}
use Rattle.ps_store.specs.declared.oper.Oper.TheVariants.{Image as OnImage}
use Rattle.ps_store.specs.Operators.{name_of}
use Rattle.ps_store.specs.Outcome.{Outcome, Goes as GoesOn, Refuses}
use Rattle.ps_store.specs.Parts.{PartValue}
use Rattle.ps_store.specs.Store.{bytes_of}
use Rattle.ps_flow.specs.declared.level.Level.TheVariants.{Guarded}
use Rattle.gfx_state.specs.Graphics.{GfxValue}
use Rattle.ps_image_ops.specs.declared.parameters.DataSource.{DataSource}
use Rattle.ps_image_ops.specs.declared.parameters.DataSource.TheVariants.{Bytes, Program, Procedure}
use Rattle.ps_image_ops.specs.declared.reading.Begun.{Begun}
use Rattle.ps_image_ops.specs.Reading.{ReadingValue, lacks, read_on, read_over, placed}
use Rattle.ps_machine.specs.declared.frames.Frame.{Frame}
use Rattle.ps_machine.specs.declared.frames.Frame.TheVariants.{Image}
use Rattle.ps_machine.specs.State.{BodyValue}
use Rattle.ps_machine.specs.Errors.{StepOutcome, Goes, failed, counted}

-- the page with an image, and these operands; limitcheck, with all as it is, where it has no room
abbrev pub after_placed : Option GfxValue → ReadingValue → List Obj → BodyValue → StepOutcome
after_placed (Some g) r operands s = Goes (record s { operands = operands; graphics = g })
after_placed None r operands s = failed LimitCheck (name_of (OnImage r.op)) s

-- an image whose data have come is painted, and these operands are left
abbrev pub finished : ReadingValue → List Obj → BodyValue → StepOutcome
finished r operands s = after_placed (placed r s.graphics) r operands s

-- The procedure of an image is called, and these operands are left; execstackoverflow, with all as it is, where 250
-- levels are open. The call counts.
abbrev pub called : ReadingValue → PartValue → List Obj → BodyValue → StepOutcome
called r p operands s =
    if nat_lt (length s.levels) 250
    then counted s (λ t. Goes (record t {
      operands = operands;
      levels = Guarded p ∷ t.levels;
      frames = Image p r ∷ t.frames;
    }))
    else failed ExecStackOverflow (name_of (OnImage r.op)) s

-- the text behind so many bytes
abbrev pub behind_bytes : ℕ → BodyValue → BodyValue
behind_bytes n s = record s { text = record { depth = s.text.depth; rest = drop n s.text.rest } }

-- an image reads from its source: a string and the text give their bytes at once, a procedure is called
abbrev pub from_source : DataSource → ReadingValue → List Obj → BodyValue → StepOutcome
from_source (Bytes p) r operands s = finished (read_over r (bytes_of s.store p)) operands s
from_source Program r operands s = finished (read_on r s.text.rest) operands (behind_bytes (lacks r) s)
from_source (Procedure p) r operands s = called r p operands s

-- an image that begins, with these operands left: one without samples reads nothing
abbrev pub begins : Begun → List Obj → BodyValue → StepOutcome
begins begun operands s =
    if lacks begun.reading == 0 then finished begun.reading operands s
    else from_source begun.source begun.reading operands s

-- the state by what an image operator begins, or its error, with its name as the command
abbrev pub after_image : Outcome Begun → List ℕ → BodyValue → StepOutcome
after_image (GoesOn begun) command s = begins begun (drop begun.operands s.operands) s
after_image (Refuses name) command s = failed name command s

-- an image with the bytes that its procedure left: painted where they were none, or where it takes no more, else the
-- procedure is called again
abbrev pub reads_on : ReadingValue → PartValue → List ℕ → List Obj → BodyValue → StepOutcome
reads_on r p bytes operands s =
    if (length bytes == 0) || (lacks (read_on r bytes) == 0)
    then finished (read_on r bytes) operands s
    else called (read_on r bytes) p operands s

-- an image whose procedure has ended: the string on top gives its bytes and goes; typecheck where there is none
abbrev pub after_procedure : ReadingValue → PartValue → List Obj → BodyValue → StepOutcome
after_procedure r p (Text q ∷ rest) s = reads_on r p (bytes_of s.store q) rest s
after_procedure r p operands s = failed TypeCheck (name_of (OnImage r.op)) s

-- the operator goes on that called the procedure which has ended: the innermost that waits
unfoldable pub returned : List Frame → BodyValue → StepOutcome
returned [] s = Goes s
returned (Image p r ∷ frames) s = after_procedure r p s.operands (record s { frames = frames })
