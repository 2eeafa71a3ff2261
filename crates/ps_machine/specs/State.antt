-- The state of the interpreter (PostScript Language Reference, third edition, 3.4 Stacks, and 4.2 Graphics State).
use Rattle.std.specs.Prelude.{ℕ, ◌-◌, List, [], ◌∷◌, length, drop, Option, None}
use Rattle.ps_scan.specs.Place.{ScannerValue}
use Rattle.ps_store.specs.declared.obj.Obj.{Obj}
use Rattle.ps_store.specs.Store.{StoreValue}
use Rattle.ps_flow.specs.declared.level.Level.{Level}
use Rattle.ps_flow.specs.Levels.{guarded_in}
use Rattle.gfx_state.specs.Graphics.{GfxValue, opening as blank}
use Rattle.ps_machine.specs.declared.frames.Frame.{Frame}
use Rattle.ps_machine.specs.Setup.{SetupValue, first_size}

-- the state of the interpreter: operands, store, dictionary stack, levels (of which the text is none), what operators
-- keep that wait for a procedure, an object to be executed before the next one, what the text has left, its procedures
-- that aren't closed, the graphics, and how many objects were executed
pub record BodyValue : Type 0 where
  -- the operands, the top first
  pub operands : List Obj
  -- the strings, arrays and dictionaries that were made
  pub store : StoreValue
  -- the numbers of the dictionaries on the dictionary stack, the top first
  pub dicts : List ℕ
  -- the levels of the execution stack, the innermost first
  pub levels : List Level
  -- what each operator keeps that called a guarded procedure among the levels, the innermost first
  pub frames : List Frame
  -- an object that is to be executed before the next one
  pub at_once : Option Obj
  -- what the program's text has left
  pub text : ScannerValue
  -- the elements of each procedure of the text that isn't closed yet, the innermost first
  pub unclosed : List (List Obj)
  -- the graphics state and the marks of the page
  pub graphics : GfxValue
  -- how many objects were executed
  pub count : ℕ

-- the state at the start of a program: systemdict has the operators, and userdict is empty
abbrev pub opening : StoreValue → List ℕ → SetupValue → BodyValue
opening store text setup = record {
  operands = [];
  store = store;
  dicts = 1 ∷ 0 ∷ [];
  levels = [];
  frames = [];
  at_once = None;
  text = record { depth = 0; rest = text };
  unclosed = [];
  graphics = blank (first_size setup);
  count = 0;
}

-- The frames of the operators that called the guarded procedures among these levels: of all frames the outermost, as
-- many as are guarded.
abbrev pub frames_of : List Level → List Frame → List Frame
frames_of levels frames = drop (length frames - guarded_in levels) frames

-- the state with the levels cut back to these: an operator whose procedure is taken away goes with it
abbrev pub cut_back_to : List Level → BodyValue → BodyValue
cut_back_to levels s = record s { levels = levels; frames = frames_of levels s.frames }
