-- Procedures of the text that aren't closed yet, the innermost first (PostScript Language Reference, third edition, 3.2
-- Syntax, Procedures). Own rule: one element over the limit is enough to refuse them.
use Rattle.std.specs.Prelude.{◌≡◌, List, [], ◌∷◌, ◌++◌, Option, Some, None, reverse, length, nat_lt, if◌then◌else◌}
use Rattle.ps_store.specs.declared.obj.Obj.{Obj}

-- the procedures that aren't closed yet, the innermost first
abbrev pub nested : Option (List Obj) → List (List Obj) → List (List Obj)
nested None outer = []
nested (Some innermost) outer = innermost ∷ reverse outer

-- only where one is open do others stand around it
abbrev pub IsNested : Option (List Obj) → List (List Obj) → Type 0
IsNested None outer = outer ≡ []
IsNested (Some innermost) outer = Unit {0}

-- The elements of a procedure with one more. Own rule: one over 65,535 is enough to refuse the procedure, so no
-- more are kept.
abbrev pub with_element : List Obj → Obj → List Obj
with_element elements o = if nat_lt (length elements) 65536 then elements ++ o ∷ [] else elements

-- the innermost procedure with one more element
abbrev pub with_innermost : List (List Obj) → Obj → List (List Obj)
with_innermost [] o = []
with_innermost (elements ∷ outer) o = with_element elements o ∷ outer
