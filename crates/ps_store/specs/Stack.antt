-- The operand stack, its top first (PostScript Language Reference, third edition, 3.4 Stacks).
use Rattle.std.specs.Prelude.{ℕ, Bool, true, false, List, ◌++◌, take, drop}
use Rattle.ps_store.specs.declared.obj.Obj.{Obj}
use Rattle.ps_store.specs.declared.obj.Obj.TheVariants.{Mark}

-- the top n operands turned round: the first j of them go below the others
abbrev pub rolled : ℕ → ℕ → List Obj → List Obj
rolled n j operands = drop j (take n operands) ++ (take j operands ++ drop n operands)

-- whether an object is a mark
abbrev pub is_mark : Obj → Bool
is_mark Mark = true
is_mark o = false
