-- `for` (PostScript Language Reference, third edition, 8.2 Operator Details). Own rules: a step of 0
-- counts upwards, and a sum out of range ends the loop.
use Rattle.std.specs.Prelude.{ℤ, pos, ◌+ℤ◌, Bool, int_lt, Option, Some, None, if◌then◌else◌}
use Rattle.std.specs.Option.{option_map}
use Rattle.press_nums.specs.Fix.{fix_of}
use Rattle.press_nums.specs.Whole.{whole_of}
use Rattle.ps_store.specs.declared.obj.Obj.{Obj}
use Rattle.ps_store.specs.Numbers.{raw_of_whole}
use Rattle.ps_store.specs.declared.obj.Obj.TheVariants.{Int, Real}
use Rattle.ps_flow.specs.declared.counter.Counter.{Counter}
use Rattle.ps_flow.specs.declared.counter.Counter.TheVariants.{Integers, Reals}

-- the control variable of a `for`: an integer where the first value and the step are, else a real number, and none
-- where one of them is no number
abbrev pub counter_from : Obj → Obj → Option Counter
counter_from (Int at) (Int step) = Some (Integers at step)
counter_from (Int at) (Real step) = Some (Reals (raw_of_whole at) step)
counter_from (Real at) (Int step) = Some (Reals at (raw_of_whole step))
counter_from (Real at) (Real step) = Some (Reals at step)
counter_from at step = None

-- the value that a turn pushes
abbrev pub value_of : Counter → Obj
value_of (Integers at step) = Int at
value_of (Reals at step) = Real at

-- past the limit in the step's direction: below it for a step below 0, else above it
abbrev pub passes : ℤ → ℤ → ℤ → Bool
passes at step limit = if int_lt step (pos 0) then int_lt at limit else int_lt limit at

-- whether a value is past a limit in 1/65536
abbrev pub is_past : Counter → ℤ → Bool
is_past (Integers at step) limit = passes (raw_of_whole at) step limit
is_past (Reals at step) limit = passes at step limit

-- the value with the step added, where it is in range
abbrev pub next_of_counter : Counter → Option Counter
next_of_counter (Integers at step) = option_map (λ sum. Integers sum step) (whole_of (at +ℤ step))
next_of_counter (Reals at step) = option_map (λ sum. Reals sum step) (fix_of (at +ℤ step))
