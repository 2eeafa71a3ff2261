-- What is asked of the numbers that objects are, asked of the objects.
use Rattle.std.proofs.Common.{◌≡◌, refl, ap, suc, ◌||◌, ◌&&◌, nat_lt, List, [], ◌∷◌, length, map, Some, None}
use Rattle.std.proofs.Common.{if◌then◌else◌}
use Rattle.std.specs.List.{list_any, list_all}
use Rattle.std.proofs.lemmas.List.Folds.{list_all-map}
use Rattle.ps_store.specs.declared.obj.Obj.{Obj}
use Rattle.gfx_state.specs.declared.line_style.DashFault.TheVariants.{RangeCheck, LimitCheck}
use Rattle.gfx_state.specs.Lines.{is_negative, is_zero, dash_fault}
use Rattle.ps_gfx_ops.specs.Lines.{number_in}

as_many : (objects : List Obj) → length (map number_in objects) ≡ length objects
as_many [] = refl
as_many (o ∷ rest) = ap suc (as_many rest)

negative : (objects : List Obj) → list_any is_negative (map number_in objects)
    ≡ list_any (λ o. is_negative (number_in o)) objects
negative [] = refl
negative (o ∷ rest) = ap (λ b. is_negative (number_in o) || b) (negative rest)

-- why the numbers are refused as dashes
pub fault_of_numbers : (objects : List Obj) →
    dash_fault (map number_in objects) ≡ (if list_any (λ o. is_negative (number_in o)) objects
    || (nat_lt 0 (length objects) && list_all (λ o. is_zero (number_in o)) objects) then Some RangeCheck else
    if nat_lt 32 (length objects) then Some LimitCheck else None)
fault_of_numbers objects =
    λ i. if negative objects i || (nat_lt 0 (as_many objects i) && list_all-map is_zero number_in objects i)
    then Some RangeCheck else if nat_lt 32 (as_many objects i) then Some LimitCheck else None
