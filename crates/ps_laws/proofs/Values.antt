-- Operators that work out values: a value that is no composite, or one of their operands.
use Rattle.std.specs.Prelude.{ℤ, pos, int_lt}
use Rattle.std.specs.declared.cmp.Ordering.{Ordering}
use Rattle.std.specs.Option.{option_map}
use Rattle.std.proofs.Common.{ℕ, Bool, Option, Some, None, Result, Ok, Err}
use Rattle.press_fault.specs.declared.names.PsName.{PsName}
use Rattle.press_nums.specs.Fix.{fix_root_of, quotient_of}
use Rattle.geo_matrix.specs.Sine.{sine_of, cosine_of}
use Rattle.ps_store.specs.declared.obj.Obj.{Obj}
use Rattle.ps_store.specs.declared.obj.Obj.TheVariants.{Bool as Truth, Int, Real}
use Rattle.ps_store.specs.Numbers.{raw_of, raw_of_whole}
use Rattle.ps_stack_ops.specs.Numbers.{pair_of, of_pair, integer, real}
use Rattle.ps_stack_ops.specs.Arithmetic.{add_value, sub_value, mul_value, quotient, div_value, idiv_value, mod_value}
use Rattle.ps_stack_ops.specs.Arithmetic.{neg_value, abs_value, ceiling_value, floor_value, round_value, truncate_value}
use Rattle.ps_stack_ops.specs.Arithmetic.{square_root, sqrt_value, as_real, sin_value, cos_value, cvi_value, cvr_value}
use Rattle.ps_stack_ops.specs.Comparison.{tested}
use Rattle.ps_stack_ops.specs.Logic.{and_value, or_value, xor_value, not_value, bitshift_value}
use Rattle.ps_laws.specs.Stored.{IsOf}
use Rattle.ps_laws.proofs.Operands.{by_test}

-- the value is of every store
abbrev pub IsPlain : ℕ → Result Obj PsName → Type 0
IsPlain m (Ok o) = IsOf m o
IsPlain m (Err name) = Unit {0}

plain_integer : (m : ℕ) (n : Option ℤ) → IsPlain m (integer n)
plain_integer m (Some n) = tt
plain_integer m None = tt

plain_real : (m : ℕ) (x : Option ℤ) → IsPlain m (real x)
plain_real m (Some x) = tt
plain_real m None = tt

plain_pair : (m : ℕ) (wholes fixes : ℤ → ℤ → Option ℤ) (a b : Obj) → IsPlain m (of_pair wholes fixes (pair_of a b))
plain_pair m wholes fixes (Int a) (Int b) = plain_integer m (wholes a b)
plain_pair m wholes fixes (Int a) (Real b) = plain_real m (fixes (raw_of_whole a) b)
plain_pair m wholes fixes (Real a) (Int b) = plain_real m (fixes a (raw_of_whole b))
plain_pair m wholes fixes (Real a) (Real b) = plain_real m (fixes a b)
plain_pair m wholes fixes a b = tt

plain_as_real : (m : ℕ) (x : Option ℤ) → IsPlain m (as_real x)
plain_as_real m (Some x) = tt
plain_as_real m None = tt

-- a sum is no composite, and so of every store
pub plain_add : (m : ℕ) (a b : Obj) → IsPlain m (add_value a b)
unfolding add_value
plain_add m a b = plain_pair m _ _ a b

-- a difference is no composite, and so of every store
pub plain_sub : (m : ℕ) (a b : Obj) → IsPlain m (sub_value a b)
unfolding sub_value
plain_sub m a b = plain_pair m _ _ a b

-- a product is no composite, and so of every store
pub plain_mul : (m : ℕ) (a b : Obj) → IsPlain m (mul_value a b)
unfolding mul_value
plain_mul m a b = plain_pair m _ _ a b

plain_quotient : (m : ℕ) (a b : Option ℤ) → IsPlain m (quotient a b)
plain_quotient m (Some a) (Some b) = plain_real m (quotient_of a b)
plain_quotient m a b = tt

-- a quotient is no composite, and so of every store
pub plain_div : (m : ℕ) (a b : Obj) → IsPlain m (div_value a b)
unfolding div_value
plain_div m a b = plain_quotient m (raw_of a) (raw_of b)

-- a whole quotient is no composite, and so of every store
pub plain_idiv : (m : ℕ) (a b : Obj) → IsPlain m (idiv_value a b)
unfolding idiv_value
plain_idiv m (Int a) (Int b) = plain_integer m _
plain_idiv m a b = tt

-- a rest is no composite, and so of every store
pub plain_mod : (m : ℕ) (a b : Obj) → IsPlain m (mod_value a b)
unfolding mod_value
plain_mod m (Int a) (Int b) = plain_integer m _
plain_mod m a b = tt

-- a number with the other sign is no composite, and so of every store
pub plain_neg : (m : ℕ) (a : Obj) → IsPlain m (neg_value a)
unfolding neg_value
plain_neg m (Int n) = plain_integer m _
plain_neg m (Real x) = plain_real m _
plain_neg m o = tt

-- a number without sign is no composite, and so of every store
pub plain_abs : (m : ℕ) (a : Obj) → IsPlain m (abs_value a)
unfolding abs_value
plain_abs m (Int n) = plain_integer m _
plain_abs m (Real x) = plain_real m _
plain_abs m o = tt

-- a ceiling is no composite, and so of every store
pub plain_ceiling : (m : ℕ) (a : Obj) → IsPlain m (ceiling_value a)
unfolding ceiling_value
plain_ceiling m (Int n) = tt
plain_ceiling m (Real x) = plain_real m _
plain_ceiling m o = tt

-- a floor is no composite, and so of every store
pub plain_floor : (m : ℕ) (a : Obj) → IsPlain m (floor_value a)
unfolding floor_value
plain_floor m (Int n) = tt
plain_floor m (Real x) = tt
plain_floor m o = tt

-- a rounded number is no composite, and so of every store
pub plain_round : (m : ℕ) (a : Obj) → IsPlain m (round_value a)
unfolding round_value
plain_round m (Int n) = tt
plain_round m (Real x) = plain_real m _
plain_round m o = tt

-- a truncated number is no composite, and so of every store
pub plain_truncate : (m : ℕ) (a : Obj) → IsPlain m (truncate_value a)
unfolding truncate_value
plain_truncate m (Int n) = tt
plain_truncate m (Real x) = tt
plain_truncate m o = tt

plain_root : (m : ℕ) (x : Option ℤ) → IsPlain m (square_root x)
plain_root m (Some x) = by_test (IsPlain m) (int_lt x (pos 0)) (Err _) (Ok (Real (fix_root_of x))) (λ e. tt) (λ e. tt)
plain_root m None = tt

-- a root is no composite, and so of every store
pub plain_sqrt : (m : ℕ) (a : Obj) → IsPlain m (sqrt_value a)
unfolding sqrt_value
plain_sqrt m a = plain_root m (raw_of a)

-- a sine is no composite, and so of every store
pub plain_sin : (m : ℕ) (a : Obj) → IsPlain m (sin_value a)
unfolding sin_value
plain_sin m a = plain_as_real m (option_map sine_of (raw_of a))

-- a cosine is no composite, and so of every store
pub plain_cos : (m : ℕ) (a : Obj) → IsPlain m (cos_value a)
unfolding cos_value
plain_cos m a = plain_as_real m (option_map cosine_of (raw_of a))

-- a number as an integer is no composite, and so of every store
pub plain_cvi : (m : ℕ) (a : Obj) → IsPlain m (cvi_value a)
unfolding cvi_value
plain_cvi m (Int n) = tt
plain_cvi m (Real x) = tt
plain_cvi m o = tt

-- a number as a real is no composite, and so of every store
pub plain_cvr : (m : ℕ) (a : Obj) → IsPlain m (cvr_value a)
unfolding cvr_value
plain_cvr m a = plain_as_real m (raw_of a)

-- a comparison is no composite, and so of every store
pub plain_tested : (m : ℕ) (test : Ordering → Bool) (order : Result Ordering PsName) → IsPlain m (tested test order)
plain_tested m test (Ok order) = tt
plain_tested m test (Err name) = tt

-- `and` of two operands is no composite, and so of every store
pub plain_and : (m : ℕ) (a b : Obj) → IsPlain m (and_value a b)
unfolding and_value
plain_and m (Truth a) (Truth b) = tt
plain_and m (Int a) (Int b) = tt
plain_and m a b = tt

-- `or` of two operands is no composite, and so of every store
pub plain_or : (m : ℕ) (a b : Obj) → IsPlain m (or_value a b)
unfolding or_value
plain_or m (Truth a) (Truth b) = tt
plain_or m (Int a) (Int b) = tt
plain_or m a b = tt

-- `xor` of two operands is no composite, and so of every store
pub plain_xor : (m : ℕ) (a b : Obj) → IsPlain m (xor_value a b)
unfolding xor_value
plain_xor m (Truth a) (Truth b) = tt
plain_xor m (Int a) (Int b) = tt
plain_xor m a b = tt

-- `not` of an operand is no composite, and so of every store
pub plain_not : (m : ℕ) (a : Obj) → IsPlain m (not_value a)
unfolding not_value
plain_not m (Truth a) = tt
plain_not m (Int n) = tt
plain_not m o = tt

-- a shift of bits is no composite, and so of every store
pub plain_bitshift : (m : ℕ) (a b : Obj) → IsPlain m (bitshift_value a b)
unfolding bitshift_value
plain_bitshift m (Int n) (Int places) = tt
plain_bitshift m a b = tt
