-- What a link prepares of a profile gives what the profile gives.
use Rattle.std.proofs.Common.{◌≡◌, ◌∙◌, ℕ, ◌<◌, List, [], ◌∷◌, slice_index, Option, Some, None, arith, sym, ap}
use Rattle.std.specs.Prelude.{ℤ, pos, ◌*ℤ◌, unsigned_abs, Bool}
use Rattle.std.proofs.lemmas.Int.{ints}
use Rattle.press_nums.specs.Rounding.{div_round_signed}
use Rattle.press_fault.specs.Plane.{CodeValue}
use Rattle.icc_tables.specs.Rounded.{clamped}
use Rattle.icc_tables.specs.Curves.{CurveValue, curve_back}
use Rattle.icc_tables.specs.Pcs.{PcsValue}
use Rattle.icc_model.specs.Profile.{ProfileValue, chosen}
use Rattle.icc_model.specs.Direct.{source_of, source_by, target_of, target_by, matrix_source, matrix_target, solved}
use Rattle.icc_model.specs.Direct.{column, curve_of, linear_of, returned, dot}
use Rattle.icc_model.specs.declared.profile.Base.{Base}
use Rattle.icc_model.specs.declared.profile.Base.TheVariants.{Matrix, Gray}
use Rattle.icc_model.specs.declared.profile.Intent.{Intent}
use Rattle.icc_model.specs.declared.profile.Transform.{Transform}
use Rattle.link_build.specs.Code.Prepared.{MixtureValue, AreBytes, IsMixtureOf, mixture_of, share_at, share_of, xyz_of}
use Rattle.link_build.specs.Code.Prepared.{InverseValue, IsInverseOf, IsBackOf, inverted}
use Rattle.link_build.specs.Code.Way.{IsMixtureOfBase, IsInverseOfBase}

xyz_alike : (r s g h b c : PcsValue) → r ≡ s → g ≡ h → b ≡ c → xyz_of r g b ≡ xyz_of s h c
xyz_alike r s g h b c d e f =
    ap (λ (z : PcsValue). xyz_of z g b) d
    ∙ (ap (λ (z : PcsValue). xyz_of s z b) e ∙ ap (λ (z : PcsValue). xyz_of s h z) f)

mixture_is : (columns : List ℤ) (curves : List CurveValue) (shares : MixtureValue) (code : List ℕ) →
    IsMixtureOf columns curves shares → AreBytes code → mixture_of shares code ≡ matrix_source columns curves code
mixture_is columns curves shares code h bytes =
    xyz_alike (share_at shares.red (slice_index code 0))
    (share_of (column columns 0) (linear_of (curve_of curves 0) (slice_index code 0)))
    (share_at shares.green (slice_index code 1))
    (share_of (column columns 1) (linear_of (curve_of curves 1) (slice_index code 1)))
    (share_at shares.blue (slice_index code 2))
    (share_of (column columns 2) (linear_of (curve_of curves 2) (slice_index code 2)))
    (h.red.each _ bytes.first) (h.green.each _ bytes.second) (h.blue.each _ bytes.third)

of_base : (base : Option Base) (lab : Bool) (shares : MixtureValue) (code : CodeValue) → IsMixtureOfBase base shares →
    AreBytes code.c → mixture_of shares code.c ≡ source_by None base lab code
of_base (Some (Matrix columns curves)) lab shares code h bytes = mixture_is columns curves shares code.c h bytes
of_base (Some (Gray curve)) lab shares code h bytes = absurd h
of_base None lab shares code h bytes = absurd h

-- the shares of a profile give its connection space
pub source_is : (profile : ProfileValue) (intent : Intent) (shares : MixtureValue) (code : CodeValue) →
    chosen profile.forward intent ≡ None → IsMixtureOfBase profile.base shares → AreBytes code.c →
    mixture_of shares code.c ≡ source_of profile intent code
unfolding source_of
source_is profile intent shares code none h bytes =
    of_base profile.base profile.lab shares code h bytes
    ∙ sym (ap (λ (t : Option Transform). source_by t profile.base profile.lab code) none)

-- a linear value has 16 bits
linear_small : (n : ℤ) → unsigned_abs (clamped (pos 0) (pos 65535) n) < 65536
linear_small n = grind (arith, ints)

back_alike : (codes : List ℕ) (curve : CurveValue) (a b : ℕ) → IsBackOf curve codes → a ≡ b → b < 65536 →
    slice_index codes a ≡ curve_back curve b
back_alike codes curve a b h e m = ap (slice_index codes) e ∙ h.each b m

solved_alike : (d e : ℤ) (r s xyz : PcsValue) → d ≡ e → r ≡ s →
    unsigned_abs (solved d r xyz) ≡ unsigned_abs (solved e s xyz)
solved_alike d e r s xyz f g =
    ap (λ (z : ℤ). unsigned_abs (solved z r xyz)) f ∙ ap (λ (z : PcsValue). unsigned_abs (solved e z xyz)) g

three_alike : (a b c x y z : ℕ) → a ≡ x → b ≡ y → c ≡ z → (a ∷ b ∷ c ∷ []) ≡ (x ∷ y ∷ z ∷ [])
three_alike a b c x y z d e f = ap (λ (n : ℕ). n ∷ b ∷ c ∷ []) d
    ∙ (ap (λ (n : ℕ). x ∷ n ∷ c ∷ []) e ∙ ap (λ (n : ℕ). x ∷ y ∷ n ∷ []) f)

channel_is : (codes : List ℕ) (curve : CurveValue) (d e : ℤ) (r s xyz : PcsValue) → IsBackOf curve codes → d ≡ e →
    r ≡ s → slice_index codes (unsigned_abs (solved d r xyz)) ≡ returned curve (solved e s xyz)
channel_is codes curve d e r s xyz h f g = back_alike codes curve (unsigned_abs (solved d r xyz))
    (unsigned_abs (solved e s xyz)) h (solved_alike d e r s xyz f g)
    (linear_small (div_round_signed (dot s xyz *ℤ pos 65535) e))

inverse_is : (columns : List ℤ) (curves : List CurveValue) (i : InverseValue) (xyz : PcsValue) →
    IsInverseOf columns curves i → inverted i xyz ≡ matrix_target columns curves xyz
inverse_is columns curves i xyz h = three_alike _ _ _ _ _ _
    (channel_is i.red (curve_of curves 0) i.det _ i.red_row _ xyz h.red h.det h.red_row)
    (channel_is i.green (curve_of curves 1) i.det _ i.green_row _ xyz h.green h.det h.green_row)
    (channel_is i.blue (curve_of curves 2) i.det _ i.blue_row _ xyz h.blue h.det h.blue_row)

to_base : (base : Option Base) (lab : Bool) (i : InverseValue) (xyz : PcsValue) → IsInverseOfBase base i →
    inverted i xyz ≡ target_by None base lab xyz
to_base (Some (Matrix columns curves)) lab i xyz h = inverse_is columns curves i xyz h
to_base (Some (Gray curve)) lab i xyz h = absurd h
to_base None lab i xyz h = absurd h

-- the inverse of a profile gives its values
pub target_is : (profile : ProfileValue) (intent : Intent) (i : InverseValue) (xyz : PcsValue) →
    chosen profile.backward intent ≡ None → IsInverseOfBase profile.base i →
    inverted i xyz ≡ target_of profile intent xyz
unfolding target_of
target_is profile intent i xyz none h = to_base profile.base profile.lab i xyz h
    ∙ sym (ap (λ (t : Option Transform). target_by t profile.base profile.lab xyz) none)
