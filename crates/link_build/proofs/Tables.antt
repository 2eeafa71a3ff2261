-- Tables that are made entry by entry, and curves read backwards at each value.
use Rattle.std.proofs.Common.{◌≡◌, ◌∙◌, ℕ, ◌+◌, ◌^◌, ◌<◌, ◌≤◌, List, [], ◌∷◌, ◌++◌, length, arith}
use Rattle.std.proofs.Common.{sym, ap, subst, false, nat_le, refl, length-append}
use Rattle.std.specs.Prelude.{slice_index_or, pos}
use Rattle.std.proofs.lemmas.Bool.{leb-true, le-leb}
use Rattle.std.proofs.lemmas.List.{get_or_append_left, get_or_push}
use Rattle.proof_words.proofs.Cases.{by_bool, by_le}
use Rattle.icc_tables.specs.Curves.{CurveValue, curve_at, curve_back}
use Rattle.icc_tables.proofs.Tables.{least_is}
use Rattle.icc_tables.specs.Lattice.{LutValue, top_of}
use Rattle.icc_tables.specs.Pcs.{PcsValue}
use Rattle.icc_model.specs.Direct.{AreWithin, linear_of}
use Rattle.link_build.specs.Code.Entries.{IsTableOf, value_of_code}
use Rattle.link_build.specs.Code.Prepared.{AreShares, share_of, IsBackUpTo, IsBackOf}

-- what holds of each entry of a list holds once one more stands behind them
pub each_more : {X : Type 0} (P : ℕ → X → Type 0) (d : X) (xs ys : List X) (x : X) (n : ℕ) → length xs ≡ n →
    ys ≡ xs ++ x ∷ [] → ((k : ℕ) → k < n → P k (slice_index_or xs k d)) → P n x → (k : ℕ) → k < n + 1 →
    P k (slice_index_or ys k d)
each_more {X} P d xs ys x n count more before this k h = by_le n k
    (λ e. let at : k ≡ n = omega (arith, e, h) in
    let last : slice_index_or ys k d ≡ x = ap (λ (l : List X). slice_index_or l k d) more
    ∙ get_or_push xs x d k (count ∙ sym at) in
    subst (λ (z : X). P k z) (sym last) (subst (λ (m : ℕ). P m x) (sym at) this))
    (λ e. let front : slice_index_or ys k d ≡ slice_index_or xs k d =
    ap (λ (l : List X). slice_index_or l k d) more
    ∙ get_or_append_left xs (x ∷ []) d k (omega (arith, e, count)) in
    subst (λ (z : X). P k z) (sym front) (before k e))

missed : (v n : ℕ) → n < v → nat_le v n ≡ false
missed v n h = by_bool (nat_le v n) (λ e. absurd (let a = leb-true v n e in omega (arith, a, h))) (λ e. e)

-- the code that reaches a value with none before it that does is the curve's value read backwards
pub back_is : (curve : CurveValue) (v r : ℕ) → r ≤ 65535 → (r < 65535 → v ≤ curve_at curve r) →
    ((s : ℕ) → s < r → curve_at curve s < v) → r ≡ curve_back curve v
unfolding curve_back
back_is curve v r m f g = sym (least_is (λ code. nat_le v (curve_at curve code)) 65535 r m
    (λ l. le-leb v _ (f l)) (λ s l. missed v _ (g s l)))

-- a list with one element more is one longer
pub pushed_count : {X : Type 0} (xs ys : List X) (x : X) (n : ℕ) → length xs ≡ n → ys ≡ xs ++ x ∷ [] →
    length ys ≡ n + 1
pushed_count {X} xs ys x n h e = ap (λ (l : List X). length l) e
    ∙ (length-append xs (x ∷ []) ∙ ap (λ (m : ℕ). m + 1) h)

-- the shares of one code more
pub shares_more : (column : PcsValue) (curve : CurveValue) (shares : List PcsValue) (x : PcsValue) (n : ℕ) →
    AreShares column curve n shares → x ≡ share_of column (linear_of curve n) → AreWithin (2 ^ 47) x →
    AreShares column curve (n + 1) (shares ++ x ∷ [])
shares_more column curve shares x n h is small = record {
  small = record {
    all = pushed_count shares (shares ++ x ∷ []) x n h.small.all refl;
    small = each_more (λ (k : ℕ) (s : PcsValue). AreWithin (2 ^ 47) s)
        (record { first = pos 0; second = pos 0; third = pos 0 }) shares (shares ++ x ∷ []) x n h.small.all refl
        h.small.small small;
  };
  each = each_more (λ (k : ℕ) (s : PcsValue). s ≡ share_of column (linear_of curve k))
      (record { first = pos 0; second = pos 0; third = pos 0 }) shares (shares ++ x ∷ []) x n h.small.all refl
      h.each is;
}

-- the input table at one code more
pub table_more : (lut : LutValue) (channel : ℕ) (table : List ℕ) (x n : ℕ) → IsTableOf lut channel n table →
    x ≡ value_of_code lut channel n → x ≤ top_of lut.wide → IsTableOf lut channel (n + 1) (table ++ x ∷ [])
table_more lut channel table x n h is most = record {
  all = pushed_count table (table ++ x ∷ []) x n h.all refl;
  each = each_more (λ (k s : ℕ). s ≡ value_of_code lut channel k) 0 table (table ++ x ∷ []) x n h.all refl h.each is;
  most = each_more (λ (k s : ℕ). s ≤ top_of lut.wide) 0 table (table ++ x ∷ []) x n h.all refl h.most most;
}

reached_more : (curve : CurveValue) (code r : ℕ) (codes : List ℕ) → IsBackUpTo curve code codes →
    length codes < 65536 → r ≡ curve_back curve (length codes) → IsBackUpTo curve code (codes ++ r ∷ [])
reached_more curve code r codes h m is =
    let count = pushed_count codes (codes ++ r ∷ []) r (length codes) refl refl in
    record {
      few = omega (arith, count, m);
      each = λ v l. each_more (λ (k x : ℕ). x ≡ curve_back curve k) 0 codes (codes ++ r ∷ []) r (length codes) refl refl
          h.each is v (omega (arith, l, count));
      none = λ s l. let before = h.none s l in omega (arith, before, count);
    }

-- one value more that a code is the first to reach
pub reach_more : (curve : CurveValue) (code : ℕ) (codes : List ℕ) → IsBackUpTo curve code codes → code < 65535 →
    length codes ≤ curve_at curve code → curve_at curve code ≤ 65535 → IsBackUpTo curve code (codes ++ code ∷ [])
reach_more curve code codes h l f g = reached_more curve code code codes h (omega (arith, f, g))
    (back_is curve (length codes) code (omega (arith, l)) (λ m. f) h.none)

-- a code that reaches no value more
pub reach_done : (curve : CurveValue) (code : ℕ) (codes : List ℕ) → IsBackUpTo curve code codes →
    curve_at curve code < length codes → IsBackUpTo curve (code + 1) codes
reach_done curve code codes h l = record {
  few = h.few;
  each = h.each;
  none = λ s m. by_le code s
      (λ e. let at : s ≡ code = omega (arith, e, m) in
      subst (λ (z : ℕ). curve_at curve z < length codes) (sym at) l)
      (λ e. h.none s e);
}

-- one value more that no code but the last reaches
pub fill_more : (curve : CurveValue) (codes : List ℕ) → IsBackUpTo curve 65535 codes → length codes < 65536 →
    IsBackUpTo curve 65535 (codes ++ 65535 ∷ [])
fill_more curve codes h l = reached_more curve 65535 65535 codes h l
    (back_is curve (length codes) 65535 (omega arith) (λ m. absurd (omega (arith, m))) h.none)

-- all values are read
pub fill_done : (curve : CurveValue) (codes : List ℕ) → IsBackUpTo curve 65535 codes → 65536 ≤ length codes →
    IsBackOf curve codes
fill_done curve codes h l = record {
  count = let few = h.few in omega (arith, few, l);
  each = λ v m. h.each v (omega (arith, m, l));
}

-- no value is read yet
pub back_none : (curve : CurveValue) → IsBackUpTo curve 0 []
back_none curve = record {
  few = omega arith;
  each = λ v l. absurd (omega (arith, l));
  none = λ s l. absurd (omega (arith, l));
}
