-- The input tables of a lut, taken from tables of all codes.
use Rattle.std.proofs.Common.{◌≡◌, ◌∙◌, ℕ, ◌<◌, ◌≤◌, List, [], ◌∷◌, slice_index, take, length, ap, subst, sym, refl}
use Rattle.std.proofs.Common.{arith}
use Rattle.std.specs.Prelude.{slice_index_or}
use Rattle.press_fault.specs.Plane.{CodeValue, IsCode}
use Rattle.icc_tables.specs.Lattice.{LutValue, through_tables, top_of}
use Rattle.icc_model.specs.Direct.{entered}
use Rattle.link_build.specs.Code.Entries.{EntriesValue, IsTableOf, IsEntriesOf, value_of_code}
use Rattle.link_build.specs.Code.Prepared.{AreBytes}
use Rattle.link_build.specs.Code.Way.{code_of_one}

-- an entry is what its channel's table gives the code
entry_is : (lut : LutValue) (channel code x : ℕ) (table : List ℕ) → IsTableOf lut channel 256 table → code < 256 →
    x ≡ slice_index table code → x ≡ value_of_code lut channel code
entry_is lut channel code x table h m e = e ∙ h.each code m

-- and no more than the greatest value
pub entry_most : (lut : LutValue) (channel code x : ℕ) (table : List ℕ) → IsTableOf lut channel 256 table →
    code < 256 → x ≡ slice_index table code → x ≤ top_of lut.wide
entry_most lut channel code x table h m e = subst (λ (n : ℕ). n ≤ top_of lut.wide) (sym e) (h.most code m)

three_alike : (a b c x y z : ℕ) → a ≡ x → b ≡ y → c ≡ z → (a ∷ b ∷ c ∷ []) ≡ (x ∷ y ∷ z ∷ [])
three_alike a b c x y z d e f = ap (λ (n : ℕ). n ∷ b ∷ c ∷ []) d
    ∙ (ap (λ (n : ℕ). x ∷ n ∷ c ∷ []) e ∙ ap (λ (n : ℕ). x ∷ y ∷ n ∷ []) f)

four_alike : (a b c d x y z w : ℕ) → a ≡ x → b ≡ y → c ≡ z → d ≡ w →
    (a ∷ b ∷ c ∷ d ∷ []) ≡ (x ∷ y ∷ z ∷ w ∷ [])
four_alike a b c d x y z w e f g h = ap (λ (l : List ℕ). a ∷ l) (three_alike b c d y z w f g h)
    ∙ ap (λ (n : ℕ). n ∷ y ∷ z ∷ w ∷ []) e

-- three entries are the point of a code of three channels
pub three_entries : (lut : LutValue) (entries : EntriesValue) (a b c d x y z : ℕ) → IsEntriesOf lut entries →
    a < 256 → b < 256 → c < 256 → x ≡ slice_index entries.first a → y ≡ slice_index entries.second b →
    z ≡ slice_index entries.third c →
    (x ∷ y ∷ z ∷ []) ≡ through_tables lut.wide lut.before lut.before_count 0
    (entered lut.wide (take 3 (a ∷ b ∷ c ∷ d ∷ [])))
three_entries lut entries a b c d x y z h l m n e f g = three_alike x y z _ _ _
    (entry_is lut 0 a x entries.first h.first l e) (entry_is lut 1 b y entries.second h.second m f)
    (entry_is lut 2 c z entries.third h.third n g)

-- four entries are the point of a code of four channels
pub four_entries : (lut : LutValue) (entries : EntriesValue) (a b c d x y z w : ℕ) → lut.inputs ≡ 4 →
    IsEntriesOf lut entries → a < 256 → b < 256 → c < 256 → d < 256 → x ≡ slice_index entries.first a →
    y ≡ slice_index entries.second b → z ≡ slice_index entries.third c → w ≡ slice_index entries.fourth d →
    (x ∷ y ∷ z ∷ w ∷ []) ≡ through_tables lut.wide lut.before lut.before_count 0
    (entered lut.wide (take 4 (a ∷ b ∷ c ∷ d ∷ [])))
four_entries lut entries a b c d x y z w four h l m n o e f g i = four_alike x y z w _ _ _ _
    (entry_is lut 0 a x entries.first h.first l e) (entry_is lut 1 b y entries.second h.second m f)
    (entry_is lut 2 c z entries.third h.third n g) (entry_is lut 3 d w entries.fourth (h.fourth four) o i)

-- the point of a code of four channels
pub four_point : (lut : LutValue) (entries : EntriesValue) (n : ℕ) (code : List ℕ) (x y z w : ℕ) → n ≡ 4 →
    length code ≡ 4 → lut.inputs ≡ 4 → IsEntriesOf lut entries → AreBytes code →
    x ≡ slice_index entries.first (slice_index code 0) → y ≡ slice_index entries.second (slice_index code 1) →
    z ≡ slice_index entries.third (slice_index code 2) → w ≡ slice_index entries.fourth (slice_index code 3) →
    (x ∷ y ∷ z ∷ w ∷ []) ≡ through_tables lut.wide lut.before lut.before_count 0 (entered lut.wide (take n code))
four_point lut entries n (a ∷ b ∷ c ∷ d ∷ []) x y z w four all inputs h bytes e f g i =
    rw four (four_entries lut entries a b c d x y z w inputs h bytes.first bytes.second bytes.third bytes.fourth
    e f g i)
four_point lut entries n [] x y z w four all inputs h bytes e f g i = absurd (omega (arith, all))
four_point lut entries n (a ∷ []) x y z w four all inputs h bytes e f g i = absurd (omega (arith, all))
four_point lut entries n (a ∷ b ∷ []) x y z w four all inputs h bytes e f g i = absurd (omega (arith, all))
four_point lut entries n (a ∷ b ∷ c ∷ []) x y z w four all inputs h bytes e f g i = absurd (omega (arith, all))
four_point lut entries n (a ∷ b ∷ c ∷ d ∷ o ∷ more) x y z w four all inputs h bytes e f g i =
    absurd (omega (arith, all))

-- a code of these parts
abbrev made : ℕ → List ℕ → CodeValue
made n c = record { n = n; c = c }

-- a code of one channel is that of its first value
pub one_is : (code : CodeValue) (n : ℕ) (c : List ℕ) → made n c ≡ code → IsCode n c → code.n ≡ 1 → length c ≡ 4 →
    code ≡ code_of_one (slice_index_or c 0 0)
one_is code n (v ∷ x ∷ y ∷ z ∷ []) view is one all =
    let count : n ≡ 1 = ap (λ (p : CodeValue). p.n) view ∙ one in
    sym view ∙ (ap (λ (m : ℕ). made m (v ∷ x ∷ y ∷ z ∷ [])) count
    ∙ ap (λ (l : List ℕ). made 1 l) (four_alike v x y z v 0 0 0 refl (is.unused 1 (omega (arith, count)))
    (is.unused 2 (omega (arith, count))) (is.unused 3 (omega (arith, count)))))
one_is code n [] view is one all = absurd (omega (arith, all))
one_is code n (v ∷ []) view is one all = absurd (omega (arith, all))
one_is code n (v ∷ x ∷ []) view is one all = absurd (omega (arith, all))
one_is code n (v ∷ x ∷ y ∷ []) view is one all = absurd (omega (arith, all))
one_is code n (v ∷ x ∷ y ∷ z ∷ w ∷ more) view is one all = absurd (omega (arith, all))
