-- Where codes stand in a table.
use Rattle.std.proofs.Common.{◌≡◌, ◌∙◌, ℕ, ◌+◌, ◌*◌, ◌/◌, ◌%◌, ◌^◌, ◌<◌, List, [], ◌∷◌, ◌++◌, map, length}
use Rattle.std.proofs.Common.{get_or, ap, sym, arith}
use Rattle.std.specs.Prelude.{EachIndex}
use Rattle.std.specs.List.{range_with_len}
use Rattle.std.proofs.lemmas.List.FromFn.{get_or-map-range_with_len, length-map-range_with_len, map-range_with_len_more}
use Rattle.std.proofs.lemmas.Nat.{div-mul-add, mod-mul-add, mul-add-lt}
use Rattle.img_samples.specs.Decoding.{SampleFormatValue, sample_code}
use Rattle.img_samples.specs.Code.Tables.{table_code}

-- a sample of a channel has a place
pub is_place : (channel levels sample channels : ℕ) → channel < channels → sample < levels →
    channel * levels + sample < channels * levels
is_place channel levels sample channels in_channels in_levels =
    omega (arith, mul-add-lt channel levels sample channels in_channels in_levels)

-- and the table has that place
pub is_in_table : (f : SampleFormatValue) (codes : List ℕ) (channel levels sample : ℕ) → levels ≡ 2 ^ f.bits →
    codes ≡ map (table_code f) (range_with_len 0 (f.channels * 2 ^ f.bits)) → channel < f.channels →
    sample < 2 ^ f.bits → channel * levels + sample < length codes
is_in_table f codes channel levels sample is all in_channels in_levels =
    rw is
    (let long : length codes ≡ f.channels * 2 ^ f.bits =
    ap length all ∙ length-map-range_with_len (table_code f) 0 (f.channels * 2 ^ f.bits) in
    let place = is_place channel (2 ^ f.bits) sample f.channels in_channels in_levels in omega arith)

-- where the table has the sample's code
pub found_in_table : (f : SampleFormatValue) (codes : List ℕ) (channel levels sample : ℕ) → levels ≡ 2 ^ f.bits →
    codes ≡ map (table_code f) (range_with_len 0 (f.channels * 2 ^ f.bits)) → channel < f.channels →
    sample < 2 ^ f.bits → get_or codes (channel * levels + sample) 0 ≡ sample_code f channel sample
found_in_table f codes channel levels sample is all in_channels in_levels =
    rw is
    (rw all
    (get_or-map-range_with_len (table_code f) 0 (f.channels * 2 ^ f.bits) (channel * 2 ^ f.bits + sample)
    (channel * 2 ^ f.bits + sample) 0 (is_place channel (2 ^ f.bits) sample f.channels in_channels in_levels)
    (let same : 0 + (channel * 2 ^ f.bits + sample) ≡ channel * 2 ^ f.bits + sample = omega arith in same)
    ∙ (ap (λ c. sample_code f c ((channel * 2 ^ f.bits + sample) % 2 ^ f.bits))
    (div-mul-add channel (2 ^ f.bits) sample in_levels)
    ∙ ap (sample_code f channel) (mod-mul-add channel (2 ^ f.bits) sample in_levels))))

-- one code more
pub one_code_more : (f : SampleFormatValue) (before now : List ℕ) (k levels code : ℕ) → levels ≡ 2 ^ f.bits →
    before ≡ map (table_code f) (range_with_len 0 k) → now ≡ before ++ code ∷ [] →
    code ≡ sample_code f (k / levels) (k % levels) → now ≡ map (table_code f) (range_with_len 0 (k + 1))
one_code_more f before now k levels code is so_far more here =
    more
    ∙ (ap (λ xs. xs ++ code ∷ []) so_far
    ∙ (ap (λ c. map (table_code f) (range_with_len 0 k) ++ c ∷ [])
    (here ∙ ap (λ w. sample_code f (k / w) (k % w)) is)
    ∙ sym (map-range_with_len_more (table_code f) 0 k k (let e : 0 + k ≡ k = omega arith in e))))

-- where each code is the rest of its place, the table's codes are
pub are_copied : (f : SampleFormatValue) (codes : List ℕ) →
    codes ≡ map (table_code f) (range_with_len 0 (f.channels * 2 ^ f.bits)) →
    EachIndex codes (λ k. get_or codes k 0 ≡ k % 256) → (k : ℕ) → k < f.channels * 2 ^ f.bits →
    table_code f k ≡ k % 256
are_copied f codes all each k inside =
    let long : length codes ≡ f.channels * 2 ^ f.bits =
    ap length all ∙ length-map-range_with_len (table_code f) 0 (f.channels * 2 ^ f.bits) in
    sym (get_or-map-range_with_len (table_code f) 0 (f.channels * 2 ^ f.bits) k k 0 inside
    (let e : 0 + k ≡ k = omega arith in e))
    ∙ (ap (λ xs. get_or xs k 0) (sym all) ∙ each k (omega arith))
