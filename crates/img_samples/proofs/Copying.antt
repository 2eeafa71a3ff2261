-- Rows whose codes are their bytes.
use Rattle.std.proofs.Common.{◌≡◌, ◌∙◌, ℕ, ◌+◌, ◌*◌, ◌-◌, ◌/◌, ◌%◌, ◌^◌, ◌<◌, List, length, get_or, ap, subst, sym}
use Rattle.std.proofs.Common.{arith, zero, suc}
use Rattle.std.proofs.lemmas.List.{ext_get_or}
use Rattle.std.proofs.lemmas.List.FromFn.{get_or-map-range_with_len, length-map-range_with_len}
use Rattle.std.proofs.lemmas.Nat.{div-mul-add, mod-mul-add, mod_below}
use Rattle.img_samples.specs.Decoding.{SampleFormatValue, sample_code}
use Rattle.img_samples.specs.Rows.{row_bytes, packed_sample, row_code, row_codes}
use Rattle.img_samples.specs.Code.Tables.{table_code}
use Rattle.img_samples.proofs.Tables.{is_place}

-- a row of samples of 8 bits has a byte for each
pub same_size : (f : SampleFormatValue) → f.bits ≡ 8 → row_bytes f ≡ f.width * f.channels
same_size f eight =
    let whole : (n : ℕ) → (n * 8 + 7) / 8 ≡ n = λ n. omega arith in
    ap (λ b. (f.width * f.channels * b + 7) / 8) eight ∙ whole (f.width * f.channels)

-- and its samples are its bytes
a_byte : (row : List ℕ) (k : ℕ) → get_or row k 0 < 256 → packed_sample 8 row k ≡ get_or row k 0
unfolding packed_sample
a_byte row k small =
    let place : k * 8 / 8 ≡ k = omega arith in
    let none : k * 8 % 8 ≡ 0 = omega arith in
    ap (λ i. get_or row i 0 / 2 ^ (8 - 8 - k * 8 % 8) % 2 ^ 8) place
    ∙ (ap (λ r. get_or row k 0 / 2 ^ (8 - 8 - r) % 2 ^ 8) none
    ∙ (let same : get_or row k 0 / 1 % 256 ≡ get_or row k 0 = omega arith in same))

-- where the table has at each place the rest by 256, a sample is its own code
own_code : (f : SampleFormatValue) → f.bits ≡ 8 →
    ((k : ℕ) → k < f.channels * 2 ^ f.bits → table_code f k ≡ k % 256) → (channel sample : ℕ) →
    channel < f.channels → sample < 256 → sample_code f channel sample ≡ sample
own_code f eight copies channel sample in_channels small =
    let levels : 2 ^ f.bits ≡ 256 = ap (λ b. 2 ^ b) eight in
    let below : sample < 2 ^ f.bits = omega arith in
    let here : sample_code f ((channel * 2 ^ f.bits + sample) / 2 ^ f.bits)
    ((channel * 2 ^ f.bits + sample) % 2 ^ f.bits) ≡ (channel * 2 ^ f.bits + sample) % 256 =
    copies (channel * 2 ^ f.bits + sample) (is_place channel (2 ^ f.bits) sample f.channels in_channels below) in
    sym (ap (λ c. sample_code f c ((channel * 2 ^ f.bits + sample) % 2 ^ f.bits))
    (div-mul-add channel (2 ^ f.bits) sample below)
    ∙ ap (sample_code f channel) (mod-mul-add channel (2 ^ f.bits) sample below))
    ∙ (here
    ∙ (ap (λ w. (channel * w + sample) % 256) levels ∙ mod-mul-add channel 256 sample small))

-- a row with a place has a channel
some_channel : (width channels k : ℕ) → k < width * channels → 0 < channels
some_channel width zero k inside = absurd (omega arith)
some_channel width (suc channels) k inside = omega arith

-- so the code at a place is the byte there
same_code : (f : SampleFormatValue) (row : List ℕ) → f.bits ≡ 8 →
    ((k : ℕ) → k < f.channels * 2 ^ f.bits → table_code f k ≡ k % 256) →
    ((k : ℕ) → get_or row k 0 < 256) → (k : ℕ) → 0 < f.channels → row_code f row k ≡ get_or row k 0
unfolding row_code
same_code f row eight copies small k some =
    ap (λ b. sample_code f (k % f.channels) (packed_sample b row k)) eight
    ∙ (ap (sample_code f (k % f.channels)) (a_byte row k (small k))
    ∙ own_code f eight copies (k % f.channels) (get_or row k 0) (mod_below k f.channels some) (small k))

-- and the codes of a row are the row
pub same_codes : (f : SampleFormatValue) (row : List ℕ) → f.bits ≡ 8 →
    ((k : ℕ) → k < f.channels * 2 ^ f.bits → table_code f k ≡ k % 256) →
    ((k : ℕ) → get_or row k 0 < 256) → length row ≡ row_bytes f → row_codes f row ≡ row
same_codes f row eight copies small whole =
    let long : length (row_codes f row) ≡ f.width * f.channels =
    length-map-range_with_len (row_code f row) 0 (f.width * f.channels) in
    ext_get_or 0 (row_codes f row) row (long ∙ sym (whole ∙ same_size f eight))
    (λ k inside. let here : k < f.width * f.channels = subst (λ n. k < n) long inside in
    get_or-map-range_with_len (row_code f row) 0 (f.width * f.channels) k k 0 here
    (let e : 0 + k ≡ k = omega arith in e)
    ∙ same_code f row eight copies small k (some_channel f.width f.channels k here))
