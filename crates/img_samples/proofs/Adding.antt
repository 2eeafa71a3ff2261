-- The codes of a row, one after another.
use Rattle.std.proofs.Common.{◌≡◌, ◌∙◌, ℕ, ◌+◌, List, [], ◌∷◌, ◌++◌, map, ap, sym, arith}
use Rattle.std.specs.List.{range_with_len}
use Rattle.std.proofs.lemmas.List.{append_assoc}
use Rattle.std.proofs.lemmas.List.FromFn.{map-range_with_len_more}
use Rattle.img_samples.specs.Decoding.{SampleFormatValue}
use Rattle.img_samples.specs.Rows.{row_code}

-- one code more
pub one_more : (f : SampleFormatValue) (row start before now : List ℕ) (k code : ℕ) →
    before ≡ start ++ map (row_code f row) (range_with_len 0 k) → now ≡ before ++ code ∷ [] →
    code ≡ row_code f row k → now ≡ start ++ map (row_code f row) (range_with_len 0 (k + 1))
one_more f row start before now k code so_far more here =
    more
    ∙ (ap (λ xs. xs ++ code ∷ []) so_far
    ∙ (append_assoc start (map (row_code f row) (range_with_len 0 k)) (code ∷ [])
    ∙ ap (λ xs. start ++ xs)
    (ap (λ c. map (row_code f row) (range_with_len 0 k) ++ c ∷ []) here
    ∙ sym (map-range_with_len_more (row_code f row) 0 k k (let e : 0 + k ≡ k = omega arith in e)))))
