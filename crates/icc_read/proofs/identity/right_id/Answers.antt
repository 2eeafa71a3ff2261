use Rattle.std.proofs.Common.{◌≡◌, ◌∙◌, List, [], ◌++◌, ℕ, ap, append_assoc, take, drop}
use Rattle.std.specs.Prelude.{replicate}
use Rattle.md5.specs.Md5.{md5}
use Rattle.icc_read.specs.Identity.{right_id}
use Rattle.icc_read.proofs.identity.right_id.Goals as goal

-- seven pieces, one after another
joined : (a b c d e f g h i j k l m n : List ℕ) → a ≡ h → b ≡ i → c ≡ j → d ≡ k → e ≡ l → f ≡ m → g ≡ n →
    (((((([] ++ a) ++ b) ++ c) ++ d) ++ e) ++ f) ++ g ≡ h ++ (i ++ (j ++ (k ++ (l ++ (m ++ n)))))
joined a b c d e f g h i j k l m n p q r s t u v = rw (p, q, r, s, t, u, v) (simp append_assoc)

pub returns : goal.returns
unfolding right_id
returns c =
    let bytes = c.args.bytes.now in
    c.finalize.ensures _ (c.update-7.ensures _ (c.update-6.ensures _ (c.update-5.ensures _ (c.update-4.ensures _
    (c.update-3.ensures _ (c.update-2.ensures _ (c.update.ensures [] c.new-hasher.ensures)))))))
    ∙ ap (λ (m : List ℕ). md5 m)
    (joined c.front.result.now c.as_slice.result.now c.front-2.result.now c.as_slice-2.result.now c.front-3.result.now
    c.as_slice-3.result.now c.rest-3.result.now (take 44 bytes) (replicate 4 0) (take 16 (drop 48 bytes))
    (replicate 4 0) (take 16 (drop 68 bytes)) (replicate 16 0) (drop 100 bytes) c.front.ensures c.as_slice.ensures
    (c.front-2.ensures ∙ ap (λ (xs : List ℕ). take 16 xs) c.rest.ensures) c.as_slice-2.ensures
    (c.front-3.ensures ∙ ap (λ (xs : List ℕ). take 16 xs) c.rest-2.ensures) c.as_slice-3.ensures c.rest-3.ensures)
