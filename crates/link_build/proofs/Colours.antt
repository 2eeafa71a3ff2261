-- The colours of all codes of one channel, made one by one.
use Rattle.std.proofs.Common.{◌≡◌, ℕ, ◌+◌, List, [], ◌∷◌, ◌++◌, refl}
use Rattle.icc_model.specs.Direct.{direct_wide}
use Rattle.link_build.specs.Key.{LinkKeyValue}
use Rattle.link_build.specs.Code.Way.{AreColoursOf, code_of_one}
use Rattle.link_build.proofs.Tables.{each_more, pushed_count}

-- the colour of one code more
pub colours_more : (key : LinkKeyValue) (colours : List (List ℕ)) (x : List ℕ) (n : ℕ) → AreColoursOf key n colours →
    x ≡ direct_wide key.source key.target key.intent (code_of_one n) → AreColoursOf key (n + 1) (colours ++ x ∷ [])
colours_more key colours x n h is = record {
  all = pushed_count colours (colours ++ x ∷ []) x n h.all refl;
  each = each_more (λ (k : ℕ) (s : List ℕ). s ≡ direct_wide key.source key.target key.intent (code_of_one k)) []
      colours (colours ++ x ∷ []) x n h.all refl h.each is;
}
