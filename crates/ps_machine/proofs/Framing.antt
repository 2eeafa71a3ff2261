-- Frames that are left, outermost first in the code.
use Rattle.std.proofs.Common.{◌≡◌, ◌∙◌, ◌-◌, ◌++◌, ℕ, zero, suc, List, [], ◌∷◌, length, take, drop, reverse, ap, sym}
use Rattle.std.proofs.Common.{refl, arith}
use Rattle.std.proofs.lemmas.List.{length-reverse, length-drop, reverse-append, drop-append-le, drop_all}
use Rattle.ps_flow.specs.declared.level.Level.{Level}
use Rattle.ps_flow.specs.Levels.{guarded_in}
use Rattle.ps_machine.specs.declared.frames.Frame.{Frame}
use Rattle.ps_machine.specs.State.{frames_of}

-- a list is its first items and the others
parts : (n : ℕ) (frames : List Frame) → take n frames ++ drop n frames ≡ frames
parts zero frames = refl
parts (suc n) [] = refl
parts (suc n) (frame ∷ frames) = ap (λ rest. frame ∷ rest) (parts n frames)

-- the first so many are the last so many of the reversed list
kept : (n : ℕ) (frames : List Frame) → drop (length frames - n) (reverse frames) ≡ reverse (take n frames)
kept n frames =
    let len : length (reverse (drop n frames)) ≡ length frames - n =
    length-reverse (drop n frames) ∙ length-drop n frames in
    ap (λ xs. drop (length frames - n) xs)
    (ap reverse (sym (parts n frames)) ∙ reverse-append (take n frames) (drop n frames))
    ∙ (drop-append-le (length frames - n) (reverse (drop n frames)) (reverse (take n frames)) (omega (arith, len))
    ∙ ap (λ front. front ++ reverse (take n frames))
    (drop_all (length frames - n) (reverse (drop n frames)) (omega (arith, len))))

-- as many frames as levels of operators' procedures, the outermost, are the frames of these levels
pub cut : (n : ℕ) (frames left : List Frame) (levels : List Level) → n ≡ guarded_in levels → left ≡ take n frames →
    reverse left ≡ frames_of levels (reverse frames)
cut n frames left levels count is =
    ap reverse is ∙ (sym (kept n frames) ∙ (λ i. drop (sym (length-reverse frames) i - count i) (reverse frames)))
