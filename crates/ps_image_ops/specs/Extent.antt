-- The heights on the page between which an image lies (PostScript Language Reference, third edition, 4.10.3 Image
-- Coordinate System). Own rule: those of its four corners, each rounded as points are, and a dot more on either side;
-- where a corner is out of range, an image has no bounds of its own.
use Rattle.std.specs.Prelude.{ℕ, ℤ, pos, neg_ℤ, ◌+ℤ◌, ◌-ℤ◌, ◌*◌, Option, Some, None}
use Rattle.std.specs.Int.{int_min, int_max}
use Rattle.std.specs.Option.{option_map, option_and_then}
use Rattle.geo_matrix.specs.Affine.{MatrixValue, dots_of}
use Rattle.geo_matrix.specs.Places.{back_of}
use Rattle.ps_image_ops.specs.declared.extent.Extent.{Extent}

-- the height on the page, in sub-dots, of the place between columns and rows of samples; none where it or the user
-- point there is out of range
abbrev pub corner_height : MatrixValue → MatrixValue → ℕ → ℕ → Option ℤ
corner_height m image columns rows =
    option_map (λ p. p.y) (option_and_then (λ u. dots_of m u.x u.y)
    (back_of image (record { x = pos (256 * columns); y = pos (256 * rows) })))

-- no bounds: no point of a page lies further away
abbrev pub unbounded : Extent
unbounded = record { low = neg_ℤ (pos 2147483648); high = pos 2147483648 }

-- the heights of four corners and a dot more on either side
abbrev pub extent_by : Option ℤ → Option ℤ → Option ℤ → Option ℤ → Extent
extent_by (Some p) (Some q) (Some r) (Some s) = record {
  low = int_min (int_min p q) (int_min r s) -ℤ pos 256;
  high = int_max (int_max p q) (int_max r s) +ℤ pos 256;
}
extent_by p q r s = unbounded

-- the heights between which an image of so many columns and rows lies, by the current matrix and its own
abbrev pub extent_of : MatrixValue → MatrixValue → ℕ → ℕ → Extent
extent_of m image columns rows =
    extent_by (corner_height m image 0 0) (corner_height m image columns 0) (corner_height m image columns rows)
    (corner_height m image 0 rows)
