-- How many points and samples the marks of a page have. Own rule: the limits of a page speak of these.
use Rattle.std.specs.Prelude.{ℕ, List, length, sum_by}
use Rattle.press_fault.specs.Plane.{PointValue}
use Rattle.page_model.specs.Marking.{MarkValue, PaintValue, Flatly, Pictured, Masked}
use Rattle.page_model.specs.declared.shape.Shape.{Shape}
use Rattle.page_model.specs.declared.shape.Shape.TheVariants.{Poly, Disc}

-- the points of rings
abbrev pub ring_points : List (List PointValue) → ℕ
ring_points rings = sum_by length rings

-- the points of a shape; a disc counts as one
abbrev pub shape_points : Shape → ℕ
shape_points (Poly rings) = ring_points rings
shape_points (Disc disc) = 1

-- the points of shapes
abbrev pub all_points : List Shape → ℕ
all_points shapes = sum_by shape_points shapes

-- the points of the shapes of all marks, a disc counting as one; those of clips don't count
abbrev pub mark_points : List MarkValue → ℕ
mark_points marks = sum_by (λ mark. all_points mark.shapes) marks

-- the samples of an image or a mask, one for each channel of each place
abbrev pub paint_samples : PaintValue → ℕ
paint_samples (Flatly ink) = 0
paint_samples (Pictured image) = length image.codes
paint_samples (Masked image ink) = length image.codes

-- the samples of all images and masks, also where marks share one
abbrev pub mark_samples : List MarkValue → ℕ
mark_samples marks = sum_by (λ mark. paint_samples mark.paint) marks
