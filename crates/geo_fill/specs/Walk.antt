-- Edges that a walk down the rows of a page keeps, and what they add to the winding number (PostScript Language
-- Reference, third edition, 4.5 Painting). Own rule: where an edge crosses a row is kept as a column and what is
-- over; from row to row both grow by a quotient and a remainder, and nothing is rounded.
use Rattle.std.specs.Prelude.{◌≡◌, ℕ, ◌<◌, ◌≤◌, ◌+◌, ◌*◌, ◌^◌, Bool, ◌&&◌, nat_le, List, [], ◌∷◌, map, Option, Some}
use Rattle.std.specs.Prelude.{None, ℤ, pos, negsuc, ◌+ℤ◌, ◌-ℤ◌, ◌*ℤ◌, int_le, unsigned_abs, if◌then◌else◌}
use Rattle.page_model.specs.Inside.{total, is_inside}
use Rattle.page_model.specs.Disc.{DiscValue}
use Rattle.page_model.specs.Cover.{disc_holds, shape_holds}
use Rattle.page_model.specs.declared.shape.Rule.{Rule}
use Rattle.page_model.specs.declared.shape.Shape.{Shape}
use Rattle.geo_fill.specs.declared.edge.Edge.{Edge}

-- how much its place grows from a row to the next, in parts of a column by its span
abbrev pub growth : Edge → ℤ
growth e = pos e.span *ℤ e.step +ℤ pos e.part

-- where it crosses a row: the columns whose number by its span is at least that are right of it, or on it
unfoldable pub reach_in : ℕ → Edge → ℤ
reach_in row e = (pos e.span *ℤ e.col -ℤ pos e.over) +ℤ (pos row -ℤ pos e.row) *ℤ (pos e.span *ℤ e.step +ℤ pos e.part)

-- whether it crosses a row, at a column or left of it
abbrev pub is_crossed : ℕ → ℕ → Edge → Bool
is_crossed row col e = (nat_le e.row row && nat_le row e.last) && int_le (reach_in row e) (pos (e.span * col))

-- what it adds to the winding number behind it
abbrev pub edge_turn : Bool → ℤ
edge_turn rises = if rises then pos 1 else negsuc 0

-- what it adds at a dot
unfoldable pub turn_in : ℕ → ℕ → Edge → ℤ
turn_in row col e = if is_crossed row col e then edge_turn e.rises else pos 0

-- the winding number at a dot
abbrev pub winding_in : ℕ → ℕ → List Edge → ℤ
winding_in row col edges = total (map (turn_in row col) edges)

-- what each edge keeps; its place is near the page, in each of its rows
pub record IsEdge (e : Edge) : Type 0 where
  pub over : e.over < e.span
  pub part : e.part < e.span
  pub size : e.span < 2 ^ 54
  pub slope : unsigned_abs e.step < 2 ^ 46
  pub order : e.row ≤ e.last
  pub numbered : e.last < 4294967296
  pub near : (k : ℕ) → e.row ≤ k → k ≤ e.last → unsigned_abs (reach_in k e) ≤ e.span * 2 ^ 38

-- an edge that crosses the row at which the walk is, and whose place is the one there
pub record IsActive (row : ℕ) (e : Edge) : Type 0 where
  pub edge : IsEdge e
  pub here : e.row ≡ row

-- edges that begin at a row or later, in this order
abbrev pub AreWaiting : ℕ → List Edge → Type 0
AreWaiting from [] = Unit {0}
AreWaiting from (e ∷ rest) = (from ≤ e.row) × IsEdge e × AreWaiting e.row rest

-- a walk that is at a row, with so many rows left: of a disc, or of edges by a rule
pub record EdgeWalkValue : Type 0 where
  pub rule : Rule
  pub row : ℕ
  pub left : ℕ
  pub disc : Option DiscValue
  pub edges : List Edge

-- whether the walk holds the centre of a dot
abbrev pub holds_by : Rule → List Edge → ℕ → ℕ → Option DiscValue → Bool
holds_by rule edges row col None = is_inside rule (winding_in row col edges)
holds_by rule edges row col (Some d) = disc_holds d row col

-- whether the shape that a walk goes over holds the centre of a dot
unfoldable pub walk_holds : EdgeWalkValue → ℕ → ℕ → Bool
walk_holds walk row col = holds_by walk.rule walk.edges row col walk.disc

-- a walk over a shape, at a row, with so many rows left
pub record Walks (shape : Shape) (rule : Rule) (row left : ℕ) (walk : EdgeWalkValue) : Type 0 where
  pub at : walk.row ≡ row
  pub more : walk.left ≡ left
  pub holds : (k col : ℕ) → row ≤ k → k < row + left → walk_holds walk k col ≡ shape_holds rule k col shape
