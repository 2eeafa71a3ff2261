-- What the steps keep by which a walk's edges are found, entered and moved on. Own rule: words of the code alone.
use Rattle.std.specs.Prelude.{◌≡◌, ℕ, ◌<◌, ◌≤◌, ◌+◌, ◌*◌, ◌^◌, Bool, ◌&&◌, List, take, drop, ◌++◌, length, Option, Some}
use Rattle.std.specs.Prelude.{None, ℤ, pos, ◌+ℤ◌, ◌-ℤ◌, ◌*ℤ◌, int_le, int_lt, unsigned_abs, slice_index_or}
use Rattle.std.specs.Prelude.{if◌then◌else◌}
use Rattle.std.specs.List.{All}
use Rattle.press_fault.specs.Plane.{PointValue}
use Rattle.page_model.specs.Inside.{centre, crosses_left, is_between}
use Rattle.page_model.specs.Disc.{DiscValue}
use Rattle.page_model.specs.Cover.{disc_holds}
use Rattle.geo_fill.specs.declared.edge.Edge.{Edge}
use Rattle.geo_fill.specs.Walk.{reach_in, turn_in, edge_turn, winding_in, IsEdge, IsActive, AreWaiting, EdgeWalkValue}
use Rattle.geo_fill.specs.Walk.{walk_holds, Walks}
use Rattle.page_model.specs.declared.shape.Rule.{Rule}
use Rattle.page_model.specs.declared.shape.Shape.{Shape}
use Rattle.page_model.specs.Cover.{shape_holds}
use Rattle.geo_fill.specs.Spans.{SpanValue, HaveJust}

-- an edge that begins at a row or later
pub record IsListed (first : ℕ) (e : Edge) : Type 0 where
  pub edge : IsEdge e
  pub late : first ≤ e.row

-- edges were listed, which add so much to the winding number at each dot of the rows
pub record AreListed (first end : ℕ) (old new : List Edge) (turn : ℕ → ℕ → ℤ) : Type 0 where
  pub turns : (row col : ℕ) → first ≤ row → row < end →
      winding_in row col new ≡ (winding_in row col old +ℤ turn row col)
  pub sound : All (IsListed first) old → All (IsListed first) new

-- active edges were moved on by a row, and those behind their last row left out
pub record AreMoved (row active kept : ℕ) (old new : List Edge) : Type 0 where
  pub fewer : kept ≤ active
  pub size : length new ≡ length old
  pub others : drop active new ≡ drop active old
  pub crossing : All (IsActive (row + 1)) (take kept new)
  pub turns : (k col : ℕ) → row < k → winding_in k col (take kept new) ≡ winding_in k col (take active old)

-- so many edges that begin at a row were entered among the active ones
pub record AreEntered (row active next entered : ℕ) (old new : List Edge) : Type 0 where
  pub size : length new ≡ length old
  pub inside : next + entered ≤ length new
  pub crossing : All (IsActive row) (take (active + entered) new)
  pub waiting : AreWaiting (row + 1) (drop (next + entered) new)
  pub turns : (k col : ℕ) → winding_in k col (take (active + entered) new ++ drop (next + entered) new)
      ≡ winding_in k col (take active old ++ drop next old)

-- what a walk keeps of its list: the active edges stand first, those that wait last
pub record IsInRow (row left active next : ℕ) (edges : List Edge) : Type 0 where
  pub order : active ≤ next
  pub inside : next ≤ length edges
  pub crossing : All (IsActive row) (take active edges)
  pub waiting : AreWaiting (row + 1) (drop next edges)
  pub numbered : row + left ≤ 4294967296

-- what an edge adds at a dot, where there may be none
abbrev pub turn_by : ℕ → ℕ → Option Edge → ℤ
turn_by row col None = pos 0
turn_by row col (Some e) = turn_in row col e

-- what a line from its end of lesser y to the other one adds
abbrev pub line_turn : PointValue → PointValue → Bool → ℤ → ℤ → ℤ
line_turn low high rises px py = if is_between low.y high.y py && crosses_left low high px py then edge_turn rises
    else pos 0

-- where a line crosses a height, less half a dot; in sub-dots, times its rise
unfoldable pub line_place : PointValue → PointValue → ℤ → ℤ
line_place low high height =
    (low.x *ℤ (high.y -ℤ low.y) +ℤ (height -ℤ low.y) *ℤ (high.x -ℤ low.x)) -ℤ (high.y -ℤ low.y) *ℤ pos 128

-- an edge at a place in a row, that grows by so much in each row
pub record IsPlacedAt (place rise run : ℤ) (rises : Bool) (row last : ℕ) (e : Edge) : Type 0 where
  pub begins : e.row ≡ row
  pub ends : e.last ≡ last
  pub goes : e.rises ≡ rises
  pub edge : IsEdge e
  pub width : pos e.span ≡ rise *ℤ pos 256
  pub reach : (k : ℕ) → reach_in k e ≡ (place +ℤ (pos k -ℤ pos row) *ℤ (run *ℤ pos 256))

-- an edge made of a line, in the rows from one to another
pub record IsMadeOf (low high : PointValue) (rises : Bool) (row last : ℕ) (e : Edge) : Type 0 where
  pub begins : e.row ≡ row
  pub ends : e.last ≡ last
  pub goes : e.rises ≡ rises
  pub edge : IsEdge e
  pub crosses : (k col : ℕ) → int_le (reach_in k e) (pos (e.span * col)) ≡ crosses_left low high (centre col) (centre k)

-- the edge in the next row
pub record IsNextOf (e next : Edge) : Type 0 where
  pub at : next.row ≡ e.row + 1
  pub edge : IsEdge next
  pub turns : (k col : ℕ) → e.row < k → turn_in k col next ≡ turn_in k col e

-- of the active edges so many were moved on so far, and so many are left; those behind stand as before
pub record AreMovedSoFar (row i kept : ℕ) (old new : List Edge) : Type 0 where
  pub fewer : kept ≤ i
  pub size : length new ≡ length old
  pub others : drop i new ≡ drop i old
  pub crossing : All (IsActive (row + 1)) (take kept new)
  pub turns : (k col : ℕ) → row < k → winding_in k col (take kept new) ≡ winding_in k col (take i old)

-- so many edges were entered so far, and those behind still wait
pub record AreEnteredSoFar (row active next entered : ℕ) (old new : List Edge) : Type 0 where
  pub size : length new ≡ length old
  pub inside : next + entered ≤ length new
  pub crossing : All (IsActive row) (take (active + entered) new)
  pub waiting : AreWaiting row (drop (next + entered) new)
  pub turns : (k col : ℕ) → winding_in k col (take (active + entered) new ++ drop (next + entered) new)
      ≡ winding_in k col (take active old ++ drop next old)

-- an edge was put at a place, moved on to the next row, or it was left out since it ends
pub record IsWalkKept (row kept now : ℕ) (e : Edge) (old new : List Edge) : Type 0 where
  pub few : now ≤ kept + 1
  pub size : length new ≡ length old
  pub others : drop (kept + 1) new ≡ drop (kept + 1) old
  pub crossing : All (IsActive (row + 1)) (take kept old) → All (IsActive (row + 1)) (take now new)
  pub turns : (k col : ℕ) → row < k → winding_in k col (take now new)
      ≡ (winding_in k col (take kept old) +ℤ turn_in k col e)

-- the edge at a place begins at a row
pub record IsAt (row at : ℕ) (edges : List Edge) (e : Edge) : Type 0 where
  pub inside : at < length edges
  pub is : e ≡ slice_index_or edges at e
  pub begins : e.row ≡ row

-- how far a disc reaches to both sides at the height of a row
pub record IsHalfWidth (d : DiscValue) (row : ℕ) (half : ℤ) : Type 0 where
  pub small : unsigned_abs half < 2 ^ 64
  pub holds : (col : ℕ) → disc_holds d row col
      ≡ (int_le (d.x -ℤ half) (centre col) && int_lt (centre col) ((d.x +ℤ half) +ℤ pos 1))

-- a walk that has gone on by a row
pub record IsNextWalk (before now : EdgeWalkValue) : Type 0 where
  pub at : now.row ≡ before.row + 1
  pub fewer : now.left + 1 ≡ before.left
  pub holds : (row col : ℕ) → before.row < row → walk_holds now row col ≡ walk_holds before row col

-- a row of a shape was found, and the walk is at the next one
pub record IsRowOf (shape : Shape) (rule : Rule) (row left from to : ℕ) (spans : List SpanValue)
    (walk : EdgeWalkValue) : Type 0 where
  pub columns : HaveJust spans from to (λ col. shape_holds rule row col shape)
  pub walks : Walks shape rule (row + 1) left walk
