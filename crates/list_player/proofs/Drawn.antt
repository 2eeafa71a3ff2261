-- Dots of marks, and of one mark more.
use Rattle.std.proofs.Common.{◌≡◌, ◌∙◌, ap, sym, subst, refl, arith, append_assoc, ℕ, suc, ◌+◌, ◌<◌, Bool, true}
use Rattle.std.proofs.Common.{false, cond, ◌&&◌}
use Rattle.std.proofs.Common.{◌||◌, List, [], ◌∷◌, ◌++◌, length, get_or, replicate, reverse, Option, Some, None}
use Rattle.std.proofs.lemmas.List.{append-nil, reverse-append, get_or-replicate, length-replicate, get_or_default}
use Rattle.std.specs.List.{find, list_any, list_all, flat_map, range_with_len}
use Rattle.std.specs.Option.{option_map_or}
use Rattle.press_fault.specs.Plane.{CodeValue}
use Rattle.page_model.specs.Marking.{RegionValue, MarkValue, Flatly}
use Rattle.page_model.specs.declared.page.Depth.{Depth}
use Rattle.page_model.specs.declared.mark.Ink.{Ink}
use Rattle.page_model.specs.declared.shape.Rule.{Rule}
use Rattle.page_model.specs.declared.shape.Shape.{Shape}
use Rattle.page_model.specs.Cover.{covers_dot, shape_holds, region_holds, mark_rgb, ink_rgb, dot_rgb, white}
use Rattle.page_model.specs.Pages.{dot_bytes, row_text, rows_text}
use Rattle.geo_clip.specs.Mask.{is_open}
use Rattle.band_writer.specs.Said.{said_mark}
use Rattle.list_player.specs.Painting.{over, given_where, IsPainted, ArePainted, AreWide}
use Rattle.list_player.specs.Code.Steps.{mark_dot, marks_dot, ShowMarks}
use Rattle.list_player.proofs.Painting.{over_later}
use Rattle.list_player.proofs.Bands.{still_wide}

last_found : {D : Type 0} (dot : List ℕ → D) (f : MarkValue → List ℕ) (b : Bool) (mark : MarkValue)
    (o : Option MarkValue) (w : List ℕ) →
    over (given_where (Some (dot (f mark))) b) (dot (option_map_or f o w)) ≡ dot (option_map_or f (cond b (Some mark)
    o) w)
last_found dot f true mark o w = refl
last_found dot f false mark o w = refl

-- a dot after one mark more
pub dot_more : {D : Type 0} (dot : List ℕ → D) (depth : Depth) (tint : ℕ → CodeValue → List ℕ)
    (marks : List MarkValue) (mark : MarkValue) (row col : ℕ) →
    over (mark_dot dot depth tint mark row col) (dot (dot_rgb depth tint marks row col))
    ≡ dot (dot_rgb depth tint (marks ++ mark ∷ []) row col)
unfolding dot_rgb
dot_more dot depth tint marks mark row col =
    last_found dot (mark_rgb depth tint row col) (covers_dot row col mark) mark (find (covers_dot row col) (reverse
    marks))
    (white depth)
    ∙ sym (ap (λ (ms : List MarkValue). dot (option_map_or (mark_rgb depth tint row col) (find (covers_dot row col) ms)
    (white depth))) (reverse-append marks (mark ∷ [])))

-- a dot after more marks
dot_all : {D : Type 0} (dot : List ℕ → D) (depth : Depth) (tint : ℕ → CodeValue → List ℕ) (shown more : List MarkValue)
    (row col : ℕ) →
    over (marks_dot dot depth tint more row col) (dot (dot_rgb depth tint shown row col))
    ≡ dot (dot_rgb depth tint (shown ++ more) row col)
dot_all dot depth tint shown [] row col = ap (λ (ms : List MarkValue). dot (dot_rgb depth tint ms row col)) (sym
    (append-nil shown))
dot_all dot depth tint shown (mark ∷ more) row col =
    sym (over_later (mark_dot dot depth tint mark row col) (marks_dot dot depth tint more row col)
    (dot (dot_rgb depth tint shown row col)))
    ∙ (ap (over (marks_dot dot depth tint more row col)) (dot_more dot depth tint shown mark row col)
    ∙ (dot_all dot depth tint (shown ++ mark ∷ []) more row col
    ∙ ap (λ (ms : List MarkValue). dot (dot_rgb depth tint ms row col)) (append_assoc shown (mark ∷ []) more)))

-- rows that show marks show more once these are painted
pub shows_more : {D : Type 0} (dot : List ℕ → D) (depth : Depth) (tint : ℕ → CodeValue → List ℕ)
    (width first count : ℕ) (shown more : List MarkValue) (rows news : List (List D)) →
    ShowMarks dot depth tint width first count shown rows →
    ArePainted first count (marks_dot dot depth tint more) rows news →
    ShowMarks dot depth tint width first count (shown ++ more) news
shows_more dot depth tint width first count shown more rows news show painted = record {
  size = painted.size ∙ show.size;
  wide = still_wide width first count (marks_dot dot depth tint more) rows news show.wide painted;
  dots = λ k col d early less. let inside = subst (λ n. k < n) (sym show.size) early in
      (painted.painted k early inside).dots col d (subst (λ n. col < n) (sym (show.wide.each k inside)) less)
      ∙ (ap (over (marks_dot dot depth tint more (first + k) col)) (show.dots k col d early less)
      ∙ dot_all dot depth tint shown more (first + k) col);
}

row_again : {D : Type 0} (width count k : ℕ) (white_dot : D) (rows : List (List D)) →
    rows ≡ replicate count (replicate width white_dot) → k < count → get_or rows k [] ≡ replicate width white_dot
row_again {D} width count k white_dot rows is early = ap (λ (l : List (List D)). get_or l k []) is
    ∙ get_or-replicate count k (replicate width white_dot) [] early

rows_count : {D : Type 0} (width count : ℕ) (white_dot : D) (rows : List (List D)) →
    rows ≡ replicate count (replicate width white_dot) → length rows ≡ count
rows_count {D} width count white_dot rows is = ap (λ (l : List (List D)). length l) is
    ∙ length-replicate count (replicate width white_dot)

-- a dot without marks is white
no_marks : {D : Type 0} (dot : List ℕ → D) (depth : Depth) (tint : ℕ → CodeValue → List ℕ) (row col : ℕ) →
    dot (white depth) ≡ dot (dot_rgb depth tint [] row col)
unfolding dot_rgb
no_marks dot depth tint row col = refl

-- white rows show no marks
pub shows_none : {D : Type 0} (dot : List ℕ → D) (depth : Depth) (tint : ℕ → CodeValue → List ℕ)
    (width first count : ℕ) (white_dot : D) (rows : List (List D)) → white_dot ≡ dot (white depth) →
    rows ≡ replicate count (replicate width white_dot) → ShowMarks dot depth tint width first count [] rows
shows_none {D} dot depth tint width first count white_dot rows white_is is = record {
  size = rows_count width count white_dot rows is;
  wide = record {
    each = λ k less. ap (λ (row : List D). length row) (row_again width count k white_dot rows is
        (subst (λ n. k < n) (rows_count width count white_dot rows is) less)) ∙ length-replicate width white_dot;
  };
  dots = λ k col d early less. ap (λ (r : List D). get_or r col d) (row_again width count k white_dot rows is early)
      ∙ (get_or-replicate width col white_dot d less ∙ (white_is ∙ no_marks dot depth tint (first + k) col));
}

or_false : (a : Bool) → (a || false) ≡ a
or_false true = refl
or_false false = refl

-- where a mark of shapes covers a dot
pub flat_covers : (rule : Rule) (shapes : List Shape) (clip : List RegionValue) (ink : Ink) (row col : ℕ) →
    (list_any (shape_holds rule row col) shapes && is_open clip row col)
    ≡ covers_dot row col (said_mark rule shapes clip (Flatly ink))
unfolding covers_dot
flat_covers rule shapes clip ink row col =
    ap (λ b. b && is_open clip row col) (sym (or_false (list_any (shape_holds rule row col) shapes)))

-- lists of bytes, one for each item, are those of a range where each item has those of its place
joined : {X : Type 0} (f : X → List ℕ) (g : ℕ → List ℕ) (xs : List X) (first : ℕ) →
    ((k : ℕ) (d : X) → k < length xs → f (get_or xs k d) ≡ g (first + k)) →
    flat_map f xs ≡ flat_map g (range_with_len first (length xs))
joined f g [] first same = refl
joined f g (x ∷ xs) first same =
    ap (λ (l : List ℕ). l ++ flat_map f xs) (same 0 x (omega arith)
    ∙ ap g (let e : first + 0 ≡ first = omega arith in e))
    ∙ ap (λ (l : List ℕ). g first ++ l) (joined f g xs (first + 1)
    (λ k d less. same (suc k) d (omega (arith, less)) ∙ ap g (let e : first + suc k ≡ (first + 1) + k = omega arith in
    e)))

-- the bytes of a row that shows marks
row_bytes : {D : Type 0} (dot : List ℕ → D) (bytes : D → List ℕ) (depth : Depth) (tint : ℕ → CodeValue → List ℕ)
    (width number : ℕ) (marks : List MarkValue) (row : List D) →
    ((colour : List ℕ) → bytes (dot colour) ≡ dot_bytes depth colour) → length row ≡ width →
    ((col : ℕ) (d : D) → col < width → get_or row col d ≡ dot (dot_rgb depth tint marks number col)) →
    flat_map bytes row ≡ row_text depth tint width marks number
unfolding row_text
row_bytes {D} dot bytes depth tint width number marks row known size shown =
    joined bytes (λ col. dot_bytes depth (dot_rgb depth tint marks number col)) row 0
    (λ k d less. ap bytes (shown k d (subst (λ n. k < n) size less)) ∙ (known (dot_rgb depth tint marks number k)
    ∙ ap (λ n. dot_bytes depth (dot_rgb depth tint marks number n)) (let e : k ≡ 0 + k = omega arith in e)))
    ∙ ap (λ n. flat_map (λ col. dot_bytes depth (dot_rgb depth tint marks number col)) (range_with_len 0 n)) size

-- the bytes of rows that show marks
pub rows_bytes : {D : Type 0} (dot : List ℕ → D) (bytes : D → List ℕ) (depth : Depth)
    (tint : ℕ → CodeValue → List ℕ) (width first count : ℕ) (marks : List MarkValue) (rows : List (List D)) →
    ((colour : List ℕ) → bytes (dot colour) ≡ dot_bytes depth colour) →
    ShowMarks dot depth tint width first count marks rows →
    flat_map (flat_map bytes) rows ≡ rows_text depth tint width first count marks
unfolding rows_text
rows_bytes {D} dot bytes depth tint width first count marks rows known shown =
    joined (flat_map bytes) (row_text depth tint width marks) rows first
    (λ k d less. let early = subst (λ n. k < n) shown.size less in
    ap (flat_map bytes) (get_or_default rows k d [] less)
    ∙ row_bytes dot bytes depth tint width (first + k) marks (get_or rows k []) known (shown.wide.each k less)
    (λ col e inside. shown.dots k col e early inside))
    ∙ ap (λ n. flat_map (row_text depth tint width marks) (range_with_len first n)) shown.size
