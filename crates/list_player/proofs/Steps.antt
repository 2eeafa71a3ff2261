-- What a command paints.
use Rattle.std.proofs.Common.{◌≡◌, ◌∙◌, ap, sym, subst, refl, ℕ, ◌+◌, Bool, true, false, ◌&&◌, ◌||◌, List, [], ◌∷◌}
use Rattle.std.proofs.Common.{Option, Some, None, nat_eq}
use Rattle.std.specs.Prelude.{◌==◌, is_some, option_map}
use Rattle.std.specs.List.{list_any, slice_get}
use Rattle.std.specs.Option.{option_map_or}
use Rattle.std.proofs.lemmas.Bool.{eqb-true}
use Rattle.press_fault.specs.Plane.{CodeValue}
use Rattle.page_model.specs.Image.{ImageValue}
use Rattle.page_model.specs.Marking.{RegionValue, MarkValue, Flatly, Pictured, Masked}
use Rattle.page_model.specs.declared.page.Depth.{Depth}
use Rattle.page_model.specs.declared.mark.Ink.{Ink}
use Rattle.page_model.specs.declared.mark.Ink.TheVariants.{Plain, Linked}
use Rattle.page_model.specs.declared.shape.Rule.{Rule}
use Rattle.page_model.specs.declared.shape.Rule.TheVariants.{Nonzero}
use Rattle.page_model.specs.declared.shape.Shape.{Shape}
use Rattle.page_model.specs.Cover.{covers_dot, shape_holds, ink_rgb, sample_ink, white}
use Rattle.page_model.specs.Page.{ink_source}
use Rattle.page_model.specs.Sample.{sample_at, code_at, mask_paints}
use Rattle.geo_clip.specs.Mask.{is_open}
use Rattle.list_codec.specs.Command.{CmdValue, Inked, Clipped, Drawn, Pictured as Shown, Masked as ShownThrough}
use Rattle.band_writer.specs.Said.{said_mark, image_marks}
use Rattle.list_player.specs.Painting.{given_where, sample_dot, mask_dot, ArePainted}
use Rattle.list_player.specs.Code.Steps.{lent_at, loan_tint, code_dot, mark_dot, marks_dot, cmd_marks, cmd_source}
use Rattle.list_player.specs.Code.Steps.{is_served, GoesBy}
use Rattle.list_player.proofs.Painting.{painted_as}
use Rattle.list_player.proofs.Drawn.{flat_covers}

-- the same paint of rows, told in another way
pub repainted : {D : Type 0} (first n : ℕ) (p q : ℕ → ℕ → Option D) (xs ys : List (List D)) →
    ((row col : ℕ) → p row col ≡ q row col) → ArePainted first n p xs ys → ArePainted first n q xs ys
repainted first n p q xs ys same painted = record {
  size = painted.size;
  painted = λ k early less. painted_as _ _ _ _ (λ col inside. same (first + k) col) (painted.painted k early less);
  others = painted.others;
}

-- rows that stay are painted with nothing
pub unpainted_rows : {D : Type 0} (first n : ℕ) (p : ℕ → ℕ → Option D) (xs : List (List D)) →
    ((row col : ℕ) → p row col ≡ None) → ArePainted first n p xs xs
unpainted_rows {D} first n p xs nothing = repainted first n (λ row col. None) p xs xs (λ row col. sym (nothing row col))
    (record {
      size = refl;
      painted = λ k early less. record { size = refl; dots = λ col d inside. refl };
      others = λ k late. refl;
    })

drawn_shapes : {D : Type 0} (dot : List ℕ → D) (depth : Depth) (tint : ℕ → CodeValue → List ℕ) (first n : ℕ)
    (images : List ImageValue) (ink : Ink) (regions : List RegionValue) (rule : Rule) (shapes : List Shape) (painted :
    D)
    (xs ys : List (List D)) → painted ≡ dot (ink_rgb depth tint ink) →
    ArePainted first n (λ row col. given_where (Some painted)
    (list_any (shape_holds rule row col) shapes && is_open regions row col)) xs ys →
    ArePainted first n (marks_dot dot depth tint (cmd_marks images ink regions (Drawn rule shapes))) xs ys
drawn_shapes {D} dot depth tint first n images ink regions rule shapes painted xs ys is put =
    repainted first n _ (marks_dot dot depth tint (cmd_marks images ink regions (Drawn rule shapes))) xs ys
    (λ row col. ap (λ (d : D). given_where (Some d) (list_any (shape_holds rule row col) shapes && is_open regions row
    col)) is
    ∙ ap (given_where (Some (dot (ink_rgb depth tint ink)))) (flat_covers rule shapes regions ink row col)) put

-- what shapes painted with an ink's dot are
pub drawn_cmd : {D : Type 0} (dot : List ℕ → D) (depth : Depth) (tint : ℕ → CodeValue → List ℕ) (first n : ℕ)
    (images : List ImageValue) (ink : Ink) (regions : List RegionValue) (rule : Rule) (shapes : List Shape) (painted :
    D)
    (seen : List Shape) (cmd : CmdValue) (xs ys : List (List D)) → cmd ≡ Drawn rule shapes → seen ≡ shapes →
    painted ≡ dot (ink_rgb depth tint ink) →
    ArePainted first n (λ row col. given_where (Some painted)
    (list_any (shape_holds rule row col) seen && is_open regions row col)) xs ys →
    ArePainted first n (marks_dot dot depth tint (cmd_marks images ink regions cmd)) xs ys
drawn_cmd {D} dot depth tint first n images ink regions rule shapes painted seen cmd xs ys said same is put =
    subst (λ (c : CmdValue). ArePainted first n (marks_dot dot depth tint (cmd_marks images ink regions c)) xs ys) (sym
    said)
    (drawn_shapes dot depth tint first n images ink regions rule shapes painted xs ys is
    (subst (λ (l : List Shape). ArePainted first n (λ row col. given_where (Some painted)
    (list_any (shape_holds rule row col) l && is_open regions row col)) xs ys) same put))

given_both : {D : Type 0} (d : D) (b o : Bool) → given_where (given_where (Some d) b) o ≡ given_where (Some d) (b && o)
given_both d true true = refl
given_both d true false = refl
given_both d false true = refl
given_both d false false = refl

given_sample : {D : Type 0} (dot : List ℕ → D) (f : ℕ → List ℕ) (w : List ℕ) (sample : Option ℕ) (o : Bool) →
    given_where (option_map (λ n. dot (f n)) sample) o ≡ given_where (Some (dot (option_map_or f sample w))) (is_some
    sample && o)
given_sample dot f w None true = refl
given_sample dot f w None false = refl
given_sample dot f w (Some n) o = refl

-- what an image gives a dot
shown_dot : {D : Type 0} (dot : List ℕ → D) (depth : Depth) (colour wide : CodeValue → List ℕ)
    (regions : List RegionValue) (image : ImageValue) (row col : ℕ) →
    given_where (sample_dot (code_dot dot depth colour wide image.source) image (sample_at image row col))
    (is_open regions row col)
    ≡ mark_dot dot depth (loan_tint depth colour wide) (said_mark Nonzero [] regions (Pictured image)) row col
unfolding covers_dot
shown_dot dot depth colour wide regions image row col = given_sample dot
    (λ n. ink_rgb depth (loan_tint depth colour wide) (sample_ink image.source (code_at image n))) (white depth)
    (sample_at image row col) (is_open regions row col)

-- what a mask gives a dot
masked_dot : {D : Type 0} (dot : List ℕ → D) (depth : Depth) (tint : ℕ → CodeValue → List ℕ) (ink : Ink)
    (regions : List RegionValue) (image : ImageValue) (row col : ℕ) →
    given_where (mask_dot (dot (ink_rgb depth tint ink)) image (sample_at image row col)) (is_open regions row col)
    ≡ mark_dot dot depth tint (said_mark Nonzero [] regions (Masked image ink)) row col
unfolding covers_dot
masked_dot dot depth tint ink regions image row col = given_both (dot (ink_rgb depth tint ink))
    (option_map_or (mask_paints image) (sample_at image row col) false) (is_open regions row col)

-- what the samples of an image are
pub shown_cmd : {D : Type 0} (dot : List ℕ → D) (depth : Depth) (colour wide : CodeValue → List ℕ) (first n : ℕ)
    (images : List ImageValue) (ink : Ink) (regions : List RegionValue) (place : ℕ) (image : ImageValue) (cmd :
    CmdValue)
    (xs ys : List (List D)) → cmd ≡ Shown place → Some image ≡ slice_get images place →
    ArePainted first n (λ row col. given_where
    (sample_dot (code_dot dot depth colour wide image.source) image (sample_at image row col))
    (is_open regions row col)) xs ys →
    ArePainted first n (marks_dot dot depth (loan_tint depth colour wide) (cmd_marks images ink regions cmd)) xs ys
shown_cmd dot depth colour wide first n images ink regions place image cmd xs ys said found put =
    subst (λ (c : CmdValue). ArePainted first n
    (marks_dot dot depth (loan_tint depth colour wide) (cmd_marks images ink regions c)) xs ys) (sym said)
    (repainted first n _ (marks_dot dot depth (loan_tint depth colour wide) (cmd_marks images ink regions (Shown
    place))) xs ys
    (λ row col. shown_dot dot depth colour wide regions image row col
    ∙ ap (λ (o : Option ImageValue). marks_dot dot depth (loan_tint depth colour wide)
    (image_marks regions o (λ i. Pictured i) []) row col) found) put)

-- what an ink through a mask is
pub masked_cmd : {D : Type 0} (dot : List ℕ → D) (depth : Depth) (tint : ℕ → CodeValue → List ℕ) (first n : ℕ)
    (images : List ImageValue) (ink : Ink) (regions : List RegionValue) (place : ℕ) (image : ImageValue) (painted : D)
    (cmd : CmdValue) (xs ys : List (List D)) → cmd ≡ ShownThrough place → Some image ≡ slice_get images place →
    painted ≡ dot (ink_rgb depth tint ink) →
    ArePainted first n (λ row col. given_where (mask_dot painted image (sample_at image row col))
    (is_open regions row col)) xs ys →
    ArePainted first n (marks_dot dot depth tint (cmd_marks images ink regions cmd)) xs ys
masked_cmd {D} dot depth tint first n images ink regions place image painted cmd xs ys said found is put =
    subst (λ (c : CmdValue). ArePainted first n (marks_dot dot depth tint (cmd_marks images ink regions c)) xs ys) (sym
    said)
    (repainted first n _ (marks_dot dot depth tint (cmd_marks images ink regions (ShownThrough place))) xs ys
    (λ row col. ap (λ (d : D). given_where (mask_dot d image (sample_at image row col)) (is_open regions row col)) is
    ∙ (masked_dot dot depth tint ink regions image row col
    ∙ ap (λ (o : Option ImageValue). marks_dot dot depth tint (image_marks regions o (λ i. Masked i ink) []) row col)
    found)) put)

-- the colour of an ink that a loan serves
ink_agrees : (depth : Depth) (tint : ℕ → CodeValue → List ℕ) (colour wide : CodeValue → List ℕ) (source : Option ℕ)
    (ink : Ink) → is_served source (ink_source ink) ≡ true → GoesBy source tint (lent_at depth colour wide) →
    ink_rgb depth (loan_tint depth colour wide) ink ≡ ink_rgb depth tint ink
ink_agrees depth tint colour wide source (Plain code) served goes = refl
ink_agrees depth tint colour wide None (Linked s code) served goes = absurd cc
ink_agrees depth tint colour wide (Some lent) (Linked s code) served goes =
    ap (λ (f : CodeValue → List ℕ). f code) goes ∙ ap (λ n. tint n code) (eqb-true lent s served)

-- the colour of a sample that a loan serves
sample_agrees : (depth : Depth) (tint : ℕ → CodeValue → List ℕ) (colour wide : CodeValue → List ℕ) (source own : Option
    ℕ)
    (code : CodeValue) → is_served source own ≡ true → GoesBy source tint (lent_at depth colour wide) →
    ink_rgb depth (loan_tint depth colour wide) (sample_ink own code) ≡ ink_rgb depth tint (sample_ink own code)
sample_agrees depth tint colour wide source None code served goes = refl
sample_agrees depth tint colour wide source (Some s) code served goes =
    ink_agrees depth tint colour wide source (Linked s code) served goes

picture_agrees : (depth : Depth) (tint : ℕ → CodeValue → List ℕ) (colour wide : CodeValue → List ℕ) (source : Option ℕ)
    (image : ImageValue) (sample : Option ℕ) → is_served source image.source ≡ true →
    GoesBy source tint (lent_at depth colour wide) →
    option_map_or (λ n. ink_rgb depth (loan_tint depth colour wide) (sample_ink image.source (code_at image n))) sample
    (white depth)
    ≡ option_map_or (λ n. ink_rgb depth tint (sample_ink image.source (code_at image n))) sample (white depth)
picture_agrees depth tint colour wide source image None served goes = refl
picture_agrees depth tint colour wide source image (Some n) served goes =
    sample_agrees depth tint colour wide source image.source (code_at image n) served goes

shown_agrees : {D : Type 0} (dot : List ℕ → D) (depth : Depth) (tint : ℕ → CodeValue → List ℕ)
    (colour wide : CodeValue → List ℕ) (source : Option ℕ) (regions : List RegionValue) (o : Option ImageValue) →
    is_served source (option_map_or (λ (image : ImageValue). image.source) o None) ≡ true →
    GoesBy source tint (lent_at depth colour wide) → (row col : ℕ) →
    marks_dot dot depth (loan_tint depth colour wide) (image_marks regions o (λ i. Pictured i) []) row col
    ≡ marks_dot dot depth tint (image_marks regions o (λ i. Pictured i) []) row col
shown_agrees dot depth tint colour wide source regions None served goes row col = refl
shown_agrees dot depth tint colour wide source regions (Some image) served goes row col =
    ap (λ (rgb : List ℕ). given_where (Some (dot rgb))
    (covers_dot row col (said_mark Nonzero [] regions (Pictured image))))
    (picture_agrees depth tint colour wide source image (sample_at image row col) served goes)

masked_agrees : {D : Type 0} (dot : List ℕ → D) (depth : Depth) (tint : ℕ → CodeValue → List ℕ)
    (colour wide : CodeValue → List ℕ) (source : Option ℕ) (ink : Ink) (regions : List RegionValue) (o : Option
    ImageValue) →
    is_served source (option_map_or (λ (image : ImageValue). ink_source ink) o None) ≡ true →
    GoesBy source tint (lent_at depth colour wide) → (row col : ℕ) →
    marks_dot dot depth (loan_tint depth colour wide) (image_marks regions o (λ i. Masked i ink) []) row col
    ≡ marks_dot dot depth tint (image_marks regions o (λ i. Masked i ink) []) row col
masked_agrees dot depth tint colour wide source ink regions None served goes row col = refl
masked_agrees dot depth tint colour wide source ink regions (Some image) served goes row col =
    ap (λ (rgb : List ℕ). given_where (Some (dot rgb))
    (covers_dot row col (said_mark Nonzero [] regions (Masked image ink))))
    (ink_agrees depth tint colour wide source ink served goes)

-- what a command that a loan serves paints has the colours of its source
pub cmd_agrees : {D : Type 0} (dot : List ℕ → D) (depth : Depth) (tint : ℕ → CodeValue → List ℕ)
    (colour wide : CodeValue → List ℕ) (source : Option ℕ) (images : List ImageValue) (ink : Ink)
    (regions : List RegionValue) (cmd : CmdValue) → is_served source (cmd_source images ink cmd) ≡ true →
    GoesBy source tint (lent_at depth colour wide) → (row col : ℕ) →
    marks_dot dot depth (loan_tint depth colour wide) (cmd_marks images ink regions cmd) row col
    ≡ marks_dot dot depth tint (cmd_marks images ink regions cmd) row col
cmd_agrees dot depth tint colour wide source images ink regions (Inked other) served goes row col = refl
cmd_agrees dot depth tint colour wide source images ink regions (Clipped other) served goes row col = refl
cmd_agrees dot depth tint colour wide source images ink regions (Drawn rule shapes) served goes row col =
    ap (λ (rgb : List ℕ). given_where (Some (dot rgb)) (covers_dot row col (said_mark rule shapes regions (Flatly
    ink))))
    (ink_agrees depth tint colour wide source ink served goes)
cmd_agrees dot depth tint colour wide source images ink regions (Shown place) served goes row col =
    shown_agrees dot depth tint colour wide source regions (slice_get images place) served goes row col
cmd_agrees dot depth tint colour wide source images ink regions (ShownThrough place) served goes row col =
    masked_agrees dot depth tint colour wide source ink regions (slice_get images place) served goes row col
