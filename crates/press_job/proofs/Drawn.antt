-- The bands of a page that goes by no source.
use Rattle.std.proofs.Common.{◌≡◌, ◌<◌, ◌≤◌, ◌∙◌, ◌++◌, ap, sym, subst, refl, ℕ, List, [], ◌∷◌, map, length, get_or}
use Rattle.std.proofs.Common.{Option, Some, None, arith, All, Bool, ◌+◌, Result, Ok, Err, IfOk}
use Rattle.std.specs.Prelude.{◌==◌}
use Rattle.std.specs.Prelude.{Contains}
use Rattle.std.specs.List.{filter, filter_map, dedup, range_with_len}
use Rattle.std.proofs.lemmas.List.Elements.{All-weaker, All-filter, All-map, All-head, All-tail, All-nil}
use Rattle.std.proofs.lemmas.List.{map-append}
use Rattle.std.proofs.lemmas.List.FromFn.{get_or-map-range_with_len, length-map-range_with_len}
use Rattle.std.proofs.lemmas.List.FromFn.{map-range_with_len_more}
use Rattle.press_fault.specs.Plane.{CodeValue}
use Rattle.page_model.specs.Image.{ImageValue}
use Rattle.page_model.specs.Marking.{MarkValue, PaintValue, Flatly, Pictured, Masked}
use Rattle.page_model.specs.Page.{PageValue, IsPage, IsNumbered, painting_source, HasKnownSource, HaveNumberedClips}
use Rattle.page_model.specs.Cover.{HasChannels}
use Rattle.page_model.specs.Pages.{band_text, band_count}
use Rattle.page_model.specs.declared.page.Depth.{Depth}
use Rattle.page_model.specs.declared.page.Depth.TheVariants.{Eight, Sixteen}
use Rattle.band_writer.specs.Bands.{mark_source, needs_of, meets, band_marks}
use Rattle.band_writer.specs.Said.{list_marks, without_number, as_said}
use Rattle.band_writer.specs.Parts.{BandListsValue, BandListValue, PagePartsValue, IsSplit, band_cmds, band_list}
use Rattle.list_player.specs.Playing.{SayMarks, tint_at, BandDotsValue, dots_of}
use Rattle.page_output.specs.Sheet.{AreBandsOf, dots_in}
use Rattle.press_job.specs.Pages.{no_tint}
use Rattle.press_job.specs.Code.Painted.{WasSplit}

-- at both depths no source gives no colour
pub no_tint_at : (depth : Depth) → tint_at depth no_tint no_tint ≡ no_tint
no_tint_at Eight = refl
no_tint_at Sixteen = refl

-- without a source no number of one is below 0
none_below : (source : Option ℕ) → IsNumbered 0 source → source ≡ None
none_below None h = refl
none_below (Some source) h = absurd (let none : source < 0 = h in omega arith)

-- marks without a source have none
no_sources : (marks : List MarkValue) → All (HasKnownSource 0) marks → filter_map mark_source marks ≡ []
no_sources [] h = refl
no_sources (mark ∷ marks) h =
    let here = none_below (painting_source mark.paint) (All-head (HasKnownSource 0) mark marks h) in
    rw here (no_sources marks (All-tail (HasKnownSource 0) mark marks h))

-- and need none
pub none_needed : (marks : List MarkValue) → All (HasKnownSource 0) marks → needs_of marks ≡ []
unfolding needs_of
none_needed marks h = ap (λ (sources : List ℕ). dedup ◌==◌ sources) (no_sources marks h)

-- a mark as its paint has it said keeps what it paints with
said_paint : (mark : MarkValue) (paint : PaintValue) → IsNumbered 0 (painting_source paint)
    → HasKnownSource 0 (as_said mark paint)
said_paint mark (Flatly ink) h = h
said_paint mark (Pictured image) h = h
said_paint mark (Masked image ink) h = h

-- the marks that a band's list says go by no source where those of the page don't
pub said_plain : (holds : MarkValue → Bool) (marks : List MarkValue) → All (HasKnownSource 0) marks
    → All (HasKnownSource 0) (map without_number (filter holds marks))
said_plain holds marks h = All-map (HasKnownSource 0) without_number (filter holds marks)
    (All-weaker (HasKnownSource 0) (λ (mark : MarkValue). HasKnownSource 0 (without_number mark))
    (λ mark known. said_paint mark mark.paint known) (filter holds marks) (All-filter holds (HasKnownSource 0) marks h))

-- how many lists a split has
pub list_count : (page : PageValue) (lists : BandListsValue) → WasSplit page lists
    → length lists.lists ≡ band_count page.height lists.parts.band
list_count page lists was = ap (λ (all : List BandListValue). length all) was.lists
    ∙ length-map-range_with_len (band_list page lists.parts.band) 0 (band_count page.height lists.parts.band)

-- the list of a band
pub list_here : (page : PageValue) (lists : BandListsValue) (band : ℕ) (list d : BandListValue) → WasSplit page lists
    → band < length lists.lists → list ≡ get_or lists.lists band d → list ≡ band_list page lists.parts.band band
list_here page lists band list d was less is =
    let count = list_count page lists was in
    is ∙ (ap (λ (all : List BandListValue). get_or all band d) was.lists
    ∙ get_or-map-range_with_len (band_list page lists.parts.band) 0 (band_count page.height lists.parts.band) band band
    d (let l : band < length lists.lists = less in let c = count in omega (arith, l, c)) (omega arith))

-- it says the marks of the split
pub said_here : (page : PageValue) (lists : BandListsValue) (band : ℕ) (list : BandListValue) → WasSplit page lists
    → band < length lists.lists → list ≡ band_list page lists.parts.band band
    → SayMarks lists.parts.images list.bytes (list_marks lists.parts.images (band_cmds page lists.parts.band band))
said_here page lists band list was less is = record {
  cmds = band_cmds page lists.parts.band band;
  commands = was.commands band (let l : band < length lists.lists = less in let c = list_count page lists was in
      omega (arith, l, c));
  are = ap (λ (l : BandListValue). l.bytes) is;
  say = refl;
}

-- the marks that it says go by no source where those of the page don't
pub known_here : (images : List ImageValue) (bytes : List ℕ) (page : PageValue) (rows band : ℕ)
    (cmds marks : List MarkValue)
    → ((a b : List MarkValue) → SayMarks images bytes a → SayMarks images bytes b → a ≡ b)
    → SayMarks images bytes cmds → cmds ≡ map without_number (band_marks page.height rows band page.marks)
    → All (HasKnownSource 0) page.marks → SayMarks images bytes marks → All (HasKnownSource 0) marks
known_here images bytes page rows band cmds marks once said are known other =
    subst (λ (ms : List MarkValue). All (HasKnownSource 0) ms) (sym are ∙ once cmds marks said other)
    (said_plain (meets page.height rows band) page.marks known)

-- the dots of a band are those of the page
pub dots_here : (dots : BandDotsValue) (page : PageValue) (lists : BandListsValue) (band : ℕ) (list : BandListValue)
    (marks : List MarkValue) → WasSplit page lists → list ≡ band_list page lists.parts.band band
    → dots ≡ dots_of (tint_at lists.parts.depth no_tint no_tint) lists.parts list.band marks
    → band_text lists.parts.depth no_tint page.width page.height lists.parts.band marks band
    ≡ band_text lists.parts.depth no_tint page.width page.height lists.parts.band page.marks band
    → dots.dots ≡ band_text lists.parts.depth no_tint page.width page.height lists.parts.band page.marks band
unfolding dots_of
dots_here dots page lists band list marks was is drawn same =
    ap (λ (d : BandDotsValue). d.dots) drawn
    ∙ (ap (λ (tint : ℕ → CodeValue → List ℕ). band_text lists.parts.depth tint lists.parts.width lists.parts.height
    lists.parts.band marks list.band) (no_tint_at lists.parts.depth)
    ∙ (ap (λ (width : ℕ). band_text lists.parts.depth no_tint width lists.parts.height lists.parts.band marks list.band)
    (ap (λ (p : PagePartsValue). p.width) was.parts)
    ∙ (ap (λ (height : ℕ). band_text lists.parts.depth no_tint page.width height lists.parts.band marks list.band)
    (ap (λ (p : PagePartsValue). p.height) was.parts)
    ∙ (ap (λ (b : ℕ). band_text lists.parts.depth no_tint page.width page.height lists.parts.band marks b)
    (ap (λ (l : BandListValue). l.band) is) ∙ same))))

-- one band more
pub bands_more : (bands : List BandDotsValue) (dots : BandDotsValue) (f : ℕ → List ℕ) (n : ℕ)
    → map dots_in bands ≡ map f (range_with_len 0 n) → dots.dots ≡ f n
    → map dots_in (bands ++ dots ∷ []) ≡ map f (range_with_len 0 (n + 1))
bands_more bands dots f n so_far here = map-append dots_in bands (dots ∷ [])
    ∙ (ap (λ (xs : List (List ℕ)). xs ++ dots.dots ∷ []) so_far
    ∙ (ap (λ (x : List ℕ). map f (range_with_len 0 n) ++ x ∷ []) here
    ∙ sym (map-range_with_len_more f 0 n n (omega arith))))

-- a page's marks go by no source
pub page_plain : (p page : PageValue) → p ≡ page → IsPage p.width p.height p.sources p.marks → page.sources ≤ 0
    → All (HasKnownSource 0) page.marks
page_plain p page is kept none =
    let sources : p.sources ≡ 0 = let n : page.sources ≤ 0 = none in
    let e = ap (λ (q : PageValue). q.sources) is in omega (arith, n, e) in
    subst (λ (q : PageValue). All (HasKnownSource 0) q.marks) is
    (subst (λ (n : ℕ). All (HasKnownSource n) p.marks) sources kept.known)

-- and those of one clip number have one clip
pub page_numbered : (p page : PageValue) → p ≡ page → IsPage p.width p.height p.sources p.marks
    → HaveNumberedClips page.marks
page_numbered p page is kept = subst (λ (q : PageValue). HaveNumberedClips q.marks) is kept.numbered

-- the band is one of the page
pub band_few : (page : PageValue) (lists : BandListsValue) (band : ℕ) (list d : BandListValue) (parts : PagePartsValue)
    → WasSplit page lists → band < length lists.lists → list ≡ get_or lists.lists band d → parts ≡ lists.parts
    → list.band < band_count parts.height parts.band
band_few page lists band list d parts was less is same =
    let here : list.band ≡ band = ap (λ (l : BandListValue). l.band) (list_here page lists band list d was less is) in
    let height : parts.height ≡ page.height = ap (λ (p : PagePartsValue). p.height) same
    ∙ ap (λ (p : PagePartsValue). p.height) was.parts in
    let rows : parts.band ≡ lists.parts.band = ap (λ (p : PagePartsValue). p.band) same in
    let few : band < band_count page.height lists.parts.band =
    subst (λ (n : ℕ). band < n) (list_count page lists was) less in
    subst (λ (b : ℕ). b < band_count parts.height parts.band) (sym here)
    (subst (λ (h : ℕ). band < band_count h parts.band) (sym height)
    (subst (λ (r : ℕ). band < band_count page.height r) (sym rows) few))

-- the marks that its list says go by no source
pub known_marks : (page : PageValue) (lists : BandListsValue) (band : ℕ) (list d : BandListValue)
    (parts : PagePartsValue) → WasSplit page lists → band < length lists.lists → list ≡ get_or lists.lists band d
    → parts ≡ lists.parts → All (HasKnownSource 0) page.marks
    → list_marks lists.parts.images (band_cmds page lists.parts.band band)
    ≡ map without_number (band_marks page.height lists.parts.band band page.marks)
    → ((images : List ImageValue) (bytes : List ℕ) (a b : List MarkValue) → SayMarks images bytes a
    → SayMarks images bytes b → a ≡ b)
    → (marks : List MarkValue) → SayMarks parts.images list.bytes marks → All (HasKnownSource 0) marks
known_marks page lists band list d parts was less is same known are once marks other =
    let here = list_here page lists band list d was less is in
    known_here lists.parts.images list.bytes page lists.parts.band band
    (list_marks lists.parts.images (band_cmds page lists.parts.band band)) marks (once lists.parts.images list.bytes)
    (said_here page lists band list was less here) are known
    (subst (λ (p : PagePartsValue). SayMarks p.images list.bytes marks) same other)

-- what was drawn of a band is the page's
pub drawn_here : {E : Type 0} (answer : Result BandDotsValue E) (page : PageValue) (lists : BandListsValue) (band : ℕ)
    (list d : BandListValue) (parts : PagePartsValue) → WasSplit page lists → band < length lists.lists
    → list ≡ get_or lists.lists band d → parts ≡ lists.parts
    → ((marks : List MarkValue) → SayMarks parts.images list.bytes marks
    → IfOk answer (λ dots. dots ≡ dots_of (tint_at parts.depth no_tint no_tint) parts list.band marks))
    → band_text lists.parts.depth no_tint page.width page.height lists.parts.band
    (list_marks lists.parts.images (band_cmds page lists.parts.band band)) band
    ≡ band_text lists.parts.depth no_tint page.width page.height lists.parts.band page.marks band
    → IfOk answer (λ dots. dots.dots
    ≡ band_text lists.parts.depth no_tint page.width page.height lists.parts.band page.marks band)
drawn_here (Err _) page lists band list d parts was less is same drawn paints = tt
drawn_here (Ok dots) page lists band list d parts was less is same drawn paints =
    let here = list_here page lists band list d was less is in
    let said = said_here page lists band list was less here in
    let marks = list_marks lists.parts.images (band_cmds page lists.parts.band band) in
    dots_here dots page lists band list marks was here
    (subst (λ (p : PagePartsValue). dots ≡ dots_of (tint_at p.depth no_tint no_tint) p list.band marks) same
    (drawn marks (subst (λ (p : PagePartsValue). SayMarks p.images list.bytes marks) (sym same) said))) paints

-- all bands are drawn
pub bands_all : (page : PageValue) (lists : BandListsValue) (bands : List BandDotsValue) (n : ℕ)
    → WasSplit page lists → n ≡ length lists.lists
    → map dots_in bands ≡ map (band_text lists.parts.depth no_tint page.width page.height lists.parts.band page.marks)
    (range_with_len 0 n)
    → AreBandsOf lists.parts.depth no_tint page.width page.height lists.parts.band page.marks bands
bands_all page lists bands n was is drawn = drawn
    ∙ ap (λ (count : ℕ). map (band_text lists.parts.depth no_tint page.width page.height lists.parts.band page.marks)
    (range_with_len 0 count)) (is ∙ list_count page lists was)
