-- The bands of a page of three sources.
use Rattle.std.proofs.Common.{◌≡◌, ◌<◌, ◌∙◌, ap, sym, subst, refl, ℕ, List, [], ◌∷◌, map, length, get_or}
use Rattle.std.proofs.Common.{Option, Some, None, arith, All, Bool, true, false, zero, suc}
use Rattle.std.specs.Prelude.{◌==◌, Contains, cond}
use Rattle.std.specs.List.{filter, filter_map, cons_option, dedup, dedup_from}
use Rattle.std.proofs.lemmas.List.Elements.{All-weaker, All-filter, All-map, All-head, All-tail, All-nil, All-cons}
use Rattle.std.proofs.lemmas.List.FromFn.{get_or-map-range_with_len, length-map-range_with_len}
use Rattle.page_model.specs.Image.{ImageValue}
use Rattle.page_model.specs.Marking.{MarkValue, PaintValue, Flatly, Pictured, Masked}
use Rattle.page_model.specs.Page.{PageValue, IsPage, IsNumbered, painting_source, HasKnownSource, HaveNumberedClips}
use Rattle.page_model.specs.Cover.{HasChannels, PaintingHasChannels}
use Rattle.page_model.specs.Pages.{band_count}
use Rattle.band_writer.specs.Bands.{mark_source, needs_of, meets, band_marks}
use Rattle.band_writer.specs.Said.{list_marks, without_number, as_said}
use Rattle.band_writer.specs.Parts.{BandListsValue, BandListValue, PagePartsValue, band_cmds, band_list}
use Rattle.list_player.specs.Playing.{SayMarks}
use Rattle.list_player_tests.specs.Tints.{channels_of}
use Rattle.list_player_tests.specs.Lists.{WasSplit}

-- each source may be lent
each_lent : (source : ℕ) → source < 3 → Contains (0 ∷ 1 ∷ 2 ∷ []) source
each_lent zero h = (0, omega arith, refl)
each_lent (suc zero) h = (1, omega arith, refl)
each_lent (suc (suc zero)) h = (2, omega arith, refl)
each_lent (suc (suc (suc n))) h = absurd (let less : suc (suc (suc n)) < 3 = h in omega (arith, less))

-- the source of a mark ahead of others
one_more : (source : Option ℕ) (rest : List ℕ) → IsNumbered 3 source → All (λ s. s < 3) rest
    → All (λ s. s < 3) (cons_option source rest)
one_more None rest h all = all
one_more (Some source) rest h all = All-cons (λ s. s < 3) source rest h all

-- the sources of marks
sources_of : (marks : List MarkValue) → All (HasKnownSource 3) marks
    → All (λ s. s < 3) (filter_map mark_source marks)
sources_of [] h = All-nil (λ s. s < 3)
sources_of (mark ∷ marks) h = one_more (mark_source mark) (filter_map mark_source marks)
    (All-head (HasKnownSource 3) mark marks h) (sources_of marks (All-tail (HasKnownSource 3) mark marks h))

-- one of them, and those behind it that aren't the one before
picked : (same : Bool) (first : ℕ) (kept others : List ℕ) → first < 3 → All (λ s. s < 3) kept
    → All (λ s. s < 3) others → All (λ s. s < 3) (cond same kept (first ∷ others))
picked true first kept others h a b = a
picked false first kept others h a b = All-cons (λ s. s < 3) first others h b

-- what is left of them from one on
left_from : (first : ℕ) (sources : List ℕ) → first < 3 → All (λ s. s < 3) sources
    → All (λ s. s < 3) (dedup_from ◌==◌ first sources)
left_from first [] h all = All-cons (λ s. s < 3) first [] h (All-nil (λ s. s < 3))
left_from first (x ∷ xs) h all =
    let here = All-head (λ s. s < 3) x xs all in
    let rest = All-tail (λ s. s < 3) x xs all in
    picked (x == first) first (dedup_from ◌==◌ first xs) (dedup_from ◌==◌ x xs) h (left_from first xs h rest)
    (left_from x xs here rest)

-- what is left of them
left_of : (sources : List ℕ) → All (λ s. s < 3) sources → All (λ s. s < 3) (dedup ◌==◌ sources)
left_of [] all = All-nil (λ s. s < 3)
left_of (x ∷ xs) all = left_from x xs (All-head (λ s. s < 3) x xs all) (All-tail (λ s. s < 3) x xs all)

-- marks of the three sources need no other
pub needs_here : (marks : List MarkValue) → All (HasKnownSource 3) marks
    → All (λ source. Contains (0 ∷ 1 ∷ 2 ∷ []) source) (needs_of marks)
unfolding needs_of
needs_here marks h = All-weaker (λ s. s < 3) (λ source. Contains (0 ∷ 1 ∷ 2 ∷ []) source) each_lent
    (dedup ◌==◌ (filter_map mark_source marks)) (left_of (filter_map mark_source marks) (sources_of marks h))

-- a mark as its paint has it said goes by the source of the paint
said_source : (mark : MarkValue) (paint : PaintValue) → IsNumbered 3 (painting_source paint)
    → HasKnownSource 3 (as_said mark paint)
said_source mark (Flatly ink) h = h
said_source mark (Pictured image) h = h
said_source mark (Masked image ink) h = h

-- and has its channels
said_channels : (mark : MarkValue) (paint : PaintValue) → PaintingHasChannels channels_of paint
    → HasChannels channels_of (as_said mark paint)
said_channels mark (Flatly ink) h = h
said_channels mark (Pictured image) h = h
said_channels mark (Masked image ink) h = h

-- the marks of a band as they are said go by known sources
known_said : (holds : MarkValue → Bool) (marks : List MarkValue) → All (HasKnownSource 3) marks
    → All (HasKnownSource 3) (map without_number (filter holds marks))
known_said holds marks h = All-map (HasKnownSource 3) without_number (filter holds marks)
    (All-weaker (HasKnownSource 3) (λ (mark : MarkValue). HasKnownSource 3 (without_number mark))
    (λ mark known. said_source mark mark.paint known) (filter holds marks)
    (All-filter holds (HasKnownSource 3) marks h))

-- and have their channels
channels_said : (holds : MarkValue → Bool) (marks : List MarkValue) → All (HasChannels channels_of) marks
    → All (HasChannels channels_of) (map without_number (filter holds marks))
channels_said holds marks h = All-map (HasChannels channels_of) without_number (filter holds marks)
    (All-weaker (HasChannels channels_of) (λ (mark : MarkValue). HasChannels channels_of (without_number mark))
    (λ mark has. said_channels mark mark.paint has) (filter holds marks)
    (All-filter holds (HasChannels channels_of) marks h))

-- how many lists a split has
list_count : (page : PageValue) (lists : BandListsValue) → WasSplit page lists
    → length lists.lists ≡ band_count page.height lists.parts.band
list_count page lists was = ap (λ (all : List BandListValue). length all) was.lists
    ∙ length-map-range_with_len (band_list page lists.parts.band) 0 (band_count page.height lists.parts.band)

-- the list of a band
list_here : (page : PageValue) (lists : BandListsValue) (band : ℕ) (list d : BandListValue) → WasSplit page lists
    → band < length lists.lists → list ≡ get_or lists.lists band d → list ≡ band_list page lists.parts.band band
list_here page lists band list d was less is =
    let count = list_count page lists was in
    is ∙ (ap (λ (all : List BandListValue). get_or all band d) was.lists
    ∙ get_or-map-range_with_len (band_list page lists.parts.band) 0 (band_count page.height lists.parts.band) band band
    d (let l : band < length lists.lists = less in let c = count in omega (arith, l, c)) (omega arith))

-- it says the marks of the split
said_here : (page : PageValue) (lists : BandListsValue) (band : ℕ) (list : BandListValue) → WasSplit page lists
    → band < length lists.lists → list ≡ band_list page lists.parts.band band
    → SayMarks lists.parts.images list.bytes (list_marks lists.parts.images (band_cmds page lists.parts.band band))
said_here page lists band list was less is = record {
  cmds = band_cmds page lists.parts.band band;
  commands = was.commands band (let l : band < length lists.lists = less in let c = list_count page lists was in
      omega (arith, l, c));
  are = ap (λ (l : BandListValue). l.bytes) is;
  say = refl;
}

-- a page's marks go by its sources
pub page_known : (p page : PageValue) → p ≡ page → IsPage p.width p.height p.sources p.marks → page.sources ≡ 3
    → All (HasKnownSource 3) page.marks
page_known p page is kept three =
    let sources : p.sources ≡ 3 = ap (λ (q : PageValue). q.sources) is ∙ three in
    subst (λ (q : PageValue). All (HasKnownSource 3) q.marks) is
    (subst (λ (n : ℕ). All (HasKnownSource n) p.marks) sources kept.known)

-- and those of one clip number have one clip
pub page_numbered : (p page : PageValue) → p ≡ page → IsPage p.width p.height p.sources p.marks
    → HaveNumberedClips page.marks
page_numbered p page is kept = subst (λ (q : PageValue). HaveNumberedClips q.marks) is kept.numbered

-- the band is one of the page
pub band_few : (page : PageValue) (lists : BandListsValue) (band : ℕ) (list d : BandListValue) (parts : PagePartsValue)
    → WasSplit page lists → band < length lists.lists → list ≡ get_or lists.lists band d → parts ≡ lists.parts
    → list.band < band_count parts.height parts.band
band_few page lists band list d parts was less is same =
    let here : list.band ≡ band = ap (λ (l : BandListValue). l.band) (list_here page lists band list d was less is) in
    let height : parts.height ≡ page.height = ap (λ (p : PagePartsValue). p.height) same
    ∙ ap (λ (p : PagePartsValue). p.height) was.parts in
    let rows : parts.band ≡ lists.parts.band = ap (λ (p : PagePartsValue). p.band) same in
    let few : band < band_count page.height lists.parts.band =
    subst (λ (n : ℕ). band < n) (list_count page lists was) less in
    subst (λ (b : ℕ). b < band_count parts.height parts.band) (sym here)
    (subst (λ (h : ℕ). band < band_count h parts.band) (sym height)
    (subst (λ (r : ℕ). band < band_count page.height r) (sym rows) few))

-- the marks that a band's list says are those that the band holds
pub marks_here : (page : PageValue) (lists : BandListsValue) (band : ℕ) (list d : BandListValue)
    (parts : PagePartsValue) → WasSplit page lists → band < length lists.lists → list ≡ get_or lists.lists band d
    → parts ≡ lists.parts
    → list_marks lists.parts.images (band_cmds page lists.parts.band band)
    ≡ map without_number (band_marks page.height lists.parts.band band page.marks)
    → ((images : List ImageValue) (bytes : List ℕ) (a b : List MarkValue) → SayMarks images bytes a
    → SayMarks images bytes b → a ≡ b)
    → (marks : List MarkValue) → SayMarks parts.images list.bytes marks
    → map without_number (band_marks page.height lists.parts.band band page.marks) ≡ marks
marks_here page lists band list d parts was less is same are once marks other =
    let here = list_here page lists band list d was less is in
    sym are ∙ once lists.parts.images list.bytes
    (list_marks lists.parts.images (band_cmds page lists.parts.band band)) marks
    (said_here page lists band list was less here)
    (subst (λ (p : PagePartsValue). SayMarks p.images list.bytes marks) same other)

-- so they go by known sources where those of the page do
pub known_here : (page : PageValue) (rows band : ℕ) (marks : List MarkValue)
    → map without_number (band_marks page.height rows band page.marks) ≡ marks → All (HasKnownSource 3) page.marks
    → All (HasKnownSource 3) marks
known_here page rows band marks are known =
    subst (λ (ms : List MarkValue). All (HasKnownSource 3) ms) are (known_said (meets page.height rows band) page.marks
    known)

-- and have their channels
pub channels_here : (page : PageValue) (rows band : ℕ) (marks : List MarkValue)
    → map without_number (band_marks page.height rows band page.marks) ≡ marks
    → All (HasChannels channels_of) page.marks → All (HasChannels channels_of) marks
channels_here page rows band marks are has =
    subst (λ (ms : List MarkValue). All (HasChannels channels_of) ms) are
    (channels_said (meets page.height rows band) page.marks has)
