-- The dots of bands, one after another.
use Rattle.std.proofs.Common.{◌≡◌, ◌<◌, ◌+◌, ◌∙◌, ◌++◌, ap, sym, refl, ℕ, List, [], ◌∷◌, take, drop, map, get_or}
use Rattle.std.proofs.Common.{append_assoc, length, arith, subst, Option}
use Rattle.std.specs.List.{flat_map, range_with_len}
use Rattle.std.proofs.lemmas.List.{append-nil, take-append-drop, take_more, flat_map_more}
use Rattle.std.proofs.lemmas.Grind.{flat_map-append}
use Rattle.press_fault.specs.Plane.{CodeValue}
use Rattle.page_model.specs.Marking.{MarkValue}
use Rattle.page_model.specs.declared.page.Depth.{Depth}
use Rattle.page_model.specs.Pages.{header, band_text, band_count, dots_text, page_text}
use Rattle.list_player.specs.Playing.{BandDotsValue}
use Rattle.page_output.specs.Sheet.{dots_in, sheet, AreBandsOf}
use Rattle.page_output.specs.Code.Taken.{PassesOn, PassesFront}
use Rattle.page_output.specs.declared.tally.Tally.{Tally}
use Rattle.page_output.proofs.Following.{passes_both, front_of_first, front_of_second}

-- what a function gives for the items of a list, one after another
flat_joined : {X : Type 0} (f : X → List ℕ) (xs : List X) → flat_map f xs ≡ flat_map (λ (z : List ℕ). z) (map f xs)
flat_joined f [] = refl
flat_joined f (x ∷ xs) = ap (λ (zs : List ℕ). f x ++ zs) (flat_joined f xs)

-- two functions that give the same for two lists, item by item, give the same one after another
flat_same : {X Y : Type 0} (f : X → List ℕ) (g : Y → List ℕ) (xs : List X) (ys : List Y) → map f xs ≡ map g ys
    → flat_map f xs ≡ flat_map g ys
flat_same f g xs ys same = flat_joined f xs
    ∙ (ap (λ (zs : List (List ℕ)). flat_map (λ (z : List ℕ). z) zs) same ∙ sym (flat_joined g ys))

-- the header and a page's bands are the page's text, where the bands are its dots
pub sheet_of_bands : (depth : Depth) (tint : ℕ → CodeValue → List ℕ) (width height band_rows : ℕ)
    (marks : List MarkValue) (bands : List BandDotsValue)
    → flat_map (band_text depth tint width height band_rows marks) (range_with_len 0 (band_count height band_rows))
    ≡ dots_text depth tint width height marks → AreBandsOf depth tint width height band_rows marks bands
    → sheet depth width height bands ≡ page_text depth tint width height marks
unfolding page_text
sheet_of_bands depth tint width height band_rows marks bands whole are =
    ap (λ (dots : List ℕ). header depth width height ++ dots)
    (flat_same dots_in (band_text depth tint width height band_rows marks) bands
    (range_with_len 0 (band_count height band_rows)) are ∙ whole)

-- the dots of one band more
pub band_taken : (bands : List BandDotsValue) (i : ℕ) (band : BandDotsValue) (dots : List ℕ) → i < length bands
    → band ≡ get_or bands i band → dots ≡ band.dots
    → flat_map dots_in (take (i + 1) bands) ≡ flat_map dots_in (take i bands) ++ dots
band_taken bands i band dots inside is same = ap (λ (bs : List BandDotsValue). flat_map dots_in bs)
    (take_more bands i band inside ∙ ap (λ (b : BandDotsValue). take i bands ++ b ∷ []) (sym is))
    ∙ (flat_map-append dots_in (take i bands) (band ∷ [])
    ∙ ap (λ (ds : List ℕ). flat_map dots_in (take i bands) ++ ds) (append-nil band.dots ∙ sym same))

-- the dots of all bands begin with those of the first bands
pub bands_begin : (bands : List BandDotsValue) (i : ℕ)
    → flat_map dots_in (take i bands) ++ flat_map dots_in (drop i bands) ≡ flat_map dots_in bands
bands_begin bands i = sym (flat_map-append dots_in (take i bands) (drop i bands))
    ∙ ap (λ (bs : List BandDotsValue). flat_map dots_in bs) (take-append-drop i bands)

-- the sink and the tally have the dots of one band more
pub band_passed : (old mid new : Option (List ℕ)) (before between after : Tally) (bands : List BandDotsValue) (i : ℕ)
    (band inside : BandDotsValue) (dots : List ℕ) → i < length bands → band ≡ get_or bands i band → dots ≡ inside.dots
    → inside ≡ band → PassesOn old mid before between (flat_map dots_in (take i bands))
    → PassesOn mid new between after dots → PassesOn old new before after (flat_map dots_in (take (i + 1) bands))
band_passed old mid new before between after bands i band inside dots less is same seen so_far more =
    subst (λ (ds : List ℕ). PassesOn old new before after ds)
    (sym (band_taken bands i band dots less is (same ∙ ap (λ (b : BandDotsValue). b.dots) seen)))
    (passes_both old mid new before between after (flat_map dots_in (take i bands)) dots so_far more)

-- they have a front of all dots where a write failed at a band
pub band_failed : (old mid new : Option (List ℕ)) (before between after : Tally) (bands : List BandDotsValue) (i : ℕ)
    (band inside : BandDotsValue) (dots : List ℕ) → i < length bands → band ≡ get_or bands i band → dots ≡ inside.dots
    → inside ≡ band → PassesOn old mid before between (flat_map dots_in (take i bands))
    → PassesFront mid new between after dots → PassesFront old new before after (flat_map dots_in bands)
band_failed old mid new before between after bands i band inside dots less is same seen so_far more =
    subst (λ (ds : List ℕ). PassesFront old new before after ds) (bands_begin bands (i + 1))
    (front_of_first old new before after (flat_map dots_in (take (i + 1) bands)) (flat_map dots_in (drop (i + 1) bands))
    (subst (λ (ds : List ℕ). PassesFront old new before after ds)
    (sym (band_taken bands i band dots less is (same ∙ ap (λ (b : BandDotsValue). b.dots) seen)))
    (front_of_second old mid new before between after (flat_map dots_in (take i bands)) dots so_far more)))
