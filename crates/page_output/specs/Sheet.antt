-- The bytes of a page from the dots of its bands (Netpbm, PPM, binary form P6). Own rule: the bands stand one after
-- another from the top, with nothing between.
use Rattle.std.specs.Prelude.{ℕ, ◌≡◌, List, ◌++◌, map}
use Rattle.std.specs.List.{flat_map, range_with_len}
use Rattle.press_fault.specs.Plane.{CodeValue}
use Rattle.page_model.specs.Marking.{MarkValue}
use Rattle.page_model.specs.declared.page.Depth.{Depth}
use Rattle.page_model.specs.Pages.{header, band_text, band_count}
use Rattle.list_player.specs.Playing.{BandDotsValue}

-- the bytes of a band's dots
abbrev pub dots_in : BandDotsValue → List ℕ
dots_in band = band.dots

-- a page in bands: its header, and then the dots of each band
abbrev pub sheet : Depth → ℕ → ℕ → List BandDotsValue → List ℕ
sheet depth width height bands = header depth width height ++ flat_map dots_in bands

-- bands of so many rows are those of a page with these marks, in order from the top; tint gives the colour of a linked
-- code by its source, at the depth
abbrev pub AreBandsOf : Depth → (ℕ → CodeValue → List ℕ) → ℕ → ℕ → ℕ → List MarkValue → List BandDotsValue → Type 0
AreBandsOf depth tint width height band_rows marks bands = map dots_in bands
    ≡ map (band_text depth tint width height band_rows marks) (range_with_len 0 (band_count height band_rows))
