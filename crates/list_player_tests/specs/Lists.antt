-- Generated pages, and the lists that they are split into. Own rule: a page has a few clips, of which each mark takes
-- one by its number.
use Rattle.std.specs.Prelude.{◌≡◌, ℕ, List, [], All, slice_index_or}
use Rattle.page_model.specs.Marking.{RegionValue}
use Rattle.page_model.specs.Page.{PageValue}
use Rattle.page_model.specs.Cover.{HasChannels}
use Rattle.page_model.specs.declared.page.Depth.TheVariants.{Eight}
use Rattle.band_writer.specs.Parts.{BandListsValue, IsSplit}
use Rattle.list_player_tests.specs.Tints.{channels_of}

-- the clip of a number, of some clips
abbrev pub clip_at : List (List RegionValue) → ℕ → List RegionValue
clip_at clips number = slice_index_or clips number []

-- a page whose marks go by three sources, with the channels of each
pub record IsTinted (page : PageValue) : Type 0 where
  pub sources : page.sources ≡ 3
  pub channels : All (HasChannels channels_of) page.marks

-- lists that a page was split into, whatever depth was set since
abbrev pub WasSplit : PageValue → BandListsValue → Type 0
WasSplit page lists = IsSplit page lists.parts.band (record lists { parts = record lists.parts { depth = Eight } })
