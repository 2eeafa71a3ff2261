use Rattle.page_output.proofs.Sheets.{sheet_of_bands}
use Rattle.page_output.proofs.laws.sheets_are_pages.Goals as goal

pub returns : goal.returns
returns c depth tint width height band_rows marks bands some are =
    sheet_of_bands depth tint width height band_rows marks bands
    (c.bands_are_the_page.ensures depth tint width height band_rows marks some) are
