use Rattle.std.proofs.Common.{◌∙◌}
use Rattle.page_output.proofs.Sheets.{band_passed, band_failed}
use Rattle.page_output.proofs.output.send_bands.Goals as goal

pub returns-in-Err-clause-err : goal.returns-in-Err-clause-err
returns-in-Err-clause-err g c = band_failed _ _ _ _ _ _ c.args.bands.now c.loop-band.band-index _ _ _
    c.loop-band-test.true c.band-item.is c.items.ensures c.band.view_is c.loop-band.invariant.passed
    c.in-Err.ensures.err

pub loop-band-preserved : goal.loop-band-preserved
loop-band-preserved g c = record {
  passed = band_passed _ _ _ _ _ _ c.args.bands.now c.loop-band.band-index _ _ _ c.loop-band-test.true
      c.band-item.is c.items.ensures c.band.view_is c.loop-band.invariant.passed c.in-Ok.ensures.ok;
  no_fault = c.in-Ok.ensures.no_fault ∙ c.loop-band.invariant.no_fault;
}
