-- What an image operator begins, or refuses (PostScript Language Reference, third edition, 8.2 Operator Details: image,
-- colorimage, imagemask).
use Rattle.std.specs.Prelude.{List}
use Rattle.ps_store.specs.declared.obj.Obj.{Obj}
use Rattle.ps_store.specs.declared.oper.ImageOp.{ImageOp}
use Rattle.ps_store.specs.Outcome.{Outcome, Goes, Refuses, or_refusal}
use Rattle.ps_store.specs.Store.{StoreValue}
use Rattle.gfx_state.specs.Graphics.{GfxValue}
use Rattle.img_samples.specs.Gathering.{nothing_of}
use Rattle.ps_image_ops.specs.declared.parameters.Parameters.{Parameters}
use Rattle.ps_image_ops.specs.declared.reading.Begun.{Begun}
use Rattle.ps_image_ops.specs.Parameters.{is_mask, told}
use Rattle.ps_image_ops.specs.declared.conditions.Sampling.{Sampling}
use Rattle.ps_image_ops.specs.Conditions.{sampling_of, fits_page, format_of}

-- an image that begins, of which nothing was read
abbrev pub begun : ImageOp → Parameters → Sampling → StoreValue → GfxValue → Begun
begun op told sampling s g = record {
  operands = told.operands;
  source = told.source;
  reading = record {
    op = op;
    current = g.state.matrix;
    matrix = sampling.matrix;
    gather = nothing_of (format_of (is_mask op) told sampling s);
  };
}

-- what an image operator begins by what it is told: that is in range, and the page has room for it
abbrev pub told_row : ImageOp → Parameters → StoreValue → GfxValue → Outcome Begun
told_row op told s g =
    or_refusal (sampling_of (is_mask op) told s) (λ sampling. or_refusal (fits_page told.channels sampling g)
    (λ sampling. Goes (begun op told sampling s g)))

-- what an image operator begins: its operands are of the right number and types, and what they say is allowed
unfoldable pub image_row : ImageOp → List Obj → StoreValue → GfxValue → Outcome Begun
image_row op operands s g = or_refusal (told op operands s g) (λ told. told_row op told s g)
