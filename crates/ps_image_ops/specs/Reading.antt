-- Images that are being read, and the marks that they become (PostScript Language Reference, third edition, 4.10 Images
-- and 4.10.6 Masked Images: stencil masking). Own rules: the matrix and the channels are those of the operator's start,
-- the clip, a mask's colour and the page those of the moment when the rows have come; only rows that came whole are
-- painted, and without one there is no mark.
use Rattle.std.specs.Prelude.{ℕ, zero, suc, ◌==◌, List, Option, Some, None, take, if◌then◌else◌}
use Rattle.geo_matrix.specs.Affine.{MatrixValue}
use Rattle.page_model.specs.Image.{ImageValue}
use Rattle.ps_store.specs.declared.oper.ImageOp.{ImageOp}
use Rattle.gfx_state.specs.Graphics.{GfxValue, image_marked}
use Rattle.img_samples.specs.Gathering.{GatherValue, fed, missing}
use Rattle.img_map.specs.Map.{image_map_of}
use Rattle.ps_image_ops.specs.Parameters.{is_mask}
use Rattle.ps_image_ops.specs.Extent.{extent_of}

-- an image that is being read: its operator, the current matrix and the image's own, and what was delivered
pub record ReadingValue : Type 0 where
  pub op : ImageOp
  pub current : MatrixValue
  pub matrix : MatrixValue
  pub gather : GatherValue

-- how many bytes an image still takes
abbrev pub lacks : ReadingValue → ℕ
lacks r = missing r.gather

-- with bytes more, as many as it takes
abbrev pub read_on : ReadingValue → List ℕ → ReadingValue
read_on r bytes = record r { gather = fed r.gather (take (lacks r) bytes) }

-- with a string read so many times, each time as many of its bytes as it takes
unfoldable pub read_times : ℕ → ReadingValue → List ℕ → ReadingValue
read_times zero r bytes = r
read_times (suc n) r bytes = read_times n (read_on r bytes) bytes

-- with the bytes of a string over and over, until it takes no more, for which as many times suffice as it takes bytes;
-- an empty string gives nothing
abbrev pub read_over : ReadingValue → List ℕ → ReadingValue
read_over r bytes = read_times (lacks r) r bytes

-- the image that the rows make which came whole
abbrev pub image_of : ReadingValue → ImageValue
image_of r = record {
  width = r.gather.format.width;
  rows = r.gather.rows;
  channels = r.gather.format.channels;
  source = None;
  codes = r.gather.codes;
  map = image_map_of r.current r.matrix;
  low = (extent_of r.current r.matrix r.gather.format.width r.gather.rows).low;
  high = (extent_of r.current r.matrix r.gather.format.width r.gather.rows).high;
}

-- the page with what was read, where it has room for it; as it was where no row came whole
abbrev pub placed : ReadingValue → GfxValue → Option GfxValue
placed r g = if r.gather.rows == 0 then Some g else image_marked g (image_of r) (is_mask r.op)
