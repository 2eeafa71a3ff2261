-- Images that are read leave what is of the store.
use Rattle.std.specs.Prelude.{ℤ, nat_lt, ◌==◌, ◌||◌, slice_get, codes, if◌then◌else◌}
use Rattle.std.specs.Option.{option_and_then}
use Rattle.std.proofs.Common.{ℕ, ◌+◌, ◌<◌, true, false, Bool, List, [], ◌∷◌, length, drop, Option, Some, None}
use Rattle.std.proofs.Common.{Result, Ok, Err}
use Rattle.press_fault.specs.declared.names.PsName.{PsName}
use Rattle.press_fault.specs.declared.names.PsName.TheVariants.{StackUnderflow, TypeCheck, RangeCheck, Undefined}
use Rattle.press_fault.specs.declared.names.PsName.TheVariants.{LimitCheck, Timeout, ExecStackOverflow}
use Rattle.ps_store.specs.declared.key.Key.TheVariants.{Named}
use Rattle.ps_store.specs.declared.obj.Obj.{Obj}
use Rattle.ps_store.specs.declared.obj.Obj.TheVariants.{Text, Array, File}
use Rattle.ps_store.specs.declared.oper.ImageOp.{ImageOp}
use Rattle.ps_store.specs.declared.oper.ImageOp.TheVariants as OnImage
use Rattle.ps_store.specs.declared.oper.Oper.TheVariants.{Image as Images}
use Rattle.ps_store.specs.Operators.{name_of}
use Rattle.ps_store.specs.Outcome.{Outcome, Goes as GoesOn, Refuses, or_refusal}
use Rattle.ps_store.specs.Parts.{PartValue}
use Rattle.ps_store.specs.Store.{StoreValue, bytes_of}
use Rattle.gfx_state.specs.Colour.{channels_of}
use Rattle.gfx_state.specs.Graphics.{GfxValue}
use Rattle.ps_image_ops.specs.declared.parameters.DataSource.{DataSource}
use Rattle.ps_image_ops.specs.declared.parameters.DataSource.TheVariants.{Bytes, Program, Procedure}
use Rattle.ps_image_ops.specs.declared.reading.Begun.{Begun}
use Rattle.ps_image_ops.specs.Parameters.{is_mask, numbers_of, source_of, integer_at, boolean_at, numbers_at, source_at}
use Rattle.ps_image_ops.specs.Parameters.{gray_image, operand_mask, channels_told, components_image, colour_image}
use Rattle.ps_image_ops.specs.Parameters.{value_in, integer_in, bits_by, decode_by, has_keys, is_type_one}
use Rattle.ps_image_ops.specs.Parameters.{described, dictionary_image, dictionary_on_top, image_told, imagemask_told}
use Rattle.ps_image_ops.specs.Parameters.{colorimage_told, told}
use Rattle.ps_image_ops.specs.Conditions.{sampling_of, fits_page}
use Rattle.ps_image_ops.specs.Reading.{ReadingValue, lacks, read_on, read_over, placed}
use Rattle.ps_image_ops.specs.Rows.{begun, told_row, image_row}
use Rattle.ps_machine.specs.declared.frames.Frame.{Frame}
use Rattle.ps_machine.specs.declared.frames.Frame.TheVariants.{Image}
use Rattle.ps_machine.specs.declared.turn.End.TheVariants.{Ps}
use Rattle.ps_machine.specs.State.{BodyValue}
use Rattle.ps_machine.specs.Errors.{Goes, Ends, failed, counted}
use Rattle.ps_machine.specs.Images.{after_placed, finished, called, behind_bytes, from_source, after_image}
use Rattle.ps_machine.specs.Images.{reads_on, after_procedure, returned}
use Rattle.ps_laws.specs.Stored.{Each, IsOf, IsFrameOf}
use Rattle.ps_laws.proofs.Operands.{by_test}
use Rattle.ps_laws.proofs.Calling.{with_call}
use Rattle.ps_laws.proofs.Each.{Sound, OfSome, each_get, each_drop}
use Rattle.ps_laws.proofs.StoredData.{found_is}
use Rattle.ps_laws.proofs.StoredFailing.{Stored, Keeps, keeps_failed}

-- the procedure of a data source, if it has one, is of a store of m composites
abbrev SourceOf : ℕ → DataSource → Type 0
SourceOf m (Bytes p) = Unit {0}
SourceOf m Program = Unit {0}
SourceOf m (Procedure p) = p.id < m

source_is : (m : ℕ) (o : Obj) → IsOf m o → OfSome (SourceOf m) (source_of o)
source_is m (Text p) h = tt
source_is m File h = tt
source_is m (Array p true) h = h
source_is m o h = tt

source_if : (m : ℕ) (o : Option Obj) → OfSome (IsOf m) o → OfSome (SourceOf m) (option_and_then source_of o)
source_if m (Some o) h = source_is m o h
source_if m None h = tt

-- a fact holds of what is told
abbrev IfTold : {A : Type 0} → Result A PsName → (A → Type 0) → Type 0
IfTold (Ok a) P = P a
IfTold (Err name) P = Unit {0}

-- a test chooses
by_check : {S : Type 0} (b : Bool) (x y : S) (P : S → Type 0) → P x → P y → P (if b then x else y)
by_check b x y P h k = by_test P b x y (λ e. h) (λ e. k)

of_gray : (m : ℕ) (width height bits : Option ℤ) (matrix : Option PartValue) (source : Option DataSource) →
    OfSome (SourceOf m) source → IfTold (gray_image width height bits matrix source) (λ told. SourceOf m told.source)
of_gray m (Some width) (Some height) (Some bits) (Some matrix) (Some source) h = h
of_gray m width height bits matrix source h = tt

of_mask : (m : ℕ) (width height : Option ℤ) (ones : Option Bool) (matrix : Option PartValue)
    (source : Option DataSource) → OfSome (SourceOf m) source →
    IfTold (operand_mask width height ones matrix source) (λ told. SourceOf m told.source)
of_mask m (Some width) (Some height) (Some ones) (Some matrix) (Some source) h = h
of_mask m width height ones matrix source h = tt

of_components : (m : ℕ) (width height bits : ℤ) (matrix : PartValue) (source : DataSource) (apart : Bool)
    (channels : Option ℕ) → SourceOf m source →
    IfTold (components_image width height bits matrix source apart channels) (λ told. SourceOf m told.source)
of_components m width height bits matrix source false (Some channels) h = h
of_components m width height bits matrix source apart channels h = tt

of_colour : (m : ℕ) (width height bits : Option ℤ) (matrix : Option PartValue) (source : Option DataSource)
    (apart : Option Bool) (components : Option ℤ) → OfSome (SourceOf m) source →
    IfTold (colour_image width height bits matrix source apart components) (λ told. SourceOf m told.source)
of_colour m (Some width) (Some height) (Some bits) (Some matrix) (Some source) (Some apart) (Some components) h =
    of_components m width height bits matrix source apart (channels_told components) h
of_colour m width height bits matrix source apart components h = tt

of_described : (m channels : ℕ) (image_type width height bits : Option ℤ) (matrix : Option PartValue)
    (decode : _) (source : Option DataSource) → OfSome (SourceOf m) source →
    IfTold (described channels image_type width height bits matrix decode source) (λ told. SourceOf m told.source)
of_described m channels (Some image_type) (Some width) (Some height) (Some bits) (Some matrix) (Some decode)
    (Some source) h = by_check (is_type_one image_type) (Ok (record {
      operands = 1;
      width = width;
      height = height;
      bits = bits;
      channels = channels;
      matrix = matrix;
      decode = decode;
      source = source;
    })) (Err RangeCheck) (λ result. IfTold result (λ told. SourceOf m told.source)) h tt
of_described m channels image_type width height bits matrix decode source h = tt

of_dictionary : (mask : Bool) (channels : ℕ) (s : StoreValue) (dict : ℕ) → Sound s →
    IfTold (dictionary_image mask channels s dict) (λ told. SourceOf (length s.made) told.source)
of_dictionary mask channels s dict h = by_check (has_keys mask s dict)
    (described channels (integer_in s dict (codes "ImageType")) (integer_in s dict (codes "Width"))
    (integer_in s dict (codes "Height")) (bits_by mask (value_in s dict (codes "BitsPerComponent")))
    (option_and_then (numbers_of s) (value_in s dict (codes "ImageMatrix")))
    (decode_by s (value_in s dict (codes "Decode")))
    (option_and_then source_of (value_in s dict (codes "DataSource"))))
    (Err Undefined) (λ result. IfTold result (λ told. SourceOf (length s.made) told.source))
    (of_described (length s.made) channels (integer_in s dict (codes "ImageType"))
    (integer_in s dict (codes "Width")) (integer_in s dict (codes "Height"))
    (bits_by mask (value_in s dict (codes "BitsPerComponent")))
    (option_and_then (numbers_of s) (value_in s dict (codes "ImageMatrix")))
    (decode_by s (value_in s dict (codes "Decode")))
    (option_and_then source_of (value_in s dict (codes "DataSource")))
    (source_if (length s.made) (value_in s dict (codes "DataSource"))
    (found_is s dict (Named (codes "DataSource")) h))) tt

of_source_at : (m : ℕ) (os : List Obj) (depth : ℕ) → Each (IsOf m) os → OfSome (SourceOf m) (source_at os depth)
of_source_at m os depth h = source_if m (slice_get os depth) (each_get (IsOf m) os depth h)

of_image_told : (dict : Option ℕ) (os : List Obj) (s : StoreValue) (g : GfxValue) → Sound s →
    Each (IsOf (length s.made)) os →
    IfTold (image_told dict os s g) (λ told. SourceOf (length s.made) told.source)
of_image_told (Some dict) os s g h k = of_dictionary false (channels_of g.state.space) s dict h
of_image_told None os s g h k = by_check (nat_lt (length os) 5) (Err StackUnderflow)
    (gray_image (integer_at os 4) (integer_at os 3) (integer_at os 2) (numbers_at s os 1) (source_at os 0))
    (λ result. IfTold result (λ told. SourceOf (length s.made) told.source)) tt
    (of_gray (length s.made) (integer_at os 4) (integer_at os 3) (integer_at os 2) (numbers_at s os 1)
    (source_at os 0) (of_source_at (length s.made) os 0 k))

of_imagemask_told : (dict : Option ℕ) (os : List Obj) (s : StoreValue) → Sound s → Each (IsOf (length s.made)) os →
    IfTold (imagemask_told dict os s) (λ told. SourceOf (length s.made) told.source)
of_imagemask_told (Some dict) os s h k = of_dictionary true 1 s dict h
of_imagemask_told None os s h k = by_check (nat_lt (length os) 5) (Err StackUnderflow)
    (operand_mask (integer_at os 4) (integer_at os 3) (boolean_at os 2) (numbers_at s os 1) (source_at os 0))
    (λ result. IfTold result (λ told. SourceOf (length s.made) told.source)) tt
    (of_mask (length s.made) (integer_at os 4) (integer_at os 3) (boolean_at os 2) (numbers_at s os 1)
    (source_at os 0) (of_source_at (length s.made) os 0 k))

of_colorimage_told : (os : List Obj) (s : StoreValue) → Each (IsOf (length s.made)) os →
    IfTold (colorimage_told os s) (λ told. SourceOf (length s.made) told.source)
of_colorimage_told os s k = by_check (nat_lt (length os) 7) (Err StackUnderflow)
    (colour_image (integer_at os 6) (integer_at os 5) (integer_at os 4) (numbers_at s os 3) (source_at os 2)
    (boolean_at os 1) (integer_at os 0))
    (λ result. IfTold result (λ told. SourceOf (length s.made) told.source)) tt
    (of_colour (length s.made) (integer_at os 6) (integer_at os 5) (integer_at os 4) (numbers_at s os 3)
    (source_at os 2) (boolean_at os 1) (integer_at os 0) (of_source_at (length s.made) os 2 k))

of_told : (op : ImageOp) (os : List Obj) (s : StoreValue) (g : GfxValue) → Sound s → Each (IsOf (length s.made)) os →
    IfTold (told op os s g) (λ told. SourceOf (length s.made) told.source)
unfolding told
of_told OnImage.Image os s g h k = of_image_told (dictionary_on_top os) os s g h k
of_told OnImage.Imagemask os s g h k = of_imagemask_told (dictionary_on_top os) os s h k
of_told OnImage.Colorimage os s g h k = of_colorimage_told os s k

-- the procedure of an image that begins is of a store of m composites
abbrev pub BegunOf : ℕ → Outcome Begun → Type 0
BegunOf m (GoesOn begun) = SourceOf m begun.source
BegunOf m (Refuses name) = Unit {0}

-- what follows where nothing is refused
by_result : {A S : Type 0} (result : Result A PsName) (go : A → Outcome S) (Q : A → Type 0) (P : Outcome S → Type 0) →
    IfTold result Q → ((a : A) → Q a → P (go a)) → ((name : PsName) → P (Refuses name)) → P (or_refusal result go)
by_result (Ok a) go Q P h f g = f a h
by_result (Err name) go Q P h f g = g name

if_any : {A : Type 0} (result : Result A PsName) → IfTold result (λ a. Unit {0})
if_any (Ok a) = tt
if_any (Err name) = tt

-- the procedure of an image that begins is of the store
pub image_of : (op : ImageOp) (os : List Obj) (s : StoreValue) (g : GfxValue) → Sound s →
    Each (IsOf (length s.made)) os → BegunOf (length s.made) (image_row op os s g)
unfolding image_row
image_of op os s g h k = by_result (told op os s g) (λ t. told_row op t s g)
    (λ t. SourceOf (length s.made) t.source) (BegunOf (length s.made)) (of_told op os s g h k)
    (λ t is. by_result (sampling_of (is_mask op) t s)
    (λ sampling. or_refusal (fits_page t.channels sampling g) (λ fitted. GoesOn (begun op t fitted s g)))
    (λ sampling. Unit {0}) (BegunOf (length s.made)) (if_any (sampling_of (is_mask op) t s))
    (λ sampling any. by_result (fits_page t.channels sampling g) (λ fitted. GoesOn (begun op t fitted s g))
    (λ fitted. Unit {0}) (BegunOf (length s.made)) (if_any (fits_page t.channels sampling g)) (λ fitted all. is)
    (λ name. tt))
    (λ name. tt))
    (λ name. tt)

keeps_placed : (g : Option GfxValue) (r : ReadingValue) (os : List Obj) (s : BodyValue) →
    Each (IsOf (length s.store.made)) os → Stored s → Keeps (after_placed g r os s)
keeps_placed (Some g) r os s k h = (h.0, k, h.2, h.3, h.4, h.5, h.6)
keeps_placed None r os s k h = keeps_failed LimitCheck (name_of (Images r.op)) s h

keeps_called : (r : ReadingValue) (p : PartValue) (os : List Obj) (s : BodyValue) → p.id < length s.store.made →
    Each (IsOf (length s.store.made)) os → Stored s → Keeps (called r p os s)
keeps_called r p os s f k h = by_test Keeps (nat_lt (length s.levels) 250)
    (counted s (λ t. Goes (with_call r p os t))) (failed ExecStackOverflow (name_of (Images r.op)) s)
    (λ e. by_test Keeps (nat_lt s.count 100000000)
    (Goes (with_call r p os (record s { count = s.count + 1 }))) (Ends (Ps Timeout (codes "run")))
    (λ c. (h.0, k, h.2, (f, h.3), h.4, h.5, (f, h.6)))
    (λ c. tt))
    (λ e. keeps_failed ExecStackOverflow (name_of (Images r.op)) s h)

keeps_source : (source : DataSource) (r : ReadingValue) (os : List Obj) (s : BodyValue) →
    SourceOf (length s.store.made) source → Each (IsOf (length s.store.made)) os → Stored s →
    Keeps (from_source source r os s)
keeps_source (Bytes p) r os s f k h =
    keeps_placed (placed (read_over r (bytes_of s.store p)) s.graphics) (read_over r (bytes_of s.store p)) os s k h
keeps_source Program r os s f k h =
    keeps_placed (placed (read_on r s.text.rest) s.graphics) (read_on r s.text.rest) os (behind_bytes (lacks r) s) k h
keeps_source (Procedure p) r os s f k h = keeps_called r p os s f k h

-- an image operator leaves what is of the store
pub keeps_image : (outcome : Outcome Begun) (command : List ℕ) (s : BodyValue) →
    BegunOf (length s.store.made) outcome → Stored s → Keeps (after_image outcome command s)
keeps_image (GoesOn begun) command s f h =
    let os = drop begun.operands s.operands in
    let k = each_drop (IsOf (length s.store.made)) begun.operands s.operands h.1 in
    by_test Keeps (lacks begun.reading == 0) (finished begun.reading os s) (from_source begun.source begun.reading os s)
    (λ e. keeps_placed (placed begun.reading s.graphics) begun.reading os s k h)
    (λ e. keeps_source begun.source begun.reading os s f k h)
keeps_image (Refuses name) command s f h = keeps_failed name command s h

keeps_reads : (r : ReadingValue) (p : PartValue) (bytes : List ℕ) (os : List Obj) (s : BodyValue) →
    p.id < length s.store.made → Each (IsOf (length s.store.made)) os → Stored s → Keeps (reads_on r p bytes os s)
keeps_reads r p bytes os s f k h =
    by_test Keeps ((length bytes == 0) || (lacks (read_on r bytes) == 0))
    (finished (read_on r bytes) os s) (called (read_on r bytes) p os s)
    (λ e. keeps_placed (placed (read_on r bytes) s.graphics) (read_on r bytes) os s k h)
    (λ e. keeps_called (read_on r bytes) p os s f k h)

keeps_procedure : (r : ReadingValue) (p : PartValue) (os : List Obj) (s : BodyValue) → p.id < length s.store.made →
    Each (IsOf (length s.store.made)) os → Stored s → Keeps (after_procedure r p os s)
keeps_procedure r p (Text q ∷ rest) s f k h = keeps_reads r p (bytes_of s.store q) rest s f k.1 h
keeps_procedure r p os s f k h = keeps_failed TypeCheck (name_of (Images r.op)) s h

-- an operator that goes on leaves what is of the store
pub keeps_returned : (frames : List Frame) (s : BodyValue) → Each (IsFrameOf (length s.store.made)) frames →
    Stored s → Keeps (returned frames s)
unfolding returned
keeps_returned [] s f h = h
keeps_returned (Image p r ∷ frames) s f h = keeps_procedure r p s.operands (record s { frames = frames }) f.0 h.1
    (h.0, h.1, h.2, h.3, h.4, h.5, f.1)
