-- Shapes and regions: those that are read are those that were put.
use Rattle.std.proofs.Common.{◌≡◌, ℕ, cond, eqb, List, [], ◌∷◌, ◌++◌, Some, None, refl}
use Rattle.std.proofs.Common.{subst, inl, inr}
use Rattle.std.proofs.lemmas.Bool.{eqb-true}
use Rattle.press_fault.specs.Plane.{PointValue}
use Rattle.page_model.specs.Marking.{RegionValue}
use Rattle.page_model.specs.declared.shape.Shape.{Shape}
use Rattle.page_model.specs.declared.shape.Shape.TheVariants.{Poly, Disc}
use Rattle.list_codec.specs.Command.{AreFew, IsRing, IsShape, IsRegion}
use Rattle.list_codec.specs.Spelling.{rule_byte, ring_bytes, rings_bytes, shape_bytes, shapes_bytes, region_bytes}
use Rattle.list_codec.specs.Spelling.{regions_bytes}
use Rattle.list_codec.specs.Spelling.{disc_bytes}
use Rattle.list_codec.specs.Code.Reading.{◌>>=◌, byte_at, counted_at, ring_at, disc_at, poly_at, round_at, shape_of}
use Rattle.list_codec.specs.Code.Reading.{shape_at}
use Rattle.list_codec.specs.Code.Reading.{rule_at, region_at}
use Rattle.list_codec.proofs.Fronts.{IsBytes, Takes, Takes-then, bind_some, chosen, ended, byte_takes, Reader}
use Rattle.list_codec.proofs.Points.{ring_reader, disc_reader}
use Rattle.list_codec.proofs.Many.{counted_takes, counted_again}
use Rattle.list_codec.proofs.Inks.{rule_takes, rule_again}

-- rings that are read are spelled so
rings_take : (bytes : List ℕ) (rings : List (List PointValue)) (rest : List ℕ) → IsBytes bytes
    → counted_at ring_at bytes ≡ Some (rings, rest) → Takes bytes (rings_bytes rings) rest × AreFew IsRing rings
unfolding rings_bytes
rings_take bytes rings rest fits e = counted_takes ring_at ring_bytes IsRing ring_reader bytes rings rest fits e

-- rings are read again
rings_again : (rings : List (List PointValue)) (rest : List ℕ) → AreFew IsRing rings
    → counted_at ring_at (rings_bytes rings ++ rest) ≡ Some (rings, rest)
unfolding rings_bytes
rings_again rings rest fits = counted_again ring_at ring_bytes IsRing ring_reader rings rest fits

-- rings
pub rings_reader : Reader (counted_at ring_at) rings_bytes (AreFew IsRing)
rings_reader = record { takes = rings_take; again = rings_again }

-- a polygon that is read is spelled so, behind its tag
poly_takes : (bytes : List ℕ) (shape : Shape) (rest after : List ℕ) → IsBytes after → Takes bytes (0 ∷ []) after
    → poly_at after ≡ Some (shape, rest) → Takes bytes (shape_bytes shape) rest × IsShape shape
unfolding poly_at shape_bytes
poly_takes bytes shape rest after fits first e =
    let a = bind_some (counted_at ring_at after) (λ rings. Some (Poly rings.0, rings.1)) (shape, rest) e in
    let others = rings_take after a.0.0 a.0.1 fits a.1 in
    ended (λ (q : Shape × List ℕ). Takes bytes (shape_bytes q.0) q.1 × IsShape q.0) (Poly a.0.0, a.0.1) (shape, rest)
    a.2
    (Takes-then bytes (0 ∷ []) after (rings_bytes a.0.0) a.0.1 first others.0, others.1)

-- a disc that is read is spelled so, behind its tag
round_takes : (bytes : List ℕ) (shape : Shape) (rest after : List ℕ) → IsBytes after → Takes bytes (1 ∷ []) after
    → round_at after ≡ Some (shape, rest) → Takes bytes (shape_bytes shape) rest × IsShape shape
unfolding round_at shape_bytes
round_takes bytes shape rest after fits first e =
    let a = bind_some (disc_at after) (λ disc. Some (Disc disc.0, disc.1)) (shape, rest) e in
    let others = disc_reader.takes after a.0.0 a.0.1 fits a.1 in
    ended (λ (q : Shape × List ℕ). Takes bytes (shape_bytes q.0) q.1 × IsShape q.0) (Disc a.0.0, a.0.1) (shape, rest)
    a.2
    (Takes-then bytes (1 ∷ []) after (disc_bytes a.0.0) a.0.1 first others.0, others.1)

-- nothing is not something
nothing : (x : Shape × List ℕ) → None ≡ Some x → ⊥
nothing x e = absurd cc

-- a shape that is read is spelled so
shape_takes : (bytes : List ℕ) (shape : Shape) (rest : List ℕ) → IsBytes bytes → shape_at bytes ≡ Some (shape, rest)
    → Takes bytes (shape_bytes shape) rest × IsShape shape
unfolding shape_at
shape_takes bytes shape rest fits e =
    let a = bind_some (byte_at bytes) (λ kind. shape_of kind.0 kind.1) (shape, rest) e in
    let first = byte_takes bytes a.0.0 a.0.1 fits a.1 in
    elim (chosen (eqb a.0.0 0) (poly_at a.0.1) (cond (eqb a.0.0 1) (round_at a.0.1) None) (Some (shape, rest)) a.2) [
      | inl poly ↦
          poly_takes bytes shape rest a.0.1 first.0.rest_fits
          (subst (λ (k : ℕ). Takes bytes (k ∷ []) a.0.1) (eqb-true a.0.0 0 poly.0) first.0) poly.1
      | inr more ↦
          elim (chosen (eqb a.0.0 1) (round_at a.0.1) None (Some (shape, rest)) more.1) [
            | inl round ↦
                round_takes bytes shape rest a.0.1 first.0.rest_fits
                (subst (λ (k : ℕ). Takes bytes (k ∷ []) a.0.1) (eqb-true a.0.0 1 round.0) first.0) round.1
            | inr none ↦ absurd (nothing (shape, rest) none.1)
          ]
    ]

-- a shape is read again
shape_again : (shape : Shape) (rest : List ℕ) → IsShape shape
    → shape_at (shape_bytes shape ++ rest) ≡ Some (shape, rest)
unfolding shape_at shape_bytes poly_at round_at
shape_again (Poly rings) rest fits = rw (rings_again rings rest fits) refl
shape_again (Disc d) rest fits = rw (disc_reader.again d rest fits) refl

-- a shape
pub shape_reader : Reader shape_at shape_bytes IsShape
shape_reader = record { takes = shape_takes; again = shape_again }

-- shapes that are read are spelled so
shapes_take : (bytes : List ℕ) (shapes : List Shape) (rest : List ℕ) → IsBytes bytes
    → counted_at shape_at bytes ≡ Some (shapes, rest) → Takes bytes (shapes_bytes shapes) rest × AreFew IsShape shapes
unfolding shapes_bytes
shapes_take bytes shapes rest fits e = counted_takes shape_at shape_bytes IsShape shape_reader bytes shapes rest fits e

-- shapes are read again
shapes_again : (shapes : List Shape) (rest : List ℕ) → AreFew IsShape shapes
    → counted_at shape_at (shapes_bytes shapes ++ rest) ≡ Some (shapes, rest)
unfolding shapes_bytes
shapes_again shapes rest fits = counted_again shape_at shape_bytes IsShape shape_reader shapes rest fits

-- shapes
pub shapes_reader : Reader (counted_at shape_at) shapes_bytes (AreFew IsShape)
shapes_reader = record { takes = shapes_take; again = shapes_again }

-- a region that is read is spelled so
region_takes : (bytes : List ℕ) (region : RegionValue) (rest : List ℕ) → IsBytes bytes
    → region_at bytes ≡ Some (region, rest)
    → Takes bytes (region_bytes region) rest × IsRegion region
unfolding region_at region_bytes
region_takes bytes region rest fits e =
    let a = bind_some (rule_at bytes)
    (λ rule. counted_at ring_at rule.1 >>= λ rings. Some (record { rule = rule.0; rings = rings.0 }, rings.1))
    (region, rest) e in
    let b = bind_some (counted_at ring_at a.0.1) (λ rings. Some (record { rule = a.0.0; rings = rings.0 }, rings.1))
    (region, rest) a.2 in
    let made : RegionValue = record { rule = a.0.0; rings = b.0.0 } in
    let first = rule_takes bytes a.0.0 a.0.1 fits a.1 in
    let others = rings_take a.0.1 b.0.0 b.0.1 first.rest_fits b.1 in
    ended (λ (q : RegionValue × List ℕ). Takes bytes (rule_byte q.0.rule ∷ rings_bytes q.0.rings) q.1 × AreFew IsRing
    q.0.rings)
    (made, b.0.1) (region, rest) b.2
    (Takes-then bytes (rule_byte a.0.0 ∷ []) a.0.1 (rings_bytes b.0.0) b.0.1 first others.0, others.1)

-- a region is read again
region_again : (region : RegionValue) (rest : List ℕ) → IsRegion region
    → region_at (region_bytes region ++ rest) ≡ Some (region, rest)
unfolding region_at region_bytes
region_again region rest fits =
    rw (rule_again region.rule (rings_bytes region.rings ++ rest), rings_again region.rings rest fits) refl

-- a region
region_reader : Reader region_at region_bytes IsRegion
region_reader = record { takes = region_takes; again = region_again }

-- regions that are read are spelled so
regions_take : (bytes : List ℕ) (regions : List RegionValue) (rest : List ℕ) → IsBytes bytes
    → counted_at region_at bytes ≡ Some (regions, rest)
    → Takes bytes (regions_bytes regions) rest × AreFew IsRegion regions
unfolding regions_bytes
regions_take bytes regions rest fits e = counted_takes region_at region_bytes IsRegion region_reader bytes regions
    rest fits e

-- regions are read again
regions_again : (regions : List RegionValue) (rest : List ℕ) → AreFew IsRegion regions
    → counted_at region_at (regions_bytes regions ++ rest) ≡ Some (regions, rest)
unfolding regions_bytes
regions_again regions rest fits = counted_again region_at region_bytes IsRegion region_reader regions rest fits

-- regions
pub regions_reader : Reader (counted_at region_at) regions_bytes (AreFew IsRegion)
regions_reader = record { takes = regions_take; again = regions_again }
