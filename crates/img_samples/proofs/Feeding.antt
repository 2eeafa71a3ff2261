-- What bytes that are delivered make of an image.
use Rattle.std.proofs.Common.{◌≡◌, ◌∙◌, ℕ, ◌+◌, ◌<◌, ◌==◌, List, [], ◌∷◌, ◌++◌, length, refl, ap}
use Rattle.std.proofs.Common.{sym, arith, true, false}
use Rattle.std.proofs.lemmas.List.{append-nil, append_assoc, length-append}
use Rattle.img_samples.specs.Decoding.{SampleFormatValue}
use Rattle.img_samples.specs.Rows.{row_bytes, row_codes}
use Rattle.img_samples.specs.Gathering.{GatherValue, with_byte, fed}

-- bytes that come in two pieces
pub in_two : (g : GatherValue) (xs ys : List ℕ) → fed g (xs ++ ys) ≡ fed (fed g xs) ys
in_two g [] ys = refl
in_two g (x ∷ xs) ys = in_two (with_byte g x) xs ys

-- a byte before a row's last one
before_last : (f : SampleFormatValue) (rows : ℕ) (codes part : List ℕ) (byte : ℕ) → length part + 1 < row_bytes f →
    with_byte (record { format = f; rows = rows; codes = codes; part = part }) byte
    ≡ record { format = f; rows = rows; codes = codes; part = part ++ byte ∷ [] }
unfolding with_byte
before_last f rows codes part byte less =
    let no : (length part + 1 == row_bytes f) ≡ false = grind arith in rw no refl

-- a row's last byte
the_last : (f : SampleFormatValue) (rows : ℕ) (codes part : List ℕ) (byte : ℕ) → length part + 1 ≡ row_bytes f →
    with_byte (record { format = f; rows = rows; codes = codes; part = part }) byte
    ≡ record { format = f; rows = rows + 1; codes = codes ++ row_codes f (part ++ byte ∷ []); part = [] }
unfolding with_byte
the_last f rows codes part byte last =
    let yes : (length part + 1 == row_bytes f) ≡ true = grind arith in rw yes refl

-- bytes with which no row ends are kept
pub kept : (f : SampleFormatValue) (rows : ℕ) (codes part bytes : List ℕ) →
    length part + length bytes < row_bytes f →
    fed (record { format = f; rows = rows; codes = codes; part = part }) bytes
    ≡ record { format = f; rows = rows; codes = codes; part = part ++ bytes }
kept f rows codes part [] less =
    ap (λ p. let g : GatherValue = record { format = f; rows = rows; codes = codes; part = p } in g)
    (sym (append-nil part))
kept f rows codes part (byte ∷ bytes) less =
    ap (λ g. fed g bytes) (before_last f rows codes part byte (omega arith))
    ∙ (kept f rows codes (part ++ byte ∷ []) bytes
    (let more : length (part ++ byte ∷ []) ≡ length part + 1 = length-append part (byte ∷ []) in omega arith)
    ∙ ap (λ p. let g : GatherValue = record { format = f; rows = rows; codes = codes; part = p } in g)
    (append_assoc part (byte ∷ []) bytes))

-- bytes with which a row ends, and that end with it
pub ended : (f : SampleFormatValue) (rows : ℕ) (codes part : List ℕ) (byte : ℕ) (bytes : List ℕ) →
    length part + length (byte ∷ bytes) ≡ row_bytes f →
    fed (record { format = f; rows = rows; codes = codes; part = part }) (byte ∷ bytes)
    ≡ record { format = f; rows = rows + 1; codes = codes ++ row_codes f (part ++ (byte ∷ bytes)); part = [] }
ended f rows codes part byte [] whole = the_last f rows codes part byte (omega arith)
ended f rows codes part byte (next ∷ bytes) whole =
    ap (λ g. fed g (next ∷ bytes)) (before_last f rows codes part byte (omega arith))
    ∙ (ended f rows codes (part ++ byte ∷ []) next bytes
    (let more : length (part ++ byte ∷ []) ≡ length part + 1 = length-append part (byte ∷ []) in omega arith)
    ∙ ap
    (λ p. let g : GatherValue =
    record { format = f; rows = rows + 1; codes = codes ++ row_codes f p; part = [] } in g)
    (append_assoc part (byte ∷ []) (next ∷ bytes)))

-- the same, where other bytes stand behind
pub row_ends : (f : SampleFormatValue) (rows : ℕ) (codes now part none all first rest : List ℕ) →
    all ≡ first ++ rest → 0 < length first → length part + length first ≡ row_bytes f →
    now ≡ codes ++ row_codes f (part ++ first) → none ≡ [] →
    fed (record { format = f; rows = rows + 1; codes = now; part = none }) rest
    ≡ fed (record { format = f; rows = rows; codes = codes; part = part }) all
row_ends f rows codes now part none all [] rest is some whole then empty = absurd (omega arith)
row_ends f rows codes now part none all (byte ∷ first) rest is some whole then empty =
    ap
    (λ c. let g : GatherValue = record { format = f; rows = rows + 1; codes = c; part = none } in fed g rest) then
    ∙ (ap
    (λ p. let g : GatherValue =
    record { format = f; rows = rows + 1; codes = codes ++ row_codes f (part ++ (byte ∷ first)); part = p } in
    fed g rest) empty
    ∙ (ap (λ g. fed g rest) (sym (ended f rows codes part byte first whole))
    ∙ (sym (in_two (record { format = f; rows = rows; codes = codes; part = part }) (byte ∷ first) rest)
    ∙ ap (λ bytes. let g : GatherValue = record { format = f; rows = rows; codes = codes; part = part } in
    fed g bytes) (sym is))))

-- the same for bytes with which no row ends
pub kept_so : (f : SampleFormatValue) (rows : ℕ) (codes part now bytes : List ℕ) → now ≡ part ++ bytes →
    length part + length bytes < row_bytes f →
    record { format = f; rows = rows; codes = codes; part = now }
    ≡ fed (record { format = f; rows = rows; codes = codes; part = part }) bytes
kept_so f rows codes part now bytes is less =
    ap (λ p. let g : GatherValue = record { format = f; rows = rows; codes = codes; part = p } in g) is
    ∙ sym (kept f rows codes part bytes less)

-- where nothing of a row is kept, it is the bytes that come
pub nothing_before : (part bytes : List ℕ) → length part ≡ 0 → part ++ bytes ≡ bytes
nothing_before [] bytes none = refl
nothing_before (byte ∷ part) bytes none = absurd (omega arith)

-- the bytes of a whole row
pub whole_row : (f : SampleFormatValue) (rows : ℕ) (codes row : List ℕ) → 0 < length row →
    length row ≡ row_bytes f →
    fed (record { format = f; rows = rows; codes = codes; part = [] }) row
    ≡ record { format = f; rows = rows + 1; codes = codes ++ row_codes f row; part = [] }
whole_row f rows codes [] some whole = absurd (omega arith)
whole_row f rows codes (byte ∷ row) some whole = ended f rows codes [] byte row (omega arith)
