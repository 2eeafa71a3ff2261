-- Counts of bytes, of rows that end with them, and of codes.
use Rattle.std.proofs.Common.{◌≡◌, ◌∙◌, ℕ, zero, suc, min, ◌+◌, ◌*◌, ◌-◌, ◌/◌, ◌<◌, ◌≤◌, arith, ap, subst, sym}
use Rattle.std.proofs.Math.Nat.{mul-div-le, lt-mul-div-succ, mul-le-mul_left, div-le_of_le-mul, mul_assoc, mul_comm}

-- of rows that end with these bytes, one ends with those that are left
pub one_more_ends : (size i ends total now : ℕ) → i < ends → ends ≡ total / size → now + size * i ≡ total → size ≤ now
one_more_ends size i ends total now less is left =
    let some : size * (i + 1) ≤ size * ends = mul-le-mul_left size (omega arith) in
    let all : size * ends ≤ total = subst (λ n. size * n ≤ total) (sym is) (mul-div-le total size) in omega arith

-- what is left when all of these rows have ended is less than a row
pub less_than_a_row : (size i ends total now part : ℕ) → part < size → ends ≡ total / size → ends ≤ i →
    now + size * i ≡ total → now < size
less_than_a_row size i ends total now part some is order left =
    let all : total < size * (total / size + 1) = lt-mul-div-succ total (omega arith) in
    let more : size * (total / size + 1) ≤ size * (i + 1) = mul-le-mul_left size (omega arith) in omega arith

-- and there is room for it
pub room_at_end : (size i ends now part bytes before room : ℕ) → part < size → ends ≡ (part + bytes) / size →
    ends ≤ i → now + size * i ≡ part + bytes → part + min bytes size ≤ before → before ≤ room → now ≤ room
room_at_end size i ends now part bytes before room some is order left had has =
    let less : now < size = less_than_a_row size i ends (part + bytes) now part some is order left in omega arith

-- a row that ends has room before
pub room_in_part : (size i ends now part bytes before room : ℕ) → i < ends → ends ≡ (part + bytes) / size →
    now + size * i ≡ part + bytes → part + min bytes size ≤ before → before ≤ room → size ≤ room
room_in_part size i ends now part bytes before room less is left had has =
    let whole : size ≤ now = one_more_ends size i ends (part + bytes) now less is left in
    let all : now ≤ part + bytes = omega arith in omega arith

-- bytes, where a row more has ended
pub row_more : (size i part rest now_part now_rest total : ℕ) → now_rest + size ≡ part + rest → now_part ≡ 0 →
    part + rest + size * i ≡ total → now_part + now_rest + size * (i + 1) ≡ total
row_more size i part rest now_part now_rest total less none left = omega arith

-- codes, where a row more has ended
pub codes_more : (size i start now next : ℕ) → next ≡ now + size → now ≡ start + size * i →
    next ≡ start + size * (i + 1)
codes_more size i start now next more so_far = omega arith

-- where there is room for so many rows, and fewer came, there is room for one
pub room_for_one : (size i ends : ℕ) → i < ends → size * i + size ≤ size * ends
room_for_one size i ends less =
    let some : size * (i + 1) ≤ size * ends = mul-le-mul_left size (omega arith) in omega arith

-- room for the codes of one row more
pub room_for_codes : (size i ends start now before room : ℕ) → i < ends → now ≡ start + size * i →
    start + size * ends ≤ before → before ≤ room → now + size ≤ room
room_for_codes size i ends start now before room less so_far had has =
    let one = room_for_one size i ends less in omega arith

-- bytes and codes, where all of these rows have ended
pub all_ended : (size i ends now part rest total : ℕ) → ends ≤ i → i ≤ ends → now ≡ part + rest →
    part + rest + size * i ≡ total → now + size * ends ≡ total
all_ended size i ends now part rest total low high is left =
    let same : i ≡ ends = omega arith in
    let there : part + rest + size * ends ≡ total = subst (λ n. part + rest + size * n ≡ total) same left in omega arith

-- where a walk over the codes has come to its end, all that it counts is there
pub all_codes : (size i ends now old start : ℕ) → ends ≤ i → i ≤ ends → now ≡ old → old ≡ start + size * i →
    now ≡ start + size * ends
all_codes size i ends now old start low high is so_far =
    let same : i ≡ ends = omega arith in is ∙ subst (λ n. old ≡ start + size * n) same so_far

-- a row has bytes, where some are missing
pub some_row : (size left total : ℕ) → 0 < total → total ≤ size * left → 0 < size
some_row zero left total some fits = absurd (omega arith)
some_row (suc size) left total some fits = omega arith

-- the codes of all rows that came whole
pub codes_of_all : (row rows ends count old now : ℕ) → old ≡ row * rows → now ≡ old + row * ends →
    count ≡ rows + ends → now ≡ row * count
codes_of_all row rows ends count old now so_far more is =
    more ∙ (let sum : old + row * ends ≡ row * (rows + ends) = omega arith in sum ∙ ap (λ n. row * n) (sym is))

-- no more rows end than are missing
pub ends_fit : (size ends total rows : ℕ) → ends ≡ total / size → total ≤ size * rows → ends ≤ rows
ends_fit size ends total rows is few = subst (λ n. n ≤ rows) (sym is) (div-le_of_le-mul size few)

-- so their codes are some of the image's
pub codes_fit : (width channels height rows ends : ℕ) → width * height * channels ≤ 67108864 → rows ≤ height →
    ends ≤ height - rows → width * channels * ends ≤ 67108864
codes_fit width channels height rows ends few inside fit =
    let more : width * channels * ends ≤ width * channels * height = mul-le-mul_left (width * channels) (omega arith) in
    omega arith

-- and what is left of the bytes is missing still
pub rest_fits : (size ends now total rows height count : ℕ) → count ≡ rows + ends → rows ≤ height →
    ends ≤ height - rows → now + size * ends ≡ total → total ≤ size * (height - rows) →
    now ≤ size * (height - count)
rest_fits size ends now total rows height count is inside fit left few =
    let split : height - rows ≡ (height - count) + ends = omega arith in
    let all : total ≤ size * ((height - count) + ends) = subst (λ n. total ≤ size * n) split few in omega arith

-- so many fewer are missing
pub fewer_missing : (size ends now part bytes rows height count : ℕ) → count ≡ rows + ends → rows ≤ height →
    ends ≤ height - rows → now + size * ends ≡ part + bytes → part + bytes ≤ size * (height - rows) →
    (size * (height - count) - now) + bytes ≡ size * (height - rows) - part
fewer_missing size ends now part bytes rows height count is inside fit left few =
    let split : height - rows ≡ (height - count) + ends = omega arith in
    let fits = rest_fits size ends now (part + bytes) rows height count is inside fit left few in
    let all : size * (height - rows) ≡ size * ((height - count) + ends) = ap (λ n. size * n) split in omega arith

-- the bytes since the last row that ended are no more than those of the rows that are missing
pub total_fits : (most part bytes : ℕ) → part ≤ most → bytes ≤ most - part → part + bytes ≤ most
total_fits most part bytes some few = omega arith

-- three factors in another order
pub last_two : (a b c : ℕ) → a * b * c ≡ a * c * b
last_two a b c = mul_assoc a b c ∙ (ap (λ n. a * n) (mul_comm b c) ∙ sym (mul_assoc a c b))

-- the codes of the rows that came are no more than those of all rows
pub few_codes : (width height channels rows codes : ℕ) → codes ≡ width * channels * rows → rows ≤ height →
    width * height * channels ≤ 67108864 → codes ≤ 67108864
few_codes width height channels rows codes are less few =
    let most : width * channels * rows ≤ width * channels * height = mul-le-mul_left (width * channels) less in
    let all : width * channels * height ≡ width * height * channels = last_two width channels height in omega arith
