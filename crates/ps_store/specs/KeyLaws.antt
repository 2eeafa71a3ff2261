-- Being one key is an equivalence, and keys that are one are hashed alike. Own rule: laws, with their proofs.
use Rattle.std.specs.Prelude.{◌≡◌, true, false}
use Rattle.std.proofs.Common.{ap, sym, refl, true≢false}
use Rattle.std.specs.Cmp.{IsEquivalence, int_eq_equiv, bool_eq_equiv, on_equiv, signed_Decides}
use Rattle.std.specs.Cmp.Lexicographic.{nat_list_eq_equiv, bytes_decides}
use Rattle.std.specs.Hash as fed
use Rattle.ps_store.specs.Code.Hashing.{hash_of}
use Rattle.ps_store.specs.declared.key.Key.{Key}
use Rattle.ps_store.specs.Keys.{KeyValue, StoredBytes, Count, TruthValue, value_of, same_value, same_key, input_of}

is_itself : (x : KeyValue) → same_value x x ≡ true
is_itself (StoredBytes a) = nat_list_eq_equiv.refl a
is_itself (Count a) = int_eq_equiv.refl a
is_itself (TruthValue a) = bool_eq_equiv.refl a

flips : (x y : KeyValue) → same_value x y ≡ same_value y x
flips (StoredBytes a) (StoredBytes b) = nat_list_eq_equiv.symm a b
flips (StoredBytes a) (Count b) = refl
flips (StoredBytes a) (TruthValue b) = refl
flips (Count a) (StoredBytes b) = refl
flips (Count a) (Count b) = int_eq_equiv.symm a b
flips (Count a) (TruthValue b) = refl
flips (TruthValue a) (StoredBytes b) = refl
flips (TruthValue a) (Count b) = refl
flips (TruthValue a) (TruthValue b) = bool_eq_equiv.symm a b

alike : (x y z : KeyValue) → same_value x y ≡ true → same_value x z ≡ same_value y z
alike (StoredBytes a) (StoredBytes b) (StoredBytes c) h = nat_list_eq_equiv.congr a b c h
alike (StoredBytes a) (StoredBytes b) (Count c) h = refl
alike (StoredBytes a) (StoredBytes b) (TruthValue c) h = refl
alike (Count a) (Count b) (StoredBytes c) h = refl
alike (Count a) (Count b) (Count c) h = int_eq_equiv.congr a b c h
alike (Count a) (Count b) (TruthValue c) h = refl
alike (TruthValue a) (TruthValue b) (StoredBytes c) h = refl
alike (TruthValue a) (TruthValue b) (Count c) h = refl
alike (TruthValue a) (TruthValue b) (TruthValue c) h = bool_eq_equiv.congr a b c h
alike (StoredBytes a) (Count b) z h = absurd (true≢false (sym h))
alike (StoredBytes a) (TruthValue b) z h = absurd (true≢false (sym h))
alike (Count a) (StoredBytes b) z h = absurd (true≢false (sym h))
alike (Count a) (TruthValue b) z h = absurd (true≢false (sym h))
alike (TruthValue a) (StoredBytes b) z h = absurd (true≢false (sym h))
alike (TruthValue a) (Count b) z h = absurd (true≢false (sym h))

-- being one key is an equivalence
pub same_key_equiv : IsEquivalence same_key
same_key_equiv = on_equiv value_of (record { refl = is_itself; symm = flips; congr = alike })

fed_alike : (x y : KeyValue) → same_value x y ≡ true → input_of x ≡ input_of y
fed_alike (StoredBytes a) (StoredBytes b) h = ap (λ name. fed.u32 (hash_of name)) ((bytes_decides a b).0 h)
fed_alike (Count a) (Count b) h = ap fed.i64 ((signed_Decides a b).0 h)
fed_alike (TruthValue true) (TruthValue true) h = refl
fed_alike (TruthValue false) (TruthValue false) h = refl
fed_alike (TruthValue true) (TruthValue false) h = absurd (true≢false (sym h))
fed_alike (TruthValue false) (TruthValue true) h = absurd (true≢false (sym h))
fed_alike (StoredBytes a) (Count b) h = absurd (true≢false (sym h))
fed_alike (StoredBytes a) (TruthValue b) h = absurd (true≢false (sym h))
fed_alike (Count a) (StoredBytes b) h = absurd (true≢false (sym h))
fed_alike (Count a) (TruthValue b) h = absurd (true≢false (sym h))
fed_alike (TruthValue a) (StoredBytes b) h = absurd (true≢false (sym h))
fed_alike (TruthValue a) (Count b) h = absurd (true≢false (sym h))

-- keys that are one are hashed by the same value
pub same_keys_fed_alike : (x y : Key) → same_key x y ≡ true → input_of (value_of x) ≡ input_of (value_of y)
same_keys_fed_alike x y = fed_alike (value_of x) (value_of y)
