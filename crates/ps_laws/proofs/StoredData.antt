-- The data operators leave what is of the store.
use Rattle.std.specs.Prelude.{nat_lt, nat_le, ◌==◌, reverse}
use Rattle.std.specs.List.{position_from}
use Rattle.std.proofs.Common.{ℕ, ◌+◌, ◌≤◌, ◌<◌, true, false, Bool, List, [], ◌∷◌, ◌++◌, length, take, drop, Option}
use Rattle.std.proofs.Common.{Some, None, Result, Ok, Err, arith}
use Rattle.press_fault.specs.declared.names.PsName.{PsName}
use Rattle.ps_scan.specs.Place.{ScannerValue}
use Rattle.ps_store.specs.declared.key.Key.{Key}
use Rattle.ps_store.specs.declared.key.KeyFault.{KeyFault}
use Rattle.ps_store.specs.declared.key.KeyFault.TheVariants.{NotAKey, TooLong}
use Rattle.ps_store.specs.declared.obj.Part.{Part}
use Rattle.ps_store.specs.declared.obj.Obj.{Obj}
use Rattle.ps_store.specs.declared.obj.Obj.TheVariants.{Null as NullObject, Bool as Boolean, Int, Name, Text}
use Rattle.ps_store.specs.declared.obj.Obj.TheVariants.{Array as ArrayOf, Dict as Dictionary, File}
use Rattle.ps_store.specs.declared.oper.DataOp.{DataOp}
use Rattle.ps_store.specs.declared.oper.DataOp.TheVariants.{True, False, Null, Array, String, Dict, CloseArray}
use Rattle.ps_store.specs.declared.oper.DataOp.TheVariants.{CloseDict, Length, Get, Put, Getinterval, Putinterval}
use Rattle.ps_store.specs.declared.oper.DataOp.TheVariants.{Aload, Astore, Begin, End, Def, Load, Known, Where}
use Rattle.ps_store.specs.declared.oper.DataOp.TheVariants.{Currentdict, Systemdict, Userdict, Cvn, Cvx, Cvlit, Xcheck}
use Rattle.ps_store.specs.declared.oper.DataOp.TheVariants.{«Type» as TypeOf, Currentfile, Readstring, Readhexstring}
use Rattle.ps_store.specs.Store.{StoreValue, element, found, defined, with_array, with_text, with_dict, bytes_of}
use Rattle.ps_store.specs.Gathering.{elements, with_dict_of}
use Rattle.ps_store.specs.Dicts.{find_key, home_of}
use Rattle.ps_store.specs.Numbers.{place_of}
use Rattle.ps_store.specs.KeyOf.{key_of}
use Rattle.ps_store.specs.Desk.{OperandsAndStore}
use Rattle.ps_store.specs.Stack.{is_mark}
use Rattle.ps_store.specs.Outcome.{Outcome, Goes, Refuses, or_range, or_limit}
use Rattle.ps_data_ops.specs.Values.{changed, executable, literal, mark_of, type_name, cvn_row}
use Rattle.ps_data_ops.specs.Composites.{count_of, or_unmatched, array_row, string_row, dict_row, close_array_row}
use Rattle.ps_data_ops.specs.Composites.{begin_of, interval_of, getinterval_row, putinterval_row, aload_row, astore_row}
use Rattle.ps_data_ops.specs.Dictionaries.{OperandsAndDicts, length_row, got, value_row, get_row, define_row, put_row}
use Rattle.ps_data_ops.specs.Dictionaries.{is_odd, lacks_key, entered, closed_row, close_dict_row, begin_row, end_row}
use Rattle.ps_data_ops.specs.Dictionaries.{def_row, load_row, known_as, known_row, home_row, where_as, where_row}
use Rattle.ps_data_ops.specs.Dictionaries.{current}
use Rattle.ps_data_ops.specs.Reading.{ReadingState, read_row, readstring_row, readhexstring_row}
use Rattle.ps_data_ops.specs.Rows.{DataState, within, with_operands, with_desk, with_scope, with_dicts, with_reader}
use Rattle.ps_data_ops.specs.Rows.{data_row}
use Rattle.std.specs.Map.{lookup}
use Rattle.std.specs.Prelude.{find, pos}
use Rattle.std.specs.List.{range_with_len}
use Rattle.ps_store.specs.Store.{put_at}
use Rattle.ps_store.specs.Copying.{copied_part}
use Rattle.ps_store.specs.Outcome.{pushed}
use Rattle.ps_data_ops.specs.Composites.{gathered_row}
use Rattle.ps_store.specs.Store.{has, entries_of}
use Rattle.ps_store.specs.Gathering.{with_elements, integers}
use Rattle.ps_store.specs.Dicts.{or_else}
use Rattle.ps_store.specs.Keys.{same_key}
use Rattle.ps_data_ops.specs.Dictionaries.{with_pair, and_then}
use Rattle.ps_data_ops.specs.Composites.{part_of}
use Rattle.ps_laws.specs.Stored.{Each, IsOf}
use Rattle.ps_laws.proofs.Operands.{by_test}
use Rattle.ps_laws.proofs.Each.{Sound, Grown, OfSome, Made, MadeDict, EntriesOf, each_append, each_take, each_drop}
use Rattle.ps_laws.proofs.Each.{each_reverse, each_map, are_more, each_insert, is_element, entries_are, grown_put}
use Rattle.ps_laws.proofs.Each.{grown_elements, grown_copied, grown_defined, made_text, made_array, made_dict}
use Rattle.ps_laws.proofs.Each.{made_dict_of}
use Rattle.ps_laws.proofs.StoredStack.{AreOf, DeskOf, of_pushed}

each_lookup : (m : ℕ) (test : Key → Bool) (entries : List (Key × Obj)) → EntriesOf m entries →
    OfSome (IsOf m) (lookup test entries)
each_lookup m test [] h = tt
each_lookup m test (e ∷ es) h = by_test (OfSome (IsOf m)) (test e.0) (Some e.1) (lookup test es) (λ f. h.0)
    (λ f. each_lookup m test es h.1)

-- the value of a key in a dictionary is of the store
pub found_is : (s : StoreValue) (dict : ℕ) (key : Key) → Sound s → OfSome (IsOf (length s.made)) (found s dict key)
found_is s dict key h = each_lookup (length s.made) (same_key key) (entries_of s dict) (entries_are s dict h)

or_else_is : (m : ℕ) (o other : Option Obj) → OfSome (IsOf m) o → OfSome (IsOf m) other →
    OfSome (IsOf m) (or_else o other)
or_else_is m (Some o) other h k = h
or_else_is m None other h k = k

-- a value that is found on the dictionary stack is of the store
pub find_is : (s : StoreValue) (dicts : List ℕ) (key : Key) → Sound s →
    OfSome (IsOf (length s.made)) (find_key s dicts key)
find_is s [] key h = tt
find_is s (dict ∷ below) key h = or_else_is (length s.made) (found s dict key) (find_key s below key)
    (found_is s dict key h) (find_is s below key h)

each_find : (P : ℕ → Type 0) (test : ℕ → Bool) (xs : List ℕ) → Each P xs → OfSome P (find test xs)
each_find P test [] h = tt
each_find P test (x ∷ xs) h = by_test (OfSome P) (test x) (Some x) (find test xs) (λ e. h.0)
    (λ e. each_find P test xs h.1)

by_range : {A S : Type 0} (P : Outcome S → Type 0) (o : Option A) (go : A → Outcome S) →
    ((name : PsName) → P (Refuses name)) → ((a : A) → P (go a)) → P (or_range o go)
by_range P (Some a) go refused given = given a
by_range P None go refused given = refused _

by_limit : {A S : Type 0} (P : Outcome S → Type 0) (Q : A → Type 0) (o : Option A) (go : A → Outcome S) →
    ((name : PsName) → P (Refuses name)) → OfSome Q o → ((a : A) → Q a → P (go a)) → P (or_limit o go)
by_limit P Q (Some a) go refused h given = given a h
by_limit P Q None go refused h given = refused _

by_match : (m : ℕ) (o : Option ℕ) (go : ℕ → Outcome OperandsAndStore) → ((n : ℕ) → DeskOf m (go n)) →
    DeskOf m (or_unmatched o go)
by_match m (Some n) go given = given n
by_match m None go given = tt

-- a new composite on the operands
new_on : (m : ℕ) (t : StoreValue) (o : Obj) (rest : List Obj) → Grown m t → IsOf (length t.made) o →
    Each (IsOf m) rest → DeskOf m (Goes (record { operands = o ∷ rest; store = t }))
new_on m t o rest g h k = (g, (h, are_more m (length t.made) g.1 rest k))

rest_on : (m : ℕ) (t : StoreValue) (rest : List Obj) → Grown m t → Each (IsOf m) rest →
    DeskOf m (Goes (record { operands = rest; store = t }))
rest_on m t rest g k = (g, are_more m (length t.made) g.1 rest k)

of_array : (operands : List Obj) (s : StoreValue) → Sound s → Each (IsOf (length s.made)) operands →
    DeskOf (length s.made) (array_row operands s)
of_array (Int n ∷ rest) s h k = by_range (DeskOf (length s.made)) (count_of n) _ (λ e. tt) (λ len.
    by_limit (DeskOf (length s.made)) (Made (length s.made)) (with_array s len) _ (λ e. tt) (made_array s len h)
    (λ new g. new_on (length s.made) new.1 (ArrayOf new.0 false) rest g.0 g.1 k.1))
of_array (o ∷ rest) s h k = tt
of_array [] s h k = tt

of_string : (operands : List Obj) (s : StoreValue) → Sound s → Each (IsOf (length s.made)) operands →
    DeskOf (length s.made) (string_row operands s)
of_string (Int n ∷ rest) s h k = by_range (DeskOf (length s.made)) (count_of n) _ (λ e. tt) (λ len.
    by_limit (DeskOf (length s.made)) (Made (length s.made)) (with_text s len) _ (λ e. tt) (made_text s len h)
    (λ new g. new_on (length s.made) new.1 (Text new.0) rest g.0 g.1 k.1))
of_string (o ∷ rest) s h k = tt
of_string [] s h k = tt

of_dict : (operands : List Obj) (s : StoreValue) → Sound s → Each (IsOf (length s.made)) operands →
    DeskOf (length s.made) (dict_row operands s)
of_dict (Int n ∷ rest) s h k = by_range (DeskOf (length s.made)) (count_of n) _ (λ e. tt) (λ len.
    by_limit (DeskOf (length s.made)) (MadeDict (length s.made)) (with_dict s) _ (λ e. tt) (made_dict s h)
    (λ new g. new_on (length s.made) new.1 (Dictionary new.0) rest g.0 g.1 k.1))
of_dict (o ∷ rest) s h k = tt
of_dict [] s h k = tt

of_gathered : (n : ℕ) (operands : List Obj) (s : StoreValue) → Sound s → Each (IsOf (length s.made)) operands →
    DeskOf (length s.made) (gathered_row n operands s)
of_gathered n operands s h k = by_limit (DeskOf (length s.made)) (Made (length s.made)) (with_array s n) _ (λ e. tt)
    (made_array s n h) (λ new g.
    let items = are_more (length s.made) (length new.1.made) g.0.1 (reverse (take n operands))
    (each_reverse (IsOf (length s.made)) (take n operands) (each_take (IsOf (length s.made)) n operands k)) in
    let e = grown_elements new.1 new.0 0 (reverse (take n operands)) g.0.0 items in
    new_on (length s.made) (with_elements new.1 new.0 0 (reverse (take n operands))) (ArrayOf new.0 false)
    (drop (n + 1) operands)
    (e.0, omega arith) (omega arith) (each_drop (IsOf (length s.made)) (n + 1) operands k))

of_close_array : (operands : List Obj) (s : StoreValue) → Sound s → Each (IsOf (length s.made)) operands →
    DeskOf (length s.made) (close_array_row operands s)
of_close_array operands s h k = by_match (length s.made) (position_from is_mark 0 operands) _
    (λ n. of_gathered n operands s h k)

of_getinterval : (m : ℕ) (operands : List Obj) → Each (IsOf m) operands → AreOf m (getinterval_row operands)
of_getinterval m (Int count ∷ Int at ∷ ArrayOf p x ∷ rest) k =
    by_range (AreOf m) (interval_of at count p.len) _ (λ e. tt) (λ i. (k.1.1.0, k.1.1.1))
of_getinterval m (Int count ∷ Int at ∷ Text p ∷ rest) k =
    by_range (AreOf m) (interval_of at count p.len) _ (λ e. tt) (λ i. (k.1.1.0, k.1.1.1))
of_getinterval m (c ∷ b ∷ a ∷ rest) k = tt
of_getinterval m operands k = tt

of_putinterval : (operands : List Obj) (s : StoreValue) → Sound s → Each (IsOf (length s.made)) operands →
    DeskOf (length s.made) (putinterval_row operands s)
of_putinterval (ArrayOf from y ∷ Int at ∷ ArrayOf to x ∷ rest) s h k =
    by_range (DeskOf (length s.made)) (begin_of at from.len to.len) _ (λ e. tt) (λ i.
    rest_on (length s.made) (copied_part s from (part_of to i from.len)) rest
    (grown_copied s from (part_of to i from.len) h) k.1.1.1)
of_putinterval (Text from ∷ Int at ∷ Text to ∷ rest) s h k =
    by_range (DeskOf (length s.made)) (begin_of at from.len to.len) _ (λ e. tt) (λ i.
    rest_on (length s.made) (copied_part s from (part_of to i from.len)) rest
    (grown_copied s from (part_of to i from.len) h) k.1.1.1)
of_putinterval (c ∷ b ∷ a ∷ rest) s h k = tt
of_putinterval operands s h k = tt

-- the elements of a part are of the store
pub are_elements : (s : StoreValue) (p : Part) → Sound s → Each (IsOf (length s.made)) (elements s p)
are_elements s p h = each_map (IsOf (length s.made)) (element s p) (λ i. is_element s p i h) (range_with_len 0 p.len)

of_aload : (operands : List Obj) (s : StoreValue) → Sound s → Each (IsOf (length s.made)) operands →
    AreOf (length s.made) (aload_row operands s)
of_aload (ArrayOf p x ∷ rest) s h k = by_test (AreOf (length s.made)) (nat_le (length rest + p.len) 499)
    (Goes (ArrayOf p x ∷ (reverse (elements s p) ++ rest))) _
    (λ e. (
      k.0,
      each_append (IsOf (length s.made)) (reverse (elements s p)) rest
          (each_reverse (IsOf (length s.made)) (elements s p) (are_elements s p h)) k.1,
    )) (λ e. tt)
of_aload (o ∷ rest) s h k = tt
of_aload [] s h k = tt

of_astore : (operands : List Obj) (s : StoreValue) → Sound s → Each (IsOf (length s.made)) operands →
    DeskOf (length s.made) (astore_row operands s)
of_astore (ArrayOf p x ∷ rest) s h k = by_test (DeskOf (length s.made)) (nat_le p.len (length rest)) (Goes _) _
    (λ e. let g = grown_elements s p 0 (reverse (take p.len rest)) h
    (each_reverse (IsOf (length s.made)) (take p.len rest) (each_take (IsOf (length s.made)) p.len rest k.1)) in
    let id = k.0 in
    new_on (length s.made) (with_elements s p 0 (reverse (take p.len rest))) (ArrayOf p x) (drop p.len rest) g
    (omega arith) (each_drop (IsOf (length s.made)) p.len rest k.1)) (λ e. tt)
of_astore (o ∷ rest) s h k = tt
of_astore [] s h k = tt

of_length : (m : ℕ) (operands : List Obj) (s : StoreValue) → Each (IsOf m) operands → AreOf m (length_row operands s)
of_length m (ArrayOf p x ∷ rest) s k = (tt, k.1)
of_length m (Text p ∷ rest) s k = (tt, k.1)
of_length m (Dictionary d ∷ rest) s k = (tt, k.1)
of_length m (Name bytes x ∷ rest) s k = (tt, k.1)
of_length m (o ∷ rest) s k = tt
of_length m [] s k = tt

of_got : (m : ℕ) (o : Option Obj) (rest : List Obj) → OfSome (IsOf m) o → Each (IsOf m) rest → AreOf m (got o rest)
of_got m (Some o) rest h k = (h, k)
of_got m None rest h k = tt

of_value : (m : ℕ) (key : Result Key KeyFault) (look : Key → Option Obj) (rest : List Obj) →
    ((q : Key) → OfSome (IsOf m) (look q)) → Each (IsOf m) rest → AreOf m (value_row key look rest)
of_value m (Ok key) look rest h k = of_got m (look key) rest (h key) k
of_value m (Err TooLong) look rest h k = tt
of_value m (Err NotAKey) look rest h k = tt

of_get : (operands : List Obj) (s : StoreValue) → Sound s → Each (IsOf (length s.made)) operands →
    AreOf (length s.made) (get_row operands s)
of_get (Int i ∷ ArrayOf p x ∷ rest) s h k =
    by_range (AreOf (length s.made)) (place_of i p.len) _ (λ e. tt) (λ at. (is_element s p at h, k.1.1))
of_get (Int i ∷ Text p ∷ rest) s h k = by_range (AreOf (length s.made)) (place_of i p.len) _ (λ e. tt)
    (λ at. (is_element s p at h, k.1.1))
of_get (k ∷ Dictionary d ∷ rest) s h f =
    of_value (length s.made) (key_of s k) (found s d) rest (λ q. found_is s d q h) f.1.1
of_get (b ∷ a ∷ rest) s h k = tt
of_get operands s h k = tt

of_load : (operands : List Obj) (s : StoreValue) (dicts : List ℕ) → Sound s → Each (IsOf (length s.made)) operands →
    AreOf (length s.made) (load_row operands s dicts)
of_load (k ∷ rest) s dicts h f = of_value (length s.made) (key_of s k) (find_key s dicts) rest
    (λ q. find_is s dicts q h) f.1
of_load [] s dicts h f = tt

of_define : (s : StoreValue) (d : ℕ) (key : Result Key KeyFault) (o : Obj) (rest : List Obj) → Sound s →
    IsOf (length s.made) o → Each (IsOf (length s.made)) rest → DeskOf (length s.made) (define_row s d key o rest)
of_define s d (Ok key) o rest h f k = by_test (DeskOf (length s.made)) (d == 0) _ (or_limit (defined s d key o) _)
    (λ e. tt) (λ e.
    by_limit (DeskOf (length s.made)) (Grown (length s.made)) (defined s d key o) _ (λ e. tt)
    (grown_defined s d key o h f) (λ t g. rest_on (length s.made) t rest g k))
of_define s d (Err TooLong) o rest h f k =
    by_test (DeskOf (length s.made)) (d == 0) (Refuses _) (Refuses _) (λ e. tt) (λ e. tt)
of_define s d (Err NotAKey) o rest h f k = tt

of_put : (operands : List Obj) (s : StoreValue) → Sound s → Each (IsOf (length s.made)) operands →
    DeskOf (length s.made) (put_row operands s)
of_put (o ∷ Int i ∷ ArrayOf p x ∷ rest) s h k =
    by_range (DeskOf (length s.made)) (place_of i p.len) _ (λ e. tt)
    (λ at. rest_on (length s.made) (put_at s p at o) rest (grown_put s p at o h k.0) k.1.1.1)
of_put (Int o ∷ Int i ∷ Text p ∷ rest) s h k = by_range (DeskOf (length s.made)) (place_of i p.len) _ (λ e. tt) (λ at.
    by_range (DeskOf (length s.made)) (place_of o 256) _ (λ e. tt)
    (λ byte. rest_on (length s.made) (put_at s p at (Int o)) rest (grown_put s p at (Int o) h tt) k.1.1.1))
of_put (o ∷ k ∷ Dictionary d ∷ rest) s h f = of_define s d (key_of s k) o rest h f.0 f.1.1.1
of_put (c ∷ b ∷ a ∷ rest) s h k = tt
of_put operands s h k = tt

of_def : (operands : List Obj) (s : StoreValue) (dicts : List ℕ) → Sound s → Each (IsOf (length s.made)) operands →
    DeskOf (length s.made) (def_row operands s dicts)
of_def (o ∷ k ∷ rest) s dicts h f = of_define s (current dicts) (key_of s k) o rest h f.0 f.1.1
of_def operands s dicts h f = tt

of_known_as : (m : ℕ) (key : Result Key KeyFault) (look : Key → Option Obj) (rest : List Obj) → Each (IsOf m) rest →
    AreOf m (known_as key look rest)
of_known_as m (Ok key) look rest k = (tt, k)
of_known_as m (Err TooLong) look rest k = (tt, k)
of_known_as m (Err NotAKey) look rest k = tt

of_known : (m : ℕ) (operands : List Obj) (s : StoreValue) → Each (IsOf m) operands → AreOf m (known_row operands s)
of_known m (k ∷ Dictionary d ∷ rest) s f = of_known_as m (key_of s k) (found s d) rest f.1.1
of_known m (b ∷ a ∷ rest) s f = tt
of_known m operands s f = tt

of_home : (m : ℕ) (home : Option ℕ) (rest : List Obj) → OfSome (λ (d : ℕ). d < m) home → Each (IsOf m) rest →
    AreOf m (home_row home rest)
of_home m (Some d) rest h k = by_test (AreOf m) (nat_lt (length rest) 499) (Goes (Boolean true ∷ Dictionary d ∷ rest)) _
    (λ e. (tt, (h, k))) (λ e. tt)
of_home m None rest h k = (tt, k)

of_where_as : (m : ℕ) (key : Result Key KeyFault) (home : Key → Option ℕ) (rest : List Obj) →
    ((q : Key) → OfSome (λ (d : ℕ). d < m) (home q)) → Each (IsOf m) rest → AreOf m (where_as key home rest)
of_where_as m (Ok key) home rest h k = of_home m (home key) rest (h key) k
of_where_as m (Err TooLong) home rest h k = (tt, k)
of_where_as m (Err NotAKey) home rest h k = tt

of_where : (m : ℕ) (operands : List Obj) (s : StoreValue) (dicts : List ℕ) → Each (IsOf m) operands →
    Each (λ (d : ℕ). d < m) dicts → AreOf m (where_row operands s dicts)
of_where m (k ∷ rest) s dicts f g = of_where_as m (key_of s k) (home_of s dicts) rest
    (λ q. each_find (λ (d : ℕ). d < m) (λ dict. has s dict q) dicts g) f.1
of_where m [] s dicts f g = tt

pair_are : (m : ℕ) (entries : List (Key × Obj)) (key : Result Key KeyFault) (v : Obj) → EntriesOf m entries → IsOf m v →
    OfSome (EntriesOf m) (with_pair entries key v)
pair_are m entries (Ok key) v h k = each_insert m entries key v h k
pair_are m entries (Err fault) v h k = tt

and_then_is : {A B : Type 0} (P : A → Type 0) (Q : B → Type 0) (o : Option A) (go : A → Option B) → OfSome P o →
    ((a : A) → P a → OfSome Q (go a)) → OfSome Q (and_then o go)
and_then_is P Q (Some a) go h f = f a h
and_then_is P Q None go h f = tt

entered_are : (m : ℕ) (s : StoreValue) (entries : List (Key × Obj)) (pairs : List Obj) → EntriesOf m entries →
    Each (IsOf m) pairs → OfSome (EntriesOf m) (entered s entries pairs)
unfolding entered
entered_are m s entries (k ∷ v ∷ pairs) h f =
    and_then_is (EntriesOf m) (EntriesOf m) (with_pair entries (key_of s k) v) (λ more. entered s more pairs)
    (pair_are m entries (key_of s k) v h f.1.0)
    (λ more g. entered_are m s more pairs g f.1.1)
entered_are m s entries rest h f = h

of_closed : (n : ℕ) (operands : List Obj) (s : StoreValue) → Sound s → Each (IsOf (length s.made)) operands →
    DeskOf (length s.made) (closed_row n operands s)
of_closed n operands s h k = by_test (DeskOf (length s.made)) (lacks_key s (reverse (take n operands))) _ _ (λ e. tt)
    (λ e.
    by_test (DeskOf (length s.made)) (is_odd n) _ _ (λ e. tt) (λ e.
    by_limit (DeskOf (length s.made)) (EntriesOf (length s.made)) (entered s [] (reverse (take n operands))) _ (λ e. tt)
    (entered_are (length s.made) s [] (reverse (take n operands)) tt
    (each_reverse (IsOf (length s.made)) (take n operands) (each_take (IsOf (length s.made)) n operands k)))
    (λ entries f.
    by_limit (DeskOf (length s.made)) (MadeDict (length s.made)) (with_dict_of s entries) _ (λ e. tt)
    (made_dict_of s entries h f)
    (λ new g. new_on (length s.made) new.1 (Dictionary new.0) (drop (n + 1) operands) g.0 g.1
    (each_drop (IsOf (length s.made)) (n + 1) operands k)))))

of_close_dict : (operands : List Obj) (s : StoreValue) → Sound s → Each (IsOf (length s.made)) operands →
    DeskOf (length s.made) (close_dict_row operands s)
of_close_dict operands s h k = by_match (length s.made) (position_from is_mark 0 operands) _
    (λ n. of_closed n operands s h k)

of_changed : (m : ℕ) (change : Obj → Obj) (operands : List Obj) → ((o : Obj) → IsOf m o → IsOf m (change o)) →
    Each (IsOf m) operands → AreOf m (changed change operands)
of_changed m change (o ∷ rest) f h = (f o h.0, h.1)
of_changed m change [] f h = tt

is_executable_of : (m : ℕ) (o : Obj) → IsOf m o → IsOf m (executable o)
is_executable_of m (Name bytes x) h = tt
is_executable_of m (ArrayOf p x) h = h
is_executable_of m o h = h

is_literal_of : (m : ℕ) (o : Obj) → IsOf m o → IsOf m (literal o)
is_literal_of m (Name bytes x) h = tt
is_literal_of m (ArrayOf p x) h = h
is_literal_of m o h = h

of_cvn : (m : ℕ) (operands : List Obj) (s : StoreValue) → Each (IsOf m) operands → AreOf m (cvn_row operands s)
of_cvn m (Text p ∷ rest) s k = by_test (AreOf m) (nat_le (length (bytes_of s p)) 127)
    (Goes (Name (bytes_of s p) false ∷ rest)) _ (λ e. (tt, k.1)) (λ e. tt)
of_cvn m (o ∷ rest) s k = tt
of_cvn m [] s k = tt

abbrev ScopeOf : ℕ → Outcome OperandsAndDicts → Type 0
ScopeOf m (Goes scope) = Each (IsOf m) scope.operands × Each (λ (d : ℕ). d < m) scope.dicts
ScopeOf m (Refuses name) = Unit {0}

of_begin : (m : ℕ) (operands : List Obj) (dicts : List ℕ) → Each (IsOf m) operands → Each (λ (d : ℕ). d < m) dicts →
    ScopeOf m (begin_row operands dicts)
of_begin m (Dictionary d ∷ rest) dicts h k =
    by_test (ScopeOf m) (nat_lt (length dicts) 20) (Goes _) _ (λ e. (h.1, (h.0, k))) (λ e. tt)
of_begin m (o ∷ rest) dicts h k = tt
of_begin m [] dicts h k = tt

abbrev DictsOf : ℕ → Outcome (List ℕ) → Type 0
DictsOf m (Goes dicts) = Each (λ (d : ℕ). d < m) dicts
DictsOf m (Refuses name) = Unit {0}

of_end : (m : ℕ) (dicts : List ℕ) → Each (λ (d : ℕ). d < m) dicts → DictsOf m (end_row dicts)
of_end m dicts h = by_test (DictsOf m) (nat_le (length dicts) 2) _ (Goes (drop 1 dicts)) (λ e. tt)
    (λ e. each_drop (λ (d : ℕ). d < m) 1 dicts h)

abbrev ReaderOf : ℕ → Outcome ReadingState → Type 0
ReaderOf m (Goes reader) = Grown m reader.store × Each (IsOf (length reader.store.made)) reader.operands
ReaderOf m (Refuses name) = Unit {0}

of_read : (p : Part) (rest : List Obj) (s : StoreValue) (count : ℕ) (bytes : List ℕ) (behind : ScannerValue) → Sound s →
    p.id < length s.made → Each (IsOf (length s.made)) rest →
    ReaderOf (length s.made) (read_row p rest s count bytes behind)
of_read p rest s count bytes behind h f k = by_test (ReaderOf (length s.made)) (p.len == 0) _ (Goes _) (λ e. tt)
    (λ e. let g = grown_elements s p 0 (integers bytes) h
    (each_map (IsOf (length s.made)) (λ (byte : ℕ). Int (pos byte)) (λ byte. tt) bytes) in
    (g, (tt, (omega arith, are_more (length s.made) (length (with_elements s p 0 (integers bytes)).made) g.1 rest k))))

of_readstring : (operands : List Obj) (s : StoreValue) (file : ScannerValue) → Sound s →
    Each (IsOf (length s.made)) operands → ReaderOf (length s.made) (readstring_row operands s file)
of_readstring (Text p ∷ File ∷ rest) s file h k = of_read p rest s _ _ _ h k.0 k.1.1
of_readstring (b ∷ a ∷ rest) s file h k = tt
of_readstring operands s file h k = tt

of_readhexstring : (operands : List Obj) (s : StoreValue) (file : ScannerValue) → Sound s →
    Each (IsOf (length s.made)) operands → ReaderOf (length s.made) (readhexstring_row operands s file)
of_readhexstring (Text p ∷ File ∷ rest) s file h k = of_read p rest s _ _ _ h k.0 k.1.1
of_readhexstring (b ∷ a ∷ rest) s file h k = tt
of_readhexstring operands s file h k = tt

abbrev pub WorkOf : ℕ → DataState → Type 0
WorkOf m w = Grown m w.store × Each (IsOf (length w.store.made)) w.operands ×
    Each (λ (d : ℕ). d < length w.store.made) w.dicts

-- what a data operator leaves is of its store, which has lost none
abbrev pub DataOf : ℕ → Outcome DataState → Type 0
DataOf m (Goes w) = WorkOf m w
DataOf m (Refuses name) = Unit {0}

-- numbers below m are below every larger number
pub below_more : (m n : ℕ) → m ≤ n → (dicts : List ℕ) → Each (λ (d : ℕ). d < m) dicts → Each (λ (d : ℕ). d < n) dicts
below_more m n le [] h = tt
below_more m n le (d ∷ dicts) h = (let k = h.0 in omega arith, below_more m n le dicts h.1)

data_operands : (w : DataState) (outcome : Outcome (List Obj)) → WorkOf (length w.store.made) w →
    AreOf (length w.store.made) outcome → DataOf (length w.store.made) (within (with_operands w) outcome)
data_operands w (Goes operands) h k = (h.0, k, h.2)
data_operands w (Refuses name) h k = tt

data_desk : (w : DataState) (outcome : Outcome OperandsAndStore) → WorkOf (length w.store.made) w →
    DeskOf (length w.store.made) outcome → DataOf (length w.store.made) (within (with_desk w) outcome)
data_desk w (Goes desk) h k = (k.0, k.1, below_more (length w.store.made) (length desk.store.made) k.0.1 w.dicts h.2)
data_desk w (Refuses name) h k = tt

data_scope : (w : DataState) (outcome : Outcome OperandsAndDicts) → WorkOf (length w.store.made) w →
    ScopeOf (length w.store.made) outcome → DataOf (length w.store.made) (within (with_scope w) outcome)
data_scope w (Goes scope) h k = (h.0, k.0, k.1)
data_scope w (Refuses name) h k = tt

data_dicts : (w : DataState) (outcome : Outcome (List ℕ)) → WorkOf (length w.store.made) w →
    DictsOf (length w.store.made) outcome → DataOf (length w.store.made) (within (with_dicts w) outcome)
data_dicts w (Goes dicts) h k = (h.0, h.1, k)
data_dicts w (Refuses name) h k = tt

data_reader : (w : DataState) (outcome : Outcome ReadingState) → WorkOf (length w.store.made) w →
    ReaderOf (length w.store.made) outcome → DataOf (length w.store.made) (within (with_reader w) outcome)
data_reader w (Goes reader) h k = (
  k.0,
  k.1,
  below_more (length w.store.made) (length reader.store.made) k.0.1 w.dicts h.2,
)
data_reader w (Refuses name) h k = tt

current_of : (m : ℕ) (dicts : List ℕ) → 2 ≤ m → Each (λ (d : ℕ). d < m) dicts → current dicts < m
current_of m (d ∷ below) le h = h.0
current_of m [] le h = omega arith

push_of : (w : DataState) (o : Obj) → IsOf (length w.store.made) o → WorkOf (length w.store.made) w →
    DataOf (length w.store.made) (within (with_operands w) (pushed o w.operands))
push_of w o f h = data_operands w (pushed o w.operands) h (of_pushed (length w.store.made) o w.operands f h.1)

-- each data operator leaves what is of the store
pub data_of : (op : DataOp) (w : DataState) → WorkOf (length w.store.made) w →
    DataOf (length w.store.made) (data_row op w)
unfolding data_row
data_of True w h = push_of w (Boolean true) tt h
data_of False w h = push_of w (Boolean false) tt h
data_of Null w h = push_of w NullObject tt h
data_of Array w h = data_desk w _ h (of_array w.operands w.store h.0.0 h.1)
data_of String w h = data_desk w _ h (of_string w.operands w.store h.0.0 h.1)
data_of Dict w h = data_desk w _ h (of_dict w.operands w.store h.0.0 h.1)
data_of CloseArray w h = data_desk w _ h (of_close_array w.operands w.store h.0.0 h.1)
data_of CloseDict w h = data_desk w _ h (of_close_dict w.operands w.store h.0.0 h.1)
data_of Length w h = data_operands w _ h (of_length (length w.store.made) w.operands w.store h.1)
data_of Get w h = data_operands w _ h (of_get w.operands w.store h.0.0 h.1)
data_of Put w h = data_desk w _ h (of_put w.operands w.store h.0.0 h.1)
data_of Getinterval w h = data_operands w _ h (of_getinterval (length w.store.made) w.operands h.1)
data_of Putinterval w h = data_desk w _ h (of_putinterval w.operands w.store h.0.0 h.1)
data_of Aload w h = data_operands w _ h (of_aload w.operands w.store h.0.0 h.1)
data_of Astore w h = data_desk w _ h (of_astore w.operands w.store h.0.0 h.1)
data_of Begin w h = data_scope w _ h (of_begin (length w.store.made) w.operands w.dicts h.1 h.2)
data_of End w h = data_dicts w _ h (of_end (length w.store.made) w.dicts h.2)
data_of Def w h = data_desk w _ h (of_def w.operands w.store w.dicts h.0.0 h.1)
data_of Load w h = data_operands w _ h (of_load w.operands w.store w.dicts h.0.0 h.1)
data_of Known w h = data_operands w _ h (of_known (length w.store.made) w.operands w.store h.1)
data_of Where w h = data_operands w _ h (of_where (length w.store.made) w.operands w.store w.dicts h.1 h.2)
data_of Currentdict w h = push_of w (Dictionary (current w.dicts))
    (current_of (length w.store.made) w.dicts h.0.0.1 h.2) h
data_of Systemdict w h = push_of w (Dictionary 0) (let two = h.0.0.1 in omega arith) h
data_of Userdict w h = push_of w (Dictionary 1) (let two = h.0.0.1 in omega arith) h
data_of Cvn w h = data_operands w _ h (of_cvn (length w.store.made) w.operands w.store h.1)
data_of Cvx w h = data_operands w _ h (of_changed (length w.store.made) executable w.operands
    (is_executable_of (length w.store.made)) h.1)
data_of Cvlit w h = data_operands w _ h (of_changed (length w.store.made) literal w.operands
    (is_literal_of (length w.store.made)) h.1)
data_of Xcheck w h = data_operands w _ h (of_changed (length w.store.made) mark_of w.operands (λ o f. tt) h.1)
data_of TypeOf w h = data_operands w _ h (of_changed (length w.store.made) type_name w.operands (λ o f. tt) h.1)
data_of Currentfile w h = push_of w File tt h
data_of Readstring w h = data_reader w _ h (of_readstring w.operands w.store w.file h.0.0 h.1)
data_of Readhexstring w h = data_reader w _ h (of_readhexstring w.operands w.store w.file h.0.0 h.1)
