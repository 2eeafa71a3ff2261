-- The data operators keep the limits, and none lengthens the text.
use Rattle.std.specs.Prelude.{nat_lt, nat_le, min, ◌==◌, ◌*◌, reverse}
use Rattle.std.specs.List.{position_from}
use Rattle.std.proofs.lemmas.Bool.{ltb-true, leb-true, leb-false}
use Rattle.std.proofs.lemmas.List.{length-append, length-drop, length-reverse}
use Rattle.std.proofs.lemmas.List.FromFn.{length-map-range_with_len}
use Rattle.std.proofs.Common.{ℕ, suc, zero, ◌+◌, ◌≤◌, ◌<◌, true, false, List, [], ◌∷◌, ◌++◌, length, take, drop, Option}
use Rattle.std.proofs.Common.{Some, None, Result, Ok, Err, arith}
use Rattle.press_fault.specs.declared.names.PsName.{PsName}
use Rattle.ps_scan.specs.Place.{ScannerValue}
use Rattle.ps_scan.specs.Characters.{is_hex}
use Rattle.ps_scan.specs.Taking.{hex_count, behind_hex}
use Rattle.ps_store.specs.declared.key.Key.{Key}
use Rattle.ps_store.specs.declared.key.KeyFault.{KeyFault}
use Rattle.ps_store.specs.declared.key.KeyFault.TheVariants.{NotAKey, TooLong}
use Rattle.ps_store.specs.declared.obj.Part.{Part}
use Rattle.ps_store.specs.declared.obj.Obj.{Obj}
use Rattle.ps_store.specs.declared.obj.Obj.TheVariants.{Null as NullObject, Bool as Boolean, Int, Name, Text}
use Rattle.ps_store.specs.declared.obj.Obj.TheVariants.{Array as ArrayOf, Dict as Dictionary, File}
use Rattle.ps_store.specs.declared.oper.DataOp.{DataOp}
use Rattle.ps_store.specs.declared.oper.DataOp.TheVariants.{True, False, Null, Array, String, Dict, CloseArray}
use Rattle.ps_store.specs.declared.oper.DataOp.TheVariants.{CloseDict, Length, Get, Put, Getinterval, Putinterval}
use Rattle.ps_store.specs.declared.oper.DataOp.TheVariants.{Aload, Astore, Begin, End, Def, Load, Known, Where}
use Rattle.ps_store.specs.declared.oper.DataOp.TheVariants.{Currentdict, Systemdict, Userdict, Cvn, Cvx, Cvlit, Xcheck}
use Rattle.ps_store.specs.declared.oper.DataOp.TheVariants.{«Type» as TypeOf, Currentfile, Readstring, Readhexstring}
use Rattle.ps_store.specs.Store.{StoreValue, element, found, defined, with_array, with_text, with_dict, bytes_of}
use Rattle.ps_store.specs.Gathering.{elements, with_dict_of}
use Rattle.ps_store.specs.Dicts.{find_key, home_of}
use Rattle.ps_store.specs.Numbers.{place_of}
use Rattle.ps_store.specs.KeyOf.{key_of}
use Rattle.ps_store.specs.Desk.{OperandsAndStore}
use Rattle.ps_store.specs.Stack.{is_mark}
use Rattle.ps_store.specs.Outcome.{Outcome, Goes, Refuses, or_range, or_limit}
use Rattle.ps_data_ops.specs.Values.{changed, executable, literal, mark_of, type_name, cvn_row}
use Rattle.ps_data_ops.specs.Composites.{count_of, or_unmatched, array_row, string_row, dict_row, close_array_row}
use Rattle.ps_data_ops.specs.Composites.{begin_of, interval_of, getinterval_row, putinterval_row, aload_row, astore_row}
use Rattle.ps_data_ops.specs.Dictionaries.{OperandsAndDicts, length_row, got, value_row, get_row, define_row, put_row}
use Rattle.ps_data_ops.specs.Dictionaries.{is_odd, lacks_key, entered, closed_row, close_dict_row, begin_row, end_row}
use Rattle.ps_data_ops.specs.Dictionaries.{def_row, load_row, known_as, known_row, home_row, where_as, where_row}
use Rattle.ps_data_ops.specs.Dictionaries.{current}
use Rattle.ps_data_ops.specs.Reading.{ReadingState, read_row, readstring_row, readhexstring_row}
use Rattle.ps_data_ops.specs.Rows.{DataState, within, with_operands, with_desk, with_scope, with_dicts, with_reader}
use Rattle.ps_data_ops.specs.Rows.{data_row}
use Rattle.ps_laws.proofs.Operands.{Few, by_test, few_pushed}
use Rattle.ps_laws.proofs.StackRows.{FewOfDesk}

few_or_range : {A S : Type 0} (P : Outcome S → Type 0) (o : Option A) (go : A → Outcome S) →
    ((name : PsName) → P (Refuses name)) → ((a : A) → P (go a)) → P (or_range o go)
few_or_range P (Some a) go refused given = given a
few_or_range P None go refused given = refused _

few_or_limit : {A S : Type 0} (P : Outcome S → Type 0) (o : Option A) (go : A → Outcome S) →
    ((name : PsName) → P (Refuses name)) → ((a : A) → P (go a)) → P (or_limit o go)
few_or_limit P (Some a) go refused given = given a
few_or_limit P None go refused given = refused _

few_or_unmatched : (o : Option ℕ) (go : ℕ → Outcome OperandsAndStore) → ((n : ℕ) → FewOfDesk (go n)) →
    FewOfDesk (or_unmatched o go)
few_or_unmatched (Some n) go given = given n
few_or_unmatched None go given = tt

few_array : (operands : List Obj) (s : StoreValue) → length operands ≤ 500 → FewOfDesk (array_row operands s)
few_array (Int n ∷ rest) s h = few_or_range FewOfDesk (count_of n) _ (λ e. tt) (λ len.
    few_or_limit FewOfDesk (with_array s len) _ (λ e. tt) (λ new. omega arith))
few_array (o ∷ rest) s h = tt
few_array [] s h = tt

few_string : (operands : List Obj) (s : StoreValue) → length operands ≤ 500 → FewOfDesk (string_row operands s)
few_string (Int n ∷ rest) s h = few_or_range FewOfDesk (count_of n) _ (λ e. tt) (λ len.
    few_or_limit FewOfDesk (with_text s len) _ (λ e. tt) (λ new. omega arith))
few_string (o ∷ rest) s h = tt
few_string [] s h = tt

few_dict : (operands : List Obj) (s : StoreValue) → length operands ≤ 500 → FewOfDesk (dict_row operands s)
few_dict (Int n ∷ rest) s h = few_or_range FewOfDesk (count_of n) _ (λ e. tt) (λ len.
    few_or_limit FewOfDesk (with_dict s) _ (λ e. tt) (λ new. omega arith))
few_dict (o ∷ rest) s h = tt
few_dict [] s h = tt

-- one object in place of a mark and what stands above it
few_over : (o : Obj) (n : ℕ) (operands : List Obj) → length operands ≤ 500 → length (o ∷ drop (n + 1) operands) ≤ 500
few_over o n operands h = let l = length-drop (n + 1) operands in omega arith

few_close_array : (operands : List Obj) (s : StoreValue) → length operands ≤ 500 →
    FewOfDesk (close_array_row operands s)
few_close_array operands s h = few_or_unmatched (position_from is_mark 0 operands) _ (λ n.
    few_or_limit FewOfDesk (with_array s n) _ (λ e. tt) (λ new. few_over (ArrayOf new.0 false) n operands h))

few_getinterval : (operands : List Obj) → length operands ≤ 500 → Few (getinterval_row operands)
few_getinterval (Int count ∷ Int at ∷ ArrayOf p x ∷ rest) h =
    few_or_range Few (interval_of at count p.len) _ (λ e. tt) (λ i. omega arith)
few_getinterval (Int count ∷ Int at ∷ Text p ∷ rest) h =
    few_or_range Few (interval_of at count p.len) _ (λ e. tt) (λ i. omega arith)
few_getinterval (c ∷ b ∷ a ∷ rest) h = tt
few_getinterval operands h = tt

few_putinterval : (operands : List Obj) (s : StoreValue) → length operands ≤ 500 →
    FewOfDesk (putinterval_row operands s)
few_putinterval (ArrayOf from y ∷ Int at ∷ ArrayOf to x ∷ rest) s h =
    few_or_range FewOfDesk (begin_of at from.len to.len) _ (λ e. tt) (λ i. omega arith)
few_putinterval (Text from ∷ Int at ∷ Text to ∷ rest) s h =
    few_or_range FewOfDesk (begin_of at from.len to.len) _ (λ e. tt) (λ i. omega arith)
few_putinterval (c ∷ b ∷ a ∷ rest) s h = tt
few_putinterval operands s h = tt

few_aload : (operands : List Obj) (s : StoreValue) → length operands ≤ 500 → Few (aload_row operands s)
few_aload (ArrayOf p x ∷ rest) s h = by_test Few (nat_le (length rest + p.len) 499)
    (Goes (ArrayOf p x ∷ (reverse (elements s p) ++ rest))) _
    (λ e. let fits = leb-true (length rest + p.len) 499 e in
    let a = length-append (reverse (elements s p)) rest in
    let b = length-reverse (elements s p) in
    let c = length-map-range_with_len (element s p) 0 p.len in omega arith) (λ e. tt)
few_aload (o ∷ rest) s h = tt
few_aload [] s h = tt

few_astore : (operands : List Obj) (s : StoreValue) → length operands ≤ 500 → FewOfDesk (astore_row operands s)
few_astore (ArrayOf p x ∷ rest) s h = by_test FewOfDesk (nat_le p.len (length rest)) (Goes _) _
    (λ e. let l = length-drop p.len rest in omega arith) (λ e. tt)
few_astore (o ∷ rest) s h = tt
few_astore [] s h = tt

few_length : (operands : List Obj) (s : StoreValue) → length operands ≤ 500 → Few (length_row operands s)
few_length (ArrayOf p x ∷ rest) s h = omega arith
few_length (Text p ∷ rest) s h = omega arith
few_length (Dictionary d ∷ rest) s h = omega arith
few_length (Name bytes x ∷ rest) s h = omega arith
few_length (o ∷ rest) s h = tt
few_length [] s h = tt

few_got : (o : Option Obj) (rest : List Obj) → length rest < 500 → Few (got o rest)
few_got (Some o) rest h = omega arith
few_got None rest h = tt

few_value : (key : Result Key KeyFault) (find : Key → Option Obj) (rest : List Obj) → length rest < 500 →
    Few (value_row key find rest)
few_value (Ok key) find rest h = few_got (find key) rest h
few_value (Err TooLong) find rest h = tt
few_value (Err NotAKey) find rest h = tt

few_get : (operands : List Obj) (s : StoreValue) → length operands ≤ 500 → Few (get_row operands s)
few_get (Int i ∷ ArrayOf p x ∷ rest) s h = few_or_range Few (place_of i p.len) _ (λ e. tt) (λ at. omega arith)
few_get (Int i ∷ Text p ∷ rest) s h = few_or_range Few (place_of i p.len) _ (λ e. tt) (λ at. omega arith)
few_get (k ∷ Dictionary d ∷ rest) s h = few_value (key_of s k) (found s d) rest (omega arith)
few_get (b ∷ a ∷ rest) s h = tt
few_get operands s h = tt

few_load : (operands : List Obj) (s : StoreValue) (dicts : List ℕ) → length operands ≤ 500 →
    Few (load_row operands s dicts)
few_load (k ∷ rest) s dicts h = few_value (key_of s k) (find_key s dicts) rest (omega arith)
few_load [] s dicts h = tt

few_define : (s : StoreValue) (d : ℕ) (key : Result Key KeyFault) (o : Obj) (rest : List Obj) → length rest ≤ 500 →
    FewOfDesk (define_row s d key o rest)
few_define s d (Ok key) o rest h = by_test FewOfDesk (d == 0) _ (or_limit (defined s d key o) _) (λ e. tt) (λ e.
    few_or_limit FewOfDesk (defined s d key o) _ (λ e. tt) (λ t. h))
few_define s d (Err TooLong) o rest h = by_test FewOfDesk (d == 0) (Refuses _) (Refuses _) (λ e. tt) (λ e. tt)
few_define s d (Err NotAKey) o rest h = tt

few_put : (operands : List Obj) (s : StoreValue) → length operands ≤ 500 → FewOfDesk (put_row operands s)
few_put (o ∷ Int i ∷ ArrayOf p x ∷ rest) s h = few_or_range FewOfDesk (place_of i p.len) _ (λ e. tt) (λ at. omega arith)
few_put (Int o ∷ Int i ∷ Text p ∷ rest) s h = few_or_range FewOfDesk (place_of i p.len) _ (λ e. tt) (λ at.
    few_or_range FewOfDesk (place_of o 256) _ (λ e. tt) (λ byte. omega arith))
few_put (o ∷ k ∷ Dictionary d ∷ rest) s h = few_define s d (key_of s k) o rest (omega arith)
few_put (c ∷ b ∷ a ∷ rest) s h = tt
few_put operands s h = tt

few_def : (operands : List Obj) (s : StoreValue) (dicts : List ℕ) → length operands ≤ 500 →
    FewOfDesk (def_row operands s dicts)
few_def (o ∷ k ∷ rest) s dicts h = few_define s (current dicts) (key_of s k) o rest (omega arith)
few_def operands s dicts h = tt

few_known_as : (key : Result Key KeyFault) (find : Key → Option Obj) (rest : List Obj) → length rest < 500 →
    Few (known_as key find rest)
few_known_as (Ok key) find rest h = omega arith
few_known_as (Err TooLong) find rest h = omega arith
few_known_as (Err NotAKey) find rest h = tt

few_known : (operands : List Obj) (s : StoreValue) → length operands ≤ 500 → Few (known_row operands s)
few_known (k ∷ Dictionary d ∷ rest) s h = few_known_as (key_of s k) (found s d) rest (omega arith)
few_known (b ∷ a ∷ rest) s h = tt
few_known operands s h = tt

few_home : (home : Option ℕ) (rest : List Obj) → length rest < 500 → Few (home_row home rest)
few_home (Some d) rest h = by_test Few (nat_lt (length rest) 499) (Goes (Boolean true ∷ Dictionary d ∷ rest)) _
    (λ e. let l = ltb-true (length rest) 499 e in omega arith) (λ e. tt)
few_home None rest h = omega arith

few_where_as : (key : Result Key KeyFault) (home : Key → Option ℕ) (rest : List Obj) → length rest < 500 →
    Few (where_as key home rest)
few_where_as (Ok key) home rest h = few_home (home key) rest h
few_where_as (Err TooLong) home rest h = omega arith
few_where_as (Err NotAKey) home rest h = tt

few_where : (operands : List Obj) (s : StoreValue) (dicts : List ℕ) → length operands ≤ 500 →
    Few (where_row operands s dicts)
few_where (k ∷ rest) s dicts h = few_where_as (key_of s k) (home_of s dicts) rest (omega arith)
few_where [] s dicts h = tt

few_closed : (n : ℕ) (operands : List Obj) (s : StoreValue) → length operands ≤ 500 →
    FewOfDesk (closed_row n operands s)
few_closed n operands s h = by_test FewOfDesk (lacks_key s (reverse (take n operands))) _ _ (λ e. tt) (λ e.
    by_test FewOfDesk (is_odd n) _ _ (λ e. tt) (λ e.
    few_or_limit FewOfDesk (entered s [] (reverse (take n operands))) _ (λ e. tt) (λ entries.
    few_or_limit FewOfDesk (with_dict_of s entries) _ (λ e. tt) (λ new. few_over (Dictionary new.0) n operands h))))

few_close_dict : (operands : List Obj) (s : StoreValue) → length operands ≤ 500 → FewOfDesk (close_dict_row operands s)
few_close_dict operands s h = few_or_unmatched (position_from is_mark 0 operands) _ (λ n. few_closed n operands s h)

few_changed : (change : Obj → Obj) (operands : List Obj) → length operands ≤ 500 → Few (changed change operands)
few_changed change (o ∷ rest) h = omega arith
few_changed change [] h = tt

few_cvn : (operands : List Obj) (s : StoreValue) → length operands ≤ 500 → Few (cvn_row operands s)
few_cvn (Text p ∷ rest) s h = by_test Few (nat_le (length (bytes_of s p)) 127) (Goes _) _ (λ e. omega arith) (λ e. tt)
few_cvn (o ∷ rest) s h = tt
few_cvn [] s h = tt

abbrev FewOfScope : Outcome OperandsAndDicts → Type 0
FewOfScope (Goes scope) = (length scope.operands ≤ 500) × (length scope.dicts ≤ 20) × (2 ≤ length scope.dicts)
FewOfScope (Refuses name) = Unit {0}

few_begin : (operands : List Obj) (dicts : List ℕ) → length operands ≤ 500 → 2 ≤ length dicts →
    FewOfScope (begin_row operands dicts)
few_begin (Dictionary d ∷ rest) dicts h k = by_test FewOfScope (nat_lt (length dicts) 20) (Goes _) _
    (λ e. let l = ltb-true (length dicts) 20 e in (omega arith, omega arith, omega arith)) (λ e. tt)
few_begin (o ∷ rest) dicts h k = tt
few_begin [] dicts h k = tt

abbrev FewDicts : Outcome (List ℕ) → Type 0
FewDicts (Goes dicts) = (length dicts ≤ 20) × (2 ≤ length dicts)
FewDicts (Refuses name) = Unit {0}

few_end : (dicts : List ℕ) → length dicts ≤ 20 → FewDicts (end_row dicts)
few_end dicts h = by_test FewDicts (nat_le (length dicts) 2) _ (Goes (drop 1 dicts)) (λ e. tt)
    (λ e. let l = leb-false (length dicts) 2 e in let d = length-drop 1 dicts in (omega arith, omega arith))

abbrev FewOfReader : ℕ → Outcome ReadingState → Type 0
FewOfReader bytes (Goes reader) = (length reader.operands ≤ 500) × (length reader.file.rest ≤ bytes)
FewOfReader bytes (Refuses name) = Unit {0}

few_read : (p : Part) (rest : List Obj) (s : StoreValue) (count : ℕ) (bytes : List ℕ) (behind : ScannerValue)
    (most : ℕ) → length rest + 2 ≤ 500 → length behind.rest ≤ most →
    FewOfReader most (read_row p rest s count bytes behind)
few_read p rest s count bytes behind most h k =
    by_test (FewOfReader most) (p.len == 0) _ (Goes _) (λ e. tt) (λ e. (omega arith, k))

few_readstring : (operands : List Obj) (s : StoreValue) (file : ScannerValue) → length operands ≤ 500 →
    FewOfReader (length file.rest) (readstring_row operands s file)
few_readstring (Text p ∷ File ∷ rest) s file h =
    few_read p rest s (min p.len (length file.rest)) _
    (record { depth = file.depth; rest = drop (min p.len (length file.rest)) file.rest }) (length file.rest)
    (omega arith)
    (let l = length-drop (min p.len (length file.rest)) file.rest in omega arith)
few_readstring (b ∷ a ∷ rest) s file h = tt
few_readstring operands s file h = tt

behind_hex_shorter : (n : ℕ) (text : List ℕ) → length (behind_hex n text) ≤ length text
unfolding behind_hex
behind_hex_shorter zero text = omega arith
behind_hex_shorter (suc n) [] = omega arith
behind_hex_shorter (suc n) (c ∷ cs) = by_test (λ (t : List ℕ). length t ≤ length (c ∷ cs)) (is_hex c) (behind_hex n cs)
    (behind_hex (suc n) cs)
    (λ e. let l = behind_hex_shorter n cs in omega arith) (λ e. let l = behind_hex_shorter (suc n) cs in omega arith)

few_readhexstring : (operands : List Obj) (s : StoreValue) (file : ScannerValue) → length operands ≤ 500 →
    FewOfReader (length file.rest) (readhexstring_row operands s file)
few_readhexstring (Text p ∷ File ∷ rest) s file h =
    few_read p rest s (hex_count p.len file.rest) _
    (record { depth = file.depth; rest = behind_hex (2 * p.len) file.rest }) (length file.rest) (omega arith)
    (behind_hex_shorter (2 * p.len) file.rest)
few_readhexstring (b ∷ a ∷ rest) s file h = tt
few_readhexstring operands s file h = tt

-- the limits hold, and the text has at most so many bytes
abbrev pub WorkFits : ℕ → DataState → Type 0
WorkFits bytes w = (length w.operands ≤ 500) × (length w.dicts ≤ 20) × (2 ≤ length w.dicts) ×
    (length w.file.rest ≤ bytes)

-- what a data operator leaves is within the limits, and its text is no longer than n
abbrev pub DataFits : ℕ → Outcome DataState → Type 0
DataFits bytes (Goes w) = WorkFits bytes w
DataFits bytes (Refuses name) = Unit {0}

by_operands : (bytes : ℕ) (w : DataState) (outcome : Outcome (List Obj)) → WorkFits bytes w → Few outcome →
    DataFits bytes (within (with_operands w) outcome)
by_operands bytes w (Goes operands) h k = (k, h.1, h.2, h.3)
by_operands bytes w (Refuses name) h k = tt

by_desk : (bytes : ℕ) (w : DataState) (outcome : Outcome OperandsAndStore) → WorkFits bytes w → FewOfDesk outcome →
    DataFits bytes (within (with_desk w) outcome)
by_desk bytes w (Goes desk) h k = (k, h.1, h.2, h.3)
by_desk bytes w (Refuses name) h k = tt

by_scope : (bytes : ℕ) (w : DataState) (outcome : Outcome OperandsAndDicts) → WorkFits bytes w → FewOfScope outcome →
    DataFits bytes (within (with_scope w) outcome)
by_scope bytes w (Goes scope) h k = (k.0, k.1, k.2, h.3)
by_scope bytes w (Refuses name) h k = tt

by_dicts : (bytes : ℕ) (w : DataState) (outcome : Outcome (List ℕ)) → WorkFits bytes w → FewDicts outcome →
    DataFits bytes (within (with_dicts w) outcome)
by_dicts bytes w (Goes dicts) h k = (h.0, k.0, k.1, h.3)
by_dicts bytes w (Refuses name) h k = tt

by_reader : (w : DataState) (outcome : Outcome ReadingState) → WorkFits (length w.file.rest) w →
    FewOfReader (length w.file.rest) outcome → DataFits (length w.file.rest) (within (with_reader w) outcome)
by_reader w (Goes reader) h k = (k.0, h.1, h.2, k.1)
by_reader w (Refuses name) h k = tt

-- each data operator keeps the limits, and doesn't lengthen the text
pub data_fits : (op : DataOp) (w : DataState) → WorkFits (length w.file.rest) w →
    DataFits (length w.file.rest) (data_row op w)
unfolding data_row
data_fits True w h = by_operands _ w _ h (few_pushed (Boolean true) w.operands)
data_fits False w h = by_operands _ w _ h (few_pushed (Boolean false) w.operands)
data_fits Null w h = by_operands _ w _ h (few_pushed NullObject w.operands)
data_fits Array w h = by_desk _ w _ h (few_array w.operands w.store h.0)
data_fits String w h = by_desk _ w _ h (few_string w.operands w.store h.0)
data_fits Dict w h = by_desk _ w _ h (few_dict w.operands w.store h.0)
data_fits CloseArray w h = by_desk _ w _ h (few_close_array w.operands w.store h.0)
data_fits CloseDict w h = by_desk _ w _ h (few_close_dict w.operands w.store h.0)
data_fits Length w h = by_operands _ w _ h (few_length w.operands w.store h.0)
data_fits Get w h = by_operands _ w _ h (few_get w.operands w.store h.0)
data_fits Put w h = by_desk _ w _ h (few_put w.operands w.store h.0)
data_fits Getinterval w h = by_operands _ w _ h (few_getinterval w.operands h.0)
data_fits Putinterval w h = by_desk _ w _ h (few_putinterval w.operands w.store h.0)
data_fits Aload w h = by_operands _ w _ h (few_aload w.operands w.store h.0)
data_fits Astore w h = by_desk _ w _ h (few_astore w.operands w.store h.0)
data_fits Begin w h = by_scope _ w _ h (few_begin w.operands w.dicts h.0 h.2)
data_fits End w h = by_dicts _ w _ h (few_end w.dicts h.1)
data_fits Def w h = by_desk _ w _ h (few_def w.operands w.store w.dicts h.0)
data_fits Load w h = by_operands _ w _ h (few_load w.operands w.store w.dicts h.0)
data_fits Known w h = by_operands _ w _ h (few_known w.operands w.store h.0)
data_fits Where w h = by_operands _ w _ h (few_where w.operands w.store w.dicts h.0)
data_fits Currentdict w h = by_operands _ w _ h (few_pushed (Dictionary (current w.dicts)) w.operands)
data_fits Systemdict w h = by_operands _ w _ h (few_pushed (Dictionary 0) w.operands)
data_fits Userdict w h = by_operands _ w _ h (few_pushed (Dictionary 1) w.operands)
data_fits Cvn w h = by_operands _ w _ h (few_cvn w.operands w.store h.0)
data_fits Cvx w h = by_operands _ w _ h (few_changed executable w.operands h.0)
data_fits Cvlit w h = by_operands _ w _ h (few_changed literal w.operands h.0)
data_fits Xcheck w h = by_operands _ w _ h (few_changed mark_of w.operands h.0)
data_fits TypeOf w h = by_operands _ w _ h (few_changed type_name w.operands h.0)
data_fits Currentfile w h = by_operands _ w _ h (few_pushed File w.operands)
data_fits Readstring w h = by_reader w _ h (few_readstring w.operands w.store w.file h.0)
data_fits Readhexstring w h = by_reader w _ h (few_readhexstring w.operands w.store w.file h.0)
