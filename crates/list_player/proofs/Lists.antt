-- A list from its beginning to its end, loan by loan.
use Rattle.std.proofs.Common.{◌≡◌, ◌∙◌, ap, sym, subst, refl, ℕ, ◌+◌, ◌-◌, ◌<◌, ◌≤◌, Bool, true, false, cond, List}
use Rattle.std.proofs.Common.{[], ◌∷◌, ◌++◌}
use Rattle.std.proofs.Common.{length, get_or, replicate, Option, Some, None, arith, append_assoc, ◌*◌, Result, Ok, Err}
use Rattle.std.specs.Prelude.{◌==◌, IfSome, All, Contains, option_map, OnErr}
use Rattle.std.specs.Option.{option_map_or, option_to_list}
use Rattle.std.specs.List.{AllByRecursion, filter_map, flat_map, dedup_from, slice_get}
use Rattle.std.proofs.lemmas.Bool.{eqb-true}
use Rattle.std.proofs.lemmas.List.{append-nil, get_or-append_right, length-append}
use Rattle.std.proofs.lemmas.List.Elements.{recursion_from_All}
use Rattle.press_fault.specs.Plane.{CodeValue}
use Rattle.page_model.specs.Image.{ImageValue}
use Rattle.page_model.specs.Marking.{RegionValue, MarkValue, Flatly, Pictured, Masked}
use Rattle.page_model.specs.Page.{ink_source}
use Rattle.page_model.specs.Cover.{HasChannels, InkHasChannels, ImageHasChannels, white}
use Rattle.page_model.specs.Pages.{dot_bytes, rows_text, rows_of_band}
use Rattle.page_model.specs.declared.page.Depth.{Depth}
use Rattle.page_model.specs.declared.page.Depth.TheVariants.{Eight, Sixteen}
use Rattle.page_model.specs.declared.mark.Ink.{Ink}
use Rattle.page_model.specs.declared.mark.Ink.TheVariants.{Plain, Linked}
use Rattle.geo_clip.specs.Mask.{BandMaskValue}
use Rattle.list_codec.specs.Command.{CmdValue, IsCmd, Inked, Clipped, Drawn, Pictured as Shown, Masked as ShownThrough}
use Rattle.list_codec.specs.Spelling.{cmd_bytes}
use Rattle.list_codec.proofs.Commands.{one_front}
use Rattle.band_writer.specs.Bands.{mark_source, needs_of}
use Rattle.band_writer.specs.Listing.{spelled, opening}
use Rattle.band_writer.specs.Parts.{AreSpellings, PagePartsValue}
use Rattle.band_writer.specs.Said.{said_mark, image_marks, marks_said, list_marks}
use Rattle.list_player.specs.Playing.{SayMarks, tint_at, BandDotsValue, dots_of}
use Rattle.list_player.specs.Code.Steps.{lent_at, ShowMarks, ink_after, clip_after, cmd_marks, cmd_source, is_served}
use Rattle.list_player.specs.Code.Steps.{CmdHasChannels, AllSuit, AreServable, GoesBy, needs_from, NeedsNow, IsPlayed}
use Rattle.list_player.specs.Code.Steps.{HasPlayed}
use Rattle.list_player.specs.Code.Steps.{IsUnderWay}
use Rattle.list_player.proofs.Drawn.{shows_none, rows_bytes}
use Rattle.list_player.proofs.Plays.{cmd_long, said_more}

-- one list of commands at most has a spelling
one_spelling : (xs ys : List CmdValue) → AllByRecursion IsCmd xs → AllByRecursion IsCmd ys → spelled xs ≡ spelled ys →
    xs ≡ ys
unfolding spelled
one_spelling [] [] fits_xs fits_ys same = refl
one_spelling [] (b ∷ ys) fits_xs fits_ys same =
    let long : 0 ≡ length (cmd_bytes b ++ spelled ys) = ap length same in
    absurd (let e : ⊥ = omega (arith, long, length-append (cmd_bytes b) (spelled ys), cmd_long b) in e)
one_spelling (a ∷ xs) [] fits_xs fits_ys same =
    let long : length (cmd_bytes a ++ spelled xs) ≡ 0 = ap length same in
    absurd (let e : ⊥ = omega (arith, long, length-append (cmd_bytes a) (spelled xs), cmd_long a) in e)
one_spelling (a ∷ xs) (b ∷ ys) fits_xs fits_ys same =
    let one = one_front a b (spelled xs) (spelled ys) fits_xs.0 fits_ys.0 same in
    ap (λ (c : CmdValue). c ∷ xs) one.0 ∙ ap (λ (cs : List CmdValue). b ∷ cs) (one_spelling xs ys fits_xs.1 fits_ys.1
    one.1)

-- bytes say one list of marks at most
pub said_once : (images : List ImageValue) (bytes : List ℕ) (a b : List MarkValue) → SayMarks images bytes a →
    SayMarks images bytes b → a ≡ b
said_once images bytes a b one other = one.say ∙ (ap (list_marks images)
    (one_spelling one.cmds other.cmds one.commands other.commands (sym one.are ∙ other.are)) ∙ sym other.say)

-- the marks that spellings say
pub said_of : (images : List ImageValue) (bytes : List ℕ) → (s : AreSpellings bytes) →
    SayMarks images bytes (list_marks images s.cmds)
said_of images bytes s = record { cmds = s.cmds; commands = s.commands; are = s.are; say = refl }

-- a command without a source converts no code
ink_unlinked : (channels : ℕ → ℕ) (ink : Ink) → is_served None (ink_source ink) ≡ true → InkHasChannels channels ink
ink_unlinked channels (Plain code) served = tt
ink_unlinked channels (Linked source code) served = absurd cc

own_unlinked : (channels : ℕ → ℕ) (count : ℕ) (source : Option ℕ) → is_served None source ≡ true →
    ImageHasChannels channels count source
own_unlinked channels count None served = tt
own_unlinked channels count (Some source) served = absurd cc

shown_unlinked : (channels : ℕ → ℕ) (o : Option ImageValue) →
    is_served None (option_map_or (λ (image : ImageValue). image.source) o None) ≡ true →
    IfSome o (λ (image : ImageValue). ImageHasChannels channels image.channels image.source)
shown_unlinked channels None served = tt
shown_unlinked channels (Some image) served = own_unlinked channels image.channels image.source served

masked_unlinked : (channels : ℕ → ℕ) (ink : Ink) (o : Option ImageValue) →
    is_served None (option_map_or (λ (image : ImageValue). ink_source ink) o None) ≡ true →
    IfSome o (λ (image : ImageValue). InkHasChannels channels ink)
masked_unlinked channels ink None served = tt
masked_unlinked channels ink (Some image) served = ink_unlinked channels ink served

cmd_unlinked : (channels : ℕ → ℕ) (images : List ImageValue) (ink : Ink) (cmd : CmdValue) →
    is_served None (cmd_source images ink cmd) ≡ true → CmdHasChannels channels images ink cmd
cmd_unlinked channels images ink (Inked other) served = tt
cmd_unlinked channels images ink (Clipped other) served = tt
cmd_unlinked channels images ink (Drawn rule shapes) served = ink_unlinked channels ink served
cmd_unlinked channels images ink (Shown place) served = shown_unlinked channels (slice_get images place) served
cmd_unlinked channels images ink (ShownThrough place) served = masked_unlinked channels ink (slice_get images place)
    served

all_unlinked : (channels : ℕ) (images : List ImageValue) (ink : Ink) (cmds : List CmdValue) →
    AllSuit None channels images ink cmds
all_unlinked channels images ink [] = tt
all_unlinked channels images ink (cmd ∷ cmds) = (
  λ served. cmd_unlinked (λ k. channels) images ink cmd served,
  all_unlinked channels images (ink_after ink cmd)
      cmds,
)

-- before the first loan any list is servable
pub servable_unlinked : (o : Option ℕ) (channels : ℕ) (images : List ImageValue) (ink : Ink) (bytes : List ℕ) → o ≡
    None →
    AreSpellings bytes → AreServable o channels images ink bytes
servable_unlinked o channels images ink bytes none s =
    subst (λ (p : Option ℕ). AreServable p channels images ink bytes) (sym none)
    (record { cmds = s.cmds; commands = s.commands; are = s.are; suit = all_unlinked channels images ink s.cmds })

-- where no loan is out no command waits
pub none_waits : (o : Option ℕ) (images : List ImageValue) (ink : Ink) (bytes : List ℕ) → o ≡ None → NeedsNow images
    ink bytes o
none_waits None images ink bytes none = tt
none_waits (Some s) images ink bytes none = absurd cc

-- a code of the loan's source has the loan's channels
ink_suits : (channels_of : ℕ → ℕ) (lent channels : ℕ) (ink : Ink) → channels ≡ channels_of lent →
    is_served (Some lent) (ink_source ink) ≡ true → InkHasChannels channels_of ink → InkHasChannels (λ k. channels) ink
ink_suits channels_of lent channels (Plain code) same served has = tt
ink_suits channels_of lent channels (Linked source code) same served has =
    has ∙ (ap channels_of (sym (eqb-true lent source served)) ∙ sym same)

own_suits : (channels_of : ℕ → ℕ) (lent channels count : ℕ) (source : Option ℕ) → channels ≡ channels_of lent →
    is_served (Some lent) source ≡ true → ImageHasChannels channels_of count source →
    ImageHasChannels (λ k. channels) count source
own_suits channels_of lent channels count None same served has = tt
own_suits channels_of lent channels count (Some source) same served has =
    has ∙ (ap channels_of (sym (eqb-true lent source served)) ∙ sym same)

shown_pair : (channels_of : ℕ → ℕ) (lent channels : ℕ) (regions : List RegionValue) (o : Option ImageValue)
    (rest : List MarkValue) → channels ≡ channels_of lent →
    AllByRecursion (HasChannels channels_of) (image_marks regions o (λ i. Pictured i) [] ++ rest) →
    (is_served (Some lent) (option_map_or (λ (image : ImageValue). image.source) o None) ≡ true →
    IfSome o (λ (image : ImageValue). ImageHasChannels (λ k. channels) image.channels image.source))
    × AllByRecursion (HasChannels channels_of) rest
shown_pair channels_of lent channels regions None rest same all = (λ served. tt, all)
shown_pair channels_of lent channels regions (Some image) rest same all =
    (λ served. own_suits channels_of lent channels image.channels image.source same served all.0, all.1)

masked_pair : (channels_of : ℕ → ℕ) (lent channels : ℕ) (regions : List RegionValue) (ink : Ink) (o : Option ImageValue)
    (rest : List MarkValue) → channels ≡ channels_of lent →
    AllByRecursion (HasChannels channels_of) (image_marks regions o (λ i. Masked i ink) [] ++ rest) →
    (is_served (Some lent) (option_map_or (λ (image : ImageValue). ink_source ink) o None) ≡ true →
    IfSome o (λ (image : ImageValue). InkHasChannels (λ k. channels) ink))
    × AllByRecursion (HasChannels channels_of) rest
masked_pair channels_of lent channels regions ink None rest same all = (λ served. tt, all)
masked_pair channels_of lent channels regions ink (Some image) rest same all =
    (λ served. ink_suits channels_of lent channels ink same served all.0, all.1)

cmd_suits : (channels_of : ℕ → ℕ) (lent channels : ℕ) (images : List ImageValue) (ink : Ink) (regions : List
    RegionValue)
    (cmd : CmdValue) (rest : List MarkValue) → channels ≡ channels_of lent →
    AllByRecursion (HasChannels channels_of) (cmd_marks images ink regions cmd ++ rest) →
    (is_served (Some lent) (cmd_source images ink cmd) ≡ true → CmdHasChannels (λ k. channels) images ink cmd)
    × AllByRecursion (HasChannels channels_of) rest
cmd_suits channels_of lent channels images ink regions (Inked other) rest same all = (λ served. tt, all)
cmd_suits channels_of lent channels images ink regions (Clipped other) rest same all = (λ served. tt, all)
cmd_suits channels_of lent channels images ink regions (Drawn rule shapes) rest same all =
    (λ served. ink_suits channels_of lent channels ink same served all.0, all.1)
cmd_suits channels_of lent channels images ink regions (Shown place) rest same all =
    shown_pair channels_of lent channels regions (slice_get images place) rest same all
cmd_suits channels_of lent channels images ink regions (ShownThrough place) rest same all =
    masked_pair channels_of lent channels regions ink (slice_get images place) rest same all

all_suit : (channels_of : ℕ → ℕ) (lent channels : ℕ) (images : List ImageValue) (ink : Ink) (clip : BandMaskValue)
    (cmds : List CmdValue) → channels ≡ channels_of lent →
    AllByRecursion (HasChannels channels_of) (marks_said images ink clip.regions cmds) →
    AllSuit (Some lent) channels images ink cmds
all_suit channels_of lent channels images ink clip [] same all = tt
all_suit channels_of lent channels images ink clip (cmd ∷ cmds) same all =
    let both = cmd_suits channels_of lent channels images ink clip.regions cmd
    (marks_said images (ink_after ink cmd) (clip_after clip cmd).regions cmds) same
    (subst (AllByRecursion (HasChannels channels_of)) (said_more images ink clip cmd cmds) all) in
    (both.0, all_suit channels_of lent channels images (ink_after ink cmd) (clip_after clip cmd) cmds same both.1)

all_behind : (P : MarkValue → Type 0) (xs ys : List MarkValue) → AllByRecursion P (xs ++ ys) → AllByRecursion P ys
all_behind P [] ys all = all
all_behind P (x ∷ xs) ys all = all_behind P xs ys all.1

-- what is left is servable by a loan whose codes have the channels of its source
pub servable_of : {D : Type 0} (dot : List ℕ → D) (depth : Depth) (tint : ℕ → CodeValue → List ℕ) (images : List
    ImageValue)
    (whole : List MarkValue) (met : List ℕ) (s : ℕ) (need : Option ℕ) (clip : BandMaskValue) (rows : List (List D))
    (ink : Ink) (rest : List ℕ) (channels_of : ℕ → ℕ) (channels : ℕ) → need ≡ Some s → channels ≡ channels_of s →
    All (HasChannels channels_of) whole → IsPlayed dot depth tint images whole met need clip rows ink rest →
    AreServable need channels images ink rest
servable_of dot depth tint images whole met s need clip rows ink rest channels_of channels is same all played =
    subst (λ (p : Option ℕ). AreServable p channels images ink rest) (sym is) (record {
      cmds = played.cmds;
      commands = played.commands;
      are = played.are;
      suit = all_suit channels_of s channels images ink clip played.cmds same
          (subst (AllByRecursion (HasChannels channels_of)) played.say
          (all_behind (HasChannels channels_of) played.shown played.left
          (subst (AllByRecursion (HasChannels channels_of)) played.parts (recursion_from_All (HasChannels channels_of)
          whole all))));
    })

-- sources of which the first is known
record Begins (k : ℕ) (xs : List ℕ) : Type 0 where
  rest : List ℕ
  is : xs ≡ k ∷ rest

by_test : (b : Bool) (k : ℕ) (xs ys : List ℕ) → Begins k xs → Begins k (cond b xs (k ∷ ys))
by_test true k xs ys h = h
by_test false k xs ys h = record { rest = ys; is = refl }

begins : (k : ℕ) (xs : List ℕ) → Begins k (dedup_from ◌==◌ k xs)
begins k [] = record { rest = []; is = refl }
begins k (x ∷ xs) = by_test (x == k) k (dedup_from ◌==◌ k xs) (dedup_from ◌==◌ x xs) (begins k xs)

-- the source that is needed next may be lent
pub known_next : (sources met : List ℕ) (whole left : List MarkValue) (s : ℕ) (need : Option ℕ) → need ≡ Some s →
    All (λ source. Contains sources source) (needs_of whole) → needs_of whole ≡ met ++ needs_from need left →
    Contains sources s
known_next sources met whole left s need same all needs =
    let first = begins s (filter_map mark_source left) in
    let is : needs_of whole ≡ met ++ (s ∷ first.rest) = needs
    ∙ (ap (λ (o : Option ℕ). met ++ needs_from o left) same ∙ ap (λ (xs : List ℕ). met ++ xs) first.is) in
    let long : length (met ++ (s ∷ first.rest)) ≡ length met + length (s ∷ first.rest) = length-append met (s ∷
    first.rest) in
    subst (Contains sources)
    (get_or-append_right met (s ∷ first.rest) (length met) (length met) s refl (omega arith)
    ∙ ap (λ n. get_or (s ∷ first.rest) n s) (let e : length met - length met ≡ 0 = omega arith in e))
    (subst (All (λ source. Contains sources source)) is all (length met) s (omega (arith, long)))

-- one need more is one of all
pub one_more : (met : List ℕ) (whole left : List MarkValue) (s : ℕ) (need : Option ℕ) → need ≡ Some s →
    needs_of whole ≡ met ++ needs_from need left → length met + 1 ≤ length (needs_of whole)
one_more met whole left s need same needs =
    let first = begins s (filter_map mark_source left) in
    let long : length (needs_of whole) ≡ length (met ++ needs_from (Some s) left) =
    ap length needs ∙ ap (λ (o : Option ℕ). length (met ++ needs_from o left)) same in
    let parts = length-append met (needs_from (Some s) left) in
    let some : length (needs_from (Some s) left) ≡ length (s ∷ first.rest) = ap length first.is in
    omega (arith, long, parts, some)

-- where there are no needs, none waits
pub waits_none : (met : List ℕ) (need : Option ℕ) (whole left : List MarkValue) → needs_of whole ≡ [] →
    needs_of whole ≡ met ++ needs_from need left → need ≡ None
waits_none met None whole left none needs = refl
waits_none met (Some s) whole left none needs =
    let first = begins s (filter_map mark_source left) in
    let empty : [] ≡ met ++ needs_from (Some s) left = sym none ∙ needs in
    let long : 0 ≡ length (met ++ needs_from (Some s) left) = ap length empty in
    let parts = length-append met (needs_from (Some s) left) in
    let some : length (needs_from (Some s) left) ≡ length (s ∷ first.rest) = ap length first.is in
    absurd (let e : ⊥ = omega (arith, long, parts, some) in e)

-- where no mark is left all needs were met
all_met : (met : List ℕ) (whole left : List MarkValue) → left ≡ [] → needs_of whole ≡ met ++ needs_from None left →
    needs_of whole ≡ met
unfolding needs_of
all_met met whole left none needs =
    needs ∙ (ap (λ (ms : List MarkValue). met ++ needs_from None ms) none ∙ append-nil met)

-- a list before its first command
pub opened : {D : Type 0} (dot : List ℕ → D) (depth : Depth) (tint : ℕ → CodeValue → List ℕ) (images : List ImageValue)
    (bytes : List ℕ) (s : AreSpellings bytes) (o : Option ℕ) (clip : BandMaskValue) (rows : List (List D)) (ink : Ink) →
    o ≡ None → clip.regions ≡ [] → ink ≡ opening.ink →
    ShowMarks dot depth tint clip.width clip.first clip.rows [] rows →
    IsPlayed dot depth tint images (list_marks images s.cmds) [] o clip rows ink bytes
opened {D} dot depth tint images bytes s o clip rows ink no_loan none gray show =
    subst (λ (p : Option ℕ). IsPlayed dot depth tint images (list_marks images s.cmds) [] p clip rows ink bytes) (sym
    no_loan)
    (record {
      shown = [];
      left = list_marks images s.cmds;
      parts = refl;
      show = show;
      cmds = s.cmds;
      commands = s.commands;
      are = s.are;
      say = ap (λ (rs : List RegionValue). marks_said images opening.ink rs s.cmds) (sym none)
          ∙ ap (λ (i : Ink). marks_said images i clip.regions s.cmds) (sym gray);
      needs = refl;
    })

lent_none : (o : Option (List ℕ)) → o ≡ option_map (λ (sources : List ℕ). sources ++ []) o
lent_none None = refl
lent_none (Some sources) = ap (λ (xs : List ℕ). Some xs) (sym (append-nil sources))

-- a list before the first loan
pub under_way : {D : Type 0} (dot : List ℕ → D) (depth : Depth) (tint : ℕ → CodeValue → List ℕ) (images : List
    ImageValue)
    (bytes : List ℕ) (lent : Option (List ℕ)) (tries : ℕ) (clip : BandMaskValue) (rows : List (List D)) (ink : Ink)
    (rest : List ℕ) (o need : Option ℕ) (whole : List MarkValue) → o ≡ None → SayMarks images bytes whole →
    HasPlayed dot depth tint images whole ([] ++ option_to_list o) need clip rows ink rest →
    IsUnderWay dot depth tint images bytes lent lent tries tries clip rows ink rest need
under_way {D} dot depth tint images bytes lent tries clip rows ink rest o need whole none says played = record {
  whole = whole;
  says = says;
  met = [];
  played = subst (λ (p : Option ℕ). HasPlayed dot depth tint images whole ([] ++ option_to_list p) need clip rows ink
      rest)
      none played;
  lent = lent_none lent;
  tries = omega arith;
}

-- no loan is asked what it gives where none is out
pub goes_none : (o : Option ℕ) (tint : ℕ → CodeValue → List ℕ) (colour : CodeValue → List ℕ) → o ≡ None →
    GoesBy o tint colour
goes_none None tint colour none = tt
goes_none (Some s) tint colour none = absurd cc

-- a loan gives what its source does
pub goes_some : (o : Option ℕ) (s : ℕ) (tint : ℕ → CodeValue → List ℕ) (colour : CodeValue → List ℕ) → o ≡ Some s →
    colour ≡ tint s → GoesBy o tint colour
goes_some o s tint colour is same = subst (λ (p : Option ℕ). GoesBy p tint colour) (sym is) same

lent_more : (before now : Option (List ℕ)) (met : List ℕ) (s : ℕ) →
    now ≡ option_map (λ (sources : List ℕ). sources ++ met) before →
    option_map (λ (sources : List ℕ). sources ++ s ∷ []) now
    ≡ option_map (λ (sources : List ℕ). sources ++ (met ++ s ∷ [])) before
lent_more None now met s is = ap (option_map (λ (sources : List ℕ). sources ++ s ∷ [])) is
lent_more (Some sources) now met s is = ap (option_map (λ (sources : List ℕ). sources ++ s ∷ [])) is
    ∙ ap (λ (xs : List ℕ). Some xs) (append_assoc sources met (s ∷ []))

-- a list after one loan more
pub further : {D : Type 0} (dot : List ℕ → D) (depth : Depth) (tint : ℕ → CodeValue → List ℕ) (images : List ImageValue)
    (bytes : List ℕ) (lent_before lent_now lent_next : Option (List ℕ)) (tries_before tries_now tries_next : ℕ)
    (clip clip_next : BandMaskValue) (rows rows_next : List (List D)) (ink ink_next : Ink) (rest rest_next : List ℕ)
    (s : ℕ) (need need_next : Option ℕ) → need ≡ Some s →
    (way : IsUnderWay dot depth tint images bytes lent_before lent_now tries_before tries_now clip rows ink rest need) →
    lent_next ≡ option_map (λ (sources : List ℕ). sources ++ s ∷ []) lent_now → tries_next ≡ tries_now + 1 →
    HasPlayed dot depth tint images way.whole (way.met ++ option_to_list need) need_next clip_next rows_next ink_next
    rest_next →
    IsUnderWay dot depth tint images bytes lent_before lent_next tries_before tries_next clip_next rows_next ink_next
    rest_next need_next
further {D} dot depth tint images bytes lent_before lent_now lent_next tries_before tries_now tries_next clip clip_next
    rows
    rows_next ink ink_next rest rest_next s need need_next is way lent tries played = record {
      whole = way.whole;
      says = way.says;
      met = way.met ++ s ∷ [];
      played = subst (λ (o : Option ℕ). HasPlayed dot depth tint images way.whole (way.met ++ option_to_list o)
          need_next
          clip_next rows_next ink_next rest_next) is played;
      lent = lent ∙ lent_more lent_before lent_now way.met s way.lent;
      tries = let long : length (way.met ++ s ∷ []) ≡ length way.met + length (s ∷ []) = length-append way.met (s ∷ [])
          in
          let so_far = way.tries in omega (arith, long, tries, so_far);
    }

same_size : {D : Type 0} (dot : List ℕ → D) (depth : Depth) (tint : ℕ → CodeValue → List ℕ) (start clip : BandMaskValue)
    (marks : List MarkValue) (rows : List (List D)) → clip ≡ record start { regions = clip.regions } →
    ShowMarks dot depth tint clip.width clip.first clip.rows marks rows →
    ShowMarks dot depth tint start.width start.first start.rows marks rows
same_size {D} dot depth tint start clip marks rows same show =
    subst (λ (c : BandMaskValue). ShowMarks dot depth tint c.width c.first c.rows marks rows) same show

-- a list that was played to its end shows all its marks
pub ended_shown : {D : Type 0} (dot : List ℕ → D) (depth : Depth) (tint : ℕ → CodeValue → List ℕ) (images : List
    ImageValue)
    (bytes : List ℕ) (lent_before lent_now : Option (List ℕ)) (tries_before tries_now : ℕ) (start clip : BandMaskValue)
    (rows : List (List D)) (ink : Ink) (rest : List ℕ) (need : Option ℕ) (marks : List MarkValue) → need ≡ None →
    clip ≡ record start { regions = clip.regions } → SayMarks images bytes marks →
    IsUnderWay dot depth tint images bytes lent_before lent_now tries_before tries_now clip rows ink rest need →
    ShowMarks dot depth tint start.width start.first start.rows marks rows
ended_shown {D} dot depth tint images bytes lent_before lent_now tries_before tries_now start clip rows ink rest need
    marks none
    same says way =
    same_size dot depth tint start clip marks rows same
    (subst (λ (ms : List MarkValue). ShowMarks dot depth tint clip.width clip.first clip.rows ms rows)
    (sym (way.played.played.parts ∙ (ap (λ (l : List MarkValue). way.played.played.shown ++ l) (way.played.ended none)
    ∙ append-nil way.played.played.shown)) ∙ said_once images bytes way.whole marks way.says says)
    way.played.played.show)

-- a list that was played to its end met all its needs
pub ended_met : {D : Type 0} (dot : List ℕ → D) (depth : Depth) (tint : ℕ → CodeValue → List ℕ) (images : List
    ImageValue)
    (bytes : List ℕ) (lent_before lent_now : Option (List ℕ)) (tries_before tries_now : ℕ) (clip : BandMaskValue)
    (rows : List (List D)) (ink : Ink) (rest : List ℕ) (need : Option ℕ) (marks : List MarkValue) → need ≡ None →
    SayMarks images bytes marks →
    (way : IsUnderWay dot depth tint images bytes lent_before lent_now tries_before tries_now clip rows ink rest need) →
    way.met ≡ needs_of marks
ended_met dot depth tint images bytes lent_before lent_now tries_before tries_now clip rows ink rest need marks none
    says way =
    sym (all_met way.met way.whole way.played.played.left (way.played.ended none) (way.played.played.needs
    ∙ ap (λ (o : Option ℕ). way.met ++ needs_from o way.played.played.left) none))
    ∙ ap needs_of (said_once images bytes way.whole marks way.says says)

-- the colours of a loan are those of its source, at either depth
pub goes_by : (depth : Depth) (colour wide : ℕ → CodeValue → List ℕ) (s : ℕ) (lent_colour lent_wide : CodeValue → List
    ℕ) →
    lent_colour ≡ colour s → lent_wide ≡ wide s → lent_at depth lent_colour lent_wide ≡ tint_at depth colour wide s
goes_by Eight colour wide s lent_colour lent_wide narrow broad = narrow
goes_by Sixteen colour wide s lent_colour lent_wide narrow broad = broad

-- white rows of a band
pub white_band : {D : Type 0} (dot : List ℕ → D) (depth : Depth) (width first count : ℕ) (clip : BandMaskValue)
    (rows : List (List D)) → clip ≡ record { width = width; first = first; rows = count; regions = [] } →
    rows ≡ replicate count (replicate width (dot (white depth))) → (tint : ℕ → CodeValue → List ℕ) →
    ShowMarks dot depth tint clip.width clip.first clip.rows [] rows
white_band {D} dot depth width first count clip rows same is tint =
    subst (λ (c : BandMaskValue). ShowMarks dot depth tint c.width c.first c.rows [] rows) (sym same)
    (shows_none dot depth tint width first count (dot (white depth)) rows refl is)

-- the dots of a band whose marks are shown
pub band_done : {D : Type 0} (dot : List ℕ → D) (bytes : D → List ℕ) (depth : Depth) (colour wide : ℕ → CodeValue →
    List ℕ)
    (parts : PagePartsValue) (band : ℕ) (start clip : BandMaskValue) (marks : List MarkValue) (rows : List (List D))
    (done : BandDotsValue) → ((c : List ℕ) → bytes (dot c) ≡ dot_bytes depth c) → parts.depth ≡ depth →
    start ≡ record {
      width = parts.width;
      first = band * parts.band;
      rows = rows_of_band parts.height parts.band band;
      regions = [];
    } → clip ≡ record start { regions = clip.regions } →
    ShowMarks dot depth (tint_at depth colour wide) start.width start.first start.rows marks rows →
    done ≡ record { band = band; rows = clip.rows; dots = flat_map (flat_map bytes) rows } →
    done ≡ dots_of (tint_at parts.depth colour wide) parts band marks
unfolding dots_of
band_done {D} dot bytes depth colour wide parts band start clip marks rows done known deep begun same shown is =
    is ∙ (ap (λ n. dots_with band n (flat_map (flat_map bytes) rows)) count
    ∙ ap (λ (text : List ℕ). dots_with band (rows_of_band parts.height parts.band band) text) (text_is
    ∙ ap (λ (d : Depth). rows_text d (tint_at d colour wide) parts.width (band * parts.band)
    (rows_of_band parts.height parts.band band) marks) (sym deep)))
  where
    dots_with : ℕ → ℕ → List ℕ → BandDotsValue
    dots_with b n text = record { band = b; rows = n; dots = text }

    count : clip.rows ≡ rows_of_band parts.height parts.band band
    count = ap (λ (c : BandMaskValue). c.rows) same ∙ ap (λ (c : BandMaskValue). c.rows) begun

    here : ShowMarks dot depth (tint_at depth colour wide) parts.width (band * parts.band)
        (rows_of_band parts.height parts.band band) marks rows
    here = subst (λ (c : BandMaskValue). ShowMarks dot depth (tint_at depth colour wide) c.width c.first c.rows marks
        rows)
        begun shown

    text_is : flat_map (flat_map bytes) rows ≡ rows_text depth (tint_at depth colour wide) parts.width (band *
        parts.band)
        (rows_of_band parts.height parts.band band) marks
    text_is = rows_bytes dot bytes depth (tint_at depth colour wide) parts.width (band * parts.band)
        (rows_of_band parts.height parts.band band) marks rows known here

-- the clip keeps the band's size from one loan to the next
pub clip_twice : (start old new : BandMaskValue) → new ≡ record old { regions = new.regions } →
    old ≡ record start { regions = old.regions } → new ≡ record start { regions = new.regions }
clip_twice start old new is kept = is ∙ ap (λ (c : BandMaskValue). sized c) kept
  where
    sized : BandMaskValue → BandMaskValue
    sized c = record { width = c.width; first = c.first; rows = c.rows; regions = new.regions }

-- what holds in any case holds after a refusal
pub on_err : {A E : Type 0} (result : Result A E) (P : Type 0) → P → OnErr result P
on_err (Ok a) P p = tt
on_err (Err e) P p = p

-- a loan is asked no more often than there are needs
pub few_more : (before now next : ℕ) (met : List ℕ) (whole marks left : List MarkValue) (s : ℕ) (need : Option ℕ) →
    need ≡ Some s → next ≡ now + 1 → now ≡ before + length met → needs_of whole ≡ met ++ needs_from need left →
    whole ≡ marks → next ≤ before + length (needs_of marks)
few_more before now next met whole marks left s need is asked so_far needs same =
    let one = one_more met whole left s need is needs in
    let long = ap (λ (ms : List MarkValue). length (needs_of ms)) same in
    omega (arith, one, long, asked, so_far)

-- what bytes say, told by equal images and bytes
pub says_of : (images seen : List ImageValue) (bytes read : List ℕ) (marks : List MarkValue) → seen ≡ images → read ≡
    bytes →
    SayMarks seen read marks → SayMarks images bytes marks
says_of images seen bytes read marks same_images same_bytes says =
    subst (λ (is : List ImageValue). SayMarks is bytes marks) same_images
    (subst (λ (b : List ℕ). SayMarks seen b marks) same_bytes says)

-- what was asked just so often was asked no more often
pub asked_all : (before now count : ℕ) → now ≡ before + count → now ≤ before + count
asked_all before now count asked = omega (arith, asked)
