-- A list that is played in part: a command more, a stop, and the end.
use Rattle.std.proofs.Common.{◌≡◌, ◌∙◌, ap, sym, subst, refl, inl, inr, ◌⊎◌, ℕ, suc, ◌+◌, ◌<◌, ◌≤◌, Bool, true, false}
use Rattle.std.proofs.Common.{cond}
use Rattle.std.proofs.Common.{List, [], ◌∷◌, ◌++◌, length, take, drop, Option, Some, None, arith, append_assoc}
use Rattle.std.specs.Prelude.{◌==◌, IfSome, reverse}
use Rattle.std.specs.Option.{option_map_or, option_to_list}
use Rattle.std.specs.List.{AllByRecursion, filter_map, cons_option, dedup, dedup_from, slice_get}
use Rattle.std.proofs.lemmas.Bool.{eqb-true, eqb-false, eq-eqb, ne_eqb}
use Rattle.std.proofs.lemmas.List.{take-append-drop, length-take, length-drop, append-nil}
use Rattle.press_fault.specs.Plane.{CodeValue}
use Rattle.page_model.specs.Image.{ImageValue}
use Rattle.page_model.specs.Marking.{RegionValue, MarkValue, PaintValue, Flatly, Pictured, Masked}
use Rattle.page_model.specs.Page.{ink_source}
use Rattle.page_model.specs.declared.page.Depth.{Depth}
use Rattle.page_model.specs.declared.mark.Ink.{Ink}
use Rattle.geo_clip.specs.Mask.{BandMaskValue}
use Rattle.list_codec.specs.Command.{CmdValue, IsCmd, Inked, Clipped, Drawn, Pictured as Shown, Masked as ShownThrough}
use Rattle.list_codec.specs.Spelling.{cmd_bytes}
use Rattle.list_codec.specs.Lists.{IsFront, HasNoFront}
use Rattle.list_codec.proofs.Commands.{one_front}
use Rattle.band_writer.specs.Bands.{mark_source, needs_of}
use Rattle.band_writer.specs.Listing.{spelled}
use Rattle.band_writer.specs.Said.{said_mark, image_marks, marks_said}
use Rattle.list_player.specs.Painting.{ArePainted, AreWide, IsBand}
use Rattle.list_player.specs.Code.Steps.{lent_at, loan_tint, marks_dot, ShowMarks, ink_after, clip_after, cmd_marks}
use Rattle.list_player.specs.Code.Steps.{cmd_source, is_served, CmdHasChannels, AllSuit, AreServable, NeedsNow, GoesBy}
use Rattle.list_player.specs.Code.Steps.{needs_from, IsPlayed, HasPlayed, awaited}
use Rattle.list_player.proofs.Drawn.{shows_more}
use Rattle.list_player.proofs.Bands.{still_band}
use Rattle.list_player.proofs.Steps.{repainted, cmd_agrees}

-- a spelling isn't empty
pub cmd_long : (cmd : CmdValue) → 0 < length (cmd_bytes cmd)
unfolding cmd_bytes
cmd_long (Inked ink) = omega arith
cmd_long (Clipped regions) = omega arith
cmd_long (Drawn rule shapes) = omega arith
cmd_long (Shown place) = omega arith
cmd_long (ShownThrough place) = omega arith

-- bytes are the spelling at their front and the rest
front_of : (bytes : List ℕ) (cmd : CmdValue) (count : ℕ) → IsFront bytes cmd count →
    cmd_bytes cmd ++ drop count bytes ≡ bytes
front_of bytes cmd count front =
    ap (λ (t : List ℕ). t ++ drop count bytes) (sym front.spelled) ∙ take-append-drop count bytes

-- fewer bytes are left behind a command
pub front_shorter : (bytes : List ℕ) (cmd : CmdValue) (count : ℕ) → IsFront bytes cmd count →
    length (drop count bytes) < length bytes
front_shorter bytes cmd count front =
    let long : length (take count bytes) ≡ length (cmd_bytes cmd) = ap length front.spelled in
    let some = cmd_long cmd in
    omega (arith, length-take count bytes, length-drop count bytes, front.inside, long, some)

-- commands that begin with one, behind which these bytes are left
pub record StartsWith (cmd : CmdValue) (after : List ℕ) (cmds : List CmdValue) : Type 0 where
  pub rest : List CmdValue
  pub is : cmds ≡ cmd ∷ rest
  pub are : after ≡ spelled rest

-- commands begin with the one at the front of their bytes
starts : (bytes : List ℕ) (cmd : CmdValue) (count : ℕ) (cmds : List CmdValue) → AllByRecursion IsCmd cmds →
    bytes ≡ spelled cmds → IsFront bytes cmd count → StartsWith cmd (drop count bytes) cmds
unfolding spelled
starts bytes cmd count [] fits are front =
    let short = front_shorter bytes cmd count front in
    let none : length bytes ≡ 0 = ap length are in
    absurd (let e : ⊥ = omega (arith, short, none) in e)
starts bytes cmd count (c ∷ cmds) fits are front =
    let one = one_front cmd c (drop count bytes) (spelled cmds) front.command fits.0 (front_of bytes cmd count front ∙
    are) in
    record { rest = cmds; is = ap (λ (x : CmdValue). x ∷ cmds) (sym one.0); are = one.1 }

-- no commands are left where none is at the front
none_left : (bytes : List ℕ) (cmds : List CmdValue) → AllByRecursion IsCmd cmds → bytes ≡ spelled cmds → HasNoFront
    bytes →
    cmds ≡ []
unfolding spelled
none_left bytes [] fits are none = refl
none_left bytes (c ∷ cmds) fits are none = absurd (none c (spelled cmds) fits.0 are)

-- one command at most is at the front
same_front : (bytes : List ℕ) (a b : CmdValue) (n m : ℕ) → IsFront bytes a n → IsFront bytes b m → a ≡ b
same_front bytes a b n m one other =
    (one_front a b (drop n bytes) (drop m bytes) one.command other.command
    (front_of bytes a n one ∙ sym (front_of bytes b m other))).0

-- the marks of one command and of those behind it
image_more : (regions : List RegionValue) (o : Option ImageValue) (paint : ImageValue → PaintValue) (rest : List
    MarkValue) →
    image_marks regions o paint rest ≡ image_marks regions o paint [] ++ rest
image_more regions None paint rest = refl
image_more regions (Some image) paint rest = refl

-- the marks of a command more
pub said_more : (images : List ImageValue) (ink : Ink) (clip : BandMaskValue) (cmd : CmdValue) (cmds : List CmdValue) →
    marks_said images ink clip.regions (cmd ∷ cmds)
    ≡ cmd_marks images ink clip.regions cmd ++ marks_said images (ink_after ink cmd) (clip_after clip cmd).regions cmds
unfolding marks_said
said_more images ink clip (Inked other) cmds = refl
said_more images ink clip (Clipped other) cmds = refl
said_more images ink clip (Drawn rule shapes) cmds = refl
said_more images ink clip (Shown place) cmds = image_more clip.regions (slice_get images place) (λ i. Pictured i) _
said_more images ink clip (ShownThrough place) cmds = image_more clip.regions (slice_get images place) (λ i. Masked i
    ink) _

-- the sources of the mark of a command and of those behind it
image_source : (regions : List RegionValue) (o : Option ImageValue) (left : List MarkValue) →
    filter_map mark_source (image_marks regions o (λ i. Pictured i) [] ++ left)
    ≡ cons_option (option_map_or (λ (image : ImageValue). image.source) o None) (filter_map mark_source left)
image_source regions None left = refl
image_source regions (Some image) left = refl

mask_source : (regions : List RegionValue) (ink : Ink) (o : Option ImageValue) (left : List MarkValue) →
    filter_map mark_source (image_marks regions o (λ i. Masked i ink) [] ++ left)
    ≡ cons_option (option_map_or (λ (image : ImageValue). ink_source ink) o None) (filter_map mark_source left)
mask_source regions ink None left = refl
mask_source regions ink (Some image) left = refl

sources_more : (images : List ImageValue) (ink : Ink) (regions : List RegionValue) (cmd : CmdValue) (left : List
    MarkValue) →
    filter_map mark_source (cmd_marks images ink regions cmd ++ left)
    ≡ cons_option (cmd_source images ink cmd) (filter_map mark_source left)
sources_more images ink regions (Inked other) left = refl
sources_more images ink regions (Clipped other) left = refl
sources_more images ink regions (Drawn rule shapes) left = refl
sources_more images ink regions (Shown place) left = image_source regions (slice_get images place) left
sources_more images ink regions (ShownThrough place) left = mask_source regions ink (slice_get images place) left

-- the needs of sources from a loan on
abbrev pub needs_list : Option ℕ → List ℕ → List ℕ
needs_list None xs = dedup ◌==◌ xs
needs_list (Some source) xs = dedup_from ◌==◌ source xs

needs_are : (source : Option ℕ) (marks : List MarkValue) → needs_from source marks ≡ needs_list source (filter_map
    mark_source marks)
unfolding needs_of
needs_are None marks = refl
needs_are (Some source) marks = refl

itself : (n : ℕ) → (n == n) ≡ true
itself n = eq-eqb n n refl

-- a command that the loan serves needs no other
served_needs : (source need : Option ℕ) (xs : List ℕ) → is_served source need ≡ true →
    needs_list source (cons_option need xs) ≡ needs_list source xs
served_needs source None xs served = refl
served_needs None (Some s) xs served = absurd cc
served_needs (Some lent) (Some s) xs served =
    ap (λ b. cond b (dedup_from ◌==◌ lent xs) (lent ∷ dedup_from ◌==◌ s xs)) (eq-eqb s lent (sym (eqb-true lent s
    served)))

turned : (a b : ℕ) → (a == b) ≡ false → (b == a) ≡ false
turned a b other = ne_eqb b a (λ same. eqb-false a b other (sym same))

-- a command that the loan doesn't serve needs one more
other_needs : (source : Option ℕ) (s : ℕ) (xs : List ℕ) → is_served source (Some s) ≡ false →
    needs_list source (s ∷ xs) ≡ option_to_list source ++ needs_list (Some s) (s ∷ xs)
other_needs None s xs other = sym (ap (λ b. cond b (dedup_from ◌==◌ s xs) (s ∷ dedup_from ◌==◌ s xs)) (itself s))
other_needs (Some lent) s xs other =
    ap (λ b. cond b (dedup_from ◌==◌ lent xs) (lent ∷ dedup_from ◌==◌ s xs)) (turned lent s other)
    ∙ ap (λ (l : List ℕ). lent ∷ l)
    (sym (ap (λ b. cond b (dedup_from ◌==◌ s xs) (s ∷ dedup_from ◌==◌ s xs)) (itself s)))

-- where nothing is left the loan's source is the last
last_needs : (source : Option ℕ) → needs_list source [] ≡ option_to_list source ++ []
last_needs None = refl
last_needs (Some source) = refl

-- a clip keeps the band's size
pub clip_kept : (clip : BandMaskValue) (cmd : CmdValue) →
    clip_after clip cmd ≡ record clip { regions = (clip_after clip cmd).regions }
clip_kept clip (Inked other) = refl
clip_kept clip (Clipped other) = refl
clip_kept clip (Drawn rule shapes) = refl
clip_kept clip (Shown place) = refl
clip_kept clip (ShownThrough place) = refl

-- rows are still those of the band
pub band_after : {D : Type 0} (clip : BandMaskValue) (cmd : CmdValue) (rows : List (List D)) → IsBand clip rows →
    IsBand (clip_after clip cmd) rows
band_after clip (Inked other) rows band = band
band_after clip (Clipped other) rows band =
    record { size = band.size; wide = band.wide; numbered = band.numbered; narrow = band.narrow }
band_after clip (Drawn rule shapes) rows band = band
band_after clip (Shown place) rows band = band
band_after clip (ShownThrough place) rows band = band

show_after : {D : Type 0} (dot : List ℕ → D) (depth : Depth) (tint : ℕ → CodeValue → List ℕ) (clip : BandMaskValue)
    (cmd : CmdValue) (shown : List MarkValue) (rows : List (List D)) →
    ShowMarks dot depth tint clip.width clip.first clip.rows shown rows →
    ShowMarks dot depth tint (clip_after clip cmd).width (clip_after clip cmd).first (clip_after clip cmd).rows shown
    rows
show_after dot depth tint clip (Inked other) shown rows show = show
show_after dot depth tint clip (Clipped other) shown rows show = show
show_after dot depth tint clip (Drawn rule shapes) shown rows show = show
show_after dot depth tint clip (Shown place) shown rows show = show
show_after dot depth tint clip (ShownThrough place) shown rows show = show

-- what is left, by its first command
left_is : (images : List ImageValue) (ink : Ink) (clip : BandMaskValue) (cmd : CmdValue) (after : List ℕ)
    (cmds : List CmdValue) (left : List MarkValue) → left ≡ marks_said images ink clip.regions cmds →
    (s : StartsWith cmd after cmds) →
    left ≡ cmd_marks images ink clip.regions cmd ++ marks_said images (ink_after ink cmd) (clip_after clip cmd).regions
    s.rest
left_is images ink clip cmd after cmds left say s =
    say ∙ (ap (marks_said images ink clip.regions) s.is ∙ said_more images ink clip cmd s.rest)

-- a command that the loan serves was played
pub plays_step : {D : Type 0} (dot : List ℕ → D) (depth : Depth) (tint : ℕ → CodeValue → List ℕ)
    (colour wide : CodeValue → List ℕ) (images : List ImageValue) (whole : List MarkValue) (met : List ℕ)
    (source : Option ℕ) (clip : BandMaskValue) (rows news : List (List D)) (ink : Ink) (bytes : List ℕ) (cmd : CmdValue)
    (count : ℕ) → is_served source (cmd_source images ink cmd) ≡ true → GoesBy source tint (lent_at depth colour wide) →
    IsFront bytes cmd count →
    ArePainted clip.first clip.rows
    (marks_dot dot depth (loan_tint depth colour wide) (cmd_marks images ink clip.regions cmd)) rows news →
    IsPlayed dot depth tint images whole met source clip rows ink bytes →
    IsPlayed dot depth tint images whole met source (clip_after clip cmd) news (ink_after ink cmd) (drop count bytes)
plays_step {D} dot depth tint colour wide images whole met source clip rows news ink bytes cmd count served goes front
    painted
    played =
    let s = starts bytes cmd count played.cmds played.commands played.are front in
    let left = left_is images ink clip cmd (drop count bytes) played.cmds played.left played.say s in
    let marks : List MarkValue = cmd_marks images ink clip.regions cmd in
    let rest : List MarkValue = marks_said images (ink_after ink cmd) (clip_after clip cmd).regions s.rest in
    record {
      shown = played.shown ++ marks;
      left = rest;
      parts = played.parts ∙ (ap (λ (l : List MarkValue). played.shown ++ l) left ∙ sym (append_assoc played.shown
          marks rest));
      show = show_after dot depth tint clip cmd (played.shown ++ marks) news
          (shows_more dot depth tint clip.width clip.first clip.rows played.shown marks rows news played.show
          (repainted clip.first clip.rows _ (marks_dot dot depth tint marks) rows news
          (cmd_agrees dot depth tint colour wide source images ink clip.regions cmd served goes) painted));
      cmds = s.rest;
      commands = (subst (AllByRecursion IsCmd) s.is played.commands).1;
      are = s.are;
      say = refl;
      needs = played.needs ∙ ap (λ (ns : List ℕ). met ++ ns) (needs_are source played.left
          ∙ (ap (λ (l : List MarkValue). needs_list source (filter_map mark_source l)) left
          ∙ (ap (needs_list source) (sources_more images ink clip.regions cmd rest)
          ∙ (served_needs source (cmd_source images ink cmd) (filter_map mark_source rest) served
          ∙ sym (needs_are source rest)))));
    }

-- the needs where a command waits for another loan
stop_needs : {D : Type 0} (dot : List ℕ → D) (depth : Depth) (tint : ℕ → CodeValue → List ℕ) (images : List ImageValue)
    (whole : List MarkValue) (met : List ℕ) (source : Option ℕ) (clip : BandMaskValue) (rows : List (List D)) (ink :
    Ink)
    (bytes : List ℕ) (cmd : CmdValue) (count s : ℕ) → Some s ≡ cmd_source images ink cmd →
    is_served source (Some s) ≡ false → IsFront bytes cmd count →
    (played : IsPlayed dot depth tint images whole met source clip rows ink bytes) →
    needs_of whole ≡ (met ++ option_to_list source) ++ needs_from (Some s) played.left
stop_needs dot depth tint images whole met source clip rows ink bytes cmd count s need other front played =
    let begins = starts bytes cmd count played.cmds played.commands played.are front in
    let left = left_is images ink clip cmd (drop count bytes) played.cmds played.left played.say begins in
    let rest : List MarkValue = marks_said images (ink_after ink cmd) (clip_after clip cmd).regions begins.rest in
    let sources : filter_map mark_source played.left ≡ s ∷ filter_map mark_source rest =
    ap (filter_map mark_source) left ∙ (sources_more images ink clip.regions cmd rest
    ∙ ap (λ (o : Option ℕ). cons_option o (filter_map mark_source rest)) (sym need)) in
    played.needs ∙ (ap (λ (ns : List ℕ). met ++ ns) (needs_are source played.left
    ∙ (ap (needs_list source) sources
    ∙ (other_needs source s (filter_map mark_source rest) other
    ∙ ap (λ (xs : List ℕ). option_to_list source ++ xs) (sym (needs_are (Some s) played.left
    ∙ ap (needs_list (Some s)) sources)))))
    ∙ sym (append_assoc met (option_to_list source) (needs_from (Some s) played.left)))

-- a command waits for another loan
pub plays_stop : {D : Type 0} (dot : List ℕ → D) (depth : Depth) (tint : ℕ → CodeValue → List ℕ) (images : List
    ImageValue)
    (whole : List MarkValue) (met : List ℕ) (source need : Option ℕ) (clip : BandMaskValue) (rows : List (List D)) (ink
    : Ink)
    (bytes : List ℕ) (cmd : CmdValue) (count : ℕ) → need ≡ cmd_source images ink cmd →
    is_served source need ≡ false → IsFront bytes cmd count →
    IsPlayed dot depth tint images whole met source clip rows ink bytes →
    HasPlayed dot depth tint images whole (met ++ option_to_list source) need clip rows ink bytes
plays_stop dot depth tint images whole met source None clip rows ink bytes cmd count is other front played = absurd cc
plays_stop dot depth tint images whole met source (Some s) clip rows ink bytes cmd count is other front played =
    record {
      played = record {
        shown = played.shown;
        left = played.left;
        parts = played.parts;
        show = played.show;
        cmds = played.cmds;
        commands = played.commands;
        are = played.are;
        say = played.say;
        needs = stop_needs dot depth tint images whole met source clip rows ink bytes cmd count s is other front played;
      };
      ended = λ none. absurd cc;
    }

-- no command is left
pub plays_end : {D : Type 0} (dot : List ℕ → D) (depth : Depth) (tint : ℕ → CodeValue → List ℕ) (images : List
    ImageValue)
    (whole : List MarkValue) (met : List ℕ) (source : Option ℕ) (clip : BandMaskValue) (rows : List (List D)) (ink :
    Ink)
    (bytes : List ℕ) → HasNoFront bytes → IsPlayed dot depth tint images whole met source clip rows ink bytes →
    HasPlayed dot depth tint images whole (met ++ option_to_list source) None clip rows ink bytes
unfolding marks_said
plays_end dot depth tint images whole met source clip rows ink bytes none played =
    let left : played.left ≡ [] = played.say ∙ ap (marks_said images ink clip.regions)
    (none_left bytes played.cmds played.commands played.are none) in
    let nothing : (o : Option ℕ) → needs_from o played.left ≡ needs_list o [] = λ o. needs_are o played.left
    ∙ ap (λ (l : List MarkValue). needs_list o (filter_map mark_source l)) left in
    record {
      played = record {
        shown = played.shown;
        left = played.left;
        parts = played.parts;
        show = played.show;
        cmds = played.cmds;
        commands = played.commands;
        are = played.are;
        say = played.say;
        needs = played.needs ∙ (ap (λ (ns : List ℕ). met ++ ns) (nothing source ∙ (last_needs source
            ∙ ap (λ (xs : List ℕ). option_to_list source ++ xs) (sym (nothing None))))
            ∙ sym (append_assoc met (option_to_list source) (needs_from None played.left)));
      };
      ended = λ e. left;
    }

-- the commands behind one are servable too
pub servable_step : (source : Option ℕ) (channels : ℕ) (images : List ImageValue) (ink : Ink) (bytes : List ℕ)
    (cmd : CmdValue) (count : ℕ) → AreServable source channels images ink bytes → IsFront bytes cmd count →
    AreServable source channels images (ink_after ink cmd) (drop count bytes)
servable_step source channels images ink bytes cmd count all front =
    let s = starts bytes cmd count all.cmds all.commands all.are front in record {
      cmds = s.rest;
      commands = (subst (AllByRecursion IsCmd) s.is all.commands).1;
      are = s.are;
      suit = (subst (AllSuit source channels images ink) s.is all.suit).1;
    }

-- the codes of a command that is served have the loan's channels
pub suits_cmd : (source : Option ℕ) (channels : ℕ) (images : List ImageValue) (ink : Ink) (bytes : List ℕ)
    (cmd : CmdValue) (count : ℕ) → AreServable source channels images ink bytes → IsFront bytes cmd count →
    is_served source (cmd_source images ink cmd) ≡ true → CmdHasChannels (λ k. channels) images ink cmd
suits_cmd source channels images ink bytes cmd count all front =
    let s = starts bytes cmd count all.cmds all.commands all.are front in
    (subst (AllSuit source channels images ink) s.is all.suit).0

-- the command that waits needs its source
pub next_need : (images : List ImageValue) (ink : Ink) (bytes : List ℕ) (need : Option ℕ) (cmd : CmdValue) (count : ℕ) →
    need ≡ cmd_source images ink cmd → IsFront bytes cmd count → NeedsNow images ink bytes need
next_need images ink bytes None cmd count is front = tt
next_need images ink bytes (Some s) cmd count is front = λ other m at.
    ap (cmd_source images ink) (same_front bytes other cmd m count at front) ∙ sym is

-- at a stop fewer bytes are left than the loan was given
pub less_stop : (source need : Option ℕ) (given rest : List ℕ) (first ink : Ink) (images : List ImageValue) (cmd :
    CmdValue)
    (count : ℕ) → ((rest ≡ given) × (ink ≡ first)) ⊎ (length rest < length given) → NeedsNow images first given source →
    need ≡ cmd_source images ink cmd → is_served source need ≡ false → IsFront rest cmd count →
    IfSome source (λ lent. length rest + awaited need < length given + 1)
less_stop None need given rest first ink images cmd count moved now is other front = tt
less_stop (Some lent) None given rest first ink images cmd count moved now is other front = absurd cc
less_stop (Some lent) (Some s) given rest first ink images cmd count (inr less) now is other front = omega (arith, less)
less_stop (Some lent) (Some s) given rest first ink images cmd count (inl same) now is other front =
    let need = now cmd count (subst (λ (b : List ℕ). IsFront b cmd count) same.0 front) in
    let own : Some s ≡ Some lent = is ∙ (ap (λ (i : Ink). cmd_source images i cmd) same.1 ∙ need) in
    let served : is_served (Some lent) (Some s) ≡ true =
    ap (λ (o : Option ℕ). is_served (Some lent) o) own ∙ itself lent in
    absurd (let e : ⊥ = cc in e)

-- at the end no more bytes are left than the loan was given
pub less_end : (source : Option ℕ) (given rest : List ℕ) (first ink : Ink) →
    ((rest ≡ given) × (ink ≡ first)) ⊎ (length rest < length given) →
    IfSome source (λ lent. length rest + awaited None < length given + 1)
less_end None given rest first ink moved = tt
less_end (Some lent) given rest first ink (inr less) = omega (arith, less)
less_end (Some lent) given rest first ink (inl same) = let long = ap length same.0 in omega (arith, long)

-- a command more was moved over
pub moved_on : (given rest : List ℕ) (first ink next : Ink) (cmd : CmdValue) (count : ℕ) →
    ((rest ≡ given) × (ink ≡ first)) ⊎ (length rest < length given) → IsFront rest cmd count →
    length (drop count rest) < length given
moved_on given rest first ink next cmd count (inl same) front =
    let short = front_shorter rest cmd count front in let long = ap length same.0 in omega (arith, short, long)
moved_on given rest first ink next cmd count (inr less) front =
    let short = front_shorter rest cmd count front in omega (arith, short, less)

-- the clip keeps the band's size behind a command
pub clip_more : (start old new : BandMaskValue) (cmd : CmdValue) → new ≡ clip_after old cmd →
    old ≡ record start { regions = old.regions } → new ≡ record start { regions = new.regions }
clip_more start old new cmd is kept = is ∙ (clip_kept old cmd
    ∙ (ap (λ (c : BandMaskValue). sized c (clip_after old cmd).regions) kept
    ∙ ap (sized start) (sym (ap (λ (c : BandMaskValue). c.regions) is))))
  where
    sized : BandMaskValue → List RegionValue → BandMaskValue
    sized c regions = record { width = c.width; first = c.first; rows = c.rows; regions = regions }

-- the rows are those of the band behind a command
pub band_more : {D : Type 0} (clip next : BandMaskValue) (cmd : CmdValue) (first n : ℕ) (p : ℕ → ℕ → Option D)
    (rows news : List (List D)) → next ≡ clip_after clip cmd → IsBand clip rows → ArePainted first n p rows news →
    IsBand next news
band_more {D} clip next cmd first n p rows news is band painted =
    subst (λ (c : BandMaskValue). IsBand c news) (sym is)
    (band_after clip cmd news (still_band clip first n p rows news band painted))

-- the commands behind one, told by what holds then
pub servable_more : (source : Option ℕ) (channels : ℕ) (images : List ImageValue) (ink next : Ink) (bytes after : List
    ℕ)
    (cmd : CmdValue) (count : ℕ) → next ≡ ink_after ink cmd → after ≡ drop count bytes →
    AreServable source channels images ink bytes → IsFront bytes cmd count →
    AreServable source channels images next after
servable_more source channels images ink next bytes after cmd count holds left all front =
    subst (λ (i : Ink). AreServable source channels images i after) (sym holds)
    (subst (λ (b : List ℕ). AreServable source channels images (ink_after ink cmd) b) (sym left)
    (servable_step source channels images ink bytes cmd count all front))

-- a command that the loan serves was played, told by what holds then
pub plays_more : {D : Type 0} (dot : List ℕ → D) (depth : Depth) (tint : ℕ → CodeValue → List ℕ)
    (colour wide : CodeValue → List ℕ) (images : List ImageValue) (whole : List MarkValue) (met : List ℕ)
    (source : Option ℕ) (clip clip_next : BandMaskValue) (rows news : List (List D)) (ink ink_next : Ink)
    (bytes after : List ℕ) (cmd : CmdValue) (count : ℕ) → clip_next ≡ clip_after clip cmd → ink_next ≡ ink_after ink
    cmd →
    after ≡ drop count bytes → is_served source (cmd_source images ink cmd) ≡ true →
    GoesBy source tint (lent_at depth colour wide) → IsFront bytes cmd count →
    ArePainted clip.first clip.rows
    (marks_dot dot depth (loan_tint depth colour wide) (cmd_marks images ink clip.regions cmd)) rows news →
    IsPlayed dot depth tint images whole met source clip rows ink bytes →
    IsPlayed dot depth tint images whole met source clip_next news ink_next after
plays_more {D} dot depth tint colour wide images whole met source clip clip_next rows news ink ink_next bytes after cmd
    count
    cut holds left served goes front painted played =
    subst (λ (c : BandMaskValue). IsPlayed dot depth tint images whole met source c news ink_next after) (sym cut)
    (subst (λ (i : Ink). IsPlayed dot depth tint images whole met source (clip_after clip cmd) news i after) (sym holds)
    (subst (λ (b : List ℕ). IsPlayed dot depth tint images whole met source (clip_after clip cmd) news (ink_after ink
    cmd) b)
    (sym left)
    (plays_step dot depth tint colour wide images whole met source clip rows news ink bytes cmd count served goes front
    painted played)))

-- no command is left, and no loan is waited for
pub plays_ended : {D : Type 0} (dot : List ℕ → D) (depth : Depth) (tint : ℕ → CodeValue → List ℕ) (images : List
    ImageValue)
    (whole : List MarkValue) (met : List ℕ) (source need : Option ℕ) (clip : BandMaskValue) (rows : List (List D)) (ink
    : Ink)
    (bytes : List ℕ) → need ≡ None → HasNoFront bytes →
    IsPlayed dot depth tint images whole met source clip rows ink bytes →
    HasPlayed dot depth tint images whole (met ++ option_to_list source) need clip rows ink bytes
plays_ended {D} dot depth tint images whole met source need clip rows ink bytes free none played =
    subst (λ (o : Option ℕ). HasPlayed dot depth tint images whole (met ++ option_to_list source) o clip rows ink bytes)
    (sym free) (plays_end dot depth tint images whole met source clip rows ink bytes none played)
